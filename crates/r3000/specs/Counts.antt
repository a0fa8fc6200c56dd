-- The counts of a core. Assumes nothing.
use Rattle.std.specs.Prelude.{◌+◌, Bool, true, false}
use Rattle.r3000.specs.declared.report.Report.{Report}

abbrev pub zero_counts : Report
zero_counts = record { cycles = 0; frozen = 0; boundaries = 0; place = 0 }

-- the counts after a cycle, by whether it was frozen and whether its row ends a path
abbrev pub report_after : Bool → Bool → Report → Report
report_after true last n =
    record { cycles = n.cycles + 1; frozen = n.frozen + 1; boundaries = n.boundaries; place = n.place }
report_after false true n =
    record { cycles = n.cycles + 1; frozen = n.frozen; boundaries = n.boundaries + 1; place = 0 }
report_after false false n =
    record { cycles = n.cycles + 1; frozen = n.frozen; boundaries = n.boundaries; place = n.place + 1 }
