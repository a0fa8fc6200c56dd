-- A core, as the rules see it. Assumes nothing.
use Rattle.std.specs.Prelude.{ℕ, ◌+◌, Bool, cond, not, ◌&&◌, List, [], ◌∷◌}
use Rattle.microprogram.specs.Cycle.{State, ends_path, state_at_power_up}
use Rattle.r3000.specs.Counts.{report_after, zero_counts}
use Rattle.r3000.specs.declared.report.Report.{Report}
use Rattle.rows.specs.Rows.{row_at}
use Rattle.rows.specs.declared.row.Row.{Row}

-- what a core has behind it: the lines that stood at each boundary, the newest first, and the granted cycles since
-- the last
pub record History : Type 0 where
  pub boundary_lines : List ℕ
  pub since : ℕ

abbrev pub no_history : History
no_history = record { boundary_lines = []; since = 0 }

-- a processor: its state, which cycles change, and the lines as they stand now
pub record ProcessorState : Type 0 where
  pub state : State
  pub lines : ℕ

-- what is observed of a core: the counts that it reports, and its history, which no code holds
pub record Observation : Type 0 where
  pub report : Report
  pub history : History

-- a core on a pile: the processor, the pile, and what is observed
pub record Machine (S : Type 0) : Type 0 where
  pub processor : ProcessorState
  pub pile : S
  pub observation : Observation

-- power-up on a pile
abbrev pub core_at_power_up : {S : Type 0} → S → Machine S
core_at_power_up pile =
    record {
      processor = record { state = state_at_power_up; lines = 0 };
      pile = pile;
      observation = record { report = zero_counts; history = no_history };
    }

-- the row at hand
abbrev pub current_row : State → Row
current_row c = row_at c.row

-- a boundary is the end of an unfrozen cycle whose row ends a path
abbrev pub is_boundary : State → Bool → Bool
is_boundary c frozen = not frozen && ends_path (current_row c).sequencing

-- the history after a cycle: a boundary keeps the lines that stand, and the granted cycles are counted anew
abbrev pub history_after : ProcessorState → Bool → History → History
history_after p frozen h =
    cond (is_boundary p.state frozen) (record { boundary_lines = p.lines ∷ h.boundary_lines; since = 0 })
    (record h { since = h.since + 1 })

-- what is observed after a cycle
abbrev pub observation_after : ProcessorState → Bool → Observation → Observation
observation_after p frozen o =
    record {
      report = report_after frozen (ends_path (current_row p.state).sequencing) o.report;
      history = history_after p frozen o.history;
    }

-- a core whose lines were set
abbrev pub with_lines : {S : Type 0} → ℕ → Machine S → Machine S
with_lines lines c = record c { processor = record c.processor { lines = lines } }
