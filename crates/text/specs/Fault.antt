-- The numbers of the denials of a line by its form. Assumes nothing.
use Rattle.std.specs.Prelude.{ℕ}
use Rattle.text.specs.declared.fault.LineFault.{LineFault}
use Rattle.text.specs.declared.fault.LineFault.TheVariants.{Form, Unknown}

-- form 2, unknown kind 3
abbrev pub denial_number : LineFault → ℕ
denial_number Form = 2
denial_number Unknown = 3
