use Rattle.std.proofs.Common.{◌≡◌, ◌++◌, ◌∷◌, drop}
use Rattle.text.specs.Writing.{code_field, separated_fields}
use Rattle.text.proofs.Separated.{behind}
use Rattle.text.proofs.writing.line_of.Given as goal

abbrev pub invariant-loop-field : goal.invariant-loop-field
invariant-loop-field l =
    l.text.items ++ behind (drop l.field-index l.others) ≡ separated_fields (code_field l.code ∷ l.others)
