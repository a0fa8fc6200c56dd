use Rattle.std.proofs.Common.{◌≡◌, ◌≤◌, ◌+◌, ◌++◌}
use Rattle.arrayvec.specs.ArrayVec.{array_vec_len}
use Rattle.text.specs.Writing.{digits}
use Rattle.text.specs.Form.{longest_reply}
use Rattle.text.proofs.writing.push_field.Given as goal

abbrev pub invariant-loop-place : goal.invariant-loop-place
invariant-loop-place l =
    (l.text.items ++ digits l.place l.value ≡ l.initial.text.items ++ digits l.width l.value)
    × (array_vec_len l.text + l.place ≤ longest_reply)
