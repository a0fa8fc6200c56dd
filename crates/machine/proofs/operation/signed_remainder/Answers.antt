use Rattle.std.proofs.Common.{◌≡◌, ap, ◌∙◌, arith, w32, SFits, of_z}
use lib.Signed.{rem_z}
use Rattle.std.proofs.lemmas.Int.{to_z-of_z}
use Rattle.std.proofs.lemmas.Bool.{ne_eqb}
use Rattle.machine.specs.Operation.{integer_of, word_of_integer}
use Rattle.machine.proofs.Integers.{remainder, residue_32}
use Rattle.machine.proofs.operation.signed_remainder.Goals as goal

pub returns : goal.returns
returns c =
    let fits : SFits w32 c.wrapping_rem.result = record { sfits = c.wrapping_rem.type_inv } in
    let same : c.wrapping_rem.result ≡ rem_z (integer_of c.args.x) (integer_of c.args.y) = grind (arith, to_z-of_z) in
    rw (ne_eqb c.args.y 0 c.if-y-eq0.false)
    (c.cast_unsigned.ensures ∙ ap (of_z w32) (to_z-of_z w32 c.wrapping_rem.result fits)
    ∙ residue_32 c.wrapping_rem.result fits
    ∙ ap word_of_integer (same ∙ remainder (integer_of c.args.x) (integer_of c.args.y)))
