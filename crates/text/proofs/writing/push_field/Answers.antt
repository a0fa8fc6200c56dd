use Rattle.std.proofs.Common.{◌-◌, ◌∷◌, ◌++◌, [], ap, sym, ◌∙◌, append_assoc, arith}
use Rattle.text.specs.Writing.{digits}
use Rattle.text.proofs.Separated.{digits-first}
use Rattle.text.proofs.writing.push_field.Goals as goal

pub loop-place-preserved : goal.loop-place-preserved
loop-place-preserved c =
    let n = c.loop-place.place in
    let before = c.loop-place.text.items in (
      ap (λ xs. xs ++ digits (n - 1) c.args.field.1) c.push.ensures.items
          ∙ append_assoc before (c.byte_of.result ∷ []) (digits (n - 1) c.args.field.1)
          ∙ ap (λ b. before ++ b ∷ digits (n - 1) c.args.field.1) c.byte_of.ensures
          ∙ ap (λ xs. before ++ xs) (sym (digits-first n c.args.field.1 c.loop-place-test.true))
          ∙ c.loop-place.invariant.0,
      omega (arith, c.push.ensures.len, c.loop-place.invariant.1),
    )
