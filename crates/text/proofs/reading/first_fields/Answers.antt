use Rattle.std.proofs.Common.{rules, tests, ◌==◌, ◌<◌, length, arith, [], ◌∷◌, Some}
use Rattle.std.proofs.lemmas.Iterator.Splits.{YieldsList-from_slice_split}
use Rattle.std.proofs.lemmas.List.Splits.{length-slice_split}
use Rattle.text.specs.Reading.{fields_of}
use Rattle.text.proofs.Fields.{IsSome-first, parts-gives}
use Rattle.text.proofs.reading.first_fields.Goals as goal

pub unwrap-first-requires : goal.unwrap-first-requires
unwrap-first-requires c =
    let some : 0 < length (fields_of c.args.line.now) =
    omega (arith, length-slice_split (λ b. b == 32) c.args.line.now) in
    IsSome-first c.next.result (fields_of c.args.line.now) some
    (parts-gives _ c.split-fields.result (c.next.result ∷ []) (fields_of c.args.line.now) (_, c.next.ensures.steps, tt)
    (YieldsList-from_slice_split _ _ c.args.line.now c.split-fields.ensures.rest c.split-fields.ensures.done
    c.split-fields.ensures.closure (λ x r q k. search (rules, tests))).runs)

pub returns : goal.returns
returns c =
    parts-gives _ c.split-fields.result
    (Some c.unwrap-first.result ∷ c.next-2.result ∷ c.next-3.result ∷ c.next-4.result ∷ [])
    (fields_of c.args.line.now) (
      _,
      rw c.unwrap-first.ensures at c.next.ensures.steps,
      (_, c.next-2.ensures.steps, (_, c.next-3.ensures.steps, (_, c.next-4.ensures.steps, tt))),
    )
    (YieldsList-from_slice_split _ _ c.args.line.now c.split-fields.ensures.rest c.split-fields.ensures.done
    c.split-fields.ensures.closure (λ x r q k. search (rules, tests))).runs
