use Rattle.std.proofs.Common.{rules, tests, ◌≡◌, ◌^◌, ◌<◌, ◌+◌, ◌*◌, ◌≤◌, ℕ, List, Some, length, map, ◌∙◌, sym, ap}
use Rattle.std.proofs.Common.{arith}
use Rattle.std.proofs.Math.Nat.{pow-le-pow_right}
use Rattle.std.proofs.lemmas.Bool.{cond-true, eq-eqb}
use Rattle.std.proofs.lemmas.Iterator.{YieldsList-from_slice, YieldsList-from_map}
use Rattle.std.proofs.lemmas.Iterator.Consumers.{fold_from_yields_List}
use Rattle.std.specs.List.{fold}
use Rattle.text.specs.Reading.{digit_or_zero, value_of}
use Rattle.text.proofs.Numbers.{appended, fold_of_digits, value_of-lt}
use Rattle.text.proofs.reading.number.Goals as goal

-- the value of a field of eight digits at the most
module _ (n : ℕ) (f : List ℕ) (r : ℕ) (h : n ≤ 8) (e : length f ≡ n) (k : r ≡ fold appended 0 (map digit_or_zero f))
  where
    value : r ≡ value_of f
    value =
        let short : 16 ^ length f ≤ 16 ^ 8 = pow-le-pow_right (omega arith) {i = length f} {j = 8} (omega arith) in
        let below : value_of f < 16 ^ length f = value_of-lt f in
        let fits : 0 * 16 ^ length f + value_of f < 2 ^ 32 = omega arith in
        k ∙ fold_of_digits 0 f fits ∙ omega arith

    value-lt : r < 16 ^ n
    value-lt = rw (← e, value) (value_of-lt f)

folded : (g : _) (c : goal.After-fold g) → c.fold.result ≡ fold appended 0 (map digit_or_zero c.args.field.now)
folded g c =
    fold_from_yields_List _ appended 0 _ c.fold.ensures.ran
    (YieldsList-from_map _ digit_or_zero (YieldsList-from_slice c.args.field.now cc) c.map-digits.ensures.closure
    (λ x r q k. search (rules, tests)))
    (λ a x b q k. search (rules, tests))

pub returns-clause-value : goal.returns-clause-value
returns-clause-value g c =
    ap Some (value g.row.WIDTH c.args.field.now c.fold.result c.requires c.if-field.false (folded g c))
    ∙ sym (cond-true _ _ _ (eq-eqb (length c.args.field.now) g.row.WIDTH c.if-field.false))

pub returns-clause-below : goal.returns-clause-below
returns-clause-below g c = value-lt g.row.WIDTH c.args.field.now c.fold.result c.requires c.if-field.false (folded g c)
