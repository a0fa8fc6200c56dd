use Rattle.std.proofs.Common.{rules, tests, ◌≡◌, ℕ, suc, false, ◌&&◌, ◌==◌, List, [], ◌∷◌, length, ◌∙◌, sym, ap, arith}
use Rattle.std.proofs.lemmas.Bool.{lt-ltb, false≢true}
use Rattle.std.proofs.lemmas.Iterator.{YieldsList-from_slice}
use Rattle.std.proofs.lemmas.Iterator.Search.{all_from_yields_List}
use Rattle.std.specs.List.{list_all}
use Rattle.text.specs.Reading.{is_in_form, is_digit}
use Rattle.text.proofs.reading.is_in_form.Goals as goal

-- a field that is not empty
filled : (f : List ℕ) → false ≡ (length f == 0) → list_all is_digit f ≡ is_in_form f
filled [] e = absurd (false≢true e)
filled (b ∷ bs) e = sym (ap (λ t. t && list_all is_digit (b ∷ bs)) (lt-ltb 0 (suc (length bs)) (omega arith)))

pub returns-then-not-is_empty : goal.returns-then-not-is_empty
returns-then-not-is_empty c =
    all_from_yields_List is_digit _ _ _ c.all.ensures.ran (YieldsList-from_slice c.args.field.now cc)
    (λ x b q k. search (rules, tests)) ∙ filled c.args.field.now (cc)
