use Rattle.std.proofs.Common.{rules, tests, ◌≡◌, ◌∙◌, ℕ, eqb, List, [], ◌∷◌, sym, refl, ap}
use Rattle.std.proofs.lemmas.Iterator.{YieldsList}
use Rattle.std.proofs.lemmas.Iterator.Consumers.{YieldsList-from_shown}
use Rattle.std.specs.Array.Iter.{array_into_iter_items, array_steps}
use Rattle.std.proofs.lemmas.Iterator.Search.{find_from_yields_List}
use Rattle.std.proofs.lemmas.Iterator.Adapters.{option_map_id}
use Rattle.std.specs.List.{find}
use Rattle.std.specs.Option.{ok_or}
use Rattle.text.specs.Form.{kind_code}
use Rattle.text.specs.declared.fault.LineFault.TheVariants.{Unknown}
use Rattle.text.specs.declared.order.Kind.{Kind}
use Rattle.text.specs.declared.order.Kind.TheVariants.{Load, Start, SetLines, Run, Show}
use Rattle.text.specs.Reading.{kind_at}
use Rattle.text.proofs.order.KindTryFromU8.try_from.Goals as goal

abbrev kinds : List Kind
kinds = Load ∷ Start ∷ SetLines ∷ Run ∷ Show ∷ []

found : (n : ℕ) → find (λ k. eqb n (kind_code k)) kinds ≡ kind_at n
found n = refl

pub returns : goal.returns
returns c =
    let all : YieldsList array_steps (λ k. k) c.into_iter.result kinds =
    rw (← c.into_iter.ensures.into_iter_gives.0)
    (YieldsList-from_shown array_steps (λ k. k) array_into_iter_items (λ s t h. h.0) (λ s x t h. h)
    c.into_iter.result)
    in
    let first : c.find.result ≡ find (λ k. eqb c.args.code (kind_code k)) kinds =
    sym (option_map_id _)
    ∙ find_from_yields_List (λ k. eqb c.args.code (kind_code k)) _ _ c.find.result c.find.ensures.ran all
    (λ x b q k. (ap (λ r. record { 0 = r }) k.called.met.1, search (rules, tests)))
    in
    c.ok_or.ensures.value ∙ ap (λ o. ok_or o Unknown) (first ∙ found c.args.code)
