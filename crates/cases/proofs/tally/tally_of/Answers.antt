use Rattle.std.proofs.Common.{rules, ◌≡◌, ◌+◌, ◌++◌, ◌∷◌, [], take, sym, subst, ap, ◌∙◌}
use Rattle.std.proofs.lemmas.List.{take_all, take_more}
use Rattle.cases.specs.Tally.{CountsCase, CountsCases, no_cases}
use Rattle.cases.proofs.Counting.{counts_more}
use Rattle.cases.proofs.tally.tally_of.Goals as goal

pub loop-case-init : goal.loop-case-init
loop-case-init c = search rules

pub loop-case-preserved : goal.loop-case-preserved
loop-case-preserved c =
    let xs = c.args.cases.now in
    let i = c.loop-case.case-index in
    let item = c.case-item.result in
    let counted : CountsCase c.loop-case.tally item c.with-tally.result = record {
      right = c.holds-right.result;
      is_right = search rules;
      cases = c.with-tally.ensures.cases;
      differ = search rules;
    } in
    let more : take (i + 1) xs ≡ take i xs ++ item ∷ [] =
    take_more xs i item c.loop-case-test.true ∙ ap (λ x. take i xs ++ x ∷ []) (search rules) in
    subst (λ ys. CountsCases no_cases ys c.with-tally.result) (sym more)
    (counts_more no_cases c.loop-case.tally c.with-tally.result (take i xs) item c.loop-case.invariant counted)

pub returns : goal.returns
returns c =
    subst (λ ys. CountsCases no_cases ys c.loop-case.tally)
    (take_all c.loop-case.case-index c.args.cases.now c.loop-case-test.false)
    c.loop-case.invariant
