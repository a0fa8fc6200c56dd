-- Cases are counted one more at a time. Assumes nothing.
use Rattle.std.proofs.Common.{List, [], ◌∷◌, ◌++◌, refl, subst}
use Rattle.cases.specs.Tally.{CountsCase, CountsCases}
use Rattle.cases.specs.declared.case.Case.{Case}
use Rattle.cases.specs.declared.tally.Tally.{Tally}

pub counts_more : (t s u : Tally) (cs : List Case) (c : Case)
    → CountsCases t cs s → CountsCase s c u → CountsCases t (cs ++ c ∷ []) u
counts_more t s u [] c h k = (u, subst (λ x. CountsCase x c u) h k, refl)
counts_more t s u (d ∷ ds) c h k = (h.0, h.1, counts_more h.0 s u ds c h.2 k)
