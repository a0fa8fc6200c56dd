-- What comes of cases one after another. Assumes nothing.
use Rattle.std.specs.Prelude.{◌≡◌, ◌↔◌, ◌+◌, ◌-◌, ◌^◌, min, Bool, cond, IsTrue, List, [], ◌∷◌}
use Rattle.cases.specs.declared.case.Case.{Case}
use Rattle.cases.specs.declared.tally.Tally.{Tally}
use Rattle.replies.specs.Replies.{answer_text}

abbrev pub no_cases : Tally
no_cases = record { cases = 0; differ = 0 }

-- one case more: it differs where its job is not answered by its replies
pub record CountsCase (t : Tally) (c : Case) (u : Tally) : Type 0 where
  pub right : Bool
  pub is_right : IsTrue right ↔ (answer_text c.job.items ≡ c.replies.bytes.items)
  pub cases : u.cases ≡ min (t.cases + 1) (2 ^ 64 - 1)
  pub differ : u.differ ≡ min (t.differ + cond right 0 1) (2 ^ 64 - 1)

-- cases one after another
abbrev pub CountsCases : Tally → List Case → Tally → Type 0
CountsCases t [] u = u ≡ t
CountsCases t (c ∷ cs) u = (s : Tally) × CountsCase t c s × CountsCases s cs u
