-- Calls of a list: one more. Assumes nothing.
use Rattle.std.proofs.Common.{◌≡◌, ℕ, zero, suc, ◌+◌, ◌<◌, List, [], ◌∷◌, ◌++◌, length, get_or, drop, Some, Ok, Err}
use Rattle.std.proofs.Common.{Result, sym, refl, ap, ◌∙◌, subst, add-one, drop-cons}
use Rattle.bus.specs.Meaning.{Meaning}
use Rattle.bus.specs.declared.request.Answer.{Answer}
use Rattle.bus.specs.declared.request.Request.{Request}
use Rattle.r3000.specs.Calls.{WhereGranted, Runs, check_run}
use Rattle.r3000.specs.Cycle.{Cycles}
use Rattle.r3000.specs.Machine.{Machine}
use Rattle.r3000.specs.Perform.{MakesCall, MakesCalls}
use Rattle.r3000.specs.Promise.{IsPromised, Upholds}
use Rattle.r3000.specs.Reached.{IsReached}
use Rattle.r3000.specs.declared.call.Call.{Call}
use Rattle.r3000.specs.declared.call.Call.TheVariants as call
use Rattle.r3000.specs.declared.call.Exchange.{Exchange}
use Rattle.r3000.specs.declared.call.Reply.{Reply}
use Rattle.r3000.specs.declared.denial.Denial.{Denial}
use Rattle.r3000.specs.declared.report.Report.{Report}

-- what is said of the core after each cycle inside a run can be something that follows from it
module _ {S : Type 0} (means : S → Meaning)
    (steps : S → Request → Answer → S → Type 0) {says tells : Machine S → Type 0}
    (follows : (m : Machine S) → says m → tells m) where
  cycles : (n : ℕ) (c d : Machine S) → Cycles steps says n c d → Cycles steps tells n c d
  cycles zero c d h = h
  cycles (suc n) c d h = (h.0, h.1, cycles n c h.0 h.2, h.3, follows d h.4)

  pub runs : (n : ℕ) (c d : Machine S) (q : Result Report Denial) → Runs steps says n c q d → Runs steps tells n c q d
  runs n c d q h = by (check_run n c.observation.report) h
    where
      by : (o : Result (Unit {0}) Denial)
          → WhereGranted o c q d (Cycles steps says n c d × (q ≡ Ok d.observation.report))
          → WhereGranted o c q d (Cycles steps tells n c d × (q ≡ Ok d.observation.report))
      by (Err e) h = h
      by (Ok _) h = (cycles n c d h.0, h.1)

  calls : (c d : Machine S) (x : Call) (r : Result Reply Denial) → MakesCall means steps says c x r d
      → MakesCall means steps tells c x r d
  calls c d call.Clock r h = h
  calls c d (call.Run n) r h = (h.0, h.1, runs n c d h.0 h.2)
  calls c d (call.Lines n) r h = h
  calls c d (call.Register n) r h = h
  calls c d call.Snapshot r h = h
  calls c d (call.Ledger n) r h = h
  calls c d (call.Look a) r h = h

module _ {S : Type 0} (means : S → Meaning) (steps : S → Request → Answer → S → Type 0) where
  -- one call more
  pub calls_more : (start : S) (c b d : Machine S) (xs ys : List Exchange) (x : Exchange) (r : Result Reply Denial)
      → MakesCalls means steps (IsPromised means steps start) c xs ys b → IsReached steps start b
      → MakesCall means steps (Upholds means steps b) b x.call r d → Upholds means steps b d
      → MakesCalls means steps (IsPromised means steps start) c (xs ++ x ∷ [])
      (ys ++ record { call = x.call; reply = Some r } ∷ []) d
  calls_more start c b d xs ys x r h reached k up = after xs ys c h
    where
      last : MakesCall means steps (IsPromised means steps start) b x.call r d
      last = calls means steps (λ m u. u start reached) b d x.call r k

      after : (xs ys : List Exchange) (c : Machine S) → MakesCalls means steps (IsPromised means steps start) c xs ys b
          → MakesCalls means steps (IsPromised means steps start) c (xs ++ x ∷ [])
          (ys ++ record { call = x.call; reply = Some r } ∷ []) d
      after [] [] c h = (
        d,
        r,
        refl,
        subst (λ m. MakesCall means steps (IsPromised means steps start) m x.call r d) h last,
        up start reached,
        refl,
      )
      after [] (q ∷ rs) c h = absurd h
      after (y ∷ xs) [] c h = absurd h
      after (y ∷ xs) (q ∷ rs) c h = (h.0, h.1, h.2, h.3, h.4, after xs rs h.0 h.5)

-- lists that have the same elements from a place on have the same one there, and the same ones behind it
pub same_rest : {A : Type 0} (xs ys : List A) (i : ℕ) (d : A) → i < length xs → i < length ys → drop i xs ≡ drop i ys
    → (get_or xs i d ≡ get_or ys i d) × (drop (i + 1) xs ≡ drop (i + 1) ys)
same_rest {A} xs ys i d h k e = parts (sym (drop-cons xs i d h) ∙ e ∙ drop-cons ys i d k)
  where
    parts : get_or xs i d ∷ drop (suc i) xs ≡ get_or ys i d ∷ drop (suc i) ys
        → (get_or xs i d ≡ get_or ys i d) × (drop (i + 1) xs ≡ drop (i + 1) ys)
    parts f = (cc, ap (λ n. drop n xs) (add-one i) ∙ rest ∙ ap (λ n. drop n ys) (sym (add-one i)))
      where
        rest : drop (suc i) xs ≡ drop (suc i) ys
        rest = cc
