-- A call upholds the promise, by the theorem that everything reached keeps it. Assumes nothing.
use Rattle.std.proofs.Common.{◌≡◌, ℕ, zero, suc, Bool, true, false, cond, ltb, Ok, Err, Result, sym, refl, subst}
use Rattle.std.proofs.lemmas.Bool.{ltb-false}
use Rattle.bus.specs.Meaning.{Meaning}
use Rattle.bus.specs.declared.request.Answer.{Answer}
use Rattle.bus.specs.declared.request.Request.{Request}
use Rattle.r3000.specs.Calls.{WhereGranted, Clocks, Runs, check_cycles, check_run, after_lines}
use Rattle.r3000.specs.Cycle.{Cycle, Cycles}
use Rattle.r3000.specs.Limits.{max_lines}
use Rattle.r3000.specs.Machine.{Machine, with_lines}
use Rattle.r3000.specs.Promise.{AllKeepPromise, Upholds}
use Rattle.r3000.specs.Reached.{IsReached}
use Rattle.r3000.specs.declared.denial.Denial.{Denial}
use Rattle.r3000.specs.declared.report.Clocked.{Clocked}
use Rattle.r3000.specs.declared.report.Report.{Report}

-- nothing is said of a core
abbrev pub Anything : {S : Type 0} → Machine S → Type 0
Anything c = Unit {0}

module _ {S : Type 0} {means : S → Meaning} {steps : S → Request → Answer → S → Type 0}
    (kept : (start : S) → AllKeepPromise means steps start) where
  -- what leads to a core that can be reached upholds the promise
  pub upholds : (c d : Machine S) → ((start : S) → IsReached steps start c → IsReached steps start d)
      → Upholds means steps c d
  upholds c d leads start r = record { reached = leads start r; promise = kept start d (leads start r) }

  -- a core that stays as it is
  pub stays : (c d : Machine S) → d ≡ c → Upholds means steps c d
  stays c d e = upholds c d (λ start r. subst (λ m. IsReached steps start m) (sym e) r)

  -- each cycle of a run
  cycles : (n : ℕ) (c d : Machine S) → Cycles steps Anything n c d
      → Cycles steps (Upholds means steps c) n c d × Upholds means steps c d
  cycles zero c d h = (h, stays c d h)
  cycles (suc n) c d h =
      let before : Cycles steps (Upholds means steps c) n c h.0 × Upholds means steps c h.0 = cycles n c h.0 h.2 in
      let here : Upholds means steps c d =
      upholds c d (λ start r. IsReached.cycle h.0 d h.1 (before.1 start r).reached h.3) in
      ((h.0, h.1, before.0, h.3, here), here)

  pub clocks : (c d : Machine S) (q : Result Clocked Denial) → Clocks steps c q d → Upholds means steps c d
  clocks c d q h = by (check_cycles 1 c.observation.report) h
    where
      by : (o : Result (Unit {0}) Denial)
          → WhereGranted o c q d
          ((frozen : Bool) × Cycle steps c frozen d
          × (q ≡ Ok (record { frozen = frozen; report = d.observation.report }))) → Upholds means steps c d
      by (Err e) h = stays c d h.1
      by (Ok _) h = upholds c d (λ start r. IsReached.cycle c d h.0 r h.1)

  pub runs : (n : ℕ) (c d : Machine S) (q : Result Report Denial) → Runs steps Anything n c q d
      → Runs steps (Upholds means steps c) n c q d × Upholds means steps c d
  runs n c d q h = by (check_run n c.observation.report) h
    where
      by : (o : Result (Unit {0}) Denial)
          → WhereGranted o c q d (Cycles steps Anything n c d × (q ≡ Ok d.observation.report))
          → WhereGranted o c q d (Cycles steps (Upholds means steps c) n c d × (q ≡ Ok d.observation.report))
          × Upholds means steps c d
      by (Err e) h = (h, stays c d h.1)
      by (Ok _) h = let all : Cycles steps (Upholds means steps c) n c d × Upholds means steps c d =
          cycles n c d h.0 in ((all.0, h.1), all.1)

  pub sets : (n : ℕ) (c d : Machine S) → d ≡ after_lines n c → Upholds means steps c d
  sets n c d e =
      upholds c d (λ start r. subst (λ m. IsReached steps start m) (sym e) (by start r (ltb max_lines n) refl))
    where
      by : (start : S) → IsReached steps start c → (t : Bool) → ltb max_lines n ≡ t
          → IsReached steps start (cond t c (with_lines n c))
      by start r true e = r
      by start r false e = IsReached.set_lines c n (ltb-false max_lines n e) r
