-- On a decided memory cycles are those of a function. Assumes nothing.
use Rattle.std.proofs.Common.{◌≡◌, ℕ, zero, suc, Bool, Some, None, Option, ap, ap₂, ◌∙◌}
use Rattle.bus.specs.Decided.{IsDecided}
use Rattle.bus.specs.Meaning.{Keeps, Meaning}
use Rattle.bus.specs.declared.request.Answer.{Answer}
use Rattle.bus.specs.declared.request.Request.{Request}
use Rattle.microprogram.specs.ChipCycle.{Asks, is_wait}
use Rattle.r3000.specs.Cycle.{Cycle, Cycles, core_after_cycle, next_request}
use Rattle.r3000.specs.Decided.{CyclesAsDecided, meaning_after_cycle, core_meaning, cycle_answer, after_one_cycle}
use Rattle.r3000.specs.Decided.{after_cycles}
use Rattle.r3000.specs.Machine.{Machine}
use Rattle.r3000.specs.Promise.{Upholds}

module _ {S : Type 0} {means : S → Meaning} {steps : S → Request → Answer → S → Type 0}
    (keeps : Keeps means steps) (next : Meaning → Request → Meaning) (decided : IsDecided means steps next) where
  asks : (o : Option Request) (s : S) (a : Option Answer) (t : S) → Asks steps s o a t
      → (a ≡ cycle_answer (means s) o) × (means t ≡ meaning_after_cycle next (means s) o)
  asks None s a t h = (h.0, ap means h.1)
  asks (Some q) s a t h =
      (h.1 ∙ ap Some (keeps.tells s q h.0 t h.2).answered, decided s q h.0 t h.2)

  one_cycle : (c d : Machine S) (frozen : Bool) → Cycle steps c frozen d
      → core_meaning means d ≡ after_one_cycle next (core_meaning means c)
  one_cycle c d frozen h =
      let both = asks (next_request c) c.pile h.answer d.pile h.asks in
      let seen =
      λ (f : Bool) (a : Option Answer) (m : Meaning).
      core_meaning (λ n. n) (core_after_cycle f a m (core_meaning means c)) in
      let same : core_meaning means d ≡ seen frozen h.answer (means d.pile) = ap (core_meaning means) h.after in
      same ∙ ap (λ f. seen f h.answer (means d.pile)) h.freeze ∙ ap₂ (λ a m. seen (is_wait a) a m) both.0 both.1

  all_cycles : (says : Machine S → Type 0) (n : ℕ) (c d : Machine S) → Cycles steps says n c d
      → core_meaning means d ≡ after_cycles next n (core_meaning means c)
  all_cycles says zero c d h = ap (core_meaning means) h
  all_cycles says (suc n) c d h =
      one_cycle h.0 d h.1 h.3 ∙ ap (after_one_cycle next) (all_cycles says n c h.0 h.2)

pub cycles_as_decided : {S : Type 0} (means : S → Meaning) (steps : S → Request → Answer → S → Type 0)
    → Keeps means steps → CyclesAsDecided means steps
cycles_as_decided means steps keeps next decided n c = all_cycles keeps next decided (Upholds means steps c) n c
