-- Where a memory is decided, so is what waiting out leaves. Assumes nothing.
use Rattle.std.proofs.Common.{◌≡◌, ℕ, zero, suc, ap, ◌∙◌}
use Rattle.bus.specs.Decided.{IsDecided, SettlesAsDecided, meaning_after_asks}
use Rattle.bus.specs.Meaning.{Meaning}
use Rattle.bus.specs.Settle.{Waits}
use Rattle.bus.specs.declared.request.Answer.{Answer}
use Rattle.bus.specs.declared.request.Answer.TheVariants.{Wait}
use Rattle.bus.specs.declared.request.Request.{Request}

module _ {S : Type 0} (means : S → Meaning) (steps : S → Request → Answer → S → Type 0) where
  all_waits : (next : Meaning → Request → Meaning) → IsDecided means steps next
      → (n : ℕ) (q : Request) (s t : S) → Waits steps q n s t → means t ≡ meaning_after_asks next n q (means s)
  all_waits next decided zero q s t h = ap means h
  all_waits next decided (suc n) q s t h =
      decided h.0 q Wait t h.2 ∙ ap (λ m. next m q) (all_waits next decided n q s h.0 h.1)

  pub settles : SettlesAsDecided means steps
  settles next decided s q r t h =
      decided h.asked.0 q h.asked.1 t h.asked.3
      ∙ ap (λ m. next m q) (all_waits next decided r.waits q s h.asked.0 h.asked.2)
      ∙ ap (λ n. next (meaning_after_asks next n q (means s)) q) h.waits
