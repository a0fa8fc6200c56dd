-- A request that is waited out. Assumes nothing.
use Rattle.std.specs.Prelude.{◌≡◌, ℕ, zero, suc, cond, Some, None, Ok, Err, Option, Result}
use Rattle.bus.specs.Meaning.{Answers, Meaning, done_word, is_refused, written_byte}
use Rattle.bus.specs.Request.{access_of}
use Rattle.bus.specs.declared.request.Answer.{Answer}
use Rattle.bus.specs.declared.request.Answer.TheVariants.{Wait, BusError, Done}
use Rattle.bus.specs.declared.request.Request.{Request}
use Rattle.bus.specs.declared.settle.BusFault.{BusFault}
use Rattle.bus.specs.declared.settle.Settled.{Settled}

-- a request that was asked n times, and answered by wait each time
abbrev pub Waits : {S : Type 0} → (S → Request → Answer → S → Type 0) → Request → ℕ → S → S → Type 0
Waits steps q zero s t = t ≡ s
Waits {S} steps q (suc n) s t = (u : S) × Waits steps q n s u × steps u q Wait t

-- how a request ends: in a fault that carries its address where the word is refused, else in what done carries
abbrev pub outcome : Meaning → Request → Result ℕ BusFault
outcome m q = cond (is_refused m q) (Err (record { address = q.address })) (Ok (done_word m q))

-- how an answer ends a request: a wait does not
abbrev pub end_of : Request → Answer → Option (Result ℕ BusFault)
end_of q Wait = None
end_of q BusError = Some (Err (record { address = q.address }))
end_of q (Done w) = Some (Ok w)

-- a request waited out from s to t: it was asked once more than it had waits, and its end, the bytes after it and
-- what never changes follow from the meaning before, whatever waits other requests were given
pub record Settles {S : Type 0} (means : S → Meaning) (steps : S → Request → Answer → S → Type 0) (s : S) (q : Request)
    (r : Settled) (t : S) : Type 0 where
  pub asked : (u : S) × (a : Answer) × Waits steps q r.waits s u × steps u q a t × (end_of q a ≡ Some r.outcome)
  pub waits : r.waits ≡ (means s).waits (access_of q)
  pub ends : r.outcome ≡ outcome (means s) q
  pub bytes : (address : ℕ)
      → (means t).byte address
      ≡ cond (is_refused (means s) q) ((means s).byte address) (written_byte (means s) q address)
  pub unreadable : (w : ℕ) → (means t).unreadable w ≡ (means s).unreadable w
  pub unwritable : (w : ℕ) → (means t).unwritable w ≡ (means s).unwritable w
  pub longest : (means t).longest ≡ (means s).longest

-- a request that was answered by waits, and then by an end, was waited out. It is said of meanings alone, which go on
-- as `Answers` says, and so holds of each memory
abbrev pub AskedIsSettled : Type 0
AskedIsSettled =
    (q : Request) (r : Settled) (m n o : Meaning) (a : Answer) → Waits Answers q r.waits m n → Answers n q a o
    → end_of q a ≡ Some r.outcome
    → Settles (λ x. x) Answers m q r o
