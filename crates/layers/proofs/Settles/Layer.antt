-- What waits and an end tell, and a layer that goes on as the memory below it does. Assumes nothing.
use Rattle.std.proofs.Common.{◌≡◌, ℕ, zero, suc, Some, Result, ap}
use Rattle.bus.specs.Meaning.{Answers, Keeps, Meaning}
use Rattle.bus.specs.Settle.{AskedIsSettled, Settles, Waits, end_of}
use Rattle.bus.specs.declared.request.Answer.{Answer}
use Rattle.bus.specs.declared.request.Answer.TheVariants.{Wait}
use Rattle.bus.specs.declared.request.Request.{Request}
use Rattle.bus.specs.declared.settle.BusFault.{BusFault}
use Rattle.bus.specs.declared.settle.Settled.{Settled}

module _ {S : Type 0} {means : S → Meaning} {steps : S → Request → Answer → S → Type 0}
    (keeps : Keeps means steps) (theorem : AskedIsSettled) where
  -- waits of a memory are waits of what it means
  meant : (q : Request) (n : ℕ) (s t : S) → Waits steps q n s t → Waits Answers q n (means s) (means t)
  meant q zero s t h = ap means h
  meant q (suc n) s t h = (means h.0, meant q n s h.0 h.1, keeps.tells h.0 q Wait t h.2)

  -- a memory that answered by waits, and then by an end, waited the request out
  pub settled : (q : Request) (r : Settled) (s u t : S) (a : Answer) → Waits steps q r.waits s u → steps u q a t
      → end_of q a ≡ Some r.outcome
      → Settles means steps s q r t
  settled q r s u t a h k e =
      let w = theorem q r (means s) (means u) (means t) a (meant q r.waits s u h) (keeps.tells u q a t k) e in
      record {
        asked = (u, a, h, k, e);
        waits = w.waits;
        ends = w.ends;
        bytes = w.bytes;
        unreadable = w.unreadable;
        unwritable = w.unwritable;
        longest = w.longest;
      }

-- where a layer goes on as the memory below it does, it waits a request out as that does
module _ {A S : Type 0} (below : A → Request → Answer → A → Type 0) (steps : S → Request → Answer → S → Type 0)
    (p q : Request) (over : A → S)
    (one : (a b : A) (x : Answer) → below a p x b → steps (over a) q x (over b)) where
  waits_over : (n : ℕ) (a b : A) → Waits below p n a b → Waits steps q n (over a) (over b)
  waits_over zero a b h = ap over h
  waits_over (suc n) a b h = (over h.0, waits_over n a h.0 h.1, one h.0 b Wait h.2)

  pub settles_over : {meansA : A → Meaning} {means : S → Meaning} → Keeps means steps → AskedIsSettled
      → (r : Settled) (o : Result ℕ BusFault) (a b : A) → Settles meansA below a p r b
      → ((x : Answer) → end_of p x ≡ Some r.outcome → end_of q x ≡ Some o)
      → Settles means steps (over a) q (record { waits = r.waits; outcome = o }) (over b)
  settles_over keeps theorem r o a b h e =
      settled keeps theorem q _ (over a) (over h.asked.0) (over b) h.asked.1
      (waits_over r.waits a h.asked.0 h.asked.2) (one h.asked.0 b h.asked.1 h.asked.3) (e h.asked.1 h.asked.4)
