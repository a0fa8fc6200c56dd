-- Window waits a request out where the memory below does, and refuses it from the limit up. Assumes nothing.
use Rattle.std.specs.Prelude.{Bool, true, false, if◌then◌else◌, nat_lt}
use Rattle.std.specs.Result.{result_or}
use Rattle.std.proofs.Common.{◌≡◌, ℕ, Some, None, Ok, Err, Result, refl}
use Rattle.bus.specs.Meaning.{Keeps, Meaning}
use Rattle.bus.specs.Request.{at_address}
use Rattle.bus.specs.Settle.{AskedIsSettled, Settles, end_of}
use Rattle.bus.specs.declared.request.Answer.{Answer}
use Rattle.bus.specs.declared.request.Answer.TheVariants.{Wait, BusError, Done}
use Rattle.bus.specs.declared.request.Request.{Request}
use Rattle.bus.specs.declared.settle.BusFault.{BusFault}
use Rattle.bus.specs.declared.settle.Settled.{Settled}
use Rattle.layers.proofs.Settles.Layer.{settled, settles_over}
use Rattle.layers.specs.Window.{WindowSteps, address_below, limit_address, window_means}
use Rattle.layers.specs.declared.window.Window.{Window}

-- an address that a test lets through, and none where it does not
pub let_through : (b : Bool) (a x : ℕ) → Some a ≡ (if b then Some x else None) → (b ≡ true) × (a ≡ x)
let_through true a x e = (refl, cc)
let_through false a x e = (cc, cc)

pub kept_out : (b : Bool) (x : ℕ) → None ≡ (if b then Some x else None) → b ≡ false
kept_out true x e = cc
kept_out false x e = refl

-- the outcome, with the request's own address in a fault
abbrev named : Request → Result ℕ BusFault → Result ℕ BusFault
named q o = result_or o (Err (record { address = q.address }))

-- an end of the request below is one of the request
same_end : (p q : Request) (x : Answer) (o : Result ℕ BusFault) → end_of p x ≡ Some o → end_of q x ≡ Some (named q o)
same_end p q Wait o e = cc
same_end p q BusError o e =
    let i : Err (record { address = p.address }) ≡ o = cc in
    rw (← i) refl
same_end p q (Done w) o e = let i : Ok w ≡ o = cc in rw (← i) refl

module _ {A : Type 0} (means : A → Meaning) (steps : A → Request → Answer → A → Type 0)
    (keeps : Keeps (window_means means) (WindowSteps steps)) (theorem : AskedIsSettled) (s : Window A) (q : Request)
  where
    -- below the limit the memory is asked
    pub below_settles : (address : ℕ) (r : Settled) (b : A) → nat_lt q.address (limit_address s.limit) ≡ true
        → address ≡ address_below s.base q.address → Settles means steps s.below (at_address address q) r b
        → Settles (window_means means) (WindowSteps steps) s q
        (record { waits = r.waits; outcome = named q r.outcome })
        (record { base = s.base; limit = s.limit; below = b })
    below_settles address r b t e h =
        settles_over steps (WindowSteps steps) (at_address address q) q
        (λ x. record { base = s.base; limit = s.limit; below = x })
        (λ x y w k. (refl, refl, rw (t, ← e) k))
        keeps theorem r (named q r.outcome) s.below b h (λ x k. same_end (at_address address q) q x r.outcome k)

    -- from the limit up nothing is
    pub refused : nat_lt q.address (limit_address s.limit) ≡ false
        → Settles (window_means means) (WindowSteps steps) s q
        (record { waits = 0; outcome = Err (record { address = q.address }) }) s
    refused e = settled keeps theorem q _ s s s BusError refl (refl, refl, rw e (refl, refl)) refl
