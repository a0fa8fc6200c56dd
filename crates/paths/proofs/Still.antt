-- A memory without waits changes its bytes as the bus says. Assumes nothing.
use Rattle.std.proofs.Common.{◌≡◌, ℕ, Bool, true, false, cond, Some, refl}
use Rattle.bus.specs.Meaning.{byte_after, stored_byte}
use Rattle.bus.specs.Request.{first_address, byte_count, word_of}
use Rattle.bus.specs.declared.request.Action.{Action}
use Rattle.bus.specs.declared.request.Action.TheVariants as action
use Rattle.book.specs.Book.{Refusals}
use Rattle.paths.specs.Instant.{StillKeeps, bytes_after, still_memory}

either : (t : Bool) (n : ℕ) → n ≡ cond t n n
either true n = refl
either false n = refl

apply : (t : Bool) (f h : ℕ → ℕ) (x : ℕ) → cond t f h x ≡ cond t (f x) (h x)
apply true f h x = refl
apply false f h x = refl

by_action : (r : Refusals) (bytes : ℕ → ℕ) (address : ℕ) (y : Action) (x : ℕ)
    → bytes_after (still_memory r bytes) (Some (record { address = address; action = y })) x
    ≡ byte_after (still_memory r bytes) (record { address = address; action = y }) x
by_action r bytes address action.Read x = either (r.unreadable (word_of address)) (bytes x)
by_action r bytes address (action.Write w d) x =
    apply (r.unwritable (word_of address)) bytes (stored_byte (first_address w address) (byte_count w) d bytes) x

pub still_keeps : StillKeeps
still_keeps r bytes q x = by_action r bytes q.address q.action x
