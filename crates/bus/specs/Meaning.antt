-- What a memory means, and the five points that it keeps: 1 wait, 2 bus error, 3 done, 4 the waits afterwards, 5 look.
-- Assumes nothing.
use Rattle.std.specs.Prelude.{◌≡◌, ℕ, ◌+◌, ◌-◌, ◌*◌, ◌/◌, ◌%◌, ◌^◌, ◌<◌, ◌≤◌, Bool, true, cond, ◌&&◌, ◌||◌, Some, None}
use Rattle.std.specs.Prelude.{Option, nat_le, nat_lt}
use Rattle.bus.specs.Request.{access_of, byte_count, word_of, first_address}
use Rattle.bus.specs.declared.request.Access.{Access}
use Rattle.bus.specs.declared.request.Action.TheVariants as action
use Rattle.bus.specs.declared.request.Answer.{Answer}
use Rattle.bus.specs.declared.request.Answer.TheVariants.{Wait, BusError, Done}
use Rattle.bus.specs.declared.request.Request.{Request}

-- what a memory is to everything above it
pub record Meaning : Type 0 where
  -- the byte at an address
  pub byte : ℕ → ℕ
  -- the words, by their names, that are refused to reads, and those refused to writes
  pub unreadable : ℕ → Bool
  pub unwritable : ℕ → Bool
  -- how often a request will be answered by wait before it ends
  pub waits : Access → ℕ
  -- the memory's longest wait, W
  pub longest : ℕ

-- the most that a longest wait may be
abbrev pub max_wait : ℕ
max_wait = 65535

-- bytes are bytes, no request waits longer than W, and W is at most max_wait; so the waits that points 1 and 4 leave
-- free lie from 0 to W
pub record IsSound (m : Meaning) : Type 0 where
  pub bytes : (address : ℕ) → m.byte address < 256
  pub waits : (x : Access) → m.waits x ≤ m.longest
  pub longest : m.longest ≤ max_wait

-- the word with this name: its lowest address is in its lowest eight bits
abbrev pub word_at : (ℕ → ℕ) → ℕ → ℕ
word_at byte w = byte w + byte (w + 1) * 256 + byte (w + 2) * 65536 + byte (w + 3) * 16777216

-- the bytes after the n low bytes of the data were written from an address on
abbrev pub stored_byte : ℕ → ℕ → ℕ → (ℕ → ℕ) → ℕ → ℕ
stored_byte from n d byte address =
    cond (nat_le from address && nat_lt address (from + n)) (d / 256 ^ (address - from) % 256) (byte address)

-- whether a request's word is refused to its kind
abbrev pub is_refused : Meaning → Request → Bool
is_refused m q =
    elim q.action [
      | action.Read ↦ m.unreadable (word_of q.address)
      | action.Write w d ↦ m.unwritable (word_of q.address)
    ]

-- whether a request still has waits
abbrev pub is_stalled : Meaning → Request → Bool
is_stalled m q = nat_lt 0 (m.waits (access_of q))

-- what done carries: the word that was read, and 0 after a write
abbrev pub done_word : Meaning → Request → ℕ
done_word m q = elim q.action [ action.Read ↦ word_at m.byte (word_of q.address) | action.Write w d ↦ 0 ]

-- the byte at an address once the request is done
abbrev pub written_byte : Meaning → Request → ℕ → ℕ
written_byte m q address =
    elim q.action [
      | action.Read ↦ m.byte address
      | action.Write w d ↦ stored_byte (first_address w q.address) (byte_count w) d m.byte address
    ]

-- the answer: wait exactly while waits are left, else bus error exactly where the word is refused, else done
abbrev pub answer : Meaning → Request → Answer
answer m q = cond (is_stalled m q) Wait (cond (is_refused m q) BusError (Done (done_word m q)))

-- the byte at an address after the answer: only done changes any
abbrev pub byte_after : Meaning → Request → ℕ → ℕ
byte_after m q address = cond (is_stalled m q || is_refused m q) (m.byte address) (written_byte m q address)

-- points 1 to 4: a request, its answer, and the memory before and after it
pub record Answers (m : Meaning) (q : Request) (a : Answer) (n : Meaning) : Type 0 where
  pub answered : a ≡ answer m q
  pub bytes : (address : ℕ) → n.byte address ≡ byte_after m q address
  -- a wait takes one from the waits of its own request; all other waits are free
  pub counted : is_stalled m q ≡ true → n.waits (access_of q) + 1 ≡ m.waits (access_of q)
  -- what is refused, and W, never change
  pub unreadable : (w : ℕ) → n.unreadable w ≡ m.unreadable w
  pub unwritable : (w : ℕ) → n.unwritable w ≡ m.unwritable w
  pub longest : n.longest ≡ m.longest

-- point 5, look: the byte, or none where its word is refused to reads
abbrev pub look_result : Meaning → ℕ → Option ℕ
look_result m address = cond (m.unreadable (word_of address)) None (Some (m.byte address))

-- what every memory owes: its meaning is sound, and each of its steps keeps points 1 to 4
pub record Keeps {S : Type 0} (means : S → Meaning) (steps : S → Request → Answer → S → Type 0) : Type 0 where
  pub sound : (s : S) → IsSound (means s)
  pub tells : (s : S) (q : Request) (a : Answer) (t : S) → steps s q a t → Answers (means s) q a (means t)
