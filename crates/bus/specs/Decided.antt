-- Memories whose meaning decides how it goes on. Assumes nothing.
use Rattle.std.specs.Prelude.{◌≡◌, ℕ, zero, suc}
use Rattle.bus.specs.Meaning.{Meaning}
use Rattle.bus.specs.Request.{access_of}
use Rattle.bus.specs.Settle.{Settles}
use Rattle.bus.specs.declared.request.Answer.{Answer}
use Rattle.bus.specs.declared.request.Request.{Request}
use Rattle.bus.specs.declared.settle.Settled.{Settled}

-- a memory is decided where the meaning after a request is a function of the meaning before it
abbrev pub IsDecided : {S : Type 0} → (S → Meaning) → (S → Request → Answer → S → Type 0)
    → (Meaning → Request → Meaning) → Type 0
IsDecided {S} means steps next =
    (s : S) (q : Request) (a : Answer) (t : S) → steps s q a t → means t ≡ next (means s) q

module _ (next : Meaning → Request → Meaning) where
  -- what a memory means after it was asked for a request so many times
  abbrev pub meaning_after_asks : ℕ → Request → Meaning → Meaning
  meaning_after_asks zero q m = m
  meaning_after_asks (suc n) q m = next (meaning_after_asks n q m) q

  -- what it means after a request was waited out: it was asked once more than the request had waits
  abbrev pub meaning_after_settling : Request → Meaning → Meaning
  meaning_after_settling q m = next (meaning_after_asks (m.waits (access_of q)) q m) q

-- on a decided memory the meaning after a request was waited out is that of the function
abbrev pub SettlesAsDecided : {S : Type 0} → (S → Meaning) → (S → Request → Answer → S → Type 0) → Type 0
SettlesAsDecided {S} means steps =
    (next : Meaning → Request → Meaning) → IsDecided means steps next
    → (s : S) (q : Request) (r : Settled) (t : S) → Settles means steps s q r t
    → means t ≡ meaning_after_settling next q (means s)
