-- A core on a memory whose meaning decides how it goes on: its cycles, by a function. Assumes nothing.
use Rattle.std.specs.Prelude.{◌≡◌, ℕ, zero, suc, Some, None, Option}
use Rattle.bus.specs.Decided.{IsDecided}
use Rattle.bus.specs.Meaning.{Meaning, answer}
use Rattle.bus.specs.declared.request.Answer.{Answer}
use Rattle.bus.specs.declared.request.Request.{Request}
use Rattle.microprogram.specs.ChipCycle.{is_wait}
use Rattle.r3000.specs.Cycle.{Cycles, core_after_cycle, next_request}
use Rattle.r3000.specs.Machine.{Machine, no_history}
use Rattle.r3000.specs.Promise.{Upholds}

-- a core with what its pile means in the pile's place, and with no history: nothing that a core shows tells it
abbrev pub core_meaning : {S : Type 0} → (S → Meaning) → Machine S → Machine Meaning
core_meaning means c =
    record {
      processor = c.processor;
      pile = means c.pile;
      observation = record c.observation { history = no_history };
    }

-- what a memory answers in a cycle: it is asked exactly where the cycle makes a request
abbrev pub cycle_answer : Meaning → Option Request → Option Answer
cycle_answer m None = None
cycle_answer m (Some q) = Some (answer m q)

module _ (next : Meaning → Request → Meaning) where
  -- what the memory means after a cycle
  abbrev pub meaning_after_cycle : Meaning → Option Request → Meaning
  meaning_after_cycle m None = m
  meaning_after_cycle m (Some q) = next m q

  -- one cycle
  abbrev pub after_one_cycle : Machine Meaning → Machine Meaning
  after_one_cycle c =
      let a : Option Answer = cycle_answer c.pile (next_request c) in
      core_meaning (λ m. m) (core_after_cycle (is_wait a) a (meaning_after_cycle c.pile (next_request c)) c)

  -- so many cycles, one after another
  abbrev pub after_cycles : ℕ → Machine Meaning → Machine Meaning
  after_cycles zero c = c
  after_cycles (suc n) c = after_one_cycle (after_cycles n c)

-- on a decided memory a core goes on by that function
abbrev pub CyclesAsDecided : {S : Type 0} → (S → Meaning) → (S → Request → Answer → S → Type 0) → Type 0
CyclesAsDecided {S} means steps =
    (next : Meaning → Request → Meaning) → IsDecided means steps next
    → (n : ℕ) (c d : Machine S) → Cycles steps (Upholds means steps c) n c d
    → core_meaning means d ≡ after_cycles next n (core_meaning means c)
