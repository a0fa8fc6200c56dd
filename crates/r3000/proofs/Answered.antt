-- What a cycle does to processor and bytes: an unfrozen one is a tick, a frozen one nothing. Assumes nothing.
use Rattle.std.proofs.Common.{◌≡◌, ℕ, ◌+◌, Bool, true, false, cond, Some, None, Option, sym, refl, ap, ◌∙◌, ap₂}
use mathlib.Core.Path.{fun_ext}
use Rattle.std.proofs.lemmas.Bool.{true≢false}
use Rattle.std.specs.Option.{option_map}
use Rattle.bus.specs.Meaning.{Answers, Keeps, Meaning, byte_after, answer, done_word, is_refused, is_stalled}
use Rattle.bus.specs.Request.{access_of}
use Rattle.bus.specs.declared.request.Answer.{Answer}
use Rattle.bus.specs.declared.request.Answer.TheVariants.{Wait, BusError, Done}
use Rattle.bus.specs.declared.request.Request.{Request}
use Rattle.paths.specs.Instant.{StillKeeps, World, bytes_after, still_memory, world_after_cycle}
use Rattle.microprogram.specs.ChipCycle.{Asks, is_wait}
use Rattle.microprogram.specs.Cycle.{row_output, state_after}
use Rattle.rows.specs.declared.row.Row.{Row}
use Rattle.r3000.specs.Cycle.{Cycle, next_request}
use Rattle.r3000.specs.Machine.{Machine, current_row}
use Rattle.r3000.proofs.Parts.{state_of}
use Rattle.r3000.specs.Promise.{refusals}

-- an answer that is no wait was not stalled, and a wait was
not_wait : (r : Bool) (w : ℕ) → Wait ≡ cond r BusError (Done w) → ⊥
not_wait true w e = true≢false (ap (λ a. is_wait (Some a)) e)
not_wait false w e = true≢false (ap (λ a. is_wait (Some a)) e)

pub stalls : (m : Meaning) (q : Request) → is_wait (Some (answer m q)) ≡ is_stalled m q
stalls m q = by (is_stalled m q) (is_refused m q) (done_word m q)
  where
    by : (s r : Bool) (w : ℕ) → is_wait (Some (cond s Wait (cond r BusError (Done w)))) ≡ s
    by true r w = refl
    by false true w = refl
    by false false w = refl

-- the memory without waits that has the bytes and refused words of a meaning
abbrev pub stilled : Meaning → Meaning
stilled m = still_memory (refusals m) m.byte

-- where a request is not stalled, answer and bytes are those of a memory without waits
pub answers_still : (m : Meaning) (q : Request) → is_stalled m q ≡ false → answer m q ≡ answer (stilled m) q
answers_still m q e = rw e

pub bytes_still : StillKeeps → (m : Meaning) (q : Request) → is_stalled m q ≡ false → (x : ℕ)
    → byte_after m q x ≡ bytes_after (stilled m) (Some q) x
bytes_still memory m q e x = (rw e) ∙ sym (memory (refusals m) m.byte q x)

-- where it is stalled, the bytes stay
pub bytes_stay : (m : Meaning) (q : Request) → is_stalled m q ≡ true → (x : ℕ) → byte_after m q x ≡ m.byte x
bytes_stay m q e x = rw e

-- the waits that the request of a cycle still has
abbrev pub waiting : Meaning → Option Request → ℕ
waiting m None = 0
waiting m (Some q) = m.waits (access_of q)

module _ {S : Type 0} {means : S → Meaning} {steps : S → Request → Answer → S → Type 0} (memory : StillKeeps)
    (keeps : Keeps means steps) where
  -- a request that was answered by something else than wait
  pub unfrozen : (s t : S) (o : Option Request) (a : Option Answer) → Asks steps s o a t → false ≡ is_wait a
      → (a ≡ option_map (answer (stilled (means s))) o) × ((means t).byte ≡ bytes_after (stilled (means s)) o)
  unfrozen s t None a h e = (h.0, ap (λ p. (means p).byte) h.1)
  unfrozen s t (Some q) a h e = (
    h.1 ∙ ap Some (answers.answered ∙ answers_still (means s) q free),
    fun_ext (λ x. answers.bytes x ∙ bytes_still memory (means s) q free x),
  )
    where
      answers : Answers (means s) q h.0 (means t)
      answers = keeps.tells s q h.0 t h.2

      free : is_stalled (means s) q ≡ false
      free = sym (stalls (means s) q) ∙ sym (e ∙ ap is_wait (h.1 ∙ ap Some answers.answered))

  -- one that was answered by wait
  pub frozen : (s t : S) (o : Option Request) (a : Option Answer) → Asks steps s o a t → true ≡ is_wait a
      → ((means t).byte ≡ (means s).byte) × (waiting (means t) o + 1 ≡ waiting (means s) o)
  frozen s t None a h e = absurd (true≢false (e ∙ ap is_wait h.0))
  frozen s t (Some q) a h e = (fun_ext (λ x. answers.bytes x ∙ bytes_stay (means s) q waits x), answers.counted waits)
    where
      answers : Answers (means s) q h.0 (means t)
      answers = keeps.tells s q h.0 t h.2

      waits : is_stalled (means s) q ≡ true
      waits = sym (stalls (means s) q) ∙ sym (e ∙ ap is_wait (h.1 ∙ ap Some answers.answered))

  -- what is refused, and W, stay
  pub fixed : (s t : S) (o : Option Request) (a : Option Answer) → Asks steps s o a t
      → (refusals (means t) ≡ refusals (means s)) × ((means t).longest ≡ (means s).longest)
  fixed s t None a h = (ap (λ p. refusals (means p)) h.1, ap (λ p. (means p).longest) h.1)
  fixed s t (Some q) a h = (
    ap₂ (λ u w. record { unreadable = u; unwritable = w }) (fun_ext answers.unreadable) (fun_ext answers.unwritable),
    answers.longest,
  )
    where
      answers : Answers (means s) q h.0 (means t)
      answers = keeps.tells s q h.0 t h.2

  -- processor and bytes of a core
  abbrev pub world : Machine S → World
  world c = record { state = c.processor.state; bytes = (means c.pile).byte }

  pub one_tick : (c d : Machine S) → Cycle steps c false d
      → world d ≡ world_after_cycle (refusals (means c.pile)) c.processor.lines (world c)
  unfolding world_after_cycle
  one_tick c d h =
      let w : Row = current_row c.processor.state in
      ap₂ (λ s b. record { state = s; bytes = b })
      (state_of h
      ∙ ap (λ a. state_after w c.processor.lines (row_output w c.processor.state) a c.processor.state) now.0)
      now.1
    where
      now : (h.answer ≡ option_map (answer (stilled (means c.pile))) (next_request c))
          × ((means d.pile).byte ≡ bytes_after (stilled (means c.pile)) (next_request c))
      now = unfrozen c.pile d.pile (next_request c) h.answer h.asks h.freeze

  pub no_tick : (c d : Machine S) → Cycle steps c true d → world d ≡ world c
  no_tick c d h =
      ap₂ (λ s b. record { state = s; bytes = b }) (state_of h)
      (frozen c.pile d.pile (next_request c) h.answer h.asks h.freeze).0
