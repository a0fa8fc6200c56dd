-- From a path of rows to the step of the book that it walks. Assumes nothing.
use Rattle.std.proofs.Common.{◌≡◌, ℕ, zero, suc, ◌+◌, ◌*◌, ◌<◌, Bool, true, false, cond, [], ◌∷◌, length, is_some}
use Rattle.std.proofs.Common.{Some, None, Option, sym, refl, ap, ◌∙◌, inl, inr, arith}
use Rattle.std.proofs.lemmas.Bool.{and_parts, not-true}
use Rattle.machine.specs.Interrupt.{is_interrupting, is_resetting}
use Rattle.machine.specs.Operation.{one_if}
use Rattle.machine.specs.declared.fault.Fault.{Fault}
use Rattle.rows.specs.Rows.{row_at}
use Rattle.rows.specs.declared.row.Row.{Row}
use Rattle.microprogram.specs.Cycle.{ends_path}
use Rattle.book.specs.Book.{Book, Event, Refusals, after_fetch, before_fetch}
use Rattle.book.specs.Length.{length_of}
use Rattle.paths.specs.Instant.{World, world_after_cycle, world_after_cycles, world_after_row}
use Rattle.paths.specs.Path.{AtEvent, Walks, world_at, world_ends_path}
use Rattle.paths.proofs.Walk.{Leads, Reaches, Rows, only_last, walked}

-- the row that a boundary chooses is that of the next event
chosen : (reset irq : Bool) (flag : Option Fault)
    → AtEvent (cond reset Event.reset (elim flag [
      | Some c ↦ Event.exception c
      | None ↦ cond irq Event.interrupt Event.run
    ])) (16 + one_if reset * 4 + one_if irq * 2 + one_if (is_some flag)) flag
chosen true true (Some c) = inr (omega arith, omega arith)
chosen true true None = inr (omega arith, omega arith)
chosen true false (Some c) = inr (omega arith, omega arith)
chosen true false None = inr (omega arith, omega arith)
chosen false true (Some c) = (inr refl, refl)
chosen false true None = (refl, refl)
chosen false false (Some c) = (inl refl, refl)
chosen false false None = (refl, refl)

module _ (deny : Refusals) (lines : ℕ) where
  next_world : (n : ℕ) (w : Row) (ps : Rows) (s : World) → Leads deny lines ((n, w) ∷ ps) s
      → world_after_cycle deny lines s ≡ world_after_row w deny lines s
  unfolding world_after_cycle
  next_world n w ps s h = ap (λ k. world_after_row k deny lines s) (ap row_at h.0 ∙ h.1)

  here : (n : ℕ) (w : Row) (ps : Rows) (s : World) → Leads deny lines ((n, w) ∷ ps) s
      → world_ends_path s ≡ ends_path w.sequencing
  here n w ps s h = ap (λ k. ends_path k.sequencing) (ap row_at h.0 ∙ h.1)

  goes_on : (ps : Rows) (s : World) → Leads deny lines ps s → only_last ps ≡ true → (n : ℕ) → n + 1 < length ps
      → world_ends_path (world_after_cycles deny lines n s) ≡ false
  unfolding world_after_cycles
  goes_on [] s h p n l = absurd (omega arith)
  goes_on (q ∷ []) s h p n l = absurd (omega arith)
  goes_on (q ∷ (t ∷ ps)) s h p zero l = here q.0 q.1 (t ∷ ps) s h ∙ not-true _ (and_parts _ _ p).0
  goes_on (q ∷ (t ∷ ps)) s h p (suc n) l =
      ap (λ u. world_ends_path (world_after_cycles deny lines n u)) (next_world q.0 q.1 (t ∷ ps) s h)
      ∙ goes_on (t ∷ ps) (world_after_row q.1 deny lines s) h.2 (and_parts _ _ p).1 n (omega arith)

  comes_to_end : (ps : Rows) (s : World) → Leads deny lines ps s → only_last ps ≡ true → (n : ℕ) → n + 1 ≡ length ps
      → world_ends_path (world_after_cycles deny lines n s) ≡ true
  unfolding world_after_cycles
  comes_to_end [] s h p n l = absurd (omega arith)
  comes_to_end (q ∷ []) s h p zero l = here q.0 q.1 [] s h ∙ p
  comes_to_end (q ∷ []) s h p (suc n) l = absurd (omega arith)
  comes_to_end (q ∷ (t ∷ ps)) s h p zero l = absurd (omega arith)
  comes_to_end (q ∷ (t ∷ ps)) s h p (suc n) l =
      ap (λ u. world_ends_path (world_after_cycles deny lines n u)) (next_world q.0 q.1 (t ∷ ps) s h)
      ∙ comes_to_end (t ∷ ps) (world_after_row q.1 deny lines s) h.2 (and_parts _ _ p).1 n (omega arith)

  -- a path of the book's length to what the book makes is a step
  pub walks : (b : Book) (dt row : ℕ) (flag : Option Fault)
      → Reaches deny lines b dt row flag (length_of b b.event) (before_fetch deny b b.event)
      → Walks deny lines b (world_at b dt row flag)
  walks b dt row flag h =
      record {
        arrives =
            record {
              dt = h.last;
              row = _;
              flag = (after_fetch deny (before_fetch deny b b.event)).fault;
              at =
                  chosen (is_resetting lines)
                  (is_interrupting (after_fetch deny (before_fetch deny b b.event)).event_sr lines)
                  (after_fetch deny (before_fetch deny b b.event)).fault;
              is =
                  ap (λ n. world_after_cycles deny lines n (world_at b dt row flag)) (sym h.long)
                  ∙ walked deny lines h.rows (world_at b dt row flag) h.leads
                  ∙ h.arrives;
            };
        going = λ n l. goes_on h.rows (world_at b dt row flag) h.leads h.plain n (omega (arith, h.long));
        ending = λ n l. comes_to_end h.rows (world_at b dt row flag) h.leads h.plain n (omega (arith, h.long));
      }
