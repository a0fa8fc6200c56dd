-- Each step of the book is a path of rows. Assumes nothing.
use Rattle.std.proofs.Common.{◌≡◌, ℕ, ◌≤◌, ◌⊎◌, Option, sym, refl, subst, subst₂, inl, inr, arith}
use Rattle.std.proofs.lemmas.Bool.{cases_eq}
use Rattle.machine.specs.Words.{WordsStayWords}
use Rattle.machine.specs.declared.fault.Fault.{Fault}
use Rattle.rows.specs.Rows.{row_at, rows}
use Rattle.book.specs.Book.{Book, Event, Refusals, before_fetch}
use Rattle.book.specs.Fit.{IsFit}
use Rattle.book.specs.Length.{length_of}
use Rattle.paths.specs.Path.{AtEvent, StepsArePaths, Walks}
use Rattle.paths.proofs.Arrive.{walks}
use Rattle.paths.proofs.Decode.{decodes}
use Rattle.paths.proofs.Entries.{excepts, excepts_row, interrupts, resets, resets_row}
use Rattle.paths.proofs.Walk.{Reaches}

-- the rows at which a reset begins
reset_rows : (n : ℕ) → (n ≡ 0) ⊎ ((20 ≤ n) × (n ≤ 23)) → row_at n ≡ resets_row
unfolding rows
reset_rows n (inl e) = subst (λ k. row_at k ≡ resets_row) (sym e) refl
reset_rows n (inr h) = twenty (cases_eq n 20)
  where
    three : n ≡ 23 → row_at n ≡ resets_row
    three e = subst (λ k. row_at k ≡ resets_row) (sym e) refl

    two : (n ≡ 22) ⊎ (n ≡ 22 → ⊥) → (n ≡ 20 → ⊥) → (n ≡ 21 → ⊥) → row_at n ≡ resets_row
    two (inl e) z o = subst (λ k. row_at k ≡ resets_row) (sym e) refl
    two (inr e) z o = three (omega arith)

    one : (n ≡ 21) ⊎ (n ≡ 21 → ⊥) → (n ≡ 20 → ⊥) → row_at n ≡ resets_row
    one (inl e) z = subst (λ k. row_at k ≡ resets_row) (sym e) refl
    one (inr e) z = two (cases_eq n 22) z e

    twenty : (n ≡ 20) ⊎ (n ≡ 20 → ⊥) → row_at n ≡ resets_row
    twenty (inl e) = subst (λ k. row_at k ≡ resets_row) (sym e) refl
    twenty (inr e) = one (cases_eq n 21) e

exception_rows : (n : ℕ) → (n ≡ 17) ⊎ (n ≡ 19) → row_at n ≡ excepts_row
unfolding rows
exception_rows n (inl e) = subst (λ k. row_at k ≡ excepts_row) (sym e) refl
exception_rows n (inr e) = subst (λ k. row_at k ≡ excepts_row) (sym e) refl

module _ (deny : Refusals) (lines : ℕ) (b : Book) (dt : ℕ) (fit : IsFit b) (law : WordsStayWords) where
  reaches : (v : Event) (row : ℕ) (flag : Option Fault) → AtEvent v row flag
      → Reaches deny lines b dt row flag (length_of b v) (before_fetch deny b v)
  reaches Event.reset row flag h = resets deny lines b dt fit law row flag (reset_rows row h)
  reaches (Event.exception c) row flag h =
      subst (λ u. Reaches deny lines b dt row u 4 (before_fetch deny b (Event.exception c))) (sym h.1)
      (excepts deny lines b dt fit law row c (exception_rows row h.0))
  reaches Event.interrupt row flag h =
      subst₂ (λ n u. Reaches deny lines b dt n u 4 (before_fetch deny b Event.interrupt)) (sym h.0) (sym h.1)
      (interrupts deny lines b dt fit law)
  reaches Event.run row flag h =
      subst₂ (λ n u. Reaches deny lines b dt n u (length_of b Event.run) (before_fetch deny b Event.run)) (sym h.0)
      (sym h.1) (decodes deny lines b dt fit law)

pub steps_are_paths_lem : WordsStayWords → StepsArePaths
steps_are_paths_lem law deny lines b fit s h =
    subst (λ w. Walks deny lines b w) (sym h.is)
    (walks deny lines b h.dt h.row h.flag (reaches deny lines b h.dt fit law b.event h.row h.flag h.at))
