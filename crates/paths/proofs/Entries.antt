-- Resets, exceptions and interrupts. Assumes nothing.
use Rattle.std.proofs.Common.{◌≡◌, ℕ, ◌+◌, ◌-◌, ◌%◌, ◌^◌, ◌<◌, List, [], ◌∷◌, Some, None, Option, refl, ap, ◌∙◌, arith}
use Rattle.bus.specs.Request.{word_of}
use Rattle.machine.specs.Fault.{fault_code}
use Rattle.machine.specs.Interrupt.{cr_code, cr_on_entry, sr_on_entry}
use Rattle.machine.specs.Ledger.{with_entry}
use Rattle.machine.specs.Registers.{Regs, with_bar, with_cr, with_epc, with_pc, with_sr}
use Rattle.machine.specs.Words.{WordsStayWords}
use Rattle.machine.specs.declared.fault.Fault.{Fault}
use Rattle.machine.specs.declared.ledger.Entry.{Entry}
use Rattle.machine.specs.declared.operation.Operation.TheVariants.{Dif, Sum}
use Rattle.rows.specs.Rows.{row_at, rows}
use Rattle.rows.specs.declared.row.Destination.TheVariants as r
use Rattle.rows.specs.declared.row.Detection.TheVariants as e
use Rattle.rows.specs.declared.row.OperandX.TheVariants as x
use Rattle.rows.specs.declared.row.OperandY.TheVariants as y
use Rattle.rows.specs.declared.row.Row.{Row}
use Rattle.rows.specs.declared.row.Sequencing.TheVariants as s
use Rattle.rows.specs.declared.row.Transfer.TheVariants as m
use Rattle.book.specs.Book.{Book, Event, Refusals, after_fetch, before_fetch, entry_of}
use Rattle.book.specs.Fit.{IsFit}
use Rattle.paths.specs.Instant.{World}
use Rattle.paths.specs.Path.{world_at}
use Rattle.paths.proofs.Walk.{◌↠◌, Rows, ending, fetching, nothing_plus, plus_nothing, row, split, walk}
use Rattle.paths.proofs.Walk.{fetch, Reaches}

abbrev pub resets_row : Row
resets_row = row x.Cz y.C0 Sum r.Pc m.Nop e.Clr s.Next 1

abbrev pub excepts_row : Row
excepts_row = row x.C0 y.C0 Sum r.Erq m.Nop e.Clr s.Next 25

abbrev vector : Row
vector = row x.C0 y.Cx Sum r.Pc m.Nop e.Nop s.Next 27

abbrev bars : Row
bars = row x.C0 y.Ad Sum r.Bar m.If e.Ibe s.Rie 16

-- the code that entry writes to CR is the code that the ledger reads there
entered_code : (c cr : ℕ) → c < 16 → cr_code (cr_on_entry c cr) ≡ c
entered_code c cr h = omega arith

-- a world at some registers and a ledger
abbrev spot : Regs → List Entry → (ℕ → ℕ) → ℕ → ℕ → ℕ → World
spot g ledger bytes old dt n =
    record {
      state =
          record {
            regs = g;
            dt = dt;
            flag = None;
            row = n;
            sampled = old;
            ledger = ledger;
          };
      bytes = bytes;
    }

-- the last row of an entry
barring : (deny : Refusals) (lines : ℕ) (g : Regs) (ledger : List Entry) (bytes : ℕ → ℕ) (old dt n : ℕ) → g.ad < 2 ^ 32
    → walk deny lines ((27, bars) ∷ []) (spot g ledger bytes old dt n)
    ≡ ending lines
    (after_fetch deny
    (record { regs = with_bar g.ad g; ledger = ledger; bytes = bytes; fault = None; event_sr = g.sr })) dt
barring deny lines g ledger bytes old dt n h =
    split (deny.unreadable (word_of g.pc)) (λ q. simp (q, nothing_plus g.ad h)) (λ q. simp (q, nothing_plus g.ad h))

module _ (deny : Refusals) (lines : ℕ) (b : Book) (dt : ℕ) (fit : IsFit b) (law : WordsStayWords) where
  abbrev g : Regs
  g = b.regs

  abbrev resets_rows : (n : ℕ) → Rows
  resets_rows n = (n, resets_row) ∷ (1, row x.C0 y.C0 Sum r.Sr m.Nop e.Nop s.Next 2) ∷ (2, fetch) ∷ []

  resets_walk : (n : ℕ) (flag : Option Fault)
      → walk deny lines (resets_rows n) (world_at b dt n flag)
      ≡ ending lines (after_fetch deny (before_fetch deny b Event.reset)) dt
  resets_walk n None = fetching deny lines b (with_sr 0 (with_pc 0xBFC00000 b.regs)) dt 2
  resets_walk n (Some c) = fetching deny lines b (with_sr 0 (with_pc 0xBFC00000 b.regs)) dt 2

  pub resets : (n : ℕ) (flag : Option Fault) (h1 : row_at n ≡ resets_row)
      → Reaches deny lines b dt n flag 3 (before_fetch deny b Event.reset)
  unfolding rows
  resets n flag h1 =
      record {
        rows = resets_rows n;
        long = refl;
        plain = refl;
        leads = (refl, h1) ↠ (refl, refl) ↠ (refl, refl) ↠ tt;
        last = dt;
        arrives = resets_walk n flag;
      }

  abbrev enters_regs : ℕ → ℕ → Regs
  enters_regs c epc = with_pc 0x80000080 (with_epc epc (with_sr (sr_on_entry g.sr) (with_cr (cr_on_entry c g.cr) g)))

  -- the last row of an entry, with the ledger as the row before wrote it
  enters_walk : (c epc : ℕ) → c < 16
      → walk deny lines ((27, bars) ∷ [])
      (spot (enters_regs c epc) (with_entry (cr_code (cr_on_entry c g.cr)) epc b.ledger) b.bytes b.sampled dt 27)
      ≡ ending lines (after_fetch deny (entry_of b c epc)) dt
  enters_walk c epc h =
      ap (λ (k : ℕ).
      walk deny lines ((27, bars) ∷ [])
      (spot (enters_regs c epc) (with_entry k epc b.ledger) b.bytes b.sampled dt 27)) (entered_code c g.cr h)
      ∙ barring deny lines (enters_regs c epc) (with_entry c epc b.ledger) b.bytes b.sampled dt 27 fit.words.ad

  abbrev excepts_rows : (n : ℕ) → Rows
  excepts_rows n =
      (n, excepts_row) ∷ (25, row x.Pc y.C4 Dif r.Epc m.Nop e.Nop s.Next 26) ∷ (26, vector) ∷ (27, bars) ∷ []

  excepts_walk : (n : ℕ) (c : Fault)
      → walk deny lines (excepts_rows n) (world_at b dt n (Some c))
      ≡ ending lines (after_fetch deny (before_fetch deny b (Event.exception c))) dt
  excepts_walk n c = enters_walk (fault_code c) ((g.pc + (2 ^ 32 - 4)) % 2 ^ 32) (law.codes c)

  pub excepts : (n : ℕ) (c : Fault) (h1 : row_at n ≡ excepts_row)
      → Reaches deny lines b dt n (Some c) 4 (before_fetch deny b (Event.exception c))
  unfolding rows
  excepts n c h1 =
      record {
        rows = excepts_rows n;
        long = refl;
        plain = refl;
        leads = (refl, h1) ↠ (refl, refl) ↠ (refl, refl) ↠ (refl, refl) ↠ tt;
        last = dt;
        arrives = excepts_walk n c;
      }

  abbrev interrupts_rows : Rows
  interrupts_rows =
      (18, row x.C0 y.C0 Sum r.Erq m.Nop e.Nop s.Next 24)
      ∷ (24, row x.Pc y.C0 Sum r.Epc m.Nop e.Nop s.Next 26)
      ∷ (26, vector)
      ∷ (27, bars)
      ∷ []

  interrupts_walk :
      walk deny lines interrupts_rows (world_at b dt 18 None)
      ≡ ending lines (after_fetch deny (before_fetch deny b Event.interrupt)) dt
  interrupts_walk =
      ap (λ (k : ℕ).
      walk deny lines ((27, bars) ∷ [])
      (spot (enters_regs 0 k) (with_entry (cr_code (cr_on_entry 0 g.cr)) k b.ledger) b.bytes b.sampled dt 27))
      (plus_nothing g.pc fit.words.pc)
      ∙ enters_walk 0 g.pc (omega arith)

  pub interrupts : Reaches deny lines b dt 18 None 4 (before_fetch deny b Event.interrupt)
  unfolding rows
  interrupts =
      record {
        rows = interrupts_rows;
        long = refl;
        plain = refl;
        leads = (refl, refl) ↠ (refl, refl) ↠ (refl, refl) ↠ (refl, refl) ↠ tt;
        last = dt;
        arrives = interrupts_walk;
      }
