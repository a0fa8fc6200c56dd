-- System calls, moves of system registers, and codes that no instruction has. Assumes nothing.
use Rattle.std.proofs.Common.{◌≡◌, ℕ, ◌+◌, ◌*◌, ◌%◌, ◌^◌, Bool, true, false, cond, eqb, List, [], ◌∷◌, Some, None, sym}
use Rattle.std.proofs.Common.{refl, ap, ◌∙◌}
use Rattle.bus.specs.Request.{word_of}
use Rattle.machine.specs.Address.{is_user_mode}
use Rattle.machine.specs.Interrupt.{cr_with_lines, sr_on_return}
use Rattle.machine.specs.Registers.{Regs, reg, with_bar, with_cr, with_epc, with_ir, with_register, with_sr}
use Rattle.machine.specs.Word.{bit, function, opcode, rt, system_number}
use Rattle.machine.specs.Words.{WordsStayWords}
use Rattle.machine.specs.declared.fault.Fault.TheVariants as f
use Rattle.machine.specs.declared.operation.Operation.TheVariants.{Sum}
use Rattle.rows.specs.Rows.{row_at, rows}
use Rattle.rows.specs.declared.row.Destination.TheVariants as r
use Rattle.rows.specs.declared.row.Detection.TheVariants as e
use Rattle.rows.specs.declared.row.OperandX.TheVariants as x
use Rattle.rows.specs.declared.row.OperandY.TheVariants as y
use Rattle.rows.specs.declared.row.Row.{Row}
use Rattle.rows.specs.declared.row.Sequencing.TheVariants as s
use Rattle.rows.specs.declared.row.Transfer.TheVariants as m
use Rattle.microprogram.specs.Cycle.{fault_if, flag_after, may_write}
use Rattle.book.specs.Book.{Book, Effect, Refusals, after_fetch, effect_of, from_system, with_risen_pc, to_sr}
use Rattle.book.specs.Book.{to_system}
use Rattle.book.specs.Book.{unless_user_mode, with_fault, without_fault}
use Rattle.book.specs.Fit.{IsFit}
use Rattle.book.specs.Instruction.{Instruction, table_entry}
use Rattle.paths.specs.Instant.{World}
use Rattle.paths.specs.Path.{world_at}
use Rattle.paths.proofs.Walk.{◌↠◌, Rows, amid, ending, fetching, plus_nothing, row, rt_word, split, walk}
use Rattle.paths.proofs.Walk.{init, special}
use Rattle.paths.proofs.Walk.{fetch, Reaches}

-- the row at an address that the listing leaves out
abbrev pub illegal : Row
illegal = row x.C0 y.C0 Sum r.Nop m.Nop e.Ri s.Next 15

abbrev pub copro : Row
copro = row x.C0 y.C0 Sum r.Nop m.Nop e.Nop s.Copro 128

-- a table has under a number what it has without an entry for another
pub passed : {A : Type 0} (n : ℕ) (c : ℕ × A) (cs : List (ℕ × A)) (other : A) → eqb n c.0 ≡ false
    → table_entry n (c ∷ cs) other ≡ table_entry n cs other
passed {A} n c cs other h = ap {A = Bool} {B = A} (λ t. elim t [ true ↦ c.1 | false ↦ table_entry n cs other ]) h

-- none of the four system registers
pub none_of : {A : Type 0} (n : ℕ) (v w y z other : A) → eqb n 8 ≡ false → eqb n 12 ≡ false → eqb n 13 ≡ false
    → eqb n 14 ≡ false → table_entry n ((8, v) ∷ (12, w) ∷ (13, y) ∷ (14, z) ∷ []) other ≡ other
none_of n v w y z other h8 h12 h13 h14 =
    passed n (8, v) ((12, w) ∷ (13, y) ∷ (14, z) ∷ []) other h8
    ∙ passed n (12, w) ((13, y) ∷ (14, z) ∷ []) other h12
    ∙ passed n (13, y) ((14, z) ∷ []) other h13
    ∙ passed n (14, z) [] other h14

module _ (deny : Refusals) (lines : ℕ) (b : Book) (dt : ℕ) (fit : IsFit b) (law : WordsStayWords) where
  abbrev g : Regs
  g = b.regs

  abbrev next : ℕ
  next = (b.regs.pc + 4) % 2 ^ 32

  -- whether the fetch behind a straight path is refused
  abbrev unfetched : Bool
  unfetched = deny.unreadable (word_of next)

  abbrev calls_system_rows : Rows
  calls_system_rows =
      (16, init) ∷ (256, special) ∷ (560, row x.C0 y.C0 Sum r.Nop m.Nop e.Sys s.Next 15) ∷ (15, fetch) ∷ []

  calls_system_walk :
      walk deny lines calls_system_rows (world_at b dt 16 None)
      ≡ ending lines (after_fetch deny (effect_of deny b Instruction.system_call (with_risen_pc b))) dt
  calls_system_walk = refl

  pub calls_system : (o : opcode g.ir ≡ 0) (fe : function g.ir ≡ 12)
      → Reaches deny lines b dt 16 None 4 (effect_of deny b Instruction.system_call (with_risen_pc b))
  unfolding rows
  calls_system o fe =
      record {
        rows = calls_system_rows;
        long = refl;
        plain = refl;
        leads = (refl, refl) ↠ (ap (λ n. 256 + n * 4) o, refl) ↠ (ap (λ n. 512 + n * 4) fe, refl) ↠ (refl, refl) ↠ tt;
        last = dt;
        arrives = calls_system_walk;
      }

  abbrev breaks_rows : Rows
  breaks_rows = (16, init) ∷ (256, special) ∷ (564, row x.C0 y.C0 Sum r.Nop m.Nop e.Brk s.Next 15) ∷ (15, fetch) ∷ []

  breaks_walk :
      walk deny lines breaks_rows (world_at b dt 16 None)
      ≡ ending lines (after_fetch deny (effect_of deny b Instruction.breakpoint (with_risen_pc b))) dt
  breaks_walk = refl

  pub breaks : (o : opcode g.ir ≡ 0) (fe : function g.ir ≡ 13)
      → Reaches deny lines b dt 16 None 4 (effect_of deny b Instruction.breakpoint (with_risen_pc b))
  unfolding rows
  breaks o fe =
      record {
        rows = breaks_rows;
        long = refl;
        plain = refl;
        leads = (refl, refl) ↠ (ap (λ n. 256 + n * 4) o, refl) ↠ (ap (λ n. 512 + n * 4) fe, refl) ↠ (refl, refl) ↠ tt;
        last = dt;
        arrives = breaks_walk;
      }

  abbrev unassigned_function_rows : (f : ℕ) → Rows
  unassigned_function_rows f = (16, init) ∷ (256, special) ∷ (512 + f * 4, illegal) ∷ (15, fetch) ∷ []

  unassigned_function_walk : (f : ℕ)
      → walk deny lines (unassigned_function_rows f) (world_at b dt 16 None)
      ≡ ending lines (after_fetch deny (effect_of deny b Instruction.unassigned_function (with_risen_pc b))) dt
  unassigned_function_walk f = refl

  pub unassigned_function_lem :
      (f : ℕ) (o : opcode g.ir ≡ 0) (fe : function g.ir ≡ f) (h1 : row_at (512 + f * 4) ≡ illegal)
      → Reaches deny lines b dt 16 None 4 (effect_of deny b Instruction.unassigned_function (with_risen_pc b))
  unfolding rows
  unassigned_function_lem f o fe h1 =
      record {
        rows = unassigned_function_rows f;
        long = refl;
        plain = refl;
        leads = (refl, refl) ↠ (ap (λ n. 256 + n * 4) o, refl) ↠ (ap (λ n. 512 + n * 4) fe, h1) ↠ (refl, refl) ↠ tt;
        last = dt;
        arrives = unassigned_function_walk f;
      }

  abbrev unassigned_opcode_rows : (k : ℕ) → Rows
  unassigned_opcode_rows k = (16, init) ∷ (256 + k * 4, illegal) ∷ (15, fetch) ∷ []

  unassigned_opcode_walk : (k : ℕ)
      → walk deny lines (unassigned_opcode_rows k) (world_at b dt 16 None)
      ≡ ending lines (after_fetch deny (effect_of deny b Instruction.unassigned_opcode (with_risen_pc b))) dt
  unassigned_opcode_walk k = refl

  pub unassigned_opcode_lem : (k : ℕ) (o : opcode g.ir ≡ k) (h1 : row_at (256 + k * 4) ≡ illegal)
      → Reaches deny lines b dt 16 None 3 (effect_of deny b Instruction.unassigned_opcode (with_risen_pc b))
  unfolding rows
  unassigned_opcode_lem k o h1 =
      record {
        rows = unassigned_opcode_rows k;
        long = refl;
        plain = refl;
        leads = (refl, refl) ↠ (ap (λ n. 256 + n * 4) o, h1) ↠ (refl, refl) ↠ tt;
        last = dt;
        arrives = unassigned_opcode_walk k;
      }

  abbrev returns_rows : (n : ℕ) → Rows
  returns_rows n = (16, init) ∷ (320, copro) ∷ (n, row x.C0 y.C0 Sum r.Rfe m.Nop e.Cpu s.Next 15) ∷ (15, fetch) ∷ []

  -- the world after a row that only the system may run
  abbrev mode_world : Regs → ℕ → Bool → World
  mode_world h n u =
      record {
        state =
            record {
              regs =
                  with_ir g.ir (cond (may_write r.Rfe e.Cpu None (fault_if u f.Cpu)) h (with_risen_pc b));
              dt = dt;
              flag = flag_after e.Cpu None (fault_if u f.Cpu);
              row = n;
              sampled = b.sampled;
              ledger = b.ledger;
            };
        bytes = b.bytes;
      }

  returns_mode : (u : Bool)
      → walk deny lines ((15, fetch) ∷ []) (mode_world (with_sr (sr_on_return g.sr) (with_risen_pc b)) 15 u)
      ≡ ending lines
      (after_fetch deny
      (cond u (with_fault b f.Cpu (with_risen_pc b))
      (without_fault b (with_sr (sr_on_return g.sr) (with_risen_pc b))))) dt
  returns_mode true = refl
  returns_mode false = fetching deny lines b (with_sr (sr_on_return g.sr) (with_risen_pc b)) dt 15

  returns_walk : (n : ℕ)
      → walk deny lines (returns_rows n) (world_at b dt 16 None)
      ≡ ending lines (after_fetch deny (effect_of deny b Instruction.return_from_exception (with_risen_pc b))) dt
  returns_walk n = returns_mode (is_user_mode g.sr)

  pub returns : (o : opcode g.ir ≡ 16) (p : bit 25 g.ir ≡ true)
      → Reaches deny lines b dt 16 None 4 (effect_of deny b Instruction.return_from_exception (with_risen_pc b))
  unfolding rows
  returns o p =
      split (bit 23 g.ir)
      (λ q.
      record {
        rows = returns_rows 131;
        long = refl;
        plain = refl;
        leads = (refl, refl) ↠ (ap (λ n. 256 + n * 4) o, refl) ↠ (rw (p, q) refl, refl) ↠ (refl, refl) ↠ tt;
        last =
            dt;
        arrives = returns_walk 131;
      })
      (λ q.
      record {
        rows = returns_rows 130;
        long = refl;
        plain = refl;
        leads = (refl, refl) ↠ (ap (λ n. 256 + n * 4) o, refl) ↠ (rw (p, q) refl, refl) ↠ (refl, refl) ↠ tt;
        last =
            dt;
        arrives = returns_walk 130;
      })

  -- a move in either mode, from what its last rows do in each
  moved_mode : (ps : Rows) (n : ℕ) (made' : Effect)
      → walk deny lines ps (amid b (with_risen_pc b) dt None n) ≡ ending lines (after_fetch deny made') dt
      → walk deny lines ps (amid b (with_risen_pc b) dt (Some f.Cpu) n)
      ≡ ending lines (with_fault b f.Cpu (with_risen_pc b)) dt
      → (u : Bool)
      → walk deny lines ps (mode_world (with_risen_pc b) n u)
      ≡ ending lines (after_fetch deny (cond u (with_fault b f.Cpu (with_risen_pc b)) made')) dt
  moved_mode ps n made' here there true = there
  moved_mode ps n made' here there false = here

  abbrev mfc0 : Row
  mfc0 = row x.C0 y.C0 Sum r.Nop m.Nop e.Cpu s.Movc0 144

  abbrev mtc0 : Row
  mtc0 = row x.C0 y.C0 Sum r.Nop m.Nop e.Cpu s.Movc0 160

  abbrev moves_from_bar_rows : Rows
  moves_from_bar_rows =
      (16, init) ∷ (320, copro) ∷ (128, mfc0) ∷ (152, row x.Bar y.C0 Sum r.Rt m.If e.Ibe s.Rie 16) ∷ []

  moves_from_bar_last : (n : ℕ)
      → walk deny lines ((152, row x.Bar y.C0 Sum r.Rt m.If e.Ibe s.Rie 16) ∷ []) (amid b (with_risen_pc b) dt None n)
      ≡ ending lines (after_fetch deny (from_system b (with_risen_pc b) 8)) dt
  moves_from_bar_last n =
      split unfetched (λ q. simp (q, plus_nothing g.bar fit.words.bar))
      (λ q. simp (q, plus_nothing g.bar fit.words.bar))

  moves_from_bar_walk :
      walk deny lines moves_from_bar_rows (world_at b dt 16 None)
      ≡ ending lines (after_fetch deny (effect_of deny b (Instruction.move_from_system 8) (with_risen_pc b))) dt
  moves_from_bar_walk =
      moved_mode ((152, row x.Bar y.C0 Sum r.Rt m.If e.Ibe s.Rie 16) ∷ []) (144 + system_number g.ir)
      (from_system b (with_risen_pc b) 8) (moves_from_bar_last (144 + system_number g.ir)) refl (is_user_mode g.sr)

  pub moves_from_bar :
      (o : opcode g.ir ≡ 16) (p : bit 25 g.ir ≡ false) (q : bit 23 g.ir ≡ false) (n : system_number g.ir ≡ 8)
      → Reaches deny lines b dt 16 None 4 (effect_of deny b (Instruction.move_from_system 8) (with_risen_pc b))
  unfolding rows
  moves_from_bar o p q n =
      record {
        rows = moves_from_bar_rows;
        long = refl;
        plain = refl;
        leads =
            (refl, refl)
            ↠ (ap (λ k. 256 + k * 4) o, refl)
            ↠ (rw (p, q) refl, refl)
            ↠ (ap (λ k. 144 + k) n, refl)
            ↠ tt;
        last = dt;
        arrives = moves_from_bar_walk;
      }

  abbrev moves_from_sr_rows : Rows
  moves_from_sr_rows = (16, init) ∷ (320, copro) ∷ (128, mfc0) ∷ (156, row x.Sr y.C0 Sum r.Rt m.If e.Ibe s.Rie 16) ∷ []

  moves_from_sr_last : (n : ℕ)
      → walk deny lines ((156, row x.Sr y.C0 Sum r.Rt m.If e.Ibe s.Rie 16) ∷ []) (amid b (with_risen_pc b) dt None n)
      ≡ ending lines (after_fetch deny (from_system b (with_risen_pc b) 12)) dt
  moves_from_sr_last n =
      split unfetched (λ q. simp (q, plus_nothing g.sr fit.words.sr)) (λ q. simp (q, plus_nothing g.sr fit.words.sr))

  moves_from_sr_walk :
      walk deny lines moves_from_sr_rows (world_at b dt 16 None)
      ≡ ending lines (after_fetch deny (effect_of deny b (Instruction.move_from_system 12) (with_risen_pc b))) dt
  moves_from_sr_walk =
      moved_mode ((156, row x.Sr y.C0 Sum r.Rt m.If e.Ibe s.Rie 16) ∷ []) (144 + system_number g.ir)
      (from_system b (with_risen_pc b) 12) (moves_from_sr_last (144 + system_number g.ir)) refl (is_user_mode g.sr)

  pub moves_from_sr :
      (o : opcode g.ir ≡ 16) (p : bit 25 g.ir ≡ false) (q : bit 23 g.ir ≡ false) (n : system_number g.ir ≡ 12)
      → Reaches deny lines b dt 16 None 4 (effect_of deny b (Instruction.move_from_system 12) (with_risen_pc b))
  unfolding rows
  moves_from_sr o p q n =
      record {
        rows = moves_from_sr_rows;
        long = refl;
        plain = refl;
        leads =
            (refl, refl)
            ↠ (ap (λ k. 256 + k * 4) o, refl)
            ↠ (rw (p, q) refl, refl)
            ↠ (ap (λ k. 144 + k) n, refl)
            ↠ tt;
        last = dt;
        arrives = moves_from_sr_walk;
      }

  abbrev moves_from_cr_rows : Rows
  moves_from_cr_rows = (16, init) ∷ (320, copro) ∷ (128, mfc0) ∷ (157, row x.Cr y.C0 Sum r.Rt m.If e.Ibe s.Rie 16) ∷ []

  moves_from_cr_last : (n : ℕ)
      → walk deny lines ((157, row x.Cr y.C0 Sum r.Rt m.If e.Ibe s.Rie 16) ∷ []) (amid b (with_risen_pc b) dt None n)
      ≡ ending lines (after_fetch deny (from_system b (with_risen_pc b) 13)) dt
  moves_from_cr_last n =
      split unfetched (λ q. simp (q, plus_nothing (cr_with_lines b.sampled g.cr) (law.cr b.sampled g.cr fit.words.cr)))
      (λ q. simp (q, plus_nothing (cr_with_lines b.sampled g.cr) (law.cr b.sampled g.cr fit.words.cr)))

  moves_from_cr_walk :
      walk deny lines moves_from_cr_rows (world_at b dt 16 None)
      ≡ ending lines (after_fetch deny (effect_of deny b (Instruction.move_from_system 13) (with_risen_pc b))) dt
  moves_from_cr_walk =
      moved_mode ((157, row x.Cr y.C0 Sum r.Rt m.If e.Ibe s.Rie 16) ∷ []) (144 + system_number g.ir)
      (from_system b (with_risen_pc b) 13) (moves_from_cr_last (144 + system_number g.ir)) refl (is_user_mode g.sr)

  pub moves_from_cr :
      (o : opcode g.ir ≡ 16) (p : bit 25 g.ir ≡ false) (q : bit 23 g.ir ≡ false) (n : system_number g.ir ≡ 13)
      → Reaches deny lines b dt 16 None 4 (effect_of deny b (Instruction.move_from_system 13) (with_risen_pc b))
  unfolding rows
  moves_from_cr o p q n =
      record {
        rows = moves_from_cr_rows;
        long = refl;
        plain = refl;
        leads =
            (refl, refl)
            ↠ (ap (λ k. 256 + k * 4) o, refl)
            ↠ (rw (p, q) refl, refl)
            ↠ (ap (λ k. 144 + k) n, refl)
            ↠ tt;
        last = dt;
        arrives = moves_from_cr_walk;
      }

  abbrev moves_from_epc_rows : Rows
  moves_from_epc_rows =
      (16, init) ∷ (320, copro) ∷ (128, mfc0) ∷ (158, row x.Epc y.C0 Sum r.Rt m.If e.Ibe s.Rie 16) ∷ []

  moves_from_epc_last : (n : ℕ)
      → walk deny lines ((158, row x.Epc y.C0 Sum r.Rt m.If e.Ibe s.Rie 16) ∷ []) (amid b (with_risen_pc b) dt None n)
      ≡ ending lines (after_fetch deny (from_system b (with_risen_pc b) 14)) dt
  moves_from_epc_last n =
      split unfetched (λ q. simp (q, plus_nothing g.epc fit.words.epc))
      (λ q. simp (q, plus_nothing g.epc fit.words.epc))

  moves_from_epc_walk :
      walk deny lines moves_from_epc_rows (world_at b dt 16 None)
      ≡ ending lines (after_fetch deny (effect_of deny b (Instruction.move_from_system 14) (with_risen_pc b))) dt
  moves_from_epc_walk =
      moved_mode ((158, row x.Epc y.C0 Sum r.Rt m.If e.Ibe s.Rie 16) ∷ []) (144 + system_number g.ir)
      (from_system b (with_risen_pc b) 14) (moves_from_epc_last (144 + system_number g.ir)) refl (is_user_mode g.sr)

  pub moves_from_epc :
      (o : opcode g.ir ≡ 16) (p : bit 25 g.ir ≡ false) (q : bit 23 g.ir ≡ false) (n : system_number g.ir ≡ 14)
      → Reaches deny lines b dt 16 None 4 (effect_of deny b (Instruction.move_from_system 14) (with_risen_pc b))
  unfolding rows
  moves_from_epc o p q n =
      record {
        rows = moves_from_epc_rows;
        long = refl;
        plain = refl;
        leads =
            (refl, refl)
            ↠ (ap (λ k. 256 + k * 4) o, refl)
            ↠ (rw (p, q) refl, refl)
            ↠ (ap (λ k. 144 + k) n, refl)
            ↠ tt;
        last = dt;
        arrives = moves_from_epc_walk;
      }

  moves_from_none_made : (n : ℕ) → eqb n 8 ≡ false → eqb n 12 ≡ false → eqb n 13 ≡ false → eqb n 14 ≡ false
      → from_system b (with_risen_pc b) n ≡ with_fault b f.Ri (with_risen_pc b)
  moves_from_none_made n h8 h12 h13 h14 =
      none_of n (without_fault b (with_register (rt g.ir) g.bar (with_risen_pc b)))
      (without_fault b (with_register (rt g.ir) g.sr (with_risen_pc b)))
      (without_fault b (with_register (rt g.ir) (cr_with_lines b.sampled g.cr) (with_risen_pc b)))
      (without_fault b (with_register (rt g.ir) g.epc (with_risen_pc b)))
      (with_fault b f.Ri (with_risen_pc b)) h8 h12 h13
      h14

  abbrev moves_from_none_rows : (n : ℕ) → Rows
  moves_from_none_rows n = (16, init) ∷ (320, copro) ∷ (128, mfc0) ∷ (144 + n, illegal) ∷ (15, fetch) ∷ []

  moves_from_none_walk : (n : ℕ) → eqb n 8 ≡ false → eqb n 12 ≡ false → eqb n 13 ≡ false → eqb n 14 ≡ false
      → walk deny lines (moves_from_none_rows n) (world_at b dt 16 None)
      ≡ ending lines (after_fetch deny (effect_of deny b (Instruction.move_from_system n) (with_risen_pc b))) dt
  moves_from_none_walk n h8 h12 h13 h14 =
      moved_mode ((144 + n, illegal) ∷ (15, fetch) ∷ []) (144 + system_number g.ir)
      (with_fault b f.Ri (with_risen_pc b))
      refl refl (is_user_mode g.sr)
      ∙ ap (λ (v : Effect). ending lines (after_fetch deny (unless_user_mode b (with_risen_pc b) v)) dt)
      (sym (moves_from_none_made n h8 h12 h13 h14))

  pub moves_from_none :
      (k : ℕ) (o : opcode g.ir ≡ 16) (p : bit 25 g.ir ≡ false) (q : bit 23 g.ir ≡ false) (n : system_number g.ir ≡ k)
      (h1 : row_at (144 + k) ≡ illegal) (h8 : eqb k 8 ≡ false) (h12 : eqb k 12 ≡ false) (h13 : eqb k 13 ≡ false)
      (h14 : eqb k 14 ≡ false)
      → Reaches deny lines b dt 16 None 5 (effect_of deny b (Instruction.move_from_system k) (with_risen_pc b))
  unfolding rows
  moves_from_none k o p q n h1 h8 h12 h13 h14 =
      record {
        rows = moves_from_none_rows k;
        long = refl;
        plain = refl;
        leads =
            (refl, refl)
            ↠ (ap (λ i. 256 + i * 4) o, refl)
            ↠ (rw (p, q) refl, refl)
            ↠ (ap (λ i. 144 + i) n, h1)
            ↠ (refl, refl)
            ↠ tt;
        last = dt;
        arrives = moves_from_none_walk k h8 h12 h13 h14;
      }

  abbrev moves_to_bar_rows : Rows
  moves_to_bar_rows = (16, init) ∷ (320, copro) ∷ (129, mtc0) ∷ (168, row x.Rt y.C0 Sum r.Bar m.If e.Ibe s.Rie 16) ∷ []

  moves_to_bar_last : (n : ℕ)
      → walk deny lines ((168, row x.Rt y.C0 Sum r.Bar m.If e.Ibe s.Rie 16) ∷ []) (amid b (with_risen_pc b) dt None n)
      ≡ ending lines (after_fetch deny (to_system b (with_risen_pc b) 8)) dt
  moves_to_bar_last n = split unfetched (λ q. simp (q, rt_word b fit)) (λ q. simp (q, rt_word b fit))

  moves_to_bar_walk :
      walk deny lines moves_to_bar_rows (world_at b dt 16 None)
      ≡ ending lines (after_fetch deny (effect_of deny b (Instruction.move_to_system 8) (with_risen_pc b))) dt
  moves_to_bar_walk =
      moved_mode ((168, row x.Rt y.C0 Sum r.Bar m.If e.Ibe s.Rie 16) ∷ []) (160 + system_number g.ir)
      (to_system b (with_risen_pc b) 8) (moves_to_bar_last (160 + system_number g.ir)) refl (is_user_mode g.sr)

  pub moves_to_bar :
      (o : opcode g.ir ≡ 16) (p : bit 25 g.ir ≡ false) (q : bit 23 g.ir ≡ true) (n : system_number g.ir ≡ 8)
      → Reaches deny lines b dt 16 None 4 (effect_of deny b (Instruction.move_to_system 8) (with_risen_pc b))
  unfolding rows
  moves_to_bar o p q n =
      record {
        rows = moves_to_bar_rows;
        long = refl;
        plain = refl;
        leads =
            (refl, refl)
            ↠ (ap (λ k. 256 + k * 4) o, refl)
            ↠ (rw (p, q) refl, refl)
            ↠ (ap (λ k. 160 + k) n, refl)
            ↠ tt;
        last = dt;
        arrives = moves_to_bar_walk;
      }

  abbrev moves_to_sr_rows : Rows
  moves_to_sr_rows = (16, init) ∷ (320, copro) ∷ (129, mtc0) ∷ (172, row x.Rt y.C0 Sum r.Sr m.If e.Ibe s.Rie 16) ∷ []

  moves_to_sr_last : (n : ℕ)
      → walk deny lines ((172, row x.Rt y.C0 Sum r.Sr m.If e.Ibe s.Rie 16) ∷ []) (amid b (with_risen_pc b) dt None n)
      ≡ ending lines (after_fetch deny (to_system b (with_risen_pc b) 12)) dt
  moves_to_sr_last n = split unfetched (λ q. simp (q, rt_word b fit)) (λ q. simp (q, rt_word b fit))

  moves_to_sr_walk :
      walk deny lines moves_to_sr_rows (world_at b dt 16 None)
      ≡ ending lines (after_fetch deny (effect_of deny b (Instruction.move_to_system 12) (with_risen_pc b))) dt
  moves_to_sr_walk =
      moved_mode ((172, row x.Rt y.C0 Sum r.Sr m.If e.Ibe s.Rie 16) ∷ []) (160 + system_number g.ir)
      (to_system b (with_risen_pc b) 12) (moves_to_sr_last (160 + system_number g.ir)) refl (is_user_mode g.sr)

  pub moves_to_sr :
      (o : opcode g.ir ≡ 16) (p : bit 25 g.ir ≡ false) (q : bit 23 g.ir ≡ true) (n : system_number g.ir ≡ 12)
      → Reaches deny lines b dt 16 None 4 (effect_of deny b (Instruction.move_to_system 12) (with_risen_pc b))
  unfolding rows
  moves_to_sr o p q n =
      record {
        rows = moves_to_sr_rows;
        long = refl;
        plain = refl;
        leads =
            (refl, refl)
            ↠ (ap (λ k. 256 + k * 4) o, refl)
            ↠ (rw (p, q) refl, refl)
            ↠ (ap (λ k. 160 + k) n, refl)
            ↠ tt;
        last = dt;
        arrives = moves_to_sr_walk;
      }

  abbrev moves_to_cr_rows : Rows
  moves_to_cr_rows = (16, init) ∷ (320, copro) ∷ (129, mtc0) ∷ (173, row x.Rt y.C0 Sum r.Cr m.If e.Ibe s.Rie 16) ∷ []

  moves_to_cr_last : (n : ℕ)
      → walk deny lines ((173, row x.Rt y.C0 Sum r.Cr m.If e.Ibe s.Rie 16) ∷ []) (amid b (with_risen_pc b) dt None n)
      ≡ ending lines (after_fetch deny (to_system b (with_risen_pc b) 13)) dt
  moves_to_cr_last n = split unfetched (λ q. simp (q, rt_word b fit)) (λ q. simp (q, rt_word b fit))

  moves_to_cr_walk :
      walk deny lines moves_to_cr_rows (world_at b dt 16 None)
      ≡ ending lines (after_fetch deny (effect_of deny b (Instruction.move_to_system 13) (with_risen_pc b))) dt
  moves_to_cr_walk =
      moved_mode ((173, row x.Rt y.C0 Sum r.Cr m.If e.Ibe s.Rie 16) ∷ []) (160 + system_number g.ir)
      (to_system b (with_risen_pc b) 13) (moves_to_cr_last (160 + system_number g.ir)) refl (is_user_mode g.sr)

  pub moves_to_cr :
      (o : opcode g.ir ≡ 16) (p : bit 25 g.ir ≡ false) (q : bit 23 g.ir ≡ true) (n : system_number g.ir ≡ 13)
      → Reaches deny lines b dt 16 None 4 (effect_of deny b (Instruction.move_to_system 13) (with_risen_pc b))
  unfolding rows
  moves_to_cr o p q n =
      record {
        rows = moves_to_cr_rows;
        long = refl;
        plain = refl;
        leads =
            (refl, refl)
            ↠ (ap (λ k. 256 + k * 4) o, refl)
            ↠ (rw (p, q) refl, refl)
            ↠ (ap (λ k. 160 + k) n, refl)
            ↠ tt;
        last = dt;
        arrives = moves_to_cr_walk;
      }

  abbrev moves_to_epc_rows : Rows
  moves_to_epc_rows = (16, init) ∷ (320, copro) ∷ (129, mtc0) ∷ (174, row x.Rt y.C0 Sum r.Epc m.If e.Ibe s.Rie 16) ∷ []

  moves_to_epc_last : (n : ℕ)
      → walk deny lines ((174, row x.Rt y.C0 Sum r.Epc m.If e.Ibe s.Rie 16) ∷ []) (amid b (with_risen_pc b) dt None n)
      ≡ ending lines (after_fetch deny (to_system b (with_risen_pc b) 14)) dt
  moves_to_epc_last n = split unfetched (λ q. simp (q, rt_word b fit)) (λ q. simp (q, rt_word b fit))

  moves_to_epc_walk :
      walk deny lines moves_to_epc_rows (world_at b dt 16 None)
      ≡ ending lines (after_fetch deny (effect_of deny b (Instruction.move_to_system 14) (with_risen_pc b))) dt
  moves_to_epc_walk =
      moved_mode ((174, row x.Rt y.C0 Sum r.Epc m.If e.Ibe s.Rie 16) ∷ []) (160 + system_number g.ir)
      (to_system b (with_risen_pc b) 14) (moves_to_epc_last (160 + system_number g.ir)) refl (is_user_mode g.sr)

  pub moves_to_epc :
      (o : opcode g.ir ≡ 16) (p : bit 25 g.ir ≡ false) (q : bit 23 g.ir ≡ true) (n : system_number g.ir ≡ 14)
      → Reaches deny lines b dt 16 None 4 (effect_of deny b (Instruction.move_to_system 14) (with_risen_pc b))
  unfolding rows
  moves_to_epc o p q n =
      record {
        rows = moves_to_epc_rows;
        long = refl;
        plain = refl;
        leads =
            (refl, refl)
            ↠ (ap (λ k. 256 + k * 4) o, refl)
            ↠ (rw (p, q) refl, refl)
            ↠ (ap (λ k. 160 + k) n, refl)
            ↠ tt;
        last = dt;
        arrives = moves_to_epc_walk;
      }

  moves_to_none_made : (n : ℕ) → eqb n 8 ≡ false → eqb n 12 ≡ false → eqb n 13 ≡ false → eqb n 14 ≡ false
      → to_system b (with_risen_pc b) n ≡ with_fault b f.Ri (with_risen_pc b)
  moves_to_none_made n h8 h12 h13 h14 =
      none_of n (without_fault b (with_bar (reg g (rt g.ir)) (with_risen_pc b))) (to_sr b (with_risen_pc b))
      (without_fault b (with_cr (reg g (rt g.ir)) (with_risen_pc b)))
      (without_fault b (with_epc (reg g (rt g.ir)) (with_risen_pc b)))
      (with_fault b f.Ri (with_risen_pc b)) h8 h12 h13 h14

  abbrev moves_to_none_rows : (n : ℕ) → Rows
  moves_to_none_rows n = (16, init) ∷ (320, copro) ∷ (129, mtc0) ∷ (160 + n, illegal) ∷ (15, fetch) ∷ []

  moves_to_none_walk : (n : ℕ) → eqb n 8 ≡ false → eqb n 12 ≡ false → eqb n 13 ≡ false → eqb n 14 ≡ false
      → walk deny lines (moves_to_none_rows n) (world_at b dt 16 None)
      ≡ ending lines (after_fetch deny (effect_of deny b (Instruction.move_to_system n) (with_risen_pc b))) dt
  moves_to_none_walk n h8 h12 h13 h14 =
      moved_mode ((160 + n, illegal) ∷ (15, fetch) ∷ []) (160 + system_number g.ir)
      (with_fault b f.Ri (with_risen_pc b))
      refl refl (is_user_mode g.sr)
      ∙ ap (λ (v : Effect). ending lines (after_fetch deny (unless_user_mode b (with_risen_pc b) v)) dt)
      (sym (moves_to_none_made n h8 h12 h13 h14))

  pub moves_to_none :
      (k : ℕ) (o : opcode g.ir ≡ 16) (p : bit 25 g.ir ≡ false) (q : bit 23 g.ir ≡ true) (n : system_number g.ir ≡ k)
      (h1 : row_at (160 + k) ≡ illegal) (h8 : eqb k 8 ≡ false) (h12 : eqb k 12 ≡ false) (h13 : eqb k 13 ≡ false)
      (h14 : eqb k 14 ≡ false)
      → Reaches deny lines b dt 16 None 5 (effect_of deny b (Instruction.move_to_system k) (with_risen_pc b))
  unfolding rows
  moves_to_none k o p q n h1 h8 h12 h13 h14 =
      record {
        rows = moves_to_none_rows k;
        long = refl;
        plain = refl;
        leads =
            (refl, refl)
            ↠ (ap (λ i. 256 + i * 4) o, refl)
            ↠ (rw (p, q) refl, refl)
            ↠ (ap (λ i. 160 + i) n, h1)
            ↠ (refl, refl)
            ↠ tt;
        last = dt;
        arrives = moves_to_none_walk k h8 h12 h13 h14;
      }
