-- Jumps, and how a path that goes to another address ends. Assumes nothing.
use Rattle.std.proofs.Common.{◌≡◌, ℕ, ◌+◌, ◌*◌, ◌%◌, ◌^◌, ◌<◌, Bool, true, false, cond, [], ◌∷◌, None, refl, ap}
use Rattle.std.proofs.Common.{◌∙◌}
use Rattle.machine.specs.Address.{is_misplaced}
use Rattle.machine.specs.Registers.{Regs, reg, with_ad, with_pc, with_register}
use Rattle.machine.specs.Word.{function, jump_address, opcode, rd, rs}
use Rattle.machine.specs.Words.{WordsStayWords}
use Rattle.machine.specs.declared.fault.Fault.TheVariants as f
use Rattle.machine.specs.declared.operation.Operation.TheVariants.{Or, Sum}
use Rattle.rows.specs.Rows.{rows}
use Rattle.rows.specs.declared.row.Destination.TheVariants as r
use Rattle.rows.specs.declared.row.Detection.TheVariants as e
use Rattle.rows.specs.declared.row.OperandX.TheVariants as x
use Rattle.rows.specs.declared.row.OperandY.TheVariants as y
use Rattle.rows.specs.declared.row.Row.{Row}
use Rattle.rows.specs.declared.row.Sequencing.TheVariants as s
use Rattle.rows.specs.declared.row.Transfer.TheVariants as m
use Rattle.microprogram.specs.Cycle.{fault_if}
use Rattle.book.specs.Book.{Book, Refusals, after_fetch, effect_of, jump_to, with_risen_pc, with_fault, without_fault}
use Rattle.book.specs.Fit.{IsFit}
use Rattle.book.specs.Instruction.{Instruction}
use Rattle.paths.specs.Instant.{World}
use Rattle.paths.specs.Path.{world_at}
use Rattle.paths.proofs.Walk.{◌↠◌, Rows, amid, ending, fetching, plus_nothing, row, walk, init, special, fetch, below}
use Rattle.paths.proofs.Walk.{Reaches}

abbrev pub branch : Row
branch = row x.Ad y.C0 Sum r.Pc m.Nop e.Nop s.Next 15

-- the world in which a target has come to AD
abbrev pub landing : Book → ℕ → Regs → ℕ → World
landing b dt g t = amid b (with_ad t g) dt (fault_if (is_misplaced 4 g.sr t) f.Adel) 31

arrives_if : (deny : Refusals) (lines : ℕ) (b : Book) (dt : ℕ) (g : Regs) (t : ℕ) → t < 2 ^ 32 → (bad : Bool) →
    walk deny lines ((31, branch) ∷ (15, fetch) ∷ []) (amid b (with_ad t g) dt (fault_if bad f.Adel) 31)
    ≡ ending lines
    (after_fetch deny (cond bad (with_fault b f.Adel (with_ad t g)) (without_fault b (with_pc t (with_ad t g)))))
    dt
arrives_if deny lines b dt g t h true = refl
arrives_if deny lines b dt g t h false =
    ap (λ v. walk deny lines ((15, fetch) ∷ []) (amid b (with_pc v (with_ad t g)) dt None 15)) (plus_nothing t h)
    ∙ fetching deny lines b (with_pc t (with_ad t g)) dt 15

-- the rows after a target has come to AD
pub lands : (deny : Refusals) (lines : ℕ) (b : Book) (dt : ℕ) (g : Regs) (t : ℕ) → t < 2 ^ 32 →
    walk deny lines ((31, branch) ∷ (15, fetch) ∷ []) (landing b dt g t)
    ≡ ending lines (after_fetch deny (jump_to b t g)) dt
lands deny lines b dt g t h = arrives_if deny lines b dt g t h (is_misplaced 4 g.sr t)

module _ (deny : Refusals) (lines : ℕ) (b : Book) (dt : ℕ) (fit : IsFit b) (law : WordsStayWords) where
  abbrev g : Regs
  g = b.regs

  abbrev next : ℕ
  next = (b.regs.pc + 4) % 2 ^ 32

  abbrev after : Rows
  after = (31, branch) ∷ (15, fetch) ∷ []

  next_word : (next + 0) % 2 ^ 32 ≡ next
  next_word = plus_nothing next (below (b.regs.pc + 4))

  abbrev jumps_register_rows : Rows
  jumps_register_rows = (16, init) ∷ (256, special) ∷ (544, row x.Rs y.C0 Sum r.Ad m.Nop e.If s.Next 31) ∷ after

  jumps_register_walk :
      walk deny lines jumps_register_rows (world_at b dt 16 None)
      ≡ ending lines (after_fetch deny (effect_of deny b Instruction.jump_register (with_risen_pc b))) dt
  jumps_register_walk =
      ap (λ t. walk deny lines after (landing b dt (with_risen_pc b) t))
      (plus_nothing (reg g (rs g.ir)) (fit.words.general (rs g.ir)))
      ∙ lands deny lines b dt (with_risen_pc b) (reg g (rs g.ir)) (fit.words.general (rs g.ir))

  pub jumps_register : (o : opcode g.ir ≡ 0) (fe : function g.ir ≡ 8)
      → Reaches deny lines b dt 16 None 5 (effect_of deny b Instruction.jump_register (with_risen_pc b))
  unfolding rows
  jumps_register o fe =
      record {
        rows = jumps_register_rows;
        long = refl;
        plain = refl;
        leads =
            (refl, refl)
            ↠ (ap (λ n. 256 + n * 4) o, refl)
            ↠ (ap (λ n. 512 + n * 4) fe, refl)
            ↠ (refl, refl)
            ↠ (refl, refl)
            ↠ tt;
        last = dt;
        arrives = jumps_register_walk;
      }

  -- the registers after a link in RD, and RS then
  abbrev link_in : ℕ → ℕ → Regs
  link_in n v = with_register n v (with_risen_pc b)

  link_small : (n k : ℕ) → reg (link_in n next) k < 2 ^ 32
  link_small n k = law.general (with_risen_pc b) n k next (below (b.regs.pc + 4)) fit.words.general

  abbrev jumps_link_register_rows : Rows
  jumps_link_register_rows =
      (16, init)
      ∷ (256, special)
      ∷ (548, row x.Pc y.C0 Sum r.Rd m.Nop e.Nop s.Next 544)
      ∷ (544, row x.Rs y.C0 Sum r.Ad m.Nop e.If s.Next 31)
      ∷ after

  jumps_link_register_walk :
      walk deny lines jumps_link_register_rows (world_at b dt 16 None)
      ≡ ending lines (after_fetch deny (effect_of deny b Instruction.jump_link_register (with_risen_pc b))) dt
  jumps_link_register_walk =
      ap (λ v.
      walk deny lines ((544, row x.Rs y.C0 Sum r.Ad m.Nop e.If s.Next 31) ∷ after)
      (amid b (link_in (rd g.ir) v) dt None 544)) next_word
      ∙ ap (λ t. walk deny lines after (landing b dt (link_in (rd g.ir) next) t))
      (plus_nothing (reg (link_in (rd g.ir) next) (rs g.ir)) (link_small (rd g.ir) (rs g.ir)))
      ∙ lands deny lines b dt (link_in (rd g.ir) next) (reg (link_in (rd g.ir) next) (rs g.ir))
      (link_small (rd g.ir) (rs g.ir))

  pub jumps_link_register : (o : opcode g.ir ≡ 0) (fe : function g.ir ≡ 9)
      → Reaches deny lines b dt 16 None 6 (effect_of deny b Instruction.jump_link_register (with_risen_pc b))
  unfolding rows
  jumps_link_register o fe =
      record {
        rows = jumps_link_register_rows;
        long = refl;
        plain = refl;
        leads =
            (refl, refl)
            ↠ (ap (λ n. 256 + n * 4) o, refl)
            ↠ (ap (λ n. 512 + n * 4) fe, refl)
            ↠ (refl, refl)
            ↠ (refl, refl)
            ↠ (refl, refl)
            ↠ tt;
        last = dt;
        arrives = jumps_link_register_walk;
      }

  abbrev aimed : ℕ
  aimed = jump_address next g.ir

  aimed_small : aimed < 2 ^ 32
  aimed_small = law.jumps next g.ir (below (b.regs.pc + 4))

  abbrev jumps_rows : Rows
  jumps_rows = (16, init) ∷ (264, row x.Pc4 y.Iu28 Or r.Ad m.Nop e.If s.Next 31) ∷ after

  jumps_walk :
      walk deny lines jumps_rows (world_at b dt 16 None)
      ≡ ending lines (after_fetch deny (effect_of deny b Instruction.jump (with_risen_pc b))) dt
  jumps_walk = lands deny lines b dt (with_risen_pc b) aimed aimed_small

  pub jumps : (o : opcode g.ir ≡ 2)
      → Reaches deny lines b dt 16 None 4 (effect_of deny b Instruction.jump (with_risen_pc b))
  unfolding rows
  jumps o =
      record {
        rows = jumps_rows;
        long = refl;
        plain = refl;
        leads = (refl, refl) ↠ (ap (λ n. 256 + n * 4) o, refl) ↠ (refl, refl) ↠ (refl, refl) ↠ tt;
        last = dt;
        arrives = jumps_walk;
      }

  abbrev jumps_link_rows : Rows
  jumps_link_rows =
      (16, init)
      ∷ (268, row x.Pc y.C0 Sum r.R31 m.Nop e.Nop s.Next 264)
      ∷ (264, row x.Pc4 y.Iu28 Or r.Ad m.Nop e.If s.Next 31)
      ∷ after

  jumps_link_walk :
      walk deny lines jumps_link_rows (world_at b dt 16 None)
      ≡ ending lines (after_fetch deny (effect_of deny b Instruction.jump_link (with_risen_pc b))) dt
  jumps_link_walk =
      ap (λ v. walk deny lines after (landing b dt (link_in 31 v) aimed)) next_word
      ∙ lands deny lines b dt (link_in 31 next) aimed aimed_small

  pub jumps_link : (o : opcode g.ir ≡ 3)
      → Reaches deny lines b dt 16 None 5 (effect_of deny b Instruction.jump_link (with_risen_pc b))
  unfolding rows
  jumps_link o =
      record {
        rows = jumps_link_rows;
        long = refl;
        plain = refl;
        leads = (refl, refl) ↠ (ap (λ n. 256 + n * 4) o, refl) ↠ (refl, refl) ↠ (refl, refl) ↠ (refl, refl) ↠ tt;
        last = dt;
        arrives = jumps_link_walk;
      }
