-- The book begins with words in its registers and bytes in its memory, and every step keeps that. Assumes nothing.
use Rattle.std.proofs.Common.{◌≡◌, ℕ, zero, suc, ◌+◌, ◌-◌, ◌*◌, ◌%◌, ◌^◌, ◌<◌, ◌≤◌, Bool, true, false, cond, ◌&&◌, eqb}
use Rattle.std.proofs.Common.{ltb, leb, [], ◌∷◌, get_or, replicate, Some, None, Option, refl, arith}
use Rattle.bus.specs.Meaning.{stored_byte, word_at}
use Rattle.bus.specs.Request.{word_of}
use Rattle.bus.specs.declared.request.Width.{Width}
use Rattle.bus.specs.declared.request.Width.TheVariants.{Word, Half, Byte}
use Rattle.machine.specs.Address.{is_misplaced, is_user_mode}
use Rattle.machine.specs.Fault.{fault_code}
use Rattle.machine.specs.Interrupt.{cr_with_lines}
use Rattle.machine.specs.Registers.{Regs, reg, with_ad, with_bar, with_cr, with_epc, with_hi, with_ir, with_lo}
use Rattle.machine.specs.Registers.{with_pc, with_register, with_sr}
use Rattle.machine.specs.Word.{immediate, rd, rs, rt, shift_amount}
use Rattle.machine.specs.Words.{WordsStayWords}
use Rattle.machine.specs.declared.fault.Fault.{Fault}
use Rattle.machine.specs.declared.fault.Fault.TheVariants as f
use Rattle.machine.specs.declared.operation.Operation.TheVariants.{Sum}
use Rattle.book.specs.Book.{Book, Effect, Event, Refusals, address, after_fetch, as_word, before_fetch, branch_if}
use Rattle.book.specs.Book.{effect_of, entry_of, from_system, jump_to, load_with, with_risen_pc, raised_byte}
use Rattle.book.specs.Book.{raised_half}
use Rattle.book.specs.Book.{store_with, to_sr, to_system, with_fault, with_link, without_fault}
use Rattle.book.specs.Fit.{BeginsFit, IsFit, StepsFit, HoldsWords}
use Rattle.book.specs.Instruction.{Instruction, instruction_of, table_entry}

-- what holds of two values holds of the one that a test picks
pick : {A : Type 0} (P : A → Type 0) {x y : A} (t : Bool) → P x → P y → P (cond t x y)
pick P true here there = here
pick P false here there = there

below : (n : ℕ) → n % 2 ^ 32 < 2 ^ 32
below n = omega arith

shift_small : (ir : ℕ) → shift_amount ir < 2 ^ 32
shift_small ir = omega arith

immediate_small : (ir : ℕ) → immediate ir < 2 ^ 32
immediate_small ir = omega arith

upper_small : (ir : ℕ) → immediate ir * 2 ^ 16 < 2 ^ 32
upper_small ir = omega arith

rsw : {g : Regs} → HoldsWords g → reg g (rs g.ir) < 2 ^ 32
rsw {g} h = h.general (rs g.ir)

rtw : {g : Regs} → HoldsWords g → reg g (rt g.ir) < 2 ^ 32
rtw {g} h = h.general (rt g.ir)

with_pc_lem : (g : Regs) (v : ℕ) → v < 2 ^ 32 → HoldsWords g → HoldsWords (with_pc v g)
with_pc_lem g v small h =
    record {
      general = h.general;
      pc = small;
      hi = h.hi;
      lo = h.lo;
      sr = h.sr;
      cr = h.cr;
      epc = h.epc;
      bar = h.bar;
      ad = h.ad;
      ir = h.ir;
    }

with_hi_lem : (g : Regs) (v : ℕ) → v < 2 ^ 32 → HoldsWords g → HoldsWords (with_hi v g)
with_hi_lem g v small h =
    record {
      general = h.general;
      pc = h.pc;
      hi = small;
      lo = h.lo;
      sr = h.sr;
      cr = h.cr;
      epc = h.epc;
      bar = h.bar;
      ad = h.ad;
      ir = h.ir;
    }

with_lo_lem : (g : Regs) (v : ℕ) → v < 2 ^ 32 → HoldsWords g → HoldsWords (with_lo v g)
with_lo_lem g v small h =
    record {
      general = h.general;
      pc = h.pc;
      hi = h.hi;
      lo = small;
      sr = h.sr;
      cr = h.cr;
      epc = h.epc;
      bar = h.bar;
      ad = h.ad;
      ir = h.ir;
    }

with_sr_lem : (g : Regs) (v : ℕ) → v < 2 ^ 32 → HoldsWords g → HoldsWords (with_sr v g)
with_sr_lem g v small h =
    record {
      general = h.general;
      pc = h.pc;
      hi = h.hi;
      lo = h.lo;
      sr = small;
      cr = h.cr;
      epc = h.epc;
      bar = h.bar;
      ad = h.ad;
      ir = h.ir;
    }

with_cr_lem : (g : Regs) (v : ℕ) → v < 2 ^ 32 → HoldsWords g → HoldsWords (with_cr v g)
with_cr_lem g v small h =
    record {
      general = h.general;
      pc = h.pc;
      hi = h.hi;
      lo = h.lo;
      sr = h.sr;
      cr = small;
      epc = h.epc;
      bar = h.bar;
      ad = h.ad;
      ir = h.ir;
    }

with_epc_lem : (g : Regs) (v : ℕ) → v < 2 ^ 32 → HoldsWords g → HoldsWords (with_epc v g)
with_epc_lem g v small h =
    record {
      general = h.general;
      pc = h.pc;
      hi = h.hi;
      lo = h.lo;
      sr = h.sr;
      cr = h.cr;
      epc = small;
      bar = h.bar;
      ad = h.ad;
      ir = h.ir;
    }

with_bar_lem : (g : Regs) (v : ℕ) → v < 2 ^ 32 → HoldsWords g → HoldsWords (with_bar v g)
with_bar_lem g v small h =
    record {
      general = h.general;
      pc = h.pc;
      hi = h.hi;
      lo = h.lo;
      sr = h.sr;
      cr = h.cr;
      epc = h.epc;
      bar = small;
      ad = h.ad;
      ir = h.ir;
    }

with_ad_lem : (g : Regs) (v : ℕ) → v < 2 ^ 32 → HoldsWords g → HoldsWords (with_ad v g)
with_ad_lem g v small h =
    record {
      general = h.general;
      pc = h.pc;
      hi = h.hi;
      lo = h.lo;
      sr = h.sr;
      cr = h.cr;
      epc = h.epc;
      bar = h.bar;
      ad = small;
      ir = h.ir;
    }

with_ir_lem : (g : Regs) (v : ℕ) → v < 2 ^ 32 → HoldsWords g → HoldsWords (with_ir v g)
with_ir_lem g v small h =
    record {
      general = h.general;
      pc = h.pc;
      hi = h.hi;
      lo = h.lo;
      sr = h.sr;
      cr = h.cr;
      epc = h.epc;
      bar = h.bar;
      ad = h.ad;
      ir = small;
    }

module _ (law : WordsStayWords) where
  puts : (g : Regs) (n v : ℕ) → v < 2 ^ 32 → HoldsWords g → HoldsWords (with_register n v g)
  puts g n v small h =
      record {
        general = λ j. law.general g n j v small h.general;
        pc = h.pc;
        hi = h.hi;
        lo = h.lo;
        sr = h.sr;
        cr = h.cr;
        epc = h.epc;
        bar = h.bar;
        ad = h.ad;
        ir = h.ir;
      }

  links : (link : Bool) (g : Regs) → HoldsWords g → HoldsWords (with_link link g)
  links true g h = puts g 31 g.pc h.pc h
  links false g h = h

  -- what a step made, before its fetch
  pub record Good (m : Effect) : Type 0 where
    pub words : HoldsWords m.regs
    pub bytes : (x : ℕ) → m.bytes x < 256

  did_fit : (b : Book) (g : Regs) → HoldsWords g → ((x : ℕ) → b.bytes x < 256) → Good (without_fault b g)
  did_fit b g h k = record { words = h; bytes = k }

  met_fit : (b : Book) (c : Fault) (g : Regs) → HoldsWords g → ((x : ℕ) → b.bytes x < 256) → Good (with_fault b c g)
  met_fit b c g h k = record { words = h; bytes = k }

  goes_fit : (b : Book) (t : ℕ) (g : Regs) → t < 2 ^ 32 → HoldsWords g → ((x : ℕ) → b.bytes x < 256)
      → Good (jump_to b t g)
  goes_fit b t g small h k =
      pick Good (is_misplaced 4 g.sr t) (met_fit b f.Adel _ (with_ad_lem g t small h) k)
      (did_fit b _ (with_pc_lem _ t small (with_ad_lem g t small h)) k)

  branch_fit : (b : Book) (taken : Bool) (g : Regs) → HoldsWords g → ((x : ℕ) → b.bytes x < 256)
      → Good (branch_if b taken g)
  branch_fit b taken g h k = pick Good taken (goes_fit b _ g (below _) h k) (did_fit b g h k)

  word_small : (byte : ℕ → ℕ) → ((x : ℕ) → byte x < 256) → (p : ℕ) → word_at byte p < 2 ^ 32
  word_small byte k p = omega (arith, k p, k (p + 1), k (p + 2), k (p + 3))

  -- a byte, or a half, as a word
  widened_small : (sign : Bool) (n v : ℕ) → 2 ^ n ≤ 2 ^ 32 → v < 2 ^ n → as_word sign n v < 2 ^ 32
  widened_small sign n v few small =
      pick (λ m. m < 2 ^ 32) sign (pick (λ m. m < 2 ^ 32) (ltb v (2 ^ (n - 1))) (omega arith) (omega arith))
      (omega arith)

  loads_fit : (r : Refusals) (b : Book) (bad : Bool) (value left : ℕ → ℕ → ℕ) (g : Regs)
      → value (address g) (word_at b.bytes (word_of (address g))) < 2 ^ 32
      → left (address g) (word_at b.bytes (word_of (address g))) < 2 ^ 32 → HoldsWords g → ((x : ℕ) → b.bytes x < 256)
      → Good (load_with r b bad value left g)
  loads_fit r b bad value left g small rest h k =
      let placed : HoldsWords (with_ad (address g) g) = with_ad_lem g (address g) (below _) h in
      pick Good bad (met_fit b f.Adel _ placed k)
      (pick Good (r.unreadable (word_of (address g))) (met_fit b f.Dbe _ placed k)
      (did_fit b _ (puts _ (rt g.ir) _ small (with_ad_lem g _ rest h)) k))

  stored_small : (from n d : ℕ) (byte : ℕ → ℕ) → ((x : ℕ) → byte x < 256) → (x : ℕ) → stored_byte from n d byte x < 256
  stored_small from n d byte k x = pick (λ m. m < 256) (leb from x && ltb x (from + n)) (omega arith) (k x)

  stores_fit : (r : Refusals) (b : Book) (bad : Bool) (width : Width) (g : Regs) → HoldsWords g
      → ((x : ℕ) → b.bytes x < 256) → Good (store_with r b bad width g)
  stores_fit r b bad width g h k =
      let placed : HoldsWords (with_ad (address g) g) = with_ad_lem g (address g) (below _) h in
      pick Good bad (met_fit b f.Ades _ placed k)
      (pick Good (r.unwritable (word_of (address g))) (met_fit b f.Dbe _ placed k) (record {
        words =
            placed;
        bytes = stored_small _ _ _ b.bytes k;
      }))

  either : (m n : Effect) (t : Bool) → Good m → Good n → Good (elim t [ true ↦ m | false ↦ n ])
  either m n true here there = here
  either m n false here there = there

  -- what the table of the system registers has under a number
  under_fit : (n : ℕ) (bar sr cr epc other : Effect) → Good bar → Good sr → Good cr → Good epc → Good other
      → Good (table_entry n ((8, bar) ∷ (12, sr) ∷ (13, cr) ∷ (14, epc) ∷ []) other)
  under_fit n bar sr cr epc other is_bar is_sr is_cr is_epc is_other =
      either bar _ (eqb n 8) is_bar
      (either sr _ (eqb n 12) is_sr (either cr _ (eqb n 13) is_cr (either epc other (eqb n 14) is_epc is_other)))

  from_fit : (b : Book) (g : Regs) (n : ℕ) → HoldsWords g → ((x : ℕ) → b.bytes x < 256) → Good (from_system b g n)
  from_fit b g n h k =
      under_fit n _ _ _ _ _
      (did_fit b (with_register (rt g.ir) g.bar g) (puts g (rt g.ir) g.bar h.bar h) k)
      (did_fit b (with_register (rt g.ir) g.sr g) (puts g (rt g.ir) g.sr h.sr h) k)
      (did_fit b (with_register (rt g.ir) (cr_with_lines b.sampled g.cr) g)
      (puts g (rt g.ir) _ (law.cr b.sampled g.cr h.cr) h) k)
      (did_fit b (with_register (rt g.ir) g.epc g) (puts g (rt g.ir) g.epc h.epc h) k)
      (met_fit b f.Ri g h k)

  to_fit : (b : Book) (g : Regs) (n : ℕ) → HoldsWords g → ((x : ℕ) → b.bytes x < 256) → Good (to_system b g n)
  to_fit b g n h k =
      under_fit n _ (to_sr b g) _ _ _
      (did_fit b (with_bar (reg g (rt g.ir)) g) (with_bar_lem g _ (rtw h) h) k)
      (record { words = with_sr_lem g _ (rtw h) h; bytes = k })
      (did_fit b (with_cr (reg g (rt g.ir)) g) (with_cr_lem g _ (rtw h) h) k)
      (did_fit b (with_epc (reg g (rt g.ir)) g) (with_epc_lem g _ (rtw h) h) k)
      (met_fit b f.Ri g h k)

  -- a result that may overflow
  checked_fit : (b : Book) (over : Bool) (n v : ℕ) (g : Regs) → v < 2 ^ 32 → HoldsWords g → ((x : ℕ) → b.bytes x < 256)
      → Good (cond over (with_fault b f.Ovf (with_ad v g)) (without_fault b (with_register n v (with_ad v g))))
  checked_fit b over n v g small h k =
      let placed : HoldsWords (with_ad v g) =
      with_ad_lem g v small h in pick Good over (met_fit b f.Ovf _ placed k) (did_fit b _ (puts _ n v small placed) k)

  done_fit : (r : Refusals) (b : Book) (i : Instruction) (g : Regs) → HoldsWords g → ((x : ℕ) → b.bytes x < 256)
      → Good (effect_of r b i g)
  done_fit r b (Instruction.shift_fixed op) g h k =
      did_fit b _ (puts g _ _ (law.results op _ _ (rtw h) (shift_small g.ir)) h) k
  done_fit r b (Instruction.shift_by op) g h k =
      did_fit b _ (puts _ _ _ (law.results op _ _ (rtw h) (rsw h)) (with_ad_lem g _ (rsw h) h)) k
  done_fit r b (Instruction.compute op) g h k =
      did_fit b _ (puts _ _ _ (law.results op _ _ (rsw h) (rtw h)) (with_ad_lem g _ (rtw h) h)) k
  done_fit r b (Instruction.compute_checked op) g h k =
      checked_fit b _ (rd g.ir) _ g (law.results op _ _ (rsw h) (rtw h)) h k
  done_fit r b (Instruction.compute_pair low high) g h k =
      did_fit b _
      (with_lo_lem _ _ (law.results low _ _ (rsw h) (rtw h))
      (with_hi_lem _ _ (law.results high _ _ (rsw h) (rtw h)) (with_ad_lem g _ (rtw h) h))) k
  done_fit r b Instruction.move_from_hi g h k = did_fit b _ (puts g _ _ h.hi h) k
  done_fit r b Instruction.move_from_lo g h k = did_fit b _ (puts g _ _ h.lo h) k
  done_fit r b Instruction.move_to_hi g h k = did_fit b _ (with_hi_lem g _ (rsw h) h) k
  done_fit r b Instruction.move_to_lo g h k = did_fit b _ (with_lo_lem g _ (rsw h) h) k
  done_fit r b Instruction.jump_register g h k = goes_fit b _ g (rsw h) h k
  done_fit r b Instruction.jump_link_register g h k =
      let l : HoldsWords (with_register (rd g.ir) g.pc g) =
      puts g _ _ h.pc h in goes_fit b _ (with_register (rd g.ir) g.pc g) (l.general (rs g.ir)) l k
  done_fit r b Instruction.system_call g h k = met_fit b f.Sys g h k
  done_fit r b Instruction.breakpoint g h k = met_fit b f.Brk g h k
  done_fit r b Instruction.jump g h k = goes_fit b _ g (law.jumps g.pc g.ir h.pc) h k
  done_fit r b Instruction.jump_link g h k =
      goes_fit b _ (with_register 31 g.pc g) (law.jumps g.pc g.ir h.pc) (puts g 31 _ h.pc h) k
  done_fit r b Instruction.branch_equal g h k = branch_fit b _ _ (with_ad_lem g _ (rtw h) h) k
  done_fit r b Instruction.branch_unequal g h k = branch_fit b _ _ (with_ad_lem g _ (rtw h) h) k
  done_fit r b Instruction.branch_not_above g h k = branch_fit b _ g h k
  done_fit r b Instruction.branch_above g h k = branch_fit b _ g h k
  done_fit r b (Instruction.branch_below link) g h k = branch_fit b _ (with_link link g) (links link g h) k
  done_fit r b (Instruction.branch_not_below link) g h k = branch_fit b _ (with_link link g) (links link g h) k
  done_fit r b Instruction.add_immediate g h k =
      checked_fit b _ (rt g.ir) _ g (law.results Sum _ _ (rsw h) (law.immediates g.ir)) h k
  done_fit r b (Instruction.compute_signed op) g h k =
      did_fit b _
      (puts _ _ _ (law.results op _ _ (rsw h) (law.immediates g.ir)) (with_ad_lem g _ (law.immediates g.ir) h)) k
  done_fit r b (Instruction.compute_plain op) g h k =
      did_fit b _
      (puts _ _ _ (law.results op _ _ (rsw h) (immediate_small g.ir)) (with_ad_lem g _ (immediate_small g.ir) h)) k
  done_fit r b Instruction.load_upper g h k =
      did_fit b _ (puts _ _ _ (upper_small g.ir) (with_ad_lem g _ (immediate_small g.ir) h)) k
  done_fit r b Instruction.load_word g h k =
      loads_fit r b _ (λ at w. w) (λ at w. at) g (word_small b.bytes k _) (below _) h k
  done_fit r b (Instruction.load_byte sign) g h k =
      loads_fit r b _ (λ at w. as_word sign 8 (b.bytes at)) raised_byte g
      (widened_small sign 8 (b.bytes (address g)) (omega arith) (omega (arith, k (address g)))) (below _) h k
  done_fit r b (Instruction.load_half sign) g h k =
      loads_fit r b _ (λ at w. as_word sign 16 (b.bytes at + b.bytes (at + 1) * 256)) raised_half g
      (widened_small sign 16 (b.bytes (address g) + b.bytes (address g + 1) * 256) (omega arith)
      (omega (arith, k (address g), k (address g + 1)))) (below _) h k
  done_fit r b Instruction.store_byte g h k = stores_fit r b _ Byte g h k
  done_fit r b Instruction.store_half g h k = stores_fit r b _ Half g h k
  done_fit r b Instruction.store_word g h k = stores_fit r b _ Word g h k
  done_fit r b (Instruction.move_from_system n) g h k =
      pick Good (is_user_mode g.sr) (met_fit b f.Cpu g h k) (from_fit b g n h k)
  done_fit r b (Instruction.move_to_system n) g h k =
      pick Good (is_user_mode g.sr) (met_fit b f.Cpu g h k) (to_fit b g n h k)
  done_fit r b Instruction.return_from_exception g h k =
      pick Good (is_user_mode g.sr) (met_fit b f.Cpu g h k) (did_fit b _ (with_sr_lem g _ (omega (arith, h.sr)) h) k)
  done_fit r b Instruction.unassigned_opcode g h k = met_fit b f.Ri g h k
  done_fit r b Instruction.unassigned_function g h k = met_fit b f.Ri g h k

  enters_fit : (b : Book) (c epc : ℕ) → c < 16 → epc < 2 ^ 32 → IsFit b → Good (entry_of b c epc)
  enters_fit b c epc few small fit =
      let h : HoldsWords b.regs = fit.words in
      record {
        words =
            record {
              general =
                  h.general;
              pc = omega arith;
              hi = h.hi;
              lo = h.lo;
              sr = omega (arith, h.sr);
              cr = omega (arith, h.cr);
              epc = small;
              bar = h.ad;
              ad = h.ad;
              ir = h.ir;
            };
        bytes = fit.bytes;
      }

  made_fit : (r : Refusals) (b : Book) (e : Event) → IsFit b → Good (before_fetch r b e)
  made_fit r b Event.reset fit =
      let h : HoldsWords b.regs = fit.words in
      did_fit b _ (with_sr_lem _ 0 (omega arith) (with_pc_lem b.regs _ (omega arith) h)) fit.bytes
  made_fit r b (Event.exception c) fit = enters_fit b (fault_code c) _ (law.codes c) (below _) fit
  made_fit r b Event.interrupt fit = enters_fit b 0 b.regs.pc (omega arith) fit.words.pc fit
  made_fit r b Event.run fit =
      done_fit r b (instruction_of b.regs.ir) (with_risen_pc b) (with_pc_lem b.regs _ (below _) fit.words) fit.bytes

  -- the fetch, by the fault that stands
  fetched_fit : (r : Refusals) (m : Effect) (c : Option Fault) → Good m → Good (elim c [
    | Some c ↦ m
    | None ↦ cond (r.unreadable (word_of m.regs.pc))
        (record { regs = m.regs; ledger = m.ledger; bytes = m.bytes; fault = Some f.Ibe; event_sr = m.event_sr })
        (record {
          regs = with_ir (word_at m.bytes (word_of m.regs.pc)) m.regs;
          ledger = m.ledger;
          bytes = m.bytes;
          fault = None;
          event_sr = m.event_sr;
        })
  ])
  fetched_fit r m (Some c) h = h
  fetched_fit r m None h =
      pick Good (r.unreadable (word_of m.regs.pc))
      (record { words = h.words; bytes = h.bytes })
      (record { words = with_ir_lem m.regs _ (word_small m.bytes h.bytes _) h.words; bytes = h.bytes })

  pub steps_fit : StepsFit
  steps_fit r lines b fit =
      let h : Good (after_fetch r (before_fetch r b b.event)) =
      fetched_fit r (before_fetch r b b.event) (before_fetch r b b.event).fault (made_fit r b b.event fit) in
      record { words = h.words; bytes = h.bytes }

zeros : (k n : ℕ) → get_or {A = ℕ} (replicate k 0) n 0 ≡ 0
zeros zero n = refl
zeros (suc k) zero = refl
zeros (suc k) (suc n) = zeros k n

pub begins_fit : BeginsFit
begins_fit bytes k =
    let small : 0 < 2 ^ 32 = omega arith in
    record {
      words = record {
        general = λ n. omega (arith, zeros 32 n);
        pc = small;
        hi = small;
        lo = small;
        sr = small;
        cr = small;
        epc = small;
        bar = small;
        ad = small;
        ir = small;
      };
      bytes = k;
    }
