-- Instructions that go straight on. Assumes nothing.
use Rattle.std.proofs.Common.{◌≡◌, ℕ, ◌+◌, ◌-◌, ◌*◌, ◌%◌, ◌^◌, ◌<◌, Bool, false, ltb, [], ◌∷◌, None, refl, ap, ◌∙◌}
use Rattle.std.proofs.Common.{arith}
use lib.Bits.{bit_and}
use Rattle.std.proofs.lemmas.Nat.{and_comm, and_mask}
use Rattle.std.proofs.lemmas.Bool.{cond_both}
use Rattle.bus.specs.Request.{word_of}
use Rattle.machine.specs.Operation.{overflows, result_of}
use Rattle.machine.specs.Registers.{Regs, reg, with_ad}
use Rattle.machine.specs.Word.{function, immediate, opcode, rs, rt, signed_immediate}
use Rattle.machine.specs.Words.{WordsStayWords}
use Rattle.machine.specs.declared.operation.Operation.{Operation}
use Rattle.machine.specs.declared.operation.Operation.TheVariants.{And, Sll, Sum}
use Rattle.rows.specs.Rows.{row_at, rows}
use Rattle.rows.specs.declared.row.Destination.TheVariants as r
use Rattle.rows.specs.declared.row.Detection.TheVariants as e
use Rattle.rows.specs.declared.row.OperandX.TheVariants as x
use Rattle.rows.specs.declared.row.OperandY.TheVariants as y
use Rattle.rows.specs.declared.row.Row.{Row}
use Rattle.rows.specs.declared.row.Sequencing.TheVariants as s
use Rattle.rows.specs.declared.row.Transfer.TheVariants as m
use Rattle.book.specs.Book.{Book, Refusals, after_fetch, effect_of, with_risen_pc}
use Rattle.book.specs.Fit.{IsFit}
use Rattle.book.specs.Instruction.{Instruction}
use Rattle.paths.specs.Instant.{World}
use Rattle.paths.specs.Path.{world_at}
use Rattle.paths.proofs.Walk.{◌↠◌, Rows, ending, nothing_plus, plus_nothing, row, rs_word, rt_word, split, walk, init}
use Rattle.paths.proofs.Walk.{special, below, amid, Reaches}

-- sixteen ones leave the low sixteen bits
plain_immediate : (ir : ℕ) → bit_and 65535 (signed_immediate ir) ≡ immediate ir
plain_immediate ir =
    and_comm 65535 (signed_immediate ir)
    ∙ and_mask (signed_immediate ir) 16
    ∙ cond_both (ltb (immediate ir) (2 ^ 15)) (immediate ir) (immediate ir + (2 ^ 32 - 2 ^ 16))
    (λ n. n % 2 ^ 16 ≡ immediate ir) (λ t. omega arith) (λ t. omega arith)

upper : (ir : ℕ) → (immediate ir * 65536) % 2 ^ 32 ≡ immediate ir * 65536
upper ir = omega arith

module _ (deny : Refusals) (lines : ℕ) (b : Book) (dt : ℕ) (fit : IsFit b) (law : WordsStayWords) where
  abbrev start : World
  start = world_at b dt 16 None

  abbrev g : Regs
  g = b.regs

  abbrev next : ℕ
  next = (b.regs.pc + 4) % 2 ^ 32

  -- whether the fetch behind a straight path is refused
  abbrev unfetched : Bool
  unfetched = deny.unreadable (word_of next)

  abbrev first_rows : ℕ → Rows
  first_rows f =
      (16, init) ∷ (256, special) ∷ (512 + f * 4, row x.Rt y.C0 Sum r.Ad m.Nop e.Nop s.Next (512 + f * 4 + 1)) ∷ []

  abbrev last_rows : Operation → ℕ → Rows
  last_rows op f =
      (512 + f * 4 + 1, row x.Rs y.Ad op r.Ad m.Nop e.Ovf s.Next (512 + f * 4 + 2))
      ∷ (512 + f * 4 + 2, row x.C0 y.Ad Sum r.Rd m.If e.Ibe s.Rie 16)
      ∷ []

  taken : (f : ℕ)
      → walk deny lines (first_rows f) start
      ≡ amid b (with_ad (reg g (rt g.ir)) (with_risen_pc b)) dt None (512 + f * 4 + 1)
  taken f = rw (rt_word b fit)

  unflagged : (op : Operation) (f : ℕ) → overflows op (reg g (rs g.ir)) (reg g (rt g.ir)) ≡ false
      → walk deny lines ((512 + f * 4 + 1, row x.Rs y.Ad op r.Ad m.Nop e.Ovf s.Next (512 + f * 4 + 2)) ∷ [])
      (amid b (with_ad (reg g (rt g.ir)) (with_risen_pc b)) dt None (512 + f * 4 + 1))
      ≡ amid b (with_ad (result_of op (reg g (rs g.ir)) (reg g (rt g.ir))) (with_risen_pc b)) dt None (512 + f * 4 + 2)
  unflagged op f v = rw v

  checked : (op : Operation) (f : ℕ) → result_of op (reg g (rs g.ir)) (reg g (rt g.ir)) < 2 ^ 32
      → walk deny lines (last_rows op f)
      (amid b (with_ad (reg g (rt g.ir)) (with_risen_pc b)) dt None (512 + f * 4 + 1))
      ≡ ending lines (after_fetch deny (effect_of deny b (Instruction.compute_checked op) (with_risen_pc b))) dt
  checked op f small =
      split (overflows op (reg g (rs g.ir)) (reg g (rt g.ir)))
      (λ v. rw v)
      (λ v.
      ap (walk deny lines ((512 + f * 4 + 2, row x.C0 y.Ad Sum r.Rd m.If e.Ibe s.Rie 16) ∷ [])) (unflagged op f v)
      ∙ rw v (split unfetched (λ q. rw (q, nothing_plus _ small)) (λ q. rw (q, nothing_plus _ small))))

  checked_walk : (op : Operation) (f : ℕ) → result_of op (reg g (rs g.ir)) (reg g (rt g.ir)) < 2 ^ 32
      → walk deny lines (last_rows op f) (walk deny lines (first_rows f) start)
      ≡ ending lines (after_fetch deny (effect_of deny b (Instruction.compute_checked op) (with_risen_pc b))) dt
  checked_walk op f small = ap (walk deny lines (last_rows op f)) (taken f) ∙ checked op f small

  abbrev shifts_fixed_rows : (op : Operation) (f : ℕ) → Rows
  shifts_fixed_rows op f = (16, init) ∷ (256, special) ∷ (512 + f * 4, row x.Rt y.Ish op r.Rd m.If e.Ibe s.Rie 16) ∷ []

  shifts_fixed_walk : (op : Operation) (f : ℕ)
      → walk deny lines (shifts_fixed_rows op f) (world_at b dt 16 None)
      ≡ ending lines (after_fetch deny (effect_of deny b (Instruction.shift_fixed op) (with_risen_pc b))) dt
  shifts_fixed_walk op f = split unfetched (λ q. simp (q)) (λ q. simp (q))

  pub shifts_fixed :
      (op : Operation) (f : ℕ) (o : opcode g.ir ≡ 0) (fe : function g.ir ≡ f)
      (h1 : row_at (512 + f * 4) ≡ row x.Rt y.Ish op r.Rd m.If e.Ibe s.Rie 16)
      → Reaches deny lines b dt 16 None 3 (effect_of deny b (Instruction.shift_fixed op) (with_risen_pc b))
  unfolding rows
  shifts_fixed op f o fe h1 =
      record {
        rows = shifts_fixed_rows op f;
        long = refl;
        plain = refl;
        leads = (refl, refl) ↠ (ap (λ n. 256 + n * 4) o, refl) ↠ (ap (λ n. 512 + n * 4) fe, h1) ↠ tt;
        last = dt;
        arrives = shifts_fixed_walk op f;
      }

  abbrev shifts_by_rows : (op : Operation) (f : ℕ) → Rows
  shifts_by_rows op f =
      (16, init)
      ∷ (256, special)
      ∷ (512 + f * 4, row x.Rs y.C0 Sum r.Ad m.Nop e.Nop s.Next (512 + f * 4 + 1))
      ∷ (512 + f * 4 + 1, row x.Rt y.Ad op r.Rd m.If e.Ibe s.Rie 16)
      ∷ []

  shifts_by_walk : (op : Operation) (f : ℕ)
      → walk deny lines (shifts_by_rows op f) (world_at b dt 16 None)
      ≡ ending lines (after_fetch deny (effect_of deny b (Instruction.shift_by op) (with_risen_pc b))) dt
  shifts_by_walk op f = split unfetched (λ q. simp (q, rs_word b fit)) (λ q. simp (q, rs_word b fit))

  pub shifts_by :
      (op : Operation) (f : ℕ) (o : opcode g.ir ≡ 0) (fe : function g.ir ≡ f)
      (h1 : row_at (512 + f * 4) ≡ row x.Rs y.C0 Sum r.Ad m.Nop e.Nop s.Next (512 + f * 4 + 1))
      (h2 : row_at (512 + f * 4 + 1) ≡ row x.Rt y.Ad op r.Rd m.If e.Ibe s.Rie 16)
      → Reaches deny lines b dt 16 None 4 (effect_of deny b (Instruction.shift_by op) (with_risen_pc b))
  unfolding rows
  shifts_by op f o fe h1 h2 =
      record {
        rows = shifts_by_rows op f;
        long = refl;
        plain = refl;
        leads = (refl, refl) ↠ (ap (λ n. 256 + n * 4) o, refl) ↠ (ap (λ n. 512 + n * 4) fe, h1) ↠ (refl, h2) ↠ tt;
        last = dt;
        arrives = shifts_by_walk op f;
      }

  abbrev computes_rows : (op : Operation) (f : ℕ) → Rows
  computes_rows op f =
      (16, init)
      ∷ (256, special)
      ∷ (512 + f * 4, row x.Rt y.C0 Sum r.Ad m.Nop e.Nop s.Next (512 + f * 4 + 1))
      ∷ (512 + f * 4 + 1, row x.Rs y.Ad op r.Rd m.If e.Ibe s.Rie 16)
      ∷ []

  computes_walk : (op : Operation) (f : ℕ)
      → walk deny lines (computes_rows op f) (world_at b dt 16 None)
      ≡ ending lines (after_fetch deny (effect_of deny b (Instruction.compute op) (with_risen_pc b))) dt
  computes_walk op f = split unfetched (λ q. simp (q, rt_word b fit)) (λ q. simp (q, rt_word b fit))

  pub computes :
      (op : Operation) (f : ℕ) (o : opcode g.ir ≡ 0) (fe : function g.ir ≡ f)
      (h1 : row_at (512 + f * 4) ≡ row x.Rt y.C0 Sum r.Ad m.Nop e.Nop s.Next (512 + f * 4 + 1))
      (h2 : row_at (512 + f * 4 + 1) ≡ row x.Rs y.Ad op r.Rd m.If e.Ibe s.Rie 16)
      → Reaches deny lines b dt 16 None 4 (effect_of deny b (Instruction.compute op) (with_risen_pc b))
  unfolding rows
  computes op f o fe h1 h2 =
      record {
        rows = computes_rows op f;
        long = refl;
        plain = refl;
        leads = (refl, refl) ↠ (ap (λ n. 256 + n * 4) o, refl) ↠ (ap (λ n. 512 + n * 4) fe, h1) ↠ (refl, h2) ↠ tt;
        last = dt;
        arrives = computes_walk op f;
      }

  abbrev computes_checked_rows :
      (op : Operation) (f : ℕ) (small : result_of op (reg g (rs g.ir)) (reg g (rt g.ir)) < 2 ^ 32) → Rows
  computes_checked_rows op f small =
      (16, init)
      ∷ (256, special)
      ∷ (512 + f * 4, row x.Rt y.C0 Sum r.Ad m.Nop e.Nop s.Next (512 + f * 4 + 1))
      ∷ (512 + f * 4 + 1, row x.Rs y.Ad op r.Ad m.Nop e.Ovf s.Next (512 + f * 4 + 2))
      ∷ (512 + f * 4 + 2, row x.C0 y.Ad Sum r.Rd m.If e.Ibe s.Rie 16)
      ∷ []

  computes_checked_walk : (op : Operation) (f : ℕ) (small : result_of op (reg g (rs g.ir)) (reg g (rt g.ir)) < 2 ^ 32)
      → walk deny lines (computes_checked_rows op f small) (world_at b dt 16 None)
      ≡ ending lines (after_fetch deny (effect_of deny b (Instruction.compute_checked op) (with_risen_pc b))) dt
  computes_checked_walk op f small = checked_walk op f small

  pub computes_checked :
      (op : Operation) (f : ℕ) (o : opcode g.ir ≡ 0) (fe : function g.ir ≡ f)
      (h1 : row_at (512 + f * 4) ≡ row x.Rt y.C0 Sum r.Ad m.Nop e.Nop s.Next (512 + f * 4 + 1))
      (h2 : row_at (512 + f * 4 + 1) ≡ row x.Rs y.Ad op r.Ad m.Nop e.Ovf s.Next (512 + f * 4 + 2))
      (h3 : row_at (512 + f * 4 + 2) ≡ row x.C0 y.Ad Sum r.Rd m.If e.Ibe s.Rie 16)
      (small : result_of op (reg g (rs g.ir)) (reg g (rt g.ir)) < 2 ^ 32)
      → Reaches deny lines b dt 16 None 5 (effect_of deny b (Instruction.compute_checked op) (with_risen_pc b))
  unfolding rows
  computes_checked op f o fe h1 h2 h3 small =
      record {
        rows = computes_checked_rows op f small;
        long = refl;
        plain = refl;
        leads =
            (refl, refl, (ap (λ n. 256 + n * 4) o, refl, (ap (λ n. 512 + n * 4) fe, h1, (refl, h2, (refl, h3, tt)))));
        last = dt;
        arrives = computes_checked_walk op f small;
      }

  abbrev computes_pair_rows : (low : Operation) (high : Operation) (f : ℕ) → Rows
  computes_pair_rows low high f =
      (16, init)
      ∷ (256, special)
      ∷ (512 + f * 4, row x.Rt y.C0 Sum r.Ad m.Nop e.Nop s.Next (512 + f * 4 + 1))
      ∷ (512 + f * 4 + 1, row x.Rs y.Ad low r.Lo m.Nop e.Nop s.Next (512 + f * 4 + 2))
      ∷ (512 + f * 4 + 2, row x.Rs y.Ad high r.Hi m.If e.Ibe s.Rie 16)
      ∷ []

  computes_pair_walk : (low : Operation) (high : Operation) (f : ℕ)
      → walk deny lines (computes_pair_rows low high f) (world_at b dt 16 None)
      ≡ ending lines (after_fetch deny (effect_of deny b (Instruction.compute_pair low high) (with_risen_pc b))) dt
  computes_pair_walk low high f = split unfetched (λ q. simp (q, rt_word b fit)) (λ q. simp (q, rt_word b fit))

  pub computes_pair :
      (low : Operation) (high : Operation) (f : ℕ) (o : opcode g.ir ≡ 0) (fe : function g.ir ≡ f)
      (h1 : row_at (512 + f * 4) ≡ row x.Rt y.C0 Sum r.Ad m.Nop e.Nop s.Next (512 + f * 4 + 1))
      (h2 : row_at (512 + f * 4 + 1) ≡ row x.Rs y.Ad low r.Lo m.Nop e.Nop s.Next (512 + f * 4 + 2))
      (h3 : row_at (512 + f * 4 + 2) ≡ row x.Rs y.Ad high r.Hi m.If e.Ibe s.Rie 16)
      → Reaches deny lines b dt 16 None 5 (effect_of deny b (Instruction.compute_pair low high) (with_risen_pc b))
  unfolding rows
  computes_pair low high f o fe h1 h2 h3 =
      record {
        rows = computes_pair_rows low high f;
        long = refl;
        plain = refl;
        leads =
            (refl, refl, (ap (λ n. 256 + n * 4) o, refl, (ap (λ n. 512 + n * 4) fe, h1, (refl, h2, (refl, h3, tt)))));
        last = dt;
        arrives = computes_pair_walk low high f;
      }

  abbrev moves_from_hi_rows : Rows
  moves_from_hi_rows = (16, init) ∷ (256, special) ∷ (576, row x.Hi y.C0 Sum r.Rd m.If e.Ibe s.Rie 16) ∷ []

  moves_from_hi_walk :
      walk deny lines (moves_from_hi_rows) (world_at b dt 16 None)
      ≡ ending lines (after_fetch deny (effect_of deny b Instruction.move_from_hi (with_risen_pc b))) dt
  moves_from_hi_walk =
      split unfetched (λ q. simp (q, plus_nothing g.hi fit.words.hi)) (λ q. simp (q, plus_nothing g.hi fit.words.hi))

  pub moves_from_hi : (o : opcode g.ir ≡ 0) (fe : function g.ir ≡ 16)
      → Reaches deny lines b dt 16 None 3 (effect_of deny b Instruction.move_from_hi (with_risen_pc b))
  unfolding rows
  moves_from_hi o fe =
      record {
        rows = moves_from_hi_rows;
        long = refl;
        plain = refl;
        leads = (refl, refl) ↠ (ap (λ n. 256 + n * 4) o, refl) ↠ (ap (λ n. 512 + n * 4) fe, refl) ↠ tt;
        last = dt;
        arrives = moves_from_hi_walk;
      }

  abbrev moves_to_hi_rows : Rows
  moves_to_hi_rows = (16, init) ∷ (256, special) ∷ (580, row x.Rs y.C0 Sum r.Hi m.If e.Ibe s.Rie 16) ∷ []

  moves_to_hi_walk :
      walk deny lines (moves_to_hi_rows) (world_at b dt 16 None)
      ≡ ending lines (after_fetch deny (effect_of deny b Instruction.move_to_hi (with_risen_pc b))) dt
  moves_to_hi_walk = split unfetched (λ q. simp (q, rs_word b fit)) (λ q. simp (q, rs_word b fit))

  pub moves_to_hi : (o : opcode g.ir ≡ 0) (fe : function g.ir ≡ 17)
      → Reaches deny lines b dt 16 None 3 (effect_of deny b Instruction.move_to_hi (with_risen_pc b))
  unfolding rows
  moves_to_hi o fe =
      record {
        rows = moves_to_hi_rows;
        long = refl;
        plain = refl;
        leads = (refl, refl) ↠ (ap (λ n. 256 + n * 4) o, refl) ↠ (ap (λ n. 512 + n * 4) fe, refl) ↠ tt;
        last = dt;
        arrives = moves_to_hi_walk;
      }

  abbrev moves_from_lo_rows : Rows
  moves_from_lo_rows = (16, init) ∷ (256, special) ∷ (584, row x.Lo y.C0 Sum r.Rd m.If e.Ibe s.Rie 16) ∷ []

  moves_from_lo_walk :
      walk deny lines (moves_from_lo_rows) (world_at b dt 16 None)
      ≡ ending lines (after_fetch deny (effect_of deny b Instruction.move_from_lo (with_risen_pc b))) dt
  moves_from_lo_walk =
      split unfetched (λ q. simp (q, plus_nothing g.lo fit.words.lo)) (λ q. simp (q, plus_nothing g.lo fit.words.lo))

  pub moves_from_lo : (o : opcode g.ir ≡ 0) (fe : function g.ir ≡ 18)
      → Reaches deny lines b dt 16 None 3 (effect_of deny b Instruction.move_from_lo (with_risen_pc b))
  unfolding rows
  moves_from_lo o fe =
      record {
        rows = moves_from_lo_rows;
        long = refl;
        plain = refl;
        leads = (refl, refl) ↠ (ap (λ n. 256 + n * 4) o, refl) ↠ (ap (λ n. 512 + n * 4) fe, refl) ↠ tt;
        last = dt;
        arrives = moves_from_lo_walk;
      }

  abbrev moves_to_lo_rows : Rows
  moves_to_lo_rows = (16, init) ∷ (256, special) ∷ (588, row x.Rs y.C0 Sum r.Lo m.If e.Ibe s.Rie 16) ∷ []

  moves_to_lo_walk :
      walk deny lines (moves_to_lo_rows) (world_at b dt 16 None)
      ≡ ending lines (after_fetch deny (effect_of deny b Instruction.move_to_lo (with_risen_pc b))) dt
  moves_to_lo_walk = split unfetched (λ q. simp (q, rs_word b fit)) (λ q. simp (q, rs_word b fit))

  pub moves_to_lo : (o : opcode g.ir ≡ 0) (fe : function g.ir ≡ 19)
      → Reaches deny lines b dt 16 None 3 (effect_of deny b Instruction.move_to_lo (with_risen_pc b))
  unfolding rows
  moves_to_lo o fe =
      record {
        rows = moves_to_lo_rows;
        long = refl;
        plain = refl;
        leads = (refl, refl) ↠ (ap (λ n. 256 + n * 4) o, refl) ↠ (ap (λ n. 512 + n * 4) fe, refl) ↠ tt;
        last = dt;
        arrives = moves_to_lo_walk;
      }

  extended_word : (0 + signed_immediate g.ir) % 2 ^ 32 ≡ signed_immediate g.ir
  extended_word = nothing_plus (signed_immediate g.ir) (law.immediates g.ir)

  sum_word :
      (0 + (reg g (rs g.ir) + signed_immediate g.ir) % 2 ^ 32) % 2 ^ 32
      ≡ (reg g (rs g.ir) + signed_immediate g.ir) % 2 ^ 32
  sum_word = nothing_plus _ (below (reg g (rs g.ir) + signed_immediate g.ir))

  immediate_taken : (n : ℕ) (w : Row) → w ≡ row x.C0 y.I16 Sum r.Ad m.Nop e.Nop s.Next n
      → walk deny lines ((16, init) ∷ (288, row x.C0 y.I16 Sum r.Ad m.Nop e.Nop s.Next n) ∷ []) start
      ≡ amid b (with_ad (signed_immediate g.ir) (with_risen_pc b)) dt None n
  immediate_taken n w h = rw extended_word

  immediate_unflagged : overflows Sum (reg g (rs g.ir)) (signed_immediate g.ir) ≡ false
      → walk deny lines ((289, row x.Rs y.Ad Sum r.Ad m.Nop e.Ovf s.Next 290) ∷ [])
      (amid b (with_ad (signed_immediate g.ir) (with_risen_pc b)) dt None 289)
      ≡ amid b (with_ad ((reg g (rs g.ir) + signed_immediate g.ir) % 2 ^ 32) (with_risen_pc b)) dt None 290
  immediate_unflagged v = rw v

  immediate_added :
      walk deny lines
      ((289, row x.Rs y.Ad Sum r.Ad m.Nop e.Ovf s.Next 290) ∷ (290, row x.C0 y.Ad Sum r.Rt m.If e.Ibe s.Rie 16)
      ∷ []) (amid b (with_ad (signed_immediate g.ir) (with_risen_pc b)) dt None 289)
      ≡ ending lines (after_fetch deny (effect_of deny b Instruction.add_immediate (with_risen_pc b))) dt
  immediate_added =
      split (overflows Sum (reg g (rs g.ir)) (signed_immediate g.ir))
      (λ v. rw v)
      (λ v. ap (walk deny lines ((290, row x.C0 y.Ad Sum r.Rt m.If e.Ibe s.Rie 16) ∷ [])) (immediate_unflagged v)
      ∙ rw v (split unfetched (λ q. rw (q, sum_word)) (λ q. rw (q, sum_word))))

  abbrev adds_immediate_rows : Rows
  adds_immediate_rows =
      (16, init)
      ∷ (288, row x.C0 y.I16 Sum r.Ad m.Nop e.Nop s.Next 289)
      ∷ (289, row x.Rs y.Ad Sum r.Ad m.Nop e.Ovf s.Next 290)
      ∷ (290, row x.C0 y.Ad Sum r.Rt m.If e.Ibe s.Rie 16)
      ∷ []

  adds_immediate_walk :
      walk deny lines (adds_immediate_rows) (world_at b dt 16 None)
      ≡ ending lines (after_fetch deny (effect_of deny b Instruction.add_immediate (with_risen_pc b))) dt
  adds_immediate_walk =
      ap (walk deny lines
      ((289, row x.Rs y.Ad Sum r.Ad m.Nop e.Ovf s.Next 290) ∷ (290, row x.C0 y.Ad Sum r.Rt m.If e.Ibe s.Rie 16)
      ∷ [])) (immediate_taken 289 (row x.C0 y.I16 Sum r.Ad m.Nop e.Nop s.Next 289) refl)
      ∙ immediate_added

  pub adds_immediate : (o : opcode g.ir ≡ 8)
      → Reaches deny lines b dt 16 None 4 (effect_of deny b Instruction.add_immediate (with_risen_pc b))
  unfolding rows
  adds_immediate o =
      record {
        rows = adds_immediate_rows;
        long = refl;
        plain = refl;
        leads = (refl, refl) ↠ (ap (λ n. 256 + n * 4) o, refl) ↠ (refl, refl) ↠ (refl, refl) ↠ tt;
        last = dt;
        arrives = adds_immediate_walk;
      }

  abbrev computes_signed_rows : (op : Operation) (k : ℕ) → Rows
  computes_signed_rows op k =
      (16, init)
      ∷ (256 + k * 4, row x.C0 y.I16 Sum r.Ad m.Nop e.Nop s.Next (256 + k * 4 + 1))
      ∷ (256 + k * 4 + 1, row x.Rs y.Ad op r.Rt m.If e.Ibe s.Rie 16)
      ∷ []

  computes_signed_walk : (op : Operation) (k : ℕ)
      → walk deny lines (computes_signed_rows op k) (world_at b dt 16 None)
      ≡ ending lines (after_fetch deny (effect_of deny b (Instruction.compute_signed op) (with_risen_pc b))) dt
  computes_signed_walk op k = split unfetched (λ q. simp (q, extended_word)) (λ q. simp (q, extended_word))

  pub computes_signed :
      (op : Operation) (k : ℕ) (o : opcode g.ir ≡ k)
      (h1 : row_at (256 + k * 4) ≡ row x.C0 y.I16 Sum r.Ad m.Nop e.Nop s.Next (256 + k * 4 + 1))
      (h2 : row_at (256 + k * 4 + 1) ≡ row x.Rs y.Ad op r.Rt m.If e.Ibe s.Rie 16)
      → Reaches deny lines b dt 16 None 3 (effect_of deny b (Instruction.compute_signed op) (with_risen_pc b))
  unfolding rows
  computes_signed op k o h1 h2 =
      record {
        rows = computes_signed_rows op k;
        long = refl;
        plain = refl;
        leads = (refl, refl) ↠ (ap (λ n. 256 + n * 4) o, h1) ↠ (refl, h2) ↠ tt;
        last = dt;
        arrives = computes_signed_walk op k;
      }

  abbrev computes_plain_rows : (op : Operation) (k : ℕ) → Rows
  computes_plain_rows op k =
      (16, init)
      ∷ (256 + k * 4, row x.Ch y.I16 And r.Ad m.Nop e.Nop s.Next (256 + k * 4 + 1))
      ∷ (256 + k * 4 + 1, row x.Rs y.Ad op r.Rt m.If e.Ibe s.Rie 16)
      ∷ []

  computes_plain_walk : (op : Operation) (k : ℕ)
      → walk deny lines (computes_plain_rows op k) (world_at b dt 16 None)
      ≡ ending lines (after_fetch deny (effect_of deny b (Instruction.compute_plain op) (with_risen_pc b))) dt
  computes_plain_walk op k =
      split unfetched (λ q. simp (q, plain_immediate g.ir)) (λ q. simp (q, plain_immediate g.ir))

  pub computes_plain :
      (op : Operation) (k : ℕ) (o : opcode g.ir ≡ k)
      (h1 : row_at (256 + k * 4) ≡ row x.Ch y.I16 And r.Ad m.Nop e.Nop s.Next (256 + k * 4 + 1))
      (h2 : row_at (256 + k * 4 + 1) ≡ row x.Rs y.Ad op r.Rt m.If e.Ibe s.Rie 16)
      → Reaches deny lines b dt 16 None 3 (effect_of deny b (Instruction.compute_plain op) (with_risen_pc b))
  unfolding rows
  computes_plain op k o h1 h2 =
      record {
        rows = computes_plain_rows op k;
        long = refl;
        plain = refl;
        leads = (refl, refl) ↠ (ap (λ n. 256 + n * 4) o, h1) ↠ (refl, h2) ↠ tt;
        last = dt;
        arrives = computes_plain_walk op k;
      }

  abbrev loads_upper_rows : Rows
  loads_upper_rows =
      (16, init)
      ∷ (316, row x.Ch y.I16 And r.Ad m.Nop e.Nop s.Next 317)
      ∷ (317, row x.Ad y.C16 Sll r.Rt m.If e.Ibe s.Rie 16)
      ∷ []

  loads_upper_walk :
      walk deny lines (loads_upper_rows) (world_at b dt 16 None)
      ≡ ending lines (after_fetch deny (effect_of deny b Instruction.load_upper (with_risen_pc b))) dt
  loads_upper_walk =
      split unfetched (λ q. simp (q, plain_immediate g.ir, upper g.ir))
      (λ q. simp (q, plain_immediate g.ir, upper g.ir))

  pub loads_upper : (o : opcode g.ir ≡ 15)
      → Reaches deny lines b dt 16 None 3 (effect_of deny b Instruction.load_upper (with_risen_pc b))
  unfolding rows
  loads_upper o =
      record {
        rows = loads_upper_rows;
        long = refl;
        plain = refl;
        leads = (refl, refl) ↠ (ap (λ n. 256 + n * 4) o, refl) ↠ (refl, refl) ↠ tt;
        last = dt;
        arrives = loads_upper_walk;
      }
