-- Branches, taken and not taken. Assumes nothing.
use Rattle.std.proofs.Common.{◌≡◌, ℕ, ◌+◌, ◌-◌, ◌*◌, ◌/◌, ◌%◌, ◌^◌, ◌<◌, Bool, true, false, not, ◌||◌, eqb, ltb, leb}
use Rattle.std.proofs.Common.{[], ◌∷◌, pos, None, sym, refl, ap, ◌∙◌, arith}
use lib.Signed.{le_z, lt_z}
use Rattle.std.proofs.lemmas.Bool.Decides.{nat_tests}
use Rattle.machine.specs.Operation.{integer_of, one_if}
use Rattle.machine.specs.Registers.{Regs, reg, with_ad, with_register}
use Rattle.machine.specs.Word.{bit, branch_offset, opcode, rs, rt}
use Rattle.machine.specs.Words.{WordsStayWords}
use Rattle.machine.specs.declared.operation.Operation.TheVariants.{Dif, Sum}
use Rattle.rows.specs.Rows.{row_at, rows}
use Rattle.rows.specs.declared.row.Destination.TheVariants as r
use Rattle.rows.specs.declared.row.Detection.TheVariants as e
use Rattle.rows.specs.declared.row.OperandX.TheVariants as x
use Rattle.rows.specs.declared.row.OperandY.TheVariants as y
use Rattle.rows.specs.declared.row.Row.{Row}
use Rattle.rows.specs.declared.row.Sequencing.TheVariants as s
use Rattle.rows.specs.declared.row.Transfer.TheVariants as m
use Rattle.book.specs.Book.{Book, Refusals, after_fetch, branch_if, effect_of, with_risen_pc, with_link}
use Rattle.book.specs.Fit.{IsFit}
use Rattle.book.specs.Instruction.{Instruction}
use Rattle.paths.specs.Path.{world_at}
use Rattle.paths.proofs.Jumps.{branch, lands}
use Rattle.paths.proofs.Walk.{◌↠◌, Rows, amid, ending, fetching, plus_nothing, row, split, walk, init, fetch, below}
use Rattle.paths.proofs.Walk.{Reaches}

-- the difference of two words, the second read through AD, is zero where they are equal
same_zero : (v w : ℕ) → v < 2 ^ 32 → w < 2 ^ 32 → eqb ((v + (2 ^ 32 - (w + 0) % 2 ^ 32)) % 2 ^ 32) 0 ≡ eqb v w
same_zero v w h k = grind (arith, nat_tests)

-- what the rows that test a sign go by
abbrev sign : ℕ → Bool
sign v = bit 31 ((v + 4294967296) % 2 ^ 32)

abbrev is_zero : ℕ → Bool
is_zero v = eqb ((v + 4294967296) % 2 ^ 32) 0

-- at most one of the two is set
sign_alone : (v : ℕ) → sign v ≡ true → is_zero v ≡ false
sign_alone v p = grind (arith, nat_tests)

high_sign : (v : ℕ) → v < 2 ^ 32 → ltb v (2 ^ 31) ≡ false → true ≡ sign v
high_sign v h k = grind (arith, nat_tests)

low_below : (v : ℕ) → ltb v (2 ^ 31) ≡ true → ltb v 0 ≡ sign v
low_below v h = grind (arith, nat_tests)

low_not_below : (v : ℕ) → ltb v (2 ^ 31) ≡ true → leb 0 v ≡ not (sign v)
low_not_below v h = grind (arith, nat_tests)

low_not_above : (v : ℕ) → ltb v (2 ^ 31) ≡ true → leb v 0 ≡ sign v || is_zero v
low_not_above v h = grind (arith, nat_tests)

low_above : (v : ℕ) → ltb v (2 ^ 31) ≡ true → ltb 0 v ≡ not (sign v || is_zero v)
low_above v h = grind (arith, nat_tests)

-- each test of a branch, in those two
below_is : (v : ℕ) → v < 2 ^ 32 → lt_z (integer_of v) (pos 0) ≡ sign v
below_is v h = split (ltb v (2 ^ 31)) (λ t. rw t (low_below v t)) (λ t. rw t (high_sign v h t))

not_below_is : (v : ℕ) → v < 2 ^ 32 → le_z (pos 0) (integer_of v) ≡ not (sign v)
not_below_is v h = split (ltb v (2 ^ 31)) (λ t. rw t (low_not_below v t)) (λ t. rw t (ap not (high_sign v h t)))

not_above_is : (v : ℕ) → v < 2 ^ 32 → le_z (integer_of v) (pos 0) ≡ sign v || is_zero v
not_above_is v h =
    split (ltb v (2 ^ 31)) (λ t. rw t (low_not_above v t)) (λ t. rw t (ap (λ p. p || is_zero v) (high_sign v h t)))

above_is : (v : ℕ) → v < 2 ^ 32 → lt_z (pos 0) (integer_of v) ≡ not (sign v || is_zero v)
above_is v h =
    split (ltb v (2 ^ 31)) (λ t. rw t (low_above v t)) (λ t. rw t (ap (λ p. not (p || is_zero v)) (high_sign v h t)))

or_right : (p q : Bool) → p || q ≡ true → p ≡ false → q ≡ true
or_right p q h k = sym (ap (λ z. z || q) k) ∙ h

or_left_none : (p q : Bool) → p || q ≡ false → p ≡ false
or_left_none true q h = h
or_left_none false q h = refl

or_right_none : (p q : Bool) → p || q ≡ false → q ≡ false
or_right_none p q h = sym (ap (λ z. z || q) (or_left_none p q h)) ∙ h

not_true : (p : Bool) → not p ≡ true → p ≡ false
not_true true h = sym h
not_true false h = refl

not_false : (p : Bool) → not p ≡ false → p ≡ true
not_false true h = refl
not_false false h = sym h

-- the row that follows a test of sign and zero
turn : (a : ℕ) (p q p' q' : Bool) → p ≡ p' → q ≡ q' → a + one_if p * 2 + one_if q ≡ a + one_if p' * 2 + one_if q'
turn a p q p' q' h k = ap (λ z. a + one_if z * 2 + one_if q) h ∙ ap (λ z. a + one_if p' * 2 + one_if z) k

-- the row that brings the target of a branch to AD
abbrev aim : Row
aim = row x.Pc y.I18 Sum r.Ad m.Nop e.If s.Next 31

module _ (deny : Refusals) (lines : ℕ) (b : Book) (dt : ℕ) (fit : IsFit b) (law : WordsStayWords) where
  abbrev g : Regs
  g = b.regs

  abbrev next : ℕ
  next = (b.regs.pc + 4) % 2 ^ 32

  -- the rows of a branch that is taken, and of one that is not
  abbrev taken_rows : ℕ → Rows
  taken_rows n = (n, aim) ∷ (31, branch) ∷ (15, fetch) ∷ []

  abbrev left : ℕ → Rows
  left n = (n, fetch) ∷ []

  goes : (n : ℕ) (h : Regs) (t : Bool) → t ≡ true
      → walk deny lines (taken_rows n) (amid b h dt None n) ≡ ending lines (after_fetch deny (branch_if b t h)) dt
  goes n h t k =
      lands deny lines b dt h ((h.pc + branch_offset h.ir) % 2 ^ 32) (below (h.pc + branch_offset h.ir))
      ∙ ap (λ z. ending lines (after_fetch deny (branch_if b z h)) dt) (sym k)

  leaves : (n : ℕ) (h : Regs) (t : Bool) → t ≡ false
      → walk deny lines (left n) (amid b h dt None n) ≡ ending lines (after_fetch deny (branch_if b t h)) dt
  leaves n h t k =
      fetching deny lines b h dt n ∙ ap (λ z. ending lines (after_fetch deny (branch_if b z h)) dt) (sym k)

  -- BEQ and BNE
  abbrev one : ℕ
  one = reg g (rs g.ir)

  abbrev other : ℕ
  other = reg g (rt g.ir)

  other_word : (other + 0) % 2 ^ 32 ≡ other
  other_word = plus_nothing other (fit.words.general (rt g.ir))

  same : eqb ((one + (2 ^ 32 - (other + 0) % 2 ^ 32)) % 2 ^ 32) 0 ≡ eqb one other
  same = same_zero one other (fit.words.general (rs g.ir)) (fit.words.general (rt g.ir))

  abbrev compares : ℕ → ℕ → Rows → Rows
  compares k a rest =
      (16, init)
      ∷ (256 + k * 4, row x.Rt y.C0 Sum r.Ad m.Nop e.Nop s.Next (256 + k * 4 + 1))
      ∷ (256 + k * 4 + 1, row x.Rs y.Ad Dif r.Nop m.Nop e.Nop s.Nul a)
      ∷ rest

  compares_gone : (k a n : ℕ) (t : Bool) → t ≡ true
      → walk deny lines (compares k a (taken_rows n)) (world_at b dt 16 None)
      ≡ ending lines (after_fetch deny (branch_if b t (with_ad other (with_risen_pc b)))) dt
  compares_gone k a n t h =
      ap (λ v. walk deny lines (taken_rows n) (amid b (with_ad v (with_risen_pc b)) dt None n)) other_word
      ∙ goes n (with_ad other (with_risen_pc b)) t h

  compares_left : (k a n : ℕ) (t : Bool) → t ≡ false
      → walk deny lines (compares k a (left n)) (world_at b dt 16 None)
      ≡ ending lines (after_fetch deny (branch_if b t (with_ad other (with_risen_pc b)))) dt
  compares_left k a n t h =
      ap (λ v. walk deny lines (left n) (amid b (with_ad v (with_risen_pc b)) dt None n)) other_word
      ∙ leaves n (with_ad other (with_risen_pc b)) t h

  pub branches_equal_taken :
      (o : opcode g.ir ≡ 4) (t : eqb (reg (with_risen_pc b) (rs g.ir)) (reg (with_risen_pc b) (rt g.ir)) ≡ true)
      → Reaches deny lines b dt 16 None 6 (effect_of deny b Instruction.branch_equal (with_risen_pc b))
  unfolding rows
  branches_equal_taken o t =
      record {
        rows = compares 4 32 (taken_rows 33);
        long = refl;
        plain = refl;
        leads =
            (refl, refl)
            ↠ (ap (λ n. 256 + n * 4) o, refl)
            ↠ (refl, refl)
            ↠ (ap (λ z. 32 + one_if z) (same ∙ t), refl)
            ↠ (refl, refl)
            ↠ (refl, refl)
            ↠ tt;
        last = dt;
        arrives = compares_gone 4 32 33 (eqb one other) t;
      }

  pub branches_equal_not :
      (o : opcode g.ir ≡ 4) (t : eqb (reg (with_risen_pc b) (rs g.ir)) (reg (with_risen_pc b) (rt g.ir)) ≡ false)
      → Reaches deny lines b dt 16 None 4 (effect_of deny b Instruction.branch_equal (with_risen_pc b))
  unfolding rows
  branches_equal_not o t =
      record {
        rows = compares 4 32 (left 32);
        long = refl;
        plain = refl;
        leads =
            (refl, refl)
            ↠ (ap (λ n. 256 + n * 4) o, refl)
            ↠ (refl, refl)
            ↠ (ap (λ z. 32 + one_if z) (same ∙ t), refl)
            ↠ tt;
        last = dt;
        arrives = compares_left 4 32 32 (eqb one other) t;
      }

  pub branches_unequal_taken :
      (o : opcode g.ir ≡ 5) (t : not (eqb (reg (with_risen_pc b) (rs g.ir)) (reg (with_risen_pc b) (rt g.ir))) ≡ true)
      → Reaches deny lines b dt 16 None 6 (effect_of deny b Instruction.branch_unequal (with_risen_pc b))
  unfolding rows
  branches_unequal_taken o t =
      record {
        rows = compares 5 34 (taken_rows 34);
        long = refl;
        plain = refl;
        leads =
            (refl, refl)
            ↠ (ap (λ n. 256 + n * 4) o, refl)
            ↠ (refl, refl)
            ↠ (ap (λ z. 34 + one_if z) (same ∙ not_true (eqb one other) t), refl)
            ↠ (refl, refl)
            ↠ (refl, refl)
            ↠ tt;
        last = dt;
        arrives = compares_gone 5 34 34 (not (eqb one other)) t;
      }

  pub branches_unequal_not :
      (o : opcode g.ir ≡ 5) (t : not (eqb (reg (with_risen_pc b) (rs g.ir)) (reg (with_risen_pc b) (rt g.ir))) ≡ false)
      → Reaches deny lines b dt 16 None 4 (effect_of deny b Instruction.branch_unequal (with_risen_pc b))
  unfolding rows
  branches_unequal_not o t =
      record {
        rows = compares 5 34 (left 35);
        long = refl;
        plain = refl;
        leads =
            (refl, refl)
            ↠ (ap (λ n. 256 + n * 4) o, refl)
            ↠ (refl, refl)
            ↠ (ap (λ z. 34 + one_if z) (same ∙ not_false (eqb one other) t), refl)
            ↠ tt;
        last = dt;
        arrives = compares_left 5 34 35 (not (eqb one other)) t;
      }

  -- BLEZ and BGTZ
  abbrev tester : ℕ → Row
  tester a = row x.Rs y.C0 Dif r.Nop m.Nop e.Nop s.Sinul a

  -- where a row that tests a word goes on
  abbrev turned : ℕ → ℕ → ℕ
  turned a v = a / 4 * 4 + one_if (sign v) * 2 + one_if (is_zero v)

  one_small : one < 2 ^ 32
  one_small = fit.words.general (rs g.ir)

  abbrev tests : ℕ → ℕ → Rows → Rows
  tests k a rest = (16, init) ∷ (256 + k * 4, tester a) ∷ rest

  tests_gone : (k a n : ℕ) (t : Bool) → opcode g.ir ≡ k → row_at (256 + k * 4) ≡ tester a → turned a one ≡ n
      → row_at n ≡ aim → t ≡ true → Reaches deny lines b dt 16 None 5 (branch_if b t (with_risen_pc b))
  unfolding rows
  tests_gone k a n t o h1 at h2 k1 =
      record {
        rows = tests k a (taken_rows n);
        long = refl;
        plain = refl;
        leads = (refl, refl) ↠ (ap (λ i. 256 + i * 4) o, h1) ↠ (at, h2) ↠ (refl, refl) ↠ (refl, refl) ↠ tt;
        last = dt;
        arrives = goes n (with_risen_pc b) t k1;
      }

  tests_left : (k a n : ℕ) (t : Bool) → opcode g.ir ≡ k → row_at (256 + k * 4) ≡ tester a → turned a one ≡ n
      → row_at n ≡ fetch → t ≡ false → Reaches deny lines b dt 16 None 3 (branch_if b t (with_risen_pc b))
  unfolding rows
  tests_left k a n t o h1 at h2 k1 =
      record {
        rows = tests k a (left n);
        long = refl;
        plain = refl;
        leads = (refl, refl) ↠ (ap (λ i. 256 + i * 4) o, h1) ↠ (at, h2) ↠ tt;
        last = dt;
        arrives = leaves n (with_risen_pc b) t k1;
      }

  pub branches_not_above_taken :
      (o : opcode g.ir ≡ 6) (t : le_z (integer_of (reg (with_risen_pc b) (rs g.ir))) (pos 0) ≡ true)
      → Reaches deny lines b dt 16 None 5 (effect_of deny b Instruction.branch_not_above (with_risen_pc b))
  unfolding rows
  branches_not_above_taken o t =
      split (sign one)
      (λ p.
      tests_gone 6 44 46 (le_z (integer_of one) (pos 0)) o refl
      (turn 44 (sign one) (is_zero one) true false p (sign_alone one p)) refl t)
      (λ p.
      tests_gone 6 44 45 (le_z (integer_of one) (pos 0)) o refl
      (turn 44 (sign one) (is_zero one) false true p
      (or_right (sign one) (is_zero one) (sym (not_above_is one one_small) ∙ t) p)) refl t)

  pub branches_not_above_not :
      (o : opcode g.ir ≡ 6) (t : le_z (integer_of (reg (with_risen_pc b) (rs g.ir))) (pos 0) ≡ false)
      → Reaches deny lines b dt 16 None 3 (effect_of deny b Instruction.branch_not_above (with_risen_pc b))
  unfolding rows
  branches_not_above_not o t =
      let q : sign one || is_zero one ≡ false = sym (not_above_is one one_small) ∙ t in
      tests_left 6 44 44 (le_z (integer_of one) (pos 0)) o refl
      (turn 44 (sign one) (is_zero one) false false (or_left_none (sign one) (is_zero one) q)
      (or_right_none (sign one) (is_zero one) q)) refl t

  pub branches_above_taken : (o : opcode g.ir ≡ 7)
      (t : lt_z (pos 0) (integer_of (reg (with_risen_pc b) (rs g.ir))) ≡ true)
      → Reaches deny lines b dt 16 None 5 (effect_of deny b Instruction.branch_above (with_risen_pc b))
  unfolding rows
  branches_above_taken o t =
      let q : sign one || is_zero one ≡ false =
      not_true (sign one || is_zero one) (sym (above_is one one_small) ∙ t) in
      tests_gone 7 48 48 (lt_z (pos 0) (integer_of one)) o refl
      (turn 48 (sign one) (is_zero one) false false (or_left_none (sign one) (is_zero one) q)
      (or_right_none (sign one) (is_zero one) q)) refl t

  pub branches_above_not : (o : opcode g.ir ≡ 7)
      (t : lt_z (pos 0) (integer_of (reg (with_risen_pc b) (rs g.ir))) ≡ false)
      → Reaches deny lines b dt 16 None 3 (effect_of deny b Instruction.branch_above (with_risen_pc b))
  unfolding rows
  branches_above_not o t =
      split (sign one)
      (λ p.
      tests_left 7 48 50 (lt_z (pos 0) (integer_of one)) o refl
      (turn 48 (sign one) (is_zero one) true false p (sign_alone one p)) refl t)
      (λ p.
      tests_left 7 48 49 (lt_z (pos 0) (integer_of one)) o refl
      (turn 48 (sign one) (is_zero one) false true p
      (or_right (sign one) (is_zero one) (not_false (sign one || is_zero one) (sym (above_is one one_small) ∙ t)) p))
      refl t)

  -- BLTZ and BGEZ
  abbrev decides : Row
  decides = row x.C0 y.C0 Sum r.Nop m.Nop e.Nop s.Bcond 192

  -- the row that IR bits 20 and 16 choose
  abbrev chosen : ℕ
  chosen = 192 + one_if (bit 20 g.ir) * 2 + one_if (bit 16 g.ir)

  abbrev signs : ℕ → ℕ → Rows → Rows
  signs d a rest = (16, init) ∷ (260, decides) ∷ (d, tester a) ∷ rest

  signs_gone : (d a n : ℕ) (t : Bool) → opcode g.ir ≡ 1 → chosen ≡ d → row_at d ≡ tester a → turned a one ≡ n
      → row_at n ≡ aim → t ≡ true → Reaches deny lines b dt 16 None 6 (branch_if b t (with_risen_pc b))
  unfolding rows
  signs_gone d a n t o c h1 at h2 k1 =
      record {
        rows = signs d a (taken_rows n);
        long = refl;
        plain = refl;
        leads = (refl, refl) ↠ (ap (λ i. 256 + i * 4) o, refl) ↠ (c, h1) ↠ (at, h2) ↠ (refl, refl) ↠ (refl, refl) ↠ tt;
        last = dt;
        arrives = goes n (with_risen_pc b) t k1;
      }

  signs_left : (d a n : ℕ) (t : Bool) → opcode g.ir ≡ 1 → chosen ≡ d → row_at d ≡ tester a → turned a one ≡ n
      → row_at n ≡ fetch → t ≡ false → Reaches deny lines b dt 16 None 4 (branch_if b t (with_risen_pc b))
  unfolding rows
  signs_left d a n t o c h1 at h2 k1 =
      record {
        rows = signs d a (left n);
        long = refl;
        plain = refl;
        leads = (refl, refl) ↠ (ap (λ i. 256 + i * 4) o, refl) ↠ (c, h1) ↠ (at, h2) ↠ tt;
        last = dt;
        arrives = leaves n (with_risen_pc b) t k1;
      }

  pub branches_below_taken :
      (o : opcode g.ir ≡ 1) (w : bit 16 g.ir ≡ false) (l : bit 20 g.ir ≡ false)
      (t : lt_z (integer_of (reg (with_link false (with_risen_pc b)) (rs g.ir))) (pos 0) ≡ true)
      → Reaches deny lines b dt 16 None 6 (effect_of deny b (Instruction.branch_below false) (with_risen_pc b))
  unfolding rows
  branches_below_taken o w l t =
      let p : sign one ≡ true = sym (below_is one one_small) ∙ t in
      signs_gone 192 36 38 (lt_z (integer_of one) (pos 0)) o (turn 192 (bit 20 g.ir) (bit 16 g.ir) false false l w)
      refl (turn 36 (sign one) (is_zero one) true false p (sign_alone one p)) refl t

  pub branches_below_not :
      (o : opcode g.ir ≡ 1) (w : bit 16 g.ir ≡ false) (l : bit 20 g.ir ≡ false)
      (t : lt_z (integer_of (reg (with_link false (with_risen_pc b)) (rs g.ir))) (pos 0) ≡ false)
      → Reaches deny lines b dt 16 None 4 (effect_of deny b (Instruction.branch_below false) (with_risen_pc b))
  unfolding rows
  branches_below_not o w l t =
      let p : sign one ≡ false = sym (below_is one one_small) ∙ t in
      let c : chosen ≡ 192 = turn 192 (bit 20 g.ir) (bit 16 g.ir) false false l w in
      split (is_zero one)
      (λ q.
      signs_left 192 36 37 (lt_z (integer_of one) (pos 0)) o c refl
      (turn 36 (sign one) (is_zero one) false true p q) refl t)
      (λ q.
      signs_left 192 36 36 (lt_z (integer_of one) (pos 0)) o c refl
      (turn 36 (sign one) (is_zero one) false false p q) refl t)

  pub branches_not_below_taken :
      (o : opcode g.ir ≡ 1) (w : bit 16 g.ir ≡ true) (l : bit 20 g.ir ≡ false)
      (t : le_z (pos 0) (integer_of (reg (with_link false (with_risen_pc b)) (rs g.ir))) ≡ true)
      → Reaches deny lines b dt 16 None 6 (effect_of deny b (Instruction.branch_not_below false) (with_risen_pc b))
  unfolding rows
  branches_not_below_taken o w l t =
      let p : sign one ≡ false = not_true (sign one) (sym (not_below_is one one_small) ∙ t) in
      let c : chosen ≡ 193 = turn 192 (bit 20 g.ir) (bit 16 g.ir) false true l w in
      split (is_zero one)
      (λ q.
      signs_gone 193 40 41 (le_z (pos 0) (integer_of one)) o c refl
      (turn 40 (sign one) (is_zero one) false true p q) refl t)
      (λ q.
      signs_gone 193 40 40 (le_z (pos 0) (integer_of one)) o c refl
      (turn 40 (sign one) (is_zero one) false false p q) refl t)

  pub branches_not_below_not :
      (o : opcode g.ir ≡ 1) (w : bit 16 g.ir ≡ true) (l : bit 20 g.ir ≡ false)
      (t : le_z (pos 0) (integer_of (reg (with_link false (with_risen_pc b)) (rs g.ir))) ≡ false)
      → Reaches deny lines b dt 16 None 4 (effect_of deny b (Instruction.branch_not_below false) (with_risen_pc b))
  unfolding rows
  branches_not_below_not o w l t =
      let p : sign one ≡ true = not_false (sign one) (sym (not_below_is one one_small) ∙ t) in
      signs_left 193 40 42 (le_z (pos 0) (integer_of one)) o (turn 192 (bit 20 g.ir) (bit 16 g.ir) false true l w) refl
      (turn 40 (sign one) (is_zero one) true false p (sign_alone one p)) refl t

  -- BLTZAL and BGEZAL: RS is read after the link is written
  abbrev linking : ℕ → Row
  linking d = row x.Pc y.C0 Sum r.R31 m.Nop e.Nop s.Next d

  abbrev link_in : ℕ → Regs
  link_in v = with_register 31 v (with_risen_pc b)

  next_word : (next + 0) % 2 ^ 32 ≡ next
  next_word = plus_nothing next (below (b.regs.pc + 4))

  abbrev then : ℕ
  then = reg (link_in next) (rs g.ir)

  then_small : then < 2 ^ 32
  then_small = law.general (with_risen_pc b) 31 (rs g.ir) next (below (b.regs.pc + 4)) fit.words.general

  abbrev links : ℕ → ℕ → ℕ → Rows → Rows
  links c d a rest = (16, init) ∷ (260, decides) ∷ (c, linking d) ∷ (d, tester a) ∷ rest

  then_turned : (a n : ℕ) → turned a then ≡ n → turned a (reg (link_in ((next + 0) % 2 ^ 32)) (rs g.ir)) ≡ n
  then_turned a n at = ap (λ v. turned a (reg (link_in v) (rs g.ir))) next_word ∙ at

  links_gone : (c d a n : ℕ) (t : Bool) → opcode g.ir ≡ 1 → chosen ≡ c → row_at c ≡ linking d → row_at d ≡ tester a
      → turned a then ≡ n → row_at n ≡ aim → t ≡ true
      → Reaches deny lines b dt 16 None 7 (branch_if b t (link_in next))
  unfolding rows
  links_gone c d a n t o h0 h1 h2 at h3 k1 =
      record {
        rows = links c d a (taken_rows n);
        long = refl;
        plain = refl;
        leads =
            (refl, refl)
            ↠ (ap (λ i. 256 + i * 4) o, refl)
            ↠ (h0, h1)
            ↠ (refl, h2)
            ↠ (then_turned a n at, h3)
            ↠ (refl, refl)
            ↠ (refl, refl)
            ↠ tt;
        last = dt;
        arrives =
            ap (λ v. walk deny lines (taken_rows n) (amid b (link_in v) dt None n)) next_word
            ∙ goes n (link_in next) t k1;
      }

  links_left : (c d a n : ℕ) (t : Bool) → opcode g.ir ≡ 1 → chosen ≡ c → row_at c ≡ linking d → row_at d ≡ tester a
      → turned a then ≡ n → row_at n ≡ fetch → t ≡ false
      → Reaches deny lines b dt 16 None 5 (branch_if b t (link_in next))
  unfolding rows
  links_left c d a n t o h0 h1 h2 at h3 k1 =
      record {
        rows = links c d a (left n);
        long = refl;
        plain = refl;
        leads = (refl, refl) ↠ (ap (λ i. 256 + i * 4) o, refl) ↠ (h0, h1) ↠ (refl, h2) ↠ (then_turned a n at, h3) ↠ tt;
        last = dt;
        arrives =
            ap (λ v. walk deny lines (left n) (amid b (link_in v) dt None n)) next_word ∙ leaves n (link_in next) t k1;
      }

  pub branches_below_link_taken :
      (o : opcode g.ir ≡ 1) (w : bit 16 g.ir ≡ false) (l : bit 20 g.ir ≡ true)
      (t : lt_z (integer_of (reg (with_link true (with_risen_pc b)) (rs g.ir))) (pos 0) ≡ true)
      → Reaches deny lines b dt 16 None 7 (effect_of deny b (Instruction.branch_below true) (with_risen_pc b))
  unfolding rows
  branches_below_link_taken o w l t =
      let p : sign then ≡ true = sym (below_is then then_small) ∙ t in
      links_gone 194 192 36 38 (lt_z (integer_of then) (pos 0)) o (turn 192 (bit 20 g.ir) (bit 16 g.ir) true false l w)
      refl refl (turn 36 (sign then) (is_zero then) true false p (sign_alone then p)) refl t

  pub branches_below_link_not :
      (o : opcode g.ir ≡ 1) (w : bit 16 g.ir ≡ false) (l : bit 20 g.ir ≡ true)
      (t : lt_z (integer_of (reg (with_link true (with_risen_pc b)) (rs g.ir))) (pos 0) ≡ false)
      → Reaches deny lines b dt 16 None 5 (effect_of deny b (Instruction.branch_below true) (with_risen_pc b))
  unfolding rows
  branches_below_link_not o w l t =
      let p : sign then ≡ false = sym (below_is then then_small) ∙ t in
      let c : chosen ≡ 194 = turn 192 (bit 20 g.ir) (bit 16 g.ir) true false l w in
      split (is_zero then)
      (λ q.
      links_left 194 192 36 37 (lt_z (integer_of then) (pos 0)) o c refl refl
      (turn 36 (sign then) (is_zero then) false true p q) refl t)
      (λ q.
      links_left 194 192 36 36 (lt_z (integer_of then) (pos 0)) o c refl refl
      (turn 36 (sign then) (is_zero then) false false p q) refl t)

  pub branches_not_below_link_taken :
      (o : opcode g.ir ≡ 1) (w : bit 16 g.ir ≡ true) (l : bit 20 g.ir ≡ true)
      (t : le_z (pos 0) (integer_of (reg (with_link true (with_risen_pc b)) (rs g.ir))) ≡ true)
      → Reaches deny lines b dt 16 None 7 (effect_of deny b (Instruction.branch_not_below true) (with_risen_pc b))
  unfolding rows
  branches_not_below_link_taken o w l t =
      let p : sign then ≡ false = not_true (sign then) (sym (not_below_is then then_small) ∙ t) in
      let c : chosen ≡ 195 = turn 192 (bit 20 g.ir) (bit 16 g.ir) true true l w in
      split (is_zero then)
      (λ q.
      links_gone 195 193 40 41 (le_z (pos 0) (integer_of then)) o c refl refl
      (turn 40 (sign then) (is_zero then) false true p q) refl t)
      (λ q.
      links_gone 195 193 40 40 (le_z (pos 0) (integer_of then)) o c refl refl
      (turn 40 (sign then) (is_zero then) false false p q) refl t)

  pub branches_not_below_link_not :
      (o : opcode g.ir ≡ 1) (w : bit 16 g.ir ≡ true) (l : bit 20 g.ir ≡ true)
      (t : le_z (pos 0) (integer_of (reg (with_link true (with_risen_pc b)) (rs g.ir))) ≡ false)
      → Reaches deny lines b dt 16 None 5 (effect_of deny b (Instruction.branch_not_below true) (with_risen_pc b))
  unfolding rows
  branches_not_below_link_not o w l t =
      let p : sign then ≡ true = not_false (sign then) (sym (not_below_is then then_small) ∙ t) in
      links_left 195 193 40 42 (le_z (pos 0) (integer_of then)) o (turn 192 (bit 20 g.ir) (bit 16 g.ir) true true l w)
      refl refl (turn 40 (sign then) (is_zero then) true false p (sign_alone then p)) refl t
