-- Loads. Assumes nothing.
use Rattle.std.proofs.Common.{◌≡◌, ℕ, ◌+◌, ◌-◌, ◌*◌, ◌/◌, ◌%◌, ◌^◌, ◌<◌, Bool, true, false, cond, not, eqb, [], ◌∷◌}
use Rattle.std.proofs.Common.{Some, None, Option, sym, refl, ap, ◌∙◌, arith}
use Rattle.std.proofs.lemmas.Bool.Decides.{nat_tests}
use Rattle.bus.specs.Meaning.{word_at}
use Rattle.bus.specs.Request.{word_of}
use Rattle.bus.specs.declared.request.Answer.TheVariants.{BusError, Done}
use Rattle.bus.specs.declared.request.Width.{Width}
use Rattle.bus.specs.declared.request.Width.TheVariants.{Word, Half, Byte}
use Rattle.machine.specs.Address.{is_barred, is_misplaced}
use Rattle.machine.specs.Operation.{one_if, result_of}
use Rattle.machine.specs.Registers.{Regs, with_ad, with_ir, with_register}
use Rattle.machine.specs.Word.{bit, opcode, rt}
use Rattle.machine.specs.Words.{WordsStayWords}
use Rattle.machine.specs.declared.fault.Fault.{Fault}
use Rattle.machine.specs.declared.fault.Fault.TheVariants as f
use Rattle.machine.specs.declared.operation.Operation.{Operation}
use Rattle.machine.specs.declared.operation.Operation.TheVariants.{Sll, Sra, Srl, Sum}
use Rattle.rows.specs.Rows.{row_at, rows}
use Rattle.rows.specs.declared.row.Destination.TheVariants as r
use Rattle.rows.specs.declared.row.Detection.{Detection}
use Rattle.rows.specs.declared.row.Detection.TheVariants as e
use Rattle.rows.specs.declared.row.OperandX.{OperandX}
use Rattle.rows.specs.declared.row.OperandX.TheVariants as x
use Rattle.rows.specs.declared.row.OperandY.{OperandY}
use Rattle.rows.specs.declared.row.OperandY.TheVariants as y
use Rattle.rows.specs.declared.row.Row.{Row}
use Rattle.rows.specs.declared.row.Sequencing.TheVariants as s
use Rattle.rows.specs.declared.row.Transfer.TheVariants as m
use Rattle.microprogram.specs.Cycle.{fault_if, operand_x, operand_y, row_output, state_after}
use Rattle.book.specs.Book.{Book, Effect, Refusals, address, after_fetch, as_word, effect_of, with_risen_pc}
use Rattle.book.specs.Book.{raised_byte}
use Rattle.book.specs.Book.{raised_half, with_fault, without_fault}
use Rattle.book.specs.Fit.{IsFit}
use Rattle.book.specs.Instruction.{Instruction}
use Rattle.paths.specs.Instant.{World}
use Rattle.paths.specs.Path.{world_at}
use Rattle.paths.proofs.Walk.{◌↠◌, Rows, amid, ending, nothing_plus, row, split, walk, init, only_last, Reaches}

abbrev checking : Width → Detection
checking Word = e.Lw
checking Half = e.Lh
checking Byte = e.Lb

abbrev bad : Width → ℕ → ℕ → Bool
bad Word sr at = is_misplaced 4 sr at
bad Half sr at = is_misplaced 2 sr at
bad Byte sr at = is_barred sr at

-- the address
abbrev addressing : Width → ℕ → Row
addressing w k = row x.Rs y.I16 Sum r.Ad m.Nop (checking w) s.Next k

-- the load to DT
abbrev loading : Width → Row
loading Word = row x.C0 y.C0 Sum r.Nop m.Lw e.Dbe s.Next 398
loading Half = row x.C0 y.C0 Sum r.Nop m.Lw e.Dbe s.Ad1 58
loading Byte = row x.C0 y.C0 Sum r.Nop m.Lw e.Dbe s.Ad10 52

-- the row after it
abbrev after : Width → ℕ → ℕ
after Word at = 398
after Half at = 58 + one_if (bit 1 at)
after Byte at = 52 + at % 4

load_by : (lines : ℕ) (b : Book) (g : Regs) (dt k : ℕ) (w : Width) (value : ℕ × Bool × Bool) (word : ℕ) (u : Bool)
    → ◌≡◌ {A = World}
    (record {
      state = state_after (loading w) lines value (Some (cond u BusError (Done word)))
          (amid b g dt None k).state;
      bytes = b.bytes;
    }) (amid b g (cond u dt word) (fault_if u f.Dbe) (after w g.ad))
load_by lines b g dt k Word value word true = refl
load_by lines b g dt k Word value word false = refl
load_by lines b g dt k Half value word true = refl
load_by lines b g dt k Half value word false = refl
load_by lines b g dt k Byte value word true = refl
load_by lines b g dt k Byte value word false = refl

-- the word at AD
abbrev word_in : Book → Regs → ℕ
word_in b g = word_at b.bytes (word_of g.ad)

-- whether it is refused
abbrev kept : Refusals → Regs → Bool
kept deny g = deny.unreadable (word_of g.ad)

load_row : (deny : Refusals) (lines : ℕ) (b : Book) (g : Regs) (dt k : ℕ) (w : Width) (v : Bool)
    → walk deny lines ((k, loading w) ∷ []) (amid b g dt (fault_if v f.Adel) k)
    ≡ amid b g (cond v dt (cond (kept deny g) dt (word_in b g)))
    (cond v (Some f.Adel) (fault_if (kept deny g) f.Dbe)) (after w g.ad)
load_row deny lines b g dt k Word true = refl
load_row deny lines b g dt k Half true = refl
load_row deny lines b g dt k Byte true = refl
load_row deny lines b g dt k Word false =
    load_by lines b g dt k Word (row_output (loading Word) (amid b g dt None k).state) (word_in b g) (kept deny g)
load_row deny lines b g dt k Half false =
    load_by lines b g dt k Half (row_output (loading Half) (amid b g dt None k).state) (word_in b g) (kept deny g)
load_row deny lines b g dt k Byte false =
    load_by lines b g dt k Byte (row_output (loading Byte) (amid b g dt None k).state) (word_in b g) (kept deny g)

rest_out :
    (deny : Refusals) (lines : ℕ) (b : Book) (g : Regs) (dt j : ℕ) (rest : Rows) (good : Effect) (word : ℕ)
    (quiet : (c : Fault)
    → walk deny lines rest (amid b g dt (Some c) j) ≡ ending lines (after_fetch deny (with_fault b c g)) dt)
    (v u : Bool)
    (works : v ≡ false → walk deny lines rest (amid b g word None j) ≡ ending lines (after_fetch deny good) word)
    → walk deny lines rest (amid b g (cond v dt (cond u dt word)) (cond v (Some f.Adel) (fault_if u f.Dbe)) j)
    ≡ ending lines (after_fetch deny (cond v (with_fault b f.Adel g) (cond u (with_fault b f.Dbe g) good)))
    (cond v dt (cond u dt word))
rest_out deny lines b g dt j rest good word quiet true u works = quiet f.Adel
rest_out deny lines b g dt j rest good word quiet false true works = quiet f.Dbe
rest_out deny lines b g dt j rest good word quiet false false works = works refl

-- a last row, which writes RT and fetches
abbrev final : OperandX → OperandY → Operation → Row
final a c op = row a c op r.Rt m.If e.Ibe s.Rie 16

final_by :
    (lines : ℕ) (b : Book) (g : Regs) (dt k : ℕ) (a : OperandX) (c : OperandY) (op : Operation)
    (value : ℕ × Bool × Bool) (word : ℕ) (u : Bool)
    → ◌≡◌ {A = World}
    (record {
      state = state_after (final a c op) lines value (Some (cond u BusError (Done word)))
          (amid b g dt None k).state;
      bytes = b.bytes;
    })
    (ending lines
    (cond u
    (record {
      regs = with_register (rt g.ir) value.0 g;
      ledger = b.ledger;
      bytes = b.bytes;
      fault = Some f.Ibe;
      event_sr = g.sr;
    })
    (record {
      regs = with_ir word (with_register (rt g.ir) value.0 g);
      ledger = b.ledger;
      bytes = b.bytes;
      fault = None;
      event_sr = g.sr;
    })) dt)
final_by lines b g dt k a c op value word true = refl
final_by lines b g dt k a c op value word false = refl

final_row :
    (deny : Refusals) (lines : ℕ) (b : Book) (g : Regs) (dt k : ℕ) (a : OperandX) (c : OperandY) (op : Operation)
    (v : ℕ) (h : result_of op (operand_x b.sampled dt g a) (operand_y dt g c) ≡ v)
    → walk deny lines ((k, final a c op) ∷ []) (amid b g dt None k)
    ≡ ending lines (after_fetch deny (without_fault b (with_register (rt g.ir) v g))) dt
final_row deny lines b g dt k a c op v h =
    final_by lines b g dt k a c op (row_output (final a c op) (amid b g dt None k).state)
    (word_at b.bytes (word_of g.pc)) (deny.unreadable (word_of g.pc))
    ∙ ap (λ n. ending lines (after_fetch deny (without_fault b (with_register (rt g.ir) n g))) dt) h

-- a word of bytes
word_small : (b : Book) (fit : IsFit b) (w : ℕ) → word_at b.bytes w < 2 ^ 32
word_small b fit w =
    let p0 : b.bytes w < 256 = fit.bytes w in
    let p1 : b.bytes (w + 1) < 256 = fit.bytes (w + 1) in
    let p2 : b.bytes (w + 2) < 256 = fit.bytes (w + 2) in
    let p3 : b.bytes (w + 3) < 256 = fit.bytes (w + 3) in
    omega arith

-- down by 24: the high byte, with its sign or without
sra_byte : (low v : ℕ) → low < 2 ^ 24 → v < 256 → result_of Sra (low + v * 2 ^ 24) 24 ≡ as_word true 8 v
sra_byte low v p q = grind (arith, nat_tests)

srl_byte : (low v : ℕ) → low < 2 ^ 24 → v < 256 → result_of Srl (low + v * 2 ^ 24) 24 ≡ v
srl_byte low v p q = omega arith

sra_half : (low v : ℕ) → low < 2 ^ 16 → v < 2 ^ 16 → result_of Sra (low + v * 2 ^ 16) 16 ≡ as_word true 16 v
sra_half low v p q = grind (arith, nat_tests)

srl_half : (low v : ℕ) → low < 2 ^ 16 → v < 2 ^ 16 → result_of Srl (low + v * 2 ^ 16) 16 ≡ v
srl_half low v p q = omega arith

abbrev down : Bool → Operation
down true = Sra
down false = Srl

down_byte : (sign : Bool) (low v : ℕ) → low < 2 ^ 24 → v < 256
    → result_of (down sign) (low + v * 2 ^ 24) 24 ≡ as_word sign 8 v
down_byte true low v p q = sra_byte low v p q
down_byte false low v p q = srl_byte low v p q

down_half : (sign : Bool) (low v : ℕ) → low < 2 ^ 16 → v < 2 ^ 16
    → result_of (down sign) (low + v * 2 ^ 16) 16 ≡ as_word sign 16 v
down_half true low v p q = sra_half low v p q
down_half false low v p q = srl_half low v p q

-- up: the byte of each lane, or the half, stands highest
up_0 : (b0 b1 b2 b3 : ℕ) → b0 < 256 → (b0 + b1 * 256 + b2 * 65536 + b3 * 16777216) * 2 ^ 24 % 2 ^ 32 ≡ 0 + b0 * 2 ^ 24
up_0 b0 b1 b2 b3 p = omega arith

up_1 : (b0 b1 b2 b3 : ℕ) → b0 < 256 → b1 < 256
    → (b0 + b1 * 256 + b2 * 65536 + b3 * 16777216) * 2 ^ 16 % 2 ^ 32 ≡ b0 * 2 ^ 16 + b1 * 2 ^ 24
up_1 b0 b1 b2 b3 p q = omega arith

up_2 : (b0 b1 b2 b3 : ℕ) → b0 < 256 → b1 < 256 → b2 < 256
    → (b0 + b1 * 256 + b2 * 65536 + b3 * 16777216) * 2 ^ 8 % 2 ^ 32 ≡ (b0 * 2 ^ 8 + b1 * 2 ^ 16) + b2 * 2 ^ 24
up_2 b0 b1 b2 b3 p q o = omega arith

up_3 : (b0 b1 b2 b3 : ℕ) → b0 < 256 → b1 < 256 → b2 < 256 → b3 < 256
    → (b0 + b1 * 256 + b2 * 65536 + b3 * 16777216 + 0) % 2 ^ 32 ≡ (b0 + b1 * 256 + b2 * 65536) + b3 * 2 ^ 24
up_3 b0 b1 b2 b3 p q o i = omega arith

up_low : (b0 b1 b2 b3 : ℕ) → b0 < 256 → b1 < 256
    → (b0 + b1 * 256 + b2 * 65536 + b3 * 16777216) * 2 ^ 16 % 2 ^ 32 ≡ 0 + (b0 + b1 * 256) * 2 ^ 16
up_low b0 b1 b2 b3 p q = omega arith

up_high : (b0 b1 b2 b3 : ℕ) → b0 < 256 → b1 < 256 → b2 < 256 → b3 < 256
    → (b0 + b1 * 256 + b2 * 65536 + b3 * 16777216 + 0) % 2 ^ 32 ≡ (b0 + b1 * 256) + (b2 + b3 * 256) * 2 ^ 16
up_high b0 b1 b2 b3 p q o i = omega arith

plus_none : (n : ℕ) → (n + 0) % 2 ^ 32 ≡ n * 1 % 2 ^ 32
plus_none n = omega arith

lane_at : (n l : ℕ) → n % 4 ≡ l → n ≡ n - n % 4 + l
lane_at n l h = omega arith

lane_at_0 : (n : ℕ) → n % 4 ≡ 0 → n ≡ n - n % 4
lane_at_0 n h = omega arith

low_at : (n : ℕ) → n % 2 ≡ 0 → n / 2 % 2 ≡ 0 → n ≡ n - n % 4
low_at n p h = omega arith

high_at : (n : ℕ) → n % 2 ≡ 0 → n / 2 % 2 ≡ 1 → n ≡ n - n % 4 + 2
high_at n p h = omega arith

low_next : (n : ℕ) → n % 2 ≡ 0 → n / 2 % 2 ≡ 0 → n + 1 ≡ n - n % 4 + 1
low_next n p h = omega arith

high_next : (n : ℕ) → n % 2 ≡ 0 → n / 2 % 2 ≡ 1 → n + 1 ≡ n - n % 4 + 3
high_next n p h = omega arith

even : (sr n : ℕ) → is_misplaced 2 sr n ≡ false → n % 2 ≡ 0
even sr n h = grind (arith, nat_tests)

bit_32 : (ir : ℕ) → opcode ir ≡ 32 → bit 28 ir ≡ false
bit_32 ir h = grind (arith, nat_tests)

bit_33 : (ir : ℕ) → opcode ir ≡ 33 → bit 28 ir ≡ false
bit_33 ir h = grind (arith, nat_tests)

bit_36 : (ir : ℕ) → opcode ir ≡ 36 → bit 28 ir ≡ true
bit_36 ir h = grind (arith, nat_tests)

bit_37 : (ir : ℕ) → opcode ir ≡ 37 → bit 28 ir ≡ true
bit_37 ir h = grind (arith, nat_tests)

by_two : {G : Type 0} (n : ℕ) → (n / 2 % 2 ≡ 0 → G) → (n / 2 % 2 ≡ 1 → G) → G
by_two n h0 h1 = split (eqb (n / 2 % 2) 0) (λ q. h0 (grind (arith, nat_tests))) (λ q. h1 (grind (arith, nat_tests)))

by_four : {G : Type 0} (n : ℕ) → (n % 4 ≡ 0 → G) → (n % 4 ≡ 1 → G) → (n % 4 ≡ 2 → G) → (n % 4 ≡ 3 → G) → G
by_four n h0 h1 h2 h3 =
    split (eqb (n % 4) 0) (λ q. h0 (grind (arith, nat_tests)))
    (λ q.
    split (eqb (n % 4) 1) (λ o. h1 (grind (arith, nat_tests)))
    (λ o. split (eqb (n % 4) 2) (λ i. h2 (grind (arith, nat_tests))) (λ i. h3 (grind (arith, nat_tests)))))

-- the row of a lane
abbrev lane : OperandY → Operation → ℕ → Row
lane c op n = row x.Dt c op r.Ad m.Nop e.Nop s.Unsi n

-- the two last rows of a byte or half load
lane_rows :
    (deny : Refusals) (lines : ℕ) (b : Book) (g : Regs) (dt j k n : ℕ) (c i : OperandY) (op down' : Operation)
    (a v : ℕ) (h : result_of op dt (operand_y dt g c) ≡ a)
    (h' : result_of down' a (operand_y dt (with_ad a g) i) ≡ v)
    → walk deny lines ((j, lane c op n) ∷ (k, final x.Ad i down') ∷ []) (amid b g dt None j)
    ≡ ending lines (after_fetch deny (without_fault b (with_register (rt g.ir) v (with_ad a g)))) dt
lane_rows deny lines b g dt j k n c i op down' a v h h' =
    ap (λ q. walk deny lines ((k, final x.Ad i down') ∷ []) (amid b (with_ad q g) dt None k)) h
    ∙ final_row deny lines b (with_ad a g) dt k x.Ad i down' v h'

module _ (deny : Refusals) (lines : ℕ) (b : Book) (dt : ℕ) (fit : IsFit b) (law : WordsStayWords) where
  abbrev g : Regs
  g = b.regs

  abbrev at : ℕ
  at = address (with_risen_pc b)

  -- the registers with the address in AD
  abbrev aimed : Regs
  aimed = with_ad at (with_risen_pc b)

  -- the word that is loaded, and DT afterwards
  abbrev the_word : ℕ
  the_word = word_at b.bytes (word_of at)

  abbrev dt_after : Width → ℕ
  dt_after w = cond (bad w g.sr at) dt (cond (deny.unreadable (word_of at)) dt the_word)

  abbrev flag_after : Width → Option Fault
  flag_after w = cond (bad w g.sr at) (Some f.Adel) (fault_if (deny.unreadable (word_of at)) f.Dbe)

  -- the three first rows
  abbrev begun : Width → ℕ → ℕ → Rows
  begun w k j = (16, init) ∷ (k, addressing w j) ∷ (j, loading w) ∷ []

  stage : (w : Width) (k j : ℕ)
      → walk deny lines ((16, init) ∷ (k, addressing w j) ∷ []) (world_at b dt 16 None)
      ≡ amid b aimed dt (fault_if (bad w g.sr at) f.Adel) j
  stage Word k j = refl
  stage Half k j = refl
  stage Byte k j = refl

  begin : (w : Width) (k j : ℕ)
      → walk deny lines (begun w k j) (world_at b dt 16 None) ≡ amid b aimed (dt_after w) (flag_after w) (after w at)
  begin w k j =
      ap (walk deny lines ((j, loading w) ∷ [])) (stage w k j) ∙ load_row deny lines b aimed dt j w (bad w g.sr at)

  abbrev word_rest : Rows
  word_rest = (398, final x.C0 y.Dt Sum) ∷ []

  abbrev loads_word_rows : Rows
  loads_word_rows = (16, init) ∷ (396, addressing Word 397) ∷ (397, loading Word) ∷ (398, final x.C0 y.Dt Sum) ∷ []

  loads_word_walk :
      walk deny lines loads_word_rows (world_at b dt 16 None)
      ≡ ending lines (after_fetch deny (effect_of deny b Instruction.load_word (with_risen_pc b))) (dt_after Word)
  loads_word_walk =
      ap (walk deny lines word_rest) (begin Word 396 397)
      ∙ rest_out deny lines b aimed dt 398 word_rest (without_fault b (with_register (rt g.ir) the_word aimed))
      the_word (λ c. refl) (is_misplaced 4 g.sr at) (deny.unreadable (word_of at))
      (λ q.
      final_row deny lines b aimed the_word 398 x.C0 y.Dt Sum the_word
      (nothing_plus the_word (word_small b fit (word_of at))))

  pub loads_word : (o : opcode g.ir ≡ 35)
      → Reaches deny lines b dt 16 None 4 (effect_of deny b Instruction.load_word (with_risen_pc b))
  unfolding rows
  loads_word o =
      record {
        rows = loads_word_rows;
        long = refl;
        plain = refl;
        leads = (refl, refl) ↠ (ap (λ n. 256 + n * 4) o, refl) ↠ (refl, refl) ↠ (refl, refl) ↠ tt;
        last = dt_after Word;
        arrives = loads_word_walk;
      }

  abbrev byte_rest : Bool → ℕ → OperandY → Operation → Rows
  byte_rest sign l c op = (52 + l, lane c op 56) ∷ (56 + one_if (not sign), final x.Ad y.C24 (down sign)) ∷ []

  abbrev byte_rows : Bool → ℕ → ℕ → OperandY → Operation → Rows
  byte_rows sign k l c op =
      (16, init)
      ∷ (k, addressing Byte 385)
      ∷ (385, loading Byte)
      ∷ (52 + l, lane c op 56)
      ∷ (56 + one_if (not sign), final x.Ad y.C24 (down sign))
      ∷ []

  byte_walk :
      (sign : Bool) (k l : ℕ) (c : OperandY) (op : Operation) (low v : ℕ) (p : low < 2 ^ 24) (q : v < 256)
      (up : result_of op the_word (operand_y the_word aimed c) ≡ low + v * 2 ^ 24)
      (raise : raised_byte at the_word ≡ low + v * 2 ^ 24) (this : b.bytes at ≡ v)
      → walk deny lines (byte_rows sign k l c op) (world_at b dt 16 None)
      ≡ ending lines (after_fetch deny (effect_of deny b (Instruction.load_byte sign) (with_risen_pc b)))
      (dt_after Byte)
  byte_walk sign k l c op low v p q up raise this =
      ap (walk deny lines (byte_rest sign l c op)) (begin Byte k 385)
      ∙ rest_out deny lines b aimed dt (after Byte at) (byte_rest sign l c op)
      (without_fault b
      (with_register (rt g.ir) (as_word sign 8 (b.bytes at)) (with_ad (raised_byte at the_word) aimed))) the_word
      (λ i. refl) (is_barred g.sr at) (deny.unreadable (word_of at))
      (λ o.
      lane_rows deny lines b aimed the_word (after Byte at) (56 + one_if (not sign)) 56 c y.C24 op (down sign)
      (raised_byte at the_word) (as_word sign 8 (b.bytes at)) (up ∙ sym raise)
      (ap (λ n. result_of (down sign) n 24) raise ∙ down_byte sign low v p q ∙ ap (as_word sign 8) (sym this)))

  byte_lane :
      (sign : Bool) (k j l : ℕ) (c : OperandY) (op : Operation) (low v : ℕ) (p : low < 2 ^ 24) (q : v < 256)
      (up : result_of op the_word (operand_y the_word aimed c) ≡ low + v * 2 ^ 24)
      (raise : raised_byte at the_word ≡ low + v * 2 ^ 24) (this : b.bytes at ≡ v)
      (o : opcode g.ir ≡ j) (jk : 256 + j * 4 ≡ k) (h : at % 4 ≡ l) (i : bit 28 g.ir ≡ not sign)
      (h1 : row_at k ≡ addressing Byte 385) (h2 : row_at (52 + l) ≡ lane c op 56)
      (h3 : row_at (56 + one_if (not sign)) ≡ final x.Ad y.C24 (down sign))
      (plainly : only_last (byte_rows sign k l c op) ≡ true)
      → Reaches deny lines b dt 16 None 5 (effect_of deny b (Instruction.load_byte sign) (with_risen_pc b))
  unfolding rows
  byte_lane sign k j l c op low v p q up raise this o jk h i h1 h2 h3 plainly =
      record {
        rows = byte_rows sign k l c op;
        long = refl;
        plain = plainly;
        leads =
            (refl, refl)
            ↠ (ap (λ n. 256 + n * 4) o ∙ jk, h1)
            ↠ (refl, refl)
            ↠ (ap (λ w. w.state.row) (begin Byte k 385) ∙ ap (λ n. 52 + n) h, h2)
            ↠ (ap (λ w. 56 + one_if (bit 28 w.state.regs.ir)) (begin Byte k 385) ∙ ap (λ n. 56 + one_if n) i, h3)
            ↠ tt;
        last = dt_after Byte;
        arrives = byte_walk sign k l c op low v p q up raise this;
      }

  -- the four bytes of the word
  abbrev from : ℕ
  from = word_of at

  abbrev b0 : ℕ
  b0 = b.bytes from

  abbrev b1 : ℕ
  b1 = b.bytes (from + 1)

  abbrev b2 : ℕ
  b2 = b.bytes (from + 2)

  abbrev b3 : ℕ
  b3 = b.bytes (from + 3)

  low_1 : (u : ℕ) → u < 256 → u * 2 ^ 16 < 2 ^ 24
  low_1 u p = omega arith

  low_2 : (u v : ℕ) → u < 256 → v < 256 → u * 2 ^ 8 + v * 2 ^ 16 < 2 ^ 24
  low_2 u v p q = omega arith

  low_3 : (u v w : ℕ) → u < 256 → v < 256 → w < 256 → u + v * 256 + w * 65536 < 2 ^ 24
  low_3 u v w p q o = omega arith

  low_half : (u v : ℕ) → u < 256 → v < 256 → u + v * 256 < 2 ^ 16
  low_half u v p q = omega arith

  raise_by : (l : ℕ) → at % 4 ≡ l → raised_byte at the_word ≡ the_word * 2 ^ (24 - l * 8) % 2 ^ 32
  raise_by l h = ap (λ n. the_word * 2 ^ (24 - n * 8) % 2 ^ 32) h

  byte_any :
      (sign : Bool) (j : ℕ) (o : opcode g.ir ≡ j) (i : bit 28 g.ir ≡ not sign)
      (h1 : row_at (256 + j * 4) ≡ addressing Byte 385)
      (h3 : row_at (56 + one_if (not sign)) ≡ final x.Ad y.C24 (down sign))
      → Reaches deny lines b dt 16 None 5 (effect_of deny b (Instruction.load_byte sign) (with_risen_pc b))
  unfolding rows
  byte_any sign j o i h1 h3 =
      let p0 : b0 < 256 = fit.bytes from in
      let p1 : b1 < 256 = fit.bytes (from + 1) in
      let p2 : b2 < 256 = fit.bytes (from + 2) in
      let p3 : b3 < 256 = fit.bytes (from + 3) in
      by_four at
      (λ h.
      byte_lane sign (256 + j * 4) j 0 y.C24 Sll 0 b0 (omega arith) p0 (up_0 b0 b1 b2 b3 p0)
      (raise_by 0 h ∙ up_0 b0 b1 b2 b3 p0) (ap b.bytes (lane_at_0 at h)) o refl h i h1 refl h3 refl)
      (λ h.
      byte_lane sign (256 + j * 4) j 1 y.C16 Sll (b0 * 2 ^ 16) b1 (low_1 b0 p0) p1 (up_1 b0 b1 b2 b3 p0 p1)
      (raise_by 1 h ∙ up_1 b0 b1 b2 b3 p0 p1) (ap b.bytes (lane_at at 1 h)) o refl h i h1 refl h3 refl)
      (λ h.
      byte_lane sign (256 + j * 4) j 2 y.C8 Sll (b0 * 2 ^ 8 + b1 * 2 ^ 16) b2 (low_2 b0 b1 p0 p1) p2
      (up_2 b0 b1 b2 b3 p0 p1 p2) (raise_by 2 h ∙ up_2 b0 b1 b2 b3 p0 p1 p2) (ap b.bytes (lane_at at 2 h)) o refl h
      i h1 refl h3 refl)
      (λ h.
      byte_lane sign (256 + j * 4) j 3 y.C0 Sum (b0 + b1 * 256 + b2 * 65536) b3 (low_3 b0 b1 b2 p0 p1 p2) p3
      (up_3 b0 b1 b2 b3 p0 p1 p2 p3) (raise_by 3 h ∙ sym (plus_none the_word) ∙ up_3 b0 b1 b2 b3 p0 p1 p2 p3)
      (ap b.bytes (lane_at at 3 h)) o refl h i h1 refl h3 refl)

  pub loads_byte_signed : (o : opcode g.ir ≡ 32)
      → Reaches deny lines b dt 16 None 5 (effect_of deny b (Instruction.load_byte true) (with_risen_pc b))
  unfolding rows
  loads_byte_signed o = byte_any true 32 o (bit_32 g.ir o) refl refl

  pub loads_byte_plain : (o : opcode g.ir ≡ 36)
      → Reaches deny lines b dt 16 None 5 (effect_of deny b (Instruction.load_byte false) (with_risen_pc b))
  unfolding rows
  loads_byte_plain o = byte_any false 36 o (bit_36 g.ir o) refl refl

  abbrev half_rest : Bool → ℕ → OperandY → Operation → Rows
  half_rest sign l c op = (58 + l, lane c op 60) ∷ (60 + one_if (not sign), final x.Ad y.C16 (down sign)) ∷ []

  abbrev half_rows : Bool → ℕ → ℕ → OperandY → Operation → Rows
  half_rows sign k l c op =
      (16, init)
      ∷ (k, addressing Half 389)
      ∷ (389, loading Half)
      ∷ (58 + l, lane c op 60)
      ∷ (60 + one_if (not sign), final x.Ad y.C16 (down sign))
      ∷ []

  -- the half at the address
  abbrev the_half : ℕ
  the_half = b.bytes at + b.bytes (at + 1) * 256

  half_walk :
      (sign : Bool) (k l : ℕ) (c : OperandY) (op : Operation) (low v : ℕ) (p : low < 2 ^ 16) (q : v < 2 ^ 16)
      (up : result_of op the_word (operand_y the_word aimed c) ≡ low + v * 2 ^ 16)
      (raise : raised_half at the_word ≡ low + v * 2 ^ 16) (this : at % 2 ≡ 0 → the_half ≡ v)
      → walk deny lines (half_rows sign k l c op) (world_at b dt 16 None)
      ≡ ending lines (after_fetch deny (effect_of deny b (Instruction.load_half sign) (with_risen_pc b)))
      (dt_after Half)
  half_walk sign k l c op low v p q up raise this =
      ap (walk deny lines (half_rest sign l c op)) (begin Half k 389)
      ∙ rest_out deny lines b aimed dt (after Half at) (half_rest sign l c op)
      (without_fault b
      (with_register (rt g.ir) (as_word sign 16 the_half) (with_ad (raised_half at the_word) aimed))) the_word
      (λ i. refl) (is_misplaced 2 g.sr at) (deny.unreadable (word_of at))
      (λ o.
      lane_rows deny lines b aimed the_word (after Half at) (60 + one_if (not sign)) 60 c y.C16 op (down sign)
      (raised_half at the_word) (as_word sign 16 the_half) (up ∙ sym raise)
      (ap (λ n. result_of (down sign) n 16) raise ∙ down_half sign low v p q
      ∙ ap (as_word sign 16) (sym (this (even g.sr at o)))))

  half_lane :
      (sign : Bool) (k j l : ℕ) (c : OperandY) (op : Operation) (low v : ℕ) (p : low < 2 ^ 16) (q : v < 2 ^ 16)
      (up : result_of op the_word (operand_y the_word aimed c) ≡ low + v * 2 ^ 16)
      (raise : raised_half at the_word ≡ low + v * 2 ^ 16) (this : at % 2 ≡ 0 → the_half ≡ v)
      (o : opcode g.ir ≡ j) (jk : 256 + j * 4 ≡ k) (h : 58 + one_if (bit 1 at) ≡ 58 + l) (i : bit 28 g.ir ≡ not sign)
      (h1 : row_at k ≡ addressing Half 389) (h2 : row_at (58 + l) ≡ lane c op 60)
      (h3 : row_at (60 + one_if (not sign)) ≡ final x.Ad y.C16 (down sign))
      (plainly : only_last (half_rows sign k l c op) ≡ true)
      → Reaches deny lines b dt 16 None 5 (effect_of deny b (Instruction.load_half sign) (with_risen_pc b))
  unfolding rows
  half_lane sign k j l c op low v p q up raise this o jk h i h1 h2 h3 plainly =
      record {
        rows = half_rows sign k l c op;
        long = refl;
        plain = plainly;
        leads =
            (refl, refl)
            ↠ (ap (λ n. 256 + n * 4) o ∙ jk, h1)
            ↠ (refl, refl)
            ↠ (ap (λ w. w.state.row) (begin Half k 389) ∙ h, h2)
            ↠ (ap (λ w. 60 + one_if (bit 28 w.state.regs.ir)) (begin Half k 389) ∙ ap (λ n. 60 + one_if n) i, h3)
            ↠ tt;
        last = dt_after Half;
        arrives = half_walk sign k l c op low v p q up raise this;
      }

  raise_half : (l : ℕ) → at / 2 % 2 ≡ l → raised_half at the_word ≡ the_word * 2 ^ (16 - l * 16) % 2 ^ 32
  raise_half l h = ap (λ n. the_word * 2 ^ (16 - n * 16) % 2 ^ 32) h

  -- which of the two rows
  turn : (l : ℕ) → at / 2 % 2 ≡ l → 58 + one_if (bit 1 at) ≡ 58 + one_if (eqb l 1)
  turn l h = ap (λ n. 58 + one_if (eqb n 1)) h

  halved : (u v : ℕ) → at ≡ u → at + 1 ≡ v → the_half ≡ b.bytes u + b.bytes v * 256
  halved u v p q = ap (λ n. b.bytes n + b.bytes (at + 1) * 256) p ∙ ap (λ n. b.bytes u + b.bytes n * 256) q

  half_any :
      (sign : Bool) (j : ℕ) (o : opcode g.ir ≡ j) (i : bit 28 g.ir ≡ not sign)
      (h1 : row_at (256 + j * 4) ≡ addressing Half 389)
      (h3 : row_at (60 + one_if (not sign)) ≡ final x.Ad y.C16 (down sign))
      → Reaches deny lines b dt 16 None 5 (effect_of deny b (Instruction.load_half sign) (with_risen_pc b))
  unfolding rows
  half_any sign j o i h1 h3 =
      let p0 : b0 < 256 = fit.bytes from in
      let p1 : b1 < 256 = fit.bytes (from + 1) in
      let p2 : b2 < 256 = fit.bytes (from + 2) in
      let p3 : b3 < 256 = fit.bytes (from + 3) in
      by_two at
      (λ h.
      half_lane sign (256 + j * 4) j 0 y.C16 Sll 0 (b0 + b1 * 256) (omega arith) (low_half b0 b1 p0 p1)
      (up_low b0 b1 b2 b3 p0 p1) (raise_half 0 h ∙ up_low b0 b1 b2 b3 p0 p1)
      (λ q. halved from (from + 1) (low_at at q h) (low_next at q h)) o refl (turn 0 h) i h1 refl h3 refl)
      (λ h.
      half_lane sign (256 + j * 4) j 1 y.C0 Sum (b0 + b1 * 256) (b2 + b3 * 256) (low_half b0 b1 p0 p1)
      (low_half b2 b3 p2 p3) (up_high b0 b1 b2 b3 p0 p1 p2 p3)
      (raise_half 1 h ∙ sym (plus_none the_word) ∙ up_high b0 b1 b2 b3 p0 p1 p2 p3)
      (λ q. halved (from + 2) (from + 3) (high_at at q h) (high_next at q h)) o refl (turn 1 h) i h1 refl h3 refl)

  pub loads_half_signed : (o : opcode g.ir ≡ 33)
      → Reaches deny lines b dt 16 None 5 (effect_of deny b (Instruction.load_half true) (with_risen_pc b))
  unfolding rows
  loads_half_signed o = half_any true 33 o (bit_33 g.ir o) refl refl

  pub loads_half_plain : (o : opcode g.ir ≡ 37)
      → Reaches deny lines b dt 16 None 5 (effect_of deny b (Instruction.load_half false) (with_risen_pc b))
  unfolding rows
  loads_half_plain o = half_any false 37 o (bit_37 g.ir o) refl refl
