-- Stores. Assumes nothing.
use Rattle.std.proofs.Common.{◌≡◌, ℕ, ◌+◌, ◌*◌, ◌%◌, ◌^◌, Bool, true, false, cond, [], ◌∷◌, Some, None, Option, refl}
use Rattle.std.proofs.Common.{ap, ◌∙◌}
use Rattle.bus.specs.Meaning.{stored_byte, word_at}
use Rattle.bus.specs.Request.{first_address, byte_count, word_of}
use Rattle.bus.specs.declared.request.Answer.TheVariants.{BusError, Done}
use Rattle.bus.specs.declared.request.Width.{Width}
use Rattle.bus.specs.declared.request.Width.TheVariants.{Word, Half, Byte}
use Rattle.machine.specs.Address.{is_barred, is_misplaced}
use Rattle.machine.specs.Registers.{Regs, reg, with_ad, with_ir}
use Rattle.machine.specs.Word.{opcode, rt}
use Rattle.machine.specs.Words.{WordsStayWords}
use Rattle.machine.specs.declared.fault.Fault.{Fault}
use Rattle.machine.specs.declared.fault.Fault.TheVariants as f
use Rattle.machine.specs.declared.operation.Operation.TheVariants.{Sum}
use Rattle.rows.specs.Rows.{rows}
use Rattle.rows.specs.declared.row.Destination.TheVariants as r
use Rattle.rows.specs.declared.row.Detection.{Detection}
use Rattle.rows.specs.declared.row.Detection.TheVariants as e
use Rattle.rows.specs.declared.row.OperandX.TheVariants as x
use Rattle.rows.specs.declared.row.OperandY.TheVariants as y
use Rattle.rows.specs.declared.row.Row.{Row}
use Rattle.rows.specs.declared.row.Sequencing.TheVariants as s
use Rattle.rows.specs.declared.row.Transfer.{Transfer}
use Rattle.rows.specs.declared.row.Transfer.TheVariants as m
use Rattle.microprogram.specs.Cycle.{State, fault_if, row_output, state_after}
use Rattle.book.specs.Book.{Book, Effect, Refusals, address, after_fetch, effect_of, with_risen_pc, with_fault}
use Rattle.book.specs.Fit.{IsFit}
use Rattle.book.specs.Instruction.{Instruction}
use Rattle.paths.specs.Instant.{World}
use Rattle.paths.specs.Path.{world_at}
use Rattle.paths.proofs.Walk.{◌↠◌, Rows, amid, ending, row, rt_word, walk, init, fetch, Reaches}

abbrev storing : Width → Transfer
storing Word = m.Ww
storing Half = m.Wh
storing Byte = m.Wb

abbrev checking : Width → Detection
checking Word = e.Ww
checking Half = e.Wh
checking Byte = e.Wb

abbrev bad : Width → ℕ → ℕ → Bool
bad Word sr at = is_misplaced 4 sr at
bad Half sr at = is_misplaced 2 sr at
bad Byte sr at = is_barred sr at

abbrev store_of : Width → Instruction
store_of Word = Instruction.store_word
store_of Half = Instruction.store_half
store_of Byte = Instruction.store_byte

-- the address, and a write from RT at AD
abbrev addressing : Width → ℕ → Row
addressing w k = row x.Rs y.I16 Sum r.Ad m.Nop (checking w) s.Next k

abbrev writing : Width → Row
writing w = row x.Rt y.C0 Sum r.Nop (storing w) e.Dbe s.Next 15

-- what a write makes
abbrev writes : Refusals → Book → Width → Regs → Effect
writes deny b w g =
    cond (deny.unwritable (word_of g.ad)) (with_fault b f.Dbe g)
    (record {
      regs = g;
      ledger = b.ledger;
      bytes = stored_byte (first_address w g.ad) (byte_count w) (reg g (rt g.ir)) b.bytes;
      fault = None;
      event_sr =
          g.sr;
    })

-- with a fault up the rows change nothing
faulted : (deny : Refusals) (lines : ℕ) (b : Book) (g : Regs) (dt : ℕ) (c : Fault) (w : Width) (k : ℕ)
    → walk deny lines ((k, writing w) ∷ (15, fetch) ∷ []) (amid b g dt (Some c) k)
    ≡ ending lines (after_fetch deny (with_fault b c g)) dt
faulted deny lines b g dt c Word k = refl
faulted deny lines b g dt c Half k = refl
faulted deny lines b g dt c Byte k = refl

-- a world on the way with other bytes
abbrev among : Book → (ℕ → ℕ) → Regs → ℕ → Option Fault → ℕ → World
among b bytes g dt flag at =
    record {
      state =
          record {
            regs = g;
            dt = dt;
            flag = flag;
            row = at;
            sampled = b.sampled;
            ledger = b.ledger;
          };
      bytes = bytes;
    }

-- the fetch by its refusal
fetch_by : (lines : ℕ) (c : State) (bytes : ℕ → ℕ) (word : ℕ) (u : Bool) (h : c.flag ≡ None)
    → ◌≡◌ {A = World}
    (record {
      state = state_after fetch lines (row_output fetch c) (Some (cond u BusError (Done word))) c;
      bytes = bytes;
    })
    (ending lines
    (cond u (record { regs = c.regs; ledger = c.ledger; bytes = bytes; fault = Some f.Ibe; event_sr = c.regs.sr })
    (record { regs = with_ir word c.regs; ledger = c.ledger; bytes = bytes; fault = None; event_sr = c.regs.sr }))
    c.dt)
fetch_by lines c bytes word true h = rw h
fetch_by lines c bytes word false h = rw h

-- the write by its refusal
write_by :
    (lines : ℕ) (b : Book) (g : Regs) (dt k : ℕ) (w : Width) (old new : ℕ → ℕ) (value : ℕ × Bool × Bool) (v : Bool)
    → ◌≡◌ {A = World}
    (record {
      state = state_after (writing w) lines value (Some (cond v BusError (Done 0)))
          (amid b g dt None k).state;
      bytes = cond v old new;
    }) (among b (cond v old new) g dt (fault_if v f.Dbe) 15)
write_by lines b g dt k Word old new value true = refl
write_by lines b g dt k Word old new value false = refl
write_by lines b g dt k Half old new value true = refl
write_by lines b g dt k Half old new value false = refl
write_by lines b g dt k Byte old new value true = refl
write_by lines b g dt k Byte old new value false = refl

-- the fetch, by whether the write was refused
fetch_after : (deny : Refusals) (lines : ℕ) (b : Book) (g : Regs) (dt : ℕ) (new : ℕ → ℕ) (v : Bool)
    → walk deny lines ((15, fetch) ∷ []) (among b (cond v b.bytes new) g dt (fault_if v f.Dbe) 15)
    ≡ ending lines
    (after_fetch deny
    (cond v (with_fault b f.Dbe g)
    (record { regs = g; ledger = b.ledger; bytes = new; fault = None; event_sr = g.sr }))) dt
fetch_after deny lines b g dt new true = refl
fetch_after deny lines b g dt new false =
    fetch_by lines (amid b g dt None 15).state new (word_at new (word_of g.pc)) (deny.unreadable (word_of g.pc)) refl

-- the write
write_row :
    (deny : Refusals) (lines : ℕ) (b : Book) (g : Regs) (dt : ℕ) (w : Width) (k : ℕ)
    (h : (reg g (rt g.ir) + 0) % 2 ^ 32 ≡ reg g (rt g.ir))
    → walk deny lines ((k, writing w) ∷ []) (amid b g dt None k)
    ≡ among b
    (cond (deny.unwritable (word_of g.ad)) b.bytes
    (stored_byte (first_address w g.ad) (byte_count w) (reg g (rt g.ir)) b.bytes)) g dt
    (fault_if (deny.unwritable (word_of g.ad)) f.Dbe) 15
write_row deny lines b g dt Word k h =
    write_by lines b g dt k Word b.bytes
    (stored_byte (first_address Word g.ad) 4 ((reg g (rt g.ir) + 0) % 2 ^ 32) b.bytes)
    (row_output (writing Word) (amid b g dt None k).state) (deny.unwritable (word_of g.ad))
    ∙ ap (λ n.
    among b (cond (deny.unwritable (word_of g.ad)) b.bytes (stored_byte (first_address Word g.ad) 4 n b.bytes)) g
    dt (fault_if (deny.unwritable (word_of g.ad)) f.Dbe) 15) h
write_row deny lines b g dt Half k h =
    write_by lines b g dt k Half b.bytes
    (stored_byte (first_address Half g.ad) 2 ((reg g (rt g.ir) + 0) % 2 ^ 32) b.bytes)
    (row_output (writing Half) (amid b g dt None k).state) (deny.unwritable (word_of g.ad))
    ∙ ap (λ n.
    among b (cond (deny.unwritable (word_of g.ad)) b.bytes (stored_byte (first_address Half g.ad) 2 n b.bytes)) g
    dt (fault_if (deny.unwritable (word_of g.ad)) f.Dbe) 15) h
write_row deny lines b g dt Byte k h =
    write_by lines b g dt k Byte b.bytes
    (stored_byte (first_address Byte g.ad) 1 ((reg g (rt g.ir) + 0) % 2 ^ 32) b.bytes)
    (row_output (writing Byte) (amid b g dt None k).state) (deny.unwritable (word_of g.ad))
    ∙ ap (λ n.
    among b (cond (deny.unwritable (word_of g.ad)) b.bytes (stored_byte (first_address Byte g.ad) 1 n b.bytes)) g
    dt (fault_if (deny.unwritable (word_of g.ad)) f.Dbe) 15) h

-- the write and the fetch, by whether the address was bad
written_out :
    (deny : Refusals) (lines : ℕ) (b : Book) (g : Regs) (dt : ℕ) (w : Width) (k : ℕ)
    (h : (reg g (rt g.ir) + 0) % 2 ^ 32 ≡ reg g (rt g.ir)) (v : Bool)
    → walk deny lines ((k, writing w) ∷ (15, fetch) ∷ []) (amid b g dt (fault_if v f.Ades) k)
    ≡ ending lines (after_fetch deny (cond v (with_fault b f.Ades g) (writes deny b w g))) dt
written_out deny lines b g dt w k h true = faulted deny lines b g dt f.Ades w k
written_out deny lines b g dt w k h false =
    ap (walk deny lines ((15, fetch) ∷ [])) (write_row deny lines b g dt w k h)
    ∙ fetch_after deny lines b g dt (stored_byte (first_address w g.ad) (byte_count w) (reg g (rt g.ir)) b.bytes)
    (deny.unwritable (word_of g.ad))

module _ (deny : Refusals) (lines : ℕ) (b : Book) (dt : ℕ) (fit : IsFit b) (law : WordsStayWords) where
  abbrev g : Regs
  g = b.regs

  abbrev at : ℕ
  at = address (with_risen_pc b)

  -- the registers with the address in AD
  abbrev aimed : Regs
  aimed = with_ad at (with_risen_pc b)

  abbrev stores_rows : Width → ℕ → Rows
  stores_rows w k = (16, init) ∷ (k, addressing w (k + 1)) ∷ (k + 1, writing w) ∷ (15, fetch) ∷ []

  stage : (w : Width) (k : ℕ)
      → walk deny lines ((16, init) ∷ (k, addressing w (k + 1)) ∷ []) (world_at b dt 16 None)
      ≡ amid b aimed dt (fault_if (bad w g.sr at) f.Ades) (k + 1)
  stage Word k = refl
  stage Half k = refl
  stage Byte k = refl

  stores_walk : (w : Width) (k : ℕ)
      → walk deny lines (stores_rows w k) (world_at b dt 16 None)
      ≡ ending lines (after_fetch deny (effect_of deny b (store_of w) (with_risen_pc b))) dt
  stores_walk Word k =
      ap (walk deny lines ((k + 1, writing Word) ∷ (15, fetch) ∷ [])) (stage Word k)
      ∙ written_out deny lines b aimed dt Word (k + 1) (rt_word b fit) (is_misplaced 4 g.sr at)
  stores_walk Half k =
      ap (walk deny lines ((k + 1, writing Half) ∷ (15, fetch) ∷ [])) (stage Half k)
      ∙ written_out deny lines b aimed dt Half (k + 1) (rt_word b fit) (is_misplaced 2 g.sr at)
  stores_walk Byte k =
      ap (walk deny lines ((k + 1, writing Byte) ∷ (15, fetch) ∷ [])) (stage Byte k)
      ∙ written_out deny lines b aimed dt Byte (k + 1) (rt_word b fit) (is_barred g.sr at)

  pub stores_byte : (o : opcode g.ir ≡ 40)
      → Reaches deny lines b dt 16 None 4 (effect_of deny b Instruction.store_byte (with_risen_pc b))
  unfolding rows
  stores_byte o =
      record {
        rows = stores_rows Byte 416;
        long = refl;
        plain = refl;
        leads = (refl, refl) ↠ (ap (λ n. 256 + n * 4) o, refl) ↠ (refl, refl) ↠ (refl, refl) ↠ tt;
        last = dt;
        arrives = stores_walk Byte 416;
      }

  pub stores_half : (o : opcode g.ir ≡ 41)
      → Reaches deny lines b dt 16 None 4 (effect_of deny b Instruction.store_half (with_risen_pc b))
  unfolding rows
  stores_half o =
      record {
        rows = stores_rows Half 420;
        long = refl;
        plain = refl;
        leads = (refl, refl) ↠ (ap (λ n. 256 + n * 4) o, refl) ↠ (refl, refl) ↠ (refl, refl) ↠ tt;
        last = dt;
        arrives = stores_walk Half 420;
      }

  pub stores_word : (o : opcode g.ir ≡ 43)
      → Reaches deny lines b dt 16 None 4 (effect_of deny b Instruction.store_word (with_risen_pc b))
  unfolding rows
  stores_word o =
      record {
        rows = stores_rows Word 428;
        long = refl;
        plain = refl;
        leads = (refl, refl) ↠ (ap (λ n. 256 + n * 4) o, refl) ↠ (refl, refl) ↠ (refl, refl) ↠ tt;
        last = dt;
        arrives = stores_walk Word 428;
      }
