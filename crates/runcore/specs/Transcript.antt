-- The text of what the program prints. Assumes nothing.
use Rattle.std.specs.Prelude.{ℕ, ◌-◌, true, cond, List, [], ◌∷◌, ◌++◌, codes, length, replicate, Ok, Err, Result, ◌==◌}
use Rattle.std.specs.Prelude.{Some, None, Option}
use Rattle.std.specs.Option.{unwrap_or}
use Rattle.std.specs.Fmt.{decimal, digits}
use Rattle.bus.specs.declared.settle.BusFault.{BusFault}
use Rattle.r3000.specs.Denial.{denial_number}
use Rattle.r3000.specs.declared.call.Call.{Call}
use Rattle.r3000.specs.declared.call.Call.TheVariants as call
use Rattle.r3000.specs.declared.call.Reply.{Reply}
use Rattle.r3000.specs.declared.call.Reply.TheVariants as reply
use Rattle.r3000.specs.declared.denial.Denial.{Denial}
use Rattle.r3000.specs.declared.report.Report.{Report}
use Rattle.runcore.specs.declared.transcript.Change.{Change}
use Rattle.runcore.specs.declared.transcript.Load.{Load}
use Rattle.runcore.specs.declared.transcript.AnsweredCall.{AnsweredCall}

-- pieces of text, one after another
abbrev pub text_of_pieces : List (List ℕ) → List ℕ
text_of_pieces [] = []
text_of_pieces (t ∷ []) = t
text_of_pieces (t ∷ (u ∷ us)) = t ++ text_of_pieces (u ∷ us)

-- a number in hexadecimal, with zeros before it up to so many digits
abbrev pub hexadecimal : ℕ → ℕ → List ℕ
hexadecimal width n = replicate (width - length (digits 16 true n)) 48 ++ digits 16 true n

-- a byte
abbrev pub byte_text : ℕ → List ℕ
byte_text n = hexadecimal 2 n

-- a word, or an address
abbrev pub word_text : ℕ → List ℕ
word_text n = hexadecimal 8 n

-- how a load ended, after so many waits
abbrev pub load_end_text : ℕ → Result ℕ BusFault → List ℕ
load_end_text waits (Ok read) = text_of_pieces (codes ": waits " ∷ decimal waits ∷ [])
load_end_text waits (Err fault) = codes ": refused"

-- a word that was put into the pile: its address, the word, and how that ended
abbrev pub load_text : Load → List ℕ
load_text l =
    text_of_pieces
    (codes "load " ∷ word_text l.address ∷ codes " " ∷ word_text l.word
    ∷ load_end_text l.settled.waits l.settled.outcome ∷ [])

-- a call: lines and addresses in hexadecimal, numbers in decimal
abbrev pub call_text : Call → List ℕ
call_text call.Clock = codes "clock"
call_text (call.Run count) = text_of_pieces (codes "run " ∷ decimal count ∷ [])
call_text (call.Lines lines) = text_of_pieces (codes "lines " ∷ byte_text lines ∷ [])
call_text (call.Register number) = text_of_pieces (codes "register " ∷ decimal number ∷ [])
call_text call.Snapshot = codes "snapshot"
call_text (call.Ledger code) = text_of_pieces (codes "ledger " ∷ decimal code ∷ [])
call_text (call.Look address) = text_of_pieces (codes "look " ∷ word_text address ∷ [])

-- a report
abbrev pub report_text : Report → List ℕ
report_text r =
    text_of_pieces
    (codes "cycles " ∷ decimal r.cycles ∷ codes ", frozen " ∷ decimal r.frozen ∷ codes ", boundaries "
    ∷ decimal r.boundaries ∷ codes ", place " ∷ decimal r.place ∷ [])

-- a reply, or the number of a denial
abbrev pub call_reply_text : Result Reply Denial → List ℕ
call_reply_text (Ok (reply.Clock c)) =
    text_of_pieces (cond c.frozen (codes "frozen; ") (codes "not frozen; ") ∷ report_text c.report ∷ [])
call_reply_text (Ok (reply.Run report)) = report_text report
call_reply_text (Ok reply.Lines) = codes "set"
call_reply_text (Ok (reply.Register w)) = word_text w
call_reply_text (Ok (reply.Snapshot registers)) = codes "taken"
call_reply_text (Ok (reply.Ledger entry)) =
    text_of_pieces (codes "count " ∷ decimal entry.count ∷ codes ", last EPC " ∷ word_text entry.epc ∷ [])
call_reply_text (Ok (reply.Look b)) = byte_text b
call_reply_text (Err denial) = text_of_pieces (codes "denied " ∷ decimal (denial_number denial) ∷ [])

-- a call and its reply
abbrev pub answered_call_text : AnsweredCall → List ℕ
answered_call_text m = text_of_pieces (call_text m.call ∷ codes ": " ∷ call_reply_text m.reply ∷ [])

-- what a table has under a number
abbrev pub table_entry : ℕ → List (ℕ × List ℕ) → Option (List ℕ)
table_entry n [] = None
table_entry n (entry ∷ entries) = cond (n == entry.0) (Some entry.1) (table_entry n entries)

-- the names of the registers that are not general ones
abbrev pub special_register_names : List (ℕ × List ℕ)
special_register_names =
    (32, codes "PC")
    ∷ (33, codes "HI")
    ∷ (34, codes "LO")
    ∷ (35, codes "SR")
    ∷ (36, codes "CR")
    ∷ (37, codes "EPC")
    ∷ (38, codes "BAR")
    ∷ (39, codes "AD")
    ∷ (40, codes "IR")
    ∷ (41, codes "DT")
    ∷ []

-- the name of a register that is not a general one
abbrev pub special_name : ℕ → Option (List ℕ)
special_name n = table_entry n special_register_names

-- a register's name: a general one is called by its number
abbrev pub register_name : ℕ → List ℕ
register_name n = unwrap_or (special_name n) (text_of_pieces (codes "$" ∷ decimal n ∷ []))

-- a register that a call changed, and its new word
abbrev pub change_text : Change → List ℕ
change_text c = text_of_pieces (codes "    " ∷ register_name c.register ∷ codes " = " ∷ word_text c.word ∷ [])
