-- The bytes of a reply. Assumes nothing.
use Rattle.std.specs.Prelude.{ℕ, zero, suc, ◌/◌, ◌%◌, ◌^◌, List, [], ◌∷◌, ◌++◌}
use Rattle.text.specs.Digit.{byte_of}
use Rattle.text.specs.Form.{byte_width, kind_code, code_width, count_width, denial_code, line_end, space, word_width}
use Rattle.text.specs.declared.reply.Counts.{Counts}
use Rattle.text.specs.declared.order.Kind.TheVariants as kind
use Rattle.text.specs.declared.reply.Denied as denial
use Rattle.text.specs.declared.reply.Reply.{Reply}
use Rattle.text.specs.declared.reply.Reply.TheVariants.{Loaded, Started, Set, Ran, Shown, Denied}

-- a number in so many digits, the highest first
abbrev pub digits : ℕ → ℕ → List ℕ
digits zero v = []
digits (suc n) v = byte_of (v / 16 ^ n % 16) ∷ digits n v

-- a field: how many digits it has, and its value
abbrev pub Field : Type 0
Field = ℕ × ℕ

-- the fields that tell counts
abbrev pub fields_of_counts : Counts → List Field
fields_of_counts n = (count_width, n.cycles) ∷ (count_width, n.frozen) ∷ (count_width, n.boundaries) ∷ []

-- the fields that tell a denial
abbrev pub fields_of_denial : denial.Denied → List Field
fields_of_denial d = (byte_width, d.number) ∷ (word_width, d.line) ∷ (word_width, d.address) ∷ []

-- a field that tells a code
abbrev pub code_field : ℕ → Field
code_field code = (code_width, code)

-- the fields of a reply: its code, and what it tells
abbrev pub reply_fields : Reply → List Field
reply_fields Loaded = code_field (kind_code kind.Load) ∷ []
reply_fields Started = code_field (kind_code kind.Start) ∷ []
reply_fields Set = code_field (kind_code kind.SetLines) ∷ []
reply_fields (Ran n) = code_field (kind_code kind.Run) ∷ fields_of_counts n
reply_fields (Shown r w) = code_field (kind_code kind.Show) ∷ (byte_width, r) ∷ (word_width, w) ∷ []
reply_fields (Denied d) = code_field denial_code ∷ fields_of_denial d

-- fields separated by single spaces
abbrev pub separated_fields : List Field → List ℕ
separated_fields [] = []
separated_fields (f ∷ []) = digits f.0 f.1
separated_fields (f ∷ (g ∷ fs)) = digits f.0 f.1 ++ space ∷ separated_fields (g ∷ fs)

-- the bytes of a reply, of which the last ends it
abbrev pub reply_text : Reply → List ℕ
reply_text r = separated_fields (reply_fields r) ++ line_end ∷ []
