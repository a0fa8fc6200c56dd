-- Reading a reply back. Assumes nothing.
use Rattle.std.specs.Prelude.{◌≡◌, ℕ, ◌^◌, ◌<◌, cond, List, [], ◌∷◌, map, length, Some, None, Option, ◌==◌}
use Rattle.std.specs.Prelude.{slice_index}
use Rattle.text.specs.Form.{byte_width, kind_code, code_width, count_width, denial_code, word_width}
use Rattle.text.specs.Reading.{fields_of, fields_fit, value_of}
use Rattle.text.specs.Writing.{Field, reply_fields, separated_fields}
use Rattle.text.specs.declared.order.Kind.TheVariants as kind
use Rattle.text.specs.declared.reply.Reply.{Reply}
use Rattle.text.specs.declared.reply.Reply.TheVariants.{Loaded, Started, Set, Ran, Shown, Denied}

-- a reply, where its other fields are right in count and width
abbrev pub reply_where_fit : List ℕ → List (List ℕ) → Reply → Option Reply
reply_where_fit ws fs r = cond (fields_fit ws fs) (Some r) None

-- the value of a field behind the code, the first being field 0
abbrev pub field_value : List (List ℕ) → ℕ → ℕ
field_value fs n = slice_index (map value_of fs) n

-- the counts that three fields tell
abbrev pub counts_reply : List (List ℕ) → Reply
counts_reply fs = Ran (record { cycles = field_value fs 0; frozen = field_value fs 1; boundaries = field_value fs 2 })

-- the denial that three fields tell
abbrev pub denial_of_fields : List (List ℕ) → Reply
denial_of_fields fs =
    Denied (record { number = field_value fs 0; line = field_value fs 1; address = field_value fs 2 })

-- the reply that begins with a code, and has the fields behind it
abbrev pub reply_with_code : ℕ → List (List ℕ) → Option Reply
reply_with_code k fs =
    cond (k == kind_code kind.Load) (reply_where_fit [] fs Loaded)
    (cond (k == kind_code kind.Start) (reply_where_fit [] fs Started)
    (cond (k == kind_code kind.SetLines) (reply_where_fit [] fs Set)
    (cond (k == kind_code kind.Run)
    (reply_where_fit (count_width ∷ count_width ∷ count_width ∷ []) fs (counts_reply fs))
    (cond (k == kind_code kind.Show)
    (reply_where_fit (byte_width ∷ word_width ∷ []) fs (Shown (field_value fs 0) (field_value fs 1)))
    (cond (k == denial_code) (reply_where_fit (byte_width ∷ word_width ∷ word_width ∷ []) fs (denial_of_fields fs))
    None)))))

-- the first field is the code; every line has one
abbrev pub reply_of_fields : List (List ℕ) → Option Reply
reply_of_fields [] = None
reply_of_fields (f ∷ fs) = cond (length f == code_width) (reply_with_code (value_of f) fs) None

-- the reply that a line in form, without its byte 0A, tells
abbrev pub read_reply : List ℕ → Option Reply
read_reply line = reply_of_fields (fields_of line)

-- numbers that their widths can hold
abbrev pub AllFit : List Field → Type 0
AllFit [] = Unit {0}
AllFit (f ∷ fs) = (f.1 < 16 ^ f.0) × AllFit fs

-- reading what was written gives the reply back
abbrev pub RoundTrip : Type 0
RoundTrip = (r : Reply) → AllFit (reply_fields r) → read_reply (separated_fields (reply_fields r)) ≡ Some r
