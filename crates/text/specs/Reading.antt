-- What a line means, or why it is denied. Assumes nothing.
use Rattle.std.specs.Prelude.{ℕ, ◌+◌, ◌*◌, ◌^◌, Bool, true, false, cond, ◌&&◌, List, [], ◌∷◌, map, length, is_some}
use Rattle.std.specs.Prelude.{Some, None, Ok, Err, Option, Result, ◌==◌, nat_lt, slice_index}
use Rattle.std.specs.List.{list_all, slice_split}
use Rattle.std.specs.Option.{unwrap_or}
use Rattle.text.specs.Digit.{digit_of}
use Rattle.text.specs.Form.{byte_width, kind_code, code_width, run_width, space, word_width}
use Rattle.text.specs.declared.fault.LineFault.{LineFault}
use Rattle.text.specs.declared.fault.LineFault.TheVariants as fault
use Rattle.text.specs.declared.order.Kind.{Kind}
use Rattle.text.specs.declared.order.Kind.TheVariants as kind
use Rattle.text.specs.declared.order.Order.{Order}
use Rattle.text.specs.declared.order.Order.TheVariants as order

-- a line's fields: single spaces separate them; two spaces in a row, or one at an end of the line, leave an empty
-- field
abbrev pub fields_of : List ℕ → List (List ℕ)
fields_of line = slice_split (λ b. b == space) line

-- whether a byte is a digit
abbrev pub is_digit : ℕ → Bool
is_digit b = is_some (digit_of b)

-- a field in form: digits, at least one
abbrev pub is_in_form : List ℕ → Bool
is_in_form f = nat_lt 0 (length f) && list_all is_digit f

-- the value of a digit
abbrev pub digit_or_zero : ℕ → ℕ
digit_or_zero b = unwrap_or (digit_of b) 0

-- the value of a field: its digits, the first one highest
abbrev pub value_of : List ℕ → ℕ
value_of [] = 0
value_of (b ∷ bs) = digit_or_zero b * 16 ^ length bs + value_of bs

-- the kinds, by their codes
abbrev pub kind_at : ℕ → Option Kind
kind_at v =
    cond (v == kind_code kind.Load) (Some kind.Load) (cond (v == kind_code kind.Start) (Some kind.Start)
    (cond (v == kind_code kind.SetLines) (Some kind.SetLines) (cond (v == kind_code kind.Run) (Some kind.Run)
    (cond (v == kind_code kind.Show) (Some kind.Show) None))))

-- a first field of any other width is no kind
abbrev pub field_kind : List ℕ → Option Kind
field_kind f = cond (length f == code_width) (kind_at (value_of f)) None

-- the widths of the other fields: an address and a word; none; the lines; a count of cycles; a register
abbrev pub widths : Kind → List ℕ
widths kind.Load = word_width ∷ word_width ∷ []
widths kind.Start = []
widths kind.SetLines = byte_width ∷ []
widths kind.Run = run_width ∷ []
widths kind.Show = byte_width ∷ []

-- fields right in count and width
abbrev pub fields_fit : List ℕ → List (List ℕ) → Bool
fields_fit [] [] = true
fields_fit [] (f ∷ fs) = false
fields_fit (w ∷ ws) [] = false
fields_fit (w ∷ ws) (f ∷ fs) = length f == w && fields_fit ws fs

-- the line that a kind and the values of its other fields make
abbrev pub order_of : Kind → List ℕ → Order
order_of kind.Load vs = order.Load (slice_index vs 0) (slice_index vs 1)
order_of kind.Start vs = order.Start
order_of kind.SetLines vs = order.SetLines (slice_index vs 0)
order_of kind.Run vs = order.Run (slice_index vs 0)
order_of kind.Show vs = order.Show (slice_index vs 0)

-- fields in form: the kind is looked at first, then count and width
abbrev pub read_order : Option Kind → List (List ℕ) → Result Order LineFault
read_order None fs = Err fault.Unknown
read_order (Some k) fs = cond (fields_fit (widths k) fs) (Ok (order_of k (map value_of fs))) (Err fault.Form)

-- the first field names the kind; every line has one
abbrev pub read_fields : List (List ℕ) → Result Order LineFault
read_fields [] = Err fault.Form
read_fields (f ∷ fs) = read_order (field_kind f) fs

-- what a line means, or its first denial
abbrev pub read_line : List ℕ → Result Order LineFault
read_line line = cond (list_all is_in_form (fields_of line)) (read_fields (fields_of line)) (Err fault.Form)
