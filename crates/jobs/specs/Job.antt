-- A whole job. Assumes nothing.
use Rattle.std.specs.Prelude.{◌≡◌, ℕ, ◌+◌, cond, List, [], ◌∷◌, ◌++◌, length, Some, None, Ok, Err, Option, Result}
use Rattle.std.specs.Prelude.{◌==◌, nat_lt}
use Rattle.bus.specs.Meaning.{Meaning}
use Rattle.bus.specs.declared.request.Answer.{Answer}
use Rattle.bus.specs.declared.request.Request.{Request}
use Rattle.jobs.specs.Fault.{denial_address, denial_number}
use Rattle.text.specs.Form.{line_end}
use Rattle.text.specs.Reading.{read_line}
use Rattle.text.specs.declared.fault.LineFault.{LineFault}
use Rattle.jobs.specs.Station.{StageIsPromised, AnswersOrder, Stage, loading}
use Rattle.jobs.specs.declared.fault.JobFault.{JobFault}
use Rattle.jobs.specs.declared.fault.JobFault.TheVariants as fault
use Rattle.text.specs.declared.order.Order.{Order}
use Rattle.text.specs.declared.reply.Reply.{Reply}
use Rattle.text.specs.declared.reply.Reply.TheVariants as reply

-- lines with a byte put in front of the first
abbrev pub with_first_byte : ℕ → List (List ℕ) → List (List ℕ)
with_first_byte b [] = (b ∷ []) ∷ []
with_first_byte b (l ∷ ls) = (b ∷ l) ∷ ls

-- the lines of a job: byte 0A ends each, and the last may lack it
abbrev pub text_lines_of : List ℕ → List (List ℕ)
text_lines_of [] = []
text_lines_of (b ∷ bs) = cond (b == line_end) ([] ∷ text_lines_of bs) (with_first_byte b (text_lines_of bs))

-- the reply to a denied line
abbrev pub denial_reply : ℕ → JobFault → Reply
denial_reply n f = reply.Denied (record { number = denial_number f; line = n; address = denial_address f })

-- the replies to a line: its own, or that of its denial
abbrev pub line_replies : ℕ → Result Reply JobFault → List Reply
line_replies n (Ok r) = r ∷ []
line_replies n (Err f) = denial_reply n f ∷ []

-- where a job stands: the replies of the last line that are still due, where it has come to, and the lines that are
-- left, with the number of the first of them
pub record Standing (S : Type 0) : Type 0 where
  pub due : List Reply
  pub stage : Stage S
  pub number : ℕ
  pub left : List (List ℕ)

-- where a job stands at first: one of more bytes than the limit is denied as line 0, and nothing else of it is done
abbrev pub first_standing : {S : Type 0} → ℕ → S → List ℕ → Standing S
first_standing limit pile job =
    cond (nat_lt limit (length job))
    (record { due = denial_reply 0 fault.TooLong ∷ []; stage = loading pile; number = 1; left = [] })
    (record { due = []; stage = loading pile; number = 1; left = text_lines_of job })

-- the last of some replies, if there is one
abbrev pub last_reply_of : List Reply → Option Reply
last_reply_of [] = None
last_reply_of (r ∷ rs) = elim (last_reply_of rs) [ Some q ↦ Some q | None ↦ Some r ]

module _ {S : Type 0} (means : S → Meaning) (steps : S → Request → Answer → S → Type 0) where
  -- a line that was read: denied by its form, or an order
  abbrev pub AnswersLine : Stage S → ℕ → Result Order LineFault → List Reply → Stage S → Type 0
  AnswersLine e n (Err f) rs g = (rs ≡ line_replies n (Err (fault.Line f))) × (g ≡ e)
  AnswersLine e n (Ok o) rs g =
      (q : Result Reply JobFault) × AnswersOrder means steps e o q g × (rs ≡ line_replies n q)

  -- lines one after another, numbered, each with its replies; after each the promise holds
  abbrev pub AnswersLines : Stage S → ℕ → List (List ℕ) → List Reply → Stage S → Type 0
  AnswersLines e n [] rs f = (rs ≡ []) × (f ≡ e)
  AnswersLines e n (l ∷ ls) rs f =
      (here : List Reply) × (qs : List Reply) × (g : Stage S) × (rs ≡ here ++ qs)
      × AnswersLine e n (read_line l) here g
      × StageIsPromised means steps g × AnswersLines g (n + 1) ls qs f

  -- replies that are all that a job still gives: those that are due, and those to the lines that are left
  abbrev pub AreToCome : Standing S → List Reply → Type 0
  AreToCome x rs =
      (qs : List Reply) × (end : Stage S) × (rs ≡ x.due ++ qs) × AnswersLines x.stage x.number x.left qs end

  -- a whole job on a pile, with all its replies
  abbrev pub AnswersJob : ℕ → S → List ℕ → List Reply → Type 0
  AnswersJob limit pile job rs = AreToCome (first_standing limit pile job) rs

  -- how a job gives its next reply: one that is due; where none is, it does the next line, and gives the first of the
  -- line's replies; where no line is left either, it gives none and stays as it is
  abbrev pub AnswersNext : Standing S → Option Reply → Standing S → Type 0
  AnswersNext x r y =
      elim x.due [
        | d ∷ ds ↦ (r ≡ Some d) × (y ≡ record { due = ds; stage = x.stage; number = x.number; left = x.left })
        | [] ↦ elim x.left [
          | [] ↦ (r ≡ None) × (y ≡ x)
          | l ∷ ls ↦
              (d : Reply) × (ds : List Reply) × (g : Stage S) × AnswersLine x.stage x.number (read_line l) (d ∷ ds) g
              × (r ≡ Some d)
              × (y ≡ record { due = ds; stage = g; number = x.number + 1; left = ls })
        ]
      ]
