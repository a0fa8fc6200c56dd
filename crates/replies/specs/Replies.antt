-- What a job is answered on a pile of zeroes. Assumes nothing.
use Rattle.std.specs.Prelude.{◌≡◌, ℕ, ◌+◌, List, [], ◌∷◌, ◌++◌, codes, replicate}
use Rattle.bus.specs.Meaning.{Meaning}
use Rattle.jobs.specs.NextReply as job
use Rattle.jobs.specs.Decided.{replies_to_job}
use Rattle.jobs.specs.Limits.{max_job}
use Rattle.text.specs.Writing.{reply_text}
use Rattle.text.specs.declared.reply.Reply.{Reply}
use Rattle.pile.specs.Decided.{meaning_after}
use Rattle.pile.specs.Pile.{high_length, job_pile, low_length, pile_means}
use Rattle.replies.specs.declared.Replies.{Replies}

-- the jobs' pile, where both memories begin with zeroes
abbrev pub zeroed_pile : Meaning
zeroed_pile = job_pile (replicate low_length 0) (replicate high_length 0)

-- the replies to a job on it
abbrev pub replies_to : List ℕ → List Reply
replies_to bytes = replies_to_job meaning_after max_job zeroed_pile bytes

-- the bytes of replies one after another
abbrev pub text_of_replies : List Reply → List ℕ
text_of_replies [] = []
text_of_replies (r ∷ rs) = reply_text r ++ text_of_replies rs

-- the bytes of the replies to a job
abbrev pub answer_text : List ℕ → List ℕ
answer_text bytes = text_of_replies (replies_to bytes)

-- the replies that are still to come
abbrev pub replies_to_come : Replies → List Reply
replies_to_come r = job.replies_to_come pile_means meaning_after r.0

-- so many bytes of a job tell its replies: one more than a job may have tells that it is too long
abbrev pub enough_bytes : ℕ
enough_bytes = max_job + 1

-- a job of four lines: one wait for each request makes one frozen fetch of the reset and one of the instruction
abbrev pub example_job : List ℕ
example_job = codes "10 BFC00000 3C011234\n20\n40 0008\n50 01\n"

abbrev pub example_replies : List ℕ
example_replies = codes "10\n20\n40 0000000000000008 0000000000000002 0000000000000002\n50 01 12340000\n"

-- and what it is answered
abbrev pub ExampleHolds : Type 0
ExampleHolds = answer_text example_job ≡ example_replies
