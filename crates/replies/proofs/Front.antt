-- As many bytes of a job as tell that it is too long tell its replies. Assumes nothing.
use Rattle.std.proofs.Common.{◌≡◌, ℕ, ◌<◌, Bool, true, false, cond, List, [], ◌∷◌, length, take, ltb, refl, arith}
use Rattle.std.proofs.lemmas.Bool.{ltb-false, ltb-true, lt-ltb}
use Rattle.std.proofs.lemmas.List.{length-take, take_all}
use Rattle.jobs.specs.Decided.{loading, replies_to_lines}
use Rattle.jobs.specs.Job.{denial_reply, text_lines_of}
use Rattle.jobs.specs.Limits.{max_job}
use Rattle.jobs.specs.declared.fault.JobFault.TheVariants as fault
use Rattle.text.specs.declared.reply.Reply.{Reply}
use Rattle.pile.specs.Decided.{meaning_after}
use Rattle.replies.specs.Replies.{replies_to, zeroed_pile}

front : (n m : ℕ) → n < m → (f : List ℕ → List Reply) (t : List Reply) (job : List ℕ)
    → cond (ltb n (length (take m job))) t (f (take m job)) ≡ cond (ltb n (length job)) t (f job)
front n m more f t job = by (ltb n (length job)) refl
  where
    by : (b : Bool) → ltb n (length job) ≡ b
        → cond (ltb n (length (take m job))) t (f (take m job)) ≡ cond (ltb n (length job)) t (f job)
    by true e =
        let long : ltb n (length (take m job)) ≡ true =
        lt-ltb n _ (omega (arith, length-take m job, ltb-true n (length job) e)) in
        rw (long, e) refl
    by false e =
        let all : take m job ≡ job = take_all m job (omega (arith, ltb-false n (length job) e)) in
        rw all refl

pub front_tells : (n : ℕ) → max_job < n → (job : List ℕ) → replies_to (take n job) ≡ replies_to job
front_tells n more job =
    front max_job n more (λ bytes. replies_to_lines meaning_after (loading zeroed_pile) 1 (text_lines_of bytes))
    (denial_reply 0 fault.TooLong ∷ []) job
