-- A job that is done to its end. Assumes nothing.
use Rattle.std.proofs.Common.{◌≡◌, ℕ, Bool, true, false, cond, List, [], ◌∷◌, ◌++◌, length, Some, None, refl, ap}
use Rattle.std.specs.Prelude.{nat_lt}
use Rattle.bus.specs.Meaning.{Meaning}
use Rattle.bus.specs.declared.request.Answer.{Answer}
use Rattle.bus.specs.declared.request.Request.{Request}
use Rattle.jobs.specs.Job.{Standing, first_standing, denial_reply, last_reply_of, text_lines_of}
use Rattle.jobs.specs.Station.{StageIsPromised, StageIsReached, Stage, loading, running}
use Rattle.jobs.specs.declared.fault.JobFault.TheVariants as fault
use Rattle.text.specs.declared.reply.Reply.{Reply}

-- one reply more is the last
pub last_more : (rs : List Reply) (r : Reply) → Some r ≡ last_reply_of (rs ++ r ∷ [])
last_more [] r = refl
last_more (q ∷ rs) r = ap (λ o. elim o [ Some p ↦ Some p | None ↦ Some q ]) (last_more rs r)

module _ {S : Type 0} (means : S → Meaning) (steps : S → Request → Answer → S → Type 0) where
  -- a job begins before a start
  pub reached_first : (limit : ℕ) (pile : S) (bytes : List ℕ)
      → StageIsReached means steps (first_standing limit pile bytes).stage
  reached_first limit pile bytes = by (nat_lt limit (length bytes))
    where
      by : (t : Bool)
          → StageIsReached means steps
          (cond {A = Standing S} t
          (record { due = denial_reply 0 fault.TooLong ∷ []; stage = loading pile; number = 1; left = [] })
          (record { due = []; stage = loading pile; number = 1; left = text_lines_of bytes })).stage
      by true = tt
      by false = tt

  -- what is promised of can be reached
  pub reached_still : (e : Stage S) → StageIsPromised means steps e → StageIsReached means steps e
  reached_still (loading s) p = tt
  reached_still (running s c) p = p.reached
