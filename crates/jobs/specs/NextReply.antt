-- A job at work, as the code has it: the replies that are still to come. Assumes nothing.
use Rattle.std.specs.Prelude.{ℕ, List, [], ◌∷◌, ◌++◌, MatchOption, Some, None, Option, option_to_list}
use Rattle.std.specs.Iterator.{YieldsFirst}
use Rattle.bus.specs.Decided.{IsDecided}
use Rattle.bus.specs.Meaning.{Meaning}
use Rattle.bus.specs.declared.request.Answer.{Answer}
use Rattle.bus.specs.declared.request.Request.{Request}
use Rattle.jobs.specs.Decided as by_meaning
use Rattle.jobs.specs.Decided.{StageMeaning, replies_to_lines}
use Rattle.jobs.specs.Job.{AnswersNext, Standing, AreToCome, text_lines_of}
use Rattle.jobs.specs.Station.{StageIsPromised, StageIsReached, Stage, loading, stage_of_station}
use Rattle.jobs.specs.declared.job.Job.{Job}
use Rattle.text.specs.declared.reply.Reply.{Reply}
use Rattle.r3000.specs.Core.{machine_of_parts}
use Rattle.r3000.specs.Decided.{core_meaning}
use Rattle.r3000.specs.Machine.{History, no_history}
use Rattle.r3000.specs.declared.processor.Processor.{Processor}

module _ {B : Type 0} where
  -- the stage of a job, on the pile of its start; a job has its pile whenever it is not at work, and
  -- without one it would be at its end
  abbrev pub job_stage : B → History → Option B → Option Processor → Stage B
  job_stage s h (Some pile) processor = stage_of_station s h (record { pile = pile; processor = processor })
  job_stage s h None processor = loading s

  -- the lines that are left of a job's bytes; without a pile none are
  abbrev pub text_lines_left : Option B → List ℕ → List (List ℕ)
  text_lines_left (Some pile) bytes = text_lines_of bytes
  text_lines_left None bytes = []

  -- where a job stands, on the pile of its start and with a history behind it
  abbrev pub standing_of : B → History → Job B → Standing B
  standing_of s h x =
      record {
        due = option_to_list x.due;
        stage = job_stage s h x.pile x.processor;
        number = x.number;
        left = text_lines_left x.pile x.text_lines.0.now;
      }

  module _ (means : B → Meaning) where
    -- what a pile and its processor mean
    abbrev pub stage_meaning : B → Option Processor → StageMeaning
    stage_meaning pile None = by_meaning.loading (means pile)
    stage_meaning pile (Some processor) =
        by_meaning.running (core_meaning means (machine_of_parts no_history processor pile))

    -- on a decided memory the replies that are still to come of a job are these
    abbrev pub replies_to_come : (Meaning → Request → Meaning) → Job B → List Reply
    replies_to_come next x =
        option_to_list x.due
        ++ elim x.pile [
          | Some pile ↦ replies_to_lines next (stage_meaning pile x.processor) x.number
              (text_lines_of x.text_lines.0.now)
          | None ↦ []
        ]

    module _ (steps : B → Request → Answer → B → Type 0) where
      -- what a call of next leaves to come: behind a reply that it gives, all that is still to come, so that none is
      -- lost or given twice; and it gives none only where none is to come
      abbrev pub Leaves : Standing B → Option Reply → Standing B → Type 0
      Leaves x r y =
          MatchOption r (AreToCome means steps x [])
          (λ d. (rs : List Reply) → AreToCome means steps y rs → AreToCome means steps x (d ∷ rs))

      -- one call of next, over any pile
      pub record NextOverAnyPile (s : B) (h : History) (x : Job B) (r : Option Reply) (y : Job B) : Type 0 where
        pub pile : B
        pub history : History
        pub gives : AnswersNext means steps (standing_of s h x) r (standing_of pile history y)
        -- where the core could be reached, the promise holds of it, and the replies are those of the job
        pub promise : StageIsReached means steps (standing_of s h x).stage
            → StageIsPromised means steps (standing_of pile history y).stage
        pub leaves : StageIsReached means steps (standing_of s h x).stage
            → Leaves (standing_of s h x) r (standing_of pile history y)

      -- and, where the pile is decided, the value of the function
      pub record NextGives (x : Job B) (r : Option Reply) (y : Job B) : Type 0 where
        pub turns : (s : B) (h : History) → NextOverAnyPile s h x r y
        pub exact : (next : Meaning → Request → Meaning) → IsDecided means steps next
            → YieldsFirst (replies_to_come next) x r y
