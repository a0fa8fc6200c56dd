use Rattle.std.proofs.Common.{◌≡◌, ◌++◌, List}
use Rattle.jobs.specs.NextReply.{standing_of}
use Rattle.jobs.specs.Job.{AnswersJob, AreToCome, last_reply_of}
use Rattle.jobs.specs.Limits.{max_job}
use Rattle.jobs.specs.Station.{StageIsReached}
use Rattle.text.specs.declared.reply.Reply.{Reply}
use Rattle.r3000.specs.Machine.{History}
use Rattle.jobs.proofs.whole.last_reply.Given as goal

abbrev pub invariant-loop-reply : goal.invariant-loop-reply
invariant-loop-reply g l = record {
  replies : List Reply;
  start : g.row.B.Denot;
  history : History;
  reached : StageIsReached g.B.Bus.means g.B.Bus.steps (standing_of start history l.reply-iterator).stage;
  comes : (rs : List Reply) → AreToCome g.B.Bus.means g.B.Bus.steps (standing_of start history l.reply-iterator) rs
      → AnswersJob g.B.Bus.means g.B.Bus.steps max_job l.fn.pile l.bytes (replies ++ rs);
  last : l.last ≡ last_reply_of replies;
}
