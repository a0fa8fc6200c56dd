use Rattle.std.proofs.Common.{◌≡◌, [], ◌∷◌, ◌++◌, sym, refl, ap, ◌∙◌, subst, append_assoc, append-nil}
use Rattle.jobs.specs.NextReply.{standing_of}
use Rattle.jobs.specs.Job.{AnswersJob, AreToCome, first_standing}
use Rattle.jobs.specs.Limits.{max_job}
use Rattle.jobs.specs.Station.{StageIsReached}
use Rattle.r3000.specs.Machine.{no_history}
use Rattle.jobs.proofs.Taken.{last_more, reached_first, reached_still}
use Rattle.jobs.proofs.whole.last_reply.Goals as goal

pub loop-reply-init : goal.loop-reply-init
loop-reply-init g c =
    let stands : standing_of c.args.pile no_history c.into_iter-reply-iterator.result
    ≡ first_standing max_job c.args.pile c.args.bytes.now =
    ap (standing_of c.args.pile no_history) c.into_iter-reply-iterator.ensures.into_iter_gives
    ∙ c.new-reply-items.ensures.stands c.args.pile no_history in
    record {
      replies = [];
      start = c.args.pile;
      history = no_history;
      reached =
          subst (λ x. StageIsReached g.B.Bus.means g.B.Bus.steps x.stage) (sym stands)
          (reached_first g.B.Bus.means g.B.Bus.steps max_job c.args.pile c.args.bytes.now);
      comes = λ rs t. subst (λ x. AreToCome g.B.Bus.means g.B.Bus.steps x rs) stands t;
      last = refl;
    }

pub loop-reply-preserved : goal.loop-reply-preserved
loop-reply-preserved g c =
    let w = c.loop-reply.invariant in
    let turn = c.in-Some.ensures.steps.turns w.start w.history in
    let d = c.in-Some.reply in
    record {
      replies = w.replies ++ d ∷ [];
      start = turn.pile;
      history = turn.history;
      reached =
          reached_still g.B.Bus.means g.B.Bus.steps (standing_of turn.pile turn.history c.next.new.self).stage
          (turn.promise w.reached);
      comes =
          λ rs t.
          subst (λ qs. AnswersJob g.B.Bus.means g.B.Bus.steps max_job c.args.pile c.args.bytes.now qs)
          (sym (append_assoc w.replies (d ∷ []) rs)) (w.comes (d ∷ rs) (turn.leaves w.reached rs t));
      last = last_more w.replies d;
    }

pub returns : goal.returns
returns g c =
    let w = c.loop-reply.invariant in
    let turn = c.in-None.ensures.steps.turns w.start w.history in (
      w.replies,
      subst (λ qs. AnswersJob g.B.Bus.means g.B.Bus.steps max_job c.args.pile c.args.bytes.now qs)
          (append-nil w.replies) (w.comes [] (turn.leaves w.reached)),
      w.last,
    )
