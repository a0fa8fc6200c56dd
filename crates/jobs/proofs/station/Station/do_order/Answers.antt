use Rattle.std.proofs.Common.{◌≡◌, sym, refl, ap, ◌∙◌, subst, subst₂}
use Rattle.r3000.specs.Core.{machine_of}
use Rattle.r3000.specs.Machine.{no_history}
use Rattle.jobs.specs.Decision.{decision}
use Rattle.jobs.specs.Station.{StageIsPromised, StageIsReached, AnswersOrder, loading, running, stage_of_station}
use Rattle.jobs.proofs.Promised.{early_promised}
use Rattle.jobs.proofs.station.Station.do_order.Goals as goal

pub returns-in_default : goal.returns-in_default
returns-in_default g c s h =
    let here = c.args.self.pile in
    let after = stage_of_station here no_history c.before_start.result.0 in
    let before : stage_of_station s h c.args.self ≡ loading here =
    λ i. stage_of_station s h (record { pile = here; processor = c.in_default.is i }) in (
      here,
      no_history,
      subst (λ e. AnswersOrder g.B.Bus.means g.B.Bus.steps e c.args.order c.before_start.result.1 after) (sym before)
          c.before_start.ensures,
      λ r. early_promised c.promise.ensures here (decision c.args.order).before c.before_start.result.1 after
          c.before_start.ensures,
    )

pub returns : goal.returns
returns g c s h =
    let done = c.after_start-reply.ensures h in
    let after = machine_of done.0 c.after_start-reply.new.core in
    let before : stage_of_station s h c.args.self ≡ running s (machine_of h c.from_parts-core.result) =
    (λ i. stage_of_station s h (record { pile = c.args.self.pile; processor = c.in-Some.is i }))
    ∙ sym (ap (running s) (c.from_parts-core.ensures h))
    in (
      s,
      done.0,
      subst₂ (λ e f. AnswersOrder g.B.Bus.means g.B.Bus.steps e c.args.order c.after_start-reply.result f) (sym before)
          (sym (c.running.ensures s done.0)) (after, done.1, refl),
      subst₂ (λ e f. StageIsReached g.B.Bus.means g.B.Bus.steps e → StageIsPromised g.B.Bus.means g.B.Bus.steps f)
          (sym before) (sym (c.running.ensures s done.0)) (done.2 s),
    )
