use Rattle.std.proofs.Common.{◌≡◌, Ok, Err, Result, sym, refl, ap, subst, inl, inr}
use Rattle.jobs.specs.Decision.{decision}
use Rattle.jobs.specs.Station.{LateAnswers, run_reply}
use Rattle.jobs.specs.declared.fault.JobFault.{JobFault}
use Rattle.r3000.specs.Calls.{Runs, lines_reply}
use Rattle.r3000.specs.Core.{machine_of}
use Rattle.r3000.specs.Machine.{Machine}
use Rattle.r3000.specs.Promise.{Upholds}
use Rattle.text.specs.declared.order.Order.{Order}
use Rattle.text.specs.declared.reply.Reply.{Reply}
use Rattle.text.specs.declared.reply.Reply.TheVariants as reply
use Rattle.jobs.proofs.Late.{denied, runs, sets, shows}
use Rattle.jobs.proofs.station.after_start.Given as given
use Rattle.jobs.proofs.station.after_start.Goals as goal

module _ (g : given.Over) (b d : Machine g.row.B.Denot) where
  abbrev AnswersLate : Order → Result Reply JobFault → Type 0
  AnswersLate o r = LateAnswers g.B.Bus.means g.B.Bus.steps b ((decision o).after b.processor b.observation.report) r d

  -- what was shown of the order in hand is shown of the one that was passed
  same_order : (x y : Order) (r : Result Reply JobFault) → x ≡ y → AnswersLate y r → AnswersLate x r
  same_order x y r e h = subst (λ z. AnswersLate z r) (sym e) h

  -- and what was shown of a reply is shown of one that is equal to it
  answered : (x y : Order) (q r : Result Reply JobFault) → x ≡ y → r ≡ q → AnswersLate y q → AnswersLate x r
  answered x y q r e same h = same_order x y r e (subst (AnswersLate y) (sym same) h)

pub returns-in-Load : goal.returns-in-Load
returns-in-Load g c h =
    let here = machine_of h c.args.core.now in (
      h,
      elim c.in-Load.is [
        | inl e ↦ same_order g here here _ _ _ e.2 (refl, refl)
        | inr e ↦ same_order g here here _ _ _ e (refl, refl)
      ],
      λ start r. record { reached = r; promise = c.promise.ensures start here r },
    )

pub returns-in_err-lines-in-SetLines : goal.returns-in_err-lines-in-SetLines
returns-in_err-lines-in-SetLines g c h =
    let call = c.in_err-lines-in-SetLines.ensures in
    let done = call.core h in
    let before = machine_of h c.args.core.now in
    let after = machine_of done.0 c.lines.new.self in (
      done.0,
      answered g before after _ _ _ _ c.in-SetLines.is
          (denied (λ u. reply.Set) (lines_reply c.in-SetLines.lines) _ _ c.from_residual.ensures.1 call.reply)
          (sets g.B.Bus.means g.B.Bus.steps before after c.in-SetLines.lines _ refl done.1),
      done.2,
    )

pub returns-in_ok-lines-in-SetLines : goal.returns-in_ok-lines-in-SetLines
returns-in_ok-lines-in-SetLines g c h =
    let call = c.in_ok-lines-in-SetLines.ensures in
    let done = call.core h in
    let before = machine_of h c.args.core.now in
    let after = machine_of done.0 c.lines.new.self in (
      done.0,
      answered g before after _ _ _ _ c.in-SetLines.is refl
          (sets g.B.Bus.means g.B.Bus.steps before after c.in-SetLines.lines _ call.reply done.1),
      done.2,
    )

pub returns-in_err-run-in-Run : goal.returns-in_err-run-in-Run
returns-in_err-run-in-Run g c h =
    let done = c.in_err-run-in-Run.ensures h in
    let before = machine_of h c.args.core.now in
    let after = machine_of done.0 c.run.new.self in
    let ran : Runs g.B.Bus.steps (Upholds g.B.Bus.means g.B.Bus.steps before) c.in-Run.count before
    (Err c.in_err-run-in-Run.field-0.0) after =
    subst (λ n. Runs g.B.Bus.steps (Upholds g.B.Bus.means g.B.Bus.steps before) n before
    (Err c.in_err-run-in-Run.field-0.0) after) c.from.ensures done.1
    in (
      done.0,
      answered g before after _ _ _ _ c.in-Run.is
          (denied run_reply (Err c.in_err-run-in-Run.field-0.0) _ _ c.from_residual-in_err-run-in-Run.ensures.1 refl)
          (runs g.B.Bus.means g.B.Bus.steps before after c.in-Run.count _ ran),
      done.2,
    )

pub returns-in_ok-run-in-Run : goal.returns-in_ok-run-in-Run
returns-in_ok-run-in-Run g c h =
    let done = c.in_ok-run-in-Run.ensures h in
    let before = machine_of h c.args.core.now in
    let after = machine_of done.0 c.run.new.self in
    let ran : Runs g.B.Bus.steps (Upholds g.B.Bus.means g.B.Bus.steps before) c.in-Run.count before
    (Ok c.in_ok-run-in-Run.field-0) after =
    subst (λ n. Runs g.B.Bus.steps (Upholds g.B.Bus.means g.B.Bus.steps before) n before
    (Ok c.in_ok-run-in-Run.field-0) after) c.from.ensures done.1
    in (
      done.0,
      answered g before after _ _ _ _ c.in-Run.is (ap Ok c.run_reply.ensures)
          (runs g.B.Bus.means g.B.Bus.steps before after c.in-Run.count _ ran),
      done.2,
    )

pub returns-in_err-register-in-Show : goal.returns-in_err-register-in-Show
returns-in_err-register-in-Show g c h =
    let call = c.in_err-register-in-Show.ensures in
    let done = call.core h in
    let before = machine_of h c.args.core.now in
    let after = machine_of done.0 c.args.core.now in (
      done.0,
      answered g before after _ _ _ _ c.in-Show.is
          (denied (reply.Shown c.in-Show.number) _ _ _ c.from_residual-in_err-register-in-Show.ensures.1 refl)
          (shows g.B.Bus.means g.B.Bus.steps before after c.in-Show.number _ call.reply done.1),
      done.2,
    )

pub returns-in_ok-register-in-Show : goal.returns-in_ok-register-in-Show
returns-in_ok-register-in-Show g c h =
    let call = c.in_ok-register-in-Show.ensures in
    let done = call.core h in
    let before = machine_of h c.args.core.now in
    let after = machine_of done.0 c.args.core.now in (
      done.0,
      answered g before after _ _ _ _ c.in-Show.is refl
          (shows g.B.Bus.means g.B.Bus.steps before after c.in-Show.number _ call.reply done.1),
      done.2,
    )
