use Rattle.std.proofs.Common.{◌≡◌, None, refl, sym, ◌∙◌, ap}
use Rattle.jobs.specs.NextReply.{text_lines_left}
use Rattle.jobs.proofs.NextReply.{gives_due, gives_line, gives_none, none_left}
use Rattle.jobs.proofs.job.JobIterator.next.Goals as goal

pub returns-in-Some-clause-steps : goal.returns-in-Some-clause-steps
returns-in-Some-clause-steps g c =
    let x = c.args.self.now in
    gives_due c.settles_as_decided.ensures c.cycles_as_decided.ensures c.promise.ensures x _ c.in-Some.reply
    (sym c.take.ensures.value ∙ c.in-Some.is) c.take.ensures.after refl refl refl refl

pub returns-in_err-line-clause-steps : goal.returns-in_err-line-clause-steps
returns-in_err-line-clause-steps g c =
    let x = c.args.self.now in
    let none = c.in_err-line.ensures.steps in
    gives_none c.settles_as_decided.ensures c.cycles_as_decided.ensures c.promise.ensures x _ _ c.from_residual.ensures
    (sym c.take.ensures.value ∙ c.in_default.is) c.take.ensures.after refl refl refl
    (none_left x.pile x.text_lines.0.now none.0) (none_left x.pile c.next.new.self.0.now none.1)

pub returns-in_err-take-clause-steps : goal.returns-in_err-take-clause-steps
returns-in_err-take-clause-steps g c =
    let x = c.args.self.now in
    let no_pile : x.pile ≡ None = sym c.take-2.ensures.value ∙ c.in_err-take.was in
    gives_none c.settles_as_decided.ensures c.cycles_as_decided.ensures c.promise.ensures x _ _
    c.from_residual-in_err-take.ensures (sym c.take.ensures.value ∙ c.in_default.is) c.take.ensures.after
    (c.take-2.ensures.after ∙ sym no_pile) refl refl
    (ap (λ o. text_lines_left o x.text_lines.0.now) no_pile)
    (ap (λ o. text_lines_left o c.next.new.self.0.now) c.take-2.ensures.after)

pub returns-clause-steps : goal.returns-clause-steps
returns-clause-steps g c =
    let x = c.args.self.now in
    gives_line c.settles_as_decided.ensures c.cycles_as_decided.ensures c.promise.ensures x _ c.in_ok-take.field-0
    c.answer_line-station.result.0 c.in_ok-line.line.now c.answer_line-station.result.1
    (sym c.take.ensures.value ∙ c.in_default.is) (sym c.take-2.ensures.value ∙ c.in_ok-take.was)
    c.in_ok-line.ensures.steps c.take.ensures.after refl refl refl c.answer_line-station.ensures
