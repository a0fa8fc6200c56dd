use Rattle.std.proofs.Common.{length, eqb, ap, arith, rules}
use Rattle.std.proofs.lemmas.List.Sorted.{answers_always}
use Rattle.jobs.proofs.TextLines.{next_line}
use Rattle.jobs.proofs.text_lines.TextLinesIterator.next.Goals as goal

pub returns-clause-steps : goal.returns-clause-steps
returns-clause-steps c =
    let part = c.in_ok-line.ensures.steps in
    let first = part.1.2 (λ b. eqb b 10) (answers_always _ _ _ (λ f a r f' k. search rules)) in
    next_line c.args.self.now.0.now c.split_inclusive.result.rest.now c.next.new.self.rest.now c.in_ok-line.line
    c.unwrap_or.result c.strip_suffix.result part.1.0 c.split_inclusive.ensures.rest part.0 part.2 part.1.1 first.1
    c.strip_suffix.ensures.cases c.unwrap_or.ensures

pub returns-clause-goes : goal.returns-clause-goes
returns-clause-goes c =
    let fewer = ap length (returns-clause-steps c) in
    record { on = λ finite. (tt, tt, omega (arith, fewer)); keeps = tt; rests = λ finite. tt }
