use Rattle.std.proofs.Common.{◌≡◌, ℕ, [], ◌∷◌, Ok, Err, Result, ap, sym, refl, subst, subst₂, rules}
use Rattle.std.specs.Result.{MatchResult}
use Rattle.jobs.specs.Job.{AnswersLine, line_replies, denial_reply}
use Rattle.jobs.specs.Station.{StageIsPromised, StageIsReached, stage_of_station}
use Rattle.jobs.specs.declared.fault.JobFault.{JobFault}
use Rattle.text.specs.declared.reply.Reply.{Reply}
use Rattle.jobs.proofs.Promised.{promised}
use Rattle.jobs.proofs.station.Station.answer_line.Goals as goal
use Rattle.jobs.proofs.station.Station.answer_line.Goals.{in-Err, in-Ok}

-- a denial takes the place of a reply
replied : (n : ℕ) (r : Reply) (q : Result Reply JobFault) → MatchResult q (λ x. r ≡ x) (λ f. r ≡ denial_reply n f)
    → line_replies n q ≡ r ∷ []
replied n r (Ok x) h = cc
replied n r (Err f) h = cc

pub returns : goal.returns
returns g c s h =
    let n = c.args.number in
    let reply = replied n c.unwrap_or_else.result c.match-read_line.station.1 (search rules) in
    elim c.match-read_line.branch [
      | in-Ok w ↦ (
          let done = w.do_order.ensures s h in (
            done.0,
            done.1,
            subst₂
                (λ o rs. AnswersLine g.B.Bus.means g.B.Bus.steps (stage_of_station s h c.args.self) n o rs
                (stage_of_station done.0 done.1 c.match-read_line.station.0)) w.in-Ok.ensures reply
                (subst
                (λ e. AnswersLine g.B.Bus.means g.B.Bus.steps (stage_of_station s h c.args.self) n
                (Ok w.in-Ok.order) (line_replies n e.1) (stage_of_station done.0 done.1 e.0)) (sym w.station-is)
                (w.do_order.result.1, done.2, refl)),
            subst
                (λ e. StageIsReached g.B.Bus.means g.B.Bus.steps (stage_of_station s h c.args.self)
                → StageIsPromised g.B.Bus.means g.B.Bus.steps (stage_of_station done.0 done.1 e.0)) (sym w.station-is)
                done.3,
          ))
      | in-Err w ↦ (
        s,
        h,
        subst₂
            (λ o rs. AnswersLine g.B.Bus.means g.B.Bus.steps (stage_of_station s h c.args.self) n o rs
            (stage_of_station s h c.match-read_line.station.0)) w.in-Err.ensures reply
            (subst
            (λ e. AnswersLine g.B.Bus.means g.B.Bus.steps (stage_of_station s h c.args.self) n (Err w.in-Err.fault)
            (line_replies n e.1) (stage_of_station s h e.0)) (sym w.station-is)
            (ap (λ f. line_replies n (Err f)) w.into.ensures, refl)),
        subst
            (λ e. StageIsReached g.B.Bus.means g.B.Bus.steps (stage_of_station s h c.args.self)
            → StageIsPromised g.B.Bus.means g.B.Bus.steps (stage_of_station s h e.0)) (sym w.station-is)
            (promised c.promise.ensures (stage_of_station s h c.args.self)),
      )
    ]
