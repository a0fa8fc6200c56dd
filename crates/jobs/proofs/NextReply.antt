-- What one call of next gives, by how it came to it. Assumes nothing.
use Rattle.std.proofs.Common.{◌≡◌, ℕ, ◌+◌, List, [], ◌∷◌, ◌++◌, Some, None, Option, option_to_list, sym, refl, ap, ap₂}
use Rattle.std.proofs.Common.{◌∙◌, subst, subst₂}
use Rattle.bus.specs.Decided.{SettlesAsDecided}
use Rattle.bus.specs.Meaning.{Meaning}
use Rattle.bus.specs.declared.request.Answer.{Answer}
use Rattle.bus.specs.declared.request.Request.{Request}
use Rattle.jobs.specs.NextReply.{Leaves, NextGives, text_lines_left, stage_meaning, job_stage, standing_of}
use Rattle.jobs.specs.NextReply.{replies_to_come}
use Rattle.jobs.specs.Decided.{StageMeaning, line_answer, replies_to_lines}
use Rattle.jobs.specs.Job.{AnswersNext, AnswersLine, Standing, text_lines_of}
use Rattle.jobs.specs.Station.{StationDoes, StageIsPromised, StageIsReached, Stage, stage_of_station}
use Rattle.jobs.specs.declared.job.Job.{Job}
use Rattle.jobs.specs.declared.station.Station.{Station}
use Rattle.jobs.proofs.Decided.{answers_line, shown}
use Rattle.jobs.proofs.Promised.{promised}
use Rattle.text.specs.Reading.{read_line}
use Rattle.text.specs.declared.reply.Reply.{Reply}
use Rattle.r3000.specs.Decided.{CyclesAsDecided}
use Rattle.r3000.specs.Machine.{History, no_history}
use Rattle.r3000.specs.Promise.{AllKeepPromise}
use Rattle.r3000.specs.declared.processor.Processor.{Processor}

-- where no line is left of the bytes, none is left of the job
pub none_left : {B : Type 0} (o : Option B) (bytes : List ℕ) → text_lines_of bytes ≡ [] → text_lines_left o bytes ≡ []
none_left (Some pile) bytes e = e
none_left None bytes e = refl

module _ {B : Type 0} {means : B → Meaning} {steps : B → Request → Answer → B → Type 0}
    (settles : SettlesAsDecided means steps) (cycles : CyclesAsDecided means steps)
    (kept : (start : B) → AllKeepPromise means steps start) where
  -- a station is seen as its stage is shown, whatever is behind it
  stage_meaning_same : (s : B) (h : History) (pile : B) (o : Option Processor)
      → shown means (stage_of_station s h (record { pile = pile; processor = o })) ≡ stage_meaning means pile o
  stage_meaning_same s h pile None = refl
  stage_meaning_same s h pile (Some processor) = refl

  -- a stage that stays keeps the promise
  stays : (e f : Stage B) → f ≡ e → StageIsReached means steps e → StageIsPromised means steps f
  stays e f same r = promised kept f (subst (StageIsReached means steps) (sym same) r)

  -- a reply that was due
  pub gives_due : (x y : Job B) (d : Reply) → x.due ≡ Some d → y.due ≡ None → y.pile ≡ x.pile
      → y.processor ≡ x.processor → y.number ≡ x.number → y.text_lines ≡ x.text_lines
      → NextGives means steps x (Some d) y
  gives_due x y d was now station chip number lines =
      record {
        turns = λ s h.
            let before : Standing B =
            record {
              due = d ∷ [];
              stage = job_stage s h x.pile x.processor;
              number = x.number;
              left = text_lines_left x.pile x.text_lines.0.now;
            } in
            let after : Standing B =
            record {
              due = [];
              stage = job_stage s h x.pile x.processor;
              number = x.number;
              left = text_lines_left x.pile x.text_lines.0.now;
            } in
            let seen : standing_of s h x ≡ before =
            λ i. record {
              due = option_to_list (was i);
              stage = job_stage s h x.pile x.processor;
              number = x.number;
              left = text_lines_left x.pile x.text_lines.0.now;
            } in
            let left : standing_of s h y ≡ after =
            λ i. record {
              due = option_to_list (now i);
              stage = job_stage s h (station i) (chip i);
              number = number i;
              left = text_lines_left (station i) (lines i).0.now;
            } in
            record {
              pile = s;
              history = h;
              gives = subst₂ (λ u v. AnswersNext means steps u (Some d) v) (sym seen) (sym left) (refl, refl);
              promise =
                  stays (job_stage s h x.pile x.processor) (job_stage s h y.pile y.processor)
                  (λ i. job_stage s h (station i) (chip i));
              leaves =
                  λ r. subst₂ (λ u v. Leaves means steps u (Some d) v) (sym seen) (sym left)
                  (λ rs h. (h.0, h.1, ap (λ qs. d ∷ qs) h.2, h.3));
            };
        exact = λ next decided.
            (λ i. option_to_list (was i) ++ rest next x.pile x.processor x.number x.text_lines.0.now)
            ∙ sym (λ i. d ∷ (option_to_list (now i) ++ rest next (station i) (chip i) (number i) (lines i).0.now));
      }
    where
      rest : (Meaning → Request → Meaning) → Option B → Option Processor → ℕ → List ℕ → List Reply
      rest next o p n bytes = elim o [
        | Some pile ↦ replies_to_lines next (stage_meaning means pile p) n (text_lines_of bytes)
        | None ↦ []
      ]

  -- no reply
  pub gives_none : (x y : Job B) (r : Option Reply) → r ≡ None → x.due ≡ None → y.due ≡ None → y.pile ≡ x.pile
      → y.processor ≡ x.processor → y.number ≡ x.number → text_lines_left x.pile x.text_lines.0.now ≡ []
      → text_lines_left y.pile y.text_lines.0.now ≡ [] → NextGives means steps x r y
  gives_none x y r none_given was now station chip number none still =
      subst (λ q. NextGives means steps x q y) (sym none_given)
      (record {
        turns = λ s h.
            let end : Standing B =
            record { due = []; stage = job_stage s h x.pile x.processor; number = x.number; left = [] } in
            let seen : standing_of s h x ≡ end =
            λ i. record {
              due = option_to_list (was i);
              stage = job_stage s h x.pile x.processor;
              number = x.number;
              left = none i;
            } in
            let left : standing_of s h y ≡ end =
            λ i. record {
              due = option_to_list (now i);
              stage = job_stage s h (station i) (chip i);
              number = number i;
              left = still i;
            } in
            record {
              pile = s;
              history = h;
              gives = subst₂ (λ u v. AnswersNext means steps u None v) (sym seen) (sym left) (refl, refl);
              promise =
                  stays (job_stage s h x.pile x.processor) (job_stage s h y.pile y.processor)
                  (λ i. job_stage s h (station i) (chip i));
              leaves =
                  λ r. subst₂ (λ u v. Leaves means steps u None v) (sym seen) (sym left)
                  ([], end.stage, refl, (refl, refl));
            };
        exact = λ next decided. (nothing next x was none, nothing next y now still);
      })
    where
      rest : (next : Meaning → Request → Meaning) (o : Option B) (p : Option Processor) (n : ℕ) (bytes : List ℕ)
          → text_lines_left o bytes ≡ [] → ◌≡◌ {A = List Reply} (elim o [
            | Some pile ↦ replies_to_lines next (stage_meaning means pile p) n (text_lines_of bytes)
            | None ↦ []
          ]) []
      rest next (Some pile) p n bytes e = ap (replies_to_lines next (stage_meaning means pile p) n) e
      rest next None p n bytes e = refl

      nothing : (next : Meaning → Request → Meaning) (z : Job B) → z.due ≡ None
          → text_lines_left z.pile z.text_lines.0.now ≡ []
          → replies_to_come means next z ≡ []
      nothing next z due left =
          ap₂ (λ u v. option_to_list u ++ v) due (rest next z.pile z.processor z.number z.text_lines.0.now left)

  -- a line that was done
  pub gives_line : (x y : Job B) (pile : B) (after : Station B) (l : List ℕ) (r : Reply) → x.due ≡ None
      → x.pile ≡ Some pile → text_lines_of x.text_lines.0.now ≡ l ∷ text_lines_of y.text_lines.0.now
      → y.due ≡ None → y.pile ≡ Some after.pile → y.processor ≡ after.processor → y.number ≡ x.number + 1
      → StationDoes means steps (λ e f. AnswersLine means steps e x.number (read_line l) (r ∷ []) f)
      (record { pile = pile; processor = x.processor }) after → NextGives means steps x (Some r) y
  gives_line x y pile after l r was station lines now still chip number goes =
      record {
        turns = λ s h.
            let done = goes s h in
            let before : Standing B =
            record {
              due = [];
              stage = stage_of_station s h st;
              number = x.number;
              left = l ∷ text_lines_of y.text_lines.0.now;
            } in
            let end : Standing B =
            record {
              due = [];
              stage = stage_of_station done.0 done.1 after;
              number = x.number + 1;
              left = text_lines_of y.text_lines.0.now;
            } in
            let seen : standing_of s h x ≡ before =
            (λ i.
            record {
              due = option_to_list (was i);
              stage = job_stage s h (station i) x.processor;
              number = x.number;
              left = text_lines_left (station i) x.text_lines.0.now;
            })
            ∙ (λ i. record { due = []; stage = stage_of_station s h st; number = x.number; left = lines i })
            in
            let left : standing_of done.0 done.1 y ≡ end =
            λ i. record {
              due = option_to_list (now i);
              stage = job_stage done.0 done.1 (still i) (chip i);
              number = number i;
              left = text_lines_left (still i) y.text_lines.0.now;
            } in
            record {
              pile = done.0;
              history = done.1;
              gives =
                  subst₂ (λ u v. AnswersNext means steps u (Some r) v) (sym seen) (sym left)
                  (r, [], stage_of_station done.0 done.1 after, done.2, refl, refl);
              promise =
                  subst₂ (λ u v. StageIsReached means steps u.stage → StageIsPromised means steps v.stage) (sym seen)
                  (sym left) done.3;
              leaves =
                  subst₂ (λ u v. StageIsReached means steps u.stage → Leaves means steps u (Some r) v) (sym seen)
                  (sym left)
                  (λ reached rs h. (
                    r ∷ h.0,
                    h.1,
                    ap (λ qs. r ∷ qs) h.2,
                    (r ∷ [], h.0, stage_of_station done.0 done.1 after, refl, done.2, done.3 reached, h.3),
                  ));
            };
        exact = λ next decided.
            let done = goes pile no_history in
            let turn =
            answers_line settles cycles next decided (stage_of_station pile no_history st)
            (stage_of_station done.0 done.1 after) x.number (read_line l) (r ∷ []) done.2 in
            let at = λ (e : StageMeaning). line_answer next e x.number (read_line l) in
            let here : StageMeaning = stage_meaning means pile x.processor in
            let replied : r ∷ [] ≡ (at here).reply =
            turn.0 ∙ ap (λ e. (at e).reply) (stage_meaning_same pile no_history pile x.processor) in
            let then : stage_meaning means after.pile after.processor ≡ (at here).then =
            sym (stage_meaning_same done.0 done.1 after.pile after.processor) ∙ turn.1
            ∙ ap (λ e. (at e).then) (stage_meaning_same pile no_history pile x.processor) in
            (λ i. option_to_list (was i) ++ elim (station i) [
              | Some z ↦ replies_to_lines next (stage_meaning means z x.processor) x.number
                  (text_lines_of x.text_lines.0.now)
              | None ↦ []
            ])
            ∙ ap (replies_to_lines next here x.number) lines
            ∙ sym (ap₂ (λ u v. u ++ replies_to_lines next v (x.number + 1)
            (text_lines_of y.text_lines.0.now)) replied then)
            ∙ sym (λ i. r ∷ (option_to_list (now i) ++ elim (still i) [
              | Some z ↦ replies_to_lines next (stage_meaning means z (chip i)) (number i)
                  (text_lines_of y.text_lines.0.now)
              | None ↦ []
            ]));
      }
    where
      st : Station B
      st = record { pile = pile; processor = x.processor }
