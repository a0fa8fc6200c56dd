-- A core is on the way of the book's step: so many ticks past the last boundary. Assumes nothing.
use Rattle.std.proofs.Common.{◌≡◌, ℕ, zero, suc, ◌+◌, ◌<◌, Bool, true, false, cond, ◌⊎◌, ◌∷◌, length, Option, sym}
use Rattle.std.proofs.Common.{refl, ap, ◌∙◌, subst, ap₂, inl, inr, add-one, arith}
use Rattle.std.proofs.lemmas.Bool.{both_ways, cases_eq, cond-false}
use Rattle.bus.specs.Meaning.{Keeps, Meaning}
use Rattle.bus.specs.declared.request.Answer.{Answer}
use Rattle.bus.specs.declared.request.Request.{Request}
use Rattle.book.specs.Book.{Book, Refusals, step}
use Rattle.paths.specs.Instant.{World, world_after_cycle, world_after_cycles}
use Rattle.microprogram.specs.Cycle.{State, ends_path, state_at_power_up, state_after}
use Rattle.book.specs.Length.{length_of}
use Rattle.book.specs.Fit.{IsFit}
use Rattle.paths.specs.Path.{Stands, Walks, world_at, world_ends_path}
use Rattle.r3000.specs.Counts.{report_after}
use Rattle.r3000.specs.Cycle.{Cycle, next_request}
use Rattle.r3000.specs.Machine.{History, Machine, core_at_power_up, no_history, current_row, with_lines}
use Rattle.r3000.specs.Promise.{Agrees, book_after, total_length, refusals}
use Rattle.r3000.proofs.Below.{Below}
use Rattle.r3000.proofs.Answered.{fixed, no_tick, one_tick, world}
use Rattle.r3000.proofs.Parts.{history_of, report_of}
use Rattle.r3000.proofs.Successors.{no_lines}
use Rattle.rows.specs.Rows.{row_at}
use Rattle.rows.specs.declared.row.Row.{Row}

-- before a boundary a cycle does not depend on the lines
no_choice : (w : Row) (l k : ℕ) (work : ℕ × Bool × Bool) (a : Option Answer) (c : State)
    → ends_path w.sequencing ≡ false
    → state_after w l work a c ≡ state_after w k work a c
no_choice w l k work a c e =
    ap₂ (λ row lines.
    record {
      regs = (state_after w l work a c).regs;
      dt = (state_after w l work a c).dt;
      flag = (state_after w l work a c).flag;
      row = row;
      sampled = lines;
      ledger = (state_after w l work a c).ledger;
    })
    (no_lines w.sequencing w.amic c.regs work.0 work.2 _ l k e)
    (cond-false (ends_path w.sequencing) l c.sampled e ∙ sym (cond-false (ends_path w.sequencing) k c.sampled e))

module _ (r : Refusals) where
  -- one more tick
  ticks_more : (l n : ℕ) (s : World)
      → world_after_cycles r l (suc n) s ≡ world_after_cycle r l (world_after_cycles r l n s)
  unfolding world_after_cycles
  ticks_more l zero s = refl
  ticks_more l (suc n) s = ticks_more l n (world_after_cycle r l s)

  -- a tick that is no boundary does not depend on the lines
  same_tick : (l k : ℕ) (s : World) → world_ends_path s ≡ false → world_after_cycle r l s ≡ world_after_cycle r k s
  unfolding world_after_cycle
  same_tick l k s e =
      ap (λ t. record { state = t; bytes = (world_after_cycle r l s).bytes })
      (no_choice (row_at s.state.row) l k _ _ s.state e)

module _ {S : Type 0} {means : S → Meaning} {steps : S → Request → Answer → S → Type 0} (below : Below)
    (keeps : Keeps means steps) (start : S) where
  -- the book after the boundaries of a history
  abbrev book : History → Book
  book h = book_after (means start) h.boundary_lines

  -- the core is as many ticks past where the microprogram stood at the book's state as its place says, and the lines
  -- do not matter
  pub record OnTheWay (h : History) (c : Machine S) : Type 0 where
    pub refuses : refusals (means c.pile) ≡ refusals (means start)
    pub fit : IsFit (book h)
    pub from : World
    pub stands : Stands (book h) from
    pub ticked : (l : ℕ)
        → world below.memory keeps c ≡ world_after_cycles (refusals (means start)) l c.observation.report.place from
    pub short : c.observation.report.place < length_of (book h) (book h).event
    pub boundaries : length h.boundary_lines ≡ c.observation.report.boundaries
    pub sum : c.observation.report.cycles
        ≡ c.observation.report.frozen + total_length (means start) h.boundary_lines + c.observation.report.place

  pub way_start : OnTheWay no_history (core_at_power_up start)
  unfolding world_after_cycles
  way_start =
      record {
        refuses = refl;
        fit = below.fits (means start).byte (keeps.sound start).bytes;
        from = record { state = state_at_power_up; bytes = (means start).byte };
        stands = below.begins (means start).byte;
        ticked = λ l. refl;
        short = omega arith;
        boundaries = refl;
        sum = refl;
      }

  pub way_lines : (h : History) (c : Machine S) (l : ℕ) → OnTheWay h c → OnTheWay h (with_lines l c)
  way_lines h c l w =
      record {
        refuses = w.refuses;
        fit = w.fit;
        from = w.from;
        stands = w.stands;
        ticked = w.ticked;
        short = w.short;
        boundaries = w.boundaries;
        sum = w.sum;
      }

  -- what the words that are refused, and the world, are after a cycle
  still_refuses : (h : History) (c d : Machine S) (f : Bool) → Cycle steps c f d → OnTheWay h c
      → refusals (means d.pile) ≡ refusals (means start)
  still_refuses h c d f k w = (fixed below.memory keeps c.pile d.pile (next_request c) k.answer k.asks).0 ∙ w.refuses

  next_tick : (h : History) (c d : Machine S) → Cycle steps c false d → OnTheWay h c
      → world below.memory keeps d
      ≡ world_after_cycle (refusals (means start)) c.processor.lines (world below.memory keeps c)
  next_tick h c d k w =
      one_tick below.memory keeps c d k
      ∙ ap (λ r. world_after_cycle r c.processor.lines (world below.memory keeps c)) w.refuses

  -- a frozen cycle leaves the core where it is
  way_frozen : (h : History) (c d : Machine S) → Cycle steps c true d → OnTheWay h c
      → OnTheWay (record { boundary_lines = h.boundary_lines; since = h.since + 1 }) d
  way_frozen h c d k w =
      record {
        refuses = still_refuses h c d true k w;
        fit = w.fit;
        from = w.from;
        stands = w.stands;
        ticked =
            λ l. no_tick below.memory keeps c d k ∙ w.ticked l
            ∙ ap (λ n. world_after_cycles (refusals (means start)) l n.place w.from) (sym (report_of k));
        short = subst (λ n. n.place < length_of (book h) (book h).event) (sym (report_of k)) w.short;
        boundaries = w.boundaries ∙ ap (λ n. n.boundaries) (sym (report_of k));
        sum =
            subst (λ n. n.cycles ≡ n.frozen + total_length (means start) h.boundary_lines + n.place)
            (sym (report_of k))
            (omega (arith, w.sum));
      }

  -- the step of the book that is under way
  walking : (h : History) (c : Machine S) (w : OnTheWay h c)
      → Walks (refusals (means start)) c.processor.lines (book h) w.from
  walking h c w = below.paths (refusals (means start)) c.processor.lines (book h) w.fit w.from w.stands

  -- whether this cycle ends it
  ending_here : (h : History) (c : Machine S) (w : OnTheWay h c)
      → ends_path (current_row c.processor.state).sequencing
      ≡ world_ends_path (world_after_cycles
      (refusals (means start)) c.processor.lines c.observation.report.place w.from)
  ending_here h c w = ap world_ends_path (w.ticked c.processor.lines)

  -- an unfrozen cycle within a step
  way_on : (h : History) (c d : Machine S) → Cycle steps c false d
      → ends_path (current_row c.processor.state).sequencing ≡ false → OnTheWay h c
      → OnTheWay (record { boundary_lines = h.boundary_lines; since = h.since + 1 }) d
  way_on h c d k e w =
      let n : ℕ = c.observation.report.place in
      let count : d.observation.report
      ≡ record {
        cycles = c.observation.report.cycles + 1;
        frozen = c.observation.report.frozen;
        boundaries = c.observation.report.boundaries;
        place = n + 1;
      } =
      report_of k ∙ ap (λ b. report_after false b c.observation.report) e in
      record {
        refuses = still_refuses h c d false k w;
        fit = w.fit;
        from = w.from;
        stands = w.stands;
        ticked = λ l.
            next_tick h c d k w
            ∙ same_tick (refusals (means start)) c.processor.lines l (world below.memory keeps c) e
            ∙ ap (world_after_cycle (refusals (means start)) l) (w.ticked l)
            ∙ sym (ticks_more (refusals (means start)) l n w.from)
            ∙ ap (λ p. world_after_cycles (refusals (means start)) l p w.from)
            (sym (add-one n) ∙ ap (λ m. m.place) (sym count));
        short =
            subst (λ m. m.place < length_of (book h) (book h).event) (sym count)
            (further (cases_eq (n + 1) (length_of (book h) (book h).event)));
        boundaries = w.boundaries ∙ ap (λ m. m.boundaries) (sym count);
        sum =
            subst (λ m. m.cycles ≡ m.frozen + total_length (means start) h.boundary_lines + m.place) (sym count)
            (omega (arith, w.sum));
      }
    where
      further : (c.observation.report.place + 1 ≡ length_of (book h) (book h).event)
          ⊎ (c.observation.report.place + 1 ≡ length_of (book h) (book h).event → ⊥)
          → c.observation.report.place + 1 < length_of (book h) (book h).event
      further (inl last) =
          absurd (both_ways _ (sym (ending_here h c w) ∙ e) ((walking h c w).ending c.observation.report.place last))
      further (inr more) = omega (arith, w.short)

  -- an unfrozen cycle that ends it: a boundary
  way_over : (h : History) (c d : Machine S) → Cycle steps c false d
      → ends_path (current_row c.processor.state).sequencing ≡ true → OnTheWay h c
      → OnTheWay (record { boundary_lines = c.processor.lines ∷ h.boundary_lines; since = 0 }) d
  unfolding world_after_cycles
  way_over h c d k e w =
      let n : ℕ = c.observation.report.place in
      let count : d.observation.report
      ≡ record {
        cycles = c.observation.report.cycles + 1;
        frozen = c.observation.report.frozen;
        boundaries = c.observation.report.boundaries + 1;
        place = 0;
      } =
      report_of k ∙ ap (λ b. report_after false b c.observation.report) e in
      let whole : n + 1 ≡ length_of (book h) (book h).event =
      last (cases_eq (n + 1) (length_of (book h) (book h).event)) in
      let arrived : world below.memory keeps d
      ≡ world_after_cycles (refusals (means start)) c.processor.lines (length_of (book h) (book h).event) w.from =
      next_tick h c d k w
      ∙ ap (world_after_cycle (refusals (means start)) c.processor.lines) (w.ticked c.processor.lines)
      ∙ sym (ticks_more (refusals (means start)) c.processor.lines n w.from)
      ∙ ap (λ p. world_after_cycles (refusals (means start)) c.processor.lines p w.from) (sym (add-one n) ∙ whole)
      in
      record {
        refuses = still_refuses h c d false k w;
        fit = below.words (refusals (means start)) c.processor.lines (book h) w.fit;
        from = world below.memory keeps d;
        stands =
            subst (λ s. Stands (step (refusals (means start)) c.processor.lines (book h)) s) (sym arrived)
            (walking h c w).arrives;
        ticked =
            λ l. ap (λ p. world_after_cycles (refusals (means start)) l p (world below.memory keeps d))
            (ap (λ m. m.place) (sym count));
        short =
            subst
            (λ m.
            m.place
            < length_of (step (refusals (means start)) c.processor.lines (book h))
            (step (refusals (means start)) c.processor.lines (book h)).event) (sym count)
            (below.some (step (refusals (means start)) c.processor.lines (book h))
            (step (refusals (means start)) c.processor.lines (book h)).event);
        boundaries = ap suc w.boundaries ∙ sym (add-one _) ∙ ap (λ m. m.boundaries) (sym count);
        sum =
            subst
            (λ m. m.cycles
            ≡ m.frozen + total_length (means start) (c.processor.lines ∷ h.boundary_lines) + m.place)
            (sym count) (omega (arith, w.sum));
      }
    where
      last : (c.observation.report.place + 1 ≡ length_of (book h) (book h).event)
          ⊎ (c.observation.report.place + 1 ≡ length_of (book h) (book h).event → ⊥)
          → c.observation.report.place + 1 ≡ length_of (book h) (book h).event
      last (inl whole) = whole
      last (inr more) =
          absurd
          (both_ways _ ((walking h c w).going c.observation.report.place (omega (arith, w.short)))
          (sym (ending_here h c w) ∙ e))

  pub way_cycle : (c d : Machine S) (f : Bool) → Cycle steps c f d → OnTheWay c.observation.history c
      → OnTheWay d.observation.history d
  way_cycle c d true k w = subst (λ h. OnTheWay h d) (sym (history_of k)) (way_frozen c.observation.history c d k w)
  way_cycle c d false k w =
      subst (λ h. OnTheWay h d) (sym (history_of k)) (by (ends_path (current_row c.processor.state).sequencing) refl)
    where
      by : (e : Bool) → ends_path (current_row c.processor.state).sequencing ≡ e
          → OnTheWay
          (cond {A = History} e
          (record { boundary_lines = c.processor.lines ∷ c.observation.history.boundary_lines; since = 0 })
          (record {
            boundary_lines = c.observation.history.boundary_lines;
            since = c.observation.history.since + 1;
          })) d
      by true e = way_over c.observation.history c d k e w
      by false e = way_on c.observation.history c d k e w

  -- where the place is 0, the core stands at the book's state
  pub agrees : (h : History) (c : Machine S) → OnTheWay h c → c.observation.report.place ≡ 0
      → Agrees (book h) c.processor.state (means c.pile)
  unfolding world_after_cycles
  agrees h c w z =
      let same : world below.memory keeps c ≡ world_at (book h) w.stands.dt w.stands.row w.stands.flag =
      w.ticked 0 ∙ ap (λ n. world_after_cycles (refusals (means start)) 0 n w.from) z ∙ w.stands.is in
      record {
        regs = ap (λ s. s.state.regs) same;
        sampled = ap (λ s. s.state.sampled) same;
        ledger = ap (λ s. s.state.ledger) same;
        bytes = λ x. ap (λ s. s.bytes x) same;
      }
