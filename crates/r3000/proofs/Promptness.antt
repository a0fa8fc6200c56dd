-- The next boundary is near: what is left of the path falls with every granted cycle. Assumes nothing.
use Rattle.std.proofs.Common.{◌≡◌, ℕ, zero, suc, ◌+◌, ◌-◌, ◌*◌, ◌<◌, ◌≤◌, Bool, true, false, cond, T, ltb, leb, ◌∷◌}
use Rattle.std.proofs.Common.{Some, None, Option, sym, refl, ap, ◌∙◌, subst, add-mul, sub-add_cancel, arith}
use Rattle.std.proofs.lemmas.Bool.{leb-true, ltb-true, true≢false}
use Rattle.std.specs.List.{list_all}
use Rattle.bus.specs.Meaning.{Keeps, Meaning, IsSound}
use Rattle.bus.specs.declared.request.Access.{Access}
use Rattle.bus.specs.declared.request.Answer.{Answer}
use Rattle.bus.specs.declared.request.Request.{Request}
use Rattle.microprogram.specs.Cycle.{State, ends_path, request_of, row_access, unless_flagged}
use Rattle.microprogram.specs.Bounds.{access_count, ends_within, path_budget, successors}
use Rattle.machine.specs.Registers.{Regs}
use Rattle.machine.specs.declared.fault.Fault.{Fault}
use Rattle.r3000.specs.Cycle.{Cycle, next_request}
use Rattle.r3000.specs.Machine.{History, Machine, core_at_power_up, current_row, with_lines}
use Rattle.r3000.specs.Promise.{latest_boundary}
use Rattle.r3000.proofs.Answered.{fixed, frozen, waiting}
use Rattle.r3000.proofs.Below.{Below}
use Rattle.r3000.proofs.Parts.{history_of, state_of}
use Rattle.r3000.proofs.Successors.{follows}
use Rattle.r3000.proofs.Tests.{left, right}
use Rattle.rows.specs.Rows.{row_count}
use Rattle.rows.specs.declared.row.Transfer.{Transfer}
use Rattle.rows.specs.declared.row.Transfer.TheVariants as m

-- a request has no more waits than its access allows
bound : (n : Meaning) → IsSound n → (x : Access) → n.waits x ≤ 1 * n.longest
bound n h x = omega (arith, h.waits x)

waiting_bound : (n : Meaning) → IsSound n → (flag : Option Fault) (g : Regs) (t : Transfer) (res : ℕ)
    → waiting n (unless_flagged flag (row_access g t res)) ≤ access_count t * n.longest
waiting_bound n h (Some c) g t res = omega arith
waiting_bound n h None g m.Nop res = omega arith
waiting_bound n h None g m.If res = bound n h _
waiting_bound n h None g m.Ww res = bound n h _
waiting_bound n h None g m.Wh res = bound n h _
waiting_bound n h None g m.Wb res = bound n h _
waiting_bound n h None g m.Lw res = bound n h _

-- the first access of several, taken out
spare : (one several longest waits : ℕ) → one ≤ several → waits ≤ one * longest
    → (several - one) * longest + waits ≤ several * longest
spare one several longest waits few h =
    omega (arith, add-mul (several - one) one longest, ap (λ n. n * longest) (sub-add_cancel few))

true_test : (b : Bool) → T b → b ≡ true
true_test true h = refl
true_test false h = absurd h

-- the accesses of the row at hand
abbrev touches : State → ℕ
touches c = access_count (current_row c).transfer

-- the row at hand makes no more accesses than its way has
first : (rows touch : ℕ) (c : State) → T (ends_within rows touch c.row) → touches c ≤ touch
unfolding ends_within
first zero touch c h = absurd h
first (suc rows) touch c h = leb-true _ _ (true_test _ (left (leb (touches c) touch) _ h))

apart : (e b : Bool) → T (elim e [ true ↦ true | false ↦ b ]) → e ≡ false → T b
apart true b h e = absurd (true≢false e)
apart false b h e = h

-- and the rest of the path is one row shorter
rest : (rows touch : ℕ) (c : State) → T (ends_within rows touch c.row) → ends_path (current_row c).sequencing ≡ false
    → (n : ℕ) × (rows ≡ n + 1)
    × T (list_all (ends_within n (touch - touches c)) (successors (current_row c).sequencing (current_row c).amic))
unfolding ends_within
rest zero touch c h e = absurd h
rest (suc rows) touch c h e =
    (rows, omega arith, apart (ends_path (current_row c).sequencing) _ (right (leb (touches c) touch) _ h) e)

module _ {S : Type 0} {means : S → Meaning} {steps : S → Request → Answer → S → Type 0} (below : Below)
    (keeps : Keeps means steps) (start : S) where
  -- the rows of the way to the boundary, its accesses, and that all of it is near
  pub record Soon (since : ℕ) (c : Machine S) : Type 0 where
    pub longest : (means c.pile).longest ≡ (means start).longest
    pub row : c.processor.state.row < row_count
    pub rows : ℕ
    pub touch : ℕ
    pub path : T (ends_within rows touch c.processor.state.row)
    pub near : since + rows
        + ((touch - touches c.processor.state) * (means start).longest + waiting (means c.pile) (next_request c))
        ≤ latest_boundary (means start)

  -- a row that is come to
  comes : (since : ℕ) (c : Machine S) → (means c.pile).longest ≡ (means start).longest
      → c.processor.state.row < row_count
      → (rows touch : ℕ) → T (ends_within rows touch c.processor.state.row)
      → since + rows + touch * (means start).longest ≤ latest_boundary (means start) → Soon since c
  comes since c longest row rows touch path near =
      record {
        longest = longest;
        row = row;
        rows = rows;
        touch = touch;
        path = path;
        near =
            let few : waiting (means c.pile) (next_request c) ≤ touches c.processor.state * (means start).longest =
            subst (λ w. waiting (means c.pile) (next_request c) ≤ touches c.processor.state * w) longest
            (waiting_bound (means c.pile) (keeps.sound c.pile) c.processor.state.flag c.processor.state.regs
            (current_row c.processor.state).transfer _)
            in
            omega (
              arith,
              spare (touches c.processor.state) touch (means start).longest _
                  (first rows touch c.processor.state path) few,
            );
      }

  -- a boundary, and power-up
  anew : (c : Machine S) → (means c.pile).longest ≡ (means start).longest → c.processor.state.row < row_count
      → Soon 0 c
  anew c longest row =
      comes 0 c longest row path_budget.rows path_budget.accesses (right _ _ (below.rows c.processor.state.row row))
      (omega arith)

  pub soon_start : Soon 0 (core_at_power_up start)
  soon_start = anew (core_at_power_up start) refl (omega arith)

  -- the row after an unfrozen cycle, if all successors have it
  next : (p : ℕ → Bool) (c d : Machine S) → Cycle steps c false d
      → T (list_all p (successors (current_row c.processor.state).sequencing (current_row c.processor.state).amic))
      → T (p d.processor.state.row)
  next p c d h all =
      subst (λ s. T (p s.row)) (sym (state_of h))
      (follows below.listed p (current_row c.processor.state).sequencing (current_row c.processor.state).amic
      c.processor.state.regs _ _ c.processor.lines _ all)

  is_row : (since : ℕ) (c d : Machine S) → Cycle steps c false d → Soon since c → d.processor.state.row < row_count
  is_row since c d h near =
      ltb-true _ _ (true_test _
      (next (λ k. ltb k row_count) c d h (left _ _ (below.rows c.processor.state.row near.row))))

  stays : (since : ℕ) (c d : Machine S) (f : Bool) → Cycle steps c f d → Soon since c
      → (means d.pile).longest ≡ (means start).longest
  stays since c d f h near = (fixed below.memory keeps c.pile d.pile (next_request c) h.answer h.asks).1 ∙ near.longest

  -- a frozen cycle takes one from the waits of the request under way
  soon_frozen : (since : ℕ) (c d : Machine S) → Cycle steps c true d → Soon since c → Soon (since + 1) d
  soon_frozen since c d h near =
      let same : d.processor.state ≡ c.processor.state = state_of h in
      let fewer : waiting (means d.pile) (next_request c) + 1 ≡ waiting (means c.pile) (next_request c) =
      (frozen below.memory keeps c.pile d.pile (next_request c) h.answer h.asks h.freeze).1
      in
      record {
        longest = stays since c d true h near;
        row = subst (λ s. s.row < row_count) (sym same) near.row;
        rows = near.rows;
        touch = near.touch;
        path = subst (λ s. T (ends_within near.rows near.touch s.row)) (sym same) near.path;
        near =
            subst
            (λ s.
            since + 1 + near.rows
            + ((near.touch - touches s) * (means start).longest
            + waiting (means d.pile) (request_of (current_row s) s))
            ≤ latest_boundary (means start)) (sym same)
            (omega (arith, near.near));
      }

  -- an unfrozen one goes on to the next row, or over a boundary
  soon_on : (since : ℕ) (c d : Machine S) → Cycle steps c false d
      → ends_path (current_row c.processor.state).sequencing ≡ false → Soon since c → Soon (since + 1) d
  soon_on since c d h e near = go (rest near.rows near.touch c.processor.state near.path e)
    where
      go : (n : ℕ) × (near.rows ≡ n + 1)
          × T (list_all (ends_within n (near.touch - touches c.processor.state))
          (successors (current_row c.processor.state).sequencing (current_row c.processor.state).amic))
          → Soon (since + 1) d
      go r =
          comes (since + 1) d (stays since c d false h near) (is_row since c d h near) r.0
          (near.touch - touches c.processor.state)
          (next (ends_within r.0 (near.touch - touches c.processor.state)) c d h r.2)
          (omega (arith, near.near, r.1))

  soon_over : (since : ℕ) (c d : Machine S) → Cycle steps c false d → Soon since c → Soon 0 d
  soon_over since c d h near = anew d (stays since c d false h near) (is_row since c d h near)

  -- each cycle, with its history
  pub soon_cycle : (c d : Machine S) (f : Bool) → Cycle steps c f d → Soon c.observation.history.since c
      → Soon d.observation.history.since d
  soon_cycle c d true k near =
      subst (λ h. Soon h.since d) (sym (history_of k)) (soon_frozen c.observation.history.since c d k near)
  soon_cycle c d false k near =
      subst (λ h. Soon h.since d) (sym (history_of k)) (by (ends_path (current_row c.processor.state).sequencing) refl)
    where
      by : (e : Bool) → ends_path (current_row c.processor.state).sequencing ≡ e
          → Soon
          (cond {A = History} e
          (record { boundary_lines = c.processor.lines ∷ c.observation.history.boundary_lines; since = 0 })
          (record {
            boundary_lines = c.observation.history.boundary_lines;
            since = c.observation.history.since + 1;
          })).since
          d
      by true e = soon_over c.observation.history.since c d k near
      by false e = soon_on c.observation.history.since c d k e near

  pub soon_lines : (since : ℕ) (c : Machine S) (l : ℕ) → Soon since c → Soon since (with_lines l c)
  soon_lines since c l near =
      record {
        longest = near.longest;
        row = near.row;
        rows = near.rows;
        touch = near.touch;
        path = near.path;
        near = near.near;
      }

  pub at_least_a_row : (since : ℕ) (c : Machine S) → Soon since c → since < latest_boundary (means start)
  unfolding ends_within
  at_least_a_row since c near = by near.rows refl
    where
      by : (n : ℕ) → near.rows ≡ n → since < latest_boundary (means start)
      by zero e = absurd (subst (λ n. T (ends_within n near.touch c.processor.state.row)) e near.path)
      by (suc n) e = omega (arith, near.near)
