-- The one test over all rows, computed, and that no smaller budget passes it. Assumes nothing.
use Rattle.std.proofs.Common.{◌≡◌, ℕ, zero, suc, ◌+◌, ◌-◌, ◌<◌, ◌≤◌, Bool, true, false, ◌&&◌, T, ltb, leb, List, []}
use Rattle.std.proofs.Common.{◌∷◌, ◌⊎◌, refl, subst, inl, inr, Contains, arith}
use Rattle.std.proofs.lemmas.Bool.{cases_eq, leb-true, true≢false}
use Rattle.std.specs.List.{list_all}
use Rattle.rows.specs.Rows.{row_at, row_count, rows}
use Rattle.microprogram.specs.Bounds.{IsLeast, RowsEnd, access_count, ends_within, path_budget, row_passes}
use Rattle.microprogram.specs.Bounds.{successors}
use Rattle.microprogram.specs.Cycle.{ends_path}
use Rattle.microprogram.specs.declared.bounds.Budget.{Budget}
use Rattle.microprogram.proofs.Successors.{among}

left : (a b : Bool) → T (a && b) → T a
left true b h = tt
left false b h = h

right : (a b : Bool) → T (a && b) → T b
right true b h = h
right false b h = absurd h

unfoldable sound_below : Budget → ℕ → Bool
sound_below b zero = true
sound_below b (suc n) = row_passes b n && sound_below b n

at : (b : Budget) (m n : ℕ) → n < m → T (sound_below b m) → T (row_passes b n)
unfolding sound_below
at b zero n h t = absurd (omega arith)
at b (suc m) n h t =
    go (cases_eq n m) (left (row_passes b m) (sound_below b m) t)
    (λ l. at b m n l (right (row_passes b m) (sound_below b m) t))
  where
    go : (n ≡ m) ⊎ (n ≡ m → ⊥) → T (row_passes b m) → (n < m → T (row_passes b n)) → T (row_passes b n)
    go (inl e) this those = rw e this
    go (inr e) this those = those (omega arith)

tested : T (sound_below path_budget row_count)
unfolding sound_below ends_within rows
tested = tt

pub rows_end : RowsEnd path_budget
rows_end n h = at path_budget row_count n h tested

-- a row is one row of the budget
some : (r touch n : ℕ) → T (ends_within r touch n) → 0 < r
unfolding ends_within
some zero touch n h = absurd h
some (suc r) touch n h = omega arith

true_test : (b : Bool) → T b → b ≡ true
true_test true h = refl
true_test false h = absurd h

-- its accesses are within the budget
enough : (r touch n : ℕ) → T (ends_within r touch n) → access_count (row_at n).transfer ≤ touch
unfolding ends_within
enough zero touch n h = absurd h
enough (suc r) touch n h = leb-true _ _ (true_test _ (left (leb (access_count (row_at n).transfer) touch) _ h))

apart : (e b : Bool) → T (elim e [ true ↦ true | false ↦ b ]) → e ≡ false → T b
apart true b h e = absurd (true≢false e)
apart false b h e = h

-- what all numbers of a list pass each of them passes
each : (p : ℕ → Bool) (ns : List ℕ) (n : ℕ) → Contains ns n → T (list_all p ns) → T (p n)
each p [] n c h = absurd (omega (arith, c.1))
each p (m ∷ ms) n (zero, l, e) h = subst (λ k. T (p k)) e (left (p m) (list_all p ms) h)
each p (m ∷ ms) n (suc k, l, e) h = each p ms n (k, omega arith, e) (right (p m) (list_all p ms) h)

-- and what it leaves of the budget is enough for each row that can follow
on : (r touch n m : ℕ) → T (ends_within r touch n) → ends_path (row_at n).sequencing ≡ false
    → Contains (successors (row_at n).sequencing (row_at n).amic) m
    → (k : ℕ) × (r ≡ k + 1) × T (ends_within k (touch - access_count (row_at n).transfer) m)
unfolding ends_within
on zero touch n m h e c = absurd h
on (suc k) touch n m h e c = (
  k,
  omega arith,
  each (ends_within k (touch - access_count (row_at n).transfer)) (successors (row_at n).sequencing (row_at n).amic) m
      c
      (apart (ends_path (row_at n).sequencing) _ (right (leb (access_count (row_at n).transfer) touch) _ h) e),
)

passes : (b : Budget) → RowsEnd b → (n : ℕ) → n < row_count → T (ends_within b.rows b.accesses n)
passes b h n l = right (list_all (λ k. ltb k row_count) (successors (row_at n).sequencing (row_at n).amic)) _ (h n l)

-- a branch with a link that is taken: init, bcond, bltzal, bltz, branch-e, branch, ifetch-e
seven : (b : Budget) → RowsEnd b → 7 ≤ b.rows
unfolding rows
seven b h =
    let one =
    on b.rows b.accesses 16 260 (passes b h 16 (omega arith)) refl (among 256 4 64 1 (omega arith) 260 refl) in
    let two = on one.0 _ 260 194 one.2 refl (among 192 1 4 2 (omega arith) 194 refl) in
    let three = on two.0 _ 194 192 two.2 refl (0, omega arith, refl) in
    let four = on three.0 _ 192 38 three.2 refl (among 36 1 4 2 (omega arith) 38 refl) in
    let five = on four.0 _ 38 31 four.2 refl (0, omega arith, refl) in
    let six = on five.0 _ 31 15 five.2 refl (0, omega arith, refl) in
    let last : 0 < six.0 = some six.0 _ 15 six.2 in
    omega (arith, one.1, two.1, three.1, four.1, five.1, six.1, last)

-- a load, and the fetch behind it
two_accesses : (b : Budget) → RowsEnd b → 2 ≤ b.accesses
unfolding rows
two_accesses b h =
    let load : 1 ≤ b.accesses = enough b.rows b.accesses 397 (passes b h 397 (omega arith)) in
    let behind = on b.rows b.accesses 397 398 (passes b h 397 (omega arith)) refl (0, omega arith, refl) in
    let fetch : 1 ≤ b.accesses - 1 = enough behind.0 (b.accesses - 1) 398 behind.2 in
    omega (arith, load, fetch)

pub least : IsLeast path_budget
least = record { rows = seven; accesses = two_accesses }
