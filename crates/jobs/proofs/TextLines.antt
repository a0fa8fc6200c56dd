-- Lines, cut off one by one. Assumes nothing.
use Rattle.std.proofs.Common.{◌≡◌, ℕ, zero, suc, ◌+◌, ◌-◌, ◌<◌, ◌≤◌, min, Bool, true, false, cond, eqb, List, [], ◌∷◌}
use Rattle.std.proofs.Common.{◌++◌, length, take, drop, Some, None, Option, Bor, sym, ap, ap₂, ◌∙◌, subst, arith}
use Rattle.std.specs.Cmp.Lexicographic.{other_text, same_text}
use Rattle.std.specs.List.{IsFirstMatchOrLen, between}
use Rattle.std.specs.Option.{MatchOption, unwrap_or}
use Rattle.std.proofs.lemmas.Bool.{cond-false, cond-true, eq-eqb, ne_eqb}
use Rattle.std.proofs.Math.Seq.{drop-append_seam}
use Rattle.std.proofs.lemmas.Slice.{between_to_end}
use Rattle.jobs.specs.Job.{with_first_byte, text_lines_of}
use lib.Pointwise.{pointwise}

-- a line without the byte that may end it
abbrev plain : List ℕ → List ℕ
plain [] = []
plain (b ∷ []) = cond (eqb b 10) [] (b ∷ [])
plain (b ∷ c ∷ cs) = b ∷ plain (c ∷ cs)

plain_ended : (n : ℕ) (xs : List ℕ) → length xs ≡ suc n → drop n xs ≡ 10 ∷ [] → plain xs ≡ take n xs
plain_ended n [] e h = absurd (omega arith)
plain_ended zero (b ∷ []) e h = let ten : b ≡ 10 = cc in cond-true _ _ _ (eq-eqb b 10 ten)
plain_ended (suc n) (b ∷ []) e h = absurd (omega arith)
plain_ended zero (b ∷ c ∷ cs) e h = absurd (omega arith)
plain_ended (suc n) (b ∷ c ∷ cs) e h = ap (λ ys. b ∷ ys) (plain_ended n (c ∷ cs) (omega arith) h)

plain_open : (n : ℕ) (xs : List ℕ) → length xs ≡ suc n → (drop n xs ≡ 10 ∷ [] → ⊥) → plain xs ≡ xs
plain_open n [] e h = absurd (omega arith)
plain_open zero (b ∷ []) e h = cond-false _ _ _ (ne_eqb b 10 (λ ten. h (ap (λ x. x ∷ []) ten)))
plain_open (suc n) (b ∷ []) e h = absurd (omega arith)
plain_open zero (b ∷ c ∷ cs) e h = absurd (omega arith)
plain_open (suc n) (b ∷ c ∷ cs) e h = ap (λ ys. b ∷ ys) (plain_open n (c ∷ cs) (omega arith) h)

-- what is stripped of the byte 0A
stripped : (n : ℕ) (x : Bor (List ℕ)) (r : Option (Bor (List ℕ))) → length x.now ≡ suc n
    → MatchOption r (pointwise eqb (drop n x.now) (10 ∷ []) ≡ false)
    (λ y. (pointwise eqb (drop n x.now) (10 ∷ []) ≡ true) × (y.now ≡ take n x.now)
    × (length y.now + 1 ≡ length x.now))
    → (unwrap_or r x).now ≡ plain x.now
stripped n x None e h = sym (plain_open n x.now e (other_text _ _ (sym h)))
stripped n x (Some y) e h = h.1 ∙ sym (plain_ended n x.now e (same_text _ _ (sym h.0)))

-- a part up to a byte 0A, or to the end
part : (xs rest : List ℕ) (i : ℕ) → 0 < length xs → length xs ≡ min (i + 1) (length (xs ++ rest))
    → IsFirstMatchOrLen (λ b. eqb b 10) (xs ++ rest) i
    → text_lines_of (xs ++ rest) ≡ plain xs ∷ text_lines_of rest
part [] rest i some e h = absurd (omega arith)
part (b ∷ []) rest zero some e h =
    let ten : eqb b 10 ≡ true = h.1 (omega arith) 0 in
    cond-true _ _ _ ten ∙ ap (λ l. l ∷ text_lines_of rest) (sym (cond-true _ _ _ ten))
part (b ∷ []) [] (suc i) some e h =
    let other : eqb b 10 ≡ false = h.0 0 0 (omega arith) (omega arith) in
    cond-false _ _ _ other ∙ ap (λ l. l ∷ []) (sym (cond-false _ _ _ other))
part (b ∷ []) (r ∷ rs) (suc i) some e h = absurd (omega arith)
part (b ∷ c ∷ cs) rest zero some e h = absurd (omega arith)
part (b ∷ c ∷ cs) rest (suc i) some e h =
    let other : eqb b 10 ≡ false = h.0 0 0 (omega arith) (omega arith) in
    let more =
    part (c ∷ cs) rest i (omega arith) (omega arith)
    ((λ k d low high. h.0 (suc k) d (omega arith) (omega arith)), (λ below d. h.1 (omega arith) d)) in
    cond-false _ _ _ other ∙ ap (with_first_byte b) more

-- the first part of a job, stripped, is its first line; those of what follows it come next
pub next_line : (bs parts rest : List ℕ) (x line : Bor (List ℕ)) (r : Option (Bor (List ℕ))) (i : ℕ)
    → parts ≡ bs → parts ≡ x.now ++ rest → 0 < length parts → length x.now ≡ min (i + 1) (length parts)
    → IsFirstMatchOrLen (λ b. eqb b 10) parts i
    → MatchOption r (pointwise eqb (drop (length x.now - 1) x.now) (10 ∷ []) ≡ false)
    (λ y. (pointwise eqb (drop (length x.now - 1) x.now) (10 ∷ []) ≡ true)
    × (y.now ≡ take (length x.now - 1) x.now) × (length y.now + 1 ≡ length x.now))
    → line ≡ unwrap_or r x → text_lines_of bs ≡ line.now ∷ text_lines_of (between (length x.now) (length bs) bs)
next_line bs parts rest x line r i same whole some e first h is =
    let here : text_lines_of (x.now ++ rest) ≡ plain x.now ∷ text_lines_of rest =
    part x.now rest i (omega arith) (e ∙ ap (λ ys. min (i + 1) (length ys)) whole)
    (subst (λ ys. IsFirstMatchOrLen (λ b. eqb b 10) ys i) whole first) in
    let after : between (length x.now) (length bs) bs ≡ rest =
    between_to_end bs (length x.now) (length bs) (omega arith) ∙ ap (drop (length x.now)) (sym same ∙ whole)
    ∙ drop-append_seam x.now rest in
    ap text_lines_of (sym same ∙ whole) ∙ here
    ∙ ap₂ (λ l ys. l ∷ text_lines_of ys)
    (sym (ap (λ y. y.now) is ∙ stripped (length x.now - 1) x r (omega arith) h)) (sym after)

-- no more lines than bytes
pub lines_few : (bs : List ℕ) → length (text_lines_of bs) ≤ length bs
lines_few [] = omega arith
lines_few (b ∷ bs) = by (eqb b 10) (text_lines_of bs) (lines_few bs)
  where
    by : (t : Bool) (ls : List (List ℕ)) → length ls ≤ length bs
        → length (cond t ([] ∷ ls) (with_first_byte b ls)) ≤ length (b ∷ bs)
    by true ls h = omega arith
    by false [] h = omega arith
    by false (l ∷ ls) h = omega arith
