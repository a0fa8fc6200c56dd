-- Bytes that are compared with a text and a rest, part by part. Assumes nothing.
use Rattle.std.proofs.Common.{◌≡◌, ◌≢◌, ℕ, Bool, true, false, IsTrue, eqb, refl, sym, ap, ap₂, ◌∙◌, arith}
use Rattle.std.proofs.Common.{List, [], ◌∷◌, ◌++◌, length, take, drop}
use Rattle.std.specs.Cmp.Lexicographic.{other_text, same_text}
use Rattle.std.proofs.lemmas.Bool.{eqb-false, eqb-true, true≢false}
use Rattle.std.proofs.Math.Seq.{drop-append_seam, take-append_seam}
use Rattle.std.proofs.lemmas.List.{take-append-drop}
use lib.Pointwise.{pointwise}

-- a text that the bytes begin with
pub begun : (text rest bytes after : List ℕ)
    → pointwise eqb (take (length text) bytes) text ≡ true → after ≡ drop (length text) bytes
    → (rest ≡ after → text ++ rest ≡ bytes) × (text ++ rest ≡ bytes → rest ≡ after)
begun text rest bytes after same left =
    let front : text ≡ take (length text) bytes = sym (same_text _ _ (sym same)) in (
      λ e. ap₂ (λ u v. u ++ v) front (e ∙ left) ∙ take-append-drop (length text) bytes,
      λ e. sym (drop-append_seam text rest) ∙ ap (drop (length text)) e ∙ sym left,
    )

-- and one that they do not
pub differs : (text rest bytes : List ℕ) → pointwise eqb (take (length text) bytes) text ≡ false → text ++ rest ≢ bytes
differs text rest bytes other e =
    other_text _ _ (sym other) (ap (take (length text)) (sym e) ∙ take-append_seam text rest)

empty : (xs : List ℕ) → length xs ≡ 0 → [] ≡ xs
empty [] e = refl
empty (x ∷ xs) e = absurd (omega (arith, e))

-- nothing is left exactly where the rest is empty
pub ended : (rest : List ℕ) (b : Bool) → b ≡ eqb (length rest) 0 → (IsTrue b → [] ≡ rest) × ([] ≡ rest → IsTrue b)
ended rest true e = (λ h. empty rest (eqb-true (length rest) 0 (sym e)), λ h. refl)
ended rest false e =
    (λ h. absurd (true≢false (sym h)), λ h. absurd (eqb-false (length rest) 0 (sym e) (ap length (sym h))))
