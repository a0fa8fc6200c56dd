-- What `{:0wX}` writes. Assumes nothing.
use Rattle.std.proofs.Common.{◌≡◌, ℕ, ◌-◌, ◌^◌, true, false, Some, Result, option_map, subst, ap, ◌∙◌, ap₂, arith}
use Rattle.std.proofs.Common.{List, [], ◌++◌, length, replicate}
use Rattle.std.proofs.lemmas.List.{append-nil}
use Rattle.std.specs.Fmt as fmt
use Rattle.std.specs.declared.fmt.Error.{Error}
use Rattle.std.specs.declared.fmt.Formatter.{Formatter}
use Rattle.runcore.specs.Transcript.{hexadecimal}

-- under `0` a number is filled up with zeros
zeros_before : (w : ℕ) (ds : List ℕ)
    → fmt.padded_integral (fmt.format_spec 32 0 4 w (2 ^ 64 - 1)) false [] ds ≡ replicate (w - length ds) 48 ++ ds
unfolding fmt.padded_integral fmt.char_count
zeros_before w ds =
    let same : w - length ds - 0 - 0 ≡ w - length ds = omega arith in
    ap₂ (λ j xs. replicate j 48 ++ xs) same (append-nil ds)

-- a text that is nothing but a hole `{:0wX}`
pub writes : {W : Type 0} (took : W → List ℕ → W → Type 0)
    (f : Formatter W) (r : Result (Unit {0}) Error) (g : Formatter W) (w n : ℕ) (d : _) (s : _)
    → fmt.digits_output d ≡ Some (fmt.digits 16 true n) → s ≡ fmt.format_spec 32 0 4 w (2 ^ 64 - 1)
    → fmt.DisplaysOnOk took f r (fmt.styled_digits_output d s) g → fmt.WritesOnOk took f r (hexadecimal w n) g
writes took f r g w n d s e same h =
    subst (λ o. fmt.DisplaysOnOk took f r o g)
    (ap (λ s. fmt.styled_digits_output d s) same
    ∙ ap (option_map (fmt.padded_integral (fmt.format_spec 32 0 4 w (2 ^ 64 - 1)) false [])) e
    ∙ ap Some (zeros_before w (fmt.digits 16 true n)))
    h
