-- What calls of `next` give, of the parts that a slice is split into. Assumes nothing.
use Rattle.std.proofs.Common.{◌≡◌, ◌<◌, Bool, List, [], ◌∷◌, length, map, take, Some, None, Option, Bor, refl, ap, ap₂}
use Rattle.std.proofs.Common.{arith, length-take}
use denote.Param.Members.{Mut}
use Rattle.std.specs.Iterator.{AlwaysYields}
use Rattle.std.specs.Option.{IsSome, some_prefix}
use Rattle.std.specs.Slice.Iter.{split_steps}
use Rattle.std.specs.declared.slice.Split.{Split}

abbrev parts : {A : Type 0} → List (Option (Bor (List A))) → List (List A)
parts rs = map (λ part. part.now) (some_prefix rs)

module _ {A F : Type 0} (g : Mut F (Bor A × Unit {0}) Bool) where
  -- calls from s on, with these results
  abbrev Gives : Split A F → List (Option (Bor (List A))) → Type 0
  Gives s [] = Unit {0}
  Gives s (r ∷ rs) = (t : Split A F) × split_steps g s r t × Gives t rs

  pub parts-gives : (s : Split A F) (rs : List (Option (Bor (List A)))) (ps : List (List A)) → Gives s rs
      → AlwaysYields (split_steps g) (λ part. part.now) s ps → parts rs ≡ take (length rs) ps
  parts-gives s [] ps h y = refl
  parts-gives s (None ∷ rs) [] h y = refl
  parts-gives s (Some x ∷ rs) [] h y = absurd (y x h.0 h.1)
  parts-gives s (None ∷ rs) (p ∷ ps) h y = absurd (y.0 h.0 h.1)
  parts-gives s (Some x ∷ rs) (p ∷ ps) h y = let rest = y.1 x h.0 h.1 in
      ap₂ ◌∷◌ rest.0 (parts-gives h.0 rs ps h.2 rest.1)

pub IsSome-first : {A : Type 0} (r : Option (Bor (List A))) (ps : List (List A)) → 0 < length ps
    → parts (r ∷ []) ≡ take 1 ps → IsSome r
IsSome-first None ps l e = absurd (omega (arith, length-take 1 ps, ap length e))
IsSome-first (Some x) ps l e = refl
