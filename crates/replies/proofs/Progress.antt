-- An iterator that shows what is left of it comes nearer to its end. Assumes nothing.
use Rattle.std.proofs.Common.{◌≡◌, List, ◌∷◌, length, Some, None, Option, ap, arith}
use Rattle.std.specs.Iterator.{MakesProgress, YieldsFirst, item_count}

pub progress : {S A : Type 0} (rest : S → List A) (s t : S) (r : Option A) → YieldsFirst rest s r t
    → MakesProgress (λ x. Unit {0}) (item_count rest) s r t
progress rest s t None h = record { on = λ finite. tt; keeps = tt; rests = λ finite. tt }
progress rest s t (Some x) h =
    let fewer : length (rest s) ≡ length (x ∷ rest t) = ap length h in
    record { on = λ finite. (tt, tt, omega (arith, fewer)); keeps = tt; rests = λ finite. tt }
