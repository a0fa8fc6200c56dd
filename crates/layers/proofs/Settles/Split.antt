-- Split waits a request out where the memory that has its address does. Assumes nothing.
use Rattle.std.specs.Prelude.{◌≡◌, true, false, nat_lt, refl}
use Rattle.bus.specs.Meaning.{Keeps, Meaning}
use Rattle.bus.specs.Request.{word_of}
use Rattle.bus.specs.Settle.{AskedIsSettled, Settles}
use Rattle.bus.specs.declared.request.Answer.{Answer}
use Rattle.bus.specs.declared.request.Request.{Request}
use Rattle.bus.specs.declared.settle.Settled.{Settled}
use Rattle.layers.proofs.Settles.Layer.{settles_over}
use Rattle.layers.specs.Split.{SplitSteps, split_means}
use Rattle.layers.specs.declared.split.Split.{Split}

module _ {A B : Type 0} (meansA : A → Meaning) (meansB : B → Meaning) (stepsA : A → Request → Answer → A → Type 0)
    (stepsB : B → Request → Answer → B → Type 0) (keeps : Keeps (split_means meansA meansB) (SplitSteps stepsA stepsB))
    (theorem : AskedIsSettled) (s : Split A B) (q : Request) (r : Settled) where
  -- below the mark the second memory stays as it is
  pub first_settles : (a : A) → nat_lt q.address (word_of s.mark) ≡ true → Settles meansA stepsA s.first q r a
      → Settles (split_means meansA meansB) (SplitSteps stepsA stepsB) s q r
      (record { mark = s.mark; first = a; second = s.second })
  first_settles a e h =
      settles_over stepsA (SplitSteps stepsA stepsB) q q
      (λ x. record { mark = s.mark; first = x; second = s.second })
      (λ x y w k. (refl, rw e (k, refl))) keeps theorem r r.outcome s.first a h (λ x k. k)

  -- from the mark up the first one does
  pub second_settles : (b : B) → nat_lt q.address (word_of s.mark) ≡ false → Settles meansB stepsB s.second q r b
      → Settles (split_means meansA meansB) (SplitSteps stepsA stepsB) s q r
      (record { mark = s.mark; first = s.first; second = b })
  second_settles b e h =
      settles_over stepsB (SplitSteps stepsA stepsB) q q
      (λ x. record { mark = s.mark; first = s.first; second = x })
      (λ x y w k. (refl, rw e (k, refl))) keeps theorem r r.outcome s.second b h (λ x k. k)
