use Rattle.std.proofs.Common.{refl, inl, None}
use Rattle.paths.proofs.Steps.{steps_are_paths_lem}
use Rattle.paths.proofs.Still.{still_keeps}
use Rattle.paths.proofs.path.steps_are_paths.Goals as goal

pub returns : goal.returns
returns c =
    record {
      memory = still_keeps;
      paths = steps_are_paths_lem c.words_stay_words.ensures;
      begins = λ bytes. record { dt = 0; row = 0; flag = None; at = inl refl; is = refl };
    }
