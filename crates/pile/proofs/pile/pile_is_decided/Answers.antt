use Rattle.pile.proofs.Decided.{decided}
use Rattle.pile.proofs.pile.pile_is_decided.Goals as goal

pub returns : goal.returns
returns c = decided c.keeps.ensures
