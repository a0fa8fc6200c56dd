use Rattle.book.proofs.Fits.{begins_fit, steps_fit}
use Rattle.book.proofs.Longest.{longest}
use Rattle.book.proofs.length.longest_step.Goals as goal

pub returns : goal.returns
returns c = record { begins = begins_fit; words = steps_fit c.words_stay_words.ensures; longest = longest }
