use Rattle.machine.proofs.WordsStayWords.{words_stay_words_lem}
use Rattle.machine.proofs.words.words_stay_words.Goals as goal

pub returns : goal.returns
returns c = words_stay_words_lem
