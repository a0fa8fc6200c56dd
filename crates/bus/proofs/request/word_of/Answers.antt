use Rattle.std.proofs.Common.{arith}
use Rattle.std.proofs.lemmas.Nat.Bits.{and_high_mask}
use Rattle.bus.proofs.request.word_of.Goals as goal

pub returns : goal.returns
returns c = omega (arith, and_high_mask 32 2 (omega arith) c.args.address c.ranges.address.fits)
