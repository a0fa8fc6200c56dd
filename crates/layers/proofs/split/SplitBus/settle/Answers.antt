use Rattle.layers.proofs.Settles.Split.{first_settles, second_settles}
use Rattle.layers.proofs.split.SplitBus.settle.Goals as goal

pub returns-then-is_first : goal.returns-then-is_first
returns-then-is_first g c =
    first_settles g.A.Bus.means g.B.Bus.means g.A.Bus.steps g.B.Bus.steps c.keeps.ensures c.asked_is_settled.ensures
    c.args.self.now c.args.q _ _ (cc) c.settle.ensures

pub returns-else-is_first : goal.returns-else-is_first
returns-else-is_first g c =
    second_settles g.A.Bus.means g.B.Bus.means g.A.Bus.steps g.B.Bus.steps c.keeps.ensures c.asked_is_settled.ensures
    c.args.self.now c.args.q _ _ (cc) c.settle-else-is_first.ensures
