use Rattle.std.proofs.Common.{refl, ◌∙◌}
use Rattle.layers.proofs.Settles.Delay.{settles}
use Rattle.layers.proofs.delay.DelayBus.settle.Goals as goal

pub returns : goal.returns
returns g c =
    let own = c.count_down-own.ensures in
    let below = rw own.below at c.settle-below.ensures in
    rw own.n
    (settles g.B.Bus.means g.B.Bus.steps c.args.q c.keeps.ensures c.asked_is_settled.ensures c.args.self.now
    c.from.result _ _ (c.from.ensures ∙ own.left ∙ rw c.access.ensures refl) below)
