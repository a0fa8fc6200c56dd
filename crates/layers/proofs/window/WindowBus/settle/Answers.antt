use Rattle.layers.proofs.Settles.Window.{below_settles, kept_out, let_through, refused}
use Rattle.layers.proofs.window.WindowBus.settle.Goals as goal

pub returns-in-Some : goal.returns-in-Some
returns-in-Some g c =
    let within = let_through _ _ _ c.in-Some.ensures in
    rw c.or.ensures
    (below_settles g.B.Bus.means g.B.Bus.steps c.keeps.ensures c.asked_is_settled.ensures c.args.self.now c.args.q
    _ _ _ within.0 within.1 c.settle-below.ensures)

pub returns-in-None : goal.returns-in-None
returns-in-None g c =
    refused g.B.Bus.means g.B.Bus.steps c.keeps.ensures c.asked_is_settled.ensures c.args.self.now c.args.q
    (kept_out _ _ c.in-None.ensures)
