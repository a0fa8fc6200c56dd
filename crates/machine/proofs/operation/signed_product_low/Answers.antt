use Rattle.std.proofs.Common.{◌*◌, ◌%◌, ◌^◌, ◌<◌, ◌∙◌, arith, w32}
use Rattle.std.proofs.lemmas.Int.{of_z-to_z}
use Rattle.machine.proofs.Integers.{product_low}
use Rattle.machine.proofs.operation.signed_product_low.Goals as goal

pub returns : goal.returns
returns c =
    let p : c.args.x < 2 ^ 32 = c.ranges.x.fits in
    let q : c.args.y < 2 ^ 32 = c.ranges.y.fits in
    let below : (c.args.x * c.args.y) % 2 ^ 32 < 2 ^ 32 = omega arith in
    c.cast_unsigned.ensures
    ∙ simp (c.cast_signed.ensures, c.cast_signed-2.ensures)
    (simp (of_z-to_z w32 c.args.x p, of_z-to_z w32 c.args.y q)
    (of_z-to_z w32 ((c.args.x * c.args.y) % 2 ^ 32) below ∙ product_low c.args.x c.args.y p q))
