use Rattle.std.proofs.Common.{◌≡◌, ◌/◌, ◌*ℤ◌, ap, ◌∙◌, ap₂, w32, w64, SFits, of_z}
use Rattle.std.proofs.lemmas.Int.{to_z-of_z}
use Rattle.machine.specs.Operation.{residue}
use Rattle.machine.proofs.Integers.{product_fits, residue_64}
use Rattle.machine.proofs.operation.signed_product_high.Goals as goal

pub returns : goal.returns
returns c =
    let sx = c.cast_signed.result in
    let sy = c.cast_signed-2.result in
    let a = c.from.result in
    let b = c.from-2.result in
    let same_a : a ≡ sx = c.from.ensures ∙ to_z-of_z w32 sx (record { sfits = c.cast_signed.type_inv }) in
    let same_b : b ≡ sy = c.from-2.ensures ∙ to_z-of_z w32 sy (record { sfits = c.cast_signed-2.type_inv }) in
    let fits : SFits w64 (sx *ℤ sy) = product_fits sx sy c.cast_signed.type_inv c.cast_signed-2.type_inv in
    let product =
    ap₂ ◌*ℤ◌ (to_z-of_z w64 a (record {
      sfits =
          c.from.type_inv;
    }) ∙ same_a) (to_z-of_z w64 b (record { sfits = c.from-2.type_inv }) ∙ same_b) in
    ap (λ n. n / 4294967296)
    (c.cast_unsigned.ensures
    ∙ simp product (ap (of_z w64) (to_z-of_z w64 (sx *ℤ sy) fits) ∙ residue_64 (sx *ℤ sy) fits)
    ∙ ap₂ (λ u v. residue (u *ℤ v) 18446744073709551616) c.cast_signed.ensures c.cast_signed-2.ensures)
