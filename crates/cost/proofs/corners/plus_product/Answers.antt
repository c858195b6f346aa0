use Rattle.std.proofs.lemmas.Int.{to_z-of_z}
use Rattle.arith.proofs.Bound.{fits_product, fits_sum}
use Rattle.cost.proofs.corners.plus_product.Goals as goal

pub overflow_mul-result : goal.overflow_mul-result
overflow_mul-result c =
    let p = c.ranges.p in let q = c.ranges.q in
    simp to_z-of_z (fits_product c.args.p c.args.q c.requires.p c.requires.q)

pub overflow_add-result : goal.overflow_add-result
overflow_add-result c =
    let s = c.ranges.sum in let p = c.ranges.p in let q = c.ranges.q in
    let f = fits_product c.args.p c.args.q c.requires.p c.requires.q in
    simp to_z-of_z (fits_sum c.args.sum c.args.p c.args.q c.requires.sum c.requires.p c.requires.q)

pub returns : goal.returns
returns c =
    let s = c.ranges.sum in let p = c.ranges.p in let q = c.ranges.q in
    let f = fits_product c.args.p c.args.q c.requires.p c.requires.q in
    let g = fits_sum c.args.sum c.args.p c.args.q c.requires.sum c.requires.p c.requires.q in
    record { value = simp to_z-of_z }
