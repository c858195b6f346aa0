use Rattle.std.proofs.Common.{rules}
use Rattle.std.proofs.lemmas.Int.{to_z-of_z}
use Rattle.arith.proofs.Bound.{fits_product, fits_determinant}
use Rattle.arith.proofs.determinant.Goals as goal

pub overflow_mul-result : goal.overflow_mul-result
overflow_mul-result c =
    let p = c.ranges.p in let q = c.ranges.q in let r = c.ranges.r in let s = c.ranges.s in
    simp to_z-of_z (search (rules, fits_product))

pub overflow_mul-result-2 : goal.overflow_mul-result-2
overflow_mul-result-2 c =
    let p = c.ranges.p in let q = c.ranges.q in let r = c.ranges.r in let s = c.ranges.s in
    simp to_z-of_z (search (rules, fits_product))

pub overflow_sub-result : goal.overflow_sub-result
overflow_sub-result c =
    let p = c.ranges.p in let q = c.ranges.q in let r = c.ranges.r in let s = c.ranges.s in
    simp to_z-of_z (search (rules, fits_product, fits_determinant))

pub returns : goal.returns
returns c =
    let p = c.ranges.p in let q = c.ranges.q in let r = c.ranges.r in let s = c.ranges.s in
    let f = fits_product c.args.p c.args.q c.requires.p c.requires.q in
    let g = fits_product c.args.r c.args.s c.requires.r c.requires.s in
    let h = fits_determinant c.args.p c.args.q c.args.r c.args.s c.requires.p c.requires.q c.requires.r c.requires.s in
    simp to_z-of_z
