use Rattle.std.proofs.Common.{w64, SFits, rules}
use Rattle.std.proofs.lemmas.Int.{to_z-of_z}
use Rattle.arith.proofs.Bound.{small_determinant}
use Rattle.cost.proofs.corners.Edge.volume.Goals as goal

pub plus_product-requires : goal.plus_product-requires
plus_product-requires c =
    let f : SFits w64 c.rise.result = search rules in
    let g : SFits w64 c.area.result = search rules in
    let h : SFits w64 c.rise-2.result = search rules in
    let k : SFits w64 c.area-2.result = search rules in
    let m : SFits w64 c.determinant-two.result = search rules in
    let e = simp to_z-of_z at c.determinant-two.ensures in
    let b = small_determinant c.rise.result c.area.result c.rise-2.result c.area-2.result c.rise.ensures.small c.area.ensures.small c.rise-2.ensures.small c.area-2.ensures.small in
    record { sum = simp to_z-of_z (rw e b); p = search rules; q = search rules }
