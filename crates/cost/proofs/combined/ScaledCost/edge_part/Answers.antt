use Rattle.std.proofs.Common.{◌*◌, ◌^◌, ◌≤◌, mul-le-mul, arith}
use Rattle.cost.proofs.combined.ScaledCost.edge_part.Goals as goal

pub overflow_mul-part : goal.overflow_mul-part
overflow_mul-part g c =
    let small = (g.met.C.Cost.lawful c.args.self.now.cost).lawful_edge.edge_bounded c.args.edge.from c.args.edge.to c.args.edge.left c.args.edge.right in
    let weight : c.from.result ≤ 16 = omega (arith, c.from.ensures, c.min.ensures) in
    let part : c.edge_part.result ≤ 2 ^ 48 = omega (arith, c.edge_part.ensures.value) in
    let product : c.from.result * c.edge_part.result ≤ 16 * 2 ^ 48 = mul-le-mul weight part in
    omega arith
