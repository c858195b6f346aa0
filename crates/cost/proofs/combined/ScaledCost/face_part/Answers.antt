use Rattle.std.proofs.Common.{◌*◌, ◌^◌, ◌≤◌, mul-le-mul, arith}
use Rattle.cost.proofs.combined.ScaledCost.face_part.Goals as goal

pub overflow_mul-part : goal.overflow_mul-part
overflow_mul-part g c =
    let small = (g.met.C.Cost.lawful c.args.self.now.cost).lawful_face.face_bounded c.args.face.a c.args.face.b c.args.face.c in
    let weight : c.from.result ≤ 16 = omega (arith, c.from.ensures, c.min.ensures) in
    let part : c.face_part.result ≤ 2 ^ 48 = omega (arith, c.face_part.ensures.value) in
    let product : c.from.result * c.face_part.result ≤ 16 * 2 ^ 48 = mul-le-mul weight part in
    omega arith
