use Rattle.std.proofs.Common.{◌≡◌, ◌+◌, ◌*◌, ◌/◌, ap, ◌∙◌, arith}
use Rattle.cost.specs.Costs.{plan_point, weight, face_height}
use Rattle.cost.specs.Misfits.{weights_add, product_small, height_low}
use Rattle.cost.proofs.corners.Face.height_at.Goals as goal

pub overflow_mul-sum : goal.overflow_mul-sum
overflow_mul-sum c =
    let a = c.args.self.a in let b = c.args.self.b in let d = c.args.self.c in
    let all = weights_add a b d c.args.w c.requires in
    omega (arith, product_small a b d _ _ _ _ c.from.ensures a.low c.weight.ensures (omega arith))

pub overflow_mul-sum-2 : goal.overflow_mul-sum-2
overflow_mul-sum-2 c =
    let a = c.args.self.a in let b = c.args.self.b in let d = c.args.self.c in
    let all = weights_add a b d c.args.w c.requires in
    omega (arith, product_small a b d _ _ _ _ c.from-2.ensures b.low c.weight-2.ensures (omega arith))

pub overflow_add-sum : goal.overflow_add-sum
overflow_add-sum c =
    let a = c.args.self.a in let b = c.args.self.b in let d = c.args.self.c in
    let all = weights_add a b d c.args.w c.requires in
    let p = product_small a b d _ _ _ _ c.from.ensures a.low c.weight.ensures (omega arith) in
    let q = product_small a b d _ _ _ _ c.from-2.ensures b.low c.weight-2.ensures (omega arith) in
    omega (arith, p, q)

pub overflow_mul-sum-3 : goal.overflow_mul-sum-3
overflow_mul-sum-3 c =
    let a = c.args.self.a in let b = c.args.self.b in let d = c.args.self.c in
    let all = weights_add a b d c.args.w c.requires in
    omega (arith, product_small a b d _ _ _ _ c.from-3.ensures d.low c.weight-3.ensures (omega arith))

pub overflow_add-sum-2 : goal.overflow_add-sum-2
overflow_add-sum-2 c =
    let a = c.args.self.a in let b = c.args.self.b in let d = c.args.self.c in
    let all = weights_add a b d c.args.w c.requires in
    let p = product_small a b d _ _ _ _ c.from.ensures a.low c.weight.ensures (omega arith) in
    let q = product_small a b d _ _ _ _ c.from-2.ensures b.low c.weight-2.ensures (omega arith) in
    let r = product_small a b d _ _ _ _ c.from-3.ensures d.low c.weight-3.ensures (omega arith) in
    omega (arith, p, q, r)

whole : (c : goal.After-weight-whole) → c.weight-whole.result ≡ weight c.args.self.a c.args.self.b (plan_point c.args.self.c)
whole c = c.weight-whole.ensures ∙ ap (weight c.args.self.a c.args.self.b) c.point.ensures

pub nonzero_div-result : goal.nonzero_div-result
nonzero_div-result c = omega (arith, whole c, (weights_add c.args.self.a c.args.self.b c.args.self.c c.args.w c.requires).0)

value : (c : goal.After-weight-whole) → (c.from.result * c.weight.result + c.from-2.result * c.weight-2.result + c.from-3.result * c.weight-3.result) / c.weight-whole.result ≡ face_height c.args.self.a c.args.self.b c.args.self.c c.args.w
unfolding face_height
value c = λ i. (c.from.ensures i * c.weight.ensures i + c.from-2.ensures i * c.weight-2.ensures i + c.from-3.ensures i * c.weight-3.ensures i) / whole c i

pub overflow_cast-result : goal.overflow_cast-result
overflow_cast-result c = omega (arith, value c, height_low c.args.self.a c.args.self.b c.args.self.c c.args.w c.requires)

pub returns : goal.returns
returns c = record {
  value = omega (arith, value c);
  low = omega (arith, value c, height_low c.args.self.a c.args.self.b c.args.self.c c.args.w c.requires);
}
