use Rattle.std.proofs.Common.{◌*◌, ◌≤◌, ◌∙◌, ap₂, mul-le-mul, arith}
use Rattle.cost.proofs.length.square_gap.Goals as goal

pub returns : goal.returns
returns c =
    let gap = c.from-gap.ensures ∙ c.abs_diff.ensures in
    let low : c.from-gap.result ≤ 32767 = omega (arith, c.requires.x, c.requires.y) in
    record { value = ap₂ (λ x y. x * y) gap gap; small = mul-le-mul low low }
