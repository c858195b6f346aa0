-- What costs made of costs come to over a whole mesh.
use Rattle.std.proofs.Common.{◌≡◌, ℕ, ◌+◌, ◌*◌, ◌^◌, ◌<◌, ◌≤◌, min, true, sym, ap, ◌∙◌, ap₂, mul-add, arith}
use Rattle.arith.specs.Ranges.{sum, sum_over}
use Rattle.arith.proofs.Sums.{sum_same, sum_sum, sum_times, sum_over_same, sum_over_sum, sum_over_times}
use Rattle.mesh.specs.Meshes.{Mesh, faces, used, interior, is_edge_number}
use Rattle.cost.specs.Costs.{Parts, face_cost, edge_cost, face_sum, edge_sum, total, capped, joint, scaled}
use Rattle.cost.specs.Laws.{JointAdds, ScaledMultiplies}

uncapped : (x : ℕ) → x ≤ 2 ^ 48 → capped x ≡ x
uncapped x h = omega arith

-- where each part of K is the sum of two, so is its cost
pub total_adds :
    (K L M : Parts) (m : Mesh) → ((f : ℕ) → f < faces m → face_cost K m f ≡ face_cost L m f + face_cost M m f) →
    ((s : ℕ) → s < used m → is_edge_number m s ≡ true → edge_cost K m s ≡ edge_cost L m s + edge_cost M m s) →
    total K m ≡ total L m + total M m
unfolding total face_sum edge_sum interior
total_adds K L M m faces_add edges_add =
    let F = sum_same (face_cost K m) (λ f. face_cost L m f + face_cost M m f) (faces m) faces_add
    ∙ sum_sum (face_cost L m) (face_cost M m) (faces m) in
    let E = sum_over_same (edge_cost K m) (λ s. edge_cost L m s + edge_cost M m s) (is_edge_number m) (used m) edges_add
    ∙ sum_over_sum (edge_cost L m) (edge_cost M m) (interior m) in
    omega (arith, F, E)

pub joint_adds : JointAdds
joint_adds K L m fits =
    total_adds (joint K L) K L m
    (λ f h. uncapped (face_cost K m f + face_cost L m f) (fits.faces_fit f h))
    (λ s h t. uncapped (edge_cost K m s + edge_cost L m s) (fits.edges_fit s h t))

pub scaled_multiplies : ScaledMultiplies
unfolding total face_sum edge_sum interior
scaled_multiplies w K m low fits =
    let weight : min w 16 ≡ w = omega arith in
    let F = sum_same (face_cost (scaled w K) m) (λ f. w * face_cost K m f) (faces m)
    (λ f h. ap (λ v. capped (v * face_cost K m f)) weight ∙ uncapped (w * face_cost K m f) (fits.faces_fit f h))
    ∙ sum_times w (face_cost K m) (faces m) in
    let E = sum_over_same (edge_cost (scaled w K) m) (λ s. w * edge_cost K m s) (is_edge_number m) (used m)
    (λ s h t. ap (λ v. capped (v * edge_cost K m s)) weight ∙ uncapped (w * edge_cost K m s) (fits.edges_fit s h t))
    ∙ sum_over_times w (edge_cost K m) (interior m) in
    ap₂ (λ x y. x + y) F E ∙ sym (mul-add w (sum (face_cost K m) (faces m)) (sum_over (edge_cost K m) (interior m)))
