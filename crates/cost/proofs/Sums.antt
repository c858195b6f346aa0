-- How large the sums over a mesh grow.
use Rattle.std.proofs.Common.{ℕ, ◌+◌, ◌*◌, ◌^◌, ◌≤◌, arith}
use Rattle.arith.proofs.Rising.{sum_bounded, sum_over_bounded}
use Rattle.mesh.specs.Meshes.{Mesh, next, previous, used, faces, twin_of, interior, is_edge_number}
use Rattle.mesh.specs.Sound.{Indexed}
use Rattle.cost.specs.Costs.{Parts, LawfulCost, end, face_cost, edge_cost, face_sum, edge_sum, total}

module _ (K : Parts) (lawful : LawfulCost K) (m : Mesh) where
  pub face_cost_bounded : (f : ℕ) → face_cost K m f ≤ 2 ^ 48
  face_cost_bounded f = lawful.lawful_face.face_bounded (end m (3 * f)) (end m (3 * f + 1)) (end m (3 * f + 2))

  pub edge_cost_bounded : (s : ℕ) → edge_cost K m s ≤ 2 ^ 48
  edge_cost_bounded s = lawful.lawful_edge.edge_bounded (end m s) (end m (next s)) (end m (previous s)) (end m (previous (twin_of m s)))

module _ (K : Parts) (lawful : LawfulCost K) (m : Mesh) (h : Indexed m) where
  pub face_sum_bounded : face_sum K m ≤ 2042 * 2 ^ 48
  unfolding face_sum
  face_sum_bounded = omega (arith, h.roomy.few, sum_bounded (face_cost K m) (2 ^ 48) (faces m) (λ f _. face_cost_bounded K lawful m f))

  pub edge_sum_bounded : edge_sum K m ≤ 6126 * 2 ^ 48
  unfolding edge_sum interior
  edge_sum_bounded = omega (arith, h.roomy.few, sum_over_bounded (edge_cost K m) (is_edge_number m) (2 ^ 48) (edge_cost_bounded K lawful m) (used m))

  -- the cost of a mesh fits 61 bits
  pub total_bounded : total K m ≤ 8168 * 2 ^ 48
  unfolding total
  total_bounded = omega (arith, face_sum_bounded, edge_sum_bounded)
