-- An add is never refused for want of a face: a sound mesh has one at every point strictly inside.
use Rattle.std.proofs.Common.{◌≡◌, ℕ, Bool, true, false, not, ◌&&◌, ltb, [], ◌∷◌, is_some, Some, None, Option, sym, refl, ap, ◌∙◌, subst, arith}
use Rattle.std.proofs.lemmas.Bool.{both_ways, and_parts, not-false, not-true, ltb-true}
use Rattle.mesh.specs.declared.Vertex.{Vertex}
use Rattle.mesh.specs.declared.Refusal.TheVariants.{Unowned}
use Rattle.mesh.specs.Geometry.{place}
use Rattle.mesh.specs.Meshes.{Mesh, owner}
use Rattle.mesh.specs.Refusals.{number}
use Rattle.mesh.specs.Sound.{is_sound, strictly_inside, is_occupied}
use Rattle.mesh.proofs.Decide.{sound_known}
use Rattle.tiling.specs.Tiles.{OnGround}
use Rattle.tiling.proofs.Tiled.{owner_found}
use Rattle.cost.specs.Costs.{Parts}
use Rattle.worklist.specs.Orders.{Order}
use Rattle.job.specs.declared.Call.TheVariants.{Add}
use Rattle.job.specs.declared.Answer.{Answer}
use Rattle.job.specs.declared.Answer.TheVariants.{Refused}
use Rattle.job.specs.Rule.{State, Rule, Decided, is_full, faults, refusal, first_fault}

-- the last of an add's refusals comes up only if none before it does
last_fault : (a b c d e f : Bool) → first_fault ((4, a) ∷ (2, b) ∷ (5, c) ∷ (6, d) ∷ (7, e) ∷ (8, f) ∷ []) ≡ Some 8 →
    (a ≡ false) × (c ≡ false) × (f ≡ true)
last_fault true b c d e f z = absurd (let n : ◌≡◌ {A = ℕ} 4 8 = cc in omega arith)
last_fault false true c d e f z = absurd (let n : ◌≡◌ {A = ℕ} 2 8 = cc in omega arith)
last_fault false false true d e f z = absurd (let n : ◌≡◌ {A = ℕ} 5 8 = cc in omega arith)
last_fault false false false true e f z = absurd (let n : ◌≡◌ {A = ℕ} 6 8 = cc in omega arith)
last_fault false false false false true f z = absurd (let n : ◌≡◌ {A = ℕ} 7 8 = cc in omega arith)
last_fault false false false false false true z = (refl, refl, refl)
last_fault false false false false false false z = absurd (let n : ◌≡◌ {A = ℕ} 0 1 = cc in omega arith)

-- a point strictly inside lies on no border
on_ground : (m : Mesh) (w : Vertex) → strictly_inside m.header (place w) ≡ true → OnGround m (place w)
on_ground m w e =
    let p = and_parts (ltb 0 w.east && ltb w.east m.header.width && ltb 0 w.north) (ltb w.north m.header.depth) e in
    let q = and_parts (ltb 0 w.east && ltb w.east m.header.width) (ltb 0 w.north) p.0 in
    let r = and_parts (ltb 0 w.east) (ltb w.east m.header.width) q.0 in
    let north = ltb-true w.north m.header.depth p.1 in
    record { west_of_border = ltb-true _ _ r.1; north_of_border = ltb-true _ _ q.1; not_beyond = omega arith }

not_eight : (m : Mesh) (w : Vertex) → refusal m (Add w) ≡ Some 8 → ⊥
unfolding refusal faults
not_eight m w e =
    let k = last_fault (not (is_sound m)) (ltb 32767 w.height) (not (strictly_inside m.header (place w))) (is_occupied m (place w)) (is_full m) (not (is_some (owner m (place w)))) e in
    let o = owner_found m (sound_known m (not-false _ k.0)) (place w) (on_ground m w (not-false _ k.1)) in
    both_ways (is_some (owner m (place w))) (not-true _ k.2) (ap is_some o.1)

module _ (K : Parts) (Q : Order) (lookahead : ℕ) (s u : State) (w : Vertex) where
  by : (o : Option ℕ) → refusal s.mesh (Add w) ≡ o → Decided o K Q lookahead s (Add w) (Refused Unowned) u → ⊥
  by (Some n) e d =
      let r = d.2 in
      let same : Unowned ≡ d.0 = cc in
      not_eight s.mesh w (e ∙ ap Some (sym d.1 ∙ ap number (sym same)))
  by None e d = let a = d.0 in let z : ◌≡◌ {A = ℕ} 0 1 = cc in omega arith

  -- whatever an add answers, it is not that no face owns the point
  pub never_unowned : (a : Answer) → Rule K Q lookahead s (Add w) a u → a ≡ Refused Unowned → ⊥
  never_unowned a r e =
      by (refusal s.mesh (Add w)) refl (subst (λ (x : Answer). Rule K Q lookahead s (Add w) x u) e r).decided
