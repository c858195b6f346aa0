-- How many vertices a taken call leaves.
use Rattle.std.proofs.Common.{◌≡◌, ℕ, ◌+◌, ◌<◌, Bool, true, false, cond, not, ◌||◌, leb, List, [], ◌∷◌, length, is_some, Some, None, Option, refl, ap, ◌∙◌, arith}
use Rattle.std.proofs.lemmas.Bool.{both_ways, or_parts, leb-false}
use Rattle.mesh.specs.declared.Plan.{Plan}
use Rattle.mesh.specs.declared.Vertex.{Vertex}
use Rattle.mesh.specs.Geometry.{place}
use Rattle.mesh.specs.Meshes.{Mesh, owner}
use Rattle.mesh.specs.Edits.{laid, added, added_in}
use Rattle.cost.specs.Costs.{Parts}
use Rattle.worklist.specs.Orders.{Order}
use Rattle.job.specs.declared.Call.TheVariants.{Lay, Add}
use Rattle.job.specs.declared.Answer.TheVariants.{Laid, Added}
use Rattle.job.specs.Rule.{State, Rule, Decided, faults, refusal, first_fault}

abbrev Clear : List (ℕ × Bool) → Type 0
Clear [] = Unit {0}
Clear (f ∷ fs) = (f.1 ≡ false) × Clear fs

one_fault : (n : ℕ) (b : Bool) (o : Option ℕ) → cond b (Some n) o ≡ None → (b ≡ false) × (o ≡ None)
one_fault n true o e = let d : ◌≡◌ {A = ℕ} 0 1 = cc in absurd (omega arith)
one_fault n false o e = (refl, e)

-- a taken call has no fault
pub no_faults : (fs : List (ℕ × Bool)) → first_fault fs ≡ None → Clear fs
no_faults [] e = tt
no_faults (f ∷ fs) e = let p = one_fault f.0 f.1 (first_fault fs) e in (p.0, no_faults fs p.1)

owned : (m : Mesh) (w : Vertex) (o : Option ℕ) → not (is_some o) ≡ false → (added_in m w o).header.count ≡ m.header.count + 1
owned m w None e = absurd (both_ways true e refl)
owned m w (Some f) e = refl

module _ (m : Mesh) (w : Vertex) where
  room : refusal m (Add w) ≡ None → ((added m w).header.count ≡ m.header.count + 1) × (m.header.count < 1024)
  unfolding refusal faults added
  room e =
      let c = no_faults (faults m (Add w)) e in
      let full = or_parts (leb 1024 m.header.count || leb (length m.vertices) m.header.count) _ c.1.1.1.1.0 in
      (owned m w (owner m (place w)) c.1.1.1.1.1.0, leb-false _ _ (or_parts (leb 1024 m.header.count) _ full.0).0)

module _ (K : Parts) (Q : Order) (lookahead : ℕ) (s t : State) where
  by_add : (w : Vertex) (v : ℕ) (o : Option ℕ) → refusal s.mesh (Add w) ≡ o → Decided o K Q lookahead s (Add w) (Added v) t →
      (t.mesh.header.count ≡ s.mesh.header.count + 1) × (s.mesh.header.count < 1024)
  by_add w v (Some n) e d = let r = d.2 in let z : ◌≡◌ {A = ℕ} 0 1 = cc in absurd (omega arith)
  by_add w v None e d = let p = room s.mesh w e in (ap (λ (m : Mesh). m.header.count) d.1.0 ∙ p.0, p.1)

  -- a taken add makes one vertex more, and there was room for it
  pub add_count : (w : Vertex) (v : ℕ) → Rule K Q lookahead s (Add w) (Added v) t →
      (t.mesh.header.count ≡ s.mesh.header.count + 1) × (s.mesh.header.count < 1024)
  add_count w v r = by_add w v (refusal s.mesh (Add w)) refl r.decided

  by_lay : (p : Plan) (x : ℕ) (o : Option ℕ) → Decided o K Q lookahead s (Lay p) (Laid x) t → t.mesh.header.count ≡ 4
  unfolding laid
  by_lay p x (Some n) d = let r = d.2 in let z : ◌≡◌ {A = ℕ} 0 1 = cc in absurd (omega arith)
  by_lay p x None d = ap (λ (m : Mesh). m.header.count) d.1.0

  -- a taken lay makes four
  pub lay_count : (p : Plan) (x : ℕ) → Rule K Q lookahead s (Lay p) (Laid x) t → t.mesh.header.count ≡ 4
  lay_count p x r = by_lay p x (refusal s.mesh (Lay p)) r.decided
