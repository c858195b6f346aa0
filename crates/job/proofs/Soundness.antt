-- Every call leaves a sound mesh sound, and a lay makes one.
use Rattle.std.proofs.Common.{◌≡◌, ℕ, ◌+◌, true, false, ◌&&◌, ◌||◌, ltb, leb, length, is_some, Some, None, Option, sym, refl, ap, subst, arith}
use Rattle.std.proofs.lemmas.Bool.{both_ways, and_parts, and_from, or_parts, not-false, leb-true, leb-false, ltb-false}
use Rattle.mesh.specs.declared.Plan.{Plan}
use Rattle.mesh.specs.declared.Vertex.{Vertex}
use Rattle.mesh.specs.Geometry.{place}
use Rattle.mesh.specs.Meshes.{Mesh, used, half, owner}
use Rattle.mesh.specs.Sound.{Sound}
use Rattle.mesh.proofs.Decide.{sound_known}
use Rattle.mesh.specs.Edits.{laid, added, added_in}
use Rattle.editing.specs.Flips.{is_interior, is_free, convex, is_flippable, flipped, pinned}
use Rattle.editing.proofs.LaidSound.{lay_makes_sound}
use Rattle.editing.proofs.AddedSound.{add_keeps_sound}
use Rattle.editing.proofs.FlipLaws.{flip_keeps_sound}
use Rattle.editing.proofs.Pins.{pin_keeps_sound}
use Rattle.cost.specs.Costs.{Parts}
use Rattle.worklist.specs.Orders.{Order}
use Rattle.job.specs.declared.Call.{Call}
use Rattle.job.specs.declared.Call.TheVariants.{Lay, Add, Flip, Pin, Unpin}
use Rattle.job.specs.declared.Answer.{Answer}
use Rattle.job.specs.declared.Answer.TheVariants.{Refused, Laid, Added, Flipped, Pinned, Unpinned}
use Rattle.job.specs.Rule.{State, Rule, Decided, Taken, faults, refusal, KeepsSound}
use Rattle.job.proofs.Counts.{no_faults}

some_of : (o : Option ℕ) → is_some o ≡ true → (k : ℕ) × (o ≡ Some k)
some_of (Some k) e = (k, refl)
some_of None e = absurd (both_ways false refl e)

-- what a call that is not refused has to go on
pub lay_found : (m : Mesh) (p : Plan) → refusal m (Lay p) ≡ None → Sound (laid m p)
unfolding refusal faults
lay_found m p e =
    let c = no_faults (faults m (Lay p)) e in
    let high = not-false _ c.1.0 in
    let h₁ = and_parts (leb p.sw 32767 && leb p.se 32767 && leb p.ne 32767) (leb p.nw 32767) high in
    let h₂ = and_parts (leb p.sw 32767 && leb p.se 32767) (leb p.ne 32767) h₁.0 in
    let h₃ = and_parts (leb p.sw 32767) (leb p.se 32767) h₂.0 in
    let long = or_parts (ltb (length m.vertices) 4) (ltb (length m.half_edges) 6) c.1.1.0 in
    lay_makes_sound m p (not-false _ c.0)
    (leb-true p.sw 32767 h₃.0) (leb-true p.se 32767 h₃.1) (leb-true p.ne 32767 h₂.1) (leb-true p.nw 32767 h₁.1)
    (ltb-false _ _ long.0) (ltb-false _ _ long.1)

add_found : (m : Mesh) (w : Vertex) → refusal m (Add w) ≡ None → Sound (added m w)
unfolding refusal faults
add_found m w e =
    let c = no_faults (faults m (Add w)) e in
    let room = or_parts (leb 1024 m.header.count || leb (length m.vertices) m.header.count) (ltb (length m.half_edges) (used m + 6)) c.1.1.1.1.0 in
    let few = or_parts (leb 1024 m.header.count) (leb (length m.vertices) m.header.count) room.0 in
    let f = some_of (owner m (place w)) (not-false _ c.1.1.1.1.1.0) in
    add_keeps_sound m w f.0 (sound_known m (not-false _ c.0)) (ltb-false _ _ c.1.0) (not-false _ c.1.1.0) c.1.1.1.0
    (leb-false _ _ few.0) (leb-false _ _ few.1) (ltb-false _ _ room.1) f.1

-- the mesh is sound, and the edge may be flipped
pub flip_found : (m : Mesh) (s : ℕ) → refusal m (Flip s) ≡ None → Sound m × (is_flippable m s ≡ true)
unfolding refusal faults
flip_found m s e =
    let c = no_faults (faults m (Flip s)) e in (
      sound_known m (not-false _ c.0),
      and_from _ _ (and_from _ _ (not-false (is_interior m s) c.1.0) (not-false (is_free (half m s).pin) c.1.1.0)) (not-false (convex m s) c.1.1.1.0),
    )

pin_found : (m : Mesh) (s : ℕ) → refusal m (Pin s) ≡ None → Sound m × (is_interior m s ≡ true)
unfolding refusal faults
pin_found m s e = let c = no_faults (faults m (Pin s)) e in (sound_known m (not-false _ c.0), not-false (is_interior m s) c.1.0)

unpin_found : (m : Mesh) (s : ℕ) → refusal m (Unpin s) ≡ None → Sound m × (is_interior m s ≡ true)
unfolding refusal faults
unpin_found m s e = let c = no_faults (faults m (Unpin s)) e in (sound_known m (not-false _ c.0), not-false (is_interior m s) c.1.0)

-- what each call has written is sound
pub add_sound : (m : Mesh) (w : Vertex) (f : ℕ) → refusal m (Add w) ≡ None → owner m (place w) ≡ Some f → Sound (added_in m w (Some f))
unfolding added
add_sound m w f e owned = subst (λ (o : Option ℕ). Sound (added_in m w o)) owned (add_found m w e)

pub flip_sound : (m : Mesh) (s : ℕ) → refusal m (Flip s) ≡ None → Sound (flipped m s)
flip_sound m s e = let f = flip_found m s e in flip_keeps_sound m s f.0 f.1

pub unpin_sound : (m : Mesh) (s : ℕ) → refusal m (Unpin s) ≡ None → Sound (pinned 0 m s)
unpin_sound m s e = let f = unpin_found m s e in pin_keeps_sound m s 0 f.0 f.1 (omega arith)

module _ (K : Parts) (Q : Order) (lookahead : ℕ) (s u : State) where
  -- a taken call leaves a sound mesh, whatever it found
  taken_sound : (c : Call) (a : Answer) → refusal s.mesh c ≡ None → Taken K Q lookahead s c a u → Sound u.mesh
  taken_sound (Lay p) a e t = subst Sound (sym t.1.0) (lay_found s.mesh p e)
  taken_sound (Add w) a e t = subst Sound (sym t.1.0) (add_found s.mesh w e)
  taken_sound (Flip k) a e t = subst Sound (sym t.1.0) (flip_sound s.mesh k e)
  taken_sound (Pin k) a e t =
      let f = pin_found s.mesh k e in subst Sound (sym (ap (λ (v : State). v.mesh) t.1)) (pin_keeps_sound s.mesh k 1 f.0 f.1 (omega arith))
  taken_sound (Unpin k) a e t = subst Sound (sym t.1.0) (unpin_sound s.mesh k e)

  by : (o : Option ℕ) (c : Call) (a : Answer) → refusal s.mesh c ≡ o → Decided o K Q lookahead s c a u → KeepsSound s.mesh a u.mesh
  by (Some n) c (Refused r) e d = λ sound. subst (λ (v : State). Sound v.mesh) (sym d.3) sound
  by (Some n) c (Laid x) e d = absurd (let z : ◌≡◌ {A = ℕ} 0 1 = cc d.2 in omega arith)
  by (Some n) c (Added v) e d = absurd (let z : ◌≡◌ {A = ℕ} 0 1 = cc d.2 in omega arith)
  by (Some n) c (Flipped x y) e d = absurd (let z : ◌≡◌ {A = ℕ} 0 1 = cc d.2 in omega arith)
  by (Some n) c (Pinned k) e d = absurd (let z : ◌≡◌ {A = ℕ} 0 1 = cc d.2 in omega arith)
  by (Some n) c (Unpinned k) e d = absurd (let z : ◌≡◌ {A = ℕ} 0 1 = cc d.2 in omega arith)
  by None c (Refused r) e d = λ sound. taken_sound c (Refused r) e d
  by None c (Laid x) e d = taken_sound c (Laid x) e d
  by None c (Added v) e d = taken_sound c (Added v) e d
  by None c (Flipped x y) e d = taken_sound c (Flipped x y) e d
  by None c (Pinned k) e d = taken_sound c (Pinned k) e d
  by None c (Unpinned k) e d = taken_sound c (Unpinned k) e d

  -- the rule keeps meshes sound
  pub keeps_sound : (c : Call) (a : Answer) → Rule K Q lookahead s c a u → KeepsSound s.mesh a u.mesh
  keeps_sound c a r = by (refusal s.mesh c) c a refl r.decided
