-- Two half-edges of a sound mesh move to new places, and their twins know it.
use Rattle.std.proofs.Common.{◌≡◌, ℕ, ◌+◌, ◌<◌, ◌≤◌, cond, eqb, ◌≢◌, List, length, sym, refl, ap, ◌∙◌, subst, ⊎_elim, arith}
use Rattle.std.proofs.lemmas.Bool.{cases_eq, eq-eqb, ne_eqb}
use Rattle.mesh.specs.declared.HalfEdge.{HalfEdge}
use Rattle.mesh.specs.Meshes.{Mesh, used, half_at, half, twin_of, no_twin}
use Rattle.mesh.specs.Sound.{Sound}
use Rattle.mesh.specs.Edits.{half_edge, moved}
use Rattle.editing.proofs.Writes.{length_moved, moved_there, moved_else, moved_twin}
use Rattle.editing.proofs.Turns.{used_small, twin_back, twin_not_self}

-- b and c, in use and not twins of one another, move to b' and c' among the six places after those in use
pub record Moves (m : Mesh) (b c b' c' : ℕ) : Type 0 where
  pub room : used m + 6 ≤ length m.half_edges
  pub first : b < used m
  pub second : c < used m
  pub apart : c ≢ b
  pub unpaired : twin_of m b ≢ c
  pub first_new : (used m ≤ b') × (b' < used m + 6)
  pub second_new : (used m ≤ c') × (c' < used m + 6)
  pub apart_new : c' ≢ b'

-- where half-edge i stands after the moves
abbrev pub after_moves : ℕ → ℕ → ℕ → ℕ → ℕ → ℕ
after_moves b c b' c' i = cond (eqb i b) b' (cond (eqb i c) c' i)

abbrev pub two_moved : List HalfEdge → ℕ → ℕ → ℕ → ℕ → List HalfEdge
two_moved hs b c b' c' = moved (moved hs (half_at hs b) b') (half_at hs c) c'

-- h is half-edge i of before, and has the same twin, wherever that stands now
pub record Held (m : Mesh) (to : ℕ → ℕ) (h : HalfEdge) (i : ℕ) : Type 0 where
  pub origin : h.origin ≡ (half m i).origin
  pub pin : h.pin ≡ (half m i).pin
  pub lone : twin_of m i ≡ no_twin → h.twin ≡ no_twin
  pub twin : twin_of m i ≢ no_twin → h.twin ≡ to (twin_of m i)

module _ (m : Mesh) (σ : Sound m) (b c b' c' : ℕ) (μ : Moves m b c b' c') where
  abbrev hs : List HalfEdge
  hs = m.half_edges

  abbrev to : ℕ → ℕ
  to = after_moves b c b' c'

  -- where each half-edge stands
  pub to_first : to b ≡ b'
  to_first = ap (λ x. cond x b' (cond (eqb b c) c' b)) (eq-eqb b b refl)

  pub to_second : to c ≡ c'
  to_second = ap (λ x. cond x b' (cond (eqb c c) c' c)) (ne_eqb c b μ.apart) ∙ ap (λ x. cond x c' c) (eq-eqb c c refl)

  pub to_else : (i : ℕ) → (i ≡ b → ⊥) → (i ≡ c → ⊥) → to i ≡ i
  to_else i p q = ap (λ x. cond x b' (cond (eqb i c) c' i)) (ne_eqb i b p) ∙ ap (λ x. cond x c' i) (ne_eqb i c q)

  -- no twin stands among the new places
  far : (i k : ℕ) → i < used m → used m ≤ k → k < used m + 6 → k ≢ twin_of m i
  far i k h l u e =
      ⊎_elim (λ z. omega (arith, used_small m σ)) (λ z. omega (arith, σ.twins i h z)) (cases_eq (twin_of m i) no_twin)

  -- b and c have no twin in common
  twins_apart : (j : ℕ) → j < used m → j ≡ twin_of m b → j ≡ twin_of m c → ⊥
  twins_apart j h p q = μ.apart (sym (twin_back m σ c j μ.second h (sym q)) ∙ twin_back m σ b j μ.first h (sym p))

  abbrev hs₁ : List HalfEdge
  hs₁ = moved hs (half_at hs b) b'

  abbrev hs₂ : List HalfEdge
  hs₂ = moved hs₁ (half_at hs c) c'

  pub length_two : length hs₂ ≡ length hs
  length_two = length_moved hs₁ (half_at hs c) c' ∙ length_moved hs (half_at hs b) b'

  -- what stands at the new places, at the twins of b and c, and elsewhere
  at_first : half_at hs₂ b' ≡ half_at hs b
  at_first =
      moved_else hs₁ (half_at hs c) c' b' (λ e. μ.apart_new (sym e)) (far c b' μ.second μ.first_new.0 μ.first_new.1)
      ∙ moved_there hs (half_at hs b) b' (omega (arith, μ.room, μ.first_new.1)) (far b b' μ.first μ.first_new.0 μ.first_new.1)

  at_second : half_at hs₂ c' ≡ half_at hs c
  at_second =
      moved_there hs₁ (half_at hs c) c' (omega (arith, μ.room, μ.second_new.1, length_moved hs (half_at hs b) b')) (far c c' μ.second μ.second_new.0 μ.second_new.1)

  still : (j : ℕ) → j < used m → (j ≡ twin_of m b → ⊥) → half_at hs₁ j ≡ half_at hs j
  still j h p = moved_else hs (half_at hs b) b' j (λ e. omega (arith, μ.first_new.0)) p

  at_first_twin : (j : ℕ) → j < used m → j ≡ twin_of m b → half_at hs₂ j ≡ half_edge (half m j).origin b' (half m j).pin
  at_first_twin j h e =
      moved_else hs₁ (half_at hs c) c' j (λ x. omega (arith, μ.second_new.0)) (twins_apart j h e)
      ∙ subst (λ (x : ℕ). half_at hs₁ x ≡ half_edge (half m x).origin b' (half m x).pin) (sym e)
      (moved_twin hs (half_at hs b) b' (omega (arith, μ.room)) (λ z. omega (arith, used_small m σ)) (λ z. omega (arith, μ.first_new.0)))

  at_second_twin : (j : ℕ) → j < used m → j ≡ twin_of m c → half_at hs₂ j ≡ half_edge (half m j).origin c' (half m j).pin
  at_second_twin j h e =
      subst (λ (x : ℕ). half_at hs₂ x ≡ half_edge (half_at hs₁ x).origin c' (half_at hs₁ x).pin) (sym e)
      (moved_twin hs₁ (half_at hs c) c' (omega (arith, μ.room, length_moved hs (half_at hs b) b')) (λ z. omega (arith, used_small m σ)) (λ z. omega (arith, μ.second_new.0)))
      ∙ ap (λ x. half_edge x.origin c' x.pin) (still j h (λ p. twins_apart j h p e))

  at_else : (j : ℕ) → j < used m → (j ≡ twin_of m b → ⊥) → (j ≡ twin_of m c → ⊥) → half_at hs₂ j ≡ half_at hs j
  at_else j h p q = moved_else hs₁ (half_at hs c) c' j (λ e. omega (arith, μ.second_new.0)) q ∙ still j h p

  -- an entry that was not changed, whose twin does not move
  held_same : (h : HalfEdge) (i : ℕ) → h ≡ half m i → (twin_of m i ≡ b → ⊥) → (twin_of m i ≡ c → ⊥) → Held m to h i
  held_same h i e p q = record {
    origin = ap (λ x. x.origin) e;
    pin = ap (λ x. x.pin) e;
    lone = λ l. ap (λ x. x.twin) e ∙ l;
    twin = λ _. ap (λ x. x.twin) e ∙ sym (to_else (twin_of m i) p q);
  }

  -- an entry whose twin x moves to k
  held_linked : (h : HalfEdge) (i x k : ℕ) → i < used m → x < used m → h ≡ half_edge (half m i).origin k (half m i).pin → i ≡ twin_of m x → to x ≡ k → Held m to h i
  held_linked h i x k l u e t z =
      let back = twin_back m σ x i u l (sym t) in
      record {
        origin = ap (λ y. y.origin) e;
        pin = ap (λ y. y.pin) e;
        lone = λ y. absurd (omega (arith, used_small m σ));
        twin = λ _. ap (λ y. y.twin) e ∙ sym (ap to back ∙ z);
      }

  -- each half-edge of before is held at its new place
  pub held_first : Held m to (half_at hs₂ b') b
  held_first = held_same (half_at hs₂ b') b at_first (twin_not_self m σ b μ.first) μ.unpaired

  pub held_second : Held m to (half_at hs₂ c') c
  held_second =
      held_same (half_at hs₂ c') c at_second (λ e. μ.unpaired (twin_back m σ c b μ.second μ.first e)) (twin_not_self m σ c μ.second)

  pub held_else : (i : ℕ) → i < used m → (i ≡ b → ⊥) → (i ≡ c → ⊥) → Held m to (half_at hs₂ i) i
  held_else i h p q =
      ⊎_elim
      (λ e. held_linked (half_at hs₂ i) i b b' h μ.first (at_first_twin i h e) e to_first)
      (λ nb. ⊎_elim
      (λ e. held_linked (half_at hs₂ i) i c c' h μ.second (at_second_twin i h e) e to_second)
      (λ nc. held_same (half_at hs₂ i) i (at_else i h nb nc)
      (λ e. nb (sym (twin_back m σ i b h μ.first e)))
      (λ e. nc (sym (twin_back m σ i c h μ.second e))))
      (cases_eq i (twin_of m c)))
      (cases_eq i (twin_of m b))
