-- The rectangle just laid is sound.
use Rattle.std.proofs.Common.{◌≡◌, ℕ, zero, suc, ◌+◌, ◌*◌, ◌<◌, ◌≤◌, Bool, true, false, T, ◌≢◌, ◌↔◌, List, [], ◌∷◌, length, ℤ, pos, ◌*ℤ◌, ◌<ℤ◌, refl, subst, mul-le-mul, arith, lit<, lit≤}
use borrow.Author.Differences.{ints}
use Rattle.std.proofs.lemmas.Bool.{both_ways}
use Rattle.std.proofs.lemmas.Bool.Decides.{nat_tests}
use Rattle.arith.proofs.Ring.{var, con, ◌⊖◌, ◌⊗◌, ring}
use Rattle.mesh.specs.declared.Header.{Header}
use Rattle.mesh.specs.declared.Vertex.{Vertex}
use Rattle.mesh.specs.declared.HalfEdge.{HalfEdge}
use Rattle.mesh.specs.declared.Plan.{Plan}
use Rattle.mesh.specs.Geometry.{point, orientation}
use Rattle.mesh.specs.Meshes.{Mesh, mesh, next, half, vertex, origin_point, twin_of, no_twin}
use Rattle.mesh.specs.Sound.{Sound, extent_fits, along_border}
use Rattle.mesh.proofs.Decide.{extent_known, true_T, T_true}
use Rattle.mesh.specs.Edits.{laid}
use Rattle.editing.specs.AddLaws.{LayMakesSound}

-- ---- the two faces turn

-- twice the area of each face is width by depth
product_positive : (w d : ℕ) → 2 ≤ w → 2 ≤ d → pos 0 <ℤ (pos w *ℤ pos d)
product_positive w d h k = let p : 2 * 2 ≤ w * d = mul-le-mul h k in omega (arith, ints)

first_turns : (w d : ℕ) → 2 ≤ w → 2 ≤ d → pos 0 <ℤ orientation (point 0 0) (point w 0) (point w d)
unfolding orientation
first_turns w d h k =
    let z = con (pos 0) in
    subst (λ (x : ℤ). pos 0 <ℤ x)
    (ring (pos w ∷ pos d ∷ []) (var 0 ⊗ var 1) ((var 0 ⊖ z) ⊗ (var 1 ⊖ z) ⊖ (z ⊖ z) ⊗ (var 0 ⊖ z)) tt)
    (product_positive w d h k)

second_turns : (w d : ℕ) → 2 ≤ w → 2 ≤ d → pos 0 <ℤ orientation (point 0 0) (point w d) (point 0 d)
unfolding orientation
second_turns w d h k =
    let z = con (pos 0) in
    subst (λ (x : ℤ). pos 0 <ℤ x)
    (ring (pos w ∷ pos d ∷ []) (var 0 ⊗ var 1) ((var 0 ⊖ z) ⊗ (var 1 ⊖ z) ⊖ (var 1 ⊖ z) ⊗ (z ⊖ z)) tt)
    (product_positive w d h k)

-- ---- borders

-- a half-edge along a border, and one across the rectangle
along : (t : ℕ) (b : Bool) → t ≡ no_twin → b ≡ true → (t ≡ no_twin) ↔ T b
along t b e f = ((λ _. true_T b f), (λ _. e))

across : (t : ℕ) (b : Bool) → t ≢ no_twin → b ≡ false → (t ≡ no_twin) ↔ T b
across t b e f = ((λ l. absurd (e l)), (λ x. absurd (both_ways b f (T_true b x))))

module _ (p : Plan) (x y z u : Vertex) (vs : List Vertex)
    (a b c d e f : HalfEdge) (rest : List HalfEdge) (h : Header) where
  abbrev m : Mesh
  m = mesh h (x ∷ y ∷ z ∷ u ∷ vs) (a ∷ b ∷ c ∷ d ∷ e ∷ f ∷ rest)

  abbrev l : Mesh
  l = laid m p

  module _ (w : 2 ≤ p.width) (k : 2 ≤ p.depth) where
    borders : (s : ℕ) → s < 6 → (twin_of l s ≡ no_twin) ↔ T (along_border l s)
    unfolding laid next
    borders zero i = along 65535 (along_border l 0) refl (grind (arith, nat_tests))
    borders (suc zero) i = along 65535 (along_border l 1) refl (grind (arith, nat_tests))
    borders (suc (suc zero)) i = across 3 (along_border l 2) (λ q. omega arith) (grind (arith, nat_tests))
    borders (suc (suc (suc zero))) i = across 2 (along_border l 3) (λ q. omega arith) (grind (arith, nat_tests))
    borders (suc (suc (suc (suc zero)))) i = along 65535 (along_border l 4) refl (grind (arith, nat_tests))
    borders (suc (suc (suc (suc (suc zero))))) i = along 65535 (along_border l 5) refl (grind (arith, nat_tests))
    borders (suc (suc (suc (suc (suc (suc s)))))) i = absurd (omega arith)

  -- the facts of soundness at half-edge s that do not depend on the plan
  record Right (s : ℕ) : Type 0 where
    origin : (half l s).origin < 4
    pin : (half l s).pin ≡ 0
    twin : twin_of l s ≢ no_twin → twin_of l s < 6
    paired : twin_of l s ≢ no_twin → twin_of l (twin_of l s) ≡ s
    opposite : twin_of l s ≢ no_twin → ((half l (twin_of l s)).origin ≡ (half l (next s)).origin) × ((half l (next (twin_of l s))).origin ≡ (half l s).origin)
    agree : twin_of l s ≢ no_twin → (half l (twin_of l s)).pin ≡ (half l s).pin

  lone_right : (s : ℕ) → (half l s).origin < 4 → (half l s).pin ≡ 0 → twin_of l s ≡ no_twin → Right s
  lone_right s o p e = record { origin = o; pin = p; twin = λ n. absurd (n e); paired = λ n. absurd (n e); opposite = λ n. absurd (n e); agree = λ n. absurd (n e) }

  right : (s : ℕ) → s < 6 → Right s
  unfolding laid next
  right zero i = lone_right 0 (lit< tt) refl refl
  right (suc zero) i = lone_right 1 (lit< tt) refl refl
  right (suc (suc zero)) i = record { origin = lit< tt; pin = refl; twin = λ n. lit< tt; paired = λ n. refl; opposite = λ n. (refl, refl); agree = λ n. refl }
  right (suc (suc (suc zero))) i = record { origin = lit< tt; pin = refl; twin = λ n. lit< tt; paired = λ n. refl; opposite = λ n. (refl, refl); agree = λ n. refl }
  right (suc (suc (suc (suc zero)))) i = lone_right 4 (lit< tt) refl refl
  right (suc (suc (suc (suc (suc zero))))) i = lone_right 5 (lit< tt) refl refl
  right (suc (suc (suc (suc (suc (suc s)))))) i = absurd (omega arith)

  -- both faces turn
  turning : (g : ℕ) → g < 2 → 2 ≤ p.width → 2 ≤ p.depth →
      pos 0 <ℤ orientation (origin_point l (3 * g)) (origin_point l (3 * g + 1)) (origin_point l (3 * g + 2))
  unfolding laid
  turning zero i w k = first_turns p.width p.depth w k
  turning (suc zero) i w k = second_turns p.width p.depth w k
  turning (suc (suc g)) i w k = absurd (omega arith)

  -- no corner is too high
  low : p.sw ≤ 32767 → p.se ≤ 32767 → p.ne ≤ 32767 → p.nw ≤ 32767 → (v : ℕ) → v < 4 → (vertex l v).height ≤ 32767
  unfolding laid
  low q r s t zero i = q
  low q r s t (suc zero) i = r
  low q r s t (suc (suc zero)) i = s
  low q r s t (suc (suc (suc zero))) i = t
  low q r s t (suc (suc (suc (suc v)))) i = absurd (omega arith)

  laid_right : extent_fits p.width p.depth ≡ true → p.sw ≤ 32767 → p.se ≤ 32767 → p.ne ≤ 32767 → p.nw ≤ 32767 → Sound l
  unfolding laid next
  laid_right fits q r s t =
      let k = extent_known p.width p.depth fits in
      record {
        width = k.0;
        depth = k.1;
        count = (lit≤ tt, lit≤ tt);
        vertices_fit = omega arith;
        half_edges_fit = omega arith;
        southwest = (refl, refl);
        southeast = (refl, refl);
        northeast = (refl, refl);
        northwest = (refl, refl);
        inside = λ v i j. absurd (omega arith);
        heights = low q r s t;
        origins = λ s i. (right s i).origin;
        twins = λ s i. (right s i).twin;
        pins = λ s i. omega (arith, (right s i).pin);
        faces_turn = λ g i. turning g i k.0.0 k.1.0;
        paired = λ s i. (right s i).paired;
        opposite = λ s i. (right s i).opposite;
        pins_agree = λ s i. (right s i).agree;
        border = borders k.0.0 k.1.0;
        border_unpinned = λ s i lone. (right s i).pin;
        four = refl;
      }

-- lists that are long enough have their first entries
module _ (h : Header) (p : Plan) (fits : extent_fits p.width p.depth ≡ true)
    (sw : p.sw ≤ 32767) (se : p.se ≤ 32767) (ne : p.ne ≤ 32767) (nw : p.nw ≤ 32767) where
  six : (x y z u : Vertex) (vs : List Vertex) (hs : List HalfEdge) → 6 ≤ length hs → Sound (laid (mesh h (x ∷ y ∷ z ∷ u ∷ vs) hs) p)
  six x y z u vs [] l = absurd (omega arith)
  six x y z u vs (a ∷ []) l = absurd (omega arith)
  six x y z u vs (a ∷ b ∷ []) l = absurd (omega arith)
  six x y z u vs (a ∷ b ∷ c ∷ []) l = absurd (omega arith)
  six x y z u vs (a ∷ b ∷ c ∷ d ∷ []) l = absurd (omega arith)
  six x y z u vs (a ∷ b ∷ c ∷ d ∷ e ∷ []) l = absurd (omega arith)
  six x y z u vs (a ∷ b ∷ c ∷ d ∷ e ∷ f ∷ rest) l = laid_right p x y z u vs a b c d e f rest h fits sw se ne nw

  four_and_six : (vs : List Vertex) (hs : List HalfEdge) → 4 ≤ length vs → 6 ≤ length hs → Sound (laid (mesh h vs hs) p)
  four_and_six [] hs k l = absurd (omega arith)
  four_and_six (x ∷ []) hs k l = absurd (omega arith)
  four_and_six (x ∷ y ∷ []) hs k l = absurd (omega arith)
  four_and_six (x ∷ y ∷ z ∷ []) hs k l = absurd (omega arith)
  four_and_six (x ∷ y ∷ z ∷ u ∷ vs) hs k l = six x y z u vs hs l

-- what is laid is sound
pub lay_makes_sound : LayMakesSound
lay_makes_sound m p fits sw se ne nw v h = four_and_six m.header p fits sw se ne nw m.vertices m.half_edges v h
