-- The two faces at an interior edge of a sound mesh: their six half-edges differ, and the twins of the outer four lie elsewhere.
use Rattle.std.proofs.Common.{◌≡◌, ℕ, ◌<◌, ◌≢◌, [], ◌∷◌, pos, ◌-ℤ◌, sym, refl, ap, ◌∙◌, subst, arith}
use borrow.Author.Differences.{ints}
use Rattle.std.proofs.lemmas.Bool.Decides.{nat_tests}
use Rattle.arith.proofs.Ring.{con, ◌⊖◌, ring}
use Rattle.mesh.specs.declared.Point.{Point}
use Rattle.mesh.specs.Geometry.{orientation, place}
use Rattle.mesh.specs.Meshes.{Mesh, next, previous, no_twin, used, half, vertex, origin_point, twin_of}
use Rattle.mesh.specs.Sound.{Sound}
use Rattle.mesh.proofs.Orientations.{coordinates, o, flat}
use Rattle.mesh.proofs.Rings.{next_previous, previous_next, next_thrice, next_used, previous_used}
use Rattle.editing.proofs.Relabelling.{Different, Off}
use Rattle.editing.proofs.Turns.{Turns, turns}

-- ---- round a face

pub next_next : (s : ℕ) → next (next s) ≡ previous s
next_next s = sym (previous_next (next (next s))) ∙ ap previous (next_thrice s)

pub previous_previous : (s : ℕ) → previous (previous s) ≡ next s
previous_previous s = ap previous (sym (next_next s)) ∙ previous_next (next s)

pub next_apart : (s : ℕ) → next s ≢ s
unfolding next
next_apart s e = grind (arith, nat_tests)

pub previous_apart : (s : ℕ) → previous s ≢ s
previous_apart s e = next_apart s (sym (ap next e) ∙ next_previous s)

pub next_not_previous : (s : ℕ) → next s ≢ previous s
next_not_previous s e = previous_apart s (sym (next_next s) ∙ ap next e ∙ next_previous s)

-- ---- orientations

reversed : (a b c : Point) → orientation b a c ≡ pos 0 -ℤ orientation a b c
unfolding orientation
reversed a b c = ring (coordinates (a ∷ b ∷ c ∷ [])) (o 1 0 2) (con (pos 0) ⊖ o 0 1 2) tt

-- ---- twins

-- s and t are twins in use
pub record Edge (m : Mesh) (s t : ℕ) : Type 0 where
  pub here : s < used m
  pub there : t < used m
  pub is : twin_of m s ≡ t
  pub back : twin_of m t ≡ s
  pub head : (half m t).origin ≡ (half m (next s)).origin
  pub tail : (half m (next t)).origin ≡ (half m s).origin
  pub pins : (half m t).pin ≡ (half m s).pin

pub edge_swapped : (m : Mesh) (s t : ℕ) → Edge m s t → Edge m t s
edge_swapped m s t ε = record {
  here = ε.there;
  there = ε.here;
  is = ε.back;
  back = ε.is;
  head = sym ε.tail;
  tail = sym ε.head;
  pins = sym ε.pins;
}

-- j is none of the six half-edges of the faces of s and t
pub record Outside (s t j : ℕ) : Type 0 where
  pub not_s : j ≢ s
  pub not_t : j ≢ t
  pub off : Off (next s) (previous t) (next t) (previous s) j

pub outside_swapped : (s t j : ℕ) → Outside t s j → Outside s t j
outside_swapped s t j x = record {
  not_s = x.not_t;
  not_t = x.not_s;
  off = record { off_a = x.off.off_c; off_b = x.off.off_d; off_c = x.off.off_a; off_d = x.off.off_b };
}

-- the six half-edges at an edge are clear of one another, and of the twins of the outer four
-- the other half-edges of its face are none of the six either
pub outside_next : (s t x : ℕ) → Outside s t x → Outside s t (next x)
outside_next s t x o =
    let back : (y z : ℕ) → previous y ≡ z → x ≢ z → next x ≢ y = λ y z e ne n. ne (sym (previous_next x) ∙ ap previous n ∙ e) in
    record {
      not_s = back s (previous s) refl o.off.off_d;
      not_t = back t (previous t) refl o.off.off_b;
      off = record {
        off_a = back (next s) s (previous_next s) o.not_s;
        off_b = back (previous t) (next t) (previous_previous t) o.off.off_c;
        off_c = back (next t) t (previous_next t) o.not_t;
        off_d = back (previous s) (next s) (previous_previous s) o.off.off_a;
      };
    }

pub outside_previous : (s t x : ℕ) → Outside s t x → Outside s t (previous x)
outside_previous s t x o = subst (Outside s t) (next_next x) (outside_next s t (next x) (outside_next s t x o))

pub record Clear (m : Mesh) (s t : ℕ) : Type 0 where
  pub apart : s ≢ t
  pub different : Different (next s) (previous t) (next t) (previous s)
  pub s_off : Off (next s) (previous t) (next t) (previous s) s
  pub t_off : Off (next s) (previous t) (next t) (previous s) t
  -- the twins of the outer four
  pub a_far : Outside s t (twin_of m (next s))
  pub b_far : Outside s t (twin_of m (previous t))
  pub c_far : Outside s t (twin_of m (next t))
  pub d_far : Outside s t (twin_of m (previous s))

module _ (m : Mesh) (σ : Sound m) where
  abbrev origin : ℕ → ℕ
  origin i = (half m i).origin

  -- no half-edge in use has the number that stands for none
  pub not_none : (i : ℕ) → i < used m → i ≢ no_twin
  not_none i l e = omega (arith, σ.count.1)

  pub edge_of : (s t : ℕ) → s < used m → t < used m → twin_of m s ≡ t → Edge m s t
  edge_of s t l l' e =
      let has : twin_of m s ≢ no_twin = λ z. not_none t l' (sym e ∙ z) in
      let k = σ.opposite s l has in
      record {
        here = l;
        there = l';
        is = e;
        back = sym (ap (twin_of m) e) ∙ σ.paired s l has;
        head = sym (ap origin e) ∙ k.0;
        tail = sym (ap (λ x. origin (next x)) e) ∙ k.1;
        pins = sym (ap (λ x. (half m x).pin) e) ∙ σ.pins_agree s l has;
      }

  pub turns_at : (i : ℕ) → i < used m → Turns m i
  turns_at i l = turns m σ i l

  -- the ends of a half-edge are two vertices
  ends_apart : (i : ℕ) → i < used m → origin i ≢ origin (next i)
  ends_apart i l e =
      let h = turns_at i l in
      let c = origin_point m (next (next i)) in
      let z : orientation (origin_point m i) (origin_point m (next i)) c ≡ pos 0 =
      ap (λ v. orientation (place (vertex m v)) (origin_point m (next i)) c) e ∙ flat (origin_point m (next i)) c in
      omega (arith, ints)

  module _ (s t : ℕ) (ε : Edge m s t) where
    next_in_use : next s < used m
    next_in_use = next_used m s ε.here

    -- the vertices of the face of s
    pq : origin s ≢ origin (next s)
    pq = ends_apart s ε.here

    qr : origin (next s) ≢ origin (previous s)
    qr e = ends_apart (next s) next_in_use (e ∙ sym (ap origin (next_next s)))

    rp : origin (previous s) ≢ origin s
    rp e = ends_apart (previous s) (previous_used m s ε.here) (e ∙ sym (ap origin (next_previous s)))

    -- the third vertices of the two faces differ, since the faces lie on two sides of the edge
    third_apart : origin (previous s) ≢ origin (previous t)
    third_apart e =
        let h = turns_at s ε.here in
        let k = turns_at t ε.there in
        let at : ℕ → Point = λ v. place (vertex m v) in
        let p = at (origin s) in
        let q = at (origin (next s)) in
        let r = at (origin (next (next s))) in
        let same : orientation (at (origin t)) (at (origin (next t))) (at (origin (next (next t)))) ≡ orientation q p r =
        ap (λ v. orientation (at v) (at (origin (next t))) (at (origin (next (next t))))) ε.head
        ∙ ap (λ v. orientation q (at v) (at (origin (next (next t))))) ε.tail
        ∙ ap (λ v. orientation q p (at v)) (ap origin (next_next t) ∙ sym e ∙ sym (ap origin (next_next s))) in
        let turned = reversed p q r in
        omega (arith, ints)

    not_self : t ≢ s
    not_self z = pq (sym (ap origin z) ∙ ε.head)

    not_next : t ≢ next s
    not_next z = rp (sym (ap origin (next_next s)) ∙ sym (ap (λ x. origin (next x)) z) ∙ ε.tail)

    not_previous : t ≢ previous s
    not_previous z = qr (sym ε.head ∙ ap origin z)

    far_next : Outside s t (twin_of m (next s))
    far_next =
        let k : (y : ℕ) → y < used m → twin_of m (next s) ≡ y → Edge m (next s) y = λ y l z. edge_of (next s) y next_in_use l z in
        let third = ap origin (next_next s) in
        record {
          not_s = λ z. rp (sym ((k s ε.here z).head ∙ third));
          not_t = λ z. pq (sym ε.tail ∙ (k t ε.there z).tail);
          off = record {
            off_a = λ z. qr ((k (next s) next_in_use z).head ∙ third);
            off_b = λ z. third_apart (sym ((k (previous t) (previous_used m t ε.there) z).head ∙ third));
            off_c = λ z. rp (sym (sym ε.tail ∙ (k (next t) (next_used m t ε.there) z).head ∙ third));
            off_d = λ z. pq (sym (ap origin (next_previous s)) ∙ (k (previous s) (previous_used m s ε.here) z).tail);
          };
        }

    far_previous : Outside s t (twin_of m (previous s))
    far_previous =
        let l = previous_used m s ε.here in
        let k : (y : ℕ) → y < used m → twin_of m (previous s) ≡ y → Edge m (previous s) y = λ y l' z. edge_of (previous s) y l l' z in
        let second = ap origin (next_previous s) in
        record {
          not_s = λ z. qr (k s ε.here z).tail;
          not_t = λ z. pq (sym ((k t ε.there z).head ∙ second) ∙ ε.head);
          off = record {
            off_a = λ z. pq (sym ((k (next s) next_in_use z).head ∙ second));
            off_b = λ z. qr (sym ε.head ∙ sym (ap origin (next_previous t)) ∙ (k (previous t) (previous_used m t ε.there) z).tail);
            off_c = λ z. third_apart (sym (k (next t) (next_used m t ε.there) z).tail ∙ ap origin (next_next t));
            off_d = λ z. rp ((k (previous s) l z).head ∙ second);
          };
        }

  pub clear : (s t : ℕ) → Edge m s t → Clear m s t
  clear s t ε =
      let η = edge_swapped m s t ε in
      record {
        apart = λ z. not_self s t ε (sym z);
        different = record {
          ab = λ z. not_previous s t ε (sym (next_previous t) ∙ sym (ap next z) ∙ next_next s);
          ac = λ z. not_self s t ε (sym (previous_next t) ∙ sym (ap previous z) ∙ previous_next s);
          ad = next_not_previous s;
          bc = λ z. next_not_previous t (sym z);
          bd = λ z. not_self s t ε (sym (next_previous t) ∙ ap next z ∙ next_previous s);
          cd = λ z. not_next s t ε (sym (previous_next t) ∙ ap previous z ∙ previous_previous s);
        };
        s_off = record {
          off_a = λ z. next_apart s (sym z);
          off_b = not_previous t s η;
          off_c = not_next t s η;
          off_d = λ z. previous_apart s (sym z);
        };
        t_off = record {
          off_a = not_next s t ε;
          off_b = λ z. previous_apart t (sym z);
          off_c = λ z. next_apart t (sym z);
          off_d = not_previous s t ε;
        };
        a_far = far_next s t ε;
        b_far = outside_swapped s t _ (far_previous t s η);
        c_far = outside_swapped s t _ (far_next t s η);
        d_far = far_previous s t ε;
      }
