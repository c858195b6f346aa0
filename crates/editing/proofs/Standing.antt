-- What stands at each place once an edge is flipped.
use Rattle.std.proofs.Common.{◌≡◌, ℕ, ◌<◌, ◌≤◌, cond, eqb, ◌≢◌, List, length, set, sym, refl, ap, ◌∙◌, subst, ⊎_elim, arith}
use Rattle.std.proofs.lemmas.Bool.{eq-eqb, ne_eqb, eqb-false, cases_eq, cond_both}
use Rattle.std.proofs.lemmas.List.{get_or-set_same, get_or-set_other, length-set}
use Rattle.mesh.specs.declared.HalfEdge.{HalfEdge}
use Rattle.mesh.specs.Meshes.{Mesh, next, previous, no_twin, no_half_edge, used, half_at, half, twin_of}
use Rattle.mesh.specs.Sound.{Sound}
use Rattle.mesh.proofs.Rings.{next_used, previous_used}
use Rattle.mesh.specs.Edits.{half_edge, linked, moved}
use Rattle.editing.specs.Flips.{with_origin, turned}
use Rattle.editing.proofs.Relabelling.{cycle, relabel, Different, Off, Which, is_a, is_b, is_c, is_d, is_off, which, stays, at_a, at_b, at_c, at_d}
use Rattle.editing.proofs.Quadrilaterals.{Edge, Outside, Clear, clear, edge_of, not_none}

-- ---- one step

-- h, whose twin is `to` if it was tw = j
abbrev relinked : ℕ → ℕ → ℕ → HalfEdge → HalfEdge
relinked tw to j h = half_edge h.origin (cond (eqb tw j) to h.twin) h.pin

linked_length : (hs : List HalfEdge) (t to : ℕ) → length (linked hs t to) ≡ length hs
linked_length hs t to = cond_both (eqb t no_twin) hs (set hs t _) (λ ys. length ys ≡ length hs) (λ _. refl) (λ _. length-set hs t _)

linked_other : (hs : List HalfEdge) (t to j : ℕ) → (t ≢ no_twin → j ≢ t) → half_at (linked hs t to) j ≡ half_at hs j
linked_other hs t to j n =
    cond_both (eqb t no_twin) hs (set hs t _) (λ ys. half_at ys j ≡ half_at hs j) (λ _. refl)
    (λ f. get_or-set_other hs t j _ no_half_edge (n (eqb-false t no_twin f)))

linked_at : (hs : List HalfEdge) (t to j : ℕ) → j < length hs → j ≢ no_twin → half_at (linked hs t to) j ≡ relinked t to j (half_at hs j)
linked_at hs t to j l n =
    ⊎_elim
    (λ e. subst (λ (x : ℕ). half_at (linked hs x to) j ≡ relinked x to j (half_at hs j)) (sym e)
    (rw (ne_eqb j no_twin n, eq-eqb j j refl) (get_or-set_same hs j _ no_half_edge l)))
    (λ ne. linked_other hs t to j (λ _ z. ne (sym z)) ∙ sym (rw (ne_eqb t j ne) refl))
    (cases_eq t j)

moved_length : (hs : List HalfEdge) (h : HalfEdge) (to : ℕ) → length (moved hs h to) ≡ length hs
unfolding moved
moved_length hs h to = linked_length (set hs to h) h.twin to ∙ length-set hs to h

moved_here : (hs : List HalfEdge) (h : HalfEdge) (to : ℕ) → to < length hs → to ≢ h.twin → half_at (moved hs h to) to ≡ h
unfolding moved
moved_here hs h to l n = linked_other (set hs to h) h.twin to to (λ _. n) ∙ get_or-set_same hs to h no_half_edge l

moved_other : (hs : List HalfEdge) (h : HalfEdge) (to j : ℕ) → j ≢ to → (h.twin ≢ no_twin → j ≢ h.twin) → half_at (moved hs h to) j ≡ half_at hs j
unfolding moved
moved_other hs h to j n m = linked_other (set hs to h) h.twin to j m ∙ get_or-set_other hs to j h no_half_edge n

moved_at :
    (hs : List HalfEdge) (h : HalfEdge) (to j : ℕ) → j < length hs → j ≢ no_twin → j ≢ to →
    half_at (moved hs h to) j ≡ relinked h.twin to j (half_at hs j)
unfolding moved
moved_at hs h to j l k n =
    linked_at (set hs to h) h.twin to j (omega (arith, length-set hs to h)) k
    ∙ ap (relinked h.twin to j) (get_or-set_other hs to j h no_half_edge n)

-- h, from v if it stands at s = j
abbrev reset : ℕ → ℕ → ℕ → HalfEdge → HalfEdge
reset s v j h = half_edge (cond (eqb j s) v h.origin) h.twin h.pin

with_origin_at : (hs : List HalfEdge) (s v j : ℕ) → j < length hs → half_at (with_origin hs s v) j ≡ reset s v j (half_at hs j)
with_origin_at hs s v j l =
    ⊎_elim
    (λ e. subst (λ (x : ℕ). half_at (with_origin hs x v) j ≡ reset x v j (half_at hs j)) e
    (rw (eq-eqb j j refl) (get_or-set_same hs j _ no_half_edge l)))
    (λ ne. get_or-set_other hs s j _ no_half_edge ne ∙ sym (rw (ne_eqb j s ne) refl))
    (cases_eq j s)

with_origin_other : (hs : List HalfEdge) (s v j : ℕ) → j ≢ s → half_at (with_origin hs s v) j ≡ half_at hs j
with_origin_other hs s v j n = get_or-set_other hs s j _ no_half_edge n

-- ---- the whole flip

-- the origin that half-edge x has after the flip of s and t
abbrev pub from : Mesh → ℕ → ℕ → ℕ → ℕ
from m s t x = cond (eqb x t) (half m (previous s)).origin (cond (eqb x s) (half m (previous t)).origin (half m x).origin)

-- half-edge x after the flip of s and t
abbrev pub after : Mesh → ℕ → ℕ → ℕ → HalfEdge
after m s t x = half_edge (from m s t x) (relabel s t (twin_of m x)) (half m x).pin

pub from_other : (m : Mesh) (s t x : ℕ) → x ≢ s → x ≢ t → from m s t x ≡ (half m x).origin
from_other m s t x n k = rw (ne_eqb x t k, ne_eqb x s n) refl

pub same_half : (h k : HalfEdge) → h.origin ≡ k.origin → h.twin ≡ k.twin → h.pin ≡ k.pin → h ≡ k
same_half h k p q r =
    ap (λ v. half_edge v h.twin h.pin) p ∙ ap (λ v. half_edge k.origin v h.pin) q ∙ ap (λ v. half_edge k.origin k.twin v) r

module _ (m : Mesh) (σ : Sound m) (s t : ℕ) (ε : Edge m s t) where
  abbrev hs : List HalfEdge
  hs = m.half_edges

  -- the outer four, which move on a → b → c → d → a
  abbrev a : ℕ
  a = next s

  abbrev b : ℕ
  b = previous t

  abbrev c : ℕ
  c = next t

  abbrev d : ℕ
  d = previous s

  abbrev hs₁ : List HalfEdge
  hs₁ = with_origin hs s (half_at hs b).origin

  abbrev hs₂ : List HalfEdge
  hs₂ = with_origin hs₁ t (half_at hs d).origin

  abbrev hs₃ : List HalfEdge
  hs₃ = moved hs₂ (half_at hs d) a

  abbrev hs₄ : List HalfEdge
  hs₄ = moved hs₃ (half_at hs c) d

  abbrev hs₅ : List HalfEdge
  hs₅ = moved hs₄ (half_at hs b) c

  abbrev hs₆ : List HalfEdge
  hs₆ = moved hs₅ (half_at hs a) b

  is_turned : turned hs s t ≡ hs₆
  unfolding turned
  is_turned = refl

  κ : Clear m s t
  κ = clear m σ s t ε

  la : a < used m
  la = next_used m s ε.here

  lb : b < used m
  lb = previous_used m t ε.there

  lc : c < used m
  lc = next_used m t ε.there

  ld : d < used m
  ld = previous_used m s ε.here

  length₁ : length hs₁ ≡ length hs
  length₁ = length-set hs s _

  length₂ : length hs₂ ≡ length hs
  length₂ = length-set hs₁ t _ ∙ length₁

  length₃ : length hs₃ ≡ length hs
  length₃ = moved_length hs₂ (half_at hs d) a ∙ length₂

  length₄ : length hs₄ ≡ length hs
  length₄ = moved_length hs₃ (half_at hs c) d ∙ length₃

  length₅ : length hs₅ ≡ length hs
  length₅ = moved_length hs₄ (half_at hs b) c ∙ length₄

  length₆ : length hs₆ ≡ length hs
  length₆ = moved_length hs₅ (half_at hs a) b ∙ length₅

  in_list : (x : ℕ) → x < used m → x < length hs
  in_list x l = omega (arith, σ.half_edges_fit)

  pub turned_length : length (turned hs s t) ≡ length hs
  turned_length = ap length is_turned ∙ length₆

  -- the four that move on
  δ : Different a b c d
  δ = κ.different

  now_a : half_at hs₆ a ≡ half_at hs d
  now_a =
      moved_other hs₅ (half_at hs a) b a δ.ab (λ _ z. κ.a_far.off.off_a (sym z))
      ∙ moved_other hs₄ (half_at hs b) c a δ.ac (λ _ z. κ.b_far.off.off_a (sym z))
      ∙ moved_other hs₃ (half_at hs c) d a δ.ad (λ _ z. κ.c_far.off.off_a (sym z))
      ∙ moved_here hs₂ (half_at hs d) a (omega (arith, in_list a la, length₂)) (λ z. κ.d_far.off.off_a (sym z))

  now_d : half_at hs₆ d ≡ half_at hs c
  now_d =
      moved_other hs₅ (half_at hs a) b d (λ z. δ.bd (sym z)) (λ _ z. κ.a_far.off.off_d (sym z))
      ∙ moved_other hs₄ (half_at hs b) c d (λ z. δ.cd (sym z)) (λ _ z. κ.b_far.off.off_d (sym z))
      ∙ moved_here hs₃ (half_at hs c) d (omega (arith, in_list d ld, length₃)) (λ z. κ.c_far.off.off_d (sym z))

  now_c : half_at hs₆ c ≡ half_at hs b
  now_c =
      moved_other hs₅ (half_at hs a) b c (λ z. δ.bc (sym z)) (λ _ z. κ.a_far.off.off_c (sym z))
      ∙ moved_here hs₄ (half_at hs b) c (omega (arith, in_list c lc, length₄)) (λ z. κ.b_far.off.off_c (sym z))

  now_b : half_at hs₆ b ≡ half_at hs a
  now_b = moved_here hs₅ (half_at hs a) b (omega (arith, in_list b lb, length₅)) (λ z. κ.a_far.off.off_b (sym z))

  -- any other in use, by what each step does
  now_other : (j : ℕ) → j < used m → Off a b c d j →
      half_at hs₆ j ≡ relinked (twin_of m a) b j (relinked (twin_of m b) c j (relinked (twin_of m c) d j (relinked (twin_of m d) a j
      (reset t (half m d).origin j (reset s (half m b).origin j (half m j))))))
  now_other j u f =
      let l = in_list j u in
      let n = not_none m σ j u in
      moved_at hs₅ (half_at hs a) b j (omega (arith, length₅)) n f.off_b
      ∙ ap (relinked (twin_of m a) b j) (moved_at hs₄ (half_at hs b) c j (omega (arith, length₄)) n f.off_c
      ∙ ap (relinked (twin_of m b) c j) (moved_at hs₃ (half_at hs c) d j (omega (arith, length₃)) n f.off_d
      ∙ ap (relinked (twin_of m c) d j) (moved_at hs₂ (half_at hs d) a j (omega (arith, length₂)) n f.off_a
      ∙ ap (relinked (twin_of m d) a j) (with_origin_at hs₁ t (half_at hs d).origin j (omega (arith, length₁))
      ∙ ap (reset t (half m d).origin j) (with_origin_at hs s (half_at hs b).origin j l)))))

  -- x has the twin y just where y has the twin x
  twin_test : (x y : ℕ) → x < used m → y < used m → eqb (twin_of m x) y ≡ eqb (twin_of m y) x
  twin_test x y l k =
      ⊎_elim
      (λ e. eq-eqb _ _ e ∙ sym (eq-eqb _ _ (edge_of m σ x y l k e).back))
      (λ ne. ne_eqb _ _ ne ∙ sym (ne_eqb _ _ (λ e. ne (edge_of m σ y x k l e).back)))
      (cases_eq (twin_of m x) y)

  other_is : (j : ℕ) → j < used m → Off a b c d j → half_at hs₆ j ≡ after m s t j
  unfolding cycle
  other_is j u f =
      now_other j u f
      ∙ rw (twin_test a j la u, twin_test b j lb u, twin_test c j lc u, twin_test d j ld u) refl

  -- one of the four keeps its record
  kept : (x : ℕ) → x ≢ s → x ≢ t → Outside s t (twin_of m x) → half m x ≡ after m s t x
  kept x n k o =
      let e = from_other m s t x n k in
      let f = stays a b c d (twin_of m x) o.off in
      rw (e, f) refl

  at : (x : ℕ) → x < used m → Which a b c d x → half_at hs₆ (relabel s t x) ≡ after m s t x
  at x u (is_a e) =
      subst (λ (y : ℕ). half_at hs₆ (relabel s t y) ≡ after m s t y) (sym e)
      (ap (half_at hs₆) (at_a a b c d δ) ∙ now_b ∙ kept a (λ z. κ.s_off.off_a (sym z)) (λ z. κ.t_off.off_a (sym z)) κ.a_far)
  at x u (is_b e) =
      subst (λ (y : ℕ). half_at hs₆ (relabel s t y) ≡ after m s t y) (sym e)
      (ap (half_at hs₆) (at_b a b c d δ) ∙ now_c ∙ kept b (λ z. κ.s_off.off_b (sym z)) (λ z. κ.t_off.off_b (sym z)) κ.b_far)
  at x u (is_c e) =
      subst (λ (y : ℕ). half_at hs₆ (relabel s t y) ≡ after m s t y) (sym e)
      (ap (half_at hs₆) (at_c a b c d δ) ∙ now_d ∙ kept c (λ z. κ.s_off.off_c (sym z)) (λ z. κ.t_off.off_c (sym z)) κ.c_far)
  at x u (is_d e) =
      subst (λ (y : ℕ). half_at hs₆ (relabel s t y) ≡ after m s t y) (sym e)
      (ap (half_at hs₆) (at_d a b c d δ) ∙ now_a ∙ kept d (λ z. κ.s_off.off_d (sym z)) (λ z. κ.t_off.off_d (sym z)) κ.d_far)
  at x u (is_off f) = ap (half_at hs₆) (stays a b c d x f) ∙ other_is x u f

  -- the half-edge at x has moved to the place with its new label, and so has its twin
  pub turned_at : (x : ℕ) → x < used m → half_at (turned hs s t) (relabel s t x) ≡ after m s t x
  turned_at x u = ap (λ ys. half_at ys (relabel s t x)) is_turned ∙ at x u (which a b c d x)

  -- past those in use nothing changes
  pub turned_past : (x : ℕ) → used m ≤ x → half_at (turned hs s t) x ≡ half m x
  turned_past x l =
      let unseen : (y : ℕ) → y < used m → (half m y).twin ≢ no_twin → x ≢ (half m y).twin = λ y u ne z. omega (arith, σ.twins y u ne) in
      ap (λ ys. half_at ys x) is_turned
      ∙ moved_other hs₅ (half_at hs a) b x (λ z. omega (arith, lb)) (unseen a la)
      ∙ moved_other hs₄ (half_at hs b) c x (λ z. omega (arith, lc)) (unseen b lb)
      ∙ moved_other hs₃ (half_at hs c) d x (λ z. omega (arith, ld)) (unseen c lc)
      ∙ moved_other hs₂ (half_at hs d) a x (λ z. omega (arith, la)) (unseen d ld)
      ∙ with_origin_other hs₁ t (half_at hs d).origin x (λ z. omega (arith, ε.there))
      ∙ with_origin_other hs s (half_at hs b).origin x (λ z. omega (arith, ε.here))
