-- The half-edges without a twin run round the rectangle: one from each corner to the next.
use Rattle.std.proofs.Common.{◌≡◌, ℕ, ◌+◌, ◌<◌, ◌≤◌, false, cond, eqb, ◌⊎◌, sym, ap, ◌∙◌, inl, inr, ⊎_elim, arith}
use Rattle.std.proofs.lemmas.Bool.{not-false, eqb-true, cases_eq}
use Rattle.mesh.specs.Meshes.{Mesh, next, used, half, vertex, has_twin}
use Rattle.mesh.specs.Sound.{Sound, along_border}
use Rattle.mesh.proofs.Decide.{T_true}
use Rattle.mesh.proofs.Rings.{next_used}
use Rattle.mesh.proofs.Borders.{one_of_four, both_eq}
use Rattle.editing.proofs.Turns.{turns}
use Rattle.tiling.proofs.Runs.{runs_south, runs_north, runs_east, runs_west}

-- the corner after corner v, counterclockwise
abbrev pub corner_after : ℕ → ℕ
corner_after v = cond (eqb v 3) 0 (v + 1)

-- a corner, or a vertex inside
data Kind (v : ℕ) : Type 0 where
  southwest : v ≡ 0 → Kind v
  southeast : v ≡ 1 → Kind v
  northeast : v ≡ 2 → Kind v
  northwest : v ≡ 3 → Kind v
  inner : 4 ≤ v → Kind v

kind : (v : ℕ) → Kind v
kind v =
    ⊎_elim southwest (λ a. ⊎_elim southeast (λ b. ⊎_elim northeast (λ c. ⊎_elim northwest (λ d. inner (omega arith))
    (cases_eq v 3)) (cases_eq v 2)) (cases_eq v 1)) (cases_eq v 0)

module _ (m : Mesh) (σ : Sound m) where
  abbrev E : ℕ → ℕ
  E v = (vertex m v).east

  abbrev N : ℕ → ℕ
  N v = (vertex m v).north

  abbrev W : ℕ
  W = m.header.width

  abbrev H : ℕ
  H = m.header.depth

  -- no vertex lies outside the rectangle
  within : (v : ℕ) → v < m.header.count → (E v ≤ W) × (N v ≤ H)
  within v l = by (kind v)
    where
      at : (u e n : ℕ) → v ≡ u → E u ≡ e → N u ≡ n → e ≤ W → n ≤ H → (E v ≤ W) × (N v ≤ H)
      at u e n same p q a b = let x = ap E same in let y = ap N same in (omega arith, omega arith)

      by : Kind v → (E v ≤ W) × (N v ≤ H)
      by (southwest e) = at 0 0 0 e σ.southwest.0 σ.southwest.1 (omega arith) (omega arith)
      by (southeast e) = at 1 W 0 e σ.southeast.0 σ.southeast.1 (omega arith) (omega arith)
      by (northeast e) = at 2 W H e σ.northeast.0 σ.northeast.1 (omega arith) (omega arith)
      by (northwest e) = at 3 0 H e σ.northwest.0 σ.northwest.1 (omega arith) (omega arith)
      by (inner k) = let i = σ.inside v k l in (omega arith, omega arith)

  -- the corners that a border has
  on_west : (v : ℕ) → v < m.header.count → E v ≡ 0 → ((v ≡ 0) × (N v ≡ 0)) ⊎ ((v ≡ 3) × (N v ≡ H))
  on_west v l z = by (kind v)
    where
      by : Kind v → ((v ≡ 0) × (N v ≡ 0)) ⊎ ((v ≡ 3) × (N v ≡ H))
      by (southwest e) = inl (e, ap N e ∙ σ.southwest.1)
      by (southeast e) = let x = ap E e in let y = σ.southeast.0 in let k = σ.width.0 in absurd (omega arith)
      by (northeast e) = let x = ap E e in let y = σ.northeast.0 in let k = σ.width.0 in absurd (omega arith)
      by (northwest e) = inr (e, ap N e ∙ σ.northwest.1)
      by (inner k) = let i = σ.inside v k l in absurd (omega arith)

  on_east : (v : ℕ) → v < m.header.count → E v ≡ W → ((v ≡ 1) × (N v ≡ 0)) ⊎ ((v ≡ 2) × (N v ≡ H))
  on_east v l z = by (kind v)
    where
      by : Kind v → ((v ≡ 1) × (N v ≡ 0)) ⊎ ((v ≡ 2) × (N v ≡ H))
      by (southwest e) = let x = ap E e in let y = σ.southwest.0 in let k = σ.width.0 in absurd (omega arith)
      by (southeast e) = inl (e, ap N e ∙ σ.southeast.1)
      by (northeast e) = inr (e, ap N e ∙ σ.northeast.1)
      by (northwest e) = let x = ap E e in let y = σ.northwest.0 in let k = σ.width.0 in absurd (omega arith)
      by (inner k) = let i = σ.inside v k l in absurd (omega arith)

  on_south : (v : ℕ) → v < m.header.count → N v ≡ 0 → ((v ≡ 0) × (E v ≡ 0)) ⊎ ((v ≡ 1) × (E v ≡ W))
  on_south v l z = by (kind v)
    where
      by : Kind v → ((v ≡ 0) × (E v ≡ 0)) ⊎ ((v ≡ 1) × (E v ≡ W))
      by (southwest e) = inl (e, ap E e ∙ σ.southwest.0)
      by (southeast e) = inr (e, ap E e ∙ σ.southeast.0)
      by (northeast e) = let x = ap N e in let y = σ.northeast.1 in let k = σ.depth.0 in absurd (omega arith)
      by (northwest e) = let x = ap N e in let y = σ.northwest.1 in let k = σ.depth.0 in absurd (omega arith)
      by (inner k) = let i = σ.inside v k l in absurd (omega arith)

  on_north : (v : ℕ) → v < m.header.count → N v ≡ H → ((v ≡ 2) × (E v ≡ W)) ⊎ ((v ≡ 3) × (E v ≡ 0))
  on_north v l z = by (kind v)
    where
      by : Kind v → ((v ≡ 2) × (E v ≡ W)) ⊎ ((v ≡ 3) × (E v ≡ 0))
      by (southwest e) = let x = ap N e in let y = σ.southwest.1 in let k = σ.depth.0 in absurd (omega arith)
      by (southeast e) = let x = ap N e in let y = σ.southeast.1 in let k = σ.depth.0 in absurd (omega arith)
      by (northeast e) = inl (e, ap E e ∙ σ.northeast.0)
      by (northwest e) = inr (e, ap E e ∙ σ.northwest.0)
      by (inner k) = let i = σ.inside v k l in absurd (omega arith)

  -- the ends of a half-edge
  abbrev from : ℕ → ℕ
  from x = (half m x).origin

  abbrev to : ℕ → ℕ
  to x = (half m (next x)).origin

  module _ (x : ℕ) (l : x < used m) where
    from_used : from x < m.header.count
    from_used = σ.origins x l

    to_used : to x < m.header.count
    to_used = σ.origins (next x) (next_used m x l)

    third : (E (half m (next (next x))).origin ≤ W) × (N (half m (next (next x))).origin ≤ H)
    third = within _ (σ.origins (next (next x)) (next_used m (next x) (next_used m x l)))

    abbrev Runs : ℕ → ℕ → Type 0
    Runs u v = (from x ≡ u) × (to x ≡ v)

    -- along each border in its own direction
    west_runs : E (from x) ≡ 0 → E (to x) ≡ 0 → Runs 3 0
    west_runs p q =
        let r = runs_south _ _ _ (turns m σ x l) (p ∙ sym q) (omega arith) in
        ⊎_elim
        (λ a. ⊎_elim (λ b. absurd (omega (arith, r, a.1, b.1))) (λ b. absurd (omega (arith, r, a.1, b.1))) (on_west (to x) to_used q))
        (λ a. ⊎_elim (λ b. (a.0, b.0)) (λ b. absurd (omega (arith, r, a.1, b.1))) (on_west (to x) to_used q))
        (on_west (from x) from_used p)

    east_runs : E (from x) ≡ W → E (to x) ≡ W → Runs 1 2
    east_runs p q =
        let k = third in
        let r = runs_north _ _ _ (turns m σ x l) (p ∙ sym q) (omega arith) in
        ⊎_elim
        (λ a. ⊎_elim (λ b. absurd (omega (arith, r, a.1, b.1))) (λ b. (a.0, b.0)) (on_east (to x) to_used q))
        (λ a. ⊎_elim (λ b. absurd (omega (arith, r, a.1, b.1))) (λ b. absurd (omega (arith, r, a.1, b.1))) (on_east (to x) to_used q))
        (on_east (from x) from_used p)

    south_runs : N (from x) ≡ 0 → N (to x) ≡ 0 → Runs 0 1
    south_runs p q =
        let r = runs_east _ _ _ (turns m σ x l) (p ∙ sym q) (omega arith) in
        ⊎_elim
        (λ a. ⊎_elim (λ b. absurd (omega (arith, r, a.1, b.1))) (λ b. (a.0, b.0)) (on_south (to x) to_used q))
        (λ a. ⊎_elim (λ b. absurd (omega (arith, r, a.1, b.1))) (λ b. absurd (omega (arith, r, a.1, b.1))) (on_south (to x) to_used q))
        (on_south (from x) from_used p)

    north_runs : N (from x) ≡ H → N (to x) ≡ H → Runs 2 3
    north_runs p q =
        let k = third in
        let r = runs_west _ _ _ (turns m σ x l) (p ∙ sym q) (omega arith) in
        ⊎_elim
        (λ a. ⊎_elim (λ b. absurd (omega (arith, r, a.1, b.1))) (λ b. (a.0, b.0)) (on_north (to x) to_used q))
        (λ a. ⊎_elim (λ b. absurd (omega (arith, r, a.1, b.1))) (λ b. absurd (omega (arith, r, a.1, b.1))) (on_north (to x) to_used q))
        (on_north (from x) from_used p)

    -- a half-edge without a twin runs from a corner to the next
    pub alone_runs : has_twin m x ≡ false → (v : ℕ) × (v < 4) × (from x ≡ v) × (to x ≡ corner_after v)
    alone_runs e =
        let b = T_true (along_border m x) ((σ.border x l).0 (eqb-true _ _ (not-false _ e))) in
        ⊎_elim
        (⊎_elim
        (⊎_elim
        (λ t. let k = both_eq _ _ 0 t in let r = west_runs k.0 k.1 in (3, omega arith, r.0, r.1))
        (λ t. let k = both_eq _ _ W t in let r = east_runs k.0 k.1 in (1, omega arith, r.0, r.1)))
        (λ t. let k = both_eq _ _ 0 t in let r = south_runs k.0 k.1 in (0, omega arith, r.0, r.1)))
        (λ t. let k = both_eq _ _ H t in let r = north_runs k.0 k.1 in (2, omega arith, r.0, r.1))
        (one_of_four _ _ _ _ b)
