-- The six half-edges of the two faces that a split adds.
use Rattle.std.proofs.Common.{◌≡◌, ℕ, ◌+◌, ◌*◌, ◌<◌, ◌≤◌, ◌⊎◌, pos, ◌<ℤ◌, ap, inl, inr, ⊎_elim, arith}
use Rattle.std.proofs.lemmas.Bool.{cases_eq}
use Rattle.std.proofs.lemmas.Bool.Decides.{nat_tests}
use Rattle.mesh.specs.declared.Point.{Point}
use Rattle.mesh.specs.Geometry.{orientation}
use Rattle.mesh.specs.Meshes.{Mesh, next, used, faces}
use Rattle.editing.proofs.Turns.{same_turn}

-- the six places after those in use
pub six_places :
    (n j : ℕ) → n ≤ j → j < n + 6 → (j ≡ n) ⊎ ((j ≡ n + 1) ⊎ ((j ≡ n + 2) ⊎ ((j ≡ n + 3) ⊎ ((j ≡ n + 4) ⊎ (j ≡ n + 5)))))
six_places n j l h =
    ⊎_elim inl (λ a. inr (⊎_elim inl (λ b. inr (⊎_elim inl (λ c. inr (⊎_elim inl (λ d. inr (⊎_elim inl (λ e. inr (omega arith))
    (cases_eq j (n + 4)))) (cases_eq j (n + 3)))) (cases_eq j (n + 2)))) (cases_eq j (n + 1)))) (cases_eq j n)

-- they follow one another
pub next_0 : (k : ℕ) → next (6 * k) ≡ 6 * k + 1
unfolding next
next_0 k = grind (arith, nat_tests)

pub next_1 : (k : ℕ) → next (6 * k + 1) ≡ 6 * k + 2
unfolding next
next_1 k = grind (arith, nat_tests)

pub next_2 : (k : ℕ) → next (6 * k + 2) ≡ 6 * k
unfolding next
next_2 k = grind (arith, nat_tests)

pub next_3 : (k : ℕ) → next (6 * k + 3) ≡ 6 * k + 4
unfolding next
next_3 k = grind (arith, nat_tests)

pub next_4 : (k : ℕ) → next (6 * k + 4) ≡ 6 * k + 5
unfolding next
next_4 k = grind (arith, nat_tests)

pub next_5 : (k : ℕ) → next (6 * k + 5) ≡ 6 * k + 3
unfolding next
next_5 k = grind (arith, nat_tests)

-- a new face turns, if both do
pub new_faces :
    (m : Mesh) (P : ℕ → Point) (g : ℕ) → faces m ≤ g → g < faces m + 2 →
    pos 0 <ℤ orientation (P (used m)) (P (used m + 1)) (P (used m + 2)) →
    pos 0 <ℤ orientation (P (used m + 3)) (P (used m + 4)) (P (used m + 5)) →
    pos 0 <ℤ orientation (P (3 * g)) (P (3 * g + 1)) (P (3 * g + 2))
new_faces m P g l h first second =
    let n = used m in
    ⊎_elim
    (λ e.
    let e₀ : 3 * g ≡ n = omega arith in
    let e₁ : 3 * g + 1 ≡ n + 1 = omega arith in
    let e₂ : 3 * g + 2 ≡ n + 2 = omega arith in
    same_turn (P (3 * g)) (P (3 * g + 1)) (P (3 * g + 2)) (P n) (P (n + 1)) (P (n + 2)) (ap P e₀) (ap P e₁) (ap P e₂) first)
    (λ ne.
    let e₀ : 3 * g ≡ n + 3 = omega arith in
    let e₁ : 3 * g + 1 ≡ n + 4 = omega arith in
    let e₂ : 3 * g + 2 ≡ n + 5 = omega arith in
    same_turn (P (3 * g)) (P (3 * g + 1)) (P (3 * g + 2)) (P (n + 3)) (P (n + 4)) (P (n + 5)) (ap P e₀) (ap P e₁) (ap P e₂) second)
    (cases_eq g (faces m))
