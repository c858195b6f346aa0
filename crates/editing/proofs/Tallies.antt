-- How a tally changes where its test changes at a few numbers.
use Rattle.std.proofs.Common.{◌≡◌, ℕ, zero, suc, ◌+◌, ◌<◌, ◌≤◌, Bool, true, false, cond, eqb, sym, refl, ap, ◌∙◌, subst, ap₂, arith, ⊎_elim}
use Rattle.std.proofs.lemmas.Bool.{eq-eqb, ne_eqb, cases_eq, cases_lt}
use Rattle.arith.specs.Ranges.{tally}
use Rattle.arith.proofs.Ranges.{last_or_below}

-- what one number adds
abbrev unit : Bool → ℕ
unit b = cond b 1 0

one_more : (b : Bool) (t : ℕ) → cond b (suc t) t ≡ t + unit b
one_more true t = omega arith
one_more false t = omega arith

-- tests that agree below n
pub tally_same : (f g : ℕ → Bool) (n : ℕ) → ((k : ℕ) → k < n → f k ≡ g k) → tally f n ≡ tally g n
tally_same f g zero e = refl
tally_same f g (suc n) e = ap₂ (λ b t. cond b (suc t) t) (e n (omega arith)) (tally_same f g n (λ k l. e k (omega arith)))

-- g is f but for i, which it does not count
tally_without :
    (f g : ℕ → Bool) (i n : ℕ) → i < n → g i ≡ false → ((k : ℕ) → k < n → (k ≡ i → ⊥) → f k ≡ g k) → tally f n ≡ tally g n + unit (f i)
tally_without f g i zero l z e = absurd (omega arith)
tally_without f g i (suc n) l z e =
    let p = one_more (f n) (tally f n) in
    let q = one_more (g n) (tally g n) in
    ⊎_elim (λ b.
    let r = tally_without f g i n b z (λ k j. e k (omega arith)) in
    let s = ap unit (e n (omega arith) (λ x. omega arith)) in
    omega arith)
    (λ x.
    let r = tally_same f g n (λ k j. e k (omega arith) (λ y. omega arith)) in
    let s = ap (λ y. unit (f y)) x in
    let t = ap (λ y. unit (g y)) x in
    let u = ap unit z in
    omega arith)
    (last_or_below i n l)

-- nothing is counted from n on
tally_stays : (f : ℕ → Bool) (n k : ℕ) → n ≤ k → ((j : ℕ) → n ≤ j → j < k → f j ≡ false) → tally f k ≡ tally f n
tally_stays f n zero l e = let z : zero ≡ n = omega arith in ap (tally f) z
tally_stays f n (suc k) l e =
    ⊎_elim (λ h. let z : suc k ≡ n = omega arith in ap (tally f) z)
    (λ h.
    let p = one_more (f k) (tally f k) in
    let q = ap unit (e k h (omega arith)) in
    let r = tally_stays f n k h (λ j a b. e j a (omega arith)) in
    omega arith)
    (cases_lt k n)

-- h without i
abbrev without : (ℕ → Bool) → ℕ → ℕ → Bool
without h i k = cond (eqb k i) false (h k)

without_at : (h : ℕ → Bool) (i : ℕ) → without h i i ≡ false
without_at h i = ap (λ b. cond b false (h i)) (eq-eqb i i refl)

without_else : (h : ℕ → Bool) (i k : ℕ) → (k ≡ i → ⊥) → without h i k ≡ h k
without_else h i k ne = ap (λ b. cond b false (h k)) (ne_eqb k i ne)

without_false : (h : ℕ → Bool) (i k : ℕ) → h k ≡ false → without h i k ≡ false
without_false h i k e = by (eqb k i)
  where
    by : (b : Bool) → cond b false (h k) ≡ false
    by true = refl
    by false = e

-- a test counts i, and the others
tally_drop : (h : ℕ → Bool) (i n : ℕ) → i < n → tally h n ≡ tally (without h i) n + unit (h i)
tally_drop h i n l = tally_without h (without h i) i n l (without_at h i) (λ k _ ne. sym (without_else h i k ne))

-- f below n and g below N count alike, where what f counts at b and c g counts at b' and c'
pub tally_moved :
    (f g : ℕ → Bool) (n N b c b' c' : ℕ) → b < n → c < n → (c ≡ b → ⊥) → n ≤ b' → b' < N → n ≤ c' → c' < N → (c' ≡ b' → ⊥) →
    g b ≡ false → g c ≡ false → g b' ≡ f b → g c' ≡ f c →
    ((k : ℕ) → k < n → (k ≡ b → ⊥) → (k ≡ c → ⊥) → g k ≡ f k) →
    ((k : ℕ) → n ≤ k → k < N → (k ≡ b' → ⊥) → (k ≡ c' → ⊥) → g k ≡ false) →
    tally g N ≡ tally f n
tally_moved f g n N b c b' c' lb lc bc nb bN nc cN bc' gb gc mb mc below above =
    let f₁ = without f b in
    let f₂ = without f₁ c in
    let g₁ = without g b' in
    let g₂ = without g₁ c' in
    let p = tally_drop f b n lb in
    let q = tally_drop f₁ c n lc in
    let r = tally_drop g b' N bN in
    let s = tally_drop g₁ c' N cN in
    let t = tally_stays g₂ n N (omega arith) high in
    let u = tally_same g₂ f₂ n low in
    let v = ap unit (without_else f b c bc) in
    let w = ap unit (without_else g b' c' bc') in
    let x = ap unit mb in
    let y = ap unit mc in
    omega arith
  where
    high : (j : ℕ) → n ≤ j → j < N → without (without g b') c' j ≡ false
    high j a l =
        ⊎_elim (λ e. subst (λ (x : ℕ). without (without g b') c' x ≡ false) (sym e) (without_at (without g b') c'))
        (λ ne. without_false (without g b') c' j
        (⊎_elim (λ e. subst (λ (x : ℕ). without g b' x ≡ false) (sym e) (without_at g b'))
        (λ ne'. without_false g b' j (above j a l ne' ne))
        (cases_eq j b')))
        (cases_eq j c')

    left : (j : ℕ) → j < n → without (without g b') c' j ≡ g j
    left j l = without_else (without g b') c' j (λ e. omega arith) ∙ without_else g b' j (λ e. omega arith)

    low : (j : ℕ) → j < n → without (without g b') c' j ≡ without (without f b) c j
    low j l =
        left j l
        ∙ ⊎_elim (λ e. ap g e ∙ gc ∙ sym (subst (λ (x : ℕ). without (without f b) c x ≡ false) (sym e) (without_at (without f b) c)))
        (λ ne. ⊎_elim (λ e. ap g e ∙ gb ∙ sym (without_false (without f b) c j (subst (λ (x : ℕ). without f b x ≡ false) (sym e) (without_at f b))))
        (λ ne'. below j l ne' ne ∙ sym (without_else (without f b) c j ne ∙ without_else f b j ne'))
        (cases_eq j b))
        (cases_eq j c)
