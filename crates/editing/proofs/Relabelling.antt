-- Under a flip the four half-edges round the edge each move on by one place: the relabelling of places, and its laws.
use Rattle.std.proofs.Common.{◌≡◌, ℕ, ◌<◌, cond, eqb, ◌≢◌, sym, refl, ap, ◌∙◌, subst, ⊎_elim}
use Rattle.std.proofs.lemmas.Bool.{eq-eqb, ne_eqb, cases_eq}
use Rattle.mesh.specs.Meshes.{next, previous}

-- a → b → c → d → a, and every other number stays
unfoldable pub cycle : ℕ → ℕ → ℕ → ℕ → ℕ → ℕ
cycle a b c d x = cond (eqb x a) b (cond (eqb x b) c (cond (eqb x c) d (cond (eqb x d) a x)))

-- where the half-edge at x stands once the edge of s and t is flipped
abbrev pub relabel : ℕ → ℕ → ℕ → ℕ
relabel s t x = cycle (next s) (previous t) (next t) (previous s) x

pub record Different (a b c d : ℕ) : Type 0 where
  pub ab : a ≢ b
  pub ac : a ≢ c
  pub ad : a ≢ d
  pub bc : b ≢ c
  pub bd : b ≢ d
  pub cd : c ≢ d

-- x is none of the four
pub record Off (a b c d x : ℕ) : Type 0 where
  pub off_a : x ≢ a
  pub off_b : x ≢ b
  pub off_c : x ≢ c
  pub off_d : x ≢ d

pub data Which (a b c d x : ℕ) : Type 0 where
  is_a : x ≡ a → Which a b c d x
  is_b : x ≡ b → Which a b c d x
  is_c : x ≡ c → Which a b c d x
  is_d : x ≡ d → Which a b c d x
  is_off : Off a b c d x → Which a b c d x

pub which : (a b c d x : ℕ) → Which a b c d x
which a b c d x =
    ⊎_elim is_a
    (λ na. ⊎_elim is_b
    (λ nb. ⊎_elim is_c
    (λ nc. ⊎_elim is_d
    (λ nd. is_off (record { off_a = na; off_b = nb; off_c = nc; off_d = nd }))
    (cases_eq x d)) (cases_eq x c)) (cases_eq x b)) (cases_eq x a)

pub different_swapped : (a b c d : ℕ) → Different a b c d → Different c d a b
different_swapped a b c d δ = record {
  ab = δ.cd;
  ac = λ z. δ.ac (sym z);
  ad = λ z. δ.bc (sym z);
  bc = λ z. δ.ad (sym z);
  bd = λ z. δ.bd (sym z);
  cd = δ.ab;
}

pub stays : (a b c d x : ℕ) → Off a b c d x → cycle a b c d x ≡ x
unfolding cycle
stays a b c d x f = rw (ne_eqb x a f.off_a, ne_eqb x b f.off_b, ne_eqb x c f.off_c, ne_eqb x d f.off_d) refl

module _ (a b c d : ℕ) (δ : Different a b c d) where
  pub at_a : cycle a b c d a ≡ b
  unfolding cycle
  at_a = rw (eq-eqb a a refl) refl

  pub at_b : cycle a b c d b ≡ c
  unfolding cycle
  at_b = rw (ne_eqb b a (λ z. δ.ab (sym z)), eq-eqb b b refl) refl

  pub at_c : cycle a b c d c ≡ d
  unfolding cycle
  at_c = rw (ne_eqb c a (λ z. δ.ac (sym z)), ne_eqb c b (λ z. δ.bc (sym z)), eq-eqb c c refl) refl

  pub at_d : cycle a b c d d ≡ a
  unfolding cycle
  at_d = rw (ne_eqb d a (λ z. δ.ad (sym z)), ne_eqb d b (λ z. δ.bd (sym z)), ne_eqb d c (λ z. δ.cd (sym z)), eq-eqb d d refl) refl

  abbrev ρ : ℕ → ℕ
  ρ x = cycle a b c d x

  four_at : (x : ℕ) → Which a b c d x → ρ (ρ (ρ (ρ x))) ≡ x
  four_at x (is_a e) = cc (at_a, at_b, at_c, at_d)
  four_at x (is_b e) = cc (at_a, at_b, at_c, at_d)
  four_at x (is_c e) = cc (at_a, at_b, at_c, at_d)
  four_at x (is_d e) = cc (at_a, at_b, at_c, at_d)
  four_at x (is_off f) = let e = stays a b c d x f in cc

  -- four steps come home, so three steps undo one
  pub four_steps : (x : ℕ) → ρ (ρ (ρ (ρ x))) ≡ x
  four_steps x = four_at x (which a b c d x)

  pub injective : (x y : ℕ) → ρ x ≡ ρ y → x ≡ y
  injective x y e = sym (four_steps x) ∙ ap (λ z. ρ (ρ (ρ z))) e ∙ four_steps y

  -- no number leaves a range that holds the four
  pub cycle_below : (n x : ℕ) → a < n → b < n → c < n → d < n → x < n → ρ x < n
  cycle_below n x la lb lc ld l = at (which a b c d x)
    where
      below : (y : ℕ) → ρ x ≡ y → y < n → ρ x < n
      below y e h = subst (λ (z : ℕ). z < n) (sym e) h

      at : Which a b c d x → ρ x < n
      at (is_a e) = below b (ap ρ e ∙ at_a) lb
      at (is_b e) = below c (ap ρ e ∙ at_b) lc
      at (is_c e) = below d (ap ρ e ∙ at_c) ld
      at (is_d e) = below a (ap ρ e ∙ at_d) la
      at (is_off f) = below x (stays a b c d x f) l

-- it does not matter from which of the two half-edges the four are named
pub cycle_swapped : (a b c d x : ℕ) → Different a b c d → cycle c d a b x ≡ cycle a b c d x
cycle_swapped a b c d x δ = at (which a b c d x)
  where
    η : Different c d a b
    η = different_swapped a b c d δ

    at : Which a b c d x → cycle c d a b x ≡ cycle a b c d x
    at (is_a e) = ap (cycle c d a b) e ∙ at_c c d a b η ∙ sym (ap (cycle a b c d) e ∙ at_a a b c d δ)
    at (is_b e) = ap (cycle c d a b) e ∙ at_d c d a b η ∙ sym (ap (cycle a b c d) e ∙ at_b a b c d δ)
    at (is_c e) = ap (cycle c d a b) e ∙ at_a c d a b η ∙ sym (ap (cycle a b c d) e ∙ at_c a b c d δ)
    at (is_d e) = ap (cycle c d a b) e ∙ at_b c d a b η ∙ sym (ap (cycle a b c d) e ∙ at_d a b c d δ)
    at (is_off f) = stays c d a b x (record { off_a = f.off_c; off_b = f.off_d; off_c = f.off_a; off_d = f.off_b }) ∙ sym (stays a b c d x f)
