-- How a line's reader leaves: with a fault that ends the script, or with the call that the line asks for.
use Rattle.std.proofs.Common.{◌≡◌, ℕ, Bool, not, eqb, List, IsErrAnd, Ok, Err, Result, sym, refl, ap, ◌∙◌, subst, arith, MatchResult}
use Rattle.std.proofs.lemmas.Bool.Decides.{same_from_decides, Decides-eqb}
use Rattle.std.proofs.lemmas.Result.{err_from_is_err_and}
use Rattle.std.proofs.lemmas.Slice.Eq.{slice_eq-Decides, bytes_eq-Decides}
use Rattle.std.specs.Cmp.Lexicographic.{pointwise}
use Rattle.std.specs.Str.{bytes_eq}

-- the exit of a `?`, where what holds of the error is known
pub exits : {T E : Type 0} (P : T → Type 0) (Q : E → Type 0) (r : Result T E) (e : E) → IsErrAnd r (λ y. y ≡ e) → Q e → MatchResult r P Q
exits P Q r e by q =
    let p = err_from_is_err_and r by in
    subst (λ x. MatchResult x P Q) (sym p.1) (subst Q (sym p.2) q)

-- a `map_err` by a closure that computes f
pub was_ok : {T E D : Type 0} (P : E → D → Type 0) (r : Result T E) (out : Result T D) → MatchResult r (λ x. out ≡ Ok x) (λ e. IsErrAnd out (P e)) → (x : T) → out ≡ Ok x → r ≡ Ok x
was_ok P (Ok y) out h x e = let same = sym h ∙ e in cc
was_ok P (Err g) out h x e = let p = err_from_is_err_and out h in let d : ◌≡◌ {A = ℕ} 0 1 = cc in absurd (omega arith)

pub was_err :
    {T E D : Type 0} {P : E → D → Type 0} (f : E → D) (r : Result T E) (out : Result T D) → MatchResult r (λ x. out ≡ Ok x) (λ e. IsErrAnd out (P e)) →
    ((e : E) (d : D) → P e d → d ≡ f e) → (d : D) → out ≡ Err d → (e : E) × (r ≡ Err e) × (d ≡ f e)
was_err f (Ok y) out h computes d e = let z : ◌≡◌ {A = ℕ} 0 1 = cc in absurd (omega arith)
was_err f (Err g) out h computes d e =
    let p = err_from_is_err_and out h in
    let same : d ≡ p.0 = cc in (g, refl, same ∙ computes g p.0 p.2)

pub err_is : {T E : Type 0} (r : Result T E) (e : E) → IsErrAnd r (λ y. y ≡ e) → r ≡ Err e
err_is r e by = let p = err_from_is_err_and r by in p.1 ∙ ap Err p.2

-- `!=` on bytes
pub ne_bytes : (xs ys zs : List ℕ) (r : Bool) → ys ≡ zs → r ≡ not (pointwise eqb xs ys) → r ≡ not (bytes_eq xs zs)
ne_bytes xs ys zs r same e =
    e ∙ ap not (ap (pointwise eqb xs) same ∙ same_from_decides (pointwise eqb xs zs) (bytes_eq xs zs) (slice_eq-Decides Decides-eqb xs zs _ refl) (bytes_eq-Decides xs zs))
