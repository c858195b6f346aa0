-- Facts about the pieces between separators.
use Rattle.std.proofs.Common.{◌≡◌, ℕ, suc, ◌+◌, ◌<◌, eqb, false, List, [], ◌∷◌, ◌++◌, length, count_by, refl, ◌∙◌, suc-le-suc, zero-le, arith}
use Rattle.std.specs.List.{All}
use Rattle.std.proofs.lemmas.List.{get_or_default}
use Rattle.std.proofs.lemmas.List.Splits.{slice_split_none, slice_split_at, length-slice_split}
use Rattle.std.proofs.lemmas.Bool.{eq-eqb, ne_eqb}
use Rattle.text.specs.Pieces.{pieces, Lacks}

pub lacks_head : (s x : ℕ) (xs : List ℕ) → Lacks s (x ∷ xs) → x ≡ s → ⊥
lacks_head s x xs h e = h 0 (suc-le-suc zero-le) e

pub lacks_tail : (s x : ℕ) (xs : List ℕ) → Lacks s (x ∷ xs) → Lacks s xs
lacks_tail s x xs h k lt e = h (suc k) (suc-le-suc lt) e

none_passes : (s : ℕ) (xs : List ℕ) → Lacks s xs → All (λ b. eqb b s ≡ false) xs
none_passes s xs lacks k d h = ne_eqb _ s (λ e. lacks k h (get_or_default xs k 0 d h ∙ e))

pub pieces_empty : (s : ℕ) → pieces s [] ≡ [] ∷ []
unfolding pieces
pieces_empty s = refl

-- one piece more than there are separators
pub length_pieces : (s : ℕ) (bs : List ℕ) → length (pieces s bs) ≡ count_by (λ b. eqb b s) bs + 1
unfolding pieces
length_pieces s bs = length-slice_split (λ b. eqb b s) bs

pub pieces_some : (s : ℕ) (bs : List ℕ) → 0 < length (pieces s bs)
pieces_some s bs = omega (arith, length_pieces s bs)

-- ---- the first piece

pub pieces_whole : (s : ℕ) (xs : List ℕ) → Lacks s xs → pieces s xs ≡ xs ∷ []
unfolding pieces
pieces_whole s xs h = slice_split_none (λ b. eqb b s) xs (none_passes s xs h)

pub pieces_cut : (s : ℕ) (xs ys : List ℕ) → Lacks s xs → pieces s (xs ++ (s ∷ ys)) ≡ xs ∷ pieces s ys
unfolding pieces
pieces_cut s xs ys h = slice_split_at (λ b. eqb b s) xs s ys (none_passes s xs h) (eq-eqb s s refl)
