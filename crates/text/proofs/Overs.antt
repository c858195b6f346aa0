-- Facts about texts written over a buffer.
use Rattle.std.proofs.Common.{◌≡◌, ℕ, ◌+◌, ◌≤◌, List, ◌++◌, length, take, drop, sym, ap, ◌∙◌, add_assoc, arith}
use Rattle.std.proofs.lemmas.List.{append_assoc, length-append, length-take-le, take_at, drop_at, drop-drop}
use Rattle.text.specs.Printing.{over, Put}

module _ (xs : List ℕ) (at : ℕ) (s : List ℕ) (fits : at + length s ≤ length xs) where
  front_length : length (take at xs ++ s) ≡ at + length s
  front_length = length-append (take at xs) s ∙ ap (λ n. n + length s) (length-take-le at xs (omega arith))

  regrouped : over xs at s ≡ (take at xs ++ s) ++ drop (at + length s) xs
  regrouped = sym (append_assoc (take at xs) s (drop (at + length s) xs))

  -- one text after another
  pub over_over : (t : List ℕ) → over (over xs at s) (at + length s) t ≡ over xs at (s ++ t)
  over_over t =
      let front : take (at + length s) (over xs at s) ≡ take at xs ++ s =
      ap (take (at + length s)) regrouped ∙ take_at (take at xs ++ s) (drop (at + length s) xs) (at + length s) front_length
      in
      let back : drop (at + length s + length t) (over xs at s) ≡ drop (at + length (s ++ t)) xs =
      sym (drop-drop (length t) (at + length s) (over xs at s))
      ∙ ap (drop (length t)) (ap (drop (at + length s)) regrouped ∙ drop_at (take at xs ++ s) (drop (at + length s) xs) (at + length s) front_length)
      ∙ drop-drop (length t) (at + length s) xs
      ∙ ap (λ n. drop n xs) (add_assoc at (length s) (length t) ∙ ap (λ n. at + n) (sym (length-append s t)))
      in
      rw (front, back) (append_assoc (take at xs) s (t ++ drop (at + length (s ++ t)) xs) ∙ ap (λ ys. take at xs ++ ys) (sym (append_assoc s t (drop (at + length (s ++ t)) xs))))

-- one text after another
pub put_more :
    {xs : List ℕ} {at : ℕ} {s : List ℕ} {ys : List ℕ} {n : ℕ} {t : List ℕ} {zs : List ℕ} {m : ℕ} →
    n ≤ length xs → Put xs at s ys n → Put ys n t zs m → Put xs at (s ++ t) zs m
put_more {xs} {at} {s} {ys} {n} {t} {zs} {m} fits p q = record {
  buffer = q.buffer ∙ ap (λ bs. over bs n t) p.buffer ∙ ap (λ i. over (over xs at s) i t) p.end ∙ over_over xs at s (omega (arith, p.end)) t;
  end = omega (arith, p.end, q.end, length-append s t);
  kept = q.kept ∙ p.kept;
}

pub put_same : {xs : List ℕ} {at : ℕ} {s t : List ℕ} {ys : List ℕ} {n : ℕ} → s ≡ t → Put xs at s ys n → Put xs at t ys n
put_same {xs} {at} {s} {t} {ys} {n} e p = record { buffer = p.buffer ∙ ap (over xs at) e; end = p.end ∙ ap (λ bs. at + length bs) e; kept = p.kept }
