-- Facts about lines of numbers.
use Rattle.std.proofs.Common.{◌≡◌, ℕ, ◌+◌, [], ◌∷◌, ◌++◌, length, decimal, arith}
use Rattle.std.proofs.lemmas.List.{append_assoc, length-append}
use Rattle.text.specs.Printing.{number_line}

pub length_line : (a b c : ℕ) → length (number_line a b c) ≡ length (decimal a) + length (decimal b) + length (decimal c) + 3
length_line a b c =
    omega (
      arith,
      length-append (decimal a) (32 ∷ (decimal b ++ (32 ∷ (decimal c ++ (10 ∷ []))))),
      length-append (decimal b) (32 ∷ (decimal c ++ (10 ∷ []))),
      length-append (decimal c) (10 ∷ []),
    )

-- the line as it is written, part by part
pub line_parts : (a b c : ℕ) → ((((decimal a ++ (32 ∷ [])) ++ decimal b) ++ (32 ∷ [])) ++ decimal c) ++ (10 ∷ []) ≡ number_line a b c
line_parts a b c = simp append_assoc
