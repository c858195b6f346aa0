-- A text cut at its separators.
use Rattle.std.specs.Prelude.{ℕ, ◌<◌, List, length, ◌==◌, ◌≢◌, slice_index}
use Rattle.std.specs.List.{slice_split}

-- the pieces between separators: one more than there are separators, so some may be empty
unfoldable pub pieces : ℕ → List ℕ → List (List ℕ)
pieces separator bytes = slice_split (λ b. b == separator) bytes

-- b stands nowhere in xs
abbrev pub Lacks : ℕ → List ℕ → Type 0
Lacks b xs = (k : ℕ) → k < length xs → slice_index xs k ≢ b
