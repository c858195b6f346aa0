-- What holds of flips and pins in a sound mesh.
use Rattle.std.specs.Prelude.{◌≡◌, ℕ, ◌<◌, ◌≤◌, true}
use Rattle.mesh.specs.Meshes.{Mesh, next, previous, used, half, twin_of}
use Rattle.mesh.specs.Sound.{Sound}
use Rattle.editing.specs.Flips.{is_interior, is_free, is_flippable, flipped, pinned}

-- both half-edges of an edge give the same flip
abbrev pub EitherHalf : Type 0
EitherHalf = (m : Mesh) (s : ℕ) → Sound m → is_flippable m s ≡ true → flipped m (twin_of m s) ≡ flipped m s

-- a flip keeps the mesh sound
abbrev pub FlipKeepsSound : Type 0
FlipKeepsSound = (m : Mesh) (s : ℕ) → Sound m → is_flippable m s ≡ true → Sound (flipped m s)

-- an edge just flipped may be flipped again
abbrev pub FlippableAgain : Type 0
FlippableAgain = (m : Mesh) (s : ℕ) → Sound m → is_flippable m s ≡ true → is_flippable (flipped m s) s ≡ true

-- four flips of one edge give back the mesh, entry by entry
abbrev pub FourFlips : Type 0
FourFlips =
    (m : Mesh) (s : ℕ) → Sound m → is_flippable m s ≡ true → flipped (flipped (flipped (flipped m s) s) s) s ≡ m

-- a, b, c are the corners of a face, in order
abbrev pub Face : Mesh → ℕ → ℕ → ℕ → Type 0
Face m a b c =
    (x : ℕ) × (x < used m) × ((half m x).origin ≡ a) × ((half m (next x)).origin ≡ b) × ((half m (previous x)).origin ≡ c)

-- two flips of one edge give the same faces
abbrev pub TwoFlips : Type 0
TwoFlips =
    (m : Mesh) (s : ℕ) → Sound m → is_flippable m s ≡ true → (a b c : ℕ) →
    (Face m a b c → Face (flipped (flipped m s) s) a b c) × (Face (flipped (flipped m s) s) a b c → Face m a b c)

-- a pin keeps the mesh sound
abbrev pub PinKeepsSound : Type 0
PinKeepsSound = (m : Mesh) (s p : ℕ) → Sound m → is_interior m s ≡ true → p ≤ 1 → Sound (pinned p m s)

-- the pin of a free edge, undone, leaves no trace
abbrev pub UnpinRestores : Type 0
UnpinRestores =
    (m : Mesh) (s : ℕ) → Sound m → is_interior m s ≡ true → is_free (half m s).pin ≡ true → pinned 0 (pinned 1 m s) s ≡ m

pub record FlipLaws : Type 0 where
  pub either_half : EitherHalf
  pub flip_keeps_sound : FlipKeepsSound
  pub flippable_again : FlippableAgain
  pub two_flips : TwoFlips
  pub four_flips : FourFlips

pub record PinLaws : Type 0 where
  pub pin_keeps_sound : PinKeepsSound
  pub unpin_restores : UnpinRestores
