-- Two refusals never share a number.
use Rattle.std.proofs.Common.{◌≡◌, ℕ, [], ◌∷◌, get_or, sym, refl, ap, ◌∙◌}
use Rattle.mesh.specs.declared.Refusal.{Refusal}
use Rattle.mesh.specs.declared.Refusal.TheVariants.{Extent, Height, TooShort, Unsound, Outside, Occupied, Full, Unowned, NotInterior, PinState, NotConvex, Names, Values, Buffer}
use Rattle.mesh.specs.Refusals.{number}

-- the refusal that has a number; `Extent` where none has it
abbrev numbered : ℕ → Refusal
numbered n =
    get_or (Extent ∷ Extent ∷ Height ∷ TooShort ∷ Unsound ∷ Outside ∷ Occupied ∷ Full ∷ Unowned ∷ NotInterior ∷ PinState ∷ NotConvex ∷ Names ∷ Values ∷ Buffer ∷ []) n Extent

numbered_number : (r : Refusal) → numbered (number r) ≡ r
numbered_number Extent = refl
numbered_number Height = refl
numbered_number TooShort = refl
numbered_number Unsound = refl
numbered_number Outside = refl
numbered_number Occupied = refl
numbered_number Full = refl
numbered_number Unowned = refl
numbered_number NotInterior = refl
numbered_number PinState = refl
numbered_number NotConvex = refl
numbered_number Names = refl
numbered_number Values = refl
numbered_number Buffer = refl

pub number_injective : (r q : Refusal) → number r ≡ number q → r ≡ q
number_injective r q e = sym (numbered_number r) ∙ ap numbered e ∙ numbered_number q
