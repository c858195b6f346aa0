-- The number by which each refusal is known.
use Rattle.std.specs.Prelude.{ℕ}
use Rattle.mesh.specs.declared.Refusal.{Refusal}
use Rattle.mesh.specs.declared.Refusal.TheVariants.{Extent, Height, TooShort, Unsound, Outside, Occupied, Full, Unowned, NotInterior, PinState, NotConvex, Names, Values, Buffer}

abbrev pub number : Refusal → ℕ
number Extent = 1
number Height = 2
number TooShort = 3
number Unsound = 4
number Outside = 5
number Occupied = 6
number Full = 7
number Unowned = 8
number NotInterior = 9
number PinState = 10
number NotConvex = 11
number Names = 12
number Values = 13
number Buffer = 14
