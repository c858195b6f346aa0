-- What the lines of a file say.
use Rattle.std.specs.Prelude.{ℕ, cond, List, [], ◌∷◌, Some, None, codes, Option, Result, slice_index}
use Rattle.std.specs.Result.{result_map_both}
use Rattle.std.specs.Str.{bytes_eq}
use Rattle.mesh.specs.declared.Plan.{Plan}
use Rattle.mesh.specs.declared.Vertex.{Vertex}
use Rattle.text.specs.declared.LineFault.{LineFault}
use Rattle.text.specs.declared.names.Columns.{Columns}
use Rattle.text.specs.declared.names.Columns.TheVariants.{EastNorthHeight, EastHeightNorth, NorthEastHeight, NorthHeightEast, HeightEastNorth, HeightNorthEast}
use Rattle.text.specs.Values.{values}

-- ---- names

-- line 1
abbrev pub plan_names : List ℕ
plan_names = codes "width depth sw se ne nw"

-- line 3, for each order of the columns
abbrev pub vertex_names : Columns → List ℕ
vertex_names EastNorthHeight = codes "east north height"
vertex_names EastHeightNorth = codes "east height north"
vertex_names NorthEastHeight = codes "north east height"
vertex_names NorthHeightEast = codes "north height east"
vertex_names HeightEastNorth = codes "height east north"
vertex_names HeightNorthEast = codes "height north east"

abbrev pub all_columns : List Columns
all_columns = EastNorthHeight ∷ EastHeightNorth ∷ NorthEastHeight ∷ NorthHeightEast ∷ HeightEastNorth ∷ HeightNorthEast ∷ []

abbrev pub named_among : List ℕ → List Columns → Option Columns
named_among line [] = None
named_among line (c ∷ cs) = cond (bytes_eq line (vertex_names c)) (Some c) (named_among line cs)

-- the order of the columns that a line names
unfoldable pub columns : List ℕ → Option Columns
columns line = named_among line all_columns

-- ---- values

abbrev pub plan_of : List ℕ → Plan
plan_of vs = record { width = slice_index vs 0; depth = slice_index vs 1; sw = slice_index vs 2; se = slice_index vs 3; ne = slice_index vs 4; nw = slice_index vs 5 }

abbrev pub east_north_height : ℕ → ℕ → ℕ → Vertex
east_north_height e n h = record { east = e; north = n; height = h }

-- the vertex whose numbers stand in this order
abbrev pub vertex_of : Columns → ℕ → ℕ → ℕ → Vertex
vertex_of EastNorthHeight a b c = east_north_height a b c
vertex_of EastHeightNorth a b c = east_north_height a c b
vertex_of NorthEastHeight a b c = east_north_height b a c
vertex_of NorthHeightEast a b c = east_north_height c a b
vertex_of HeightEastNorth a b c = east_north_height b c a
vertex_of HeightNorthEast a b c = east_north_height c b a

-- line 2
unfoldable pub plan : List ℕ → Result Plan LineFault
plan line = result_map_both plan_of (λ fault. fault) (values 6 line)

-- each line after the third
unfoldable pub vertex : Columns → List ℕ → Result Vertex LineFault
vertex order line = result_map_both (λ vs. vertex_of order (slice_index vs 0) (slice_index vs 1) (slice_index vs 2)) (λ fault. fault) (values 3 line)
