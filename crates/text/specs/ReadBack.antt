-- What is written is read back.
use Rattle.std.specs.Prelude.{◌≡◌, ℕ, ◌≤◌, List, [], ◌∷◌, ◌++◌, map, None, decimal}
use Rattle.std.specs.List.{AllByRecursion}
use Rattle.job.specs.declared.Call.TheVariants.{Lay, Add}
use Rattle.mesh.specs.declared.Plan.{Plan}
use Rattle.mesh.specs.declared.Vertex.{Vertex}
use Rattle.text.specs.declared.names.Columns.{Columns}
use Rattle.text.specs.declared.names.Columns.TheVariants.{EastNorthHeight, EastHeightNorth, NorthEastHeight, NorthHeightEast, HeightEastNorth, HeightNorthEast}
use Rattle.text.specs.Lines.{plan_names, vertex_names}
use Rattle.text.specs.Scripts.{script}

-- ---- a file that lays a plan and adds vertices

-- numbers in decimal, parted by one space
abbrev pub spaced : List ℕ → List ℕ
spaced [] = []
spaced (v ∷ []) = decimal v
spaced (v ∷ (w ∷ vs)) = decimal v ++ (32 ∷ spaced (w ∷ vs))

-- the numbers of a plan, and of a vertex whose columns are in this order
abbrev pub plan_values : Plan → List ℕ
plan_values p = p.width ∷ p.depth ∷ p.sw ∷ p.se ∷ p.ne ∷ p.nw ∷ []

abbrev pub vertex_values : Columns → Vertex → List ℕ
vertex_values EastNorthHeight v = v.east ∷ v.north ∷ v.height ∷ []
vertex_values EastHeightNorth v = v.east ∷ v.height ∷ v.north ∷ []
vertex_values NorthEastHeight v = v.north ∷ v.east ∷ v.height ∷ []
vertex_values NorthHeightEast v = v.north ∷ v.height ∷ v.east ∷ []
vertex_values HeightEastNorth v = v.height ∷ v.east ∷ v.north ∷ []
vertex_values HeightNorthEast v = v.height ∷ v.north ∷ v.east ∷ []

-- a line and its end, before the rest of a file
abbrev pub line_before : List ℕ → List ℕ → List ℕ
line_before line rest = line ++ (10 ∷ rest)

abbrev pub vertex_lines : Columns → List Vertex → List ℕ
vertex_lines order [] = []
vertex_lines order (v ∷ vs) = line_before (spaced (vertex_values order v)) (vertex_lines order vs)

unfoldable pub file : Columns → Plan → List Vertex → List ℕ
file order p vs =
    line_before plan_names (line_before (spaced (plan_values p)) (line_before (vertex_names order) (vertex_lines order vs)))

-- ---- the law

-- a number that a field can hold
abbrev pub Writable : ℕ → Type 0
Writable n = n ≤ 99999

abbrev pub WritablePlan : Plan → Type 0
WritablePlan p = AllByRecursion Writable (plan_values p)

abbrev pub WritableVertex : Vertex → Type 0
WritableVertex v = Writable v.east × Writable v.north × Writable v.height

-- the file of a plan and of vertices asks for exactly that lay and those adds, in whatever order its columns are
abbrev pub ReadsBack : Type 0
ReadsBack =
    (order : Columns) (p : Plan) (vs : List Vertex) → WritablePlan p → AllByRecursion WritableVertex vs →
    script (file order p vs) ≡ record { calls = Lay p ∷ map Add vs; ending = None }
