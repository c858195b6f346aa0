-- What is written is read back.
use Rattle.std.proofs.Common.{◌≡◌, ℕ, zero, suc, ◌^◌, ◌<◌, Bool, true, not, ◌&&◌, eqb, List, [], ◌∷◌, ◌++◌, map, length, get_or, Some, None, Ok, decimal, refl, ap, ◌∙◌, arith, rules}
use Rattle.std.proofs.lemmas.Fmt.{decimal_digit, decimal_nonempty, first_decimal, length-decimal-le, digits_decimal, digits_value-decimal}
use Rattle.std.proofs.lemmas.Str.Parse.{IsNumeralModel, numerals_by_fold, not_in_digits}
use Rattle.std.proofs.lemmas.List.{length-map}
use Rattle.std.proofs.lemmas.Bool.{and_parts, not-true, eqb-false}
use Rattle.std.proofs.lemmas.Bool.Decides.{nat_tests}
use Rattle.std.specs.Result.{result_map_both}
use Rattle.std.specs.Int.{IsInRange}
use Rattle.std.specs.List.{AllByRecursion}
use Rattle.job.specs.declared.Call.TheVariants.{Lay, Add}
use Rattle.mesh.specs.declared.Plan.{Plan}
use Rattle.mesh.specs.declared.Vertex.{Vertex}
use Rattle.text.specs.declared.names.Columns.{Columns}
use Rattle.text.specs.declared.names.Columns.TheVariants.{EastNorthHeight, EastHeightNorth, NorthEastHeight, NorthHeightEast, HeightEastNorth, HeightNorthEast}
use Rattle.text.specs.Pieces.{pieces, Lacks}
use Rattle.text.specs.Lines.{plan_names, vertex_names, columns, plan_of, vertex_of, plan, vertex}
use Rattle.text.specs.ReadBack.{spaced, plan_values, vertex_values, line_before, vertex_lines, file, Writable, WritablePlan, WritableVertex, ReadsBack}
use Rattle.text.specs.Scripts.{asks, asked, from_vertices, by_columns, from_columns}
use Rattle.text.specs.Values.{all_digits, read_on, well_written, value, values_from, values}
use Rattle.text.proofs.Cuts.{lacks_head, lacks_tail, pieces_whole, pieces_cut}
use Rattle.text.proofs.LineValues.{values_read}
use Rattle.text.proofs.Scripts.{names_right, plan_line, columns_line, vertices_none, vertices_line}

-- ---- a number in decimal

own : IsNumeralModel (λ ds. all_digits ds ≡ true) (read_on 0)
own = numerals_by_fold _ (search rules) read_on (search rules)

lacks_decimal : (b n : ℕ) → n < 2 ^ 64 → (IsInRange 48 57 b → ⊥) → Lacks b (decimal n)
lacks_decimal b n h out = not_in_digits own (decimal n) b (digits_decimal own n h) out

alone : (n : ℕ) → n < 2 ^ 64 → get_or (decimal n) 0 0 ≡ 48 → length (decimal n) ≡ 1
alone zero h e = ap length (decimal_digit 0 (omega arith))
alone (suc n) h e = absurd (omega (arith, first_decimal (suc n) (omega arith) h))

pub value_written : (n : ℕ) → Writable n → value (decimal n) ≡ Some n
unfolding value
value_written n h =
    let digits = digits_decimal own n (omega arith) in
    let some = decimal_nonempty n (omega arith) in
    let short = length-decimal-le 5 n (omega arith) (omega arith) (omega arith) in
    let lone = alone n (omega arith) in
    let fine : well_written (decimal n) ≡ true = grind (arith, nat_tests) in
    rw (fine, digits_value-decimal own n (omega arith))

-- ---- bytes that a text lacks

lacks_none : (b : ℕ) → Lacks b []
lacks_none b k h e = absurd (omega arith)

lacks_more : (b x : ℕ) (xs : List ℕ) → (x ≡ b → ⊥) → Lacks b xs → Lacks b (x ∷ xs)
lacks_more b x xs ne rest zero h e = ne e
lacks_more b x xs ne rest (suc k) h e = rest k (omega arith) e

lacks_both : (b : ℕ) (xs ys : List ℕ) → Lacks b xs → Lacks b ys → Lacks b (xs ++ ys)
lacks_both b [] ys l r = r
lacks_both b (x ∷ xs) ys l r = lacks_more b x (xs ++ ys) (lacks_head b x xs l) (lacks_both b xs ys (lacks_tail b x xs l) r)

-- a test, for texts that are written out
abbrev lacking : ℕ → List ℕ → Bool
lacking b [] = true
lacking b (x ∷ xs) = not (eqb x b) && lacking b xs

lacks_tested : (b : ℕ) (xs : List ℕ) → lacking b xs ≡ true → Lacks b xs
lacks_tested b [] e = lacks_none b
lacks_tested b (x ∷ xs) e =
    let p = and_parts (not (eqb x b)) (lacking b xs) e in
    lacks_more b x xs (eqb-false x b (not-true (eqb x b) p.0)) (lacks_tested b xs p.1)

-- ---- a line of values

wide : (n : ℕ) → Writable n → n < 2 ^ 64
wide n h = omega arith

lacks_spaced : (vs : List ℕ) → AllByRecursion Writable vs → Lacks 10 (spaced vs)
lacks_spaced [] all = lacks_none 10
lacks_spaced (v ∷ []) all = lacks_decimal 10 v (wide v all.0) (λ i. omega arith)
lacks_spaced (v ∷ (w ∷ vs)) all =
    lacks_both 10 (decimal v) (32 ∷ spaced (w ∷ vs)) (lacks_decimal 10 v (wide v all.0) (λ i. omega arith))
    (lacks_more 10 32 (spaced (w ∷ vs)) (λ e. omega arith) (lacks_spaced (w ∷ vs) all.1))

pieces_spaced : (v : ℕ) (vs : List ℕ) → AllByRecursion Writable (v ∷ vs) → pieces 32 (spaced (v ∷ vs)) ≡ map decimal (v ∷ vs)
pieces_spaced v [] all = pieces_whole 32 (decimal v) (lacks_decimal 32 v (wide v all.0) (λ i. omega arith))
pieces_spaced v (w ∷ vs) all =
    pieces_cut 32 (decimal v) (spaced (w ∷ vs)) (lacks_decimal 32 v (wide v all.0) (λ i. omega arith))
    ∙ ap (λ ps. decimal v ∷ ps) (pieces_spaced w vs all.1)

values_from_written : (field : ℕ) (vs : List ℕ) → AllByRecursion Writable vs → values_from field (map decimal vs) ≡ Ok vs
values_from_written field [] all = refl
values_from_written field (v ∷ vs) all = rw (value_written v all.0, values_from_written (suc field) vs all.1)

pub values_written : (v : ℕ) (vs : List ℕ) → AllByRecursion Writable (v ∷ vs) → values (length (v ∷ vs)) (spaced (v ∷ vs)) ≡ Ok (v ∷ vs)
values_written v vs all =
    let e = pieces_spaced v vs all in
    values_read (length (v ∷ vs)) (spaced (v ∷ vs)) (ap length e ∙ length-map (v ∷ vs) decimal)
    ∙ ap (values_from 1) e ∙ values_from_written 1 (v ∷ vs) all

-- ---- a file

plan_written : (p : Plan) → WritablePlan p → plan (spaced (plan_values p)) ≡ Ok p
unfolding plan
plan_written p all = ap (result_map_both plan_of (λ fault. fault)) (values_written p.width (p.depth ∷ p.sw ∷ p.se ∷ p.ne ∷ p.nw ∷ []) all)

vertex_all : (order : Columns) (v : Vertex) → WritableVertex v → AllByRecursion Writable (vertex_values order v)
vertex_all EastNorthHeight v h = (h.0, (h.1, (h.2, tt)))
vertex_all EastHeightNorth v h = (h.0, (h.2, (h.1, tt)))
vertex_all NorthEastHeight v h = (h.1, (h.0, (h.2, tt)))
vertex_all NorthHeightEast v h = (h.1, (h.2, (h.0, tt)))
vertex_all HeightEastNorth v h = (h.2, (h.0, (h.1, tt)))
vertex_all HeightNorthEast v h = (h.2, (h.1, (h.0, tt)))

columns_written : (order : Columns) → columns (vertex_names order) ≡ Some order
unfolding columns
columns_written EastNorthHeight = refl
columns_written EastHeightNorth = refl
columns_written NorthEastHeight = refl
columns_written NorthHeightEast = refl
columns_written HeightEastNorth = refl
columns_written HeightNorthEast = refl

lacks_names : (order : Columns) → Lacks 10 (vertex_names order)
lacks_names EastNorthHeight = lacks_tested 10 (vertex_names EastNorthHeight) refl
lacks_names EastHeightNorth = lacks_tested 10 (vertex_names EastHeightNorth) refl
lacks_names NorthEastHeight = lacks_tested 10 (vertex_names NorthEastHeight) refl
lacks_names NorthHeightEast = lacks_tested 10 (vertex_names NorthHeightEast) refl
lacks_names HeightEastNorth = lacks_tested 10 (vertex_names HeightEastNorth) refl
lacks_names HeightNorthEast = lacks_tested 10 (vertex_names HeightNorthEast) refl

-- three values in the order of the columns
three : (order : Columns) (a b c : ℕ) → AllByRecursion Writable (a ∷ b ∷ c ∷ []) → vertex order (spaced (a ∷ b ∷ c ∷ [])) ≡ Ok (vertex_of order a b c)
unfolding vertex
three order a b c all = ap (result_map_both (λ vs. vertex_of order (get_or vs 0 0) (get_or vs 1 0) (get_or vs 2 0)) (λ fault. fault)) (values_written a (b ∷ c ∷ []) all)

vertex_written : (order : Columns) (v : Vertex) → WritableVertex v → vertex order (spaced (vertex_values order v)) ≡ Ok v
vertex_written EastNorthHeight v h = three EastNorthHeight v.east v.north v.height (vertex_all EastNorthHeight v h)
vertex_written EastHeightNorth v h = three EastHeightNorth v.east v.height v.north (vertex_all EastHeightNorth v h)
vertex_written NorthEastHeight v h = three NorthEastHeight v.north v.east v.height (vertex_all NorthEastHeight v h)
vertex_written NorthHeightEast v h = three NorthHeightEast v.north v.height v.east (vertex_all NorthHeightEast v h)
vertex_written HeightEastNorth v h = three HeightEastNorth v.height v.east v.north (vertex_all HeightEastNorth v h)
vertex_written HeightNorthEast v h = three HeightNorthEast v.height v.north v.east (vertex_all HeightNorthEast v h)

vertices_written :
    (order : Columns) (line : ℕ) (vs : List Vertex) → AllByRecursion WritableVertex vs →
    from_vertices order line (pieces 10 (vertex_lines order vs)) ≡ record { calls = map Add vs; ending = None }
vertices_written order line [] all = vertices_none order line [] refl
vertices_written order line (v ∷ vs) all =
    let one = spaced (vertex_values order v) in
    let rest = from_vertices order (suc line) (pieces 10 (vertex_lines order vs)) in
    vertices_line order line (vertex_lines order (v ∷ vs)) one (vertex_lines order vs) (lacks_spaced (vertex_values order v) (vertex_all order v all.0)) refl
    ∙ ap (λ r. asked Add line r rest) (vertex_written order v all.0)
    ∙ ap (asks (Add v)) (vertices_written order (suc line) vs all.1)

pub reads_back : ReadsBack
unfolding file
reads_back order p vs small all =
    let below = vertex_lines order vs in
    let third = line_before (vertex_names order) below in
    let second = line_before (spaced (plan_values p)) third in
    names_right (line_before plan_names second) plan_names second (lacks_tested 10 plan_names refl) refl refl
    ∙ plan_line second (spaced (plan_values p)) third (lacks_spaced (plan_values p) small) refl
    ∙ ap (λ r. asked Lay 2 r (from_columns (pieces 10 third))) (plan_written p small)
    ∙ ap (asks (Lay p))
    (columns_line third (vertex_names order) below (lacks_names order) refl
    ∙ ap (λ o. by_columns o (pieces 10 below)) (columns_written order)
    ∙ vertices_written order 4 vs all)
