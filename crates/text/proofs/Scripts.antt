-- The steps of a script: what one more line of a text asks for.
use Rattle.std.proofs.Common.{◌≡◌, ℕ, suc, ◌<◌, true, false, List, [], ◌∷◌, ◌++◌, length, refl, ap, ◌∙◌, arith}
use Rattle.std.specs.Str.{bytes_eq}
use Rattle.job.specs.declared.Call.TheVariants.{Lay, Add}
use Rattle.mesh.specs.declared.Refusal.TheVariants.{Names, Values}
use Rattle.text.specs.declared.names.Columns.{Columns}
use Rattle.text.specs.Lines.{plan_names, columns, plan, vertex}
use Rattle.text.specs.Pieces.{pieces, Lacks}
use Rattle.text.specs.Scripts.{Script, ends, stops, asked, from_vertices, by_columns, from_columns, from_plan, from_names, script}
use Rattle.text.proofs.Cuts.{pieces_whole, pieces_cut, pieces_some, pieces_empty}

-- what follows an ended line is at least one piece
two_or_more :
    (F G : List (List ℕ) → Script) (l : List ℕ) → ((two : List ℕ) (more : List (List ℕ)) → F (l ∷ (two ∷ more)) ≡ G (two ∷ more)) →
    (ps : List (List ℕ)) → 0 < length ps → F (l ∷ ps) ≡ G ps
two_or_more F G l step [] h = absurd (omega arith)
two_or_more F G l step (two ∷ more) h = step two more

-- a text that begins with the line l and its end
after_line :
    (F G : List (List ℕ) → Script) (bytes l rest : List ℕ) → Lacks 10 l → bytes ≡ l ++ (10 ∷ rest) →
    ((two : List ℕ) (more : List (List ℕ)) → F (l ∷ (two ∷ more)) ≡ G (two ∷ more)) → F (pieces 10 bytes) ≡ G (pieces 10 rest)
after_line F G bytes l rest lacks e step =
    ap (λ bs. F (pieces 10 bs)) e ∙ ap F (pieces_cut 10 l rest lacks) ∙ two_or_more F G l step (pieces 10 rest) (pieces_some 10 rest)

-- ---- line 1

pub names_unended : (bytes : List ℕ) → Lacks 10 bytes → script bytes ≡ stops 1 0 Names
unfolding script
names_unended bytes lacks = ap from_names (pieces_whole 10 bytes lacks)

pub names_wrong : (bytes l rest : List ℕ) → Lacks 10 l → bytes ≡ l ++ (10 ∷ rest) → bytes_eq l plan_names ≡ false → script bytes ≡ stops 1 0 Names
unfolding script
names_wrong bytes l rest lacks e wrong = after_line from_names (λ _. stops 1 0 Names) bytes l rest lacks e (λ two more. rw wrong)

pub names_right : (bytes l rest : List ℕ) → Lacks 10 l → bytes ≡ l ++ (10 ∷ rest) → bytes_eq l plan_names ≡ true → script bytes ≡ from_plan (pieces 10 rest)
unfolding script
names_right bytes l rest lacks e right = after_line from_names from_plan bytes l rest lacks e (λ two more. rw right)

-- ---- line 2

pub plan_unended : (bytes : List ℕ) → Lacks 10 bytes → from_plan (pieces 10 bytes) ≡ stops 2 0 Values
plan_unended bytes lacks = ap from_plan (pieces_whole 10 bytes lacks)

pub plan_line : (bytes l rest : List ℕ) → Lacks 10 l → bytes ≡ l ++ (10 ∷ rest) → from_plan (pieces 10 bytes) ≡ asked Lay 2 (plan l) (from_columns (pieces 10 rest))
plan_line bytes l rest lacks e = after_line from_plan (λ ps. asked Lay 2 (plan l) (from_columns ps)) bytes l rest lacks e (λ two more. refl)

-- ---- line 3

pub columns_unended : (bytes : List ℕ) → Lacks 10 bytes → from_columns (pieces 10 bytes) ≡ stops 3 0 Names
columns_unended bytes lacks = ap from_columns (pieces_whole 10 bytes lacks)

pub columns_line : (bytes l rest : List ℕ) → Lacks 10 l → bytes ≡ l ++ (10 ∷ rest) → from_columns (pieces 10 bytes) ≡ by_columns (columns l) (pieces 10 rest)
columns_line bytes l rest lacks e = after_line from_columns (by_columns (columns l)) bytes l rest lacks e (λ two more. refl)

-- ---- the lines after the third

pub vertices_none : (order : Columns) (line : ℕ) (bytes : List ℕ) → length bytes ≡ 0 → from_vertices order line (pieces 10 bytes) ≡ ends
vertices_none order line [] h = ap (from_vertices order line) (pieces_empty 10)
vertices_none order line (b ∷ bs) h = absurd (omega arith)

pub vertices_unended : (order : Columns) (line : ℕ) (bytes : List ℕ) → 0 < length bytes → Lacks 10 bytes → from_vertices order line (pieces 10 bytes) ≡ stops line 0 Values
vertices_unended order line [] h lacks = absurd (omega arith)
vertices_unended order line (b ∷ bs) h lacks = ap (from_vertices order line) (pieces_whole 10 (b ∷ bs) lacks)

pub vertices_line :
    (order : Columns) (line : ℕ) (bytes l rest : List ℕ) → Lacks 10 l → bytes ≡ l ++ (10 ∷ rest) →
    from_vertices order line (pieces 10 bytes) ≡ asked Add line (vertex order l) (from_vertices order (suc line) (pieces 10 rest))
vertices_line order line bytes l rest lacks e =
    after_line (from_vertices order line) (λ ps. asked Add line (vertex order l) (from_vertices order (suc line) ps)) bytes l rest lacks e (λ two more. refl)
