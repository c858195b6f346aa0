use Rattle.std.proofs.Common.{◌≡◌, Option, Some, None, ◌∙◌, find, refl, ap, rules, tests}
use Rattle.std.specs.Array.Iter.{array_steps, array_into_iter_items}
use Rattle.std.specs.Option.{option_map}
use Rattle.std.proofs.lemmas.Iterator.Consumers.{YieldsList-from_shown}
use Rattle.std.proofs.lemmas.Iterator.Search.{find_from_yields_List}
use Rattle.std.specs.Str.{bytes_eq}
use Rattle.text.specs.declared.names.Columns.{Columns}
use Rattle.text.specs.Lines.{vertex_names, columns}
use Rattle.text.proofs.names.named_columns.Goals as goal

as_found : (o : Option Columns) → o ≡ option_map (λ x. x) o
as_found None = refl
as_found (Some x) = refl

pub returns : goal.returns
unfolding columns
returns c =
    let all = YieldsList-from_shown array_steps (λ x. x) array_into_iter_items (λ s t e. e.0) (λ s x t e. e) c.into_iter.result in
    as_found c.find.result
    ∙ find_from_yields_List (λ o. bytes_eq c.args.line.now (vertex_names o)) _ _ c.find.result c.find.ensures.ran all (λ x b q k. search (rules, tests))
    ∙ ap (find (λ o. bytes_eq c.args.line.now (vertex_names o))) c.into_iter.ensures.into_iter_gives.0
