use Rattle.std.proofs.Common.{◌≡◌, ℕ, Some, None, Option, sym, refl, ap, ◌∙◌}
use Rattle.std.specs.Option.{ok_or}
use Rattle.std.proofs.lemmas.Bool.{both_ways, cond-true, cond-false}
use Rattle.std.proofs.lemmas.Result.{err_from_is_err_and}
use Rattle.mesh.specs.declared.MeshRef.{MeshRef}
use Rattle.mesh.specs.declared.Refusal.TheVariants.{Unowned}
use Rattle.mesh.specs.Meshes.{seen, owner}
use Rattle.mesh.specs.Sound.{is_sound}
use Rattle.mesh.proofs.Decide.{sound_passes}
use Rattle.tiling.specs.Tiles.{located, found}
use Rattle.tiling.proofs.Tiled.{tiles, owner_found}
use Rattle.tiling.proofs.locate.Goals as goal

pub returns-in_err-sound : goal.returns-in_err-sound
unfolding located
returns-in_err-sound c =
    let m = seen c.args.mesh in
    let no = sym c.in_err-sound.ensures.test in
    let p = err_from_is_err_and c.from_residual.result c.from_residual.ensures.1 in
    record {
      tiles = tiles;
      answer = rw (p.1, p.2, c.in_err-sound.ensures.cases) (sym (cond-false _ _ _ no));
      found = λ σ g. absurd (both_ways (is_sound m) no (sound_passes m σ));
    }

found_is : (o : Option ℕ) → ok_or o Unowned ≡ found o
found_is (Some f) = refl
found_is None = refl

pub returns : goal.returns
unfolding located
returns c =
    let m = seen c.args.mesh in
    let owner_is : c.owner.result ≡ owner m c.args.w =
    c.owner.ensures ∙ ap (λ (r : MeshRef). owner (seen r) c.args.w) (c.placed.ensures ∙ c.in_ok-sound.ensures.cases) in
    record {
      tiles = tiles;
      answer = c.ok_or.ensures.value ∙ found_is c.owner.result ∙ ap found owner_is ∙ sym (cond-true _ _ _ (sym c.in_ok-sound.ensures.test));
      found = λ σ g. let f = owner_found m σ c.args.w g in rw (c.ok_or.ensures.variant, owner_is, f.1) refl;
    }
