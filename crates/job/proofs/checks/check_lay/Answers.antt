use Rattle.std.proofs.Common.{sym, refl, ◌∙◌}
use Rattle.std.proofs.lemmas.Bool.{or_parts, ltb-false}
use Rattle.mesh.specs.Meshes.{seen}
use Rattle.job.proofs.Refusing.{lay_refusal}
use Rattle.job.proofs.checks.check_lay.Goals as goal

pub returns-then-not-extent_fits : goal.returns-then-not-extent_fits
returns-then-not-extent_fits c =
    lay_refusal (seen c.args.mesh) c.args.p (sym c.extent_fits.ensures ∙ c.if-not-extent_fits.true) refl refl

pub returns-then-not-heights_fit : goal.returns-then-not-heights_fit
returns-then-not-heights_fit c =
    lay_refusal (seen c.args.mesh) c.args.p (sym c.extent_fits.ensures ∙ c.if-not-extent_fits.false)
    (sym c.heights_fit.ensures ∙ c.if-not-heights_fit.true) refl

pub returns-then-is_too_short : goal.returns-then-is_too_short
returns-then-is_too_short c =
    lay_refusal (seen c.args.mesh) c.args.p (sym c.extent_fits.ensures ∙ c.if-not-extent_fits.false)
    (sym c.heights_fit.ensures ∙ c.if-not-heights_fit.false) (sym c.is_too_short.ensures ∙ c.if-is_too_short.true)

pub returns : goal.returns
returns c =
    let short = sym c.is_too_short.ensures ∙ c.if-is_too_short.false in
    let long = or_parts _ _ short in (
      lay_refusal (seen c.args.mesh) c.args.p (sym c.extent_fits.ensures ∙ c.if-not-extent_fits.false)
          (sym c.heights_fit.ensures ∙ c.if-not-heights_fit.false) short,
      (ltb-false _ _ long.0, ltb-false _ _ long.1),
    )
