use Rattle.std.proofs.Common.{◌≡◌, ℕ, Some, sym, refl, ap, ap₂, ◌∙◌, subst}
use Rattle.std.proofs.lemmas.Bool.{or_parts, ltb-false, leb-false, lt-ltb, le-ltb}
use Rattle.arith.proofs.Ranges.{first_passes}
use Rattle.mesh.specs.declared.MeshRef.{MeshRef}
use Rattle.mesh.specs.Geometry.{place}
use Rattle.mesh.specs.Meshes.{seen, owner, faces, face_owns}
use Rattle.mesh.specs.Refusals.{number}
use Rattle.mesh.specs.Sound.{Sound, strictly_inside, is_occupied}
use Rattle.job.specs.Checks.{Addable}
use Rattle.job.specs.Rule.{is_full}
use Rattle.job.proofs.Refusing.{asked, exits, add_refusal, add_checked}
use Rattle.job.proofs.checks.check_add.Goals as goal

pub returns-in_err-sound : goal.returns-in_err-sound
returns-in_err-sound c =
    exits _ _ c.in_err-sound.field-0.0 _ c.from_residual.ensures.1
    (add_refusal (seen c.args.mesh) c.args.w (sym c.in_err-sound.ensures.test) refl refl refl refl refl
    ∙ ap (λ r. Some (number r)) (sym c.in_err-sound.ensures.cases))

pub returns-then-w-gt32767 : goal.returns-then-w-gt32767
returns-then-w-gt32767 c =
    add_refusal (seen c.args.mesh) c.args.w (sym c.in_ok-sound.ensures.test) (lt-ltb _ _ c.if-w-gt32767.true) refl refl refl refl

pub returns-then-not-strictly_inside : goal.returns-then-not-strictly_inside
returns-then-not-strictly_inside c =
    add_refusal (seen c.args.mesh) c.args.w (sym c.in_ok-sound.ensures.test) (le-ltb _ _ c.if-w-gt32767.false)
    (asked (strictly_inside c.args.mesh.header.now) c.point-p.ensures c.strictly_inside.ensures c.if-not-strictly_inside.true) refl refl refl

pub returns-then-is_occupied : goal.returns-then-is_occupied
returns-then-is_occupied c =
    let same = c.roomy-roomy.ensures ∙ c.in_ok-sound.ensures.cases in
    add_refusal (seen c.args.mesh) c.args.w (sym c.in_ok-sound.ensures.test) (le-ltb _ _ c.if-w-gt32767.false)
    (asked (strictly_inside c.args.mesh.header.now) c.point-p.ensures c.strictly_inside.ensures c.if-not-strictly_inside.false)
    (ap₂ (λ (r : MeshRef) q. is_occupied (seen r) q) (sym same) (sym c.point-p.ensures) ∙ sym c.is_occupied.ensures ∙ c.if-is_occupied.true) refl refl

pub returns-then-is_full : goal.returns-then-is_full
returns-then-is_full c =
    let same = c.roomy-roomy.ensures ∙ c.in_ok-sound.ensures.cases in
    add_refusal (seen c.args.mesh) c.args.w (sym c.in_ok-sound.ensures.test) (le-ltb _ _ c.if-w-gt32767.false)
    (asked (strictly_inside c.args.mesh.header.now) c.point-p.ensures c.strictly_inside.ensures c.if-not-strictly_inside.false)
    (ap₂ (λ (r : MeshRef) q. is_occupied (seen r) q) (sym same) (sym c.point-p.ensures) ∙ sym c.is_occupied.ensures ∙ c.if-is_occupied.false)
    (asked (λ (r : MeshRef). is_full (seen r)) same c.is_full.ensures c.if-is_full.true) refl

pub returns : goal.returns
unfolding owner
returns c =
    let m = seen c.args.mesh in
    let same = c.roomy-roomy.ensures ∙ c.in_ok-sound.ensures.cases in
    let inside = asked (strictly_inside m.header) c.point-p.ensures c.strictly_inside.ensures c.if-not-strictly_inside.false in
    let occupied = ap₂ (λ (r : MeshRef) q. is_occupied (seen r) q) (sym same) (sym c.point-p.ensures) ∙ sym c.is_occupied.ensures ∙ c.if-is_occupied.false in
    let full = asked (λ (r : MeshRef). is_full (seen r)) same c.is_full.ensures c.if-is_full.false in
    let room = or_parts _ _ full in
    let few = or_parts _ _ room.0 in
    let owner_is : c.owner.result ≡ owner m (place c.args.w) = c.owner.ensures ∙ ap₂ (λ (r : MeshRef) q. owner (seen r) q) (c.placed.ensures ∙ c.in_ok-sound.ensures.cases) c.point-p.ensures in
    let found : (f : ℕ) → c.owner.result ≡ Some f → Addable m c.args.w f = λ f e.
    let owned = sym owner_is ∙ e in record {
      sound = subst (λ (r : MeshRef). Sound (seen r)) c.in_ok-sound.ensures.cases c.in_ok-sound.sound.sound;
      inside = inside;
      owned = owned;
      within = (first_passes (face_owns m (place c.args.w)) (faces m) f owned).0;
      few = leb-false _ _ few.0;
      vertices_fit = leb-false _ _ few.1;
      half_edges_fit = ltb-false _ _ room.1;
    } in
    rw c.ok_or.ensures.value (add_checked m c.args.w c.owner.result
    (add_refusal m c.args.w (sym c.in_ok-sound.ensures.test) (le-ltb _ _ c.if-w-gt32767.false) inside occupied full (sym owner_is)) found)
