use Rattle.std.proofs.Common.{◌∙◌, Option, ap}
use Rattle.std.specs.Option.{option_map}
use Rattle.portal_model.specs.Create.{create_in}
use Rattle.portal_model.specs.Errno.{einval, enametoolong, enotdir}
use Rattle.portal_model.specs.NodeVerdict.{by_place, errs_if, is_too_long, no_file}
use Rattle.portal_model.specs.Open.{has_no_mode}
use Rattle.node_looks.specs.Sights.{sight_of}
use Rattle.node_looks.specs.declared.sight.SeenPlace.{SeenPlace}
use Rattle.file_ops.proofs.Tries.{if-right}
use Rattle.file_ops.proofs.created.find_target.Goals as goal

pub returns-in-Some : goal.returns-in-Some
returns-in-Some c = λ b who r room namings temps.
    let makes = λ (o : Option SeenPlace). by_place (option_map (sight_of b who) o) (no_file enotdir) (create_in r c.args.name.now c.args.flags room namings temps) in
    if-right (has_no_mode c.args.flags) c.has_no_mode.result einval (errs_if (is_too_long c.args.name.now) enametoolong (makes c.args.place)) c.has_no_mode.ensures c.if-has_no_mode.false
    ∙ (if-right (is_too_long c.args.name.now) c.is_too_long.result enametoolong (makes c.args.place) c.is_too_long.ensures c.if-is_too_long.false
    ∙ (ap makes c.in-Some.is ∙ c.target_at.ensures b who r c.args.name.now c.args.flags room namings temps))
