use Rattle.std.proofs.Common.{Some, ap, not, refl, ◌∙◌}
use Rattle.portal_model.specs.Errno.{eacces}
use Rattle.portal_model.specs.NodeVerdict.{errs_if, is_dots}
use Rattle.portal_model.specs.Rename.{is_own_name, rename_temp, rename_to}
use Rattle.portal_model.specs.SeatNames.{own_temp}
use Rattle.file_ops.specs.Homes.{home_told}
use Rattle.file_ops.specs.Renames.{name_walk, save_walk}
use Rattle.file_ops.proofs.Moves.{refused-moving}
use Rattle.file_ops.proofs.Tries.{if-right, if-wrong, passed, picked}
use Rattle.file_ops.proofs.renamed.moving_to.Goals as goal

pub returns-then-not-may_write-clause-moved : goal.returns-then-not-may_write-clause-moved
returns-then-not-may_write-clause-moved c = λ temp own tree e v d.
    let h = home_told c.args.home in
    let name = c.args.name.now in
    let t = own_temp c.args.k temp in
    refused-moving (rename_temp h name (Some t)) eacces name own tree c.refused.result
    (if-wrong (not h.may_write) (not h.may_write) eacces (errs_if (is_dots name) eacces (rename_to h name t)) refl (ap not c.if-not-may_write.true)) c.refused.ensures

pub returns-then-is_dots-clause-moved : goal.returns-then-is_dots-clause-moved
returns-then-is_dots-clause-moved c = λ temp own tree e v d.
    let h = home_told c.args.home in
    let name = c.args.name.now in
    let t = own_temp c.args.k temp in
    refused-moving (rename_temp h name (Some t)) eacces name own tree c.refused-then-is_dots.result
    (if-right (not h.may_write) (not h.may_write) eacces (errs_if (is_dots name) eacces (rename_to h name t)) refl (ap not c.if-not-may_write.false)
    ∙ if-wrong (is_dots name) c.is_dots.result eacces (rename_to h name t) c.is_dots.ensures c.if-is_dots.true)
    c.refused-then-is_dots.ensures

pub returns-then-is_name_of-clause-moved : goal.returns-then-is_name_of-clause-moved
returns-then-is_name_of-clause-moved c = λ temp own tree e v d.
    let h = home_told c.args.home in
    let name = c.args.name.now in
    let t = own_temp c.args.k temp in (
      temp,
      e,
      if-right (not h.may_write) (not h.may_write) eacces (errs_if (is_dots name) eacces (rename_to h name t)) refl (ap not c.if-not-may_write.false)
          ∙ (if-right (is_dots name) c.is_dots.result eacces (rename_to h name t) c.is_dots.ensures c.if-is_dots.false
          ∙ picked (is_own_name h name) c.is_name_of.result (save_walk c.args.k temp) (name_walk c.args.k temp name) c.is_name_of.ensures c.if-is_name_of.true),
      refl,
    )

pub returns-clause-moved : goal.returns-clause-moved
returns-clause-moved c = λ temp own tree e v d.
    let h = home_told c.args.home in
    let name = c.args.name.now in
    let t = own_temp c.args.k temp in (
      temp,
      e,
      if-right (not h.may_write) (not h.may_write) eacces (errs_if (is_dots name) eacces (rename_to h name t)) refl (ap not c.if-not-may_write.false)
          ∙ (if-right (is_dots name) c.is_dots.result eacces (rename_to h name t) c.is_dots.ensures c.if-is_dots.false
          ∙ passed (is_own_name h name) c.is_name_of.result (save_walk c.args.k temp) (name_walk c.args.k temp name) c.is_name_of.ensures c.if-is_name_of.false),
      v,
      d,
      refl,
    )
