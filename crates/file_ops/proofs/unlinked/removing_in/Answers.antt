use Rattle.std.proofs.Common.{◌≡◌, None, Some, ap, sym, ◌∙◌}
use Rattle.std.specs.Option.{option_map}
use Rattle.portal_model.specs.Errno.{enoent, eperm}
use Rattle.portal_model.specs.Rename.{is_own_name, temp_at}
use Rattle.portal_model.specs.Unlink.{unlink_at, unlink_temp}
use Rattle.file_ops.specs.Homes.{home_told}
use Rattle.file_ops.specs.Temporaries.{entry_told}
use Rattle.file_ops.proofs.Removals.{refusal-so, temp-removed}
use Rattle.file_ops.proofs.Tries.{if-right, if-wrong}
use Rattle.file_ops.proofs.unlinked.removing_in.Goals as goal

pub returns-then-is_name_of-clause-removed : goal.returns-then-is_name_of-clause-removed
returns-then-is_name_of-clause-removed c = λ has tree e.
    let h = home_told c.args.home in
    let name = c.args.name.now in
    refusal-so (unlink_at name has.temps (Some h)) eperm tree c.refused_behind.result
    (if-wrong (is_own_name h name) c.is_name_of.result eperm (unlink_temp h (temp_at has.temps h name)) c.is_name_of.ensures c.if-is_name_of.true) c.refused_behind.ensures

pub returns-in-None-clause-removed : goal.returns-in-None-clause-removed
returns-in-None-clause-removed c = λ has tree e.
    let h = home_told c.args.home in
    let name = c.args.name.now in
    let found : temp_at has.temps h name ≡ None = sym (c.own_called.ensures.found has e) ∙ ap (option_map entry_told) c.in-None.is in
    refusal-so (unlink_at name has.temps (Some h)) enoent tree c.refused_behind-in-None.result
    (if-right (is_own_name h name) c.is_name_of.result eperm (unlink_temp h (temp_at has.temps h name)) c.is_name_of.ensures c.if-is_name_of.false
    ∙ ap (unlink_temp h) found)
    c.refused_behind-in-None.ensures

pub returns-in-Some-clause-removed : goal.returns-in-Some-clause-removed
returns-in-Some-clause-removed c = λ has tree e.
    let h = home_told c.args.home in
    let name = c.args.name.now in
    let found : temp_at has.temps h name ≡ Some (entry_told c.in-Some.own) = sym (c.own_called.ensures.found has e) ∙ ap (option_map entry_told) c.in-Some.is in
    temp-removed h.may_write c.in-Some.own.k (unlink_at name has.temps (Some h)) tree c.removing_temp.result
    (if-right (is_own_name h name) c.is_name_of.result eperm (unlink_temp h (temp_at has.temps h name)) c.is_name_of.ensures c.if-is_name_of.false
    ∙ ap (unlink_temp h) found)
    c.removing_temp.ensures
