use Rattle.std.proofs.Common.{◌≡◌, ℕ, Some, None, ap, is_some, subst, sym, true, ◌∙◌}
use Rattle.std.specs.Option.{option_map}
use Rattle.std.proofs.lemmas.Option.{IfSome_then}
use Rattle.portal_model.specs.Errno.{enoent, eperm}
use Rattle.portal_model.specs.Rename.{is_own_name, rename_at, rename_temp, temp_at}
use Rattle.portal_model.specs.SeatNames.{found_temp}
use Rattle.save_files.specs.Own.{own_on, temp_of}
use Rattle.file_ops.specs.Homes.{home_told}
use Rattle.file_ops.specs.Renames.{call_told, number_left}
use Rattle.file_ops.specs.Temporaries.{entry_told}
use Rattle.file_ops.proofs.Moves.{found-in-folder, moved-along, refused-moving}
use Rattle.file_ops.proofs.Tries.{if-right, if-wrong}
use Rattle.file_ops.proofs.renamed.moving_in.Goals as goal

pub returns-then-is_name_of-clause-moved : goal.returns-then-is_name_of-clause-moved
returns-then-is_name_of-clause-moved c = λ has tree e.
    let call = call_told c.args.asked in
    let h = home_told c.args.home in
    refused-moving (rename_at call has.temps h) eperm c.args.asked.new_name.now (own_on c.args.temps.now.seats c.args.seat) tree c.refused.result
    (if-wrong (is_own_name h call.old_name) c.is_name_of.result eperm (rename_temp h call.new_name (temp_at has.temps h call.old_name)) c.is_name_of.ensures c.if-is_name_of.true) c.refused.ensures

pub returns-in-None-clause-moved : goal.returns-in-None-clause-moved
returns-in-None-clause-moved c = λ has tree e.
    let call = call_told c.args.asked in
    let h = home_told c.args.home in
    let found : temp_at has.temps h call.old_name ≡ None = sym (c.own_called.ensures.found has e) ∙ ap (option_map entry_told) c.in-None.is in
    refused-moving (rename_at call has.temps h) enoent c.args.asked.new_name.now (own_on c.args.temps.now.seats c.args.seat) tree c.refused-in-None.result
    (if-right (is_own_name h call.old_name) c.is_name_of.result eperm (rename_temp h call.new_name (temp_at has.temps h call.old_name)) c.is_name_of.ensures c.if-is_name_of.false
    ∙ ap (rename_temp h call.new_name) found)
    c.refused-in-None.ensures

pub returns-in-Some-clause-moved : goal.returns-in-Some-clause-moved
returns-in-Some-clause-moved c = λ has tree e.
    let call = call_told c.args.asked in
    let h = home_told c.args.home in
    let seat = own_on c.args.temps.now.seats c.args.seat in
    let own = entry_told c.in-Some.own in
    let found : found_temp has.temps h.view h.document.id call.old_name ≡ Some own = sym (c.own_called.ensures.found has e) ∙ ap (option_map entry_told) c.in-Some.is in
    let here = found-in-folder h.view h.document.id call.old_name has.temps own found in
    moved-along (rename_at call has.temps h) (rename_temp h call.new_name (Some own)) c.args.asked.new_name.now seat tree tree c.moving_to.result
    (if-right (is_own_name h call.old_name) c.is_name_of.result eperm (rename_temp h call.new_name (temp_at has.temps h call.old_name)) c.is_name_of.ensures c.if-is_name_of.false
    ∙ ap (rename_temp h call.new_name) found)
    (c.moving_to.ensures.moved c.in-Some.own.temp.now seat tree c.in-Some.ensures.there here.0 here.1)

pub returns-in-Some-clause-there : goal.returns-in-Some-clause-there
returns-in-Some-clause-there c =
    let seat = own_on c.args.temps.now.seats c.args.seat in
    IfSome_then (number_left c.moving_to.result) c.moving_to.ensures.number (λ n e. subst (λ (k : ℕ). is_some (temp_of seat k) ≡ true) (sym e) (ap is_some c.in-Some.ensures.there))
