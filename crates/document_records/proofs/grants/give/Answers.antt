use Rattle.std.proofs.Common.{◌≡◌, ◌∙◌, ap, sym, Some, None, ℕ}
use Rattle.std.proofs.Math.ListN.{set}
use Rattle.std.specs.List.{prefix_len, slice_get}
use Rattle.document_records.specs.declared.grants.Grant.{Grant}
use Rattle.document_records.specs.Grants.{given, is_before}
use Rattle.document_records.proofs.GrantLemmas.{changed-none, changed-one, given-stays, item-lent, nothing-lent}
use Rattle.document_records.proofs.grants.give.Goals as goal

pub returns-in-Some : goal.returns-in-Some
returns-in-Some c =
    let items = c.args.grants.now.items in
    let changed = given c.args.app.now c.args.id.number c.args.rights in
    let at : c.place_of-at.result ≡ prefix_len (is_before c.args.app.now c.args.id.number) items =
    c.place_of-at.ensures ∙ ap (prefix_len (is_before c.args.app.now c.args.id.number)) c.deref.ensures.value in
    let there : slice_get items (prefix_len (is_before c.args.app.now c.args.id.number) items) ≡ Some c.in-Some.grant.now =
    ap (slice_get items) (sym at) ∙ item-lent items c.place_of-at.result c.in-Some.grant c.in-Some.ensures.item in
    ap (λ (g : Grant). set items c.place_of-at.result g) c.give_if.ensures
    ∙ (ap (λ (n : ℕ). set items n (changed c.in-Some.grant.now)) at
    ∙ sym (changed-one c.args.app.now c.args.id.number changed (given-stays c.args.app.now c.args.id.number c.args.rights) items c.in-Some.grant.now c.requires there))

pub returns-in_default : goal.returns-in_default
returns-in_default c =
    let items = c.args.grants.now.items in
    let at : c.place_of-at.result ≡ prefix_len (is_before c.args.app.now c.args.id.number) items =
    c.place_of-at.ensures ∙ ap (prefix_len (is_before c.args.app.now c.args.id.number)) c.deref.ensures.value in
    let past : slice_get items (prefix_len (is_before c.args.app.now c.args.id.number) items) ≡ None =
    ap (slice_get items) (sym at) ∙ nothing-lent items c.place_of-at.result c.get_mut.result c.get_mut.ensures.item c.in_default.is in
    sym (changed-none c.args.app.now c.args.id.number (given c.args.app.now c.args.id.number c.args.rights) (given-stays c.args.app.now c.args.id.number c.args.rights) items c.requires past)
