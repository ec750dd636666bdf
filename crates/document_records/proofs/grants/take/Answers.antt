use Rattle.std.proofs.Common.{◌≡◌, ◌∙◌, ◌<◌, ap, sym, not, true, false, length, Some, None, ℕ}
use Rattle.std.proofs.Math.ListN.{set}
use Rattle.std.specs.List.{filter, prefix_len, slice_get}
use Rattle.document_records.specs.declared.grants.Grant.{Grant}
use Rattle.document_records.specs.Grants.{has_a_right, is_before, taken}
use Rattle.document_records.proofs.GrantLemmas.{all-held, changed-none, changed-one, item-lent, nothing-lent, one-gone, one-held, taken-stays}
use Rattle.document_records.proofs.grants.take.Goals as goal

pub returns-in_default : goal.returns-in_default
returns-in_default c =
    let items = c.args.grants.now.items in
    let at : c.place_of-at.result ≡ prefix_len (is_before c.args.app.now c.args.id.number) items =
    c.place_of-at.ensures ∙ ap (prefix_len (is_before c.args.app.now c.args.id.number)) c.deref.ensures.value in
    let past : slice_get items (prefix_len (is_before c.args.app.now c.args.id.number) items) ≡ None =
    ap (slice_get items) (sym at) ∙ nothing-lent items c.place_of-at.result c.get_mut.result c.get_mut.ensures.item c.in_default.is in
    sym (ap (filter has_a_right)
    (changed-none c.args.app.now c.args.id.number (taken c.args.app.now c.args.id.number c.args.rights) (taken-stays c.args.app.now c.args.id.number c.args.rights) items c.requires.order past)
    ∙ all-held items c.requires.held)

pub returns-then-is_empty : goal.returns-then-is_empty
returns-then-is_empty c =
    let items = c.args.grants.now.items in
    let at = c.place_of-at.result in
    let changed = taken c.args.app.now c.args.id.number c.args.rights in
    let place : at ≡ prefix_len (is_before c.args.app.now c.args.id.number) items =
    c.place_of-at.ensures ∙ ap (prefix_len (is_before c.args.app.now c.args.id.number)) c.deref.ensures.value in
    let there : slice_get items (prefix_len (is_before c.args.app.now c.args.id.number) items) ≡ Some c.in-Some.grant.now =
    ap (slice_get items) (sym place) ∙ item-lent items at c.in-Some.grant c.in-Some.ensures.item in
    let within : at < length items = c.in-Some.ensures.item.3.0 in
    let gone : has_a_right c.take_if.new.grant ≡ false = ap not (sym (sym c.if-is_empty.true ∙ c.is_empty.ensures)) in
    c.remove.ensures.items
    ∙ (sym (one-gone items at c.take_if.new.grant within c.requires.held gone)
    ∙ ap (filter has_a_right)
    (ap (λ (g : Grant). set items at g) c.take_if.ensures
    ∙ (ap (λ (n : ℕ). set items n (changed c.in-Some.grant.now)) place
    ∙ sym (changed-one c.args.app.now c.args.id.number changed (taken-stays c.args.app.now c.args.id.number c.args.rights) items c.in-Some.grant.now c.requires.order there))))

pub returns-else-is_empty : goal.returns-else-is_empty
returns-else-is_empty c =
    let items = c.args.grants.now.items in
    let at = c.place_of-at.result in
    let changed = taken c.args.app.now c.args.id.number c.args.rights in
    let place : at ≡ prefix_len (is_before c.args.app.now c.args.id.number) items =
    c.place_of-at.ensures ∙ ap (prefix_len (is_before c.args.app.now c.args.id.number)) c.deref.ensures.value in
    let there : slice_get items (prefix_len (is_before c.args.app.now c.args.id.number) items) ≡ Some c.in-Some.grant.now =
    ap (slice_get items) (sym place) ∙ item-lent items at c.in-Some.grant c.in-Some.ensures.item in
    let left : has_a_right c.take_if.new.grant ≡ true = ap not (sym (sym c.if-is_empty.false ∙ c.is_empty.ensures)) in
    sym (one-held items at c.take_if.new.grant c.requires.held left)
    ∙ ap (filter has_a_right)
    (ap (λ (g : Grant). set items at g) c.take_if.ensures
    ∙ (ap (λ (n : ℕ). set items n (changed c.in-Some.grant.now)) place
    ∙ sym (changed-one c.args.app.now c.args.id.number changed (taken-stays c.args.app.now c.args.id.number c.args.rights) items c.in-Some.grant.now c.requires.order there)))
