use Rattle.std.proofs.Common.{◌≡◌, ◌∙◌, ap, sym, Some, None, cond, Bool}
use Rattle.std.specs.List.{prefix_len, slice_get}
use Rattle.std.specs.Option.{option_copied}
use Rattle.document_records.specs.Grants.{is_before}
use Rattle.document_records.proofs.GrantLemmas.{found-in-place, if_of, item-at}
use Rattle.document_records.proofs.grants.find.Goals as goal

pub returns-in_err-grant : goal.returns-in_err-grant
returns-in_err-grant c =
    let at : slice_get c.args.grants.now (prefix_len (is_before c.args.app.now c.args.id.number) c.args.grants.now) ≡ None =
    ap (slice_get c.args.grants.now) (sym c.place_of.ensures) ∙ (sym (item-at c.args.grants.now c.place_of.result c.get.result c.get.ensures.lookup) ∙ ap option_copied c.in_err-grant.was) in
    ap option_copied c.from_residual.ensures
    ∙ sym (found-in-place c.args.app.now c.args.id.number c.args.grants.now c.requires ∙ ap (if_of c.args.app.now c.args.id.number) at)

pub returns-then-is_of : goal.returns-then-is_of
returns-then-is_of c =
    let at : slice_get c.args.grants.now (prefix_len (is_before c.args.app.now c.args.id.number) c.args.grants.now) ≡ Some c.in_ok-grant.grant.now =
    ap (slice_get c.args.grants.now) (sym c.place_of.ensures) ∙ (sym (item-at c.args.grants.now c.place_of.result c.get.result c.get.ensures.lookup) ∙ ap option_copied c.in_ok-grant.was) in
    sym (found-in-place c.args.app.now c.args.id.number c.args.grants.now c.requires
    ∙ (ap (if_of c.args.app.now c.args.id.number) at ∙ ap (λ (b : Bool). cond b (Some c.in_ok-grant.grant.now) None) (sym c.if-is_of.ensures)))

pub returns-else-is_of : goal.returns-else-is_of
returns-else-is_of c =
    let at : slice_get c.args.grants.now (prefix_len (is_before c.args.app.now c.args.id.number) c.args.grants.now) ≡ Some c.in_ok-grant.grant.now =
    ap (slice_get c.args.grants.now) (sym c.place_of.ensures) ∙ (sym (item-at c.args.grants.now c.place_of.result c.get.result c.get.ensures.lookup) ∙ ap option_copied c.in_ok-grant.was) in
    sym (found-in-place c.args.app.now c.args.id.number c.args.grants.now c.requires
    ∙ (ap (if_of c.args.app.now c.args.id.number) at ∙ ap (λ (b : Bool). cond b (Some c.in_ok-grant.grant.now) None) (sym c.if-is_of.ensures)))
