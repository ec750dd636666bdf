use Rattle.std.proofs.Common.{◌∷◌, [], rules, sym, ap, ◌∙◌}
use Rattle.portal_base.specs.Names.{is_app_name}
use Rattle.portal_model.specs.Opening.{id_of, set_of_bits}
use Rattle.rights_rule.specs.Rights.{is_no_right}
use Rattle.std.proofs.lemmas.List.Sums.{fold-append}
use Rattle.document_records.specs.Grants.{with_given}
use Rattle.portal_model.proofs.RightsLaws.{named-added, none-added}
use Rattle.document_records.specs.Given.{given_by}
use Rattle.document_records.proofs.granted.add_grant.Goals as goal

pub returns-then-is_empty : goal.returns-then-is_empty
returns-then-is_empty c =
    let none = ap is_no_right (sym c.set_of_bits-rights.ensures) ∙ sym c.if-is_empty.ensures in
    sym (none-added c.args.grant.now.app (id_of c.args.number) (set_of_bits c.args.grant.now.rights) (given_by c.args.grants.now) none c.requires.order)

pub known_name-requires : goal.known_name-requires
known_name-requires c =
    let some = ap is_no_right (sym c.set_of_bits-rights.ensures) ∙ sym c.if-is_empty.ensures in
    ap is_app_name c.as_slice.ensures ∙ named-added is_app_name c.args.grant.now.app (id_of c.args.number) (set_of_bits c.args.grant.now.rights) (given_by c.args.grants.now) some c.requires.names

pub returns : goal.returns
returns c = ap given_by c.in_ok-push.ensures.ok ∙ fold-append with_given [] c.args.grants.now (_ ∷ []) ∙ search rules
