use Rattle.std.proofs.Common.{◌∙◌, ℕ, List, ap}
use Rattle.rights_rule.specs.Rights.{delete_name, grant_permissions_name, is_listed, read_name, union, write_name}
use Rattle.trace_items.proofs.SetsOfRights.{these, these-named}
use Rattle.trace_items.proofs.touches.listed.Goals as goal

pub returns : goal.returns
returns c =
    let first = c.union.ensures ∙ (λ i. union (c.right_if-read.ensures i) (c.right_if-write.ensures i)) in
    let second = c.union-2.ensures ∙ (λ i. union (first i) (c.right_if-grant.ensures i)) in
    let third = c.union-3.ensures ∙ (λ i. union (second i) (c.right_if-delete.ensures i)) in
    third
    ∙ ((λ i. these (c.has.ensures i) (c.has-2.ensures i) (c.has-3.ensures i) (c.has-4.ensures i))
    ∙ (ap (λ (names : List (List ℕ)). these (is_listed read_name names) (is_listed write_name names) (is_listed grant_permissions_name names) (is_listed delete_name names)) c.as_slice-names.ensures
    ∙ these-named c.args.names.now))
