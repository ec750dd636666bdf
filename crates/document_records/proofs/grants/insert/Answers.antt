use Rattle.std.proofs.Common.{◌∙◌, ap, ◌≤◌, ℕ, List, length}
use Rattle.std.specs.List.{insert, prefix_len}
use Rattle.std.proofs.lemmas.List.Sums.{prefix_len-le-length}
use Rattle.document_records.specs.declared.grants.Grant.{Grant}
use Rattle.document_records.specs.Grants.{is_before}
use Rattle.document_records.proofs.GrantLemmas.{placed}
use Rattle.document_records.proofs.grants.insert.Goals as goal

pub returns-clause-ok : goal.returns-clause-ok
returns-clause-ok c =
    c.in_ok-insert.ensures.items
    ∙ (ap (λ (n : ℕ). insert c.args.grants.now.items n c.args.grant) (c.place_of-at.ensures ∙ ap (λ (gs : List Grant). prefix_len (is_before c.args.grant.app c.args.grant.id.number) gs) c.deref.ensures.value)
    ∙ placed c.args.grant c.args.grants.now.items c.requires.new)

pub insert-requires : goal.insert-requires
insert-requires c =
    let within : prefix_len (is_before c.args.grant.app c.args.grant.id.number) c.deref.result.now ≤ length c.deref.result.now = prefix_len-le-length (is_before c.args.grant.app c.args.grant.id.number) c.deref.result.now in
    rw (c.place_of-at.ensures, ← c.deref.ensures.len) within
