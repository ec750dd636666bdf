use Rattle.std.proofs.Common.{◌≡◌, ◌≤◌, ℕ, fold, length, Option, None, List, ap, arith, refl, subst, sym, ◌∙◌}
use Rattle.std.proofs.lemmas.Result.{err_from_is_err_and}
use Rattle.inode_table.specs.Counts.{count_of}
use Rattle.inode_table.specs.declared.inodes.SeatNode.{SeatNode}
use Rattle.file_ops.specs.SeatNames.{own_tables}
use Rattle.portal_model.specs.declared.state.Connection.{Connection}
use Rattle.portal_core.specs.Renewing.{lesser}
use Rattle.portal_core.proofs.Renewals.{keeps_again, least_open, none_listed, none_open, opens_again, same_state, stands_again, stored_again}
use Rattle.portal_core.proofs.portal.Portal.renew.Goals as goal

none_seen : (cs seen : List Connection) (least : Option ℕ) → seen ≡ cs → least ≡ fold lesser None seen → least ≡ None → fold lesser None cs ≡ None
none_seen cs seen least s l n = ap (fold lesser None) (sym s) ∙ (sym l ∙ n)

pub returns-in-Some-clause-cause : goal.returns-in-Some-clause-cause
returns-in-Some-clause-cause g c =
    rw (← c.self.view_is) (least_open c.self.inside.connections _ c.in-Some.seat c.self.invariant.0.holds.lists.connected
    (ap (fold lesser None) (sym c.as_slice.ensures) ∙ (sym c.least_seat.ensures ∙ c.in-Some.is)))

pub returns-in_err-opening-clause-cause : goal.returns-in_err-opening-clause-cause
returns-in_err-opening-clause-cause g c =
    let p = err_from_is_err_and c.from_residual.result c.from_residual.ensures.1 in
    let none = none_seen c.self.inside.connections c.as_slice.result.now c.least_seat.result c.as_slice.ensures c.least_seat.ensures c.in_default.is in
    rw (p.1, p.2, ← c.self.view_is) (none_open c.self.inside.connections _ c.self.invariant.0.holds.lists.connected none)

pub returns-in_err-settle-clause-cause : goal.returns-in_err-settle-clause-cause
returns-in_err-settle-clause-cause g c =
    let p = err_from_is_err_and c.from_residual-in_err-settle.result c.from_residual-in_err-settle.ensures.1 in
    let none = none_seen c.self.inside.connections c.as_slice.result.now c.least_seat.result c.as_slice.ensures c.least_seat.ensures c.in_default.is in
    rw (p.1, p.2, ← c.self.view_is) (none_open c.self.inside.connections _ c.self.invariant.0.holds.lists.connected none)

pub invariant_of-self-2 : goal.invariant_of-self-2
invariant_of-self-2 g c =
    let none = none_seen c.self.inside.connections c.as_slice.result.now c.least_seat.result c.as_slice.ensures c.least_seat.ensures c.in_default.is in
    let tree = rw (c.in_ok-settle.ensures.ok) at c.known.ensures.told in
    rw (c.in_ok-settle.ensures.ok, c.new.ensures.entries, c.new.ensures.limit, c.in_ok-opening.ensures.value, c.taken.ensures) (
      stands_again (g.T.HostTree.is c.self.inside.tree).began c.self.inside.opening c.self.inside.history.entries c.self.inside.history.limit c.self.inside.documents c.self.inside.rights c.self.inside.applications c.self.inside.connections c.self.inside.handles (own_tables c.self.inside.namings c.self.inside.temps) (g.T.HostTree.is c.self.inside.tree).told c.self.invariant.0 none c.self.inside.tables c.self.inside.outboxes c.self.invariant.3 c.in_ok-opening.ensures.rows tree,
      subst (λ (cs : List Connection). length cs ≤ c.new.result.spare) (sym (none_listed c.self.inside.connections none)) (omega arith),
      keeps_again (g.T.HostTree.is c.self.inside.tree).began c.self.inside.opening c.self.inside.history.entries c.self.inside.history.limit c.self.inside.documents c.self.inside.rights c.self.inside.applications c.self.inside.connections c.self.inside.handles (own_tables c.self.inside.namings c.self.inside.temps) (g.T.HostTree.is c.self.inside.tree).told c.self.invariant.0 none c.self.inside.tables c.self.inside.outboxes c.self.invariant.3 c.in_ok-opening.ensures.rows tree (g.K.Keeper.is c.self.inside.keeper).told c.self.invariant.2,
      stored_again (g.T.HostTree.is c.self.inside.tree).began c.self.inside.opening c.self.inside.history.entries c.self.inside.history.limit c.self.inside.documents c.self.inside.rights c.self.inside.applications c.self.inside.connections c.self.inside.handles (own_tables c.self.inside.namings c.self.inside.temps) (g.T.HostTree.is c.self.inside.tree).told c.self.invariant.0 none c.self.inside.tables c.self.inside.outboxes c.self.invariant.3 c.in_ok-opening.ensures.rows tree,
      opens_again (g.T.HostTree.is c.self.inside.tree).began c.self.inside.opening c.self.inside.history.entries c.self.inside.history.limit c.self.inside.documents c.self.inside.rights c.self.inside.applications c.self.inside.connections c.self.inside.handles (own_tables c.self.inside.namings c.self.inside.temps) (g.T.HostTree.is c.self.inside.tree).told c.self.invariant.0 none c.self.inside.tables c.self.inside.outboxes c.self.invariant.3 c.in_ok-opening.ensures.rows tree,
      λ seat node. ap (λ (counts : List (SeatNode × ℕ)). count_of counts seat node) c.new-2.ensures,
    )

pub returns-clause-ok : goal.returns-clause-ok
returns-clause-ok g c =
    let none = none_seen c.self.inside.connections c.as_slice.result.now c.least_seat.result c.as_slice.ensures c.least_seat.ensures c.in_default.is in
    let tree = rw (c.in_ok-settle.ensures.ok) at c.known.ensures.told in
    rw (← c.self.view_is) (record {
      closed = none_open c.self.inside.connections _ c.self.invariant.0.holds.lists.connected none;
      opening = rw (c.in_ok-settle.ensures.ok, c.in_ok-opening.ensures.value, c.taken.ensures) (same_state (g.T.HostTree.is c.self.inside.tree).began c.self.inside.opening c.self.inside.history.entries c.self.inside.history.limit c.self.inside.documents c.self.inside.rights c.self.inside.applications c.self.inside.connections c.self.inside.handles (own_tables c.self.inside.namings c.self.inside.temps) (g.T.HostTree.is c.self.inside.tree).told c.self.invariant.0 none c.self.inside.tables c.self.inside.outboxes c.self.invariant.3 c.in_ok-opening.ensures.rows tree);
      history = c.new.ensures.entries;
      tree = c.in_ok-settle.ensures.ok;
      began = refl;
      keeper_kept = refl;
      clock_kept = refl;
      words_kept = refl;
      refusals_kept = refl;
    })
