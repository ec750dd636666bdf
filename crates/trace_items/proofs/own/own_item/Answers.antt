use Rattle.std.proofs.Common.{ℕ, List, ap, option_copied, sym, ◌∙◌}
use Rattle.portal_model.specs.declared.state.Connection.{Connection}
use Rattle.trace_items.specs.OwnAdds.{is_in_order}
use Rattle.trace_items.proofs.ComingLaws.{bus-heard}
use Rattle.trace_items.proofs.NodeParts.{if-ok}
use Rattle.trace_items.proofs.OwnEntries.{lawful-asked, own-add}
use Rattle.trace_items.proofs.own.own_item.Goals as goal

pub returns-in-Some : goal.returns-in-Some
returns-in-Some c = if-ok c.own_add.result c.own_add.ensures (λ u f s shows l lend.
    let e = c.args.entry.now in
    let a = c.in-Add.add in
    let k = bus-heard s e.seat (option_copied c.args.connection) c.in-Some.bus.now lend (sym c.bus_of.ensures ∙ ap option_copied c.in-Some.is) in
    let waiting = sym (c.as_slice.ensures ∙ ap (λ (x : Connection). x.queue) k.is_silent) in
    f s k.connection shows waiting (λ o. lawful-asked s e a k.connection c.in-Add.is k.here l.given (ap (λ (q : List (List ℕ)). is_in_order q a) waiting ∙ o))
    ∙ own-add s e a k.connection c.in-Add.is k.here)
