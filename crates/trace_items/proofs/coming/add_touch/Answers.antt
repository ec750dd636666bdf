use Rattle.std.proofs.Common.{List, ℕ, ap, map, sym, ◌∙◌}
use Rattle.portal_model.specs.declared.state.Connection.{Connection}
use Rattle.app_world.specs.Effect.{Effect}
use Rattle.app_world.specs.TraceItem.{item_of}
use Rattle.app_trace.specs.declared.trace.TraceItem.{TraceItem}
use Rattle.trace_items.specs.OwnAdds.{is_in_order}
use Rattle.app_trace.specs.Told.{item_told}
use Rattle.trace_items.proofs.NodeParts.{if-ok}
use Rattle.trace_items.proofs.SharedFiles.{touch-unnamed}
use Rattle.trace_items.proofs.coming.add_touch.Goals as goal

pub returns-then-names_app : goal.returns-then-names_app
returns-then-names_app c = if-ok c.named_touch.result c.named_touch.ensures (λ items f s k shows silenced other order.
    let waiting = sym (c.as_slice.ensures ∙ ap (λ (x : Connection). x.queue) silenced) in
    f s k shows waiting other (sym c.names_app.ensures ∙ c.if-names_app.true) (ap (λ (q : List (List ℕ)). is_in_order q c.args.add.now) (sym waiting) ∙ order))

pub returns : goal.returns
returns c = λ s k shows silenced other order.
    ap (λ (items : List TraceItem). map item_told items) c.new.ensures
    ∙ ap (λ (effects : List Effect). map item_of effects) (sym (touch-unnamed c.args.app.now s k c.args.add.now c.args.numbers.now (sym c.names_app.ensures ∙ c.if-names_app.false)))
