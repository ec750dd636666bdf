use Rattle.std.proofs.Common.{List, ap, map, sym, ◌∙◌}
use Rattle.app_world.specs.Effect.{Effect}
use Rattle.app_world.specs.TraceItem.{item_of}
use Rattle.trace_items.specs.declared.changes.FileUpdate.{FileUpdate}
use Rattle.trace_items.specs.Awaited.{change_of}
use Rattle.trace_items.specs.FilesChanged.{news_of}
use Rattle.trace_items.proofs.LentParts.{news-written}
use Rattle.trace_items.proofs.nodes.file_item.Goals as goal

pub returns-in_ok-bytes_item-in-Write : goal.returns-in_ok-bytes_item-in-Write
returns-in_ok-bytes_item-in-Write c =
    c.in_ok-bytes_item-in-Write.ensures
    ∙ (ap (λ (effects : List Effect). map item_of effects) (news-written c.in-Write.name c.in-Write.offset c.in-Write.content.now c.in-Write.now c.args.after.now (sym c.is_empty.ensures ∙ c.if-is_empty.false))
    ∙ ap (λ (u : FileUpdate). map item_of (news_of (change_of u) c.args.after.now)) (sym c.in-Write.is))

pub returns-in_ok-bytes_item-in-Resize : goal.returns-in_ok-bytes_item-in-Resize
returns-in_ok-bytes_item-in-Resize c =
    c.in_ok-bytes_item-in-Resize.ensures
    ∙ ap (λ (u : FileUpdate). map item_of (news_of (change_of u) c.args.after.now)) (sym c.in-Resize.is)
