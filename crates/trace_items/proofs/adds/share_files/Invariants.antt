use Rattle.std.proofs.Common.{map, fold, take}
use Rattle.trace_items.specs.OwnAdds.{none_shared, share_file}
use Rattle.trace_items.specs.Sharings.{Tells}
use Rattle.trace_items.specs.Touches.{shown_in}
use Rattle.trace_items.proofs.adds.share_files.Given as goal

-- of the files so far
abbrev pub invariant-loop-item : goal.invariant-loop-item
invariant-loop-item l =
    Tells l.initial.sharing none_shared →
    Tells l.sharing (fold (share_file l.app (shown_in l.lent.book.documents.now.live l.lent.book.grants.now l.lent.files.now.present) l.add l.numbers) none_shared (map (λ item. item.path) (take l.item-index l.item-items)))
