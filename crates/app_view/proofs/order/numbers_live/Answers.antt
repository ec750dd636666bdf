use Rattle.std.proofs.Common.{◌≡◌, ◌∙◌, ap, arith}
use Rattle.std.proofs.lemmas.List.{take_all}
use Rattle.std.proofs.lemmas.List.Sorted.{IsNonDecreasingBy-from_sort}
use Rattle.document_records.specs.DocumentIndex.{live_numbers}
use Rattle.app_view.proofs.SortedNumbers.{sorted-live}
use Rattle.app_view.proofs.order.numbers_live.Goals as goal

pub returns : goal.returns
returns c =
    let live = c.live-document-items.result.now in
    let all : c.loop-document.numbers.items ≡ live_numbers live =
    c.loop-document.invariant
    ∙ ap live_numbers (take_all c.loop-document.document-index live (omega arith)) in
    sorted-live c.args.book.now.grants.now c.args.book.now.documents.now.live live
    c.loop-document.numbers.items c.sort_unstable.new.self.items c.live-document-items.ensures.value
    c.live-document-items.ensures.kept.live_differ all c.sort_unstable.ensures.permutation
    (IsNonDecreasingBy-from_sort (λ n. n) c.sort_unstable.new.self.items
    c.sort_unstable.ensures.sorted)
