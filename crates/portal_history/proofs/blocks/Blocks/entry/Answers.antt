use Rattle.std.proofs.Common.{◌≡◌, ℕ, ◌-◌, ◌*◌, ◌/◌, ◌≤◌, List, length, Some, slice_get, option_copied, sym, ap, subst, ◌∙◌, arith}
use Rattle.portal_model.specs.declared.entry.Entry.{Entry}
use Rattle.portal_history.specs.Blocks.{InBlocks}
use Rattle.portal_history.proofs.BlockLemmas.{in-block, in-last, item-at}
use Rattle.portal_history.proofs.blocks.Blocks.entry.Goals as goal

pub returns-in-Some : goal.returns-in-Some
returns-in-Some c =
    let b = c.self.inside in
    let place = c.args.place in
    let block = c.in-Some.block.now in
    let seen : slice_get c.deref.result.now (place / 1024) ≡ Some block = sym (item-at c.deref.result.now (place / 1024) c.get.result c.get.ensures.lookup) ∙ ap option_copied c.in-Some.is in
    let there = subst (λ (full : List (List Entry)). slice_get full (place / 1024) ≡ Some block) c.deref.ensures.value seen in
    c.get-in-Some.ensures
    ∙ (sym (in-block b.full.items b.last.items block place c.self.invariant.whole there) ∙ ap (λ (v : InBlocks). slice_get v.entries place) c.self.view_is)

pub returns-in-None : goal.returns-in-None
returns-in-None c =
    let b = c.self.inside in
    let place = c.args.place in
    let full = b.full.items in
    let last = b.last.items in
    let many : c.len.result ≡ length full = omega (arith, b.full.ok) in
    let past : length full ≤ place / 1024 = subst (λ (xs : List (List Entry)). length xs ≤ place / 1024) c.deref.ensures.value c.in-None.ensures.lookup.3 in
    item-at c.deref-in-None.result.now (place - c.len.result * 1024) c.get-in-None.result c.get-in-None.ensures.lookup
    ∙ (ap (λ (xs : List Entry). slice_get xs (place - c.len.result * 1024)) c.deref-in-None.ensures.value
    ∙ (ap (λ (n : ℕ). slice_get last (place - n * 1024)) many
    ∙ (sym (in-last full last place c.self.invariant.whole (omega arith)) ∙ ap (λ (v : InBlocks). slice_get v.entries place) c.self.view_is)))
