use Rattle.std.proofs.Common.{◌≡◌, ◌≤◌, ◌∙◌, ℕ, ap, false, length, set, slice_get, sym, true}
use Rattle.std.specs.List.{insert}
use Rattle.std.proofs.lemmas.List.Sums.{prefix_len-le-length}
use Rattle.file_ops.specs.Temporaries.{is_called_so}
use Rattle.file_ops.proofs.EntryOrder.{is_ahead, is_there, place, put-new, put-over}
use Rattle.file_ops.proofs.temps_listed.put.Goals as goal

pub insert-requires : goal.insert-requires
insert-requires c =
    let within : place c.as_slice.result.now c.deref.result.now ≤ length c.deref.result.now = prefix_len-le-length (is_ahead c.as_slice.result.now) c.deref.result.now in
    rw (c.place_of-at.ensures, ← c.deref.ensures.len) within

pub returns-then-is_at : goal.returns-then-is_at
returns-then-is_at c =
    let items = c.args.names.now.items in
    let at : c.place_of-at.result ≡ place c.args.entry.name items = c.place_of-at.ensures ∙ (λ i. place (c.as_slice.ensures i) (c.deref.ensures.value i)) in
    let there : is_there c.args.entry.name items ≡ true = sym (c.is_at.ensures ∙ (λ i. is_called_so (c.as_slice-2.ensures i) (slice_get (c.deref-2.ensures.value i) (at i)))) ∙ c.if-is_at.true in
    ap (λ (n : ℕ). set items n c.args.entry) at ∙ put-over c.args.entry items there

pub returns-in_ok-insert : goal.returns-in_ok-insert
returns-in_ok-insert c =
    let items = c.args.names.now.items in
    let at : c.place_of-at.result ≡ place c.args.entry.name items = c.place_of-at.ensures ∙ (λ i. place (c.as_slice.ensures i) (c.deref.ensures.value i)) in
    let there : is_there c.args.entry.name items ≡ false = sym (c.is_at.ensures ∙ (λ i. is_called_so (c.as_slice-2.ensures i) (slice_get (c.deref-2.ensures.value i) (at i)))) ∙ c.if-is_at.false in
    c.in_ok-insert.ensures.items ∙ (ap (λ (n : ℕ). insert items n c.args.entry) at ∙ put-new c.args.entry items there)
