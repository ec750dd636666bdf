use Rattle.std.proofs.Common.{◌≡◌, ◌≤◌, ◌∙◌, ℕ, length, ap, sym, true, false, set}
use Rattle.std.specs.List.{insert, prefix_len, slice_get}
use Rattle.std.proofs.lemmas.List.Sums.{prefix_len-le-length}
use Rattle.portal_base.specs.Names.{is_same}
use Rattle.portal_model.specs.Ordered.{bytes_less}
use Rattle.permission_table.specs.Keys.{is_at_place}
use Rattle.permission_table.proofs.InOrder.{place, is_there, put-new, put-over}
use Rattle.permission_table.proofs.ordered.put_in_order.Goals as goal

pub insert-requires : goal.insert-requires
insert-requires g c =
    let key = g.T.Keyed.key_of in
    let within : prefix_len (λ x. bytes_less (key x) c.key.result.now) c.deref.result.now ≤ length c.deref.result.now = prefix_len-le-length (λ x. bytes_less (key x) c.key.result.now) c.deref.result.now in
    rw (c.place_of-at.ensures, ← c.deref.ensures.len) within

pub returns-then-is_at-clause-ok : goal.returns-then-is_at-clause-ok
returns-then-is_at-clause-ok g c =
    let key = g.T.Keyed.key_of in
    let items = c.args.items.now.items in
    let at : c.place_of-at.result ≡ place key (key c.args.item) items = c.place_of-at.ensures ∙ (λ i. place key (c.key.ensures i) (c.deref.ensures.value i)) in
    let there : is_there key (key c.args.item) items ≡ true =
    sym (c.is_at.ensures ∙ (λ i. is_at_place (λ x. is_same (key x) (c.key-2.ensures i)) (slice_get (c.deref-2.ensures.value i) (at i)))) ∙ c.if-is_at.true in
    ap (λ (n : ℕ). set items n c.args.item) at ∙ put-over key c.args.item items there

pub returns-in_ok-insert-clause-ok : goal.returns-in_ok-insert-clause-ok
returns-in_ok-insert-clause-ok g c =
    let key = g.T.Keyed.key_of in
    let items = c.args.items.now.items in
    let at : c.place_of-at.result ≡ place key (key c.args.item) items = c.place_of-at.ensures ∙ (λ i. place key (c.key.ensures i) (c.deref.ensures.value i)) in
    let there : is_there key (key c.args.item) items ≡ false =
    sym (c.is_at.ensures ∙ (λ i. is_at_place (λ x. is_same (key x) (c.key-2.ensures i)) (slice_get (c.deref-2.ensures.value i) (at i)))) ∙ c.if-is_at.false in
    c.in_ok-insert.ensures.items ∙ (ap (λ (n : ℕ). insert items n c.args.item) at ∙ put-new key c.args.item items there)
