use Rattle.std.proofs.Common.{◌≡◌, ◌+◌, ◌-◌, ◌<◌, ◌∷◌, List, drop, length, subst, sym, rules, arith, inl, inr}
use Rattle.add_files.specs.declared.plan.PlanItem.{PlanItem}
use Rattle.add_calls.specs.Placing.{Book, IsLastUse, WerePlaced, book_of}
use Rattle.add_calls.proofs.PlacingLemmas.{dropped-at, dropped-end, dropped-uses, item-back, no-uses, used-end, used-parts}
use Rattle.add_calls.proofs.place.+take_back_from.Goals as goal

pub take_back_from-requires : goal.take_back_from-requires
take_back_from-requires t c =
    let here : drop c.args.at c.args.plan.now.items ≡ c.index-items-at.result ∷ drop (c.args.at + 1) c.args.plan.now.items = dropped-at c.args.plan.now.items c.as_slice-items.result.now c.args.at c.index-items-at.result c.as_slice-items.ensures c.if-at-items.false c.index-items-at.is in
    let own : drop c.args.at c.args.uses.now ≡ c.index-uses-at.result ∷ drop (c.args.at + 1) c.args.uses.now = dropped-uses c.args.uses.now c.args.at c.index-uses-at.result c.if-at-uses.false c.index-uses-at.is in
    let inside : c.args.at < length c.args.plan.now.items = subst (λ (l : List PlanItem). c.args.at < length l) c.as_slice-items.ensures c.if-at-items.false in
    let smaller : length c.args.plan.now.items - (c.args.at + 1) < length c.args.plan.now.items - c.args.at = omega arith in
    let a = c.requires.0 in
    let before = c.requires.1 in
    let parts = used-parts c.args.who.now a c.args.plan.now (drop c.args.at c.args.plan.now.items) c.index-items-at.result (drop (c.args.at + 1) c.args.plan.now.items) (drop c.args.at c.args.uses.now) c.index-uses-at.result (drop (c.args.at + 1) c.args.uses.now)
    before (book_of c.args.documents.now c.args.grants.now c.args.applications.now) here own c.requires.2 in
    let placed : WerePlaced c.args.who.now c.args.plan.now (drop (c.args.at + 1) c.args.plan.now.items) (drop (c.args.at + 1) c.args.uses.now) (book_of c.args.documents.now c.args.grants.now c.args.applications.now) = (a, parts.0, parts.3) in
    search rules

pub take_item_back-requires : goal.take_item_back-requires
take_item_back-requires t c =
    let here : drop c.args.at c.args.plan.now.items ≡ c.index-items-at.result ∷ drop (c.args.at + 1) c.args.plan.now.items = dropped-at c.args.plan.now.items c.as_slice-items.result.now c.args.at c.index-items-at.result c.as_slice-items.ensures c.if-at-items.false c.index-items-at.is in
    let own : drop c.args.at c.args.uses.now ≡ c.index-uses-at.result ∷ drop (c.args.at + 1) c.args.uses.now = dropped-uses c.args.uses.now c.args.at c.index-uses-at.result c.if-at-uses.false c.index-uses-at.is in
    let a = c.requires.0 in
    let before = c.requires.1 in
    let parts = used-parts c.args.who.now a c.args.plan.now (drop c.args.at c.args.plan.now.items) c.index-items-at.result (drop (c.args.at + 1) c.args.plan.now.items) (drop c.args.at c.args.uses.now) c.index-uses-at.result (drop (c.args.at + 1) c.args.uses.now)
    before (book_of c.args.documents.now c.args.grants.now c.args.applications.now) here own c.requires.2 in
    let back = c.take_back_from.ensures a parts.0 parts.3 in
    subst (λ (b : Book). IsLastUse c.index-items-at.result.place c.index-uses-at.result b.documents) (sym back) parts.2

pub returns-then-at-items : goal.returns-then-at-items
returns-then-at-items t c = λ a before u.
    used-end c.args.who.now a c.args.plan.now (drop c.args.at c.args.plan.now.items) (drop c.args.at c.args.uses.now) before (book_of c.args.documents.now c.args.grants.now c.args.applications.now)
    (inl (dropped-end c.args.plan.now.items c.as_slice-items.result.now c.args.at c.as_slice-items.ensures c.if-at-items.true)) u

pub returns-then-at-uses : goal.returns-then-at-uses
returns-then-at-uses t c = λ a before u.
    used-end c.args.who.now a c.args.plan.now (drop c.args.at c.args.plan.now.items) (drop c.args.at c.args.uses.now) before (book_of c.args.documents.now c.args.grants.now c.args.applications.now)
    (inr (no-uses c.args.uses.now c.args.at c.if-at-uses.true)) u

pub returns : goal.returns
returns t c = λ a before u.
    let here : drop c.args.at c.args.plan.now.items ≡ c.index-items-at.result ∷ drop (c.args.at + 1) c.args.plan.now.items = dropped-at c.args.plan.now.items c.as_slice-items.result.now c.args.at c.index-items-at.result c.as_slice-items.ensures c.if-at-items.false c.index-items-at.is in
    let own : drop c.args.at c.args.uses.now ≡ c.index-uses-at.result ∷ drop (c.args.at + 1) c.args.uses.now = dropped-uses c.args.uses.now c.args.at c.index-uses-at.result c.if-at-uses.false c.index-uses-at.is in
    let parts = used-parts c.args.who.now a c.args.plan.now (drop c.args.at c.args.plan.now.items) c.index-items-at.result (drop (c.args.at + 1) c.args.plan.now.items) (drop c.args.at c.args.uses.now) c.index-uses-at.result (drop (c.args.at + 1) c.args.uses.now)
    before (book_of c.args.documents.now c.args.grants.now c.args.applications.now) here own u in
    let back = c.take_back_from.ensures a parts.0 parts.3 in
    let was = item-back c.args.who.now a c.args.plan.now c.index-items-at.result c.index-uses-at.result before parts.0 (book_of c.take_back_from.new.documents c.take_back_from.new.grants c.take_back_from.new.applications) back parts.1 in
    λ i. book_of (c.take_item_back.ensures.documents a before was i) (c.take_item_back.ensures.rights a before was i) (c.take_item_back.ensures.applications a before was i)
