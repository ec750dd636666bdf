use Rattle.std.proofs.Common.{ℕ, ◌∙◌, sym, ◌≡◌, ◌+◌, ◌++◌, ◌<◌, ◌≤◌, ◌∷◌, ◌-◌, rules, List, drop, length, subst, arith}
use Rattle.add_files.specs.declared.plan.PlanItem.{PlanItem}
use Rattle.document_records.specs.Documents.{room}
use Rattle.add_calls.specs.Limits.{HasRoomForAll, OwnsHold}
use Rattle.add_calls.specs.Placing.{book_of}
use Rattle.add_calls.proofs.PlacingLemmas.{drew-behind, drew-first, dropped-at, dropped-end, new_left, numbers-rest, owns-rest, placed-joined, placed-nothing, room-rest, sized-set, used-more, used-none, uses-set}
use Rattle.add_calls.proofs.place.+place_from.Goals as goal

pub place_from-requires : goal.place_from-requires
place_from-requires g t c =
    let before = book_of c.args.documents.now c.args.grants.now c.args.applications.now in
    let after = book_of c.place_item.new.documents c.place_item.new.grants c.place_item.new.applications in
    let items = drop c.args.at c.args.plan.now.items in
    let rest = drop (c.args.at + 1) c.args.plan.now.items in
    let here : items ≡ c.index-items-at.result ∷ rest = dropped-at c.args.plan.now.items c.as_slice-items.result.now c.args.at c.index-items-at.result c.as_slice-items.ensures c.if-at-items.false c.index-items-at.is in
    let inside : c.args.at < length c.args.plan.now.items = subst (λ (l : List PlanItem). c.args.at < length l) c.as_slice-items.ensures c.if-at-items.false in
    let smaller : length c.args.plan.now.items - (c.args.at + 1) < length c.args.plan.now.items - c.args.at = omega arith in
    let room_left : new_left rest ≤ room c.place_item.new.documents = room-rest c.args.who.now c.args.add.now c.args.plan.now items c.index-items-at.result rest c.in-Ok.used before after here c.requires.room c.in-Ok.ensures.ok.undone in
    let owns : OwnsHold c.args.who.now rest = owns-rest c.args.who.now items c.index-items-at.result rest here c.requires.owns in
    let numbers : HasRoomForAll c.args.who.now c.args.plan.now rest c.place_item.new.applications =
    numbers-rest c.args.who.now c.args.add.now c.args.plan.now items c.index-items-at.result rest c.in-Ok.used before after here c.requires.owns c.requires.numbers c.in-Ok.ensures.ok.uses c.in-Ok.ensures.ok.undone in
    search rules

pub returns-then-at-items-clause-ok : goal.returns-then-at-items-clause-ok
returns-then-at-items-clause-ok g t c =
    placed-nothing c.args.who.now c.args.add.now c.args.plan.now (drop c.args.at c.args.plan.now.items) (book_of c.args.documents.now c.args.grants.now c.args.applications.now) (g.W.Words.told c.args.words.now) c.args.drawn.now
    (dropped-end c.args.plan.now.items c.as_slice-items.result.now c.args.at c.as_slice-items.ensures c.if-at-items.true)

pub returns-in-Err-place_from-clause-words : goal.returns-in-Err-place_from-clause-words
returns-in-Err-place_from-clause-words g t c =
    let before = book_of c.args.documents.now c.args.grants.now c.args.applications.now in
    let mid = book_of c.place_item.new.documents c.place_item.new.grants c.place_item.new.applications in
    let here = dropped-at c.args.plan.now.items c.as_slice-items.result.now c.args.at c.index-items-at.result c.as_slice-items.ensures c.if-at-items.false c.index-items-at.is in
    drew-behind c.args.who.now c.args.add.now c.args.plan.now c.index-items-at.result c.in-Ok.used before mid (g.W.Words.told c.args.words.now) (g.W.Words.told c.place_item.new.words) c.args.drawn.now c.place_item.new.drawn c.in-Ok.ensures.ok
    (drop c.args.at c.args.plan.now.items) (drop (c.args.at + 1) c.args.plan.now.items) (g.W.Words.told c.place_from.new.words) here c.in-Err-place_from.ensures.words

pub returns-in-Err-clause-words : goal.returns-in-Err-clause-words
returns-in-Err-clause-words g t c =
    let here = dropped-at c.args.plan.now.items c.as_slice-items.result.now c.args.at c.index-items-at.result c.as_slice-items.ensures c.if-at-items.false c.index-items-at.is in
    drew-first (drop c.args.at c.args.plan.now.items) c.index-items-at.result (drop (c.args.at + 1) c.args.plan.now.items) (g.W.Words.told c.args.words.now) (g.W.Words.told c.place_item.new.words) here c.in-Err.ensures.words

pub returns-clause-ok : goal.returns-clause-ok
returns-clause-ok g t c =
    let before = book_of c.args.documents.now c.args.grants.now c.args.applications.now in
    let mid = book_of c.place_item.new.documents c.place_item.new.grants c.place_item.new.applications in
    let after = book_of c.place_from.new.documents c.place_from.new.grants c.place_from.new.applications in
    let here = dropped-at c.args.plan.now.items c.as_slice-items.result.now c.args.at c.index-items-at.result c.as_slice-items.ensures c.if-at-items.false c.index-items-at.is in
    placed-joined c.args.who.now c.args.add.now c.args.plan.now (drop c.args.at c.args.plan.now.items) _ (drop (c.args.at + 1) c.args.plan.now.items) before mid after
    (g.W.Words.told c.args.words.now) (g.W.Words.told c.place_item.new.words) (g.W.Words.told c.place_from.new.words) c.args.drawn.now c.place_item.new.drawn c.place_from.new.drawn
    here c.in-Ok.ensures.ok.placed c.in_default.ensures.ok

pub set-requires : goal.set-requires
set-requires g t c =
    let inside : c.args.at < length c.args.plan.now.items = subst (λ (l : List PlanItem). c.args.at < length l) c.as_slice-items.ensures c.if-at-items.false in
    subst (λ (n : ℕ). c.args.at < n) (sym (c.in_default.ensures.size ∙ c.requires.sized)) inside

pub returns-then-at-items-clause-used : goal.returns-then-at-items-clause-used
returns-then-at-items-clause-used g t c =
    used-none c.args.who.now c.args.add.now c.args.plan.now (drop c.args.at c.args.plan.now.items) (drop c.args.at c.args.uses.now) (book_of c.args.documents.now c.args.grants.now c.args.applications.now)
    (dropped-end c.args.plan.now.items c.as_slice-items.result.now c.args.at c.as_slice-items.ensures c.if-at-items.true)

pub returns-clause-used : goal.returns-clause-used
returns-clause-used g t c =
    let before = book_of c.args.documents.now c.args.grants.now c.args.applications.now in
    let mid = book_of c.place_item.new.documents c.place_item.new.grants c.place_item.new.applications in
    let after = book_of c.place_from.new.documents c.place_from.new.grants c.place_from.new.applications in
    let here = dropped-at c.args.plan.now.items c.as_slice-items.result.now c.args.at c.index-items-at.result c.as_slice-items.ensures c.if-at-items.false c.index-items-at.is in
    let among : c.args.at < length c.args.plan.now.items = subst (λ (l : List PlanItem). c.args.at < length l) c.as_slice-items.ensures c.if-at-items.false in
    let inside : c.args.at < length c.place_from.new.uses = subst (λ (n : ℕ). c.args.at < n) (sym (c.in_default.ensures.size ∙ c.requires.sized)) among in
    let own = uses-set c.place_from.new.uses c.set.new.self c.args.at c.in-Ok.used c.set.ensures inside in
    used-more c.args.who.now c.args.add.now c.args.plan.now (drop c.args.at c.args.plan.now.items) c.index-items-at.result (drop (c.args.at + 1) c.args.plan.now.items) (drop c.args.at c.set.new.self) c.in-Ok.used (drop (c.args.at + 1) c.place_from.new.uses)
    before mid after here own c.in-Ok.ensures.ok.undone c.in-Ok.ensures.ok.last c.in_default.ensures.used

pub returns-clause-size : goal.returns-clause-size
returns-clause-size g t c = sized-set c.place_from.new.uses c.set.new.self c.args.at c.in-Ok.used c.set.ensures ∙ c.in_default.ensures.size
