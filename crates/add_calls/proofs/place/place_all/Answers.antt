use Rattle.std.proofs.Common.{refl}
use Rattle.add_calls.specs.Placing.{book_of, words_for}
use Rattle.add_calls.proofs.Counts.{owns-hold}
use Rattle.add_calls.proofs.PlacingLemmas.{all-placed, drew-none, numbers-for-all, room-for-all}
use Rattle.add_calls.proofs.place.place_all.Goals as goal

pub place_from-requires-clause-room : goal.place_from-requires-clause-room
place_from-requires-clause-room g c = room-for-all c.args.who.now c.args.add.now c.args.plan.now c.args.documents.now c.args.applications.now c.requires.call c.requires.within

pub place_from-requires-clause-owns : goal.place_from-requires-clause-owns
place_from-requires-clause-owns g c = owns-hold c.args.who.now c.args.add.now c.args.plan.now.items c.requires.call.own

pub place_from-requires-clause-numbers : goal.place_from-requires-clause-numbers
place_from-requires-clause-numbers g c = numbers-for-all c.args.who.now c.args.plan.now c.args.documents.now c.args.applications.now c.requires.within

pub returns-in-Err-clause-words : goal.returns-in-Err-clause-words
returns-in-Err-clause-words g c = drew-none (words_for c.args.plan.now.items) (g.W.Words.told c.args.words.now) (g.W.Words.told c.args.words.now) refl

pub returns-clause-ok : goal.returns-clause-ok
returns-clause-ok g c =
    all-placed c.args.who.now c.args.add.now c.args.plan.now (book_of c.args.documents.now c.args.grants.now c.args.applications.now) (book_of c.place_from.new.documents c.place_from.new.grants c.place_from.new.applications)
    (g.W.Words.told c.args.words.now) (g.W.Words.told c.place_from.new.words) c.none_drawn-drawn.result c.place_from.new.drawn c.none_drawn-drawn.ensures c.in_default.ensures.ok
