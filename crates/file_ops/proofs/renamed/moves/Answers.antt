use Rattle.std.proofs.Common.{Option, ap, ◌∙◌}
use Rattle.std.specs.Option.{option_map}
use Rattle.std.proofs.lemmas.Option.{IfSome_then}
use Rattle.portal_model.specs.Errno.{einval, enametoolong}
use Rattle.portal_model.specs.Place.{Sight}
use Rattle.portal_model.specs.Rename.{rename, rename_in, with_seen}
use Rattle.save_files.specs.Own.{own_on}
use Rattle.node_looks.specs.Sights.{sight_of}
use Rattle.file_ops.specs.Renames.{call_told, number_left, rename_seen}
use Rattle.file_ops.specs.SeatNames.{seat_sight}
use Rattle.file_ops.specs.declared.renamed.Moving.TheVariants as Moving
use Rattle.file_ops.proofs.Moves.{behind-checks, flags-refused, moved-along, new-too-long, nothing-moving, old-too-long, refused-moving}
use Rattle.file_ops.proofs.SeenHomes.{seat-seen}
use Rattle.file_ops.proofs.renamed.moves.Goals as goal

pub returns-then-asked-ne0-clause-moved : goal.returns-then-asked-ne0-clause-moved
returns-then-asked-ne0-clause-moved g c = λ names has e f s l.
    let call = call_told c.args.asked in
    let sight = seat_sight s c.args.call.now.who.now names has.temps c.args.call.now.request.now.node in
    let new_sight = seat_sight s c.args.call.now.who.now names has.temps c.args.new_parent in
    refused-moving (rename call has.temps sight new_sight) einval c.args.asked.new_name.now (own_on c.args.temps.now.seats c.args.call.now.seat) (g.T.HostTree.is c.args.tree.now) c.refused.result (flags-refused call has.temps sight new_sight c.if-asked-ne0.true) c.refused.ensures

pub returns-then-is_too_long-clause-moved : goal.returns-then-is_too_long-clause-moved
returns-then-is_too_long-clause-moved g c = λ names has e f s l.
    let call = call_told c.args.asked in
    let sight = seat_sight s c.args.call.now.who.now names has.temps c.args.call.now.request.now.node in
    let new_sight = seat_sight s c.args.call.now.who.now names has.temps c.args.new_parent in
    refused-moving (rename call has.temps sight new_sight) enametoolong c.args.asked.new_name.now (own_on c.args.temps.now.seats c.args.call.now.seat) (g.T.HostTree.is c.args.tree.now) c.refused-then-is_too_long.result (old-too-long call has.temps sight new_sight c.if-asked-ne0.false c.is_too_long.result c.is_too_long.ensures c.if-is_too_long.true) c.refused-then-is_too_long.ensures

pub returns-then-is_too_long-2-clause-moved : goal.returns-then-is_too_long-2-clause-moved
returns-then-is_too_long-2-clause-moved g c = λ names has e f s l.
    let call = call_told c.args.asked in
    let sight = seat_sight s c.args.call.now.who.now names has.temps c.args.call.now.request.now.node in
    let new_sight = seat_sight s c.args.call.now.who.now names has.temps c.args.new_parent in
    refused-moving (rename call has.temps sight new_sight) enametoolong c.args.asked.new_name.now (own_on c.args.temps.now.seats c.args.call.now.seat) (g.T.HostTree.is c.args.tree.now) c.refused-then-is_too_long-2.result
    (new-too-long call has.temps sight new_sight c.if-asked-ne0.false c.is_too_long.result c.is_too_long-2.result c.is_too_long.ensures c.if-is_too_long.false c.is_too_long-2.ensures c.if-is_too_long-2.true) c.refused-then-is_too_long-2.ensures

pub returns-in-Nothing-clause-moved : goal.returns-in-Nothing-clause-moved
returns-in-Nothing-clause-moved g c = λ names has e f s l.
    let call = call_told c.args.asked in
    let who = c.args.call.now.who.now in
    let node = c.args.call.now.request.now.node in
    let sight = seat_sight s who names has.temps node in
    let new_sight = seat_sight s who names has.temps c.args.new_parent in
    let seen = option_map (sight_of c.args.book.now who) c.seen_place.result in
    moved-along (rename call has.temps sight new_sight) (rename_seen call has.temps seen new_sight) c.args.asked.new_name.now (own_on c.args.temps.now.seats c.args.call.now.seat) (g.T.HostTree.is c.args.tree.now) (g.T.HostTree.is c.see-first.new.tree) (Moving.Refused c.at_once.result)
    (behind-checks call has.temps sight new_sight c.if-asked-ne0.false c.is_too_long.result c.is_too_long-2.result c.is_too_long.ensures c.if-is_too_long.false c.is_too_long-2.ensures c.if-is_too_long-2.false
    ∙ ap (λ (o : Option Sight). rename_seen call has.temps o new_sight) (seat-seen s who c.by_number-own.result names has.temps node seen (c.by_number-own.ensures.naming names e) (c.by_number-own.ensures.temp has f) (c.seen_place.ensures.sight s l)))
    (nothing-moving (λ first. with_seen new_sight (rename_in call has.temps first)) seen (g.T.HostTree.is c.args.tree.now) _ c.see-first.result.look c.see-first.result.what c.in-Nothing.errno c.args.asked.new_name.now (own_on c.args.temps.now.seats c.args.call.now.seat) c.at_once.result c.refused-in-Nothing.result
    (c.see-first.ensures.seen c.args.book.now who) c.in-Nothing.is c.at_once.ensures c.refused-in-Nothing.ensures.same)

pub returns-in-File-clause-moved : goal.returns-in-File-clause-moved
returns-in-File-clause-moved g c = λ names has e f s l.
    let call = call_told c.args.asked in
    let who = c.args.call.now.who.now in
    let node = c.args.call.now.request.now.node in
    let sight = seat_sight s who names has.temps node in
    let new_sight = seat_sight s who names has.temps c.args.new_parent in
    let seen = option_map (sight_of c.args.book.now who) c.seen_place.result in
    moved-along (rename call has.temps sight new_sight) (rename_seen call has.temps seen new_sight) c.args.asked.new_name.now (own_on c.args.temps.now.seats c.args.call.now.seat) _ _ _
    (behind-checks call has.temps sight new_sight c.if-asked-ne0.false c.is_too_long.result c.is_too_long-2.result c.is_too_long.ensures c.if-is_too_long.false c.is_too_long-2.ensures c.if-is_too_long-2.false
    ∙ ap (λ (o : Option Sight). rename_seen call has.temps o new_sight) (seat-seen s who c.by_number-own.result names has.temps node seen (c.by_number-own.ensures.naming names e) (c.by_number-own.ensures.temp has f) (c.seen_place.ensures.sight s l)))
    (c.moving_from.ensures.moved names has seen (g.T.HostTree.is c.args.tree.now) e f (c.see-first.ensures.seen c.args.book.now who) s l)

pub returns-in-File-clause-still : goal.returns-in-File-clause-still
returns-in-File-clause-still g c = IfSome_then (number_left c.moving_from.result) c.moving_from.ensures.still (λ k p. p.1 ∙ c.see-first.ensures.still p.0)

pub returns-in-Folder-clause-moved : goal.returns-in-Folder-clause-moved
returns-in-Folder-clause-moved g c = λ names has e f s l.
    let call = call_told c.args.asked in
    let who = c.args.call.now.who.now in
    let node = c.args.call.now.request.now.node in
    let sight = seat_sight s who names has.temps node in
    let new_sight = seat_sight s who names has.temps c.args.new_parent in
    let seen = option_map (sight_of c.args.book.now who) c.seen_place.result in
    moved-along (rename call has.temps sight new_sight) (rename_seen call has.temps seen new_sight) c.args.asked.new_name.now (own_on c.args.temps.now.seats c.args.call.now.seat) _ _ _
    (behind-checks call has.temps sight new_sight c.if-asked-ne0.false c.is_too_long.result c.is_too_long-2.result c.is_too_long.ensures c.if-is_too_long.false c.is_too_long-2.ensures c.if-is_too_long-2.false
    ∙ ap (λ (o : Option Sight). rename_seen call has.temps o new_sight) (seat-seen s who c.by_number-own.result names has.temps node seen (c.by_number-own.ensures.naming names e) (c.by_number-own.ensures.temp has f) (c.seen_place.ensures.sight s l)))
    (c.moving_from-in-Folder.ensures.moved names has seen (g.T.HostTree.is c.args.tree.now) e f (c.see-first.ensures.seen c.args.book.now who) s l)

pub returns-in-Folder-clause-still : goal.returns-in-Folder-clause-still
returns-in-Folder-clause-still g c = IfSome_then (number_left c.moving_from-in-Folder.result) c.moving_from-in-Folder.ensures.still (λ k p. p.1 ∙ c.see-first.ensures.still p.0)
