use Rattle.std.proofs.Common.{Option, ap, subst}
use Rattle.std.specs.Option.{option_map}
use Rattle.std.proofs.lemmas.Option.{IfSome_then}
use Rattle.portal_base.specs.declared.files.Look.{Look}
use Rattle.save_files.specs.Own.{own_on}
use Rattle.node_looks.specs.Sights.{sight_of}
use Rattle.file_ops.specs.Renames.{IsCommon, call_told, number_left, rename_seen}
use Rattle.file_ops.specs.SeatNames.{seat_sight}
use Rattle.file_ops.specs.declared.renamed.Moving.TheVariants as Moving
use Rattle.file_ops.proofs.Moves.{both-homes, moved-along, moved-home, refused-from}
use Rattle.file_ops.proofs.SeenHomes.{seat-seen}
use Rattle.file_ops.proofs.renamed.moving_from.Goals as goal

pub returns-in-Refused-clause-moved : goal.returns-in-Refused-clause-moved
returns-in-Refused-clause-moved g c = λ names has sight began e f i s l.
    let call = call_told c.args.asked in
    let who = c.args.call.now.who.now in
    let own = own_on c.args.temps.now.seats c.args.call.now.seat in
    let new_sight = option_map (sight_of c.args.book.now who) c.seen_place.result in
    moved-along (rename_seen call has.temps sight (seat_sight s who names has.temps c.args.new_parent)) (rename_seen call has.temps sight new_sight) c.args.asked.new_name.now own began (g.T.HostTree.is c.see-second.new.tree) (Moving.Refused (record { first = c.shown_of.result; then = record { look = c.see-second.result.look; ended = c.refused.result } }))
    (ap (rename_seen call has.temps sight) (seat-seen s who c.by_number-own.result names has.temps c.args.new_parent new_sight (c.by_number-own.ensures.naming names e) (c.by_number-own.ensures.temp has f) (c.seen_place.ensures.sight s l)))
    (refused-from call has.temps sight new_sight began (g.T.HostTree.is c.args.tree.now) _ c.args.first.look c.see-second.result.look c.args.first.what c.see-second.result.what c.in-Refused.errno c.args.asked.new_name.now own _ c.refused.result
    c.requires i (c.see-second.ensures.seen c.args.book.now who) (subst (IsCommon c.args.first.what c.see-second.result.what) c.in-Refused.is c.common_home.ensures)
    (ap (λ (o : Option Look). record { first = o; then = record { look = c.see-second.result.look; ended = c.refused.result } }) c.shown_of.ensures) c.refused.ensures.same)

pub returns-in-Home-clause-moved : goal.returns-in-Home-clause-moved
returns-in-Home-clause-moved g c = λ names has sight began e f i s l.
    let call = call_told c.args.asked in
    let who = c.args.call.now.who.now in
    let own = own_on c.args.temps.now.seats c.args.call.now.seat in
    let new_sight = option_map (sight_of c.args.book.now who) c.seen_place.result in
    moved-along (rename_seen call has.temps sight (seat_sight s who names has.temps c.args.new_parent)) (rename_seen call has.temps sight new_sight) c.args.asked.new_name.now own began _ _
    (ap (rename_seen call has.temps sight) (seat-seen s who c.by_number-own.result names has.temps c.args.new_parent new_sight (c.by_number-own.ensures.naming names e) (c.by_number-own.ensures.temp has f) (c.seen_place.ensures.sight s l)))
    (moved-home call has.temps sight new_sight began (g.T.HostTree.is c.args.tree.now) _ c.args.first.look c.see-second.result.look c.args.first.what c.see-second.result.what c.in-Home.home c.args.asked.new_name.now own c.moving_in.result
    i (c.see-second.ensures.seen c.args.book.now who) (subst (IsCommon c.args.first.what c.see-second.result.what) c.in-Home.is c.common_home.ensures) (c.moving_in.ensures.moved has began f))

pub returns-in-Home-clause-still : goal.returns-in-Home-clause-still
returns-in-Home-clause-still g c =
    let h = both-homes c.args.first.what c.see-second.result.what c.in-Home.home (subst (IsCommon c.args.first.what c.see-second.result.what) c.in-Home.is c.common_home.ensures) in
    IfSome_then (number_left c.moving_in.result) c.moving_in.ensures.there (λ k p. (h.0, c.see-second.ensures.still h.1))
