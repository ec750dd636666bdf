use Rattle.std.proofs.Common.{Option, ap, ◌∙◌}
use Rattle.std.specs.Option.{option_map}
use Rattle.portal_model.specs.Errno.{enametoolong, enotdir}
use Rattle.portal_model.specs.NodeVerdict.{by_place, is_too_long, no_file}
use Rattle.portal_model.specs.Place.{Sight}
use Rattle.portal_model.specs.Rename.{with_seen}
use Rattle.portal_model.specs.Unlink.{unlink, unlink_in}
use Rattle.node_looks.specs.Sights.{sight_of}
use Rattle.file_ops.specs.Renames.{unlink_seen}
use Rattle.file_ops.specs.SeatNames.{seat_sight}
use Rattle.file_ops.specs.declared.homes.What.{What}
use Rattle.file_ops.proofs.Removals.{file-removed, folder-removed, home-removed, nothing-removed, removed-along, too-long}
use Rattle.file_ops.proofs.SeenHomes.{seat-seen}
use Rattle.file_ops.proofs.Tries.{if-right, if-wrong}
use Rattle.file_ops.proofs.unlinked.removes.Goals as goal

pub returns-then-is_too_long-clause-removed : goal.returns-then-is_too_long-clause-removed
returns-then-is_too_long-clause-removed g c = λ names has e f s l.
    let name = c.args.name.now in
    let sight = seat_sight s c.args.call.now.who.now names has.temps c.args.call.now.request.now.node in
    too-long (unlink name has.temps sight) enametoolong _ c.unlooked.result c.refused.result
    (if-wrong (is_too_long name) c.is_too_long.result enametoolong (by_place sight (no_file enotdir) (unlink_in name has.temps)) c.is_too_long.ensures c.if-is_too_long.true) c.unlooked.ensures c.refused.ensures.same

pub returns-in-Nothing-clause-removed : goal.returns-in-Nothing-clause-removed
returns-in-Nothing-clause-removed g c = λ names has e f s l.
    let name = c.args.name.now in
    let who = c.args.call.now.who.now in
    let node = c.args.call.now.request.now.node in
    let sight = seat_sight s who names has.temps node in
    let seen = option_map (sight_of c.args.book.now who) c.seen_place.result in
    removed-along (unlink name has.temps sight) (with_seen seen (unlink_seen name has.temps)) _ _ c.refused_behind.result
    (if-right (is_too_long name) c.is_too_long.result enametoolong (by_place sight (no_file enotdir) (unlink_in name has.temps)) c.is_too_long.ensures c.if-is_too_long.false
    ∙ ap (λ (o : Option Sight). with_seen o (unlink_seen name has.temps)) (seat-seen s who c.by_number-own.result names has.temps node seen (c.by_number-own.ensures.naming names e) (c.by_number-own.ensures.temp has f) (c.seen_place.ensures.sight s l)))
    (nothing-removed name has.temps seen (g.T.HostTree.is c.args.tree.now) _ c.see-seen.result.look c.see-seen.result.what (c.see-seen.ensures.seen c.args.book.now who) c.refused_behind.result c.in-Nothing.errno c.in-Nothing.is c.refused_behind.ensures)

pub returns-in-File-clause-removed : goal.returns-in-File-clause-removed
returns-in-File-clause-removed g c = λ names has e f s l.
    let name = c.args.name.now in
    let who = c.args.call.now.who.now in
    let node = c.args.call.now.request.now.node in
    let sight = seat_sight s who names has.temps node in
    let seen = option_map (sight_of c.args.book.now who) c.seen_place.result in
    removed-along (unlink name has.temps sight) (with_seen seen (unlink_seen name has.temps)) _ _ c.refused_behind-in-File.result
    (if-right (is_too_long name) c.is_too_long.result enametoolong (by_place sight (no_file enotdir) (unlink_in name has.temps)) c.is_too_long.ensures c.if-is_too_long.false
    ∙ ap (λ (o : Option Sight). with_seen o (unlink_seen name has.temps)) (seat-seen s who c.by_number-own.result names has.temps node seen (c.by_number-own.ensures.naming names e) (c.by_number-own.ensures.temp has f) (c.seen_place.ensures.sight s l)))
    (file-removed name has.temps seen (g.T.HostTree.is c.args.tree.now) _ c.see-seen.result.look c.see-seen.result.what (c.see-seen.ensures.seen c.args.book.now who) c.refused_behind-in-File.result c.in-File.is c.refused_behind-in-File.ensures)

pub returns-in-Folder-None-clause-removed : goal.returns-in-Folder-None-clause-removed
returns-in-Folder-None-clause-removed g c = λ names has e f s l.
    let name = c.args.name.now in
    let who = c.args.call.now.who.now in
    let node = c.args.call.now.request.now.node in
    let sight = seat_sight s who names has.temps node in
    let seen = option_map (sight_of c.args.book.now who) c.seen_place.result in
    removed-along (unlink name has.temps sight) (with_seen seen (unlink_seen name has.temps)) _ _ c.refused_behind-in-Folder-None.result
    (if-right (is_too_long name) c.is_too_long.result enametoolong (by_place sight (no_file enotdir) (unlink_in name has.temps)) c.is_too_long.ensures c.if-is_too_long.false
    ∙ ap (λ (o : Option Sight). with_seen o (unlink_seen name has.temps)) (seat-seen s who c.by_number-own.result names has.temps node seen (c.by_number-own.ensures.naming names e) (c.by_number-own.ensures.temp has f) (c.seen_place.ensures.sight s l)))
    (folder-removed name has.temps seen (g.T.HostTree.is c.args.tree.now) _ c.see-seen.result.look c.see-seen.result.what (c.see-seen.ensures.seen c.args.book.now who) c.refused_behind-in-Folder-None.result (c.in-Folder-None.is ∙ ap What.Folder (rw c.in-Folder-None.is at c.in-Folder-None.field-0-is)) c.refused_behind-in-Folder-None.ensures)

pub returns-in-Folder-Some-clause-removed : goal.returns-in-Folder-Some-clause-removed
returns-in-Folder-Some-clause-removed g c = λ names has e f s l.
    let name = c.args.name.now in
    let who = c.args.call.now.who.now in
    let node = c.args.call.now.request.now.node in
    let sight = seat_sight s who names has.temps node in
    let seen = option_map (sight_of c.args.book.now who) c.seen_place.result in
    removed-along (unlink name has.temps sight) (with_seen seen (unlink_seen name has.temps)) _ _ c.removing_in.result
    (if-right (is_too_long name) c.is_too_long.result enametoolong (by_place sight (no_file enotdir) (unlink_in name has.temps)) c.is_too_long.ensures c.if-is_too_long.false
    ∙ ap (λ (o : Option Sight). with_seen o (unlink_seen name has.temps)) (seat-seen s who c.by_number-own.result names has.temps node seen (c.by_number-own.ensures.naming names e) (c.by_number-own.ensures.temp has f) (c.seen_place.ensures.sight s l)))
    (home-removed name has.temps seen (g.T.HostTree.is c.args.tree.now) _ c.see-seen.result.look c.see-seen.result.what (c.see-seen.ensures.seen c.args.book.now who) c.removing_in.result c.in-Folder-Some.home (c.in-Folder-Some.is ∙ ap What.Folder (rw c.in-Folder-Some.is at c.in-Folder-Some.field-0-is)) (c.removing_in.ensures.removed has (g.T.HostTree.is c.args.tree.now) f))
