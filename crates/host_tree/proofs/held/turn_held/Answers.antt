use Rattle.std.proofs.Common.{◌≡◌, false, true, not, ◌&&◌, sym, ◌∙◌}
use Rattle.file_generations.specs.Generations.{held_with}
use Rattle.portal_base.specs.Content.{has_room, is_folder}
use Rattle.host_tree.proofs.HeldChanges.{folder-stays, outcome-turns, present-stands}
use Rattle.host_tree.proofs.held.turn_held.Goals as goal

pub returns-then-not-has-clause-does : goal.returns-then-not-has-clause-does
returns-then-not-has-clause-does c =
    present-stands c.args.name.now c.args.present.now c.args.hidden.now c.stands.result c.requires.tree (sym c.has.ensures ∙ c.if-not-has.true) c.stands.ensures

pub returns-then-is_folder-clause-does : goal.returns-then-is_folder-clause-does
returns-then-is_folder-clause-does c = folder-stays c.args.name.now c.args.present.now c.args.hidden.now (sym c.is_folder.ensures ∙ c.if-is_folder.true)

pub turn_hidden-requires-clause-there : goal.turn_hidden-requires-clause-there
turn_hidden-requires-clause-there c = sym c.has.ensures ∙ c.if-not-has.false

pub turn_hidden-requires-clause-place : goal.turn_hidden-requires-clause-place
turn_hidden-requires-clause-place c =
    let name = c.args.name.now in
    let apart : is_folder c.args.present.now name.path ≡ false = sym c.is_folder.ensures ∙ c.if-is_folder.false in
    let room : has_room c.args.present.now name.path ≡ true = c.requires.held.room name (sym c.has.ensures ∙ c.if-not-has.false) in
    λ i. not (apart i) && room i

pub turn_hidden-requires-clause-apart : goal.turn_hidden-requires-clause-apart
turn_hidden-requires-clause-apart c = c.requires.held.apart

pub returns-clause-does : goal.returns-clause-does
returns-clause-does c =
    outcome-turns c.turn_hidden.result c.args.name.now c.args.present.now c.args.hidden.now (held_with c.turn_hidden.new.present c.turn_hidden.new.hidden) c.done.result
    c.done.ensures.ok c.done.ensures.err c.turn_hidden.ensures.ok c.turn_hidden.ensures.err
    (sym c.has.ensures ∙ c.if-not-has.false) (sym c.is_folder.ensures ∙ c.if-is_folder.false)
