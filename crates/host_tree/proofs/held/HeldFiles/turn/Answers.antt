use Rattle.std.proofs.Common.{subst}
use Rattle.file_generations.specs.Generations.{Held, held_with, may_turn, turned}
use Rattle.host_tree.specs.Trees.{DoesHeld}
use Rattle.host_tree.proofs.BesideFiles.{done-is-beside, turned-is-beside}
use Rattle.host_tree.proofs.held.HeldFiles.turn.Goals as goal

pub turn_held-requires-clause-held : goal.turn_held-requires-clause-held
turn_held-requires-clause-held c = c.self.invariant

pub invariant_of-self : goal.invariant_of-self
invariant_of-self c =
    let name = c.args.name.now in
    let old = held_with c.self.inside.present c.self.inside.hidden in
    let new = held_with c.turn_held.new.present c.turn_held.new.hidden in
    done-is-beside (λ h. may_turn h name) (turned name) old new c.turn_held.result c.self.invariant (λ e. turned-is-beside name old c.self.invariant) c.turn_held.ensures.does

pub returns-clause-does : goal.returns-clause-does
returns-clause-does c =
    let name = c.args.name.now in
    let new = held_with c.turn_held.new.present c.turn_held.new.hidden in
    subst (λ (h : Held). DoesHeld (λ g. may_turn g name) (turned name) h c.turn_held.result new) c.self.view_is c.turn_held.ensures.does
