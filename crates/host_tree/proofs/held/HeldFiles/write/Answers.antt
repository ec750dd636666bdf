use Rattle.std.proofs.Common.{subst}
use Rattle.file_generations.specs.Generations.{Held, change_held, held_with, is_held}
use Rattle.host_tree.specs.Trees.{DoesHeld, written}
use Rattle.host_tree.proofs.BesideFiles.{beside-changed, done-is-beside, written-keeps}
use Rattle.host_tree.proofs.held.HeldFiles.write.Goals as goal

pub write_held-requires : goal.write_held-requires
write_held-requires c = c.self.invariant

pub invariant_of-self : goal.invariant_of-self
invariant_of-self c =
    let name = c.args.name.now in
    let change = written c.args.offset c.args.content.now c.args.now in
    let old = held_with c.self.inside.present c.self.inside.hidden in
    let new = held_with c.write_held.new.present c.write_held.new.hidden in
    done-is-beside (λ h. is_held h name) (change_held name change) old new c.write_held.result c.self.invariant
    (λ e. beside-changed name change (written-keeps c.args.offset c.args.content.now c.args.now) c.self.inside.present c.self.inside.hidden c.self.invariant) c.write_held.ensures.does

pub returns-clause-does : goal.returns-clause-does
returns-clause-does c =
    let name = c.args.name.now in
    let change = written c.args.offset c.args.content.now c.args.now in
    let new = held_with c.write_held.new.present c.write_held.new.hidden in
    subst (λ (h : Held). DoesHeld (λ g. is_held g name) (change_held name change) h c.write_held.result new) c.self.view_is c.write_held.ensures.does
