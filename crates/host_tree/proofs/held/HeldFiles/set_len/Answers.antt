use Rattle.std.proofs.Common.{subst}
use Rattle.file_generations.specs.Generations.{Held, change_held, held_with, is_held}
use Rattle.host_tree.specs.Trees.{DoesHeld, resized}
use Rattle.host_tree.proofs.BesideFiles.{beside-changed, done-is-beside, resized-keeps}
use Rattle.host_tree.proofs.held.HeldFiles.set_len.Goals as goal

pub set_len_held-requires : goal.set_len_held-requires
set_len_held-requires c = c.self.invariant

pub invariant_of-self : goal.invariant_of-self
invariant_of-self c =
    let name = c.args.name.now in
    let change = resized c.args.size c.args.now in
    let old = held_with c.self.inside.present c.self.inside.hidden in
    let new = held_with c.set_len_held.new.present c.set_len_held.new.hidden in
    done-is-beside (λ h. is_held h name) (change_held name change) old new c.set_len_held.result c.self.invariant
    (λ e. beside-changed name change (resized-keeps c.args.size c.args.now) c.self.inside.present c.self.inside.hidden c.self.invariant) c.set_len_held.ensures.does

pub returns-clause-does : goal.returns-clause-does
returns-clause-does c =
    let name = c.args.name.now in
    let change = resized c.args.size c.args.now in
    let new = held_with c.set_len_held.new.present c.set_len_held.new.hidden in
    subst (λ (h : Held). DoesHeld (λ g. is_held g name) (change_held name change) h c.set_len_held.result new) c.self.view_is c.set_len_held.ensures.does
