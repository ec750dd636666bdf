use Rattle.std.proofs.Common.{◌≡◌, ℕ, List, None, true, is_some, not, ◌&&◌, refl, subst}
use Rattle.portal_base.specs.Content.{file_at, has_room, is_folder}
use Rattle.portal_base.specs.FileChanges.{new_file, put_file}
use Rattle.file_generations.specs.Generations.{Held, held_with, put_present}
use Rattle.portal_base.specs.declared.files.File.{File}
use Rattle.portal_base.proofs.PathsAbove.{both}
use Rattle.host_tree.specs.Beside.{AreBeside}
use Rattle.host_tree.specs.Trees.{DoesHeld, may_create}
use Rattle.host_tree.proofs.BesideFiles.{beside-put, done-is-beside, first-is-new}
use Rattle.host_tree.proofs.HeldChanges.{created-does, nothing-at}
use Rattle.host_tree.proofs.held.HeldFiles.create.Goals as goal

created : (path : List ℕ) (now : ℕ) (present hidden : List File) → AreBeside present hidden → may_create present path ≡ true → AreBeside (put_file (new_file path now) present) hidden
created path now present hidden a may =
    let parts = both (not (is_some (file_at present path))) (not (is_folder present path) && has_room present path) may in
    let none : file_at present path ≡ None = nothing-at (file_at present path) parts.0 in
    beside-put (new_file path now) present hidden a (first-is-new (new_file path now) present hidden a refl none)

pub invariant_of-self : goal.invariant_of-self
invariant_of-self c =
    let path = c.args.path.now in
    let present = c.self.inside.present in
    let hidden = c.self.inside.hidden in
    done-is-beside (λ h. may_create h.present path) (put_present (new_file path c.args.now)) (held_with present hidden) (held_with c.create.new.self hidden) c.create.result c.self.invariant
    (λ may. created path c.args.now present hidden c.self.invariant may) (created-does path c.args.now present c.create.new.self hidden c.create.result c.create.ensures.does)

pub returns-clause-does : goal.returns-clause-does
returns-clause-does c =
    let path = c.args.path.now in
    let hidden = c.self.inside.hidden in
    subst (λ (h : Held). DoesHeld (λ g. may_create g.present path) (put_present (new_file path c.args.now)) h c.create.result (held_with c.create.new.self hidden)) c.self.view_is
    (created-does path c.args.now c.self.inside.present c.create.new.self hidden c.create.result c.create.ensures.does)
