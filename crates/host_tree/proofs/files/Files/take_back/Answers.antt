use Rattle.std.proofs.Common.{◌≡◌, sym, ap, subst, ◌∙◌}
use Rattle.std.specs.List.Sorted.{IsStrictlySortedBy}
use Rattle.std.specs.Map.{keys_of}
use Rattle.portal_base.specs.Content.{IsTree}
use Rattle.portal_base.specs.PathOrder.{path_order}
use Rattle.host_tree.specs.Trees.{without}
use Rattle.host_tree.specs.Stored.{files_of}
use Rattle.host_tree.proofs.Entries.{removed-entry, paths-are}
use Rattle.host_tree.proofs.files.Files.take_back.Goals as goal

pub invariant_of-self : goal.invariant_of-self
invariant_of-self c =
    let old = c.self.inside.map.entries in
    let path = c.args.path.now in
    let sorted : IsStrictlySortedBy path_order (keys_of old) = subst (IsStrictlySortedBy path_order) (paths-are old) c.self.invariant.placed.in_order in
    let left : files_of c.remove.new.self.entries ≡ without path (files_of old) = ap files_of c.remove.ensures.entries ∙ removed-entry path old sorted in
    subst IsTree (sym (left ∙ ap (without path) c.self.view_is)) c.requires

pub returns : goal.returns
returns c =
    let old = c.self.inside.map.entries in
    let path = c.args.path.now in
    let sorted : IsStrictlySortedBy path_order (keys_of old) = subst (IsStrictlySortedBy path_order) (paths-are old) c.self.invariant.placed.in_order in
    ap files_of c.remove.ensures.entries ∙ (removed-entry path old sorted ∙ ap (without path) c.self.view_is)
