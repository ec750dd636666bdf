use Rattle.std.proofs.Common.{sym, ap, subst, ◌∙◌, List}
use Rattle.std.specs.List.Sorted.{IsStrictlySortedBy}
use Rattle.std.specs.Map.{keys_of}
use Rattle.std.specs.Option.{option_map}
use Rattle.portal_base.specs.Content.{file_named}
use Rattle.portal_base.specs.PathOrder.{path_order}
use Rattle.portal_base.specs.declared.files.File.{File}
use Rattle.host_tree.specs.Stored.{of_generation, stored_of}
use Rattle.host_tree.proofs.Entries.{found-named, paths-are}
use Rattle.host_tree.proofs.files.Files.named.Goals as goal

pub returns-in-Some : goal.returns-in-Some
returns-in-Some c =
    let es = c.self.inside.map.entries in
    let name = c.args.name.now in
    let sorted : IsStrictlySortedBy path_order (keys_of es) = subst (IsStrictlySortedBy path_order) (paths-are es) c.self.invariant.placed.in_order in
    c.of_generation.ensures
    ∙ (ap (of_generation name.generation) c.in-Some.ensures.value
    ∙ (sym (found-named name es sorted) ∙ ap (λ (fs : List File). option_map stored_of (file_named fs name)) c.self.view_is))

pub returns-in-None : goal.returns-in-None
returns-in-None c =
    let es = c.self.inside.map.entries in
    let name = c.args.name.now in
    let sorted : IsStrictlySortedBy path_order (keys_of es) = subst (IsStrictlySortedBy path_order) (paths-are es) c.self.invariant.placed.in_order in
    ap (of_generation name.generation) c.in-None.ensures.value
    ∙ (sym (found-named name es sorted) ∙ ap (λ (fs : List File). option_map stored_of (file_named fs name)) c.self.view_is)
