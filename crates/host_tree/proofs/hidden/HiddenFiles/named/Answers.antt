use Rattle.std.proofs.Common.{List, option_map, ap, ◌∙◌}
use Rattle.std.specs.List.{find}
use Rattle.portal_base.specs.Content.{file_named}
use Rattle.portal_base.specs.declared.files.File.{File}
use Rattle.host_tree.specs.Stored.{is_stored, stored_of}
use Rattle.host_tree.proofs.HiddenEntries.{Entry, listed-found}
use Rattle.host_tree.proofs.hidden.HiddenFiles.named.Goals as goal

pub returns-in-Some : goal.returns-in-Some
returns-in-Some c =
    let name = c.args.name.now in
    let es = c.self.inside.files.items in
    ap (option_map (λ (e : Entry). e.1)) (c.in-Some.ensures ∙ ap (find (is_stored name)) c.as_slice.ensures.value)
    ∙ (listed-found name es ∙ ap (λ (fs : List File). option_map stored_of (file_named fs name)) c.self.view_is)

pub returns-in-None : goal.returns-in-None
returns-in-None c =
    let name = c.args.name.now in
    let es = c.self.inside.files.items in
    ap (option_map (λ (e : Entry). e.1)) (c.in-None.ensures ∙ ap (find (is_stored name)) c.as_slice.ensures.value)
    ∙ (listed-found name es ∙ ap (λ (fs : List File). option_map stored_of (file_named fs name)) c.self.view_is)
