use Rattle.std.proofs.Common.{◌≡◌, ◌<◌, List, length, option_map, sym, ap, ◌∙◌, arith}
use Rattle.std.specs.List.{position_or_len}
use Rattle.portal_base.specs.Content.{file_named}
use Rattle.portal_base.specs.declared.files.File.{File}
use Rattle.host_tree.specs.Stored.{files_of, is_stored, stored_of}
use Rattle.host_tree.specs.Trees.{has_file, without_first}
use Rattle.host_tree.proofs.HiddenEntries.{got-there, has-place, stored-found, taken-out}
use Rattle.host_tree.proofs.hidden.HiddenFiles.take.Goals as goal

pub remove-stored-requires : goal.remove-stored-requires
remove-stored-requires c =
    let name = c.args.name.now in
    let es = c.self.inside.files.items in
    let there : position_or_len (is_stored name) es < length es = has-place name es (ap (has_file name) c.self.view_is ∙ c.requires) in
    let at : c.place_of-place.result ≡ position_or_len (is_stored name) es = c.place_of-place.ensures ∙ ap (position_or_len (is_stored name)) c.as_slice.ensures.value in
    omega (arith, c.self.inside.files.ok.0)

pub returns-clause-given : goal.returns-clause-given
returns-clause-given c =
    let name = c.args.name.now in
    let es = c.self.inside.files.items in
    let there : position_or_len (is_stored name) es < length es = has-place name es (ap (has_file name) c.self.view_is ∙ c.requires) in
    let at : c.place_of-place.result ≡ position_or_len (is_stored name) es = c.place_of-place.ensures ∙ ap (position_or_len (is_stored name)) c.as_slice.ensures.value in
    stored-found name es c.place_of-place.result c.remove-stored.result at (omega arith) c.remove-stored.ensures.value
    ∙ ap (λ (fs : List File). option_map stored_of (file_named fs name)) c.self.view_is

pub returns-clause-rest : goal.returns-clause-rest
returns-clause-rest c =
    let name = c.args.name.now in
    let es = c.self.inside.files.items in
    let there : position_or_len (is_stored name) es < length es = has-place name es (ap (has_file name) c.self.view_is ∙ c.requires) in
    let at : c.place_of-place.result ≡ position_or_len (is_stored name) es = c.place_of-place.ensures ∙ ap (position_or_len (is_stored name)) c.as_slice.ensures.value in
    ap files_of c.remove-stored.ensures.items
    ∙ (taken-out name es c.place_of-place.result c.remove-stored.result (sym at) (got-there es c.place_of-place.result c.remove-stored.result (omega arith) c.remove-stored.ensures.value)
    ∙ ap (without_first name) c.self.view_is)
