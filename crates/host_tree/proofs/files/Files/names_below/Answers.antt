use Rattle.std.proofs.Common.{sym, ap, ◌∙◌, List, [], fold}
use Rattle.std.specs.Map.{keys_of}
use Rattle.portal_base.specs.declared.files.File.{File}
use Rattle.portal_base.specs.FolderNames.{names_in, put_path}
use Rattle.portal_base.specs.declared.files.ChildName.{ChildName}
use Rattle.host_tree.proofs.Entries.{paths-are}
use Rattle.host_tree.proofs.files.Files.names_below.Goals as goal

pub returns : goal.returns
returns c =
    let es = c.self.inside.map.entries in
    let path = c.args.path.now in
    c.in_ok-put_paths.ensures
    ∙ (ap (λ (ns : List ChildName). fold (put_path path) ns (keys_of es)) c.new-names.ensures
    ∙ (ap (fold (put_path path) []) (sym (paths-are es)) ∙ ap (λ (fs : List File). names_in fs path) c.self.view_is))
