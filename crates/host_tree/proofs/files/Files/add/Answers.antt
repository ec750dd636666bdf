use Rattle.std.proofs.Common.{◌≡◌, sym, ap, subst, ◌∙◌, List, None}
use Rattle.portal_base.specs.Content.{ArePlaced, paths_of, file_at}
use Rattle.portal_base.specs.declared.files.File.{File}
use Rattle.host_tree.specs.Trees.{put_file}
use Rattle.host_tree.specs.Stored.{file_of, files_of}
use Rattle.host_tree.proofs.FileCreated.{inserted-is, added-is-tree}
use Rattle.host_tree.proofs.Entries.{put-is-new, none-in-map}
use Rattle.host_tree.proofs.files.Files.add.Goals as goal

pub invariant_of-self-2 : goal.invariant_of-self-2
invariant_of-self-2 c =
    let old = c.self.inside.map.entries in
    let path = c.args.path in
    let file = file_of (path, c.args.stored) in
    let placed : ArePlaced (paths_of (put_file file (files_of old))) = subst (λ (fs : List File). ArePlaced (paths_of (put_file file fs))) (sym c.self.view_is) c.requires in
    let none : file_at (files_of old) path ≡ None = put-is-new file (files_of old) placed.in_order in
    added-is-tree old c.insert.new.self.entries path c.args.stored c.self.invariant placed c.as_bytes.ensures.rule
    (inserted-is old c.insert.new.self.entries path c.args.stored (none-in-map path old none) c.in_ok-insert.ensures.entries)

pub returns-clause-ok : goal.returns-clause-ok
returns-clause-ok c =
    let old = c.self.inside.map.entries in
    let path = c.args.path in
    let file = file_of (path, c.args.stored) in
    let placed : ArePlaced (paths_of (put_file file (files_of old))) = subst (λ (fs : List File). ArePlaced (paths_of (put_file file fs))) (sym c.self.view_is) c.requires in
    let none : file_at (files_of old) path ≡ None = put-is-new file (files_of old) placed.in_order in
    inserted-is old c.insert.new.self.entries path c.args.stored (none-in-map path old none) c.in_ok-insert.ensures.entries
    ∙ ap (put_file file) c.self.view_is
