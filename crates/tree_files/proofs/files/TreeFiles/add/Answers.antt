use Rattle.std.proofs.Common.{◌≡◌, List, None, ◌∙◌, ap}
use Rattle.portal_base.specs.Content.{file_at}
use Rattle.portal_base.specs.declared.files.File.{File}
use Rattle.file_generations.specs.Generations.{Held, held_with, put_present}
use Rattle.tree_files.specs.Kept.{files_of, hidden_of}
use Rattle.tree_files.proofs.Entries.{inserted-is}
use Rattle.tree_files.proofs.files.TreeFiles.add.Goals as goal

pub returns-clause-ok : goal.returns-clause-ok
returns-clause-ok c =
    let old = c.self.inside.map.entries in
    let f = c.args.file in
    let none : file_at (files_of old) f.path ≡ None =
    ap (λ (h : Held). file_at h.present f.path) c.self.view_is ∙ c.requires in
    ap (λ (fs : List File). held_with fs (hidden_of c.self.inside.hidden.items))
    (inserted-is old c.insert.new.self.entries f.path
    (record { generation = f.generation; bytes = f.bytes; moment = f.moment }) none c.in_ok-insert.ensures.entries)
    ∙ ap (put_present f) c.self.view_is
