use Rattle.std.proofs.Common.{◌≡◌, ℕ, List, ap, ◌∙◌, arith}
use Rattle.std.specs.BTreeMap.{insert_entry}
use Rattle.std.specs.Option.{is_some}
use Rattle.portal_base.specs.Content.{file_at}
use Rattle.portal_base.specs.FileChanges.{put_file}
use Rattle.portal_base.specs.PathOrder.{path_order}
use Rattle.portal_base.specs.declared.files.File.{File}
use Rattle.file_generations.specs.Generations.{held_with}
use Rattle.host_tree.proofs.HeldTurned.{has-put-file}
use Rattle.tree_files.specs.Kept.{file_kept, files_of, hidden_of}
use Rattle.tree_files.specs.declared.kept.HiddenFile.{HiddenFile}
use Rattle.tree_files.specs.declared.kept.KeptFile.{KeptFile}
use Rattle.tree_files.proofs.Entries.{inserted-is}
use Rattle.tree_files.proofs.HiddenNames.{is-within, turned-placed}
use Rattle.tree_files.proofs.files.place.Goals as goal

pub remove-file-requires : goal.remove-file-requires
remove-file-requires c =
    omega (arith, is-within c.args.name.now c.args.hidden.now.items c.args.at c.requires.there, c.args.hidden.now.ok.0)

pub exchange-requires : goal.exchange-requires
exchange-requires c =
    let name = c.args.name.now in
    let es = c.args.map.now.entries in
    let blank : KeptFile = record { generation = name.generation; bytes = c.new.result; moment = 0 } in
    let put : files_of c.insert.new.self.entries ≡ put_file (file_kept name.path blank) (files_of es) =
    inserted-is es c.insert.new.self.entries name.path blank c.requires.free
    (c.in_ok-insert.ensures.entries ∙ ap (λ (p : List ℕ). insert_entry path_order es p blank) c.in_ok-path.ensures) in
    ap (λ (gs : List File). is_some (file_at gs name.path)) put ∙ has-put-file (file_kept name.path blank) (files_of es)

pub returns-clause-ok : goal.returns-clause-ok
returns-clause-ok c =
    let name = c.args.name.now in
    let es = c.args.map.now.entries in
    let blank : KeptFile = record { generation = name.generation; bytes = c.new.result; moment = 0 } in
    let put : files_of c.insert.new.self.entries ≡ put_file (file_kept name.path blank) (files_of es) =
    inserted-is es c.insert.new.self.entries name.path blank c.requires.free
    (c.in_ok-insert.ensures.entries ∙ ap (λ (p : List ℕ). insert_entry path_order es p blank) c.in_ok-path.ensures) in
    ap (λ (hs : List HiddenFile). held_with (files_of c.exchange.new.map.entries) (hidden_of hs)) c.remove-file.ensures.items
    ∙ turned-placed name (files_of es) (files_of c.insert.new.self.entries) (files_of c.exchange.new.map.entries) c.args.hidden.now.items c.args.at c.remove-file.result blank
    c.requires.there c.remove-file.ensures.value c.requires.free put c.exchange.ensures.rest c.requires.differ
