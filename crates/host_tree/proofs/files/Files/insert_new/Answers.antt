use Rattle.std.proofs.Common.{◌≡◌, ap, ◌∙◌, List, [], true}
use Rattle.std.specs.BTreeMap.{insert_entry}
use Rattle.portal_base.specs.PathOrder.{path_order}
use Rattle.portal_base.specs.declared.files.File.{File}
use Rattle.host_tree.specs.Trees.{may_create, put_file, new_file}
use Rattle.host_tree.specs.Stored.{files_of}
use Rattle.host_tree.proofs.FileCreated.{inserted-is, inserted-is-tree, none-stored}
use Rattle.host_tree.proofs.files.Files.insert_new.Goals as goal

pub invariant_of-self-2 : goal.invariant_of-self-2
invariant_of-self-2 c =
    let old = c.self.inside.map.entries in
    let path = c.args.path.now in
    let may : may_create (files_of old) path ≡ true = ap (λ (fs : List File). may_create fs path) c.self.view_is ∙ c.requires in
    inserted-is-tree old c.insert.new.self.entries path (record { generation = 0; bytes = []; moment = c.args.now }) c.self.invariant may c.as_bytes.ensures.rule (none-stored old path may)
    (c.in_ok-insert.ensures.entries ∙ (λ i. insert_entry path_order old (c.in_ok-replica.ensures i) (record { generation = 0; bytes = c.new.ensures i; moment = c.args.now })))
    c.insert.ensures.ordered

pub returns-clause-ok : goal.returns-clause-ok
returns-clause-ok c =
    let old = c.self.inside.map.entries in
    let path = c.args.path.now in
    let may : may_create (files_of old) path ≡ true = ap (λ (fs : List File). may_create fs path) c.self.view_is ∙ c.requires in
    inserted-is old c.insert.new.self.entries path (record { generation = 0; bytes = []; moment = c.args.now }) (none-stored old path may)
    (c.in_ok-insert.ensures.entries ∙ (λ i. insert_entry path_order old (c.in_ok-replica.ensures i) (record { generation = 0; bytes = c.new.ensures i; moment = c.args.now })))
    ∙ ap (put_file (new_file path c.args.now)) c.self.view_is
