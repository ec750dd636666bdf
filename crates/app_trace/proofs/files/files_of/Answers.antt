use Rattle.std.proofs.Common.{◌≡◌, List, map, sym, subst, true, ◌∙◌}
use Rattle.std.proofs.lemmas.List.{take_all}
use Rattle.std.specs.List.{list_all, IsDistinct}
use Rattle.portal_base.specs.Names.{is_host_path, is_same}
use Rattle.portal_base.specs.declared.files.File.{File}
use Rattle.portal_model.specs.Opening.{file_of}
use Rattle.portal_model.specs.declared.opening.FileItem.{FileItem}
use Rattle.document_records.proofs.Loops.{all_map}
use Rattle.app_trace.proofs.FilesPlaced.{AreAdded, added-next, alike, all-listed, fresh-next, listed, none-added, present_items}
use Rattle.app_trace.proofs.files.files_of.Goals as goal

pub loop-item-init : goal.loop-item-init
loop-item-init c = none-added c.new-files.result c.new-files.ensures.present c.new-files.ensures.hidden

pub add_file-requires-clause-name : goal.add_file-requires-clause-name
add_file-requires-clause-name c =
    all_map file_of (λ (f : File). is_host_path f.path) c.as_slice-item-items.result.now c.loop-item.item-index c.item-item.result c.loop-item-test.true c.item-item.is
    (subst (λ (xs : List FileItem). list_all (λ (f : File). is_host_path f.path) (listed xs) ≡ true) (sym c.as_slice-item-items.ensures)
    (all-listed (λ (f : File). is_host_path f.path) c.args.opening.now.files c.requires.files_named c.requires.generations_sound.named))

pub add_file-requires-clause-fresh : goal.add_file-requires-clause-fresh
add_file-requires-clause-fresh c =
    fresh-next c.as_slice-item-items.result.now
    (subst (λ (xs : List FileItem). IsDistinct is_same (map (λ (f : File). f.path) (listed (present_items xs)))) (sym c.as_slice-item-items.ensures) c.requires.files_differ)
    c.loop-item.item-index c.item-item.result c.loop-item-test.true c.item-item.is
    c.loop-item.files c.loop-item.invariant

pub loop-item-preserved : goal.loop-item-preserved
loop-item-preserved c =
    subst (AreAdded _) (sym c.in_ok-add_file.ensures)
    (added-next c.as_slice-item-items.result.now
    (subst (λ (xs : List FileItem). IsDistinct is_same (map (λ (f : File). f.path) (listed (present_items xs)))) (sym c.as_slice-item-items.ensures) c.requires.files_differ)
    c.loop-item.item-index c.item-item.result c.loop-item-test.true c.item-item.is
    c.loop-item.files c.loop-item.invariant)

pub returns-clause-shown : goal.returns-clause-shown
returns-clause-shown c =
    let items = c.args.opening.now.files in
    let added : AreAdded items c.loop-item.files =
    subst (λ (xs : List FileItem). AreAdded xs c.loop-item.files)
    (take_all c.loop-item.item-index c.as_slice-item-items.result.now c.loop-item-test.false ∙ c.as_slice-item-items.ensures) c.loop-item.invariant in
    alike (present_items items) c.loop-item.files.present added.present

pub returns-clause-placed : goal.returns-clause-placed
returns-clause-placed c =
    let added : AreAdded c.args.opening.now.files c.loop-item.files =
    subst (λ (xs : List FileItem). AreAdded xs c.loop-item.files)
    (take_all c.loop-item.item-index c.as_slice-item-items.result.now c.loop-item-test.false ∙ c.as_slice-item-items.ensures) c.loop-item.invariant in
    λ placed. added.present.placed placed.in_order

pub returns-clause-hidden : goal.returns-clause-hidden
returns-clause-hidden c =
    let added : AreAdded c.args.opening.now.files c.loop-item.files =
    subst (λ (xs : List FileItem). AreAdded xs c.loop-item.files)
    (take_all c.loop-item.item-index c.as_slice-item-items.result.now c.loop-item-test.false ∙ c.as_slice-item-items.ensures) c.loop-item.invariant in
    added.hidden
