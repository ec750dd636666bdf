use Rattle.std.proofs.Common.{◌≡◌, ℕ, List, ap, sym, ◌∙◌}
use Rattle.std.specs.BTreeMap.{BTreeMap}
use Rattle.portal_base.specs.FileChanges.{change_named, written}
use Rattle.tree_files.specs.Kept.{files_of, kept_as, kept_written}
use Rattle.tree_files.specs.declared.kept.KeptFile.{KeptFile}
use Rattle.tree_files.proofs.Entries.{change-done, change-none, err-then, not-there, ok-then, keeps-written}
use Rattle.tree_files.proofs.files.write_in.Goals as goal

pub returns-in-None-clause-ok : goal.returns-in-None-clause-ok
returns-in-None-clause-ok c =
    ap (λ (m : BTreeMap (List ℕ) KeptFile). files_of m.entries) c.get_mut.follows.holds-at-none
    ∙ sym (not-there c.args.name.now (written c.args.offset c.args.content.now c.args.now) c.args.map.now.entries c.get_mut.ensures.ordered c.in-None.ensures.value)

pub returns-in-Some-clause-ok : goal.returns-in-Some-clause-ok
returns-in-Some-clause-ok c =
    let name = c.args.name.now in
    let old = c.args.map.now.entries in
    let new = (c.get_mut.follows.lender c.write_as.new.self).entries in
    let change = written c.args.offset c.args.content.now c.args.now in
    let stored = kept_written c.args.offset c.args.content.now c.args.now in
    ok-then c.write_as.result (c.write_as.new.self ≡ kept_as name.generation stored c.in-Some.kept.now)
    (files_of new ≡ change_named name change (files_of old))
    (λ e. change-done name stored change c.in-Some.kept.now c.write_as.new.self old new (keeps-written c.args.offset c.args.content.now c.args.now) e
    c.in-Some.ensures.value c.get_mut.ensures.ordered (c.get_mut.follows.holds c.write_as.new.self).0)
    c.write_as.ensures.ok

pub returns-in-Some-clause-err : goal.returns-in-Some-clause-err
returns-in-Some-clause-err c =
    let old = c.args.map.now.entries in
    let new = (c.get_mut.follows.lender c.write_as.new.self).entries in
    err-then c.write_as.result (c.write_as.new.self ≡ c.in-Some.kept.now) (files_of new ≡ files_of old)
    (λ e. change-none old new c.args.name.now.path c.in-Some.kept.now c.write_as.new.self e
    c.in-Some.ensures.value (c.get_mut.follows.holds c.write_as.new.self).0)
    c.write_as.ensures.err
