use Rattle.std.proofs.Common.{◌≡◌, List, Some, None, ◌∙◌, ap, sym, subst, arith}
use Rattle.std.specs.List.{position, slice_set}
use Rattle.portal_base.specs.FileChanges.{change_named, written}
use Rattle.portal_base.specs.declared.files.File.{File}
use Rattle.file_generations.specs.Generations.{change_held, held_with}
use Rattle.tree_files.specs.Kept.{NamesDiffer, file_kept, files_of, hidden_of, kept_written}
use Rattle.tree_files.specs.declared.kept.HiddenFile.{HiddenFile}
use Rattle.tree_files.specs.declared.kept.KeptFile.{KeptFile}
use Rattle.tree_files.proofs.Entries.{err-then, ok-then, keeps-written}
use Rattle.tree_files.proofs.HiddenNames.{has_name, hidden-changed, is-within, none-changed, present-stays, put-back}
use Rattle.tree_files.proofs.files.TreeFiles.write.Goals as goal

pub index_mut-file-requires : goal.index_mut-file-requires
index_mut-file-requires c =
    let name = c.args.name.now in
    let hs = c.self.inside.hidden.items in
    let at : Some c.in-Some.at ≡ position (has_name name) hs = c.in-Some.ensures ∙ ap (λ (xs : List HiddenFile). position (has_name name) xs) c.as_slice.ensures.value in
    omega (arith, is-within name hs c.in-Some.at at, c.self.inside.hidden.ok.0)

pub returns-in-Some-clause-ok : goal.returns-in-Some-clause-ok
returns-in-Some-clause-ok c =
    let name = c.args.name.now in
    let fs = files_of c.self.inside.map.entries in
    let hs = c.self.inside.hidden.items in
    let change = written c.args.offset c.args.content.now c.args.now in
    let v = c.index_mut-file.result.now in
    let new : HiddenFile = record v { kept = c.write.new.self } in
    let at : Some c.in-Some.at ≡ position (has_name name) hs = c.in-Some.ensures ∙ ap (λ (xs : List HiddenFile). position (has_name name) xs) c.as_slice.ensures.value in
    let apart : NamesDiffer (held_with fs (hidden_of hs)) = subst NamesDiffer (sym c.self.view_is) c.requires in
    ok-then c.write.result (c.write.new.self ≡ kept_written c.args.offset c.args.content.now c.args.now v.kept)
    (held_with fs (hidden_of (slice_set hs c.in-Some.at new)) ≡ change_held name change c.args.self.now)
    (λ e.
    (λ i. held_with (sym (present-stays name change hs c.in-Some.at v fs at c.index_mut-file.ensures.value apart.apart) i)
    (hidden-changed name change hs c.in-Some.at v new at c.index_mut-file.ensures.value (ap (file_kept v.path) e ∙ keeps-written c.args.offset c.args.content.now c.args.now v.path v.kept) apart.differ i))
    ∙ ap (change_held name change) c.self.view_is)
    c.write.ensures.ok

pub returns-in-Some-clause-err : goal.returns-in-Some-clause-err
returns-in-Some-clause-err c =
    let fs = files_of c.self.inside.map.entries in
    let hs = c.self.inside.hidden.items in
    let v = c.index_mut-file.result.now in
    let new : KeptFile → HiddenFile = λ k. record v { kept = k } in
    err-then c.write.result (c.write.new.self ≡ v.kept) (held_with fs (hidden_of (slice_set hs c.in-Some.at (new c.write.new.self))) ≡ c.args.self.now)
    (λ e.
    ap (λ (k : KeptFile). held_with fs (hidden_of (slice_set hs c.in-Some.at (new k)))) e
    ∙ (ap (λ (xs : List HiddenFile). held_with fs (hidden_of xs)) (put-back hs c.in-Some.at v c.index_mut-file.ensures.value) ∙ c.self.view_is))
    c.write.ensures.err

pub returns-in-None-clause-ok : goal.returns-in-None-clause-ok
returns-in-None-clause-ok c =
    let name = c.args.name.now in
    let hs = c.self.inside.hidden.items in
    let change = written c.args.offset c.args.content.now c.args.now in
    let none : None ≡ position (has_name name) hs = c.in-None.ensures ∙ ap (λ (xs : List HiddenFile). position (has_name name) xs) c.as_slice.ensures.value in
    ok-then c.write_in.result (files_of c.write_in.new.map.entries ≡ change_named name change (files_of c.self.inside.map.entries))
    (held_with (files_of c.write_in.new.map.entries) (hidden_of hs) ≡ change_held name change c.args.self.now)
    (λ e. (λ i. held_with (e i) (sym (none-changed name change hs none) i)) ∙ ap (change_held name change) c.self.view_is)
    c.write_in.ensures.ok

pub returns-in-None-clause-err : goal.returns-in-None-clause-err
returns-in-None-clause-err c =
    let hs = c.self.inside.hidden.items in
    err-then c.write_in.result (files_of c.write_in.new.map.entries ≡ files_of c.self.inside.map.entries)
    (held_with (files_of c.write_in.new.map.entries) (hidden_of hs) ≡ c.args.self.now)
    (λ e. ap (λ (fs : List File). held_with fs (hidden_of hs)) e ∙ c.self.view_is)
    c.write_in.ensures.err
