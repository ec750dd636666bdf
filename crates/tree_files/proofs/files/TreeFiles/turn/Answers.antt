use Rattle.std.proofs.Common.{◌≡◌, List, None, ◌∙◌, ap, sym, subst}
use Rattle.std.specs.List.{position}
use Rattle.file_generations.specs.Generations.{held_with, turned}
use Rattle.tree_files.specs.Kept.{NamesDiffer, files_of, hidden_of}
use Rattle.tree_files.specs.declared.kept.HiddenFile.{HiddenFile}
use Rattle.tree_files.proofs.Entries.{err-then, ok-then}
use Rattle.tree_files.proofs.HiddenNames.{has_name, turned-nothing}
use Rattle.tree_files.proofs.files.TreeFiles.turn.Goals as goal

pub turn_in-requires-clause-there : goal.turn_in-requires-clause-there
turn_in-requires-clause-there c =
    c.in-Some.ensures ∙ ap (λ (hs : List HiddenFile). position (has_name c.args.name.now) hs) c.as_slice.ensures.value

pub turn_in-requires-clause-differ : goal.turn_in-requires-clause-differ
turn_in-requires-clause-differ c = (subst NamesDiffer (sym c.self.view_is) c.requires).differ

pub returns-in-Some-clause-ok : goal.returns-in-Some-clause-ok
returns-in-Some-clause-ok c =
    let name = c.args.name.now in
    let old = held_with (files_of c.self.inside.map.entries) (hidden_of c.self.inside.hidden.items) in
    let new = held_with (files_of c.turn_in.new.map.entries) (hidden_of c.turn_in.new.hidden.items) in
    ok-then c.turn_in.result (new ≡ turned name old) (new ≡ turned name c.args.self.now)
    (λ e. e ∙ ap (turned name) c.self.view_is) c.turn_in.ensures.ok

pub returns-in-Some-clause-err : goal.returns-in-Some-clause-err
returns-in-Some-clause-err c =
    let old = held_with (files_of c.self.inside.map.entries) (hidden_of c.self.inside.hidden.items) in
    let new = held_with (files_of c.turn_in.new.map.entries) (hidden_of c.turn_in.new.hidden.items) in
    err-then c.turn_in.result (new ≡ old) (new ≡ c.args.self.now) (λ e. e ∙ c.self.view_is) c.turn_in.ensures.err

pub returns-in-None-clause-ok : goal.returns-in-None-clause-ok
returns-in-None-clause-ok c =
    let name = c.args.name.now in
    let hs = c.self.inside.hidden.items in
    let none : None ≡ position (has_name name) hs = c.in-None.ensures ∙ ap (λ (xs : List HiddenFile). position (has_name name) xs) c.as_slice.ensures.value in
    sym c.self.view_is ∙ (turned-nothing name (files_of c.self.inside.map.entries) hs none ∙ ap (turned name) c.self.view_is)
