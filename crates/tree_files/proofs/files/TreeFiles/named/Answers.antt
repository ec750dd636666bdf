use Rattle.std.proofs.Common.{◌≡◌, ◌<◌, List, Some, None, length, get_or, ◌∙◌, ap, sym, subst}
use Rattle.std.specs.List.{position}
use Rattle.portal_base.specs.Content.{file_named}
use Rattle.file_generations.specs.Generations.{Held, all_held}
use Rattle.tree_files.specs.Kept.{file_kept, files_of}
use Rattle.tree_files.specs.declared.kept.HiddenFile.{HiddenFile}
use Rattle.tree_files.proofs.HiddenNames.{has_name, is-within, named-hidden, named-present}
use Rattle.tree_files.proofs.files.TreeFiles.named.Goals as goal

pub bounds-hidden-at : goal.bounds-hidden-at
bounds-hidden-at c =
    let name = c.args.name.now in
    let hs = c.self.inside.hidden.items in
    let at : Some c.in-Some.at ≡ position (has_name name) hs = c.in-Some.ensures ∙ ap (λ (xs : List HiddenFile). position (has_name name) xs) c.as_slice-hidden.ensures.value in
    subst (λ (xs : List HiddenFile). c.in-Some.at < length xs) (sym c.as_slice-hidden.ensures.value) (is-within name hs c.in-Some.at at)

pub returns-in-Some : goal.returns-in-Some
returns-in-Some c =
    let name = c.args.name.now in
    let hs = c.self.inside.hidden.items in
    let v = c.index-hidden-at.result in
    let at : Some c.in-Some.at ≡ position (has_name name) hs = c.in-Some.ensures ∙ ap (λ (xs : List HiddenFile). position (has_name name) xs) c.as_slice-hidden.ensures.value in
    let here : v ≡ get_or hs c.in-Some.at v = c.index-hidden-at.is ∙ ap (λ (xs : List HiddenFile). get_or xs c.in-Some.at v) c.as_slice-hidden.ensures.value in
    ap (λ (h : Held). file_named (all_held h) name) (sym c.self.view_is)
    ∙ (named-hidden name hs (files_of c.self.inside.map.entries) c.in-Some.at v at here
    ∙ ap (λ (x : HiddenFile). Some (file_kept name.path x.kept)) c.index-hidden-at.is)

pub returns-in-None : goal.returns-in-None
returns-in-None c =
    let name = c.args.name.now in
    let hs = c.self.inside.hidden.items in
    let none : None ≡ position (has_name name) hs = c.in-None.ensures ∙ ap (λ (xs : List HiddenFile). position (has_name name) xs) c.as_slice-hidden.ensures.value in
    ap (λ (h : Held). file_named (all_held h) name) (sym c.self.view_is)
    ∙ (named-present name hs (files_of c.self.inside.map.entries) none ∙ c.present_named.ensures)
