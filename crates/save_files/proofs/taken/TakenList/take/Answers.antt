use Rattle.std.proofs.Common.{◌≡◌, List, Some, None, ap, ◌∙◌}
use Rattle.std.specs.List.{position}
use Rattle.portal_model.specs.declared.opening.TakenGeneration.{TakenGeneration}
use Rattle.save_files.specs.Taken.{Taken, is_of, with_taken}
use Rattle.save_files.proofs.TakenLemmas.{taken-found, taken-last}
use Rattle.save_files.proofs.taken.TakenList.take.Goals as goal

pub returns-in-Some : goal.returns-in-Some
returns-in-Some c =
    let path = c.args.path.now in
    let last = c.args.generation in
    let ts = c.self.inside.taken.items in
    let at : Some c.in-Some.place ≡ position (is_of path) ts = c.in-Some.ensures ∙ ap (λ (xs : List TakenGeneration). position (is_of path) xs) c.as_slice.ensures.value in
    taken-found path last ts c.in-Some.place c.index_mut-taken.result.now at c.index_mut-taken.ensures.value
    ∙ ap (λ (t : Taken). with_taken path last t.taken) c.self.view_is

pub returns-in-None : goal.returns-in-None
returns-in-None c =
    let path = c.args.path.now in
    let last = c.args.generation in
    let at : None ≡ position (is_of path) c.args.self.now.taken =
    c.in-None.ensures
    ∙ (ap (λ (xs : List TakenGeneration). position (is_of path) xs) c.as_slice.ensures.value
    ∙ ap (λ (t : Taken). position (is_of path) t.taken) c.self.view_is) in
    c.push.ensures ∙ taken-last path last c.args.self.now.taken at
