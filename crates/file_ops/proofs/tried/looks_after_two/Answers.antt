use Rattle.std.proofs.Common.{◌∙◌, ◌∷◌, List, ap, sym, take}
use Rattle.std.specs.List.{slice_set}
use Rattle.portal_base.specs.declared.files.Look.{Look}
use Rattle.file_ops.proofs.Tries.{shown-missing, shown-none, three-looks, two-looks}
use Rattle.file_ops.proofs.tried.looks_after_two.Goals as goal

pub returns-then-found_nothing : goal.returns-then-found_nothing
returns-then-found_nothing c =
    c.set-then-found_nothing.ensures ∙ (ap (λ (xs : List Look). slice_set xs 2 Look.Missing) c.set-2.ensures
    ∙ (ap (λ (xs : List Look). slice_set (slice_set xs 1 c.args.shown) 2 Look.Missing) c.set.ensures
    ∙ (three-looks c.args.room c.args.first c.args.shown Look.Missing c.requires
    ∙ sym (ap (λ (xs : List Look). c.args.first ∷ c.args.shown ∷ xs) (shown-missing c.args.call c.found_nothing.result c.found_nothing.ensures c.if-found_nothing.true)))))

pub returns-else-found_nothing : goal.returns-else-found_nothing
returns-else-found_nothing c =
    c.truncate.ensures ∙ (ap (take 2) c.set-2.ensures
    ∙ (ap (λ (xs : List Look). take 2 (slice_set xs 1 c.args.shown)) c.set.ensures
    ∙ (two-looks c.args.room c.args.first c.args.shown c.requires
    ∙ sym (ap (λ (xs : List Look). c.args.first ∷ c.args.shown ∷ xs) (shown-none c.args.call c.found_nothing.result c.found_nothing.ensures c.if-found_nothing.false)))))
