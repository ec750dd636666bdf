use Rattle.std.proofs.Common.{◌∙◌, ◌∷◌, List, ap, sym, take}
use Rattle.std.specs.List.{slice_set}
use Rattle.portal_base.specs.declared.files.Look.{Look}
use Rattle.file_ops.proofs.Tries.{one-look, shown-missing, shown-none, two-looks}
use Rattle.file_ops.proofs.tried.looks_after_one.Goals as goal

pub returns-then-found_nothing : goal.returns-then-found_nothing
returns-then-found_nothing c =
    c.truncate.ensures ∙ (ap (take 2) c.set-then-found_nothing.ensures
    ∙ (ap (λ (xs : List Look). take 2 (slice_set xs 1 Look.Missing)) c.set.ensures
    ∙ (two-looks c.args.room c.args.first Look.Missing c.requires
    ∙ sym (ap (λ (xs : List Look). c.args.first ∷ xs) (shown-missing c.args.call c.found_nothing.result c.found_nothing.ensures c.if-found_nothing.true)))))

pub returns-else-found_nothing : goal.returns-else-found_nothing
returns-else-found_nothing c =
    c.truncate-else-found_nothing.ensures ∙ (ap (take 1) c.set.ensures
    ∙ (one-look c.args.room c.args.first c.requires
    ∙ sym (ap (λ (xs : List Look). c.args.first ∷ xs) (shown-none c.args.call c.found_nothing.result c.found_nothing.ensures c.if-found_nothing.false))))
