use Rattle.std.proofs.Common.{◌∙◌, ap, sym, take}
use Rattle.portal_base.specs.declared.files.Look.{Look}
use Rattle.file_ops.proofs.Tries.{set-first, shown-missing}
use Rattle.file_ops.proofs.tried.looks_behind.Goals as goal

pub returns-then-found_nothing : goal.returns-then-found_nothing
returns-then-found_nothing c =
    c.truncate.ensures ∙ (ap (take 1) c.set.ensures ∙ (set-first c.args.room Look.Missing c.requires
    ∙ sym (shown-missing c.args.call c.found_nothing.result c.found_nothing.ensures c.if-found_nothing.true)))
