use Rattle.std.proofs.Common.{arith, [], ◌∷◌}
use Rattle.std.proofs.lemmas.List.Sums.{sum_by-append}
use Rattle.portal_model.specs.declared.entry.Entry.{Entry}
use Rattle.portal_model.specs.History.{cost_of}
use Rattle.portal_history.proofs.history.History.push.Goals as goal

pub invariant_of-self : goal.invariant_of-self
invariant_of-self c = grind (arith, sum_by-append (λ (e : Entry). cost_of e.request) c.self.inside.kept.entries (c.args.entry ∷ []))
