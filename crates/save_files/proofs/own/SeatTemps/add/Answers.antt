use Rattle.std.proofs.Common.{◌≡◌, ◌+◌, ◌<◌, ◌++◌, [], ◌∷◌, nat_eq, refl, ap, ◌∙◌, rules}
use Rattle.indexmap.proofs.CallerLemmas.{insert_entry-new}
use Rattle.save_files.specs.Own.{Own}
use Rattle.save_files.proofs.OwnLemmas.{numbered-next}
use Rattle.save_files.proofs.own.SeatTemps.add.Goals as goal

pub invariant_of-self : goal.invariant_of-self
invariant_of-self c =
    let number : c.in_ok-k.k ≡ c.self.inside.added + 1 = search rules in
    numbered-next c.self.inside.added _ _ c.in_ok-k.k c.args.temp c.self.invariant number c.in-Ok.ensures.updates.0 c.in-Ok.ensures.unique

pub returns-in-Ok-clause-ok : goal.returns-in-Ok-clause-ok
returns-in-Ok-clause-ok c =
    let above : c.self.inside.added < c.in_ok-k.k = search rules in
    record {
      number = search rules;
      limit = search rules;
      added = refl;
      temps =
          c.in-Ok.ensures.entries
          ∙ (insert_entry-new nat_eq c.self.inside.temps c.in_ok-k.k c.args.temp (c.self.invariant.given c.in_ok-k.k above)
          ∙ ap (λ (t : Own). t.temps ++ (c.in_ok-k.k, c.args.temp) ∷ []) c.self.view_is);
    }
