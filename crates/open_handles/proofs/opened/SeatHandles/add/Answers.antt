use Rattle.std.proofs.Common.{◌≡◌, ◌+◌, ◌<◌, ◌++◌, [], ◌∷◌, nat_eq, refl, ap, ◌∙◌, rules}
use Rattle.indexmap.proofs.CallerLemmas.{insert_entry-new}
use Rattle.open_handles.specs.Opened.{Opened}
use Rattle.open_handles.proofs.OpenedLemmas.{numbered-next}
use Rattle.open_handles.proofs.opened.SeatHandles.add.Goals as goal

pub invariant_of-self : goal.invariant_of-self
invariant_of-self c =
    let number : c.in_ok-fh.fh ≡ c.self.inside.last + 1 = search rules in
    numbered-next c.self.inside.last _ _ c.in_ok-fh.fh c.args.handle c.self.invariant number c.in-Ok.ensures.updates.0 c.in-Ok.ensures.unique

pub returns-in-Ok-clause-ok : goal.returns-in-Ok-clause-ok
returns-in-Ok-clause-ok c =
    let above : c.self.inside.last < c.in_ok-fh.fh = search rules in
    record {
      number = search rules;
      limit = search rules;
      last = refl;
      handles =
          c.in-Ok.ensures.entries
          ∙ (insert_entry-new nat_eq c.self.inside.handles c.in_ok-fh.fh c.args.handle (c.self.invariant.given c.in_ok-fh.fh above)
          ∙ ap (λ (t : Opened). t.handles ++ (c.in_ok-fh.fh, c.args.handle) ∷ []) c.self.view_is);
    }
