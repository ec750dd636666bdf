use Rattle.std.proofs.Common.{List, subst, sym}
use Rattle.portal_model.specs.declared.entry.Entry.{Entry}
use Rattle.portal_model.specs.State.{State}
use Rattle.serve_posts.specs.Rounds.{Renewal}
use Rattle.serve_posts.proofs.shift.renewed.Goals as goal

pub returns : goal.returns
returns g c =
    let o = g.S.Storied.opening c.args.story in
    let log = g.S.Storied.entries c.args.story in
    subst (λ (p : State). Renewal o log p (g.S.Storied.entries c.kept_ahead.result)) (sym c.kept_ahead.ensures.opening)
    (subst (λ (base : List Entry). Renewal o log (g.S.Storied.opening c.begun_anew-story.result) base) (sym c.kept_ahead.ensures.entries) c.begun_anew-story.ensures)
