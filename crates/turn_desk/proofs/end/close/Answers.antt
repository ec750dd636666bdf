use Rattle.std.proofs.Common.{◌≡◌, ◌⊎◌, ◌<◌, Some, vec_len, sym, ap, ◌∙◌, subst}
use Rattle.std.specs.Prelude.{slice_get}
use Rattle.portal_model.specs.History.{of_seat}
use Rattle.turn_desk.specs.Deals.{Stands}
use Rattle.turn_desk.specs.Sights.{Sight}
use Rattle.turn_desk.specs.Views.{IsKept}
use Rattle.turn_desk.proofs.Ending.{all_stand, covers_all, taken}
use Rattle.turn_desk.proofs.Fronts.{entries-same}
use Rattle.turn_desk.proofs.end.close.Goals as goal

pub finish-requires-clause-all : goal.finish-requires-clause-all
finish-requires-clause-all g c =
    let f = c.in-Some.ensures.found in
    let at : slice_get c.args.passes.items c.in-Some.at ≡ Some f.0 = ap (λ l. slice_get l c.in-Some.at) (sym c.as_slice.ensures.value) ∙ f.1 in
    let t = taken c.args.passes.items c.remove-first.new.self.items c.in-Some.at c.remove-first.result f.0 at c.remove-first.ensures.value c.remove-first.ensures.by_index.2 in
    let first : c.remove-first.result.knows.number ≡ 1 = ap (λ p. p.knows.number) t.0 ∙ f.2 in
    let made : c.remove-first.result.knows.made ≡ c.args.turn.seats = ap (λ p. p.knows.made) t.0 ∙ (c.requires.each c.in-Some.at f.0 at).all_given f.2 in
    let root = c.gather-root.ensures.root in
    covers_all (λ p. p.knows) c.args.passes.items c.remove-first.new.self.items c.remove-first.result c.gather-root.result.me.0 c.args.turn.seats t.1 first (root.0 ∙ (ap (λ s. s.knows.number) c.first.view_is ∙ first))
    (root.1 ∙ (ap (λ s. s.knows.made) c.first.view_is ∙ made)) c.requires.all c.gather-root.ensures.others

pub returns-clause-seats : goal.returns-clause-seats
returns-clause-seats g c =
    let f = c.in-Some.ensures.found in
    let at : slice_get c.args.passes.items c.in-Some.at ≡ Some f.0 = ap (λ l. slice_get l c.in-Some.at) (sym c.as_slice.ensures.value) ∙ f.1 in
    let t = taken c.args.passes.items c.remove-first.new.self.items c.in-Some.at c.remove-first.result f.0 at c.remove-first.ensures.value c.remove-first.ensures.by_index.2 in
    let e = c.finish.ensures in
    let kept = subst (λ (z : Sight). ((c.gather-root.result.me.0 ≡ z.knows) × (vec_len c.remove-first.new.self ≡ 0)) ⊎ IsKept c.gather-root.result.me.0 z.knows) c.first.view_is c.gather-root.ensures.kept in
    let stand = all_stand (λ p. p.knows) _ (g.S.Storied.opening c.turn.inside.board.shared.key.value) (g.S.Storied.entries c.finish.result) c.args.passes.items c.remove-first.new.self.items c.remove-first.result c.gather-root.result.me.0 t.1
    e.seen e.mine e.known e.kept (vec_len c.remove-first.new.self ≡ 0) kept c.gather-root.ensures.others in
    λ k p is. subst (λ z. Stands (g.S.Storied.opening z.start) (g.S.Storied.entries c.finish.result) p.knows) c.turn.view_is (stand k p is)

pub returns-clause-others : goal.returns-clause-others
returns-clause-others g c =
    let f = c.in-Some.ensures.found in
    let at : slice_get c.args.passes.items c.in-Some.at ≡ Some f.0 = ap (λ l. slice_get l c.in-Some.at) (sym c.as_slice.ensures.value) ∙ f.1 in
    let t = taken c.args.passes.items c.remove-first.new.self.items c.in-Some.at c.remove-first.result f.0 at c.remove-first.ensures.value c.remove-first.ensures.by_index.2 in
    let made : c.gather-root.result.me.0.made ≡ c.args.turn.seats =
    c.gather-root.ensures.root.1 ∙ (ap (λ s. s.knows.made) c.first.view_is ∙ (ap (λ p. p.knows.made) t.0 ∙ (c.requires.each c.in-Some.at f.0 at).all_given f.2)) in
    let key = c.turn.inside.board.shared.key.value in
    λ n z. entries-same n (g.S.Storied.opening key) (g.S.Storied.entries c.finish.result) (g.S.Storied.entries key) (c.finish.ensures.unmade n (subst (λ k. (n ≡ 0) ⊎ (k < n)) (sym made) z)) ∙ ap (λ t. of_seat n (g.S.Storied.entries t.start)) c.turn.view_is
