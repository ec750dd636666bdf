use Rattle.std.proofs.Common.{rules, ◌≡◌, Some, sym, ◌∙◌, subst}
use mathlib.Core.Option.{some-injective}
use Rattle.turn_desk.specs.Rules.{Ends}
use Rattle.turn_desk.proofs.Turns.{ends}
use Rattle.turn_desk.proofs.table.finish.Goals as goal

pub unwrap-portal-requires : goal.unwrap-portal-requires
unwrap-portal-requires g c =
    let f = c.close_with-closed.ensures.values.2 in
    let e = ends g.S.Storied.opening g.S.Storied.entries c.args.board.shared.key.value f.0 c.args.place.id c.args.place.me.0 f.1.0 f.1.1 c.requires.seat.0 c.requires.seat.1 c.requires.all in
    let t : c.take.result ≡ Some e.0 = some-injective _ _ (sym c.take.ensures.value ∙ f.4 0 (Some e.0) e.1) in
    search rules

pub returns : goal.returns
returns g c =
    let f = c.close_with-closed.ensures.values.2 in
    let e = ends g.S.Storied.opening g.S.Storied.entries c.args.board.shared.key.value f.0 c.args.place.id c.args.place.me.0 f.1.0 f.1.1 c.requires.seat.0 c.requires.seat.1 c.requires.all in
    let t : c.take.result ≡ Some e.0 = some-injective _ _ (sym c.take.ensures.value ∙ f.4 0 (Some e.0) e.1) in
    let u : c.take.result ≡ Some c.unwrap-portal.result = search rules in
    let same : e.0 ≡ c.unwrap-portal.result = cc in
    subst (λ x. Ends g.S.Storied.opening g.S.Storied.entries c.args.board.shared.key.value x c.args.place.me.0.made c.args.place.me.0) same e.2
