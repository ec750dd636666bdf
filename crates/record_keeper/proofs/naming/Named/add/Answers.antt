use Rattle.std.proofs.Common.{sym, ◌∙◌, ap}
use Rattle.std.specs.List.{list_any}
use Rattle.portal_base.specs.Names.{is_same}
use Rattle.record_keeper.proofs.NamingFacts.{named_with}
use Rattle.record_keeper.proofs.naming.Named.add.Goals as goal

pub invariant_of-self-in-Ok : goal.invariant_of-self-in-Ok
invariant_of-self-in-Ok c = λ name.
    c.in-Ok.ensures.ok (is_same name)
    ∙ named_with c.self.inside.names c.self.inside.known _ _ name (c.in_ok-key.ensures ∙ sym c.in_ok-app.ensures) (c.self.invariant name)
    ∙ ap (list_any (λ known. is_same known name)) (sym c.in_ok-push.ensures.ok)
