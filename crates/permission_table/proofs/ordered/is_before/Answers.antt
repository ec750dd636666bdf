use Rattle.std.proofs.Common.{◌≡◌, ap, ◌∙◌, List, ℕ}
use Rattle.portal_model.specs.Ordered.{bytes_less}
use Rattle.portal_model.proofs.TripleOrder.{bytes-compared}
use Rattle.permission_table.proofs.ordered.is_before.Goals as goal

pub returns : goal.returns
returns g c =
    let compared : c.lt.result ≡ bytes_less c.key.result.now c.args.key.now = bytes-compared c.key.result.now c.args.key.now c.lt.result c.lt.ensures in
    compared ∙ ap (λ (t : List ℕ). bytes_less t c.args.key.now) c.key.ensures
