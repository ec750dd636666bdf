use Rattle.std.proofs.Common.{◌≡◌, ap, ◌∙◌, List, ℕ}
use Rattle.portal_model.specs.Ordered.{bytes_less}
use Rattle.portal_model.proofs.TripleOrder.{bytes-compared}
use Rattle.file_ops.proofs.temps_listed.is_before.Goals as goal

pub returns : goal.returns
returns c =
    let compared : c.lt.result ≡ bytes_less c.as_slice.result.now c.args.name.now = bytes-compared c.as_slice.result.now c.args.name.now c.lt.result c.lt.ensures in
    compared ∙ ap (λ (t : List ℕ). bytes_less t c.args.name.now) c.as_slice.ensures
