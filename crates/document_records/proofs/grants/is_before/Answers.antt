use Rattle.std.proofs.Common.{◌≡◌, ◌==◌, List, ℕ, Bool, ltb, true, cond, ap, sym, ◌∙◌}
use Rattle.portal_model.specs.Ordered.{bytes_less}
use Rattle.portal_model.proofs.TripleOrder.{bytes-compared, nat-itself}
use Rattle.document_records.proofs.grants.is_before.Goals as goal

pub returns-then-grant-id : goal.returns-then-grant-id
returns-then-grant-id c =
    let compared : c.lt.result ≡ bytes_less c.as_bytes.result.now c.as_bytes-then-grant-id.result.now = bytes-compared c.as_bytes.result.now c.as_bytes-then-grant-id.result.now c.lt.result c.lt.ensures in
    let same : (c.args.grant.now.id.number == c.args.id.number) ≡ true = ap (λ (n : ℕ). c.args.grant.now.id.number == n) (sym c.if-grant-id.true) ∙ nat-itself c.args.grant.now.id.number in
    compared
    ∙ (ap (λ (t : List ℕ). bytes_less t c.as_bytes-then-grant-id.result.now) c.as_bytes.ensures.bytes
    ∙ (ap (λ (t : List ℕ). bytes_less c.args.grant.now.app t) c.as_bytes-then-grant-id.ensures.bytes
    ∙ sym (ap (λ (b : Bool). cond b (bytes_less c.args.grant.now.app c.args.app.now) (ltb c.args.grant.now.id.number c.args.id.number)) same)))
