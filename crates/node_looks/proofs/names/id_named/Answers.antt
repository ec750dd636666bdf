use Rattle.std.proofs.Common.{◌≡◌, ◌<◌, ◌^◌, ◌∙◌, sym, ap, List, ℕ, Option, subst}
use Rattle.portal_base.specs.Names.{doc_text, is_same}
use Rattle.portal_base.specs.declared.names.doc_id.DocId.{DocId}
use Rattle.node_looks.specs.Names.{is_number}
use Rattle.node_looks.proofs.SeenNumbers.{other-text, own-text, unread}
use Rattle.node_looks.proofs.names.id_named.Goals as goal

pub returns-in_err-id : goal.returns-in_err-id
returns-in_err-id c =
    subst (λ (o : Option DocId). (n : ℕ) → n < 2 ^ 32 → is_same (doc_text n) c.args.name.now ≡ is_number o n) (sym c.from_residual.ensures)
    (unread c.args.name.now (sym c.in_err-id.was ∙ c.read.ensures))

pub returns-then-eq : goal.returns-then-eq
returns-then-eq c =
    own-text c.args.name.now c.in_ok-id.id (sym c.in_ok-id.was ∙ c.read.ensures)
    (ap (λ (t : List ℕ). is_same t c.args.name.now) (sym (c.as_slice.ensures ∙ c.text.ensures.digits)) ∙ sym c.if-eq.ensures)

pub returns-else-eq : goal.returns-else-eq
returns-else-eq c =
    other-text c.args.name.now c.in_ok-id.id (sym c.in_ok-id.was ∙ c.read.ensures)
    (ap (λ (t : List ℕ). is_same t c.args.name.now) (sym (c.as_slice.ensures ∙ c.text.ensures.digits)) ∙ sym c.if-eq.ensures)
