use Rattle.std.proofs.Common.{◌≡◌, sym, ◌∙◌, ap, Some, None}
use Rattle.portal_base.specs.Names.{doc_text}
use Rattle.portal_base.specs.DocIds.{doc_id_of}
use Rattle.portal_base.specs.declared.names.doc_id.DocId.{DocId}
use Rattle.script_lines.proofs.LineFacts.{id_again}
use Rattle.script_lines.proofs.WordFacts.{not_differ}
use Rattle.script_lines.proofs.line.read_id.Goals as goal

pub returns-in_err-id : goal.returns-in_err-id
returns-in_err-id c = rw c.from_residual.ensures (λ id fits same.
    let found : None ≡ Some id = c.in_err-id.ensures ∙ ap doc_id_of same ∙ id_again id.number fits in
    cc found)

pub returns-then-ne : goal.returns-then-ne
returns-then-ne c = λ id fits same.
    let found : Some c.in_ok-id.id ≡ Some id = c.in_ok-id.ensures ∙ ap doc_id_of same ∙ id_again id.number fits in
    let this : c.in_ok-id.id ≡ id = cc found in
    not_differ c.as_slice.result.now c.args.word.now c.if-ne.ensures
    (c.as_slice.ensures ∙ c.text.ensures.digits ∙ ap (λ (i : DocId). doc_text i.number) this ∙ sym same)
