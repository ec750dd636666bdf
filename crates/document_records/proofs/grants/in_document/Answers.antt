use Rattle.std.proofs.Common.{◌∙◌, sym}
use Rattle.document_records.proofs.GrantsByNumber.{here-none, here-some}
use Rattle.document_records.proofs.grants.in_document.Goals as goal

pub returns-in-Some : goal.returns-in-Some
returns-in-Some c =
    c.as_slice.ensures.value
    ∙ here-some c.args.id.number c.args.documents.now.entries c.in-Some.grants.now c.requires.order c.requires.each (sym c.in-Some.ensures.value)

pub returns-in-None : goal.returns-in-None
returns-in-None c = here-none c.args.id.number c.args.documents.now.entries c.requires.each (sym c.in-None.ensures.value)
