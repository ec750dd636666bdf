use Rattle.std.proofs.Common.{Option, refl, subst}
use Rattle.portal_base.specs.declared.names.doc_id.DocId.{DocId}
use Rattle.add_calls.specs.Placing.{Found}
use Rattle.add_calls.proofs.PlacingLemmas.{found-drawn, found-made, placed-none, placed-some}
use Rattle.add_calls.proofs.place.place_item.Goals as goal

pub returns-in-Ok-None-clause-ok : goal.returns-in-Ok-None-clause-ok
returns-in-Ok-None-clause-ok g c =
    placed-none c.args.who.now c.args.add.now c.args.plan.now c.args.item.now c.args.documents.now c.find_document.new.documents c.args.grants.now c.args.applications.now
    (g.W.Words.told c.args.words.now) (g.W.Words.told c.find_document.new.words) c.args.drawn.now c.find_document.new.drawn c.args.item.now.place refl
    (subst (λ (id : Option DocId). Found c.args.add.now c.args.item.now.path c.args.item.now.place id c.args.documents.now c.find_document.new.documents (g.W.Words.told c.args.words.now) (g.W.Words.told c.find_document.new.words) c.args.drawn.now c.find_document.new.drawn) c.in-Ok-None.field-0-is c.in-Ok-None.ensures.ok)

pub returns-in-Ok-clause-ok : goal.returns-in-Ok-clause-ok
returns-in-Ok-clause-ok g c =
    placed-some c.args.who.now c.args.add.now c.args.plan.now c.args.item.now c.args.documents.now c.find_document.new.documents c.args.grants.now c.args.applications.now
    (g.W.Words.told c.args.words.now) (g.W.Words.told c.find_document.new.words) c.args.drawn.now c.find_document.new.drawn
    c.in-Ok-Some.id c.in-Ok.given c.give_both.new.grants c.give_both.new.applications c.in-Ok.ensures.ok c.args.item.now.place refl
    (subst (λ (id : Option DocId). Found c.args.add.now c.args.item.now.path c.args.item.now.place id c.args.documents.now c.find_document.new.documents (g.W.Words.told c.args.words.now) (g.W.Words.told c.find_document.new.words) c.args.drawn.now c.find_document.new.drawn) c.in-Ok-Some.field-0-is c.in-Ok-Some.ensures.ok)

pub returns-in-Err-give_both-clause-documents : goal.returns-in-Err-give_both-clause-documents
returns-in-Err-give_both-clause-documents g c =
    c.take_document_back.ensures c.args.add.now c.args.item.now.path c.args.documents.now
    (found-made c.args.who.now c.args.add.now c.args.plan.now c.args.item.now c.args.documents.now c.find_document.new.documents c.args.grants.now c.args.applications.now
    (g.W.Words.told c.args.words.now) (g.W.Words.told c.find_document.new.words) c.args.drawn.now c.find_document.new.drawn c.args.item.now.place c.in-Ok-Some.id
    (subst (λ (id : Option DocId). Found c.args.add.now c.args.item.now.path c.args.item.now.place id c.args.documents.now c.find_document.new.documents (g.W.Words.told c.args.words.now) (g.W.Words.told c.find_document.new.words) c.args.drawn.now c.find_document.new.drawn) c.in-Ok-Some.field-0-is c.in-Ok-Some.ensures.ok))

pub returns-in-Err-give_both-clause-words : goal.returns-in-Err-give_both-clause-words
returns-in-Err-give_both-clause-words g c =
    found-drawn c.args.who.now c.args.add.now c.args.plan.now c.args.item.now c.args.documents.now c.find_document.new.documents c.args.grants.now c.args.applications.now
    (g.W.Words.told c.args.words.now) (g.W.Words.told c.find_document.new.words) c.args.drawn.now c.find_document.new.drawn c.args.item.now.place c.in-Ok-Some.field-0 c.in-Ok-Some.ensures.ok
