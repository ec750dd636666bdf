-- The document of an identifier, by what is read of it and what is found.
use Rattle.std.proofs.Common.{◌≡◌, ℕ, List, Bool, true, false, cond, Option, Some, None, refl, ap}
use Rattle.portal_base.specs.DocIds.{doc_id_of}
use Rattle.portal_base.specs.Names.{is_doc_id, hex_number}
use Rattle.portal_base.specs.declared.names.doc_id.DocId.{DocId}
use Rattle.portal_model.specs.declared.state.Document.{Document}
use Rattle.portal_model.specs.Arguments.{document_named}
use Rattle.portal_model.specs.State.{document_of}

-- a text that is no identifier names nothing
pub names-nothing : (documents : List Document) (doc : List ℕ) → doc_id_of doc ≡ None → document_named documents doc ≡ None
unfolding doc_id_of
names-nothing documents doc e = by-test (is_doc_id doc) (document_of documents (hex_number doc)) (record { number = hex_number doc }) e
  where
    by-test : (b : Bool) (found : Option Document) (id : DocId) → cond b (Some id) None ≡ None → cond b found None ≡ None
    by-test true found id e = cc
    by-test false found id e = refl

pub names-number : (documents : List Document) (doc : List ℕ) (id : DocId) → doc_id_of doc ≡ Some id → document_named documents doc ≡ document_of documents id.number
unfolding doc_id_of
names-number documents doc id e = by-test (is_doc_id doc) (record { number = hex_number doc }) id e
  where
    by-test : (b : Bool) (read id : DocId) → cond b (Some read) None ≡ Some id → cond b (document_of documents read.number) None ≡ document_of documents id.number
    by-test true read id e = let same : read ≡ id = cc in ap (λ (x : DocId). document_of documents x.number) same
    by-test false read id e = cc
