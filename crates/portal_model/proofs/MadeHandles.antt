-- The document of each open file was made, and stays so.
use Rattle.std.proofs.Common.{◌≡◌, ℕ, List, [], ◌∷◌, ◌++◌, true, Option, Some, None, refl}
use Rattle.std.specs.List.{list_all}
use Rattle.portal_base.specs.declared.names.doc_id.DocId.{DocId}
use Rattle.portal_model.specs.declared.handle.Handle.{Handle}
use Rattle.portal_model.specs.declared.handle.OpenHandle.{OpenHandle}
use Rattle.portal_model.specs.declared.state.Connection.{Connection}
use Rattle.portal_model.specs.Leave.{handles_left}
use Rattle.portal_model.specs.Valid.{has_made_document, is_of_made}
use Rattle.portal_model.proofs.DistinctItems.{list_all-filter, list_all-weaken}
use Rattle.portal_model.proofs.DocumentChanges.{still_made}

one-more-made : (made : List DocId) (id : DocId) (handle : Handle) → has_made_document made handle ≡ true → has_made_document (made ++ id ∷ []) handle ≡ true
one-more-made made id (Handle.File name node document strict read write) h = still_made made id document.number h
one-more-made made id (Handle.Folder node names) h = refl

-- one more document is made
pub more-made : (made : List DocId) (id : DocId) (hs : List OpenHandle) → list_all (is_of_made made) hs ≡ true → list_all (is_of_made (made ++ id ∷ [])) hs ≡ true
more-made made id hs h = list_all-weaken (is_of_made made) (is_of_made (made ++ id ∷ [])) (λ x k. one-more-made made id x.handle k) hs h

-- a connection leaves
pub left-made : (made : List DocId) (seat : ℕ) (hs : List OpenHandle) (o : Option Connection) → list_all (is_of_made made) hs ≡ true → list_all (is_of_made made) (handles_left seat hs o) ≡ true
left-made made seat hs None h = h
left-made made seat hs (Some c) h = list_all-filter (is_of_made made) _ hs h
