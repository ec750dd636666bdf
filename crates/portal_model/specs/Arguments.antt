-- Arguments of the calls on documents, as they come.
-- Source: XDG Desktop Portal documentation, org.freedesktop.portal.Documents.
use Rattle.std.specs.Prelude.{ℕ, ◌-◌, List, [], ◌∷◌, ◌++◌, length, take, Bool, ◌&&◌, cond, Option, Some, None}
use Rattle.portal_base.specs.Names.{is_same, is_doc_id, is_host_path, hex_number}
use Rattle.portal_base.specs.declared.who.Who.{Who}
use Rattle.rights_rule.specs.Rights.{holds_any}
use Rattle.portal_model.specs.declared.state.Document.{Document}
use Rattle.portal_model.specs.declared.state.Triple.{Triple}
use Rattle.portal_model.specs.Rights.{held_by}
use Rattle.portal_model.specs.State.{State, document_of}

-- ---- bytes that a zero byte ends

abbrev pub ahead_of_end : List ℕ → List ℕ
ahead_of_end bytes = take (length bytes - 1) bytes

abbrev pub has_end : List ℕ → Bool
has_end bytes = is_same bytes (ahead_of_end bytes ++ 0 ∷ [])

-- a path on the host, whose end alone is a zero byte
abbrev pub is_ended_path : List ℕ → Bool
is_ended_path bytes = has_end bytes && is_host_path (ahead_of_end bytes)

-- ---- the document of an identifier

-- a text that is no identifier names no document
abbrev pub document_named : List Document → List ℕ → Option Document
document_named documents doc = cond (is_doc_id doc) (document_of documents (hex_number doc)) None

-- to an application that has no right in it a document isn't there
abbrev pub if_reached : List Triple → Who → Option Document → Option Document
if_reached rights who None = None
if_reached rights who (Some d) = cond (holds_any (held_by rights who d.id.number)) (Some d) None

abbrev pub reached : State → Who → List ℕ → Option Document
reached s who doc = if_reached s.rights who (document_named s.documents doc)
