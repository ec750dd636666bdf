-- Document identifiers.
use Rattle.std.specs.Prelude.{ℕ, List, Option, Some, None, if◌then◌else◌}
use Rattle.portal_base.specs.declared.names.doc_id.DocId.{DocId}
use Rattle.portal_base.specs.Names.{is_doc_id, hex_number}

-- the identifier that a text is
unfoldable pub doc_id_of : List ℕ → Option DocId
doc_id_of t = if is_doc_id t then Some (record { number = hex_number t }) else None
