-- Why a document isn't added.
use Rattle.std.specs.Prelude.{◌≡◌, length, ◌≢◌}
use Rattle.document_records.specs.declared.documents.DocError.{DocError}
use Rattle.document_records.specs.declared.documents.DocError.TheVariants.{Full, Memory}
use Rattle.document_records.specs.Documents.{DocumentList, room}

-- there is no room, and both numbers are told; or there is room, and no memory
abbrev pub RefusesDocument : DocumentList → DocError → Type 0
RefusesDocument s (Full live made) = (room s ≡ 0) × (live ≡ length s.live) × (made ≡ length s.made)
RefusesDocument s Memory = room s ≢ 0
