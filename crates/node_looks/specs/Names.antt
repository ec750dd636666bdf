-- The names in the folders that documents don't make.
use Rattle.std.specs.Prelude.{ℕ, ◌==◌, List, Bool, false, Option, Some, None, cond}
use Rattle.portal_base.specs.Names.{is_same}
use Rattle.portal_base.specs.declared.names.doc_id.DocId.{DocId}

-- whether the identifier is that of this number
abbrev pub is_number : Option DocId → ℕ → Bool
is_number None number = false
is_number (Some id) number = number == id.number

-- whether the application, where there is one, has this name
abbrev pub is_app : Option (List ℕ) → List ℕ → Bool
is_app None name = false
is_app (Some app) name = is_same app name

-- the number, where its document is seen
abbrev pub where_seen : Option DocId → (ℕ → Bool) → Option ℕ
where_seen None seen = None
where_seen (Some id) seen = cond (seen id.number) (Some id.number) None
