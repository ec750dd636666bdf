-- The rights in one document, as grants tell them.
use Rattle.std.specs.Prelude.{ℕ, List, [], ◌∷◌, cond}
use Rattle.rights_rule.specs.Rights.{RightSet, names_of}
use Rattle.portal_model.specs.declared.records.GrantRecord.{GrantRecord}
use Rattle.portal_model.specs.declared.records.Row.{Row}
use Rattle.portal_model.specs.Kept.{bits_of}
use Rattle.document_records.specs.declared.grants.Grant.{Grant}
use Rattle.document_records.specs.Grants.{has_a_right, is_in_document, taken}

-- how a grant is told
abbrev pub row_of_grant : Grant → Row
row_of_grant g = record { app = g.app; names = names_of g.rights }

-- and how it is kept
abbrev pub record_of_grant : Grant → GrantRecord
record_of_grant g = record { app = g.app; rights = bits_of g.rights }

abbrev pub row_held : ℕ → Grant → List Row
row_held number g = cond (is_in_document number g) (row_of_grant g ∷ []) []

abbrev pub record_held : Grant → List GrantRecord
record_held g = cond (has_a_right g) (record_of_grant g ∷ []) []

-- what is left to a grant once these rights of an application are taken away
abbrev pub rights_left : List ℕ → ℕ → RightSet → Grant → RightSet
rights_left app number set g = (taken app number set g).rights

-- what is kept of a grant once these rights of an application are taken away
abbrev pub record_left : List ℕ → ℕ → RightSet → Grant → List GrantRecord
record_left app number set g =
    cond (is_in_document number g) (record_held (taken app number set g)) []
