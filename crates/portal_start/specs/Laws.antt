-- What is true of all records that a portal starts with.
use Rattle.std.specs.Prelude.{◌≡◌}
use Rattle.portal_base.specs.declared.limits.Limits.{Limits}
use Rattle.portal_model.specs.declared.opening.OpeningState.{OpeningState}
use Rattle.portal_model.specs.declared.records.Records.{Records}
use Rattle.portal_start.specs.Loading.{IsOpening}

-- records with the same documents and entries open the same state, whatever their versions
abbrev pub VersionsOpenAlike : Type 0
VersionsOpenAlike = (limits : Limits) (one other : Records) (first second : OpeningState)
    → one.documents ≡ other.documents → one.entries ≡ other.entries → IsOpening limits one first
    → IsOpening limits other second → first ≡ second
