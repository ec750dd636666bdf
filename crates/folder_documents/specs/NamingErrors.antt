-- Why a naming gets no number: the connection has as many as it may, or there is no memory.
use Rattle.std.specs.Prelude.{◌≡◌, ◌<◌, ◌≤◌, false, length}
use Rattle.portal_model.specs.declared.naming.Naming.{Naming}
use Rattle.folder_documents.specs.Named.{Named, has_naming, most_namings}
use Rattle.folder_documents.specs.declared.named.NamingError.{NamingError}
use Rattle.folder_documents.specs.declared.named.NamingError.TheVariants.{Full, Memory}

-- it was refused where it isn't there yet: exactly where there are as many as there may be, Full
abbrev pub Refuses : Naming → Named → NamingError → Type 0
Refuses naming n Full = (has_naming naming n.namings ≡ false) × (most_namings ≤ length n.namings)
Refuses naming n Memory = (has_naming naming n.namings ≡ false) × (length n.namings < most_namings)

-- the same, but for memory, which may be wanting for a copy of the naming
abbrev pub RefusesRoom : Naming → Named → NamingError → Type 0
RefusesRoom naming n Full = Refuses naming n Full
RefusesRoom naming n Memory = Unit {0}
