-- What is true of what a connection has named: below exported folders, and as temporaries.
use Rattle.std.specs.Prelude.{◌≡◌, ◌≤◌, ℕ, ◌==◌, ◌&&◌, nat_le, nat_lt, List, length, Bool, true, not, Option, Some, None}
use Rattle.std.specs.List.{list_all, IsDistinct}
use Rattle.portal_base.specs.Content.{is_above}
use Rattle.portal_base.specs.Names.{is_host_path, is_same}
use Rattle.portal_base.specs.declared.files.FileName.{FileName}
use Rattle.portal_base.specs.declared.names.doc_id.DocId.{DocId}
use Rattle.portal_base.specs.declared.who.Who.{Who}
use Rattle.portal_model.specs.declared.naming.Naming.{Naming}
use Rattle.portal_model.specs.declared.state.Document.{Document}
use Rattle.portal_model.specs.declared.temporary.OwnTemp.{OwnTemp}
use Rattle.portal_model.specs.declared.temporary.Temp.{Temp}
use Rattle.portal_model.specs.SeatNames.{last_temp, namings_limit, same_naming, temps_limit}
use Rattle.portal_model.specs.State.{document_of, is_made}

-- ---- names below exported folders

-- while its document is live, that is a folder, and the path goes on from the document's by at
-- least one part
abbrev pub is_placed_naming : Option Document → Naming → Bool
is_placed_naming None n = true
is_placed_naming (Some d) n = d.folder && is_above d.path n.path

-- its document was made, and no part of its path is "." or "..", as of none on the host
abbrev pub is_sound_naming : List DocId → List Document → Naming → Bool
is_sound_naming made documents n =
    is_made made n.document.number
    && (is_host_path n.path && is_placed_naming (document_of documents n.document.number) n)

-- namings differ, and there are not too many
pub record SoundNamings (made : List DocId) (documents : List Document) (namings : List Naming)
    : Type 0 where
  pub differ : IsDistinct same_naming namings
  pub within : length namings ≤ namings_limit
  pub sound : list_all (is_sound_naming made documents) namings ≡ true

-- ---- temporaries

abbrev pub same_number : OwnTemp → OwnTemp → Bool
same_number a b = a.k == b.k

-- while its document is live, that is no folder, and the temporary is a file of its path
abbrev pub is_placed_temp : Option Document → Temp → Bool
is_placed_temp None t = true
is_placed_temp (Some d) t = not d.folder && is_same t.file.path d.path

-- an application makes temporaries in its own view alone
abbrev pub is_viewed_temp : Who → Temp → Bool
is_viewed_temp Who.Host t = true
is_viewed_temp (Who.App app) t = t.view == 0

-- a file of a path on the host that isn't the first of it
abbrev pub is_later_file : FileName → Bool
is_later_file name = is_host_path name.path && nat_lt 0 name.generation

abbrev pub is_sound_temp : List DocId → List Document → Who → ℕ → OwnTemp → Bool
is_sound_temp made documents who added t =
    (nat_lt 0 t.k && nat_le t.k added)
    && (is_made made t.temp.document.number
    && (is_placed_temp (document_of documents t.temp.document.number) t.temp
    && (is_viewed_temp who t.temp && is_later_file t.temp.file)))

-- their numbers differ, and are from 1 to the count of those that were made, which nodes have room
-- for; and there are not too many
pub record SoundTemps (made : List DocId) (documents : List Document) (who : Who) (added : ℕ)
    (temps : List OwnTemp) : Type 0 where
  pub differ : IsDistinct same_number temps
  pub within : length temps ≤ temps_limit
  pub counted : added ≤ last_temp
  pub sound : list_all (is_sound_temp made documents who added) temps ≡ true
