-- The paths of which documents tell, and those that the open files of connections name, by the
-- numbers of their handles.
use Rattle.std.specs.Prelude.{ℕ, List, [], Bool, false, ◌&&◌, ◌||◌, Option, Some, None}
use Rattle.std.specs.List.{list_any}
use Rattle.portal_base.specs.Names.{is_same}
use Rattle.portal_base.specs.declared.files.FileName.{FileName}
use Rattle.portal_model.specs.declared.handle.Handle.{Handle}
use Rattle.portal_model.specs.declared.state.Connection.{Connection}
use Rattle.portal_model.specs.declared.temporary.OwnTemp.{OwnTemp}
use Rattle.portal_model.specs.declared.temporary.Temp.{Temp}
use Rattle.portal_model.specs.State.{is_app}
use Rattle.open_handles.specs.Opened.{Opened, handle_of, opened_on}
use Rattle.app_world.specs.View.{HeldDocument, is_of_document, same_name}
use Rattle.named_paths.specs.OpenNumbers.{OpenNumbers, numbers_of}
use Rattle.save_files.specs.Own.{Own, own_on, owned}

-- the path is that of one of the documents, or lies below one that is a folder
abbrev pub are_of : List HeldDocument → List ℕ → Bool
are_of documents path = list_any (λ d. is_of_document d.document path) documents

-- a file of this path is open
abbrev pub is_open_at : List ℕ → Option Handle → Bool
is_open_at path None = false
is_open_at path (Some (Handle.File name node document strict read write)) = is_same name.path path
is_open_at path (Some (Handle.Folder node names)) = false

-- on a seat, by one of the numbers that are kept of it
abbrev pub has_open : OpenNumbers → List (ℕ × Opened) → List ℕ → ℕ → Bool
has_open numbers seats path seat =
    list_any (λ n. is_open_at path (handle_of (opened_on seats seat) n)) (numbers_of numbers seat)

-- on a connection of the application
abbrev pub any_has_open :
    OpenNumbers → List (ℕ × Opened) → List ℕ → List ℕ → List Connection → Bool
any_has_open numbers seats app path connections =
    list_any (λ c. is_app app c.who && has_open numbers seats path c.seat) connections

-- ---- files by their names

-- this very file is open
abbrev pub is_open_as : FileName → Option Handle → Bool
is_open_as name None = false
is_open_as name (Some (Handle.File file node document strict read write)) = same_name file name
is_open_as name (Some (Handle.Folder node names)) = false

-- on a seat, by one of the numbers that are kept of it
abbrev pub has_file_open : OpenNumbers → List (ℕ × Opened) → FileName → ℕ → Bool
has_file_open numbers seats name seat =
    list_any (λ n. is_open_as name (handle_of (opened_on seats seat) n)) (numbers_of numbers seat)

-- it is one of its temporaries
abbrev pub temps_of : Option Own → List OwnTemp
temps_of None = []
temps_of (Some o) = owned o.temps

abbrev pub is_temp_at : FileName → Option OwnTemp → Bool
is_temp_at name None = false
is_temp_at name (Some t) = same_name t.temp.file name

abbrev pub is_temp_of : FileName → Option Temp → Bool
is_temp_of name None = false
is_temp_of name (Some t) = same_name t.file name

abbrev pub has_temp : List (ℕ × Own) → FileName → ℕ → Bool
has_temp temps name seat =
    list_any (λ t. same_name t.temp.file name) (temps_of (own_on temps seat))

-- on a connection of the application
abbrev pub any_names :
    OpenNumbers → List (ℕ × Opened) → List (ℕ × Own) → List ℕ → FileName → List Connection → Bool
any_names numbers seats temps app name connections =
    list_any
    (λ c. is_app app c.who
    && (has_file_open numbers seats name c.seat || has_temp temps name c.seat))
    connections
