-- What an Add, AddFull, AddNamed or AddNamedFull asks: the files among the presented ones, the
-- flags, the application that is named and the permissions that are listed for it. Source: XDG
-- Desktop Portal documentation, org.freedesktop.portal.Documents, AddFull and AddNamedFull, for the
-- arguments and for what the flags 1, 2, 4 and 8 mean. Rules of this project's own: that the files
-- are presented, and that an application has an own folder; that a call has at most 16 files; that
-- a file name has at most 255 bytes and ends with a zero byte; that a folder is exported under its
-- own name, and for a run alone; and flag 16, strict.
use Rattle.std.specs.Prelude.{ℕ, ◌/◌, ◌%◌, ◌==◌, List, [], ◌∷◌, get_or, length, map, nat_le, nat_lt, take, Bool, not, ◌&&◌, ◌||◌, cond}
use Rattle.std.specs.List.{flat_map, list_all, list_any}
use Rattle.portal_base.specs.Names.{child_of, is_app_name, is_host_path, is_in_own_folder, is_same, is_slash}
use Rattle.rights_rule.specs.Rights.{are_right_names}
use Rattle.portal_model.specs.declared.request.AddRequest.{AddRequest}
use Rattle.portal_model.specs.Arguments.{ahead_of_end, has_end}

-- ---- flags

abbrev pub reuses : AddRequest → Bool
reuses a = a.flags % 2 == 1

abbrev pub persists : AddRequest → Bool
persists a = a.flags / 2 % 2 == 1

-- a document is made only as the application needs it
abbrev pub is_as_needed : AddRequest → Bool
is_as_needed a = a.flags / 4 % 2 == 1

-- open handles of a document follow later revocations
abbrev pub makes_strict : AddRequest → Bool
makes_strict a = a.flags / 16 % 2 == 1

-- a folder is exported
abbrev pub exports : AddRequest → Bool
exports a = a.flags / 8 % 2 == 1

-- 1, 2, 4, 8 and 16; 8 where no file is named, and without 2
abbrev pub are_flags : AddRequest → Bool
are_flags a = nat_lt a.flags 32 && (not (exports a) || (not a.named && not (persists a)))

-- ---- the application that is named, or nothing

abbrev pub names_nobody : AddRequest → Bool
names_nobody a = is_same a.app []

-- ---- files

-- the call takes presented files that are there, and names some of these
abbrev pub are_presented : List (List ℕ) → AddRequest → Bool
are_presented queue a =
    nat_le a.fds (length queue) && list_all (λ handle. nat_lt handle a.fds) a.handles

-- the presented paths that the handles name, in the order of the handles
abbrev pub paths_presented : List (List ℕ) → AddRequest → List (List ℕ)
paths_presented queue a = map (λ handle. get_or (take a.fds queue) handle []) a.handles

-- the path of a document: what was presented, or the named file in it
abbrev pub document_path : AddRequest → List ℕ → List ℕ
document_path a path = cond a.named (child_of path (ahead_of_end a.name)) path

abbrev pub document_paths : List (List ℕ) → AddRequest → List (List ℕ)
document_paths queue a = map (document_path a) (paths_presented queue a)

-- what the tree is asked for a file: the file itself, or the folder and then the named file in it
abbrev pub paths_looked_at : AddRequest → List ℕ → List (List ℕ)
paths_looked_at a path = cond a.named (path ∷ document_path a path ∷ []) (path ∷ [])

abbrev pub paths_shown : List (List ℕ) → AddRequest → List (List ℕ)
paths_shown queue a = flat_map (paths_looked_at a) (paths_presented queue a)

-- the application has the file already, in its own folder, and needs no document
abbrev pub is_left_out : AddRequest → List ℕ → Bool
is_left_out a path = is_as_needed a && (not (names_nobody a) && is_in_own_folder a.app path)

-- ---- the arguments

-- limits of this project's own
abbrev pub files_limit : ℕ
files_limit = 16

abbrev pub name_limit : ℕ
name_limit = 255

-- one part of a path on the host
abbrev pub is_file_name : List ℕ → Bool
is_file_name name =
    not (is_same name [])
    && (not (list_any is_slash name)
    && (is_host_path (47 ∷ name) && nat_le (length name) name_limit))

-- a name ends with a zero byte, and gives a path in each folder
abbrev pub is_named_well : List (List ℕ) → AddRequest → Bool
is_named_well queue a =
    not a.named
    || (has_end a.name
    && (is_file_name (ahead_of_end a.name) && list_all is_host_path (document_paths queue a)))

abbrev pub are_add_arguments : List (List ℕ) → AddRequest → Bool
are_add_arguments queue a =
    nat_le (length a.handles) files_limit
    && (are_flags a
    && ((names_nobody a || is_app_name a.app)
    && (are_right_names a.names && is_named_well queue a)))
