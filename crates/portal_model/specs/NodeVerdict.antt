-- What a request on a node comes to, told by what it depends on alone: what the caller sees at the
-- node, the seat's open handle and what it may do now, the content of a path, and how many handles
-- the seat opened. Each kind of request is a walk over these, so whoever knows them answers it,
-- without the state.
use Rattle.std.specs.Prelude.{ℕ, ◌+◌, ◌==◌, ◌&&◌, nat_lt, List, [], ◌∷◌, length, Bool, false, Option, Some, None, cond}
use Rattle.portal_base.specs.declared.files.FileName.{FileName}
use Rattle.portal_base.specs.declared.files.Look.{Look}
use Rattle.portal_model.specs.declared.handle.Handle.{Handle}
use Rattle.portal_model.specs.declared.naming.Naming.{Naming}
use Rattle.portal_model.specs.declared.reply.NodeAnswer.{NodeAnswer}
use Rattle.portal_model.specs.declared.state.Document.{Document}
use Rattle.portal_model.specs.Errno.{ebadf, enoent}
use Rattle.portal_model.specs.Place.{Folder, Exported, Sight, SightOfFile, SightOfTemp, SightBelow, SightOfFolder}
use Rattle.portal_model.specs.Reach.{OpenFile, open_file_of}
use Rattle.portal_model.specs.SeatNames.{TempChange}
use Rattle.portal_model.specs.Walk.{Walk, Answers, Looks, AtPath, Named}

-- ---- what is done

-- how the files of the tree change, at a moment
pub data FileChange : Type 0 where
  FilesStay : FileChange
  -- the content of a file from an offset on
  Writes : FileName → ℕ → List ℕ → ℕ → FileChange
  -- the length of a file
  Resizes : FileName → ℕ → ℕ → FileChange
  -- an empty file at a path
  Creates : List ℕ → ℕ → FileChange
  -- an empty file beside the present ones
  Adds : FileName → ℕ → FileChange
  -- a file becomes the present one of its path
  Stands : FileName → FileChange

-- how the open handles of the seat change
pub data HandleChange : Type 0 where
  HandlesStay : HandleChange
  -- one more, by the next number
  Opens : Handle → HandleChange
  -- the one of a number is gone
  Closes : ℕ → HandleChange

-- how what the seat has named changes
pub data NameChange : Type 0 where
  NamesStay : NameChange
  -- a path below an exported folder has a number, which it may have had
  Names : Naming → NameChange
  -- its temporaries
  Temps : TempChange → NameChange

pub record NodeDoing : Type 0 where
  pub answer : NodeAnswer
  pub file : FileChange
  pub handle : HandleChange
  pub names : NameChange

-- a refusal by the number of the error, or what is done
pub data NodeVerdict : Type 0 where
  Errs : ℕ → NodeVerdict
  Yields : NodeDoing → NodeVerdict

-- an answer alone
abbrev pub tells : NodeAnswer → NodeVerdict
tells answer = Yields (record {
  answer = answer;
  file = FilesStay;
  handle = HandlesStay;
  names = NamesStay;
})

-- a file is changed
abbrev pub changes : FileChange → NodeAnswer → NodeVerdict
changes change answer = Yields (record {
  answer = answer;
  file = change;
  handle = HandlesStay;
  names = NamesStay;
})

-- a path below an exported folder has a number
abbrev pub names_path : Naming → NodeAnswer → NodeVerdict
names_path naming answer = Yields (record {
  answer = answer;
  file = FilesStay;
  handle = HandlesStay;
  names = Names naming;
})

-- the temporaries of the seat change
abbrev pub changes_temps : TempChange → NodeAnswer → NodeVerdict
changes_temps change answer = Yields (record {
  answer = answer;
  file = FilesStay;
  handle = HandlesStay;
  names = Temps change;
})

-- the tree isn't asked
abbrev pub errs : ℕ → Walk NodeVerdict
errs errno = Answers (Errs errno)

abbrev pub told : NodeAnswer → Walk NodeVerdict
told answer = Answers (tells answer)

-- checks, in their order: where this is wrong the request is refused so, and nothing comes behind
abbrev pub errs_if : Bool → ℕ → Walk NodeVerdict → Walk NodeVerdict
errs_if wrong errno walk = cond wrong (errs errno) walk

-- ---- a file that is looked at

-- by its generation, its length and its moment
abbrev pub OnFile : Type 0
OnFile = ℕ → ℕ → ℕ → Walk NodeVerdict

-- where the look shows no file there is none
abbrev pub if_file : OnFile → Look → Walk NodeVerdict
if_file next (Look.File generation size moment) = next generation size moment
if_file next Look.Folder = errs enoent
if_file next Look.Missing = errs enoent

abbrev pub at_file : List ℕ → OnFile → Walk NodeVerdict
at_file path next = Looks (AtPath path) (if_file next)

abbrev pub at_name : FileName → OnFile → Walk NodeVerdict
at_name name next = Looks (Named name) (if_file next)

-- the same error, whatever file is there
abbrev pub errs_on_file : ℕ → OnFile
errs_on_file errno generation size moment = errs errno

-- ---- by place

-- a file that is seen: its document, its path, and whether it may be written
pub record Spot : Type 0 where
  pub document : Document
  pub path : List ℕ
  pub may_write : Bool

abbrev pub spot : Document → List ℕ → Bool → Spot
spot d path may_write = record { document = d; path = path; may_write = may_write }

-- what a look shows where a file or a folder may be
abbrev pub by_look :
    ℕ → Spot → (Spot → OnFile) → (Folder → Walk NodeVerdict) → Look → Walk NodeVerdict
by_look view at file folder (Look.File generation size moment) = file at generation size moment
by_look view at file folder Look.Folder =
    folder (Exported view at.document at.path at.may_write)
by_look view at file folder Look.Missing = errs enoent

-- A request on what is seen at its node: a file is there where a look shows it, and is told by its
-- document, its path, whether it may be written, and the look. That of a temporary is looked at by
-- its name. At an exported folder and below it the look tells whether a file or a folder is there.
abbrev pub by_place :
    Option Sight → (Spot → OnFile) → (Folder → Walk NodeVerdict) → Walk NodeVerdict
by_place None file folder = errs enoent
by_place (Some (SightOfFile d may_write)) file folder =
    at_file d.path (file (spot d d.path may_write))
by_place (Some (SightOfTemp d name may_write)) file folder =
    at_name name (file (spot d name.path may_write))
by_place (Some (SightBelow view d path may_write)) file folder =
    Looks (AtPath path) (by_look view (spot d path may_write) file folder)
by_place (Some (SightOfFolder f)) file folder = folder f

-- the same error at each file
abbrev pub no_file : ℕ → Spot → OnFile
no_file errno at = errs_on_file errno

-- the name of a file that is seen, of this generation
abbrev pub name_at : Spot → ℕ → FileName
name_at at generation = record { path = at.path; generation = generation }

-- ---- by handle

abbrev pub OnHandle : Type 0
OnHandle = OpenFile → Walk NodeVerdict

-- a request on an open file alone
abbrev pub by_file_handle : Option Handle → OnHandle → Walk NodeVerdict
by_file_handle None next = errs ebadf
by_file_handle (Some (Handle.File name node document strict read write)) next =
    next (open_file_of name node document strict read write)
by_file_handle (Some (Handle.Folder node names)) next = errs ebadf

-- ---- handles that are opened

-- how many handles the seat's connection opened so far, and whether it may open no more
pub record Room : Type 0 where
  pub opens : ℕ
  pub full : Bool

-- the number that the next handle gets
abbrev pub next_handle : Room → ℕ
next_handle room = room.opens + 1

-- ---- names

-- the greatest length of a name, in bytes
abbrev pub name_limit : ℕ
name_limit = 255

abbrev pub is_too_long : List ℕ → Bool
is_too_long name = nat_lt name_limit (length name)

-- "." or "..", by which a folder names itself and the one that it stands in
abbrev pub is_dots : List ℕ → Bool
is_dots [] = false
is_dots (b ∷ []) = b == 46
is_dots (b ∷ c ∷ []) = b == 46 && c == 46
is_dots (b ∷ c ∷ d ∷ bs) = false
