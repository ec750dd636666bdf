-- The state of the sequential portal: plain lists, and what is looked up in them. The terms are
-- those of the documentation of org.freedesktop.portal.Documents, where an application has
-- permissions in documents.
use Rattle.std.specs.Prelude.{ℕ, ◌==◌, ◌&&◌, List, [], ◌∷◌, Bool, true, false, Option, is_some, option_map}
use Rattle.std.specs.List.{filter, find, list_any}
use Rattle.portal_base.specs.Names.{is_same}
use Rattle.rights_rule.specs.Rights.{RightSet}
use Rattle.file_generations.specs.Generations.{Held, held_with}
use Rattle.portal_base.specs.declared.limits.Limits.{Limits}
use Rattle.portal_base.specs.declared.names.doc_id.DocId.{DocId}
use Rattle.portal_base.specs.declared.who.Kind.{Kind}
use Rattle.portal_base.specs.declared.who.Who.{Who}
use Rattle.portal_model.specs.declared.handle.Handle.{Handle}
use Rattle.portal_model.specs.declared.handle.OpenHandle.{OpenHandle}
use Rattle.portal_model.specs.declared.opening.TakenGeneration.{TakenGeneration}
use Rattle.portal_model.specs.declared.rights.Right.{Right}
use Rattle.portal_model.specs.declared.rights.Right.TheVariants.{Read, Write, GrantPermissions, Delete}
use Rattle.portal_model.specs.declared.state.Connection.{Connection}
use Rattle.portal_model.specs.declared.state.Document.{Document}
use Rattle.portal_base.specs.declared.files.File.{File}
use Rattle.portal_model.specs.declared.state.Triple.{Triple}
use Rattle.portal_model.specs.declared.store.StoredEntry.{StoredEntry}

pub record State : Type 0 where
  pub limits : Limits
  -- the live documents, in order of addition
  pub documents : List Document
  -- the numbers of all documents that were ever made
  pub made : List DocId
  -- which application has which right in which document: by number, application and right, none
  -- twice
  pub rights : List Triple
  -- the names of the numbered applications: application k is the k-th
  pub applications : List (List ℕ)
  pub connections : List Connection
  -- what connections have open, in order of opening
  pub handles : List OpenHandle
  -- whether the tree of files tells what it has; where it does not, there are no files here
  pub told : Bool
  -- the present files, of which each path has one at most
  pub files : List File
  -- the files beside them, which stand at no path
  pub hidden : List File
  -- the last generation taken for a file of a path, by path, none twice
  pub taken : List TakenGeneration
  -- the entries of the permission store, in order of creation
  pub entries : List StoredEntry

-- the files, present or not
abbrev pub held_in : State → Held
held_in s = held_with s.files s.hidden

abbrev pub is_none : {X : Type 0} → List X → Bool
is_none [] = true
is_none (x ∷ xs) = false

abbrev pub is_made : List DocId → ℕ → Bool
is_made made number = list_any (λ id. id.number == number) made

-- the number that a record of rights gives a right
abbrev pub bit_of : Right → ℕ
bit_of Read = 1
bit_of Write = 2
bit_of GrantPermissions = 4
bit_of Delete = 8

abbrev pub same_right : Right → Right → Bool
same_right a b = bit_of a == bit_of b

-- the live document of a number
abbrev pub document_of : List Document → ℕ → Option Document
document_of documents number = find (λ d. d.id.number == number) documents

-- the open connection of a seat
abbrev pub connection_of : List Connection → ℕ → Option Connection
connection_of connections seat = find (λ c. c.seat == seat) connections

abbrev pub is_mount : Kind → Bool
is_mount Kind.Mount = true
is_mount Kind.Bus = false

-- whether the triple gives this application this right in the document of this number
abbrev pub gives : List ℕ → ℕ → Right → Triple → Bool
gives app number right t = is_same t.app app && (t.id.number == number && same_right t.right right)

abbrev pub app_has : List Triple → List ℕ → ℕ → Right → Bool
app_has rights app number right = list_any (gives app number right) rights

-- the host has every right in a live document, an application those that it was given
abbrev pub who_has : List Triple → Who → ℕ → Right → Bool
who_has rights Who.Host number right = true
who_has rights (Who.App app) number right = app_has rights app number right

abbrev pub has : State → Who → ℕ → Right → Bool
has s who number right = is_some (document_of s.documents number)
    && who_has s.rights who number right

-- the rights that an application has in the document of a number
abbrev pub held_of : List Triple → List ℕ → ℕ → RightSet
held_of rights app number = record {
  read = app_has rights app number Read;
  write = app_has rights app number Write;
  grant_permissions = app_has rights app number GrantPermissions;
  delete = app_has rights app number Delete;
}

-- the caller is this application
abbrev pub is_app : List ℕ → Who → Bool
is_app app Who.Host = false
is_app app (Who.App name) = is_same name app

abbrev pub is_host : Who → Bool
is_host Who.Host = true
is_host (Who.App app) = false

-- ---- open handles

abbrev pub is_handle : ℕ → ℕ → OpenHandle → Bool
is_handle seat fh h = h.seat == seat && h.fh == fh

-- the open handle of a number, on the connection of a seat
abbrev pub handle_of : List OpenHandle → ℕ → ℕ → Option Handle
handle_of handles seat fh = option_map (λ h. h.handle) (find (is_handle seat fh) handles)

-- what the connection of a seat has open
abbrev pub handles_of : List OpenHandle → ℕ → List OpenHandle
handles_of handles seat = filter (λ h. h.seat == seat) handles
