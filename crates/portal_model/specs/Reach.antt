-- What an open file may do now. One of a document that isn't strict keeps what it was opened to do;
-- one of a strict document, this project's own, follows later revocations: it needs besides the
-- rights that the subject of its node's view has in the document at the request.
use Rattle.std.specs.Prelude.{ℕ, Bool, false, not, ◌&&◌, ◌||◌}
use Rattle.portal_base.specs.declared.files.FileName.{FileName}
use Rattle.portal_base.specs.declared.names.doc_id.DocId.{DocId}

-- an open file, as its handle keeps it
pub record OpenFile : Type 0 where
  pub name : FileName
  -- the node that was opened
  pub node : ℕ
  pub document : DocId
  -- whether the document is strict
  pub strict : Bool
  -- what it was opened to do
  pub read : Bool
  pub write : Bool

abbrev pub open_file_of : FileName → ℕ → DocId → Bool → Bool → Bool → OpenFile
open_file_of name node document strict read write = record {
  name = name;
  node = node;
  document = document;
  strict = strict;
  read = read;
  write = write;
}

-- which of the two rights the subject of a view has now in a live document
pub record Reach : Type 0 where
  pub read : Bool
  pub write : Bool

abbrev pub no_reach : Reach
no_reach = record { read = false; write = false }

-- by the node that was opened and the document's number
abbrev pub Reaching : Type 0
Reaching = ℕ → ℕ → Reach

abbrev pub reach_of : Reaching → OpenFile → Reach
reach_of reach file = reach file.node file.document.number

abbrev pub reaches : Reaching → OpenFile → Bool
reaches reach file = not file.strict || (reach_of reach file).read

abbrev pub may_read_now : Reaching → OpenFile → Bool
may_read_now reach file = file.read && reaches reach file

abbrev pub may_write_now : Reaching → OpenFile → Bool
may_write_now reach file =
    file.write && (reaches reach file && (not file.strict || (reach_of reach file).write))
