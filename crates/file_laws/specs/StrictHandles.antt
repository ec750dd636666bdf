-- Open files of strict documents, which are this project's own: what an application asks by one is
-- done only as far as it has the rights in the document then. The requests are those of
-- include/uapi/linux/fuse.h.
use Rattle.std.specs.Prelude.{◌≡◌, ℕ, Bool, true, false, cond, Option, Some, None, List}
use Rattle.portal_base.specs.declared.names.doc_id.DocId.{DocId}
use Rattle.portal_base.specs.declared.who.Who.{Who}
use Rattle.portal_model.specs.declared.entry.Entry.{Entry}
use Rattle.portal_model.specs.declared.handle.Handle.{Handle}
use Rattle.portal_model.specs.declared.request.NodeOp.{NodeOp}
use Rattle.portal_model.specs.declared.request.NodeRequest.{NodeRequest}
use Rattle.portal_model.specs.declared.request.Request.{Request}
use Rattle.portal_model.specs.declared.rights.Right.TheVariants.{Read, Write}
use Rattle.portal_model.specs.GetAttr.{names_handle}
use Rattle.portal_model.specs.History.{makes}
use Rattle.portal_model.specs.SetAttr.{sets_by_handle, sets_size}
use Rattle.portal_model.specs.State.{State, handle_of, has}
use Rattle.portal_model.specs.Step.{reply_at}
use Rattle.app_world.specs.Touched.{is_done}

-- the number of the open file that a request goes by: FUSE_READ and FUSE_WRITE, and FUSE_GETATTR
-- and FUSE_SETATTR where they name a handle
abbrev pub file_asked : NodeOp → Option ℕ
file_asked (NodeOp.Read fh offset size) = Some fh
file_asked (NodeOp.Write fh offset content) = Some fh
file_asked (NodeOp.GetAttr flags fh) = cond (names_handle flags) (Some fh) None
file_asked (NodeOp.SetAttr valid fh size) = cond (sets_by_handle valid) (Some fh) None
file_asked op = None

-- FUSE_WRITE, and FUSE_SETATTR with a length
abbrev pub changes_file : NodeOp → Bool
changes_file (NodeOp.Write fh offset content) = true
changes_file (NodeOp.SetAttr valid fh size) = sets_size valid
changes_file op = false

-- the document of an open file, where it is strict
abbrev pub strict_document : Option Handle → Option DocId
strict_document None = None
strict_document (Some (Handle.File name node document strict read write)) =
    cond strict (Some document) None
strict_document (Some (Handle.Folder node names)) = None

-- the application has the right to read the document, and to write it where the request changes the
-- file
pub record HasRightsFor (app : List ℕ) (document : DocId) (op : NodeOp) (s : State) : Type 0 where
  pub read : has s (Who.App app) document.number Read ≡ true
  pub write : changes_file op ≡ true → has s (Who.App app) document.number Write ≡ true

-- the application asks this by the open file of a strict document, and it is done
pub record AsksByStrict (app : List ℕ) (r : NodeRequest) (fh : ℕ) (document : DocId) (s : State)
    (e : Entry) : Type 0 where
  pub own : makes app s e ≡ true
  pub asked : e.request ≡ Request.Node r
  pub by : file_asked r.op ≡ Some fh
  pub strict : strict_document (handle_of s.handles e.seat fh) ≡ Some document
  pub done : is_done (reply_at s e).answer ≡ true

-- ---- the law

-- Where that is done, the application has these rights in the state before.
abbrev pub StrictHandlesFollowRevocations : Type 0
StrictHandlesFollowRevocations =
    (app : List ℕ) (r : NodeRequest) (fh : ℕ) (document : DocId) (s : State) (e : Entry) →
    AsksByStrict app r fh document s e → HasRightsFor app document r.op s
