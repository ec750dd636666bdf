-- The entries of a folder, as FUSE_OPENDIR opens it (include/uapi/linux/fuse.h).
use Rattle.std.specs.Prelude.{◌≡◌, ℕ, List, [], ◌∷◌, Bool, false, Option, Some, None, is_some}
use Rattle.std.specs.Cmp.Lexicographic.{slice_cmp}
use Rattle.std.specs.Ordering.{is_lt, nat_cmp}
use Rattle.portal_base.specs.declared.files.Look.{Look}
use Rattle.portal_base.specs.declared.names.doc_id.DocId.{DocId}
use Rattle.portal_base.specs.declared.who.Who.{Who}
use Rattle.portal_model.specs.declared.handle.Handle.{Handle}
use Rattle.portal_model.specs.declared.reply.DirName.{DirName}
use Rattle.portal_model.specs.declared.reply.NodeAnswer.TheVariants as NodeAnswer
use Rattle.portal_model.specs.declared.request.NodeRequest.{NodeRequest}
use Rattle.portal_model.specs.declared.state.Document.{Document}
use Rattle.portal_model.specs.declared.state.Triple.{Triple}
use Rattle.portal_model.specs.NodeVerdict.{NodeVerdict, FilesStay, NamesStay, Opens, Room, Yields, next_handle}
use Rattle.portal_model.specs.OpenDir.{folder_entry, open_dir}
use Rattle.portal_model.specs.Place.{Sight, root_node}
use Rattle.portal_model.specs.State.{document_of}
use Rattle.portal_model.specs.Walk.{Walk, Answers, Looks, Ends, Lists}
use Rattle.app_view.specs.Books.{readable}

-- ---- what is opened

-- a walk behind its one look, where it takes one
abbrev pub behind_look : {X : Type 0} → Look → Walk X → Walk X
behind_look look (Answers x) = Answers x
behind_look look (Looks target next) = next look
behind_look look (Ends call done missing) = Ends call done missing
behind_look look (Lists path done missing) = Lists path done missing

-- the next handle, on a folder with these entries
abbrev pub opened_with : NodeRequest → Room → List DirName → NodeVerdict
opened_with r room entries = Yields (record {
  answer = NodeAnswer.Opened (next_handle room);
  file = FilesStay;
  handle = Opens (Handle.Folder r.node entries);
  names = NamesStay;
})

-- These are the entries with which a FUSE_OPENDIR of this node opens what is seen there, on any
-- connection that may open one more and has no temporaries, where the look that it takes, if any,
-- shows this.
abbrev pub AreOpened : Option Sight → ℕ → Look → List DirName → Type 0
AreOpened sight node look entries = (r : NodeRequest) (room : Room) → r.node ≡ node →
    room.full ≡ false →
    behind_look look (open_dir r sight room []) ≡ Answers (opened_with r room entries)

-- ---- parts of it

-- the document of an identifier is live, and this subject may read it
abbrev pub is_readable : List Triple → Who → List Document → DocId → Bool
is_readable rights who documents id =
    is_some (readable rights who (document_of documents id.number))

-- the order of names, as texts are compared
abbrev pub entry_less : DirName → DirName → Bool
entry_less a b = is_lt (slice_cmp nat_cmp a.name b.name)

-- the view of the application of a number, where there is one
abbrev pub view_of : ℕ → Option (List ℕ) → List DirName
view_of view None = []
view_of view (Some name) = folder_entry (root_node view) name ∷ []
