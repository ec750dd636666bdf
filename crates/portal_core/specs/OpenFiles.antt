-- What a history tells of open files, by the laws of open files: an OPEN goes by the rights that
-- the application has then, and what goes by the number of a handle goes by the handle that was
-- opened by that number (FUSE_OPEN and FUSE_READ in include/uapi/linux/fuse.h).
use Rattle.std.specs.Prelude.{◌≡◌, ℕ, List, ◌∷◌, ◌++◌, true, false, Some}
use Rattle.app_world.specs.Touched.{is_done}
use Rattle.file_laws.specs.KeptHandles.{KeepsHandle, goes_by, is_ended_in, number_answered}
use Rattle.file_laws.specs.Revocations.{IsOpenedByRights, OpensFile}
use Rattle.file_laws.specs.StrictHandles.{HasRightsFor, file_asked, strict_document}
use Rattle.portal_base.specs.declared.names.doc_id.DocId.{DocId}
use Rattle.portal_model.specs.declared.entry.Entry.{Entry}
use Rattle.portal_model.specs.declared.reply.Reply.{Reply}
use Rattle.portal_model.specs.declared.request.NodeRequest.{NodeRequest}
use Rattle.portal_model.specs.declared.request.Request.{Request}
use Rattle.portal_model.specs.History.{made_by, run}
use Rattle.portal_model.specs.State.{connection_of, handle_of}
use Rattle.portal_model.specs.Step.{after, reply_at}
use Rattle.portal_steps.specs.Story.{Story, state_first, state_now}

-- Each OPEN of an application that was done, and each earlier entry: what that took of the right to
-- read the document, and of the right to write it where the OPEN writes or truncates, was given
-- again between the two.
abbrev pub OpensByRights : Story → Type 0
OpensByRights p =
    (before : List Entry) (earlier : Entry) (between : List Entry) (opening : Entry)
    (rest : List Entry) (app : List ℕ) (r : NodeRequest) (flags : ℕ) →
    p.history ≡ before ++ earlier ∷ (between ++ opening ∷ rest) →
    OpensFile app r flags (run (after (run (state_first p) before) earlier) between) opening →
    IsOpenedByRights app flags opening.seat r (run (state_first p) before) earlier between

-- Each entry that was answered the number of a new handle, and each later one of its seat that goes
-- by that number: it goes by the handle that the first opened, whatever was revoked or deleted, as
-- long as no entry between released it or ended the connection.
abbrev pub GoesByHandles : Story → Type 0
GoesByHandles p =
    (before : List Entry) (opening : Entry) (between : List Entry) (later : Entry)
    (rest : List Entry) (fh : ℕ) (r : NodeRequest) →
    p.history ≡ before ++ opening ∷ (between ++ later ∷ rest) →
    number_answered opening.request (reply_at (run (state_first p) before) opening).answer
    ≡ Some fh →
    later.seat ≡ opening.seat → later.request ≡ Request.Node r → goes_by fh r.op ≡ true →
    is_ended_in opening.seat fh (after (run (state_first p) before) opening) between ≡ false →
    KeepsHandle opening.seat fh (run (state_first p) before)
    (after (run (state_first p) before) opening)
    (run (after (run (state_first p) before) opening) between) later r

-- What an application reads or writes by the open file of a strict document, and what it asks or
-- sets of its attributes, is done only where it has the right to read the document in the state
-- before, and for a WRITE, and for a length that is set, the right to write it too.
abbrev pub StrictFollows : Story → ℕ → Request → Reply → Type 0
StrictFollows p seat request reply =
    (app : List ℕ) (r : NodeRequest) (fh : ℕ) (document : DocId) →
    made_by app (connection_of (state_now p).connections seat) request ≡ true →
    request ≡ Request.Node r → file_asked r.op ≡ Some fh →
    strict_document (handle_of (state_now p).handles seat fh) ≡ Some document →
    is_done reply.answer ≡ true → HasRightsFor app document r.op (state_now p)
