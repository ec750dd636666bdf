-- How a request that hands out a handle on a file follows its walk.
use Rattle.std.proofs.Common.{◌≡◌, ℕ, ◌&&◌, List, Bool, true, false, not, cond, Option, Some, Result, Ok, Err, refl, sym, ap, subst, ◌∙◌}
use Rattle.std.specs.Result.{IfOk}
use Rattle.portal_base.specs.declared.files.FileName.{FileName}
use Rattle.portal_base.specs.declared.files.Look.{Look}
use Rattle.portal_base.specs.declared.memory.WantOfMemory.{WantOfMemory}
use Rattle.host_tree.specs.Trees.{Asks, Changes as ChangesFiles, TreeIs, change_held, is_held, is_look_fault, Looks as Shows, resized}
use Rattle.host_tree.specs.declared.tree.TreeCall.{TreeCall}
use Rattle.host_tree.specs.declared.tree.TreeDone.{TreeDone}
use Rattle.host_tree.specs.declared.tree.TreeDone.TheVariants as done
use Rattle.host_tree.specs.declared.tree.LookAnswer.{LookAnswer}
use Rattle.host_tree.specs.declared.tree.LookAnswer.TheVariants as look
use Rattle.open_handles.specs.Opened.{HandleTable}
use Rattle.portal_model.specs.declared.naming.Naming.{Naming}
use Rattle.portal_model.specs.declared.reply.NodeAnswer.{NodeAnswer}
use Rattle.portal_model.specs.declared.request.NodeOp.{NodeOp}
use Rattle.portal_model.specs.declared.request.NodeRequest.{NodeRequest}
use Rattle.portal_model.specs.declared.state.Document.{Document}
use Rattle.portal_model.specs.Errno.{eacces, emfile, enoent}
use Rattle.portal_model.specs.Node.{room_of}
use Rattle.portal_model.specs.NodeVerdict.{Errs, FilesStay, HandlesStay, NodeVerdict, OnFile, Resizes, Room, Spot, by_look, errs_if, if_file, spot}
use Rattle.portal_model.specs.Open.{file_handle, open_file, open_name, open_node, opened_file, opens_to_write, truncates}
use Rattle.portal_model.specs.declared.temporary.Temp.{Temp}
use Rattle.portal_model.specs.Place.{Folder, Sight, place_of}
use Rattle.portal_model.specs.State.{State}
use Rattle.portal_model.specs.Walk.{Answers, AtPath, Changes, Ends, Looks, Target, Walk}
use Rattle.app_view.specs.Books.{Lends}
use Rattle.node_looks.specs.Done.{DoesAt, Wants, room_in}
use Rattle.node_looks.specs.OpenHandles.{Handled}
use Rattle.node_looks.specs.TreeCalls.{call_at}
use Rattle.file_ops.specs.Creates.{Opening, OpeningBehind}
use Rattle.file_ops.specs.Tries.{Goes, ShowsAt, done_behind, done_of_ended, ended_by}
use Rattle.node_looks.specs.declared.served.FileBook.{FileBook}
use Rattle.node_looks.specs.declared.served.NodeCall.{NodeCall}
use Rattle.node_looks.specs.declared.served.NodeDone.{NodeDone}
use Rattle.file_ops.specs.declared.tried.Came.TheVariants as came
use Rattle.file_ops.specs.declared.tried.Ended.{Ended}
use Rattle.node_looks.proofs.DoneLemmas.{IsExact, done-in, handled-after, handles-stay, room-is, room-stays, walk-is}
use Rattle.node_looks.proofs.Follow.{seen-by-caller}
use Rattle.node_looks.proofs.OpenTable.{stay-open}
use Rattle.file_ops.proofs.Tries.{behind-goes, called-behind, ends-failed, ends-missing, goes-done, shows-path}

-- ---- where room was taken first

pub opens-after : (walk : Walk NodeVerdict) (seat : ℕ) (table mid : HandleTable) (old : TreeIs) (done : NodeDone) (after : HandleTable) (new : TreeIs) → Handled seat HandlesStay table mid →
    Opening walk seat mid old done after new → Opening walk seat table old done after new
opens-after walk seat table mid old done after new k g = record { change = g.change; goes = g.goes; handled = handled-after seat g.change table mid after k g.handled }

pub wants-after : (most seat : ℕ) (table mid : HandleTable) (old : TreeIs) (after : HandleTable) (new : TreeIs) → Handled seat HandlesStay table mid → Wants most mid old after new → Wants most table old after new
wants-after most seat table mid old after new k w = record { handles = λ s a. w.handles s (stay-open s seat table mid a k); calls = w.calls }

-- ---- the checks of an OPEN, behind its look

module _ (r : NodeRequest) (flags : ℕ) (document : Document) (path copy : List ℕ) (w : Bool) (generation size moment seat : ℕ) (table mid : HandleTable) (old : TreeIs) (after : HandleTable) (new : TreeIs)
    (same : copy ≡ path) (may : (opens_to_write flags && not w) ≡ false) (free : (room_in table seat).full ≡ false) (kept : Handled seat HandlesStay table mid) where
  abbrev named : List ℕ → FileName
  named p = record { path = p; generation = generation }

  passes : open_file r flags (room_in table seat) (spot document path w) generation size moment ≡ open_name r flags (room_in mid seat) document (named copy)
  passes =
      ap (λ (b : Bool). errs_if b eacces (errs_if (room_in table seat).full emfile (open_name r flags (room_in table seat) document (named path)))) may
      ∙ (ap (λ (b : Bool). errs_if b emfile (open_name r flags (room_in table seat) document (named path))) free
      ∙ (ap (λ (m : Room). open_name r flags m document (named path)) (sym (room-stays seat table mid kept))
      ∙ ap (λ (p : List ℕ). open_name r flags (room_in mid seat) document (named p)) (sym same)))

  opens-one : (done : NodeDone) → Opening (open_name r flags (room_in mid seat) document (named copy)) seat mid old done after new → Opening (open_file r flags (room_in table seat) (spot document path w) generation size moment) seat table old done after new
  opens-one done g = subst (λ (v : Walk NodeVerdict). Opening v seat table old done after new) (sym passes) (opens-after _ seat table mid old done after new kept g)

  pub shown-opens : (o : Result Ended WantOfMemory) → IfOk o (λ ended. Opening (open_name r flags (room_in mid seat) document (named copy)) seat mid old (done_of_ended ended) after new) →
      IfOk o (λ ended. Opening (open_file r flags (room_in table seat) (spot document path w) generation size moment) seat table old (done_of_ended ended) after new)
  shown-opens (Ok ended) g = opens-one (done_of_ended ended) g
  shown-opens (Err e) g = g

-- ---- a file that isn't cut, since the call for it failed or found none

module _ (r : NodeRequest) (flags : ℕ) (document : Document) (name : FileName) (seat : ℕ) (table : HandleTable) (now : ℕ) (answer : TreeDone) (ended : Ended) (old new : TreeIs) where
  abbrev cut_then : ℕ → NodeVerdict
  cut_then moment = opened_file (room_in table seat) (file_handle document name r.node flags) (Resizes name 0 moment)

  cuts-walk : truncates flags ≡ true → open_name r flags (room_in table seat) document name ≡ Ends (Changes name) cut_then (Errs enoent)
  cuts-walk t = ap (λ (b : Bool). cond b (Ends (Changes name) cut_then (Errs enoent)) (Answers (opened_file (room_in table seat) (file_handle document name r.node flags) FilesStay))) t

  abbrev SetsLength : TreeDone → Type 0
  SetsLength d = ChangesFiles TreeCall.SetLen (λ held. is_held held name) (change_held name (resized 0 now)) old d new

  stays-at : truncates flags ≡ true → (e : Ended) → ended ≡ e → Goes (Ends (Changes name) cut_then (Errs enoent)) old (done_of_ended e) HandlesStay new → Opening (open_name r flags (room_in table seat) document name) seat table old (done_of_ended ended) table new
  stays-at t e s g = subst (λ (w : Walk NodeVerdict). Opening w seat table old (done_of_ended ended) table new) (sym (cuts-walk t))
      (subst (λ (x : Ended). Opening (Ends (Changes name) cut_then (Errs enoent)) seat table old (done_of_ended x) table new) (sym s)
      (record { change = HandlesStay; goes = g; handled = handles-stay seat table }))

  pub missing-cut : truncates flags ≡ true → answer ≡ done.NotFile → ended ≡ ended_by now came.NotFile NodeAnswer.Empty → SetsLength answer → Opening (open_name r flags (room_in table seat) document name) seat table old (done_of_ended ended) table new
  missing-cut t a e h = stays-at t (ended_by now came.NotFile NodeAnswer.Empty) e (ends-missing (Changes name) cut_then (change_held name (resized 0 now)) NodeAnswer.Empty now old new refl (subst SetsLength a h))

  pub failed-cut : truncates flags ≡ true → answer ≡ done.Failed → ended ≡ ended_by now came.Failed NodeAnswer.Empty → SetsLength answer → Opening (open_name r flags (room_in table seat) document name) seat table old (done_of_ended ended) table new
  failed-cut t a e h = stays-at t (ended_by now came.Failed NodeAnswer.Empty) e (ends-failed (Changes name) cut_then (change_held name (resized 0 now)) NodeAnswer.Empty now old new refl (subst SetsLength a h))

-- ---- the look

pub behind-file : (next : OnFile) (answer : LookAnswer) (shown : Look) (generation size moment seat : ℕ) (table : HandleTable) (old : TreeIs) (o : Result Ended WantOfMemory) (after : HandleTable) (new : TreeIs) →
    answer ≡ look.Is shown → shown ≡ Look.File generation size moment → IfOk o (λ ended. Opening (next generation size moment) seat table old (done_of_ended ended) after new) →
    IfOk o (λ ended. OpeningBehind (if_file next) answer seat table old ended after new)
behind-file next answer shown generation size moment seat table old o after new e f g =
    subst (λ (a : LookAnswer). IfOk o (λ ended. OpeningBehind (if_file next) a seat table old ended after new)) (sym (e ∙ ap look.Is f)) g

pub behind-below : (view : ℕ) (at : Spot) (next : Spot → OnFile) (folder : Folder → Walk NodeVerdict) (answer : LookAnswer) (shown : Look) (generation size moment seat : ℕ) (table : HandleTable) (old : TreeIs) (o : Result Ended WantOfMemory) (after : HandleTable) (new : TreeIs) →
    answer ≡ look.Is shown → shown ≡ Look.File generation size moment → IfOk o (λ ended. Opening (next at generation size moment) seat table old (done_of_ended ended) after new) →
    IfOk o (λ ended. OpeningBehind (by_look view at next folder) answer seat table old ended after new)
behind-below view at next folder answer shown generation size moment seat table old o after new e f g =
    subst (λ (a : LookAnswer). IfOk o (λ ended. OpeningBehind (by_look view at next folder) a seat table old ended after new)) (sym (e ∙ ap look.Is f)) g

pub behind-target : (target : Target) (next : Look → Walk NodeVerdict) (answer : LookAnswer) (seat : ℕ) (table : HandleTable) (old mid : TreeIs) (ended : Ended) (after : HandleTable) (new : TreeIs) → Asks (call_at target) old (is_look_fault answer) mid → ShowsAt old.told target answer →
    OpeningBehind next answer seat table mid ended after new → Opening (Looks target next) seat table old (done_behind (Some answer) ended) after new
behind-target target next (look.Is shown) seat table old mid ended after new a l g = record {
  change = g.change;
  goes = behind-goes target next (look.Is shown) ended g.change old mid new a l g.goes;
  handled = g.handled;
}
behind-target target next look.Failed seat table old mid ended after new a l g = record {
  change = HandlesStay;
  goes = behind-goes target next look.Failed ended HandlesStay old mid new a l (g.0, refl, g.2);
  handled = g.1;
}

pub behind-look : (path : List ℕ) (next : Look → Walk NodeVerdict) (answer : LookAnswer) (seat : ℕ) (table : HandleTable) (old mid : TreeIs) (ended : Ended) (after : HandleTable) (new : TreeIs) → Asks TreeCall.Look old (is_look_fault answer) mid → Shows old.told path answer →
    OpeningBehind next answer seat table mid ended after new → Opening (Looks (AtPath path) next) seat table old (done_behind (Some answer) ended) after new
behind-look path next answer seat table old mid ended after new a l g = behind-target (AtPath path) next answer seat table old mid ended after new a (shows-path old.told path answer l) g

pub wants-behind : {kind : TreeCall} (table : HandleTable) (old mid : TreeIs) (failed : Bool) (after : HandleTable) (new : TreeIs) → failed ≡ false → Asks kind old failed mid → Wants 1 table mid after new → Wants 2 table old after new
wants-behind table old mid failed after new f a w = record { handles = w.handles; calls = called-behind old mid new failed f a w.calls }

-- ---- the request

pub open-does : (naming : Option Naming) (temp : Option Temp) (book : FileBook) (call : NodeCall) (flags : ℕ) (table : HandleTable) (old : TreeIs) (done : NodeDone) (after : HandleTable) (new : TreeIs) → call.request.now.op ≡ NodeOp.Open flags →
    ((s : State) → Lends book.view s → Opening (open_node call.request.now flags (place_of s call.who.now naming temp call.request.now.node) (room_in table call.seat)) call.seat table old done after new) →
    DoesAt naming temp book call table old done after new
open-does naming temp book call flags table old done after new op f = λ s c a n.
    let r = call.request.now in
    let sight : Option Sight = place_of s call.who.now naming temp r.node in
    let g : Opening (open_node r flags sight (room_in table call.seat)) call.seat table old done after new = f s a.lists in
    done-in s c book call (open_node r flags sight (room_in table call.seat)) table old done after new a
    (walk-is s c r (NodeOp.Open flags) op
    ∙ (ap (λ (o : Option Sight). open_node r flags o (room_of s c)) (seen-by-caller s c call.who.now r.node naming temp a.caller n.naming_is n.temp_is)
    ∙ ap (open_node r flags sight) (sym (room-is s c book call table old.told a))))
    (goes-done (open_node r flags sight (room_in table call.seat)) r.op call.seat table old done g.change after new (subst IsExact (sym op) tt) g.goes g.handled)
