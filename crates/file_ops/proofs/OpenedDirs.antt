-- FUSE_OPENDIR serves every state in which it may be asked.
use Rattle.std.proofs.Common.{◌≡◌, ℕ, List, [], ◌++◌, Bool, true, false, cond, Option, Some, None, Result, Ok, Err, refl, sym, ap, subst, ◌∙◌}
use Rattle.std.specs.Option.{option_map}
use Rattle.std.specs.Result.{OnErr}
use Rattle.std.proofs.lemmas.List.{append-nil}
use Rattle.file_generations.specs.Generations.{Held}
use Rattle.portal_base.specs.FolderNames.{names_in}
use Rattle.portal_base.specs.declared.files.ChildName.{ChildName}
use Rattle.portal_base.specs.declared.files.Look.{Look}
use Rattle.host_tree.specs.Trees.{Asks, TreeIs, is_look_fault, Lists as NamesOf, Looks as Answered}
use Rattle.host_tree.specs.declared.tree.ListAnswer.TheVariants as list
use Rattle.host_tree.specs.declared.tree.LookAnswer.{LookAnswer}
use Rattle.host_tree.specs.declared.tree.TreeCall.TheVariants as kind
use Rattle.host_tree.specs.declared.tree.LookAnswer.TheVariants as look
use Rattle.open_handles.specs.Opened.{HandleTable}
use Rattle.portal_model.specs.declared.entry.Fault.{Fault}
use Rattle.portal_model.specs.declared.handle.Handle.{Handle}
use Rattle.portal_model.specs.declared.naming.Naming.{Naming}
use Rattle.portal_model.specs.declared.place.Place.{Place}
use Rattle.portal_model.specs.declared.reply.Answer.{Answer}
use Rattle.portal_model.specs.declared.reply.Code.TheVariants as Code
use Rattle.portal_model.specs.declared.reply.DirName.{DirName}
use Rattle.portal_model.specs.declared.reply.NodeAnswer.TheVariants as NodeAnswer
use Rattle.portal_model.specs.declared.request.NodeOp.{NodeOp}
use Rattle.portal_model.specs.declared.request.NodeRequest.{NodeRequest}
use Rattle.portal_model.specs.declared.state.Document.{Document}
use Rattle.portal_model.specs.declared.temporary.OwnTemp.{OwnTemp}
use Rattle.portal_model.specs.declared.temporary.Temp.{Temp}
use Rattle.portal_model.specs.Errno.{eio, emfile, enoent, enotdir}
use Rattle.portal_model.specs.Node.{files_after, room_of}
use Rattle.portal_model.specs.NodeVerdict.{Closes, Errs, FilesStay, HandleChange, HandlesStay, NodeVerdict, Opens, Room, Spot, Yields, by_look, errs_if, next_handle, no_file}
use Rattle.portal_model.specs.OpenDir.{names_in_root, names_of_children, names_of_look, names_of_temps, names_of_views, open_dir, open_dir_in, open_found, opened_folder, parent_of_exported, parent_of_root, with_dots}
use Rattle.portal_model.specs.Place.{Exported, FolderOf, RootOf, Sight, SightBelow, SightOfFile, SightOfFolder, SightOfTemp, Views, file_node, place_named, place_of, root_node, sight_at, sight_of_place}
use Rattle.portal_model.specs.SeatNames.{temps_in}
use Rattle.portal_model.specs.State.{State}
use Rattle.portal_model.specs.Walk.{Answers, AtPath, Ends, IsListed, Lists, Looks, Walk}
use Rattle.app_view.specs.Books.{Lends}
use Rattle.app_view.specs.declared.book.ViewBook.{ViewBook}
use Rattle.app_view.specs.Entries.{behind_look, opened_with}
use Rattle.app_view.specs.Places.{IsFolder}
use Rattle.node_looks.specs.Done.{DoesWhere, DoneBy, Wants, answer_of, done_with, room_in}
use Rattle.node_looks.specs.OpenHandles.{Handled}
use Rattle.file_ops.specs.OpenedFolders.{HasTemps, ListedBelow, Lists as ListsFolder, ListsBehind, OpensBelow, home_in}
use Rattle.node_looks.specs.TreeCalls.{Calling, WasCalledUpTo}
use Rattle.node_looks.specs.declared.served.FileBook.{FileBook}
use Rattle.node_looks.specs.declared.served.NodeCall.{NodeCall}
use Rattle.node_looks.specs.declared.served.NodeDone.{NodeDone}
use Rattle.node_looks.proofs.DoneLemmas.{as-op, done-in, handled-after, room-is, room-stays, same-answer, told-still, unasked-by, walk-is}
use Rattle.file_ops.proofs.OneLook.{asked-once, failed-by, looked-by, looked-first}
use Rattle.node_looks.proofs.Follow.{seen-by-caller}
use Rattle.node_looks.proofs.OpenTable.{stay-open}
use Rattle.file_ops.proofs.Tries.{called-more}

-- ---- the folder of a document, behind its look

-- the entries with which a walk opens a folder
abbrev entries_of_handle : HandleChange → List DirName
entries_of_handle (Opens (Handle.Folder node names)) = names
entries_of_handle (Opens (Handle.File name node document strict read write)) = []
entries_of_handle HandlesStay = []
entries_of_handle (Closes fh) = []

abbrev entries_opened : Walk NodeVerdict → List DirName
entries_opened (Answers (Yields d)) = entries_of_handle d.handle
entries_opened (Answers (Errs errno)) = []
entries_opened (Looks target next) = []
entries_opened (Ends call done missing) = []
entries_opened (Lists path done missing) = []

module _ (r : NodeRequest) (view : ℕ) (d : Document) (may_write : Bool) (seat : ℕ) (answer : Answer) (table mid after : HandleTable) (old new : TreeIs)
    (free : (room_in table seat).full ≡ false) (kept : Handled seat HandlesStay table mid) (temps : List OwnTemp) (own : List DirName) (own-is : own ≡ names_of_temps view (temps_in temps view d.id)) where
  abbrev folder : Sight
  folder = SightOfFolder (FolderOf view d may_write)

  abbrev there : Look → List DirName
  there look = names_of_look (file_node view d.id.number) d look

  abbrev names : List OwnTemp → Look → List DirName
  names ts look = there look ++ names_of_temps view (temps_in ts view d.id)

  abbrev next : Room → List OwnTemp → Look → Walk NodeVerdict
  next room ts look = Answers (opened_folder r room (root_node view) (names ts look))

  looks : (ts : List OwnTemp) → open_dir r (Some folder) (room_in table seat) ts ≡ Looks (AtPath d.path) (next (room_in table seat) ts)
  looks ts = ap (λ (b : Bool). errs_if b emfile (Looks (AtPath d.path) (next (room_in table seat) ts))) free

  -- the temporaries stand behind what a seat without any would see
  with-own : (shown : Look) (entries : List DirName) → next (room_in table seat) [] shown ≡ Answers (opened_with r (room_in table seat) entries) → next (room_in table seat) temps shown ≡ Answers (opened_with r (room_in table seat) (entries ++ own))
  with-own shown entries alone =
      ap (λ (xs : List DirName). Answers (opened_with r (room_in table seat) xs))
      (ap (λ (ys : List DirName). with_dots r.node (root_node view) (there shown ++ ys)) (sym own-is)
      ∙ (ap (λ (ys : List DirName). with_dots r.node (root_node view) (ys ++ own)) (sym (append-nil (there shown)))
      ∙ ap (λ (ys : List DirName). ys ++ own) (ap entries_opened alone)))

  behind : (look : LookAnswer) → Asks kind.Look old (is_look_fault look) new → Answered old.told d.path look → ListsBehind r (Some folder) seat look own mid answer after →
      DoneBy (Looks (AtPath d.path) (next (room_in table seat) temps)) NodeOp.OpenDir seat table old (done_with (record { answer = answer; look = Some look })) after new
  behind (look.Is shown) a l f =
      let room : room_in mid seat ≡ room_in table seat = room-stays seat table mid kept in
      let walk : behind_look shown (open_dir r (Some folder) (room_in table seat) []) ≡ Answers (opened_with r (room_in table seat) f.entries) =
      subst (λ (m : Room). behind_look shown (open_dir r (Some folder) m []) ≡ Answers (opened_with r m f.entries)) room f.walk in
      looked-by NodeOp.OpenDir tt seat d.path (next (room_in table seat) temps) answer table after old new shown (opened_with r (room_in table seat) (f.entries ++ own))
      (with-own shown f.entries (sym (ap (behind_look shown) (looks [])) ∙ walk)) a l refl
      (f.number ∙ ap (λ (m : Room). Answer.Node (NodeAnswer.Opened (next_handle m))) room)
      (handled-after seat (Opens (Handle.Folder r.node (f.entries ++ own))) table mid after kept f.handled)
  behind look.Failed a l f = failed-by NodeOp.OpenDir tt seat d.path (next (room_in table seat) temps) answer table after old new a f.0 (handled-after seat HandlesStay table mid after kept f.1)

  pub folder-behind : (look : LookAnswer) → Asks kind.Look old (is_look_fault look) new → Answered old.told d.path look → ListsBehind r (Some folder) seat look own mid answer after →
      DoneBy (open_dir r (Some folder) (room_in table seat) temps) NodeOp.OpenDir seat table old (done_with (record { answer = answer; look = Some look })) after new
  folder-behind look a l f = subst (λ (w : Walk NodeVerdict). DoneBy w NodeOp.OpenDir seat table old (done_with (record { answer = answer; look = Some look })) after new) (sym (looks temps)) (behind look a l f)

-- the entries of the temporaries in the folder of a document
abbrev pub own_entries : List OwnTemp → ℕ × Document → List DirName
own_entries temps home = names_of_temps home.0 (temps_in temps home.0 home.1.id)

pub dir-behind-look : (r : NodeRequest) (sight : Sight) (home : ℕ × Document) (seat : ℕ) (look : LookAnswer) (answer : Answer) (table mid after : HandleTable) (old new : TreeIs) (temps : List OwnTemp) (own : List DirName) → home_in sight ≡ Some home → own ≡ own_entries temps home →
    (room_in table seat).full ≡ false → Handled seat HandlesStay table mid → Asks kind.Look old (is_look_fault look) new → Answered old.told home.1.path look → ListsBehind r (Some sight) seat look own mid answer after →
    DoneBy (open_dir r (Some sight) (room_in table seat) temps) NodeOp.OpenDir seat table old (done_with (record { answer = answer; look = Some look })) after new
dir-behind-look r (SightOfFile d w) home seat look answer table mid after old new temps own e o free kept a l f = cc
dir-behind-look r (SightOfTemp d file w) home seat look answer table mid after old new temps own e o free kept a l f = cc
dir-behind-look r (SightBelow view d p w) home seat look answer table mid after old new temps own e o free kept a l f = cc
dir-behind-look r (SightOfFolder (Exported view d p w)) home seat look answer table mid after old new temps own e o free kept a l f = cc
dir-behind-look r (SightOfFolder (RootOf view numbers views)) home seat look answer table mid after old new temps own e o free kept a l f = cc
dir-behind-look r (SightOfFolder (Views applications)) home seat look answer table mid after old new temps own e o free kept a l f = cc
dir-behind-look r (SightOfFolder (FolderOf view d w)) home seat look answer table mid after old new temps own e o free kept a l f =
    let same : home ≡ (view, d) = cc in
    folder-behind r view d w seat answer table mid after old new free kept temps own (o ∙ ap (own_entries temps) same) look a (subst (λ (h : ℕ × Document). Answered old.told h.1.path look) same l) f

-- ---- a folder for which no look is taken

module _ (r : NodeRequest) (v : Room → NodeVerdict) (seat : ℕ) (answer : Answer) (table mid after : HandleTable) (t : TreeIs) (free : (room_in table seat).full ≡ false) (kept : Handled seat HandlesStay table mid) (entries : List DirName)
    (walk : behind_look Look.Missing (errs_if (room_in mid seat).full emfile (Answers (v (room_in mid seat)))) ≡ Answers (opened_with r (room_in mid seat) entries)) (number : answer ≡ Answer.Node (NodeAnswer.Opened (next_handle (room_in mid seat)))) (handled : Handled seat (Opens (Handle.Folder r.node entries)) mid after) where
  abbrev opens_it : Room → Walk NodeVerdict
  opens_it room = errs_if room.full emfile (Answers (v room))

  room-is-same : room_in mid seat ≡ room_in table seat
  room-is-same = room-stays seat table mid kept

  opens-so : opens_it (room_in table seat) ≡ Answers (opened_with r (room_in table seat) entries)
  opens-so =
      let passes : opens_it (room_in table seat) ≡ Answers (v (room_in table seat)) = ap (λ (b : Bool). errs_if b emfile (Answers (v (room_in table seat)))) free in
      passes ∙ (sym (ap (behind_look Look.Missing) passes)
      ∙ subst (λ (m : Room). behind_look Look.Missing (opens_it m) ≡ Answers (opened_with r m entries)) room-is-same walk)

  opened-at-once : DoneBy (opens_it (room_in table seat)) NodeOp.OpenDir seat table t (done_with (record { answer = answer; look = None })) after t
  opened-at-once =
      subst (λ (w : Walk NodeVerdict). DoneBy w NodeOp.OpenDir seat table t (done_with (record { answer = answer; look = None })) after t) (sym opens-so)
      (subst (λ (x : Answer). DoneBy (Answers (opened_with r (room_in table seat) entries)) NodeOp.OpenDir seat table t (done_with (record { answer = x; look = None })) after t)
      (sym (number ∙ ap (λ (m : Room). Answer.Node (NodeAnswer.Opened (next_handle m))) room-is-same))
      (unasked-by (opened_with r (room_in table seat) entries) NodeOp.OpenDir seat table after t tt refl (handled-after seat (Opens (Handle.Folder r.node entries)) table mid after kept handled)))

-- with none behind them
none-behind : (r : NodeRequest) (seat : ℕ) (mid after : HandleTable) (entries own : List DirName) → own ≡ [] → Handled seat (Opens (Handle.Folder r.node (entries ++ own))) mid after → Handled seat (Opens (Handle.Folder r.node entries)) mid after
none-behind r seat mid after entries own n h =
    subst (λ (xs : List DirName). Handled seat (Opens (Handle.Folder r.node xs)) mid after) (ap (λ (ys : List DirName). entries ++ ys) n ∙ append-nil entries) h

pub dir-at-once : (r : NodeRequest) (sight : Sight) (seat : ℕ) (answer : Answer) (table mid after : HandleTable) (t : TreeIs) (temps : List OwnTemp) (own : List DirName) → own ≡ [] → home_in sight ≡ None → IsFolder (Some sight) → (room_in table seat).full ≡ false → Handled seat HandlesStay table mid →
    ListsFolder r (Some sight) seat Look.Missing own mid answer after → DoneBy (open_dir r (Some sight) (room_in table seat) temps) NodeOp.OpenDir seat table t (done_with (record { answer = answer; look = None })) after t
dir-at-once r (SightOfFile d w) seat answer table mid after t temps own n e i free kept f = absurd i
dir-at-once r (SightOfTemp d file w) seat answer table mid after t temps own n e i free kept f = absurd i
dir-at-once r (SightBelow view d p w) seat answer table mid after t temps own n e i free kept f = absurd i
dir-at-once r (SightOfFolder (FolderOf view d w)) seat answer table mid after t temps own n e i free kept f = cc
dir-at-once r (SightOfFolder (Exported view d p w)) seat answer table mid after t temps own n e i free kept f =
    let lists : Walk NodeVerdict = open_found r (room_in mid seat) [] (Exported view d p w) in
    let room : (room_in mid seat).full ≡ false = ap (λ (m : Room). m.full) (room-stays seat table mid kept) ∙ free in
    let clash : lists ≡ Answers (opened_with r (room_in mid seat) f.entries) = sym (ap (λ (b : Bool). behind_look Look.Missing (errs_if b emfile lists)) room) ∙ f.walk in
    cc
dir-at-once r (SightOfFolder (RootOf view numbers views)) seat answer table mid after t temps own n e i free kept f =
    opened-at-once r (λ room. opened_folder r room (parent_of_root view) (names_in_root view numbers views)) seat answer table mid after t free kept f.entries f.walk f.number (none-behind r seat mid after f.entries own n f.handled)
dir-at-once r (SightOfFolder (Views applications)) seat answer table mid after t temps own n e i free kept f =
    opened-at-once r (λ room. opened_folder r room (root_node 0) (names_of_views applications)) seat answer table mid after t free kept f.entries f.walk f.number (none-behind r seat mid after f.entries own n f.handled)

pub on-err : {A E : Type 0} (r : Result A E) (X : Type 0) → X → OnErr r X
on-err (Ok a) X x = tt
on-err (Err e) X x = x

-- room was taken, and no more came of it
pub still-wants : (seat : ℕ) (table mid after : HandleTable) (old new : TreeIs) → Handled seat HandlesStay table mid → after ≡ mid → WasCalledUpTo 1 old new → Wants 1 table old after new
still-wants seat table mid after old new kept e called = record {
  handles = λ s a. stay-open s seat table after a (subst (λ (t : HandleTable). Handled seat HandlesStay table t) (sym e) kept);
  calls = called;
}

-- behind a look that didn't fail
pub wants-first : (table : HandleTable) (old mid : TreeIs) (after : HandleTable) (new : TreeIs) → Asks kind.Look old false mid → Wants 1 table mid after new → Wants 2 table old after new
wants-first table old mid after new a w = record { handles = w.handles; calls = called-more 1 old mid new false refl a w.calls }

-- ---- a folder whose names are listed

-- the names that a tree gave are those of its files
names-given : (told : Option Held) (path : List ℕ) (children : List ChildName) → NamesOf told path (list.Names children) → IsListed told path (Some children)
names-given None path children h = h.0
names-given (Some held) path children h =
    ap Some h.1.1 ∙ sym (ap (λ (b : Bool). cond b (Some (names_in held.present path)) None) h.1.0)

none-given : (told : Option Held) (path : List ℕ) → NamesOf told path list.NotFolder → IsListed told path None
none-given None path h = tt
none-given (Some held) path h = sym (ap (λ (b : Bool). cond b (Some (names_in held.present path)) None) h)

module _ (r : NodeRequest) (view : ℕ) (d : Document) (path : List ℕ) (w : Bool) (temps : List OwnTemp) (seat : ℕ) (table mid : HandleTable) (old new : TreeIs) (kept : Handled seat HandlesStay table mid) where
  abbrev opens : Room → List ChildName → NodeVerdict
  opens room children = opened_folder r room (parent_of_exported view d path) (names_of_children children)

  abbrev below : Walk NodeVerdict
  below = open_dir_in r (room_in table seat) temps (Exported view d path w)

  abbrev listing : Walk NodeVerdict
  listing = Lists path (opens (room_in table seat)) (Errs enoent)

  abbrev came : Answer → Option (List ChildName) → Fault → NodeDone
  came answer listed fault = record { answer = answer; looks = []; listed = listed; now = None; generation = None; fault = fault }

  lists-there : (room_in table seat).full ≡ false → below ≡ listing
  lists-there free = ap (λ (b : Bool). errs_if b emfile listing) free

  same-files : Asks kind.List old false new → new.told ≡ option_map (files_after true FilesStay) old.told
  same-files a = ap (λ (t : TreeIs). t.told) a.goes ∙ sym (told-still old.told)

  pub full-below : (answer : Answer) → answer ≡ Answer.Refused (Code.Errno emfile) → (room_in table seat).full ≡ true → old ≡ new → DoneBy below NodeOp.OpenDir seat table old (came answer None Fault.None) mid new
  full-below answer told full e = subst (λ (b : Bool). DoneBy (errs_if b emfile listing) NodeOp.OpenDir seat table old (came answer None Fault.None) mid new) (sym full)
      (record {
        verdict = Some (Errs emfile);
        comes = record {
          gives = (refl, refl);
          lists = refl;
          clock = refl;
          generation = refl;
          keeper = λ k. cc;
          comes = refl;
          answer = same-answer old.told NodeOp.OpenDir (answer_of (Some (Errs emfile))) answer tt told;
          files = ap (λ (t : TreeIs). t.told) (sym e) ∙ sym (told-still old.told);
          calls = subst (λ (t : TreeIs). Calling old [] t.told t) e (record { goes = refl; fails = tt });
        };
        handled = kept;
      })

  pub names-below : (children : List ChildName) (answer : Answer) (after : HandleTable) → (room_in table seat).full ≡ false → NamesOf old.told path (list.Names children) → Asks kind.List old false new → ListedBelow r view d path children seat mid answer after →
      DoneBy below NodeOp.OpenDir seat table old (came answer (Some children) Fault.None) after new
  names-below children answer after free l a f = subst (λ (v : Walk NodeVerdict). DoneBy v NodeOp.OpenDir seat table old (came answer (Some children) Fault.None) after new) (sym (lists-there free))
      (record {
        verdict = Some (opens (room_in table seat) children);
        comes = record {
          gives = refl;
          lists = names-given old.told path children l;
          clock = refl;
          generation = refl;
          keeper = λ k. cc;
          comes = refl;
          answer = same-answer old.told NodeOp.OpenDir (answer_of (Some (opens (room_in table seat) children))) answer tt
              (f.number ∙ ap (λ (m : Room). Answer.Node (NodeAnswer.Opened (next_handle m))) (room-stays seat table mid kept));
          files = same-files a;
          calls = asked-once old false new a;
        };
        handled = handled-after seat (Opens (Handle.Folder r.node (with_dots r.node (parent_of_exported view d path) (names_of_children children)))) table mid after kept f.handled;
      })

  pub nothing-below : (answer : Answer) → answer ≡ Answer.Refused (Code.Errno enoent) → (room_in table seat).full ≡ false → NamesOf old.told path list.NotFolder → Asks kind.List old false new → DoneBy below NodeOp.OpenDir seat table old (came answer None Fault.None) mid new
  nothing-below answer told free l a = subst (λ (v : Walk NodeVerdict). DoneBy v NodeOp.OpenDir seat table old (came answer None Fault.None) mid new) (sym (lists-there free))
      (record {
        verdict = Some (Errs enoent);
        comes = record {
          gives = refl;
          lists = none-given old.told path l;
          clock = refl;
          generation = refl;
          keeper = λ k. cc;
          comes = refl;
          answer = same-answer old.told NodeOp.OpenDir (answer_of (Some (Errs enoent))) answer tt told;
          files = same-files a;
          calls = asked-once old false new a;
        };
        handled = kept;
      })

  pub failed-below : (answer : Answer) → answer ≡ Answer.Refused (Code.Errno eio) → (room_in table seat).full ≡ false → Asks kind.List old true new → DoneBy below NodeOp.OpenDir seat table old (came answer None Fault.Tree) mid new
  failed-below answer told free a = subst (λ (v : Walk NodeVerdict). DoneBy v NodeOp.OpenDir seat table old (came answer None Fault.Tree) mid new) (sym (lists-there free))
      (record {
        verdict = None;
        comes = record {
          gives = refl;
          lists = refl;
          clock = refl;
          generation = refl;
          keeper = λ k. cc;
          comes = refl;
          answer = same-answer old.told NodeOp.OpenDir (answer_of None) answer tt told;
          files = ap (λ (t : TreeIs). t.told) a.goes ∙ sym (told-still old.told);
          calls = asked-once old true new a;
        };
        handled = kept;
      })

-- behind the look that showed the folder
pub opened-first : (r : NodeRequest) (view : ℕ) (at : Spot) (temps : List OwnTemp) (seat : ℕ) (table after : HandleTable) (old mid new : TreeIs) (done : NodeDone) → Asks kind.Look old false mid → Answered old.told at.path (look.Is Look.Folder) →
    OpensBelow (open_dir_in r (room_in table seat) temps (Exported view at.document at.path at.may_write)) seat table mid done after new →
    DoneBy (Looks (AtPath at.path) (by_look view at (no_file enotdir) (open_dir_in r (room_in table seat) temps))) NodeOp.OpenDir seat table old done after new
opened-first r view at temps seat table after old mid new done a l o =
    subst (λ (d : NodeDone). DoneBy (Looks (AtPath at.path) (by_look view at (no_file enotdir) (open_dir_in r (room_in table seat) temps))) NodeOp.OpenDir seat table old d after new) (sym o.looked)
    (looked-first NodeOp.OpenDir seat at.path (by_look view at (no_file enotdir) (open_dir_in r (room_in table seat) temps)) Look.Folder table after old mid new o.behind a l o.opened)

-- ---- every state

pub open-dir-does : (naming : Option Naming) (temp : Option Temp) (temps : List OwnTemp) (book : FileBook) (call : NodeCall) (table : HandleTable) (old : TreeIs) (done : NodeDone) (after : HandleTable) (new : TreeIs) → call.request.now.op ≡ NodeOp.OpenDir →
    ((s : State) → Lends book.view s → DoneBy (open_dir call.request.now (place_of s call.who.now naming temp call.request.now.node) (room_in table call.seat) temps) NodeOp.OpenDir call.seat table old done after new) →
    DoesWhere (λ s. HasTemps call.request.now.node naming temp temps) book call table old done after new
open-dir-does naming temp temps book call table old done after new op f = λ s c a h.
    let r = call.request.now in
    let sight : Option Sight = place_of s call.who.now naming temp r.node in
    done-in s c book call (open_dir r sight (room_in table call.seat) temps) table old done after new a
    (walk-is s c r NodeOp.OpenDir op
    ∙ (ap (λ (o : Option Sight). open_dir r o (room_of s c) c.temps) (seen-by-caller s c call.who.now r.node naming temp a.caller h.at.naming_is h.at.temp_is)
    ∙ (ap (λ (m : Room). open_dir r sight m c.temps) (sym (room-is s c book call table old.told a))
    ∙ ap (open_dir r sight (room_in table call.seat)) h.temps_are)))
    (as-op _ NodeOp.OpenDir _ _ _ old _ _ new op (f s a.lists))

-- at the place of the node
pub placed-dir : (naming : Option Naming) (temp : Option Temp) (temps : List OwnTemp) (call : NodeCall) (place : Place) (b : ViewBook) (table : HandleTable) (old : TreeIs) (done : NodeDone) (after : HandleTable) (new : TreeIs) → Some place ≡ place_named call.request.now.node →
    ((s : State) → Lends b s → DoneBy (open_dir call.request.now (sight_of_place s call.who.now naming temp place) (room_in table call.seat) temps) NodeOp.OpenDir call.seat table old done after new) →
    (s : State) → Lends b s → DoneBy (open_dir call.request.now (place_of s call.who.now naming temp call.request.now.node) (room_in table call.seat) temps) NodeOp.OpenDir call.seat table old done after new
placed-dir naming temp temps call place b table old done after new e h = λ s l.
    subst (λ (o : Option Place). DoneBy (open_dir call.request.now (sight_at s call.who.now naming temp o) (room_in table call.seat) temps) NodeOp.OpenDir call.seat table old done after new) e (h s l)
