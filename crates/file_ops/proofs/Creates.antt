-- How a CREATE of a first file follows its walk, and what it leaves of the open handles.
use Rattle.std.proofs.Common.{◌≡◌, ℕ, List, Bool, true, false, not, ◌&&◌, Option, Some, None, is_some, refl, sym, ap, subst, ◌∙◌, IfSome}
use Rattle.file_generations.specs.Generations.{Held}
use Rattle.portal_base.specs.Content.{content_of, file_at, has_room, is_folder, look_at, look_of}
use Rattle.portal_base.specs.declared.files.File.{File}
use Rattle.portal_base.specs.declared.files.FileName.{FileName}
use Rattle.portal_base.specs.declared.files.Look.{Look}
use Rattle.host_tree.specs.Trees.{Asks, Changes, Does as DoesFiles, Looks as Shows, TreeIs, is_look_fault, may_create}
use Rattle.host_tree.specs.declared.tree.TreeCall.TheVariants as TreeCall
use Rattle.host_tree.specs.declared.tree.LookAnswer.{LookAnswer}
use Rattle.host_tree.specs.declared.tree.LookAnswer.TheVariants as look
use Rattle.host_tree.specs.declared.tree.TreeDone.{TreeDone}
use Rattle.host_tree.specs.declared.tree.TreeDone.TheVariants as done
use Rattle.open_handles.specs.Opened.{HandleTable}
use Rattle.portal_model.specs.declared.reply.NodeAnswer.{NodeAnswer}
use Rattle.portal_model.specs.declared.reply.Attr.{Attr}
use Rattle.portal_model.specs.declared.handle.Handle.{Handle}
use Rattle.portal_model.specs.declared.request.NodeRequest.{NodeRequest}
use Rattle.portal_model.specs.declared.state.Document.{Document}
use Rattle.portal_model.specs.Attributes.{attr_of_file, on_node}
use Rattle.portal_model.specs.Create.{Made, create_at, create_own, create_there, created, own_made}
use Rattle.portal_model.specs.Errno.{eacces, emfile, enoent}
use Rattle.portal_model.specs.Node.{files_after}
use Rattle.portal_model.specs.NodeVerdict.{NodeVerdict, Creates, Errs, HandlesStay, Opens, Room, Yields, errs_if, next_handle}
use Rattle.portal_model.specs.Open.{file_handle}
use Rattle.portal_model.specs.Walk.{AtPath, Ends, Looks, Makes, Walk, is_found}
use Rattle.file_ops.specs.Creates.{Opening, OpeningBehind}
use Rattle.node_looks.specs.Done.{room_in}
use Rattle.node_looks.specs.OpenHandles.{Handled}
use Rattle.file_ops.specs.Tries.{Goes, done_behind, done_of_ended, ended_by, refuses}
use Rattle.node_looks.specs.declared.served.NodeDone.{NodeDone}
use Rattle.file_ops.specs.declared.tried.Came.TheVariants as came
use Rattle.file_ops.specs.declared.tried.Ended.{Ended}
use Rattle.node_looks.proofs.DoneLemmas.{handled-after, handles-stay, room-stays}
use Rattle.file_ops.proofs.Tries.{behind-goes, ends-done, ends-failed, ends-missing, if-may, refuses-goes, shows-path}

-- ---- a file that isn't there

room-by : (o : Option File) (folder room : Bool) → Look.Missing ≡ look_of (content_of o folder room) → (not (is_some o) && (not folder && room)) ≡ room
room-by (Some f) folder room e = cc
room-by None true room e = cc
room-by None false room e = refl

-- where nothing stands at a path, a file may be made there exactly where there is room for one
makes-by : (path : List ℕ) (change : Held → Held) (told : Option Held) (d : TreeDone) (new : Option Held) → IfSome told (λ held. Look.Missing ≡ look_at held.present path) →
    DoesFiles (λ held. may_create held.present path) change told d new → DoesFiles (λ held. is_found held (Makes path)) change told d new
makes-by path change None done.Done new m h = h
makes-by path change (Some held) done.Done new m h = (h.0, sym (room-by (file_at held.present path) (is_folder held.present path) (has_room held.present path) m) ∙ h.1)
makes-by path change None done.NotFile new m h = h
makes-by path change (Some held) done.NotFile new m h = (h.0, sym (room-by (file_at held.present path) (is_folder held.present path) (has_room held.present path) m) ∙ h.1)
makes-by path change told done.Failed new m h = h
makes-by path change told done.Memory new m h = h

makes : (path : List ℕ) (change : Held → Held) (old : TreeIs) (d : TreeDone) (new : TreeIs) → IfSome old.told (λ held. Look.Missing ≡ look_at held.present path) →
    Changes TreeCall.Create (λ held. may_create held.present path) change old d new → Changes TreeCall.Create (λ held. is_found held (Makes path)) change old d new
makes path change old d new m h = record { goes = h.goes; does = makes-by path change old.told d new.told m h.does; fails = h.fails }

-- ---- the last call

-- the first file of its path
abbrev pub first_of : Made → FileName
first_of made = record { path = made.path; generation = 0 }

module _ (r : NodeRequest) (flags : ℕ) (table : HandleTable) (seat : ℕ) (made : Made) (name : FileName) (now : ℕ) (old new : TreeIs) (d : TreeDone) (first : name ≡ first_of made)
    (missing : IfSome old.told (λ held. Look.Missing ≡ look_at held.present name.path)) (creates : Changes TreeCall.Create (λ held. may_create held.present name.path) (files_after true (Creates name.path now)) old d new) where
  abbrev there : Walk NodeVerdict
  there = Ends (Makes made.path) (created r flags (room_in table seat) made) (Errs enoent)

  m : IfSome old.told (λ held. Look.Missing ≡ look_at held.present made.path)
  m = subst (λ (n : FileName). IfSome old.told (λ held. Look.Missing ≡ look_at held.present n.path)) first missing

  h : Changes TreeCall.Create (λ held. may_create held.present made.path) (files_after true (Creates made.path now)) old d new
  h = subst (λ (n : FileName). Changes TreeCall.Create (λ held. may_create held.present n.path) (files_after true (Creates n.path now)) old d new) first creates

  came-so : (x : TreeDone) → d ≡ x → Changes TreeCall.Create (λ held. is_found held (Makes made.path)) (files_after true (Creates made.path now)) old x new
  came-so x e = subst (λ (y : TreeDone). Changes TreeCall.Create (λ held. is_found held (Makes made.path)) (files_after true (Creates made.path now)) old y new) e (makes made.path (files_after true (Creates made.path now)) old d new m h)

  pub made-done : (attr : Attr) (fh : ℕ) (handle : Handle) (ended : Ended) (after : HandleTable) → d ≡ done.Done → attr ≡ attr_of_file (on_node r made.node) true 0 now → fh ≡ next_handle (room_in table seat) →
      handle ≡ file_handle made.document name made.node flags → ended ≡ ended_by now came.Done (NodeAnswer.Created attr fh) → Handled seat (Opens handle) table after →
      Opening (create_there r flags (room_in table seat) made Look.Missing) seat table old (done_of_ended ended) after new
  made-done attr fh handle ended after e a n f b o = let same : handle ≡ file_handle made.document (first_of made) made.node flags = f ∙ ap (λ (x : FileName). file_handle made.document x made.node flags) first in record {
    change = Opens handle;
    goes = subst (λ (x : Ended). Goes there old (done_of_ended x) (Opens handle) new) (sym b)
        (ends-done (Makes made.path) (created r flags (room_in table seat) made) (record { answer = NodeAnswer.Created attr fh; file = Creates made.path now; handle = Opens handle; names = made.names }) now old new refl
        (λ i. Yields (record { answer = NodeAnswer.Created (sym a i) (sym n i); file = Creates made.path now; handle = Opens (sym same i); names = made.names }))
        (came-so done.Done e));
    handled = o;
  }

  pub made-missing : (ended : Ended) → d ≡ done.NotFile → ended ≡ ended_by now came.NotFile NodeAnswer.Empty →
      Opening (create_there r flags (room_in table seat) made Look.Missing) seat table old (done_of_ended ended) table new
  made-missing ended e b = record {
    change = HandlesStay;
    goes = subst (λ (x : Ended). Goes there old (done_of_ended x) HandlesStay new) (sym b)
        (ends-missing (Makes made.path) (created r flags (room_in table seat) made) (files_after true (Creates made.path now)) NodeAnswer.Empty now old new refl (came-so done.NotFile e));
    handled = handles-stay seat table;
  }

  pub made-failed : (ended : Ended) → d ≡ done.Failed → ended ≡ ended_by now came.Failed NodeAnswer.Empty →
      Opening (create_there r flags (room_in table seat) made Look.Missing) seat table old (done_of_ended ended) table new
  made-failed ended e b = record {
    change = HandlesStay;
    goes = subst (λ (x : Ended). Goes there old (done_of_ended x) HandlesStay new) (sym b)
        (ends-failed (Makes made.path) (created r flags (room_in table seat) made) (files_after true (Creates made.path now)) NodeAnswer.Empty now old new refl (came-so done.Failed e));
    handled = handles-stay seat table;
  }

-- ---- with no handle

pub stays-open : (w : Walk NodeVerdict) (seat : ℕ) (table : HandleTable) (old : TreeIs) (done : NodeDone) (new : TreeIs) → Goes w old done HandlesStay new → Opening w seat table old done table new
stays-open w seat table old done new g = record { change = HandlesStay; goes = g; handled = handles-stay seat table }

-- ---- behind the look

opening-behind : (path : List ℕ) (next : Look → Walk NodeVerdict) (a : LookAnswer) (seat : ℕ) (table : HandleTable) (ended : Ended) (after : HandleTable) (old mid new : TreeIs) → Asks TreeCall.Look old (is_look_fault a) mid → Shows old.told path a →
    OpeningBehind next a seat table mid ended after new → Opening (Looks (AtPath path) next) seat table old (done_behind (Some a) ended) after new
opening-behind path next (look.Is shown) seat table ended after old mid new a i o = record {
  change = o.change;
  goes = behind-goes (AtPath path) next (look.Is shown) ended o.change old mid new a (shows-path old.told path (look.Is shown) i) o.goes;
  handled = o.handled;
}
opening-behind path next look.Failed seat table ended after old mid new a i o = record {
  change = HandlesStay;
  goes = behind-goes (AtPath path) next look.Failed ended HandlesStay old mid new a tt (o.0, refl, o.2);
  handled = o.1;
}

pub made-behind : (r : NodeRequest) (flags : ℕ) (room : Room) (made : Made) (a : LookAnswer) (seat : ℕ) (table : HandleTable) (ended : Ended) (after : HandleTable) (old mid new : TreeIs) → Asks TreeCall.Look old (is_look_fault a) mid →
    Shows old.told made.path a → OpeningBehind (create_there r flags room made) a seat table mid ended after new → Opening (create_at r flags room made) seat table old (done_behind (Some a) ended) after new
made-behind r flags room made a seat table ended after old mid new asks shows o =
    opening-behind made.path (create_there r flags room made) a seat table ended after old mid new asks shows o

-- a copy of the path stands for it, and what was shown is still there
pub shown-still : (path copy : List ℕ) (a : LookAnswer) (old mid : TreeIs) → copy ≡ path → Asks TreeCall.Look old (is_look_fault a) mid → Shows old.told path a → Shows mid.told copy a
shown-still path copy a old mid e asks h =
    subst (λ (p : List ℕ). Shows mid.told p a) (sym e) (subst (λ (t : Option Held). Shows t path a) (sym (ap (λ (t : TreeIs). t.told) asks.goes)) h)

-- ---- behind the room for the handle

pub opening-after : (r : NodeRequest) (flags seat : ℕ) (a b after : HandleTable) (made : Made) (old : TreeIs) (done : NodeDone) (new : TreeIs) (free : Bool) → Handled seat HandlesStay a b → (room_in a seat).full ≡ not free → free ≡ true →
    Opening (create_at r flags (room_in b seat) made) seat b old done after new → Opening (errs_if (room_in a seat).full emfile (create_at r flags (room_in a seat) made)) seat a old done after new
opening-after r flags seat a b after made old done new free k f t o = record {
  change = o.change;
  goes = subst (λ (full : Bool). Goes (errs_if full emfile (create_at r flags (room_in a seat) made)) old done o.change new) (sym (f ∙ ap not t))
      (subst (λ (room : Room). Goes (create_at r flags room made) old done o.change new) (room-stays seat a b k) o.goes);
  handled = handled-after seat o.change a b after k o.handled;
}

pub full-refuses : (w : Walk NodeVerdict) (seat : ℕ) (a b : HandleTable) (t : TreeIs) (free : Bool) → Handled seat HandlesStay a b → (room_in a seat).full ≡ not free → free ≡ false →
    Opening (errs_if (room_in a seat).full emfile w) seat a t (done_of_ended (refuses emfile)) b t
full-refuses w seat a b t free k f e = record {
  change = HandlesStay;
  goes = subst (λ (full : Bool). Goes (errs_if full emfile w) t (done_of_ended (refuses emfile)) HandlesStay t) (sym (f ∙ ap not e)) (refuses-goes emfile t);
  handled = k;
}

-- the document's own file
pub own-opening : (r : NodeRequest) (flags seat : ℕ) (a b after : HandleTable) (view : ℕ) (d : Document) (may : Bool) (old : TreeIs) (done : NodeDone) (new : TreeIs) (free : Bool) → not may ≡ false → Handled seat HandlesStay a b → (room_in a seat).full ≡ not free → not free ≡ false →
    Opening (create_at r flags (room_in b seat) (own_made view d)) seat b old done after new → Opening (create_own r flags (room_in a seat) view d may) seat a old done after new
own-opening r flags seat a b after view d may old done new free m k f t o =
    subst (λ (w : Walk NodeVerdict). Opening w seat a old done after new) (sym (if-may may eacces (errs_if (room_in a seat).full emfile (create_at r flags (room_in a seat) (own_made view d))) m))
    (opening-after r flags seat a b after (own_made view d) old done new free k f (twice free t) o)
  where
    twice : (x : Bool) → not x ≡ false → x ≡ true
    twice true e = refl
    twice false e = cc

pub own-full : (r : NodeRequest) (flags seat : ℕ) (a b : HandleTable) (view : ℕ) (d : Document) (may : Bool) (t : TreeIs) (free : Bool) → not may ≡ false → Handled seat HandlesStay a b → (room_in a seat).full ≡ not free → not free ≡ true →
    Opening (create_own r flags (room_in a seat) view d may) seat a t (done_of_ended (refuses emfile)) b t
own-full r flags seat a b view d may t free m k f n =
    subst (λ (w : Walk NodeVerdict). Opening w seat a t (done_of_ended (refuses emfile)) b t) (sym (if-may may eacces (errs_if (room_in a seat).full emfile (create_at r flags (room_in a seat) (own_made view d))) m))
    (full-refuses (create_at r flags (room_in a seat) (own_made view d)) seat a b t free k f (never free n))
  where
    never : (x : Bool) → not x ≡ true → x ≡ false
    never true e = cc
    never false e = refl
