-- How a LOOKUP and a CREATE of a name in a folder that is a document, or lies below one, follow their walks.
use Rattle.std.proofs.Common.{◌≡◌, ◌||◌, ℕ, List, Bool, true, false, not, Option, Some, None, IfSome, refl, sym, ap, subst, ◌∙◌}
use Rattle.std.specs.Option.{option_map}
use Rattle.portal_base.specs.Content.{look_at}
use Rattle.portal_base.specs.Names.{named_child}
use Rattle.portal_base.specs.declared.files.FileName.{FileName}
use Rattle.portal_base.specs.declared.files.Look.{Look}
use Rattle.host_tree.specs.Trees.{Asks, Changes, Looks as Shows, TreeIs, is_look_fault, may_create}
use Rattle.host_tree.specs.declared.tree.LookAnswer.{LookAnswer}
use Rattle.host_tree.specs.declared.tree.LookAnswer.TheVariants as look
use Rattle.host_tree.specs.declared.tree.TreeCall.TheVariants as TreeCall
use Rattle.host_tree.specs.declared.tree.TreeDone.{TreeDone}
use Rattle.host_tree.specs.declared.tree.TreeDone.TheVariants as done
use Rattle.open_handles.specs.Opened.{HandleTable}
use Rattle.folder_documents.specs.Named.{Named}
use Rattle.portal_model.specs.declared.handle.Handle.{Handle}
use Rattle.portal_model.specs.declared.naming.Naming.{Naming}
use Rattle.portal_model.specs.declared.reply.Answer.{Answer}
use Rattle.portal_model.specs.declared.reply.Attr.{Attr}
use Rattle.portal_model.specs.declared.reply.NodeAnswer.TheVariants as NodeAnswer
use Rattle.portal_model.specs.declared.request.NodeRequest.{NodeRequest}
use Rattle.portal_model.specs.declared.temporary.OwnTemp.{OwnTemp}
use Rattle.portal_model.specs.Attributes.{attr_of_file, on_node}
use Rattle.portal_model.specs.Bus.{is_tree, moment_given}
use Rattle.portal_model.specs.Create.{Made, child_made, create, create_at, create_in, create_there}
use Rattle.portal_model.specs.Errno.{eacces, einval, eio, emfile, enametoolong, enoent, enotdir}
use Rattle.portal_model.specs.Lookup.{lookup, lookup_in, node_of_naming}
use Rattle.portal_model.specs.Node.{files_after}
use Rattle.portal_model.specs.NodeVerdict.{Creates, HandlesStay, Names, NamesStay, NodeVerdict, Opens, Room, by_look, by_place, errs, errs_if, errs_on_file, is_too_long, names_path, next_handle, no_file, spot}
use Rattle.portal_model.specs.Open.{file_handle, has_no_mode}
use Rattle.portal_model.specs.Place.{Exported, Folder}
use Rattle.portal_model.specs.SeatNames.{SeatTemps, lacks_number}
use Rattle.portal_model.specs.Walk.{Answers, AtPath, Looks, Walk, walked_with}
use Rattle.node_looks.specs.Done.{Reads, name_change, room_in}
use Rattle.node_looks.specs.OpenHandles.{Handled}
use Rattle.node_looks.specs.Walks.{ComesToBehind}
use Rattle.node_looks.specs.declared.served.NodeDone.{NodeDone}
use Rattle.node_looks.proofs.DoneLemmas.{handles-stay, room-stays}
use Rattle.file_ops.specs.Children.{IsRefused, IsThere, NumberingBelow, attr_shown, found_below, made_below, named_below, naming_below, parent_sight, refusal_at, refused_there, shown_below, there_below}
use Rattle.file_ops.specs.Creates.{Numbering, NumberingBehind, NumberingWith, Opening}
use Rattle.file_ops.specs.SeatNames.{SeatNamed, namings_after, namings_on}
use Rattle.file_ops.specs.Tries.{done_after, done_behind, done_behind_first, done_of_below, done_of_ended, done_of_tried, ended_by, moment_of, refuses, says}
use Rattle.file_ops.specs.declared.children.Parent.{Parent}
use Rattle.file_ops.specs.declared.tried.Came.TheVariants as came
use Rattle.file_ops.specs.declared.tried.Ended.{Ended}
use Rattle.file_ops.specs.declared.tried.Tried.{Tried}
use Rattle.file_ops.specs.declared.tried.TriedBelow.{TriedBelow}
use Rattle.file_ops.proofs.Creates.{first_of, made-done, made-failed, made-missing}
use Rattle.file_ops.proofs.Numberings.{entry-numbering, errs-numbering, named-behind, numbering-after, numbering-along, numbering-before, numbering-behind, refused-numbering, same-named}
use Rattle.file_ops.proofs.OneLook.{IsNoFolder}
use Rattle.file_ops.proofs.Tries.{if-right, if-wrong}

-- ---- what the seat has named

-- room that was taken changes nothing of it
pub named-still : (seat : ℕ) (old new : List (ℕ × Named)) (has : List Naming) → SeatNamed seat NamesStay old new → namings_on old seat ≡ Some has → namings_on new seat ≡ Some has
named-still seat old new has k e = k.there ∙ ap (option_map (namings_after NamesStay)) e

-- ---- refusals

pub refused-so : (w : Walk NodeVerdict) (errno seat : ℕ) (table : HandleTable) (names : List (ℕ × Named)) (t : TreeIs) (ended : Ended) (after : HandleTable) (named : List (ℕ × Named)) → w ≡ errs errno → ended ≡ refuses errno → Handled seat HandlesStay table after →
    SeatNamed seat NamesStay names named → Numbering w seat table names t (done_of_ended ended) after named t
refused-so w errno seat table names t ended after named e f k m =
    numbering-along w (errs errno) seat table names t (done_of_ended ended) after named t e
    (subst (λ (x : Ended). Numbering (errs errno) seat table names t (done_of_ended x) after named t) (sym f) (refused-numbering errno seat table names t after named k m))

pub unlooked-so : (w : Walk NodeVerdict) (errno seat : ℕ) (table : HandleTable) (names : List (ℕ × Named)) (t : TreeIs) (tried : Tried) (ended : Ended) (after : HandleTable) (named : List (ℕ × Named)) → w ≡ errs errno → tried ≡ record { look = None; ended = ended } → ended ≡ refuses errno →
    Handled seat HandlesStay table after → SeatNamed seat NamesStay names named → Numbering w seat table names t (done_of_tried tried) after named t
unlooked-so w errno seat table names t tried ended after named e u f k m =
    subst (λ (x : Tried). Numbering w seat table names t (done_of_tried x) after named t) (sym u) (refused-so w errno seat table names t ended after named e f k m)

pub at-once-so : (w : Walk NodeVerdict) (errno seat : ℕ) (table : HandleTable) (names : List (ℕ × Named)) (t : TreeIs) (done : NodeDone) (below : TriedBelow) (tried : Tried) (ended : Ended) → w ≡ errs errno → done ≡ done_of_below below → below ≡ record { first = None; then = tried } →
    tried ≡ record { look = None; ended = ended } → ended ≡ refuses errno → Numbering w seat table names t done table names t
at-once-so w errno seat table names t done below tried ended e d b u f =
    subst (λ (x : NodeDone). Numbering w seat table names t x table names t) (sym (d ∙ ap done_of_below b))
    (unlooked-so w errno seat table names t tried ended table names e u f (handles-stay seat table) (same-named seat names))

-- behind a look
pub refused-behind : (next : Look → Walk NodeVerdict) (errno : ℕ) (l : LookAnswer) (shown : Look) (seat : ℕ) (table : HandleTable) (names : List (ℕ × Named)) (t : TreeIs) (ended : Ended) → l ≡ look.Is shown → next shown ≡ errs errno → ended ≡ refuses errno →
    NumberingBehind next l seat table names t ended table names t
refused-behind next errno l shown seat table names t ended e n f =
    subst (λ (x : LookAnswer). NumberingBehind next x seat table names t ended table names t) (sym e)
    (refused-so (next shown) errno seat table names t ended table names n f (handles-stay seat table) (same-named seat names))

pub failed-behind : (next : Look → Walk NodeVerdict) (l : LookAnswer) (seat : ℕ) (table : HandleTable) (names : List (ℕ × Named)) (t : TreeIs) (ended : Ended) → l ≡ look.Failed → ended ≡ refuses eio → NumberingBehind next l seat table names t ended table names t
failed-behind next l seat table names t ended e f =
    subst (λ (x : LookAnswer). NumberingBehind next x seat table names t ended table names t) (sym e) (f, handles-stay seat table, same-named seat names, refl)

-- ---- where a look shows no folder

refusal-there : (l : LookAnswer) (answer : Answer) → ComesToBehind (errs_on_file enotdir) l answer → answer ≡ refusal_at l
refusal-there (look.Is (Look.File generation size moment)) answer h = h
refusal-there (look.Is Look.Folder) answer h = h
refusal-there (look.Is Look.Missing) answer h = h
refusal-there look.Failed answer h = h

pub refused-at-once : (l : LookAnswer) (answer : Answer) (below : TriedBelow) → ComesToBehind (errs_on_file enotdir) l answer → below ≡ record { first = None; then = record { look = Some l; ended = record { answer = answer; call = None } } } → below ≡ refused_there l
refused-at-once l answer below h e = e ∙ ap (λ (a : Answer). record { first = None; then = record { look = Some l; ended = record { answer = a; call = None } } }) (refusal-there l answer h)

pub refused-below : (walk : List Naming → Walk NodeVerdict) (l : LookAnswer) (seat : ℕ) (table : HandleTable) (names : List (ℕ × Named)) (t : TreeIs) (below : TriedBelow) → IsNoFolder l → below ≡ refused_there l → NumberingBelow walk l seat table names t below table names t
refused-below walk (look.Is (Look.File g s m)) seat table names t below n e = (e, refl, refl, refl)
refused-below walk (look.Is Look.Folder) seat table names t below n e = absurd n
refused-below walk (look.Is Look.Missing) seat table names t below n e = (e, refl, refl, refl)
refused-below walk look.Failed seat table names t below n e = (e, refl, refl, refl)

-- ---- behind the look for the folder

-- the moment is that of the call
now-of-below : (below : TriedBelow) → (done_of_below below).now ≡ moment_of below.then.ended.call
now-of-below below = by below.first
  where
    by : (o : Option Look) → (done_behind_first o (done_of_tried below.then)).now ≡ moment_of below.then.ended.call
    by None = refl
    by (Some shown) = refl

pub reads-below : {C : Type 0} (reads : C → ℕ → C → Type 0) (old new : C) (below : TriedBelow) (done : NodeDone) → done ≡ done_of_below below → Reads reads old (moment_of below.then.ended.call) new → Reads reads old done.now new
reads-below reads old new below done d r = subst (λ (now : Option ℕ). Reads reads old now new) (sym (ap (λ (x : NodeDone). x.now) d ∙ now-of-below below)) r

pub unread-below : (below : TriedBelow) (done : NodeDone) → done ≡ done_of_below below → below.then.ended.call ≡ None → done.now ≡ None
unread-below below done d e = ap (λ (x : NodeDone). x.now) d ∙ (now-of-below below ∙ ap moment_of e)

refused-as : (w : Walk NodeVerdict) (l : LookAnswer) (seat : ℕ) (table : HandleTable) (names : List (ℕ × Named)) (old mid : TreeIs) (below : TriedBelow) (after : HandleTable) (named : List (ℕ × Named)) (new : TreeIs) → IsRefused l table names mid below after named new →
    Numbering w seat table names old (done_of_below (refused_there l)) table names mid → Numbering w seat table names old (done_of_below below) after named new
refused-as w l seat table names old mid below after named new i n =
    subst (λ (x : TriedBelow). Numbering w seat table names old (done_of_below x) after named new) (sym i.0)
    (subst (λ (x : HandleTable). Numbering w seat table names old (done_of_below (refused_there l)) x named new) (sym i.1)
    (subst (λ (x : List (ℕ × Named)). Numbering w seat table names old (done_of_below (refused_there l)) table x new) (sym i.2)
    (subst (λ (x : TreeIs). Numbering w seat table names old (done_of_below (refused_there l)) table names x) (sym i.3) n)))

module _ (walk : List Naming → Walk NodeVerdict) (folder : List Naming → Folder → Walk NodeVerdict) (p : Parent) (is : (has : List Naming) → folder has (Exported p.view p.document p.path p.may_write) ≡ walk has)
    (seat : ℕ) (table : HandleTable) (names : List (ℕ × Named)) (below : TriedBelow) (after : HandleTable) (named : List (ℕ × Named)) (old mid new : TreeIs) where
  abbrev next : List Naming → Look → Walk NodeVerdict
  next has = by_look p.view (spot p.document p.path p.may_write) (no_file enotdir) (folder has)

  below-numbering : (l : LookAnswer) → Asks TreeCall.Look old (is_look_fault l) mid → Shows old.told p.path l → NumberingBelow walk l seat table names mid below after named new →
      NumberingWith (λ has. by_place (Some (parent_sight p)) (no_file enotdir) (folder has)) seat table names old (done_of_below below) after named new
  below-numbering (look.Is Look.Folder) a s n = λ has h.
      subst (λ (d : NodeDone). Numbering (Looks (AtPath p.path) (next has)) seat table names old d after named new) (sym (ap (λ (o : Option Look). done_behind_first o (done_of_tried below.then)) n.0))
      (numbering-after p.path (next has) Look.Folder (done_of_tried below.then) seat table names after named old mid new a s
      (numbering-along (next has Look.Folder) (walk has) seat table names mid (done_of_tried below.then) after named new (is has) (n.1 has h)))
  below-numbering (look.Is (Look.File g z m)) a s n = λ has h.
      refused-as (Looks (AtPath p.path) (next has)) (look.Is (Look.File g z m)) seat table names old mid below after named new n
      (numbering-behind p.path (next has) (look.Is (Look.File g z m)) seat table names (refuses enotdir) table names old mid mid a s (errs-numbering enotdir seat table names mid))
  below-numbering (look.Is Look.Missing) a s n = λ has h.
      refused-as (Looks (AtPath p.path) (next has)) (look.Is Look.Missing) seat table names old mid below after named new n
      (numbering-behind p.path (next has) (look.Is Look.Missing) seat table names (refuses enoent) table names old mid mid a s (errs-numbering enoent seat table names mid))
  below-numbering look.Failed a s n = λ has h.
      refused-as (Looks (AtPath p.path) (next has)) look.Failed seat table names old mid below after named new n
      (numbering-behind p.path (next has) look.Failed seat table names (refuses eio) table names old mid mid a s (refl, handles-stay seat table, same-named seat names, refl))

-- ---- LOOKUP

module _ (r : NodeRequest) (p : Parent) (name : List ℕ) (temps : List OwnTemp) (long : Bool) (tests : long ≡ is_too_long name) (seat : ℕ) (table : HandleTable) (names : List (ℕ × Named)) (old : TreeIs) (done : NodeDone) where
  abbrev looks_up : List Naming → Walk NodeVerdict
  looks_up has = by_place (Some (parent_sight p)) (no_file enotdir) (lookup_in r has temps name)

  pub lookup-long : (below : TriedBelow) (tried : Tried) (ended : Ended) → long ≡ true → done ≡ done_of_below below → below ≡ record { first = None; then = tried } → tried ≡ record { look = None; ended = ended } → ended ≡ refuses enametoolong →
      NumberingWith (λ has. lookup r has temps name (Some (parent_sight p))) seat table names old done table names old
  lookup-long below tried ended t d b u f = λ has h.
      at-once-so (lookup r has temps name (Some (parent_sight p))) enametoolong seat table names old done below tried ended (if-wrong (is_too_long name) long enametoolong (looks_up has) tests t) d b u f

  pub lookup-numbering : (l : LookAnswer) (below : TriedBelow) (after : HandleTable) (named : List (ℕ × Named)) (mid new : TreeIs) → long ≡ false → done ≡ done_of_below below → Asks TreeCall.Look old (is_look_fault l) mid → Shows old.told p.path l →
      NumberingBelow (found_below r p (named_child p.path name)) l seat table names mid below after named new → NumberingWith (λ has. lookup r has temps name (Some (parent_sight p))) seat table names old done after named new
  lookup-numbering l below after named mid new f d a s n = λ has h.
      numbering-along (lookup r has temps name (Some (parent_sight p))) (looks_up has) seat table names old done after named new (if-right (is_too_long name) long enametoolong (looks_up has) tests f)
      (subst (λ (x : NodeDone). Numbering (looks_up has) seat table names old x after named new) (sym d)
      (below-numbering (found_below r p (named_child p.path name)) (λ named_there. lookup_in r named_there temps name) p (λ named_there. refl) seat table names below after named old mid new l a s n has h))

-- the entry of what is there
module _ (r : NodeRequest) (p : Parent) (path : List ℕ) (has : List Naming) (shown : Look) (there : IsThere shown) where
  abbrev entry_of : Attr → Walk NodeVerdict
  entry_of attr = Answers (names_path (naming_below p path) (NodeAnswer.Entry attr))

  abbrev attr_there : ℕ → Attr
  attr_there node = attr_shown (on_node r node) p.may_write shown

  shown-by : (s : Look) → IsThere s → shown_below r p path s has ≡ errs_if (lacks_number has (naming_below p path)) emfile (entry_of (attr_shown (on_node r (node_of_naming has (naming_below p path))) p.may_write s))
  shown-by (Look.File g s m) t = refl
  shown-by Look.Folder t = refl
  shown-by Look.Missing t = absurd t

  shown-walk : (lacks : Bool) → lacks_number has (naming_below p path) ≡ lacks → shown_below r p path shown has ≡ errs_if lacks emfile (entry_of (attr_there (node_of_naming has (naming_below p path))))
  shown-walk lacks e = shown-by shown there ∙ ap (λ (b : Bool). errs_if b emfile (entry_of (attr_there (node_of_naming has (naming_below p path))))) e

  module _ (seat : ℕ) (table : HandleTable) (names : List (ℕ × Named)) (t : TreeIs) (ended : Ended) (free : Bool) (lacks : lacks_number has (naming_below p path) ≡ not free) where
    pub full-entry : (named : List (ℕ × Named)) → free ≡ false → ended ≡ refuses emfile → SeatNamed seat NamesStay names named → Numbering (shown_below r p path shown has) seat table names t (done_of_ended ended) table named t
    full-entry named f e k = refused-so (shown_below r p path shown has) emfile seat table names t ended table named (shown-walk true (lacks ∙ ap not f)) e (handles-stay seat table) k

    pub given-entry : (mid named : List (ℕ × Named)) (node : ℕ) (attr : Attr) → free ≡ true → node ≡ node_of_naming has (naming_below p path) → attr ≡ attr_there node → ended ≡ says (NodeAnswer.Entry attr) → SeatNamed seat NamesStay names mid → SeatNamed seat (Names (naming_below p path)) mid named →
        Numbering (shown_below r p path shown has) seat table names t (done_of_ended ended) table named t
    given-entry mid named node attr f n a e k g =
        numbering-along (shown_below r p path shown has) (entry_of attr) seat table names t (done_of_ended ended) table named t
        (shown-walk false (lacks ∙ ap not f) ∙ ap entry_of (sym (a ∙ ap attr_there n)))
        (subst (λ (x : Ended). Numbering (entry_of attr) seat table names t (done_of_ended x) table named t) (sym e)
        (entry-numbering (naming_below p path) attr seat table names named t (named-behind seat (Names (naming_below p path)) names mid named k g)))

-- ---- CREATE

module _ (r : NodeRequest) (p : Parent) (name : List ℕ) (flags : ℕ) (room : Room) (temps : SeatTemps) (none : Bool) (modes : none ≡ has_no_mode flags) (seat : ℕ) (table : HandleTable) (names : List (ℕ × Named)) (old : TreeIs) (done : NodeDone) where
  abbrev makes : List Naming → Walk NodeVerdict
  makes has = by_place (Some (parent_sight p)) (no_file enotdir) (create_in r name flags room has temps)

  abbrev measures : List Naming → Walk NodeVerdict
  measures has = errs_if (is_too_long name) enametoolong (makes has)

  pub create-none : (below : TriedBelow) (tried : Tried) (ended : Ended) → none ≡ true → done ≡ done_of_below below → below ≡ record { first = None; then = tried } → tried ≡ record { look = None; ended = ended } → ended ≡ refuses einval →
      NumberingWith (λ has. create r name flags (Some (parent_sight p)) room has temps) seat table names old done table names old
  create-none below tried ended t d b u f = λ has h.
      at-once-so (create r name flags (Some (parent_sight p)) room has temps) einval seat table names old done below tried ended (if-wrong (has_no_mode flags) none einval (measures has) modes t) d b u f

  module _ (has_mode : none ≡ false) (long : Bool) (tests : long ≡ is_too_long name) where
    pub create-long : (below : TriedBelow) (tried : Tried) (ended : Ended) → long ≡ true → done ≡ done_of_below below → below ≡ record { first = None; then = tried } → tried ≡ record { look = None; ended = ended } → ended ≡ refuses enametoolong →
        NumberingWith (λ has. create r name flags (Some (parent_sight p)) room has temps) seat table names old done table names old
    create-long below tried ended t d b u f = λ has h.
        at-once-so (create r name flags (Some (parent_sight p)) room has temps) enametoolong seat table names old done below tried ended
        (if-right (has_no_mode flags) none einval (measures has) modes has_mode ∙ if-wrong (is_too_long name) long enametoolong (makes has) tests t) d b u f

    pub create-numbering : (l : LookAnswer) (below : TriedBelow) (after : HandleTable) (named : List (ℕ × Named)) (mid new : TreeIs) → long ≡ false → done ≡ done_of_below below → Asks TreeCall.Look old (is_look_fault l) mid → Shows old.told p.path l →
        NumberingBelow (made_below r flags room p (named_child p.path name)) l seat table names mid below after named new → NumberingWith (λ has. create r name flags (Some (parent_sight p)) room has temps) seat table names old done after named new
    create-numbering l below after named mid new f d a s n = λ has h.
        numbering-along (create r name flags (Some (parent_sight p)) room has temps) (makes has) seat table names old done after named new
        (if-right (has_no_mode flags) none einval (measures has) modes has_mode ∙ if-right (is_too_long name) long enametoolong (makes has) tests f)
        (subst (λ (x : NodeDone). Numbering (makes has) seat table names old x after named new) (sym d)
        (below-numbering (made_below r flags room p (named_child p.path name)) (λ named_there. create_in r name flags room named_there temps) p (λ named_there. refl) seat table names below after named old mid new l a s n has h))

-- by one who may not write there
pub denied-child : (r : NodeRequest) (flags : ℕ) (room : Room) (p : Parent) (has : List Naming) (o : Option (List ℕ)) (path : List ℕ) → o ≡ Some path → p.may_write ≡ false → made_below r flags room p o has ≡ errs eacces
denied-child r flags room p has o path e w =
    ap (λ (x : Option (List ℕ)). made_below r flags room p x has) e
    ∙ ap (λ (b : Bool). errs_if (not b) eacces (errs_if (room.full || lacks_number has (naming_below p path)) emfile (create_at r flags room (child_made has p.document (naming_below p path))))) w

-- a name that may be made
module _ (r : NodeRequest) (flags : ℕ) (p : Parent) (naming : Naming) (writes : p.may_write ≡ true) (seat : ℕ) (table mid : HandleTable) (kept : Handled seat HandlesStay table mid) (names : List (ℕ × Named)) (old : TreeIs) where
  abbrev made_at : Room → List Naming → Walk NodeVerdict
  made_at room has = create_at r flags room (child_made has p.document naming)

  named-walk : (has : List Naming) (full lacks : Bool) → (room_in table seat).full ≡ full → lacks_number has naming ≡ lacks → named_below r flags (room_in table seat) p naming has ≡ errs_if (full || lacks) emfile (made_at (room_in table seat) has)
  named-walk has full lacks f l =
      ap (λ (b : Bool). errs_if (not b) eacces (errs_if ((room_in table seat).full || lacks_number has naming) emfile (made_at (room_in table seat) has))) writes
      ∙ (ap (λ (b : Bool). errs_if (b || lacks_number has naming) emfile (made_at (room_in table seat) has)) f
      ∙ ap (λ (b : Bool). errs_if (full || b) emfile (made_at (room_in table seat) has)) l)

  pub no-handle : (free : Bool) (tried : Tried) (ended : Ended) → (room_in table seat).full ≡ not free → free ≡ false → tried ≡ record { look = None; ended = ended } → ended ≡ refuses emfile →
      NumberingWith (named_below r flags (room_in table seat) p naming) seat table names old (done_of_tried tried) mid names old
  no-handle free tried ended k f u e = λ has h.
      unlooked-so (named_below r flags (room_in table seat) p naming has) emfile seat table names old tried ended mid names (named-walk has true (lacks_number has naming) (k ∙ ap not f) refl) u e kept (same-named seat names)

  module _ (open_free : (room_in table seat).full ≡ false) (between : List (ℕ × Named)) (named_kept : SeatNamed seat NamesStay names between) (free : Bool) (lacks : (has : List Naming) → namings_on names seat ≡ Some has → lacks_number has naming ≡ not free) where
    pub no-number : (tried : Tried) (ended : Ended) → free ≡ false → tried ≡ record { look = None; ended = ended } → ended ≡ refuses emfile →
        NumberingWith (named_below r flags (room_in table seat) p naming) seat table names old (done_of_tried tried) mid between old
    no-number tried ended f u e = λ has h.
        unlooked-so (named_below r flags (room_in table seat) p naming has) emfile seat table names old tried ended mid between (named-walk has false true open_free (lacks has h ∙ ap not f)) u e kept named_kept

    pub named-made : (l : LookAnswer) (ended : Ended) (after : HandleTable) (named : List (ℕ × Named)) (looked new : TreeIs) → free ≡ true → Asks TreeCall.Look old (is_look_fault l) looked → Shows old.told naming.path l →
        ((has : List Naming) → namings_on between seat ≡ Some has → NumberingBehind (λ shown. there_below r flags (room_in mid seat) p naming shown has) l seat mid between looked ended after named new) →
        NumberingWith (named_below r flags (room_in table seat) p naming) seat table names old (done_behind (Some l) ended) after named new
    named-made l ended after named looked new f a s n = λ has h.
        numbering-along (named_below r flags (room_in table seat) p naming has) (made_at (room_in mid seat) has) seat table names old (done_behind (Some l) ended) after named new
        (named-walk has false false open_free (lacks has h ∙ ap not f) ∙ ap (λ (room : Room). made_at room has) (sym (room-stays seat table mid kept)))
        (numbering-before (made_at (room_in mid seat) has) seat table mid names between old (done_behind (Some l) ended) after named new kept named_kept
        (numbering-behind naming.path (create_there r flags (room_in mid seat) (child_made has p.document naming)) l seat mid between ended after named old looked new a s (n has (named-still seat names between has named_kept h))))

-- where nothing stands at the path
module _ (r : NodeRequest) (flags : ℕ) (table : HandleTable) (seat : ℕ) (p : Parent) (naming : Naming) (has : List Naming) (names : List (ℕ × Named)) (name : FileName) (now : ℕ) (old new : TreeIs) (d : TreeDone) (first : name ≡ record { path = naming.path; generation = 0 })
    (missing : IfSome old.told (λ held. Look.Missing ≡ look_at held.present name.path)) (creates : Changes TreeCall.Create (λ held. may_create held.present name.path) (files_after true (Creates name.path now)) old d new) where
  abbrev made : Made
  made = child_made has p.document naming

  abbrev there : Walk NodeVerdict
  there = there_below r flags (room_in table seat) p naming Look.Missing has

  pub child-done : (node : ℕ) (attr : Attr) (fh : ℕ) (handle : Handle) (ended : Ended) (after : HandleTable) (named : List (ℕ × Named)) → d ≡ done.Done → node ≡ node_of_naming has naming → attr ≡ attr_of_file (on_node r node) true 0 now → fh ≡ next_handle (room_in table seat) →
      handle ≡ file_handle p.document name node flags → ended ≡ ended_by now came.Done (NodeAnswer.Created attr fh) → Handled seat (Opens handle) table after → SeatNamed seat (Names naming) names named →
      Numbering there seat table names old (done_of_ended ended) after named new
  child-done node attr fh handle ended after named e n a f h b o g = record {
    opening = made-done r flags table seat made name now old new d first missing creates attr fh handle ended after e
        (a ∙ ap (λ (x : ℕ). attr_of_file (on_node r x) true 0 now) n) f
        (h ∙ ap (λ (x : ℕ). file_handle p.document name x flags) n) b o;
    change = Names naming;
    naming = ap (λ (x : Ended). let y = done_of_ended x in name_change (walked_with there (moment_given y.now) y.listed y.looks (is_tree y.fault))) b;
    names = g;
  }

  pub child-missing : (ended : Ended) → d ≡ done.NotFile → ended ≡ ended_by now came.NotFile NodeAnswer.Empty → Numbering there seat table names old (done_of_ended ended) table names new
  child-missing ended e b = record {
    opening = made-missing r flags table seat made name now old new d first missing creates ended e b;
    change = NamesStay;
    naming = ap (λ (x : Ended). let y = done_of_ended x in name_change (walked_with there (moment_given y.now) y.listed y.looks (is_tree y.fault))) b;
    names = same-named seat names;
  }

  pub child-failed : (ended : Ended) → d ≡ done.Failed → ended ≡ ended_by now came.Failed NodeAnswer.Empty → Numbering there seat table names old (done_of_ended ended) table names new
  child-failed ended e b = record {
    opening = made-failed r flags table seat made name now old new d first missing creates ended e b;
    change = NamesStay;
    naming = ap (λ (x : Ended). let y = done_of_ended x in name_change (walked_with there (moment_given y.now) y.listed y.looks (is_tree y.fault))) b;
    names = same-named seat names;
  }
