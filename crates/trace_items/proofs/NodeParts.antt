-- How requests on nodes change the files, part by part, and over the lists that are lent.
use Rattle.std.proofs.Common.{◌≡◌, ◌==◌, ℕ, List, Bool, true, false, cond, Option, Some, None, Result, Ok, Err, IfOk, option_map, refl, sym, ap, subst, ◌∙◌}
use Rattle.portal_base.specs.declared.files.Look.{Look}
use Rattle.portal_model.specs.declared.entry.Entry.{Entry}
use Rattle.portal_model.specs.declared.entry.Given.{Given}
use Rattle.portal_model.specs.declared.handle.Handle.{Handle}
use Rattle.portal_model.specs.declared.naming.Naming.{Naming}
use Rattle.portal_model.specs.declared.request.NodeRequest.{NodeRequest}
use Rattle.portal_model.specs.declared.request.Request.{Request}
use Rattle.portal_model.specs.declared.state.Connection.{Connection}
use Rattle.portal_model.specs.declared.state.Document.{Document}
use Rattle.portal_model.specs.declared.temporary.OwnTemp.{OwnTemp}
use Rattle.portal_model.specs.Bus.{moment_given}
use Rattle.portal_model.specs.Lawful.{Lawful, LawfulGiven}
use Rattle.portal_model.specs.NodeVerdict.{FileChange, FilesStay}
use Rattle.portal_model.specs.Open.{truncates}
use Rattle.portal_model.specs.Place.{Sight, id_of_node, place_of, sight_at_path}
use Rattle.portal_model.specs.SeatNames.{naming_of, temp_of}
use Rattle.portal_model.specs.SetAttr.{sets_by_handle, sets_size}
use Rattle.portal_model.specs.State.{State, connection_of}
use Rattle.portal_model.specs.Step.{mount_of}
use Rattle.portal_model.specs.Valid.{Valid}
use Rattle.portal_model.proofs.ListLookups.{found_passes, nat_is}
use Rattle.open_handles.specs.Opened.{handle_of as handle_in, opened_on}
use Rattle.app_view.specs.Books.{Lends}
use Rattle.trace_items.specs.declared.lent.Lent.{Lent}
use Rattle.trace_items.specs.Awaited.{Comes, Shows, is_node, namings_on, silent, temps_on}
use Rattle.trace_items.specs.FilesChanged.{attributes_set, file_change, file_open, file_shown_at, opened, path_of_below, path_of_file, resizes}
use Rattle.trace_items.proofs.ComingLaws.{Heard, heard, mount-silent, nobody-heard}
use Rattle.named_paths.proofs.OpenPaths.{handle-found}
use Rattle.trace_items.proofs.Touched.{change_at, change_over, comes-node, mount-there}

-- what is said of a value may be said otherwise
pub if-ok : {X E : Type 0} {P Q : X → Type 0} (r : Result X E) → IfOk r P → ((x : X) → P x → Q x) → IfOk r Q
if-ok (Ok x) p f = f x p
if-ok (Err e) p f = tt

-- ---- what is seen of a document

-- its file, or the folder that it is, has its path
pub path-of-document : (view : ℕ) (d : Document) (folder may_write : Bool) → Some d.path ≡ path_of_file (Some (sight_at_path view d folder may_write))
path-of-document view d true may_write = refl
path-of-document view d false may_write = refl

pub path-of-folder : (view : ℕ) (d : Document) (folder may_write : Bool) → cond folder (Some d.path) None ≡ path_of_below (Some (sight_at_path view d folder may_write))
path-of-folder view d true may_write = refl
path-of-folder view d false may_write = refl

-- ---- SETATTR and OPEN

module _ (valid size : ℕ) (sight : Option Sight) (handle : Option Handle) (looks : List Look) (now : ℕ) where
  pub length-stays : sets_size valid ≡ false → FilesStay ≡ attributes_set valid size sight handle looks now
  length-stays e = ap (λ (b : Bool). cond b (resizes (cond (sets_by_handle valid) (file_open handle) (file_shown_at (path_of_file sight) looks)) size now) FilesStay) (sym e)

  pub length-set : (seen : Option (List ℕ)) (change : FileChange) → sets_size valid ≡ true → seen ≡ path_of_file sight →
      change ≡ resizes (cond (sets_by_handle valid) (file_open handle) (file_shown_at seen looks)) size now → change ≡ attributes_set valid size sight handle looks now
  length-set seen change e p h =
      h ∙ (ap (λ (o : Option (List ℕ)). resizes (cond (sets_by_handle valid) (file_open handle) (file_shown_at o looks)) size now) p
      ∙ ap (λ (b : Bool). cond b (resizes (cond (sets_by_handle valid) (file_open handle) (file_shown_at (path_of_file sight) looks)) size now) FilesStay) (sym e))

  pub by-handle : (seen : Option (List ℕ)) (change : FileChange) → sets_by_handle valid ≡ true → change ≡ resizes (file_open handle) size now → change ≡ resizes (cond (sets_by_handle valid) (file_open handle) (file_shown_at seen looks)) size now
  by-handle seen change e h = h ∙ ap (λ (b : Bool). resizes (cond b (file_open handle) (file_shown_at seen looks)) size now) (sym e)

  pub by-place : (seen : Option (List ℕ)) (change : FileChange) → sets_by_handle valid ≡ false → change ≡ resizes (file_shown_at seen looks) size now → change ≡ resizes (cond (sets_by_handle valid) (file_open handle) (file_shown_at seen looks)) size now
  by-place seen change e h = h ∙ ap (λ (b : Bool). resizes (cond b (file_open handle) (file_shown_at seen looks)) size now) (sym e)

module _ (flags : ℕ) (sight : Option Sight) (looks : List Look) (now : ℕ) where
  pub open-stays : truncates flags ≡ false → FilesStay ≡ opened flags sight looks now
  open-stays e = ap (λ (b : Bool). cond b (resizes (file_shown_at (path_of_file sight) looks) 0 now) FilesStay) (sym e)

  pub open-cuts : (seen : Option (List ℕ)) (change : FileChange) → truncates flags ≡ true → seen ≡ path_of_file sight → change ≡ resizes (file_shown_at seen looks) 0 now → change ≡ opened flags sight looks now
  open-cuts seen change e p h =
      h ∙ (ap (λ (o : Option (List ℕ)). resizes (file_shown_at o looks) 0 now) p
      ∙ ap (λ (b : Bool). cond b (resizes (file_shown_at (path_of_file sight) looks) 0 now) FilesStay) (sym e))

-- ---- over the lists that are lent

seat-there : (cs : List Connection) (seat : ℕ) (c : Connection) → connection_of cs seat ≡ Some c → c.seat ≡ seat
seat-there cs seat c e = nat_is c.seat seat (found_passes (λ (x : Connection). x.seat == seat) cs c e)

mount-heard : (s : State) (seat : ℕ) (o : Option Connection) (d : Connection) → o ≡ option_map silent (connection_of s.connections seat) → mount_of o ≡ Some d → Heard (mount_of (connection_of s.connections seat)) d
mount-heard s seat o d e m = heard (mount_of (connection_of s.connections seat)) d (sym (mount-silent (connection_of s.connections seat)) ∙ (ap mount_of (sym e) ∙ m))

-- where this is what the connection has named, and what it has made
abbrev pub change_by : State → (ℕ → Option Handle) → NodeRequest → Given → List Naming → List OwnTemp → Connection → FileChange
change_by s handle r given has own c = file_change (record {
  sight = place_of s c.who (naming_of has (id_of_node r.node)) (temp_of own (id_of_node r.node)) r.node;
  handle = handle;
  temps = own;
  looks = given.looks;
  now = moment_given given.now;
  generation = given.generation;
}) r.op

-- what the tables have of the seat is what the connection has
named-here : (lent : Lent) (s : State) → Shows lent s → (d c : Connection) → d ≡ silent c → connection_of s.connections c.seat ≡ Some c → namings_on lent.namings.now d.seat ≡ Some c.namings
named-here lent s shows d c e here =
    shows.namings d.seat
    ∙ ((λ i. option_map (λ (x : Connection). x.namings) (connection_of s.connections (e i).seat))
    ∙ ap (option_map (λ (x : Connection). x.namings)) here)

own-here : (lent : Lent) (s : State) → Shows lent s → (d c : Connection) → d ≡ silent c → connection_of s.connections c.seat ≡ Some c → temps_on lent.temps.now.seats d.seat ≡ Some c.temps
own-here lent s shows d c e here =
    shows.temps d.seat
    ∙ ((λ i. option_map (λ (x : Connection). x.temps) (connection_of s.connections (e i).seat))
    ∙ ap (option_map (λ (x : Connection). x.temps)) here)

-- the change, whatever the tables have of a seat, where that is what they have
abbrev pub ChangesBy : Lent → State → NodeRequest → Given → Connection → FileChange → Type 0
ChangesBy lent s r given d change =
    (has : List Naming) (own : List OwnTemp) → namings_on lent.namings.now d.seat ≡ Some has → temps_on lent.temps.now.seats d.seat ≡ Some own →
    change ≡ change_by s (handle_in (opened_on lent.handles.now.seats d.seat)) r given has own d

module _ (lent : Lent) (s : State) (shows : Shows lent s) (seat : ℕ) (r : NodeRequest) (given : Given) where
  change-of-heard : (d : Connection) (change : FileChange) → Heard (mount_of (connection_of s.connections seat)) d → ChangesBy lent s r given d change → change ≡ change_at s seat r given
  change-of-heard d change k is =
      let c : Connection = k.connection in
      let there : connection_of s.connections seat ≡ Some c = mount-there (connection_of s.connections seat) c k.here in
      let here : connection_of s.connections c.seat ≡ Some c = ap (connection_of s.connections) (seat-there s.connections seat c there) ∙ there in
      is c.namings c.temps (named-here lent s shows d c k.is_silent here) (own-here lent s shows d c k.is_silent here)
      ∙ (ap (λ (x : Connection). change_by s (handle_in (opened_on lent.handles.now.seats x.seat)) r given c.namings c.temps x) k.is_silent
      ∙ ((λ i. change_by s (λ fh. handle-found s c.seat c (opened_on lent.handles.now.seats c.seat) fh (shows.handles c.seat c here) i) r given c.namings c.temps c)
      ∙ ap (change_over s r given) (sym k.here)))

pub lends-book : (lent : Lent) (s : State) → Shows lent s → Lends lent.book s
lends-book lent s shows = record { documents = shows.documents; rights = shows.rights; applications = shows.applications }

-- an entry on a node
pub node-come : (s : State) (e : Entry) (r : NodeRequest) (change : FileChange) → e.request ≡ Request.Node r → Valid s → s.told ≡ true → Lawful s e → change ≡ change_at s e.seat r e.given → Comes s e change
node-come s e r change q valid told l same =
    subst (Comes s e) (sym same)
    (subst (λ (request : Request). Comes s (record { seat = e.seat; request = request; given = e.given }) (change_at s e.seat r e.given)) (sym q)
    (comes-node s e.seat r e.given valid told (subst (λ (request : Request). LawfulGiven s e.seat request e.given) q l.given)))

pub not-node : (q : Request) → ((r : NodeRequest) → q ≡ Request.Node r → ⊥) → is_node q ≡ false
not-node (Request.Node r) f = absurd (f r refl)
not-node (Request.Enter who kind) f = refl
not-node Request.Leave f = refl
not-node Request.Collect f = refl
not-node (Request.Present path) f = refl
not-node (Request.Add a) f = refl
not-node (Request.Grant call) f = refl
not-node (Request.Revoke call) f = refl
not-node (Request.DeleteDocument doc) f = refl
not-node (Request.LookupDocument path) f = refl
not-node (Request.Info doc) f = refl
not-node (Request.ListDocuments name) f = refl
not-node (Request.Store call) f = refl

-- over a mount
pub mount-come : (lent : Lent) (s : State) (e : Entry) (r : NodeRequest) (o : Option Connection) (d : Connection) (change : FileChange) → Shows lent s → Valid s → Lawful s e → e.request ≡ Request.Node r →
    o ≡ option_map silent (connection_of s.connections e.seat) → mount_of o ≡ Some d → ChangesBy lent s r e.given d change → Comes s e change
mount-come lent s e r o d change shows valid l q lend m is =
    node-come s e r change q valid shows.told l (change-of-heard lent s shows e.seat r e.given d change (mount-heard s e.seat o d lend m) is)

-- over none
pub unmounted-come : (lent : Lent) (s : State) (e : Entry) (r : NodeRequest) (o : Option Connection) → Shows lent s → Valid s → Lawful s e → e.request ≡ Request.Node r →
    o ≡ option_map silent (connection_of s.connections e.seat) → mount_of o ≡ None → Comes s e FilesStay
unmounted-come lent s e r o shows valid l q lend m =
    let none : mount_of (connection_of s.connections e.seat) ≡ None = nobody-heard (mount_of (connection_of s.connections e.seat)) (sym (mount-silent (connection_of s.connections e.seat)) ∙ (ap mount_of (sym lend) ∙ m)) in
    node-come s e r FilesStay q valid shows.told l (sym (ap (change_over s r e.given) none))
