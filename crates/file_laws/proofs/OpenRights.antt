-- What an application opens goes by the rights that it has then.
use Rattle.std.proofs.Common.{◌≡◌, ℕ, zero, suc, ◌==◌, List, [], ◌∷◌, ◌++◌, Bool, true, false, not, ◌&&◌, cond, Option, Some, None, inl, inr, refl, sym, ap, subst, ◌∙◌}
use Rattle.file_generations.specs.Generations.{Held}
use Rattle.portal_base.specs.declared.files.FileName.{FileName}
use Rattle.portal_base.specs.declared.names.doc_id.DocId.{DocId}
use Rattle.portal_base.specs.declared.who.Who.{Who}
use Rattle.portal_model.specs.declared.entry.Given.{Given}
use Rattle.portal_model.specs.declared.naming.Naming.{Naming}
use Rattle.portal_model.specs.declared.place.Place.{Place}
use Rattle.portal_model.specs.declared.request.NodeOp.{NodeOp}
use Rattle.portal_model.specs.declared.request.NodeRequest.{NodeRequest}
use Rattle.portal_model.specs.declared.request.Request.{Request}
use Rattle.portal_model.specs.declared.rights.Right.{Right}
use Rattle.portal_model.specs.declared.rights.Right.TheVariants.{Read, Write}
use Rattle.portal_model.specs.declared.state.Connection.{Connection}
use Rattle.portal_model.specs.declared.state.Document.{Document}
use Rattle.portal_model.specs.declared.state.Triple.{Triple}
use Rattle.portal_model.specs.declared.temporary.Temp.{Temp}
use Rattle.portal_model.specs.Bus.{is_tree, moment_given}
use Rattle.portal_model.specs.Errno.{eacces, einval, emfile, enoent}
use Rattle.portal_model.specs.History.{Legal, made_by, run}
use Rattle.portal_model.specs.Lawful.{LawfulGiven, LawfulOnNode}
use Rattle.portal_model.specs.Node.{facts_of, node_given, node_walk, settled_on_node, walk_on_node}
use Rattle.portal_model.specs.NodeVerdict.{NodeDoing, NodeVerdict, Errs, FilesStay, Resizes, Room, Yields, by_place, errs_if, spot}
use Rattle.portal_model.specs.Open.{file_handle, has_no_mode, open_file, open_folder, open_name, open_node, opened_file, opens_to_write, truncates}
use Rattle.portal_model.specs.Outside.{files_told}
use Rattle.portal_model.specs.Place.{FolderOf, Sight, SightOfFile, SightOfFolder, SightOfTemp, place_named, place_of, seen_by, sight_at, sight_of_document, sight_of_folder, sight_of_own_temp, sight_of_place, sight_of_root, sight_of_temp, subject_of, SightBelow, naming_on, sight_at_path, sight_below, sight_of_naming, temp_on}
use Rattle.portal_model.specs.State.{State, app_has, connection_of, document_of, is_app}
use Rattle.portal_model.specs.Step.{after, all_told, mount_of, node_step, request_step}
use Rattle.portal_model.specs.Walk.{Answers, Changes, Ends}
use Rattle.portal_model.proofs.Histories.{Legal-front, Legal-rest}
use Rattle.portal_model.proofs.ListLookups.{found_passes, is_same-eq, nat_is}
use Rattle.portal_model.proofs.NodeWalks.{IfMet, OnNode, at_file-on, at_name-on, by_look-on, errs_if-on, on-given}
use Rattle.app_world.specs.RightsTold.{is_given_in}
use Rattle.app_world.specs.Touched.{is_done}
use Rattle.app_world.proofs.RightsToldLaws.{told}
use Rattle.file_laws.specs.Revocations.{IsOfDocument, NoOpenAfterARevocation, file_in_own_view}
use Rattle.file_laws.proofs.SeatMounts.{mount-seat}

-- ---- what an application sees as a file, or as what may be one

record FileSeen (app : List ℕ) (rights : List Triple) (naming : Option Naming) (temp : Option Temp) (p : Option Place) (writes : Bool) : Type 0 where
  number : ℕ
  place : IsOfDocument naming temp p number
  may_read : app_has rights app number Read ≡ true
  may_write : app_has rights app number Write ≡ writes

-- its document, and whether it may be written
abbrev file_of_sight : Option Sight → Option (Document × Bool)
file_of_sight None = None
file_of_sight (Some (SightOfFile d w)) = Some (d, w)
file_of_sight (Some (SightOfTemp d name w)) = Some (d, w)
file_of_sight (Some (SightBelow view d path w)) = Some (d, w)
file_of_sight (Some (SightOfFolder f)) = None

abbrev is_written : Option (Document × Bool) → Bool
is_written None = false
is_written (Some p) = p.1

module _ (app : List ℕ) (s : State) (document : Document) (writes : Bool) where
  abbrev Seen : Option Sight → Type 0
  Seen o = file_of_sight o ≡ Some (document, writes)

  same-writes : (d : Document) (w : Bool) → ◌≡◌ {A = Option (Document × Bool)} (Some (d, w)) (Some (document, writes)) → w ≡ writes
  same-writes d w e = ap is_written e

  no-folder : (number : ℕ) (o : Option Document) {X : Type 0} → Seen (sight_of_folder 0 s.rights (Who.App app) o) → X
  no-folder number None e = cc
  no-folder number (Some d) e = by_right (app_has s.rights app d.id.number Read) e
    where
      by_right : (b : Bool) {Y : Type 0} → Seen (cond b (Some (SightOfFolder (FolderOf 0 d (app_has s.rights app d.id.number Write)))) None) → Y
      by_right true f = cc
      by_right false f = cc

  of-document : (naming : Option Naming) (temp : Option Temp) (number : ℕ) (o : Option Document) → document_of s.documents number ≡ o → Seen (sight_of_document 0 s.rights (Who.App app) o) → FileSeen app s.rights naming temp (Some (file_in_own_view number)) writes
  of-document naming temp number None k e = cc
  of-document naming temp number (Some d) k e =
      subst (λ (n : ℕ). FileSeen app s.rights naming temp (Some (file_in_own_view n)) writes) (nat_is d.id.number number (found_passes (λ (x : Document). x.id.number == number) s.documents d k)) (by_right (app_has s.rights app d.id.number Read) refl e)
    where
      by_path : (f : Bool) → app_has s.rights app d.id.number Read ≡ true → Seen (Some (sight_at_path 0 d f (app_has s.rights app d.id.number Write))) → FileSeen app s.rights naming temp (Some (file_in_own_view d.id.number)) writes
      by_path true h f = record { number = d.id.number; place = inl refl; may_read = h; may_write = same-writes d (app_has s.rights app d.id.number Write) f }
      by_path false h f = record { number = d.id.number; place = inl refl; may_read = h; may_write = same-writes d (app_has s.rights app d.id.number Write) f }

      by_right : (b : Bool) → app_has s.rights app d.id.number Read ≡ b → Seen (cond b (Some (sight_at_path 0 d d.folder (app_has s.rights app d.id.number Write))) None) → FileSeen app s.rights naming temp (Some (file_in_own_view d.id.number)) writes
      by_right true h f = by_path d.folder h f
      by_right false h f = cc

  no-root : (view : ℕ) {X : Type 0} → Seen (seen_by (subject_of s.applications (Who.App app) view) (sight_of_root s (Who.App app) view)) → X
  no-root zero e = cc
  no-root (suc k) e = cc

  of-folder : (view : ℕ) (id : DocId) {X : Type 0} → Seen (seen_by (subject_of s.applications (Who.App app) view) (λ who. sight_of_folder view s.rights who (document_of s.documents id.number))) → X
  of-folder zero id e = no-folder id.number (document_of s.documents id.number) e
  of-folder (suc k) id e = cc

  of-file : (naming : Option Naming) (temp : Option Temp) (view : ℕ) (id : DocId) → Seen (seen_by (subject_of s.applications (Who.App app) view) (λ who. sight_of_document view s.rights who (document_of s.documents id.number))) → FileSeen app s.rights naming temp (Some (Place.File view id)) writes
  of-file naming temp zero id e = of-document naming temp id.number (document_of s.documents id.number) refl e
  of-file naming temp (suc k) id e = cc

  -- below a folder that is a document
  of-path : (n : Naming) (temp : Option Temp) (k : ℕ) (b : Bool) (o : Option Document) → document_of s.documents n.document.number ≡ o → Seen (cond b (sight_below 0 s.rights (Who.App app) n.path o) None) → FileSeen app s.rights (Some n) temp (Some (Place.Named 0 k)) writes
  of-path n temp k false o f e = cc
  of-path n temp k true None f e = cc
  of-path n temp k true (Some d) f e = by_right (app_has s.rights app d.id.number Read) refl e
    where
      same : n.document.number ≡ d.id.number
      same = sym (nat_is d.id.number n.document.number (found_passes (λ (x : Document). x.id.number == n.document.number) s.documents d f))

      by_right : (b : Bool) → app_has s.rights app d.id.number Read ≡ b → Seen (cond b (Some (SightBelow 0 d n.path (app_has s.rights app d.id.number Write))) None) → FileSeen app s.rights (Some n) temp (Some (Place.Named 0 k)) writes
      by_right true h g = record {
        number = d.id.number;
        place = inr (inl (record { named = n; is = refl; k = k; at = refl; document = same }));
        may_read = h;
        may_write = same-writes d (app_has s.rights app d.id.number Write) g;
      }
      by_right false h g = cc

  -- a temporary
  of-temp : (naming : Option Naming) (t : Temp) (k : ℕ) (b : Bool) (o : Option Document) → document_of s.documents t.document.number ≡ o → Seen (cond b (sight_of_temp s.rights (Who.App app) t.file o) None) → FileSeen app s.rights naming (Some t) (Some (Place.Temporary 0 k)) writes
  of-temp naming t k false o f e = cc
  of-temp naming t k true None f e = cc
  of-temp naming t k true (Some d) f e = by_right (app_has s.rights app d.id.number Read) refl e
    where
      same : t.document.number ≡ d.id.number
      same = sym (nat_is d.id.number t.document.number (found_passes (λ (x : Document). x.id.number == t.document.number) s.documents d f))

      by_right : (b : Bool) → app_has s.rights app d.id.number Read ≡ b → Seen (cond b (Some (SightOfTemp d t.file (app_has s.rights app d.id.number Write))) None) → FileSeen app s.rights naming (Some t) (Some (Place.Temporary 0 k)) writes
      by_right true h g = record {
        number = d.id.number;
        place = inr (inr (record { made = t; is = refl; k = k; at = refl; document = same }));
        may_read = h;
        may_write = same-writes d (app_has s.rights app d.id.number Write) g;
      }
      by_right false h g = cc

  of-own-temp : (naming : Option Naming) (view k : ℕ) (temp : Option Temp) → Seen (seen_by (subject_of s.applications (Who.App app) view) (λ who. sight_of_own_temp s view who temp)) → FileSeen app s.rights naming temp (Some (Place.Temporary view k)) writes
  of-own-temp naming zero k None e = cc
  of-own-temp naming zero k (Some t) e = of-temp naming t k (t.view == 0) (document_of s.documents t.document.number) refl e
  of-own-temp naming (suc view) k temp e = cc

  of-naming : (temp : Option Temp) (view k : ℕ) (naming : Option Naming) → Seen (seen_by (subject_of s.applications (Who.App app) view) (λ who. sight_of_naming s view who naming)) → FileSeen app s.rights naming temp (Some (Place.Named view k)) writes
  of-naming temp zero k None e = cc
  of-naming temp zero k (Some n) e = of-path n temp k (n.view == 0) (document_of s.documents n.document.number) refl e
  of-naming temp (suc view) k naming e = cc

  of-place : (naming : Option Naming) (temp : Option Temp) (p : Place) → Seen (sight_of_place s (Who.App app) naming temp p) → FileSeen app s.rights naming temp (Some p) writes
  of-place naming temp (Place.Root view) e = no-root view e
  of-place naming temp Place.ByApp e = cc
  of-place naming temp (Place.Folder view id) e = of-folder view id e
  of-place naming temp (Place.File view id) e = of-file naming temp view id e
  of-place naming temp (Place.Named view k) e = of-naming temp view k naming e
  of-place naming temp (Place.Temporary view k) e = of-own-temp naming view k temp e

  at-place : (naming : Option Naming) (temp : Option Temp) (p : Option Place) → Seen (sight_at s (Who.App app) naming temp p) → FileSeen app s.rights naming temp p writes
  at-place naming temp None e = cc
  at-place naming temp (Some p) e = of-place naming temp p e

-- ---- what an application opens

-- a file of its document, by the rights that it has
record OpensBy (app : List ℕ) (flags : ℕ) (rights : List Triple) (naming : Option Naming) (temp : Option Temp) (p : Option Place) : Type 0 where
  number : ℕ
  place : IsOfDocument naming temp p number
  may_read : app_has rights app number Read ≡ true
  may_write : opens_to_write flags ≡ true → app_has rights app number Write ≡ true

may-write : (opens writes : Bool) → (opens && not writes) ≡ false → opens ≡ true → writes ≡ true
may-write true true h e = refl
may-write true false h e = cc
may-write false writes h e = cc

module _ (app : List ℕ) (s : State) (r : NodeRequest) (flags : ℕ) (room : Room) (tree : Option Held) (naming : Option Naming) (temp : Option Temp) where
  abbrev By : Type 0
  By = OpensBy app flags s.rights naming temp (place_named r.node)

  abbrev P : NodeDoing → Type 0
  P d = By

  name-by : (d : Document) (name : FileName) → By → OnNode tree P (open_name r flags room d name)
  name-by d name h = elim (truncates flags) as (λ b. OnNode tree P (cond b (Ends (Changes name) (λ now. opened_file room (file_handle d name r.node flags) (Resizes name 0 now)) (Errs enoent)) (Answers (opened_file room (file_handle d name r.node flags) FilesStay)))) [
    | true ↦ ((λ now found. h), tt)
    | false ↦ h
  ]

  by-seen : (w : Bool) → FileSeen app s.rights naming temp (place_named r.node) w → (opens_to_write flags && not w) ≡ false → By
  by-seen w seen h = record {
    number = seen.number;
    place = seen.place;
    may_read = seen.may_read;
    may_write = λ e. seen.may_write ∙ may-write (opens_to_write flags) w h e;
  }

  file-by : (sight : Option Sight) (d : Document) (path : List ℕ) (w : Bool) → place_of s (Who.App app) naming temp r.node ≡ sight → file_of_sight sight ≡ Some (d, w) → (g size m : ℕ) → OnNode tree P (open_file r flags room (spot d path w) g size m)
  file-by sight d path w e f g size m =
      let name : FileName = record { path = path; generation = g } in
      let seen : file_of_sight (place_of s (Who.App app) naming temp r.node) ≡ Some (d, w) = ap file_of_sight e ∙ f in
      errs_if-on tree P (opens_to_write flags && not w) eacces (errs_if room.full emfile (open_name r flags room d name)) (λ k.
      errs_if-on tree P room.full emfile (open_name r flags room d name) (λ n. name-by d name (by-seen w (at-place app s d w naming temp (place_named r.node) seen) k)))

  sight-by : (sight : Option Sight) → place_of s (Who.App app) naming temp r.node ≡ sight → OnNode tree P (by_place sight (open_file r flags room) open_folder)
  sight-by None e = tt
  sight-by (Some (SightOfFile d w)) e = at_file-on tree P d.path (open_file r flags room (spot d d.path w)) (file-by (Some (SightOfFile d w)) d d.path w e refl)
  sight-by (Some (SightOfTemp d name w)) e = at_name-on tree P name (open_file r flags room (spot d name.path w)) (file-by (Some (SightOfTemp d name w)) d name.path w e refl)
  sight-by (Some (SightBelow view d path w)) e = λ look shown. by_look-on tree P view (spot d path w) (open_file r flags room) open_folder (file-by (Some (SightBelow view d path w)) d path w e refl) tt look
  sight-by (Some (SightOfFolder folder)) e = tt

  open-by : (sight : Option Sight) → place_of s (Who.App app) naming temp r.node ≡ sight → OnNode tree P (open_node r flags sight room)
  open-by sight e = errs_if-on tree P (has_no_mode flags) einval (by_place sight (open_file r flags room) open_folder) (λ n. sight-by sight e)

settled-by : {X : Type 0} (tree : Option Held) (t : State) (c : Connection) (o : Option NodeVerdict) → IfMet tree (λ d. X) o → is_done (settled_on_node t c o).1 ≡ true → X
settled-by tree t c None m e = cc
settled-by tree t c (Some (Errs errno)) m e = cc
settled-by tree t c (Some (Yields d)) m e = m

pub who-app : (app : List ℕ) (who : Who) → is_app app who ≡ true → who ≡ Who.App app
who-app app Who.Host e = cc
who-app app (Who.App name) e = ap Who.App (is_same-eq name app e)

module _ (app : List ℕ) (s : State) (r : NodeRequest) (flags : ℕ) (op : r.op ≡ NodeOp.Open flags) where
  -- over its connection
  abbrev OpensOver : Given → Option Connection → Type 0
  OpensOver given None = ⊥
  OpensOver given (Some c) = OpensBy app flags s.rights (naming_on c r.node) (temp_on c r.node) (place_named r.node)

  mount-by : (given : Given) (o : Option Connection) → ((c : Connection) → o ≡ Some c → is_app app c.who ≡ true) → LawfulOnNode s r given o → is_done (node_step s r given o).1.answer ≡ true → OpensOver given o
  mount-by given None f l e = cc
  mount-by given (Some c) f l e =
      let t = all_told c.seat s in
      let facts = facts_of t c r.node in
      let P : NodeDoing → Type 0 = λ d. OpensBy app flags s.rights (naming_on c r.node) (temp_on c r.node) (place_named r.node) in
      let on : OnNode (files_told t) P (walk_on_node t c r) =
      subst (λ (x : NodeOp). OnNode (files_told t) P (node_walk facts r x)) (sym op)
      (open-by app t r flags facts.room (files_told t) (naming_on c r.node) (temp_on c r.node) facts.sight (ap (λ (w : Who). place_of t w (naming_on c r.node) (temp_on c r.node) r.node) (sym (who-app app c.who (f c refl))))) in
      settled-by (files_told t) t c (node_given (walk_on_node t c r) given) (on-given (files_told t) P (walk_on_node t c r) (moment_given given.now) given.listed given.looks (is_tree given.fault) l.looks on) e

  -- the application makes the entry
  maker-app : (n : ℕ) (o : Option Connection) → made_by app o (Request.Node r) ≡ true → (c : Connection) → o ≡ Some c → is_app app c.who ≡ true
  maker-app n o h c e = ap (λ (x : Option Connection). made_by app x (Request.Node r)) (sym e) ∙ h

  -- over the connection of a seat
  record OpensAt (n : ℕ) : Type 0 where
    connection : Connection
    here : connection_of s.connections n ≡ Some connection
    by : OpensBy app flags s.rights (naming_on connection r.node) (temp_on connection r.node) (place_named r.node)

  opens-at : (n : ℕ) (given : Given) (o : Option Connection) → mount_of (connection_of s.connections n) ≡ o → OpensOver given o → OpensAt n
  opens-at n given None m h = absurd h
  opens-at n given (Some c) m h = record { connection = c; here = (mount-seat s.connections n (connection_of s.connections n) refl c m).1; by = h }

  step-by : (n : ℕ) (request : Request) (given : Given) → request ≡ Request.Node r → made_by app (connection_of s.connections n) request ≡ true → LawfulGiven s n request given → is_done (request_step s n request given).1.answer ≡ true → OpensAt n
  step-by n request given asked own l done =
      opens-at n given (mount_of (connection_of s.connections n)) refl
      (mount-by given (mount_of (connection_of s.connections n))
      (λ c m. maker-app n (connection_of s.connections n) (ap (made_by app (connection_of s.connections n)) (sym asked) ∙ own) c (mount-seat s.connections n (connection_of s.connections n) refl c m).1)
      (subst (λ (q : Request). LawfulGiven s n q given) asked l)
      (ap (λ (q : Request). is_done (request_step s n q given).1.answer) (sym asked) ∙ done))

-- ---- the law

lost : (had has : Bool) → (had && not has) ≡ true → has ≡ false
lost true true h = cc
lost true false h = refl
lost false has h = cc

pub opened : NoOpenAfterARevocation
opened s before earlier between opening rest app r flags l o =
    let ahead = run s before in
    let here = Legal-rest before (earlier ∷ (between ++ opening ∷ rest)) s l in
    let then : Legal (after ahead earlier) (between ++ opening ∷ rest) = Legal-rest (earlier ∷ []) (between ++ opening ∷ rest) ahead here in
    let front = Legal-front between (opening ∷ rest) (after ahead earlier) then in
    let now = run (after ahead earlier) between in
    let last : Legal now (opening ∷ rest) = Legal-rest between (opening ∷ rest) (after ahead earlier) then in
    let opens = step-by app now r flags o.op opening.seat opening.request opening.given o.asked o.own last.lawful.0.given o.done in
    let by = opens.by in
    let again : (right : Right) → app_has now.rights app by.number right ≡ true → (app_has ahead.rights app by.number right && not (app_has (after ahead earlier).rights app by.number right)) ≡ true → is_given_in app by.number right (after ahead earlier) between ≡ true =
    λ right has loses. told.given app by.number right (after ahead earlier) between front (lost (app_has ahead.rights app by.number right) (app_has (after ahead earlier).rights app by.number right) loses) has in
    record {
      number = by.number;
      connection = opens.connection;
      here = opens.here;
      place = by.place;
      read = again Read by.may_read;
      write = λ writes. again Write (by.may_write writes);
      may_read = by.may_read;
      may_write = by.may_write;
    }
