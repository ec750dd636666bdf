-- What is seen at a place, over the lists of a book, and the entries with which it is opened.
use Rattle.std.proofs.Common.{◌≡◌, ℕ, ◌==◌, List, [], ◌++◌, Bool, true, false, cond, Option, Some, None, refl, sym, ap, subst, ◌∙◌, arith}
use Rattle.std.specs.Option.{option_map}
use Rattle.std.proofs.lemmas.Bool.Decides.{nat_tests}
use Rattle.std.proofs.lemmas.List.{append-nil}
use Rattle.portal_base.specs.declared.files.Look.{Look}
use Rattle.portal_base.specs.declared.names.doc_id.DocId.{DocId}
use Rattle.portal_base.specs.declared.who.Who.{Who}
use Rattle.portal_model.specs.declared.place.Place.{Place}
use Rattle.portal_model.specs.declared.reply.DirName.{DirName}
use Rattle.portal_model.specs.declared.rights.Right.TheVariants.{Write}
use Rattle.portal_model.specs.declared.state.Document.{Document}
use Rattle.portal_model.specs.declared.state.Triple.{Triple}
use Rattle.portal_model.specs.Errno.{emfile}
use Rattle.portal_model.specs.NodeVerdict.{errs}
use Rattle.portal_model.specs.OpenDir.{names_of_look, open_found, with_dots}
use Rattle.portal_model.specs.Place.{FolderOf, Sight, file_node, folder_node, may_read, node_of, root_node, seen_by, sight_at_path, sight_of_document, sight_of_naming, sight_of_own_temp, sight_of_place, sight_of_root, subject_of}
use Rattle.portal_model.specs.State.{State, document_of, who_has}
use Rattle.portal_model.specs.Walk.{Answers}
use Rattle.portal_model.proofs.ListLookups.{found_passes}
use Rattle.app_view.specs.Books.{Lends, readable, who_is}
use Rattle.app_view.specs.Entries.{AreOpened, behind_look, opened_with}
use Rattle.app_view.specs.Places.{IsFolder}
use Rattle.app_view.specs.declared.book.Subject.{Subject}
use Rattle.app_view.specs.Sights.{folder_sight}
use Rattle.app_view.specs.declared.book.ViewBook.{ViewBook}
use Rattle.app_view.specs.declared.sight.SeenDocument.{SeenDocument}

-- a state with the lists of a book, and nothing else
abbrev state_of : ViewBook → State
state_of b = record {
  limits = record { documents = 0; made = 0; history = 0; handles = 0; queued = 0; file_bytes = 0 };
  documents = b.documents.now.live;
  made = [];
  rights = b.grants.now;
  applications = b.applications.now;
  connections = [];
  handles = [];
  told = false;
  files = [];
  hidden = [];
  taken = [];
  entries = [];
}

lent : (b : ViewBook) → Lends b (state_of b)
lent b = record { documents = refl; rights = refl; applications = refl }

abbrev pub IsSeenFolder : ViewBook → Who → Place → Type 0
IsSeenFolder b caller place = (s : State) → Lends b s → IsFolder (sight_of_place s caller None None place)

at : (b : ViewBook) (caller : Who) (place q : Place) → place ≡ q → IsSeenFolder b caller place → IsFolder (sight_of_place (state_of b) caller None None q)
at b caller place q p h = subst (λ (x : Place). IsFolder (sight_of_place (state_of b) caller None None x)) p (h (state_of b) (lent b))

-- ---- where a folder is seen

pub root-there : (b : ViewBook) (caller : Who) (place : Place) (view : ℕ) (subject : Option Subject) → place ≡ Place.Root view → subject ≡ None →
    option_map who_is subject ≡ subject_of b.applications.now caller view → IsSeenFolder b caller place → ⊥
root-there b caller place view subject p n e h =
    let none : subject_of b.applications.now caller view ≡ None = sym e ∙ ap (option_map who_is) n in
    subst (λ (o : Option Who). IsFolder (seen_by o (sight_of_root (state_of b) caller view))) none (at b caller place (Place.Root view) p h)

pub document-there : (b : ViewBook) (caller : Who) (place : Place) (view : ℕ) (id : DocId) (seen : Option SeenDocument) → place ≡ Place.Folder view id → seen ≡ None →
    ((s : State) → Lends b s → sight_of_place s caller None None (Place.Folder view id) ≡ option_map (folder_sight view) seen) → IsSeenFolder b caller place → ⊥
document-there b caller place view id seen p n e h =
    let none : sight_of_place (state_of b) caller None None (Place.Folder view id) ≡ None = e (state_of b) (lent b) ∙ ap (option_map (folder_sight view)) n in
    subst (λ (o : Option Sight). IsFolder o) none (at b caller place (Place.Folder view id) p h)

-- ---- a file is none

file-no-folder : (view : ℕ) (rights : List Triple) (who : Who) (o : Option Document) → IsFolder (sight_of_document view rights who o) → ⊥
file-no-folder view rights who None h = h
file-no-folder view rights who (Some d) h = step (may_read rights who d) d.folder (who_has rights who d.id.number Write) h
  where
    step : (b f w : Bool) → IsFolder (cond b (Some (sight_at_path view d f w)) None) → ⊥
    step true true w h = h
    step true false w h = h
    step false f w h = h

file-not-seen : (view number : ℕ) (documents : List Document) (rights : List Triple) (subject : Option Who) →
    IsFolder (seen_by subject (λ who. sight_of_document view rights who (document_of documents number))) → ⊥
file-not-seen view number documents rights None h = h
file-not-seen view number documents rights (Some who) h = file-no-folder view rights who (document_of documents number) h

pub no-file : (b : ViewBook) (caller : Who) (place : Place) (view : ℕ) (id : DocId) → place ≡ Place.File view id → IsSeenFolder b caller place → ⊥
no-file b caller place view id p h =
    file-not-seen view id.number b.documents.now.live b.grants.now (subject_of b.applications.now caller view) (at b caller place (Place.File view id) p h)

-- ---- what is named below one is none, but by a look

naming-not-seen : (b : ViewBook) (view : ℕ) (subject : Option Who) → IsFolder (seen_by subject (λ who. sight_of_naming (state_of b) view who None)) → ⊥
naming-not-seen b view None h = h
naming-not-seen b view (Some who) h = h

pub no-naming : (b : ViewBook) (caller : Who) (place : Place) (view k : ℕ) → place ≡ Place.Named view k → IsSeenFolder b caller place → ⊥
no-naming b caller place view k p h =
    naming-not-seen b view (subject_of b.applications.now caller view) (at b caller place (Place.Named view k) p h)

-- ---- nor is a temporary

temp-not-seen : (b : ViewBook) (view : ℕ) (subject : Option Who) → IsFolder (seen_by subject (λ who. sight_of_own_temp (state_of b) view who None)) → ⊥
temp-not-seen b view None h = h
temp-not-seen b view (Some who) h = h

pub no-temp : (b : ViewBook) (caller : Who) (place : Place) (view k : ℕ) → place ≡ Place.Temporary view k → IsSeenFolder b caller place → ⊥
no-temp b caller place view k p h =
    temp-not-seen b view (subject_of b.applications.now caller view) (at b caller place (Place.Temporary view k) p h)

-- ---- how the folder of a document is opened

abbrev pub entries_in : ℕ → Look → Document → List DirName
entries_in view look d = with_dots (folder_node view d.id.number) (root_node view) (names_of_look (file_node view d.id.number) d look)

readable-found : (rights : List Triple) (who : Who) (d : Document) (o : Option Document) → readable rights who o ≡ Some d → o ≡ Some d
readable-found rights who d None e = cc
readable-found rights who d (Some x) e = step (may_read rights who x) e
  where
    step : (b : Bool) → cond b (Some x) None ≡ Some d → Some x ≡ Some d
    step true e = e
    step false e = cc

number-is : (a b : ℕ) → (a == b) ≡ true → a ≡ b
number-is a b h = grind (arith, nat_tests)

pub readable-number : (rights : List Triple) (who : Who) (d : Document) (documents : List Document) (number : ℕ) → Some d ≡ readable rights who (document_of documents number) → d.id.number ≡ number
readable-number rights who d documents number e =
    number-is d.id.number number (found_passes (λ (x : Document). x.id.number == number) documents d (readable-found rights who d (document_of documents number) (sym e)))

pub folder-opened : (b : ViewBook) (caller : Who) (place : Place) (view : ℕ) (id : DocId) (look : Look) (names : List DirName) (d : SeenDocument) → place ≡ Place.Folder view id →
    ((s : State) → Lends b s → sight_of_place s caller None None (Place.Folder view id) ≡ Some (folder_sight view d)) → d.document.now.id.number ≡ id.number →
    names ≡ entries_in view look d.document.now → (s : State) → Lends b s → AreOpened (sight_of_place s caller None None place) (node_of place) look names
folder-opened b caller place view id look names d p e n m s l =
    subst (λ (q : Place). AreOpened (sight_of_place s caller None None q) (node_of q) look names) (sym p)
    (subst (λ (o : Option Sight). AreOpened o (folder_node view id.number) look names) (sym (e s l))
    (λ r room k f.
    let x : Document = d.document.now in
    let own : List DirName = names_of_look (file_node view x.id.number) x look in
    let all : with_dots r.node (root_node view) (own ++ []) ≡ names =
    ap (with_dots r.node (root_node view)) (append-nil own)
    ∙ (ap (λ (j : ℕ). with_dots j (root_node view) own) (k ∙ ap (folder_node view) (sym n)) ∙ sym m) in
    ap (λ (full : Bool). behind_look look (cond full (errs emfile) (open_found r room [] (FolderOf view x d.may_write)))) f
    ∙ ap (λ (es : List DirName). Answers (opened_with r room es)) all))
