-- What the tables that are lent have of a connection, and how a request changes the files by it.
use Rattle.std.proofs.Common.{◌≡◌, ◌==◌, ◌||◌, ◌&&◌, ℕ, List, [], ◌∷◌, Bool, true, false, not, cond, Option, Some, None, option_map, length, refl, sym, ap, ◌∙◌}
use Rattle.std.specs.Prelude.{unwrap_or}
use Rattle.file_generations.specs.Generations.{Held}
use Rattle.portal_base.specs.Names.{is_same, name_of}
use Rattle.portal_base.specs.declared.files.FileName.{FileName}
use Rattle.portal_base.specs.declared.who.Who.{Who}
use Rattle.portal_model.specs.declared.entry.Given.{Given}
use Rattle.portal_model.specs.declared.naming.Naming.{Naming}
use Rattle.portal_model.specs.declared.request.NodeOp.{NodeOp}
use Rattle.portal_model.specs.declared.request.NodeRequest.{NodeRequest}
use Rattle.portal_model.specs.declared.state.Connection.{Connection}
use Rattle.portal_model.specs.declared.state.Document.{Document}
use Rattle.portal_model.specs.declared.temporary.OwnTemp.{OwnTemp}
use Rattle.portal_model.specs.declared.temporary.Temp.{Temp}
use Rattle.portal_model.specs.Bus.{moment_given}
use Rattle.portal_model.specs.NodeVerdict.{FileChange, FilesStay, Stands, Writes}
use Rattle.portal_model.specs.Place.{Sight, id_of_node, place_of}
use Rattle.portal_model.specs.SeatNames.{found_temp, naming_of, temp_of}
use Rattle.portal_model.specs.State.{State}
use Rattle.portal_model.proofs.ListLookups.{is_same-eq, is_same-refl}
use Rattle.folder_documents.specs.Named.{Named, naming_at, named_on}
use Rattle.open_handles.specs.Opened.{handle_of as handle_in, opened_on}
use Rattle.save_files.proofs.Owned.{temp-owned}
use Rattle.save_files.specs.Own.{Own, own_on, owned}
use Rattle.save_files.specs.Own as own
use Rattle.trace_items.specs.declared.lent.Lent.{Lent}
use Rattle.trace_items.specs.Awaited.{namings_on, temps_on}
use Rattle.trace_items.specs.FilesChanged.{document_of_folder, file_change, news_of, renamed, stands, told_alone, view_of_folder}

-- ---- what a connection has by the number of a node

namings-are : (xs ys : List Naming) → Some xs ≡ Some ys → xs ≡ ys
namings-are xs ys e = cc

temps-are : (xs ys : List OwnTemp) → Some xs ≡ Some ys → xs ≡ ys
temps-are xs ys e = cc

naming-lent : (o : Option Named) (has : List Naming) (k : ℕ) → option_map (λ n. n.namings) o ≡ Some has → naming_at o k ≡ naming_of has k
naming-lent None has k e = absurd (cc)
naming-lent (Some n) has k e = ap (λ (xs : List Naming). naming_of xs k) (namings-are n.namings has e)

temp-lent : (o : Option Own) (mine : List OwnTemp) (k : ℕ) → option_map (λ x. owned x.temps) o ≡ Some mine → own.temp_of o k ≡ temp_of mine k
temp-lent None mine k e = absurd (cc)
temp-lent (Some o) mine k e = sym (temp-owned k o.temps) ∙ ap (λ (ts : List OwnTemp). temp_of ts k) (temps-are (owned o.temps) mine e)

pub place-lent : (lent : Lent) (s : State) (who : Who) (node seat k m : ℕ) (naming : Option Naming) (temp : Option Temp) (has : List Naming) (mine : List OwnTemp) → k ≡ id_of_node node → m ≡ id_of_node node →
    naming ≡ naming_at (named_on lent.namings.now seat) k → temp ≡ own.temp_of (own_on lent.temps.now.seats seat) m → namings_on lent.namings.now seat ≡ Some has → temps_on lent.temps.now.seats seat ≡ Some mine →
    place_of s who naming temp node ≡ place_of s who (naming_of has (id_of_node node)) (temp_of mine (id_of_node node)) node
place-lent lent s who node seat k m naming temp has mine e f n t h o =
    let a : naming ≡ naming_of has (id_of_node node) = n ∙ (naming-lent (named_on lent.namings.now seat) has k h ∙ ap (naming_of has) e) in
    let b : temp ≡ temp_of mine (id_of_node node) = t ∙ (temp-lent (own_on lent.temps.now.seats seat) mine m o ∙ ap (temp_of mine) f) in
    λ i. place_of s who (a i) (b i) node

pub moment-lent : (now : Option ℕ) → unwrap_or now 0 ≡ moment_given now
moment-lent None = refl
moment-lent (Some now) = refl

-- the change by a request over a connection that has this by these tables
abbrev pub change_here : Lent → State → Connection → NodeRequest → Given → List Naming → List OwnTemp → NodeOp → FileChange
change_here lent s d r given has mine op = file_change (record {
  sight = place_of s d.who (naming_of has (id_of_node r.node)) (temp_of mine (id_of_node r.node)) r.node;
  handle = handle_in (opened_on lent.handles.now.seats d.seat);
  temps = mine;
  looks = given.looks;
  now = moment_given given.now;
  generation = given.generation;
}) op

-- ---- a temporary that gets the document's own name

abbrev pub turns : Option Temp → FileChange
turns None = FilesStay
turns (Some t) = Stands t.file

turns-found : (o : Option OwnTemp) → turns (option_map (λ (t : OwnTemp). t.temp) o) ≡ stands o
turns-found None = refl
turns-found (Some t) = refl

pub renamed-to : (old new : List ℕ) (mine : List OwnTemp) (sight : Option Sight) (d : Document) (view : ℕ) (called : Option Temp) → Some d ≡ document_of_folder sight → view ≡ view_of_folder sight → is_same new (name_of d.path) ≡ true →
    called ≡ option_map (λ (t : OwnTemp). t.temp) (found_temp mine view d.id old) → turns called ≡ renamed old new mine (view_of_folder sight) (document_of_folder sight)
renamed-to old new mine sight d view called e v h f =
    ap turns f
    ∙ (turns-found (found_temp mine view d.id old)
    ∙ (ap (λ (b : Bool). cond b (stands (found_temp mine view d.id old)) FilesStay) (sym h)
    ∙ (λ i. renamed old new mine (v i) (e i))))

-- it is that name
pub same-name : (r new named : List ℕ) (differ : Bool) → differ ≡ not (is_same r new) → differ ≡ false → r ≡ named → is_same new named ≡ true
same-name r new named differ e f g =
    let same : r ≡ new = is_same-eq r new (by (is_same r new) (sym e ∙ f)) in
    ap (is_same new) (sym g ∙ same) ∙ is_same-refl new
  where
    by : (b : Bool) → not b ≡ false → b ≡ true
    by true h = refl
    by false h = cc

-- ---- which files a view has

module _ (names n present st known t : Bool) where
  pub by-name : n ≡ true → n ≡ names → n ≡ (names || (present && known))
  by-name e f = e ∙ sym (ap (λ (b : Bool). b || (present && known)) (sym f ∙ e))

  pub by-place : n ≡ false → n ≡ names → st ≡ true → st ≡ present → t ≡ known → t ≡ (names || (present && known))
  by-place e f g h k =
      k ∙ (sym (ap (λ (b : Bool). b && known) (sym h ∙ g)) ∙ sym (ap (λ (b : Bool). b || (present && known)) (sym f ∙ e)))

  pub by-neither : n ≡ false → n ≡ names → st ≡ false → st ≡ present → false ≡ (names || (present && known))
  by-neither e f g h =
      sym (ap (λ (b : Bool). b && known) (sym h ∙ g)) ∙ sym (ap (λ (b : Bool). b || (present && known)) (sym f ∙ e))

-- ---- what is told of a write

pub news-written : (name : FileName) (offset : ℕ) (content : List ℕ) (now : ℕ) (after : Held) → (length content == 0) ≡ false → told_alone name after ≡ news_of (Writes name offset content now) after
news-written name offset [] now after h = absurd (cc)
news-written name offset (b ∷ bs) now after h = refl
