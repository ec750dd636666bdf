-- A request that is done, by what the connections have named and by their temporaries.
use Rattle.std.proofs.Common.{◌≡◌, ◌==◌, ℕ, nat_lt, List, Bool, true, false, not, Option, Some, None, IfSome, is_some, refl, sym, ap, subst, arith, ◌∙◌}
use Rattle.std.proofs.lemmas.Bool.Decides.{nat_tests}
use Rattle.std.specs.Option.{option_map}
use Rattle.portal_base.specs.declared.who.Who.{Who}
use Rattle.host_tree.specs.Trees.{TreeIs}
use Rattle.open_handles.specs.Opened.{HandleTable}
use Rattle.folder_documents.specs.Named.{Named, named_on}
use Rattle.portal_model.specs.declared.naming.Naming.{Naming}
use Rattle.portal_model.specs.declared.request.NodeOp.{NodeOp}
use Rattle.portal_model.specs.declared.state.Connection.{Connection}
use Rattle.portal_model.specs.declared.temporary.Temp.{Temp}
use Rattle.portal_model.specs.Bus.{is_tree, moment_given}
use Rattle.portal_model.specs.Node.{facts_of, node_answer, node_given, walk_on_node}
use Rattle.portal_model.specs.NodeNumbers.{kind_of_node}
use Rattle.portal_model.specs.NodeVerdict.{NamesStay, NodeVerdict}
use Rattle.portal_model.specs.Place.{Sight, sight_on}
use Rattle.portal_model.specs.State.{State}
use Rattle.save_files.specs.Own.{Own, own_on}
use Rattle.node_looks.specs.Done.{Does, DoesAt, DoesWhere, IsCalled}
use Rattle.node_looks.specs.Served.{HasAt, given_to}
use Rattle.app_view.specs.Books.{Lends}
use Rattle.app_view.specs.declared.book.ViewBook.{ViewBook}
use Rattle.app_view.specs.declared.sight.SeenBelow.{SeenBelow}
use Rattle.node_looks.specs.Sights.{is_below, naming_by, node_seen, sight_of, temp_by}
use Rattle.node_looks.specs.declared.served.ByNumber.{ByNumber}
use Rattle.node_looks.specs.declared.sight.SeenPlace.{SeenPlace}
use Rattle.node_looks.specs.declared.sight.SeenPlace.TheVariants as seen
use Rattle.node_looks.specs.declared.served.FileBook.{FileBook}
use Rattle.node_looks.specs.declared.served.NodeCall.{NodeCall}
use Rattle.node_looks.specs.declared.served.NodeDone.{NodeDone}
use Rattle.node_looks.proofs.Follow.{seen-by-caller}
use Rattle.file_ops.specs.Creates.{is_nowhere}
use Rattle.file_ops.specs.OpenedFolders.{HasTemps}
use Rattle.file_ops.specs.SeatNames.{AreOwn, DoesNaming, IsNamedOn, NamesKept, OwnTables, SeatNamed, namings_on}
use Rattle.file_ops.specs.SeatTemps.{HeldTemps, IsTempOn, held_by, held_of, temps_on}
use Rattle.file_ops.specs.Wanting.{may_be_below}
use Rattle.file_ops.proofs.EachEnd.{each-walked, is_quiet, quiet-names, quiet-temps}
use Rattle.file_ops.proofs.NeverNames.{IsNowhere, IsPlain, IsQuietAt, never-plain}
use Rattle.file_ops.proofs.SettledOwn.{names-same, own-settled, seat-names, seat-temps, temps-same}

-- what a seat that stands in both tables has there
pub known-names : (names : List (ℕ × Named)) (seat : ℕ) → is_some (named_on names seat) ≡ true → (has : List Naming) × (namings_on names seat ≡ Some has)
known-names names seat h = by (named_on names seat) h
  where
    by : (o : Option Named) → is_some o ≡ true → (has : List Naming) × (option_map (λ (n : Named). n.namings) o ≡ Some has)
    by None e = cc
    by (Some n) e = (n.namings, refl)

pub known-temps : (seats : List (ℕ × Own)) (seat : ℕ) → is_some (own_on seats seat) ≡ true → (has : HeldTemps) × (temps_on seats seat ≡ Some has)
known-temps seats seat h = by (own_on seats seat) h
  where
    by : (o : Option Own) → is_some o ≡ true → (has : HeldTemps) × (option_map held_by o ≡ Some has)
    by None e = cc
    by (Some o) e = (held_by o, refl)

pub some-names : (a b : List Naming) → Some a ≡ Some b → a ≡ b
some-names a b e = cc

pub some-temps : (a b : HeldTemps) → Some a ≡ Some b → a ≡ b
some-temps a b e = cc

module _ (book : FileBook) (call : NodeCall) (table : HandleTable) (had : OwnTables) (old : TreeIs) (done : NodeDone) (after : HandleTable) (new : TreeIs) where
  -- the tables stay behind a request that is quiet in the states in which it may be asked
  quiet-own : (s : State) (c : Connection) → IsCalled s c book call table old.told → AreOwn s had → IsQuietAt call.request.now.op (sight_on s c call.request.now.node) → AreOwn (node_answer s c call.request.now (given_to done)).0 had
  quiet-own s c a n q =
      let w = walk_on_node s c call.request.now in
      let v : Option NodeVerdict = node_given w (given_to done) in
      let quiet = each-walked is_quiet w (moment_given done.now) done.listed done.looks (is_tree done.fault) (never-plain call.request.now (facts_of s c call.request.now.node) call.request.now.op q) in
      own-settled s c call.seat call.request.now w done v had had a.here refl refl (names-same call.seat v had.names (quiet-names v quiet)) (temps-same call.seat v had.temps (quiet-temps v quiet)) n

  pub does-plain : ((s : State) (c : Connection) → IsCalled s c book call table old.told → IsQuietAt call.request.now.op (sight_on s c call.request.now.node)) → Does book call table old done after new → DoesNaming book call table had old done after had new
  does-plain plain d = λ s c a n. record { done = d s c a; own = quiet-own s c a n (plain s c a) }

  -- the same where something is known of the connection
  pub where-plain : (Has : State → Connection → Type 0) → ((s : State) (c : Connection) → IsCalled s c book call table old.told → AreOwn s had → Has s c) →
      ((s : State) (c : Connection) → IsCalled s c book call table old.told → AreOwn s had → IsQuietAt call.request.now.op (sight_on s c call.request.now.node)) → DoesWhere Has book call table old done after new → DoesNaming book call table had old done after had new
  where-plain Has has plain d = λ s c a n. record { done = d s c a (has s c a n); own = quiet-own s c a n (plain s c a n) }

  -- what the connection has by the number in the node
  pub has-at : (naming : Option Naming) (temp : Option Temp) → IsNamedOn had.names call naming → IsTempOn had.temps call temp → (s : State) (c : Connection) → IsCalled s c book call table old.told → AreOwn s had → HasAt call.request.now.node naming temp c
  has-at naming temp is of s c a n = record {
    naming_is = sym (is c.namings (seat-names s c call.seat had.names n.named a.here));
    temp_is = sym (of (held_of c) (seat-temps s c call.seat had.temps n.temps a.here));
  }

  -- and all its temporaries
  pub has-temps : (naming : Option Naming) (temp : Option Temp) (has : HeldTemps) → IsNamedOn had.names call naming → IsTempOn had.temps call temp → temps_on had.temps.seats call.seat ≡ Some has → (s : State) (c : Connection) → IsCalled s c book call table old.told → AreOwn s had →
      HasTemps call.request.now.node naming temp has.temps c
  has-temps naming temp has is of e s c a n = record {
    at = has-at naming temp is of s c a n;
    temps_are = ap (λ (x : HeldTemps). x.temps) (some-temps (held_of c) has (sym (seat-temps s c call.seat had.temps n.temps a.here) ∙ e));
  }

  -- requests of kinds that are quiet wherever they are asked
  pub does-other : (kind : NodeOp) → call.request.now.op ≡ kind → ((sight : Option Sight) → IsQuietAt kind sight) → Does book call table old done after new → DoesNaming book call table had old done after had new
  does-other kind e quiet d = does-plain (λ s c a. subst (λ (op : NodeOp). IsQuietAt op (sight_on s c call.request.now.node)) (sym e) (quiet (sight_on s c call.request.now.node))) d

  pub where-other : (kind : NodeOp) → call.request.now.op ≡ kind → ((sight : Option Sight) → IsQuietAt kind sight) → (Has : State → Connection → Type 0) → ((s : State) (c : Connection) → IsCalled s c book call table old.told → AreOwn s had → Has s c) →
      DoesWhere Has book call table old done after new → DoesNaming book call table had old done after had new
  where-other kind e quiet Has has d = where-plain Has has (λ s c a n. subst (λ (op : NodeOp). IsQuietAt op (sight_on s c call.request.now.node)) (sym e) (quiet (sight_on s c call.request.now.node))) d

  pub at-other : (kind : NodeOp) → call.request.now.op ≡ kind → ((sight : Option Sight) → IsQuietAt kind sight) → (naming : Option Naming) (temp : Option Temp) → IsNamedOn had.names call naming → IsTempOn had.temps call temp →
      DoesAt naming temp book call table old done after new → DoesNaming book call table had old done after had new
  at-other kind e quiet naming temp is of d = where-other kind e quiet (λ s. HasAt call.request.now.node naming temp) (has-at naming temp is of) d

  -- what the connection sees at the node
  pub sees-so : (own : ByNumber) (place : Option SeenPlace) → IsNamedOn had.names call (naming_by own) → IsTempOn had.temps call (temp_by own) → ((s : State) → Lends book.view s → node_seen s call.who.now own call.request.now.node ≡ option_map (sight_of book.view call.who.now) place) →
      (s : State) (c : Connection) → IsCalled s c book call table old.told → AreOwn s had → sight_on s c call.request.now.node ≡ option_map (sight_of book.view call.who.now) place
  sees-so own place is of sight s c a n =
      let h = has-at (naming_by own) (temp_by own) is of s c a n in
      seen-by-caller s c call.who.now call.request.now.node (naming_by own) (temp_by own) a.caller h.naming_is h.temp_is ∙ sight s a.lists

-- what no look tells is plain
plain-seen : (b : ViewBook) (who : Who) (o : Option SeenPlace) → IfSome o (λ seen. is_below seen ≡ false) → IsPlain (option_map (sight_of b who) o)
plain-seen b who None h = tt
plain-seen b who (Some (SeenPlace.File view seen)) h = tt
plain-seen b who (Some (SeenPlace.Below view below)) h = cc
plain-seen b who (Some (SeenPlace.Temporary view temp)) h = tt
plain-seen b who (Some (SeenPlace.Folder view seen)) h = tt
plain-seen b who (Some (SeenPlace.Root view subject)) h = tt
plain-seen b who (Some SeenPlace.Views) h = tt

-- and where no file can be made
nowhere-seen : (b : ViewBook) (who : Who) (o : Option SeenPlace) → IfSome o (λ seen. is_nowhere seen ≡ true) → IsNowhere (option_map (sight_of b who) o)
nowhere-seen b who None h = tt
nowhere-seen b who (Some (SeenPlace.File view seen)) h = tt
nowhere-seen b who (Some (SeenPlace.Below view below)) h = cc
nowhere-seen b who (Some (SeenPlace.Temporary view temp)) h = tt
nowhere-seen b who (Some (SeenPlace.Folder view seen)) h = cc
nowhere-seen b who (Some (SeenPlace.Root view subject)) h = tt
nowhere-seen b who (Some SeenPlace.Views) h = tt

-- a LOOKUP at a place that isn't at or below a folder that is a document
pub looks-up-quietly : (b : ViewBook) (who : Who) (place : Option SeenPlace) (sight : Option Sight) (op : NodeOp) (name : List ℕ) → op ≡ NodeOp.Lookup name → sight ≡ option_map (sight_of b who) place → IfSome place (λ there. is_below there ≡ false) → IsQuietAt op sight
looks-up-quietly b who place sight op name e s plain =
    subst (λ (o : NodeOp). IsQuietAt o sight) (sym e) (subst IsPlain (sym s) (plain-seen b who place plain))

-- a CREATE where no file can be made
pub makes-quietly : (b : ViewBook) (who : Who) (place : Option SeenPlace) (sight : Option Sight) (op : NodeOp) (name : List ℕ) (flags : ℕ) → op ≡ NodeOp.Create name flags → sight ≡ option_map (sight_of b who) place → IfSome place (λ there. is_nowhere there ≡ true) → IsQuietAt op sight
makes-quietly b who place sight op name flags e s none =
    subst (λ (o : NodeOp). IsQuietAt o sight) (sym e) (subst IsNowhere (sym s) (nowhere-seen b who place none))

-- nothing more is named
pub still-named : (seat : ℕ) (old new : List (ℕ × Named)) → SeatNamed seat NamesStay old new → NamesKept old new
still-named seat old new h other = by (seat == other) refl
  where
    same : (o : Option (List Naming)) → option_map (λ (x : List Naming). x) o ≡ o
    same None = refl
    same (Some x) = refl

    by : (b : Bool) → (seat == other) ≡ b → namings_on new other ≡ namings_on old other
    by true e =
        let is : seat ≡ other = grind (arith, nat_tests) in
        subst (λ (n : ℕ). namings_on new n ≡ namings_on old n) is (h.there ∙ same (namings_on old seat))
    by false e = h.elsewhere other e

-- at a node of a root, of the folder of all views or of a document's folder nothing is below
always : (b : Bool) → not b ≡ false → b ≡ true
always true e = refl
always false e = cc

pub not-below : (node : ℕ) (o : Option SeenPlace) (view : ℕ) (below : SeenBelow) → o ≡ Some (seen.Below view below) → IfSome o (λ seen. nat_lt (kind_of_node node) 2 ≡ true → is_below seen ≡ false) → may_be_below node ≡ false → ⊥
not-below node o view below e p m =
    let there : true ≡ false = subst (λ (x : Option SeenPlace). IfSome x (λ seen. nat_lt (kind_of_node node) 2 ≡ true → is_below seen ≡ false)) e p (always (nat_lt (kind_of_node node) 2) m) in
    cc
