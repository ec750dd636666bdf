-- How the answer to a request follows its walk, and serves the request.
use Rattle.std.proofs.Common.{◌≡◌, ◌&&◌, ℕ, List, [], ◌∷◌, length, Bool, true, false, not, cond, Option, Some, None, refl, sym, ap, subst, ◌∙◌, arith}
use Rattle.std.specs.List.{list_all, slice_set}
use Rattle.std.specs.Option.{option_map}
use Rattle.portal_base.specs.declared.files.FileName.{FileName}
use Rattle.portal_base.specs.declared.files.Look.{Look}
use Rattle.portal_base.specs.declared.who.Who.{Who}
use Rattle.host_tree.specs.Trees.{TreeIs}
use Rattle.host_tree.specs.declared.tree.LookAnswer.{LookAnswer}
use Rattle.host_tree.specs.declared.tree.LookAnswer.TheVariants as look
use Rattle.portal_model.specs.declared.entry.Fault.{Fault}
use Rattle.portal_model.specs.declared.reply.Attr.{Attr}
use Rattle.portal_model.specs.declared.reply.NodeAnswer.TheVariants as NodeAnswer
use Rattle.portal_model.specs.declared.naming.Naming.{Naming}
use Rattle.portal_model.specs.declared.request.NodeOp.{NodeOp}
use Rattle.portal_model.specs.declared.request.NodeRequest.{NodeRequest}
use Rattle.portal_model.specs.declared.state.Connection.{Connection}
use Rattle.portal_model.specs.declared.state.Document.{Document}
use Rattle.portal_model.specs.declared.temporary.OwnTemp.{OwnTemp}
use Rattle.portal_model.specs.declared.temporary.Temp.{Temp}
use Rattle.portal_model.specs.Access.{access}
use Rattle.portal_model.specs.Attributes.{attr_of_folder, is_writable, on_node}
use Rattle.portal_model.specs.Bus.{is_tree}
use Rattle.portal_model.specs.Errno.{enoent}
use Rattle.portal_model.specs.Lookup.{entry_of_file, found_document, found_folder, found_own, lookup}
use Rattle.portal_model.specs.Node.{facts_of, node_walk, settled_on_node, walk_on_node}
use Rattle.portal_model.specs.NodeVerdict.{NodeVerdict, OnFile, Spot, at_name, by_place, errs, told}
use Rattle.portal_model.specs.Outside.{files_told}
use Rattle.portal_model.specs.Place.{Folder, Sight, SightOfFolder, naming_on, place_of, temp_node, temp_on}
use Rattle.portal_model.specs.State.{State}
use Rattle.portal_model.specs.Valid.{has_identifier}
use Rattle.portal_model.specs.Walk.{AtPath, Gives, GivesNames, Looks, Walk, generation_reached, reads_clock, walked}
use Rattle.app_view.specs.Books.{Lends}
use Rattle.app_view.specs.declared.book.ViewBook.{ViewBook}
use Rattle.node_looks.specs.OwnFiles.{HasFound, IsFoundAt, file_held}
use Rattle.node_looks.specs.Served.{Tells, TellsWhere, Told}
use Rattle.node_looks.specs.Sights.{sight_of}
use Rattle.node_looks.specs.TreeCalls.{Calling, calls_of}
use Rattle.node_looks.specs.Walks.{Follows, fault_of, taken}
use Rattle.node_looks.specs.declared.asked.Asked.{Asked}
use Rattle.node_looks.specs.declared.entry.OwnFile.{OwnFile}
use Rattle.node_looks.specs.declared.served.NodeDone.{NodeDone}
use Rattle.node_looks.specs.declared.sight.SeenPlace.{SeenPlace}

-- ---- the room for a look

pub set-one : (xs : List Look) (x : Look) → length xs ≡ 1 → slice_set xs 0 x ≡ x ∷ []
set-one [] x e = absurd (omega (arith, e))
set-one (y ∷ []) x e = refl
set-one (y ∷ z ∷ zs) x e = absurd (omega (arith, e))

-- ---- parts of a walk

pub chosen : (b r : Bool) (x y : Walk NodeVerdict) (old : TreeIs) (asked : Asked) (new : TreeIs) → r ≡ b → r ≡ true → Follows x old asked new → Follows (cond b x y) old asked new
chosen b r x y old asked new e t f = subst (λ (c : Bool). Follows (cond c x y) old asked new) (sym t ∙ e) f

pub not-chosen : (b r : Bool) (x y : Walk NodeVerdict) (old : TreeIs) (asked : Asked) (new : TreeIs) → r ≡ b → r ≡ false → Follows y old asked new → Follows (cond b x y) old asked new
not-chosen b r x y old asked new e t f = subst (λ (c : Bool). Follows (cond c x y) old asked new) (sym t ∙ e) f

pub nothing-there : (sight : Option Sight) (o : Option SeenPlace) (b : ViewBook) (who : Who) (file : Spot → OnFile) (folder : Folder → Walk NodeVerdict) (old : TreeIs) (asked : Asked) (new : TreeIs) →
    sight ≡ option_map (sight_of b who) o → o ≡ None → Follows (errs enoent) old asked new → Follows (by_place sight file folder) old asked new
nothing-there sight o b who file folder old asked new e n f =
    subst (λ (x : Option Sight). Follows (by_place x file folder) old asked new) (sym (e ∙ ap (option_map (sight_of b who)) n)) f

pub something-there : (sight : Option Sight) (o : Option SeenPlace) (place : SeenPlace) (b : ViewBook) (who : Who) (file : Spot → OnFile) (folder : Folder → Walk NodeVerdict) (old : TreeIs) (asked : Asked) (new : TreeIs) →
    sight ≡ option_map (sight_of b who) o → o ≡ Some place → Follows (by_place (Some (sight_of b who place)) file folder) old asked new → Follows (by_place sight file folder) old asked new
something-there sight o place b who file folder old asked new e n f =
    subst (λ (x : Option Sight). Follows (by_place x file folder) old asked new) (sym (e ∙ ap (option_map (sight_of b who)) n)) f

pub at-place : (p q : SeenPlace) (b : ViewBook) (who : Who) (file : Spot → OnFile) (folder : Folder → Walk NodeVerdict) (old : TreeIs) (asked : Asked) (new : TreeIs) →
    p ≡ q → Follows (by_place (Some (sight_of b who q)) file folder) old asked new → Follows (by_place (Some (sight_of b who p)) file folder) old asked new
at-place p q b who file folder old asked new e f = subst (λ (x : SeenPlace). Follows (by_place (Some (sight_of b who x)) file folder) old asked new) (sym e) f

-- a folder is answered the same, whichever it is
pub at-folder : (p q : SeenPlace) (b : ViewBook) (who : Who) (file : Spot → OnFile) (folder : Folder → Walk NodeVerdict) (old : TreeIs) (asked : Asked) → p ≡ q → (f : Folder) → sight_of b who q ≡ SightOfFolder f → is_writable f ≡ false →
    ((x : Folder) → is_writable x ≡ false → Follows (folder x) old asked old) → Follows (by_place (Some (sight_of b who p)) file folder) old asked old
at-folder p q b who file folder old asked e f s w g =
    subst (λ (x : Sight). Follows (by_place (Some x) file folder) old asked old) (sym (ap (sight_of b who) e ∙ s)) (g f w)

pub entered : (r : NodeRequest) (d : Document) (n m : ℕ) (w : Bool) (old : TreeIs) (asked : Asked) (new : TreeIs) → n ≡ m → Follows (Looks (AtPath d.path) (found_document r n d w)) old asked new → Follows (Looks (AtPath d.path) (found_document r m d w)) old asked new
entered r d n m w old asked new e f = subst (λ (k : ℕ). Follows (Looks (AtPath d.path) (found_document r k d w)) old asked new) e f

-- ---- a temporary of a name, as it is told

pub found-none : (r : NodeRequest) (view : ℕ) (may_write : Bool) (temp : Option OwnTemp) (old : TreeIs) (asked : Asked) (new : TreeIs) → None ≡ option_map file_held temp → Follows (errs enoent) old asked new → Follows (found_own r view may_write temp) old asked new
found-none r view may_write None old asked new e f = f
found-none r view may_write (Some t) old asked new e f = absurd (cc)

pub found-one : (r : NodeRequest) (view : ℕ) (may_write : Bool) (k : ℕ) (file : FileName) (temp : Option OwnTemp) (node : ℕ) (old : TreeIs) (asked : Asked) (new : TreeIs) → Some (k, file) ≡ option_map file_held temp → node ≡ temp_node view k →
    Follows (at_name file (entry_of_file r node may_write)) old asked new → Follows (found_own r view may_write temp) old asked new
found-one r view may_write k file None node old asked new e n f = absurd (cc)
found-one r view may_write k file (Some t) node old asked new e n f =
    let same : (k, file) ≡ file_held t = cc in
    subst (λ (p : ℕ × FileName). Follows (at_name p.1 (entry_of_file r (temp_node view p.0) may_write)) old asked new) same
    (subst (λ (m : ℕ). Follows (at_name file (entry_of_file r m may_write)) old asked new) n f)

-- a folder in which no names are made
pub and-not : (a w : Bool) → w ≡ false → a ≡ (a && not w)
and-not true true e = cc
and-not true false e = refl
and-not false w e = refl

pub no-folder : (r : NodeRequest) (o : Option ℕ) (asked : Asked) → o ≡ None → ((t : TreeIs) → Follows (errs enoent) t asked t) → (t : TreeIs) → Follows (found_folder r o) t asked t
no-folder r o asked e f t = subst (λ (x : Option ℕ). Follows (found_folder r x) t asked t) (sym e) (f t)

pub the-folder : (r : NodeRequest) (o : Option ℕ) (node : ℕ) (a : Attr) (asked : Asked) → o ≡ Some node → a ≡ attr_of_folder (on_node r node) false → ((t : TreeIs) → Follows (told (NodeAnswer.Entry a)) t asked t) → (t : TreeIs) → Follows (found_folder r o) t asked t
the-folder r o node a asked e s f t =
    subst (λ (x : Option ℕ). Follows (found_folder r x) t asked t) (sym e) (subst (λ (y : Attr). Follows (told (NodeAnswer.Entry y)) t asked t) s (f t))

pub same-folder : (r : NodeRequest) (n m : Option ℕ) (asked : Asked) → n ≡ m → ((t : TreeIs) → Follows (found_folder r n) t asked t) → (t : TreeIs) → Follows (found_folder r m) t asked t
same-folder r n m asked e f t = subst (λ (x : Option ℕ). Follows (found_folder r x) t asked t) e (f t)

-- ---- the request

pub not-kept : (answer : Option LookAnswer) → fault_of answer ≡ Fault.Keeper → ⊥
not-kept None e = cc
not-kept (Some (look.Is shown)) e = cc
not-kept (Some look.Failed) e = cc

abbrev pub done_with : Asked → NodeDone
done_with asked = record { answer = asked.answer; looks = taken asked.look; listed = None; now = None; generation = None; fault = fault_of asked.look }

pub follows-serves : (s : State) (c : Connection) (r : NodeRequest) (w : Walk NodeVerdict) (old : TreeIs) (asked : Asked) (new : TreeIs) → walk_on_node s c r ≡ w → files_told s ≡ old.told → Follows w old asked new →
    Told s c r old (done_with asked) new
follows-serves s c r w old asked new e t f = record {
  serves = record {
    lawful = record {
      looks = subst (λ (x : Walk NodeVerdict). Gives (files_told s) x (taken asked.look) (is_tree (fault_of asked.look))) (sym e)
          (subst (λ x. Gives x w (taken asked.look) (is_tree (fault_of asked.look))) (sym t) f.gives);
      clock = sym (ap (λ (x : Walk NodeVerdict). reads_clock x (taken asked.look)) e ∙ f.clock);
      listed = subst (λ (x : Walk NodeVerdict). GivesNames (files_told s) x (taken asked.look) None (is_tree (fault_of asked.look))) (sym e)
          (subst (λ x. GivesNames x w (taken asked.look) None (is_tree (fault_of asked.look))) (sym t) f.lists);
      generation = sym (ap (λ (x : Walk NodeVerdict). generation_reached x (taken asked.look)) e ∙ f.generation);
      words = refl;
      numbers = refl;
      full = refl;
      keeper = not-kept asked.look;
    };
    step = ap (λ (x : Walk NodeVerdict). settled_on_node s c (walked x 0 (taken asked.look) (is_tree (fault_of asked.look)))) e ∙ f.settles s c;
  };
  calls = subst (λ (x : Walk NodeVerdict). Calling old (calls_of x (taken asked.look) (is_tree (fault_of asked.look))) old.told new) (sym e) f.calls;
}

walk-is : (s : State) (c : Connection) (r : NodeRequest) (op : NodeOp) → r.op ≡ op → walk_on_node s c r ≡ node_walk (facts_of s c r.node) r op
walk-is s c r op e = ap (node_walk (facts_of s c r.node) r) e

-- what the caller sees at the node, by what the connection has there
pub seen-by-caller : (s : State) (c : Connection) (who : Who) (node : ℕ) (naming : Option Naming) (temp : Option Temp) → c.who ≡ who → naming_on c node ≡ naming → temp_on c node ≡ temp →
    place_of s c.who (naming_on c node) (temp_on c node) node ≡ place_of s who naming temp node
seen-by-caller s c who node naming temp w n t = λ i. place_of s (w i) (n i) (t i) node

pub lookup-tells : (b : ViewBook) (who : Who) (r : NodeRequest) (name : List ℕ) (place : Option SeenPlace) (own : Option OwnFile) (old : TreeIs) (asked : Asked) (done : NodeDone) (new : TreeIs) → done ≡ done_with asked →
    ((namings : List Naming) (temps : List OwnTemp) → list_all has_identifier b.documents.now.live ≡ true → IsFoundAt place own name temps → Follows (lookup r namings temps name (option_map (sight_of b who) place)) old asked new) →
    (naming : Option Naming) (temp : Option Temp) → ((s : State) → Lends b s → place_of s who naming temp r.node ≡ option_map (sight_of b who) place) → r.op ≡ NodeOp.Lookup name →
    TellsWhere (HasFound r.node naming temp place own name) b who r old done new
lookup-tells b who r name place own old asked done new e f naming temp seen op = λ s c a h.
    subst (λ (x : NodeDone). Told s c r old x new) (sym e)
    (follows-serves s c r (lookup r c.namings c.temps name (option_map (sight_of b who) place)) old asked new
    (walk-is s c r (NodeOp.Lookup name) op
    ∙ ap (lookup r c.namings c.temps name) (seen-by-caller s c who r.node naming temp a.caller h.at.naming_is h.at.temp_is ∙ seen s a.lists))
    a.files (f c.namings c.temps (ap (λ (ds : List Document). list_all has_identifier ds) (sym a.lists.documents) ∙ a.valid.identifiers) h.found))

pub access-tells : (b : ViewBook) (who : Who) (r : NodeRequest) (mask : ℕ) (naming : Option Naming) (temp : Option Temp) (old : TreeIs) (asked : Asked) (done : NodeDone) (new : TreeIs) → done ≡ done_with asked → r.op ≡ NodeOp.Access mask →
    ((s : State) → Lends b s → Follows (access mask (place_of s who naming temp r.node)) old asked new) → Tells naming temp b who r old done new
access-tells b who r mask naming temp old asked done new e op f = λ s c a h.
    subst (λ (x : NodeDone). Told s c r old x new) (sym e)
    (follows-serves s c r (access mask (place_of s who naming temp r.node)) old asked new
    (walk-is s c r (NodeOp.Access mask) op ∙ ap (access mask) (seen-by-caller s c who r.node naming temp a.caller h.naming_is h.temp_is))
    a.files (f s a.lists))
