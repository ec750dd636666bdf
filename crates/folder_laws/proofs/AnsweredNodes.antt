-- What a LOOKUP or a CREATE that is done in an exported folder or below it is answered: the node of the child, by its number among
-- what the connection has named.
use Rattle.std.proofs.Common.{◌≡◌, ◌<◌, ◌≤◌, ℕ, ◌^◌, List, length, Bool, not, ◌||◌, Option, Some, None, refl, sym, ap, subst, ◌∙◌, arith}
use Rattle.portal_base.specs.Names.{named_child}
use Rattle.file_generations.specs.Generations.{Held}
use Rattle.portal_base.specs.declared.files.Look.{Look}
use Rattle.portal_model.specs.declared.entry.Given.{Given}
use Rattle.portal_model.specs.declared.naming.Naming.{Naming}
use Rattle.portal_model.specs.declared.reply.Answer.{Answer}
use Rattle.portal_model.specs.declared.reply.Attr.{Attr}
use Rattle.portal_model.specs.declared.reply.NodeAnswer.{NodeAnswer}
use Rattle.portal_model.specs.declared.request.NodeOp.{NodeOp}
use Rattle.portal_model.specs.declared.request.NodeRequest.{NodeRequest}
use Rattle.portal_model.specs.declared.request.Request.{Request}
use Rattle.portal_model.specs.declared.state.Connection.{Connection}
use Rattle.portal_model.specs.declared.state.Document.{Document}
use Rattle.portal_model.specs.Attributes.{attr_of_file, attr_of_folder, on_node}
use Rattle.portal_model.specs.Bus.{is_tree, moment_given}
use Rattle.portal_model.specs.Create.{child_made, create_at, create_child, create_in, create_there}
use Rattle.portal_model.specs.Errno.{eacces, einval, emfile, enametoolong, enotdir}
use Rattle.portal_model.specs.Lawful.{LawfulOnNode}
use Rattle.portal_model.specs.Lookup.{entry_named, found_child, lookup_child, lookup_in, naming_in, node_of_naming}
use Rattle.portal_model.specs.Node.{NodeFacts, facts_of, node_given, node_walk, settled_on_node, walk_on_node}
use Rattle.portal_model.specs.NodeVerdict.{NodeDoing, NameChange, Names, NodeVerdict, Errs, Yields, by_look, by_place, errs_if, is_too_long, names_path, no_file, spot}
use Rattle.portal_model.specs.Open.{has_no_mode}
use Rattle.portal_model.specs.Outside.{files_told}
use Rattle.portal_model.specs.Place.{Sight, SightBelow, place_named, sight_on}
use Rattle.portal_model.specs.SeatNames.{lacks_number, naming_of, namings_limit, number_of_naming, with_naming}
use Rattle.portal_model.specs.State.{State, connection_of}
use Rattle.portal_model.specs.Step.{all_told, mount_of, node_step}
use Rattle.portal_model.specs.Valid.{Valid}
use Rattle.portal_model.specs.Walk.{Walk, Answers}
use Rattle.portal_model.proofs.NodeWalks.{IfMet, OnNode, errs_if-on, on-given}
use Rattle.portal_model.proofs.ValidLaws.{after-Valid}
use Rattle.folder_laws.specs.Namings.{asks, named_by, namings_of}
use Rattle.folder_laws.specs.Nodes.{IsOwnNaming, NodesAreOwnNamings, name_asked, node_answered}
use Rattle.folder_laws.proofs.MadeNamings.{named-sound}
use Rattle.folder_laws.proofs.NamedLists.{number-named, number-some, number-within}
use Rattle.folder_laws.proofs.NumberedNodes.{place-is, seen-by-naming}
use Rattle.folder_laws.proofs.SeatNamings.{grown, mount-here, names_of, node-own}

-- ---- what the walk does

module _ (tree : Option Held) (f : NodeFacts) (r : NodeRequest) (view : ℕ) (d : Document) (path name : List ℕ) (w : Bool) where
  -- the child is named, and its node is answered
  abbrev pub Numbers : NodeDoing → Type 0
  Numbers done = (child : List ℕ) × (named_child path name ≡ Some child) × (done.names ≡ Names (naming_in view d child)) × (node_answered (Answer.Node done.answer) ≡ Some (node_of_naming f.namings (naming_in view d child)))

  abbrev On : Walk NodeVerdict → Type 0
  On = OnNode tree Numbers

  entry-numbers : (child : List ℕ) → named_child path name ≡ Some child → (attr : Attr) → attr.node ≡ node_of_naming f.namings (naming_in view d child) → On (entry_named f.namings (naming_in view d child) attr)
  entry-numbers child e attr n = errs_if-on tree Numbers (lacks_number f.namings (naming_in view d child)) emfile (Answers (names_path (naming_in view d child) (NodeAnswer.Entry attr))) (λ k. (child, e, refl, ap Some n))

  child-numbers : (child : List ℕ) → named_child path name ≡ Some child → (look : Look) → On (found_child r f.namings (naming_in view d child) w look)
  child-numbers child e (Look.File g size moment) = entry-numbers child e (attr_of_file (on_node r (node_of_naming f.namings (naming_in view d child))) w size moment) refl
  child-numbers child e Look.Folder = entry-numbers child e (attr_of_folder (on_node r (node_of_naming f.namings (naming_in view d child))) w) refl
  child-numbers child e Look.Missing = tt

  lookup-child : (o : Option (List ℕ)) → named_child path name ≡ o → On (lookup_child r f.namings view d w o)
  lookup-child None e = tt
  lookup-child (Some child) e = λ look shown. child-numbers child e look

  lookup-look : (look : Look) → On (by_look view (spot d path w) (no_file enotdir) (lookup_in r f.namings f.temps.temps name) look)
  lookup-look (Look.File g size moment) = tt
  lookup-look Look.Folder = lookup-child (named_child path name) refl
  lookup-look Look.Missing = tt

  lookup-place : (o : Option Sight) → o ≡ Some (SightBelow view d path w) → On (by_place o (no_file enotdir) (lookup_in r f.namings f.temps.temps name))
  lookup-place o e = subst (λ (x : Option Sight). On (by_place x (no_file enotdir) (lookup_in r f.namings f.temps.temps name))) (sym e) (λ look shown. lookup-look look)

  there-numbers : (flags : ℕ) (child : List ℕ) → named_child path name ≡ Some child → (look : Look) → On (create_there r flags f.room (child_made f.namings d (naming_in view d child)) look)
  there-numbers flags child e (Look.File g size moment) = tt
  there-numbers flags child e Look.Folder = tt
  there-numbers flags child e Look.Missing = ((λ now found. (child, e, refl, refl)), tt)

  create-child : (flags : ℕ) (o : Option (List ℕ)) → named_child path name ≡ o → On (create_child r flags f.room f.namings view d w o)
  create-child flags None e = tt
  create-child flags (Some child) e =
      let naming : Naming = naming_in view d child in
      let there = create_at r flags f.room (child_made f.namings d naming) in
      errs_if-on tree Numbers (not w) eacces (errs_if (f.room.full || lacks_number f.namings naming) emfile there) (λ a.
      errs_if-on tree Numbers (f.room.full || lacks_number f.namings naming) emfile there (λ b. λ look shown. there-numbers flags child e look))

  create-look : (flags : ℕ) (look : Look) → On (by_look view (spot d path w) (no_file enotdir) (create_in r name flags f.room f.namings f.temps) look)
  create-look flags (Look.File g size moment) = tt
  create-look flags Look.Folder = create-child flags (named_child path name) refl
  create-look flags Look.Missing = tt

  create-place : (flags : ℕ) (o : Option Sight) → o ≡ Some (SightBelow view d path w) → On (by_place o (no_file enotdir) (create_in r name flags f.room f.namings f.temps))
  create-place flags o e = subst (λ (x : Option Sight). On (by_place x (no_file enotdir) (create_in r name flags f.room f.namings f.temps))) (sym e) (λ look shown. create-look flags look)

  pub walk-numbers : (op : NodeOp) → name_asked op ≡ Some name → f.sight ≡ Some (SightBelow view d path w) → On (node_walk f r op)
  walk-numbers (NodeOp.Lookup asked) n e =
      let same : asked ≡ name = cc in
      subst (λ (x : List ℕ). On (node_walk f r (NodeOp.Lookup x))) (sym same)
      (errs_if-on tree Numbers (is_too_long name) enametoolong (by_place f.sight (no_file enotdir) (lookup_in r f.namings f.temps.temps name)) (λ k. lookup-place f.sight e))
  walk-numbers (NodeOp.Create asked flags) n e =
      let same : asked ≡ name = cc in
      let place = by_place f.sight (no_file enotdir) (create_in r name flags f.room f.namings f.temps) in
      subst (λ (x : List ℕ). On (node_walk f r (NodeOp.Create x flags))) (sym same)
      (errs_if-on tree Numbers (has_no_mode flags) einval (errs_if (is_too_long name) enametoolong place) (λ a.
      errs_if-on tree Numbers (is_too_long name) enametoolong place (λ b. create-place flags f.sight e)))
  walk-numbers (NodeOp.Forget count) n e = cc
  walk-numbers (NodeOp.BatchForget nodes) n e = cc
  walk-numbers (NodeOp.GetAttr flags fh) n e = cc
  walk-numbers (NodeOp.SetAttr valid fh size) n e = cc
  walk-numbers (NodeOp.Open flags) n e = cc
  walk-numbers (NodeOp.Read fh offset size) n e = cc
  walk-numbers (NodeOp.Write fh offset content) n e = cc
  walk-numbers (NodeOp.Flush fh) n e = cc
  walk-numbers (NodeOp.Fsync fh) n e = cc
  walk-numbers (NodeOp.Release fh) n e = cc
  walk-numbers NodeOp.OpenDir n e = cc
  walk-numbers (NodeOp.ReadDir fh offset size) n e = cc
  walk-numbers (NodeOp.ReleaseDir fh) n e = cc
  walk-numbers (NodeOp.Access mask) n e = cc
  walk-numbers (NodeOp.Rename new_parent flags old_name new_name) n e = cc
  walk-numbers (NodeOp.Unlink asked) n e = cc

-- ---- what comes of it

-- of what is done: the child, its name, and the node that is answered
abbrev Answered : List Naming → Option NodeVerdict → ℕ → Document → List ℕ → List ℕ → ℕ → Type 0
Answered namings o view d path name node = (child : List ℕ) × (named_child path name ≡ Some child) × (names_of o ≡ Names (naming_in view d child)) × (node ≡ node_of_naming namings (naming_in view d child))

module _ (t : State) (c : Connection) (r : NodeRequest) (view : ℕ) (d : Document) (path name : List ℕ) (w : Bool) (node : ℕ) where
  abbrev facts : NodeFacts
  facts = facts_of t c r.node

  settled-numbers : (o : Option NodeVerdict) → IfMet (files_told t) (Numbers (files_told t) facts r view d path name w) o → node_answered (settled_on_node t c o).1 ≡ Some node → Answered c.namings o view d path name node
  settled-numbers None h e = cc
  settled-numbers (Some (Errs errno)) h e = cc
  settled-numbers (Some (Yields done)) h e =
      let told : Some node ≡ Some (node_of_naming c.namings (naming_in view d h.0)) = sym e ∙ h.3 in
      let same : node ≡ node_of_naming c.namings (naming_in view d h.0) = cc in
      (h.0, h.1, h.2, same)

-- the number that a valid state has is one of 32 bits
low-number : (s : State) (seat : ℕ) → Valid s → (k : ℕ) (n : Naming) → naming_of (named_by s seat) k ≡ Some n → k < 2 ^ 32
low-number s seat v k n e =
    let few : length (named_by s seat) ≤ namings_limit = (named-sound s seat v).within in
    let l = number-within (named_by s seat) k n e in
    omega arith

-- what a connection that had named these then has
own-naming : (namings later : List Naming) (o : Option NodeVerdict) (view : ℕ) (d : Document) (path name : List ℕ) (node : ℕ) → Answered namings o view d path name node → later ≡ grown (names_of o) namings → ((k : ℕ) (n : Naming) → naming_of later k ≡ Some n → k < 2 ^ 32) →
    IsOwnNaming namings later view d path name node
own-naming namings later o view d path name node done behind low =
    let naming : Naming = naming_in view d done.0 in
    let k : ℕ = number_of_naming namings naming in
    let grows : later ≡ with_naming namings naming = behind ∙ ap (λ (x : NameChange). grown x namings) done.2 in
    let named : naming_of later k ≡ Some naming = ap (λ (ns : List Naming). naming_of ns k) grows ∙ number-named namings naming in
    record {
      k = k;
      child = done.0;
      joined = done.1;
      place = ap place_named done.3 ∙ place-is view k (low k naming named) (number-some later k naming named);
      number = refl;
      named = named;
    }

step-numbers : (s : State) (seat : ℕ) (r : NodeRequest) (given : Given) (o : Option Connection) → mount_of (connection_of s.connections seat) ≡ o → LawfulOnNode s r given o → (c : Connection) → connection_of s.connections seat ≡ Some c →
    (view : ℕ) (d : Document) (path : List ℕ) (w : Bool) (name : List ℕ) (node : ℕ) → sight_on s c r.node ≡ Some (SightBelow view d path w) → name_asked r.op ≡ Some name → node_answered (node_step s r given o).1.answer ≡ Some node →
    Valid (node_step s r given o).0 → IsOwnNaming (named_by s seat) (named_by (node_step s r given o).0 seat) view d path name node
step-numbers s seat r given None m l c there view d path w name node sight asked told v = cc
step-numbers s seat r given (Some b) m l c there view d path w name node sight asked told v =
    let mount = mount-here s.connections seat b m in
    let found : Some c ≡ Some b = sym there ∙ mount.1 in
    let same : c ≡ b = cc in
    let t : State = all_told b.seat s in
    let Q : NodeDoing → Type 0 = Numbers (files_told t) (facts_of t b r.node) r view d path name w in
    let o : Option NodeVerdict = node_given (walk_on_node t b r) given in
    let later : List Naming = named_by (node_step s r given (Some b)).0 seat in
    let seen : sight_on s b r.node ≡ Some (SightBelow view d path w) = ap (λ (x : Connection). sight_on s x r.node) (sym same) ∙ sight in
    let met : IfMet (files_told t) Q o =
    on-given (files_told t) Q (walk_on_node t b r) (moment_given given.now) given.listed given.looks (is_tree given.fault) l.looks
    (walk-numbers (files_told t) (facts_of t b r.node) r view d path name w r.op asked seen) in
    let here : connection_of s.connections b.seat ≡ Some b = ap (connection_of s.connections) mount.0 ∙ mount.1 in
    let behind : later ≡ grown (names_of o) b.namings = subst (λ (n : ℕ). named_by (node_step s r given (Some b)).0 n ≡ grown (names_of o) b.namings) mount.0 (node-own s b r given here) in
    subst (λ (ns : List Naming). IsOwnNaming ns later view d path name node) (ap namings_of (sym mount.1))
    (own-naming b.namings later o view d path name node (settled-numbers t b r view d path name w node o met told) behind (low-number (node_step s r given (Some b)).0 seat v))

-- ---- the law

pub own-namings : NodesAreOwnNamings
own-namings = record {
  answered = λ s seat r given c view d path w name node v l there sight asked told.
      step-numbers s seat r given (mount_of (connection_of s.connections seat)) refl l.given c there view d path w name node sight asked told (after-Valid s (asks seat (Request.Node r) given) v l);
  used = seen-by-naming;
}
