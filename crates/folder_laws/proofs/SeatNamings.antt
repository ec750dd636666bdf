-- What a seat has named, through each kind of request: it grows by a LOOKUP or a CREATE of its own, and goes with its connection.
use Rattle.std.proofs.Common.{◌≡◌, ℕ, ◌+◌, ◌==◌, List, [], ◌∷◌, ◌++◌, map, Bool, true, false, not, cond, Option, Some, None, is_some, refl, sym, ap, subst, ◌∙◌, arith}
use Rattle.std.proofs.lemmas.Bool.Decides.{nat_tests}
use Rattle.portal_base.specs.declared.who.Kind.{Kind}
use Rattle.portal_base.specs.declared.who.Who.{Who}
use Rattle.portal_model.specs.declared.entry.Given.{Given}
use Rattle.portal_model.specs.declared.naming.Naming.{Naming}
use Rattle.portal_model.specs.declared.reply.Change.{Change}
use Rattle.portal_model.specs.declared.request.NodeRequest.{NodeRequest}
use Rattle.portal_model.specs.declared.request.Request.{Request}
use Rattle.portal_model.specs.declared.state.Connection.{Connection}
use Rattle.portal_model.specs.Enter.{entered, new_connection}
use Rattle.portal_model.specs.Leave.{left, of_others}
use Rattle.portal_model.specs.Node.{connections_after, connections_named, counted, named_on, node_given, settled_on_node, temps_changed, walk_on_node, with_temps}
use Rattle.portal_model.specs.NodeVerdict.{HandleChange, HandlesStay, Opens, Closes, NameChange, NamesStay, Names, Temps, NodeVerdict, Errs, Yields}
use Rattle.portal_model.specs.Present.{requeued}
use Rattle.portal_model.specs.SeatNames.{TempChange, naming_of, with_naming}
use Rattle.portal_model.specs.State.{State, connection_of, is_mount}
use Rattle.portal_model.specs.Step.{all_told, bus_of, bus_step, collect_step, mount_of, node_step, request_step, told_of}
use Rattle.portal_model.specs.StoreRequest.{told_change}
use Rattle.portal_model.specs.Valid.{is_host_bus}
use Rattle.portal_model.proofs.BusLaws.{bus_step-holds}
use Rattle.portal_model.proofs.ListLookups.{find-filter, found_passes, nat_is}
use Rattle.portal_model.proofs.NamesValid.{counted_names, requeued_names, told_names}
use Rattle.folder_laws.specs.Namings.{NamingsStay, is_leave, named_by, namings_of}
use Rattle.folder_laws.proofs.NamedLists.{number-stays}

abbrev pub names_at : List Connection → ℕ → List Naming
names_at cs seat = namings_of (connection_of cs seat)

-- ---- connections that change in other things

module _ (f : Connection → Connection) (same : (c : Connection) → (f c).seat ≡ c.seat) where
  pub mapped-names : ((c : Connection) → (f c).namings ≡ c.namings) → (seat : ℕ) (cs : List Connection) → names_at (map f cs) seat ≡ names_at cs seat
  mapped-names n seat [] = refl
  mapped-names n seat (c ∷ cs) = ap (λ (m : ℕ). namings_of (cond (m == seat) (Some (f c)) (connection_of (map f cs) seat))) (same c) ∙ step (c.seat == seat) (mapped-names n seat cs)
    where
      step : (b : Bool) → names_at (map f cs) seat ≡ names_at cs seat → namings_of (cond b (Some (f c)) (connection_of (map f cs) seat)) ≡ namings_of (cond b (Some c) (connection_of cs seat))
      step true h = n c
      step false h = h

  pub mapped-open : (seat : ℕ) (cs : List Connection) → is_some (connection_of (map f cs) seat) ≡ is_some (connection_of cs seat)
  mapped-open seat [] = refl
  mapped-open seat (c ∷ cs) = ap (λ (m : ℕ). is_some (cond (m == seat) (Some (f c)) (connection_of (map f cs) seat))) (same c) ∙ step (c.seat == seat) (mapped-open seat cs)
    where
      step : (b : Bool) → is_some (connection_of (map f cs) seat) ≡ is_some (connection_of cs seat) → is_some (cond b (Some (f c)) (connection_of (map f cs) seat)) ≡ is_some (cond b (Some c) (connection_of cs seat))
      step true h = refl
      step false h = h

told_seat : (seat : ℕ) (c : Connection) → (told_of seat c).seat ≡ c.seat
told_seat seat c = elim (c.seat == seat) as (λ b. (cond b (record c { unsent = [] }) c).seat ≡ c.seat) [ true ↦ refl | false ↦ refl ]

requeued_seat : (seat : ℕ) (change : List (List ℕ) → List (List ℕ)) (c : Connection) → (requeued seat change c).seat ≡ c.seat
requeued_seat seat change c = elim (c.seat == seat) as (λ b. (cond b (record c { queue = change c.queue }) c).seat ≡ c.seat) [ true ↦ refl | false ↦ refl ]

counted_seat : (seat : ℕ) (c : Connection) → (counted seat c).seat ≡ c.seat
counted_seat seat c = elim (c.seat == seat) as (λ b. (cond b (record c { opens = c.opens + 1 }) c).seat ≡ c.seat) [ true ↦ refl | false ↦ refl ]

changed_seat : (change : Change) (c : Connection) → (told_change change c).seat ≡ c.seat
changed_seat change c = elim (is_host_bus c.who c.kind) as (λ b. (cond b (record c { unsent = c.unsent ++ change ∷ [] }) c).seat ≡ c.seat) [ true ↦ refl | false ↦ refl ]

changed_names : (change : Change) (c : Connection) → (told_change change c).namings ≡ c.namings
changed_names change c = elim (is_host_bus c.who c.kind) as (λ b. (cond b (record c { unsent = c.unsent ++ change ∷ [] }) c).namings ≡ c.namings) [ true ↦ refl | false ↦ refl ]

-- temporaries that change
temped_seat : (seat : ℕ) (change : TempChange) (c : Connection) → (temps_changed seat change c).seat ≡ c.seat
temped_seat seat change c = elim (c.seat == seat) as (λ b. (cond b (with_temps change c) c).seat ≡ c.seat) [ true ↦ refl | false ↦ refl ]

temped_names : (seat : ℕ) (change : TempChange) (c : Connection) → (temps_changed seat change c).namings ≡ c.namings
temped_names seat change c = elim (c.seat == seat) as (λ b. (cond b (with_temps change c) c).namings ≡ c.namings) [ true ↦ refl | false ↦ refl ]

names-told : (told seat : ℕ) (cs : List Connection) → names_at (map (told_of told) cs) seat ≡ names_at cs seat
names-told told seat cs = mapped-names (told_of told) (told_seat told) (told_names told) seat cs

-- ---- a request of a bus

bus-names : (s : State) (request : Request) (given : Given) (o : Option Connection) (seat : ℕ) → named_by (bus_step s request given o).0 seat ≡ named_by s seat
bus-names s request given o seat =
    bus_step-holds (λ (t : State). named_by t seat ≡ named_by s seat) (λ t told h. names-told told seat t.connections ∙ h)
    (λ t other change h. mapped-names (requeued other change) (requeued_seat other change) (requeued_names other change) seat t.connections ∙ h)
    (λ t ds made rights apps h. h) (λ t es h. h)
    (λ t change h. mapped-names (told_change change) (changed_seat change) (changed_names change) seat t.connections ∙ h) s request given o refl

collect-names : (s : State) (o : Option Connection) (seat : ℕ) → named_by (collect_step s o).0 seat ≡ named_by s seat
collect-names s None seat = refl
collect-names s (Some c) seat = names-told c.seat seat s.connections

-- ---- a request on a node

-- what was named, and one more where there is one
abbrev pub grown : NameChange → List Naming → List Naming
grown NamesStay ns = ns
grown (Names new) ns = with_naming ns new
grown (Temps change) ns = ns

abbrev pub names_of : Option NodeVerdict → NameChange
names_of None = NamesStay
names_of (Some (Errs errno)) = NamesStay
names_of (Some (Yields d)) = d.names

named-own : (seat : ℕ) (new : Naming) (cs : List Connection) → is_some (connection_of cs seat) ≡ true → names_at (map (named_on seat new) cs) seat ≡ with_naming (names_at cs seat) new
named-own seat new [] h = cc
named-own seat new (c ∷ cs) h = step (c.seat == seat) refl h (named-own seat new cs)
  where
    step : (b : Bool) → (c.seat == seat) ≡ b → is_some (cond b (Some c) (connection_of cs seat)) ≡ true → (is_some (connection_of cs seat) ≡ true → names_at (map (named_on seat new) cs) seat ≡ with_naming (names_at cs seat) new) →
        namings_of (cond ((cond b (record c { namings = with_naming c.namings new }) c).seat == seat) (Some (cond b (record c { namings = with_naming c.namings new }) c)) (connection_of (map (named_on seat new) cs) seat)) ≡ with_naming (namings_of (cond b (Some c) (connection_of cs seat))) new
    step true e k f = ap (λ (b : Bool). namings_of (cond b (Some (record c { namings = with_naming c.namings new })) (connection_of (map (named_on seat new) cs) seat))) e
    step false e k f = ap (λ (b : Bool). namings_of (cond b (Some c) (connection_of (map (named_on seat new) cs) seat))) e ∙ f k

named-other : (seat other : ℕ) (new : Naming) → (seat == other) ≡ false → (cs : List Connection) → names_at (map (named_on seat new) cs) other ≡ names_at cs other
named-other seat other new n [] = refl
named-other seat other new n (c ∷ cs) = step (c.seat == seat) refl (named-other seat other new n cs)
  where
    apart : (c.seat == seat) ≡ true → (c.seat == other) ≡ false
    apart e = ap (λ (m : ℕ). m == other) (nat_is c.seat seat e) ∙ n

    later : (b : Bool) → names_at (map (named_on seat new) cs) other ≡ names_at cs other → namings_of (cond b (Some c) (connection_of (map (named_on seat new) cs) other)) ≡ namings_of (cond b (Some c) (connection_of cs other))
    later true h = refl
    later false h = h

    step : (b : Bool) → (c.seat == seat) ≡ b → names_at (map (named_on seat new) cs) other ≡ names_at cs other →
        namings_of (cond ((cond b (record c { namings = with_naming c.namings new }) c).seat == other) (Some (cond b (record c { namings = with_naming c.namings new }) c)) (connection_of (map (named_on seat new) cs) other)) ≡ namings_of (cond (c.seat == other) (Some c) (connection_of cs other))
    step true e h =
        ap (λ (b : Bool). namings_of (cond b (Some (record c { namings = with_naming c.namings new })) (connection_of (map (named_on seat new) cs) other))) (apart e)
        ∙ (h ∙ ap (λ (b : Bool). namings_of (cond b (Some c) (connection_of cs other))) (sym (apart e)))
    step false e h = later (c.seat == other) h

after-names : (c : Connection) (change : HandleChange) (seat : ℕ) (cs : List Connection) → names_at (connections_after c change cs) seat ≡ names_at cs seat
after-names c HandlesStay seat cs = refl
after-names c (Opens handle) seat cs = mapped-names (counted c.seat) (counted_seat c.seat) (counted_names c.seat) seat cs
after-names c (Closes fh) seat cs = refl

after-open : (c : Connection) (change : HandleChange) (seat : ℕ) (cs : List Connection) → is_some (connection_of (connections_after c change cs) seat) ≡ is_some (connection_of cs seat)
after-open c HandlesStay seat cs = refl
after-open c (Opens handle) seat cs = mapped-open (counted c.seat) (counted_seat c.seat) seat cs
after-open c (Closes fh) seat cs = refl

done-own : (c : Connection) (names : NameChange) (cs : List Connection) → is_some (connection_of cs c.seat) ≡ true → names_at (connections_named c names cs) c.seat ≡ grown names (names_at cs c.seat)
done-own c NamesStay cs h = refl
done-own c (Names new) cs h = named-own c.seat new cs h
done-own c (Temps change) cs h = mapped-names (temps_changed c.seat change) (temped_seat c.seat change) (temped_names c.seat change) c.seat cs

done-other : (c : Connection) (names : NameChange) (seat : ℕ) (cs : List Connection) → (c.seat == seat) ≡ false → names_at (connections_named c names cs) seat ≡ names_at cs seat
done-other c NamesStay seat cs n = refl
done-other c (Names new) seat cs n = named-other c.seat seat new n cs
done-other c (Temps change) seat cs n = mapped-names (temps_changed c.seat change) (temped_seat c.seat change) (temped_names c.seat change) seat cs

settled-own : (s : State) (c : Connection) → is_some (connection_of s.connections c.seat) ≡ true → (o : Option NodeVerdict) → named_by (settled_on_node s c o).0 c.seat ≡ grown (names_of o) (named_by s c.seat)
settled-own s c here None = refl
settled-own s c here (Some (Errs errno)) = refl
settled-own s c here (Some (Yields d)) =
    done-own c d.names (connections_after c d.handle s.connections) (after-open c d.handle c.seat s.connections ∙ here)
    ∙ ap (grown d.names) (after-names c d.handle c.seat s.connections)

settled-other : (s : State) (c : Connection) (seat : ℕ) → (c.seat == seat) ≡ false → (o : Option NodeVerdict) → named_by (settled_on_node s c o).0 seat ≡ named_by s seat
settled-other s c seat n None = refl
settled-other s c seat n (Some (Errs errno)) = refl
settled-other s c seat n (Some (Yields d)) = done-other c d.names seat (connections_after c d.handle s.connections) n ∙ after-names c d.handle seat s.connections

-- of the connection that asks: what the walk names
pub node-own : (s : State) (c : Connection) (r : NodeRequest) (given : Given) → connection_of s.connections c.seat ≡ Some c →
    named_by (node_step s r given (Some c)).0 c.seat ≡ grown (names_of (node_given (walk_on_node (all_told c.seat s) c r) given)) c.namings
node-own s c r given here =
    let there : is_some (connection_of (all_told c.seat s).connections c.seat) ≡ true = mapped-open (told_of c.seat) (told_seat c.seat) c.seat s.connections ∙ ap is_some here in
    let o = node_given (walk_on_node (all_told c.seat s) c r) given in
    settled-own (all_told c.seat s) c there o ∙ ap (grown (names_of o)) (names-told c.seat c.seat s.connections ∙ ap namings_of here)

pub mount-here : (cs : List Connection) (seat : ℕ) (c : Connection) → mount_of (connection_of cs seat) ≡ Some c → (c.seat ≡ seat) × (connection_of cs seat ≡ Some c)
mount-here cs seat c m = by_found (connection_of cs seat) refl m
  where
    by_kind : (d : Connection) → connection_of cs seat ≡ Some d → (b : Bool) → cond b (Some d) None ≡ Some c → (c.seat ≡ seat) × (connection_of cs seat ≡ Some c)
    by_kind d e true k = (let same : d ≡ c = cc in ap (λ (x : Connection). x.seat) (sym same) ∙ nat_is d.seat seat (found_passes (λ (x : Connection). x.seat == seat) cs d e), e ∙ k)
    by_kind d e false k = cc

    by_found : (o : Option Connection) → connection_of cs seat ≡ o → mount_of o ≡ Some c → (c.seat ≡ seat) × (connection_of cs seat ≡ Some c)
    by_found None e k = cc
    by_found (Some d) e k = by_kind d e (is_mount d.kind) k

grown-stays : (names : NameChange) (ns : List Naming) (k : ℕ) (n : Naming) → naming_of ns k ≡ Some n → naming_of (grown names ns) k ≡ Some n
grown-stays NamesStay ns k n e = e
grown-stays (Names new) ns k n e = number-stays ns new k n e
grown-stays (Temps change) ns k n e = e

node-stays : (s : State) (seat : ℕ) (r : NodeRequest) (given : Given) (o : Option Connection) → mount_of (connection_of s.connections seat) ≡ o → (k : ℕ) (n : Naming) → naming_of (named_by s seat) k ≡ Some n → naming_of (named_by (node_step s r given o).0 seat) k ≡ Some n
node-stays s seat r given None e k n h = h
node-stays s seat r given (Some c) e k n h =
    let there = mount-here s.connections seat c e in
    let here : connection_of s.connections c.seat ≡ Some c = ap (connection_of s.connections) there.0 ∙ there.1 in
    let own : naming_of c.namings k ≡ Some n = ap (λ (p : Option Connection). naming_of (namings_of p) k) (sym there.1) ∙ h in
    let later : naming_of (named_by (node_step s r given (Some c)).0 c.seat) k ≡ Some n =
    ap (λ (ns : List Naming). naming_of ns k) (node-own s c r given here) ∙ grown-stays (names_of (node_given (walk_on_node (all_told c.seat s) c r) given)) c.namings k n own in
    subst (λ (m : ℕ). naming_of (named_by (node_step s r given (Some c)).0 m) k ≡ Some n) there.0 later

node-other : (s : State) (seat other : ℕ) (r : NodeRequest) (given : Given) (o : Option Connection) → mount_of (connection_of s.connections seat) ≡ o → (seat == other) ≡ false → named_by (node_step s r given o).0 other ≡ named_by s other
node-other s seat other r given None e n = refl
node-other s seat other r given (Some c) e n =
    let own : (c.seat == other) ≡ false = ap (λ (m : ℕ). m == other) (mount-here s.connections seat c e).0 ∙ n in
    settled-other (all_told c.seat s) c other own (node_given (walk_on_node (all_told c.seat s) c r) given) ∙ names-told c.seat other s.connections

-- ---- an Enter and a Leave

found_new : (seat : ℕ) (who : Who) (kind : Kind) (cs : List Connection) → connection_of cs seat ≡ None → connection_of (cs ++ new_connection seat who kind ∷ []) seat ≡ Some (new_connection seat who kind)
found_new seat who kind [] e = grind (arith, nat_tests)
found_new seat who kind (c ∷ cs) e = grind (arith, nat_tests, found_new seat who kind cs)

none_left : (seat : ℕ) (cs : List Connection) → connection_of (of_others seat cs) seat ≡ None
none_left seat [] = refl
none_left seat (c ∷ cs) = grind (arith, nat_tests, none_left seat cs)

found_old : (other seat : ℕ) (who : Who) (kind : Kind) (cs : List Connection) → (seat == other) ≡ false → connection_of (cs ++ new_connection seat who kind ∷ []) other ≡ connection_of cs other
found_old other seat who kind [] h = grind (arith, nat_tests)
found_old other seat who kind (c ∷ cs) h = grind (arith, nat_tests, found_old other seat who kind cs)

is_kept : (other seat : ℕ) (c : Connection) → (seat == other) ≡ false → (c.seat == other) ≡ true → not (c.seat == seat) ≡ true
is_kept other seat c h e = grind (arith, nat_tests)

no-number : (k : ℕ) (n : Naming) (A : Type 0) → naming_of [] k ≡ Some n → A
no-number k n A e = step (k == 0) e
  where
    step : (b : Bool) → cond b None None ≡ Some n → A
    step true h = cc
    step false h = cc

enter-stays : (seat : ℕ) (who : Who) (kind : Kind) (cs : List Connection) (o : Option Connection) → connection_of cs seat ≡ o → (k : ℕ) (n : Naming) → naming_of (namings_of o) k ≡ Some n → naming_of (names_at (entered seat who kind cs o) seat) k ≡ Some n
enter-stays seat who kind cs None e k n h = no-number k n _ h
enter-stays seat who kind cs (Some c) e k n h = ap (λ (p : Option Connection). naming_of (namings_of p) k) e ∙ h

enter-other : (seat other : ℕ) (who : Who) (kind : Kind) (cs : List Connection) (o : Option Connection) → (seat == other) ≡ false → names_at (entered seat who kind cs o) other ≡ names_at cs other
enter-other seat other who kind cs None n = ap namings_of (found_old other seat who kind cs n)
enter-other seat other who kind cs (Some c) n = refl

enter-begins : (seat : ℕ) (who : Who) (kind : Kind) (cs : List Connection) (o : Option Connection) → connection_of cs seat ≡ o → o ≡ None → names_at (entered seat who kind cs o) seat ≡ []
enter-begins seat who kind cs None e h = ap namings_of (found_new seat who kind cs e)
enter-begins seat who kind cs (Some c) e h = cc

leave-other : (seat other : ℕ) (cs : List Connection) (o : Option Connection) → (seat == other) ≡ false → names_at (left seat cs o) other ≡ names_at cs other
leave-other seat other cs None n = refl
leave-other seat other cs (Some c) n = ap namings_of (find-filter (λ (x : Connection). x.seat == other) (λ (x : Connection). not (x.seat == seat)) true (λ x k. is_kept other seat x n k) cs)

leave-ends : (seat : ℕ) (cs : List Connection) (o : Option Connection) → connection_of cs seat ≡ o → names_at (left seat cs o) seat ≡ []
leave-ends seat cs None e = ap namings_of e
leave-ends seat cs (Some c) e = ap namings_of (none_left seat cs)

-- ---- the law

request-stays : (s : State) (seat : ℕ) (request : Request) (given : Given) (k : ℕ) (n : Naming) → is_leave request ≡ false → naming_of (named_by s seat) k ≡ Some n → naming_of (named_by (request_step s seat request given).0 seat) k ≡ Some n
request-stays s seat (Request.Enter who kind) given k n l h = enter-stays seat who kind s.connections (connection_of s.connections seat) refl k n h
request-stays s seat Request.Leave given k n l h = cc
request-stays s seat Request.Collect given k n l h = ap (λ (ns : List Naming). naming_of ns k) (collect-names s (bus_of (connection_of s.connections seat)) seat) ∙ h
request-stays s seat (Request.Node r) given k n l h = node-stays s seat r given (mount_of (connection_of s.connections seat)) refl k n h
request-stays s seat request given k n l h = ap (λ (ns : List Naming). naming_of ns k) (bus-names s request given (bus_of (connection_of s.connections seat)) seat) ∙ h

request-other : (s : State) (seat other : ℕ) (request : Request) (given : Given) → (seat == other) ≡ false → named_by (request_step s seat request given).0 other ≡ named_by s other
request-other s seat other (Request.Enter who kind) given n = enter-other seat other who kind s.connections (connection_of s.connections seat) n
request-other s seat other Request.Leave given n = leave-other seat other s.connections (connection_of s.connections seat) n
request-other s seat other Request.Collect given n = collect-names s (bus_of (connection_of s.connections seat)) other
request-other s seat other (Request.Node r) given n = node-other s seat other r given (mount_of (connection_of s.connections seat)) refl n
request-other s seat other request given n = bus-names s request given (bus_of (connection_of s.connections seat)) other

pub namings-stay : NamingsStay
namings-stay = record {
  numbers = λ s e k n l h. request-stays s e.seat e.request e.given k n l h;
  others = λ s e seat n. request-other s e.seat seat e.request e.given n;
  enters = λ s seat who kind given e. enter-begins seat who kind s.connections (connection_of s.connections seat) refl e;
  leaves = λ s seat given. leave-ends seat s.connections (connection_of s.connections seat) refl;
}
