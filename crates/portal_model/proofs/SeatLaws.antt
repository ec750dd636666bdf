-- What a seat knows of a history: what the history begins with, the exchanges of the seat, and its open
-- connection, which its own entries tell.
use Rattle.std.proofs.Common.{◌≡◌, ◌==◌, ◌≤◌, ◌+◌, ℕ, List, [], ◌∷◌, ◌++◌, length, take, map, not, Bool, true, false, cond, Option, Some, None, is_some, refl, sym, ap, ◌∙◌, subst, arith}
use Rattle.std.specs.Option.{option_map}
use Rattle.std.proofs.Math.Seq.{take-append_seam}
use Rattle.std.proofs.lemmas.Bool.Decides.{nat_tests}
use Rattle.std.proofs.lemmas.List.{append_assoc, append-nil, length-append}
use Rattle.portal_base.specs.declared.who.Kind.{Kind}
use Rattle.portal_base.specs.declared.who.Who.{Who}
use Rattle.portal_model.specs.declared.entry.Entry.{Entry}
use Rattle.portal_model.specs.declared.entry.Given.{Given}
use Rattle.portal_model.specs.declared.reply.Change.{Change}
use Rattle.portal_model.specs.declared.naming.Naming.{Naming}
use Rattle.portal_model.specs.declared.request.NodeRequest.{NodeRequest}
use Rattle.portal_model.specs.declared.request.Request.{Request}
use Rattle.portal_model.specs.declared.state.Connection.{Connection}
use Rattle.portal_model.specs.Enter.{entered, new_connection}
use Rattle.portal_model.specs.History.{run, of_seat}
use Rattle.portal_model.specs.Leave.{left, of_others}
use Rattle.portal_model.specs.Node.{connections_after, connections_named, counted, named_on, node_given, settled_on_node, walk_on_node, temps_changed, with_temps}
use Rattle.portal_model.specs.NodeVerdict.{HandleChange, HandlesStay, Opens, Closes, NameChange, Names, NamesStay, NodeVerdict, Errs, Yields, Temps}
use Rattle.portal_model.specs.SeatNames.{with_naming, TempChange}
use Rattle.portal_model.specs.Present.{requeued}
use Rattle.portal_model.specs.Seated.{BeginsWith, Binding, Exchange, binding_of, bound, bound_after, bound_by, exchange, exchanges, is_open}
use Rattle.portal_model.specs.State.{State, connection_of}
use Rattle.portal_model.specs.Step.{after, all_told, bus_of, bus_step, collect_step, mount_of, node_step, request_step, told_of}
use Rattle.portal_model.specs.StoreRequest.{told_change}
use Rattle.portal_model.specs.Valid.{is_host_bus}
use Rattle.portal_model.proofs.BusLaws.{bus_step-holds}
use Rattle.portal_model.proofs.ListLookups.{find-filter}

-- ---- what a list begins with

pub begins-itself : (h : List Entry) → BeginsWith h h
begins-itself h = ([], sym (append-nil h))

pub begins-through : (h i j : List Entry) → BeginsWith h i → BeginsWith i j → BeginsWith h j
begins-through h i j p q = (q.0 ++ p.0, p.1 ∙ (ap (λ (x : List Entry). x ++ p.0) q.1 ∙ append_assoc j q.0 p.0))

pub begins-joined : (h more : List Entry) → BeginsWith (h ++ more) h
begins-joined h more = (more, refl)

pub begins-taken : (h i : List Entry) → BeginsWith h i → take (length i) h ≡ i
begins-taken h i p = ap (take (length i)) p.1 ∙ take-append_seam i p.0

pub begins-lengths : (h i : List Entry) → BeginsWith h i → length i ≤ length h
begins-lengths h i p =
    let n : length h ≡ length i + length p.0 = ap length p.1 ∙ length-append i p.0 in
    omega arith

no_more : (h i more : List Entry) → h ≡ i ++ more → length h ≤ length i → h ≡ i
no_more h i [] e l = e ∙ append-nil i
no_more h i (x ∷ more) e l =
    let n : length h ≡ length i + length (x ∷ more) = ap length e ∙ length-append i (x ∷ more) in
    absurd (omega arith)

pub begins-whole : (h i : List Entry) → BeginsWith h i → length h ≤ length i → h ≡ i
begins-whole h i p l = no_more h i p.0 p.1 l

-- of two fronts of one list, the longer begins with the shorter
fronts : (i j more rest : List Entry) → i ++ more ≡ j ++ rest → length j ≤ length i → BeginsWith i j
fronts i [] more rest e l = (i, refl)
fronts [] (y ∷ j) more rest e l = absurd (omega arith)
fronts (x ∷ i) (y ∷ j) more rest e l =
    let same : x ≡ y = cc in
    let tails : i ++ more ≡ j ++ rest = cc in
    let one : BeginsWith i j = fronts i j more rest tails (grind arith) in
    (one.0, λ k. same k ∷ one.1 k)

pub begins-between : (h i j : List Entry) → BeginsWith h i → BeginsWith h j → length j ≤ length i → BeginsWith i j
begins-between h i j p q l = fronts i j p.0 q.0 (sym p.1 ∙ q.1) l

-- ---- the exchanges of a seat

pub exchanges-append : (seat : ℕ) (h more : List Entry) (s : State) → exchanges seat s (h ++ more) ≡ exchanges seat s h ++ exchanges seat (run s h) more
exchanges-append seat [] more s = refl
exchanges-append seat (e ∷ es) more s =
    let front : List Exchange = cond (e.seat == seat) (exchange s e ∷ []) [] in
    ap (λ (xs : List Exchange). front ++ xs) (exchanges-append seat es more (after s e))
    ∙ sym (append_assoc front (exchanges seat (after s e) es) (exchanges seat (run (after s e) es) more))

one_own : (seat : ℕ) (s : State) (e : Entry) → e.seat ≡ seat → exchanges seat s (e ∷ []) ≡ exchange s e ∷ []
one_own seat s e h =
    let own : (e.seat == seat) ≡ true = grind (arith, nat_tests) in
    ap (λ (b : Bool). cond b (exchange s e ∷ []) [] ++ []) own

one_other : (seat : ℕ) (s : State) (e : Entry) → (e.seat ≡ seat → ⊥) → exchanges seat s (e ∷ []) ≡ []
one_other seat s e h =
    let other : (e.seat == seat) ≡ false = grind (arith, nat_tests) in
    ap (λ (b : Bool). cond b (exchange s e ∷ []) [] ++ []) other

pub exchanges-own : (seat : ℕ) (s : State) (h : List Entry) (e : Entry) → e.seat ≡ seat → exchanges seat s (h ++ e ∷ []) ≡ exchanges seat s h ++ exchange (run s h) e ∷ []
exchanges-own seat s h e k = exchanges-append seat h (e ∷ []) s ∙ ap (λ (xs : List Exchange). exchanges seat s h ++ xs) (one_own seat (run s h) e k)

pub exchanges-other : (seat : ℕ) (s : State) (h : List Entry) (e : Entry) → (e.seat ≡ seat → ⊥) → exchanges seat s (h ++ e ∷ []) ≡ exchanges seat s h
exchanges-other seat s h e k =
    exchanges-append seat h (e ∷ []) s ∙ (ap (λ (xs : List Exchange). exchanges seat s h ++ xs) (one_other seat (run s h) e k) ∙ append-nil (exchanges seat s h))

abbrev entries_in : List Exchange → List Entry
entries_in xs = map (λ (x : Exchange). x.entry) xs

first_entry : (s : State) (e : Entry) (b : Bool) (xs : List Exchange) (es : List Entry) → entries_in xs ≡ es → entries_in (cond b (exchange s e ∷ []) [] ++ xs) ≡ cond b (e ∷ es) es
first_entry s e true xs es h = ap (λ (more : List Entry). e ∷ more) h
first_entry s e false xs es h = h

pub exchanges-entries : (seat : ℕ) (h : List Entry) (s : State) → entries_in (exchanges seat s h) ≡ of_seat seat h
exchanges-entries seat [] s = refl
exchanges-entries seat (e ∷ es) s = first_entry s e (e.seat == seat) (exchanges seat (after s e) es) (of_seat seat es) (exchanges-entries seat es (after s e))

first_length : (s : State) (e : Entry) (b : Bool) (xs : List Exchange) (es : List Entry) → length xs ≤ length es → length (cond b (exchange s e ∷ []) [] ++ xs) ≤ length (e ∷ es)
first_length s e true xs es h = grind arith
first_length s e false xs es h = grind arith

pub exchanges-lengths : (seat : ℕ) (h : List Entry) (s : State) → length (exchanges seat s h) ≤ length h
exchanges-lengths seat [] s = omega arith
exchanges-lengths seat (e ∷ es) s = first_length s e (e.seat == seat) (exchanges seat (after s e) es) es (exchanges-lengths seat es (after s e))

-- ---- the open connection of a seat, and a request of that seat

abbrev binding : List Connection → ℕ → Option Binding
binding cs seat = option_map binding_of (connection_of cs seat)

-- what is told, to whichever seat, ends no connection and binds none otherwise
told_first : (seat told : ℕ) (c : Connection) (b : Bool) (o p : Option Connection) → option_map binding_of o ≡ option_map binding_of p →
    option_map binding_of (cond ((cond b (record c { unsent = [] }) c).seat == seat) (Some (cond b (record c { unsent = [] }) c)) o) ≡ option_map binding_of (cond (c.seat == seat) (Some c) p)
told_first seat told c true o p h = elim (c.seat == seat) as (λ m. option_map binding_of (cond m (Some (record c { unsent = [] })) o) ≡ option_map binding_of (cond m (Some c) p)) [
  | true ↦ refl
  | false ↦ h
]
told_first seat told c false o p h = elim (c.seat == seat) as (λ m. option_map binding_of (cond m (Some c) o) ≡ option_map binding_of (cond m (Some c) p)) [
  | true ↦ refl
  | false ↦ h
]

binding-told : (seat told : ℕ) (cs : List Connection) → binding (map (told_of told) cs) seat ≡ binding cs seat
binding-told seat told [] = refl
binding-told seat told (c ∷ cs) = told_first seat told c (c.seat == told) (connection_of (map (told_of told) cs) seat) (connection_of cs seat) (binding-told seat told cs)

found_new : (seat : ℕ) (who : Who) (kind : Kind) (cs : List Connection) → connection_of cs seat ≡ None → connection_of (cs ++ new_connection seat who kind ∷ []) seat ≡ Some (new_connection seat who kind)
found_new seat who kind [] e = grind (arith, nat_tests)
found_new seat who kind (c ∷ cs) e = grind (arith, nat_tests, found_new seat who kind cs)

none_left : (seat : ℕ) (cs : List Connection) → connection_of (of_others seat cs) seat ≡ None
none_left seat [] = refl
none_left seat (c ∷ cs) = grind (arith, nat_tests, none_left seat cs)

enter_bound : (seat : ℕ) (who : Who) (kind : Kind) (cs : List Connection) (o : Option Connection) → connection_of cs seat ≡ o →
    binding (entered seat who kind cs o) seat ≡ bound_after (option_map binding_of o) (Request.Enter who kind)
enter_bound seat who kind cs None e = ap (option_map binding_of) (found_new seat who kind cs e)
enter_bound seat who kind cs (Some c) e = ap (option_map binding_of) e

leave_bound : (seat : ℕ) (cs : List Connection) (o : Option Connection) → connection_of cs seat ≡ o → binding (left seat cs o) seat ≡ None
leave_bound seat cs None e = ap (option_map binding_of) e
leave_bound seat cs (Some c) e = ap (option_map binding_of) (none_left seat cs)

collect_bound : (s : State) (o : Option Connection) (seat : ℕ) → bound (collect_step s o).0 seat ≡ bound s seat
collect_bound s None seat = refl
collect_bound s (Some c) seat = binding-told seat c.seat s.connections

counted_first : (seat : ℕ) (c : Connection) (b : Bool) (o p : Option Connection) → option_map binding_of o ≡ option_map binding_of p →
    option_map binding_of (cond ((cond b (record c { opens = c.opens + 1 }) c).seat == seat) (Some (cond b (record c { opens = c.opens + 1 }) c)) o) ≡ option_map binding_of (cond (c.seat == seat) (Some c) p)
counted_first seat c true o p h = elim (c.seat == seat) as (λ m. option_map binding_of (cond m (Some (record c { opens = c.opens + 1 })) o) ≡ option_map binding_of (cond m (Some c) p)) [
  | true ↦ refl
  | false ↦ h
]
counted_first seat c false o p h = elim (c.seat == seat) as (λ m. option_map binding_of (cond m (Some c) o) ≡ option_map binding_of (cond m (Some c) p)) [
  | true ↦ refl
  | false ↦ h
]

-- a handle that is opened ends no connection and binds none otherwise
binding-counted : (seat other : ℕ) (cs : List Connection) → binding (map (counted other) cs) seat ≡ binding cs seat
binding-counted seat other [] = refl
binding-counted seat other (c ∷ cs) = counted_first seat c (c.seat == other) (connection_of (map (counted other) cs) seat) (connection_of cs seat) (binding-counted seat other cs)

changed_bound : (seat : ℕ) (c : Connection) (change : HandleChange) (cs : List Connection) → binding (connections_after c change cs) seat ≡ binding cs seat
changed_bound seat c HandlesStay cs = refl
changed_bound seat c (Opens handle) cs = binding-counted seat c.seat cs
changed_bound seat c (Closes fh) cs = refl

named_first : (seat : ℕ) (naming : Naming) (c : Connection) (b : Bool) (o p : Option Connection) → option_map binding_of o ≡ option_map binding_of p →
    option_map binding_of (cond ((cond b (record c { namings = with_naming c.namings naming }) c).seat == seat) (Some (cond b (record c { namings = with_naming c.namings naming }) c)) o) ≡ option_map binding_of (cond (c.seat == seat) (Some c) p)
named_first seat naming c true o p h = elim (c.seat == seat) as (λ m. option_map binding_of (cond m (Some (record c { namings = with_naming c.namings naming })) o) ≡ option_map binding_of (cond m (Some c) p)) [
  | true ↦ refl
  | false ↦ h
]
named_first seat naming c false o p h = elim (c.seat == seat) as (λ m. option_map binding_of (cond m (Some c) o) ≡ option_map binding_of (cond m (Some c) p)) [
  | true ↦ refl
  | false ↦ h
]

-- nor does a path that is named
binding-named : (seat other : ℕ) (naming : Naming) (cs : List Connection) → binding (map (named_on other naming) cs) seat ≡ binding cs seat
binding-named seat other naming [] = refl
binding-named seat other naming (c ∷ cs) = named_first seat naming c (c.seat == other) (connection_of (map (named_on other naming) cs) seat) (connection_of cs seat) (binding-named seat other naming cs)

temps_first : (seat : ℕ) (change : TempChange) (c : Connection) (b : Bool) (o p : Option Connection) → option_map binding_of o ≡ option_map binding_of p →
    option_map binding_of (cond ((cond b (with_temps change c) c).seat == seat) (Some (cond b (with_temps change c) c)) o) ≡ option_map binding_of (cond (c.seat == seat) (Some c) p)
temps_first seat change c true o p h = elim (c.seat == seat) as (λ m. option_map binding_of (cond m (Some (with_temps change c)) o) ≡ option_map binding_of (cond m (Some c) p)) [
  | true ↦ refl
  | false ↦ h
]
temps_first seat change c false o p h = elim (c.seat == seat) as (λ m. option_map binding_of (cond m (Some c) o) ≡ option_map binding_of (cond m (Some c) p)) [
  | true ↦ refl
  | false ↦ h
]

-- nor do its temporaries
binding-temps : (seat other : ℕ) (change : TempChange) (cs : List Connection) → binding (map (temps_changed other change) cs) seat ≡ binding cs seat
binding-temps seat other change [] = refl
binding-temps seat other change (c ∷ cs) = temps_first seat change c (c.seat == other) (connection_of (map (temps_changed other change) cs) seat) (connection_of cs seat) (binding-temps seat other change cs)

named_bound : (seat : ℕ) (c : Connection) (change : NameChange) (cs : List Connection) → binding (connections_named c change cs) seat ≡ binding cs seat
named_bound seat c NamesStay cs = refl
named_bound seat c (Names naming) cs = binding-named seat c.seat naming cs
named_bound seat c (Temps change) cs = binding-temps seat c.seat change cs

settled_bound : (s : State) (c : Connection) (v : Option NodeVerdict) (seat : ℕ) → bound (settled_on_node s c v).0 seat ≡ bound s seat
settled_bound s c None seat = refl
settled_bound s c (Some (Errs errno)) seat = refl
settled_bound s c (Some (Yields d)) seat = named_bound seat c d.names (connections_after c d.handle s.connections) ∙ changed_bound seat c d.handle s.connections

node_bound : (s : State) (r : NodeRequest) (given : Given) (o : Option Connection) (seat : ℕ) → bound (node_step s r given o).0 seat ≡ bound s seat
node_bound s r given None seat = refl
node_bound s r given (Some c) seat = settled_bound (all_told c.seat s) c (node_given (walk_on_node (all_told c.seat s) c r) given) seat ∙ binding-told seat c.seat s.connections

requeued_first : (seat other : ℕ) (change : List (List ℕ) → List (List ℕ)) (c : Connection) (b : Bool) (o p : Option Connection) → option_map binding_of o ≡ option_map binding_of p →
    option_map binding_of (cond ((cond b (record c { queue = change c.queue }) c).seat == seat) (Some (cond b (record c { queue = change c.queue }) c)) o) ≡ option_map binding_of (cond (c.seat == seat) (Some c) p)
requeued_first seat other change c true o p h = elim (c.seat == seat) as (λ m. option_map binding_of (cond m (Some (record c { queue = change c.queue })) o) ≡ option_map binding_of (cond m (Some c) p)) [
  | true ↦ refl
  | false ↦ h
]
requeued_first seat other change c false o p h = elim (c.seat == seat) as (λ m. option_map binding_of (cond m (Some c) o) ≡ option_map binding_of (cond m (Some c) p)) [
  | true ↦ refl
  | false ↦ h
]

binding-requeued : (seat other : ℕ) (change : List (List ℕ) → List (List ℕ)) (cs : List Connection) → binding (map (requeued other change) cs) seat ≡ binding cs seat
binding-requeued seat other change [] = refl
binding-requeued seat other change (c ∷ cs) =
    requeued_first seat other change c (c.seat == other) (connection_of (map (requeued other change) cs) seat) (connection_of cs seat) (binding-requeued seat other change cs)

told_change_first : (seat : ℕ) (change : Change) (c : Connection) (b : Bool) (o p : Option Connection) → option_map binding_of o ≡ option_map binding_of p →
    option_map binding_of (cond ((cond b (record c { unsent = c.unsent ++ change ∷ [] }) c).seat == seat) (Some (cond b (record c { unsent = c.unsent ++ change ∷ [] }) c)) o) ≡ option_map binding_of (cond (c.seat == seat) (Some c) p)
told_change_first seat change c true o p h = elim (c.seat == seat) as (λ m. option_map binding_of (cond m (Some (record c { unsent = c.unsent ++ change ∷ [] })) o) ≡ option_map binding_of (cond m (Some c) p)) [
  | true ↦ refl
  | false ↦ h
]
told_change_first seat change c false o p h = elim (c.seat == seat) as (λ m. option_map binding_of (cond m (Some c) o) ≡ option_map binding_of (cond m (Some c) p)) [
  | true ↦ refl
  | false ↦ h
]

-- a change that connections wait for ends none and binds none otherwise
binding-changed : (seat : ℕ) (change : Change) (cs : List Connection) → binding (map (told_change change) cs) seat ≡ binding cs seat
binding-changed seat change [] = refl
binding-changed seat change (c ∷ cs) =
    told_change_first seat change c (is_host_bus c.who c.kind) (connection_of (map (told_change change) cs) seat) (connection_of cs seat) (binding-changed seat change cs)

bus_bound : (s : State) (request : Request) (given : Given) (o : Option Connection) (seat : ℕ) → bound (bus_step s request given o).0 seat ≡ bound s seat
bus_bound s request given o seat =
    bus_step-holds (λ (t : State). bound t seat ≡ bound s seat) (λ t told h. binding-told seat told t.connections ∙ h)
    (λ t other change h. binding-requeued seat other change t.connections ∙ h) (λ t ds made rights apps h. h) (λ t es h. h) (λ t change h. binding-changed seat change t.connections ∙ h) s request given o refl

own_bound : (s : State) (seat : ℕ) (request : Request) (given : Given) → bound (request_step s seat request given).0 seat ≡ bound_after (bound s seat) request
own_bound s seat (Request.Enter who kind) given = enter_bound seat who kind s.connections (connection_of s.connections seat) refl
own_bound s seat Request.Leave given = leave_bound seat s.connections (connection_of s.connections seat) refl
own_bound s seat Request.Collect given = collect_bound s (bus_of (connection_of s.connections seat)) seat
own_bound s seat (Request.Node r) given = node_bound s r given (mount_of (connection_of s.connections seat)) seat
own_bound s seat request given = bus_bound s request given (bus_of (connection_of s.connections seat)) seat

-- ---- and a request of another

found_old : (seat other : ℕ) (who : Who) (kind : Kind) (cs : List Connection) → (other == seat) ≡ false → connection_of (cs ++ new_connection other who kind ∷ []) seat ≡ connection_of cs seat
found_old seat other who kind [] h = grind (arith, nat_tests)
found_old seat other who kind (c ∷ cs) h = grind (arith, nat_tests, found_old seat other who kind cs)

is_kept : (seat other : ℕ) (c : Connection) → (other == seat) ≡ false → (c.seat == seat) ≡ true → not (c.seat == other) ≡ true
is_kept seat other c h e = grind (arith, nat_tests)

enter_other : (seat other : ℕ) (who : Who) (kind : Kind) (cs : List Connection) (o : Option Connection) → (other == seat) ≡ false → binding (entered other who kind cs o) seat ≡ binding cs seat
enter_other seat other who kind cs None h = ap (option_map binding_of) (found_old seat other who kind cs h)
enter_other seat other who kind cs (Some c) h = refl

leave_other : (seat other : ℕ) (cs : List Connection) (o : Option Connection) → (other == seat) ≡ false → binding (left other cs o) seat ≡ binding cs seat
leave_other seat other cs None h = refl
leave_other seat other cs (Some c) h =
    ap (option_map binding_of) (find-filter (λ (x : Connection). x.seat == seat) (λ (x : Connection). not (x.seat == other)) true (λ x k. is_kept seat other x h k) cs)

other_bound : (s : State) (seat other : ℕ) (request : Request) (given : Given) → (other == seat) ≡ false → bound (request_step s other request given).0 seat ≡ bound s seat
other_bound s seat other (Request.Enter who kind) given h = enter_other seat other who kind s.connections (connection_of s.connections other) h
other_bound s seat other Request.Leave given h = leave_other seat other s.connections (connection_of s.connections other) h
other_bound s seat other Request.Collect given h = collect_bound s (bus_of (connection_of s.connections other)) seat
other_bound s seat other (Request.Node r) given h = node_bound s r given (mount_of (connection_of s.connections other)) seat
other_bound s seat other request given h = bus_bound s request given (bus_of (connection_of s.connections other)) seat

-- ---- a history

one_bound : (s : State) (seat : ℕ) (e : Entry) (b : Bool) (es : List Entry) → (e.seat == seat) ≡ b →
    bound_by (bound (after s e) seat) (of_seat seat es) ≡ bound_by (bound s seat) (cond b (e ∷ of_seat seat es) (of_seat seat es))
one_bound s seat e true es h =
    let own : e.seat ≡ seat = grind (arith, nat_tests) in
    ap (λ (o : Option Binding). bound_by o (of_seat seat es)) (subst (λ (n : ℕ). bound (request_step s n e.request e.given).0 seat ≡ bound_after (bound s seat) e.request) (sym own) (own_bound s seat e.request e.given))
one_bound s seat e false es h = ap (λ (o : Option Binding). bound_by o (of_seat seat es)) (other_bound s seat e.seat e.request e.given h)

pub run-bound : (seat : ℕ) (h : List Entry) (s : State) → bound (run s h) seat ≡ bound_by (bound s seat) (of_seat seat h)
run-bound seat [] s = refl
run-bound seat (e ∷ es) s = run-bound seat es (after s e) ∙ one_bound s seat e (e.seat == seat) es refl

open_is_bound : (o : Option Connection) → is_some o ≡ is_some (option_map binding_of o)
open_is_bound None = refl
open_is_bound (Some c) = refl

pub run-open : (seat : ℕ) (h : List Entry) (s : State) → is_open (run s h) seat ≡ is_some (bound_by (bound s seat) (of_seat seat h))
run-open seat h s = open_is_bound (connection_of (run s h).connections seat) ∙ ap is_some (run-bound seat h s)
