-- What connections have named, and as temporaries, goes with the state that a request leaves.
use Rattle.std.proofs.Common.{◌≡◌, ◌==◌, ◌+◌, ℕ, List, Bool, true, false, cond, Option, Some, None, refl, sym, ap, subst, arith, ◌∙◌}
use Rattle.std.specs.Option.{option_map}
use Rattle.std.proofs.lemmas.Bool.Decides.{nat_tests}
use Rattle.folder_documents.specs.Named.{Named}
use Rattle.portal_model.specs.declared.naming.Naming.{Naming}
use Rattle.portal_model.specs.declared.reply.Answer.{Answer}
use Rattle.portal_model.specs.declared.request.NodeRequest.{NodeRequest}
use Rattle.portal_model.specs.declared.state.Connection.{Connection}
use Rattle.portal_model.specs.Bus.{is_tree, moment_given}
use Rattle.portal_model.specs.Node.{connections_after, connections_named, counted, named_on, node_answer, settled_on_node, taken_after, temps_changed, walk_on_node, with_temps}
use Rattle.portal_model.specs.NodeVerdict.{HandleChange, HandlesStay, Opens, Closes, NameChange, Names, NamesStay, Temps, NodeVerdict, Errs, Yields}
use Rattle.portal_model.specs.SeatNames.{TempChange, with_naming}
use Rattle.portal_model.specs.State.{State, connection_of}
use Rattle.portal_model.specs.Walk.{Walk, walked_with}
use Rattle.save_files.specs.Tables.{TempTable}
use Rattle.node_looks.specs.Done.{file_change, name_change}
use Rattle.node_looks.specs.Served.{given_to}
use Rattle.node_looks.specs.declared.served.NodeDone.{NodeDone}
use Rattle.node_looks.proofs.DoneLemmas.{changed-found, named-found, named-seat, temps-seat}
use Rattle.node_looks.proofs.OpenTable.{seat-of}
use Rattle.file_ops.specs.SeatNames.{AreNamed, AreOwn, OwnTables, SeatNamed, namings_after, namings_in, namings_on}
use Rattle.file_ops.specs.SeatTemps.{AreTemps, HeldTemps, SeatSavedBy, TempsKept, held_after, held_of, temps_in, temps_on}
use Rattle.file_ops.proofs.EachEnd.{so_of, spared-held, spared-names, spared-taken, spares_names, spares_temps}

abbrev namings_of : Option Connection → Option (List Naming)
namings_of o = option_map (λ c. c.namings) o

abbrev held_of_one : Option Connection → Option HeldTemps
held_of_one o = option_map held_of o

same-number : (a b : ℕ) → (a == b) ≡ true → a ≡ b
same-number a b h = grind (arith, nat_tests)

same-seat : (x n seat : ℕ) → x ≡ seat → (x == n) ≡ (n == seat)
same-seat x n seat e = grind (arith, nat_tests)

-- ---- a change by which nothing changes

module _ {X : Type 0} (f : X → X) (same : (x : X) → f x ≡ x) where
  unchanged : (o : Option X) → o ≡ option_map f o
  unchanged None = refl
  unchanged (Some x) = ap (λ (y : X). Some y) (sym (same x))

  unchanged-where : (b : Bool) (o : Option X) → o ≡ cond b (option_map f o) o
  unchanged-where true o = unchanged o
  unchanged-where false o = refl

-- ---- a handle that is counted leaves what is named, and the temporaries

counted-seat : (n : ℕ) (c : Connection) → (counted n c).seat ≡ c.seat
counted-seat n c = elim (c.seat == n) as (λ b. (cond b (record c { opens = c.opens + 1 }) c).seat ≡ c.seat) [ true ↦ refl | false ↦ refl ]

counted-namings : (n : ℕ) (o : Option Connection) → namings_of (option_map (counted n) o) ≡ namings_of o
counted-namings n None = refl
counted-namings n (Some c) = elim (c.seat == n) as (λ b. Some (cond b (record c { opens = c.opens + 1 }) c).namings ≡ Some c.namings) [ true ↦ refl | false ↦ refl ]

counted-held : (n : ℕ) (o : Option Connection) → held_of_one (option_map (counted n) o) ≡ held_of_one o
counted-held n None = refl
counted-held n (Some c) = elim (c.seat == n) as (λ b. Some (held_of (cond b (record c { opens = c.opens + 1 }) c)) ≡ Some (held_of c)) [ true ↦ refl | false ↦ refl ]

handled-names : (c : Connection) (change : HandleChange) (seat : ℕ) (cs : List Connection) → namings_of (connection_of (connections_after c change cs) seat) ≡ namings_of (connection_of cs seat)
handled-names c HandlesStay seat cs = refl
handled-names c (Opens handle) seat cs = ap namings_of (changed-found (counted c.seat) (counted-seat c.seat) seat cs) ∙ counted-namings c.seat (connection_of cs seat)
handled-names c (Closes fh) seat cs = refl

handled-held : (c : Connection) (change : HandleChange) (seat : ℕ) (cs : List Connection) → held_of_one (connection_of (connections_after c change cs) seat) ≡ held_of_one (connection_of cs seat)
handled-held c HandlesStay seat cs = refl
handled-held c (Opens handle) seat cs = ap held_of_one (changed-found (counted c.seat) (counted-seat c.seat) seat cs) ∙ counted-held c.seat (connection_of cs seat)
handled-held c (Closes fh) seat cs = refl

-- ---- what a change makes of what a seat has named

named-at : (n seat : ℕ) (naming : Naming) (o : Option Connection) → ((x : Connection) → o ≡ Some x → x.seat ≡ seat) →
    namings_of (option_map (named_on n naming) o) ≡ cond (n == seat) (option_map (namings_after (Names naming)) (namings_of o)) (namings_of o)
named-at n seat naming None h = unchanged-none (n == seat)
  where
    unchanged-none : (b : Bool) → ◌≡◌ {A = Option (List Naming)} None (cond b None None)
    unchanged-none true = refl
    unchanged-none false = refl
named-at n seat naming (Some x) h =
    ap (λ (b : Bool). Some (cond b (record x { namings = with_naming x.namings naming }) x).namings) (same-seat x.seat n seat (h x refl))
    ∙ elim (n == seat) as (λ b. Some (cond b (record x { namings = with_naming x.namings naming }) x).namings ≡ cond b (Some (with_naming x.namings naming)) (Some x.namings)) [ true ↦ refl | false ↦ refl ]

temped-namings : (n : ℕ) (change : TempChange) (o : Option Connection) → namings_of (option_map (temps_changed n change) o) ≡ namings_of o
temped-namings n change None = refl
temped-namings n change (Some x) = elim (x.seat == n) as (λ b. Some (cond b (with_temps change x) x).namings ≡ Some x.namings) [ true ↦ refl | false ↦ refl ]

changed-names : (c : Connection) (change : NameChange) (cs : List Connection) (seat : ℕ) →
    namings_of (connection_of (connections_named c change cs) seat) ≡ cond (c.seat == seat) (option_map (namings_after change) (namings_of (connection_of cs seat))) (namings_of (connection_of cs seat))
changed-names c NamesStay cs seat = unchanged-where (namings_after NamesStay) (λ x. refl) (c.seat == seat) (namings_of (connection_of cs seat))
changed-names c (Names naming) cs seat =
    ap namings_of (named-found c.seat seat naming cs) ∙ named-at c.seat seat naming (connection_of cs seat) (λ x e. seat-of cs seat x e)
changed-names c (Temps change) cs seat =
    ap namings_of (changed-found (temps_changed c.seat change) (temps-seat c.seat change) seat cs)
    ∙ (temped-namings c.seat change (connection_of cs seat)
    ∙ unchanged-where (namings_after (Temps change)) (λ x. refl) (c.seat == seat) (namings_of (connection_of cs seat)))

settled-changes : (s : State) (c : Connection) (v : Option NodeVerdict) (seat : ℕ) →
    namings_in (settled_on_node s c v).0 seat ≡ cond (c.seat == seat) (option_map (namings_after (name_change v)) (namings_in s seat)) (namings_in s seat)
settled-changes s c None seat = changed-names c NamesStay s.connections seat
settled-changes s c (Some (Errs errno)) seat = changed-names c NamesStay s.connections seat
settled-changes s c (Some (Yields d)) seat =
    changed-names c d.names (connections_after c d.handle s.connections) seat
    ∙ ap (λ (o : Option (List Naming)). cond (c.seat == seat) (option_map (namings_after d.names) o) o) (handled-names c d.handle seat s.connections)

pub settled-named : (s : State) (c : Connection) (v : Option NodeVerdict) (names named : List (ℕ × Named)) → SeatNamed c.seat (name_change v) names named → AreNamed s names → AreNamed (settled_on_node s c v).0 named
settled-named s c v names named h a = λ seat. by seat (c.seat == seat) refl
  where
    by : (seat : ℕ) (b : Bool) → (c.seat == seat) ≡ b → namings_on named seat ≡ namings_in (settled_on_node s c v).0 seat
    by seat true t =
        subst (λ (n : ℕ). namings_on named n ≡ option_map (namings_after (name_change v)) (namings_on names n)) (same-number c.seat seat t) h.there
        ∙ (ap (option_map (namings_after (name_change v))) (a seat)
        ∙ (ap (λ (b : Bool). cond b (option_map (namings_after (name_change v)) (namings_in s seat)) (namings_in s seat)) (sym t) ∙ sym (settled-changes s c v seat)))
    by seat false t =
        h.elsewhere seat t
        ∙ (a seat
        ∙ (ap (λ (b : Bool). cond b (option_map (namings_after (name_change v)) (namings_in s seat)) (namings_in s seat)) (sym t) ∙ sym (settled-changes s c v seat)))

-- ---- and of its temporaries

named-held : (n : ℕ) (naming : Naming) (o : Option Connection) → held_of_one (option_map (named_on n naming) o) ≡ held_of_one o
named-held n naming None = refl
named-held n naming (Some x) = elim (x.seat == n) as (λ b. Some (held_of (cond b (record x { namings = with_naming x.namings naming }) x)) ≡ Some (held_of x)) [ true ↦ refl | false ↦ refl ]

temped-at : (n seat : ℕ) (change : TempChange) (o : Option Connection) → ((x : Connection) → o ≡ Some x → x.seat ≡ seat) →
    held_of_one (option_map (temps_changed n change) o) ≡ cond (n == seat) (option_map (held_after (Temps change)) (held_of_one o)) (held_of_one o)
temped-at n seat change None h = unchanged-none (n == seat)
  where
    unchanged-none : (b : Bool) → ◌≡◌ {A = Option HeldTemps} None (cond b None None)
    unchanged-none true = refl
    unchanged-none false = refl
temped-at n seat change (Some x) h =
    ap (λ (b : Bool). Some (held_of (cond b (with_temps change x) x))) (same-seat x.seat n seat (h x refl))
    ∙ elim (n == seat) as (λ b. Some (held_of (cond b (with_temps change x) x)) ≡ cond b (Some (held_after (Temps change) (held_of x))) (Some (held_of x))) [ true ↦ refl | false ↦ refl ]

changed-held : (c : Connection) (change : NameChange) (cs : List Connection) (seat : ℕ) →
    held_of_one (connection_of (connections_named c change cs) seat) ≡ cond (c.seat == seat) (option_map (held_after change) (held_of_one (connection_of cs seat))) (held_of_one (connection_of cs seat))
changed-held c NamesStay cs seat = unchanged-where (held_after NamesStay) (λ x. refl) (c.seat == seat) (held_of_one (connection_of cs seat))
changed-held c (Names naming) cs seat =
    ap held_of_one (changed-found (named_on c.seat naming) (named-seat c.seat naming) seat cs)
    ∙ (named-held c.seat naming (connection_of cs seat)
    ∙ unchanged-where (held_after (Names naming)) (λ x. refl) (c.seat == seat) (held_of_one (connection_of cs seat)))
changed-held c (Temps change) cs seat =
    ap held_of_one (changed-found (temps_changed c.seat change) (temps-seat c.seat change) seat cs)
    ∙ temped-at c.seat seat change (connection_of cs seat) (λ x e. seat-of cs seat x e)

settled-held : (s : State) (c : Connection) (v : Option NodeVerdict) (seat : ℕ) →
    temps_in (settled_on_node s c v).0 seat ≡ cond (c.seat == seat) (option_map (held_after (name_change v)) (temps_in s seat)) (temps_in s seat)
settled-held s c None seat = changed-held c NamesStay s.connections seat
settled-held s c (Some (Errs errno)) seat = changed-held c NamesStay s.connections seat
settled-held s c (Some (Yields d)) seat =
    changed-held c d.names (connections_after c d.handle s.connections) seat
    ∙ ap (λ (o : Option HeldTemps). cond (c.seat == seat) (option_map (held_after d.names) o) o) (handled-held c d.handle seat s.connections)

settled-taken : (s : State) (c : Connection) (v : Option NodeVerdict) → (settled_on_node s c v).0.taken ≡ taken_after (file_change v) s.taken
settled-taken s c None = refl
settled-taken s c (Some (Errs errno)) = refl
settled-taken s c (Some (Yields d)) = refl

pub settled-temps : (s : State) (c : Connection) (v : Option NodeVerdict) (before after : TempTable) → SeatSavedBy c.seat v before after → AreTemps s before → AreTemps (settled_on_node s c v).0 after
settled-temps s c v before after h a = record {
  each = λ seat. by seat (c.seat == seat) refl;
  taken = h.taken ∙ (ap (taken_after (file_change v)) a.taken ∙ sym (settled-taken s c v));
}
  where
    by : (seat : ℕ) (b : Bool) → (c.seat == seat) ≡ b → temps_on after.seats seat ≡ temps_in (settled_on_node s c v).0 seat
    by seat true t =
        subst (λ (n : ℕ). temps_on after.seats n ≡ option_map (held_after (name_change v)) (temps_on before.seats n)) (same-number c.seat seat t) h.temps.there
        ∙ (ap (option_map (held_after (name_change v))) (a.each seat)
        ∙ (ap (λ (b : Bool). cond b (option_map (held_after (name_change v)) (temps_in s seat)) (temps_in s seat)) (sym t) ∙ sym (settled-held s c v seat)))
    by seat false t =
        h.temps.elsewhere seat t
        ∙ (a.each seat
        ∙ (ap (λ (b : Bool). cond b (option_map (held_after (name_change v)) (temps_in s seat)) (temps_in s seat)) (sym t) ∙ sym (settled-held s c v seat)))

-- ---- tables that stay

pub names-same : (seat : ℕ) (v : Option NodeVerdict) (names : List (ℕ × Named)) → so_of spares_names v ≡ true → SeatNamed seat (name_change v) names names
names-same seat v names h = record { there = unchanged (namings_after (name_change v)) (spared-names v h) (namings_on names seat); elsewhere = λ other e. refl }

pub temps-same : (seat : ℕ) (v : Option NodeVerdict) (temps : TempTable) → so_of spares_temps v ≡ true → SeatSavedBy seat v temps temps
temps-same seat v temps h = record {
  temps = record { there = unchanged (held_after (name_change v)) (spared-held v h) (temps_on temps.seats seat); elsewhere = λ other e. refl };
  taken = sym (spared-taken v h temps.taken);
}

-- or are kept, where memory was taken
pub temps-kept : (seat : ℕ) (v : Option NodeVerdict) (old new : TempTable) → so_of spares_temps v ≡ true → TempsKept old new → SeatSavedBy seat v old new
temps-kept seat v old new h k = record {
  temps = record {
    there = k.0 seat ∙ unchanged (held_after (name_change v)) (spared-held v h) (temps_on old.seats seat);
    elsewhere = λ other e. k.0 other;
  };
  taken = k.1 ∙ sym (spared-taken v h old.taken);
}

-- first kept, and then changed
pub temps-behind : (seat : ℕ) (v : Option NodeVerdict) (old mid new : TempTable) → TempsKept old mid → SeatSavedBy seat v mid new → SeatSavedBy seat v old new
temps-behind seat v old mid new k h = record {
  temps = record {
    there = h.temps.there ∙ ap (option_map (held_after (name_change v))) (k.0 seat);
    elsewhere = λ other e. h.temps.elsewhere other e ∙ k.0 other;
  };
  taken = h.taken ∙ ap (taken_after (file_change v)) k.1;
}

-- ---- behind a request

-- what the seat of a call has named
pub seat-names : (s : State) (c : Connection) (seat : ℕ) (names : List (ℕ × Named)) → AreNamed s names → connection_of s.connections seat ≡ Some c → namings_on names seat ≡ Some c.namings
seat-names s c seat names a e = a seat ∙ ap namings_of e

-- and its temporaries
pub seat-temps : (s : State) (c : Connection) (seat : ℕ) (temps : TempTable) → AreTemps s temps → connection_of s.connections seat ≡ Some c → temps_on temps.seats seat ≡ Some (held_of c)
seat-temps s c seat temps a e = a.each seat ∙ ap held_of_one e

-- by what its walk comes to
pub own-settled : (s : State) (c : Connection) (seat : ℕ) (r : NodeRequest) (w : Walk NodeVerdict) (done : NodeDone) (v : Option NodeVerdict) (had own : OwnTables) → connection_of s.connections seat ≡ Some c → walk_on_node s c r ≡ w →
    walked_with w (moment_given done.now) done.listed done.looks (is_tree done.fault) ≡ v → SeatNamed seat (name_change v) had.names own.names → SeatSavedBy seat v had.temps own.temps → AreOwn s had → AreOwn (node_answer s c r (given_to done)).0 own
own-settled s c seat r w done v had own here e k n t a =
    subst (λ (p : State × Answer). AreOwn p.0 own) (sym step) (record {
      named = settled-named s c v had.names own.names (subst (λ (m : ℕ). SeatNamed m (name_change v) had.names own.names) (sym is) n) a.named;
      temps = settled-temps s c v had.temps own.temps (subst (λ (m : ℕ). SeatSavedBy m v had.temps own.temps) (sym is) t) a.temps;
    })
  where
    is : c.seat ≡ seat
    is = seat-of s.connections seat c here

    step : node_answer s c r (given_to done) ≡ settled_on_node s c v
    step = ap (λ (x : Walk NodeVerdict). settled_on_node s c (walked_with x (moment_given done.now) done.listed done.looks (is_tree done.fault))) e ∙ ap (settled_on_node s c) k
