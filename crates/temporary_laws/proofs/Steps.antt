-- No entry brings temporaries together.
use Rattle.std.proofs.Common.{◌≡◌, ℕ, ◌+◌, ◌==◌, nat_eq, List, [], ◌∷◌, ◌++◌, map, Bool, true, false, not, ◌&&◌, ◌||◌, cond, Option, Some, None, refl, sym, ap, subst, ◌∙◌, arith}
use Rattle.std.proofs.lemmas.Bool.Decides.{nat_tests}
use Rattle.std.specs.List.{filter, find, list_all, AllByRecursion, IsDistinct}
use Rattle.portal_base.specs.declared.files.FileName.{FileName}
use Rattle.portal_base.specs.declared.who.Kind.{Kind}
use Rattle.portal_base.specs.declared.who.Who.{Who}
use Rattle.portal_model.specs.declared.entry.Entry.{Entry}
use Rattle.portal_model.specs.declared.entry.Given.{Given}
use Rattle.portal_model.specs.declared.handle.OpenHandle.{OpenHandle}
use Rattle.portal_model.specs.declared.naming.Naming.{Naming}
use Rattle.portal_model.specs.declared.reply.Change.{Change}
use Rattle.portal_model.specs.declared.request.NodeRequest.{NodeRequest}
use Rattle.portal_model.specs.declared.request.Request.{Request}
use Rattle.portal_model.specs.declared.state.Connection.{Connection}
use Rattle.portal_model.specs.declared.temporary.OwnTemp.{OwnTemp}
use Rattle.portal_model.specs.Bus.{is_tree}
use Rattle.portal_model.specs.Enter.{entered, new_connection}
use Rattle.portal_model.specs.History.{EachLawful, run}
use Rattle.portal_model.specs.Lawful.{LawfulGiven, LawfulOnNode}
use Rattle.portal_model.specs.Leave.{handles_left, left}
use Rattle.portal_model.specs.Node.{connections_after, connections_named, counted, handles_after, named_on, new_handle, node_given, settled_on_node, temps_changed, walk_on_node, with_temps}
use Rattle.portal_model.specs.NodeVerdict.{FileChange, FilesStay, Writes, Resizes, Creates, Adds, Stands, HandleChange, HandlesStay, Opens, Closes, NameChange, NamesStay, Names, Temps, NodeVerdict, Errs, Yields}
use Rattle.portal_model.specs.Present.{requeued}
use Rattle.portal_model.specs.SeatNames.{Begins, Drops, Renames, with_naming, without_temp}
use Rattle.portal_model.specs.State.{State, connection_of, held_in, is_handle}
use Rattle.portal_model.specs.Step.{after, all_told, bus_of, bus_step, collect_step, mount_of, node_step, request_step, told_of}
use Rattle.portal_model.specs.StoreRequest.{told_change}
use Rattle.portal_model.specs.Valid.{Valid, is_host_bus}
use Rattle.portal_model.specs.Walk.{Gives}
use Rattle.portal_model.proofs.BusLaws.{bus_step-holds}
use Rattle.portal_model.proofs.NodeWalks.{IfMet}
use Rattle.portal_model.proofs.StaysTold.{step_told}
use Rattle.portal_model.proofs.ValidLaws.{after-Valid}
use Rattle.app_world.specs.View.{is_held_name, same_name}
use Rattle.app_world.proofs.HeldFiles.{name-turned}
use Rattle.app_world.proofs.NamedPaths.{handle_more}
use Rattle.app_world.proofs.WalksAlong.{BeginsNew, CanBe, OpensOn}
use Rattle.file_laws.proofs.SeatMounts.{mount-seat}
use Rattle.temporary_laws.proofs.Apart.{Alone, Apart, Differ, EachDiffer, EachName, EachTemp, both, each-name, file_of, first-both, found-name-in, has_temp, names_in, none-is, opens, or-first, or-second, others_closed, others_without, second-both, seat-itself}
use Rattle.temporary_laws.proofs.Changes.{KeepsTemps, OpensApart, StandsApart, begun-apart, change-apart, dropped-apart, filtered-apart, handles-apart, handles-fewer, joined-apart, mapped-apart, mapped-without, renamed-apart}
use Rattle.temporary_laws.proofs.Dropped.{DropsIt, Lets, node-lets, others-left}
use Rattle.temporary_laws.proofs.OwnSights.{Known, New, node-can, own-alone}

abbrev pub IsApart : State → Type 0
IsApart s = Apart s.files s.handles s.connections

-- ---- connections that change in other things

pub told-keeps : (seat : ℕ) → KeepsTemps (told_of seat)
told-keeps seat = record {
  seat = λ c. elim (c.seat == seat) as (λ b. (cond b (record c { unsent = [] }) c).seat ≡ c.seat) [ true ↦ refl | false ↦ refl ];
  temps = λ c. elim (c.seat == seat) as (λ b. (cond b (record c { unsent = [] }) c).temps ≡ c.temps) [ true ↦ refl | false ↦ refl ];
}

requeued-keeps : (seat : ℕ) (change : List (List ℕ) → List (List ℕ)) → KeepsTemps (requeued seat change)
requeued-keeps seat change = record {
  seat = λ c. elim (c.seat == seat) as (λ b. (cond b (record c { queue = change c.queue }) c).seat ≡ c.seat) [ true ↦ refl | false ↦ refl ];
  temps = λ c. elim (c.seat == seat) as (λ b. (cond b (record c { queue = change c.queue }) c).temps ≡ c.temps) [ true ↦ refl | false ↦ refl ];
}

counted-keeps : (seat : ℕ) → KeepsTemps (counted seat)
counted-keeps seat = record {
  seat = λ c. elim (c.seat == seat) as (λ b. (cond b (record c { opens = c.opens + 1 }) c).seat ≡ c.seat) [ true ↦ refl | false ↦ refl ];
  temps = λ c. elim (c.seat == seat) as (λ b. (cond b (record c { opens = c.opens + 1 }) c).temps ≡ c.temps) [ true ↦ refl | false ↦ refl ];
}

named-keeps : (seat : ℕ) (naming : Naming) → KeepsTemps (named_on seat naming)
named-keeps seat naming = record {
  seat = λ c. elim (c.seat == seat) as (λ b. (cond b (record c { namings = with_naming c.namings naming }) c).seat ≡ c.seat) [ true ↦ refl | false ↦ refl ];
  temps = λ c. elim (c.seat == seat) as (λ b. (cond b (record c { namings = with_naming c.namings naming }) c).temps ≡ c.temps) [ true ↦ refl | false ↦ refl ];
}

change-keeps : (change : Change) → KeepsTemps (told_change change)
change-keeps change = record {
  seat = λ c. elim (is_host_bus c.who c.kind) as (λ b. (cond b (record c { unsent = c.unsent ++ change ∷ [] }) c).seat ≡ c.seat) [ true ↦ refl | false ↦ refl ];
  temps = λ c. elim (is_host_bus c.who c.kind) as (λ b. (cond b (record c { unsent = c.unsent ++ change ∷ [] }) c).temps ≡ c.temps) [ true ↦ refl | false ↦ refl ];
}

-- ---- the connection of a seat

module _ (P : Connection → Type 0) where
  abbrev pub Each : List Connection → Type 0
  Each [] = Unit {0}
  Each (c ∷ cs) = P c × Each cs

-- it is the only one of its seat
pub seat-has : (cs : List Connection) (k : ℕ) (c : Connection) → IsDistinct nat_eq (map (λ (x : Connection). x.seat) cs) → connection_of cs k ≡ Some c → Each (λ d. (d.seat == k) ≡ true → d ≡ c) cs
unfolding IsDistinct
seat-has [] k c d e = tt
seat-has (x ∷ xs) k c d e = step (x.seat == k) refl e (seat-has xs k c d.1)
  where
    other : (m n : ℕ) → nat_eq m n ≡ false → (m == k) ≡ true → (n == k) ≡ false
    other m n f g = grind (arith, nat_tests)

    none : (x.seat == k) ≡ true → (ys : List Connection) → AllByRecursion (λ n. nat_eq x.seat n ≡ false) (map (λ (y : Connection). y.seat) ys) → Each (λ y. (y.seat == k) ≡ true → y ≡ c) ys
    none f [] h = tt
    none f (y ∷ ys) h = (λ g. let no : true ≡ false = sym g ∙ other x.seat y.seat h.0 f in cc, none f ys h.1)

    step : (b : Bool) → (x.seat == k) ≡ b → cond b (Some x) (connection_of xs k) ≡ Some c → (connection_of xs k ≡ Some c → Each (λ y. (y.seat == k) ≡ true → y ≡ c) xs) → Each (λ y. (y.seat == k) ≡ true → y ≡ c) (x ∷ xs)
    step true f g more = (λ h. let same : x ≡ c = cc in same, none f xs d.0)
    step false f g more = (λ h. let no : true ≡ false = sym h ∙ f in cc, more g)

-- each connection is the one of its seat
pub each-here : (cs : List Connection) → IsDistinct nat_eq (map (λ (c : Connection). c.seat) cs) → Each (λ c. connection_of cs c.seat ≡ Some c) cs
unfolding IsDistinct
each-here [] d = tt
each-here (c ∷ cs) d = (ap (λ (b : Bool). cond b (Some c) (connection_of cs c.seat)) (seat-itself c.seat), behind cs d.0 (each-here cs d.1))
  where
    other : (m n : ℕ) → nat_eq m n ≡ false → (m == n) ≡ false
    other m n e = grind (arith, nat_tests)

    behind : (xs : List Connection) → AllByRecursion (λ n. nat_eq c.seat n ≡ false) (map (λ (x : Connection). x.seat) xs) → Each (λ x. connection_of cs x.seat ≡ Some x) xs → Each (λ x. connection_of (c ∷ cs) x.seat ≡ Some x) xs
    behind [] a e = tt
    behind (x ∷ xs) a e = (ap (λ (b : Bool). cond b (Some c) (connection_of cs x.seat)) (other c.seat x.seat a.0) ∙ e.0, behind xs a.1 e.1)

-- ---- a request on a node

module _ (k : ℕ) (ts : List OwnTemp) where
  -- the connection of the seat has these temporaries
  abbrev HasTemps : List Connection → Type 0
  HasTemps cs = Each (λ d. (d.seat == k) ≡ true → d.temps ≡ ts) cs

  mapped-has : (f : Connection → Connection) → KeepsTemps f → (cs : List Connection) → HasTemps cs → HasTemps (map f cs)
  mapped-has f e [] h = tt
  mapped-has f e (d ∷ cs) h = (λ g. e.temps d ∙ h.0 (ap (λ (m : ℕ). m == k) (sym (e.seat d)) ∙ g), mapped-has f e cs h.1)

none-mapped : (f : Connection → Connection) → KeepsTemps f → (n : FileName) (cs : List Connection) → list_all (λ d. not (has_temp n d)) (map f cs) ≡ list_all (λ d. not (has_temp n d)) cs
none-mapped f e n [] = refl
none-mapped f e n (d ∷ cs) = λ i. not (is_held_name (names_in (e.temps d i)) n) && none-mapped f e n cs i

-- what was open on no seat is open on the seat alone that opens it
closed-after : (c : Connection) (change : HandleChange) (n : FileName) (hs : List OpenHandle) → list_all (λ h. not (opens n h)) hs ≡ true → others_closed c.seat n (handles_after c change hs) ≡ true
closed-after c HandlesStay n [] h = refl
closed-after c HandlesStay n (x ∷ hs) h =
    both (x.seat == c.seat || not (opens n x)) (others_closed c.seat n hs) (or-second (x.seat == c.seat) (not (opens n x)) (first-both (not (opens n x)) (list_all (λ y. not (opens n y)) hs) h))
    (closed-after c HandlesStay n hs (second-both (not (opens n x)) (list_all (λ y. not (opens n y)) hs) h))
closed-after c (Opens handle) n [] h = both (c.seat == c.seat || not (opens n (new_handle c handle))) true (or-first (c.seat == c.seat) (not (opens n (new_handle c handle))) (seat-itself c.seat)) refl
closed-after c (Opens handle) n (x ∷ hs) h =
    both (x.seat == c.seat || not (opens n x)) (others_closed c.seat n (hs ++ new_handle c handle ∷ [])) (or-second (x.seat == c.seat) (not (opens n x)) (first-both (not (opens n x)) (list_all (λ y. not (opens n y)) hs) h))
    (closed-after c (Opens handle) n hs (second-both (not (opens n x)) (list_all (λ y. not (opens n y)) hs) h))
closed-after c (Closes fh) n [] h = refl
closed-after c (Closes fh) n (x ∷ hs) h = step (not (is_handle c.seat fh x)) (closed-after c (Closes fh) n hs (second-both (not (opens n x)) (list_all (λ y. not (opens n y)) hs) h))
  where
    step : (b : Bool) → others_closed c.seat n (filter (λ y. not (is_handle c.seat fh y)) hs) ≡ true →
        others_closed c.seat n (cond b (x ∷ filter (λ y. not (is_handle c.seat fh y)) hs) (filter (λ y. not (is_handle c.seat fh y)) hs)) ≡ true
    step true m =
        both (x.seat == c.seat || not (opens n x)) (others_closed c.seat n (filter (λ y. not (is_handle c.seat fh y)) hs))
        (or-second (x.seat == c.seat) (not (opens n x)) (first-both (not (opens n x)) (list_all (λ y. not (opens n y)) hs) h)) m
    step false m = m

module _ (s : State) (v : Valid s) (told : s.told ≡ true) (a : IsApart s) (c : Connection) (here : connection_of s.connections c.seat ≡ Some c) where
  abbrev cs0 : List Connection
  cs0 = s.connections

  abbrev cs1 : List Connection
  cs1 = map (told_of c.seat) s.connections

  abbrev after_handle : HandleChange → List Connection
  after_handle change = connections_after c change cs1

  told-apart : Apart s.files s.handles cs1
  told-apart = mapped-apart (told_of c.seat) (told-keeps c.seat) s.files s.handles s.connections a

  -- connections behind a change of handles
  counted-apart : (change : HandleChange) → Apart s.files s.handles (after_handle change)
  counted-apart HandlesStay = told-apart
  counted-apart (Opens handle) = mapped-apart (counted c.seat) (counted-keeps c.seat) s.files s.handles cs1 told-apart
  counted-apart (Closes fh) = told-apart

  same-without : (change : HandleChange) (k : ℕ) (n : FileName) → others_without k n (after_handle change) ≡ others_without k n cs0
  same-without HandlesStay k n = mapped-without (told_of c.seat) (told-keeps c.seat) k n cs0
  same-without (Opens handle) k n = mapped-without (counted c.seat) (counted-keeps c.seat) k n cs1 ∙ mapped-without (told_of c.seat) (told-keeps c.seat) k n cs0
  same-without (Closes fh) k n = mapped-without (told_of c.seat) (told-keeps c.seat) k n cs0

  same-none : (change : HandleChange) (n : FileName) → list_all (λ d. not (has_temp n d)) (after_handle change) ≡ list_all (λ d. not (has_temp n d)) cs0
  same-none HandlesStay n = none-mapped (told_of c.seat) (told-keeps c.seat) n cs0
  same-none (Opens handle) n = none-mapped (counted c.seat) (counted-keeps c.seat) n cs1 ∙ none-mapped (told_of c.seat) (told-keeps c.seat) n cs0
  same-none (Closes fh) n = none-mapped (told_of c.seat) (told-keeps c.seat) n cs0

  own-temps : HasTemps c.seat c.temps cs0
  own-temps = go cs0 (seat-has cs0 c.seat c v.seats_differ here)
    where
      go : (xs : List Connection) → Each (λ d. (d.seat == c.seat) ≡ true → d ≡ c) xs → HasTemps c.seat c.temps xs
      go [] h = tt
      go (d ∷ xs) h = (λ g. ap (λ (x : Connection). x.temps) (h.0 g), go xs h.1)

  has-after : (change : HandleChange) → HasTemps c.seat c.temps (after_handle change)
  has-after HandlesStay = mapped-has c.seat c.temps (told_of c.seat) (told-keeps c.seat) cs0 own-temps
  has-after (Opens handle) = mapped-has c.seat c.temps (counted c.seat) (counted-keeps c.seat) cs1 (mapped-has c.seat c.temps (told_of c.seat) (told-keeps c.seat) cs0 own-temps)
  has-after (Closes fh) = mapped-has c.seat c.temps (told_of c.seat) (told-keeps c.seat) cs0 own-temps

  -- handles
  opens-apart : (change : HandleChange) → OpensOn (held_in s) (Known s v told a c here) (New s v told a c here) change → OpensApart (after_handle change) c change
  opens-apart HandlesStay h = tt
  opens-apart (Opens handle) h = handle_more (λ n. others_without c.seat n cs0 ≡ true) (λ n. others_without c.seat n (after_handle (Opens handle)) ≡ true) (λ n k. same-without (Opens handle) c.seat n ∙ k) (Some handle) h
  opens-apart (Closes fh) h = tt

  handled-apart : (change : HandleChange) → OpensOn (held_in s) (Known s v told a c here) (New s v told a c here) change → Apart s.files (handles_after c change s.handles) (after_handle change)
  handled-apart change h = handles-apart s.files (after_handle change) s.handles c change (opens-apart change h) (counted-apart change)

  -- names
  names-apart : (change : HandleChange) (names : NameChange) → OpensOn (held_in s) (Known s v told a c here) (New s v told a c here) change → BeginsNew (held_in s) (Known s v told a c here) (New s v told a c here) names →
      Apart s.files (handles_after c change s.handles) (connections_named c names (after_handle change))
  names-apart change NamesStay h n = handled-apart change h
  names-apart change (Names naming) h n = mapped-apart (named_on c.seat naming) (named-keeps c.seat naming) s.files (handles_after c change s.handles) (after_handle change) (handled-apart change h)
  names-apart change (Temps (Begins temp)) h n =
      begun-apart s.files (handles_after c change s.handles) c.seat temp (after_handle change) n.later n.hidden (closed-after c change temp.file s.handles n.closed) (same-none change temp.file ∙ n.none) (handled-apart change h)
  names-apart change (Temps (Drops k)) h n = dropped-apart s.files (handles_after c change s.handles) (after_handle change) c.seat k (handled-apart change h)
  names-apart change (Temps (Renames k temp name)) h n = renamed-apart s.files (handles_after c change s.handles) (after_handle change) c.seat k temp name (handled-apart change h)

  -- a file that stands is none of what is left
  own-differ : Differ (names_in c.temps)
  own-differ = go cs0 here a.differ
    where
      go : (xs : List Connection) → connection_of xs c.seat ≡ Some c → EachDiffer xs → Differ (names_in c.temps)
      go [] e h = cc
      go (d ∷ xs) e h = step (d.seat == c.seat) e (λ f. go xs f h.1)
        where
          step : (b : Bool) → cond b (Some d) (connection_of xs c.seat) ≡ Some c → (connection_of xs c.seat ≡ Some c → Differ (names_in c.temps)) → Differ (names_in c.temps)
          step true f more = let same : d ≡ c = cc in subst (λ (x : Connection). Differ (names_in x.temps)) same h.0
          step false f more = more f

  left-apart : (test : OwnTemp → Bool) (t : OwnTemp) → find test c.temps ≡ Some t → (xs : List Connection) → HasTemps c.seat c.temps xs → others_without c.seat (file_of t) xs ≡ true → EachTemp (λ seat n. same_name (file_of t) n ≡ false) (map (temps_changed c.seat (Drops t.k)) xs)
  left-apart test t e [] h w = tt
  left-apart test t e (d ∷ xs) h w = (
    step (d.seat == c.seat) refl (first-both (d.seat == c.seat || not (has_temp (file_of t) d)) (others_without c.seat (file_of t) xs) w),
    left-apart test t e xs h.1 (second-both (d.seat == c.seat || not (has_temp (file_of t) d)) (others_without c.seat (file_of t) xs) w),
  )
    where
      untrue : (b : Bool) → not b ≡ true → b ≡ false
      untrue true f = cc
      untrue false f = refl

      step : (b : Bool) → (d.seat == c.seat) ≡ b → (b || not (has_temp (file_of t) d)) ≡ true → EachName (λ n. same_name (file_of t) n ≡ false) (names_in (cond b (with_temps (Drops t.k) d) d).temps)
      step true f x = subst (λ (ts : List OwnTemp). EachName (λ n. same_name (file_of t) n ≡ false) (names_in (without_temp ts t.k))) (sym (h.0 f)) (others-left test c.temps t e own-differ)
      step false f x =
          each-name (λ n. same_name n (file_of t) ≡ false) (λ n. same_name (file_of t) n ≡ false) (λ n k. name-turned (file_of t) n ∙ k) (names_in d.temps)
          (none-is (file_of t) (names_in d.temps) (untrue (has_temp (file_of t) d) x))

  stands-apart : (change : HandleChange) (names : NameChange) (file : FileChange) → DropsIt c.temps file names → StandsApart (connections_named c names (after_handle change)) file
  stands-apart change names FilesStay h = tt
  stands-apart change names (Writes name offset content now) h = tt
  stands-apart change names (Resizes name size now) h = tt
  stands-apart change names (Creates path now) h = tt
  stands-apart change names (Adds name now) h = tt
  stands-apart change names (Stands name) h =
      let own : others_without c.seat (file_of h.temp) cs0 ≡ true = found-name-in (λ n. others_without c.seat n cs0 ≡ true) h.test c.temps h.temp (each-name (Alone s.files s.handles cs0 c.seat) (λ n. others_without c.seat n cs0 ≡ true) (λ n x. x.only) (names_in c.temps) (own-alone s v told a c here)) h.there in
      subst (λ (x : NameChange). EachTemp (λ seat n. same_name name n ≡ false) (connections_named c x (after_handle change))) (sym h.dropped)
      (subst (λ (m : FileName). EachTemp (λ seat n. same_name m n ≡ false) (map (temps_changed c.seat (Drops h.temp.k)) (after_handle change))) (sym h.is)
      (left-apart h.test h.temp h.there (after_handle change) (has-after change) (same-without change c.seat (file_of h.temp) ∙ own)))

  settled-apart : (o : Option NodeVerdict) → CanBe (held_in s) (Known s v told a c here) (New s v told a c here) o → IfMet (Some (held_in s)) (Lets c.temps) o → IsApart (settled_on_node (all_told c.seat s) c o).0
  settled-apart None can lets = told-apart
  settled-apart (Some (Errs errno)) can lets = told-apart
  settled-apart (Some (Yields d)) can lets =
      change-apart (held_in s) (handles_after c d.handle s.handles) (connections_named c d.names (after_handle d.handle)) s.told d.file (stands-apart d.handle d.names d.file lets) (names-apart d.handle d.names can.handle can.names)

  pub node-apart : (r : NodeRequest) (given : Given) → Gives (Some (held_in s)) (walk_on_node s c r) given.looks (is_tree given.fault) → IsApart (settled_on_node (all_told c.seat s) c (node_given (walk_on_node s c r) given)).0
  node-apart r given g = settled-apart (node_given (walk_on_node s c r) given) (node-can s v told a c here r given g) (node-lets s c r given g)

mount-apart : (s : State) → Valid s → s.told ≡ true → IsApart s → (seat : ℕ) (r : NodeRequest) (given : Given) (o : Option Connection) → mount_of (connection_of s.connections seat) ≡ o → LawfulOnNode s r given o → IsApart (node_step s r given o).0
mount-apart s v told a seat r given None e l = a
mount-apart s v told a seat r given (Some c) e l =
    let there = mount-seat s.connections seat (connection_of s.connections seat) refl c e in
    let here : connection_of s.connections c.seat ≡ Some c = ap (connection_of s.connections) there.0 ∙ there.1 in
    node-apart s v told a c here r given (subst (λ (b : Bool). Gives (cond b (Some (held_in s)) None) (walk_on_node s c r) given.looks (is_tree given.fault)) told l.looks)

-- ---- any other request

bus-apart : (s : State) (request : Request) (given : Given) (o : Option Connection) → IsApart s → IsApart (bus_step s request given o).0
bus-apart s request given o a =
    bus_step-holds IsApart
    (λ t seat h. mapped-apart (told_of seat) (told-keeps seat) t.files t.handles t.connections h)
    (λ t seat change h. mapped-apart (requeued seat change) (requeued-keeps seat change) t.files t.handles t.connections h)
    (λ t ds made rights apps h. h) (λ t es h. h)
    (λ t change h. mapped-apart (told_change change) (change-keeps change) t.files t.handles t.connections h) s request given o a

collect-apart : (s : State) (o : Option Connection) → IsApart s → IsApart (collect_step s o).0
collect-apart s None a = a
collect-apart s (Some c) a = mapped-apart (told_of c.seat) (told-keeps c.seat) s.files s.handles s.connections a

enter-apart : (s : State) (seat : ℕ) (who : Who) (kind : Kind) (o : Option Connection) → IsApart s → Apart s.files s.handles (entered seat who kind s.connections o)
enter-apart s seat who kind None a = joined-apart (new_connection seat who kind) refl s.files s.handles s.connections a
enter-apart s seat who kind (Some c) a = a

leave-apart : (s : State) (seat : ℕ) (o : Option Connection) → IsApart s → Apart s.files (handles_left seat s.handles o) (left seat s.connections o)
leave-apart s seat None a = a
leave-apart s seat (Some c) a =
    filtered-apart s.files (handles_left seat s.handles (Some c)) s.connections (λ d. not (d.seat == seat)) (handles-fewer s.files s.connections s.handles (λ h. not (h.seat == seat)) a)

step-apart : (s : State) → Valid s → s.told ≡ true → (seat : ℕ) (request : Request) (given : Given) → LawfulGiven s seat request given → IsApart s → IsApart (request_step s seat request given).0
step-apart s v told seat (Request.Enter who kind) given l a = enter-apart s seat who kind (connection_of s.connections seat) a
step-apart s v told seat Request.Leave given l a = leave-apart s seat (connection_of s.connections seat) a
step-apart s v told seat Request.Collect given l a = collect-apart s (bus_of (connection_of s.connections seat)) a
step-apart s v told seat (Request.Node r) given l a = mount-apart s v told a seat r given (mount_of (connection_of s.connections seat)) refl l
step-apart s v told seat (Request.Present path) given l a = bus-apart s (Request.Present path) given (bus_of (connection_of s.connections seat)) a
step-apart s v told seat (Request.Add x) given l a = bus-apart s (Request.Add x) given (bus_of (connection_of s.connections seat)) a
step-apart s v told seat (Request.Grant call) given l a = bus-apart s (Request.Grant call) given (bus_of (connection_of s.connections seat)) a
step-apart s v told seat (Request.Revoke call) given l a = bus-apart s (Request.Revoke call) given (bus_of (connection_of s.connections seat)) a
step-apart s v told seat (Request.DeleteDocument doc) given l a = bus-apart s (Request.DeleteDocument doc) given (bus_of (connection_of s.connections seat)) a
step-apart s v told seat (Request.LookupDocument path) given l a = bus-apart s (Request.LookupDocument path) given (bus_of (connection_of s.connections seat)) a
step-apart s v told seat (Request.Info doc) given l a = bus-apart s (Request.Info doc) given (bus_of (connection_of s.connections seat)) a
step-apart s v told seat (Request.ListDocuments name) given l a = bus-apart s (Request.ListDocuments name) given (bus_of (connection_of s.connections seat)) a
step-apart s v told seat (Request.Store call) given l a = bus-apart s (Request.Store call) given (bus_of (connection_of s.connections seat)) a

-- of a whole history
pub record Ran (s : State) : Type 0 where
  pub valid : Valid s
  pub told : s.told ≡ true
  pub apart : IsApart s

pub run-apart : (h : List Entry) (s : State) → EachLawful s h → Ran s → Ran (run s h)
run-apart [] s l r = r
run-apart (e ∷ es) s l r = run-apart es (after s e) l.1 (record {
  valid = after-Valid s e r.valid l.0;
  told = step_told s e.seat e.request e.given ∙ r.told;
  apart = step-apart s r.valid r.told e.seat e.request e.given l.0.given r.apart;
})
