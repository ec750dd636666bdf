-- A handle that is open behind an entry was open ahead of it, or is the last of the entry's seat.
use Rattle.std.proofs.Common.{◌≡◌, ℕ, ◌+◌, ◌==◌, List, [], ◌∷◌, ◌++◌, map, not, Bool, true, false, ◌&&◌, ◌||◌, cond, Option, Some, None, refl, sym, ap, ◌∙◌}
use Rattle.std.specs.List.{filter}
use Rattle.std.proofs.lemmas.List.Folds.{list_any-append}
use Rattle.open_handles.specs.Opened.{Opened}
use Rattle.portal_model.specs.declared.entry.Entry.{Entry}
use Rattle.portal_model.specs.declared.entry.Given.{Given}
use Rattle.portal_model.specs.declared.handle.OpenHandle.{OpenHandle}
use Rattle.portal_model.specs.declared.request.NodeRequest.{NodeRequest}
use Rattle.portal_model.specs.declared.request.Request.{Request}
use Rattle.portal_model.specs.declared.state.Connection.{Connection}
use Rattle.portal_model.specs.Leave.{handles_left}
use Rattle.portal_model.specs.Node.{connections_after, connections_named, counted, handles_after, new_handle, node_given, settled_on_node, walk_on_node, with_temps}
use Rattle.portal_model.specs.NodeVerdict.{NodeVerdict, Errs, HandleChange, HandlesStay, Opens, Closes, NameChange, NamesStay, Names, Temps, Yields}
use Rattle.portal_model.specs.SeatNames.{with_naming}
use Rattle.portal_model.specs.State.{State, connection_of, is_handle, is_mount}
use Rattle.portal_model.specs.Step.{after, all_told, bus_of, bus_step, collect_step, mount_of, node_step, request_step, told_of}
use Rattle.portal_model.proofs.ListLookups.{found_passes, nat_is}
use Rattle.portal_model.proofs.NodeLawsHold.{handles-stay}
use Rattle.named_paths.specs.OpenNumbers.{Cover, IsFollowed, OpenNumbers, has_number, is_open, is_open_in, last_opened}
use Rattle.named_paths.specs.Seated.{silent}
use Rattle.named_paths.proofs.KeptNumbers.{or-left, or-right}

-- ---- the connection of a seat

some-is : {X : Type 0} (a b : X) → Some a ≡ Some b → a ≡ b
some-is a b e = cc

-- one more was opened on it
counted-last : (n : ℕ) (cs : List Connection) (d : Connection) → connection_of cs n ≡ Some d →
    last_opened (connection_of (map (counted n) cs) n) ≡ d.opens + 1
counted-last n [] d e = absurd (cc)
counted-last n (x ∷ xs) d e = step (x.seat == n) refl e (counted-last n xs d)
  where
    step : (b : Bool) → (x.seat == n) ≡ b → cond b (Some x) (connection_of xs n) ≡ Some d →
        (connection_of xs n ≡ Some d →
        last_opened (connection_of (map (counted n) xs) n) ≡ d.opens + 1) →
        last_opened (cond ((cond b (record x { opens = x.opens + 1 }) x).seat == n)
        (Some (cond b (record x { opens = x.opens + 1 }) x))
        (connection_of (map (counted n) xs) n)) ≡ d.opens + 1
    step true f h more =
        ap (λ (k : Bool). last_opened (cond k (Some (record x { opens = x.opens + 1 }))
        (connection_of (map (counted n) xs) n))) f
        ∙ ap (λ (y : Connection). y.opens + 1) (some-is x d h)
    step false f h more =
        ap (λ (k : Bool). last_opened (cond k (Some x) (connection_of (map (counted n) xs) n))) f
        ∙ more h

-- it was told what waited
told-found : (n : ℕ) (cs : List Connection) (d : Connection) → connection_of cs n ≡ Some d →
    connection_of (map (told_of n) cs) n ≡ Some (record d { unsent = [] })
told-found n [] d e = absurd (cc)
told-found n (x ∷ xs) d e = step (x.seat == n) refl e (told-found n xs d)
  where
    step : (b : Bool) → (x.seat == n) ≡ b → cond b (Some x) (connection_of xs n) ≡ Some d →
        (connection_of xs n ≡ Some d →
        connection_of (map (told_of n) xs) n ≡ Some (record d { unsent = [] })) →
        cond ((cond b (record x { unsent = [] }) x).seat == n)
        (Some (cond b (record x { unsent = [] }) x))
        (connection_of (map (told_of n) xs) n) ≡ Some (record d { unsent = [] })
    step true f h more =
        ap (λ (k : Bool). cond k (Some (record x { unsent = [] }))
        (connection_of (map (told_of n) xs) n)) f
        ∙ ap (λ (y : Connection). Some (record y { unsent = [] })) (some-is x d h)
    step false f h more =
        ap (λ (k : Bool). cond k (Some x) (connection_of (map (told_of n) xs) n)) f ∙ more h

-- of a connection but for what it waits for and has named the last number is the same
pub silent-last : (cs : List Connection) (n : ℕ) →
    last_opened (connection_of (map silent cs) n) ≡ last_opened (connection_of cs n)
silent-last [] n = refl
silent-last (c ∷ cs) n = step (c.seat == n) (silent-last cs n)
  where
    step : (b : Bool) →
        last_opened (connection_of (map silent cs) n) ≡ last_opened (connection_of cs n) →
        last_opened (cond b (Some (silent c)) (connection_of (map silent cs) n))
        ≡ last_opened (cond b (Some c) (connection_of cs n))
    step true e = refl
    step false e = e

-- what changes of it beside its seat and that number leaves the last number
all-changed : (seat : ℕ) (change : Connection → Connection) →
    ((x : Connection) → (change x).seat ≡ x.seat) → ((x : Connection) → (change x).opens ≡ x.opens) →
    (cs : List Connection) (n : ℕ) →
    last_opened (connection_of (map (λ x. cond (x.seat == seat) (change x) x) cs) n)
    ≡ last_opened (connection_of cs n)
all-changed seat change seats opens [] n = refl
all-changed seat change seats opens (x ∷ xs) n =
    step (x.seat == seat) (all-changed seat change seats opens xs n)
  where
    here : (b : Bool) (y : Connection) (o : Option Connection) → y.opens ≡ x.opens →
        last_opened o ≡ last_opened (connection_of xs n) →
        last_opened (cond b (Some y) o) ≡ last_opened (cond b (Some x) (connection_of xs n))
    here true y o f e = f
    here false y o f e = e

    step : (b : Bool) →
        last_opened (connection_of (map (λ (z : Connection). cond (z.seat == seat) (change z) z) xs) n)
        ≡ last_opened (connection_of xs n) →
        last_opened (cond ((cond b (change x) x).seat == n) (Some (cond b (change x) x))
        (connection_of (map (λ (z : Connection). cond (z.seat == seat) (change z) z) xs) n))
        ≡ last_opened (cond (x.seat == n) (Some x) (connection_of xs n))
    step true e =
        ap (λ (k : ℕ). last_opened (cond (k == n) (Some (change x))
        (connection_of (map (λ (z : Connection). cond (z.seat == seat) (change z) z) xs) n)))
        (seats x)
        ∙ here (x.seat == n) (change x)
        (connection_of (map (λ (z : Connection). cond (z.seat == seat) (change z) z) xs) n) (opens x) e
    step false e =
        here (x.seat == n) x
        (connection_of (map (λ (z : Connection). cond (z.seat == seat) (change z) z) xs) n) refl e

-- so do a path that is named on it, and its temporaries
names-last : (c : Connection) (change : NameChange) (cs : List Connection) (n : ℕ) →
    last_opened (connection_of (connections_named c change cs) n)
    ≡ last_opened (connection_of cs n)
names-last c NamesStay cs n = refl
names-last c (Names naming) cs n =
    all-changed c.seat (λ (x : Connection). record x { namings = with_naming x.namings naming })
    (λ x. refl) (λ x. refl) cs n
names-last c (Temps change) cs n =
    all-changed c.seat (with_temps change) (λ x. refl) (λ x. refl) cs n

-- the open mount of a seat has its number
mount-seat : (cs : List Connection) (n : ℕ) (o : Option Connection) → connection_of cs n ≡ o →
    (c : Connection) → mount_of o ≡ Some c → (c.seat ≡ n) × (o ≡ Some c)
mount-seat cs n None e c m = absurd (cc)
mount-seat cs n (Some d) e c m = by_kind (is_mount d.kind) m
  where
    by_kind : (b : Bool) → cond b (Some d) None ≡ Some c → (c.seat ≡ n) × (Some d ≡ Some c)
    by_kind true k =
        let same : d ≡ c = some-is d c k in (
          ap (λ (x : Connection). x.seat) (sym same)
              ∙ nat_is d.seat n (found_passes (λ (x : Connection). x.seat == n) cs d e),
          k,
        )
    by_kind false k = absurd (cc)

either : (a b c : Bool) → (b ≡ true → c ≡ true) → (a || b) ≡ true → (a || c) ≡ true
either true b c f h = refl
either false b c f h = f h

-- ---- a handle of a seat

module _ (seat number : ℕ) where
  abbrev opens : List OpenHandle → Bool
  opens hs = is_open hs seat number

  -- it was open, or is the last of this seat
  abbrev Was : List OpenHandle → List OpenHandle → ℕ → ℕ → Type 0
  Was old new n last = opens new ≡ true → (opens old || (n == seat && last == number)) ≡ true

  was-same : (hs : List OpenHandle) (n last : ℕ) → Was hs hs n last
  was-same hs n last e = or-left (opens hs) (n == seat && last == number) e

  fewer : (p : OpenHandle → Bool) (hs : List OpenHandle) → opens (filter p hs) ≡ true →
      opens hs ≡ true
  fewer p [] e = e
  fewer p (x ∷ xs) e = step (p x) e (fewer p xs)
    where
      step : (b : Bool) → opens (cond b (x ∷ filter p xs) (filter p xs)) ≡ true →
          (opens (filter p xs) ≡ true → opens xs ≡ true) →
          (is_handle seat number x || opens xs) ≡ true
      step true h more = either (is_handle seat number x) (opens (filter p xs)) (opens xs) more h
      step false h more = or-right (is_handle seat number x) (opens xs) (more h)

  was-fewer : (p : OpenHandle → Bool) (hs : List OpenHandle) (n last : ℕ) →
      Was hs (filter p hs) n last
  was-fewer p hs n last e = was-same hs n last (fewer p hs e)

  was-opened : (hs : List OpenHandle) (x : OpenHandle) (n last : ℕ) → x.seat ≡ n → last ≡ x.fh →
      Was hs (hs ++ x ∷ []) n last
  was-opened hs x n last s l e =
      (λ i. opens hs || (sym s i == seat && l i == number))
      ∙ (ap (λ (b : Bool). opens hs || b) (sym (no-more (is_handle seat number x)))
      ∙ (sym (list_any-append (is_handle seat number) hs (x ∷ [])) ∙ e))
    where
      no-more : (b : Bool) → (b || false) ≡ b
      no-more true = refl
      no-more false = refl

  module _ (n : ℕ) (c : Connection) (here : c.seat ≡ n) where
    change-was : (change : HandleChange) (hs : List OpenHandle) (cs : List Connection)
        (d : Connection) → connection_of cs c.seat ≡ Some d → d.opens ≡ c.opens →
        Was hs (handles_after c change hs) n
        (last_opened (connection_of (connections_after c change cs) n))
    change-was HandlesStay hs cs d e o h = was-same hs n _ h
    change-was (Opens handle) hs cs d e o h =
        was-opened hs (new_handle c handle) n _ here
        (ap (λ (k : ℕ). last_opened (connection_of (map (counted c.seat) cs) k)) (sym here)
        ∙ (counted-last c.seat cs d e ∙ ap (λ (k : ℕ). k + 1) o)) h
    change-was (Closes fh) hs cs d e o h =
        was-fewer (λ x. not (is_handle c.seat fh x)) hs n _ h

    settled-was : (s : State) (o : Option NodeVerdict) (d : Connection) →
        connection_of s.connections c.seat ≡ Some d → d.opens ≡ c.opens →
        Was s.handles (settled_on_node s c o).0.handles n
        (last_opened (connection_of (settled_on_node s c o).0.connections n))
    settled-was s None d e p h = was-same s.handles n _ h
    settled-was s (Some (Errs errno)) d e p h = was-same s.handles n _ h
    settled-was s (Some (Yields doing)) d e p h =
        (λ i. opens s.handles || (n == seat && names-last c doing.names
        (connections_after c doing.handle s.connections) n i == number))
        ∙ change-was doing.handle s.handles s.connections d e p h

  mount-was : (s : State) (n : ℕ) (r : NodeRequest) (given : Given) (o : Option Connection) →
      ((c : Connection) → o ≡ Some c →
      (c.seat ≡ n) × (connection_of s.connections n ≡ Some c)) →
      Was s.handles (node_step s r given o).0.handles n
      (last_opened (connection_of (node_step s r given o).0.connections n))
  mount-was s n r given None f h = was-same s.handles n _ h
  mount-was s n r given (Some c) f h =
      let t = all_told c.seat s in
      let at = f c refl in
      let found : connection_of s.connections c.seat ≡ Some c =
      ap (connection_of s.connections) at.0 ∙ at.1 in
      settled-was n c at.0 t (node_given (walk_on_node t c r) given)
      (record c { unsent = [] }) (told-found c.seat s.connections c found) refl h

  collect-was : (s : State) (n : ℕ) (o : Option Connection) →
      Was s.handles (collect_step s o).0.handles n
      (last_opened (connection_of (collect_step s o).0.connections n))
  collect-was s n None h = was-same s.handles n _ h
  collect-was s n (Some c) h = was-same s.handles n _ h

  leave-was : (n last : ℕ) (hs : List OpenHandle) (o : Option Connection) →
      Was hs (handles_left n hs o) n last
  leave-was n last hs None h = was-same hs n last h
  leave-was n last hs (Some c) h = was-fewer (λ x. not (x.seat == n)) hs n last h

  bus-was : (s : State) (n : ℕ) (request : Request) (given : Given) (o : Option Connection) →
      Was s.handles (bus_step s request given o).0.handles n
      (last_opened (connection_of (bus_step s request given o).0.connections n))
  bus-was s n request given o h =
      was-same s.handles n _ (sym (ap opens (handles-stay s request given o)) ∙ h)

  abbrev bus_at : State → ℕ → Option Connection
  bus_at s n = bus_of (connection_of s.connections n)

  step-was : (s : State) (n : ℕ) (request : Request) (given : Given) →
      Was s.handles (request_step s n request given).0.handles n
      (last_opened (connection_of (request_step s n request given).0.connections n))
  step-was s n (Request.Enter who kind) given h = was-same s.handles n _ h
  step-was s n Request.Leave given h =
      leave-was n _ s.handles (connection_of s.connections n) h
  step-was s n Request.Collect given h = collect-was s n (bus_at s n) h
  step-was s n (Request.Node r) given h =
      mount-was s n r given (mount_of (connection_of s.connections n))
      (λ c m. mount-seat s.connections n (connection_of s.connections n) refl c m) h
  step-was s n (Request.Present path) given h = bus-was s n (Request.Present path) given (bus_at s n) h
  step-was s n (Request.Add a) given h = bus-was s n (Request.Add a) given (bus_at s n) h
  step-was s n (Request.Grant call) given h = bus-was s n (Request.Grant call) given (bus_at s n) h
  step-was s n (Request.Revoke call) given h = bus-was s n (Request.Revoke call) given (bus_at s n) h
  step-was s n (Request.DeleteDocument doc) given h =
      bus-was s n (Request.DeleteDocument doc) given (bus_at s n) h
  step-was s n (Request.LookupDocument path) given h =
      bus-was s n (Request.LookupDocument path) given (bus_at s n) h
  step-was s n (Request.Info doc) given h = bus-was s n (Request.Info doc) given (bus_at s n) h
  step-was s n (Request.ListDocuments name) given h =
      bus-was s n (Request.ListDocuments name) given (bus_at s n) h
  step-was s n (Request.Store call) given h = bus-was s n (Request.Store call) given (bus_at s n) h

-- ---- the numbers behind an entry

-- numbers that covered what was open ahead of it, and were let be those behind it, cover that
pub still-covered : (s t : State) (e : Entry) (old new : OpenNumbers)
    (seats : List (ℕ × Opened)) → t ≡ after s e → Cover old s.handles →
    ((seat n : ℕ) → is_open t.handles seat n ≡ true → is_open_in seats seat n ≡ true) →
    IsFollowed e.seat (last_opened (connection_of t.connections e.seat)) seats old new →
    Cover new t.handles
still-covered s t e old new seats goes covered table followed seat n there =
    followed seat n (table seat n there)
    (step (is_open s.handles seat n) (covered seat n)
    ((λ i. is_open s.handles seat n
    || (e.seat == seat && last_opened (connection_of (goes i).connections e.seat) == n))
    ∙ step-was seat n s e.seat e.request e.given
    (sym (ap (λ (u : State). is_open u.handles seat n) goes) ∙ there)))
  where
    step : (b : Bool) → (b ≡ true → has_number old seat n ≡ true) →
        (b || (e.seat == seat && last_opened (connection_of t.connections e.seat) == n)) ≡ true →
        (has_number old seat n
        || (e.seat == seat && last_opened (connection_of t.connections e.seat) == n)) ≡ true
    step true f h = or-left (has_number old seat n)
        (e.seat == seat && last_opened (connection_of t.connections e.seat) == n) (f refl)
    step false f h = or-right (has_number old seat n)
        (e.seat == seat && last_opened (connection_of t.connections e.seat) == n) h
