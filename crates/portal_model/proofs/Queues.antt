-- Queues of presented files that change: connections stay sound.
use Rattle.std.proofs.Common.{◌≡◌, ℕ, zero, suc, ◌+◌, ◌<◌, ◌≤◌, ◌==◌, nat_eq, nat_le, nat_lt, length, drop, take, get_or, List, [], ◌∷◌, ◌++◌, map, Bool, true, false, ◌&&◌, ◌||◌, cond, Some, refl, sym, ap, subst, ◌∙◌, arith}
use Rattle.std.specs.List.{list_all, IsDistinct, AllByRecursion}
use Rattle.std.proofs.lemmas.Bool.Decides.{nat_tests}
use Rattle.std.proofs.lemmas.List.{length-append}
use Rattle.std.proofs.lemmas.List.Folds.{list_all-append}
use Rattle.portal_base.specs.Names.{is_host_path}
use Rattle.portal_model.specs.declared.state.Connection.{Connection}
use Rattle.portal_model.specs.Present.{requeued}
use Rattle.portal_model.specs.State.{State, connection_of}
use Rattle.portal_model.specs.Step.{told_of}
use Rattle.portal_model.specs.Valid.{is_caller, is_host_bus, is_none, is_sound_change, is_sound_connection}
use Rattle.portal_model.proofs.DocumentChanges.{both, first_of_both, second_of_both}
use Rattle.portal_model.proofs.ListLookups.{nat_is}
use Rattle.portal_model.proofs.SoundParts.{Sound, SoundConnections, SoundHandles, SoundSeats}

abbrev pub seats : List Connection → List ℕ
seats cs = map (λ (c : Connection). c.seat) cs

-- ---- one queue

-- the paths of a queue keep their rule, and there are not too many
abbrev pub is_sound_queue : ℕ → List (List ℕ) → Bool
is_sound_queue queued queue = list_all is_host_path queue && nat_le (length queue) queued

abbrev requeue : (List (List ℕ) → List (List ℕ)) → Connection → Connection
requeue change c = record c { queue = change c.queue }

-- what a connection waits for isn't changed
waits_sound : (queued : ℕ) (c : Connection) → is_sound_connection queued c ≡ true → is_sound_queue queued c.queue ≡ true
waits_sound queued c h =
    let waits = is_none c.unsent || is_host_bus c.who c.kind in
    let texts = list_all is_sound_change c.unsent in
    let behind = second_of_both (is_caller c.who) (waits && (texts && is_sound_queue queued c.queue)) h in
    second_of_both texts (is_sound_queue queued c.queue) (second_of_both waits (texts && is_sound_queue queued c.queue) behind)

-- it is bound to a caller
pub caller_sound : (queued : ℕ) (c : Connection) → is_sound_connection queued c ≡ true → is_caller c.who ≡ true
caller_sound queued c h = first_of_both (is_caller c.who) ((is_none c.unsent || is_host_bus c.who c.kind) && (list_all is_sound_change c.unsent && is_sound_queue queued c.queue)) h

requeued_sound : (queued : ℕ) (c : Connection) (queue : List (List ℕ)) → is_sound_connection queued c ≡ true → is_sound_queue queued queue ≡ true → is_sound_connection queued (record c { queue = queue }) ≡ true
requeued_sound queued c queue h k =
    let waits = is_none c.unsent || is_host_bus c.who c.kind in
    let texts = list_all is_sound_change c.unsent in
    let behind = second_of_both (is_caller c.who) (waits && (texts && is_sound_queue queued c.queue)) h in
    let later = second_of_both waits (texts && is_sound_queue queued c.queue) behind in
    both (is_caller c.who) (waits && (texts && is_sound_queue queued queue)) (caller_sound queued c h)
    (both waits (texts && is_sound_queue queued queue) (first_of_both waits (texts && is_sound_queue queued c.queue) behind)
    (both texts (is_sound_queue queued queue) (first_of_both texts (is_sound_queue queued c.queue) later) k))

pub queue_sound : (queued : ℕ) (c : Connection) → is_sound_connection queued c ≡ true → list_all is_host_path c.queue ≡ true
queue_sound queued c h = first_of_both (list_all is_host_path c.queue) (nat_le (length c.queue) queued) (waits_sound queued c h)

-- fewer of the paths
all_dropped : (n : ℕ) (queue : List (List ℕ)) → list_all is_host_path queue ≡ true → list_all is_host_path (drop n queue) ≡ true
all_dropped zero queue h = h
all_dropped (suc n) [] h = refl
all_dropped (suc n) (path ∷ queue) h = all_dropped n queue (second_of_both (is_host_path path) (list_all is_host_path queue) h)

dropped_less : (n : ℕ) (queue : List (List ℕ)) → length (drop n queue) ≤ length queue
dropped_less zero queue = omega arith
dropped_less (suc n) [] = omega arith
dropped_less (suc n) (path ∷ queue) = let l : length (drop n queue) ≤ length queue = dropped_less n queue in grind (arith, l)

le_through : (a b queued : ℕ) → a ≤ b → nat_le b queued ≡ true → nat_le a queued ≡ true
le_through a b queued l h = grind (arith, nat_tests)

dropped_sound : (queued n : ℕ) (queue : List (List ℕ)) → is_sound_queue queued queue ≡ true → is_sound_queue queued (drop n queue) ≡ true
dropped_sound queued n queue h =
    both (list_all is_host_path (drop n queue)) (nat_le (length (drop n queue)) queued) (all_dropped n queue (first_of_both (list_all is_host_path queue) (nat_le (length queue) queued) h))
    (le_through (length (drop n queue)) (length queue) queued (dropped_less n queue) (second_of_both (list_all is_host_path queue) (nat_le (length queue) queued) h))

-- one path more
lt_more : (a queued : ℕ) → nat_lt a queued ≡ true → nat_le (a + 1) queued ≡ true
lt_more a queued h = grind (arith, nat_tests)

pushed_sound : (queued : ℕ) (queue : List (List ℕ)) (path : List ℕ) → is_host_path path ≡ true → nat_lt (length queue) queued ≡ true → is_sound_queue queued queue ≡ true → is_sound_queue queued (queue ++ path ∷ []) ≡ true
pushed_sound queued queue path p l h =
    both (list_all is_host_path (queue ++ path ∷ [])) (nat_le (length (queue ++ path ∷ [])) queued)
    (list_all-append is_host_path queue (path ∷ []) ∙ both (list_all is_host_path queue) (is_host_path path && true) (first_of_both (list_all is_host_path queue) (nat_le (length queue) queued) h) (both (is_host_path path) true p refl))
    (ap (λ (n : ℕ). nat_le n queued) (length-append queue (path ∷ [])) ∙ lt_more (length queue) queued l)

-- ---- all connections

pub requeued_seats : (seat : ℕ) (change : List (List ℕ) → List (List ℕ)) (cs : List Connection) → seats (map (requeued seat change) cs) ≡ seats cs
requeued_seats seat change [] = refl
requeued_seats seat change (c ∷ cs) = elim (c.seat == seat) as (λ b. (cond b (requeue change c) c).seat ∷ seats (map (requeued seat change) cs) ≡ c.seat ∷ seats cs) [
  | true ↦ ap (λ (x : List ℕ). c.seat ∷ x) (requeued_seats seat change cs)
  | false ↦ ap (λ (x : List ℕ). c.seat ∷ x) (requeued_seats seat change cs)
]

-- where the change leaves each queue of the seat sound
abbrev Keeps : ℕ → ℕ → (List (List ℕ) → List (List ℕ)) → List Connection → Type 0
Keeps queued seat change [] = Unit {0}
Keeps queued seat change (c ∷ cs) = ((c.seat == seat) ≡ true → is_sound_queue queued c.queue ≡ true → is_sound_queue queued (change c.queue) ≡ true) × Keeps queued seat change cs

one_requeued : (queued seat : ℕ) (change : List (List ℕ) → List (List ℕ)) (c : Connection) (b : Bool) → (c.seat == seat) ≡ b → ((c.seat == seat) ≡ true → is_sound_queue queued c.queue ≡ true → is_sound_queue queued (change c.queue) ≡ true) →
    is_sound_connection queued c ≡ true → is_sound_connection queued (cond b (requeue change c) c) ≡ true
one_requeued queued seat change c true e k h = requeued_sound queued c (change c.queue) h (k e (waits_sound queued c h))
one_requeued queued seat change c false e k h = h

all_requeued : (queued seat : ℕ) (change : List (List ℕ) → List (List ℕ)) (cs : List Connection) → Keeps queued seat change cs → list_all (is_sound_connection queued) cs ≡ true →
    list_all (is_sound_connection queued) (map (requeued seat change) cs) ≡ true
all_requeued queued seat change [] k h = refl
all_requeued queued seat change (c ∷ cs) k h =
    both (is_sound_connection queued (requeued seat change c)) (list_all (is_sound_connection queued) (map (requeued seat change) cs))
    (one_requeued queued seat change c (c.seat == seat) refl k.0 (first_of_both (is_sound_connection queued c) (list_all (is_sound_connection queued) cs) h))
    (all_requeued queued seat change cs k.1 (second_of_both (is_sound_connection queued c) (list_all (is_sound_connection queued) cs) h))

keeps_dropped : (queued seat n : ℕ) (cs : List Connection) → Keeps queued seat (drop n) cs
keeps_dropped queued seat n [] = tt
keeps_dropped queued seat n (c ∷ cs) = (λ e h. dropped_sound queued n c.queue h, keeps_dropped queued seat n cs)

pub dropped-connections : (queued seat n : ℕ) (cs : List Connection) → SoundConnections queued cs → SoundConnections queued (map (requeued seat (drop n)) cs)
dropped-connections queued seat n cs k = (subst (IsDistinct nat_eq) (sym (requeued_seats seat (drop n) cs)) k.0, all_requeued queued seat (drop n) cs (keeps_dropped queued seat n cs) k.1)

-- ---- the connection of a seat is the only one

-- no connection is of the seat
abbrev Elsewhere : ℕ → List Connection → Type 0
Elsewhere seat [] = Unit {0}
Elsewhere seat (c ∷ cs) = ((c.seat == seat) ≡ false) × Elsewhere seat cs

apart_from : (seat first : ℕ) (cs : List Connection) → first ≡ seat → AllByRecursion (λ n. nat_eq first n ≡ false) (seats cs) → Elsewhere seat cs
apart_from seat first [] e h = tt
apart_from seat first (c ∷ cs) e h = (not_same first c.seat seat e h.0, apart_from seat first cs e h.1)
  where
    not_same : (a b n : ℕ) → a ≡ n → nat_eq a b ≡ false → (b == n) ≡ false
    not_same a b n e h = grind (arith, nat_tests)

module _ (seat : ℕ) (P : Connection → Type 0) where
  -- what is true of the connection of the seat
  abbrev pub AtSeat : List Connection → Type 0
  AtSeat [] = Unit {0}
  AtSeat (c ∷ cs) = ((c.seat == seat) ≡ true → P c) × AtSeat cs

  at_elsewhere : (cs : List Connection) → Elsewhere seat cs → AtSeat cs
  at_elsewhere [] h = tt
  at_elsewhere (c ∷ cs) h = (λ e. let no : true ≡ false = sym e ∙ h.0 in cc, at_elsewhere cs h.1)

  at_first : (x c : Connection) (xs : List Connection) (b : Bool) → (x.seat == seat) ≡ b → AllByRecursion (λ n. nat_eq x.seat n ≡ false) (seats xs) → P c → (connection_of xs seat ≡ Some c → AtSeat xs) → cond b (Some x) (connection_of xs seat) ≡ Some c → AtSeat (x ∷ xs)
  at_first x c xs true e d p f g =
      let same : x ≡ c = cc in
      (λ s. subst P (sym same) p, at_elsewhere xs (apart_from seat x.seat xs (nat_is x.seat seat e) d))
  at_first x c xs false e d p f g = (λ s. let no : true ≡ false = sym s ∙ e in cc, f g)

  pub found-at : (cs : List Connection) (c : Connection) → IsDistinct nat_eq (seats cs) → connection_of cs seat ≡ Some c → P c → AtSeat cs
  unfolding IsDistinct
  found-at [] c d f p = tt
  found-at (x ∷ xs) c d f p = at_first x c xs (x.seat == seat) refl d.0 p (λ g. found-at xs c d.1 g p) f

module _ (queued seat : ℕ) (path : List ℕ) (p : is_host_path path ≡ true) where
  abbrev push : List (List ℕ) → List (List ℕ)
  push queue = queue ++ path ∷ []

  keeps_elsewhere : (cs : List Connection) → Elsewhere seat cs → Keeps queued seat push cs
  keeps_elsewhere [] h = tt
  keeps_elsewhere (c ∷ cs) h = (λ e. let no : true ≡ false = sym e ∙ h.0 in cc, keeps_elsewhere cs h.1)

  pushed_first : (x c : Connection) (xs : List Connection) (b : Bool) → (x.seat == seat) ≡ b → AllByRecursion (λ n. nat_eq x.seat n ≡ false) (seats xs) → nat_lt (length c.queue) queued ≡ true →
      (connection_of xs seat ≡ Some c → Keeps queued seat push xs) → cond b (Some x) (connection_of xs seat) ≡ Some c → Keeps queued seat push (x ∷ xs)
  pushed_first x c xs true e d l f g =
      let same : x ≡ c = cc in
      let room : nat_lt (length x.queue) queued ≡ true = subst (λ (y : Connection). nat_lt (length y.queue) queued ≡ true) (sym same) l in
      (λ s h. pushed_sound queued x.queue path p room h, keeps_elsewhere xs (apart_from seat x.seat xs (nat_is x.seat seat e) d))
  pushed_first x c xs false e d l f g = (λ s. let no : true ≡ false = sym s ∙ e in cc, f g)

  -- where the one that is found has a place left
  keeps_pushed : (cs : List Connection) (c : Connection) → IsDistinct nat_eq (seats cs) → connection_of cs seat ≡ Some c → nat_lt (length c.queue) queued ≡ true → Keeps queued seat push cs
  unfolding IsDistinct
  keeps_pushed [] c d f l = tt
  keeps_pushed (x ∷ xs) c d f l = pushed_first x c xs (x.seat == seat) refl d.0 l (λ g. keeps_pushed xs c d.1 g l) f

  pub pushed-connections : (cs : List Connection) (c : Connection) → connection_of cs seat ≡ Some c → nat_lt (length c.queue) queued ≡ true → SoundConnections queued cs → SoundConnections queued (map (requeued seat push) cs)
  pushed-connections cs c f l k = (subst (IsDistinct nat_eq) (sym (requeued_seats seat push cs)) k.0, all_requeued queued seat push cs (keeps_pushed cs c k.0 f l) k.1)

-- ---- the connection that asks, in the state in which it was told

told_first : (seat : ℕ) (x c : Connection) (xs : List Connection) (b : Bool) → (x.seat == seat) ≡ b → (connection_of xs seat ≡ Some c → connection_of (map (told_of seat) xs) seat ≡ Some (record c { unsent = [] })) →
    cond b (Some x) (connection_of xs seat) ≡ Some c →
    cond ((cond b (record x { unsent = [] }) x).seat == seat) (Some (cond b (record x { unsent = [] }) x)) (connection_of (map (told_of seat) xs) seat) ≡ Some (record c { unsent = [] })
told_first seat x c xs true e f g =
    let same : x ≡ c = cc in
    ap (λ (b : Bool). cond b (Some (record x { unsent = [] })) (connection_of (map (told_of seat) xs) seat)) e ∙ ap (λ (y : Connection). Some (record y { unsent = [] })) same
told_first seat x c xs false e f g = ap (λ (b : Bool). cond b (Some x) (connection_of (map (told_of seat) xs) seat)) e ∙ f g

pub found_told : (seat : ℕ) (c : Connection) (cs : List Connection) → connection_of cs seat ≡ Some c → connection_of (map (told_of seat) cs) seat ≡ Some (record c { unsent = [] })
found_told seat c [] f = cc
found_told seat c (x ∷ xs) f = told_first seat x c xs (x.seat == seat) refl (found_told seat c xs) f

-- ---- paths among those of a queue

pub picked : (p : List ℕ → Bool) (n i : ℕ) (xs : List (List ℕ)) → list_all p xs ≡ true → i < n → n ≤ length xs → p (get_or (take n xs) i []) ≡ true
picked p zero i xs h l m = absurd (omega arith)
picked p (suc n) i [] h l m = absurd (omega arith)
picked p (suc n) zero (x ∷ xs) h l m = first_of_both (p x) (list_all p xs) h
picked p (suc n) (suc i) (x ∷ xs) h l m = picked p n i xs (second_of_both (p x) (list_all p xs) h) (omega arith) (omega arith)

-- other connections of a sound state
pub sound-connected : (s : State) (cs : List Connection) → Sound s → SoundConnections s.limits.queued cs → SoundHandles s.limits.handles cs s.handles → SoundSeats s.made s.documents s.told s.taken cs → Sound (record s { connections = cs })
sound-connected s cs k c h seats = record {
  documented = k.documented;
  connected = record {
    seats_differ = c.0;
    connections_sound = c.1;
    handles_differ = h.differ;
    handles_sound = h.sound;
    handles_within = h.within;
    entries_differ = k.connected.entries_differ;
    entries_sound = k.connected.entries_sound;
    files_differ = k.connected.files_differ;
    files_apart = k.connected.files_apart;
    files_named = k.connected.files_named;
    files_told = k.connected.files_told;
    handles_taken = k.connected.handles_taken;
    generations_sound = k.connected.generations_sound;
    made_limit = k.connected.made_limit;
    queued_limit = k.connected.queued_limit;
  };
  handles_made = k.handles_made;
  folders_sound = k.folders_sound;
  seats_sound = seats;
}
