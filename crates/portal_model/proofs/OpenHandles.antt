-- Connections and their open handles that change: handles stay sound.
use Rattle.std.proofs.Common.{◌≡◌, ℕ, ◌+◌, ◌≤◌, ◌==◌, nat_le, nat_lt, length, List, [], ◌∷◌, ◌++◌, map, Bool, true, false, not, ◌&&◌, cond, Option, Some, None, refl, sym, ap, subst, ◌∙◌, arith}
use Rattle.std.specs.List.{filter, list_all, IsDistinct, AllByRecursion}
use Rattle.std.proofs.lemmas.Bool.Decides.{nat_tests}
use Rattle.std.proofs.lemmas.List.{append-nil, length-append}
use Rattle.std.proofs.lemmas.List.Elements.{filter-append}
use Rattle.std.proofs.lemmas.List.Folds.{list_all-append}
use Rattle.portal_base.specs.declared.who.Kind.{Kind}
use Rattle.portal_base.specs.declared.who.Who.{Who}
use Rattle.portal_model.specs.declared.handle.Handle.{Handle}
use Rattle.portal_model.specs.declared.handle.OpenHandle.{OpenHandle}
use Rattle.portal_model.specs.declared.state.Connection.{Connection}
use Rattle.portal_model.specs.Enter.{entered, new_connection}
use Rattle.portal_model.specs.Leave.{handles_left, handles_of_others, left, of_others}
use Rattle.portal_model.specs.Node.{counted, new_handle}
use Rattle.portal_model.specs.Present.{requeued}
use Rattle.portal_model.specs.State.{connection_of, handles_of, is_mount}
use Rattle.portal_model.specs.Step.{told_of}
use Rattle.portal_model.specs.Valid.{has_host_path, has_own_node, is_sound_handle, opened_here, opens_within, same_handle, viewed_here}
use Rattle.portal_model.proofs.DistinctItems.{IsDistinct-filter, list_all-filter}
use Rattle.portal_model.proofs.DocumentChanges.{both}
use Rattle.portal_model.proofs.ListLookups.{nat_is}
use Rattle.portal_model.proofs.SoundParts.{SoundHandles}

-- ---- connections that change in what handles don't depend on

-- the same seat and kind, and no fewer handles opened
pub record Alike (c d : Connection) : Type 0 where
  pub seat : d.seat ≡ c.seat
  pub who : d.who ≡ c.who
  pub kind : d.kind ≡ c.kind
  pub opens : c.opens ≤ d.opens

opened_more : (fh : ℕ) (kind : Kind) (a b : ℕ) → a ≤ b → (is_mount kind && (nat_lt 0 fh && nat_le fh a)) ≡ true → (is_mount kind && (nat_lt 0 fh && nat_le fh b)) ≡ true
opened_more fh kind a b l h = grind (arith, nat_tests)

opened_alike : (fh : ℕ) (c d : Connection) → Alike c d → opened_here fh (Some c) ≡ true → opened_here fh (Some d) ≡ true
opened_alike fh c d k h = rw (k.kind) (opened_more fh c.kind c.opens d.opens k.opens h)

viewed_alike : (handle : Handle) (c d : Connection) → Alike c d → viewed_here handle (Some c) ≡ true → viewed_here handle (Some d) ≡ true
viewed_alike handle c d k h = ap (λ (who : Who). has_own_node who handle) k.who ∙ h

module _ (f : Connection → Connection) (k : (c : Connection) → Alike c (f c)) where
  first_mapped : (fh seat : ℕ) (c : Connection) (b : Bool) (o p : Option Connection) → (opened_here fh o ≡ true → opened_here fh p ≡ true) →
      opened_here fh (cond b (Some c) o) ≡ true → opened_here fh (cond b (Some (f c)) p) ≡ true
  first_mapped fh seat c true o p g h = opened_alike fh c (f c) (k c) h
  first_mapped fh seat c false o p g h = g h

  found_mapped : (fh seat : ℕ) (cs : List Connection) → opened_here fh (connection_of cs seat) ≡ true → opened_here fh (connection_of (map f cs) seat) ≡ true
  found_mapped fh seat [] h = h
  found_mapped fh seat (c ∷ cs) h =
      subst (λ (n : ℕ). opened_here fh (cond (n == seat) (Some (f c)) (connection_of (map f cs) seat)) ≡ true) (sym (k c).seat)
      (first_mapped fh seat c (c.seat == seat) (connection_of cs seat) (connection_of (map f cs) seat) (found_mapped fh seat cs) h)

  first_viewed : (handle : Handle) (c : Connection) (b : Bool) (o p : Option Connection) → (viewed_here handle o ≡ true → viewed_here handle p ≡ true) →
      viewed_here handle (cond b (Some c) o) ≡ true → viewed_here handle (cond b (Some (f c)) p) ≡ true
  first_viewed handle c true o p g h = viewed_alike handle c (f c) (k c) h
  first_viewed handle c false o p g h = g h

  viewed_mapped : (handle : Handle) (seat : ℕ) (cs : List Connection) → viewed_here handle (connection_of cs seat) ≡ true → viewed_here handle (connection_of (map f cs) seat) ≡ true
  viewed_mapped handle seat [] h = h
  viewed_mapped handle seat (c ∷ cs) h =
      subst (λ (n : ℕ). viewed_here handle (cond (n == seat) (Some (f c)) (connection_of (map f cs) seat)) ≡ true) (sym (k c).seat)
      (first_viewed handle c (c.seat == seat) (connection_of cs seat) (connection_of (map f cs) seat) (viewed_mapped handle seat cs) h)

  all_mapped : (cs : List Connection) (hs : List OpenHandle) → list_all (is_sound_handle cs) hs ≡ true → list_all (is_sound_handle (map f cs)) hs ≡ true
  all_mapped cs [] h = refl
  all_mapped cs (x ∷ hs) h = grind (arith, found_mapped x.fh x.seat cs, viewed_mapped x.handle x.seat cs, all_mapped cs hs)

  within_mapped : (limit : ℕ) (hs : List OpenHandle) (cs : List Connection) → list_all (opens_within limit hs) (map f cs) ≡ list_all (opens_within limit hs) cs
  within_mapped limit hs [] = refl
  within_mapped limit hs (c ∷ cs) = λ i. nat_le (length (handles_of hs ((k c).seat i))) limit && within_mapped limit hs cs i

  pub mapped-handles : (limit : ℕ) (cs : List Connection) (hs : List OpenHandle) → SoundHandles limit cs hs → SoundHandles limit (map f cs) hs
  mapped-handles limit cs hs h = record { differ = h.differ; sound = all_mapped cs hs h.sound; within = within_mapped limit hs cs ∙ h.within }

told_alike : (seat : ℕ) (c : Connection) → Alike c (told_of seat c)
told_alike seat c = elim (c.seat == seat) as (λ b. Alike c (cond b (record c { unsent = [] }) c)) [
  | true ↦ record { seat = refl; who = refl; kind = refl; opens = omega arith }
  | false ↦ record { seat = refl; who = refl; kind = refl; opens = omega arith }
]

pub told-handles : (seat limit : ℕ) (cs : List Connection) (hs : List OpenHandle) → SoundHandles limit cs hs → SoundHandles limit (map (told_of seat) cs) hs
told-handles seat limit cs hs h = mapped-handles (told_of seat) (told_alike seat) limit cs hs h

requeued_alike : (seat : ℕ) (change : List (List ℕ) → List (List ℕ)) (c : Connection) → Alike c (requeued seat change c)
requeued_alike seat change c = elim (c.seat == seat) as (λ b. Alike c (cond b (record c { queue = change c.queue }) c)) [
  | true ↦ record { seat = refl; who = refl; kind = refl; opens = omega arith }
  | false ↦ record { seat = refl; who = refl; kind = refl; opens = omega arith }
]

pub requeued-handles : (seat limit : ℕ) (change : List (List ℕ) → List (List ℕ)) (cs : List Connection) (hs : List OpenHandle) → SoundHandles limit cs hs → SoundHandles limit (map (requeued seat change) cs) hs
requeued-handles seat limit change cs hs h = mapped-handles (requeued seat change) (requeued_alike seat change) limit cs hs h

-- ---- Enter

-- no handle is open where there is no connection
one_open : (seat : ℕ) (cs : List Connection) (x : OpenHandle) (hs : List OpenHandle) (b : Bool) → connection_of cs seat ≡ None → opened_here x.fh (connection_of cs x.seat) ≡ true → (x.seat == seat) ≡ b → handles_of hs seat ≡ [] →
    cond (x.seat == seat) (x ∷ handles_of hs seat) (handles_of hs seat) ≡ []
one_open seat cs x hs true e h k rest =
    let same : x.seat ≡ seat = nat_is x.seat seat k in
    let no : opened_here x.fh None ≡ true = subst (λ (o : Option Connection). opened_here x.fh o ≡ true) (ap (connection_of cs) same ∙ e) h in
    cc
one_open seat cs x hs false e h k rest = rw k rest

pub none_open : (seat : ℕ) (cs : List Connection) (hs : List OpenHandle) → connection_of cs seat ≡ None → list_all (is_sound_handle cs) hs ≡ true → handles_of hs seat ≡ []
none_open seat cs [] e h = refl
none_open seat cs (x ∷ hs) e h = one_open seat cs x hs (x.seat == seat) e (grind (arith, h)) refl (none_open seat cs hs e (grind (arith, h)))

first_joined : (fh : ℕ) (c : Connection) (b : Bool) (o p : Option Connection) → (opened_here fh o ≡ true → opened_here fh p ≡ true) → opened_here fh (cond b (Some c) o) ≡ true → opened_here fh (cond b (Some c) p) ≡ true
first_joined fh c true o p g h = h
first_joined fh c false o p g h = g h

found_joined : (fh seat : ℕ) (cs more : List Connection) → opened_here fh (connection_of cs seat) ≡ true → opened_here fh (connection_of (cs ++ more) seat) ≡ true
found_joined fh seat [] more h = cc
found_joined fh seat (c ∷ cs) more h = first_joined fh c (c.seat == seat) (connection_of cs seat) (connection_of (cs ++ more) seat) (found_joined fh seat cs more) h

viewed_first : (handle : Handle) (c : Connection) (b : Bool) (o p : Option Connection) → (viewed_here handle o ≡ true → viewed_here handle p ≡ true) → viewed_here handle (cond b (Some c) o) ≡ true → viewed_here handle (cond b (Some c) p) ≡ true
viewed_first handle c true o p g h = h
viewed_first handle c false o p g h = g h

viewed_joined : (handle : Handle) (seat : ℕ) (cs more : List Connection) → viewed_here handle (connection_of cs seat) ≡ true → viewed_here handle (connection_of (cs ++ more) seat) ≡ true
viewed_joined handle seat [] more h = cc
viewed_joined handle seat (c ∷ cs) more h = viewed_first handle c (c.seat == seat) (connection_of cs seat) (connection_of (cs ++ more) seat) (viewed_joined handle seat cs more) h

all_joined : (cs more : List Connection) (hs : List OpenHandle) → list_all (is_sound_handle cs) hs ≡ true → list_all (is_sound_handle (cs ++ more)) hs ≡ true
all_joined cs more [] h = refl
all_joined cs more (x ∷ hs) h = grind (arith, found_joined x.fh x.seat cs more, viewed_joined x.handle x.seat cs more, all_joined cs more hs)

none_within : (limit : ℕ) (hs : List OpenHandle) (c : Connection) → handles_of hs c.seat ≡ [] → opens_within limit hs c ≡ true
none_within limit hs c e = ap (λ (xs : List OpenHandle). nat_le (length xs) limit) e ∙ grind (arith, nat_tests)

pub entered-handles : (seat limit : ℕ) (who : Who) (kind : Kind) (cs : List Connection) (hs : List OpenHandle) (o : Option Connection) → connection_of cs seat ≡ o → SoundHandles limit cs hs → SoundHandles limit (entered seat who kind cs o) hs
entered-handles seat limit who kind cs hs None e h = record {
  differ = h.differ;
  sound = all_joined cs (new_connection seat who kind ∷ []) hs h.sound;
  within = rw (list_all-append (opens_within limit hs) cs (new_connection seat who kind ∷ []), h.within, none_within limit hs (new_connection seat who kind) (none_open seat cs hs e h.sound)) refl;
}
entered-handles seat limit who kind cs hs (Some c) e h = h

-- ---- one handle less

le_less : (a b limit : ℕ) → a ≤ b → nat_le b limit ≡ true → nat_le a limit ≡ true
le_less a b limit l h = grind (arith, nat_tests)

lt_more : (a limit : ℕ) → nat_lt a limit ≡ true → nat_le (a + 1) limit ≡ true
lt_more a limit h = grind (arith, nat_tests)

fewer_closed : (p : OpenHandle → Bool) (n : ℕ) (hs : List OpenHandle) → length (handles_of (filter p hs) n) ≤ length (handles_of hs n)
fewer_closed p n [] = omega arith
fewer_closed p n (x ∷ hs) = grind (arith, fewer_closed p n hs)

within_closed : (p : OpenHandle → Bool) (limit : ℕ) (hs : List OpenHandle) (cs : List Connection) → list_all (opens_within limit hs) cs ≡ true → list_all (opens_within limit (filter p hs)) cs ≡ true
within_closed p limit hs [] h = refl
within_closed p limit hs (c ∷ cs) h =
    grind (arith, le_less (length (handles_of (filter p hs) c.seat)) (length (handles_of hs c.seat)) limit (fewer_closed p c.seat hs), within_closed p limit hs cs)

pub closed-handles : (p : OpenHandle → Bool) (limit : ℕ) (cs : List Connection) (hs : List OpenHandle) → SoundHandles limit cs hs → SoundHandles limit cs (filter p hs)
closed-handles p limit cs hs h = record {
  differ = IsDistinct-filter same_handle p hs h.differ;
  sound = list_all-filter (is_sound_handle cs) p hs h.sound;
  within = within_closed p limit hs cs h.within;
}

-- ---- Leave

found_others : (fh seat n : ℕ) (cs : List Connection) → (n == seat) ≡ false → connection_of (of_others seat cs) n ≡ connection_of cs n
found_others fh seat n [] m = refl
found_others fh seat n (c ∷ cs) m = grind (arith, nat_tests, found_others fh seat n cs)

one_other : (seat : ℕ) (cs : List Connection) (x : OpenHandle) (hs : List OpenHandle) (b : Bool) → (x.seat == seat) ≡ b → is_sound_handle cs x ≡ true →
    list_all (is_sound_handle (of_others seat cs)) (handles_of_others seat hs) ≡ true →
    list_all (is_sound_handle (of_others seat cs)) (cond (not (x.seat == seat)) (x ∷ handles_of_others seat hs) (handles_of_others seat hs)) ≡ true
one_other seat cs x hs true e here rest = rw e rest
one_other seat cs x hs false e here rest =
    let there : is_sound_handle (of_others seat cs) x ≡ true = ap (λ (o : Option Connection). opened_here x.fh o && (has_host_path x.handle && viewed_here x.handle o)) (found_others x.fh seat x.seat cs e) ∙ here in
    rw (e, there) rest

all_others : (seat : ℕ) (cs : List Connection) (hs : List OpenHandle) → list_all (is_sound_handle cs) hs ≡ true → list_all (is_sound_handle (of_others seat cs)) (handles_of_others seat hs) ≡ true
all_others seat cs [] h = refl
all_others seat cs (x ∷ hs) h = one_other seat cs x hs (x.seat == seat) refl (grind (arith, h)) (all_others seat cs hs (grind (arith, h)))

pub left-handles : (seat limit : ℕ) (cs : List Connection) (hs : List OpenHandle) (o : Option Connection) → SoundHandles limit cs hs → SoundHandles limit (left seat cs o) (handles_left seat hs o)
left-handles seat limit cs hs None h = h
left-handles seat limit cs hs (Some c) h = record {
  differ = IsDistinct-filter same_handle _ hs h.differ;
  sound = all_others seat cs hs h.sound;
  within = list_all-filter (opens_within limit (handles_of_others seat hs)) _ cs (within_closed _ limit hs cs h.within);
}

-- ---- one handle more

push_distinct : {X : Type 0} (same : X → X → Bool) (new : X) (xs : List X) → IsDistinct same xs → AllByRecursion (λ (x : X). same x new ≡ false) xs → IsDistinct same (xs ++ new ∷ [])
unfolding IsDistinct
push_distinct same new [] d a = (tt, tt)
push_distinct same new (x ∷ xs) d a = (push_apart xs d.0, push_distinct same new xs d.1 a.1)
  where
    push_apart : (ys : List _) → AllByRecursion (λ y. same x y ≡ false) ys → AllByRecursion (λ y. same x y ≡ false) (ys ++ new ∷ [])
    push_apart [] h = (a.0, tt)
    push_apart (y ∷ ys) h = (h.0, push_apart ys h.1)

module _ (c found : Connection) (o : found.opens ≡ c.opens) (same : found.who ≡ c.who) (handle : Handle) where
  new : OpenHandle
  new = new_handle c handle

  -- each number that the seat's handles have is at most its opens
  apart_one : (cs : List Connection) (x : OpenHandle) (b : Bool) → connection_of cs c.seat ≡ Some found → opened_here x.fh (connection_of cs x.seat) ≡ true → (x.seat == c.seat) ≡ b → ((x.seat == c.seat) && (x.fh == c.opens + 1)) ≡ false
  apart_one cs x true f h e =
      let there : opened_here x.fh (Some found) ≡ true = subst (λ (p : Option Connection). opened_here x.fh p ≡ true) (ap (connection_of cs) (nat_is x.seat c.seat e) ∙ f) h in
      let number : (is_mount found.kind && (nat_lt 0 x.fh && nat_le x.fh c.opens)) ≡ true = subst (λ (n : ℕ). (is_mount found.kind && (nat_lt 0 x.fh && nat_le x.fh n)) ≡ true) o there in
      grind (arith, nat_tests)
  apart_one cs x false f h e = rw e refl

  all_apart : (cs : List Connection) (hs : List OpenHandle) → connection_of cs c.seat ≡ Some found → list_all (is_sound_handle cs) hs ≡ true → AllByRecursion (λ (x : OpenHandle). same_handle x (new_handle c handle) ≡ false) hs
  all_apart cs [] f h = tt
  all_apart cs (x ∷ hs) f h = (apart_one cs x (x.seat == c.seat) f (grind (arith, h)) refl, all_apart cs hs f (grind (arith, h)))

  counted_alike : (d : Connection) → Alike d (counted c.seat d)
  counted_alike d = elim (d.seat == c.seat) as (λ b. Alike d (cond b (record d { opens = d.opens + 1 }) d)) [
    | true ↦ record { seat = refl; who = refl; kind = refl; opens = omega arith }
    | false ↦ record { seat = refl; who = refl; kind = refl; opens = omega arith }
  ]

  one_counted : (d : Connection) (cs : List Connection) (b : Bool) → (d.seat == c.seat) ≡ b → (connection_of cs c.seat ≡ Some found → connection_of (map (counted c.seat) cs) c.seat ≡ Some (record found { opens = found.opens + 1 })) →
      cond b (Some d) (connection_of cs c.seat) ≡ Some found →
      cond ((cond b (record d { opens = d.opens + 1 }) d).seat == c.seat) (Some (cond b (record d { opens = d.opens + 1 }) d)) (connection_of (map (counted c.seat) cs) c.seat) ≡ Some (record found { opens = found.opens + 1 })
  one_counted d cs true e g h = let same : d ≡ found = cc in rw e (ap (λ (x : Connection). Some (record x { opens = x.opens + 1 })) same)
  one_counted d cs false e g h = rw e (g h)

  found_counted : (cs : List Connection) → connection_of cs c.seat ≡ Some found → connection_of (map (counted c.seat) cs) c.seat ≡ Some (record found { opens = found.opens + 1 })
  found_counted [] f = cc
  found_counted (d ∷ cs) f = one_counted d cs (d.seat == c.seat) refl (found_counted cs) f

  new_number : (kind : Kind) (a b : ℕ) → a ≡ b → is_mount kind ≡ true → (is_mount kind && (nat_lt 0 (b + 1) && nat_le (b + 1) (a + 1))) ≡ true
  new_number kind a b e m = grind (arith, nat_tests)

  new_sound : (cs : List Connection) → connection_of cs c.seat ≡ Some found → is_mount found.kind ≡ true → has_host_path handle ≡ true → has_own_node c.who handle ≡ true → is_sound_handle (map (counted c.seat) cs) (new_handle c handle) ≡ true
  new_sound cs f m n w =
      both (opened_here (c.opens + 1) (connection_of (map (counted c.seat) cs) c.seat)) (has_host_path handle && viewed_here handle (connection_of (map (counted c.seat) cs) c.seat))
      (ap (opened_here (c.opens + 1)) (found_counted cs f) ∙ new_number found.kind found.opens c.opens o m)
      (both (has_host_path handle) (viewed_here handle (connection_of (map (counted c.seat) cs) c.seat)) n (ap (viewed_here handle) (found_counted cs f) ∙ (ap (λ (who : Who). has_own_node who handle) same ∙ w)))

  -- the seat had a place left for one more
  one_more : (limit : ℕ) (hs : List OpenHandle) (d : Connection) (b : Bool) → (c.seat == d.seat) ≡ b → nat_lt (length (handles_of hs c.seat)) limit ≡ true → opens_within limit hs d ≡ true →
      nat_le (length (handles_of hs d.seat ++ cond b (new_handle c handle ∷ []) [])) limit ≡ true
  one_more limit hs d true e room h =
      let n : length (handles_of hs d.seat ++ new_handle c handle ∷ []) ≡ length (handles_of hs d.seat) + 1 = length-append (handles_of hs d.seat) (new_handle c handle ∷ []) in
      let r : nat_lt (length (handles_of hs d.seat)) limit ≡ true = subst (λ (m : ℕ). nat_lt (length (handles_of hs m)) limit ≡ true) (nat_is c.seat d.seat e) room in
      ap (λ (m : ℕ). nat_le m limit) n ∙ lt_more (length (handles_of hs d.seat)) limit r
  one_more limit hs d false e room h = ap (λ (xs : List OpenHandle). nat_le (length xs) limit) (append-nil (handles_of hs d.seat)) ∙ h

  more_within : (limit : ℕ) (hs : List OpenHandle) (cs : List Connection) → nat_lt (length (handles_of hs c.seat)) limit ≡ true → list_all (opens_within limit hs) cs ≡ true → list_all (opens_within limit (hs ++ new_handle c handle ∷ [])) cs ≡ true
  more_within limit hs [] room h = refl
  more_within limit hs (d ∷ cs) room h =
      let first : opens_within limit (hs ++ new_handle c handle ∷ []) d ≡ true =
      ap (λ (xs : List OpenHandle). nat_le (length xs) limit) (filter-append (λ (x : OpenHandle). x.seat == d.seat) hs (new_handle c handle ∷ []))
      ∙ one_more limit hs d (c.seat == d.seat) refl room (grind (arith, h)) in
      both (opens_within limit (hs ++ new_handle c handle ∷ []) d) (list_all (opens_within limit (hs ++ new_handle c handle ∷ [])) cs) first (more_within limit hs cs room (grind (arith, h)))

  pub opened-handles : (limit : ℕ) (cs : List Connection) (hs : List OpenHandle) → connection_of cs c.seat ≡ Some found → is_mount found.kind ≡ true → nat_lt (length (handles_of hs c.seat)) limit ≡ true → has_host_path handle ≡ true → has_own_node c.who handle ≡ true → SoundHandles limit cs hs →
      SoundHandles limit (map (counted c.seat) cs) (hs ++ new_handle c handle ∷ [])
  opened-handles limit cs hs f m room n w h = record {
    differ = push_distinct same_handle (new_handle c handle) hs h.differ (all_apart cs hs f h.sound);
    sound =
        list_all-append (is_sound_handle (map (counted c.seat) cs)) hs (new_handle c handle ∷ [])
        ∙ both (list_all (is_sound_handle (map (counted c.seat) cs)) hs) (is_sound_handle (map (counted c.seat) cs) (new_handle c handle) && true) (all_mapped (counted c.seat) counted_alike cs hs h.sound)
        (both (is_sound_handle (map (counted c.seat) cs) (new_handle c handle)) true (new_sound cs f m n w) refl);
    within = within_mapped (counted c.seat) counted_alike limit (hs ++ new_handle c handle ∷ []) cs ∙ more_within limit hs cs room h.within;
  }
