-- What connections have named, and their temporaries, stay sound: while documents and connections change, and as the
-- temporaries of one change.
use Rattle.std.proofs.Common.{◌≡◌, ◌≤◌, ℕ, suc, ◌+◌, ◌==◌, nat_le, nat_lt, length, length-append, List, [], ◌∷◌, ◌++◌, map, Bool, true, false, not, ◌&&◌, cond, Option, Some, None, ⊎_elim, refl, sym, ap, subst, ◌∙◌, arith}
use Rattle.std.specs.List.{filter, list_all, IsDistinct, AllByRecursion}
use Rattle.std.proofs.lemmas.Bool.Decides.{nat_tests}
use Rattle.std.proofs.lemmas.List.Folds.{list_all-append}
use Rattle.portal_base.specs.declared.names.doc_id.DocId.{DocId}
use Rattle.portal_base.specs.declared.who.Who.{Who}
use Rattle.portal_model.specs.declared.naming.Naming.{Naming}
use Rattle.portal_model.specs.declared.opening.TakenGeneration.{TakenGeneration}
use Rattle.portal_model.specs.declared.state.Connection.{Connection}
use Rattle.portal_model.specs.declared.state.Document.{Document}
use Rattle.portal_model.specs.declared.temporary.OwnTemp.{OwnTemp}
use Rattle.portal_model.specs.declared.temporary.Temp.{Temp}
use Rattle.portal_model.specs.Node.{counted, named_on, temps_changed, with_temps}
use Rattle.portal_model.specs.Present.{requeued}
use Rattle.portal_model.specs.SeatNames.{TempChange, Begins, Drops, Renames, added_after, are_temps_full, is_replaced, last_temp, own_temp, renamed, temps_after, temps_limit, with_naming}
use Rattle.portal_model.specs.SoundGenerations.{has_taken_temps, is_taken_temp}
use Rattle.portal_model.specs.SoundNames.{SoundTemps, is_later_file, is_placed_temp, is_sound_temp, is_viewed_temp, same_number}
use Rattle.portal_model.specs.State.{connection_of, document_of, is_made}
use Rattle.portal_model.specs.Step.{told_of}
use Rattle.portal_model.proofs.DistinctItems.{IsDistinct-filter, IsDistinct-more, list_all-filter, list_all-weaken}
use Rattle.portal_model.proofs.DocumentChanges.{both, first_of_both, others, second_of_both}
use Rattle.portal_model.proofs.NamesValid.{Follows, follows-deleted, follows-new, names-entered, names-filtered, names-mapped, names_follow}
use Rattle.portal_model.proofs.Queues.{AtSeat}
use Rattle.portal_model.proofs.SoundParts.{AreSoundTemps, SoundSeats}

-- ---- other documents

abbrev numbered : ℕ → OwnTemp → Bool
numbered added t = nat_lt 0 t.k && nat_le t.k added

abbrev placed : List Document → OwnTemp → Bool
placed ds t = is_placed_temp (document_of ds t.temp.document.number) t.temp

abbrev beyond : Who → OwnTemp → Bool
beyond who t = is_viewed_temp who t.temp && is_later_file t.temp.file

module _ (made : List DocId) (ds : List Document) (made' : List DocId) (ds' : List Document) (f : Follows made ds made' ds') where
  temp_follows : (who : Who) (added : ℕ) (t : OwnTemp) → is_sound_temp made ds who added t ≡ true → is_sound_temp made' ds' who added t ≡ true
  temp_follows who added t h =
      let number : ℕ = t.temp.document.number in
      let before : Bool = placed ds t && beyond who t in
      let rest : (is_made made number && before) ≡ true = second_of_both (numbered added t) (is_made made number && before) h in
      let was : is_made made number ≡ true = first_of_both (is_made made number) before rest in
      let more : before ≡ true = second_of_both (is_made made number) before rest in
      let there : placed ds' t ≡ true = ⊎_elim
      (λ e. ap (λ (o : Option Document). is_placed_temp o t.temp) e ∙ first_of_both (placed ds t) (beyond who t) more)
      (λ e. ap (λ (o : Option Document). is_placed_temp o t.temp) e)
      (f.documents number was) in
      both (numbered added t) (is_made made' number && (placed ds' t && beyond who t)) (first_of_both (numbered added t) (is_made made number && before) h)
      (both (is_made made' number) (placed ds' t && beyond who t) (f.still number was)
      (both (placed ds' t) (beyond who t) there (second_of_both (placed ds t) (beyond who t) more)))

  temps_follow : (cs : List Connection) → AreSoundTemps made ds cs → AreSoundTemps made' ds' cs
  temps_follow [] h = tt
  temps_follow (c ∷ cs) h = (
    record {
      differ = h.0.differ;
      within = h.0.within;
      counted = h.0.counted;
      sound = list_all-weaken (is_sound_temp made ds c.who c.added) (is_sound_temp made' ds' c.who c.added) (temp_follows c.who c.added) c.temps h.0.sound;
    },
    temps_follow cs h.1,
  )

  seats_follow : (told : Bool) (taken : List TakenGeneration) (cs : List Connection) → SoundSeats made ds told taken cs → SoundSeats made' ds' told taken cs
  seats_follow told taken cs h = record { namings = names_follow made ds made' ds' f cs h.namings; temps = temps_follow cs h.temps; within = h.within }

-- a document more
pub seats-new : (made : List DocId) (ds : List Document) (d : Document) (told : Bool) (taken : List TakenGeneration) (cs : List Connection) → is_made made d.id.number ≡ false → SoundSeats made ds told taken cs → SoundSeats (made ++ d.id ∷ []) (ds ++ d ∷ []) told taken cs
seats-new made ds d told taken cs f h = seats_follow made ds (made ++ d.id ∷ []) (ds ++ d ∷ []) (follows-new made ds d f) told taken cs h

-- and one that goes
pub seats-deleted : (made : List DocId) (ds : List Document) (number : ℕ) (told : Bool) (taken : List TakenGeneration) (cs : List Connection) → SoundSeats made ds told taken cs → SoundSeats made (others number ds) told taken cs
seats-deleted made ds number told taken cs h = seats_follow made ds made (others number ds) (follows-deleted made ds number) told taken cs h

-- ---- other connections

-- a connection has named and made the same
pub record SameNames (old new : Connection) : Type 0 where
  pub namings : new.namings ≡ old.namings
  pub temps : new.temps ≡ old.temps
  pub added : new.added ≡ old.added
  pub who : new.who ≡ old.who

module _ (made : List DocId) (ds : List Document) where
  same_temps : (c d : Connection) → d.who ≡ c.who → d.added ≡ c.added → d.temps ≡ c.temps → SoundTemps made ds c.who c.added c.temps → SoundTemps made ds d.who d.added d.temps
  same_temps c d w a t h =
      subst (λ (x : Who). SoundTemps made ds x d.added d.temps) (sym w)
      (subst (λ (n : ℕ). SoundTemps made ds c.who n d.temps) (sym a)
      (subst (λ (ts : List OwnTemp). SoundTemps made ds c.who c.added ts) (sym t) h))

  pub temps-mapped : (f : Connection → Connection) → ((c : Connection) → SameNames c (f c)) → (cs : List Connection) → AreSoundTemps made ds cs → AreSoundTemps made ds (map f cs)
  temps-mapped f e [] h = tt
  temps-mapped f e (c ∷ cs) h = (same_temps c (f c) (e c).who (e c).added (e c).temps h.0, temps-mapped f e cs h.1)

  temps_filtered : (p : Connection → Bool) (cs : List Connection) → AreSoundTemps made ds cs → AreSoundTemps made ds (filter p cs)
  temps_filtered p [] h = tt
  temps_filtered p (c ∷ cs) h = elim (p c) as (λ b. AreSoundTemps made ds (cond b (c ∷ filter p cs) (filter p cs))) [
    | true ↦ (h.0, temps_filtered p cs h.1)
    | false ↦ temps_filtered p cs h.1
  ]

  no_temps : (who : Who) (added : ℕ) → added ≤ last_temp → SoundTemps made ds who added []
  unfolding IsDistinct
  no_temps who added l = record { differ = tt; within = omega arith; counted = l; sound = refl }

  temps_entered : (cs : List Connection) (c : Connection) → c.temps ≡ [] → c.added ≤ last_temp → AreSoundTemps made ds cs → AreSoundTemps made ds (cs ++ c ∷ [])
  temps_entered [] c e l h = (subst (λ (ts : List OwnTemp). SoundTemps made ds c.who c.added ts) (sym e) (no_temps c.who c.added l), tt)
  temps_entered (x ∷ xs) c e l h = (h.0, temps_entered xs c e l h.1)

  pub temps-found : (seat : ℕ) (cs : List Connection) (c : Connection) → connection_of cs seat ≡ Some c → AreSoundTemps made ds cs → SoundTemps made ds c.who c.added c.temps
  temps-found seat [] c f h = cc
  temps-found seat (x ∷ xs) c f h = step (x.seat == seat) (λ e. temps-found seat xs c e h.1) f
    where
      step : (b : Bool) → (connection_of xs seat ≡ Some c → SoundTemps made ds c.who c.added c.temps) → cond b (Some x) (connection_of xs seat) ≡ Some c → SoundTemps made ds c.who c.added c.temps
      step true g e = let same : x ≡ c = cc in subst (λ (y : Connection). SoundTemps made ds y.who y.added y.temps) same h.0
      step false g e = g e

pub within-mapped : (told : Bool) (taken : List TakenGeneration) (f : Connection → Connection) → ((c : Connection) → (f c).temps ≡ c.temps) → (cs : List Connection) → list_all (has_taken_temps told taken) (map f cs) ≡ list_all (has_taken_temps told taken) cs
within-mapped told taken f e [] = refl
within-mapped told taken f e (c ∷ cs) = λ i. list_all (is_taken_temp told taken) (e c i) && within-mapped told taken f e cs i

pub seats-mapped : (made : List DocId) (ds : List Document) (told : Bool) (taken : List TakenGeneration) (f : Connection → Connection) → ((c : Connection) → SameNames c (f c)) → (cs : List Connection) → SoundSeats made ds told taken cs → SoundSeats made ds told taken (map f cs)
seats-mapped made ds told taken f e cs h = record {
  namings = names-mapped made ds f (λ c. (e c).namings) cs h.namings;
  temps = temps-mapped made ds f e cs h.temps;
  within = within-mapped told taken f (λ c. (e c).temps) cs ∙ h.within;
}

pub seats-filtered : (made : List DocId) (ds : List Document) (told : Bool) (taken : List TakenGeneration) (p : Connection → Bool) (cs : List Connection) → SoundSeats made ds told taken cs → SoundSeats made ds told taken (filter p cs)
seats-filtered made ds told taken p cs h = record {
  namings = names-filtered made ds p cs h.namings;
  temps = temps_filtered made ds p cs h.temps;
  within = list_all-filter (has_taken_temps told taken) p cs h.within;
}

-- one more, on which nothing was named and made
pub seats-entered : (made : List DocId) (ds : List Document) (told : Bool) (taken : List TakenGeneration) (cs : List Connection) (c : Connection) → c.namings ≡ [] → c.temps ≡ [] → c.added ≤ last_temp → SoundSeats made ds told taken cs → SoundSeats made ds told taken (cs ++ c ∷ [])
seats-entered made ds told taken cs c n t l h = record {
  namings = names-entered made ds cs c n h.namings;
  temps = temps_entered made ds cs c t l h.temps;
  within =
      list_all-append (has_taken_temps told taken) cs (c ∷ [])
      ∙ both (list_all (has_taken_temps told taken) cs) (has_taken_temps told taken c && true) h.within
      (both (has_taken_temps told taken c) true (ap (λ (ts : List OwnTemp). list_all (is_taken_temp told taken) ts) t) refl);
}

pub told_same : (seat : ℕ) (c : Connection) → SameNames c (told_of seat c)
told_same seat c = elim (c.seat == seat) as (λ b. SameNames c (cond b (record c { unsent = [] }) c)) [
  | true ↦ record { namings = refl; temps = refl; added = refl; who = refl }
  | false ↦ record { namings = refl; temps = refl; added = refl; who = refl }
]

pub requeued_same : (seat : ℕ) (change : List (List ℕ) → List (List ℕ)) (c : Connection) → SameNames c (requeued seat change c)
requeued_same seat change c = elim (c.seat == seat) as (λ b. SameNames c (cond b (record c { queue = change c.queue }) c)) [
  | true ↦ record { namings = refl; temps = refl; added = refl; who = refl }
  | false ↦ record { namings = refl; temps = refl; added = refl; who = refl }
]

pub counted_same : (seat : ℕ) (c : Connection) → SameNames c (counted seat c)
counted_same seat c = elim (c.seat == seat) as (λ b. SameNames c (cond b (record c { opens = c.opens + 1 }) c)) [
  | true ↦ record { namings = refl; temps = refl; added = refl; who = refl }
  | false ↦ record { namings = refl; temps = refl; added = refl; who = refl }
]

-- a path that is named leaves temporaries
pub record SameTemps (old new : Connection) : Type 0 where
  pub temps : new.temps ≡ old.temps
  pub added : new.added ≡ old.added
  pub who : new.who ≡ old.who

pub named_temps : (seat : ℕ) (new : Naming) (c : Connection) → SameTemps c (named_on seat new c)
named_temps seat new c = elim (c.seat == seat) as (λ b. SameTemps c (cond b (record c { namings = with_naming c.namings new }) c)) [
  | true ↦ record { temps = refl; added = refl; who = refl }
  | false ↦ record { temps = refl; added = refl; who = refl }
]

pub temps-named : (made : List DocId) (ds : List Document) (f : Connection → Connection) → ((c : Connection) → SameTemps c (f c)) → (cs : List Connection) → AreSoundTemps made ds cs → AreSoundTemps made ds (map f cs)
temps-named made ds f e [] h = tt
temps-named made ds f e (c ∷ cs) h = (same_temps made ds c (f c) (e c).who (e c).added (e c).temps h.0, temps-named made ds f e cs h.1)

pub within-named : (told : Bool) (taken : List TakenGeneration) (seat : ℕ) (new : Naming) (cs : List Connection) → list_all (has_taken_temps told taken) (map (named_on seat new) cs) ≡ list_all (has_taken_temps told taken) cs
within-named told taken seat new cs = within-mapped told taken (named_on seat new) (λ c. (named_temps seat new c).temps) cs

-- ---- the temporaries of a connection change

renamed_number : (k : ℕ) (name : List ℕ) (t : OwnTemp) → (renamed k name t).k ≡ t.k
renamed_number k name t = elim (t.k == k) as (λ b. (cond b (record t { temp = record t.temp { name = name } }) t).k ≡ t.k) [ true ↦ refl | false ↦ refl ]

-- where a change of each item leaves which are the same
pub distinct-mapped : {X : Type 0} (same : X → X → Bool) (g : X → X) → ((x y : X) → same (g x) (g y) ≡ same x y) → (xs : List X) → IsDistinct same xs → IsDistinct same (map g xs)
unfolding IsDistinct
distinct-mapped same g e [] h = tt
distinct-mapped same g e (x ∷ xs) h = (apart xs h.0, distinct-mapped same g e xs h.1)
  where
    apart : (ys : List _) → AllByRecursion (λ y. same x y ≡ false) ys → AllByRecursion (λ y. same (g x) y ≡ false) (map g ys)
    apart [] k = tt
    apart (y ∷ ys) k = (e x y ∙ k.0, apart ys k.1)

pub all-mapped : {X : Type 0} (p : X → Bool) (g : X → X) → ((x : X) → p (g x) ≡ p x) → (xs : List X) → list_all p (map g xs) ≡ list_all p xs
all-mapped p g e [] = refl
all-mapped p g e (x ∷ xs) = λ i. e x i && all-mapped p g e xs i

pub length-mapped : {X Y : Type 0} (g : X → Y) (xs : List X) → length (map g xs) ≡ length xs
length-mapped g [] = refl
length-mapped g (x ∷ xs) = ap (λ (n : ℕ). suc n) (length-mapped g xs)

fewer : {X : Type 0} (p : X → Bool) (xs : List X) → length (filter p xs) ≤ length xs
fewer p [] = omega arith
fewer p (x ∷ xs) = step (p x) (fewer p xs)
  where
    step : (b : Bool) → length (filter p xs) ≤ length xs → length (cond b (x ∷ filter p xs) (filter p xs)) ≤ length (x ∷ xs)
    step true l = omega arith
    step false l = omega arith

module _ (made : List DocId) (ds : List Document) (who : Who) where
  -- one more temporary is sound, and there is a place for it
  abbrev pub ChangeFine : ℕ → List OwnTemp → TempChange → Type 0
  ChangeFine added temps (Begins temp) = (is_sound_temp made ds who (added + 1) (own_temp (added + 1) temp) ≡ true) × (are_temps_full temps ≡ false) × (nat_lt added last_temp ≡ true)
  ChangeFine added temps (Drops k) = Unit {0}
  ChangeFine added temps (Renames k temp name) = Unit {0}

  number_below : (added k : ℕ) → nat_le k added ≡ true → (k == added + 1) ≡ false
  number_below added k h = grind (arith, nat_tests)

  number_above : (added k : ℕ) → (nat_lt 0 k && nat_le k added) ≡ true → (nat_lt 0 k && nat_le k (added + 1)) ≡ true
  number_above added k h = grind (arith, nat_tests)

  new_number : (added : ℕ) (temp : Temp) (ts : List OwnTemp) → list_all (is_sound_temp made ds who added) ts ≡ true → AllByRecursion (λ (t : OwnTemp). same_number t (own_temp (added + 1) temp) ≡ false) ts
  new_number added temp [] h = tt
  new_number added temp (t ∷ ts) h =
      let rest : Bool = is_made made t.temp.document.number && (placed ds t && beyond who t) in
      let here : is_sound_temp made ds who added t ≡ true = first_of_both (is_sound_temp made ds who added t) (list_all (is_sound_temp made ds who added) ts) h in
      let number : numbered added t ≡ true = first_of_both (numbered added t) rest here in
      (number_below added t.k (second_of_both (nat_lt 0 t.k) (nat_le t.k added) number), new_number added temp ts (second_of_both (is_sound_temp made ds who added t) (list_all (is_sound_temp made ds who added) ts) h))

  later_sound : (added : ℕ) (t : OwnTemp) → is_sound_temp made ds who added t ≡ true → is_sound_temp made ds who (added + 1) t ≡ true
  later_sound added t h =
      let rest : Bool = is_made made t.temp.document.number && (placed ds t && beyond who t) in
      both (numbered (added + 1) t) rest (number_above added t.k (first_of_both (numbered added t) rest h)) (second_of_both (numbered added t) rest h)

  room_for : (n : ℕ) → not (nat_lt n temps_limit) ≡ false → n + 1 ≤ temps_limit
  room_for n h = grind (arith, nat_tests)

  one_more : (temp : OwnTemp) (ts : List OwnTemp) → are_temps_full ts ≡ false → length (ts ++ temp ∷ []) ≤ temps_limit
  one_more temp ts h =
      let l : length (ts ++ temp ∷ []) ≡ length ts + 1 = length-append ts (temp ∷ []) in
      let r : length ts + 1 ≤ temps_limit = room_for (length ts) h in
      subst (λ (n : ℕ). n ≤ temps_limit) (sym l) r

  next_number : (added : ℕ) → nat_lt added last_temp ≡ true → added + 1 ≤ last_temp
  next_number added h = grind (arith, nat_tests)

  begun_sound : (added : ℕ) (temp : Temp) (ts : List OwnTemp) → ChangeFine added ts (Begins temp) → SoundTemps made ds who added ts → SoundTemps made ds who (added + 1) (ts ++ own_temp (added + 1) temp ∷ [])
  begun_sound added temp ts f h =
      let new : OwnTemp = own_temp (added + 1) temp in
      let sound : OwnTemp → Bool = is_sound_temp made ds who (added + 1) in
      record {
        differ = IsDistinct-more same_number new ts (new_number added temp ts h.sound) h.differ;
        within = one_more new ts f.1;
        counted = next_number added f.2;
        sound =
            list_all-append sound ts (new ∷ [])
            ∙ both (list_all sound ts) (sound new && true) (list_all-weaken (is_sound_temp made ds who added) sound (later_sound added) ts h.sound) (both (sound new) true f.0 refl);
      }

  fewer_sound : (p : OwnTemp → Bool) (added : ℕ) (ts : List OwnTemp) → SoundTemps made ds who added ts → SoundTemps made ds who added (filter p ts)
  fewer_sound p added ts h =
      let l : length (filter p ts) ≤ length ts = fewer p ts in
      let m : length ts ≤ temps_limit = h.within in
      record {
        differ = IsDistinct-filter same_number p ts h.differ;
        within = omega arith;
        counted = h.counted;
        sound = list_all-filter (is_sound_temp made ds who added) p ts h.sound;
      }

  placed_as : (name : List ℕ) (t : OwnTemp) (o : Option Document) → is_placed_temp o (record t.temp { name = name }) ≡ is_placed_temp o t.temp
  placed_as name t None = refl
  placed_as name t (Some d) = refl

  viewed_as : (name : List ℕ) (t : OwnTemp) (w : Who) → is_viewed_temp w (record t.temp { name = name }) ≡ is_viewed_temp w t.temp
  viewed_as name t Who.Host = refl
  viewed_as name t (Who.App app) = refl

  same_but_name : (k : ℕ) (name : List ℕ) (added : ℕ) (t : OwnTemp) → is_sound_temp made ds who added (renamed k name t) ≡ is_sound_temp made ds who added t
  same_but_name k name added t = elim (t.k == k) as (λ b. is_sound_temp made ds who added (cond b (record t { temp = record t.temp { name = name } }) t) ≡ is_sound_temp made ds who added t) [
    | true ↦ λ i. (nat_lt 0 t.k && nat_le t.k added) && (is_made made t.temp.document.number && (placed_as name t (document_of ds t.temp.document.number) i && (viewed_as name t who i && is_later_file t.temp.file)))
    | false ↦ refl
  ]

  renamed_sound : (k : ℕ) (name : List ℕ) (added : ℕ) (ts : List OwnTemp) → SoundTemps made ds who added ts → SoundTemps made ds who added (map (renamed k name) ts)
  renamed_sound k name added ts h = record {
    differ = distinct-mapped same_number (renamed k name) (λ x y. λ i. renamed_number k name x i == renamed_number k name y i) ts h.differ;
    within = subst (λ (n : ℕ). n ≤ temps_limit) (sym (length-mapped (renamed k name) ts)) h.within;
    counted = h.counted;
    sound = all-mapped (is_sound_temp made ds who added) (renamed k name) (same_but_name k name added) ts ∙ h.sound;
  }

  pub change-sound : (change : TempChange) (added : ℕ) (ts : List OwnTemp) → ChangeFine added ts change → SoundTemps made ds who added ts → SoundTemps made ds who (added_after change added) (temps_after change added ts)
  change-sound (Begins temp) added ts f h = begun_sound added temp ts f h
  change-sound (Drops k) added ts f h = fewer_sound (λ (t : OwnTemp). not (t.k == k)) added ts h
  change-sound (Renames k temp name) added ts f h = renamed_sound k name added (filter (λ (t : OwnTemp). not (is_replaced k temp name t)) ts) (fewer_sound (λ (t : OwnTemp). not (is_replaced k temp name t)) added ts h)

-- what the connection of a seat has of them
pub record HasTemps (who : Who) (added : ℕ) (temps : List OwnTemp) (c : Connection) : Type 0 where
  pub caller : c.who ≡ who
  pub count : c.added ≡ added
  pub own : c.temps ≡ temps

pub temps-changed : (made : List DocId) (ds : List Document) (who : Who) (added : ℕ) (ts : List OwnTemp) (change : TempChange) → ChangeFine made ds who added ts change → (seat : ℕ) (cs : List Connection) → AtSeat seat (HasTemps who added ts) cs → AreSoundTemps made ds cs → AreSoundTemps made ds (map (temps_changed seat change) cs)
temps-changed made ds who added ts change f seat [] a h = tt
temps-changed made ds who added ts change f seat (c ∷ cs) a h = (one (c.seat == seat) refl, temps-changed made ds who added ts change f seat cs a.1 h.1)
  where
    here : HasTemps who added ts c → SoundTemps made ds c.who (added_after change c.added) (temps_after change c.added c.temps)
    here e =
        let fine : ChangeFine made ds c.who c.added c.temps change =
        subst (λ (w : Who). ChangeFine made ds w c.added c.temps change) (sym e.caller)
        (subst (λ (n : ℕ). ChangeFine made ds who n c.temps change) (sym e.count)
        (subst (λ (xs : List OwnTemp). ChangeFine made ds who added xs change) (sym e.own) f)) in
        change-sound made ds c.who change c.added c.temps fine h.0

    one : (b : Bool) → (c.seat == seat) ≡ b → SoundTemps made ds (cond b (with_temps change c) c).who (cond b (with_temps change c) c).added (cond b (with_temps change c) c).temps
    one true e = here (a.0 e)
    one false e = h.0

-- a temporary that is made is of a generation that was taken
abbrev pub TempTaken : Bool → List TakenGeneration → TempChange → Type 0
TempTaken told taken (Begins temp) = is_taken_temp told taken (own_temp 0 temp) ≡ true
TempTaken told taken (Drops k) = Unit {0}
TempTaken told taken (Renames k temp name) = Unit {0}

change_taken : (told : Bool) (taken : List TakenGeneration) (change : TempChange) → TempTaken told taken change → (added : ℕ) (ts : List OwnTemp) → list_all (is_taken_temp told taken) ts ≡ true → list_all (is_taken_temp told taken) (temps_after change added ts) ≡ true
change_taken told taken (Begins temp) f added ts h =
    list_all-append (is_taken_temp told taken) ts (own_temp (added + 1) temp ∷ [])
    ∙ both (list_all (is_taken_temp told taken) ts) (is_taken_temp told taken (own_temp (added + 1) temp) && true) h (both (is_taken_temp told taken (own_temp (added + 1) temp)) true f refl)
change_taken told taken (Drops k) f added ts h = list_all-filter (is_taken_temp told taken) (λ (t : OwnTemp). not (t.k == k)) ts h
change_taken told taken (Renames k temp name) f added ts h =
    all-mapped (is_taken_temp told taken) (renamed k name) named (filter (λ (t : OwnTemp). not (is_replaced k temp name t)) ts)
    ∙ list_all-filter (is_taken_temp told taken) (λ (t : OwnTemp). not (is_replaced k temp name t)) ts h
  where
    named : (t : OwnTemp) → is_taken_temp told taken (renamed k name t) ≡ is_taken_temp told taken t
    named t = elim (t.k == k) as (λ b. is_taken_temp told taken (cond b (record t { temp = record t.temp { name = name } }) t) ≡ is_taken_temp told taken t) [ true ↦ refl | false ↦ refl ]

pub within-changed : (told : Bool) (taken : List TakenGeneration) (change : TempChange) → TempTaken told taken change → (seat : ℕ) (cs : List Connection) → list_all (has_taken_temps told taken) cs ≡ true → list_all (has_taken_temps told taken) (map (temps_changed seat change) cs) ≡ true
within-changed told taken change f seat [] h = refl
within-changed told taken change f seat (c ∷ cs) h =
    let first : has_taken_temps told taken c ≡ true = first_of_both (has_taken_temps told taken c) (list_all (has_taken_temps told taken) cs) h in
    let rest : list_all (has_taken_temps told taken) cs ≡ true = second_of_both (has_taken_temps told taken c) (list_all (has_taken_temps told taken) cs) h in
    both (has_taken_temps told taken (temps_changed seat change c)) (list_all (has_taken_temps told taken) (map (temps_changed seat change) cs)) (one (c.seat == seat) first) (within-changed told taken change f seat cs rest)
  where
    one : (b : Bool) → has_taken_temps told taken c ≡ true → has_taken_temps told taken (cond b (with_temps change c) c) ≡ true
    one true e = change_taken told taken change f c.added c.temps e
    one false e = e
