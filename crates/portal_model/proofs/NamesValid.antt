-- What connections have named stays sound: while documents and connections change, and as one names more.
use Rattle.std.proofs.Common.{◌≡◌, ◌≤◌, ℕ, ◌+◌, ◌==◌, nat_lt, length, length-append, List, [], ◌∷◌, ◌++◌, map, Bool, true, false, not, ◌&&◌, ◌||◌, cond, Option, Some, None, ◌⊎◌, ⊎_elim, inl, refl, sym, ap, subst, ◌∙◌, arith}
use Rattle.std.specs.List.{filter, list_all, IsDistinct, AllByRecursion}
use Rattle.std.proofs.lemmas.Bool.Decides.{nat_tests}
use Rattle.std.proofs.lemmas.List.Folds.{list_all-append}
use Rattle.portal_base.specs.Names.{is_host_path, is_same}
use Rattle.portal_base.specs.declared.names.doc_id.DocId.{DocId}
use Rattle.portal_model.specs.declared.naming.Naming.{Naming}
use Rattle.portal_model.specs.declared.state.Connection.{Connection}
use Rattle.portal_model.specs.declared.state.Document.{Document}
use Rattle.portal_model.specs.Node.{counted, named_on}
use Rattle.portal_model.specs.Present.{requeued}
use Rattle.portal_model.specs.SeatNames.{is_named_before, lacks_number, namings_limit, same_naming, with_naming}
use Rattle.portal_model.specs.SoundNames.{SoundNamings, is_placed_naming, is_sound_naming}
use Rattle.portal_model.specs.State.{connection_of, document_of, is_made}
use Rattle.portal_model.specs.Step.{told_of}
use Rattle.portal_model.proofs.DistinctItems.{IsDistinct-more, list_all-weaken}
use Rattle.portal_model.proofs.DocumentChanges.{both, first_of_both, found-of-made, others, second_of_both, still-or-gone, still_made}
use Rattle.portal_model.proofs.ListLookups.{is_same-eq, nat_is}
use Rattle.portal_model.proofs.Queues.{AtSeat}
use Rattle.portal_model.proofs.SoundParts.{AreSoundNames}

-- ---- other documents

-- numbers that were made stay made, and their documents stay or go
pub record Follows (made : List DocId) (ds : List Document) (made' : List DocId) (ds' : List Document) : Type 0 where
  pub still : (number : ℕ) → is_made made number ≡ true → is_made made' number ≡ true
  pub documents : (number : ℕ) → is_made made number ≡ true → (document_of ds' number ≡ document_of ds number) ⊎ (document_of ds' number ≡ None)

module _ (made : List DocId) (ds : List Document) (made' : List DocId) (ds' : List Document) (f : Follows made ds made' ds') where
  naming_follows : (n : Naming) → is_sound_naming made ds n ≡ true → is_sound_naming made' ds' n ≡ true
  naming_follows n h =
      let number = n.document.number in
      let before = is_placed_naming (document_of ds number) n in
      let after = is_placed_naming (document_of ds' number) n in
      let was : is_made made number ≡ true = first_of_both (is_made made number) (is_host_path n.path && before) h in
      let rest : (is_host_path n.path && before) ≡ true = second_of_both (is_made made number) (is_host_path n.path && before) h in
      let placed : after ≡ true = ⊎_elim
      (λ e. ap (λ (o : Option Document). is_placed_naming o n) e ∙ second_of_both (is_host_path n.path) before rest)
      (λ e. ap (λ (o : Option Document). is_placed_naming o n) e)
      (f.documents number was) in
      both (is_made made' number) (is_host_path n.path && after) (f.still number was)
      (both (is_host_path n.path) after (first_of_both (is_host_path n.path) before rest) placed)

  namings_follow : (ns : List Naming) → SoundNamings made ds ns → SoundNamings made' ds' ns
  namings_follow ns k = record {
    differ = k.differ;
    within = k.within;
    sound = list_all-weaken (is_sound_naming made ds) (is_sound_naming made' ds') naming_follows ns k.sound;
  }

  pub names_follow : (cs : List Connection) → AreSoundNames made ds cs → AreSoundNames made' ds' cs
  names_follow [] h = tt
  names_follow (c ∷ cs) h = (namings_follow c.namings h.0, names_follow cs h.1)

-- a document more
pub follows-new : (made : List DocId) (ds : List Document) (d : Document) → is_made made d.id.number ≡ false → Follows made ds (made ++ d.id ∷ []) (ds ++ d ∷ [])
follows-new made ds d f = record {
  still = λ number k. still_made made d.id number k;
  documents = λ number k. inl (found-of-made made d ds number f k);
}

-- and one that goes
pub follows-deleted : (made : List DocId) (ds : List Document) (number : ℕ) → Follows made ds made (others number ds)
follows-deleted made ds number = record {
  still = λ n k. k;
  documents = λ n k. still-or-gone number n ds;
}

-- ---- other connections

module _ (made : List DocId) (ds : List Document) where
  -- those that have named the same
  pub names-mapped : (f : Connection → Connection) → ((c : Connection) → (f c).namings ≡ c.namings) → (cs : List Connection) → AreSoundNames made ds cs → AreSoundNames made ds (map f cs)
  names-mapped f e [] h = tt
  names-mapped f e (c ∷ cs) h = (subst (SoundNamings made ds) (sym (e c)) h.0, names-mapped f e cs h.1)

  pub names-filtered : (p : Connection → Bool) (cs : List Connection) → AreSoundNames made ds cs → AreSoundNames made ds (filter p cs)
  names-filtered p [] h = tt
  names-filtered p (c ∷ cs) h = elim (p c) as (λ b. AreSoundNames made ds (cond b (c ∷ filter p cs) (filter p cs))) [
    | true ↦ (h.0, names-filtered p cs h.1)
    | false ↦ names-filtered p cs h.1
  ]

  nothing_named : SoundNamings made ds []
  unfolding IsDistinct
  nothing_named = record { differ = tt; within = omega arith; sound = refl }

  -- one more, on which nothing was named
  pub names-entered : (cs : List Connection) (c : Connection) → c.namings ≡ [] → AreSoundNames made ds cs → AreSoundNames made ds (cs ++ c ∷ [])
  names-entered [] c e h = (subst (SoundNamings made ds) (sym e) nothing_named, tt)
  names-entered (x ∷ xs) c e h = (h.0, names-entered xs c e h.1)

  pub names-found : (seat : ℕ) (cs : List Connection) (c : Connection) → connection_of cs seat ≡ Some c → AreSoundNames made ds cs → SoundNamings made ds c.namings
  names-found seat [] c f h = cc
  names-found seat (x ∷ xs) c f h = step (x.seat == seat) (λ e. names-found seat xs c e h.1) f
    where
      step : (b : Bool) → (connection_of xs seat ≡ Some c → SoundNamings made ds c.namings) → cond b (Some x) (connection_of xs seat) ≡ Some c → SoundNamings made ds c.namings
      step true g e = let same : x ≡ c = cc in subst (λ (y : Connection). SoundNamings made ds y.namings) same h.0
      step false g e = g e

pub told_names : (seat : ℕ) (c : Connection) → (told_of seat c).namings ≡ c.namings
told_names seat c = elim (c.seat == seat) as (λ b. (cond b (record c { unsent = [] }) c).namings ≡ c.namings) [ true ↦ refl | false ↦ refl ]

pub requeued_names : (seat : ℕ) (change : List (List ℕ) → List (List ℕ)) (c : Connection) → (requeued seat change c).namings ≡ c.namings
requeued_names seat change c = elim (c.seat == seat) as (λ b. (cond b (record c { queue = change c.queue }) c).namings ≡ c.namings) [ true ↦ refl | false ↦ refl ]

pub counted_names : (seat : ℕ) (c : Connection) → (counted seat c).namings ≡ c.namings
counted_names seat c = elim (c.seat == seat) as (λ b. (cond b (record c { opens = c.opens + 1 }) c).namings ≡ c.namings) [ true ↦ refl | false ↦ refl ]

-- ---- a path below an exported folder gets a number

naming_turned : (a b : Naming) (c : Bool) → same_naming a b ≡ c → same_naming b a ≡ false → c ≡ false
naming_turned a b true e h =
    let rest = second_of_both (a.view == b.view) (a.document.number == b.document.number && is_same a.path b.path) e in
    let view : a.view ≡ b.view = nat_is a.view b.view (first_of_both (a.view == b.view) (a.document.number == b.document.number && is_same a.path b.path) e) in
    let number : a.document.number ≡ b.document.number = nat_is a.document.number b.document.number (first_of_both (a.document.number == b.document.number) (is_same a.path b.path) rest) in
    let path : a.path ≡ b.path = is_same-eq a.path b.path (second_of_both (a.document.number == b.document.number) (is_same a.path b.path) rest) in
    let turned : same_naming a b ≡ same_naming b a = λ i. (view i == sym view i) && ((number i == sym number i) && is_same (path i) (sym path i)) in
    let no : true ≡ false = sym e ∙ (turned ∙ h) in
    no
naming_turned a b false e h = refl

none_before : (new : Naming) (ns : List Naming) → is_named_before ns new ≡ false → AllByRecursion (λ n. same_naming n new ≡ false) ns
none_before new [] h = tt
none_before new (n ∷ ns) h = (naming_turned n new (same_naming n new) refl (first_none (same_naming new n) (is_named_before ns new) h), none_before new ns (rest_none (same_naming new n) (is_named_before ns new) h))
  where
    first_none : (a b : Bool) → (a || b) ≡ false → a ≡ false
    first_none true b e = e
    first_none false b e = refl

    rest_none : (a b : Bool) → (a || b) ≡ false → b ≡ false
    rest_none true b e = cc
    rest_none false b e = e

-- what a list of so many, and one more, is no longer than
one_more : {X : Type 0} (xs : List X) (x : X) (limit : ℕ) → nat_lt (length xs) limit ≡ true → length (xs ++ x ∷ []) ≤ limit
one_more xs x limit h = let l = length-append xs (x ∷ []) in grind (arith, nat_tests)

not_false : (b : Bool) → not b ≡ false → b ≡ true
not_false true e = refl
not_false false e = cc

module _ (made : List DocId) (ds : List Document) (new : Naming) (sound : is_sound_naming made ds new ≡ true) where
  namings_named : (ns : List Naming) → lacks_number ns new ≡ false → SoundNamings made ds ns → SoundNamings made ds (with_naming ns new)
  namings_named ns room k = step (is_named_before ns new) refl room
    where
      step : (b : Bool) → is_named_before ns new ≡ b → (not b && not (nat_lt (length ns) namings_limit)) ≡ false → SoundNamings made ds (cond b ns (ns ++ new ∷ []))
      step true e r = k
      step false e r = record {
        differ = IsDistinct-more same_naming new ns (none_before new ns e) k.differ;
        within = one_more ns new namings_limit (not_false (nat_lt (length ns) namings_limit) r);
        sound = list_all-append (is_sound_naming made ds) ns (new ∷ []) ∙ both (list_all (is_sound_naming made ds) ns) (is_sound_naming made ds new && true) k.sound (both (is_sound_naming made ds new) true sound refl);
      }

  -- on the connection of a seat, which has named these
  pub names-named : (seat : ℕ) (ns : List Naming) → lacks_number ns new ≡ false → (cs : List Connection) → AtSeat seat (λ (c : Connection). c.namings ≡ ns) cs → AreSoundNames made ds cs → AreSoundNames made ds (map (named_on seat new) cs)
  names-named seat ns room [] a h = tt
  names-named seat ns room (c ∷ cs) a h = (one (c.seat == seat) refl, names-named seat ns room cs a.1 h.1)
    where
      one : (b : Bool) → (c.seat == seat) ≡ b → SoundNamings made ds (cond b (record c { namings = with_naming c.namings new }) c).namings
      one true e = namings_named c.namings (ap (λ (xs : List Naming). lacks_number xs new) (a.0 e) ∙ room) h.0
      one false e = h.0
