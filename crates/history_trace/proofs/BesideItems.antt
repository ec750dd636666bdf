-- The files of an opening state that aren't present are beside those that are.
use Rattle.std.proofs.Common.{◌≡◌, ℕ, ◌==◌, List, [], ◌∷◌, ◌++◌, Bool, true, false, not, ◌&&◌, ◌||◌, cond, Option, Some, None, is_some, refl, ap, subst, ◌∙◌}
use Rattle.std.specs.List.{AllByRecursion, IsDistinct}
use Rattle.file_generations.specs.Generations.{name_of_file, same_file}
use Rattle.host_tree.specs.Beside.{AreBeside, AreHeld, are_apart}
use Rattle.host_tree.specs.Trees.{has_file}
use Rattle.host_tree.proofs.BesideFiles.{not-true}
use Rattle.portal_base.specs.Content.{file_at, file_named, has_room, is_named}
use Rattle.portal_base.specs.declared.files.File.{File}
use Rattle.portal_base.specs.declared.files.FileName.{FileName}
use Rattle.portal_base.proofs.PathsAbove.{both}
use Rattle.portal_model.specs.declared.opening.OpeningState.{OpeningState}
use Rattle.portal_model.specs.Opening.{held_items, opened}
use Rattle.portal_model.specs.SoundGenerations.{is_followed}
use Rattle.portal_model.specs.Valid.{Valid}
use Rattle.portal_model.proofs.ListLookups.{found_in_all}
use Rattle.app_world.proofs.HeldFiles.{SoundTree, found-name, hidden-none, name-turned}

-- ---- a front of the files beside

has-front : (n : FileName) (fs gs : List File) → has_file n fs ≡ true → has_file n (fs ++ gs) ≡ true
has-front n [] gs e = absurd (cc)
has-front n (f ∷ fs) gs e = step (is_named n f) e (has-front n fs gs)
  where
    step : (b : Bool) → is_some (cond b (Some f) (file_named fs n)) ≡ true → (has_file n fs ≡ true → has_file n (fs ++ gs) ≡ true) →
        is_some (cond b (Some f) (file_named (fs ++ gs) n)) ≡ true
    step true e more = refl
    step false e more = more e

none-front : (n : FileName) (fs gs : List File) → has_file n (fs ++ gs) ≡ false → has_file n fs ≡ false
none-front n [] gs e = refl
none-front n (f ∷ fs) gs e = step (is_named n f) e (none-front n fs gs)
  where
    step : (b : Bool) → is_some (cond b (Some f) (file_named (fs ++ gs) n)) ≡ false → (has_file n (fs ++ gs) ≡ false → has_file n fs ≡ false) →
        is_some (cond b (Some f) (file_named fs n)) ≡ false
    step true e more = absurd (cc)
    step false e more = more e

apart-front : (fs gs : List File) → are_apart (fs ++ gs) ≡ true → are_apart fs ≡ true
apart-front [] gs a = refl
apart-front (f ∷ fs) gs a =
    let name = name_of_file f in
    let parts = both (not (has_file name (fs ++ gs))) (are_apart (fs ++ gs)) a in
    let alone : has_file name fs ≡ false = none-front name fs gs (not-true (has_file name (fs ++ gs)) parts.0) in
    let rest : are_apart fs ≡ true = apart-front fs gs parts.1 in
    λ i. not (alone i) && rest i

pub beside-front : (present fs gs : List File) → AreBeside present (fs ++ gs) → AreBeside present fs
beside-front present fs gs a = record {
  apart = apart-front fs gs a.apart;
  beside = λ n e. a.beside n (has-front n fs gs e);
  room = λ n e. a.room n (has-front n fs gs e);
  followed = λ n e z. a.followed n (has-front n fs gs e) z;
}

-- ---- those of an opening state

none-alike : (f : File) (fs : List File) → AllByRecursion (λ g. same_file f g ≡ false) fs → has_file (name_of_file f) fs ≡ false
none-alike f [] h = refl
none-alike f (g ∷ gs) h =
    ap (λ (b : Bool). is_some (cond b (Some g) (file_named gs (name_of_file f)))) (name-turned (name_of_file g) (name_of_file f) ∙ h.0)
    ∙ none-alike f gs h.1

apart-distinct : (fs : List File) → IsDistinct same_file fs → are_apart fs ≡ true
unfolding IsDistinct
apart-distinct [] d = refl
apart-distinct (f ∷ fs) d =
    let alone : has_file (name_of_file f) fs ≡ false = none-alike f fs d.0 in
    let rest : are_apart fs ≡ true = apart-distinct fs d.1 in
    λ i. not (alone i) && rest i

some-of : (o : Option File) → is_some o ≡ true → (f : File) × (o ≡ Some f)
some-of None e = absurd (cc)
some-of (Some f) e = (f, refl)

none-of : (o : Option File) → ((f : File) → o ≡ Some f → ⊥) → is_some o ≡ false
none-of None h = refl
none-of (Some f) h = absurd (h f refl)

pub items-beside : (o : OpeningState) → Valid (opened o) → AreHeld (held_items o.files)
items-beside o v = record {
  apart = apart-distinct hidden v.generations_sound.differ;
  beside = λ n e. none-of (file_named present n) (λ g k. clash (file_named hidden n) e (hidden-none (held_items o.files) tree n g k));
  room = λ n e.
      let w = some-of (file_named hidden n) e in
      subst (λ (m : FileName). has_room present m.path ≡ true) (found-name hidden n w.0 w.1)
      (found_in_all (is_named n) (λ (f : File). has_room present f.path) hidden w.0 w.1 v.generations_sound.placed);
  followed = λ n e z.
      let w = some-of (file_named hidden n) e in
      let here : (not (n.generation == 0) || is_some (file_at present n.path)) ≡ true =
      subst (λ (m : FileName). (not (m.generation == 0) || is_some (file_at present m.path)) ≡ true) (found-name hidden n w.0 w.1)
      (found_in_all (is_named n) (is_followed present) hidden w.0 w.1 v.generations_sound.followed) in
      subst (λ (k : ℕ). (not (k == 0) || is_some (file_at present n.path)) ≡ true) z here;
}
  where
    present : List File
    present = (held_items o.files).present

    hidden : List File
    hidden = (held_items o.files).hidden

    tree : SoundTree (held_items o.files)
    tree = record {
      paths = v.files_differ;
      apart = v.files_apart;
      others = v.generations_sound.apart;
      followed = v.generations_sound.followed;
      placed = v.generations_sound.placed;
    }

    clash : (p : Option File) → is_some p ≡ true → p ≡ None → ⊥
    clash None e k = absurd (cc)
    clash (Some f) e k = absurd (cc)
