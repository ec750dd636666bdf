-- Files that change or are made: the files of a tree stay sound.
use Rattle.std.proofs.Common.{◌≡◌, ℕ, List, [], ◌∷◌, Bool, true, false, not, ◌&&◌, ◌||◌, cond, Option, Some, None, refl, sym, ap, ◌∙◌, arith}
use Rattle.std.specs.List.{list_all, list_any, IsDistinct, AllByRecursion}
use Rattle.std.specs.Ordering.{is_lt}
use Rattle.portal_base.specs.Content.{file_at, is_above, is_folder, is_named, has_room, look_at, paths_of}
use Rattle.portal_base.specs.FileChanges.{change_named, put_file, written}
use Rattle.portal_base.specs.Names.{is_same, is_host_path, parent_of, root}
use Rattle.portal_base.specs.PathOrder.{path_order}
use Rattle.portal_base.specs.declared.files.File.{File}
use Rattle.portal_base.specs.declared.files.FileName.{FileName}
use Rattle.portal_base.specs.declared.files.Look.{Look}
use Rattle.portal_base.proofs.PathsAbove.{above_longer, all-apart, all-put, any-paths, any-put, or-parts}
use Rattle.portal_model.proofs.DocumentChanges.{both}
use Rattle.portal_model.proofs.ListLookups.{is_same-eq, is_same-refl}
use Rattle.portal_model.proofs.SoundParts.{SoundFiles}

-- ---- what is true of files is true of their paths

abbrev apart_from : List (List ℕ) → List ℕ → Bool
apart_from paths q = not (is_same q root || list_any (is_above q) paths)

pub record SoundPaths (paths : List (List ℕ)) : Type 0 where
  pub differ : IsDistinct is_same paths
  pub apart : list_all (apart_from paths) paths ≡ true
  pub named : list_all is_host_path paths ≡ true

all_paths : (p : List ℕ → Bool) (fs : List File) → list_all (λ (f : File). p f.path) fs ≡ list_all p (paths_of fs)
all_paths p [] = refl
all_paths p (f ∷ fs) = ap (λ (b : Bool). p f.path && b) (all_paths p fs)

apart_is : (whole fs : List File) → list_all (λ (f : File). not (is_folder whole f.path)) fs ≡ list_all (apart_from (paths_of whole)) (paths_of fs)
apart_is whole [] = refl
apart_is whole (f ∷ fs) = λ i. not (is_same f.path root || any-paths (is_above f.path) whole i) && apart_is whole fs i

pub sound-paths : (files : List File) (told : Bool) → SoundFiles told files → SoundPaths (paths_of files)
sound-paths files told h = record { differ = h.differ; apart = sym (apart_is files files) ∙ h.apart; named = sym (all_paths is_host_path files) ∙ h.named }

pub files-sound : (files : List File) (told : Bool) → SoundPaths (paths_of files) → (told ≡ false → files ≡ []) → SoundFiles told files
files-sound files told h n = record { differ = h.differ; apart = apart_is files files ∙ h.apart; named = all_paths is_host_path files ∙ h.named; none = n }

-- ---- a change of a file that keeps its path

changed_one : (name : FileName) (change : File → File) (f : File) (b : Bool) → (change f).path ≡ f.path → (cond b (change f) f).path ≡ f.path
changed_one name change f true h = h
changed_one name change f false h = refl

pub changed-paths : (name : FileName) (change : File → File) → ((f : File) → (change f).path ≡ f.path) → (files : List File) → paths_of (change_named name change files) ≡ paths_of files
changed-paths name change h [] = refl
changed-paths name change h (f ∷ fs) = λ i. changed_one name change f (is_named name f) (h f) i ∷ changed-paths name change h fs i

pub written-path : (offset : ℕ) (content : List ℕ) (now : ℕ) (f : File) → (written offset content now f).path ≡ f.path
written-path offset [] now f = refl
written-path offset (b ∷ bs) now f = refl

pub written-generation : (offset : ℕ) (content : List ℕ) (now : ℕ) (f : File) → (written offset content now f).generation ≡ f.generation
written-generation offset [] now f = refl
written-generation offset (b ∷ bs) now f = refl

-- ---- a file that is made

same_turned : (a b : List ℕ) (c : Bool) → is_same b a ≡ c → is_same a b ≡ false → c ≡ false
same_turned a b true e h = let no : true ≡ false = sym (is_same-refl a) ∙ (ap (is_same a) (sym (is_same-eq b a e)) ∙ h) in no
same_turned a b false e h = refl

none_same : (p : List ℕ) (fs : List File) → file_at fs p ≡ None → AllByRecursion (λ q. is_same p q ≡ false) (paths_of fs)
none_same p [] h = tt
none_same p (f ∷ fs) h = first (is_same f.path p) refl h (none_same p fs)
  where
    first : (b : Bool) → is_same f.path p ≡ b → cond b (Some f) (file_at fs p) ≡ None → (file_at fs p ≡ None → AllByRecursion (λ q. is_same p q ≡ false) (paths_of fs)) → (is_same p f.path ≡ false) × AllByRecursion (λ q. is_same p q ≡ false) (paths_of fs)
    first true e k rest = cc
    first false e k rest = (same_turned f.path p (is_same p f.path) refl e, rest k)

-- what is true of the new path and of all others is true of all then
put_all_rec : (P : List ℕ → Type 0) (new : File) (fs : List File) → P new.path → AllByRecursion P (paths_of fs) → AllByRecursion P (paths_of (put_file new fs))
put_all_rec P new [] n h = (n, tt)
put_all_rec P new (f ∷ fs) n h = elim (is_lt (path_order new.path f.path)) as (λ b. AllByRecursion P (paths_of (cond b (new ∷ f ∷ fs) (f ∷ put_file new fs)))) [
  | true ↦ (n, h)
  | false ↦ (h.0, put_all_rec P new fs n h.1)
]

put_differ : (new : File) (fs : List File) → AllByRecursion (λ q. is_same new.path q ≡ false) (paths_of fs) → IsDistinct is_same (paths_of fs) → IsDistinct is_same (paths_of (put_file new fs))
unfolding IsDistinct
put_differ new [] n d = (tt, tt)
put_differ new (f ∷ fs) n d = elim (is_lt (path_order new.path f.path)) as (λ b. IsDistinct is_same (paths_of (cond b (new ∷ f ∷ fs) (f ∷ put_file new fs)))) [
  | true ↦ (n, d)
  | false ↦ (put_all_rec (λ q. is_same f.path q ≡ false) new fs (same_turned new.path f.path (is_same f.path new.path) refl n.0) d.0, put_differ new fs n.1 d.1)
]

all_apart : {X : Type 0} (p q : X → Bool) (xs : List X) → list_all (λ x. not (p x || q x)) xs ≡ true → (list_all (λ x. not (p x)) xs ≡ true) × (list_all (λ x. not (q x)) xs ≡ true)
all_apart p q [] h = (refl, refl)
all_apart p q (x ∷ xs) h =
    let rest = all_apart p q xs (grind (arith, h)) in
    (grind (arith, h, rest.0), grind (arith, h, rest.1))

all_joined : {X : Type 0} (p q : X → Bool) (xs : List X) → list_all (λ x. not (p x)) xs ≡ true → list_all (λ x. not (q x)) xs ≡ true → list_all (λ x. not (p x || q x)) xs ≡ true
all_joined p q [] h k = refl
all_joined p q (x ∷ xs) h k = grind (arith, h, k, all_joined p q xs)

pub put-paths : (new : File) (fs : List File) → file_at fs new.path ≡ None → is_folder fs new.path ≡ false → has_room fs new.path ≡ true → is_host_path new.path ≡ true → SoundPaths (paths_of fs) → SoundPaths (paths_of (put_file new fs))
put-paths new fs none folder room name h =
    let parts = or-parts (is_same new.path root) (list_any (λ (g : File). is_above new.path g.path) fs) (ap not folder) in
    let old = all_apart (λ q. is_same q root) (λ q. list_any (is_above q) (paths_of fs)) (paths_of fs) h.apart in
    let more : (q : List ℕ) → list_any (is_above q) (paths_of (put_file new fs)) ≡ (is_above q new.path || list_any (is_above q) (paths_of fs)) = λ q. any-put (is_above q) new fs in
    let place : (is_same (parent_of new.path) root || list_any (is_above (parent_of new.path)) (paths_of fs)) ≡ true =
    ap (λ (b : Bool). is_same (parent_of new.path) root || b) (sym (any-paths (is_above (parent_of new.path)) fs)) ∙ room in
    let others = all-apart (paths_of fs) (paths_of fs) new.path (paths_of (put_file new fs)) more old.0 old.1 h.named place in
    let below : list_any (is_above new.path) (paths_of fs) ≡ false = sym (any-paths (is_above new.path) fs) ∙ parts.1 in
    let alone : list_any (is_above new.path) (paths_of (put_file new fs)) ≡ false = more new.path ∙ (λ i. above_longer new.path new.path (omega arith) i || below i) in
    record {
      differ = put_differ new fs (none_same new.path fs none) h.differ;
      apart =
          all-put (apart_from (paths_of (put_file new fs))) new fs
          ∙ both (apart_from (paths_of (put_file new fs)) new.path) (list_all (apart_from (paths_of (put_file new fs))) (paths_of fs))
          (λ i. not (parts.0 i || alone i))
          (all_joined (λ q. is_same q root) (λ q. list_any (is_above q) (paths_of (put_file new fs))) (paths_of fs) old.0 others);
      named = all-put is_host_path new fs ∙ both (is_host_path new.path) (list_all is_host_path (paths_of fs)) name h.named;
    }

-- where a look shows nothing
pub missing-is : (fs : List File) (p : List ℕ) → look_at fs p ≡ Look.Missing → (file_at fs p ≡ None) × (is_folder fs p ≡ false)
missing-is fs p h = cases (file_at fs p) (is_folder fs p) refl refl
  where
    cases : (o : Option File) (b : Bool) → file_at fs p ≡ o → is_folder fs p ≡ b → (file_at fs p ≡ None) × (is_folder fs p ≡ false)
    cases (Some f) b e k = cc
    cases None true e k = cc
    cases None false e k = (e, k)
