-- A file that becomes its path's present one.
use Rattle.std.proofs.Common.{◌≡◌, ℕ, ◌==◌, List, [], ◌∷◌, Bool, true, false, cond, Option, Some, None, option_map, is_some, refl, sym, ap, ◌∙◌}
use Rattle.std.specs.Ordering.{is_lt}
use Rattle.portal_base.specs.Names.{is_same}
use Rattle.portal_base.specs.PathOrder.{path_order}
use Rattle.portal_base.specs.Content.{file_at, file_named, is_named}
use Rattle.portal_base.specs.declared.files.File.{File}
use Rattle.portal_base.specs.declared.files.FileName.{FileName}
use Rattle.portal_base.proofs.PathsAbove.{both}
use Rattle.host_tree.specs.Stored.{file_of, stored_of}
use Rattle.file_generations.specs.Generations.{held_with, in_place, turned_to}
use Rattle.host_tree.specs.Beside.{are_apart}
use Rattle.host_tree.specs.Trees.{change_first, put_file, without_first}
use Rattle.host_tree.specs.declared.files.Stored.{Stored}
use Rattle.host_tree.proofs.BesideFiles.{first-is-all, first-is-without}
use Rattle.host_tree.proofs.Entries.{same-is, same-itself}

-- ---- a file in the place of that of a path

-- where no file has the path, all stay
replaced-none : (p : List ℕ) (f : File) (fs : List File) → file_at fs p ≡ None → in_place p f fs ≡ fs
replaced-none p f [] e = refl
replaced-none p f (g ∷ gs) e = step (is_same g.path p) e (λ k. replaced-none p f gs k)
  where
    step : (b : Bool) → cond b (Some g) (file_at gs p) ≡ None → (file_at gs p ≡ None → in_place p f gs ≡ gs) → cond b f g ∷ in_place p f gs ≡ g ∷ gs
    step true k more = absurd (cc)
    step false k more = ap (λ (hs : List File). g ∷ hs) (more k)

-- another in its place is there in its stead
replaced-again : (p : List ℕ) (f g : File) (fs : List File) → is_same g.path p ≡ true → in_place p f (in_place p g fs) ≡ in_place p f fs
replaced-again p f g [] e = refl
replaced-again p f g (h ∷ hs) e = λ i. step (is_same h.path p) refl i ∷ replaced-again p f g hs e i
  where
    step : (b : Bool) → is_same h.path p ≡ b → cond (is_same (cond b g h).path p) f (cond b g h) ≡ cond b f h
    step true k = ap (λ (c : Bool). cond c f g) e
    step false k = ap (λ (c : Bool). cond c f h) k

-- there is one as before
pub has-replaced : (p : List ℕ) (g : File) (fs : List File) → is_same g.path p ≡ true → is_some (file_at (in_place p g fs) p) ≡ is_some (file_at fs p)
has-replaced p g [] e = refl
has-replaced p g (h ∷ hs) e = step (is_same h.path p) refl (has-replaced p g hs e)
  where
    step : (b : Bool) → is_same h.path p ≡ b → is_some (file_at (in_place p g hs) p) ≡ is_some (file_at hs p)
        → is_some (cond (is_same (cond b g h).path p) (Some (cond b g h)) (file_at (in_place p g hs) p)) ≡ is_some (cond b (Some h) (file_at hs p))
    step true k more = ap (λ (c : Bool). is_some (cond c (Some g) (file_at (in_place p g hs) p))) e
    step false k more = ap (λ (c : Bool). is_some (cond c (Some h) (file_at (in_place p g hs) p))) k ∙ more

-- a new file that another takes the place of
pub replaced-put : (p : List ℕ) (f g : File) (fs : List File) → f.path ≡ p → g.path ≡ p → file_at fs p ≡ None → in_place p f (put_file g fs) ≡ put_file f fs
replaced-put p f g [] a b e = ap (λ (c : Bool). cond c f g ∷ []) (ap (λ (q : List ℕ). is_same q p) b ∙ same-itself p)
replaced-put p f g (h ∷ hs) a b e = step (is_lt (path_order g.path h.path)) refl (is_same h.path p) e (λ m. replaced-put p f g hs a b m)
  where
    same : is_same g.path p ≡ true
    same = ap (λ (q : List ℕ). is_same q p) b ∙ same-itself p

    place : is_lt (path_order g.path h.path) ≡ is_lt (path_order f.path h.path)
    place = ap (λ (q : List ℕ). is_lt (path_order q h.path)) (b ∙ sym a)

    step : (c : Bool) → is_lt (path_order g.path h.path) ≡ c → (d : Bool) → cond d (Some h) (file_at hs p) ≡ None
        → (file_at hs p ≡ None → in_place p f (put_file g hs) ≡ put_file f hs)
        → in_place p f (cond c (g ∷ h ∷ hs) (h ∷ put_file g hs)) ≡ cond (is_lt (path_order f.path h.path)) (f ∷ h ∷ hs) (h ∷ put_file f hs)
    step c k true m more = absurd (cc)
    step true k false m more =
        (λ i. cond (same i) f g ∷ replaced-none p f (h ∷ hs) e i)
        ∙ ap (λ (x : Bool). cond x (f ∷ h ∷ hs) (h ∷ put_file f hs)) (sym (sym place ∙ k))
    step false k false m more =
        (λ i. first i ∷ more m i)
        ∙ ap (λ (x : Bool). cond x (f ∷ h ∷ hs) (h ∷ put_file f hs)) (sym (sym place ∙ k))
      where
        other : (d : Bool) → is_same h.path p ≡ d → cond d (Some h) (file_at hs p) ≡ None → d ≡ false
        other true n o = absurd (cc)
        other false n o = refl

        first : cond (is_same h.path p) f h ≡ h
        first = ap (λ (x : Bool). cond x f h) (other (is_same h.path p) refl e)

-- a file that was put is there
pub has-put-file : (f : File) (fs : List File) → is_some (file_at (put_file f fs) f.path) ≡ true
has-put-file f [] = ap (λ (b : Bool). is_some (cond b (Some f) None)) (same-itself f.path)
has-put-file f (g ∷ gs) = step (is_lt (path_order f.path g.path)) (has-put-file f gs)
  where
    here : (b : Bool) (o : Option File) → is_some o ≡ true → is_some (cond b (Some g) o) ≡ true
    here true o e = refl
    here false o e = e

    step : (b : Bool) → is_some (file_at (put_file f gs) f.path) ≡ true → is_some (file_at (cond b (f ∷ g ∷ gs) (g ∷ put_file f gs)) f.path) ≡ true
    step true more = ap (λ (c : Bool). is_some (cond c (Some f) (file_at (g ∷ gs) f.path))) (same-itself f.path)
    step false more = here (is_same g.path f.path) (file_at (put_file f gs) f.path) more

-- ---- which file it is

found-path : (p : List ℕ) (fs : List File) (f : File) → file_at fs p ≡ Some f → f.path ≡ p
found-path p [] f e = absurd (cc)
found-path p (g ∷ gs) f e = step (is_same g.path p) refl e (λ m. found-path p gs f m)
  where
    step : (b : Bool) → is_same g.path p ≡ b → cond b (Some g) (file_at gs p) ≡ Some f → (file_at gs p ≡ Some f → f.path ≡ p) → f.path ≡ p
    step true k m more = let same : g ≡ f = cc in ap (λ (x : File). x.path) (sym same) ∙ same-is g.path p k
    step false k m more = more m

named-path : (name : FileName) (fs : List File) (f : File) → file_named fs name ≡ Some f → f.path ≡ name.path
named-path name [] f e = absurd (cc)
named-path name (g ∷ gs) f e = step (is_named name g) refl e (λ m. named-path name gs f m)
  where
    step : (b : Bool) → is_named name g ≡ b → cond b (Some g) (file_named gs name) ≡ Some f → (file_named gs name ≡ Some f → f.path ≡ name.path) → f.path ≡ name.path
    step true k m more =
        let same : g ≡ f = cc in
        ap (λ (x : File). x.path) (sym same) ∙ same-is g.path name.path (both (is_same g.path name.path) (g.generation == name.generation) k).0
    step false k m more = more m

-- it is known by its path and by what is stored of it
known-as : (p : List ℕ) (s : Stored) (o : Option File) → ((f : File) → o ≡ Some f → f.path ≡ p) → Some s ≡ option_map stored_of o → o ≡ Some (file_of (p, s))
known-as p s None at e = absurd (cc)
known-as p s (Some f) at e =
    let stored : stored_of f ≡ s = cc in
    let path : f.path ≡ p = at f refl in
    λ i. Some (file_of (path i, stored i))

-- ---- the turn

-- in the place of the former present file
pub turned-over : (name : FileName) (present hidden first last after : List File) (former stored : Stored) → are_apart hidden ≡ true → Some former ≡ option_map stored_of (file_at present name.path) → Some stored ≡ option_map stored_of (file_named hidden name) → (blank : Stored)
    → first ≡ in_place name.path (file_of (name.path, blank)) present → after ≡ change_first name (λ g. file_of (name.path, former)) hidden → last ≡ in_place name.path (file_of (name.path, stored)) first
    → held_with last after ≡ turned_to name (file_named hidden name) (file_at present name.path) (held_with present hidden)
turned-over name present hidden first last after former stored apart f s blank one two three =
    let there : file_at present name.path ≡ Some (file_of (name.path, former)) = known-as name.path former (file_at present name.path) (found-path name.path present) f in
    let found : file_named hidden name ≡ Some (file_of (name.path, stored)) = known-as name.path stored (file_named hidden name) (named-path name hidden) s in
    let whole : last ≡ in_place name.path (file_of (name.path, stored)) present =
    three ∙ (ap (in_place name.path (file_of (name.path, stored))) one ∙ replaced-again name.path (file_of (name.path, stored)) (file_of (name.path, blank)) present (same-itself name.path)) in
    (λ i. held_with (whole i) ((two ∙ first-is-all name (λ g. file_of (name.path, former)) hidden apart) i)) ∙ (λ i. turned_to name (sym found i) (sym there i) (held_with present hidden))

-- where the path has none
pub turned-new : (name : FileName) (present hidden first last after : List File) (new : File) (stored : Stored) → are_apart hidden ≡ true → file_at present name.path ≡ None → Some stored ≡ option_map stored_of (file_named hidden name) → new.path ≡ name.path
    → first ≡ put_file new present → after ≡ without_first name hidden → last ≡ in_place name.path (file_of (name.path, stored)) first
    → held_with last after ≡ turned_to name (file_named hidden name) (file_at present name.path) (held_with present hidden)
turned-new name present hidden first last after new stored apart none s at one two three =
    let found : file_named hidden name ≡ Some (file_of (name.path, stored)) = known-as name.path stored (file_named hidden name) (named-path name hidden) s in
    let whole : last ≡ put_file (file_of (name.path, stored)) present =
    three ∙ (ap (in_place name.path (file_of (name.path, stored))) one ∙ replaced-put name.path (file_of (name.path, stored)) new present refl at none) in
    (λ i. held_with (whole i) ((two ∙ first-is-without name hidden apart) i)) ∙ (λ i. turned_to name (sym found i) (sym none i) (held_with present hidden))
