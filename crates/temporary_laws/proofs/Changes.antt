-- What changes of handles, connections and files leave of temporaries that stand apart.
use Rattle.std.proofs.Common.{◌≡◌, ℕ, ◌+◌, ◌==◌, List, [], ◌∷◌, ◌++◌, map, Bool, true, false, not, ◌&&◌, ◌||◌, cond, Option, Some, None, ◌⊎◌, inl, inr, ⊎_elim, refl, sym, ap, subst, ◌∙◌}
use Rattle.std.specs.List.{filter, list_all}
use Rattle.std.proofs.lemmas.List.Folds.{list_all-append}
use Rattle.file_generations.specs.Generations.{Held, in_place, name_of_file, turned, turned_to}
use Rattle.portal_base.specs.Content.{file_at, file_named, is_named}
use Rattle.portal_base.specs.FileChanges.{change_named, new_file, put_file, resized, written}
use Rattle.portal_base.specs.Names.{is_same}
use Rattle.portal_base.specs.declared.files.File.{File}
use Rattle.portal_base.specs.declared.files.FileName.{FileName}
use Rattle.portal_model.specs.declared.handle.Handle.{Handle}
use Rattle.portal_model.specs.declared.handle.OpenHandle.{OpenHandle}
use Rattle.portal_model.specs.declared.state.Connection.{Connection}
use Rattle.portal_model.specs.declared.temporary.OwnTemp.{OwnTemp}
use Rattle.portal_model.specs.declared.temporary.Temp.{Temp}
use Rattle.portal_model.specs.Node.{files_after, handles_after, new_handle, temps_changed, with_temps}
use Rattle.portal_model.specs.NodeVerdict.{FileChange, FilesStay, Writes, Resizes, Creates, Adds, Stands, HandleChange, HandlesStay, Opens, Closes}
use Rattle.portal_model.specs.SeatNames.{Begins, Drops, Renames, TempChange, is_replaced, own_temp, renamed, with_name}
use Rattle.portal_model.specs.State.{is_handle}
use Rattle.portal_model.proofs.FilesValid.{written-generation, written-path}
use Rattle.portal_model.proofs.ListLookups.{nat_is}
use Rattle.app_world.specs.View.{is_held_name, names_of_handle, same_name}
use Rattle.app_world.proofs.HeldFiles.{find-put_file, found-name, name-turned}
use Rattle.app_world.proofs.NamedFiles.{held-joined, name-eq}
use Rattle.app_world.proofs.NamedPaths.{HandleOn}
use Rattle.temporary_laws.proofs.Apart.{Alone, Apart, Differ, EachDiffer, EachName, EachTemp, both, each-temp, each-there, file_of, first-both, has_temp, is-none, is_there, its-seat, names_in, neither-first, neither-second, none-is, none-of, not-true, opens, or-first, or-second, others_closed, others_without, second-both, seat-itself, temps-both}

-- ---- handles

all-filtered : {X : Type 0} (p q : X → Bool) (xs : List X) → list_all p xs ≡ true → list_all p (filter q xs) ≡ true
all-filtered p q [] h = refl
all-filtered p q (x ∷ xs) h = step (q x) (all-filtered p q xs (second-both (p x) (list_all p xs) h))
  where
    step : (b : Bool) → list_all p (filter q xs) ≡ true → list_all p (cond b (x ∷ filter q xs) (filter q xs)) ≡ true
    step true k = both (p x) (list_all p (filter q xs)) (first-both (p x) (list_all p xs) h) k
    step false k = k

-- fewer handles
pub handles-fewer : (files : List File) (cs : List Connection) (hs : List OpenHandle) (q : OpenHandle → Bool) → Apart files hs cs → Apart files (filter q hs) cs
handles-fewer files cs hs q a = record {
  alone = each-temp (Alone files hs cs) (Alone files (filter q hs) cs) (λ seat n x. record {
    later = x.later;
    hidden = x.hidden;
    closed = all-filtered (λ h. h.seat == seat || not (opens n h)) q hs x.closed;
    only = x.only;
  }) cs a.alone;
  differ = a.differ;
}

-- one more, of a file that is no temporary of another seat
module _ (files : List File) (cs : List Connection) (hs : List OpenHandle) (h : OpenHandle) where
  -- what it opens no other seat has made
  abbrev pub MayOpen : Type 0
  MayOpen = HandleOn (λ n. others_without h.seat n cs ≡ true) (Some h.handle)

  opened-own : MayOpen → (seat : ℕ) (n : FileName) → is_there seat n cs ≡ true → (h.seat == seat || not (opens n h)) ≡ true
  opened-own may seat n there = step (opens n h) refl
    where
      opened : (x : Handle) → HandleOn (λ m. others_without h.seat m cs ≡ true) (Some x) → is_held_name (names_of_handle x) n ≡ true → others_without h.seat n cs ≡ true
      opened (Handle.File name node document strict read write) k e = by_name (same_name name n) refl e
        where
          by_name : (b : Bool) → same_name name n ≡ b → (b || false) ≡ true → others_without h.seat n cs ≡ true
          by_name true f g = ap (λ (m : FileName). others_without h.seat m cs) (sym (name-eq name n f)) ∙ k
          by_name false f g = cc
      opened (Handle.Folder node entries) k e = let no : false ≡ true = e in cc

      turned-seat : (a b : ℕ) → (a == b) ≡ true → (b == a) ≡ true
      turned-seat a b e = ap (λ (m : ℕ). m == a) (sym (nat_is a b e)) ∙ seat-itself a

      step : (b : Bool) → opens n h ≡ b → (h.seat == seat || not b) ≡ true
      step true e = or-first (h.seat == seat) false (turned-seat seat h.seat (its-seat cs h.seat seat n (opened h.handle may e) there))
      step false e = or-second (h.seat == seat) true refl

  pub handles-more : MayOpen → Apart files hs cs → Apart files (hs ++ h ∷ []) cs
  handles-more may a = record {
    alone = temps-both (Alone files hs cs) (λ seat n. is_there seat n cs ≡ true) (Alone files (hs ++ h ∷ []) cs) (λ seat n x there. record {
      later = x.later;
      hidden = x.hidden;
      closed =
          list_all-append (λ k. k.seat == seat || not (opens n k)) hs (h ∷ [])
          ∙ both (others_closed seat n hs) ((h.seat == seat || not (opens n h)) && true) x.closed (both (h.seat == seat || not (opens n h)) true (opened-own may seat n there) refl);
      only = x.only;
    }) cs a.alone (each-there cs);
    differ = a.differ;
  }

-- the change of a request of this connection
abbrev pub OpensApart : List Connection → Connection → HandleChange → Type 0
OpensApart cs c HandlesStay = Unit {0}
OpensApart cs c (Opens handle) = HandleOn (λ n. others_without c.seat n cs ≡ true) (Some handle)
OpensApart cs c (Closes fh) = Unit {0}

pub handles-apart : (files : List File) (cs : List Connection) (hs : List OpenHandle) (c : Connection) (change : HandleChange) → OpensApart cs c change → Apart files hs cs → Apart files (handles_after c change hs) cs
handles-apart files cs hs c HandlesStay may a = a
handles-apart files cs hs c (Opens handle) may a = handles-more files cs hs (new_handle c handle) may a
handles-apart files cs hs c (Closes fh) may a = handles-fewer files cs hs (λ h. not (is_handle c.seat fh h)) a

-- ---- connections that keep their temporaries

pub record KeepsTemps (f : Connection → Connection) : Type 0 where
  pub seat : (c : Connection) → (f c).seat ≡ c.seat
  pub temps : (c : Connection) → (f c).temps ≡ c.temps

module _ (f : Connection → Connection) (k : KeepsTemps f) where
  mapped-each : (P : ℕ → FileName → Type 0) (cs : List Connection) → EachTemp P cs → EachTemp P (map f cs)
  mapped-each P [] h = tt
  mapped-each P (c ∷ cs) h = (subst (λ (n : ℕ). EachName (P n) (names_in (f c).temps)) (sym (k.seat c)) (subst (λ (ts : List OwnTemp). EachName (P c.seat) (names_in ts)) (sym (k.temps c)) h.0), mapped-each P cs h.1)

  mapped-differ : (cs : List Connection) → EachDiffer cs → EachDiffer (map f cs)
  mapped-differ [] h = tt
  mapped-differ (c ∷ cs) h = (subst (λ (ts : List OwnTemp). Differ (names_in ts)) (sym (k.temps c)) h.0, mapped-differ cs h.1)

  pub mapped-without : (seat : ℕ) (n : FileName) (cs : List Connection) → others_without seat n (map f cs) ≡ others_without seat n cs
  mapped-without seat n [] = refl
  mapped-without seat n (c ∷ cs) = λ i. (k.seat c i == seat || not (is_held_name (names_in (k.temps c i)) n)) && mapped-without seat n cs i

  pub mapped-apart : (files : List File) (hs : List OpenHandle) (cs : List Connection) → Apart files hs cs → Apart files hs (map f cs)
  mapped-apart files hs cs a = record {
    alone = mapped-each (Alone files hs (map f cs)) cs (each-temp (Alone files hs cs) (Alone files hs (map f cs)) (λ seat n x. record {
      later = x.later;
      hidden = x.hidden;
      closed = x.closed;
      only = mapped-without seat n cs ∙ x.only;
    }) cs a.alone);
    differ = mapped-differ cs a.differ;
  }

-- ---- connections that come and go

filtered-each : (P : ℕ → FileName → Type 0) (q : Connection → Bool) (cs : List Connection) → EachTemp P cs → EachTemp P (filter q cs)
filtered-each P q [] h = tt
filtered-each P q (c ∷ cs) h = step (q c) (filtered-each P q cs h.1)
  where
    step : (b : Bool) → EachTemp P (filter q cs) → EachTemp P (cond b (c ∷ filter q cs) (filter q cs))
    step true k = (h.0, k)
    step false k = k

filtered-differ : (q : Connection → Bool) (cs : List Connection) → EachDiffer cs → EachDiffer (filter q cs)
filtered-differ q [] h = tt
filtered-differ q (c ∷ cs) h = step (q c) (filtered-differ q cs h.1)
  where
    step : (b : Bool) → EachDiffer (filter q cs) → EachDiffer (cond b (c ∷ filter q cs) (filter q cs))
    step true k = (h.0, k)
    step false k = k

pub filtered-apart : (files : List File) (hs : List OpenHandle) (cs : List Connection) (q : Connection → Bool) → Apart files hs cs → Apart files hs (filter q cs)
filtered-apart files hs cs q a = record {
  alone = filtered-each (Alone files hs (filter q cs)) q cs (each-temp (Alone files hs cs) (Alone files hs (filter q cs)) (λ seat n x. record {
    later = x.later;
    hidden = x.hidden;
    closed = x.closed;
    only = all-filtered (λ d. d.seat == seat || not (has_temp n d)) q cs x.only;
  }) cs a.alone);
  differ = filtered-differ q cs a.differ;
}

-- one with no temporary
module _ (new : Connection) (none : new.temps ≡ []) where
  joined-each : (P : ℕ → FileName → Type 0) (cs : List Connection) → EachTemp P cs → EachTemp P (cs ++ new ∷ [])
  joined-each P [] h = (subst (λ (ts : List OwnTemp). EachName (P new.seat) (names_in ts)) (sym none) tt, tt)
  joined-each P (c ∷ cs) h = (h.0, joined-each P cs h.1)

  joined-differ : (cs : List Connection) → EachDiffer cs → EachDiffer (cs ++ new ∷ [])
  joined-differ [] h = (subst (λ (ts : List OwnTemp). Differ (names_in ts)) (sym none) tt, tt)
  joined-differ (c ∷ cs) h = (h.0, joined-differ cs h.1)

  pub joined-apart : (files : List File) (hs : List OpenHandle) (cs : List Connection) → Apart files hs cs → Apart files hs (cs ++ new ∷ [])
  joined-apart files hs cs a = record {
    alone = joined-each (Alone files hs (cs ++ new ∷ [])) cs (each-temp (Alone files hs cs) (Alone files hs (cs ++ new ∷ [])) (λ seat n x. record {
      later = x.later;
      hidden = x.hidden;
      closed = x.closed;
      only =
          list_all-append (λ d. d.seat == seat || not (has_temp n d)) cs (new ∷ [])
          ∙ both (others_without seat n cs) ((new.seat == seat || not (has_temp n new)) && true) x.only
          (both (new.seat == seat || not (has_temp n new)) true (or-second (new.seat == seat) (not (has_temp n new)) (ap (λ (ts : List OwnTemp). not (is_held_name (names_in ts) n)) none)) refl);
    }) cs a.alone);
    differ = joined-differ cs a.differ;
  }

-- ---- temporaries that change

-- a change of temporaries that leaves some of them, by the same names
pub record Leaves (g : List OwnTemp → List OwnTemp) : Type 1 where
  pub each : (P : FileName → Type 0) (ts : List OwnTemp) → EachName P (names_in ts) → EachName P (names_in (g ts))
  pub differ : (ts : List OwnTemp) → Differ (names_in ts) → Differ (names_in (g ts))

fewer-each : (p : OwnTemp → Bool) (P : FileName → Type 0) (ts : List OwnTemp) → EachName P (names_in ts) → EachName P (names_in (filter p ts))
fewer-each p P [] h = tt
fewer-each p P (t ∷ ts) h = step (p t) (fewer-each p P ts h.1)
  where
    step : (b : Bool) → EachName P (names_in (filter p ts)) → EachName P (names_in (cond b (t ∷ filter p ts) (filter p ts)))
    step true k = (h.0, k)
    step false k = k

fewer-differ : (p : OwnTemp → Bool) (ts : List OwnTemp) → Differ (names_in ts) → Differ (names_in (filter p ts))
fewer-differ p [] h = tt
fewer-differ p (t ∷ ts) h = step (p t) (fewer-differ p ts h.1)
  where
    none : is_held_name (names_in (filter p ts)) (file_of t) ≡ false
    none = is-none (file_of t) (names_in (filter p ts)) (fewer-each p (λ n. same_name n (file_of t) ≡ false) ts (none-is (file_of t) (names_in ts) h.0))

    step : (b : Bool) → Differ (names_in (filter p ts)) → Differ (names_in (cond b (t ∷ filter p ts) (filter p ts)))
    step true k = (none, k)
    step false k = k

leaves-fewer : (p : OwnTemp → Bool) → Leaves (filter p)
leaves-fewer p = record { each = fewer-each p; differ = fewer-differ p }

-- a temporary of another name in its folder is the same file
renamed-file : (k : ℕ) (name : List ℕ) (t : OwnTemp) → file_of (renamed k name t) ≡ file_of t
renamed-file k name t = elim (t.k == k) as (λ b. file_of (cond b (record t { temp = record t.temp { name = name } }) t) ≡ file_of t) [ true ↦ refl | false ↦ refl ]

renamed-names : (k : ℕ) (name : List ℕ) (ts : List OwnTemp) → names_in (map (renamed k name) ts) ≡ names_in ts
renamed-names k name [] = refl
renamed-names k name (t ∷ ts) = λ i. renamed-file k name t i ∷ renamed-names k name ts i

leaves-renamed : (k : ℕ) (temp : Temp) (name : List ℕ) → Leaves (λ ts. with_name ts k temp name)
leaves-renamed k temp name = record {
  each = λ P ts h. subst (EachName P) (sym (renamed-names k name (filter (λ t. not (is_replaced k temp name t)) ts))) (fewer-each (λ t. not (is_replaced k temp name t)) P ts h);
  differ = λ ts h. subst Differ (sym (renamed-names k name (filter (λ t. not (is_replaced k temp name t)) ts))) (fewer-differ (λ t. not (is_replaced k temp name t)) ts h);
}

-- on the connection of a seat
module _ (k : ℕ) (g : Connection → Connection) (seats : (c : Connection) → (g c).seat ≡ c.seat) (h : List OwnTemp → List OwnTemp) (leaves : Leaves h) (is : (c : Connection) → ((g c).temps ≡ c.temps) ⊎ ((g c).temps ≡ h c.temps)) where
  left-names : (P : FileName → Type 0) (c : Connection) → EachName P (names_in c.temps) → EachName P (names_in (g c).temps)
  left-names P c e = ⊎_elim
      (λ s. subst (λ (ts : List OwnTemp). EachName P (names_in ts)) (sym s) e)
      (λ s. subst (λ (ts : List OwnTemp). EachName P (names_in ts)) (sym s) (leaves.each P c.temps e))
      (is c)

  left-apart-names : (c : Connection) → Differ (names_in c.temps) → Differ (names_in (g c).temps)
  left-apart-names c e = ⊎_elim
      (λ s. subst (λ (ts : List OwnTemp). Differ (names_in ts)) (sym s) e)
      (λ s. subst (λ (ts : List OwnTemp). Differ (names_in ts)) (sym s) (leaves.differ c.temps e))
      (is c)

  left-each : (P : ℕ → FileName → Type 0) (cs : List Connection) → EachTemp P cs → EachTemp P (map g cs)
  left-each P [] e = tt
  left-each P (c ∷ cs) e = (subst (λ (n : ℕ). EachName (P n) (names_in (g c).temps)) (sym (seats c)) (left-names (P c.seat) c e.0), left-each P cs e.1)

  left-differ : (cs : List Connection) → EachDiffer cs → EachDiffer (map g cs)
  left-differ [] e = tt
  left-differ (c ∷ cs) e = (left-apart-names c e.0, left-differ cs e.1)

  left-without : (seat : ℕ) (n : FileName) (cs : List Connection) → others_without seat n cs ≡ true → others_without seat n (map g cs) ≡ true
  left-without seat n [] e = refl
  left-without seat n (c ∷ cs) e =
      both ((g c).seat == seat || not (has_temp n (g c))) (others_without seat n (map g cs))
      (ap (λ (m : ℕ). m == seat || not (has_temp n (g c))) (seats c) ∙ step (c.seat == seat) (has_temp n c) refl (first-both (c.seat == seat || not (has_temp n c)) (others_without seat n cs) e))
      (left-without seat n cs (second-both (c.seat == seat || not (has_temp n c)) (others_without seat n cs) e))
    where
      step : (a b : Bool) → has_temp n c ≡ b → (a || not b) ≡ true → (a || not (has_temp n (g c))) ≡ true
      step true b f x = refl
      step false true f x = cc
      step false false f x = not-true (has_temp n (g c)) (is-none n (names_in (g c).temps) (left-names (λ m. same_name m n ≡ false) c (none-is n (names_in c.temps) f)))

  pub left-apart : (files : List File) (hs : List OpenHandle) (cs : List Connection) → Apart files hs cs → Apart files hs (map g cs)
  left-apart files hs cs a = record {
    alone = left-each (Alone files hs (map g cs)) cs (each-temp (Alone files hs cs) (Alone files hs (map g cs)) (λ seat n x. record {
      later = x.later;
      hidden = x.hidden;
      closed = x.closed;
      only = left-without seat n cs x.only;
    }) cs a.alone);
    differ = left-differ cs a.differ;
  }

changed-seat : (k : ℕ) (change : TempChange) (c : Connection) → (temps_changed k change c).seat ≡ c.seat
changed-seat k change c = elim (c.seat == k) as (λ b. (cond b (with_temps change c) c).seat ≡ c.seat) [ true ↦ refl | false ↦ refl ]

changed-temps : (k : ℕ) (change : TempChange) (h : List OwnTemp → List OwnTemp) → ((c : Connection) → (with_temps change c).temps ≡ h c.temps) → (c : Connection) → ((temps_changed k change c).temps ≡ c.temps) ⊎ ((temps_changed k change c).temps ≡ h c.temps)
changed-temps k change h e c = elim (c.seat == k) as (λ b. ((cond b (with_temps change c) c).temps ≡ c.temps) ⊎ ((cond b (with_temps change c) c).temps ≡ h c.temps)) [ true ↦ inr (e c) | false ↦ inl refl ]

pub dropped-apart : (files : List File) (hs : List OpenHandle) (cs : List Connection) (k number : ℕ) → Apart files hs cs → Apart files hs (map (temps_changed k (Drops number)) cs)
dropped-apart files hs cs k number a =
    left-apart k (temps_changed k (Drops number)) (changed-seat k (Drops number)) (filter (λ (t : OwnTemp). not (t.k == number))) (leaves-fewer (λ (t : OwnTemp). not (t.k == number))) (changed-temps k (Drops number) (filter (λ (t : OwnTemp). not (t.k == number))) (λ c. refl)) files hs cs a

pub renamed-apart : (files : List File) (hs : List OpenHandle) (cs : List Connection) (k number : ℕ) (temp : Temp) (name : List ℕ) → Apart files hs cs → Apart files hs (map (temps_changed k (Renames number temp name)) cs)
renamed-apart files hs cs k number temp name a =
    left-apart k (temps_changed k (Renames number temp name)) (changed-seat k (Renames number temp name)) (λ ts. with_name ts number temp name) (leaves-renamed number temp name)
    (changed-temps k (Renames number temp name) (λ ts. with_name ts number temp name) (λ c. refl)) files hs cs a

-- ---- a temporary more

-- a name that nothing has
pub record Fresh (files : List File) (hs : List OpenHandle) (cs : List Connection) (n : FileName) : Type 0 where
  pub later : (n.generation == 0) ≡ false
  pub hidden : file_named files n ≡ None
  pub closed : list_all (λ h. not (opens n h)) hs ≡ true
  pub none : list_all (λ d. not (has_temp n d)) cs ≡ true

module _ (files : List File) (hs : List OpenHandle) (k : ℕ) (temp : Temp) where
  new : FileName
  new = temp.file

  abbrev g : Connection → Connection
  g = temps_changed k (Begins temp)

  names-begun : (c : Connection) (n : FileName) → is_held_name (names_in (with_temps (Begins temp) c).temps) n ≡ (has_temp n c || (same_name temp.file n || false))
  names-begun c n = ap (λ (ns : List FileName). is_held_name ns n) (mapped-joined c.temps (own_temp (c.added + 1) temp)) ∙ held-joined (names_in c.temps) (temp.file ∷ []) n
    where
      mapped-joined : (ts : List OwnTemp) (t : OwnTemp) → names_in (ts ++ t ∷ []) ≡ names_in ts ++ file_of t ∷ []
      mapped-joined [] t = refl
      mapped-joined (x ∷ xs) t = ap (λ (ns : List FileName). file_of x ∷ ns) (mapped-joined xs t)

  drop-false : (a b : Bool) → b ≡ false → (a || (b || false)) ≡ a
  drop-false true b e = refl
  drop-false false true e = cc
  drop-false false false e = refl

  -- of another name nothing changes
  other-without : (seat : ℕ) (n : FileName) → same_name temp.file n ≡ false → (cs : List Connection) → others_without seat n cs ≡ true → others_without seat n (map g cs) ≡ true
  other-without seat n e [] h = refl
  other-without seat n e (c ∷ cs) h =
      both ((g c).seat == seat || not (has_temp n (g c))) (others_without seat n (map g cs)) (step (c.seat == k) (first-both (c.seat == seat || not (has_temp n c)) (others_without seat n cs) h))
      (other-without seat n e cs (second-both (c.seat == seat || not (has_temp n c)) (others_without seat n cs) h))
    where
      step : (b : Bool) → (c.seat == seat || not (has_temp n c)) ≡ true → ((cond b (with_temps (Begins temp) c) c).seat == seat || not (has_temp n (cond b (with_temps (Begins temp) c) c))) ≡ true
      step true x = ap (λ (y : Bool). c.seat == seat || not y) (names-begun c n ∙ drop-false (has_temp n c) (same_name temp.file n) e) ∙ x
      step false x = x

  -- no other connection has the new one
  new-without : (cs : List Connection) → list_all (λ d. not (has_temp temp.file d)) cs ≡ true → others_without k temp.file (map g cs) ≡ true
  new-without [] h = refl
  new-without (c ∷ cs) h =
      both ((g c).seat == k || not (has_temp temp.file (g c))) (others_without k temp.file (map g cs)) (step (c.seat == k) refl)
      (new-without cs (second-both (not (has_temp temp.file c)) (list_all (λ d. not (has_temp temp.file d)) cs) h))
    where
      step : (b : Bool) → (c.seat == k) ≡ b → ((cond b (with_temps (Begins temp) c) c).seat == k || not (has_temp temp.file (cond b (with_temps (Begins temp) c) c))) ≡ true
      step true e = or-first (c.seat == k) (not (has_temp temp.file (with_temps (Begins temp) c))) e
      step false e = or-second (c.seat == k) (not (has_temp temp.file c)) (first-both (not (has_temp temp.file c)) (list_all (λ d. not (has_temp temp.file d)) cs) h)

  module _ (P : ℕ → FileName → Type 0) (own : P k temp.file) where
    names-more : (c : Connection) → EachName (P c.seat) (names_in c.temps) → (c.seat == k) ≡ true → (ts : List OwnTemp) → EachName (P c.seat) (names_in ts) → EachName (P c.seat) (names_in (ts ++ own_temp (c.added + 1) temp ∷ []))
    names-more c h e [] x = (subst (λ (n : ℕ). P n temp.file) (sym (nat_is c.seat k e)) own, tt)
    names-more c h e (t ∷ ts) x = (x.0, names-more c h e ts x.1)

    begun-each : (cs : List Connection) → EachTemp P cs → EachTemp P (map g cs)
    begun-each [] h = tt
    begun-each (c ∷ cs) h = (step (c.seat == k) refl, begun-each cs h.1)
      where
        step : (b : Bool) → (c.seat == k) ≡ b → EachName (P (cond b (with_temps (Begins temp) c) c).seat) (names_in (cond b (with_temps (Begins temp) c) c).temps)
        step true e = names-more c h.0 e c.temps h.0
        step false e = h.0

  differ-more : (ts : List OwnTemp) (t : OwnTemp) → EachName (λ n. same_name n (file_of t) ≡ false) (names_in ts) → Differ (names_in ts) → Differ (names_in (ts ++ t ∷ []))
  differ-more [] t e h = (refl, tt)
  differ-more (x ∷ xs) t e h = (joined xs (is-held xs h.0), differ-more xs t e.1 h.1)
    where
      is-held : (ys : List OwnTemp) → is_held_name (names_in ys) (file_of x) ≡ false → is_held_name (names_in ys) (file_of x) ≡ false
      is-held ys f = f

      last : same_name (file_of t) (file_of x) ≡ false
      last = name-turned (file_of t) (file_of x) ∙ e.0

      joined : (ys : List OwnTemp) → is_held_name (names_in ys) (file_of x) ≡ false → is_held_name (names_in (ys ++ t ∷ [])) (file_of x) ≡ false
      joined [] f = λ i. last i || false
      joined (y ∷ ys) f = λ i. neither-first (same_name (file_of y) (file_of x)) (is_held_name (names_in ys) (file_of x)) f i || joined ys (neither-second (same_name (file_of y) (file_of x)) (is_held_name (names_in ys) (file_of x)) f) i

  begun-differ : (cs : List Connection) → EachTemp (λ seat n. same_name n temp.file ≡ false) cs → EachDiffer cs → EachDiffer (map g cs)
  begun-differ [] e h = tt
  begun-differ (c ∷ cs) e h = (step (c.seat == k), begun-differ cs e.1 h.1)
    where
      step : (b : Bool) → Differ (names_in (cond b (with_temps (Begins temp) c) c).temps)
      step true = differ-more c.temps (own_temp (c.added + 1) temp) e.0 h.0
      step false = h.0

  closed-own : list_all (λ h. not (opens temp.file h)) hs ≡ true → others_closed k temp.file hs ≡ true
  closed-own h = go hs h
    where
      go : (xs : List OpenHandle) → list_all (λ y. not (opens temp.file y)) xs ≡ true → others_closed k temp.file xs ≡ true
      go [] e = refl
      go (x ∷ xs) e =
          both (x.seat == k || not (opens temp.file x)) (others_closed k temp.file xs) (or-second (x.seat == k) (not (opens temp.file x)) (first-both (not (opens temp.file x)) (list_all (λ y. not (opens temp.file y)) xs) e))
          (go xs (second-both (not (opens temp.file x)) (list_all (λ y. not (opens temp.file y)) xs) e))

  -- the handles may be more by then: only that of the seat itself opens the new one
  pub begun-apart : (cs : List Connection) → (temp.file.generation == 0) ≡ false → file_named files temp.file ≡ None → others_closed k temp.file hs ≡ true → list_all (λ d. not (has_temp temp.file d)) cs ≡ true →
      Apart files hs cs → Apart files hs (map g cs)
  begun-apart cs later hidden closed none a =
      let apart : EachTemp (λ seat n. same_name n temp.file ≡ false) cs = none-of temp.file cs none in
      record {
        alone = begun-each (Alone files hs (map g cs)) (record { later = later; hidden = hidden; closed = closed; only = new-without cs none }) cs
            (temps-both (Alone files hs cs) (λ seat n. same_name n temp.file ≡ false) (Alone files hs (map g cs)) (λ seat n x e. record {
              later = x.later;
              hidden = x.hidden;
              closed = x.closed;
              only = other-without seat n (name-turned temp.file n ∙ e) cs x.only;
            }) cs a.alone apart);
        differ = begun-differ cs apart a.differ;
      }

-- ---- files

module _ (files more : List File) (hs : List OpenHandle) (cs : List Connection) where
  -- the files that aren't temporaries
  pub files-apart : (P : ℕ → FileName → Type 0) → EachTemp P cs → ((seat : ℕ) (n : FileName) → (n.generation == 0) ≡ false → P seat n → file_named files n ≡ None → file_named more n ≡ None) → Apart files hs cs → Apart more hs cs
  files-apart P h f a = record {
    alone = temps-both (Alone files hs cs) P (Alone more hs cs) (λ seat n x p. record {
      later = x.later;
      hidden = f seat n x.later p x.hidden;
      closed = x.closed;
      only = x.only;
    }) cs a.alone h;
    differ = a.differ;
  }

any-temp : (cs : List Connection) → EachTemp (λ seat n. Unit {0}) cs
any-temp [] = tt
any-temp (c ∷ cs) = (any (names_in c.temps), any-temp cs)
  where
    any : (ns : List FileName) → EachName (λ n. Unit {0}) ns
    any [] = tt
    any (n ∷ ns) = (tt, any ns)

-- a file that keeps its name
kept-named : (change : File → File) → ((f : File) → name_of_file (change f) ≡ name_of_file f) → (n : FileName) (fs : List File) → file_named fs n ≡ None → file_named (map change fs) n ≡ None
kept-named change k n [] e = refl
kept-named change k n (f ∷ fs) e = ap (λ (m : FileName). cond (same_name m n) (Some (change f)) (file_named (map change fs) n)) (k f) ∙ step (same_name (name_of_file f) n) e (kept-named change k n fs)
  where
    step : (b : Bool) → cond b (Some f) (file_named fs n) ≡ None → (file_named fs n ≡ None → file_named (map change fs) n ≡ None) → cond b (Some (change f)) (file_named (map change fs) n) ≡ None
    step true h more = cc
    step false h more = more h

changed-named : (name : FileName) (change : File → File) → ((f : File) → (change f).path ≡ f.path) → ((f : File) → (change f).generation ≡ f.generation) → (n : FileName) (fs : List File) → file_named fs n ≡ None → file_named (change_named name change fs) n ≡ None
changed-named name change p g n fs e = kept-named (λ f. cond (is_named name f) (change f) f) one n fs e
  where
    one : (f : File) → name_of_file (cond (is_named name f) (change f) f) ≡ name_of_file f
    one f = elim (is_named name f) as (λ b. name_of_file (cond b (change f) f) ≡ name_of_file f) [ true ↦ λ i. record { path = p f i; generation = g f i } | false ↦ refl ]

-- a first file has no name of a temporary
made-named : (path : List ℕ) (now : ℕ) (n : FileName) → (n.generation == 0) ≡ false → (fs : List File) → file_named fs n ≡ None → file_named (put_file (new_file path now) fs) n ≡ None
made-named path now n later fs e =
    find-put_file (is_named n) (new_file path now) fs (λ h. e) ∙ (ap (λ (b : Bool). cond b (Some (new_file path now)) (file_named fs n)) (other (is_same path n.path)) ∙ e)
  where
    turned-zero : (b : Bool) → (0 == n.generation) ≡ b → b ≡ false
    turned-zero true h = let no : true ≡ false = sym (seat-itself 0) ∙ (ap (λ (m : ℕ). m == 0) (nat_is 0 n.generation h) ∙ later) in cc
    turned-zero false h = refl

    other : (a : Bool) → (a && (0 == n.generation)) ≡ false
    other true = turned-zero (0 == n.generation) refl
    other false = refl

-- where another file comes to stand at its path
module _ (held : Held) (name n : FileName) (apart : same_name name n ≡ false) where
  not-it : (f : File) → file_named held.hidden name ≡ Some f → is_named n f ≡ false
  not-it f e = ap (λ (m : FileName). same_name m n) (found-name held.hidden name f e) ∙ apart

  placed-named : (f : File) → is_named n f ≡ false → (fs : List File) → file_named fs n ≡ None → file_named (in_place name.path f fs) n ≡ None
  placed-named f h [] e = refl
  placed-named f h (x ∷ fs) e = step (is_same x.path name.path) (is_named n x) refl e (placed-named f h fs)
    where
      step : (b c : Bool) → is_named n x ≡ c → cond c (Some x) (file_named fs n) ≡ None → (file_named fs n ≡ None → file_named (in_place name.path f fs) n ≡ None) → cond (is_named n (cond b f x)) (Some (cond b f x)) (file_named (in_place name.path f fs) n) ≡ None
      step b true g k more = cc
      step true false g k more = ap (λ (d : Bool). cond d (Some f) (file_named (in_place name.path f fs) n)) h ∙ more k
      step false false g k more = ap (λ (d : Bool). cond d (Some x) (file_named (in_place name.path f fs) n)) g ∙ more k

  turned-named : file_named held.present n ≡ None → file_named (turned name held).present n ≡ None
  turned-named e = step (file_named held.hidden name) refl (file_at held.present name.path)
    where
      step : (o : Option File) → file_named held.hidden name ≡ o → (former : Option File) → file_named (turned_to name o former held).present n ≡ None
      step None k former = e
      step (Some f) k None = find-put_file (is_named n) f held.present (λ h. e) ∙ (ap (λ (b : Bool). cond b (Some f) (file_named held.present n)) (not-it f k) ∙ e)
      step (Some f) k (Some former) = placed-named f (not-it f k) held.present e

-- the file that comes to stand at its path is no temporary then
abbrev pub StandsApart : List Connection → FileChange → Type 0
StandsApart cs FilesStay = Unit {0}
StandsApart cs (Writes name offset content now) = Unit {0}
StandsApart cs (Resizes name size now) = Unit {0}
StandsApart cs (Creates path now) = Unit {0}
StandsApart cs (Adds name now) = Unit {0}
StandsApart cs (Stands name) = EachTemp (λ seat n. same_name name n ≡ false) cs

pub change-apart : (held : Held) (hs : List OpenHandle) (cs : List Connection) (told : Bool) (change : FileChange) → StandsApart cs change → Apart held.present hs cs → Apart (files_after told change held).present hs cs
change-apart held hs cs told FilesStay h a = a
change-apart held hs cs false (Writes name offset content now) h a = a
change-apart held hs cs false (Resizes name size now) h a = a
change-apart held hs cs false (Creates path now) h a = a
change-apart held hs cs false (Adds name now) h a = a
change-apart held hs cs false (Stands name) h a = a
change-apart held hs cs true (Writes name offset content now) h a =
    files-apart held.present (change_named name (written offset content now) held.present) hs cs (λ seat n. Unit {0}) (any-temp cs)
    (λ seat n l p e. changed-named name (written offset content now) (written-path offset content now) (written-generation offset content now) n held.present e) a
change-apart held hs cs true (Resizes name size now) h a =
    files-apart held.present (change_named name (resized size now) held.present) hs cs (λ seat n. Unit {0}) (any-temp cs)
    (λ seat n l p e. changed-named name (resized size now) (λ f. refl) (λ f. refl) n held.present e) a
change-apart held hs cs true (Creates path now) h a =
    files-apart held.present (put_file (new_file path now) held.present) hs cs (λ seat n. Unit {0}) (any-temp cs) (λ seat n l p e. made-named path now n l held.present e) a
change-apart held hs cs true (Adds name now) h a = a
change-apart held hs cs true (Stands name) h a =
    files-apart held.present (turned name held).present hs cs (λ seat n. same_name name n ≡ false) h (λ seat n l p e. turned-named held name n p e) a
