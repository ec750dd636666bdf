-- Generations that are taken: a path has one last generation, and none that a file has is higher.
use Rattle.std.proofs.Common.{◌≡◌, ◌≤◌, ℕ, ◌+◌, nat_le, List, [], ◌∷◌, map, Bool, true, false, cond, Some, None, refl, sym, ap, ◌∙◌, arith}
use Rattle.std.specs.List.{find, list_all, IsDistinct, AllByRecursion}
use Rattle.std.proofs.lemmas.Bool.Decides.{nat_tests}
use Rattle.portal_base.specs.Names.{is_same}
use Rattle.portal_base.specs.declared.files.FileName.{FileName}
use Rattle.portal_model.specs.declared.handle.Handle.{Handle}
use Rattle.portal_model.specs.declared.handle.OpenHandle.{OpenHandle}
use Rattle.portal_model.specs.declared.opening.TakenGeneration.{TakenGeneration}
use Rattle.portal_model.specs.declared.state.Connection.{Connection}
use Rattle.portal_model.specs.Node.{taken_after}
use Rattle.portal_model.specs.NodeVerdict.{FileChange, FilesStay, Writes, Resizes, Creates, Adds, Stands}
use Rattle.portal_model.specs.SeatNames.{is_of, last_of, last_taken, next_generation, taken_as, with_taken}
use Rattle.portal_model.specs.SoundGenerations.{has_taken_handle, has_taken_temps, is_taken, is_taken_by, is_taken_temp}
use Rattle.portal_model.proofs.DistinctItems.{list_all-weaken}
use Rattle.portal_model.proofs.ListLookups.{is_same-eq, is_same-refl}

-- ---- the last one of a path

-- of another path it stays, of the path itself it is the new one
pub last-other : (path : List ℕ) (last : ℕ) (q : List ℕ) → is_same path q ≡ false → (ts : List TakenGeneration) → last_taken (with_taken path last ts) q ≡ last_taken ts q
last-other path last q off [] = ap (λ (b : Bool). last_of (cond b (Some (taken_as path last)) None)) off
last-other path last q off (t ∷ ts) = step (is_of path t) refl (last-other path last q off ts)
  where
    step : (b : Bool) → is_of path t ≡ b → last_taken (with_taken path last ts) q ≡ last_taken ts q → last_taken (cond b (taken_as t.path last ∷ ts) (t ∷ with_taken path last ts)) q ≡ last_taken (t ∷ ts) q
    step true e rest =
        let none : is_same t.path q ≡ false = ap (λ (p : List ℕ). is_same p q) (is_same-eq t.path path e) ∙ off in
        ap (λ (b : Bool). last_of (cond b (Some (taken_as t.path last)) (find (is_of q) ts))) none
        ∙ sym (ap (λ (b : Bool). last_of (cond b (Some t) (find (is_of q) ts))) none)
    step false e rest = elim (is_of q t) as (λ b. last_of (cond b (Some t) (find (is_of q) (with_taken path last ts))) ≡ last_of (cond b (Some t) (find (is_of q) ts))) [
      | true ↦ refl
      | false ↦ rest
    ]

pub last-own : (path : List ℕ) (last : ℕ) (ts : List TakenGeneration) → last_taken (with_taken path last ts) path ≡ last
last-own path last [] = ap (λ (b : Bool). last_of (cond b (Some (taken_as path last)) None)) (is_same-refl path)
last-own path last (t ∷ ts) = step (is_of path t) refl (last-own path last ts)
  where
    step : (b : Bool) → is_of path t ≡ b → last_taken (with_taken path last ts) path ≡ last → last_taken (cond b (taken_as t.path last ∷ ts) (t ∷ with_taken path last ts)) path ≡ last
    step true e rest = ap (λ (b : Bool). last_of (cond b (Some (taken_as t.path last)) (find (is_of path) ts))) e
    step false e rest = ap (λ (b : Bool). last_of (cond b (Some t) (find (is_of path) (with_taken path last ts)))) e ∙ rest

-- ---- paths have one each

others_taken : (path : List ℕ) (last : ℕ) (q : List ℕ) → is_same q path ≡ false → (ts : List TakenGeneration) → AllByRecursion (λ p. is_same q p ≡ false) (map (λ (t : TakenGeneration). t.path) ts)
    → AllByRecursion (λ p. is_same q p ≡ false) (map (λ (t : TakenGeneration). t.path) (with_taken path last ts))
others_taken path last q off [] h = (off, tt)
others_taken path last q off (t ∷ ts) h = elim (is_of path t) as (λ b. AllByRecursion (λ p. is_same q p ≡ false) (map (λ (u : TakenGeneration). u.path) (cond b (taken_as t.path last ∷ ts) (t ∷ with_taken path last ts)))) [
  | true ↦ h
  | false ↦ (h.0, others_taken path last q off ts h.1)
]

pub taken-differ : (path : List ℕ) (last : ℕ) (ts : List TakenGeneration) → IsDistinct is_same (map (λ (t : TakenGeneration). t.path) ts) → IsDistinct is_same (map (λ (t : TakenGeneration). t.path) (with_taken path last ts))
unfolding IsDistinct
taken-differ path last [] d = (tt, tt)
taken-differ path last (t ∷ ts) d = (elim (is_of path t) as (λ b. is_same t.path path ≡ b → IsDistinct is_same (map (λ (u : TakenGeneration). u.path) (cond b (taken_as t.path last ∷ ts) (t ∷ with_taken path last ts)))) [
  | true ↦ λ e. d
  | false ↦ λ e. (others_taken path last t.path e ts d.0, taken-differ path last ts d.1)
]) refl

-- ---- what was taken stays taken

no_more : (a b c : ℕ) → b ≤ c → nat_le a b ≡ true → nat_le a c ≡ true
no_more a b c l h = grind (arith, nat_tests)

its_own : (a : ℕ) → nat_le a a ≡ true
its_own a = grind (arith, nat_tests)

-- the next generation of a path is no lower than its last one
last_raised : (path : List ℕ) (last : ℕ) (ts : List TakenGeneration) → last_taken ts path ≤ last → (name : FileName) → nat_le name.generation (last_taken ts name.path) ≡ true → nat_le name.generation (last_taken (with_taken path last ts) name.path) ≡ true
last_raised path last ts more name h = step (is_same path name.path) refl
  where
    step : (b : Bool) → is_same path name.path ≡ b → nat_le name.generation (last_taken (with_taken path last ts) name.path) ≡ true
    step true e =
        let same : path ≡ name.path = is_same-eq path name.path e in
        let own : last_taken (with_taken path last ts) name.path ≡ last = ap (last_taken (with_taken path last ts)) (sym same) ∙ last-own path last ts in
        let before : nat_le name.generation (last_taken ts path) ≡ true = ap (λ (q : List ℕ). nat_le name.generation (last_taken ts q)) same ∙ h in
        ap (nat_le name.generation) own ∙ no_more name.generation (last_taken ts path) last more before
    step false e = ap (nat_le name.generation) (last-other path last name.path e ts) ∙ h

still_taken : (told : Bool) (path : List ℕ) (last : ℕ) (ts : List TakenGeneration) → last_taken ts path ≤ last → (name : FileName) → is_taken told ts name ≡ true → is_taken told (with_taken path last ts) name ≡ true
still_taken false path last ts more name h = refl
still_taken true path last ts more name h = last_raised path last ts more name h

new_taken : (told : Bool) (path : List ℕ) (last : ℕ) (ts : List TakenGeneration) → is_taken told (with_taken path last ts) (record { path = path; generation = last }) ≡ true
new_taken false path last ts = refl
new_taken true path last ts = ap (nat_le last) (last-own path last ts) ∙ its_own last

-- ---- as the files change

-- a file that is made beside the present ones is the next of its path
abbrev pub IsNext : List TakenGeneration → FileChange → Type 0
IsNext taken FilesStay = Unit {0}
IsNext taken (Writes name offset content now) = Unit {0}
IsNext taken (Resizes name size now) = Unit {0}
IsNext taken (Creates path now) = Unit {0}
IsNext taken (Adds name now) = name.generation ≡ next_generation taken name.path
IsNext taken (Stands name) = Unit {0}

no_less : (last g : ℕ) → g ≡ last + 1 → last ≤ g
no_less last g e = omega arith

pub after-taken : (told : Bool) (taken : List TakenGeneration) (change : FileChange) → IsNext taken change → (name : FileName) → is_taken told taken name ≡ true → is_taken told (taken_after change taken) name ≡ true
after-taken told taken FilesStay n name h = h
after-taken told taken (Writes of offset content now) n name h = h
after-taken told taken (Resizes of size now) n name h = h
after-taken told taken (Creates path now) n name h = h
after-taken told taken (Adds new now) n name h = still_taken told new.path new.generation taken (no_less (last_taken taken new.path) new.generation n) name h
after-taken told taken (Stands of) n name h = h

-- a file of that generation then
pub added-taken : (told : Bool) (taken : List TakenGeneration) (name : FileName) (now : ℕ) → is_taken told (taken_after (Adds name now) taken) name ≡ true
added-taken told taken name now = new_taken told name.path name.generation taken

pub after-differ : (taken : List TakenGeneration) (change : FileChange) → IsDistinct is_same (map (λ (t : TakenGeneration). t.path) taken) → IsDistinct is_same (map (λ (t : TakenGeneration). t.path) (taken_after change taken))
after-differ taken FilesStay d = d
after-differ taken (Writes of offset content now) d = d
after-differ taken (Resizes of size now) d = d
after-differ taken (Creates path now) d = d
after-differ taken (Adds name now) d = taken-differ name.path name.generation taken d
after-differ taken (Stands of) d = d

module _ (told : Bool) (taken : List TakenGeneration) (change : FileChange) (next : IsNext taken change) where
  handle_taken : (handle : Handle) → is_taken_by told taken handle ≡ true → is_taken_by told (taken_after change taken) handle ≡ true
  handle_taken (Handle.File name node document strict read write) h = after-taken told taken change next name h
  handle_taken (Handle.Folder node names) h = refl

  pub handles-taken : (hs : List OpenHandle) → list_all (has_taken_handle told taken) hs ≡ true → list_all (has_taken_handle told (taken_after change taken)) hs ≡ true
  handles-taken = list_all-weaken (has_taken_handle told taken) (has_taken_handle told (taken_after change taken)) (λ h. handle_taken h.handle)

  pub temps-taken : (cs : List Connection) → list_all (has_taken_temps told taken) cs ≡ true → list_all (has_taken_temps told (taken_after change taken)) cs ≡ true
  temps-taken = list_all-weaken (has_taken_temps told taken) (has_taken_temps told (taken_after change taken))
      (λ c. list_all-weaken (is_taken_temp told taken) (is_taken_temp told (taken_after change taken)) (λ t. after-taken told taken change next t.temp.file) c.temps)
