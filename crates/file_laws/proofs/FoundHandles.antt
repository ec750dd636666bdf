-- The open handle of a number in lists that are made longer or shorter.
use Rattle.std.proofs.Common.{◌≡◌, ℕ, ◌+◌, ◌==◌, nat_le, nat_lt, List, [], ◌∷◌, ◌++◌, Bool, true, false, not, ◌&&◌, cond, Option, Some, None, is_some, refl, sym, ap, subst, ◌∙◌, arith}
use Rattle.std.specs.List.{filter, find, list_all}
use Rattle.std.specs.Option.{option_map}
use Rattle.std.proofs.lemmas.Bool.Decides.{nat_tests}
use Rattle.portal_model.specs.declared.handle.Handle.{Handle}
use Rattle.portal_model.specs.declared.handle.OpenHandle.{OpenHandle}
use Rattle.portal_model.specs.declared.state.Connection.{Connection}
use Rattle.portal_model.specs.Leave.{handles_of_others}
use Rattle.portal_model.specs.Node.{new_handle}
use Rattle.portal_model.specs.State.{connection_of, handle_of, is_handle, is_mount}
use Rattle.portal_model.specs.Step.{mount_of}
use Rattle.portal_model.specs.Valid.{has_host_path, is_sound_handle, opened_here, viewed_here}
use Rattle.portal_model.proofs.ListLookups.{find-filter, found_in_all, found_passes, nat_is}

and-first : (a b : Bool) → (a && b) ≡ true → a ≡ true
and-first true b h = refl
and-first false b h = cc

abbrev handle_in : Option OpenHandle → Option Handle
handle_in o = option_map (λ (h : OpenHandle). h.handle) o

-- ---- one handle more

-- what is found is found still
pub found-joined : (hs more : List OpenHandle) (seat fh : ℕ) (handle : Handle) → handle_of hs seat fh ≡ Some handle → handle_of (hs ++ more) seat fh ≡ Some handle
found-joined [] more seat fh handle e = cc
found-joined (x ∷ hs) more seat fh handle e = by_first (is_handle seat fh x) e (found-joined hs more seat fh handle)
  where
    by_first : (b : Bool) → handle_in (cond b (Some x) (find (is_handle seat fh) hs)) ≡ Some handle → (handle_of hs seat fh ≡ Some handle → handle_of (hs ++ more) seat fh ≡ Some handle) →
        handle_in (cond b (Some x) (find (is_handle seat fh) (hs ++ more))) ≡ Some handle
    by_first true f go = f
    by_first false f go = go f

-- and where none was found the last is
pub found-last : (hs : List OpenHandle) (last : OpenHandle) (seat fh : ℕ) → is_handle seat fh last ≡ true → handle_of hs seat fh ≡ None → handle_of (hs ++ last ∷ []) seat fh ≡ Some last.handle
found-last [] last seat fh h e = ap (λ (b : Bool). handle_in (cond b (Some last) None)) h
found-last (x ∷ hs) last seat fh h e = by_first (is_handle seat fh x) e (found-last hs last seat fh h)
  where
    by_first : (b : Bool) → handle_in (cond b (Some x) (find (is_handle seat fh) hs)) ≡ None → (handle_of hs seat fh ≡ None → handle_of (hs ++ last ∷ []) seat fh ≡ Some last.handle) →
        handle_in (cond b (Some x) (find (is_handle seat fh) (hs ++ last ∷ []))) ≡ Some last.handle
    by_first true f go = cc
    by_first false f go = go f

-- the next number of a connection is that of none of its open handles
module _ (c : Connection) (cs : List Connection) (here : connection_of cs c.seat ≡ Some c) where
  one_apart : (x : OpenHandle) (b : Bool) → (x.seat == c.seat) ≡ b → opened_here x.fh (connection_of cs x.seat) ≡ true → (b && x.fh == c.opens + 1) ≡ false
  one_apart x true e h =
      let there : opened_here x.fh (Some c) ≡ true = subst (λ (o : Option Connection). opened_here x.fh o ≡ true) (ap (connection_of cs) (nat_is x.seat c.seat e) ∙ here) h in
      let number : (is_mount c.kind && (nat_lt 0 x.fh && nat_le x.fh c.opens)) ≡ true = there in
      grind (arith, nat_tests)
  one_apart x false e h = refl

  pub next-free : (hs : List OpenHandle) → list_all (is_sound_handle cs) hs ≡ true → handle_of hs c.seat (c.opens + 1) ≡ None
  next-free [] h = refl
  next-free (x ∷ hs) h =
      let apart : is_handle c.seat (c.opens + 1) x ≡ false = one_apart x (x.seat == c.seat) refl (grind (arith, h)) in
      ap (λ (b : Bool). handle_in (cond b (Some x) (find (is_handle c.seat (c.opens + 1)) hs))) apart ∙ next-free hs (grind (arith, h))

pub is-new : (c : Connection) (handle : Handle) → is_handle c.seat (c.opens + 1) (new_handle c handle) ≡ true
is-new c handle = grind (arith, nat_tests)

-- ---- a handle that is found

open-mount : (fh : ℕ) (o : Option Connection) → opened_here fh o ≡ true → is_some (mount_of o) ≡ true
open-mount fh None h = cc
open-mount fh (Some c) h =
    let mount : is_mount c.kind ≡ true = and-first (is_mount c.kind) (nat_lt 0 fh && nat_le fh c.opens) h in
    ap (λ (b : Bool). is_some (cond b (Some c) None)) mount

-- it is one of an open mount
pub found-mount : (hs : List OpenHandle) (cs : List Connection) (seat fh : ℕ) (handle : Handle) → list_all (is_sound_handle cs) hs ≡ true → handle_of hs seat fh ≡ Some handle → is_some (mount_of (connection_of cs seat)) ≡ true
found-mount hs cs seat fh handle sound e = by_found (find (is_handle seat fh) hs) refl e
  where
    by_found : (o : Option OpenHandle) → find (is_handle seat fh) hs ≡ o → handle_in o ≡ Some handle → is_some (mount_of (connection_of cs seat)) ≡ true
    by_found None f h = cc
    by_found (Some x) f h =
        let same : x.seat ≡ seat = nat_is x.seat seat (and-first (x.seat == seat) (x.fh == fh) (found_passes (is_handle seat fh) hs x f)) in
        let here : opened_here x.fh (connection_of cs x.seat) ≡ true = and-first (opened_here x.fh (connection_of cs x.seat)) (has_host_path x.handle && viewed_here x.handle (connection_of cs x.seat)) (found_in_all (is_handle seat fh) (is_sound_handle cs) hs x f sound) in
        open-mount x.fh (connection_of cs seat) (ap (λ (n : ℕ). opened_here x.fh (connection_of cs n)) (sym same) ∙ here)

-- ---- fewer handles

pub found-closed : (hs : List OpenHandle) (seat fh n number : ℕ) → (n == seat && number == fh) ≡ false → handle_of (filter (λ h. not (is_handle n number h)) hs) seat fh ≡ handle_of hs seat fh
found-closed hs seat fh n number e = ap handle_in (find-filter (is_handle seat fh) (λ h. not (is_handle n number h)) true other hs)
  where
    other : (x : OpenHandle) → is_handle seat fh x ≡ true → not (is_handle n number x) ≡ true
    other x h = grind (arith, nat_tests)

pub found-left : (hs : List OpenHandle) (seat fh n : ℕ) → (n == seat) ≡ false → handle_of (handles_of_others n hs) seat fh ≡ handle_of hs seat fh
found-left hs seat fh n e = ap handle_in (find-filter (is_handle seat fh) (λ h. not (h.seat == n)) true other hs)
  where
    other : (x : OpenHandle) → is_handle seat fh x ≡ true → not (x.seat == n) ≡ true
    other x h = grind (arith, nat_tests)
