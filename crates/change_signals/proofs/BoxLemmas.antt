-- What becomes of the boxes, one after another.
use Rattle.std.proofs.Common.{◌≡◌, ℕ, zero, suc, ◌+◌, ◌-◌, ◌<◌, ◌≤◌, nat_eq, Bool, true, false, List, [], ◌∷◌, ◌++◌, length, map, take, slice_get, cond, option_map, Option, Some, None, IfSome, Result, Ok, Err, OnErr, refl, sym, ap, subst, ◌∙◌, arith}
use Rattle.std.specs.Prelude.{◌≢◌, ◌↔◌, IsTrue, not, unwrap_or}
use Rattle.std.specs.Map.{lookup, values_of}
use Rattle.std.proofs.lemmas.List.{length-append}
use Rattle.std.proofs.Math.Seq.{take-append_seam}
use Rattle.std.proofs.lemmas.Map.Made.{lookup-map_values}
use Rattle.indexmap.specs.IndexMap.{set_value_at}
use Rattle.portal_model.specs.declared.reply.Change.{Change}
use Rattle.change_signals.specs.Unsent.{Boxes, unsent_on, entered, told, untold, with_last, without_last, on_box, first_become, AtSeat, AtEach, IsSame, IsWaiting}

-- ---- one box

without-with : (change : Change) (signals : List Change) → without_last (with_last change signals) ≡ signals
without-with change signals =
    let l : length (signals ++ change ∷ []) ≡ length signals + 1 = length-append signals (change ∷ []) in
    let e : length (signals ++ change ∷ []) - 1 ≡ length signals = omega arith in
    ap (λ (n : ℕ). take n (signals ++ change ∷ [])) e ∙ take-append_seam signals (change ∷ [])

untold-told : (change : Change) (box : Option (List Change)) → untold (told change box) ≡ box
untold-told change None = refl
untold-told change (Some signals) = ap Some (without-with change signals)

pub back-from : (old new : Boxes) → AtEach untold old new → (before : Boxes) (change : Change) → AtEach (told change) before old → IsSame before new
back-from old new u before change t s = u s ∙ (ap untold (t s) ∙ untold-told change (unsent_on before s))

-- ---- one box after another

pub set-same : (boxes : Boxes) (i : ℕ) (signals : List Change) → slice_get (values_of boxes) i ≡ Some signals → set_value_at boxes i signals ≡ boxes
set-same [] i signals e = refl
set-same (b ∷ boxes) zero signals e = ap (λ (o : Option (List Change)). cons o) (sym e)
  where
    cons : Option (List Change) → Boxes
    cons None = []
    cons (Some x) = (b.0, x) ∷ boxes
set-same (b ∷ boxes) (suc i) signals e = ap (λ (bs : Boxes). b ∷ bs) (set-same boxes i signals e)

module _ (becomes : List Change → List Change) where
  pub length-first : (boxes : Boxes) (i : ℕ) → length (first_become becomes i boxes) ≡ length boxes
  length-first boxes zero = refl
  length-first [] (suc i) = refl
  length-first (b ∷ boxes) (suc i) = ap suc (length-first boxes i)

  -- the box at the next place is as before, and becomes so
  record Next (boxes : Boxes) (i : ℕ) : Type 0 where
    signals : List Change
    there : slice_get (values_of (first_become becomes i boxes)) i ≡ Some signals
    then : set_value_at (first_become becomes i boxes) i (becomes signals) ≡ first_become becomes (suc i) boxes

  next : (boxes : Boxes) (i : ℕ) → i < length boxes → Next boxes i
  next [] i l = absurd (omega arith)
  next (b ∷ boxes) zero l = record { signals = b.1; there = refl; then = refl }
  next (b ∷ boxes) (suc i) l =
      let n : Next boxes i = next boxes i (omega arith) in
      record { signals = n.signals; there = n.there; then = ap (λ (bs : Boxes). on_box becomes b ∷ bs) n.then }

  pub one-more : (boxes cur new : Boxes) (i : ℕ) → i < length boxes → cur ≡ first_become becomes i boxes → IfSome (slice_get (values_of cur) i) (λ signals. new ≡ set_value_at cur i (becomes signals)) → new ≡ first_become becomes (i + 1) boxes
  one-more boxes cur new i l e h =
      let n : Next boxes i = next boxes i l in
      let h' = subst (λ (bs : Boxes). IfSome (slice_get (values_of bs) i) (λ signals. new ≡ set_value_at bs i (becomes signals))) e h in
      subst (λ (o : Option (List Change)). IfSome o (λ signals. new ≡ set_value_at (first_become becomes i boxes) i (becomes signals))) n.there h' ∙ (n.then ∙ ap (λ (m : ℕ). first_become becomes m boxes) more)
    where
      more : suc i ≡ i + 1
      more = omega arith

  pub all-become : (boxes cur : Boxes) (i : ℕ) → length boxes ≤ i → cur ≡ first_become becomes i boxes → (s : ℕ) → unsent_on cur s ≡ option_map becomes (unsent_on boxes s)
  all-become boxes cur i l e s =
      ap (λ (bs : Boxes). unsent_on bs s) (e ∙ (all boxes i l)) ∙ lookup-map_values becomes (λ k. nat_eq s k) boxes
    where
      all : (bs : Boxes) (n : ℕ) → length bs ≤ n → first_become becomes n bs ≡ map (on_box becomes) bs
      all [] zero h = refl
      all [] (suc n) h = refl
      all (b ∷ bs) zero h = absurd (omega arith)
      all (b ∷ bs) (suc n) h = ap (λ (xs : Boxes). on_box becomes b ∷ xs) (all bs n (omega arith))

pub untold-from : (old new shown : Boxes) (count : ℕ) → old ≡ shown → count ≡ length old → new ≡ first_become without_last count old → AtEach untold shown new
untold-from old new shown count same all h =
    subst (λ (bs : Boxes). AtEach untold bs new) same (all-become without_last old new count (omega arith) h)

-- taking the last out of as many first boxes as it was put in
pub taken-back : (change : Change) (boxes cur new : Boxes) (i : ℕ) → cur ≡ first_become (with_last change) i boxes → new ≡ first_become without_last i cur → new ≡ boxes
taken-back change boxes cur new i e h = h ∙ (ap (λ (bs : Boxes). first_become without_last i bs) e ∙ undone boxes i)
  where
    undone : (bs : Boxes) (n : ℕ) → first_become without_last n (first_become (with_last change) n bs) ≡ bs
    undone bs zero = refl
    undone [] (suc n) = refl
    undone (b ∷ bs) (suc n) = (λ j. (b.0, without-with change b.1 j) ∷ undone bs n j)

-- ---- a new connection

pub entered-as : (old new shown : Boxes) (seat : ℕ) (signals : List Change) → signals ≡ [] → old ≡ shown → ((q : ℕ) → lookup (nat_eq q) new ≡ cond (nat_eq seat q) (Some signals) (lookup (nat_eq q) old)) → AtSeat entered shown new seat
entered-as old new shown seat signals none same updates =
    subst (λ (bs : Boxes). AtSeat entered bs new seat) same (subst (λ (xs : List Change). (q : ℕ) → lookup (nat_eq q) new ≡ cond (nat_eq seat q) (Some xs) (lookup (nat_eq q) old)) none updates)

-- ---- whether signals are unsent

pub is-false : (b : Bool) → b ≡ false → IsTrue b → ⊥
is-false true e t = cc
is-false false e t = cc

pub front-nil : (a b : List Change) → a ++ b ≡ [] → a ≡ []
front-nil [] b e = refl
front-nil (c ∷ a) b e = absurd (cc)

not-true : (b : Bool) (P : Type 0) → (IsTrue b ↔ P) → (IsTrue (not b) ↔ (P → ⊥))
not-true true P h = (λ t. absurd (cc), λ n. absurd (n (h.0 refl)))
not-true false P h = (λ t p. let no : false ≡ true = h.1 p in absurd (cc), λ n. refl)

pub some-waiting : (boxes shown : Boxes) (seat : ℕ) (signals : List Change) (b : Bool) → boxes ≡ shown → unsent_on boxes seat ≡ Some signals → (IsTrue b ↔ (signals ≡ [])) → (IsTrue (not b) ↔ IsWaiting shown seat)
some-waiting boxes shown seat signals b same found h =
    subst (λ (xs : List Change). IsTrue (not b) ↔ (xs ≢ [])) (ap (λ (o : Option (List Change)). unwrap_or o []) (sym found ∙ ap (λ (bs : Boxes). unsent_on bs seat) same)) (not-true b (signals ≡ []) h)

pub none-waiting : (boxes shown : Boxes) (seat : ℕ) → boxes ≡ shown → unsent_on boxes seat ≡ None → (IsTrue false ↔ IsWaiting shown seat)
none-waiting boxes shown seat same none =
    (λ t. absurd (cc), λ waits. absurd (waits (ap (λ (o : Option (List Change)). unwrap_or o []) (sym (ap (λ (bs : Boxes). unsent_on bs seat) same) ∙ none))))

-- ---- an error

pub on-err : {A E P Q : Type 0} (r : Result A E) → (P → Q) → OnErr r P → OnErr r Q
on-err (Ok x) f p = p
on-err (Err e) f p = f p
