-- The numbers of applications.
use Rattle.std.proofs.Common.{Option, ◌≡◌, ◌⊎◌, ℕ, ◌+◌, ◌<◌, ◌≤◌, nat_lt, List, [], ◌∷◌, ◌++◌, length, Bool, true, false, cond, Some, None, inl, inr, refl, sym, ap, ◌∙◌, arith, length-append, subst}
use Rattle.std.specs.BTreeMap.{BTreeMap, UpdatesBy, is_at}
use Rattle.std.specs.Global.{Vec}
use Rattle.std.specs.List.{position_or_len, IsDistinct, AllByRecursion}
use Rattle.std.specs.Map.{lookup}
use Rattle.std.specs.Option.{option_map}
use Rattle.std.proofs.lemmas.Bool.Decides.{nat_tests}
use Rattle.portal_base.specs.Names.{is_same}
use Rattle.portal_model.specs.Valid.{is_numbered, applications_limit}
use Rattle.portal_model.specs.Applications.{number_of, numbered}
use Rattle.document_records.specs.Applications.{AreNumbered, IsFoundByName, number_found}
use Rattle.document_records.proofs.FoundByName.{by_items, by_text, found-after}
use Rattle.portal_model.proofs.TripleOrder.{is_same-eq, is_same-refl, is_same-sym}

-- how many names stand ahead of the application's
abbrev pub ahead : List (List ℕ) → List ℕ → ℕ
ahead apps app = position_or_len (λ name. is_same name app) apps

is-there : (b : Bool) (n k : ℕ) → option_map (λ at. at + 1) (cond b (Some n) None) ≡ Some k → b ≡ true
is-there true n k e = refl
is-there false n k e = cc

isnt-there : (b : Bool) (n : ℕ) → option_map (λ at. at + 1) (cond b (Some n) None) ≡ None → b ≡ false
isnt-there true n e = cc
isnt-there false n e = refl

inside-is : (apps : List (List ℕ)) (app : List ℕ) → is_numbered apps app ≡ nat_lt (ahead apps app) (length apps)
inside-is [] app = refl
inside-is (x ∷ xs) app = grind (arith, nat_tests, inside-is xs app, is_same-sym app x)

pub has-number : (apps : List (List ℕ)) (app : List ℕ) (k : ℕ) → number_of apps app ≡ Some k → apps ≡ numbered apps app
has-number apps app k e =
    sym (ap (λ (b : Bool). cond b apps (apps ++ app ∷ [])) (inside-is apps app ∙ is-there (nat_lt (ahead apps app) (length apps)) (ahead apps app) k e))

pub no-number : (apps : List (List ℕ)) (app : List ℕ) → number_of apps app ≡ None → is_numbered apps app ≡ false
no-number apps app e = inside-is apps app ∙ isnt-there (nat_lt (ahead apps app) (length apps)) (ahead apps app) e

pub gets-next : (apps : List (List ℕ)) (app : List ℕ) → number_of apps app ≡ None → apps ++ app ∷ [] ≡ numbered apps app
gets-next apps app e = sym (ap (λ (b : Bool). cond b apps (apps ++ app ∷ [])) (no-number apps app e))

last-place : (apps : List (List ℕ)) (app : List ℕ) → is_numbered apps app ≡ false → ahead (apps ++ app ∷ []) app ≡ length apps
last-place [] app h = grind (arith, is_same-refl app)
last-place (x ∷ xs) app h = grind (arith, nat_tests, last-place xs app, is_same-sym app x)

next-is : (n : ℕ) → option_map (λ at. at + 1) (cond (nat_lt n (n + 1)) (Some n) None) ≡ Some (n + 1)
next-is n = let e : nat_lt n (n + 1) ≡ true = grind (arith, nat_tests) in ap (λ (b : Bool). option_map (λ at. at + 1) (cond b (Some n) None)) e

pub next-number : (apps : List (List ℕ)) (app : List ℕ) → number_of apps app ≡ None → number_of (apps ++ app ∷ []) app ≡ Some (length (apps ++ app ∷ []))
next-number apps app e =
    let at : ahead (apps ++ app ∷ []) app ≡ length apps = last-place apps app (no-number apps app e) in
    let long : length (apps ++ app ∷ []) ≡ length apps + 1 = length-append apps (app ∷ []) in
    (λ i. option_map (λ n. n + 1) (cond (nat_lt (at i) (long i)) (Some (at i)) None))
    ∙ (next-is (length apps) ∙ sym (ap Some long))

pub room-for-next : (apps : List (List ℕ)) (app : List ℕ) → number_of apps app ≡ None → (is_numbered apps app ≡ true) ⊎ (length apps < applications_limit) → length (apps ++ app ∷ []) ≤ applications_limit
room-for-next apps app e (inl h) = let f : is_numbered apps app ≡ false = no-number apps app e in absurd (differ (is_numbered apps app) h f)
  where
    differ : (b : Bool) → b ≡ true → b ≡ false → ⊥
    differ true h k = cc
    differ false h k = cc
room-for-next apps app e (inr h) = let long : length (apps ++ app ∷ []) ≡ length apps + 1 = length-append apps (app ∷ []) in omega arith

-- what was put behind the names
pub added-seen : (new names apps : List (List ℕ)) (name app : List ℕ) → new ≡ names ++ name ∷ [] → names ≡ apps → name ≡ app → new ≡ apps ++ app ∷ []
added-seen new names apps name app e f g = e ∙ (λ i. f i ++ g i ∷ [])

-- ---- the names differ

pub numbered-none : AreNumbered []
unfolding IsDistinct
numbered-none = record { few = omega arith; differ = tt }

others-more : (x y : List ℕ) (xs : List (List ℕ)) → AllByRecursion (λ name. is_same x name ≡ false) xs → is_same x y ≡ false → AllByRecursion (λ name. is_same x name ≡ false) (xs ++ y ∷ [])
others-more x y [] h e = (e, tt)
others-more x y (z ∷ zs) h e = (h.0, others-more x y zs h.1 e)

pub differ-more : (apps : List (List ℕ)) (app : List ℕ) → is_numbered apps app ≡ false → IsDistinct is_same apps → IsDistinct is_same (apps ++ app ∷ [])
unfolding IsDistinct
differ-more [] app e h = (tt, tt)
differ-more (x ∷ xs) app e h =
    let a : is_same x app ≡ false = grind (arith, is_same-sym app x) in
    let b : is_numbered xs app ≡ false = grind arith in
    (others-more x app xs h.0 a, differ-more xs app b h.1)

others-front : (x y : List ℕ) (xs : List (List ℕ)) → AllByRecursion (λ name. is_same x name ≡ false) (xs ++ y ∷ []) → AllByRecursion (λ name. is_same x name ≡ false) xs
others-front x y [] h = tt
others-front x y (z ∷ zs) h = (h.0, others-front x y zs h.1)

differ-front : (xs : List (List ℕ)) (y : List ℕ) → IsDistinct is_same (xs ++ y ∷ []) → IsDistinct is_same xs
unfolding IsDistinct
differ-front [] y h = tt
differ-front (x ∷ xs) y h = (others-front x y xs h.0, differ-front xs y h.1)

fewer : (xs : List (List ℕ)) (y : List ℕ) → length (xs ++ y ∷ []) ≤ applications_limit → length xs ≤ applications_limit
fewer xs y h = let long : length (xs ++ y ∷ []) ≡ length xs + 1 = length-append xs (y ∷ []) in omega arith

-- ---- the numbers that names are found with

still-ahead : (apps : List (List ℕ)) (app other : List ℕ) →
    nat_lt (ahead apps other) (length apps) ≡ true →
    ahead (apps ++ app ∷ []) other ≡ ahead apps other
still-ahead [] app other h = cc
still-ahead (x ∷ xs) app other h = grind (arith, nat_tests, still-ahead xs app other)

not-ahead : (apps : List (List ℕ)) (app other : List ℕ) → is_same app other ≡ false →
    nat_lt (ahead apps other) (length apps) ≡ false →
    ahead (apps ++ app ∷ []) other ≡ length apps + 1
not-ahead [] app other e h = grind (arith, nat_tests)
not-ahead (x ∷ xs) app other e h = grind (arith, nat_tests, not-ahead xs app other)

-- the number of a name, by how many stand ahead of its own
abbrev number-by : ℕ → ℕ → Option ℕ
number-by at many = option_map (λ n. n + 1) (cond (nat_lt at many) (Some at) None)

not-last : (apps : List (List ℕ)) (app other : List ℕ) → is_same app other ≡ false →
    number_of (apps ++ app ∷ []) other ≡ number_of apps other
not-last apps app other e = step (nat_lt (ahead apps other) (length apps)) refl
  where
    long : length (apps ++ app ∷ []) ≡ length apps + 1
    long = length-append apps (app ∷ [])

    inside : (at many : ℕ) → nat_lt at many ≡ true → number-by at (many + 1) ≡ number-by at many
    inside at many h = grind (arith, nat_tests)

    outside : (at many : ℕ) → nat_lt at many ≡ false →
        number-by (many + 1) (many + 1) ≡ number-by at many
    outside at many h = grind (arith, nat_tests)

    step : (b : Bool) → nat_lt (ahead apps other) (length apps) ≡ b →
        number_of (apps ++ app ∷ []) other ≡ number_of apps other
    step true h = (λ i. number-by (still-ahead apps app other h i) (long i))
        ∙ inside (ahead apps other) (length apps) h
    step false h = (λ i. number-by (not-ahead apps app other e h i) (long i))
        ∙ outside (ahead apps other) (length apps) h

unnumbered : (apps : List (List ℕ)) (app : List ℕ) → is_numbered apps app ≡ false →
    number_of apps app ≡ None
unnumbered apps app h = ap
    (λ (b : Bool). option_map (λ at. at + 1) (cond b (Some (ahead apps app)) None))
    (sym (inside-is apps app) ∙ h)

differ-last : (xs : List (List ℕ)) (y : List ℕ) → IsDistinct is_same (xs ++ y ∷ []) →
    is_numbered xs y ≡ false
unfolding IsDistinct
differ-last [] y h = refl
differ-last (x ∷ xs) y h =
    let apart : is_same x y ≡ false = behind x xs h.0 in
    let rest : is_numbered xs y ≡ false = differ-last xs y h.1 in
    grind (arith, is_same-sym x y)
  where
    behind : (x : List ℕ) (xs : List (List ℕ)) →
        AllByRecursion (λ name. is_same x name ≡ false) (xs ++ y ∷ []) → is_same x y ≡ false
    behind x [] h = h.0
    behind x (z ∷ zs) h = behind x zs h.1

pub found-none : (numbers : BTreeMap (Vec ℕ) ℕ) → numbers.entries ≡ [] → IsFoundByName [] numbers
found-none numbers e = record {
  numbered = numbered-none;
  found = λ app. ap (λ (es : List (Vec ℕ × ℕ)). lookup (is_at (by_text app)) es) e;
}

pub found-more : (apps : List (List ℕ)) (app : List ℕ) (key : Vec ℕ)
    (numbers more : BTreeMap (Vec ℕ) ℕ) → IsFoundByName apps numbers → number_of apps app ≡ None →
    (is_numbered apps app ≡ true) ⊎ (length apps < applications_limit) →
    key.items ≡ app → UpdatesBy by_items (by_items key) numbers more
    (Some (length (apps ++ app ∷ []))) → IsFoundByName (apps ++ app ∷ []) more
found-more apps app key numbers more old none room is u = record {
  numbered = record {
    few = room-for-next apps app none room;
    differ = differ-more apps app (no-number apps app none) old.numbered.differ;
  };
  found = λ other. found-after app numbers more (Some (length (apps ++ app ∷ []))) (rw is at u)
      other ∙ step other (is_same app other) refl;
}
  where
    step : (other : List ℕ) (b : Bool) → is_same app other ≡ b →
        cond (is_same app other) (Some (length (apps ++ app ∷ []))) (number_found numbers other)
        ≡ number_of (apps ++ app ∷ []) other
    step other true e = ap (λ (b : Bool). cond b (Some (length (apps ++ app ∷ [])))
        (number_found numbers other)) e
        ∙ (sym (next-number apps app none)
        ∙ ap (number_of (apps ++ app ∷ [])) (is_same-eq app other e))
    step other false e = ap (λ (b : Bool). cond b (Some (length (apps ++ app ∷ [])))
        (number_found numbers other)) e
        ∙ (old.found other ∙ sym (not-last apps app other e))

pub found-fewer : (apps left : List (List ℕ)) (last : List ℕ)
    (numbers less : BTreeMap (Vec ℕ) ℕ) → IsFoundByName apps numbers → apps ≡ left ++ last ∷ [] →
    UpdatesBy by_items (by_text last) numbers less None → IsFoundByName left less
found-fewer apps left last numbers less was e u = record {
  numbered = record {
    few = fewer left last old.numbered.few;
    differ =
        differ-front left last old.numbered.differ;
  };
  found = λ other. found-after last numbers less None u other
      ∙ step other (is_same last other) refl;
}
  where
    old : IsFoundByName (left ++ last ∷ []) numbers
    old = subst (λ (names : List (List ℕ)). IsFoundByName names numbers) e was

    step : (other : List ℕ) (b : Bool) → is_same last other ≡ b →
        cond (is_same last other) None (number_found numbers other) ≡ number_of left other
    step other true e = ap (λ (b : Bool). cond b None (number_found numbers other)) e
        ∙ (sym (unnumbered left last (differ-last left last old.numbered.differ))
        ∙ ap (number_of left) (is_same-eq last other e))
    step other false e = ap (λ (b : Bool). cond b None (number_found numbers other)) e
        ∙ (old.found other ∙ not-last left last other e)
