-- Temporaries stand apart: each is a file of its own that isn't present, and only its own connection has it open.
use Rattle.std.proofs.Common.{◌≡◌, ℕ, ◌==◌, List, [], ◌∷◌, ◌++◌, map, Bool, true, false, not, ◌&&◌, ◌||◌, cond, Some, None, refl, sym, ap, subst, ◌∙◌, arith}
use Rattle.std.proofs.lemmas.Bool.Decides.{nat_tests}
use Rattle.std.specs.List.{find, list_all, list_any}
use Rattle.portal_base.specs.Content.{file_named}
use Rattle.portal_base.specs.declared.files.File.{File}
use Rattle.portal_base.specs.declared.files.FileName.{FileName}
use Rattle.portal_model.specs.declared.handle.OpenHandle.{OpenHandle}
use Rattle.portal_model.specs.declared.state.Connection.{Connection}
use Rattle.portal_model.specs.declared.temporary.OwnTemp.{OwnTemp}
use Rattle.portal_model.specs.State.{connection_of}
use Rattle.portal_model.proofs.ListLookups.{nat_is}
use Rattle.app_world.specs.View.{is_held_name, names_of_handle, same_name}
use Rattle.app_world.proofs.NamedFiles.{name-eq, name-itself}

-- ---- what connections have

abbrev pub file_of : OwnTemp → FileName
file_of t = t.temp.file

abbrev pub names_in : List OwnTemp → List FileName
names_in ts = map file_of ts

abbrev pub has_temp : FileName → Connection → Bool
has_temp n c = is_held_name (names_in c.temps) n

abbrev pub opens : FileName → OpenHandle → Bool
opens n h = is_held_name (names_of_handle h.handle) n

-- no handle of another seat opens the file
abbrev pub others_closed : ℕ → FileName → List OpenHandle → Bool
others_closed seat n hs = list_all (λ h. h.seat == seat || not (opens n h)) hs

-- and it is a temporary of no connection of another seat
abbrev pub others_without : ℕ → FileName → List Connection → Bool
others_without seat n cs = list_all (λ d. d.seat == seat || not (has_temp n d)) cs

-- a temporary of the connection of a seat
pub record Alone (files : List File) (hs : List OpenHandle) (cs : List Connection) (seat : ℕ) (n : FileName) : Type 0 where
  pub later : (n.generation == 0) ≡ false
  pub hidden : file_named files n ≡ None
  pub closed : others_closed seat n hs ≡ true
  pub only : others_without seat n cs ≡ true

abbrev pub EachName : (FileName → Type 0) → List FileName → Type 0
EachName P [] = Unit {0}
EachName P (n ∷ ns) = P n × EachName P ns

-- of each temporary of each connection, by its seat
abbrev pub EachTemp : (ℕ → FileName → Type 0) → List Connection → Type 0
EachTemp P [] = Unit {0}
EachTemp P (c ∷ cs) = EachName (P c.seat) (names_in c.temps) × EachTemp P cs

-- no two names are the same
abbrev pub Differ : List FileName → Type 0
Differ [] = Unit {0}
Differ (n ∷ ns) = (is_held_name ns n ≡ false) × Differ ns

abbrev pub EachDiffer : List Connection → Type 0
EachDiffer [] = Unit {0}
EachDiffer (c ∷ cs) = Differ (names_in c.temps) × EachDiffer cs

pub record Apart (files : List File) (hs : List OpenHandle) (cs : List Connection) : Type 0 where
  pub alone : EachTemp (Alone files hs cs) cs
  pub differ : EachDiffer cs

-- ---- tests

pub or-first : (a b : Bool) → a ≡ true → (a || b) ≡ true
or-first true b h = refl
or-first false b h = cc

pub or-second : (a b : Bool) → b ≡ true → (a || b) ≡ true
or-second true b h = refl
or-second false b h = h

pub both : (a b : Bool) → a ≡ true → b ≡ true → (a && b) ≡ true
both true b e f = f
both false b e f = cc

pub first-both : (a b : Bool) → (a && b) ≡ true → a ≡ true
first-both true b h = refl
first-both false b h = cc

pub second-both : (a b : Bool) → (a && b) ≡ true → b ≡ true
second-both true b h = h
second-both false b h = cc

pub neither-first : (a b : Bool) → (a || b) ≡ false → a ≡ false
neither-first true b h = cc
neither-first false b h = refl

pub neither-second : (a b : Bool) → (a || b) ≡ false → b ≡ false
neither-second true b h = cc
neither-second false b h = h

-- one of two, and not the second
pub or-not : (a b : Bool) → (a || not b) ≡ true → b ≡ true → a ≡ true
or-not true b h k = refl
or-not false true h k = cc
or-not false false h k = cc

pub not-true : (b : Bool) → b ≡ false → not b ≡ true
not-true true h = cc
not-true false h = refl

pub seat-itself : (n : ℕ) → (n == n) ≡ true
seat-itself n = grind (arith, nat_tests)

-- ---- each name

pub each-name : (P Q : FileName → Type 0) → ((n : FileName) → P n → Q n) → (ns : List FileName) → EachName P ns → EachName Q ns
each-name P Q f [] h = tt
each-name P Q f (n ∷ ns) h = (f n h.0, each-name P Q f ns h.1)

pub names-both : (P Q R : FileName → Type 0) → ((n : FileName) → P n → Q n → R n) → (ns : List FileName) → EachName P ns → EachName Q ns → EachName R ns
names-both P Q R f [] h k = tt
names-both P Q R f (n ∷ ns) h k = (f n h.0 k.0, names-both P Q R f ns h.1 k.1)

pub each-joined : (P : FileName → Type 0) (ns ms : List FileName) → EachName P ns → EachName P ms → EachName P (ns ++ ms)
each-joined P [] ms h k = k
each-joined P (n ∷ ns) ms h k = (h.0, each-joined P ns ms h.1 k)

-- none of those is this name
pub none-is : (m : FileName) (ns : List FileName) → is_held_name ns m ≡ false → EachName (λ n. same_name n m ≡ false) ns
none-is m [] h = tt
none-is m (n ∷ ns) h = (neither-first (same_name n m) (is_held_name ns m) h, none-is m ns (neither-second (same_name n m) (is_held_name ns m) h))

pub is-none : (m : FileName) (ns : List FileName) → EachName (λ n. same_name n m ≡ false) ns → is_held_name ns m ≡ false
is-none m [] h = refl
is-none m (n ∷ ns) h = λ i. h.0 i || is-none m ns h.1 i

-- each is among them
pub each-in : (ns : List FileName) → EachName (λ n. is_held_name ns n ≡ true) ns
each-in [] = tt
each-in (n ∷ ns) = (
  or-first (same_name n n) (is_held_name ns n) (name-itself n),
  each-name (λ m. is_held_name ns m ≡ true) (λ m. is_held_name (n ∷ ns) m ≡ true) (λ m h. or-second (same_name n m) (is_held_name ns m) h) ns (each-in ns),
)

-- of a name among those
pub held-name : (P : FileName → Type 0) (ns : List FileName) (n : FileName) → EachName P ns → is_held_name ns n ≡ true → P n
held-name P [] n h e = cc
held-name P (m ∷ ns) n h e = step (same_name m n) refl e (held-name P ns n h.1)
  where
    step : (b : Bool) → same_name m n ≡ b → (b || is_held_name ns n) ≡ true → (is_held_name ns n ≡ true → P n) → P n
    step true k f more = subst P (name-eq m n k) h.0
    step false k f more = more f

-- of a temporary that is found
pub found-name-in : (P : FileName → Type 0) (p : OwnTemp → Bool) (ts : List OwnTemp) (t : OwnTemp) → EachName P (names_in ts) → find p ts ≡ Some t → P (file_of t)
found-name-in P p [] t h e = cc
found-name-in P p (x ∷ xs) t h e = step (p x) e (found-name-in P p xs t h.1)
  where
    step : (b : Bool) → cond b (Some x) (find p xs) ≡ Some t → (find p xs ≡ Some t → P (file_of t)) → P (file_of t)
    step true k more = let same : x ≡ t = cc in subst (λ (y : OwnTemp). P (file_of y)) same h.0
    step false k more = more k

-- ---- each temporary

pub each-temp : (P Q : ℕ → FileName → Type 0) → ((seat : ℕ) (n : FileName) → P seat n → Q seat n) → (cs : List Connection) → EachTemp P cs → EachTemp Q cs
each-temp P Q f [] h = tt
each-temp P Q f (c ∷ cs) h = (each-name (P c.seat) (Q c.seat) (f c.seat) (names_in c.temps) h.0, each-temp P Q f cs h.1)

pub temps-both : (P Q R : ℕ → FileName → Type 0) → ((seat : ℕ) (n : FileName) → P seat n → Q seat n → R seat n) → (cs : List Connection) → EachTemp P cs → EachTemp Q cs → EachTemp R cs
temps-both P Q R f [] h k = tt
temps-both P Q R f (c ∷ cs) h k = (names-both (P c.seat) (Q c.seat) (R c.seat) (f c.seat) (names_in c.temps) h.0 k.0, temps-both P Q R f cs h.1 k.1)

-- of the connection that is found by its seat
pub found-each : (P : ℕ → FileName → Type 0) (cs : List Connection) (k : ℕ) (c : Connection) → connection_of cs k ≡ Some c → EachTemp P cs → EachName (P c.seat) (names_in c.temps)
found-each P [] k c e h = cc
found-each P (d ∷ cs) k c e h = step (d.seat == k) e (λ f. found-each P cs k c f h.1)
  where
    step : (b : Bool) → cond b (Some d) (connection_of cs k) ≡ Some c → (connection_of cs k ≡ Some c → EachName (P c.seat) (names_in c.temps)) → EachName (P c.seat) (names_in c.temps)
    step true f more = let same : d ≡ c = cc in subst (λ (x : Connection). EachName (P x.seat) (names_in x.temps)) same h.0
    step false f more = more f

-- where no connection has this name no temporary is it
pub none-of : (m : FileName) (cs : List Connection) → list_all (λ d. not (has_temp m d)) cs ≡ true → EachTemp (λ seat n. same_name n m ≡ false) cs
none-of m [] h = tt
none-of m (c ∷ cs) h = (none-is m (names_in c.temps) (untrue (has_temp m c) (first-both (not (has_temp m c)) (list_all (λ d. not (has_temp m d)) cs) h)), none-of m cs (second-both (not (has_temp m c)) (list_all (λ d. not (has_temp m d)) cs) h))
  where
    untrue : (b : Bool) → not b ≡ true → b ≡ false
    untrue true e = cc
    untrue false e = refl

-- ---- whose a temporary is

abbrev pub is_there : ℕ → FileName → List Connection → Bool
is_there seat n cs = list_any (λ d. d.seat == seat && has_temp n d) cs

-- each is one of the connection of its seat
pub each-there : (cs : List Connection) → EachTemp (λ seat n. is_there seat n cs ≡ true) cs
each-there [] = tt
each-there (c ∷ cs) = (
  each-name (λ n. is_held_name (names_in c.temps) n ≡ true) (λ n. is_there c.seat n (c ∷ cs) ≡ true)
      (λ n h. or-first (c.seat == c.seat && has_temp n c) (is_there c.seat n cs) (both (c.seat == c.seat) (has_temp n c) (seat-itself c.seat) h)) (names_in c.temps) (each-in (names_in c.temps)),
  each-temp (λ seat n. is_there seat n cs ≡ true) (λ seat n. is_there seat n (c ∷ cs) ≡ true) (λ seat n h. or-second (c.seat == seat && has_temp n c) (is_there seat n cs) h) cs (each-there cs),
)

-- so that seat is the one of which no other has it
pub its-seat : (cs : List Connection) (k seat : ℕ) (n : FileName) → others_without k n cs ≡ true → is_there seat n cs ≡ true → (seat == k) ≡ true
its-seat [] k seat n h e = cc
its-seat (d ∷ cs) k seat n h e = step (d.seat == seat && has_temp n d) refl e (its-seat cs k seat n (second-both (d.seat == k || not (has_temp n d)) (others_without k n cs) h))
  where
    step : (b : Bool) → (d.seat == seat && has_temp n d) ≡ b → (b || is_there seat n cs) ≡ true → (is_there seat n cs ≡ true → (seat == k) ≡ true) → (seat == k) ≡ true
    step true f g more =
        let own : (d.seat == k) ≡ true = or-not (d.seat == k) (has_temp n d) (first-both (d.seat == k || not (has_temp n d)) (others_without k n cs) h) (second-both (d.seat == seat) (has_temp n d) f) in
        ap (λ (m : ℕ). m == k) (sym (nat_is d.seat seat (first-both (d.seat == seat) (has_temp n d) f))) ∙ own
    step false f g more = more g
