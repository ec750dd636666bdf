-- What connections named below exported folders: each its own, numbered from 1 as it named it.
use Rattle.std.specs.Prelude.{◌≡◌, ℕ, ◌==◌, ◌+◌, ◌-◌, ◌<◌, ◌≤◌, List, [], ◌∷◌, ◌++◌, Bool, false, ◌&&◌, cond, Option, Some, None, length, slice_get, if◌then◌else◌}
use Rattle.std.specs.List.{IsDistinct, list_any, position_or_len}
use Rattle.std.specs.Map.{lookup}
use Rattle.portal_base.specs.Names.{is_same}
use Rattle.portal_model.specs.declared.naming.Naming.{Naming}

-- what a connection named, in order, and for how much more there is room
pub record Named : Type 0 where
  pub namings : List Naming
  pub room : ℕ

-- what each named, by its seat
abbrev pub named_on : List (ℕ × Named) → ℕ → Option Named
named_on seats seat = lookup (λ s. seat == s) seats

-- how many namings a connection may have
abbrev pub most_namings : ℕ
most_namings = 65536

-- they name one path below one document in one view
abbrev pub is_same_naming : Naming → Naming → Bool
is_same_naming a b =
    a.view == b.view && (a.document.number == b.document.number && is_same a.path b.path)

abbrev pub has_naming : Naming → List Naming → Bool
has_naming naming namings = list_any (is_same_naming naming) namings

-- its place among them, from 1; of one that isn't there, that behind the last
abbrev pub number_of : Naming → List Naming → ℕ
number_of naming namings = position_or_len (is_same_naming naming) namings + 1

-- with it behind the others, where it isn't among them
abbrev pub with_naming : Naming → List Naming → List Naming
with_naming naming namings = if has_naming naming namings then namings else namings ++ naming ∷ []

-- the k-th, from 1
abbrev pub naming_at : Option Named → ℕ → Option Naming
naming_at None k = None
naming_at (Some n) k = cond (k == 0) None (slice_get n.namings (k - 1))

-- they differ, and are no more than there may be
pub record AreNamings (namings : List Naming) : Type 0 where
  pub differ : IsDistinct is_same_naming namings
  pub limit : length namings ≤ most_namings

-- ---- what a call leaves of one connection

-- nothing was named yet
pub record IsFresh (new : Named) : Type 0 where
  pub namings : new.namings ≡ []

-- the naming has this number: its own, or the next
pub record Names (k : ℕ) (naming : Naming) (old new : Named) : Type 0 where
  pub number : k ≡ number_of naming old.namings
  pub namings : new.namings ≡ with_naming naming old.namings

-- nothing was named
pub record Keeps (old new : Named) : Type 0 where
  pub namings : new.namings ≡ old.namings
  pub room : old.room ≤ new.room

-- it gets its number: it has it, or there is room for it
abbrev pub CanName : Naming → Named → Type 0
CanName naming n =
    has_naming naming n.namings ≡ false → (length n.namings < most_namings) × (0 < n.room)

-- ---- what a call leaves of all connections

-- there is such a connection before and after, or neither before nor after
abbrev pub Both : (Named → Named → Type 0) → Option Named → Option Named → Type 0
Both R None None = Unit
Both R None (Some n) = ⊥
Both R (Some o) None = ⊥
Both R (Some o) (Some n) = R o n

abbrev pub Enters : Option Named → Option Named → Type 0
Enters o None = ⊥
Enters o (Some n) = IsFresh n

abbrev pub Leaves : Option Named → Option Named → Type 0
Leaves o n = n ≡ None

-- one seat goes so from what it had named to what it has, and every other keeps what it had
pub record AtSeat (R : Option Named → Option Named → Type 0) (old new : List (ℕ × Named))
    (seat : ℕ) : Type 0 where
  pub there : R (named_on old seat) (named_on new seat)
  pub elsewhere : (s : ℕ) → (seat == s) ≡ false → named_on new s ≡ named_on old s
