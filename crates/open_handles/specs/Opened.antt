-- What connections have open: each its own handles, by the numbers that FUSE_OPEN, FUSE_CREATE and
-- FUSE_OPENDIR answered (the field `fh` of include/uapi/linux/fuse.h).
use Rattle.std.specs.Prelude.{◌≡◌, ℕ, ◌==◌, nat_eq, ◌+◌, ◌-◌, ◌^◌, ◌<◌, ◌≤◌, List, [], ◌∷◌, ◌++◌, false, Option, Some, None, IfSome, length}
use Rattle.std.specs.List.{IsDistinct}
use Rattle.std.specs.Map.{lookup, remove_entry, keys_of}
use Rattle.portal_model.specs.declared.handle.Handle.{Handle}

-- the number that a connection was given last, its open handles by number, in order of opening,
-- and for how many more there is room
pub record Opened : Type 0 where
  pub last : ℕ
  pub handles : List (ℕ × Handle)
  pub room : ℕ

-- how many handles a connection may have open, and what each has, by its seat
pub record HandleTable : Type 0 where
  pub most : ℕ
  pub seats : List (ℕ × Opened)

abbrev pub opened_on : List (ℕ × Opened) → ℕ → Option Opened
opened_on seats seat = lookup (λ s. seat == s) seats

-- the open handle of a number
abbrev pub handle_of : Option Opened → ℕ → Option Handle
handle_of None fh = None
handle_of (Some o) fh = lookup (λ n. fh == n) o.handles

-- no number stands twice, none above the last that was given, and not 0
pub record AreNumbered (last : ℕ) (handles : List (ℕ × Handle)) : Type 0 where
  pub differ : IsDistinct nat_eq (keys_of handles)
  pub given : (n : ℕ) → last < n → lookup (λ k. n == k) handles ≡ None
  pub positive : lookup (λ k. 0 == k) handles ≡ None

-- a connection has no more handles open than the limit allows, by numbers that it was given
pub record IsKept (most : ℕ) (o : Opened) : Type 0 where
  pub numbered : AreNumbered o.last o.handles
  pub limit : length o.handles ≤ most

abbrev pub AreWithin : ℕ → List (ℕ × Opened) → Type 0
AreWithin most seats = (s : ℕ) → IfSome (opened_on seats s) (λ o. length o.handles ≤ most)

-- ---- what a call leaves of one connection

-- nothing was given yet
pub record IsFresh (new : Opened) : Type 0 where
  pub last : new.last ≡ 0
  pub handles : new.handles ≡ []

-- the handle stands last, by the next number; the limit left a place for it
pub record Adds (most fh : ℕ) (handle : Handle) (old new : Opened) : Type 0 where
  pub number : fh ≡ old.last + 1
  pub limit : length old.handles < most
  pub last : new.last ≡ fh
  pub handles : new.handles ≡ old.handles ++ (fh, handle) ∷ []

-- the handle of this number is gone
pub record Releases (fh : ℕ) (old new : Opened) : Type 0 where
  pub last : new.last ≡ old.last
  pub handles : new.handles ≡ remove_entry (λ n. fh == n) old.handles
  pub room : old.room ≤ new.room

-- nothing was given, and nothing is gone
pub record Keeps (old new : Opened) : Type 0 where
  pub last : new.last ≡ old.last
  pub handles : new.handles ≡ old.handles
  pub room : old.room ≤ new.room

-- the next handle gets its number
pub record CanAdd (most : ℕ) (o : Opened) : Type 0 where
  pub limit : length o.handles < most
  pub number : o.last < 2 ^ 64 - 1
  pub room : 0 < o.room

-- ---- what a call leaves of all connections

-- there is such a connection before and after, or neither before nor after
abbrev pub Both : (Opened → Opened → Type 0) → Option Opened → Option Opened → Type 0
Both R None None = Unit
Both R None (Some n) = ⊥
Both R (Some o) None = ⊥
Both R (Some o) (Some n) = R o n

abbrev pub Enters : Option Opened → Option Opened → Type 0
Enters o None = ⊥
Enters o (Some n) = IsFresh n

abbrev pub Leaves : Option Opened → Option Opened → Type 0
Leaves o n = n ≡ None

-- one seat goes so from what it had open to what it has, and every other keeps what it had
pub record AtSeat (R : Option Opened → Option Opened → Type 0) (old new : List (ℕ × Opened))
    (seat : ℕ) : Type 0 where
  pub there : R (opened_on old seat) (opened_on new seat)
  pub elsewhere : (s : ℕ) → (seat == s) ≡ false → opened_on new s ≡ opened_on old s
