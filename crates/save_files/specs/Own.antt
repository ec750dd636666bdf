-- The temporaries that connections have: each its own, numbered from 1 as they were added.
use Rattle.std.specs.Prelude.{◌≡◌, ℕ, ◌==◌, nat_eq, ◌+◌, ◌<◌, ◌≤◌, List, [], ◌∷◌, ◌++◌, Bool, false, not, ◌&&◌, cond, Option, Some, None, option_map, length, map, slice_get, find}
use Rattle.std.specs.List.{IsDistinct, filter}
use Rattle.std.specs.Map.{lookup, remove_entry, keys_of}
use Rattle.portal_base.specs.Names.{is_same}
use Rattle.portal_model.specs.SeatNames.{last_temp, own_temp, temps_limit}
use Rattle.portal_model.specs.declared.temporary.OwnTemp.{OwnTemp}
use Rattle.portal_model.specs.declared.temporary.Temp.{Temp}

-- how many temporaries were added, which is the number of the last; those that it has by number,
-- in the order in which they were added; and for how many more there is room
pub record Own : Type 0 where
  pub added : ℕ
  pub temps : List (ℕ × Temp)
  pub room : ℕ

-- these, as the definitions of requests have them
abbrev pub owned : List (ℕ × Temp) → List OwnTemp
owned temps = map (λ e. own_temp e.0 e.1) temps

-- what each connection has, by its seat
abbrev pub own_on : List (ℕ × Own) → ℕ → Option Own
own_on seats seat = lookup (λ s. seat == s) seats

-- how many temporaries a connection may have
abbrev pub most_temps : ℕ
most_temps = temps_limit

-- the greatest number of a temporary
abbrev pub last_number : ℕ
last_number = last_temp

-- the temporary of a number
abbrev pub temp_of : Option Own → ℕ → Option Temp
temp_of None k = None
temp_of (Some o) k = lookup (λ n. k == n) o.temps

-- it is in that view and of that document, and has that name
abbrev pub is_called : ℕ → ℕ → List ℕ → ℕ × Temp → Bool
is_called view document name e =
    e.1.view == view && e.1.document.number == document && is_same e.1.name name

abbrev pub number_in : Option (ℕ × Temp) → Option ℕ
number_in found = option_map (λ e. e.0) found

-- the number of the first in that view, of that document and of that name
abbrev pub found_in : Option Own → ℕ → ℕ → List ℕ → Option ℕ
found_in None view document name = None
found_in (Some o) view document name = number_in (find (is_called view document name) o.temps)

-- the number of the one at a place, from 0
abbrev pub number_at : Option Own → ℕ → Option ℕ
number_at None place = None
number_at (Some o) place = number_in (slice_get o.temps place)

-- no number stands twice, none above that of the last, and not 0
pub record AreNumbered (added : ℕ) (temps : List (ℕ × Temp)) : Type 0 where
  pub differ : IsDistinct nat_eq (keys_of temps)
  pub given : (n : ℕ) → added < n → lookup (λ k. n == k) temps ≡ None
  pub positive : lookup (λ k. 0 == k) temps ≡ None

-- a connection has no more temporaries than it may, by numbers that it was given
pub record IsKept (o : Own) : Type 0 where
  pub numbered : AreNumbered o.added o.temps
  pub limit : length o.temps ≤ most_temps

-- ---- what a call leaves of one connection

-- nothing was added yet
pub record IsFresh (new : Own) : Type 0 where
  pub added : new.added ≡ 0
  pub temps : new.temps ≡ []

-- the temporary stands last, by the next number; the limit left a place for it
pub record Adds (k : ℕ) (temp : Temp) (old new : Own) : Type 0 where
  pub number : k ≡ old.added + 1
  pub limit : length old.temps < most_temps
  pub added : new.added ≡ k
  pub temps : new.temps ≡ old.temps ++ (k, temp) ∷ []

abbrev pub with_name : List ℕ → Temp → Temp
with_name name temp = record temp { name = name }

-- the temporary of this number has this name, in its place, and every other is as it was
pub record Renames (k : ℕ) (name : List ℕ) (old new : Own) : Type 0 where
  pub added : new.added ≡ old.added
  pub numbers : keys_of new.temps ≡ keys_of old.temps
  pub named : (n : ℕ) → lookup (λ q. n == q) new.temps
      ≡ cond (k == n) (option_map (with_name name) (lookup (λ q. k == q) old.temps))
      (lookup (λ q. n == q) old.temps)
  pub room : old.room ≤ new.room

-- the temporary of this number is gone
pub record Removes (k : ℕ) (old new : Own) : Type 0 where
  pub added : new.added ≡ old.added
  pub temps : new.temps ≡ remove_entry (λ n. k == n) old.temps
  pub room : old.room ≤ new.room

-- another one in that view, of that document and of that name than the one of this number
abbrev pub is_other : ℕ → ℕ → ℕ → List ℕ → ℕ × Temp → Bool
is_other k view document name e = is_called view document name e && not (e.0 == k)

-- these are gone
pub record RemovesOthers (k view document : ℕ) (name : List ℕ) (old new : Own) : Type 0 where
  pub added : new.added ≡ old.added
  pub temps : new.temps ≡ filter (λ e. not (is_other k view document name e)) old.temps
  pub room : old.room ≤ new.room

-- nothing was added, and nothing is gone
pub record Keeps (old new : Own) : Type 0 where
  pub added : new.added ≡ old.added
  pub temps : new.temps ≡ old.temps
  pub room : old.room ≤ new.room

-- the next temporary gets its number
pub record CanAdd (o : Own) : Type 0 where
  pub limit : length o.temps < most_temps
  pub number : o.added < last_number
  pub room : 0 < o.room

-- ---- what a call leaves of all connections

-- there is such a connection before and after, or neither before nor after
abbrev pub Both : (Own → Own → Type 0) → Option Own → Option Own → Type 0
Both R None None = Unit
Both R None (Some n) = ⊥
Both R (Some o) None = ⊥
Both R (Some o) (Some n) = R o n

abbrev pub Enters : Option Own → Option Own → Type 0
Enters o None = ⊥
Enters o (Some n) = IsFresh n

abbrev pub Leaves : Option Own → Option Own → Type 0
Leaves o n = n ≡ None

-- one seat goes so from what it had to what it has, and every other keeps what it had
pub record AtSeat (R : Option Own → Option Own → Type 0) (old new : List (ℕ × Own)) (seat : ℕ)
    : Type 0 where
  pub there : R (own_on old seat) (own_on new seat)
  pub elsewhere : (s : ℕ) → (seat == s) ≡ false → own_on new s ≡ own_on old s
