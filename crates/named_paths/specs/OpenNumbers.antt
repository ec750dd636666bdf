-- The numbers of open handles, by seat: more than those that are open may be kept, and none that
-- is open is missing.
use Rattle.std.specs.Prelude.{◌≡◌, ℕ, ◌==◌, ◌&&◌, ◌||◌, List, [], Bool, true, Option, Some, None, is_some}
use Rattle.std.specs.BTreeMap.{BTreeMap, get}
use Rattle.std.specs.Global.{Vec}
use Rattle.std.specs.List.{list_any}
use Rattle.std.specs.Ordering.{nat_cmp}
use Rattle.open_handles.specs.Opened.{Opened, handle_of, opened_on}
use Rattle.portal_model.specs.declared.handle.OpenHandle.{OpenHandle}
use Rattle.portal_model.specs.declared.state.Connection.{Connection}
use Rattle.portal_model.specs.State.{is_handle}

abbrev pub OpenNumbers : Type 0
OpenNumbers = BTreeMap ℕ (Vec ℕ)

abbrev pub numbers_in : Option (Vec ℕ) → List ℕ
numbers_in None = []
numbers_in (Some known) = known.items

-- the numbers that are kept of a seat
abbrev pub numbers_of : OpenNumbers → ℕ → List ℕ
numbers_of numbers seat = numbers_in (get nat_cmp numbers seat)

abbrev pub is_among : List ℕ → ℕ → Bool
is_among known number = list_any (λ n. n == number) known

abbrev pub has_number : OpenNumbers → ℕ → ℕ → Bool
has_number numbers seat number = is_among (numbers_of numbers seat) number

-- ---- what a state has open

-- a handle of this number is open on the seat
abbrev pub is_open : List OpenHandle → ℕ → ℕ → Bool
is_open handles seat number = list_any (is_handle seat number) handles

-- the number of each open handle is kept
abbrev pub Cover : OpenNumbers → List OpenHandle → Type 0
Cover numbers handles = (seat number : ℕ) → is_open handles seat number ≡ true →
    has_number numbers seat number ≡ true

-- the number of the last handle that a connection was given
abbrev pub last_opened : Option Connection → ℕ
last_opened None = 0
last_opened (Some c) = c.opens

-- ---- what a table has open

abbrev pub is_open_in : List (ℕ × Opened) → ℕ → ℕ → Bool
is_open_in seats seat number = is_some (handle_of (opened_on seats seat) number)

-- each number that was kept, or is this one of this seat, is kept
abbrev pub IsJoined : ℕ → ℕ → OpenNumbers → OpenNumbers → Type 0
IsJoined seat number old new = (s n : ℕ) →
    (has_number old s n || (seat == s && number == n)) ≡ true → has_number new s n ≡ true

-- so it is of the open ones
abbrev pub IsFollowed : ℕ → ℕ → List (ℕ × Opened) → OpenNumbers → OpenNumbers → Type 0
IsFollowed seat number seats old new = (s n : ℕ) → is_open_in seats s n ≡ true →
    (has_number old s n || (seat == s && number == n)) ≡ true → has_number new s n ≡ true

-- each open one that was kept is kept
abbrev pub IsLeftOpen : List (ℕ × Opened) → OpenNumbers → OpenNumbers → Type 0
IsLeftOpen seats old new = (s n : ℕ) → is_open_in seats s n ≡ true →
    has_number old s n ≡ true → has_number new s n ≡ true
