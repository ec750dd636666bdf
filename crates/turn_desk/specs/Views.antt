-- What seats know of the turn, and how each step changes it.
use Rattle.std.specs.Prelude.{◌≡◌, ℕ, ◌+◌, ◌<◌, ◌≤◌, List, [], ◌∷◌, ◌++◌, length, true, false, nat_lt, if◌then◌else◌}
use mathlib.Core.Option.{some}
use lib.ListN.{get_elem?}
use Rattle.portal_model.specs.declared.entry.Entry.{Entry}
use Rattle.portal_desk.specs.Opening.{IsOpeningState}
use Rattle.portal_model.specs.History.{Legal, cost, run}
use Rattle.portal_model.specs.Seated.{exchange, exchanges}
use Rattle.turn_desk.specs.Knowing.{Done, View, fresh}

-- the first seat's view once it gave one more number, and the new seat's
abbrev pub gave : View → View
gave v = record v { made = v.made + 1 }

abbrev pub given : View → View
given v = fresh (v.made + 1) v.opening v.base 0

abbrev pub longer : List Entry → List Entry → List Entry
longer xs ys = if nat_lt (length xs) (length ys) then ys else xs

abbrev pub done : View → Done
done v = record { number = v.number; seen = v.seen; mine = v.mine; known = v.known }

-- a join keeps both views, and goes on with the longer of what they have seen
abbrev pub joined : View → View → View
joined v w = record v {
  seen = longer v.seen w.seen;
  kept = (v.kept ++ done v ∷ []) ++ done w ∷ [];
}

-- an exchange lost, and read this holder
abbrev pub lost : View → ℕ → View
lost v n = record v { losses = v.losses + 1; holder = n }

-- an exchange won, and the history was this
abbrev pub holding : View → List Entry → View
holding v log = record v { holds = true; found = log }

-- the seat's entry was counted
abbrev pub wrote : View → Entry → View
wrote v e = record v {
  found = v.found ++ e ∷ [];
  seen = v.found ++ e ∷ [];
  mine = v.mine ++ exchange (run v.opening v.found) e ∷ [];
}

-- the turn was given back
abbrev pub freed : View → View
freed v = record v { holds = false; seen = v.found }

-- the length of the history was read
abbrev pub looked : View → ℕ → View
looked v n = record v { loads = v.loads + 1; known = n }

-- the view was joined into v
abbrev pub IsKept : View → View → Type 0
IsKept v u = (i : ℕ) × (get_elem? v.kept i ≡ some (done u))

-- the seat has a number, doesn't hold the turn, and took nobody in
pub record Sits (v : View) : Type 0 where
  pub live : 0 < v.number
  pub free : v.holds ≡ false
  pub alone : v.kept ≡ []

-- between two calls: the seat doesn't hold the turn, and has seen a legal history within its limit,
-- that began in an opening state, in which its own entries are those that it knows
pub record Rests (v : View) : Type 0 where
  pub sits : Sits v
  pub started : IsOpeningState v.opening
  pub legal : Legal v.opening v.seen
  pub within : cost v.seen ≤ v.opening.limits.history
  pub own : exchanges v.number v.opening v.seen ≡ v.mine

-- what no call of a seat changes
pub record SameSeat (v w : View) : Type 0 where
  pub number : w.number ≡ v.number
  pub opening : w.opening ≡ v.opening
  pub base : w.base ≡ v.base
  pub made : w.made ≡ v.made
