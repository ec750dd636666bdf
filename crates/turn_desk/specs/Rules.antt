-- The rule of the turn, over its two words, its one slot and the views of all seats.
--
-- The word `turn` is 0, or the number of the seat that holds the turn. The word `served` is the
-- number of entries. The slot has what keeps the history; while a seat holds the turn it is that
-- seat's to take.
use Rattle.std.specs.Prelude.{◌≡◌, ◌≢◌, ◌⊎◌, ℕ, ◌<◌, ◌≤◌, List, [], ◌∷◌, length, true, Option, Some}
use mathlib.Core.Option.{some, none}
use mathlib.Core.Option as maybe
use lib.ListN.{get_elem?}
use Rattle.atomic_table.specs.Table.{State as TableState}
use Rattle.portal_model.specs.declared.entry.Entry.{Entry}
use Rattle.portal_model.specs.Seated.{BeginsWith, exchanges}
use Rattle.portal_model.specs.State.{State}
use Rattle.turn_desk.specs.Knowing.{Done, View}

-- the number is the view's, or that of a view joined into it
abbrev pub Covers : View → ℕ → Type 0
Covers v n = ((0 < v.number) × (v.number ≡ n))
    ⊎ ((k : ℕ) × (d : Done) × (get_elem? v.kept k ≡ some d) × (d.number ≡ n))

-- what is true of a seat that was joined into another
pub record FitsDone (made : ℕ) (o : State) (log : List Entry) (d : Done) : Type 0 where
  pub numbered : (0 < d.number) × (d.number ≤ made)
  pub seen : BeginsWith log d.seen
  pub mine : d.mine ≡ exchanges d.number o log
  pub known : d.known ≤ length log

-- what is true of a seat: what it has seen is a front of the history, and holds all of the seat's
-- own entries
pub record FitsLive (made : ℕ) (o : State) (log base : List Entry) (v : View) : Type 0 where
  pub base_is : v.base ≡ base
  pub opening_is : v.opening ≡ o
  pub numbered : v.number ≤ made
  pub gives : v.number ≡ 1 → v.made ≡ made
  pub seen : BeginsWith log v.seen
  pub mine : v.mine ≡ exchanges v.number o log
  pub all_seen : exchanges v.number o v.seen ≡ exchanges v.number o log
  pub known : v.known ≤ length log

-- what is true of the seat that holds the turn
pub record FitsHolder (turn : ℕ) (log : List Entry) (v : View) : Type 0 where
  pub live : 0 < v.number
  pub is : v.number ≡ turn
  pub found : v.found ≡ log
  pub kept : v.kept ≡ []

pub record FitsView (turn made : ℕ) (o : State) (log base : List Entry) (v : View) : Type 0 where
  pub live : 0 < v.number → FitsLive made o log base v
  pub holds : v.holds ≡ true → FitsHolder turn log v
  pub kept : (k : ℕ) (d : Done) → get_elem? v.kept k ≡ some d → FitsDone made o log d

-- There is one history, `log`, that began with the history of `key`, and `made` numbers were given.
-- While the turn is free, what keeps the history is in the slot; while it is held, one view holds
-- it. The numbers that views cover differ, numbers that weren't given have no entry since the
-- start, and some seat has seen all.
pub record Rule {S : Type 0} (opening : S → State) (entries : S → List Entry) (key : S)
    (turn served : ℕ) (home : maybe.Option (Option S)) (views : List View) : Type 0 where
  pub log : List Entry
  pub made : ℕ
  pub count : length log ≡ served
  pub bounded : made ≤ 65535
  pub begins : BeginsWith log (entries key)
  pub free : turn ≡ 0 → (x : S) × (home ≡ some (Some x)) × (entries x ≡ log)
      × (opening x ≡ opening key)
  pub away : turn ≢ 0 → home ≡ none
  pub holder : turn ≢ 0 → (id : ℕ) × (v : View) × (get_elem? views id ≡ some v) × (v.holds ≡ true)
  pub fits : (id : ℕ) (v : View) → get_elem? views id ≡ some v
      → FitsView turn made (opening key) log (entries key) v
  pub apart : (i j n : ℕ) (v w : View) → get_elem? views i ≡ some v → get_elem? views j ≡ some w
      → Covers v n → Covers w n → i ≡ j
  pub unmade : (n : ℕ) → (n ≡ 0) ⊎ (made < n)
      → exchanges n (opening key) log ≡ exchanges n (opening key) (entries key)
  pub whole : (id : ℕ) × (v : View) × (get_elem? views id ≡ some v) × (0 < v.number)
      × (v.seen ≡ log)

-- the same of a table
pub record Keeps {S : Type 0} (opening : S → State) (entries : S → List Entry) (key : S)
    (s : TableState (Option S) View) : Type 0 where
  pub turn : ℕ
  pub served : ℕ
  pub home : maybe.Option (Option S)
  pub words : s.words ≡ turn ∷ served ∷ []
  pub homes : s.homes ≡ home ∷ []
  pub rule : Rule opening entries key turn served home s.views

-- what keeps the history at last, once all views but one are joined into that one
pub record Ends {S : Type 0} (opening : S → State) (entries : S → List Entry) (key x : S)
    (made : ℕ) (v : View) : Type 0 where
  pub opening_is : opening x ≡ opening key
  pub begins : BeginsWith (entries x) (entries key)
  pub seen : BeginsWith (entries x) v.seen
  pub mine : v.mine ≡ exchanges v.number (opening key) (entries x)
  pub known : v.known ≤ length (entries x)
  pub kept : (k : ℕ) (d : Done) → get_elem? v.kept k ≡ some d
      → FitsDone made (opening key) (entries x) d
  pub unmade : (n : ℕ) → (n ≡ 0) ⊎ (made < n)
      → exchanges n (opening key) (entries x) ≡ exchanges n (opening key) (entries key)
