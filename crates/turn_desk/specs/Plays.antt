-- What each step on a word tells the seat that made it.
use Rattle.std.specs.Prelude.{◌≡◌, ◌≢◌, ℕ, ◌≤◌, List, [], ◌∷◌, ◌++◌, length, Option, Some}
use Rattle.atomic_table.specs.Table.{Me, Step}
use Rattle.portal_model.specs.declared.entry.Entry.{Entry}
use Rattle.portal_model.specs.Seated.{BeginsWith, exchanges}
use Rattle.portal_model.specs.State.{State}
use Rattle.turn_desk.specs.Knowing.{View}
use Rattle.turn_desk.specs.Views.{lost, holding, wrote, freed, looked}

module _ {S : Type 0} (opening : S → State) (entries : S → List Entry) where
  abbrev pub Sat : Type 0
  Sat = Me (Option S) View

  -- the turn was won, and with it the slot: the history begins with all that the seat had seen, and
  -- has no other entries of the seat
  pub record Took (m m' : Sat) : Type 0 where
    pub value : S
    pub carried : m'.1 ≡ (0, Some value) ∷ []
    pub view : m'.0 ≡ holding m.0 (entries value)
    pub opening_is : opening value ≡ m.0.opening
    pub begins : BeginsWith (entries value) m.0.seen
    pub mine : exchanges m.0.number m.0.opening (entries value) ≡ m.0.mine

  -- an exchange of 0 for the seat's number won where it found 0, and else lost to another seat
  abbrev pub takes : Step (Option S) → Sat → ℕ → Sat → Type 0
  takes st m n m' = (n ≡ 0 → Took m m')
      × (n ≢ 0 → (m' ≡ (lost m.0 n, [])) × (n ≢ m.0.number) × (n ≤ 65535))

  -- an entry of the seat was counted
  abbrev pub adds : Step (Option S) → Sat → ℕ → Sat → Type 0
  adds st m n m' = (y : S) (e : Entry) → m.1 ≡ (0, Some y) ∷ [] → entries y ≡ m.0.found ++ e ∷ []
      → m' ≡ (wrote m.0 e, m.1)

  -- the turn and the slot were given back
  abbrev pub frees : Step (Option S) → Sat → ℕ → Sat → Type 0
  frees st m n m' = m' ≡ (freed m.0, [])

  -- the length of the history was read: it is no less than what the seat has seen, and than what it
  -- read before
  abbrev pub loads : Step (Option S) → Sat → ℕ → Sat → Type 0
  loads st m n m' = (m' ≡ (looked m.0 n, m.1)) × (length m.0.seen ≤ n) × (m.0.known ≤ n)
