-- What keeps a history and is asked several times: what is said of each answer, of the value before
-- it and of the value after it, and what the refusal of a request may do.
use Rattle.std.specs.Prelude.{◌≡◌, ◌+◌, ℕ, List, [], ◌∷◌, Result, Ok, Err}
use Rattle.portal_model.specs.declared.entry.Entry.{Entry}
use Rattle.portal_model.specs.declared.request.Request.{Request}

-- the entries among what was asked, where the others are the requests that were refused
abbrev pub answered : List (Result Entry Request) → List Entry
answered [] = []
answered (Err request ∷ asked) = answered asked
answered (Ok e ∷ asked) = e ∷ answered asked

-- how many refusals there are among it
abbrev pub refused : List (Result Entry Request) → ℕ
refused [] = 0
refused (Err request ∷ asked) = refused asked + 1
refused (Ok e ∷ asked) = refused asked

module _ {S : Type 0} (says : S → Entry → S → Type 0) (spends : S → Request → S → Type 0) where
  -- from the one value to the other, through what was asked in between
  abbrev pub Chain : S → List (Result Entry Request) → S → Type 0
  Chain a [] b = b ≡ a
  Chain a (Err request ∷ asked) b = (m : S) × spends a request m × Chain m asked b
  Chain a (Ok e ∷ asked) b = (m : S) × says a e m × Chain m asked b
