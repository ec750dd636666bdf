-- What the places that entries are looked up by have to do with the list of entries.
use Rattle.std.specs.Prelude.{◌≡◌, ℕ, nat_lt, List, [], ◌∷◌, length, Bool, true, ◌&&◌, cond, Option, Some, None, String}
use Rattle.std.specs.BTreeMap.{BTreeMap, get_by_text}
use Rattle.portal_base.specs.Names.{is_same}
use Rattle.portal_model.specs.declared.store.StoredEntry.{StoredEntry}
use Rattle.portal_model.specs.Ordered.{is_rising}
use Rattle.portal_model.specs.Store.{Entries, is_entry_of}

-- identifiers of a table with their places
abbrev pub place_of_id : {X : Type 0} → Option (BTreeMap (String X) ℕ) → List ℕ → Option ℕ
place_of_id None id = None
place_of_id (Some ids) id = get_by_text ids id

module _ {X Y : Type 0} where
  -- the place that a table and an identifier have
  abbrev pub place_in : BTreeMap (String Y) (BTreeMap (String X) ℕ) → List ℕ → List ℕ → Option ℕ
  place_in tables table id = place_of_id (get_by_text tables table) id

  -- a table and an identifier have this place from now on, and all others keep theirs
  abbrev pub Places : List ℕ → List ℕ → Option ℕ → BTreeMap (String Y) (BTreeMap (String X) ℕ)
      → BTreeMap (String Y) (BTreeMap (String X) ℕ) → Type 0
  Places table id place old new = (t i : List ℕ)
      → place_in new t i ≡ cond (is_same table t && is_same id i) place (place_in old t i)

  abbrev pub KeepPlaces : BTreeMap (String Y) (BTreeMap (String X) ℕ)
      → BTreeMap (String Y) (BTreeMap (String X) ℕ) → Type 0
  KeepPlaces old new = (t i : List ℕ) → place_in new t i ≡ place_in old t i

-- the place beside the first entry that passes a test
abbrev pub place_beside : (StoredEntry → Bool) → Entries → List ℕ → Option ℕ
place_beside test [] places = None
place_beside test (e ∷ es) [] = None
place_beside test (e ∷ es) (p ∷ ps) = cond (test e) (Some p) (place_beside test es ps)

pub record IsIndexed {X Y : Type 0} (entries : Entries) (places : List ℕ)
    (tables : BTreeMap (String Y) (BTreeMap (String X) ℕ)) : Type 0 where
  -- each entry has a place beside it, and places rise with creation
  pub beside : length places ≡ length entries
  pub rises : is_rising nat_lt places ≡ true
  -- a table and an identifier have the place of their entry
  pub same : (table id : List ℕ)
      → place_in tables table id ≡ place_beside (is_entry_of table id) entries places
