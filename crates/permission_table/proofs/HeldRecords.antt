-- What tables hold, and the records that are kept of it.
use Rattle.std.proofs.Common.{◌≡◌, ℕ, List, [], ◌∷◌, ◌++◌, map, Bool, true, false, not, ◌&&◌, cond, refl, ap, arith}
use Rattle.std.specs.List.{All, IsDistinct, filter, list_all, list_any}
use Rattle.std.proofs.lemmas.List.{map-append}
use Rattle.std.proofs.lemmas.List.Elements.{All-cons, All-head, All-nil, All-tail}
use Rattle.portal_model.specs.Data.{is_data}
use Rattle.portal_model.specs.RecordChanges.{change_first, is_of_key, is_other_key, set_entry}
use Rattle.portal_model.specs.Rows.{are_rows}
use Rattle.portal_model.specs.Store.{Entries, can_be_told, is_entry_of, put_entry, record_of, without_entry}
use Rattle.portal_model.specs.Valid.{has_entry_texts, is_valid_entry, same_entry}
use Rattle.portal_model.specs.declared.records.EntryRecord.{EntryRecord}
use Rattle.portal_model.specs.declared.store.StoredEntry.{StoredEntry}
use Rattle.permission_table.specs.Tables.{AreEntries, IsHeld}
use Rattle.permission_table.proofs.RowLemmas.{both, left, right}

-- ---- what tables hold is valid

valid-one : (e : StoredEntry) → IsHeld e → is_valid_entry e ≡ true
valid-one e k = both (has_entry_texts e) (is_data e.datum && can_be_told e) k.sound.texts (both (is_data e.datum) (can_be_told e) k.sound.datum k.told)

all-valid : (entries : Entries) → All IsHeld entries → list_all is_valid_entry entries ≡ true
all-valid [] h = refl
all-valid (e ∷ es) h = both (is_valid_entry e) (list_all is_valid_entry es) (valid-one e (All-head IsHeld e es h)) (all-valid es (All-tail IsHeld e es h))

pub held-valid : (entries : Entries) → AreEntries entries → list_all is_valid_entry entries ≡ true
held-valid entries k = all-valid entries k.held

pub held-differ : (entries : Entries) → AreEntries entries → IsDistinct same_entry entries
held-differ entries k = k.differ

-- ---- what is valid may be held

one-held : (e : StoredEntry) → is_valid_entry e ≡ true → are_rows e.rows ≡ true → IsHeld e
one-held e valid rows =
    let rest : (is_data e.datum && can_be_told e) ≡ true = right (has_entry_texts e) (is_data e.datum && can_be_told e) valid in
    record {
      sound = record {
        rows = rows;
        texts = left (has_entry_texts e) (is_data e.datum && can_be_told e) valid;
        datum = left (is_data e.datum) (can_be_told e) rest;
      };
      told = right (is_data e.datum) (can_be_told e) rest;
    }

all-held : (entries : Entries) → list_all is_valid_entry entries ≡ true → list_all (λ e. are_rows e.rows) entries ≡ true → All IsHeld entries
all-held [] valid rows = All-nil IsHeld
all-held (e ∷ es) valid rows =
    let first : IsHeld e = one-held e (left (is_valid_entry e) (list_all is_valid_entry es) valid) (left (are_rows e.rows) (list_all (λ x. are_rows x.rows) es) rows) in
    All-cons IsHeld e es first (all-held es (right (is_valid_entry e) (list_all is_valid_entry es) valid) (right (are_rows e.rows) (list_all (λ x. are_rows x.rows) es) rows))

pub valid-held : (entries : Entries) → IsDistinct same_entry entries → list_all is_valid_entry entries ≡ true → list_all (λ e. are_rows e.rows) entries ≡ true → AreEntries entries
valid-held entries differ valid rows = record { differ = differ; held = all-held entries valid rows }

-- ---- they follow the entries

module _ (table id : List ℕ) where
  any-record : (entries : Entries) → list_any (is_of_key table id) (map record_of entries) ≡ list_any (is_entry_of table id) entries
  any-record [] = refl
  any-record (x ∷ xs) = grind (arith, any-record xs)

  change-record : (e : StoredEntry) (entries : Entries) → map record_of (change_first (is_entry_of table id) (λ _. e) entries) ≡ change_first (is_of_key table id) (λ _. record_of e) (map record_of entries)
  change-record e [] = refl
  change-record e (x ∷ xs) = step (is_entry_of table id x) (change-record e xs)
    where
      step : (b : Bool) → map record_of (change_first (is_entry_of table id) (λ _. e) xs) ≡ change_first (is_of_key table id) (λ _. record_of e) (map record_of xs)
          → map record_of (cond b (e ∷ xs) (x ∷ change_first (is_entry_of table id) (λ _. e) xs)) ≡ cond b (record_of e ∷ map record_of xs) (record_of x ∷ change_first (is_of_key table id) (λ _. record_of e) (map record_of xs))
      step true more = refl
      step false more = ap (λ (rs : List EntryRecord). record_of x ∷ rs) more

  pub gone-record : (entries : Entries) → map record_of (without_entry table id entries) ≡ filter (is_other_key table id) (map record_of entries)
  gone-record [] = refl
  gone-record (x ∷ xs) = step (is_entry_of table id x) (gone-record xs)
    where
      step : (b : Bool) → map record_of (without_entry table id xs) ≡ filter (is_other_key table id) (map record_of xs)
          → map record_of (cond (not b) (x ∷ without_entry table id xs) (without_entry table id xs)) ≡ cond (not b) (record_of x ∷ filter (is_other_key table id) (map record_of xs)) (filter (is_other_key table id) (map record_of xs))
      step true more = more
      step false more = ap (λ (rs : List EntryRecord). record_of x ∷ rs) more

pub put-record : (e : StoredEntry) (entries : Entries) → map record_of (put_entry e entries) ≡ set_entry (record_of e) (map record_of entries)
put-record e entries = step (list_any (is_entry_of e.table e.id) entries) (list_any (is_of_key e.table e.id) (map record_of entries)) (any-record e.table e.id entries)
  where
    step : (a b : Bool) → b ≡ a → map record_of (cond a (change_first (is_entry_of e.table e.id) (λ _. e) entries) (entries ++ e ∷ [])) ≡ cond b (change_first (is_of_key e.table e.id) (λ _. record_of e) (map record_of entries)) (map record_of entries ++ record_of e ∷ [])
    step true true s = change-record e.table e.id e entries
    step false false s = map-append record_of entries (e ∷ [])
    step true false s = cc
    step false true s = cc
