-- The bytes of calls of the permission store.
use Rattle.std.proofs.Common.{◌≡◌, ℕ, ◌+◌, ◌-◌, ◌^◌, min, List, [], ◌∷◌, length, Bool, refl, sym, ap, ◌∙◌, arith}
use Rattle.std.specs.List.{flat_map, sum_by}
use Rattle.std.proofs.lemmas.List.Sums.{sum_by-append, sum_by-cons}
use Rattle.dbus_types.specs.declared.types.Value.{Value}
use Rattle.portal_model.specs.declared.records.Row.{Row}
use Rattle.portal_model.specs.declared.store.StoreCall.{StoreCall}
use Rattle.portal_model.specs.declared.store.StoreCall.TheVariants as Call
use Rattle.portal_model.specs.Data.{data_bytes}
use Rattle.portal_model.specs.History.{store_bytes, texts_bytes}
use Rattle.portal_model.specs.StoreRequest.{texts_of_row}
use Rattle.portal_history.specs.Rows.{row_bytes}

abbrev size : List ℕ → ℕ
size text = length text

-- the texts of rows, row by row
rows-texts : (rows : List Row) → texts_bytes (flat_map texts_of_row rows) ≡ sum_by row_bytes rows
rows-texts [] = refl
rows-texts (row ∷ rows) = omega (
  arith,
  sum_by-append size (texts_of_row row) (flat_map texts_of_row rows),
  sum_by-cons size row.app row.names,
  sum_by-cons row_bytes row rows,
  rows-texts rows,
)

pub set-bytes : (table id : List ℕ) (create : Bool) (rows : List Row) (datum : Value) → store_bytes (Call.Set table create id rows datum) ≡ (length table + length id) + (sum_by row_bytes rows + data_bytes datum)
set-bytes table id create rows datum =
    let texts : List (List ℕ) = flat_map texts_of_row rows in
    omega (arith, sum_by-cons size table (id ∷ texts), sum_by-cons size id texts, rows-texts rows)

pub permission-bytes : (table id app : List ℕ) (create : Bool) (names : List (List ℕ)) → store_bytes (Call.SetPermission table create id app names) ≡ (length table + length id) + (length app + texts_bytes names)
permission-bytes table id app create names =
    omega (arith, sum_by-cons size table (id ∷ app ∷ names), sum_by-cons size id (app ∷ names), sum_by-cons size app names)

-- what a call of so many bytes counts
counted : (call other : StoreCall) (n r : ℕ) → call ≡ other → store_bytes other ≡ n → r ≡ min n (2 ^ 64 - 1) → r ≡ min (store_bytes call) (2 ^ 64 - 1)
counted call other n r is long e = e ∙ ap (λ (m : ℕ). min m (2 ^ 64 - 1)) (sym long ∙ ap (λ (c : StoreCall). store_bytes c) (sym is))

pub set-counted : (call : StoreCall) (table id : List ℕ) (create : Bool) (rows : List Row) (datum : Value) (r : ℕ) → call ≡ Call.Set table create id rows datum → r ≡ min ((length table + length id) + (sum_by row_bytes rows + data_bytes datum)) (2 ^ 64 - 1) → r ≡ min (store_bytes call) (2 ^ 64 - 1)
set-counted call table id create rows datum r is e = counted call (Call.Set table create id rows datum) _ r is (set-bytes table id create rows datum) e

pub permission-counted : (call : StoreCall) (table id app : List ℕ) (create : Bool) (names : List (List ℕ)) (r : ℕ) → call ≡ Call.SetPermission table create id app names → r ≡ min ((length table + length id) + (length app + texts_bytes names)) (2 ^ 64 - 1) → r ≡ min (store_bytes call) (2 ^ 64 - 1)
permission-counted call table id app create names r is e = counted call (Call.SetPermission table create id app names) _ r is (permission-bytes table id app create names) e
