-- Which records may be kept: what each of them keeps by itself. The terms are those of the
-- documentation of org.freedesktop.impl.portal.PermissionStore, where an entry is of a table and an
-- identifier.
use Rattle.std.specs.Prelude.{◌≡◌, ℕ, ◌≤◌, false, true, Bool, ◌&&◌, List, [], ◌∷◌, map, All}
use Rattle.std.specs.List.{list_all, list_any}
use Rattle.std.specs.Cmp.Lexicographic.{slice_cmp}
use Rattle.std.specs.Ordering.{nat_cmp}
use Rattle.std.specs.declared.cmp.Ordering.TheVariants.{Less}
use Rattle.dbus_types.specs.declared.types.Value.{Value}
use Rattle.portal_base.specs.Names.{is_app_name, is_host_path, is_same}
use Rattle.portal_model.specs.Changed.{HasDatum}
use Rattle.portal_model.specs.State.{is_none}
use Rattle.portal_model.specs.StoreRequest.{own_table}
use Rattle.portal_model.specs.Valid.{has_texts, is_text}
use Rattle.portal_model.specs.declared.records.DocRecord.{DocRecord}
use Rattle.portal_model.specs.declared.records.EntryRecord.{EntryRecord}
use Rattle.portal_model.specs.declared.records.GrantRecord.{GrantRecord}
use Rattle.portal_model.specs.declared.records.Row.{Row}

-- each name stands behind the one before it, in the order of their bytes
abbrev pub IsRising : List (List ℕ) → Type 0
IsRising [] = Unit {0}
IsRising (name ∷ []) = Unit {0}
IsRising (name ∷ next ∷ names) = (slice_cmp nat_cmp name next ≡ Less) × IsRising (next ∷ names)

-- ---- documents

-- a name of an application, and at least one of the four rights
pub record IsGrant (grant : GrantRecord) : Type 0 where
  pub name : is_app_name grant.app ≡ true
  pub some_right : 1 ≤ grant.rights
  pub no_other : grant.rights ≤ 15

-- a path on the host, and the rights of applications whose names rise
pub record IsSoundDocument (document : DocRecord) : Type 0 where
  pub path : is_host_path document.path ≡ true
  pub grants : All IsGrant document.grants
  pub rising : IsRising (map (λ grant. grant.app) document.grants)

-- ---- entries

abbrev pub is_empty_row : Row → Bool
is_empty_row row = is_none row.names

abbrev pub has_entry_texts : EntryRecord → Bool
has_entry_texts e = is_text e.table && (is_text e.id && list_all has_texts e.rows)

-- The texts of the entry have no zero byte, and its data is a variant that keeps the rules of types
-- and values, holds no handle, and can be told in a message.
pub record IsValidEntry (e : EntryRecord) : Type 0 where
  pub texts : has_entry_texts e ≡ true
  pub told : (datum : Value) × HasDatum e datum

-- an entry that a portal may hold, with rows in the order of their applications' keys and none of
-- them empty, and not of the portal's own table
pub record IsSoundEntry (entry : EntryRecord) : Type 0 where
  pub valid : IsValidEntry entry
  pub table : is_same entry.table own_table ≡ false
  pub some : list_any is_empty_row entry.rows ≡ false
  pub rising : IsRising (map (λ row. row.app) entry.rows)
