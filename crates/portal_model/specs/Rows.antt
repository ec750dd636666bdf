-- The rows of an entry of the permission store: the permissions of each application, as the
-- documentation of org.freedesktop.impl.portal.PermissionStore has them. That an empty list stores
-- no row, and the order of rows, are this project's own.
use Rattle.std.specs.Prelude.{ℕ, List, [], Bool, not, ◌&&◌, Option, Some, None, reverse}
use Rattle.std.specs.List.{filter, find, list_all}
use Rattle.portal_base.specs.Names.{is_same}
use Rattle.portal_model.specs.declared.records.Row.{Row}
use Rattle.portal_model.specs.Ordered.{bytes_less, put, put_all, is_rising}
use Rattle.portal_model.specs.State.{is_none}

abbrev pub is_row_of : List ℕ → Row → Bool
is_row_of app row = is_same row.app app

-- in byte order of the applications' keys
abbrev pub row_less : Row → Row → Bool
row_less a b = bytes_less a.app b.app

abbrev pub has_names : Row → Bool
has_names row = not (is_none row.names)

-- what every entry keeps: its rows stand in order, one for each application, and none is empty
abbrev pub are_rows : List Row → Bool
are_rows rows = is_rising row_less rows && list_all has_names rows

-- The rows that are stored of those that a call brings, in byte order of the applications' keys. Of
-- two for one application the last stands; then a row without permissions isn't stored.
abbrev pub stored_rows : List Row → List Row
stored_rows rows = filter has_names (put_all row_less (reverse rows))

-- the row of one application replaced; an empty list stores no row
abbrev pub with_row : Row → List Row → List Row
with_row row rows = filter has_names (put row_less row rows)

abbrev pub without_row : List ℕ → List Row → List Row
without_row app rows = filter (λ row. not (is_row_of app row)) rows

abbrev pub row_of : List Row → List ℕ → Option Row
row_of rows app = find (is_row_of app) rows

abbrev pub names_of_row : Option Row → List (List ℕ)
names_of_row None = []
names_of_row (Some row) = row.names

-- the permissions of an application, which has none where it has no row
abbrev pub permissions_of : List Row → List ℕ → List (List ℕ)
permissions_of rows app = names_of_row (row_of rows app)
