-- The names of a map by name.
use Rattle.std.specs.Prelude.{ℕ, List, map, Bool}
use Rattle.portal_base.specs.declared.files.ChildName.{ChildName}

abbrev pub child_of_entry : List ℕ × Bool → ChildName
child_of_entry e = record { name = e.0; folder = e.1 }

abbrev pub children_of : List (List ℕ × Bool) → List ChildName
children_of entries = map child_of_entry entries
