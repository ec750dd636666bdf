-- The permissions that an application may have in a document. Source: XDG Desktop Portal
-- documentation, org.freedesktop.portal.Documents, GrantPermissions: "Possible values are 'read',
-- 'write', 'grant-permissions' and 'delete'".
use Rattle.std.specs.Prelude.{◌≡◌, ℕ, ◌++◌, List, [], ◌∷◌, take, min, slice_get, Some, codes, Bool, true, false, not, ◌&&◌, ◌||◌, cond}
use Rattle.std.specs.List.{list_any, list_all}
use Rattle.portal_base.specs.Names.{is_same}

-- a set of the four
pub record RightSet : Type 0 where
  pub read : Bool
  pub write : Bool
  pub grant_permissions : Bool
  pub delete : Bool

abbrev pub no_rights : RightSet
no_rights = record { read = false; write = false; grant_permissions = false; delete = false }

abbrev pub all_rights : RightSet
all_rights = record { read = true; write = true; grant_permissions = true; delete = true }

-- what is in one of two sets
abbrev pub union : RightSet → RightSet → RightSet
union a b = record {
  read = a.read || b.read;
  write = a.write || b.write;
  grant_permissions = a.grant_permissions || b.grant_permissions;
  delete = a.delete || b.delete;
}

-- what is in the first set and not in the second
abbrev pub minus : RightSet → RightSet → RightSet
minus a b = record {
  read = a.read && not b.read;
  write = a.write && not b.write;
  grant_permissions = a.grant_permissions && not b.grant_permissions;
  delete = a.delete && not b.delete;
}

abbrev pub holds_any : RightSet → Bool
holds_any a = a.read || (a.write || (a.grant_permissions || a.delete))

abbrev pub is_no_right : RightSet → Bool
is_no_right a = not (holds_any a)

-- each right of the second set is in the first
abbrev pub contains : RightSet → RightSet → Bool
contains a b = (not b.read || a.read)
    && ((not b.write || a.write)
    && ((not b.grant_permissions || a.grant_permissions) && (not b.delete || a.delete)))

-- ---- names

abbrev pub read_name : List ℕ
read_name = codes "read"

abbrev pub write_name : List ℕ
write_name = codes "write"

abbrev pub grant_permissions_name : List ℕ
grant_permissions_name = codes "grant-permissions"

abbrev pub delete_name : List ℕ
delete_name = codes "delete"

abbrev pub is_right_name : List ℕ → Bool
is_right_name t = is_same t read_name
    || (is_same t write_name || (is_same t grant_permissions_name || is_same t delete_name))

-- the right of that name, or no right
abbrev pub right_named : List ℕ → RightSet
right_named t = record {
  read = is_same t read_name;
  write = is_same t write_name;
  grant_permissions = is_same t grant_permissions_name;
  delete = is_same t delete_name;
}

abbrev pub is_listed : List ℕ → List (List ℕ) → Bool
is_listed name names = list_any (λ t. is_same t name) names

-- the rights whose names stand in a list
abbrev pub rights_named : List (List ℕ) → RightSet
rights_named names = record {
  read = is_listed read_name names;
  write = is_listed write_name names;
  grant_permissions = is_listed grant_permissions_name names;
  delete = is_listed delete_name names;
}

abbrev pub are_right_names : List (List ℕ) → Bool
are_right_names names = list_all is_right_name names

-- the first text of the list that names no right stands at this place
pub record IsFirstUnknown (names : List (List ℕ)) (at : ℕ) : Type 0 where
  pub text : List ℕ
  pub here : slice_get names at ≡ Some text
  pub unknown : is_right_name text ≡ false
  pub before : are_right_names (take at names) ≡ true

-- the place as a number of 32 bits, which stops at the greatest
abbrev pub told_place : ℕ → ℕ
told_place at = min at 4294967295

abbrev pub name_if : Bool → List ℕ → List (List ℕ)
name_if b name = cond b (name ∷ []) []

-- the names of the rights, always in this order
abbrev pub names_of : RightSet → List (List ℕ)
names_of a = name_if a.read read_name
    ++ (name_if a.write write_name
    ++ (name_if a.grant_permissions grant_permissions_name ++ name_if a.delete delete_name))
