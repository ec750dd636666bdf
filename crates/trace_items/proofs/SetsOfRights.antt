-- Sets of rights, by what is in them.
use Rattle.std.proofs.Common.{◌≡◌, ℕ, List, Bool, true, false, not, ◌&&◌, cond, refl}
use Rattle.rights_rule.specs.Rights.{RightSet, union, minus, no_rights, is_listed, rights_named, read_name, write_name, grant_permissions_name, delete_name}
use Rattle.app_world.specs.Revoke.{common}

both : (a b : Bool) → (a && not (a && not b)) ≡ (a && b)
both true true = refl
both true false = refl
both false b = refl

pub minus-twice : (a b : RightSet) → minus a (minus a b) ≡ common a b
minus-twice a b = λ i. record {
  read = both a.read b.read i;
  write = both a.write b.write i;
  grant_permissions = both a.grant_permissions b.grant_permissions i;
  delete = both a.delete b.delete i;
}

abbrev pub read_alone : RightSet
read_alone = record { read = true; write = false; grant_permissions = false; delete = false }

abbrev pub write_alone : RightSet
write_alone = record { read = false; write = true; grant_permissions = false; delete = false }

abbrev pub grant_alone : RightSet
grant_alone = record { read = false; write = false; grant_permissions = true; delete = false }

abbrev pub delete_alone : RightSet
delete_alone = record { read = false; write = false; grant_permissions = false; delete = true }

abbrev pub these : Bool → Bool → Bool → Bool → RightSet
these r w g d = union (union (union (cond r read_alone no_rights) (cond w write_alone no_rights)) (cond g grant_alone no_rights)) (cond d delete_alone no_rights)

these-are : (r w g d : Bool) → these r w g d ≡ record { read = r; write = w; grant_permissions = g; delete = d }
these-are true true true true = refl
these-are true true true false = refl
these-are true true false true = refl
these-are true true false false = refl
these-are true false true true = refl
these-are true false true false = refl
these-are true false false true = refl
these-are true false false false = refl
these-are false true true true = refl
these-are false true true false = refl
these-are false true false true = refl
these-are false true false false = refl
these-are false false true true = refl
these-are false false true false = refl
these-are false false false true = refl
these-are false false false false = refl

pub these-named : (names : List (List ℕ)) → these (is_listed read_name names) (is_listed write_name names) (is_listed grant_permissions_name names) (is_listed delete_name names) ≡ rights_named names
these-named names = these-are (is_listed read_name names) (is_listed write_name names) (is_listed grant_permissions_name names) (is_listed delete_name names)
