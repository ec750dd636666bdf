-- The nodes below which nothing is are those of folders that aren't exported.
use Rattle.std.proofs.Common.{◌≡◌, ◌==◌, ◌&&◌, ℕ, zero, suc, Bool, true, false, nat_lt, cond, not, Option, Some, None, IfSome, refl, sym, subst, arith}
use Rattle.std.proofs.lemmas.Bool.Decides.{nat_tests}
use Rattle.portal_model.specs.declared.place.Place.{Place}
use Rattle.portal_model.specs.NodeNumbers.{id_of_node, kind_of_node, view_of_node}
use Rattle.portal_model.specs.Place.{place_named, place_of_parts}
use Rattle.app_view.specs.Places.{is_folder_place}
use Rattle.file_ops.specs.Wanting.{may_be_below}

abbrev AreFolders : Option Place → Type 0
AreFolders o = IfSome o (λ p. is_folder_place p ≡ true)

top : (view : ℕ) (a b : Bool) → AreFolders (cond a (Some (Place.Root view)) (cond b (Some Place.ByApp) None))
top view true b = refl
top view false true = refl
top view false false = tt

low : (view kind id : ℕ) → nat_lt kind 2 ≡ true → AreFolders (place_of_parts view kind id)
low view zero id k = top view (id == 1) (id == 2 && view == 0)
low view (suc zero) id k = refl
low view (suc (suc kind)) id k = absurd (grind (arith, nat_tests))

is-low : (b : Bool) → not b ≡ false → b ≡ true
is-low true e = refl
is-low false e = cc

pub low-is-folder : (node : ℕ) (p : Place) → Some p ≡ place_named node → may_be_below node ≡ false → is_folder_place p ≡ true
low-is-folder node p e plain =
    subst AreFolders (sym e) (low (view_of_node node) (kind_of_node node) (id_of_node node) (is-low (nat_lt (kind_of_node node) 2) plain))
