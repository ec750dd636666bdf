-- At the nodes of roots, of the folder of all views and of documents' folders there is a folder.
use Rattle.std.proofs.Common.{◌≡◌, ◌==◌, ◌&&◌, ℕ, zero, suc, Bool, true, false, nat_lt, cond, Option, Some, None, IfSome, refl, sym, subst, arith}
use Rattle.std.proofs.lemmas.Bool.Decides.{nat_tests}
use Rattle.portal_model.specs.declared.place.Place.{Place}
use Rattle.portal_model.specs.NodeNumbers.{id_of_node, kind_of_node, view_of_node}
use Rattle.portal_model.specs.Place.{place_named, place_of_parts}
use Rattle.app_view.specs.Places.{is_folder_place}
use Rattle.node_looks.specs.Sights.{is_below}
use Rattle.node_looks.specs.declared.sight.SeenPlace.{SeenPlace}

abbrev AreFolders : Option Place → Type 0
AreFolders o = IfSome o (λ p. is_folder_place p ≡ true)

top : (view : ℕ) (a b : Bool) → AreFolders (cond a (Some (Place.Root view)) (cond b (Some Place.ByApp) None))
top view true b = refl
top view false true = refl
top view false false = tt

low : (view kind id : ℕ) → nat_lt kind 2 ≡ true → AreFolders (place_of_parts view kind id)
low view zero id k = top view (id == 1) (id == 2 && view == 0)
low view (suc zero) id k = refl
low view (suc (suc kind)) id k = absurd (grind (arith, nat_tests))

low-is-folder : (node : ℕ) (p : Place) → Some p ≡ place_named node → nat_lt (kind_of_node node) 2 ≡ true → is_folder_place p ≡ true
low-is-folder node p e k = subst AreFolders (sym e) (low (view_of_node node) (kind_of_node node) (id_of_node node) k)

pub low-plain : (node : ℕ) (p : Place) (o : Option SeenPlace) → Some p ≡ place_named node → IfSome o (λ seen. is_folder_place p ≡ true → is_below seen ≡ false) →
    IfSome o (λ seen. nat_lt (kind_of_node node) 2 ≡ true → is_below seen ≡ false)
low-plain node p None e h = tt
low-plain node p (Some seen) e h = λ k. h (low-is-folder node p e k)
