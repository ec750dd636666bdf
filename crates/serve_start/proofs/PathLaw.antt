-- A socket's path tells whose it is, and what it speaks.
use Rattle.std.proofs.Common.{◌≡◌, ℕ, List, ◌++◌, reverse, refl, ap, sym, ◌∙◌, arith}
use Rattle.std.specs.Prelude.{codes, slice_index}
use Rattle.std.proofs.lemmas.List.{append_cancel_left, append_cancel_right, reverse-append}
use Rattle.portal_base.specs.declared.who.Who.{Who}
use Rattle.portal_base.specs.declared.who.Who.TheVariants.{Host, App}
use Rattle.portal_base.specs.declared.who.Kind.{Kind}
use Rattle.portal_base.specs.declared.who.Kind.TheVariants.{Bus, Mount}
use Rattle.serve_start.specs.Sockets.{PathsTell, kind_name, who_name}

names_tell : (w v : Who) → who_name w ≡ who_name v → w ≡ v
names_tell Host Host e = refl
names_tell Host (App b) e = let bad : 104 ≡ 97 = ap (λ t. slice_index t 0) e in absurd (omega (arith, bad))
names_tell (App a) Host e = let bad : 97 ≡ 104 = ap (λ t. slice_index t 0) e in absurd (omega (arith, bad))
names_tell (App a) (App b) e = ap App (append_cancel_left (codes "app.") a b e)

ends_differ : (x y : List ℕ) → x ++ codes ".bus" ≡ y ++ codes ".mount" → ⊥
ends_differ x y e =
    let turned : reverse (codes ".bus") ++ reverse x ≡ reverse (codes ".mount") ++ reverse y =
    sym (reverse-append x (codes ".bus")) ∙ ap reverse e ∙ reverse-append y (codes ".mount") in
    let bad : 115 ≡ 116 = ap (λ t. slice_index t 0) turned in omega (arith, bad)

tell : (w v : Who) (k l : Kind) → who_name w ++ kind_name k ≡ who_name v ++ kind_name l
    → (w ≡ v) × (k ≡ l)
tell w v Bus Bus e = (names_tell w v (append_cancel_right (who_name w) (who_name v) (codes ".bus") e), refl)
tell w v Bus Mount e = absurd (ends_differ (who_name w) (who_name v) e)
tell w v Mount Bus e = absurd (ends_differ (who_name v) (who_name w) (sym e))
tell w v Mount Mount e = (names_tell w v (append_cancel_right (who_name w) (who_name v) (codes ".mount") e), refl)

pub paths-tell : PathsTell
paths-tell folder w v k l e =
    let inside = append_cancel_left folder _ _ e in
    tell w v k l (append_cancel_left (codes "/") _ _ inside)
