-- What a name finds in a map by the bytes of names, once the value of one name has changed.
use Rattle.std.proofs.Common.{◌≡◌, ℕ, List, Bool, true, false, cond, Option, refl, sym, ap, ◌∙◌}
use Rattle.std.specs.BTreeMap.{BTreeMap, UpdatesBy, get_by, is_at}
use Rattle.std.specs.Cmp.Lexicographic.{slice_cmp}
use Rattle.std.specs.Global.{Vec}
use Rattle.std.specs.Map.{KeepsOthers, AreApart}
use Rattle.std.specs.Ordering.{nat_cmp, eq_by_cmp, is_eq}
use Rattle.std.specs.declared.cmp.Ordering.{Ordering}
use Rattle.std.proofs.lemmas.Map.Text.{is_eq-slice_cmp}
use Rattle.portal_base.specs.Names.{is_same}
use Rattle.portal_model.proofs.TripleOrder.{is_same-eq, is_same-sym}

abbrev pub by_text : List ℕ → Vec ℕ → Ordering
by_text text key = slice_cmp nat_cmp text key.items

abbrev pub by_items : Vec ℕ → Vec ℕ → Ordering
by_items key = by_text key.items

-- a key that a text finds has the bytes of the text
found-key : (text : List ℕ) (key : Vec ℕ) → is_at (by_text text) key ≡ true → text ≡ key.items
found-key text key h = is_same-eq text key.items (sym (is_eq-slice_cmp text key.items) ∙ h)

key-test : (text : List ℕ) (x y : Vec ℕ) → is_at (by_text text) x ≡ true →
    is_at (by_text text) y ≡ eq_by_cmp by_items x y
key-test text x y h = ap (λ (t : List ℕ). is_eq (slice_cmp nat_cmp t y.items)) (found-key text x h)

apart : (a b : List ℕ) → is_same a b ≡ false → AreApart (is_at (by_text a)) (is_at (by_text b))
apart a b e = λ (key : Vec ℕ) h. is_eq-slice_cmp b key.items
    ∙ (ap (is_same b) (sym (found-key a key h)) ∙ (is_same-sym b a ∙ e))

module _ {X : Type 0} (name : List ℕ) (old new : BTreeMap (Vec ℕ) X) (w : Option X) where
  pub found-after : UpdatesBy by_items (by_text name) old new w → (other : List ℕ) →
      get_by (by_text other) new ≡ cond (is_same name other) w (get_by (by_text other) old)
  unfolding KeepsOthers
  found-after u other = step (is_same name other) refl
    where
      step : (b : Bool) → is_same name other ≡ b →
          get_by (by_text other) new ≡ cond b w (get_by (by_text other) old)
      step true e = ap (λ (text : List ℕ). get_by (by_text text) new)
          (sym (is_same-eq name other e)) ∙ u.1
      step false e = u.3 (is_at (by_text other)) (key-test other) (apart name other e)
