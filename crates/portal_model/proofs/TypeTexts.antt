-- Two types of one text are one type.
use Rattle.std.proofs.Common.{◌≡◌, ℕ, ◌==◌, List, [], ◌∷◌, ◌++◌, map, false, Ok, inl, inr, refl, sym, ap, subst, ◌∙◌, arith}
use Rattle.std.proofs.lemmas.Bool.Decides.{nat_tests}
use Rattle.std.proofs.lemmas.List.{append_assoc, append-nil}
use Rattle.dbus_types.specs.declared.types.WireType.{WireType, out-WireType, roll-WireType, the_lemmas}
use Rattle.dbus_types.specs.declared.types.WireType.TheFolds.{ind-WireType, map-WireType}
use Rattle.dbus_types.specs.declared.types.WireType.TheOpen.{WireType-F}
use Rattle.dbus_types.specs.declared.types.WireType.TheVariants as W
use Rattle.dbus_types.specs.Reading.{coded}
use Rattle.dbus_types.specs.Types.{type_text, types_text}
use Rattle.dbus_types.proofs.Codes.{Code, Shape, shape}
use Rattle.dbus_types.proofs.TypeLayers.{rolls_array, rolls_entry, rolls_struct, text_array, text_entry, text_struct}

-- what a text begins with, and what stands behind it, tell the type
abbrev Once : WireType → Type 0
Once a = (b : WireType) (r q : List ℕ) → type_text a ++ r ≡ type_text b ++ q → (a ≡ b) × (r ≡ q)

abbrev Such : Type 0
Such = (a : WireType) × Once a

other_code : (c d : ℕ) (r q : List ℕ) → (c == d) ≡ false → c ∷ r ≡ d ∷ q → ⊥
other_code c d r q n e = let same : c ≡ d = cc in grind (arith, nat_tests)

-- the texts at the head of a list, of each shape
code_text : (a : WireType) (c : ℕ) (r : List ℕ) → Code a c → type_text a ++ r ≡ c ∷ r
code_text a c r k = ap (λ (t : List ℕ). t ++ r) k.text

array_text : (a u : WireType) (r : List ℕ) → a ≡ W.Array u → type_text a ++ r ≡ 97 ∷ (type_text u ++ r)
array_text a u r e = ap (λ (t : WireType). type_text t ++ r) e ∙ ap (λ (t : List ℕ). t ++ r) (text_array u)

struct_text : (a : WireType) (us : List WireType) (r : List ℕ) → a ≡ W.Struct us → type_text a ++ r ≡ 40 ∷ (types_text us ++ 41 ∷ r)
struct_text a us r e =
    ap (λ (t : WireType). type_text t ++ r) e ∙ (ap (λ (t : List ℕ). t ++ r) (text_struct us) ∙ ap (λ (t : List ℕ). 40 ∷ t) (append_assoc (types_text us) (41 ∷ []) r))

entry_text : (a k v : WireType) (r : List ℕ) → a ≡ W.DictEntry k v → type_text a ++ r ≡ 123 ∷ (type_text k ++ (type_text v ++ 125 ∷ r))
entry_text a k v r e =
    ap (λ (t : WireType). type_text t ++ r) e
    ∙ (ap (λ (t : List ℕ). t ++ r) (text_entry k v)
    ∙ (ap (λ (t : List ℕ). 123 ∷ t) (append_assoc (type_text k) (type_text v ++ 125 ∷ []) r)
    ∙ ap (λ (t : List ℕ). 123 ∷ (type_text k ++ t)) (append_assoc (type_text v) (125 ∷ []) r)))

-- no text begins with the end of a struct
no_end : (b : WireType) (r q : List ℕ) → 41 ∷ r ≡ type_text b ++ q → ⊥
no_end b r q e = by_shape (shape b)
  where
    by_shape : Shape b → ⊥
    by_shape (inl k) = other_code k.0 41 q r k.1.no_close (sym (e ∙ code_text b k.0 q k.1))
    by_shape (inr (inl k)) = other_code 41 97 r (type_text k.0 ++ q) refl (e ∙ array_text b k.0 q k.1)
    by_shape (inr (inr (inl k))) = other_code 41 40 r (types_text k.0 ++ 41 ∷ q) refl (e ∙ struct_text b k.0 q k.1)
    by_shape (inr (inr (inr k))) = other_code 41 123 r (type_text k.0 ++ (type_text k.1 ++ 125 ∷ q)) refl (e ∙ entry_text b k.0 k.1 q k.2)

same_rest : (a b : ℕ) (r q : List ℕ) → a ∷ r ≡ b ∷ q → r ≡ q
same_rest a b r q e = cc

code_once : (a : WireType) (c : ℕ) → Code a c → Once a
code_once a c k b r q e = by_shape (shape b)
  where
    head : c ∷ r ≡ type_text b ++ q
    head = sym (code_text a c r k) ∙ e

    by_shape : Shape b → (a ≡ b) × (r ≡ q)
    by_shape (inl m) =
        let both : c ∷ r ≡ m.0 ∷ q = head ∙ code_text b m.0 q m.1 in
        let same : c ≡ m.0 = cc in
        let read : Ok a ≡ Ok b = sym (k.read 0) ∙ (ap (coded 0) same ∙ m.1.read 0) in
        (cc, same_rest c m.0 r q both)
    by_shape (inr (inl m)) = absurd (other_code c 97 r (type_text m.0 ++ q) k.no_array (head ∙ array_text b m.0 q m.1))
    by_shape (inr (inr (inl m))) = absurd (other_code c 40 r (types_text m.0 ++ 41 ∷ q) k.no_struct (head ∙ struct_text b m.0 q m.1))
    by_shape (inr (inr (inr m))) = absurd (other_code c 123 r (type_text m.0 ++ (type_text m.1 ++ 125 ∷ q)) k.no_entry (head ∙ entry_text b m.0 m.1 q m.2))

array_once : (u : WireType) → Once u → Once (W.Array u)
array_once u h b r q e = by_shape (shape b)
  where
    head : 97 ∷ (type_text u ++ r) ≡ type_text b ++ q
    head = sym (array_text (W.Array u) u r refl) ∙ e

    by_shape : Shape b → (W.Array u ≡ b) × (r ≡ q)
    by_shape (inl m) = absurd (other_code m.0 97 q (type_text u ++ r) m.1.no_array (sym (head ∙ code_text b m.0 q m.1)))
    by_shape (inr (inl m)) =
        let one = h m.0 r q (same_rest 97 97 (type_text u ++ r) (type_text m.0 ++ q) (head ∙ array_text b m.0 q m.1)) in
        (ap (λ (t : WireType). W.Array t) one.0 ∙ sym m.1, one.1)
    by_shape (inr (inr (inl m))) = absurd (other_code 97 40 (type_text u ++ r) (types_text m.0 ++ 41 ∷ q) refl (head ∙ struct_text b m.0 q m.1))
    by_shape (inr (inr (inr m))) = absurd (other_code 97 123 (type_text u ++ r) (type_text m.0 ++ (type_text m.1 ++ 125 ∷ q)) refl (head ∙ entry_text b m.0 m.1 q m.2))

members_once : (us : List Such) (ws : List WireType) (r q : List ℕ) → types_text (map (λ u. u.0) us) ++ 41 ∷ r ≡ types_text ws ++ 41 ∷ q → (map (λ u. u.0) us ≡ ws) × (r ≡ q)
members_once [] [] r q e = (refl, same_rest 41 41 r q e)
members_once [] (w ∷ ws) r q e = absurd (no_end w r (types_text ws ++ 41 ∷ q) (e ∙ append_assoc (type_text w) (types_text ws) (41 ∷ q)))
members_once (u ∷ us) [] r q e = absurd (no_end u.0 q (types_text (map (λ x. x.0) us) ++ 41 ∷ r) (sym e ∙ append_assoc (type_text u.0) (types_text (map (λ x. x.0) us)) (41 ∷ r)))
members_once (u ∷ us) (w ∷ ws) r q e =
    let rest : List ℕ = types_text (map (λ x. x.0) us) ++ 41 ∷ r in
    let more : List ℕ = types_text ws ++ 41 ∷ q in
    let one = u.1 w rest more (sym (append_assoc (type_text u.0) (types_text (map (λ x. x.0) us)) (41 ∷ r)) ∙ (e ∙ append_assoc (type_text w) (types_text ws) (41 ∷ q))) in
    let others = members_once us ws r q one.1 in
    (λ i. one.0 i ∷ others.0 i, others.1)

struct_once : (us : List Such) → Once (W.Struct (map (λ u. u.0) us))
struct_once us b r q e = by_shape (shape b)
  where
    head : 40 ∷ (types_text (map (λ u. u.0) us) ++ 41 ∷ r) ≡ type_text b ++ q
    head = sym (struct_text (W.Struct (map (λ u. u.0) us)) (map (λ u. u.0) us) r refl) ∙ e

    by_shape : Shape b → (W.Struct (map (λ u. u.0) us) ≡ b) × (r ≡ q)
    by_shape (inl m) = absurd (other_code m.0 40 q (types_text (map (λ u. u.0) us) ++ 41 ∷ r) m.1.no_struct (sym (head ∙ code_text b m.0 q m.1)))
    by_shape (inr (inl m)) = absurd (other_code 40 97 (types_text (map (λ u. u.0) us) ++ 41 ∷ r) (type_text m.0 ++ q) refl (head ∙ array_text b m.0 q m.1))
    by_shape (inr (inr (inl m))) =
        let one = members_once us m.0 r q (same_rest 40 40 (types_text (map (λ u. u.0) us) ++ 41 ∷ r) (types_text m.0 ++ 41 ∷ q) (head ∙ struct_text b m.0 q m.1)) in
        (ap (λ (ts : List WireType). W.Struct ts) one.0 ∙ sym m.1, one.1)
    by_shape (inr (inr (inr m))) = absurd (other_code 40 123 (types_text (map (λ u. u.0) us) ++ 41 ∷ r) (type_text m.0 ++ (type_text m.1 ++ 125 ∷ q)) refl (head ∙ entry_text b m.0 m.1 q m.2))

entry_once : (k v : WireType) → Once k → Once v → Once (W.DictEntry k v)
entry_once k v f g b r q e = by_shape (shape b)
  where
    head : 123 ∷ (type_text k ++ (type_text v ++ 125 ∷ r)) ≡ type_text b ++ q
    head = sym (entry_text (W.DictEntry k v) k v r refl) ∙ e

    by_shape : Shape b → (W.DictEntry k v ≡ b) × (r ≡ q)
    by_shape (inl m) = absurd (other_code m.0 123 q (type_text k ++ (type_text v ++ 125 ∷ r)) m.1.no_entry (sym (head ∙ code_text b m.0 q m.1)))
    by_shape (inr (inl m)) = absurd (other_code 123 97 (type_text k ++ (type_text v ++ 125 ∷ r)) (type_text m.0 ++ q) refl (head ∙ array_text b m.0 q m.1))
    by_shape (inr (inr (inl m))) = absurd (other_code 123 40 (type_text k ++ (type_text v ++ 125 ∷ r)) (types_text m.0 ++ 41 ∷ q) refl (head ∙ struct_text b m.0 q m.1))
    by_shape (inr (inr (inr m))) =
        let one = f m.0 (type_text v ++ 125 ∷ r) (type_text m.1 ++ 125 ∷ q) (same_rest 123 123 (type_text k ++ (type_text v ++ 125 ∷ r)) (type_text m.0 ++ (type_text m.1 ++ 125 ∷ q)) (head ∙ entry_text b m.0 m.1 q m.2)) in
        let two = g m.1 (125 ∷ r) (125 ∷ q) one.1 in
        ((λ i. W.DictEntry (one.0 i) (two.0 i)) ∙ sym m.2, same_rest 125 125 r q two.1)

out_array : (u : WireType) → out-WireType (W.Array u) ≡ WireType-F.Array u
out_array u = search the_lemmas

out_struct : (us : List WireType) → out-WireType (W.Struct us) ≡ WireType-F.Struct us
out_struct us = search the_lemmas

out_entry : (k v : WireType) → out-WireType (W.DictEntry k v) ≡ WireType-F.DictEntry k v
out_entry k v = search the_lemmas

out_roll : (f : WireType-F WireType) → out-WireType (roll-WireType f) ≡ f
out_roll f = search the_lemmas

-- a type with no other inside
leaf_once : (f : WireType-F WireType) → ((u : WireType) → f ≡ WireType-F.Array u → ⊥) → ((us : List WireType) → f ≡ WireType-F.Struct us → ⊥) → ((k v : WireType) → f ≡ WireType-F.DictEntry k v → ⊥) → Once (roll-WireType f)
leaf_once f no_array no_struct no_entry = by_shape (shape (roll-WireType f))
  where
    by_shape : Shape (roll-WireType f) → Once (roll-WireType f)
    by_shape (inl k) = code_once (roll-WireType f) k.0 k.1
    by_shape (inr (inl k)) = absurd (no_array k.0 (sym (out_roll f) ∙ (ap (λ (t : WireType). out-WireType t) k.1 ∙ out_array k.0)))
    by_shape (inr (inr (inl k))) = absurd (no_struct k.0 (sym (out_roll f) ∙ (ap (λ (t : WireType). out-WireType t) k.1 ∙ out_struct k.0)))
    by_shape (inr (inr (inr k))) = absurd (no_entry k.0 k.1 (sym (out_roll f) ∙ (ap (λ (t : WireType). out-WireType t) k.2 ∙ out_entry k.0 k.1)))

layer : (y : WireType-F Such) → Once (roll-WireType (map-WireType Such WireType (λ u. u.0) y))
layer (WireType-F.Array u) = subst Once (rolls_array u.0) (array_once u.0 u.1)
layer (WireType-F.Struct us) = subst Once (rolls_struct (map (λ u. u.0) us)) (struct_once us)
layer (WireType-F.DictEntry k v) = subst Once (rolls_entry k.0 v.0) (entry_once k.0 v.0 k.1 v.1)
layer y = leaf_once (map-WireType Such WireType (λ u. u.0) y) (λ u e. cc) (λ us e. cc) (λ k v e. cc)

text_once : (a : WireType) → Once a
text_once = ind-WireType Once (λ x y is. subst (λ (z : WireType-F WireType). Once (roll-WireType z)) is (layer y))

pub one-type : (a b : WireType) → type_text a ≡ type_text b → a ≡ b
one-type a b e = (text_once a b [] [] (append-nil (type_text a) ∙ (e ∙ sym (append-nil (type_text b))))).0
