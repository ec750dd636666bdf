-- What a value keeps at each outer layer, and how long the texts of types are.
use Rattle.std.proofs.Common.{◌≡◌, ℕ, zero, suc, ◌+◌, ◌^◌, ◌<◌, ◌≤◌, ◌↔◌, Bool, true, false, Option, None, Some, List, [], ◌∷◌, ◌++◌, length, take, get_or, Result, Ok, Err, refl, sym, ap, subst, ◌∙◌, arith, rules}
use Rattle.std.specs.Prelude.{IsTrue, MatchOption, All, is_ok}
use Rattle.std.proofs.lemmas.Bool.{true≢false}
use Rattle.std.proofs.lemmas.List.{get_or-append-add, length-append, take_all}
use Rattle.std.proofs.lemmas.List.Elements.{All-get_or, All-more, All-weaker, All-nil, All-cons}
use Rattle.dbus_types.specs.declared.types.WireType.{WireType}
use Rattle.dbus_types.specs.declared.types.WireType.TheVariants as W
use Rattle.dbus_types.specs.declared.types.Value.{Value, out-Value, roll-Value, the_lemmas}
use Rattle.dbus_types.specs.declared.types.Value.TheOpen.{Value-F}
use Rattle.dbus_types.specs.declared.types.Value.TheVariants as V
use Rattle.dbus_types.specs.declared.errors.SignatureError.{SignatureError}
use Rattle.dbus_types.specs.Types.{type_text, types_text, IsVariantType}
use Rattle.dbus_values.specs.Values.{type_of, IsSignatureText, LeafKeeps, ValueKeeps, KeepsWithin}
use Rattle.dbus_types.specs.Breaks.{IsChecked}
use Rattle.dbus_types.proofs.TypeLayers.{text_struct, text_entry}
use Rattle.dbus_types.proofs.WholeSignatures.{checked_none}

-- ---- the length of a text

pub less_left : (r : Option ℕ) (a b n k m : ℕ) → a + m ≡ b → k ≡ n + m → MatchOption r (a < n) (λ left. left + n ≡ a) → MatchOption r (b < k) (λ left. left + k ≡ b)
less_left None a b n k m p q h = omega arith
less_left (Some x) a b n k m p q h = omega arith

length_struct : (ts : List WireType) → length (type_text (W.Struct ts)) ≡ length (types_text ts) + 2
length_struct ts =
    let e : length (40 ∷ (types_text ts ++ 41 ∷ [])) ≡ length (types_text ts) + 2 = omega (arith, length-append (types_text ts) (41 ∷ [])) in
    ap length (text_struct ts) ∙ e

length_entry : (k v : WireType) → length (type_text (W.DictEntry k v)) ≡ length (type_text v) + (length (type_text k) + 2)
length_entry k v =
    let e : length (123 ∷ (type_text k ++ (type_text v ++ 125 ∷ []))) ≡ length (type_text v) + (length (type_text k) + 2) = omega (arith, length-append (type_text k) (type_text v ++ 125 ∷ []), length-append (type_text v) (125 ∷ [])) in
    ap length (text_entry k v) ∙ e

pub struct_length : (t : WireType) (ts us : List WireType) → t ≡ W.Struct ts → us ≡ ts → length (type_text t) ≡ length (types_text us) + 2
struct_length t ts us e s = ap (λ (k : WireType). length (type_text k)) e ∙ (length_struct ts ∙ ap (λ (ks : List WireType). length (types_text ks) + 2) (sym s))

pub entry_length : (t k v x y : WireType) → t ≡ W.DictEntry k v → x ≡ k → y ≡ v → length (type_text t) ≡ length (type_text y) + (length (type_text x) + 2)
entry_length t k v x y e p q =
    ap (λ (u : WireType). length (type_text u)) e ∙ (length_entry k v
    ∙ (ap (λ (u : WireType). length (type_text u) + (length (type_text k) + 2)) (sym q)
    ∙ ap (λ (u : WireType). length (type_text y) + (length (type_text u) + 2)) (sym p)))

-- ---- a text that is a signature

pub signature_checked : (text : List ℕ) (r : Result (Unit {0}) SignatureError) → IsChecked text r → IsTrue (is_ok r) ↔ IsSignatureText text
signature_checked text (Ok u) h = ((λ k. h), (λ k. refl))
signature_checked text (Err e) h = ((λ k. absurd (true≢false (sym k))), (λ k. absurd (checked_none text e k.0 h k.1)))

-- ---- each item of a list

pub all_seen : (P : Value → Type 0) (xs : List Value) (i : ℕ) → length xs ≤ i → All P (take i xs) → IsTrue true ↔ All P xs
all_seen P xs i l h = ((λ k. subst (λ (ys : List Value). All P ys) (take_all i xs l) h), (λ k. refl))

pub one_breaks : (P : Value → Type 0) (xs : List Value) (i : ℕ) (x : Value) → i < length xs → x ≡ get_or xs i x → (P x → ⊥) → IsTrue false ↔ All P xs
one_breaks P xs i x l e never = ((λ k. absurd (true≢false (sym k))), (λ h. absurd (never (subst P (sym e) (All-get_or P xs i x l h)))))

pub one_more : (P : Value → Type 0) (xs : List Value) (i : ℕ) (x : Value) → i < length xs → x ≡ get_or xs i x → All P (take i xs) → P x → All P (take (i + 1) xs)
one_more P xs i x l e h p = All-more P xs i x l h (subst P e p)

-- ---- the layers of a value

rolled : (w : Value) (f : Value-F Value) → out-Value w ≡ f → w ≡ roll-Value f
rolled w f e = sym (back w) ∙ ap roll-Value e
  where
    back : (v : Value) → roll-Value (out-Value v) ≡ v
    back v = search the_lemmas

rolls_variant : (v : Value) → V.Variant v ≡ roll-Value (Value-F.Variant v)
rolls_variant v = search the_lemmas

rolls_bytes : (bytes : List ℕ) → V.Bytes bytes ≡ roll-Value (Value-F.Bytes bytes)
rolls_bytes bytes = search the_lemmas

rolls_array : (t : WireType) (vs : List Value) → V.Array t vs ≡ roll-Value (Value-F.Array t vs)
rolls_array t vs = search the_lemmas

rolls_struct : (vs : List Value) → V.Struct vs ≡ roll-Value (Value-F.Struct vs)
rolls_struct vs = search the_lemmas

rolls_entry : (k v : Value) → V.DictEntry k v ≡ roll-Value (Value-F.DictEntry k v)
rolls_entry k v = search the_lemmas

out_variant : (v : Value) → out-Value (V.Variant v) ≡ Value-F.Variant v
out_variant v = search the_lemmas

out_bytes : (bytes : List ℕ) → out-Value (V.Bytes bytes) ≡ Value-F.Bytes bytes
out_bytes bytes = search the_lemmas

out_array : (t : WireType) (vs : List Value) → out-Value (V.Array t vs) ≡ Value-F.Array t vs
out_array t vs = search the_lemmas

out_one : (n : ℕ) → out-Value (V.Byte n) ≡ Value-F.Byte n
out_one n = search the_lemmas

out_struct : (vs : List Value) → out-Value (V.Struct vs) ≡ Value-F.Struct vs
out_struct vs = search the_lemmas

out_entry : (k v : Value) → out-Value (V.DictEntry k v) ≡ Value-F.DictEntry k v
out_entry k v = search the_lemmas

-- nothing keeps the rules where nothing is inside
abbrev pub Nothing : Value → Type 0
Nothing v = ⊥

none_inside : (r : Bool) (n : ℕ) (w : Value) (f : Value-F Value) → n ≡ 0 → out-Value w ≡ f → IsTrue r ↔ ValueKeeps Nothing f → IsTrue r ↔ KeepsWithin n w
unfolding KeepsWithin
none_inside r zero w f p e h = subst (λ (g : Value-F Value). IsTrue r ↔ ValueKeeps Nothing g) (sym e) h
none_inside r (suc n) w f p e h = absurd (omega arith)

never : (P : Type 0) → (P → ⊥) → IsTrue false ↔ P
never P none = ((λ k. absurd (true≢false (sym k))), (λ h. absurd (none h)))

-- each of a list keeps what nothing keeps, exactly where the list is empty
empty_all : (r : Bool) (P : Value → Type 0) (xs : List Value) → ((v : Value) → P v → ⊥) → IsTrue r ↔ (xs ≡ []) → IsTrue r ↔ All P xs
empty_all r P [] none h = ((λ k. search rules), (λ k. h.1 refl))
empty_all r P (x ∷ xs) none h = ((λ k. absurd (omega (arith, ap length (h.0 k)))), (λ k. absurd (none x (All-get_or P (x ∷ xs) 0 x (omega arith) k))))

no_bytes : (r : Bool) (bytes : List ℕ) → IsTrue r ↔ (bytes ≡ []) → IsTrue r ↔ All (λ b. Nothing (V.Byte b)) bytes
no_bytes r [] h = ((λ k. search rules), (λ k. h.1 refl))
no_bytes r (x ∷ xs) h = ((λ k. absurd (omega (arith, ap length (h.0 k)))), (λ k. absurd (All-get_or (λ b. Nothing (V.Byte b)) (x ∷ xs) 0 x (omega arith) k)))

layer : (n m : ℕ) (w : Value) (f : Value-F Value) → m + 1 ≡ n → out-Value w ≡ f → KeepsWithin n w ↔ ValueKeeps (KeepsWithin m) f
unfolding KeepsWithin
layer zero m w f p e = absurd (omega arith)
layer (suc n) m w f p e =
    let q : n ≡ m = omega arith in
    subst (λ (k : ℕ). KeepsWithin (suc n) w ↔ ValueKeeps (KeepsWithin k) f) q (subst (λ (g : Value-F Value). KeepsWithin (suc n) w ↔ ValueKeeps (KeepsWithin n) g) e ((λ h. h), (λ h. h)))

either : (A B C : Type 0) → A ↔ B → C ↔ B → A ↔ C
either A B C p q = ((λ h. q.1 (p.0 h)), (λ h. p.1 (q.0 h)))

-- the answers of two tests, one after the other
pub and_no : (a : Bool) (P Q : Type 0) → a ≡ false → IsTrue a ↔ P → IsTrue false ↔ (P × Q)
and_no a P Q e h = ((λ k. absurd (true≢false (sym k))), (λ k. sym e ∙ h.1 k.0))

pub and_on : (a r : Bool) (P Q : Type 0) → a ≡ true → IsTrue a ↔ P → IsTrue r ↔ Q → IsTrue r ↔ (P × Q)
and_on a r P Q e h q = ((λ k. (h.0 e, q.0 k)), (λ k. q.1 k.1))

pub variant_deep : (n : ℕ) (w v : Value) → n ≡ 0 → w ≡ V.Variant v → IsTrue false ↔ KeepsWithin n w
variant_deep n w v p e = none_inside false n w (Value-F.Variant v) p (ap out-Value e ∙ out_variant v) (never (IsVariantType (type_of v) × Nothing v) (λ h. h.1))

both : (r : Bool) (P Q : Type 0) → P → IsTrue r ↔ Q → IsTrue r ↔ (P × Q)
both r P Q p q = ((λ k. (p, q.0 k)), (λ h. q.1 h.1))

pub array_deep : (r : Bool) (n : ℕ) (w : Value) (t : WireType) (vs us : List Value) → n ≡ 0 → w ≡ V.Array t vs → us ≡ vs → (t ≡ W.Byte → ⊥) → IsTrue r ↔ (us ≡ []) → IsTrue r ↔ KeepsWithin n w
array_deep r n w t vs us p e s none h = none_inside r n w (Value-F.Array t vs) p (ap out-Value e ∙ out_array t vs)
    (both r (t ≡ W.Byte → ⊥) (All (λ v. (type_of v ≡ t) × Nothing v) vs) none (empty_all r (λ v. (type_of v ≡ t) × Nothing v) vs (λ v k. k.1) (subst (λ (xs : List Value). IsTrue r ↔ (xs ≡ [])) s h)))

-- packed bytes keep the rules within something, and where nothing is inside, only none
pub bytes_deep : (r : Bool) (n : ℕ) (bytes : List ℕ) → n ≡ 0 → IsTrue r ↔ (bytes ≡ []) → IsTrue r ↔ KeepsWithin n (V.Bytes bytes)
bytes_deep r n bytes p h = none_inside r n (V.Bytes bytes) (Value-F.Bytes bytes) p (out_bytes bytes) (no_bytes r bytes h)

byte_fits : (m n : ℕ) → n < 2 ^ 8 → KeepsWithin m (V.Byte n)
unfolding KeepsWithin
byte_fits zero n lt = subst (ValueKeeps Nothing) (sym (out_one n)) lt
byte_fits (suc m) n lt = subst (ValueKeeps (KeepsWithin m)) (sym (out_one n)) lt

pub each_fits : (bytes : List ℕ) → ((i : ℕ) → get_or bytes i 0 < 256) → All (λ b. b < 2 ^ 8) bytes
each_fits [] fit = All-nil (λ b. b < 2 ^ 8)
each_fits (b ∷ bs) fit = All-cons (λ b. b < 2 ^ 8) b bs (fit 0) (each_fits bs (λ i. subst (λ (k : ℕ). k < 256) (get_or-append-add (b ∷ []) bs i 0) (fit (length (b ∷ []) + i))))

pub bytes_on : (n m : ℕ) (bytes : List ℕ) → m + 1 ≡ n → All (λ b. b < 2 ^ 8) bytes → IsTrue true ↔ KeepsWithin n (V.Bytes bytes)
bytes_on n m bytes p fit = either (IsTrue true) (All (λ b. KeepsWithin m (V.Byte b)) bytes) (KeepsWithin n (V.Bytes bytes))
    ((λ k. All-weaker (λ b. b < 2 ^ 8) (λ b. KeepsWithin m (V.Byte b)) (byte_fits m) bytes fit), (λ k. refl))
    (layer n m (V.Bytes bytes) (Value-F.Bytes bytes) p (out_bytes bytes))

-- no array that lists bytes keeps the rules
pub no_byte : (r : Bool) (t u : WireType) → u ≡ t → IsTrue r ↔ (u ≡ W.Byte) → r ≡ false → t ≡ W.Byte → ⊥
no_byte r t u same h e is = true≢false (sym (h.1 (same ∙ is)) ∙ e)

pub listed_bytes : (n : ℕ) (w : Value) (t : WireType) (vs : List Value) → w ≡ V.Array t vs → t ≡ W.Byte → IsTrue false ↔ KeepsWithin n w
unfolding KeepsWithin
listed_bytes zero w t vs e is = never (ValueKeeps Nothing (out-Value w)) (λ h. (subst (ValueKeeps Nothing) (ap out-Value e ∙ out_array t vs) h).0 is)
listed_bytes (suc n) w t vs e is = never (ValueKeeps (KeepsWithin n) (out-Value w)) (λ h. (subst (ValueKeeps (KeepsWithin n)) (ap out-Value e ∙ out_array t vs) h).0 is)

pub struct_deep : (r : Bool) (n : ℕ) (w : Value) (vs us : List Value) → n ≡ 0 → w ≡ V.Struct vs → us ≡ vs → IsTrue r ↔ (us ≡ []) → IsTrue r ↔ KeepsWithin n w
struct_deep r n w vs us p e s h = none_inside r n w (Value-F.Struct vs) p (ap out-Value e ∙ out_struct vs)
    (empty_all r Nothing vs (λ v k. k) (subst (λ (xs : List Value). IsTrue r ↔ (xs ≡ [])) s h))

pub entry_deep : (n : ℕ) (w k v : Value) → n ≡ 0 → w ≡ V.DictEntry k v → IsTrue false ↔ KeepsWithin n w
entry_deep n w k v p e = none_inside false n w (Value-F.DictEntry k v) p (ap out-Value e ∙ out_entry k v) (never (Nothing k × Nothing v) (λ h. h.0))

pub variant_on : (r : Bool) (n m : ℕ) (w v u : Value) → m + 1 ≡ n → w ≡ V.Variant v → u ≡ v → IsTrue r ↔ (IsVariantType (type_of u) × KeepsWithin m u) → IsTrue r ↔ KeepsWithin n w
variant_on r n m w v u p e s h = either (IsTrue r) (IsVariantType (type_of v) × KeepsWithin m v) (KeepsWithin n w)
    (subst (λ (x : Value). IsTrue r ↔ (IsVariantType (type_of x) × KeepsWithin m x)) s h)
    (layer n m w (Value-F.Variant v) p (ap out-Value e ∙ out_variant v))

pub array_on : (r : Bool) (n m : ℕ) (w : Value) (t : WireType) (vs us : List Value) → m + 1 ≡ n → w ≡ V.Array t vs → us ≡ vs → (t ≡ W.Byte → ⊥) → IsTrue r ↔ All (λ v. (type_of v ≡ t) × KeepsWithin m v) us → IsTrue r ↔ KeepsWithin n w
array_on r n m w t vs us p e s none h = either (IsTrue r) ((t ≡ W.Byte → ⊥) × All (λ v. (type_of v ≡ t) × KeepsWithin m v) vs) (KeepsWithin n w)
    (both r (t ≡ W.Byte → ⊥) (All (λ v. (type_of v ≡ t) × KeepsWithin m v) vs) none (subst (λ (xs : List Value). IsTrue r ↔ All (λ v. (type_of v ≡ t) × KeepsWithin m v) xs) s h))
    (layer n m w (Value-F.Array t vs) p (ap out-Value e ∙ out_array t vs))

pub struct_on : (r : Bool) (n m : ℕ) (w : Value) (vs us : List Value) → m + 1 ≡ n → w ≡ V.Struct vs → us ≡ vs → IsTrue r ↔ All (KeepsWithin m) us → IsTrue r ↔ KeepsWithin n w
struct_on r n m w vs us p e s h = either (IsTrue r) (All (KeepsWithin m) vs) (KeepsWithin n w)
    (subst (λ (xs : List Value). IsTrue r ↔ All (KeepsWithin m) xs) s h)
    (layer n m w (Value-F.Struct vs) p (ap out-Value e ∙ out_struct vs))

pub entry_on : (r : Bool) (n m : ℕ) (w k v x y : Value) → m + 1 ≡ n → w ≡ V.DictEntry k v → x ≡ k → y ≡ v → IsTrue r ↔ (KeepsWithin m x × KeepsWithin m y) → IsTrue r ↔ KeepsWithin n w
entry_on r n m w k v x y p e s q h = either (IsTrue r) (KeepsWithin m k × KeepsWithin m v) (KeepsWithin n w)
    (subst (λ (z : Value). IsTrue r ↔ (KeepsWithin m k × KeepsWithin m z)) q (subst (λ (z : Value). IsTrue r ↔ (KeepsWithin m z × KeepsWithin m y)) s h))
    (layer n m w (Value-F.DictEntry k v) p (ap out-Value e ∙ out_entry k v))

-- ---- a value that holds no other

same_layer : (I : Value → Type 0) (w : Value) (f : Value-F Value) → out-Value w ≡ f → ((v : Value) → w ≡ V.Variant v → ⊥) → ((bytes : List ℕ) → w ≡ V.Bytes bytes → ⊥) → ((t : WireType) (vs : List Value) → w ≡ V.Array t vs → ⊥) → ((vs : List Value) → w ≡ V.Struct vs → ⊥) → ((k v : Value) → w ≡ V.DictEntry k v → ⊥) → LeafKeeps f ↔ ValueKeeps I f
same_layer I w (Value-F.Byte x) e a y b c d = ((λ h. h), (λ h. h))
same_layer I w (Value-F.Bool x) e a y b c d = ((λ h. h), (λ h. h))
same_layer I w (Value-F.I16 x) e a y b c d = ((λ h. h), (λ h. h))
same_layer I w (Value-F.U16 x) e a y b c d = ((λ h. h), (λ h. h))
same_layer I w (Value-F.I32 x) e a y b c d = ((λ h. h), (λ h. h))
same_layer I w (Value-F.U32 x) e a y b c d = ((λ h. h), (λ h. h))
same_layer I w (Value-F.I64 x) e a y b c d = ((λ h. h), (λ h. h))
same_layer I w (Value-F.U64 x) e a y b c d = ((λ h. h), (λ h. h))
same_layer I w (Value-F.Double x) e a y b c d = ((λ h. h), (λ h. h))
same_layer I w (Value-F.Str x) e a y b c d = ((λ h. h), (λ h. h))
same_layer I w (Value-F.ObjectPath x) e a y b c d = ((λ h. h), (λ h. h))
same_layer I w (Value-F.Signature x) e a y b c d = ((λ h. h), (λ h. h))
same_layer I w (Value-F.Handle x) e a y b c d = ((λ h. h), (λ h. h))
same_layer I w (Value-F.Variant v) e a y b c d = absurd (a v (rolled w (Value-F.Variant v) e ∙ sym (rolls_variant v)))
same_layer I w (Value-F.Bytes bytes) e a y b c d = absurd (y bytes (rolled w (Value-F.Bytes bytes) e ∙ sym (rolls_bytes bytes)))
same_layer I w (Value-F.Array t vs) e a y b c d = absurd (b t vs (rolled w (Value-F.Array t vs) e ∙ sym (rolls_array t vs)))
same_layer I w (Value-F.Struct vs) e a y b c d = absurd (c vs (rolled w (Value-F.Struct vs) e ∙ sym (rolls_struct vs)))
same_layer I w (Value-F.DictEntry k v) e a y b c d = absurd (d k v (rolled w (Value-F.DictEntry k v) e ∙ sym (rolls_entry k v)))

pub leaf_within : (r : Bool) (n : ℕ) (w : Value) → ((v : Value) → w ≡ V.Variant v → ⊥) → ((bytes : List ℕ) → w ≡ V.Bytes bytes → ⊥) → ((t : WireType) (vs : List Value) → w ≡ V.Array t vs → ⊥) → ((vs : List Value) → w ≡ V.Struct vs → ⊥) → ((k v : Value) → w ≡ V.DictEntry k v → ⊥) → IsTrue r ↔ LeafKeeps (out-Value w) → IsTrue r ↔ KeepsWithin n w
unfolding KeepsWithin
leaf_within r zero w a y b c d h =
    let s = same_layer Nothing w (out-Value w) refl a y b c d in
    ((λ k. s.0 (h.0 k)), (λ k. h.1 (s.1 k)))
leaf_within r (suc n) w a y b c d h =
    let s = same_layer (KeepsWithin n) w (out-Value w) refl a y b c d in
    ((λ k. s.0 (h.0 k)), (λ k. h.1 (s.1 k)))
