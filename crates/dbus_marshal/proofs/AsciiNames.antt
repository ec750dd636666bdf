-- The bytes of paths and of signatures are ASCII, and none is zero.
use Rattle.std.proofs.Common.{◌≡◌, ℕ, ◌-◌, ◌<◌, Bool, true, false, cond, List, [], ◌∷◌, ◌++◌, Result, Ok, Err, refl, sym, subst, ap, ◌∙◌, inl, inr, lit<, arith}
use Rattle.std.specs.Prelude.{All, IsTrue, ◌==◌}
use Rattle.std.specs.List.{list_all, slice_split, join_with_byte}
use Rattle.std.proofs.lemmas.Bool.{and_parts, false≢true}
use Rattle.std.proofs.lemmas.Bool.Decides.{nat_tests}
use Rattle.std.proofs.lemmas.List.Elements.{All-nil, All-cons, All-head, All-tail, All-append, All-weaker}
use Rattle.std.proofs.lemmas.List.Splits.{join_with_byte-slice_split}
use Rattle.std.proofs.lemmas.Str.{IsUtf8-from_ascii}
use Rattle.std.proofs.lemmas.Str.Ascii.{IsAscii-from_all}
use Rattle.dbus_types.specs.declared.types.WireType.{WireType}
use Rattle.dbus_types.specs.declared.types.WireType.TheVariants as W
use Rattle.dbus_types.specs.declared.errors.SignatureError.{SignatureError}
use Rattle.dbus_types.specs.Names.{is_word_byte, is_part, is_path}
use Rattle.dbus_types.specs.Reading.{coded}
use Rattle.dbus_types.specs.Types.{type_text, types_text, IsValidType, Fits}
use Rattle.dbus_values.specs.Values.{IsText, IsSignatureText}
use Rattle.dbus_types.specs.declared.roles.Role.{Role}
use Rattle.dbus_types.proofs.TypeLayers.{text_array, text_struct, text_entry, arrays_entry, brackets_entry}
use Rattle.dbus_types.proofs.Codes.{Code, shape}
use Rattle.dbus_types.proofs.TextsReadAgain.{by_limits}
use Rattle.dbus_types.proofs.TypesWithinLimits.{Stands, ElementFits, fits_element, fits_array, fits_struct, element_entry, element_fits, array_complete, struct_complete}

abbrev pub Plain : ℕ → Type 0
Plain b = (0 < b) × (b < 128)

plain_text : (text : List ℕ) → All Plain text → IsText text
plain_text text h = (
  IsUtf8-from_ascii text (IsAscii-from_all text (All-weaker Plain (λ b. b < 128) (λ b p. p.1) text h)),
  All-weaker Plain (λ b. b ≡ 0 → ⊥) (λ b p e. omega (arith, p.0, e)) text h,
)

-- ---- paths

plain_word : (b : ℕ) → is_word_byte b ≡ true → Plain b
plain_word b h = (grind (arith, nat_tests), grind (arith, nat_tests))

plain_words : (bs : List ℕ) → list_all is_word_byte bs ≡ true → All Plain bs
plain_words [] h = All-nil Plain
plain_words (b ∷ bs) h = let p = and_parts (is_word_byte b) (list_all is_word_byte bs) h in All-cons Plain b bs (plain_word b p.0) (plain_words bs p.1)

plain_part : (bs : List ℕ) → is_part bs ≡ true → All Plain bs
plain_part [] h = absurd (false≢true h)
plain_part (b ∷ bs) h = let p = and_parts (is_word_byte b) (list_all is_word_byte bs) h in All-cons Plain b bs (plain_word b p.0) (plain_words bs p.1)

plain_parts : (parts : List (List ℕ)) → list_all is_part parts ≡ true → All Plain (join_with_byte 47 parts)
plain_parts [] h = All-nil Plain
plain_parts (p ∷ []) h = plain_part p (and_parts (is_part p) true h).0
plain_parts (p ∷ q ∷ ps) h =
    let k = and_parts (is_part p) (list_all is_part (q ∷ ps)) h in
    All-append Plain p (47 ∷ join_with_byte 47 (q ∷ ps)) (plain_part p k.0) (All-cons Plain 47 (join_with_byte 47 (q ∷ ps)) (lit< tt, lit< tt) (plain_parts (q ∷ ps) k.1))

slash : (b : ℕ) → (b == 47) ≡ true → Plain b
slash b h = (grind (arith, nat_tests), grind (arith, nat_tests))

plain_path : (text : List ℕ) → is_path text ≡ true → All Plain text
plain_path [] h = absurd (false≢true h)
plain_path (b ∷ []) h = All-cons Plain b [] (slash b h) (All-nil Plain)
plain_path (b ∷ c ∷ bs) h =
    let k = and_parts (b == 47) (list_all is_part (slice_split (λ x. x == 47) (c ∷ bs))) h in
    All-cons Plain b (c ∷ bs) (slash b k.0) (subst (All Plain) (join_with_byte-slice_split 47 (c ∷ bs)) (plain_parts (slice_split (λ x. x == 47) (c ∷ bs)) k.1))

pub path_text : (text : List ℕ) → IsTrue (is_path text) → IsText text
path_text text h = plain_text text (plain_path text h)

-- ---- signatures

-- a code of a type
abbrev OkPlain : ℕ → Result WireType SignatureError → Type 0
OkPlain c (Ok t) = Plain c
OkPlain c (Err e) = Unit {0}

coded_plain : (at c : ℕ) → OkPlain c (coded at c)
coded_plain at c =
    e 121 W.Byte _ (lit< tt, lit< tt) (e 98 W.Bool _ (lit< tt, lit< tt) (e 110 W.I16 _ (lit< tt, lit< tt) (e 113 W.U16 _ (lit< tt, lit< tt) (e 105 W.I32 _ (lit< tt, lit< tt) (e 117 W.U32 _ (lit< tt, lit< tt) (e 120 W.I64 _ (lit< tt, lit< tt)
    (e 116 W.U64 _ (lit< tt, lit< tt) (e 100 W.Double _ (lit< tt, lit< tt) (e 115 W.Str _ (lit< tt, lit< tt) (e 111 W.ObjectPath _ (lit< tt, lit< tt) (e 103 W.Signature _ (lit< tt, lit< tt) (e 104 W.Handle _ (lit< tt, lit< tt) (e 118 W.Variant _ (lit< tt, lit< tt) tt)))))))))))))
  where
    e : (d : ℕ) (u : WireType) (other : Result WireType SignatureError) → Plain d → OkPlain c other → OkPlain c (cond (c == d) (Ok u) other)
    e d u other j k = either (c == d) refl
      where
        either : (b : Bool) → (c == d) ≡ b → OkPlain c (cond b (Ok u) other)
        either true y = let s : c ≡ d = grind (arith, nat_tests) in subst Plain (sym s) j
        either false n = k

plain_code : (t : WireType) (c : ℕ) → Code t c → All Plain (type_text t)
plain_code t c k = subst (All Plain) (sym k.text) (All-cons Plain c [] (subst (OkPlain c) (k.read 0) (coded_plain 0 c)) (All-nil Plain))

plain_types : (P : WireType → Type 0) → ((t : WireType) → P t → All Plain (type_text t)) → (ts : List WireType) → All P ts → All Plain (types_text ts)
plain_types P f [] h = All-nil Plain
plain_types P f (t ∷ ts) h = All-append Plain (type_text t) (types_text ts) (f t (All-head P t ts h)) (plain_types P f ts (All-tail P t ts h))

abbrev PlainWithin : ℕ → ℕ → Type 0
PlainWithin a b = (t : WireType) → ElementFits a b t → All Plain (type_text t)

module _ (a b : ℕ) (smaller : (c : ℕ) → 0 < a → PlainWithin (a - 1) c) (narrower : 0 < b → PlainWithin a (b - 1)) where
  plain_array : (t u : WireType) → t ≡ W.Array u → ElementFits a b t → All Plain (type_text t)
  plain_array t u e h =
      let f = fits_array a b u (subst (Fits a b) e (element_fits a b t h (array_complete t u e h.0))) in
      subst (All Plain) (sym (ap type_text e ∙ text_array u)) (All-cons Plain 97 (type_text u) (lit< tt, lit< tt) (smaller b f.0 u f.1))

  plain_struct : (t : WireType) (us : List WireType) → t ≡ W.Struct us → ElementFits a b t → All Plain (type_text t)
  plain_struct t us e h =
      let f = fits_struct a b us (subst (Fits a b) e (element_fits a b t h (struct_complete t us e h.0))) in
      let inside = plain_types (Fits a (b - 1)) (λ u k. narrower f.0 u (fits_element a (b - 1) u k)) us f.2 in
      subst (All Plain) (sym (ap type_text e ∙ text_struct us))
      (All-cons Plain 40 (types_text us ++ 41 ∷ []) (lit< tt, lit< tt) (All-append Plain (types_text us) (41 ∷ []) inside (All-cons Plain 41 [] (lit< tt, lit< tt) (All-nil Plain))))

  plain_entry : (t k v : WireType) → t ≡ W.DictEntry k v → ElementFits a b t → All Plain (type_text t)
  plain_entry t k v e h' =
      let h = subst (ElementFits a b) e h' in
      let f = element_entry a b k v h in
      let key : ElementFits a (b - 1) k = (subst (λ (r : Role). Stands r) (sym f.1) tt, omega (arith, h.1, arrays_entry k v), omega (arith, f.0, h.2, brackets_entry k v)) in
      subst (All Plain) (sym (ap type_text e ∙ text_entry k v))
      (All-cons Plain 123 (type_text k ++ (type_text v ++ 125 ∷ [])) (lit< tt, lit< tt) (All-append Plain (type_text k) (type_text v ++ 125 ∷ []) (narrower f.0 k key)
      (All-append Plain (type_text v) (125 ∷ []) (narrower f.0 v (fits_element a (b - 1) v f.2)) (All-cons Plain 125 [] (lit< tt, lit< tt) (All-nil Plain)))))

  plain_step : PlainWithin a b
  plain_step t h = elim (shape t) [
    | inl k ↦ plain_code t k.0 k.1
    | inr x ↦ elim x [
      | inl u ↦ plain_array t u.0 u.1 h
      | inr y ↦ elim y [
        | inl us ↦ plain_struct t us.0 us.1 h
        | inr e ↦ plain_entry t e.0 e.1 e.2 h
      ]
    ]
  ]

plain_type : (t : WireType) → IsValidType t → All Plain (type_text t)
plain_type t h = by_limits PlainWithin plain_step 32 32 t (fits_element 32 32 t h)

pub signature_text : (text : List ℕ) → IsSignatureText text → IsText text
signature_text text h = plain_text text (subst (All Plain) (sym h.1.0) (plain_types IsValidType plain_type h.0 h.1.1))
