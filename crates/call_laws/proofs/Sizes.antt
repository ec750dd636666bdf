-- A value takes at least as many bytes as the texts, bytes and handles that are in it.
use Rattle.std.proofs.Common.{◌≡◌, ℕ, ◌+◌, ◌*◌, ◌≤◌, List, [], ◌∷◌, ◌++◌, length, map, replicate, Option, Some, None, refl, sym, ap, subst, ◌∙◌, arith}
use Rattle.std.specs.Option.{option_to_list}
use Rattle.std.specs.Int.{w32}
use Rattle.std.proofs.lemmas.List.{length-append}
use Rattle.std.proofs.lemmas.List.Sums.{sum_by-append}
use Rattle.dbus_types.specs.declared.types.Endian.{Endian}
use Rattle.dbus_types.specs.declared.types.WireType.{WireType}
use Rattle.dbus_types.specs.declared.types.Value.{Value, out-Value, roll-Value, the_lemmas}
use Rattle.dbus_types.specs.declared.types.Value.TheVariants as V
use Rattle.dbus_types.specs.declared.types.Value.TheOpen.{Value-F}
use Rattle.dbus_types.specs.Types.{alignment}
use Rattle.dbus_values.specs.Spells.{number, gap}
use Rattle.dbus_values.specs.Spelling.{aligned, text_body, array_body, bytes_body, Spelled, spell_step, spelled, spelling, spellings}
use Rattle.dbus_values.proofs.OneSpelling.{roll_bytes, roll_handle, roll_str, roll_array}
use Rattle.dbus_marshal.proofs.TakenFronts.{four, number_len}
use Rattle.portal_model.specs.History.{texts_bytes}
use Rattle.dbus_requests.specs.Arguments.{text_of, bytes_of, handle_of, items_of, handles_in, texts_in}

-- ---- the outer layer of a value

pub roll_out : (v : Value) → roll-Value (out-Value v) ≡ v
roll_out v = search the_lemmas

rolls_str : (t : List ℕ) → V.Str t ≡ roll-Value (Value-F.Str t)
rolls_str t = search the_lemmas

rolls_bytes : (bytes : List ℕ) → V.Bytes bytes ≡ roll-Value (Value-F.Bytes bytes)
rolls_bytes bytes = search the_lemmas

rolls_handle : (n : ℕ) → V.Handle n ≡ roll-Value (Value-F.Handle n)
rolls_handle n = search the_lemmas

rolls_array : (t : WireType) (vs : List Value) → V.Array t vs ≡ roll-Value (Value-F.Array t vs)
rolls_array t vs = search the_lemmas

pub rolled : (v w : Value) (x : Value-F Value) → out-Value v ≡ x → w ≡ roll-Value x → w ≡ v
rolled v w x out is = is ∙ (ap roll-Value (sym out) ∙ roll_out v)

-- ---- bounds

abbrev pub TextWithin : Option (List ℕ) → ℕ → Type 0
TextWithin None n = Unit {0}
TextWithin (Some t) n = length t + 5 ≤ n

abbrev pub BytesWithin : Option (List ℕ) → ℕ → Type 0
BytesWithin None n = Unit {0}
BytesWithin (Some bytes) n = length bytes ≤ n

abbrev pub HandleWithin : Option ℕ → ℕ → Type 0
HandleWithin None n = Unit {0}
HandleWithin (Some h) n = 4 ≤ n

abbrev pub Holds : List Value → ℕ → Type 0
Holds vs n = (4 * length (handles_in vs) ≤ n) × (texts_bytes (texts_in vs) ≤ n)

abbrev pub ItemsWithin : Option (List Value) → ℕ → Type 0
ItemsWithin None n = Unit {0}
ItemsWithin (Some vs) n = Holds vs n

-- ---- how much it takes at least

module _ (e : Endian) where
  pub least_as : (v : Value) (s : Spelled) (at k : ℕ) → spelled e v ≡ s → k ≤ length (s.1 at) → k ≤ length (spelling e at v)
  least_as v s at k is h = subst (λ (x : Spelled). k ≤ length (x.1 at)) (sym is) h

  pub least_aligned : (to : ℕ) (body : ℕ → List ℕ) (at k : ℕ) → k ≤ length (body (at + gap to at)) → k ≤ length (aligned to body at)
  least_aligned to body at k h = omega (arith, h, length-append (replicate (gap to at) 0) (body (at + gap to at)))

  str_takes : (t : List ℕ) (at : ℕ) → length t + 5 ≤ length (spelling e at (V.Str t))
  str_takes t at =
      least_as (V.Str t) (spell_step e (Value-F.Str t)) at (length t + 5) (roll_str e t)
      (least_aligned 4 (λ start. text_body e t) at (length t + 5) (omega (arith, length-append (number e w32 (length t)) (t ++ 0 ∷ []), number_len e four (length t), length-append t (0 ∷ []))))

  bytes_body_takes : (bytes : List ℕ) (at : ℕ) → length bytes ≤ length (spelling e at (V.Bytes bytes))
  bytes_body_takes bytes at =
      least_as (V.Bytes bytes) (spell_step e (Value-F.Bytes bytes)) at (length bytes) (roll_bytes e bytes)
      (least_aligned 4 (λ start. bytes_body e bytes) at (length bytes) (omega (arith, length-append (number e w32 (length bytes)) bytes)))

  handle_takes : (n at : ℕ) → 4 ≤ length (spelling e at (V.Handle n))
  handle_takes n at = least_as (V.Handle n) (spell_step e (Value-F.Handle n)) at 4 (roll_handle e n) (least_aligned 4 (λ start. number e w32 n) at 4 (omega (arith, number_len e four n)))

  -- where the items of an array begin
  abbrev first_item : WireType → ℕ → ℕ
  first_item t at = at + gap 4 at + 4 + gap (alignment t) (at + gap 4 at + 4)

  array_takes : (t : WireType) (vs : List Value) (at : ℕ) → length (spellings e (first_item t at) vs) ≤ length (spelling e at (V.Array t vs))
  array_takes t vs at =
      let start : ℕ = at + gap 4 at in
      let pad : ℕ = gap (alignment t) (start + 4) in
      let items : List ℕ = spellings e (start + 4 + pad) vs in
      least_as (V.Array t vs) (spell_step e (Value-F.Array t (map (spelled e) vs))) at (length items) (roll_array e t vs)
      (least_aligned 4 (array_body e (alignment t) (map (spelled e) vs)) at (length items) (omega (arith, length-append (number e w32 (length items)) (replicate pad 0 ++ items), length-append (replicate pad 0) items)))

  -- ---- by its outer layer

  abbrev pub ArrayWithin : Option (List Value) → ℕ → Type 0
  ArrayWithin None n = Unit {0}
  ArrayWithin (Some vs) n = (start : ℕ) × (length (spellings e start vs) ≤ n)

  abbrev Within : Value-F Value → ℕ → Type 0
  Within x n = TextWithin (text_of x) n × BytesWithin (bytes_of x) n × HandleWithin (handle_of x) n × ArrayWithin (items_of x) n

  takes : (at : ℕ) (v : Value) (x : Value-F Value) → out-Value v ≡ x → Within x (length (spelling e at v))
  takes at v (Value-F.Str t) out = (subst (λ (w : Value). length t + 5 ≤ length (spelling e at w)) (rolled v (V.Str t) (Value-F.Str t) out (rolls_str t)) (str_takes t at), tt, tt, tt)
  takes at v (Value-F.Bytes bytes) out = (tt, subst (λ (w : Value). length bytes ≤ length (spelling e at w)) (rolled v (V.Bytes bytes) (Value-F.Bytes bytes) out (rolls_bytes bytes)) (bytes_body_takes bytes at), tt, tt)
  takes at v (Value-F.Byte n) out = (tt, tt, tt, tt)
  takes at v (Value-F.Handle n) out = (tt, tt, subst (λ (w : Value). 4 ≤ length (spelling e at w)) (rolled v (V.Handle n) (Value-F.Handle n) out (rolls_handle n)) (handle_takes n at), tt)
  takes at v (Value-F.Array t vs) out = (
    tt,
    tt,
    tt,
    (first_item t at, subst (λ (w : Value). length (spellings e (first_item t at) vs) ≤ length (spelling e at w)) (rolled v (V.Array t vs) (Value-F.Array t vs) out (rolls_array t vs)) (array_takes t vs at)),
  )
  takes at v (Value-F.Bool b) out = (tt, tt, tt, tt)
  takes at v (Value-F.I16 z) out = (tt, tt, tt, tt)
  takes at v (Value-F.U16 n) out = (tt, tt, tt, tt)
  takes at v (Value-F.I32 z) out = (tt, tt, tt, tt)
  takes at v (Value-F.U32 n) out = (tt, tt, tt, tt)
  takes at v (Value-F.I64 z) out = (tt, tt, tt, tt)
  takes at v (Value-F.U64 n) out = (tt, tt, tt, tt)
  takes at v (Value-F.Double n) out = (tt, tt, tt, tt)
  takes at v (Value-F.ObjectPath t) out = (tt, tt, tt, tt)
  takes at v (Value-F.Signature t) out = (tt, tt, tt, tt)
  takes at v (Value-F.Variant w) out = (tt, tt, tt, tt)
  takes at v (Value-F.Struct vs) out = (tt, tt, tt, tt)
  takes at v (Value-F.DictEntry k w) out = (tt, tt, tt, tt)

  -- ---- the items of an array

  one_handle : (o : Option ℕ) (n : ℕ) → HandleWithin o n → 4 * length (option_to_list o) ≤ n
  one_handle None n h = omega arith
  one_handle (Some b) n h = h

  one_text : (o : Option (List ℕ)) (n : ℕ) → TextWithin o n → texts_bytes (option_to_list o) ≤ n
  one_text None n h = omega arith
  one_text (Some t) n h = omega (arith, h)

  pub texts_append : (xs ys : List (List ℕ)) → texts_bytes (xs ++ ys) ≡ texts_bytes xs + texts_bytes ys
  texts_append xs ys = sum_by-append (λ (t : List ℕ). length t) xs ys

  holds : (at : ℕ) (vs : List Value) → Holds vs (length (spellings e at vs))
  holds at [] = (omega arith, omega arith)
  holds at (v ∷ vs) =
      let first : List ℕ = spelling e at v in
      let rest : List ℕ = spellings e (at + length first) vs in
      let whole : length (first ++ rest) ≡ length first + length rest = length-append first rest in
      let here : Within (out-Value v) (length first) = takes at v (out-Value v) refl in
      let later : Holds vs (length rest) = holds (at + length first) vs in (
        omega (arith, whole, one_handle (handle_of (out-Value v)) (length first) here.2, later.0, length-append (option_to_list (handle_of (out-Value v))) (handles_in vs)),
        omega (arith, whole, one_text (text_of (out-Value v)) (length first) here.0, later.1, texts_append (option_to_list (text_of (out-Value v))) (texts_in vs)),
      )

  items_within : (o : Option (List Value)) (n : ℕ) → ArrayWithin o n → ItemsWithin o n
  items_within None n h = tt
  items_within (Some vs) n h = let inside : Holds vs (length (spellings e h.0 vs)) = holds h.0 vs in (omega (arith, inside.0, h.1), omega (arith, inside.1, h.1))

  pub text_takes : (at : ℕ) (v : Value) → TextWithin (text_of (out-Value v)) (length (spelling e at v))
  text_takes at v = (takes at v (out-Value v) refl).0

  pub array_takes_in : (at : ℕ) (v : Value) → ArrayWithin (items_of (out-Value v)) (length (spelling e at v))
  array_takes_in at v = (takes at v (out-Value v) refl).3

  pub index_takes : (at : ℕ) (v : Value) → HandleWithin (handle_of (out-Value v)) (length (spelling e at v))
  index_takes at v = (takes at v (out-Value v) refl).2

  pub bytes_take : (at : ℕ) (v : Value) → BytesWithin (bytes_of (out-Value v)) (length (spelling e at v))
  bytes_take at v = (takes at v (out-Value v) refl).1

  pub items_take : (at : ℕ) (v : Value) → ItemsWithin (items_of (out-Value v)) (length (spelling e at v))
  items_take at v = items_within (items_of (out-Value v)) (length (spelling e at v)) (takes at v (out-Value v) refl).3
