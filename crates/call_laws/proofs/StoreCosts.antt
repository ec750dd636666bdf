-- What a call of the permission store carries is within the bytes of its body.
use Rattle.std.proofs.Common.{◌≡◌, ℕ, ◌+◌, ◌≤◌, Bool, true, false, cond, List, [], ◌∷◌, ◌++◌, length, Option, Some, None, refl, sym, ap, subst, ◌∙◌, append-nil, arith}
use Rattle.std.specs.List.{flat_map}
use Rattle.std.specs.Option.{option_map, option_to_list}
use Rattle.std.proofs.lemmas.Grind.{flat_map-append}
use Rattle.std.proofs.lemmas.List.{length-append}
use Rattle.dbus_types.specs.declared.types.Endian.{Endian}
use Rattle.dbus_types.specs.declared.types.Endian.TheVariants.{Little}
use Rattle.dbus_types.specs.declared.types.Value.{Value, out-Value, roll-Value, the_lemmas}
use Rattle.dbus_types.specs.declared.types.Value.TheOpen.{Value-F}
use Rattle.dbus_types.specs.declared.types.Value.TheVariants as V
use Rattle.dbus_values.specs.Spells.{gap}
use Rattle.dbus_values.specs.Spelling.{in_row, spell_step, spelled, spelling, spellings}
use Rattle.dbus_values.proofs.Lengths.{same_length}
use Rattle.dbus_values.proofs.OneSpelling.{roll_entry}
use Rattle.portal_model.specs.declared.records.Row.{Row}
use Rattle.portal_model.specs.declared.store.StoreCall.{StoreCall}
use Rattle.portal_model.specs.declared.store.StoreCall.TheVariants as Call
use Rattle.portal_model.specs.Data.{data_bytes, is_spelled}
use Rattle.portal_model.specs.History.{store_bytes, texts_bytes}
use Rattle.portal_model.specs.StoreRequest.{texts_of_row}
use Rattle.dbus_requests.specs.Arguments.{text_of, flag_of, items_of, inside_of, row_named, row_of, rows_in, texts_in, lookup_of, lookup_call, set_of, set_call, delete_of, delete_call, list_call, set_value_of, set_value_call, set_permission_of, set_permission_call, delete_permission_of, delete_permission_call, get_permission_of, get_permission_call}
use Rattle.call_laws.proofs.Shifts.{at_most_eight}
use Rattle.call_laws.proofs.Sizes.{ArrayWithin, ItemsWithin, TextWithin, array_takes_in, items_take, least_aligned, least_as, rolled, text_takes, texts_append}

-- ---- bounds

-- at the beginning, as which data counts, it takes at most eight bytes more
abbrev DataWithin : Option Value → ℕ → Type 0
DataWithin None n = Unit {0}
DataWithin (Some datum) n = data_bytes datum ≤ n + 8

abbrev RowWithin : Option Row → ℕ → Type 0
RowWithin None n = Unit {0}
RowWithin (Some row) n = texts_bytes (texts_of_row row) ≤ n

abbrev RowsWithin : Option (List Value) → ℕ → Type 0
RowsWithin None n = Unit {0}
RowsWithin (Some items) n = texts_bytes (flat_map texts_of_row (rows_in items)) ≤ n

abbrev pub StoreWithin : Option StoreCall → ℕ → Type 0
StoreWithin None n = Unit {0}
StoreWithin (Some call) n = store_bytes call ≤ n

rolls_variant : (d : Value) → V.Variant d ≡ roll-Value (Value-F.Variant d)
rolls_variant d = search the_lemmas

rolls_entry : (k x : Value) → V.DictEntry k x ≡ roll-Value (Value-F.DictEntry k x)
rolls_entry k x = search the_lemmas

counted : (b : Bool) (m : ℕ) → cond b m 0 ≤ m
counted true m = omega arith
counted false m = omega arith

one_text_more : (t : List ℕ) (ts : List (List ℕ)) → texts_bytes (t ∷ ts) ≡ length t + texts_bytes ts
one_text_more t ts = omega (arith, texts_append Little (t ∷ []) ts)

named_within : (o : Option (List ℕ)) (p : Option (List Value)) (j k n : ℕ) → TextWithin o j → ItemsWithin p k → j + k ≤ n → RowWithin (row_named o p) n
named_within (Some app) (Some names) j k n h i le = omega (arith, one_text_more app (texts_in names), h, i.1, le)
named_within (Some app) None j k n h i le = tt
named_within None p j k n h i le = tt

one_row : (o : Option Row) (n : ℕ) → RowWithin o n → texts_bytes (flat_map texts_of_row (option_to_list o)) ≤ n
one_row None n h = omega arith
one_row (Some row) n h = subst (λ (ts : List (List ℕ)). texts_bytes ts ≤ n) (sym (append-nil (texts_of_row row))) h

-- ---- calls, by bounds of their arguments

lookup_of_within : (t i : Option (List ℕ)) (j k n : ℕ) → TextWithin t j → TextWithin i k → j + k ≤ n → StoreWithin (lookup_of t i) n
lookup_of_within (Some t) (Some i) j k n p q le = omega (arith, p, q, le)
lookup_of_within (Some t) None j k n p q le = tt
lookup_of_within None i j k n p q le = tt

delete_of_within : (t i : Option (List ℕ)) (j k n : ℕ) → TextWithin t j → TextWithin i k → j + k ≤ n → StoreWithin (delete_of t i) n
delete_of_within (Some t) (Some i) j k n p q le = omega (arith, p, q, le)
delete_of_within (Some t) None j k n p q le = tt
delete_of_within None i j k n p q le = tt

set_of_within : (t : Option (List ℕ)) (b : Option Bool) (i : Option (List ℕ)) (rows : Option (List Value)) (d : Option Value) (j k l m n : ℕ) → TextWithin t j → TextWithin i k → RowsWithin rows l → DataWithin d m → j + k + l + m ≤ n → StoreWithin (set_of t b i rows d) n
set_of_within (Some t) (Some b) (Some i) (Some rows) (Some d) j k l m n p q r s le =
    let others : List (List ℕ) = flat_map texts_of_row (rows_in rows) in
    omega (arith, one_text_more t (i ∷ others), one_text_more i others, p, q, r, s, le)
set_of_within (Some t) (Some b) (Some i) (Some rows) None j k l m n p q r s le = tt
set_of_within (Some t) (Some b) (Some i) None d j k l m n p q r s le = tt
set_of_within (Some t) (Some b) None rows d j k l m n p q r s le = tt
set_of_within (Some t) None i rows d j k l m n p q r s le = tt
set_of_within None b i rows d j k l m n p q r s le = tt

set_value_of_within : (t : Option (List ℕ)) (b : Option Bool) (i : Option (List ℕ)) (d : Option Value) (j k m n : ℕ) → TextWithin t j → TextWithin i k → DataWithin d m → j + k + m ≤ n → StoreWithin (set_value_of t b i d) n
set_value_of_within (Some t) (Some b) (Some i) (Some d) j k m n p q s le = omega (arith, p, q, s, le)
set_value_of_within (Some t) (Some b) (Some i) None j k m n p q s le = tt
set_value_of_within (Some t) (Some b) None d j k m n p q s le = tt
set_value_of_within (Some t) None i d j k m n p q s le = tt
set_value_of_within None b i d j k m n p q s le = tt

set_permission_of_within : (t : Option (List ℕ)) (b : Option Bool) (i a : Option (List ℕ)) (names : Option (List Value)) (j k l m n : ℕ) → TextWithin t j → TextWithin i k → TextWithin a l → ItemsWithin names m → j + k + l + m ≤ n → StoreWithin (set_permission_of t b i a names) n
set_permission_of_within (Some t) (Some b) (Some i) (Some a) (Some names) j k l m n p q r s le =
    let others : List (List ℕ) = texts_in names in
    omega (arith, one_text_more t (i ∷ a ∷ others), one_text_more i (a ∷ others), one_text_more a others, p, q, r, s.1, le)
set_permission_of_within (Some t) (Some b) (Some i) (Some a) None j k l m n p q r s le = tt
set_permission_of_within (Some t) (Some b) (Some i) None names j k l m n p q r s le = tt
set_permission_of_within (Some t) (Some b) None a names j k l m n p q r s le = tt
set_permission_of_within (Some t) None i a names j k l m n p q r s le = tt
set_permission_of_within None b i a names j k l m n p q r s le = tt

delete_permission_of_within : (t i a : Option (List ℕ)) (j k l n : ℕ) → TextWithin t j → TextWithin i k → TextWithin a l → j + k + l ≤ n → StoreWithin (delete_permission_of t i a) n
delete_permission_of_within (Some t) (Some i) (Some a) j k l n p q r le = omega (arith, p, q, r, le)
delete_permission_of_within (Some t) (Some i) None j k l n p q r le = tt
delete_permission_of_within (Some t) None a j k l n p q r le = tt
delete_permission_of_within None i a j k l n p q r le = tt

get_permission_of_within : (t i a : Option (List ℕ)) (j k l n : ℕ) → TextWithin t j → TextWithin i k → TextWithin a l → j + k + l ≤ n → StoreWithin (get_permission_of t i a) n
get_permission_of_within (Some t) (Some i) (Some a) j k l n p q r le = omega (arith, p, q, r, le)
get_permission_of_within (Some t) (Some i) None j k l n p q r le = tt
get_permission_of_within (Some t) None a j k l n p q r le = tt
get_permission_of_within None i a j k l n p q r le = tt

list_alone : (o : Option (List ℕ)) (j n : ℕ) → TextWithin o j → j ≤ n → StoreWithin (option_map Call.List o) n
list_alone None j n p le = tt
list_alone (Some t) j n p le = omega (arith, p, le)

-- ---- arguments in a body

module _ (e : Endian) where
  abbrev long : ℕ → Value → ℕ
  long at v = length (spelling e at v)

  data_at : (at : ℕ) (v : Value) (x : Value-F Value) → out-Value v ≡ x → DataWithin (inside_of x) (long at v)
  data_at at v (Value-F.Variant d) out =
      let is : V.Variant d ≡ v = rolled v (V.Variant d) (Value-F.Variant d) out (rolls_variant d) in
      let here : length (spelling Little 0 (V.Variant d)) ≤ long at (V.Variant d) + 8 = omega (arith, at_most_eight (V.Variant d) at, same_length e at (V.Variant d)) in
      subst (λ (w : Value). data_bytes d ≤ long at w + 8) is (omega (arith, counted (is_spelled d) (length (spelling Little 0 (V.Variant d))), here))
  data_at at v x out = tt

  data_takes : (at : ℕ) (v : Value) → DataWithin (inside_of (out-Value v)) (long at v)
  data_takes at v = data_at at v (out-Value v) refl

  entry_takes : (at : ℕ) (k x : Value) → RowWithin (row_named (text_of (out-Value k)) (items_of (out-Value x))) (long at (V.DictEntry k x))
  entry_takes at k x =
      let start : ℕ = at + gap 8 at in
      let next : ℕ = start + long start k in
      let both : length (in_row (spelled e k ∷ spelled e x ∷ []) start) ≡ long start k + long next x = omega (arith, length-append (spelling e start k) (spelling e next x ++ []), length-append (spelling e next x) []) in
      named_within (text_of (out-Value k)) (items_of (out-Value x)) (long start k) (long next x) (long at (V.DictEntry k x)) (text_takes e start k) (items_take e next x)
      (least_as e (V.DictEntry k x) (spell_step e (Value-F.DictEntry (spelled e k) (spelled e x))) at (long start k + long next x) (roll_entry e k x)
      (least_aligned e 8 (in_row (spelled e k ∷ spelled e x ∷ [])) at (long start k + long next x) (omega (arith, both))))

  row_at : (at : ℕ) (v : Value) (x : Value-F Value) → out-Value v ≡ x → RowWithin (row_of x) (long at v)
  row_at at v (Value-F.DictEntry k x) out =
      subst (λ (w : Value). RowWithin (row_named (text_of (out-Value k)) (items_of (out-Value x))) (long at w)) (rolled v (V.DictEntry k x) (Value-F.DictEntry k x) out (rolls_entry k x)) (entry_takes at k x)
  row_at at v x out = tt

  rows_take : (at : ℕ) (vs : List Value) → texts_bytes (flat_map texts_of_row (rows_in vs)) ≤ length (spellings e at vs)
  rows_take at [] = omega arith
  rows_take at (v ∷ vs) =
      let first : List Row = option_to_list (row_of (out-Value v)) in
      let next : ℕ = at + long at v in
      let parted : texts_bytes (flat_map texts_of_row (first ++ rows_in vs)) ≡ texts_bytes (flat_map texts_of_row first) + texts_bytes (flat_map texts_of_row (rows_in vs)) =
      ap texts_bytes (flat_map-append texts_of_row first (rows_in vs)) ∙ texts_append e (flat_map texts_of_row first) (flat_map texts_of_row (rows_in vs)) in
      omega (arith, parted, one_row (row_of (out-Value v)) (long at v) (row_at at v (out-Value v) refl), rows_take next vs, length-append (spelling e at v) (spellings e next vs))

  in_array : (o : Option (List Value)) (n : ℕ) → ArrayWithin e o n → RowsWithin o n
  in_array None n h = tt
  in_array (Some vs) n h = omega (arith, rows_take h.0 vs, h.1)

  rows_argument : (at : ℕ) (v : Value) → RowsWithin (items_of (out-Value v)) (long at v)
  rows_argument at v = in_array (items_of (out-Value v)) (long at v) (array_takes_in e at v)

  abbrev size : List Value → ℕ → ℕ
  size vs at = length (spellings e at vs)

  -- where the next value begins
  abbrev behind : ℕ → Value → ℕ
  behind at v = at + long at v

  one_more : (v : Value) (vs : List Value) (at : ℕ) → size (v ∷ vs) at ≡ long at v + size vs (behind at v)
  one_more v vs at = length-append (spelling e at v) (spellings e (behind at v) vs)

  pub lookup_within : (vs : List Value) → StoreWithin (lookup_call vs) (size vs 0)
  lookup_within [] = tt
  lookup_within (a ∷ []) = tt
  lookup_within (a ∷ b ∷ []) =
      let p : ℕ = behind 0 a in
      lookup_of_within (text_of (out-Value a)) (text_of (out-Value b)) (long 0 a) (long p b) (size (a ∷ b ∷ []) 0) (text_takes e 0 a) (text_takes e p b) (omega (arith, one_more a (b ∷ []) 0, one_more b [] p))
  lookup_within (a ∷ b ∷ c ∷ vs) = tt

  pub delete_within : (vs : List Value) → StoreWithin (delete_call vs) (size vs 0)
  delete_within [] = tt
  delete_within (a ∷ []) = tt
  delete_within (a ∷ b ∷ []) =
      let p : ℕ = behind 0 a in
      delete_of_within (text_of (out-Value a)) (text_of (out-Value b)) (long 0 a) (long p b) (size (a ∷ b ∷ []) 0) (text_takes e 0 a) (text_takes e p b) (omega (arith, one_more a (b ∷ []) 0, one_more b [] p))
  delete_within (a ∷ b ∷ c ∷ vs) = tt

  pub list_within : (vs : List Value) → StoreWithin (list_call vs) (size vs 0)
  list_within [] = tt
  list_within (a ∷ []) = list_alone (text_of (out-Value a)) (long 0 a) (size (a ∷ []) 0) (text_takes e 0 a) (omega (arith, one_more a [] 0))
  list_within (a ∷ b ∷ vs) = tt

  pub set_value_within : (vs : List Value) → StoreWithin (set_value_call vs) (size vs 0)
  set_value_within [] = tt
  set_value_within (a ∷ []) = tt
  set_value_within (a ∷ b ∷ []) = tt
  set_value_within (a ∷ b ∷ c ∷ []) = tt
  set_value_within (a ∷ b ∷ c ∷ d ∷ []) =
      let p : ℕ = behind 0 a in
      let q : ℕ = behind p b in
      let r : ℕ = behind q c in
      set_value_of_within (text_of (out-Value a)) (flag_of (out-Value b)) (text_of (out-Value c)) (inside_of (out-Value d)) (long 0 a) (long q c) (long r d) (size (a ∷ b ∷ c ∷ d ∷ []) 0) (text_takes e 0 a) (text_takes e q c) (data_takes r d)
      (omega (arith, one_more a (b ∷ c ∷ d ∷ []) 0, one_more b (c ∷ d ∷ []) p, one_more c (d ∷ []) q, one_more d [] r))
  set_value_within (a ∷ b ∷ c ∷ d ∷ f ∷ vs) = tt

  pub set_within : (vs : List Value) → StoreWithin (set_call vs) (size vs 0)
  set_within [] = tt
  set_within (a ∷ []) = tt
  set_within (a ∷ b ∷ []) = tt
  set_within (a ∷ b ∷ c ∷ []) = tt
  set_within (a ∷ b ∷ c ∷ d ∷ []) = tt
  set_within (a ∷ b ∷ c ∷ d ∷ f ∷ []) =
      let p : ℕ = behind 0 a in
      let q : ℕ = behind p b in
      let r : ℕ = behind q c in
      let s : ℕ = behind r d in
      set_of_within (text_of (out-Value a)) (flag_of (out-Value b)) (text_of (out-Value c)) (items_of (out-Value d)) (inside_of (out-Value f)) (long 0 a) (long q c) (long r d) (long s f) (size (a ∷ b ∷ c ∷ d ∷ f ∷ []) 0)
      (text_takes e 0 a) (text_takes e q c) (rows_argument r d) (data_takes s f) (omega (arith, one_more a (b ∷ c ∷ d ∷ f ∷ []) 0, one_more b (c ∷ d ∷ f ∷ []) p, one_more c (d ∷ f ∷ []) q, one_more d (f ∷ []) r, one_more f [] s))
  set_within (a ∷ b ∷ c ∷ d ∷ f ∷ g ∷ vs) = tt

  pub set_permission_within : (vs : List Value) → StoreWithin (set_permission_call vs) (size vs 0)
  set_permission_within [] = tt
  set_permission_within (a ∷ []) = tt
  set_permission_within (a ∷ b ∷ []) = tt
  set_permission_within (a ∷ b ∷ c ∷ []) = tt
  set_permission_within (a ∷ b ∷ c ∷ d ∷ []) = tt
  set_permission_within (a ∷ b ∷ c ∷ d ∷ f ∷ []) =
      let p : ℕ = behind 0 a in
      let q : ℕ = behind p b in
      let r : ℕ = behind q c in
      let s : ℕ = behind r d in
      set_permission_of_within (text_of (out-Value a)) (flag_of (out-Value b)) (text_of (out-Value c)) (text_of (out-Value d)) (items_of (out-Value f)) (long 0 a) (long q c) (long r d) (long s f) (size (a ∷ b ∷ c ∷ d ∷ f ∷ []) 0)
      (text_takes e 0 a) (text_takes e q c) (text_takes e r d) (items_take e s f) (omega (arith, one_more a (b ∷ c ∷ d ∷ f ∷ []) 0, one_more b (c ∷ d ∷ f ∷ []) p, one_more c (d ∷ f ∷ []) q, one_more d (f ∷ []) r, one_more f [] s))
  set_permission_within (a ∷ b ∷ c ∷ d ∷ f ∷ g ∷ vs) = tt

  pub delete_permission_within : (vs : List Value) → StoreWithin (delete_permission_call vs) (size vs 0)
  delete_permission_within [] = tt
  delete_permission_within (a ∷ []) = tt
  delete_permission_within (a ∷ b ∷ []) = tt
  delete_permission_within (a ∷ b ∷ c ∷ []) =
      let p : ℕ = behind 0 a in
      let q : ℕ = behind p b in
      delete_permission_of_within (text_of (out-Value a)) (text_of (out-Value b)) (text_of (out-Value c)) (long 0 a) (long p b) (long q c) (size (a ∷ b ∷ c ∷ []) 0) (text_takes e 0 a) (text_takes e p b) (text_takes e q c)
      (omega (arith, one_more a (b ∷ c ∷ []) 0, one_more b (c ∷ []) p, one_more c [] q))
  delete_permission_within (a ∷ b ∷ c ∷ d ∷ vs) = tt

  pub get_permission_within : (vs : List Value) → StoreWithin (get_permission_call vs) (size vs 0)
  get_permission_within [] = tt
  get_permission_within (a ∷ []) = tt
  get_permission_within (a ∷ b ∷ []) = tt
  get_permission_within (a ∷ b ∷ c ∷ []) =
      let p : ℕ = behind 0 a in
      let q : ℕ = behind p b in
      get_permission_of_within (text_of (out-Value a)) (text_of (out-Value b)) (text_of (out-Value c)) (long 0 a) (long p b) (long q c) (size (a ∷ b ∷ c ∷ []) 0) (text_takes e 0 a) (text_takes e p b) (text_takes e q c)
      (omega (arith, one_more a (b ∷ c ∷ []) 0, one_more b (c ∷ []) p, one_more c [] q))
  get_permission_within (a ∷ b ∷ c ∷ d ∷ vs) = tt
