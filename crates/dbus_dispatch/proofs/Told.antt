-- The values that answers are told as keep the rules.
use Rattle.std.proofs.Common.{◌≡◌, ℕ, suc, ◌+◌, ◌<◌, ◌≤◌, ◌^◌, max, true, List, [], ◌∷◌, ◌++◌, length, map, refl, sym, ap, subst, ◌∙◌, arith}
use Rattle.std.specs.Prelude.{All, codes}
use Rattle.std.proofs.lemmas.List.{length-append}
use Rattle.std.proofs.lemmas.List.Elements.{All-nil, All-cons, All-append, All-head, All-tail}
use Rattle.portal_base.specs.Names.{doc_text}
use Rattle.dbus_types.specs.declared.types.WireType.{WireType}
use Rattle.dbus_types.specs.declared.types.WireType.TheVariants as W
use Rattle.dbus_types.specs.declared.types.Value.{Value}
use Rattle.dbus_types.specs.declared.types.Value.TheVariants as V
use Rattle.dbus_types.specs.declared.roles.Role.{Role}
use Rattle.dbus_types.specs.declared.roles.Role.TheVariants.{Basic, Single}
use Rattle.dbus_types.specs.Types.{is_single, array_role, entry_role, role, arrays_deep, brackets_deep, type_text, IsValidType, IsVariantType}
use Rattle.dbus_values.specs.Values.{type_of, IsText, ValueKeeps, KeepsWithin, KeepsRules}
use Rattle.dbus_types.proofs.TypeLayers.{text_array, text_entry, role_array, role_entry, role_byte, arrays_array, arrays_entry, brackets_array, brackets_entry}
use Rattle.dbus_values.proofs.PackedBytes.{entry_no_byte, text_no_byte}
use Rattle.dbus_marshal.proofs.SpelledKeepsRules.{spelled_keeps}
use Rattle.dbus_types.specs.declared.types.Endian.TheVariants.{Little}
use Rattle.dbus_values.specs.Spelling.{spelling}
use Rattle.dbus_message.specs.Written.{IsGoodBody}
use Rattle.dbus_message.proofs.Ascii.{member_text}
use Rattle.portal_model.specs.declared.records.Row.{Row}
use Rattle.portal_model.specs.declared.reply.Answer.{Answer}
use Rattle.portal_model.specs.declared.reply.Answer.TheVariants as A
use Rattle.portal_model.specs.declared.reply.ListedDocument.{ListedDocument}
use Rattle.portal_model.specs.Changed.{texts_value, row_value, rows_value}
use Rattle.portal_model.specs.Data.{is_data}
use Rattle.portal_model.proofs.DataLaws.{data-spelled}
use Rattle.dbus_calls.specs.declared.method.Method.{Method}
use Rattle.dbus_calls.specs.declared.method.Method.TheVariants as M
use Rattle.dbus_dispatch.specs.Asks.{closed_bytes}
use Rattle.dbus_dispatch.specs.Replies.{extra, listed_value, documents_value, each_text, identifiers, body_of}
use Rattle.dbus_dispatch.specs.Writable.{HasTexts, HasItsIdentifiers, IsInUtf8, IsTold}
use Rattle.dbus_dispatch.proofs.StoredTexts.{stored_rows_texts, stored_texts}
use Rattle.dbus_dispatch.proofs.Identifiers.{identifier_text}
use Rattle.dbus_dispatch.proofs.Bodies.{role_str, role_u32, role_variant, arrays_u32, arrays_byte, arrays_str, arrays_variant, brackets_u32, brackets_byte, brackets_str, brackets_variant, text_u32, text_byte, text_str, text_variant, valid, type_u32, type_bytes, type_str, type_variant, type_array, type_entry, out_variant, number_keeps, bytes_keep, str_keeps, array_keeps, entry_keeps}

-- ---- types: their role, how deep they nest, and how long their text is

abbrev pub Facts : WireType → Role → ℕ → ℕ → ℕ → Type 0
Facts t r a b n = (role t ≡ r) × (arrays_deep t ≡ a) × (brackets_deep t ≡ b) × (length (type_text t) ≡ n)

array_facts : (t : WireType) (r : Role) (a b n : ℕ) → Facts t r a b n → Facts (W.Array t) (array_role r) (a + 1) b (n + 1)
array_facts t r a b n h = (
  role_array t ∙ ap array_role h.0,
  arrays_array t ∙ ap (λ (m : ℕ). m + 1) h.1,
  brackets_array t ∙ h.2,
  omega (arith, ap length (text_array t), h.3),
)

entry_facts : (t u : WireType) (r q : Role) (a b m c d n : ℕ) → Facts t r a b m → Facts u q c d n → Facts (W.DictEntry t u) (entry_role r q) (max a c) (max b d + 1) (m + n + 2)
entry_facts t u r q a b m c d n h g = (
  role_entry t u ∙ (λ i. entry_role (h.0 i) (g.0 i)),
  arrays_entry t u ∙ (λ i. max (h.1 i) (g.1 i)),
  brackets_entry t u ∙ (λ i. max (h.2 i) (g.2 i) + 1),
  omega (arith, ap length (text_entry t u), length-append (type_text t) (type_text u ++ 125 ∷ []), length-append (type_text u) (125 ∷ []), h.3, g.3),
)

str_facts : Facts W.Str Basic 0 0 1
str_facts = (role_str, arrays_str, brackets_str, ap length text_str)

byte_facts : Facts W.Byte Basic 0 0 1
byte_facts = (role_byte, arrays_byte, brackets_byte, ap length text_byte)

u32_facts : Facts W.U32 Basic 0 0 1
u32_facts = (role_u32, arrays_u32, brackets_u32, ap length text_u32)

variant_facts : Facts W.Variant Single 0 0 1
variant_facts = (role_variant, arrays_variant, brackets_variant, ap length text_variant)

abbrev strings : WireType
strings = W.Array W.Str

abbrev bytes : WireType
bytes = W.Array W.Byte

strings_facts : Facts strings Single 1 0 2
strings_facts = array_facts W.Str Basic 0 0 1 str_facts

bytes_facts : Facts bytes Single 1 0 2
bytes_facts = array_facts W.Byte Basic 0 0 1 byte_facts

abbrev row_type : WireType
row_type = W.DictEntry W.Str strings

abbrev listed_type : WireType
listed_type = W.DictEntry W.Str bytes

abbrev extra_type : WireType
extra_type = W.DictEntry W.Str W.Variant

rows_facts : Facts (W.Array row_type) Single 2 1 6
rows_facts = array_facts row_type _ 1 1 5 (entry_facts W.Str strings Basic Single 0 0 1 1 0 2 str_facts strings_facts)

documents_facts : Facts (W.Array listed_type) Single 2 1 6
documents_facts = array_facts listed_type _ 1 1 5 (entry_facts W.Str bytes Basic Single 0 0 1 1 0 2 str_facts bytes_facts)

extras_facts : Facts (W.Array extra_type) Single 1 1 5
extras_facts = array_facts extra_type _ 0 1 4 (entry_facts W.Str W.Variant Basic Single 0 0 1 0 0 1 str_facts variant_facts)

-- ---- values

abbrev IsByte : ℕ → Type 0
IsByte b = b < 256

-- an item of an array of this type
abbrev IsItem : ℕ → WireType → Value → Type 0
IsItem d t v = (type_of v ≡ t) × KeepsWithin d v

closed_keeps : (d : ℕ) (bs : List ℕ) → All IsByte bs → KeepsWithin (suc (suc d)) (closed_bytes bs)
closed_keeps d bs h =
    let closed : List ℕ = bs ++ 0 ∷ [] in
    bytes_keep d closed (All-append IsByte bs (0 ∷ []) h (All-cons IsByte 0 [] (omega arith) (All-nil IsByte)))

each_str : (d : ℕ) (ts : List (List ℕ)) → All IsText ts → All (IsItem (suc d) W.Str) (each_text ts)
each_str d [] h = All-nil (IsItem (suc d) W.Str)
each_str d (t ∷ ts) h =
    All-cons (IsItem (suc d) W.Str) (V.Str t) (each_text ts) (type_str t, str_keeps d t (All-head IsText t ts h)) (each_str d ts (All-tail IsText t ts h))

texts_keep : (d : ℕ) (ts : List (List ℕ)) → All IsText ts → KeepsWithin (suc (suc d)) (texts_value ts)
texts_keep d ts h = array_keeps (suc d) W.Str (each_text ts) text_no_byte (each_str d ts h)

row_item : (d : ℕ) (row : Row) → HasTexts row → IsItem (suc (suc (suc d))) row_type (row_value row)
row_item d row h = (
  type_entry (V.Str row.app) (texts_value row.names) ∙ (λ i. W.DictEntry (type_str row.app i) (type_array W.Str (each_text row.names) i)),
  entry_keeps (suc (suc d)) (V.Str row.app) (texts_value row.names) (str_keeps (suc d) row.app h.app) (texts_keep d row.names h.names),
)

each_row : (d : ℕ) (rows : List Row) → All HasTexts rows → All (IsItem (suc (suc (suc d))) row_type) (map row_value rows)
each_row d [] h = All-nil (IsItem (suc (suc (suc d))) row_type)
each_row d (row ∷ rows) h =
    All-cons (IsItem (suc (suc (suc d))) row_type) (row_value row) (map row_value rows) (row_item d row (All-head HasTexts row rows h)) (each_row d rows (All-tail HasTexts row rows h))

abbrev HasBytes : ListedDocument → Type 0
HasBytes document = All IsByte document.path

listed_item : (d : ℕ) (document : ListedDocument) → HasBytes document → IsItem (suc (suc (suc d))) listed_type (listed_value document)
listed_item d document h =
    let id : List ℕ = doc_text document.id.number in (
      type_entry (V.Str id) (closed_bytes document.path) ∙ (λ i. W.DictEntry (type_str id i) (type_bytes (document.path ++ 0 ∷ []) i)),
      entry_keeps (suc (suc d)) (V.Str id) (closed_bytes document.path) (str_keeps (suc d) id (identifier_text document.id.number)) (closed_keeps d document.path h),
    )

each_listed : (d : ℕ) (documents : List ListedDocument) → All HasBytes documents → All (IsItem (suc (suc (suc d))) listed_type) (map listed_value documents)
each_listed d [] h = All-nil (IsItem (suc (suc (suc d))) listed_type)
each_listed d (document ∷ documents) h =
    All-cons (IsItem (suc (suc (suc d))) listed_type) (listed_value document) (map listed_value documents) (listed_item d document (All-head HasBytes document documents h)) (each_listed d documents (All-tail HasBytes document documents h))

-- ---- values of a body

-- a value of a body with a text of its type this long
abbrev pub Good : Value → ℕ → Type 0
Good v n = KeepsRules v × (length (type_text (type_of v)) ≡ n)

pub good : (v : Value) (t : WireType) (r : Role) (a b n : ℕ) → type_of v ≡ t → Facts t r a b n → is_single r ≡ true → a ≤ 32 → b ≤ 32 → KeepsWithin 64 v → Good v n
good v t r a b n is f one small short keeps =
    ((subst IsValidType (sym is) (valid t r a b f.0 one f.1 f.2 small short), keeps), ap (λ (u : WireType). length (type_text u)) is ∙ f.3)

pub good_str : (text : List ℕ) → IsText text → Good (V.Str text) 1
good_str text h = good (V.Str text) W.Str Basic 0 0 1 (type_str text) str_facts refl (omega arith) (omega arith) (str_keeps 63 text h)

good_number : (n : ℕ) → n < 2 ^ 32 → Good (V.U32 n) 1
good_number n h = good (V.U32 n) W.U32 Basic 0 0 1 (type_u32 n) u32_facts refl (omega arith) (omega arith) (number_keeps 63 n h)

good_texts : (ts : List (List ℕ)) → All IsText ts → Good (texts_value ts) 2
good_texts ts h = good (texts_value ts) strings Single 1 0 2 (type_array W.Str (each_text ts)) strings_facts refl (omega arith) (omega arith) (texts_keep 62 ts h)

good_closed : (bs : List ℕ) → All IsByte bs → Good (closed_bytes bs) 2
good_closed bs h = good (closed_bytes bs) bytes Single 1 0 2 (type_bytes (bs ++ 0 ∷ [])) bytes_facts refl (omega arith) (omega arith) (closed_keeps 62 bs h)

pub good_rows : (rows : List Row) → All HasTexts rows → Good (rows_value rows) 6
good_rows rows h =
    good (rows_value rows) (W.Array row_type) Single 2 1 6 (type_array row_type (map row_value rows)) rows_facts refl (omega arith) (omega arith)
    (array_keeps 63 row_type (map row_value rows) (entry_no_byte W.Str strings) (each_row 60 rows h))

-- data as a variant
pub good_variant : (datum : Value) → is_data datum ≡ true → Good (V.Variant datum) 1
good_variant datum h =
    let single : IsValidType W.Variant = valid W.Variant Single 0 0 role_variant refl arrays_variant brackets_variant (omega arith) (omega arith) in
    let kept = spelled_keeps Little 0 W.Variant (V.Variant datum) (spelling Little 0 (V.Variant datum)) (data-spelled datum h).spelled single in
    (kept.1, ap (λ (u : WireType). length (type_text u)) (type_variant datum) ∙ variant_facts.3)

good_documents : (documents : List ListedDocument) → All HasBytes documents → Good (documents_value documents) 6
good_documents documents h =
    good (documents_value documents) (W.Array listed_type) Single 2 1 6 (type_array listed_type (map listed_value documents)) documents_facts refl (omega arith) (omega arith)
    (array_keeps 63 listed_type (map listed_value documents) (entry_no_byte W.Str bytes) (each_listed 60 documents h))

variant_keeps : (d : ℕ) (bs : List ℕ) → All IsByte bs → KeepsWithin (suc (suc (suc d))) (V.Variant (closed_bytes bs))
unfolding KeepsWithin
variant_keeps d bs h =
    subst (ValueKeeps (KeepsWithin (suc (suc d)))) (sym (out_variant (closed_bytes bs)))
    (subst IsVariantType (sym (type_bytes (bs ++ 0 ∷ []))) bytes_variant, closed_keeps d bs h)
  where
    bytes_variant : IsVariantType bytes
    bytes_variant = (valid bytes Single 1 0 bytes_facts.0 refl bytes_facts.1 bytes_facts.2 (omega arith) (omega arith), omega (arith, bytes_facts.3))

good_extra : (mountpoint : List ℕ) → All IsByte mountpoint → Good (extra mountpoint) 5
good_extra mountpoint h =
    let key : Value = V.Str (codes "mountpoint") in
    let value : Value = V.Variant (closed_bytes mountpoint) in
    let entry : Value = V.DictEntry key value in
    let item : IsItem 63 extra_type entry = (
      type_entry key value ∙ (λ i. W.DictEntry (type_str (codes "mountpoint") i) (type_variant (closed_bytes mountpoint) i)),
      entry_keeps 62 key value (str_keeps 61 (codes "mountpoint") (member_text (codes "mountpoint") refl)) (variant_keeps 59 mountpoint h),
    ) in
    good (extra mountpoint) (W.Array extra_type) Single 1 1 5 (type_array extra_type (entry ∷ [])) extras_facts refl (omega arith) (omega arith)
    (array_keeps 63 extra_type (entry ∷ []) (entry_no_byte W.Str W.Variant) (All-cons (IsItem 63 extra_type) entry [] item (All-nil (IsItem 63 extra_type))))

-- ---- bodies

no_values : IsGoodBody []
no_values = (All-nil KeepsRules, omega arith)

one_value : (v : Value) (n : ℕ) → n ≤ 200 → Good v n → IsGoodBody (v ∷ [])
one_value v n le h = (All-cons KeepsRules v [] h.0 (All-nil KeepsRules), omega (arith, length-append (type_text (type_of v)) [], h.1, le))

two_values : (v w : Value) (m n : ℕ) → m + n ≤ 200 → Good v m → Good w n → IsGoodBody (v ∷ w ∷ [])
two_values v w m n le h g = (
  All-cons KeepsRules v (w ∷ []) h.0 (All-cons KeepsRules w [] g.0 (All-nil KeepsRules)),
  omega (arith, length-append (type_text (type_of v)) (type_text (type_of w) ++ []), length-append (type_text (type_of w)) [], h.1, g.1, le),
)

-- the mount point
module _ (mountpoint : List ℕ) (path : All IsByte mountpoint) where
  one_text : (ids : List (List ℕ)) → All IsText ids → length ids ≡ 1 → IsGoodBody (each_text ids)
  one_text [] h one = absurd cc
  one_text (id ∷ []) h one = one_value (V.Str id) 1 (omega arith) (good_str id (All-head IsText id [] h))
  one_text (id ∷ more ∷ ids) h one = absurd (omega (arith, one))

  text_and_extra : (ids : List (List ℕ)) → All IsText ids → length ids ≡ 1 → IsGoodBody (each_text ids ++ extra mountpoint ∷ [])
  text_and_extra [] h one = absurd cc
  text_and_extra (id ∷ []) h one = two_values (V.Str id) (extra mountpoint) 1 5 (omega arith) (good_str id (All-head IsText id [] h)) (good_extra mountpoint path)
  text_and_extra (id ∷ more ∷ ids) h one = absurd (omega (arith, one))

  good_identifiers : (method : Method) (ids : List (List ℕ)) → All IsText ids → HasItsIdentifiers method ids → IsGoodBody (identifiers method mountpoint ids)
  good_identifiers M.AddFull ids h one = two_values (texts_value ids) (extra mountpoint) 2 5 (omega arith) (good_texts ids h) (good_extra mountpoint path)
  good_identifiers M.AddNamedFull ids h one = text_and_extra ids h one
  good_identifiers M.Add ids h one = one_text ids h one
  good_identifiers M.AddNamed ids h one = one_text ids h one
  good_identifiers M.LookupDocument ids h one = one_text ids h one
  good_identifiers M.GetMountPoint ids h one = one_text ids h one
  good_identifiers M.GrantPermissions ids h one = one_text ids h one
  good_identifiers M.RevokePermissions ids h one = one_text ids h one
  good_identifiers M.DeleteDocument ids h one = one_text ids h one
  good_identifiers M.Info ids h one = one_text ids h one
  good_identifiers M.ListDocuments ids h one = one_text ids h one
  good_identifiers M.LookupEntry ids h one = one_text ids h one
  good_identifiers M.SetEntry ids h one = one_text ids h one
  good_identifiers M.DeleteEntry ids h one = one_text ids h one
  good_identifiers M.SetValue ids h one = one_text ids h one
  good_identifiers M.SetPermission ids h one = one_text ids h one
  good_identifiers M.DeletePermission ids h one = one_text ids h one
  good_identifiers M.GetPermission ids h one = one_text ids h one
  good_identifiers M.ListEntries ids h one = one_text ids h one
  good_identifiers M.Present ids h one = one_text ids h one
  good_identifiers M.Get ids h one = one_text ids h one
  good_identifiers M.GetAll ids h one = one_text ids h one
  good_identifiers M.Ping ids h one = one_text ids h one

  pub told_body : (method : Method) (answer : Answer) → IsTold method answer → IsInUtf8 answer → IsGoodBody (body_of method mountpoint answer)
  told_body method (A.Place place) h utf8 = one_value (V.U32 place) 1 (omega arith) (good_number place h)
  told_body method (A.Ids ids) h utf8 = good_identifiers method ids h.0 h.1
  told_body method (A.Entry rows datum) h utf8 = two_values (rows_value rows) (V.Variant datum) 6 1 (omega arith) (good_rows rows (stored_rows_texts rows h.0 utf8)) (good_variant datum h.1)
  told_body method (A.Names names) h utf8 = one_value (texts_value names) 2 (omega arith) (good_texts names (stored_texts names h utf8))
  told_body method (A.Info path rights) h utf8 = two_values (closed_bytes path) (rows_value rights) 2 6 (omega arith) (good_closed path h.0) (good_rows rights h.1)
  told_body method (A.Listed documents) h utf8 = one_value (documents_value documents) 6 (omega arith) (good_documents documents h)
  told_body method A.Done h utf8 = no_values
  told_body method (A.Refused code) h utf8 = no_values
  told_body method (A.Node answer) h utf8 = no_values
