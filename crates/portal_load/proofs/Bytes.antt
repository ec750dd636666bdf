-- What the requests and the files of the load carry are bytes, and few.
use Rattle.std.proofs.Common.{◌≡◌, ℕ, ◌+◌, ◌*◌, ◌<◌, ◌≤◌, ◌%◌, Bool, true, false, List, [], ◌∷◌, ◌++◌, length, map, replicate, refl, sym, ap, subst, ◌∙◌, arith}
use Rattle.std.specs.Prelude.{◌==◌, if◌then◌else◌, codes, nat_lt}
use Rattle.std.specs.Int.{bytes_low_first, w32}
use Rattle.std.specs.List.{list_all}
use Rattle.std.proofs.lemmas.Bool.{and_parts, leb-true, ltb-true}
use Rattle.std.proofs.lemmas.List.Elements.{All-append, All-cons, All-nil, All-replicate, All-weaker}
use Rattle.dbus_types.specs.declared.types.Endian.TheVariants.{Little}
use Rattle.dbus_types.specs.declared.types.WireType.{the_lemmas as type_lemmas}
use Rattle.dbus_types.specs.declared.types.WireType.TheVariants as W
use Rattle.dbus_types.specs.declared.types.Value.{Value, the_lemmas}
use Rattle.dbus_types.specs.declared.types.Value.TheVariants as V
use Rattle.dbus_types.specs.Types.{alignment, type_text, types_text}
use Rattle.dbus_values.specs.Values.{type_of}
use Rattle.dbus_values.specs.Spells.{number, gap}
use Rattle.dbus_values.specs.Spelling.{spelled, spelling, spellings}
use Rattle.dbus_values.proofs.OneSpelling.{roll_path, roll_signature, roll_str}
use Rattle.dbus_message.specs.Fields.{field_type}
use Rattle.dbus_message.specs.Written.{field, signature_field}
use Rattle.dbus_message.proofs.WrittenAreMessages.{field_alignment}
use Rattle.fuse_wire.specs.Frames.{header_len}
use Rattle.fuse_reply.specs.declared.field.Field.{Field}
use Rattle.fuse_reply.specs.declared.field.Field.TheVariants.{Two, Four, Eight}
use Rattle.fuse_reply.specs.Fields.{spelled as spelled_fields}
use Rattle.portal_base.specs.Names.{doc_text}
use Rattle.script_lines.specs.Lines.{AreBytes}
use Rattle.portal_load.specs.declared.draw.Asked.{Asked}
use Rattle.portal_load.specs.declared.draw.Asked.TheVariants.{Lookup, GetAttr, Open, Read, Write, Release, Rights}
use Rattle.portal_load.specs.declared.draw.Draw.{Draw}
use Rattle.portal_load.specs.Calls.{app_name, call_fields, call_of, documents_interface, documents_path, laid, member_at, rights_body}
use Rattle.portal_load.specs.Frames.{body_of, frame_asked, fuse_in_header, getattr_in, node_of, open_in, opcode_of, read_in, release_in}
use Rattle.portal_load.specs.Lines.{bytes_of, file_content}
use Rattle.portal_load.proofs.Identifiers.{identifier_ascii}
use Rattle.portal_load.proofs.Spellings.{IsSmall, SmallRow, array_small, field_small, number_bytes, path_small, row_more, row_none, signature_small, small_append, small_gap, small_more, small_number, small_zeros, str_small}

-- a list each of whose numbers passes the test
pub tested : (bs : List ℕ) → list_all (λ b. nat_lt b 256) bs ≡ true → AreBytes bs
tested [] h = All-nil (λ b. b < 256)
tested (b ∷ bs) h =
    let parts = and_parts (nat_lt b 256) (list_all (λ c. nat_lt c 256) bs) h in
    All-cons (λ c. c < 256) b bs (ltb-true b 256 parts.0) (tested bs parts.1)

pub content_bytes : (n : ℕ) → n < 16 → AreBytes (file_content n)
unfolding file_content
content_bytes n h = All-replicate (λ b. b < 256) 4096 n (omega arith)

-- ---- frames

fields_bytes : (fields : List Field) → AreBytes (spelled_fields fields)
fields_bytes [] = All-nil (λ b. b < 256)
fields_bytes (Two n ∷ fields) = All-append (λ b. b < 256) (bytes_low_first 0 2 n) (spelled_fields fields) (number_bytes 0 2 n) (fields_bytes fields)
fields_bytes (Four n ∷ fields) = All-append (λ b. b < 256) (bytes_low_first 0 4 n) (spelled_fields fields) (number_bytes 0 4 n) (fields_bytes fields)
fields_bytes (Eight n ∷ fields) = All-append (λ b. b < 256) (bytes_low_first 0 8 n) (spelled_fields fields) (number_bytes 0 8 n) (fields_bytes fields)

identifier_small : (n : ℕ) → IsSmall 8 (doc_text n)
unfolding doc_text
identifier_small n = record { bytes = All-weaker (λ b. b < 128) (λ b. b < 256) (λ b h. omega arith) (doc_text n) (identifier_ascii n); short = leb-true (length (doc_text n)) 8 refl }

body_small : (asked : Asked) (draw : Draw) → IsSmall 56 (body_of asked draw)
body_small Lookup draw = small_more (8 + 1) 56 (body_of Lookup draw) (omega arith) (small_append 8 1 (doc_text draw.document) (0 ∷ []) (identifier_small draw.document) (small_zeros 1 1 (omega arith)))
body_small GetAttr draw = record { bytes = fields_bytes getattr_in; short = leb-true (length (body_of GetAttr draw)) 56 refl }
body_small Open draw = record { bytes = fields_bytes open_in; short = leb-true (length (body_of Open draw)) 56 refl }
body_small Read draw = record { bytes = fields_bytes (read_in (draw.place + 1) 0 4096); short = leb-true (length (body_of Read draw)) 56 refl }
body_small Write draw =
    let fields : List Field = read_in (draw.place + 1) (4 * draw.place) 16 in
    small_append 40 16 (spelled_fields fields) (replicate 16 0) (record { bytes = fields_bytes fields; short = leb-true (length (spelled_fields fields)) 40 refl }) (small_zeros 16 16 (omega arith))
body_small Release draw = record { bytes = fields_bytes (release_in (draw.place + 1)); short = leb-true (length (body_of Release draw)) 56 refl }
body_small Rights draw = record { bytes = All-nil (λ b. b < 256); short = omega arith }

frame_small : (request : ℕ) (draw : Draw) → IsSmall 269 (frame_asked request draw)
frame_small request draw =
    let body = body_of draw.asked draw in
    let header : List Field = fuse_in_header (header_len + length body) (opcode_of draw.asked) request (node_of draw.asked draw.document) in
    let ahead : IsSmall 40 (spelled_fields header) = record { bytes = fields_bytes header; short = leb-true (length (spelled_fields header)) 40 refl } in
    small_more (40 + 56) 269 (frame_asked request draw) (omega arith) (small_append 40 56 (spelled_fields header) body ahead (body_small draw.asked draw))

-- ---- calls

text_str : type_text W.Str ≡ 115 ∷ []
text_str = search type_lemmas

text_path : type_text W.ObjectPath ≡ 111 ∷ []
text_path = search type_lemmas

text_signature : type_text W.Signature ≡ 103 ∷ []
text_signature = search type_lemmas

text_strings : type_text (W.Array W.Str) ≡ 97 ∷ type_text W.Str
text_strings = search type_lemmas

str_alignment : alignment W.Str ≡ 4
str_alignment = search type_lemmas

type_str : (text : List ℕ) → type_of (V.Str text) ≡ W.Str
type_str text = search the_lemmas

type_strings : (vs : List Value) → type_of (V.Array W.Str vs) ≡ W.Array W.Str
type_strings vs = search the_lemmas

code_str : (text : List ℕ) → type_text (spelled Little (V.Str text)).0 ≡ 115 ∷ []
code_str text = ap (λ s. type_text s.0) (roll_str Little text) ∙ text_str

code_path : (text : List ℕ) → type_text (spelled Little (V.ObjectPath text)).0 ≡ 111 ∷ []
code_path text = ap (λ s. type_text s.0) (roll_path Little text) ∙ text_path

code_signature : (text : List ℕ) → type_text (spelled Little (V.Signature text)).0 ≡ 103 ∷ []
code_signature text = ap (λ s. type_text s.0) (roll_signature Little text) ∙ text_signature

-- the rights that are granted and revoked
abbrev rights : List Value
rights = V.Str (codes "read") ∷ V.Str (codes "write") ∷ []

-- "ssas"
signature_is : (document app : List ℕ) → types_text (map type_of (V.Str document ∷ V.Str app ∷ V.Array W.Str rights ∷ [])) ≡ 115 ∷ 115 ∷ 97 ∷ 115 ∷ []
signature_is document app =
    (λ i. type_text (type_str document i) ++ (type_text (type_str app i) ++ (type_text (type_strings rights i) ++ [])))
    ∙ ((λ i. text_str i ++ (text_str i ++ (text_strings i ++ []))) ∙ ap (λ (text : List ℕ). 115 ∷ 115 ∷ 97 ∷ (text ++ [])) text_str)

concrete : (bs : List ℕ) (k : ℕ) → list_all (λ b. nat_lt b 256) bs ≡ true → length bs ≤ k → IsSmall k bs
concrete bs k h short = record { bytes = tested bs h; short = short }

fields_small : (member document app : List ℕ) → IsSmall 17 member
    → IsSmall 179 (spelling Little 12 (V.Array field_type (call_fields member (V.Str document ∷ V.Str app ∷ V.Array W.Str rights ∷ []))))
fields_small member document app h =
    let body : List Value = V.Str document ∷ V.Str app ∷ V.Array W.Str rights ∷ [] in
    let text : List ℕ = types_text (map type_of body) in
    let signature : IsSmall 4 text = subst (λ (x : List ℕ). IsSmall 4 x) (sym (signature_is document app)) (concrete (115 ∷ 115 ∷ 97 ∷ 115 ∷ []) 4 refl (omega arith)) in
    let path = field_small 1 (V.ObjectPath documents_path) 111 (33 + 9) (omega arith) (omega arith) (code_path documents_path) (path_small documents_path 33 (concrete documents_path 33 refl (leb-true (length documents_path) 33 refl))) in
    let interface = field_small 2 (V.Str documents_interface) 115 (32 + 9) (omega arith) (omega arith) (code_str documents_interface) (str_small documents_interface 32 (concrete documents_interface 32 refl (leb-true (length documents_interface) 32 refl))) in
    let name = field_small 3 (V.Str member) 115 (17 + 9) (omega arith) (omega arith) (code_str member) (str_small member 17 h) in
    let last = field_small 8 (V.Signature text) 103 (4 + 2) (omega arith) (omega arith) (code_signature text) (signature_small text 4 signature) in
    let f1 : Value = field 1 (V.ObjectPath documents_path) in
    let f2 : Value = field 2 (V.Str documents_interface) in
    let f3 : Value = field 3 (V.Str member) in
    let f4 : Value = signature_field body in
    let row : SmallRow (54 + (53 + (38 + (18 + 0)))) (f1 ∷ f2 ∷ f3 ∷ f4 ∷ []) =
    row_more 54 (53 + (38 + (18 + 0))) f1 (f2 ∷ f3 ∷ f4 ∷ []) path (row_more 53 (38 + (18 + 0)) f2 (f3 ∷ f4 ∷ []) interface (row_more 38 (18 + 0) f3 (f4 ∷ []) name (row_more 18 0 f4 [] last row_none))) in
    array_small field_type (call_fields member body) 8 (54 + (53 + (38 + (18 + 0)))) field_alignment (omega arith) row 12

values_small : (document app : List ℕ) → IsSmall 8 document → IsSmall 5 app → IsSmall 70 (spellings Little 0 (V.Str document ∷ V.Str app ∷ V.Array W.Str rights ∷ []))
values_small document app d a =
    let items : SmallRow (13 + (14 + 0)) rights =
    row_more 13 (14 + 0) (V.Str (codes "read")) (V.Str (codes "write") ∷ []) (str_small (codes "read") 4 (concrete (codes "read") 4 refl (omega arith)))
    (row_more 14 0 (V.Str (codes "write")) [] (str_small (codes "write") 5 (concrete (codes "write") 5 refl (omega arith))) row_none) in
    let strings = array_small W.Str rights 4 (13 + (14 + 0)) str_alignment (omega arith) items in
    row_more 17 (14 + (39 + 0)) (V.Str document) (V.Str app ∷ V.Array W.Str rights ∷ []) (str_small document 8 d)
    (row_more 14 (39 + 0) (V.Str app) (V.Array W.Str rights ∷ []) (str_small app 5 a) (row_more 39 0 (V.Array W.Str rights) [] strings row_none)) 0

laid_small : (serial : ℕ) (fields body : List ℕ) → IsSmall 179 fields → IsSmall 70 body → IsSmall 269 (laid serial fields body)
laid_small serial fields body f b =
    let padding : List ℕ = replicate (gap 8 (12 + length fields)) 0 in
    let last = small_append 8 70 padding body (small_gap 8 (12 + length fields) (omega arith)) b in
    let behind = small_append 179 78 fields (padding ++ body) f last in
    let numbered = small_append 4 257 (number Little w32 serial) (fields ++ (padding ++ body)) (small_number serial) behind in
    let measured = small_append 4 261 (number Little w32 (length body)) (number Little w32 serial ++ (fields ++ (padding ++ body))) (small_number (length body)) numbered in
    small_append 4 265 (108 ∷ 1 ∷ 0 ∷ 1 ∷ []) (number Little w32 (length body) ++ (number Little w32 serial ++ (fields ++ (padding ++ body)))) (concrete (108 ∷ 1 ∷ 0 ∷ 1 ∷ []) 4 refl (omega arith)) measured

one_member : (even : Bool) → IsSmall 17 (if even then codes "GrantPermissions" else codes "RevokePermissions")
one_member true = concrete (codes "GrantPermissions") 17 refl (leb-true (length (codes "GrantPermissions")) 17 refl)
one_member false = concrete (codes "RevokePermissions") 17 refl (leb-true (length (codes "RevokePermissions")) 17 refl)

one_name : (a b c : Bool) → IsSmall 5 (if a then codes "app.a" else if b then codes "app.b" else if c then codes "app.c" else codes "app.d")
one_name true b c = concrete (codes "app.a") 5 refl (omega arith)
one_name false true c = concrete (codes "app.b") 5 refl (omega arith)
one_name false false true = concrete (codes "app.c") 5 refl (omega arith)
one_name false false false = concrete (codes "app.d") 5 refl (omega arith)

pub name_small : (app : ℕ) → IsSmall 5 (app_name app)
name_small app = one_name (app == 0) (app == 1) (app == 2)

call_small : (request : ℕ) (draw : Draw) → IsSmall 269 (call_of request (member_at draw.place) (rights_body draw))
unfolding call_of
call_small request draw =
    let member = member_at draw.place in
    let document = doc_text draw.document in
    let name = app_name draw.app in
    laid_small request (spelling Little 12 (V.Array field_type (call_fields member (rights_body draw)))) (spellings Little 0 (rights_body draw))
    (fields_small member document name (one_member (draw.place % 2 == 0)))
    (values_small document name (identifier_small draw.document) (name_small draw.app))

-- ---- requests

asked_small : (asked : Asked) (request : ℕ) (draw : Draw) → IsSmall 269 (bytes_of asked request draw)
asked_small Rights request draw = call_small request draw
asked_small Lookup request draw = frame_small request draw
asked_small GetAttr request draw = frame_small request draw
asked_small Open request draw = frame_small request draw
asked_small Read request draw = frame_small request draw
asked_small Write request draw = frame_small request draw
asked_small Release request draw = frame_small request draw

pub request_small : (request : ℕ) (draw : Draw) → IsSmall 269 (bytes_of draw.asked request draw)
request_small request draw = asked_small draw.asked request draw
