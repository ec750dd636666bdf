-- What is answered can be written.
use Rattle.std.proofs.Common.{◌≡◌, ◌≢◌, ℕ, ◌+◌, ◌<◌, ◌≤◌, ◌^◌, Bool, true, false, cond, List, [], ◌∷◌, length, map, ◌∙◌, Option, Some, None, Result, Ok, Err, refl, sym, subst, arith}
use Rattle.std.specs.Prelude.{All, IsTrue, IfOk, ok_or, nat_le, ◌&&◌, ◌||◌}
use Rattle.std.specs.List.{list_all, slice_split}
use Rattle.std.specs.Str.{bytes_eq, is_utf8}
use Rattle.std.specs.Option.{option_map}
use Rattle.std.proofs.lemmas.Bool.{and_parts, leb-true}
use Rattle.std.proofs.lemmas.List.Elements.{All-nil, All-cons}
use Rattle.portal_base.specs.declared.limits.Settings.{Settings}
use Rattle.portal_base.specs.Names.{is_same, is_slash, is_rooted, root, is_byte_of_path, has_path_form, path_limit, is_host_path}
use Rattle.dbus_types.specs.declared.types.Endian.TheVariants.{Little}
use Rattle.dbus_types.specs.declared.types.WireType.{the_lemmas as type_lemmas}
use Rattle.dbus_types.specs.declared.types.Value.{Value}
use Rattle.dbus_types.specs.declared.types.Value.TheVariants as V
use Rattle.dbus_types.specs.declared.message.Message.{Message}
use Rattle.dbus_types.specs.declared.message.OutMessage.{OutMessage}
use Rattle.dbus_types.specs.declared.message.OutMessage.TheVariants.{Return, Error}
use Rattle.dbus_types.specs.Names.{is_interface_name}
use Rattle.dbus_types.specs.Types.{alignment, types_text}
use Rattle.dbus_values.specs.Values.{type_of}
use Rattle.dbus_values.specs.Spelling.{spelling, spellings}
use Rattle.dbus_message.specs.Fields.{field_type}
use Rattle.dbus_message.specs.Written.{field, signature_field, last_part, kind_out, body_out, fields_out, IsGoodBody, KeepsKinds, CanWrite, message_bytes}
use Rattle.dbus_message.proofs.WrittenHasSpelling.{part_good}
use Rattle.dbus_message.proofs.WriteMessage.{whole_len}
use Rattle.portal_model.specs.Changed.{message_limit}
use Rattle.portal_model.specs.declared.reply.Answer.{Answer}
use Rattle.portal_model.specs.declared.request.Request.{Request}
use Rattle.dbus_calls.specs.declared.object.Object.{Object}
use Rattle.dbus_calls.specs.declared.interface.Interface.{Interface}
use Rattle.dbus_calls.specs.declared.interface.Interface.TheVariants as I
use Rattle.dbus_calls.specs.declared.method.Method.{Method}
use Rattle.dbus_calls.specs.declared.method.Method.TheVariants as M
use Rattle.dbus_calls.specs.declared.error_name.ErrorName.{ErrorName}
use Rattle.dbus_calls.specs.declared.error_name.ErrorName.TheVariants as E
use Rattle.dbus_calls.specs.declared.error_name.ErrorName.TheVariants.{UnknownProperty}
use Rattle.dbus_dispatch.specs.declared.ask.Ask.{Ask}
use Rattle.dbus_dispatch.specs.declared.ask.Ask.TheVariants.{Local, Ignore}
use Rattle.dbus_calls.specs.Tables.{Property, version, properties_of}
use Rattle.dbus_calls.specs.Errors.{error_name, error_to}
use Rattle.dbus_calls.specs.Calls.{object_of, found, called}
use Rattle.dbus_dispatch.specs.Properties.{texts, interface_or, value_named, value_or, value_in, interface_in, variant_of, dictionary}
use Rattle.dbus_requests.specs.Arguments.{request_in}
use Rattle.dbus_dispatch.specs.Asks.{is_call, answered, closed_bytes, asked_of_portal, asked, asked_or_refused, ask_of}
use Rattle.dbus_dispatch.specs.Replies.{error_in, body_of, return_length, told, reply_by, reply_of}
use Rattle.dbus_dispatch.specs.Writable.{CanBeAnswered, IsInUtf8, IsTold, IsToldTo, IsWritable}
use Rattle.dbus_dispatch.proofs.Lengths.{Below, below_more, below_u32, below_str, below_signature, code_u32, code_str, code_signature, below_field, below_array, gap_small, total, each_length}
use Rattle.dbus_dispatch.proofs.Bodies.{IsShortBody, none_short, variant_short, bytes_short, dictionary_short}
use Rattle.dbus_dispatch.proofs.Told.{told_body}
use Rattle.dbus_dispatch.proofs.Utf8.{utf8_bytes}

-- ---- messages

abbrev Short : Value → Type 0
Short = Below 300

field_alignment : alignment field_type ≡ 8
field_alignment = search type_lemmas

number_field : (n : ℕ) → Short (field 5 (V.U32 n))
number_field n = below_more 20 300 _ (omega arith) (below_field 5 (V.U32 n) 8 (code_u32 n) (below_u32 n))

body_field : (body : List Value) → length (types_text (map type_of body)) ≤ 255 → Short (signature_field body)
body_field body le = below_more 269 300 _ (omega arith) (below_field 8 (V.Signature (types_text (map type_of body))) 257 (code_signature _) (below_signature (types_text (map type_of body)) 255 le))

name_field : (name : List ℕ) → length name ≤ 255 → Short (field 4 (V.Str name))
name_field name le = below_more 276 300 _ (omega arith) (below_field 4 (V.Str name) 264 (code_str name) (below_str name 255 le))

-- few short fields and a short body
can_write : (out : OutMessage) (serial : ℕ) → serial ≢ 0 → KeepsKinds out → All Short (fields_out out) → total 300 (fields_out out) ≤ 900 → length (spellings Little 0 (body_out out)) ≤ 8192 → CanWrite out serial
can_write out serial some kinds fields few short =
    let F : List ℕ = spelling Little 12 (V.Array field_type (fields_out out)) in
    let B : List ℕ = spellings Little 0 (body_out out) in (
      some,
      kinds,
      omega (
        arith,
        whole_len (kind_out out) serial F B,
        below_array field_type (fields_out out) 300 (omega (arith, field_alignment)) (omega (arith, field_alignment)) fields 12,
        few,
        short,
        gap_small 8 (12 + length F) (omega arith),
      ),
    )

both : (f g : Value) → Short f → Short g → All Short (f ∷ g ∷ [])
both f g h k = All-cons Short f (g ∷ []) h (All-cons Short g [] k (All-nil Short))

can_return : (to : ℕ) (body : List Value) (serial : ℕ) → to < 2 ^ 32 → IsShortBody body → serial ≢ 0 → CanWrite (Return to body) serial
can_return to [] serial fits h some =
    can_write (Return to []) serial some (fits, h.0) (All-cons Short (field 5 (V.U32 to)) [] (number_field to) (All-nil Short)) (omega arith) h.1
can_return to (v ∷ vs) serial fits h some =
    can_write (Return to (v ∷ vs)) serial some (fits, h.0) (both (field 5 (V.U32 to)) (signature_field (v ∷ vs)) (number_field to) (body_field (v ∷ vs) h.0.1)) (omega arith) h.1

-- a name of an error, which is short
abbrev IsShortName : List ℕ → Type 0
IsShortName name = IsTrue (is_interface_name name) × (length name ≤ 255) × (length (last_part name) ≤ 255)

can_error : (to : ℕ) (name : List ℕ) (serial : ℕ) → to < 2 ^ 32 → IsShortName name → serial ≢ 0 → CanWrite (Error to name) serial
can_error to name serial fits h some =
    let text : Value = V.Str (last_part name) in
    let below : Below 264 text = below_str (last_part name) 255 h.2 in
    can_write (Error to name) serial some (fits, h.0)
    (All-cons Short (field 4 (V.Str name)) (field 5 (V.U32 to) ∷ signature_field (text ∷ []) ∷ []) (name_field name h.1) (both (field 5 (V.U32 to)) (signature_field (text ∷ [])) (number_field to) (body_field (text ∷ []) (part_good name h.0).1))) (omega arith)
    (omega (arith, each_length 264 (text ∷ []) (All-cons (Below 264) text [] below (All-nil (Below 264))) 0))

short_name : (e : ErrorName) → IsShortName (error_name e)
short_name E.UnknownObject = (refl, omega arith, omega arith)
short_name E.UnknownInterface = (refl, omega arith, omega arith)
short_name E.UnknownMethod = (refl, omega arith, omega arith)
short_name E.UnknownProperty = (refl, omega arith, omega arith)
short_name E.InvalidArgs = (refl, omega arith, omega arith)
short_name E.AccessDenied = (refl, omega arith, omega arith)
short_name E.LimitsExceeded = (refl, omega arith, omega arith)
short_name E.NoMemory = (refl, omega arith, omega arith)
short_name E.NotFound = (refl, omega arith, omega arith)
short_name E.NotAllowed = (refl, omega arith, omega arith)
short_name E.InvalidArgument = (refl, omega arith, omega arith)
short_name E.Failed = (refl, omega arith, omega arith)

-- ---- properties

abbrev Fits : ℕ → Type 0
Fits n = n < 2 ^ 32

-- a test picks the one property, or none
picked : (b : Bool) (p : Property) → Fits p.value → IfOk (ok_or (option_map (λ (property : Property). property.value) (cond b (Some p) None)) UnknownProperty) Fits
picked true p h = h
picked false p h = tt

value_fits : (name : List ℕ) (interface : Interface) → IfOk (ok_or (value_named name interface) UnknownProperty) Fits
value_fits name I.Documents = picked (bytes_eq name (version 4).name) (version 4) (omega arith)
value_fits name I.PermissionStore = picked (bytes_eq name (version 2).name) (version 2) (omega arith)
value_fits name I.Files = tt
value_fits name I.Properties = tt
value_fits name I.Peer = tt

value_or_fits : (name : List ℕ) (r : Result Interface ErrorName) → IfOk (value_or name r) Fits
value_or_fits name (Ok interface) = value_fits name interface
value_or_fits name (Err e) = tt

value_in_fits : (object : Object) (arguments : List (Option (List ℕ))) → IfOk (value_in object arguments) Fits
value_in_fits object [] = tt
value_in_fits object (None ∷ rest) = tt
value_in_fits object (Some interface ∷ []) = tt
value_in_fits object (Some interface ∷ None ∷ rest) = tt
value_in_fits object (Some interface ∷ Some name ∷ []) = value_or_fits name (interface_or object interface)
value_in_fits object (Some interface ∷ Some name ∷ x ∷ rest) = tt

-- ---- answers

-- the mount point, and the call that is answered
module _ (mountpoint : List ℕ) (call : Message) (path : is_host_path mountpoint ≡ true) (fits : call.serial < 2 ^ 32) where
  returns : (body : List Value) → IsShortBody body → CanBeAnswered (Local (Return call.serial body))
  returns body h serial some small = can_return call.serial body serial fits h some

  fails : (e : ErrorName) → CanBeAnswered (Local (error_to call e))
  fails e serial some small = can_error call.serial (error_name e) serial fits (short_name e) some

  answers : {A : Type 0} (value : A → Value) (P : A → Type 0) (r : Result A ErrorName) → IfOk r P → ((x : A) → P x → IsShortBody (value x ∷ [])) → CanBeAnswered (Local (answered call value r))
  answers value P (Ok x) h k = returns (value x ∷ []) (k x h)
  answers value P (Err e) h k = fails e

  mount_bytes : All (λ b. b < 256) mountpoint
  unfolding is_host_path
  mount_bytes =
      let rule = and_parts (has_path_form mountpoint) (nat_le (length mountpoint) path_limit) path in
      let text : List ℕ = mountpoint in
      let form = and_parts (is_utf8 text && list_all is_byte_of_path text) (is_same text root || is_rooted (slice_split is_slash text)) rule.0 in
      let utf8 = and_parts (is_utf8 text) (list_all is_byte_of_path text) form.0 in
      utf8_bytes mountpoint utf8.0

  mount_short : IsShortBody (closed_bytes mountpoint ∷ [])
  unfolding is_host_path
  mount_short =
      let rule = and_parts (has_path_form mountpoint) (nat_le (length mountpoint) path_limit) path in
      bytes_short mountpoint mount_bytes (leb-true (length mountpoint) path_limit rule.1)

  any_interface : (r : Result Interface ErrorName) → IfOk r (λ interface. Unit {0})
  any_interface (Ok interface) = tt
  any_interface (Err e) = tt

  portal_can : (o : Option Request) → CanBeAnswered (asked_of_portal call o)
  portal_can (Some request) = tt
  portal_can None = fails E.InvalidArgs

  asked_can : (method : Method) → CanBeAnswered (asked mountpoint call method)
  asked_can M.Ping = returns [] none_short
  asked_can M.Get = answers variant_of Fits (value_in (object_of call) (texts call.body)) (value_in_fits (object_of call) (texts call.body)) variant_short
  asked_can M.GetAll =
      let r = interface_in (object_of call) (texts call.body) in
      answers (λ interface. dictionary (properties_of interface)) (λ interface. Unit {0}) r (any_interface r) (λ interface u. dictionary_short interface)
  asked_can M.GetMountPoint = returns (closed_bytes mountpoint ∷ []) mount_short
  asked_can M.Add = portal_can (request_in call M.Add)
  asked_can M.AddNamed = portal_can (request_in call M.AddNamed)
  asked_can M.AddFull = portal_can (request_in call M.AddFull)
  asked_can M.AddNamedFull = portal_can (request_in call M.AddNamedFull)
  asked_can M.GrantPermissions = portal_can (request_in call M.GrantPermissions)
  asked_can M.RevokePermissions = portal_can (request_in call M.RevokePermissions)
  asked_can M.DeleteDocument = portal_can (request_in call M.DeleteDocument)
  asked_can M.LookupDocument = portal_can (request_in call M.LookupDocument)
  asked_can M.Info = portal_can (request_in call M.Info)
  asked_can M.ListDocuments = portal_can (request_in call M.ListDocuments)
  asked_can M.LookupEntry = portal_can (request_in call M.LookupEntry)
  asked_can M.SetEntry = portal_can (request_in call M.SetEntry)
  asked_can M.DeleteEntry = portal_can (request_in call M.DeleteEntry)
  asked_can M.SetValue = portal_can (request_in call M.SetValue)
  asked_can M.SetPermission = portal_can (request_in call M.SetPermission)
  asked_can M.DeletePermission = portal_can (request_in call M.DeletePermission)
  asked_can M.GetPermission = portal_can (request_in call M.GetPermission)
  asked_can M.ListEntries = portal_can (request_in call M.ListEntries)
  asked_can M.Present = portal_can (request_in call M.Present)

  call_can : (r : Result Method ErrorName) → CanBeAnswered (asked_or_refused mountpoint call r)
  call_can (Ok method) = asked_can method
  call_can (Err e) = fails e

  message_can : (b : Bool) → CanBeAnswered (cond b (asked_or_refused mountpoint call (called call)) Ignore)
  message_can true = call_can (called call)
  message_can false = tt

  -- an ask that was built
  pub asked_writes : {E : Type 0} (r : Result Ask E) (method : Method) → IfOk r (λ ask. ask ≡ asked mountpoint call method) → IfOk r CanBeAnswered
  asked_writes (Ok ask) method is = subst CanBeAnswered (sym is) (asked_can method)
  asked_writes (Err e) method is = tt

  pub error_writes : (out : OutMessage) (e : ErrorName) → out ≡ error_to call e → CanBeAnswered (Local out)
  error_writes out e is = subst (λ (o : OutMessage). CanBeAnswered (Local o)) (sym is) (fails e)

  -- ---- replies

  same_length : (out : OutMessage) (serial : ℕ) → length (message_bytes out serial) ≡ length (message_bytes out 1)
  same_length out serial =
      let F : List ℕ = spelling Little 12 (V.Array field_type (fields_out out)) in
      let B : List ℕ = spellings Little 0 (body_out out) in
      whole_len (kind_out out) serial F B ∙ sym (whole_len (kind_out out) 1 F B)

  within_can : (body : List Value) → IsGoodBody body → (b : Bool) → nat_le (return_length call body) message_limit ≡ b → IsWritable (cond b (Return call.serial body) (error_to call E.LimitsExceeded))
  within_can body good true is serial some small =
      (some, (fits, good), omega (arith, same_length (Return call.serial body) serial, leb-true (return_length call body) message_limit is))
  within_can body good false is serial some small = fails E.LimitsExceeded serial some small

  told_can : (body : List Value) → IsGoodBody body → (o : Option ErrorName) → IsWritable (told call body o)
  told_can body good (Some e) = fails e
  told_can body good None = within_can body good (nat_le (return_length call body) message_limit) refl

  by_method : (answer : Answer) (r : Result Method ErrorName) → ((method : Method) → r ≡ Ok method → IsTold method answer) → ((method : Method) → r ≡ Ok method → IsInUtf8 answer) → IsWritable (reply_by mountpoint call answer r)
  by_method answer (Ok method) h utf8 =
      told_can (body_of method mountpoint answer) (told_body mountpoint mount_bytes method answer (h method refl) (utf8 method refl)) (error_in answer)
  by_method answer (Err e) h utf8 = fails e

  pub reply_writes : {E : Type 0} (r : Result OutMessage E) (answer : Answer) → IfOk r (λ reply. reply ≡ reply_of mountpoint call answer)
      → ((method : Method) → found call ≡ Ok method → IfOk r (λ reply. IsInUtf8 answer)) → IsToldTo call answer → IfOk r IsWritable
  reply_writes (Ok reply) answer is utf8 h = subst IsWritable (sym is) (by_method answer (found call) h utf8)
  reply_writes (Err e) answer is utf8 h = tt

-- what a message is answered can be written
pub can_be_answered : (settings : Settings) (message : Message) → is_host_path settings.mountpoint ≡ true → message.serial < 2 ^ 32 → CanBeAnswered (ask_of settings message)
can_be_answered settings message path fits = message_can settings.mountpoint message path fits (is_call message)

-- an error that answers a call can be written
pub error_can : {E : Type 0} (r : Result OutMessage E) (call : Message) (e : ErrorName) → call.serial < 2 ^ 32 → IfOk r (λ reply. reply ≡ error_to call e) → IfOk r IsWritable
error_can (Ok reply) call e fits is = subst IsWritable (sym is) (λ serial some small. can_error call.serial (error_name e) serial fits (short_name e) some)
error_can (Err x) call e fits is = tt
