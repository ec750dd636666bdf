-- What a call asks costs at most eight times the bytes of its message.
use Rattle.std.proofs.Common.{◌≡◌, ℕ, ◌+◌, ◌*◌, ◌≤◌, Bool, List, [], ◌∷◌, length, Option, Some, None, refl, sym, ap, subst, arith}
use Rattle.std.specs.Option.{option_map}
use Rattle.std.proofs.lemmas.List.{length-append, length-drop}
use Rattle.portal_base.specs.declared.limits.Settings.{Settings}
use Rattle.dbus_types.specs.declared.types.Endian.{Endian}
use Rattle.dbus_types.specs.declared.types.WireType.{WireType}
use Rattle.dbus_types.specs.declared.types.Value.{Value, out-Value}
use Rattle.dbus_types.specs.declared.message.Message.{Message}
use Rattle.dbus_values.specs.Spells.{Spells, Members}
use Rattle.dbus_values.specs.Spelling.{spelling, spellings}
use Rattle.dbus_values.proofs.OneSpelling.{spells_same}
use Rattle.dbus_message.specs.Content.{IsContent}
use Rattle.dbus_message.specs.Fields.{signature_code, text_of as field_text}
use Rattle.dbus_message.specs.Header.{body_bytes, body_start, endian_of}
use Rattle.dbus_message.specs.Messages.{IsMessage}
use Rattle.portal_model.specs.declared.request.AddRequest.{AddRequest}
use Rattle.portal_model.specs.declared.request.Request.{Request}
use Rattle.portal_model.specs.declared.request.RightsCall.{RightsCall}
use Rattle.portal_model.specs.declared.store.StoreCall.{StoreCall}
use Rattle.portal_model.specs.History.{add_bytes, cost_of, cost_of_bytes, rights_call_bytes, store_bytes}
use Rattle.dbus_dispatch.specs.declared.ask.Ask.TheVariants.{Portal}
use Rattle.dbus_calls.specs.declared.method.Method.{Method}
use Rattle.dbus_calls.specs.declared.method.Method.TheVariants as M
use Rattle.dbus_requests.specs.Arguments.{text_of, flag_of, number_of, bytes_of, handle_of, items_of, text_alone, bytes_alone, rights_of, rights_call, add_of, add_call, add_named_of, add_named_call, add_full_of, add_full_call, add_named_full_of, add_named_full_call, lookup_call, set_call, delete_call, list_call, set_value_call, set_permission_call, delete_permission_call, get_permission_call, request_in}
use Rattle.dbus_dispatch.specs.Asks.{ask_of}
use Rattle.call_laws.proofs.Calls.{asks_request}
use Rattle.call_laws.proofs.StoreCosts.{StoreWithin, lookup_within, set_within, delete_within, list_within, set_value_within, set_permission_within, delete_permission_within, get_permission_within}
use Rattle.call_laws.proofs.Sizes.{TextWithin, BytesWithin, HandleWithin, ItemsWithin, text_takes, bytes_take, index_takes, items_take}

-- ---- how many bytes the parts of a request have, by bounds of the arguments

abbrev RightsWithin : Option RightsCall → ℕ → Type 0
RightsWithin None n = Unit {0}
RightsWithin (Some call) n = rights_call_bytes call ≤ n

abbrev AddWithin : Option AddRequest → ℕ → Type 0
AddWithin None n = Unit {0}
AddWithin (Some a) n = add_bytes a ≤ n

rights_of_within : (d a : Option (List ℕ)) (names : Option (List Value)) (j k l n : ℕ) → TextWithin d j → TextWithin a k → ItemsWithin names l → j + k + l ≤ n → RightsWithin (rights_of d a names) n
rights_of_within (Some d) (Some a) (Some names) j k l n p q r le = omega (arith, p, q, r.1, le)
rights_of_within (Some d) (Some a) None j k l n p q r le = tt
rights_of_within (Some d) None names j k l n p q r le = tt
rights_of_within None a names j k l n p q r le = tt

add_of_within : (fds : ℕ) (file : Option ℕ) (reuse persistent : Option Bool) (j n : ℕ) → HandleWithin file j → j ≤ n → AddWithin (add_of fds file reuse persistent) n
add_of_within fds (Some file) (Some reuse) (Some persistent) j n p le = omega (arith, p, le)
add_of_within fds (Some file) (Some reuse) None j n p le = tt
add_of_within fds (Some file) None persistent j n p le = tt
add_of_within fds None reuse persistent j n p le = tt

add_named_of_within : (fds : ℕ) (file : Option ℕ) (name : Option (List ℕ)) (reuse persistent : Option Bool) (j k n : ℕ) → HandleWithin file j → BytesWithin name k → j + k ≤ n → AddWithin (add_named_of fds file name reuse persistent) n
add_named_of_within fds (Some file) (Some name) (Some reuse) (Some persistent) j k n p q le = omega (arith, p, q, le)
add_named_of_within fds (Some file) (Some name) (Some reuse) None j k n p q le = tt
add_named_of_within fds (Some file) (Some name) None persistent j k n p q le = tt
add_named_of_within fds (Some file) None reuse persistent j k n p q le = tt
add_named_of_within fds None name reuse persistent j k n p q le = tt

add_full_of_within : (fds : ℕ) (files : Option (List Value)) (flags : Option ℕ) (app : Option (List ℕ)) (names : Option (List Value)) (j k l n : ℕ) → ItemsWithin files j → TextWithin app k → ItemsWithin names l → j + k + l ≤ n → AddWithin (add_full_of fds files flags app names) n
add_full_of_within fds (Some files) (Some flags) (Some app) (Some names) j k l n p q r le = omega (arith, p.0, q, r.1, le)
add_full_of_within fds (Some files) (Some flags) (Some app) None j k l n p q r le = tt
add_full_of_within fds (Some files) (Some flags) None names j k l n p q r le = tt
add_full_of_within fds (Some files) None app names j k l n p q r le = tt
add_full_of_within fds None flags app names j k l n p q r le = tt

add_named_full_of_within : (fds : ℕ) (file : Option ℕ) (name : Option (List ℕ)) (flags : Option ℕ) (app : Option (List ℕ)) (names : Option (List Value)) (i j k l n : ℕ) → HandleWithin file i → BytesWithin name j → TextWithin app k → ItemsWithin names l → i + j + k + l ≤ n → AddWithin (add_named_full_of fds file name flags app names) n
add_named_full_of_within fds (Some file) (Some name) (Some flags) (Some app) (Some names) i j k l n p q r s le = omega (arith, p, q, r, s.1, le)
add_named_full_of_within fds (Some file) (Some name) (Some flags) (Some app) None i j k l n p q r s le = tt
add_named_full_of_within fds (Some file) (Some name) (Some flags) None names i j k l n p q r s le = tt
add_named_full_of_within fds (Some file) (Some name) None app names i j k l n p q r s le = tt
add_named_full_of_within fds (Some file) None flags app names i j k l n p q r s le = tt
add_named_full_of_within fds None name flags app names i j k l n p q r s le = tt

-- ---- arguments in a body

module _ (e : Endian) where
  abbrev size : List Value → ℕ → ℕ
  size vs at = length (spellings e at vs)

  -- where the next value begins
  abbrev behind : ℕ → Value → ℕ
  behind at v = at + length (spelling e at v)

  one_more : (v : Value) (vs : List Value) (at : ℕ) → size (v ∷ vs) at ≡ length (spelling e at v) + size vs (behind at v)
  one_more v vs at = length-append (spelling e at v) (spellings e (behind at v) vs)

  alone_text : (vs : List Value) → TextWithin (text_alone vs) (size vs 0)
  alone_text [] = tt
  alone_text (v ∷ []) = text_less (text_of (out-Value v)) (length (spelling e 0 v)) (size (v ∷ []) 0) (omega (arith, one_more v [] 0)) (text_takes e 0 v)
    where
      text_less : (o : Option (List ℕ)) (m n : ℕ) → m ≤ n → TextWithin o m → TextWithin o n
      text_less None m n le h = tt
      text_less (Some t) m n le h = omega (arith, le, h)
  alone_text (v ∷ w ∷ vs) = tt

  alone_bytes : (vs : List Value) → BytesWithin (bytes_alone vs) (size vs 0)
  alone_bytes [] = tt
  alone_bytes (v ∷ []) = bytes_less (bytes_of (out-Value v)) (length (spelling e 0 v)) (size (v ∷ []) 0) (omega (arith, one_more v [] 0)) (bytes_take e 0 v)
    where
      bytes_less : (o : Option (List ℕ)) (m n : ℕ) → m ≤ n → BytesWithin o m → BytesWithin o n
      bytes_less None m n le h = tt
      bytes_less (Some bytes) m n le h = omega (arith, le, h)
  alone_bytes (v ∷ w ∷ vs) = tt

  rights_within : (vs : List Value) → RightsWithin (rights_call vs) (size vs 0)
  rights_within [] = tt
  rights_within (a ∷ []) = tt
  rights_within (a ∷ b ∷ []) = tt
  rights_within (a ∷ b ∷ c ∷ []) =
      let p : ℕ = behind 0 a in
      let q : ℕ = behind p b in
      rights_of_within (text_of (out-Value a)) (text_of (out-Value b)) (items_of (out-Value c)) (length (spelling e 0 a)) (length (spelling e p b)) (length (spelling e q c)) (size (a ∷ b ∷ c ∷ []) 0)
      (text_takes e 0 a) (text_takes e p b) (items_take e q c) (omega (arith, one_more a (b ∷ c ∷ []) 0, one_more b (c ∷ []) p, one_more c [] q))
  rights_within (a ∷ b ∷ c ∷ d ∷ vs) = tt

  add_within : (fds : ℕ) (vs : List Value) → AddWithin (add_call fds vs) (size vs 0)
  add_within fds [] = tt
  add_within fds (a ∷ []) = tt
  add_within fds (a ∷ b ∷ []) = tt
  add_within fds (a ∷ b ∷ c ∷ []) =
      add_of_within fds (handle_of (out-Value a)) (flag_of (out-Value b)) (flag_of (out-Value c)) (length (spelling e 0 a)) (size (a ∷ b ∷ c ∷ []) 0) (index_takes e 0 a) (omega (arith, one_more a (b ∷ c ∷ []) 0))
  add_within fds (a ∷ b ∷ c ∷ d ∷ vs) = tt

  add_named_within : (fds : ℕ) (vs : List Value) → AddWithin (add_named_call fds vs) (size vs 0)
  add_named_within fds [] = tt
  add_named_within fds (a ∷ []) = tt
  add_named_within fds (a ∷ b ∷ []) = tt
  add_named_within fds (a ∷ b ∷ c ∷ []) = tt
  add_named_within fds (a ∷ b ∷ c ∷ d ∷ []) =
      let p : ℕ = behind 0 a in
      add_named_of_within fds (handle_of (out-Value a)) (bytes_of (out-Value b)) (flag_of (out-Value c)) (flag_of (out-Value d)) (length (spelling e 0 a)) (length (spelling e p b)) (size (a ∷ b ∷ c ∷ d ∷ []) 0)
      (index_takes e 0 a) (bytes_take e p b) (omega (arith, one_more a (b ∷ c ∷ d ∷ []) 0, one_more b (c ∷ d ∷ []) p))
  add_named_within fds (a ∷ b ∷ c ∷ d ∷ f ∷ vs) = tt

  add_full_within : (fds : ℕ) (vs : List Value) → AddWithin (add_full_call fds vs) (size vs 0)
  add_full_within fds [] = tt
  add_full_within fds (a ∷ []) = tt
  add_full_within fds (a ∷ b ∷ []) = tt
  add_full_within fds (a ∷ b ∷ c ∷ []) = tt
  add_full_within fds (a ∷ b ∷ c ∷ d ∷ []) =
      let p : ℕ = behind 0 a in
      let q : ℕ = behind p b in
      let r : ℕ = behind q c in
      add_full_of_within fds (items_of (out-Value a)) (number_of (out-Value b)) (text_of (out-Value c)) (items_of (out-Value d)) (length (spelling e 0 a)) (length (spelling e q c)) (length (spelling e r d)) (size (a ∷ b ∷ c ∷ d ∷ []) 0)
      (items_take e 0 a) (text_takes e q c) (items_take e r d) (omega (arith, one_more a (b ∷ c ∷ d ∷ []) 0, one_more b (c ∷ d ∷ []) p, one_more c (d ∷ []) q, one_more d [] r))
  add_full_within fds (a ∷ b ∷ c ∷ d ∷ f ∷ vs) = tt

  add_named_full_within : (fds : ℕ) (vs : List Value) → AddWithin (add_named_full_call fds vs) (size vs 0)
  add_named_full_within fds [] = tt
  add_named_full_within fds (a ∷ []) = tt
  add_named_full_within fds (a ∷ b ∷ []) = tt
  add_named_full_within fds (a ∷ b ∷ c ∷ []) = tt
  add_named_full_within fds (a ∷ b ∷ c ∷ d ∷ []) = tt
  add_named_full_within fds (a ∷ b ∷ c ∷ d ∷ f ∷ []) =
      let p : ℕ = behind 0 a in
      let q : ℕ = behind p b in
      let r : ℕ = behind q c in
      let s : ℕ = behind r d in
      add_named_full_of_within fds (handle_of (out-Value a)) (bytes_of (out-Value b)) (number_of (out-Value c)) (text_of (out-Value d)) (items_of (out-Value f)) (length (spelling e 0 a)) (length (spelling e p b)) (length (spelling e r d)) (length (spelling e s f))
      (size (a ∷ b ∷ c ∷ d ∷ f ∷ []) 0) (index_takes e 0 a) (bytes_take e p b) (text_takes e r d) (items_take e s f)
      (omega (arith, one_more a (b ∷ c ∷ d ∷ f ∷ []) 0, one_more b (c ∷ d ∷ f ∷ []) p, one_more c (d ∷ f ∷ []) q, one_more d (f ∷ []) r, one_more f [] s))
  add_named_full_within fds (a ∷ b ∷ c ∷ d ∷ f ∷ g ∷ vs) = tt

  -- ---- requests

  abbrev CostWithin : Option Request → ℕ → Type 0
  CostWithin None n = Unit {0}
  CostWithin (Some r) n = cost_of r ≤ 128 + n

  least : (m n : ℕ) → m ≤ n → cost_of_bytes m ≤ 128 + n
  least m n le = omega (arith, le)

  of_text : (f : List ℕ → Request) (o : Option (List ℕ)) (n : ℕ) → ((t : List ℕ) → cost_of (f t) ≡ cost_of_bytes (length t)) → TextWithin o n → CostWithin (option_map f o) n
  of_text f None n costs h = tt
  of_text f (Some t) n costs h = omega (arith, costs t, least (length t) n (omega (arith, h)))

  of_bytes : (f : List ℕ → Request) (o : Option (List ℕ)) (n : ℕ) → ((t : List ℕ) → cost_of (f t) ≡ cost_of_bytes (length t)) → BytesWithin o n → CostWithin (option_map f o) n
  of_bytes f None n costs h = tt
  of_bytes f (Some bytes) n costs h = omega (arith, costs bytes, least (length bytes) n h)

  of_rights : (f : RightsCall → Request) (o : Option RightsCall) (n : ℕ) → ((x : RightsCall) → cost_of (f x) ≡ cost_of_bytes (rights_call_bytes x)) → RightsWithin o n → CostWithin (option_map f o) n
  of_rights f None n costs h = tt
  of_rights f (Some x) n costs h = omega (arith, costs x, least (rights_call_bytes x) n h)

  of_add : (o : Option AddRequest) (n : ℕ) → AddWithin o n → CostWithin (option_map Request.Add o) n
  of_add None n h = tt
  of_add (Some a) n h = least (add_bytes a) n h

  of_store : (o : Option StoreCall) (n : ℕ) → StoreWithin o n → CostWithin (option_map Request.Store o) n
  of_store None n h = tt
  of_store (Some x) n h = least (store_bytes x) n h

  request_costs : (call : Message) (m : Method) → CostWithin (request_in call m) (size call.body 0)
  request_costs call M.Present = of_bytes Request.Present (bytes_alone call.body) (size call.body 0) (λ t. refl) (alone_bytes call.body)
  request_costs call M.LookupDocument = of_bytes Request.LookupDocument (bytes_alone call.body) (size call.body 0) (λ t. refl) (alone_bytes call.body)
  request_costs call M.DeleteDocument = of_text Request.DeleteDocument (text_alone call.body) (size call.body 0) (λ t. refl) (alone_text call.body)
  request_costs call M.Info = of_text Request.Info (text_alone call.body) (size call.body 0) (λ t. refl) (alone_text call.body)
  request_costs call M.ListDocuments = of_text Request.ListDocuments (text_alone call.body) (size call.body 0) (λ t. refl) (alone_text call.body)
  request_costs call M.GrantPermissions = of_rights Request.Grant (rights_call call.body) (size call.body 0) (λ x. refl) (rights_within call.body)
  request_costs call M.RevokePermissions = of_rights Request.Revoke (rights_call call.body) (size call.body 0) (λ x. refl) (rights_within call.body)
  request_costs call M.Add = of_add (add_call call.fds call.body) (size call.body 0) (add_within call.fds call.body)
  request_costs call M.AddNamed = of_add (add_named_call call.fds call.body) (size call.body 0) (add_named_within call.fds call.body)
  request_costs call M.AddFull = of_add (add_full_call call.fds call.body) (size call.body 0) (add_full_within call.fds call.body)
  request_costs call M.AddNamedFull = of_add (add_named_full_call call.fds call.body) (size call.body 0) (add_named_full_within call.fds call.body)
  request_costs call M.GetMountPoint = tt
  request_costs call M.LookupEntry = of_store (lookup_call call.body) (size call.body 0) (lookup_within e call.body)
  request_costs call M.SetEntry = of_store (set_call call.body) (size call.body 0) (set_within e call.body)
  request_costs call M.DeleteEntry = of_store (delete_call call.body) (size call.body 0) (delete_within e call.body)
  request_costs call M.SetValue = of_store (set_value_call call.body) (size call.body 0) (set_value_within e call.body)
  request_costs call M.SetPermission = of_store (set_permission_call call.body) (size call.body 0) (set_permission_within e call.body)
  request_costs call M.DeletePermission = of_store (delete_permission_call call.body) (size call.body 0) (delete_permission_within e call.body)
  request_costs call M.GetPermission = of_store (get_permission_call call.body) (size call.body 0) (get_permission_within e call.body)
  request_costs call M.ListEntries = of_store (list_call call.body) (size call.body 0) (list_within e call.body)
  request_costs call M.Get = tt
  request_costs call M.GetAll = tt
  request_costs call M.Ping = tt

  -- ---- the body of a message

  body_spelled : (ts : List WireType) (vs : List Value) (at : ℕ) (text : List ℕ) → Members (λ t at v bytes. Spells e at t v bytes) ts vs at text → text ≡ spellings e at vs
  body_spelled [] [] at text h = h
  body_spelled [] (v ∷ vs) at text h = absurd h
  body_spelled (t ∷ ts) [] at text h = absurd h
  body_spelled (t ∷ ts) (v ∷ vs) at text h =
      let a : h.0 ≡ spelling e at v = (spells_same 64 e t at v h.0 h.3).0 in
      let b : h.1 ≡ spellings e (at + length h.0) vs = body_spelled ts vs (at + length h.0) h.1 h.4 in
      rw (h.2, b, a) refl

  content_size : (signature : Option (List ℕ)) (ts : List WireType) (vs : List Value) (text : List ℕ) → IsContent e signature ts vs text → size vs 0 ≡ length text
  content_size None ts vs text h = rw (h.1, h.2) refl
  content_size (Some signature) ts vs text h = ap length (sym (body_spelled ts vs 0 text h.1))

-- ---- the message

-- behind the fields, which begin at byte 16
behind_fields : (bytes : List ℕ) → 16 ≤ length bytes → length (body_bytes bytes) + 16 ≤ length bytes
behind_fields bytes le = omega (arith, le, length-drop (body_start bytes) bytes)

in_eight : (o : Option Request) (r : Request) (e : Endian) (n m : ℕ) → CostWithin e o n → o ≡ Some r → n + 16 ≤ m → cost_of r ≤ 8 * m
in_eight o r e n m h is le = let costs : cost_of r ≤ 128 + n = subst (λ (x : Option Request). CostWithin e x n) is h in omega (arith, costs, le)

pub call_costs : (settings : Settings) (bytes : List ℕ) (call : Message) (r : Request) → IsMessage bytes call → ask_of settings call ≡ Portal r → cost_of r ≤ 8 * length bytes
call_costs settings bytes call r m asks =
    let e : Endian = endian_of bytes in
    let q = asks_request settings call r asks in
    let size_is : length (spellings e 0 call.body) ≡ length (body_bytes bytes) = content_size e (field_text signature_code m.0) call.signature call.body (body_bytes bytes) m.8 in
    in_eight (request_in call q.0) r e (length (spellings e 0 call.body)) (length bytes) (request_costs e call q.0) q.1 (omega (arith, size_is, behind_fields bytes m.1.0))
