-- The message that a body behind a front is.
use Rattle.std.proofs.Common.{◌≡◌, ℕ, ◌+◌, ◌*◌, ◌%◌, ◌≤◌, Bool, true, List, [], ◌∷◌, ◌++◌, length, map, None, Ok, Err, refl, sym, ap, subst, ◌∙◌, arith}
use Rattle.std.specs.Prelude.{nat_le, if◌then◌else◌}
use Rattle.std.specs.Int.{w32}
use Rattle.std.specs.List.{list_all}
use Rattle.std.proofs.lemmas.Bool.{le-leb}
use Rattle.dbus_calls.specs.Calls.{found}
use Rattle.dbus_calls.specs.Errors.{error_to}
use Rattle.dbus_calls.specs.declared.error_name.ErrorName.{ErrorName}
use Rattle.dbus_calls.specs.declared.error_name.ErrorName.TheVariants as E
use Rattle.dbus_calls.specs.declared.method.Method.{Method}
use Rattle.dbus_calls.specs.declared.method.Method.TheVariants as M
use Rattle.dbus_dispatch.proofs.Bodies.{type_array, type_str, type_u32}
use Rattle.dbus_dispatch.specs.Asks.{returned}
use Rattle.dbus_dispatch.specs.Replies.{body_of, each_text, error_in, extra, identifiers, reply_by, reply_of, return_length, told}
use Rattle.dbus_dispatch.specs.Writable.{IsTold}
use Rattle.dbus_message.specs.Fields.{field_type, return_kind}
use Rattle.dbus_message.specs.Written.{field, laid, message_bytes, return_fields}
use Rattle.dbus_message.proofs.WriteMessage.{body_laid, whole_len}
use Rattle.dbus_types.specs.Types.{types_text}
use Rattle.dbus_types.specs.declared.message.Message.{Message}
use Rattle.dbus_types.specs.declared.message.OutMessage.{OutMessage}
use Rattle.dbus_types.specs.declared.types.Endian.TheVariants.{Little}
use Rattle.dbus_types.specs.declared.types.Value.{Value}
use Rattle.dbus_types.specs.declared.types.Value.TheVariants as V
use Rattle.dbus_types.specs.declared.types.WireType.{WireType}
use Rattle.dbus_types.specs.declared.types.WireType.TheVariants as W
use Rattle.dbus_marshal.proofs.SpellingsMove.{spellings_move}
use Rattle.dbus_marshal.proofs.TakenFronts.{four, number_len}
use Rattle.dbus_values.specs.Spells.{gap, number}
use Rattle.dbus_values.specs.Spelling.{spelling, spellings}
use Rattle.dbus_values.specs.Values.{type_of}
use Rattle.portal_model.specs.AddArguments.{files_limit}
use Rattle.portal_model.specs.Changed.{message_limit, texts_value}
use Rattle.portal_model.specs.declared.reply.Answer.{Answer}
use Rattle.portal_model.specs.declared.reply.Answer.TheVariants as A
use Rattle.bus_answers.specs.declared.begun.Begun.{Begun}
use Rattle.bus_answers.specs.declared.kind.ReturnKind.{ReturnKind}
use Rattle.bus_answers.specs.declared.kind.ReturnKind.TheVariants.{Nothing, Place, Ids, Data}
use Rattle.bus_answers.specs.Begun.{IsBegun, TellsData, extra_bytes, full_at, has_extra, ids_at, named_at, sample, sample_of, with_body}
use Rattle.bus_answers.specs.Little.{are_few, is_little, is_little_of, is_short, kind_of}
use Rattle.bus_answers.proofs.Extras.{full_is, full_length, named_is, named_length}
use Rattle.bus_answers.proofs.Texts.{both_of, place_is, texts_length, within}

-- ---- the types of what is returned

abbrev types_of : List Value → List WireType
types_of body = map type_of body

-- values of the same types have the same fields ahead of them
same_fields : (to : ℕ) (xs ys : List Value) → types_of xs ≡ types_of ys → return_fields to xs ≡ return_fields to ys
same_fields to [] [] e = refl
same_fields to [] (y ∷ ys) e = absurd (cc)
same_fields to (x ∷ xs) [] e = absurd (cc)
same_fields to (x ∷ xs) (y ∷ ys) e = ap (λ (ts : List WireType). field 5 (V.U32 to) ∷ field 8 (V.Signature (types_text ts)) ∷ []) e

one_type : (ids : List (List ℕ)) → length ids ≡ 1 → types_of (each_text ids) ≡ types_of (each_text ([] ∷ []))
one_type [] e = absurd (omega (arith, e))
one_type (id ∷ []) e = ap (λ (t : WireType). t ∷ []) (type_str id ∙ sym (type_str []))
one_type (id ∷ more ∷ ids) e = absurd (omega (arith, e))

one_and : (v : Value) (ids : List (List ℕ)) → length ids ≡ 1 → types_of (each_text ids ++ v ∷ []) ≡ types_of (each_text ([] ∷ []) ++ v ∷ [])
one_and v [] e = absurd (omega (arith, e))
one_and v (id ∷ []) e = ap (λ (t : WireType). t ∷ type_of v ∷ []) (type_str id ∙ sym (type_str []))
one_and v (id ∷ more ∷ ids) e = absurd (omega (arith, e))

array_and : (v : Value) (ids : List (List ℕ)) → types_of (texts_value ids ∷ v ∷ []) ≡ types_of (texts_value ([] ∷ []) ∷ v ∷ [])
array_and v ids = ap (λ (t : WireType). t ∷ type_of v ∷ []) (type_array W.Str (each_text ids) ∙ sym (type_array W.Str (each_text ([] ∷ []))))

-- an addition's identifiers, by its method
abbrev IsAddition : Method → Type 0
IsAddition m = kind_of m ≡ Ids

ids_types : (m : Method) (mountpoint : List ℕ) (ids : List (List ℕ)) → IsAddition m → IsTold m (A.Ids ids) → types_of (identifiers m mountpoint ids) ≡ types_of (identifiers m mountpoint ([] ∷ []))
ids_types M.Add mountpoint ids k h = one_type ids h.1
ids_types M.AddNamed mountpoint ids k h = one_type ids h.1
ids_types M.AddFull mountpoint ids k h = array_and (extra mountpoint) ids
ids_types M.AddNamedFull mountpoint ids k h = one_and (extra mountpoint) ids h.1
ids_types m mountpoint ids k h = absurd (cc)

-- ---- calls that return data, or none

pub no_method : (call : Message) (e : ErrorName) → Err e ≡ found call → TellsData call
no_method call e is method here = let no : Err e ≡ Ok method = is ∙ here in absurd (cc)

pub data_method : (call : Message) (m : Method) → Ok m ≡ found call → kind_of m ≡ Data → TellsData call
data_method call m is kind method here =
    let both : Ok m ≡ Ok method = is ∙ here in
    let same : m ≡ method = cc in
    ap kind_of (sym same) ∙ kind

-- ---- little answers, by what the method returns

done_kind : (k : ReturnKind) → is_little_of k A.Done ≡ true → sample_of k ≡ A.Done
done_kind Nothing h = refl
done_kind Place h = cc
done_kind Ids h = cc
done_kind Data h = refl

place_kind : (k : ReturnKind) (n : ℕ) → is_little_of k (A.Place n) ≡ true → k ≡ Place
place_kind Nothing n h = cc
place_kind Place n h = refl
place_kind Ids n h = cc
place_kind Data n h = cc

ids_kind : (k : ReturnKind) (ids : List (List ℕ)) → is_little_of k (A.Ids ids) ≡ true → (k ≡ Ids) × (are_few ids ≡ true)
ids_kind Nothing ids h = absurd (cc)
ids_kind Place ids h = absurd (cc)
ids_kind Ids ids h = (refl, h)
ids_kind Data ids h = absurd (cc)

pub few_ids : (m : Method) (ids : List (List ℕ)) → is_little m (A.Ids ids) ≡ true → (length ids ≤ 16) × (list_all is_short ids ≡ true)
few_ids m ids h =
    let few = both_of (nat_le (length ids) files_limit) (list_all is_short ids) (ids_kind (kind_of m) ids h).1 in
    (within (length ids) 16 few.0, few.1)

-- one that is neither a place nor identifiers
pub must_be_done : (k : ReturnKind) (answer : Answer) → is_little_of k answer ≡ true → ((n : ℕ) → answer ≡ A.Place n → ⊥) → ((ids : List (List ℕ)) → answer ≡ A.Ids ids → ⊥) → answer ≡ A.Done
must_be_done k A.Done h f g = refl
must_be_done k (A.Place n) h f g = absurd (f n refl)
must_be_done k (A.Ids ids) h f g = absurd (g ids refl)
must_be_done Nothing (A.Info path rights) h f g = cc
must_be_done Place (A.Info path rights) h f g = cc
must_be_done Ids (A.Info path rights) h f g = cc
must_be_done Data (A.Info path rights) h f g = cc
must_be_done Nothing (A.Listed documents) h f g = cc
must_be_done Place (A.Listed documents) h f g = cc
must_be_done Ids (A.Listed documents) h f g = cc
must_be_done Data (A.Listed documents) h f g = cc
must_be_done Nothing (A.Entry rows datum) h f g = cc
must_be_done Place (A.Entry rows datum) h f g = cc
must_be_done Ids (A.Entry rows datum) h f g = cc
must_be_done Data (A.Entry rows datum) h f g = cc
must_be_done Nothing (A.Names names) h f g = cc
must_be_done Place (A.Names names) h f g = cc
must_be_done Ids (A.Names names) h f g = cc
must_be_done Data (A.Names names) h f g = cc
must_be_done Nothing (A.Refused code) h f g = cc
must_be_done Place (A.Refused code) h f g = cc
must_be_done Ids (A.Refused code) h f g = cc
must_be_done Data (A.Refused code) h f g = cc
must_be_done Nothing (A.Node told) h f g = cc
must_be_done Place (A.Node told) h f g = cc
must_be_done Ids (A.Node told) h f g = cc
must_be_done Data (A.Node told) h f g = cc

-- ---- the message

module _ (mountpoint : List ℕ) (call : Message) (serial : ℕ) (b : Begun) (is : IsBegun mountpoint call serial b) where
  abbrev ahead : List Value
  ahead = body_of b.method mountpoint (sample b.method)

  abbrev fields : List ℕ
  fields = spelling Little 12 (V.Array field_type (return_fields call.serial ahead))

  front_len : length b.front.items ≡ 12 + length fields + gap 8 (12 + length fields)
  front_len = let whole : length (laid return_kind serial fields []) ≡ 12 + length fields + gap 8 (12 + length fields) + 0 = whole_len return_kind serial fields [] in omega (arith, ap length is.front_is, whole)

  pub front_long : 8 ≤ length b.front.items
  front_long = omega (arith, front_len)

  pub front_even : length b.front.items % 8 ≡ 0 % 8
  front_even = omega (arith, front_len)

  module _ (answer : Answer) (body : List ℕ) (none : error_in answer ≡ None) (types : types_of (body_of b.method mountpoint answer) ≡ types_of ahead)
      (spelled : body ≡ spellings Little 0 (body_of b.method mountpoint answer)) (short : length body ≤ 400 + length b.extra) where
    abbrev values : List Value
    values = body_of b.method mountpoint answer

    fields_same : spelling Little 12 (V.Array field_type (return_fields call.serial values)) ≡ fields
    fields_same = ap (λ (fs : List Value). spelling Little 12 (V.Array field_type fs)) (same_fields call.serial values ahead types)

    message_is : with_body b.front.items body ≡ message_bytes (returned call values) serial
    message_is = body_laid return_kind serial fields body b.front.items is.front_is ∙ (λ i. laid return_kind serial (sym fields_same i) (spelled i))

    length_is : return_length call values ≡ length b.front.items + length body
    length_is =
        let size : length (laid return_kind 1 fields body) ≡ 12 + length fields + gap 8 (12 + length fields) + length body = whole_len return_kind 1 fields body in
        (λ i. length (laid return_kind 1 (fields_same i) (sym spelled i))) ∙ (let sum : length (laid return_kind 1 fields body) ≡ length b.front.items + length body = omega (arith, size, front_len) in sum)

    limit_holds : nat_le (return_length call values) message_limit ≡ true
    limit_holds = le-leb (return_length call values) message_limit (omega (arith, length_is, short, is.short))

    pub reply_is : reply_of mountpoint call answer ≡ returned call values
    reply_is =
        ap (reply_by mountpoint call answer) is.method_is
        ∙ (ap (told call values) none ∙ ap (λ (x : Bool). if x then returned call values else error_to call E.LimitsExceeded) limit_holds)

    pub reply_spelled : with_body b.front.items body ≡ message_bytes (reply_of mountpoint call answer) serial
    reply_spelled = message_is ∙ ap (λ (m : OutMessage). message_bytes m serial) (sym reply_is)

  -- ---- by the answer

  -- nothing is behind the front
  pub done_is : is_little b.method A.Done ≡ true → b.front.items ≡ message_bytes (reply_of mountpoint call A.Done) serial
  done_is h =
      let same : sample b.method ≡ A.Done = done_kind (kind_of b.method) h in
      let types : types_of [] ≡ types_of ahead = ap (λ (a : Answer). types_of (body_of b.method mountpoint a)) (sym same) in
      let few : 0 ≤ 400 + length b.extra = omega arith in
      is.front_is
      ∙ (ap (λ (fs : List Value). laid return_kind serial (spelling Little 12 (V.Array field_type fs)) []) (same_fields call.serial ahead [] (sym types))
      ∙ ap (λ (m : OutMessage). message_bytes m serial) (sym (reply_is A.Done [] refl types refl few)))

  pub place_spelled : (n : ℕ) → is_little b.method (A.Place n) ≡ true → with_body b.front.items (number Little w32 n) ≡ message_bytes (reply_of mountpoint call (A.Place n)) serial
  place_spelled n h =
      let kind : kind_of b.method ≡ Place = place_kind (kind_of b.method) n h in
      let same : sample b.method ≡ A.Place 0 = ap sample_of kind in
      let types : types_of (V.U32 n ∷ []) ≡ types_of ahead =
      ap (λ (t : WireType). t ∷ []) (type_u32 n ∙ sym (type_u32 0)) ∙ ap (λ (a : Answer). types_of (body_of b.method mountpoint a)) (sym same) in
      let few : length (number Little w32 n) ≤ 400 + length b.extra = omega (arith, number_len Little four n) in
      reply_spelled (A.Place n) (number Little w32 n) refl types (place_is n) few

  -- identifiers, by the method
  ids_are : (m : Method) (ids : List (List ℕ)) → IsAddition m → (has_extra m ≡ true → b.extra ≡ extra_bytes mountpoint) → ids_at m (length b.front.items) b.extra ids ≡ spellings Little 0 (identifiers m mountpoint ids)
  ids_are M.Add ids k x = spellings_move Little (each_text ids) (length b.front.items) 0 front_even
  ids_are M.AddNamed ids k x = spellings_move Little (each_text ids) (length b.front.items) 0 front_even
  ids_are M.AddFull ids k x = ap (λ (w : List ℕ). full_at (length b.front.items) w ids) (x refl) ∙ full_is mountpoint ids (length b.front.items) front_even
  ids_are M.AddNamedFull ids k x = ap (λ (w : List ℕ). named_at (length b.front.items) w ids) (x refl) ∙ named_is mountpoint ids (length b.front.items) front_even
  ids_are m ids k x = absurd (cc)

  ids_few : (m : Method) (ids : List (List ℕ)) → IsAddition m → (has_extra m ≡ true → b.extra ≡ extra_bytes mountpoint) → list_all is_short ids ≡ true → length (ids_at m (length b.front.items) b.extra ids) ≤ 20 * length ids + (length b.extra + 14)
  ids_few M.Add ids k x short = omega (arith, texts_length ids (length b.front.items) short)
  ids_few M.AddNamed ids k x short = omega (arith, texts_length ids (length b.front.items) short)
  ids_few M.AddFull ids k x short =
      let most : length (full_at (length b.front.items) (extra_bytes mountpoint) ids) ≤ 20 * length ids + (length (extra_bytes mountpoint) + 14) = omega (arith, full_length mountpoint ids (length b.front.items) front_even short) in
      subst (λ (w : List ℕ). length (full_at (length b.front.items) w ids) ≤ 20 * length ids + (length w + 14)) (sym (x refl)) most
  ids_few M.AddNamedFull ids k x short =
      let most : length (named_at (length b.front.items) (extra_bytes mountpoint) ids) ≤ 20 * length ids + (length (extra_bytes mountpoint) + 14) = omega (arith, named_length mountpoint ids (length b.front.items) front_even short) in
      subst (λ (w : List ℕ). length (named_at (length b.front.items) w ids) ≤ 20 * length ids + (length w + 14)) (sym (x refl)) most
  ids_few m ids k x short = absurd (cc)

  pub ids_spelled : (ids : List (List ℕ)) → is_little b.method (A.Ids ids) ≡ true → IsTold b.method (A.Ids ids)
      → with_body b.front.items (ids_at b.method (length b.front.items) b.extra ids) ≡ message_bytes (reply_of mountpoint call (A.Ids ids)) serial
  ids_spelled ids h t =
      let kind : kind_of b.method ≡ Ids = (ids_kind (kind_of b.method) ids h).0 in
      let same : sample b.method ≡ A.Ids ([] ∷ []) = ap sample_of kind in
      let types : types_of (identifiers b.method mountpoint ids) ≡ types_of ahead =
      ids_types b.method mountpoint ids kind t ∙ ap (λ (a : Answer). types_of (body_of b.method mountpoint a)) (sym same) in
      let few = few_ids b.method ids h in
      let body : List ℕ = ids_at b.method (length b.front.items) b.extra ids in
      let most : length body ≤ 400 + length b.extra = omega (arith, ids_few b.method ids kind is.extra_is few.1, few.0) in
      reply_spelled (A.Ids ids) body refl types (ids_are b.method ids kind is.extra_is) most
