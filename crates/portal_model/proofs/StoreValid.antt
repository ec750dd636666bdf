-- A call of the permission store leaves a valid state valid.
use Rattle.std.proofs.Common.{◌≡◌, ℕ, ◌+◌, nat_eq, nat_le, List, [], ◌∷◌, ◌++◌, map, Bool, true, false, not, ◌&&◌, ◌||◌, cond, Option, Some, None, Ok, Err, refl, sym, ap, subst, ◌∙◌, arith}
use Rattle.std.specs.List.{flat_map, list_all, IsDistinct}
use Rattle.std.proofs.lemmas.List.Folds.{list_all-append}
use Rattle.dbus_types.specs.declared.types.Value.{Value, the_lemmas}
use Rattle.dbus_types.specs.declared.types.Value.TheOpen.{Value-F}
use Rattle.dbus_types.specs.declared.types.Value.TheVariants as V
use Rattle.dbus_types.specs.declared.types.WireType.{the_lemmas as type_lemmas}
use Rattle.dbus_types.specs.declared.types.WireType.TheVariants as W
use Rattle.dbus_types.specs.Types.{arrays_deep, brackets_deep}
use Rattle.dbus_values.specs.Values.{nesting}
use Rattle.dbus_types.proofs.TypeLayers.{role_byte, text_byte}
use Rattle.portal_base.specs.Names.{is_same}
use Rattle.portal_base.specs.declared.who.Who.{Who}
use Rattle.portal_model.specs.declared.records.Row.{Row}
use Rattle.portal_model.specs.declared.reply.Change.{Change}
use Rattle.portal_model.specs.declared.reply.Code.{Code}
use Rattle.portal_model.specs.declared.state.Connection.{Connection}
use Rattle.portal_model.specs.declared.store.StoreAnswer.{StoreAnswer}
use Rattle.portal_model.specs.declared.store.StoreCall.{StoreCall}
use Rattle.portal_model.specs.declared.store.StoredEntry.{StoredEntry}
use Rattle.portal_model.specs.declared.store.StoreError.TheVariants.{TooLong}
use Rattle.portal_model.specs.Changed.{holds_handle}
use Rattle.portal_model.specs.Data.{Judged, is_data, is_variant_type, judge, judged}
use Rattle.portal_model.specs.Rows.{permissions_of, stored_rows, with_row, without_row}
use Rattle.portal_model.specs.State.{State, is_none}
use Rattle.portal_model.specs.Store.{becomes, becomes_if_told, can_be_told, change_of, entry_of, entry_to_set, has_row, new_entry, or_new, put_entry, store_call, with_entry, with_permissions, without_entry, without_permissions}
use Rattle.portal_model.specs.StoreRequest.{are_data, are_store_arguments, data_of, own_table, store_allowed, store_request, store_verdict, table_of, tell_hosts, tell_kept, texts_of, texts_of_row, told_change}
use Rattle.portal_model.specs.Valid.{Valid, has_entry_texts, has_texts, is_caller, is_host_bus, is_sound_change, is_sound_connection, is_text, is_valid_entry}
use Rattle.portal_model.specs.Verdict.{Doing, Verdict, unless}
use Rattle.portal_model.proofs.DocumentChanges.{both, first_of_both, second_of_both}
use Rattle.portal_model.proofs.EntriesKept.{differ-put, differ-without, found-passes, pass-put, pass-without}
use Rattle.portal_model.proofs.FewerRows.{fewer-told}
use Rattle.portal_model.proofs.OpenHandles.{Alike, mapped-handles}
use Rattle.portal_model.proofs.Queues.{is_sound_queue, seats}
use Rattle.portal_model.proofs.RowTexts.{have_texts, stored-texts, with-texts, without-texts}
use Rattle.portal_model.proofs.SeatsValid.{SameNames, seats-mapped}
use Rattle.portal_model.proofs.SoundParts.{Valid-connections, Valid-entries, valid-handles, valid-seats}
use Rattle.portal_model.proofs.WalkDoings.{IfDoes, if-passes}

-- ---- a change that hosts wait for

told_seats : (change : Change) (cs : List Connection) → seats (map (told_change change) cs) ≡ seats cs
told_seats change [] = refl
told_seats change (c ∷ cs) = elim (is_host_bus c.who c.kind) as (λ b. (cond b (record c { unsent = c.unsent ++ change ∷ [] }) c).seat ∷ seats (map (told_change change) cs) ≡ c.seat ∷ seats cs) [
  | true ↦ ap (λ (x : List ℕ). c.seat ∷ x) (told_seats change cs)
  | false ↦ ap (λ (x : List ℕ). c.seat ∷ x) (told_seats change cs)
]

told_alike : (change : Change) (c : Connection) → Alike c (told_change change c)
told_alike change c = elim (is_host_bus c.who c.kind) as (λ b. Alike c (cond b (record c { unsent = c.unsent ++ change ∷ [] }) c)) [
  | true ↦ record { seat = refl; who = refl; kind = refl; opens = omega arith }
  | false ↦ record { seat = refl; who = refl; kind = refl; opens = omega arith }
]

or_second : (a b : Bool) → b ≡ true → (a || b) ≡ true
or_second true b e = refl
or_second false b e = e

told_one : (queued : ℕ) (change : Change) (c : Connection) (b : Bool) → is_host_bus c.who c.kind ≡ b → is_sound_change change ≡ true → is_sound_connection queued c ≡ true →
    is_sound_connection queued (cond b (record c { unsent = c.unsent ++ change ∷ [] }) c) ≡ true
told_one queued change c true e k h =
    let waits = is_none c.unsent || is_host_bus c.who c.kind in
    let changes = list_all is_sound_change c.unsent in
    let queue = is_sound_queue queued c.queue in
    let behind = second_of_both (is_caller c.who) (waits && (changes && queue)) h in
    let later = second_of_both waits (changes && queue) behind in
    let more : list_all is_sound_change (c.unsent ++ change ∷ []) ≡ true =
    list_all-append is_sound_change c.unsent (change ∷ []) ∙ both changes (is_sound_change change && true) (first_of_both changes queue later) (both (is_sound_change change) true k refl) in
    both (is_caller c.who) ((is_none (c.unsent ++ change ∷ []) || is_host_bus c.who c.kind) && (list_all is_sound_change (c.unsent ++ change ∷ []) && queue)) (first_of_both (is_caller c.who) (waits && (changes && queue)) h)
    (both (is_none (c.unsent ++ change ∷ []) || is_host_bus c.who c.kind) (list_all is_sound_change (c.unsent ++ change ∷ []) && queue) (or_second (is_none (c.unsent ++ change ∷ [])) (is_host_bus c.who c.kind) e)
    (both (list_all is_sound_change (c.unsent ++ change ∷ [])) queue more (second_of_both changes queue later)))
told_one queued change c false e k h = h

told_sound : (queued : ℕ) (change : Change) (cs : List Connection) → is_sound_change change ≡ true → list_all (is_sound_connection queued) cs ≡ true → list_all (is_sound_connection queued) (map (told_change change) cs) ≡ true
told_sound queued change [] k h = refl
told_sound queued change (c ∷ cs) k h =
    both (is_sound_connection queued (told_change change c)) (list_all (is_sound_connection queued) (map (told_change change) cs))
    (told_one queued change c (is_host_bus c.who c.kind) refl k (first_of_both (is_sound_connection queued c) (list_all (is_sound_connection queued) cs) h))
    (told_sound queued change cs k (second_of_both (is_sound_connection queued c) (list_all (is_sound_connection queued) cs) h))

change_same : (change : Change) (c : Connection) → SameNames c (told_change change c)
change_same change c = elim (is_host_bus c.who c.kind) as (λ b. SameNames c (cond b (record c { unsent = c.unsent ++ change ∷ [] }) c)) [
  | true ↦ record { namings = refl; temps = refl; added = refl; who = refl }
  | false ↦ record { namings = refl; temps = refl; added = refl; who = refl }
]

pub told-valid : (s : State) (change : Change) → Valid s → is_sound_change change ≡ true → Valid (tell_hosts change s)
told-valid s change v k = Valid-connections s (map (told_change change) s.connections) v
    (subst (IsDistinct nat_eq) (sym (told_seats change s.connections)) v.seats_differ, told_sound s.limits.queued change s.connections k v.connections_sound)
    (mapped-handles (told_change change) (told_alike change) s.limits.handles s.connections s.handles (valid-handles s v))
    (seats-mapped s.made s.documents s.told s.taken (told_change change) (change_same change) s.connections (valid-seats s v))

-- ---- the byte 0 is data

arrays_byte : arrays_deep W.Byte ≡ 0
arrays_byte = search type_lemmas

brackets_byte : brackets_deep W.Byte ≡ 0
brackets_byte = search type_lemmas

byte_type : is_variant_type W.Byte ≡ true
byte_type = rw (role_byte, arrays_byte, brackets_byte, text_byte) refl

judged_byte : judged (V.Byte 0) ≡ judge (Value-F.Byte 0)
judged_byte = search the_lemmas

judged_variant : (datum : Value) → judged (V.Variant datum) ≡ judge (Value-F.Variant (judged datum))
judged_variant datum = search the_lemmas

nesting_variant : (datum : Value) → nesting (V.Variant datum) ≡ nesting datum + 1
nesting_variant datum = search the_lemmas

nesting_byte : nesting (V.Byte 0) ≡ 0
nesting_byte = search the_lemmas

handle_byte : holds_handle (V.Byte 0) ≡ false
handle_byte = search the_lemmas

-- in the variant of the byte 0
judged_zero : (judged (V.Variant (V.Byte 0))).1 0 ≡ true
judged_zero =
    ap (λ (j : Judged). j.1 0) (judged_variant (V.Byte 0))
    ∙ (ap (λ (j : Judged). (judge (Value-F.Variant j)).1 0) judged_byte
    ∙ both (is_variant_type W.Byte) true byte_type refl)

nesting_zero : nat_le (nesting (V.Variant (V.Byte 0))) 64 ≡ true
nesting_zero = ap (λ (n : ℕ). nat_le n 64) (nesting_variant (V.Byte 0) ∙ ap (λ (n : ℕ). n + 1) nesting_byte)

pub zero-data : is_data (V.Byte 0) ≡ true
zero-data =
    let handles : not (holds_handle (V.Byte 0)) ≡ true = ap not handle_byte in
    both ((judged (V.Variant (V.Byte 0))).1 0 && nat_le (nesting (V.Variant (V.Byte 0))) 64) (not (holds_handle (V.Byte 0)))
    (both ((judged (V.Variant (V.Byte 0))).1 0) (nat_le (nesting (V.Variant (V.Byte 0))) 64) judged_zero nesting_zero) handles

-- ---- what an entry is but for its length

abbrev is_sound_entry : StoredEntry → Bool
is_sound_entry e = has_entry_texts e && is_data e.datum

valid_sound : (e : StoredEntry) → is_valid_entry e ≡ true → is_sound_entry e ≡ true
valid_sound e h =
    let rest : (is_data e.datum && can_be_told e) ≡ true = second_of_both (has_entry_texts e) (is_data e.datum && can_be_told e) h in
    both (has_entry_texts e) (is_data e.datum) (first_of_both (has_entry_texts e) (is_data e.datum && can_be_told e) h) (first_of_both (is_data e.datum) (can_be_told e) rest)

sound_valid : (e : StoredEntry) → is_sound_entry e ≡ true → can_be_told e ≡ true → is_valid_entry e ≡ true
sound_valid e h t =
    both (has_entry_texts e) (is_data e.datum && can_be_told e) (first_of_both (has_entry_texts e) (is_data e.datum) h) (both (is_data e.datum) (can_be_told e) (second_of_both (has_entry_texts e) (is_data e.datum) h) t)

-- other rows and data
sound_with : (e : StoredEntry) (rows : List Row) (datum : Value) → is_sound_entry e ≡ true → have_texts rows ≡ true → is_data datum ≡ true → is_sound_entry (record e { rows = rows; datum = datum }) ≡ true
sound_with e rows datum h r d =
    let texts : has_entry_texts e ≡ true = first_of_both (has_entry_texts e) (is_data e.datum) h in
    let table : is_text e.table ≡ true = first_of_both (is_text e.table) (is_text e.id && have_texts e.rows) texts in
    let id : is_text e.id ≡ true = first_of_both (is_text e.id) (have_texts e.rows) (second_of_both (is_text e.table) (is_text e.id && have_texts e.rows) texts) in
    both (is_text e.table && (is_text e.id && have_texts rows)) (is_data datum) (both (is_text e.table) (is_text e.id && have_texts rows) table (both (is_text e.id) (have_texts rows) id r)) d

rows_of : (e : StoredEntry) → is_sound_entry e ≡ true → have_texts e.rows ≡ true
rows_of e h =
    let texts : has_entry_texts e ≡ true = first_of_both (has_entry_texts e) (is_data e.datum) h in
    second_of_both (is_text e.id) (have_texts e.rows) (second_of_both (is_text e.table) (is_text e.id && have_texts e.rows) texts)

data_of_entry : (e : StoredEntry) → is_sound_entry e ≡ true → is_data e.datum ≡ true
data_of_entry e h = second_of_both (has_entry_texts e) (is_data e.datum) h

new_sound : (table id : List ℕ) → is_text table ≡ true → is_text id ≡ true → is_sound_entry (new_entry table id) ≡ true
new_sound table id t i = both (is_text table && (is_text id && true)) (is_data (V.Byte 0)) (both (is_text table) (is_text id && true) t (both (is_text id) true i refl)) zero-data

permissions_sound : (app : List ℕ) (names : List (List ℕ)) (e : StoredEntry) → is_sound_entry e ≡ true → is_text app ≡ true → list_all is_text names ≡ true → is_sound_entry (with_permissions app names e) ≡ true
permissions_sound app names e h a n =
    let row : Row = record { app = app; names = names } in
    sound_with e (with_row row e.rows) e.datum h (with-texts row e.rows (both (is_text app) (list_all is_text names) a n) (rows_of e h)) (data_of_entry e h)

without_valid : (app : List ℕ) (e : StoredEntry) → is_valid_entry e ≡ true → is_valid_entry (without_permissions app e) ≡ true
without_valid app e h =
    let sound : is_sound_entry e ≡ true = valid_sound e h in
    let told : can_be_told e ≡ true = second_of_both (is_data e.datum) (can_be_told e) (second_of_both (has_entry_texts e) (is_data e.datum && can_be_told e) h) in
    sound_valid (without_permissions app e) (sound_with e (without_row app e.rows) e.datum sound (without-texts app e.rows (rows_of e sound)) (data_of_entry e sound)) (fewer-told app e told)

-- the rows that a call brings
rows_brought : (rows : List Row) → list_all is_text (flat_map texts_of_row rows) ≡ true → have_texts rows ≡ true
rows_brought [] h = refl
rows_brought (r ∷ rows) h =
    let parts : (list_all is_text (texts_of_row r) && list_all is_text (flat_map texts_of_row rows)) ≡ true = sym (list_all-append is_text (texts_of_row r) (flat_map texts_of_row rows)) ∙ h in
    both (has_texts r) (have_texts rows) (first_of_both (has_texts r) (list_all is_text (flat_map texts_of_row rows)) parts)
    (rows_brought rows (second_of_both (list_all is_text (texts_of_row r)) (list_all is_text (flat_map texts_of_row rows)) parts))

-- ---- a call

module _ (P : Doing → Type 0) (valid : (d : Doing) → Valid d.state → P d) (s : State) (v : Valid s) where
  found_valid : (table id : List ℕ) (e : StoredEntry) → entry_of s.entries table id ≡ Some e → is_valid_entry e ≡ true
  found_valid table id e f = found-passes is_valid_entry table id s.entries e v.entries_sound f

  -- the entry stands so from now on
  becomes_valid : (call : StoreCall) (e : StoredEntry) → is_valid_entry e ≡ true → IfDoes P (store_verdict s call (becomes e s.entries))
  becomes_valid call e h =
      let t : State = record s { entries = put_entry e s.entries } in
      valid _ (told-valid t (change_of false e) (Valid-entries s (put_entry e s.entries) v (differ-put e s.entries v.entries_differ) (pass-put is_valid_entry e s.entries h v.entries_sound)) h)

  told_valid : (call : StoreCall) (e : StoredEntry) (b : Bool) → can_be_told e ≡ b → is_sound_entry e ≡ true → IfDoes P (store_verdict s call (cond b (becomes e s.entries) (Err TooLong)))
  told_valid call e true t h = becomes_valid call e (sound_valid e h t)
  told_valid call e false t h = tt

  -- with an entry that is there, or is made
  set_valid : (call : StoreCall) (create : Bool) (table id : List ℕ) (new : StoredEntry → StoredEntry) → is_text table ≡ true → is_text id ≡ true → ((e : StoredEntry) → is_sound_entry e ≡ true → is_sound_entry (new e) ≡ true) →
      IfDoes P (store_verdict s call (with_entry (entry_to_set s.entries create table id) (λ e. becomes_if_told (new e) s.entries)))
  set_valid call create table id new t i f = step create (entry_of s.entries table id) refl
    where
      one : (e : StoredEntry) → is_sound_entry e ≡ true → IfDoes P (store_verdict s call (becomes_if_told (new e) s.entries))
      one e h = told_valid call (new e) (can_be_told (new e)) refl (f e h)

      step : (c : Bool) (o : Option StoredEntry) → entry_of s.entries table id ≡ o → IfDoes P (store_verdict s call (with_entry (or_new c (new_entry table id) o) (λ e. becomes_if_told (new e) s.entries)))
      step c (Some e) found = one e (valid_sound e (found_valid table id e found))
      step true None found = one (new_entry table id) (new_sound table id t i)
      step false None found = tt

  delete_valid : (call : StoreCall) (table id : List ℕ) (o : Option StoredEntry) → entry_of s.entries table id ≡ o →
      IfDoes P (store_verdict s call (with_entry o (λ e. Ok (without_entry table id s.entries, StoreAnswer.Done (change_of true e)))))
  delete_valid call table id None f = tt
  delete_valid call table id (Some e) f =
      let t : State = record s { entries = without_entry table id s.entries } in
      valid _ (told-valid t (change_of true e) (Valid-entries s (without_entry table id s.entries) v (differ-without table id s.entries v.entries_differ) (pass-without is_valid_entry table id s.entries v.entries_sound)) (found_valid table id e f))

  kept_valid : (table id : List ℕ) (o : Option StoredEntry) → entry_of s.entries table id ≡ o → Valid (tell_kept o s)
  kept_valid table id None f = v
  kept_valid table id (Some e) f = told-valid s (change_of false e) v (found_valid table id e f)

  row_valid : (table id app : List ℕ) (e : StoredEntry) (b : Bool) → is_valid_entry e ≡ true → IfDoes P (store_verdict s (StoreCall.DeletePermission table id app) (cond b (becomes (without_permissions app e) s.entries) (Ok (s.entries, StoreAnswer.Kept))))
  row_valid table id app e true h = becomes_valid (StoreCall.DeletePermission table id app) (without_permissions app e) (without_valid app e h)
  row_valid table id app e false h = valid _ (kept_valid table id (entry_of s.entries table id) refl)

  remove_valid : (table id app : List ℕ) (o : Option StoredEntry) → entry_of s.entries table id ≡ o →
      IfDoes P (store_verdict s (StoreCall.DeletePermission table id app) (with_entry o (λ e. cond (has_row app e) (becomes (without_permissions app e) s.entries) (Ok (s.entries, StoreAnswer.Kept)))))
  remove_valid table id app None f = tt
  remove_valid table id app (Some e) f = row_valid table id app e (has_row app e) (found_valid table id e f)

  lookup_valid : (call : StoreCall) (o : Option StoredEntry) → IfDoes P (store_verdict s call (with_entry o (λ e. Ok (s.entries, StoreAnswer.Entry e.rows e.datum))))
  lookup_valid call None = tt
  lookup_valid call (Some e) = valid _ v

  get_valid : (call : StoreCall) (app : List ℕ) (o : Option StoredEntry) → IfDoes P (store_verdict s call (with_entry o (λ e. Ok (s.entries, StoreAnswer.Names (permissions_of e.rows app)))))
  get_valid call app None = tt
  get_valid call app (Some e) = valid _ v

  call_valid : (call : StoreCall) → list_all is_text (texts_of call) ≡ true → are_data (data_of call) ≡ true → IfDoes P (store_verdict s call (store_call call s.entries))
  call_valid (StoreCall.Lookup table id) t d = lookup_valid (StoreCall.Lookup table id) (entry_of s.entries table id)
  call_valid (StoreCall.Set table create id rows datum) t d =
      let more : list_all is_text (id ∷ flat_map texts_of_row rows) ≡ true = second_of_both (is_text table) (list_all is_text (id ∷ flat_map texts_of_row rows)) t in
      let brought : have_texts rows ≡ true = rows_brought rows (second_of_both (is_text id) (list_all is_text (flat_map texts_of_row rows)) more) in
      set_valid (StoreCall.Set table create id rows datum) create table id (λ e. record e { rows = stored_rows rows; datum = datum })
      (first_of_both (is_text table) (list_all is_text (id ∷ flat_map texts_of_row rows)) t) (first_of_both (is_text id) (list_all is_text (flat_map texts_of_row rows)) more)
      (λ e h. sound_with e (stored_rows rows) datum h (stored-texts rows brought) d)
  call_valid (StoreCall.Delete table id) t d = delete_valid (StoreCall.Delete table id) table id (entry_of s.entries table id) refl
  call_valid (StoreCall.SetValue table create id datum) t d =
      set_valid (StoreCall.SetValue table create id datum) create table id (λ e. record e { datum = datum })
      (first_of_both (is_text table) (list_all is_text (id ∷ [])) t) (first_of_both (is_text id) true (second_of_both (is_text table) (list_all is_text (id ∷ [])) t))
      (λ e h. sound_with e e.rows datum h (rows_of e h) d)
  call_valid (StoreCall.SetPermission table create id app names) t d =
      let more : list_all is_text (id ∷ app ∷ names) ≡ true = second_of_both (is_text table) (list_all is_text (id ∷ app ∷ names)) t in
      let last : list_all is_text (app ∷ names) ≡ true = second_of_both (is_text id) (list_all is_text (app ∷ names)) more in
      set_valid (StoreCall.SetPermission table create id app names) create table id (with_permissions app names)
      (first_of_both (is_text table) (list_all is_text (id ∷ app ∷ names)) t) (first_of_both (is_text id) (list_all is_text (app ∷ names)) more)
      (λ e h. permissions_sound app names e h (first_of_both (is_text app) (list_all is_text names) last) (second_of_both (is_text app) (list_all is_text names) last))
  call_valid (StoreCall.DeletePermission table id app) t d = remove_valid table id app (entry_of s.entries table id) refl
  call_valid (StoreCall.GetPermission table id app) t d = get_valid (StoreCall.GetPermission table id app) app (entry_of s.entries table id)
  call_valid (StoreCall.List table) t d = valid _ v

  either_valid : (wrong : Bool) (code : Code) (verdict : Verdict) → IfDoes P verdict → IfDoes P (unless wrong code verdict)
  either_valid true code verdict h = tt
  either_valid false code verdict h = h

  pub store-valid : (who : Who) (call : StoreCall) → IfDoes P (store_request s who call)
  store-valid (Who.App app) call = tt
  store-valid Who.Host call =
      if-passes P (are_store_arguments call) Code.InvalidArgument (store_allowed s call)
      (λ fine.
      either_valid (is_same (table_of call) own_table) Code.NotAllowed (store_verdict s call (store_call call s.entries))
      (call_valid call (first_of_both (list_all is_text (texts_of call)) (are_data (data_of call)) fine) (second_of_both (list_all is_text (texts_of call)) (are_data (data_of call)) fine)))
