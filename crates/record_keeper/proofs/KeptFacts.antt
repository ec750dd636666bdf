-- The entries that records keep: the data of each is that of its record, and no other.
use Rattle.std.proofs.Common.{◌≡◌, ℕ, List, [], ◌∷◌, ◌++◌, length, map, Bool, true, ◌&&◌, refl, sym, ap, subst, ◌∙◌, append_assoc, arith}
use Rattle.std.specs.List.{list_all}
use Rattle.std.proofs.lemmas.Bool.{and_parts}
use Rattle.std.proofs.lemmas.List.{map-append}
use Rattle.dbus_types.specs.declared.types.Endian.TheVariants.{Little}
use Rattle.dbus_types.specs.declared.types.Value.{Value, out-Value, the_lemmas}
use Rattle.dbus_types.specs.declared.types.Value.TheOpen.{Value-F}
use Rattle.dbus_types.specs.declared.types.Value.TheVariants as V
use Rattle.dbus_types.specs.declared.types.WireType.{WireType, out-WireType, the_lemmas as type_lemmas}
use Rattle.dbus_types.specs.declared.types.WireType.TheOpen.{WireType-F}
use Rattle.dbus_types.specs.declared.types.WireType.TheVariants as W
use Rattle.dbus_values.specs.Spelling.{spelling}
use Rattle.dbus_values.specs.Spells.{Row, Spells, SpellsWithin}
use Rattle.dbus_marshal.proofs.SpelledIsRead.{one_spelling}
use Rattle.portal_model.specs.Changed.{HasDatum, IsDatum, holds_handle}
use Rattle.portal_model.specs.Store.{Entries, record_of}
use Rattle.portal_model.specs.StoreLaws.{entry_of_record}
use Rattle.portal_model.specs.Valid.{is_valid_entry}
use Rattle.portal_model.specs.declared.records.EntryRecord.{EntryRecord}
use Rattle.portal_model.specs.declared.store.StoredEntry.{StoredEntry}
use Rattle.portal_model.proofs.DataLaws.{entry-has, entry-valid, record-again}
use Rattle.record_keeper.specs.KeptEntries.{KeepEntries, KeepsEntry}
use Rattle.record_keeper.specs.SoundRecords.{IsValidEntry}

-- ---- variants

out_variant : (v : Value) → out-Value (V.Variant v) ≡ Value-F.Variant v
out_variant v = search the_lemmas

same_inside : (v w : Value) → V.Variant v ≡ V.Variant w → v ≡ w
same_inside v w e = let p : Value-F.Variant v ≡ Value-F.Variant w = sym (out_variant v) ∙ (ap out-Value e ∙ out_variant w) in cc

variant_type : out-WireType W.Variant ≡ WireType-F.Variant
variant_type = search type_lemmas

-- what is spelled as a variant is one
pub spelled_variant : (v : Value) (bytes : List ℕ) → Spells Little 0 W.Variant v bytes → (x : Value) × (v ≡ V.Variant x)
unfolding SpellsWithin
spelled_variant v bytes h =
    let row = subst (λ (t : WireType-F WireType). Row (SpellsWithin 63 Little) Little t 0 v bytes) variant_type h in
    (row.1, row.3)

pub variant_holds : (v : Value) → holds_handle (V.Variant v) ≡ holds_handle v
variant_holds v = search the_lemmas

-- ---- one entry

-- bytes spell one value
pub one_datum : (v w : Value) (bytes : List ℕ) → IsDatum v bytes → IsDatum w bytes → v ≡ w
one_datum v w bytes h k = (one_spelling 64 Little W.Variant 0 v w bytes bytes [] [] h.spelled k.spelled refl).0

-- an entry of the record's texts, with the data that the record's bytes are
pub keeps : (r : EntryRecord) (datum : Value) → IsValidEntry r → IsDatum (V.Variant datum) r.datum → KeepsEntry r (entry_of_record r datum)
keeps r datum good is =
    let same : good.told.0 ≡ V.Variant datum = one_datum good.told.0 (V.Variant datum) r.datum good.told.1.is is in
    let has : HasDatum r (V.Variant datum) = subst (HasDatum r) same good.told.1 in
    let again : record_of (entry_of_record r datum) ≡ r = record-again r datum has in
    record {
      kept = again;
      valid = entry-valid (entry_of_record r datum) good.texts (subst (λ (x : EntryRecord). HasDatum x (V.Variant datum)) (sym again) has);
    }

one_entry : (e f : StoredEntry) → is_valid_entry e ≡ true → is_valid_entry f ≡ true → record_of e ≡ record_of f → e ≡ f
one_entry e f valid fine same =
    let table : e.table ≡ f.table = ap (λ (r : EntryRecord). r.table) same in
    let id : e.id ≡ f.id = ap (λ (r : EntryRecord). r.id) same in
    let rows = ap (λ (r : EntryRecord). r.rows) same in
    let bytes : spelling Little 0 (V.Variant f.datum) ≡ spelling Little 0 (V.Variant e.datum) = ap (λ (r : EntryRecord). r.datum) (sym same) in
    let other : IsDatum (V.Variant f.datum) (spelling Little 0 (V.Variant e.datum)) = subst (IsDatum (V.Variant f.datum)) bytes (entry-has f fine).is in
    let datum : e.datum ≡ f.datum = same_inside e.datum f.datum (one_datum (V.Variant e.datum) (V.Variant f.datum) _ (entry-has e valid).is other) in
    λ i. record { table = table i; id = id i; datum = datum i; rows = rows i }

-- ---- all of them

all_one : (one other : Entries) → list_all is_valid_entry one ≡ true → list_all is_valid_entry other ≡ true → map record_of one ≡ map record_of other → one ≡ other
all_one [] [] valid fine same = refl
all_one [] (f ∷ fs) valid fine same = cc same
all_one (e ∷ es) [] valid fine same = cc same
all_one (e ∷ es) (f ∷ fs) valid fine same =
    let first = and_parts (is_valid_entry e) (list_all is_valid_entry es) valid in
    let second = and_parts (is_valid_entry f) (list_all is_valid_entry fs) fine in
    let head : record_of e ≡ record_of f = cc same in
    let tail : map record_of es ≡ map record_of fs = cc same in
    λ i. one_entry e f first.0 second.0 head i ∷ all_one es fs first.1 second.1 tail i

pub kept_in_one_way : (records : List EntryRecord) (one other : Entries) → KeepEntries records one → KeepEntries records other → one ≡ other
kept_in_one_way records one other a b = all_one one other a.valid b.valid (a.kept ∙ sym b.kept)

-- ---- one entry more

both : (a b : Bool) → a ≡ true → b ≡ true → (a && b) ≡ true
both a b h k = λ i. h i && k i

pub valid_more : (entries : Entries) (e : StoredEntry) → list_all is_valid_entry entries ≡ true → is_valid_entry e ≡ true → list_all is_valid_entry (entries ++ (e ∷ [])) ≡ true
valid_more [] e valid one = both (is_valid_entry e) true one refl
valid_more (x ∷ xs) e valid one =
    let parts = and_parts (is_valid_entry x) (list_all is_valid_entry xs) valid in
    both (is_valid_entry x) (list_all is_valid_entry (xs ++ (e ∷ []))) parts.0 (valid_more xs e parts.1 one)

-- the record of the entry is the first of those to come
pub kept_more : (entries : Entries) (e : StoredEntry) (r : EntryRecord) (rest all : List EntryRecord) → map record_of entries ++ (r ∷ rest) ≡ all → record_of e ≡ r → map record_of (entries ++ (e ∷ [])) ++ rest ≡ all
kept_more entries e r rest all so_far same =
    ap (λ (rs : List EntryRecord). rs ++ rest) (map-append record_of entries (e ∷ []))
    ∙ (append_assoc (map record_of entries) (record_of e ∷ []) rest
    ∙ (ap (λ (x : EntryRecord). map record_of entries ++ (x ∷ rest)) same ∙ so_far))

pub nothing_left : {X : Type 0} (xs : List X) → length xs ≡ 0 → xs ≡ []
nothing_left [] h = refl
nothing_left (x ∷ xs) h = absurd (omega arith)
