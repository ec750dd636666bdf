-- The records of a script aren't bad.
use Rattle.std.proofs.Common.{◌≡◌, ℕ, inr, ◌≤◌, Bool, ◌||◌, List, [], ◌∷◌, ◌++◌, length, map, refl, sym, ap, subst, ◌∙◌, arith, cond}
use Rattle.std.specs.Prelude.{◌==◌, count_by}
use Rattle.std.specs.List.{list_any}
use Rattle.std.proofs.lemmas.Grind.{flat_map-append}
use Rattle.std.proofs.lemmas.List.{map-append}
use Rattle.std.proofs.lemmas.List.Sums.{sum_by-append}
use Rattle.portal_base.specs.declared.limits.Limits.{Limits}
use Rattle.portal_model.specs.Opening.{each, first_named, names_kept}
use Rattle.portal_model.specs.RecordChanges.{is_numbered, is_of_key, records_version}
use Rattle.portal_model.specs.Valid.{applications_limit}
use Rattle.portal_model.specs.declared.opening.OpeningDocument.{OpeningDocument}
use Rattle.portal_model.specs.declared.records.DocRecord.{DocRecord}
use Rattle.portal_model.specs.declared.records.EntryRecord.{EntryRecord}
use Rattle.record_keeper.specs.BadRecords.{AreGood, EachBehind, IsGoodDocument, IsGoodEntry, names_granted}
use Rattle.script_lines.specs.Lines.{kept_document}
use Rattle.script_form.specs.Opening.{document_in, documents_of, entry_in, entries_of, records_of, HoldsScripts}
use Rattle.script_form.specs.Order.{StandBehind, IsScript, is_doc, keeps, stores}
use Rattle.script_lines.specs.declared.script.ScriptLine.{ScriptLine}
use Rattle.script_lines.specs.declared.script.ScriptLine.TheVariants.{Doc, Entry}
use Rattle.script_form.proofs.ScriptFacts.{append_nil}
use Rattle.script_form.proofs.SoundFacts.{doc_new, doc_room, entry_new}

-- ---- documents

abbrev kept : List OpeningDocument → List DocRecord
kept documents = map (λ d. d.kept) documents

abbrev docs : List ScriptLine → List DocRecord
docs lines = kept (documents_of lines)

docs_push : (earlier : List ScriptLine) (line : ScriptLine) → docs (earlier ++ (line ∷ [])) ≡ docs earlier ++ kept (document_in line)
docs_push earlier line =
    ap kept (flat_map-append document_in earlier (line ∷ []) ∙ ap (λ (t : List OpeningDocument). documents_of earlier ++ t) (append_nil (document_in line)))
    ∙ map-append (λ (d : OpeningDocument). d.kept) (documents_of earlier) (document_in line)

numbered_same : (n : ℕ) (earlier : List ScriptLine) → list_any (is_numbered n) (docs earlier) ≡ list_any (keeps n) earlier
numbered_same n [] = refl
numbered_same n (Doc id reusable strict path grants ∷ ls) = ap (λ (b : Bool). (id.number == n) || b) (numbered_same n ls)
numbered_same n (line ∷ ls) = numbered_same n ls

docs_count : (earlier : List ScriptLine) → length (docs earlier) ≡ count_by is_doc earlier
docs_count [] = refl
docs_count (Doc id reusable strict path grants ∷ ls) =
    let rest = docs_count ls in
    let one = sum_by-append (λ (l : ScriptLine). cond (is_doc l) 1 0) (Doc id reusable strict path grants ∷ []) ls in
    omega arith
docs_count (line ∷ ls) = let rest = docs_count ls in omega arith

names_same : (ds : List OpeningDocument) → each names_granted (kept ds) ≡ each names_kept ds
names_same [] = refl
names_same (d ∷ ds) = ap (λ (t : List (List ℕ)). names_kept d ++ t) (names_same ds)

good_documents : (limits : Limits) → HoldsScripts limits → (lines earlier : List ScriptLine) → StandBehind earlier lines
    → EachBehind (IsGoodDocument records_version limits) (docs earlier) (docs lines)
good_documents limits holds [] earlier all = tt
good_documents limits holds (Doc id reusable strict path grants ∷ ls) earlier all =
    let line = Doc id reusable strict path grants in
    let document = kept_document id reusable strict path grants in
    let count = docs_count earlier in
    let room = doc_room earlier _ _ all.0.order in
    let documents = holds.documents in
    let made = holds.made in
    let names : each names_granted (docs earlier ++ (document ∷ [])) ≡ each names_kept (documents_of (earlier ++ (line ∷ []))) =
    ap (each names_granted) (sym (docs_push earlier line)) ∙ names_same (documents_of (earlier ++ (line ∷ []))) in (
      record {
        itself = all.0.itself.2;
        plain = λ e. absurd (cc e);
        new = numbered_same id.number earlier ∙ doc_new earlier id.number _ _ all.0.order;
        live = omega arith;
        made = omega arith;
        applications = subst (λ (ns : List (List ℕ)). length (first_named ns) ≤ applications_limit) (sym names) all.0.applications;
      },
      subst (λ (ds : List DocRecord). EachBehind (IsGoodDocument records_version limits) ds (docs ls)) (docs_push earlier line) (good_documents limits holds ls (earlier ++ (line ∷ [])) all.1),
    )
good_documents limits holds (line ∷ ls) earlier all =
    subst (λ (ds : List DocRecord). EachBehind (IsGoodDocument records_version limits) ds (docs ls)) (docs_push earlier _ ∙ append_nil (docs earlier)) (good_documents limits holds ls _ all.1)

-- ---- entries

entries_push : (earlier : List ScriptLine) (line : ScriptLine) → entries_of (earlier ++ (line ∷ [])) ≡ entries_of earlier ++ entry_in line
entries_push earlier line = flat_map-append entry_in earlier (line ∷ []) ∙ ap (λ (t : List EntryRecord). entries_of earlier ++ t) (append_nil (entry_in line))

stored_same : (table id : List ℕ) (earlier : List ScriptLine) → list_any (is_of_key table id) (entries_of earlier) ≡ list_any (stores table id) earlier
stored_same table id [] = refl
stored_same table id (Entry entry ∷ ls) = ap (λ (b : Bool). is_of_key table id entry || b) (stored_same table id ls)
stored_same table id (line ∷ ls) = stored_same table id ls

pub good_entries : (lines earlier : List ScriptLine) → StandBehind earlier lines → EachBehind IsGoodEntry (entries_of earlier) (entries_of lines)
good_entries [] earlier all = tt
good_entries (Entry entry ∷ ls) earlier all = (
  record { itself = all.0.itself.1; new = stored_same entry.table entry.id earlier ∙ entry_new earlier entry _ all.0.order },
  subst (λ (es : List EntryRecord). EachBehind IsGoodEntry es (entries_of ls)) (entries_push earlier (Entry entry)) (good_entries ls (earlier ++ (Entry entry ∷ [])) all.1),
)
good_entries (line ∷ ls) earlier all =
    subst (λ (es : List EntryRecord). EachBehind IsGoodEntry es (entries_of ls)) (entries_push earlier _ ∙ append_nil (entries_of earlier)) (good_entries ls _ all.1)

pub never_bad : (limits : Limits) (lines : List ScriptLine) → IsScript lines → HoldsScripts limits → AreGood limits (records_of lines)
never_bad limits lines good holds = record { version = inr refl; documents = good_documents limits holds lines [] good; entries = good_entries lines [] good }
