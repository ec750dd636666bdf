-- The state that good records open: it is valid, and those records stand for it.
use Rattle.std.specs.Prelude.{IfOk}
use Rattle.std.proofs.Common.{◌≡◌, ◌<◌, ◌^◌, ℕ, List, [], ◌∷◌, map, true, Option, None, Result, Ok, Err, refl, sym, ap, subst, ◌∙◌}
use Rattle.std.specs.List.{list_all}
use Rattle.file_generations.specs.Generations.{Held}
use Rattle.portal_base.specs.declared.limits.Limits.{Limits}
use Rattle.portal_model.specs.declared.opening.OpeningDocument.{OpeningDocument}
use Rattle.portal_model.specs.declared.opening.OpeningState.{OpeningState}
use Rattle.portal_model.specs.declared.records.Records.{Records}
use Rattle.portal_model.specs.declared.state.Document.{Document}
use Rattle.portal_model.specs.Kept.{records_of}
use Rattle.portal_model.specs.RecordChanges.{records_version}
use Rattle.portal_model.specs.Opening.{SoundOpening, document_kept, opened_over}
use Rattle.portal_model.specs.Store.{Entries}
use Rattle.portal_model.specs.Valid.{Valid}
use Rattle.record_keeper.specs.BadRecords.{AreGood}
use Rattle.record_keeper.specs.KeptEntries.{KeepEntries}
use Rattle.portal_start.specs.Loading.{IsOpening, is_narrow, opening_loaded}
use Rattle.portal_start.proofs.GoodRecords.{all_sound, numbers_apart, sound_records, valid_quiet}
use Rattle.portal_start.proofs.KeptRights.{all_back}

pub sound_loaded : (limits : Limits) (records : Records) (o : OpeningState) → IsOpening limits records o → AreGood limits records → list_all is_narrow o.made ≡ true → limits.made < 2 ^ 32 → limits.queued < 2 ^ 32 → SoundOpening o
sound_loaded limits records o e good narrow made queued =
    subst SoundOpening (sym e.whole) (sound_records limits records o.entries e.entries good (ap (λ (x : OpeningState). list_all is_narrow x.made) (sym e.whole) ∙ narrow) made queued)

pub valid_loaded : (limits : Limits) (records : Records) (o : OpeningState) → IsOpening limits records o → AreGood limits records → list_all is_narrow o.made ≡ true → limits.made < 2 ^ 32 → limits.queued < 2 ^ 32 → Valid (opened_over None o)
valid_loaded limits records o e good narrow made queued = valid_quiet o (sound_loaded limits records o e good narrow made queued)

-- the numbers of documents are those of their records
pub numbers_kept : (ds : List OpeningDocument) → map (λ (d : Document). d.id.number) (map document_kept ds) ≡ map (λ (d : OpeningDocument). d.kept.number) ds
numbers_kept [] = refl
numbers_kept (d ∷ ds) = ap (λ (ns : List ℕ). d.kept.number ∷ ns) (numbers_kept ds)

-- the records that stand for the state that records open are those records, in this version
pub back : (limits : Limits) (records : Records) (began : Option Held) (entries : Entries) → KeepEntries records.entries entries → AreGood limits records → records_of (opened_over began (opening_loaded entries limits records)) ≡ record records { version = records_version }
back limits records began entries kept good = λ i. record {
  version = records_version;
  documents = all_back records.documents (numbers_apart records.version limits records.documents good.documents) (all_sound records.version limits records.documents [] good.documents) i;
  entries = kept.kept i;
}

-- what holds of a value that was made holds of what follows from it
pub if_ok : {X E : Type 0} (P Q : X → Type 0) (r : Result X E) → ((x : X) → P x → Q x) → IfOk r P → IfOk r Q
if_ok P Q (Ok x) f h = f x h
if_ok P Q (Err e) f h = tt
