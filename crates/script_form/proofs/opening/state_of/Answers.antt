use Rattle.std.proofs.Common.{◌≡◌, ◌∙◌, List, [], ap, map, subst, sym}
use Rattle.std.specs.List.{All}
use Rattle.portal_model.specs.Opening.{id_of}
use Rattle.portal_model.specs.declared.opening.OpeningDocument.{OpeningDocument}
use Rattle.portal_model.specs.declared.records.EntryRecord.{EntryRecord}
use Rattle.record_keeper.specs.KeptEntries.{KeepEntries}
use Rattle.record_keeper.specs.SoundRecords.{IsValidEntry}
use Rattle.script_form.specs.Opening.{applications_of, documents_of, entries_of, files_of}
use Rattle.script_form.proofs.NamedInLines.{all_keep}
use Rattle.script_form.proofs.SoundFacts.{entries_valid}
use Rattle.script_form.proofs.opening.state_of.Goals as goal

pub applications_in-requires : goal.applications_in-requires
applications_in-requires c = rw c.as_slice-lines.ensures (all_keep [] c.args.script.now.lines c.requires)

pub kept_entries-requires : goal.kept_entries-requires
kept_entries-requires c =
    let lines = c.args.script.now.lines in
    let kept : c.in_ok-kept.kept ≡ entries_of lines = c.in_ok-kept.ensures ∙ ap entries_of c.as_slice-lines.ensures in
    subst (All IsValidEntry) (sym kept) (entries_valid lines [] c.requires)

pub returns : goal.returns
returns c =
    let lines = c.args.script.now.lines in
    let same = c.as_slice-lines.ensures in
    let kept : c.in_ok-kept.kept ≡ entries_of lines = c.in_ok-kept.ensures ∙ ap entries_of same in
    let documents : c.in_ok-documents.documents ≡ documents_of lines = c.in_ok-documents.ensures ∙ ap documents_of same in
    let made : c.in_ok-made.made ≡ map (λ (d : OpeningDocument). id_of d.kept.number) (documents_of lines) =
    c.in_ok-made.ensures ∙ ap (λ (ds : List OpeningDocument). map (λ (d : OpeningDocument). id_of d.kept.number) ds) (c.as_slice.ensures ∙ documents) in
    let applications : c.in_ok-applications.applications ≡ applications_of lines = c.in_ok-applications.ensures ∙ ap applications_of same in
    let files : c.in_ok-files.files ≡ files_of lines = c.in_ok-files.ensures ∙ ap files_of same in
    record {
      whole = λ i. record {
        limits = c.args.limits;
        documents = documents i;
        made = made i;
        applications = applications i;
        entries = c.in_ok-entries.entries;
        files = files i;
        taken = c.new.ensures i;
      };
      entries = subst (λ (rs : List EntryRecord). KeepEntries rs c.in_ok-entries.entries) kept c.in_ok-entries.ensures;
    }
