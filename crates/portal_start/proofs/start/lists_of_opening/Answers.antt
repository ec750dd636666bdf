use Rattle.std.specs.Prelude.{None}
use Rattle.std.proofs.Common.{◌≤◌, ℕ, List, map, nat_eq, sym, ap, subst, ◌∙◌}
use Rattle.std.proofs.lemmas.List.{length-map}
use Rattle.std.proofs.lemmas.List.Folds.{list_all-map}
use Rattle.std.specs.List.{IsDistinct}
use Rattle.portal_model.specs.declared.state.Document.{Document}
use Rattle.portal_model.specs.Opening.{document_kept, opened_over, rights_kept}
use Rattle.portal_model.specs.Valid.{is_made}
use Rattle.document_records.proofs.ValidNames.{rights_named}
use Rattle.portal_start.proofs.LoadedRecords.{numbers_kept}
use Rattle.portal_start.proofs.start.lists_of_opening.Goals as goal

pub documents-requires-clause-paths : goal.documents-requires-clause-paths
documents-requires-clause-paths c = rw c.as_slice-items.ensures (c.requires.valid.paths)

pub documents-requires-clause-differ : goal.documents-requires-clause-differ
documents-requires-clause-differ c = rw c.as_slice-items.ensures (subst (λ (ns : List ℕ). IsDistinct nat_eq ns) (numbers_kept c.args.opening.documents) c.requires.valid.numbers_differ)

pub documents-requires-clause-live : goal.documents-requires-clause-live
documents-requires-clause-live c = rw c.as_slice-items.ensures (subst (λ (n : ℕ). n ≤ c.args.opening.limits.documents) (length-map c.args.opening.documents document_kept) c.requires.valid.documents_within)

pub documents-requires-clause-made_of : goal.documents-requires-clause-made_of
documents-requires-clause-made_of c = rw (c.as_slice-items.ensures, c.as_slice-made.ensures) (sym (list_all-map (λ (d : Document). is_made c.args.opening.made d.id.number) document_kept c.args.opening.documents) ∙ c.requires.valid.numbers_made)

pub documents-requires-clause-made : goal.documents-requires-clause-made
documents-requires-clause-made c = rw c.as_slice-made.ensures (c.requires.valid.made_within)

pub rights-requires : goal.rights-requires
rights-requires c = rw c.as_slice-items.ensures (rights_named (opened_over None c.args.opening) c.requires.valid)

pub applications-requires-clause-differ : goal.applications-requires-clause-differ
applications-requires-clause-differ c = rw c.as_slice.ensures (c.requires.valid.applications_differ)

pub applications-requires-clause-few : goal.applications-requires-clause-few
applications-requires-clause-few c = rw c.as_slice.ensures (c.requires.valid.applications_within)

pub with_entries-requires : goal.with_entries-requires
with_entries-requires c = rw (c.in_ok-entries.ensures, c.as_slice-2.ensures) (c.valid_entries_are_held.ensures c.args.opening.entries c.requires.valid.entries_differ c.requires.valid.entries_sound c.requires.started.rows)

pub returns-clause-lists : goal.returns-clause-lists
returns-clause-lists c = record {
  documents = c.in_ok-documents.ensures ∙ (λ i. record {
    most_live = c.args.opening.limits.documents;
    most_made = c.args.opening.limits.made;
    live = map document_kept (c.as_slice-items.ensures i);
    made = c.as_slice-made.ensures i;
  });
  rights = c.in_ok-rights.ensures ∙ ap rights_kept c.as_slice-items.ensures;
  applications = c.in_ok-applications.ensures ∙ c.as_slice.ensures;
  tables = c.in_ok-tables.ensures ∙ (c.in_ok-entries.ensures ∙ c.as_slice-2.ensures);
  none_made = c.with_taken.ensures.seats;
  taken = c.with_taken.ensures.taken ∙ (c.in_ok-taken.ensures ∙ c.as_slice-3.ensures);
}
