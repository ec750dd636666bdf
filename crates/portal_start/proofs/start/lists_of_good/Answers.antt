use Rattle.std.specs.Prelude.{None}
use Rattle.std.proofs.Common.{◌≡◌, [], sym, subst}
use Rattle.portal_model.specs.declared.opening.OpeningState.{OpeningState}
use Rattle.portal_model.specs.Opening.{opened_over}
use Rattle.portal_model.specs.Valid.{Valid}
use Rattle.portal_start.specs.declared.start.Lists.{Lists}
use Rattle.portal_desk.specs.Opening.{IsOpeningState}
use Rattle.portal_desk.proofs.Openings.{opens-told}
use Rattle.portal_start.proofs.LoadedRecords.{if_ok, valid_loaded}
use Rattle.portal_start.proofs.GoodRecords.{all_sound, entries_right}
use Rattle.portal_start.proofs.start.lists_of_good.Goals as goal

pub opening_loaded-requires-clause-documents : goal.opening_loaded-requires-clause-documents
opening_loaded-requires-clause-documents c = all_sound c.args.records.version c.args.limits.now c.args.records.documents [] c.requires.good.documents

pub opening_loaded-requires-clause-entries : goal.opening_loaded-requires-clause-entries
opening_loaded-requires-clause-entries c = entries_right c.args.records.entries [] c.requires.good.entries

pub lists_of_opening-requires-clause-valid : goal.lists_of_opening-requires-clause-valid
lists_of_opening-requires-clause-valid c = valid_loaded c.args.limits.now c.args.records c.in_ok-opening.opening c.in_ok-opening.ensures.state c.requires.good c.in_ok-opening.ensures.narrow c.requires.made c.requires.queued

pub lists_of_opening-requires-clause-started : goal.lists_of_opening-requires-clause-started
lists_of_opening-requires-clause-started c =
    let valid = valid_loaded c.args.limits.now c.args.records c.in_ok-opening.opening c.in_ok-opening.ensures.state c.requires.good c.in_ok-opening.ensures.narrow c.requires.made c.requires.queued in
    let rows = c.good_records_keep_good_entries.ensures.rows c.args.records.entries c.in_ok-opening.opening.entries c.requires.good.entries c.in_ok-opening.ensures.state.entries in
    opens-told None c.in_ok-opening.opening valid rows tt

pub returns-clause-valid : goal.returns-clause-valid
returns-clause-valid c =
    let valid = valid_loaded c.args.limits.now c.args.records c.in_ok-opening.opening c.in_ok-opening.ensures.state c.requires.good c.in_ok-opening.ensures.narrow c.requires.made c.requires.queued in
    if_ok (λ (lists : Lists). lists.opening ≡ c.in_ok-opening.opening) (λ (lists : Lists). Valid (opened_over None lists.opening)) c.lists_of_opening.result
    (λ lists e. subst (λ (o : OpeningState). Valid (opened_over None o)) (sym e) valid) c.lists_of_opening.ensures.opening

pub returns-clause-started : goal.returns-clause-started
returns-clause-started c =
    let valid = valid_loaded c.args.limits.now c.args.records c.in_ok-opening.opening c.in_ok-opening.ensures.state c.requires.good c.in_ok-opening.ensures.narrow c.requires.made c.requires.queued in
    let rows = c.good_records_keep_good_entries.ensures.rows c.args.records.entries c.in_ok-opening.opening.entries c.requires.good.entries c.in_ok-opening.ensures.state.entries in
    if_ok (λ (lists : Lists). lists.opening ≡ c.in_ok-opening.opening) (λ (lists : Lists). IsOpeningState (opened_over None lists.opening)) c.lists_of_opening.result
    (λ lists e. subst (λ (o : OpeningState). IsOpeningState (opened_over None o)) (sym e) (opens-told None c.in_ok-opening.opening valid rows tt)) c.lists_of_opening.ensures.opening
