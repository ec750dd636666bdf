-- The state that a script opens with is valid, and one alone.
use Rattle.std.proofs.Common.{◌≡◌, List, [], map, Some, Result, Ok, Err, refl, sym, ap, subst, ◌∙◌, arith}
use Rattle.std.specs.Prelude.{IfOk}
use Rattle.std.specs.List.{IsDistinct}
use Rattle.portal_base.specs.declared.limits.Limits.{Limits}
use Rattle.portal_model.specs.Opening.{SoundOpening, ValidOpening, file_of, held_items}
use Rattle.portal_model.specs.Store.{Entries}
use Rattle.portal_model.specs.declared.opening.OpeningState.{OpeningState}
use Rattle.portal_model.proofs.OpeningLaws.{sound-ValidOpening}
use Rattle.record_keeper.specs.KeptEntries.{KeepEntries}
use Rattle.record_keeper.proofs.HeldEntries.{good_differ}
use Rattle.record_keeper.proofs.KeptFacts.{kept_in_one_way}
use Rattle.script_form.specs.Opening.{HoldsScripts, IsOpening, entries_of, files_of, opening_with}
use Rattle.script_form.specs.Order.{IsScript}
use Rattle.script_lines.specs.declared.script.ScriptLine.{ScriptLine}
use Rattle.script_form.proofs.RecordsFacts.{good_entries}
use Rattle.script_form.proofs.SoundFacts.{all_clear, applications_few, clear_differ, documents_few, files_apart, files_first, files_named, grants_are, grants_differ, identifiers_are, names_are, no_root, none_above, none_folders, numbers_differ, paths, paths_are}

sound : (limits : Limits) (lines : List ScriptLine) (entries : Entries) → IsScript lines → HoldsScripts limits → KeepEntries (entries_of lines) entries → SoundOpening (opening_with entries limits lines)
unfolding IsDistinct
sound limits lines entries good holds kept =
    let few = documents_few lines [] (omega arith) good in
    let documents = holds.documents in
    let made = holds.made in
    record {
      made = refl;
      applications = refl;
      numbers_differ = numbers_differ lines [] good;
      identifiers = identifiers_are lines [] good;
      paths = paths_are lines [] good;
      names = names_are lines [] good;
      grants = grants_are lines [] good;
      grants_differ = grants_differ lines [] good;
      entries_differ = good_differ (entries_of lines) entries (good_entries lines [] good) kept;
      entries_sound = kept.valid;
      files_differ = clear_differ (paths 0 lines) (all_clear lines [] 0 good);
      files_apart = files_apart (files_of lines) (files_of lines) (no_root lines [] 0 good) (none_above (paths 0 lines) (all_clear lines [] 0 good));
      files_named = files_named lines [] 0 good;
      folders_sound = none_folders (map file_of (files_of lines)) lines;
      files_first = files_first lines 0;
      none_taken = refl;
      documents_within = omega arith;
      made_within = omega arith;
      applications_within = applications_few lines [] (omega arith) good;
      made_limit = holds.made_limit;
      queued_limit = holds.queued_limit;
    }

opening_valid : (limits : Limits) (lines : List ScriptLine) (state : OpeningState) → IsScript lines → IsOpening limits lines state → HoldsScripts limits
    → ValidOpening (Some (held_items state.files)) state
opening_valid limits lines state good is holds =
    let opened : OpeningState = opening_with state.entries limits lines in
    subst (λ (s : OpeningState). ValidOpening (Some (held_items s.files)) s) (sym is.whole) (sound-ValidOpening opened (sound limits lines state.entries good holds is.entries))

pub valid_result : {E : Type 0} (limits : Limits) (lines : List ScriptLine) (result : Result OpeningState E) → IsScript lines
    → IfOk result (IsOpening limits lines) → HoldsScripts limits
    → IfOk result (λ state. ValidOpening (Some (held_items state.files)) state)
valid_result limits lines (Ok state) good is holds = opening_valid limits lines state good is holds
valid_result limits lines (Err error) good is holds = tt

pub one_opening : (limits : Limits) (lines : List ScriptLine) (one other : OpeningState) → IsOpening limits lines one → IsOpening limits lines other → one ≡ other
one_opening limits lines one other a b =
    a.whole
    ∙ (ap (λ (entries : Entries). opening_with entries limits lines) (kept_in_one_way (entries_of lines) one.entries other.entries a.entries b.entries)
    ∙ sym b.whole)
