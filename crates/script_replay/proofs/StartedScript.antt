-- The portal that a script opens.
use Rattle.std.proofs.Common.{◌≡◌, ℕ, ◌≤◌, ◌==◌, List, [], ◌∷◌, ◌++◌, map, Option, Some, None, true, false, inl, inr, refl, sym, ap, ◌∙◌, subst, arith}
use Rattle.file_generations.specs.Generations.{Held}
use Rattle.host_tree.specs.Devices.{TreeState, tree_of}
use Rattle.portal_base.specs.Calls.{Calls, FailsAsTold, next_call}
use Rattle.portal_base.specs.declared.limits.Limits.{Limits}
use Rattle.portal_start.specs.Loading.{BeganFirst, LoadsBadly}
use Rattle.portal_core.specs.Started.{Starts}
use Rattle.portal_start.specs.declared.start.StartError.{StartError}
use Rattle.portal_start.specs.declared.start.StartError.TheVariants as start_error
use Rattle.portal_steps.specs.Story.{state_first, state_now}
use Rattle.portal_model.specs.declared.records.Records.{Records}
use Rattle.portal_model.specs.History.{run}
use Rattle.portal_model.specs.Valid.{Valid}
use Rattle.record_keeper.specs.BadRecords.{AreGood, IsWrong, first_version}
use Rattle.record_keeper.specs.Devices.{KeeperState, keeper_of}
use Rattle.record_keeper.specs.KeptEntries.{KeepEntries}
use Rattle.record_keeper.specs.Keepers.{KeeperIs, Loads}
use Rattle.record_keeper.specs.declared.fault.RecordsFault.{RecordsFault}
use Rattle.record_keeper.specs.declared.fault.RecordsFault.TheVariants as wrong
use Rattle.record_keeper.specs.declared.keeper.KeeperLoad.TheVariants as load
use Rattle.record_keeper.proofs.OneIsWrong.{one_is_wrong}
use Rattle.script_form.specs.Devices.{held_files, script_keeper, script_tree, script_words}
use Rattle.script_form.specs.Opening.{HoldsScripts}
use Rattle.script_form.proofs.FirstFiles.{first_alone, none_beside}
use Rattle.script_form.specs.Order.{IsScript}
use Rattle.script_form.proofs.RecordsFacts.{never_bad}
use Rattle.script_form.specs.Outside.{Outside, after_keeper_call, outside_of}
use Rattle.script_replay.specs.Scenes.{ScriptPortal, opening_state, outside_at}
use Rattle.script_replay.specs.Started.{StartsScript}
use Rattle.std.specs.List.{list_any}
use Rattle.portal_base.specs.Outside.{rises_by}
use Rattle.portal_model.specs.Opening.{each, first_named, names_kept, opened_over, id_of}
use Rattle.portal_model.specs.State.{State}
use Rattle.portal_model.specs.Store.{Entries}
use Rattle.portal_model.specs.declared.opening.OpeningDocument.{OpeningDocument}
use Rattle.portal_model.specs.declared.records.DocRecord.{DocRecord}
use Rattle.portal_start.specs.Loading.{document_loaded, opening_loaded}
use Rattle.portal_base.specs.declared.names.doc_id.DocId.{DocId}
use Rattle.record_keeper.specs.BadRecords.{names_granted}
use Rattle.script_form.specs.Opening.{document_in, documents_of, entries_of, opening_with, records_of}
use Rattle.script_form.specs.Order.{StandBehind}
use Rattle.script_form.specs.Outside.{keeper_call_in}
use Rattle.script_lines.specs.declared.script.Device.TheVariants.{Keeper}
use Rattle.script_lines.specs.declared.script.ScriptLine.{ScriptLine}
use Rattle.script_lines.specs.declared.script.ScriptLine.TheVariants.{Doc, Fail}
use Rattle.script_replay.specs.Scenes.{run_limits}

-- the load is no call that a script makes fail
later : (n : ℕ) → 1 ≤ n → (rises_by n 1 == 1) ≡ false
later n h = grind (arith)

pub no_load_fails : (lines earlier : List ScriptLine) → StandBehind earlier lines → list_any (λ number. number == 1) (each keeper_call_in lines) ≡ false
no_load_fails [] earlier h = refl
no_load_fails (Fail Keeper call ∷ lines) earlier h = rw (later call h.0.itself.0) (no_load_fails lines _ h.1)
no_load_fails (line ∷ lines) earlier h = no_load_fails lines _ h.1

-- what is loaded of a script's records is what the script opens with
loaded_documents : (lines : List ScriptLine) → map document_loaded (map (λ (d : OpeningDocument). d.kept) (documents_of lines)) ≡ documents_of lines
loaded_documents [] = refl
loaded_documents (Doc id reusable strict path grants ∷ lines) = ap (λ (z : List OpeningDocument). document_in (Doc id reusable strict path grants) ++ z) (loaded_documents lines)
loaded_documents (line ∷ lines) = loaded_documents lines

loaded_numbers : (ds : List OpeningDocument) → map (λ (d : DocRecord). id_of d.number) (map (λ (d : OpeningDocument). d.kept) ds) ≡ map (λ (d : OpeningDocument). id_of d.kept.number) ds
loaded_numbers [] = refl
loaded_numbers (d ∷ ds) = ap (λ (z : List DocId). id_of d.kept.number ∷ z) (loaded_numbers ds)

loaded_names : (ds : List OpeningDocument) → each names_granted (map (λ (d : OpeningDocument). d.kept) ds) ≡ each names_kept ds
loaded_names [] = refl
loaded_names (d ∷ ds) = ap (λ (z : List (List ℕ)). names_kept d ++ z) (loaded_names ds)

abbrev over : Option Held → List OpeningDocument → List DocId → List (List ℕ) → Entries → State
over files documents made applications entries = opened_over files (record {
  limits = run_limits;
  documents = documents;
  made = made;
  applications = applications;
  entries = entries;
  files = [];
  taken = [];
})

-- the state that stands for the records of a script is the one that the script opens with
pub loaded_state : (entries : Entries) (files : Option Held) (lines : List ScriptLine) → opened_over files (opening_loaded entries run_limits (records_of lines)) ≡ opened_over files (opening_with entries run_limits lines)
loaded_state entries files lines =
    let ds = documents_of lines in
    let kept = map (λ (d : OpeningDocument). d.kept) ds in
    ap (λ (z : List OpeningDocument). over files z (map (λ (d : DocRecord). id_of d.number) kept) (first_named (each names_granted kept)) entries) (loaded_documents lines)
    ∙ (ap (λ (z : List DocId). over files ds z (first_named (each names_granted kept)) entries) (loaded_numbers ds)
    ∙ ap (λ (z : List (List ℕ)). over files ds (map (λ (d : OpeningDocument). id_of d.kept.number) ds) (first_named z) entries) (loaded_names ds))

-- ---- the portal that starts

-- its limits hold each script's records
pub holds : HoldsScripts run_limits
holds = record { documents = omega arith; made = omega arith; made_limit = omega arith; queued_limit = omega arith }

some_is : (x y : Calls) → Some x ≡ Some y → x ≡ y
some_is x y e = cc

abbrev outside : List ℕ → ℕ → Calls → Calls → Outside
outside words clock tree keeper = record { words = words; clock = clock; tree = tree; keeper = keeper }

module _ (lines : List ScriptLine) (tree : TreeState) (keeper : KeeperState) (words : List ℕ) (clock : ℕ) (limits : Limits) (good : IsScript lines) (t : tree ≡ script_tree lines) (k : keeper ≡ script_keeper lines) (w : words ≡ script_words lines) (c : clock ≡ 0) (l : limits ≡ run_limits) where
  pub told_began : (tree_of tree).told ≡ (tree_of tree).began
  told_began = ap (λ (x : TreeState). Some x.files) t ∙ sym (ap (λ (x : TreeState). Some x.began) t)

  pub began_first : BeganFirst (tree_of tree).began
  began_first = record { none_hidden = none_beside lines tree t; first = first_alone lines tree t }

  module _ (p : ScriptPortal) (s : Starts tree_of keeper_of tree keeper clock words limits p) where
    -- the entries that its records keep
    abbrev entries : Entries
    entries = p.story.opening.entries

    records_are : s.loaded.records ≡ records_of lines
    records_are = s.loaded.loads.gives ∙ ap (λ (x : KeeperState). x.records) k

    kept : KeepEntries (entries_of lines) entries
    kept = subst (λ (x : Records). KeepEntries x.entries entries) records_are s.loaded.opening_is.entries

    state : state_first p.story ≡ opening_state entries lines
    state =
        let opened = s.loaded.opening_is.whole ∙ (ap (λ (x : Limits). opening_loaded entries x s.loaded.records) l ∙ ap (opening_loaded entries run_limits) records_are) in
        ap (λ (x : Option Held). opened_over x p.story.opening) (s.began ∙ ap (λ (x : TreeState). Some x.began) t)
        ∙ (ap (opened_over (Some (held_files lines))) opened ∙ loaded_state entries (Some (held_files lines)) lines)

    -- the records are this version's, so the keeper was not asked to change them
    stayed : keeper_of p.keeper ≡ s.loaded.loaded
    stayed = s.loaded.upgrades.stays (λ first. absurd (cc (ap (λ (x : Records). x.version) records_are, first)))

    went : outside_at p ≡ after_keeper_call (outside_of lines)
    went =
        let calls : p.tree.count.calls ≡ (script_tree lines).count.calls = ap (λ (x : TreeState). x.count.calls) (s.tree_kept ∙ t) in
        let loaded : p.keeper.count.calls ≡ next_call keeper.count.calls = some_is _ _ (ap (λ (x : KeeperIs). x.calls) (stayed ∙ s.loaded.loads.goes)) in
        ap (λ (x : List ℕ). outside x p.clock p.tree.count.calls p.keeper.count.calls) (s.words_kept ∙ w)
        ∙ (ap (λ (x : ℕ). outside (script_words lines) x p.tree.count.calls p.keeper.count.calls) (s.clock_kept ∙ c)
        ∙ (ap (λ (x : Calls). outside (script_words lines) 0 x p.keeper.count.calls) calls
        ∙ ap (λ (x : Calls). outside (script_words lines) 0 (script_tree lines).count.calls x) (loaded ∙ ap (λ (x : KeeperState). next_call x.count.calls) k)))

    pub starts_script : Valid (state_now p.story) → StartsScript lines p
    starts_script valid = record {
      history = s.history;
      entries = entries;
      kept = kept;
      state = state;
      valid = subst Valid (ap (run (state_first p.story)) s.history ∙ state) valid;
      outside = went;
    }

  -- the keeper doesn't fail
  never_fails : (new : KeeperIs) → Loads (keeper_of keeper) load.Failed new → ⊥
  never_fails new h =
      let fails : true ≡ list_any (λ number. number == 1) (each keeper_call_in lines) = subst (λ (x : KeeperState). FailsAsTold (Some x.count.calls) true) k h.fails in
      let none = no_load_fails lines [] good in
      cc (fails, none)

  -- and no record is bad
  never_wrong : (fault : RecordsFault) (new : KeeperIs) → (records : Records) × Loads (keeper_of keeper) (load.Got records) new × IsWrong limits records (Some fault) → ⊥
  never_wrong fault new (records, loads, wrong) =
      let same : records ≡ records_of lines = loads.gives ∙ ap (λ (x : KeeperState). x.records) k in
      let fine : AreGood limits records = subst (λ (x : Limits). AreGood x records) (sym l) (subst (AreGood run_limits) (sym same) (never_bad run_limits lines good holds)) in
      let e : None ≡ Some fault = one_is_wrong limits records None (Some fault) fine wrong in
      cc e

  -- and they are this version's
  never_first : (records : Records) (new : KeeperIs) → Loads (keeper_of keeper) (load.Got records) new → records.version ≡ first_version → ⊥
  never_first records new loads first =
      let same : records ≡ records_of lines = loads.gives ∙ ap (λ (x : KeeperState). x.records) k in
      cc (ap (λ (x : Records). x.version) same, first)

  -- so where no portal starts there was no memory
  pub only_memory : (e : StartError) (new : KeeperIs) → LoadsBadly limits (keeper_of keeper) e new → e ≡ start_error.Memory
  only_memory start_error.KeeperFault new (inl h) = absurd (never_fails new h)
  only_memory start_error.KeeperFault new (inr h) = absurd (never_first h.records h.loaded h.loads h.version)
  only_memory (start_error.BadVersion found) new h = absurd (never_wrong (wrong.BadVersion found) new h)
  only_memory (start_error.BadRecord index) new h = absurd (never_wrong (wrong.BadRecord index) new h)
  only_memory start_error.Memory new h = refl
