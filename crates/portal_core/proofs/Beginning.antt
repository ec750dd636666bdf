-- A portal that starts: its lists are those of a valid state, and the keeper's records stand for it.
use Rattle.std.specs.Prelude.{IfSome, option_map}
use Rattle.std.proofs.Common.{◌≡◌, ℕ, inl, inr, List, [], ◌∷◌, ◌++◌, map, Bool, false, cond, Option, Some, None, refl, sym, ap, subst, ◌∙◌, arith}
use Rattle.std.specs.List.{IsDistinct, list_all}
use Rattle.document_records.specs.Documents.{DocumentList}
use Rattle.file_generations.specs.Generations.{Held, held_with}
use Rattle.file_ops.specs.SeatNames.{OwnTables}
use Rattle.file_ops.specs.SeatTemps.{held_by}
use Rattle.folder_documents.specs.Named.{Named, named_on}
use Rattle.node_looks.specs.OpenHandles.{AreOpened, open_on}
use Rattle.open_handles.specs.Opened.{HandleTable, Opened, opened_on}
use Rattle.portal_desk.proofs.Openings.{AreTree}
use Rattle.portal_base.specs.declared.files.File.{File}
use Rattle.portal_base.specs.declared.limits.Limits.{Limits}
use Rattle.portal_model.specs.declared.opening.OpeningState.{OpeningState}
use Rattle.portal_model.specs.declared.opening.TakenGeneration.{TakenGeneration}
use Rattle.portal_model.specs.declared.records.RecordChange.TheVariants.{Upgrade}
use Rattle.portal_model.specs.declared.records.Records.{Records}
use Rattle.portal_model.specs.declared.state.Triple.{Triple}
use Rattle.portal_model.specs.Kept.{records_of}
use Rattle.portal_model.specs.Opening.{document_kept, files_of, hidden_of, is_folder_kept, is_told, opened_over, rights_kept}
use Rattle.portal_model.specs.RecordChanges.{changed_by, records_version}
use Rattle.portal_model.specs.SoundGenerations.{SoundGenerations}
use Rattle.portal_model.specs.Valid.{Valid, is_sound_folder}
use Rattle.portal_model.proofs.DistinctItems.{list_all-weaken}
use Rattle.portal_model.proofs.OpeningLaws.{still_named}
use Rattle.record_keeper.specs.BadRecords.{IsVersion}
use Rattle.record_keeper.specs.Keepers.{KeeperIs}
use Rattle.portal_steps.specs.Answered.{KeepsState}
use Rattle.portal_steps.specs.Held.{Stands}
use Rattle.portal_start.specs.Loading.{BeganFirst, LoadsGood}
use Rattle.save_files.specs.Own.{Own, own_on}
use Rattle.portal_start.proofs.GoodRecords.{none_folders, over_any}
use Rattle.portal_start.proofs.LoadedRecords.{back}

-- the files that a state tells that began so
told_by : (began : Option Held) → cond (is_told began) (Some (held_with (files_of began) (hidden_of began))) None ≡ began
told_by None = refl
told_by (Some held) = refl

-- where nothing is told the generations that were taken differ in path still
none_told : (told : Bool) (files hidden : List File) (taken : List TakenGeneration) → SoundGenerations told files hidden taken → SoundGenerations false [] [] taken
unfolding IsDistinct
none_told told files hidden taken g = record {
  differ = tt;
  apart = refl;
  named = refl;
  placed = refl;
  followed = refl;
  none_untold = λ e. refl;
  taken_differ = g.taken_differ;
  files_taken = refl;
  hidden_taken = refl;
}

-- a state that is valid over some files is valid over a tree that tells nothing
pub valid_untold : (o : OpeningState) (began : Option Held) → Valid (opened_over began o) → Valid (opened_over None o)
unfolding IsDistinct
valid_untold o began v = record {
  numbers_differ = v.numbers_differ;
  numbers_made = v.numbers_made;
  identifiers = v.identifiers;
  paths = v.paths;
  folders_sound = list_all-weaken (is_sound_folder (is_told began) (files_of began)) (is_sound_folder false []) (still_named (is_told began) (files_of began)) (map document_kept o.documents) v.folders_sound;
  applications_differ = v.applications_differ;
  names = v.names;
  rights_in_order = v.rights_in_order;
  rights_placed = v.rights_placed;
  seats_differ = v.seats_differ;
  connections_sound = v.connections_sound;
  namings_sound = tt;
  temps_sound = tt;
  temps_taken = refl;
  handles_differ = v.handles_differ;
  handles_sound = v.handles_sound;
  handles_made = v.handles_made;
  handles_taken = refl;
  handles_within = v.handles_within;
  entries_differ = v.entries_differ;
  entries_sound = v.entries_sound;
  files_differ = tt;
  files_apart = refl;
  files_named = refl;
  files_told = λ e. refl;
  generations_sound = none_told (is_told began) (files_of began) (hidden_of began) o.taken v.generations_sound;
  documents_within = v.documents_within;
  made_within = v.made_within;
  applications_within = v.applications_within;
  made_limit = v.made_limit;
  queued_limit = v.queued_limit;
}

-- records open a state that is valid over any tree of first files, for no document of theirs is a
-- folder
pub valid_first : (began : Option Held) (o : OpeningState) (limits : Limits) (old new : KeeperIs) → LoadsGood limits old o new → Valid (opened_over None o) → AreTree began → BeganFirst began → Valid (opened_over began o)
valid_first began o limits old new g v t f =
    over_any o began (λ files. ap (λ (x : OpeningState). list_all (is_folder_kept files) x.documents) g.opening_is.whole ∙ none_folders files g.records.documents) (ap (λ (x : OpeningState). x.taken) g.opening_is.whole) v t f

module _ (began : Option Held) (o : OpeningState) (ds : DocumentList) (rs : List Triple) (apps : List (List ℕ)) (k : ds ≡ record { most_live = o.limits.documents; most_made = o.limits.made; live = map document_kept o.documents; made = o.made }) (r : rs ≡ rights_kept o.documents) (a : apps ≡ o.applications) where
  nothing-open : (q : ℕ) (n : Option Opened) → n ≡ None → AreOpened (open_on [] q) None n
  nothing-open q None e = tt
  nothing-open q (Some n) e = absurd (cc)

  nothing-named : (q : ℕ) (n : Option Named) → n ≡ None → option_map (λ (x : Named). x.namings) n ≡ None
  nothing-named q n e = ap (λ (o : Option Named). option_map (λ (x : Named). x.namings) o) e

  nothing-kept : (q : ℕ) (n : Option Own) → n ≡ None → option_map held_by n ≡ None
  nothing-kept q n e = ap (λ (o : Option Own). option_map held_by o) e

  pub stands_first : (limit : ℕ) (table : HandleTable) (own : OwnTables) (told : Option Held) → Valid (opened_over began o) → limit ≡ o.limits.history → table.most ≡ o.limits.handles → table.seats ≡ [] → own.names ≡ [] → own.temps.seats ≡ [] → own.temps.taken ≡ o.taken → told ≡ began → Stands began o [] limit ds rs apps [] table own told
  stands_first limit table own told v l m e n k' t f = record {
    legal = record { opening = v; lawful = tt };
    limit_is = l;
    within = omega arith;
    holds = record {
      limits_are = refl;
      lists = record {
        book = record {
          live = ap (λ (x : DocumentList). x.live) (sym k);
          made = ap (λ (x : DocumentList). x.made) (sym k);
          most_live = ap (λ (x : DocumentList). x.most_live) (sym k);
          most_made = ap (λ (x : DocumentList). x.most_made) (sym k);
          held = sym r;
          numbered = sym a;
        };
        connected = refl;
      };
      handles = record { limit = m; each = λ q. nothing-open q (opened_on table.seats q) (ap (λ (xs : List (ℕ × Opened)). opened_on xs q) e) };
      own = record {
        named = λ q. nothing-named q (named_on own.names q) (ap (λ (xs : List (ℕ × Named)). named_on xs q) n);
        temps = record { each = λ q. nothing-kept q (own_on own.temps.seats q) (ap (λ (xs : List (ℕ × Own)). own_on xs q) k'); taken = t };
      };
      files = told_by began ∙ sym f;
    };
  }

same_told : (began : Option Held) (o : OpeningState) (told : Option Records) (records : Records) → IfSome told (λ kept. records ≡ kept) → records_of (opened_over began o) ≡ records → KeepsState told (opened_over began o)
same_told began o None records g e = tt
same_told began o (Some kept) records g e = sym (e ∙ g)

-- the same of a keeper whose records became this version's
same_upgraded : (began : Option Held) (o : OpeningState) (told : Option Records) (records : Records) → IfSome told (λ kept. records ≡ kept) → records_of (opened_over began o) ≡ record records { version = records_version } →
    KeepsState (option_map (changed_by (Upgrade ∷ [])) told) (opened_over began o)
same_upgraded began o None records g e = tt
same_upgraded began o (Some kept) records g e = sym (e ∙ ap (λ (r : Records). record r { version = records_version }) g)

pub kept_first : (began : Option Held) (o : OpeningState) (limits : Limits) (old new : KeeperIs) → LoadsGood limits old o new → KeepsState new.told (opened_over began o)
kept_first began o limits old new g = by_version g.good.version
  where
    loaded : g.loaded.told ≡ old.told
    loaded = ap (λ (x : KeeperIs). x.told) g.loads.goes

    same : records_of (opened_over began o) ≡ record g.records { version = records_version }
    same = ap (λ (x : OpeningState). records_of (opened_over began x)) g.opening_is.whole ∙ back limits g.records began o.entries g.opening_is.entries g.good

    by_version : IsVersion g.records.version → KeepsState new.told (opened_over began o)
    by_version (inl first) =
        let told : new.told ≡ option_map (changed_by (Upgrade ∷ [])) old.told =
        ap (λ (x : KeeperIs). x.told) (g.upgrades.made first).goes ∙ ap (option_map (changed_by (Upgrade ∷ []))) loaded in
        subst (λ (t : Option Records). KeepsState t (opened_over began o)) (sym told) (same_upgraded began o old.told g.records g.loads.gives same)
    by_version (inr this) =
        let told : new.told ≡ old.told = ap (λ (x : KeeperIs). x.told) (g.upgrades.stays (λ first. absurd (cc (sym this ∙ first)))) ∙ loaded in
        let whole : records_of (opened_over began o) ≡ g.records = same ∙ ap (λ (n : ℕ). record g.records { version = n }) (sym this) in
        subst (λ (t : Option Records). KeepsState t (opened_over began o)) (sym told) (same_told began o old.told g.records g.loads.gives whole)
