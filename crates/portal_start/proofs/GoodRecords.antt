-- Good records open a valid state, over any tree of files and over one that tells nothing.
use Rattle.std.proofs.Common.{◌≡◌, ℕ, ◌+◌, ◌<◌, ◌≤◌, ◌^◌, nat_eq, nat_le, nat_lt, length, List, [], ◌∷◌, ◌++◌, map, Bool, true, false, not, ◌&&◌, ◌||◌, Option, Some, None, refl, sym, ap, subst, ◌∙◌, arith}
use Rattle.std.specs.List.{list_any, list_all, IsDistinct, All, AllByRecursion}
use Rattle.std.specs.List.Sorted.{IsStrictlySortedBy}
use Rattle.std.specs.Ordering.{is_eq}
use Rattle.std.specs.declared.cmp.Ordering.TheVariants.{Less}
use Rattle.std.proofs.lemmas.Bool.Decides.{nat_tests}
use Rattle.std.proofs.lemmas.List.{append-nil, append_assoc, length-append, length-map}
use Rattle.std.proofs.lemmas.List.Elements.{All-cons, All-head, All-nil, All-tail}
use Rattle.std.proofs.lemmas.List.Folds.{list_all-map, list_any-append}
use Rattle.file_generations.specs.Generations.{Held}
use Rattle.portal_base.specs.Content.{IsTree, paths_of}
use Rattle.portal_base.specs.Names.{is_app_name, is_host_path, is_same, root}
use Rattle.portal_base.specs.PathOrder.{path_order}
use Rattle.portal_base.specs.PathOrders.{path_order_ties}
use Rattle.portal_base.specs.declared.files.File.{File}
use Rattle.portal_base.specs.declared.limits.Limits.{Limits}
use Rattle.portal_base.specs.declared.names.doc_id.DocId.{DocId}
use Rattle.portal_model.specs.declared.opening.OpeningDocument.{OpeningDocument}
use Rattle.portal_model.specs.declared.opening.OpeningState.{OpeningState}
use Rattle.portal_model.specs.declared.records.DocRecord.{DocRecord}
use Rattle.portal_model.specs.declared.records.EntryRecord.{EntryRecord}
use Rattle.portal_model.specs.declared.records.GrantRecord.{GrantRecord}
use Rattle.portal_model.specs.declared.records.Records.{Records}
use Rattle.portal_model.specs.Content.{is_above, is_folder}
use Rattle.portal_model.specs.Opening.{document_kept, each, first_named, has_grants, id_of, is_folder_kept, is_grant, names_kept, opened_over, GrantsDiffer, SoundOpening}
use Rattle.portal_model.specs.SoundGenerations.{SoundGenerations}
use Rattle.portal_model.specs.Store.{Entries}
use Rattle.portal_model.specs.Valid.{Valid, applications_limit, is_sound_folder}
use Rattle.portal_desk.proofs.Openings.{AreTree}
use Rattle.portal_model.proofs.GenerationsValid.{first-generations}
use Rattle.portal_model.proofs.OpeningLaws.{openings-valid}
use Rattle.record_keeper.specs.BadRecords.{AllGood, AreGood, EachBehind, IsGoodDocument, IsGoodEntry, applications_of, names_granted}
use Rattle.record_keeper.specs.KeptEntries.{KeepEntries}
use Rattle.record_keeper.specs.SoundRecords.{IsGrant, IsSoundDocument, IsValidEntry}
use Rattle.record_keeper.proofs.HeldEntries.{good_differ}
use Rattle.portal_start.specs.Loading.{AreFirst, BeganFirst, document_loaded, is_narrow, opening_loaded}
use Rattle.portal_start.proofs.KeptRights.{rising_names}

-- ---- items that are good behind those before them

module _ {X : Type 0} (Good : List X → X → Type 0) (same : X → X → Bool) (new : (earlier : List X) (x : X) → Good earlier x → list_any (λ e. same e x) earlier ≡ false) where
  fresh : (d x : X) (earlier : List X) (b : Bool) → same d x ≡ b → (same d x ≡ true → list_any (λ e. same e x) earlier ≡ true) → list_any (λ e. same e x) earlier ≡ false → same d x ≡ false
  fresh d x earlier true e known none = let some : list_any (λ e. same e x) earlier ≡ true = known e in cc (some, none)
  fresh d x earlier false e known none = e

  still : (x y : X) (earlier : List X) → list_any (λ e. same e x) earlier ≡ true → list_any (λ e. same e x) (earlier ++ (y ∷ [])) ≡ true
  still x y earlier h = list_any-append (λ e. same e x) earlier (y ∷ []) ∙ ap (λ (b : Bool). b || (same y x || false)) h

  last : (d x : X) (earlier : List X) → same d x ≡ true → list_any (λ e. same e x) (earlier ++ (d ∷ [])) ≡ true
  last d x earlier h = list_any-append (λ e. same e x) earlier (d ∷ []) ∙ grind (arith, h)

  later : (d : X) (xs earlier : List X) → ((x : X) → same d x ≡ true → list_any (λ e. same e x) earlier ≡ true) → EachBehind Good earlier xs → AllByRecursion (λ y. same d y ≡ false) xs
  later d [] earlier known all = tt
  later d (x ∷ xs) earlier known all = (fresh d x earlier (same d x) refl (known x) (new earlier x all.0), later d xs (earlier ++ (x ∷ [])) (λ y e. still y x earlier (known y e)) all.1)

  pub each_differs : (xs earlier : List X) → EachBehind Good earlier xs → IsDistinct same xs
  unfolding IsDistinct
  each_differs [] earlier all = tt
  each_differs (x ∷ xs) earlier all = (later x xs (earlier ++ (x ∷ [])) (λ y e. last x y earlier e) all.1, each_differs xs (earlier ++ (x ∷ [])) all.1)

module _ {X K : Type 0} (f : X → K) (same : K → K → Bool) where
  all_mapped : (k : K) (xs : List X) → AllByRecursion (λ y. same k (f y) ≡ false) xs → AllByRecursion (λ y. same k y ≡ false) (map f xs)
  all_mapped k [] h = tt
  all_mapped k (x ∷ xs) h = (h.0, all_mapped k xs h.1)

  differ_mapped : (xs : List X) → IsDistinct (λ a b. same (f a) (f b)) xs → IsDistinct same (map f xs)
  unfolding IsDistinct
  differ_mapped [] h = tt
  differ_mapped (x ∷ xs) h = (all_mapped (f x) xs h.0, differ_mapped xs h.1)

-- ---- documents

module _ (version : ℕ) (limits : Limits) where
  pub all_sound : (ds earlier : List DocRecord) → EachBehind (IsGoodDocument version limits) earlier ds → All IsSoundDocument ds
  all_sound [] earlier all = All-nil IsSoundDocument
  all_sound (d ∷ ds) earlier all = All-cons IsSoundDocument d ds all.0.itself (all_sound ds (earlier ++ (d ∷ [])) all.1)

  few : (ds earlier : List DocRecord) (most : ℕ) → ((e : List DocRecord) (d : DocRecord) → IsGoodDocument version limits e d → length e < most) → length earlier ≤ most → EachBehind (IsGoodDocument version limits) earlier ds → length earlier + length ds ≤ most
  few [] earlier most limit h all = omega (arith, h)
  few (d ∷ ds) earlier most limit h all =
      let one : length earlier < most = limit earlier d all.0 in
      let longer : length (earlier ++ (d ∷ [])) ≡ length earlier + 1 = length-append earlier (d ∷ []) in
      let rest = few ds (earlier ++ (d ∷ [])) most limit (omega (arith, one, longer)) all.1 in
      omega (arith, rest, longer)

  few_named : (ds earlier : List DocRecord) → length (applications_of earlier) ≤ applications_limit → EachBehind (IsGoodDocument version limits) earlier ds → length (applications_of (earlier ++ ds)) ≤ applications_limit
  few_named [] earlier h all = rw (append-nil earlier) h
  few_named (d ∷ ds) earlier h all = subst (λ (x : List DocRecord). length (applications_of x) ≤ applications_limit) (append_assoc earlier (d ∷ []) ds) (few_named ds (earlier ++ (d ∷ [])) all.0.applications all.1)

  pub numbers_apart : (ds : List DocRecord) → AllGood (IsGoodDocument version limits) ds → IsDistinct nat_eq (map (λ (d : DocRecord). d.number) ds)
  numbers_apart ds all = differ_mapped (λ (d : DocRecord). d.number) nat_eq ds (each_differs (IsGoodDocument version limits) (λ (a b : DocRecord). nat_eq a.number b.number) (λ earlier x good. good.new) ds [] all)

numbers_loaded : (ds : List DocRecord) → map (λ (d : OpeningDocument). d.kept.number) (map document_loaded ds) ≡ map (λ (d : DocRecord). d.number) ds
numbers_loaded [] = refl
numbers_loaded (d ∷ ds) = ap (λ (x : List ℕ). d.number ∷ x) (numbers_loaded ds)

pub made_loaded : (ds : List DocRecord) → map (λ (d : OpeningDocument). id_of d.kept.number) (map document_loaded ds) ≡ map (λ (d : DocRecord). id_of d.number) ds
made_loaded [] = refl
made_loaded (d ∷ ds) = ap (λ (x : List DocId). id_of d.number ∷ x) (made_loaded ds)

each_loaded : (ds : List DocRecord) → each names_granted ds ≡ each names_kept (map document_loaded ds)
each_loaded [] = refl
each_loaded (d ∷ ds) = ap (λ (x : List (List ℕ)). names_granted d ++ x) (each_loaded ds)

both : (a b : Bool) → a ≡ true → b ≡ true → (a && b) ≡ true
both a b h k = rw (h, k) refl

grants_right : (gs : List GrantRecord) → All IsGrant gs → list_all is_grant gs ≡ true
grants_right [] all = refl
grants_right (g ∷ gs) all = let one = All-head IsGrant g gs all in both (is_grant g) _ (right_one g.rights one.some_right one.no_other) (grants_right gs (All-tail IsGrant g gs all))
  where
    right_one : (r : ℕ) → 1 ≤ r → r ≤ 15 → (nat_le 1 r && nat_le r 15) ≡ true
    right_one r some most = grind (arith, nat_tests)

names_right : (gs : List GrantRecord) → All IsGrant gs → list_all is_app_name (map (λ (g : GrantRecord). g.app) gs) ≡ true
names_right [] all = refl
names_right (g ∷ gs) all = both (is_app_name g.app) _ (All-head IsGrant g gs all).name (names_right gs (All-tail IsGrant g gs all))

paths_loaded : (ds : List DocRecord) → All IsSoundDocument ds → list_all (λ (d : OpeningDocument). is_host_path d.kept.path) (map document_loaded ds) ≡ true
paths_loaded [] all = refl
paths_loaded (d ∷ ds) all = both (is_host_path d.path) _ (All-head IsSoundDocument d ds all).path (paths_loaded ds (All-tail IsSoundDocument d ds all))

names_loaded : (ds : List DocRecord) → All IsSoundDocument ds → list_all (λ (d : OpeningDocument). list_all is_app_name (names_kept d)) (map document_loaded ds) ≡ true
names_loaded [] all = refl
names_loaded (d ∷ ds) all = both (list_all is_app_name (names_granted d)) _ (names_right d.grants (All-head IsSoundDocument d ds all).grants) (names_loaded ds (All-tail IsSoundDocument d ds all))

grants_loaded : (ds : List DocRecord) → All IsSoundDocument ds → list_all has_grants (map document_loaded ds) ≡ true
grants_loaded [] all = refl
grants_loaded (d ∷ ds) all = both (list_all is_grant d.grants) _ (grants_right d.grants (All-head IsSoundDocument d ds all).grants) (grants_loaded ds (All-tail IsSoundDocument d ds all))

grants_apart : (ds : List DocRecord) → All IsSoundDocument ds → GrantsDiffer (map document_loaded ds)
grants_apart [] all = tt
grants_apart (d ∷ ds) all = (rising_names (names_granted d) (All-head IsSoundDocument d ds all).rising, grants_apart ds (All-tail IsSoundDocument d ds all))

narrow_loaded : (ds : List DocRecord) → list_all is_narrow (map (λ (d : DocRecord). id_of d.number) ds) ≡ true → list_all (λ (d : OpeningDocument). nat_lt d.kept.number (2 ^ 32)) (map document_loaded ds) ≡ true
narrow_loaded [] h = refl
narrow_loaded (d ∷ ds) h = grind (arith, narrow_loaded ds)

pub narrow_more : (ids : List DocId) (n : ℕ) → list_all is_narrow ids ≡ true → n < 2 ^ 32 → list_all is_narrow (ids ++ id_of n ∷ []) ≡ true
narrow_more [] n h l = grind (arith, nat_tests, l)
narrow_more (id ∷ ids) n h l = grind (arith, narrow_more ids n)

-- ---- entries

pub entries_right : (es earlier : List EntryRecord) → EachBehind IsGoodEntry earlier es → All IsValidEntry es
entries_right [] earlier all = All-nil IsValidEntry
entries_right (e ∷ es) earlier all = All-cons IsValidEntry e es all.0.itself.valid (entries_right es (earlier ++ (e ∷ [])) all.1)

no_files : IsDistinct is_same []
unfolding IsDistinct
no_files = tt

-- no record is of a folder, so whatever the tree tells
pub none_folders : (files : List File) (ds : List DocRecord) → list_all (is_folder_kept files) (map document_loaded ds) ≡ true
none_folders files [] = refl
none_folders files (d ∷ ds) = none_folders files ds

-- ---- the whole

pub sound_records : (limits : Limits) (records : Records) (entries : Entries) → KeepEntries records.entries entries → AreGood limits records → list_all is_narrow (opening_loaded entries limits records).made ≡ true → limits.made < 2 ^ 32 → limits.queued < 2 ^ 32 → SoundOpening (opening_loaded entries limits records)
sound_records limits records entries kept good narrow made queued =
    let ds = records.documents in
    let sound = all_sound records.version limits ds [] good.documents in
    record {
      made = sym (made_loaded ds);
      applications = ap first_named (each_loaded ds);
      numbers_differ = subst (IsDistinct nat_eq) (sym (numbers_loaded ds)) (numbers_apart records.version limits ds good.documents);
      identifiers = narrow_loaded ds narrow;
      paths = paths_loaded ds sound;
      names = names_loaded ds sound;
      grants = grants_loaded ds sound;
      grants_differ = grants_apart ds sound;
      entries_differ = good_differ records.entries entries good.entries kept;
      entries_sound = kept.valid;
      files_differ = no_files;
      files_apart = refl;
      files_named = refl;
      folders_sound = none_folders [] ds;
      files_first = refl;
      none_taken = refl;
      documents_within = rw (length-map ds document_loaded) (let within = few records.version limits ds [] limits.documents (λ e d k. k.live) (omega arith) good.documents in omega (arith, within));
      made_within = rw (length-map ds document_loaded) (let within = few records.version limits ds [] limits.made (λ e d k. k.made) (omega arith) good.documents in omega (arith, within));
      applications_within = few_named records.version limits ds [] (omega arith) good.documents;
      made_limit = made;
      queued_limit = queued;
    }

any_paths : (p : List ℕ) (files : List File) → list_any (λ (f : File). is_above p f.path) files ≡ list_any (is_above p) (paths_of files)
any_paths p [] = refl
any_paths p (f ∷ fs) = ap (λ (b : Bool). is_above p f.path || b) (any_paths p fs)

neither : (a b : Bool) → not a ≡ true → not b ≡ true → not (a || b) ≡ true
neither true b h k = h
neither false b h k = k

each_apart : (whole fs : List File) → list_all (λ (p : List ℕ). not (is_same p root)) (paths_of fs) ≡ true → list_all (λ (p : List ℕ). not (list_any (is_above p) (paths_of whole))) (paths_of fs) ≡ true →
    list_all (λ (f : File). not (is_folder whole f.path)) fs ≡ true
each_apart whole [] h k = refl
each_apart whole (f ∷ fs) h k =
    let one : not (is_same f.path root) ≡ true = grind arith in
    let two : not (list_any (is_above f.path) (paths_of whole)) ≡ true = grind arith in
    let roots : list_all (λ (p : List ℕ). not (is_same p root)) (paths_of fs) ≡ true = grind arith in
    let others : list_all (λ (p : List ℕ). not (list_any (is_above p) (paths_of whole))) (paths_of fs) ≡ true = grind arith in
    both (not (is_folder whole f.path)) _ (neither (is_same f.path root) _ one (ap not (any_paths f.path whole) ∙ two)) (each_apart whole fs roots others)

all_past : (p : List ℕ) (ps : List (List ℕ)) → AllByRecursion (λ y. path_order p y ≡ Less) ps → AllByRecursion (λ y. is_same p y ≡ false) ps
all_past p [] h = tt
all_past p (q ∷ qs) h = (path_order_ties p q ∙ ap is_eq h.0, all_past p qs h.1)

sorted_differ : (ps : List (List ℕ)) → IsStrictlySortedBy path_order ps → IsDistinct is_same ps
unfolding IsDistinct IsStrictlySortedBy
sorted_differ [] h = tt
sorted_differ (p ∷ ps) h = (all_past p ps h.0, sorted_differ ps h.1)

pub paths_differ : (files : List File) → IsTree files → IsDistinct is_same (paths_of files)
paths_differ files t = sorted_differ (paths_of files) t.placed.in_order

no_hidden : (held : Held) → AreFirst held → SoundGenerations true held.present held.hidden []
no_hidden held f = subst (λ (hs : List File). SoundGenerations true held.present hs []) (sym f.none_hidden) (first-generations true held.present f.first)

-- a state in which no generation was taken is valid over a tree that tells where it is over one
-- that doesn't, and the tree has the folders that are documents, and just first files
with_files : (o : OpeningState) (held : Held) → list_all (is_folder_kept held.present) o.documents ≡ true → o.taken ≡ [] → Valid (opened_over None o) → IsTree held.present → AreFirst held → Valid (opened_over (Some held) o)
with_files o held k none v t f = record {
  numbers_differ = v.numbers_differ;
  numbers_made = v.numbers_made;
  identifiers = v.identifiers;
  paths = v.paths;
  folders_sound = list_all-map (is_sound_folder true held.present) document_kept o.documents ∙ k;
  applications_differ = v.applications_differ;
  names = v.names;
  rights_in_order = v.rights_in_order;
  rights_placed = v.rights_placed;
  seats_differ = v.seats_differ;
  connections_sound = v.connections_sound;
  namings_sound = tt;
  temps_sound = tt;
  temps_taken = refl;
  handles_differ = v.handles_differ;
  handles_sound = v.handles_sound;
  handles_made = v.handles_made;
  handles_taken = refl;
  handles_within = v.handles_within;
  entries_differ = v.entries_differ;
  entries_sound = v.entries_sound;
  files_differ = paths_differ held.present t;
  files_apart = each_apart held.present held.present t.placed.no_root t.placed.apart;
  files_named = sym (list_all-map is_host_path (λ (f : File). f.path) held.present) ∙ t.names;
  files_told = λ e. cc;
  generations_sound = subst (SoundGenerations true held.present held.hidden) (sym none) (no_hidden held f);
  documents_within = v.documents_within;
  made_within = v.made_within;
  applications_within = v.applications_within;
  made_limit = v.made_limit;
  queued_limit = v.queued_limit;
}

pub over_any : (o : OpeningState) (began : Option Held) → ((files : List File) → list_all (is_folder_kept files) o.documents ≡ true) → o.taken ≡ [] → Valid (opened_over None o) → AreTree began → BeganFirst began → Valid (opened_over began o)
over_any o None k none v t f = v
over_any o (Some held) k none v t f = with_files o held (k held.present) none v t f

pub valid_quiet : (o : OpeningState) → SoundOpening o → Valid (opened_over None o)
valid_quiet o k = (openings-valid.quiet o k).valid
