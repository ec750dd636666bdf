-- An opening state whose records are sound is valid.
use Rattle.std.proofs.Common.{◌≡◌, ℕ, ◌==◌, nat_eq, List, [], ◌∷◌, map, fold, Bool, true, false, not, ◌&&◌, ◌||◌, cond, Some, None, is_some, refl, sym, ap, ◌∙◌, subst, arith}
use Rattle.std.specs.List.{list_any, list_all, filter, IsDistinct}
use Rattle.std.proofs.lemmas.Bool.Decides.{nat_tests}
use Rattle.std.proofs.lemmas.List.{length-map}
use Rattle.std.proofs.lemmas.List.Folds.{list_all-append, list_all-map, list_any-append}
use Rattle.file_generations.specs.Generations.{Held, held_with}
use Rattle.portal_base.specs.Names.{is_same, is_app_name, is_host_path, root}
use Rattle.portal_base.specs.declared.names.doc_id.DocId.{DocId}
use Rattle.portal_model.specs.declared.opening.FileItem.{FileItem}
use Rattle.portal_model.specs.declared.opening.OpeningDocument.{OpeningDocument}
use Rattle.portal_model.specs.declared.opening.OpeningState.{OpeningState}
use Rattle.portal_model.specs.declared.records.GrantRecord.{GrantRecord}
use Rattle.portal_model.specs.declared.state.Document.{Document}
use Rattle.portal_base.specs.declared.files.File.{File}
use Rattle.portal_model.specs.declared.state.Triple.{Triple}
use Rattle.portal_model.specs.Content.{is_folder}
use Rattle.portal_model.specs.Laws.{OpeningsAreValid}
use Rattle.portal_model.specs.Opening.{id_of, document_kept, set_of_bits, with_grant, with_grants, each, file_of, opened, opened_over, first_named, names_kept, SoundOpening, ValidOpening, held_items, is_first_item}
use Rattle.portal_model.specs.Rights.{are_in_order}
use Rattle.portal_model.specs.SoundGenerations.{SoundGenerations}
use Rattle.portal_model.specs.State.{State, document_of}
use Rattle.portal_model.specs.Valid.{Valid, has_identifier, is_made, is_numbered, is_placed, is_sound_folder, same_handle}
use Rattle.portal_model.proofs.DistinctItems.{IsDistinct-first, list_all-filter, list_all-weaken}
use Rattle.portal_model.proofs.DocumentChanges.{first_of_both, second_of_both}
use Rattle.portal_model.proofs.GenerationsValid.{first-generations}
use Rattle.portal_model.proofs.ListLookups.{is_same-eq, is_same-refl}
use Rattle.portal_model.proofs.RightsLaws.{all-add_rights, ordered-add_rights}

-- ---- lists that are made of the parts of other lists

-- what is true of all parts is true of the whole
all_each : {X Y : Type 0} (p : Y → Bool) (f : X → List Y) (xs : List X) → list_all (λ x. list_all p (f x)) xs ≡ true → list_all p (each f xs) ≡ true
all_each p f [] h = refl
all_each p f (x ∷ xs) h = list_all-append p (f x) (each f xs) ∙ grind (arith, all_each p f xs)

-- ---- applications

first_named-distinct : (names : List (List ℕ)) → IsDistinct is_same (first_named names)
unfolding IsDistinct
first_named-distinct [] = tt
first_named-distinct (name ∷ names) = IsDistinct-first is_same name (first_named names) (first_named-distinct names)

first_named-all : (p : List ℕ → Bool) (names : List (List ℕ)) → list_all p names ≡ true → list_all p (first_named names) ≡ true
first_named-all p [] h = refl
first_named-all p (name ∷ names) h = grind (arith, list_all-filter p (λ (other : List ℕ). not (is_same name other)) (first_named names), first_named-all p names)

found_one : (app name n : List ℕ) (ns : List (List ℕ)) (b : Bool) → is_same name n ≡ b → is_same app name ≡ false → (more : List (List ℕ)) → list_any (is_same app) more ≡ list_any (is_same app) ns →
    list_any (is_same app) (cond (not b) (n ∷ more) more) ≡ list_any (is_same app) (n ∷ ns)
found_one app name n ns true e h more k = let m : is_same app n ≡ false = ap (is_same app) (sym (is_same-eq name n e)) ∙ h in rw m k
found_one app name n ns false e h more k = ap (λ (b : Bool). is_same app n || b) k

still_found : (app name : List ℕ) (names : List (List ℕ)) → is_same app name ≡ false → list_any (is_same app) (filter (λ (other : List ℕ). not (is_same name other)) names) ≡ list_any (is_same app) names
still_found app name [] h = refl
still_found app name (n ∷ ns) h = found_one app name n ns (is_same name n) refl h _ (still_found app name ns h)

first_one : (app name : List ℕ) (names : List (List ℕ)) (b : Bool) → is_same app name ≡ b → (more : List (List ℕ)) →
    (is_same app name ≡ false → list_any (is_same app) more ≡ list_any (is_same app) names) → (b || list_any (is_same app) more) ≡ (b || list_any (is_same app) names)
first_one app name names true e more f = refl
first_one app name names false e more f = f e

-- each name is among those that are numbered
first_named-any : (app : List ℕ) (names : List (List ℕ)) → is_numbered (first_named names) app ≡ list_any (is_same app) names
first_named-any app [] = refl
first_named-any app (name ∷ names) = first_one app name names (is_same app name) refl _ (λ e. still_found app name (first_named names) e ∙ first_named-any app names)

any_each : {X Y : Type 0} (p : Y → Bool) (f : X → List Y) (x : X) (xs : List X) → list_any p (f x) ≡ true → list_any p (each f (x ∷ xs)) ≡ true
any_each p f x xs h = list_any-append p (f x) (each f xs) ∙ grind (arith, h)

-- ---- documents and their numbers

numbers_kept : (ds : List OpeningDocument) → map (λ (d : Document). d.id.number) (map document_kept ds) ≡ map (λ (d : OpeningDocument). d.kept.number) ds
numbers_kept [] = refl
numbers_kept (d ∷ ds) = ap (λ (x : List ℕ). d.kept.number ∷ x) (numbers_kept ds)

abbrev numbers_of : List OpeningDocument → List DocId
numbers_of ds = map (λ (d : OpeningDocument). id_of d.kept.number) ds

made_kept : (ds : List OpeningDocument) → list_all (λ (d : OpeningDocument). is_made (numbers_of ds) d.kept.number) ds ≡ true
made_kept [] = refl
made_kept (d ∷ ds) = grind (arith, nat_tests, list_all-weaken (λ (x : OpeningDocument). is_made (numbers_of ds) x.kept.number) (λ (x : OpeningDocument). is_made (numbers_of (d ∷ ds)) x.kept.number) (λ x h. grind (arith, h)) ds (made_kept ds))

abbrev is_live : List OpeningDocument → ℕ → Bool
is_live ds number = is_some (document_of (map document_kept ds) number)

still_live : (d : OpeningDocument) (ds : List OpeningDocument) (number : ℕ) → is_live ds number ≡ true → is_live (d ∷ ds) number ≡ true
still_live d ds number h = elim (d.kept.number == number) as (λ b. is_some (cond b (Some (document_kept d)) (document_of (map document_kept ds) number)) ≡ true) [ true ↦ refl | false ↦ h ]

live_kept : (ds : List OpeningDocument) → list_all (λ (d : OpeningDocument). is_live ds d.kept.number) ds ≡ true
live_kept [] = refl
live_kept (d ∷ ds) =
    let first : is_live (d ∷ ds) d.kept.number ≡ true = grind (arith, nat_tests) in
    let more : list_all (λ (x : OpeningDocument). is_live (d ∷ ds) x.kept.number) ds ≡ true = list_all-weaken (λ (x : OpeningDocument). is_live ds x.kept.number) (λ (x : OpeningDocument). is_live (d ∷ ds) x.kept.number) (λ x h. still_live d ds x.kept.number h) ds (live_kept ds) in
    grind (arith, first, more)

-- each name is the same as one of them
among_more : (app name : List ℕ) (names : List (List ℕ)) → list_any (is_same app) names ≡ true → list_any (is_same app) (name ∷ names) ≡ true
among_more app name names h = grind (arith, h)

among : (names : List (List ℕ)) → list_all (λ (app : List ℕ). list_any (is_same app) names) names ≡ true
among [] = refl
among (name ∷ names) = grind (arith, is_same-refl name, list_all-weaken (λ (app : List ℕ). list_any (is_same app) names) (λ (app : List ℕ). list_any (is_same app) (name ∷ names)) (λ app h. among_more app name names h) names (among names))

any_later : (app : List ℕ) (d : OpeningDocument) (ds : List OpeningDocument) → list_any (is_same app) (each names_kept ds) ≡ true → list_any (is_same app) (each names_kept (d ∷ ds)) ≡ true
any_later app d ds h = list_any-append (is_same app) (names_kept d) (each names_kept ds) ∙ grind (arith, h)

-- the names of each document are among those of all documents
named_kept : (ds : List OpeningDocument) → list_all (λ (d : OpeningDocument). list_all (λ (app : List ℕ). list_any (is_same app) (each names_kept ds)) (names_kept d)) ds ≡ true
named_kept [] = refl
named_kept (d ∷ ds) =
    let here : list_all (λ (app : List ℕ). list_any (is_same app) (each names_kept (d ∷ ds))) (names_kept d) ≡ true = list_all-weaken (λ (app : List ℕ). list_any (is_same app) (names_kept d)) _ (λ app h. any_each (is_same app) names_kept d ds h) (names_kept d) (among (names_kept d)) in
    let there : list_all (λ (x : OpeningDocument). list_all (λ (app : List ℕ). list_any (is_same app) (each names_kept (d ∷ ds))) (names_kept x)) ds ≡ true =
    list_all-weaken (λ (x : OpeningDocument). list_all (λ (app : List ℕ). list_any (is_same app) (each names_kept ds)) (names_kept x)) _
    (λ x h. list_all-weaken (λ (app : List ℕ). list_any (is_same app) (each names_kept ds)) (λ (app : List ℕ). list_any (is_same app) (each names_kept (d ∷ ds))) (λ app k. any_later app d ds k) (names_kept x) h) ds (named_kept ds) in
    grind (arith, here, there)

-- ---- rights

placed_grants : (s : State) (number : ℕ) (grants : List GrantRecord) (rights : List Triple) → is_some (document_of s.documents number) ≡ true → list_all (is_numbered s.applications) (map (λ (g : GrantRecord). g.app) grants) ≡ true →
    list_all (is_placed s) rights ≡ true → list_all (is_placed s) (fold (with_grant number) rights grants) ≡ true
placed_grants s number [] rights h k l = l
placed_grants s number (g ∷ gs) rights h k l =
    let one : is_numbered s.applications g.app ≡ true = grind arith in
    let all : list_all (is_numbered s.applications) (map (λ (g : GrantRecord). g.app) gs) ≡ true = grind arith in
    placed_grants s number gs (with_grant number rights g) h all (all-add_rights (is_placed s) g.app (id_of number) (set_of_bits g.rights) rights (λ right. grind (arith, h, one)) l)

-- each triple's document is live, and its application is numbered
placed_kept : (s : State) (ds : List OpeningDocument) (rights : List Triple) → list_all (λ (d : OpeningDocument). is_some (document_of s.documents d.kept.number) && list_all (is_numbered s.applications) (names_kept d)) ds ≡ true →
    list_all (is_placed s) rights ≡ true → list_all (is_placed s) (fold with_grants rights ds) ≡ true
placed_kept s [] rights h l = l
placed_kept s (d ∷ ds) rights h l =
    let live : is_some (document_of s.documents d.kept.number) ≡ true = grind arith in
    let named : list_all (is_numbered s.applications) (names_kept d) ≡ true = grind arith in
    let more : list_all (λ (d : OpeningDocument). is_some (document_of s.documents d.kept.number) && list_all (is_numbered s.applications) (names_kept d)) ds ≡ true = grind arith in
    placed_kept s ds (with_grants rights d) more (placed_grants s d.kept.number d.kept.grants rights live named l)

pub ordered_grants : (number : ℕ) (grants : List GrantRecord) (rights : List Triple) → are_in_order rights ≡ true → are_in_order (fold (with_grant number) rights grants) ≡ true
ordered_grants number [] rights h = h
ordered_grants number (g ∷ gs) rights h = ordered_grants number gs (with_grant number rights g) (ordered-add_rights g.app (id_of number) (set_of_bits g.rights) rights)

pub ordered_kept : (ds : List OpeningDocument) (rights : List Triple) → are_in_order rights ≡ true → are_in_order (fold with_grants rights ds) ≡ true
ordered_kept [] rights h = h
ordered_kept (d ∷ ds) rights h = ordered_kept ds (with_grants rights d) (ordered_grants d.kept.number d.kept.grants rights h)

-- ---- the whole

paths_of_files : (fs : List FileItem) → map (λ (f : File). f.path) (map file_of fs) ≡ map (λ (f : FileItem). f.path) fs
paths_of_files [] = refl
paths_of_files (f ∷ fs) = ap (λ (x : List (List ℕ)). f.path ∷ x) (paths_of_files fs)

all_of_both : {X : Type 0} (p q : X → Bool) (xs : List X) → list_all p xs ≡ true → list_all q xs ≡ true → list_all (λ x. p x && q x) xs ≡ true
all_of_both p q [] h k = refl
all_of_both p q (x ∷ xs) h k = grind (arith, all_of_both p q xs)

no_seats : IsDistinct nat_eq []
unfolding IsDistinct
no_seats = tt

no_handles : IsDistinct same_handle []
unfolding IsDistinct
no_handles = tt

-- each document of the records is live, and each application in them numbered
all_placed : (ds : List OpeningDocument) →
    list_all (λ (d : OpeningDocument). is_live ds d.kept.number && list_all (is_numbered (first_named (each names_kept ds))) (names_kept d)) ds ≡ true
all_placed ds = all_of_both (λ (d : OpeningDocument). is_live ds d.kept.number) (λ (d : OpeningDocument). list_all (is_numbered (first_named (each names_kept ds))) (names_kept d)) ds (live_kept ds)
    (list_all-weaken (λ (d : OpeningDocument). list_all (λ (app : List ℕ). list_any (is_same app) (each names_kept ds)) (names_kept d)) _
    (λ d h. list_all-weaken (λ (app : List ℕ). list_any (is_same app) (each names_kept ds)) (is_numbered (first_named (each names_kept ds))) (λ app k. first_named-any app (each names_kept ds) ∙ k) (names_kept d) h) ds (named_kept ds))

-- each file of a sound opening is the first of its path, and present
present_all : (fs : List FileItem) → list_all is_first_item fs ≡ true → filter (λ (f : FileItem). f.present) fs ≡ fs
present_all [] h = refl
present_all (f ∷ fs) h =
    let here : is_first_item f ≡ true = first_of_both (is_first_item f) (list_all is_first_item fs) h in
    let there : f.present ≡ true = second_of_both (f.generation == 0) f.present here in
    ap (λ (b : Bool). cond b (f ∷ filter (λ (x : FileItem). x.present) fs) (filter (λ (x : FileItem). x.present) fs)) there
    ∙ ap (λ (xs : List FileItem). f ∷ xs) (present_all fs (second_of_both (is_first_item f) (list_all is_first_item fs) h))

hidden_none : (fs : List FileItem) → list_all is_first_item fs ≡ true → filter (λ (f : FileItem). not f.present) fs ≡ []
hidden_none [] h = refl
hidden_none (f ∷ fs) h =
    let here : is_first_item f ≡ true = first_of_both (is_first_item f) (list_all is_first_item fs) h in
    let there : f.present ≡ true = second_of_both (f.generation == 0) f.present here in
    ap (λ (b : Bool). cond (not b) (f ∷ filter (λ (x : FileItem). not x.present) fs) (filter (λ (x : FileItem). not x.present) fs)) there
    ∙ hidden_none fs (second_of_both (is_first_item f) (list_all is_first_item fs) h)

abbrev pub first_held : List FileItem → Held
first_held fs = held_with (map file_of fs) []

pub items-first : (fs : List FileItem) → list_all is_first_item fs ≡ true → held_items fs ≡ first_held fs
items-first fs h = λ i. held_with (map file_of (present_all fs h i)) (map file_of (hidden_none fs h i))

firsts : (fs : List FileItem) → list_all is_first_item fs ≡ true → list_all (λ (f : File). f.generation == 0) (map file_of fs) ≡ true
firsts fs h =
    list_all-map (λ (f : File). f.generation == 0) file_of fs
    ∙ list_all-weaken is_first_item (λ (f : FileItem). f.generation == 0) (λ f k. first_of_both (f.generation == 0) f.present k) fs h

first_Valid : (o : OpeningState) → SoundOpening o → Valid (opened_over (Some (first_held o.files)) o)
first_Valid o k = record {
  numbers_differ = subst (IsDistinct nat_eq) (sym (numbers_kept o.documents)) k.numbers_differ;
  numbers_made = list_all-map (λ (d : Document). is_made o.made d.id.number) document_kept o.documents ∙ (ap (λ (made : List DocId). list_all (λ (d : OpeningDocument). is_made made d.kept.number) o.documents) k.made ∙ made_kept o.documents);
  identifiers = list_all-map has_identifier document_kept o.documents ∙ k.identifiers;
  paths = list_all-map (λ (d : Document). is_host_path d.path) document_kept o.documents ∙ k.paths;
  folders_sound = list_all-map (is_sound_folder true (map file_of o.files)) document_kept o.documents ∙ k.folders_sound;
  applications_differ = subst (IsDistinct is_same) (sym k.applications) (first_named-distinct (each names_kept o.documents));
  names = ap (list_all is_app_name) k.applications ∙ first_named-all is_app_name (each names_kept o.documents) (all_each is_app_name names_kept o.documents k.names);
  rights_in_order = ordered_kept o.documents [] refl;
  rights_placed = placed_kept (opened_over (Some (first_held o.files)) o) o.documents [] (ap (λ (apps : List (List ℕ)). list_all (λ (d : OpeningDocument). is_live o.documents d.kept.number && list_all (is_numbered apps) (names_kept d)) o.documents) k.applications ∙ all_placed o.documents) refl;
  seats_differ = no_seats;
  connections_sound = refl;
  namings_sound = tt;
  temps_sound = tt;
  temps_taken = refl;
  handles_differ = no_handles;
  handles_sound = refl;
  handles_made = refl;
  handles_taken = refl;
  handles_within = refl;
  entries_differ = k.entries_differ;
  entries_sound = k.entries_sound;
  files_differ = subst (IsDistinct is_same) (sym (paths_of_files o.files)) k.files_differ;
  files_apart = list_all-map (λ (f : File). not (is_folder (map file_of o.files) f.path)) file_of o.files ∙ k.files_apart;
  files_named = list_all-map (λ (f : File). is_host_path f.path) file_of o.files ∙ k.files_named;
  files_told = λ e. cc;
  generations_sound = subst (SoundGenerations true (map file_of o.files) []) (sym k.none_taken) (first-generations true (map file_of o.files) (firsts o.files k.files_first));
  documents_within = rw (length-map o.documents document_kept) k.documents_within;
  made_within = rw (k.made, length-map o.documents (λ (d : OpeningDocument). id_of d.kept.number)) k.made_within;
  applications_within = k.applications_within;
  made_limit = k.made_limit;
  queued_limit = k.queued_limit;
}

pub sound-Valid : (o : OpeningState) → SoundOpening o → Valid (opened o)
sound-Valid o k = subst (λ (held : Held). Valid (opened_over (Some held) o)) (sym (items-first o.files k.files_first)) (first_Valid o k)

pub sound-ValidOpening : (o : OpeningState) → SoundOpening o → ValidOpening (Some (held_items o.files)) o
sound-ValidOpening o k = record { valid = sound-Valid o k; grants = k.grants; made = k.made; applications = k.applications }

-- over a tree that tells nothing there are no files
no_files : IsDistinct is_same []
unfolding IsDistinct
no_files = tt

named_by : (folder named there : Bool) → (not folder || (named && there)) ≡ true → (not folder || (named && true)) ≡ true
named_by true true there h = refl
named_by true false there h = h
named_by false named there h = refl

pub still_named : (told : Bool) (files : List File) (d : Document) → is_sound_folder told files d ≡ true → is_sound_folder false [] d ≡ true
still_named told files d h = named_by d.folder (not (is_same d.path root)) (not told || is_folder files d.path) h

quiet-Valid : (o : OpeningState) → SoundOpening o → Valid (opened_over None o)
quiet-Valid o k =
    let v : Valid (opened_over (Some (first_held o.files)) o) = first_Valid o k in
    record {
      numbers_differ = v.numbers_differ;
      numbers_made = v.numbers_made;
      identifiers = v.identifiers;
      paths = v.paths;
      folders_sound = list_all-weaken (is_sound_folder true (map file_of o.files)) (is_sound_folder false []) (still_named true (map file_of o.files)) (map document_kept o.documents) v.folders_sound;
      applications_differ = v.applications_differ;
      names = v.names;
      rights_in_order = v.rights_in_order;
      rights_placed = v.rights_placed;
      seats_differ = v.seats_differ;
      connections_sound = v.connections_sound;
      namings_sound = tt;
      temps_sound = tt;
      temps_taken = refl;
      handles_differ = v.handles_differ;
      handles_sound = v.handles_sound;
      handles_made = v.handles_made;
      handles_taken = refl;
      handles_within = v.handles_within;
      entries_differ = v.entries_differ;
      entries_sound = v.entries_sound;
      files_differ = no_files;
      files_apart = refl;
      files_named = refl;
      files_told = λ e. refl;
      generations_sound = subst (SoundGenerations false [] []) (sym k.none_taken) (first-generations false [] refl);
      documents_within = v.documents_within;
      made_within = v.made_within;
      applications_within = v.applications_within;
      made_limit = v.made_limit;
      queued_limit = v.queued_limit;
    }

pub openings-valid : OpeningsAreValid
openings-valid = record {
  told = sound-ValidOpening;
  quiet = λ o k. record { valid = quiet-Valid o k; grants = k.grants; made = k.made; applications = k.applications };
}
