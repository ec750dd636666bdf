-- An Add leaves a valid state valid, where it is given as many unused numbers as it makes documents, and no limit is met.
use Rattle.std.proofs.Common.{◌≡◌, ◌==◌, ℕ, ◌+◌, ◌-◌, ◌/◌, ◌%◌, ◌<◌, ◌≤◌, ◌^◌, nat_le, nat_lt, length, drop, take, get_or, fold, List, [], ◌∷◌, ◌++◌, map, Bool, true, false, not, ◌&&◌, ◌||◌, cond, Option, Some, None, is_some, refl, sym, ap, subst, ◌∙◌, arith}
use Rattle.std.specs.List.{flat_map, list_all, list_any}
use Rattle.std.proofs.lemmas.Bool.Decides.{nat_tests}
use Rattle.std.proofs.lemmas.List.{length-append}
use Rattle.std.proofs.lemmas.List.Folds.{list_all-append}
use Rattle.portal_base.specs.Content.{content_of, file_at, has_room, is_folder, look_of}
use Rattle.file_generations.specs.Generations.{Held}
use Rattle.portal_base.specs.Names.{child_of, is_app_name, is_host_path, is_same, root}
use Rattle.portal_base.specs.declared.files.File.{File}
use Rattle.portal_base.specs.declared.files.Look.{Look}
use Rattle.portal_base.specs.declared.names.doc_id.DocId.{DocId}
use Rattle.portal_base.specs.declared.who.Who.{Who}
use Rattle.rights_rule.specs.Rights.{are_right_names, rights_named}
use Rattle.portal_model.specs.declared.reply.Code.{Code}
use Rattle.portal_model.specs.declared.request.AddRequest.{AddRequest}
use Rattle.portal_model.specs.declared.state.Connection.{Connection}
use Rattle.portal_model.specs.declared.state.Document.{Document}
use Rattle.portal_model.specs.Add.{Added, add, add_allowed, add_file, add_looking, add_presented, add_shown, added, added_files, adding_rights, are_exported, are_folders_and_files, are_of_kind, caller_rights, first_number, is_file, is_folder_look, may_list_all, new_document, taken_from_queue, use_document, used_again, with_new_document, with_rights_of}
use Rattle.portal_model.specs.AddArguments.{are_add_arguments, are_flags, are_presented, document_paths, exports, files_limit, is_file_name, is_left_out, is_named_well, names_nobody, paths_presented, paths_shown, persists}
use Rattle.portal_model.specs.Arguments.{ahead_of_end, has_end}
use Rattle.portal_model.specs.Grant.{exceeds_limits, given_rights}
use Rattle.portal_model.specs.Outside.{files_told}
use Rattle.portal_model.specs.Present.{requeued, with_queue}
use Rattle.portal_model.specs.State.{State, connection_of, document_of, held_in}
use Rattle.portal_model.specs.Valid.{Valid, is_caller, is_made, is_sound_connection, is_sound_folder}
use Rattle.portal_model.specs.Verdict.{Doing}
use Rattle.portal_model.specs.Walk.{AtPath, IsShown}
use Rattle.portal_base.proofs.PathsAbove.{or-parts}
use Rattle.portal_model.proofs.DocumentChanges.{both, documented-new, first_of_both, second_of_both}
use Rattle.portal_model.proofs.WalkDoings.{AreShown, OnTree, if-passes, tree-looks, tree-passes}
use Rattle.portal_model.proofs.DrawnNumbers.{Unused}
use Rattle.portal_model.proofs.ListLookups.{found_in_all}
use Rattle.portal_model.proofs.GrantValid.{given-sound}
use Rattle.portal_model.proofs.LiveDocuments.{IsLiveId, live-again}
use Rattle.portal_model.proofs.OpenHandles.{requeued-handles}
use Rattle.portal_model.proofs.MadeHandles.{more-made}
use Rattle.portal_model.proofs.SeatsValid.{requeued_same, seats-mapped, seats-new}
use Rattle.portal_model.proofs.Queues.{dropped-connections, picked, queue_sound, sound-connected}
use Rattle.portal_model.proofs.SoundParts.{Sound, is_live, sound-lists, sound-valid, valid-sound}

-- ---- the paths of the documents

handle_is : (fds n handle : ℕ) → nat_le fds n ≡ true → nat_lt handle fds ≡ true → (handle < fds) × (fds ≤ n)
handle_is fds n handle h k = (grind (arith, nat_tests), grind (arith, nat_tests))

all_presented : (queue : List (List ℕ)) (fds : ℕ) (handles : List ℕ) → list_all is_host_path queue ≡ true → nat_le fds (length queue) ≡ true → list_all (λ (handle : ℕ). nat_lt handle fds) handles ≡ true →
    list_all is_host_path (map (λ (handle : ℕ). get_or (take fds queue) handle []) handles) ≡ true
all_presented queue fds [] q n h = refl
all_presented queue fds (handle ∷ handles) q n h =
    let here : nat_lt handle fds ≡ true = first_of_both (nat_lt handle fds) (list_all (λ (x : ℕ). nat_lt x fds) handles) h in
    let rest : list_all (λ (x : ℕ). nat_lt x fds) handles ≡ true = second_of_both (nat_lt handle fds) (list_all (λ (x : ℕ). nat_lt x fds) handles) h in
    let is = handle_is fds (length queue) handle n here in
    let one : is_host_path (get_or (take fds queue) handle []) ≡ true = picked is_host_path fds handle queue q is.0 is.1 in
    ap (λ (b : Bool). b && list_all is_host_path (map (λ (x : ℕ). get_or (take fds queue) x []) handles)) one ∙ all_presented queue fds handles q n rest

all_themselves : (paths : List (List ℕ)) → list_all is_host_path paths ≡ true → list_all is_host_path (map (λ (path : List ℕ). path) paths) ≡ true
all_themselves [] h = refl
all_themselves (path ∷ paths) h =
    both (is_host_path path) (list_all is_host_path (map (λ (x : List ℕ). x) paths)) (first_of_both (is_host_path path) (list_all is_host_path paths) h) (all_themselves paths (second_of_both (is_host_path path) (list_all is_host_path paths) h))

-- by whether the files are named in their folders
paths_by : (named well : Bool) (name : List ℕ) (paths : List (List ℕ)) → list_all is_host_path paths ≡ true →
    (not named || (well && list_all is_host_path (map (λ (path : List ℕ). cond named (child_of path name) path) paths))) ≡ true →
    list_all is_host_path (map (λ (path : List ℕ). cond named (child_of path name) path) paths) ≡ true
paths_by true well name paths p h = second_of_both well (list_all is_host_path (map (λ (path : List ℕ). child_of path name) paths)) h
paths_by false well name paths p h = all_themselves paths p

-- ---- the folders that are exported

-- a document of this path would be sound
abbrev fits : Bool → Bool → List File → List ℕ → Bool
fits exported told files path = not exported || (not (is_same path root) && (not told || is_folder files path))

all_plain : (told : Bool) (files : List File) (paths : List (List ℕ)) → list_all (fits false told files) paths ≡ true
all_plain told files [] = refl
all_plain told files (path ∷ paths) = all_plain told files paths

folder_is : (files : List File) (path : List ℕ) (o : Option File) (b : Bool) → is_folder_look (look_of (content_of o b (has_room files path))) ≡ true → b ≡ true
folder_is files path (Some f) b e = cc
folder_is files path None true e = refl
folder_is files path None false e = cc

folder_shown : (told : Bool) (held : Held) (path : List ℕ) (look : Look) → IsShown (cond told (Some held) None) (AtPath path) look → is_folder_look look ≡ true → (not told || is_folder held.present path) ≡ true
folder_shown true held path look e h = folder_is held.present path (file_at held.present path) (is_folder held.present path) (ap is_folder_look (sym e) ∙ h)
folder_shown false held path look e h = refl

-- where the looks show folders at all, and none is the root
all_exported : (told : Bool) (held : Held) (paths : List (List ℕ)) (looks : List Look) → AreShown (cond told (Some held) None) (flat_map (λ path. path ∷ []) paths) looks →
    not (list_any (λ path. is_same path root) (flat_map (λ path. path ∷ []) paths)) ≡ true → list_all is_folder_look looks ≡ true → list_all (fits true told held.present) (map (λ path. path) paths) ≡ true
all_exported told held [] looks s n f = refl
all_exported told held (path ∷ paths) [] s n f = absurd s
all_exported told held (path ∷ paths) (look ∷ looks) s n f =
    let parts = or-parts (is_same path root) (list_any (λ p. is_same p root) (flat_map (λ p. p ∷ []) paths)) n in
    let folder : (not told || is_folder held.present path) ≡ true = folder_shown told held path look s.0 (first_of_both (is_folder_look look) (list_all is_folder_look looks) f) in
    both (fits true told held.present path) (list_all (fits true told held.present) (map (λ p. p) paths))
    (both (not (is_same path root)) (not told || is_folder held.present path) (ap not parts.0) folder)
    (all_exported told held paths looks s.1 (ap not parts.1) (second_of_both (is_folder_look look) (list_all is_folder_look looks) f))

-- by whether a folder is exported, and whether files are named in their folders
fits_by : (exported named persists told : Bool) (held : Held) (name : List ℕ) (paths : List (List ℕ)) (looks : List Look) → (not exported || (not named && not persists)) ≡ true →
    AreShown (cond told (Some held) None) (flat_map (λ path. cond named (path ∷ cond named (child_of path name) path ∷ []) (path ∷ [])) paths) looks →
    cond named (are_folders_and_files looks) (cond exported (are_exported (flat_map (λ path. cond named (path ∷ cond named (child_of path name) path ∷ []) (path ∷ [])) paths) looks) (list_all is_file looks)) ≡ true →
    list_all (fits exported told held.present) (map (λ path. cond named (child_of path name) path) paths) ≡ true
fits_by false named persists told held name paths looks flags s k = all_plain told held.present (map (λ path. cond named (child_of path name) path) paths)
fits_by true true persists told held name paths looks flags s k = cc
fits_by true false persists told held name paths looks flags s k =
    let all : List (List ℕ) = flat_map (λ path. path ∷ []) paths in
    let none : Bool = not (list_any (λ path. is_same path root) all) in
    all_exported told held paths looks s (first_of_both none (list_all is_folder_look looks) k) (second_of_both none (list_all is_folder_look looks) k)

-- ---- the arguments

module _ (queue : List (List ℕ)) (a : AddRequest) (sound : list_all is_host_path queue ≡ true) (presented : are_presented queue a ≡ true) (arguments : are_add_arguments queue a ≡ true) where
  abbrev few : Bool
  few = nat_le (length a.handles) files_limit

  abbrev named_for : Bool
  named_for = names_nobody a || is_app_name a.app

  behind_few : (are_flags a && (named_for && (are_right_names a.names && is_named_well queue a))) ≡ true
  behind_few = second_of_both few (are_flags a && (named_for && (are_right_names a.names && is_named_well queue a))) arguments

  behind_flags : (named_for && (are_right_names a.names && is_named_well queue a)) ≡ true
  behind_flags = second_of_both (are_flags a) (named_for && (are_right_names a.names && is_named_well queue a)) behind_few

  pub named-somebody : (names_nobody a || is_app_name a.app) ≡ true
  named-somebody = first_of_both named_for (are_right_names a.names && is_named_well queue a) behind_flags

  pub folders-fit : (told : Bool) (held : Held) (looks : List Look) → AreShown (cond told (Some held) None) (paths_shown queue a) looks → are_of_kind a (paths_shown queue a) looks ≡ true →
      list_all (fits (exports a) told held.present) (document_paths queue a) ≡ true
  folders-fit told held looks s k =
      let flags : are_flags a ≡ true = first_of_both (are_flags a) (named_for && (are_right_names a.names && is_named_well queue a)) behind_few in
      fits_by (exports a) a.named (persists a) told held (ahead_of_end a.name) (paths_presented queue a) looks
      (second_of_both (nat_lt a.flags 32) (not (exports a) || (not a.named && not (persists a))) flags) s k

  pub paths-sound : list_all is_host_path (document_paths queue a) ≡ true
  paths-sound =
      let well : is_named_well queue a ≡ true = second_of_both (are_right_names a.names) (is_named_well queue a) (second_of_both named_for (are_right_names a.names && is_named_well queue a) behind_flags) in
      let files : list_all is_host_path (paths_presented queue a) ≡ true =
      all_presented queue a.fds a.handles sound (first_of_both (nat_le a.fds (length queue)) (list_all (λ (handle : ℕ). nat_lt handle a.fds) a.handles) presented)
      (second_of_both (nat_le a.fds (length queue)) (list_all (λ (handle : ℕ). nat_lt handle a.fds) a.handles) presented) in
      let name = ahead_of_end a.name in
      let all = list_all is_host_path (document_paths queue a) in
      paths_by a.named (has_end a.name && is_file_name name) name (paths_presented queue a) files
      (joined (not a.named) (has_end a.name) (is_file_name name) all well)
    where
      joined : (n e f p : Bool) → (n || (e && (f && p))) ≡ true → (n || ((e && f) && p)) ≡ true
      joined true e f p h = h
      joined false true f p h = h
      joined false false f p h = h

-- ---- the rights in one document

module _ (who : Who) (a : AddRequest) (caller : is_caller who ≡ true) (named : (names_nobody a || is_app_name a.app) ≡ true) where
  caller-sound : (one : Who) → is_caller one ≡ true → (id : DocId) (s : State) → is_live s.documents id.number ≡ true → Sound s → Sound (caller_rights one a id s)
  caller-sound Who.Host c id s l k = k
  caller-sound (Who.App app) c id s l k = given-sound app id (adding_rights a) s c l k

  caller_documents : (one : Who) (id : DocId) (s : State) → (caller_rights one a id s).documents ≡ s.documents
  caller_documents Who.Host id s = refl
  caller_documents (Who.App app) id s = refl

  listed-sound : (nobody : Bool) → (nobody || is_app_name a.app) ≡ true → (id : DocId) (s : State) → is_live s.documents id.number ≡ true → Sound s → Sound (cond nobody s (given_rights a.app id (rights_named a.names) s))
  listed-sound true n id s l k = k
  listed-sound false n id s l k = given-sound a.app id (rights_named a.names) s n l k

  rights-sound : (id : DocId) (s : State) → is_live s.documents id.number ≡ true → Sound s → Sound (with_rights_of who a id s)
  rights-sound id s l k =
      listed-sound (names_nobody a) named id (caller_rights who a id s) (subst (λ (ds : List Document). is_live ds id.number ≡ true) (sym (caller_documents who id s)) l) (caller-sound who caller id s l k)

-- what rights leave
caller_made : (who : Who) (a : AddRequest) (id : DocId) (s : State) → (caller_rights who a id s).made ≡ s.made
caller_made Who.Host a id s = refl
caller_made (Who.App app) a id s = refl

listed_made : (a : AddRequest) (id : DocId) (s : State) (nobody : Bool) → (cond nobody s (given_rights a.app id (rights_named a.names) s)).made ≡ s.made
listed_made a id s true = refl
listed_made a id s false = refl

rights_made : (who : Who) (a : AddRequest) (id : DocId) (s : State) → (with_rights_of who a id s).made ≡ s.made
rights_made who a id s = listed_made a id (caller_rights who a id s) (names_nobody a) ∙ caller_made who a id s

caller_files : (who : Who) (a : AddRequest) (id : DocId) (s : State) → ((caller_rights who a id s).told ≡ s.told) × ((caller_rights who a id s).files ≡ s.files)
caller_files Who.Host a id s = (refl, refl)
caller_files (Who.App app) a id s = (refl, refl)

listed_files : (a : AddRequest) (id : DocId) (s : State) (nobody : Bool) →
    ((cond nobody s (given_rights a.app id (rights_named a.names) s)).told ≡ s.told) × ((cond nobody s (given_rights a.app id (rights_named a.names) s)).files ≡ s.files)
listed_files a id s true = (refl, refl)
listed_files a id s false = (refl, refl)

rights_files : (who : Who) (a : AddRequest) (id : DocId) (s : State) → ((with_rights_of who a id s).told ≡ s.told) × ((with_rights_of who a id s).files ≡ s.files)
rights_files who a id s =
    let one = listed_files a id (caller_rights who a id s) (names_nobody a) in
    let two = caller_files who a id s in
    (one.0 ∙ two.0, one.1 ∙ two.1)

-- ---- one file after another

-- the state so far is sound, and there are numbers for the documents that are still to be made, up to so many made ones
pub record Going (told : Bool) (files : List File) (done : Added) (end : ℕ) : Type 0 where
  pub sound : Sound done.state
  pub unused : Unused done.state.made done.numbers
  pub enough : end ≤ length done.state.made + length done.numbers
  pub same_told : done.state.told ≡ told
  pub same_files : done.state.files ≡ files

now_live : (d : Document) (ds : List Document) → is_live (ds ++ d ∷ []) d.id.number ≡ true
now_live d [] = grind (arith, nat_tests)
now_live d (x ∷ xs) = by_first (x.id.number == d.id.number) (now_live d xs)
  where
    by_first : (b : Bool) → is_live (xs ++ d ∷ []) d.id.number ≡ true → is_some (cond b (Some x) (document_of (xs ++ d ∷ []) d.id.number)) ≡ true
    by_first true h = refl
    by_first false h = h

below : (n : ℕ) → n < 2 ^ 32 → nat_lt n (2 ^ 32) ≡ true
below n l = grind (arith, nat_tests)

new-sound : (d : Document) (s : State) → is_made s.made d.id.number ≡ false → d.id.number < 2 ^ 32 → is_host_path d.path ≡ true → is_sound_folder s.told s.files d ≡ true → Sound s → Sound (with_new_document d s)
new-sound d s f l p folder k = sound-lists s (s.documents ++ d ∷ []) (s.made ++ d.id ∷ []) s.rights s.applications k (documented-new s.documents s.made s.rights s.applications d f (below d.id.number l) p k.documented)
    (more-made s.made d.id s.handles k.handles_made)
    (list_all-append (is_sound_folder s.told s.files) s.documents (d ∷ []) ∙ both (list_all (is_sound_folder s.told s.files) s.documents) (is_sound_folder s.told s.files d && true) k.folders_sound (both (is_sound_folder s.told s.files d) true folder refl))
    (seats-new s.made s.documents d s.told s.taken s.connections f k.seats_sound)

used_made : (who : Who) (a : AddRequest) (path : List ℕ) (done : Added) (id : DocId) → (use_document who a path done (Some id)).state.made ≡ done.state.made
used_made who a path done id = rights_made who a id done.state

new_made : (who : Who) (a : AddRequest) (path : List ℕ) (done : Added) → (use_document who a path done None).state.made ≡ done.state.made ++ first_number done.numbers ∷ []
new_made who a path done = rights_made who a (first_number done.numbers) (with_new_document (new_document a (first_number done.numbers) path) done.state)

more_made : (who : Who) (a : AddRequest) (path : List ℕ) (done : Added) → length (use_document who a path done None).state.made ≡ length done.state.made + 1
more_made who a path done = ap length (new_made who a path done) ∙ length-append done.state.made (first_number done.numbers ∷ [])

use_grows : (who : Who) (a : AddRequest) (path : List ℕ) (done : Added) (again : Option DocId) → length done.state.made ≤ length (use_document who a path done again).state.made
use_grows who a path done (Some id) = let e : length (use_document who a path done (Some id)).state.made ≡ length done.state.made = ap length (used_made who a path done id) in omega arith
use_grows who a path done None = let e = more_made who a path done in omega arith

file_grows : (who : Who) (a : AddRequest) (path : List ℕ) (done : Added) (b : Bool) → length done.state.made ≤ length (cond b (record done { ids = done.ids ++ [] ∷ [] }) (use_document who a path done (used_again done.state.documents a path))).state.made
file_grows who a path done true = omega arith
file_grows who a path done false = use_grows who a path done (used_again done.state.documents a path)

files_grow : (who : Who) (a : AddRequest) (paths : List (List ℕ)) (done : Added) → length done.state.made ≤ length (fold (add_file who a) done paths).state.made
files_grow who a [] done = omega arith
files_grow who a (path ∷ paths) done =
    let one : length done.state.made ≤ length (add_file who a done path).state.made = file_grows who a path done (is_left_out a path) in
    let more : length (add_file who a done path).state.made ≤ length (fold (add_file who a) (add_file who a done path) paths).state.made = files_grow who a paths (add_file who a done path) in
    omega arith

module _ (who : Who) (a : AddRequest) (caller : is_caller who ≡ true) (named : (names_nobody a || is_app_name a.app) ≡ true) (told : Bool) (files : List File) (end : ℕ) where
  abbrev Goes : Added → Type 0
  Goes done = Going told files done end

  abbrev fit : List ℕ → Bool
  fit path = fits (exports a) told files path

  again-going : (path : List ℕ) (done : Added) (id : DocId) → is_live done.state.documents id.number ≡ true → Goes done → Goes (use_document who a path done (Some id))
  again-going path done id l g =
      let made = used_made who a path done id in
      record {
        sound = rights-sound who a caller named id done.state l g.sound;
        unused = subst (λ (m : List DocId). Unused m done.numbers) (sym made) g.unused;
        enough = subst (λ (m : List DocId). end ≤ length m + length done.numbers) (sym made) g.enough;
        same_told = (rights_files who a id done.state).0 ∙ g.same_told;
        same_files = (rights_files who a id done.state).1 ∙ g.same_files;
      }

  new-going : (path : List ℕ) (done : Added) (n : DocId) (ns : List DocId) → done.numbers ≡ n ∷ ns → is_host_path path ≡ true → fit path ≡ true → Goes done → Goes (use_document who a path done None)
  new-going path done n ns e p t g =
      let first : first_number done.numbers ≡ n = ap first_number e in
      let rest : drop 1 done.numbers ≡ ns = ap (λ (xs : List DocId). drop 1 xs) e in
      let made : (use_document who a path done None).state.made ≡ done.state.made ++ n ∷ [] = new_made who a path done ∙ ap (λ (i : DocId). done.state.made ++ i ∷ []) first in
      let u : Unused done.state.made (n ∷ ns) = subst (Unused done.state.made) e g.unused in
      let f : is_made done.state.made (first_number done.numbers).number ≡ false = ap (λ (i : DocId). is_made done.state.made i.number) first ∙ u.0 in
      let l : (first_number done.numbers).number < 2 ^ 32 = subst (λ (i : DocId). i.number < 2 ^ 32) (sym first) u.1 in
      let d : Document = new_document a (first_number done.numbers) path in
      let kept = rights_files who a (first_number done.numbers) (with_new_document d done.state) in
      let sound : is_sound_folder done.state.told done.state.files d ≡ true = (λ i. fits (exports a) (g.same_told i) (g.same_files i) path) ∙ t in
      let size : length (done.state.made ++ n ∷ []) ≡ length done.state.made + 1 = length-append done.state.made (n ∷ []) in
      let had : end ≤ length done.state.made + length (n ∷ ns) = subst (λ (xs : List DocId). end ≤ length done.state.made + length xs) e g.enough in
      let still : end ≤ length (done.state.made ++ n ∷ []) + length ns = grind arith in
      record {
        sound = rights-sound who a caller named (first_number done.numbers) (with_new_document d done.state) (now_live d done.state.documents) (new-sound d done.state f l p sound g.sound);
        unused = subst (λ (m : List DocId). Unused m (drop 1 done.numbers)) (sym made) (subst (Unused (done.state.made ++ n ∷ [])) (sym rest) u.2);
        enough = subst (λ (m : List DocId). end ≤ length m + length (drop 1 done.numbers)) (sym made) (subst (λ (xs : List DocId). end ≤ length (done.state.made ++ n ∷ []) + length xs) (sym rest) still);
        same_told = kept.0 ∙ g.same_told;
        same_files = kept.1 ∙ g.same_files;
      }

  use-going : (path : List ℕ) (done : Added) (again : Option DocId) (ns : List DocId) → done.numbers ≡ ns → IsLiveId done.state.documents again → is_host_path path ≡ true → fit path ≡ true →
      length (use_document who a path done again).state.made ≤ end → Goes done → Goes (use_document who a path done again)
  use-going path done (Some id) ns e l p t within g = again-going path done id l g
  use-going path done None (n ∷ ns) e l p t within g = new-going path done n ns e p t g
  use-going path done None [] e l p t within g =
      let size = more_made who a path done in
      let none : end ≤ length done.state.made + 0 = subst (λ (xs : List DocId). end ≤ length done.state.made + length xs) e g.enough in
      absurd (omega arith)

  file-going : (path : List ℕ) (done : Added) (b : Bool) → is_host_path path ≡ true → fit path ≡ true →
      length (cond b (record done { ids = done.ids ++ [] ∷ [] }) (use_document who a path done (used_again done.state.documents a path))).state.made ≤ end → Goes done →
      Goes (cond b (record done { ids = done.ids ++ [] ∷ [] }) (use_document who a path done (used_again done.state.documents a path)))
  file-going path done true p t within g = record { sound = g.sound; unused = g.unused; enough = g.enough; same_told = g.same_told; same_files = g.same_files }
  file-going path done false p t within g = use-going path done (used_again done.state.documents a path) done.numbers refl (live-again done.state.documents a path) p t within g

  pub files-going : (paths : List (List ℕ)) (done : Added) → list_all is_host_path paths ≡ true → list_all fit paths ≡ true → length (fold (add_file who a) done paths).state.made ≤ end → Goes done → Goes (fold (add_file who a) done paths)
  files-going [] done p t within g = g
  files-going (path ∷ paths) done p t within g =
      let grow = files_grow who a paths (add_file who a done path) in
      let here : length (add_file who a done path).state.made ≤ end = omega arith in
      files-going paths (add_file who a done path) (second_of_both (is_host_path path) (list_all is_host_path paths) p) (second_of_both (fit path) (list_all fit paths) t) within
      (file-going path done (is_left_out a path) (first_of_both (is_host_path path) (list_all is_host_path paths) p) (first_of_both (fit path) (list_all fit paths) t) here g)

-- ---- the call

taken_by : (c : Connection) (a : AddRequest) (s : State) (b : Bool) → Sound s → Sound (cond b (with_queue c.seat (drop a.fds) s) s)
taken_by c a s true k = sound-connected s (map (requeued c.seat (drop a.fds)) s.connections) k (dropped-connections s.limits.queued c.seat a.fds s.connections (k.connected.seats_differ, k.connected.connections_sound))
    (requeued-handles c.seat s.limits.handles (drop a.fds) s.connections s.handles (record { differ = k.connected.handles_differ; sound = k.connected.handles_sound; within = k.connected.handles_within }))
    (seats-mapped s.made s.documents s.told s.taken (requeued c.seat (drop a.fds)) (requeued_same c.seat (drop a.fds)) s.connections k.seats_sound)
taken_by c a s false k = k

pub taken-sound : (c : Connection) (a : AddRequest) (s : State) → Sound s → Sound (taken_from_queue c a s)
taken-sound c a s k = taken_by c a s (are_presented c.queue a) k

taken_made : (c : Connection) (a : AddRequest) (s : State) (b : Bool) → (cond b (with_queue c.seat (drop a.fds) s) s).made ≡ s.made
taken_made c a s true = refl
taken_made c a s false = refl

taken_files : (c : Connection) (a : AddRequest) (s : State) (b : Bool) → ((cond b (with_queue c.seat (drop a.fds) s) s).told ≡ s.told) × ((cond b (with_queue c.seat (drop a.fds) s) s).files ≡ s.files)
taken_files c a s true = (refl, refl)
taken_files c a s false = (refl, refl)

le_itself : (n : ℕ) → n ≤ n
le_itself n = omega arith

module _ (P : Doing → Type 0) (s : State) (c found : Connection) (a : AddRequest) (numbers : List DocId)
    (valid : (d : Doing) → (d.exceeds ≡ false → length numbers ≡ d.makes → Unused s.made numbers → Valid d.state) → P d)
    (f : connection_of s.connections c.seat ≡ Some found) (q : found.queue ≡ c.queue) (caller : is_caller c.who ≡ true) (v : Valid s) where
  queue-sound : list_all is_host_path c.queue ≡ true
  queue-sound = subst (λ (queue : List (List ℕ)). list_all is_host_path queue ≡ true) q
      (queue_sound s.limits.queued found (found_in_all (λ (x : Connection). x.seat == c.seat) (is_sound_connection s.limits.queued) s.connections found f v.connections_sound))

  abbrev done : Added
  done = added_files s c a numbers

  files-valid : are_presented c.queue a ≡ true → are_add_arguments c.queue a ≡ true → list_all (fits (exports a) s.told s.files) (document_paths c.queue a) ≡ true → exceeds_limits done.state ≡ false → length numbers ≡ length done.state.made - length s.made → Unused s.made numbers → Valid done.state
  files-valid presented arguments folders e l u =
      let begun : Added = record { state = taken_from_queue c a s; numbers = numbers; ids = [] } in
      let made : begun.state.made ≡ s.made = taken_made c a s (are_presented c.queue a) in
      let enough : length done.state.made ≤ length s.made + length numbers = omega arith in
      let kept = taken_files c a s (are_presented c.queue a) in
      let going : Going s.told s.files begun (length done.state.made) = record {
        sound = taken-sound c a s (valid-sound s v);
        unused = subst (λ (m : List DocId). Unused m numbers) (sym made) u;
        enough = subst (λ (m : List DocId). length done.state.made ≤ length m + length numbers) (sym made) enough;
        same_told = kept.0;
        same_files = kept.1;
      } in
      let end : Going s.told s.files done (length done.state.made) =
      files-going c.who a caller (named-somebody c.queue a queue-sound presented arguments) s.told s.files (length done.state.made) (document_paths c.queue a) begun (paths-sound c.queue a queue-sound presented arguments) folders (le_itself (length done.state.made)) going in
      sound-valid done.state e end.sound

  pub add-valid : OnTree (files_told s) P (add s c a numbers)
  add-valid =
      let tree : Option Held = files_told s in
      tree-passes tree P (are_presented c.queue a) Code.InvalidArgs (add_presented s c a numbers) (λ presented.
      tree-passes tree P (are_add_arguments c.queue a) Code.InvalidArgument (add_allowed s c a numbers) (λ arguments.
      tree-passes tree P (may_list_all s c.who a (document_paths c.queue a)) Code.NotAllowed (add_looking s c a numbers) (λ may.
      tree-looks tree P (paths_shown c.queue a) (add_shown s c a numbers) (λ looks shown.
      if-passes P (are_of_kind a (paths_shown c.queue a) looks) Code.InvalidArgument (added s done) (λ kinds.
      valid _ (λ e l u. files-valid presented arguments (folders-fit c.queue a queue-sound presented arguments s.told (held_in s) looks shown kinds) e l u))))))
