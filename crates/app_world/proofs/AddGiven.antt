-- What the outside gives to an Add: the numbers that it takes as it is done are free, and the looks that its own
-- machine is told of are those that were given.
use Rattle.std.proofs.Common.{◌≡◌, ℕ, ◌+◌, ◌-◌, ◌≤◌, length, List, [], ◌∷◌, ◌++◌, drop, map, nat_le, nat_lt, take, Bool, true, false, not, ◌&&◌, ◌||◌, cond, Option, Some, None, refl, sym, ap, ◌∙◌, subst, arith}
use Rattle.std.specs.List.{list_all, list_any}
use Rattle.std.specs.Option.{option_map}
use Rattle.portal_base.specs.Names.{doc_text, is_same, root}
use Rattle.file_generations.specs.Generations.{Held}
use Rattle.portal_base.specs.declared.files.Look.{Look}
use Rattle.portal_base.specs.declared.names.doc_id.DocId.{DocId}
use Rattle.portal_base.specs.declared.who.Who.{Who}
use Rattle.rights_rule.specs.Rights.{rights_named}
use Rattle.portal_model.specs.declared.entry.Given.{Given}
use Rattle.portal_model.specs.declared.reply.Code.{Code}
use Rattle.portal_model.specs.declared.request.AddRequest.{AddRequest}
use Rattle.portal_model.specs.declared.request.Request.{Request}
use Rattle.portal_model.specs.declared.state.Connection.{Connection}
use Rattle.portal_model.specs.Add.{Added, add, add_allowed, add_file, add_looking, add_presented, added, added_files, are_exported, are_folders_and_files, caller_rights, first_number, are_of_kind, is_file, is_folder_look, listed_rights, may_list_all, new_document, taken_from_queue, use_document, used_again, with_new_document, with_rights_of}
use Rattle.portal_model.specs.AddArguments.{are_add_arguments, are_flags, are_presented, document_paths, exports, files_limit, is_left_out, names_nobody, paths_shown, persists, reuses}
use Rattle.portal_model.specs.Bus.{bus_answer, is_tree, moment_given}
use Rattle.portal_model.specs.Content.{content_at}
use Rattle.portal_model.specs.Grant.{exceeds_limits, given_rights}
use Rattle.portal_model.specs.Outside.{AreDrawn, LawfulBus, meets_limit, words_drawn}
use Rattle.portal_model.specs.Present.{with_queue}
use Rattle.portal_model.specs.State.{State, held_in, is_app}
use Rattle.portal_model.specs.Step.{all_told}
use Rattle.portal_model.specs.Valid.{Valid}
use Rattle.portal_model.specs.Verdict.{Verdict, unless, walk_unless}
use Rattle.portal_model.specs.Walk.{Gives, Walk, walked}
use Rattle.portal_model.proofs.DrawnNumbers.{Unused, drawn-length, drawn-unused}
use Rattle.app_world.specs.Add.{add_touch, asked, file_touch, files_touch, look_of_holding, own_add, own_files, own_taken_from_queue, reused_by, reused_of, shown_at_path, shown_to}
use Rattle.app_world.specs.Bus.{bus_touch, own_bus_answer, own_settled}
use Rattle.app_world.specs.Effect.{Effect, apply_all}
use Rattle.app_world.specs.Own.{Own}
use Rattle.app_world.specs.Touched.{is_done}
use Rattle.app_world.specs.View.{AppView, Holding, OwnConnection, found_connection, own_connection, own_connections, view}
use Rattle.app_world.proofs.AddCallLaws.{add-other, begun, taken-other, taken-own}
use Rattle.app_world.proofs.AddFree.{HasNumbers, LiveMade, files-free, valid-live}
use Rattle.app_world.proofs.AddLaws.{Free, valid-facts}
use Rattle.app_world.proofs.AddMadeLaws.{IsTold, add-own}
use Rattle.app_world.proofs.AddTold.{contents-told, folder-among, holding-shown, looks-told, looks-whole, none-given, reused-told}
use Rattle.app_world.proofs.BusLaws.{seen_answer, settled-other, settled-own, settled-same}
use Rattle.app_world.proofs.ReachedLaws.{seen_verdict}

-- ---- numbers

has-begun : (s : State) (c : Connection) (a : AddRequest) (numbers : List DocId) (end : ℕ) → LiveMade s.made s.documents → Unused s.made numbers → end ≤ length s.made + length numbers → HasNumbers (begun s c a numbers) end
has-begun s c a numbers end live unused enough = by_call (are_presented c.queue a)
  where
    by_call : (b : Bool) → HasNumbers (record { state = cond b (with_queue c.seat (drop a.fds) s) s; numbers = numbers; ids = [] }) end
    by_call true = record { live = live; unused = unused; enough = enough }
    by_call false = record { live = live; unused = unused; enough = enough }

as_many : (b : Bool) (end made words : ℕ) → b ≡ false → words ≡ cond b 0 (end - made) → end ≤ made + words
as_many true end made words f e = cc
as_many false end made words f e = omega arith

-- no limit is met, and a word is drawn for each document that is made
pub drawn-free : (s : State) (c : Connection) (a : AddRequest) (given : Given) → LiveMade s.made s.documents → AreDrawn s.made given.words given.numbers →
    exceeds_limits (added_files s c a given.numbers).state ≡ false → length given.words ≡ words_drawn (Some (added s (added_files s c a given.numbers))) → Free c.who a (begun s c a given.numbers) (document_paths c.queue a)
drawn-free s c a given live drawn within words =
    let end : ℕ = length (added_files s c a given.numbers).state.made in
    let enough : end ≤ length s.made + length given.numbers = as_many (exceeds_limits (added_files s c a given.numbers).state) end (length s.made) (length given.numbers) within (sym (drawn-length s.made given.words given.numbers drawn) ∙ words) in
    files-free c.who a end (document_paths c.queue a) (begun s c a given.numbers) (has-begun s c a given.numbers end live (drawn-unused s.made given.words given.numbers drawn) enough) (omega arith)

module _ (s : State) (c : Connection) (a : AddRequest) (given : Given) (v : Valid s) (l : LawfulBus s c (Request.Add a) given) where
  pub lawful-free : given.full ≡ false → walked (add s c a given.numbers) (moment_given given.now) given.looks (is_tree given.fault) ≡ Some (added s (added_files s c a given.numbers)) → Free c.who a (begun s c a given.numbers) (document_paths c.queue a)
  lawful-free f w = drawn-free s c a given (valid-live s v) l.numbers (sym (l.full ∙ ap meets_limit w) ∙ f) (l.words ∙ ap words_drawn w)

-- ---- looks

module _ (tree : Held) (exported : Bool) (paths : List (List ℕ)) (n : ℕ) (looks : List Look) (failed : Bool) where
  abbrev AreTold : Type 0
  AreTold = map look_of_holding (take (length looks) (map (shown_at_path tree.present exported) (take n paths))) ≡ looks

  told-check : (wrong : Bool) (code : Code) (w : Walk Verdict) → (Gives (Some tree) w looks failed → AreTold) → Gives (Some tree) (walk_unless wrong code w) looks failed → AreTold
  told-check true code w h g = none-given looks (map (shown_at_path tree.present exported) (take n paths)) g.0
  told-check false code w h g = h g

-- over a tree that tells
pub add-looks : (s : State) (c : Connection) (a : AddRequest) (given : Given) → s.told ≡ true → LawfulBus s c (Request.Add a) given → map look_of_holding (take (length given.looks) (shown_to s c a given)) ≡ given.looks
add-looks s c a given t l =
    let failed : Bool = is_tree given.fault in
    let paths : List (List ℕ) = paths_shown c.queue a in
    let g : Gives (Some (held_in s)) (add s c a given.numbers) given.looks failed = subst (λ (b : Bool). Gives (cond b (Some (held_in s)) None) (add s c a given.numbers) given.looks failed) t l.looks in
    told-check (held_in s) (exports a) paths (asked given) given.looks failed (not (are_presented c.queue a)) Code.InvalidArgs (add_presented s c a given.numbers)
    (told-check (held_in s) (exports a) paths (asked given) given.looks failed (not (are_add_arguments c.queue a)) Code.InvalidArgument (add_allowed s c a given.numbers)
    (told-check (held_in s) (exports a) paths (asked given) given.looks failed (not (may_list_all s c.who a (document_paths c.queue a))) Code.NotAllowed (add_looking s c a given.numbers)
    (looks-told (held_in s) (exports a) paths (λ all. unless (not (are_of_kind a paths all)) Code.InvalidArgument (added s (added_files s c a given.numbers))) given.looks failed (asked given) (omega arith)))) g

-- ---- the application's own

-- what its trace tells of an Add
abbrev pub told_of_add : ℕ → State → Connection → AddRequest → Given → Own
told_of_add seat s c a given = record {
  seat = seat;
  request = Request.Add a;
  now = given.now;
  numbers = given.numbers;
  shown = shown_to s c a given;
  reused = reused_by s c a;
  looks = length given.looks;
  full = given.full;
  fault = given.fault;
  generation = given.generation;
}

both-in-order : (r p q : Bool) → p ≡ true → q ≡ true → (r && (p && q)) ≡ r
both-in-order r p q e f = grind arith

second : (a : Bool) {b : Bool} → (a && b) ≡ true → b ≡ true
second true e = e
second false e = cc

first : (a b : Bool) → (a && b) ≡ true → a ≡ true
first true b e = refl
first false b e = cc

not_named : (exported named persists : Bool) → (not exported || (not named && not persists)) ≡ true → exported ≡ true → named ≡ false
not_named true true persists h e = cc
not_named true false persists h e = refl
not_named false named persists h e = cc

-- where a folder is exported, all looks show folders
exported-kind : (a : AddRequest) (queue paths : List (List ℕ)) (looks : List Look) → are_add_arguments queue a ≡ true → are_of_kind a paths looks ≡ true → exports a ≡ true → list_all is_folder_look looks ≡ true
exported-kind a queue paths looks g k e =
    let flags : are_flags a ≡ true = first (are_flags a) _ (second (nat_le (length a.handles) files_limit) g) in
    let plain : a.named ≡ false = not_named (exports a) a.named (persists a) (second (nat_lt a.flags 32) flags) e in
    let kind : are_exported paths looks ≡ true = (λ i. cond (sym plain i) (are_folders_and_files looks) (cond (sym e i) (are_exported paths looks) (list_all is_file looks))) ∙ k in
    second (not (list_any (λ (path : List ℕ). is_same path root) paths)) kind

is-told : (seat : ℕ) (s : State) (c : Connection) (a : AddRequest) (given : Given) → s.told ≡ true → LawfulBus s c (Request.Add a) given → IsTold s c a (told_of_add seat s c a given) given.looks
is-told seat s c a given t l =
    let paths : List (List ℕ) = document_paths c.queue a in
    let at : List ℕ → Holding = shown_at_path s.files (exports a) in
    record {
      files = λ p q. ap (λ (b : Bool). own_files a paths (cond b (reused_of s.documents a paths) [])) (both-in-order (reuses a) (are_presented c.queue a) (are_add_arguments c.queue a) p q) ∙ reused-told s.documents a paths (reuses a) refl;
      contents = λ e g k path h.
          let shown : take (length (paths_shown c.queue a)) given.looks ≡ map look_of_holding (map at (paths_shown c.queue a)) =
          looks-whole at (paths_shown c.queue a) given.looks (asked given) (omega arith) e (add-looks s c a given t l) in
          contents-told at (paths_shown c.queue a) (asked given) (grind arith) path h
          ∙ holding-shown s.files path (exports a) (content_at s.files path) (λ x.
          folder-among at (paths_shown c.queue a) path
          (ap (list_all is_folder_look) (sym shown) ∙ exported-kind a c.queue (paths_shown c.queue a) (take (length (paths_shown c.queue a)) given.looks) g k x) h);
    }

-- its own machine comes to the same
pub add_answer-own : (app : List ℕ) (s : State) (seat : ℕ) (c : Connection) (a : AddRequest) (given : Given) → Valid s → s.told ≡ true → LawfulBus s c (Request.Add a) given → c.who ≡ Who.App app →
    own_bus_answer (view s app) (own_connection app s.handles c) (told_of_add seat s c a given) (Request.Add a) ≡ seen_answer app (bus_answer s c (Request.Add a) given)
add_answer-own app s seat c a given v t l named =
    let own : Own = told_of_add seat s c a given in
    let o : OwnConnection = own_connection app s.handles c in
    let now : ℕ = moment_given given.now in
    let failed : Bool = is_tree given.fault in
    let verdict : Option Verdict = walked (add s c a given.numbers) now given.looks failed in
    ap (λ (looks : List Look). own_settled (view s app) (own_taken_from_queue o a (view s app)) own (walked (own_add (view s app) o a own) now looks failed)) (add-looks s c a given t l)
    ∙ (settled-same (view s app) (own_taken_from_queue o a (view s app)) own given.full refl (walked (own_add (view s app) o a own) now given.looks failed) (option_map (seen_verdict app) verdict)
    (add-own app s c a own (valid-facts app s v) named given.full now given.looks failed (is-told seat s c a given t l) (lawful-free s c a given v l))
    ∙ (ap (λ (refused : AppView). own_settled (view s app) refused own (option_map (seen_verdict app) verdict)) (taken-own app c a s)
    ∙ settled-own app s (taken_from_queue c a s) given own refl refl verdict))

-- ---- of another

-- what an Add touches doesn't depend on the connections
abbrev with_connections : List Connection → State → State
with_connections cs s = record s { connections = cs }

abbrev added_with : List Connection → Added → Added
added_with cs done = record done { state = with_connections cs done.state }

module _ (cs : List Connection) (who : Who) (a : AddRequest) where
  listed-with : (id : DocId) (s : State) → listed_rights a id (with_connections cs s) ≡ with_connections cs (listed_rights a id s)
  listed-with id s = by_name (names_nobody a)
    where
      by_name : (b : Bool) → cond b (with_connections cs s) (given_rights a.app id (rights_named a.names) (with_connections cs s)) ≡ with_connections cs (cond b s (given_rights a.app id (rights_named a.names) s))
      by_name true = refl
      by_name false = refl

  caller-with : (w : Who) (id : DocId) (s : State) → caller_rights w a id (with_connections cs s) ≡ with_connections cs (caller_rights w a id s)
  caller-with Who.Host id s = refl
  caller-with (Who.App app) id s = refl

  rights-with : (id : DocId) (s : State) → with_rights_of who a id (with_connections cs s) ≡ with_connections cs (with_rights_of who a id s)
  rights-with id s = ap (listed_rights a id) (caller-with who id s) ∙ listed-with id (caller_rights who a id s)

  use-with : (done : Added) (path : List ℕ) (again : Option DocId) → use_document who a path (added_with cs done) again ≡ added_with cs (use_document who a path done again)
  use-with done path (Some id) = ap (λ (s : State). record done { state = s; ids = done.ids ++ doc_text id.number ∷ [] }) (rights-with id done.state)
  use-with done path None =
      let id : DocId = first_number done.numbers in
      ap (λ (s : State). record { state = s; numbers = drop 1 done.numbers; ids = done.ids ++ doc_text id.number ∷ [] }) (rights-with id (with_new_document (new_document a id path) done.state))

  file-with : (done : Added) (path : List ℕ) → add_file who a (added_with cs done) path ≡ added_with cs (add_file who a done path)
  file-with done path = by_file (is_left_out a path)
    where
      by_file : (b : Bool) → cond b (record (added_with cs done) { ids = done.ids ++ [] ∷ [] }) (use_document who a path (added_with cs done) (used_again done.state.documents a path))
          ≡ added_with cs (cond b (record done { ids = done.ids ++ [] ∷ [] }) (use_document who a path done (used_again done.state.documents a path)))
      by_file true = refl
      by_file false = use-with done path (used_again done.state.documents a path)

  touch-with : (app : List ℕ) (paths : List (List ℕ)) (done : Added) → files_touch app who a (added_with cs done) paths ≡ files_touch app who a done paths
  touch-with app [] done = refl
  touch-with app (path ∷ paths) done = ap (λ (fs : List Effect). file_touch app a done path ++ fs) (ap (λ (x : Added). files_touch app who a x paths) (file-with done path) ∙ touch-with app paths (add_file who a done path))

touch-told : (app : List ℕ) (s : State) (seat : ℕ) (c : Connection) (a : AddRequest) (numbers : List DocId) → add_touch app (all_told seat s) c a numbers ≡ add_touch app s c a numbers
touch-told app s seat c a numbers =
    let t : State = all_told seat s in
    let cs : List Connection = (taken_from_queue c a t).connections in
    ap (λ (x : State). files_touch app c.who a (record { state = x; numbers = numbers; ids = [] }) (document_paths c.queue a)) (by_call (are_presented c.queue a))
    ∙ touch-with cs c.who a app (document_paths c.queue a) (begun s c a numbers)
  where
    by_call : (b : Bool) → cond b (with_queue c.seat (drop a.fds) (all_told seat s)) (all_told seat s)
        ≡ record (cond b (with_queue c.seat (drop a.fds) s) s) { connections = (cond b (with_queue c.seat (drop a.fds) (all_told seat s)) (all_told seat s)).connections }
    by_call true = refl
    by_call false = refl

-- what it touches gives the view after, and nothing is touched where it isn't done
pub add_answer-other : (app : List ℕ) (s : State) (seat : ℕ) (c : Connection) (a : AddRequest) (given : Given) → Valid (all_told seat s) → LawfulBus (all_told seat s) c (Request.Add a) given → is_app app c.who ≡ false →
    found_connection (own_connections app (all_told seat s).handles (all_told seat s).connections) c.seat ≡ None → view (all_told seat s) app ≡ view s app →
    apply_all (view s app) (cond (is_done (bus_answer (all_told seat s) c (Request.Add a) given).1) (bus_touch app s (Request.Add a) given (Some c)) []) ≡ view (bus_answer (all_told seat s) c (Request.Add a) given).0 app
add_answer-other app s seat c a given v l other e same =
    let t : State = all_told seat s in
    let o : Option Verdict = walked (add t c a given.numbers) (moment_given given.now) given.looks (is_tree given.fault) in
    ap (λ (fs : List Effect). apply_all (view s app) (cond (is_done (bus_answer t c (Request.Add a) given).1) fs [])) (sym (touch-told app s seat c a given.numbers))
    ∙ settled-other app t (taken_from_queue c a t) (view s app) given (add_touch app t c a given.numbers) same (sym (taken-other app c a t e) ∙ same) o
    (λ f. add-other app t c a given.numbers (valid-facts app t v) e other (moment_given given.now) given.looks (is_tree given.fault) (lawful-free t c a given v l f))
