-- An Add of the application itself, over any tree: its own machine comes to the same by the looks that were given.
use Rattle.std.proofs.Common.{◌≡◌, ℕ, length, List, [], ◌∷◌, map, take, Bool, true, ◌&&◌, cond, Option, refl, ap, ◌∙◌, arith}
use Rattle.std.specs.Option.{option_map}
use Rattle.std.proofs.lemmas.List.{length-replicate}
use Rattle.portal_base.specs.declared.files.Look.{Look}
use Rattle.portal_base.specs.declared.who.Who.{Who}
use Rattle.portal_model.specs.declared.entry.Given.{Given}
use Rattle.portal_model.specs.declared.request.AddRequest.{AddRequest}
use Rattle.portal_model.specs.declared.request.Request.{Request}
use Rattle.portal_model.specs.declared.state.Connection.{Connection}
use Rattle.portal_model.specs.Add.{add, taken_from_queue}
use Rattle.portal_model.specs.AddArguments.{are_add_arguments, are_presented, document_paths, paths_shown, reuses}
use Rattle.portal_model.specs.Bus.{bus_answer, is_tree, moment_given}
use Rattle.portal_model.specs.Content.{look_of}
use Rattle.portal_model.specs.Outside.{LawfulBus}
use Rattle.portal_model.specs.State.{State}
use Rattle.portal_model.specs.Valid.{Valid}
use Rattle.portal_model.specs.Verdict.{Verdict}
use Rattle.portal_model.specs.Walk.{walked}
use Rattle.app_world.specs.Add.{asked, look_of_holding, own_add, own_files, own_taken_from_queue, reused_of}
use Rattle.app_world.specs.Bus.{own_settled}
use Rattle.app_world.specs.Own.{Own}
use Rattle.app_world.specs.View.{Alone, AppView, OwnConnection, own_connection, view}
use Rattle.app_world.proofs.AddCallLaws.{taken-own}
use Rattle.app_world.proofs.AddGiven.{lawful-free, told_of_add}
use Rattle.app_world.proofs.AddLaws.{valid-facts}
use Rattle.app_world.proofs.AddMadeLaws.{IsTold, add-own}
use Rattle.app_world.proofs.AddOwnLaws.{holds_for}
use Rattle.app_world.proofs.AddTold.{contents-told, reused-told}
use Rattle.app_world.proofs.BusLaws.{seen_answer, settled-own, settled-same}
use Rattle.app_world.proofs.ReachedLaws.{seen_verdict}
use Rattle.served_world.specs.ServedOwn.{shown_by_look}

-- what shows a look shows that look
look-shown : (look : Look) → look_of (shown_by_look look) ≡ look
look-shown (Look.File generation size moment) = ap (λ (n : ℕ). Look.File generation n moment) (length-replicate size 0)
look-shown Look.Folder = refl
look-shown Look.Missing = refl

pub looks-shown : (looks : List Look) → map look_of_holding (take (length looks) (map (λ look. Alone (shown_by_look look)) looks)) ≡ looks
looks-shown [] = refl
looks-shown (look ∷ looks) = λ i. look-shown look i ∷ looks-shown looks i

-- ---- the call, with the contents that the state has

both-in-order : (r p q : Bool) → p ≡ true → q ≡ true → (r && (p && q)) ≡ r
both-in-order r p q e f = grind arith

-- what there is in the state for each path; over a tree that tells nothing the looks show other things
abbrev pub told_shown : ℕ → State → Connection → AddRequest → Given → Own
told_shown seat s c a given = record (told_of_add seat s c a given) { shown = map (holds_for a s.files) (take (asked given) (paths_shown c.queue a)) }

is-told : (seat : ℕ) (s : State) (c : Connection) (a : AddRequest) (given : Given) → IsTold s c a (told_shown seat s c a given) given.looks
is-told seat s c a given =
    let paths : List (List ℕ) = document_paths c.queue a in
    record {
      files = λ p q. ap (λ (b : Bool). own_files a paths (cond b (reused_of s.documents a paths) [])) (both-in-order (reuses a) (are_presented c.queue a) (are_add_arguments c.queue a) p q) ∙ reused-told s.documents a paths (reuses a) refl;
      contents = λ e g k path h. contents-told (holds_for a s.files) (paths_shown c.queue a) (asked given) (grind arith) path h;
    }

-- in the view it comes to the same by the looks that were given, whatever the tree tells
pub add-given : (app : List ℕ) (s : State) (seat : ℕ) (c : Connection) (a : AddRequest) (given : Given) → Valid s → LawfulBus s c (Request.Add a) given → c.who ≡ Who.App app →
    own_settled (view s app) (own_taken_from_queue (own_connection app s.handles c) a (view s app)) (told_shown seat s c a given)
    (walked (own_add (view s app) (own_connection app s.handles c) a (told_shown seat s c a given)) (moment_given given.now) given.looks (is_tree given.fault))
    ≡ seen_answer app (bus_answer s c (Request.Add a) given)
add-given app s seat c a given v l named =
    let own : Own = told_shown seat s c a given in
    let o : OwnConnection = own_connection app s.handles c in
    let now : ℕ = moment_given given.now in
    let failed : Bool = is_tree given.fault in
    let verdict : Option Verdict = walked (add s c a given.numbers) now given.looks failed in
    settled-same (view s app) (own_taken_from_queue o a (view s app)) own given.full refl (walked (own_add (view s app) o a own) now given.looks failed) (option_map (seen_verdict app) verdict)
    (add-own app s c a own (valid-facts app s v) named given.full now given.looks failed (is-told seat s c a given) (lawful-free s c a given v l))
    ∙ (ap (λ (refused : AppView). own_settled (view s app) refused own (option_map (seen_verdict app) verdict)) (taken-own app c a s)
    ∙ settled-own app s (taken_from_queue c a s) given own refl refl verdict)
