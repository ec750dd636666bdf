-- An Add as a whole: what it is to the application that makes it, and to another.
use Rattle.std.proofs.Common.{◌≡◌, ℕ, List, [], ◌∷◌, drop, Bool, true, false, not, ◌&&◌, ◌||◌, cond, Option, Some, None, refl, sym, ap, ◌∙◌, arith}
use Rattle.std.specs.List.{list_all}
use Rattle.portal_base.specs.declared.files.Look.{Look}
use Rattle.portal_base.specs.declared.names.doc_id.DocId.{DocId}
use Rattle.portal_base.specs.declared.who.Who.{Who}
use Rattle.rights_rule.specs.Rights.{RightSet, contains, holds_any, no_rights, rights_named, union}
use Rattle.portal_model.specs.declared.reply.Code.{Code}
use Rattle.portal_model.specs.declared.request.AddRequest.{AddRequest}
use Rattle.portal_model.specs.declared.state.Connection.{Connection}
use Rattle.portal_model.specs.declared.state.Document.{Document}
use Rattle.portal_model.specs.Add.{Added, add, add_allowed, add_looking, add_presented, add_shown, added, added_files, adding_rights, are_of_kind, may_list, may_list_all, rights_then, taken_from_queue, used_again}
use Rattle.portal_model.specs.AddArguments.{are_add_arguments, are_presented, document_paths, exports, is_left_out, makes_strict, names_nobody, paths_shown}
use Rattle.portal_model.specs.Present.{with_queue}
use Rattle.portal_model.specs.State.{State, document_of, held_of, is_app}
use Rattle.portal_model.specs.Verdict.{Verdict, unless, walk_unless}
use Rattle.portal_model.specs.Walk.{Walk, looks_at_all, walked}
use Rattle.app_world.specs.Add.{OwnFile, add_touch, held_in, own_files, own_may_list, own_may_list_all, own_rights_then, own_taken_from_queue, reused_of, first_reused}
use Rattle.app_world.specs.Effect.{Effect, apply_all}
use Rattle.app_world.specs.Present.{own_with_queue}
use Rattle.app_world.specs.View.{found_connection, own_connection, own_connections, seen, view}
use Rattle.app_world.proofs.AddLaws.{Again, Facts, Free, again-is, files-other, found-live}
use Rattle.app_world.proofs.BusLaws.{TouchedGiven}
use Rattle.app_world.proofs.DocumentLaws.{documents-found}
use Rattle.app_world.proofs.HeldLaws.{same-rights}
use Rattle.app_world.proofs.PresentLaws.{view-elsewhere, view-requeued}
use Rattle.app_world.proofs.ReachedLaws.{IsTouched}
use Rattle.portal_model.specs.Documents.{serves}
use Rattle.portal_model.specs.AddArguments.{persists}

-- ---- the queue

module _ {X : Type 0} (f : State → X) (c : Connection) (a : AddRequest) (s : State) (h : f (with_queue c.seat (drop a.fds) s) ≡ f s) where
  pub taken-keeps : f (taken_from_queue c a s) ≡ f s
  taken-keeps = by_call (are_presented c.queue a)
    where
      by_call : (b : Bool) → f (cond b (with_queue c.seat (drop a.fds) s) s) ≡ f s
      by_call true = h
      by_call false = refl

pub taken-own : (app : List ℕ) (c : Connection) (a : AddRequest) (s : State) → own_taken_from_queue (own_connection app s.handles c) a (view s app) ≡ view (taken_from_queue c a s) app
taken-own app c a s = by_call (are_presented c.queue a)
  where
    by_call : (b : Bool) → cond b (own_with_queue c.seat (drop a.fds) (view s app)) (view s app) ≡ view (cond b (with_queue c.seat (drop a.fds) s) s) app
    by_call true = view-requeued app c.seat (drop a.fds) s
    by_call false = refl

pub taken-other : (app : List ℕ) (c : Connection) (a : AddRequest) (s : State) → found_connection (own_connections app s.handles s.connections) c.seat ≡ None → view s app ≡ view (taken_from_queue c a s) app
taken-other app c a s e = by_call (are_presented c.queue a)
  where
    by_call : (b : Bool) → view s app ≡ view (cond b (with_queue c.seat (drop a.fds) s) s) app
    by_call true = view-elsewhere app c.seat (drop a.fds) s e
    by_call false = refl

pub taken-facts : (app : List ℕ) (c : Connection) (a : AddRequest) (s : State) → Facts app s → Facts app (taken_from_queue c a s)
taken-facts app c a s f = by_call (are_presented c.queue a)
  where
    by_call : (b : Bool) → Facts app (cond b (with_queue c.seat (drop a.fds) s) s)
    by_call true = record { differ = f.differ; unheld = f.unheld }
    by_call false = f

-- what an Add begins with
abbrev pub begun : State → Connection → AddRequest → List DocId → Added
begun s c a numbers = record { state = taken_from_queue c a s; numbers = numbers; ids = [] }

-- ---- of another

touched-walk : (app : List ℕ) (s : State) (fs : List Effect) (paths : List (List ℕ)) (next : List Look → Walk Verdict) (now : ℕ) (looks : List Look) (failed : Bool) →
    ((all : List Look) (now2 : ℕ) (more : List Look) (failed2 : Bool) → walked (looks_at_all paths next) now looks failed ≡ walked (next all) now2 more failed2 → TouchedGiven app s fs (walked (next all) now2 more failed2)) →
    TouchedGiven app s fs (walked (looks_at_all paths next) now looks failed)
touched-walk app s fs [] next now looks failed h = h [] now looks failed refl
touched-walk app s fs (path ∷ paths) next now [] failed h = tt
touched-walk app s fs (path ∷ paths) next now (look ∷ looks) failed h = touched-walk app s fs paths (λ more. next (look ∷ more)) now looks failed (λ all. h (look ∷ all))

touched-check : (app : List ℕ) (s : State) (fs : List Effect) (wrong : Bool) (code : Code) (walk : Walk Verdict) (now : ℕ) (looks : List Look) (failed : Bool) →
    (walked (walk_unless wrong code walk) now looks failed ≡ walked walk now looks failed → TouchedGiven app s fs (walked walk now looks failed)) →
    TouchedGiven app s fs (walked (walk_unless wrong code walk) now looks failed)
touched-check app s fs true code walk now looks failed t = tt
touched-check app s fs false code walk now looks failed t = t refl

touched-kind : (app : List ℕ) (s : State) (fs : List Effect) (wrong : Bool) (code : Code) (verdict : Verdict) → (Some (unless wrong code verdict) ≡ Some verdict → IsTouched app s fs verdict) → IsTouched app s fs (unless wrong code verdict)
touched-kind app s fs true code verdict t = tt
touched-kind app s fs false code verdict t = t refl

-- another's Add gives the view after it by what it touches, where the numbers that it takes as it is done are free
pub add-other : (app : List ℕ) (s : State) (c : Connection) (a : AddRequest) (numbers : List DocId) → Facts app s → found_connection (own_connections app s.handles s.connections) c.seat ≡ None → is_app app c.who ≡ false →
    (now : ℕ) (looks : List Look) (failed : Bool) → (walked (add s c a numbers) now looks failed ≡ Some (added s (added_files s c a numbers)) → Free c.who a (begun s c a numbers) (document_paths c.queue a)) →
    TouchedGiven app s (add_touch app s c a numbers) (walked (add s c a numbers) now looks failed)
add-other app s c a numbers f e o now looks failed n =
    let fs : List Effect = add_touch app s c a numbers in
    let done : Free c.who a (begun s c a numbers) (document_paths c.queue a) → apply_all (view s app) fs ≡ view (added_files s c a numbers).state app =
    λ free. ap (λ v. apply_all v fs) (taken-other app c a s e) ∙ files-other app c.who a o (document_paths c.queue a) (begun s c a numbers) (taken-facts app c a s f) free in
    touched-check app s fs (not (are_presented c.queue a)) Code.InvalidArgs (add_presented s c a numbers) now looks failed (λ i.
    touched-check app s fs (not (are_add_arguments c.queue a)) Code.InvalidArgument (add_allowed s c a numbers) now looks failed (λ j.
    touched-check app s fs (not (may_list_all s c.who a (document_paths c.queue a))) Code.NotAllowed (add_looking s c a numbers) now looks failed (λ k.
    touched-walk app s fs (paths_shown c.queue a) (add_shown s c a numbers) now looks failed (λ all now2 more failed2 m.
    touched-kind app s fs (not (are_of_kind a (paths_shown c.queue a) all)) Code.InvalidArgument (added s (added_files s c a numbers)) (λ w. (refl, done (n (i ∙ (j ∙ (k ∙ (m ∙ w)))))))))))

-- ---- of the application itself: what it may list

nothing-is : (k : RightSet) → holds_any k ≡ false → no_rights ≡ k
nothing-is k e = same-rights no_rights k (grind arith) (grind arith) (grind arith) (grind arith)

held_in-seen : (k : RightSet) (d : Document) → held_in (seen k (Some d)) ≡ k
held_in-seen k d = by_held (holds_any k) refl
  where
    by_held : (b : Bool) → holds_any k ≡ b → held_in (cond b (Some (record { document = d; rights = k })) None) ≡ k
    by_held true e = refl
    by_held false e = nothing-is k e

module _ (app : List ℕ) (s : State) (a : AddRequest) (f : Facts app s) where
  then-is : (path : List ℕ) (again : Option DocId) → used_again s.documents a path ≡ again → own_rights_then (view s app) a again ≡ rights_then s.rights app a again
  then-is path None e = refl
  then-is path (Some id) e =
      let g : Again s.documents a path id = again-is s.documents a path id e in
      let live : document_of s.documents g.document.id.number ≡ Some g.document = found-live (serves path (persists a) (makes_strict a) (exports a)) g.document s.documents f.differ g.is_first in
      let here : document_of s.documents id.number ≡ Some g.document = ap (λ (i : DocId). document_of s.documents i.number) (sym g.id_is) ∙ live in
      ap (λ k. union k (adding_rights a)) (ap held_in (documents-found (held_of s.rights app) id.number s.documents ∙ ap (seen (held_of s.rights app id.number)) here) ∙ held_in-seen (held_of s.rights app id.number) g.document)

  lists-one : (path : List ℕ) (fs gs : List OwnFile) (paths : List (List ℕ)) (b : Bool) → is_left_out a path ≡ b → list_all (own_may_list (view s app) a) fs ≡ list_all (may_list s (Who.App app) a) paths → list_all (own_may_list (view s app) a) gs ≡ list_all (may_list s (Who.App app) a) paths →
      list_all (own_may_list (view s app) a) (cond b (record { path = path; again = None } ∷ fs) (record { path = path; again = used_again s.documents a path } ∷ gs)) ≡ list_all (may_list s (Who.App app) a) (path ∷ paths)
  lists-one path fs gs paths true e h k =
      ap (λ (x : Bool). (x || contains (adding_rights a) (rights_named a.names)) && list_all (own_may_list (view s app) a) fs) e
      ∙ (h ∙ ap (λ (x : Bool). (x || contains (rights_then s.rights app a (used_again s.documents a path)) (rights_named a.names)) && list_all (may_list s (Who.App app) a) paths) (sym e))
  lists-one path fs gs paths false e h k =
      λ i. (is_left_out a path || contains (then-is path (used_again s.documents a path) refl i) (rights_named a.names)) && k i

  -- the files of the call
  abbrev told_files : List (List ℕ) → List OwnFile
  told_files paths = own_files a paths (reused_of s.documents a paths)

  told-one : (path : List ℕ) (paths : List (List ℕ)) (b : Bool) →
      cond b (record { path = path; again = None } ∷ own_files a paths (cond b (reused_of s.documents a paths) (used_again s.documents a path ∷ reused_of s.documents a paths)))
      (record { path = path; again = first_reused (cond b (reused_of s.documents a paths) (used_again s.documents a path ∷ reused_of s.documents a paths)) }
      ∷ own_files a paths (drop 1 (cond b (reused_of s.documents a paths) (used_again s.documents a path ∷ reused_of s.documents a paths))))
      ≡ cond b (record { path = path; again = None } ∷ told_files paths) (record { path = path; again = used_again s.documents a path } ∷ told_files paths)
  told-one path paths true = refl
  told-one path paths false = refl

  lists-all : (paths : List (List ℕ)) → list_all (own_may_list (view s app) a) (told_files paths) ≡ list_all (may_list s (Who.App app) a) paths
  lists-all [] = refl
  lists-all (path ∷ paths) =
      ap (list_all (own_may_list (view s app) a)) (told-one path paths (is_left_out a path)) ∙ lists-one path (told_files paths) (told_files paths) paths (is_left_out a path) refl (lists-all paths) (lists-all paths)

  pub may_list-own : (paths : List (List ℕ)) → own_may_list_all (view s app) a (told_files paths) ≡ may_list_all s (Who.App app) a paths
  may_list-own paths = ap (λ (b : Bool). names_nobody a || b) (lists-all paths)
