-- What an Add comes to: none of its own refusals tells that a device failed, and it comes to nothing only where a call of the tree failed.
use Rattle.std.proofs.Common.{◌≡◌, ℕ, List, [], ◌∷◌, drop, Bool, true, false, not, cond, Option, Some, None, refl}
use Rattle.file_generations.specs.Generations.{Held}
use Rattle.portal_base.specs.declared.files.Look.{Look}
use Rattle.portal_base.specs.declared.names.doc_id.DocId.{DocId}
use Rattle.portal_model.specs.declared.reply.Code.{Code}
use Rattle.portal_model.specs.declared.request.AddRequest.{AddRequest}
use Rattle.portal_model.specs.declared.state.Connection.{Connection}
use Rattle.portal_model.specs.Add.{add, add_allowed, add_looking, add_presented, add_shown, added, added_files, are_of_kind, may_list_all, taken_from_queue}
use Rattle.portal_model.specs.AddArguments.{are_add_arguments, are_presented, document_paths, paths_shown}
use Rattle.portal_model.specs.Allowed.{is_refusal}
use Rattle.portal_model.specs.Kept.{records_of}
use Rattle.portal_model.specs.Present.{with_queue}
use Rattle.portal_model.specs.State.{State}
use Rattle.portal_model.specs.Verdict.{Verdict, Refuses, Does, unless, walk_unless}
use Rattle.portal_model.specs.Walk.{Walk, Answers, Looks, Ends, Lists, Gives, looks_at_all, walked}
use Rattle.portal_steps.proofs.CallVerdicts.{is_fault_code}

-- ---- no refusal tells that a device failed

abbrev pub TellsNoFault : Verdict → Type 0
TellsNoFault (Refuses code) = is_fault_code code ≡ false
TellsNoFault (Does d) = is_refusal d.answer ≡ false

abbrev pub TellsNoFaultIf : Option Verdict → Type 0
TellsNoFaultIf None = Unit {0}
TellsNoFaultIf (Some v) = TellsNoFault v

unless-tells : (wrong : Bool) (code : Code) (v : Verdict) → is_fault_code code ≡ false → TellsNoFault v → TellsNoFault (unless wrong code v)
unless-tells true code v h k = h
unless-tells false code v h k = k

walk_unless-tells : (now : ℕ) (looks : List Look) (failed : Bool) (wrong : Bool) (code : Code) (walk : Walk Verdict) → is_fault_code code ≡ false → TellsNoFaultIf (walked walk now looks failed) → TellsNoFaultIf (walked (walk_unless wrong code walk) now looks failed)
walk_unless-tells now looks failed true code walk h k = h
walk_unless-tells now looks failed false code walk h k = k

looks-tell : (now : ℕ) (failed : Bool) (paths : List (List ℕ)) (next : List Look → Walk Verdict) (looks : List Look) → ((shown rest : List Look) → TellsNoFaultIf (walked (next shown) now rest failed)) → TellsNoFaultIf (walked (looks_at_all paths next) now looks failed)
looks-tell now failed [] next looks h = h [] looks
looks-tell now failed (path ∷ paths) next [] h = tt
looks-tell now failed (path ∷ paths) next (look ∷ looks) h =
    looks-tell now failed paths (λ (shown : List Look). next (look ∷ shown)) looks (λ shown rest. h (look ∷ shown) rest)

pub add-tells : (s : State) (c : Connection) (a : AddRequest) (numbers : List DocId) (now : ℕ) (looks : List Look) (failed : Bool) → TellsNoFaultIf (walked (add s c a numbers) now looks failed)
add-tells s c a numbers now looks failed =
    walk_unless-tells now looks failed (not (are_presented c.queue a)) Code.InvalidArgs (add_presented s c a numbers) refl
    (walk_unless-tells now looks failed (not (are_add_arguments c.queue a)) Code.InvalidArgument (add_allowed s c a numbers) refl
    (walk_unless-tells now looks failed (not (may_list_all s c.who a (document_paths c.queue a))) Code.NotAllowed (add_looking s c a numbers) refl
    (looks-tell now failed (paths_shown c.queue a) (add_shown s c a numbers) looks
    (λ shown rest. unless-tells (not (are_of_kind a (paths_shown c.queue a) shown)) Code.InvalidArgument (added s (added_files s c a numbers)) refl refl))))

-- ---- where a call of the tree failed

-- a walk comes to nothing just there
pub gives-none : {X : Type 0} (told : Option Held) (now : ℕ) (failed : Bool) (looks : List Look) (walk : Walk X) → Gives told walk looks failed → walked walk now looks failed ≡ None → failed ≡ true
gives-none told now failed looks (Answers x) k e = cc
gives-none told now failed [] (Looks target next) k e = k
gives-none told now failed (look ∷ looks) (Looks target next) k e = gives-none told now failed looks (next look) k.1 e
gives-none told now true [] (Ends call done missing) k e = refl
gives-none told now false [] (Ends call done missing) k e = cc
gives-none told now failed (look ∷ looks) (Ends call done missing) k e = cc
gives-none told now true looks (Lists path done missing) k e = refl
gives-none told now false looks (Lists path done missing) k e = cc

pub gives-some : {X : Type 0} (told : Option Held) (now : ℕ) (failed : Bool) (looks : List Look) (walk : Walk X) (x : X) → Gives told walk looks failed → walked walk now looks failed ≡ Some x → failed ≡ false
gives-some told now failed looks (Answers x) y k e = k.1
gives-some told now failed [] (Looks target next) y k e = cc
gives-some told now failed (look ∷ looks) (Looks target next) y k e = gives-some told now failed looks (next look) y k.1 e
gives-some told now true [] (Ends call done missing) y k e = cc
gives-some told now false [] (Ends call done missing) y k e = refl
gives-some told now failed (look ∷ looks) (Ends call done missing) y k e = k.2
gives-some told now true looks (Lists path done missing) y k e = cc
gives-some told now false looks (Lists path done missing) y k e = refl

-- ---- the state after a refusal

queue-entries : (s : State) (c : Connection) (a : AddRequest) → (taken_from_queue c a s).entries ≡ s.entries
queue-entries s c a = by_presented (are_presented c.queue a)
  where
    by_presented : (b : Bool) → (cond b (with_queue c.seat (drop a.fds) s) s).entries ≡ s.entries
    by_presented true = refl
    by_presented false = refl

-- the queue alone changes: the records are those of before
pub queue-records : (s : State) (c : Connection) (a : AddRequest) → records_of (taken_from_queue c a s) ≡ records_of s
queue-records s c a = by_presented (are_presented c.queue a)
  where
    by_presented : (b : Bool) → records_of (cond b (with_queue c.seat (drop a.fds) s) s) ≡ records_of s
    by_presented true = refl
    by_presented false = refl
