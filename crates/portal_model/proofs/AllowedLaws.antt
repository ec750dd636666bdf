-- Refusals change nothing but queues, and what is allowed is done.
use Rattle.std.proofs.Common.{◌≡◌, ◌≢◌, ℕ, List, [], ◌∷◌, ◌++◌, map, length, nat_lt, drop, Bool, true, false, not, ◌&&◌, ◌||◌, cond, Option, Some, None, is_some, Ok, Err, refl, sym, ap, subst, ◌∙◌, inl, inr, ◌⊎◌, arith}
use Rattle.file_generations.specs.Generations.{Held}
use Rattle.portal_base.specs.Names.{is_app_name, is_same}
use Rattle.portal_base.specs.declared.files.Look.{Look}
use Rattle.portal_base.specs.declared.names.doc_id.DocId.{DocId}
use Rattle.portal_base.specs.declared.who.Who.{Who}
use Rattle.rights_rule.specs.Rights.{holds_any, rights_named}
use Rattle.portal_model.specs.declared.entry.Fault.{Fault}
use Rattle.portal_model.specs.declared.entry.Given.{Given}
use Rattle.portal_model.specs.declared.reply.Answer.{Answer}
use Rattle.portal_model.specs.declared.reply.Code.{Code}
use Rattle.portal_model.specs.declared.request.AddRequest.{AddRequest}
use Rattle.portal_model.specs.declared.request.Request.{Request}
use Rattle.portal_model.specs.declared.request.RightsCall.{RightsCall}
use Rattle.portal_model.specs.declared.rights.Right.TheVariants.{Delete, GrantPermissions}
use Rattle.portal_model.specs.declared.state.Connection.{Connection}
use Rattle.portal_model.specs.declared.state.Document.{Document}
use Rattle.portal_model.specs.declared.state.Triple.{Triple}
use Rattle.portal_model.specs.declared.store.StoreAnswer.{StoreAnswer}
use Rattle.portal_model.specs.declared.store.StoreCall.{StoreCall}
use Rattle.portal_model.specs.declared.store.StoredEntry.{StoredEntry}
use Rattle.portal_model.specs.declared.store.StoreError.TheVariants.{NotFound, TooLong, Memory}
use Rattle.portal_model.specs.Add.{add, add_allowed, add_looking, add_presented, add_shown, added, added_files, are_of_kind, may_list_all}
use Rattle.portal_model.specs.AddArguments.{are_add_arguments, are_presented, document_paths, paths_shown}
use Rattle.portal_model.specs.Allowed.{has_place, is_allowed, is_live, is_refusal, is_too_long_for, may_add, may_delete_in, may_grant_in, may_revoke_in}
use Rattle.portal_model.specs.Arguments.{ahead_of_end, document_named, if_reached, is_ended_path, reached}
use Rattle.portal_model.specs.Bus.{bus_walk, is_tree, kept, moment_given, refused_state, settled, verdict_given}
use Rattle.portal_model.specs.Content.{look_at}
use Rattle.portal_model.specs.DeleteDocument.{delete_reached, deleted}
use Rattle.portal_model.specs.DocumentLaws.{RefusalsKeep, ToldFor, after_bus, answer_of_bus}
use Rattle.portal_model.specs.Grant.{are_rights_arguments, grant_reached, granted, may_grant}
use Rattle.portal_model.specs.Documents.{first_of}
use Rattle.portal_model.specs.Info.{info, info_of}
use Rattle.portal_model.specs.ListDocuments.{documents_listed, list_documents}
use Rattle.portal_model.specs.LookupDocument.{lookup_document, text_of}
use Rattle.portal_model.specs.Outside.{LawfulBus, files_told}
use Rattle.portal_model.specs.Present.{may_present, present, present_path, queue_path, with_queue}
use Rattle.portal_model.specs.Revoke.{may_revoke, names_itself, revoke_reached, revoked}
use Rattle.portal_model.specs.Rights.{held_by}
use Rattle.portal_model.specs.Rows.{permissions_of, stored_rows}
use Rattle.portal_model.specs.State.{is_host, State, who_has, held_in}
use Rattle.portal_model.specs.Store.{Entries, Outcome, becomes, becomes_if_told, can_be_told, change_of, entry_of, entry_to_set, has_row, store_call, with_entry, with_permissions, without_entry, without_permissions}
use Rattle.portal_model.specs.StoreRequest.{are_store_arguments, has_entry_for, may_call, own_table, store_allowed, store_answered, store_request, store_too_long, store_verdict, table_of}
use Rattle.portal_model.specs.Verdict.{Doing, Verdict, Refuses, Does, does, unless, walk_unless}
use Rattle.portal_model.specs.Walk.{Walk, Answers, Ends, Gives, Lists, Looks, looks_at_all, walked}
use Rattle.portal_model.proofs.BusLaws.{HoldsGiven, bus_walk-holds, walked-holds}

-- ---- refusals

-- nothing that is done is answered by a refusal
abbrev NoRefusal : Option Verdict → Type 0
NoRefusal v = HoldsGiven (λ (t : State). Unit {0}) (λ t seat h. h) (λ t seat change h. h) (λ t ds made rights apps h. h) (λ t es h. h) (λ t change h. h) v

never_refused : (s : State) (c : Connection) (request : Request) (given : Given) → NoRefusal (verdict_given (bus_walk s c request given.numbers) given)
never_refused s c request given =
    walked-holds (λ (t : State). Unit {0}) (λ t seat h. h) (λ t seat change h. h) (λ t ds made rights apps h. h) (λ t es h. h) (λ t change h. h) (bus_walk s c request given.numbers) (moment_given given.now) given.looks (is_tree given.fault)
    (bus_walk-holds (λ (t : State). Unit {0}) (λ t seat h. h) (λ t seat change h. h) (λ t ds made rights apps h. h) (λ t es h. h) (λ t change h. h) s c request given.numbers tt)

abbrev Keeps : State → State → Type 0
Keeps s t = t ≡ record s { connections = t.connections }

kept_refused : (s : State) (fault : Fault) (d : Doing) (code : Code) → is_refusal d.answer ≡ false → (kept s fault d).1 ≡ Answer.Refused code → Keeps s (kept s fault d).0
kept_refused s Fault.None d code n e = let no : is_refusal d.answer ≡ true = ap is_refusal e in cc
kept_refused s Fault.Tree d code n e = let no : is_refusal d.answer ≡ true = ap is_refusal e in cc
kept_refused s Fault.Keeper d code n e = refl

full_refused : (s refused : State) (full : Bool) (fault : Fault) (d : Doing) (code : Code) → is_refusal d.answer ≡ false → Keeps s refused →
    (cond full (refused, Answer.Refused Code.LimitsExceeded) (kept s fault d)).1 ≡ Answer.Refused code → Keeps s (cond full (refused, Answer.Refused Code.LimitsExceeded) (kept s fault d)).0
full_refused s refused true fault d code n k e = k
full_refused s refused false fault d code n k e = kept_refused s fault d code n e

settled_refused : (s refused : State) (given : Given) (v : Option Verdict) (code : Code) → NoRefusal v → Keeps s refused → (settled s refused given v).1 ≡ Answer.Refused code → Keeps s (settled s refused given v).0
settled_refused s refused given None code n k e = refl
settled_refused s refused given (Some (Refuses other)) code n k e = k
settled_refused s refused given (Some (Does d)) code n k e = full_refused s refused given.full given.fault d code n.1 k e

keeps_either : (s : State) (seat : ℕ) (change : List (List ℕ) → List (List ℕ)) (b : Bool) → Keeps s (cond b (with_queue seat change s) s)
keeps_either s seat change true = refl
keeps_either s seat change false = refl

refused_keeps : (s : State) (c : Connection) (request : Request) → Keeps s (refused_state s c request)
refused_keeps s c (Request.Add a) = keeps_either s c.seat (drop a.fds) (are_presented c.queue a)
refused_keeps s c request = refl

pub refused-lists : (s : State) (c : Connection) (request : Request) (given : Given) (code : Code) → answer_of_bus s c request given ≡ Answer.Refused code → Keeps s (after_bus s c request given)
refused-lists s c request given code e =
    settled_refused s (refused_state s c request) given (verdict_given (bus_walk s c request given.numbers) given) code (never_refused s c request given) (refused_keeps s c request) e

-- the state is as it was, or that after a refusal
abbrev IsLeft : State → State → State → Type 0
IsLeft s refused t = (t ≡ s) ⊎ (t ≡ refused)

kept_left : (s refused : State) (fault : Fault) (d : Doing) (code : Code) → is_refusal d.answer ≡ false → (kept s fault d).1 ≡ Answer.Refused code → IsLeft s refused (kept s fault d).0
kept_left s refused Fault.None d code n e = let no : is_refusal d.answer ≡ true = ap is_refusal e in cc
kept_left s refused Fault.Tree d code n e = let no : is_refusal d.answer ≡ true = ap is_refusal e in cc
kept_left s refused Fault.Keeper d code n e = inl refl

full_left : (s refused : State) (full : Bool) (fault : Fault) (d : Doing) (code : Code) → is_refusal d.answer ≡ false →
    (cond full (refused, Answer.Refused Code.LimitsExceeded) (kept s fault d)).1 ≡ Answer.Refused code → IsLeft s refused (cond full (refused, Answer.Refused Code.LimitsExceeded) (kept s fault d)).0
full_left s refused true fault d code n e = inr refl
full_left s refused false fault d code n e = kept_left s refused fault d code n e

settled_left : (s refused : State) (given : Given) (v : Option Verdict) (code : Code) → NoRefusal v → (settled s refused given v).1 ≡ Answer.Refused code → IsLeft s refused (settled s refused given v).0
settled_left s refused given None code n e = inl refl
settled_left s refused given (Some (Refuses other)) code n e = inr refl
settled_left s refused given (Some (Does d)) code n e = full_left s refused given.full given.fault d code n.1 e

-- ---- where a device fails

-- this verdict is no refusal that tells a failure
abbrev NoFailure : Verdict → Type 0
NoFailure (Refuses code) = code ≢ Code.Failed
NoFailure (Does d) = Unit {0}

abbrev NoFailureGiven : Option Verdict → Type 0
NoFailureGiven None = Unit {0}
NoFailureGiven (Some v) = NoFailure v

abbrev NoFailureWalk : Walk Verdict → Type 0
NoFailureWalk (Answers v) = NoFailure v
NoFailureWalk (Looks target next) = (look : Look) → NoFailureWalk (next look)
NoFailureWalk (Ends call done missing) = ((now : ℕ) → NoFailure (done now)) × NoFailure missing
NoFailureWalk (Lists path done missing) = NoFailure missing

unless_fails : (wrong : Bool) (code : Code) (v : Verdict) → code ≢ Code.Failed → NoFailure v → NoFailure (unless wrong code v)
unless_fails true code v n h = n
unless_fails false code v n h = h

walk_unless_fails : (wrong : Bool) (code : Code) (w : Walk Verdict) → code ≢ Code.Failed → NoFailureWalk w → NoFailureWalk (walk_unless wrong code w)
walk_unless_fails true code w n h = n
walk_unless_fails false code w n h = h

looks_fail : (paths : List (List ℕ)) (next : List Look → Walk Verdict) → ((looks : List Look) → NoFailureWalk (next looks)) → NoFailureWalk (looks_at_all paths next)
looks_fail [] next h = h []
looks_fail (path ∷ paths) next h = λ look. looks_fail paths (λ looks. next (look ∷ looks)) (λ looks. h (look ∷ looks))

walked_fails : (w : Walk Verdict) (now : ℕ) (looks : List Look) (failed : Bool) → NoFailureWalk w → NoFailureGiven (walked w now looks failed)
walked_fails (Answers v) now looks failed h = h
walked_fails (Looks target next) now [] failed h = tt
walked_fails (Looks target next) now (look ∷ looks) failed h = walked_fails (next look) now looks failed (h look)
walked_fails (Ends call done missing) now [] true h = tt
walked_fails (Ends call done missing) now [] false h = h.0 now
walked_fails (Ends call done missing) now (look ∷ looks) failed h = h.1
walked_fails (Lists path done missing) now looks true h = tt
walked_fails (Lists path done missing) now looks false h = h

add_fails : (s : State) (c : Connection) (a : AddRequest) (numbers : List DocId) → NoFailureWalk (add s c a numbers)
add_fails s c a numbers =
    walk_unless_fails (not (are_presented c.queue a)) Code.InvalidArgs (add_presented s c a numbers) (λ e. cc)
    (walk_unless_fails (not (are_add_arguments c.queue a)) Code.InvalidArgument (add_allowed s c a numbers) (λ e. cc)
    (walk_unless_fails (not (may_list_all s c.who a (document_paths c.queue a))) Code.NotAllowed (add_looking s c a numbers) (λ e. cc)
    (looks_fail (paths_shown c.queue a) (add_shown s c a numbers)
    (λ looks. unless_fails (not (are_of_kind a (paths_shown c.queue a) looks)) Code.InvalidArgument (added s (added_files s c a numbers)) (λ e. cc) tt))))

-- the code of a refusal
abbrev code_in : Answer → Code
code_in (Answer.Refused code) = code
code_in told = Code.NotHere

kept_failed : (s : State) (fault : Fault) (d : Doing) (code : Code) → is_refusal d.answer ≡ false → (kept s fault d).1 ≡ Answer.Refused code → ((kept s fault d).0 ≡ s) × (code ≡ Code.Failed)
kept_failed s Fault.None d code n e = let no : is_refusal d.answer ≡ true = ap is_refusal e in cc
kept_failed s Fault.Tree d code n e = let no : is_refusal d.answer ≡ true = ap is_refusal e in cc
kept_failed s Fault.Keeper d code n e = (refl, sym (ap code_in e))

full_failed : (s refused : State) (full : Bool) (fault : Fault) (d : Doing) → is_refusal d.answer ≡ false →
    (cond full (refused, Answer.Refused Code.LimitsExceeded) (kept s fault d)).1 ≡ Answer.Refused Code.Failed → (cond full (refused, Answer.Refused Code.LimitsExceeded) (kept s fault d)).0 ≡ s
full_failed s refused true fault d n e = let no : Code.LimitsExceeded ≡ Code.Failed = ap code_in e in cc
full_failed s refused false fault d n e = (kept_failed s fault d Code.Failed n e).0

full_taken : (s refused : State) (full : Bool) (fault : Fault) (d : Doing) (code : Code) → is_refusal d.answer ≡ false → code ≢ Code.Failed →
    (cond full (refused, Answer.Refused Code.LimitsExceeded) (kept s fault d)).1 ≡ Answer.Refused code → (cond full (refused, Answer.Refused Code.LimitsExceeded) (kept s fault d)).0 ≡ refused
full_taken s refused true fault d code n k e = refl
full_taken s refused false fault d code n k e = absurd (k (kept_failed s fault d code n e).1)

settled_failed : (s refused : State) (given : Given) (v : Option Verdict) → NoRefusal v → NoFailureGiven v → (settled s refused given v).1 ≡ Answer.Refused Code.Failed → (settled s refused given v).0 ≡ s
settled_failed s refused given None n f e = refl
settled_failed s refused given (Some (Refuses other)) n f e = absurd (f (ap code_in e))
settled_failed s refused given (Some (Does d)) n f e = full_failed s refused given.full given.fault d n.1 e

settled_taken : (s refused : State) (given : Given) (v : Option Verdict) (code : Code) → NoRefusal v → code ≢ Code.Failed → (settled s refused given v).1 ≡ Answer.Refused code → (settled s refused given v).0 ≡ refused
settled_taken s refused given None code n k e = absurd (k (sym (ap code_in e)))
settled_taken s refused given (Some (Refuses other)) code n k e = refl
settled_taken s refused given (Some (Does d)) code n k e = full_taken s refused given.full given.fault d code n.1 k e

-- what a refusal leaves is the state, where it takes nothing
left_alone : (s refused t : State) → refused ≡ s → IsLeft s refused t → t ≡ s
left_alone s refused t h (inl e) = e
left_alone s refused t h (inr e) = e ∙ h

left-so : (s : State) (c : Connection) (request : Request) (given : Given) (code : Code) → answer_of_bus s c request given ≡ Answer.Refused code → IsLeft s (refused_state s c request) (after_bus s c request given)
left-so s c request given code e =
    settled_left s (refused_state s c request) given (verdict_given (bus_walk s c request given.numbers) given) code (never_refused s c request given) e

failed-stays : (s : State) (c : Connection) (request : Request) (given : Given) → answer_of_bus s c request given ≡ Answer.Refused Code.Failed → after_bus s c request given ≡ s
failed-stays s c (Request.Add a) given e =
    settled_failed s (refused_state s c (Request.Add a)) given (verdict_given (add s c a given.numbers) given) (never_refused s c (Request.Add a) given)
    (walked_fails (add s c a given.numbers) (moment_given given.now) given.looks (is_tree given.fault) (add_fails s c a given.numbers)) e
failed-stays s c request given e = left_alone s (refused_state s c request) (after_bus s c request given) refl (left-so s c request given Code.Failed e)

pub refusals-keep : RefusalsKeep
refusals-keep = record {
  lists = refused-lists;
  failed = failed-stays;
  taken = λ s c request given code e k. settled_taken s (refused_state s c request) given (verdict_given (bus_walk s c request given.numbers) given) code (never_refused s c request given) k e;
}

-- ---- what is allowed

abbrev Done : Verdict → Type 0
Done (Refuses code) = ⊥
Done (Does d) = is_refusal d.answer ≡ false

abbrev DoneGiven : Option Verdict → Type 0
DoneGiven None = ⊥
DoneGiven (Some v) = Done v

passes : (b : Bool) (code : Code) (v : Verdict) → b ≡ true → Done v → Done (unless (not b) code v)
passes true code v e h = h
passes false code v e h = cc

walk_passes : (b : Bool) (code : Code) (w : Walk Verdict) (now : ℕ) (looks : List Look) → b ≡ true → DoneGiven (walked w now looks false) → DoneGiven (walked (walk_unless (not b) code w) now looks false)
walk_passes true code w now looks e h = h
walk_passes false code w now looks e h = cc

-- the looks of a walk behind a check that passes
gives_behind : (tree : Option Held) (b : Bool) (code : Code) (w : Walk Verdict) (looks : List Look) → b ≡ true → Gives tree (walk_unless (not b) code w) looks false → Gives tree w looks false
gives_behind tree true code w looks e g = g
gives_behind tree false code w looks e g = cc

both_true : (a b : Bool) → (a && b) ≡ true → (a ≡ true) × (b ≡ true)
both_true true true h = (refl, refl)
both_true true false h = cc
both_true false b h = cc

reaches : (rights : List Triple) (who : Who) (d : Document) → holds_any (held_by rights who d.id.number) ≡ true → if_reached rights who (Some d) ≡ Some d
reaches rights who d h = ap (λ (b : Bool). cond b (Some d) None) h

grant_done : (s : State) (who : Who) (call : RightsCall) (o : Option Document) → may_grant_in s who call o ≡ true → Done (grant_reached s who call (if_reached s.rights who o))
grant_done s who call None h = cc
grant_done s who call (Some d) h =
    let any : holds_any (held_by s.rights who d.id.number) ≡ true = grind arith in
    subst (λ (o : Option Document). Done (grant_reached s who call o)) (sym (reaches s.rights who d any))
    (passes (may_grant (held_by s.rights who d.id.number) (rights_named call.names)) Code.NotAllowed (granted s call d) h refl)

gives_is : (rights : List Triple) (who : Who) (n : ℕ) → who_has rights who n GrantPermissions ≡ (held_by rights who n).grant_permissions
gives_is rights Who.Host n = refl
gives_is rights (Who.App app) n = refl

deletes_is : (rights : List Triple) (who : Who) (n : ℕ) → who_has rights who n Delete ≡ (held_by rights who n).delete
deletes_is rights Who.Host n = refl
deletes_is rights (Who.App app) n = refl

revoke_done : (s : State) (who : Who) (call : RightsCall) (o : Option Document) → may_revoke_in s who call o ≡ true → Done (revoke_reached s who call (if_reached s.rights who o))
revoke_done s who call None h = cc
revoke_done s who call (Some d) h =
    let held = held_by s.rights who d.id.number in
    let may : (held.grant_permissions || (names_itself who call.app && holds_any held)) ≡ true = ap (λ (b : Bool). b || (names_itself who call.app && holds_any held)) (sym (gives_is s.rights who d.id.number)) ∙ h in
    let any : holds_any held ≡ true = grind arith in
    let allowed : may_revoke held (names_itself who call.app) ≡ true = grind arith in
    subst (λ (o : Option Document). Done (revoke_reached s who call o)) (sym (reaches s.rights who d any))
    (passes (may_revoke held (names_itself who call.app)) Code.NotAllowed (Does (record { state = revoked s call d; answer = Answer.Done; makes = 0; exceeds = false })) allowed refl)

delete_done : (s : State) (who : Who) (o : Option Document) → may_delete_in s who o ≡ true → Done (delete_reached s who (if_reached s.rights who o))
delete_done s who None h = cc
delete_done s who (Some d) h =
    let held = held_by s.rights who d.id.number in
    let may : held.delete ≡ true = sym (deletes_is s.rights who d.id.number) ∙ h in
    let any : holds_any held ≡ true = grind arith in
    subst (λ (o : Option Document). Done (delete_reached s who o)) (sym (reaches s.rights who d any))
    (passes held.delete Code.NotAllowed (Does (record { state = deleted s d.id.number; answer = Answer.Done; makes = 0; exceeds = false })) may refl)

info_done : (s : State) (o : Option Document) → is_live o ≡ true → Done (info_of s o)
info_done s None h = cc
info_done s (Some d) h = refl

-- ---- looks

shown_walked : (held : Held) (paths : List (List ℕ)) (v : List Look → Verdict) (looks : List Look) (now : ℕ) → Gives (Some held) (looks_at_all paths (λ ls. Answers (v ls))) looks false →
    walked (looks_at_all paths (λ ls. Answers (v ls))) now looks false ≡ Some (v (map (look_at held.present) paths))
shown_walked held [] v looks now g = refl
shown_walked held (p ∷ ps) v [] now g = cc
shown_walked held (p ∷ ps) v (look ∷ looks) now g =
    shown_walked held ps (λ ls. v (look ∷ ls)) looks now g.1 ∙ ap (λ (l : Look). Some (v (l ∷ map (look_at held.present) ps))) g.0

-- ---- each kind

add_done : (s : State) (c : Connection) (a : AddRequest) (numbers : List DocId) (looks : List Look) (now : ℕ) → may_add s c a ≡ true → Gives (Some (held_in s)) (add s c a numbers) looks false →
    DoneGiven (walked (add s c a numbers) now looks false)
add_done s c a numbers looks now h g =
    let paths = document_paths c.queue a in
    let first = both_true (are_presented c.queue a) (are_add_arguments c.queue a && (may_list_all s c.who a paths && are_of_kind a (paths_shown c.queue a) (map (look_at s.files) (paths_shown c.queue a)))) h in
    let second = both_true (are_add_arguments c.queue a) (may_list_all s c.who a paths && are_of_kind a (paths_shown c.queue a) (map (look_at s.files) (paths_shown c.queue a))) first.1 in
    let third = both_true (may_list_all s c.who a paths) (are_of_kind a (paths_shown c.queue a) (map (look_at s.files) (paths_shown c.queue a))) second.1 in
    let g1 = gives_behind (Some (held_in s)) (are_presented c.queue a) Code.InvalidArgs (add_presented s c a numbers) looks first.0 g in
    let g2 = gives_behind (Some (held_in s)) (are_add_arguments c.queue a) Code.InvalidArgument (add_allowed s c a numbers) looks second.0 g1 in
    let g3 = gives_behind (Some (held_in s)) (may_list_all s c.who a paths) Code.NotAllowed (add_looking s c a numbers) looks third.0 g2 in
    let v : List Look → Verdict = λ ls. unless (not (are_of_kind a (paths_shown c.queue a) ls)) Code.InvalidArgument (added s (added_files s c a numbers)) in
    let shown : walked (add_looking s c a numbers) now looks false ≡ Some (v (map (look_at s.files) (paths_shown c.queue a))) = shown_walked (held_in s) (paths_shown c.queue a) v looks now g3 in
    let done : Done (v (map (look_at s.files) (paths_shown c.queue a))) = passes (are_of_kind a (paths_shown c.queue a) (map (look_at s.files) (paths_shown c.queue a))) Code.InvalidArgument (added s (added_files s c a numbers)) third.1 refl in
    walk_passes (are_presented c.queue a) Code.InvalidArgs (add_presented s c a numbers) now looks first.0
    (walk_passes (are_add_arguments c.queue a) Code.InvalidArgument (add_allowed s c a numbers) now looks second.0
    (walk_passes (may_list_all s c.who a paths) Code.NotAllowed (add_looking s c a numbers) now looks third.0
    (subst DoneGiven (sym shown) done)))

present_done : (s : State) (c : Connection) (bytes : List ℕ) → (is_ended_path bytes && may_present c.who (ahead_of_end bytes)) ≡ true → nat_lt (length c.queue) s.limits.queued ≡ true → Done (present s c bytes)
present_done s c bytes h k =
    let path = ahead_of_end bytes in
    let both = both_true (is_ended_path bytes) (may_present c.who path) h in
    let queued = Does (record { state = with_queue c.seat (λ queue. queue ++ path ∷ []) s; answer = Answer.Place (length c.queue); makes = 0; exceeds = false }) in
    passes (is_ended_path bytes) Code.InvalidArgument (present_path s c path) both.0
    (passes (may_present c.who path) Code.NotAllowed (queue_path s c path) both.1
    (passes (nat_lt (length c.queue) s.limits.queued) Code.LimitsExceeded queued k refl))

lookup_done : (s : State) (who : Who) (bytes : List ℕ) → (is_host who && is_ended_path bytes) ≡ true → Done (lookup_document s who bytes)
lookup_done s (Who.App app) bytes h = cc
lookup_done s Who.Host bytes h = passes (is_ended_path bytes) Code.InvalidArgument (does s (Answer.Ids (text_of (first_of s.documents (ahead_of_end bytes)) ∷ []))) h refl

info_host : (s : State) (who : Who) (doc : List ℕ) → (is_host who && is_live (document_named s.documents doc)) ≡ true → Done (info s who doc)
info_host s (Who.App app) doc h = cc
info_host s Who.Host doc h = info_done s (document_named s.documents doc) h

list_done : (s : State) (who : Who) (app : List ℕ) → (is_host who && (is_same app [] || is_app_name app)) ≡ true → Done (list_documents s who app)
list_done s (Who.App caller) app h = cc
list_done s Who.Host app h = passes (is_same app [] || is_app_name app) Code.InvalidArgument (does s (Answer.Listed (documents_listed s app))) h refl

-- ---- the permission store

abbrev told_done : Outcome → Type 0
told_done (Ok done) = Unit {0}
told_done (Err NotFound) = ⊥
told_done (Err TooLong) = ⊥
told_done (Err Memory) = ⊥

answered_done : (s : State) (call : StoreCall) (answer : StoreAnswer) → Done (store_answered s call answer)
answered_done s call (StoreAnswer.Done change) = refl
answered_done s call StoreAnswer.Kept = refl
answered_done s call (StoreAnswer.Entry rows datum) = refl
answered_done s call (StoreAnswer.Names names) = refl

outcome_done : (s : State) (call : StoreCall) (outcome : Outcome) → told_done outcome → Done (store_verdict s call outcome)
outcome_done s call (Ok (es, answer)) h = answered_done (record s { entries = es }) call answer
outcome_done s call (Err NotFound) h = absurd h
outcome_done s call (Err TooLong) h = absurd h
outcome_done s call (Err Memory) h = absurd h

-- what the entry of the call becomes can be told
if_told : (b : Bool) (done : Outcome) → told_done done → not (store_too_long (cond b done (Err TooLong))) ≡ true → told_done (cond b done (Err TooLong))
if_told true done h k = h
if_told false done h k = cc

set_done : (o : Option StoredEntry) (new : StoredEntry → StoredEntry) (es : Entries) → is_some o ≡ true →
    not (store_too_long (with_entry o (λ e. becomes_if_told (new e) es))) ≡ true → told_done (with_entry o (λ e. becomes_if_told (new e) es))
set_done None new es h k = cc
set_done (Some e) new es h k = if_told (can_be_told (new e)) (becomes (new e) es) tt k

row_done : (b : Bool) (e f : StoredEntry) (es : Entries) → told_done (cond b (becomes f es) (Ok (es, StoreAnswer.Kept)))
row_done true e f es = tt
row_done false e f es = tt

there_done : (o : Option StoredEntry) (does : StoredEntry → Outcome) → ((e : StoredEntry) → told_done (does e)) → is_some o ≡ true → told_done (with_entry o does)
there_done None does f h = cc
there_done (Some e) does f h = f e

call_done : (es : Entries) (call : StoreCall) → has_entry_for es call ≡ true → not (store_too_long (store_call call es)) ≡ true → told_done (store_call call es)
call_done es (StoreCall.Lookup table id) h k = there_done (entry_of es table id) (λ e. Ok (es, StoreAnswer.Entry e.rows e.datum)) (λ e. tt) h
call_done es (StoreCall.Set table create id rows datum) h k = set_done (entry_to_set es create table id) (λ e. record e { rows = stored_rows rows; datum = datum }) es h k
call_done es (StoreCall.Delete table id) h k = there_done (entry_of es table id) (λ e. Ok (without_entry table id es, StoreAnswer.Done (change_of true e))) (λ e. tt) h
call_done es (StoreCall.SetValue table create id datum) h k = set_done (entry_to_set es create table id) (λ e. record e { datum = datum }) es h k
call_done es (StoreCall.SetPermission table create id app names) h k = set_done (entry_to_set es create table id) (with_permissions app names) es h k
call_done es (StoreCall.DeletePermission table id app) h k =
    there_done (entry_of es table id) (λ e. cond (has_row app e) (becomes (without_permissions app e) es) (Ok (es, StoreAnswer.Kept))) (λ e. row_done (has_row app e) e (without_permissions app e) es) h
call_done es (StoreCall.GetPermission table id app) h k = there_done (entry_of es table id) (λ e. Ok (es, StoreAnswer.Names (permissions_of e.rows app))) (λ e. tt) h
call_done es (StoreCall.List table) h k = tt

-- behind a test that must fail
fails_past : (b : Bool) (code : Code) (v : Verdict) → not b ≡ true → Done v → Done (unless b code v)
fails_past true code v e h = cc
fails_past false code v e h = h

store_done : (s : State) (who : Who) (call : StoreCall) → (is_host who && may_call s call) ≡ true → not (is_too_long_for s call) ≡ true → Done (store_request s who call)
store_done s (Who.App app) call h k = cc
store_done s Who.Host call h k =
    let first = both_true (are_store_arguments call) (not (is_same (table_of call) own_table) && has_entry_for s.entries call) h in
    let second = both_true (not (is_same (table_of call) own_table)) (has_entry_for s.entries call) first.1 in
    passes (are_store_arguments call) Code.InvalidArgument (store_allowed s call) first.0
    (fails_past (is_same (table_of call) own_table) Code.NotAllowed (store_verdict s call (store_call call s.entries)) second.0
    (outcome_done s call (store_call call s.entries) (call_done s.entries call second.1 k)))

walk_done : (s : State) (c : Connection) (request : Request) (numbers : List DocId) (looks : List Look) (now : ℕ) → ToldFor s request → is_allowed s c request ≡ true → has_place s c request ≡ true →
    Gives (files_told s) (bus_walk s c request numbers) looks false → DoneGiven (walked (bus_walk s c request numbers) now looks false)
walk_done s c (Request.Present path) numbers looks now t h k g = present_done s c path h k
walk_done s c (Request.Add a) numbers looks now t h k g =
    let told : files_told s ≡ Some (held_in s) = ap (λ (b : Bool). cond b (Some (held_in s)) None) t in
    add_done s c a numbers looks now h (subst (λ (tree : Option Held). Gives tree (add s c a numbers) looks false) told g)
walk_done s c (Request.Grant call) numbers looks now t h k g =
    let o = document_named s.documents call.doc in
    let both = both_true (are_rights_arguments call) (may_grant_in s c.who call o) h in
    passes (are_rights_arguments call) Code.InvalidArgument (grant_reached s c.who call (reached s c.who call.doc)) both.0 (grant_done s c.who call o both.1)
walk_done s c (Request.Revoke call) numbers looks now t h k g =
    let o = document_named s.documents call.doc in
    let both = both_true (are_rights_arguments call) (may_revoke_in s c.who call o) h in
    passes (are_rights_arguments call) Code.InvalidArgument (revoke_reached s c.who call (reached s c.who call.doc)) both.0 (revoke_done s c.who call o both.1)
walk_done s c (Request.DeleteDocument doc) numbers looks now t h k g = delete_done s c.who (document_named s.documents doc) h
walk_done s c (Request.LookupDocument path) numbers looks now t h k g = lookup_done s c.who path h
walk_done s c (Request.Info doc) numbers looks now t h k g = info_host s c.who doc h
walk_done s c (Request.ListDocuments app) numbers looks now t h k g = list_done s c.who app h
walk_done s c (Request.Store call) numbers looks now t h k g = store_done s c.who call h k
walk_done s c Request.Collect numbers looks now t h k g = refl
walk_done s c request numbers looks now t h k g = cc

settled_done : (s refused : State) (given : Given) (v : Option Verdict) → given.fault ≡ Fault.None → given.full ≡ false → DoneGiven v → is_refusal (settled s refused given v).1 ≡ false
settled_done s refused given None e f h = absurd h
settled_done s refused given (Some (Refuses code)) e f h = absurd h
settled_done s refused given (Some (Does d)) e f h =
    ap (λ (full : Bool). is_refusal (cond full (refused, Answer.Refused Code.LimitsExceeded) (kept s given.fault d)).1) f
    ∙ (ap (λ (fault : Fault). is_refusal (kept s fault d).1) e ∙ h)

pub bus-done : (s : State) (c : Connection) (request : Request) (given : Given) → ToldFor s request → is_allowed s c request ≡ true → has_place s c request ≡ true → LawfulBus s c request given → given.fault ≡ Fault.None → given.full ≡ false →
    is_refusal (answer_of_bus s c request given) ≡ false
bus-done s c request given t h k l e f =
    let w = bus_walk s c request given.numbers in
    let calm : is_tree given.fault ≡ false = ap is_tree e in
    let gives : Gives (files_told s) w given.looks false = subst (λ (failed : Bool). Gives (files_told s) w given.looks failed) calm l.looks in
    settled_done s (refused_state s c request) given (verdict_given w given) e f
    (subst (λ (failed : Bool). DoneGiven (walked w (moment_given given.now) given.looks failed)) (sym calm) (walk_done s c request given.numbers given.looks (moment_given given.now) t h k gives))
