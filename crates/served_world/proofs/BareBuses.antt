-- A request of a bus, in a view without what the tree has: it comes to the same, whatever is at the paths and whatever
-- contents are told with it.
use Rattle.std.proofs.Common.{◌≡◌, ℕ, nat_lt, List, [], ◌∷◌, ◌++◌, drop, fold, length, Bool, true, false, not, ◌||◌, cond, Option, Some, None, refl, sym, ap, ◌∙◌}
use Rattle.std.specs.List.{list_all}
use Rattle.std.specs.Option.{option_map}
use Rattle.portal_base.specs.Names.{doc_text, is_in_own_folder, is_same}
use Rattle.portal_base.specs.declared.files.Look.{Look}
use Rattle.portal_base.specs.declared.names.doc_id.DocId.{DocId}
use Rattle.rights_rule.specs.Rights.{RightSet, contains, rights_named}
use Rattle.portal_model.specs.declared.entry.Fault.{Fault}
use Rattle.portal_model.specs.declared.reply.Answer.{Answer}
use Rattle.portal_model.specs.declared.reply.Code.{Code}
use Rattle.portal_model.specs.declared.reply.Code.TheVariants as code
use Rattle.portal_model.specs.declared.request.AddRequest.{AddRequest}
use Rattle.portal_model.specs.declared.request.Request.{Request}
use Rattle.portal_model.specs.declared.request.RightsCall.{RightsCall}
use Rattle.portal_model.specs.declared.state.Document.{Document}
use Rattle.portal_model.specs.Add.{adding_rights, are_of_kind, first_number, new_document, used_again}
use Rattle.portal_model.specs.AddArguments.{are_add_arguments, are_presented, is_left_out, names_nobody, paths_shown}
use Rattle.portal_model.specs.Arguments.{ahead_of_end, is_ended_path}
use Rattle.portal_model.specs.Content.{NotThere}
use Rattle.portal_model.specs.Grant.{are_rights_arguments, may_grant}
use Rattle.portal_model.specs.Revoke.{may_revoke}
use Rattle.portal_model.specs.Walk.{Walk, looks_at_all, walked}
use Rattle.app_world.specs.Add.{OwnAdded, OwnFile, content_shown, own_add, own_add_allowed, own_add_file, own_add_presented, own_add_shown, own_added, own_added_files, own_again, own_call_files, own_may_list_all, own_rights_then, own_taken_from_queue, own_use_document, own_walk_unless}
use Rattle.app_world.specs.Bus.{own_bus_answer, own_bus_verdict, own_kept, own_refused_view, own_settled}
use Rattle.app_world.specs.DeleteDocument.{own_delete_reached}
use Rattle.app_world.specs.Effect.{Gained, Gone, apply}
use Rattle.app_world.specs.Grant.{own_grant_reached}
use Rattle.app_world.specs.Own.{Own}
use Rattle.app_world.specs.OwnVerdict.{OwnVerdict, OwnDoes, OwnRefuses, own_reached, own_unless}
use Rattle.app_world.specs.Present.{own_present, own_present_path, own_queue_path, own_with_queue}
use Rattle.app_world.specs.Revoke.{own_revoke_reached, own_revoked}
use Rattle.app_world.specs.View.{Alone, AppView, Below, HeldDocument, Holding, OwnConnection}
use Rattle.served_world.specs.ServedItem.{bare}

abbrev pub bare_answer : AppView × Answer → AppView × Answer
bare_answer done = (bare done.0, done.1)

abbrev bare_verdict : OwnVerdict → OwnVerdict
bare_verdict (OwnRefuses c) = OwnRefuses c
bare_verdict (OwnDoes v answer) = OwnDoes (bare v) answer

abbrev image : Option OwnVerdict → Option OwnVerdict
image o = option_map bare_verdict o

unless-same : (wrong : Bool) (c : Code) (x y : OwnVerdict) → bare_verdict x ≡ bare_verdict y → bare_verdict (own_unless wrong c x) ≡ bare_verdict (own_unless wrong c y)
unless-same true c x y e = refl
unless-same false c x y e = e

walk-unless-same : (wrong : Bool) (c : Code) (x y : Walk OwnVerdict) (now : ℕ) (looks : List Look) (failed : Bool) → image (walked x now looks failed) ≡ image (walked y now looks failed) →
    image (walked (own_walk_unless wrong c x) now looks failed) ≡ image (walked (own_walk_unless wrong c y) now looks failed)
walk-unless-same true c x y now looks failed e = refl
walk-unless-same false c x y now looks failed e = e

all-looks-same : (paths : List (List ℕ)) (next other : List Look → Walk OwnVerdict) (now : ℕ) (looks : List Look) (failed : Bool) →
    ((ls more : List Look) → image (walked (next ls) now more failed) ≡ image (walked (other ls) now more failed)) → image (walked (looks_at_all paths next) now looks failed) ≡ image (walked (looks_at_all paths other) now looks failed)
all-looks-same [] next other now looks failed h = h [] looks
all-looks-same (p ∷ ps) next other now [] failed h = refl
all-looks-same (p ∷ ps) next other now (l ∷ ls) failed h = all-looks-same ps (λ looks. next (l ∷ looks)) (λ looks. other (l ∷ looks)) now ls failed (λ xs. h (l ∷ xs))

-- ---- files that are added

abbrev bare_added : OwnAdded → OwnAdded
bare_added done = record done { view = bare done.view }

-- whatever there is for the document
gained-same : (x y : AppView) (d : Document) (rights : RightSet) (holding other : Holding) → bare x ≡ bare y → bare (apply x (Gained d rights holding)) ≡ bare (apply y (Gained d rights other))
gained-same x y d rights (Alone content) (Alone more) h = λ i. bare (apply (h i) (Gained d rights (Alone content)))
gained-same x y d rights (Alone content) (Below more) h = λ i. bare (apply (h i) (Gained d rights (Alone content)))
gained-same x y d rights (Below files) (Alone more) h = λ i. bare (apply (h i) (Gained d rights (Alone (NotThere false))))
gained-same x y d rights (Below files) (Below more) h = λ i. bare (apply (h i) (Gained d rights (Alone (NotThere false))))

module _ (a : AddRequest) (content other : List ℕ → Holding) where
  use-same : (path : List ℕ) (x y : OwnAdded) (o : Option DocId) → bare_added x ≡ bare_added y → bare_added (own_use_document a content path x o) ≡ bare_added (own_use_document a other path y o)
  use-same path x y (Some id) h =
      let view = gained-same x.view y.view (new_document a id path) (adding_rights a) (content path) (other path) (λ i. (h i).view) in
      λ i. record (h i) {
        view = view i;
        ids = (h i).ids ++ doc_text id.number ∷ [];
      }
  use-same path x y None h =
      let numbers : first_number x.numbers ≡ first_number y.numbers = λ i. first_number (h i).numbers in
      let view =
      gained-same x.view y.view (new_document a (first_number x.numbers) path) (adding_rights a) (content path) (other path) (λ i. (h i).view)
      ∙ ap (λ (id : DocId). bare (apply y.view (Gained (new_document a id path) (adding_rights a) (other path)))) numbers in
      λ i. record {
        view = view i;
        numbers = drop 1 (h i).numbers;
        ids = (h i).ids ++ doc_text (first_number (h i).numbers).number ∷ [];
        made = (h i).made ++ new_document a (first_number (h i).numbers) path ∷ [];
      }

  file-same : (f : OwnFile) (x y : OwnAdded) → bare_added x ≡ bare_added y → bare_added (own_add_file a content x f) ≡ bare_added (own_add_file a other y f)
  file-same f x y h = by_left (is_left_out a f.path)
    where
      by_left : (b : Bool) →
          bare_added (cond b (record x { ids = x.ids ++ [] ∷ [] }) (own_use_document a content f.path x (own_again f.again (used_again x.made a f.path))))
          ≡ bare_added (cond b (record y { ids = y.ids ++ [] ∷ [] }) (own_use_document a other f.path y (own_again f.again (used_again y.made a f.path))))
      by_left true = ap (λ (d : OwnAdded). record d { ids = d.ids ++ [] ∷ [] }) h
      by_left false =
          use-same f.path x y (own_again f.again (used_again x.made a f.path)) h
          ∙ ap (λ (d : OwnAdded). bare_added (own_use_document a other f.path y (own_again f.again (used_again d.made a f.path)))) h

  files-same : (fs : List OwnFile) (x y : OwnAdded) → bare_added x ≡ bare_added y → bare_added (fold (own_add_file a content) x fs) ≡ bare_added (fold (own_add_file a other) y fs)
  files-same [] x y h = h
  files-same (f ∷ fs) x y h = files-same fs (own_add_file a content x f) (own_add_file a other y f) (file-same f x y h)

-- ---- one request

-- it adds no file, and isn't one on a node
abbrev pub IsPlain : Request → Type 0
IsPlain (Request.Add a) = ⊥
IsPlain (Request.Node r) = ⊥
IsPlain request = Unit {0}

module _ (v : AppView) (c : OwnConnection) (own : Own) (more : List Holding) where
  abbrev b : AppView
  b = bare v

  -- other contents are shown
  abbrev told : Own
  told = record own { shown = more }

  taken-same : (a : AddRequest) → bare (own_taken_from_queue c a b) ≡ bare (own_taken_from_queue c a v)
  taken-same a = by_presented (are_presented c.queue a)
    where
      by_presented : (x : Bool) → bare (cond x (own_with_queue c.seat (drop a.fds) b) b) ≡ bare (cond x (own_with_queue c.seat (drop a.fds) v) v)
      by_presented true = refl
      by_presented false = refl

  queue_path-same : (path : List ℕ) → bare_verdict (own_queue_path b c path) ≡ bare_verdict (own_queue_path v c path)
  queue_path-same path =
      unless-same (not (nat_lt (length c.queue) v.queued)) code.LimitsExceeded
      (OwnDoes (own_with_queue c.seat (λ queue. queue ++ path ∷ []) b) (Answer.Place (length c.queue)))
      (OwnDoes (own_with_queue c.seat (λ queue. queue ++ path ∷ []) v) (Answer.Place (length c.queue))) refl

  present-same : (bytes : List ℕ) → bare_verdict (own_present b c bytes) ≡ bare_verdict (own_present v c bytes)
  present-same bytes =
      let path : List ℕ = ahead_of_end bytes in
      unless-same (not (is_ended_path bytes)) code.InvalidArgument (own_present_path b c path) (own_present_path v c path)
      (unless-same (not (is_in_own_folder c.app path)) code.NotAllowed (own_queue_path b c path) (own_queue_path v c path) (queue_path-same path))

  grant-same : (call : RightsCall) (o : Option HeldDocument) → bare_verdict (own_grant_reached b call o) ≡ bare_verdict (own_grant_reached v call o)
  grant-same call None = refl
  grant-same call (Some d) = unless-same (not (may_grant d.rights (rights_named call.names))) code.NotAllowed (OwnDoes b Answer.Done) (OwnDoes v Answer.Done) refl

  revoked-same : (call : RightsCall) (d : HeldDocument) (itself : Bool) → bare (own_revoked b call d itself) ≡ bare (own_revoked v call d itself)
  revoked-same call d true = refl
  revoked-same call d false = refl

  revoke-same : (call : RightsCall) (o : Option HeldDocument) → bare_verdict (own_revoke_reached c.app b call o) ≡ bare_verdict (own_revoke_reached c.app v call o)
  revoke-same call None = refl
  revoke-same call (Some d) =
      let itself : Bool = is_same c.app call.app in
      unless-same (not (may_revoke d.rights itself)) code.NotAllowed (OwnDoes (own_revoked b call d itself) Answer.Done) (OwnDoes (own_revoked v call d itself) Answer.Done) (λ i. OwnDoes (revoked-same call d (is_same c.app call.app) i) Answer.Done)

  delete-same : (o : Option HeldDocument) → bare_verdict (own_delete_reached b o) ≡ bare_verdict (own_delete_reached v o)
  delete-same None = refl
  delete-same (Some d) = unless-same (not d.rights.delete) code.NotAllowed (OwnDoes (apply b (Gone d.document.id)) Answer.Done) (OwnDoes (apply v (Gone d.document.id)) Answer.Done) refl

  then-same : (a : AddRequest) (o : Option DocId) → own_rights_then b a o ≡ own_rights_then v a o
  then-same a None = refl
  then-same a (Some id) = refl

  may-same : (a : AddRequest) (fs : List OwnFile) → own_may_list_all b a fs ≡ own_may_list_all v a fs
  may-same a fs = λ i. names_nobody a || list_all (λ (f : OwnFile). is_left_out a f.path || contains (then-same a f.again i) (rights_named a.names)) fs

  -- where nothing was added yet
  abbrev started : AddRequest → AppView → OwnAdded
  started a x = record { view = own_taken_from_queue c a x; numbers = own.numbers; ids = []; made = [] }

  added-same : (a : AddRequest) → bare_added (own_added_files b c a told) ≡ bare_added (own_added_files v c a own)
  added-same a =
      files-same a (content_shown (paths_shown c.queue a) more) (content_shown (paths_shown c.queue a) own.shown) (own_call_files c a own)
      (started a b) (started a v) (λ i. record (started a v) { view = taken-same a i })

  shown-same : (a : AddRequest) (now : ℕ) (failed : Bool) (ls looks : List Look) → image (walked (own_add_shown b c a told ls) now looks failed) ≡ image (walked (own_add_shown v c a own ls) now looks failed)
  shown-same a now failed ls looks = ap Some (unless-same (not (are_of_kind a (paths_shown c.queue a) ls)) code.InvalidArgument (own_added (own_added_files b c a told)) (own_added (own_added_files v c a own)) (ap (λ (d : OwnAdded). own_added d) (added-same a)))

  walk-same : (a : AddRequest) (now : ℕ) (looks : List Look) (failed : Bool) → image (walked (own_add b c a told) now looks failed) ≡ image (walked (own_add v c a own) now looks failed)
  walk-same a now looks failed =
      walk-unless-same (not (are_presented c.queue a)) code.InvalidArgs (own_add_presented b c a told) (own_add_presented v c a own) now looks failed
      (walk-unless-same (not (are_add_arguments c.queue a)) code.InvalidArgument (own_add_allowed b c a told) (own_add_allowed v c a own) now looks failed
      (ap (λ (x : Bool). image (walked (own_walk_unless (not x) code.NotAllowed (looks_at_all (paths_shown c.queue a) (own_add_shown b c a told))) now looks failed)) (may-same a (own_call_files c a own))
      ∙ walk-unless-same (not (own_may_list_all v a (own_call_files c a own))) code.NotAllowed (looks_at_all (paths_shown c.queue a) (own_add_shown b c a told)) (looks_at_all (paths_shown c.queue a) (own_add_shown v c a own)) now looks failed (all-looks-same (paths_shown c.queue a) (own_add_shown b c a told) (own_add_shown v c a own) now looks failed (shown-same a now failed))))

  kept-is : (x refused after : AppView) (answer : Answer) (full : Bool) (fault : Fault) →
      bare_answer (cond full (refused, Answer.Refused code.LimitsExceeded) (own_kept x fault after answer))
      ≡ cond full (bare refused, Answer.Refused code.LimitsExceeded) (own_kept (bare x) fault (bare after) answer)
  kept-is x refused after answer true fault = refl
  kept-is x refused after answer false Fault.None = refl
  kept-is x refused after answer false Fault.Tree = refl
  kept-is x refused after answer false Fault.Keeper = refl

  settled-is : (x refused : AppView) (o : Option OwnVerdict) → bare_answer (own_settled x refused own o) ≡ own_settled (bare x) (bare refused) own (image o)
  settled-is x refused None = refl
  settled-is x refused (Some (OwnRefuses c)) = refl
  settled-is x refused (Some (OwnDoes after answer)) = kept-is x refused after answer own.full own.fault

  settled-told : (x refused : AppView) (o : Option OwnVerdict) → own_settled x refused told o ≡ own_settled x refused own o
  settled-told x refused None = refl
  settled-told x refused (Some (OwnRefuses c)) = refl
  settled-told x refused (Some (OwnDoes after answer)) = refl

  settled-same : (refused other : AppView) (o p : Option OwnVerdict) → bare other ≡ bare refused → image p ≡ image o → bare_answer (own_settled b other told p) ≡ bare_answer (own_settled v refused own o)
  settled-same refused other o p r h =
      ap bare_answer (settled-told b other p)
      ∙ (settled-is b other p
      ∙ ((λ i. own_settled b (r i) own (h i)) ∙ sym (settled-is v refused o)))

  -- an Add, of which these looks succeed
  pub add-bare : (a : AddRequest) (now : ℕ) (looks : List Look) (failed : Bool) →
      bare_answer (own_settled b (own_taken_from_queue c a b) told (walked (own_add b c a told) now looks failed))
      ≡ bare_answer (own_settled v (own_taken_from_queue c a v) own (walked (own_add v c a own) now looks failed))
  add-bare a now looks failed = settled-same (own_taken_from_queue c a v) (own_taken_from_queue c a b) (walked (own_add v c a own) now looks failed) (walked (own_add b c a told) now looks failed) (taken-same a) (walk-same a now looks failed)

  -- every other request
  verdict-same : (request : Request) → IsPlain request → image (own_bus_verdict b c told request) ≡ image (own_bus_verdict v c own request)
  verdict-same (Request.Add a) h = absurd h
  verdict-same (Request.Present path) h = ap Some (present-same path)
  verdict-same (Request.Grant call) h = ap Some (unless-same (not (are_rights_arguments call)) code.InvalidArgument (own_grant_reached b call (own_reached v call.doc)) (own_grant_reached v call (own_reached v call.doc)) (grant-same call (own_reached v call.doc)))
  verdict-same (Request.Revoke call) h = ap Some (unless-same (not (are_rights_arguments call)) code.InvalidArgument (own_revoke_reached c.app b call (own_reached v call.doc)) (own_revoke_reached c.app v call (own_reached v call.doc)) (revoke-same call (own_reached v call.doc)))
  verdict-same (Request.DeleteDocument doc) h = ap Some (delete-same (own_reached v doc))
  verdict-same (Request.LookupDocument path) h = refl
  verdict-same (Request.Info doc) h = refl
  verdict-same (Request.ListDocuments app) h = refl
  verdict-same (Request.Store call) h = refl
  verdict-same (Request.Enter who kind) h = refl
  verdict-same Request.Leave h = refl
  verdict-same Request.Collect h = refl
  verdict-same (Request.Node r) h = absurd h

  refused-same : (request : Request) → IsPlain request → bare (own_refused_view b c request) ≡ bare (own_refused_view v c request)
  refused-same (Request.Add a) h = absurd h
  refused-same request h = refl

  pub answer-bare : (request : Request) → IsPlain request → bare_answer (own_bus_answer b c told request) ≡ bare_answer (own_bus_answer v c own request)
  answer-bare request h = settled-same (own_refused_view v c request) (own_refused_view b c request) (own_bus_verdict v c own request) (own_bus_verdict b c told request) (refused-same request h) (verdict-same request h)
