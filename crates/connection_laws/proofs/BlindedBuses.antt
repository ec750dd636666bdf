-- A request of a bus, to an application that is blind: what it comes to has bytes in the view after it alone.
use Rattle.std.proofs.Common.{◌≡◌, ℕ, nat_lt, List, [], ◌∷◌, ◌++◌, drop, fold, length, Bool, true, false, not, ◌||◌, cond, Option, Some, None, refl, sym, ap, ◌∙◌}
use Rattle.std.specs.List.{list_all}
use Rattle.std.specs.Option.{option_map}
use Rattle.portal_base.specs.Names.{is_in_own_folder, is_same}
use Rattle.portal_base.specs.declared.files.FileName.{FileName}
use Rattle.portal_base.specs.declared.files.Look.{Look}
use Rattle.portal_base.specs.declared.names.doc_id.DocId.{DocId}
use Rattle.rights_rule.specs.Rights.{contains, rights_named}
use Rattle.portal_model.specs.declared.entry.Fault.{Fault}
use Rattle.portal_model.specs.declared.reply.Answer.{Answer}
use Rattle.portal_model.specs.declared.reply.Code.{Code}
use Rattle.portal_model.specs.declared.reply.Code.TheVariants as code
use Rattle.portal_model.specs.declared.request.AddRequest.{AddRequest}
use Rattle.portal_model.specs.declared.request.Request.{Request}
use Rattle.portal_model.specs.declared.request.RightsCall.{RightsCall}
use Rattle.portal_model.specs.Add.{adding_rights, are_of_kind, first_number, new_document, used_again}
use Rattle.portal_model.specs.AddArguments.{are_add_arguments, are_presented, is_left_out, names_nobody, paths_shown}
use Rattle.portal_model.specs.Arguments.{ahead_of_end, is_ended_path}
use Rattle.portal_model.specs.Bus.{is_tree, moment_given}
use Rattle.portal_model.specs.Grant.{are_rights_arguments, may_grant}
use Rattle.portal_model.specs.Revoke.{may_revoke}
use Rattle.portal_model.specs.Walk.{Walk, looks_at_all, walked}
use Rattle.app_world.specs.Add.{OwnAdded, OwnFile, content_shown, own_add, own_add_allowed, own_add_file, own_add_presented, own_add_shown, own_added, own_added_files, own_again, own_call_files, own_looks, own_may_list_all, own_rights_then, own_taken_from_queue, own_use_document, own_walk_unless}
use Rattle.app_world.specs.Bus.{own_bus_answer, own_bus_verdict, own_kept, own_refused_view, own_settled}
use Rattle.app_world.specs.DeleteDocument.{own_delete_reached}
use Rattle.app_world.specs.Effect.{Gained, Gone, Lost, apply}
use Rattle.app_world.specs.Grant.{own_grant_reached}
use Rattle.app_world.specs.Own.{Own}
use Rattle.app_world.specs.OwnVerdict.{OwnVerdict, OwnDoes, OwnRefuses, own_reached, own_unless}
use Rattle.app_world.specs.Present.{own_present, own_present_path, own_queue_path, own_with_queue}
use Rattle.app_world.specs.Revoke.{own_revoke_reached, own_revoked}
use Rattle.app_world.specs.View.{AppView, HeldDocument, Holding, OwnConnection}
use Rattle.connection_laws.specs.Blinded.{blind_but}
use Rattle.connection_laws.proofs.BlindedViews.{apply-same, blind_holding, seen_pair, view-twice}

module _ (sees : FileName → Bool) where
  abbrev seen_verdict : OwnVerdict → OwnVerdict
  seen_verdict (OwnRefuses c) = OwnRefuses c
  seen_verdict (OwnDoes v answer) = OwnDoes (blind_but sees v) answer

  abbrev image : Option OwnVerdict → Option OwnVerdict
  image o = option_map seen_verdict o

  unless-same : (wrong : Bool) (c : Code) (x y : OwnVerdict) → seen_verdict x ≡ seen_verdict y → seen_verdict (own_unless wrong c x) ≡ seen_verdict (own_unless wrong c y)
  unless-same true c x y e = refl
  unless-same false c x y e = e

  walk-unless-same : (wrong : Bool) (c : Code) (x y : Walk OwnVerdict) (now : ℕ) (looks : List Look) (failed : Bool) → image (walked x now looks failed) ≡ image (walked y now looks failed) →
      image (walked (own_walk_unless wrong c x) now looks failed) ≡ image (walked (own_walk_unless wrong c y) now looks failed)
  walk-unless-same true c x y now looks failed e = refl
  walk-unless-same false c x y now looks failed e = e

  all-looks-same : (paths : List (List ℕ)) (next other : List Look → Walk OwnVerdict) (now : ℕ) (looks : List Look) (failed : Bool) →
      ((ls more : List Look) → image (walked (next ls) now more failed) ≡ image (walked (other ls) now more failed)) → image (walked (looks_at_all paths next) now looks failed) ≡ image (walked (looks_at_all paths other) now looks failed)
  all-looks-same [] next other now looks failed h = h [] looks
  all-looks-same (p ∷ ps) next other now [] failed h = refl
  all-looks-same (p ∷ ps) next other now (l ∷ ls) failed h = all-looks-same ps (λ looks. next (l ∷ looks)) (λ looks. other (l ∷ looks)) now ls failed (λ xs. h (l ∷ xs))

  -- ---- files that are added

  abbrev seen_added : OwnAdded → OwnAdded
  seen_added done = record done { view = blind_but sees done.view }

  module _ (a : AddRequest) (content other : List ℕ → Holding) (alike : (path : List ℕ) → blind_holding sees path (content path) ≡ blind_holding sees path (other path)) where
    use-same : (path : List ℕ) (x y : OwnAdded) (o : Option DocId) → seen_added x ≡ seen_added y → seen_added (own_use_document a content path x o) ≡ seen_added (own_use_document a other path y o)
    use-same path x y (Some id) h =
        let gained : blind_but sees (apply x.view (Gained (new_document a id path) (adding_rights a) (content path))) ≡ blind_but sees (apply y.view (Gained (new_document a id path) (adding_rights a) (other path))) =
        apply-same sees x.view y.view (Gained (new_document a id path) (adding_rights a) (content path)) (Gained (new_document a id path) (adding_rights a) (other path)) tt tt (ap (λ (d : OwnAdded). d.view) h) (ap (λ (c : Holding). Gained (new_document a id path) (adding_rights a) c) (alike path)) in
        λ i. record (own_use_document a content path (h i) (Some id)) { view = gained i }
    use-same path x y None h =
        let gained : blind_but sees (apply x.view (Gained (new_document a (first_number x.numbers) path) (adding_rights a) (content path))) ≡ blind_but sees (apply y.view (Gained (new_document a (first_number y.numbers) path) (adding_rights a) (other path))) =
        apply-same sees x.view y.view (Gained (new_document a (first_number x.numbers) path) (adding_rights a) (content path)) (Gained (new_document a (first_number y.numbers) path) (adding_rights a) (other path)) tt tt (ap (λ (d : OwnAdded). d.view) h) (λ i. Gained (new_document a (first_number (h i).numbers) path) (adding_rights a) (alike path i)) in
        λ i. record (own_use_document a content path (h i) None) { view = gained i }

    file-same : (f : OwnFile) (x y : OwnAdded) → seen_added x ≡ seen_added y → seen_added (own_add_file a content x f) ≡ seen_added (own_add_file a other y f)
    file-same f x y h = by_left (is_left_out a f.path)
      where
        by_left : (b : Bool) →
            seen_added (cond b (record x { ids = x.ids ++ [] ∷ [] }) (own_use_document a content f.path x (own_again f.again (used_again x.made a f.path))))
            ≡ seen_added (cond b (record y { ids = y.ids ++ [] ∷ [] }) (own_use_document a other f.path y (own_again f.again (used_again y.made a f.path))))
        by_left true = ap (λ (d : OwnAdded). record d { ids = d.ids ++ [] ∷ [] }) h
        by_left false =
            use-same f.path x y (own_again f.again (used_again x.made a f.path)) h
            ∙ ap (λ (d : OwnAdded). seen_added (own_use_document a other f.path y (own_again f.again (used_again d.made a f.path)))) h

    files-same : (fs : List OwnFile) (x y : OwnAdded) → seen_added x ≡ seen_added y → seen_added (fold (own_add_file a content) x fs) ≡ seen_added (fold (own_add_file a other) y fs)
    files-same [] x y h = h
    files-same (f ∷ fs) x y h = files-same fs (own_add_file a content x f) (own_add_file a other y f) (file-same f x y h)

  -- ---- one request

  module _ (v : AppView) (c : OwnConnection) (own : Own) (more : List Holding) where
    abbrev b : AppView
    b = blind_but sees v

    -- other contents are shown
    abbrev told : Own
    told = record own { shown = more }

    queue-same : (change : List (List ℕ) → List (List ℕ)) → blind_but sees (own_with_queue c.seat change b) ≡ blind_but sees (own_with_queue c.seat change v)
    queue-same change = ap (own_with_queue c.seat change) (view-twice sees v)

    taken-same : (a : AddRequest) → blind_but sees (own_taken_from_queue c a b) ≡ blind_but sees (own_taken_from_queue c a v)
    taken-same a = by_presented (are_presented c.queue a)
      where
        by_presented : (x : Bool) → blind_but sees (cond x (own_with_queue c.seat (drop a.fds) b) b) ≡ blind_but sees (cond x (own_with_queue c.seat (drop a.fds) v) v)
        by_presented true = queue-same (drop a.fds)
        by_presented false = view-twice sees v

    queue_path-same : (path : List ℕ) → seen_verdict (own_queue_path b c path) ≡ seen_verdict (own_queue_path v c path)
    queue_path-same path =
        unless-same (not (nat_lt (length c.queue) v.queued)) code.LimitsExceeded
        (OwnDoes (own_with_queue c.seat (λ queue. queue ++ path ∷ []) b) (Answer.Place (length c.queue)))
        (OwnDoes (own_with_queue c.seat (λ queue. queue ++ path ∷ []) v) (Answer.Place (length c.queue)))
        (λ i. OwnDoes (queue-same (λ queue. queue ++ path ∷ []) i) (Answer.Place (length c.queue)))

    present-same : (bytes : List ℕ) → seen_verdict (own_present b c bytes) ≡ seen_verdict (own_present v c bytes)
    present-same bytes =
        let path : List ℕ = ahead_of_end bytes in
        unless-same (not (is_ended_path bytes)) code.InvalidArgument (own_present_path b c path) (own_present_path v c path)
        (unless-same (not (is_in_own_folder c.app path)) code.NotAllowed (own_queue_path b c path) (own_queue_path v c path) (queue_path-same path))

    grant-same : (call : RightsCall) (o : Option HeldDocument) → seen_verdict (own_grant_reached b call o) ≡ seen_verdict (own_grant_reached v call o)
    grant-same call None = refl
    grant-same call (Some d) = unless-same (not (may_grant d.rights (rights_named call.names))) code.NotAllowed (OwnDoes b Answer.Done) (OwnDoes v Answer.Done) (λ i. OwnDoes (view-twice sees v i) Answer.Done)

    revoked-same : (call : RightsCall) (d : HeldDocument) (itself : Bool) → blind_but sees (own_revoked b call d itself) ≡ blind_but sees (own_revoked v call d itself)
    revoked-same call d true = apply-same sees b v (Lost d.document.id (rights_named call.names)) (Lost d.document.id (rights_named call.names)) tt tt (view-twice sees v) refl
    revoked-same call d false = view-twice sees v

    revoke-same : (call : RightsCall) (o : Option HeldDocument) → seen_verdict (own_revoke_reached c.app b call o) ≡ seen_verdict (own_revoke_reached c.app v call o)
    revoke-same call None = refl
    revoke-same call (Some d) =
        let itself : Bool = is_same c.app call.app in
        unless-same (not (may_revoke d.rights itself)) code.NotAllowed (OwnDoes (own_revoked b call d itself) Answer.Done) (OwnDoes (own_revoked v call d itself) Answer.Done) (λ i. OwnDoes (revoked-same call d (is_same c.app call.app) i) Answer.Done)

    delete-same : (o : Option HeldDocument) → seen_verdict (own_delete_reached b o) ≡ seen_verdict (own_delete_reached v o)
    delete-same None = refl
    delete-same (Some d) =
        unless-same (not d.rights.delete) code.NotAllowed (OwnDoes (apply b (Gone d.document.id)) Answer.Done) (OwnDoes (apply v (Gone d.document.id)) Answer.Done) (λ i. OwnDoes (apply-same sees b v (Gone d.document.id) (Gone d.document.id) tt tt (view-twice sees v) refl i) Answer.Done)

    then-same : (a : AddRequest) (o : Option DocId) → own_rights_then b a o ≡ own_rights_then v a o
    then-same a None = refl
    then-same a (Some id) = refl

    may-same : (a : AddRequest) (fs : List OwnFile) → own_may_list_all b a fs ≡ own_may_list_all v a fs
    may-same a fs = λ i. names_nobody a || list_all (λ (f : OwnFile). is_left_out a f.path || contains (then-same a f.again i) (rights_named a.names)) fs

    module _ (a : AddRequest) (alike : (path : List ℕ) → blind_holding sees path (content_shown (paths_shown c.queue a) more path) ≡ blind_holding sees path (content_shown (paths_shown c.queue a) own.shown path))
        (looks-same : own_looks told ≡ own_looks own) where
      -- where nothing was added yet
      abbrev started : AppView → OwnAdded
      started x = record { view = own_taken_from_queue c a x; numbers = own.numbers; ids = []; made = [] }

      added-same : seen_added (own_added_files b c a told) ≡ seen_added (own_added_files v c a own)
      added-same =
          files-same a (content_shown (paths_shown c.queue a) more) (content_shown (paths_shown c.queue a) own.shown) alike (own_call_files c a own)
          (started b) (started v) (λ i. record (started v) { view = taken-same a i })

      shown-same : (now : ℕ) (failed : Bool) (ls looks : List Look) → image (walked (own_add_shown b c a told ls) now looks failed) ≡ image (walked (own_add_shown v c a own ls) now looks failed)
      shown-same now failed ls looks = ap Some (unless-same (not (are_of_kind a (paths_shown c.queue a) ls)) code.InvalidArgument (own_added (own_added_files b c a told)) (own_added (own_added_files v c a own)) (ap (λ (d : OwnAdded). own_added d) added-same))

      walk-same : (now : ℕ) (looks : List Look) (failed : Bool) → image (walked (own_add b c a told) now looks failed) ≡ image (walked (own_add v c a own) now looks failed)
      walk-same now looks failed =
          walk-unless-same (not (are_presented c.queue a)) code.InvalidArgs (own_add_presented b c a told) (own_add_presented v c a own) now looks failed
          (walk-unless-same (not (are_add_arguments c.queue a)) code.InvalidArgument (own_add_allowed b c a told) (own_add_allowed v c a own) now looks failed
          (ap (λ (x : Bool). image (walked (own_walk_unless (not x) code.NotAllowed (looks_at_all (paths_shown c.queue a) (own_add_shown b c a told))) now looks failed)) (may-same a (own_call_files c a own))
          ∙ walk-unless-same (not (own_may_list_all v a (own_call_files c a own))) code.NotAllowed (looks_at_all (paths_shown c.queue a) (own_add_shown b c a told)) (looks_at_all (paths_shown c.queue a) (own_add_shown v c a own)) now looks failed (all-looks-same (paths_shown c.queue a) (own_add_shown b c a told) (own_add_shown v c a own) now looks failed (shown-same now failed))))

      add-same : image (own_bus_verdict b c told (Request.Add a)) ≡ image (own_bus_verdict v c own (Request.Add a))
      add-same =
          ap (λ (ls : List Look). image (walked (own_add b c a told) (moment_given own.now) ls (is_tree own.fault))) looks-same
          ∙ walk-same (moment_given own.now) (own_looks own) (is_tree own.fault)

    -- what is shown is as much of this
    abbrev pub ShownAlike : Request → Type 0
    ShownAlike (Request.Add a) =
        ((path : List ℕ) → blind_holding sees path (content_shown (paths_shown c.queue a) more path) ≡ blind_holding sees path (content_shown (paths_shown c.queue a) own.shown path))
        × (own_looks told ≡ own_looks own)
    ShownAlike request = Unit {0}

    verdict-same : (request : Request) → ShownAlike request → image (own_bus_verdict b c told request) ≡ image (own_bus_verdict v c own request)
    verdict-same (Request.Add a) h = add-same a h.0 h.1
    verdict-same (Request.Present path) h = ap Some (present-same path)
    verdict-same (Request.Grant call) h = ap Some (unless-same (not (are_rights_arguments call)) code.InvalidArgument (own_grant_reached b call (own_reached v call.doc)) (own_grant_reached v call (own_reached v call.doc)) (grant-same call (own_reached v call.doc)))
    verdict-same (Request.Revoke call) h = ap Some (unless-same (not (are_rights_arguments call)) code.InvalidArgument (own_revoke_reached c.app b call (own_reached v call.doc)) (own_revoke_reached c.app v call (own_reached v call.doc)) (revoke-same call (own_reached v call.doc)))
    verdict-same (Request.DeleteDocument doc) h = ap Some (delete-same (own_reached v doc))
    verdict-same (Request.LookupDocument path) h = refl
    verdict-same (Request.Info doc) h = refl
    verdict-same (Request.ListDocuments app) h = refl
    verdict-same (Request.Store call) h = refl
    verdict-same (Request.Enter who kind) h = λ i. Some (OwnDoes (view-twice sees v i) Answer.Done)
    verdict-same Request.Leave h = λ i. Some (OwnDoes (view-twice sees v i) Answer.Done)
    verdict-same Request.Collect h = λ i. Some (OwnDoes (view-twice sees v i) Answer.Done)
    verdict-same (Request.Node r) h = λ i. Some (OwnDoes (view-twice sees v i) Answer.Done)

    refused-same : (request : Request) → blind_but sees (own_refused_view b c request) ≡ blind_but sees (own_refused_view v c request)
    refused-same (Request.Add a) = taken-same a
    refused-same request = view-twice sees v

    kept-is : (x refused after : AppView) (answer : Answer) (full : Bool) (fault : Fault) →
        seen_pair sees (cond full (refused, Answer.Refused code.LimitsExceeded) (own_kept x fault after answer))
        ≡ cond full (blind_but sees refused, Answer.Refused code.LimitsExceeded) (own_kept (blind_but sees x) fault (blind_but sees after) answer)
    kept-is x refused after answer true fault = refl
    kept-is x refused after answer false Fault.None = refl
    kept-is x refused after answer false Fault.Tree = refl
    kept-is x refused after answer false Fault.Keeper = refl

    settled-is : (x refused : AppView) (o : Option OwnVerdict) → seen_pair sees (own_settled x refused own o) ≡ own_settled (blind_but sees x) (blind_but sees refused) own (image o)
    settled-is x refused None = refl
    settled-is x refused (Some (OwnRefuses c)) = refl
    settled-is x refused (Some (OwnDoes after answer)) = kept-is x refused after answer own.full own.fault

    settled-told : (x refused : AppView) (o : Option OwnVerdict) → own_settled x refused told o ≡ own_settled x refused own o
    settled-told x refused None = refl
    settled-told x refused (Some (OwnRefuses c)) = refl
    settled-told x refused (Some (OwnDoes after answer)) = refl

    pub answer-same : (request : Request) → ShownAlike request → seen_pair sees (own_bus_answer b c told request) ≡ seen_pair sees (own_bus_answer v c own request)
    answer-same request h =
        ap (seen_pair sees) (settled-told b (own_refused_view b c request) (own_bus_verdict b c told request))
        ∙ (settled-is b (own_refused_view b c request) (own_bus_verdict b c told request)
        ∙ ((λ i. own_settled (view-twice sees v i) (refused-same request i) own (verdict-same request h i))
        ∙ sym (settled-is v (own_refused_view v c request) (own_bus_verdict v c own request))))
