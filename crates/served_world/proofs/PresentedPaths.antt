-- What waits on the connections of an application lies in its own folder, and stays so: it presents nothing else.
use Rattle.std.proofs.Common.{◌≡◌, ℕ, zero, suc, ◌+◌, ◌==◌, nat_lt, List, [], ◌∷◌, ◌++◌, length, drop, fold, map, Bool, true, false, not, ◌&&◌, cond, Option, Some, None, refl, sym, ap, subst, ◌∙◌}
use Rattle.std.specs.List.{filter, list_all}
use Rattle.std.proofs.lemmas.List.Folds.{list_all-append}
use Rattle.portal_base.specs.Names.{is_in_own_folder, is_same}
use Rattle.portal_base.specs.declared.files.Look.{Look}
use Rattle.portal_base.specs.declared.names.doc_id.DocId.{DocId}
use Rattle.portal_base.specs.declared.who.Kind.{Kind}
use Rattle.portal_base.specs.declared.who.Who.{Who}
use Rattle.portal_model.specs.declared.entry.Entry.{Entry}
use Rattle.portal_model.specs.declared.entry.Fault.{Fault}
use Rattle.portal_model.specs.declared.handle.OpenHandle.{OpenHandle}
use Rattle.portal_model.specs.declared.reply.Answer.{Answer}
use Rattle.portal_model.specs.declared.reply.Code.{Code}
use Rattle.portal_model.specs.declared.reply.Code.TheVariants as code
use Rattle.portal_model.specs.declared.request.AddRequest.{AddRequest}
use Rattle.portal_model.specs.declared.request.Request.{Request}
use Rattle.portal_model.specs.declared.request.RightsCall.{RightsCall}
use Rattle.portal_model.specs.declared.state.Connection.{Connection}
use Rattle.portal_model.specs.Add.{adding_rights, are_of_kind, first_number, new_document, used_again}
use Rattle.portal_model.specs.AddArguments.{are_add_arguments, are_presented, is_left_out, paths_shown}
use Rattle.portal_model.specs.Arguments.{ahead_of_end, is_ended_path}
use Rattle.portal_model.specs.Bus.{is_tree, moment_given}
use Rattle.portal_model.specs.Grant.{are_rights_arguments, may_grant}
use Rattle.portal_model.specs.History.{makes}
use Rattle.portal_model.specs.Lawful.{Lawful}
use Rattle.portal_model.specs.NodeVerdict.{HandleChange, HandlesStay, Opens, Closes, NameChange, NamesStay, Names, Temps, NodeDoing, NodeVerdict, Errs, Yields}
use Rattle.portal_model.specs.Revoke.{may_revoke}
use Rattle.portal_model.specs.SeatNames.{added_after, temps_after, with_naming}
use Rattle.portal_model.specs.State.{State, is_app}
use Rattle.portal_model.specs.Step.{after, is_mount}
use Rattle.portal_model.specs.Valid.{Valid}
use Rattle.portal_model.specs.Walk.{Walk, Answers, looks_at_all, walked}
use Rattle.portal_model.proofs.DocumentChanges.{both, first_of_both, second_of_both}
use Rattle.rights_rule.specs.Rights.{rights_named}
use Rattle.app_world.specs.Add.{OwnAdded, OwnFile, content_shown, own_add, own_add_file, own_added_files, own_again, own_call_files, own_looks, own_may_list_all, own_taken_from_queue, own_use_document, own_walk_unless}
use Rattle.app_world.specs.Bus.{own_bus_step, own_bus_verdict, own_kept, own_refused_view, own_settled}
use Rattle.app_world.specs.DeleteDocument.{own_delete_reached}
use Rattle.app_world.specs.Effect.{Effect, Bytes, Gained, Gone, Lost, Turned, apply, apply_all}
use Rattle.app_world.specs.Enter.{own_entered}
use Rattle.app_world.specs.Grant.{own_grant_reached}
use Rattle.app_world.specs.Leave.{own_left}
use Rattle.app_world.specs.Node.{own_effects, own_temps_changed, next_own_handle, own_closed, own_connections_after, own_connections_named, own_connections_then, own_named, own_node_done, own_opened, own_settled_on_node, with_handles}
use Rattle.app_world.specs.Own.{Own}
use Rattle.app_world.specs.OwnVerdict.{OwnVerdict, OwnDoes, OwnRefuses, own_reached, own_unless}
use Rattle.app_world.specs.Present.{own_present, own_present_path, own_queue_path, own_requeued, own_with_queue}
use Rattle.app_world.specs.Revoke.{own_revoke_reached, own_revoked}
use Rattle.app_world.specs.View.{Alone, AppView, Below, HeldDocument, Holding, OwnConnection, found_connection, own_connection, prune, view}
use Rattle.app_world.specs.World.{own_bus, own_bus_of, own_collect_step, own_mount_of, touch}
use Rattle.app_world.proofs.WorldLaws.{steps}
use Rattle.served_world.specs.OwnPlaces.{PresentsItsOwn, waits_at_home}
use Rattle.served_world.specs.ServedItem.{bare}
use Rattle.served_world.specs.ServedOwn.{ServedOwn, served_own, told_own}
use Rattle.served_world.specs.ServedWorld.{served_node_step, served_request_step}
use Rattle.served_world.proofs.ServedSteps.{served_steps}

holds : (b : Bool) → not b ≡ false → b ≡ true
holds true e = refl
holds false e = cc

-- ---- what an effect leaves

applied : (v : AppView) (f : Effect) → (apply v f).connections ≡ v.connections
applied v (Gained d rights (Alone content)) = refl
applied v (Gained d rights (Below files)) = refl
applied v (Lost id rights) = refl
applied v (Gone id) = refl
applied v (Bytes path generation content) = refl
applied v (Turned path generation content) = refl

all-applied : (fs : List Effect) (v : AppView) → (apply_all v fs).connections ≡ v.connections
all-applied [] v = refl
all-applied (f ∷ fs) v = all-applied fs (apply v f) ∙ applied v f

module _ (app : List ℕ) where
  abbrev own : List ℕ → Bool
  own = is_in_own_folder app

  abbrev all_home : List OwnConnection → Bool
  all_home cs = list_all (waits_at_home app) cs

  abbrev Home : AppView → Type 0
  Home v = all_home v.connections ≡ true

  apply-home : (v : AppView) (f : Effect) → Home v → Home (apply v f)
  apply-home v f h = ap all_home (applied v f) ∙ h

  -- ---- connections that change

  same-queues : (f : OwnConnection → OwnConnection) → ((x : OwnConnection) → waits_at_home app (f x) ≡ waits_at_home app x) → (cs : List OwnConnection) → all_home (map f cs) ≡ all_home cs
  same-queues f e [] = refl
  same-queues f e (c ∷ cs) = λ i. e c i && same-queues f e cs i

  fewer-home : (p : OwnConnection → Bool) (cs : List OwnConnection) → all_home cs ≡ true → all_home (filter p cs) ≡ true
  fewer-home p [] h = refl
  fewer-home p (c ∷ cs) h = by_first (p c) (fewer-home p cs (second_of_both (waits_at_home app c) (all_home cs) h))
    where
      by_first : (b : Bool) → all_home (filter p cs) ≡ true → all_home (cond b (c ∷ filter p cs) (filter p cs)) ≡ true
      by_first true k = both (waits_at_home app c) (all_home (filter p cs)) (first_of_both (waits_at_home app c) (all_home cs) h) k
      by_first false k = k

  requeued-home : (seat : ℕ) (change : List (List ℕ) → List (List ℕ)) → ((queue : List (List ℕ)) → list_all own queue ≡ true → list_all own (change queue) ≡ true) → (cs : List OwnConnection) → all_home cs ≡ true →
      all_home (map (own_requeued seat change) cs) ≡ true
  requeued-home seat change k [] h = refl
  requeued-home seat change k (c ∷ cs) h =
      both (waits_at_home app (own_requeued seat change c)) (all_home (map (own_requeued seat change) cs))
      (by_seat (c.seat == seat) (first_of_both (waits_at_home app c) (all_home cs) h))
      (requeued-home seat change k cs (second_of_both (waits_at_home app c) (all_home cs) h))
    where
      by_seat : (b : Bool) → waits_at_home app c ≡ true → waits_at_home app (cond b (record c { queue = change c.queue }) c) ≡ true
      by_seat true g = k c.queue g
      by_seat false g = g

  fewer-own : (n : ℕ) (queue : List (List ℕ)) → list_all own queue ≡ true → list_all own (drop n queue) ≡ true
  fewer-own zero queue h = h
  fewer-own (suc n) [] h = refl
  fewer-own (suc n) (path ∷ queue) h = fewer-own n queue (second_of_both (own path) (list_all own queue) h)

  one-more : (path : List ℕ) → own path ≡ true → (queue : List (List ℕ)) → list_all own queue ≡ true → list_all own (queue ++ path ∷ []) ≡ true
  one-more path p queue h = list_all-append own queue (path ∷ []) ∙ both (list_all own queue) (own path && true) h (both (own path) true p refl)

  -- ---- a request on a node

  handles-home : (c : OwnConnection) (change : HandleChange) (cs : List OwnConnection) → all_home (own_connections_after c change cs) ≡ all_home cs
  handles-home c HandlesStay cs = refl
  handles-home c (Opens handle) cs =
      same-queues (own_opened c.seat (next_own_handle c handle))
      (λ x. elim (x.seat == c.seat) as (λ b. waits_at_home app (cond b (record x { opens = x.opens + 1; handles = x.handles ++ next_own_handle c handle ∷ [] }) x) ≡ waits_at_home app x) [ true ↦ refl | false ↦ refl ]) cs
  handles-home c (Closes fh) cs =
      same-queues (own_closed c.seat fh)
      (λ x. elim (x.seat == c.seat) as (λ b. waits_at_home app (cond b (record x { handles = filter (λ h. not (h.fh == fh)) x.handles }) x) ≡ waits_at_home app x) [ true ↦ refl | false ↦ refl ]) cs

  names-home : (c : OwnConnection) (change : NameChange) (cs : List OwnConnection) → all_home (own_connections_named c change cs) ≡ all_home cs
  names-home c NamesStay cs = refl
  names-home c (Names naming) cs =
      same-queues (own_named c.seat naming)
      (λ x. elim (x.seat == c.seat) as (λ b. waits_at_home app (cond b (record x { namings = with_naming x.namings naming }) x) ≡ waits_at_home app x) [ true ↦ refl | false ↦ refl ]) cs
  names-home c (Temps change) cs =
      same-queues (own_temps_changed c.seat change)
      (λ x. elim (x.seat == c.seat) as (λ b. waits_at_home app (cond b (record x { temps = temps_after change x.added x.temps; added = added_after change x.added }) x) ≡ waits_at_home app x) [ true ↦ refl | false ↦ refl ]) cs

  done-home : (v : AppView) (c : OwnConnection) (d : NodeDoing) → Home v → Home (own_node_done v c d)
  done-home v c d h =
      ap all_home (all-applied (own_effects v d.file) (prune (record (with_handles d.handle v) { connections = own_connections_then c d v.connections })))
      ∙ (names-home c d.names (own_connections_after c d.handle v.connections) ∙ (handles-home c d.handle v.connections ∙ h))

  verdict-home : (v : AppView) (c : OwnConnection) → Home v → (o : Option NodeVerdict) → Home (own_settled_on_node v c o).0
  verdict-home v c h None = h
  verdict-home v c h (Some (Errs errno)) = h
  verdict-home v c h (Some (Yields d)) = done-home v c d h

  -- ---- what a request of a bus comes to

  abbrev Kept : Option OwnVerdict → Type 0
  Kept None = Unit {0}
  Kept (Some (OwnRefuses c)) = Unit {0}
  Kept (Some (OwnDoes v answer)) = Home v

  settled-home : (v refused : AppView) (mine : Own) → Home v → Home refused → (o : Option OwnVerdict) → Kept o → Home (own_settled v refused mine o).0
  settled-home v refused mine h k None g = h
  settled-home v refused mine h k (Some (OwnRefuses c)) g = k
  settled-home v refused mine h k (Some (OwnDoes after answer)) g = by_limit mine.full mine.fault
    where
      by_limit : (full : Bool) (fault : Fault) → Home (cond full (refused, Answer.Refused code.LimitsExceeded) (own_kept v fault after answer)).0
      by_limit true fault = k
      by_limit false Fault.None = g
      by_limit false Fault.Tree = g
      by_limit false Fault.Keeper = h

  unless-home : (wrong : Bool) (c : Code) (x : OwnVerdict) → (wrong ≡ false → Kept (Some x)) → Kept (Some (own_unless wrong c x))
  unless-home true c x h = tt
  unless-home false c x h = h refl

  -- ---- a Present

  module _ (v : AppView) (c : OwnConnection) (h : Home v) where
    queued-home : (path : List ℕ) → own path ≡ true → Kept (Some (own_queue_path v c path))
    queued-home path p =
        unless-home (not (nat_lt (length c.queue) v.queued)) code.LimitsExceeded (OwnDoes (own_with_queue c.seat (λ (queue : List (List ℕ)). queue ++ path ∷ []) v) (Answer.Place (length c.queue))) (λ e. requeued-home c.seat (λ (queue : List (List ℕ)). queue ++ path ∷ []) (one-more path p) v.connections h)

    presented-home : c.app ≡ app → (bytes : List ℕ) → Kept (Some (own_present v c bytes))
    presented-home a bytes =
        unless-home (not (is_ended_path bytes)) code.InvalidArgument (own_present_path v c (ahead_of_end bytes)) (λ e.
        unless-home (not (is_in_own_folder c.app (ahead_of_end bytes))) code.NotAllowed (own_queue_path v c (ahead_of_end bytes)) (λ f.
        queued-home (ahead_of_end bytes) (subst (λ (name : List ℕ). is_in_own_folder name (ahead_of_end bytes) ≡ true) a (holds (is_in_own_folder c.app (ahead_of_end bytes)) f))))

    -- ---- an Add

    taken-home : (a : AddRequest) → Home (own_taken_from_queue c a v)
    taken-home a = by_call (are_presented c.queue a)
      where
        by_call : (b : Bool) → Home (cond b (record v { connections = map (own_requeued c.seat (drop a.fds)) v.connections }) v)
        by_call true = requeued-home c.seat (drop a.fds) (fewer-own a.fds) v.connections h
        by_call false = h

    use-home : (a : AddRequest) (content : List ℕ → Holding) (path : List ℕ) (done : OwnAdded) → Home done.view → (again : Option DocId) → Home (own_use_document a content path done again).view
    use-home a content path done k (Some id) = apply-home done.view (Gained (new_document a id path) (adding_rights a) (content path)) k
    use-home a content path done k None = apply-home done.view (Gained (new_document a (first_number done.numbers) path) (adding_rights a) (content path)) k

    file-home : (a : AddRequest) (content : List ℕ → Holding) (done : OwnAdded) (f : OwnFile) → Home done.view → Home (own_add_file a content done f).view
    file-home a content done f k = by_file (is_left_out a f.path)
      where
        by_file : (b : Bool) → Home (cond b (record done { ids = done.ids ++ [] ∷ [] }) (own_use_document a content f.path done (own_again f.again (used_again done.made a f.path)))).view
        by_file true = k
        by_file false = use-home a content f.path done k (own_again f.again (used_again done.made a f.path))

    files-home : (a : AddRequest) (content : List ℕ → Holding) (files : List OwnFile) (done : OwnAdded) → Home done.view → Home (fold (own_add_file a content) done files).view
    files-home a content [] done k = k
    files-home a content (f ∷ files) done k = files-home a content files (own_add_file a content done f) (file-home a content done f k)

    walk-unless-home : (wrong : Bool) (k : Code) (w : Walk OwnVerdict) (now : ℕ) (looks : List Look) (failed : Bool) → Kept (walked w now looks failed) → Kept (walked (own_walk_unless wrong k w) now looks failed)
    walk-unless-home true k w now looks failed g = tt
    walk-unless-home false k w now looks failed g = g

    looks-home : (paths : List (List ℕ)) (x : List Look → OwnVerdict) → ((looks : List Look) → Kept (Some (x looks))) → (now : ℕ) (looks : List Look) (failed : Bool) →
        Kept (walked (looks_at_all paths (λ (l : List Look). Answers (x l))) now looks failed)
    looks-home [] x g now looks failed = g []
    looks-home (path ∷ paths) x g now [] failed = tt
    looks-home (path ∷ paths) x g now (look ∷ looks) failed = looks-home paths (λ l. x (look ∷ l)) (λ l. g (look ∷ l)) now looks failed

    added-home : (a : AddRequest) (mine : Own) (now : ℕ) (looks : List Look) (failed : Bool) → Kept (walked (own_add v c a mine) now looks failed)
    added-home a mine now looks failed =
        let all : Home (own_added_files v c a mine).view = files-home a (content_shown (paths_shown c.queue a) mine.shown) (own_call_files c a mine) (record { view = own_taken_from_queue c a v; numbers = mine.numbers; ids = []; made = [] }) (taken-home a) in
        walk-unless-home (not (are_presented c.queue a)) code.InvalidArgs _ now looks failed
        (walk-unless-home (not (are_add_arguments c.queue a)) code.InvalidArgument _ now looks failed
        (walk-unless-home (not (own_may_list_all v a (own_call_files c a mine))) code.NotAllowed _ now looks failed
        (looks-home (paths_shown c.queue a) (λ l. own_unless (not (are_of_kind a (paths_shown c.queue a) l)) code.InvalidArgument (OwnDoes (own_added_files v c a mine).view (Answer.Ids (own_added_files v c a mine).ids)))
        (λ l. unless-home (not (are_of_kind a (paths_shown c.queue a) l)) code.InvalidArgument _ (λ e. all)) now looks failed)))

    -- ---- rights, and a document that goes

    granted-home : (call : RightsCall) (o : Option HeldDocument) → Kept (Some (own_grant_reached v call o))
    granted-home call None = tt
    granted-home call (Some d) = unless-home (not (may_grant d.rights (rights_named call.names))) code.NotAllowed _ (λ e. h)

    lost-home : (call : RightsCall) (d : HeldDocument) (itself : Bool) → Home (own_revoked v call d itself)
    lost-home call d true = apply-home v (Lost d.document.id (rights_named call.names)) h
    lost-home call d false = h

    revoked-home : (name : List ℕ) (call : RightsCall) (o : Option HeldDocument) → Kept (Some (own_revoke_reached name v call o))
    revoked-home name call None = tt
    revoked-home name call (Some d) =
        let itself : Bool = is_same name call.app in
        unless-home (not (may_revoke d.rights itself)) code.NotAllowed (OwnDoes (own_revoked v call d itself) Answer.Done) (λ e. lost-home call d itself)

    deleted-home : (o : Option HeldDocument) → Kept (Some (own_delete_reached v o))
    deleted-home None = tt
    deleted-home (Some d) = unless-home (not d.rights.delete) code.NotAllowed _ (λ e. apply-home v (Gone d.document.id) h)

    -- ---- each request of a bus

    bus-verdict-home : c.app ≡ app → (mine : Own) (request : Request) → Kept (own_bus_verdict v c mine request)
    bus-verdict-home a mine (Request.Present path) = presented-home a path
    bus-verdict-home a mine (Request.Add call) = added-home call mine (moment_given mine.now) (own_looks mine) (is_tree mine.fault)
    bus-verdict-home a mine (Request.Grant call) = unless-home (not (are_rights_arguments call)) code.InvalidArgument _ (λ e. granted-home call (own_reached v call.doc))
    bus-verdict-home a mine (Request.Revoke call) = unless-home (not (are_rights_arguments call)) code.InvalidArgument _ (λ e. revoked-home c.app call (own_reached v call.doc))
    bus-verdict-home a mine (Request.DeleteDocument doc) = deleted-home (own_reached v doc)
    bus-verdict-home a mine (Request.LookupDocument path) = tt
    bus-verdict-home a mine (Request.Info doc) = tt
    bus-verdict-home a mine (Request.ListDocuments name) = tt
    bus-verdict-home a mine (Request.Store call) = tt
    bus-verdict-home a mine (Request.Enter who kind) = h
    bus-verdict-home a mine Request.Leave = h
    bus-verdict-home a mine Request.Collect = h
    bus-verdict-home a mine (Request.Node r) = h

    refused-home : (request : Request) → Home (own_refused_view v c request)
    refused-home (Request.Add a) = taken-home a
    refused-home (Request.Present path) = h
    refused-home (Request.Grant call) = h
    refused-home (Request.Revoke call) = h
    refused-home (Request.DeleteDocument doc) = h
    refused-home (Request.LookupDocument path) = h
    refused-home (Request.Info doc) = h
    refused-home (Request.ListDocuments name) = h
    refused-home (Request.Store call) = h
    refused-home (Request.Enter who kind) = h
    refused-home Request.Leave = h
    refused-home Request.Collect = h
    refused-home (Request.Node r) = h

  -- ---- each request, on the connection of its seat

  module _ (v : AppView) (h : Home v) where
    bus-home : (mine : Own) (request : Request) (found : Option OwnConnection) → ((c : OwnConnection) → found ≡ Some c → c.app ≡ app) → Home (own_bus_step v mine request (own_bus_of found)).0
    bus-home mine request None a = h
    bus-home mine request (Some c) a = by_kind (is_mount c.kind)
      where
        by_kind : (b : Bool) → Home (own_bus_step v mine request (cond b None (Some c))).0
        by_kind true = h
        by_kind false = settled-home v (own_refused_view v c request) mine h (refused-home v c h request) (own_bus_verdict v c mine request) (bus-verdict-home v c h (a c refl) mine request)

    mount-home : (r : _) (mine : ServedOwn) (found : Option OwnConnection) → Home (served_node_step v r mine (own_mount_of found)).0
    mount-home r mine None = h
    mount-home r mine (Some c) = by_kind (is_mount c.kind)
      where
        by_kind : (b : Bool) → Home (served_node_step v r mine (cond b (Some c) None)).0
        by_kind true = verdict-home v c h _
        by_kind false = h

    collected-home : (o : Option OwnConnection) → Home (own_collect_step v o).0
    collected-home None = h
    collected-home (Some c) = h

    entered-home : (seat : ℕ) (who : Who) (kind : Kind) (o : Option OwnConnection) → all_home (own_entered seat who kind v.connections o) ≡ true
    entered-home seat Who.Host kind None = list_all-append (waits_at_home app) v.connections [] ∙ both (all_home v.connections) true h refl
    entered-home seat (Who.App name) kind None = list_all-append (waits_at_home app) v.connections _ ∙ both (all_home v.connections) true h refl
    entered-home seat who kind (Some c) = h

    left-home : (seat : ℕ) (o : Option OwnConnection) → all_home (own_left seat v.connections o) ≡ true
    left-home seat None = h
    left-home seat (Some c) = fewer-home (λ (x : OwnConnection). not (x.seat == seat)) v.connections h

    step-home : (mine : ServedOwn) → ((c : OwnConnection) → found_connection v.connections mine.seat ≡ Some c → c.app ≡ app) → (request : Request) → Home (served_request_step v mine request).0
    step-home mine a (Request.Node r) = mount-home r mine (found_connection v.connections mine.seat)
    step-home mine a (Request.Enter who kind) = entered-home mine.seat who kind (found_connection v.connections mine.seat)
    step-home mine a Request.Leave = left-home mine.seat (found_connection v.connections mine.seat)
    step-home mine a Request.Collect = collected-home (own_bus v (told_own mine))
    step-home mine a (Request.Present path) = bus-home (told_own mine) (Request.Present path) (found_connection v.connections mine.seat) a
    step-home mine a (Request.Add call) = bus-home (told_own mine) (Request.Add call) (found_connection v.connections mine.seat) a
    step-home mine a (Request.Grant call) = bus-home (told_own mine) (Request.Grant call) (found_connection v.connections mine.seat) a
    step-home mine a (Request.Revoke call) = bus-home (told_own mine) (Request.Revoke call) (found_connection v.connections mine.seat) a
    step-home mine a (Request.DeleteDocument doc) = bus-home (told_own mine) (Request.DeleteDocument doc) (found_connection v.connections mine.seat) a
    step-home mine a (Request.LookupDocument path) = bus-home (told_own mine) (Request.LookupDocument path) (found_connection v.connections mine.seat) a
    step-home mine a (Request.Info doc) = bus-home (told_own mine) (Request.Info doc) (found_connection v.connections mine.seat) a
    step-home mine a (Request.ListDocuments name) = bus-home (told_own mine) (Request.ListDocuments name) (found_connection v.connections mine.seat) a
    step-home mine a (Request.Store call) = bus-home (told_own mine) (Request.Store call) (found_connection v.connections mine.seat) a

  -- ---- an entry

  -- each connection of the view is the application's
  found-own : (hs : List OpenHandle) (seat : ℕ) (cs : List Connection) (c : OwnConnection) → found_connection (map (own_connection app hs) cs) seat ≡ Some c → c.app ≡ app
  found-own hs seat [] c e = cc
  found-own hs seat (x ∷ cs) c e = by_seat (x.seat == seat) e (found-own hs seat cs c)
    where
      by_seat : (b : Bool) → cond b (Some (own_connection app hs x)) (found_connection (map (own_connection app hs) cs) seat) ≡ Some c → (found_connection (map (own_connection app hs) cs) seat ≡ Some c → c.app ≡ app) → c.app ≡ app
      by_seat true f more =
          let same : c ≡ own_connection app hs x = cc in
          ap (λ (y : OwnConnection). y.app) same
      by_seat false f more = more f

  module _ (s : State) (e : Entry) (v : Valid s) (l : Lawful s e) (h : PresentsItsOwn app s) where
    own-home : makes app s e ≡ true → PresentsItsOwn app (after s e)
    own-home m =
        ap (λ (x : AppView). all_home x.connections) (sym (served_steps.own_view app s e v l m))
        ∙ step-home (bare (view s app)) h (served_own s e) (found-own s.handles e.seat (filter (λ (c : Connection). is_app app c.who) s.connections)) e.request

    other-home : makes app s e ≡ false → PresentsItsOwn app (after s e)
    other-home m =
        ap (λ (x : AppView). all_home x.connections) (sym (steps.other app s e v l m))
        ∙ (ap all_home (all-applied (touch app s e) (view s app)) ∙ h)

    by_maker : (b : Bool) → makes app s e ≡ b → PresentsItsOwn app (after s e)
    by_maker true m = own-home m
    by_maker false m = other-home m

    pub after-home : PresentsItsOwn app (after s e)
    after-home = by_maker (makes app s e) refl
