-- Which answers the requests on documents come to.
use Rattle.std.proofs.Common.{ℕ, not, nat_lt, List, [], ◌∷◌, ◌++◌, length, Option, Some, None}
use Rattle.std.specs.Prelude.{◌||◌}
use Rattle.portal_base.specs.Names.{is_app_name, is_same}
use Rattle.portal_base.specs.declared.names.doc_id.DocId.{DocId}
use Rattle.portal_base.specs.declared.who.Who.{Who}
use Rattle.rights_rule.specs.Rights.{rights_named}
use Rattle.portal_model.specs.declared.records.Row.{Row}
use Rattle.portal_model.specs.declared.reply.Answer.{Answer}
use Rattle.portal_model.specs.declared.reply.Answer.TheVariants as A
use Rattle.portal_model.specs.declared.reply.Code.TheVariants as Code
use Rattle.portal_model.specs.declared.reply.ListedDocument.{ListedDocument}
use Rattle.portal_model.specs.declared.request.AddRequest.{AddRequest}
use Rattle.portal_model.specs.declared.request.RightsCall.{RightsCall}
use Rattle.portal_model.specs.declared.state.Connection.{Connection}
use Rattle.portal_model.specs.declared.state.Document.{Document}
use Rattle.portal_model.specs.Add.{add, add_allowed, add_looking, add_presented, add_shown, added, added_files, are_of_kind, may_list_all}
use Rattle.portal_model.specs.AddArguments.{are_add_arguments, are_presented, document_paths, paths_shown}
use Rattle.portal_model.specs.Arguments.{ahead_of_end, document_named, is_ended_path, reached}
use Rattle.portal_model.specs.DeleteDocument.{delete_document, delete_reached, deleted}
use Rattle.portal_model.specs.Documents.{first_of}
use Rattle.portal_model.specs.Grant.{are_rights_arguments, grant, grant_reached, granted, may_grant}
use Rattle.portal_model.specs.Info.{info, info_of}
use Rattle.portal_model.specs.ListDocuments.{documents_listed, list_documents}
use Rattle.portal_model.specs.LookupDocument.{lookup_document, text_of}
use Rattle.portal_model.specs.Present.{may_present, present, present_path, queue_path, with_queue}
use Rattle.portal_model.specs.Revoke.{may_revoke, names_itself, revoke, revoke_reached, revoked}
use Rattle.portal_model.specs.Rights.{held_by}
use Rattle.portal_model.specs.State.{State}
use Rattle.portal_model.specs.Verdict.{Verdict, does}
use Rattle.call_laws.proofs.ReturnVerdicts.{OfVerdict, OfWalk, of_looks, of_unless, of_walk_unless}

module _ (P : Answer → Type 0) where
  pub of_present : (s : State) (c : Connection) (bytes : List ℕ) → ((place : ℕ) → P (A.Place place)) → OfVerdict P (present s c bytes)
  of_present s c bytes h =
      let path : List ℕ = ahead_of_end bytes in
      let place : Verdict = does (with_queue c.seat (λ queue. queue ++ path ∷ []) s) (A.Place (length c.queue)) in
      of_unless P (not (is_ended_path bytes)) Code.InvalidArgument (present_path s c path)
      (of_unless P (not (may_present c.who path)) Code.NotAllowed (queue_path s c path)
      (of_unless P (not (nat_lt (length c.queue) s.limits.queued)) Code.LimitsExceeded place (h (length c.queue))))

  -- ---- rights, and Delete

  reached_grant : (s : State) (who : Who) (call : RightsCall) (o : Option Document) → P A.Done → OfVerdict P (grant_reached s who call o)
  reached_grant s who call None h = tt
  reached_grant s who call (Some d) h = of_unless P (not (may_grant (held_by s.rights who d.id.number) (rights_named call.names))) Code.NotAllowed (granted s call d) h

  pub of_grant : (s : State) (who : Who) (call : RightsCall) → P A.Done → OfVerdict P (grant s who call)
  of_grant s who call h =
      of_unless P (not (are_rights_arguments call)) Code.InvalidArgument (grant_reached s who call (reached s who call.doc)) (reached_grant s who call (reached s who call.doc) h)

  reached_revoke : (s : State) (who : Who) (call : RightsCall) (o : Option Document) → P A.Done → OfVerdict P (revoke_reached s who call o)
  reached_revoke s who call None h = tt
  reached_revoke s who call (Some d) h =
      of_unless P (not (may_revoke (held_by s.rights who d.id.number) (names_itself who call.app))) Code.NotAllowed (does (revoked s call d) A.Done) h

  pub of_revoke : (s : State) (who : Who) (call : RightsCall) → P A.Done → OfVerdict P (revoke s who call)
  of_revoke s who call h =
      of_unless P (not (are_rights_arguments call)) Code.InvalidArgument (revoke_reached s who call (reached s who call.doc)) (reached_revoke s who call (reached s who call.doc) h)

  reached_delete : (s : State) (who : Who) (o : Option Document) → P A.Done → OfVerdict P (delete_reached s who o)
  reached_delete s who None h = tt
  reached_delete s who (Some d) h = of_unless P (not (held_by s.rights who d.id.number).delete) Code.NotAllowed (does (deleted s d.id.number) A.Done) h

  pub of_delete : (s : State) (who : Who) (doc : List ℕ) → P A.Done → OfVerdict P (delete_document s who doc)
  of_delete s who doc h = reached_delete s who (reached s who doc) h

  -- ---- Lookup, Info and List

  pub of_lookup : (s : State) (who : Who) (bytes : List ℕ) → ((ids : List (List ℕ)) → P (A.Ids ids)) → OfVerdict P (lookup_document s who bytes)
  of_lookup s (Who.App app) bytes h = tt
  of_lookup s Who.Host bytes h =
      let ids : List (List ℕ) = text_of (first_of s.documents (ahead_of_end bytes)) ∷ [] in
      of_unless P (not (is_ended_path bytes)) Code.InvalidArgument (does s (A.Ids ids)) (h ids)

  of_document : (s : State) (o : Option Document) → ((path : List ℕ) (rights : List Row) → P (A.Info path rights)) → OfVerdict P (info_of s o)
  of_document s None h = tt
  of_document s (Some d) h = h d.path _

  pub of_info : (s : State) (who : Who) (doc : List ℕ) → ((path : List ℕ) (rights : List Row) → P (A.Info path rights)) → OfVerdict P (info s who doc)
  of_info s (Who.App app) doc h = tt
  of_info s Who.Host doc h = of_document s (document_named s.documents doc) h

  pub of_list : (s : State) (who : Who) (app : List ℕ) → ((documents : List ListedDocument) → P (A.Listed documents)) → OfVerdict P (list_documents s who app)
  of_list s (Who.App caller) app h = tt
  of_list s Who.Host app h =
      of_unless P (not (is_same app [] || is_app_name app)) Code.InvalidArgument (does s (A.Listed (documents_listed s app))) (h (documents_listed s app))

  -- ---- additions

  pub of_add : (s : State) (c : Connection) (a : AddRequest) (numbers : List DocId) → ((ids : List (List ℕ)) → P (A.Ids ids)) → OfWalk P (add s c a numbers)
  of_add s c a numbers h =
      of_walk_unless P (not (are_presented c.queue a)) Code.InvalidArgs (add_presented s c a numbers)
      (of_walk_unless P (not (are_add_arguments c.queue a)) Code.InvalidArgument (add_allowed s c a numbers)
      (of_walk_unless P (not (may_list_all s c.who a (document_paths c.queue a))) Code.NotAllowed (add_looking s c a numbers)
      (of_looks P (paths_shown c.queue a) (add_shown s c a numbers)
      (λ looks. of_unless P (not (are_of_kind a (paths_shown c.queue a) looks)) Code.InvalidArgument (added s (added_files s c a numbers)) (h (added_files s c a numbers).ids)))))
