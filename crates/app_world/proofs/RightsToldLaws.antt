-- The rights of an application in a document are those that a history tells.
use Rattle.std.proofs.Common.{◌≡◌, ℕ, ◌^◌, ◌<◌, ◌==◌, nat_lt, List, [], ◌∷◌, ◌++◌, drop, fold, length, Bool, true, false, not, ◌&&◌, ◌||◌, cond, Option, Some, None, Ok, Err, refl, sym, ap, ◌∙◌, arith}
use Rattle.std.specs.List.{filter, find, list_all}
use Rattle.std.proofs.lemmas.Bool.Decides.{nat_tests}
use Rattle.std.proofs.lemmas.List.Folds.{list_all-append}
use Rattle.std.proofs.lemmas.List.Sums.{fold-append}
use Rattle.portal_base.specs.DocIds.{doc_id_of}
use Rattle.portal_base.specs.Names.{doc_text, hex_number, is_app_name, is_doc_id, is_same}
use Rattle.portal_base.specs.declared.names.doc_id.DocId.{DocId}
use Rattle.portal_base.specs.declared.who.Who.{Who}
use Rattle.portal_base.proofs.DocIdDigits.{digits_again, doc_text-digits}
use Rattle.rights_rule.specs.Rights.{RightSet, minus, no_rights, rights_named, union}
use Rattle.portal_model.specs.declared.entry.Entry.{Entry}
use Rattle.portal_model.specs.declared.entry.Fault.{Fault}
use Rattle.portal_model.specs.declared.entry.Given.{Given}
use Rattle.portal_model.specs.declared.reply.Answer.{Answer}
use Rattle.portal_model.specs.declared.reply.Code.{Code}
use Rattle.portal_model.specs.declared.request.AddRequest.{AddRequest}
use Rattle.portal_model.specs.declared.request.NodeRequest.{NodeRequest}
use Rattle.portal_model.specs.declared.request.Request.{Request}
use Rattle.portal_model.specs.declared.request.RightsCall.{RightsCall}
use Rattle.portal_model.specs.declared.rights.Right.{Right}
use Rattle.portal_model.specs.declared.rights.Right.TheVariants.{Read, Write, GrantPermissions, Delete}
use Rattle.portal_model.specs.declared.state.Connection.{Connection}
use Rattle.portal_model.specs.declared.state.Document.{Document}
use Rattle.portal_model.specs.declared.state.Triple.{Triple}
use Rattle.portal_model.specs.declared.store.StoreAnswer.{StoreAnswer}
use Rattle.portal_model.specs.declared.store.StoreCall.{StoreCall}
use Rattle.portal_model.specs.declared.store.StoredEntry.{StoredEntry}
use Rattle.portal_model.specs.Add.{Added, add, add_allowed, add_file, add_looking, add_presented, add_shown, added, added_files, adding_rights, are_of_kind, caller_rights, first_number, may_list_all, new_document, taken_from_queue, use_document, used_again, with_new_document, with_rights_of}
use Rattle.portal_model.specs.AddArguments.{are_add_arguments, are_presented, document_paths, exports, is_left_out, makes_strict, names_nobody, paths_shown, persists}
use Rattle.portal_model.specs.Arguments.{ahead_of_end, document_named, is_ended_path, reached}
use Rattle.portal_model.specs.Bus.{bus_answer, bus_walk, is_tree, kept, moment_given, refused_state, settled, verdict_given}
use Rattle.portal_model.specs.DeleteDocument.{delete_reached, deleted}
use Rattle.portal_model.specs.Documents.{first_of, serves}
use Rattle.portal_model.specs.Grant.{are_rights_arguments, grant, grant_reached, granted, may_grant}
use Rattle.portal_model.specs.History.{EachLawful, maker, run}
use Rattle.portal_model.specs.Info.{info, info_of}
use Rattle.portal_model.specs.Lawful.{Lawful, LawfulGiven, LawfulOnBus}
use Rattle.portal_model.specs.ListDocuments.{documents_listed, list_documents}
use Rattle.portal_model.specs.LookupDocument.{lookup_document, text_of}
use Rattle.portal_model.specs.Outside.{AreDrawn}
use Rattle.portal_model.specs.Present.{may_present, present, present_path, queue_path, with_queue}
use Rattle.portal_model.specs.Revoke.{may_revoke, names_itself, revoke, revoke_reached, revoked}
use Rattle.portal_model.specs.Rights.{forget_document, held_by, is_in}
use Rattle.portal_model.specs.State.{State, app_has, connection_of, document_of, held_of, is_app}
use Rattle.portal_model.specs.Node.{node_done, node_given, settled_on_node, walk_on_node}
use Rattle.portal_model.specs.NodeVerdict.{NodeDoing, NodeVerdict, Errs, Yields}
use Rattle.portal_model.specs.Step.{after, all_told, bus_of, bus_step, collect_step, is_mount, mount_of, node_step, reply_at, request_step}
use Rattle.portal_model.specs.Store.{Outcome, entry_of, store_call}
use Rattle.portal_model.specs.StoreRequest.{are_store_arguments, identifier_of, own_table, store_allowed, store_answered, store_request, store_verdict, table_of, tell_kept}
use Rattle.portal_model.specs.Valid.{has_identifier}
use Rattle.portal_model.specs.Verdict.{Doing, Verdict, Refuses, Does, does, unless}
use Rattle.portal_model.proofs.WalkDoings.{IfDoes, IfGiven, OnWalk, if-passes, on-looks, on-walked, walk-passes}
use Rattle.portal_model.proofs.ListLookups.{found_passes, nat_is}
use Rattle.portal_model.proofs.TripleOrder.{is_same-sym}
use Rattle.app_world.specs.Add.{names_app}
use Rattle.app_world.specs.RightsTold.{RightsAreTold, gives_at, gives_rights, identifies, is_given_in, more_if, rights_told, told_by, told_by_file, told_if_done}
use Rattle.app_world.specs.Touched.{is_done}
use Rattle.app_world.proofs.AddLaws.{Again, again-is, rights-keep}
use Rattle.app_world.proofs.HeldLaws.{held-add, held-forget, held-take, same-rights}
use Rattle.app_world.proofs.ReachedLaws.{reached-named}
use Rattle.app_world.proofs.UseLaws.{listed-is}

-- ---- identifiers

read-as : (t : List ℕ) (n m : ℕ) → doc_id_of t ≡ Some (record { number = n }) → identifies t m ≡ (n == m)
unfolding doc_id_of
read-as t n m e = by_form (is_doc_id t) e
  where
    by_form : (b : Bool) → cond {A = Option DocId} b (Some (record { number = hex_number t })) None ≡ Some (record { number = n }) → (b && hex_number t == m) ≡ (n == m)
    by_form true f =
        let read : DocId = record { number = hex_number t } in
        let id : DocId = record { number = n } in
        let same : read ≡ id = cc in
        ap (λ (x : DocId). x.number == m) same
    by_form false f = cc

-- the text of a number of 32 bits identifies it alone
identifies-text : (n m : ℕ) → nat_lt n (2 ^ 32) ≡ true → identifies (doc_text n) m ≡ (n == m)
identifies-text n m e =
    let l : n < 2 ^ 32 = grind (arith, nat_tests) in
    read-as (doc_text n) n m (ap doc_id_of (sym (doc_text-digits n)) ∙ digits_again n l)

identifies-nothing : (m : ℕ) → identifies [] m ≡ false
unfolding is_doc_id
identifies-nothing m = refl

-- a document that a text names is the one that it identifies
named-as : (documents : List Document) (doc : List ℕ) (d : Document) (m : ℕ) → document_named documents doc ≡ Some d → identifies doc m ≡ (d.id.number == m)
named-as documents doc d m e = by_form (is_doc_id doc) e
  where
    by_form : (b : Bool) → cond b (document_of documents (hex_number doc)) None ≡ Some d → (b && hex_number doc == m) ≡ (d.id.number == m)
    by_form true f = ap (λ (k : ℕ). k == m) (sym (nat_is d.id.number (hex_number doc) (found_passes (λ (x : Document). x.id.number == hex_number doc) documents d f)))
    by_form false f = cc

reached-as : (s : State) (who : Who) (doc : List ℕ) (d : Document) (m : ℕ) → reached s who doc ≡ Some d → identifies doc m ≡ (d.id.number == m)
reached-as s who doc d m e = named-as s.documents doc d m (reached-named s who doc d e)

-- ---- documents that have identifiers

abbrev pub are_identified : State → Bool
are_identified s = list_all has_identifier s.documents

all-found : (p q : Document → Bool) (ds : List Document) (d : Document) → list_all q ds ≡ true → find p ds ≡ Some d → q d ≡ true
all-found p q [] d h e = cc
all-found p q (x ∷ xs) d h e = by_first (p x) e (all-found p q xs d)
  where
    by_first : (b : Bool) → cond b (Some x) (find p xs) ≡ Some d → (list_all q xs ≡ true → find p xs ≡ Some d → q d ≡ true) → q d ≡ true
    by_first true f more = let same : x ≡ d = cc in ap q (sym same) ∙ (let one : q x ≡ true = grind arith in one)
    by_first false f more = let rest : list_all q xs ≡ true = grind arith in more rest f

all-filter : (p q : Document → Bool) (ds : List Document) → list_all q ds ≡ true → list_all q (filter p ds) ≡ true
all-filter p q [] h = refl
all-filter p q (d ∷ ds) h = grind (arith, all-filter p q ds)

all-last : (q : Document → Bool) (ds : List Document) (d : Document) → list_all q ds ≡ true → q d ≡ true → list_all q (ds ++ d ∷ []) ≡ true
all-last q ds d h e = list_all-append q ds (d ∷ []) ∙ (let one : (q d && true) ≡ true = grind arith in λ i. h i && one i)

-- numbers that may be drawn
abbrev are_short : List DocId → Bool
are_short ns = list_all (λ (n : DocId). nat_lt n.number (2 ^ 32)) ns

drawn-short : (made : List DocId) (words : List ℕ) (ns : List DocId) → AreDrawn made words ns → are_short ns ≡ true
drawn-short made [] [] d = refl
drawn-short made [] (n ∷ ns) d = absurd d
drawn-short made (w ∷ words) [] d = absurd d
drawn-short made (w ∷ words) (n ∷ ns) d =
    let one : nat_lt n.number (2 ^ 32) ≡ true = (let l : n.number < 2 ^ 32 = d.1 in grind (arith, nat_tests)) in
    λ i. one i && drawn-short (made ++ n ∷ []) words ns d.3 i

first-short : (ns : List DocId) → are_short ns ≡ true → nat_lt (first_number ns).number (2 ^ 32) ≡ true
first-short [] h = refl
first-short (n ∷ ns) h = grind arith

rest-short : (ns : List DocId) → are_short ns ≡ true → are_short (drop 1 ns) ≡ true
rest-short [] h = refl
rest-short (n ∷ ns) h = let rest : are_short ns ≡ true = grind arith in rest

-- ---- of a request that is done

-- it is answered so, its answer tells the rights, and each document has an identifier
pub record Tells (app : List ℕ) (number : ℕ) (who : Who) (request : Request) (s : State) (d : Doing) : Type 0 where
  pub answered : is_done d.answer ≡ true
  pub rights : held_of d.state.rights app number ≡ told_by app number who request d.answer (held_of s.rights app number)
  pub identified : are_identified d.state ≡ true

module _ (app : List ℕ) (number : ℕ) (s : State) (identified : are_identified s ≡ true) where
  abbrev held : RightSet
  held = held_of s.rights app number

  -- ---- rights that are given, taken and forgotten

  grant_reached-tells : (who : Who) (call : RightsCall) (o : Option Document) → reached s who call.doc ≡ o → IfDoes (Tells app number who (Request.Grant call) s) (grant_reached s who call o)
  grant_reached-tells who call None e = tt
  grant_reached-tells who call (Some d) e =
      if-passes (Tells app number who (Request.Grant call) s) (may_grant (held_by s.rights who d.id.number) (rights_named call.names)) Code.NotAllowed (granted s call d) (λ may. record {
        answered = refl;
        rights = held-add app number call.app d.id (rights_named call.names) s.rights ∙ ap (λ (b : Bool). cond (b && is_same call.app app) (union held (rights_named call.names)) held) (sym (reached-as s who call.doc d number e));
        identified = identified;
      })

  grant-tells : (who : Who) (call : RightsCall) → IfDoes (Tells app number who (Request.Grant call) s) (grant s who call)
  grant-tells who call = if-passes (Tells app number who (Request.Grant call) s) (are_rights_arguments call) Code.InvalidArgument (grant_reached s who call (reached s who call.doc)) (λ fine. grant_reached-tells who call (reached s who call.doc) refl)

  turned : (a b : ℕ) → (a == b) ≡ (b == a)
  turned a b = grind (arith, nat_tests)

  revoke_reached-tells : (who : Who) (call : RightsCall) (o : Option Document) → reached s who call.doc ≡ o → IfDoes (Tells app number who (Request.Revoke call) s) (revoke_reached s who call o)
  revoke_reached-tells who call None e = tt
  revoke_reached-tells who call (Some d) e =
      if-passes (Tells app number who (Request.Revoke call) s) (may_revoke (held_by s.rights who d.id.number) (names_itself who call.app)) Code.NotAllowed (does (revoked s call d) Answer.Done) (λ may. record {
        answered = refl;
        rights =
            held-take app number call.app d.id.number (rights_named call.names) s.rights
            ∙ (λ i. cond ((turned number d.id.number ∙ sym (reached-as s who call.doc d number e)) i && is_same-sym app call.app i) (minus held (rights_named call.names)) held);
        identified = identified;
      })

  revoke-tells : (who : Who) (call : RightsCall) → IfDoes (Tells app number who (Request.Revoke call) s) (revoke s who call)
  revoke-tells who call = if-passes (Tells app number who (Request.Revoke call) s) (are_rights_arguments call) Code.InvalidArgument (revoke_reached s who call (reached s who call.doc)) (λ fine. revoke_reached-tells who call (reached s who call.doc) refl)

  gone-none : (gone : ℕ) (right : Right) (rights : List Triple) → (number == gone) ≡ true → app_has (forget_document gone rights) app number right ≡ false
  gone-none gone right [] e = refl
  gone-none gone right (t ∷ ts) e = grind (arith, nat_tests, gone-none gone right ts)

  forgotten : (gone : ℕ) (b : Bool) → (number == gone) ≡ b → held_of (forget_document gone s.rights) app number ≡ cond b no_rights held
  forgotten gone true e =
      let none : (right : Right) → app_has (forget_document gone s.rights) app number right ≡ false = λ right. gone-none gone right s.rights e in
      same-rights (held_of (forget_document gone s.rights) app number) no_rights (none Read) (none Write) (none GrantPermissions) (none Delete)
  forgotten gone false e = held-forget app number gone s.rights e

  delete_reached-tells : (who : Who) (doc : List ℕ) (o : Option Document) → reached s who doc ≡ o → IfDoes (Tells app number who (Request.DeleteDocument doc) s) (delete_reached s who o)
  delete_reached-tells who doc None e = tt
  delete_reached-tells who doc (Some d) e =
      if-passes (Tells app number who (Request.DeleteDocument doc) s) (held_by s.rights who d.id.number).delete Code.NotAllowed (does (deleted s d.id.number) Answer.Done) (λ may. record {
        answered = refl;
        rights = forgotten d.id.number (number == d.id.number) refl ∙ ap (λ (b : Bool). cond b no_rights held) (turned number d.id.number ∙ sym (reached-as s who doc d number e));
        identified = all-filter (λ (x : Document). not (x.id.number == d.id.number)) has_identifier s.documents identified;
      })

  -- ---- requests that change no right

  abbrev unchanged : (answer : Answer) → is_done answer ≡ true → (who : Who) (request : Request) → held ≡ told_by app number who request answer held → Tells app number who request s (record { state = s; answer = answer; makes = 0; exceeds = false })
  unchanged answer done who request e = record { answered = done; rights = e; identified = identified }

  present-tells : (c : Connection) (bytes : List ℕ) → IfDoes (Tells app number c.who (Request.Present bytes) s) (present s c bytes)
  present-tells c bytes =
      let path : List ℕ = ahead_of_end bytes in
      let P : Doing → Type 0 = Tells app number c.who (Request.Present bytes) s in
      let queued : Verdict = does (with_queue c.seat (λ queue. queue ++ path ∷ []) s) (Answer.Place (length c.queue)) in
      if-passes P (is_ended_path bytes) Code.InvalidArgument (present_path s c path) (λ ended.
      if-passes P (may_present c.who path) Code.NotAllowed (queue_path s c path) (λ may.
      if-passes P (nat_lt (length c.queue) s.limits.queued) Code.LimitsExceeded queued (λ room. record { answered = refl; rights = refl; identified = identified })))

  lookup-tells : (who : Who) (bytes : List ℕ) → IfDoes (Tells app number who (Request.LookupDocument bytes) s) (lookup_document s who bytes)
  lookup-tells (Who.App caller) bytes = tt
  lookup-tells Who.Host bytes =
      if-passes (Tells app number Who.Host (Request.LookupDocument bytes) s) (is_ended_path bytes) Code.InvalidArgument (does s (Answer.Ids (text_of (first_of s.documents (ahead_of_end bytes)) ∷ [])))
      (λ ended. record { answered = refl; rights = refl; identified = identified })

  info_of-tells : (doc : List ℕ) (o : Option Document) → IfDoes (Tells app number Who.Host (Request.Info doc) s) (info_of s o)
  info_of-tells doc None = tt
  info_of-tells doc (Some d) = record { answered = refl; rights = refl; identified = identified }

  info-tells : (who : Who) (doc : List ℕ) → IfDoes (Tells app number who (Request.Info doc) s) (info s who doc)
  info-tells (Who.App caller) doc = tt
  info-tells Who.Host doc = info_of-tells doc (document_named s.documents doc)

  list-tells : (who : Who) (name : List ℕ) → IfDoes (Tells app number who (Request.ListDocuments name) s) (list_documents s who name)
  list-tells (Who.App caller) name = tt
  list-tells Who.Host name =
      if-passes (Tells app number Who.Host (Request.ListDocuments name) s) (is_same name [] || is_app_name name) Code.InvalidArgument (does s (Answer.Listed (documents_listed s name)))
      (λ named. record { answered = refl; rights = refl; identified = identified })

  -- ---- calls of the permission store

  abbrev Told : StoreCall → Doing → Type 0
  Told call = Tells app number Who.Host (Request.Store call) s

  kept-tells : (call : StoreCall) (t : State) (o : Option StoredEntry) → held_of t.rights app number ≡ held → are_identified t ≡ true → IfDoes (Told call) (does (tell_kept o t) Answer.Done)
  kept-tells call t None e f = record { answered = refl; rights = e; identified = f }
  kept-tells call t (Some x) e f = record { answered = refl; rights = e; identified = f }

  answered-tells : (call : StoreCall) (t : State) (answer : StoreAnswer) → held_of t.rights app number ≡ held → are_identified t ≡ true → IfDoes (Told call) (store_answered t call answer)
  answered-tells call t (StoreAnswer.Done change) e f = record { answered = refl; rights = e; identified = f }
  answered-tells call t StoreAnswer.Kept e f = kept-tells call t (entry_of t.entries (table_of call) (identifier_of call)) e f
  answered-tells call t (StoreAnswer.Entry rows datum) e f = record { answered = refl; rights = e; identified = f }
  answered-tells call t (StoreAnswer.Names names) e f = record { answered = refl; rights = e; identified = f }

  outcome-tells : (call : StoreCall) (outcome : Outcome) → IfDoes (Told call) (store_verdict s call outcome)
  outcome-tells call (Err error) = tt
  outcome-tells call (Ok (entries, answer)) = answered-tells call (record s { entries = entries }) answer refl identified

  either-tells : (call : StoreCall) (wrong : Bool) (code : Code) (v : Verdict) → IfDoes (Told call) v → IfDoes (Told call) (unless wrong code v)
  either-tells call true code v h = tt
  either-tells call false code v h = h

  store-tells : (who : Who) (call : StoreCall) → IfDoes (Tells app number who (Request.Store call) s) (store_request s who call)
  store-tells (Who.App caller) call = tt
  store-tells Who.Host call =
      if-passes (Told call) (are_store_arguments call) Code.InvalidArgument (store_allowed s call)
      (λ fine. either-tells call (is_same (table_of call) own_table) Code.NotAllowed (store_verdict s call (store_call call s.entries)) (outcome-tells call (store_call call s.entries)))

-- ---- additions

module _ (app : List ℕ) (number : ℕ) (who : Who) (a : AddRequest) where
  both-same : (b : Bool) (k : RightSet) → cond b k k ≡ k
  both-same true k = refl
  both-same false k = refl

  caller-then : (w : Who) (id : DocId) (s : State) → held_of (caller_rights w a id s).rights app number ≡ cond (id.number == number) (more_if (is_app app w) (adding_rights a) (held_of s.rights app number)) (held_of s.rights app number)
  caller-then Who.Host id s = sym (both-same (id.number == number) (held_of s.rights app number))
  caller-then (Who.App name) id s = held-add app number name id (adding_rights a) s.rights ∙ two (id.number == number) (is_same name app) _ _
    where
      two : (x y : Bool) (k m : RightSet) → cond (x && y) k m ≡ cond x (cond y k m) m
      two true y k m = refl
      two false y k m = refl

  -- the rights that both get in a document
  rights-then : (id : DocId) (s : State) → held_of (with_rights_of who a id s).rights app number
      ≡ cond (id.number == number) (more_if (names_app app a) (rights_named a.names) (more_if (is_app app who) (adding_rights a) (held_of s.rights app number))) (held_of s.rights app number)
  rights-then id s =
      listed-is app a id s (caller_rights who a id s) number (names_nobody a) (is_same a.app app) refl refl
      ∙ (ap (λ (k : RightSet). cond (id.number == number) (more_if (names_app app a) (rights_named a.names) k) k) (caller-then who id s) ∙ inside (id.number == number) (names_app app a) _ _ _)
    where
      inside : (b c : Bool) (k m l : RightSet) → cond b (cond c (union (cond b k m) l) (cond b k m)) (cond b k m) ≡ cond b (cond c (union k l) k) m
      inside true c k m l = refl
      inside false c k m l = refl

  -- what is true while files are added, of who held these rights ahead of them
  record FilesTell (before : RightSet) (done : Added) : Type 0 where
    rights : held_of done.state.rights app number ≡ fold (told_by_file app number who a) before done.ids
    identified : are_identified done.state ≡ true
    short : are_short done.numbers ≡ true

  one-told : (before k : RightSet) (ids : List (List ℕ)) (id : DocId) (s : State) → nat_lt id.number (2 ^ 32) ≡ true → held_of s.rights app number ≡ fold (told_by_file app number who a) before ids →
      held_of (with_rights_of who a id s).rights app number ≡ fold (told_by_file app number who a) before (ids ++ doc_text id.number ∷ [])
  one-told before k ids id s l e =
      rights-then id s
      ∙ ((λ i. cond (sym (identifies-text id.number number l) i) (more_if (names_app app a) (rights_named a.names) (more_if (is_app app who) (adding_rights a) (e i))) (e i))
      ∙ sym (fold-append (told_by_file app number who a) before ids (doc_text id.number ∷ [])))

  use-tells : (before : RightSet) (done : Added) (path : List ℕ) (again : Option DocId) → used_again done.state.documents a path ≡ again → FilesTell before done → FilesTell before (use_document who a path done again)
  use-tells before done path (Some id) e h =
      let g : Again done.state.documents a path id = again-is done.state.documents a path id e in
      let l : nat_lt id.number (2 ^ 32) ≡ true = ap (λ (x : DocId). nat_lt x.number (2 ^ 32)) (sym g.id_is) ∙ all-found (serves path (persists a) (makes_strict a) (exports a)) has_identifier done.state.documents g.document h.identified g.is_first in
      record {
        rights = one-told before before done.ids id done.state l h.rights;
        identified = ap (list_all has_identifier) (rights-keep (λ (s : State). s.documents) (λ s r p. refl) who a id done.state) ∙ h.identified;
        short = h.short;
      }
  use-tells before done path None e h =
      let id : DocId = first_number done.numbers in
      let l : nat_lt id.number (2 ^ 32) ≡ true = first-short done.numbers h.short in
      let base : State = with_new_document (new_document a id path) done.state in
      record {
        rights = one-told before before done.ids id base l h.rights;
        identified = ap (list_all has_identifier) (rights-keep (λ (s : State). s.documents) (λ s r p. refl) who a id base) ∙ all-last has_identifier done.state.documents (new_document a id path) h.identified l;
        short = rest-short done.numbers h.short;
      }

  left-told : (before : RightSet) (ids : List (List ℕ)) → fold (told_by_file app number who a) before ids ≡ fold (told_by_file app number who a) before (ids ++ [] ∷ [])
  left-told before ids =
      ap (λ (b : Bool). cond b (more_if (names_app app a) (rights_named a.names) (more_if (is_app app who) (adding_rights a) (fold (told_by_file app number who a) before ids))) (fold (told_by_file app number who a) before ids)) (sym (identifies-nothing number))
      ∙ sym (fold-append (told_by_file app number who a) before ids ([] ∷ []))

  file-tells : (before : RightSet) (done : Added) (path : List ℕ) (b : Bool) → FilesTell before done → FilesTell before (cond b (record done { ids = done.ids ++ [] ∷ [] }) (use_document who a path done (used_again done.state.documents a path)))
  file-tells before done path true h = record { rights = h.rights ∙ left-told before done.ids; identified = h.identified; short = h.short }
  file-tells before done path false h = use-tells before done path (used_again done.state.documents a path) refl h

  files-tell : (before : RightSet) (paths : List (List ℕ)) (done : Added) → FilesTell before done → FilesTell before (fold (add_file who a) done paths)
  files-tell before [] done h = h
  files-tell before (path ∷ paths) done h = files-tell before paths (add_file who a done path) (file-tells before done path (is_left_out a path) h)

begun-tells : (app : List ℕ) (number : ℕ) (c : Connection) (a : AddRequest) (s : State) (numbers : List DocId) (b : Bool) → are_identified s ≡ true → are_short numbers ≡ true →
    FilesTell app number c.who a (held_of s.rights app number) (record { state = cond b (with_queue c.seat (drop a.fds) s) s; numbers = numbers; ids = [] })
begun-tells app number c a s numbers true e l = record { rights = refl; identified = e; short = l }
begun-tells app number c a s numbers false e l = record { rights = refl; identified = e; short = l }

add-tells : (app : List ℕ) (number : ℕ) (s : State) (c : Connection) (a : AddRequest) (numbers : List DocId) → are_identified s ≡ true → are_short numbers ≡ true → OnWalk (Tells app number c.who (Request.Add a) s) (add s c a numbers)
add-tells app number s c a numbers e l =
    let P : Doing → Type 0 = Tells app number c.who (Request.Add a) s in
    let done = files-tell app number c.who a (held_of s.rights app number) (document_paths c.queue a) (record { state = taken_from_queue c a s; numbers = numbers; ids = [] }) (begun-tells app number c a s numbers (are_presented c.queue a) e l) in
    walk-passes P (are_presented c.queue a) Code.InvalidArgs (add_presented s c a numbers) (λ p.
    walk-passes P (are_add_arguments c.queue a) Code.InvalidArgument (add_allowed s c a numbers) (λ q.
    walk-passes P (may_list_all s c.who a (document_paths c.queue a)) Code.NotAllowed (add_looking s c a numbers) (λ m.
    on-looks P (paths_shown c.queue a) (add_shown s c a numbers) (λ looks.
    if-passes P (are_of_kind a (paths_shown c.queue a) looks) Code.InvalidArgument (added s (added_files s c a numbers)) (λ k. record { answered = refl; rights = done.rights; identified = done.identified })))))

-- ---- a request of a bus

walk-tells : (app : List ℕ) (number : ℕ) (s : State) (c : Connection) (request : Request) (numbers : List DocId) → are_identified s ≡ true → are_short numbers ≡ true → OnWalk (Tells app number c.who request s) (bus_walk s c request numbers)
walk-tells app number s c (Request.Present path) numbers e l = present-tells app number s e c path
walk-tells app number s c (Request.Add a) numbers e l = add-tells app number s c a numbers e l
walk-tells app number s c (Request.Grant call) numbers e l = grant-tells app number s e c.who call
walk-tells app number s c (Request.Revoke call) numbers e l = revoke-tells app number s e c.who call
walk-tells app number s c (Request.DeleteDocument doc) numbers e l = delete_reached-tells app number s e c.who doc (reached s c.who doc) refl
walk-tells app number s c (Request.LookupDocument path) numbers e l = lookup-tells app number s e c.who path
walk-tells app number s c (Request.Info doc) numbers e l = info-tells app number s e c.who doc
walk-tells app number s c (Request.ListDocuments name) numbers e l = list-tells app number s e c.who name
walk-tells app number s c (Request.Store call) numbers e l = store-tells app number s e c.who call
walk-tells app number s c request numbers e l = record { answered = refl; rights = refl; identified = e }

-- the rights after an answer, and that each document has an identifier
pub record After (app : List ℕ) (number : ℕ) (who : Option Who) (request : Request) (before : RightSet) (s : State) (answer : Answer) : Type 0 where
  pub rights : held_of s.rights app number ≡ told_if_done app number who request answer before
  pub identified : are_identified s ≡ true

module _ (app : List ℕ) (number : ℕ) (s : State) (c : Connection) (request : Request) (given : Given) (e : are_identified s ≡ true) where
  abbrev Then : State × Answer → Type 0
  Then done = After app number (Some c.who) request (held_of s.rights app number) done.0 done.1

  abbrev same : (t : State) → t.rights ≡ s.rights → t.documents ≡ s.documents → (code : Code) → Then (t, Answer.Refused code)
  same t r d code = record { rights = ap (λ (rights : List Triple). held_of rights app number) r; identified = ap (list_all has_identifier) d ∙ e }

  refused-rights : (request : Request) → (refused_state s c request).rights ≡ s.rights
  refused-rights (Request.Add a) = by_call (are_presented c.queue a)
    where
      by_call : (b : Bool) → (cond b (with_queue c.seat (drop a.fds) s) s).rights ≡ s.rights
      by_call true = refl
      by_call false = refl
  refused-rights request = refl

  refused-documents : (request : Request) → (refused_state s c request).documents ≡ s.documents
  refused-documents (Request.Add a) = by_call (are_presented c.queue a)
    where
      by_call : (b : Bool) → (cond b (with_queue c.seat (drop a.fds) s) s).documents ≡ s.documents
      by_call true = refl
      by_call false = refl
  refused-documents request = refl

  abbrev refused : State
  refused = refused_state s c request

  done-then : (d : Doing) → Tells app number c.who request s d → Then (d.state, d.answer)
  done-then d t = record { rights = t.rights ∙ ap (λ (b : Bool). cond b (told_by app number c.who request d.answer (held_of s.rights app number)) (held_of s.rights app number)) (sym t.answered); identified = t.identified }

  kept-then : (fault : Fault) (d : Doing) → Tells app number c.who request s d → Then (kept s fault d)
  kept-then Fault.None d t = done-then d t
  kept-then Fault.Tree d t = done-then d t
  kept-then Fault.Keeper d t = same s refl refl Code.Failed

  limited-then : (full : Bool) (d : Doing) → Tells app number c.who request s d → Then (cond full (refused, Answer.Refused Code.LimitsExceeded) (kept s given.fault d))
  limited-then true d t = same refused (refused-rights request) (refused-documents request) Code.LimitsExceeded
  limited-then false d t = kept-then given.fault d t

  settled-then : (o : Option Verdict) → IfGiven (Tells app number c.who request s) o → Then (settled s refused given o)
  settled-then None t = same s refl refl Code.Failed
  settled-then (Some (Refuses code)) t = same refused (refused-rights request) (refused-documents request) code
  settled-then (Some (Does d)) t = limited-then given.full d t

  pub answer-then : are_short given.numbers ≡ true → Then (bus_answer s c request given)
  answer-then l =
      settled-then (verdict_given (bus_walk s c request given.numbers) given)
      (on-walked (Tells app number c.who request s) (bus_walk s c request given.numbers) (moment_given given.now) given.looks (is_tree given.fault) (walk-tells app number s c request given.numbers e l))

-- ---- an entry

nobody : (app : List ℕ) (number : ℕ) (o : Option Who) (request : Request) (code : Code) (before : RightSet) → before ≡ told_if_done app number o request (Answer.Refused code) before
nobody app number None request code before = refl
nobody app number (Some who) request code before = refl

module _ (app : List ℕ) (number : ℕ) (s : State) (e : are_identified s ≡ true) where
  abbrev before : RightSet
  before = held_of s.rights app number

  bus_kind-then : (c : Connection) (m : Bool) (request : Request) (given : Given) → LawfulOnBus s request given (cond m None (Some c)) →
      After app number (Some c.who) request before (bus_step s request given (cond m None (Some c))).0 (bus_step s request given (cond m None (Some c))).1.answer
  bus_kind-then c true request given l = record { rights = refl; identified = e }
  bus_kind-then c false request given l = answer-then app number (all_told c.seat s) c request given e (drawn-short s.made given.words given.numbers l.numbers)

  bus-then : (request : Request) (given : Given) (o : Option Connection) → LawfulOnBus s request given (bus_of o) →
      After app number (maker o request) request before (bus_step s request given (bus_of o)).0 (bus_step s request given (bus_of o)).1.answer
  bus-then request given None l = record { rights = nobody app number (maker None request) request Code.NotHere before; identified = e }
  bus-then request given (Some c) l = bus_kind-then c (is_mount c.kind) request given l

  -- nothing is told by what is asked of a node, and by what opens and closes connections
  stays : (o : Option Who) (request : Request) (answer : Answer) → ((who : Who) → told_by app number who request answer before ≡ before) → before ≡ told_if_done app number o request answer before
  stays None request answer h = refl
  stays (Some who) request answer h = by_answer (is_done answer)
    where
      by_answer : (b : Bool) → before ≡ cond b (told_by app number who request answer before) before
      by_answer true = sym (h who)
      by_answer false = refl

  settled-keeps : {X : Type 0} (f : State → X) → ((t : State) (c : Connection) (d : NodeDoing) → f (node_done t c d) ≡ f t) → (t : State) (c : Connection) (v : Option NodeVerdict) → f (settled_on_node t c v).0 ≡ f t
  settled-keeps f k t c None = refl
  settled-keeps f k t c (Some (Errs errno)) = refl
  settled-keeps f k t c (Some (Yields d)) = k t c d

  node-keeps : {X : Type 0} (f : State → X) → ((t : State) (seat : ℕ) → f (all_told seat t) ≡ f t) → ((t : State) (c : Connection) (d : NodeDoing) → f (node_done t c d) ≡ f t) →
      (r : NodeRequest) (given : Given) (o : Option Connection) → f (node_step s r given o).0 ≡ f s
  node-keeps f h k r given None = refl
  node-keeps f h k r given (Some c) = settled-keeps f k (all_told c.seat s) c (node_given (walk_on_node (all_told c.seat s) c r) given) ∙ h s c.seat

  collect-keeps : {X : Type 0} (f : State → X) → ((t : State) (seat : ℕ) → f (all_told seat t) ≡ f t) → (o : Option Connection) → f (collect_step s o).0 ≡ f s
  collect-keeps f h None = refl
  collect-keeps f h (Some c) = h s c.seat

  step-then : (seat : ℕ) (request : Request) (given : Given) → LawfulGiven s seat request given →
      After app number (maker (connection_of s.connections seat) request) request before (request_step s seat request given).0 (request_step s seat request given).1.answer
  step-then seat (Request.Enter who kind) given l = record { rights = stays (maker (connection_of s.connections seat) (Request.Enter who kind)) (Request.Enter who kind) _ (λ w. refl); identified = e }
  step-then seat Request.Leave given l = record { rights = stays (maker (connection_of s.connections seat) Request.Leave) Request.Leave _ (λ w. refl); identified = e }
  step-then seat Request.Collect given l = record {
    rights = collect-keeps (λ (t : State). held_of t.rights app number) (λ t n. refl) (bus_of (connection_of s.connections seat)) ∙ stays (maker (connection_of s.connections seat) Request.Collect) Request.Collect _ (λ w. refl);
    identified = collect-keeps are_identified (λ t n. refl) (bus_of (connection_of s.connections seat)) ∙ e;
  }
  step-then seat (Request.Node r) given l = record {
    rights = node-keeps (λ (t : State). held_of t.rights app number) (λ t n. refl) (λ t c d. refl) r given (mount_of (connection_of s.connections seat)) ∙ stays (maker (connection_of s.connections seat) (Request.Node r)) (Request.Node r) _ (λ w. refl);
    identified = node-keeps are_identified (λ t n. refl) (λ t c d. refl) r given (mount_of (connection_of s.connections seat)) ∙ e;
  }
  step-then seat (Request.Present path) given l = bus-then (Request.Present path) given (connection_of s.connections seat) l
  step-then seat (Request.Add a) given l = bus-then (Request.Add a) given (connection_of s.connections seat) l
  step-then seat (Request.Grant call) given l = bus-then (Request.Grant call) given (connection_of s.connections seat) l
  step-then seat (Request.Revoke call) given l = bus-then (Request.Revoke call) given (connection_of s.connections seat) l
  step-then seat (Request.DeleteDocument doc) given l = bus-then (Request.DeleteDocument doc) given (connection_of s.connections seat) l
  step-then seat (Request.LookupDocument path) given l = bus-then (Request.LookupDocument path) given (connection_of s.connections seat) l
  step-then seat (Request.Info doc) given l = bus-then (Request.Info doc) given (connection_of s.connections seat) l
  step-then seat (Request.ListDocuments name) given l = bus-then (Request.ListDocuments name) given (connection_of s.connections seat) l
  step-then seat (Request.Store call) given l = bus-then (Request.Store call) given (connection_of s.connections seat) l

-- ---- a history

told-step : (app : List ℕ) (number : ℕ) (s : State) (e : Entry) → are_identified s ≡ true → Lawful s e → After app number (maker (connection_of s.connections e.seat) e.request) e.request (held_of s.rights app number) (after s e) (reply_at s e).answer
told-step app number s e i l = step-then app number s i e.seat e.request e.given l.given

told-run : (app : List ℕ) (number : ℕ) (h : List Entry) (s : State) → are_identified s ≡ true → EachLawful s h → held_of (run s h).rights app number ≡ rights_told app number s h (held_of s.rights app number)
told-run app number [] s i l = refl
told-run app number (e ∷ es) s i l =
    let one = told-step app number s e i l.0 in
    told-run app number es (after s e) one.identified l.1 ∙ ap (rights_told app number (after s e) es) one.rights

-- ---- a right that was not there before

less-in : (set less : RightSet) (right : Right) → is_in set right ≡ false → is_in (minus set less) right ≡ false
less-in set less Read h = ap (λ (b : Bool). b && not less.read) h
less-in set less Write h = ap (λ (b : Bool). b && not less.write) h
less-in set less GrantPermissions h = ap (λ (b : Bool). b && not less.grant_permissions) h
less-in set less Delete h = ap (λ (b : Bool). b && not less.delete) h

none-in : (right : Right) → is_in no_rights right ≡ false
none-in Read = refl
none-in Write = refl
none-in GrantPermissions = refl
none-in Delete = refl

either-in : (b : Bool) (x y : RightSet) (right : Right) → is_in x right ≡ false → is_in y right ≡ false → is_in (cond b x y) right ≡ false
either-in true x y right h k = h
either-in false x y right h k = k

has-in : (rights : List Triple) (app : List ℕ) (number : ℕ) (right : Right) → is_in (held_of rights app number) right ≡ app_has rights app number right
has-in rights app number Read = refl
has-in rights app number Write = refl
has-in rights app number GrantPermissions = refl
has-in rights app number Delete = refl

module _ (app : List ℕ) (number : ℕ) (right : Right) where
  -- a request that gives no rights leaves away what was not there
  not-told : (who : Who) (request : Request) (answer : Answer) (held : RightSet) → gives_rights request ≡ false → is_in held right ≡ false → is_in (told_by app number who request answer held) right ≡ false
  not-told who (Request.Add a) answer held g h = cc
  not-told who (Request.Grant call) answer held g h = cc
  not-told who (Request.Revoke call) answer held g h =
      either-in (identifies call.doc number && is_same call.app app) (minus held (rights_named call.names)) held right (less-in held (rights_named call.names) right h) h
  not-told who (Request.DeleteDocument doc) answer held g h = either-in (identifies doc number) no_rights held right (none-in right) h
  not-told who request answer held g h = h

  told-new : (o : Option Who) (request : Request) (answer : Answer) (held : RightSet) → is_in held right ≡ false → is_in (told_if_done app number o request answer held) right ≡ true → (gives_rights request && is_done answer) ≡ true
  told-new None request answer held h k = let x : false ≡ true = sym h ∙ k in cc
  told-new (Some who) request answer held h k = by_done (is_done answer) (gives_rights request) refl k
    where
      by_done : (b c : Bool) → gives_rights request ≡ c → is_in (cond b (told_by app number who request answer held) held) right ≡ true → (c && b) ≡ true
      by_done true true g e = refl
      by_done true false g e = let x : false ≡ true = sym (not-told who request answer held g h) ∙ e in cc
      by_done false c g e = let x : false ≡ true = sym h ∙ e in cc

  or-second : (b c : Bool) → c ≡ true → (b || c) ≡ true
  or-second true c g = refl
  or-second false c g = g

  with-two : (a b had has : Bool) → (a && b) ≡ true → had ≡ false → has ≡ true → (a && (b && (not had && has))) ≡ true
  with-two a b had has e f g = grind arith

  given-run : (h : List Entry) (s : State) → are_identified s ≡ true → EachLawful s h → app_has s.rights app number right ≡ false → app_has (run s h).rights app number right ≡ true → is_given_in app number right s h ≡ true
  given-run [] s i l none some = let x : false ≡ true = sym none ∙ some in cc
  given-run (e ∷ es) s i l none some =
      by_entry (app_has (after s e).rights app number right) refl (λ f. let one = told-step app number s e i l.0 in given-run es (after s e) one.identified l.1 f some)
    where
      by_entry : (b : Bool) → app_has (after s e).rights app number right ≡ b → (app_has (after s e).rights app number right ≡ false → is_given_in app number right (after s e) es ≡ true) → (gives_at app number right s e || is_given_in app number right (after s e) es) ≡ true
      by_entry true f more =
          let one = told-step app number s e i l.0 in
          let now : is_in (told_if_done app number (maker (connection_of s.connections e.seat) e.request) e.request (reply_at s e).answer (held_of s.rights app number)) right ≡ true =
          ap (λ (k : RightSet). is_in k right) (sym one.rights) ∙ (has-in (after s e).rights app number right ∙ f) in
          let gives : (gives_rights e.request && is_done (reply_at s e).answer) ≡ true =
          told-new (maker (connection_of s.connections e.seat) e.request) e.request (reply_at s e).answer (held_of s.rights app number) (has-in s.rights app number right ∙ none) now in
          ap (λ (b : Bool). b || is_given_in app number right (after s e) es) (with-two (gives_rights e.request) (is_done (reply_at s e).answer) (app_has s.rights app number right) (app_has (after s e).rights app number right) gives none f)
      by_entry false f more = or-second (gives_at app number right s e) (is_given_in app number right (after s e) es) (more f)

pub told : RightsAreTold
told = record {
  entry = λ app number s e v l. (told-step app number s e v.identifiers l).rights;
  history = λ app number s h l. told-run app number h s l.opening.identifiers l.lawful;
  given = λ app number right s h l none some. given-run app number right h s l.opening.identifiers l.lawful none some;
}
