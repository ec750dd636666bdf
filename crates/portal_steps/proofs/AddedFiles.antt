-- An Add over the portal's lists: what its call gives for the queue of its seat's connection is what serves it on a bus.
use Rattle.std.specs.Prelude.{IfOk, OnErr}
use Rattle.std.proofs.Common.{◌≡◌, ℕ, List, get_or, set, true, false, Option, Some, None, is_some, option_map, Result, Ok, Err, refl, sym, ap, subst, ◌∙◌}
use Rattle.std.specs.List.{position}
use Rattle.add_calls.specs.Placing.{HasDrawnUpTo}
use Rattle.add_serving.specs.Adds.{documents_made}
use Rattle.document_records.specs.Documents.{DocumentList}
use Rattle.file_generations.specs.Generations.{Held}
use Rattle.portal_base.specs.declared.memory.WantOfMemory.{WantOfMemory}
use Rattle.portal_model.specs.declared.reply.Answer.{Answer}
use Rattle.portal_model.specs.declared.reply.Code.{Code}
use Rattle.portal_model.specs.declared.request.AddRequest.{AddRequest}
use Rattle.portal_model.specs.declared.request.Request.{Request}
use Rattle.portal_model.specs.declared.state.Connection.{Connection}
use Rattle.portal_model.specs.declared.state.Triple.{Triple}
use Rattle.portal_model.specs.Lawful.{nothing_given}
use Rattle.portal_model.specs.Outside.{files_told}
use Rattle.portal_model.specs.State.{State, connection_of}
use Rattle.portal_model.specs.Step.{bus_of}
use Rattle.portal_model.specs.Valid.{Valid}
use Rattle.record_keeper.specs.Keepers.{KeeperIs}
use Rattle.document_calls.specs.Books.{IsBook, IsQueue, queue_set, with_book}
use Rattle.document_calls.specs.KeeperCalls.{ServesKept}
use Rattle.document_calls.specs.declared.served.ServedCall.{ServedCall}
use Rattle.portal_steps.specs.Documents.{DrewOn, HasLists, ServedOn, with_lists, with_queues}
use Rattle.portal_steps.proofs.SeatQueues.{connection-is, has_seat, queue-is, queue-set, queued_so}
use Rattle.portal_start.proofs.LoadedRecords.{if_ok}
use Rattle.portal_steps.proofs.ServedLists.{none-there, on-some, same_lists}
use Rattle.portal_steps.proofs.Steps.{bus_found}
use Rattle.store_serving.specs.Waiting.{silent}

module _ (ds : DocumentList) (rs : List Triple) (apps : List (List ℕ)) (cs : List Connection) (told : Option Held) where
  -- what the whole call says of an Add that was served
  abbrev pub ServesAdd : Option Connection → AddRequest → DocumentList → List Triple → List (List ℕ) → List Connection → KeeperIs → KeeperIs → ServedCall → Type 0
  ServesAdd o a ds' rs' apps' cs' old new served =
      (s : State) (b : Option Connection) → Valid s → HasLists s ds rs apps cs → files_told s ≡ told → option_map silent b ≡ o →
      ServedOn s (Request.Add a) served.given (with_lists s ds' rs' apps' cs') served.answer old new b

  -- and of a connection that is an open bus
  abbrev pub ServesBus : Option Connection → AddRequest → DocumentList → List Triple → List (List ℕ) → List Connection → KeeperIs → KeeperIs → ServedCall → Type 0
  ServesBus o a ds' rs' apps' cs' old new served =
      (s : State) (c : Connection) → Valid s → HasLists s ds rs apps cs → files_told s ≡ told → o ≡ Some (silent c) →
      ServesKept s c (Request.Add a) served.given (with_lists s ds' rs' apps' cs') served.answer old new

  -- what the call says of a queue
  abbrev pub ServesQueue : Connection → AddRequest → DocumentList → List Triple → List (List ℕ) → List (List ℕ) → KeeperIs → KeeperIs → ServedCall → Type 0
  ServesQueue v a ds' rs' apps' queue old new served =
      (s : State) (c : Connection) → IsBook s ds rs apps → IsQueue s c v.queue s.limits.queued → files_told s ≡ told → Valid s → c.who ≡ v.who →
      ServesKept s c (Request.Add a) served.given (queue_set (with_book s ds' rs' apps') c queue) served.answer old new

  -- of a seat without an open bus
  pub add-nowhere : (o : Option Connection) (a : AddRequest) (k : KeeperIs) (served : ServedCall) → is_some o ≡ false → served ≡ record { given = nothing_given; answer = Answer.Refused Code.NotHere } → ServesAdd o a ds rs apps cs k k served
  add-nowhere None a k served e h = λ s b v l f here.
      subst (ServedOn s (Request.Add a) served.given (with_lists s ds rs apps cs) served.answer k k) (sym (none-there b here))
      (ap (λ (x : ServedCall). x.given) h, ap (λ (x : ServedCall). x.answer) h, same_lists ds rs apps cs 0 None s l, refl)
  add-nowhere (Some c) a k served e h = absurd (cc)

  serves-on : (o : Option Connection) (a : AddRequest) (ds' : DocumentList) (rs' : List Triple) (apps' : List (List ℕ)) (cs' : List Connection) (old new : KeeperIs) (served : ServedCall) → is_some o ≡ true → ServesBus o a ds' rs' apps' cs' old new served → ServesAdd o a ds' rs' apps' cs' old new served
  serves-on None a ds' rs' apps' cs' old new served e k = absurd (cc)
  serves-on (Some c) a ds' rs' apps' cs' old new served e k = λ s b v l f here.
      on-some (ServedOn s (Request.Add a) served.given (with_lists s ds' rs' apps' cs') served.answer old new) b c here
      (λ d same. k s d v l f (ap (λ (x : Connection). Some x) (sym same)))

  pub add-somewhere : (o : Option Connection) (a : AddRequest) (ds' : DocumentList) (rs' : List Triple) (apps' : List (List ℕ)) (cs' : List Connection) (old new : KeeperIs) (r : Result ServedCall WantOfMemory) → is_some o ≡ true → IfOk r (ServesBus o a ds' rs' apps' cs' old new) →
      IfOk r (ServesAdd o a ds' rs' apps' cs' old new)
  add-somewhere o a ds' rs' apps' cs' old new r e = if_ok (ServesBus o a ds' rs' apps' cs' old new) (ServesAdd o a ds' rs' apps' cs' old new) r (λ served k. serves-on o a ds' rs' apps' cs' old new served e k)

  -- the queue of the seat's connection stands here in the list
  pub add-serves : (seat i : ℕ) (v : Connection) → Some i ≡ position (has_seat seat) cs → v ≡ get_or cs i v → (a : AddRequest) (ds' : DocumentList) (rs' : List Triple) (apps' : List (List ℕ)) (queue : List (List ℕ)) (cs' : List Connection) → cs' ≡ set cs i (queued_so queue v) →
      (old new : KeeperIs) (r : Result ServedCall WantOfMemory) → IfOk r (ServesQueue v a ds' rs' apps' queue old new) → IfOk r (ServesBus (bus_of (connection_of cs seat)) a ds' rs' apps' cs' old new)
  add-serves seat i v place_is stands a ds' rs' apps' queue cs' e old new r =
      if_ok (ServesQueue v a ds' rs' apps' queue old new) (ServesBus (bus_of (connection_of cs seat)) a ds' rs' apps' cs' old new) r
      (λ served k. λ s c valid l files here.
      let found : connection_of cs seat ≡ Some (silent c) = bus_found (connection_of cs seat) (silent c) here in
      let set_is : queue_set s c queue ≡ record s { connections = with_queues s.connections cs' } =
      queue-set seat cs i v c place_is stands found s valid l.connected s.limits.queued refl queue ∙ (λ j. record s { connections = with_queues s.connections (sym e j) }) in
      subst (λ (t : State). ServesKept s c (Request.Add a) served.given t served.answer old new) (ap (λ (t : State). record (with_book s ds' rs' apps') { connections = t.connections }) set_is)
      (k s c l.book (queue-is seat cs i v c place_is stands found s valid l.connected s.limits.queued refl) files valid (ap (λ (x : Connection). x.who) (sym (connection-is seat cs i v c place_is stands found)))))

  -- ---- where it is refused

  -- what the whole call says of the words that were drawn, what it says on a bus, and of a queue
  abbrev pub DrawsAdd : Option Connection → AddRequest → Option (List ℕ) → Option (List ℕ) → Type 0
  DrawsAdd o a old new =
      (s : State) (b : Option Connection) → Valid s → HasLists s ds rs apps cs → files_told s ≡ told → option_map silent b ≡ o → DrewOn s a old new b

  abbrev pub DrawsBus : Option Connection → AddRequest → Option (List ℕ) → Option (List ℕ) → Type 0
  DrawsBus o a old new =
      (s : State) (c : Connection) → Valid s → HasLists s ds rs apps cs → files_told s ≡ told → o ≡ Some (silent c) → HasDrawnUpTo (documents_made s c a) old new

  abbrev pub DrawsQueue : Connection → AddRequest → Option (List ℕ) → Option (List ℕ) → Type 0
  DrawsQueue v a old new =
      (s : State) (c : Connection) → IsBook s ds rs apps → IsQueue s c v.queue s.limits.queued → files_told s ≡ told → Valid s → c.who ≡ v.who → HasDrawnUpTo (documents_made s c a) old new

  draws-on : (o : Option Connection) (a : AddRequest) (old new : Option (List ℕ)) → is_some o ≡ true → DrawsBus o a old new → DrawsAdd o a old new
  draws-on None a old new e k = absurd (cc)
  draws-on (Some c) a old new e k = λ s b v l f here.
      on-some (DrewOn s a old new) b c here
      (λ d same. k s d v l f (ap (λ (x : Connection). Some x) (sym same)))

  err-so : {X E P Q : Type 0} (r : Result X E) → (P → Q) → OnErr r P → OnErr r Q
  err-so (Ok x) f h = tt
  err-so (Err e) f h = f h

  pub draws-somewhere : {X E : Type 0} (o : Option Connection) (a : AddRequest) (old new : Option (List ℕ)) (r : Result X E) → is_some o ≡ true → OnErr r (DrawsBus o a old new) → OnErr r (DrawsAdd o a old new)
  draws-somewhere o a old new r e = err-so r (draws-on o a old new e)

  -- the queue of the seat's connection stands here in the list
  draws-here : (seat i : ℕ) (v : Connection) → Some i ≡ position (has_seat seat) cs → v ≡ get_or cs i v → (a : AddRequest) (old new : Option (List ℕ)) → DrawsQueue v a old new → DrawsBus (bus_of (connection_of cs seat)) a old new
  draws-here seat i v place_is stands a old new k = λ s c valid l files here.
      let found : connection_of cs seat ≡ Some (silent c) = bus_found (connection_of cs seat) (silent c) here in
      k s c l.book (queue-is seat cs i v c place_is stands found s valid l.connected s.limits.queued refl) files valid (ap (λ (x : Connection). x.who) (sym (connection-is seat cs i v c place_is stands found)))

  pub add-draws : {X E : Type 0} (seat i : ℕ) (v : Connection) → Some i ≡ position (has_seat seat) cs → v ≡ get_or cs i v → (a : AddRequest) (old new : Option (List ℕ)) (r : Result X E) → OnErr r (DrawsQueue v a old new) → OnErr r (DrawsBus (bus_of (connection_of cs seat)) a old new)
  add-draws seat i v place_is stands a old new r = err-so r (draws-here seat i v place_is stands a old new)
