-- Each request on documents over the portal's lists: what its call gives is what serves it on a bus.
use Rattle.std.specs.Prelude.{IfOk}
use Rattle.std.proofs.Common.{◌≡◌, ℕ, List, map, true, false, Option, Some, None, option_map, Result, refl, sym, ap, subst, ◌∙◌}
use Rattle.document_records.specs.Documents.{DocumentList}
use Rattle.portal_base.specs.declared.memory.WantOfMemory.{WantOfMemory}
use Rattle.portal_base.specs.declared.who.Who.{Who}
use Rattle.portal_model.specs.declared.entry.Given.{Given}
use Rattle.portal_model.specs.declared.reply.Answer.{Answer}
use Rattle.portal_model.specs.declared.reply.Code.{Code}
use Rattle.portal_model.specs.declared.request.Request.{Request}
use Rattle.portal_model.specs.declared.state.Connection.{Connection}
use Rattle.portal_model.specs.declared.state.Triple.{Triple}
use Rattle.portal_model.specs.Bus.{is_tree, moment_given}
use Rattle.portal_model.specs.Lawful.{nothing_given}
use Rattle.portal_model.specs.Outside.{ChangesRecords, verdict_of}
use Rattle.portal_model.specs.State.{State}
use Rattle.portal_model.specs.Valid.{Valid}
use Rattle.portal_model.specs.Verdict.{Verdict}
use Rattle.portal_model.specs.Walk.{Walk, walked}
use Rattle.record_keeper.specs.Keepers.{KeeperIs}
use Rattle.document_calls.specs.Books.{IsBook, with_book}
use Rattle.document_calls.specs.KeeperCalls.{ServesKept}
use Rattle.document_calls.specs.Serves.{Serves}
use Rattle.document_calls.specs.declared.served.ServedCall.{ServedCall}
use Rattle.portal_steps.specs.Devices.{may_change_records}
use Rattle.portal_steps.specs.Documents.{HasLists, ServedOn, is_document_call, with_lists, with_queues}
use Rattle.portal_steps.proofs.Boxes.{silent-same}
use Rattle.portal_start.proofs.LoadedRecords.{if_ok}
use Rattle.portal_steps.proofs.CallVerdicts.{call-changes-none, verdict_on, walk-is}
use Rattle.store_serving.specs.Waiting.{silent}

-- a request that may change no record is served beside the keeper
kept_beside : (s : State) (c : Connection) (request : Request) (given : Given) (after : State) (answer : Answer) (k : KeeperIs) → is_document_call request ≡ true → may_change_records request ≡ false → Serves s c request given after answer →
    ServesKept s c request given after answer k k
kept_beside s c request given after answer k call unkept serves = record {
  serves = serves;
  keeper = λ _. record {
    called = λ changes. absurd (call-changes-none s c request unkept (subst (ChangesRecords s) verdict-is changes));
    uncalled = λ _. refl;
  };
}
  where
    verdict-is : verdict_of s c request given ≡ Some (verdict_on s c request)
    verdict-is = ap (λ (w : Walk Verdict). walked w (moment_given given.now) given.looks (is_tree given.fault)) (walk-is s c request given.numbers call)

-- ---- the connection of a seat, which may still wait for changes

pub none-there : (o : Option Connection) → option_map silent o ≡ None → o ≡ None
none-there None e = refl
none-there (Some d) e = cc

-- what is said of the connection that is there, but for what it waits for
pub on-some : (P : Option Connection → Type 0) (o : Option Connection) (c : Connection) → option_map silent o ≡ Some c → ((d : Connection) → silent d ≡ c → P (Some d)) → P o
on-some P None c e f = let no : None ≡ Some c = e in absurd (cc)
on-some P (Some d) c e f = f d (same (silent d) c e)
  where
    same : (a b : Connection) → Some a ≡ Some b → a ≡ b
    same a b e = cc

module _ (ds : DocumentList) (rs : List Triple) (apps : List (List ℕ)) (cs : List Connection) (queued : ℕ) (o : Option Connection) where
  -- what the whole call says of a request that was served
  abbrev pub ServesLists : Request → DocumentList → List Triple → List (List ℕ) → List Connection → KeeperIs → KeeperIs → ServedCall → Type 0
  ServesLists request ds' rs' apps' cs' old new served =
      (s : State) (b : Option Connection) → Valid s → HasLists s ds rs apps cs → s.limits.queued ≡ queued → option_map silent b ≡ o →
      ServedOn s request served.given (with_lists s ds' rs' apps' cs') served.answer old new b

  module _ (s : State) (l : HasLists s ds rs apps cs) where
    -- no queue changes
    same_connections : with_queues s.connections cs ≡ s.connections
    same_connections = ap (with_queues s.connections) (sym l.connected) ∙ silent-same s.connections

    -- the same lists
    pub same_lists : with_lists s ds rs apps cs ≡ s
    same_lists = λ i. record s {
      documents = sym l.book.live i;
      made = sym l.book.made i;
      rights = sym l.book.held i;
      applications = sym l.book.numbered i;
      connections = same_connections i;
    }

    queue_lists : (cs' : List Connection) → record s { connections = with_queues s.connections cs' } ≡ with_lists s ds rs apps cs'
    queue_lists cs' = λ i. record s {
      documents = l.book.live i;
      made = l.book.made i;
      rights = l.book.held i;
      applications = l.book.numbered i;
      connections = with_queues s.connections cs';
    }

    book_lists : (ds' : DocumentList) (rs' : List Triple) (apps' : List (List ℕ)) → with_book s ds' rs' apps' ≡ with_lists s ds' rs' apps' cs
    book_lists ds' rs' apps' = λ i. record (with_book s ds' rs' apps') { connections = sym same_connections i }

    -- the same book, whose applications are the state's own
    own_book : IsBook s ds rs s.applications
    own_book = record { live = l.book.live; made = l.book.made; most_live = l.book.most_live; most_made = l.book.most_made; held = l.book.held; numbered = refl }

    own_lists : (ds' : DocumentList) (rs' : List Triple) → with_book s ds' rs' s.applications ≡ with_lists s ds' rs' apps cs
    own_lists ds' rs' = λ i. record (with_book s ds' rs' s.applications) { applications = l.book.numbered i; connections = sym same_connections i }

  -- what each call says
  abbrev pub OfBook : Who → Request → DocumentList → List Triple → List (List ℕ) → KeeperIs → KeeperIs → ServedCall → Type 0
  OfBook who request ds' rs' apps' old new served =
      (s : State) (d : Connection) → IsBook s ds rs apps → Valid s → d.who ≡ who → ServesKept s d request served.given (with_book s ds' rs' apps') served.answer old new

  abbrev pub OfOwn : Who → Request → DocumentList → List Triple → KeeperIs → KeeperIs → ServedCall → Type 0
  OfOwn who request ds' rs' old new served =
      (s : State) (d : Connection) → IsBook s ds rs s.applications → Valid s → d.who ≡ who → ServesKept s d request served.given (with_book s ds' rs' s.applications) served.answer old new

  abbrev pub OfPath : Who → Request → ServedCall → Type 0
  OfPath who request served = (s : State) (d : Connection) → s.documents ≡ ds.live → d.who ≡ who → Serves s d request served.given s served.answer

  abbrev pub OfRead : Who → Request → ServedCall → Type 0
  OfRead who request served = (s : State) (d : Connection) → s.documents ≡ ds.live → s.rights ≡ rs → d.who ≡ who → Serves s d request served.given s served.answer

  abbrev pub OfQueue : List ℕ → List Connection → ServedCall → Type 0
  OfQueue path cs' served =
      (s : State) (d : Connection) → Valid s → map silent s.connections ≡ cs → s.limits.queued ≡ queued → o ≡ Some (silent d) → Serves s d (Request.Present path) served.given (record s { connections = with_queues s.connections cs' }) served.answer

  -- of a seat without an open bus
  pub serves-nowhere : (request : Request) (k : KeeperIs) (served : ServedCall) → o ≡ None → served ≡ record { given = nothing_given; answer = Answer.Refused Code.NotHere } → ServesLists request ds rs apps cs k k served
  serves-nowhere request k served e h = λ s b v l q here.
      subst (ServedOn s request served.given (with_lists s ds rs apps cs) served.answer k k) (sym (none-there b (here ∙ e)))
      (ap (λ (x : ServedCall). x.given) h, ap (λ (x : ServedCall). x.answer) h, same_lists s l, refl)

  module _ (c : Connection) (here : o ≡ Some c) (who : Who) (bound : c.who ≡ who) (r : Result ServedCall WantOfMemory) where
    -- the call takes the applications too
    pub serves-book : (request : Request) (ds' : DocumentList) (rs' : List Triple) (apps' : List (List ℕ)) (old new : KeeperIs) →
        IfOk r (OfBook who request ds' rs' apps' old new) →
        IfOk r (ServesLists request ds' rs' apps' cs old new)
    serves-book request ds' rs' apps' old new = if_ok (OfBook who request ds' rs' apps' old new) (ServesLists request ds' rs' apps' cs old new) r (λ served k. λ s b v l q e.
        on-some (ServedOn s request served.given (with_lists s ds' rs' apps' cs) served.answer old new) b c (e ∙ here)
        (λ d same. subst (λ (t : State). ServesKept s d request served.given t served.answer old new) (book_lists s l ds' rs' apps') (k s d l.book v (ap (λ (x : Connection). x.who) same ∙ bound))))

    -- or leaves them
    pub serves-own : (request : Request) (ds' : DocumentList) (rs' : List Triple) (old new : KeeperIs) →
        IfOk r (OfOwn who request ds' rs' old new) →
        IfOk r (ServesLists request ds' rs' apps cs old new)
    serves-own request ds' rs' old new = if_ok (OfOwn who request ds' rs' old new) (ServesLists request ds' rs' apps cs old new) r (λ served k. λ s b v l q e.
        on-some (ServedOn s request served.given (with_lists s ds' rs' apps cs) served.answer old new) b c (e ∙ here)
        (λ d same. subst (λ (t : State). ServesKept s d request served.given t served.answer old new) (own_lists s l ds' rs') (k s d (own_book s l) v (ap (λ (x : Connection). x.who) same ∙ bound))))

    -- or changes nothing
    pub serves-path : (request : Request) (k : KeeperIs) → is_document_call request ≡ true → may_change_records request ≡ false →
        IfOk r (OfPath who request) →
        IfOk r (ServesLists request ds rs apps cs k k)
    serves-path request k call unkept = if_ok (OfPath who request) (ServesLists request ds rs apps cs k k) r (λ served h. λ s b v l q e.
        on-some (ServedOn s request served.given (with_lists s ds rs apps cs) served.answer k k) b c (e ∙ here)
        (λ d same. subst (λ (t : State). ServesKept s d request served.given t served.answer k k) (sym (same_lists s l))
        (kept_beside s d request served.given s served.answer k call unkept (h s d l.book.live (ap (λ (x : Connection). x.who) same ∙ bound)))))

    pub serves-read : (request : Request) (k : KeeperIs) → is_document_call request ≡ true → may_change_records request ≡ false →
        IfOk r (OfRead who request) →
        IfOk r (ServesLists request ds rs apps cs k k)
    serves-read request k call unkept = if_ok (OfRead who request) (ServesLists request ds rs apps cs k k) r (λ served h. λ s b v l q e.
        on-some (ServedOn s request served.given (with_lists s ds rs apps cs) served.answer k k) b c (e ∙ here)
        (λ d same. subst (λ (t : State). ServesKept s d request served.given t served.answer k k) (sym (same_lists s l))
        (kept_beside s d request served.given s served.answer k call unkept (h s d l.book.live l.book.held (ap (λ (x : Connection). x.who) same ∙ bound)))))

  -- or changes the connections alone
  pub serves-queue : (c : Connection) → o ≡ Some c → (r : Result ServedCall WantOfMemory) (path : List ℕ) (cs' : List Connection) (k : KeeperIs) →
      IfOk r (OfQueue path cs') →
      IfOk r (ServesLists (Request.Present path) ds rs apps cs' k k)
  serves-queue c here r path cs' k = if_ok (OfQueue path cs') (ServesLists (Request.Present path) ds rs apps cs' k k) r (λ served h. λ s b v l q e.
      on-some (ServedOn s (Request.Present path) served.given (with_lists s ds rs apps cs') served.answer k k) b c (e ∙ here)
      (λ d same. subst (λ (t : State). ServesKept s d (Request.Present path) served.given t served.answer k k) (queue_lists s l cs')
      (kept_beside s d (Request.Present path) served.given (record s { connections = with_queues s.connections cs' }) served.answer k refl refl (h s d v l.connected q (here ∙ ap (λ (x : Connection). Some x) (sym same))))))
