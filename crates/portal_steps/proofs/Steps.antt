-- One more entry of a history.
use Rattle.std.proofs.Common.{◌≡◌, ◌+◌, ◌<◌, ◌≤◌, ◌^◌, ℕ, ◌==◌, List, [], ◌∷◌, ◌++◌, length, map, true, false, cond, Option, Some, None, is_some, option_map, unwrap_or, refl, sym, ap, ◌∙◌, subst, arith}
use Rattle.change_signals.specs.Unsent.{AtSeat as BoxAtSeat, Boxes, IsSame, holding, left as left_box, unsent_on}
use Rattle.document_records.specs.Documents.{DocumentList}
use Rattle.node_looks.specs.OpenHandles.{AreOpen}
use Rattle.node_looks.specs.declared.served.FileBook.{FileBook}
use Rattle.node_looks.specs.declared.served.NodeDone.{NodeDone}
use Rattle.host_tree.specs.Trees.{TreeIs}
use Rattle.node_serving.specs.Seats.{AreEntered, IsServedIn, ServesSeat}
use Rattle.file_generations.specs.Generations.{Held}
use Rattle.file_ops.specs.SeatNames.{AreOwn, OwnTables}
use Rattle.folder_documents.specs.Named.{named_on}
use Rattle.open_handles.specs.Opened.{AtSeat, Enters, HandleTable, Leaves, opened_on}
use Rattle.portal_base.specs.declared.limits.Limits.{Limits}
use Rattle.portal_base.specs.declared.who.Kind.{Kind}
use Rattle.portal_base.specs.declared.who.Who.{Who}
use Rattle.portal_model.specs.declared.entry.Entry.{Entry}
use Rattle.portal_model.specs.declared.entry.Fault.TheVariants as Fault
use Rattle.portal_model.specs.declared.handle.OpenHandle.{OpenHandle}
use Rattle.portal_model.specs.declared.opening.OpeningState.{OpeningState}
use Rattle.portal_model.specs.declared.reply.Answer.{Answer}
use Rattle.portal_model.specs.declared.reply.Change.{Change}
use Rattle.portal_model.specs.declared.reply.Code.TheVariants as Code
use Rattle.portal_model.specs.declared.request.NodeRequest.{NodeRequest}
use Rattle.portal_model.specs.declared.request.Request.TheVariants as Request
use Rattle.portal_model.specs.declared.records.Records.{Records}
use Rattle.portal_model.specs.declared.state.Connection.{Connection}
use Rattle.portal_model.specs.declared.state.Triple.{Triple}
use Rattle.portal_model.specs.Enter.{enter_answer, entered, new_connection}
use Rattle.portal_model.specs.History.{run, cost, cost_of}
use Rattle.portal_model.specs.Lawful.{Lawful}
use Rattle.portal_model.specs.Kept.{records_of}
use Rattle.portal_model.specs.Leave.{handles_left, handles_of_others, leave_answer, left, of_others}
use Rattle.portal_model.specs.Opening.{opened_over}
use Rattle.portal_model.specs.State.{State, connection_of}
use Rattle.portal_model.specs.Seated.{is_open}
use Rattle.portal_model.specs.Step.{after, all_told, bus_of, collect_step, is_mount, reply_at, reply_with}
use Rattle.portal_model.specs.Store.{Entries}
use Rattle.portal_model.specs.Valid.{Valid, is_caller, is_host_bus}
use Rattle.portal_model.proofs.Histories.{run-append, Legal-append, cost-append}
use Rattle.portal_model.proofs.ListLookups.{found_passes, nat_is}
use Rattle.portal_model.proofs.ValidLaws.{all_told-Valid, run-Valid}
use Rattle.portal_steps.specs.Answered.{KeepsState}
use Rattle.portal_steps.specs.Held.{Holds, Stands}
use Rattle.portal_steps.specs.Served.{collect_answer, entry_of, node_entry}
use Rattle.portal_steps.specs.Stored.{Hears}
use Rattle.portal_steps.proofs.Boxes.{back-waits, bus-silent, entered-waits, hushed-unnamed, left-waits, silent-found, silent-joined, silent-others, silent-told, some-silent, taken-is, taken-waits, told-no-bus, unsent_of}
use Rattle.portal_steps.proofs.NamedSteps.{BeginsOwn, EndsOwn, OwnKept, own-entered, own-hushed, own-kept, own-left, own-told}
use Rattle.portal_steps.proofs.OpenSteps.{are-entered, not-entered, not-named, not-owned, open-entered, open-hushed, open-left, open-told}
use Rattle.portal_steps.proofs.QuietNodes.{ServesLoudly, quiet, quiet-valid, serves-loudly}
use Rattle.save_files.specs.Own.{own_on}
use Rattle.store_serving.specs.Serving.{HasStore}
use Rattle.store_serving.specs.Waiting.{box_on, silent}

-- ---- connections

pub bus_found : (o : Option Connection) (c : Connection) → bus_of o ≡ Some c → o ≡ Some c
bus_found None c e = cc
bus_found (Some d) c e = elim (is_mount d.kind) as (λ b. cond b None (Some d) ≡ Some c → Some d ≡ Some c) [ true ↦ λ h. cc | false ↦ λ h. h ] e

-- it is of that seat
pub seat_found : (cs : List Connection) (seat : ℕ) (c : Connection) → connection_of cs seat ≡ Some c → c.seat ≡ seat
seat_found cs seat c e = nat_is c.seat seat (found_passes (λ (x : Connection). x.seat == seat) cs c e)

others_within : (seat : ℕ) (cs : List Connection) → length (of_others seat cs) ≤ length cs
others_within seat [] = omega arith
others_within seat (c ∷ cs) = grind (arith, others_within seat cs)

-- fewer connections are of others, where one is of the seat
pub fewer_others : (seat : ℕ) (cs : List Connection) → is_some (connection_of cs seat) ≡ true → length (of_others seat cs) < length cs
fewer_others seat [] e = cc
fewer_others seat (c ∷ cs) e = grind (arith, fewer_others seat cs, others_within seat cs)

-- ---- the portal's lists

module _ (began : Option Held) (o : OpeningState) (h : List Entry) (limit : ℕ) (ds : DocumentList) (rs : List Triple) (apps : List (List ℕ)) (cs : List Connection) (table : HandleTable) (own : OwnTables) (told : Option Held)
    (p : Stands began o h limit ds rs apps cs table own told) where
  abbrev now : State
  now = run (opened_over began o) h

  pub valid-now : Valid now
  valid-now = run-Valid h (opened_over began o) p.legal

  pub limit-now : o.limits.queued < 2 ^ 32
  limit-now = subst (λ (l : Limits). l.queued < 2 ^ 32) p.holds.limits_are valid-now.queued_limit

  -- the portal's own connections wait for nothing
  pub connection-now : (seat : ℕ) → option_map silent (connection_of now.connections seat) ≡ connection_of cs seat
  connection-now seat = sym (silent-found now.connections seat) ∙ ap (λ (l : List Connection). connection_of l seat) p.holds.lists.connected

  some-now : (seat : ℕ) → is_some (connection_of now.connections seat) ≡ is_some (connection_of cs seat)
  some-now seat = sym (some-silent (connection_of now.connections seat)) ∙ ap (λ (c : Option Connection). is_some c) (connection-now seat)

  -- a step on: the state after it holds what the portal has then
  pub stands_more : (e : Entry) (ds' : DocumentList) (rs' : List Triple) (apps' : List (List ℕ)) (cs' : List Connection) (table' : HandleTable) (own' : OwnTables) (told' : Option Held) → Lawful now e → Holds (after now e) o.limits ds' rs' apps' cs' table' own' told' → cost h + cost_of e.request ≤ o.limits.history →
      Stands began o (h ++ e ∷ []) limit ds' rs' apps' cs' table' own' told'
  stands_more e ds' rs' apps' cs' table' own' told' k a room = record {
    legal = Legal-append h (e ∷ []) (opened_over began o) p.legal (record { opening = valid-now; lawful = (k, tt) });
    limit_is = p.limit_is;
    within = rw (cost-append h (e ∷ [])) (omega arith);
    holds = subst (λ (s : State). Holds s o.limits ds' rs' apps' cs' table' own' told') (sym (run-append h (e ∷ []) (opened_over began o))) a;
  }

  -- the records stay where the step leaves them
  keeps-on : (e : Entry) (kept : Option Records) → records_of (after now e) ≡ records_of now → KeepsState kept now → KeepsState kept (run (opened_over began o) (h ++ e ∷ []))
  keeps-on e kept r k = subst (λ (s : State). KeepsState kept s) (sym (run-append h (e ∷ []) (opened_over began o))) (same-records kept (after now e) r k)
    where
      same-records : (kept : Option Records) (s : State) → records_of s ≡ records_of now → KeepsState kept now → KeepsState kept s
      same-records None s r k = tt
      same-records (Some records) s r k = k ∙ sym r

  pub keeps-entered : (seat : ℕ) (who : Who) (kind : Kind) (kept : Option Records) → KeepsState kept now → KeepsState kept (run (opened_over began o) (h ++ entry_of seat (Request.Enter who kind) [] Fault.None ∷ []))
  keeps-entered seat who kind kept k = keeps-on (entry_of seat (Request.Enter who kind) [] Fault.None) kept refl k

  pub keeps-left : (seat : ℕ) (kept : Option Records) → KeepsState kept now → KeepsState kept (run (opened_over began o) (h ++ entry_of seat Request.Leave [] Fault.None ∷ []))
  keeps-left seat kept k = keeps-on (entry_of seat Request.Leave [] Fault.None) kept refl k

  -- entries and boxes of the state after a step are those after the longer history
  pub stored_more : (e : Entry) (entries : Entries) (boxes : Boxes) → HasStore (after now e) entries boxes → HasStore (run (opened_over began o) (h ++ e ∷ [])) entries boxes
  stored_more e entries boxes a = subst (λ (s : State). HasStore s entries boxes) (sym (run-append h (e ∷ []) (opened_over began o))) a

  -- the state itself, where nothing changes
  stays : (e : Entry) → Lawful now e → after now e ≡ now → cost h + cost_of e.request ≤ o.limits.history → Stands began o (h ++ e ∷ []) limit ds rs apps cs table own told
  stays e k a room = stands_more e ds rs apps cs table own told k (subst (λ (s : State). Holds s o.limits ds rs apps cs table own told) (sym a) p.holds) room

  stored_stays : (e : Entry) (entries : Entries) (boxes : Boxes) → after now e ≡ now → HasStore now entries boxes → HasStore (run (opened_over began o) (h ++ e ∷ [])) entries boxes
  stored_stays e entries boxes a k = stored_more e entries boxes (subst (λ (s : State). HasStore s entries boxes) (sym a) k)

  -- other connections
  holds_connected : (now' : List Connection) (cs' : List Connection) (table' : HandleTable) (own' : OwnTables) (handles : List OpenHandle) → map silent now' ≡ cs' → AreOpen (record now { connections = now'; handles = handles }) table' → AreOwn (record now { connections = now'; handles = handles }) own' →
      Holds (record now { connections = now'; handles = handles }) o.limits ds rs apps cs' table' own' told
  holds_connected now' cs' table' own' handles silent-is a m = record {
    limits_are = p.holds.limits_are;
    lists = record {
      book = record {
        live = p.holds.lists.book.live;
        made = p.holds.lists.book.made;
        most_live = p.holds.lists.book.most_live;
        most_made = p.holds.lists.book.most_made;
        held = p.holds.lists.book.held;
        numbered = p.holds.lists.book.numbered;
      };
      connected = silent-is;
    };
    handles = a;
    own = m;
    files = p.holds.files;
  }

  -- an Enter

  enter_lawful : (seat : ℕ) (who : Who) (kind : Kind) → is_caller who ≡ true → Lawful now (entry_of seat (Request.Enter who kind) [] Fault.None)
  enter_lawful seat who kind named = record { given = (named, refl) }

  entered_there : (seat : ℕ) (who : Who) (kind : Kind) (xs : List Connection) (c : Option Connection) → is_some c ≡ true → entered seat who kind xs c ≡ xs
  entered_there seat who kind xs None e = cc
  entered_there seat who kind xs (Some c) e = refl

  entered_new : (seat : ℕ) (who : Who) (kind : Kind) (xs : List Connection) (c : Option Connection) → c ≡ None → entered seat who kind xs c ≡ xs ++ new_connection seat who kind ∷ []
  entered_new seat who kind xs None e = refl
  entered_new seat who kind xs (Some c) e = cc

  there_stays : (seat : ℕ) (who : Who) (kind : Kind) → is_some (connection_of cs seat) ≡ true → after now (entry_of seat (Request.Enter who kind) [] Fault.None) ≡ now
  there_stays seat who kind t = λ i. record now { connections = entered_there seat who kind now.connections (connection_of now.connections seat) (some-now seat ∙ t) i }

  pub stands_there : (seat : ℕ) (who : Who) (kind : Kind) → is_caller who ≡ true → is_some (connection_of cs seat) ≡ true → cost h + cost_of (Request.Enter who kind) ≤ o.limits.history →
      Stands began o (h ++ entry_of seat (Request.Enter who kind) [] Fault.None ∷ []) limit ds rs apps cs table own told
  stands_there seat who kind named t room =
      stays (entry_of seat (Request.Enter who kind) [] Fault.None) (enter_lawful seat who kind named)
      (there_stays seat who kind t) room

  pub stored_there : (seat : ℕ) (who : Who) (kind : Kind) (entries : Entries) (boxes : Boxes) → is_some (connection_of cs seat) ≡ true → HasStore now entries boxes → HasStore (run (opened_over began o) (h ++ entry_of seat (Request.Enter who kind) [] Fault.None ∷ [])) entries boxes
  stored_there seat who kind entries boxes t k = stored_stays (entry_of seat (Request.Enter who kind) [] Fault.None) entries boxes (there_stays seat who kind t) k

  there_answered : (c : Option Connection) → is_some c ≡ true → Answer.Refused Code.NotHere ≡ enter_answer c
  there_answered None e = absurd (cc)
  there_answered (Some c) e = refl

  pub there_replied : (seat : ℕ) (who : Who) (kind : Kind) → is_some (connection_of cs seat) ≡ true → reply_with [] (Answer.Refused Code.NotHere) ≡ reply_at now (entry_of seat (Request.Enter who kind) [] Fault.None)
  there_replied seat who kind t = ap (reply_with []) (there_answered (connection_of now.connections seat) (some-now seat ∙ t))

  no_connection : (c : Option Connection) → is_some c ≡ false → c ≡ None
  no_connection None e = refl
  no_connection (Some c) e = cc

  free_now : (seat : ℕ) → is_some (connection_of cs seat) ≡ false → connection_of now.connections seat ≡ None
  free_now seat t = no_connection (connection_of now.connections seat) (some-now seat ∙ t)

  -- the seat has no box
  pub unheard : (seat : ℕ) (entries : Entries) (boxes : Boxes) → is_some (connection_of cs seat) ≡ false → HasStore now entries boxes → unsent_on boxes seat ≡ None
  unheard seat entries boxes t k = k.waiting seat ∙ ap box_on (free_now seat t)

  new_answered : (c : Option Connection) → c ≡ None → Answer.Done ≡ enter_answer c
  new_answered None e = refl
  new_answered (Some c) e = absurd (cc)

  pub new_replied : (seat : ℕ) (who : Who) (kind : Kind) → is_some (connection_of cs seat) ≡ false → reply_with [] Answer.Done ≡ reply_at now (entry_of seat (Request.Enter who kind) [] Fault.None)
  new_replied seat who kind t = ap (reply_with []) (new_answered (connection_of now.connections seat) (free_now seat t))

  new_joins : (seat : ℕ) (who : Who) (kind : Kind) → is_some (connection_of cs seat) ≡ false → after now (entry_of seat (Request.Enter who kind) [] Fault.None) ≡ record now { connections = now.connections ++ new_connection seat who kind ∷ [] }
  new_joins seat who kind t = λ i. record now { connections = entered_new seat who kind now.connections (connection_of now.connections seat) (free_now seat t) i }

  pub closed : (seat : ℕ) → is_some (connection_of cs seat) ≡ false → opened_on table.seats seat ≡ None
  closed seat t = not-entered now cs table seat p.holds.lists.connected p.holds.handles (no_connection (connection_of cs seat) t)

  pub unnamed_now : (seat : ℕ) → is_some (connection_of cs seat) ≡ false → named_on own.names seat ≡ None
  unnamed_now seat t = not-named now cs own.names seat p.holds.lists.connected p.holds.own.named (no_connection (connection_of cs seat) t)

  pub unowned_now : (seat : ℕ) → is_some (connection_of cs seat) ≡ false → own_on own.temps.seats seat ≡ None
  unowned_now seat t = not-owned now cs own.temps seat p.holds.lists.connected p.holds.own.temps (no_connection (connection_of cs seat) t)

  pub stands_new : (seat : ℕ) (who : Who) (kind : Kind) (table' : HandleTable) (own' : OwnTables) → is_caller who ≡ true → is_some (connection_of cs seat) ≡ false → table'.most ≡ table.most → AtSeat Enters table.seats table'.seats seat → BeginsOwn own own' seat → cost h + cost_of (Request.Enter who kind) ≤ o.limits.history →
      Stands began o (h ++ entry_of seat (Request.Enter who kind) [] Fault.None ∷ []) limit ds rs apps (cs ++ new_connection seat who kind ∷ []) table' own' told
  stands_new seat who kind table' own' named t most enters begins room =
      let free : connection_of now.connections seat ≡ None = free_now seat t in
      let more : List Connection = now.connections ++ new_connection seat who kind ∷ [] in
      let silent-is : map silent more ≡ cs ++ new_connection seat who kind ∷ [] = silent-joined now.connections seat who kind ∙ ap (λ (l : List Connection). l ++ new_connection seat who kind ∷ []) p.holds.lists.connected in
      stands_more (entry_of seat (Request.Enter who kind) [] Fault.None) ds rs apps (cs ++ new_connection seat who kind ∷ []) table' own' told (enter_lawful seat who kind named)
      (subst (λ (s : State). Holds s o.limits ds rs apps (cs ++ new_connection seat who kind ∷ []) table' own' told) (sym (new_joins seat who kind t))
      (holds_connected more (cs ++ new_connection seat who kind ∷ []) table' own' now.handles silent-is (open-entered now seat who kind table table' p.holds.handles free valid-now.handles_sound most enters)
      (own-entered now seat who kind own own' p.holds.own free begins))) room

  pub stored_new : (seat : ℕ) (who : Who) (kind : Kind) (entries : Entries) (boxes boxes' : Boxes) → is_some (connection_of cs seat) ≡ false → Hears (is_host_bus who kind) seat boxes boxes' → HasStore now entries boxes →
      HasStore (run (opened_over began o) (h ++ entry_of seat (Request.Enter who kind) [] Fault.None ∷ [])) entries boxes'
  stored_new seat who kind entries boxes boxes' t hears k =
      stored_more (entry_of seat (Request.Enter who kind) [] Fault.None) entries boxes'
      (subst (λ (s : State). HasStore s entries boxes') (sym (new_joins seat who kind t))
      (record { stored = k.stored; waiting = entered-waits seat who kind now.connections boxes boxes' (free_now seat t) k.waiting hears }))

  -- a Leave

  leave_lawful : (seat : ℕ) → Lawful now (entry_of seat Request.Leave [] Fault.None)
  leave_lawful seat = record { given = refl }

  left_absent : (seat : ℕ) (c : Option Connection) → c ≡ None → record now { connections = left seat now.connections c; handles = handles_left seat now.handles c } ≡ now
  left_absent seat None e = refl
  left_absent seat (Some c) e = absurd (cc)

  left_here : (seat : ℕ) (c : Option Connection) → is_some c ≡ true → record now { connections = left seat now.connections c; handles = handles_left seat now.handles c } ≡ record now { connections = of_others seat now.connections; handles = handles_of_others seat now.handles }
  left_here seat None e = absurd (cc)
  left_here seat (Some c) e = refl

  absent_stays : (seat : ℕ) → is_some (connection_of cs seat) ≡ false → after now (entry_of seat Request.Leave [] Fault.None) ≡ now
  absent_stays seat t = left_absent seat (connection_of now.connections seat) (free_now seat t)

  absent_answered : (c : Option Connection) → c ≡ None → Answer.Refused Code.NotHere ≡ leave_answer c
  absent_answered None e = refl
  absent_answered (Some c) e = absurd (cc)

  pub absent_replied : (seat : ℕ) → is_some (connection_of cs seat) ≡ false → reply_with [] (Answer.Refused Code.NotHere) ≡ reply_at now (entry_of seat Request.Leave [] Fault.None)
  absent_replied seat t = ap (reply_with []) (absent_answered (connection_of now.connections seat) (free_now seat t))

  -- a seat whose connection the portal has not is not open
  pub absent_closed : (seat : ℕ) → is_some (connection_of cs seat) ≡ false → is_open now seat ≡ true → ⊥
  absent_closed seat t here = let no : true ≡ false = sym here ∙ (some-now seat ∙ t) in cc

  pub stands_absent : (seat : ℕ) → is_some (connection_of cs seat) ≡ false → Stands began o (h ++ entry_of seat Request.Leave [] Fault.None ∷ []) limit ds rs apps cs table own told
  stands_absent seat t = stays (entry_of seat Request.Leave [] Fault.None) (leave_lawful seat) (absent_stays seat t) (omega (arith, p.within))

  pub stored_absent : (seat : ℕ) (entries : Entries) (boxes : Boxes) → is_some (connection_of cs seat) ≡ false → HasStore now entries boxes → HasStore (run (opened_over began o) (h ++ entry_of seat Request.Leave [] Fault.None ∷ [])) entries boxes
  stored_absent seat entries boxes t k = stored_stays (entry_of seat Request.Leave [] Fault.None) entries boxes (absent_stays seat t) k

  here_leaves : (seat : ℕ) → is_some (connection_of cs seat) ≡ true → after now (entry_of seat Request.Leave [] Fault.None) ≡ record now { connections = of_others seat now.connections; handles = handles_of_others seat now.handles }
  here_leaves seat t = left_here seat (connection_of now.connections seat) (some-now seat ∙ t)

  left_answered : (c : Option Connection) → is_some c ≡ true → Answer.Done ≡ leave_answer c
  left_answered None e = absurd (cc)
  left_answered (Some c) e = refl

  pub left_replied : (seat : ℕ) → is_some (connection_of cs seat) ≡ true → reply_with [] Answer.Done ≡ reply_at now (entry_of seat Request.Leave [] Fault.None)
  left_replied seat t = ap (reply_with []) (left_answered (connection_of now.connections seat) (some-now seat ∙ t))

  pub stands_left : (seat : ℕ) (table' : HandleTable) (own' : OwnTables) → is_some (connection_of cs seat) ≡ true → table'.most ≡ table.most → AtSeat Leaves table.seats table'.seats seat → EndsOwn own own' seat →
      Stands began o (h ++ entry_of seat Request.Leave [] Fault.None ∷ []) limit ds rs apps (of_others seat cs) table' own' told
  stands_left seat table' own' t most leaves ends =
      let silent-is : map silent (of_others seat now.connections) ≡ of_others seat cs = silent-others seat now.connections ∙ ap (of_others seat) p.holds.lists.connected in
      stands_more (entry_of seat Request.Leave [] Fault.None) ds rs apps (of_others seat cs) table' own' told (leave_lawful seat)
      (subst (λ (s : State). Holds s o.limits ds rs apps (of_others seat cs) table' own' told) (sym (here_leaves seat t))
      (holds_connected (of_others seat now.connections) (of_others seat cs) table' own' (handles_of_others seat now.handles) silent-is (open-left now seat table table' p.holds.handles most leaves)
      (own-left now seat own own' p.holds.own ends))) (omega (arith, p.within))

  pub stored_left : (seat : ℕ) (entries : Entries) (boxes boxes' : Boxes) → is_some (connection_of cs seat) ≡ true → BoxAtSeat left_box boxes boxes' seat → HasStore now entries boxes → HasStore (run (opened_over began o) (h ++ entry_of seat Request.Leave [] Fault.None ∷ [])) entries boxes'
  stored_left seat entries boxes boxes' t gone k =
      stored_more (entry_of seat Request.Leave [] Fault.None) entries boxes'
      (subst (λ (s : State). HasStore s entries boxes') (sym (here_leaves seat t))
      (record { stored = k.stored; waiting = left-waits seat now.connections boxes boxes' gone k.waiting }))

  -- a Collect

  module _ (seat : ℕ) where
    -- the connection of the seat is told what it waited for
    abbrev pub told_now : State
    told_now = all_told seat now

    pub valid-told : Valid told_now
    valid-told = all_told-Valid now seat valid-now

    pub holds_told : Holds told_now o.limits ds rs apps cs table own told
    holds_told = record {
      limits_are = p.holds.limits_are;
      lists = record {
        book = record {
          live = p.holds.lists.book.live;
          made = p.holds.lists.book.made;
          most_live = p.holds.lists.book.most_live;
          most_made = p.holds.lists.book.most_made;
          held = p.holds.lists.book.held;
          numbered = p.holds.lists.book.numbered;
        };
        connected = silent-told seat now.connections ∙ p.holds.lists.connected;
      };
      handles = open-told table now seat p.holds.handles;
      own = own-told own now seat p.holds.own;
      files = p.holds.files;
    }

    pub stored_told : (entries : Entries) (boxes boxes' : Boxes) → BoxAtSeat (holding []) boxes boxes' seat → HasStore now entries boxes → HasStore told_now entries boxes'
    stored_told entries boxes boxes' taken k = record { stored = k.stored; waiting = taken-waits seat now.connections boxes boxes' taken k.waiting }

    -- where there is no memory it waits again
    pub stored_back : (entries : Entries) (boxes taken same boxes' : Boxes) (signals : List Change) → BoxAtSeat (holding []) boxes taken seat → IsSame taken same → signals ≡ unwrap_or (unsent_on boxes seat) [] → BoxAtSeat (holding signals) same boxes' seat → HasStore now entries boxes →
        HasStore now entries boxes'
    stored_back entries boxes taken same boxes' signals t k e b st = record { stored = st.stored; waiting = back-waits seat now.connections boxes taken same boxes' signals t k e b st.waiting }

    -- the bus of the seat, as the portal has it
    pub bus-now : option_map silent (bus_of (connection_of now.connections seat)) ≡ bus_of (connection_of cs seat)
    bus-now = sym (bus-silent (connection_of now.connections seat)) ∙ ap bus_of (connection-now seat)

    -- what was taken
    pub signals-now : (entries : Entries) (boxes : Boxes) (signals : List Change) → HasStore now entries boxes → signals ≡ unwrap_or (unsent_on boxes seat) [] → signals ≡ unsent_of (bus_of (connection_of now.connections seat))
    signals-now entries boxes signals k e = taken-is now seat boxes signals valid-now k.waiting e

    collect_told : (b : Option Connection) → bus_of (connection_of now.connections seat) ≡ b → (collect_step now b).0 ≡ told_now
    collect_told None e = sym (told-no-bus now seat valid-now e)
    collect_told (Some c) e = ap (λ (n : ℕ). all_told n now) (seat_found now.connections seat c (bus_found (connection_of now.connections seat) c e))

    collect_after : after now (entry_of seat Request.Collect [] Fault.None) ≡ told_now
    collect_after = collect_told (bus_of (connection_of now.connections seat)) refl

    pub stands_collected : cost h + cost_of Request.Collect ≤ o.limits.history → Stands began o (h ++ entry_of seat Request.Collect [] Fault.None ∷ []) limit ds rs apps cs table own told
    stands_collected room =
        stands_more (entry_of seat Request.Collect [] Fault.None) ds rs apps cs table own told (record { given = refl })
        (subst (λ (s : State). Holds s o.limits ds rs apps cs table own told) (sym collect_after) holds_told) room

    pub stored_collected : (entries : Entries) (boxes boxes' : Boxes) → BoxAtSeat (holding []) boxes boxes' seat → HasStore now entries boxes → HasStore (run (opened_over began o) (h ++ entry_of seat Request.Collect [] Fault.None ∷ [])) entries boxes'
    stored_collected entries boxes boxes' taken k =
        stored_more (entry_of seat Request.Collect [] Fault.None) entries boxes' (subst (λ (s : State). HasStore s entries boxes') (sym collect_after) (stored_told entries boxes boxes' taken k))

    pub keeps-collected : (kept : Option Records) → KeepsState kept now → KeepsState kept (run (opened_over began o) (h ++ entry_of seat Request.Collect [] Fault.None ∷ []))
    keeps-collected kept k = keeps-on (entry_of seat Request.Collect [] Fault.None) kept (ap records_of collect_after) k

    collect_replied : (b : Option Connection) → reply_with (unsent_of b) (collect_answer b) ≡ (collect_step now b).1
    collect_replied None = refl
    collect_replied (Some c) = refl

    collect_silent : (b : Option Connection) → collect_answer (option_map silent b) ≡ collect_answer b
    collect_silent None = refl
    collect_silent (Some c) = refl

    -- what the code answers is what the step replies
    pub collect_answered : (entries : Entries) (boxes : Boxes) (signals : List Change) → HasStore now entries boxes → signals ≡ unwrap_or (unsent_on boxes seat) [] →
        reply_with signals (collect_answer (bus_of (connection_of cs seat))) ≡ (collect_step now (bus_of (connection_of now.connections seat))).1
    collect_answered entries boxes signals k e =
        (λ i. reply_with (signals-now entries boxes signals k e i) ((sym (ap collect_answer bus-now) ∙ collect_silent (bus_of (connection_of now.connections seat))) i))
        ∙ collect_replied (bus_of (connection_of now.connections seat))

  -- a request on a node

  -- the state but for what connections wait for, which are those of the portal then
  pub served_in : (book : FileBook) → book.view.documents.now ≡ ds → book.view.grants.now ≡ rs → book.view.applications.now ≡ apps → book.file_limit ≡ o.limits.file_bytes → IsServedIn (quiet now) book cs table own told
  served_in book d r a l = record {
    valid = quiet-valid now valid-now;
    lists = record {
      documents = p.holds.lists.book.live ∙ ap (λ (x : DocumentList). x.live) (sym d);
      rights = p.holds.lists.book.held ∙ sym r;
      applications = p.holds.lists.book.numbered ∙ sym a;
    };
    limit = ap (λ (x : Limits). x.file_bytes) p.holds.limits_are ∙ sym l;
    connected = hushed-unnamed now.connections ∙ p.holds.lists.connected;
    handles = open-hushed table now p.holds.handles;
    own = own-hushed own now p.holds.own;
    files = p.holds.files;
  }

  pub entered-now : AreEntered cs table own
  entered-now = are-entered now cs table own p.holds.lists.connected p.holds.handles p.holds.own

  -- where memory was wanted, the tables may have changed
  pub stands_wanting : (table' : HandleTable) (own' : OwnTables) → ((s : State) → AreOpen s table → AreOpen s table') → OwnKept own own' → Stands began o h limit ds rs apps cs table' own' told
  stands_wanting table' own' w k = record {
    legal = p.legal;
    limit_is = p.limit_is;
    within = p.within;
    holds = record {
      limits_are = p.holds.limits_are;
      lists = p.holds.lists;
      handles = w now p.holds.handles;
      own = own-kept now own own' k p.holds.own;
      files = p.holds.files;
    };
  }

  module _ (seat : ℕ) (r : NodeRequest) (old : TreeIs) (done : NodeDone) (cs' : List Connection) (table' : HandleTable) (own' : OwnTables) (new : TreeIs) (served : ServesSeat (quiet now) seat r old done cs' table' own' new) where
    pub loud-served : ServesLoudly now seat r old done cs' table' own' new
    loud-served = serves-loudly now seat r old done cs' table' own' new valid-now served

    holds-served : Holds (after now (node_entry seat r done)) o.limits ds rs apps cs' table' own' new.told
    holds-served =
        let k = loud-served.serves in
        record {
          limits_are = ap (λ (s : State). s.limits) k.stays ∙ p.holds.limits_are;
          lists = record {
            book = record {
              live = ap (λ (s : State). s.documents) k.stays ∙ p.holds.lists.book.live;
              made = ap (λ (s : State). s.made) k.stays ∙ p.holds.lists.book.made;
              most_live = ap (λ (s : State). s.limits.documents) k.stays ∙ p.holds.lists.book.most_live;
              most_made = ap (λ (s : State). s.limits.made) k.stays ∙ p.holds.lists.book.most_made;
              held = ap (λ (s : State). s.rights) k.stays ∙ p.holds.lists.book.held;
              numbered = ap (λ (s : State). s.applications) k.stays ∙ p.holds.lists.book.numbered;
            };
            connected = loud-served.connected;
          };
          handles = k.handles;
          own = k.own;
          files = k.files;
        }

    pub lawful_node : Lawful now (node_entry seat r done)
    lawful_node = record { given = loud-served.serves.lawful }

    pub stands_node : cost h + cost_of (Request.Node r) ≤ o.limits.history → Stands began o (h ++ node_entry seat r done ∷ []) limit ds rs apps cs' table' own' new.told
    stands_node room = stands_more (node_entry seat r done) ds rs apps cs' table' own' new.told lawful_node holds-served room

    pub stored_node : (entries : Entries) (boxes : Boxes) → HasStore now entries boxes → HasStore (run (opened_over began o) (h ++ node_entry seat r done ∷ [])) entries boxes
    stored_node entries boxes k =
        stored_more (node_entry seat r done) entries boxes
        (record { stored = ap (λ (s : State). s.entries) loud-served.serves.stays ∙ k.stored; waiting = loud-served.waiting boxes k.waiting })

    -- the records of the state stay
    pub keeps-node : (kept : Option Records) → KeepsState kept now → KeepsState kept (run (opened_over began o) (h ++ node_entry seat r done ∷ []))
    keeps-node kept k' = keeps-on (node_entry seat r done) kept (ap records_of loud-served.serves.stays) k'
