-- A request of a seat is one step, whether it has an open mount or not.
use Rattle.std.proofs.Common.{◌≡◌, ◌≢◌, ℕ, ◌+◌, ◌==◌, ◌≤◌, nat_eq, List, [], ◌∷◌, map, Bool, true, false, cond, Option, Some, None, refl, sym, ap, subst, ◌∙◌, arith}
use Rattle.std.specs.Option.{option_map}
use Rattle.std.specs.List.{AllByRecursion, IsDistinct, list_any}
use Rattle.std.proofs.lemmas.Bool.Decides.{nat_tests}
use Rattle.file_generations.specs.Generations.{Held}
use Rattle.file_ops.specs.SeatNames.{AreOwn, DoesNaming, DoneNaming, OwnTables}
use Rattle.node_looks.specs.Done.{DoneIn, IsAnswer}
use Rattle.node_looks.specs.OpenHandles.{AreOpen}
use Rattle.node_looks.specs.Served.{given_to}
use Rattle.node_looks.specs.TreeCalls.{Call, Calling, after_calls, calls_of}
use Rattle.node_looks.specs.declared.served.FileBook.{FileBook}
use Rattle.node_looks.specs.declared.served.NodeCall.{NodeCall}
use Rattle.node_looks.specs.declared.served.NodeDone.{NodeDone}
use Rattle.host_tree.specs.Trees.{TreeIs, after_call}
use Rattle.open_handles.specs.Opened.{HandleTable}
use Rattle.portal_base.specs.Outside.{HasRisen}
use Rattle.portal_base.specs.declared.files.ChildName.{ChildName}
use Rattle.portal_base.specs.declared.files.Look.{Look}
use Rattle.portal_model.specs.declared.reply.Answer.{Answer}
use Rattle.portal_model.specs.declared.reply.Code.{Code}
use Rattle.portal_model.specs.declared.reply.NodeAnswer.{NodeAnswer}
use Rattle.portal_model.specs.declared.reply.Reply.{Reply}
use Rattle.portal_model.specs.declared.request.NodeOp.{NodeOp}
use Rattle.portal_model.specs.declared.request.NodeRequest.{NodeRequest}
use Rattle.portal_model.specs.declared.request.Request.TheVariants as Request
use Rattle.portal_model.specs.declared.state.Connection.{Connection}
use Rattle.portal_model.specs.Alike.{Alike, NodeAlike, ReadsAlike, TellsAlike}
use Rattle.portal_model.specs.Bus.{is_tree, moment_given}
use Rattle.portal_model.specs.Errno.{eio}
use Rattle.portal_model.specs.Lawful.{LawfulOnNode}
use Rattle.portal_model.specs.Node.{connections_after, connections_named, counted, facts_of, node_answer, node_given, room_of, settled_on_node, walk_on_node, with_temps}
use Rattle.portal_model.specs.NodeOutside.{LawfulNode}
use Rattle.portal_model.specs.NodeVerdict.{NodeVerdict, HandleChange, HandlesStay, NameChange, Names, NamesStay, Temps, Opens, Closes, Errs, Yields, Room}
use Rattle.portal_model.specs.Outside.{files_told}
use Rattle.portal_model.specs.RecordChanges.{change_first}
use Rattle.portal_model.specs.SeatNames.{with_naming}
use Rattle.portal_model.specs.State.{State, connection_of, held_in}
use Rattle.portal_model.specs.Step.{all_told, is_mount, mount_of, node_step, reply_with, with_signals}
use Rattle.portal_model.specs.Walk.{Walk, Answers, Looks, Ends, Lists, Gives, walked_with}
use Rattle.portal_model.proofs.ListLookups.{found_passes, nat_is}
use Rattle.portal_model.proofs.WhoWaits.{all_told-nothing, mount-quiet, node_step-quiet}
use Rattle.node_serving.specs.Numbered.{handle_given, is_of, numbered, with_last}
use Rattle.node_serving.specs.Seats.{IsServedIn, ServesSeat, calls_on, refused_here, seat_step, unnamed}
use Rattle.node_serving.proofs.FairWalks.{IsFair, Fair, fair-walk, number_of}

mount_found : (o : Option Connection) (c : Connection) → mount_of o ≡ Some c → o ≡ Some c
mount_found None c e = cc
mount_found (Some d) c e = elim (is_mount d.kind) as (λ b. cond b (Some d) None ≡ Some c → Some d ≡ Some c) [ true ↦ λ h. h | false ↦ λ h. cc ] e

mount_kind : (o : Option Connection) (c : Connection) → mount_of o ≡ Some c → is_mount c.kind ≡ true
mount_kind None c e = cc
mount_kind (Some d) c e = by_kind (is_mount d.kind) refl e
  where
    by_kind : (b : Bool) → is_mount d.kind ≡ b → cond b (Some d) None ≡ Some c → is_mount c.kind ≡ true
    by_kind true k h = let same : d ≡ c = cc in ap (λ (x : Connection). is_mount x.kind) (sym same) ∙ k
    by_kind false k h = cc

-- ---- answers that are alike

-- an answer but for a content
abbrev pub brief : Answer → Answer
brief (Answer.Node (NodeAnswer.Content bytes)) = Answer.Node (NodeAnswer.Content [])
brief answer = answer

tells-brief : (size : ℕ) (told : NodeAnswer) (given : Answer) → TellsAlike size told given → brief given ≡ brief (Answer.Node told)
tells-brief size (NodeAnswer.Content stepped) given h = ap brief h.1
tells-brief size (NodeAnswer.Entry attr) given h = ap brief h
tells-brief size (NodeAnswer.Attr attr) given h = ap brief h
tells-brief size (NodeAnswer.Opened fh) given h = ap brief h
tells-brief size (NodeAnswer.Created attr fh) given h = ap brief h
tells-brief size (NodeAnswer.Written written) given h = ap brief h
tells-brief size (NodeAnswer.Names names offset most) given h = ap brief h
tells-brief size NodeAnswer.Empty given h = ap brief h
tells-brief size NodeAnswer.Quiet given h = ap brief h
tells-brief size (NodeAnswer.Error errno) given h = ap brief h
tells-brief size (NodeAnswer.Init major minor ahead flags background congestion most grain) given h = ap brief h
tells-brief size NodeAnswer.Statfs given h = ap brief h

reads-brief : (size : ℕ) (stepped given : Answer) → ReadsAlike size stepped given → brief given ≡ brief stepped
reads-brief size (Answer.Node told) given h = tells-brief size told given h
reads-brief size Answer.Done given h = ap brief h
reads-brief size (Answer.Refused code) given h = ap brief h
reads-brief size (Answer.Place place) given h = ap brief h
reads-brief size (Answer.Ids ids) given h = ap brief h
reads-brief size (Answer.Info path rights) given h = ap brief h
reads-brief size (Answer.Listed documents) given h = ap brief h
reads-brief size (Answer.Entry rows datum) given h = ap brief h
reads-brief size (Answer.Names names) given h = ap brief h

pub node-brief : (op : NodeOp) (stepped given : Answer) → NodeAlike op stepped given → brief given ≡ brief stepped
node-brief (NodeOp.Read fh offset size) stepped given h = reads-brief size stepped given h
node-brief (NodeOp.Lookup name) stepped given h = ap brief h
node-brief (NodeOp.Forget count) stepped given h = ap brief h
node-brief (NodeOp.BatchForget nodes) stepped given h = ap brief h
node-brief (NodeOp.GetAttr flags fh) stepped given h = ap brief h
node-brief (NodeOp.SetAttr valid fh size) stepped given h = ap brief h
node-brief (NodeOp.Open flags) stepped given h = ap brief h
node-brief (NodeOp.Create name flags) stepped given h = ap brief h
node-brief (NodeOp.Write fh offset content) stepped given h = ap brief h
node-brief (NodeOp.Flush fh) stepped given h = ap brief h
node-brief (NodeOp.Fsync fh) stepped given h = ap brief h
node-brief (NodeOp.Release fh) stepped given h = ap brief h
node-brief NodeOp.OpenDir stepped given h = ap brief h
node-brief (NodeOp.ReadDir fh offset size) stepped given h = ap brief h
node-brief (NodeOp.ReleaseDir fh) stepped given h = ap brief h
node-brief (NodeOp.Access mask) stepped given h = ap brief h
node-brief (NodeOp.Rename new_parent flags old_name new_name) stepped given h = ap brief h
node-brief (NodeOp.Unlink name) stepped given h = ap brief h

answer-brief : (told : Option Held) (op : NodeOp) (stepped given : Answer) → IsAnswer told op stepped given → brief given ≡ brief stepped
answer-brief (Some held) op stepped given h = ap brief h
answer-brief None op stepped given h = node-brief op stepped given h

handle-brief : (a : Answer) → handle_given (brief a) ≡ handle_given a
handle-brief (Answer.Node (NodeAnswer.Content bytes)) = refl
handle-brief a = refl

refused-brief : (a : Answer) (code : Code) → brief a ≡ Answer.Refused code → a ≡ Answer.Refused code
refused-brief (Answer.Node (NodeAnswer.Content bytes)) code e = cc
refused-brief a code e = e

same-handle : (a b : Answer) → brief a ≡ brief b → handle_given a ≡ handle_given b
same-handle a b e = sym (handle-brief a) ∙ (ap handle_given e ∙ handle-brief b)

same-refusal : (a b : Answer) (code : Code) → brief a ≡ brief b → a ≡ Answer.Refused code → b ≡ Answer.Refused code
same-refusal a b code e r = refused-brief b code (sym e ∙ ap brief r)

-- what is answered is alike to what the step replies
reply-alike : (told : Bool) (held : Held) (old : Option Held) (r : NodeRequest) (stepped given : Answer) → cond told (Some held) None ≡ old → IsAnswer old r.op stepped given → Alike told (Request.Node r) (reply_with [] stepped) (reply_with [] given)
reply-alike true held old r stepped given e h = ap (reply_with []) (subst (λ (o : Option Held). IsAnswer o r.op stepped given) (sym e) h)
reply-alike false held old r stepped given e h = (refl, subst (λ (o : Option Held). IsAnswer o r.op stepped given) (sym e) h)

-- ---- what a walk comes to

-- no answer comes of a walk only where a call failed
none-failed : (told : Option Held) (now : ℕ) (listed : Option (List ChildName)) (failed : Bool) (looks : List Look) (w : Walk NodeVerdict) → Gives told w looks failed → walked_with w now listed looks failed ≡ None → failed ≡ true
none-failed told now listed failed looks (Answers x) k e = cc
none-failed told now listed failed [] (Looks target next) k e = k
none-failed told now listed failed (look ∷ looks) (Looks target next) k e = none-failed told now listed failed looks (next look) k.1 e
none-failed told now listed true [] (Ends call done missing) k e = refl
none-failed told now listed false [] (Ends call done missing) k e = cc
none-failed told now listed failed (look ∷ looks) (Ends call done missing) k e = cc
none-failed told now listed true looks (Lists path done missing) k e = refl
none-failed told now listed false looks (Lists path done missing) k e = cc

abbrev IfFair : Room → Option NodeVerdict → Type 0
IfFair room None = Unit {0}
IfFair room (Some v) = IsFair room v

fair-walked : (room : Room) (w : Walk NodeVerdict) (now : ℕ) (listed : Option (List ChildName)) (looks : List Look) (failed : Bool) → Fair room w → IfFair room (walked_with w now listed looks failed)
fair-walked room (Answers v) now listed looks failed h = h
fair-walked room (Looks target next) now listed [] failed h = tt
fair-walked room (Looks target next) now listed (look ∷ looks) failed h = fair-walked room (next look) now listed looks failed (h look)
fair-walked room (Ends call done missing) now listed [] true h = tt
fair-walked room (Ends call done missing) now listed [] false h = h.0 now
fair-walked room (Ends call done missing) now listed (look ∷ looks) failed h = h.1
fair-walked room (Lists path done missing) now listed looks true h = tt
fair-walked room (Lists path done missing) now None looks false h = h.1
fair-walked room (Lists path done missing) now (Some names) looks false h = h.0 names

abbrev errno_of : Answer → ℕ
errno_of (Answer.Refused (Code.Errno n)) = n
errno_of answer = 0

eio-fails : (s : State) (c : Connection) (room : Room) (o : Option NodeVerdict) (failed : Bool) → (o ≡ None → failed ≡ true) → IfFair room o → (settled_on_node s c o).1 ≡ Answer.Refused (Code.Errno eio) → failed ≡ true
eio-fails s c room None failed h n e = h refl
eio-fails s c room (Some (Errs errno)) failed h n e = let same : errno ≡ eio = ap errno_of e in let no : true ≡ false = subst (λ (k : ℕ). (k == eio) ≡ false) same n in cc
eio-fails s c room (Some (Yields d)) failed h n e = cc

never-failed : (s : State) (c : Connection) (o : Option NodeVerdict) → (settled_on_node s c o).1 ≢ Answer.Refused Code.Failed
never-failed s c None = λ e. cc
never-failed s c (Some (Errs errno)) = λ e. cc
never-failed s c (Some (Yields d)) = λ e. cc

-- ---- the calls of the tree

abbrev is_failed : Call → Bool
is_failed call = call.1

failed-called : (told : Option Held) (looks : List Look) (w : Walk NodeVerdict) → Gives told w looks true → list_any is_failed (calls_of w looks true) ≡ true
failed-called told looks (Answers x) k = let no : true ≡ false = k.1 in cc
failed-called told [] (Looks target next) k = refl
failed-called told (look ∷ looks) (Looks target next) k = failed-called told looks (next look) k.1
failed-called told [] (Ends call done missing) k = refl
failed-called told (look ∷ looks) (Ends call done missing) k = let no : true ≡ false = k.2 in cc
failed-called told looks (Lists path done missing) k = refl

calls-grow : (calls : List Call) (old : TreeIs) → old.faults ≤ (after_calls old calls).faults
calls-grow [] old = omega arith
calls-grow ((kind, true) ∷ more) old = let rest = calls-grow more (after_call old kind true old.told) in omega (arith, rest)
calls-grow ((kind, false) ∷ more) old = calls-grow more (after_call old kind false old.told)

calls-rise : (calls : List Call) (old : TreeIs) → list_any is_failed calls ≡ true → HasRisen old.faults (after_calls old calls).faults
calls-rise [] old e = absurd (cc)
calls-rise ((kind, true) ∷ more) old e = let rest = calls-grow more (after_call old kind true old.told) in omega (arith, rest)
calls-rise ((kind, false) ∷ more) old e = calls-rise more (after_call old kind false old.told) e

call-risen : (told files : Option Held) (looks : List Look) (w : Walk NodeVerdict) (failed : Bool) (old new : TreeIs) → Gives told w looks failed → Calling old (calls_of w looks failed) files new → failed ≡ true → HasRisen old.faults new.faults
call-risen told files looks w true old new g k e = rw k.goes (calls-rise (calls_of w looks true) old (failed-called told looks w g))
call-risen told files looks w false old new g k e = absurd (cc)

-- ---- the connections

no-other : (seat first : ℕ) (cs : List Connection) → (first == seat) ≡ true → AllByRecursion (λ n. nat_eq first n ≡ false) (map (λ (c : Connection). c.seat) cs) → map (counted seat) cs ≡ cs
no-other seat first [] e h = refl
no-other seat first (c ∷ cs) e h =
    let away : (c.seat == seat) ≡ false = not-same first c.seat seat e h.0 in
    let one : counted seat c ≡ c = ap (λ (b : Bool). cond b (record c { opens = c.opens + 1 }) c) away in
    λ i. one i ∷ no-other seat first cs e h.1 i
  where
    not-same : (a b n : ℕ) → (a == n) ≡ true → nat_eq a b ≡ false → (b == n) ≡ false
    not-same a b n e h = grind (arith, nat_tests)

-- the one connection of the seat is counted
counted-first : (seat : ℕ) (cs : List Connection) (c : Connection) → IsDistinct nat_eq (map (λ (c : Connection). c.seat) cs) → connection_of cs seat ≡ Some c → change_first (is_of seat) (with_last (c.opens + 1)) cs ≡ map (counted seat) cs
unfolding IsDistinct
counted-first seat [] c d e = cc
counted-first seat (x ∷ xs) c d e = step (x.seat == seat) refl (λ f. counted-first seat xs c d.1 f) e
  where
    step : (b : Bool) → (x.seat == seat) ≡ b → (connection_of xs seat ≡ Some c → change_first (is_of seat) (with_last (c.opens + 1)) xs ≡ map (counted seat) xs) → cond b (Some x) (connection_of xs seat) ≡ Some c →
        cond b (with_last (c.opens + 1) x ∷ xs) (x ∷ change_first (is_of seat) (with_last (c.opens + 1)) xs) ≡ cond b (record x { opens = x.opens + 1 }) x ∷ map (counted seat) xs
    step true h more f =
        let same : x ≡ c = cc in
        (λ i. record x { opens = (sym same i).opens + 1 } ∷ sym (no-other seat x.seat xs h d.0) i)
    step false h more f = ap (λ (ys : List Connection). x ∷ ys) (more f)

module _ (s : State) (c : Connection) (differ : IsDistinct nat_eq (map (λ (x : Connection). x.seat) s.connections)) (here : connection_of s.connections c.seat ≡ Some c) where
  connections-are : (change : HandleChange) (given : Option ℕ) → given ≡ number_of (room_of s c) change → connections_after c change s.connections ≡ numbered c.seat given s.connections
  connections-are HandlesStay given e = ap (λ (x : Option ℕ). numbered c.seat x s.connections) (sym e)
  connections-are (Opens handle) given e = sym (counted-first c.seat s.connections c differ here) ∙ ap (λ (x : Option ℕ). numbered c.seat x s.connections) (sym e)
  connections-are (Closes fh) given e = ap (λ (x : Option ℕ). numbered c.seat x s.connections) (sym e)

  -- what is named isn't kept with the connections, nor are temporaries
  unnamed-named : (change : NameChange) (cs : List Connection) → map unnamed (connections_named c change cs) ≡ map unnamed cs
  unnamed-named NamesStay cs = refl
  unnamed-named (Names naming) [] = refl
  unnamed-named (Names naming) (x ∷ cs) = λ i. one (x.seat == c.seat) i ∷ unnamed-named (Names naming) cs i
    where
      one : (b : Bool) → unnamed (cond b (record x { namings = with_naming x.namings naming }) x) ≡ unnamed x
      one true = refl
      one false = refl
  unnamed-named (Temps change) [] = refl
  unnamed-named (Temps change) (x ∷ cs) = λ i. one (x.seat == c.seat) i ∷ unnamed-named (Temps change) cs i
    where
      one : (b : Bool) → unnamed (cond b (with_temps change x) x) ≡ unnamed x
      one true = refl
      one false = refl

  unnamed-first : (seat last : ℕ) (cs : List Connection) → map unnamed (change_first (is_of seat) (with_last last) cs) ≡ change_first (is_of seat) (with_last last) (map unnamed cs)
  unnamed-first seat last [] = refl
  unnamed-first seat last (x ∷ cs) = step (x.seat == seat) (unnamed-first seat last cs)
    where
      step : (b : Bool) → map unnamed (change_first (is_of seat) (with_last last) cs) ≡ change_first (is_of seat) (with_last last) (map unnamed cs) →
          map unnamed (cond b (with_last last x ∷ cs) (x ∷ change_first (is_of seat) (with_last last) cs)) ≡ cond b (with_last last (unnamed x) ∷ map unnamed cs) (unnamed x ∷ change_first (is_of seat) (with_last last) (map unnamed cs))
      step true e = refl
      step false e = ap (λ (ys : List Connection). unnamed x ∷ ys) e

  unnamed-numbered : (seat : ℕ) (given : Option ℕ) (cs : List Connection) → map unnamed (numbered seat given cs) ≡ numbered seat given (map unnamed cs)
  unnamed-numbered seat None cs = refl
  unnamed-numbered seat (Some last) cs = unnamed-first seat last cs

  abbrev stays_so : State → State
  stays_so t = record s { connections = t.connections; handles = t.handles; files = t.files; hidden = t.hidden; taken = t.taken }

  settled-stays : (o : Option NodeVerdict) → (settled_on_node s c o).0 ≡ stays_so (settled_on_node s c o).0
  settled-stays None = refl
  settled-stays (Some (Errs errno)) = refl
  settled-stays (Some (Yields d)) = refl

  settled-connected : (o : Option NodeVerdict) → IfFair (room_of s c) o → map unnamed (settled_on_node s c o).0.connections ≡ numbered c.seat (handle_given (settled_on_node s c o).1) (map unnamed s.connections)
  settled-connected None f = refl
  settled-connected (Some (Errs errno)) f = refl
  settled-connected (Some (Yields d)) f =
      unnamed-named d.names (connections_after c d.handle s.connections)
      ∙ (ap (map unnamed) (connections-are d.handle (handle_given (Answer.Node d.answer)) f)
      ∙ unnamed-numbered c.seat (handle_given (Answer.Node d.answer)) s.connections)

-- what a seat has, and that but for what it has named
unnamed-found : (cs : List Connection) (seat : ℕ) → connection_of (map unnamed cs) seat ≡ option_map unnamed (connection_of cs seat)
unnamed-found [] seat = refl
unnamed-found (x ∷ cs) seat = step (x.seat == seat) (unnamed-found cs seat)
  where
    step : (b : Bool) → connection_of (map unnamed cs) seat ≡ option_map unnamed (connection_of cs seat) → cond b (Some (unnamed x)) (connection_of (map unnamed cs) seat) ≡ option_map unnamed (cond b (Some x) (connection_of cs seat))
    step true e = refl
    step false e = e

unnamed-nobody : (o : Option Connection) → mount_of (option_map unnamed o) ≡ None → mount_of o ≡ None
unnamed-nobody None e = refl
unnamed-nobody (Some d) e = elim (is_mount d.kind) as (λ b. cond b (Some (unnamed d)) None ≡ None → cond b (Some d) None ≡ None) [ true ↦ λ h. cc | false ↦ λ h. refl ] e

named-mount : (o : Option Connection) (b : Connection) → mount_of (option_map unnamed o) ≡ Some b → (c : Connection) × (mount_of o ≡ Some c) × (c.who ≡ b.who)
named-mount None b e = cc
named-mount (Some d) b e = by (is_mount d.kind) e
  where
    by : (m : Bool) → cond m (Some (unnamed d)) None ≡ Some b → (c : Connection) × (cond m (Some d) None ≡ Some c) × (c.who ≡ b.who)
    by true h = let same : unnamed d ≡ b = cc in (d, refl, ap (λ (x : Connection). x.who) same)
    by false h = cc

-- ---- a seat

module _ (s : State) (book : FileBook) (cs : List Connection) (table : HandleTable) (own : OwnTables) (old : TreeIs) (done : NodeDone) (x : IsServedIn s book cs table own old.told) where
  here-is : (seat : ℕ) → connection_of cs seat ≡ option_map unnamed (connection_of s.connections seat)
  here-is seat = ap (λ (l : List Connection). connection_of l seat) (sym x.connected) ∙ unnamed-found s.connections seat

  pub serves-nobody : (seat : ℕ) (r : NodeRequest) → mount_of (connection_of cs seat) ≡ None → done ≡ refused_here → ServesSeat s seat r old done cs table own old
  serves-nobody seat r e d =
      let here : mount_of (connection_of s.connections seat) ≡ None = unnamed-nobody (connection_of s.connections seat) (sym (ap mount_of (here-is seat)) ∙ e) in
      rw (d) (record {
        lawful = rw here refl;
        reply = rw here (alike s.told);
        stays = rw here refl;
        connected = rw here x.connected;
        handles = rw here x.handles;
        own = rw here x.own;
        files = rw here x.files;
        calls = rw here (record { goes = refl; fails = tt });
        fault = λ h. cc;
        failure = λ h. cc;
      })
    where
      alike : (told : Bool) → Alike told (Request.Node r) (reply_with [] (Answer.Refused Code.NotHere)) (reply_with [] (Answer.Refused Code.NotHere))
      alike true = refl
      alike false = (refl, same r.op)
        where
          same : (op : NodeOp) → NodeAlike op (Answer.Refused Code.NotHere) (Answer.Refused Code.NotHere)
          same (NodeOp.Read fh offset size) = refl
          same (NodeOp.Lookup name) = refl
          same (NodeOp.Forget count) = refl
          same (NodeOp.BatchForget nodes) = refl
          same (NodeOp.GetAttr flags fh) = refl
          same (NodeOp.SetAttr valid fh size) = refl
          same (NodeOp.Open flags) = refl
          same (NodeOp.Create name flags) = refl
          same (NodeOp.Write fh offset content) = refl
          same (NodeOp.Flush fh) = refl
          same (NodeOp.Fsync fh) = refl
          same (NodeOp.Release fh) = refl
          same NodeOp.OpenDir = refl
          same (NodeOp.ReadDir fh offset size) = refl
          same (NodeOp.ReleaseDir fh) = refl
          same (NodeOp.Access mask) = refl
          same (NodeOp.Rename new_parent flags old_name new_name) = refl
          same (NodeOp.Unlink name) = refl

  module _ (call : NodeCall) (after : HandleTable) (owned : OwnTables) (new : TreeIs) (b : Connection) (e : mount_of (connection_of cs call.seat) ≡ Some b) (who : b.who ≡ call.who.now) (does : DoesNaming book call table own old done after owned new) where
    mounted : (c : Connection) × (mount_of (connection_of s.connections call.seat) ≡ Some c) × (c.who ≡ b.who)
    mounted = named-mount (connection_of s.connections call.seat) b (sym (ap mount_of (here-is call.seat)) ∙ e)

    abbrev c : Connection
    c = mounted.0

    abbrev r : NodeRequest
    r = call.request.now

    mount-here : mount_of (connection_of s.connections call.seat) ≡ Some c
    mount-here = mounted.1

    found-here : connection_of s.connections call.seat ≡ Some c
    found-here = mount_found (connection_of s.connections call.seat) c mount-here

    is-mount : is_mount c.kind ≡ true
    is-mount = mount_kind (connection_of s.connections call.seat) c mount-here

    told-as-it-is : all_told c.seat s ≡ s
    told-as-it-is =
        let own : c.seat ≡ call.seat = nat_is c.seat call.seat (found_passes (is_of call.seat) s.connections c found-here) in
        ap (λ (n : ℕ). all_told n s) own ∙ all_told-nothing s call.seat c x.valid found-here (mount-quiet s call.seat c x.valid found-here is-mount)

    done-naming : DoneNaming s c call old done after owned new
    done-naming = does s c (record { valid = x.valid; lists = x.lists; limit = x.limit; handles = x.handles; files = x.files; here = found-here; caller = mounted.2 ∙ who }) x.own

    done-in : DoneIn s c r old done after new
    done-in = done-naming.done

    abbrev verdict : Option NodeVerdict
    verdict = node_given (walk_on_node s c r) (given_to done)

    fair-here : IfFair (room_of s c) verdict
    fair-here = fair-walked (room_of s c) (walk_on_node s c r) (moment_given done.now) done.listed done.looks (is_tree done.fault) (fair-walk (facts_of s c r.node) r r.op)

    step-is : seat_step s call.seat r (given_to done) ≡ with_signals [] (node_answer s c r (given_to done))
    step-is = ap (node_step s r (given_to done)) mount-here ∙ node_step-quiet s call.seat c r (given_to done) x.valid found-here is-mount

    after-is : (seat_step s call.seat r (given_to done)).0 ≡ (node_answer s c r (given_to done)).0
    after-is = ap (λ (y : State × Reply). y.0) step-is

    brief-is : brief done.answer ≡ brief (node_answer s c r (given_to done)).1
    brief-is = answer-brief old.told r.op (node_answer s c r (given_to done)).1 done.answer done-in.answer

    seat-is : c.seat ≡ call.seat
    seat-is = nat_is c.seat call.seat (found_passes (is_of call.seat) s.connections c found-here)

    here-own : connection_of s.connections c.seat ≡ Some c
    here-own = ap (connection_of s.connections) seat-is ∙ found-here

    connected-is : numbered c.seat (handle_given (node_answer s c r (given_to done)).1) (map unnamed s.connections) ≡ numbered call.seat (handle_given done.answer) cs
    connected-is = λ i. numbered (seat-is i) (sym (same-handle done.answer (node_answer s c r (given_to done)).1 brief-is) i) (x.connected i)

    pub serves-mount : ServesSeat s call.seat r old done (numbered call.seat (handle_given done.answer) cs) after owned new
    serves-mount = record {
      lawful = subst (LawfulOnNode s r (given_to done)) (sym mount-here) (subst (λ (u : State). LawfulNode u c r (given_to done)) (sym told-as-it-is) done-in.lawful);
      reply = subst (λ (y : State × Reply). Alike s.told (Request.Node r) y.1 (reply_with [] done.answer)) (sym step-is)
          (reply-alike s.told (held_in s) old.told r (node_answer s c r (given_to done)).1 done.answer x.files done-in.answer);
      stays = subst (λ (y : State). y ≡ record s { connections = y.connections; handles = y.handles; files = y.files; hidden = y.hidden; taken = y.taken }) (sym after-is) (settled-stays s c x.valid.seats_differ here-own verdict);
      connected = subst (λ (y : State). map unnamed y.connections ≡ numbered call.seat (handle_given done.answer) cs) (sym after-is) (settled-connected s c x.valid.seats_differ here-own verdict fair-here ∙ connected-is);
      handles = subst (λ (y : State). AreOpen y after) (sym after-is) done-in.handles;
      own = subst (λ (y : State). AreOwn y owned) (sym after-is) done-naming.own;
      files = ap files_told after-is ∙ done-in.files;
      calls = subst (λ (o : Option Connection). Calling old (calls_on s r (given_to done) o) new.told new) (sym mount-here)
          (subst (λ (u : State). Calling old (calls_of (walk_on_node u c r) done.looks (is_tree done.fault)) new.told new) (sym told-as-it-is) done-in.calls);
      fault = λ h. call-risen (files_told s) new.told done.looks (walk_on_node s c r) (is_tree done.fault) old new done-in.lawful.looks done-in.calls
          (eio-fails s c (room_of s c) verdict (is_tree done.fault)
          (none-failed (files_told s) (moment_given done.now) done.listed (is_tree done.fault) done.looks (walk_on_node s c r) done-in.lawful.looks) fair-here
          (same-refusal done.answer (node_answer s c r (given_to done)).1 (Code.Errno eio) brief-is h));
      failure = λ h. never-failed s c verdict (same-refusal done.answer (node_answer s c r (given_to done)).1 Code.Failed brief-is h);
    }
