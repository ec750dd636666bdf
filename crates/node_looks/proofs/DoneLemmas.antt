-- A request that was done by its walk is done in every state in which it may be asked.
use Rattle.std.proofs.Common.{◌≡◌, ℕ, ◌==◌, ◌&&◌, nat_lt, List, [], ◌∷◌, length, map, Bool, true, false, not, cond, Option, Some, None, ◌+◌, ◌<◌, ◌++◌, suc, refl, sym, ap, subst, ◌∙◌, arith}
use Rattle.std.specs.List.{find}
use Rattle.std.specs.Map.{lookup, remove_entry}
use Rattle.std.specs.Option.{option_map}
use Rattle.std.proofs.lemmas.Bool.Decides.{nat_tests}
use Rattle.file_generations.specs.Generations.{Held}
use Rattle.host_tree.specs.Trees.{TreeIs}
use Rattle.open_handles.specs.Opened.{Both, HandleTable, Keeps, Opened, handle_of as handle_in, opened_on}
use Rattle.portal_model.specs.declared.handle.Handle.{Handle}
use Rattle.portal_model.specs.declared.handle.OpenHandle.{OpenHandle}
use Rattle.portal_model.specs.declared.naming.Naming.{Naming}
use Rattle.portal_model.specs.declared.reply.Answer.{Answer}
use Rattle.portal_model.specs.declared.request.NodeOp.{NodeOp}
use Rattle.portal_model.specs.declared.request.NodeRequest.{NodeRequest}
use Rattle.portal_model.specs.declared.state.Connection.{Connection}
use Rattle.portal_model.specs.Bus.{is_tree, moment_given}
use Rattle.portal_model.specs.Node.{connections_after, connections_named, facts_of, files_after, named_on, node_answer, node_walk, room_of, settled_on_node, temps_changed, walk_on_node, with_temps}
use Rattle.portal_model.specs.NodeVerdict.{FileChange, FilesStay, HandlesStay, HandleChange, NameChange, Names, NamesStay, Temps, NodeVerdict, Errs, Yields, Opens, Closes}
use Rattle.portal_model.specs.Outside.{files_told}
use Rattle.portal_model.specs.SeatNames.{TempChange, with_naming}
use Rattle.portal_model.specs.State.{State, connection_of, handle_of, handles_of, held_in, is_handle}
use Rattle.portal_model.specs.Walk.{Answers, Gives, GivesNames, Walk, generation_reached, reads_clock, walked_with}
use Rattle.node_looks.specs.Done.{Does, DoesWhere, DoneBy, DoneIn, IsAnswer, IsCalled, answer_of, file_change, handle_change, room_in, room_on, unasked}
use Rattle.node_looks.specs.OpenHandles.{AreOpen, AreOpened, Handled, SeatHandled, numbered, open_on}
use Rattle.node_looks.specs.Served.{TellsWhere, Told, given_to}
use Rattle.node_looks.specs.TreeCalls.{Calling, calls_of}
use Rattle.node_looks.specs.declared.served.FileBook.{FileBook}
use Rattle.node_looks.specs.declared.served.NodeCall.{NodeCall}
use Rattle.node_looks.specs.declared.served.NodeDone.{NodeDone}
use Rattle.node_looks.proofs.OpenTable.{each-open, seat-of, stay-open}

-- ---- what the state becomes

settled-answer : (s : State) (c : Connection) (v : Option NodeVerdict) → (settled_on_node s c v).1 ≡ answer_of v
settled-answer s c None = refl
settled-answer s c (Some (Errs errno)) = refl
settled-answer s c (Some (Yields d)) = refl

told_after : (told : Bool) (change : FileChange) (held : Held) → cond told (Some (files_after told change held)) None ≡ option_map (files_after true change) (cond told (Some held) None)
told_after true change held = refl
told_after false change held = refl

pub told-still : (told : Option Held) → option_map (files_after true FilesStay) told ≡ told
told-still None = refl
told-still (Some held) = refl

settled-files : (s : State) (c : Connection) (v : Option NodeVerdict) → files_told (settled_on_node s c v).0 ≡ option_map (files_after true (file_change v)) (files_told s)
settled-files s c None = sym (told-still (files_told s))
settled-files s c (Some (Errs errno)) = sym (told-still (files_told s))
settled-files s c (Some (Yields d)) = told_after s.told d.file (held_in s)

-- ---- what is named leaves what is open

pub named-seat : (n : ℕ) (naming : Naming) (c : Connection) → (named_on n naming c).seat ≡ c.seat
named-seat n naming c = elim (c.seat == n) as (λ b. (cond b (record c { namings = with_naming c.namings naming }) c).seat ≡ c.seat) [ true ↦ refl | false ↦ refl ]

pub named-opens : (n : ℕ) (naming : Naming) (c : Connection) → (named_on n naming c).opens ≡ c.opens
named-opens n naming c = elim (c.seat == n) as (λ b. (cond b (record c { namings = with_naming c.namings naming }) c).opens ≡ c.opens) [ true ↦ refl | false ↦ refl ]

pub temps-seat : (n : ℕ) (change : TempChange) (c : Connection) → (temps_changed n change c).seat ≡ c.seat
temps-seat n change c = elim (c.seat == n) as (λ b. (cond b (with_temps change c) c).seat ≡ c.seat) [ true ↦ refl | false ↦ refl ]

pub temps-opens : (n : ℕ) (change : TempChange) (c : Connection) → (temps_changed n change c).opens ≡ c.opens
temps-opens n change c = elim (c.seat == n) as (λ b. (cond b (with_temps change c) c).opens ≡ c.opens) [ true ↦ refl | false ↦ refl ]

-- connections changed, but for their seats and what was opened on them
module _ (f : Connection → Connection) (seats : (c : Connection) → (f c).seat ≡ c.seat) where
  pub changed-found : (seat : ℕ) (cs : List Connection) → connection_of (map f cs) seat ≡ option_map f (connection_of cs seat)
  changed-found seat [] = refl
  changed-found seat (c ∷ cs) =
      ap (λ (m : ℕ). cond (m == seat) (Some (f c)) (connection_of (map f cs) seat)) (seats c)
      ∙ by (c.seat == seat) (changed-found seat cs)
    where
      by : (b : Bool) → connection_of (map f cs) seat ≡ option_map f (connection_of cs seat) →
          cond b (Some (f c)) (connection_of (map f cs) seat) ≡ option_map f (cond b (Some c) (connection_of cs seat))
      by true h = refl
      by false h = h

  changed-opened : ((c : Connection) → (f c).opens ≡ c.opens) → (there : List (ℕ × Handle)) (o : Option Connection) (p : Option Opened) → AreOpened there o p → AreOpened there (option_map f o) p
  changed-opened opens there None None h = h
  changed-opened opens there None (Some p) h = h
  changed-opened opens there (Some c) None h = h
  changed-opened opens there (Some c) (Some p) h = record { last = h.last ∙ sym (opens c); handles = h.handles }

  changed-still : ((c : Connection) → (f c).opens ≡ c.opens) → (seat : ℕ) (there : List (ℕ × Handle)) (cs : List Connection) (p : Option Opened) → AreOpened there (connection_of cs seat) p → AreOpened there (connection_of (map f cs) seat) p
  changed-still opens seat there cs p h =
      subst (λ (o : Option Connection). AreOpened there o p) (sym (changed-found seat cs)) (changed-opened opens there (connection_of cs seat) p h)

pub named-found : (n seat : ℕ) (naming : Naming) (cs : List Connection) → connection_of (map (named_on n naming) cs) seat ≡ option_map (named_on n naming) (connection_of cs seat)
named-found n seat naming cs = changed-found (named_on n naming) (named-seat n naming) seat cs

still-opened : (c : Connection) (change : NameChange) (seat : ℕ) (there : List (ℕ × Handle)) (cs : List Connection) (p : Option Opened) → AreOpened there (connection_of cs seat) p → AreOpened there (connection_of (connections_named c change cs) seat) p
still-opened c NamesStay seat there cs p h = h
still-opened c (Names naming) seat there cs p h = changed-still (named_on c.seat naming) (named-seat c.seat naming) (named-opens c.seat naming) seat there cs p h
still-opened c (Temps change) seat there cs p h = changed-still (temps_changed c.seat change) (temps-seat c.seat change) (temps-opens c.seat change) seat there cs p h

module _ (s : State) (c : Connection) (book : FileBook) (call : NodeCall) (table after : HandleTable) (told : Option Held) (a : IsCalled s c book call table told) where
  seat-is : c.seat ≡ call.seat
  seat-is = seat-of s.connections call.seat c a.here

  here : connection_of s.connections c.seat ≡ Some c
  here = ap (connection_of s.connections) seat-is ∙ a.here

  settled-open : (v : Option NodeVerdict) → Handled call.seat (handle_change v) table after → AreOpen (settled_on_node s c v).0 after
  settled-open None h = stay-open s call.seat table after a.handles h
  settled-open (Some (Errs errno)) h = stay-open s call.seat table after a.handles h
  settled-open (Some (Yields d)) h = record {
    limit = h.limit ∙ a.handles.limit;
    each = λ seat. still-opened c d.names seat _ (connections_after c d.handle s.connections) (opened_on after.seats seat)
        (each-open s c here a.valid.handles_differ table a.handles d.handle after
        (subst (λ (n : ℕ). Handled n d.handle table after) (sym seat-is) h) seat);
  }

pub done-in : (s : State) (c : Connection) (book : FileBook) (call : NodeCall) (w : Walk NodeVerdict) (table : HandleTable) (old : TreeIs) (done : NodeDone) (after : HandleTable) (new : TreeIs) →
    IsCalled s c book call table old.told → walk_on_node s c call.request.now ≡ w → DoneBy w call.request.now.op call.seat table old done after new → DoneIn s c call.request.now old done after new
done-in s c book call w table old done after new a e d = record {
  lawful = record {
    looks = subst (λ (x : Walk NodeVerdict). Gives (files_told s) x done.looks (is_tree done.fault)) (sym e)
        (subst (λ (t : Option Held). Gives t w done.looks (is_tree done.fault)) (sym a.files) d.comes.gives);
    clock = d.comes.clock ∙ sym (ap (λ (x : Walk NodeVerdict). reads_clock x done.looks) e);
    listed = subst (λ (x : Walk NodeVerdict). GivesNames (files_told s) x done.looks done.listed (is_tree done.fault)) (sym e)
        (subst (λ (t : Option Held). GivesNames t w done.looks done.listed (is_tree done.fault)) (sym a.files) d.comes.lists);
    generation = d.comes.generation ∙ sym (ap (λ (x : Walk NodeVerdict). generation_reached x done.looks) e);
    words = refl;
    numbers = refl;
    full = refl;
    keeper = d.comes.keeper;
  };
  answer = subst (λ (x : Answer). IsAnswer old.told call.request.now.op x done.answer)
      (sym (ap (λ (p : State × Answer). p.1) step ∙ settled-answer s c d.verdict)) d.comes.answer;
  handles = subst (λ (p : State × Answer). AreOpen p.0 after) (sym step) (settled-open s c book call table after old.told a d.verdict d.handled);
  files = ap (λ (p : State × Answer). files_told p.0) step ∙ (settled-files s c d.verdict
      ∙ (ap (option_map (files_after true (file_change d.verdict))) a.files ∙ sym d.comes.files));
  calls = subst (λ (x : Walk NodeVerdict). Calling old (calls_of x done.looks (is_tree done.fault)) new.told new) (sym e) d.comes.calls;
}
  where
    step : node_answer s c call.request.now (given_to done) ≡ settled_on_node s c d.verdict
    step = ap (λ (x : Walk NodeVerdict). settled_on_node s c (walked_with x (moment_given done.now) done.listed done.looks (is_tree done.fault))) e ∙ ap (settled_on_node s c) d.comes.comes

-- ---- the answer of a request that reads no file

abbrev pub IsExact : NodeOp → Type 0
IsExact (NodeOp.Read fh offset size) = ⊥
IsExact op = Unit {0}

pub same-answer : (told : Option Held) (op : NodeOp) (a b : Answer) → IsExact op → b ≡ a → IsAnswer told op a b
same-answer (Some held) op a b x e = e
same-answer None (NodeOp.Read fh offset size) a b x e = absurd x
same-answer None (NodeOp.Lookup name) a b x e = e
same-answer None (NodeOp.Forget count) a b x e = e
same-answer None (NodeOp.BatchForget nodes) a b x e = e
same-answer None (NodeOp.GetAttr flags fh) a b x e = e
same-answer None (NodeOp.SetAttr valid fh size) a b x e = e
same-answer None (NodeOp.Open flags) a b x e = e
same-answer None (NodeOp.Create name flags) a b x e = e
same-answer None (NodeOp.Write fh offset content) a b x e = e
same-answer None (NodeOp.Flush fh) a b x e = e
same-answer None (NodeOp.Fsync fh) a b x e = e
same-answer None (NodeOp.Release fh) a b x e = e
same-answer None NodeOp.OpenDir a b x e = e
same-answer None (NodeOp.ReadDir fh offset size) a b x e = e
same-answer None (NodeOp.ReleaseDir fh) a b x e = e
same-answer None (NodeOp.Access mask) a b x e = e
same-answer None (NodeOp.Rename new_parent flags old_name new_name) a b x e = e
same-answer None (NodeOp.Unlink name) a b x e = e

-- ---- open handles that stay

keeps-itself : (o : Option Opened) → Both Keeps o o
keeps-itself None = tt
keeps-itself (Some o) = record { last = refl; handles = refl; room = omega arith }

pub handles-stay : (seat : ℕ) (table : HandleTable) → Handled seat HandlesStay table table
handles-stay seat table = record { limit = refl; seats = record { there = keeps-itself (opened_on table.seats seat); elsewhere = λ q e. refl } }

kept_after : (most more : ℕ) (change : HandleChange) (o m n : Option Opened) → more ≡ most → Both Keeps o m → Both (SeatHandled more change) m n → Both (SeatHandled most change) o n
kept_after most more change None None n e k h = subst (λ (x : ℕ). Both (SeatHandled x change) None n) e h
kept_after most more change None (Some m) n e k h = absurd k
kept_after most more change (Some o) None n e k h = absurd k
kept_after most more change (Some o) (Some m) None e k h = h
kept_after most more HandlesStay (Some o) (Some m) (Some n) e k h = record { last = h.last ∙ k.last; handles = h.handles ∙ k.handles; room = omega (arith, h.room, k.room) }
kept_after most more (Opens handle) (Some o) (Some m) (Some n) e k h = (
  h.0,
  record {
    number = h.1.number ∙ ap (λ (x : ℕ). x + 1) k.last;
    limit = subst (λ (x : ℕ). length o.handles < x) e (subst (λ (hs : List (ℕ × Handle)). length hs < more) k.handles h.1.limit);
    last = h.1.last;
    handles = h.1.handles ∙ ap (λ (hs : List (ℕ × Handle)). hs ++ (h.0, handle) ∷ []) k.handles;
  },
)
kept_after most more (Closes fh) (Some o) (Some m) (Some n) e k h = record { last = h.last ∙ k.last; handles = h.handles ∙ ap (remove_entry (λ x. fh == x)) k.handles; room = omega (arith, h.room, k.room) }

-- room was taken first
pub handled-after : (seat : ℕ) (change : HandleChange) (a b c : HandleTable) → Handled seat HandlesStay a b → Handled seat change b c → Handled seat change a c
handled-after seat change a b c k h = record {
  limit = h.limit ∙ k.limit;
  seats = record {
    there = kept_after a.most b.most change (opened_on a.seats seat) (opened_on b.seats seat) (opened_on c.seats seat) k.limit k.seats.there h.seats.there;
    elsewhere = λ q e. h.seats.elsewhere q e ∙ k.seats.elsewhere q e;
  };
}

kept_room : (m n : ℕ) (o p : Option Opened) → n ≡ m → Both Keeps o p → room_on n p ≡ room_on m o
kept_room m n None None e k = refl
kept_room m n None (Some p) e k = absurd k
kept_room m n (Some o) None e k = absurd k
kept_room m n (Some o) (Some p) e k = λ i. record { opens = k.last i; full = not (nat_lt (length (k.handles i)) (e i)) }

pub room-stays : (seat : ℕ) (a b : HandleTable) → Handled seat HandlesStay a b → room_in b seat ≡ room_in a seat
room-stays seat a b h = kept_room a.most b.most (opened_on a.seats seat) (opened_on b.seats seat) h.limit h.seats.there

-- ---- a request for which the tree wasn't asked

pub unasked-by : (v : NodeVerdict) (op : NodeOp) (seat : ℕ) (table after : HandleTable) (tree : TreeIs) → IsExact op → file_change (Some v) ≡ FilesStay → Handled seat (handle_change (Some v)) table after →
    DoneBy (Answers v) op seat table tree (unasked (answer_of (Some v))) after tree
unasked-by v op seat table after tree x f h = record {
  verdict = Some v;
  comes = record {
    gives = (refl, refl);
    lists = refl;
    clock = refl;
    generation = refl;
    keeper = λ e. cc;
    comes = refl;
    answer = same-answer tree.told op (answer_of (Some v)) (answer_of (Some v)) x refl;
    files = sym (ap (λ (c : FileChange). option_map (files_after true c) tree.told) f ∙ told-still tree.told);
    calls = record { goes = refl; fails = tt };
  };
  handled = h;
}

-- ---- what a state says of a seat, the table says too

module _ (s : State) (c : Connection) (book : FileBook) (call : NodeCall) (table : HandleTable) (told : Option Held) (a : IsCalled s c book call table told) where
  at-seat : AreOpened (open_on s.handles c.seat) (Some c) (opened_on table.seats call.seat)
  at-seat = subst (λ (x : Option Connection). AreOpened (open_on s.handles c.seat) x (opened_on table.seats call.seat)) a.here
      (subst (λ (n : ℕ). AreOpened (open_on s.handles n) (connection_of s.connections call.seat) (opened_on table.seats call.seat)) (sym (seat-is s c book call table table told a)) (a.handles.each call.seat))

  count-numbered : (hs : List OpenHandle) → length (map numbered hs) ≡ length hs
  count-numbered [] = refl
  count-numbered (h ∷ hs) = ap (λ (n : ℕ). suc n) (count-numbered hs)

  same_room : (o : Option Opened) → AreOpened (open_on s.handles c.seat) (Some c) o → room_on table.most o ≡ room_of s c
  same_room None h = absurd h
  same_room (Some o) h = λ i. record {
    opens = h.last i;
    full = not (nat_lt ((ap (λ (hs : List (ℕ × Handle)). length hs) h.handles ∙ count-numbered (handles_of s.handles c.seat)) i) (a.handles.limit i));
  }

  pub room-is : room_in table call.seat ≡ room_of s c
  room-is = same_room (opened_on table.seats call.seat) at-seat

  same_handle : (o : Option Opened) (fh : ℕ) → AreOpened (open_on s.handles c.seat) (Some c) o → handle_in o fh ≡ handle_of s.handles c.seat fh
  same_handle None fh h = absurd h
  same_handle (Some o) fh h = ap (lookup (λ n. fh == n)) h.handles ∙ found s.handles
    where
      turned : (x y : ℕ) → (x == y) ≡ (y == x)
      turned x y = grind (arith, nat_tests)

      found : (hs : List OpenHandle) → lookup (λ n. fh == n) (open_on hs c.seat) ≡ handle_of hs c.seat fh
      found [] = refl
      found (x ∷ xs) = by (x.seat == c.seat) (found xs)
        where
          by : (b : Bool) → lookup (λ n. fh == n) (open_on xs c.seat) ≡ handle_of xs c.seat fh →
              lookup (λ n. fh == n) (map numbered (cond b (x ∷ handles_of xs c.seat) (handles_of xs c.seat))) ≡ option_map (λ (h : OpenHandle). h.handle) (cond (b && x.fh == fh) (Some x) (find (is_handle c.seat fh) xs))
          by true e = ap (λ (t : Bool). cond t (Some x.handle) (lookup (λ n. fh == n) (open_on xs c.seat))) (turned fh x.fh) ∙ one (x.fh == fh)
            where
              one : (t : Bool) → cond t (Some x.handle) (lookup (λ n. fh == n) (open_on xs c.seat)) ≡ option_map (λ (h : OpenHandle). h.handle) (cond t (Some x) (find (is_handle c.seat fh) xs))
              one true = refl
              one false = e
          by false e = e

  pub handle-is : (fh : ℕ) → handle_in (opened_on table.seats call.seat) fh ≡ handle_of s.handles c.seat fh
  handle-is fh = same_handle (opened_on table.seats call.seat) fh at-seat

-- ---- requests by handle

pub does-by-handle : (book : FileBook) (call : NodeCall) (walk : Option Handle → Walk NodeVerdict) (fh : ℕ) (table : HandleTable) (old : TreeIs) (done : NodeDone) (after : HandleTable) (new : TreeIs) →
    ((s : State) (c : Connection) → walk_on_node s c call.request.now ≡ walk (handle_of s.handles c.seat fh)) →
    DoneBy (walk (handle_in (opened_on table.seats call.seat) fh)) call.request.now.op call.seat table old done after new → Does book call table old done after new
does-by-handle book call walk fh table old done after new w d = λ s c a.
    done-in s c book call (walk (handle_in (opened_on table.seats call.seat) fh)) table old done after new a
    (w s c ∙ ap walk (sym (handle-is s c book call table old.told a fh))) d

pub walk-is : (s : State) (c : Connection) (r : NodeRequest) (op : NodeOp) → r.op ≡ op → walk_on_node s c r ≡ node_walk (facts_of s c r.node) r op
walk-is s c r op e = ap (node_walk (facts_of s c r.node) r) e

pub as-op : (walk : Walk NodeVerdict) (op told : NodeOp) (seat : ℕ) (table : HandleTable) (old : TreeIs) (done : NodeDone) (after : HandleTable) (new : TreeIs) → told ≡ op →
    DoneBy walk op seat table old done after new → DoneBy walk told seat table old done after new
as-op walk op told seat table old done after new e d = subst (λ (o : NodeOp). DoneBy walk o seat table old done after new) (sym e) d

-- ---- a request that changes nothing

pub told-done : (s : State) (c : Connection) (book : FileBook) (call : NodeCall) (table : HandleTable) (old : TreeIs) (done : NodeDone) (new : TreeIs) → IsExact call.request.now.op → IsCalled s c book call table old.told → Told s c call.request.now old done new → DoneIn s c call.request.now old done table new
told-done s c book call table old done new x a told =
    let r = call.request.now in
    let step : node_answer s c r (given_to done) ≡ (s, done.answer) = told.serves.step in
    let stays : files_told s ≡ new.told = a.files ∙ sym (ap (λ (t : TreeIs). t.told) told.calls.goes) in
    record {
      lawful = told.serves.lawful;
      answer = same-answer old.told r.op (node_answer s c r (given_to done)).1 done.answer x (sym (ap (λ (p : State × Answer). p.1) step));
      handles = subst (λ (p : State × Answer). AreOpen p.0 table) (sym step) a.handles;
      files = ap (λ (p : State × Answer). files_told p.0) step ∙ stays;
      calls = subst (λ (f : Option Held). Calling old (calls_of (walk_on_node s c r) done.looks (is_tree done.fault)) f new) (sym a.files ∙ stays) told.calls;
    }

pub tells-does : (Has : Connection → Type 0) (book : FileBook) (call : NodeCall) (table : HandleTable) (old : TreeIs) (done : NodeDone) (new : TreeIs) → IsExact call.request.now.op → TellsWhere Has book.view call.who.now call.request.now old done new → DoesWhere (λ s. Has) book call table old done table new
tells-does Has book call table old done new x t = λ s c a h.
    told-done s c book call table old done new x a (t s c (record { valid = a.valid; lists = a.lists; caller = a.caller; files = a.files }) h)
