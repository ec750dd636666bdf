-- The table of open handles goes with the state, as connections begin, change and end.
use Rattle.std.proofs.Common.{◌≡◌, ℕ, ◌==◌, List, [], ◌∷◌, ◌++◌, map, Bool, true, false, not, ◌&&◌, cond, Option, Some, None, is_some, option_map, refl, sym, ap, subst, ◌∙◌, arith}
use Rattle.std.specs.List.{list_all}
use Rattle.std.proofs.lemmas.Bool.Decides.{nat_tests}
use Rattle.node_looks.specs.OpenHandles.{AreOpen, AreOpened, numbered, open_on}
use Rattle.file_ops.specs.SeatNames.{AreNamed, AreOwn, OwnTables}
use Rattle.file_ops.specs.SeatTemps.{AreTemps, held_by, held_of}
use Rattle.folder_documents.specs.Named.{Named, named_on}
use Rattle.node_serving.specs.Seats.{AreEntered}
use Rattle.open_handles.specs.Opened.{AtSeat, Enters, HandleTable, Leaves, Opened, opened_on}
use Rattle.portal_base.specs.declared.who.Kind.{Kind}
use Rattle.portal_base.specs.declared.who.Who.{Who}
use Rattle.portal_model.specs.declared.handle.Handle.{Handle}
use Rattle.portal_model.specs.declared.handle.OpenHandle.{OpenHandle}
use Rattle.portal_model.specs.declared.reply.Change.{Change}
use Rattle.portal_model.specs.declared.state.Connection.{Connection}
use Rattle.portal_model.specs.Enter.{new_connection}
use Rattle.portal_model.specs.Leave.{handles_of_others, of_others}
use Rattle.portal_model.specs.Present.{requeued, with_queue}
use Rattle.portal_model.specs.State.{State, connection_of, handles_of}
use Rattle.portal_model.specs.Step.{all_told, told_of}
use Rattle.portal_model.specs.StoreRequest.{tell_hosts, told_change}
use Rattle.portal_model.specs.Valid.{has_host_path, is_host_bus, is_sound_handle, opened_here, viewed_here}
use Rattle.portal_steps.proofs.Boxes.{hushed, hushed-found, joined-elsewhere, joined-here, left-elsewhere, left-here, silent-found, some-silent}
use Rattle.save_files.specs.Own.{Own, own_on}
use Rattle.save_files.specs.Tables.{TempTable}
use Rattle.store_serving.specs.Waiting.{silent}

pub is-number : (a b : ℕ) → (a == b) ≡ true → a ≡ b
is-number a b e = grind (arith, nat_tests)

turned : (a b : ℕ) (t : Bool) → (a == b) ≡ t → (b == a) ≡ t
turned a b t e = grind (arith, nat_tests)

-- ---- connections that change

-- what is done to a connection leaves its seat, the last number that it was given, what it has named and its temporaries
abbrev pub KeptOf : Connection → Connection → Type 0
KeptOf c d = (d.seat ≡ c.seat) × (d.opens ≡ c.opens) × (d.namings ≡ c.namings) × (held_of d ≡ held_of c)

abbrev pub Keeps : (Connection → Connection) → Type 0
Keeps f = (c : Connection) → KeptOf c (f c)

pub mapped-of : (f : Connection → Connection) (cs : List Connection) (q : ℕ) → Keeps f → connection_of (map f cs) q ≡ option_map f (connection_of cs q)
mapped-of f [] q k = refl
mapped-of f (c ∷ cs) q k = ap (λ (n : ℕ). cond (n == q) (Some (f c)) (connection_of (map f cs) q)) (k c).0 ∙ by (c.seat == q) (mapped-of f cs q k)
  where
    by : (b : Bool) → connection_of (map f cs) q ≡ option_map f (connection_of cs q) → cond b (Some (f c)) (connection_of (map f cs) q) ≡ option_map f (cond b (Some c) (connection_of cs q))
    by true e = refl
    by false e = e

mapped-opened : (hs : List (ℕ × Handle)) (f : Connection → Connection) (o : Option Connection) (n : Option Opened) → Keeps f → AreOpened hs o n → AreOpened hs (option_map f o) n
mapped-opened hs f None None k a = tt
mapped-opened hs f None (Some n) k a = a
mapped-opened hs f (Some c) None k a = a
mapped-opened hs f (Some c) (Some n) k a = record { last = a.last ∙ sym (k c).1; handles = a.handles }

open-mapped : (s : State) (f : Connection → Connection) (table : HandleTable) → Keeps f → AreOpen s table → AreOpen (record s { connections = map f s.connections }) table
open-mapped s f table k a = record {
  limit = a.limit;
  each = λ q. subst (λ (o : Option Connection). AreOpened (open_on s.handles q) o (opened_on table.seats q)) (sym (mapped-of f s.connections q k)) (mapped-opened (open_on s.handles q) f (connection_of s.connections q) (opened_on table.seats q) k (a.each q));
}

pub told-keeps : (seat : ℕ) → Keeps (told_of seat)
told-keeps seat c =
    elim (c.seat == seat) as (λ b. KeptOf c (cond b (record c { unsent = [] }) c)) [ true ↦ (refl, refl, refl, refl) | false ↦ (refl, refl, refl, refl) ]

pub requeued-keeps : (seat : ℕ) (change : List (List ℕ) → List (List ℕ)) → Keeps (requeued seat change)
requeued-keeps seat change c =
    elim (c.seat == seat) as (λ b. KeptOf c (cond b (record c { queue = change c.queue }) c)) [ true ↦ (refl, refl, refl, refl) | false ↦ (refl, refl, refl, refl) ]

pub open-told : (table : HandleTable) (s : State) (seat : ℕ) → AreOpen s table → AreOpen (all_told seat s) table
open-told table s seat a = open-mapped s (told_of seat) table (told-keeps seat) a

pub open-requeued : (table : HandleTable) (s : State) (seat : ℕ) (change : List (List ℕ) → List (List ℕ)) → AreOpen s table → AreOpen (with_queue seat change s) table
open-requeued table s seat change a = open-mapped s (requeued seat change) table (requeued-keeps seat change) a

pub heard-keeps : (change : Change) → Keeps (told_change change)
heard-keeps change c =
    elim (is_host_bus c.who c.kind) as (λ b. KeptOf c (cond b (record c { unsent = c.unsent ++ change ∷ [] }) c)) [ true ↦ (refl, refl, refl, refl) | false ↦ (refl, refl, refl, refl) ]

pub open-heard : (table : HandleTable) (s : State) (change : Change) → AreOpen s table → AreOpen (tell_hosts change s) table
open-heard table s change a = open-mapped s (told_change change) table (heard-keeps change) a

-- ---- what connections wait for has nothing to do with handles

pub hushed-keeps : Keeps hushed
hushed-keeps c = (refl, refl, refl, refl)

pub open-hushed : (table : HandleTable) (s : State) → AreOpen s table → AreOpen (record s { connections = map hushed s.connections }) table
open-hushed table s a = open-mapped s hushed table hushed-keeps a

pub open-loud : (table : HandleTable) (s : State) → AreOpen (record s { connections = map hushed s.connections }) table → AreOpen s table
open-loud table s a = record {
  limit = a.limit;
  each = λ q. loud (open_on s.handles q) (connection_of s.connections q) (opened_on table.seats q)
      (subst (λ (o : Option Connection). AreOpened (open_on s.handles q) o (opened_on table.seats q)) (hushed-found s.connections q) (a.each q));
}
  where
    loud : (hs : List (ℕ × Handle)) (o : Option Connection) (n : Option Opened) → AreOpened hs (option_map hushed o) n → AreOpened hs o n
    loud hs None None h = tt
    loud hs None (Some n) h = h
    loud hs (Some c) None h = h
    loud hs (Some c) (Some n) h = record { last = h.last; handles = h.handles }

-- ---- a connection that begins

-- a seat without a connection has nothing open
none-open : (cs : List Connection) (seat : ℕ) (hs : List OpenHandle) → connection_of cs seat ≡ None → list_all (is_sound_handle cs) hs ≡ true → handles_of hs seat ≡ []
none-open cs seat [] e a = refl
none-open cs seat (h ∷ hs) e a = by (h.seat == seat) refl (none-open cs seat hs e (behind (is_sound_handle cs h) a))
  where
    behind : (b : Bool) → (b && list_all (is_sound_handle cs) hs) ≡ true → list_all (is_sound_handle cs) hs ≡ true
    behind true k = k
    behind false k = absurd (cc)

    ahead : (b : Bool) → (b && list_all (is_sound_handle cs) hs) ≡ true → b ≡ true
    ahead true k = refl
    ahead false k = absurd (cc)

    open-there : (o : Option Connection) → o ≡ None → (opened_here h.fh o && (has_host_path h.handle && viewed_here h.handle o)) ≡ true → ⊥
    open-there None n k = cc
    open-there (Some c) n k = cc

    by : (b : Bool) → (h.seat == seat) ≡ b → handles_of hs seat ≡ [] → cond b (h ∷ handles_of hs seat) (handles_of hs seat) ≡ []
    by true t more = absurd (open-there (connection_of cs h.seat) (ap (connection_of cs) (is-number h.seat seat t) ∙ e) (ahead (is_sound_handle cs h) a))
    by false t more = more

fresh-opened : (hs : List (ℕ × Handle)) (c : Connection) (o n : Option Opened) → hs ≡ [] → c.opens ≡ 0 → Enters o n → AreOpened hs (Some c) n
fresh-opened hs c o None h z e = absurd e
fresh-opened hs c o (Some n) h z e = record { last = e.last ∙ sym z; handles = e.handles ∙ sym h }

module _ (s : State) (seat : ℕ) (who : Who) (kind : Kind) (table after : HandleTable) (a : AreOpen s table) (closed : connection_of s.connections seat ≡ None) (sound : list_all (is_sound_handle s.connections) s.handles ≡ true) (most : after.most ≡ table.most) (enters : AtSeat Enters table.seats after.seats seat) where
  abbrev c : Connection
  c = new_connection seat who kind

  entered-at : (q : ℕ) (b : Bool) → (seat == q) ≡ b → AreOpened (open_on s.handles q) (connection_of (s.connections ++ c ∷ []) q) (opened_on after.seats q)
  entered-at q true h =
      let same : seat ≡ q = is-number seat q h in
      subst (λ (o : Option Connection). AreOpened (open_on s.handles q) o (opened_on after.seats q)) (sym (joined-here s.connections c q (ap (connection_of s.connections) (sym same) ∙ closed) h))
      (fresh-opened (open_on s.handles q) c (opened_on table.seats q) (opened_on after.seats q) (ap (map numbered) (none-open s.connections q s.handles (ap (connection_of s.connections) (sym same) ∙ closed) sound)) refl
      (subst (λ (n : ℕ). Enters (opened_on table.seats n) (opened_on after.seats n)) same enters.there))
  entered-at q false h =
      subst (λ (o : Option Connection). AreOpened (open_on s.handles q) o (opened_on after.seats q)) (sym (joined-elsewhere s.connections c q h))
      (subst (λ (n : Option Opened). AreOpened (open_on s.handles q) (connection_of s.connections q) n) (sym (enters.elsewhere q h)) (a.each q))

  pub open-entered : AreOpen (record s { connections = s.connections ++ c ∷ [] }) after
  open-entered = record { limit = most ∙ a.limit; each = λ q. entered-at q (seat == q) refl }

-- ---- a connection that ends

handles-elsewhere : (hs : List OpenHandle) (seat q : ℕ) → (seat == q) ≡ false → handles_of (handles_of_others seat hs) q ≡ handles_of hs q
handles-elsewhere [] seat q h = refl
handles-elsewhere (x ∷ xs) seat q h = by (x.seat == seat) refl (handles-elsewhere xs seat q h)
  where
    by : (b : Bool) → (x.seat == seat) ≡ b → handles_of (handles_of_others seat xs) q ≡ handles_of xs q → handles_of (cond (not b) (x ∷ handles_of_others seat xs) (handles_of_others seat xs)) q ≡ cond (x.seat == q) (x ∷ handles_of xs q) (handles_of xs q)
    by true t more = more ∙ ap (λ (b : Bool). cond b (x ∷ handles_of xs q) (handles_of xs q)) (sym (ap (λ (n : ℕ). n == q) (is-number x.seat seat t) ∙ h))
    by false t more = ap (λ (ys : List OpenHandle). cond (x.seat == q) (x ∷ ys) ys) more

module _ (s : State) (seat : ℕ) (table after : HandleTable) (a : AreOpen s table) (most : after.most ≡ table.most) (leaves : AtSeat Leaves table.seats after.seats seat) where
  abbrev gone : State
  gone = record s { connections = of_others seat s.connections; handles = handles_of_others seat s.handles }

  nothing-opened : (hs : List (ℕ × Handle)) (o : Option Connection) (n : Option Opened) → o ≡ None → n ≡ None → AreOpened hs o n
  nothing-opened hs None None e f = tt
  nothing-opened hs (Some c) n e f = absurd (cc)
  nothing-opened hs None (Some n) e f = absurd (cc)

  left-at : (q : ℕ) (b : Bool) → (seat == q) ≡ b → AreOpened (open_on gone.handles q) (connection_of gone.connections q) (opened_on after.seats q)
  left-at q true h =
      let same : seat ≡ q = is-number seat q h in
      nothing-opened (open_on gone.handles q) (connection_of gone.connections q) (opened_on after.seats q) (ap (connection_of gone.connections) (sym same) ∙ left-here s.connections seat) (ap (opened_on after.seats) (sym same) ∙ leaves.there)
  left-at q false h =
      subst (λ (xs : List OpenHandle). AreOpened (map numbered xs) (connection_of gone.connections q) (opened_on after.seats q)) (sym (handles-elsewhere s.handles seat q h))
      (subst (λ (o : Option Connection). AreOpened (open_on s.handles q) o (opened_on after.seats q)) (sym (left-elsewhere s.connections seat q h))
      (subst (λ (n : Option Opened). AreOpened (open_on s.handles q) (connection_of s.connections q) n) (sym (leaves.elsewhere q h)) (a.each q)))

  pub open-left : AreOpen gone after
  open-left = record { limit = most ∙ a.limit; each = λ q. left-at q (seat == q) refl }

-- ---- which seats have a connection

entered-alike : (hs : List (ℕ × Handle)) (o : Option Connection) (n : Option Opened) → AreOpened hs o n → is_some n ≡ is_some o
entered-alike hs None None a = refl
entered-alike hs None (Some n) a = absurd a
entered-alike hs (Some c) None a = absurd a
entered-alike hs (Some c) (Some n) a = refl

named-alike : (n : Option Named) (o : Option Connection) → option_map (λ x. x.namings) n ≡ option_map (λ c. c.namings) o → is_some n ≡ is_some o
named-alike None None e = refl
named-alike None (Some c) e = cc
named-alike (Some n) None e = cc
named-alike (Some n) (Some c) e = refl

seats-alike : (s : State) (cs : List Connection) → map silent s.connections ≡ cs → (q : ℕ) → is_some (connection_of s.connections q) ≡ is_some (connection_of cs q)
seats-alike s cs e q =
    sym (some-silent (connection_of s.connections q)) ∙ (ap (λ (o : Option Connection). is_some o) (sym (silent-found s.connections q)) ∙ ap (λ (l : List Connection). is_some (connection_of l q)) e)

owned-alike : (n : Option Own) (o : Option Connection) → option_map held_by n ≡ option_map held_of o → is_some n ≡ is_some o
owned-alike None None e = refl
owned-alike None (Some c) e = cc
owned-alike (Some n) None e = cc
owned-alike (Some n) (Some c) e = refl

pub are-entered : (s : State) (cs : List Connection) (table : HandleTable) (own : OwnTables) → map silent s.connections ≡ cs → AreOpen s table → AreOwn s own → AreEntered cs table own
are-entered s cs table own e a m = λ q. (
  entered-alike (open_on s.handles q) (connection_of s.connections q) (opened_on table.seats q) (a.each q) ∙ seats-alike s cs e q,
  named-alike (named_on own.names q) (connection_of s.connections q) (m.named q) ∙ seats-alike s cs e q,
  owned-alike (own_on own.temps.seats q) (connection_of s.connections q) (m.temps.each q) ∙ seats-alike s cs e q,
)

pub not-entered : (s : State) (cs : List Connection) (table : HandleTable) (seat : ℕ) → map silent s.connections ≡ cs → AreOpen s table → connection_of cs seat ≡ None → opened_on table.seats seat ≡ None
not-entered s cs table seat e a c =
    nothing (opened_on table.seats seat) (entered-alike (open_on s.handles seat) (connection_of s.connections seat) (opened_on table.seats seat) (a.each seat) ∙ (seats-alike s cs e seat ∙ ap (λ (o : Option Connection). is_some o) c))
  where
    nothing : (n : Option Opened) → is_some n ≡ false → n ≡ None
    nothing None h = refl
    nothing (Some n) h = absurd (cc)

pub not-named : (s : State) (cs : List Connection) (names : List (ℕ × Named)) (seat : ℕ) → map silent s.connections ≡ cs → AreNamed s names → connection_of cs seat ≡ None → named_on names seat ≡ None
not-named s cs names seat e m c =
    nothing (named_on names seat) (named-alike (named_on names seat) (connection_of s.connections seat) (m seat) ∙ (seats-alike s cs e seat ∙ ap (λ (o : Option Connection). is_some o) c))
  where
    nothing : (n : Option Named) → is_some n ≡ false → n ≡ None
    nothing None h = refl
    nothing (Some n) h = absurd (cc)

pub not-owned : (s : State) (cs : List Connection) (temps : TempTable) (seat : ℕ) → map silent s.connections ≡ cs → AreTemps s temps → connection_of cs seat ≡ None → own_on temps.seats seat ≡ None
not-owned s cs temps seat e m c =
    nothing (own_on temps.seats seat) (owned-alike (own_on temps.seats seat) (connection_of s.connections seat) (m.each seat) ∙ (seats-alike s cs e seat ∙ ap (λ (o : Option Connection). is_some o) c))
  where
    nothing : (n : Option Own) → is_some n ≡ false → n ≡ None
    nothing None h = refl
    nothing (Some n) h = absurd (cc)
