-- The tables of names and of temporaries go with the state, as connections begin, change and end.
use Rattle.std.proofs.Common.{◌≡◌, ℕ, ◌==◌, List, [], ◌∷◌, ◌++◌, map, Bool, true, false, Option, Some, None, option_map, refl, sym, ap, subst, ◌∙◌}
use Rattle.file_ops.specs.SeatNames.{AreNamed, AreOwn, NamesKept, OwnTables, namings_on}
use Rattle.file_ops.specs.SeatTemps.{AreTemps, HeldTemps, TempsKept, held_by, held_of, temps_on}
use Rattle.folder_documents.specs.Named.{AtSeat, Enters, Leaves, Named, named_on}
use Rattle.portal_base.specs.declared.who.Kind.{Kind}
use Rattle.portal_base.specs.declared.who.Who.{Who}
use Rattle.portal_model.specs.declared.naming.Naming.{Naming}
use Rattle.portal_model.specs.declared.reply.Change.{Change}
use Rattle.portal_model.specs.declared.state.Connection.{Connection}
use Rattle.portal_model.specs.Enter.{new_connection}
use Rattle.portal_model.specs.Leave.{handles_of_others, of_others}
use Rattle.portal_model.specs.Present.{requeued, with_queue}
use Rattle.portal_model.specs.State.{State, connection_of}
use Rattle.portal_model.specs.Step.{all_told, told_of}
use Rattle.portal_model.specs.StoreRequest.{tell_hosts, told_change}
use Rattle.save_files.specs.Own.{AtSeat as OwnAtSeat, Enters as BeginsTemps, Leaves as EndsTemps, Own, own_on, owned}
use Rattle.save_files.specs.Tables.{TempTable}
use Rattle.portal_steps.proofs.Boxes.{hushed, joined-elsewhere, joined-here, left-elsewhere, left-here}
use Rattle.portal_steps.proofs.OpenSteps.{Keeps, heard-keeps, hushed-keeps, is-number, mapped-of, requeued-keeps, told-keeps}

-- what a connection has named, where there is one
abbrev namings_of : Option Connection → Option (List Naming)
namings_of o = option_map (λ c. c.namings) o

abbrev namings_in_table : Option Named → Option (List Naming)
namings_in_table n = option_map (λ x. x.namings) n

-- ---- connections that change

same-namings : (f : Connection → Connection) (o : Option Connection) → Keeps f → namings_of (option_map f o) ≡ namings_of o
same-namings f None k = refl
same-namings f (Some c) k = ap (λ (n : List Naming). Some n) (k c).2

named-mapped : (s : State) (f : Connection → Connection) (names : List (ℕ × Named)) → Keeps f → AreNamed s names → AreNamed (record s { connections = map f s.connections }) names
named-mapped s f names k a = λ q. a q ∙ (sym (same-namings f (connection_of s.connections q) k) ∙ ap namings_of (sym (mapped-of f s.connections q k)))

named-told : (names : List (ℕ × Named)) (s : State) (seat : ℕ) → AreNamed s names → AreNamed (all_told seat s) names
named-told names s seat a = named-mapped s (told_of seat) names (told-keeps seat) a

named-requeued : (names : List (ℕ × Named)) (s : State) (seat : ℕ) (change : List (List ℕ) → List (List ℕ)) → AreNamed s names → AreNamed (with_queue seat change s) names
named-requeued names s seat change a = named-mapped s (requeued seat change) names (requeued-keeps seat change) a

named-heard : (names : List (ℕ × Named)) (s : State) (change : Change) → AreNamed s names → AreNamed (tell_hosts change s) names
named-heard names s change a = named-mapped s (told_change change) names (heard-keeps change) a

-- ---- what connections wait for has nothing to do with names

named-hushed : (names : List (ℕ × Named)) (s : State) → AreNamed s names → AreNamed (record s { connections = map hushed s.connections }) names
named-hushed names s a = named-mapped s hushed names hushed-keeps a

named-loud : (names : List (ℕ × Named)) (s : State) → AreNamed (record s { connections = map hushed s.connections }) names → AreNamed s names
named-loud names s a = λ q. a q ∙ (ap namings_of (mapped-of hushed s.connections q hushed-keeps) ∙ same-namings hushed (connection_of s.connections q) hushed-keeps)

-- ---- a connection that begins

module _ (s : State) (seat : ℕ) (who : Who) (kind : Kind) (names after : List (ℕ × Named)) (a : AreNamed s names) (closed : connection_of s.connections seat ≡ None) (enters : AtSeat Enters names after seat) where
  abbrev c : Connection
  c = new_connection seat who kind

  -- it has named nothing
  fresh-named : (o n : Option Named) → Enters o n → namings_in_table n ≡ Some []
  fresh-named o None e = absurd e
  fresh-named o (Some n) e = ap (λ (x : List Naming). Some x) e.namings

  entered-at : (q : ℕ) (b : Bool) → (seat == q) ≡ b → namings_on after q ≡ namings_of (connection_of (s.connections ++ c ∷ []) q)
  entered-at q true h =
      let same : seat ≡ q = is-number seat q h in
      fresh-named (named_on names q) (named_on after q) (subst (λ (n : ℕ). Enters (named_on names n) (named_on after n)) same enters.there)
      ∙ ap namings_of (sym (joined-here s.connections c q (ap (connection_of s.connections) (sym same) ∙ closed) h))
  entered-at q false h = ap namings_in_table (enters.elsewhere q h) ∙ (a q ∙ ap namings_of (sym (joined-elsewhere s.connections c q h)))

  named-entered : AreNamed (record s { connections = s.connections ++ c ∷ [] }) after
  named-entered = λ q. entered-at q (seat == q) refl

-- ---- a connection that ends

module _ (s : State) (seat : ℕ) (names after : List (ℕ × Named)) (a : AreNamed s names) (leaves : AtSeat Leaves names after seat) where
  left-at : (q : ℕ) (b : Bool) → (seat == q) ≡ b → namings_on after q ≡ namings_of (connection_of (of_others seat s.connections) q)
  left-at q true h =
      let same : seat ≡ q = is-number seat q h in
      ap namings_in_table (ap (named_on after) (sym same) ∙ leaves.there)
      ∙ ap namings_of (sym (ap (connection_of (of_others seat s.connections)) (sym same) ∙ left-here s.connections seat))
  left-at q false h = ap namings_in_table (leaves.elsewhere q h) ∙ (a q ∙ ap namings_of (sym (left-elsewhere s.connections seat q h)))

  named-left : AreNamed (record s { connections = of_others seat s.connections; handles = handles_of_others seat s.handles }) after
  named-left = λ q. left-at q (seat == q) refl

-- ---- nothing more was named

named-kept : (s : State) (names after : List (ℕ × Named)) → NamesKept names after → AreNamed s names → AreNamed s after
named-kept s names after k a = λ q. k q ∙ a q

-- ---- the temporaries

abbrev temps_of_one : Option Connection → Option HeldTemps
temps_of_one o = option_map held_of o

abbrev temps_in_table : Option Own → Option HeldTemps
temps_in_table n = option_map held_by n

same-temps : (f : Connection → Connection) (o : Option Connection) → Keeps f → temps_of_one (option_map f o) ≡ temps_of_one o
same-temps f None k = refl
same-temps f (Some c) k = ap (λ (x : HeldTemps). Some x) (k c).3

temps-mapped : (s : State) (f : Connection → Connection) (temps : TempTable) → Keeps f → AreTemps s temps → AreTemps (record s { connections = map f s.connections }) temps
temps-mapped s f temps k a = record {
  each = λ q. a.each q ∙ (sym (same-temps f (connection_of s.connections q) k) ∙ ap temps_of_one (sym (mapped-of f s.connections q k)));
  taken = a.taken;
}

temps-loud : (s : State) (temps : TempTable) → AreTemps (record s { connections = map hushed s.connections }) temps → AreTemps s temps
temps-loud s temps a = record {
  each = λ q. a.each q ∙ (ap temps_of_one (mapped-of hushed s.connections q hushed-keeps) ∙ same-temps hushed (connection_of s.connections q) hushed-keeps);
  taken = a.taken;
}

module _ (s : State) (seat : ℕ) (who : Who) (kind : Kind) (temps after : TempTable) (a : AreTemps s temps) (closed : connection_of s.connections seat ≡ None) (enters : OwnAtSeat BeginsTemps temps.seats after.seats seat) (taken : after.taken ≡ temps.taken) where
  abbrev fresh : Connection
  fresh = new_connection seat who kind

  -- it has none, and none was made
  fresh-temps : (o n : Option Own) → BeginsTemps o n → temps_in_table n ≡ Some (held_of fresh)
  fresh-temps o None e = absurd e
  fresh-temps o (Some n) e = λ i. Some (record { temps = ap owned e.temps i; added = e.added i })

  begun-at : (q : ℕ) (b : Bool) → (seat == q) ≡ b → temps_on after.seats q ≡ temps_of_one (connection_of (s.connections ++ fresh ∷ []) q)
  begun-at q true h =
      let same : seat ≡ q = is-number seat q h in
      fresh-temps (own_on temps.seats q) (own_on after.seats q) (subst (λ (n : ℕ). BeginsTemps (own_on temps.seats n) (own_on after.seats n)) same enters.there)
      ∙ ap temps_of_one (sym (joined-here s.connections fresh q (ap (connection_of s.connections) (sym same) ∙ closed) h))
  begun-at q false h = ap temps_in_table (enters.elsewhere q h) ∙ (a.each q ∙ ap temps_of_one (sym (joined-elsewhere s.connections fresh q h)))

  temps-entered : AreTemps (record s { connections = s.connections ++ fresh ∷ [] }) after
  temps-entered = record { each = λ q. begun-at q (seat == q) refl; taken = taken ∙ a.taken }

module _ (s : State) (seat : ℕ) (temps after : TempTable) (a : AreTemps s temps) (leaves : OwnAtSeat EndsTemps temps.seats after.seats seat) (taken : after.taken ≡ temps.taken) where
  ended-at : (q : ℕ) (b : Bool) → (seat == q) ≡ b → temps_on after.seats q ≡ temps_of_one (connection_of (of_others seat s.connections) q)
  ended-at q true h =
      let same : seat ≡ q = is-number seat q h in
      ap temps_in_table (ap (own_on after.seats) (sym same) ∙ leaves.there)
      ∙ ap temps_of_one (sym (ap (connection_of (of_others seat s.connections)) (sym same) ∙ left-here s.connections seat))
  ended-at q false h = ap temps_in_table (leaves.elsewhere q h) ∙ (a.each q ∙ ap temps_of_one (sym (left-elsewhere s.connections seat q h)))

  temps-left : AreTemps (record s { connections = of_others seat s.connections; handles = handles_of_others seat s.handles }) after
  temps-left = record { each = λ q. ended-at q (seat == q) refl; taken = taken ∙ a.taken }

-- ---- both tables

-- another state with these connections, and these generations taken
pub own-same : (own : OwnTables) (s t : State) → t.connections ≡ s.connections → t.taken ≡ s.taken → AreOwn s own → AreOwn t own
own-same own s t e f a = record {
  named = λ q. a.named q ∙ ap (λ (cs : List Connection). namings_of (connection_of cs q)) (sym e);
  temps = record {
    each = λ q. a.temps.each q ∙ ap (λ (cs : List Connection). temps_of_one (connection_of cs q)) (sym e);
    taken = a.temps.taken ∙ sym f;
  };
}

pub own-told : (own : OwnTables) (s : State) (seat : ℕ) → AreOwn s own → AreOwn (all_told seat s) own
own-told own s seat a = record { named = named-told own.names s seat a.named; temps = temps-mapped s (told_of seat) own.temps (told-keeps seat) a.temps }

pub own-requeued : (own : OwnTables) (s : State) (seat : ℕ) (change : List (List ℕ) → List (List ℕ)) → AreOwn s own → AreOwn (with_queue seat change s) own
own-requeued own s seat change a = record { named = named-requeued own.names s seat change a.named; temps = temps-mapped s (requeued seat change) own.temps (requeued-keeps seat change) a.temps }

pub own-heard : (own : OwnTables) (s : State) (change : Change) → AreOwn s own → AreOwn (tell_hosts change s) own
own-heard own s change a = record { named = named-heard own.names s change a.named; temps = temps-mapped s (told_change change) own.temps (heard-keeps change) a.temps }

pub own-hushed : (own : OwnTables) (s : State) → AreOwn s own → AreOwn (record s { connections = map hushed s.connections }) own
own-hushed own s a = record { named = named-hushed own.names s a.named; temps = temps-mapped s hushed own.temps hushed-keeps a.temps }

pub own-loud : (own : OwnTables) (s : State) → AreOwn (record s { connections = map hushed s.connections }) own → AreOwn s own
own-loud own s a = record { named = named-loud own.names s a.named; temps = temps-loud s own.temps a.temps }

-- a seat begins in both
pub record BeginsOwn (old new : OwnTables) (seat : ℕ) : Type 0 where
  pub names : AtSeat Enters old.names new.names seat
  pub temps : OwnAtSeat BeginsTemps old.temps.seats new.temps.seats seat
  pub taken : new.temps.taken ≡ old.temps.taken

pub own-entered : (s : State) (seat : ℕ) (who : Who) (kind : Kind) (old new : OwnTables) → AreOwn s old → connection_of s.connections seat ≡ None → BeginsOwn old new seat → AreOwn (record s { connections = s.connections ++ new_connection seat who kind ∷ [] }) new
own-entered s seat who kind old new a closed b = record {
  named = named-entered s seat who kind old.names new.names a.named closed b.names;
  temps = temps-entered s seat who kind old.temps new.temps a.temps closed b.temps b.taken;
}

-- or ends
pub record EndsOwn (old new : OwnTables) (seat : ℕ) : Type 0 where
  pub names : AtSeat Leaves old.names new.names seat
  pub temps : OwnAtSeat EndsTemps old.temps.seats new.temps.seats seat
  pub taken : new.temps.taken ≡ old.temps.taken

pub own-left : (s : State) (seat : ℕ) (old new : OwnTables) → AreOwn s old → EndsOwn old new seat → AreOwn (record s { connections = of_others seat s.connections; handles = handles_of_others seat s.handles }) new
own-left s seat old new a e = record {
  named = named-left s seat old.names new.names a.named e.names;
  temps = temps-left s seat old.temps new.temps a.temps e.temps e.taken;
}

-- or nothing changes in either
pub record OwnKept (old new : OwnTables) : Type 0 where
  pub names : NamesKept old.names new.names
  pub temps : TempsKept old.temps new.temps

pub own-kept : (s : State) (old new : OwnTables) → OwnKept old new → AreOwn s old → AreOwn s new
own-kept s old new k a = record {
  named = named-kept s old.names new.names k.names a.named;
  temps = record { each = λ q. k.temps.0 q ∙ a.temps.each q; taken = k.temps.1 ∙ a.temps.taken };
}
