-- How a request that may name something follows its walk, and what connections have named behind it.
use Rattle.std.proofs.Common.{◌≡◌, ℕ, List, false, Option, Some, None, refl, sym, ap, subst, ◌∙◌}
use Rattle.std.specs.Option.{option_map}
use Rattle.portal_base.specs.declared.files.Look.{Look}
use Rattle.host_tree.specs.Trees.{Asks, Looks as Shows, TreeIs, is_look_fault}
use Rattle.host_tree.specs.declared.tree.LookAnswer.{LookAnswer}
use Rattle.host_tree.specs.declared.tree.LookAnswer.TheVariants as look
use Rattle.host_tree.specs.declared.tree.TreeCall.TheVariants as TreeCall
use Rattle.open_handles.specs.Opened.{HandleTable}
use Rattle.folder_documents.specs.Named.{Named}
use Rattle.portal_model.specs.declared.naming.Naming.{Naming}
use Rattle.portal_model.specs.declared.reply.Attr.{Attr}
use Rattle.portal_model.specs.declared.reply.NodeAnswer.TheVariants as NodeAnswer
use Rattle.portal_model.specs.declared.state.Connection.{Connection}
use Rattle.portal_model.specs.Bus.{is_tree, moment_given}
use Rattle.portal_model.specs.Node.{walk_on_node}
use Rattle.portal_model.specs.NodeVerdict.{NameChange, Names, NamesStay, NodeVerdict, HandlesStay, errs, names_path}
use Rattle.portal_model.specs.State.{State}
use Rattle.portal_model.specs.Walk.{Answers, AtPath, Looks, Walk, walked_with}
use Rattle.node_looks.specs.Done.{IsCalled, name_change}
use Rattle.node_looks.specs.OpenHandles.{Handled}
use Rattle.node_looks.specs.declared.served.FileBook.{FileBook}
use Rattle.node_looks.specs.declared.served.NodeCall.{NodeCall}
use Rattle.node_looks.specs.declared.served.NodeDone.{NodeDone}
use Rattle.node_looks.proofs.DoneLemmas.{IsExact, done-in, handles-stay, told-still}
use Rattle.file_ops.specs.Creates.{Numbering, NumberingBehind}
use Rattle.file_ops.specs.SeatNames.{AreOwn, DoneNaming, OwnTables, SeatNamed, namings_after, namings_on, own_tables}
use Rattle.file_ops.specs.Tries.{done_after, done_behind, done_of_ended, refuses, says}
use Rattle.file_ops.specs.declared.tried.Ended.{Ended}
use Rattle.file_ops.proofs.EachEnd.{Each, each-walked, spares_temps}
use Rattle.file_ops.proofs.Openings.{opens-after}
use Rattle.file_ops.proofs.SettledOwn.{own-settled, temps-same}
use Rattle.file_ops.proofs.Tries.{after-goes, behind-goes, goes-done, refuses-goes, shows-path}

-- ---- what a seat has named

stays-same : (o : Option (List Naming)) → o ≡ option_map (namings_after NamesStay) o
stays-same None = refl
stays-same (Some namings) = refl

pub same-named : (seat : ℕ) (names : List (ℕ × Named)) → SeatNamed seat NamesStay names names
same-named seat names = record { there = stays-same (namings_on names seat); elsewhere = λ other e. refl }

-- room that was taken first changes nothing
pub named-behind : (seat : ℕ) (change : NameChange) (old mid new : List (ℕ × Named)) → SeatNamed seat NamesStay old mid → SeatNamed seat change mid new → SeatNamed seat change old new
named-behind seat change old mid new k h = record {
  there = h.there ∙ ap (option_map (namings_after change)) (k.there ∙ sym (stays-same (namings_on old seat)));
  elsewhere = λ other e. h.elsewhere other e ∙ k.elsewhere other e;
}

-- ---- by a walk

-- refused, and no more came of it than that room was taken
pub refused-numbering : (errno seat : ℕ) (table : HandleTable) (names : List (ℕ × Named)) (t : TreeIs) (after : HandleTable) (named : List (ℕ × Named)) → Handled seat HandlesStay table after → SeatNamed seat NamesStay names named →
    Numbering (errs errno) seat table names t (done_of_ended (refuses errno)) after named t
refused-numbering errno seat table names t after named k m = record {
  opening = record { change = HandlesStay; goes = refuses-goes errno t; handled = k };
  change = NamesStay;
  naming = refl;
  names = m;
}

pub errs-numbering : (errno seat : ℕ) (table : HandleTable) (names : List (ℕ × Named)) (t : TreeIs) → Numbering (errs errno) seat table names t (done_of_ended (refuses errno)) table names t
errs-numbering errno seat table names t = refused-numbering errno seat table names t table names (handles-stay seat table) (same-named seat names)

pub entry-numbering : (naming : Naming) (attr : Attr) (seat : ℕ) (table : HandleTable) (names named : List (ℕ × Named)) (t : TreeIs) → SeatNamed seat (Names naming) names named →
    Numbering (Answers (names_path naming (NodeAnswer.Entry attr))) seat table names t (done_of_ended (says (NodeAnswer.Entry attr))) table named t
entry-numbering naming attr seat table names named t h = record {
  opening = record {
    change = HandlesStay;
    goes = record {
      gives = (refl, refl);
      lists = refl;
      clock = refl;
      generation = refl;
      keeper = λ e. cc;
      verdict = Some (names_path naming (NodeAnswer.Entry attr));
      comes = refl;
      answer = refl;
      handles = refl;
      files = sym (told-still t.told);
      calls = record { goes = refl; fails = tt };
    };
    handled = handles-stay seat table;
  };
  change = Names naming;
  naming = refl;
  names = h;
}

-- one walk for another that is the same
pub numbering-along : (v w : Walk NodeVerdict) (seat : ℕ) (table : HandleTable) (names : List (ℕ × Named)) (old : TreeIs) (done : NodeDone) (after : HandleTable) (named : List (ℕ × Named)) (new : TreeIs) → v ≡ w →
    Numbering w seat table names old done after named new → Numbering v seat table names old done after named new
numbering-along v w seat table names old done after named new e n = subst (λ (x : Walk NodeVerdict). Numbering x seat table names old done after named new) (sym e) n

-- behind room that was taken
pub numbering-before : (w : Walk NodeVerdict) (seat : ℕ) (table mid : HandleTable) (names between : List (ℕ × Named)) (old : TreeIs) (done : NodeDone) (after : HandleTable) (named : List (ℕ × Named)) (new : TreeIs) → Handled seat HandlesStay table mid → SeatNamed seat NamesStay names between →
    Numbering w seat mid between old done after named new → Numbering w seat table names old done after named new
numbering-before w seat table mid names between old done after named new k m n = record {
  opening = opens-after w seat table mid old done after new k n.opening;
  change = n.change;
  naming = n.naming;
  names = named-behind seat n.change names between named m n.names;
}

-- behind a look ahead, whatever comes of it
pub numbering-after : (path : List ℕ) (next : Look → Walk NodeVerdict) (shown : Look) (done : NodeDone) (seat : ℕ) (table : HandleTable) (names : List (ℕ × Named)) (after : HandleTable) (named : List (ℕ × Named)) (old mid new : TreeIs) →
    Asks TreeCall.Look old false mid → Shows old.told path (look.Is shown) → Numbering (next shown) seat table names mid done after named new → Numbering (Looks (AtPath path) next) seat table names old (done_after shown done) after named new
numbering-after path next shown done seat table names after named old mid new a i n = record {
  opening = record {
    change = n.opening.change;
    goes = after-goes (AtPath path) next shown done n.opening.change old mid new a (shows-path old.told path (look.Is shown) i) n.opening.goes;
    handled = n.opening.handled;
  };
  change = n.change;
  naming = n.naming;
  names = n.names;
}

pub numbering-behind : (path : List ℕ) (next : Look → Walk NodeVerdict) (answer : LookAnswer) (seat : ℕ) (table : HandleTable) (names : List (ℕ × Named)) (ended : Ended) (after : HandleTable) (named : List (ℕ × Named)) (old mid new : TreeIs) →
    Asks TreeCall.Look old (is_look_fault answer) mid → Shows old.told path answer → NumberingBehind next answer seat table names mid ended after named new → Numbering (Looks (AtPath path) next) seat table names old (done_behind (Some answer) ended) after named new
numbering-behind path next (look.Is shown) seat table names ended after named old mid new a i n = numbering-after path next shown (done_of_ended ended) seat table names after named old mid new a i n
numbering-behind path next look.Failed seat table names ended after named old mid new a i n = record {
  opening = record {
    change = HandlesStay;
    goes = behind-goes (AtPath path) next look.Failed ended HandlesStay old mid new a tt (n.0, refl, n.3);
    handled = n.1;
  };
  change = NamesStay;
  naming = ap (λ (e : Ended). let d = done_behind (Some look.Failed) e in name_change (walked_with (Looks (AtPath path) next) (moment_given d.now) d.listed d.looks (is_tree d.fault))) n.0;
  names = n.2;
}

-- ---- the request

pub numbering-done : (s : State) (c : Connection) (book : FileBook) (call : NodeCall) (w : Walk NodeVerdict) (table : HandleTable) (had : OwnTables) (old : TreeIs) (done : NodeDone) (after : HandleTable) (named : List (ℕ × Named)) (new : TreeIs) →
    IsCalled s c book call table old.told → AreOwn s had → walk_on_node s c call.request.now ≡ w → IsExact call.request.now.op → Each spares_temps w → Numbering w call.seat table had.names old done after named new →
    DoneNaming s c call old done after (own_tables named had.temps) new
numbering-done s c book call w table had old done after named new a m e x q n =
    let v : Option NodeVerdict = walked_with w (moment_given done.now) done.listed done.looks (is_tree done.fault) in
    record {
      done = done-in s c book call w table old done after new a e (goes-done w call.request.now.op call.seat table old done n.opening.change after new x n.opening.goes n.opening.handled);
      own = own-settled s c call.seat call.request.now w done v had (own_tables named had.temps) a.here e refl
          (subst (λ (change : NameChange). SeatNamed call.seat change had.names named) (sym n.naming) n.names)
          (temps-same call.seat v had.temps (each-walked spares_temps w (moment_given done.now) done.listed done.looks (is_tree done.fault) q)) m;
    }
