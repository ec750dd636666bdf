-- What connections have named below exported folders, as the table of namings has it, and how a
-- request changes that.
use Rattle.std.specs.Prelude.{◌≡◌, ℕ, ◌==◌, List, false, Option, Some, option_map}
use Rattle.host_tree.specs.Trees.{TreeIs}
use Rattle.open_handles.specs.Opened.{HandleTable}
use Rattle.folder_documents.specs.Named.{Named, named_on}
use Rattle.portal_model.specs.declared.naming.Naming.{Naming}
use Rattle.portal_model.specs.declared.state.Connection.{Connection}
use Rattle.portal_model.specs.Node.{node_answer}
use Rattle.portal_model.specs.NodeVerdict.{NameChange, Names, NamesStay, Temps}
use Rattle.portal_base.specs.declared.who.Who.{Who}
use Rattle.portal_model.specs.declared.temporary.OwnTemp.{OwnTemp}
use Rattle.portal_model.specs.Place.{Sight, id_of_node, place_of}
use Rattle.portal_model.specs.SeatNames.{naming_of, temp_of, with_naming}
use Rattle.portal_model.specs.State.{State, connection_of}
use Rattle.save_files.specs.Tables.{TempTable}
use Rattle.node_looks.specs.Done.{DoneIn, IsCalled}
use Rattle.node_looks.specs.Served.{given_to}
use Rattle.node_looks.specs.declared.served.FileBook.{FileBook}
use Rattle.node_looks.specs.declared.served.NodeCall.{NodeCall}
use Rattle.node_looks.specs.declared.served.NodeDone.{NodeDone}
use Rattle.file_ops.specs.SeatTemps.{AreTemps}

-- ---- the names of a state

-- what the table has of a seat
abbrev pub namings_on : List (ℕ × Named) → ℕ → Option (List Naming)
namings_on names seat = option_map (λ n. n.namings) (named_on names seat)

-- what a state has of it
abbrev pub namings_in : State → ℕ → Option (List Naming)
namings_in s seat = option_map (λ c. c.namings) (connection_of s.connections seat)

-- A seat stands in the table exactly where it has a connection, with what that has named.
abbrev pub AreNamed : State → List (ℕ × Named) → Type 0
AreNamed s names = (seat : ℕ) → namings_on names seat ≡ namings_in s seat

-- what the seat of a request has named by the number in its node
abbrev pub IsNamedOn : List (ℕ × Named) → NodeCall → Option Naming → Type 0
IsNamedOn names call naming = (has : List Naming) → namings_on names call.seat ≡ Some has →
    naming ≡ naming_of has (id_of_node call.request.now.node)

-- what the connection of a seat that has these sees at a node
abbrev pub seat_sight : State → Who → List Naming → List OwnTemp → ℕ → Option Sight
seat_sight s who namings temps node = place_of s who (naming_of namings (id_of_node node))
    (temp_of temps (id_of_node node)) node

-- ---- how a request changes the table

abbrev pub namings_after : NameChange → List Naming → List Naming
namings_after NamesStay namings = namings
namings_after (Names naming) namings = with_naming namings naming
namings_after (Temps change) namings = namings

-- what one seat has named changes so, and what each other has stays
pub record SeatNamed (seat : ℕ) (change : NameChange) (old new : List (ℕ × Named)) : Type 0 where
  pub there : namings_on new seat ≡ option_map (namings_after change) (namings_on old seat)
  pub elsewhere : (other : ℕ) → (seat == other) ≡ false →
      namings_on new other ≡ namings_on old other

-- ---- a request

-- what connections have below exported folders, and as temporaries
pub record OwnTables : Type 0 where
  pub names : List (ℕ × Named)
  pub temps : TempTable

abbrev pub own_tables : List (ℕ × Named) → TempTable → OwnTables
own_tables names temps = record { names = names; temps = temps }

-- these are those of a state
pub record AreOwn (s : State) (own : OwnTables) : Type 0 where
  pub named : AreNamed s own.names
  pub temps : AreTemps s own.temps

-- It is done in every state in which it may be asked, and what connections have named then, and
-- as temporaries, is what the state has.
pub record DoneNaming (s : State) (c : Connection) (call : NodeCall) (old : TreeIs)
    (came : NodeDone) (after : HandleTable) (tables : OwnTables) (new : TreeIs) : Type 0 where
  pub done : DoneIn s c call.request.now old came after new
  pub own : AreOwn (node_answer s c call.request.now (given_to came)).0 tables

abbrev pub DoesNaming : FileBook → NodeCall → HandleTable → OwnTables → TreeIs → NodeDone
    → HandleTable → OwnTables → TreeIs → Type 0
DoesNaming book call table had old done after own new = (s : State) (c : Connection) →
    IsCalled s c book call table old.told → AreOwn s had →
    DoneNaming s c call old done after own new

-- no connection has named anything more
abbrev pub NamesKept : List (ℕ × Named) → List (ℕ × Named) → Type 0
NamesKept old new = (seat : ℕ) → namings_on new seat ≡ namings_on old seat
