-- What the rule of the turn knows of a seat.
use Rattle.std.specs.Prelude.{ℕ, List, [], Bool, false}
use Rattle.portal_model.specs.declared.entry.Entry.{Entry}
use Rattle.portal_model.specs.Seated.{Exchange, exchanges}
use Rattle.portal_model.specs.State.{State}

-- a seat whose view was joined into another's: its number, the history as far as it had seen it,
-- its own entries with the replies of their steps, and the length of the history that it read last
pub record Done : Type 0 where
  pub number : ℕ
  pub seen : List Entry
  pub mine : List Exchange
  pub known : ℕ

pub record View : Type 0 where
  -- the seat's number, from 1; a view that was joined into another has 0
  pub number : ℕ
  -- the state that the history began in
  pub opening : State
  -- the history that the turn was started with
  pub base : List Entry
  -- the history as far as the seat has seen it
  pub seen : List Entry
  -- the seat's own entries, each with the reply of its step
  pub mine : List Exchange
  -- whether the seat holds the turn
  pub holds : Bool
  -- the history as the seat found it when it took the turn, and then with its own entry
  pub found : List Entry
  -- how many of its exchanges on the turn lost, and the holder that the last of them read
  pub losses : ℕ
  pub holder : ℕ
  -- how often it read the length of the history, and the length that it read last
  pub loads : ℕ
  pub known : ℕ
  -- of the first seat: how many numbers were given
  pub made : ℕ
  -- the seats that were joined into it
  pub kept : List Done

-- a seat of this number that has seen the history at the start, and of it knows its own entries
abbrev pub fresh : ℕ → State → List Entry → ℕ → View
fresh n o base made = record {
  number = n;
  opening = o;
  base = base;
  seen = base;
  mine = exchanges n o base;
  holds = false;
  found = [];
  losses = 0;
  holder = 0;
  loads = 0;
  known = 0;
  made = made;
  kept = [];
}

-- a state of nobody's, with which a view is left that knows nothing
abbrev pub nowhere : State
nowhere = record {
  limits = record {
    documents = 0;
    made = 0;
    history = 0;
    handles = 0;
    queued = 0;
    file_bytes = 0;
  };
  documents = [];
  made = [];
  rights = [];
  applications = [];
  connections = [];
  handles = [];
  told = false;
  files = [];
  hidden = [];
  taken = [];
  entries = [];
}

-- what is left of a view that was joined into another
abbrev pub spent : View
spent = fresh 0 nowhere [] 0
