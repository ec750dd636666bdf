-- What a line of a script does. Bytes that come on a connection are cut into items, and each item
-- that is whole is answered in order.
use Rattle.std.specs.Prelude.{◌≡◌, ℕ, ◌+◌, List, [], ◌∷◌, ◌++◌, length, map, Option, Some}
use Rattle.std.specs.Prelude.{None}
use Rattle.portal_model.specs.declared.entry.Entry.{Entry}
use Rattle.portal_model.specs.declared.request.Request.{Request}
use Rattle.portal_model.specs.History.{run}
use Rattle.portal_model.specs.State.{State}
use Rattle.script_lines.specs.declared.script.ScriptLine.{ScriptLine}
use Rattle.script_lines.specs.declared.script.ScriptLine.TheVariants.{File, Doc, Fail, Word, Now}
use Rattle.script_lines.specs.declared.script.ScriptLine.TheVariants.{Open, Data, Close}
use Rattle.script_lines.specs.declared.script.ScriptLine.TheVariants as line
use Rattle.script_form.specs.Outside.{Outside}
use Rattle.session.specs.declared.act.Act.{Act}
use Rattle.session.specs.declared.served.Stop.{Stop}
use Rattle.session.specs.declared.served.Stop.TheVariants as stop
use Rattle.session.specs.declared.served.Served.TheVariants as served
use Rattle.session.specs.Answers.{Answers}
use Rattle.session.specs.Asked.{requests_of}
use Rattle.session.specs.Items.{Items, joined, phase_after}
use Rattle.session.specs.Sessions.{ending_at, fed_of}
use Rattle.session.specs.Standings.{Standing, client, fresh}
use Rattle.script_replay.specs.Entries.{AreGiven, made_of}
use Rattle.script_replay.specs.Scenes.{Scene, placed, run_settings}
use Rattle.script_replay.specs.Texts.{out_line, end_line}

-- ---- bytes on a connection

-- Bytes come behind the rest of a connection: the items that are whole now ask these requests, what
-- is given to these answers them by these pieces, this stands behind them, and the session goes on
-- so.
pub record Hears (s : State) (o : Outside) (seat : ℕ) (at : Standing) (bytes : List ℕ) (what : Stop)
    (requests : List Request) (pieces : List (List ℕ)) (now : Standing) : Type 0 where
  pub items : List (List ℕ)
  pub acts : List Act
  pub cut : Items at.client at.stage.phase (at.rest ++ bytes) items acts now.rest what
  pub asked : requests ≡ requests_of acts
  pub entries : List Entry
  pub left : Outside
  pub given : AreGiven s o seat requests entries left
  pub answers : Answers at.client at.stage.serial acts (made_of s entries) pieces now.stage.serial
  pub client : now.client ≡ at.client
  pub phase : now.stage.phase ≡ phase_after at.client at.stage.phase items
  pub before : now.before ≡ at.before + length (joined items)
  pub fed : now.fed ≡ fed_of now.before what

-- ---- a line

-- nothing is asked or written, and all stays
abbrev pub Passes : Scene → List Entry → List (List ℕ) → Scene → Type 0
Passes a entries out b = (entries ≡ []) × (out ≡ []) × (b ≡ a)

-- the clock is set: from then on it shows this moment
abbrev pub set_to : ℕ → Scene → Scene
set_to moment a = record a { outside = record a.outside { clock = moment } }

-- nothing is asked or written, and the clock is set
abbrev pub Sets : Scene → ℕ → List Entry → List (List ℕ) → Scene → Type 0
Sets a moment entries out b = (entries ≡ []) × (out ≡ []) × (b ≡ set_to moment a)

-- These requests of a seat are asked, one after another; this is written; and then this stands at
-- its number.
pub record Comes (a : Scene) (seat : ℕ) (requests : List Request) (lines : List (List ℕ))
    (now : Option Standing) (entries : List Entry) (out : List (List ℕ)) (b : Scene) : Type 0 where
  pub left : Outside
  pub given : AreGiven a.portal a.outside seat requests entries left
  pub out_is : out ≡ lines
  pub scene : b ≡ record {
    portal = run a.portal entries;
    outside = left;
    sessions = placed a.sessions seat now;
  }

-- A connection goes on, and holds the bytes behind its items; one with an item that breaks a rule,
-- or with a line that is too long, ends by itself and leaves.
abbrev pub Goes : Scene → ℕ → Stop → List Request → List (List ℕ) → Standing → List Entry
    → List (List ℕ) → Scene → Type 0
Goes a seat stop.More requests pieces now entries out b =
    Comes a seat requests (map (out_line seat) pieces) (Some now) entries out b
Goes a seat (stop.Bad rule) requests pieces now entries out b =
    Comes a seat (requests ++ Request.Leave ∷ [])
    (map (out_line seat) pieces ++ end_line seat (served.Malformed now.before rule) ∷ []) None
    entries out b
Goes a seat stop.TooLong requests pieces now entries out b =
    Comes a seat (requests ++ Request.Leave ∷ [])
    (map (out_line seat) pieces ++ end_line seat (served.LineTooLong now.before) ∷ []) None
    entries out b

-- Data for a connection that ended by itself is passed over. Of any other the entries are those
-- that the answers are made of, and the Leave's where the connection ends by itself.
abbrev pub DataDoes : Scene → ℕ → List ℕ → Option Standing → List Entry → List (List ℕ) → Scene
    → Type 0
DataDoes a seat bytes None entries out b = Passes a entries out b
DataDoes a seat bytes (Some at) entries out b =
    (what : Stop) × (requests : List Request) × (pieces : List (List ℕ)) × (now : Standing)
    × (heard : Hears a.portal a.outside seat at bytes what requests pieces now)
    × Goes a seat what requests pieces now entries out b
    × (later : List Entry) × (entries ≡ heard.entries ++ later)

-- So is the close of one.
abbrev pub CloseDoes : Scene → ℕ → Option Standing → List Entry → List (List ℕ) → Scene → Type 0
CloseDoes a seat None entries out b = Passes a entries out b
CloseDoes a seat (Some at) entries out b =
    Comes a seat (Request.Leave ∷ []) (end_line seat (ending_at at.rest) ∷ []) None entries out b

-- A line is run: from one scene to another, with these entries and this output. Files, documents
-- and entries are in the state that the script opens with; words, wherever they stand, and calls
-- that fail are in its outside. A time sets the clock for the lines behind it.
abbrev pub Does : Scene → ScriptLine → List Entry → List (List ℕ) → Scene → Type 0
Does a (File path content) entries out b = Passes a entries out b
Does a (line.Entry entry) entries out b = Passes a entries out b
Does a (Fail device call) entries out b = Passes a entries out b
Does a (Word word) entries out b = Passes a entries out b
Does a (Now moment) entries out b = Sets a moment entries out b
Does a (Doc id reusable strict path grants) entries out b = Passes a entries out b
Does a (Open seat kind who) entries out b = Comes a seat (Request.Enter who kind ∷ []) []
    (Some (fresh (client who kind run_settings))) entries out b
Does a (Data seat bytes) entries out b = DataDoes a seat bytes (a.sessions seat) entries out b
Does a (Close seat) entries out b = CloseDoes a seat (a.sessions seat) entries out b
