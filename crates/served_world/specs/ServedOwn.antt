-- A request of the application, and what the outside gave to it, over any tree of files. Of the
-- tree it has what was shown to this very request, and nothing that was shown to another.
use Rattle.std.specs.Prelude.{ℕ, List, Bool, false, Option, length, map, replicate}
use Rattle.portal_base.specs.declared.files.ChildName.{ChildName}
use Rattle.portal_base.specs.declared.files.Look.{Look}
use Rattle.portal_base.specs.declared.names.doc_id.DocId.{DocId}
use Rattle.portal_model.specs.declared.entry.Entry.{Entry}
use Rattle.portal_model.specs.declared.entry.Fault.{Fault}
use Rattle.portal_model.specs.declared.request.Request.{Request}
use Rattle.portal_model.specs.Content.{Content, OfFile, OfFolder, NotThere}
use Rattle.portal_model.specs.State.{State, connection_of}
use Rattle.portal_model.specs.Step.{bus_of}
use Rattle.app_world.specs.Own.{Own}
use Rattle.app_world.specs.View.{Alone}
use Rattle.app_world.specs.World.{documents_reused}

pub record ServedOwn : Type 0 where
  pub seat : ℕ
  pub request : Request
  pub now : Option ℕ
  pub numbers : List DocId
  -- of an Add that uses documents again: of each file that isn't left out the one that was there
  -- for it, if any
  pub reused : List (Option DocId)
  -- what the tree showed, in the order of the calls, up to one that failed
  pub looks : List Look
  -- the names of a folder, where it was listed and is there
  pub listed : Option (List ChildName)
  pub full : Bool
  pub fault : Fault
  -- the generation of a file that was made to be renamed later
  pub generation : Option ℕ

-- what the history has of an entry that the application makes
abbrev pub served_own : State → Entry → ServedOwn
served_own s e = record {
  seat = e.seat;
  request = e.request;
  now = e.given.now;
  numbers = e.given.numbers;
  reused = documents_reused s e.request (bus_of (connection_of s.connections e.seat));
  looks = e.given.looks;
  listed = e.given.listed;
  full = e.given.full;
  fault = e.given.fault;
  generation = e.given.generation;
}

-- ---- over a tree that tells its files

-- what shows a look; the bytes of a file are of no account
abbrev pub shown_by_look : Look → Content
shown_by_look (Look.File generation size moment) =
    OfFile generation (replicate size 0) moment
shown_by_look Look.Folder = OfFolder
shown_by_look Look.Missing = NotThere false

-- the same request to the machine that is told contents: the looks are what these show
abbrev pub told_own : ServedOwn → Own
told_own own = record {
  seat = own.seat;
  request = own.request;
  now = own.now;
  numbers = own.numbers;
  shown = map (λ look. Alone (shown_by_look look)) own.looks;
  reused = own.reused;
  looks = length own.looks;
  full = own.full;
  fault = own.fault;
  generation = own.generation;
}
