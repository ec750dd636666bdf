-- What another's call on rights tells an application, over the parts of a state that tell it.
use Rattle.std.specs.Prelude.{List, [], ◌∷◌, Option, Some, None, true}
use Rattle.portal_base.specs.declared.files.File.{File}
use Rattle.portal_model.specs.declared.state.Document.{Document}
use Rattle.portal_model.specs.declared.state.Triple.{Triple}
use Rattle.portal_model.specs.State.{State}
use Rattle.app_world.specs.TraceItem as item
use Rattle.app_trace.specs.declared.trace.TraceItem.{TraceItem}
use Rattle.app_trace.specs.Told.{item_told}

-- an item, if any
abbrev pub told_if : Option TraceItem → List item.TraceItem
told_if None = []
told_if (Some x) = item_told x ∷ []

-- a state with these documents, rights and present files, and nothing else: what a call on rights
-- touches
-- is told by these alone
abbrev pub shown_in : List Document → List Triple → List File → State
shown_in documents rights files = record {
  limits = record { documents = 0; made = 0; history = 0; handles = 0; queued = 0; file_bytes = 0 };
  documents = documents;
  made = [];
  rights = rights;
  applications = [];
  connections = [];
  handles = [];
  told = true;
  files = files;
  hidden = [];
  taken = [];
  entries = [];
}
