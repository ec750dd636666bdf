-- What the plain data stand for.
use Rattle.std.specs.Prelude.{map}
use Rattle.portal_model.specs.Content as content
use Rattle.app_world.specs.TraceItem as item
use Rattle.app_world.specs.View as view
use Rattle.app_world.specs.World as world
use Rattle.app_trace.specs.declared.trace.Trace.{Trace}
use Rattle.app_trace.specs.declared.trace.TraceItem.{TraceItem}
use Rattle.app_trace.specs.declared.trace.TraceItem.TheVariants.{Own, Gained, Lost, Gone, Bytes, Turned}
use Rattle.app_trace.specs.declared.view.AppView.{AppView}
use Rattle.app_trace.specs.declared.view.Content.{Content}
use Rattle.app_trace.specs.declared.view.Content.TheVariants.{File, Folder, Missing}
use Rattle.app_trace.specs.declared.view.HeldDocument.{HeldDocument}
use Rattle.app_trace.specs.declared.view.Holding.{Holding}
use Rattle.app_trace.specs.declared.view.Holding.TheVariants.{Alone, Below}
use Rattle.app_trace.specs.declared.view.NamedFile.{NamedFile}
use Rattle.app_trace.specs.declared.view.OwnConnection.{OwnConnection}
use Rattle.app_trace.specs.declared.view.OwnHandle.{OwnHandle}
use Rattle.app_trace.specs.declared.view.PathBelow.{PathBelow}
use Rattle.app_trace.specs.declared.view.PathContent.{PathContent}

-- ---- what an application holds

abbrev pub content_told : Content → content.Content
content_told (File generation bytes moment) = content.OfFile generation bytes moment
content_told Folder = content.OfFolder
content_told (Missing room) = content.NotThere room

abbrev pub held_told : HeldDocument → view.HeldDocument
held_told d = record { document = d.document; rights = d.rights }

abbrev pub handle_told : OwnHandle → view.OwnHandle
handle_told h = record { fh = h.fh; handle = h.handle }

abbrev pub connection_told : OwnConnection → view.OwnConnection
connection_told c = record {
  seat = c.seat;
  app = c.app;
  kind = c.kind;
  queue = c.queue;
  opens = c.opens;
  handles = map handle_told c.handles;
  namings = c.namings;
  temps = c.temps;
  added = c.added;
}

abbrev pub path_told : PathContent → view.PathContent
path_told c = record { path = c.path; content = content_told c.content }

abbrev pub below_told : PathBelow → view.PathBelow
below_told b = record { path = b.path; files = b.files }

abbrev pub named_told : NamedFile → view.NamedFile
named_told f = record { name = f.name; bytes = f.bytes; moment = f.moment }

abbrev pub holding_told : Holding → view.Holding
holding_told (Alone content) = view.Alone (content_told content)
holding_told (Below files) = view.Below files

abbrev pub view_told : AppView → view.AppView
view_told v = record {
  handles = v.handles;
  queued = v.queued;
  file_bytes = v.file_bytes;
  documents = map held_told v.documents;
  connections = map connection_told v.connections;
  contents = map path_told v.contents;
  below = map below_told v.below;
  files = map named_told v.files;
}

-- ---- what happens to it

abbrev pub item_told : TraceItem → item.TraceItem
item_told (Own seat request now numbers shown reused looks full fault generation) = item.Own (record {
  seat = seat;
  request = request;
  now = now;
  numbers = numbers;
  shown = map holding_told shown;
  reused = reused;
  looks = looks;
  full = full;
  fault = fault;
  generation = generation;
})
item_told (Gained document rights holding) = item.Gained document rights (holding_told holding)
item_told (Lost id rights) = item.Lost id rights
item_told (Gone id) = item.Gone id
item_told (Bytes path generation content) = item.Bytes path generation (content_told content)
item_told (Turned path generation content) =
    item.Turned path generation (content_told content)

abbrev pub trace_told : Trace → world.Trace
trace_told t = record { opening = view_told t.opening; items = map item_told t.items }
