-- What a portal holds beside its devices may cross threads: each type by its parts.
use denote.Param.Send.{IsSend, IsSync, sendable}
use Rattle.std.proofs.Crossing.{crosses}
use Rattle.dbus_types.proofs.shared.Shared.TheSendSync as shared
use Rattle.dbus_types.proofs.types.Value.TheLaws.TheKnot as value
use Rattle.dbus_types.proofs.types.WireType.TheLaws.TheKnot as wire_type
use Rattle.document_records.proofs.applications.Applications.TheSendSync as applications
use Rattle.document_records.proofs.documents.Documents.TheSendSync as documents
use Rattle.document_records.proofs.grants.Grants.TheSendSync as grants
use Rattle.folder_documents.proofs.namings.Namings.TheSendSync as namings
use Rattle.inode_table.proofs.inodes.InodeTable.TheSendSync as counts
use Rattle.node_looks.proofs.rooms.LookRooms.TheSendSync as rooms
use Rattle.open_handles.proofs.handles.Handles.TheSendSync as handles
use Rattle.permission_table.proofs.index.EntryIndex.TheSendSync as places
use Rattle.portal_base.proofs.list.List.TheSendSync as list
use Rattle.portal_base.proofs.text.Text.TheSendSync as text
use Rattle.portal_base.proofs.who.Kind.TheSendSync as kind
use Rattle.portal_base.proofs.who.Who.TheSendSync as who
use Rattle.portal_model.proofs.entry.Given.TheSendSync as given
use Rattle.portal_model.proofs.naming.Naming.TheSendSync as naming
use Rattle.portal_model.proofs.opening.FileItem.TheSendSync as file
use Rattle.portal_model.proofs.opening.OpeningDocument.TheSendSync as document
use Rattle.portal_model.proofs.opening.TakenGeneration.TheSendSync as taken
use Rattle.portal_model.proofs.records.Row.TheSendSync as row
use Rattle.portal_model.proofs.request.AddRequest.TheSendSync as add
use Rattle.portal_model.proofs.request.NodeRequest.TheSendSync as node
use Rattle.portal_model.proofs.request.RightsCall.TheSendSync as rights
use Rattle.portal_model.proofs.temporary.OwnTemp.TheSendSync as temporary
use Rattle.save_files.proofs.temps.Temps.TheSendSync as temps
use Rattle.change_signals.specs.contracts.outboxes.Outboxes as Outboxes
use Rattle.dbus_types.specs.contracts.shared.Shared as Shared
use Rattle.permission_table.specs.contracts.indexed.IndexedEntries as IndexedEntries
use Rattle.permission_table.specs.contracts.tables.Tables as Tables
use Rattle.portal_base.specs.contracts.list.List as List
use Rattle.portal_history.specs.contracts.history.History as History
use Rattle.portal_model.specs.contracts.datum.Datum as Datum
use Rattle.portal_model.specs.contracts.entry.Entry as Entry
use Rattle.portal_model.specs.contracts.opening.OpeningState as OpeningState
use Rattle.portal_model.specs.contracts.reply.Change as Change
use Rattle.portal_model.specs.contracts.request.Request as Request
use Rattle.portal_model.specs.contracts.state.Connection as Connection
use Rattle.portal_model.specs.contracts.store.StoreCall as StoreCall
use Rattle.portal_model.specs.contracts.store.StoredEntry as StoredEntry

-- what is written to the permission store
datum : IsSend Datum.the_row
datum = search (crosses, value.crosses_both, wire_type.crosses_both, sendable) depth 60 fits 20000

stored : IsSend StoredEntry.the_row
stored = search (text.the_send, row.the_send, list.the_send, datum, crosses, sendable) depth 60 fits 20000

change : IsSend Change.the_row
change = search (text.the_send, row.the_send, list.the_send, datum, crosses, sendable) depth 60 fits 20000

-- a change is one for all connections that it waits for, so it is read by several threads
shared_datum : IsSync Datum.the_row
shared_datum = search (crosses, value.crosses_both, wire_type.crosses_both, sendable) depth 60 fits 20000

shared_change : IsSync Change.the_row
shared_change = search (text.the_sync, row.the_sync, list.the_sync, shared_datum, crosses, sendable) depth 60 fits 20000

one_change : IsSend (Shared.the_row Change.the_row)
one_change = shared.the_send Change.the_row change shared_change

-- what is asked
call : IsSend (StoreCall.the_field).row
call = search (crosses, value.crosses_both, wire_type.crosses_both, sendable) depth 60 fits 20000

request : IsSend (Request.the_field).row
request = search (who.the_field_send, kind.the_field_send, list.the_send, add.the_field_send, rights.the_field_send, node.the_field_send, call, crosses, sendable) depth 60 fits 20000

entry : IsSend Entry.the_row
entry = search (request, given.the_field_send, sendable) depth 60 fits 20000

-- what a portal holds
pub history : IsSend History.the_row
history = search (entry, list.the_send, crosses, sendable) depth 60 fits 20000

pub outboxes : IsSend Outboxes.the_row
outboxes = search (change, one_change, list.the_send, crosses, sendable) depth 60 fits 20000

indexed : IsSend IndexedEntries.the_row
indexed = search (stored, list.the_send, places.the_field_send, crosses, sendable) depth 60 fits 20000

pub tables : IsSend Tables.the_row
tables = search (indexed, crosses, sendable) depth 60 fits 20000

pub opening : IsSend (OpeningState.the_field).row
opening = search (stored, document.the_send, file.the_send, taken.the_send, list.the_send, crosses, sendable) depth 60 fits 20000

connection : IsSend Connection.the_row
connection = search (change, naming.the_send, temporary.the_send, list.the_send, crosses, sendable) depth 60 fits 20000

pub connections : IsSend (List.the_row Connection.the_row)
connections = list.the_send Connection.the_row connection

-- all of a portal but its devices, as a set for `search`
pub ruleset portal_parts = (opening, documents.the_send, grants.the_send, applications.the_send, tables, outboxes, connections, handles.the_send, namings.the_send, temps.the_send, counts.the_send, rooms.the_send, history, crosses, sendable)
