-- A keeper of records in a database may cross threads: what its connection holds may, each type by
-- its parts.
use denote.RattleType.{RattleType}
use denote.Param.Send.{IsSend, sendable}
use Rattle.std.proofs.Crossing.{crosses}
use Rattle.keeper_sqlite.specs.contracts.keeper.SqliteKeeper as SqliteKeeper
use Rattle.sqlite_tables.specs.contracts.fault.DatabaseFault as DatabaseFault
use Rattle.sqlite_tables.specs.contracts.fault.KeeperFault as KeeperFault
use Rattle.std.specs.contracts.io.ErrorKind as ErrorKind
use Rattle.sqlite.specs.contracts.connection.Connection as Connection
use Rattle.sqlite.proofs.connection.Connection.TheSendSync as connection
use Rattle.sqlite_disk.specs.contracts.modelled.Modelled as Modelled
use Rattle.sqlite_disk.specs.contracts.modelled.ModelledDisk.TheImpl.{ghosts as disk, no_dict as no_disk}
use Rattle.sqlite_disk.specs.contracts.start.Unknown as Unknown
use Rattle.sqlite_disk.specs.contracts.start.UnknownStart.TheImpl.{ghosts as start}
use Rattle.sqlite_disk.proofs.modelled.Modelled.TheSendSync as modelled
use Rattle.sqlite_pager.specs.contracts.cache.Cache as Cache
use Rattle.sqlite_pager.specs.contracts.layers.Layer as Layer
use Rattle.sqlite_pool.specs.contracts.free_set.FreeSet as FreeSet
use Rattle.sqlite_std_file.specs.contracts.host.Host as Host
use Rattle.sqlite_std_file.specs.contracts.host.HostCalls.TheImpl.{ghosts as calls}
use Rattle.sqlite_store.specs.contracts.catalog.Wanted as Wanted
use Rattle.sqlite_store.specs.contracts.cursor.Cursor as Cursor
use Rattle.sqlite_store.specs.contracts.saved.Saved as Saved
use Rattle.sqlite_store.specs.contracts.store.FileStore as FileStore
use Rattle.sqlite_store.specs.contracts.store.FileStoreStore.TheImpl.{ghosts as stores, no_dict as no_store}
use Rattle.sqlite_value.proofs.row.Row.TheSendSync as row
use Rattle.sqlite_wal.proofs.index.PageIndex.TheSendSync as page_index

-- ---- what a store holds

wanted : IsSend (Wanted.the_field).row
wanted = search (row.the_send, crosses, sendable) depth 60 fits 20000

saved : IsSend (Saved.the_field).row
saved = search (wanted, crosses, sendable) depth 60 fits 20000

cursor : IsSend (Cursor.the_field).row
cursor = search (crosses, sendable) depth 60 fits 20000

cache : IsSend (Cache.the_field).row
cache = search (crosses, sendable) depth 60 fits 20000

layer : IsSend (Layer.the_field).row
layer = search (page_index.the_send, crosses, sendable) depth 60 fits 20000

free_set : IsSend (FreeSet.the_field).row
free_set = search (crosses, sendable) depth 60 fits 20000

-- ---- a store over files of the system

host : IsSend (Host.the_field).row
host = search (crosses, sendable) depth 60 fits 20000

abbrev file : RattleType
file = Modelled.the_row Host.the_row Unknown.the_row calls start

file_send : IsSend file
file_send = search (modelled.the_send, host, crosses, sendable) depth 60 fits 20000

abbrev store : RattleType
store = FileStore.the_row file (disk Host.the_row Unknown.the_row calls no_disk start no_disk no_disk)

store_send : IsSend store
store_send = search (file_send, wanted, saved, cursor, cache, layer, free_set, page_index.the_send, crosses, sendable) depth 60 fits 50000

-- ---- the connection, and the keeper over it

connection_send : IsSend (Connection.the_row store (stores file (disk Host.the_row Unknown.the_row calls no_disk start no_disk no_disk) no_store))
connection_send = connection.the_send store (stores file (disk Host.the_row Unknown.the_row calls no_disk start no_disk no_disk) no_store) store_send

kind : IsSend (ErrorKind.the_field).row
kind = search (crosses, sendable) depth 60 fits 20000

database_fault : IsSend (DatabaseFault.the_field).row
database_fault = search (kind, crosses, sendable) depth 60 fits 20000

keeper_fault : IsSend (KeeperFault.the_field).row
keeper_fault = search (database_fault, crosses, sendable) depth 60 fits 20000

pub keeper_send : IsSend SqliteKeeper.the_row
keeper_send = search (connection_send, keeper_fault, crosses, sendable) depth 60 fits 50000
