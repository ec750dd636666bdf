-- The records that stand for a state: what outlives a run.
use Rattle.std.specs.Prelude.{ℕ, ◌+◌, List, map, Bool, cond}
use Rattle.std.specs.List.{filter}
use Rattle.rights_rule.specs.Rights.{RightSet}
use Rattle.portal_model.specs.declared.records.DocRecord.{DocRecord}
use Rattle.portal_model.specs.declared.records.GrantRecord.{GrantRecord}
use Rattle.portal_model.specs.declared.records.Records.{Records}
use Rattle.portal_model.specs.declared.rights.Right.{Right}
use Rattle.portal_model.specs.declared.rights.Right.TheVariants.{Read, Write, GrantPermissions, Delete}
use Rattle.portal_model.specs.declared.state.Document.{Document}
use Rattle.portal_model.specs.declared.state.Triple.{Triple}
use Rattle.portal_model.specs.Info.{holders}
use Rattle.portal_model.specs.State.{State, bit_of, held_of}
use Rattle.portal_model.specs.RecordChanges.{records_version}
use Rattle.portal_model.specs.Store.{record_of}

abbrev pub bit_if : Bool → Right → ℕ
bit_if held right = cond held (bit_of right) 0

-- the number that a record gives a set of rights
abbrev pub bits_of : RightSet → ℕ
bits_of set =
    bit_if set.read Read
    + (bit_if set.write Write
    + (bit_if set.grant_permissions GrantPermissions + bit_if set.delete Delete))

abbrev pub grant_record : List Triple → ℕ → List ℕ → GrantRecord
grant_record rights number app = record { app = app; rights = bits_of (held_of rights app number) }

-- a document with the rights in it, in byte order of the applications' names
abbrev pub document_record : List Triple → Document → DocRecord
document_record rights d = record {
  number = d.id.number;
  path = d.path;
  reusable = d.reusable;
  strict = d.strict;
  grants = map (grant_record rights d.id.number) (holders rights d.id.number);
}

-- the persistent documents in order of addition, and all permission entries in order of creation
abbrev pub records_of : State → Records
records_of s = record {
  version = records_version;
  documents = map (document_record s.rights) (filter (λ d. d.persistent) s.documents);
  entries = map record_of s.entries;
}
