-- The attributes of a node (struct fuse_attr, include/uapi/linux/fuse.h).
use Rattle.std.specs.Prelude.{ℕ, ◌+◌, ◌/◌, Bool, false, cond}
use Rattle.portal_model.specs.declared.reply.Attr.{Attr}
use Rattle.portal_model.specs.declared.request.NodeRequest.{NodeRequest}
use Rattle.portal_model.specs.Place.{Folder, RootOf, Views, FolderOf, Exported}

-- of a file: the mode is 0o100600 where it may be written, and else 0o100400
abbrev pub attr_of_file : NodeRequest → Bool → ℕ → ℕ → Attr
attr_of_file r may_write size moment = record {
  node = r.node;
  size = size;
  blocks = (size + 511) / 512;
  moment = moment;
  mode = cond may_write 33152 33024;
  links = 1;
  uid = r.uid;
  gid = r.gid;
  block_size = 4096;
}

-- whether a folder is shown as one that may be written: an exported one and those below it, by the
-- right to write
abbrev pub is_writable : Folder → Bool
is_writable (RootOf view numbers has_views) = false
is_writable (Views applications) = false
is_writable (FolderOf view d may_write) = false
is_writable (Exported view d path may_write) = may_write

-- of a folder: the mode is 0o040700 where it may be written, and else 0o040500
abbrev pub attr_of_folder : NodeRequest → Bool → Attr
attr_of_folder r may_write = record {
  node = r.node;
  size = 0;
  blocks = 0;
  moment = 0;
  mode = cond may_write 16832 16704;
  links = 2;
  uid = r.uid;
  gid = r.gid;
  block_size = 4096;
}

-- the same request on another node
abbrev pub on_node : NodeRequest → ℕ → NodeRequest
on_node r node = record r { node = node }
