-- A worked example of the file that the host sees in an application's view: document 0000000a of
-- the file /home/a.txt, and a mount of the host at seat 2. What is expected is worked out by hand
-- from the numbers of nodes and from include/uapi/linux/fuse.h.
use Rattle.std.specs.Prelude.{◌≡◌, ℕ, ◌+◌, Some}
use Rattle.portal_model.specs.declared.place.Place.{Place}
use Rattle.portal_model.specs.declared.reply.Attr.{Attr}
use Rattle.portal_model.specs.declared.reply.NodeAnswer.{NodeAnswer}
use Rattle.portal_model.specs.declared.request.NodeOp.{NodeOp}
use Rattle.portal_model.specs.FileExamples.{a_node, answer_to, errs, file_attr, folder_attr, told, with_rights}
use Rattle.portal_model.specs.Place.{node_of, place_named}
use Rattle.app_world.specs.Examples.{id}

-- The editor is application 1. The root of its view is 1 * 2^36 + 1, and the document's file there
-- is 1 * 2^36 + 2 * 2^32 + 10
abbrev pub root_in_view : ℕ
root_in_view = 68719476737

abbrev pub file_in_view : ℕ
file_in_view = 77309411338

-- with the mode 0o100400, which is 33024
abbrev pub read_only : Attr → Attr
read_only attr = record attr { mode = 33024 }

abbrev pub attributes_with : ℕ → ℕ → Attr → Type 0
attributes_with rights node attr =
    answer_to (with_rights rights) 2 node (NodeOp.GetAttr 0 0) ≡ told (NodeAnswer.Attr attr)

-- The file may be written in the view where the editor may write it: with the right to read alone
-- its mode is 0o100400, and with both 0o100600. In the host's own view it is 0o100600 in either
-- case. The editor has no view of itself, nor has an application that has no number.
pub record HostSeesByRights : Type 0 where
  pub place : place_named file_in_view ≡ Some (Place.File 1 (id 10))
  pub node : node_of (Place.File 1 (id 10)) ≡ file_in_view
  pub root : attributes_with 1 root_in_view (folder_attr root_in_view)
  pub reads : attributes_with 1 file_in_view (read_only (file_attr file_in_view 5 0))
  pub writes : attributes_with 3 file_in_view (file_attr file_in_view 5 0)
  pub own_view : attributes_with 1 a_node (file_attr a_node 5 0)
  pub not_own :
      answer_to (with_rights 3) 1 file_in_view (NodeOp.GetAttr 0 0) ≡ errs 2
  pub no_such_view :
      answer_to (with_rights 3) 2 (file_in_view + 68719476736) (NodeOp.GetAttr 0 0) ≡ errs 2
