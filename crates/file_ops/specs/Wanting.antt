-- What a request that wants memory may have asked of the tree and of the clock, by its kind.
use Rattle.std.specs.Prelude.{ℕ, nat_lt, Bool, true, false, cond, not}
use Rattle.portal_model.specs.declared.request.NodeOp.{NodeOp}
use Rattle.portal_model.specs.declared.request.NodeRequest.{NodeRequest}
use Rattle.portal_model.specs.NodeNumbers.{kind_of_node}

-- the requests that may change bytes or make a file: no other reads the clock
abbrev pub may_change_file : NodeOp → Bool
may_change_file (NodeOp.SetAttr valid fh size) = true
may_change_file (NodeOp.Open flags) = true
may_change_file (NodeOp.Create name flags) = true
may_change_file (NodeOp.Write fh offset content) = true
may_change_file (NodeOp.Lookup name) = false
may_change_file (NodeOp.Forget count) = false
may_change_file (NodeOp.BatchForget nodes) = false
may_change_file (NodeOp.GetAttr flags fh) = false
may_change_file (NodeOp.Read fh offset size) = false
may_change_file (NodeOp.Flush fh) = false
may_change_file (NodeOp.Fsync fh) = false
may_change_file (NodeOp.Release fh) = false
may_change_file NodeOp.OpenDir = false
may_change_file (NodeOp.ReadDir fh offset size) = false
may_change_file (NodeOp.ReleaseDir fh) = false
may_change_file (NodeOp.Access mask) = false
may_change_file (NodeOp.Rename new_parent flags old_name new_name) = false
may_change_file (NodeOp.Unlink name) = false

-- a node that is none of a root, of the folder of all views or of a document's folder: an exported
-- folder, a name below it or a temporary may be there
abbrev pub may_be_below : ℕ → Bool
may_be_below node = not (nat_lt (kind_of_node node) 2)

-- How often the tree was called at most where memory is wanted: by a call that wants it, and the
-- looks ahead of one that lists, cuts or makes or names a file, or makes one present. An exported
-- folder, or what lies below it, is looked at first.
abbrev pub calls_by : Bool → NodeOp → ℕ
calls_by below (NodeOp.Create name flags) = cond below 3 2
calls_by below (NodeOp.Lookup name) = cond below 2 0
calls_by below (NodeOp.SetAttr valid fh size) = 2
calls_by below (NodeOp.Open flags) = 2
calls_by below NodeOp.OpenDir = cond below 2 1
calls_by below (NodeOp.Read fh offset size) = 1
calls_by below (NodeOp.Write fh offset content) = 1
calls_by below (NodeOp.Fsync fh) = 1
calls_by below (NodeOp.Forget count) = 0
calls_by below (NodeOp.BatchForget nodes) = 0
calls_by below (NodeOp.GetAttr flags fh) = 0
calls_by below (NodeOp.Flush fh) = 0
calls_by below (NodeOp.Release fh) = 0
calls_by below (NodeOp.ReadDir fh offset size) = 0
calls_by below (NodeOp.ReleaseDir fh) = 0
calls_by below (NodeOp.Access mask) = 0
calls_by below (NodeOp.Rename new_parent flags old_name new_name) = 1
calls_by below (NodeOp.Unlink name) = 0

abbrev pub calls_in_vain : NodeRequest → ℕ
calls_in_vain r = calls_by (may_be_below r.node) r.op

-- The requests for which all memory can be taken ahead: they look at the tree once at most, open
-- and name nothing, and answer no list and no bytes.
abbrev pub fits_by : Bool → NodeOp → Bool
fits_by below (NodeOp.Lookup name) = not below
fits_by below (NodeOp.GetAttr flags fh) = true
fits_by below (NodeOp.Access mask) = true
fits_by below (NodeOp.Flush fh) = true
fits_by below (NodeOp.Release fh) = true
fits_by below (NodeOp.ReleaseDir fh) = true
fits_by below (NodeOp.Forget count) = true
fits_by below (NodeOp.BatchForget nodes) = true
fits_by below (NodeOp.SetAttr valid fh size) = false
fits_by below (NodeOp.Open flags) = false
fits_by below (NodeOp.Create name flags) = false
fits_by below (NodeOp.Read fh offset size) = false
fits_by below (NodeOp.Write fh offset content) = false
fits_by below (NodeOp.Fsync fh) = false
fits_by below NodeOp.OpenDir = false
fits_by below (NodeOp.ReadDir fh offset size) = false
fits_by below (NodeOp.Rename new_parent flags old_name new_name) = false
fits_by below (NodeOp.Unlink name) = false

abbrev pub fits_in_room : NodeRequest → Bool
fits_in_room r = fits_by (may_be_below r.node) r.op

-- the requests that may call the tree in vain: memory may be wanted in that call or behind it. Of
-- the others some never call it, and the rest take all their room first.
abbrev pub vain_by : Bool → NodeOp → Bool
vain_by below (NodeOp.Lookup name) = below
vain_by below (NodeOp.SetAttr valid fh size) = true
vain_by below (NodeOp.Open flags) = true
vain_by below (NodeOp.Create name flags) = true
vain_by below (NodeOp.Read fh offset size) = true
vain_by below (NodeOp.Write fh offset content) = true
vain_by below (NodeOp.Fsync fh) = true
vain_by below NodeOp.OpenDir = true
vain_by below (NodeOp.Rename new_parent flags old_name new_name) = true
vain_by below (NodeOp.Forget count) = false
vain_by below (NodeOp.BatchForget nodes) = false
vain_by below (NodeOp.GetAttr flags fh) = false
vain_by below (NodeOp.Flush fh) = false
vain_by below (NodeOp.Release fh) = false
vain_by below (NodeOp.ReadDir fh offset size) = false
vain_by below (NodeOp.ReleaseDir fh) = false
vain_by below (NodeOp.Access mask) = false
vain_by below (NodeOp.Unlink name) = false

abbrev pub may_call_in_vain : NodeRequest → Bool
may_call_in_vain r = vain_by (may_be_below r.node) r.op
