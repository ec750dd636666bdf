-- What is true of every load.
use Rattle.std.specs.Prelude.{◌≡◌, ℕ, ◌+◌, ◌*◌, ◌<◌, ◌≤◌, ◌^◌, length, replicate, Option, Some, None, IfSome}
use Rattle.fuse_wire.specs.Asks.{ask_of}
use Rattle.fuse_wire.specs.Frames.{header_of, split_of}
use Rattle.fuse_wire.specs.declared.request.FuseAsk.TheVariants.{Portal}
use Rattle.portal_base.specs.Names.{doc_text}
use Rattle.portal_base.specs.declared.split.Split.TheVariants.{Whole}
use Rattle.portal_model.specs.declared.request.NodeOp.{NodeOp}
use Rattle.portal_model.specs.declared.request.NodeOp.TheVariants as op
use Rattle.script_lines.specs.Lines.{text_of}
use Rattle.script_form.specs.Order.{IsScript, script_limit}
use Rattle.portal_load.specs.declared.draw.Asked.{Asked}
use Rattle.portal_load.specs.declared.draw.Asked.TheVariants.{Lookup, GetAttr, Open, Read, Write, Release, Rights}
use Rattle.portal_load.specs.declared.draw.Draw.{Draw}
use Rattle.portal_load.specs.Frames.{frame_asked, gid, node_of, read_size, read_write, uid, write_size}
use Rattle.portal_load.specs.Lines.{load_of, most_requests}

-- its lines are a script
abbrev pub LoadsAreScripts : Type 0
LoadsAreScripts = (count : ℕ) → IsScript (load_of count).script.lines

-- whose text is short enough to be read
abbrev pub LoadsAreShort : Type 0
LoadsAreShort = (count : ℕ) → count ≤ most_requests
    → length (text_of (load_of count).script.lines) ≤ script_limit

-- ---- what frames ask

-- what is asked of the file view; rights are not
abbrev pub op_of : Asked → Draw → Option NodeOp
op_of Lookup draw = Some (op.Lookup (doc_text draw.document))
op_of GetAttr draw = Some (op.GetAttr 0 0)
op_of Open draw = Some (op.Open read_write)
op_of Read draw = Some (op.Read (draw.place + 1) 0 read_size)
op_of Write draw = Some (op.Write (draw.place + 1) (4 * draw.place) (replicate write_size 0))
op_of Release draw = Some (op.Release (draw.place + 1))
op_of Rights draw = None

-- a frame of the load is whole, has the request's number as its unique, and asks what was drawn, of
-- its node and for its user
pub record FramesAreRead : Type 0 where
  pub whole : (request : ℕ) (draw : Draw)
      → split_of (frame_asked request draw) ≡ Whole (length (frame_asked request draw))
  pub unique : (request : ℕ) (draw : Draw) → request < 2 ^ 64
      → (header_of (frame_asked request draw)).unique ≡ request
  pub asks : (request : ℕ) (draw : Draw) → draw.document < 16 → draw.place < 1024
      → IfSome (op_of draw.asked draw) (λ asked. ask_of (frame_asked request draw)
      ≡ Portal (record {
        node = node_of draw.asked draw.document;
        uid = uid;
        gid = gid;
        op = asked;
      }))
