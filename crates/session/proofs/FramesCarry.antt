-- What a frame asks carries no more bytes than stand behind the frame's header.
use Rattle.std.proofs.Common.{◌≡◌, ℕ, zero, suc, ◌+◌, ◌*◌, ◌-◌, ◌≤◌, List, length, drop, take, Bool, true, false, Option, Some, None, refl, arith, length-take}
use Rattle.std.specs.List.{position}
use Rattle.std.specs.Option.{option_map}
use Rattle.std.specs.Prelude.{◌==◌, IfSome, nat_le, if◌then◌else◌}
use Rattle.std.proofs.lemmas.Bool.Decides.{nat_tests}
use Rattle.std.proofs.lemmas.List.{length-drop}
use Rattle.fuse_wire.specs.Asks.{IsFuse, ask_of, batch_forget_op, create_op, local, lookup_op, portal, quiet, rename_op, rename2_op, renames, sized, unlink_op, write_op}
use Rattle.fuse_wire.specs.Bodies.{access_in, batch_forget_in, create_in, flush_in, forget_in, forget_ones, fsync_in, getattr_in, is_name, name_in, name_of, names_at, names_of, open_in, read_in, release_in, rename_in, rename2_in, setattr_in, two_names, write_in}
use Rattle.fuse_wire.specs.Frames.{header_of}
use Rattle.fuse_wire.specs.Init.{init_ask}
use Rattle.fuse_wire.specs.Opcodes.{opcode_of}
use Rattle.fuse_wire.specs.declared.body.TwoNames.{TwoNames}
use Rattle.fuse_wire.specs.declared.frame.InHeader.{InHeader}
use Rattle.fuse_wire.specs.declared.opcode.Opcode.{Opcode}
use Rattle.fuse_wire.specs.declared.request.FuseAsk.{FuseAsk}
use Rattle.fuse_wire.specs.declared.request.FuseAsk.TheVariants as fuse
use Rattle.portal_model.specs.History.{node_bytes}
use Rattle.portal_model.specs.declared.reply.NodeAnswer.{NodeAnswer}
use Rattle.portal_model.specs.declared.reply.NodeAnswer.TheVariants.{Statfs}
use Rattle.portal_model.specs.declared.request.NodeOp.{NodeOp}
use Rattle.portal_model.specs.declared.request.NodeOp.TheVariants as op

-- the request that is asked, if any, carries no more than so many bytes
abbrev pub Carries : ℕ → FuseAsk → Type 0
Carries n (fuse.Portal r) = node_bytes r.op ≤ n
Carries n (fuse.Local told) = Unit {0}
Carries n fuse.Ignore = Unit {0}

abbrev MayCarry : ℕ → Option NodeOp → Type 0
MayCarry n asked = IfSome asked (λ o. node_bytes o ≤ n)

-- ---- bodies

where_so : (n : ℕ) (b : Bool) (o : NodeOp) → (b ≡ true → node_bytes o ≤ n) → MayCarry n (if b then Some o else None)
where_so n true o h = h refl
where_so n false o h = tt

-- the body of a struct alone carries nothing
struct_carries : (len : ℕ) (body : List ℕ) (o : NodeOp) → node_bytes o ≡ 0 → MayCarry (length body) (sized len body o)
struct_carries len body o none = where_so (length body) (length body == len) o (λ h. omega (arith, none))

name_carries : (n : ℕ) (b : Bool) (name : List ℕ) (f : List ℕ → NodeOp) → node_bytes (f name) ≤ n → MayCarry n (option_map f (if b then Some name else None))
name_carries n true name f h = h
name_carries n false name f h = tt

name_short : (bytes : List ℕ) → length (name_in bytes) ≤ length bytes
name_short bytes = let e = length-take (length bytes - 1) bytes in omega (arith, e)

lookup_carries : (body : List ℕ) → MayCarry (length body) (lookup_op body)
lookup_carries body = name_carries (length body) (is_name body) (name_in body) op.Lookup (name_short body)

unlink_carries : (body : List ℕ) → MayCarry (length body) (unlink_op body)
unlink_carries body = name_carries (length body) (is_name body) (name_in body) op.Unlink (name_short body)

create_carries : (body : List ℕ) → MayCarry (length body) (create_op body)
create_carries body =
    let rest : List ℕ = drop 16 body in
    let short = name_short rest in
    let part = length-drop 16 body in
    name_carries (length body) (is_name rest) (name_in rest) (λ name. op.Create name (create_in body).flags) (omega (arith, short, part))

-- two names have no more bytes than what they stand in
abbrev AreShort : ℕ → Option TwoNames → Type 0
AreShort n asked = IfSome asked (λ t. length t.old + length t.new ≤ n)

second_short : (n : ℕ) (b : Bool) (old new : List ℕ) → length old + length new ≤ n → AreShort n (option_map (two_names old) (if b then Some new else None))
second_short n true old new h = h
second_short n false old new h = tt

both_short : (bytes : List ℕ) (b : Bool) (end : ℕ) → AreShort (length bytes) (if b then None else option_map (two_names (take end bytes)) (name_of (drop (end + 1) bytes)))
both_short bytes true end = tt
both_short bytes false end =
    let rest : List ℕ = drop (end + 1) bytes in
    let short = name_short rest in
    let first = length-take end bytes in
    let left = length-drop (end + 1) bytes in
    second_short (length bytes) (is_name rest) (take end bytes) (name_in rest) (omega (arith, short, first, left))

names_short : (bytes : List ℕ) (end : Option ℕ) → AreShort (length bytes) (names_at bytes end)
names_short bytes None = tt
names_short bytes (Some end) = both_short bytes (end == 0) end

names_carry : (n m newdir flags : ℕ) (names : Option TwoNames) → n ≤ m → AreShort n names → MayCarry m (option_map (renames newdir flags) names)
names_carry n m newdir flags None h k = tt
names_carry n m newdir flags (Some names) h k = let short : length names.old + length names.new ≤ n = k in omega (arith, h, short)

rename_carries : (body : List ℕ) → MayCarry (length body) (rename_op body)
rename_carries body =
    let part = length-drop 8 body in
    let names : List ℕ = drop 8 body in
    names_carry (length names) (length body) (rename_in body).newdir 0 (names_of names) (omega (arith, part)) (names_short names (position (λ b. b == 0) names))

rename2_carries : (body : List ℕ) → MayCarry (length body) (rename2_op body)
rename2_carries body =
    let part = length-drop 16 body in
    let names : List ℕ = drop 16 body in
    names_carry (length names) (length body) (rename2_in body).newdir (rename2_in body).flags (names_of names) (omega (arith, part)) (names_short names (position (λ b. b == 0) names))

write_carries_by : (b : Bool) (body : List ℕ) → MayCarry (length body) (if b then sized (40 + (write_in body).size) body (op.Write (write_in body).fh (write_in body).offset (drop 40 body)) else None)
write_carries_by true body =
    let part = length-drop 40 body in
    where_so (length body) (length body == 40 + (write_in body).size) (op.Write (write_in body).fh (write_in body).offset (drop 40 body)) (λ h. omega (arith, part))
write_carries_by false body = tt

ones_length : (count : ℕ) (bytes : List ℕ) → length (forget_ones count bytes) ≡ count
ones_length zero bytes = refl
ones_length (suc count) bytes = let rest = ones_length count (drop 16 bytes) in omega arith

-- a forgotten node counts as many bytes as it has in the body
forget_carries_by : (b : Bool) (body : List ℕ) → MayCarry (length body) (if b then sized (8 + 16 * (batch_forget_in body).count) body (op.BatchForget (forget_ones (batch_forget_in body).count (drop 8 body))) else None)
forget_carries_by true body =
    let count : ℕ = (batch_forget_in body).count in
    let nodes = ones_length count (drop 8 body) in
    where_so (length body) (length body == 8 + 16 * count) (op.BatchForget (forget_ones count (drop 8 body))) (λ h. let same : length body ≡ 8 + 16 * count = grind (arith, nat_tests) in omega (arith, same, nodes))
forget_carries_by false body = tt

-- ---- the table of opcodes

portal_carries : (n : ℕ) (header : InHeader) (asked : Option NodeOp) → MayCarry n asked → Carries n (portal header asked)
portal_carries n header None h = tt
portal_carries n header (Some o) h = h

quiet_carries : (n : ℕ) (header : InHeader) (asked : Option NodeOp) → MayCarry n asked → Carries n (quiet header asked)
quiet_carries n header None h = tt
quiet_carries n header (Some o) h = h

local_carries : (n : ℕ) (told : Option NodeAnswer) → Carries n (local told)
local_carries n None = tt
local_carries n (Some told) = tt

fuse_carries : (opcode : Opcode) (header : InHeader) (body : List ℕ) → Carries (length body) (IsFuse opcode header body)
fuse_carries Opcode.Lookup header body = portal_carries (length body) header (lookup_op body) (lookup_carries body)
fuse_carries Opcode.Forget header body =
    let o = op.Forget (forget_in body).nlookup in quiet_carries (length body) header (sized 8 body o) (struct_carries 8 body o refl)
fuse_carries Opcode.GetAttr header body =
    let o = op.GetAttr (getattr_in body).getattr_flags (getattr_in body).fh in portal_carries (length body) header (sized 16 body o) (struct_carries 16 body o refl)
fuse_carries Opcode.SetAttr header body =
    let o = op.SetAttr (setattr_in body).valid (setattr_in body).fh (setattr_in body).size in portal_carries (length body) header (sized 88 body o) (struct_carries 88 body o refl)
fuse_carries Opcode.MkNod header body = tt
fuse_carries Opcode.MkDir header body = tt
fuse_carries Opcode.Unlink header body = portal_carries (length body) header (unlink_op body) (unlink_carries body)
fuse_carries Opcode.RmDir header body = tt
fuse_carries Opcode.Rename header body = portal_carries (length body) header (rename_op body) (rename_carries body)
fuse_carries Opcode.Open header body = let o = op.Open (open_in body).flags in portal_carries (length body) header (sized 8 body o) (struct_carries 8 body o refl)
fuse_carries Opcode.Read header body =
    let o = op.Read (read_in body).fh (read_in body).offset (read_in body).size in portal_carries (length body) header (sized 40 body o) (struct_carries 40 body o refl)
fuse_carries Opcode.Write header body = portal_carries (length body) header (write_op body) (write_carries_by (nat_le 40 (length body)) body)
fuse_carries Opcode.Statfs header body = local_carries (length body) (sized 0 body Statfs)
fuse_carries Opcode.Release header body = let o = op.Release (release_in body).fh in portal_carries (length body) header (sized 24 body o) (struct_carries 24 body o refl)
fuse_carries Opcode.Fsync header body = let o = op.Fsync (fsync_in body).fh in portal_carries (length body) header (sized 16 body o) (struct_carries 16 body o refl)
fuse_carries Opcode.Flush header body = let o = op.Flush (flush_in body).fh in portal_carries (length body) header (sized 24 body o) (struct_carries 24 body o refl)
fuse_carries Opcode.Init header body = local_carries (length body) (init_ask body)
fuse_carries Opcode.OpenDir header body = portal_carries (length body) header (sized 8 body op.OpenDir) (struct_carries 8 body op.OpenDir refl)
fuse_carries Opcode.ReadDir header body =
    let o = op.ReadDir (read_in body).fh (read_in body).offset (read_in body).size in portal_carries (length body) header (sized 40 body o) (struct_carries 40 body o refl)
fuse_carries Opcode.ReleaseDir header body = let o = op.ReleaseDir (release_in body).fh in portal_carries (length body) header (sized 24 body o) (struct_carries 24 body o refl)
fuse_carries Opcode.Access header body = let o = op.Access (access_in body).mask in portal_carries (length body) header (sized 8 body o) (struct_carries 8 body o refl)
fuse_carries Opcode.Create header body = portal_carries (length body) header (create_op body) (create_carries body)
fuse_carries Opcode.Interrupt header body = tt
fuse_carries Opcode.Destroy header body = tt
fuse_carries Opcode.BatchForget header body = quiet_carries (length body) header (batch_forget_op body) (forget_carries_by (nat_le 8 (length body)) body)
fuse_carries Opcode.Rename2 header body = portal_carries (length body) header (rename2_op body) (rename2_carries body)
fuse_carries Opcode.Other header body = tt

pub frame_carries : (frame : List ℕ) → Carries (length (drop 40 frame)) (ask_of frame)
frame_carries frame = fuse_carries (opcode_of (header_of frame).opcode) (header_of frame) (drop 40 frame)
