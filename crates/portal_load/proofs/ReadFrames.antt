-- The frames of the load are read as what they ask.
use Rattle.std.proofs.Common.{◌≡◌, ℕ, ◌+◌, ◌*◌, ◌<◌, ◌^◌, Bool, true, List, [], ◌∷◌, ◌++◌, length, refl, ap, ◌∙◌, arith}
use Rattle.std.specs.Prelude.{IfSome, if◌then◌else◌, replicate, Option, Some, None}
use Rattle.std.specs.Int.{bytes_low_first, from_le_bytes, w64}
use Rattle.std.specs.Option.{option_map}
use Rattle.std.proofs.lemmas.Nat.{from_le_bytes-to_le_bytes_8}
use Rattle.fuse_wire.specs.Asks.{ask_of, portal}
use Rattle.fuse_wire.specs.Bodies.{is_name, name_in, name_of}
use Rattle.fuse_wire.specs.Frames.{header_of, number_at, split_of}
use Rattle.fuse_wire.specs.declared.request.FuseAsk.{FuseAsk}
use Rattle.fuse_wire.specs.declared.request.FuseAsk.TheVariants.{Portal}
use Rattle.portal_base.specs.Names.{doc_text}
use Rattle.portal_base.specs.declared.split.Split.TheVariants.{Whole}
use Rattle.portal_model.specs.Place.{file_node}
use Rattle.portal_model.specs.declared.request.NodeOp.{NodeOp}
use Rattle.portal_model.specs.declared.request.NodeOp.TheVariants as op
use Rattle.portal_load.specs.declared.draw.Asked.{Asked}
use Rattle.portal_load.specs.declared.draw.Asked.TheVariants.{Lookup, GetAttr, Open, Read, Write, Release, Rights}
use Rattle.portal_load.specs.declared.draw.Draw.{Draw}
use Rattle.portal_load.specs.Frames.{body_of, frame_of, gid, node_of, opcode_of, uid}
use Rattle.portal_load.specs.Laws.{FramesAreRead, op_of}
use Rattle.portal_load.proofs.Ranges.{below}

horner : (a b c d e f g h : ℕ)
    → number_at 0 8 (a ∷ b ∷ c ∷ d ∷ e ∷ f ∷ g ∷ h ∷ []) ≡ from_le_bytes w64 (a ∷ b ∷ c ∷ d ∷ e ∷ f ∷ g ∷ h ∷ [])
horner a b c d e f g h = omega arith

-- a number of eight bytes is read again
again : (n : ℕ) → n < 2 ^ 64 → number_at 0 8 (bytes_low_first 0 8 n) ≡ n
again n h = horner _ _ _ _ _ _ _ _ ∙ from_le_bytes-to_le_bytes_8 n h

name_tested : (n : ℕ) → n < 16 → is_name (doc_text n ++ 0 ∷ []) ≡ true
unfolding doc_text
name_tested n h = below (λ k. is_name (doc_text k ++ 0 ∷ [])) 16 refl n h

name_read : (n : ℕ) → n < 16 → name_of (doc_text n ++ 0 ∷ []) ≡ Some (doc_text n)
unfolding doc_text
name_read n h = ap (λ (b : Bool). if b then Some (name_in (doc_text n ++ 0 ∷ [])) else None) (name_tested n h)

abbrev asks : ℕ → NodeOp → FuseAsk
asks node one = Portal (record { node = node; uid = uid; gid = gid; op = one })

one_read : (asked : Asked) (request : ℕ) (draw : Draw) → draw.document < 16 → draw.place < 1024
    → IfSome (op_of asked draw) (λ one. ask_of (frame_of (opcode_of asked) request (node_of asked draw.document) (body_of asked draw)) ≡ asks (node_of asked draw.document) one)
unfolding doc_text
one_read Lookup request draw d p =
    ap (λ (name : Option (List ℕ)). portal (header_of (frame_of 1 request 1 (doc_text draw.document ++ 0 ∷ []))) (option_map op.Lookup name)) (name_read draw.document d)
one_read GetAttr request draw d p = ap (λ (node : ℕ). asks node (op.GetAttr 0 0)) (again (file_node 0 draw.document) (omega arith))
one_read Open request draw d p = ap (λ (node : ℕ). asks node (op.Open 2)) (again (file_node 0 draw.document) (omega arith))
one_read Read request draw d p = ap (λ (fh : ℕ). asks 0 (op.Read fh 0 4096)) (again (draw.place + 1) (omega arith))
one_read Write request draw d p =
    let handle = again (draw.place + 1) (omega arith) in
    let offset = again (4 * draw.place) (omega arith) in
    λ i. asks 0 (op.Write (handle i) (offset i) (replicate 16 0))
one_read Release request draw d p = ap (λ (fh : ℕ). asks 0 (op.Release fh)) (again (draw.place + 1) (omega arith))
one_read Rights request draw d p = tt

one_whole : (asked : Asked) (request : ℕ) (draw : Draw)
    → split_of (frame_of (opcode_of asked) request (node_of asked draw.document) (body_of asked draw)) ≡ Whole (length (frame_of (opcode_of asked) request (node_of asked draw.document) (body_of asked draw)))
unfolding doc_text
one_whole Lookup request draw = refl
one_whole GetAttr request draw = refl
one_whole Open request draw = refl
one_whole Read request draw = refl
one_whole Write request draw = refl
one_whole Release request draw = refl
one_whole Rights request draw = refl

one_unique : (asked : Asked) (request : ℕ) (draw : Draw) → request < 2 ^ 64
    → (header_of (frame_of (opcode_of asked) request (node_of asked draw.document) (body_of asked draw))).unique ≡ request
one_unique asked request draw h = again request h

pub are_read : FramesAreRead
are_read = record {
  whole = λ request draw. one_whole draw.asked request draw;
  unique = λ request draw h. one_unique draw.asked request draw h;
  asks = λ request draw d p. one_read draw.asked request draw d p;
}
