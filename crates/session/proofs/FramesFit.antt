-- The frame that answers a request on a node has room, and tells its own length.
use Rattle.std.proofs.Common.{◌≡◌, ℕ, ◌+◌, ◌-◌, ◌%◌, ◌^◌, ◌<◌, ◌≤◌, List, [], ◌∷◌, ◌++◌, length, drop, replicate, Bool, true, false, Option, Some, None, refl, sym, subst, ap, ◌∙◌, arith, length-append}
use Rattle.std.specs.Prelude.{IfSome, nat_le, if◌then◌else◌}
use Rattle.std.specs.List.{All}
use Rattle.std.proofs.Math.Nat.{mod-eq_of_lt}
use Rattle.std.proofs.lemmas.Bool.Decides.{nat_tests}
use Rattle.std.proofs.lemmas.List.{length-replicate}
use Rattle.std.proofs.lemmas.List.Elements.{All-cons, All-nil}
use Rattle.fuse_reply.specs.declared.field.Field.TheVariants.{Four}
use Rattle.fuse_reply.specs.Dirents.{dirent, dirent_size, dirents, fitting, fuse_dirent, name_offset, padding_of}
use Rattle.fuse_reply.specs.Fields.{spelled, spelled_field}
use Rattle.fuse_reply.specs.Replies.{body_of, frame_of, header_len, negated}
use Rattle.portal_model.specs.declared.entry.Given.{Given}
use Rattle.portal_model.specs.declared.reply.Answer.{Answer}
use Rattle.portal_model.specs.declared.reply.Answer.TheVariants as answer
use Rattle.portal_model.specs.declared.reply.DirName.{DirName}
use Rattle.portal_model.specs.declared.reply.NodeAnswer.{NodeAnswer}
use Rattle.portal_model.specs.declared.reply.NodeAnswer.TheVariants as node
use Rattle.portal_model.specs.declared.reply.Reply.{Reply}
use Rattle.portal_model.specs.declared.request.NodeOp.{NodeOp}
use Rattle.portal_model.specs.declared.request.NodeRequest.{NodeRequest}
use Rattle.portal_model.specs.declared.request.Request.{Request}
use Rattle.portal_model.specs.declared.request.Request.TheVariants as request
use Rattle.portal_model.specs.declared.state.Connection.{Connection}
use Rattle.portal_model.specs.Alike.{Alike, NodeAlike, ReadsAlike, TellsAlike}
use Rattle.portal_model.specs.Bus.{is_tree, moment_given}
use Rattle.portal_model.specs.Node.{facts_of, node_given, settled_on_node, walk_on_node}
use Rattle.portal_model.specs.NodeVerdict.{NodeVerdict, Errs, Yields}
use Rattle.portal_model.specs.Read.{read_limit}
use Rattle.portal_model.specs.State.{State, connection_of}
use Rattle.portal_model.specs.Step.{all_told, mount_of, node_step, request_step}
use Rattle.session.specs.FrameLengths.{FrameFits, FramesFit, room_for}
use Rattle.session.specs.Frames.{answer_frames, frames_of, frames_telling, told_of}
use Rattle.session.proofs.NodeAnswersFit.{IfMet, Short, on_walked, walk_fits}

-- ---- the answer of a step

abbrev IsShort : ℕ → Answer → Type 0
IsShort room met = IfSome (told_of met) (Short room)

settled_short : (room : ℕ) (s : State) (c : Connection) (v : Option NodeVerdict) → IfMet room v → IsShort room (settled_on_node s c v).1
settled_short room s c None h = tt
settled_short room s c (Some (Errs errno)) h = tt
settled_short room s c (Some (Yields d)) h = h

step_short : (s : State) (r : NodeRequest) (given : Given) (o : Option Connection) → IsShort (room_for r.op) (node_step s r given o).1.answer
step_short s r given None = tt
step_short s r given (Some c) =
    let t : State = all_told c.seat s in
    let walked = on_walked (room_for r.op) (walk_on_node t c r) (moment_given given.now) given.listed given.looks (is_tree given.fault) (walk_fits (facts_of t c r.node) r r.op) in
    settled_short (room_for r.op) t c (node_given (walk_on_node t c r) given) walked

-- ---- the answer that is given

told_short : (size : ℕ) (stepped : NodeAnswer) (given : Answer) → TellsAlike size stepped given → Short size stepped → IsShort size given
told_short size (node.Content content) given h k = subst (IsShort size) (sym h.1) (h.2, k.1)
told_short size stepped given h k = subst (IsShort size) (sym h) k

read_short : (size : ℕ) (stepped given : Answer) → ReadsAlike size stepped given → IsShort size stepped → IsShort size given
read_short size (answer.Node told) given h k = told_short size told given h k
read_short size stepped given h k = subst (IsShort size) (sym h) k

given_short : (op : NodeOp) (stepped given : Answer) → NodeAlike op stepped given → IsShort (room_for op) stepped → IsShort (room_for op) given
given_short (NodeOp.Read fh offset size) stepped given h k = read_short size stepped given h k
given_short op stepped given h k = subst (IsShort (room_for op)) (sym h) k

reply_short : (told : Bool) (r : NodeRequest) (stepped given : Reply) → Alike told (request.Node r) stepped given → IsShort (room_for r.op) stepped.answer → IsShort (room_for r.op) given.answer
reply_short true r stepped given h k = subst (λ (z : Reply). IsShort (room_for r.op) z.answer) (sym h) k
reply_short false r stepped given h k = given_short r.op stepped.answer given.answer h.1 k

-- ---- the bytes of an answer

padded : (n : ℕ) → name_offset + n ≤ dirent_size n
padded n = omega arith

dirent_length : (entry : DirName) (off : ℕ) → length (dirent entry off) ≡ dirent_size (length entry.name)
dirent_length entry off =
    let n : ℕ = length entry.name in
    let zeros : List ℕ = replicate (padding_of n) 0 in
    let name = length-append entry.name zeros in
    let rest = length-replicate {A = ℕ} (padding_of n) 0 in
    let whole = length-append (spelled (fuse_dirent entry off)) (entry.name ++ zeros) in
    let enough = padded n in
    omega (arith, name, rest, whole, enough)

fits_by : (b : Bool) (entry : DirName) (rest : List ℕ) (off size : ℕ) → nat_le (dirent_size (length entry.name)) size ≡ b → length rest ≤ size - dirent_size (length entry.name) →
    length (if b then dirent entry off ++ rest else []) ≤ size
fits_by true entry rest off size e h =
    let here : dirent_size (length entry.name) ≤ size = grind (arith, nat_tests) in
    let first = dirent_length entry off in
    let both = length-append (dirent entry off) rest in
    omega (arith, first, both, here)
fits_by false entry rest off size e h = omega arith

fitting_length : (entries : List DirName) (place size : ℕ) → length (fitting entries place size) ≤ size
fitting_length [] place size = omega arith
fitting_length (entry ∷ entries) place size =
    let left : ℕ = size - dirent_size (length entry.name) in
    fits_by (nat_le (dirent_size (length entry.name)) size) entry (fitting entries (place + 1) left) (place + 1) size refl (fitting_length entries (place + 1) left)

-- ---- the frame

frame_fits : (room error unique : ℕ) (body : List ℕ) → length body ≤ room → length body ≤ read_limit → FrameFits room (frame_of error unique body)
frame_fits room error unique body h k =
    let few : header_len + length body < 2 ^ 32 = omega arith in
    let same : (header_len + length body) % 2 ^ 32 ≡ header_len + length body = mod-eq_of_lt few in
    let long : length (frame_of error unique body) ≡ header_len + length body = omega arith in
    (omega (arith, long), ap (λ (n : ℕ). spelled_field (Four n)) (same ∙ sym long))

abbrev Fits : ℕ → List (List ℕ) → Type 0
Fits room frames = All (FrameFits room) frames

one_fits : (room error unique : ℕ) (body : List ℕ) → length body ≤ room → length body ≤ read_limit → Fits room (frame_of error unique body ∷ [])
one_fits room error unique body h k =
    All-cons (FrameFits room) (frame_of error unique body) [] (frame_fits room error unique body h k) (All-nil (FrameFits room))

told_fits : (room unique : ℕ) (told : NodeAnswer) → Short room told → Fits room (frames_of unique told)
told_fits room unique node.Quiet h = All-nil (FrameFits room)
told_fits room unique (node.Error errno) h = one_fits room (negated errno) unique [] (omega arith) (omega arith)
told_fits room unique node.Empty h = one_fits room 0 unique [] (omega arith) (omega arith)
told_fits room unique (node.Content content) h = one_fits room 0 unique content h.0 (omega arith)
told_fits room unique (node.Names names offset size) h =
    let most = fitting_length (drop offset names) offset size in
    one_fits room 0 unique (dirents names offset size) (omega (arith, most)) (omega (arith, most))
told_fits room unique told h = one_fits room 0 unique (body_of told) (omega arith) (omega arith)

frames_fit_of : (room unique : ℕ) (told : Option NodeAnswer) → IfSome told (Short room) → Fits room (frames_telling unique told)
frames_fit_of room unique None h = All-nil (FrameFits room)
frames_fit_of room unique (Some told) h = told_fits room unique told h

reply_fits : (told : Bool) (s : State) (seat : ℕ) (r : NodeRequest) (g : Given) (unique : ℕ) (given : Reply) → Alike told (request.Node r) (request_step s seat (request.Node r) g).1 given →
    Fits (room_for r.op) (answer_frames unique given.answer)
reply_fits told s seat r g unique given h =
    frames_fit_of (room_for r.op) unique (told_of given.answer)
    (reply_short told r (node_step s r g (mount_of (connection_of s.connections seat))).1 given h (step_short s r g (mount_of (connection_of s.connections seat))))

pub frames_fit : FramesFit
frames_fit told s e r unique given is h =
    reply_fits told s e.seat r e.given unique given (subst (λ (q : Request). Alike told q (request_step s e.seat q e.given).1 given) is h)
