-- Room for a frame that isn't longer than a struct, and what may lack an answer.
use Rattle.std.proofs.Common.{◌≡◌, ℕ, ◌+◌, ◌<◌, ◌≤◌, List, [], ◌∷◌, ◌++◌, length, Bool, true, false, cond, None, Some, Option, Result, Ok, Err, IfErr, OnOk, sym, ◌∙◌, subst, arith}
use Rattle.std.specs.Prelude.{if◌then◌else◌, is_err, option_to_list}
use Rattle.std.specs.List.{All}
use Rattle.std.proofs.lemmas.List.Elements.{All-cons, All-nil}
use Rattle.fuse_reply.specs.Replies.{body_of, error_of, frame_of, header_len, is_quiet, negated}
use Rattle.dbus_types.specs.declared.message.Message.{Message}
use Rattle.portal_model.specs.declared.reply.NodeAnswer.{NodeAnswer}
use Rattle.portal_model.specs.declared.reply.NodeAnswer.TheVariants.{Error}
use Rattle.portal_model.specs.declared.reply.Refused.{Refused}
use Rattle.portal_model.specs.declared.reply.Reply.{Reply}
use Rattle.portal_model.specs.declared.request.Request.{Request}
use Rattle.portal_model.specs.Alike.{Alike}
use Rattle.portal_model.specs.History.{run}
use Rattle.portal_model.specs.Seated.{Asks, Seated}
use Rattle.portal_model.specs.Step.{reply_at}
use Rattle.session.specs.declared.act.Act.{Act}
use Rattle.session.specs.declared.act.Act.TheVariants.{Nothing, Line, Call, Portal, Node, Local}
use Rattle.session.specs.declared.act.Client.{Client}
use Rattle.session.specs.declared.answer.Due.TheVariants as due
use Rattle.session.specs.declared.answer.Told.{Told}
use Rattle.session.specs.declared.answer.Told.TheVariants as told
use Rattle.session.specs.declared.room.Room.{Room}
use Rattle.session.specs.declared.served.Fed.{Fed}
use Rattle.session.specs.declared.served.Fed.TheVariants.{WriteFault}
use Rattle.session.specs.Asked.{asked_by}
use Rattle.session.specs.Answers.{Outcome, Made, Denied}
use Rattle.session.specs.Dues.{IsToldLittle, TellsLittle, due_of, told_by}
use Rattle.session.specs.FrameLengths.{FrameFits, longest_struct, room_for}
use Rattle.session.specs.Frames.{frames_of, refusal_errno}
use Rattle.session.specs.Lacks.{LacksReply, MayLack}
use Rattle.session.specs.Ledger.{LacksAt, World}
use Rattle.session.specs.Rooms.{AreShort, FitsItsOp, HasRoomFor, IsLonger, IsMore, IsTakenFor, frame_room}
use Rattle.session.proofs.FramesFit.{frames_fit}

-- ---- a frame

abbrev Fit : ℕ → List (List ℕ) → Type 0
Fit most frames = All (λ (frame : List ℕ). length frame ≤ most) frames

fit_none : (most : ℕ) → Fit most []
fit_none most = All-nil (λ (frame : List ℕ). length frame ≤ most)

fit_one : (most : ℕ) (frame : List ℕ) → length frame ≤ most → Fit most (frame ∷ [])
fit_one most frame h = All-cons (λ (f : List ℕ). length f ≤ most) frame [] h (fit_none most)

one_short : (quiet : Bool) (frame : List ℕ) → quiet ≡ false → AreShort (option_to_list (if quiet then None else Some frame)) → length frame ≤ frame_room
one_short false frame e h = h 0 [] (omega arith)
one_short true frame e h = let no : true ≡ false = e in absurd (cc)

-- a frame whose body is longer than the structs isn't short
pub long_body : (unique : ℕ) (told : NodeAnswer) → is_quiet told ≡ false → longest_struct < length (body_of told) → AreShort (frames_of unique told) → ⊥
long_body unique told e h short =
    let most = one_short (is_quiet told) (frame_of (error_of told) unique (body_of told)) e short in
    omega (arith, most, h)

-- ---- what is answered fits

fit_refused : (most unique : ℕ) (quiet : Bool) (why : Refused) → header_len ≤ most → Fit most (cond quiet [] (frames_of unique (Error (refusal_errno why))))
fit_refused most unique true why h = fit_none most
fit_refused most unique false why h = fit_one most (frame_of (negated (refusal_errno why)) unique []) (omega (arith, h))

pub fits_none : (act : Act) → FitsItsOp act told.Nothing
fits_none Nothing = tt
fits_none (Line reply) = tt
fits_none (Call reply collects) = tt
fits_none (Portal call request) = tt
fits_none (Node unique request) = fit_none (header_len + room_for request.op)
fits_none (Local unique answer) = tt

pub fits_refused : (act : Act) (why : Refused) → FitsItsOp act (told.Refused why)
fits_refused Nothing why = tt
fits_refused (Line reply) why = tt
fits_refused (Call reply collects) why = tt
fits_refused (Portal call request) why = tt
fits_refused (Node unique request) why = fit_refused (header_len + room_for request.op) unique _ why (omega arith)
fits_refused (Local unique answer) why = tt

same_request : (r q : Request) → r ∷ [] ≡ q ∷ [] → r ≡ q
same_request r q e = cc

without_length : (room : ℕ) (frames : List (List ℕ)) → All (FrameFits room) frames → Fit (header_len + room) frames
without_length room frames h = λ k d l. (h k d l).0

pub fits_reply : (act : Act) (request : Request) (v w : Seated) (reply : Reply) → asked_by act ≡ request ∷ [] → Asks v request (Ok reply) w → FitsItsOp act (told.Reply reply)
fits_reply Nothing request v w reply e a = tt
fits_reply (Line line) request v w reply e a = tt
fits_reply (Call answer collects) request v w reply e a = tt
fits_reply (Portal call asked) request v w reply e a = tt
fits_reply (Node unique r) request v w reply e a =
    let is : a.answered.entry.request ≡ Request.Node r = a.answered.request_is ∙ sym (same_request (Request.Node r) request e) in
    let alike = subst (λ (q : Request). Alike v.opening.told q (reply_at (run v.opening (v.seen ++ a.answered.others)) a.answered.entry) reply) (sym a.answered.request_is) a.answered.reply_is in
    without_length (room_for r.op) _ (frames_fit v.opening.told (run v.opening (v.seen ++ a.answered.others)) a.answered.entry r unique reply is alike)
fits_reply (Local unique answer) request v w reply e a = tt

-- ---- what there may be no memory for

below : (a b : ℕ) → (a ≤ b → ⊥) → b < a
below a b h = omega (arith, h)

-- by what became of a call's request
reply_lacks : (call : Message) (os : List Outcome) (t : Told) → t ≡ told_by os → IsMore call t → TellsLittle (due.Portal call) t → LacksReply call os
reply_lacks call [] t e more little = tt
reply_lacks call (Made x ∷ os) t e more little =
    let longer : IsMore call (told.Reply x.reply) = subst (IsMore call) e more in
    let short : IsToldLittle call x.reply.answer = subst (TellsLittle (due.Portal call)) e little in
    λ none changes right. longer none (changes.0, changes.1, short changes.0 changes.1 changes.2 right)
reply_lacks call (Denied request why ∷ os) t e more little = tt

pub act_lacks : (act : Act) (t : Told) (os : List Outcome) → t ≡ told_by os → IsLonger (due_of act) t → TellsLittle (due_of act) t → FitsItsOp act t → MayLack act os
act_lacks Nothing t os e longer little fits = tt
act_lacks (Line reply) t os e longer little fits = tt
act_lacks (Call reply collects) t os e longer little fits = tt
act_lacks (Portal call request) t os e longer little fits = reply_lacks call os t e longer little
act_lacks (Node unique r) t os e longer little fits =
    below (room_for r.op) longest_struct (λ few. longer (λ k d l. let one = fits k d l in omega (arith, one, few)))
act_lacks (Local unique answer) t os e longer little fits = tt

-- the room is that for how an item is answered
pub taken_due : (c : Client) (serial : ℕ) (act : Act) (room : Room) → IsTakenFor c serial act room → HasRoomFor c serial (due_of act) room
taken_due c serial Nothing room taken = tt
taken_due c serial (Line reply) room taken = tt
taken_due c serial (Call reply collects) room taken = tt
taken_due c serial (Portal call request) room taken = taken
taken_due c serial (Node unique r) room taken = taken
taken_due c serial (Local unique answer) room taken = tt

-- a write that failed is none
pub fault_lacks : (c : Client) (act : Act) (serial : ℕ) (v w : World) (r : Result ℕ Fed) → IfErr r (λ halt. halt ≡ WriteFault) → IfErr r (LacksAt c act serial v w)
fault_lacks c act serial v w (Ok last) h = tt
fault_lacks c act serial v w (Err halt) h = subst (LacksAt c act serial v w) (sym h) tt

-- what holds where it is done
pub where_done : {X E : Type 0} (P : Type 0) (r : Result X E) → false ≡ is_err r → OnOk r P → P
where_done P (Ok x) e h = h
where_done P (Err y) e h = let no : false ≡ true = e in absurd (cc)
