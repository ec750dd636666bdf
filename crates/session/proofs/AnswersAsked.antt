-- The laws of answers.
use Rattle.std.proofs.Common.{◌≡◌, inl, inr, ℕ, List, [], ◌∷◌, ◌++◌, map, take, drop, Result, Ok, Err, refl, sym, ap, ◌∙◌, subst, arith}
use Rattle.std.specs.Prelude.{option_to_list}
use Rattle.std.specs.List.{flat_map}
use Rattle.std.proofs.lemmas.List.{append-nil, append_assoc, take-append-drop}
use Rattle.portal_base.specs.declared.split.Split.TheVariants as split
use Rattle.portal_model.specs.declared.reply.Refused.{Refused}
use Rattle.portal_model.specs.declared.reply.Reply.{Reply}
use Rattle.portal_model.specs.declared.request.NodeOp.{NodeOp}
use Rattle.portal_model.specs.declared.request.Request.{Request}
use Rattle.dbus_types.specs.declared.message.Message.{Message}
use Rattle.dbus_types.specs.declared.message.OutMessage.{OutMessage}
use Rattle.dbus_calls.specs.Errors.{error_to}
use Rattle.dbus_dispatch.specs.Replies.{refusal_of, reply_of}
use Rattle.dbus_dispatch.specs.Signals.{signal_of}
use Rattle.session.specs.declared.act.Act.{Act}
use Rattle.session.specs.declared.act.Act.TheVariants.{Nothing, Line, Call, Portal, Node, Local}
use Rattle.session.specs.declared.act.Client.{Client}
use Rattle.session.specs.declared.phase.Phase.{Phase}
use Rattle.session.specs.declared.phase.Phase.TheVariants as due
use Rattle.session.specs.declared.served.Stop.TheVariants as stop
use Rattle.session.specs.Answers.{Answers, AreOf, Denied, Made, Outcome, frames_for, last_spoken, messages_of, pieces_of, signals_for, spoken, told_as, told_for}
use Rattle.session.specs.Asked.{asked_by, reply_to, requests_of}
use Rattle.session.specs.Cuts.{Cuts, no_item}
use Rattle.session.specs.Frames.{answer_frames, refusal_frames}
use Rattle.session.specs.Items.{joined}
use Rattle.session.specs.Laws.{AnswerAsked, SayAlike, ShortBegins}

-- ---- outcomes

pub of-append : (rs ss : List Request) (os us : List Outcome) → AreOf rs os → AreOf ss us → AreOf (rs ++ ss) (os ++ us)
of-append [] ss os us a b = subst (λ (z : List Outcome). AreOf ss (z ++ us)) (sym a) b
of-append (r ∷ rs) ss os us (o, more, e, is, are) b = (o, more ++ us, ap (λ (z : List Outcome). z ++ us) e, is, of-append rs ss more us are b)

pub asked_go : (acts : List Act) (c : Client) (serial last : ℕ) (os : List Outcome) (ps : List (List ℕ)) → Answers c serial acts os ps last → AreOf (requests_of acts) os
asked_go [] c serial last os ps a = a.0
asked_go (x ∷ xs) c serial last os ps (o1, o2, p1, p2, mid, oe, pe, gives, more) =
    subst (λ (z : List Outcome). AreOf (asked_by x ++ requests_of xs) z) (sym oe) (of-append (asked_by x) (requests_of xs) o1 o2 gives.asked (asked_go xs c mid last o2 p2 more))

pub answer_asked : AnswerAsked
answer_asked = record {
  items = λ c serial last acts os ps a. asked_go acts c serial last os ps a;
  connection = λ c entered leaving last acts os ps e a. (
    Made entered,
    os ++ Made leaving ∷ [],
    refl,
    e.0,
    of-append (requests_of acts) (Request.Leave ∷ []) os (Made leaving ∷ []) (asked_go acts c 0 last os ps a) (Made leaving, [], refl, e.1, refl),
  );
}

-- ---- the empty stream

-- nothing is too few bytes
pub nothing : (p : Phase) → Cuts p [] (no_item stop.More)
nothing due.ZeroByte = refl
nothing (due.Handshake h) = refl
nothing due.Messages = (split.More, inl (omega arith), refl)
nothing due.Frames = refl

-- ---- parts

pub short_begins : ShortBegins
short_begins [] ps h = (joined ps, refl)
short_begins (w ∷ ws) [] h = absurd h
short_begins (w ∷ ws) (p ∷ ps) (inl h) =
    let t = short_begins ws ps h.1 in
    (t.0, ap (λ (z : List ℕ). p ++ z) t.1 ∙ (sym (append_assoc p (joined ws) t.0) ∙ ap (λ (z : List ℕ). (z ++ joined ws) ++ t.0) (sym h.0)))
short_begins (w ∷ ws) (p ∷ ps) (inr h) =
    (drop h.0 p ++ joined ps, ap (λ (z : List ℕ). z ++ joined ps) (sym (take-append-drop h.0 p)) ∙ (append_assoc (take h.0 p) (drop h.0 p) (joined ps) ∙ rw (h.1, h.2, append-nil) refl))

-- ---- pieces are a function of what is told

-- an item's outcomes are as many as its requests
of_same : (rs : List Request) (o1 o2 u1 u2 : List Outcome) → AreOf rs o1 → AreOf rs u1 → map told_as (o1 ++ o2) ≡ map told_as (u1 ++ u2) → (map told_as o1 ≡ map told_as u1) × (map told_as o2 ≡ map told_as u2)
of_same [] o1 o2 u1 u2 a b e =
    (ap (map told_as) (a ∙ sym b), ap (λ (z : List Outcome). map told_as (z ++ o2)) (sym a) ∙ (e ∙ ap (λ (z : List Outcome). map told_as (z ++ u2)) b))
of_same (r ∷ rs) o1 o2 u1 u2 (x, xs, xe, is, more) (y, ys, ye, js, others) e =
    let both : told_as x ∷ map told_as (xs ++ o2) ≡ told_as y ∷ map told_as (ys ++ u2) = ap (λ (z : List Outcome). map told_as (z ++ o2)) (sym xe) ∙ (e ∙ ap (λ (z : List Outcome). map told_as (z ++ u2)) ye) in
    let heads : told_as x ≡ told_as y = cc in
    let tails : map told_as (xs ++ o2) ≡ map told_as (ys ++ u2) = cc in
    let k = of_same rs xs o2 ys u2 more others tails in (
      ap (map told_as) xe ∙ (ap (λ (z : Result Reply Refused). z ∷ map told_as xs) heads ∙ (ap (λ (z : List (Result Reply Refused)). told_as y ∷ z) k.0 ∙ sym (ap (map told_as) ye))),
      k.1,
    )

abbrev frames_told : ℕ → NodeOp → Result Reply Refused → List (List ℕ)
frames_told unique op (Ok reply) = answer_frames unique reply.answer
frames_told unique op (Err why) = refusal_frames unique op why

told_frames : (unique : ℕ) (op : NodeOp) (os : List Outcome) → flat_map (frames_for unique op) os ≡ flat_map (frames_told unique op) (map told_as os)
told_frames unique op [] = refl
told_frames unique op (Made x ∷ os) = ap (λ (z : List (List ℕ)). answer_frames unique x.reply.answer ++ z) (told_frames unique op os)
told_frames unique op (Denied request why ∷ os) = ap (λ (z : List (List ℕ)). refusal_frames unique op why ++ z) (told_frames unique op os)

abbrev signals_told : Result Reply Refused → List OutMessage
signals_told (Ok reply) = map signal_of reply.signals
signals_told (Err why) = []

told_signals : (os : List Outcome) → flat_map signals_for os ≡ flat_map signals_told (map told_as os)
told_signals [] = refl
told_signals (Made x ∷ os) = ap (λ (z : List OutMessage). map signal_of x.reply.signals ++ z) (told_signals os)
told_signals (Denied request why ∷ os) = told_signals os

abbrev replies_told : Client → Message → Result Reply Refused → List OutMessage
replies_told c call (Ok reply) = map signal_of reply.signals ++ option_to_list (reply_to call (reply_of c.settings.mountpoint call reply.answer))
replies_told c call (Err why) = option_to_list (reply_to call (error_to call (refusal_of why)))

told_replies : (c : Client) (call : Message) (os : List Outcome) → flat_map (told_for c call) os ≡ flat_map (replies_told c call) (map told_as os)
told_replies c call [] = refl
told_replies c call (Made x ∷ os) = ap (λ (z : List OutMessage). told_for c call (Made x) ++ z) (told_replies c call os)
told_replies c call (Denied request why ∷ os) = ap (λ (z : List OutMessage). told_for c call (Denied request why) ++ z) (told_replies c call os)

messages_alike : (c : Client) (act : Act) (os us : List Outcome) → map told_as os ≡ map told_as us → messages_of c act os ≡ messages_of c act us
messages_alike c Nothing os us e = refl
messages_alike c (Line reply) os us e = refl
messages_alike c (Call reply collects) os us e = ap (λ (z : List OutMessage). z ++ option_to_list reply) (told_signals os ∙ (ap (flat_map signals_told) e ∙ sym (told_signals us)))
messages_alike c (Portal call request) os us e = told_replies c call os ∙ (ap (flat_map (replies_told c call)) e ∙ sym (told_replies c call us))
messages_alike c (Local unique told) os us e = refl
messages_alike c (Node unique request) os us e = refl

pieces_alike : (c : Client) (act : Act) (s : ℕ) (os us : List Outcome) → map told_as os ≡ map told_as us → pieces_of c act s os ≡ pieces_of c act s us
pieces_alike c Nothing s os us e = refl
pieces_alike c (Line reply) s os us e = refl
pieces_alike c (Call reply collects) s os us e = ap (spoken s) (messages_alike c (Call reply collects) os us e)
pieces_alike c (Portal call request) s os us e = ap (spoken s) (messages_alike c (Portal call request) os us e)
pieces_alike c (Local unique told) s os us e = refl
pieces_alike c (Node unique request) s os us e = told_frames unique request.op os ∙ (ap (flat_map (frames_told unique request.op)) e ∙ sym (told_frames unique request.op us))

alike : (acts : List Act) (c : Client) (s m n : ℕ) (os us : List Outcome) (ps qs : List (List ℕ)) → map told_as os ≡ map told_as us → Answers c s acts os ps m → Answers c s acts us qs n → (ps ≡ qs) × (m ≡ n)
alike [] c s m n os us ps qs e a b = (a.1 ∙ sym b.1, a.2 ∙ sym b.2)
alike (x ∷ xs) c s m n os us ps qs e (o1, o2, p1, p2, i, oe, pe, ga, ra) (u1, u2, q1, q2, j, ue, qe, gb, rb) =
    let k = of_same (asked_by x) o1 o2 u1 u2 ga.asked gb.asked (ap (map told_as) (sym oe) ∙ (e ∙ ap (map told_as) ue)) in
    let first : p1 ≡ q1 = ga.said ∙ (pieces_alike c x s o1 u1 k.0 ∙ sym gb.said) in
    let mid : i ≡ j = ga.serial_is ∙ (ap (last_spoken s) (messages_alike c x o1 u1 k.0) ∙ sym gb.serial_is) in
    let r = alike xs c i m n o2 u2 p2 q2 k.1 ra (subst (λ (z : ℕ). Answers c z xs u2 q2 n) (sym mid) rb) in
    (pe ∙ (ap (λ (z : List (List ℕ)). z ++ p2) first ∙ (ap (λ (z : List (List ℕ)). q1 ++ z) r.0 ∙ sym qe)), r.1)

pub say_alike : SayAlike
say_alike c serial m n acts os us ps qs e a b = alike acts c serial m n os us ps qs e a b
