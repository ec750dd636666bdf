-- What items are answered, where what is told of them is the same but for the contents of READs.
use Rattle.std.proofs.Common.{◌≡◌, ℕ, ◌+◌, List, [], ◌∷◌, ◌++◌, map, length, length-append, Result, Ok, Err, refl, sym, ap, ◌∙◌, subst}
use Rattle.std.specs.Prelude.{option_to_list}
use Rattle.std.specs.List.{flat_map}
use Rattle.std.proofs.lemmas.List.{append-nil}
use Rattle.portal_base.specs.declared.who.Kind.{Kind}
use Rattle.portal_model.specs.declared.reply.Answer.{Answer}
use Rattle.portal_model.specs.declared.reply.NodeAnswer.{NodeAnswer}
use Rattle.portal_model.specs.declared.reply.Refused.{Refused}
use Rattle.portal_model.specs.declared.reply.Reply.{Reply}
use Rattle.portal_model.specs.declared.request.NodeOp.{NodeOp}
use Rattle.portal_model.specs.declared.request.Request.{Request}
use Rattle.served_world.specs.Laws.{answer_but_content}
use Rattle.dbus_types.specs.declared.message.Message.{Message}
use Rattle.dbus_types.specs.declared.message.OutMessage.{OutMessage}
use Rattle.dbus_calls.specs.declared.error_name.ErrorName.{ErrorName}
use Rattle.dbus_calls.specs.declared.method.Method.{Method}
use Rattle.dbus_calls.specs.Calls.{found}
use Rattle.dbus_calls.specs.Errors.{error_to}
use Rattle.dbus_dispatch.specs.Replies.{refusal_of, reply_by, reply_of}
use Rattle.dbus_dispatch.specs.Signals.{signal_of}
use Rattle.session.specs.declared.act.Act.{Act}
use Rattle.session.specs.declared.act.Act.TheVariants.{Nothing, Line, Call, Portal, Node, Local}
use Rattle.session.specs.declared.act.Client.{Client}
use Rattle.session.specs.Answers.{Answers, Denied, Gives, Made, Outcome, frames_for, last_spoken, messages_of, pieces_of, signals_for, spoken, told_as, told_for}
use Rattle.session.specs.Asked.{asked_by, reply_to, requests_of}
use Rattle.session.specs.Frames.{answer_frames, refusal_frames}
use Rattle.session.proofs.AnswersAsked.{say_alike}
use Rattle.session.proofs.ItemsFit.{AllFit}
use Rattle.connection_laws.specs.ServedBytes.{ItemIsAlike, ItemsAreAlike, Said, contents_shown}
use Rattle.connection_laws.proofs.ButContents.{none-shown, told-with-contents, told_but}
use Rattle.connection_laws.proofs.Told.{as-many}

abbrev said : List Outcome → List (List ℕ) → Said
said outcomes pieces = record { outcomes = outcomes; pieces = pieces }

-- ---- messages show no content

by_method : (mountpoint : List ℕ) (call : Message) (told other : NodeAnswer) (method : Result Method ErrorName) → reply_by mountpoint call (Answer.Node told) method ≡ reply_by mountpoint call (Answer.Node other) method
by_method mountpoint call told other (Ok method) = refl
by_method mountpoint call told other (Err error) = refl

no_content : (mountpoint : List ℕ) (call : Message) (a : Answer) → reply_of mountpoint call a ≡ reply_of mountpoint call (answer_but_content a)
no_content mountpoint call (Answer.Node told) = of_node told
  where
    of_node : (n : NodeAnswer) → reply_of mountpoint call (Answer.Node n) ≡ reply_of mountpoint call (answer_but_content (Answer.Node n))
    of_node (NodeAnswer.Content content) = by_method mountpoint call (NodeAnswer.Content content) (NodeAnswer.Content []) (found call)
    of_node n = refl
no_content mountpoint call a = refl

abbrev signals_told : Result Reply Refused → List OutMessage
signals_told (Ok reply) = map signal_of reply.signals
signals_told (Err why) = []

told_signals : (os : List Outcome) → flat_map signals_for os ≡ flat_map signals_told (map told_but os)
told_signals [] = refl
told_signals (Made x ∷ os) = ap (λ (z : List OutMessage). map signal_of x.reply.signals ++ z) (told_signals os)
told_signals (Denied request why ∷ os) = told_signals os

abbrev replies_told : Client → Message → Result Reply Refused → List OutMessage
replies_told c call (Ok reply) = map signal_of reply.signals ++ option_to_list (reply_to call (reply_of c.settings.mountpoint call reply.answer))
replies_told c call (Err why) = option_to_list (reply_to call (error_to call (refusal_of why)))

told_replies : (c : Client) (call : Message) (os : List Outcome) → flat_map (told_for c call) os ≡ flat_map (replies_told c call) (map told_but os)
told_replies c call [] = refl
told_replies c call (Made x ∷ os) =
    λ i. (map signal_of x.reply.signals ++ option_to_list (reply_to call (no_content c.settings.mountpoint call x.reply.answer i))) ++ told_replies c call os i
told_replies c call (Denied request why ∷ os) = ap (λ (z : List OutMessage). told_for c call (Denied request why) ++ z) (told_replies c call os)

messages_same : (c : Client) (asks : Act) (os us : List Outcome) → map told_but os ≡ map told_but us → messages_of c asks os ≡ messages_of c asks us
messages_same c Nothing os us e = refl
messages_same c (Line reply) os us e = refl
messages_same c (Call reply collects) os us e = ap (λ (z : List OutMessage). z ++ option_to_list reply) (told_signals os ∙ (ap (flat_map signals_told) e ∙ sym (told_signals us)))
messages_same c (Portal call request) os us e = told_replies c call os ∙ (ap (flat_map (replies_told c call)) e ∙ sym (told_replies c call us))
messages_same c (Node unique request) os us e = refl
messages_same c (Local unique told) os us e = refl

-- ---- as many frames

abbrev frames_told : ℕ → NodeOp → Result Reply Refused → List (List ℕ)
frames_told unique op (Ok reply) = answer_frames unique reply.answer
frames_told unique op (Err why) = refusal_frames unique op why

one_frame : (unique : ℕ) (a : Answer) → length (answer_frames unique a) ≡ length (answer_frames unique (answer_but_content a))
one_frame unique (Answer.Node told) = of_node told
  where
    of_node : (n : NodeAnswer) → length (answer_frames unique (Answer.Node n)) ≡ length (answer_frames unique (answer_but_content (Answer.Node n)))
    of_node (NodeAnswer.Content content) = refl
    of_node n = refl
one_frame unique a = refl

many_frames : (unique : ℕ) (op : NodeOp) (os : List Outcome) → length (flat_map (frames_for unique op) os) ≡ length (flat_map (frames_told unique op) (map told_but os))
many_frames unique op [] = refl
many_frames unique op (Made x ∷ os) =
    length-append (answer_frames unique x.reply.answer) (flat_map (frames_for unique op) os)
    ∙ ((λ i. one_frame unique x.reply.answer i + many_frames unique op os i)
    ∙ sym (length-append (answer_frames unique (answer_but_content x.reply.answer)) (flat_map (frames_told unique op) (map told_but os))))
many_frames unique op (Denied request why ∷ os) =
    length-append (refusal_frames unique op why) (flat_map (frames_for unique op) os)
    ∙ (ap (λ (n : ℕ). length (refusal_frames unique op why) + n) (many_frames unique op os)
    ∙ sym (length-append (refusal_frames unique op why) (flat_map (frames_told unique op) (map told_but os))))

-- ---- one item

as_many_pieces : (c : Client) (asks : Act) (s : ℕ) (os us : List Outcome) → map told_but os ≡ map told_but us → length (pieces_of c asks s os) ≡ length (pieces_of c asks s us)
as_many_pieces c Nothing s os us e = refl
as_many_pieces c (Line reply) s os us e = refl
as_many_pieces c (Call reply collects) s os us e = ap (λ (ms : List OutMessage). length (spoken s ms)) (messages_same c (Call reply collects) os us e)
as_many_pieces c (Portal call request) s os us e = ap (λ (ms : List OutMessage). length (spoken s ms)) (messages_same c (Portal call request) os us e)
as_many_pieces c (Node unique request) s os us e = many_frames unique request.op os ∙ (ap (λ (z : List (Result Reply Refused)). length (flat_map (frames_told unique request.op) z)) e ∙ sym (many_frames unique request.op us))
as_many_pieces c (Local unique told) s os us e = refl

-- an item that is answered is one of items
pub alone : (c : Client) (asks : Act) (s n : ℕ) (os : List Outcome) (ps : List (List ℕ)) → Gives c asks s os ps n → Answers c s (asks ∷ []) os ps n
alone c asks s n os ps g = (os, [], ps, [], n, sym (append-nil os), sym (append-nil ps), g, (refl, refl, refl))

module _ (c : Client) (s m n : ℕ) (os us : List Outcome) (ps qs : List (List ℕ)) (e : map told_but os ≡ map told_but us) where
  same_pieces : (asks : Act) → Gives c asks s os ps m → Gives c asks s us qs n → contents_shown asks os ≡ [] → ps ≡ qs
  same_pieces Nothing a b none = a.said ∙ sym b.said
  same_pieces (Line reply) a b none = a.said ∙ sym b.said
  same_pieces (Call reply collects) a b none = a.said ∙ (ap (spoken s) (messages_same c (Call reply collects) os us e) ∙ sym b.said)
  same_pieces (Portal call request) a b none = a.said ∙ (ap (spoken s) (messages_same c (Portal call request) os us e) ∙ sym b.said)
  same_pieces (Node unique request) a b none =
      (say_alike c s m n (Node unique request ∷ []) os us ps qs (told-with-contents os us e (none ∙ sym (none-shown os us e none))) (alone c (Node unique request) s m os ps a) (alone c (Node unique request) s n us qs b)).0
  same_pieces (Local unique told) a b none = a.said ∙ sym b.said

  same_last : (asks : Act) → Gives c asks s os ps m → Gives c asks s us qs n → m ≡ n
  same_last asks a b = a.serial_is ∙ (ap (last_spoken s) (messages_same c asks os us e) ∙ sym b.serial_is)

  item_alike : (asks : Act) → Gives c asks s os ps m → Gives c asks s us qs n → ItemIsAlike c asks s (said os ps) (said us qs) m
  item_alike asks a b = record {
    first = a;
    second = subst (λ (z : ℕ). Gives c asks s us qs z) (sym (same_last asks a b)) b;
    as_many = ap length b.said ∙ (sym (as_many_pieces c asks s os us e) ∙ sym (ap length a.said));
    same = λ none. sym (same_pieces asks a b none);
  }

-- ---- items

parted : (os us more rest : List Outcome) → length os ≡ length us → map told_but (os ++ more) ≡ map told_but (us ++ rest) → (map told_but os ≡ map told_but us) × (map told_but more ≡ map told_but rest)
parted [] [] more rest n e = (refl, e)
parted [] (u ∷ us) more rest n e = absurd (cc)
parted (o ∷ os) [] more rest n e = absurd (cc)
parted (o ∷ os) (u ∷ us) more rest n e =
    let shorter : length os ≡ length us = cc in
    let heads : told_but o ≡ told_but u = cc in
    let tails : map told_but (os ++ more) ≡ map told_but (us ++ rest) = cc in
    let k = parted os us more rest shorter tails in
    (λ i. heads i ∷ k.0 i, k.1)

pub items-alike : (acts : List Act) (c : Client) (s m n : ℕ) (os us : List Outcome) (ps qs : List (List ℕ)) → map told_but os ≡ map told_but us → Answers c s acts os ps m → Answers c s acts us qs n → ItemsAreAlike c s acts (said os ps) (said us qs)
items-alike [] c s m n os us ps qs e a b = ((λ i. said (a.0 i) (a.1 i)), (λ i. said (b.0 i) (b.1 i)))
items-alike (x ∷ xs) c s m n os us ps qs e (o1, o2, p1, p2, i, oe, pe, ga, ra) (u1, u2, q1, q2, j, ue, qe, gb, rb) =
    let many : length o1 ≡ length u1 = as-many (asked_by x) o1 ga.asked ∙ sym (as-many (asked_by x) u1 gb.asked) in
    let k = parted o1 u1 o2 u2 many (ap (map told_but) (sym oe) ∙ (e ∙ ap (map told_but) ue)) in
    let mid : i ≡ j = same_last c s i j o1 u1 p1 q1 k.0 x ga gb in (
      said o1 p1,
      said o2 p2,
      said u1 q1,
      said u2 q2,
      i,
      (λ t. said (oe t) (pe t)),
      (λ t. said (ue t) (qe t)),
      item_alike c s i j o1 u1 p1 q1 k.0 x ga gb,
      items-alike xs c i m n o2 u2 p2 q2 k.1 ra (subst (λ (z : ℕ). Answers c z xs u2 q2 n) (sym mid) rb),
    )

-- where the same contents are shown, all pieces are the same
pub pieces-shown : (acts : List Act) (c : Client) (s m n : ℕ) (os us : List Outcome) (ps qs : List (List ℕ)) → map told_as os ≡ map told_as us → Answers c s acts os ps m → Answers c s acts us qs n → ps ≡ qs
pieces-shown acts c s m n os us ps qs e a b = (say_alike c s m n acts os us ps qs e a b).0

-- ---- a bus

fit_behind : (rs ss : List Request) → AllFit Kind.Bus (rs ++ ss) → AllFit Kind.Bus ss
fit_behind [] ss fit = fit
fit_behind (r ∷ rs) ss fit = fit_behind rs ss fit.1

-- no frame is asked for on a bus
none_on_bus : (asks : Act) (more : List Request) (os : List Outcome) → AllFit Kind.Bus (asked_by asks ++ more) → contents_shown asks os ≡ []
none_on_bus Nothing more os fit = refl
none_on_bus (Line reply) more os fit = refl
none_on_bus (Call reply collects) more os fit = refl
none_on_bus (Portal call request) more os fit = refl
none_on_bus (Node unique request) more os fit = absurd fit.0
none_on_bus (Local unique told) more os fit = refl

pub pieces-on-bus : (acts : List Act) (c : Client) (n : ℕ) (s t : Said) → AllFit Kind.Bus (requests_of acts) → ItemsAreAlike c n acts s t → t.pieces ≡ s.pieces
pieces-on-bus [] c n s t fit (a, b) = ap (λ (z : Said). z.pieces) b ∙ sym (ap (λ (z : Said). z.pieces) a)
pieces-on-bus (asks ∷ acts) c n s t fit (one, more, other, others, mid, a, b, here, rest) =
    ap (λ (z : Said). z.pieces) b
    ∙ ((λ i. here.same (none_on_bus asks (requests_of acts) one.outcomes fit) i ++ pieces-on-bus acts c mid more others (fit_behind (asked_by asks) (requests_of acts) fit) rest i)
    ∙ sym (ap (λ (z : Said). z.pieces) a))
