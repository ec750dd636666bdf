-- What asking what an item asks comes to.
use Rattle.std.proofs.Common.{◌≡◌, inl, inr, ℕ, ◌+◌, ◌≤◌, List, [], ◌∷◌, ◌++◌, drop, length, map, Bool, true, false, Option, Some, None, Result, Ok, Err, is_ok, OnOk, refl, sym, ap, ◌∙◌, subst, arith}
use Rattle.std.specs.Prelude.{option_to_list}
use Rattle.std.proofs.lemmas.List.{append-nil}
use Rattle.dbus_dispatch.specs.Replies.{reply_of as told_to}
use Rattle.dbus_dispatch.specs.Signals.{signal_of}
use Rattle.dbus_types.specs.declared.message.Message.{Message}
use Rattle.dbus_types.specs.declared.message.OutMessage.{OutMessage}
use Rattle.fuse_reply.specs.Replies.{reply_of}
use Rattle.portal_base.specs.Outside.{HasRisen}
use Rattle.portal_desk.specs.Trying.{IsPutOff}
use Rattle.portal_model.specs.declared.reply.Change.{Change}
use Rattle.portal_model.specs.declared.reply.NodeAnswer.{NodeAnswer}
use Rattle.portal_model.specs.declared.reply.NodeAnswer.TheVariants.{Error}
use Rattle.portal_model.specs.declared.request.Request.{Request}
use Rattle.portal_model.specs.Seated.{Seated}
use Rattle.session.specs.declared.act.Act.{Act}
use Rattle.session.specs.declared.act.Client.{Client}
use Rattle.session.specs.declared.answer.Due.{Due}
use Rattle.session.specs.declared.answer.Due.TheVariants as dues
use Rattle.session.specs.declared.answer.Told.{Told}
use Rattle.session.specs.declared.answer.Told.TheVariants as tells
use Rattle.session.specs.declared.room.Room.{Room}
use Rattle.session.specs.declared.served.Served.TheVariants as served
use Rattle.session.specs.Answers.{AreOf, last_spoken, spoken}
use Rattle.session.specs.Asked.{asked_by, reply_to}
use Rattle.session.specs.Dues.{Became, CanTell, due_of, frames_due, node_frames, said_of}
use Rattle.session.specs.Frames.{frames_telling, refusal_errno, told_of}
use Rattle.session.specs.Items.{joined}
use Rattle.session.specs.Lacks.{MayLack}
use Rattle.session.specs.Rooms.{FitsItsOp, HasRoomFor, IsLonger, IsMore, IsTakenFor}
use Rattle.session.proofs.Dues.{answer_gives}
use Rattle.session.proofs.FrameRoom.{act_lacks, taken_due}
use Rattle.poll_steps.specs.declared.ask.Next.TheVariants as next
use Rattle.poll_laws.specs.declared.course.Turn.TheVariants as turn
use Rattle.poll_laws.specs.Courses.{Standing}
use Rattle.poll_steps.specs.Steps.{ActDone, ActIs, AsksOne, IsAside, IsAway, Says, turned}

-- the desk was busy
pub away : (request : Option Request) (asked again : Request) (a b : Seated) (n m : ℕ) → request ≡ Some asked → IsPutOff a asked again b → (n ≤ m) × HasRisen n m → IsAway request a n b m
away request asked again a b n m is off more = record {
  asked = asked;
  is = is;
  off = record { moved = off.moved; mine = off.mine; refusals = off.refusals; handed_back = refl };
  busy = more.0;
  risen = more.1;
}

pub act_busy : (act : Act) (len : ℕ) (request : Option Request) (s t : Standing) (a b : Seated) (n m : ℕ) → option_to_list request ≡ asked_by act → IsAway request a n b m → t ≡ s → ActIs next.Busy act len s a n t b m
act_busy act len request s t a b n m e h same = (h.asked, sym e ∙ ap option_to_list h.is, h.off, h.busy, h.risen, same)

-- it was asked, and this is left then
module _ (act : Act) (len : ℕ) (request : Option Request) (d : Due) (told : Told) (s : Standing) (a b : Seated) (n m : ℕ) (left : List ℕ) (before : ℕ) (asked : option_to_list request ≡ asked_by act) (is : d ≡ due_of act) (became : Became (option_to_list request) told a b) (busy : m ≡ n)
    (left_is : left ≡ drop len s.left) (before_is : before ≡ s.before + len) where
  abbrev pub between : Standing
  between = record s { left = left; before = before }

  pub act_done : (t : Standing) → IsAside between t → ActDone act len s a n t b m
  act_done t aside = record {
    outcomes = became.outcomes;
    each = subst (λ (rs : List Request). AreOf rs became.outcomes) asked became.each;
    grew = became.grew;
    busy = busy;
    client = aside.client;
    phase = aside.phase;
    left = aside.left ∙ left_is;
    before = aside.before ∙ before_is;
  }

  pub act_asked : (t : Standing) → s.turn ≡ turn.Serve → IsAside between t → Says true d told between t → ActIs next.Asked act len s a n t b m
  unfolding act_done
  act_asked t serves aside says =
      let gives = answer_gives s.client act s.stage.serial request d told a b asked is became (frames_due d told ++ spoken s.stage.serial (said_of s.client d told)) t.stage.serial refl says.0 in
      (act_done t aside, aside.turn_is ∙ serves, gives.serial_is, says.1 ∙ ap joined gives.said)

  pub act_unsaid : (t x : Standing) → IsAside between t → x ≡ turned t (turn.Leave served.Memory) → MayLack act became.outcomes → ActIs next.Met act len s a n x b m
  act_unsaid t x aside met lacks = subst (λ (z : Standing). ActIs next.Met act len s a n z b m) (sym met) (inr (
    record {
      outcomes = became.outcomes;
      each = subst (λ (rs : List Request). AreOf rs became.outcomes) asked became.each;
      grew = became.grew;
      busy = busy;
      client = aside.client;
      phase = aside.phase;
      left = aside.left ∙ left_is;
      before = aside.before ∙ before_is;
    },
    refl,
    lacks,
  ))

-- there was no memory to ask it
pub act_unasked : (act : Act) (len : ℕ) (s x t : Standing) (a : Seated) (n : ℕ) → AsksOne act → x ≡ s → t ≡ turned x (turn.Leave served.Memory) → ActIs next.Met act len s a n t a n
act_unasked act len s x t a n asks same met = inl (asks, refl, refl, met ∙ ap (λ (z : Standing). turned z (turn.Leave served.Memory)) same)

-- ---- what is said

pub when_ok : {X E : Type 0} (r : Result X E) (P : Type 0) → is_ok r ≡ true → OnOk r P → P
when_ok (Ok x) P is h = h
when_ok (Err e) P is h = absurd (cc)

pub says_as : (b : Bool) (d : Due) (told : Told) (s t : Standing)
    → (b ≡ true → (t.stage.serial ≡ last_spoken s.stage.serial (said_of s.client d told)) × (t.unsent ≡ joined (frames_due d told ++ spoken s.stage.serial (said_of s.client d told)))) → Says b d told s t
says_as true d told s t h = h refl
says_as false d told s t h = tt

-- ---- what there may be no memory for

one_spoken : (serial : ℕ) (o : Option OutMessage) → length (spoken serial (option_to_list o)) ≤ 1
one_spoken serial None = omega arith
one_spoken serial (Some message) = omega arith

one_frame : (o : Option (List ℕ)) → length (option_to_list o) ≤ 1
one_frame None = omega arith
one_frame (Some frame) = omega arith

one_telling : (unique : ℕ) (o : Option NodeAnswer) → length (frames_telling unique o) ≤ 1
one_telling unique None = omega arith
one_telling unique (Some t) = one_frame (reply_of unique t)

-- a request on a node has one frame at most
one_node : (unique : ℕ) (quiet : Bool) (t : Told) → length (node_frames unique quiet t) ≤ 1
one_node unique quiet tells.Nothing = omega arith
one_node unique quiet (tells.Reply reply) = one_telling unique (told_of reply.answer)
one_node unique true (tells.Refused why) = omega arith
one_node unique false (tells.Refused why) = one_frame (reply_of unique (Error (refusal_errno why)))

-- and a call that is told little without signals one message
more_told : (c : Client) (call : Message) (t : Told) (serial : ℕ) → (length (spoken serial (said_of c (dues.Portal call) t)) ≤ 1 → ⊥) → IsMore call t
more_told c call tells.Nothing serial never = tt
more_told c call (tells.Reply reply) serial never = λ none little.
    let alone : said_of c (dues.Portal call) (tells.Reply reply) ≡ option_to_list (reply_to call (told_to c.settings.mountpoint call reply.answer)) =
    ap (λ (z : List Change). map signal_of z ++ option_to_list (reply_to call (told_to c.settings.mountpoint call reply.answer))) none in
    never (subst (λ (z : List OutMessage). length (spoken serial z) ≤ 1) (sym alone) (one_spoken serial (reply_to call (told_to c.settings.mountpoint call reply.answer))))
more_told c call (tells.Refused why) serial never = tt

-- pieces for which there was no memory
pub longer_pieces : (d : Due) (t : Told) (c : Client) (serial : ℕ) (pieces : List (List ℕ)) → pieces ≡ frames_due d t ++ spoken serial (said_of c d t) → (length pieces ≤ 1 → ⊥) → IsLonger d t
longer_pieces (dues.Node unique quiet) t c serial pieces is never =
    let same : pieces ≡ node_frames unique quiet t = is ∙ append-nil (node_frames unique quiet t) in
    absurd (never (subst (λ (z : List (List ℕ)). length z ≤ 1) (sym same) (one_node unique quiet t)))
longer_pieces dues.Nothing t c serial pieces is never = tt
longer_pieces (dues.Line reply) t c serial pieces is never = tt
longer_pieces (dues.Call reply) t c serial pieces is never = tt
longer_pieces (dues.Portal call) t c serial pieces is never =
    more_told c call t serial (λ few. never (subst (λ (z : List (List ℕ)). length z ≤ 1) (sym is) few))
longer_pieces (dues.Local unique answer) t c serial pieces is never = tt

-- by what became of what was asked
pub may_lack : (act : Act) (d : Due) (t : Told) (rs : List Request) (v w : Seated) → d ≡ due_of act → (became : Became rs t v w) → IsLonger d t → CanTell (due_of act) t → FitsItsOp act t → MayLack act became.outcomes
may_lack act d t rs v w is became longer can fits =
    act_lacks act t became.outcomes became.told_is (subst (λ (z : Due). IsLonger z t) is longer) can.little fits

-- the room is that for how the item is answered
pub taken_for : (c : Client) (serial : ℕ) (act : Act) (d : Due) (room : Room) → d ≡ due_of act → IsTakenFor c serial act room → HasRoomFor c serial d room
taken_for c serial act d room is taken = subst (λ (z : Due). HasRoomFor c serial z room) (sym is) (taken_due c serial act room taken)
