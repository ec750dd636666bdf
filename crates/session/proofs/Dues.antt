-- What is written of an item by what became of its request is what the item is answered.
use Rattle.std.proofs.Common.{◌≡◌, ℕ, List, [], ◌∷◌, ◌++◌, map, Bool, true, false, Option, Result, Ok, Err, IfOk, refl, sym, ap, ◌∙◌, subst}
use Rattle.std.specs.Prelude.{option_to_list}
use Rattle.std.specs.List.{flat_map, list_all}
use Rattle.std.proofs.lemmas.List.{append-nil}
use Rattle.dbus_dispatch.specs.Signals.{signal_of}
use Rattle.dbus_types.specs.declared.message.Message.{Message}
use Rattle.dbus_types.specs.declared.message.OutMessage.{OutMessage}
use Rattle.portal_desk.specs.Knowing.{Known}
use Rattle.portal_model.specs.declared.reply.Refused.{Refused}
use Rattle.portal_model.specs.declared.reply.Reply.{Reply}
use Rattle.portal_model.specs.declared.request.Request.{Request}
use Rattle.portal_model.specs.Seated.{Asks, Seated}
use Rattle.session.specs.declared.act.Act.{Act}
use Rattle.session.specs.declared.act.Act.TheVariants.{Nothing, Line, Call, Portal, Node, Local}
use Rattle.session.specs.declared.act.Client.{Client}
use Rattle.session.specs.declared.answer.Due.{Due}
use Rattle.session.specs.declared.answer.Due.TheVariants as due
use Rattle.session.specs.declared.answer.Told.{Told}
use Rattle.session.specs.declared.answer.Told.TheVariants as told
use Rattle.session.specs.declared.served.Fed.{Fed}
use Rattle.session.specs.declared.served.Fed.TheVariants.{Memory}
use Rattle.session.specs.Answers.{AreOf, Gives, Outcome, Made, Denied, last_spoken, messages_of, pieces_of, serial_past, signals_for, spoken, told_for}
use Rattle.session.specs.Asked.{MayAnswer, asked_by, collect_requests}
use Rattle.session.specs.Dues.{Became, CanTell, CanTellTo, TellsLittle, due_of, frames_due, said_of, signals_told, told_by}
use Rattle.session.specs.Lacks.{MayLack}
use Rattle.session.specs.Ledger.{ActEnds, LacksAt, Sends, world}
use Rattle.session.proofs.DidItems.{act_ends, act_halted, act_lacked}
use Rattle.session.proofs.Grew.{asked_err, asked_ok, grew_none}
use Rattle.session.proofs.ServeCall.{reply_little, reply_sound, reply_told}

-- ---- what is said

-- of one outcome, or of none
signals_one : (b : Bool) (os : List Outcome) → AreOf (collect_requests b) os → map signal_of (signals_told (told_by os)) ≡ flat_map signals_for os
signals_one true os (Made x, us, is, asked, none) = rw (is, none) (sym (append-nil (map signal_of x.reply.signals)))
signals_one true os (Denied request why, us, is, asked, none) = rw (is, none) refl
signals_one false os none = rw none refl

portal_one : (c : Client) (call : Message) (request : Request) (os : List Outcome) → AreOf (request ∷ []) os → said_of c (due.Portal call) (told_by os) ≡ flat_map (told_for c call) os
portal_one c call request os (Made x, us, is, asked, none) = rw (is, none) (sym (append-nil (told_for c call (Made x))))
portal_one c call request os (Denied q why, us, is, asked, none) = rw (is, none) (sym (append-nil (told_for c call (Denied q why))))

pub said_are : (c : Client) (act : Act) (os : List Outcome) → AreOf (asked_by act) os → said_of c (due_of act) (told_by os) ≡ messages_of c act os
said_are c Nothing os h = refl
said_are c (Line reply) os h = refl
said_are c (Call reply collects) os h = ap (λ (z : List OutMessage). z ++ option_to_list reply) (signals_one collects os h)
said_are c (Portal call request) os h = portal_one c call request os h
said_are c (Node unique request) os h = refl
said_are c (Local unique answer) os h = refl

pub pieces_are : (c : Client) (act : Act) (serial : ℕ) (os : List Outcome) → AreOf (asked_by act) os → frames_due (due_of act) (told_by os) ++ spoken serial (said_of c (due_of act) (told_by os)) ≡ pieces_of c act serial os
pieces_are c Nothing serial os h = refl
pieces_are c (Line reply) serial os h = refl
pieces_are c (Call reply collects) serial os h = ap (spoken serial) (said_are c (Call reply collects) os h)
pieces_are c (Portal call request) serial os h = ap (spoken serial) (said_are c (Portal call request) os h)
pieces_are c (Node unique request) serial os (Made x, us, is, asked, none) = rw (is, none) refl
pieces_are c (Node unique request) serial os (Denied q why, us, is, asked, none) = rw (is, none) refl
pieces_are c (Local unique answer) serial os h = append-nil (frames_due (due.Local unique answer) (told_by os))

-- ---- what became of a request

pub became_ok : (v w : Seated) (request : Request) (reply : Reply) → Asks v request (Ok reply) w → Became (request ∷ []) (told.Reply reply) v w
became_ok v w request reply a =
    let k = asked_ok v w request reply a in
    record { outcomes = Made k.0 ∷ []; each = (Made k.0, [], refl, k.1, refl); told_is = ap told.Reply (sym k.2); grew = k.3 }

pub became_err : (v w : Seated) (request : Request) (why : Refused) → Asks v request (Err why) w → Became (request ∷ []) (told.Refused why) v w
became_err v w request why a = record { outcomes = Denied request why ∷ []; each = (Denied request why, [], refl, refl, refl); told_is = refl; grew = asked_err v w request why a }

pub became_none : (v : Seated) → Became [] told.Nothing v v
became_none v = record { outcomes = []; each = refl; told_is = refl; grew = grew_none v }

-- ---- what can be told

-- where nothing was asked, or it was refused
silent_told : (c : Client) (act : Act) (why : Refused) → MayAnswer c act → CanTellTo (due_of act) told.Nothing × CanTellTo (due_of act) (told.Refused why)
silent_told c Nothing why h = (tt, tt)
silent_told c (Line reply) why h = (tt, tt)
silent_told c (Call reply collects) why h = (h, h)
silent_told c (Portal call request) why h = (tt, tt)
silent_told c (Node unique request) why h = (tt, tt)
silent_told c (Local unique answer) why h = (tt, tt)

silent_little : (act : Act) (why : Refused) → TellsLittle (due_of act) told.Nothing × TellsLittle (due_of act) (told.Refused why)
silent_little Nothing why = (tt, tt)
silent_little (Line reply) why = (tt, tt)
silent_little (Call reply collects) why = (tt, tt)
silent_little (Portal call request) why = (tt, tt)
silent_little (Node unique request) why = (tt, tt)
silent_little (Local unique answer) why = (tt, tt)

pub can_tell_none : (c : Client) (act : Act) → MayAnswer c act → CanTell (due_of act) told.Nothing
can_tell_none c act h = record { sound = refl; to_call = (silent_told c act Refused.Memory h).0; little = (silent_little act Refused.Memory).0 }

pub can_tell_refused : (c : Client) (act : Act) (why : Refused) → MayAnswer c act → CanTell (due_of act) (told.Refused why)
can_tell_refused c act why h = record { sound = refl; to_call = (silent_told c act why h).1; little = (silent_little act why).1 }

-- the one request
same_request : (r q : Request) → r ∷ [] ≡ q ∷ [] → r ≡ q
same_request r q e = cc

reply_to_call : (c : Client) (act : Act) (request : Request) (v w : Seated) (reply : Reply) → MayAnswer c act → asked_by act ≡ request ∷ [] → Asks v request (Ok reply) w → Known w → CanTellTo (due_of act) (told.Reply reply)
reply_to_call c Nothing request v w reply h e a k = tt
reply_to_call c (Line line) request v w reply h e a k = tt
reply_to_call c (Call answer collects) request v w reply h e a k = h
reply_to_call c (Portal call asked) request v w reply h e a k =
    reply_told c call asked v w reply h (subst (λ (q : Request). Asks v q (Ok reply) w) (sym (same_request asked request e)) a) k
reply_to_call c (Node unique node) request v w reply h e a k = tt
reply_to_call c (Local unique answer) request v w reply h e a k = tt

little_to_call : (c : Client) (act : Act) (request : Request) (v w : Seated) (reply : Reply) → MayAnswer c act → asked_by act ≡ request ∷ [] → Asks v request (Ok reply) w → TellsLittle (due_of act) (told.Reply reply)
little_to_call c Nothing request v w reply h e a = tt
little_to_call c (Line line) request v w reply h e a = tt
little_to_call c (Call answer collects) request v w reply h e a = tt
little_to_call c (Portal call asked) request v w reply h e a =
    reply_little c call asked v w reply h (subst (λ (q : Request). Asks v q (Ok reply) w) (sym (same_request asked request e)) a)
little_to_call c (Node unique node) request v w reply h e a = tt
little_to_call c (Local unique answer) request v w reply h e a = tt

pub can_tell_reply : (c : Client) (act : Act) (request : Request) (v w : Seated) (reply : Reply) → MayAnswer c act → asked_by act ≡ request ∷ [] → Asks v request (Ok reply) w → Known w → CanTell (due_of act) (told.Reply reply)
can_tell_reply c act request v w reply h e a k =
    record { sound = reply_sound v w request reply a k; to_call = reply_to_call c act request v w reply h e a k; little = little_to_call c act request v w reply h e a }

-- ---- how an item ended

module _ (c : Client) (act : Act) (serial : ℕ) (request : Option Request) (d : Due) (t : Told) (v w : Seated) (asked : option_to_list request ≡ asked_by act) (is : d ≡ due_of act) (became : Became (option_to_list request) t v w) where
  each : AreOf (asked_by act) became.outcomes
  each = subst (λ (rs : List Request). AreOf rs became.outcomes) asked became.each

  said_due : said_of c d t ≡ messages_of c act became.outcomes
  said_due =
      ap (λ (z : Due). said_of c z t) is
      ∙ (ap (λ (z : Told). said_of c (due_of act) z) became.told_is ∙ said_are c act became.outcomes each)

  pieces_due : frames_due d t ++ spoken serial (said_of c d t) ≡ pieces_of c act serial became.outcomes
  pieces_due =
      ap (λ (z : Due). frames_due z t ++ spoken serial (said_of c z t)) is
      ∙ (ap (λ (z : Told). frames_due (due_of act) z ++ spoken serial (said_of c (due_of act) z)) became.told_is
      ∙ pieces_are c act serial became.outcomes each)

  -- these pieces answer it
  pub answer_gives : (ps : List (List ℕ)) (last : ℕ) → ps ≡ frames_due d t ++ spoken serial (said_of c d t) → last ≡ last_spoken serial (said_of c d t) → Gives c act serial became.outcomes ps last
  answer_gives ps last pieces serial_is = record { asked = each; said = pieces ∙ pieces_due; serial_is = serial_is ∙ ap (last_spoken serial) said_due }

  -- and were sent
  pub answer_ends : (o n : Option (List (List ℕ))) (a b : ℕ) (r : Result ℕ Fed) (ps : List (List ℕ)) (last : ℕ) → ps ≡ frames_due d t ++ spoken serial (said_of c d t) → last ≡ last_spoken serial (said_of c d t) → Sends ps r o a n b → IfOk r (λ l. l ≡ last)
      → ActEnds c r act serial (world v o a) (world w n b)
  answer_ends o n a b r ps last pieces serial_is sends ends =
      act_ends c act serial became.outcomes v w became.grew o n a b r ps each (pieces ∙ pieces_due) sends
      (subst (λ (z : ℕ). IfOk r (λ l. l ≡ z)) (serial_is ∙ ap (last_spoken serial) said_due) ends)

  -- or there was no memory for them
  pub answer_unsaid : (o : Option (List (List ℕ))) (a : ℕ) → ActEnds c (Err Memory) act serial (world v o a) (world w o a)
  answer_unsaid o a =
      act_halted c act serial became.outcomes v w became.grew o o a a Memory (pieces_of c act serial became.outcomes) (serial_past c act serial became.outcomes)
      (record { asked = each; said = refl; serial_is = refl }) (refl, refl)

  -- which it isn't sure of
  pub answer_lacks : (o : Option (List (List ℕ))) (a : ℕ) → MayLack act became.outcomes → LacksAt c act serial (world v o a) (world w o a) Memory
  answer_lacks o a lack =
      act_lacked c act serial became.outcomes v w became.grew o o a a (pieces_of c act serial became.outcomes) (serial_past c act serial became.outcomes)
      (record { asked = each; said = refl; serial_is = refl }) (refl, refl) lack
