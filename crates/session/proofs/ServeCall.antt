-- A call that asks the portal, and what it is answered.
use Rattle.std.proofs.Common.{◌≡◌, List, [], ◌∷◌, ◌++◌, Bool, true, false, cond, Option, Some, None, Result, Ok, IfOk, sym, ap, ◌∙◌, subst}
use Rattle.std.specs.Prelude.{IfSome, option_to_list}
use Rattle.std.proofs.lemmas.List.{append_assoc}
use Rattle.std.specs.List.{list_all}
use Rattle.call_laws.specs.Answers.{IsOnRecords}
use Rattle.call_laws.proofs.Calls.{answers_told, calls_on_records}
use Rattle.call_laws.proofs.LittleAnswers.{answers_little}
use Rattle.call_laws.proofs.Signals.{signals_told}
use Rattle.dbus_dispatch.specs.Asks.{ask_of, expects_reply}
use Rattle.dbus_dispatch.specs.Writable.{IsToldTo, IsWritable}
use Rattle.dbus_dispatch.specs.declared.ask.Ask.TheVariants as ask
use Rattle.dbus_types.specs.declared.message.Message.{Message}
use Rattle.dbus_types.specs.declared.message.OutMessage.{OutMessage}
use Rattle.portal_model.specs.declared.entry.Entry.{Entry}
use Rattle.portal_model.specs.declared.reply.Answer.{Answer}
use Rattle.portal_model.specs.declared.reply.Reply.{Reply}
use Rattle.portal_model.specs.declared.request.Request.{Request}
use Rattle.portal_model.specs.Alike.{Alike, AnswersAlike}
use Rattle.portal_model.specs.History.{Legal, run}
use Rattle.portal_desk.specs.Knowing.{Known}
use Rattle.portal_model.specs.Seated.{Asks, Seated}
use Rattle.portal_model.specs.State.{State}
use Rattle.portal_model.specs.Step.{reply_at}
use Rattle.portal_model.specs.Valid.{Valid, is_sound_change}
use Rattle.portal_model.proofs.Histories.{Legal-front}
use Rattle.portal_model.proofs.ValidLaws.{run-Valid}
use Rattle.session.specs.declared.act.Client.{Client}
use Rattle.session.specs.Asked.{reply_to}
use Rattle.session.specs.Dues.{IsToldLittle}

-- ---- the answer that is given

-- over whatever tree, an answer to a request that calls ask is the step's
record_answer : (request : Request) (stepped given : Answer) → IsOnRecords request → AnswersAlike request stepped given → given ≡ stepped
record_answer (Request.Node r) stepped given h a = absurd h
record_answer request stepped given h a = a

given_answer : (told : Bool) (request : Request) (stepped given : Reply) → IsOnRecords request → Alike told request stepped given → given.answer ≡ stepped.answer
given_answer true request stepped given h a = ap (λ (z : Reply). z.answer) a
given_answer false request stepped given h a = record_answer request stepped.answer given.answer h a.1

given_signals : (told : Bool) (request : Request) (stepped given : Reply) → Alike told request stepped given → given.signals ≡ stepped.signals
given_signals true request stepped given a = ap (λ (z : Reply). z.signals) a
given_signals false request stepped given a = a.0

-- the state that an answered request met is valid
met_valid : (v w : Seated) (request : Request) (reply : Reply) → (a : Asks v request (Ok reply) w) → Known w → Valid (run v.opening (v.seen ++ a.answered.others))
met_valid v w request reply a k =
    let m = a.answered in
    let before : List Entry = v.seen ++ m.others in
    let seen : w.seen ≡ before ++ m.entry ∷ [] = m.seen ∙ sym (append_assoc v.seen m.others (m.entry ∷ [])) in
    let legal : Legal v.opening (before ++ m.entry ∷ []) = subst (Legal v.opening) seen (subst (λ (z : State). Legal z w.seen) a.moved.opening k.legal) in
    run-Valid before v.opening (Legal-front before (m.entry ∷ []) v.opening legal)

-- so it can be told to the call
pub reply_told : (c : Client) (call : Message) (request : Request) (v w : Seated) (reply : Reply) → ask_of c.settings call ≡ ask.Portal request → Asks v request (Ok reply) w → Known w → IsToldTo call reply.answer
reply_told c call request v w reply is a k =
    let m = a.answered in
    let before : List Entry = v.seen ++ m.others in
    let valid : Valid (run v.opening before) = met_valid v w request reply a k in
    let asks : ask_of c.settings call ≡ ask.Portal m.entry.request = is ∙ ap ask.Portal (sym m.request_is) in
    let told : IsToldTo call (reply_at (run v.opening before) m.entry).answer = answers_told c.settings call (run v.opening before) m.entry valid asks in
    let same : reply.answer ≡ (reply_at (run v.opening before) m.entry).answer =
    given_answer v.opening.told request (reply_at (run v.opening before) m.entry) reply (calls_on_records c.settings call request is) m.reply_is in
    subst (IsToldTo call) (sym same) told

-- and tells little, where the call may change something
pub reply_little : (c : Client) (call : Message) (request : Request) (v w : Seated) (reply : Reply) → ask_of c.settings call ≡ ask.Portal request → Asks v request (Ok reply) w → IsToldLittle call reply.answer
reply_little c call request v w reply is a =
    let m = a.answered in
    let before : List Entry = v.seen ++ m.others in
    let asks : ask_of c.settings call ≡ ask.Portal m.entry.request = is ∙ ap ask.Portal (sym m.request_is) in
    let little : IsToldLittle call (reply_at (run v.opening before) m.entry).answer = λ method found changes right. answers_little c.settings call method (run v.opening before) m.entry asks found changes right in
    let same : reply.answer ≡ (reply_at (run v.opening before) m.entry).answer =
    given_answer v.opening.told request (reply_at (run v.opening before) m.entry) reply (calls_on_records c.settings call request is) m.reply_is in
    subst (IsToldLittle call) (sym same) little

-- and what it tells are changes of entries as they are
pub reply_sound : (v w : Seated) (request : Request) (reply : Reply) → Asks v request (Ok reply) w → Known w → list_all is_sound_change reply.signals ≡ true
reply_sound v w request reply a k =
    let m = a.answered in
    let before : List Entry = v.seen ++ m.others in
    ap (list_all is_sound_change) (given_signals v.opening.told request (reply_at (run v.opening before) m.entry) reply m.reply_is)
    ∙ signals_told (run v.opening before) m.entry (met_valid v w request reply a k)

-- ---- what is written

pub where_ok : {X E : Type 0} (r : Result X E) (x : X) (P : X → Type 0) → r ≡ Ok x → IfOk r P → P x
where_ok r x P is h = subst (λ z. IfOk z P) is h

reply_can : (b : Bool) (m : OutMessage) → IsWritable m → IfSome (cond b (Some m) None) IsWritable
reply_can true m h = h
reply_can false m h = tt

-- where a reply is expected, it can be written
pub to_writable : (call : Message) (m : OutMessage) (found : Option OutMessage) → found ≡ reply_to call m → IsWritable m → IfSome found IsWritable
to_writable call m found is h = subst (λ (o : Option OutMessage). IfSome o IsWritable) (sym is) (reply_can (expects_reply call) m h)

-- the answer that stands behind others, where a reply is expected
pub behind_reply : (call : Message) (front : List OutMessage) (found : Option OutMessage) (a m : OutMessage) → found ≡ reply_to call a → a ≡ m → front ++ option_to_list found ≡ front ++ option_to_list (reply_to call m)
behind_reply call front found a m is e = ap (λ (z : Option OutMessage). front ++ option_to_list z) (is ∙ ap (reply_to call) e)
