-- What a session begins and ends with at a desk that has a portal alone.
use Rattle.std.proofs.Common.{◌≡◌, ℕ, ◌+◌, ◌<◌, ◌≤◌, [], ◌∷◌, ◌++◌, true, Result, Ok, Err, refl, sym, ap, ◌∙◌, subst, inl, inr, arith}
use Rattle.std.proofs.lemmas.List.{append-nil}
use Rattle.portal_base.specs.declared.limits.Settings.{Settings}
use Rattle.portal_base.specs.declared.who.Kind.{Kind}
use Rattle.portal_base.specs.declared.who.Who.{Who}
use Rattle.portal_steps.specs.Story.{state_first, cost_with, limit_of}
use Rattle.portal_model.specs.declared.reply.Refused.{Refused}
use Rattle.portal_model.specs.declared.reply.Refused.TheVariants as refused
use Rattle.portal_model.specs.declared.reply.Reply.{Reply}
use Rattle.portal_model.specs.declared.request.Request.{Request}
use Rattle.portal_model.specs.History.{Legal, cost, cost_of, run}
use Rattle.portal_model.specs.Seated.{Asks, Exchange, exchange, exchanges}
use Rattle.portal_model.specs.State.{State}
use Rattle.session.specs.declared.served.Served.{Served}
use Rattle.session.specs.Answers.{Made}
use Rattle.session.specs.Sessions.{Closes, Opens}
use Rattle.session.specs.Standings.{Standing, client, fresh}
use Rattle.script_replay.specs.Scenes.{ScriptPortal}
use Rattle.script_replay.specs.Seats.{Alone, Asked, known_at}
use Rattle.script_replay.proofs.MadeAlone.{asked_alone, nothing_alone}

module _ (p q : ScriptPortal) (seat count : ℕ) (same : state_first q.story ≡ state_first p.story) (own : Alone seat count p q) (legal : Legal (state_first q.story) q.story.history) where
  legal_there : Legal (state_first p.story) q.story.history
  legal_there = subst (λ (z : State). Legal z q.story.history) same legal

  exchanges_there : exchanges seat (state_first p.story) q.story.history ≡ exchanges seat (state_first q.story) q.story.history
  exchanges_there = sym (ap (λ (z : State). exchanges seat z q.story.history) same)

  -- one request was asked
  asked_one : (request : Request) (reply : Reply) → Asks (known_at p seat 0) request (Ok reply) (known_at q seat count) → Asked p q seat (request ∷ [])
  asked_one request reply h =
      let made = h.answered in
      let x : Exchange = exchange (run (state_first p.story) (p.story.history ++ made.others)) made.entry in
      (asked_alone p q seat count legal_there own made.refusals (request ∷ []) (Made x ∷ []) (exchanges_there ∙ made.mine) refl (Made x, [], refl, made.request_is, refl)).0

  -- one was refused: the history is as before
  refused_one : (request : Request) (why : Refused) → Asks (known_at p seat 0) request (Err why) (known_at q seat count) → q.story.history ≡ p.story.history
  refused_one request why h =
      nothing_alone p q seat count legal_there own (exchanges_there ∙ (h.answered.mine ∙ sym (append-nil _))) ∙ append-nil p.story.history

  no_memory : (m n : ℕ) → refused.Full m n ≡ refused.Memory → ⊥
  no_memory m n e = cc

  full_not : (request : Request) (now limit : ℕ) → cost_with p.story request ≤ limit_of p.story → Asks (known_at p seat 0) request (Err (refused.Full now limit)) (known_at q seat count) → ⊥
  full_not request now limit room h =
      let cause = h.answered.cause in
      let cost_is : cost q.story.history ≡ cost p.story.history = ap cost (refused_one request (refused.Full now limit) h) in
      let limit_is : limit ≡ limit_of p.story = cause.1 ∙ ap (λ (z : State). z.limits.history) same in
      let now_is : now ≡ cost q.story.history = cause.0 in
      let passed : limit < now + cost_of request = cause.2 in
      omega arith

-- Enter never meets the limit, where the history has room for it
pub never_full : (p q : ScriptPortal) (seat count : ℕ) (who : Who) (kind : Kind) (settings : Settings) (r : Result Standing Refused) (now limit : ℕ) → state_first q.story ≡ state_first p.story → Alone seat count p q → Legal (state_first q.story) q.story.history
    → cost_with p.story (Request.Enter who kind) ≤ limit_of p.story → r ≡ Err (refused.Full now limit) → Opens (client who kind settings) (known_at p seat 0) r (known_at q seat count) → ⊥
never_full p q seat count who kind settings r now limit same own legal room is h =
    let entered = (subst (λ (z : Result Standing Refused). Opens (client who kind settings) (known_at p seat 0) z (known_at q seat count)) is h).0 in
    elim entered as (λ _. ⊥) [
      | inl none ↦ no_memory p q seat count same own legal now limit none.0
      | inr asked ↦ full_not p q seat count same own legal (Request.Enter who kind) now limit room asked
    ]

pub entered : (p q : ScriptPortal) (seat count : ℕ) (who : Who) (kind : Kind) (settings : Settings) (r : Result Standing Refused) (session : Standing) → state_first q.story ≡ state_first p.story → Alone seat count p q → Legal (state_first q.story) q.story.history
    → (state_first p.story).told ≡ true → r ≡ Ok session → Opens (client who kind settings) (known_at p seat 0) r (known_at q seat count) → (session ≡ fresh (client who kind settings)) × Asked p q seat (Request.Enter who kind ∷ [])
entered p q seat count who kind settings r session same own legal told is h =
    let opens = subst (λ (z : Result Standing Refused). Opens (client who kind settings) (known_at p seat 0) z (known_at q seat count)) is h in
    (opens.1, asked_one p q seat count same own legal (Request.Enter who kind) opens.0.0 opens.0.1)

pub left : (p q : ScriptPortal) (seat count : ℕ) (session : Standing) (served : Served) → state_first q.story ≡ state_first p.story → Alone seat count p q → Legal (state_first q.story) q.story.history
    → (state_first p.story).told ≡ true → Closes session (known_at p seat 0) served (known_at q seat count) → Asked p q seat (Request.Leave ∷ [])
left p q seat count session served same own legal told h = asked_one p q seat count same own legal Request.Leave h.1.0 h.1.1
