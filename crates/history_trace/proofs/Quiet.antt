-- A portal over devices that never fail: no device failed in an entry of its history.
use Rattle.std.specs.Prelude.{IfSome, ◌≢◌}
use Rattle.std.proofs.Common.{◌≡◌, ◌⊎◌, inl, inr, ℕ, List, [], ◌∷◌, Bool, true, Option, Some, None, refl, sym, ap, subst, ◌∙◌, arith}
use Rattle.node_looks.specs.Done.{Reads}
use Rattle.given_laws.specs.Faulted.{FaultsChangeNothing, failure_of}
use Rattle.given_laws.specs.OneGiven.{AreFirst}
use Rattle.host_tree.specs.Devices.{QuietState, quiet_tree_of}
use Rattle.portal_base.specs.Outside.{HasRisen, Shows}
use Rattle.portal_steps.specs.Answered.{Answers, TellsFault}
use Rattle.portal_steps.specs.Devices.{Drawn, TellsFailure}
use Rattle.portal_steps.specs.Story.{PortalIs, state_now}
use Rattle.portal_model.specs.declared.entry.Entry.{Entry}
use Rattle.portal_model.specs.declared.entry.Fault.{Fault}
use Rattle.portal_model.specs.declared.reply.Answer.{Answer}
use Rattle.portal_model.specs.declared.reply.Code.{Code}
use Rattle.portal_model.specs.declared.reply.Reply.{Reply}
use Rattle.portal_model.specs.declared.request.Request.{Request}
use Rattle.portal_model.specs.Alike.{Alike}
use Rattle.portal_model.specs.Errno.{eio}
use Rattle.portal_model.specs.Lawful.{Lawful}
use Rattle.portal_model.specs.Opening.{is_told}
use Rattle.portal_model.specs.State.{State}
use Rattle.portal_model.specs.Step.{reply_at}
use Rattle.record_keeper.specs.Keepers.{KeeperIs}
use Rattle.history_trace.specs.Replayed.{Replies}

-- ---- what comes of the clock and of the words

moment-shown : (old : ℕ) (now : Option ℕ) (new : ℕ) → Reads Shows old now new → IfSome now (λ n. n ≡ old)
moment-shown old None new h = tt
moment-shown old (Some now) new h = h.value

drawn-first : (coming words : List ℕ) (left : Option (List ℕ)) → Drawn (Some coming) words left → AreFirst coming words
drawn-first coming [] left d = tt
drawn-first [] (w ∷ ws) left d = (d.1.0, drawn-first [] ws left (subst (λ (o : Option (List ℕ)). Drawn o ws left) d.1.1 d.2))
drawn-first (v ∷ vs) (w ∷ ws) left d = (d.1.0, drawn-first vs ws left (subst (λ (o : Option (List ℕ)). Drawn o ws left) d.1.1 d.2))

-- ---- faults

code-is : (r : Request) → (failure_of r ≡ Code.Errno eio) ⊎ (failure_of r ≡ Code.Failed)
code-is (Request.Node r) = inl refl
code-is (Request.Enter who kind) = inr refl
code-is Request.Leave = inr refl
code-is Request.Collect = inr refl
code-is (Request.Present path) = inr refl
code-is (Request.Add a) = inr refl
code-is (Request.Grant call) = inr refl
code-is (Request.Revoke call) = inr refl
code-is (Request.DeleteDocument doc) = inr refl
code-is (Request.LookupDocument path) = inr refl
code-is (Request.Info doc) = inr refl
code-is (Request.ListDocuments app) = inr refl
code-is (Request.Store call) = inr refl

never-risen : HasRisen 0 0 → ⊥
never-risen h = omega arith

module _ {K : Type 0} (keeper_is : K → KeeperIs) (quiet : (k : K) → (keeper_is k).faults ≡ 0) (law : FaultsChangeNothing) (old new : PortalIs QuietState K ℕ (List ℕ)) (request : Request) (reply : Reply)
    (fault : TellsFault (quiet_tree_of old.tree) (quiet_tree_of new.tree) reply) (failure : TellsFailure (quiet_tree_of old.tree) (quiet_tree_of new.tree) (keeper_is old.keeper) (keeper_is new.keeper) reply) where
  not-eio : reply.answer ≡ Answer.Refused (Code.Errno eio) → ⊥
  not-eio e = never-risen (fault e)

  not-failed : reply.answer ≡ Answer.Refused Code.Failed → ⊥
  not-failed e = elim (failure e) [
    | inl tree ↦ never-risen tree
    | inr keeper ↦ never-risen (subst (λ (n : ℕ). HasRisen n 0) (quiet old.keeper) (subst (λ (n : ℕ). HasRisen (keeper_is old.keeper).faults n) (quiet new.keeper) keeper))
  ]

  module _ (s : State) (e : Entry) (l : Lawful s e) (is : reply ≡ reply_at s e) where
    fails : e.given.fault ≢ Fault.None → ⊥
    fails n =
        let answered : reply.answer ≡ Answer.Refused (failure_of e.request) = ap (λ (x : Reply). x.answer) is ∙ law.answer s e l n in
        elim (code-is e.request) [
          | inl code ↦ not-eio (answered ∙ ap (λ (c : Code). Answer.Refused c) code)
          | inr code ↦ not-failed (answered ∙ ap (λ (c : Code). Answer.Refused c) code)
        ]

    none-if : (f : Fault) → e.given.fault ≡ f → e.given.fault ≡ Fault.None
    none-if Fault.None h = h
    none-if Fault.Tree h = absurd (fails (λ n. let no : Fault.Tree ≡ Fault.None = sym h ∙ n in cc))
    none-if Fault.Keeper h = absurd (fails (λ n. let no : Fault.Keeper ≡ Fault.None = sym h ∙ n in cc))

  pub replies : (seat : ℕ) → Answers quiet_tree_of keeper_is Shows (λ ws. Some ws) old new seat request reply → is_told old.story.began ≡ true → Replies old seat request new reply
  replies seat a told =
      let s : State = state_now old.story in
      let is : reply ≡ reply_at s a.entry = subst (λ (b : Bool). Alike b request (reply_at s a.entry) reply) told a.reply_is in
      record {
        entry = a.entry;
        grown = a.went.grown;
        seat_is = a.seat_is;
        request_is = a.request_is;
        lawful = a.lawful;
        unfaulted = none-if s a.entry a.lawful is a.entry.given.fault refl;
        moment = moment-shown old.clock a.entry.given.now new.clock a.went.clock;
        words = drawn-first old.words a.entry.given.words (Some new.words) a.went.words;
        reply_is = is;
      }
