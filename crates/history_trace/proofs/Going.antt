-- A portal that goes on by an entry of a history.
use Rattle.std.specs.Prelude.{IfSome, ◌≢◌, unwrap_or}
use Rattle.std.proofs.Common.{◌≡◌, ◌+◌, ◌≤◌, ℕ, List, [], ◌∷◌, ◌++◌, true, Option, Some, None, refl, sym, ap, subst, ◌∙◌, arith}
use Rattle.given_laws.specs.Faulted.{FaultsChangeNothing, collecting}
use Rattle.given_laws.specs.OneGiven.{AreFirst, LawfulEntriesAreOne}
use Rattle.host_tree.specs.Devices.{QuietState}
use Rattle.portal_steps.specs.Story.{PortalIs, Story, cost_with, limit_of, state_first, state_now}
use Rattle.portal_model.specs.declared.entry.Entry.{Entry}
use Rattle.portal_model.specs.declared.entry.Fault.{Fault}
use Rattle.portal_model.specs.declared.reply.Reply.{Reply}
use Rattle.portal_model.specs.declared.request.Request.{Request}
use Rattle.portal_model.specs.Bus.{moment_given}
use Rattle.portal_model.specs.History.{cost, cost_of, run}
use Rattle.portal_model.specs.Lawful.{Lawful, LawfulGiven, nothing_given}
use Rattle.portal_model.specs.Opening.{is_told}
use Rattle.portal_model.specs.State.{State}
use Rattle.portal_model.specs.Step.{after, reply_at}
use Rattle.portal_model.specs.Valid.{Valid}
use Rattle.portal_model.proofs.Histories.{cost-append, run-append}
use Rattle.portal_model.proofs.StaysTold.{step_told}
use Rattle.history_trace.specs.Replayed.{GoesOn, Replies}

-- ---- a history that grew by an entry

run-told : (h : List Entry) (s : State) → (run s h).told ≡ s.told
run-told [] s = refl
run-told (e ∷ es) s = run-told es (after s e) ∙ step_told s e.seat e.request e.given

pub told-now : (p : Story) → is_told p.began ≡ true → (state_now p).told ≡ true
told-now p told = run-told p.history (state_first p) ∙ told

grown-state : (old new : Story) (e : Entry) → new ≡ record old { history = old.history ++ e ∷ [] } → state_now new ≡ after (state_now old) e
grown-state old new e g = ap state_now g ∙ run-append old.history (e ∷ []) (state_first old)

grown-cost : (old new : Story) (e : Entry) → new ≡ record old { history = old.history ++ e ∷ [] } → cost new.history ≡ cost_with old e.request
grown-cost old new e g =
    let joined : cost new.history ≡ cost old.history + cost (e ∷ []) = ap (λ (p : Story). cost p.history) g ∙ cost-append old.history (e ∷ []) in
    omega (arith, joined)

module _ {K : Type 0} (old new : PortalIs QuietState K ℕ (List ℕ)) (e : Entry) (reply : Reply) (l : Lawful (state_now old.story) e) where
  -- ---- an entry in which no device failed

  module _ (law : LawfulEntriesAreOne) (r : Replies old e.seat e.request new reply) (unfaulted : e.given.fault ≡ Fault.None) (clock : old.clock ≡ moment_given e.given.now) (words : old.words ≡ e.given.words) (told : is_told old.story.began ≡ true) where
    one : r.entry ≡ e
    one =
        law (state_now old.story) e r.entry (told-now old.story told) l r.lawful r.seat_is r.request_is unfaulted r.unfaulted
        (subst (λ (n : ℕ). IfSome r.entry.given.now (λ now. now ≡ n)) clock r.moment) (subst (λ (ws : List ℕ). AreFirst ws r.entry.given.words) words r.words)

    pub goes-on : GoesOn old.story e new.story
    goes-on =
        let costs : cost new.story.history ≡ cost_with old.story e.request = grown-cost old.story new.story r.entry r.grown ∙ ap (cost_with old.story) r.request_is in
        record {
          began = ap (λ (p : Story). p.began) r.grown;
          limit = ap limit_of r.grown;
          state = grown-state old.story new.story r.entry r.grown ∙ ap (after (state_now old.story)) one;
          cost = omega (arith, costs);
        }

    pub same-reply : reply ≡ reply_at (state_now old.story) e
    same-reply = r.reply_is ∙ ap (reply_at (state_now old.story)) one

  -- ---- one in which a device failed, in whose place the seat collects

  module _ (law : FaultsChangeNothing) (r : Replies old e.seat Request.Collect new reply) (faulted : e.given.fault ≢ Fault.None) (valid : Valid (state_now old.story)) where
    nothing : r.entry.given ≡ nothing_given
    nothing = subst (λ (q : Request). LawfulGiven (state_now old.story) r.entry.seat q r.entry.given) r.request_is r.lawful.given

    collects : r.entry ≡ collecting e.seat
    collects = λ i. record { seat = r.seat_is i; request = r.request_is i; given = nothing i }

    pub collected : GoesOn old.story e new.story
    collected =
        let costs : cost new.story.history ≡ cost_with old.story Request.Collect = grown-cost old.story new.story r.entry r.grown ∙ ap (cost_with old.story) r.request_is in
        let fewer : cost_of Request.Collect ≤ cost_of e.request = law.costs (state_now old.story) e l faulted in
        record {
          began = ap (λ (p : Story). p.began) r.grown;
          limit = ap limit_of r.grown;
          state = grown-state old.story new.story r.entry r.grown ∙ (ap (after (state_now old.story)) collects ∙ sym (law.state (state_now old.story) e valid l faulted));
          cost = omega (arith, costs, fewer);
        }

-- ---- the clock and the words

-- the moment of an entry that read none is the first second
pub moment-or : (now : Option ℕ) → unwrap_or now 0 ≡ moment_given now
moment-or None = refl
moment-or (Some now) = refl
