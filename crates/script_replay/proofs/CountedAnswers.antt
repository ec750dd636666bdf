-- What became of the requests of a history, counted answer by answer.
use Rattle.std.proofs.Common.{◌≡◌, ℕ, ◌+◌, ◌-◌, ◌^◌, ◌<◌, ◌≤◌, List, [], ◌∷◌, ◌++◌, length, Bool, true, false, cond, sym, ap, ◌∙◌, subst, arith, length-append}
use Rattle.std.specs.Prelude.{min, not, ◌&&◌}
use Rattle.portal_core.specs.Growth.{GrowsBy}
use Rattle.portal_model.specs.Alike.{Alike}
use Rattle.portal_model.specs.declared.entry.Entry.{Entry}
use Rattle.portal_model.specs.declared.reply.Reply.{Reply}
use Rattle.portal_model.specs.declared.request.Request.{Request}
use Rattle.portal_model.specs.History.{run}
use Rattle.portal_model.specs.State.{State}
use Rattle.portal_model.specs.Step.{after, reply_at}
use Rattle.script_replay.specs.Outcomes.{AreCounted, done_in, is_code, is_done, is_enter, is_refused, refused_in}

-- one where a test is met
abbrev one : Bool → ℕ
one b = cond b 1 0

one_at_most : (b : Bool) → one b ≤ 1
one_at_most true = omega arith
one_at_most false = omega arith

-- ---- one more entry

done_more : (h : List Entry) (s : State) (e : Entry) → done_in s (h ++ e ∷ []) ≡ done_in s h + one (is_done e.request (reply_at (run s h) e))
done_more [] s e = omega arith
done_more (x ∷ h) s e = let more = done_more h (after s x) e in omega arith

refused_more : (h : List Entry) (s : State) (e : Entry) → refused_in s (h ++ e ∷ []) ≡ refused_in s h + one (is_refused e.request (reply_at (run s h) e))
refused_more [] s e = omega arith
refused_more (x ∷ h) s e = let more = refused_more h (after s x) e in omega arith

-- ---- no more than there are entries

done_few : (h : List Entry) (s : State) → done_in s h ≤ length h
done_few [] s = omega arith
done_few (x ∷ h) s =
    let few = done_few h (after s x) in
    let one = one_at_most (is_done x.request (reply_at s x)) in
    omega arith

refused_few : (h : List Entry) (s : State) → refused_in s h ≤ length h
refused_few [] s = omega arith
refused_few (x ∷ h) s =
    let few = refused_few h (after s x) in
    let one = one_at_most (is_refused x.request (reply_at s x)) in
    omega arith

-- ---- an answer

told_reply : (told : Bool) (request : Request) (stepped given : Reply) → told ≡ true → Alike told request stepped given → given ≡ stepped
told_reply told request stepped given t a = subst (λ (b : Bool). Alike b request stepped given) t a

-- a count that isn't the greatest goes on
pub goes_on : (count now : ℕ) (b : Bool) → now ≡ min (count + one b) (2 ^ 64 - 1) → count < 2 ^ 64 - 1 → now ≡ count + one b
goes_on count now true e short = omega (arith, e, short)
goes_on count now false e short = omega (arith, e, short)

-- a count is that of a test of requests and replies, and goes on so
one_more : (count before now : ℕ) (all : ℕ) (history : List Entry) (e : Entry) → count ≡ before → before ≤ length history → length (history ++ e ∷ []) < 2 ^ 64
    → (count < 2 ^ 64 - 1 → now ≡ count + all) → now ≡ before + all
one_more count before now all history e same few short step =
    let long = length-append history (e ∷ []) in
    let stepped = step (omega arith) in
    omega arith

module _ (says : Entry → Type 0) (s s' : State) (h h' : List Entry) (done refused done' refused' seat : ℕ) (request : Request) (reply : Reply) (enters refuses : Bool)
    (counted : AreCounted s h done refused) (same : s' ≡ s) (grows : GrowsBy says s h h' seat request reply) (short : length h' < 2 ^ 64)
    (enters_is : enters ≡ is_enter request) (refuses_is : refuses ≡ is_code reply.answer) where
  short_grown : length (h ++ grows.entry ∷ []) < 2 ^ 64
  short_grown = subst (λ (z : List Entry). length z < 2 ^ 64) grows.grown short

  module _ (told : s'.told ≡ true) where
    was : s.told ≡ true
    was = ap (λ (z : State). z.told) (sym same) ∙ told

    reply_is : reply ≡ reply_at (run s h) grows.entry
    reply_is = told_reply s.told request (reply_at (run s h) grows.entry) reply was grows.reply_is

    refuses_at : refuses ≡ is_code (reply_at (run s h) grows.entry).answer
    refuses_at = refuses_is ∙ ap (λ (z : Reply). is_code z.answer) reply_is

    enters_at : enters ≡ is_enter grows.entry.request
    enters_at = enters_is ∙ ap is_enter (sym grows.request_is)

    one_done : one (not enters && not refuses) ≡ one (is_done grows.entry.request (reply_at (run s h) grows.entry))
    one_done = ap (λ (z : Bool). one (not z && not refuses)) enters_at ∙ ap (λ (z : Bool). one (not (is_enter grows.entry.request) && not z)) refuses_at

    one_refused : one (not enters && refuses) ≡ one (is_refused grows.entry.request (reply_at (run s h) grows.entry))
    one_refused = ap (λ (z : Bool). one (not z && refuses)) enters_at ∙ ap (λ (z : Bool). one (not (is_enter grows.entry.request) && z)) refuses_at

    done_on : (done < 2 ^ 64 - 1 → done' ≡ done + one (not enters && not refuses)) → done' ≡ done_in s' h'
    done_on step =
        one_more done (done_in s h) done' (one (not enters && not refuses)) h grows.entry (counted.done_all was) (done_few h s) short_grown step
        ∙ (ap (λ (z : ℕ). done_in s h + z) one_done
        ∙ (sym (done_more h s grows.entry)
        ∙ (ap (done_in s) (sym grows.grown) ∙ ap (λ (z : State). done_in z h') (sym same))))

    refused_on : (refused < 2 ^ 64 - 1 → refused' ≡ refused + one (not enters && refuses)) → refused' ≡ refused_in s' h'
    refused_on step =
        one_more refused (refused_in s h) refused' (one (not enters && refuses)) h grows.entry (counted.refused_all was) (refused_few h s) short_grown step
        ∙ (ap (λ (z : ℕ). refused_in s h + z) one_refused
        ∙ (sym (refused_more h s grows.entry)
        ∙ (ap (refused_in s) (sym grows.grown) ∙ ap (λ (z : State). refused_in z h') (sym same))))

  pub counted_on : (done < 2 ^ 64 - 1 → done' ≡ done + one (not enters && not refuses)) → (refused < 2 ^ 64 - 1 → refused' ≡ refused + one (not enters && refuses)) → AreCounted s' h' done' refused'
  counted_on step step' = record { done_all = λ told. done_on told step; refused_all = λ told. refused_on told step' }

-- a refusal that leaves the history leaves the counts
pub counted_still : (s s' : State) (h h' : List Entry) (done refused : ℕ) → AreCounted s h done refused → s' ≡ s → h' ≡ h → AreCounted s' h' done refused
counted_still s s' h h' done refused counted same history = record {
  done_all = λ told. counted.done_all (ap (λ (z : State). z.told) (sym same) ∙ told) ∙ (ap (done_in s) (sym history) ∙ ap (λ (z : State). done_in z h') (sym same));
  refused_all = λ told. counted.refused_all (ap (λ (z : State). z.told) (sym same) ∙ told) ∙ (ap (refused_in s) (sym history) ∙ ap (λ (z : State). refused_in z h') (sym same));
}
