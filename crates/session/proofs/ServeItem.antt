-- What one call of a desk or a sink comes to.
use Rattle.std.proofs.Common.{◌≡◌, ℕ, ◌+◌, inl, inr, ◌≤◌, List, [], ◌∷◌, length, take, drop, Bool, true, false, cond, Some, None, Ok, Err, refl, sym, ap, ◌∙◌, subst, arith}
use Rattle.std.specs.Prelude.{◌≢◌, ◌==◌}
use Rattle.std.proofs.lemmas.List.{append-nil, length-drop, length-take-le}
use Rattle.portal_model.specs.declared.reply.Change.{Change}
use Rattle.portal_model.specs.declared.reply.Refused.{Refused}
use Rattle.portal_model.specs.declared.reply.Reply.{Reply}
use Rattle.portal_model.specs.declared.request.Request.{Request}
use Rattle.portal_model.specs.Seated.{Asks, Seated}
use Rattle.session.specs.declared.act.Act.{Act}
use Rattle.session.specs.declared.act.Client.{Client}
use Rattle.session.specs.declared.phase.Phase.{Phase}
use Rattle.session.specs.declared.serve.Stage.{Stage}
use Rattle.session.specs.declared.served.Fed.{Fed}
use Rattle.session.specs.declared.served.Fed.TheVariants.{More, Over, WriteFault, Memory}
use Rattle.session.specs.declared.served.Stop.{Stop}
use Rattle.session.specs.Asked.{Means}
use Rattle.session.specs.Cuts.{Cuts, whole_item}
use Rattle.session.specs.Items.{Remains}
use Rattle.session.specs.Answers.{Made, Denied, serial_after}
use Rattle.session.specs.Ledger.{ActEnds, Collected, Did, ItemEnds, LacksAt, Stops, World}
use Rattle.session.specs.Standings.{stage}
use Rattle.session.proofs.Grew.{asked_ok, asked_err, risen_later}
use Rattle.session.proofs.NextCut.{whole_within}
use Rattle.session.proofs.ServeItems.{began, broke, broke_unsaid, declined, stepped}

-- a request that is asked has one outcome, and what wasn't told yet rides in its reply
pub collected_ok : (v w : Seated) (request : Request) (reply : Reply) → Asks v request (Ok reply) w → Collected (request ∷ []) reply.signals v w
collected_ok v w request reply a =
    let k = asked_ok v w request reply a in
    (Made k.0 ∷ [], (Made k.0, [], refl, k.1, refl), k.3, ap (λ (z : Reply). z.signals) (sym k.2) ∙ sym (append-nil k.0.reply.signals))

pub collected_err : (v w : Seated) (request : Request) (why : Refused) (changes : List Change) → Asks v request (Err why) w → changes ≡ [] → Collected (request ∷ []) changes v w
collected_err v w request why changes a none = (Denied request why ∷ [], (Denied request why, [], refl, refl, refl), asked_err v w request why a, none)

after_at : (b : Bool) (n : ℕ) → cond b 1 (n + 1) ≢ 0
after_at true n = λ z. absurd (omega arith)
after_at false n = λ z. absurd (omega arith)

-- a serial isn't 0
pub serial_good : (n : ℕ) → serial_after n ≢ 0
serial_good n = after_at (n == 4294967295) n

module _ (c : Client) (s t : Stage) (v m w : World) (bytes : List ℕ) (used n : ℕ) (did : Did c s v (take used bytes) t m) (is : Cuts t.phase (drop used bytes) (whole_item n)) where
  -- a run that halts at an item
  pub run_halts : (halt : Fed) (x : Stage) → ItemEnds c (Err halt) t m (take n (drop used bytes)) x w → Stops c (Err halt) s v bytes x w
  run_halts WriteFault x (act, means, ends) = (broke c s t v m w bytes used n did is act means ends.0, risen_later v.faults m.faults w.faults did.grows.faults ends.1)
  run_halts Memory x (inl same) = inl (began c s t v w bytes used (subst (λ (z : World). Did c s v (take used bytes) t z) (sym same) did))
  run_halts Memory x (inr ((act, means, halted), lack)) = inr (broke_unsaid c s t v m w bytes used n did is act means halted lack)
  run_halts More x ends = absurd ends
  run_halts (Over ending) x ends = absurd ends

  -- a run that ends at an item that asks nothing
  pub run_ends : (what : Stop) (x : Stage) → used ≤ length bytes → ItemEnds c (Ok (Some what)) t m (take n (drop used bytes)) x w → Stops c (Ok (record { len = used; stop = what })) s v bytes x w
  run_ends what x within (declines, stage, same) = (
    within,
    subst (λ (z : Stage). Did c s v (take used bytes) z w) (sym stage) (subst (λ (z : World). Did c s v (take used bytes) t z) (sym same) did),
    subst (λ (z : Stage). Remains c z.phase (drop used bytes) what) (sym stage) (declined c t.phase (drop used bytes) n what is declines),
  )

  -- a run that goes on behind an item
  pub run_on : (x : Stage) (k : ℕ) → k ≡ n → ItemEnds c (Ok None) t m (take n (drop used bytes)) x w → Did c s v (take (used + k) bytes) x w
  run_on x k size ends = subst (λ (z : ℕ). Did c s v (take (used + z) bytes) x w) (sym size) (stepped c s t v m w bytes used n did is x ends)

-- how long an item is
pub item_size : (p : Phase) (bytes : List ℕ) (used n k : ℕ) → Cuts p (drop used bytes) (whole_item n) → k ≡ length (take n (drop used bytes)) → used ≤ length bytes → (k ≡ n) × (1 ≤ k) × (used + k ≤ length bytes)
item_size p bytes used n k is size within =
    let w = whole_within p (drop used bytes) n is in
    let l : k ≡ n = size ∙ length-take-le n (drop used bytes) w.1 in
    (l, omega (arith, w.0, l), omega (arith, length-drop used bytes, w.1, l))

-- an item that was read, and whose answer halts
pub item_halts : (c : Client) (s x : Stage) (v w : World) (item : List ℕ) (act : Act) (halt : Fed) → Means c s.phase item (Ok act) → ActEnds c (Err halt) act s.serial v w → LacksAt c act s.serial v w halt → ItemEnds c (Err halt) s v item x w
item_halts c s x v w item act WriteFault means ends lack = (act, means, ends)
item_halts c s x v w item act Memory means ends lack = inr ((act, means, lack.0), lack.1)
item_halts c s x v w item act More means ends lack = absurd ends
item_halts c s x v w item act (Over ending) means ends lack = absurd ends

-- the stage is the same where its phase is
pub stage_stays : (s : Stage) (p : Phase) → p ≡ s.phase → record { phase = p; serial = s.serial } ≡ s
stage_stays s p e = ap (λ (z : Phase). stage z s.serial) e
