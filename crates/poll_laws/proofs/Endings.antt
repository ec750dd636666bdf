-- Why polls are pending and how they end, seen from further back and from later on.
use Rattle.std.proofs.Common.{◌≡◌, inl, inr, ℕ, ◌≤◌, List, [], ◌∷◌, ◌++◌, length, Bool, Option, Some, None, sym, ap, ◌∙◌, subst, arith}
use Rattle.std.specs.Prelude.{IfSome}
use Rattle.std.proofs.lemmas.List.{append_assoc, length-append}
use Rattle.portal_base.specs.Outside.{HasRisen}
use Rattle.portal_model.specs.declared.reply.Refused.TheVariants as refused
use Rattle.session.specs.declared.act.Client.{Client}
use Rattle.session.specs.declared.phase.Phase.{Phase}
use Rattle.session.specs.declared.served.Served.{Served}
use Rattle.session.specs.declared.served.Served.TheVariants as served
use Rattle.session.specs.declared.served.Stop.{Stop}
use Rattle.session.specs.declared.served.Stop.TheVariants as stop
use Rattle.session.specs.Answers.{Denied, Outcome}
use Rattle.session.specs.Cuts.{Cuts, no_item}
use Rattle.session.specs.Items.{Remains}
use Rattle.session.specs.Sessions.{enter}
use Rattle.session.proofs.Grew.{risen_later}
use Rattle.poll_laws.specs.Courses.{Sight, Standing}
use Rattle.poll_laws.specs.Polls.{Counted, EndsAs, IsDry, IsIdle, IsWhole, Meets, Waits}

risen_on : (a b c : ℕ) → HasRisen a b → b ≤ c → HasRisen a c
risen_on a b c h k = omega arith

pub waits_further : (u v w : Sight) (t : Standing) (before read : List ℕ) (yields : Bool) → Counted u v → Waits v w t read yields → Waits u w t (before ++ read) yields
waits_further u v w t before read yields c (inl (busy, asks)) = let e = c.busy in inl (risen_later u.busy v.busy w.busy e busy, asks)
waits_further u v w t before read yields c (inr (inl writing)) = let e = c.writing.waits in inr (inl (risen_later u.writing.waits v.writing.waits w.writing.waits e writing))
waits_further u v w t before read yields c (inr (inr (inl reading, idle))) = let e = c.reading.waits in inr (inr (inl (risen_later u.reading.waits v.reading.waits w.reading.waits e reading), idle))
waits_further u v w t before read yields c (inr (inr (inr (much, asks), idle))) = let e = length-append before read in inr (inr (inr (omega (arith, e, much), asks), idle))

-- an ending, of what was done before it too
pub ends_further : (e : Served) (t : Standing) (u v w : Sight) (passed more : List ℕ) (front came : List Outcome) → Counted u v → more ≡ passed → EndsAs e t v w passed came → EndsAs e t u w more (front ++ came)
ends_further served.Ended t u v w passed more front came c same h = h
ends_further (served.Cut n) t u v w passed more front came c same h = h
ends_further (served.Malformed at rule) t u v w passed more front came c same h = h
ends_further (served.LineTooLong at) t u v w passed more front came c same h = h
ends_further served.ReadFault t u v w passed more front came c same h = (risen_later u.reading.faults v.reading.faults w.reading.faults c.reading.faults h.0, h.1)
ends_further served.WriteFault t u v w passed more front came c same h = risen_later u.writing.faults v.writing.faults w.writing.faults c.writing.faults h
ends_further served.Spent t u v w passed more front came c same h = rw same h
ends_further (served.Full cost limit) t u v w passed more front came c same ((before, after, is), none, idle) =
    ((front ++ before, after, ap (λ (z : List Outcome). front ++ z) is ∙ sym (append_assoc front before (Denied (enter t.client) (refused.Full cost limit) ∷ after))), none, idle)
ends_further served.Memory t u v w passed more front came c same h = rw same h

-- ---- later on

-- once an ending is met it is still so where nothing more is done
pub record IsSame (e : Served) (t : Standing) (w : Sight) (x : Standing) (y : Sight) : Type 0 where
  pub client : x.client ≡ t.client
  pub phase : x.stage.phase ≡ t.stage.phase
  pub before : x.before ≡ t.before
  pub left : x.left ≡ t.left
  pub unsent : IsWhole (Some e) → x.unsent ≡ t.unsent
  pub source : y.left ≡ w.left
  pub counted : Counted w y

idle_same : (e : Served) (t : Standing) (w : Sight) (x : Standing) (y : Sight) → IsSame e t w x y → IsWhole (Some e) → IsIdle t → IsIdle x
idle_same e t w x y q whole h = (
  subst (λ (z : List ℕ). Cuts x.stage.phase z (no_item stop.More)) (sym q.left) (subst (λ (p : Phase). Cuts p t.left (no_item stop.More)) (sym q.phase) h.0),
  q.unsent whole ∙ h.1,
)

dry_same : (e : Served) (t : Standing) (w : Sight) (x : Standing) (y : Sight) → IsSame e t w x y → IsDry w → IsDry y
dry_same e t w x y q h = subst (λ (z : Option (List ℕ)). IfSome z (λ left. left ≡ [])) (sym q.source) h

remains_same : (e : Served) (t : Standing) (w : Sight) (x : Standing) (y : Sight) (what : Stop) → IsSame e t w x y → Remains t.client t.stage.phase t.left what → Remains x.client x.stage.phase x.left what
remains_same e t w x y what q h =
    subst (λ (z : Client). Remains z x.stage.phase x.left what) (sym q.client)
    (subst (λ (z : List ℕ). Remains t.client x.stage.phase z what) (sym q.left) (subst (λ (p : Phase). Remains t.client p t.left what) (sym q.phase) h))

pub ends_same : (e : Served) (t : Standing) (u w : Sight) (x : Standing) (y : Sight) (passed more : List ℕ) (came behind : List Outcome) → IsSame e t w x y → more ≡ passed → EndsAs e t u w passed came → EndsAs e x u y more (came ++ behind)
ends_same served.Ended t u w x y passed more came behind q same h = (dry_same served.Ended t w x y q h.0, q.left ∙ h.1, idle_same served.Ended t w x y q tt h.2)
ends_same (served.Cut n) t u w x y passed more came behind q same h =
    (dry_same (served.Cut n) t w x y q h.0, h.1, h.2 ∙ ap length (sym q.left), idle_same (served.Cut n) t w x y q tt h.3)
ends_same (served.Malformed at rule) t u w x y passed more came behind q same h =
    (h.0 ∙ sym q.before, remains_same (served.Malformed at rule) t w x y (stop.Bad rule) q h.1, q.unsent tt ∙ h.2)
ends_same (served.LineTooLong at) t u w x y passed more came behind q same h =
    (h.0 ∙ sym q.before, remains_same (served.LineTooLong at) t w x y stop.TooLong q h.1, q.unsent tt ∙ h.2)
ends_same served.ReadFault t u w x y passed more came behind q same h =
    (risen_on u.reading.faults w.reading.faults y.reading.faults h.0 q.counted.reading.faults, idle_same served.ReadFault t w x y q tt h.1)
ends_same served.WriteFault t u w x y passed more came behind q same h = risen_on u.writing.faults w.writing.faults y.writing.faults h q.counted.writing.faults
ends_same served.Spent t u w x y passed more came behind q same h = (
  rw (q.before, q.left, same) h.0,
  rw same h.1,
  idle_same served.Spent t w x y q tt h.2,
)
ends_same (served.Full cost limit) t u w x y passed more came behind q same ((before, after, is), none, idle) = (
  (
    before,
    after ++ behind,
    ap (λ (z : List Outcome). z ++ behind) is
        ∙ (append_assoc before (Denied (enter t.client) (refused.Full cost limit) ∷ after) behind
        ∙ ap (λ (z : Client). before ++ (Denied (enter z) (refused.Full cost limit) ∷ (after ++ behind))) (sym q.client)),
  ),
  q.left ∙ none,
  idle_same (served.Full cost limit) t w x y q tt idle,
)
ends_same served.Memory t u w x y passed more came behind q same h = rw same h

pub meets_same_on : (o : Option Served) (e : Served) (t : Standing) (u w : Sight) (x : Standing) (y : Sight) (passed more : List ℕ) (came behind : List Outcome) → IsSame e t w x y → more ≡ passed → Meets o (Some e) t u w passed came → Meets o (Some e) x u y more (came ++ behind)
meets_same_on None e t u w x y passed more came behind q same h = ends_same e t u w x y passed more came behind q same h
meets_same_on (Some f) e t u w x y passed more came behind q same h = tt

pub meets_after : (o : Option Served) (e : Served) (t : Standing) (u v w : Sight) (passed more : List ℕ) (front came : List Outcome) → Counted u v → more ≡ passed → EndsAs e t v w passed came → Meets o (Some e) t u w more (front ++ came)
meets_after None e t u v w passed more front came c same h = ends_further e t u v w passed more front came c same h
meets_after (Some f) e t u v w passed more front came c same h = tt

pub meets_none : (x : Option Served) (t : Standing) (u w : Sight) (passed : List ℕ) (came : List Outcome) → Meets x None t u w passed came
meets_none None t u w passed came = tt
meets_none (Some e) t u w passed came = tt
