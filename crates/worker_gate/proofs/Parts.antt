-- What a seat made while a connection was served.
use Rattle.std.proofs.Common.{◌≡◌, ℕ, ◌≤◌, List, [], ◌++◌, Bool, true, false, inl, inr, refl, sym, ap, ◌∙◌, subst, arith}
use Rattle.std.specs.Prelude.{◌⊎◌}
use Rattle.std.proofs.Math.Nat.{le-max_left}
use Rattle.std.proofs.lemmas.List.{append-nil}
use Rattle.portal_model.specs.Seated.{Exchange, Moved, Seated}
use Rattle.session.specs.declared.act.Client.{Client}
use Rattle.session.specs.declared.served.Served.{Served}
use Rattle.session.specs.declared.served.Served.TheVariants as served
use Rattle.session.specs.Answers.{Outcome}
use Rattle.session.specs.Connections.{EndsAs, Front, HalfUnsaid, Serves}
use Rattle.session.specs.Ledger.{Grew, World}
use Rattle.session.specs.Pumps.{Spring}
use Rattle.worker_gate.specs.Polled.{ServesBy}

-- the history goes on, this is new of the seat's own, and no refusal is forgotten
pub record Part (v w : Seated) : Type 0 where
  pub made : List Exchange
  pub moved : Moved v w
  pub mine : w.mine ≡ v.mine ++ made
  pub refusals : v.refusals ≤ w.refusals

pub moved_none : (v : Seated) → Moved v v
moved_none v = record { opening = refl; seat = refl; begins = ([], sym (append-nil v.seen)) }

none : (v w : Seated) → w ≡ v → Part v w
none v w h = record {
  made = [];
  moved = subst (λ (z : Seated). Moved v z) (sym h) (moved_none v);
  mine = ap (λ (z : Seated). z.mine) h ∙ sym (append-nil v.mine);
  refusals = let e : w.refusals ≡ v.refusals = ap (λ (z : Seated). z.refusals) h in omega (arith, e);
}

grown : (v w : Seated) (os : List Outcome) → Grew v os w → Part v w
grown v w os g = record {
  made = g.steps;
  moved = g.moved;
  mine = g.mine;
  refusals = subst (λ (z : ℕ). v.refusals ≤ z) (sym g.refusals) (le-max_left v.refusals _);
}

half : (c : Client) (read : List ℕ) (v w : World) → Front c read v w ⊎ HalfUnsaid c read v w → Part v.seated w.seated
half c read v w (inl f) = grown v.seated w.seated _ f.asked.grows.desk
half c read v w (inr h) = grown v.seated w.seated _ h.0.asked.grows.desk

ends_part : (c : Client) (r : Served) (read : List ℕ) (a b : Spring) (v w : World) → EndsAs c r read a b v w → Part v.seated w.seated
ends_part c served.Ended read a b v w h = grown v.seated w.seated _ h.1.asked.grows.desk
ends_part c (served.Cut n) read a b v w h = grown v.seated w.seated _ h.2.2.asked.grows.desk
ends_part c (served.Malformed at rule) read a b v w h = grown v.seated w.seated _ h.2.asked.grows.desk
ends_part c (served.LineTooLong at) read a b v w h = grown v.seated w.seated _ h.2.asked.grows.desk
ends_part c served.ReadFault read a b v w h = grown v.seated w.seated _ h.1.1.asked.grows.desk
ends_part c served.WriteFault read a b v w h = grown v.seated w.seated _ h.1.asked.grows.desk
ends_part c served.Spent read a b v w h = grown v.seated w.seated _ h.1.5.asked.grows.desk
ends_part c (served.Full cost limit) read a b v w h = grown v.seated w.seated _ h.1.desk
ends_part c served.Memory read a b v w (inl (inl h)) = none v.seated w.seated h.1
ends_part c served.Memory read a b v w (inl (inr h)) = grown v.seated w.seated _ h.1.desk
ends_part c served.Memory read a b v w (inr h) = half c read v w h.0

-- whatever a connection came to
pub part_of : (c : Client) (r : Served) (a b : Spring) (v w : World) → Serves c r a b v w → Part v.seated w.seated
part_of c r a b v w h = ends_part c r h.0 a b v w h.3

-- the same, where it was polled too
pub part_by : (polled : Bool) (c : Client) (r : Served) (a b : Spring) (v w : World) → ServesBy polled c r a b v w → Part v.seated w.seated
part_by true c r a b v w h = grown v.seated w.seated _ h.is.grew
part_by false c r a b v w h = part_of c r a b v w h
