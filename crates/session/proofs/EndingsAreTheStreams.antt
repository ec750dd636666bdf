-- The ending of a connection is its stream's.
use Rattle.std.proofs.Common.{◌≡◌, ℕ, ◌+◌, ◌≤◌, List, [], ◌++◌, length, Some, Option, sym, ap, ◌∙◌, subst, arith}
use Rattle.std.proofs.lemmas.List.{append-nil, length-append}
use Rattle.std.specs.Prelude.{IfSome}
use Rattle.session.specs.declared.act.Client.{Client}
use Rattle.session.specs.declared.served.Stop.{Stop}
use Rattle.session.specs.declared.served.Stop.TheVariants as stop
use Rattle.session.specs.declared.served.Served.{Served}
use Rattle.session.specs.declared.served.Served.TheVariants as served
use Rattle.session.specs.Connections.{EndsAs, Whole}
use Rattle.session.specs.Cuts.{first_phase}
use Rattle.session.specs.Laws.{EndingsAreTheStreams, IsOver, OfStream}
use Rattle.session.specs.Ledger.{World}
use Rattle.session.specs.Pumps.{Spring}
use Rattle.session.specs.Standings.{longest}
use Rattle.session.proofs.WholeInputsEnd.{read_of}
use Rattle.session.proofs.EndsStay.{ends_stay}

module _ (c : Client) (a b : Spring) (v w : World) (stream read more : List ℕ) (parts : stream ≡ read ++ more) (fits : length stream ≤ longest) where
  -- what ends the items that were read ends those of the stream
  over_stream : (left : List ℕ) (what : Stop) → IsOver what → Whole c read left what v w → Whole c stream (left ++ more) what v w
  over_stream left what over k = subst (λ (z : List ℕ). Whole c z (left ++ more) what v w) (sym parts) (record {
    room = subst (λ (z : List ℕ). length z ≤ longest) parts fits;
    all = k.all;
    cut = ends_stay c (first_phase c.kind) read more k.all.items k.all.acts left what k.cut over;
    asked = k.asked;
    sound = k.sound;
  })

  at_stream : (at : ℕ) (left : List ℕ) → at + length left ≡ length read → at + length (left ++ more) ≡ length stream
  at_stream at left e = omega (arith, e, length-append left more, length-append read more, ap length parts)

  -- where the source ran dry all is read
  all_read : b.left ≡ Some more → IfSome b.left (λ left. left ≡ []) → read ≡ stream
  all_read told dry =
      let none : more ≡ [] = subst (λ (o : Option (List ℕ)). IfSome o (λ left. left ≡ [])) told dry in
      sym (parts ∙ (ap (λ (z : List ℕ). read ++ z) none ∙ append-nil read))

  of_stream : (r : Served) → b.left ≡ Some more → EndsAs c r read a b v w → OfStream c r stream v w
  of_stream served.Ended told h = subst (λ (z : List ℕ). Whole c z [] stop.More v w) (all_read told h.0) h.1
  of_stream (served.Cut n) told h = (h.2.0, h.2.1, subst (λ (z : List ℕ). Whole c z h.2.0 stop.More v w) (all_read told h.0) h.2.2)
  of_stream (served.Malformed at rule) told h = (h.0 ++ more, at_stream at h.0 h.1, over_stream h.0 (stop.Bad rule) tt h.2)
  of_stream (served.LineTooLong at) told h = (h.0 ++ more, at_stream at h.0 h.1, over_stream h.0 stop.TooLong tt h.2)
  of_stream served.ReadFault told h = tt
  of_stream served.WriteFault told h = tt
  of_stream served.Spent told h = tt
  of_stream (served.Full cost limit) told h = tt
  of_stream served.Memory told h = tt

pub endings_are : EndingsAreTheStreams
endings_are c r a b v w stream h told fits =
    let x = read_of stream h.0 a.left b.left told h.1 in
    of_stream c a b v w stream h.0 x.0 x.2 fits r x.1 h.3
