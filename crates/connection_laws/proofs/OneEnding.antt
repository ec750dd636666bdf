-- A connection that ended as its stream says ended as what stands behind the items of the stream says.
use Rattle.std.proofs.Common.{◌≡◌, ℕ, ◌+◌, ◌-◌, ◌≤◌, List, [], ◌∷◌, length, refl, sym, ap, arith}
use Rattle.session.specs.declared.act.Client.{Client}
use Rattle.session.specs.declared.served.Served.{Served}
use Rattle.session.specs.declared.served.Served.TheVariants as served
use Rattle.session.specs.declared.served.Stop.{Stop}
use Rattle.session.specs.declared.served.Stop.TheVariants as stop
use Rattle.session.specs.Connections.{EndsAs, Serves, Whole}
use Rattle.session.specs.Laws.{OfStream}
use Rattle.session.specs.Ledger.{World}
use Rattle.session.specs.Pumps.{Spring}
use Rattle.session.specs.Sessions.{ending_at}
use Rattle.session.proofs.EndingsAreTheStreams.{endings_are}
use Rattle.connection_laws.specs.Served.{IsByStream, IsServedWhole, Service}
use Rattle.connection_laws.specs.ServedBytes.{HasRead}

-- by the rest of a stream, and what it is
abbrev pub ending_of : List ℕ → List ℕ → Stop → Served
ending_of stream left stop.More = ending_at left
ending_of stream left (stop.Bad rule) = served.Malformed (length stream - length left) rule
ending_of stream left stop.TooLong = served.LineTooLong (length stream - length left)

-- a whole stream that was served, and its ending
pub record Ends (c : Client) (r : Served) (stream : List ℕ) (v w : World) : Type 0 where
  pub left : List ℕ
  pub what : Stop
  pub whole : Whole c stream left what v w
  pub ending : r ≡ ending_of stream left what

cut_at : (left : List ℕ) (n : ℕ) → length left ≡ n → 1 ≤ n → served.Cut n ≡ ending_at left
cut_at [] n e l = absurd (omega arith)
cut_at (b ∷ bs) n e l = ap (λ (k : ℕ). served.Cut k) (sym e)

place_is : (at left whole : ℕ) → at + left ≡ whole → at ≡ whole - left
place_is at left whole e = omega arith

module _ (c : Client) (a b : Spring) (v w : World) (stream : List ℕ) where
  ends_so : (r : Served) → IsByStream r → Serves c r a b v w → OfStream c r stream v w → Ends c r stream v w
  ends_so served.Ended h s k = record { left = []; what = stop.More; whole = k; ending = refl }
  ends_so (served.Cut n) h s k = record { left = k.0; what = stop.More; whole = k.2; ending = cut_at k.0 n k.1 s.3.1 }
  ends_so (served.Malformed at rule) h s k =
      record { left = k.0; what = stop.Bad rule; whole = k.2; ending = ap (λ (n : ℕ). served.Malformed n rule) (place_is at (length k.0) (length stream) k.1) }
  ends_so (served.LineTooLong at) h s k =
      record { left = k.0; what = stop.TooLong; whole = k.2; ending = ap (λ (n : ℕ). served.LineTooLong n) (place_is at (length k.0) (length stream) k.1) }
  ends_so served.ReadFault h s k = absurd h
  ends_so served.WriteFault h s k = absurd h
  ends_so served.Spent h s k = absurd h
  ends_so (served.Full cost limit) h s k = absurd h
  ends_so served.Memory h s k = absurd h

pub ends-as-stream : (c : Client) (x : Service c) (stream : List ℕ) → IsServedWhole c x stream → Ends c x.ended stream x.before x.after
ends-as-stream c x stream k =
    ends_so c x.source x.source_after x.before x.after stream x.ended k.by_stream x.serves
    (endings_are c x.ended x.source x.source_after x.before x.after stream x.serves k.told k.short)

-- what was read, as a stream of its own
of_read : (c : Client) (r : Served) (read : List ℕ) (a b : Spring) (v w : World) → EndsAs c r read a b v w → OfStream c r read v w
of_read c served.Ended read a b v w h = h.1
of_read c (served.Cut n) read a b v w h = h.2
of_read c (served.Malformed at rule) read a b v w h = (h.0, h.1, h.2)
of_read c (served.LineTooLong at) read a b v w h = (h.0, h.1, h.2)
of_read c served.ReadFault read a b v w h = tt
of_read c served.WriteFault read a b v w h = tt
of_read c served.Spent read a b v w h = tt
of_read c (served.Full cost limit) read a b v w h = tt
of_read c served.Memory read a b v w h = tt

pub ends-as-read : (c : Client) (x : Service c) (read : List ℕ) → HasRead c x read → Ends c x.ended read x.before x.after
ends-as-read c x read k =
    ends_so c x.source x.source_after x.before x.after read x.ended k.by_stream x.serves
    (of_read c x.ended read x.source x.source_after x.before x.after k.ends)
