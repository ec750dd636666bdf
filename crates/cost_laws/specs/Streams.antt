-- What the stream of a connection asks of the history, in bytes of its cost, and that the
-- connection makes no more of it.
use Rattle.std.specs.Prelude.{◌≡◌, ℕ, ◌+◌, ◌<◌, ◌≤◌, List, ◌++◌, map, Some}
use Rattle.std.specs.List.{All, sum_by}
use Rattle.portal_model.specs.declared.request.Request.{Request}
use Rattle.portal_model.specs.History.{cost, cost_of}
use Rattle.portal_model.specs.Seated.{Exchange}
use Rattle.session.specs.declared.act.Act.{Act}
use Rattle.session.specs.declared.act.Client.{Client}
use Rattle.session.specs.declared.served.Served.{Served}
use Rattle.session.specs.declared.served.Served.TheVariants as served
use Rattle.session.specs.declared.served.Stop.{Stop}
use Rattle.session.specs.Asked.{asked}
use Rattle.session.specs.Connections.{Serves}
use Rattle.session.specs.Cuts.{first_phase}
use Rattle.session.specs.Items.{Items}
use Rattle.session.specs.Ledger.{World}
use Rattle.session.specs.Pumps.{Spring}
use Rattle.session.specs.Sessions.{enter}

-- ---- what is asked

-- what requests cost together
abbrev pub costs : List Request → ℕ
costs requests = sum_by cost_of requests

-- A stream of a client asks so much: Enter, the requests of its whole items, and Leave cost it
-- together.
pub record StreamAsks (c : Client) (stream : List ℕ) (total : ℕ) : Type 0 where
  pub items : List (List ℕ)
  pub acts : List Act
  pub left : List ℕ
  pub what : Stop
  pub cut : Items c (first_phase c.kind) stream items acts left what
  pub total_is : total ≡ costs (asked c acts)

-- Each stream of bytes asks so much, and no more or less.
pub record StreamsAskOnce : Type 0 where
  pub some : (c : Client) (stream : List ℕ) → All (λ b. b < 256) stream
      → (total : ℕ) × StreamAsks c stream total
  pub one : (c : Client) (stream : List ℕ) (m n : ℕ) → StreamAsks c stream m
      → StreamAsks c stream n → m ≡ n

-- ---- what is made of it

-- what entries cost the history that have these replies
abbrev pub made_cost : List Exchange → ℕ
made_cost made = cost (map (λ x. x.entry) made)

-- What an Enter would have cost that the history had no room for.
abbrev pub refused_cost : Client → Served → ℕ
refused_cost c (served.Full now limit) = cost_of (enter c)
refused_cost c served.Ended = 0
refused_cost c (served.Cut rest) = 0
refused_cost c (served.Malformed at rule) = 0
refused_cost c (served.LineTooLong at) = 0
refused_cost c served.ReadFault = 0
refused_cost c served.WriteFault = 0
refused_cost c served.Spent = 0
refused_cost c served.Memory = 0

-- However a connection ended, over a source that told its stream: what it made and an Enter that
-- the history had no room for cost together at most what the stream asks.
abbrev pub StreamsCostAsAsked : Type 0
StreamsCostAsAsked = (c : Client) (r : Served) (a b : Spring) (v w : World) (stream : List ℕ)
    (total : ℕ) (made : List Exchange)
    → Serves c r a b v w → a.left ≡ Some stream → StreamAsks c stream total
    → w.seated.mine ≡ v.seated.mine ++ made → made_cost made + refused_cost c r ≤ total
