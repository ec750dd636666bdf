-- What the links of a listener ask of the history together, and that a worker makes no more of it.
use Rattle.std.specs.Prelude.{◌≡◌, ℕ, ◌+◌, ◌≤◌, ◌++◌, Bool, List, Some}
use Rattle.portal_model.specs.History.{cost_of}
use Rattle.portal_model.specs.Seated.{Exchange, Seated}
use Rattle.session.specs.declared.act.Client.{Client}
use Rattle.session.specs.Sessions.{enter}
use Rattle.worker_gate.specs.declared.listener.Link.{Link}
use Rattle.worker_gate.specs.declared.worker.WorkEnd.{WorkEnd}
use Rattle.worker_gate.specs.declared.worker.WorkEnd.TheVariants as end
use Rattle.worker_gate.specs.Listening.{Links}
use Rattle.worker_gate.specs.Working.{Hall, Sides, Works}
use Rattle.cost_laws.specs.Streams.{StreamAsks, made_cost}
use Rattle.cost_laws.specs.Totals.{AllAsk}

-- The source of a link tells its bytes, and they ask so much.
abbrev pub LinkAsks : {S K : Type 0} → Sides S K → Client → Link S K → ℕ → Type 0
LinkAsks s c l total =
    (stream : List ℕ) × (s.left l.source ≡ Some stream) × StreamAsks c stream total

-- A listener tells which links are to come, and they ask so much together.
abbrev pub HallAsks : {S K : Type 0} → Sides S K → Client → Hall S K → ℕ → Type 0
HallAsks s c a total =
    (told : Links _ _) × (a.links ≡ Some told) × AllAsk (LinkAsks s c) told.coming total

-- What the Enter would have cost by whose refusal a worker ended.
abbrev pub end_cost : Client → WorkEnd → ℕ
end_cost c (end.Full now limit) = cost_of (enter c)
end_cost c end.Closed = 0
end_cost c end.Failed = 0
end_cost c end.Memory = 0

-- However a worker ended, over a listener and sources that told what was to come: what it made and
-- an Enter that the history had no room for cost together at most what the links ask.
abbrev pub WorkersCostAsAsked : Type 0 → Type 0 → Type 0
WorkersCostAsAsked S K = (s : Sides S K) (polled : Bool) (c : Client) (ended : WorkEnd)
    (a b : Hall S K) (v w : Seated) (total : ℕ) (made : List Exchange)
    → Works s polled c ended a v b w → HallAsks s c a total → w.mine ≡ v.mine ++ made
    → made_cost made + end_cost c ended ≤ total
