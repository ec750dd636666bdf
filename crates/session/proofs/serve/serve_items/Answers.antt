use Rattle.std.proofs.Common.{◌≡◌, ℕ, List, length, take, drop, Option, Some, None, Ok, sym, ap, ◌∙◌, subst, arith}
use Rattle.session.specs.declared.served.Stop.{Stop}
use Rattle.session.specs.declared.served.Stop.TheVariants as stop
use Rattle.session.specs.Cuts.{Cuts, no_item, whole_item}
use Rattle.session.specs.Ledger.{world, ItemEnds}
use Rattle.session.proofs.NextCut.{nothing_cut, whole_alone, whole_within}
use Rattle.session.proofs.DidItems.{did_none}
use Rattle.session.proofs.ServeItems.{remains_cut}
use Rattle.session.proofs.ServeItem.{run_ends, run_halts, run_on, item_size}
use Rattle.session.proofs.serve.serve_items.Goals as goal

pub items-init : goal.items-init
items-init g c = record { within = omega arith; seen = c.requires.within; too_few = c.requires.too_few; did = did_none _ _ _; goes = g.met.D.Desk.stands c.args.desk.now }

pub next_cut-requires : goal.next_cut-requires
next_cut-requires g c =
    let left = c.behind-left.ensures in
    record {
      within = omega (arith, c.items.invariant.seen, ap length left);
      too_few = subst (λ (b : List ℕ). Cuts c.items.stage.phase (take c.items.seen b) (no_item stop.More)) (sym left) c.items.invariant.too_few;
    }

pub returns-in-Err-clause-stops : goal.returns-in-Err-clause-stops
returns-in-Err-clause-stops g c =
    let is = subst (λ (b : List ℕ). Cuts c.items.stage.phase b (no_item c.in-Err.stop)) c.behind-left.ensures c.in-Err.ensures in
    (c.items.invariant.within, c.items.invariant.did, remains_cut c.args.client.now c.items.stage.phase _ c.in-Err.stop is)

pub front-item-requires : goal.front-item-requires
front-item-requires g c = (whole_within _ _ _ c.in-Ok.ensures).1

pub serve_item-requires : goal.serve_item-requires
serve_item-requires g c = rw c.front-item.ensures (whole_alone _ _ _ c.in-Ok.ensures)

pub returns-in-Err-serve_item-clause-stops : goal.returns-in-Err-serve_item-clause-stops
returns-in-Err-serve_item-clause-stops g c =
    let i = c.items.invariant in
    let used = c.items.len in
    let n = c.in-Ok.len in
    let phase = c.items.stage.phase in
    let bytes = c.args.bytes.now in
    let is : Cuts phase (drop used bytes) (whole_item n) = subst (λ (b : List ℕ). Cuts phase b (whole_item n)) c.behind-left.ensures c.in-Ok.ensures in
    let item : c.front-item.result.now ≡ take n (drop used bytes) = c.front-item.ensures ∙ ap (take n) c.behind-left.ensures in
    let w = world (g.D.Desk.seated c.serve_item.new.desk) (g.K.Sink.told c.serve_item.new.sink) (g.K.Sink.faults c.serve_item.new.sink) in
    run_halts c.args.client.now _ c.items.stage _ _ w bytes used n i.did is c.in-Err-serve_item.halt _ (rw item at c.in-Err-serve_item.ensures.ends)

pub returns-in-Ok-Some-clause-stops : goal.returns-in-Ok-Some-clause-stops
returns-in-Ok-Some-clause-stops g c =
    let i = c.items.invariant in
    let used = c.items.len in
    let n = c.in-Ok.len in
    let phase = c.items.stage.phase in
    let bytes = c.args.bytes.now in
    let is : Cuts phase (drop used bytes) (whole_item n) = subst (λ (b : List ℕ). Cuts phase b (whole_item n)) c.behind-left.ensures c.in-Ok.ensures in
    let item : c.front-item.result.now ≡ take n (drop used bytes) = c.front-item.ensures ∙ ap (take n) c.behind-left.ensures in
    let w = world (g.D.Desk.seated c.serve_item.new.desk) (g.K.Sink.told c.serve_item.new.sink) (g.K.Sink.faults c.serve_item.new.sink) in
    let m = world (g.D.Desk.seated c.items.desk) (g.K.Sink.told c.items.sink) (g.K.Sink.faults c.items.sink) in
    let ends : ItemEnds c.args.client.now (Ok c.in-Ok-Some.field-0) c.items.stage m c.front-item.result.now c.serve_item.new.stage w = c.in-Ok-Some.ensures.ends in
    let ends_at : ItemEnds c.args.client.now (Ok (Some c.in-Ok-Some.stop)) c.items.stage m (take n (drop used bytes)) c.serve_item.new.stage w = subst (λ (z : List ℕ). ItemEnds c.args.client.now (Ok (Some c.in-Ok-Some.stop)) c.items.stage m z c.serve_item.new.stage w) item (subst (λ (o : Option Stop). ItemEnds c.args.client.now (Ok o) c.items.stage m c.front-item.result.now c.serve_item.new.stage w) c.in-Ok-Some.field-0-is ends) in
    run_ends c.args.client.now _ c.items.stage _ m w bytes used n i.did is c.in-Ok-Some.stop c.serve_item.new.stage i.within ends_at

pub items-preserved : goal.items-preserved
items-preserved g c =
    let i = c.items.invariant in
    let used = c.items.len in
    let n = c.in-Ok.len in
    let phase = c.items.stage.phase in
    let bytes = c.args.bytes.now in
    let is : Cuts phase (drop used bytes) (whole_item n) = subst (λ (b : List ℕ). Cuts phase b (whole_item n)) c.behind-left.ensures c.in-Ok.ensures in
    let item : c.front-item.result.now ≡ take n (drop used bytes) = c.front-item.ensures ∙ ap (take n) c.behind-left.ensures in
    let w = world (g.D.Desk.seated c.serve_item.new.desk) (g.K.Sink.told c.serve_item.new.sink) (g.K.Sink.faults c.serve_item.new.sink) in
    let m = world (g.D.Desk.seated c.items.desk) (g.K.Sink.told c.items.sink) (g.K.Sink.faults c.items.sink) in
    let ends : ItemEnds c.args.client.now (Ok c.in-Ok-None.field-0) c.items.stage m c.front-item.result.now c.serve_item.new.stage w = c.in-Ok-None.ensures.ends in
    let ends_at : ItemEnds c.args.client.now (Ok None) c.items.stage m (take n (drop used bytes)) c.serve_item.new.stage w = subst (λ (z : List ℕ). ItemEnds c.args.client.now (Ok None) c.items.stage m z c.serve_item.new.stage w) item (subst (λ (o : Option Stop). ItemEnds c.args.client.now (Ok o) c.items.stage m c.front-item.result.now c.serve_item.new.stage w) c.in-Ok-None.field-0-is ends) in
    let size = item_size phase bytes used n (length c.front-item.result.now) is (ap length item) i.within in
    record {
      within = size.2;
      seen = omega arith;
      too_few = nothing_cut c.serve_item.new.stage.phase;
      did = run_on c.args.client.now _ c.items.stage _ m w bytes used n i.did is c.serve_item.new.stage (length c.front-item.result.now) size.0 ends_at;
      goes = g.met.D.Desk.follows _ _ _ i.goes c.serve_item.ensures.goes;
    }

pub items-smaller : goal.items-smaller
items-smaller g c =
    let used = c.items.len in
    let n = c.in-Ok.len in
    let phase = c.items.stage.phase in
    let bytes = c.args.bytes.now in
    let is : Cuts phase (drop used bytes) (whole_item n) = subst (λ (b : List ℕ). Cuts phase b (whole_item n)) c.behind-left.ensures c.in-Ok.ensures in
    let item : c.front-item.result.now ≡ take n (drop used bytes) = c.front-item.ensures ∙ ap (take n) c.behind-left.ensures in
    let size = item_size phase bytes used n (length c.front-item.result.now) is (ap length item) c.items.invariant.within in
    omega (arith, size.1, size.2)
