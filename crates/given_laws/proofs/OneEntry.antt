-- Over a tree that tells its files, a request has one lawful entry in which no device failed.
use Rattle.std.specs.Prelude.{IfSome}
use Rattle.std.proofs.Common.{◌≡◌, ℕ, List, Option, Some, None, true, is_some, refl, sym, ap, subst, ◌∙◌}
use Rattle.portal_model.specs.declared.entry.Entry.{Entry}
use Rattle.portal_model.specs.declared.entry.Fault.{Fault}
use Rattle.portal_model.specs.declared.entry.Given.{Given}
use Rattle.portal_model.specs.declared.request.NodeRequest.{NodeRequest}
use Rattle.portal_model.specs.declared.request.Request.{Request}
use Rattle.portal_model.specs.declared.state.Connection.{Connection}
use Rattle.portal_model.specs.Bus.{bus_walk, is_tree, moment_given}
use Rattle.portal_model.specs.Lawful.{Lawful, LawfulGiven, LawfulOnBus, LawfulOnNode}
use Rattle.portal_model.specs.Node.{walk_on_node}
use Rattle.portal_model.specs.Outside.{AreDrawn, meets_limit, verdict_of, words_drawn}
use Rattle.portal_model.specs.State.{State, connection_of}
use Rattle.portal_model.specs.Step.{all_told, bus_of, mount_of}
use Rattle.portal_model.specs.Walk.{generation_reached, reads_clock, walked}
use Rattle.portal_model.proofs.LooksTaken.{looks-are-taken, walk_listed}
use Rattle.given_laws.specs.OneGiven.{AreFirst, LawfulEntriesAreOne}
use Rattle.given_laws.proofs.DrawnAlike.{bus-draws}
use Rattle.given_laws.proofs.OneNumbers.{numbers-one, words-one}

-- ---- the parts of what is given

given_is : (g h : Given) → g.now ≡ h.now → g.words ≡ h.words → g.numbers ≡ h.numbers → g.looks ≡ h.looks → g.listed ≡ h.listed → g.generation ≡ h.generation → g.full ≡ h.full → g.fault ≡ h.fault → g ≡ h
given_is g h n w u l k t f d = λ i. record { now = n i; words = w i; numbers = u i; looks = l i; listed = k i; generation = t i; full = f i; fault = d i }

-- the moment, where both read the clock or none does
moment_is : (g h : Option ℕ) → is_some h ≡ is_some g → IfSome h (λ now. now ≡ moment_given g) → h ≡ g
moment_is None None e m = refl
moment_is None (Some now) e m = cc
moment_is (Some now) None e m = cc
moment_is (Some now) (Some other) e m = ap Some m

-- ---- on a node and on a bus

module _ (s : State) (g h : Given) (looks : h.looks ≡ g.looks) (moment : IfSome h.now (λ now. now ≡ moment_given g.now)) (tells : s.told ≡ true) (whole : g.fault ≡ Fault.None) (also : h.fault ≡ Fault.None) where
  fault : h.fault ≡ g.fault
  fault = also ∙ sym whole

  node_one : (r : NodeRequest) (o : Option Connection) → LawfulOnNode s r g o → LawfulOnNode s r h o → h ≡ g
  node_one r None l k = k ∙ sym l
  node_one r (Some c) l k =
      let at : State = all_told c.seat s in
      let walk = walk_on_node at c r in
      let read : is_some h.now ≡ is_some g.now = k.clock ∙ (ap (reads_clock walk) looks ∙ sym l.clock) in
      let names : h.listed ≡ g.listed = walk_listed at walk h tells also k.looks k.listed ∙ sym (walk_listed at walk g tells whole l.looks l.listed) in
      given_is h g (moment_is g.now h.now read moment) (k.words ∙ sym l.words) (k.numbers ∙ sym l.numbers) looks names (k.generation ∙ (ap (generation_reached walk) looks ∙ sym l.generation)) (k.full ∙ sym l.full) fault

  bus_one : (request : Request) (o : Option Connection) → AreFirst g.words h.words → LawfulOnBus s request g o → LawfulOnBus s request h o → h ≡ g
  bus_one request None first l k = k ∙ sym l
  bus_one request (Some c) first l k =
      let at : State = all_told c.seat s in
      let walk = bus_walk at c request in
      let count : words_drawn (verdict_of at c request h) ≡ words_drawn (verdict_of at c request g) =
      bus-draws at c request h.numbers g.numbers (moment_given h.now) (moment_given g.now) h.looks (is_tree h.fault)
      ∙ (λ i. words_drawn (walked (walk g.numbers) (moment_given g.now) (looks i) (is_tree (fault i)))) in
      let words : h.words ≡ g.words = words-one g.words h.words (k.words ∙ (count ∙ sym l.words)) first in
      let numbers : h.numbers ≡ g.numbers = numbers-one at.made g.words h.numbers g.numbers (subst (λ (ws : List ℕ). AreDrawn at.made ws h.numbers) words k.numbers) l.numbers in
      let read : is_some h.now ≡ is_some g.now = k.clock ∙ ((λ i. reads_clock (walk (numbers i)) (looks i)) ∙ sym l.clock) in
      let now : h.now ≡ g.now = moment_is g.now h.now read moment in
      let verdict : verdict_of at c request h ≡ verdict_of at c request g = λ i. walked (walk (numbers i)) (moment_given (now i)) (looks i) (is_tree (fault i)) in
      given_is h g now words numbers looks (k.listed ∙ sym l.listed) (k.generation ∙ sym l.generation) (k.full ∙ (ap meets_limit verdict ∙ sym l.full)) fault

  -- ---- any request

  given_one : (seat : ℕ) (request : Request) → AreFirst g.words h.words → LawfulGiven s seat request g → LawfulGiven s seat request h → h ≡ g
  given_one seat (Request.Enter who kind) first l k = k.1 ∙ sym l.1
  given_one seat Request.Leave first l k = k ∙ sym l
  given_one seat Request.Collect first l k = k ∙ sym l
  given_one seat (Request.Node r) first l k = node_one r (mount_of (connection_of s.connections seat)) l k
  given_one seat (Request.Present path) first l k = bus_one (Request.Present path) (bus_of (connection_of s.connections seat)) first l k
  given_one seat (Request.Add a) first l k = bus_one (Request.Add a) (bus_of (connection_of s.connections seat)) first l k
  given_one seat (Request.Grant call) first l k = bus_one (Request.Grant call) (bus_of (connection_of s.connections seat)) first l k
  given_one seat (Request.Revoke call) first l k = bus_one (Request.Revoke call) (bus_of (connection_of s.connections seat)) first l k
  given_one seat (Request.DeleteDocument doc) first l k = bus_one (Request.DeleteDocument doc) (bus_of (connection_of s.connections seat)) first l k
  given_one seat (Request.LookupDocument path) first l k = bus_one (Request.LookupDocument path) (bus_of (connection_of s.connections seat)) first l k
  given_one seat (Request.Info doc) first l k = bus_one (Request.Info doc) (bus_of (connection_of s.connections seat)) first l k
  given_one seat (Request.ListDocuments app) first l k = bus_one (Request.ListDocuments app) (bus_of (connection_of s.connections seat)) first l k
  given_one seat (Request.Store call) first l k = bus_one (Request.Store call) (bus_of (connection_of s.connections seat)) first l k

pub entry-one : LawfulEntriesAreOne
entry-one s e again told l k seat request whole also moment first =
    let same : again ≡ record again { seat = e.seat; request = e.request } = λ i. record again { seat = seat i; request = request i } in
    let here : Lawful s (record again { seat = e.seat; request = e.request }) = subst (λ (x : Entry). Lawful s x) same k in
    let looks : again.given.looks ≡ e.given.looks = looks-are-taken s (record again { seat = e.seat; request = e.request }) told here also ∙ sym (looks-are-taken s e told l whole) in
    let given : again.given ≡ e.given = given_one s e.given again.given looks moment told whole also e.seat e.request first l.given here.given in
    λ i. record { seat = seat i; request = request i; given = given i }
