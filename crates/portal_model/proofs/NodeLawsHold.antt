-- The laws of requests on nodes.
use Rattle.std.proofs.Common.{◌≡◌, refl}
use Rattle.portal_model.specs.Node.{node_given, walk_on_node}
use Rattle.portal_model.specs.NodeLaws.{AllowedOnNodesIsDone, HandlesStayOnBuses, NodeRefusalsKeep, NodesStayValid}
use Rattle.portal_model.specs.State.{State}
use Rattle.portal_model.proofs.BusLaws.{bus_step-holds}
use Rattle.portal_model.proofs.NodeAllowed.{node-done}
use Rattle.portal_model.proofs.NodeValid.{node-valid}
use Rattle.portal_model.proofs.Refusals.{settled-keeps}

pub refusals-change-nothing : NodeRefusalsKeep
refusals-change-nothing s c r given code e = settled-keeps s c (node_given (walk_on_node s c r) given) code e

pub nodes-stay-valid : NodesStayValid
nodes-stay-valid s c r given here mount v l = node-valid s c c here (record { opens = refl; who = refl; namings = refl; temps = refl; added = refl; mount = mount }) v r given l

pub allowed-is-done : AllowedOnNodesIsDone
allowed-is-done = node-done

pub handles-stay : HandlesStayOnBuses
handles-stay s request given o =
    bus_step-holds (λ (t : State). t.handles ≡ s.handles) (λ t seat h. h) (λ t seat change h. h) (λ t ds made rights apps h. h) (λ t es h. h) (λ t change h. h) s request given o refl
