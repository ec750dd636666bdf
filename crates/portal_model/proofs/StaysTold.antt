-- Whether a tree tells its files stays as it is.
use Rattle.std.proofs.Common.{◌≡◌, ℕ, Option, Some, None, refl}
use Rattle.portal_model.specs.declared.entry.Given.{Given}
use Rattle.portal_model.specs.declared.request.NodeRequest.{NodeRequest}
use Rattle.portal_model.specs.declared.request.Request.{Request}
use Rattle.portal_model.specs.declared.state.Connection.{Connection}
use Rattle.portal_model.specs.Node.{node_given, settled_on_node, walk_on_node}
use Rattle.portal_model.specs.NodeVerdict.{NodeVerdict, Errs, Yields}
use Rattle.portal_model.specs.State.{State, connection_of}
use Rattle.portal_model.specs.Step.{all_told, bus_of, bus_step, collect_step, mount_of, node_step, request_step}
use Rattle.portal_model.proofs.BusLaws.{bus_step-holds}

settled-told : (s : State) (c : Connection) (v : Option NodeVerdict) → (settled_on_node s c v).0.told ≡ s.told
settled-told s c None = refl
settled-told s c (Some (Errs errno)) = refl
settled-told s c (Some (Yields d)) = refl

node_step-told : (s : State) (r : NodeRequest) (given : Given) (o : Option Connection) → (node_step s r given o).0.told ≡ s.told
node_step-told s r given None = refl
node_step-told s r given (Some c) = settled-told (all_told c.seat s) c (node_given (walk_on_node (all_told c.seat s) c r) given)

collect_step-told : (s : State) (o : Option Connection) → (collect_step s o).0.told ≡ s.told
collect_step-told s None = refl
collect_step-told s (Some c) = refl

bus_step-told : (s : State) (request : Request) (given : Given) (o : Option Connection) → (bus_step s request given o).0.told ≡ s.told
bus_step-told s request given o =
    bus_step-holds (λ (t : State). t.told ≡ s.told) (λ t seat h. h) (λ t seat change h. h) (λ t ds made rights apps h. h) (λ t es h. h) (λ t change h. h) s request given o refl

-- a tree that tells goes on telling
pub step_told : (s : State) (seat : ℕ) (request : Request) (given : Given) → (request_step s seat request given).0.told ≡ s.told
step_told s seat (Request.Enter who kind) given = refl
step_told s seat Request.Leave given = refl
step_told s seat Request.Collect given = collect_step-told s (bus_of (connection_of s.connections seat))
step_told s seat (Request.Node r) given = node_step-told s r given (mount_of (connection_of s.connections seat))
step_told s seat request given = bus_step-told s request given (bus_of (connection_of s.connections seat))
