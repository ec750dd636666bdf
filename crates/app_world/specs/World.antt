-- The world of one application: its own machine, which sees its view and its own requests alone,
-- and its trace, which tells these and what others change of the view.
use Rattle.std.specs.Prelude.{ℕ, List, [], ◌∷◌, ◌++◌, length, map, Option, Some, None, cond}
use Rattle.portal_base.specs.declared.names.doc_id.DocId.{DocId}
use Rattle.portal_model.specs.declared.entry.Entry.{Entry}
use Rattle.portal_model.specs.declared.entry.Given.{Given}
use Rattle.portal_model.specs.declared.reply.Reply.{Reply}
use Rattle.portal_model.specs.declared.request.AddRequest.{AddRequest}
use Rattle.portal_model.specs.declared.request.NodeRequest.{NodeRequest}
use Rattle.portal_model.specs.declared.request.Request.{Request}
use Rattle.portal_model.specs.declared.state.Connection.{Connection}
use Rattle.portal_model.specs.History.{makes}
use Rattle.portal_model.specs.State.{State, connection_of}
use Rattle.portal_model.specs.Step.{after, bus_of, is_mount, mount_of, not_here, reply_at, with_signals}
use Rattle.app_world.specs.Add.{reused_by, shown_to}
use Rattle.app_world.specs.Bus.{bus_touch, own_bus_step}
use Rattle.app_world.specs.Collect.{own_collect}
use Rattle.app_world.specs.Effect as effect
use Rattle.app_world.specs.Effect.{Effect, apply}
use Rattle.app_world.specs.Enter.{own_enter}
use Rattle.app_world.specs.Leave.{own_leave}
use Rattle.app_world.specs.Node.{node_touch, own_node_answer}
use Rattle.app_world.specs.Own.{Own}
use Rattle.app_world.specs.Touched.{is_done}
use Rattle.app_world.specs.TraceItem as item
use Rattle.app_world.specs.TraceItem.{TraceItem, item_of}
use Rattle.app_world.specs.View.{AppView, Holding, OwnConnection, found_connection, view}

-- ---- the application's own machine

-- the connection, where it is a mount
abbrev pub own_mount_of : Option OwnConnection → Option OwnConnection
own_mount_of None = None
own_mount_of (Some c) = cond (is_mount c.kind) (Some c) None

-- the connection, where it is a bus
abbrev pub own_bus_of : Option OwnConnection → Option OwnConnection
own_bus_of None = None
own_bus_of (Some c) = cond (is_mount c.kind) None (Some c)

abbrev pub own_node_step : AppView → NodeRequest → Own → Option OwnConnection → AppView × Reply
own_node_step v r own None = not_here v
own_node_step v r own (Some c) = with_signals [] (own_node_answer v c r own)

-- nothing waits to be told to an application
abbrev pub own_collect_step : AppView → Option OwnConnection → AppView × Reply
own_collect_step v None = not_here v
own_collect_step v (Some c) = with_signals [] (own_collect v)

-- the connection of the request's seat, where it is a bus
abbrev pub own_bus : AppView → Own → Option OwnConnection
own_bus v own = own_bus_of (found_connection v.connections own.seat)

abbrev pub own_request_step : AppView → Own → Request → AppView × Reply
own_request_step v own (Request.Enter who kind) = with_signals [] (own_enter v own.seat who kind)
own_request_step v own Request.Leave = with_signals [] (own_leave v own.seat)
own_request_step v own Request.Collect = own_collect_step v (own_bus v own)
own_request_step v own (Request.Node r) =
    own_node_step v r own (own_mount_of (found_connection v.connections own.seat))
own_request_step v own (Request.Present path) =
    own_bus_step v own (Request.Present path) (own_bus v own)
own_request_step v own (Request.Add a) = own_bus_step v own (Request.Add a) (own_bus v own)
own_request_step v own (Request.Grant call) =
    own_bus_step v own (Request.Grant call) (own_bus v own)
own_request_step v own (Request.Revoke call) =
    own_bus_step v own (Request.Revoke call) (own_bus v own)
own_request_step v own (Request.DeleteDocument doc) =
    own_bus_step v own (Request.DeleteDocument doc) (own_bus v own)
own_request_step v own (Request.LookupDocument path) =
    own_bus_step v own (Request.LookupDocument path) (own_bus v own)
own_request_step v own (Request.Info doc) = own_bus_step v own (Request.Info doc) (own_bus v own)
own_request_step v own (Request.ListDocuments app) =
    own_bus_step v own (Request.ListDocuments app) (own_bus v own)
own_request_step v own (Request.Store call) =
    own_bus_step v own (Request.Store call) (own_bus v own)

-- the view after a request of the application, and the reply to it
abbrev pub app_step : AppView → Own → AppView × Reply
app_step v own = own_request_step v own own.request

-- ---- the trace

abbrev pub shown_by : State → AddRequest → Given → Option Connection → List Holding
shown_by s a given None = []
shown_by s a given (Some c) = shown_to s c a given

abbrev pub reused_on : State → AddRequest → Option Connection → List (Option DocId)
reused_on s a None = []
reused_on s a (Some c) = reused_by s c a

-- what is told of an Add alone
abbrev pub contents_shown : State → Request → Given → Option Connection → List Holding
contents_shown s (Request.Add a) given o = shown_by s a given o
contents_shown s (Request.Present path) given o = []
contents_shown s (Request.Grant call) given o = []
contents_shown s (Request.Revoke call) given o = []
contents_shown s (Request.DeleteDocument doc) given o = []
contents_shown s (Request.LookupDocument path) given o = []
contents_shown s (Request.Info doc) given o = []
contents_shown s (Request.ListDocuments name) given o = []
contents_shown s (Request.Store call) given o = []
contents_shown s (Request.Enter who kind) given o = []
contents_shown s Request.Leave given o = []
contents_shown s Request.Collect given o = []
contents_shown s (Request.Node r) given o = []

abbrev pub documents_reused : State → Request → Option Connection → List (Option DocId)
documents_reused s (Request.Add a) o = reused_on s a o
documents_reused s (Request.Present path) o = []
documents_reused s (Request.Grant call) o = []
documents_reused s (Request.Revoke call) o = []
documents_reused s (Request.DeleteDocument doc) o = []
documents_reused s (Request.LookupDocument path) o = []
documents_reused s (Request.Info doc) o = []
documents_reused s (Request.ListDocuments name) o = []
documents_reused s (Request.Store call) o = []
documents_reused s (Request.Enter who kind) o = []
documents_reused s Request.Leave o = []
documents_reused s Request.Collect o = []
documents_reused s (Request.Node r) o = []

abbrev pub own_of : State → Entry → Own
own_of s e =
    let o = bus_of (connection_of s.connections e.seat) in
    record {
      seat = e.seat;
      request = e.request;
      now = e.given.now;
      numbers = e.given.numbers;
      shown = contents_shown s e.request e.given o;
      reused = documents_reused s e.request o;
      looks = length e.given.looks;
      full = e.given.full;
      fault = e.given.fault;
      generation = e.given.generation;
    }

-- an Enter, a Leave and a Collect change nothing of another's view
abbrev pub request_touch : List ℕ → State → ℕ → Request → Given → List Effect
request_touch app s seat (Request.Enter who kind) given = []
request_touch app s seat Request.Leave given = []
request_touch app s seat Request.Collect given = []
request_touch app s seat (Request.Node r) given =
    node_touch app s r given (mount_of (connection_of s.connections seat))
request_touch app s seat (Request.Present path) given =
    bus_touch app s (Request.Present path) given (bus_of (connection_of s.connections seat))
request_touch app s seat (Request.Add a) given =
    bus_touch app s (Request.Add a) given (bus_of (connection_of s.connections seat))
request_touch app s seat (Request.Grant call) given =
    bus_touch app s (Request.Grant call) given (bus_of (connection_of s.connections seat))
request_touch app s seat (Request.Revoke call) given =
    bus_touch app s (Request.Revoke call) given (bus_of (connection_of s.connections seat))
request_touch app s seat (Request.DeleteDocument doc) given =
    bus_touch app s (Request.DeleteDocument doc) given (bus_of (connection_of s.connections seat))
request_touch app s seat (Request.LookupDocument path) given =
    bus_touch app s (Request.LookupDocument path) given (bus_of (connection_of s.connections seat))
request_touch app s seat (Request.Info doc) given =
    bus_touch app s (Request.Info doc) given (bus_of (connection_of s.connections seat))
request_touch app s seat (Request.ListDocuments name) given =
    bus_touch app s (Request.ListDocuments name) given (bus_of (connection_of s.connections seat))
request_touch app s seat (Request.Store call) given =
    bus_touch app s (Request.Store call) given (bus_of (connection_of s.connections seat))

-- what an entry that the application does not make changes of its view, where it is done
abbrev pub touch : List ℕ → State → Entry → List Effect
touch app s e =
    cond (is_done (reply_at s e).answer) (request_touch app s e.seat e.request e.given) []

abbrev pub items_of : List ℕ → State → Entry → List TraceItem
items_of app s e = cond (makes app s e) (item.Own (own_of s e) ∷ []) (map item_of (touch app s e))

abbrev pub items : List ℕ → State → List Entry → List TraceItem
items app s [] = []
items app s (e ∷ es) = items_of app s e ++ items app (after s e) es

pub record Trace : Type 0 where
  pub opening : AppView
  pub items : List TraceItem

abbrev pub trace : List ℕ → State → List Entry → Trace
trace app s h = record { opening = view s app; items = items app s h }

-- ---- what the machine replies to a trace

abbrev pub own_replies : AppView → List TraceItem → List Reply
own_replies v [] = []
own_replies v (item.Own own ∷ more) = (app_step v own).1 ∷ own_replies (app_step v own).0 more
own_replies v (item.Gained d rights holding ∷ more) =
    own_replies (apply v (effect.Gained d rights holding)) more
own_replies v (item.Lost id rights ∷ more) = own_replies (apply v (effect.Lost id rights)) more
own_replies v (item.Gone id ∷ more) = own_replies (apply v (effect.Gone id)) more
own_replies v (item.Bytes path generation content ∷ more) =
    own_replies (apply v (effect.Bytes path generation content)) more
own_replies v (item.Turned path generation content ∷ more) =
    own_replies (apply v (effect.Turned path generation content)) more

abbrev pub app_run : Trace → List Reply
app_run t = own_replies t.opening t.items
