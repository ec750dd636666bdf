-- What the requests of an open connection meet.
use Rattle.std.proofs.Common.{◌≡◌, inl, inr, ℕ, true, false, cond, Option, Some, None, refl, sym, ap, ◌∙◌, subst}
use Rattle.std.specs.Option.{option_map}
use Rattle.portal_base.specs.declared.who.Kind.{Kind}
use Rattle.portal_model.specs.declared.entry.Entry.{Entry}
use Rattle.portal_model.specs.declared.entry.Given.{Given}
use Rattle.portal_model.specs.declared.reply.Answer.{Answer}
use Rattle.portal_model.specs.declared.reply.Answer.TheVariants as answer
use Rattle.portal_model.specs.declared.reply.NodeAnswer.{NodeAnswer}
use Rattle.portal_model.specs.declared.reply.NodeAnswer.TheVariants as node
use Rattle.portal_model.specs.declared.reply.Reply.{Reply}
use Rattle.portal_model.specs.declared.request.NodeOp.{NodeOp}
use Rattle.portal_model.specs.declared.request.NodeRequest.{NodeRequest}
use Rattle.portal_model.specs.declared.request.Request.{Request}
use Rattle.portal_model.specs.declared.state.Connection.{Connection}
use Rattle.portal_model.specs.Alike.{AnswersAlike, NodeAlike, ReadsAlike, TellsAlike}
use Rattle.portal_model.specs.Enter.{enter_answer}
use Rattle.portal_model.specs.Errno.{eio}
use Rattle.portal_model.specs.Leave.{leave_answer}
use Rattle.portal_model.specs.Node.{node_given as verdict_given, settled_on_node, walk_on_node}
use Rattle.portal_model.specs.NodeVerdict.{NodeVerdict, Errs, Yields}
use Rattle.portal_model.specs.Seated.{Binding, binding_of, bound}
use Rattle.portal_model.specs.State.{State, connection_of}
use Rattle.portal_model.specs.Step.{all_told, bus_of, bus_step, collect_step, is_mount, mount_of, node_step, reply_at, request_step}
use Rattle.session.specs.declared.act.Client.{Client}
use Rattle.session.specs.Frames.{told_of}
use Rattle.session.specs.Hearing.{Meets}
use Rattle.session.specs.Laws.{MeetsAlike}
use Rattle.session.proofs.CallsAreHeard.{IsHere, answer_heard}
use Rattle.session.proofs.ItemsFit.{Fits}
use Rattle.session.proofs.ServedTraces.{IsAskedAt}

-- ---- a request on a node

-- a frame tells it
abbrev Tells : Answer → Type 0
Tells met = (told : NodeAnswer) × (told_of met ≡ Some told)

-- a refusal on a node is told by its number, and what is done by its answer
settled_tells : (s : State) (c : Connection) (v : Option NodeVerdict) → Tells (settled_on_node s c v).1
settled_tells s c None = (node.Error eio, refl)
settled_tells s c (Some (Errs errno)) = (node.Error errno, refl)
settled_tells s c (Some (Yields d)) = (d.answer, refl)

-- ---- the open connection

enter_done : (o : Option Connection) → option_map binding_of o ≡ None → enter_answer o ≡ answer.Done
enter_done None h = refl
enter_done (Some c) h = absurd (cc)

leave_done : (o : Option Connection) (b : Binding) → option_map binding_of o ≡ Some b → leave_answer o ≡ answer.Done
leave_done None b h = absurd (cc)
leave_done (Some c) b h = refl

kind_is : (c : Connection) (b : Binding) → Some (binding_of c) ≡ Some b → c.kind ≡ b.kind
kind_is c b h = let same : binding_of c ≡ b = cc in ap (λ (z : Binding). z.kind) same

collect_done : (s : State) (o : Option Connection) (b : Binding) → option_map binding_of o ≡ Some b → b.kind ≡ Kind.Bus → (collect_step s (bus_of o)).1.answer ≡ answer.Done
collect_done s None b h k = absurd (cc)
collect_done s (Some c) b h k = ap (λ (z : Kind). (collect_step s (cond (is_mount z) None (Some c))).1.answer) (kind_is c b h ∙ k)

node_told : (s : State) (r : NodeRequest) (given : Given) (o : Option Connection) (b : Binding) → option_map binding_of o ≡ Some b → b.kind ≡ Kind.Mount → Tells (node_step s r given (mount_of o)).1.answer
node_told s r given None b h k = absurd (cc)
node_told s r given (Some c) b h k =
    subst (λ (z : Kind). Tells (node_step s r given (cond (is_mount z) (Some c) None)).1.answer) (sym (kind_is c b h ∙ k)) (settled_tells (all_told c.seat s) c (verdict_given (walk_on_node (all_told c.seat s) c r) given))

bus_heard : (s : State) (r : Request) (given : Given) (o : Option Connection) (b : Binding) → option_map binding_of o ≡ Some b → b.kind ≡ Kind.Bus → IsHere (bus_step s r given (bus_of o)).1.answer
bus_heard s r given None b h k = absurd (cc)
bus_heard s r given (Some c) b h k =
    subst (λ (z : Kind). IsHere (bus_step s r given (cond (is_mount z) None (Some c))).1.answer) (sym (kind_is c b h ∙ k)) (answer_heard (all_told c.seat s) c r given)

-- ---- the step

fits_met : (s : State) (seat : ℕ) (kind : Kind) (request : Request) (given : Given) (b : Binding) → bound s seat ≡ Some b → b.kind ≡ kind → Fits kind request → Meets request (request_step s seat request given).1.answer
fits_met s seat Kind.Mount (Request.Enter who k) given b h is f = absurd f
fits_met s seat Kind.Mount Request.Leave given b h is f = absurd f
fits_met s seat Kind.Mount Request.Collect given b h is f = absurd f
fits_met s seat Kind.Mount (Request.Node r) given b h is f = node_told s r given (connection_of s.connections seat) b h is
fits_met s seat Kind.Mount request given b h is f = absurd f
fits_met s seat Kind.Bus (Request.Enter who k) given b h is f = absurd f
fits_met s seat Kind.Bus Request.Leave given b h is f = absurd f
fits_met s seat Kind.Bus Request.Collect given b h is f = collect_done s (connection_of s.connections seat) b h is
fits_met s seat Kind.Bus (Request.Node r) given b h is f = absurd f
fits_met s seat Kind.Bus (Request.Present path) given b h is f = bus_heard s (Request.Present path) given (connection_of s.connections seat) b h is
fits_met s seat Kind.Bus (Request.Add a) given b h is f = bus_heard s (Request.Add a) given (connection_of s.connections seat) b h is
fits_met s seat Kind.Bus (Request.Grant call) given b h is f = bus_heard s (Request.Grant call) given (connection_of s.connections seat) b h is
fits_met s seat Kind.Bus (Request.Revoke call) given b h is f = bus_heard s (Request.Revoke call) given (connection_of s.connections seat) b h is
fits_met s seat Kind.Bus (Request.DeleteDocument doc) given b h is f = bus_heard s (Request.DeleteDocument doc) given (connection_of s.connections seat) b h is
fits_met s seat Kind.Bus (Request.LookupDocument path) given b h is f = bus_heard s (Request.LookupDocument path) given (connection_of s.connections seat) b h is
fits_met s seat Kind.Bus (Request.Info doc) given b h is f = bus_heard s (Request.Info doc) given (connection_of s.connections seat) b h is
fits_met s seat Kind.Bus (Request.ListDocuments app) given b h is f = bus_heard s (Request.ListDocuments app) given (connection_of s.connections seat) b h is
fits_met s seat Kind.Bus (Request.Store call) given b h is f = bus_heard s (Request.Store call) given (connection_of s.connections seat) b h is

met_by : (c : Client) (s : State) (seat : ℕ) (request : Request) (given : Given) (o : Option Binding) → bound s seat ≡ o → IsAskedAt c o request → Meets request (request_step s seat request given).1.answer
met_by c s seat request given None h a = subst (λ (r : Request). Meets r (request_step s seat r given).1.answer) (sym a) (enter_done (connection_of s.connections seat) h)
met_by c s seat request given (Some b) h (kind, who, inl fits) = fits_met s seat c.kind request given b h kind fits
met_by c s seat request given (Some b) h (kind, who, inr leaves) = subst (λ (r : Request). Meets r (request_step s seat r given).1.answer) (sym leaves) (leave_done (connection_of s.connections seat) b h)

pub met : (c : Client) (s : State) (e : Entry) → IsAskedAt c (bound s e.seat) e.request → Meets e.request (reply_at s e).answer
met c s e a = met_by c s e.seat e.request e.given (bound s e.seat) refl a

-- ---- the replies that are given

told_given : (size : ℕ) (stepped : NodeAnswer) (given : Answer) → TellsAlike size stepped given → Tells given
told_given size (node.Content bytes) given h = (node.Content h.0, ap told_of h.1)
told_given size (node.Entry attr) given h = (node.Entry attr, ap told_of h)
told_given size (node.Attr attr) given h = (node.Attr attr, ap told_of h)
told_given size (node.Opened fh) given h = (node.Opened fh, ap told_of h)
told_given size (node.Created attr fh) given h = (node.Created attr fh, ap told_of h)
told_given size (node.Written written) given h = (node.Written written, ap told_of h)
told_given size (node.Names names offset most) given h = (node.Names names offset most, ap told_of h)
told_given size node.Empty given h = (node.Empty, ap told_of h)
told_given size node.Quiet given h = (node.Quiet, ap told_of h)
told_given size (node.Error errno) given h = (node.Error errno, ap told_of h)
told_given size (node.Init major minor ahead flags background congestion most grain) given h = (node.Init major minor ahead flags background congestion most grain, ap told_of h)
told_given size node.Statfs given h = (node.Statfs, ap told_of h)

read_given : (size : ℕ) (stepped given : Answer) → ReadsAlike size stepped given → Tells stepped → Tells given
read_given size (answer.Node told) given h t = told_given size told given h
read_given size stepped given h t = subst Tells (sym h) t

node_given : (op : NodeOp) (stepped given : Answer) → NodeAlike op stepped given → Tells stepped → Tells given
node_given (NodeOp.Read fh offset size) stepped given h t = read_given size stepped given h t
node_given op stepped given h t = subst Tells (sym h) t

answer_given : (request : Request) (stepped given : Answer) → AnswersAlike request stepped given → Meets request stepped → Meets request given
answer_given (Request.Node r) stepped given h m = node_given r.op stepped given h m
answer_given request stepped given h m = subst (Meets request) (sym h) m

pub meets_alike : MeetsAlike
meets_alike true request stepped given h m = subst (λ (z : Reply). Meets request z.answer) (sym h) m
meets_alike false request stepped given h m = answer_given request stepped.answer given.answer h.1 m
