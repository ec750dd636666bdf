-- What the requests of items cost the history.
use Rattle.std.proofs.Common.{◌≡◌, ℕ, ◌+◌, ◌*◌, ◌-◌, ◌^◌, ◌≤◌, min, List, [], ◌∷◌, ◌++◌, length, drop, Bool, true, false, Result, Ok, refl, sym, subst, ap, ◌∙◌, arith, length-append}
use Rattle.std.specs.Prelude.{nat_lt, if◌then◌else◌}
use Rattle.std.specs.List.{sum_by}
use Rattle.std.proofs.lemmas.Bool.Decides.{nat_tests}
use Rattle.std.proofs.lemmas.List.{length-drop}
use Rattle.std.proofs.lemmas.List.Sums.{sum_by-append, sum_by-cons}
use Rattle.dbus_auth.specs.declared.handshake.AuthAnswer.{AuthAnswer}
use Rattle.dbus_auth.specs.declared.handshake.AuthAnswer.TheVariants.{Say, Begin, Early}
use Rattle.dbus_auth.specs.Handshake.{step}
use Rattle.call_laws.proofs.Costs.{call_costs}
use Rattle.dbus_message.specs.Messages.{IsMessage, IsSplit}
use Rattle.dbus_dispatch.specs.Asks.{ask_of}
use Rattle.dbus_dispatch.specs.declared.ask.Ask.{Ask}
use Rattle.dbus_dispatch.specs.declared.ask.Ask.TheVariants as ask
use Rattle.dbus_types.specs.declared.message.Message.{Message}
use Rattle.fuse_wire.specs.Asks.{ask_of as frame_ask_of}
use Rattle.fuse_wire.specs.Frames.{split_of, header_of, is_bad_len}
use Rattle.fuse_wire.specs.declared.request.FuseAsk.{FuseAsk}
use Rattle.fuse_wire.specs.declared.request.FuseAsk.TheVariants as fuse
use Rattle.portal_base.specs.declared.split.Split.{Split}
use Rattle.portal_base.specs.declared.split.Split.TheVariants.{More, Bad, Whole}
use Rattle.portal_model.specs.declared.request.NodeRequest.{NodeRequest}
use Rattle.portal_model.specs.declared.request.Request.{Request}
use Rattle.portal_model.specs.declared.request.Request.TheVariants as request
use Rattle.portal_model.specs.History.{cost_of, node_bytes}
use Rattle.session.specs.declared.act.Act.{Act}
use Rattle.session.specs.declared.act.Act.TheVariants.{Nothing, Line, Call, Portal, Node, Local}
use Rattle.session.specs.declared.act.Client.{Client}
use Rattle.session.specs.declared.act.ItemError.{ItemError}
use Rattle.session.specs.declared.phase.Phase.{Phase}
use Rattle.session.specs.declared.phase.Phase.TheVariants as due
use Rattle.session.specs.Asked.{act_of_ask, act_of_frame, asked_by, collect_requests, is_host, line_act, reply_to, requests_of}
use Rattle.session.proofs.FramesCarry.{Carries, frame_carries}
use Rattle.session.proofs.ReadActs.{read_as, same_act}
use Rattle.session.specs.Cuts.{cut_of, line_of, next_phase, whole_item}
use Rattle.session.specs.Items.{AreItems, IsItem, joined}
use Rattle.session.specs.Laws.{CostLittle}

-- what requests cost
abbrev pub costs : List Request → ℕ
costs rs = sum_by cost_of rs

pub costs-append : (rs qs : List Request) → costs (rs ++ qs) ≡ costs rs + costs qs
costs-append rs qs = sum_by-append cost_of rs qs

-- ---- what an item asks costs at most eight times its length

min_left : (a b : ℕ) → min a b ≤ a
min_left a b = omega arith

node_cost : (r : NodeRequest) (n : ℕ) → node_bytes r.op ≤ n → cost_of (request.Node r) ≤ 128 + n
node_cost r n h = let least = min_left (128 + node_bytes r.op) (2 ^ 64 - 1) in omega arith

collect_cost : (b : Bool) → costs (collect_requests b) ≤ 128
collect_cost true = omega arith
collect_cost false = omega arith

same_costs : (act other : Act) → read_as act ≡ read_as other → costs (asked_by other) ≤ 128 → costs (asked_by act) ≤ 128
same_costs act other e h = let is : act ≡ other = cc in subst (λ (a : Act). costs (asked_by a) ≤ 128) (sym is) h

one_cost : (r : Request) (n : ℕ) → cost_of r ≤ n → costs (r ∷ []) ≤ n
one_cost r n h = let sum = sum_by-cons cost_of r [] in omega arith

call_cost : (c : Client) (i : List ℕ) (m : Message) (a : Ask) (act : Act) → IsMessage i m → 16 ≤ length i → ask_of c.settings m ≡ a → Ok act ≡ act_of_ask c m a → costs (asked_by act) ≤ 8 * length i
call_cost c i m (ask.Local answer) act read long is e = let most = same_costs act (Call (reply_to m answer) (is_host c.who)) e (collect_cost (is_host c.who)) in omega arith
call_cost c i m ask.Ignore act read long is e = let most = same_costs act Nothing e (omega arith) in omega arith
call_cost c i m (ask.Portal r) act read long is e =
    subst (λ (a : Act). costs (asked_by a) ≤ 8 * length i) (sym (same_act act (Portal m r) e)) (one_cost r (8 * length i) (call_costs c.settings i m r read is))

-- a frame asks one request, which carries no more than the bytes behind its header
frame_cost : (unique n : ℕ) (a : FuseAsk) (act : Act) → Carries n a → read_as act ≡ read_as (act_of_frame unique a) → costs (asked_by act) ≤ 128 + n
frame_cost unique n (fuse.Portal r) act h e = subst (λ (x : Act). costs (asked_by x) ≤ 128 + n) (sym (same_act act (Node unique r) e)) (one_cost (request.Node r) (128 + n) (node_cost r n h))
frame_cost unique n (fuse.Local told) act h e = let most = same_costs act (Local unique told) e (omega arith) in omega arith
frame_cost unique n fuse.Ignore act h e = let most = same_costs act Nothing e (omega arith) in omega arith

-- a message has at least 16 bytes, a frame 40
whole_message : (split : Split) (i : List ℕ) (n : ℕ) → IsSplit i split → whole_item n ≡ cut_of split → 16 ≤ length i
whole_message More i n h e = absurd (cc)
whole_message (Whole len) i n h e = h.0
whole_message (Bad rule) i n h e = absurd (cc)

short_frame : (i : List ℕ) → nat_lt (length i) 40 ≡ true → split_of i ≡ More
short_frame i h = ap (λ (b : Bool). if b then More else if is_bad_len (header_of i).len then Bad 14 else if nat_lt (length i) (header_of i).len then More else Whole (header_of i).len) h

not_more : (split : Split) (n : ℕ) → split ≡ More → whole_item n ≡ cut_of split → ⊥
not_more More n s e = cc
not_more (Whole len) n s e = cc
not_more (Bad rule) n s e = cc

whole_frame : (b : Bool) (i : List ℕ) (n : ℕ) → nat_lt (length i) 40 ≡ b → whole_item n ≡ cut_of (split_of i) → 40 ≤ length i
whole_frame true i n h e = absurd (not_more (split_of i) n (short_frame i h) e)
whole_frame false i n h e = grind (arith, nat_tests)

line_asks : (answer : AuthAnswer) (act : Act) → Ok act ≡ line_act answer → asked_by act ≡ []
line_asks (Say reply) act e = let is : act ≡ Line reply = cc in ap asked_by is
line_asks Begin act e = let is : act ≡ Nothing = cc in ap asked_by is
line_asks Early act e = absurd (cc)

zero_asks : (act : Act) (found : Result Act ItemError) → found ≡ Ok act → found ≡ Ok Nothing → asked_by act ≡ []
zero_asks act found e h = let is : act ≡ Nothing = cc in ap asked_by is

free : (rs : List Request) (n : ℕ) → rs ≡ [] → costs rs ≤ n
free rs n h = let none = ap costs h in omega arith

pub item_cost : (p : Phase) (c : Client) (i : List ℕ) (act : Act) → IsItem c p i act → costs (asked_by act) ≤ 8 * length i
item_cost due.ZeroByte c i act h = free (asked_by act) (8 * length i) (zero_asks act (Ok act) refl h.1)
item_cost (due.Handshake a) c i act h = free (asked_by act) (8 * length i) (line_asks (step a (line_of i)).0 act h.1)
item_cost due.Messages c i act h = call_cost c i h.1.0 (ask_of c.settings h.1.0) act h.1.1 (whole_message h.0.0 i (length i) h.0.1 h.0.2) refl h.1.2
item_cost due.Frames c i act h =
    let long = whole_frame (nat_lt (length i) 40) i (length i) refl h.0 in
    let most = frame_cost (header_of i).unique (length (drop 40 i)) (frame_ask_of i) act (frame_carries i) h.1 in
    let body = length-drop 40 i in
    omega arith

pub items_cost : (is : List (List ℕ)) (c : Client) (p : Phase) (acts : List Act) → AreItems c p is acts → costs (requests_of acts) ≤ 8 * length (joined is)
items_cost [] c p acts h = free (requests_of acts) 0 (ap requests_of h)
items_cost (i ∷ is) c p acts (act, later, acts_are, item, more) =
    let one = item_cost p c i act item in
    let others = items_cost is c (next_phase c p i) later more in
    let both : costs (requests_of acts) ≡ costs (asked_by act) + costs (requests_of later) = ap (λ (z : List Act). costs (requests_of z)) acts_are ∙ costs-append (asked_by act) (requests_of later) in
    let bytes = length-append i (joined is) in
    omega arith

pub cost_little : CostLittle
cost_little c p items acts h = items_cost items c p acts h
