-- A connection asks what its kind may ask.
use Rattle.std.proofs.Common.{◌≡◌, ℕ, List, [], ◌∷◌, Bool, true, false, Ok, refl, sym, subst}
use Rattle.std.specs.List.{AllByRecursion}
use Rattle.portal_base.specs.declared.who.Kind.{Kind}
use Rattle.portal_model.specs.declared.entry.Entry.{Entry}
use Rattle.portal_model.specs.declared.request.Request.{Request}
use Rattle.dbus_auth.specs.declared.handshake.AuthAnswer.{AuthAnswer}
use Rattle.dbus_auth.specs.declared.handshake.AuthAnswer.TheVariants.{Say, Begin, Early}
use Rattle.dbus_auth.specs.Handshake.{Handshake, step}
use Rattle.dbus_types.specs.declared.message.Message.{Message}
use Rattle.dbus_dispatch.specs.declared.ask.Ask.{Ask}
use Rattle.dbus_dispatch.specs.declared.ask.Ask.TheVariants as ask
use Rattle.dbus_dispatch.specs.Asks.{ask_of}
use Rattle.fuse_wire.specs.declared.request.FuseAsk.{FuseAsk}
use Rattle.fuse_wire.specs.declared.request.FuseAsk.TheVariants as fuse
use Rattle.fuse_wire.specs.Asks.{ask_of as frame_ask_of}
use Rattle.fuse_wire.specs.Frames.{header_of}
use Rattle.call_laws.specs.Answers.{IsOnRecords}
use Rattle.call_laws.proofs.Calls.{calls_on_records}
use Rattle.session.specs.declared.act.Act.{Act}
use Rattle.session.specs.declared.act.Act.TheVariants.{Nothing, Line, Call, Portal, Node, Local}
use Rattle.session.specs.declared.act.Client.{Client}
use Rattle.session.specs.declared.phase.Phase.{Phase}
use Rattle.session.specs.declared.phase.Phase.TheVariants as due
use Rattle.session.specs.Answers.{Outcome}
use Rattle.session.specs.Asked.{Means, act_of_ask, act_of_frame, asked_by, collect_requests, is_host, line_act, reply_to, requests_of}
use Rattle.session.specs.Cuts.{first_phase, line_of, next_phase, phase_behind}
use Rattle.session.specs.Items.{AreItems, phase_after}
use Rattle.session.proofs.ConnectionStaysOpen.{AskOnly, IsPlain, MakesOnly, all-append}
use Rattle.session.proofs.ReadActs.{read_as, same_act}

-- ---- requests

-- on a mount nodes are asked, and on a bus documents and what was not told yet
abbrev pub Fits : Kind → Request → Type 0
Fits Kind.Mount (Request.Node r) = Unit {0}
Fits Kind.Mount request = ⊥
Fits Kind.Bus Request.Collect = Unit {0}
Fits Kind.Bus request = IsOnRecords request

abbrev pub AllFit : Kind → List Request → Type 0
AllFit kind rs = AllByRecursion (Fits kind) rs

pub fits_plain : (kind : Kind) (r : Request) → Fits kind r → IsPlain r
fits_plain Kind.Mount (Request.Enter who k) h = absurd h
fits_plain Kind.Mount Request.Leave h = absurd h
fits_plain Kind.Mount Request.Collect h = absurd h
fits_plain Kind.Mount (Request.Node r) h = tt
fits_plain Kind.Mount request h = absurd h
fits_plain Kind.Bus (Request.Enter who k) h = absurd h
fits_plain Kind.Bus Request.Leave h = absurd h
fits_plain Kind.Bus Request.Collect h = tt
fits_plain Kind.Bus (Request.Node r) h = absurd h
fits_plain Kind.Bus request h = tt

-- ---- items

-- what may be due on a connection of a kind
abbrev Speaks : Kind → Phase → Type 0
Speaks Kind.Mount due.Frames = Unit {0}
Speaks Kind.Bus due.ZeroByte = Unit {0}
Speaks Kind.Bus (due.Handshake h) = Unit {0}
Speaks Kind.Bus due.Messages = Unit {0}
Speaks kind p = ⊥

pub first_speaks : (kind : Kind) → Speaks kind (first_phase kind)
first_speaks Kind.Bus = tt
first_speaks Kind.Mount = tt

behind_speaks : (a : AuthAnswer) (h : Handshake) → Speaks Kind.Bus (phase_behind a h)
behind_speaks (Say reply) h = tt
behind_speaks Begin h = tt
behind_speaks Early h = tt

next_speaks : (kind : Kind) (c : Client) (p : Phase) (item : List ℕ) → Speaks kind p → Speaks kind (next_phase c p item)
next_speaks Kind.Mount c due.ZeroByte item s = absurd s
next_speaks Kind.Mount c (due.Handshake h) item s = absurd s
next_speaks Kind.Mount c due.Messages item s = absurd s
next_speaks Kind.Mount c due.Frames item s = tt
next_speaks Kind.Bus c due.ZeroByte item s = tt
next_speaks Kind.Bus c (due.Handshake h) item s = behind_speaks (step h (line_of item)).0 (step h (line_of item)).1
next_speaks Kind.Bus c due.Messages item s = tt
next_speaks Kind.Bus c due.Frames item s = absurd s

pub after_speaks : (is : List (List ℕ)) (kind : Kind) (c : Client) (p : Phase) → Speaks kind p → Speaks kind (phase_after c p is)
after_speaks [] kind c p s = s
after_speaks (i ∷ is) kind c p s = after_speaks is kind c (next_phase c p i) (next_speaks kind c p i s)

nothing_fits : (kind : Kind) (act : Act) → read_as act ≡ read_as Nothing → AllFit kind (asked_by act)
nothing_fits kind act e = subst (λ (a : Act). AllFit kind (asked_by a)) (sym (same_act act Nothing e)) tt

collects_fit : (b : Bool) → AllFit Kind.Bus (collect_requests b)
collects_fit true = (tt, tt)
collects_fit false = tt

line_fits : (a : AuthAnswer) (act : Act) → Ok act ≡ line_act a → AllFit Kind.Bus (asked_by act)
line_fits (Say reply) act e = subst (λ (a : Act). AllFit Kind.Bus (asked_by a)) (sym (same_act act (Line reply) e)) tt
line_fits Begin act e = nothing_fits Kind.Bus act e
line_fits Early act e = absurd (cc)

-- what a call asks fits a bus
records_fit : (r : Request) → IsOnRecords r → Fits Kind.Bus r
records_fit Request.Collect h = tt
records_fit (Request.Enter who kind) h = h
records_fit Request.Leave h = h
records_fit (Request.Node r) h = h
records_fit (Request.Present path) h = tt
records_fit (Request.Add a) h = tt
records_fit (Request.Grant call) h = tt
records_fit (Request.Revoke call) h = tt
records_fit (Request.DeleteDocument doc) h = tt
records_fit (Request.LookupDocument path) h = tt
records_fit (Request.Info doc) h = tt
records_fit (Request.ListDocuments app) h = tt
records_fit (Request.Store call) h = tt

call_fits : (c : Client) (m : Message) (a : Ask) (act : Act) → ask_of c.settings m ≡ a → Ok act ≡ act_of_ask c m a → AllFit Kind.Bus (asked_by act)
call_fits c m (ask.Local answer) act is e = subst (λ (a : Act). AllFit Kind.Bus (asked_by a)) (sym (same_act act (Call (reply_to m answer) (is_host c.who)) e)) (collects_fit (is_host c.who))
call_fits c m ask.Ignore act is e = nothing_fits Kind.Bus act e
call_fits c m (ask.Portal request) act is e =
    subst (λ (a : Act). AllFit Kind.Bus (asked_by a)) (sym (same_act act (Portal m request) e)) (records_fit request (calls_on_records c.settings m request is), tt)

frame_fits : (unique : ℕ) (a : FuseAsk) (act : Act) → read_as act ≡ read_as (act_of_frame unique a) → AllFit Kind.Mount (asked_by act)
frame_fits unique (fuse.Portal request) act e = subst (λ (a : Act). AllFit Kind.Mount (asked_by a)) (sym (same_act act (Node unique request) e)) (tt, tt)
frame_fits unique (fuse.Local told) act e = subst (λ (a : Act). AllFit Kind.Mount (asked_by a)) (sym (same_act act (Local unique told) e)) tt
frame_fits unique fuse.Ignore act e = nothing_fits Kind.Mount act e

pub act_fits : (kind : Kind) (c : Client) (p : Phase) (item : List ℕ) (act : Act) → Speaks kind p → Means c p item (Ok act) → AllFit kind (asked_by act)
act_fits Kind.Mount c due.ZeroByte item act s h = absurd s
act_fits Kind.Mount c (due.Handshake a) item act s h = absurd s
act_fits Kind.Mount c due.Messages item act s h = absurd s
act_fits Kind.Mount c due.Frames item act s h = frame_fits (header_of item).unique (frame_ask_of item) act h
act_fits Kind.Bus c due.ZeroByte item act s h = nothing_fits Kind.Bus act h
act_fits Kind.Bus c (due.Handshake a) item act s h = line_fits (step a (line_of item)).0 act h
act_fits Kind.Bus c due.Messages item act s h = call_fits c h.0 (ask_of c.settings h.0) act refl h.2
act_fits Kind.Bus c due.Frames item act s h = absurd s

pub items_fit : (is : List (List ℕ)) (kind : Kind) (c : Client) (p : Phase) (acts : List Act) → Speaks kind p → AreItems c p is acts → AllFit kind (requests_of acts)
items_fit [] kind c p acts s h = subst (λ (z : List Act). AllFit kind (requests_of z)) (sym h) tt
items_fit (i ∷ is) kind c p acts s (act, later, e, item, more) =
    subst (λ (z : List Act). AllFit kind (requests_of z)) (sym e)
    (all-append (Fits kind) (asked_by act) (requests_of later) (act_fits kind c p i act s item.1) (items_fit is kind c (next_phase c p i) later (next_speaks kind c p i s) more))

-- ---- entries

abbrev pub EntriesFit : Kind → List Entry → Type 0
EntriesFit kind es = AskOnly (Fits kind) es

-- what is made of requests that fit
abbrev pub MakesFit : Kind → List Outcome → Type 0
MakesFit kind os = MakesOnly (Fits kind) os
