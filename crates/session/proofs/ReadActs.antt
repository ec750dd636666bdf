-- What is read of an item that asks the portal by a call is what the call asks.
use Rattle.std.proofs.Common.{◌≡◌, ℕ, List, Result, Ok, refl, sym, subst}
use Rattle.dbus_auth.specs.declared.handshake.AuthAnswer.{AuthAnswer}
use Rattle.dbus_auth.specs.declared.handshake.AuthAnswer.TheVariants.{Say, Begin, Early}
use Rattle.dbus_auth.specs.Handshake.{step}
use Rattle.dbus_dispatch.specs.Asks.{ask_of}
use Rattle.dbus_dispatch.specs.declared.ask.Ask.{Ask}
use Rattle.dbus_dispatch.specs.declared.ask.Ask.TheVariants as ask
use Rattle.dbus_types.specs.declared.message.Message.{Message}
use Rattle.fuse_wire.specs.Asks.{ask_of as frame_ask_of}
use Rattle.fuse_wire.specs.Frames.{header_of}
use Rattle.fuse_wire.specs.declared.request.FuseAsk.{FuseAsk}
use Rattle.fuse_wire.specs.declared.request.FuseAsk.TheVariants as fuse
use Rattle.session.specs.Asked.{Means, act_of_ask, act_of_frame, is_host, line_act, reply_to}
use Rattle.session.specs.Cuts.{line_of}
use Rattle.session.specs.declared.act.Act.{Act}
use Rattle.session.specs.declared.act.Act.TheVariants.{Nothing, Line, Call, Portal, Node, Local}
use Rattle.session.specs.declared.act.Client.{Client}
use Rattle.session.specs.declared.act.ItemError.{ItemError}
use Rattle.session.specs.declared.phase.Phase.{Phase}
use Rattle.session.specs.declared.phase.Phase.TheVariants as due

abbrev pub read_as : Act → Result Act ItemError
read_as act = Ok act

pub same_act : (a b : Act) → read_as a ≡ read_as b → a ≡ b
same_act a b e = cc

-- a call asks the portal what dispatch says
abbrev pub AsksAsRead : Client → Act → Type 0
AsksAsRead c Nothing = Unit {0}
AsksAsRead c (Line reply) = Unit {0}
AsksAsRead c (Call reply collects) = Unit {0}
AsksAsRead c (Portal call request) = ask_of c.settings call ≡ ask.Portal request
AsksAsRead c (Node unique request) = Unit {0}
AsksAsRead c (Local unique told) = Unit {0}

by_act : (c : Client) (act other : Act) → read_as act ≡ read_as other → AsksAsRead c other → AsksAsRead c act
by_act c act other e h = subst (AsksAsRead c) (sym (same_act act other e)) h

line_asks : (c : Client) (answer : AuthAnswer) (act : Act) → Ok act ≡ line_act answer → AsksAsRead c act
line_asks c (Say reply) act e = by_act c act (Line reply) e tt
line_asks c Begin act e = by_act c act Nothing e tt
line_asks c Early act e = absurd (cc)

call_asks : (c : Client) (m : Message) (a : Ask) (act : Act) → ask_of c.settings m ≡ a → Ok act ≡ act_of_ask c m a → AsksAsRead c act
call_asks c m (ask.Local answer) act is e = by_act c act (Call (reply_to m answer) (is_host c.who)) e tt
call_asks c m ask.Ignore act is e = by_act c act Nothing e tt
call_asks c m (ask.Portal request) act is e = by_act c act (Portal m request) e is

frame_asks : (c : Client) (unique : ℕ) (a : FuseAsk) (act : Act) → read_as act ≡ read_as (act_of_frame unique a) → AsksAsRead c act
frame_asks c unique (fuse.Portal r) act e = by_act c act (Node unique r) e tt
frame_asks c unique (fuse.Local told) act e = by_act c act (Local unique told) e tt
frame_asks c unique fuse.Ignore act e = by_act c act Nothing e tt

pub read_asks : (c : Client) (p : Phase) (item : List ℕ) (act : Act) → Means c p item (Ok act) → AsksAsRead c act
read_asks c due.ZeroByte item act h = by_act c act Nothing h tt
read_asks c (due.Handshake a) item act h = line_asks c (step a (line_of item)).0 act h
read_asks c due.Messages item act h = call_asks c h.0 (ask_of c.settings h.0) act refl h.2
read_asks c due.Frames item act h = frame_asks c (header_of item).unique (frame_ask_of item) act h
