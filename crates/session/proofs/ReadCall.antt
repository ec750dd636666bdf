-- What an item is read as is what it means.
use Rattle.std.proofs.Common.{◌≡◌, ℕ, List, Result, Ok, Err}
use Rattle.dbus_dispatch.specs.declared.ask.Ask.{Ask}
use Rattle.dbus_dispatch.specs.declared.ask.Ask.TheVariants as ask
use Rattle.dbus_dispatch.specs.Asks.{ask_of}
use Rattle.dbus_message.specs.Messages.{IsMessage}
use Rattle.dbus_types.specs.declared.message.Message.{Message}
use Rattle.session.specs.declared.act.Act.{Act}
use Rattle.session.specs.declared.act.Client.{Client}
use Rattle.session.specs.declared.act.ItemError.{ItemError}
use Rattle.session.specs.declared.act.ItemError.TheVariants.{Breaks, Memory}
use Rattle.session.specs.Asked.{MessageMeans, OrMemory, act_of_ask, act_of_message}

-- what a message asks breaks no rule
asks_no_rule : (c : Client) (m : Message) (a : Ask) (rule : ℕ) → Err (Breaks rule) ≡ act_of_ask c m a → ⊥
asks_no_rule c m (ask.Local answer) rule h = absurd cc
asks_no_rule c m ask.Ignore rule h = absurd cc
asks_no_rule c m (ask.Portal request) rule h = absurd cc

pub message_means : (c : Client) (item : List ℕ) (m : Message) (found : Result Act ItemError) → IsMessage item m → OrMemory found (act_of_message c m) → MessageMeans c item found
message_means c item m (Ok act) is h = (m, is, h)
message_means c item m (Err (Breaks rule)) is h = absurd (asks_no_rule c m (ask_of c.settings m) rule h)
message_means c item m (Err Memory) is h = tt
