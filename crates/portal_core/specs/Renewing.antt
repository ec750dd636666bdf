-- How a portal begins a new history, or why it doesn't.
use Rattle.std.specs.Prelude.{◌≡◌, ◌==◌, ℕ, min, nat_le, List, [], true, Option, Some, None}
use Rattle.std.specs.List.{list_all, list_any}
use Rattle.host_tree.specs.Trees.{TreeIs, settled}
use Rattle.portal_model.specs.declared.state.Connection.{Connection}
use Rattle.portal_core.specs.declared.renewal.RenewError.{RenewError}
use Rattle.portal_core.specs.declared.renewal.RenewError.TheVariants.{Open, Memory}
use Rattle.portal_steps.specs.Story.{PortalIs, state_first, state_now}

-- The old history left no connection open, and the new one is empty: it begins in the state that
-- the old one came to. The files that the tree tells are those that it began with now, and the
-- other devices are as they were.
pub record Renews {T K C W : Type 0} (tree_is : T → TreeIs) (old new : PortalIs T K C W)
    : Type 0 where
  pub closed : (state_now old.story).connections ≡ []
  pub opening : state_first new.story ≡ state_now old.story
  pub history : new.story.history ≡ []
  pub tree : tree_is new.tree ≡ settled (tree_is old.tree)
  pub began : new.story.began ≡ (tree_is new.tree).began
  pub keeper_kept : new.keeper ≡ old.keeper
  pub clock_kept : new.clock ≡ old.clock
  pub words_kept : new.words ≡ old.words
  pub refusals_kept : new.refusals ≡ old.refusals

-- a connection of this seat is there, and none of a lesser one
pub record IsLeastSeat (connections : List Connection) (seat : ℕ) : Type 0 where
  pub there : list_any (λ c. c.seat == seat) connections ≡ true
  pub least : list_all (λ c. nat_le seat c.seat) connections ≡ true

-- why no new history begins: a connection is open, of which the least seat is told, or memory was
-- wanted where none is
abbrev pub CannotRenew : List Connection → RenewError → Type 0
CannotRenew connections (Open seat) = IsLeastSeat connections seat
CannotRenew connections Memory = connections ≡ []

-- the lesser of a seat, where there is one, and that of a connection
abbrev pub lesser : Option ℕ → Connection → Option ℕ
lesser None c = Some c.seat
lesser (Some seat) c = Some (min seat c.seat)
