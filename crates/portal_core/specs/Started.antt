-- How a portal starts: with the records that its keeper loads, or not at all.
use Rattle.std.specs.Prelude.{◌≡◌, []}
use Rattle.host_tree.specs.Trees.{TreeIs}
use Rattle.portal_base.specs.declared.limits.Limits.{Limits}
use Rattle.portal_model.specs.declared.opening.OpeningState.{OpeningState}
use Rattle.record_keeper.specs.Keepers.{KeeperIs}
use Rattle.portal_start.specs.Loading.{LoadsBadly, LoadsGood}
use Rattle.portal_steps.specs.Story.{PortalIs}
use Rattle.portal_start.specs.declared.start.StartRefusal.{StartRefusal}

-- the portal that started has these devices, of which only the keeper was asked, and no history
pub record Starts {T K C W : Type 0} (tree_is : T → TreeIs) (keeper_is : K
    → KeeperIs) (tree : T) (keeper : K) (clock : C) (words : W) (limits : Limits)
    (portal : PortalIs T K C W) : Type 0 where
  pub tree_kept : portal.tree ≡ tree
  pub clock_kept : portal.clock ≡ clock
  pub words_kept : portal.words ≡ words
  pub began : portal.story.began ≡ (tree_is tree).began
  pub loaded : LoadsGood limits (keeper_is keeper) portal.story.opening (keeper_is portal.keeper)
  pub history : portal.story.history ≡ []
  pub refusals : portal.refusals ≡ 0

-- no portal started, for this cause; the devices come back, of which only the keeper was asked
pub record HandsBack {T K C W : Type 0} (keeper_is : K → KeeperIs) (tree : T) (keeper : K)
    (clock : C) (words : W) (limits : Limits) (refusal : StartRefusal T K C W) : Type 0 where
  pub tree_kept : refusal.tree ≡ tree
  pub clock_kept : refusal.clock ≡ clock
  pub words_kept : refusal.words ≡ words
  pub cause : LoadsBadly limits (keeper_is keeper) refusal.error (keeper_is refusal.keeper)

-- The portal has these devices, of which none was asked, opens with this state, has no history, and
-- took no memory ahead.
abbrev pub reopened : {T K C W : Type 0} → (T → TreeIs) → T → K → C → W → OpeningState
    → PortalIs T K C W
reopened tree_is tree keeper clock words opening = record {
  tree = tree;
  keeper = keeper;
  clock = clock;
  words = words;
  story = record { began = (tree_is tree).began; opening = opening; history = [] };
  spare = 0;
  refusals = 0;
}
