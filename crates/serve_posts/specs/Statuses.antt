-- What serving posts came to.
use Rattle.std.specs.Prelude.{ℕ, List, []}
use Rattle.host_tree.specs.Trees.{TreeIs}
use Rattle.portal_base.specs.declared.limits.Settings.{Settings}
use Rattle.portal_core.specs.Started.{HandsBack, Starts}
use Rattle.portal_steps.specs.Story.{PortalIs, state_first}
use Rattle.record_keeper.specs.Keepers.{KeeperIs}
use Rattle.serve_posts.specs.declared.status.ServeStatus.{ServeStatus}
use Rattle.serve_posts.specs.declared.status.ServeStatus.TheVariants as status
use Rattle.serve_posts.specs.Rounds.{ServesAll, stand}
use Rattle.worker_gate.specs.declared.worker.Post.{Post}
use Rattle.worker_gate.specs.declared.worker.WorkEnd.{WorkEnd}
use Rattle.worker_gate.specs.Working.{Hall, Sides}

module _ {L S I T K C W : Type 0} (s : Sides S I) (hall_of : L → Hall S I) (tree_is : T → TreeIs)
    (keeper_is : K → KeeperIs) (posts : List (Post L)) (tree : T) (keeper : K) (clock : C)
    (words : W) (settings : Settings) where
  -- A portal was started over the devices, and the posts were served over its history, in so many
  -- rounds. It comes back with the history of the last.
  pub record Ends (back : List (Post L)) (ends : List WorkEnd) (portal : PortalIs T K C W)
      (rounds : ℕ) : Type 0 where
    pub first : PortalIs T K C W
    pub starts : Starts tree_is keeper_is tree keeper clock words settings.limits first
    pub serves : ServesAll s hall_of settings (state_first first.story) [] posts rounds
        (stand (state_first portal.story) portal.story.history back ends)

  -- The posts were served; no portal started, for its cause, and the devices come back; or there
  -- was no memory.
  abbrev pub ServesAs : ServeStatus L T K C W → Type 0
  ServesAs (status.Ended back ends portal rounds) = Ends back ends portal rounds
  ServesAs (status.Refused refusal) =
      HandsBack keeper_is tree keeper clock words settings.limits refusal
  ServesAs status.Memory = Unit {0}
