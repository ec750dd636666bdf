-- What running a service comes to.
use Rattle.std.specs.Prelude.{◌≡◌, ◌⊎◌, ℕ, List, Option, false}
use Rattle.host_tree.specs.Trees.{TreeIs}
use Rattle.portal_base.specs.declared.limits.Settings.{Settings}
use Rattle.record_keeper.specs.Keepers.{KeeperIs}
use Rattle.serve_posts.specs.declared.status.ServeStatus.{ServeStatus}
use Rattle.serve_posts.specs.Statuses.{ServesAs}
use Rattle.serve_words.specs.declared.words.ServeWords.{ServeWords}
use Rattle.serve_words.specs.Form.{are_taken, found_in}
use Rattle.serve_words.specs.Words.{AsksFor, IsFaulty}
use Rattle.worker_gate.specs.declared.worker.Post.{Post}
use Rattle.worker_gate.specs.Working.{Hall, Sides}
use Rattle.serve_start.specs.declared.end.ServeEnd.{ServeEnd}
use Rattle.serve_start.specs.declared.end.ServeEnd.TheVariants as ends
use Rattle.serve_start.specs.declared.obey.Obeyed.{Obeyed}
use Rattle.serve_start.specs.declared.obey.Obeyed.TheVariants as obeyed
use Rattle.serve_start.specs.declared.run.ServeRun.{ServeRun}
use Rattle.serve_start.specs.declared.run.ServeRun.TheVariants as run
use Rattle.serve_start.specs.Openings.{Refuses}
use Rattle.serve_start.specs.Services.{IsService}
use Rattle.serve_start.specs.Statuses.{EndsStatus}

module _ {L S I T K W : Type 0} (C : Type 0) (s : Sides S I) (hall_of : L → Hall S I)
    (at : L → List ℕ → Type 0) (tree_is : T → TreeIs) (keeper_is : K → KeeperIs)
    (told : W → Option (List ℕ)) (words : ServeWords) where
  -- the posts and the devices of a service of these words were served, and this came of it
  pub record Serves (status : ServeStatus L T K C W) : Type 0 where
    pub posts : List (Post L)
    pub tree : T
    pub keeper : K
    pub clock : C
    pub drawn : W
    pub settings : Settings
    pub service : IsService at tree_is told words posts tree drawn settings
    pub serves : ServesAs s hall_of tree_is keeper_is posts tree keeper clock drawn settings status

  -- An opening was refused, which was counted, or there was no memory; or a service of these words
  -- was served, and nothing was refused.
  abbrev pub RunsAs : ℕ → ServeRun L T K C W → ℕ → Type 0
  RunsAs old (run.Refused end) new = Refuses old end new
  RunsAs old (run.Served status) new = Serves status × (new ≡ old)

  -- a service of these words ended so: it was refused, or what serving it came to is this end
  abbrev pub EndsSo : ℕ → ServeEnd → ℕ → Type 0
  EndsSo old end new = Refuses old end new
      ⊎ ((status : ServeStatus L T K C W) × Serves status × EndsStatus status end × (new ≡ old))

abbrev pub IsUsage : ServeEnd → Type 0
IsUsage (ends.Usage why) = Unit {0}
IsUsage end = ⊥

-- What the words behind `serve` came to: a text that they ask for; a usage, where they are faulty;
-- no memory to read them; or how a service of what they ask for ended.
module _ {L S I T K W : Type 0} (C : Type 0) (s : Sides S I) (hall_of : L → Hall S I)
    (at : L → List ℕ → Type 0) (tree_is : T → TreeIs) (keeper_is : K → KeeperIs)
    (told : W → Option (List ℕ)) (texts : List (List ℕ)) where
  abbrev pub EndsWords : ℕ → ServeEnd → ℕ → Type 0
  EndsWords old end new = (IsUsage end × IsFaulty texts × (new ≡ old))
      ⊎ (((end ≡ ends.Memory) × (new ≡ old))
      ⊎ ((words : ServeWords) × AsksFor (found_in texts) words
      × EndsSo C s hall_of at tree_is keeper_is told words old end new))

  abbrev pub Obeys : ℕ → Obeyed → ℕ → Type 0
  Obeys old (obeyed.Told text) new = (are_taken texts ≡ false) × (new ≡ old)
  Obeys old (obeyed.Ended end) new = EndsWords old end new
