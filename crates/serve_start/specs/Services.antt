-- What a service of some words stands on, before it is served.
use Rattle.std.specs.Prelude.{◌≡◌, ℕ, List, map, Option}
use Rattle.host_tree.specs.Trees.{TreeIs}
use Rattle.portal_base.specs.declared.limits.Settings.{Settings}
use Rattle.portal_start.specs.Loading.{BeganFirst}
use Rattle.serve_words.specs.declared.words.ServeWords.{ServeWords}
use Rattle.worker_gate.specs.declared.worker.Post.{Post}
use Rattle.serve_start.specs.Guids.{DrawsGuid}
use Rattle.serve_start.specs.Posts.{ListenAt, bound_of, paths_of, posts_of}
use Rattle.serve_start.specs.Settings.{settings_with}
use Rattle.serve_start.specs.Sockets.{sockets_in}

module _ {L T W : Type 0} (at : L → List ℕ → Type 0) (tree_is : T → TreeIs)
    (told : W → Option (List ℕ)) where
  -- At the path of each socket that the words ask for, in order, so many posts listen as they say,
  -- bound as the socket is, and polled where they ask for it. The tree is as it began, with first
  -- files alone. The guid was drawn of the words, and the settings are those of the history's limit
  -- and the guid.
  pub record IsService (words : ServeWords) (posts : List (Post L)) (tree : T) (drawn : W)
      (settings : Settings) : Type 0 where
    pub bound : map bound_of posts
        ≡ posts_of words.workers words.polled (sockets_in words.sockets words.apps)
    pub listen : ListenAt at posts (paths_of words.workers (sockets_in words.sockets words.apps))
    pub began : (tree_is tree).told ≡ (tree_is tree).began
    pub first : BeganFirst (tree_is tree).began
    pub seed : W
    pub draws : DrawsGuid (told seed) settings.guid (told drawn)
    pub settings_are : settings ≡ settings_with words.history settings.guid
