-- Turns over one history after another.
use Rattle.std.specs.Prelude.{◌≡◌, ◌⊎◌, ℕ, zero, suc, ◌+◌, ◌≤◌, List, [], ◌++◌, true, false}
use Rattle.std.specs.List.{list_any}
use Rattle.portal_base.specs.declared.limits.Settings.{Settings}
use Rattle.portal_base.specs.Outside.{rises_by}
use Rattle.portal_model.specs.declared.entry.Entry.{Entry}
use Rattle.portal_model.specs.History.{Legal, cost, run}
use Rattle.portal_model.specs.State.{State}
use Rattle.session.specs.Standings.{client}
use Rattle.cost_laws.specs.Links.{HallAsks}
use Rattle.cost_laws.specs.Totals.{AllAsk}
use Rattle.serve_posts.specs.Posts.{ServesPosts, ServesTurn, all_unserved, is_left}
use Rattle.worker_gate.specs.declared.worker.Post.{Post}
use Rattle.worker_gate.specs.declared.worker.WorkEnd.{WorkEnd}
use Rattle.worker_gate.specs.Working.{Hall, Sides}

-- how things stand between two turns: the state that the history began in, and its entries; the
-- posts, and how the last worker of each ended
pub record Stand (L : Type 0) : Type 0 where
  pub opening : State
  pub entries : List Entry
  pub posts : List (Post L)
  pub ends : List WorkEnd

abbrev pub stand : {L : Type 0} → State → List Entry → List (Post L) → List WorkEnd → Stand L
stand opening entries posts ends = record {
  opening = opening;
  entries = entries;
  posts = posts;
  ends = ends;
}

-- a history is as it was, or begins anew in the state that it came to
abbrev pub Renewal : State → List Entry → State → List Entry → Type 0
Renewal o log p base = ((p ≡ o) × (base ≡ log)) ⊎ ((p ≡ run o log) × (base ≡ []))

module _ {L S K : Type 0} (s : Sides S K) (hall_of : L → Hall S K) (settings : Settings) where
  -- one turn, from how things stood to how they stand
  abbrev pub OneTurn : Stand L → Stand L → Type 0
  OneTurn a b = (b.opening ≡ a.opening)
      × ServesTurn s hall_of settings a.opening a.entries b.entries a.posts a.ends b.ends b.posts

  -- One turn and so many more. Ahead of each of these a post was left, and the history was as the
  -- turn before left it, or began anew.
  abbrev pub Turns : ℕ → Stand L → Stand L → Type 0
  Turns zero a b = OneTurn a b
  Turns (suc more) a b = (c : Stand L) × (o : State) × (base : List Entry) × Turns more a c
      × (list_any is_left c.ends ≡ true) × Renewal c.opening c.entries o base
      × OneTurn (stand o base c.posts c.ends) b

  -- The listener of a post tells its links to come, their sources tell their bytes, and what all of
  -- them ask costs so much together.
  abbrev pub PostAsks : Post L → ℕ → Type 0
  PostAsks p total = HallAsks s (client p.who p.kind settings) (hall_of p.listener) total

  -- Posts were served, in so many turns, until none was left. All turns together made one legal
  -- history, of which the last part is the last history. Where one turn was enough, that served
  -- each post; and one is enough where the history has room for all that is asked at all posts.
  pub record ServesAll (o : State) (base : List Entry) (posts : List (Post L)) (rounds : ℕ)
      (b : Stand L) : Type 0 where
    pub more : ℕ
    pub rounds_are : rounds ≡ rises_by 1 more
    pub turns : Turns more (stand o base posts (all_unserved posts)) b
    pub none_left : list_any is_left b.ends ≡ false
    pub front : List Entry
    pub legal : Legal o (front ++ b.entries)
    pub comes : b.opening ≡ run o front
    pub once : rounds ≡ 1 → (b.opening ≡ o)
        × ServesPosts s hall_of settings o base b.entries posts b.ends b.posts
    pub enough : (total : ℕ) → AllAsk PostAsks posts total
        → cost base + total ≤ o.limits.history → rounds ≡ 1
