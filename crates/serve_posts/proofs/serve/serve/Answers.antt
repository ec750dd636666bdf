use Rattle.std.proofs.Common.{◌≡◌, ℕ, List, [], subst}
use Rattle.portal_base.specs.declared.limits.Settings.{Settings}
use Rattle.portal_model.specs.declared.entry.Entry.{Entry}
use Rattle.portal_model.specs.State.{State}
use Rattle.worker_gate.specs.declared.worker.Post.{Post}
use Rattle.worker_gate.specs.Working.{Hall, Sides}
use Rattle.serve_posts.specs.Rounds.{ServesAll, Stand}
use Rattle.serve_posts.proofs.Sends.{portal_parts}
use Rattle.serve_posts.proofs.serve.serve.Goals as goal

pub serve_over-requires-send-S : goal.serve_over-requires-send-S
serve_over-requires-send-S g c κs within =
    let tree = c.type_bounds.send-T in
    let keeper = c.type_bounds.send-K in
    let clock = c.type_bounds.send-C in
    let words = c.type_bounds.send-W in
    search portal_parts depth 60 fits 20000

-- posts that were served over a history that began empty
from_nothing : {L S K : Type 0} {s : Sides S K} {hall_of : L → Hall S K} {settings : Settings} {o : State} {base : List Entry} {posts : List (Post L)} {rounds : ℕ} {b : Stand L} → base ≡ [] → ServesAll s hall_of settings o base posts rounds b → ServesAll s hall_of settings o [] posts rounds b
from_nothing {s = s} {hall_of = hall_of} {settings = settings} {o = o} {posts = posts} {rounds = rounds} {b = b} e x =
    subst (λ (z : List Entry). ServesAll s hall_of settings o z posts rounds b) e x

pub returns-in-Ok-serve_over : goal.returns-in-Ok-serve_over
returns-in-Ok-serve_over g c = record {
  first = c.in-Ok.portal;
  starts = c.in-Ok.ensures.ok;
  serves = from_nothing c.in-Ok.ensures.ok.history c.in-Ok-serve_over.ensures;
}
