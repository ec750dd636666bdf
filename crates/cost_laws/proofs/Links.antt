-- What a worker made costs no more than what the links ask.
use Rattle.std.proofs.Common.{◌≡◌, ℕ, ◌+◌, ◌≤◌, List, [], ◌∷◌, ◌++◌, map, Bool, Option, Some, refl, sym, ap, ◌∙◌, subst, arith}
use Rattle.std.proofs.lemmas.List.Sums.{sum_by-append}
use Rattle.std.proofs.lemmas.List.{map-append}
use Rattle.portal_model.specs.declared.entry.Entry.{Entry}
use Rattle.portal_model.specs.History.{cost, cost_of}
use Rattle.portal_model.specs.Seated.{Exchange, Seated}
use Rattle.session.specs.declared.act.Client.{Client}
use Rattle.session.specs.declared.served.Served.TheVariants as served
use Rattle.session.specs.Sessions.{enter}
use Rattle.worker_gate.specs.declared.listener.Link.{Link}
use Rattle.worker_gate.specs.declared.worker.WorkEnd.{WorkEnd}
use Rattle.worker_gate.specs.declared.worker.WorkEnd.TheVariants as end
use Rattle.worker_gate.specs.Listening.{Links}
use Rattle.worker_gate.specs.Working.{EndsFull, Hall, Passes, ServesLink, ServesLinks, Sides, Visit, Works, joined, spring_of, visit, world_of}
use Rattle.cost_laws.specs.Links.{LinkAsks, WorkersCostAsAsked, end_cost}
use Rattle.cost_laws.specs.Streams.{made_cost, refused_cost}
use Rattle.cost_laws.specs.Totals.{AllAsk}
use Rattle.cost_laws.proofs.Streams.{polled-cost-as-asked, same_back}
use Rattle.cost_laws.proofs.Totals.{first_ask}

made-append : (xs ys : List Exchange) → made_cost (xs ++ ys) ≡ made_cost xs + made_cost ys
made-append xs ys =
    ap cost (map-append (λ (x : Exchange). x.entry) xs ys)
    ∙ sum_by-append (λ (e : Entry). cost_of e.request) (map (λ (x : Exchange). x.entry) xs)
    (map (λ (x : Exchange). x.entry) ys)

module _ {S K : Type 0} (s : Sides S K) (polled : Bool) (c : Client) where
  link_within : (given : Link S K) (v : Seated) (x : Visit) (back : Link S K) (w : Seated)
      (total : ℕ) → ServesLink s polled c given v x back w → LinkAsks s c given total
      → made_cost x.made + refused_cost c x.ended ≤ total
  link_within given v x back w total h (stream, told, asks) =
      polled-cost-as-asked polled c x.ended (spring_of s given) (spring_of s back) (world_of s v given)
      (world_of s w back) stream total x.made h.serves told asks h.mine

  -- what came of links: what was made, and each Enter that was refused
  abbrev visits_cost : List Visit → ℕ
  visits_cost [] = 0
  visits_cost (x ∷ visits) = (made_cost x.made + refused_cost c x.ended) + visits_cost visits

  links_within : (given : List (Link S K)) (visits : List Visit) (back : List (Link S K))
      (v w : Seated) (total : ℕ) → ServesLinks s polled c given v visits back w
      → AllAsk (LinkAsks s c) given total → visits_cost visits ≤ total
  links_within [] [] [] v w total h asks = omega arith
  links_within (g ∷ given) (x ∷ visits) (b ∷ back) v w total h (first, others, one, more, is) =
      let here = link_within g v x b h.0 first h.1 one in
      let rest = links_within given visits back h.0 w others h.2 more in
      omega (arith, here, rest, is)
  links_within [] [] (b ∷ back) v w total h asks = absurd h
  links_within [] (x ∷ visits) back v w total h asks = absurd h
  links_within (g ∷ given) [] back v w total h asks = absurd h
  links_within (g ∷ given) (x ∷ visits) [] v w total h asks = absurd h

  -- what was made of them alone
  made_within : (visits : List Visit) → made_cost (joined visits) ≤ visits_cost visits
  made_within [] = omega arith
  made_within (x ∷ visits) =
      let both = made-append x.made (joined visits) in
      let rest = made_within visits in
      omega (arith, both, rest)

  -- and where Enter of one of them was refused
  full_within : (before : List Visit) (now limit : ℕ) (made : List Exchange)
      → cost_of (enter c) + made_cost (joined (before ++ visit (served.Full now limit) made ∷ []))
      ≤ visits_cost (before ++ visit (served.Full now limit) made ∷ [])
  full_within [] now limit made =
      let both = made-append made [] in
      let none : made_cost [] ≡ 0 = refl in
      omega (arith, both, none)
  full_within (x ∷ before) now limit made =
      let both = made-append x.made (joined (before ++ visit (served.Full now limit) made ∷ [])) in
      let rest = full_within before now limit made in
      omega (arith, both, rest)

  ends_within : (ended : WorkEnd) (a b : Hall S K) (v w : Seated) (h : Works s polled c ended a v b w)
      → made_cost (joined h.visits) + end_cost c ended ≤ visits_cost h.visits
  ends_within (end.Full now limit) a b v w h =
      let full : EndsFull polled c now limit h.visits v w = h.ends.0 in
      let within : cost_of (enter c) + made_cost (joined h.visits) ≤ visits_cost h.visits =
      subst (λ (z : List Visit). cost_of (enter c) + made_cost (joined z) ≤ visits_cost z)
      (sym full.last) (full_within full.before now limit full.made) in
      omega (arith, within)
  ends_within end.Closed a b v w h = let made = made_within h.visits in omega (arith, made)
  ends_within end.Failed a b v w h = let made = made_within h.visits in omega (arith, made)
  ends_within end.Memory a b v w h = let made = made_within h.visits in omega (arith, made)

pub workers-cost-as-asked : {S K : Type 0} → WorkersCostAsAsked S K
workers-cost-as-asked s polled c ended a b v w total made h (told, is, asks) mine =
    let passes : Passes (Some told) h.given h.back b.links =
    subst (λ (o : Option (Links _ _)). Passes o h.given h.back b.links) is h.passes in
    let front =
    first_ask (LinkAsks s c) h.given passes.0 total
    (subst (λ (z : List (Link _ _)). AllAsk (LinkAsks s c) z total) passes.1 asks) in
    let all = links_within s polled c h.given h.visits h.back v w front.0 h.serves front.1 in
    let ends = ends_within s polled c ended a b v w h in
    let same : made_cost made ≡ made_cost (joined h.visits) =
    ap made_cost (same_back v.mine made (joined h.visits) (sym mine ∙ h.mine)) in
    let least = front.2 in
    omega (arith, all, ends, same, least)
