-- Where the history has room for all that is asked at the posts of a turn, none is left behind it.
use Rattle.std.proofs.Common.{◌≡◌, ℕ, suc, ◌+◌, ◌≤◌, ◌<◌, List, [], ◌∷◌, ◌++◌, Bool, Some, true, false, drop, length, refl, sym, ap, ◌∙◌, subst, arith}
use Rattle.std.specs.Prelude.{slice_get}
use Rattle.std.specs.List.{list_any}
use Rattle.std.proofs.Math.Seq.{drop-append_seam}
use Rattle.std.proofs.lemmas.List.{append-nil}
use Rattle.portal_base.specs.declared.limits.Settings.{Settings}
use Rattle.portal_model.specs.declared.entry.Entry.{Entry}
use Rattle.portal_model.specs.declared.reply.Refused.{Refused}
use Rattle.portal_model.specs.declared.request.Request.{Request}
use Rattle.portal_model.specs.History.{cost, cost_of, of_seat, run}
use Rattle.portal_model.specs.Seated.{Exchange, Seated, exchanges}
use Rattle.portal_model.specs.State.{State}
use Rattle.portal_model.proofs.Histories.{cost-append, of_seat-append}
use Rattle.portal_model.proofs.SeatLaws.{exchanges-append, exchanges-entries}
use Rattle.session.specs.declared.act.Client.{Client}
use Rattle.session.specs.Sessions.{enter}
use Rattle.session.specs.Standings.{client}
use Rattle.worker_gate.specs.declared.worker.Post.{Post}
use Rattle.worker_gate.specs.declared.worker.WorkEnd.{WorkEnd}
use Rattle.worker_gate.specs.declared.worker.WorkEnd.TheVariants as end
use Rattle.worker_gate.specs.Polled.{CausedBy}
use Rattle.worker_gate.specs.Working.{EndsFull, Hall, Sides}
use Rattle.cost_laws.specs.Links.{end_cost}
use Rattle.cost_laws.specs.Seats.{AreOfSeats}
use Rattle.cost_laws.specs.Totals.{AllAsk}
use Rattle.cost_laws.proofs.Links.{workers-cost-as-asked}
use Rattle.cost_laws.proofs.Seats.{seats-cost-all}
use Rattle.cost_laws.proofs.Totals.{seats_within_so}
use Rattle.serve_posts.specs.Posts.{ServesPost, ServesPosts, is_left, newcomer}
use Rattle.serve_posts.specs.Rounds.{PostAsks}
use Rattle.serve_posts.proofs.Places.{is_there, is_within}

-- a post that is left stands at some place
left_at : (ends : List WorkEnd) → list_any is_left ends ≡ true
    → (k : ℕ) × (now : ℕ) × (limit : ℕ) × (slice_get ends k ≡ Some (end.Full now limit))
left_at [] e = absurd (cc)
left_at (end.Full now limit ∷ ends) e = (0, now, limit, refl)
left_at (end.Closed ∷ ends) e = let rest = left_at ends e in (suc rest.0, rest.1, rest.2, rest.3)
left_at (end.Failed ∷ ends) e = let rest = left_at ends e in (suc rest.0, rest.1, rest.2, rest.3)
left_at (end.Memory ∷ ends) e = let rest = left_at ends e in (suc rest.0, rest.1, rest.2, rest.3)

-- what is joined to a list that stays the same is nothing
no_more : (xs ys : List Entry) → xs ++ ys ≡ xs → ys ≡ []
no_more xs ys e = sym (drop-append_seam xs ys)
    ∙ (ap (drop (length xs)) (e ∙ sym (append-nil xs)) ∙ drop-append_seam xs [])

-- a refusal for want of room, wherever it was met, is past what is seen since
caused_past : (polled : Bool) (v w : Seated) (request : Request) (now limit : ℕ)
    → CausedBy polled v w request (Refused.Full now limit)
    → w.opening.limits.history < cost w.seen + cost_of request
caused_past false v w request now limit h =
    let is = h.0 in
    let limited = h.1 in
    let past = h.2 in
    omega (arith, is, limited, past)
caused_past true v w request now limit h =
    let d : Seated = h.0 in
    let is : now ≡ cost d.seen = h.3.0 in
    let limited : limit ≡ d.opening.limits.history = h.3.1 in
    let past : limit < now + cost_of request = h.3.2 in
    let limits : w.opening.limits.history ≡ d.opening.limits.history =
    ap (λ (x : State). x.limits.history) h.2.opening in
    let seen : cost w.seen ≡ cost d.seen + cost h.2.begins.0 =
    ap cost h.2.begins.1 ∙ cost-append d.seen h.2.begins.0 in
    omega (arith, is, limited, past, limits, seen)

module _ {L S K : Type 0} (s : Sides S K) (hall_of : L → Hall S K) (settings : Settings) (o : State)
    (base log : List Entry) where
  abbrev client_of : Post L → Client
  client_of p = client p.who p.kind settings

  -- what is new of a post's seat costs no more than what is asked at the post
  post_within : (more : List Entry) (seat : ℕ) (p q : Post L) (e : WorkEnd) (total : ℕ)
      → log ≡ base ++ more → ServesPost s hall_of settings o base log seat p e q
      → PostAsks s hall_of settings p total
      → cost (of_seat seat more) + end_cost (client_of p) e ≤ total
  post_within more seat p q e total parts h asks =
      let made : List Exchange = exchanges seat (run o base) more in
      let mine : h.last.mine ≡ exchanges seat o base ++ made =
      sym h.mine ∙ (ap (exchanges seat o) parts ∙ exchanges-append seat base more o) in
      let within =
      workers-cost-as-asked s p.polled (client_of p) e (hall_of p.listener) (hall_of q.listener)
      (newcomer o base seat) h.last total made h.works asks mine in
      subst (λ (es : List Entry). cost es + end_cost (client_of p) e ≤ total)
      (exchanges-entries seat more (run o base)) within

  -- where its worker ended since the history had no room, that costs too much for one Enter more
  past_limit : (seat : ℕ) (p q : Post L) (now limit : ℕ)
      → ServesPost s hall_of settings o base log seat p (end.Full now limit) q
      → o.limits.history < cost log + cost_of (enter (client_of p))
  past_limit seat p q now limit h =
      let full : EndsFull p.polled (client_of p) now limit h.works.visits (newcomer o base seat)
      h.last =
      h.works.ends.0 in
      let past =
      caused_past p.polled (newcomer o base seat) h.last (enter (client_of p)) now limit full.cause
      in
      let limits : h.last.opening.limits.history ≡ o.limits.history =
      ap (λ (x : State). x.limits.history) h.works.moved.opening in
      let seen : cost log ≡ cost h.last.seen + cost h.seen.0 =
      ap cost h.seen.1 ∙ cost-append h.last.seen h.seen.0 in
      omega (arith, past, limits, seen)

  module _ (posts : List (Post L)) (ends : List WorkEnd) (back : List (Post L))
      (t : ServesPosts s hall_of settings o base log posts ends back) (total : ℕ)
      (asks : AllAsk (PostAsks s hall_of settings) posts total) where
    -- what is new of other numbers is nothing
    of_seats : AreOfSeats (length posts) t.begins.0
    of_seats n other =
        no_more (of_seat n base) (of_seat n t.begins.0)
        (sym (of_seat-append n base t.begins.0)
        ∙ (ap (of_seat n) (sym t.begins.1) ∙ t.others n other))

    -- what is new of the seat at a place
    at_place : (k : ℕ) (p : Post L) (one : ℕ) → slice_get posts k ≡ Some p
        → PostAsks s hall_of settings p one → cost (of_seat (suc (0 + k)) t.begins.0) ≤ one
    at_place k p one at asked =
        let within = is_within posts k p at in
        let e = is_there ends k (omega (arith, within, t.all_ended)) in
        let q = is_there back k (omega (arith, within, t.all_back)) in
        let both =
        post_within t.begins.0 (k + 1) p q.0 e.0 one t.begins.1
        (t.each k p q.0 e.0 at e.1 q.1) asked in
        let made : cost (of_seat (k + 1) t.begins.0) ≤ one = omega (arith, both) in
        subst (λ (n : ℕ). cost (of_seat n t.begins.0) ≤ one) (omega arith) made

    -- where the worker at a place ended since the history had no room, that is within what is asked,
    -- with one Enter more
    within_limit : (k : ℕ) (p q : Post L) (now limit : ℕ) → slice_get posts k ≡ Some p
        → ServesPost s hall_of settings o base log (k + 1) p (end.Full now limit) q
        → cost log + cost_of (enter (client_of p)) ≤ cost base + total
    within_limit k p q now limit at h =
        let so : (one : ℕ) → PostAsks s hall_of settings p one
        → cost (of_seat (suc (0 + k)) t.begins.0) + cost_of (enter (client_of p)) ≤ one =
        λ one asked. subst
        (λ (n : ℕ). cost (of_seat n t.begins.0) + cost_of (enter (client_of p)) ≤ one)
        (omega arith)
        (post_within t.begins.0 (k + 1) p q (end.Full now limit) one t.begins.1 h asked) in
        let most =
        seats_within_so (PostAsks s hall_of settings) posts k 0 total p t.begins.0
        (cost_of (enter (client_of p))) at asks at_place so in
        let all = seats-cost-all (length posts) t.begins.0 of_seats in
        let whole : cost log ≡ cost base + cost t.begins.0 =
        ap cost t.begins.1 ∙ cost-append base t.begins.0 in
        omega (arith, most, all, whole)

    pub none_is_left : cost base + total ≤ o.limits.history → list_any is_left ends ≡ true → ⊥
    none_is_left room left =
        let full = left_at ends left in
        let within = is_within ends full.0 (end.Full full.1 full.2) full.3 in
        let p = is_there posts full.0 (omega (arith, within, t.all_ended)) in
        let q = is_there back full.0 (omega (arith, within, t.all_ended, t.all_back)) in
        let h = t.each full.0 p.0 q.0 (end.Full full.1 full.2) p.1 full.3 q.1 in
        let past = past_limit (full.0 + 1) p.0 q.0 full.1 full.2 h in
        let fits = within_limit full.0 p.0 q.0 full.1 full.2 p.1 h in
        omega (arith, past, fits, room)
