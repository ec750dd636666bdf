-- From workers in their seats to posts that were served.
use Rattle.std.proofs.Common.{◌≡◌, ℕ, zero, suc, ◌+◌, ◌≤◌, ◌<◌, List, Some, true, false, length, map, refl, sym, ap, ◌∙◌, subst, arith}
use Rattle.std.specs.Prelude.{slice_get, if◌then◌else◌, is_some, ◌==◌}
use Rattle.std.proofs.lemmas.List.{length-map}
use Rattle.atomic_table.specs.Seated.{TableId}
use Rattle.portal_base.specs.declared.limits.Settings.{Settings}
use Rattle.portal_model.specs.declared.entry.Entry.{Entry}
use Rattle.portal_model.specs.History.{of_seat, run}
use Rattle.portal_model.specs.Seated.{BeginsWith, bound, bound_by, exchanges, is_open, state_seen}
use Rattle.portal_model.proofs.SeatLaws.{run-open}
use Rattle.portal_model.specs.State.{State}
use Rattle.session.specs.Standings.{client}
use Rattle.turn_desk.specs.Deals.{AreAll, IsDealt, IsPassOf, Stands}
use Rattle.turn_desk.specs.Knowing.{View, fresh}
use Rattle.turn_desk.specs.Sights.{Sight, Stays, seated_of}
use Rattle.turn_desk.specs.Staying.{stays_put}
use Rattle.turn_desk.proofs.Fronts.{entries-same}
use Rattle.worker_gate.specs.declared.worker.Post.{Post}
use Rattle.worker_gate.specs.declared.worker.WorkEnd.{WorkEnd}
use Rattle.worker_gate.specs.declared.worker.WorkEnd.TheVariants as end
use Rattle.worker_gate.specs.Working.{Hall, Sides, Works}
use Rattle.serve_posts.specs.Posts.{Attends, AttendsLeft, RestsPost, ServesLeft, ServesPost, is_left, newcomer, sat_down}
use Rattle.serve_posts.proofs.Places.{at_map, map_at, is_there, is_within, one_there}

-- what sits down with a pass
pub sits : (p r : Sight) → r.table ≡ p.table → r.knows ≡ p.knows → r.refusals ≡ 0 → r ≡ sat_down p
sits p r table knows refusals =
    ap (λ (t : TableId). seen t r.knows r.refusals) table ∙ (ap (λ (v : View). seen p.table v r.refusals) knows ∙ ap (λ (n : ℕ). seen p.table p.knows n) refusals)
  where
    seen : TableId → View → ℕ → Sight
    seen t v n = record { table = t; knows = v; refusals = n }

-- what is known once a pass sits down is what a newcomer knows
pub sits_down : (z : TableId) (o : State) (base : List Entry) (made n : ℕ) (d a : Sight) → IsDealt z o base made n d → sat_down d ≡ a → (a.table ≡ z) × (a.knows ≡ fresh n o base made) × (a.refusals ≡ 0)
sits_down z o base made n d a dealt e = (ap (λ (x : Sight). x.table) (sym e) ∙ dealt.table_is, ap (λ (x : Sight). x.knows) (sym e) ∙ dealt.view_is, ap (λ (x : Sight). x.refusals) (sym e))

pub is_newcomer : (o : State) (base : List Entry) (made n : ℕ) (a : Sight) → a.knows ≡ fresh n o base made → a.refusals ≡ 0 → seated_of a ≡ newcomer o base n
is_newcomer o base made n a k r = cc

-- no seat that sits down has an open connection, where none has one in the history at the start
pub starts_closed : {X : Type 0} (z : TableId) (o : State) (base : List Entry) (seats : ℕ) (passes : List Sight) (desk_of : X → Sight) (ws : List X) → map desk_of ws ≡ map sat_down passes → ((k : ℕ) (p : Sight) → slice_get passes k ≡ Some p → IsDealt z o base (if k == 0 then seats else 0) (k + 1) p) → ((n : ℕ) → is_open (run o base) n ≡ false) → (k : ℕ) (a : X) → slice_get ws k ≡ Some a → is_open (state_seen (seated_of (desk_of a))) (desk_of a).knows.number ≡ false
starts_closed z o base seats passes desk_of ws are dealt closed k a at =
    let there : slice_get (map sat_down passes) k ≡ Some (desk_of a) = ap (λ (xs : List Sight). slice_get xs k) (sym are) ∙ map_at desk_of ws k a at in
    let found = at_map sat_down passes k (desk_of a) there in
    let down = sits_down z o base (if k == 0 then seats else 0) (k + 1) found.0 (desk_of a) (dealt k found.0 found.1) found.2 in
    subst (λ (v : View). is_open (run v.opening v.seen) v.number ≡ false) (sym down.1) (closed (k + 1))

-- a seat that has no open connection has none in a history either that has the same entries of it
still_closed : (n : ℕ) (o : State) (log seen : List Entry) → exchanges n o log ≡ exchanges n o seen → is_open (run o seen) n ≡ false → is_open (run o log) n ≡ false
still_closed n o log seen same closed =
    run-open n log o
    ∙ (ap (λ (h : List Entry). is_some (bound_by (bound o n) h)) (entries-same n o log seen same)
    ∙ (sym (run-open n seen o) ∙ closed))

-- the same of a seat in the last history of a turn
closed_there : (n : ℕ) (o : State) (log : List Entry) (v : View) → v.number ≡ n → v.opening ≡ o → exchanges v.number v.opening v.seen ≡ v.mine → exchanges v.number o log ≡ v.mine → is_open (run v.opening v.seen) v.number ≡ false → is_open (run o log) n ≡ false
closed_there n o log v number opening known mine closed =
    let seen : exchanges v.number o v.seen ≡ v.mine = subst (λ (p : State). exchanges v.number p v.seen ≡ v.mine) opening known in
    let ended : is_open (run o v.seen) v.number ≡ false = subst (λ (p : State). is_open (run p v.seen) v.number ≡ false) opening closed in
    subst (λ (i : ℕ). is_open (run o log) i ≡ false) number (still_closed v.number o log v.seen (mine ∙ sym seen) ended)

module _ {L S K : Type 0} (s : Sides S K) (hall_of : L → Hall S K) (settings : Settings) where
  -- at a post that isn't left nothing is done
  pub rests : (p : Post L) (was : WorkEnd) (a : Sight) → is_left was ≡ false → AttendsLeft s hall_of settings p was a was p a
  rests p (end.Full cost limit) a other = absurd (cc)
  rests p end.Closed a other = (refl, refl, refl)
  rests p end.Failed a other = (refl, refl, refl)
  rests p end.Memory a other = (refl, refl, refl)

  pub attends : (p q : Post L) (was e : WorkEnd) (a b : Sight) → is_left was ≡ true → Attends s hall_of settings p a e q b → AttendsLeft s hall_of settings p was a e q b
  attends p q (end.Full cost limit) e a b left h = h
  attends p q end.Closed e a b left h = absurd (cc)
  attends p q end.Failed e a b left h = absurd (cc)
  attends p q end.Memory e a b left h = absurd (cc)

  -- whether it did anything or not, it is in the same seat of the same turn
  pub stays_so : (p q : Post L) (was e : WorkEnd) (a b : Sight) → AttendsLeft s hall_of settings p was a e q b → Stays a b
  stays_so p q (end.Full cost limit) e a b h = h.stays
  stays_so p q end.Closed e a b h = subst (Stays a) (sym h.2) (stays_put a)
  stays_so p q end.Failed e a b h = subst (Stays a) (sym h.2) (stays_put a)
  stays_so p q end.Memory e a b h = subst (Stays a) (sym h.2) (stays_put a)

module _ {L S K X : Type 0} (s : Sides S K) (hall_of : L → Hall S K) (settings : Settings) (post_of : X → Post L) (desk_of : X → Sight) (end_of : X → WorkEnd) where
  -- one post, whose worker came back with a pass that stands
  pub one_served : (z : TableId) (o : State) (base log : List Entry) (made n : ℕ) (d r a b : Sight) (p q : Post L) (e : WorkEnd) → IsDealt z o base made n d → sat_down d ≡ a → Attends s hall_of settings p a e q b → r.knows ≡ b.knows → Stands o log r.knows → ServesPost s hall_of settings o base log n p e q
  one_served z o base log made n d r a b p q e dealt sits attends same stands =
      let down = sits_down z o base made n d a dealt sits in
      let new : seated_of a ≡ newcomer o base n = is_newcomer o base made n a down.1 down.2 in
      let number : b.knows.number ≡ n = attends.stays.seat.number ∙ ap (λ (v : View). v.number) down.1 in
      let opening : b.knows.opening ≡ o = attends.stays.seat.opening ∙ ap (λ (v : View). v.opening) down.1 in
      let mine : exchanges b.knows.number o log ≡ b.knows.mine = subst (λ (v : View). exchanges v.number o log ≡ v.mine) same stands.mine in
      record {
        who = attends.who;
        kind = attends.kind;
        polled = attends.polled;
        last = seated_of b;
        works = subst (λ v. Works s p.polled (client p.who p.kind settings) e (hall_of p.listener) v (hall_of q.listener) (seated_of b)) new attends.works;
        known = attends.known;
        seen = subst (λ (v : View). BeginsWith log v.seen) same stands.seen;
        mine = subst (λ (i : ℕ). exchanges i o log ≡ b.knows.mine) number mine;
        closed = closed_there n o log b.knows number opening attends.known.mine mine attends.closed;
      }

  -- one post that isn't left
  one_rests : (z : TableId) (o : State) (base log : List Entry) (made n : ℕ) (d r a b : Sight) (p q : Post L) (was e : WorkEnd) → IsDealt z o base made n d → sat_down d ≡ a → (e ≡ was) × (q ≡ p) × (b ≡ a) → r.knows ≡ b.knows → Stands o log r.knows → RestsPost base log n p was e q
  one_rests z o base log made n d r a b p q was e dealt sits rests same stands =
      let down = sits_down z o base made n d a dealt sits in
      let knows : r.knows ≡ fresh n o base made = same ∙ (ap (λ (x : Sight). x.knows) rests.2 ∙ down.1) in
      let mine : exchanges n o log ≡ exchanges n o base = subst (λ (v : View). exchanges v.number o log ≡ v.mine) knows stands.mine in
      (rests.0, rests.1, entries-same n o log base mine)

  -- one post, left or not
  pub one_turned : (z : TableId) (o : State) (base log : List Entry) (made n : ℕ) (d r a b : Sight) (p q : Post L) (was e : WorkEnd) → IsDealt z o base made n d → sat_down d ≡ a → AttendsLeft s hall_of settings p was a e q b → r.knows ≡ b.knows → Stands o log r.knows → ServesLeft s hall_of settings o base log n p was e q
  one_turned z o base log made n d r a b p q (end.Full cost limit) e dealt sits h same stands = one_served z o base log made n d r a b p q e dealt sits h same stands
  one_turned z o base log made n d r a b p q end.Closed e dealt sits h same stands = one_rests z o base log made n d r a b p q end.Closed e dealt sits h same stands
  one_turned z o base log made n d r a b p q end.Failed e dealt sits h same stands = one_rests z o base log made n d r a b p q end.Failed e dealt sits h same stands
  one_turned z o base log made n d r a b p q end.Memory e dealt sits h same stands = one_rests z o base log made n d r a b p q end.Memory e dealt sits h same stands

  -- each worker did its work, from where it sat down to where it got up
  pub record Worked (z : TableId) (o : State) (base : List Entry) (seats : ℕ) (posts : List (Post L)) (were : List WorkEnd) (passes : List Sight) (ws vs : List X) (returned : List Sight) : Type 0 where
    pub posts_are : map post_of ws ≡ posts
    pub ends_are : map end_of ws ≡ were
    pub seats_are : map desk_of ws ≡ map sat_down passes
    pub dealt : (k : ℕ) (p : Sight) → slice_get passes k ≡ Some p → IsDealt z o base (if k == 0 then seats else 0) (k + 1) p
    pub count : length vs ≡ length ws
    pub number : length ws ≡ seats
    pub each : (k : ℕ) (a b : X) → slice_get ws k ≡ Some a → slice_get vs k ≡ Some b → AttendsLeft s hall_of settings (post_of a) (end_of a) (desk_of a) (end_of b) (post_of b) (desk_of b)
    pub tables : map (λ (p : Sight). p.table) returned ≡ map (λ (v : X). (desk_of v).table) vs
    pub knows : map (λ (p : Sight). p.knows) returned ≡ map (λ (v : X). (desk_of v).knows) vs

  -- the pass that a worker sat down with
  pub its_pass : (z : TableId) (o : State) (base : List Entry) (seats : ℕ) (posts : List (Post L)) (were : List WorkEnd) (passes : List Sight) (ws vs : List X) (returned : List Sight) → Worked z o base seats posts were passes ws vs returned → (k : ℕ) (a : X) → slice_get ws k ≡ Some a → (d : Sight) × IsDealt z o base (if k == 0 then seats else 0) (k + 1) d × (sat_down d ≡ desk_of a)
  its_pass z o base seats posts were passes ws vs returned w k a at =
      let there : slice_get (map sat_down passes) k ≡ Some (desk_of a) = ap (λ (xs : List Sight). slice_get xs k) (sym w.seats_are) ∙ map_at desk_of ws k a at in
      let found = at_map sat_down passes k (desk_of a) there in
      (found.0, w.dealt k found.0 found.1, found.2)

  -- the pass that it brought back
  pub its_return : (z : TableId) (o : State) (base : List Entry) (seats : ℕ) (posts : List (Post L)) (were : List WorkEnd) (passes : List Sight) (ws vs : List X) (returned : List Sight) → Worked z o base seats posts were passes ws vs returned → (k : ℕ) (b : X) → slice_get vs k ≡ Some b → (r : Sight) × (slice_get returned k ≡ Some r) × (r.knows ≡ (desk_of b).knows)
  its_return z o base seats posts were passes ws vs returned w k b at =
      let there : slice_get (map (λ (p : Sight). p.knows) returned) k ≡ Some (desk_of b).knows = ap (λ (xs : List View). slice_get xs k) w.knows ∙ map_at (λ (v : X). (desk_of v).knows) vs k b at in
      at_map (λ (p : Sight). p.knows) returned k (desk_of b).knows there

  pub all_served : (z : TableId) (o : State) (base log : List Entry) (seats : ℕ) (posts : List (Post L)) (were : List WorkEnd) (passes : List Sight) (ws vs : List X) (returned : List Sight) (ends : List WorkEnd) (back : List (Post L)) → Worked z o base seats posts were passes ws vs returned → back ≡ map post_of vs → ends ≡ map end_of vs → ((k : ℕ) (p : Sight) → slice_get returned k ≡ Some p → Stands o log p.knows) → (k : ℕ) (p q : Post L) (d e : WorkEnd) → slice_get posts k ≡ Some p → slice_get were k ≡ Some d → slice_get ends k ≡ Some e → slice_get back k ≡ Some q → ServesLeft s hall_of settings o base log (k + 1) p d e q
  all_served z o base log seats posts were passes ws vs returned ends back w backs ended stands k p q d e at_p at_d at_e at_q =
      let first = at_map post_of ws k p (ap (λ (xs : List (Post L)). slice_get xs k) w.posts_are ∙ at_p) in
      let was = at_map end_of ws k d (ap (λ (xs : List WorkEnd). slice_get xs k) w.ends_are ∙ at_d) in
      let last = at_map post_of vs k q (ap (λ (xs : List (Post L)). slice_get xs k) (sym backs) ∙ at_q) in
      let how = at_map end_of vs k e (ap (λ (xs : List WorkEnd). slice_get xs k) (sym ended) ∙ at_e) in
      let same : how.0 ≡ last.0 = one_there vs k how.0 last.0 how.1 last.1 in
      let ends_so : end_of last.0 ≡ e = ap end_of (sym same) ∙ how.2 in
      let first_same : was.0 ≡ first.0 = one_there ws k was.0 first.0 was.1 first.1 in
      let was_so : end_of first.0 ≡ d = ap end_of (sym first_same) ∙ was.2 in
      let pass = its_pass z o base seats posts were passes ws vs returned w k first.0 first.1 in
      let return = its_return z o base seats posts were passes ws vs returned w k last.0 last.1 in
      let did = w.each k first.0 last.0 first.1 last.1 in
      let did_so : AttendsLeft s hall_of settings p d (desk_of first.0) e q (desk_of last.0) =
      subst (λ (x : Post L). AttendsLeft s hall_of settings x d (desk_of first.0) e q (desk_of last.0)) first.2
      (subst (λ (x : Post L). AttendsLeft s hall_of settings (post_of first.0) d (desk_of first.0) e x (desk_of last.0)) last.2
      (subst (λ (x : WorkEnd). AttendsLeft s hall_of settings (post_of first.0) d (desk_of first.0) x (post_of last.0) (desk_of last.0)) ends_so
      (subst (λ (x : WorkEnd). AttendsLeft s hall_of settings (post_of first.0) x (desk_of first.0) (end_of last.0) (post_of last.0) (desk_of last.0)) was_so did))) in
      one_turned z o base log (if k == 0 then seats else 0) (k + 1) pass.0 return.0 (desk_of first.0) (desk_of last.0) p q d e pass.1 pass.2 did_so return.2 (stands k return.0 return.1)

  -- the first seat's pass knows how many there are
  all_given : (k seats : ℕ) → k + 1 ≡ 1 → (if k == 0 then seats else 0) ≡ seats
  all_given zero seats e = refl
  all_given (suc k) seats e = absurd (omega (arith, e))

  pub all_back : (z : TableId) (o : State) (base : List Entry) (seats : ℕ) (posts : List (Post L)) (were : List WorkEnd) (passes : List Sight) (ws vs : List X) (returned : List Sight) → Worked z o base seats posts were passes ws vs returned → AreAll z seats returned
  all_back z o base seats posts were passes ws vs returned w = record { each = each; all = all }
    where
      long : length returned ≡ length vs
      long = sym (length-map returned (λ (p : Sight). p.table)) ∙ (ap length w.tables ∙ length-map vs (λ (v : X). (desk_of v).table))

      -- what stands of the pass at a place
      is_of : (k : ℕ) (p : Sight) → slice_get returned k ≡ Some p → (p.table ≡ z) × (p.knows.number ≡ k + 1) × (p.knows.made ≡ (if k == 0 then seats else 0))
      is_of k p at =
          let table = at_map (λ (v : X). (desk_of v).table) vs k p.table (ap (λ (xs : List TableId). slice_get xs k) (sym w.tables) ∙ map_at (λ (r : Sight). r.table) returned k p at) in
          let know = at_map (λ (v : X). (desk_of v).knows) vs k p.knows (ap (λ (xs : List View). slice_get xs k) (sym w.knows) ∙ map_at (λ (r : Sight). r.knows) returned k p at) in
          let same : know.0 ≡ table.0 = one_there vs k know.0 table.0 know.1 table.1 in
          let within = is_within returned k p at in
          let first = is_there ws k (omega (arith, within, long, w.count)) in
          let pass = its_pass z o base seats posts were passes ws vs returned w k first.0 first.1 in
          let did = stays_so s hall_of settings (post_of first.0) (post_of table.0) (end_of first.0) (end_of table.0) (desk_of first.0) (desk_of table.0) (w.each k first.0 table.0 first.1 table.1) in
          let down = sits_down z o base (if k == 0 then seats else 0) (k + 1) pass.0 (desk_of first.0) pass.1 pass.2 in
          let knows : (desk_of table.0).knows ≡ p.knows = ap (λ (x : X). (desk_of x).knows) (sym same) ∙ know.2 in (
            sym table.2 ∙ (did.table ∙ down.0),
            ap (λ (v : View). v.number) (sym knows) ∙ (did.seat.number ∙ ap (λ (v : View). v.number) down.1),
            ap (λ (v : View). v.made) (sym knows) ∙ (did.seat.made ∙ ap (λ (v : View). v.made) down.1),
          )

      each : (k : ℕ) (p : Sight) → slice_get returned k ≡ Some p → IsPassOf z seats p
      each k p at =
          let is = is_of k p at in
          record { table_is = is.0; all_given = λ one. is.2 ∙ all_given k seats (sym is.1 ∙ one) }

      all : (n : ℕ) → 1 ≤ n → n ≤ seats → (k : ℕ) × (p : Sight) × (slice_get returned k ≡ Some p) × (p.knows.number ≡ n)
      all zero l m = absurd (omega (arith, l))
      all (suc k) l m =
          let found = is_there returned k (omega (arith, m, long, w.count, w.number)) in
          let is = is_of k found.0 found.1 in
          (k, found.0, found.1, is.1 ∙ omega arith)
