-- Turns, one after another.
use Rattle.std.proofs.Common.{◌≡◌, ℕ, zero, suc, ◌+◌, ◌-◌, ◌^◌, ◌≤◌, ◌⊎◌, min, List, [], ◌∷◌, ◌++◌, Some, inl, inr, true, false, length, replicate, refl, sym, ap, ◌∙◌, subst, arith}
use Rattle.std.specs.Prelude.{slice_get, is_some, Result, Ok, Err, OnErr, OnOk}
use Rattle.std.specs.List.{list_any}
use Rattle.portal_base.specs.declared.limits.Settings.{Settings}
use Rattle.portal_base.specs.Outside.{rises_by}
use Rattle.portal_model.specs.declared.entry.Entry.{Entry}
use Rattle.portal_model.specs.History.{Legal, cost, of_seat, run}
use Rattle.portal_model.specs.Seated.{bound, bound_by, is_open}
use Rattle.portal_model.specs.State.{State}
use Rattle.portal_model.proofs.Histories.{Legal-append, run-append}
use Rattle.portal_model.proofs.SeatLaws.{run-open}
use Rattle.worker_gate.specs.declared.worker.Post.{Post}
use Rattle.worker_gate.specs.declared.worker.WorkEnd.{WorkEnd}
use Rattle.worker_gate.specs.declared.worker.WorkEnd.TheVariants as end
use Rattle.worker_gate.specs.Working.{Hall, Sides}
use Rattle.cost_laws.specs.Totals.{AllAsk}
use Rattle.serve_posts.specs.Posts.{ServesLeft, ServesPosts, ServesTurn, all_unserved, is_left, unserved}
use Rattle.serve_posts.specs.Rounds.{OneTurn, PostAsks, Renewal, ServesAll, Stand, Turns, stand}
use Rattle.serve_posts.proofs.Enough.{none_is_left}
use Rattle.serve_posts.proofs.Places.{is_there, is_within}

-- no seat has an open connection behind a history
abbrev pub AllClosed : State → List Entry → Type 0
AllClosed o log = (n : ℕ) → is_open (run o log) n ≡ false

-- a seat is as open as behind a history that has the same entries of it
pub as_open : (n : ℕ) (o : State) (log base : List Entry) → of_seat n log ≡ of_seat n base → is_open (run o base) n ≡ false → is_open (run o log) n ≡ false
as_open n o log base same closed =
    run-open n log o ∙ (ap (λ (h : List Entry). is_some (bound_by (bound o n) h)) same ∙ (sym (run-open n base o) ∙ closed))

-- renewed or not, none is open that wasn't
pub renewed_closed : (o p : State) (log base : List Entry) → Renewal o log p base → AllClosed o log → AllClosed p base
renewed_closed o p log base (inl h) closed = subst (λ (q : State). AllClosed q base) (sym h.0) (subst (λ (l : List Entry). AllClosed o l) (sym h.1) closed)
renewed_closed o p log base (inr h) closed = subst (λ (q : State). AllClosed q base) (sym h.0) (subst (λ (l : List Entry). AllClosed (run o log) l) (sym h.1) closed)

-- a value is renewed, or as it was
pub renews : {S E : Type 0} (opening : S → State) (entries : S → List Entry) (a b : S) (r : Result (Unit {0}) E)
    → OnOk r (opening b ≡ run (opening a) (entries a)) → OnOk r (entries b ≡ []) → OnErr r (b ≡ a)
    → Renewal (opening a) (entries a) (opening b) (entries b)
renews opening entries a b (Ok x) o e n = inr (o, e)
renews opening entries a b (Err x) o e n = inl (ap opening n, ap entries n)

-- one round more
pub one_round_more : (rounds more next : ℕ) → rounds ≡ rises_by 1 more → next ≡ min (rounds + 1) (2 ^ 64 - 1) → next ≡ rises_by 1 (suc more)
one_round_more rounds more next e f = omega (arith, e, f)

-- what stands at a place of a list, or the list is no longer than that
there_or_past : {X : Type 0} (xs : List X) (k : ℕ) → ((x : X) × (slice_get xs k ≡ Some x)) ⊎ (length xs ≤ k)
there_or_past [] k = inr (omega arith)
there_or_past (x ∷ xs) zero = inl (x, refl)
there_or_past (x ∷ xs) (suc k) = further (there_or_past xs k)
  where
    further : ((y : _) × (slice_get xs k ≡ Some y)) ⊎ (length xs ≤ k) → ((y : _) × (slice_get (x ∷ xs) (suc k) ≡ Some y)) ⊎ (length (x ∷ xs) ≤ suc k)
    further (inl h) = inl h
    further (inr h) = inr (omega (arith, h))

-- what stands at each place of a list of equal items
replicate_at : {X Y : Type 0} (y : Y) (xs : List X) (k : ℕ) (x : X) → slice_get xs k ≡ Some x → slice_get (replicate (length xs) y) k ≡ Some y
replicate_at y [] k x e = absurd (cc)
replicate_at y (z ∷ zs) zero x e = refl
replicate_at y (z ∷ zs) (suc k) x e = replicate_at y zs k x e

module _ {L S K : Type 0} (s : Sides S K) (hall_of : L → Hall S K) (settings : Settings) where
  -- a post's seat is closed behind a turn
  post_closed : (o : State) (base log : List Entry) (n : ℕ) (p q : Post L) (d e : WorkEnd) → ServesLeft s hall_of settings o base log n p d e q → is_open (run o base) n ≡ false → is_open (run o log) n ≡ false
  post_closed o base log n p q (end.Full cost limit) e h closed = h.closed
  post_closed o base log n p q end.Closed e h closed = as_open n o log base h.2 closed
  post_closed o base log n p q end.Failed e h closed = as_open n o log base h.2 closed
  post_closed o base log n p q end.Memory e h closed = as_open n o log base h.2 closed

  -- and so is every other
  pub turn_closed : (o : State) (base log : List Entry) (posts : List (Post L)) (were ends : List WorkEnd) (back : List (Post L)) → ServesTurn s hall_of settings o base log posts were ends back → length were ≡ length posts → AllClosed o base → AllClosed o log
  turn_closed o base log posts were ends back t as_many closed zero = as_open 0 o log base (t.others 0 (inl refl)) (closed 0)
  turn_closed o base log posts were ends back t as_many closed (suc k) = at_place (there_or_past posts k)
    where
      at_place : ((p : Post L) × (slice_get posts k ≡ Some p)) ⊎ (length posts ≤ k) → is_open (run o log) (suc k) ≡ false
      at_place (inr past) = as_open (suc k) o log base (t.others (suc k) (inr (omega (arith, past)))) (closed (suc k))
      at_place (inl p) =
          let within = is_within posts k p.0 p.1 in
          let d = is_there were k (omega (arith, within, as_many)) in
          let e = is_there ends k (omega (arith, within, t.all_ended)) in
          let q = is_there back k (omega (arith, within, t.all_back)) in
          let n : k + 1 ≡ suc k = omega arith in
          let served : ServesLeft s hall_of settings o base log (suc k) p.0 d.0 e.0 q.0 = subst (λ (m : ℕ). ServesLeft s hall_of settings o base log m p.0 d.0 e.0 q.0) n (t.each k p.0 q.0 d.0 e.0 p.1 d.1 e.1 q.1) in
          post_closed o base log (suc k) p.0 q.0 d.0 e.0 served (closed (suc k))

  -- no post is lost
  pub turn_lengths : (a b : Stand L) → OneTurn s hall_of settings a b → (length b.posts ≡ length a.posts) × (length b.ends ≡ length a.posts)
  turn_lengths a b t = (t.1.all_back, t.1.all_ended)

  pub turns_lengths : (more : ℕ) (a b : Stand L) → Turns s hall_of settings more a b → (length b.posts ≡ length a.posts) × (length b.ends ≡ length a.posts)
  turns_lengths zero a b t = turn_lengths a b t
  turns_lengths (suc more) a b t =
      let was = turns_lengths more a t.0 t.3 in
      let is = turn_lengths (stand t.1 t.2 t.0.posts t.0.ends) b t.6 in
      (is.0 ∙ was.0, is.1 ∙ was.0)

  legal_before : (o p : State) (front log : List Entry) → Legal o front → p ≡ run o front → Legal p log → Legal o (front ++ log)
  legal_before o p front log l e m = Legal-append front log o l (subst (λ (q : State). Legal q log) e m)

  -- the front of rounds before a history that was renewed or not
  renewed_front : (o p q : State) (log base front : List Entry) → Renewal p log q base → Legal o (front ++ log) → p ≡ run o front → Legal o front → (more : List Entry) × Legal o more × (q ≡ run o more)
  renewed_front o p q log base front (inl h) whole comes legal = (front, legal, h.0 ∙ comes)
  renewed_front o p q log base front (inr h) whole comes legal = (front ++ log, whole, h.0 ∙ (ap (λ (r : State). run r log) comes ∙ sym (run-append front log o)))

  -- all turns made one legal history
  pub turns_whole : (more : ℕ) (a b : Stand L) → Turns s hall_of settings more a b → (front : List Entry) × Legal a.opening front × Legal a.opening (front ++ b.entries) × (b.opening ≡ run a.opening front)
  turns_whole zero a b t = ([], record { opening = t.1.legal.opening; lawful = tt }, t.1.legal, t.0)
  turns_whole (suc more) a b t =
      let was = turns_whole more a t.0 t.3 in
      let front = renewed_front a.opening t.0.opening t.1 t.0.entries t.2 was.0 t.5 was.2 was.3 was.1 in
      (front.0, front.1, legal_before a.opening t.1 front.0 b.entries front.1 front.2 t.6.1.legal, t.6.0 ∙ front.2)

  -- one turn more
  pub one_turn_more : (more : ℕ) (a c b : Stand L) (o : State) (base : List Entry) → Turns s hall_of settings more a c → list_any is_left c.ends ≡ true → Renewal c.opening c.entries o base → OneTurn s hall_of settings (stand o base c.posts c.ends) b → Turns s hall_of settings (suc more) a b
  one_turn_more more a c b o base t left renewal turn = (c, o, base, t, left, renewal, turn)

  -- before their first turn all posts are left
  pub first_turn : (o : State) (base log : List Entry) (posts : List (Post L)) (ends : List WorkEnd) (back : List (Post L)) → ServesTurn s hall_of settings o base log posts (all_unserved posts) ends back → ServesPosts s hall_of settings o base log posts ends back
  first_turn o base log posts ends back t = record {
    started = t.started;
    legal = t.legal;
    begins = t.begins;
    all_ended = t.all_ended;
    all_back = t.all_back;
    each = λ k p q e at_p at_e at_q. t.each k p q unserved e at_p (replicate_at unserved posts k p at_p) at_e at_q;
    others = t.others;
  }

  once : (more rounds : ℕ) (o : State) (base : List Entry) (posts : List (Post L)) (b : Stand L) → rounds ≡ rises_by 1 more → Turns s hall_of settings more (stand o base posts (all_unserved posts)) b → rounds ≡ 1 → (b.opening ≡ o) × ServesPosts s hall_of settings o base b.entries posts b.ends b.posts
  once zero rounds o base posts b are t one = (t.0, first_turn o base b.entries posts b.ends b.posts t.1)
  once (suc more) rounds o base posts b are t one = absurd (omega (arith, are, one))

  -- where one turn has room for all, there is no second
  no_second : (more : ℕ) (o : State) (base : List Entry) (posts : List (Post L)) (b : Stand L)
      (total : ℕ) → AllAsk (PostAsks s hall_of settings) posts total
      → cost base + total ≤ o.limits.history
      → Turns s hall_of settings (suc more) (stand o base posts (all_unserved posts)) b → ⊥
  no_second zero o base posts b total asks room t =
      none_is_left s hall_of settings o base t.0.entries posts t.0.ends t.0.posts
      (first_turn o base t.0.entries posts t.0.ends t.0.posts t.3.1) total asks room t.4
  no_second (suc more) o base posts b total asks room t =
      no_second more o base posts t.0 total asks room t.3

  enough : (more rounds : ℕ) (o : State) (base : List Entry) (posts : List (Post L)) (b : Stand L)
      → rounds ≡ rises_by 1 more
      → Turns s hall_of settings more (stand o base posts (all_unserved posts)) b
      → (total : ℕ) → AllAsk (PostAsks s hall_of settings) posts total
      → cost base + total ≤ o.limits.history → rounds ≡ 1
  enough zero rounds o base posts b are t total asks room = omega (arith, are)
  enough (suc more) rounds o base posts b are t total asks room =
      absurd (no_second more o base posts b total asks room t)

  pub served_all : (more rounds : ℕ) (o : State) (base : List Entry) (posts : List (Post L)) (b : Stand L) → rounds ≡ rises_by 1 more → Turns s hall_of settings more (stand o base posts (all_unserved posts)) b → list_any is_left b.ends ≡ false → ServesAll s hall_of settings o base posts rounds b
  served_all more rounds o base posts b are t none =
      let whole = turns_whole more (stand o base posts (all_unserved posts)) b t in
      record {
        more = more;
        rounds_are = are;
        turns = t;
        none_left = none;
        front = whole.0;
        legal = whole.2;
        comes = whole.3;
        once = once more rounds o base posts b are t;
        enough = enough more rounds o base posts b are t;
      }
