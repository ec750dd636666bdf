-- Polls, one after another.
use Rattle.std.proofs.Common.{◌≡◌, ℕ, ◌+◌, List, [], ◌++◌, length, Bool, Option, Some, None, refl, sym, ap, ◌∙◌, subst, arith}
use Rattle.std.proofs.lemmas.List.{append-nil}
use Rattle.portal_base.specs.Outside.{behind}
use Rattle.futures.specs.declared.task.Poll.{Poll}
use Rattle.futures.specs.declared.task.Poll.TheVariants as poll
use Rattle.session.specs.declared.served.Served.{Served}
use Rattle.session.specs.Items.{joined, phase_after}
use Rattle.poll_laws.specs.declared.course.Turn.{Turn}
use Rattle.poll_laws.specs.Courses.{Around, Outside, Sight, Standing, met_by, place_of}
use Rattle.poll_laws.specs.Polls.{Deeds, IsHeld, IsStill, IsWhole, Meets, Polls, Runs, followed_by}
use Rattle.poll_laws.specs.Laws.{Comes, Does, Join, Whole}
use Rattle.poll_laws.proofs.Endings.{IsSame, meets_after, meets_none, meets_same_on}
use Rattle.poll_laws.proofs.Joining.{behind_none, order_on, runs_on, with_none}

-- ---- once an ending is met

module _ (t : Standing) (w : Sight) (e : Deeds) (x : Standing) (y : Sight) (b : Runs t w e x y) (m : Served) (is : met_by t.turn ≡ Some m) where
  stilled : IsStill e m (met_by x.turn)
  stilled = b.still m is

  left_is : x.left ≡ t.left
  left_is =
      sym (sym (with_none t.left e.read stilled.read)
      ∙ (b.bytes
      ∙ (ap (λ (z : List (List ℕ)). joined z ++ (x.left ++ e.passed)) stilled.items
      ∙ with_none x.left e.passed stilled.passed)))

  rest_is : b.rest ≡ t.unsent
  rest_is =
      sym (sym (append-nil t.unsent)
      ∙ (ap (λ (z : List (List ℕ)). t.unsent ++ joined z) (sym stilled.pieces)
      ∙ (b.output ∙ ap (λ (z : List ℕ). z ++ b.rest) stilled.written)))

  pub is_same : IsSame m t w x y
  is_same = record {
    client = b.client;
    phase = b.phase ∙ ap (phase_after t.client t.stage.phase) stilled.items;
    before = b.before ∙ (ap (λ (z : List (List ℕ)). t.before + length (joined z)) stilled.items ∙ omega arith);
    left = left_is;
    unsent = λ h. sym (b.whole (subst IsWhole (sym stilled.stays) h)).0 ∙ rest_is;
    source = behind_none y.left ∙ (ap (λ (z : List ℕ). behind z y.left) (sym stilled.read) ∙ sym b.came_in);
    counted = b.counted;
  }

-- ---- two runs

module _ (s : Standing) (v : Sight) (d : Deeds) (t : Standing) (w : Sight) (e : Deeds) (x : Standing) (y : Sight) (a : Does s v d t w) (b : Does t w e x y) where
  -- where no ending was met in between
  later : (o : Option Served) → met_by t.turn ≡ None → Meets None o x w y e.passed e.came → Meets (met_by s.turn) o x v y (e.passed ++ d.passed) (d.came ++ e.came)
  later None none h = meets_none (met_by s.turn) x v y (e.passed ++ d.passed) (d.came ++ e.came)
  later (Some f) none h =
      let held : d.passed ≡ [] = a.runs.held (subst IsHeld (sym none) tt) in
      meets_after (met_by s.turn) f x v w y e.passed (e.passed ++ d.passed) d.came e.came a.runs.counted (with_none e.passed d.passed held) h

  -- where one was met
  earlier : (m : Served) → met_by t.turn ≡ Some m → Meets (met_by s.turn) (met_by x.turn) x v y (e.passed ++ d.passed) (d.came ++ e.came)
  earlier m is =
      let still = b.runs.still m is in
      let first : Meets (met_by s.turn) (Some m) t v w d.passed d.came = subst (λ (o : Option Served). Meets (met_by s.turn) o t v w d.passed d.came) is a.meets in
      subst (λ (o : Option Served). Meets (met_by s.turn) o x v y (e.passed ++ d.passed) (d.came ++ e.came)) (sym still.stays)
      (meets_same_on (met_by s.turn) m t v w x y d.passed (e.passed ++ d.passed) d.came e.came (is_same t w e x y b.runs m is) (ap (λ (z : List ℕ). z ++ d.passed) still.passed) first)

  meets_by : (o : Option Served) → met_by t.turn ≡ o → Meets (met_by s.turn) (met_by x.turn) x v y (e.passed ++ d.passed) (d.came ++ e.came)
  meets_by None none = later (met_by x.turn) none (subst (λ (o : Option Served). Meets o (met_by x.turn) x w y e.passed e.came) none b.meets)
  meets_by (Some m) is = earlier m is

  does_on : Does s v (followed_by d e) x y
  does_on = record { runs = runs_on s v d t w e x y a.runs b.runs; order = order_on s v d t w e x y a.order b.order; meets = meets_by (met_by t.turn) refl }

pub join : Join
join s v d t w e x y a b = does_on s v d t w e x y a b

pub whole : Whole
whole c v d t w e h over = record {
  last = h.runs.last;
  rest = h.runs.rest;
  client = h.runs.client;
  around = subst (λ (z : Turn). Around c Outside d.came d.outcomes (place_of z)) over h.runs.around;
  outside = h.runs.outside;
  unentered = λ k. h.runs.unentered e k (ap met_by over);
  unsaid = λ k. h.runs.unsaid refl (ap met_by over ∙ ap Some k);
  grew = h.runs.grew;
  came_in = h.runs.came_in;
  bytes = h.runs.bytes;
  before = let e = h.runs.before in omega (arith, e);
  within = h.runs.within (omega arith);
  each = h.runs.each;
  phase = h.runs.phase;
  answers = h.runs.answers;
  output = h.runs.output;
  went_out = h.runs.went_out;
  whole = λ k. (h.runs.whole (subst (λ (z : Turn). IsWhole (met_by z)) (sym over) k)).0;
  held = λ k. h.runs.held (subst (λ (z : Turn). IsHeld (met_by z)) (sym over) k);
  ends = subst (λ (z : Turn). Meets None (met_by z) t v w d.passed d.came) over h.meets;
}

-- ---- to the end

-- what one poll does
pub poll_does : (answer : Poll Served) (s : Standing) (v : Sight) (t : Standing) (w : Sight) (yields : Bool) (p : Polls answer s v t w yields) → Does s v p.deeds t w
poll_does answer s v t w yields p = record { runs = p.runs; order = p.order; meets = p.meets }

-- the poll that is ready
pub comes_now : (e : Served) (s : Standing) (v : Sight) (t : Standing) (w : Sight) (yields : Bool) → Polls (poll.Ready e) s v t w yields → Comes s v e w
comes_now e s v t w yields p = record { deeds = p.deeds; after = t; does = poll_does (poll.Ready e) s v t w yields p; over = p.answered }

-- one that is pending, and then others
pub comes_later : (e : Served) (s : Standing) (v : Sight) (t : Standing) (w x : Sight) (yields : Bool) → Polls poll.Pending s v t w yields → Comes t w e x → Comes s v e x
comes_later e s v t w x yields p q = record {
  deeds = followed_by p.deeds q.deeds;
  after = q.after;
  does = does_on s v p.deeds t w q.deeds q.after x (poll_does poll.Pending s v t w yields p) q.does;
  over = q.over;
}
