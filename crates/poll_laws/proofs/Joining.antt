-- What is done, and then more.
use Rattle.std.proofs.Common.{◌≡◌, ◌⊎◌, inl, inr, ℕ, ◌+◌, ◌≤◌, List, [], ◌∷◌, ◌++◌, length, Option, Some, None, refl, sym, ap, ◌∙◌, subst, arith}
use Rattle.std.proofs.lemmas.List.{append-nil, append_assoc, length-append}
use Rattle.portal_base.specs.Outside.{behind}
use Rattle.portal_model.specs.Seated.{Exchange}
use Rattle.session.specs.declared.act.Act.{Act}
use Rattle.session.specs.declared.act.Client.{Client}
use Rattle.session.specs.declared.phase.Phase.{Phase}
use Rattle.session.specs.declared.served.Served.{Served}
use Rattle.session.specs.declared.served.Served.TheVariants as served
use Rattle.session.specs.Answers.{Answers, Denied, Made, Outcome, pieces_of}
use Rattle.session.specs.Items.{AreItems, joined, phase_after}
use Rattle.session.specs.Sessions.{enter}
use Rattle.session.specs.Standings.{longest}
use Rattle.session.proofs.DidItems.{answers-append, items-append, joined-append, phase-append}
use Rattle.session.proofs.Grew.{grew_on}
use Rattle.poll_laws.specs.declared.course.Turn.{Turn}
use Rattle.poll_laws.specs.declared.course.Turn.TheVariants as turn
use Rattle.poll_laws.specs.Courses.{Around, EndsOutside, Gone, Inside, IsUnentered, Outside, Place, Sight, Standing, met_by, place_of}
use Rattle.poll_ends.specs.Outside.{appended}
use Rattle.poll_laws.specs.Polls.{Counted, Deeds, IsBlank, IsHeld, InOrder, InSteps, IsStill, IsUnsaid, IsWhole, Runs, followed_by}

-- ---- lists

pub behind_on : (a b : List ℕ) (o : Option (List ℕ)) → behind a (behind b o) ≡ behind (a ++ b) o
behind_on a b None = refl
behind_on a b (Some told) = ap Some (sym (append_assoc a b told))

pub behind_none : (o : Option (List ℕ)) → o ≡ behind [] o
behind_none None = refl
behind_none (Some told) = refl

pub appended_on : (o : Option (List ℕ)) (a b : List ℕ) → appended (appended o a) b ≡ appended o (a ++ b)
appended_on None a b = refl
appended_on (Some told) a b = ap Some (append_assoc told a b)

pub appended_none : (o : Option (List ℕ)) → o ≡ appended o []
appended_none None = refl
appended_none (Some told) = ap Some (sym (append-nil told))

-- nothing behind a list
pub with_none : {A : Type 0} (xs ys : List A) → ys ≡ [] → xs ++ ys ≡ xs
with_none xs ys e = ap (λ z. xs ++ z) e ∙ append-nil xs

-- ---- Enter and Leave

pub around_on : (c : Client) (p q r : Place) (a b os us : List Outcome) → Around c p a os q → Around c q b us r → Around c p (a ++ b) (os ++ us) r
around_on c Outside Outside r a b os us h k = rw (h.0, h.1) k
around_on c Outside Inside Outside a b os us h k = absurd k
around_on c Outside Inside Inside a b os us h k = (h.0, h.1, ap (λ (z : List Outcome). z ++ b) h.2 ∙ ap (λ (z : List Outcome). (Made h.0 ∷ os) ++ z) k)
around_on c Outside Inside Gone a b os us h k =
    inr (h.0, k.0, (h.1, k.1), ap (λ (z : List Outcome). z ++ b) h.2 ∙ (ap (λ (z : List Outcome). (Made h.0 ∷ os) ++ z) k.2 ∙ ap (λ (z : List Outcome). Made h.0 ∷ z) (sym (append_assoc os us (Made k.0 ∷ [])))))
around_on c Outside Gone Outside a b os us h k = absurd k
around_on c Outside Gone Inside a b os us h k = absurd k
around_on c Outside Gone Gone a b os us h k = rw (with_none a b k.0, with_none os us k.1) h
around_on c Inside Outside r a b os us h k = absurd h
around_on c Inside Inside Outside a b os us h k = absurd k
around_on c Inside Inside Inside a b os us h k = ap (λ (z : List Outcome). z ++ b) h ∙ ap (λ (z : List Outcome). os ++ z) k
around_on c Inside Inside Gone a b os us h k =
    (k.0, k.1, ap (λ (z : List Outcome). z ++ b) h ∙ (ap (λ (z : List Outcome). os ++ z) k.2 ∙ sym (append_assoc os us (Made k.0 ∷ []))))
around_on c Inside Gone Outside a b os us h k = absurd k
around_on c Inside Gone Inside a b os us h k = absurd k
around_on c Inside Gone Gone a b os us h k = rw (with_none a b k.0, with_none os us k.1) h
around_on c Gone Outside r a b os us h k = absurd h
around_on c Gone Inside r a b os us h k = absurd h
around_on c Gone Gone Outside a b os us h k = absurd k
around_on c Gone Gone Inside a b os us h k = absurd k
around_on c Gone Gone Gone a b os us h k = (with_none a b k.0 ∙ h.0, with_none os us k.1 ∙ h.1)

-- ---- before Enter is answered

-- no answer stands first
abbrev NoneMade : List Outcome → Type 0
NoneMade [] = Unit {0}
NoneMade (Made x ∷ os) = ⊥
NoneMade (Denied request why ∷ os) = Unit {0}

made_first : (x : Exchange) (os a b : List Outcome) → a ≡ Made x ∷ os → (all : List Outcome) → a ++ b ≡ all → NoneMade all → ⊥
made_first x os a b is all e none = subst NoneMade (sym e ∙ ap (λ (z : List Outcome). z ++ b) is) none

-- nothing but a refused Enter was asked, and so at first
unentered_first : (c : Client) (p q : Place) (a b os : List Outcome) → Around c p a os q → IsUnentered c p (a ++ b) → IsUnentered c p a
unentered_first c Outside Outside a b os h k = inl h.0
unentered_first c Outside Inside a b os (x, is, all) (inl k) = absurd (made_first x os a b all [] k tt)
unentered_first c Outside Inside a b os (x, is, all) (inr (why, k)) = absurd (made_first x os a b all (Denied (enter c) why ∷ []) k tt)
unentered_first c Outside Gone a b os (inl (none, inl h)) k = inl h
unentered_first c Outside Gone a b os (inl (none, inr h)) k = inr h
unentered_first c Outside Gone a b os (inr (x, l, both, all)) (inl k) = absurd (made_first x (os ++ Made l ∷ []) a b all [] k tt)
unentered_first c Outside Gone a b os (inr (x, l, both, all)) (inr (why, k)) = absurd (made_first x (os ++ Made l ∷ []) a b all (Denied (enter c) why ∷ []) k tt)
unentered_first c Inside q a b os h k = absurd k
unentered_first c Gone q a b os h k = absurd k

-- and then, unless the connection is over
unentered_then : (c : Client) (p q : Place) (a b os : List Outcome) → Around c p a os q → IsUnentered c p (a ++ b) → IsUnentered c q b ⊎ (q ≡ Gone)
unentered_then c Outside Outside a b os h k = inl (subst (λ (z : List Outcome). IsUnentered c Outside (z ++ b)) h.0 k)
unentered_then c Outside Inside a b os (x, is, all) (inl k) = absurd (made_first x os a b all [] k tt)
unentered_then c Outside Inside a b os (x, is, all) (inr (why, k)) = absurd (made_first x os a b all (Denied (enter c) why ∷ []) k tt)
unentered_then c Outside Gone a b os h k = inr refl
unentered_then c Inside q a b os h k = absurd k
unentered_then c Gone q a b os h k = absurd k

-- where Enter is due still nothing was asked
outside_none : (c : Client) (p q : Place) (a b os : List Outcome) → Around c p a os q → IsUnentered c p (a ++ b) → IsUnentered c q b → a ≡ []
outside_none c Outside Outside a b os h k l = h.0
outside_none c Outside Inside a b os h k l = absurd l
outside_none c Outside Gone a b os h k l = absurd l
outside_none c Inside q a b os h k l = absurd k
outside_none c Gone q a b os h k l = absurd k

-- once the connection is over nothing is asked
gone_none : (c : Client) (p q : Place) (b us : List Outcome) → p ≡ Gone → Around c p b us q → b ≡ []
gone_none c Outside q b us is h = absurd (cc)
gone_none c Inside q b us is h = absurd (cc)
gone_none c Gone Outside b us is h = absurd h
gone_none c Gone Inside b us is h = absurd h
gone_none c Gone Gone b us is h = h.0

gone_met : (x : Turn) → place_of x ≡ Gone → (e : Served) × (met_by x ≡ Some e)
gone_met turn.Enter is = absurd (cc)
gone_met turn.Serve is = absurd (cc)
gone_met (turn.Leave e) is = absurd (cc)
gone_met (turn.Over e) is = (e, refl)

none_both : {A : Type 0} (xs ys : List A) → xs ≡ [] → ys ≡ [] → xs ++ ys ≡ []
none_both xs ys a b = rw (a, b) refl

blank_both : (d e : Deeds) → IsBlank d → IsBlank e → IsBlank (followed_by d e)
blank_both d e a b = record {
  read = none_both d.read e.read a.read b.read;
  items = none_both d.items e.items a.items b.items;
  pieces = none_both d.pieces e.pieces a.pieces b.pieces;
  written = none_both d.written e.written a.written b.written;
  passed = none_both e.passed d.passed b.passed a.passed;
}

still_blank : (d : Deeds) (e : Served) (after : Option Served) → IsStill d e after → IsBlank d
still_blank d e after h = record { read = h.read; items = h.items; pieces = h.pieces; written = h.written; passed = h.passed }

-- ---- no items

no_acts : (c : Client) (p : Phase) (items : List (List ℕ)) (acts : List Act) → items ≡ [] → AreItems c p items acts → acts ≡ []
no_acts c p items acts e h = subst (λ (z : List (List ℕ)). AreItems c p z acts) e h

no_answers : (c : Client) (serial : ℕ) (acts : List Act) (os : List Outcome) (ps : List (List ℕ)) (last : ℕ) → acts ≡ [] → Answers c serial acts os ps last → (os ≡ []) × (ps ≡ []) × (last ≡ serial)
no_answers c serial acts os ps last e h = subst (λ (z : List Act). Answers c serial z os ps last) e h

pub some_none : (o : Option Served) (m : Served) → o ≡ None → o ≡ Some m → ⊥
some_none o m n s = cc

same_some : (o : Option Served) (m n : Served) → o ≡ Some m → o ≡ Some n → m ≡ n
same_some o m n a b = cc

-- ---- runs

module _ (s : Standing) (v : Sight) (d : Deeds) (t : Standing) (w : Sight) (e : Deeds) (x : Standing) (y : Sight) (a : Runs s v d t w) (b : Runs t w e x y) where
  client_on : x.client ≡ s.client
  client_on = b.client ∙ a.client

  around_both : Around s.client (place_of s.turn) (d.came ++ e.came) (d.outcomes ++ e.outcomes) (place_of x.turn)
  around_both =
      around_on s.client (place_of s.turn) (place_of t.turn) (place_of x.turn) d.came e.came d.outcomes e.outcomes a.around
      (subst (λ (c : Client). Around c (place_of t.turn) e.came e.outcomes (place_of x.turn)) a.client b.around)

  outside_both : IsUnentered s.client (place_of s.turn) (d.came ++ e.came) → IsBlank (followed_by d e)
  outside_both h = blank_both d e (a.outside (unentered_first s.client (place_of s.turn) (place_of t.turn) d.came e.came d.outcomes a.around h))
      (then_blank (unentered_then s.client (place_of s.turn) (place_of t.turn) d.came e.came d.outcomes a.around h))
    where
      then_blank : IsUnentered s.client (place_of t.turn) e.came ⊎ (place_of t.turn ≡ Gone) → IsBlank e
      then_blank (inl none) = b.outside (subst (λ (c : Client). IsUnentered c (place_of t.turn) e.came) (sym a.client) none)
      then_blank (inr over) = let m = gone_met t.turn over in still_blank e m.0 (met_by x.turn) (b.still m.0 m.1)

  -- how a connection ends whose Enter wasn't answered
  unentered_both : (f : Served) → IsUnentered s.client (place_of s.turn) (d.came ++ e.came) → met_by x.turn ≡ Some f → EndsOutside s.client (d.came ++ e.came) f
  unentered_both f h met = ends_by (unentered_then s.client (place_of s.turn) (place_of t.turn) d.came e.came d.outcomes a.around h)
    where
      ends_by : IsUnentered s.client (place_of t.turn) e.came ⊎ (place_of t.turn ≡ Gone) → EndsOutside s.client (d.came ++ e.came) f
      ends_by (inl none) =
          let first : d.came ≡ [] = outside_none s.client (place_of s.turn) (place_of t.turn) d.came e.came d.outcomes a.around h none in
          let then : EndsOutside t.client e.came f = b.unentered f (subst (λ (c : Client). IsUnentered c (place_of t.turn) e.came) (sym a.client) none) met in
          subst (λ (z : List Outcome). EndsOutside s.client (z ++ e.came) f) (sym first) (subst (λ (c : Client). EndsOutside c e.came f) a.client then)
      ends_by (inr over) =
          let m = gone_met t.turn over in
          let ends : EndsOutside s.client d.came m.0 = a.unentered m.0 (unentered_first s.client (place_of s.turn) (place_of t.turn) d.came e.came d.outcomes a.around h) m.1 in
          let then : e.came ≡ [] = gone_none t.client (place_of t.turn) (place_of x.turn) e.came e.outcomes over b.around in
          subst (λ (z : Served). EndsOutside s.client (d.came ++ e.came) z) (same_some (met_by x.turn) m.0 f (b.still m.0 m.1).stays met)
          (subst (λ (z : List Outcome). EndsOutside s.client z m.0) (sym (with_none d.came e.came then)) ends)

  within_both : s.before + length s.left ≤ longest → x.before + length x.left ≤ longest
  within_both h = b.within (a.within h)

  -- where the last answer is unsaid of what was done then
  unsaid_then : (rest : List ℕ) → (rest ≡ []) ⊎ IsUnsaid t.client rest e → (rest ≡ []) ⊎ IsUnsaid s.client rest (followed_by d e)
  unsaid_then rest (inl none) = inl none
  unsaid_then rest (inr h) = inr (record {
    before = d.acts ++ h.before;
    last = h.last;
    outcomes = h.outcomes;
    serial = h.serial;
    pieces = d.pieces ++ h.pieces;
    acts = ap (λ (z : List Act). d.acts ++ z) h.acts ∙ sym (append_assoc d.acts h.before (h.last ∷ []));
    said =
        ap (λ (z : List (List ℕ)). d.pieces ++ z) h.said
        ∙ (sym (append_assoc d.pieces h.pieces (pieces_of t.client h.last h.serial h.outcomes))
        ∙ ap (λ (c : Client). (d.pieces ++ h.pieces) ++ pieces_of c h.last h.serial h.outcomes) a.client);
    rest_is = h.rest_is ∙ ap (λ (c : Client). joined (pieces_of c h.last h.serial h.outcomes)) a.client;
    lacks = h.lacks;
  })

  came_in_both : v.left ≡ behind (d.read ++ e.read) y.left
  came_in_both = a.came_in ∙ (ap (behind d.read) b.came_in ∙ behind_on d.read e.read y.left)

  each_both : AreItems s.client s.stage.phase (d.items ++ e.items) (d.acts ++ e.acts)
  each_both =
      items-append d.items e.items s.client s.stage.phase d.acts e.acts a.each
      (subst (λ (p : Phase). AreItems s.client p e.items e.acts) a.phase (subst (λ (c : Client). AreItems c t.stage.phase e.items e.acts) a.client b.each))

  phase_both : x.stage.phase ≡ phase_after s.client s.stage.phase (d.items ++ e.items)
  phase_both =
      b.phase
      ∙ (ap (λ (c : Client). phase_after c t.stage.phase e.items) a.client
      ∙ (ap (λ (p : Phase). phase_after s.client p e.items) a.phase
      ∙ sym (phase-append d.items e.items s.client s.stage.phase)))

  before_both : x.before ≡ s.before + length (joined (d.items ++ e.items))
  before_both =
      let first = a.before in
      let then = b.before in
      let lengths : length (joined (d.items ++ e.items)) ≡ length (joined d.items) + length (joined e.items) =
      ap length (joined-append d.items e.items) ∙ length-append (joined d.items) (joined e.items) in
      omega (arith, first, then, lengths)

  went_out_both : y.told ≡ appended v.told (d.written ++ e.written)
  went_out_both = b.went_out ∙ (ap (λ (o : Option (List ℕ)). appended o e.written) a.went_out ∙ appended_on v.told d.written e.written)

  counted_both : Counted v y
  counted_both =
      let p = a.counted in
      let q = b.counted in
      record {
        busy = let f = p.busy in let g = q.busy in omega (arith, f, g);
        reading = record { faults = let f = p.reading.faults in let g = q.reading.faults in omega (arith, f, g); waits = let f = p.reading.waits in let g = q.reading.waits in omega (arith, f, g) };
        writing = record { faults = let f = p.writing.faults in let g = q.writing.faults in omega (arith, f, g); waits = let f = p.writing.waits in let g = q.writing.waits in omega (arith, f, g) };
      }

  -- where no ending was met in between
  module _ (none : met_by t.turn ≡ None) where
    whole_between : (a.rest ≡ t.unsent) × (a.last ≡ t.stage.serial)
    whole_between = a.whole (subst IsWhole (sym none) tt)

    none_passed : d.passed ≡ []
    none_passed = a.held (subst IsHeld (sym none) tt)

    bytes_open : s.left ++ (d.read ++ e.read) ≡ joined (d.items ++ e.items) ++ (x.left ++ (e.passed ++ d.passed))
    bytes_open =
        sym (append_assoc s.left d.read e.read)
        ∙ (ap (λ (z : List ℕ). z ++ e.read) (a.bytes ∙ ap (λ (z : List ℕ). joined d.items ++ z) (with_none t.left d.passed none_passed))
        ∙ (append_assoc (joined d.items) t.left e.read
        ∙ (ap (λ (z : List ℕ). joined d.items ++ z) b.bytes
        ∙ (sym (append_assoc (joined d.items) (joined e.items) (x.left ++ e.passed))
        ∙ (ap (λ (z : List ℕ). z ++ (x.left ++ e.passed)) (sym (joined-append d.items e.items))
        ∙ ap (λ (z : List ℕ). joined (d.items ++ e.items) ++ (x.left ++ z)) (sym (with_none e.passed d.passed none_passed)))))))

    output_open : s.unsent ++ joined (d.pieces ++ e.pieces) ≡ (d.written ++ e.written) ++ b.rest
    output_open =
        ap (λ (z : List ℕ). s.unsent ++ z) (joined-append d.pieces e.pieces)
        ∙ (sym (append_assoc s.unsent (joined d.pieces) (joined e.pieces))
        ∙ (ap (λ (z : List ℕ). z ++ joined e.pieces) (a.output ∙ ap (λ (z : List ℕ). d.written ++ z) whole_between.0)
        ∙ (append_assoc d.written t.unsent (joined e.pieces)
        ∙ (ap (λ (z : List ℕ). d.written ++ z) b.output
        ∙ sym (append_assoc d.written e.written b.rest)))))

    answers_open : Answers s.client s.stage.serial (d.acts ++ e.acts) (d.outcomes ++ e.outcomes) (d.pieces ++ e.pieces) b.last
    answers_open =
        answers-append d.acts e.acts s.client s.stage.serial a.last b.last d.outcomes e.outcomes d.pieces e.pieces a.answers
        (subst (λ (n : ℕ). Answers s.client n e.acts e.outcomes e.pieces b.last) (sym whole_between.1) (subst (λ (c : Client). Answers c t.stage.serial e.acts e.outcomes e.pieces b.last) a.client b.answers))

    runs_open : Runs s v (followed_by d e) x y
    runs_open = record {
      last = b.last;
      rest = b.rest;
      client = client_on;
      around = around_both;
      outside = outside_both;
      unentered = unentered_both;
      unsaid = λ from to. unsaid_then b.rest (b.unsaid none to);
      within = within_both;
      grew = grew_on v.seated w.seated y.seated d.came e.came a.grew b.grew;
      came_in = came_in_both;
      bytes = bytes_open;
      before = before_both;
      each = each_both;
      phase = phase_both;
      answers = answers_open;
      output = output_open;
      went_out = went_out_both;
      whole = b.whole;
      held = λ h. with_none e.passed d.passed none_passed ∙ b.held h;
      still = λ m is. absurd (some_none (met_by t.turn) m none (a.still m is).stays);
      counted = counted_both;
    }

  -- where one was met, nothing more was done but for Leave
  module _ (m : Served) (is : met_by t.turn ≡ Some m) where
    stilled : IsStill e m (met_by x.turn)
    stilled = b.still m is

    acts_none : e.acts ≡ []
    acts_none = no_acts t.client t.stage.phase e.items e.acts stilled.items b.each

    nothing : (e.outcomes ≡ []) × (e.pieces ≡ []) × (b.last ≡ t.stage.serial)
    nothing = no_answers t.client t.stage.serial e.acts e.outcomes e.pieces b.last acts_none b.answers

    left_same : t.left ≡ x.left
    left_same =
        sym (with_none t.left e.read stilled.read)
        ∙ (b.bytes
        ∙ (ap (λ (z : List (List ℕ)). joined z ++ (x.left ++ e.passed)) stilled.items
        ∙ with_none x.left e.passed stilled.passed))

    unsent_same : t.unsent ≡ b.rest
    unsent_same =
        sym (append-nil t.unsent)
        ∙ (ap (λ (z : List (List ℕ)). t.unsent ++ joined z) (sym stilled.pieces)
        ∙ (b.output ∙ ap (λ (z : List ℕ). z ++ b.rest) stilled.written))

    passed_same : e.passed ++ d.passed ≡ d.passed
    passed_same = ap (λ (z : List ℕ). z ++ d.passed) stilled.passed

    bytes_closed : s.left ++ (d.read ++ e.read) ≡ joined (d.items ++ e.items) ++ (x.left ++ (e.passed ++ d.passed))
    bytes_closed =
        ap (λ (z : List ℕ). s.left ++ z) (with_none d.read e.read stilled.read)
        ∙ (a.bytes
        ∙ (ap (λ (z : List ℕ). joined d.items ++ (z ++ d.passed)) left_same
        ∙ (ap (λ (z : List ℕ). joined d.items ++ (x.left ++ z)) (sym passed_same)
        ∙ ap (λ (z : List (List ℕ)). joined z ++ (x.left ++ (e.passed ++ d.passed))) (sym (with_none d.items e.items stilled.items)))))

    output_closed : s.unsent ++ joined (d.pieces ++ e.pieces) ≡ (d.written ++ e.written) ++ a.rest
    output_closed =
        ap (λ (z : List (List ℕ)). s.unsent ++ joined z) (with_none d.pieces e.pieces stilled.pieces)
        ∙ (a.output ∙ ap (λ (z : List ℕ). z ++ a.rest) (sym (with_none d.written e.written stilled.written)))

    answers_closed : Answers s.client s.stage.serial (d.acts ++ e.acts) (d.outcomes ++ e.outcomes) (d.pieces ++ e.pieces) a.last
    answers_closed =
        subst (λ (z : List Act). Answers s.client s.stage.serial z (d.outcomes ++ e.outcomes) (d.pieces ++ e.pieces) a.last) (sym (with_none d.acts e.acts acts_none))
        (subst (λ (z : List Outcome). Answers s.client s.stage.serial d.acts z (d.pieces ++ e.pieces) a.last) (sym (with_none d.outcomes e.outcomes nothing.0))
        (subst (λ (z : List (List ℕ)). Answers s.client s.stage.serial d.acts d.outcomes z a.last) (sym (with_none d.pieces e.pieces stilled.pieces)) a.answers))

    unsaid_first : (rest : List ℕ) → (rest ≡ []) ⊎ IsUnsaid s.client rest d → (rest ≡ []) ⊎ IsUnsaid s.client rest (followed_by d e)
    unsaid_first rest (inl none) = inl none
    unsaid_first rest (inr h) = inr (record {
      before = h.before;
      last = h.last;
      outcomes = h.outcomes;
      serial = h.serial;
      pieces = h.pieces;
      acts = with_none d.acts e.acts acts_none ∙ h.acts;
      said = with_none d.pieces e.pieces stilled.pieces ∙ h.said;
      rest_is = h.rest_is;
      lacks = h.lacks;
    })

    unsaid_closed : met_by s.turn ≡ None → met_by x.turn ≡ Some served.Memory → (a.rest ≡ []) ⊎ IsUnsaid s.client a.rest (followed_by d e)
    unsaid_closed from to = unsaid_first a.rest (a.unsaid from (is ∙ ap Some (same_some (met_by x.turn) m served.Memory stilled.stays to)))

    whole_closed : IsWhole (met_by x.turn) → (a.rest ≡ x.unsent) × (a.last ≡ x.stage.serial)
    whole_closed h =
        let before = a.whole (subst IsWhole (stilled.stays ∙ sym is) h) in
        let after = b.whole h in
        (before.0 ∙ (unsent_same ∙ after.0), before.1 ∙ (sym nothing.2 ∙ after.1))

    still_closed : (n : Served) → met_by s.turn ≡ Some n → IsStill (followed_by d e) n (met_by x.turn)
    still_closed n since =
        let q = a.still n since in
        record {
          read = with_none d.read e.read stilled.read ∙ q.read;
          items = with_none d.items e.items stilled.items ∙ q.items;
          pieces = with_none d.pieces e.pieces stilled.pieces ∙ q.pieces;
          written = with_none d.written e.written stilled.written ∙ q.written;
          passed = passed_same ∙ q.passed;
          stays = stilled.stays ∙ (sym is ∙ q.stays);
        }

    runs_closed : Runs s v (followed_by d e) x y
    runs_closed = record {
      last = a.last;
      rest = a.rest;
      client = client_on;
      around = around_both;
      outside = outside_both;
      unentered = unentered_both;
      unsaid = unsaid_closed;
      within = within_both;
      grew = grew_on v.seated w.seated y.seated d.came e.came a.grew b.grew;
      came_in = came_in_both;
      bytes = bytes_closed;
      before = before_both;
      each = each_both;
      phase = phase_both;
      answers = answers_closed;
      output = output_closed;
      went_out = went_out_both;
      whole = whole_closed;
      held = λ h. passed_same ∙ a.held (subst IsHeld (stilled.stays ∙ sym is) h);
      still = still_closed;
      counted = counted_both;
    }

  by_ending : (o : Option Served) → met_by t.turn ≡ o → Runs s v (followed_by d e) x y
  by_ending None none = runs_open none
  by_ending (Some m) is = runs_closed m is

  -- what was done first and what was done then, each list followed by the other's
  pub runs_on : Runs s v (followed_by d e) x y
  runs_on = by_ending (met_by t.turn) refl

-- ---- steps

-- by their parts
deeds_of : (r1 r2 : List ℕ) (i1 i2 : List (List ℕ)) (a1 a2 : List Act) (o1 o2 c1 c2 : List Outcome) (p1 p2 : List (List ℕ)) (w1 w2 x1 x2 : List ℕ) → r1 ≡ r2 → i1 ≡ i2 → a1 ≡ a2 → o1 ≡ o2 → c1 ≡ c2 → p1 ≡ p2 → w1 ≡ w2 → x1 ≡ x2
    → ◌≡◌ {A = Deeds} (record { read = r1; items = i1; acts = a1; outcomes = o1; came = c1; pieces = p1; written = w1; passed = x1 }) (record { read = r2; items = i2; acts = a2; outcomes = o2; came = c2; pieces = p2; written = w2; passed = x2 })
deeds_of r1 r2 i1 i2 a1 a2 o1 o2 c1 c2 p1 p2 w1 w2 x1 x2 e1 e2 e3 e4 e5 e6 e7 e8 = cc

followed-assoc : (a b c : Deeds) → followed_by (followed_by a b) c ≡ followed_by a (followed_by b c)
followed-assoc a b c =
    deeds_of _ _ _ _ _ _ _ _ _ _ _ _ _ _ _ _ (append_assoc a.read b.read c.read) (append_assoc a.items b.items c.items) (append_assoc a.acts b.acts c.acts) (append_assoc a.outcomes b.outcomes c.outcomes) (append_assoc a.came b.came c.came)
    (append_assoc a.pieces b.pieces c.pieces) (append_assoc a.written b.written c.written) (sym (append_assoc c.passed b.passed a.passed))

-- one step in which nothing is read
pub one_step : (s : Standing) (v : Sight) (d : Deeds) (t : Standing) (w : Sight) → Runs s v d t w → d.read ≡ [] → InOrder s v d t w
one_step s v d t w runs none = ([], record { runs = runs; reads = inl none })

steps_on : (ds : List Deeds) (s : Standing) (v : Sight) (d : Deeds) (t : Standing) (w : Sight) (e : Deeds) (x : Standing) (y : Sight) → InSteps ds s v d t w → InOrder t w e x y → InOrder s v (followed_by d e) x y
steps_on [] s v d t w e x y h (es, k) = (d ∷ es, (e, t, w, h, refl, k))
steps_on (a ∷ ds) s v d t w e x y (f, m, u, step, is, rest) k =
    let on = steps_on ds m u f t w e x y rest k in
    (a ∷ on.0, (followed_by f e, m, u, step, ap (λ (z : Deeds). followed_by z e) is ∙ followed-assoc a f e, on.1))

-- steps, and then others
pub order_on : (s : Standing) (v : Sight) (d : Deeds) (t : Standing) (w : Sight) (e : Deeds) (x : Standing) (y : Sight) → InOrder s v d t w → InOrder t w e x y → InOrder s v (followed_by d e) x y
order_on s v d t w e x y (ds, h) k = steps_on ds s v d t w e x y h k
