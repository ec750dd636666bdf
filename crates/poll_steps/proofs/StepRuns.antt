-- What each step of a poll does.
use Rattle.std.proofs.Common.{◌≡◌, inl, inr, ℕ, ◌+◌, ◌≤◌, List, [], ◌∷◌, ◌++◌, length, Option, Some, None, refl, sym, ap, ◌∙◌, subst, arith}
use Rattle.std.proofs.lemmas.List.{append-nil, length-append}
use Rattle.portal_base.specs.Outside.{behind}
use Rattle.portal_model.specs.Seated.{Seated}
use Rattle.session.specs.declared.act.Act.{Act}
use Rattle.session.specs.declared.act.Client.{Client}
use Rattle.session.specs.declared.served.Served.{Served}
use Rattle.session.specs.declared.served.Served.TheVariants as served
use Rattle.session.specs.Answers.{AreOf, Outcome, pieces_of, serial_past}
use Rattle.session.specs.Asked.{asked_by}
use Rattle.session.specs.Cuts.{next_phase}
use Rattle.session.specs.Items.{IsItem, joined}
use Rattle.session.specs.Lacks.{MayLack}
use Rattle.session.specs.Ledger.{Grew}
use Rattle.session.specs.Standings.{longest}
use Rattle.session.proofs.Grew.{grew_none}
use Rattle.poll_laws.specs.declared.course.Turn.{Turn}
use Rattle.poll_laws.specs.declared.course.Turn.TheVariants as turn
use Rattle.poll_laws.specs.Courses.{Around, EndsOutside, Gone, Inside, IsUnentered, Outside, Place, Sight, Standing, met_by, place_of, sight}
use Rattle.poll_ends.specs.Outside.{Counts, NoneFalls}
use Rattle.poll_laws.specs.Polls.{Deeds, IsHeld, IsIdle, IsWhole, ReadsAlone, Runs}
use Rattle.poll_steps.specs.Steps.{Sent, turned}
use Rattle.poll_laws.proofs.Joining.{appended_none, behind_none, some_none}

around_none : (c : Client) (p : Place) → Around c p [] [] p
around_none c Outside = (refl, refl)
around_none c Inside = refl
around_none c Gone = (refl, refl)

-- Enter was answered
pub not_outside : (s : Standing) (came : List Outcome) → s.turn ≡ turn.Serve → IsUnentered s.client (place_of s.turn) came → ⊥
not_outside s came serves h = subst (λ (p : Place). IsUnentered s.client p came) (ap place_of serves) h

-- while Enter is due no ending is met
unentered_unmet : (x : Turn) (c : Client) (came : List Outcome) (e : Served) → IsUnentered c (place_of x) came → met_by x ≡ Some e → ⊥
unentered_unmet turn.Enter c came e h is = absurd (cc)
unentered_unmet turn.Serve c came e h is = absurd h
unentered_unmet (turn.Leave f) c came e h is = absurd h
unentered_unmet (turn.Over f) c came e h is = absurd h

none_falls : (k : Counts) → NoneFalls k k
none_falls k = record { faults = omega arith; waits = omega arith }

-- nothing but these outcomes
abbrev pub silent : List Outcome → Deeds
silent came = record { read = []; items = []; acts = []; outcomes = []; came = came; pieces = []; written = []; passed = [] }

abbrev pub nothing : Deeds
nothing = silent []

-- nothing but these bytes are written
abbrev pub wrote : List ℕ → Deeds
wrote bytes = record { read = []; items = []; acts = []; outcomes = []; came = []; pieces = []; written = bytes; passed = [] }

-- one item is asked, with these outcomes
abbrev pub asked_one : Client → ℕ → List ℕ → Act → List Outcome → Deeds
asked_one c serial item act os = record { read = []; items = item ∷ []; acts = act ∷ []; outcomes = os; came = os; pieces = pieces_of c act serial os; written = []; passed = [] }

-- a piece is read, of which these bytes are passed over
abbrev pub read_one : List ℕ → List ℕ → Deeds
read_one piece passed = record { read = piece; items = []; acts = []; outcomes = []; came = []; pieces = []; written = []; passed = passed }

module _ (s : Standing) (a b : Seated) (n m : ℕ) (l : Option (List ℕ)) (r : Counts) (o : Option (List ℕ)) (k : Counts) where
  -- what is done next changes, or what the desk knows
  pub runs_turned : (next : Turn) (came : List Outcome) → n ≤ m → Around s.client (place_of s.turn) came [] (place_of next) → Grew a came b
      → ((e : Served) → met_by s.turn ≡ Some e → met_by next ≡ Some e) → ((e : Served) → IsUnentered s.client (place_of s.turn) came → met_by next ≡ Some e → EndsOutside s.client came e)
      → (met_by s.turn ≡ None → met_by next ≡ Some served.Memory → s.unsent ≡ []) → Runs s (sight a n l r o k) (silent came) (turned s next) (sight b m l r o k)
  runs_turned next came more around grew stays ends sent = record {
    last = s.stage.serial;
    rest = s.unsent;
    client = refl;
    around = around;
    grew = grew;
    came_in = behind_none l;
    bytes = refl;
    before = omega arith;
    each = refl;
    phase = refl;
    answers = (refl, refl, refl);
    output = append-nil s.unsent;
    went_out = appended_none o;
    whole = λ h. (refl, refl);
    held = λ h. refl;
    within = λ h. h;
    outside = λ h. record { read = refl; items = refl; pieces = refl; written = refl; passed = refl };
    unentered = ends;
    unsaid = λ from to. inl (sent from to);
    still = λ e is. record { read = refl; items = refl; pieces = refl; written = refl; passed = refl; stays = stays e is };
    counted = record { busy = more; reading = none_falls r; writing = none_falls k };
  }

pub runs_none : (s : Standing) (v : Sight) → Runs s v nothing s v
runs_none s v =
    runs_turned s v.seated v.seated v.busy v.busy v.left v.reading v.told v.writing s.turn [] (omega arith) (around_none s.client (place_of s.turn)) (grew_none v.seated) (λ e is. is) (λ e h is. absurd (unentered_unmet s.turn s.client [] e h is)) (λ from to. absurd (some_none (met_by s.turn) served.Memory from to))

write_fault_isnt : met_by (turn.Leave served.WriteFault) ≡ Some served.Memory → ⊥
write_fault_isnt is =
    let same : Some served.WriteFault ≡ Some served.Memory = is in
    cc

-- ---- sending

module _ (s : Standing) (serves : s.turn ≡ turn.Serve) (a : Seated) (n : ℕ) (l : Option (List ℕ)) (r : Counts) (o o' : Option (List ℕ)) (k k' : Counts) (falls : NoneFalls k k') where
  unmet : (e : Served) → met_by s.turn ≡ Some e → ⊥
  unmet e is = let none : met_by s.turn ≡ None = ap met_by serves in absurd (cc)

  -- some of what was unsent is sent
  pub runs_sent : (u : List ℕ) (h : Sent s.unsent o u o') → Runs s (sight a n l r o k) (wrote h.written) (record s { unsent = u }) (sight a n l r o' k')
  runs_sent u h = record {
    last = s.stage.serial;
    rest = u;
    client = refl;
    around = around_none s.client (place_of s.turn);
    grew = grew_none a;
    came_in = behind_none l;
    bytes = refl;
    before = omega arith;
    each = refl;
    phase = refl;
    answers = (refl, refl, refl);
    output = append-nil s.unsent ∙ h.bytes;
    went_out = h.went_out;
    whole = λ x. (refl, refl);
    held = λ x. refl;
    within = λ x. x;
    outside = λ x. absurd (not_outside s [] serves x);
    unentered = λ e x is. absurd (not_outside s [] serves x);
    unsaid = λ from to. absurd (some_none (met_by s.turn) served.Memory from to);
    still = λ e is. absurd (unmet e is);
    counted = record { busy = omega arith; reading = none_falls r; writing = falls };
  }

  -- and then a write failed
  pub runs_broke : (u rest : List ℕ) (h : Sent s.unsent o rest o') → Runs s (sight a n l r o k) (wrote h.written) (record s { turn = turn.Leave served.WriteFault; unsent = u }) (sight a n l r o' k')
  runs_broke u rest h = record {
    last = s.stage.serial;
    rest = rest;
    client = refl;
    around = subst (λ (p : Place). Around s.client p [] [] Inside) (sym (ap place_of serves)) refl;
    grew = grew_none a;
    came_in = behind_none l;
    bytes = refl;
    before = omega arith;
    each = refl;
    phase = refl;
    answers = (refl, refl, refl);
    output = append-nil s.unsent ∙ h.bytes;
    went_out = h.went_out;
    whole = λ x. absurd x;
    held = λ x. refl;
    within = λ x. x;
    outside = λ x. absurd (not_outside s [] serves x);
    unentered = λ e x is. absurd (not_outside s [] serves x);
    unsaid = λ from to. absurd (write_fault_isnt to);
    still = λ e is. absurd (unmet e is);
    counted = record { busy = omega arith; reading = none_falls r; writing = falls };
  }

-- ---- asking

-- an item was asked
module _ (s t : Standing) (serves : s.turn ≡ turn.Serve) (inside : place_of t.turn ≡ Inside) (sent : s.unsent ≡ []) (client : t.client ≡ s.client) (item : List ℕ) (act : Act) (os : List Outcome) (left : s.left ≡ item ++ t.left) (is : IsItem s.client s.stage.phase item act)
    (phase : t.stage.phase ≡ next_phase s.client s.stage.phase item) (before : t.before ≡ s.before + length item) (each : AreOf (asked_by act) os) where
  unmet_yet : (e : Served) → met_by s.turn ≡ Some e → ⊥
  unmet_yet e was = let none : met_by s.turn ≡ None = ap met_by serves in absurd (cc)

  around_one : Around s.client (place_of s.turn) os os (place_of t.turn)
  around_one =
      let here : place_of s.turn ≡ Inside = ap place_of serves in
      subst (λ (q : Place). Around s.client (place_of s.turn) os os q) (sym inside) (subst (λ (p : Place). Around s.client p os os Inside) (sym here) refl)

  bytes_one : s.left ++ [] ≡ joined (item ∷ []) ++ (t.left ++ [])
  bytes_one =
      append-nil s.left
      ∙ (left
      ∙ (ap (λ (z : List ℕ). z ++ t.left) (sym (append-nil item))
      ∙ ap (λ (z : List ℕ). (item ++ []) ++ z) (sym (append-nil t.left))))

  pub runs_asked : (a b : Seated) (n m : ℕ) (l : Option (List ℕ)) (r : Counts) (o : Option (List ℕ)) (k : Counts) → n ≤ m → Grew a os b
      → (IsWhole (met_by t.turn) → (t.unsent ≡ joined (pieces_of s.client act s.stage.serial os)) × (t.stage.serial ≡ serial_past s.client act s.stage.serial os)) → (met_by t.turn ≡ Some served.Memory → MayLack act os) → Runs s (sight a n l r o k) (asked_one s.client s.stage.serial item act os) t (sight b m l r o k)
  runs_asked a b n m l r o k more grew said lacks = record {
    last = serial_past s.client act s.stage.serial os;
    rest = joined (pieces_of s.client act s.stage.serial os);
    client = client;
    around = around_one;
    grew = grew;
    came_in = behind_none l;
    bytes = bytes_one;
    before = before ∙ ap (λ (z : List ℕ). s.before + length z) (sym (append-nil item));
    each = (act, [], refl, is, refl);
    phase = phase;
    answers = (os, [], pieces_of s.client act s.stage.serial os, [], serial_past s.client act s.stage.serial os, sym (append-nil os), sym (append-nil (pieces_of s.client act s.stage.serial os)), record { asked = each; said = refl; serial_is = refl }, (refl, refl, refl));
    output = ap (λ (z : List ℕ). z ++ joined (pieces_of s.client act s.stage.serial os)) sent;
    went_out = appended_none o;
    whole = λ h. (sym (said h).0, sym (said h).1);
    held = λ h. refl;
    within = λ h. let l = length-append item t.left in let e = ap length left in omega (arith, before, l, e, h);
    outside = λ h. absurd (not_outside s os serves h);
    unentered = λ e h is. absurd (not_outside s os serves h);
    unsaid = λ from to. inr (record { before = []; last = act; outcomes = os; serial = s.stage.serial; pieces = []; acts = refl; said = refl; rest_is = refl; lacks = lacks to });
    still = λ e was. absurd (unmet_yet e was);
    counted = record { busy = more; reading = none_falls r; writing = none_falls k };
  }

-- ---- reading

module _ (s : Standing) (serves : s.turn ≡ turn.Serve) (a : Seated) (n : ℕ) (l l' : Option (List ℕ)) (r r' : Counts) (o : Option (List ℕ)) (k : Counts) (falls : NoneFalls r r') (piece : List ℕ) (came_in : l ≡ behind piece l') where
  unmet_here : (e : Served) → met_by s.turn ≡ Some e → ⊥
  unmet_here e was = let none : met_by s.turn ≡ None = ap met_by serves in absurd (cc)

  -- nothing else is done, where nothing is to be asked or written first
  pub reads_alone : (passed : List ℕ) → IsIdle s → ReadsAlone s (read_one piece passed)
  reads_alone passed idle = (ap met_by serves, idle, refl, refl, refl)

  -- a piece is held, where no whole item is left and nothing is unsent
  pub runs_read : IsIdle s → (s.before + length s.left ≤ longest → s.before + length (s.left ++ piece) ≤ longest) → Runs s (sight a n l r o k) (read_one piece []) (record s { left = s.left ++ piece }) (sight a n l' r' o k)
  runs_read idle fits = record {
    last = s.stage.serial;
    rest = s.unsent;
    client = refl;
    around = around_none s.client (place_of s.turn);
    grew = grew_none a;
    came_in = came_in;
    bytes = sym (append-nil (s.left ++ piece));
    before = omega arith;
    each = refl;
    phase = refl;
    answers = (refl, refl, refl);
    output = append-nil s.unsent;
    went_out = appended_none o;
    whole = λ h. (refl, refl);
    held = λ h. refl;
    within = fits;
    outside = λ h. absurd (not_outside s [] serves h);
    unentered = λ e h is. absurd (not_outside s [] serves h);
    unsaid = λ from to. inl idle.1;
    still = λ e was. absurd (unmet_here e was);
    counted = record { busy = omega arith; reading = falls; writing = none_falls k };
  }

  -- or passed over, where an ending is met
  pub runs_passed : IsIdle s → (e : Served) → (IsHeld (Some e) → piece ≡ []) → Runs s (sight a n l r o k) (read_one piece piece) (turned s (turn.Leave e)) (sight a n l' r' o k)
  runs_passed idle e why = record {
    last = s.stage.serial;
    rest = s.unsent;
    client = refl;
    around = subst (λ (p : Place). Around s.client p [] [] Inside) (sym (ap place_of serves)) refl;
    grew = grew_none a;
    came_in = came_in;
    bytes = refl;
    before = omega arith;
    each = refl;
    phase = refl;
    answers = (refl, refl, refl);
    output = append-nil s.unsent;
    went_out = appended_none o;
    whole = λ h. (refl, refl);
    held = why;
    within = λ h. h;
    outside = λ h. absurd (not_outside s [] serves h);
    unentered = λ f h is. absurd (not_outside s [] serves h);
    unsaid = λ from to. inl idle.1;
    still = λ met was. absurd (unmet_here met was);
    counted = record { busy = omega arith; reading = falls; writing = none_falls k };
  }
