-- Items that are asked and answered, one part after another.
use Rattle.std.proofs.Common.{◌≡◌, ℕ, arith, List, [], ◌∷◌, ◌++◌, Option, Result, Ok, Err, IfOk, refl, sym, ap, ◌∙◌, subst}
use Rattle.std.proofs.lemmas.List.{append-nil, append_assoc}
use Rattle.portal_model.specs.Seated.{Seated}
use Rattle.session.specs.declared.act.Act.{Act}
use Rattle.session.specs.declared.act.Client.{Client}
use Rattle.session.specs.declared.phase.Phase.{Phase}
use Rattle.session.specs.declared.serve.Stage.{Stage}
use Rattle.session.specs.declared.served.Fed.{Fed}
use Rattle.session.specs.declared.served.Fed.TheVariants.{More, Over, WriteFault, Memory}
use Rattle.session.specs.Cuts.{next_phase}
use Rattle.session.specs.Items.{AreItems, IsItem, joined, phase_after}
use Rattle.session.specs.Answers.{Answers, AreOf, Gives, Outcome, pieces_of, serial_past}
use Rattle.session.specs.Asked.{asked_by}
use Rattle.session.specs.Lacks.{MayLack}
use Rattle.session.specs.Ledger.{ActEnds, Began, Broke, BrokeUnsaid, Did, Grew, Grows, LacksAt, Sends, SendsPart, World, world}
use Rattle.session.proofs.Grew.{grows_none, grows_on, onto_none}

-- ---- items

pub joined-append : (is js : List (List ℕ)) → joined (is ++ js) ≡ joined is ++ joined js
joined-append [] js = refl
joined-append (i ∷ is) js = ap (λ (z : List ℕ). i ++ z) (joined-append is js) ∙ sym (append_assoc i (joined is) (joined js))

pub phase-append : (is js : List (List ℕ)) (c : Client) (p : Phase) → phase_after c p (is ++ js) ≡ phase_after c (phase_after c p is) js
phase-append [] js c p = refl
phase-append (i ∷ is) js c p = phase-append is js c (next_phase c p i)

pub items-append : (is js : List (List ℕ)) (c : Client) (p : Phase) (xs ys : List Act) → AreItems c p is xs → AreItems c (phase_after c p is) js ys → AreItems c p (is ++ js) (xs ++ ys)
items-append [] js c p xs ys a b = subst (λ (z : List Act). AreItems c p js (z ++ ys)) (sym a) b
items-append (i ∷ is) js c p xs ys (act, later, e, item, more) b =
    (act, later ++ ys, ap (λ (z : List Act). z ++ ys) e, item, items-append is js c (next_phase c p i) later ys more b)

pub answers-append : (xs ys : List Act) (c : Client) (s m n : ℕ) (os us : List Outcome) (ps qs : List (List ℕ)) → Answers c s xs os ps m → Answers c m ys us qs n → Answers c s (xs ++ ys) (os ++ us) (ps ++ qs) n
answers-append [] ys c s m n os us ps qs a b = rw (a.0, a.1) (subst (λ (z : ℕ). Answers c z ys us qs n) a.2 b)
answers-append (x ∷ xs) ys c s m n os us ps qs (o1, o2, p1, p2, mid, oe, pe, gives, more) b = (
  o1,
  o2 ++ us,
  p1,
  p2 ++ qs,
  mid,
  ap (λ (z : List Outcome). z ++ us) oe ∙ append_assoc o1 o2 us,
  ap (λ (z : List (List ℕ)). z ++ qs) pe ∙ append_assoc p1 p2 qs,
  gives,
  answers-append xs ys c mid m n o2 us p2 qs more b,
)

-- ---- done

pub did_none : (c : Client) (s : Stage) (w : World) → Did c s w [] s w
did_none c s w = record { items = []; acts = []; outcomes = []; pieces = []; bytes_are = refl; each = refl; phase = refl; answers = (refl, refl, refl); grows = grows_none w; sound = refl }

pub did_on : (c : Client) (s t x : Stage) (u v w : World) (b1 b2 : List ℕ) → Did c s u b1 t v → Did c t v b2 x w → Did c s u (b1 ++ b2) x w
did_on c s t x u v w b1 b2 a b = record {
  items = a.items ++ b.items;
  acts = a.acts ++ b.acts;
  outcomes = a.outcomes ++ b.outcomes;
  pieces = a.pieces ++ b.pieces;
  bytes_are = ap (λ (z : List ℕ). z ++ b2) a.bytes_are ∙ (ap (λ (z : List ℕ). joined a.items ++ z) b.bytes_are ∙ sym (joined-append a.items b.items));
  each = items-append a.items b.items c s.phase a.acts b.acts a.each (subst (λ (p : Phase). AreItems c p b.items b.acts) a.phase b.each);
  phase = b.phase ∙ (ap (λ (p : Phase). phase_after c p b.items) a.phase ∙ sym (phase-append a.items b.items c s.phase));
  answers = answers-append a.acts b.acts c s.serial t.serial x.serial a.outcomes b.outcomes a.pieces b.pieces a.answers b.answers;
  grows = grows_on u v w a.outcomes b.outcomes a.pieces b.pieces a.grows b.grows;
  sound = b.sound ∙ a.sound;
}

pub did_one : (c : Client) (s t : Stage) (v w : World) (item : List ℕ) (act : Act) (os : List Outcome) (ps : List (List ℕ)) → IsItem c s.phase item act → t.phase ≡ next_phase c s.phase item
    → Gives c act s.serial os ps t.serial → Grows v os ps w → w.faults ≡ v.faults → Did c s v item t w
did_one c s t v w item act os ps is phase gives grows sound = record {
  items = item ∷ [];
  acts = act ∷ [];
  outcomes = os;
  pieces = ps;
  bytes_are = sym (append-nil item);
  each = (act, [], refl, is, refl);
  phase = phase;
  answers = (os, [], ps, [], t.serial, sym (append-nil os), sym (append-nil ps), gives, (refl, refl, refl));
  grows = grows;
  sound = sound;
}

-- ---- ends of one act

module _ (c : Client) (act : Act) (serial : ℕ) (os : List Outcome) (v w : Seated) (grew : Grew v os w) (o n : Option (List (List ℕ))) (a b : ℕ) where
  pub act_sent : (ps : List (List ℕ)) (last : ℕ) → Gives c act serial os ps last → Sends {X = ℕ} ps (Ok last) o a n b → ActEnds c (Ok last) act serial (world v o a) (world w n b)
  act_sent ps last gives h = (os, ps, gives, record { desk = grew; told = h.0; faults = let same = h.1 in omega arith }, h.1)

  pub act_halted : (halt : Fed) (ps : List (List ℕ)) (last : ℕ) → Gives c act serial os ps last → SendsPart ps halt o a n b → ActEnds c (Err halt) act serial (world v o a) (world w n b)
  act_halted WriteFault ps last gives h = (record { outcomes = os; pieces = ps; written = h.0; last = last; gives = gives; grows = record { desk = grew; told = h.2; faults = h.3 }; short = h.1 }, h.4)
  act_halted Memory ps last gives h = (record { outcomes = os; pieces = ps; written = []; last = last; gives = gives; grows = record { desk = grew; told = h.0 ∙ onto_none o; faults = let same = h.1 in omega arith }; short = tt }, refl, h.1)
  act_halted More ps last gives h = absurd h
  act_halted (Over ending) ps last gives h = absurd h

  -- there was no memory for what isn't sure of it
  pub act_lacked : (ps : List (List ℕ)) (last : ℕ) → Gives c act serial os ps last → SendsPart ps Memory o a n b → MayLack act os → LacksAt c act serial (world v o a) (world w n b) Memory
  unfolding act_halted
  act_lacked ps last gives h lack = (act_halted Memory ps last gives h, lack)

  -- how pieces that are told ended, and the last serial
  pub act_ends : (r : Result ℕ Fed) (ps : List (List ℕ)) → AreOf (asked_by act) os → ps ≡ pieces_of c act serial os → Sends ps r o a n b → IfOk r (λ last. last ≡ serial_past c act serial os) → ActEnds c r act serial (world v o a) (world w n b)
  act_ends (Ok last) ps asked said h is = act_sent ps last (record { asked = asked; said = said; serial_is = is }) h
  act_ends (Err halt) ps asked said h is = act_halted halt ps (serial_past c act serial os) (record { asked = asked; said = said; serial_is = refl }) h

-- ---- fronts

pub broke_on : (c : Client) (s t : Stage) (u v w : World) (b1 b2 : List ℕ) → Did c s u b1 t v → Broke c t v b2 w → Broke c s u (b1 ++ b2) w
broke_on c s t u v w b1 b2 a b = record {
  front = b1 ++ b.front;
  item = b.item;
  after = b.after;
  mid = b.mid;
  then = b.then;
  act = b.act;
  bytes_are = ap (λ (z : List ℕ). b1 ++ z) b.bytes_are ∙ sym (append_assoc b1 b.front (b.item ++ b.after));
  did = did_on c s t b.mid u v b.then b1 b.front a b.did;
  is_item = b.is_item;
  halted = b.halted;
}

pub unsaid_on : (c : Client) (s t : Stage) (u v w : World) (b1 b2 : List ℕ) → Did c s u b1 t v → BrokeUnsaid c t v b2 w → BrokeUnsaid c s u (b1 ++ b2) w
unfolding broke_on
unsaid_on c s t u v w b1 b2 a b = (broke_on c s t u v w b1 b2 a b.0, b.1, b.2 ∙ a.sound, b.3)

pub began_on : (c : Client) (s t : Stage) (u v w : World) (b1 b2 : List ℕ) → Did c s u b1 t v → Began c t v b2 w → Began c s u (b1 ++ b2) w
began_on c s t u v w b1 b2 a b = record {
  front = b1 ++ b.front;
  after = b.after;
  mid = b.mid;
  bytes_are = ap (λ (z : List ℕ). b1 ++ z) b.bytes_are ∙ sym (append_assoc b1 b.front b.after);
  did = did_on c s t b.mid u v w b1 b.front a b.did;
}
