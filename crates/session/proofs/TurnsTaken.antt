-- A session that is fed and pushed takes its turns one after another.
use Rattle.std.proofs.Common.{◌≡◌, ℕ, ◌+◌, List, [], ◌∷◌, ◌++◌, length, map, true, Option, Some, None, Ok, refl, sym, ap, ◌∙◌, subst, arith}
use Rattle.std.specs.List.{flat_map}
use Rattle.std.proofs.lemmas.List.{append-nil, append_assoc, length-append, map-append}
use Rattle.dbus_types.specs.declared.message.OutMessage.{OutMessage}
use Rattle.session.specs.declared.act.Act.{Act}
use Rattle.session.specs.declared.act.Client.{Client}
use Rattle.session.specs.declared.phase.Phase.{Phase}
use Rattle.session.specs.declared.serve.Stage.{Stage}
use Rattle.session.specs.declared.served.Stop.TheVariants as stop
use Rattle.session.specs.Answers.{Answers, Gives, Outcome, last_spoken, signals_for, spoken}
use Rattle.session.specs.Items.{AreItems, Items, Remains, joined, phase_after}
use Rattle.session.specs.Ledger.{Did, Grows, World}
use Rattle.session.specs.Pushes.{Tells, with_serial}
use Rattle.session.specs.Standings.{Standing, stage}
use Rattle.session.specs.Turns.{Placed, TakesTurns, Turns, TurnsAreTaken, act_at, acts_in, stream_of}
use Rattle.session.proofs.Grew.{grows_none, grows_on}
use Rattle.session.proofs.DidItems.{answers-append, items-append, joined-append, phase-append}

-- ---- what is asked, with the pushes among it

acts-append : (xs ys : List (Option Act)) → acts_in (xs ++ ys) ≡ acts_in xs ++ acts_in ys
acts-append [] ys = refl
acts-append (Some act ∷ xs) ys = ap (λ (z : List Act). act ∷ z) (acts-append xs ys)
acts-append (None ∷ xs) ys = acts-append xs ys

all_acts : (acts : List Act) → acts_in (map Some acts) ≡ acts
all_acts [] = refl
all_acts (act ∷ acts) = ap (λ (z : List Act). act ∷ z) (all_acts acts)

as_asked : (acts : List Act) → map act_at (map Some acts) ≡ acts
as_asked [] = refl
as_asked (act ∷ acts) = ap (λ (z : List Act). act ∷ z) (as_asked acts)

-- ---- items and pushes, one part after another

-- these items, and this that they and pushes among them ask: each is asked and answered
record Marked (c : Client) (s : Stage) (v : World) (items : List (List ℕ)) (asked : List (Option Act)) (t : Stage) (w : World) : Type 0 where
  outcomes : List Outcome
  pieces : List (List ℕ)
  each : AreItems c s.phase items (acts_in asked)
  phase : t.phase ≡ phase_after c s.phase items
  answers : Answers c s.serial (map act_at asked) outcomes pieces t.serial
  grows : Grows v outcomes pieces w
  sound : w.faults ≡ v.faults

marked_none : (c : Client) (s : Stage) (w : World) → Marked c s w [] [] s w
marked_none c s w = record { outcomes = []; pieces = []; each = refl; phase = refl; answers = (refl, refl, refl); grows = grows_none w; sound = refl }

marked_did : (c : Client) (s t : Stage) (v w : World) (bytes : List ℕ) (d : Did c s v bytes t w) → Marked c s v d.items (map Some d.acts) t w
marked_did c s t v w bytes d = record {
  outcomes = d.outcomes;
  pieces = d.pieces;
  each = subst (AreItems c s.phase d.items) (sym (all_acts d.acts)) d.each;
  phase = d.phase;
  answers = subst (λ (acts : List Act). Answers c s.serial acts d.outcomes d.pieces t.serial) (sym (as_asked d.acts)) d.answers;
  grows = d.grows;
  sound = d.sound;
}

told_messages : (o : Outcome) → flat_map signals_for (o ∷ []) ++ [] ≡ signals_for o
told_messages o = append-nil (signals_for o ++ []) ∙ append-nil (signals_for o)

marked_push : (c : Client) (s : Stage) (last : ℕ) (v w : World) → Tells (Ok last) s.serial v w → Marked c s v [] (None ∷ []) (stage s.phase last) w
marked_push c s last v w (t, said, serial, sound) = record {
  outcomes = t.outcome ∷ [];
  pieces = t.written;
  each = refl;
  phase = refl;
  answers = (
    t.outcome ∷ [],
    [],
    t.written,
    [],
    last,
    refl,
    sym (append-nil t.written),
    record {
      asked = (t.outcome, [], refl, t.is_of, refl);
      said = said ∙ ap (spoken s.serial) (sym (told_messages t.outcome));
      serial_is = serial ∙ ap (last_spoken s.serial) (sym (told_messages t.outcome));
    },
    (refl, refl, refl),
  );
  grows = t.grows;
  sound = sound;
}

marked_on : (c : Client) (s t x : Stage) (u v w : World) (is js : List (List ℕ)) (xs ys : List (Option Act)) → Marked c s u is xs t v → Marked c t v js ys x w → Marked c s u (is ++ js) (xs ++ ys) x w
marked_on c s t x u v w is js xs ys a b = record {
  outcomes = a.outcomes ++ b.outcomes;
  pieces = a.pieces ++ b.pieces;
  each = subst (AreItems c s.phase (is ++ js)) (sym (acts-append xs ys))
      (items-append is js c s.phase (acts_in xs) (acts_in ys) a.each (subst (λ (p : Phase). AreItems c p js (acts_in ys)) a.phase b.each));
  phase = b.phase ∙ (ap (λ (p : Phase). phase_after c p js) a.phase ∙ sym (phase-append is js c s.phase));
  answers = subst (λ (acts : List Act). Answers c s.serial acts (a.outcomes ++ b.outcomes) (a.pieces ++ b.pieces) x.serial) (sym (map-append act_at xs ys))
      (answers-append (map act_at xs) (map act_at ys) c s.serial t.serial x.serial a.outcomes b.outcomes a.pieces b.pieces a.answers b.answers);
  grows = grows_on u v w a.outcomes b.outcomes a.pieces b.pieces a.grows b.grows;
  sound = b.sound ∙ a.sound;
}

-- ---- turns

-- what turns came to
record Taken (s : Standing) (v : World) (turns : List (Option (List ℕ))) (t : Standing) (w : World) : Type 0 where
  items : List (List ℕ)
  asked : List (Option Act)
  bytes : s.rest ++ stream_of turns ≡ joined items ++ t.rest
  marked : Marked s.client s.stage v items asked t.stage w
  placed : Placed s.client s.stage.phase s.rest turns items asked
  before : t.before ≡ s.before + length (joined items)
  client : t.client ≡ s.client
  remains : Remains s.client t.stage.phase t.rest stop.More

turns_taken : (turns : List (Option (List ℕ))) (s : Standing) (v : World) (t : Standing) (w : World) → Remains s.client s.stage.phase s.rest stop.More → Turns s v turns t w → Taken s v turns t w
turns_taken [] s v t w few (same, still) =
    subst (λ (z : Standing). Taken s v [] z w) (sym same) (subst (λ (z : World). Taken s v [] s z) (sym still) (record {
      items = [];
      asked = [];
      bytes = append-nil s.rest;
      marked = marked_none s.client s.stage v;
      placed = (refl, refl);
      before = omega arith;
      client = refl;
      remains = few;
    }))
turns_taken (Some piece ∷ turns) s v t w few (m, x, (took, keeps), more) =
    let here : m.client ≡ s.client = took.client in
    let did = took.did in
    let few_left : Remains m.client m.stage.phase m.rest stop.More = subst (λ (c : Client). Remains c m.stage.phase m.rest stop.More) (sym here) took.remains in
    let k = turns_taken turns m x t w few_left more in
    let rest_marked : Marked s.client m.stage x k.items k.asked t.stage w = subst (λ (c : Client). Marked c m.stage x k.items k.asked t.stage w) here k.marked in
    let cut : s.rest ++ piece ≡ joined did.items ++ m.rest = took.bytes ∙ ap (λ (z : List ℕ). z ++ m.rest) did.bytes_are in
    let both = joined-append did.items k.items in
    let sizes = length-append (joined did.items) (joined k.items) in
    let all = ap length both in
    let taken = ap length did.bytes_are in
    let first = took.before in
    let second = k.before in
    record {
      items = did.items ++ k.items;
      asked = map Some did.acts ++ k.asked;
      bytes = sym (append_assoc s.rest piece (stream_of turns))
          ∙ (ap (λ (z : List ℕ). z ++ stream_of turns) cut
          ∙ (append_assoc (joined did.items) m.rest (stream_of turns)
          ∙ (ap (λ (z : List ℕ). joined did.items ++ z) k.bytes
          ∙ (sym (append_assoc (joined did.items) (joined k.items) t.rest) ∙ ap (λ (z : List ℕ). z ++ t.rest) (sym both)))));
      marked = marked_on s.client s.stage m.stage t.stage v x w did.items k.items (map Some did.acts) k.asked (marked_did s.client s.stage m.stage v x took.taken did) rest_marked;
      placed = (
        did.items,
        k.items,
        did.acts,
        k.asked,
        m.rest,
        refl,
        refl,
        record { bytes = cut; each = did.each; remains = subst (λ (p : Phase). Remains s.client p m.rest stop.More) did.phase took.remains },
        subst (λ (p : Phase). Placed s.client p m.rest turns k.items k.asked) did.phase (subst (λ (c : Client). Placed c m.stage.phase m.rest turns k.items k.asked) here k.placed),
      );
      before = omega (arith, sizes, all, taken, first, second);
      client = k.client ∙ here;
      remains = subst (λ (c : Client). Remains c t.stage.phase t.rest stop.More) here k.remains;
    }
turns_taken (None ∷ turns) s v t w few (m, x, (last, is, tells), more) =
    let here : m.client ≡ s.client = ap (λ (z : Standing). z.client) is in
    let rest : m.rest ≡ s.rest = ap (λ (z : Standing). z.rest) is in
    let at : m.stage ≡ stage s.stage.phase last = ap (λ (z : Standing). z.stage) is in
    let first : m.before ≡ s.before = ap (λ (z : Standing). z.before) is in
    let few_left : Remains m.client m.stage.phase m.rest stop.More = subst (λ (z : Standing). Remains z.client z.stage.phase z.rest stop.More) (sym is) few in
    let k = turns_taken turns m x t w few_left more in
    let push : Marked s.client s.stage v [] (None ∷ []) m.stage x = subst (λ (z : Stage). Marked s.client s.stage v [] (None ∷ []) z x) (sym at) (marked_push s.client s.stage last v x tells) in
    let rest_marked : Marked s.client m.stage x k.items k.asked t.stage w = subst (λ (c : Client). Marked c m.stage x k.items k.asked t.stage w) here k.marked in
    let second = k.before in
    record {
      items = k.items;
      asked = None ∷ k.asked;
      bytes = ap (λ (z : List ℕ). z ++ stream_of turns) (sym rest) ∙ k.bytes;
      marked = marked_on s.client s.stage m.stage t.stage v x w [] k.items (None ∷ []) k.asked push rest_marked;
      placed = (k.asked, refl, subst (λ (z : Standing). Placed z.client z.stage.phase z.rest turns k.items k.asked) is k.placed);
      before = omega (arith, first, second);
      client = k.client ∙ here;
      remains = subst (λ (c : Client). Remains c t.stage.phase t.rest stop.More) here k.remains;
    }

pub turns_are_taken : TurnsAreTaken
turns_are_taken s v turns t w few h =
    let k = turns_taken turns s v t w few h in
    let d = k.marked in
    record {
      items = k.items;
      asked = k.asked;
      outcomes = d.outcomes;
      pieces = d.pieces;
      bytes = k.bytes;
      each = d.each;
      remains = k.remains;
      placed = k.placed;
      phase = d.phase;
      before = k.before;
      client = k.client;
      answers = d.answers;
      grows = d.grows;
      sound = d.sound;
    }
