-- Lines run one after another.
use Prim.Native.Nat.{zero}
use Rattle.std.proofs.Common.{◌≡◌, ◌⊎◌, ℕ, suc, ◌+◌, ◌*◌, ◌<◌, ◌≤◌, List, [], ◌∷◌, ◌++◌, length, take, drop, get_or, Option, Some, None, Bool, true, false, not, refl, sym, ap, ◌∙◌, subst, inl, inr, append_assoc, add-one, arith, drop-cons, length-take}
use Rattle.std.proofs.Math.Seq.{take-suc}
use Rattle.std.proofs.lemmas.List.{append-nil, take-append-drop, take_all}
use Rattle.portal_base.specs.Outside.{HasRisen, Short, onto}
use Rattle.portal_steps.specs.Story.{state_first, limit_of}
use Rattle.portal_model.specs.declared.entry.Entry.{Entry}
use Rattle.portal_model.specs.History.{cost}
use Rattle.portal_model.specs.State.{State}
use Rattle.portal_model.proofs.Histories.{cost-append}
use Rattle.script_lines.specs.declared.script.ScriptLine.{ScriptLine}
use Rattle.script_lines.specs.declared.script.ScriptLine.TheVariants.{Open}
use Rattle.script_lines.specs.Lines.{line_text, text_of}
use Rattle.script_form.specs.Order.{StandBehind, goes_with}
use Rattle.session.specs.Standings.{Standing}
use Rattle.script_replay.specs.declared.error.LineError.{LineError}
use Rattle.script_replay.specs.declared.error.LineError.TheVariants as not_run
use Rattle.script_replay.specs.Lines.{Does}
use Rattle.script_replay.specs.Plays.{Plays, PlaysAll, PlaysPart, PlaysUpTo, PlayStops, status_of}
use Rattle.script_replay.specs.Scenes.{Scene, ScriptPortal, held_in, sessions_of}
use Rattle.script_replay.specs.Steps.{Agrees, Breaks, HaveRoom, IsNew, MayPlay, MayRun, Runs, WritesPart, scene}
use Rattle.script_replay.proofs.Costs.{text_more}
use Rattle.script_replay.proofs.NextLineMayRun.{AreClosed, does_agree, does_close, does_cost, does_room, holds_less}

-- ---- what is told

pub onto_none : (o : Option (List (List ℕ))) → o ≡ onto o []
onto_none None = refl
onto_none (Some told) = ap Some (sym (append-nil told))

pub onto_more : (o : Option (List (List ℕ))) (first more : List (List ℕ)) → onto (onto o first) more ≡ onto o (first ++ more)
onto_more None first more = refl
onto_more (Some told) first more = ap Some (append_assoc told first more)

pub short_after : (first pieces whole : List (List ℕ)) → Short pieces whole → Short (first ++ pieces) (first ++ whole)
short_after [] pieces whole h = h
short_after (x ∷ xs) pieces whole h = inl (refl, short_after xs pieces whole h)

pub short_more : (pieces whole more : List (List ℕ)) → Short pieces whole → Short pieces (whole ++ more)
short_more [] whole more h = tt
short_more (w ∷ ws) [] more h = absurd h
short_more (w ∷ ws) (p ∷ ps) more h = elim h as (λ _. Short (w ∷ ws) ((p ∷ ps) ++ more)) [ inl both ↦ inl (both.0, short_more ws ps more both.1) | inr front ↦ inr front ]

-- ---- lines that were run, and one more

pub plays_on : (front : List ScriptLine) (a b c : Scene) (line : ScriptLine) (es fs : List Entry) (out said : List (List ℕ)) → Plays a front es out b → Does b line fs said c → Plays a (front ++ line ∷ []) (es ++ fs) (out ++ said) c
plays_on [] a b c line es fs out said h d =
    let does : Does a line fs said c = subst (λ (z : Scene). Does z line fs said c) h.2 d in
    (fs, [], said, [], c, ap (λ (z : List Entry). z ++ fs) h.0 ∙ sym (append-nil fs), ap (λ (z : List (List ℕ)). z ++ said) h.1 ∙ sym (append-nil said), does, (refl, refl, refl))
plays_on (x ∷ front) a b c line es fs out said (first, more, here, later, mid, entries_are, out_is, does, plays) d = (
  first,
  more ++ fs,
  here,
  later ++ said,
  mid,
  ap (λ (z : List Entry). z ++ fs) entries_are ∙ append_assoc first more fs,
  ap (λ (z : List (List ℕ)). z ++ said) out_is ∙ append_assoc here later said,
  does,
  plays_on front mid b c line more fs later said plays d,
)

-- the lines up to this index were run, their history is stored, and their output is written
pub record Played (old : ScriptPortal) (lines : List ScriptLine) (told told' : Option (List (List ℕ))) (index : ℕ) (now : ScriptPortal) (table : List (Option Standing)) : Type 0 where
  pub history : List Entry
  pub out : List (List ℕ)
  pub plays : Plays (scene old []) (take index lines) history out (scene now table)
  pub stored : now.story.history ≡ old.story.history ++ history
  pub wrote : told' ≡ onto told out

pub played_none : (p : ScriptPortal) (lines : List ScriptLine) (told : Option (List (List ℕ))) → Played p lines told told 0 p []
played_none p lines told = record { history = []; out = []; plays = (refl, refl, refl); stored = sym (append-nil p.story.history); wrote = onto_none told }

rest_is : (lines : List ScriptLine) (index : ℕ) (line : ScriptLine) → index < length lines → line ≡ get_or lines index line → drop index lines ≡ line ∷ drop (index + 1) lines
rest_is lines index line h is = rw (add-one, drop-cons lines index line) (ap (λ (x : ScriptLine). x ∷ drop (suc index) lines) (sym is))

front_is : (lines : List ScriptLine) (index : ℕ) (line : ScriptLine) → index < length lines → line ≡ get_or lines index line → take (index + 1) lines ≡ take index lines ++ line ∷ []
front_is lines index line h is = rw (add-one, take-suc lines index line) (ap (λ (x : ScriptLine). take index lines ++ x ∷ []) (sym is))

whole_is : (lines : List ScriptLine) (index : ℕ) (line : ScriptLine) → index < length lines → line ≡ get_or lines index line → lines ≡ take index lines ++ line ∷ drop (index + 1) lines
whole_is lines index line h is = sym (take-append-drop index lines) ∙ ap (λ (z : List ScriptLine). take index lines ++ z) (rest_is lines index line h is)

pub played_on : (first : ScriptPortal) (lines : List ScriptLine) (told told' told'' : Option (List (List ℕ))) (index : ℕ) (p q : ScriptPortal) (table table' : List (Option Standing)) (line : ScriptLine)
    → index < length lines → line ≡ get_or lines index line → Played first lines told told' index p table → Runs p table q table' line told' told'' → Played first lines told told'' (index + 1) q table'
played_on first lines told told' told'' index p q table table' line h is before r = record {
  history = before.history ++ r.entries;
  out = before.out ++ r.out;
  plays = subst (λ (z : List ScriptLine). Plays (scene first []) z (before.history ++ r.entries) (before.out ++ r.out) (scene q table')) (sym (front_is lines index line h is))
      (plays_on (take index lines) (scene first []) (scene p table) (scene q table') line before.history r.entries before.out r.out before.plays r.does);
  stored = r.history ∙ (ap (λ (z : List Entry). z ++ r.entries) before.stored ∙ append_assoc first.story.history before.history r.entries);
  wrote = r.output ∙ (ap (λ (z : Option (List (List ℕ))). onto z r.out) before.wrote ∙ onto_more told before.out r.out);
}

pub played_all : (first now : ScriptPortal) (table : List (Option Standing)) (lines : List ScriptLine) (told told' : Option (List (List ℕ))) (index : ℕ) → length lines ≡ index → Played first lines told told' index now table → PlaysAll first now lines told told'
played_all first now table lines told told' index all p = record {
  history = p.history;
  out = p.out;
  last = scene now table;
  plays = subst (λ (z : List ScriptLine). Plays (scene first []) z p.history p.out (scene now table)) (take_all index lines (omega arith)) p.plays;
  stored = p.stored;
  state = refl;
  output = p.wrote;
}

later : (first last faults : ℕ) → faults ≡ first → HasRisen faults last → HasRisen first last
later first last faults h r = omega arith

-- a front of a line's output was written behind that of the lines before it
part_on : (first : ScriptPortal) (lines : List ScriptLine) (told told' told'' : Option (List (List ℕ))) (index : ℕ) (p : ScriptPortal) (table : List (Option Standing)) (line : ScriptLine)
    → index < length lines → line ≡ get_or lines index line → Played first lines told told' index p table → WritesPart (scene p table) line told' told'' → PlaysPart (scene first []) lines told told''
part_on first lines told told' told'' index p table line h is before (entries, out, b, pieces, does, short, wrote) = record {
  front = take index lines ++ line ∷ [];
  history = before.history ++ entries;
  out = before.out ++ out;
  last = b;
  plays = (
    drop (index + 1) lines,
    whole_is lines index line h is ∙ sym (append_assoc (take index lines) (line ∷ []) (drop (index + 1) lines)),
    plays_on (take index lines) (scene first []) (scene p table) b line before.history entries before.out out before.plays does,
  );
  pieces = before.out ++ pieces;
  part = short_after before.out pieces out short;
  output = wrote ∙ (ap (λ (z : Option (List (List ℕ))). onto z pieces) before.wrote ∙ onto_more told before.out pieces);
}

-- there was no memory at the line
up_to : (first : ScriptPortal) (lines : List ScriptLine) (told told' told'' : Option (List (List ℕ))) (index : ℕ) (p : ScriptPortal) (table : List (Option Standing)) (line : ScriptLine)
    → index < length lines → line ≡ get_or lines index line → Played first lines told told' index p table → told'' ≡ told' → PlaysUpTo (scene first []) lines told told''
up_to first lines told told' told'' index p table line h is before none = record {
  front = take index lines;
  line = line;
  later = drop (index + 1) lines;
  ahead = whole_is lines index line h is;
  history = before.history;
  out = before.out;
  last = scene p table;
  plays = before.plays;
  output = none ∙ before.wrote;
}

pub play_stops : (first : ScriptPortal) (lines : List ScriptLine) (told told' told'' : Option (List (List ℕ))) (faults faults' faults'' : ℕ) (index : ℕ) (p : ScriptPortal) (table : List (Option Standing)) (line : ScriptLine)
    → index < length lines → line ≡ get_or lines index line → faults' ≡ faults → Played first lines told told' index p table
    → (e : LineError) → Breaks (scene p table) line told' faults' told'' faults'' e → PlayStops (scene first []) lines told faults told'' faults'' (status_of e)
play_stops first lines told told' told'' faults faults' faults'' index p table line h is same before not_run.WriteFault b = (later faults faults'' faults' same b.0, part_on first lines told told' told'' index p table line h is before b.1)
play_stops first lines told told' told'' faults faults' faults'' index p table line h is same before not_run.Memory b = (b.0 ∙ same, up_to first lines told told' told'' index p table line h is before b.1)

-- ---- what the lines need

no_true : (b : Bool) → not b ≡ true → b ≡ false
no_true true h = cc
no_true false h = refl

line_new : (line : ScriptLine) (earlier : List ScriptLine) (a : Scene) → goes_with earlier line ≡ true → AreClosed earlier a → IsNew a line
line_new (Open seat kind who) earlier a order closed = closed seat (no_true _ order)
line_new line earlier a order closed = tt

-- what lines ask and what is held behind them is paid by eight times their text, and by what was
-- held
pub plays_cost : (front later earlier : List ScriptLine) (a b : Scene) (history : List Entry) (out : List (List ℕ)) → StandBehind earlier (front ++ later) → Plays a front history out b
    → cost history + 8 * held_in b ≤ 8 * (held_in a + length (text_of front))
plays_cost [] later earlier a b history out stand h =
    let none = ap cost h.0 in
    let same = ap held_in h.2 in
    omega arith
plays_cost (line ∷ front) later earlier a b history out stand (first, more, said, rest, mid, entries_are, out_is, does, plays) =
    let here = does_cost line a mid first said stand.0.itself does in
    let there = plays_cost front later (earlier ++ line ∷ []) mid b more rest stand.1 plays in
    let both : cost history ≡ cost first + cost more = ap cost entries_are ∙ cost-append first more in
    let text = text_more line front in
    omega arith

pub text_joined : (front later : List ScriptLine) → length (text_of (front ++ later)) ≡ length (text_of front) + length (text_of later)
unfolding text_of
text_joined [] later = omega arith
text_joined (line ∷ front) later =
    let rest = text_joined front later in
    let whole = text_more line (front ++ later) in
    let part = text_more line front in
    omega arith

module _ (earlier lines : List ScriptLine) (p : ScriptPortal) (table : List (Option Standing)) (line : ScriptLine) (m : MayPlay earlier p table (line ∷ lines)) where
  is_new : IsNew (scene p table) line
  is_new = line_new line earlier (scene p table) m.stand.0.order m.closed

  next_may_run : MayRun p table line
  next_may_run =
      let text = text_more line lines in
      record {
        told = m.told;
        agrees = m.agrees;
        itself = m.stand.0.itself;
        new = is_new;
        room = omega (arith, m.room);
        space = λ n. holds_less (sessions_of table n) (length (line_text line)) (length (text_of (line ∷ lines))) (omega arith) (m.space n);
      }

  next_may_play : (q : ScriptPortal) (table' : List (Option Standing)) (told told' : Option (List (List ℕ))) → state_first q.story ≡ state_first p.story → Runs p table q table' line told told' → MayPlay (earlier ++ line ∷ []) q table' lines
  next_may_play q table' told told' same r =
      let a = scene p table in
      let b = scene q table' in
      let text = text_more line lines in
      let least = does_cost line a b r.entries r.out m.stand.0.itself r.does in
      let grown : cost q.story.history ≡ cost p.story.history + cost r.entries = ap cost r.history ∙ cost-append p.story.history r.entries in
      let limit : limit_of q.story ≡ limit_of p.story = ap (λ (z : State). z.limits.history) same in
      let more : HaveRoom a (length (line_text line) + 1 + length (text_of lines)) = λ n. holds_less (sessions_of table n) _ (length (text_of (line ∷ lines))) (omega arith) (m.space n) in
      let room = m.room in
      let short = m.short in
      record {
        stand = m.stand.1;
        told = ap (λ (z : State). z.told) same ∙ m.told;
        agrees = does_agree line a b r.entries r.out m.agrees is_new r.does;
        closed = does_close line a b r.entries r.out earlier m.closed r.does;
        room = omega arith;
        space = does_room line a b r.entries r.out (length (text_of lines)) (omega arith) more r.does;
        short = omega arith;
      }

pub may_run : (lines : List ScriptLine) (index : ℕ) (p : ScriptPortal) (table : List (Option Standing)) (line : ScriptLine) → index < length lines → line ≡ get_or lines index line → MayPlay (take index lines) p table (drop index lines) → MayRun p table line
may_run lines index p table line h is m = next_may_run (take index lines) (drop (index + 1) lines) p table line (subst (λ (z : List ScriptLine). MayPlay (take index lines) p table z) (rest_is lines index line h is) m)

pub may_go_on : (lines : List ScriptLine) (index : ℕ) (p q : ScriptPortal) (table table' : List (Option Standing)) (line : ScriptLine) (told told' : Option (List (List ℕ))) → index < length lines → line ≡ get_or lines index line
    → state_first q.story ≡ state_first p.story → MayPlay (take index lines) p table (drop index lines) → Runs p table q table' line told told' → MayPlay (take (index + 1) lines) q table' (drop (index + 1) lines)
may_go_on lines index p q table table' line told told' h is same m r =
    subst (λ (z : List ScriptLine). MayPlay z q table' (drop (index + 1) lines)) (sym (front_is lines index line h is))
    (next_may_play (take index lines) (drop (index + 1) lines) p table line (subst (λ (z : List ScriptLine). MayPlay (take index lines) p table z) (rest_is lines index line h is) m) q table' told told' same r)
