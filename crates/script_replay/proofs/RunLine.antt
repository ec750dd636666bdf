-- What a line comes to, by what was asked of the portal and what was written.
use Rattle.std.proofs.Common.{◌≡◌, ℕ, ◌+◌, ◌*◌, ◌<◌, ◌≤◌, ◌==◌, List, [], ◌∷◌, ◌++◌, length, take, drop, get_or, Option, Some, None, Bool, true, false, Result, Ok, Err, refl, sym, ap, ◌∙◌, subst, inl, inr, add-one, arith}
use Rattle.std.specs.Prelude.{if◌then◌else◌, is_some, map, IfErr, IfSome, OnOk}
use Rattle.std.specs.Option.{option_map}
use Rattle.std.proofs.Math.Path.{fun_ext}
use Rattle.std.proofs.Math.Seq.{take-suc}
use Rattle.std.proofs.lemmas.Bool.Decides.{nat_tests}
use Rattle.std.proofs.lemmas.List.{append-nil, append_assoc, length-append, map-append, take-append-drop}
use Rattle.portal_base.specs.declared.limits.Settings.{Settings}
use Rattle.portal_base.specs.declared.who.Kind.{Kind}
use Rattle.portal_base.specs.declared.who.Who.{Who}
use Rattle.portal_base.specs.Outside.{HasRisen, Short, onto}
use Rattle.portal_steps.specs.Story.{state_first, cost_with, limit_of, state_now}
use Rattle.portal_model.specs.declared.entry.Entry.{Entry}
use Rattle.portal_model.specs.declared.request.Request.{Request}
use Rattle.portal_model.specs.declared.state.Connection.{Connection}
use Rattle.portal_model.specs.History.{cost, run}
use Rattle.portal_model.specs.Seated.{binding_of, bound, is_open}
use Rattle.portal_model.specs.State.{State, connection_of}
use Rattle.portal_model.proofs.Histories.{run-append}
use Rattle.script_lines.specs.declared.script.ScriptLine.{ScriptLine}
use Rattle.script_lines.specs.declared.script.ScriptLine.TheVariants.{Now, Open, Data, Close}
use Rattle.script_lines.specs.Lines.{line_text}
use Rattle.session.specs.declared.act.Client.{Client}
use Rattle.session.specs.declared.served.Fed.{Fed}
use Rattle.script_form.specs.Outside.{Outside}
use Rattle.session.specs.declared.served.Stop.{Stop}
use Rattle.session.specs.declared.served.Stop.TheVariants as stop
use Rattle.session.specs.declared.served.Served.TheVariants.{LineTooLong, Malformed}
use Rattle.session.specs.Sessions.{ending, ending_at}
use Rattle.session.specs.Standings.{Standing, client, fresh, longest}
use Rattle.script_replay.specs.declared.error.LineError.{LineError}
use Rattle.script_replay.specs.declared.error.LineError.TheVariants as not_run
use Rattle.script_replay.specs.Entries.{AreGiven}
use Rattle.script_replay.specs.Lines.{CloseDoes, DataDoes, Does, Hears, set_to}
use Rattle.script_replay.specs.Scenes.{Scene, ScriptPortal, held_by, outside_at, placed, run_settings, sessions_of}
use Rattle.script_replay.specs.Seats.{Asked, HeardAs, HearsNot, IsEnd}
use Rattle.script_replay.specs.Steps.{Agrees, Breaks, GoesOn, MayRun, Opens, Runs, WritesPart, WritesShort, binding, scene}
use Rattle.script_replay.specs.Texts.{end_line, out_line}
use Rattle.script_replay.proofs.Costs.{data_long, enter_cost}
use Rattle.script_replay.proofs.HeldBytes.{one_held}
use Rattle.script_replay.proofs.GivenEntries.{given-append, leave_entry, leave_given}
use Rattle.script_replay.proofs.RunLines.{onto_more, onto_none, short_after, short_more}

-- ---- scenes

state_on : (p q : ScriptPortal) (es : List Entry) → state_first q.story ≡ state_first p.story → q.story.history ≡ p.story.history ++ es → state_now q.story ≡ run (state_now p.story) es
state_on p q es same h = ap (λ (z : State). run z q.story.history) same ∙ (ap (run (state_first p.story)) h ∙ run-append p.story.history es (state_first p.story))

-- where these entries, what is left of the outside and this session lead
abbrev moved : ScriptPortal → List (Option Standing) → ℕ → List Entry → Outside → Option Standing → Scene
moved p table seat es left now = record {
  portal = run (state_now p.story) es;
  outside = left;
  sessions = placed (sessions_of table) seat now;
}

scene_on : (p q : ScriptPortal) (table table' : List (Option Standing)) (seat : ℕ) (es : List Entry) (now : Option Standing) → state_first q.story ≡ state_first p.story → q.story.history ≡ p.story.history ++ es → sessions_of table' ≡ placed (sessions_of table) seat now
    → scene q table' ≡ moved p table seat es (outside_at q) now
scene_on p q table table' seat es now same grown put =
    let state = state_on p q es same grown in
    λ i. record { portal = state i; outside = outside_at q; sessions = put i }

-- one asks, and then again
asked_on : (p q r : ScriptPortal) (seat : ℕ) (rs qs : List Request) → state_first q.story ≡ state_first p.story → Asked p q seat rs → Asked q r seat qs → Asked p r seat (rs ++ qs)
asked_on p q r seat rs qs same first more =
    let es = first.entries in
    let state : state_now q.story ≡ run (state_now p.story) es = state_on p q es same first.history in
    let behind : AreGiven (run (state_now p.story) es) (outside_at q) seat qs more.entries (outside_at r) = subst (λ (z : State). AreGiven z (outside_at q) seat qs more.entries (outside_at r)) state more.given in
    record {
      entries = es ++ more.entries;
      given = given-append rs qs es more.entries (state_now p.story) (outside_at p) seat (outside_at q) (outside_at r) first.given behind;
      history = more.history ∙ (ap (λ (z : List Entry). z ++ more.entries) first.history ∙ append_assoc p.story.history es more.entries);
    }

same_number : (n m : ℕ) → (n == m) ≡ true → n ≡ m
same_number n m h = grind (arith, nat_tests)

emptied_at : (b : Bool) (f : ℕ → Option Standing) (seat n : ℕ) → (n == seat) ≡ b → f seat ≡ None → (if b then None else f n) ≡ f n
emptied_at true f seat n h none = sym (ap f (same_number n seat h) ∙ none)
emptied_at false f seat n h none = refl

-- nothing was there, and nothing is
emptied : (f : ℕ → Option Standing) (seat : ℕ) → f seat ≡ None → placed f seat None ≡ f
emptied f seat none = fun_ext (λ n. emptied_at (n == seat) f seat n refl none)

twice_at : (b : Bool) (x y z : Option Standing) → (if b then x else (if b then y else z)) ≡ (if b then x else z)
twice_at true x y z = refl
twice_at false x y z = refl

placed_twice : (f : ℕ → Option Standing) (seat : ℕ) (x y : Option Standing) → placed (placed f seat y) seat x ≡ placed f seat x
placed_twice f seat x y = fun_ext (λ n. twice_at (n == seat) x y (f n))

pub put_back : (table taken table' : List (Option Standing)) (seat : ℕ) (x : Option Standing) → sessions_of taken ≡ placed (sessions_of table) seat None → sessions_of table' ≡ placed (sessions_of taken) seat x → sessions_of table' ≡ placed (sessions_of table) seat x
put_back table taken table' seat x took put = put ∙ (ap (λ (f : ℕ → Option Standing). placed f seat x) took ∙ placed_twice (sessions_of table) seat x None)

passed : (p : ScriptPortal) (table table' : List (Option Standing)) (seat : ℕ) → None ≡ sessions_of table seat → sessions_of table' ≡ placed (sessions_of table) seat None → scene p table' ≡ scene p table
passed p table table' seat none took = ap (λ (z : ℕ → Option Standing). record { portal = state_now p.story; outside = outside_at p; sessions = z }) (took ∙ emptied (sessions_of table) seat (sym none))

-- ---- open

none_open : (o : Option Connection) → option_map binding_of o ≡ None → is_some o ≡ false
none_open None h = refl
none_open (Some c) h = absurd (cc)

pub open_closed : (p : ScriptPortal) (table : List (Option Standing)) (seat : ℕ) (kind : Kind) (who : Who) → MayRun p table (Open seat kind who) → is_open (state_now p.story) seat ≡ false
open_closed p table seat kind who m = none_open (connection_of (state_now p.story).connections seat) (m.agrees.bound_alike seat ∙ ap (λ (o : Option Standing). option_map binding o) m.new)

pub open_room : (p : ScriptPortal) (table : List (Option Standing)) (seat : ℕ) (kind : Kind) (who : Who) → MayRun p table (Open seat kind who) → cost_with p.story (Request.Enter who kind) ≤ limit_of p.story
open_room p table seat kind who m =
    let high = m.itself.1 in
    let most = enter_cost who seat kind (omega arith) in
    let room = m.room in
    omega arith

pub open_opens : (p q : ScriptPortal) (table table' : List (Option Standing)) (seat : ℕ) (kind : Kind) (who : Who) (settings : Settings) (session : Standing) → settings ≡ run_settings → state_first q.story ≡ state_first p.story
    → (session ≡ fresh (client who kind settings)) × Asked p q seat (Request.Enter who kind ∷ []) → sessions_of table' ≡ placed (sessions_of table) seat (Some session) → Opens p table q table' (Open seat kind who)
open_opens p q table table' seat kind who settings session set same begun put =
    let asked = begun.1 in
    let fresh_is : session ≡ fresh (client who kind run_settings) = begun.0 ∙ ap (λ (z : Settings). fresh (client who kind z)) set in
    record {
      entries = asked.entries;
      does = record {
        left = outside_at q;
        given = asked.given;
        out_is = refl;
        scene = scene_on p q table table' seat asked.entries _ same asked.history (put ∙ ap (λ (z : Standing). placed (sessions_of table) seat (Some z)) fresh_is);
      };
      history = asked.history;
    }

pub opens_run : (p q : ScriptPortal) (table table' : List (Option Standing)) (line : ScriptLine) (told : Option (List (List ℕ))) → Opens p table q table' line → Runs p table q table' line told told
opens_run p q table table' line told o = record { entries = o.entries; out = []; does = o.does; history = o.history; output = onto_none told }

-- ---- a line that is passed over

pub data_passes : (p : ScriptPortal) (table table' : List (Option Standing)) (seat : ℕ) (bytes : List ℕ) (told : Option (List (List ℕ))) → None ≡ sessions_of table seat → sessions_of table' ≡ placed (sessions_of table) seat None → Runs p table p table' (Data seat bytes) told told
data_passes p table table' seat bytes told none took = record {
  entries = [];
  out = [];
  does = subst (λ (o : Option Standing). DataDoes (scene p table) seat bytes o [] [] (scene p table')) none (refl, refl, passed p table table' seat none took);
  history = sym (append-nil p.story.history);
  output = onto_none told;
}

pub close_passes : (p : ScriptPortal) (table table' : List (Option Standing)) (seat : ℕ) (told : Option (List (List ℕ))) → None ≡ sessions_of table seat → sessions_of table' ≡ placed (sessions_of table) seat None → Runs p table p table' (Close seat) told told
close_passes p table table' seat told none took = record {
  entries = [];
  out = [];
  does = subst (λ (o : Option Standing). CloseDoes (scene p table) seat o [] [] (scene p table')) none (refl, refl, passed p table table' seat none took);
  history = sym (append-nil p.story.history);
  output = onto_none told;
}

-- ---- what stands at a number

pub stands_going : (a : Scene) (seat : ℕ) (at : Standing) → Agrees a → Some at ≡ a.sessions seat → GoesOn at
stands_going a seat at agrees e = subst (λ (o : Option Standing). IfSome o GoesOn) (sym e) (agrees.going seat)

pub stands_bound : (a : Scene) (seat : ℕ) (at : Standing) → Agrees a → Some at ≡ a.sessions seat → bound a.portal seat ≡ Some (binding at)
stands_bound a seat at agrees e = agrees.bound_alike seat ∙ ap (λ (o : Option Standing). option_map binding o) (sym e)

pub data_space : (p : ScriptPortal) (table : List (Option Standing)) (seat : ℕ) (bytes : List ℕ) (at : Standing) → MayRun p table (Data seat bytes) → Some at ≡ sessions_of table seat → at.before + length at.rest + length bytes ≤ longest
data_space p table seat bytes at m e =
    let held : at.before + length at.rest + length (line_text (Data seat bytes)) ≤ longest = subst (λ (o : Option Standing). IfSome o (λ (x : Standing). x.before + length x.rest + length (line_text (Data seat bytes)) ≤ longest)) (sym e) (m.space seat) in
    let long = data_long seat bytes in
    omega arith

pub data_room : (p : ScriptPortal) (table : List (Option Standing)) (seat : ℕ) (bytes : List ℕ) (at : Standing) → MayRun p table (Data seat bytes) → Some at ≡ sessions_of table seat → cost p.story.history + 8 * length (at.rest ++ bytes) ≤ limit_of p.story
data_room p table seat bytes at m e =
    let all = length-append at.rest bytes in
    let here : length at.rest ≡ held_by (sessions_of table seat) = ap held_by e in
    let one = one_held (scene p table) seat m.itself.1 in
    let room = m.room in
    let long = data_long seat bytes in
    omega arith

pub binding_now : (at now : Standing) → now.client ≡ at.client → binding now ≡ binding at
binding_now at now e = ap (λ (c : Client). record { who = c.who; kind = c.kind }) e

-- ---- bytes that were heard

module _ (p q : ScriptPortal) (table : List (Option Standing)) (seat : ℕ) (at now : Standing) (bytes : List ℕ) (pieces : List (List ℕ)) (here : Some at ≡ sessions_of table seat) where
  abbrev lines : List (List ℕ)
  lines = map (out_line seat) pieces

  more_does : (h : HeardAs false p q seat at bytes pieces now) → Does (scene p table) (Data seat bytes) h.2.entries lines (moved p table seat h.2.entries (outside_at q) (Some now))
  more_does h =
      let asked = h.2 in
      subst (λ (o : Option Standing). DataDoes (scene p table) seat bytes o asked.entries lines (moved p table seat asked.entries (outside_at q) (Some now))) here
      (stop.More, h.0, pieces, now, h.1, record { left = outside_at q; given = asked.given; out_is = refl; scene = refl }, [], h.3 ∙ sym (append-nil h.1.entries))

  -- with the last line of a connection that ends by itself
  abbrev last : List (List ℕ)
  last = end_line seat (ending now.fed now.rest) ∷ []

  ends_so : (what : Stop) (rs : List Request) (es : List Entry) (left : Outside) → IsEnd what → (x : Hears (state_now p.story) (outside_at p) seat at bytes what rs pieces now) → AreGiven (state_now p.story) (outside_at p) seat (rs ++ Request.Leave ∷ []) es left
      → (later : List Entry) → es ≡ x.entries ++ later → Does (scene p table) (Data seat bytes) es (lines ++ last) (moved p table seat es left None)
  ends_so stop.More rs es left end x given later begins = absurd end
  ends_so (stop.Bad rule) rs es left end x given later begins =
      let said : lines ++ last ≡ lines ++ end_line seat (Malformed now.before rule) ∷ [] = ap (λ (f : Fed). lines ++ end_line seat (ending f now.rest) ∷ []) x.fed in
      subst (λ (o : Option Standing). DataDoes (scene p table) seat bytes o es (lines ++ last) (moved p table seat es left None)) here
      (stop.Bad rule, rs, pieces, now, x, record { left = left; given = given; out_is = said; scene = refl }, later, begins)
  ends_so stop.TooLong rs es left end x given later begins =
      let said : lines ++ last ≡ lines ++ end_line seat (LineTooLong now.before) ∷ [] = ap (λ (f : Fed). lines ++ end_line seat (ending f now.rest) ∷ []) x.fed in
      subst (λ (o : Option Standing). DataDoes (scene p table) seat bytes o es (lines ++ last) (moved p table seat es left None)) here
      (stop.TooLong, rs, pieces, now, x, record { left = left; given = given; out_is = said; scene = refl }, later, begins)

  -- what the whole line comes to, also before the connection has left
  abbrev entries_over : HeardAs true p q seat at bytes pieces now → List Entry
  entries_over h = h.2.2.entries ++ leave_entry seat ∷ []

  end_does : (h : HeardAs true p q seat at bytes pieces now) → Does (scene p table) (Data seat bytes) (entries_over h) (lines ++ last) (moved p table seat (entries_over h) (outside_at q) None)
  end_does h =
      let asked = h.2.2 in
      let leaves = leave_given (run (state_now p.story) asked.entries) (outside_at q) seat in
      ends_so h.0 h.2.0 (entries_over h) (outside_at q) h.1 h.2.1
      (given-append h.2.0 (Request.Leave ∷ []) asked.entries (leave_entry seat ∷ []) (state_now p.story) (outside_at p) seat (outside_at q) (outside_at q) asked.given leaves)
      (leave_entry seat ∷ []) (ap (λ (es : List Entry). es ++ leave_entry seat ∷ []) h.2.3)

  -- the session goes on
  pub more_runs : (table' : List (Option Standing)) (told told' : Option (List (List ℕ))) → HeardAs false p q seat at bytes pieces now → state_first q.story ≡ state_first p.story → sessions_of table' ≡ placed (sessions_of table) seat (Some now)
      → told' ≡ onto told lines → Runs p table q table' (Data seat bytes) told told'
  more_runs table' told told' h same put wrote =
      let asked = h.2 in
      record {
        entries = asked.entries;
        out = lines;
        does = subst (λ (b : Scene). Does (scene p table) (Data seat bytes) asked.entries lines b) (sym (scene_on p q table table' seat asked.entries (Some now) same asked.history put)) (more_does h);
        history = asked.history;
        output = wrote;
      }

  -- it ends, and leaves
  pub end_runs : (r : ScriptPortal) (table' : List (Option Standing)) (told told' : Option (List (List ℕ))) → HeardAs true p q seat at bytes pieces now → state_first q.story ≡ state_first p.story → state_first r.story ≡ state_first q.story
      → Asked q r seat (Request.Leave ∷ []) → sessions_of table' ≡ placed (sessions_of table) seat None → told' ≡ onto told (lines ++ last) → Runs p table r table' (Data seat bytes) told told'
  unfolding asked_on
  end_runs r table' told told' h same also left took wrote =
      let rs = h.2.0 in
      let all : Asked p r seat (rs ++ Request.Leave ∷ []) = asked_on p q r seat rs (Request.Leave ∷ []) same h.2.2 left in
      record {
        entries = all.entries;
        out = lines ++ last;
        does = subst (λ (b : Scene). Does (scene p table) (Data seat bytes) all.entries (lines ++ last) b) (sym (scene_on p r table table' seat all.entries None (also ∙ same) all.history took))
            (ends_so h.0 rs all.entries (outside_at r) h.1 h.2.1 all.given left.entries (ap (λ (es : List Entry). es ++ left.entries) h.2.3));
        history = all.history;
        output = wrote;
      }

  -- not all is written
  pub more_part : (told told' : Option (List (List ℕ))) (ws : List (List ℕ)) → HeardAs false p q seat at bytes pieces now → Short ws lines → told' ≡ onto told ws → WritesPart (scene p table) (Data seat bytes) told told'
  more_part told told' ws h short wrote = (_, lines, _, ws, more_does h, short, wrote)

  pub end_part : (told told' : Option (List (List ℕ))) (ws : List (List ℕ)) → HeardAs true p q seat at bytes pieces now → Short ws (lines ++ last) → told' ≡ onto told ws → WritesPart (scene p table) (Data seat bytes) told told'
  end_part told told' ws h short wrote = (_, lines ++ last, _, ws, end_does h, short, wrote)

-- ---- a close

module _ (p q : ScriptPortal) (table : List (Option Standing)) (seat : ℕ) (at : Standing) (here : Some at ≡ sessions_of table seat) (agrees : Agrees (scene p table)) where
  abbrev closing : List (List ℕ)
  closing = end_line seat (ending at.fed at.rest) ∷ []

  close_does : (es : List Entry) (left : Outside) → AreGiven (state_now p.story) (outside_at p) seat (Request.Leave ∷ []) es left → Does (scene p table) (Close seat) es closing (moved p table seat es left None)
  close_does es left given =
      let said : closing ≡ end_line seat (ending_at at.rest) ∷ [] = ap (λ (f : Fed). end_line seat (ending f at.rest) ∷ []) (stands_going (scene p table) seat at agrees here) in
      subst (λ (o : Option Standing). CloseDoes (scene p table) seat o es closing (moved p table seat es left None)) here (record { left = left; given = given; out_is = said; scene = refl })

  pub close_runs : (table' : List (Option Standing)) (told told' : Option (List (List ℕ))) → state_first q.story ≡ state_first p.story → Asked p q seat (Request.Leave ∷ []) → sessions_of table' ≡ placed (sessions_of table) seat None → told' ≡ onto told closing
      → Runs p table q table' (Close seat) told told'
  close_runs table' told told' same left took wrote = record {
    entries = left.entries;
    out = closing;
    does = subst (λ (b : Scene). Does (scene p table) (Close seat) left.entries closing b) (sym (scene_on p q table table' seat left.entries None same left.history took)) (close_does left.entries (outside_at q) left.given);
    history = left.history;
    output = wrote;
  }

  pub close_part : (told told' : Option (List (List ℕ))) (ws : List (List ℕ)) → Short ws closing → told' ≡ onto told ws → WritesPart (scene p table) (Close seat) told told'
  close_part told told' ws short wrote =
      let leaves = leave_entry seat ∷ [] in
      (leaves, closing, moved p table seat leaves (outside_at p) None, ws, close_does leaves (outside_at p) (leave_given (state_now p.story) (outside_at p) seat), short, wrote)

-- ---- why a line was not run

pub breaks_heard : (p q : ScriptPortal) (table : List (Option Standing)) (seat : ℕ) (at now : Standing) (bytes : List ℕ) (told : Option (List (List ℕ))) (faults : ℕ) → Some at ≡ sessions_of table seat → (e : LineError) → HearsNot p q seat at bytes now e
    → Breaks (scene p table) (Data seat bytes) told faults told faults e
breaks_heard p q table seat at now bytes told faults here not_run.WriteFault h = absurd h
breaks_heard p q table seat at now bytes told faults here not_run.Memory h = (refl, refl)

risen_later : (a b c : ℕ) → b ≡ a → HasRisen b c → HasRisen a c
risen_later a b c h k = omega arith

pub breaks_written : (a : Scene) (line : ScriptLine) (said : List (List ℕ)) (told told' : Option (List (List ℕ))) (faults faults' : ℕ) → ((ws : List (List ℕ)) → Short ws said → told' ≡ onto told ws → WritesPart a line told told')
    → (e : LineError) → WritesShort said told faults told' faults' e → Breaks a line told faults told' faults' e
breaks_written a line said told told' faults faults' part not_run.WriteFault h = (h.0, part h.1.0 h.1.1 h.1.2)
breaks_written a line said told told' faults faults' part not_run.Memory h = absurd h

-- ---- lines that are written one after another

pub on_ok : {T E : Type 0} (r : Result T E) (P Q : Type 0) → (P → Q) → OnOk r P → OnOk r Q
on_ok (Ok x) P Q f h = f h
on_ok (Err e) P Q f h = tt

pub if_err : {T E : Type 0} (r : Result T E) (P Q : E → Type 0) → ((e : E) → P e → Q e) → IfErr r P → IfErr r Q
if_err (Ok x) P Q f h = tt
if_err (Err e) P Q f h = f e h

-- where there is no memory before anything of a line is written
pub breaks_unwritten : (a : Scene) (line : ScriptLine) (told : Option (List (List ℕ))) (faults : ℕ) (e : LineError) → e ≡ not_run.Memory → Breaks a line told faults told faults e
breaks_unwritten a line told faults e h = subst (λ (z : LineError). Breaks a line told faults told faults z) (sym h) (refl, refl)

-- one more piece is put into words
pub next_words : (seat : ℕ) (xs : List (List ℕ)) (i : ℕ) (x : List ℕ) → i < length xs → x ≡ get_or xs i x → map (out_line seat) (take (i + 1) xs) ≡ map (out_line seat) (take i xs) ++ out_line seat x ∷ []
next_words seat xs i x inside is = rw (add-one, take-suc xs i x) (map-append (out_line seat) (take i xs) (get_or xs i x ∷ []) ∙ ap (λ (z : List ℕ). map (out_line seat) (take i xs) ++ out_line seat z ∷ []) (sym is))

module _ (xs : List (List ℕ)) (i : ℕ) (x : List ℕ) (inside : i < length xs) (is : x ≡ get_or xs i x) where
  next_written : take (i + 1) xs ≡ take i xs ++ x ∷ []
  next_written = rw (add-one, take-suc xs i x) (ap (λ (z : List ℕ). take i xs ++ z ∷ []) (sym is))

  pub line_written : (line : List ℕ) (told mid told' : Option (List (List ℕ))) → line ≡ x → mid ≡ onto told (take i xs) → told' ≡ onto mid (line ∷ []) → told' ≡ onto told (take (i + 1) xs)
  line_written line told mid told' e m t =
      t ∙ (ap (λ (z : Option (List (List ℕ))). onto z (line ∷ [])) m ∙ (onto_more told (take i xs) (line ∷ [])
      ∙ ap (onto told) (ap (λ (z : List ℕ). take i xs ++ z ∷ []) e ∙ sym next_written)))

  part_next : (ws : List (List ℕ)) → Short ws (x ∷ []) → Short (take i xs ++ ws) xs
  part_next ws h =
      let all : xs ≡ (take i xs ++ x ∷ []) ++ drop (i + 1) xs = sym (take-append-drop (i + 1) xs) ∙ ap (λ (z : List (List ℕ)). z ++ drop (i + 1) xs) next_written in
      subst (λ (z : List (List ℕ)). Short (take i xs ++ ws) z) (sym all) (short_more (take i xs ++ ws) (take i xs ++ x ∷ []) (drop (i + 1) xs) (short_after (take i xs) ws (x ∷ []) h))

  -- the next line was not written whole
  pub line_broke : (line : List ℕ) (told mid told' : Option (List (List ℕ))) (faults later faults' : ℕ) → line ≡ x → mid ≡ onto told (take i xs) → later ≡ faults
      → (e : LineError) → WritesShort (line ∷ []) mid later told' faults' e → WritesShort xs told faults told' faults' e
  line_broke line told mid told' faults later faults' e m le not_run.WriteFault h = (
    risen_later faults later faults' le h.0,
    (
      take i xs ++ h.1.0,
      part_next h.1.0 (subst (λ (z : List ℕ). Short h.1.0 (z ∷ [])) e h.1.1),
      h.1.2 ∙ (ap (λ (z : Option (List (List ℕ))). onto z h.1.0) m ∙ onto_more told (take i xs) h.1.0),
    ),
  )
  line_broke line told mid told' faults later faults' e m le not_run.Memory h = absurd h

-- ---- bytes of a data line, from first to last

-- what was heard on a connection, and how far its answers were written
pub record Answered (p q : ScriptPortal) (table : List (Option Standing)) (seat : ℕ) (at now : Standing) (bytes : List ℕ) (pieces : List (List ℕ)) (b : Bool) : Type 0 where
  pub here : Some at ≡ sessions_of table seat
  pub heard : HeardAs b p q seat at bytes pieces now
  pub same : state_first q.story ≡ state_first p.story

pub answered_at : (p q : ScriptPortal) (table : List (Option Standing)) (seat : ℕ) (at now : Standing) (lent bytes : List ℕ) (pieces : List (List ℕ)) (b : Bool) → Some at ≡ sessions_of table seat → lent ≡ bytes → state_first q.story ≡ state_first p.story
    → HeardAs b p q seat at lent pieces now → Answered p q table seat at now bytes pieces b
answered_at p q table seat at now lent bytes pieces b here e same h = record { here = here; heard = subst (λ (z : List ℕ). HeardAs b p q seat at z pieces now) e h; same = same }

module _ (p q : ScriptPortal) (table : List (Option Standing)) (seat : ℕ) (at now : Standing) (bytes : List ℕ) (pieces lent said : List (List ℕ)) (b : Bool) (a : Answered p q table seat at now bytes pieces b) (e : lent ≡ pieces) (words : said ≡ map (out_line seat) lent) where
  said_is : said ≡ map (out_line seat) pieces
  said_is = words ∙ ap (map (out_line seat)) e

  over : b ≡ true → HeardAs true p q seat at bytes pieces now
  over t = subst (λ (z : Bool). HeardAs z p q seat at bytes pieces now) t a.heard

  on : b ≡ false → HeardAs false p q seat at bytes pieces now
  on t = subst (λ (z : Bool). HeardAs z p q seat at bytes pieces now) t a.heard

  -- what is written where the connection ends by itself
  abbrev Whole : List (List ℕ) → Type 0
  Whole all = all ≡ said ++ end_line seat (ending now.fed now.rest) ∷ []

  whole_is : (all : List (List ℕ)) → Whole all → all ≡ map (out_line seat) pieces ++ end_line seat (ending now.fed now.rest) ∷ []
  whole_is all h = h ∙ ap (λ (z : List (List ℕ)). z ++ end_line seat (ending now.fed now.rest) ∷ []) said_is

  pub last_runs : b ≡ true → (all : List (List ℕ)) → Whole all → (r : ScriptPortal) (table' : List (Option Standing)) (told told' : Option (List (List ℕ))) → state_first r.story ≡ state_first q.story → Asked q r seat (Request.Leave ∷ []) → sessions_of table' ≡ placed (sessions_of table) seat None
      → told' ≡ onto told all → Runs p table r table' (Data seat bytes) told told'
  last_runs t all h r table' told told' also left took wrote =
      end_runs p q table seat at now bytes pieces a.here r table' told told' (over t) a.same also left took (wrote ∙ ap (onto told) (whole_is all h))

  pub last_breaks : b ≡ true → (all : List (List ℕ)) → Whole all → (told told' : Option (List (List ℕ))) (faults faults' : ℕ)
      → (error : LineError) → WritesShort all told faults told' faults' error → Breaks (scene p table) (Data seat bytes) told faults told' faults' error
  last_breaks t all h told told' faults faults' error k =
      breaks_written (scene p table) (Data seat bytes) (map (out_line seat) pieces ++ end_line seat (ending now.fed now.rest) ∷ []) told told' faults faults' (λ ws short wrote. end_part p q table seat at now bytes pieces a.here told told' ws (over t) short wrote) error
      (subst (λ (z : List (List ℕ)). WritesShort z told faults told' faults' error) (whole_is all h) k)

  pub on_runs : b ≡ false → (taken table' : List (Option Standing)) (told told' : Option (List (List ℕ))) → sessions_of taken ≡ placed (sessions_of table) seat None → sessions_of table' ≡ placed (sessions_of taken) seat (Some now)
      → told' ≡ onto told said → Runs p table q table' (Data seat bytes) told told'
  on_runs t taken table' told told' took put wrote =
      more_runs p q table seat at now bytes pieces a.here table' told told' (on t) a.same (put_back table taken table' seat (Some now) took put) (wrote ∙ ap (onto told) said_is)

  pub on_breaks : b ≡ false → (told told' : Option (List (List ℕ))) (faults faults' : ℕ)
      → (error : LineError) → WritesShort said told faults told' faults' error → Breaks (scene p table) (Data seat bytes) told faults told' faults' error
  on_breaks t told told' faults faults' error k =
      breaks_written (scene p table) (Data seat bytes) (map (out_line seat) pieces) told told' faults faults' (λ ws short wrote. more_part p q table seat at now bytes pieces a.here told told' ws (on t) short wrote) error
      (subst (λ (z : List (List ℕ)). WritesShort z told faults told' faults' error) said_is k)

-- ---- lines of the opening

pub opening_runs : (p : ScriptPortal) (table : List (Option Standing)) (line line' : ScriptLine) (told : Option (List (List ℕ))) → line ≡ line' → ((a : Scene) → Does a line' [] [] a) → Runs p table p table line told told
opening_runs p table line line' told e does = record {
  entries = [];
  out = [];
  does = subst (λ (z : ScriptLine). Does (scene p table) z [] [] (scene p table)) (sym e) (does (scene p table));
  history = sym (append-nil p.story.history);
  output = onto_none told;
}

-- the clock is set
pub clock_runs : (p : ScriptPortal) (table : List (Option Standing)) (line : ScriptLine) (moment clock : ℕ) (told : Option (List (List ℕ))) → line ≡ Now moment → clock ≡ moment → Runs p table (record p { clock = clock }) table line told told
clock_runs p table line moment clock told e set = record {
  entries = [];
  out = [];
  does = subst (λ (z : ScriptLine). Does (scene p table) z [] [] (scene (record p { clock = clock }) table)) (sym e) (refl, refl, ap (λ (n : ℕ). set_to n (scene p table)) set);
  history = sym (append-nil p.story.history);
  output = onto_none told;
}
