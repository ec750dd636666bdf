-- What a line leaves as it has to be for the next.
use Rattle.std.proofs.Common.{◌≡◌, ℕ, ◌+◌, ◌*◌, ◌≤◌, ◌==◌, List, [], ◌∷◌, ◌++◌, length, Option, Some, None, Bool, true, false, ◌||◌, cond, refl, sym, ap, ◌∙◌, subst, arith, length-append}
use Rattle.std.specs.Prelude.{if◌then◌else◌, IfSome, map}
use Rattle.std.specs.List.{list_any}
use Rattle.std.specs.Option.{option_map}
use Rattle.std.proofs.lemmas.Bool.Decides.{nat_tests}
use Rattle.std.proofs.lemmas.List.Folds.{list_any-append}
use Rattle.portal_model.specs.declared.entry.Entry.{Entry}
use Rattle.portal_model.specs.declared.request.Request.{Request}
use Rattle.portal_model.specs.History.{cost, of_seat, run}
use Rattle.portal_model.specs.Seated.{Binding, bound, bound_after, bound_by}
use Rattle.portal_model.specs.State.{State}
use Rattle.portal_model.specs.Step.{after}
use Rattle.portal_model.proofs.SeatLaws.{run-bound}
use Rattle.script_lines.specs.declared.script.ScriptLine.{ScriptLine}
use Rattle.script_lines.specs.declared.script.ScriptLine.TheVariants.{File, Doc, Fail, Word, Now, Open, Data, Close}
use Rattle.script_lines.specs.declared.script.ScriptLine.TheVariants as line
use Rattle.script_lines.specs.Lines.{KeepsRules, last_seat, line_text}
use Rattle.script_form.specs.Order.{opens}
use Rattle.script_form.specs.Outside.{Outside}
use Rattle.session.specs.declared.act.Client.{Client}
use Rattle.session.specs.declared.served.Fed.TheVariants as fed
use Rattle.session.specs.declared.served.Stop.{Stop}
use Rattle.session.specs.declared.served.Stop.TheVariants as stop
use Rattle.session.specs.Asked.{requests_of}
use Rattle.session.specs.Items.{joined}
use Rattle.session.specs.Sessions.{fed_of}
use Rattle.session.specs.Standings.{Standing, client, fresh, longest}
use Rattle.session.proofs.ConnectionStaysOpen.{ArePlain, bound_stays, items_plain}
use Rattle.script_replay.specs.Entries.{AreGiven}
use Rattle.script_replay.specs.Lines.{Comes, CloseDoes, DataDoes, Does, Goes, Hears, Passes, Sets}
use Rattle.script_replay.specs.Scenes.{Scene, held_by, held_in, placed, run_settings}
use Rattle.script_replay.specs.Steps.{Agrees, GoesOn, HaveRoom, IsNew, binding}
use Rattle.script_replay.specs.Texts.{out_line}
use Rattle.session.proofs.ItemsCostLittle.{costs, costs-append, items_cost}
use Rattle.script_replay.proofs.Costs.{data_long, enter_cost, entries_cost}
use Rattle.script_replay.proofs.HeldBytes.{held_on, held_same}

-- ---- the entries of a seat, by the seat

abbrev seat_test : ℕ → Entry → Bool
seat_test n e = e.seat == n

own_entries : (rs : List Request) (es : List Entry) (s : State) (o : Outside) (seat : ℕ) (left : Outside) → AreGiven s o seat rs es left → of_seat seat es ≡ es
own_entries [] [] s o seat left h = refl
own_entries [] (e ∷ es) s o seat left h = absurd h
own_entries (r ∷ rs) [] s o seat left h = absurd h
own_entries (r ∷ rs) (e ∷ es) s o seat left h =
    let own : e.seat ≡ seat = h.0 in
    let here : (e.seat == seat) ≡ true = grind (arith, nat_tests) in
    ap (λ (b : Bool). cond b (e ∷ of_seat seat es) (of_seat seat es)) here ∙ ap (λ (l : List Entry). e ∷ l) (own_entries rs es (after s e) h.2 seat left h.4)

no_entries : (rs : List Request) (es : List Entry) (s : State) (o : Outside) (seat n : ℕ) (left : Outside) → (n == seat) ≡ false → AreGiven s o seat rs es left → of_seat n es ≡ []
no_entries [] [] s o seat n left d h = refl
no_entries [] (e ∷ es) s o seat n left d h = absurd h
no_entries (r ∷ rs) [] s o seat n left d h = absurd h
no_entries (r ∷ rs) (e ∷ es) s o seat n left d h =
    let own : e.seat ≡ seat = h.0 in
    let there : (e.seat == n) ≡ false = grind (arith, nat_tests) in
    ap (λ (b : Bool). cond b (e ∷ of_seat n es) (of_seat n es)) there ∙ no_entries rs es (after s e) h.2 seat n left d h.4

-- what requests make of a seat's connection
abbrev bound_past : Option Binding → List Request → Option Binding
bound_past o [] = o
bound_past o (r ∷ rs) = bound_past (bound_after o r) rs

bound_entries : (rs : List Request) (es : List Entry) (s : State) (o : Outside) (seat : ℕ) (left : Outside) (b : Option Binding) → AreGiven s o seat rs es left → bound_by b es ≡ bound_past b rs
bound_entries [] [] s o seat left b h = refl
bound_entries [] (e ∷ es) s o seat left b h = absurd h
bound_entries (r ∷ rs) [] s o seat left b h = absurd h
bound_entries (r ∷ rs) (e ∷ es) s o seat left b h = bound_entries rs es (after s e) h.2 seat left (bound_after b e.request) h.4 ∙ ap (λ (q : Request). bound_past (bound_after b q) rs) h.1

bound_here : (rs : List Request) (es : List Entry) (s : State) (o : Outside) (seat : ℕ) (left : Outside) → AreGiven s o seat rs es left → bound (run s es) seat ≡ bound_past (bound s seat) rs
bound_here rs es s o seat left h = run-bound seat es s ∙ (ap (bound_by (bound s seat)) (own_entries rs es s o seat left h) ∙ bound_entries rs es s o seat left (bound s seat) h)

bound_there : (rs : List Request) (es : List Entry) (s : State) (o : Outside) (seat n : ℕ) (left : Outside) → (n == seat) ≡ false → AreGiven s o seat rs es left → bound (run s es) n ≡ bound s n
bound_there rs es s o seat n left d h = run-bound n es s ∙ ap (bound_by (bound s n)) (no_entries rs es s o seat n left d h)

past_plain : (rs qs : List Request) (o : Option Binding) → ArePlain rs → bound_past o (rs ++ qs) ≡ bound_past o qs
past_plain [] qs o plain = refl
past_plain (r ∷ rs) qs o plain = ap (λ (z : Option Binding). bound_past z (rs ++ qs)) (bound_stays r o plain.0) ∙ past_plain rs qs o plain.1

past_stays : (rs : List Request) (o : Option Binding) → ArePlain rs → bound_past o rs ≡ o
past_stays [] o plain = refl
past_stays (r ∷ rs) o plain = ap (λ (z : Option Binding). bound_past z rs) (bound_stays r o plain.0) ∙ past_stays rs o plain.1

past_leave : (o : Option Binding) → bound_after o Request.Leave ≡ None
past_leave None = refl
past_leave (Some b) = refl

-- ---- each session stands at its number

abbrev maybe_binding : Option Standing → Option Binding
maybe_binding o = option_map binding o

abbrev choose : Bool → Option Standing → Option Standing → Option Standing
choose b x y = if b then x else y

-- what a seat's requests make of the portal and of the sessions
module _ (a : Scene) (seat : ℕ) (rs : List Request) (es : List Entry) (left : Outside) (given : AreGiven a.portal a.outside seat rs es left) (now : Option Standing) (agrees : Agrees a) (going : IfSome now GoesOn) (is : bound_past (bound a.portal seat) rs ≡ maybe_binding now) where
  placed_going : (b : Bool) (n : ℕ) → IfSome (choose b now (a.sessions n)) GoesOn
  placed_going true n = going
  placed_going false n = agrees.going n

  placed_bound : (b : Bool) (n : ℕ) → (n == seat) ≡ b → bound (run a.portal es) n ≡ maybe_binding (choose b now (a.sessions n))
  placed_bound true n h =
      let same : n ≡ seat = grind (arith, nat_tests) in
      ap (bound (run a.portal es)) same ∙ (bound_here rs es a.portal a.outside seat left given ∙ is)
  placed_bound false n h = bound_there rs es a.portal a.outside seat n left h given ∙ agrees.bound_alike n

  comes_scene : Agrees (record { portal = run a.portal es; outside = left; sessions = placed a.sessions seat now })
  comes_scene = record { going = λ n. placed_going (n == seat) n; bound_alike = λ n. placed_bound (n == seat) n refl }

comes_agree : (a b : Scene) (seat : ℕ) (rs : List Request) (lines : List (List ℕ)) (now : Option Standing) (es : List Entry) (out : List (List ℕ))
    → Agrees a → IfSome now GoesOn → bound_past (bound a.portal seat) rs ≡ maybe_binding now → Comes a seat rs lines now es out b → Agrees b
comes_agree a b seat rs lines now es out agrees going is h = subst Agrees (sym h.scene) (comes_scene a seat rs es h.left h.given now agrees going is)

passes_agree : (a b : Scene) (es : List Entry) (out : List (List ℕ)) → Agrees a → Passes a es out b → Agrees b
passes_agree a b es out agrees h = subst Agrees (sym h.2) agrees

-- a clock that is set moves no session
sets_agree : (moment : ℕ) (a b : Scene) (es : List Entry) (out : List (List ℕ)) → Agrees a → Sets a moment es out b → Agrees b
sets_agree moment a b es out agrees h = subst Agrees (sym h.2) (record { going = agrees.going; bound_alike = agrees.bound_alike })

-- the requests of items leave the connection of a session
module _ (a b : Scene) (seat : ℕ) (at now : Standing) (bytes : List ℕ) (what : Stop) (rs : List Request) (ps : List (List ℕ)) (es : List Entry) (out : List (List ℕ)) (agrees : Agrees a) (open_at : a.sessions seat ≡ Some at) (x : Hears a.portal a.outside seat at bytes what rs ps now) where
  open_bound : bound a.portal seat ≡ Some (binding at)
  open_bound = agrees.bound_alike seat ∙ ap maybe_binding open_at

  plain : ArePlain rs
  plain = subst ArePlain (sym x.asked) (items_plain x.items at.client at.stage.phase x.acts x.cut.each)

  goes_on_agree : what ≡ stop.More → Comes a seat rs (map (out_line seat) ps) (Some now) es out b → Agrees b
  goes_on_agree more h =
      let fed_is : now.fed ≡ fed.More = x.fed ∙ ap (fed_of now.before) more in
      let is : bound_past (bound a.portal seat) rs ≡ Some (binding now) =
      past_stays rs (bound a.portal seat) plain ∙ (open_bound ∙ ap (λ (c : Client). Some (record { who = c.who; kind = c.kind })) (sym x.client)) in
      comes_agree a b seat rs _ (Some now) es out agrees fed_is is h

  ends_agree : (lines : List (List ℕ)) → Comes a seat (rs ++ Request.Leave ∷ []) lines None es out b → Agrees b
  ends_agree lines h = comes_agree a b seat (rs ++ Request.Leave ∷ []) lines None es out agrees tt (past_plain rs (Request.Leave ∷ []) (bound a.portal seat) plain ∙ past_leave (bound a.portal seat)) h

goes_agree : (what : Stop) (a b : Scene) (seat : ℕ) (at now : Standing) (bytes : List ℕ) (rs : List Request) (ps : List (List ℕ)) (es : List Entry) (out : List (List ℕ))
    → Agrees a → a.sessions seat ≡ Some at → Hears a.portal a.outside seat at bytes what rs ps now → Goes a seat what rs ps now es out b → Agrees b
goes_agree stop.More a b seat at now bytes rs ps es out agrees e x h = goes_on_agree a b seat at now bytes stop.More rs ps es out agrees e x refl h
goes_agree (stop.Bad rule) a b seat at now bytes rs ps es out agrees e x h = ends_agree a b seat at now bytes (stop.Bad rule) rs ps es out agrees e x _ h
goes_agree stop.TooLong a b seat at now bytes rs ps es out agrees e x h = ends_agree a b seat at now bytes stop.TooLong rs ps es out agrees e x _ h

data_agrees : (o : Option Standing) (a b : Scene) (seat : ℕ) (bytes : List ℕ) (es : List Entry) (out : List (List ℕ)) → Agrees a → a.sessions seat ≡ o → DataDoes a seat bytes o es out b → Agrees b
data_agrees None a b seat bytes es out agrees e h = passes_agree a b es out agrees h
data_agrees (Some at) a b seat bytes es out agrees e h = goes_agree h.0 a b seat at h.3 bytes h.1 h.2 es out agrees e h.4 h.5

close_agrees : (o : Option Standing) (a b : Scene) (seat : ℕ) (es : List Entry) (out : List (List ℕ)) → Agrees a → CloseDoes a seat o es out b → Agrees b
close_agrees None a b seat es out agrees h = passes_agree a b es out agrees h
close_agrees (Some at) a b seat es out agrees h = comes_agree a b seat (Request.Leave ∷ []) _ None es out agrees tt (past_leave (bound a.portal seat)) h

pub does_agree : (line : ScriptLine) (a b : Scene) (es : List Entry) (out : List (List ℕ)) → Agrees a → IsNew a line → Does a line es out b → Agrees b
does_agree (File path content) a b es out agrees new h = passes_agree a b es out agrees h
does_agree (Doc id reusable strict path grants) a b es out agrees new h = passes_agree a b es out agrees h
does_agree (Now moment) a b es out agrees new h = sets_agree moment a b es out agrees h
does_agree (line.Entry entry) a b es out agrees new h = passes_agree a b es out agrees h
does_agree (Fail device call) a b es out agrees new h = passes_agree a b es out agrees h
does_agree (Word word) a b es out agrees new h = passes_agree a b es out agrees h
does_agree (Open seat kind who) a b es out agrees new h =
    let closed : bound a.portal seat ≡ None = agrees.bound_alike seat ∙ ap maybe_binding new in
    comes_agree a b seat (Request.Enter who kind ∷ []) [] (Some (fresh (client who kind run_settings))) es out agrees refl
    (ap (λ (o : Option Binding). bound_after o (Request.Enter who kind)) closed) h
does_agree (Data seat bytes) a b es out agrees new h = data_agrees (a.sessions seat) a b seat bytes es out agrees refl h
does_agree (Close seat) a b es out agrees new h = close_agrees (a.sessions seat) a b seat es out agrees h

-- ---- what a line costs, and what is held behind it

heard_bytes : (s : State) (o : Outside) (seat : ℕ) (at now : Standing) (bytes : List ℕ) (what : Stop) (rs : List Request) (ps : List (List ℕ)) → (x : Hears s o seat at bytes what rs ps now)
    → length at.rest + length bytes ≡ length (joined x.items) + length now.rest
heard_bytes s o seat at now bytes what rs ps x = sym (length-append at.rest bytes) ∙ (ap length x.cut.bytes ∙ length-append (joined x.items) now.rest)

heard_cost : (s : State) (o : Outside) (seat : ℕ) (at now : Standing) (bytes : List ℕ) (what : Stop) (rs : List Request) (ps : List (List ℕ)) → Hears s o seat at bytes what rs ps now
    → costs rs + 8 * length now.rest ≤ 8 * (length at.rest + length bytes)
heard_cost s o seat at now bytes what rs ps x =
    let all = heard_bytes s o seat at now bytes what rs ps x in
    let most = items_cost x.items at.client at.stage.phase x.acts x.cut.each in
    let same : costs rs ≡ costs (requests_of x.acts) = ap costs x.asked in
    omega arith

comes_cost : (a b : Scene) (seat : ℕ) (rs : List Request) (lines : List (List ℕ)) (now : Option Standing) (es : List Entry) (out : List (List ℕ)) → Comes a seat rs lines now es out b → cost es ≡ costs rs
comes_cost a b seat rs lines now es out h = entries_cost rs es a.portal a.outside seat h.left h.given

comes_held : (a b : Scene) (seat : ℕ) (rs : List Request) (lines : List (List ℕ)) (now : Option Standing) (es : List Entry) (out : List (List ℕ)) → seat ≤ last_seat → Comes a seat rs lines now es out b
    → held_in b + held_by (a.sessions seat) ≡ held_in a + held_by now
comes_held a b seat rs lines now es out high h = held_on a b seat now high (ap (λ (z : Scene). z.sessions) h.scene)

-- what a line costs and what is held then is paid by so many bytes and by what was held
abbrev Costs : Scene → Scene → List Entry → ℕ → Type 0
Costs a b es n = cost es + 8 * held_in b ≤ 8 * (held_in a + n)

passes_cost : (a b : Scene) (es : List Entry) (out : List (List ℕ)) (n : ℕ) → Passes a es out b → Costs a b es n
passes_cost a b es out n h =
    let none = ap cost h.0 in
    let same = held_same a b (ap (λ (z : Scene). z.sessions) h.2) in
    omega arith

sets_cost : (moment : ℕ) (a b : Scene) (es : List Entry) (out : List (List ℕ)) (n : ℕ) → Sets a moment es out b → Costs a b es n
sets_cost moment a b es out n h =
    let none = ap cost h.0 in
    let same = held_same a b (ap (λ (z : Scene). z.sessions) h.2) in
    omega arith

leaves_cost : (rs : List Request) → costs (rs ++ Request.Leave ∷ []) ≡ costs rs
leaves_cost rs = let both = costs-append rs (Request.Leave ∷ []) in omega arith

-- a connection that ends by itself holds nothing
over_cost : (a b : Scene) (seat : ℕ) (rs : List Request) (lines : List (List ℕ)) (es : List Entry) (out : List (List ℕ)) (n : ℕ) → seat ≤ last_seat → costs rs ≤ 8 * (held_by (a.sessions seat) + n)
    → Comes a seat (rs ++ Request.Leave ∷ []) lines None es out b → Costs a b es n
over_cost a b seat rs lines es out n high most h =
    let same = comes_cost a b seat (rs ++ Request.Leave ∷ []) lines None es out h in
    let leaves = leaves_cost rs in
    let held = comes_held a b seat (rs ++ Request.Leave ∷ []) lines None es out high h in
    omega arith

goes_cost : (what : Stop) (a b : Scene) (seat : ℕ) (rs : List Request) (ps : List (List ℕ)) (now : Standing) (es : List Entry) (out : List (List ℕ)) (n : ℕ) → seat ≤ last_seat
    → costs rs + 8 * length now.rest ≤ 8 * (held_by (a.sessions seat) + n) → Goes a seat what rs ps now es out b → Costs a b es n
goes_cost stop.More a b seat rs ps now es out n high most h =
    let same = comes_cost a b seat rs _ (Some now) es out h in
    let held = comes_held a b seat rs _ (Some now) es out high h in
    omega arith
goes_cost (stop.Bad rule) a b seat rs ps now es out n high most h = over_cost a b seat rs _ es out n high (omega (arith, most)) h
goes_cost stop.TooLong a b seat rs ps now es out n high most h = over_cost a b seat rs _ es out n high (omega (arith, most)) h

data_cost : (o : Option Standing) (a b : Scene) (seat : ℕ) (bytes : List ℕ) (es : List Entry) (out : List (List ℕ)) → seat ≤ last_seat → a.sessions seat ≡ o → DataDoes a seat bytes o es out b
    → Costs a b es (length (line_text (Data seat bytes)) + 1)
data_cost None a b seat bytes es out high e h = passes_cost a b es out _ h
data_cost (Some at) a b seat bytes es out high e h =
    let was = ap held_by e in
    let most = heard_cost a.portal a.outside seat at h.3 bytes h.0 h.1 h.2 h.4 in
    let text = data_long seat bytes in
    goes_cost h.0 a b seat h.1 h.2 h.3 es out _ high (omega arith) h.5

close_cost : (o : Option Standing) (a b : Scene) (seat : ℕ) (es : List Entry) (out : List (List ℕ)) (n : ℕ) → seat ≤ last_seat → CloseDoes a seat o es out b → Costs a b es n
close_cost None a b seat es out n high h = passes_cost a b es out n h
close_cost (Some at) a b seat es out n high h = over_cost a b seat [] _ es out n high (omega arith) h

pub does_cost : (line : ScriptLine) (a b : Scene) (es : List Entry) (out : List (List ℕ)) → KeepsRules line → Does a line es out b → cost es + 8 * held_in b ≤ 8 * (held_in a + (length (line_text line) + 1))
does_cost (File path content) a b es out k h = passes_cost a b es out _ h
does_cost (Doc id reusable strict path grants) a b es out k h = passes_cost a b es out _ h
does_cost (Now moment) a b es out k h = sets_cost moment a b es out _ h
does_cost (line.Entry entry) a b es out k h = passes_cost a b es out _ h
does_cost (Fail device call) a b es out k h = passes_cost a b es out _ h
does_cost (Word word) a b es out k h = passes_cost a b es out _ h
does_cost (Open seat kind who) a b es out k h =
    let same = comes_cost a b seat (Request.Enter who kind ∷ []) _ _ es out h in
    let held = comes_held a b seat (Request.Enter who kind ∷ []) _ _ es out k.1 h in
    let most = enter_cost who seat kind (omega (arith, k.1)) in
    omega arith
does_cost (Data seat bytes) a b es out k h = data_cost (a.sessions seat) a b seat bytes es out k.1 refl h
does_cost (Close seat) a b es out k h = close_cost (a.sessions seat) a b seat es out _ k.1 h

-- ---- the bytes of each session

abbrev Holds : ℕ → Option Standing → Type 0
Holds more o = IfSome o (λ (at : Standing). at.before + length at.rest + more ≤ longest)

pub holds_less : (o : Option Standing) (m n : ℕ) → m ≤ n → Holds n o → Holds m o
holds_less None m n h k = tt
holds_less (Some at) m n h k = omega arith

placed_room : (b : Bool) (n m : ℕ) (x y : Option Standing) → Holds m x → Holds m y → Holds m (choose b x y)
placed_room true n m x y h k = h
placed_room false n m x y h k = k

comes_room : (a b : Scene) (seat : ℕ) (rs : List Request) (lines : List (List ℕ)) (now : Option Standing) (es : List Entry) (out : List (List ℕ)) (less more : ℕ)
    → less ≤ more → HaveRoom a more → Holds less now → Comes a seat rs lines now es out b → HaveRoom b less
comes_room a b seat rs lines now es out less more le room here h =
    subst (λ (z : Scene). HaveRoom z less) (sym h.scene) (λ n. placed_room (n == seat) n less now (a.sessions n) here (holds_less (a.sessions n) less more le (room n)))

passes_room : (a b : Scene) (es : List Entry) (out : List (List ℕ)) (less more : ℕ) → less ≤ more → HaveRoom a more → Passes a es out b → HaveRoom b less
passes_room a b es out less more le room h = subst (λ (z : Scene). HaveRoom z less) (sym h.2) (λ n. holds_less (a.sessions n) less more le (room n))

sets_room : (moment : ℕ) (a b : Scene) (es : List Entry) (out : List (List ℕ)) (less more : ℕ) → less ≤ more → HaveRoom a more → Sets a moment es out b → HaveRoom b less
sets_room moment a b es out less more le room h = subst (λ (z : Scene). HaveRoom z less) (sym h.2) (λ n. holds_less (a.sessions n) less more le (room n))

goes_room : (what : Stop) (a b : Scene) (seat : ℕ) (rs : List Request) (ps : List (List ℕ)) (now : Standing) (es : List Entry) (out : List (List ℕ)) (less more : ℕ)
    → less ≤ more → HaveRoom a more → now.before + length now.rest + less ≤ longest → Goes a seat what rs ps now es out b → HaveRoom b less
goes_room stop.More a b seat rs ps now es out less more le room here h = comes_room a b seat rs _ (Some now) es out less more le room here h
goes_room (stop.Bad rule) a b seat rs ps now es out less more le room here h = comes_room a b seat (rs ++ Request.Leave ∷ []) _ None es out less more le room tt h
goes_room stop.TooLong a b seat rs ps now es out less more le room here h = comes_room a b seat (rs ++ Request.Leave ∷ []) _ None es out less more le room tt h

data_room : (o : Option Standing) (a b : Scene) (seat : ℕ) (bytes : List ℕ) (es : List Entry) (out : List (List ℕ)) (less : ℕ) → a.sessions seat ≡ o
    → HaveRoom a (length (line_text (Data seat bytes)) + 1 + less) → DataDoes a seat bytes o es out b → HaveRoom b less
data_room None a b seat bytes es out less e room h = passes_room a b es out less _ (omega arith) room h
data_room (Some at) a b seat bytes es out less e room h =
    let more = length (line_text (Data seat bytes)) + 1 + less in
    let held : at.before + length at.rest + more ≤ longest = subst (λ (z : Option Standing). Holds more z) e (room seat) in
    let before = h.4.before in
    let all = heard_bytes a.portal a.outside seat at h.3 bytes h.0 h.1 h.2 h.4 in
    let text = data_long seat bytes in
    goes_room h.0 a b seat h.1 h.2 h.3 es out less more (omega arith) room (omega arith) h.5

close_room : (o : Option Standing) (a b : Scene) (seat : ℕ) (es : List Entry) (out : List (List ℕ)) (less more : ℕ) → less ≤ more → HaveRoom a more → CloseDoes a seat o es out b → HaveRoom b less
close_room None a b seat es out less more le room h = passes_room a b es out less more le room h
close_room (Some at) a b seat es out less more le room h = comes_room a b seat (Request.Leave ∷ []) _ None es out less more le room tt h

pub does_room : (line : ScriptLine) (a b : Scene) (es : List Entry) (out : List (List ℕ)) (less : ℕ) → less ≤ longest → HaveRoom a (length (line_text line) + 1 + less) → Does a line es out b → HaveRoom b less
does_room (File path content) a b es out less short room h = passes_room a b es out less _ (omega arith) room h
does_room (Doc id reusable strict path grants) a b es out less short room h = passes_room a b es out less _ (omega arith) room h
does_room (Now moment) a b es out less short room h = sets_room moment a b es out less _ (omega arith) room h
does_room (line.Entry entry) a b es out less short room h = passes_room a b es out less _ (omega arith) room h
does_room (Fail device call) a b es out less short room h = passes_room a b es out less _ (omega arith) room h
does_room (Word word) a b es out less short room h = passes_room a b es out less _ (omega arith) room h
does_room (Open seat kind who) a b es out less short room h = comes_room a b seat (Request.Enter who kind ∷ []) _ (Some (fresh (client who kind run_settings))) es out less _ (omega arith) room (omega arith) h
does_room (Data seat bytes) a b es out less short room h = data_room (a.sessions seat) a b seat bytes es out less refl room h
does_room (Close seat) a b es out less short room h = close_room (a.sessions seat) a b seat es out less _ (omega arith) room h

-- ---- what no line opened

-- nothing is open at a number that none of these lines opened
abbrev pub AreClosed : List ScriptLine → Scene → Type 0
AreClosed lines a = (n : ℕ) → list_any (opens n) lines ≡ false → a.sessions n ≡ None

front_closed : (n : ℕ) (lines : List ScriptLine) (line : ScriptLine) → list_any (opens n) (lines ++ line ∷ []) ≡ false → (list_any (opens n) lines ≡ false) × (opens n line ≡ false)
front_closed n lines line h =
    let both = or_none (list_any (opens n) lines) (opens n line || false) (sym (list_any-append (opens n) lines (line ∷ [])) ∙ h) in
    (both.0, (or_none (opens n line) false both.1).0)
  where
    or_none : (x y : Bool) → (x || y) ≡ false → (x ≡ false) × (y ≡ false)
    or_none true y h = cc
    or_none false y h = (refl, h)

passes_closed : (a b : Scene) (es : List Entry) (out : List (List ℕ)) (lines : List ScriptLine) (line : ScriptLine) → AreClosed lines a → Passes a es out b → AreClosed (lines ++ line ∷ []) b
passes_closed a b es out lines line closed h = subst (AreClosed (lines ++ line ∷ [])) (sym h.2) (λ n k. closed n (front_closed n lines line k).0)

choose_closed : (b : Bool) (x y : Option Standing) → (b ≡ true → x ≡ None) → y ≡ None → choose b x y ≡ None
choose_closed true x y h k = h refl
choose_closed false x y h k = k

comes_closed : (a b : Scene) (seat : ℕ) (rs : List Request) (said : List (List ℕ)) (now : Option Standing) (es : List Entry) (out : List (List ℕ)) (lines : List ScriptLine) (line : ScriptLine)
    → AreClosed lines a → ((n : ℕ) → list_any (opens n) (lines ++ line ∷ []) ≡ false → (n == seat) ≡ true → now ≡ None) → Comes a seat rs said now es out b → AreClosed (lines ++ line ∷ []) b
comes_closed a b seat rs said now es out lines line closed here h =
    subst (AreClosed (lines ++ line ∷ [])) (sym h.scene) (λ n k. choose_closed (n == seat) now (a.sessions n) (here n k) (closed n (front_closed n lines line k).0))

same_number : (n m : ℕ) → (n == m) ≡ true → n ≡ m
same_number n m h = grind (arith, nat_tests)

-- what is open was opened
opened_here : (a : Scene) (seat : ℕ) (at : Standing) (lines : List ScriptLine) (line : ScriptLine) (x : Option Standing) → AreClosed lines a → a.sessions seat ≡ Some at
    → (n : ℕ) → list_any (opens n) (lines ++ line ∷ []) ≡ false → (n == seat) ≡ true → x ≡ None
opened_here a seat at lines line x closed e n k same =
    let none : a.sessions seat ≡ None = ap a.sessions (sym (same_number n seat same)) ∙ closed n (front_closed n lines line k).0 in
    let no : Some at ≡ None = sym e ∙ none in
    absurd (cc)

goes_closed : (what : Stop) (a b : Scene) (seat : ℕ) (rs : List Request) (ps : List (List ℕ)) (now : Standing) (es : List Entry) (out : List (List ℕ)) (lines : List ScriptLine) (line : ScriptLine)
    → AreClosed lines a → ((x : Option Standing) (n : ℕ) → list_any (opens n) (lines ++ line ∷ []) ≡ false → (n == seat) ≡ true → x ≡ None) → Goes a seat what rs ps now es out b → AreClosed (lines ++ line ∷ []) b
goes_closed stop.More a b seat rs ps now es out lines line closed here h = comes_closed a b seat rs _ (Some now) es out lines line closed (here (Some now)) h
goes_closed (stop.Bad rule) a b seat rs ps now es out lines line closed here h = comes_closed a b seat _ _ None es out lines line closed (here None) h
goes_closed stop.TooLong a b seat rs ps now es out lines line closed here h = comes_closed a b seat _ _ None es out lines line closed (here None) h

data_closed : (o : Option Standing) (a b : Scene) (seat : ℕ) (bytes : List ℕ) (es : List Entry) (out : List (List ℕ)) (lines : List ScriptLine) → AreClosed lines a → a.sessions seat ≡ o → DataDoes a seat bytes o es out b
    → AreClosed (lines ++ Data seat bytes ∷ []) b
data_closed None a b seat bytes es out lines closed e h = passes_closed a b es out lines (Data seat bytes) closed h
data_closed (Some at) a b seat bytes es out lines closed e h = goes_closed h.0 a b seat h.1 h.2 h.3 es out lines (Data seat bytes) closed (λ x. opened_here a seat at lines (Data seat bytes) x closed e) h.5

close_closed : (o : Option Standing) (a b : Scene) (seat : ℕ) (es : List Entry) (out : List (List ℕ)) (lines : List ScriptLine) → AreClosed lines a → CloseDoes a seat o es out b → AreClosed (lines ++ Close seat ∷ []) b
close_closed None a b seat es out lines closed h = passes_closed a b es out lines (Close seat) closed h
close_closed (Some at) a b seat es out lines closed h = comes_closed a b seat _ _ None es out lines (Close seat) closed (λ n k same. refl) h

-- the line's own number is opened by it
opens_own : (n seat : ℕ) → (seat == n) ≡ false → (n == seat) ≡ true → ⊥
opens_own n seat h k = grind (arith, nat_tests)

pub does_close : (line : ScriptLine) (a b : Scene) (es : List Entry) (out : List (List ℕ)) (lines : List ScriptLine) → AreClosed lines a → Does a line es out b → AreClosed (lines ++ line ∷ []) b
does_close (File path content) a b es out lines closed h = passes_closed a b es out lines (File path content) closed h
does_close (Doc id reusable strict path grants) a b es out lines closed h = passes_closed a b es out lines (Doc id reusable strict path grants) closed h
does_close (Now moment) a b es out lines closed h = subst (AreClosed (lines ++ Now moment ∷ [])) (sym h.2) (λ n k. closed n (front_closed n lines (Now moment) k).0)
does_close (line.Entry entry) a b es out lines closed h = passes_closed a b es out lines (line.Entry entry) closed h
does_close (Fail device call) a b es out lines closed h = passes_closed a b es out lines (Fail device call) closed h
does_close (Word word) a b es out lines closed h = passes_closed a b es out lines (Word word) closed h
does_close (Open seat kind who) a b es out lines closed h =
    comes_closed a b seat _ _ _ es out lines (Open seat kind who) closed (λ n k same. absurd (opens_own n seat (front_closed n lines (Open seat kind who) k).1 same)) h
does_close (Data seat bytes) a b es out lines closed h = data_closed (a.sessions seat) a b seat bytes es out lines closed refl h
does_close (Close seat) a b es out lines closed h = close_closed (a.sessions seat) a b seat es out lines closed h
