-- Lines have one history and one output.
use Rattle.std.proofs.Common.{refl, ◌≡◌, ℕ, ◌+◌, List, [], ◌∷◌, ◌++◌, length, Option, Some, None, true, sym, ap, ◌∙◌, subst}
use Rattle.portal_model.specs.declared.entry.Entry.{Entry}
use Rattle.portal_model.specs.declared.request.Request.{Request}
use Rattle.portal_model.specs.History.{run}
use Rattle.portal_model.specs.State.{State}
use Rattle.script_lines.specs.declared.script.ScriptLine.{ScriptLine}
use Rattle.script_lines.specs.declared.script.ScriptLine.TheVariants.{File, Doc, Fail, Word, Now, Open, Data, Close}
use Rattle.script_lines.specs.declared.script.ScriptLine.TheVariants as line
use Rattle.script_form.specs.Outside.{Outside}
use Rattle.session.specs.declared.act.Act.{Act}
use Rattle.session.specs.declared.act.Client.{Client}
use Rattle.session.specs.declared.phase.Phase.{Phase}
use Rattle.session.specs.declared.served.Fed.{Fed}
use Rattle.session.specs.declared.served.Stop.{Stop}
use Rattle.session.specs.declared.served.Stop.TheVariants as stop
use Rattle.session.specs.Answers.{Answers}
use Rattle.session.specs.Asked.{requests_of}
use Rattle.session.specs.Items.{joined, phase_after}
use Rattle.session.specs.Sessions.{fed_of}
use Rattle.session.specs.Standings.{Standing, stage}
use Rattle.session.proofs.ItemsAreOne.{are_one}
use Rattle.session.proofs.AnswersAsked.{say_alike}
use Rattle.script_replay.specs.Entries.{AreGiven, made_of}
use Rattle.script_replay.specs.Lines.{Comes, CloseDoes, DataDoes, Does, Goes, Hears, Passes}
use Rattle.script_replay.specs.Plays.{Plays}
use Rattle.script_replay.specs.Scenes.{Scene, placed}
use Rattle.script_replay.proofs.GivenEntries.{run_told}
use Rattle.script_command.proofs.OneEntry.{entries_one}
use Rattle.script_command.proofs.SoundHistory.{does_lead}

abbrev standing : Client → Phase → ℕ → ℕ → List ℕ → Fed → Standing
standing c p serial before left fed = record { client = c; stage = stage p serial; before = before; rest = left; fed = fed }

standing_is : (x y : Standing) → x.client ≡ y.client → x.stage.phase ≡ y.stage.phase → x.stage.serial ≡ y.stage.serial → x.before ≡ y.before → x.rest ≡ y.rest → x.fed ≡ y.fed → x ≡ y
standing_is x y c p s b r f =
    ap (λ (z : Client). standing z x.stage.phase x.stage.serial x.before x.rest x.fed) c
    ∙ (ap (λ (z : Phase). standing y.client z x.stage.serial x.before x.rest x.fed) p
    ∙ (ap (λ (z : ℕ). standing y.client y.stage.phase z x.before x.rest x.fed) s
    ∙ (ap (λ (z : ℕ). standing y.client y.stage.phase y.stage.serial z x.rest x.fed) b
    ∙ (ap (λ (z : List ℕ). standing y.client y.stage.phase y.stage.serial y.before z x.fed) r
    ∙ ap (λ (z : Fed). standing y.client y.stage.phase y.stage.serial y.before y.rest z) f))))

-- what bytes come to is one thing
hears_one : (s : State) (o : Outside) (seat : ℕ) (at : Standing) (bytes : List ℕ) (what also : Stop) (rs qs : List Request) (ps os : List (List ℕ)) (now then : Standing)
    → s.told ≡ true → Hears s o seat at bytes what rs ps now → Hears s o seat at bytes also qs os then → (what ≡ also) × (rs ≡ qs) × (ps ≡ os) × (now ≡ then)
hears_one s o seat at bytes what also rs qs ps os now then told x y =
    let one = are_one at.client at.stage.phase (at.rest ++ bytes) x.items y.items x.acts y.acts now.rest then.rest what also x.cut y.cut in
    let requests : rs ≡ qs = x.asked ∙ (ap requests_of one.1 ∙ sym y.asked) in
    let given : AreGiven s o seat qs x.entries x.left = subst (λ (z : List Request). AreGiven s o seat z x.entries x.left) requests x.given in
    let entries : x.entries ≡ y.entries = (entries_one qs x.entries y.entries s o seat x.left y.left told given y.given).0 in
    let first : Answers at.client at.stage.serial y.acts (made_of s y.entries) ps now.stage.serial =
    subst (λ (z : List Entry). Answers at.client at.stage.serial y.acts (made_of s z) ps now.stage.serial) entries (subst (λ (z : List Act). Answers at.client at.stage.serial z (made_of s x.entries) ps now.stage.serial) one.1 x.answers) in
    let said = say_alike at.client at.stage.serial now.stage.serial then.stage.serial y.acts (made_of s y.entries) (made_of s y.entries) ps os refl first y.answers in
    let before : now.before ≡ then.before = x.before ∙ (ap (λ (z : List (List ℕ)). at.before + length (joined z)) one.0 ∙ sym y.before) in
    let fed : now.fed ≡ then.fed = x.fed ∙ (ap (λ (z : ℕ). fed_of z what) before ∙ (ap (fed_of then.before) one.3 ∙ sym y.fed)) in (
      one.3,
      requests,
      said.0,
      standing_is now then (x.client ∙ sym y.client) (x.phase ∙ (ap (phase_after at.client at.stage.phase) one.0 ∙ sym y.phase)) said.1 before one.2 fed,
    )

-- two ends of a line are one
abbrev AreSame : List Entry → List Entry → List (List ℕ) → List (List ℕ) → Scene → Scene → Type 0
AreSame es fs out also b c = (es ≡ fs) × (out ≡ also) × (b ≡ c)

passes_one : (a b c : Scene) (es fs : List Entry) (out also : List (List ℕ)) → Passes a es out b → Passes a fs also c → AreSame es fs out also b c
passes_one a b c es fs out also h k = (h.0 ∙ sym k.0, h.1 ∙ sym k.1, h.2 ∙ sym k.2)

abbrev reached : Scene → ℕ → Option Standing → List Entry → Outside → Scene
reached a seat now es left = record { portal = run a.portal es; outside = left; sessions = placed a.sessions seat now }

comes_one : (a b c : Scene) (seat : ℕ) (rs : List Request) (lines : List (List ℕ)) (now : Option Standing) (es fs : List Entry) (out also : List (List ℕ))
    → a.portal.told ≡ true → Comes a seat rs lines now es out b → Comes a seat rs lines now fs also c → AreSame es fs out also b c
comes_one a b c seat rs lines now es fs out also told h k =
    let one = entries_one rs es fs a.portal a.outside seat h.left k.left told h.given k.given in
    let end : reached a seat now es h.left ≡ reached a seat now fs k.left = λ i. reached a seat now (one.0 i) (one.1 i) in
    (one.0, h.out_is ∙ sym k.out_is, h.scene ∙ (end ∙ sym k.scene))

goes_one : (what : Stop) (a b c : Scene) (seat : ℕ) (rs : List Request) (ps : List (List ℕ)) (now : Standing) (es fs : List Entry) (out also : List (List ℕ))
    → a.portal.told ≡ true → Goes a seat what rs ps now es out b → Goes a seat what rs ps now fs also c → AreSame es fs out also b c
goes_one stop.More a b c seat rs ps now es fs out also told h k = comes_one a b c seat _ _ _ es fs out also told h k
goes_one (stop.Bad rule) a b c seat rs ps now es fs out also told h k = comes_one a b c seat _ _ _ es fs out also told h k
goes_one stop.TooLong a b c seat rs ps now es fs out also told h k = comes_one a b c seat _ _ _ es fs out also told h k

heard_one : (a b c : Scene) (seat : ℕ) (at : Standing) (bytes : List ℕ) (what other : Stop) (rs qs : List Request) (ps os : List (List ℕ)) (now then : Standing) (es fs : List Entry) (out also : List (List ℕ))
    → a.portal.told ≡ true → Hears a.portal a.outside seat at bytes what rs ps now → Hears a.portal a.outside seat at bytes other qs os then → Goes a seat what rs ps now es out b → Goes a seat other qs os then fs also c → AreSame es fs out also b c
heard_one a b c seat at bytes what other rs qs ps os now then es fs out also told x y h k =
    let one = hears_one a.portal a.outside seat at bytes what other rs qs ps os now then told x y in
    let g1 = subst (λ (z : Stop). Goes a seat z rs ps now es out b) one.0 h in
    let g2 = subst (λ (z : List Request). Goes a seat other z ps now es out b) one.1 g1 in
    let g3 = subst (λ (z : List (List ℕ)). Goes a seat other qs z now es out b) one.2 g2 in
    let g4 = subst (λ (z : Standing). Goes a seat other qs os z es out b) one.3 g3 in
    goes_one other a b c seat qs os then es fs out also told g4 k

data_one : (o : Option Standing) (a b c : Scene) (seat : ℕ) (bytes : List ℕ) (es fs : List Entry) (out also : List (List ℕ))
    → a.portal.told ≡ true → DataDoes a seat bytes o es out b → DataDoes a seat bytes o fs also c → AreSame es fs out also b c
data_one None a b c seat bytes es fs out also told h k = passes_one a b c es fs out also h k
data_one (Some at) a b c seat bytes es fs out also told h k = heard_one a b c seat at bytes h.0 k.0 h.1 k.1 h.2 k.2 h.3 k.3 es fs out also told h.4 k.4 h.5 k.5

close_one : (o : Option Standing) (a b c : Scene) (seat : ℕ) (es fs : List Entry) (out also : List (List ℕ))
    → a.portal.told ≡ true → CloseDoes a seat o es out b → CloseDoes a seat o fs also c → AreSame es fs out also b c
close_one None a b c seat es fs out also told h k = passes_one a b c es fs out also h k
close_one (Some at) a b c seat es fs out also told h k = comes_one a b c seat _ _ _ es fs out also told h k

does_one : (line : ScriptLine) (a b c : Scene) (es fs : List Entry) (out also : List (List ℕ)) → a.portal.told ≡ true → Does a line es out b → Does a line fs also c → AreSame es fs out also b c
does_one (File path content) a b c es fs out also told h k = passes_one a b c es fs out also h k
does_one (Doc id reusable strict path grants) a b c es fs out also told h k = passes_one a b c es fs out also h k
does_one (Now moment) a b c es fs out also told h k = (h.0 ∙ sym k.0, h.1 ∙ sym k.1, h.2 ∙ sym k.2)
does_one (line.Entry entry) a b c es fs out also told h k = passes_one a b c es fs out also h k
does_one (Fail device call) a b c es fs out also told h k = passes_one a b c es fs out also h k
does_one (Word word) a b c es fs out also told h k = passes_one a b c es fs out also h k
does_one (Open seat kind who) a b c es fs out also told h k = comes_one a b c seat _ _ _ es fs out also told h k
does_one (Data seat bytes) a b c es fs out also told h k = data_one (a.sessions seat) a b c seat bytes es fs out also told h k
does_one (Close seat) a b c es fs out also told h k = close_one (a.sessions seat) a b c seat es fs out also told h k

pub plays_one : (lines : List ScriptLine) (a b c : Scene) (es fs : List Entry) (out also : List (List ℕ)) → a.portal.told ≡ true → Plays a lines es out b → Plays a lines fs also c → AreSame es fs out also b c
plays_one [] a b c es fs out also told h k = passes_one a b c es fs out also h k
plays_one (line ∷ lines) a b c es fs out also told (first, more, said, later, mid, entries_are, out_is, does, plays) (first', more', said', later', mid', entries_are', out_is', does', plays') =
    let one = does_one line a mid mid' first first' said said' told does does' in
    let stays : mid'.portal.told ≡ true = ap (λ (z : State). z.told) (does_lead line a mid' first' said' does').portal ∙ (run_told first' a.portal ∙ told) in
    let others = plays_one lines mid' b c more more' later later' stays (subst (λ (z : Scene). Plays z lines more later b) one.2 plays) plays' in (
      entries_are ∙ (ap (λ (z : List Entry). z ++ more) one.0 ∙ (ap (λ (z : List Entry). first' ++ z) others.0 ∙ sym entries_are')),
      out_is ∙ (ap (λ (z : List (List ℕ)). z ++ later) one.1 ∙ (ap (λ (z : List (List ℕ)). said' ++ z) others.1 ∙ sym out_is')),
      others.2,
    )
