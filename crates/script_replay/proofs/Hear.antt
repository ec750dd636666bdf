-- What a session is fed at a desk that has a portal alone.
use Rattle.std.proofs.Common.{◌≡◌, inl, inr, ℕ, ◌+◌, ◌<◌, ◌≤◌, List, [], ◌∷◌, ◌++◌, length, Some, Bool, true, false, refl, sym, ap, ◌∙◌, subst, arith}
use Rattle.std.specs.Prelude.{◌⊎◌}
use Rattle.portal_base.specs.Devices.{SinkState}
use Rattle.portal_steps.specs.Story.{state_first, state_now}
use Rattle.portal_model.specs.History.{Legal}
use Rattle.portal_model.specs.Seated.{exchanges, rises_by}
use Rattle.portal_model.specs.State.{State}
use Rattle.session.specs.declared.phase.Phase.{Phase}
use Rattle.session.specs.declared.served.Fed.{Fed}
use Rattle.session.specs.declared.served.Fed.TheVariants as fed
use Rattle.session.specs.declared.served.Stop.{Stop}
use Rattle.session.specs.declared.served.Stop.TheVariants as stop
use Rattle.session.specs.declared.served.Served.{Served}
use Rattle.session.specs.declared.served.Served.TheVariants as served
use Rattle.session.specs.Answers.{Answers, Outcome, denied, kept}
use Rattle.session.specs.Asked.{requests_of}
use Rattle.session.specs.Items.{Items, Remains}
use Rattle.session.specs.Ledger.{World}
use Rattle.session.specs.Sessions.{Feeds, FeedsOpen, FeedsOver, TakesUpTo, fed_of}
use Rattle.session.specs.Standings.{Standing, longest}
use Rattle.session.proofs.AnswersAsked.{answer_asked}
use Rattle.session.proofs.Grew.{told_alike}
use Rattle.script_replay.specs.declared.seats.Heard.{Heard}
use Rattle.script_replay.specs.Entries.{made_of}
use Rattle.script_replay.specs.Scenes.{ScriptPortal, outside_at}
use Rattle.script_replay.specs.Seats.{Alone, HeardAs, HearsAt, IsMet, WantsMemory, known_at, sunk}
use Rattle.script_replay.proofs.MadeAlone.{asked_alone}

some_is : (x y : List (List ℕ)) → Some x ≡ Some y → x ≡ y
some_is x y e = cc

none_denied : (n count : ℕ) → count ≡ 0 → count ≡ rises_by 0 n → n ≡ 0
none_denied n count c e = omega arith

-- what was taken of a rest and a piece, at such a desk
module _ (p q : ScriptPortal) (seat count : ℕ) (at now : Standing) (bytes : List ℕ) (sink sink' : SinkState) (empty : sink.pieces ≡ []) (same : state_first q.story ≡ state_first p.story) (own : Alone seat count p q) (legal : Legal (state_first q.story) q.story.history) (none : count ≡ 0) (told : (state_first p.story).told ≡ true) where
  cut_taken : (what : Stop) → (t : TakesUpTo what at (sunk (known_at p seat 0) sink) bytes now (sunk (known_at q seat count) sink')) → Items at.client at.stage.phase (at.rest ++ bytes) t.did.items t.did.acts now.rest what
  cut_taken what t = record {
    bytes = t.bytes ∙ ap (λ (z : List ℕ). z ++ now.rest) t.did.bytes_are;
    each = t.did.each;
    remains = subst (λ (z : Phase). Remains at.client z now.rest what) t.did.phase t.remains;
  }

  takes_hears : (what : Stop) → TakesUpTo what at (sunk (known_at p seat 0) sink) bytes now (sunk (known_at q seat count) sink') → now.fed ≡ fed_of now.before what → HearsAt p q seat at bytes what sink'.pieces now
  takes_hears what t fed_is =
      let d = t.did in
      let s = state_first p.story in
      let rs = requests_of d.acts in
      let mine : exchanges seat s q.story.history ≡ exchanges seat s p.story.history ++ kept d.outcomes = sym (ap (λ (z : State). exchanges seat z q.story.history) same) ∙ told_alike _ _ d.outcomes d.grows.desk told in
      let fewest : denied d.outcomes ≡ 0 = none_denied (denied d.outcomes) count none d.grows.desk.refusals in
      let made = asked_alone p q seat count (subst (λ (z : State). Legal z q.story.history) same legal) own none rs d.outcomes mine fewest (answer_asked.items at.client at.stage.serial now.stage.serial d.acts d.outcomes d.pieces d.answers) in
      let pieces : sink'.pieces ≡ d.pieces = some_is _ _ d.grows.told ∙ ap (λ (z : List (List ℕ)). z ++ d.pieces) empty in
      let answers : Answers at.client at.stage.serial d.acts (made_of (state_now p.story) made.0.entries) sink'.pieces now.stage.serial =
      subst (λ (z : List (List ℕ)). Answers at.client at.stage.serial d.acts (made_of (state_now p.story) made.0.entries) z now.stage.serial) (sym pieces)
      (subst (λ (z : List Outcome). Answers at.client at.stage.serial d.acts z d.pieces now.stage.serial) made.1 d.answers) in (
        rs,
        record {
          items = d.items;
          acts = d.acts;
          cut = cut_taken what t;
          asked = refl;
          entries = made.0.entries;
          left = outside_at q;
          given = made.0.given;
          answers = answers;
          client = t.client;
          phase = d.phase;
          before = t.before ∙ ap (λ (z : List ℕ). at.before + length z) d.bytes_are;
          fed = fed_is;
        },
        made.0,
        refl,
      )

  -- by what the session answered
  abbrev Fed_so : Fed → Type 0
  Fed_so r = Feeds at.fed at (sunk (known_at p seat 0) sink) bytes r now (sunk (known_at q seat count) sink')

  open_so : (r : Fed) → at.fed ≡ fed.More → Fed_so r → FeedsOpen at (sunk (known_at p seat 0) sink) bytes r now (sunk (known_at q seat count) sink')
  open_so r goes h = subst (λ (z : Fed). Feeds z at (sunk (known_at p seat 0) sink) bytes r now (sunk (known_at q seat count) sink')) goes h

  pub heard_more : at.fed ≡ fed.More → Fed_so fed.More → HeardAs false p q seat at bytes sink'.pieces now
  heard_more goes f = let g = open_so fed.More goes f in takes_hears stop.More g.0 g.1.0

  over_met : (s : Served) → at.before + length at.rest + length bytes ≤ longest → FeedsOver at (sunk (known_at p seat 0) sink) bytes s now (sunk (known_at q seat count) sink') → IsMet s
  over_met (served.Malformed place rule) space h = tt
  over_met (served.LineTooLong place) space h = tt
  over_met served.Spent space h = let far = h.0 in absurd (omega arith)
  over_met served.Ended space h = absurd h
  over_met (served.Cut n) space h = absurd h
  over_met served.ReadFault space h = absurd h
  over_met served.WriteFault space h = absurd h
  over_met (served.Full cost limit) space h = absurd h
  over_met served.Memory space h = absurd h

  pub met : at.fed ≡ fed.More → (s : Served) → at.before + length at.rest + length bytes ≤ longest → Fed_so (fed.Over s) → IsMet s
  met goes s space f = over_met s space (open_so (fed.Over s) goes f).0

  over_heard : (s : Served) → IsMet s → FeedsOpen at (sunk (known_at p seat 0) sink) bytes (fed.Over s) now (sunk (known_at q seat count) sink') → HeardAs true p q seat at bytes sink'.pieces now
  over_heard (served.Malformed place rule) is h = (stop.Bad rule, tt, takes_hears (stop.Bad rule) h.0.0 (h.1.0 ∙ ap (λ (n : ℕ). fed.Over (served.Malformed n rule)) h.0.1))
  over_heard (served.LineTooLong place) is h = (stop.TooLong, tt, takes_hears stop.TooLong h.0.0 (h.1.0 ∙ ap (λ (n : ℕ). fed.Over (served.LineTooLong n)) h.0.1))
  over_heard served.Spent is h = absurd is
  over_heard served.Ended is h = absurd is
  over_heard (served.Cut n) is h = absurd is
  over_heard served.ReadFault is h = absurd is
  over_heard served.WriteFault is h = absurd is
  over_heard (served.Full cost limit) is h = absurd is
  over_heard served.Memory is h = absurd is

  pub heard_last : at.fed ≡ fed.More → (s : Served) → at.before + length at.rest + length bytes ≤ longest → Fed_so (fed.Over s) → (heard : Heard) → heard.written ≡ sink' → heard.is_over ≡ true → HeardAs heard.is_over p q seat at bytes heard.written.pieces now
  heard_last goes s space f heard written over =
      let g = open_so (fed.Over s) goes f in
      let all = over_heard s (over_met s space g.0) g in
      subst (λ (b : Bool). HeardAs b p q seat at bytes heard.written.pieces now) (sym over) (subst (λ (z : SinkState). HeardAs true p q seat at bytes z.pieces now) (sym written) all)

-- ---- there was no memory

-- a request was refused
pub wants_request : (r : Fed) (refusals : ℕ) → 1 ≤ refusals → WantsMemory r refusals
wants_request fed.More refusals h = h
wants_request (fed.Over met) refusals h = h
wants_request fed.WriteFault refusals h = tt
wants_request fed.Memory refusals h = tt

-- the sink was full, or the session had no memory
pub wants_room : (at now : Standing) (v w : World) (bytes : List ℕ) (refusals : ℕ) → at.fed ≡ fed.More → Feeds at.fed at v bytes fed.WriteFault now w ⊎ Feeds at.fed at v bytes fed.Memory now w → WantsMemory now.fed refusals
wants_room at now v w bytes refusals goes (inl f) =
    let h : Feeds fed.More at v bytes fed.WriteFault now w = subst (λ (z : Fed). Feeds z at v bytes fed.WriteFault now w) goes f in
    subst (λ (z : Fed). WantsMemory z refusals) (sym h.2.0) tt
wants_room at now v w bytes refusals goes (inr f) =
    let h : Feeds fed.More at v bytes fed.Memory now w = subst (λ (z : Fed). Feeds z at v bytes fed.Memory now w) goes f in
    subst (λ (z : Fed). WantsMemory z refusals) (sym h.1.0) tt
