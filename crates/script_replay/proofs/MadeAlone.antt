-- What became of a seat's requests at a portal that it has alone: where none was refused, each is an entry that
-- the outside of the script gives.
use Rattle.std.proofs.Common.{◌≡◌, ℕ, suc, ◌==◌, List, [], ◌∷◌, ◌++◌, Option, Some, None, Result, Ok, Err, Bool, true, cond, refl, sym, ap, ◌∙◌, subst, arith}
use Rattle.std.specs.List.{All}
use Rattle.std.specs.Option.{option_map}
use Rattle.std.specs.Prelude.{IfSome}
use Rattle.std.proofs.lemmas.Bool.Decides.{nat_tests}
use Rattle.std.proofs.lemmas.List.{append_cancel_left}
use Rattle.node_looks.specs.Done.{Reads}
use Rattle.node_looks.specs.TreeCalls.{Call, after_calls}
use Rattle.host_tree.specs.Devices.{tree_of}
use Rattle.host_tree.specs.Trees.{TreeIs, after_call}
use Rattle.portal_base.specs.Calls.{Calls, next_call}
use Rattle.portal_steps.specs.Answered.{Spends, Went}
use Rattle.portal_core.specs.Chain.{Chain, answered, refused}
use Rattle.portal_steps.specs.Devices.{KeeperWentOn}
use Rattle.portal_steps.specs.Story.{state_first, state_now}
use Rattle.portal_steps.specs.TreeCalls.{entry_calls}
use Rattle.portal_model.specs.declared.state.Connection.{Connection}
use Rattle.record_keeper.specs.Devices.{KeeperState, keeper_of}
use Rattle.record_keeper.specs.Keepers.{KeeperIs}
use Rattle.script_replay.specs.Scenes.{ScriptPortal, outside_at}
use Rattle.script_replay.specs.Seats.{Alone, Asked, clock_of, words_of}
use Rattle.portal_model.specs.declared.entry.Entry.{Entry}
use Rattle.portal_model.specs.declared.request.Request.{Request}
use Rattle.portal_model.specs.History.{EachLawful, Legal, run}
use Rattle.portal_model.specs.Seated.{Exchange, exchange, exchanges, rises_by}
use Rattle.portal_model.specs.Lawful.{Lawful}
use Rattle.portal_model.specs.State.{State, connection_of}
use Rattle.portal_model.specs.Step.{after, bus_of}
use Rattle.portal_model.proofs.Histories.{Legal-rest, run-append}
use Rattle.portal_model.proofs.SeatLaws.{exchanges-append}
use Rattle.session.specs.Answers.{AreOf, Denied, IsOf, Made, Outcome, denied, kept}
use Rattle.script_replay.specs.Entries.{Applied, AreGiven, ChangesOn, IsGiven, calls_past, made_of}

abbrev IsOwn : ℕ → Entry → Type 0
IsOwn seat e = e.seat ≡ seat

abbrev Goes : ScriptPortal → List (Result Entry Request) → ScriptPortal → Type 0
Goes = Chain (Went tree_of keeper_of clock_of words_of) (Spends tree_of keeper_of clock_of words_of)

-- ---- what the devices go through

some_is : (x y : Calls) → Some x ≡ Some y → x ≡ y
some_is x y e = cc

-- the tree was called so often as there are calls
calls_go : (calls : List Call) (t : TreeIs) (c : Calls) → t.calls ≡ Some c → (after_calls t calls).calls ≡ Some (calls_past c calls)
calls_go [] t c e = e
calls_go (call ∷ more) t c e = calls_go more (after_call t call.0 call.1 t.told) (next_call c) (ap (option_map next_call) e)

-- a clock that was set shows its moment, and stays
clock_goes : (now : Option ℕ) (a b : ℕ) → Reads clock_of a now b → IfSome now (λ n. n ≡ a) × (b ≡ a)
clock_goes None a b k = (tt, k)
clock_goes (Some n) a b k = (k.value, k.stays)

-- the keeper was called as the outside says
keeper_went : (s : State) (e : Entry) (then : State) (x y : KeeperState) (c : Option Connection) → KeeperWentOn s e then (keeper_of x) (keeper_of y) c
    → (ChangesOn s e c → Applied x.count.calls e.given.fault y.count.calls) × ((ChangesOn s e c → ⊥) → y.count.calls ≡ x.count.calls)
keeper_went s e then x y None k = (λ changes. absurd changes, λ _. some_is _ _ (ap (λ (z : KeeperIs). z.calls) k))
keeper_went s e then x y (Some c) k = (
  λ changes. record { goes = some_is _ _ (ap (λ (z : KeeperIs). z.calls) (k.called changes).goes); fails = (k.called changes).fails },
  λ unchanged. some_is _ _ (ap (λ (z : KeeperIs). z.calls) (k.uncalled unchanged)),
)

went_given : (a m : ScriptPortal) (e : Entry) → Lawful (state_now a.story) e → Went tree_of keeper_of clock_of words_of a e m → IsGiven (state_now a.story) (outside_at a) e (outside_at m)
went_given a m e lawful w =
    let s = state_now a.story in
    let keeper = keeper_went s e (state_now m.story) a.keeper m.keeper (bus_of (connection_of s.connections e.seat)) w.keeper in
    let clock = clock_goes e.given.now a.clock m.clock w.clock in
    record {
      lawful = lawful;
      tree = w.tree.fails;
      tree_left = some_is _ _ (ap (λ (t : TreeIs). t.calls) w.tree.goes ∙ calls_go (entry_calls s e) (tree_of a.tree) a.tree.count.calls refl);
      applied = keeper.0;
      unapplied = keeper.1;
      words = w.words;
      moment = clock.0;
      clock = clock.1;
    }

-- and the portal is in the state after the entry
went_on : (a m : ScriptPortal) (e : Entry) → Went tree_of keeper_of clock_of words_of a e m → state_now m.story ≡ after (state_now a.story) e
went_on a m e w = ap state_now w.grown ∙ run-append a.story.history (e ∷ []) (state_first a.story)

-- ---- what was asked

-- an entry of the seat is its first exchange
own_first : (seat : ℕ) (s : State) (e : Entry) (es : List Entry) → e.seat ≡ seat → exchanges seat s (e ∷ es) ≡ exchange s e ∷ exchanges seat (after s e) es
own_first seat s e es h =
    let own : (e.seat == seat) ≡ true = grind (arith, nat_tests) in
    ap (λ (b : Bool). cond b (exchange s e ∷ []) [] ++ exchanges seat (after s e) es) own

more_own : (seat : ℕ) (e : Entry) (es : List Entry) → All (IsOwn seat) (e ∷ es) → All (IsOwn seat) es
more_own seat e es h = λ k d l. h (suc k) d (omega arith)

-- the first of outcomes of which none was refused is made
first_made : (o : Outcome) (os : List Outcome) (x : Exchange) (xs : List Exchange) → x ∷ xs ≡ kept (o ∷ os) → denied (o ∷ os) ≡ 0 → (o ≡ Made x) × (xs ≡ kept os) × (denied os ≡ 0)
first_made (Made y) os x xs same none = (cc, cc, none)
first_made (Denied request why) os x xs same none = absurd (omega arith)

none_made : (o : Outcome) (os : List Outcome) → [] ≡ kept (o ∷ os) → denied (o ∷ os) ≡ 0 → ⊥
none_made (Made y) os same none = cc
none_made (Denied request why) os same none = omega arith

not_nothing : (x : Exchange) (xs : List Exchange) → x ∷ xs ≡ [] → ⊥
not_nothing x xs h = cc

-- entries of the seat alone that are no exchanges of it are none
pub nothing_more : (more : List Entry) (s : State) (seat : ℕ) → All (IsOwn seat) more → exchanges seat s more ≡ [] → more ≡ []
nothing_more [] s seat own none = refl
nothing_more (e ∷ es) s seat own none = absurd (not_nothing (exchange s e) (exchanges seat (after s e) es) (sym (own_first seat s e es (own 0 e (omega arith))) ∙ none))

-- entries of a seat that has the portal alone, and what became of its requests: they are those that
-- the outside gives, and the outside goes on behind them
record AreMade (a b : ScriptPortal) (seat : ℕ) (rs : List Request) (more : List Entry) (outcomes : List Outcome) : Type 0 where
  pub given : AreGiven (state_now a.story) (outside_at a) seat rs more (outside_at b)
  pub outcomes_are : outcomes ≡ made_of (state_now a.story) more

made_are : (asked : List (Result Entry Request)) (rs : List Request) (outcomes : List Outcome) (a b : ScriptPortal) (seat : ℕ) → refused asked ≡ 0 → All (IsOwn seat) (answered asked) → EachLawful (state_now a.story) (answered asked)
    → Goes a asked b → exchanges seat (state_now a.story) (answered asked) ≡ kept outcomes → denied outcomes ≡ 0 → AreOf rs outcomes → AreMade a b seat rs (answered asked) outcomes
made_are [] [] outcomes a b seat counted own lawful chain same none of = record { given = ap outside_at chain; outcomes_are = of }
made_are [] (r ∷ rs) outcomes a b seat counted own lawful chain same none of =
    absurd (none_made of.0 of.1 (same ∙ ap kept of.2) (sym (ap denied of.2) ∙ none))
made_are (Err request ∷ asked) rs outcomes a b seat counted own lawful chain same none of =
    absurd (omega arith)
made_are (Ok e ∷ asked) [] outcomes a b seat counted own lawful chain same none of =
    let s = state_now a.story in
    absurd (not_nothing (exchange s e) (exchanges seat (after s e) (answered asked)) (sym (own_first seat s e (answered asked) (own 0 e (omega arith))) ∙ (same ∙ ap kept of)))
made_are (Ok e ∷ asked) (r ∷ rs) outcomes a b seat counted own lawful chain same none of =
    let s = state_now a.story in
    let m = chain.0 in
    let here = own 0 e (omega arith) in
    let one = first_made of.0 of.1 (exchange s e) (exchanges seat (after s e) (answered asked)) (sym (own_first seat s e (answered asked) here) ∙ (same ∙ ap kept of.2)) (sym (ap denied of.2) ∙ none) in
    let request : e.request ≡ r = subst (λ (x : Outcome). IsOf r x) one.0 of.3 in
    let on : state_now m.story ≡ after s e = went_on a m e chain.1 in
    let rest_lawful : EachLawful (state_now m.story) (answered asked) = subst (λ (z : State). EachLawful z (answered asked)) (sym on) lawful.1 in
    let rest_same : exchanges seat (state_now m.story) (answered asked) ≡ kept of.1 = ap (λ (z : State). exchanges seat z (answered asked)) on ∙ one.1 in
    let rest = made_are asked rs of.1 m b seat counted (more_own seat e (answered asked) own) rest_lawful chain.2 rest_same one.2 of.4 in
    record {
      given = (here, request, outside_at m, went_given a m e lawful.0 chain.1, subst (λ (z : State). AreGiven z (outside_at m) seat rs (answered asked) (outside_at b)) on rest.given);
      outcomes_are = of.2 ∙ (ap (λ (x : Outcome). x ∷ of.1) one.0
          ∙ ap (λ (l : List Outcome). Made (exchange s e) ∷ l) (rest.outcomes_are ∙ ap (λ (z : State). made_of z (answered asked)) on));
    }

-- what is new in the history of a portal that a seat has alone
none_refused : (n count : ℕ) → count ≡ 0 → count ≡ rises_by 0 n → n ≡ 0
none_refused n count c e = omega arith

module _ (p q : ScriptPortal) (seat count : ℕ) (legal : Legal (state_first p.story) q.story.history) (g : Alone seat count p q) where
  abbrev s : State
  s = state_first p.story

  more_exchanges : (xs : List Exchange) → exchanges seat s q.story.history ≡ exchanges seat s p.story.history ++ xs → exchanges seat (run s p.story.history) (answered g.asked) ≡ xs
  more_exchanges xs h =
      append_cancel_left (exchanges seat s p.story.history) _ _ (sym (exchanges-append seat p.story.history (answered g.asked) s) ∙ (sym (ap (exchanges seat s) g.grows.grown) ∙ h))

  more_lawful : EachLawful (run s p.story.history) (answered g.asked)
  more_lawful = (Legal-rest p.story.history (answered g.asked) s (subst (Legal s) g.grows.grown legal)).lawful

  -- none was refused: the entries are those that the outside gives
  pub asked_alone : count ≡ 0 → (rs : List Request) (outcomes : List Outcome) → exchanges seat s q.story.history ≡ exchanges seat s p.story.history ++ kept outcomes → denied outcomes ≡ 0 → AreOf rs outcomes
      → (k : Asked p q seat rs) × (outcomes ≡ made_of (state_now p.story) k.entries)
  asked_alone zero_count rs outcomes mine none of =
      let made = made_are g.asked rs outcomes p q seat (none_refused (refused g.asked) count zero_count g.count) g.grows.own more_lawful g.chain (more_exchanges (kept outcomes) mine) none of in
      (record { entries = answered g.asked; given = made.given; history = g.grows.grown }, made.outcomes_are)

  -- no exchange is new: the history is as before
  pub nothing_alone : exchanges seat s q.story.history ≡ exchanges seat s p.story.history ++ [] → q.story.history ≡ p.story.history ++ []
  nothing_alone mine =
      g.grows.grown ∙ ap (λ (l : List Entry). p.story.history ++ l) (nothing_more (answered g.asked) (run s p.story.history) seat g.grows.own (more_exchanges [] mine))
