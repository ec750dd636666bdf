-- What the devices of a portal went through in an entry.
use Rattle.std.proofs.Common.{◌≡◌, ◌≢◌, ℕ, List, [], ◌∷◌, ◌++◌, length, Bool, true, false, Option, Some, None, refl, sym, ap, subst, ◌∙◌, inl}
use Rattle.host_tree.specs.Trees.{TreeIs}
use Rattle.file_ops.specs.Wanting.{calls_in_vain}
use Rattle.node_looks.specs.Done.{MayRead, Reads}
use Rattle.file_generations.specs.Generations.{Held}
use Rattle.portal_model.specs.declared.entry.Entry.{Entry}
use Rattle.portal_model.specs.declared.entry.Fault.{Fault}
use Rattle.portal_model.specs.declared.entry.Given.{Given}
use Rattle.portal_model.specs.declared.request.AddRequest.{AddRequest}
use Rattle.portal_model.specs.declared.request.NodeRequest.{NodeRequest}
use Rattle.portal_model.specs.declared.request.Request.{Request}
use Rattle.portal_model.specs.declared.state.Connection.{Connection}
use Rattle.portal_model.specs.Bus.{is_tree}
use Rattle.portal_model.specs.Outside.{ChangesRecords, verdict_of}
use Rattle.portal_model.specs.State.{State, connection_of}
use Rattle.portal_model.specs.Step.{all_told, bus_of}
use Rattle.record_keeper.specs.Keepers.{KeeperIs}
use Rattle.document_calls.specs.KeeperCalls.{KeeperStays}
use Rattle.portal_steps.specs.Answered.{DrewForMade, Spends, Went}
use Rattle.add_calls.specs.Placing.{Drew, HasDrawnUpTo}
use Rattle.add_calls.specs.Shown.{Asked}
use Rattle.add_serving.specs.Adds.{WasAsked, most_looks, most_words}
use Rattle.portal_steps.specs.Devices.{Drawn, Keeping, KeeperWentOn, may_ask_tree_in_vain, may_change_records, may_draw, may_read_clock}
use Rattle.portal_steps.proofs.AskedCalls.{asked-calling, asked-keeps, was-asked-called}
use Rattle.portal_steps.proofs.BusCalls.{listed}
use Rattle.portal_steps.proofs.DrawnWords.{drawn-drew}
use Rattle.portal_steps.specs.Story.{IsAsBefore, PortalIs, state_now}
use Rattle.node_looks.specs.TreeCalls.{Call}
use Rattle.portal_steps.specs.TreeCalls.{Calling, WasCalledUpTo, entry_calls}

-- ---- requests that are none on documents

abbrev pub is_plain : Request → Bool
is_plain (Request.Enter who kind) = true
is_plain Request.Leave = true
is_plain Request.Collect = true
is_plain (Request.Node r) = true
is_plain request = false

plain-changes-none : (s : State) (c : Connection) (request : Request) (given : Given) → is_plain request ≡ true → ChangesRecords s (verdict_of s c request given) → ⊥
plain-changes-none s c (Request.Enter who kind) given h k = k.1 refl
plain-changes-none s c Request.Leave given h k = k.1 refl
plain-changes-none s c Request.Collect given h k = k.1 refl
plain-changes-none s c (Request.Node r) given h k = k.1 refl
plain-changes-none s c request given h k = absurd (cc)

still-on : (s : State) (e : Entry) (after : State) (k : KeeperIs) (o : Option Connection) → is_plain e.request ≡ true → KeeperWentOn s e after k k o
still-on s e after k None h = refl
still-on s e after k (Some c) h = record {
  called = λ changes. absurd (plain-changes-none (all_told c.seat s) c e.request e.given h changes);
  uncalled = λ _. refl;
}

drawn-none : (told : Option (List ℕ)) (words : List ℕ) → words ≡ [] → Drawn told words told
drawn-none told words e = subst (λ (ws : List ℕ). Drawn told ws told) (sym e) refl

-- ---- the tree and the clock aren't asked

pub calling-none : (t : TreeIs) → Calling t [] t.told t
calling-none t = record { goes = refl; fails = tt }

reads-none : {C : Type 0} (reads : C → ℕ → C → Type 0) (old : C) (moment : Option ℕ) (new : C) → moment ≡ None → new ≡ old → Reads reads old moment new
reads-none reads old None new e k = k
reads-none reads old (Some now) new e k = absurd (cc)

module _ {T K C W : Type 0} (tree_is : T → TreeIs) (keeper_is : K → KeeperIs) (clock_reads : C → ℕ → C → Type 0) (words_told : W → Option (List ℕ)) (old new : PortalIs T K C W) (e : Entry) where
  -- by an entry, and nothing else
  story-grown : new.story.began ≡ old.story.began → new.story.opening ≡ old.story.opening → new.story.history ≡ old.story.history ++ e ∷ [] → new.story ≡ record old.story { history = old.story.history ++ e ∷ [] }
  story-grown b o h = λ i. record { began = b i; opening = o i; history = h i }

  still-called : entry_calls (state_now old.story) e ≡ [] → new.tree ≡ old.tree → Calling (tree_is old.tree) (entry_calls (state_now old.story) e) (tree_is new.tree).told (tree_is new.tree)
  still-called none t = subst (λ (calls : List Call). Calling (tree_is old.tree) calls (tree_is new.tree).told (tree_is new.tree)) (sym none)
      (subst (λ (x : T). Calling (tree_is old.tree) [] (tree_is x).told (tree_is x)) (sym t) (calling-none (tree_is old.tree)))

  -- a request on a node
  pub went-node : new.story.began ≡ old.story.began → new.story.opening ≡ old.story.opening → new.story.history ≡ old.story.history ++ e ∷ [] → is_plain e.request ≡ true → Calling (tree_is old.tree) (entry_calls (state_now old.story) e) (tree_is new.tree).told (tree_is new.tree) → e.given.fault ≢ Fault.Keeper → e.given.words ≡ [] → new.keeper ≡ old.keeper →
      Reads clock_reads old.clock e.given.now new.clock → new.words ≡ old.words → Went tree_is keeper_is clock_reads words_told old e new
  went-node b o h plain calling fault drawn k c w = record {
    grown = story-grown b o h;
    tree = calling;
    keeper = subst (λ (x : K). Keeping (state_now old.story) e (state_now new.story) (keeper_is old.keeper) (keeper_is x)) (sym k)
        (still-on (state_now old.story) e (state_now new.story) (keeper_is old.keeper) (bus_of (connection_of (state_now old.story).connections e.seat)) plain);
    clock = c;
    words = subst (λ (x : W). Drawn (words_told old.words) e.given.words (words_told x)) (sym w) (drawn-none (words_told old.words) e.given.words drawn);
    unkept = λ _. (fault, k);
    undrawn = λ _. w;
  }

  -- an Enter, a Leave or a Collect
  pub went-plain : new.story.began ≡ old.story.began → new.story.opening ≡ old.story.opening → new.story.history ≡ old.story.history ++ e ∷ [] → is_plain e.request ≡ true → entry_calls (state_now old.story) e ≡ [] → new.tree ≡ old.tree → e.given.fault ≢ Fault.Keeper → e.given.words ≡ [] → new.keeper ≡ old.keeper → e.given.now ≡ None → new.clock ≡ old.clock → new.words ≡ old.words →
      Went tree_is keeper_is clock_reads words_told old e new
  went-plain b o h plain none t fault drawn k moment c w = went-node b o h plain (still-called none t) fault drawn k (reads-none clock_reads old.clock e.given.now new.clock moment c) w

  -- a request on documents but Add
  pub went-call : new.story.began ≡ old.story.began → new.story.opening ≡ old.story.opening → new.story.history ≡ old.story.history ++ e ∷ [] → new.tree ≡ old.tree → entry_calls (state_now old.story) e ≡ [] → Keeping (state_now old.story) e (state_now new.story) (keeper_is old.keeper) (keeper_is new.keeper) → e.given.now ≡ None → new.clock ≡ old.clock →
      e.given.words ≡ [] → new.words ≡ old.words → (may_change_records e.request ≡ false → (e.given.fault ≢ Fault.Keeper) × (new.keeper ≡ old.keeper)) → Went tree_is keeper_is clock_reads words_told old e new
  went-call b o h t none keeping moment c drawn w unkept = record {
    grown = story-grown b o h;
    tree = still-called none t;
    keeper = keeping;
    clock = reads-none clock_reads old.clock e.given.now new.clock moment c;
    words = subst (λ (x : W). Drawn (words_told old.words) e.given.words (words_told x)) (sym w) (drawn-none (words_told old.words) e.given.words drawn);
    unkept = unkept;
    undrawn = λ _. w;
  }

  -- an Add
  pub went-add : new.story.began ≡ old.story.began → new.story.opening ≡ old.story.opening → new.story.history ≡ old.story.history ++ e ∷ [] → may_draw e.request ≡ true → may_change_records e.request ≡ true → entry_calls (state_now old.story) e ≡ listed (length e.given.looks) (is_tree e.given.fault) → Asked (tree_is old.tree) (length e.given.looks) (is_tree e.given.fault) (tree_is new.tree) →
      Keeping (state_now old.story) e (state_now new.story) (keeper_is old.keeper) (keeper_is new.keeper) → e.given.now ≡ None → new.clock ≡ old.clock → Drew (words_told old.words) e.given.words (words_told new.words) → Went tree_is keeper_is clock_reads words_told old e new
  went-add b o h draws changes calls asked keeping moment c drew = record {
    grown = story-grown b o h;
    tree = subst (λ (l : List Call). Calling (tree_is old.tree) l (tree_is new.tree).told (tree_is new.tree)) (sym calls)
        (subst (λ (files : Option Held). Calling (tree_is old.tree) (listed (length e.given.looks) (is_tree e.given.fault)) files (tree_is new.tree)) (sym (asked-keeps (length e.given.looks) (is_tree e.given.fault) (tree_is old.tree) (tree_is new.tree) asked).1)
        (asked-calling (length e.given.looks) (is_tree e.given.fault) (tree_is old.tree) (tree_is new.tree) asked));
    keeper = keeping;
    clock = reads-none clock_reads old.clock e.given.now new.clock moment c;
    words = drawn-drew e.given.words (words_told old.words) (words_told new.words) drew;
    unkept = λ f. let no : true ≡ false = sym changes ∙ f in absurd (cc);
    undrawn = λ f. let no : true ≡ false = sym draws ∙ f in absurd (cc);
  }

-- it is as before part for part
pub same-portal : {T K C W : Type 0} (old new : PortalIs T K C W) → new.tree ≡ old.tree → new.keeper ≡ old.keeper → new.clock ≡ old.clock → new.words ≡ old.words → new.story.began ≡ old.story.began → new.story.opening ≡ old.story.opening → new.story.history ≡ old.story.history → IsAsBefore old new
same-portal old new t k c w b o h = λ i. record { tree = t i; keeper = k i; clock = c i; words = w i; story = record { began = b i; opening = o i; history = h i }; spare = new.spare; refusals = new.refusals }

module _ {T K C W : Type 0} (tree_is : T → TreeIs) (keeper_is : K → KeeperIs) (clock_reads : C → ℕ → C → Type 0) (words_told : W → Option (List ℕ)) (old : PortalIs T K C W) (request : Request) (new : PortalIs T K C W) where
  -- that of an Add, which may have asked each device but the clock
  pub spends-add : (a : AddRequest) → request ≡ Request.Add a → WasAsked (most_looks a) (tree_is old.tree) (tree_is new.tree) → KeeperStays (keeper_is old.keeper) (keeper_is new.keeper) → new.clock ≡ old.clock →
      HasDrawnUpTo (most_words a) (words_told old.words) (words_told new.words) → DrewForMade (state_now old.story) a (words_told old.words) (words_told new.words) → new.story.began ≡ old.story.began → new.story.opening ≡ old.story.opening → new.story.history ≡ old.story.history → Spends tree_is keeper_is clock_reads words_told old request new
  spends-add a is t k c w m b o h =
      let called = was-asked-called (most_looks a) (tree_is old.tree) (tree_is new.tree) t in
      let draws : true ≡ may_draw request = sym (ap may_draw is) in
      let asks : true ≡ may_ask_tree_in_vain request = sym (ap may_ask_tree_in_vain is) in
      let changes : true ≡ may_change_records request = sym (ap may_change_records is) in
      record {
        tree = (called.0, called.1);
        few = λ r e. let no : true ≡ false = draws ∙ ap may_draw e in absurd (cc);
        looks = λ q e.
            let same : a ≡ q = cc (sym is ∙ e) in
            subst (λ (x : AddRequest). WasCalledUpTo (most_looks x) (tree_is old.tree) (tree_is new.tree)) same called;
        keeper = k;
        clock = inl c;
        words = (w.0, w.1);
        drawn = λ q e.
            let same : a ≡ q = cc (sym is ∙ e) in
            subst (λ (x : AddRequest). HasDrawnUpTo (most_words x) (words_told old.words) (words_told new.words)) same w;
        made = λ q e.
            let same : a ≡ q = cc (sym is ∙ e) in
            subst (λ (x : AddRequest). DrewForMade (state_now old.story) x (words_told old.words) (words_told new.words)) same m;
        story = λ i. record { began = b i; opening = o i; history = h i };
        unkept = λ f. let no : true ≡ false = changes ∙ f in absurd (cc);
        unasked = λ f. let no : true ≡ false = asks ∙ f in absurd (cc);
        undrawn = λ f. let no : true ≡ false = draws ∙ f in absurd (cc);
        unread = λ _. c;
      }

  -- that of a request on a node, which may have asked the tree and the clock
  pub spends-node : (r : NodeRequest) → request ≡ Request.Node r → (may_ask_tree_in_vain request ≡ false → new.tree ≡ old.tree) → (may_read_clock request ≡ false → new.clock ≡ old.clock) → WasCalledUpTo (calls_in_vain r) (tree_is old.tree) (tree_is new.tree) → new.keeper ≡ old.keeper → MayRead clock_reads old.clock new.clock → new.words ≡ old.words → new.story.began ≡ old.story.began → new.story.opening ≡ old.story.opening → new.story.history ≡ old.story.history →
      Spends tree_is keeper_is clock_reads words_told old request new
  spends-node r is asks reads t k c w b o h = record {
    tree = (t.0, t.1);
    few = λ q e.
        let same : r ≡ q = cc (sym is ∙ e) in
        subst (λ (x : NodeRequest). WasCalledUpTo (calls_in_vain x) (tree_is old.tree) (tree_is new.tree)) same t;
    looks = λ q e. let no : Request.Node r ≡ Request.Add q = sym is ∙ e in absurd (cc);
    keeper = inl (ap keeper_is k);
    clock = c;
    words = ([], ap words_told w);
    drawn = λ q e. let no : Request.Node r ≡ Request.Add q = sym is ∙ e in absurd (cc);
    made = λ q e. inl (ap words_told w);
    story = λ i. record { began = b i; opening = o i; history = h i };
    unkept = λ _. k;
    unasked = asks;
    undrawn = λ _. w;
    unread = reads;
  }
