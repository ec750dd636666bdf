-- What a connection that was polled came to at its desk.
use Rattle.std.proofs.Common.{◌≡◌, inl, inr, ℕ, ◌≤◌, List, [], ◌∷◌, ◌++◌, Bool, true, false, None, refl, sym, ap, ◌∙◌, subst, arith}
use Rattle.std.proofs.lemmas.List.{append-nil}
use Rattle.portal_base.specs.Outside.{HasRisen, rises_by}
use Rattle.portal_model.specs.declared.reply.Refused.{Refused}
use Rattle.portal_model.specs.declared.reply.Refused.TheVariants as refused
use Rattle.portal_model.specs.declared.request.Request.{Request}
use Rattle.portal_model.specs.Seated.{Exchange, Seated}
use Rattle.session.specs.declared.act.Client.{Client}
use Rattle.session.specs.declared.served.Served.{Served}
use Rattle.session.specs.declared.served.Served.TheVariants as served
use Rattle.session.specs.Answers.{Denied, Made, Outcome, denied}
use Rattle.session.specs.Connections.{Encloses, Serves, between}
use Rattle.session.specs.Cuts.{first_phase}
use Rattle.session.specs.Items.{joined, phase_after}
use Rattle.session.specs.Ledger.{AreCaused, Grew, IsCaused, World, world}
use Rattle.session.specs.Pumps.{Spring, spring}
use Rattle.session.specs.Sessions.{enter}
use Rattle.session.proofs.ConnectionEntries.{Connects, serves_connect}
use Rattle.session.proofs.Grew.{grew_none}
use Rattle.session.proofs.NextCut.{nothing_cut}
use Rattle.poll_ends.specs.Outside.{flat}
use Rattle.poll_laws.specs.declared.course.Turn.TheVariants as turn
use Rattle.poll_laws.specs.Courses.{Around, Gone, Outside, fresh}
use Rattle.poll_laws.specs.Polls.{Deeds}
use Rattle.poll_laws.proofs.Joining.{appended_none, behind_none}
use Rattle.worker_gate.specs.Polled.{CausedBy, ServesBy, ServesPolled}

-- ---- nothing was done

abbrev none_done : Deeds
none_done = record { read = []; items = []; acts = []; outcomes = []; came = []; pieces = []; written = []; passed = [] }

-- there was no memory to ask Enter
pub nothing_polled : (c : Client) (a : Spring) (v : World) → ServesPolled c served.Memory a a v v
nothing_polled c a v = record {
  before = 0;
  after = 0;
  deeds = none_done;
  stands = record (fresh c) { turn = turn.Over served.Memory };
  is = record {
    last = 0;
    rest = [];
    client = refl;
    around = inl (refl, inl refl);
    outside = λ h. record { read = refl; items = refl; pieces = refl; written = refl; passed = refl };
    unentered = λ h. inl (refl, refl);
    grew = grew_none v.seated;
    came_in = behind_none a.left;
    bytes = refl;
    before = refl;
    within = omega arith;
    each = refl;
    phase = refl;
    answers = (refl, refl, refl);
    output = refl;
    went_out = appended_none (flat v.told);
    whole = λ h. absurd h;
    held = λ h. absurd h;
    unsaid = λ h. inl refl;
    ends = omega arith;
  };
}

-- ---- a refusal of Enter

denied_at : (before after : List Outcome) (request : Request) (why : Refused) → 1 ≤ denied (before ++ (Denied request why ∷ after))
denied_at [] after request why = omega arith
denied_at (Made x ∷ os) after request why = denied_at os after request why
denied_at (Denied other cause ∷ os) after request why = let rest = denied_at os after request why in omega (arith, rest)

caused_at : (before after : List Outcome) (v w : Seated) (request : Request) (why : Refused) → AreCaused v w (before ++ (Denied request why ∷ after)) → IsCaused v w request why
caused_at [] after v w request why h = h.0
caused_at (Made x ∷ os) after v w request why h = caused_at os after v w request why h
caused_at (Denied other cause ∷ os) after v w request why h = caused_at os after v w request why h.1

risen_by : (n k m : ℕ) → 1 ≤ k → m ≡ rises_by n k → HasRisen n m
risen_by n k m l e = omega (arith, l, e)

-- an Enter that was refused for the history's room is counted, and has its cause
pub refused_full : (polled : Bool) (c : Client) (cost limit : ℕ) (a b : Spring) (v w : World) → ServesBy polled c (served.Full cost limit) a b v w
    → HasRisen v.seated.refusals w.seated.refusals × CausedBy polled v.seated w.seated (enter c) (refused.Full cost limit)
refused_full false c cost limit a b v w h =
    let refused_so = h.3 in
    (risen_by v.seated.refusals 1 w.seated.refusals (omega arith) refused_so.1.desk.refusals, refused_so.2)
refused_full true c cost limit a b v w h =
    let full = h.is.ends.0 in
    let at : h.deeds.came ≡ full.0 ++ (Denied (enter c) (refused.Full cost limit) ∷ full.1) =
    full.2 ∙ ap (λ (z : Client). full.0 ++ (Denied (enter z) (refused.Full cost limit) ∷ full.1)) h.is.client in
    let some : 1 ≤ denied h.deeds.came = subst (λ (z : List Outcome). 1 ≤ denied z) (sym at) (denied_at full.0 full.1 (enter c) (refused.Full cost limit)) in (
      risen_by v.seated.refusals (denied h.deeds.came) w.seated.refusals some h.is.grew.refusals,
      caused_at full.0 full.1 v.seated w.seated (enter c) (refused.Full cost limit) (subst (λ (z : List Outcome). AreCaused v.seated w.seated z) at h.is.grew.caused),
    )

-- ---- what the seat made

module _ (c : Client) (e : Served) (a b : Spring) (v w : World) (h : ServesPolled c e a b v w) where
  grew_as : (os : List Outcome) → h.deeds.came ≡ os → Grew v.seated os w.seated
  grew_as os is = subst (λ (z : List Outcome). Grew v.seated z w.seated) is h.is.grew

  -- The items that were asked are those of a connection that waits, which reads no others, and
  -- whose source and sink tell nothing: what its seat makes is known.
  as_waited : (x l : Exchange) → Encloses c x l → h.deeds.came ≡ between x h.deeds.outcomes l
      → Serves c served.ReadFault (spring None 0) (spring None 1) (world v.seated None 0) (world w.seated None 0)
  as_waited x l both is = (
    joined h.deeds.items,
    refl,
    omega arith,
    (
      omega arith,
      (
        [],
        record {
          room = (let before = h.is.before in let within = h.is.within in omega (arith, before, within));
          all = record { items = h.deeds.items; acts = h.deeds.acts; outcomes = h.deeds.outcomes; pieces = h.deeds.pieces; last = h.is.last; each = h.is.each; answers = h.is.answers };
          cut = record { bytes = sym (append-nil (joined h.deeds.items)); each = h.is.each; remains = nothing_cut (phase_after c (first_phase c.kind) h.deeds.items) };
          asked = record { entered = x; leaving = l; encloses = both; grows = record { desk = grew_as (between x h.deeds.outcomes l) is; told = refl; faults = omega arith } };
          sound = refl;
        },
      ),
    ),
  )

  by_around : Around c Outside h.deeds.came h.deeds.outcomes Gone → Connects c v.seated w.seated
  by_around (inl (none, inl is)) = ([], grew_as [] is, inl refl)
  by_around (inl (none, inr (why, is))) = (Denied (enter c) why ∷ [], grew_as (Denied (enter c) why ∷ []) is, inl refl)
  by_around (inr (x, l, both, is)) =
      serves_connect c served.ReadFault (spring None 0) (spring None 1) (world v.seated None 0) (world w.seated None 0) (as_waited x l both is)

  pub polled_connects : Connects c v.seated w.seated
  polled_connects = by_around h.is.around
