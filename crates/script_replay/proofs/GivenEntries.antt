-- Entries that the outside of a script gives to requests, one after another.
use Rattle.std.proofs.Common.{◌≡◌, ℕ, List, [], ◌∷◌, ◌++◌, Option, Some, None, refl, subst, ◌∙◌}
use Rattle.portal_model.specs.declared.entry.Entry.{Entry}
use Rattle.portal_model.specs.declared.request.Request.{Request}
use Rattle.portal_model.specs.declared.state.Connection.{Connection}
use Rattle.portal_model.specs.History.{EachLawful, run}
use Rattle.portal_model.specs.Lawful.{nothing_given}
use Rattle.portal_model.specs.State.{State, connection_of}
use Rattle.portal_model.specs.Step.{after, bus_of}
use Rattle.portal_model.proofs.StaysTold.{step_told}
use Rattle.script_form.specs.Outside.{Outside}
use Rattle.script_replay.specs.Entries.{AreGiven, Changes, ChangesOn, IsGiven}

-- each is lawful at its place
pub given_lawful : (rs : List Request) (es : List Entry) (s : State) (o : Outside) (seat : ℕ) (left : Outside) → AreGiven s o seat rs es left → EachLawful s es
given_lawful [] [] s o seat left h = tt
given_lawful [] (e ∷ es) s o seat left h = absurd h
given_lawful (r ∷ rs) [] s o seat left h = absurd h
given_lawful (r ∷ rs) (e ∷ es) s o seat left h = (h.3.lawful, given_lawful rs es (after s e) h.2 seat left h.4)

pub given-append : (rs qs : List Request) (es fs : List Entry) (s : State) (o : Outside) (seat : ℕ) (mid left : Outside) → AreGiven s o seat rs es mid → AreGiven (run s es) mid seat qs fs left → AreGiven s o seat (rs ++ qs) (es ++ fs) left
given-append [] qs [] fs s o seat mid left h k = subst (λ (z : Outside). AreGiven s z seat qs fs left) h k
given-append [] qs (e ∷ es) fs s o seat mid left h k = absurd h
given-append (r ∷ rs) qs [] fs s o seat mid left h k = absurd h
given-append (r ∷ rs) qs (e ∷ es) fs s o seat mid left h k = (h.0, h.1, h.2, h.3, given-append rs qs es fs (after s e) h.2 seat mid left h.4 k)

-- the tree tells its files as before
pub run_told : (h : List Entry) (s : State) → (run s h).told ≡ s.told
run_told [] s = refl
run_told (e ∷ es) s = run_told es (after s e) ∙ step_told s e.seat e.request e.given

-- ---- a Leave

abbrev pub leave_entry : ℕ → Entry
leave_entry seat = record { seat = seat; request = Request.Leave; given = nothing_given }

leave_keeps : (s : State) (seat : ℕ) (c : Option Connection) → ChangesOn s (leave_entry seat) c → ⊥
leave_keeps s seat None h = h
leave_keeps s seat (Some c) h = h.1 refl

leave_unkept : (s : State) (seat : ℕ) → Changes s (leave_entry seat) → ⊥
leave_unkept s seat = leave_keeps s seat (bus_of (connection_of s.connections seat))

leave_is_given : (s : State) (o : Outside) (seat : ℕ) → IsGiven s o (leave_entry seat) o
leave_is_given s o seat = record {
  lawful = record { given = refl };
  tree = tt;
  tree_left = refl;
  applied = λ changes. absurd (leave_unkept s seat changes);
  unapplied = λ _. refl;
  words = refl;
  moment = tt;
  clock = refl;
}

-- nothing is asked of the outside by it
pub leave_given : (s : State) (o : Outside) (seat : ℕ) → AreGiven s o seat (Request.Leave ∷ []) (leave_entry seat ∷ []) o
leave_given s o seat = (refl, refl, o, leave_is_given s o seat, refl)
