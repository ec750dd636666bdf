-- A portal that begins a new history: its lists are those of the state that the old one came to.
use Rattle.std.specs.Prelude.{min, nat_le}
use Rattle.std.proofs.Common.{◌≡◌, ◌==◌, ◌≤◌, ℕ, List, [], ◌∷◌, map, fold, Bool, true, false, ◌&&◌, ◌||◌, cond, Option, Some, None, refl, sym, ap, subst, ◌∙◌, arith}
use Rattle.std.specs.List.{list_all, list_any}
use Rattle.std.proofs.lemmas.Bool.Decides.{nat_tests}
use Rattle.change_signals.specs.Unsent.{Boxes}
use Rattle.document_records.specs.Documents.{DocumentList}
use Rattle.file_generations.specs.Generations.{Held}
use Rattle.file_ops.specs.SeatNames.{OwnTables}
use Rattle.open_handles.specs.Opened.{HandleTable}
use Rattle.portal_base.specs.Content.{IsTree}
use Rattle.portal_desk.specs.Opening.{IsOpeningState}
use Rattle.portal_desk.proofs.Openings.{AreTree, opens, opens-over}
use Rattle.portal_model.specs.declared.entry.Entry.{Entry}
use Rattle.portal_model.specs.declared.opening.OpeningState.{OpeningState}
use Rattle.portal_model.specs.declared.records.Records.{Records}
use Rattle.portal_model.specs.declared.state.Connection.{Connection}
use Rattle.portal_model.specs.declared.state.Triple.{Triple}
use Rattle.portal_model.specs.History.{run}
use Rattle.portal_model.specs.Opening.{opened_over}
use Rattle.portal_model.specs.Rows.{are_rows}
use Rattle.portal_model.specs.State.{State, held_in}
use Rattle.portal_model.specs.Store.{Entries}
use Rattle.portal_model.specs.Valid.{Valid}
use Rattle.portal_model.proofs.ValidLaws.{run-Valid}
use Rattle.portal_start.specs.Renewed.{opening_of}
use Rattle.portal_start.proofs.RenewedLists.{opened_again}
use Rattle.portal_steps.specs.Answered.{KeepsState}
use Rattle.portal_steps.specs.Held.{Holds, Stands}
use Rattle.store_serving.specs.Serving.{HasStore}
use Rattle.store_serving.specs.Waiting.{silent}
use Rattle.portal_core.specs.Renewing.{IsLeastSeat, lesser}

-- ---- the least seat

-- what a fold from a seat gives is no more than it and all that follow, and is one of them
record IsLesser (s : ℕ) (cs : List Connection) (r : ℕ) : Type 0 where
  first : r ≤ s
  all : list_all (λ (c : Connection). nat_le r c.seat) cs ≡ true
  some : ((s == r) || list_any (λ (c : Connection). c.seat == r) cs) ≡ true

least-of : (s r : ℕ) (cs : List Connection) → fold lesser (Some s) cs ≡ Some r → IsLesser s cs r
least-of s r [] e =
    let same : s ≡ r = cc in
    record { first = omega (arith, same); all = refl; some = grind (arith, nat_tests, same) }
least-of s r (c ∷ cs) e =
    let k = least-of (min s c.seat) r cs e in
    let first : r ≤ min s c.seat = k.first in
    let all : list_all (λ (x : Connection). nat_le r x.seat) cs ≡ true = k.all in
    let some : ((min s c.seat == r) || list_any (λ (x : Connection). x.seat == r) cs) ≡ true = k.some in
    record {
      first = omega (arith, first);
      all = grind (arith, nat_tests, first, all);
      some = grind (arith, nat_tests, first, some);
    }

some-stays : (s : ℕ) (cs : List Connection) → fold lesser (Some s) cs ≡ None → ⊥
some-stays s [] e = cc
some-stays s (c ∷ cs) e = some-stays (min s c.seat) cs e

none-there : (cs : List Connection) → fold lesser None cs ≡ None → cs ≡ []
none-there [] e = refl
none-there (c ∷ cs) e = absurd (some-stays c.seat cs e)

least-there : (cs : List Connection) (r : ℕ) → fold lesser None cs ≡ Some r → IsLeastSeat cs r
least-there [] r e = absurd (cc)
least-there (c ∷ cs) r e =
    let k = least-of c.seat r cs e in
    let first : r ≤ c.seat = k.first in
    let all : list_all (λ (x : Connection). nat_le r x.seat) cs ≡ true = k.all in
    record { there = k.some; least = grind (arith, nat_tests, first, all) }

-- whatever they wait for and have named
any-silent : (p : ℕ → Bool) (cs : List Connection) → list_any (λ (c : Connection). p c.seat) (map silent cs) ≡ list_any (λ (c : Connection). p c.seat) cs
any-silent p [] = refl
any-silent p (c ∷ cs) = ap (λ (b : Bool). p c.seat || b) (any-silent p cs)

all-silent : (p : ℕ → Bool) (cs : List Connection) → list_all (λ (c : Connection). p c.seat) (map silent cs) ≡ list_all (λ (c : Connection). p c.seat) cs
all-silent p [] = refl
all-silent p (c ∷ cs) = ap (λ (b : Bool). p c.seat && b) (all-silent p cs)

pub least_open : (cs waiting : List Connection) (r : ℕ) → map silent waiting ≡ cs → fold lesser None cs ≡ Some r → IsLeastSeat waiting r
least_open cs waiting r same e =
    let k = least-there cs r e in
    record {
      there = sym (any-silent (λ (n : ℕ). n == r) waiting) ∙ ap (list_any (λ (c : Connection). c.seat == r)) same ∙ k.there;
      least = sym (all-silent (nat_le r) waiting) ∙ ap (list_all (λ (c : Connection). nat_le r c.seat)) same ∙ k.least;
    }

none-silent : (cs : List Connection) → map silent cs ≡ [] → cs ≡ []
none-silent [] e = refl
none-silent (c ∷ cs) e = absurd (cc)

pub none_open : (cs waiting : List Connection) → map silent waiting ≡ cs → fold lesser None cs ≡ None → waiting ≡ []
none_open cs waiting same e = none-silent waiting (same ∙ none-there cs e)

pub none_listed : (cs : List Connection) → fold lesser None cs ≡ None → cs ≡ []
none_listed cs e = none-there cs e

-- ---- the state

tree_told : (told : Bool) (held : Held) (shown : Option Held) → cond told (Some held) None ≡ shown → AreTree shown → told ≡ true → IsTree held.present
tree_told true held shown e t k = subst AreTree (sym e) t
tree_told false held shown e t k = absurd (cc)

module _ (began : Option Held) (o : OpeningState) (h : List Entry) (limit : ℕ) (ds : DocumentList) (rs : List Triple) (apps : List (List ℕ)) (cs : List Connection) (table : HandleTable) (own : OwnTables) (told : Option Held)
    (stands : Stands began o h limit ds rs apps cs table own told) (closed : fold lesser None cs ≡ None) (ts : Entries) (boxes : Boxes) (stored : HasStore (run (opened_over began o) h) ts boxes)
    (rows : list_all (λ e. are_rows e.rows) ts ≡ true) (tree : AreTree told) where
  abbrev now : State
  now = run (opened_over began o) h

  abbrev next : OpeningState
  next = opening_of o.limits ds rs apps ts own.temps.taken

  valid : Valid now
  valid = run-Valid h (opened_over began o) stands.legal

  pub none_now : now.connections ≡ []
  none_now = none_open cs now.connections stands.holds.lists.connected closed

  open_state : IsOpeningState now
  open_state = opens now valid none_now (ap (list_all (λ e. are_rows e.rows)) stored.stored ∙ rows) (tree_told now.told (held_in now) told stands.holds.files tree)

  -- the state that it opens with is the one that the old history came to
  pub same_state : opened_over told next ≡ now
  same_state =
      sym (λ i. opened_over (stands.holds.files i) (opening_of (stands.holds.limits_are i) (record {
        most_live = ds.most_live;
        most_made = ds.most_made;
        live = stands.holds.lists.book.live i;
        made = stands.holds.lists.book.made i;
      }) (stands.holds.lists.book.held i) (stands.holds.lists.book.numbered i) (stored.stored i) (sym stands.holds.own.temps.taken i)))
      ∙ opened_again now ds.most_live ds.most_made valid none_now open_state.handles

  pub stands_again : Stands told next [] o.limits.history ds rs apps cs table own told
  stands_again = record {
    legal = record { opening = subst Valid (sym same_state) valid; lawful = tt };
    limit_is = refl;
    within = omega arith;
    holds = subst (λ (s : State). Holds s o.limits ds rs apps cs table own told) (sym same_state) stands.holds;
  }

  pub keeps_again : (records : Option Records) → KeepsState records now → KeepsState records (opened_over told next)
  keeps_again records k = subst (KeepsState records) (sym same_state) k

  pub stored_again : HasStore (opened_over told next) ts boxes
  stored_again = subst (λ (s : State). HasStore s ts boxes) (sym same_state) stored

  pub opens_again : IsOpeningState (opened_over None next)
  opens_again = opens-over told None next (subst IsOpeningState (sym same_state) open_state) tt
