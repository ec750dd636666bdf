-- What the seat of an application's connection made while it was served, over any tree: all of it is the application's.
use Rattle.std.proofs.Common.{◌≡◌, ℕ, List, [], ◌∷◌, ◌++◌, Option, None, refl, sym, ap, ◌∙◌, subst}
use Rattle.std.proofs.lemmas.List.{append_cancel_left}
use Rattle.portal_base.specs.declared.who.Who.{Who}
use Rattle.portal_model.specs.declared.entry.Entry.{Entry}
use Rattle.portal_model.specs.History.{Legal, of_seat, run}
use Rattle.portal_model.specs.Seated.{Binding, Exchange, bound_after, bound_by, exchanges, state_seen}
use Rattle.portal_model.specs.State.{State}
use Rattle.session.specs.declared.act.Client.{Client}
use Rattle.session.specs.Answers.{kept}
use Rattle.session.specs.Ledger.{Grew}
use Rattle.portal_model.proofs.SeatLaws.{exchanges-append, exchanges-entries}
use Rattle.session.proofs.ConnectionEntries.{Connects, serves_connect}
use Rattle.session.proofs.ConnectionStaysOpen.{entries_of, not_open}
use Rattle.session.proofs.Grew.{alike-entries}
use Rattle.session.proofs.ServedTraces.{AreEnclosed, IsMakers, asked_at, makers}
use Rattle.connection_laws.specs.Served.{Service}
use Rattle.connection_laws.proofs.MadeByIt.{EachOurs, all-made}
use Rattle.connection_laws.proofs.Places.{AllMade}

-- each of the entries one after another, by what is ahead of it
each_ours : (app : List ℕ) (es : List Entry) (b : Option Binding) → ((xs : List Entry) (e : Entry) (ys : List Entry) → es ≡ xs ++ e ∷ ys → IsMakers app (bound_by b xs) e.request) → EachOurs app b es
each_ours app [] b h = tt
each_ours app (e ∷ es) b h = (h [] e es refl, each_ours app es (bound_after b e.request) (λ xs x ys k. h (e ∷ xs) x ys (ap (λ (z : List Entry). e ∷ z) k)))

-- what stands behind the history that was seen before
pub record Behind (app : List ℕ) (c : Client) (x : Service c) : Type 0 where
  pub more : List Entry
  pub opening : x.after.seated.opening ≡ x.before.seated.opening
  pub seat : x.after.seated.seat ≡ x.before.seated.seat
  pub seen : x.after.seated.seen ≡ x.before.seated.seen ++ more
  pub legal : Legal x.before.seated.opening (x.before.seated.seen ++ more)
  pub ours : AllMade app x.before.seated.seat (run x.before.seated.opening x.before.seated.seen) more
  pub new : (made : List Exchange) → x.after.seated.mine ≡ x.before.seated.mine ++ made →
      exchanges x.before.seated.seat (run x.before.seated.opening x.before.seated.seen) more ≡ made

module _ (app : List ℕ) (c : Client) (x : Service c) (who : c.who ≡ Who.App app) where
  connects : Connects c x.before.seated x.after.seated
  connects = serves_connect c x.ended x.source x.source_after x.before x.after x.serves

  grew : Grew x.before.seated connects.0 x.after.seated
  grew = connects.1

  enclosed : AreEnclosed c (entries_of (kept connects.0))
  enclosed = connects.2

  -- the state in which the connection was begun
  abbrev began : State
  began = run x.before.seated.opening x.before.seated.seen

  seen_is : x.after.seated.seen ≡ x.before.seated.seen ++ grew.moved.begins.0
  seen_is = grew.moved.begins.1

  legal_on : Legal x.before.seated.opening (x.before.seated.seen ++ grew.moved.begins.0)
  legal_on = subst (λ (s : State). Legal s (x.before.seated.seen ++ grew.moved.begins.0)) grew.moved.opening (subst (Legal x.after.seated.opening) seen_is x.known.legal)

  -- the new exchanges of the seat
  new_are : (made : List Exchange) → x.after.seated.mine ≡ x.before.seated.mine ++ made → exchanges x.before.seated.seat began grew.moved.begins.0 ≡ made
  new_are made e =
      let whole : exchanges x.before.seated.seat x.before.seated.opening (x.before.seated.seen ++ grew.moved.begins.0) ≡ x.after.seated.mine =
      (λ i. exchanges (sym grew.moved.seat i) (sym grew.moved.opening i) (sym seen_is i)) ∙ x.known.mine in
      append_cancel_left (exchanges x.before.seated.seat x.before.seated.opening x.before.seated.seen) _ _
      (sym (exchanges-append x.before.seated.seat x.before.seated.seen grew.moved.begins.0 x.before.seated.opening)
      ∙ (whole ∙ (e ∙ ap (λ (xs : List Exchange). xs ++ made) (sym x.known_before.mine))))

  -- over any tree the entries of the steps are those that were given replies
  own_entries : of_seat x.before.seated.seat grew.moved.begins.0 ≡ entries_of (kept connects.0)
  own_entries =
      sym (exchanges-entries x.before.seated.seat grew.moved.begins.0 began)
      ∙ (ap entries_of (new_are grew.steps grew.mine)
      ∙ sym (alike-entries x.before.seated.opening.told grew.steps (kept connects.0) grew.alike))

  all_ours : AllMade app x.before.seated.seat began grew.moved.begins.0
  all_ours =
      all-made app x.before.seated.seat grew.moved.begins.0 began None (not_open (state_seen x.before.seated) x.before.seated.seat x.closed)
      (subst (EachOurs app None) (sym own_entries)
      (each_ours app (entries_of (kept connects.0)) None
      (λ xs e ys k. makers app c (bound_by None xs) e.request who (asked_at c (entries_of (kept connects.0)) xs ys e enclosed k))))

  pub behind : Behind app c x
  behind = record {
    more = grew.moved.begins.0;
    opening = grew.moved.opening;
    seat = grew.moved.seat;
    seen = seen_is;
    legal = legal_on;
    ours = all_ours;
    new = new_are;
  }
