-- The replies given on a connection of an application are those of its own machine to the connection's seat.
use Rattle.std.proofs.Common.{◌≡◌, ℕ, List, ◌++◌, ap, ◌∙◌}
use Rattle.portal_model.specs.Seated.{Exchange}
use Rattle.app_world.specs.World.{trace}
use Rattle.session.specs.declared.act.Client.{Client}
use Rattle.session.specs.Answers.{Outcome, kept}
use Rattle.session.specs.Ledger.{Grew}
use Rattle.session.proofs.Grew.{told_alike}
use Rattle.connection_laws.specs.OwnPlaces.{replies_to}
use Rattle.connection_laws.specs.Served.{IsOf, RepliesAreOfTheTrace, Service, replied, replies_seen}
use Rattle.connection_laws.proofs.OwnExchanges.{Behind, behind}
use Rattle.connection_laws.proofs.Places.{replies-grow}

module _ (app : List ℕ) (c : Client) (x : Service c) (of : IsOf app c x) where
  pub same-seat : x.after.seated.seat ≡ x.before.seated.seat
  same-seat = (behind app c x of.0).seat

  pub new-replies : (made : List Exchange) → x.after.seated.mine ≡ x.before.seated.mine ++ made → replies_seen app x.after.seated ≡ replies_seen app x.before.seated ++ replied made
  new-replies made e =
      let b : Behind app c x = behind app c x of.0 in
      (λ i. replies_to (b.seat i) (trace app (b.opening i) (b.seen i)))
      ∙ (replies-grow app x.before.seated.seat x.before.seated.opening of.1 x.before.seated.seen b.more x.known_before.legal b.legal b.ours
      ∙ ap (λ (xs : List Exchange). replies_seen app x.before.seated ++ replied xs) (b.new made e))

pub given-replies : (app : List ℕ) (c : Client) (x : Service c) (os : List Outcome) → IsOf app c x → Grew x.before.seated os x.after.seated → replies_seen app x.after.seated ≡ replies_seen app x.before.seated ++ replied (kept os)
given-replies app c x os of g = new-replies app c x of (kept os) (told_alike x.before.seated x.after.seated os g of.1)

pub replies-are : RepliesAreOfTheTrace
replies-are = record {
  new = λ app c x made of e. new-replies app c x of made e;
  given = given-replies;
}
