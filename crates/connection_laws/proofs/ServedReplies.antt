-- The replies given on a connection of an application are, over any tree, those of its own machine to the connection's
-- seat, but for contents.
use Rattle.std.proofs.Common.{◌≡◌, ℕ, List, [], ◌∷◌, ◌++◌, Bool, true, false, refl, sym, ap, ◌∙◌}
use Rattle.portal_base.specs.declared.who.Who.{Who}
use Rattle.portal_model.specs.declared.reply.Reply.{Reply}
use Rattle.portal_model.specs.declared.request.Request.{Request}
use Rattle.portal_model.specs.Alike.{Alike}
use Rattle.portal_model.specs.Seated.{Exchange}
use Rattle.served_world.specs.Laws.{but_content}
use Rattle.served_world.specs.ServedWorld.{served_trace}
use Rattle.served_world.proofs.AlikeReplies.{all-but}
use Rattle.session.specs.declared.act.Client.{Client}
use Rattle.session.specs.Answers.{kept}
use Rattle.session.specs.Ledger.{AreAlike}
use Rattle.connection_laws.specs.Served.{Service, replied}
use Rattle.connection_laws.specs.ServedBytes.{RepliesAreOfTheServedTrace, but_contents, served_seen, served_to}
use Rattle.connection_laws.proofs.OwnExchanges.{Behind, behind}
use Rattle.connection_laws.proofs.ServedPlaces.{served-grow}

-- ---- replies that are alike are the same but for contents

abbrev first_or : Reply → List Reply → Reply
first_or none [] = none
first_or none (r ∷ rs) = r

one_but : (told : Bool) (request : Request) (m g : Reply) → Alike told request m g → but_content g ≡ but_content m
one_but true request m g h = ap but_content h
one_but false request m g h = ap (first_or m) (all-but (request ∷ []) (m ∷ []) (g ∷ []) (h, tt))

given_but : (told : Bool) (xs ys : List Exchange) → AreAlike told xs ys → but_contents (replied ys) ≡ but_contents (replied xs)
given_but told [] [] a = refl
given_but told [] (y ∷ ys) a = absurd a
given_but told (x ∷ xs) [] a = absurd a
given_but told (x ∷ xs) (y ∷ ys) a = λ i. one_but told x.entry.request x.reply y.reply a.1 i ∷ given_but told xs ys a.2 i

-- ---- those of a connection

module _ (app : List ℕ) (c : Client) (x : Service c) (who : c.who ≡ Who.App app) where
  -- by the replies of the steps
  new_served : (made : List Exchange) → x.after.seated.mine ≡ x.before.seated.mine ++ made
      → but_contents (served_to x.after.seated.seat (served_seen app x.after.seated)) ≡ but_contents (served_to x.before.seated.seat (served_seen app x.before.seated)) ++ but_contents (replied made)
  new_served made e =
      let b : Behind app c x = behind app c x who in
      (λ i. but_contents (served_to (b.seat i) (served_trace app (b.opening i) (b.seen i))))
      ∙ (served-grow app x.before.seated.seat x.before.seated.opening x.before.seated.seen b.more x.known_before.legal b.legal b.ours
      ∙ ap (λ (xs : List Exchange). but_contents (served_to x.before.seated.seat (served_seen app x.before.seated)) ++ but_contents (replied xs)) (b.new made e))

pub served-replies : RepliesAreOfTheServedTrace
served-replies app c x os who g =
    new_served app c x who g.steps g.mine
    ∙ ap (λ (rs : List Reply). but_contents (served_to x.before.seated.seat (served_seen app x.before.seated)) ++ rs) (sym (given_but x.before.seated.opening.told g.steps (kept os) g.alike))
