-- A connection over a source: what is read of it, and how it ends.
use Rattle.std.proofs.Common.{◌≡◌, ◌≢◌, inl, inr, ℕ, List, [], ◌∷◌, ◌++◌, Option, IfSome, Ok, Err, refl, sym, ap, ◌∙◌, subst}
use Rattle.std.specs.Prelude.{◌⊎◌}
use Rattle.portal_base.specs.Outside.{behind}
use Rattle.portal_model.specs.declared.reply.Refused.{Refused}
use Rattle.portal_model.specs.declared.reply.Refused.TheVariants as refused
use Rattle.portal_model.specs.declared.request.Request.{Request}
use Rattle.portal_model.specs.Seated.{Asks, Seated}
use Rattle.session.specs.declared.act.Client.{Client}
use Rattle.session.specs.declared.connection.Pumped.{Pumped}
use Rattle.session.specs.declared.connection.Pumped.TheVariants as pumped
use Rattle.session.specs.declared.served.Served.{Served}
use Rattle.session.specs.declared.served.Served.TheVariants as served
use Rattle.session.specs.Answers.{Denied, Made}
use Rattle.session.specs.Connections.{Serves, served_by}
use Rattle.session.specs.Ledger.{world}
use Rattle.session.specs.Pumps.{Pumps, Spring}
use Rattle.session.specs.Sessions.{Closes, Enters, IsOpen, enter}
use Rattle.session.specs.Standings.{Standing, fresh}
use Rattle.session.proofs.EnterToLeave.{closed, faulted}
use Rattle.session.proofs.Grew.{asked_err, asked_ok, grows_silent}
use Rattle.session.proofs.Pump.{behind_behind, behind_none}

-- ---- the source

-- a piece stands behind what was read before
pub left_later : (read front piece : List ℕ) (a b n : Option (List ℕ)) → a ≡ behind read b → b ≡ behind front n → piece ≡ front → a ≡ behind (read ++ piece) n
left_later read front piece a b n h k e = h ∙ (ap (behind read) k ∙ (behind_behind read front n ∙ ap (λ (z : List ℕ). behind (read ++ z) n) (sym e)))

pub left_same : (read : List ℕ) (a b n : Option (List ℕ)) → a ≡ behind read b → n ≡ b → a ≡ behind read n
left_same read a b n h e = h ∙ ap (behind read) (sym e)

pub dry_still : (b n : Option (List ℕ)) → n ≡ b → IfSome b (λ left. left ≡ []) → IfSome n (λ left. left ≡ [])
dry_still b n e h = subst (λ (o : Option (List ℕ)). IfSome o (λ left. left ≡ [])) (sym e) h

-- ---- the open connection

-- of one client, called by another name
pub opens_on : (c who : Client) (d e : Seated) → c ≡ who → (IsOpen c d → IsOpen c e) → IsOpen who d → IsOpen who e
opens_on c who d e is h k = subst (λ (z : Client). IsOpen z e) is (h (subst (λ (z : Client). IsOpen z d) (sym is) k))

-- a session of the same client, after the pieces
pub still_open : (c : Client) (x t : Standing) (d e : Seated) → x ≡ fresh c → IsOpen c d → (IsOpen x.client d → IsOpen x.client e) → t.client ≡ x.client → IsOpen t.client e
still_open c x t d e new is h k =
    subst (λ (z : Client). IsOpen z e) (sym k) (h (subst (λ (z : Client). IsOpen z d) (sym (ap (λ (s : Standing). s.client) new)) is))

pub begun_fresh : (c : Client) (x : Standing) → x ≡ fresh c → x ≡ fresh x.client
begun_fresh c x h = subst (λ (s : Standing). s ≡ fresh s.client) (sym h) refl

-- ---- the ending

-- Enter was not made
pub serves_refused : (c : Client) (why : Refused) (d e : Seated) (i : Spring) (o : Option (List (List ℕ))) (f : ℕ)
    → ((why ≡ refused.Memory) × (e ≡ d)) ⊎ Asks d (enter c) (Err why) e → Serves c (served_by why) i i (world d o f) (world e o f)
serves_refused c refused.Memory d e i o f (inl h) = ([], behind_none i.left, refl, inl (inl ((refl, refl, refl, refl), h.1)))
serves_refused c refused.Memory d e i o f (inr a) = ([], behind_none i.left, refl, inl (inr ((refl, refl, refl, refl), grows_silent d e (Denied (enter c) refused.Memory ∷ []) o f (asked_err d e (enter c) refused.Memory a), a.answered.cause)))
serves_refused c (refused.Full now limit) d e i o f (inl h) = (let never : refused.Full now limit ≡ refused.Memory = h.0 in absurd (cc))
serves_refused c (refused.Full now limit) d e i o f (inr a) = ([], behind_none i.left, refl, ((refl, refl, refl, refl), grows_silent d e (Denied (enter c) (refused.Full now limit) ∷ []) o f (asked_err d e (enter c) (refused.Full now limit) a), a.answered.cause))

module _ (c : Client) (x t : Standing) (d0 d1 d2 d3 : Seated) (i j : Spring) (o n : Option (List (List ℕ))) (f k : ℕ) (met : Served) (a : Enters {X = Standing} c.who c.kind d0 (Ok x) d1) (new : x ≡ fresh c) (z : Closes t d2 met d3) where
  pumps_of : (r : Pumped) → Pumps x.client r i j (world d1 o f) t (world d2 n k) → Pumps c r i j (world d1 o f) t (world d2 n k)
  pumps_of r p = subst (λ (y : Client). Pumps y r i j (world d1 o f) t (world d2 n k)) (ap (λ (s : Standing). s.client) new) p

  pub serves_closed : (r : Pumped) → r ≢ pumped.Fault → Pumps x.client r i j (world d1 o f) t (world d2 n k) → Serves c met i j (world d0 o f) (world d3 n k)
  serves_closed r ne p =
      let e = asked_ok d0 d1 (enter c) a.0 a.1 in
      let l = asked_ok d2 d3 Request.Leave z.1.0 z.1.1 in
      subst (λ (y : Served). Serves c y i j (world d0 o f) (world d3 n k)) (sym z.0)
      (closed c (world d0 o f) (world d1 o f) (world d2 n k) (world d3 n k) e.0 l.0 (e.1, l.1) (grows_silent d0 d1 (Made e.0 ∷ []) o f e.3) (grows_silent d2 d3 (Made l.0 ∷ []) n k l.3) refl refl r i j t ne (pumps_of r p))

  pub serves_faulted : Pumps x.client pumped.Fault i j (world d1 o f) t (world d2 n k) → Serves c served.ReadFault i j (world d0 o f) (world d3 n k)
  serves_faulted p =
      let e = asked_ok d0 d1 (enter c) a.0 a.1 in
      let l = asked_ok d2 d3 Request.Leave z.1.0 z.1.1 in
      faulted c (world d0 o f) (world d1 o f) (world d2 n k) (world d3 n k) e.0 l.0 (e.1, l.1) (grows_silent d0 d1 (Made e.0 ∷ []) o f e.3) (grows_silent d2 d3 (Made l.0 ∷ []) n k l.3) refl refl i j t (pumps_of pumped.Fault p)
