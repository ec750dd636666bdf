-- Enter and Leave, at a desk that may be busy.
use Rattle.std.proofs.Common.{◌≡◌, inl, inr, ℕ, ◌≤◌, true, false, Ok, Err, refl, sym, ap, ◌∙◌, subst}
use Rattle.portal_base.specs.Outside.{HasRisen}
use Rattle.portal_base.specs.declared.who.Who.{Who}
use Rattle.portal_desk.specs.Knowing.{Known}
use Rattle.portal_desk.specs.Trying.{IsPutOff}
use Rattle.portal_model.specs.declared.reply.Refused.{Refused}
use Rattle.portal_model.specs.declared.reply.Reply.{Reply}
use Rattle.portal_model.specs.declared.request.Request.{Request}
use Rattle.portal_model.specs.Seated.{Asks, Seated, is_open, state_seen}
use Rattle.session.specs.declared.served.Served.{Served}
use Rattle.session.specs.Connections.{served_by}
use Rattle.session.proofs.SessionCalls.{enter_asked, enter_refused}
use Rattle.poll_laws.specs.declared.course.Turn.TheVariants as turn
use Rattle.poll_laws.specs.Courses.{Fits, Standing, is_inside}
use Rattle.poll_steps.specs.Steps.{Enters, Leaves, turned}
use Rattle.poll_steps.proofs.Connected.{client_open, put_off_same}

-- what was put off is the request that was asked
same_again : (a b : Seated) (request again : Request) → IsPutOff a request again b → IsPutOff a request request b
same_again a b request again off = record { moved = off.moved; mine = off.mine; refusals = off.refusals; handed_back = refl }

-- ---- Enter

module _ (s : Standing) (a b : Seated) (n m : ℕ) (who : Who) (same : who ≡ s.client.who) where
  pub enters_ok : (reply : Reply) (t : Standing) → Asks a (Request.Enter who s.client.kind) (Ok reply) b → m ≡ n → t ≡ turned s turn.Serve → Enters s a n t b m
  enters_ok reply t asks busy is = inl (reply, subst (λ (z : Who). Asks a (Request.Enter z s.client.kind) (Ok reply) b) same asks, busy, is)

  pub enters_err : (why : Refused) (t : Standing) → Asks a (Request.Enter who s.client.kind) (Err why) b → m ≡ n → t ≡ turned s (turn.Over (served_by why)) → Enters s a n t b m
  enters_err why t asks busy is = inr (inl (why, subst (λ (z : Who). Asks a (Request.Enter z s.client.kind) (Err why) b) same asks, busy, is))

  pub enters_busy : (again : Request) → IsPutOff a (Request.Enter who s.client.kind) again b → (n ≤ m) × HasRisen n m → Enters s a n s b m
  enters_busy again off more =
      inr (inr (inr (subst (λ (z : Who). IsPutOff a (Request.Enter z s.client.kind) (Request.Enter z s.client.kind) b) same (same_again a b (Request.Enter who s.client.kind) again off), more.0, more.1, refl)))

  module _ (ka : Known a) (kb : Known b) (due : s.turn ≡ turn.Enter) (fits : Fits s.turn a) where
    closed : is_open (state_seen a) a.seat ≡ false
    closed = fits ∙ ap is_inside due

    pub fits_entered : (reply : Reply) → Asks a (Request.Enter who s.client.kind) (Ok reply) b → is_open (state_seen b) b.seat ≡ true
    fits_entered reply asks = client_open s.client b (enter_asked s.client.who s.client.kind a b reply ka kb closed (subst (λ (z : Who). Asks a (Request.Enter z s.client.kind) (Ok reply) b) same asks))

    pub fits_refused : (why : Refused) → Asks a (Request.Enter who s.client.kind) (Err why) b → is_open (state_seen b) b.seat ≡ false
    fits_refused why asks = enter_refused s.client.who s.client.kind a b why ka kb closed (subst (λ (z : Who). Asks a (Request.Enter z s.client.kind) (Err why) b) same asks)

    pub fits_waiting : (again : Request) → IsPutOff a (Request.Enter who s.client.kind) again b → Fits s.turn b
    fits_waiting again off = put_off_same a b (Request.Enter who s.client.kind) again ka kb off ∙ fits

-- ---- once it is over

pub fits_over : (s t : Standing) (e : Served) (b : Seated) → t ≡ turned s (turn.Over e) → is_open (state_seen b) b.seat ≡ false → Fits t.turn b
fits_over s t e b is closed = closed ∙ sym (ap (λ (z : Standing). is_inside z.turn) is)

-- no connection was opened
pub fits_unopened : (s t : Standing) (e : Served) (a : Seated) → s.turn ≡ turn.Enter → Fits s.turn a → t ≡ turned s (turn.Over e) → Fits t.turn a
fits_unopened s t e a due fits is = fits_over s t e a is (fits ∙ ap is_inside due)

over_turn : (s t : Standing) (e : Served) → t ≡ turned s (turn.Over e) → t.turn ≡ turn.Over e
over_turn s t e is = ap (λ (z : Standing). z.turn) is

pub over_enters : (s t : Standing) (e : Served) → t ≡ turned s (turn.Over e) → t.turn ≡ turn.Enter → ⊥
over_enters s t e is due = let over = over_turn s t e is in absurd (cc)

pub over_leaves : (s t : Standing) (e f : Served) → t ≡ turned s (turn.Over e) → t.turn ≡ turn.Leave f → ⊥
over_leaves s t e f is due = let over = over_turn s t e is in absurd (cc)

-- ---- Leave

module _ (s : Standing) (e : Served) (a b : Seated) (n m : ℕ) where
  pub leaves_ok : (reply : Reply) (t : Standing) → Asks a Request.Leave (Ok reply) b → m ≡ n → t ≡ turned s (turn.Over e) → Leaves e s a n t b m
  leaves_ok reply t asks busy is = inl (reply, asks, busy, is)

  pub leaves_busy : (again : Request) → IsPutOff a Request.Leave again b → (n ≤ m) × HasRisen n m → Leaves e s a n s b m
  leaves_busy again off more = inr (same_again a b Request.Leave again off, more.0, more.1, refl)

  module _ (due : s.turn ≡ turn.Leave e) (fits : Fits s.turn a) where
    opened : is_open (state_seen a) a.seat ≡ true
    opened = fits ∙ ap is_inside due

    -- it isn't refused
    pub leaves_never : (why : Refused) → Asks a Request.Leave (Err why) b → ⊥
    leaves_never why asks = asks.answered.no_leave refl opened

    pub fits_leaving : (again : Request) → Known a → Known b → IsPutOff a Request.Leave again b → Fits s.turn b
    fits_leaving again ka kb off = put_off_same a b Request.Leave again ka kb off ∙ fits
