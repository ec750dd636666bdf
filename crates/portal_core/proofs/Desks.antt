-- A desk that sees the whole history: what it answers is what a desk promises.
use Rattle.std.proofs.Common.{◌≡◌, ◌<◌, ℕ, List, [], ◌∷◌, ◌++◌, true, Ok, Err, refl, sym, ap, ◌∙◌, subst, arith}
use Rattle.std.proofs.lemmas.List.{append-nil}
use Rattle.std.proofs.lemmas.List.Elements.{All-cons, All-nil}
use Rattle.portal_model.specs.declared.entry.Entry.{Entry}
use Rattle.portal_model.specs.declared.reply.Refused.{Refused}
use Rattle.portal_model.specs.declared.reply.Refused.TheVariants.{Memory, Full}
use Rattle.portal_model.specs.declared.reply.Reply.{Reply}
use Rattle.portal_model.specs.declared.request.Request.{Request}
use Rattle.portal_model.specs.Alike.{Alike}
use Rattle.portal_model.specs.History.{cost, run}
use Rattle.portal_model.specs.Seated.{Asks, HasCause, Made, exchange, exchanges, is_open, rises_by}
use Rattle.portal_model.specs.State.{State}
use Rattle.portal_model.specs.Step.{reply_at}
use Rattle.portal_model.proofs.SeatLaws.{exchanges-own}
use Rattle.portal_core.specs.Growth.{GrowsBy, RefusedFor, cost_after}
use Rattle.portal_core.specs.Lending.{GoesOn, seated_at}

module _ (says : Entry → Type 0) (s : State) (old new : List Entry) (seat refusals : ℕ) (request : Request) (reply : Reply) (g : GrowsBy says s old new seat request reply) where
  own_exchange : exchanges seat s new ≡ exchanges seat s old ++ exchange (run s (old ++ [])) g.entry ∷ []
  own_exchange =
      ap (exchanges seat s) g.grown
      ∙ (exchanges-own seat s old g.entry g.seat_is
      ∙ ap (λ (h : List Entry). exchanges seat s old ++ exchange (run s h) g.entry ∷ []) (sym (append-nil old)))

  made_here : Made (seated_at s old seat refusals) (seated_at s new seat refusals) request reply
  made_here = record {
    entry = g.entry;
    others = [];
    seen = g.grown;
    seat_is = g.seat_is;
    request_is = g.request_is;
    reply_is = subst (λ (h : List Entry). Alike s.told request (reply_at (run s h) g.entry) reply) (sym (append-nil old)) g.reply_is;
    mine = own_exchange;
    refusals = refl;
  }

  asked_here : Asks (seated_at s old seat refusals) request (Ok reply) (seated_at s new seat refusals)
  asked_here = record { moved = record { opening = refl; seat = refl; begins = (g.entry ∷ [], g.grown) }; answered = made_here }

-- also where the state at the opening goes by another name afterwards
pub asked : (says : Entry → Type 0) (s t : State) (old new : List Entry) (seat refusals : ℕ) (request : Request) (reply : Reply) → t ≡ s → GrowsBy says s old new seat request reply →
    Asks (seated_at s old seat refusals) request (Ok reply) (seated_at t new seat refusals)
asked says s t old new seat refusals request reply e g =
    subst (λ (u : State). Asks (seated_at s old seat refusals) request (Ok reply) (seated_at u new seat refusals)) (sym e) (asked_here says s old new seat refusals request reply g)

-- ---- a refusal, whose cause stands in what is seen

cause_here : (s t : State) (old new : List Entry) (seat refusals : ℕ) (request : Request) (why : Refused) → t ≡ s → new ≡ old → RefusedFor s old request why → HasCause (seated_at t new seat refusals) request why
cause_here s t old new seat refusals request why e n c =
    subst (λ (u : State). HasCause (seated_at u new seat refusals) request why) (sym e) (subst (λ (h : List Entry). HasCause (seated_at s h seat refusals) request why) (sym n) (at why c))
  where
    at : (w : Refused) → RefusedFor s old request w → HasCause (seated_at s old seat refusals) request w
    at Memory k = k
    at (Full now limit) k =
        let cost_is : now ≡ cost old = k.0 in
        let limit_is : limit ≡ s.limits.history = k.1 in
        let over : s.limits.history < cost_after old request = k.2 in
        (cost_is, limit_is, omega (arith, cost_is, limit_is, over))

pub denied : (s t : State) (old new : List Entry) (seat refusals more : ℕ) (request : Request) (why : Refused) → t ≡ s → new ≡ old → more ≡ rises_by refusals 1 → RefusedFor s old request why → (request ≡ Request.Leave → is_open (run s old) seat ≡ true → ⊥) →
    Asks (seated_at s old seat refusals) request (Err why) (seated_at t new seat more)
denied s t old new seat refusals more request why e n k cause leave = record {
  moved = record { opening = e; seat = refl; begins = ([], n ∙ sym (append-nil old)) };
  answered = record {
    refusals = k;
    mine = (λ i. exchanges seat (e i) (n i));
    cause = cause_here s t old new seat more request why e n cause;
    no_leave = leave;
  };
}

-- ---- how such a desk goes on

pub goes_on : {S : Type 0} (says : S → Entry → S → Type 0) (spends : S → Request → S → Type 0) (count : S → ℕ) (a b : S) (s t : State) (old new : List Entry) (seat refusals : ℕ) (request : Request) (reply : Reply) → t ≡ s → count b ≡ count a → GrowsBy (λ e. says a e b) s old new seat request reply →
    GoesOn says spends count a (seated_at s old seat refusals) b (seated_at t new seat refusals)
goes_on says spends count a b s t old new seat refusals request reply e same g = record {
  moved = record { opening = e; seat = refl; begins = (g.entry ∷ [], g.grown) };
  asked = Ok g.entry ∷ [];
  grows = record { grown = g.grown; own = All-cons (λ (x : Entry). x.seat ≡ seat) g.entry [] g.seat_is (All-nil _) };
  count = omega arith;
  kept_count = omega (arith, same);
  chain = (b, g.said, refl);
}

pub goes_refused : {S : Type 0} (says : S → Entry → S → Type 0) (spends : S → Request → S → Type 0) (count : S → ℕ) (a b : S) (s t : State) (old new : List Entry) (seat refusals more : ℕ) (request : Request) → t ≡ s → new ≡ old → more ≡ rises_by refusals 1 → count b ≡ rises_by (count a) 1 → spends a request b →
    GoesOn says spends count a (seated_at s old seat refusals) b (seated_at t new seat more)
goes_refused says spends count a b s t old new seat refusals more request e n k kept spent = record {
  moved = record { opening = e; seat = refl; begins = ([], n ∙ sym (append-nil old)) };
  asked = Err request ∷ [];
  grows = record { grown = n ∙ sym (append-nil old); own = All-nil _ };
  count = k;
  kept_count = kept;
  chain = (b, spent, refl);
}
