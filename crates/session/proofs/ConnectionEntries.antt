-- A connection's own entries: Enter, those of its items, and Leave; and what they are replied.
use Rattle.std.proofs.Common.{◌≡◌, inl, inr, ℕ, List, [], ◌∷◌, ◌++◌, false, Option, refl, sym, ap, ◌∙◌, subst}
use Rattle.std.proofs.lemmas.List.{map-append}
use Rattle.portal_model.specs.declared.entry.Entry.{Entry}
use Rattle.portal_model.specs.declared.reply.Refused.{Refused}
use Rattle.portal_model.specs.declared.reply.Refused.TheVariants as refused
use Rattle.portal_model.specs.History.{run}
use Rattle.portal_desk.specs.Knowing.{Known}
use Rattle.portal_model.specs.Seated.{Binding, Exchange, Seated, bound_by, is_open, state_seen}
use Rattle.session.specs.declared.act.Act.{Act}
use Rattle.session.specs.declared.act.Client.{Client}
use Rattle.session.specs.declared.served.Stop.{Stop}
use Rattle.session.specs.declared.served.Served.{Served}
use Rattle.session.specs.declared.served.Served.TheVariants as served
use Rattle.session.specs.Answers.{Answers, Denied, Made, Outcome, kept}
use Rattle.session.specs.Asked.{asked_by, requests_of}
use Rattle.session.specs.Connections.{Answered, Enclosed, Encloses, EndsAs, Front, Half, IsRefused, Serves, Whole, between}
use Rattle.session.specs.Cuts.{first_phase}
use Rattle.session.specs.Hearing.{IsHeard}
use Rattle.session.specs.Isolation.{IsIsolated}
use Rattle.session.specs.Items.{AreItems, phase_after}
use Rattle.session.specs.Ledger.{Grew, World}
use Rattle.session.specs.Pumps.{Spring}
use Rattle.session.specs.Sessions.{enter}
use Rattle.session.proofs.Grew.{grew_none, kept-append}
use Rattle.session.proofs.ItemsFit.{Fits, MakesFit, act_fits, after_speaks, first_speaks, items_fit}
use Rattle.session.proofs.HeardReplies.{met}
use Rattle.session.proofs.ServedTraces.{AreEnclosed, IsAskedAt, IsMakers, asked_at, makers}
use Rattle.session.proofs.AnswersAsked.{answer_asked}
use Rattle.session.proofs.ConnectionStaysOpen.{entries_of, makes_of, makes_on, not_open}
use Rattle.session.proofs.OwnEntries.{Came, came_as, came_isolated, own_at}

-- ---- the entries of a connection

between_entries : (e l : Exchange) (os : List Outcome) → entries_of (kept (between e os l)) ≡ e.entry ∷ (entries_of (kept os) ++ l.entry ∷ [])
between_entries e l os =
    ap (λ (z : List Exchange). e.entry ∷ entries_of z) (kept-append os (Made l ∷ []))
    ∙ ap (λ (z : List Entry). e.entry ∷ z) (map-append (λ (x : Exchange). x.entry) (kept os) (l ∷ []))

between_enclosed : (c : Client) (e l : Exchange) (os : List Outcome) → Encloses c e l → MakesFit c.kind os → AreEnclosed c (entries_of (kept (between e os l)))
between_enclosed c e l os h fit = inr (e.entry, entries_of (kept os), l.entry, between_entries e l os, h.0, fit, h.1)

-- the outcomes of items fit the connection
answers_fit : (c : Client) (items : List (List ℕ)) (acts : List Act) (n : ℕ) (os : List Outcome) (ps : List (List ℕ)) → AreItems c (first_phase c.kind) items acts → Answers c 0 acts os ps n → MakesFit c.kind os
answers_fit c items acts n os ps each a = makes_of (Fits c.kind) (requests_of acts) os (items_fit items c.kind c (first_phase c.kind) acts (first_speaks c.kind) each) (answer_asked.items c 0 n acts os ps a)

-- from one desk to another there came outcomes whose entries are those of one connection
abbrev pub Connects : Client → Seated → Seated → Type 0
Connects c v w = (os : List Outcome) × Grew v os w × AreEnclosed c (entries_of (kept os))

answered_connect : (c : Client) (k : Answered c) (v w : World) → Enclosed c k.outcomes k.pieces v w → Connects c v.seated w.seated
answered_connect c k v w a =
    let fit = answers_fit c k.items k.acts k.last k.outcomes k.pieces k.each k.answers in
    (between a.entered k.outcomes a.leaving, a.grows.desk, between_enclosed c a.entered a.leaving k.outcomes a.encloses fit)

whole_connects : (c : Client) (read left : List ℕ) (what : Stop) (v w : World) → Whole c read left what v w → Connects c v.seated w.seated
whole_connects c read left what v w k = answered_connect c k.all v w k.asked

front_connects : (c : Client) (read : List ℕ) (v w : World) → Front c read v w → Connects c v.seated w.seated
front_connects c read v w k = answered_connect c k.first v w k.asked

half_connects : (c : Client) (read : List ℕ) (v w : World) → Half c read v w → Connects c v.seated w.seated
half_connects c read v w k =
    let first = k.first in
    let last = k.then in
    let asked = k.asked in
    let due = phase_after c (first_phase c.kind) first.items in
    let speaks = after_speaks first.items c.kind c (first_phase c.kind) (first_speaks c.kind) in (
      between asked.entered (first.outcomes ++ last.outcomes) asked.leaving,
      asked.grows.desk,
      between_enclosed c asked.entered asked.leaving (first.outcomes ++ last.outcomes) asked.encloses
          (makes_on (Fits c.kind) first.outcomes last.outcomes (answers_fit c first.items first.acts first.last first.outcomes first.pieces first.each first.answers)
          (makes_of (Fits c.kind) (asked_by last.act) last.outcomes (act_fits c.kind c due last.item last.act speaks last.is_item.1) last.gives.asked)),
    )

refused_connects : (c : Client) (why : Refused) (read : List ℕ) (i j : Spring) (v w : World) → IsRefused c why read i j v w → Connects c v.seated w.seated
refused_connects c why read i j v w h = (Denied (enter c) why ∷ [], h.1.desk, inl refl)

none_connects : (c : Client) (v w : World) → w.seated ≡ v.seated → Connects c v.seated w.seated
none_connects c v w e = ([], subst (λ (z : Seated). Grew v.seated [] z) (sym e) (grew_none v.seated), inl refl)

ends_connect : (c : Client) (r : Served) (read : List ℕ) (i j : Spring) (v w : World) → EndsAs c r read i j v w → Connects c v.seated w.seated
ends_connect c served.Ended read i j v w h = whole_connects c read _ _ v w h.1
ends_connect c (served.Cut n) read i j v w h = whole_connects c read _ _ v w h.2.2
ends_connect c (served.Malformed at rule) read i j v w h = whole_connects c read _ _ v w h.2
ends_connect c (served.LineTooLong at) read i j v w h = whole_connects c read _ _ v w h.2
ends_connect c served.ReadFault read i j v w h = whole_connects c read _ _ v w h.1.1
ends_connect c served.WriteFault read i j v w h = half_connects c read v w h.1
ends_connect c served.Spent read i j v w h = whole_connects c h.1.0 _ _ v w h.1.5
ends_connect c (served.Full now limit) read i j v w h = refused_connects c (refused.Full now limit) read i j v w h
ends_connect c served.Memory read i j v w (inl (inl h)) = none_connects c v w h.1
ends_connect c served.Memory read i j v w (inl (inr h)) = refused_connects c refused.Memory read i j v w h
ends_connect c served.Memory read i j v w (inr (inl h, last)) = front_connects c read v w h
ends_connect c served.Memory read i j v w (inr (inr h, last)) = half_connects c read v w h.0

pub serves_connect : (c : Client) (r : Served) (i j : Spring) (v w : World) → Serves c r i j v w → Connects c v.seated w.seated
serves_connect c r i j v w h = ends_connect c r h.0 i j v w h.3

-- ---- what they are replied

-- each is asked where the connection stands so
connects_asked : (c : Client) (v w : Seated) → Connects c v w → is_open (state_seen v) v.seat ≡ false → Came (IsAskedAt c) v w
connects_asked c v w (os, g, enclosed) closed = (
  os,
  g,
  λ xs ys e is. subst (λ (o : Option Binding). IsAskedAt c (bound_by o xs) e.request) (sym (not_open (state_seen v) v.seat closed)) (asked_at c (entries_of (kept os)) xs ys e enclosed is),
)

pub isolated : (c : Client) (v w : Seated) → Known v → Known w → Connects c v w → is_open (state_seen v) v.seat ≡ false → IsIsolated c.who v w
isolated c v w a b connects closed =
    came_isolated c.who v w a b (λ app who. came_as (IsAskedAt c) (IsMakers app) v w (λ o request h. makers app c o request who h) (connects_asked c v w connects closed))

pub heard : (c : Client) (v w : Seated) → Known v → Known w → Connects c v w → is_open (state_seen v) v.seat ≡ false → IsHeard v w
heard c v w a b connects closed front after e seen long own = met c (run w.opening front) e (own_at (IsAskedAt c) v w front after e a b (connects_asked c v w connects closed) seen long own)
