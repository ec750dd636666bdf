-- What an application is served, by the trace of its history.
use Rattle.std.proofs.Common.{◌≡◌, inl, inr, ℕ, List, [], ◌∷◌, ◌++◌, length, Bool, true, cond, Option, Some, None, refl, sym, ap, ◌∙◌, subst}
use Rattle.std.specs.Prelude.{slice_get, ◌⊎◌}
use Rattle.std.specs.Option.{option_map}
use Rattle.std.proofs.lemmas.List.{append_assoc}
use Rattle.portal_base.specs.declared.who.Kind.{Kind}
use Rattle.portal_base.specs.declared.who.Who.{Who}
use Rattle.portal_model.specs.declared.entry.Entry.{Entry}
use Rattle.portal_model.specs.declared.reply.Reply.{Reply}
use Rattle.portal_model.specs.declared.request.Request.{Request}
use Rattle.portal_model.specs.declared.state.Connection.{Connection}
use Rattle.portal_model.specs.History.{Legal, is_by, makes, made_by, replies, run}
use Rattle.portal_model.specs.Seated.{Binding, binding_of, bound_after, bound_by}
use Rattle.portal_model.specs.State.{State}
use Rattle.portal_model.specs.Step.{after, reply_at}
use Rattle.app_world.specs.World.{app_run, trace}
use Rattle.portal_model.proofs.ListLookups.{is_same-refl}
use Rattle.app_world.proofs.WorldLaws.{replies_of_trace}
use Rattle.session.specs.declared.act.Client.{Client}
use Rattle.session.specs.Sessions.{enter}
use Rattle.session.proofs.ItemsFit.{EntriesFit, Fits, fits_plain}
use Rattle.session.proofs.ConnectionStaysOpen.{bound_stays}

-- ---- replies by place

replies-append : (app : List ℕ) (h more : List Entry) (s : State) → replies app s (h ++ more) ≡ replies app s h ++ replies app (run s h) more
replies-append app [] more s = refl
replies-append app (e ∷ es) more s =
    let front : List Reply = cond (makes app s e) (reply_at s e ∷ []) [] in
    ap (λ (z : List Reply). front ++ z) (replies-append app es more (after s e)) ∙ sym (append_assoc front (replies app (after s e) es) (replies app (run (after s e) es) more))

at_seam : (xs ys : List Reply) (y : Reply) → slice_get (xs ++ y ∷ ys) (length xs) ≡ Some y
at_seam [] ys y = refl
at_seam (x ∷ xs) ys y = at_seam xs ys y

own_first : (app : List ℕ) (s : State) (e : Entry) (es : List Entry) → makes app s e ≡ true → replies app s (e ∷ es) ≡ reply_at s e ∷ replies app (after s e) es
own_first app s e es h = ap (λ (b : Bool). cond b (reply_at s e ∷ []) [] ++ replies app (after s e) es) h

-- the reply to an entry that the application makes stands in what its machine replies
pub served_at : (app : List ℕ) (s : State) (front rest : List Entry) (e : Entry) → s.told ≡ true → Legal s (front ++ e ∷ rest) → makes app (run s front) e ≡ true
    → slice_get (app_run (trace app s (front ++ e ∷ rest))) (length (replies app s front)) ≡ Some (reply_at (run s front) e)
served_at app s front rest e told legal own =
    let all : app_run (trace app s (front ++ e ∷ rest)) ≡ replies app s front ++ reply_at (run s front) e ∷ replies app (after (run s front) e) rest =
    sym (replies_of_trace (front ++ e ∷ rest) app s told legal.opening legal.lawful) ∙ (replies-append app front (e ∷ rest) s ∙ ap (λ (z : List Reply). replies app s front ++ z) (own_first app (run s front) e rest own)) in
    ap (λ (z : List Reply). slice_get z (length (replies app s front))) all ∙ at_seam (replies app s front) (replies app (after (run s front) e) rest) (reply_at (run s front) e)

-- ---- who makes an entry

-- an application's open connection, or an Enter that names it
abbrev pub IsMakers : List ℕ → Option Binding → Request → Type 0
IsMakers app (Some b) request = b.who ≡ Who.App app
IsMakers app None request = (kind : Kind) × (request ≡ Request.Enter (Who.App app) kind)

made_open : (app : List ℕ) (who : Who) → who ≡ Who.App app → is_by app (Some who) ≡ true
made_open app who h = ap (λ (w : Who). is_by app (Some w)) h ∙ is_same-refl app

pub made_by_bound : (app : List ℕ) (o : Option Connection) (request : Request) → IsMakers app (option_map binding_of o) request → made_by app o request ≡ true
made_by_bound app (Some c) request h = made_open app c.who h
made_by_bound app None request h = ap (λ (r : Request). made_by app None r) h.1 ∙ is_same-refl app

-- ---- the entries of a connection

-- none, or Enter, then some that fit the connection, and Leave
abbrev pub AreEnclosed : Client → List Entry → Type 0
AreEnclosed c es = (es ≡ []) ⊎ ((first : Entry) × (mids : List Entry) × (last : Entry) × (es ≡ first ∷ (mids ++ last ∷ [])) × (first.request ≡ enter c) × EntriesFit c.kind mids × (last.request ≡ Request.Leave))

-- ahead of one of them the connection is open
ahead : (kind : Kind) (b : Binding) (mids xs ys : List Entry) (last e : Entry) → EntriesFit kind mids → mids ++ last ∷ [] ≡ xs ++ e ∷ ys → bound_by (Some b) xs ≡ Some b
ahead kind b mids [] ys last e fit h = refl
ahead kind b [] (x ∷ []) ys last e fit h = absurd (cc)
ahead kind b [] (x ∷ y ∷ xs) ys last e fit h = absurd (cc)
ahead kind b (m ∷ mids) (x ∷ xs) ys last e fit h =
    let same : m ≡ x = cc in
    let tails : mids ++ last ∷ [] ≡ xs ++ e ∷ ys = cc in
    ap (λ (o : Option Binding). bound_by o xs) (bound_stays x.request (Some b) (fits_plain kind x.request (subst (λ (z : Entry). Fits kind z.request) same fit.0))) ∙ ahead kind b mids xs ys last e fit.1 tails

-- what is asked where the connection isn't open yet, and where it is
abbrev pub IsAskedAt : Client → Option Binding → Request → Type 0
IsAskedAt c None request = request ≡ enter c
IsAskedAt c (Some b) request = (b.kind ≡ c.kind) × (b.who ≡ c.who) × (Fits c.kind request ⊎ (request ≡ Request.Leave))

-- one of them behind Enter
behind_enter : (kind : Kind) (mids xs ys : List Entry) (last e : Entry) → EntriesFit kind mids → last.request ≡ Request.Leave → mids ++ last ∷ [] ≡ xs ++ e ∷ ys → Fits kind e.request ⊎ (e.request ≡ Request.Leave)
behind_enter kind [] [] ys last e fit leaves h = let same : last ≡ e = cc in inr (subst (λ (z : Entry). z.request ≡ Request.Leave) same leaves)
behind_enter kind [] (x ∷ []) ys last e fit leaves h = absurd (cc)
behind_enter kind [] (x ∷ y ∷ xs) ys last e fit leaves h = absurd (cc)
behind_enter kind (m ∷ mids) [] ys last e fit leaves h = let same : m ≡ e = cc in inl (subst (λ (z : Entry). Fits kind z.request) same fit.0)
behind_enter kind (m ∷ mids) (x ∷ xs) ys last e fit leaves h = let tails : mids ++ last ∷ [] ≡ xs ++ e ∷ ys = cc in behind_enter kind mids xs ys last e fit.1 leaves tails

pub asked_at : (c : Client) (es xs ys : List Entry) (e : Entry) → AreEnclosed c es → es ≡ xs ++ e ∷ ys → IsAskedAt c (bound_by None xs) e.request
asked_at c es [] ys e (inl none) h = absurd (cc)
asked_at c es (x ∷ xs) ys e (inl none) h = absurd (cc)
asked_at c es [] ys e (inr (first, mids, last, all, is, fit, leaves)) h =
    let same : first ≡ e = cc in
    subst (λ (z : Entry). z.request ≡ enter c) same is
asked_at c es (x ∷ xs) ys e (inr (first, mids, last, all, is, fit, leaves)) h =
    let same : first ≡ x = cc in
    let tails : mids ++ last ∷ [] ≡ xs ++ e ∷ ys = cc in
    let open_one : bound_after None x.request ≡ Some (record { who = c.who; kind = c.kind }) = ap (bound_after None) (ap (λ (z : Entry). z.request) (sym same) ∙ is) in
    let stays : bound_by None (x ∷ xs) ≡ Some (record { who = c.who; kind = c.kind }) = ap (λ (o : Option Binding). bound_by o xs) open_one ∙ ahead c.kind _ mids xs ys last e fit tails in
    subst (λ (o : Option Binding). IsAskedAt c o e.request) (sym stays) (refl, refl, behind_enter c.kind mids xs ys last e fit leaves tails)

-- whoever enters makes each of them
pub makers : (app : List ℕ) (c : Client) (o : Option Binding) (request : Request) → c.who ≡ Who.App app → IsAskedAt c o request → IsMakers app o request
makers app c None request who h = (c.kind, h ∙ ap (λ (w : Who). Request.Enter w c.kind) who)
makers app c (Some b) request who h = h.1 ∙ who
