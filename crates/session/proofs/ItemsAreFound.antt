-- Each stream of bytes has items and a rest, and items from its front are the first of them.
use Rattle.std.proofs.Common.{◌≡◌, inl, inr, ℕ, zero, suc, ◌≤◌, ◌<◌, List, [], ◌∷◌, ◌++◌, length, take, drop, Ok, Err, refl, sym, ap, ◌∙◌, subst, arith}
use Rattle.std.proofs.lemmas.List.{append_assoc, length-drop, take-append-drop}
use Rattle.std.proofs.lemmas.List.Elements.{All-drop, All-take}
use Rattle.std.specs.List.{All}
use Rattle.std.specs.Prelude.{◌⊎◌}
use Rattle.dbus_auth.specs.declared.handshake.AuthAnswer.{AuthAnswer}
use Rattle.dbus_auth.specs.declared.handshake.AuthAnswer.TheVariants.{Say, Begin, Early}
use Rattle.dbus_auth.specs.Handshake.{step}
use Rattle.dbus_dispatch.specs.declared.ask.Ask.{Ask}
use Rattle.dbus_dispatch.specs.declared.ask.Ask.TheVariants as ask
use Rattle.dbus_dispatch.specs.Asks.{ask_of}
use Rattle.dbus_message.proofs.ReadingsAreOne.{found}
use Rattle.dbus_message.proofs.Fronts.{some_front}
use Rattle.dbus_message.specs.Messages.{IsMessage}
use Rattle.dbus_message.specs.Rules.{IsFirstBroken}
use Rattle.dbus_types.specs.declared.message.Message.{Message}
use Rattle.fuse_wire.specs.Frames.{split_of}
use Rattle.session.specs.declared.act.Act.{Act}
use Rattle.session.specs.declared.act.Act.TheVariants.{Nothing, Line, Call, Portal}
use Rattle.session.specs.declared.act.Client.{Client}
use Rattle.session.specs.declared.act.ItemError.TheVariants.{Breaks}
use Rattle.session.specs.declared.phase.Phase.{Phase}
use Rattle.session.specs.declared.phase.Phase.TheVariants as due
use Rattle.session.specs.declared.served.Stop.{Stop}
use Rattle.session.specs.declared.served.Stop.TheVariants as stop
use Rattle.session.specs.Asked.{Means, act_of_ask, frame_act, is_host, line_act, reply_to}
use Rattle.session.specs.Cuts.{Cut, Cuts, cut_of, line_cut, line_of, next_phase, whole_item, zero_byte_cut}
use Rattle.session.specs.Items.{AreItems, IsItem, Items, Remains, joined, phase_after}
use Rattle.session.specs.Laws.{ItemsAreFound, ItemsComeFirst}
use Rattle.session.proofs.NextCut.{message_whole, whole_alone, whole_within}
use Rattle.session.proofs.ItemsAreOne.{item_rest, one_item}
use Rattle.session.proofs.ServeItems.{remains_cut}

-- ---- something stands at the front

a_cut : (p : Phase) (b : List ℕ) → (x : Cut) × Cuts p b x
a_cut due.ZeroByte b = (zero_byte_cut b, refl)
a_cut (due.Handshake a) b = (line_cut b, refl)
a_cut due.Messages b = let s = some_front b in (cut_of s.0, (s.0, s.1, refl))
a_cut due.Frames b = (cut_of (split_of b), refl)

-- ---- a whole item means something

-- it asks something, or breaks a rule
abbrev HasMeaning : Client → Phase → List ℕ → Type 0
HasMeaning c p item = ((act : Act) × Means c p item (Ok act)) ⊎ ((rule : ℕ) × Means c p item (Err (Breaks rule)))

line_means : (c : Client) (a : _) (item : List ℕ) (answer : AuthAnswer) → (step a (line_of item)).0 ≡ answer → HasMeaning c (due.Handshake a) item
line_means c a item (Say reply) e = inl (Line reply, sym (ap line_act e))
line_means c a item Begin e = inl (Nothing, sym (ap line_act e))
line_means c a item Early e = inr (13, sym (ap line_act e))

message_means : (c : Client) (item : List ℕ) (m : Message) (x : Ask) → IsMessage item m → ask_of c.settings m ≡ x → HasMeaning c due.Messages item
message_means c item m (ask.Local answer) is e = inl (Call (reply_to m answer) (is_host c.who), (m, is, sym (ap (act_of_ask c m) e)))
message_means c item m ask.Ignore is e = inl (Nothing, (m, is, sym (ap (act_of_ask c m) e)))
message_means c item m (ask.Portal request) is e = inl (Portal m request, (m, is, sym (ap (act_of_ask c m) e)))

read_means : (c : Client) (item : List ℕ) → ((m : Message) × IsMessage item m) ⊎ ((rule : ℕ) × IsFirstBroken item rule) → HasMeaning c due.Messages item
read_means c item (inl read) = message_means c item read.0 (ask_of c.settings read.0) read.1 refl
read_means c item (inr broken) = inr (broken.0, broken.1)

a_meaning : (c : Client) (p : Phase) (item : List ℕ) → All (λ b. b < 256) item → Cuts p item (whole_item (length item)) → HasMeaning c p item
a_meaning c due.ZeroByte item fits h = inl (Nothing, refl)
a_meaning c (due.Handshake a) item fits h = line_means c a item (step a (line_of item)).0 refl
a_meaning c due.Messages item fits h = read_means c item (found item fits (message_whole item h))
a_meaning c due.Frames item fits h = inl (frame_act item, refl)

-- ---- the items of a stream

abbrev Found : Client → Phase → List ℕ → Type 0
Found c p stream = (items : List (List ℕ)) × (acts : List Act) × (left : List ℕ) × (what : Stop) × Items c p stream items acts left what

found_none : (c : Client) (p : Phase) (stream : List ℕ) (what : Stop) → Remains c p stream what → Found c p stream
found_none c p stream what h = ([], [], stream, what, record { bytes = refl; each = refl; remains = h })

found_one : (c : Client) (p : Phase) (stream item later : List ℕ) (act : Act) → stream ≡ item ++ later → IsItem c p item act → Found c (next_phase c p item) later → Found c p stream
found_one c p stream item later act e is (items, acts, left, what, cut) = (
  item ∷ items,
  act ∷ acts,
  left,
  what,
  record {
    bytes = e ∙ (ap (λ (z : List ℕ). item ++ z) cut.bytes ∙ sym (append_assoc item (joined items) left));
    each = (act, acts, refl, is, cut.each);
    remains = cut.remains;
  },
)

abbrev Fits : List ℕ → Type 0
Fits b = All (λ x. x < 256) b

-- the items of the stream, where those of each shorter one are found
found_at : (c : Client) (p : Phase) (stream : List ℕ) (x : Cut) → Fits stream → Cuts p stream x → ((q : Phase) (later : List ℕ) → length later < length stream → Fits later → Found c q later) → Found c p stream
found_at c p stream (Err what) fits h next = found_none c p stream what (remains_cut c p stream what h)
found_at c p stream (Ok len) fits h next =
    let w = whole_within p stream len h in
    let alone = whole_alone p stream len h in
    elim (a_meaning c p (take len stream) (All-take (λ b. b < 256) len stream fits) alone) as (λ _. Found c p stream) [
      | inl means ↦ found_one c p stream (take len stream) (drop len stream) means.0 (sym (take-append-drop len stream)) (alone, means.1) (next (next_phase c p (take len stream)) (drop len stream) (omega (arith, length-drop len stream, w.0, w.1)) (All-drop (λ b. b < 256) len stream fits))
      | inr broken ↦ found_none c p stream (stop.Bad broken.0) (inr (len, h, broken.1))
    ]

found_in : (n : ℕ) (c : Client) (p : Phase) (stream : List ℕ) → length stream ≤ n → Fits stream → Found c p stream
found_in zero c p stream short fits = let x = a_cut p stream in found_at c p stream x.0 fits x.1 (λ q later lt f. absurd (omega (arith, short, lt)))
found_in (suc n) c p stream short fits = let x = a_cut p stream in found_at c p stream x.0 fits x.1 (λ q later lt f. found_in n c q later (omega (arith, short, lt)) f)

pub are_found : ItemsAreFound
are_found c p stream fits = found_in (length stream) c p stream (omega arith) fits

-- ---- items from the front are the first

come_first : (js is : List (List ℕ)) (c : Client) (p : Phase) (ys xs : List Act) (after left : List ℕ) (what : Stop) → joined js ++ after ≡ joined is ++ left → AreItems c p js ys → AreItems c p is xs → Remains c (phase_after c p is) left what
    → (more : List (List ℕ)) × (later : List Act) × (is ≡ js ++ more) × (xs ≡ ys ++ later)
come_first [] is c p ys xs after left what e a b h = (is, xs, refl, ap (λ (z : List Act). z ++ xs) (sym a))
come_first (j ∷ js) [] c p ys xs after left what e a b h = absurd (item_rest c p left j (joined js ++ after) a.0 what (sym e ∙ append_assoc j (joined js) after) a.3 h)
come_first (j ∷ js) (i ∷ is) c p ys xs after left what e a b h =
    let one = one_item c p i j (joined is ++ left) (joined js ++ after) b.0 a.0 (sym (append_assoc i (joined is) left) ∙ (sym e ∙ append_assoc j (joined js) after)) b.3 a.3 in
    let due : next_phase c p i ≡ next_phase c p j = ap (next_phase c p) one.0 in
    let k = come_first js is c (next_phase c p j) a.1 b.1 after left what (sym one.2) a.4 (subst (λ (z : Phase). AreItems c z is b.1) due b.4) (subst (λ (z : Phase). Remains c (phase_after c z is) left what) due h) in (
      k.0,
      k.1,
      ap (λ (z : List ℕ). z ∷ is) one.0 ∙ ap (λ (z : List (List ℕ)). j ∷ z) k.2,
      b.2 ∙ (ap (λ (z : Act). z ∷ b.1) one.1 ∙ (ap (λ (z : List Act). a.0 ∷ z) k.3 ∙ ap (λ (z : List Act). z ++ k.1) (sym a.2))),
    )

pub first_come : ItemsComeFirst
first_come c p stream items acts left what front firsts after cut e is = come_first front items c p firsts acts after left what (sym e ∙ cut.bytes) is cut.each cut.remains
