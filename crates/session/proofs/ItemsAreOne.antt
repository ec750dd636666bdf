-- The items of a stream are one: what stands at its front is one thing, and asks one thing.
use Rattle.std.proofs.Common.{◌≡◌, inl, inr, ℕ, List, [], ◌∷◌, ◌++◌, length, take, drop, Result, Ok, Err, refl, sym, ap, ◌∙◌, subst}
use Rattle.std.proofs.Math.Seq.{take-append_seam, drop-append_seam}
use Rattle.std.proofs.lemmas.List.{append_assoc}
use Rattle.std.specs.Prelude.{◌⊎◌}
use Rattle.dbus_auth.specs.Handshake.{step}
use Rattle.dbus_types.specs.declared.message.Message.{Message}
use Rattle.dbus_message.proofs.Fronts.{one_front}
use Rattle.dbus_message.proofs.OneMessage.{one_message}
use Rattle.dbus_message.proofs.ReadMessage.{one_first, refutes}
use Rattle.session.specs.declared.act.Act.{Act}
use Rattle.session.specs.declared.act.Client.{Client}
use Rattle.session.specs.declared.act.ItemError.{ItemError}
use Rattle.session.specs.declared.act.ItemError.TheVariants.{Breaks, Memory}
use Rattle.session.specs.declared.phase.Phase.{Phase}
use Rattle.session.specs.declared.phase.Phase.TheVariants as due
use Rattle.session.specs.declared.served.Stop.{Stop}
use Rattle.session.specs.declared.served.Stop.TheVariants as stop
use Rattle.session.specs.Asked.{Means, MessageMeans, OrMemory, act_of_message, frame_act, line_act}
use Rattle.session.specs.Cuts.{Cut, Cuts, cut_of, line_of, next_phase, no_item, whole_item}
use Rattle.session.specs.Items.{AreItems, AsksNothing, IsItem, Remains, joined, phase_after}
use Rattle.session.specs.Laws.{AreOne}
use Rattle.session.proofs.NextCut.{whole_more}

-- ---- one thing stands at the front

one_cut : (p : Phase) (b : List ℕ) (x y : Cut) → Cuts p b x → Cuts p b y → x ≡ y
one_cut due.ZeroByte b x y h k = h ∙ sym k
one_cut (due.Handshake a) b x y h k = h ∙ sym k
one_cut due.Messages b x y h k = h.2 ∙ (ap cut_of (one_front b h.0 k.0 h.1 k.1) ∙ sym k.2)
one_cut due.Frames b x y h k = h ∙ sym k

-- ---- an item means one thing, where there is memory to read it

abbrev Told : Result Act ItemError → Type 0
Told (Err Memory) = ⊥
Told found = Unit {0}

told_is : (r expected : Result Act ItemError) → Told r → OrMemory r expected → r ≡ expected
told_is (Ok act) expected t h = h
told_is (Err (Breaks rule)) expected t h = h
told_is (Err Memory) expected t h = absurd t

message_means : (c : Client) (item : List ℕ) (r s : Result Act ItemError) → Told r → Told s → MessageMeans c item r → MessageMeans c item s → r ≡ s
message_means c item (Ok a) (Ok b) t u h k = h.2 ∙ (ap (λ (m : Message). act_of_message c m) (one_message item h.0 k.0 h.1 k.1) ∙ sym k.2)
message_means c item (Ok a) (Err (Breaks rule)) t u h k = absurd (refutes item h.0 rule h.1 k)
message_means c item (Ok a) (Err Memory) t u h k = absurd u
message_means c item (Err (Breaks rule)) (Ok b) t u h k = absurd (refutes item k.0 rule k.1 h)
message_means c item (Err (Breaks rule)) (Err (Breaks other)) t u h k = ap (λ (n : ℕ). Err (Breaks n)) (one_first item rule other h k)
message_means c item (Err (Breaks rule)) (Err Memory) t u h k = absurd u
message_means c item (Err Memory) s t u h k = absurd t

one_meaning : (c : Client) (p : Phase) (item : List ℕ) (r s : Result Act ItemError) → Told r → Told s → Means c p item r → Means c p item s → r ≡ s
one_meaning c due.ZeroByte item r s t u h k = h ∙ sym k
one_meaning c (due.Handshake a) item r s t u h k =
    let e = line_act (step a (line_of item)).0 in
    told_is r e t h ∙ sym (told_is s e u k)
one_meaning c due.Messages item r s t u h k = message_means c item r s t u h k
one_meaning c due.Frames item r s t u h k = let e = Ok (frame_act item) in told_is r e t h ∙ sym (told_is s e u k)

-- ---- one rest

-- why no item stands at the front: what is cut there, or what is read of a whole item
abbrev rest_of : Cut ⊎ ItemError → Stop
rest_of (inl (Ok len)) = stop.More
rest_of (inl (Err what)) = what
rest_of (inr (Breaks rule)) = stop.Bad rule
rest_of (inr Memory) = stop.More

abbrev IsPart : Cut → Type 0
IsPart (Ok len) = ⊥
IsPart (Err what) = Unit {0}

abbrev Stands : Client → Phase → List ℕ → Cut ⊎ ItemError → Type 0
Stands c p b (inl found) = IsPart found × Cuts p b found
Stands c p b (inr error) = Told (Err error) × AsksNothing c p b error

stands : (c : Client) (p : Phase) (b : List ℕ) (x : Stop) → Remains c p b x → (w : Cut ⊎ ItemError) × Stands c p b w × (x ≡ rest_of w)
stands c p b stop.More h = (inl (no_item stop.More), (tt, h), refl)
stands c p b (stop.Bad rule) (inl h) = (inl (no_item (stop.Bad rule)), (tt, h), refl)
stands c p b (stop.Bad rule) (inr h) = (inr (Breaks rule), (tt, h), refl)
stands c p b stop.TooLong h = (inl (no_item stop.TooLong), (tt, h), refl)

part_whole : (found : Cut) (n : ℕ) → IsPart found → found ≡ whole_item n → ⊥
part_whole (Ok len) n t e = t
part_whole (Err what) n t e = absurd (cc)

same_len : (m n : ℕ) → whole_item m ≡ whole_item n → m ≡ n
same_len m n e = cc

same_error : (r s : Result Act ItemError) (e f : ItemError) → r ≡ Err e → s ≡ Err f → r ≡ s → e ≡ f
same_error r s e f a b h = cc

one_error : (c : Client) (p : Phase) (b : List ℕ) (e f : ItemError) → Told (Err e) → Told (Err f) → AsksNothing c p b e → AsksNothing c p b f → e ≡ f
one_error c p b e f t u h k =
    let len : h.0 ≡ k.0 = same_len h.0 k.0 (one_cut p b (whole_item h.0) (whole_item k.0) h.1 k.1) in
    let means = subst (λ (n : ℕ). Means c p (take n b) (Err e)) len h.2 in
    same_error (Err e) (Err f) e f refl refl (one_meaning c p (take k.0 b) (Err e) (Err f) t u means k.2)

one_standing : (c : Client) (p : Phase) (b : List ℕ) (w z : Cut ⊎ ItemError) → Stands c p b w → Stands c p b z → w ≡ z
one_standing c p b (inl x) (inl y) h k = ap inl (one_cut p b x y h.1 k.1)
one_standing c p b (inl x) (inr f) h k = absurd (part_whole x k.1.0 h.0 (one_cut p b x (whole_item k.1.0) h.1 k.1.1))
one_standing c p b (inr e) (inl y) h k = absurd (part_whole y h.1.0 k.0 (one_cut p b y (whole_item h.1.0) k.1 h.1.1))
one_standing c p b (inr e) (inr f) h k = ap inr (one_error c p b e f h.0 k.0 h.1 k.1)

pub one_rest : (c : Client) (p : Phase) (b : List ℕ) (x y : Stop) → Remains c p b x → Remains c p b y → x ≡ y
one_rest c p b x y h k =
    let w = stands c p b x h in
    let z = stands c p b y k in
    w.2 ∙ (ap rest_of (one_standing c p b w.0 z.0 w.1 z.1) ∙ sym z.2)

-- ---- an item at the front

item_at : (c : Client) (p : Phase) (i more : List ℕ) (act : Act) → IsItem c p i act → Cuts p (i ++ more) (whole_item (length i))
item_at c p i more act is = whole_more p i more (length i) is.0

not_both : (act : Act) (e : ItemError) → Ok act ≡ Err e → ⊥
not_both act e h = absurd (cc)

standing_item : (c : Client) (p : Phase) (i more : List ℕ) (act : Act) (w : Cut ⊎ ItemError) → IsItem c p i act → Stands c p (i ++ more) w → ⊥
standing_item c p i more act (inl x) is h = part_whole x (length i) h.0 (one_cut p (i ++ more) x (whole_item (length i)) h.1 (item_at c p i more act is))
standing_item c p i more act (inr e) is h =
    let n = h.1.0 in
    let len : n ≡ length i = same_len n (length i) (one_cut p (i ++ more) (whole_item n) (whole_item (length i)) h.1.1 (item_at c p i more act is)) in
    let front : take n (i ++ more) ≡ i = ap (λ (k : ℕ). take k (i ++ more)) len ∙ take-append_seam i more in
    let means = subst (λ (b : List ℕ). Means c p b (Err e)) front h.1.2 in
    not_both act e (one_meaning c p i (Ok act) (Err e) tt h.0 is.1 means)

-- where an item stands at the front, there is no rest
pub item_rest : (c : Client) (p : Phase) (b i more : List ℕ) (act : Act) (x : Stop) → b ≡ i ++ more → IsItem c p i act → Remains c p b x → ⊥
item_rest c p b i more act x e is h =
    let w = stands c p b x h in
    standing_item c p i more act w.0 is (subst (λ (z : List ℕ). Stands c p z w.0) e w.1)

same_act : (r s : Result Act ItemError) (a b : Act) → r ≡ Ok a → s ≡ Ok b → r ≡ s → a ≡ b
same_act r s a b e f h = cc

-- two items at the front are one, ask one thing, and have the same bytes behind them
pub one_item : (c : Client) (p : Phase) (i j m n : List ℕ) (a b : Act) → i ++ m ≡ j ++ n → IsItem c p i a → IsItem c p j b → (i ≡ j) × (a ≡ b) × (m ≡ n)
one_item c p i j m n a b e is are =
    let at = subst (λ (z : List ℕ). Cuts p z (whole_item (length j))) (sym e) (item_at c p j n b are) in
    let len : length i ≡ length j = same_len (length i) (length j) (one_cut p (i ++ m) (whole_item (length i)) (whole_item (length j)) (item_at c p i m a is) at) in
    let same : i ≡ j = sym (take-append_seam i m) ∙ (ap (take (length i)) e ∙ (ap (λ (k : ℕ). take k (j ++ n)) len ∙ take-append_seam j n)) in
    let behind : m ≡ n = sym (drop-append_seam i m) ∙ (ap (drop (length i)) e ∙ (ap (λ (k : ℕ). drop k (j ++ n)) len ∙ drop-append_seam j n)) in
    let means = subst (λ (z : List ℕ). Means c p z (Ok a)) same is.1 in
    (same, same_act (Ok a) (Ok b) a b refl refl (one_meaning c p j (Ok a) (Ok b) tt tt means are.1), behind)

-- ---- the items of a stream

one_go : (is js : List (List ℕ)) (c : Client) (p : Phase) (xs ys : List Act) (q r : List ℕ) (x y : Stop) → joined is ++ q ≡ joined js ++ r → AreItems c p is xs → AreItems c p js ys
    → Remains c (phase_after c p is) q x → Remains c (phase_after c p js) r y → (is ≡ js) × (xs ≡ ys) × (q ≡ r) × (x ≡ y)
one_go [] [] c p xs ys q r x y e a b h k = (refl, a ∙ sym b, e, one_rest c p r x y (subst (λ (z : List ℕ). Remains c p z x) e h) k)
one_go [] (j ∷ js) c p xs ys q r x y e a b h k = absurd (item_rest c p q j (joined js ++ r) b.0 x (e ∙ append_assoc j (joined js) r) b.3 h)
one_go (i ∷ is) [] c p xs ys q r x y e a b h k = absurd (item_rest c p r i (joined is ++ q) a.0 y (sym e ∙ append_assoc i (joined is) q) a.3 k)
one_go (i ∷ is) (j ∷ js) c p xs ys q r x y e a b h k =
    let one = one_item c p i j (joined is ++ q) (joined js ++ r) a.0 b.0 (sym (append_assoc i (joined is) q) ∙ (e ∙ append_assoc j (joined js) r)) a.3 b.3 in
    let due : next_phase c p i ≡ next_phase c p j = ap (next_phase c p) one.0 in
    let items = subst (λ (z : Phase). AreItems c z is a.1) due a.4 in
    let remains = subst (λ (z : Phase). Remains c (phase_after c z is) q x) due h in
    let more = one_go is js c (next_phase c p j) a.1 b.1 q r x y one.2 items b.4 remains k in (
      ap (λ (z : List ℕ). z ∷ is) one.0 ∙ ap (λ (z : List (List ℕ)). j ∷ z) more.0,
      a.2 ∙ (ap (λ (z : Act). z ∷ a.1) one.1 ∙ (ap (λ (z : List Act). b.0 ∷ z) more.1 ∙ sym b.2)),
      more.2,
      more.3,
    )

pub are_one : AreOne
are_one c p stream is js xs ys q r x y a b = one_go is js c p xs ys q r x y (sym a.bytes ∙ b.bytes) a.each b.each a.remains b.remains
