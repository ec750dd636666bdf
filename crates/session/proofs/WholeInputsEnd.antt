-- Inputs of whole items are served to their end.
use Rattle.std.proofs.Common.{◌≡◌, inl, inr, ℕ, ◌≤◌, ◌<◌, List, [], ◌∷◌, ◌++◌, length, take, drop, Bool, true, false, cond, Option, Some, None, refl, sym, ap, ◌∙◌, subst, arith}
use Rattle.std.specs.Prelude.{◌==◌, ◌⊎◌, IfSome, nat_lt}
use Rattle.std.proofs.Math.Seq.{take-append_seam}
use Rattle.std.proofs.lemmas.Bool.Decides.{nat_tests}
use Rattle.std.proofs.lemmas.List.{append-nil, append_assoc, length-append, length-take, take-append-drop, take-append-le, take-take}
use Rattle.portal_base.specs.Outside.{HasRisen, behind}
use Rattle.portal_base.specs.declared.split.Split.TheVariants as split
use Rattle.dbus_message.specs.Messages.{IsSplit}
use Rattle.dbus_message.proofs.Fronts.{keeps_same, stated_same}
use Rattle.fuse_wire.specs.Frames.{header_of, is_bad_len, split_of}
use Rattle.session.specs.declared.act.Act.{Act}
use Rattle.session.specs.declared.act.Client.{Client}
use Rattle.session.specs.declared.phase.Phase.{Phase}
use Rattle.session.specs.declared.phase.Phase.TheVariants as due
use Rattle.session.specs.declared.served.Stop.{Stop}
use Rattle.session.specs.declared.served.Stop.TheVariants as stop
use Rattle.session.specs.declared.served.Served.{Served}
use Rattle.session.specs.declared.served.Served.TheVariants as served
use Rattle.session.specs.Connections.{EndsAs, Whole}
use Rattle.session.specs.Cuts.{Cuts, cut_of, first_phase, line_cut, line_cut_of, line_len, next_phase, no_item, whole_item, zero_byte_cut}
use Rattle.session.specs.Items.{AreItems, IsItem, Items, Remains, joined, phase_after}
use Rattle.session.specs.Laws.{StandsStill, WholeInputsEnd}
use Rattle.session.specs.Ledger.{World}
use Rattle.session.specs.Pumps.{Spring}
use Rattle.session.specs.Standings.{longest}
use Rattle.session.proofs.NextCut.{IsFrame, byte_cases, frame_found, frame_len_is, line_found, line_is, line_short, line_within, message_found, whole_within}
use Rattle.session.proofs.ItemsAreOne.{are_one, item_rest, one_item, one_rest}
use Rattle.session.proofs.AnswersAsked.{nothing}

-- ---- a proper front of an item is too few bytes

byte_front : (j left : List ℕ) → whole_item (length j) ≡ zero_byte_cut j → length left < length j → no_item stop.More ≡ zero_byte_cut left
byte_front [] left h short = absurd (omega (arith, short))
byte_front (x ∷ xs) [] h short = refl
byte_front (x ∷ xs) (y ∷ ys) h short = let e = (byte_cases (x == 0) (length (x ∷ xs)) h).1 in absurd (omega (arith, e, short))

no_line : (o : Option ℕ) (b : Bool) → ((k : ℕ) → o ≡ Some k → ⊥) → b ≡ true → no_item stop.More ≡ line_cut_of o b
no_line None true f t = refl
no_line None false f t = absurd (cc)
no_line (Some k) b f t = absurd (f k refl)

line_front : (j left : List ℕ) → whole_item (length j) ≡ line_cut j → length left < length j → left ≡ take (length left) j → no_item stop.More ≡ line_cut left
line_front j left h short same =
    let l = line_short j (length j) h in
    let none : (k : ℕ) → line_len (take 1024 left) ≡ Some k → ⊥ = λ k e.
    let w = line_within (take 1024 left) k e in
    let within : k ≤ length left = omega (arith, w.1, length-take 1024 left) in
    let small : k ≤ 1024 = omega (arith, w.1, length-take 1024 left) in
    let alike : take k left ≡ take k j = ap (take k) same ∙ take-take k (length left) j within in
    let fronts : take k (take 1024 left) ≡ take k (take 1024 j) = take-take k 1024 left small ∙ (alike ∙ sym (take-take k 1024 j small)) in
    let found : Some k ≡ Some (length j) = sym (line_is (take 1024 left) (take 1024 j) k e fronts) ∙ line_found j (length j) h in
    let is : k ≡ length j = cc in
    absurd (omega (arith, within, short, is)) in
    let few : nat_lt (length left) 1024 ≡ true = let m = l.2 in grind (arith, nat_tests) in
    no_line (line_len (take 1024 left)) (nat_lt (length left) 1024) none few

message_front : (b : Bool) (j left : List ℕ) → nat_lt (length left) 16 ≡ b → IsSplit j (split.Whole (length j)) → length left < length j → left ≡ take (length left) j → IsSplit left split.More
message_front true j left e h short same = inl (grind (arith, nat_tests))
message_front false j left e h short same =
    let long : 16 ≤ length left = grind (arith, nat_tests) in
    let header : take 16 j ≡ take 16 left = sym (ap (take 16) same ∙ take-take 16 (length left) j long) in
    inr (long, keeps_same j left header h.1, omega (arith, h.2, stated_same j left header, short))

frame_less : (s t u : Bool) (len : ℕ) → (s ≡ true) ⊎ ((t ≡ false) × (u ≡ true)) → no_item stop.More ≡ cut_of (cond s split.More (cond t (split.Bad 14) (cond u split.More (split.Whole len))))
frame_less true t u len h = refl
frame_less false false true len h = refl
frame_less false true u len (inl h) = absurd (cc)
frame_less false true u len (inr h) = let x = h.0 in absurd (cc)
frame_less false false false len (inl h) = absurd (cc)
frame_less false false false len (inr h) = let x = h.1 in absurd (cc)

frame_front : (b : Bool) (j left : List ℕ) → nat_lt (length left) 40 ≡ b → IsFrame j (length j) → length left < length j → left ≡ take (length left) j → no_item stop.More ≡ cut_of (split_of left)
frame_front true j left e f short same = frame_less (nat_lt (length left) 40) (is_bad_len (header_of left).len) (nat_lt (length left) (header_of left).len) (header_of left).len (inl e)
frame_front false j left e f short same =
    let long : 40 ≤ length left = grind (arith, nat_tests) in
    let four : take 4 left ≡ take 4 j = ap (take 4) same ∙ take-take 4 (length left) j (omega (arith, long)) in
    let len : (header_of left).len ≡ length j = frame_len_is left j four ∙ sym f.stated in
    let good : is_bad_len (header_of left).len ≡ false = ap is_bad_len len ∙ f.good in
    let less : nat_lt (length left) (header_of left).len ≡ true = grind (arith, nat_tests) in
    frame_less (nat_lt (length left) 40) (is_bad_len (header_of left).len) (nat_lt (length left) (header_of left).len) (header_of left).len (inr (good, less))

front_more : (p : Phase) (j left : List ℕ) → Cuts p j (whole_item (length j)) → length left < length j → left ≡ take (length left) j → Cuts p left (no_item stop.More)
front_more due.ZeroByte j left h short same = byte_front j left h short
front_more (due.Handshake a) j left h short same = line_front j left h short same
front_more due.Messages j left h short same = (split.More, message_front (nat_lt (length left) 16) j left refl (message_found j (length j) h) short same, refl)
front_more due.Frames j left h short same = frame_front (nat_lt (length left) 40) j left refl (frame_found j (length j) h) short same

-- ---- where an item comes, nothing else stands

-- the shorter of two fronts of one list
front_of : (left more j more' : List ℕ) → left ++ more ≡ j ++ more' → length left ≤ length j → left ≡ take (length left) j
front_of left more j more' e short = sym (take-append_seam left more) ∙ (ap (take (length left)) e ∙ take-append-le (length left) j more' short)

item_over_by : (b : Bool) (c : Client) (p : Phase) (left more j more' : List ℕ) (act : Act) (what : Stop) → nat_lt (length left) (length j) ≡ b → left ++ more ≡ j ++ more' → IsItem c p j act → Remains c p left what → what ≡ stop.More
item_over_by true c p left more j more' act what t e is h =
    let short : length left < length j = grind (arith, nat_tests) in
    one_rest c p left what stop.More h (front_more p j left is.0 short (front_of left more j more' e (omega (arith, short))))
item_over_by false c p left more j more' act what t e is h =
    let long : length j ≤ length left = grind (arith, nat_tests) in
    let front : j ≡ take (length j) left = front_of j more' left more (sym e) long in
    let whole : left ≡ j ++ drop (length j) left = sym (take-append-drop (length j) left) ∙ ap (λ (z : List ℕ). z ++ drop (length j) left) (sym front) in
    absurd (item_rest c p left j (drop (length j) left) act what whole is h)

item_over : (c : Client) (p : Phase) (left more j more' : List ℕ) (act : Act) (what : Stop) → left ++ more ≡ j ++ more' → IsItem c p j act → Remains c p left what → what ≡ stop.More
item_over c p left more j more' act what e is h = item_over_by (nat_lt (length left) (length j)) c p left more j more' act what refl e is h

nil_front : (left more : List ℕ) → left ++ more ≡ [] → left ≡ []
nil_front [] more h = refl
nil_front (x ∷ xs) more h = absurd (cc)

-- of an input of whole items, no front breaks a rule, has a line that is too long, or asks for what isn't built
breaks_nowhere : (is js : List (List ℕ)) (c : Client) (p : Phase) (xs ys : List Act) (left more : List ℕ) (what : Stop) → joined is ++ (left ++ more) ≡ joined js → AreItems c p is xs → AreItems c p js ys
    → Remains c (phase_after c p is) left what → what ≡ stop.More
breaks_nowhere [] [] c p xs ys left more what e a b h = one_rest c p [] what stop.More (subst (λ (z : List ℕ). Remains c p z what) (nil_front left more e) h) (nothing p)
breaks_nowhere [] (j ∷ js) c p xs ys left more what e a b h = item_over c p left more j (joined js) b.0 what e b.3 h
breaks_nowhere (i ∷ is) [] c p xs ys left more what e a b h =
    let w = whole_within p i (length i) a.3.0 in
    absurd (omega (arith, w.0, ap length e, length-append (i ++ joined is) (left ++ more), length-append i (joined is)))
breaks_nowhere (i ∷ is) (j ∷ js) c p xs ys left more what e a b h =
    let one = one_item c p i j (joined is ++ (left ++ more)) (joined js) a.0 b.0 (sym (append_assoc i (joined is) (left ++ more)) ∙ e) a.3 b.3 in
    let next : next_phase c p i ≡ next_phase c p j = ap (next_phase c p) one.0 in
    breaks_nowhere is js c (next_phase c p j) a.1 b.1 left more what one.2 (subst (λ (z : Phase). AreItems c z is a.1) next a.4) b.4 (subst (λ (z : Phase). Remains c (phase_after c z is) left what) next h)

-- ---- the ending

-- what was read is a front of what the source told
pub read_of : (stream read : List ℕ) (a b : Option (List ℕ)) → a ≡ Some stream → a ≡ behind read b → (more : List ℕ) × (b ≡ Some more) × (stream ≡ read ++ more)
read_of stream read a None e h = let never : Some stream ≡ None = sym e ∙ h in absurd (cc)
read_of stream read a (Some more) e h = let same : Some stream ≡ Some (read ++ more) = sym e ∙ h in (more, refl, cc)

never_risen : (old new : ℕ) → StandsStill old new → HasRisen old new → ⊥
never_risen old new s h = absurd (omega (arith, s.0, s.1, h))

module _ (c : Client) (a b : Spring) (v w : World) (stream more read : List ℕ) (items : List (List ℕ)) (acts : List Act) (told_items : Items c (first_phase c.kind) stream items acts [] stop.More) (parts : stream ≡ read ++ more) where
  stays_whole : (left : List ℕ) (what : Stop) → Whole c read left what v w → what ≡ stop.More
  stays_whole left what k =
      let bytes : joined k.all.items ++ (left ++ more) ≡ joined items = sym (append_assoc (joined k.all.items) left more) ∙ (ap (λ (z : List ℕ). z ++ more) (sym k.cut.bytes) ∙ (sym parts ∙ (told_items.bytes ∙ append-nil (joined items)))) in
      breaks_nowhere k.all.items items c (first_phase c.kind) k.all.acts acts left more what bytes k.cut.each told_items.each k.cut.remains

  whole_ending : (r : Served) → b.left ≡ Some more → length stream ≤ longest → StandsStill a.faults b.faults → StandsStill v.faults w.faults → StandsStill v.seated.refusals w.seated.refusals → EndsAs c r read a b v w
      → (r ≡ served.Ended) ⊎ (r ≡ served.Memory)
  whole_ending served.Ended told long s t u h = inl refl
  whole_ending (served.Cut n) told long s t u h =
      let none : more ≡ [] = subst (λ (o : Option (List ℕ)). IfSome o (λ left. left ≡ [])) told h.0 in
      let all : stream ≡ read = parts ∙ (ap (λ (z : List ℕ). read ++ z) none ∙ append-nil read) in
      let one = are_one c (first_phase c.kind) read items h.2.2.all.items acts h.2.2.all.acts [] h.2.0 stop.More stop.More (subst (λ (z : List ℕ). Items c (first_phase c.kind) z items acts [] stop.More) all told_items) h.2.2.cut in
      absurd (omega (arith, h.1, h.2.1, ap length one.2))
  whole_ending (served.Malformed at rule) told long s t u h = (let never : stop.Bad rule ≡ stop.More = stays_whole h.0 (stop.Bad rule) h.2 in absurd (cc))
  whole_ending (served.LineTooLong at) told long s t u h = (let never : stop.TooLong ≡ stop.More = stays_whole h.0 stop.TooLong h.2 in absurd (cc))
  whole_ending served.ReadFault told long s t u h = absurd (never_risen a.faults b.faults s h.0)
  whole_ending served.WriteFault told long s t u h = absurd (never_risen v.faults w.faults t h.0)
  whole_ending served.Spent told long s t u h = absurd (omega (arith, h.0, long, ap length parts, length-append read more))
  whole_ending (served.Full now limit) told long s t u h = absurd (omega (arith, u.0, u.1, h.1.desk.refusals))
  whole_ending served.Memory told long s t u h = inr refl

pub whole_inputs_end : WholeInputsEnd
whole_inputs_end c r a b v w stream items acts h told cut long s t u =
    let x = read_of stream h.0 a.left b.left told h.1 in
    whole_ending c a b v w stream x.0 h.0 items acts cut x.2 r x.1 long s t u h.3
