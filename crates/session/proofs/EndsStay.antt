-- What stays the same whatever follows: items that end in a broken rule, a line that is too long, or a request
-- that isn't built.
use Rattle.std.proofs.Common.{◌≡◌, inl, inr, ℕ, ◌≤◌, List, [], ◌∷◌, ◌++◌, length, take, Bool, true, false, cond, Option, Some, None, Err, refl, sym, ap, ◌∙◌, subst, arith}
use Rattle.std.proofs.lemmas.Bool.Decides.{nat_tests}
use Rattle.std.proofs.lemmas.List.{append_assoc, length-append, take-append-le}
use Rattle.std.specs.Prelude.{nat_lt, ◌==◌}
use Rattle.dbus_message.specs.Messages.{IsSplit}
use Rattle.dbus_message.proofs.Fronts.{bad_followed}
use Rattle.fuse_wire.specs.Frames.{header_of, is_bad_len, split_of}
use Rattle.portal_base.specs.declared.split.Split.{Split}
use Rattle.portal_base.specs.declared.split.Split.TheVariants as split
use Rattle.session.specs.declared.act.Client.{Client}
use Rattle.session.specs.declared.act.ItemError.{ItemError}
use Rattle.session.specs.declared.act.ItemError.TheVariants.{Breaks}
use Rattle.session.specs.declared.phase.Phase.{Phase}
use Rattle.session.specs.declared.phase.Phase.TheVariants as due
use Rattle.session.specs.declared.served.Stop.{Stop}
use Rattle.session.specs.declared.served.Stop.TheVariants as stop
use Rattle.session.specs.Asked.{Means}
use Rattle.session.specs.Cuts.{Cuts, cut_of, line_cut, line_cut_of, line_len, no_item, whole_item, zero_byte_cut}
use Rattle.session.specs.Items.{AsksNothing, Remains, joined, phase_after}
use Rattle.session.specs.Laws.{EndsStay, IsOver}
use Rattle.session.proofs.NextCut.{frame_len_is, whole_more, whole_within}

-- ---- a front that breaks a rule

bad_byte : (b more : List ℕ) (rule : ℕ) → no_item (stop.Bad rule) ≡ zero_byte_cut b → no_item (stop.Bad rule) ≡ zero_byte_cut (b ++ more)
bad_byte [] more rule h = absurd (cc)
bad_byte (x ∷ xs) more rule h = h

no_bad_line : (o : Option ℕ) (t : Bool) (rule : ℕ) → no_item (stop.Bad rule) ≡ line_cut_of o t → ⊥
no_bad_line None true rule h = absurd (cc)
no_bad_line None false rule h = absurd (cc)
no_bad_line (Some len) t rule h = absurd (cc)

bad_message : (s : Split) (b more : List ℕ) (rule : ℕ) → IsSplit b s → no_item (stop.Bad rule) ≡ cut_of s → Cuts due.Messages (b ++ more) (no_item (stop.Bad rule))
bad_message split.More b more rule h e = absurd (cc)
bad_message (split.Whole len) b more rule h e = absurd (cc)
bad_message (split.Bad found) b more rule h e = (split.Bad found, bad_followed b more found h, e)

frame_bad_cases : (s t u : Bool) (len rule : ℕ) → no_item (stop.Bad rule) ≡ cut_of (cond s split.More (cond t (split.Bad 14) (cond u split.More (split.Whole len)))) → (s ≡ false) × (t ≡ true) × (rule ≡ 14)
frame_bad_cases true t u len rule h = absurd (cc)
frame_bad_cases false true u len rule h = (refl, refl, cc)
frame_bad_cases false false true len rule h = absurd (cc)
frame_bad_cases false false false len rule h = absurd (cc)

frame_bad_made : (s t u : Bool) (len : ℕ) → s ≡ false → t ≡ true → no_item (stop.Bad 14) ≡ cut_of (cond s split.More (cond t (split.Bad 14) (cond u split.More (split.Whole len))))
frame_bad_made s t u len f g = rw (f, g) refl

bad_frame : (b more : List ℕ) (rule : ℕ) → no_item (stop.Bad rule) ≡ cut_of (split_of b) → no_item (stop.Bad rule) ≡ cut_of (split_of (b ++ more))
bad_frame b more rule h =
    let len = (header_of b).len in
    let k = frame_bad_cases (nat_lt (length b) 40) (is_bad_len len) (nat_lt (length b) len) len rule h in
    let long : 40 ≤ length b = let x = k.0 in grind (arith, nat_tests) in
    let longer = length-append b more in
    let headed : nat_lt (length (b ++ more)) 40 ≡ false = grind (arith, nat_tests) in
    let same : (header_of (b ++ more)).len ≡ len = frame_len_is (b ++ more) b (take-append-le 4 b more (omega (arith, long))) in
    let bad : is_bad_len (header_of (b ++ more)).len ≡ true = ap is_bad_len same ∙ k.1 in
    ap (λ (n : ℕ). no_item (stop.Bad n)) k.2 ∙ frame_bad_made (nat_lt (length (b ++ more)) 40) (is_bad_len (header_of (b ++ more)).len) (nat_lt (length (b ++ more)) (header_of (b ++ more)).len) (header_of (b ++ more)).len headed bad

bad_stays : (p : Phase) (b more : List ℕ) (rule : ℕ) → Cuts p b (no_item (stop.Bad rule)) → Cuts p (b ++ more) (no_item (stop.Bad rule))
bad_stays due.ZeroByte b more rule h = bad_byte b more rule h
bad_stays (due.Handshake a) b more rule h = absurd (no_bad_line (line_len (take 1024 b)) (nat_lt (length b) 1024) rule h)
bad_stays due.Messages b more rule h = bad_message h.0 b more rule h.1 h.2
bad_stays due.Frames b more rule h = bad_frame b more rule h

-- ---- a line that is too long

long_cases : (o : Option ℕ) (t : Bool) → no_item stop.TooLong ≡ line_cut_of o t → (o ≡ None) × (t ≡ false)
long_cases None true h = absurd (cc)
long_cases None false h = (refl, refl)
long_cases (Some len) t h = absurd (cc)

long_made : (o : Option ℕ) (t : Bool) → o ≡ None → t ≡ false → no_item stop.TooLong ≡ line_cut_of o t
long_made o t e f = rw (e, f) refl

long_line : (b more : List ℕ) → no_item stop.TooLong ≡ line_cut b → no_item stop.TooLong ≡ line_cut (b ++ more)
long_line b more h =
    let k = long_cases (line_len (take 1024 b)) (nat_lt (length b) 1024) h in
    let long : 1024 ≤ length b = let x = k.1 in grind (arith, nat_tests) in
    let longer = length-append b more in
    let headed : nat_lt (length (b ++ more)) 1024 ≡ false = grind (arith, nat_tests) in
    let same : line_len (take 1024 (b ++ more)) ≡ None = ap line_len (take-append-le 1024 b more long) ∙ k.0 in
    long_made (line_len (take 1024 (b ++ more))) (nat_lt (length (b ++ more)) 1024) same headed

no_long_byte : (b : List ℕ) → no_item stop.TooLong ≡ zero_byte_cut b → ⊥
no_long_byte [] h = absurd (cc)
no_long_byte (x ∷ xs) h = no_long_bit (x == 0) h
  where
    no_long_bit : (t : Bool) → no_item stop.TooLong ≡ cond t (whole_item 1) (no_item (stop.Bad 12)) → ⊥
    no_long_bit true h = absurd (cc)
    no_long_bit false h = absurd (cc)

no_long_split : (s : Split) → no_item stop.TooLong ≡ cut_of s → ⊥
no_long_split split.More h = absurd (cc)
no_long_split (split.Whole len) h = absurd (cc)
no_long_split (split.Bad rule) h = absurd (cc)

long_stays : (p : Phase) (b more : List ℕ) → Cuts p b (no_item stop.TooLong) → Cuts p (b ++ more) (no_item stop.TooLong)
long_stays due.ZeroByte b more h = absurd (no_long_byte b h)
long_stays (due.Handshake a) b more h = long_line b more h
long_stays due.Messages b more h = absurd (no_long_split h.0 h.2)
long_stays due.Frames b more h = absurd (no_long_split (split_of b) h)

-- ---- an item that asks nothing

nothing_stays : (c : Client) (p : Phase) (b more : List ℕ) (e : ItemError) → AsksNothing c p b e → AsksNothing c p (b ++ more) e
nothing_stays c p b more e (len, cuts, means) =
    let within = (whole_within p b len cuts).1 in
    (len, whole_more p b more len cuts, subst (λ (z : List ℕ). Means c p z (Err e)) (sym (take-append-le len b more within)) means)

pub rest_stays : (c : Client) (p : Phase) (b more : List ℕ) (what : Stop) → IsOver what → Remains c p b what → Remains c p (b ++ more) what
rest_stays c p b more stop.More over h = absurd over
rest_stays c p b more (stop.Bad rule) over (inl h) = inl (bad_stays p b more rule h)
rest_stays c p b more (stop.Bad rule) over (inr h) = inr (nothing_stays c p b more (Breaks rule) h)
rest_stays c p b more stop.TooLong over h = long_stays p b more h

pub ends_stay : EndsStay
ends_stay c p stream more items acts left what cut over = record {
  bytes = ap (λ (z : List ℕ). z ++ more) cut.bytes ∙ append_assoc (joined items) left more;
  each = cut.each;
  remains = rest_stays c (phase_after c p items) left more what over cut.remains;
}
