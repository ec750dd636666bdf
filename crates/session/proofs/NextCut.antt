-- Where items are cut: what is whole lies within the bytes, stands at the front alone, and stays whole.
use Rattle.std.proofs.Common.{◌≡◌, inl, inr, ℕ, suc, ◌≤◌, ◌<◌, List, [], ◌∷◌, ◌++◌, length, take, Bool, true, false, cond, Option, Some, None, refl, sym, ap, ◌∙◌, subst, arith}
use Rattle.std.proofs.lemmas.Bool.Decides.{nat_tests}
use Rattle.std.proofs.lemmas.List.{get_or-take, length-append, length-take, length-take-le, take-append-le, take-take}
use Rattle.std.specs.Prelude.{slice_index, nat_eq, nat_lt, ◌==◌, ◌⊎◌}
use Rattle.std.specs.List.{starts_with}
use Rattle.std.specs.Option.{option_map}
use Rattle.std.specs.Cmp.Lexicographic.{pointwise}
use Rattle.dbus_auth.specs.Handshake.{Handshake}
use Rattle.dbus_auth.specs.Reply.{cr_lf}
use Rattle.dbus_message.specs.Messages.{IsSplit}
use Rattle.dbus_message.specs.Rules.{IsWhole}
use Rattle.dbus_message.proofs.Fronts.{front_alike, front_whole, front_within}
use Rattle.fuse_wire.specs.Frames.{header_of, is_bad_len, split_of}
use Rattle.portal_base.specs.declared.split.Split.{Split}
use Rattle.portal_base.specs.declared.split.Split.TheVariants as split
use Rattle.session.specs.declared.phase.Phase.{Phase}
use Rattle.session.specs.declared.phase.Phase.TheVariants as due
use Rattle.session.specs.declared.served.Stop.TheVariants as stop
use Rattle.session.specs.Cuts.{Cuts, cut_of, line_cut, line_cut_of, line_len, no_item, whole_item, zero_byte_cut}

-- ---- the zero byte

pub byte_cases : (b : Bool) (n : ℕ) → whole_item n ≡ cond b (whole_item 1) (no_item (stop.Bad 12)) → (b ≡ true) × (n ≡ 1)
byte_cases true n h = (refl, cc)
byte_cases false n h = absurd (cc)

byte_alone : (x : ℕ) → (x == 0) ≡ true → whole_item 1 ≡ zero_byte_cut (x ∷ [])
byte_alone x t = ap (λ (b : Bool). cond b (whole_item 1) (no_item (stop.Bad 12))) (sym t)

-- ---- lines

two_long : (b : List ℕ) → starts_with nat_eq b cr_lf ≡ true → 2 ≤ length b
two_long [] h = absurd (cc)
two_long (x ∷ []) h = grind (arith, nat_tests)
two_long (x ∷ y ∷ ys) h = omega arith

line_cases : (s : Bool) (o : Option ℕ) (n : ℕ) → cond s (Some 2) (option_map suc o) ≡ Some n → ((s ≡ true) × (n ≡ 2)) ⊎ ((m : ℕ) × (s ≡ false) × (o ≡ Some m) × (n ≡ suc m))
line_cases true o n h = inl (refl, cc)
line_cases false None n h = absurd (cc)
line_cases false (Some m) n h = inr (m, refl, refl, cc)

-- a line has its CR LF, and lies within the bytes
pub line_within : (b : List ℕ) (n : ℕ) → line_len b ≡ Some n → (2 ≤ n) × (n ≤ length b)
line_within [] n h = absurd (cc)
line_within (x ∷ xs) n h = elim (line_cases (starts_with nat_eq (x ∷ xs) cr_lf) (line_len xs) n h) as (λ _. (2 ≤ n) × (n ≤ length (x ∷ xs))) [
  | inl k ↦ let two = two_long (x ∷ xs) k.0 in let e = k.1 in (omega arith, omega arith)
  | inr k ↦ let more = line_within xs k.0 k.2 in let e = k.3 in (omega (arith, more.0, e), omega (arith, more.1, e))
]

-- whether CR LF stands at the front is told by two bytes
pub starts_is : (b c : List ℕ) → take 2 b ≡ take 2 c → starts_with nat_eq b cr_lf ≡ starts_with nat_eq c cr_lf
starts_is b c same = ap (λ (z : List ℕ). pointwise nat_eq cr_lf z) same

line_at : (s : Bool) (o : Option ℕ) → s ≡ true → cond s (Some 2) (option_map suc o) ≡ Some 2
line_at s o t = ap (λ (z : Bool). cond z (Some 2) (option_map suc o)) t

line_on : (s : Bool) (o : Option ℕ) (m : ℕ) → s ≡ false → o ≡ Some m → cond s (Some 2) (option_map suc o) ≡ Some (suc m)
line_on s o m f e = ap (λ (z : Bool). cond z (Some 2) (option_map suc o)) f ∙ ap (option_map suc) e

-- in a list that begins alike, the first line is as long
pub line_is : (b c : List ℕ) (n : ℕ) → line_len b ≡ Some n → take n b ≡ take n c → line_len c ≡ Some n
line_is [] c n h same = absurd (cc)
line_is (x ∷ xs) [] n h same =
    let l = line_within (x ∷ xs) n h in
    let e = ap length same in
    absurd (omega (arith, l.0, l.1, length-take n (x ∷ xs), length-take {A = ℕ} n [], e))
line_is (x ∷ xs) (y ∷ ys) n h same = elim (line_cases (starts_with nat_eq (x ∷ xs) cr_lf) (line_len xs) n h) as (λ _. line_len (y ∷ ys) ≡ Some n) [
  | inl k ↦
      let two : take 2 (x ∷ xs) ≡ take 2 (y ∷ ys) = ap (λ (z : ℕ). take z (x ∷ xs)) (sym k.1) ∙ (same ∙ ap (λ (z : ℕ). take z (y ∷ ys)) k.1) in
      line_at _ (line_len ys) (sym (starts_is (x ∷ xs) (y ∷ ys) two) ∙ k.0) ∙ ap Some (sym k.1)
  | inr k ↦
      let m = k.0 in
      let whole : x ∷ take m xs ≡ y ∷ take m ys = ap (λ (z : ℕ). take z (x ∷ xs)) (sym k.3) ∙ (same ∙ ap (λ (z : ℕ). take z (y ∷ ys)) k.3) in
      let tails : take m xs ≡ take m ys = cc in
      let least = line_within xs m k.2 in
      let two : take 2 (x ∷ xs) ≡ take 2 (y ∷ ys) = sym (take-take 2 (suc m) (x ∷ xs) (omega (arith, least.0))) ∙ (ap (take 2) whole ∙ take-take 2 (suc m) (y ∷ ys) (omega (arith, least.0))) in
      line_on _ (line_len ys) m (sym (starts_is (x ∷ xs) (y ∷ ys) two) ∙ k.1) (line_is xs ys m k.2 tails) ∙ ap Some (sym k.3)
]

line_cut_cases : (o : Option ℕ) (b : Bool) (n : ℕ) → whole_item n ≡ line_cut_of o b → o ≡ Some n
line_cut_cases None true n h = absurd (cc)
line_cut_cases None false n h = absurd (cc)
line_cut_cases (Some m) b n h = let e : m ≡ n = cc in ap Some e

pub line_found : (b : List ℕ) (n : ℕ) → whole_item n ≡ line_cut b → line_len (take 1024 b) ≡ Some n
line_found b n h = line_cut_cases (line_len (take 1024 b)) (nat_lt (length b) 1024) n h

pub line_short : (b : List ℕ) (n : ℕ) → whole_item n ≡ line_cut b → (2 ≤ n) × (n ≤ length b) × (n ≤ 1024)
line_short b n h =
    let l = line_within (take 1024 b) n (line_found b n h) in
    (l.0, omega (arith, l.1, length-take 1024 b), omega (arith, l.1, length-take 1024 b))

-- a line in a list that begins alike
line_cut_is : (b c : List ℕ) (n : ℕ) → whole_item n ≡ line_cut b → take n b ≡ take n c → whole_item n ≡ line_cut c
line_cut_is b c n h same =
    let short = line_short b n h in
    let f = line_found b n h in
    let e : take n (take 1024 b) ≡ take n (take 1024 c) = take-take n 1024 b short.2 ∙ (same ∙ sym (take-take n 1024 c short.2)) in
    ap (λ (o : Option ℕ). line_cut_of o (nat_lt (length c) 1024)) (sym (line_is (take 1024 b) (take 1024 c) n f e))

-- ---- messages

split_cases : (s : Split) (b : List ℕ) (n : ℕ) → IsSplit b s → whole_item n ≡ cut_of s → IsSplit b (split.Whole n)
split_cases split.More b n h e = absurd (cc)
split_cases (split.Whole m) b n h e = let same : m ≡ n = cc in subst (λ (z : ℕ). IsSplit b (split.Whole z)) same h
split_cases (split.Bad rule) b n h e = absurd (cc)

pub message_found : (b : List ℕ) (n : ℕ) → Cuts due.Messages b (whole_item n) → IsSplit b (split.Whole n)
message_found b n h = split_cases h.0 b n h.1 h.2

-- ---- frames

byte_in : (n i : ℕ) (xs : List ℕ) → i < n → slice_index (take n xs) i ≡ slice_index xs i
byte_in n i xs h = get_or-take n xs i 0 h

-- the length that a frame states, in its first four bytes
pub frame_len_is : (xs ys : List ℕ) → take 4 xs ≡ take 4 ys → (header_of xs).len ≡ (header_of ys).len
frame_len_is xs ys same =
    let b : (i : ℕ) → i < 4 → slice_index xs i ≡ slice_index ys i = λ i h. sym (byte_in 4 i xs h) ∙ (ap (λ (z : List ℕ). slice_index z i) same ∙ byte_in 4 i ys h) in
    let b0 = b 0 (omega arith) in
    let b1 = b 1 (omega arith) in
    let b2 = b 2 (omega arith) in
    let b3 = b 3 (omega arith) in
    rw (b0, b1, b2, b3) refl

frame_cases : (s t u : Bool) (len n : ℕ) → whole_item n ≡ cut_of (cond s split.More (cond t (split.Bad 14) (cond u split.More (split.Whole len)))) → (s ≡ false) × (t ≡ false) × (u ≡ false) × (n ≡ len)
frame_cases true t u len n h = absurd (cc)
frame_cases false true u len n h = absurd (cc)
frame_cases false false true len n h = absurd (cc)
frame_cases false false false len n h = (refl, refl, refl, cc)

frame_made : (s t u : Bool) (len : ℕ) → s ≡ false → t ≡ false → u ≡ false → whole_item len ≡ cut_of (cond s split.More (cond t (split.Bad 14) (cond u split.More (split.Whole len))))
frame_made s t u len f g h = rw (f, g, h) refl

-- a frame of n bytes: the length of a header is there, n is stated and allowed, and as many bytes are there
pub record IsFrame (b : List ℕ) (n : ℕ) : Type 0 where
  pub long : 40 ≤ length b
  pub good : is_bad_len n ≡ false
  pub there : n ≤ length b
  pub stated : n ≡ (header_of b).len

pub frame_found : (b : List ℕ) (n : ℕ) → whole_item n ≡ cut_of (split_of b) → IsFrame b n
frame_found b n h =
    let len = (header_of b).len in
    let k = frame_cases (nat_lt (length b) 40) (is_bad_len len) (nat_lt (length b) len) len n h in
    record {
      long = let x = k.0 in grind (arith, nat_tests);
      good = ap is_bad_len k.3 ∙ k.1;
      there = let x = k.2 in let y = k.3 in grind (arith, nat_tests);
      stated = k.3;
    }

frame_stands : (b : List ℕ) (n : ℕ) → IsFrame b n → whole_item n ≡ cut_of (split_of b)
frame_stands b n f =
    let len = (header_of b).len in
    let s : nat_lt (length b) 40 ≡ false = let x = f.long in grind (arith, nat_tests) in
    let t : is_bad_len len ≡ false = ap is_bad_len (sym f.stated) ∙ f.good in
    let u : nat_lt (length b) len ≡ false = let x = f.there in let y = f.stated in grind (arith, nat_tests) in
    ap whole_item f.stated ∙ frame_made (nat_lt (length b) 40) (is_bad_len len) (nat_lt (length b) len) len s t u

frame_long : (b : List ℕ) (n : ℕ) → IsFrame b n → 40 ≤ n
frame_long b n f = let x = f.good in grind (arith, nat_tests)

frame_is : (b c : List ℕ) (n : ℕ) → IsFrame b n → n ≤ length c → take n b ≡ take n c → IsFrame c n
frame_is b c n f long same =
    let least = frame_long b n f in
    let front : take 4 b ≡ take 4 c = sym (take-take 4 n b (omega arith)) ∙ (ap (take 4) same ∙ take-take 4 n c (omega arith)) in
    record { long = omega arith; good = f.good; there = long; stated = f.stated ∙ frame_len_is b c front }

-- ---- items

-- what is whole lies within the bytes
pub whole_within : (p : Phase) (b : List ℕ) (n : ℕ) → Cuts p b (whole_item n) → (1 ≤ n) × (n ≤ length b)
whole_within due.ZeroByte [] n h = absurd (cc)
whole_within due.ZeroByte (x ∷ xs) n h = let e = (byte_cases (x == 0) n h).1 in (omega arith, omega arith)
whole_within (due.Handshake a) b n h = let l = line_short b n h in (omega (arith, l.0), l.1)
whole_within due.Messages b n h = let m = front_within b n (message_found b n h) in (omega (arith, m.0), m.1)
whole_within due.Frames b n h = let f = frame_found b n h in (omega (arith, frame_long b n f), f.there)

-- what is whole is whole in each list that begins with it
pub whole_is : (p : Phase) (b c : List ℕ) (n : ℕ) → Cuts p b (whole_item n) → n ≤ length c → take n b ≡ take n c → Cuts p c (whole_item n)
whole_is due.ZeroByte [] c n h long same = absurd (cc)
whole_is due.ZeroByte (x ∷ xs) [] n h long same = let e = (byte_cases (x == 0) n h).1 in absurd (omega arith)
whole_is due.ZeroByte (x ∷ xs) (y ∷ ys) n h long same =
    let k = byte_cases (x == 0) n h in
    let one : x ∷ [] ≡ y ∷ [] = ap (λ (z : ℕ). take z (x ∷ xs)) (sym k.1) ∙ (same ∙ ap (λ (z : ℕ). take z (y ∷ ys)) k.1) in
    let e : x ≡ y = cc in
    ap whole_item k.1 ∙ ap (λ (b : Bool). cond b (whole_item 1) (no_item (stop.Bad 12))) (sym k.0 ∙ ap (λ (z : ℕ). z == 0) e)
whole_is (due.Handshake a) b c n h long same = line_cut_is b c n h same
whole_is due.Messages b c n h long same = (split.Whole n, front_alike b c n (message_found b n h) long same, refl)
whole_is due.Frames b c n h long same = frame_stands c n (frame_is b c n (frame_found b n h) long same)

-- what is whole stands at the front alone
pub whole_alone : (p : Phase) (b : List ℕ) (n : ℕ) → Cuts p b (whole_item n) → Cuts p (take n b) (whole_item (length (take n b)))
whole_alone p b n h =
    let w = whole_within p b n h in
    let l : length (take n b) ≡ n = length-take-le n b w.1 in
    subst (λ (z : ℕ). Cuts p (take n b) (whole_item z)) (sym l) (whole_is p b (take n b) n h (omega (arith, l)) (sym (take-take n n b (omega arith))))

-- what is whole stays so
pub whole_more : (p : Phase) (b more : List ℕ) (n : ℕ) → Cuts p b (whole_item n) → Cuts p (b ++ more) (whole_item n)
whole_more p b more n h =
    let w = whole_within p b n h in
    whole_is p b (b ++ more) n h (omega (arith, w.1, length-append b more)) (sym (take-append-le n b more w.1))

-- nothing is too few
pub nothing_cut : (p : Phase) → Cuts p [] (no_item stop.More)
nothing_cut due.ZeroByte = refl
nothing_cut (due.Handshake a) = refl
nothing_cut due.Messages = (split.More, inl (omega arith), refl)
nothing_cut due.Frames = refl

-- ---- what the readers of items want

pub message_whole : (b : List ℕ) → Cuts due.Messages b (whole_item (length b)) → IsWhole b
message_whole b h = front_whole b (message_found b (length b) h)

split_found : (s : Split) (n : ℕ) → whole_item n ≡ cut_of s → s ≡ split.Whole n
split_found split.More n e = absurd (cc)
split_found (split.Whole m) n e = let same : m ≡ n = cc in ap split.Whole same
split_found (split.Bad rule) n e = absurd (cc)

pub frame_whole : (b : List ℕ) → Cuts due.Frames b (whole_item (length b)) → split_of b ≡ split.Whole (length b)
frame_whole b h = split_found (split_of b) (length b) h

pub line_fits : (a : Handshake) (b : List ℕ) → Cuts (due.Handshake a) b (whole_item (length b)) → length b ≤ 1024
line_fits a b h = (line_short b (length b) h).2

-- a whole frame has a header
pub frame_headed : (b : List ℕ) → split_of b ≡ split.Whole (length b) → 40 ≤ length b
frame_headed b h = (frame_found b (length b) (ap cut_of (sym h))).long
