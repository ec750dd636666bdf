-- Messages at the front of bytes: the header says the same in each list that begins with it.
use Rattle.std.proofs.Common.{◌≡◌, ◌≢◌, ℕ, ◌+◌, ◌-◌, ◌≤◌, ◌<◌, Bool, true, false, List, ◌++◌, length, take, drop, eqb, cond, refl, sym, ap, ◌∙◌, subst, inl, inr, arith}
use Rattle.std.proofs.lemmas.Bool.{cases_lt}
use Rattle.std.proofs.lemmas.Bool.Decides.{nat_tests}
use Rattle.std.proofs.lemmas.List.{drop-take, get_or-take, length-append, length-take-le, take-append-le, take-take}
use Rattle.std.specs.Prelude.{slice_index, ◌==◌, ◌⊎◌}
use Rattle.std.specs.Int.{w32}
use Rattle.dbus_types.specs.declared.types.Endian.{Endian}
use Rattle.dbus_types.specs.declared.types.Endian.TheVariants.{Little, Big}
use Rattle.dbus_basic.specs.Fields.{from_number}
use Rattle.dbus_values.specs.Spells.{gap}
use Rattle.portal_base.specs.declared.split.Split.{Split}
use Rattle.portal_base.specs.declared.split.Split.TheVariants as S
use Rattle.dbus_message.specs.Header.{body_len, body_start, endian_of, fields_end, kind_of, number_at, serial_of, stated_len, version_of}
use Rattle.dbus_message.specs.Rules.{Checked, HasEndian, HasExplainedBody, HasFields, HasGoodFields, HasKind, HasNeededFields, HasSerial, HasSpelledBody, HasVersion, HasZeroPadding, IsFirstBroken, IsShort, IsWhole, KeepsHeader}
use Rattle.dbus_message.specs.Messages.{IsSplit}
use Rattle.dbus_message.proofs.ReadMessage.{one_first, past}

abbrev number_of_four : Endian → List ℕ → ℕ
number_of_four e four = from_number e w32 four

abbrev gap_after : ℕ → ℕ
gap_after n = gap 8 n

-- the four bytes at a place stand in the front
four_in : (n at : ℕ) (xs : List ℕ) → at + 4 ≤ n → take 4 (drop at (take n xs)) ≡ take 4 (drop at xs)
four_in n at xs h =
    let e : n ≡ at + (n - at) = omega (arith, h) in
    ap (λ (k : ℕ). take 4 (drop at (take k xs))) e ∙ (ap (take 4) (drop-take at (n - at) xs) ∙ take-take 4 (n - at) (drop at xs) (omega (arith, h)))

-- two lists that begin with the same header
module _ (xs ys : List ℕ) (same : take 16 xs ≡ take 16 ys) where
  byte_same : (i : ℕ) → i < 16 → slice_index xs i ≡ slice_index ys i
  byte_same i h = sym (get_or-take 16 xs i 0 h) ∙ (ap (λ (z : List ℕ). slice_index z i) same ∙ get_or-take 16 ys i 0 h)

  four_same : (at : ℕ) → at + 4 ≤ 16 → take 4 (drop at xs) ≡ take 4 (drop at ys)
  four_same at h = sym (four_in 16 at xs h) ∙ (ap (λ (z : List ℕ). take 4 (drop at z)) same ∙ four_in 16 at ys h)

  endian_same : endian_of xs ≡ endian_of ys
  endian_same = ap (λ (b : ℕ). cond (eqb b 66) Big Little) (byte_same 0 (omega arith))

  number_same : (at : ℕ) → at + 4 ≤ 16 → number_at (endian_of xs) xs at ≡ number_at (endian_of ys) ys at
  number_same at h = ap (λ (e : Endian). number_at e xs at) endian_same ∙ ap (λ (z : List ℕ). number_of_four (endian_of ys) z) (four_same at h)

  serial_same : serial_of xs ≡ serial_of ys
  serial_same = number_same 8 (omega arith)

  fields_end_same : fields_end xs ≡ fields_end ys
  fields_end_same = ap (λ (n : ℕ). 16 + n) (number_same 12 (omega arith))

  body_start_same : body_start xs ≡ body_start ys
  body_start_same = ap (λ (n : ℕ). n + gap_after n) fields_end_same

  pub stated_same : stated_len xs ≡ stated_len ys
  stated_same = ap (λ (n : ℕ). n + body_len xs) body_start_same ∙ ap (λ (n : ℕ). body_start ys + n) (number_same 4 (omega arith))

  -- the rules of the header
  pub keeps_same : KeepsHeader xs → KeepsHeader ys
  keeps_same h = (
    subst (λ (b : ℕ). (b ≡ 108) ⊎ (b ≡ 66)) (byte_same 0 (omega arith)) h.0,
    subst (λ (b : ℕ). b ≢ 0) (byte_same 1 (omega arith)) h.1,
    subst (λ (b : ℕ). b ≡ 1) (byte_same 3 (omega arith)) h.2,
    subst (λ (b : ℕ). b ≢ 0) serial_same h.3,
    subst (λ (n : ℕ). n ≤ 16_777_216) stated_same h.4,
  )

-- a message is at least as long as its header
stated_least : (xs : List ℕ) → 16 ≤ stated_len xs
stated_least xs = omega arith

-- ---- whole messages

pub front_within : (b : List ℕ) (n : ℕ) → IsSplit b (S.Whole n) → (16 ≤ n) × (n ≤ length b)
front_within b n h = (omega (arith, stated_least b, h.2), h.3)

pub front_alike : (b c : List ℕ) (n : ℕ) → IsSplit b (S.Whole n) → n ≤ length c → take n b ≡ take n c → IsSplit c (S.Whole n)
front_alike b c n h long same =
    let least = (front_within b n h).0 in
    let header : take 16 b ≡ take 16 c = sym (take-take 16 n b least) ∙ (ap (take 16) same ∙ take-take 16 n c least) in
    (omega (arith, least, long), keeps_same b c header h.1, h.2 ∙ stated_same b c header, long)

pub front_alone : (b : List ℕ) (n : ℕ) → IsSplit b (S.Whole n) → IsSplit (take n b) (S.Whole n)
front_alone b n h = front_alike b (take n b) n h (omega (arith, length-take-le n b h.3)) (sym (take-take n n b (omega arith)))

pub front_followed : (b more : List ℕ) (n : ℕ) → IsSplit b (S.Whole n) → IsSplit (b ++ more) (S.Whole n)
front_followed b more n h = front_alike b (b ++ more) n h (omega (arith, h.3, length-append b more)) (sym (take-append-le n b more h.3))

pub front_whole : (b : List ℕ) → IsSplit b (S.Whole (length b)) → IsWhole b
front_whole b h = (h.0, h.1, h.2)

pub whole_front : (b : List ℕ) → IsWhole b → IsSplit b (S.Whole (length b))
whole_front b h = (h.0, h.1, h.2, omega arith)

pub front_taken : (b : List ℕ) (n : ℕ) → IsSplit b (S.Whole n) → IsWhole (take n b)
front_taken b n h = front_whole (take n b) (subst (λ (k : ℕ). IsSplit (take n b) (S.Whole k)) (sym (length-take-le n b h.3)) (front_alone b n h))

-- ---- a header that breaks a rule

module _ (xs ys : List ℕ) (same : take 16 xs ≡ take 16 ys) where
  endian_kept : HasEndian xs → HasEndian ys
  endian_kept h = subst (λ (b : ℕ). (b ≡ 108) ⊎ (b ≡ 66)) (byte_same xs ys same 0 (omega arith)) h

  kind_kept : HasKind xs → HasKind ys
  kind_kept h = subst (λ (b : ℕ). b ≢ 0) (byte_same xs ys same 1 (omega arith)) h

  version_kept : HasVersion xs → HasVersion ys
  version_kept h = subst (λ (b : ℕ). b ≡ 1) (byte_same xs ys same 3 (omega arith)) h

  serial_kept : HasSerial xs → HasSerial ys
  serial_kept h = subst (λ (b : ℕ). b ≢ 0) (serial_same xs ys same) h

  short_kept : IsShort xs → IsShort ys
  short_kept h = subst (λ (n : ℕ). n ≤ 16_777_216) (stated_same xs ys same) h

-- the first rule that is broken is this one, or a later one
at_least : {R L : Type 0} {n rule : ℕ} → 6 ≤ n → Checked R n rule L → (L → 6 ≤ rule) → 6 ≤ rule
at_least le (inl x) f = omega (arith, le, x.0)
at_least le (inr y) f = f y.1

-- what is checked behind the header
abbrev Later : List ℕ → ℕ → Type 0
Later b rule = Checked (HasFields b) 6 rule (Checked (HasGoodFields b) 7 rule (Checked (HasNeededFields b) 8 rule (Checked (HasZeroPadding b) 9 rule (Checked (HasSpelledBody b) 10 rule (Checked (HasExplainedBody b) 11 rule ⊥)))))

later_least : (b : List ℕ) (rule : ℕ) → Later b rule → 6 ≤ rule
later_least b rule later = at_least (omega arith) later (λ p. at_least (omega arith) p (λ p. at_least (omega arith) p (λ p. at_least (omega arith) p (λ p. at_least (omega arith) p (λ p. at_least (omega arith) p (λ p. absurd p))))))

checked_same : {R S L M : Type 0} {n rule : ℕ} → (R → S) → (S → R) → (L → M) → Checked R n rule L → Checked S n rule M
checked_same f g h (inl x) = inl (x.0, λ s. x.1 (g s))
checked_same f g h (inr y) = inr (f y.0, h y.1)

broken_same : (xs ys : List ℕ) (rule : ℕ) → take 16 xs ≡ take 16 ys → rule ≤ 5 → IsFirstBroken xs rule → IsFirstBroken ys rule
broken_same xs ys rule same le broken =
    let back = sym same in
    checked_same (endian_kept xs ys same) (endian_kept ys xs back) (checked_same (kind_kept xs ys same) (kind_kept ys xs back)
    (checked_same (version_kept xs ys same) (version_kept ys xs back) (checked_same (serial_kept xs ys same) (serial_kept ys xs back)
    (checked_same {L = Later xs rule} {M = Later ys rule} (short_kept xs ys same) (short_kept ys xs back) (λ later. absurd (omega (arith, le, later_least xs rule later))))))) broken

pub bad_followed : (b more : List ℕ) (rule : ℕ) → IsSplit b (S.Bad rule) → IsSplit (b ++ more) (S.Bad rule)
bad_followed b more rule h = (omega (arith, h.0, length-append b more), h.1, broken_same b (b ++ more) rule (sym (take-append-le 16 b more h.0)) h.1 h.2)

-- ---- something stands at the front

abbrev Decided : Type 0 → Type 0
Decided R = R ⊎ (R → ⊥)

-- where a rule of the header holds, the others are looked at
check_on : {R H : Type 0} {n : ℕ} (L : ℕ → Type 0) → n ≤ 5 → Decided R → (R → H ⊎ ((rule : ℕ) × (rule ≤ 5) × L rule)) → H ⊎ ((rule : ℕ) × (rule ≤ 5) × Checked R n rule (L rule))
check_on {R = R} {H = H} {n = n} L le (inr fails) others = inr (n, le, inl (refl, fails))
check_on {R = R} {H = H} {n = n} L le (inl holds) others = check_then L holds (others holds)
  where
    check_then : (L : ℕ → Type 0) → R → H ⊎ ((rule : ℕ) × (rule ≤ 5) × L rule) → H ⊎ ((rule : ℕ) × (rule ≤ 5) × Checked R n rule (L rule))
    check_then L holds (inl h) = inl h
    check_then L holds (inr found) = inr (found.0, found.1, inr (holds, found.2))

equal_by : (a b : ℕ) (t : Bool) → (a == b) ≡ t → Decided (a ≡ b)
equal_by a b true e = inl (grind (arith, nat_tests))
equal_by a b false e = inr (λ h. grind (arith, nat_tests))

equal : (a b : ℕ) → Decided (a ≡ b)
equal a b = equal_by a b (a == b) refl

other : {R : Type 0} → Decided R → Decided (R → ⊥)
other (inl holds) = inr (λ fails. fails holds)
other (inr fails) = inl fails

either : {P Q : Type 0} → Decided P → Decided Q → Decided (P ⊎ Q)
either (inl p) q = inl (inl p)
either (inr p) (inl q) = inl (inr q)
either {P = P} {Q = Q} (inr p) (inr q) = inr (neither p q)
  where
    neither : (P → ⊥) → (Q → ⊥) → P ⊎ Q → ⊥
    neither p q (inl x) = p x
    neither p q (inr y) = q y

at_most : (a b : ℕ) → Decided (a ≤ b)
at_most a b = elim (cases_lt b a) as (λ _. Decided (a ≤ b)) [
  | inl lt ↦ inr (λ h. absurd (omega (arith, lt, h)))
  | inr le ↦ inl le
]

abbrev Headed : List ℕ → Type 0
Headed b = KeepsHeader b ⊎ ((rule : ℕ) × (rule ≤ 5) × IsFirstBroken b rule)

headed : (b : List ℕ) → Headed b
headed b =
    check_on (λ rule. Checked (HasKind b) 2 rule (Checked (HasVersion b) 3 rule (Checked (HasSerial b) 4 rule (Checked (IsShort b) 5 rule (Later b rule))))) (omega arith) (either (equal (slice_index b 0) 108) (equal (slice_index b 0) 66))
    (λ h1. check_on (λ rule. Checked (HasVersion b) 3 rule (Checked (HasSerial b) 4 rule (Checked (IsShort b) 5 rule (Later b rule)))) (omega arith) (other (equal (kind_of b) 0))
    (λ h2. check_on (λ rule. Checked (HasSerial b) 4 rule (Checked (IsShort b) 5 rule (Later b rule))) (omega arith) (equal (version_of b) 1)
    (λ h3. check_on (λ rule. Checked (IsShort b) 5 rule (Later b rule)) (omega arith) (other (equal (serial_of b) 0))
    (λ h4. check_on (λ rule. Later b rule) (omega arith) (at_most (stated_len b) 16_777_216)
    (λ h5. inl (h1, h2, h3, h4, h5))))))

front_headed : (b : List ℕ) → 16 ≤ length b → Headed b → (s : Split) × IsSplit b s
front_headed b long (inr broken) = (S.Bad broken.0, (long, broken.1, broken.2))
front_headed b long (inl keeps) = elim (cases_lt (length b) (stated_len b)) as (λ _. (s : Split) × IsSplit b s) [
  | inl lt ↦ (S.More, inr (long, keeps, lt))
  | inr le ↦ (S.Whole (stated_len b), (long, keeps, refl, le))
]

pub some_front : (b : List ℕ) → (s : Split) × IsSplit b s
some_front b = elim (cases_lt (length b) 16) as (λ _. (s : Split) × IsSplit b s) [
  | inl lt ↦ (S.More, inl lt)
  | inr le ↦ front_headed b le (headed b)
]

-- ---- one thing stands at the front

-- where the header keeps the rules, a later one is the first that is broken
later_rule : (b : List ℕ) (rule : ℕ) → KeepsHeader b → IsFirstBroken b rule → 6 ≤ rule
later_rule b rule keeps broken =
    let later = past (past (past (past (past broken keeps.0) keeps.1) keeps.2) keeps.3) keeps.4 in
    later_least b rule later

keeps_apart : (b : List ℕ) (rule : ℕ) → KeepsHeader b → rule ≤ 5 → IsFirstBroken b rule → ⊥
keeps_apart b rule keeps le broken = absurd (omega (arith, le, later_rule b rule keeps broken))

more_whole : (b : List ℕ) (n : ℕ) → IsSplit b S.More → IsSplit b (S.Whole n) → ⊥
more_whole b n (inl x) k = absurd (omega (arith, x, k.0))
more_whole b n (inr x) k = absurd (omega (arith, x.2, k.2, k.3))

more_bad : (b : List ℕ) (rule : ℕ) → IsSplit b S.More → IsSplit b (S.Bad rule) → ⊥
more_bad b rule (inl x) k = absurd (omega (arith, x, k.0))
more_bad b rule (inr x) k = keeps_apart b rule x.1 k.1 k.2

pub one_front : (b : List ℕ) (s t : Split) → IsSplit b s → IsSplit b t → s ≡ t
one_front b S.More S.More h k = refl
one_front b S.More (S.Whole n) h k = absurd (more_whole b n h k)
one_front b S.More (S.Bad rule) h k = absurd (more_bad b rule h k)
one_front b (S.Whole n) S.More h k = absurd (more_whole b n k h)
one_front b (S.Whole n) (S.Whole m) h k = ap S.Whole (h.2 ∙ sym k.2)
one_front b (S.Whole n) (S.Bad rule) h k = absurd (keeps_apart b rule h.1 k.1 k.2)
one_front b (S.Bad rule) S.More h k = absurd (more_bad b rule k h)
one_front b (S.Bad rule) (S.Whole n) h k = absurd (keeps_apart b rule k.1 h.1 h.2)
one_front b (S.Bad p) (S.Bad q) h k = ap S.Bad (one_first b p q h.2 k.2)
