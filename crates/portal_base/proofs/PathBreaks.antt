-- Where a path breaks its rule.
use Rattle.std.proofs.Common.{◌≡◌, ◌⊎◌, inl, inr, ℕ, ◌+◌, ◌<◌, ◌≤◌, List, [], ◌∷◌, ◌++◌, length, take, get_or, Bool, true, false, not, cond, ◌&&◌, ◌||◌, ◌==◌, leb, Option, Some, None, refl, sym, ap, ◌∙◌, subst, arith, append_assoc}
use Rattle.std.proofs.lemmas.Bool.Decides.{nat_tests}
use Rattle.std.proofs.lemmas.List.{append-nil, take_more, take_all}
use Rattle.std.specs.Str.{is_utf8}
use Rattle.portal_base.specs.declared.names.path_reader.Part.{Part}
use Rattle.portal_base.specs.declared.names.path_reader.Part.TheVariants.{Unread, Root, Empty, Dot, Dots, Named}
use Rattle.portal_base.specs.declared.names.path_reader.Next.{Next}
use Rattle.portal_base.specs.declared.names.path_reader.Next.TheVariants.{Lead, Last, TwoMore, ThreeMore, AfterE0, AfterEd, AfterF0, AfterF4}
use Rattle.portal_base.specs.Names.{has_path_form, path_limit, is_host_path, Begins, IsFirstBreak}
use Rattle.portal_base.specs.PathReading.{after_slash, after_dot, after_other, part_after, is_whole_part, next_after, is_lead}
use Rattle.portal_base.proofs.PathParts.{if_any, part_takes, zeroless, slashed, parts_read}
use Rattle.portal_base.proofs.PathText.{text_takes, text_read}

-- whether the rest goes on well from here
abbrev pub takes : Next → Part → List ℕ → Bool
takes n s t = text_takes n t && part_takes s t

-- what is read leaves these two
abbrev pub HasRead : Next → Part → List ℕ → Type 0
HasRead n s front = (rest : List ℕ) → has_path_form (front ++ rest) ≡ takes n s rest

and_assoc : (x y z : Bool) → ((x && y) && z) ≡ (x && (y && z))
and_assoc true y z = refl
and_assoc false y z = refl

pub nothing_read : HasRead Lead Unread []
nothing_read rest = and_assoc (is_utf8 rest) (zeroless rest) (slashed rest) ∙ (λ i. sym (text_read rest) i && sym (parts_read rest) i)

module _ (n m : Next) (s t : Part) (front : List ℕ) (b : ℕ) where
  pub one_read : HasRead n s front → next_after n b ≡ Some m → part_after s b ≡ Some t → HasRead m t (front ++ b ∷ [])
  one_read h e f rest =
      ap has_path_form (append_assoc front (b ∷ []) rest) ∙ h (b ∷ rest)
      ∙ (λ i. if_any (λ k. text_takes k rest) (e i) && if_any (λ k. part_takes k rest) (f i))

module _ (n : Next) (s : Part) (front : List ℕ) (b : ℕ) (h : HasRead n s front) where
  goes_by : (rest : List ℕ) → has_path_form ((front ++ b ∷ []) ++ rest) ≡ takes n s (b ∷ rest)
  goes_by rest = ap has_path_form (append_assoc front (b ∷ []) rest) ∙ h (b ∷ rest)

  pub no_text : next_after n b ≡ None → Begins has_path_form (front ++ b ∷ []) → ⊥
  no_text e g =
      let no : takes n s (b ∷ g.0) ≡ false = λ i. if_any (λ k. text_takes k g.0) (e i) && part_takes s (b ∷ g.0) in
      let yes : has_path_form ((front ++ b ∷ []) ++ g.0) ≡ true = g.1 in
      let is : has_path_form ((front ++ b ∷ []) ++ g.0) ≡ takes n s (b ∷ g.0) = goes_by g.0 in
      let wrong : true ≡ false = sym yes ∙ is ∙ no in
      cc

  and_none : (x : Bool) → (x && false) ≡ false
  and_none true = refl
  and_none false = refl

  pub no_part : part_after s b ≡ None → Begins has_path_form (front ++ b ∷ []) → ⊥
  no_part e g =
      let no : takes n s (b ∷ g.0) ≡ false = ap (λ (o : Option Part). text_takes n (b ∷ g.0) && if_any (λ k. part_takes k g.0) o) e ∙ and_none (text_takes n (b ∷ g.0)) in
      let yes : has_path_form ((front ++ b ∷ []) ++ g.0) ≡ true = g.1 in
      let is : has_path_form ((front ++ b ∷ []) ++ g.0) ≡ takes n s (b ∷ g.0) = goes_by g.0 in
      let wrong : true ≡ false = sym yes ∙ is ∙ no in
      cc

-- ---- there is always a way to the end

abbrev pub is_unread : Part → Bool
is_unread Unread = true
is_unread Root = false
is_unread Empty = false
is_unread Dot = false
is_unread Dots = false
is_unread Named = false

-- no character is begun ahead of the first byte
abbrev pub is_live : Next → Part → Bool
is_live n s = not (is_unread s) || is_lead n

abbrev finish : Next → Part → List ℕ
finish Lead Unread = 47 ∷ []
finish Lead Root = []
finish Lead Empty = 97 ∷ []
finish Lead Dot = 97 ∷ []
finish Lead Dots = 97 ∷ []
finish Lead Named = []
finish Last s = 128 ∷ []
finish TwoMore s = 128 ∷ 128 ∷ []
finish ThreeMore s = 128 ∷ 128 ∷ 128 ∷ []
finish AfterE0 s = 160 ∷ 128 ∷ []
finish AfterEd s = 128 ∷ 128 ∷ []
finish AfterF0 s = 144 ∷ 128 ∷ 128 ∷ []
finish AfterF4 s = 128 ∷ 128 ∷ 128 ∷ []

tails : (n : Next) (s : Part) → is_unread s ≡ false → is_lead n ≡ false → takes n s (finish n s) ≡ true
tails Lead s e f = absurd (cc)
tails n Unread e f = absurd (cc)
tails Last Root e f = refl
tails Last Empty e f = refl
tails Last Dot e f = refl
tails Last Dots e f = refl
tails Last Named e f = refl
tails TwoMore Root e f = refl
tails TwoMore Empty e f = refl
tails TwoMore Dot e f = refl
tails TwoMore Dots e f = refl
tails TwoMore Named e f = refl
tails ThreeMore Root e f = refl
tails ThreeMore Empty e f = refl
tails ThreeMore Dot e f = refl
tails ThreeMore Dots e f = refl
tails ThreeMore Named e f = refl
tails AfterE0 Root e f = refl
tails AfterE0 Empty e f = refl
tails AfterE0 Dot e f = refl
tails AfterE0 Dots e f = refl
tails AfterE0 Named e f = refl
tails AfterEd Root e f = refl
tails AfterEd Empty e f = refl
tails AfterEd Dot e f = refl
tails AfterEd Dots e f = refl
tails AfterEd Named e f = refl
tails AfterF0 Root e f = refl
tails AfterF0 Empty e f = refl
tails AfterF0 Dot e f = refl
tails AfterF0 Dots e f = refl
tails AfterF0 Named e f = refl
tails AfterF4 Root e f = refl
tails AfterF4 Empty e f = refl
tails AfterF4 Dot e f = refl
tails AfterF4 Dots e f = refl
tails AfterF4 Named e f = refl

leads : (s : Part) → takes Lead s (finish Lead s) ≡ true
leads Unread = refl
leads Root = refl
leads Empty = refl
leads Dot = refl
leads Dots = refl
leads Named = refl

finishes : (n : Next) (s : Part) → is_live n s ≡ true → takes n s (finish n s) ≡ true
finishes Lead s h = leads s
finishes n Unread h = absurd (cc)
finishes Last s h = tails Last s refl refl
finishes TwoMore s h = tails TwoMore s refl refl
finishes ThreeMore s h = tails ThreeMore s refl refl
finishes AfterE0 s h = tails AfterE0 s refl refl
finishes AfterEd s h = tails AfterEd s refl refl
finishes AfterF0 s h = tails AfterF0 s refl refl
finishes AfterF4 s h = tails AfterF4 s refl refl

pub begins : (n : Next) (s : Part) (front : List ℕ) → is_live n s ≡ true → HasRead n s front → Begins has_path_form front
begins n s front l h = (finish n s, h (finish n s) ∙ finishes n s l)

pub never_unread : (s : Part) (b : ℕ) → if_any is_unread (part_after s b) ≡ false
never_unread s b = by s (b == 0) (b == 47) (b == 46)
  where
    by : (s : Part) (x y z : Bool) → if_any is_unread (cond x None (cond y (after_slash s) (cond z (after_dot s) (after_other s)))) ≡ false
    by s true y z = refl
    by Unread false true z = refl
    by Root false true z = refl
    by Empty false true z = refl
    by Dot false true z = refl
    by Dots false true z = refl
    by Named false true z = refl
    by Unread false false true = refl
    by Root false false true = refl
    by Empty false false true = refl
    by Dot false false true = refl
    by Dots false false true = refl
    by Named false false true = refl
    by Unread false false false = refl
    by Root false false false = refl
    by Empty false false false = refl
    by Dot false false false = refl
    by Dots false false false = refl
    by Named false false false = refl

pub stays_live : (s t : Part) (m : Next) (b : ℕ) → part_after s b ≡ Some t → is_live m t ≡ true
stays_live s t m b e =
    let begun : is_unread t ≡ false = sym (ap (if_any is_unread) e) ∙ never_unread s b in
    λ i. not (begun i) || is_lead m

-- ---- the break

module _ (n : Next) (s : Part) (t : List ℕ) (i : ℕ) (live : is_live n s ≡ true) (h : HasRead n s (take i t)) where
  pub too_long : i ≡ path_limit → i < length t → IsFirstBreak has_path_form path_limit t i
  too_long e l = record {
    inside = omega arith;
    within = omega arith;
    before = begins n s (take i t) live h;
    here = inr (l, inl e);
  }

  cut : i < length t → take (i + 1) t ≡ take i t ++ get_or t i 0 ∷ []
  cut l = take_more t i 0 l

  pub wrong_byte : i ≤ path_limit → i < length t → (next_after n (get_or t i 0) ≡ None) ⊎ (part_after s (get_or t i 0) ≡ None) → IsFirstBreak has_path_form path_limit t i
  wrong_byte w l dead = record {
    inside = omega arith;
    within = w;
    before = begins n s (take i t) live h;
    here = inr (l, inr (λ g. by dead (subst (Begins has_path_form) (cut l) g)));
  }
    where
      by : (next_after n (get_or t i 0) ≡ None) ⊎ (part_after s (get_or t i 0) ≡ None) → Begins has_path_form (take i t ++ get_or t i 0 ∷ []) → ⊥
      by (inl e) = no_text n s (take i t) (get_or t i 0) h e
      by (inr e) = no_part n s (take i t) (get_or t i 0) h e

module _ (n : Next) (s : Part) (t : List ℕ) (live : is_live n s ≡ true) (h : HasRead n s t) (short : length t ≤ path_limit) where
  form_is : has_path_form t ≡ (is_lead n && is_whole_part s)
  form_is = ap has_path_form (sym (append-nil t)) ∙ h []

  pub ends_early : (is_lead n && is_whole_part s) ≡ false → IsFirstBreak has_path_form path_limit t (length t)
  ends_early e = record {
    inside = omega arith;
    within = short;
    before = subst (Begins has_path_form) (sym (take_all (length t) t (omega arith))) (begins n s t live h);
    here = inl (refl, form_is ∙ e);
  }

  pub is_path : (is_lead n && is_whole_part s) ≡ true → is_host_path t ≡ true
  unfolding is_host_path
  is_path e =
      let fits : leb (length t) path_limit ≡ true = grind (arith, nat_tests) in
      λ i. (form_is ∙ e) i && fits i
