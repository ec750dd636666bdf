-- The first line, sought from the front.
use Rattle.std.proofs.Common.{◌≡◌, ℕ, zero, suc, ◌+◌, ◌-◌, ◌≤◌, ◌<◌, List, [], ◌∷◌, length, drop, take, get_or, Bool, true, false, cond, Option, Some, None, refl, sym, ap, ◌∙◌, subst, inl, inr, arith}
use Rattle.std.proofs.lemmas.Bool.{cases_Bool}
use Rattle.std.proofs.lemmas.Bool.Decides.{nat_tests}
use Rattle.std.proofs.lemmas.List.{drop_more, drop_all, take_all, take_min, take-take, length-drop, length-take, length-take-le}
use Rattle.std.proofs.lemmas.Slice.Eq.{bytes_eq-Decides}
use Rattle.std.specs.Prelude.{nat_eq, nat_lt, min}
use Rattle.std.specs.List.{starts_with}
use Rattle.std.specs.Option.{option_map}
use Rattle.dbus_auth.specs.Reply.{cr_lf}
use Rattle.memchr.specs.Find.{FindsNeedle, OccursAt}
use Rattle.memchr.proofs.lemmas.MatchLemmas.{OccursAt-part, OccursAt-from_part}
use Rattle.session.specs.declared.served.Stop.TheVariants as stop
use Rattle.session.specs.Cuts.{line_cut, line_cut_of, line_len, no_item}
use Rattle.session.proofs.NextCut.{starts_is}

-- the length of a line that is found this far behind the front
abbrev pub line_behind : ℕ → Option ℕ → Option ℕ
line_behind at found = option_map (λ n. n + at) found

behind_none : (o : Option ℕ) → o ≡ line_behind 0 o
behind_none None = refl
behind_none (Some n) = let e : n ≡ n + 0 = omega arith in ap Some e

behind_more : (o : Option ℕ) (i : ℕ) → line_behind i (option_map suc o) ≡ line_behind (i + 1) o
behind_more None i = refl
behind_more (Some n) i = let e : suc n + i ≡ n + (i + 1) = omega arith in ap Some e

line_here : (b : List ℕ) (x : ℕ) (xs : List ℕ) → b ≡ x ∷ xs → starts_with nat_eq b cr_lf ≡ true → line_len b ≡ Some 2
line_here b x xs e f = ap line_len e ∙ ap (λ (z : Bool). cond z (Some 2) (option_map suc (line_len xs))) (ap (λ (z : List ℕ). starts_with nat_eq z cr_lf) (sym e) ∙ f)

line_later : (b : List ℕ) (x : ℕ) (xs : List ℕ) → b ≡ x ∷ xs → starts_with nat_eq b cr_lf ≡ false → line_len b ≡ option_map suc (line_len xs)
line_later b x xs e f = ap line_len e ∙ ap (λ (z : Bool). cond z (Some 2) (option_map suc (line_len xs))) (ap (λ (z : List ℕ). starts_with nat_eq z cr_lf) (sym e) ∙ f)

-- CR LF stands here
found_here : (b : List ℕ) (i : ℕ) → i < length b → line_len b ≡ line_behind i (line_len (drop i b)) → starts_with nat_eq (drop i b) cr_lf ≡ true → Some (i + 2) ≡ line_len b
found_here b i h inv f =
    let e : 2 + i ≡ i + 2 = omega arith in
    sym (inv ∙ (ap (line_behind i) (line_here (drop i b) (get_or b i 0) (drop (i + 1) b) (drop_more b i 0 h) f) ∙ ap Some e))

-- and doesn't stand here
sought_on : (b : List ℕ) (i : ℕ) → i < length b → line_len b ≡ line_behind i (line_len (drop i b)) → starts_with nat_eq (drop i b) cr_lf ≡ false → line_len b ≡ line_behind (i + 1) (line_len (drop (i + 1) b))
sought_on b i h inv f =
    inv ∙ (ap (line_behind i) (line_later (drop i b) (get_or b i 0) (drop (i + 1) b) (drop_more b i 0 h) f) ∙ behind_more (line_len (drop (i + 1) b)) i)

-- nor anywhere
found_nowhere : (b : List ℕ) (i : ℕ) → length b ≤ i → line_len b ≡ line_behind i (line_len (drop i b)) → None ≡ line_len b
found_nowhere b i h inv = sym (inv ∙ ap (λ (z : List ℕ). line_behind i (line_len z)) (drop_all i b h))

-- ---- behind what was searched

behind_suc : (o : Option ℕ) (k : ℕ) → option_map suc (line_behind k o) ≡ line_behind (suc k) o
behind_suc None k = refl
behind_suc (Some n) k = let e : suc (n + k) ≡ n + suc k = omega arith in ap Some e

-- no line ends here, nor behind
none_here : (b : Bool) (o : Option ℕ) → cond b (Some 2) (option_map suc o) ≡ None → (b ≡ false) × (o ≡ None)
none_here true o h = absurd (cc)
none_here false None h = (refl, refl)
none_here false (Some n) h = absurd (cc)

-- where no line ends in the first bytes, it is sought from the last of them on
sought_past : (b : List ℕ) (k : ℕ) → line_len (take (suc k) b) ≡ None → line_len b ≡ line_behind k (line_len (drop k b))
sought_past b zero h = behind_none (line_len b)
sought_past [] (suc k) h = refl
sought_past (x ∷ xs) (suc k) h =
    let none = none_here (starts_with nat_eq (x ∷ take (suc k) xs) cr_lf) (line_len (take (suc k) xs)) h in
    let two : take 2 (x ∷ xs) ≡ take 2 (x ∷ take (suc k) xs) = ap (λ (z : List ℕ). x ∷ z) (sym (take-take 1 (suc k) xs (omega arith))) in
    line_later (x ∷ xs) x xs refl (starts_is (x ∷ xs) (x ∷ take (suc k) xs) two ∙ none.0)
    ∙ (ap (option_map suc) (sought_past xs k none.1) ∙ behind_suc (line_len (drop k xs)) k)

-- how far from the front the search begins
pub sought_from : (b : List ℕ) (seen from : ℕ) → from ≡ seen - 1 → line_len (take seen b) ≡ None → line_len b ≡ line_behind from (line_len (drop from b))
sought_from b zero from e h = let none : from ≡ 0 = omega arith in subst (λ (n : ℕ). line_len b ≡ line_behind n (line_len (drop n b))) (sym none) (behind_none (line_len b))
sought_from b (suc k) from e h = let last : from ≡ k = omega arith in subst (λ (n : ℕ). line_len b ≡ line_behind n (line_len (drop n b))) (sym last) (sought_past b k h)

more_cut : (o : Option ℕ) (t : Bool) → no_item stop.More ≡ line_cut_of o t → (o ≡ None) × (t ≡ true)
more_cut None true h = (refl, refl)
more_cut None false h = absurd (cc)
more_cut (Some n) t h = absurd (cc)

-- in too few bytes for a line no line ends
pub too_few : (b : List ℕ) (seen : ℕ) → seen ≤ length b → no_item stop.More ≡ line_cut (take seen b) → (seen < 1024) × (line_len (take seen b) ≡ None)
too_few b seen w h =
    let more = more_cut (line_len (take 1024 (take seen b))) (nat_lt (length (take seen b)) 1024) h in
    let l : length (take seen b) ≡ seen = length-take-le seen b w in
    let t = more.1 in
    let short : length (take seen b) < 1024 = grind (arith, nat_tests) in
    (omega (arith, l, short), ap line_len (sym (take_all 1024 (take seen b) (omega (arith, short)))) ∙ more.0)

-- ---- where CR LF stands

-- whether the bytes from here on begin with CR LF is whether it occurs here
occurs : (b : List ℕ) (i : ℕ) → starts_with nat_eq (drop i b) cr_lf ≡ true → OccursAt b cr_lf i
occurs b i s =
    let part : take 2 (drop i b) ≡ cr_lf = sym ((bytes_eq-Decides cr_lf (take 2 (drop i b))).0 s) in
    let two : length (take 2 (drop i b)) ≡ 2 = ap length part in
    let fits : i + 2 ≤ length b = omega (arith, two, length-take 2 (drop i b), length-drop i b) in
    OccursAt-from_part b cr_lf i fits part

stands : (b : List ℕ) (i : ℕ) → OccursAt b cr_lf i → starts_with nat_eq (drop i b) cr_lf ≡ true
stands b i o = (bytes_eq-Decides cr_lf (take 2 (drop i b))).1 (sym (OccursAt-part b cr_lf i o))

misses : (b : List ℕ) (i : ℕ) → (OccursAt b cr_lf i → ⊥) → starts_with nat_eq (drop i b) cr_lf ≡ false
misses b i never = elim (cases_Bool (starts_with nat_eq (drop i b) cr_lf)) [ inl t ↦ absurd (never (occurs b i t)) | inr f ↦ f ]

-- CR LF occurs nowhere ahead of here
sought_to : (b : List ℕ) (k : ℕ) → k ≤ length b → ((i : ℕ) → i < k → OccursAt b cr_lf i → ⊥) → line_len b ≡ line_behind k (line_len (drop k b))
sought_to b zero h none = behind_none (line_len b)
sought_to b (suc k) h none =
    let next : k + 1 ≡ suc k = omega arith in
    let before = sought_to b k (omega (arith, h)) (λ i l. none i (omega (arith, l))) in
    subst (λ (n : ℕ). line_len b ≡ line_behind n (line_len (drop n b))) next (sought_on b k (omega (arith, h)) before (misses b k (none k (omega arith))))

-- the first line ends with the first CR LF
pub line_to_first : (b : List ℕ) (at : ℕ) → FindsNeedle b cr_lf 0 (Some at) → Some (at + 2) ≡ line_len b
line_to_first b at h =
    let fits : at + 2 ≤ length b = h.1.fits in
    found_here b at (omega (arith, fits)) (sought_to b at (omega (arith, fits)) (λ i l. h.0.before i (omega arith) l)) (stands b at h.1)

-- and without one there is no line
pub no_line_end : (b : List ℕ) → FindsNeedle b cr_lf 0 None → None ≡ line_len b
no_line_end b h = found_nowhere b (length b) (omega arith) (sought_to b (length b) (omega arith) (λ i l. h i (omega arith) (omega (arith, l))))

-- the same, sought behind the first bytes
pub line_past : (b part : List ℕ) (from at : ℕ) → line_len b ≡ line_behind from (line_len (drop from b)) → part ≡ drop from b → FindsNeedle part cr_lf 0 (Some at) → Some (from + at + 2) ≡ line_len b
line_past b part from at h is found =
    let first = line_to_first part at found in
    let e : at + 2 + from ≡ from + at + 2 = omega arith in
    sym (h ∙ (ap (line_behind from) (ap line_len (sym is) ∙ sym first) ∙ ap Some e))

pub no_line_past : (b part : List ℕ) (from : ℕ) → line_len b ≡ line_behind from (line_len (drop from b)) → part ≡ drop from b → FindsNeedle part cr_lf 0 None → None ≡ line_len b
no_line_past b part from h is found = sym (h ∙ ap (line_behind from) (ap line_len (sym is) ∙ sym (no_line_end part found)))

-- a line of at most 1,024 bytes, from the first line among as many
pub line_cut_found : (b : List ℕ) (r : ℕ) (o : Option ℕ) (t : Bool) → r ≡ min 1024 (length b) → o ≡ line_len (take r b) → t ≡ nat_lt (length b) 1024 → line_cut_of o t ≡ line_cut b
line_cut_found b r o t e found h =
    let same : take r b ≡ take 1024 b = ap (λ (z : ℕ). take z b) e ∙ take_min 1024 b in
    ap (λ (z : Bool). line_cut_of o z) h ∙ ap (λ (z : Option ℕ). line_cut_of z (nat_lt (length b) 1024)) (found ∙ ap line_len same)
