-- The parts of a path, read byte by byte.
use Rattle.std.proofs.Common.{◌≡◌, ℕ, List, [], ◌∷◌, Bool, true, false, not, cond, ◌&&◌, ◌||◌, ◌==◌, eqb, Option, Some, None, refl, sym, ap, ◌∙◌, subst, arith}
use Rattle.std.proofs.lemmas.Bool.Decides.{nat_tests}
use Rattle.std.specs.List.{list_all, slice_split, onto_first}
use Rattle.portal_base.specs.declared.names.path_reader.Part.{Part}
use Rattle.portal_base.specs.declared.names.path_reader.Part.TheVariants.{Unread, Root, Empty, Dot, Dots, Named}
use Rattle.portal_base.specs.Names.{is_same, is_slash, is_part, is_rooted, root, is_byte_of_path}
use Rattle.portal_base.specs.PathReading.{after_slash, after_dot, after_other, part_after, is_whole_part}

-- what is said of a part, where there is one
abbrev pub if_any : {S : Type 0} → (S → Bool) → Option S → Bool
if_any f None = false
if_any f (Some s) = f s

-- whether the rest of a path goes on well from here
abbrev pub part_takes : Part → List ℕ → Bool
part_takes s [] = is_whole_part s
part_takes s (b ∷ bs) = if_any (λ t. part_takes t bs) (part_after s b)

-- whether the rest of the part that is being read makes it a part
abbrev good : Part → List ℕ → Bool
good Unread q = false
good Root q = is_part q
good Empty q = is_part q
good Dot q = is_part (46 ∷ q)
good Dots q = is_part (46 ∷ 46 ∷ q)
good Named q = true

abbrev good_first : Part → List (List ℕ) → Bool
good_first s [] = false
good_first s (q ∷ qs) = good s q && list_all is_part qs

abbrev pub zeroless : List ℕ → Bool
zeroless t = list_all is_byte_of_path t

abbrev pub split : List ℕ → List (List ℕ)
split t = slice_split is_slash t

data Inner : Part → Type 0 where
  in_empty : Inner Empty
  in_dot : Inner Dot
  in_dots : Inner Dots
  in_named : Inner Named

-- ---- the sorts of bytes

data Sort (b : ℕ) : Type 0 where
  zeros : b ≡ 0 → Sort b
  slashes : b ≡ 47 → Sort b
  dots : b ≡ 46 → Sort b
  others : (b == 0) ≡ false → (b == 47) ≡ false → (b == 46) ≡ false → Sort b

same : (a b : ℕ) → eqb a b ≡ true → a ≡ b
same a b e = grind (arith, nat_tests)

sort : (b : ℕ) → Sort b
sort b = by (b == 0) (b == 47) (b == 46) refl refl refl
  where
    by : (x y z : Bool) → (b == 0) ≡ x → (b == 47) ≡ y → (b == 46) ≡ z → Sort b
    by true y z e f g = zeros (same b 0 e)
    by false true z e f g = slashes (same b 47 f)
    by false false true e f g = dots (same b 46 g)
    by false false false e f g = others e f g

and_false : (x : Bool) → (x && false) ≡ false
and_false true = refl
and_false false = refl

-- ---- there is a first part

split_some : (t : List ℕ) → (q : List ℕ) × (qs : List (List ℕ)) × (split t ≡ q ∷ qs)
split_some [] = ([], [], refl)
split_some (b ∷ bs) = by (is_slash b)
  where
    onto : (qs : List (List ℕ)) → (r : List ℕ) × (rs : List (List ℕ)) × (onto_first b qs ≡ r ∷ rs)
    onto [] = (b ∷ [], [], refl)
    onto (q ∷ qs) = (b ∷ q, qs, refl)

    by : (x : Bool) → (q : List ℕ) × (qs : List (List ℕ)) × (cond x ([] ∷ split bs) (onto_first b (split bs)) ≡ q ∷ qs)
    by true = ([], split bs, refl)
    by false = onto (split bs)

all_good : (qs : List (List ℕ)) (q : List ℕ) (rs : List (List ℕ)) → qs ≡ q ∷ rs → list_all is_part qs ≡ good_first Empty qs
all_good [] q rs e = absurd (cc)
all_good (p ∷ ps) q rs e = refl

all_good_split : (t : List ℕ) → list_all is_part (split t) ≡ good_first Empty (split t)
all_good_split t = let s = split_some t in all_good (split t) s.0 s.1 s.2

-- ---- a part that is begun

abbrev Goes : Part → List ℕ → Type 0
Goes s t = part_takes s t ≡ (zeroless t && good_first s (split t))

named_part : (b : ℕ) (q : List ℕ) → (b == 46) ≡ false → is_part (b ∷ q) ≡ true
named_part b [] e = λ i. not (e i)
named_part b (c ∷ []) e = λ i. not (e i && (c == 46))
named_part b (c ∷ d ∷ q) e = refl

named_after_dot : (b : ℕ) (q : List ℕ) → (b == 46) ≡ false → is_part (46 ∷ b ∷ q) ≡ true
named_after_dot b [] e = λ i. not (e i)
named_after_dot b (c ∷ q) e = refl

part_other : (s : Part) (b : ℕ) → (b == 0) ≡ false → (b == 47) ≡ false → (b == 46) ≡ false → part_after s b ≡ after_other s
part_other s b e f g = λ i. cond (e i) None (cond (f i) (after_slash s) (cond (g i) (after_dot s) (after_other s)))

zeroless_other : (b : ℕ) (bs : List ℕ) → (b == 0) ≡ false → zeroless (b ∷ bs) ≡ zeroless bs
zeroless_other b bs e = λ i. not (e i) && zeroless bs

split_other : (b : ℕ) (bs : List ℕ) → (b == 47) ≡ false → split (b ∷ bs) ≡ onto_first b (split bs)
split_other b bs e = λ i. cond (e i) ([] ∷ split bs) (onto_first b (split bs))

onto_dot : (s t : Part) → ((q : List ℕ) → good t q ≡ good s (46 ∷ q)) → (qs : List (List ℕ)) (p : List ℕ) (ps : List (List ℕ)) → qs ≡ p ∷ ps → good_first t qs ≡ good_first s (onto_first 46 qs)
onto_dot s t h [] p ps e = absurd (cc)
onto_dot s t h (q ∷ qs) p ps e = ap (λ (x : Bool). x && list_all is_part qs) (h q)

onto_other : (s : Part) (b : ℕ) → ((q : List ℕ) → good s (b ∷ q) ≡ true) → (qs : List (List ℕ)) (p : List ℕ) (ps : List (List ℕ)) → qs ≡ p ∷ ps → good_first Named qs ≡ good_first s (onto_first b qs)
onto_other s b h [] p ps e = absurd (cc)
onto_other s b h (q ∷ qs) p ps e = ap (λ (x : Bool). x && list_all is_part qs) (sym (h q))

-- one more dot, and the rest
dotted : (s t : Part) → ((q : List ℕ) → good t q ≡ good s (46 ∷ q)) → (bs : List ℕ) → Goes t bs → part_takes t bs ≡ (zeroless bs && good_first s (onto_first 46 (split bs)))
dotted s t h bs g = let some = split_some bs in g ∙ ap (λ (x : Bool). zeroless bs && x) (onto_dot s t h (split bs) some.0 some.1 some.2)

-- one more byte of another sort, and the rest
named : (s : Part) (b : ℕ) → ((q : List ℕ) → good s (b ∷ q) ≡ true) → (bs : List ℕ) → Goes Named bs → after_other s ≡ Some Named
    → (b == 0) ≡ false → (b == 47) ≡ false → (b == 46) ≡ false → Goes s (b ∷ bs)
named s b h bs g to e f k =
    let some = split_some bs in
    ap (if_any (λ t. part_takes t bs)) (part_other s b e f k ∙ to) ∙ g
    ∙ ap (λ (x : Bool). zeroless bs && x) (onto_other s b h (split bs) some.0 some.1 some.2)
    ∙ (λ i. sym (zeroless_other b bs e) i && good_first s (sym (split_other b bs f) i))

-- one more byte, where the rest is read well
step : (b : ℕ) (bs : List ℕ) → ((t : Part) → Inner t → Goes t bs) → (s : Part) → Inner s → Sort b → Goes s (b ∷ bs)
step b bs more s inner (zeros e) = subst (λ (x : ℕ). Goes s (x ∷ bs)) (sym e) refl
step b bs more s in_empty (slashes e) = subst (λ (x : ℕ). Goes Empty (x ∷ bs)) (sym e) (sym (and_false (zeroless bs)))
step b bs more s in_dot (slashes e) = subst (λ (x : ℕ). Goes Dot (x ∷ bs)) (sym e) (sym (and_false (zeroless bs)))
step b bs more s in_dots (slashes e) = subst (λ (x : ℕ). Goes Dots (x ∷ bs)) (sym e) (sym (and_false (zeroless bs)))
step b bs more s in_named (slashes e) = subst (λ (x : ℕ). Goes Named (x ∷ bs)) (sym e) (more Empty in_empty ∙ ap (λ (x : Bool). zeroless bs && x) (sym (all_good_split bs)))
step b bs more s in_empty (dots e) = subst (λ (x : ℕ). Goes Empty (x ∷ bs)) (sym e) (dotted Empty Dot (λ q. refl) bs (more Dot in_dot))
step b bs more s in_dot (dots e) = subst (λ (x : ℕ). Goes Dot (x ∷ bs)) (sym e) (dotted Dot Dots (λ q. refl) bs (more Dots in_dots))
step b bs more s in_dots (dots e) = subst (λ (x : ℕ). Goes Dots (x ∷ bs)) (sym e) (dotted Dots Named (λ q. refl) bs (more Named in_named))
step b bs more s in_named (dots e) = subst (λ (x : ℕ). Goes Named (x ∷ bs)) (sym e) (dotted Named Named (λ q. refl) bs (more Named in_named))
step b bs more s in_empty (others e f g) = named Empty b (λ q. named_part b q g) bs (more Named in_named) refl e f g
step b bs more s in_dot (others e f g) = named Dot b (λ q. named_after_dot b q g) bs (more Named in_named) refl e f g
step b bs more s in_dots (others e f g) = named Dots b (λ q. refl) bs (more Named in_named) refl e f g
step b bs more s in_named (others e f g) = named Named b (λ q. refl) bs (more Named in_named) refl e f g

goes : (s : Part) → Inner s → (t : List ℕ) → Goes s t
goes s in_empty [] = refl
goes s in_dot [] = refl
goes s in_dots [] = refl
goes s in_named [] = refl
goes s inner (b ∷ bs) = step b bs (λ t i. goes t i bs) s inner (sort b)

-- ---- a whole path

abbrev pub slashed : List ℕ → Bool
slashed t = is_same t root || is_rooted (split t)

rooted : (qs : List (List ℕ)) (q : List ℕ) (rs : List (List ℕ)) → qs ≡ q ∷ rs → is_rooted ([] ∷ qs) ≡ list_all is_part qs
rooted [] q rs e = absurd (cc)
rooted (p ∷ ps) q rs e = refl

not_rooted : (b : ℕ) (qs : List (List ℕ)) → is_rooted (onto_first b qs) ≡ false
not_rooted b [] = refl
not_rooted b (q ∷ []) = refl
not_rooted b (q ∷ r ∷ qs) = refl

behind_root : (bs : List ℕ) → part_takes Root bs ≡ (zeroless bs && (is_same bs [] || is_rooted ([] ∷ split bs)))
behind_root [] = refl
behind_root (c ∷ cs) =
    let some = split_some (c ∷ cs) in
    goes Empty in_empty (c ∷ cs) ∙ ap (λ (x : Bool). zeroless (c ∷ cs) && x) (sym (all_good_split (c ∷ cs)) ∙ sym (rooted (split (c ∷ cs)) some.0 some.1 some.2))

abbrev pub IsRead : List ℕ → Type 0
IsRead t = part_takes Unread t ≡ (zeroless t && slashed t)

-- the parts of a path are read as the rule says
pub parts_read : (t : List ℕ) → IsRead t
parts_read [] = refl
parts_read (b ∷ bs) = by (sort b)
  where
    by : Sort b → IsRead (b ∷ bs)
    by (zeros e) = subst (λ (x : ℕ). IsRead (x ∷ bs)) (sym e) refl
    by (slashes e) = subst (λ (x : ℕ). IsRead (x ∷ bs)) (sym e) (behind_root bs)
    by (dots e) = subst (λ (x : ℕ). IsRead (x ∷ bs)) (sym e) (sym (ap (λ (x : Bool). zeroless bs && x) (not_rooted 46 (split bs)) ∙ and_false (zeroless bs)))
    by (others e f g) =
        ap (if_any (λ t. part_takes t bs)) (part_other Unread b e f g)
        ∙ sym (and_false (zeroless (b ∷ bs)))
        ∙ ap (λ (x : Bool). zeroless (b ∷ bs) && x) (λ i. (sym f i && is_same bs []) || sym (ap is_rooted (split_other b bs f) ∙ not_rooted b (split bs)) i)
