-- What lies below a path, and where a file may be made.
use Rattle.std.proofs.Common.{◌≡◌, ℕ, List, [], ◌∷◌, Bool, true, false, ◌&&◌, ◌||◌, cond, refl, sym, ap, subst, ◌∙◌, ◌⊎◌, arith, ⊎_elim, inl, inr}
use Rattle.std.proofs.lemmas.Bool.Decides.{nat_tests}
use mathlib.Core.Bool.{true≢false}
use Rattle.std.specs.BTreeMap.Range.{entries_between}
use Rattle.std.specs.List.{list_any, AllByRecursion}
use Rattle.std.specs.List.Sorted.{IsStrictlySortedBy}
use Rattle.std.specs.Map.{keys_of}
use Rattle.std.specs.Ordering.{is_lt, ordering_then}
use Rattle.std.specs.declared.cmp.Ordering.{Ordering}
use Rattle.std.specs.declared.cmp.Ordering.TheVariants.{Less, Equal, Greater}
use Rattle.std.specs.declared.ops.Bound.TheVariants.{Excluded, Unbounded}
use Rattle.portal_base.specs.PathOrder.{path_order, byte_order}
use Rattle.portal_base.specs.Content.{is_above}
use Rattle.portal_base.specs.declared.files.File.{File}
use Rattle.portal_base.proofs.PathsAbove.{above-more, first-same, rest-below, slash-first, slash-is}
use Rattle.host_tree.specs.Stored.{files_of}
use Rattle.host_tree.specs.declared.files.Stored.{Stored}

-- ---- the order, and what lies below a path

tied-byte : (a b : ℕ) → byte_order a b ≡ Equal → a ≡ b
tied-byte a b e = grind (arith, nat_tests)

ahead-of-slash : (c : ℕ) → byte_order c 47 ≡ Less → ⊥
ahead-of-slash c e = grind (arith, nat_tests)

less-or-tied : (o p : Ordering) → ordering_then o p ≡ Less → (o ≡ Less) ⊎ ((o ≡ Equal) × (p ≡ Less))
less-or-tied Less p e = inl refl
less-or-tied Equal p e = inr (refl, e)
less-or-tied Greater p e = absurd (cc)

same-byte : (a b : ℕ) → a ≡ b → byte_order a b ≡ Equal
same-byte a b e = grind (arith, nat_tests)

ahead-and-behind : (a c : ℕ) → (byte_order c a ≡ Less) ⊎ (c ≡ a) → byte_order a c ≡ Less → ⊥
ahead-and-behind a c (inl h) e = grind (arith, nat_tests)
ahead-and-behind a c (inr h) e = grind (arith, nat_tests)

not-tied-and-behind : (a b c : ℕ) → a ≡ b → byte_order a c ≡ Equal → byte_order c b ≡ Less → ⊥
not-tied-and-behind a b c e f g = grind (arith, nat_tests)

-- of three paths in order, the second lies below the first where the third does
pub between-is-below : (p e y : List ℕ) → path_order p e ≡ Less → path_order e y ≡ Less → is_above p y ≡ true → is_above p e ≡ true
between-is-below [] [] y l m h = absurd (cc)
between-is-below [] (c ∷ cs) [] l m h = absurd (cc)
between-is-below [] (c ∷ cs) (b ∷ bs) l m h = ⊎_elim
    (λ n. absurd (ahead-of-slash c (subst (λ (x : ℕ). byte_order c x ≡ Less) (slash-first b bs h) n)))
    (λ n. slash-is c cs (tied-byte c b n.0 ∙ slash-first b bs h))
    (less-or-tied (byte_order c b) (path_order cs bs) m)
between-is-below (a ∷ ps) [] y l m h = absurd (cc)
between-is-below (a ∷ ps) (c ∷ cs) [] l m h = absurd (cc)
between-is-below (a ∷ ps) (c ∷ cs) (b ∷ bs) l m h =
    let ab : a ≡ b = first-same a b ps bs h in
    ⊎_elim
    (λ n. absurd (ahead-and-behind a c (⊎_elim (λ k. subst (λ (x : ℕ). (byte_order c x ≡ Less) ⊎ (c ≡ x)) (sym ab) (inl k)) (λ k. subst (λ (x : ℕ). (byte_order c x ≡ Less) ⊎ (c ≡ x)) (sym ab) (inr (tied-byte c b k.0))) (less-or-tied (byte_order c b) (path_order cs bs) m)) n))
    (λ n. ⊎_elim
    (λ k. absurd (not-tied-and-behind a b c ab n.0 k))
    (λ k. above-more a c ps cs (tied-byte a c n.0) (between-is-below ps cs bs n.1 k.1 (rest-below a b ps bs h)))
    (less-or-tied (byte_order c b) (path_order cs bs) m))
    (less-or-tied (byte_order a c) (path_order ps cs) l)

-- what lies below a path comes behind it
pub below-is-behind : (p y : List ℕ) → is_above p y ≡ true → path_order p y ≡ Less
below-is-behind [] [] h = absurd (cc)
below-is-behind [] (b ∷ bs) h = refl
below-is-behind (a ∷ ps) [] h = absurd (cc)
below-is-behind (a ∷ ps) (b ∷ bs) h = ap (λ (o : Ordering). ordering_then o (path_order ps bs)) (same-byte a b (first-same a b ps bs h)) ∙ below-is-behind ps bs (rest-below a b ps bs h)

-- ---- the first file behind a path

abbrev pub below-first : List ℕ → List (List ℕ × Stored) → Bool
below-first p [] = false
below-first p (e ∷ es) = is_above p e.0

is-not-less : (o : Ordering) → is_lt o ≡ false → o ≡ Less → ⊥
is-not-less Less h e = absurd (cc)
is-not-less Equal h e = absurd (cc)
is-not-less Greater h e = absurd (cc)

none-below : (p k : List ℕ) (es : List (List ℕ × Stored)) → path_order p k ≡ Less → is_above p k ≡ false → AllByRecursion (λ q. path_order k q ≡ Less) (keys_of es) → list_any (λ (f : File). is_above p f.path) (files_of es) ≡ false
none-below p k [] l h s = refl
none-below p k (e ∷ es) l h s = step (is_above p e.0) refl (none-below p k es l h s.1)
  where
    step : (b : Bool) → is_above p e.0 ≡ b → list_any (λ (f : File). is_above p f.path) (files_of es) ≡ false → (b || list_any (λ (f : File). is_above p f.path) (files_of es)) ≡ false
    step true d more = absurd (true≢false (sym (between-is-below p k e.0 l s.0 d) ∙ h))
    step false d more = more

-- whether a file lies below a path is seen at the first file behind it
pub seen-at-first : (p : List ℕ) (es : List (List ℕ × Stored)) → IsStrictlySortedBy path_order (keys_of es)
    → below-first p (entries_between path_order (Excluded p) Unbounded es) ≡ list_any (λ (f : File). is_above p f.path) (files_of es)
unfolding IsStrictlySortedBy
seen-at-first p [] s = refl
seen-at-first p (e ∷ es) s = step (path_order p e.0) refl (is_above p e.0) refl (seen-at-first p es s.1)
  where
    step : (o : Ordering) → path_order p e.0 ≡ o → (b : Bool) → is_above p e.0 ≡ b
        → below-first p (entries_between path_order (Excluded p) Unbounded es) ≡ list_any (λ (f : File). is_above p f.path) (files_of es)
        → below-first p (cond (is_lt o && true) (e ∷ entries_between path_order (Excluded p) Unbounded es) (entries_between path_order (Excluded p) Unbounded es)) ≡ (b || list_any (λ (f : File). is_above p f.path) (files_of es))
    step Less d true h more = h
    step Less d false h more = h ∙ sym (none-below p e.0 es d h s.0)
    step Equal d true h more = absurd (is-not-less Equal refl (sym d ∙ below-is-behind p e.0 h))
    step Equal d false h more = more
    step Greater d true h more = absurd (is-not-less Greater refl (sym d ∙ below-is-behind p e.0 h))
    step Greater d false h more = more
