-- Where the name of an application breaks its rule.
use Rattle.std.proofs.Common.{◌≡◌, inl, inr, ℕ, ◌<◌, ◌≤◌, List, [], ◌∷◌, ◌++◌, length, take, get_or, Bool, true, false, not, ◌&&◌, ◌==◌, leb, refl, sym, ap, ◌∙◌, subst, arith}
use Rattle.std.proofs.lemmas.Bool.Decides.{nat_tests}
use Rattle.std.proofs.lemmas.List.{take_more, take_all}
use Rattle.std.proofs.lemmas.List.Folds.{list_all-append}
use Rattle.std.specs.List.{list_all}
use Rattle.portal_base.specs.Names.{is_name_byte, is_nothing_or_dots, has_app_form, app_limit, is_app_name, Begins, IsFirstBreak}

and_false : (x : Bool) → (x && false) ≡ false
and_false true = refl
and_false false = refl

not_dots : (p : List ℕ) → is_nothing_or_dots (p ++ 97 ∷ []) ≡ false
not_dots [] = refl
not_dots (x ∷ []) = and_false (x == 46)
not_dots (x ∷ y ∷ []) = refl
not_dots (x ∷ y ∷ z ∷ p) = refl

-- bytes of names begin a name
pub begins : (p : List ℕ) → list_all is_name_byte p ≡ true → Begins has_app_form p
begins p h =
    let all : list_all is_name_byte (p ++ 97 ∷ []) ≡ true = list_all-append is_name_byte p (97 ∷ []) ∙ (λ i. h i && true) in
    (97 ∷ [], λ i. all i && not (not_dots p i))

first_false : (x y z : Bool) → x ≡ false → ((x && y) && z) ≡ false
first_false true y z e = absurd (cc)
first_false false y z e = refl

-- another byte begins none
no_name : (p : List ℕ) (b : ℕ) → is_name_byte b ≡ false → Begins has_app_form (p ++ b ∷ []) → ⊥
no_name p b e g =
    let here : list_all is_name_byte (p ++ b ∷ []) ≡ false = list_all-append is_name_byte p (b ∷ []) ∙ ap (λ (x : Bool). list_all is_name_byte p && (x && true)) e ∙ and_false (list_all is_name_byte p) in
    let all = list_all-append is_name_byte (p ++ b ∷ []) g.0 in
    let no : has_app_form ((p ++ b ∷ []) ++ g.0) ≡ false = ap (λ (x : Bool). x && not (is_nothing_or_dots ((p ++ b ∷ []) ++ g.0))) all ∙ first_false (list_all is_name_byte (p ++ b ∷ [])) (list_all is_name_byte g.0) (not (is_nothing_or_dots ((p ++ b ∷ []) ++ g.0))) here in
    let wrong : true ≡ false = sym g.1 ∙ no in
    cc

module _ (t : List ℕ) (i : ℕ) (h : list_all is_name_byte (take i t) ≡ true) (l : i < length t) where
  pub too_long : i ≡ app_limit → IsFirstBreak has_app_form app_limit t i
  too_long e = record {
    inside = omega arith;
    within = omega arith;
    before = begins (take i t) h;
    here = inr (l, inl e);
  }

  pub wrong_byte : i ≤ app_limit → is_name_byte (get_or t i 0) ≡ false → IsFirstBreak has_app_form app_limit t i
  wrong_byte w e = record {
    inside = omega arith;
    within = w;
    before = begins (take i t) h;
    here = inr (l, inr (λ g. no_name (take i t) (get_or t i 0) e (subst (Begins has_app_form) (take_more t i 0 l) g)));
  }

module _ (t : List ℕ) (i : ℕ) (h : list_all is_name_byte (take i t) ≡ true) (all : length t ≤ i) (w : i ≤ app_limit) where
  of_all : list_all is_name_byte t ≡ true
  of_all = ap (list_all is_name_byte) (sym (take_all i t all)) ∙ h

  pub ends_early : is_nothing_or_dots t ≡ true → IsFirstBreak has_app_form app_limit t (length t)
  ends_early e = record {
    inside = omega arith;
    within = omega arith;
    before = subst (Begins has_app_form) (sym (take_all (length t) t (omega arith))) (begins t of_all);
    here = inl (refl, (λ j. of_all j && not (e j)));
  }

  pub is_name : is_nothing_or_dots t ≡ false → is_app_name t ≡ true
  unfolding is_app_name
  is_name e =
      let fits : leb (length t) app_limit ≡ true = grind (arith, nat_tests) in
      λ j. (of_all j && not (e j)) && fits j
