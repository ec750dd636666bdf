-- What stands ahead of a slash in a path is a path.
use Rattle.std.proofs.Common.{◌≡◌, ℕ, ◌-◌, ◌<◌, ◌≤◌, suc, List, [], ◌∷◌, ◌++◌, length, take, drop, get_or, Bool, true, false, not, ◌&&◌, leb, cond, Option, Some, None, refl, sym, ap, ◌∙◌, arith, length-take, drop-cons}
use Rattle.std.proofs.lemmas.Bool.Decides.{nat_tests}
use Rattle.std.proofs.lemmas.List.{take-append-drop}
use Rattle.std.specs.List.{suffix_len}
use Rattle.portal_base.specs.declared.names.path_reader.Part.{Part}
use Rattle.portal_base.specs.declared.names.path_reader.Part.TheVariants.{Unread, Root, Empty, Dot, Dots, Named}
use Rattle.portal_base.specs.declared.names.path_reader.Next.{Next}
use Rattle.portal_base.specs.declared.names.path_reader.Next.TheVariants.{Lead, Last, TwoMore, ThreeMore, AfterE0, AfterEd, AfterF0, AfterF4}
use Rattle.portal_base.specs.Names.{has_path_form, path_limit, is_host_path, is_same, is_slash, root, parent_of}
use Rattle.portal_base.specs.PathReading.{part_after, next_after}
use Rattle.portal_base.proofs.PathParts.{if_any, part_takes}
use Rattle.portal_base.proofs.PathText.{text_takes}
use Rattle.portal_base.proofs.PathBreaks.{nothing_read, is_unread, never_unread}

part_step : (bs more : List ℕ) → ((t : Part) → is_unread t ≡ false → part_takes t more ≡ true → part_takes t bs ≡ true) → (o : Option Part) → if_any is_unread o ≡ false
    → if_any (λ t. part_takes t more) o ≡ true → if_any (λ t. part_takes t bs) o ≡ true
part_step bs more f None u h = absurd (cc)
part_step bs more f (Some t) u h = f t u h

part_front : (front rest : List ℕ) (s : Part) → is_unread s ≡ false → part_takes s (front ++ 47 ∷ rest) ≡ true → part_takes s front ≡ true
part_front [] rest Unread u h = absurd (cc)
part_front [] rest Root u h = absurd (cc)
part_front [] rest Empty u h = absurd (cc)
part_front [] rest Dot u h = absurd (cc)
part_front [] rest Dots u h = absurd (cc)
part_front [] rest Named u h = refl
part_front (b ∷ bs) rest s u h = part_step bs (bs ++ 47 ∷ rest) (λ t. part_front bs rest t) (part_after s b) (never_unread s b) h

text_step : (bs more : List ℕ) → ((m : Next) → text_takes m more ≡ true → text_takes m bs ≡ true) → (o : Option Next)
    → if_any (λ m. text_takes m more) o ≡ true → if_any (λ m. text_takes m bs) o ≡ true
text_step bs more f None h = absurd (cc)
text_step bs more f (Some m) h = f m h

text_front : (front rest : List ℕ) (n : Next) → text_takes n (front ++ 47 ∷ rest) ≡ true → text_takes n front ≡ true
text_front [] rest Lead h = refl
text_front [] rest Last h = absurd (cc)
text_front [] rest TwoMore h = absurd (cc)
text_front [] rest ThreeMore h = absurd (cc)
text_front [] rest AfterE0 h = absurd (cc)
text_front [] rest AfterEd h = absurd (cc)
text_front [] rest AfterF0 h = absurd (cc)
text_front [] rest AfterF4 h = absurd (cc)
text_front (b ∷ bs) rest n h = text_step bs (bs ++ 47 ∷ rest) (λ m. text_front bs rest m) (next_after n b) h

both : (x y : Bool) → (x && y) ≡ true → (x ≡ true) × (y ≡ true)
both true y e = (refl, e)
both false y e = absurd (cc)

form_front : (b : ℕ) (bs rest : List ℕ) → has_path_form ((b ∷ bs) ++ 47 ∷ rest) ≡ true → has_path_form (b ∷ bs) ≡ true
form_front b bs rest h =
    let w = both (text_takes Lead ((b ∷ bs) ++ 47 ∷ rest)) (part_takes Unread ((b ∷ bs) ++ 47 ∷ rest)) (sym (nothing_read ((b ∷ bs) ++ 47 ∷ rest)) ∙ h) in
    let t : text_takes Lead (b ∷ bs) ≡ true = text_front (b ∷ bs) rest Lead w.0 in
    let p : part_takes Unread (b ∷ bs) ≡ true = part_step bs (bs ++ 47 ∷ rest) (λ t. part_front bs rest t) (part_after Unread b) (never_unread Unread b) w.1 in
    nothing_read (b ∷ bs) ∙ (λ i. t i && p i)

front_is : (front rest : List ℕ) → 1 ≤ length front → has_path_form (front ++ 47 ∷ rest) ≡ true → has_path_form front ≡ true
front_is [] rest l h = absurd (omega arith)
front_is (b ∷ bs) rest l h = form_front b bs rest h

pub root_path : is_host_path root ≡ true
unfolding is_host_path
root_path = ap (λ (x : Bool). x && true) (nothing_read root)

module _ (t : List ℕ) (k : ℕ) (fits : k ≤ length t) (past : 2 ≤ k) (slash : get_or t (k - 1) 0 ≡ 47) where
  cut : t ≡ take (k - 1) t ++ (47 ∷ drop k t)
  cut =
      let j : ℕ = k - 1 in
      let l : j < length t = omega arith in
      let e : suc j ≡ k = omega arith in
      sym (take-append-drop j t) ∙ ap (λ (x : List ℕ). take j t ++ x) (drop-cons t j 0 l ∙ (λ i. slash i ∷ drop (e i) t))

  pub ahead_path : is_host_path t ≡ true → is_host_path (take (k - 1) t) ≡ true
  unfolding is_host_path
  ahead_path h =
      let w = both (has_path_form t) (leb (length t) path_limit) h in
      let long : 1 ≤ length (take (k - 1) t) = omega (arith, length-take (k - 1) t) in
      let form : has_path_form (take (k - 1) t) ≡ true = front_is (take (k - 1) t) (drop k t) long (sym (ap has_path_form cut) ∙ w.0) in
      let short : leb (length (take (k - 1) t)) path_limit ≡ true = let m = w.1 in let n = length-take (k - 1) t in grind (arith, nat_tests) in
      λ i. form i && short i

empty_take : (xs : List ℕ) → length xs ≡ 0 → is_same xs [] ≡ true
empty_take [] e = refl
empty_take (x ∷ xs) e = absurd (omega arith)

some_take : (xs : List ℕ) → 1 ≤ length xs → is_same xs [] ≡ false
some_take [] e = absurd (omega arith)
some_take (x ∷ xs) e = refl

module _ (t : List ℕ) (k : ℕ) (fits : k ≤ length t) (place : k ≡ length t - suffix_len (λ b. not (is_slash b)) t) where
  pub root_parent : k ≤ 1 → root ≡ parent_of t
  unfolding parent_of
  root_parent l =
      let a : List ℕ = take (length t - suffix_len (λ b. not (is_slash b)) t - 1) t in
      let z : length a ≡ 0 = omega (arith, length-take (length t - suffix_len (λ b. not (is_slash b)) t - 1) t) in
      sym (ap (λ (x : Bool). cond x root a) (empty_take a z))

  pub ahead_parent : 2 ≤ k → take (k - 1) t ≡ parent_of t
  unfolding parent_of
  ahead_parent l =
      let a : List ℕ = take (length t - suffix_len (λ b. not (is_slash b)) t - 1) t in
      let z : 1 ≤ length a = omega (arith, length-take (length t - suffix_len (λ b. not (is_slash b)) t - 1) t) in
      ap (λ (n : ℕ). take (n - 1) t) place ∙ sym (ap (λ (x : Bool). cond x root a) (some_take a z))
