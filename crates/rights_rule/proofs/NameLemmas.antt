-- One more name of a list.
use Rattle.std.proofs.Common.{◌≡◌, ℕ, ◌+◌, ◌<◌, List, length, take, get_or, Bool, true, false, cond, ◌||◌, ◌&&◌, Some, None, refl, sym, ap, subst, ◌∙◌, arith}
use Rattle.std.proofs.lemmas.List.Folds.{list_any_more, list_all_more}
use Rattle.std.proofs.lemmas.Option.{slice_get_read}
use Rattle.portal_base.specs.Names.{is_same}
use Rattle.rights_rule.specs.Rights.{RightSet, union, read_name, write_name, grant_permissions_name, delete_name, is_right_name, right_named, rights_named, are_right_names, is_listed, IsFirstUnknown}

more-listed : (name : List ℕ) (names : List (List ℕ)) (i : ℕ) (t : List ℕ) → i < length names → t ≡ get_or names i t →
    is_listed name (take (i + 1) names) ≡ (is_listed name (take i names) || is_same t name)
more-listed name names i t h e =
    list_any_more (λ u. is_same u name) names i t h ∙ ap (λ (u : List ℕ). is_listed name (take i names) || is_same u name) (sym e)

pub more-rights : (names : List (List ℕ)) (i : ℕ) (t : List ℕ) → i < length names → t ≡ get_or names i t →
    union (rights_named (take i names)) (right_named t) ≡ rights_named (take (i + 1) names)
more-rights names i t h e = λ k. record {
  read = sym (more-listed read_name names i t h e) k;
  write = sym (more-listed write_name names i t h e) k;
  grant_permissions = sym (more-listed grant_permissions_name names i t h e) k;
  delete = sym (more-listed delete_name names i t h e) k;
}

pub more-known : (names : List (List ℕ)) (i : ℕ) (t : List ℕ) → i < length names → t ≡ get_or names i t →
    are_right_names (take i names) ≡ true → is_right_name t ≡ true → are_right_names (take (i + 1) names) ≡ true
more-known names i t h e k r =
    list_all_more is_right_name names i t h
    ∙ (ap (λ (u : List ℕ). are_right_names (take i names) && is_right_name u) (sym e) ∙ grind arith)

pub is-known : (b : Bool) (r s : RightSet) → cond b (Some r) None ≡ Some s → b ≡ true
is-known true r s e = refl
is-known false r s e = cc

pub is-right : (b : Bool) (r s : RightSet) → cond b (Some r) None ≡ Some s → r ≡ s
is-right true r s e = cc
is-right false r s e = cc

pub is-unknown : (b : Bool) (r : RightSet) → cond b (Some r) None ≡ None → b ≡ false
is-unknown true r e = cc
is-unknown false r e = refl

-- ---- a step of the loop, over what the calls of the body say

within : (items names : List (List ℕ)) (i : ℕ) → items ≡ names → i < length items → i < length names
within items names i e h = subst (λ (l : List (List ℕ)). i < length l) e h

stands : (items names : List (List ℕ)) (i : ℕ) (t b : List ℕ) → items ≡ names → t ≡ get_or items i t → b ≡ t → b ≡ get_or names i b
stands items names i t b e h s =
    subst (λ (x : List ℕ). x ≡ get_or names i x) (sym s) (subst (λ (l : List (List ℕ)). t ≡ get_or l i t) e h)

pub next-rights : (items names : List (List ℕ)) (i : ℕ) (t b : List ℕ) (before right after : RightSet) → items ≡ names → i < length items → t ≡ get_or items i t → b ≡ t →
    cond (is_right_name b) (Some (right_named b)) None ≡ Some right → before ≡ rights_named (take i names) → after ≡ union before right → after ≡ rights_named (take (i + 1) names)
next-rights items names i t b before right after e h g s r f u =
    u ∙ (ap (λ (x : RightSet). union x right) f
    ∙ (ap (λ (x : RightSet). union (rights_named (take i names)) x) (sym (is-right (is_right_name b) (right_named b) right r))
    ∙ more-rights names i b (within items names i e h) (stands items names i t b e g s)))

pub next-known : (items names : List (List ℕ)) (i : ℕ) (t b : List ℕ) (right : RightSet) → items ≡ names → i < length items → t ≡ get_or items i t → b ≡ t →
    cond (is_right_name b) (Some (right_named b)) None ≡ Some right → are_right_names (take i names) ≡ true → are_right_names (take (i + 1) names) ≡ true
next-known items names i t b right e h g s r k =
    more-known names i b (within items names i e h) (stands items names i t b e g s) k (is-known (is_right_name b) (right_named b) right r)

pub first-unknown : (items names : List (List ℕ)) (i : ℕ) (t b : List ℕ) → items ≡ names → i < length items → t ≡ get_or items i t → b ≡ t →
    cond (is_right_name b) (Some (right_named b)) None ≡ None → are_right_names (take i names) ≡ true → IsFirstUnknown names i
first-unknown items names i t b e h g s r k = record {
  text = b;
  here = slice_get_read names (length names) i b refl (within items names i e h) (stands items names i t b e g s);
  unknown = is-unknown (is_right_name b) (right_named b) r;
  before = k;
}
