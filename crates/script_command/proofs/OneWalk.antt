-- Over a tree that tells its files and its calls, one thing is given to a walk.
use Rattle.std.proofs.Common.{◌≡◌, ℕ, List, [], ◌∷◌, Bool, true, false, Option, Some, None, is_some, refl, sym, ap, subst, ◌∙◌}
use Rattle.std.specs.Prelude.{IfSome}
use Rattle.file_generations.specs.Generations.{Held}
use Rattle.host_tree.specs.declared.tree.TreeCall.{TreeCall}
use Rattle.node_looks.specs.TreeCalls.{CallsAsTold, calls_by}
use Rattle.portal_base.specs.Calls.{Calls, next_call}
use Rattle.portal_base.specs.declared.files.ChildName.{ChildName}
use Rattle.portal_base.specs.declared.files.Look.{Look}
use Rattle.portal_model.specs.Walk.{Walk, Answers, Looks, Ends, Lists, Gives, GivesNames}

-- one call doesn't both fail and not fail
pub not_both : {Y : Type 0} (f b : Bool) → f ≡ true → f ≡ b → false ≡ b → Y
not_both f b t e k = let x : true ≡ false = sym t ∙ (e ∙ sym k) in absurd (cc)

module _ {X : Type 0} (last : X → TreeCall) where
  -- the same looks are given, and the same call fails
  pub one_given : (files : Held) (w : Walk X) (xs ys : List Look) (f g : Bool) (calls : Calls) → Gives (Some files) w xs f → Gives (Some files) w ys g
      → CallsAsTold (Some calls) (calls_by last w xs f) → CallsAsTold (Some calls) (calls_by last w ys g) → (xs ≡ ys) × (f ≡ g)
  one_given files (Answers x) xs ys f g calls a b c d = (a.0 ∙ sym b.0, a.1 ∙ sym b.1)
  one_given files (Looks target next) [] [] f g calls a b c d = (refl, a ∙ sym b)
  one_given files (Looks target next) [] (y ∷ ys) f g calls a b c d = not_both f _ a c.0 d.0
  one_given files (Looks target next) (x ∷ xs) [] f g calls a b c d = not_both g _ b d.0 c.0
  one_given files (Looks target next) (x ∷ xs) (y ∷ ys) f g calls a b c d =
      let same : x ≡ y = a.0 ∙ sym b.0 in
      let behind : Gives (Some files) (next x) ys g = subst (λ (l : Look). Gives (Some files) (next l) ys g) (sym same) b.1 in
      let calling : CallsAsTold (Some (next_call calls)) (calls_by last (next x) ys g) = subst (λ (l : Look). CallsAsTold (Some (next_call calls)) (calls_by last (next l) ys g)) (sym same) d.1 in
      let rest = one_given files (next x) xs ys f g (next_call calls) a.1 behind c.1 calling in
      (ap (λ (l : Look). l ∷ xs) same ∙ ap (λ (ls : List Look). y ∷ ls) rest.0, rest.1)
  one_given files (Ends call done missing) [] [] f g calls a b c d = (refl, c.0 ∙ sym d.0)
  one_given files (Ends call done missing) [] (y ∷ ys) true g calls a b c d = let x : true ≡ false = c.0 ∙ (sym d.0 ∙ b.2) in absurd (cc)
  one_given files (Ends call done missing) [] (y ∷ ys) false g calls a b c d = let x : true ≡ false = a ∙ sym b.3 in absurd (cc)
  one_given files (Ends call done missing) (x ∷ xs) [] f true calls a b c d = let e : true ≡ false = d.0 ∙ (sym c.0 ∙ a.2) in absurd (cc)
  one_given files (Ends call done missing) (x ∷ xs) [] f false calls a b c d = let e : true ≡ false = b ∙ sym a.3 in absurd (cc)
  one_given files (Ends call done missing) (x ∷ xs) (y ∷ ys) f g calls a b c d =
      (ap (λ (l : Look). l ∷ xs) (a.0 ∙ sym b.0) ∙ ap (λ (ls : List Look). y ∷ ls) (a.1 ∙ sym b.1), a.2 ∙ sym b.2)
  one_given files (Lists path done missing) xs ys f g calls a b c d = (a ∙ sym b, c.0 ∙ sym d.0)

-- and the same names are listed
pub one_listed : {X : Type 0} (files : Held) (w : Walk X) (xs : List Look) (m n : Option (List ChildName)) (f : Bool) → GivesNames (Some files) w xs m f → GivesNames (Some files) w xs n f → m ≡ n
one_listed files (Answers x) xs m n f a b = a ∙ sym b
one_listed files (Looks target next) [] m n f a b = a ∙ sym b
one_listed files (Looks target next) (x ∷ xs) m n f a b = one_listed files (next x) xs m n f a b
one_listed files (Ends call done missing) xs m n f a b = a ∙ sym b
one_listed files (Lists path done missing) xs m n true a b = a ∙ sym b
one_listed files (Lists path done missing) xs m n false a b = a ∙ sym b

-- a clock that was read showed what it was set to
pub moment_one : (x y : Option ℕ) (at : ℕ) → is_some x ≡ is_some y → IfSome x (λ now. now ≡ at) → IfSome y (λ now. now ≡ at) → x ≡ y
moment_one None None at e a b = refl
moment_one None (Some y) at e a b = absurd (cc)
moment_one (Some x) None at e a b = absurd (cc)
moment_one (Some x) (Some y) at e a b = ap Some (a ∙ sym b)
