-- What a tree shows at paths that it is asked for one after another, and what its calls leave of
-- it.
use Rattle.std.specs.Prelude.{◌≡◌, ℕ, zero, suc, List, [], ◌∷◌, Bool, true, false, Option, cond, Some, None}
use Rattle.portal_base.specs.Calls.{FailsAsTold}
use Rattle.file_generations.specs.Generations.{Held}
use Rattle.portal_base.specs.declared.files.Look.{Look}
use Rattle.host_tree.specs.Trees.{Asks, TreeIs, after_call}
use Rattle.host_tree.specs.declared.tree.TreeCall.TheVariants as TreeCall
use Rattle.portal_model.specs.Verdict.{Verdict}
use Rattle.portal_model.specs.Walk.{Answers, AtPath, Gives, IsShown, Walk, looks_at_all, walked}

-- Something is shown at each path, up to a call that fails.
abbrev pub Shows : Option Held → List (List ℕ) → List Look → Bool → Type 0
Shows told [] looks failed = (looks ≡ []) × (failed ≡ false)
Shows told (path ∷ paths) [] failed = failed ≡ true
Shows told (path ∷ paths) (look ∷ looks) failed =
    IsShown told (AtPath path) look × Shows told paths looks failed

-- The tree was looked at so many times without a fault, and then once more where that failed; its
-- files stay.
abbrev pub Asked : TreeIs → ℕ → Bool → TreeIs → Type 0
Asked old zero false new = new ≡ old
Asked old zero true new = Asks TreeCall.Look old true new
Asked old (suc n) failed new =
    FailsAsTold old.calls false × Asked (after_call old TreeCall.Look false old.told) n failed new

-- A walk that looks at paths and then answers by what they show is given just that; where no call
-- fails it comes to the answer, and else to none.
pub record LooksAreGiven : Type 0 where
  pub gives :
      (told : Option Held) (paths : List (List ℕ)) (next : List Look → Walk Verdict)
      (answer : List Look → Verdict) (looks : List Look) (failed : Bool) →
      ((shown : List Look) → next shown ≡ Answers (answer shown)) →
      Shows told paths looks failed → Gives told (looks_at_all paths next) looks failed
  pub comes_to :
      (told : Option Held) (paths : List (List ℕ)) (next : List Look → Walk Verdict)
      (answer : List Look → Verdict) (now : ℕ) (looks : List Look) (failed : Bool) →
      ((shown : List Look) → next shown ≡ Answers (answer shown)) →
      Shows told paths looks failed →
      walked (looks_at_all paths next) now looks failed ≡ cond failed None (Some (answer looks))
