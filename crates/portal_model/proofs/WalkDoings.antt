-- What is true of all that a walk may do, where it is true whatever the looks show.
use Rattle.std.proofs.Common.{◌≡◌, ℕ, List, [], ◌∷◌, Bool, true, false, not, Option, Some, None, refl}
use Rattle.file_generations.specs.Generations.{Held}
use Rattle.portal_base.specs.declared.files.Look.{Look}
use Rattle.portal_model.specs.declared.reply.Code.{Code}
use Rattle.portal_model.specs.Verdict.{Doing, Verdict, Refuses, Does, unless, walk_unless}
use Rattle.portal_model.specs.Walk.{Walk, Answers, AtPath, Looks, Ends, Gives, IsShown, Lists, looks_at_all, walked}

module _ (P : Doing → Type 0) where
  abbrev pub IfDoes : Verdict → Type 0
  IfDoes (Refuses code) = Unit {0}
  IfDoes (Does d) = P d

  abbrev pub OnWalk : Walk Verdict → Type 0
  OnWalk (Answers v) = IfDoes v
  OnWalk (Looks target next) = (look : Look) → OnWalk (next look)
  OnWalk (Ends call done missing) = ((now : ℕ) → IfDoes (done now)) × IfDoes missing
  OnWalk (Lists path done missing) = IfDoes missing

  abbrev pub IfGiven : Option Verdict → Type 0
  IfGiven None = Unit {0}
  IfGiven (Some v) = IfDoes v

  -- behind a check that passes
  pub if-passes : (fine : Bool) (code : Code) (v : Verdict) → (fine ≡ true → IfDoes v) → IfDoes (unless (not fine) code v)
  if-passes true code v h = h refl
  if-passes false code v h = tt

  pub walk-passes : (fine : Bool) (code : Code) (w : Walk Verdict) → (fine ≡ true → OnWalk w) → OnWalk (walk_unless (not fine) code w)
  walk-passes true code w h = h refl
  walk-passes false code w h = tt

  pub on-looks : (paths : List (List ℕ)) (next : List Look → Walk Verdict) → ((looks : List Look) → OnWalk (next looks)) → OnWalk (looks_at_all paths next)
  on-looks [] next h = h []
  on-looks (path ∷ paths) next h = λ look. on-looks paths (λ looks. next (look ∷ looks)) (λ looks. h (look ∷ looks))

  pub on-walked : (w : Walk Verdict) (now : ℕ) (looks : List Look) (failed : Bool) → OnWalk w → IfGiven (walked w now looks failed)
  on-walked (Answers v) now looks failed h = h
  on-walked (Looks target next) now [] failed h = tt
  on-walked (Looks target next) now (look ∷ looks) failed h = on-walked (next look) now looks failed (h look)
  on-walked (Ends call done missing) now [] true h = tt
  on-walked (Ends call done missing) now [] false h = h.0 now
  on-walked (Ends call done missing) now (look ∷ looks) failed h = h.1
  on-walked (Lists path done missing) now looks true h = tt
  on-walked (Lists path done missing) now looks false h = h

-- ---- by what the tree may have shown

-- what it showed at paths one after another
abbrev pub AreShown : Option Held → List (List ℕ) → List Look → Type 0
AreShown tree [] [] = Unit {0}
AreShown tree [] (look ∷ looks) = ⊥
AreShown tree (path ∷ paths) [] = ⊥
AreShown tree (path ∷ paths) (look ∷ looks) = IsShown tree (AtPath path) look × AreShown tree paths looks

module _ (tree : Option Held) (P : Doing → Type 0) where
  abbrev pub OnTree : Walk Verdict → Type 0
  OnTree (Answers v) = IfDoes P v
  OnTree (Looks target next) = (look : Look) → IsShown tree target look → OnTree (next look)
  OnTree (Ends call done missing) = ((now : ℕ) → IfDoes P (done now)) × IfDoes P missing
  OnTree (Lists path done missing) = IfDoes P missing

  -- whatever it showed
  pub on-any : (w : Walk Verdict) → OnWalk P w → OnTree w
  on-any (Answers v) h = h
  on-any (Looks target next) h = λ look shown. on-any (next look) (h look)
  on-any (Ends call done missing) h = h
  on-any (Lists path done missing) h = h

  pub tree-passes : (fine : Bool) (code : Code) (w : Walk Verdict) → (fine ≡ true → OnTree w) → OnTree (walk_unless (not fine) code w)
  tree-passes true code w h = h refl
  tree-passes false code w h = tt

  pub tree-looks : (paths : List (List ℕ)) (next : List Look → Walk Verdict) → ((looks : List Look) → AreShown tree paths looks → OnTree (next looks)) → OnTree (looks_at_all paths next)
  tree-looks [] next h = h [] tt
  tree-looks (path ∷ paths) next h = λ look shown. tree-looks paths (λ looks. next (look ∷ looks)) (λ looks more. h (look ∷ looks) (shown, more))

  pub tree-walked : (w : Walk Verdict) (now : ℕ) (looks : List Look) (failed : Bool) → Gives tree w looks failed → OnTree w → IfGiven P (walked w now looks failed)
  tree-walked (Answers v) now looks failed g h = h
  tree-walked (Looks target next) now [] failed g h = tt
  tree-walked (Looks target next) now (look ∷ looks) failed g h = tree-walked (next look) now looks failed g.1 (h look g.0)
  tree-walked (Ends call done missing) now [] true g h = tt
  tree-walked (Ends call done missing) now [] false g h = h.0 now
  tree-walked (Ends call done missing) now (look ∷ looks) failed g h = h.1
  tree-walked (Lists path done missing) now looks true g h = tt
  tree-walked (Lists path done missing) now looks false g h = h
