-- Walks of requests on documents that look alike: over a tree that tells its files and its calls, what is given to the one is given to the other.
use Rattle.std.proofs.Common.{◌≡◌, ℕ, List, [], ◌∷◌, Bool, false, Some, refl, sym, ap, subst, ◌∙◌}
use Rattle.file_generations.specs.Generations.{Held}
use Rattle.host_tree.specs.declared.tree.TreeCall.{TreeCall}
use Rattle.node_looks.specs.TreeCalls.{CallsAsTold, calls_by}
use Rattle.portal_base.specs.Calls.{Calls, next_call}
use Rattle.portal_base.specs.declared.files.Look.{Look}
use Rattle.portal_model.specs.Outside.{words_drawn}
use Rattle.portal_model.specs.Verdict.{Verdict}
use Rattle.portal_model.specs.Walk.{Walk, Answers, Looks, Ends, Lists, Gives, reads_clock, shown_at, walked}
use Rattle.script_command.proofs.OneWalk.{not_both}

module _ {X : Type 0} (Same : X → X → Type 0) where
  -- they look at the same, whatever that shows, and what they come to is alike; none ends with a
  -- call that needs or makes a file
  abbrev pub WalkAlike : Walk X → Walk X → Type 0
  WalkAlike (Answers x) (Answers y) = Same x y
  WalkAlike (Looks target next) (Looks other more) = (target ≡ other) × ((look : Look) → WalkAlike (next look) (more look))
  WalkAlike (Answers x) (Looks other more) = ⊥
  WalkAlike (Answers x) (Ends call done missing) = ⊥
  WalkAlike (Answers x) (Lists path done missing) = ⊥
  WalkAlike (Looks target next) (Answers y) = ⊥
  WalkAlike (Looks target next) (Ends call done missing) = ⊥
  WalkAlike (Looks target next) (Lists path done missing) = ⊥
  WalkAlike (Ends call done missing) u = ⊥
  WalkAlike (Lists path done missing) u = ⊥

  -- they read no clock
  pub alike_clock : (w u : Walk X) (looks : List Look) → WalkAlike w u → reads_clock w looks ≡ false
  alike_clock (Answers x) u looks h = refl
  alike_clock (Looks target next) u [] h = refl
  alike_clock (Looks target next) (Looks other more) (look ∷ looks) h = alike_clock (next look) (more look) looks (h.1 look)
  alike_clock (Looks target next) (Answers y) (look ∷ looks) h = absurd h
  alike_clock (Looks target next) (Ends call done missing) (look ∷ looks) h = absurd h
  alike_clock (Looks target next) (Lists path done missing) (look ∷ looks) h = absurd h
  alike_clock (Ends call done missing) u looks h = absurd h
  alike_clock (Lists path done missing) u looks h = absurd h

  -- the same looks are given, and the same call fails
  pub alike_given : (last : X → TreeCall) (files : Held) (w u : Walk X) (xs ys : List Look) (f g : Bool) (calls : Calls) → WalkAlike w u → Gives (Some files) w xs f → Gives (Some files) u ys g
      → CallsAsTold (Some calls) (calls_by last w xs f) → CallsAsTold (Some calls) (calls_by last u ys g) → (xs ≡ ys) × (f ≡ g)
  alike_given last files (Answers x) (Answers y) xs ys f g calls h a b c d = (a.0 ∙ sym b.0, a.1 ∙ sym b.1)
  alike_given last files (Answers x) (Looks other more) xs ys f g calls h a b c d = absurd h
  alike_given last files (Answers x) (Ends call done missing) xs ys f g calls h a b c d = absurd h
  alike_given last files (Answers x) (Lists path done missing) xs ys f g calls h a b c d = absurd h
  alike_given last files (Looks target next) (Answers y) xs ys f g calls h a b c d = absurd h
  alike_given last files (Looks target next) (Ends call done missing) xs ys f g calls h a b c d = absurd h
  alike_given last files (Looks target next) (Lists path done missing) xs ys f g calls h a b c d = absurd h
  alike_given last files (Ends call done missing) u xs ys f g calls h a b c d = absurd h
  alike_given last files (Lists path done missing) u xs ys f g calls h a b c d = absurd h
  alike_given last files (Looks target next) (Looks other more) [] [] f g calls h a b c d = (refl, a ∙ sym b)
  alike_given last files (Looks target next) (Looks other more) [] (y ∷ ys) f g calls h a b c d = not_both f _ a c.0 d.0
  alike_given last files (Looks target next) (Looks other more) (x ∷ xs) [] f g calls h a b c d = not_both g _ b d.0 c.0
  alike_given last files (Looks target next) (Looks other more) (x ∷ xs) (y ∷ ys) f g calls h a b c d =
      let same : x ≡ y = a.0 ∙ (ap (shown_at files) h.0 ∙ sym b.0) in
      let behind : Gives (Some files) (more x) ys g = subst (λ (l : Look). Gives (Some files) (more l) ys g) (sym same) b.1 in
      let calling : CallsAsTold (Some (next_call calls)) (calls_by last (more x) ys g) = subst (λ (l : Look). CallsAsTold (Some (next_call calls)) (calls_by last (more l) ys g)) (sym same) d.1 in
      let rest = alike_given last files (next x) (more x) xs ys f g (next_call calls) (h.1 x) a.1 behind c.1 calling in
      (ap (λ (l : Look). l ∷ xs) same ∙ ap (λ (ls : List Look). y ∷ ls) rest.0, rest.1)

-- and as many words are drawn of what they come to, where that is so of what they may come to
abbrev pub DrawAlike : Verdict → Verdict → Type 0
DrawAlike v u = words_drawn (Some v) ≡ words_drawn (Some u)

pub alike_drawn : (w u : Walk Verdict) (looks : List Look) (n m : ℕ) (failed : Bool) → WalkAlike DrawAlike w u → words_drawn (walked w n looks failed) ≡ words_drawn (walked u m looks failed)
alike_drawn (Answers x) (Answers y) looks n m failed h = h
alike_drawn (Answers x) (Looks other more) looks n m failed h = absurd h
alike_drawn (Answers x) (Ends call done missing) looks n m failed h = absurd h
alike_drawn (Answers x) (Lists path done missing) looks n m failed h = absurd h
alike_drawn (Looks target next) (Answers y) looks n m failed h = absurd h
alike_drawn (Looks target next) (Ends call done missing) looks n m failed h = absurd h
alike_drawn (Looks target next) (Lists path done missing) looks n m failed h = absurd h
alike_drawn (Ends call done missing) u looks n m failed h = absurd h
alike_drawn (Lists path done missing) u looks n m failed h = absurd h
alike_drawn (Looks target next) (Looks other more) [] n m failed h = refl
alike_drawn (Looks target next) (Looks other more) (look ∷ looks) n m failed h = alike_drawn (next look) (more look) looks n m failed (h.1 look)
