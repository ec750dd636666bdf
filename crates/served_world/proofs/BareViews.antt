-- Views without what the tree has: what others change of one is the same whatever was there.
use Rattle.std.proofs.Common.{◌≡◌, ℕ, List, [], ◌∷◌, ◌++◌, Bool, true, false, cond, refl, sym, ap, ◌∙◌}
use Rattle.std.specs.List.{filter, flat_map}
use Rattle.portal_model.specs.Content.{Content}
use Rattle.app_world.specs.Effect.{Effect, Gained, Lost, Gone, Bytes, Turned, apply, apply_all, changed}
use Rattle.app_world.specs.View.{Alone, AppView, Below, HeldDocument, is_held}
use Rattle.served_world.specs.ServedItem.{ServedItem, bare, items_of_effect}
use Rattle.served_world.specs.ServedWorld.{view_after, views_after}

-- each document of the view is held
abbrev pub AllHeld : AppView → Type 0
AllHeld v = filter is_held v.documents ≡ v.documents

pub held-twice : (ds : List HeldDocument) → filter is_held (filter is_held ds) ≡ filter is_held ds
held-twice [] = refl
held-twice (d ∷ ds) = by_first (is_held d) refl (held-twice ds)
  where
    by_first : (b : Bool) → is_held d ≡ b → filter is_held (filter is_held ds) ≡ filter is_held ds → filter is_held (cond b (d ∷ filter is_held ds) (filter is_held ds)) ≡ cond b (d ∷ filter is_held ds) (filter is_held ds)
    by_first true e m = ap (λ (c : Bool). cond c (d ∷ filter is_held (filter is_held ds)) (filter is_held (filter is_held ds))) e ∙ ap (λ (xs : List HeldDocument). d ∷ xs) m
    by_first false e m = m

still-held : (v : AppView) (f : Effect) → AllHeld (apply v f)
still-held v f = held-twice (changed v f).documents

-- another content of a file changes nothing of it
pub bytes-bare : (v : AppView) (path : List ℕ) (generation : ℕ) (content : Content) → AllHeld v → bare (apply v (Bytes path generation content)) ≡ bare v
bytes-bare v path generation content h = λ i. record (bare v) { documents = h i }

-- nor does another file at a path
pub turned-bare : (v : AppView) (path : List ℕ) (generation : ℕ) (content : Content) → AllHeld v → bare (apply v (Turned path generation content)) ≡ bare v
turned-bare v path generation content h = λ i. record (bare v) { documents = h i }

views-joined : (v : AppView) (is more : List ServedItem) → views_after v (is ++ more) ≡ views_after (views_after v is) more
views-joined v [] more = refl
views-joined v (i ∷ is) more = views-joined (view_after v i) is more

one-effect : (v : AppView) (f : Effect) → AllHeld v → views_after (bare v) (items_of_effect f) ≡ bare (apply v f)
one-effect v (Gained d rights (Alone content)) h = refl
one-effect v (Gained d rights (Below files)) h = refl
one-effect v (Lost id rights) h = refl
one-effect v (Gone id) h = refl
one-effect v (Bytes path generation content) h = sym (bytes-bare v path generation content h)
one-effect v (Turned path generation content) h = sym (turned-bare v path generation content h)

-- what is told of effects gives the view after them
pub effects-bare : (fs : List Effect) (v : AppView) → AllHeld v → views_after (bare v) (flat_map items_of_effect fs) ≡ bare (apply_all v fs)
effects-bare [] v h = refl
effects-bare (f ∷ fs) v h =
    views-joined (bare v) (items_of_effect f) (flat_map items_of_effect fs)
    ∙ (ap (λ (x : AppView). views_after x (flat_map items_of_effect fs)) (one-effect v f h) ∙ effects-bare fs (apply v f) (still-held v f))

-- and so do contents of files that change, which leave it
pub all-bare : (fs : List Effect) (v : AppView) → AllHeld v → flat_map items_of_effect fs ≡ [] → bare (apply_all v fs) ≡ bare v
all-bare fs v h e = sym (effects-bare fs v h) ∙ ap (views_after (bare v)) e
