-- Two traces compare in one way alone.
use Rattle.std.proofs.Common.{◌≡◌, ℕ, ◌<◌, refl, ap, arith}
use Rattle.app_world.specs.World.{Trace}
use Rattle.app_trace.specs.declared.matching.TraceMatch.{TraceMatch}
use Rattle.app_trace.specs.declared.matching.TraceMatch.TheVariants.{Same, Opening, At}
use Rattle.app_trace.specs.Matches.{Matches}
use Rattle.app_trace.proofs.FirstDifferences.{differ-once, same-nowhere}

one_place : (j k : ℕ) → (j < k → ⊥) → (k < j → ⊥) → j ≡ k
one_place j k a b = grind arith

pub matched-once : (a b : Trace) (m n : TraceMatch) → Matches a b m → Matches a b n → m ≡ n
matched-once a b Same Same s t = refl
matched-once a b Same Opening s t = absurd (t (λ i. (s i).opening))
matched-once a b Same (At k) s t = absurd (same-nowhere a.items b.items k (λ i. (s i).items) t.1)
matched-once a b Opening Same s t = absurd (s (λ i. (t i).opening))
matched-once a b Opening Opening s t = refl
matched-once a b Opening (At k) s t = absurd (s t.0)
matched-once a b (At j) Same s t = absurd (same-nowhere a.items b.items j (λ i. (t i).items) s.1)
matched-once a b (At j) Opening s t = absurd (t s.0)
matched-once a b (At j) (At k) s t =
    ap At (one_place j k (differ-once a.items b.items j k s.1 t.1) (differ-once a.items b.items k j t.1 s.1))
