use Rattle.std.proofs.Common.{◌≡◌, ℕ, ◌<◌, false}
use Rattle.std.specs.List.{slice_get}
use Rattle.save_files.specs.Own.{own_on}
use Rattle.named_paths.specs.Named.{is_temp_at, temps_of}
use Rattle.named_paths.proofs.named.has_temp.Given as goal

-- none at the places so far
abbrev pub invariant-loop-place : goal.invariant-loop-place
invariant-loop-place l =
    (k : ℕ) → k < l.place → is_temp_at l.name (slice_get (temps_of (own_on l.temps.seats l.seat)) k) ≡ false
