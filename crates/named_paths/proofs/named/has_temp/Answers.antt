use borrow.Author.Count.{below_more, below_none}
use Rattle.std.proofs.Common.{◌≡◌, ℕ, false, sym, ◌∙◌, arith}
use Rattle.std.specs.List.{slice_get}
use Rattle.save_files.specs.Own.{own_on}
use Rattle.named_paths.specs.Named.{is_temp_at, temps_of}
use Rattle.named_paths.proofs.TempsAt.{few-temps, none-at, temp-at}
use Rattle.named_paths.proofs.named.has_temp.Goals as goal

pub loop-place-init : goal.loop-place-init
loop-place-init c = below_none (λ (k : ℕ). is_temp_at c.args.name.now (slice_get (temps_of (own_on c.args.temps.now.seats c.args.seat)) k) ≡ false)

pub loop-place-preserved : goal.loop-place-preserved
loop-place-preserved c =
    below_more (λ (k : ℕ). is_temp_at c.args.name.now (slice_get (temps_of (own_on c.args.temps.now.seats c.args.seat)) k) ≡ false)
    c.loop-place.place c.loop-place.invariant (sym c.has_temp_at.ensures ∙ c.if-has_temp_at.false)

pub returns-then-has_temp_at : goal.returns-then-has_temp_at
returns-then-has_temp_at c =
    sym (temp-at c.args.name.now (temps_of (own_on c.args.temps.now.seats c.args.seat)) c.loop-place.place (sym c.has_temp_at.ensures ∙ c.if-has_temp_at.true))

pub returns : goal.returns
returns c =
    sym (none-at c.args.name.now (temps_of (own_on c.args.temps.now.seats c.args.seat)) 64
    (few-temps (own_on c.args.temps.now.seats c.args.seat) c.get.ensures.known)
    (λ k m. c.loop-place.invariant k (omega arith)))
