use Rattle.std.proofs.Common.{◌≡◌, ◌∙◌, ◌+◌, sym, IfSome, rules}
use Rattle.permission_table.proofs.PlacesRise.{next-above}
use Rattle.permission_table.proofs.indexed.next_place.Goals as goal

pub returns-in-Some : goal.returns-in-Some
returns-in-Some c =
    let more : IfSome c.checked_add.result (λ n. n ≡ c.in-Some.last.now + 1) = search rules in
    next-above c.args.places.now c.in-Some.last.now c.checked_add.result c.ok_or.result c.requires (sym c.in-Some.ensures.value) more c.ok_or.ensures.ok_part
