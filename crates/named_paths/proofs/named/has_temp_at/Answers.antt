use Rattle.std.proofs.Common.{sym, ap, ◌∙◌}
use Rattle.save_files.specs.Own.{own_on}
use Rattle.named_paths.specs.Named.{is_temp_of}
use Rattle.named_paths.proofs.TempsAt.{is-that, none-there}
use Rattle.named_paths.proofs.named.has_temp_at.Goals as goal

pub returns-in-Some : goal.returns-in-Some
returns-in-Some c =
    let own = own_on c.args.temps.now.seats c.args.seat in
    c.is_file_of.ensures
    ∙ (ap (is_temp_of c.args.name.now) c.get.ensures.temp
    ∙ is-that c.args.name.now own c.args.place c.in-Some.k c.get.ensures.known (sym c.in-Some.ensures))

pub returns-in-None : goal.returns-in-None
returns-in-None c =
    sym (none-there c.args.name.now (own_on c.args.temps.now.seats c.args.seat) c.args.place (sym c.in-None.ensures))
