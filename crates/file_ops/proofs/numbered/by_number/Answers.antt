use Rattle.std.proofs.Common.{◌∙◌, ap}
use Rattle.folder_documents.specs.Named.{named_on}
use Rattle.portal_model.specs.SeatNames.{naming_of, temp_of}
use Rattle.save_files.specs.Own.{own_on}
use Rattle.file_ops.proofs.Numbers.{named-there}
use Rattle.file_ops.proofs.OwnSeats.{by-number}
use Rattle.file_ops.proofs.numbered.by_number.Goals as goal

pub returns-clause-naming : goal.returns-clause-naming
returns-clause-naming c = λ has e.
    c.get-naming.ensures.naming
    ∙ (named-there c.id_of-number.result (named_on c.args.namings.now c.args.seat) has e
    ∙ ap (naming_of has) c.id_of-number.ensures)

pub returns-clause-temp : goal.returns-clause-temp
returns-clause-temp c = λ has e.
    c.get-temp.ensures.temp
    ∙ (by-number c.id_of-number.result (own_on c.args.temps.now.seats c.args.seat) has e
    ∙ ap (temp_of has.temps) c.id_of-number.ensures)
