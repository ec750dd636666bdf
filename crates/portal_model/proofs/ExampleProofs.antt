-- The worked examples, by computation.
use lib.Utf8.{encode}
use Rattle.std.proofs.Common.{◌≡◌, true, refl, arith}
use Rattle.std.specs.List.{IsDistinct}
use Rattle.std.specs.Str.{is_utf8, chars}
use Rattle.portal_base.specs.Names.{is_host_path, is_app_name}
use Rattle.portal_model.specs.Examples.{editor, other, a_text, read_write, of_other, of_nobody, AttributesOfGrantedFile, ForeignIsAsMissing, CostsOfRequests, AnswersOfSeats, LeaveAndCollect, FailedLook}
use Rattle.portal_model.specs.Opening.{opened}
use Rattle.portal_model.specs.Valid.{Valid}
use Rattle.portal_model.proofs.GenerationsValid.{first-generations}

-- ---- the names in the examples are names

pub a_path : is_host_path a_text ≡ true
unfolding is_host_path is_utf8 chars encode
a_path = refl

pub editor_name : is_app_name editor ≡ true
unfolding is_app_name
editor_name = refl

pub other_name : is_app_name other ≡ true
unfolding is_app_name
other_name = refl

-- ---- the opening states are valid

valid_read_write : Valid (opened read_write)
unfolding IsDistinct
valid_read_write = record {
  numbers_differ = (tt, tt);
  numbers_made = refl;
  identifiers = refl;
  paths = rw a_path refl;
  folders_sound = refl;
  applications_differ = (tt, tt);
  names = rw editor_name refl;
  rights_in_order = refl;
  rights_placed = refl;
  seats_differ = tt;
  connections_sound = refl;
  namings_sound = tt;
  temps_sound = tt;
  temps_taken = refl;
  handles_differ = tt;
  handles_sound = refl;
  handles_made = refl;
  handles_taken = refl;
  handles_within = refl;
  entries_differ = tt;
  entries_sound = refl;
  files_differ = (tt, tt);
  files_apart = refl;
  files_named = rw a_path refl;
  files_told = λ e. cc;
  generations_sound = first-generations true _ refl;
  documents_within = omega arith;
  made_within = omega arith;
  applications_within = omega arith;
  made_limit = omega arith;
  queued_limit = omega arith;
}

valid_of_other : Valid (opened of_other)
unfolding IsDistinct
valid_of_other = record {
  numbers_differ = (tt, tt);
  numbers_made = refl;
  identifiers = refl;
  paths = rw a_path refl;
  folders_sound = refl;
  applications_differ = (tt, tt);
  names = rw other_name refl;
  rights_in_order = refl;
  rights_placed = refl;
  seats_differ = tt;
  connections_sound = refl;
  namings_sound = tt;
  temps_sound = tt;
  temps_taken = refl;
  handles_differ = tt;
  handles_sound = refl;
  handles_made = refl;
  handles_taken = refl;
  handles_within = refl;
  entries_differ = tt;
  entries_sound = refl;
  files_differ = (tt, tt);
  files_apart = refl;
  files_named = rw a_path refl;
  files_told = λ e. cc;
  generations_sound = first-generations true _ refl;
  documents_within = omega arith;
  made_within = omega arith;
  applications_within = omega arith;
  made_limit = omega arith;
  queued_limit = omega arith;
}

valid_of_nobody : Valid (opened of_nobody)
unfolding IsDistinct
valid_of_nobody = record {
  numbers_differ = tt;
  numbers_made = refl;
  identifiers = refl;
  paths = refl;
  folders_sound = refl;
  applications_differ = tt;
  names = refl;
  rights_in_order = refl;
  rights_placed = refl;
  seats_differ = tt;
  connections_sound = refl;
  namings_sound = tt;
  temps_sound = tt;
  temps_taken = refl;
  handles_differ = tt;
  handles_sound = refl;
  handles_made = refl;
  handles_taken = refl;
  handles_within = refl;
  entries_differ = tt;
  entries_sound = refl;
  files_differ = (tt, tt);
  files_apart = refl;
  files_named = rw a_path refl;
  files_told = λ e. cc;
  generations_sound = first-generations true _ refl;
  documents_within = omega arith;
  made_within = omega arith;
  applications_within = omega arith;
  made_limit = omega arith;
  queued_limit = omega arith;
}

-- ---- the examples

pub costs : CostsOfRequests
costs = record { enter = refl; attributes = refl; leave = refl; collect = refl; lookup = refl; write = refl; forget = refl; batch_forget = refl }

pub attributes : AttributesOfGrantedFile
attributes = record {
  legal = record { opening = valid_read_write; lawful = (record { given = (editor_name, refl) }, (record { given = record { clock = refl; listed = refl; generation = refl; words = refl; numbers = refl; full = refl; keeper = λ e. cc; looks = (refl, (refl, refl)) } }, tt)) };
  replies_are = refl;
}

pub foreign : ForeignIsAsMissing
foreign = record {
  legal_foreign = record { opening = valid_of_other; lawful = (record { given = (editor_name, refl) }, (record { given = record { clock = refl; listed = refl; generation = refl; words = refl; numbers = refl; full = refl; keeper = λ e. cc; looks = (refl, refl) } }, tt)) };
  foreign = refl;
  legal_missing = record { opening = valid_of_nobody; lawful = (record { given = (editor_name, refl) }, (record { given = record { clock = refl; listed = refl; generation = refl; words = refl; numbers = refl; full = refl; keeper = λ e. cc; looks = (refl, refl) } }, tt)) };
  missing = refl;
}

pub seats : AnswersOfSeats
seats = record {
  not_entered = refl;
  other_seat = refl;
  twice = refl;
  on_a_bus = refl;
  by_handle = refl;
  by_handle_given = record { clock = refl; listed = refl; generation = refl; words = refl; numbers = refl; full = refl; keeper = λ e. cc; looks = (refl, refl) };
}

pub endings : LeaveAndCollect
endings = record {
  leaves_once = refl;
  not_entered = refl;
  other_seat = refl;
  tells_nothing = refl;
  on_a_mount = refl;
  nothing_waits = refl;
  tells = refl;
  tells_once = refl;
  lawful = record { given = refl };
}

pub failed : FailedLook
failed = record {
  reply = refl;
  lawful = record { given = record { clock = refl; listed = refl; generation = refl; words = refl; numbers = refl; full = refl; keeper = λ e. cc; looks = refl } };
}
