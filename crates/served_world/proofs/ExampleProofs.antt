-- The worked examples, by computation.
use lib.Utf8.{encode}
use Rattle.std.proofs.Common.{◌≡◌, ℕ, List, [], codes, true, false, refl, arith}
use Rattle.std.specs.List.{IsDistinct}
use Rattle.std.specs.Str.{is_utf8, chars}
use Rattle.portal_base.specs.Names.{child_of, doc_text, hex_number, is_app_name, is_doc_id, is_host_path, is_in_own_folder, name_of, own_folder, parent_of}
use Rattle.portal_model.specs.Valid.{Valid}
use Rattle.portal_model.proofs.DocumentExampleProofs.{no_keeper, none_nearer}
use Rattle.portal_model.proofs.ExampleProofs.{a_path, editor_name, other_name}
use Rattle.portal_model.proofs.GenerationsValid.{first-generations}
use Rattle.app_world.specs.Examples.{b_text}
use Rattle.served_world.specs.Examples.{AddedByLooks, AskedAtItsFiles, ContentsDifferAlone, IsLengthTold, IsMomentInTrace, OneTraceOfTwoWorlds, OthersAreTold, alone, among, over_bytes}

b_path : is_host_path b_text ≡ true
unfolding is_host_path is_utf8 chars encode
b_path = refl

valid_alone : Valid alone
unfolding IsDistinct
valid_alone = record {
  numbers_differ = (tt, tt);
  numbers_made = refl;
  identifiers = refl;
  paths = rw a_path refl;
  folders_sound = refl;
  applications_differ = (tt, tt);
  names = rw editor_name refl;
  rights_in_order = refl;
  rights_placed = refl;
  seats_differ = tt;
  connections_sound = refl;
  namings_sound = tt;
  temps_sound = tt;
  temps_taken = refl;
  handles_differ = tt;
  handles_sound = refl;
  handles_made = refl;
  handles_taken = refl;
  handles_within = refl;
  entries_differ = tt;
  entries_sound = refl;
  files_differ = tt;
  files_apart = refl;
  files_named = refl;
  files_told = λ e. refl;
  generations_sound = first-generations false _ refl;
  documents_within = omega arith;
  made_within = omega arith;
  applications_within = omega arith;
  made_limit = omega arith;
  queued_limit = omega arith;
}

valid_among : Valid among
unfolding IsDistinct
valid_among = record {
  numbers_differ = ((refl, tt), (tt, tt));
  numbers_made = refl;
  identifiers = refl;
  paths = rw (a_path, b_path) refl;
  folders_sound = refl;
  applications_differ = ((refl, tt), (tt, tt));
  names = rw (editor_name, other_name) refl;
  rights_in_order = refl;
  rights_placed = refl;
  seats_differ = tt;
  connections_sound = refl;
  namings_sound = tt;
  temps_sound = tt;
  temps_taken = refl;
  handles_differ = tt;
  handles_sound = refl;
  handles_made = refl;
  handles_taken = refl;
  handles_within = refl;
  entries_differ = tt;
  entries_sound = refl;
  files_differ = tt;
  files_apart = refl;
  files_named = refl;
  files_told = λ e. refl;
  generations_sound = first-generations false _ refl;
  documents_within = omega arith;
  made_within = omega arith;
  applications_within = omega arith;
  made_limit = omega arith;
  queued_limit = omega arith;
}

pub worlds : OneTraceOfTwoWorlds
worlds = record {
  legal_alone = record { opening = valid_alone; lawful = (record { given = (editor_name, refl) }, (record { given = record { looks = (tt, (refl, refl)); clock = refl; listed = refl; generation = refl; words = refl; numbers = refl; full = refl; keeper = λ e. cc } }, (record { given = record { looks = tt; clock = refl; listed = refl; generation = refl; words = refl; numbers = refl; full = refl; keeper = λ e. cc } }, (record { given = record { looks = (tt, (refl, refl)); clock = refl; listed = refl; generation = refl; words = refl; numbers = refl; full = refl; keeper = λ e. cc } }, tt)))) };
  legal_among = record { opening = valid_among; lawful = (record { given = (other_name, refl) }, (record { given = (editor_name, refl) }, (record { given = record { looks = (tt, (refl, refl)); clock = refl; listed = refl; generation = refl; words = refl; numbers = refl; full = refl; keeper = λ e. cc } }, (record { given = record { looks = (tt, (refl, refl)); clock = refl; listed = refl; generation = refl; words = refl; numbers = refl; full = refl; keeper = λ e. cc } }, (record { given = record { looks = (tt, (refl, refl)); clock = refl; listed = refl; generation = refl; words = refl; numbers = refl; full = refl; keeper = λ e. cc } }, (record { given = record { looks = tt; clock = refl; listed = refl; generation = refl; words = refl; numbers = refl; full = refl; keeper = λ e. cc } }, (record { given = record { looks = tt; clock = refl; listed = refl; generation = refl; words = refl; numbers = refl; full = refl; keeper = λ e. cc } }, (record { given = (refl, refl) }, (record { given = record { looks = (tt, (refl, refl)); clock = refl; listed = refl; generation = refl; words = refl; numbers = refl; full = refl; keeper = λ e. cc } }, tt))))))))) };
  items = refl;
  same = refl;
  replies = refl;
}

pub asked : AskedAtItsFiles
unfolding is_host_path is_app_name is_utf8 chars encode child_of own_folder is_in_own_folder parent_of
asked = record { by_path = refl; by_name = refl; presented = refl }

valid_over : (bytes : List ℕ) → Valid (over_bytes bytes)
unfolding IsDistinct
valid_over bytes = record {
  numbers_differ = (tt, tt);
  numbers_made = refl;
  identifiers = refl;
  paths = rw a_path refl;
  folders_sound = refl;
  applications_differ = (tt, tt);
  names = rw editor_name refl;
  rights_in_order = refl;
  rights_placed = refl;
  seats_differ = tt;
  connections_sound = refl;
  namings_sound = tt;
  temps_sound = tt;
  temps_taken = refl;
  handles_differ = tt;
  handles_sound = refl;
  handles_made = refl;
  handles_taken = refl;
  handles_within = refl;
  entries_differ = tt;
  entries_sound = refl;
  files_differ = (tt, tt);
  files_apart = refl;
  files_named = rw a_path refl;
  files_told = λ e. cc;
  generations_sound = first-generations true _ refl;
  documents_within = omega arith;
  made_within = omega arith;
  applications_within = omega arith;
  made_limit = omega arith;
  queued_limit = omega arith;
}

pub contents : ContentsDifferAlone
contents = record {
  legal_whole = record { opening = valid_over (codes "hello"); lawful = (record { given = (editor_name, refl) }, (record { given = record { looks = (refl, (refl, refl)); clock = refl; listed = refl; generation = refl; words = refl; numbers = refl; full = refl; keeper = λ e. cc } }, (record { given = record { looks = refl; clock = refl; listed = refl; generation = refl; words = refl; numbers = refl; full = refl; keeper = λ e. cc } }, tt))) };
  legal_cut = record { opening = valid_over (codes "world"); lawful = (record { given = (refl, refl) }, (record { given = (editor_name, refl) }, (record { given = record { looks = (refl, (refl, refl)); clock = refl; listed = refl; generation = refl; words = refl; numbers = refl; full = refl; keeper = λ e. cc } }, (record { given = record { looks = (refl, refl); clock = refl; listed = refl; generation = refl; words = refl; numbers = refl; full = refl; keeper = λ e. cc } }, (record { given = record { looks = refl; clock = refl; listed = refl; generation = refl; words = refl; numbers = refl; full = refl; keeper = λ e. cc } }, tt))))) };
  same = refl;
  whole = refl;
  cut = refl;
  alike = ((refl, refl), ((refl, refl), ((refl, (codes "wo", refl, omega arith)), tt)));
  but_contents = refl;
}

pub others : OthersAreTold
unfolding is_doc_id hex_number is_app_name doc_text name_of parent_of
others = record { written = refl; revoked = refl; deleted = refl; steps = refl; machine = refl }

pub added : AddedByLooks
unfolding is_host_path is_app_name is_utf8 chars encode child_of own_folder is_in_own_folder is_doc_id hex_number doc_text parent_of
added = record {
  lawful = (record { given = record { looks = (refl, refl); clock = refl; listed = refl; generation = refl; words = refl; numbers = tt; full = refl; keeper = λ e. no_keeper e } }, (record { given = record { looks = (tt, (refl, refl)); clock = refl; listed = refl; generation = refl; words = refl; numbers = tt; full = refl; keeper = λ e. no_keeper e } }, (record { given = record { looks = (refl, refl); clock = refl; listed = refl; generation = refl; words = refl; numbers = tt; full = refl; keeper = λ e. no_keeper e } }, (record { given = record { looks = (tt, (refl, refl)); clock = refl; listed = refl; generation = refl; words = refl; numbers = (omega arith, omega arith, record { unused = refl; first = none_nearer [] 5 }, tt); full = refl; keeper = λ e. no_keeper e } }, (record { given = record { looks = (refl, refl); clock = refl; listed = refl; generation = refl; words = refl; numbers = tt; full = refl; keeper = λ e. no_keeper e } }, (record { given = record { looks = (refl, refl); clock = refl; listed = refl; generation = refl; words = refl; numbers = tt; full = refl; keeper = λ e. no_keeper e } }, (record { given = record { looks = (refl, refl); clock = refl; listed = refl; generation = refl; words = refl; numbers = tt; full = refl; keeper = λ e. no_keeper e } }, tt)))))));
  answers = refl;
}

pub moment : IsMomentInTrace 7
moment = refl

pub length_is : IsLengthTold 5
length_is = refl
