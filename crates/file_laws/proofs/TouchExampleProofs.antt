-- The worked examples of what others tell, by computation.
use lib.Utf8.{encode}
use Rattle.std.proofs.Common.{◌≡◌, true, false, refl, arith}
use Rattle.std.specs.List.{IsDistinct}
use Rattle.std.specs.Str.{is_utf8, chars}
use Rattle.portal_base.specs.Names.{doc_text, hex_number, is_app_name, is_doc_id, is_host_path, parent_of}
use Rattle.portal_model.specs.Opening.{opened}
use Rattle.portal_model.specs.Valid.{Valid}
use Rattle.portal_model.proofs.ExampleProofs.{a_path, editor_name}
use Rattle.portal_model.proofs.GenerationsValid.{first-generations}
use Rattle.portal_model.specs.DocumentExamples.{viewer}
use Rattle.app_world.specs.Examples.{b_text}
use Rattle.file_laws.specs.TouchExamples.{AreItemsTold, IsToldOfAGrant, OtherPathIsNotTold, SharedFileIsTold, one_file, two_paths}

pub viewer_name : is_app_name viewer ≡ true
unfolding is_app_name
viewer_name = refl

b_path : is_host_path b_text ≡ true
unfolding is_host_path is_utf8 chars encode
b_path = refl

valid_one_file : Valid (opened one_file)
unfolding IsDistinct
valid_one_file = record {
  numbers_differ = ((refl, tt), (tt, tt));
  numbers_made = refl;
  identifiers = refl;
  paths = rw a_path refl;
  folders_sound = refl;
  applications_differ = ((refl, tt), (tt, tt));
  names = rw (editor_name, viewer_name) refl;
  rights_in_order = refl;
  rights_placed = refl;
  seats_differ = tt;
  connections_sound = refl;
  namings_sound = tt;
  temps_sound = tt;
  temps_taken = refl;
  handles_differ = tt;
  handles_sound = refl;
  handles_made = refl;
  handles_taken = refl;
  handles_within = refl;
  entries_differ = tt;
  entries_sound = refl;
  files_differ = (tt, tt);
  files_apart = refl;
  files_named = rw a_path refl;
  files_told = λ e. cc;
  generations_sound = first-generations true _ refl;
  documents_within = omega arith;
  made_within = omega arith;
  applications_within = omega arith;
  made_limit = omega arith;
  queued_limit = omega arith;
}

valid_two_paths : Valid (opened two_paths)
unfolding IsDistinct
valid_two_paths = record {
  numbers_differ = ((refl, tt), (tt, tt));
  numbers_made = refl;
  identifiers = refl;
  paths = rw (a_path, b_path) refl;
  folders_sound = refl;
  applications_differ = ((refl, tt), (tt, tt));
  names = rw (editor_name, viewer_name) refl;
  rights_in_order = refl;
  rights_placed = refl;
  seats_differ = tt;
  connections_sound = refl;
  namings_sound = tt;
  temps_sound = tt;
  temps_taken = refl;
  handles_differ = tt;
  handles_sound = refl;
  handles_made = refl;
  handles_taken = refl;
  handles_within = refl;
  entries_differ = tt;
  entries_sound = refl;
  files_differ = ((refl, tt), (tt, tt));
  files_apart = refl;
  files_named = rw (b_path, a_path) refl;
  files_told = λ e. cc;
  generations_sound = first-generations true _ refl;
  documents_within = omega arith;
  made_within = omega arith;
  applications_within = omega arith;
  made_limit = omega arith;
  queued_limit = omega arith;
}

-- what is given to an OPEN, where one look is taken, and to a WRITE and a READ, where none is
pub shared_told : SharedFileIsTold
unfolding is_doc_id hex_number is_app_name doc_text
shared_told = record {
  legal = record {
    opening = valid_one_file;
    lawful = (
      record { given = (editor_name, refl) },
      (
        record { given = (viewer_name, refl) },
        (
          record { given = record { looks = (refl, (refl, refl)); clock = refl; listed = refl; generation = refl; words = refl; numbers = refl; full = refl; keeper = λ e. cc } },
          (
            record { given = record { looks = (refl, (refl, refl)); clock = refl; listed = refl; generation = refl; words = refl; numbers = refl; full = refl; keeper = λ e. cc } },
            (
              record { given = record { looks = refl; clock = refl; listed = refl; generation = refl; words = refl; numbers = refl; full = refl; keeper = λ e. cc } },
              (record { given = record { looks = refl; clock = refl; listed = refl; generation = refl; words = refl; numbers = refl; full = refl; keeper = λ e. cc } }, tt),
            ),
          ),
        ),
      ),
    );
  };
  told = refl;
  replies = refl;
}

pub apart_told : OtherPathIsNotTold
unfolding is_doc_id hex_number is_app_name doc_text
apart_told = record {
  legal = record {
    opening = valid_two_paths;
    lawful = (
      record { given = (editor_name, refl) },
      (
        record { given = (viewer_name, refl) },
        (
          record { given = record { looks = (refl, (refl, refl)); clock = refl; listed = refl; generation = refl; words = refl; numbers = refl; full = refl; keeper = λ e. cc } },
          (
            record { given = record { looks = (refl, (refl, refl)); clock = refl; listed = refl; generation = refl; words = refl; numbers = refl; full = refl; keeper = λ e. cc } },
            (
              record { given = record { looks = refl; clock = refl; listed = refl; generation = refl; words = refl; numbers = refl; full = refl; keeper = λ e. cc } },
              (record { given = record { looks = refl; clock = refl; listed = refl; generation = refl; words = refl; numbers = refl; full = refl; keeper = λ e. cc } }, tt),
            ),
          ),
        ),
      ),
    );
  };
  told = refl;
  replies = refl;
}

pub items_of_one : AreItemsTold true 4
unfolding is_doc_id hex_number is_app_name doc_text
items_of_one = refl

pub items_of_two : AreItemsTold false 3
unfolding is_doc_id hex_number is_app_name doc_text
items_of_two = refl

pub told_of_a_grant : IsToldOfAGrant (record { read = false; write = true; grant_permissions = false; delete = true })
unfolding is_host_path is_app_name is_utf8 chars encode is_doc_id hex_number doc_text parent_of
told_of_a_grant = record { named = refl; some = refl; listed = refl; new = refl; whole = record { live = refl; all = refl }; shows = refl }
