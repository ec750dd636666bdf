-- The worked examples of requests on nodes in the world of one application, by computation.
use Rattle.std.proofs.Common.{true, false, refl}
use Rattle.portal_base.specs.Names.{doc_text, hex_number, is_app_name, is_doc_id, name_of, parent_of}
use Rattle.app_world.specs.FileExamples.{AreTold, FilesGivenLawfully, IsLeftToRead, WorldsOfFiles}

pub files : WorldsOfFiles
unfolding is_doc_id hex_number is_app_name doc_text name_of parent_of
files = record { reads = refl; written = refl; not_held = refl; nothing_written = refl; truncated = refl; resized = refl; made = refl; made_not_held = refl; is_there = refl; was_missing = refl; still_open = refl; released = refl }

pub told_to_editor : AreTold true 1
told_to_editor = refl

pub told_to_stranger : AreTold false 0
told_to_stranger = refl

pub left_to_read : IsLeftToRead 0
unfolding is_doc_id hex_number is_app_name doc_text
left_to_read = refl

-- what is given where a look is taken, where a call ends the walk, and where nothing is asked
pub given_lawfully : FilesGivenLawfully
unfolding is_doc_id hex_number is_app_name doc_text name_of parent_of
given_lawfully = record {
  reads = (record { given = record { looks = (refl, (refl, refl)); clock = refl; listed = refl; generation = refl; words = refl; numbers = refl; full = refl; keeper = λ e. cc } }, (record { given = record { looks = (refl, (refl, refl)); clock = refl; listed = refl; generation = refl; words = refl; numbers = refl; full = refl; keeper = λ e. cc } }, (record { given = record { looks = refl; clock = refl; listed = refl; generation = refl; words = refl; numbers = refl; full = refl; keeper = λ e. cc } }, (record { given = record { looks = refl; clock = refl; listed = refl; generation = refl; words = refl; numbers = refl; full = refl; keeper = λ e. cc } }, tt))));
  nothing_written = record { given = record { looks = (refl, refl); clock = refl; listed = refl; generation = refl; words = refl; numbers = refl; full = refl; keeper = λ e. cc } };
  truncated = record { given = record { looks = (refl, refl); clock = refl; listed = refl; generation = refl; words = refl; numbers = refl; full = refl; keeper = λ e. cc } };
  resized = record { given = record { looks = (refl, refl); clock = refl; listed = refl; generation = refl; words = refl; numbers = refl; full = refl; keeper = λ e. cc } };
  made = record { given = record { looks = (refl, refl); clock = refl; listed = refl; generation = refl; words = refl; numbers = refl; full = refl; keeper = λ e. cc } };
  released = (record { given = record { looks = (refl, refl); clock = refl; listed = refl; generation = refl; words = refl; numbers = tt; full = refl; keeper = λ e. cc } }, (record { given = record { looks = (refl, refl); clock = refl; listed = refl; generation = refl; words = refl; numbers = refl; full = refl; keeper = λ e. cc } }, tt));
  left = (record { given = record { looks = (refl, (refl, refl)); clock = refl; listed = refl; generation = refl; words = refl; numbers = refl; full = refl; keeper = λ e. cc } }, (record { given = record { looks = (refl, (refl, refl)); clock = refl; listed = refl; generation = refl; words = refl; numbers = refl; full = refl; keeper = λ e. cc } }, (record { given = record { looks = (refl, refl); clock = refl; listed = refl; generation = refl; words = refl; numbers = tt; full = refl; keeper = λ e. cc } }, (record { given = record { looks = (refl, refl); clock = refl; listed = refl; generation = refl; words = refl; numbers = refl; full = refl; keeper = λ e. cc } }, (record { given = record { looks = refl; clock = refl; listed = refl; generation = refl; words = refl; numbers = refl; full = refl; keeper = λ e. cc } }, tt)))));
}
