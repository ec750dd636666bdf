-- The worked example of a document that is used again, by computation.
use lib.Utf8.{encode}
use Rattle.std.proofs.Common.{refl}
use Rattle.std.specs.Str.{is_utf8, chars}
use Rattle.portal_base.specs.Names.{child_of, doc_text, hex_number, is_app_name, is_doc_id, is_host_path, is_in_own_folder, own_folder, parent_of}
use Rattle.portal_model.proofs.ExampleProofs.{attributes, editor_name}
use Rattle.file_laws.specs.ReuseExamples.{UsedAgainIsShared}
use Rattle.file_laws.proofs.TouchExampleProofs.{viewer_name}

-- what is given to a request on a node, and to one on documents, where one look or none is taken
pub shared_again : UsedAgainIsShared
unfolding is_host_path is_app_name is_utf8 chars encode child_of own_folder is_in_own_folder is_doc_id hex_number doc_text parent_of
shared_again = record {
  legal = record {
    opening = attributes.legal.opening;
    lawful = (record { given = (editor_name, refl) }, (record { given = (viewer_name, refl) }, (record { given = (refl, refl) }, (record { given = record { looks = (refl, (refl, refl)); clock = refl; listed = refl; generation = refl; words = refl; numbers = refl; full = refl; keeper = λ e. cc } }, (record { given = record { looks = (refl, refl); clock = refl; listed = refl; generation = refl; words = refl; numbers = tt; full = refl; keeper = λ e. cc } }, (record { given = record { looks = (refl, (refl, refl)); clock = refl; listed = refl; generation = refl; words = refl; numbers = tt; full = refl; keeper = λ e. cc } }, (record { given = record { looks = (refl, (refl, refl)); clock = refl; listed = refl; generation = refl; words = refl; numbers = refl; full = refl; keeper = λ e. cc } }, (record { given = record { looks = refl; clock = refl; listed = refl; generation = refl; words = refl; numbers = refl; full = refl; keeper = λ e. cc } }, (record { given = record { looks = refl; clock = refl; listed = refl; generation = refl; words = refl; numbers = refl; full = refl; keeper = λ e. cc } }, tt)))))))));
  };
  answered = refl;
  made = refl;
  editor_told = refl;
  viewer_told = refl;
  replies = refl;
}
