-- The worked examples of open files, by computation.
use Rattle.std.proofs.Common.{Ok, Err, refl}
use Rattle.portal_base.specs.Names.{doc_text, hex_number, is_app_name, is_doc_id}
use Rattle.portal_model.proofs.ExampleProofs.{attributes, editor_name}
use Rattle.file_laws.specs.Examples.{BothLawsApply, IsFirstElsewhere, IsToldToOpener, IsToldToReader, IsToldToWriter, RightsGivenAgain, WhatEndsAHandle}

pub again : RightsGivenAgain
unfolding is_doc_id hex_number is_app_name doc_text
again = record {
  read_lost = refl;
  write_lost = refl;
  not_given = refl;
  read_given = refl;
  write_not_given = refl;
}

pub ending : WhatEndsAHandle
unfolding is_doc_id hex_number is_app_name doc_text
ending = record { number = refl; kept = refl; released = refl; not_a_folder = refl; elsewhere = refl; left = refl; another_left = refl }

-- what is given to a request on a node and to one on documents, where one look or none is taken
pub apply : BothLawsApply
unfolding is_doc_id hex_number is_app_name doc_text
apply = record {
  legal = record {
    opening = attributes.legal.opening;
    lawful = (
      record { given = (editor_name, refl) },
      (
        record { given = (refl, refl) },
        (
          record { given = record { looks = (refl, (refl, refl)); clock = refl; listed = refl; generation = refl; words = refl; numbers = refl; full = refl; keeper = λ e. cc } },
          (
            record { given = record { looks = (refl, refl); clock = refl; listed = refl; generation = refl; words = refl; numbers = tt; full = refl; keeper = λ e. cc } },
            (
              record { given = record { looks = refl; clock = refl; listed = refl; generation = refl; words = refl; numbers = refl; full = refl; keeper = λ e. cc } },
              (
                record { given = record { looks = (refl, refl); clock = refl; listed = refl; generation = refl; words = refl; numbers = tt; full = refl; keeper = λ e. cc } },
                (record { given = record { looks = (refl, (refl, refl)); clock = refl; listed = refl; generation = refl; words = refl; numbers = refl; full = refl; keeper = λ e. cc } }, tt),
              ),
            ),
          ),
        ),
      ),
    );
  };
  number = refl;
  not_ended = refl;
  lost = refl;
  opens = record { own = refl; asked = refl; op = refl; done = refl };
  second = refl;
}

pub to_reader : IsToldToReader (Ok 5)
unfolding is_doc_id hex_number is_app_name doc_text
to_reader = refl

pub to_opener : IsToldToOpener (Err 2)
unfolding is_doc_id hex_number is_app_name doc_text
to_opener = refl

pub to_writer : IsToldToWriter (Ok 1)
unfolding is_doc_id hex_number is_app_name doc_text
to_writer = refl

pub elsewhere : IsFirstElsewhere 1
unfolding is_doc_id hex_number is_app_name doc_text
elsewhere = refl
