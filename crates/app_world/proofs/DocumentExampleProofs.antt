-- The worked examples of requests on documents, by computation.
use lib.Utf8.{encode}
use Rattle.std.proofs.Common.{[], ◌∷◌, refl, arith}
use Rattle.std.specs.Str.{is_utf8, chars}
use Rattle.portal_base.specs.Names.{is_host_path, is_app_name, child_of, own_folder, is_in_own_folder, is_doc_id, hex_number, doc_text, parent_of}
use Rattle.portal_model.specs.Opening.{id_of}
use Rattle.portal_model.proofs.DocumentExampleProofs.{no_keeper, no_keeper_of_tree, none_nearer}
use Rattle.app_world.specs.DocumentExamples.{GivenLawfully, RightsOfHistories, WhatIsTouched, WorldsOfAdditions, WorldsOfCalls, WorldsOfRemovals}

pub additions : WorldsOfAdditions
unfolding is_host_path is_app_name is_utf8 chars encode child_of own_folder is_in_own_folder is_doc_id hex_number doc_text parent_of
additions = record { once = refl; twice = refl; foreign = refl; again = refl; refused_ones = refl; limit = refl }

pub calls : WorldsOfCalls
unfolding is_host_path is_app_name is_utf8 chars encode child_of own_folder is_in_own_folder is_doc_id hex_number doc_text parent_of
calls = record { queue = refl; giving_rights = refl; asking_the_host_alone = refl }

pub removals : WorldsOfRemovals
unfolding is_host_path is_app_name is_utf8 chars encode child_of own_folder is_in_own_folder is_doc_id hex_number doc_text parent_of
removals = record { own = refl }

pub touched : WhatIsTouched
unfolding is_host_path is_app_name is_utf8 chars encode child_of own_folder is_in_own_folder is_doc_id hex_number doc_text parent_of
touched = record { by_host = refl; two_added = refl; one_reused = refl; number_nought = refl }

pub rights : RightsOfHistories
unfolding is_host_path is_app_name is_utf8 chars encode child_of own_folder is_in_own_folder is_doc_id hex_number doc_text parent_of
rights = record { given = refl; added = refl; elsewhere = refl; taken = refl; deleted = refl; changed = refl; given_between = refl; not_given = refl }

pub lawful : GivenLawfully
unfolding is_host_path is_app_name is_utf8 chars encode child_of own_folder is_in_own_folder is_doc_id hex_number doc_text parent_of
lawful = record {
  held = (record { given = record { looks = (refl, refl); clock = refl; listed = refl; generation = refl; words = refl; numbers = tt; full = refl; keeper = λ e. no_keeper e } }, (record { given = record { looks = (refl, (refl, refl)); clock = refl; listed = refl; generation = refl; words = refl; numbers = (omega arith, omega arith, record { unused = refl; first = none_nearer [] 5 }, tt); full = refl; keeper = λ e. no_keeper e } }, (record { given = record { looks = (refl, refl); clock = refl; listed = refl; generation = refl; words = refl; numbers = tt; full = refl; keeper = λ e. no_keeper e } }, (record { given = record { looks = (refl, (refl, refl)); clock = refl; listed = refl; generation = refl; words = refl; numbers = tt; full = refl; keeper = λ e. no_keeper e } }, (record { given = record { looks = (refl, refl); clock = refl; listed = refl; generation = refl; words = refl; numbers = tt; full = refl; keeper = λ e. no_keeper e } }, tt)))));
  refused_ones = (record { given = record { looks = (refl, refl); clock = refl; listed = refl; generation = refl; words = refl; numbers = tt; full = refl; keeper = λ e. no_keeper e } }, (record { given = record { looks = (refl, (refl, refl)); clock = refl; listed = refl; generation = refl; words = refl; numbers = tt; full = refl; keeper = λ e. no_keeper e } }, (record { given = record { looks = (refl, refl); clock = refl; listed = refl; generation = refl; words = refl; numbers = tt; full = refl; keeper = λ e. no_keeper e } }, (record { given = record { looks = (refl, refl); clock = refl; listed = refl; generation = refl; words = refl; numbers = tt; full = refl; keeper = λ e. no_keeper e } }, (record { given = record { looks = (refl, refl); clock = refl; listed = refl; generation = refl; words = refl; numbers = tt; full = refl; keeper = λ e. no_keeper e } }, (record { given = record { looks = (refl, refl); clock = refl; listed = refl; generation = refl; words = refl; numbers = tt; full = refl; keeper = λ e. no_keeper e } }, (record { given = record { looks = (refl, refl); clock = refl; listed = refl; generation = refl; words = refl; numbers = tt; full = refl; keeper = λ e. no_keeper e } }, (record { given = record { looks = (refl, refl); clock = refl; listed = refl; generation = refl; words = refl; numbers = tt; full = refl; keeper = λ e. no_keeper e } }, (record { given = record { looks = refl; clock = refl; listed = refl; generation = refl; words = refl; numbers = tt; full = refl; keeper = λ e. no_keeper_of_tree e } }, tt)))))))));
  queue = (record { given = record { looks = (refl, refl); clock = refl; listed = refl; generation = refl; words = refl; numbers = tt; full = refl; keeper = λ e. no_keeper e } }, (record { given = record { looks = (refl, refl); clock = refl; listed = refl; generation = refl; words = refl; numbers = tt; full = refl; keeper = λ e. no_keeper e } }, (record { given = record { looks = (refl, refl); clock = refl; listed = refl; generation = refl; words = refl; numbers = tt; full = refl; keeper = λ e. no_keeper e } }, (record { given = record { looks = (refl, refl); clock = refl; listed = refl; generation = refl; words = refl; numbers = tt; full = refl; keeper = λ e. no_keeper e } }, (record { given = record { looks = (refl, refl); clock = refl; listed = refl; generation = refl; words = refl; numbers = tt; full = refl; keeper = λ e. no_keeper e } }, (record { given = record { looks = (refl, refl); clock = refl; listed = refl; generation = refl; words = refl; numbers = tt; full = refl; keeper = λ e. no_keeper e } }, (record { given = record { looks = (refl, refl); clock = refl; listed = refl; generation = refl; words = refl; numbers = tt; full = refl; keeper = λ e. no_keeper e } }, (record { given = record { looks = (refl, refl); clock = refl; listed = refl; generation = refl; words = refl; numbers = tt; full = refl; keeper = λ e. no_keeper e } }, (record { given = record { looks = (refl, refl); clock = refl; listed = refl; generation = refl; words = refl; numbers = tt; full = refl; keeper = λ e. no_keeper e } }, (record { given = record { looks = (refl, refl); clock = refl; listed = refl; generation = refl; words = refl; numbers = tt; full = refl; keeper = λ e. no_keeper e } }, (record { given = record { looks = (refl, refl); clock = refl; listed = refl; generation = refl; words = refl; numbers = tt; full = refl; keeper = λ e. no_keeper e } }, (record { given = record { looks = (refl, refl); clock = refl; listed = refl; generation = refl; words = refl; numbers = tt; full = refl; keeper = λ e. no_keeper e } }, (record { given = record { looks = (refl, refl); clock = refl; listed = refl; generation = refl; words = refl; numbers = tt; full = refl; keeper = λ e. no_keeper e } }, (record { given = record { looks = (refl, refl); clock = refl; listed = refl; generation = refl; words = refl; numbers = tt; full = refl; keeper = λ e. no_keeper e } }, (record { given = record { looks = (refl, refl); clock = refl; listed = refl; generation = refl; words = refl; numbers = tt; full = refl; keeper = λ e. no_keeper e } }, (record { given = record { looks = (refl, refl); clock = refl; listed = refl; generation = refl; words = refl; numbers = tt; full = refl; keeper = λ e. no_keeper e } }, (record { given = record { looks = (refl, refl); clock = refl; listed = refl; generation = refl; words = refl; numbers = tt; full = refl; keeper = λ e. no_keeper e } }, (record { given = record { looks = (refl, refl); clock = refl; listed = refl; generation = refl; words = refl; numbers = tt; full = refl; keeper = λ e. no_keeper e } }, tt))))))))))))))))));
  giving_rights = (record { given = record { looks = (refl, refl); clock = refl; listed = refl; generation = refl; words = refl; numbers = tt; full = refl; keeper = λ e. no_keeper e } }, (record { given = record { looks = (refl, refl); clock = refl; listed = refl; generation = refl; words = refl; numbers = tt; full = refl; keeper = λ e. no_keeper e } }, (record { given = record { looks = (refl, refl); clock = refl; listed = refl; generation = refl; words = refl; numbers = tt; full = refl; keeper = λ e. no_keeper e } }, (record { given = record { looks = (refl, refl); clock = refl; listed = refl; generation = refl; words = refl; numbers = tt; full = refl; keeper = λ e. no_keeper e } }, (record { given = record { looks = (refl, refl); clock = refl; listed = refl; generation = refl; words = refl; numbers = tt; full = refl; keeper = λ e. no_keeper e } }, tt)))));
  asking_the_host_alone = (record { given = record { looks = (refl, refl); clock = refl; listed = refl; generation = refl; words = refl; numbers = tt; full = refl; keeper = λ e. no_keeper e } }, (record { given = record { looks = (refl, refl); clock = refl; listed = refl; generation = refl; words = refl; numbers = tt; full = refl; keeper = λ e. no_keeper e } }, (record { given = record { looks = (refl, refl); clock = refl; listed = refl; generation = refl; words = refl; numbers = tt; full = refl; keeper = λ e. no_keeper e } }, (record { given = record { looks = (refl, refl); clock = refl; listed = refl; generation = refl; words = refl; numbers = tt; full = refl; keeper = λ e. no_keeper e } }, (record { given = record { looks = (refl, refl); clock = refl; listed = refl; generation = refl; words = refl; numbers = tt; full = refl; keeper = λ e. no_keeper e } }, tt)))));
  own = (record { given = record { looks = (refl, refl); clock = refl; listed = refl; generation = refl; words = refl; numbers = tt; full = refl; keeper = λ e. no_keeper e } }, (record { given = record { looks = (refl, refl); clock = refl; listed = refl; generation = refl; words = refl; numbers = tt; full = refl; keeper = λ e. no_keeper e } }, (record { given = record { looks = (refl, refl); clock = refl; listed = refl; generation = refl; words = refl; numbers = tt; full = refl; keeper = λ e. no_keeper e } }, tt)));
  by_host = (record { given = record { looks = (refl, refl); clock = refl; listed = refl; generation = refl; words = refl; numbers = tt; full = refl; keeper = λ e. no_keeper e } }, (record { given = record { looks = (refl, refl); clock = refl; listed = refl; generation = refl; words = refl; numbers = tt; full = refl; keeper = λ e. no_keeper e } }, (record { given = record { looks = (refl, refl); clock = refl; listed = refl; generation = refl; words = refl; numbers = tt; full = refl; keeper = λ e. no_keeper e } }, (record { given = record { looks = (refl, refl); clock = refl; listed = refl; generation = refl; words = refl; numbers = tt; full = refl; keeper = λ e. no_keeper e } }, tt))));
  two_added = (record { given = record { looks = (refl, refl); clock = refl; listed = refl; generation = refl; words = refl; numbers = tt; full = refl; keeper = λ e. no_keeper e } }, (record { given = record { looks = (refl, (refl, (refl, refl))); clock = refl; listed = refl; generation = refl; words = refl; numbers = (omega arith, omega arith, record { unused = refl; first = none_nearer [] 5 }, (omega arith, omega arith, record { unused = refl; first = none_nearer (id_of 5 ∷ []) 6 }, tt)); full = refl; keeper = λ e. no_keeper e } }, (record { given = record { looks = (refl, refl); clock = refl; listed = refl; generation = refl; words = refl; numbers = tt; full = refl; keeper = λ e. no_keeper e } }, (record { given = record { looks = (refl, (refl, refl)); clock = refl; listed = refl; generation = refl; words = refl; numbers = (omega arith, omega arith, record { unused = refl; first = none_nearer (id_of 5 ∷ id_of 6 ∷ []) 7 }, tt); full = refl; keeper = λ e. no_keeper e } }, tt))));
  one_reused = (record { given = record { looks = (refl, refl); clock = refl; listed = refl; generation = refl; words = refl; numbers = tt; full = refl; keeper = λ e. no_keeper e } }, (record { given = record { looks = (refl, (refl, (refl, refl))); clock = refl; listed = refl; generation = refl; words = refl; numbers = (omega arith, omega arith, record { unused = refl; first = none_nearer [] 5 }, tt); full = refl; keeper = λ e. no_keeper e } }, (record { given = record { looks = (refl, refl); clock = refl; listed = refl; generation = refl; words = refl; numbers = tt; full = refl; keeper = λ e. no_keeper e } }, (record { given = record { looks = (refl, (refl, refl)); clock = refl; listed = refl; generation = refl; words = refl; numbers = tt; full = refl; keeper = λ e. no_keeper e } }, tt))));
}
