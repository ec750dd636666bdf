-- The worked examples of what is in sight, by computation.
use Rattle.std.proofs.Common.{refl}
use Rattle.portal_base.specs.Names.{doc_text, hex_number, is_app_name, is_doc_id}
use Rattle.connection_laws.specs.SightExamples.{BytesComeWithTheRight, IsFirstOfOpen, IsFirstOfStrict, IsLengthToWriter, WhatIsInSight}

pub seen : WhatIsInSight
unfolding is_doc_id hex_number is_app_name doc_text
seen = record { to_read = refl; to_write = refl; opened = refl; opened_to_write = refl; strict = refl; given_again = refl }

pub told : BytesComeWithTheRight
unfolding is_doc_id hex_number is_app_name doc_text
told = refl

pub first_of_open : IsFirstOfOpen 104
unfolding is_doc_id hex_number is_app_name doc_text
first_of_open = refl

pub first_of_strict : IsFirstOfStrict 0
unfolding is_doc_id hex_number is_app_name doc_text
first_of_strict = refl

pub length_to_writer : IsLengthToWriter 5
unfolding is_doc_id hex_number is_app_name doc_text
length_to_writer = refl
