-- The worked examples, by computation.
use lib.Utf8.{encode}
use Rattle.std.proofs.Common.{codes, true, false, refl}
use Rattle.std.specs.Str.{is_utf8, chars}
use Rattle.portal_base.specs.Names.{child_of, doc_text, hex_number, is_app_name, is_doc_id, is_host_path, name_of, parent_of}
use Rattle.folder_laws.specs.Examples.{AreNamed, FileIsMade, IsSecondNumber, NamingsAreOwn}

pub made : FileIsMade
unfolding doc_text hex_number is_app_name is_doc_id is_host_path name_of child_of parent_of is_utf8 chars encode
made = record {
  changed = refl;
  not_changed = refl;
  before = refl;
  after = refl;
  folder_before = refl;
  folder_after = refl;
  no_folder = refl;
  beside = refl;
  below = refl;
}

pub own : NamingsAreOwn
unfolding doc_text hex_number is_app_name is_doc_id is_host_path name_of child_of parent_of is_utf8 chars encode
own = record {
  both = refl;
  again = refl;
  elsewhere = refl;
  left = refl;
  used = refl;
  other_first = refl;
  below = record { behind = codes "q/r"; joined = refl; parts = refl };
}

pub second_here : IsSecondNumber true 2
unfolding doc_text hex_number is_app_name is_doc_id is_host_path name_of child_of parent_of is_utf8 chars encode
second_here = refl

pub second_elsewhere : IsSecondNumber false 1
unfolding doc_text hex_number is_app_name is_doc_id is_host_path name_of child_of parent_of is_utf8 chars encode
second_elsewhere = refl

pub none_named : AreNamed true 0
unfolding doc_text hex_number is_app_name is_doc_id is_host_path name_of child_of parent_of is_utf8 chars encode
none_named = refl

pub two_named : AreNamed false 2
unfolding doc_text hex_number is_app_name is_doc_id is_host_path name_of child_of parent_of is_utf8 chars encode
two_named = refl
