-- The worked examples of a folder that is a document, by computation.
use lib.Utf8.{encode}
use Rattle.std.proofs.Common.{refl}
use Rattle.std.specs.Str.{is_utf8, chars}
use Rattle.portal_base.specs.Names.{child_of, doc_text, hex_number, is_app_name, is_doc_id, is_host_path, name_of, parent_of}
use Rattle.portal_model.specs.FolderExamples.{NamesBelow, NotBelow}

pub below : NamesBelow
unfolding doc_text hex_number is_app_name is_doc_id is_host_path name_of child_of parent_of is_utf8 chars encode
below = record {
  document = refl;
  itself = refl;
  first = refl;
  makes = refl;
  again = refl;
  above = refl;
  opens = refl;
  lists = refl;
  elsewhere = refl;
}

pub not_below : NotBelow
unfolding doc_text hex_number is_app_name is_doc_id is_host_path name_of child_of parent_of is_utf8 chars encode
not_below = record {
  other_folder = refl;
  other_name = refl;
  unnamed_there = refl;
  no_folder = refl;
  may_not_make = refl;
  may_not_write = refl;
  may_not_change = refl;
  may_change = refl;
  not_opened = refl;
}
