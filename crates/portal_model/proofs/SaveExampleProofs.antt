-- The worked examples of saving by rename, by computation.
use Rattle.std.proofs.Common.{refl}
use Rattle.portal_base.specs.Names.{doc_text, hex_number, is_app_name, is_doc_id, name_of, parent_of}
use Rattle.portal_model.specs.SaveExamples.{NotSaved, Saving, Temporaries}

pub saving : Saving
unfolding doc_text hex_number is_app_name is_doc_id name_of parent_of
saving = record {
  makes = refl;
  found = refl;
  writes = refl;
  unseen = refl;
  unread = refl;
  renamed = refl;
  older = refl;
  opens = refl;
  newer = refl;
  gone = refl;
}

pub temporaries : Temporaries
unfolding doc_text hex_number is_app_name is_doc_id name_of parent_of
temporaries = record {
  second = refl;
  again = refl;
  may_not_make = refl;
  lists = refl;
  replaces = refl;
  replaced = refl;
  unlinks = refl;
  unlinked = refl;
  still_open = refl;
}

pub not_saved : NotSaved
unfolding doc_text hex_number is_app_name is_doc_id name_of parent_of
not_saved = record {
  of_document = refl;
  flags = refl;
  unlinks_document = refl;
  unlinks_nothing = refl;
  elsewhere = refl;
  to_dots = refl;
  of_a_file = refl;
  one_more = refl;
  fails = refl;
  then_saves = refl;
}
