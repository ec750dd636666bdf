-- The worked examples of open files of strict documents.
use Rattle.std.proofs.Common.{refl, Err}
use Rattle.portal_base.specs.Names.{doc_text, hex_number, is_app_name, is_doc_id}
use Rattle.file_laws.specs.StrictExamples.{IsToldToStrictReader, RevocationsReachStrict, ViewsGoBySubjects}

pub reaching : RevocationsReachStrict
unfolding is_doc_id hex_number is_app_name doc_text
reaching = record {
  read = refl;
  written = refl;
  not_written = refl;
  not_sized = refl;
  still_read = refl;
  shown_so = refl;
  not_shown = refl;
  given_again = refl;
  gone = refl;
  flushed = refl;
  released = refl;
}

pub in-views : ViewsGoBySubjects
unfolding is_doc_id hex_number is_app_name doc_text
in-views = record { read = refl; not_read = refl; own = refl }

pub to_strict_reader : IsToldToStrictReader (Err 13)
unfolding is_doc_id hex_number is_app_name doc_text
to_strict_reader = refl
