-- The worked examples of the requests on documents, by computation.
use lib.Utf8.{encode}
use Rattle.std.proofs.Common.{◌≡◌, ◌<◌, ◌^◌, ◌+◌, ◌++◌, nat_lt, length, ℕ, List, [], ◌∷◌, Bool, false, true, cond, refl, sym, ap, ◌∙◌, arith}
use Rattle.std.proofs.lemmas.Bool.Decides.{nat_tests}
use Rattle.std.proofs.lemmas.List.{length-append}
use Rattle.std.specs.Str.{is_utf8, chars}
use Rattle.portal_base.specs.Names.{is_host_path, is_app_name, child_of, own_folder, is_in_own_folder, is_doc_id, hex_number, doc_text}
use Rattle.portal_base.specs.declared.names.doc_id.DocId.{DocId}
use Rattle.portal_model.specs.declared.entry.Fault.{Fault}
use Rattle.portal_model.specs.declared.records.Records.{Records}
use Rattle.portal_model.specs.DocumentExamples.{AddsAndReuses, NumbersWrap, AddsOfOneFile, QueueIsFull, Grants, Informs, RevokesItsOwn, AddsWhatAnotherHolds, RefusesAdditions, KeeperFails, ApplicationsAreFull, viewer, ListsWhatItHolds, AddsNamed, CostsOfDocuments}
use Rattle.portal_model.specs.Documents.{above}
use Rattle.portal_model.specs.Opening.{id_of}
use Rattle.portal_model.specs.Valid.{applications_limit, is_made, is_none, is_numbered}

-- no number is nearer to a word than the word itself
pub none_nearer : (made : List DocId) (word other : ℕ) → other < 2 ^ 32 → above word other < 0 → is_made made other ≡ true
none_nearer made word other h l = absurd (omega arith)

-- no device failed
pub no_keeper : {X : Type 0} → Fault.None ≡ Fault.Keeper → X
no_keeper e = cc

pub no_keeper_of_tree : {X : Type 0} → Fault.Tree ≡ Fault.Keeper → X
no_keeper_of_tree e = cc

pub adds_and_reuses : AddsAndReuses
unfolding is_host_path is_app_name is_utf8 chars encode child_of own_folder is_in_own_folder is_doc_id hex_number doc_text
adds_and_reuses = record {
  answers_are = refl;
  given_is_due = refl;
  lawful = (
    record { given = record { looks = (refl, refl); clock = refl; listed = refl; generation = refl; words = refl; numbers = tt; full = refl; keeper = λ e. no_keeper e } },
    (
      record { given = record { looks = (refl, (refl, refl)); clock = refl; listed = refl; generation = refl; words = refl; numbers = (omega arith, omega arith, record { unused = refl; first = none_nearer [] 5 }, tt); full = refl; keeper = λ e. no_keeper e } },
      (
        record { given = record { looks = (refl, refl); clock = refl; listed = refl; generation = refl; words = refl; numbers = tt; full = refl; keeper = λ e. no_keeper e } },
        (
          record { given = record { looks = (refl, (refl, refl)); clock = refl; listed = refl; generation = refl; words = refl; numbers = tt; full = refl; keeper = λ e. no_keeper e } },
          (
            record { given = record { looks = (refl, refl); clock = refl; listed = refl; generation = refl; words = refl; numbers = tt; full = refl; keeper = λ e. no_keeper e } },
            (
              record { given = record { looks = (refl, (refl, refl)); clock = refl; listed = refl; generation = refl; words = refl; numbers = (omega arith, omega arith, record { unused = refl; first = none_nearer (id_of 5 ∷ []) 4294967295 }, tt); full = refl; keeper = λ e. no_keeper e } },
              (
                record { given = record { looks = (refl, refl); clock = refl; listed = refl; generation = refl; words = refl; numbers = tt; full = refl; keeper = λ e. no_keeper e } },
                (
                  record { given = record { looks = (refl, refl); clock = refl; listed = refl; generation = refl; words = refl; numbers = tt; full = refl; keeper = λ e. no_keeper e } },
                  (
                    record { given = record { looks = (refl, refl); clock = refl; listed = refl; generation = refl; words = refl; numbers = tt; full = refl; keeper = λ e. no_keeper e } },
                    tt,
                  ),
                ),
              ),
            ),
          ),
        ),
      ),
    ),
  );
}

pub adds_of_one_file : AddsOfOneFile
unfolding is_host_path is_app_name is_utf8 chars encode child_of own_folder is_in_own_folder is_doc_id hex_number doc_text
adds_of_one_file = record { reused = refl; unique = refl; left = refl; not_a_file = refl; reused_is_due = refl; unique_is_due = refl; left_is_due = refl; not_a_file_is_due = refl; reused_is_lawful = (record { given = record { looks = (refl, refl); clock = refl; listed = refl; generation = refl; words = refl; numbers = tt; full = refl; keeper = λ e. no_keeper e } }, (record { given = record { looks = (refl, (refl, (refl, refl))); clock = refl; listed = refl; generation = refl; words = refl; numbers = (omega arith, omega arith, record { unused = refl; first = none_nearer [] 5 }, tt); full = refl; keeper = λ e. no_keeper e } }, tt)); unique_is_lawful = (record { given = record { looks = (refl, refl); clock = refl; listed = refl; generation = refl; words = refl; numbers = tt; full = refl; keeper = λ e. no_keeper e } }, (record { given = record { looks = (refl, (refl, (refl, refl))); clock = refl; listed = refl; generation = refl; words = refl; numbers = (omega arith, omega arith, record { unused = refl; first = none_nearer [] 5 }, (omega arith, omega arith, record { unused = refl; first = none_nearer (id_of 5 ∷ []) 6 }, tt)); full = refl; keeper = λ e. no_keeper e } }, tt)); left_is_lawful = (record { given = record { looks = (refl, refl); clock = refl; listed = refl; generation = refl; words = refl; numbers = tt; full = refl; keeper = λ e. no_keeper e } }, (record { given = record { looks = (refl, (refl, refl)); clock = refl; listed = refl; generation = refl; words = refl; numbers = tt; full = refl; keeper = λ e. no_keeper e } }, tt)); not_a_file_is_lawful = (record { given = record { looks = (refl, refl); clock = refl; listed = refl; generation = refl; words = refl; numbers = tt; full = refl; keeper = λ e. no_keeper e } }, (record { given = record { looks = (refl, (refl, refl)); clock = refl; listed = refl; generation = refl; words = refl; numbers = tt; full = refl; keeper = λ e. no_keeper e } }, tt)) }

pub queue_is_full : QueueIsFull
unfolding is_host_path is_app_name is_utf8 chars encode child_of own_folder is_in_own_folder is_doc_id hex_number doc_text
queue_is_full = record { one_more = refl; places = refl; too_many = refl; bad_handle = refl; places_are_lawful = (record { given = record { looks = (refl, refl); clock = refl; listed = refl; generation = refl; words = refl; numbers = tt; full = refl; keeper = λ e. no_keeper e } }, (record { given = record { looks = (refl, refl); clock = refl; listed = refl; generation = refl; words = refl; numbers = tt; full = refl; keeper = λ e. no_keeper e } }, (record { given = record { looks = (refl, refl); clock = refl; listed = refl; generation = refl; words = refl; numbers = tt; full = refl; keeper = λ e. no_keeper e } }, (record { given = record { looks = (refl, refl); clock = refl; listed = refl; generation = refl; words = refl; numbers = tt; full = refl; keeper = λ e. no_keeper e } }, (record { given = record { looks = (refl, refl); clock = refl; listed = refl; generation = refl; words = refl; numbers = tt; full = refl; keeper = λ e. no_keeper e } }, (record { given = record { looks = (refl, refl); clock = refl; listed = refl; generation = refl; words = refl; numbers = tt; full = refl; keeper = λ e. no_keeper e } }, (record { given = record { looks = (refl, refl); clock = refl; listed = refl; generation = refl; words = refl; numbers = tt; full = refl; keeper = λ e. no_keeper e } }, (record { given = record { looks = (refl, refl); clock = refl; listed = refl; generation = refl; words = refl; numbers = tt; full = refl; keeper = λ e. no_keeper e } }, (record { given = record { looks = (refl, refl); clock = refl; listed = refl; generation = refl; words = refl; numbers = tt; full = refl; keeper = λ e. no_keeper e } }, (record { given = record { looks = (refl, refl); clock = refl; listed = refl; generation = refl; words = refl; numbers = tt; full = refl; keeper = λ e. no_keeper e } }, (record { given = record { looks = (refl, refl); clock = refl; listed = refl; generation = refl; words = refl; numbers = tt; full = refl; keeper = λ e. no_keeper e } }, (record { given = record { looks = (refl, refl); clock = refl; listed = refl; generation = refl; words = refl; numbers = tt; full = refl; keeper = λ e. no_keeper e } }, (record { given = record { looks = (refl, refl); clock = refl; listed = refl; generation = refl; words = refl; numbers = tt; full = refl; keeper = λ e. no_keeper e } }, (record { given = record { looks = (refl, refl); clock = refl; listed = refl; generation = refl; words = refl; numbers = tt; full = refl; keeper = λ e. no_keeper e } }, (record { given = record { looks = (refl, refl); clock = refl; listed = refl; generation = refl; words = refl; numbers = tt; full = refl; keeper = λ e. no_keeper e } }, (record { given = record { looks = (refl, refl); clock = refl; listed = refl; generation = refl; words = refl; numbers = tt; full = refl; keeper = λ e. no_keeper e } }, (record { given = record { looks = (refl, refl); clock = refl; listed = refl; generation = refl; words = refl; numbers = tt; full = refl; keeper = λ e. no_keeper e } }, tt))))))))))))))))); too_many_is_lawful = record { given = record { looks = (refl, refl); clock = refl; listed = refl; generation = refl; words = refl; numbers = tt; full = refl; keeper = λ e. no_keeper e } }; bad_handle_is_lawful = record { given = record { looks = (refl, refl); clock = refl; listed = refl; generation = refl; words = refl; numbers = tt; full = refl; keeper = λ e. no_keeper e } } }

pub grants_in_a_document : Grants
unfolding is_host_path is_app_name is_utf8 chars encode child_of own_folder is_in_own_folder is_doc_id hex_number doc_text
grants_in_a_document = record { answers_are = refl; lawful = (record { given = record { looks = (refl, refl); clock = refl; listed = refl; generation = refl; words = refl; numbers = tt; full = refl; keeper = λ e. no_keeper e } }, (record { given = record { looks = (refl, refl); clock = refl; listed = refl; generation = refl; words = refl; numbers = tt; full = refl; keeper = λ e. no_keeper e } }, (record { given = record { looks = (refl, refl); clock = refl; listed = refl; generation = refl; words = refl; numbers = tt; full = refl; keeper = λ e. no_keeper e } }, (record { given = record { looks = (refl, refl); clock = refl; listed = refl; generation = refl; words = refl; numbers = tt; full = refl; keeper = λ e. no_keeper e } }, (record { given = record { looks = (refl, refl); clock = refl; listed = refl; generation = refl; words = refl; numbers = tt; full = refl; keeper = λ e. no_keeper e } }, tt))))) }

pub informs_the_host : Informs
unfolding is_host_path is_app_name is_utf8 chars encode child_of own_folder is_in_own_folder is_doc_id hex_number doc_text
informs_the_host = record { host = refl; lookup = refl; application = refl; host_is_lawful = (record { given = record { looks = (refl, refl); clock = refl; listed = refl; generation = refl; words = refl; numbers = tt; full = refl; keeper = λ e. no_keeper e } }, (record { given = record { looks = (refl, refl); clock = refl; listed = refl; generation = refl; words = refl; numbers = tt; full = refl; keeper = λ e. no_keeper e } }, tt)); lookup_is_lawful = (record { given = record { looks = (refl, refl); clock = refl; listed = refl; generation = refl; words = refl; numbers = tt; full = refl; keeper = λ e. no_keeper e } }, (record { given = record { looks = (refl, refl); clock = refl; listed = refl; generation = refl; words = refl; numbers = tt; full = refl; keeper = λ e. no_keeper e } }, tt)); application_is_lawful = (record { given = record { looks = (refl, refl); clock = refl; listed = refl; generation = refl; words = refl; numbers = tt; full = refl; keeper = λ e. no_keeper e } }, (record { given = record { looks = (refl, refl); clock = refl; listed = refl; generation = refl; words = refl; numbers = tt; full = refl; keeper = λ e. no_keeper e } }, (record { given = record { looks = (refl, refl); clock = refl; listed = refl; generation = refl; words = refl; numbers = tt; full = refl; keeper = λ e. no_keeper e } }, (record { given = record { looks = (refl, refl); clock = refl; listed = refl; generation = refl; words = refl; numbers = tt; full = refl; keeper = λ e. no_keeper e } }, tt)))) }

pub revokes_its_own : RevokesItsOwn
unfolding is_host_path is_app_name is_utf8 chars encode child_of own_folder is_in_own_folder is_doc_id hex_number doc_text
revokes_its_own = record { answers_are = refl; lawful = (record { given = record { looks = (refl, refl); clock = refl; listed = refl; generation = refl; words = refl; numbers = tt; full = refl; keeper = λ e. no_keeper e } }, (record { given = record { looks = (refl, refl); clock = refl; listed = refl; generation = refl; words = refl; numbers = tt; full = refl; keeper = λ e. no_keeper e } }, (record { given = record { looks = (refl, refl); clock = refl; listed = refl; generation = refl; words = refl; numbers = tt; full = refl; keeper = λ e. no_keeper e } }, (record { given = record { looks = (refl, refl); clock = refl; listed = refl; generation = refl; words = refl; numbers = tt; full = refl; keeper = λ e. no_keeper e } }, (record { given = record { looks = (refl, refl); clock = refl; listed = refl; generation = refl; words = refl; numbers = tt; full = refl; keeper = λ e. no_keeper e } }, (record { given = record { looks = (refl, refl); clock = refl; listed = refl; generation = refl; words = refl; numbers = tt; full = refl; keeper = λ e. no_keeper e } }, tt)))))) }

pub adds_what_another_holds : AddsWhatAnotherHolds
unfolding is_host_path is_app_name is_utf8 chars encode child_of own_folder is_in_own_folder is_doc_id hex_number doc_text
adds_what_another_holds = record { answers_are = refl; given_is_due = refl; lawful = (record { given = record { looks = (refl, refl); clock = refl; listed = refl; generation = refl; words = refl; numbers = tt; full = refl; keeper = λ e. no_keeper e } }, (record { given = record { looks = (refl, (refl, refl)); clock = refl; listed = refl; generation = refl; words = refl; numbers = tt; full = refl; keeper = λ e. no_keeper e } }, (record { given = record { looks = (refl, refl); clock = refl; listed = refl; generation = refl; words = refl; numbers = tt; full = refl; keeper = λ e. no_keeper e } }, (record { given = record { looks = (refl, refl); clock = refl; listed = refl; generation = refl; words = refl; numbers = tt; full = refl; keeper = λ e. no_keeper e } }, (record { given = record { looks = (refl, refl); clock = refl; listed = refl; generation = refl; words = refl; numbers = tt; full = refl; keeper = λ e. no_keeper e } }, (record { given = record { looks = (refl, refl); clock = refl; listed = refl; generation = refl; words = refl; numbers = tt; full = refl; keeper = λ e. no_keeper e } }, tt)))))) }

only_last : (other : ℕ) → other < 2 ^ 32 → above 4294967295 other < above 4294967295 0 → is_made (id_of 4294967295 ∷ []) other ≡ true
only_last other h l =
    let e : other ≡ 4294967295 = omega arith in
    grind (arith, nat_tests, e)

pub numbers_wrap : NumbersWrap
unfolding is_host_path is_app_name is_utf8 chars encode child_of own_folder is_in_own_folder is_doc_id hex_number doc_text
numbers_wrap = record {
  unused = record { unused = refl; first = only_last };
  answers_are = refl;
  given_is_due = refl;
  lawful = (
    record { given = record { looks = (refl, refl); clock = refl; listed = refl; generation = refl; words = refl; numbers = tt; full = refl; keeper = λ e. no_keeper e } },
    (
      record { given = record { looks = (refl, (refl, refl)); clock = refl; listed = refl; generation = refl; words = refl; numbers = (omega arith, omega arith, record { unused = refl; first = only_last }, tt); full = refl; keeper = λ e. no_keeper e } },
      tt,
    ),
  );
}

pub refuses_additions : RefusesAdditions
unfolding is_host_path is_app_name is_utf8 chars encode child_of own_folder is_in_own_folder is_doc_id hex_number doc_text
refuses_additions = record { flag = refl; files = refl; limit = refl; limit_is_due = refl; fault = refl; handle = refl; flag_is_lawful = (record { given = record { looks = (refl, refl); clock = refl; listed = refl; generation = refl; words = refl; numbers = tt; full = refl; keeper = λ e. no_keeper e } }, (record { given = record { looks = (refl, refl); clock = refl; listed = refl; generation = refl; words = refl; numbers = tt; full = refl; keeper = λ e. no_keeper e } }, tt)); files_are_lawful = (record { given = record { looks = (refl, refl); clock = refl; listed = refl; generation = refl; words = refl; numbers = tt; full = refl; keeper = λ e. no_keeper e } }, (record { given = record { looks = (refl, refl); clock = refl; listed = refl; generation = refl; words = refl; numbers = tt; full = refl; keeper = λ e. no_keeper e } }, tt)); handle_is_lawful = (record { given = record { looks = (refl, refl); clock = refl; listed = refl; generation = refl; words = refl; numbers = tt; full = refl; keeper = λ e. no_keeper e } }, (record { given = record { looks = (refl, refl); clock = refl; listed = refl; generation = refl; words = refl; numbers = tt; full = refl; keeper = λ e. no_keeper e } }, tt)); limit_is_lawful = (record { given = record { looks = (refl, refl); clock = refl; listed = refl; generation = refl; words = refl; numbers = tt; full = refl; keeper = λ e. no_keeper e } }, (record { given = record { looks = (refl, (refl, refl)); clock = refl; listed = refl; generation = refl; words = refl; numbers = (omega arith, omega arith, record { unused = refl; first = none_nearer [] 5 }, tt); full = refl; keeper = λ e. no_keeper e } }, (record { given = record { looks = (refl, refl); clock = refl; listed = refl; generation = refl; words = refl; numbers = tt; full = refl; keeper = λ e. no_keeper e } }, (record { given = record { looks = (refl, (refl, refl)); clock = refl; listed = refl; generation = refl; words = refl; numbers = tt; full = refl; keeper = λ e. no_keeper e } }, (record { given = record { looks = (refl, refl); clock = refl; listed = refl; generation = refl; words = refl; numbers = tt; full = refl; keeper = λ e. no_keeper e } }, tt))))); fault_is_lawful = (record { given = record { looks = refl; clock = refl; listed = refl; generation = refl; words = refl; numbers = tt; full = refl; keeper = λ e. no_keeper_of_tree e } }, (record { given = record { looks = (refl, refl); clock = refl; listed = refl; generation = refl; words = refl; numbers = tt; full = refl; keeper = λ e. no_keeper e } }, tt)) }

pub keeper_fails : KeeperFails
unfolding is_host_path is_app_name is_utf8 chars encode child_of own_folder is_in_own_folder is_doc_id hex_number doc_text
keeper_fails = record {
  answers_are = refl;
  lawful = (record { given = record { looks = (refl, refl); clock = refl; listed = refl; generation = refl; words = refl; numbers = tt; full = refl; keeper = λ e. no_keeper e } }, (record { given = record { looks = (refl, (refl, refl)); clock = refl; listed = refl; generation = refl; words = refl; numbers = (omega arith, omega arith, record { unused = refl; first = none_nearer [] 5 }, tt); full = refl; keeper = λ e. (refl, λ same. let p : false ≡ true = ap (λ (r : Records). is_none r.documents) same in cc) } }, (record { given = record { looks = (refl, (refl, refl)); clock = refl; listed = refl; generation = refl; words = refl; numbers = (omega arith, omega arith, record { unused = refl; first = none_nearer [] 5 }, tt); full = refl; keeper = λ e. no_keeper e } }, tt)));
}

-- where all numbers of applications are taken, one application more passes the limit
more : (count : ℕ) → count ≡ applications_limit → nat_lt applications_limit (count + 1) ≡ true
more count e = grind (arith, nat_tests)

one_more : (names : List (List ℕ)) → length names ≡ applications_limit → is_numbered names viewer ≡ false → nat_lt applications_limit (length (cond (is_numbered names viewer) names (names ++ viewer ∷ []))) ≡ true
one_more names e n = ap (λ (b : Bool). nat_lt applications_limit (length (cond b names (names ++ viewer ∷ [])))) n ∙ (ap (nat_lt applications_limit) (length-append names (viewer ∷ [])) ∙ more (length names) e)

as_many : (count : ℕ) → count ≡ applications_limit → nat_lt applications_limit count ≡ false
as_many count e = grind (arith, nat_tests)

no_more : (names : List (List ℕ)) → length names ≡ applications_limit → is_numbered names viewer ≡ true → nat_lt applications_limit (length (cond (is_numbered names viewer) names (names ++ viewer ∷ []))) ≡ false
no_more names e n = ap (λ (b : Bool). nat_lt applications_limit (length (cond b names (names ++ viewer ∷ [])))) n ∙ as_many (length names) e

pub applications_are_full : ApplicationsAreFull
unfolding is_host_path is_app_name is_utf8 chars encode child_of own_folder is_in_own_folder is_doc_id hex_number doc_text
applications_are_full = record {
  refused_then = λ names. refl;
  stays = λ names. refl;
  limit_is_met = λ names e n. record { given = record { looks = (refl, refl); clock = refl; listed = refl; generation = refl; words = ap (λ (b : Bool). cond b 0 0) (sym (one_more names e n)); numbers = tt; full = sym (one_more names e n); keeper = λ e. no_keeper e } };
  done_then = λ names. refl;
  no_limit_is_met = λ names e n. record { given = record { looks = (refl, refl); clock = refl; listed = refl; generation = refl; words = ap (λ (b : Bool). cond b 0 0) (sym (no_more names e n)); numbers = tt; full = sym (no_more names e n); keeper = λ e. no_keeper e } };
}

pub lists_what_it_holds : ListsWhatItHolds
unfolding is_host_path is_app_name is_utf8 chars encode child_of own_folder is_in_own_folder is_doc_id hex_number doc_text
lists_what_it_holds = record { answers_are = refl; given_is_due = refl; lawful = (record { given = record { looks = (refl, refl); clock = refl; listed = refl; generation = refl; words = refl; numbers = tt; full = refl; keeper = λ e. no_keeper e } }, (record { given = record { looks = (refl, refl); clock = refl; listed = refl; generation = refl; words = refl; numbers = tt; full = refl; keeper = λ e. no_keeper e } }, (record { given = record { looks = (refl, refl); clock = refl; listed = refl; generation = refl; words = refl; numbers = tt; full = refl; keeper = λ e. no_keeper e } }, (record { given = record { looks = (refl, refl); clock = refl; listed = refl; generation = refl; words = refl; numbers = tt; full = refl; keeper = λ e. no_keeper e } }, (record { given = record { looks = (refl, refl); clock = refl; listed = refl; generation = refl; words = refl; numbers = tt; full = refl; keeper = λ e. no_keeper e } }, (record { given = record { looks = (refl, (refl, refl)); clock = refl; listed = refl; generation = refl; words = refl; numbers = tt; full = refl; keeper = λ e. no_keeper e } }, (record { given = record { looks = (refl, refl); clock = refl; listed = refl; generation = refl; words = refl; numbers = tt; full = refl; keeper = λ e. no_keeper e } }, tt))))))) }

pub adds_named : AddsNamed
unfolding is_host_path is_app_name is_utf8 chars encode child_of own_folder is_in_own_folder is_doc_id hex_number doc_text
adds_named = record { answers_are = refl; given_is_due = refl; lawful = (record { given = record { looks = (refl, refl); clock = refl; listed = refl; generation = refl; words = refl; numbers = tt; full = refl; keeper = λ e. no_keeper e } }, (record { given = record { looks = (refl, (refl, (refl, refl))); clock = refl; listed = refl; generation = refl; words = refl; numbers = (omega arith, omega arith, record { unused = refl; first = none_nearer [] 5 }, tt); full = refl; keeper = λ e. no_keeper e } }, (record { given = record { looks = (refl, refl); clock = refl; listed = refl; generation = refl; words = refl; numbers = tt; full = refl; keeper = λ e. no_keeper e } }, tt))) }

pub costs_of_documents : CostsOfDocuments
costs_of_documents = record { present = refl; add = refl; grant = refl; info = refl; list = refl }
