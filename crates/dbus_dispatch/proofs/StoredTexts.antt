-- The texts of the permission store, which have no zero byte, are texts where they are UTF-8.
use Rattle.std.proofs.Common.{◌≡◌, ℕ, true, List, [], ◌∷◌}
use Rattle.std.specs.Prelude.{All, IsUtf8}
use Rattle.std.specs.List.{list_all}
use Rattle.std.proofs.lemmas.Bool.{and_parts}
use Rattle.std.proofs.lemmas.List.Elements.{All-nil, All-cons, All-head, All-tail}
use Rattle.portal_base.proofs.NoZeros.{all_from_test}
use Rattle.dbus_values.specs.Values.{IsText}
use Rattle.portal_model.specs.declared.records.Row.{Row}
use Rattle.portal_model.specs.declared.reply.Answer.{Answer}
use Rattle.portal_model.specs.declared.reply.Answer.TheVariants as A
use Rattle.portal_model.specs.Valid.{has_texts, is_text}
use Rattle.dbus_calls.specs.declared.error_name.ErrorName.{ErrorName}
use Rattle.dbus_dispatch.specs.Replies.{error_in}
use Rattle.dbus_dispatch.specs.Writable.{HasTexts, IsInUtf8, IsRowInUtf8}
use Rattle.std.specs.Prelude.{Some}

pub stored_text : (text : List ℕ) → is_text text ≡ true → IsUtf8 text → IsText text
stored_text text h utf8 = (utf8, all_from_test text h)

pub stored_texts : (texts : List (List ℕ)) → list_all is_text texts ≡ true → All IsUtf8 texts → All IsText texts
stored_texts [] h utf8 = All-nil IsText
stored_texts (t ∷ ts) h utf8 =
    let p = and_parts (is_text t) (list_all is_text ts) h in
    All-cons IsText t ts (stored_text t p.0 (All-head IsUtf8 t ts utf8)) (stored_texts ts p.1 (All-tail IsUtf8 t ts utf8))

stored_row : (row : Row) → has_texts row ≡ true → IsRowInUtf8 row → HasTexts row
stored_row row h utf8 =
    let p = and_parts (is_text row.app) (list_all is_text row.names) h in
    record { app = stored_text row.app p.0 utf8.app; names = stored_texts row.names p.1 utf8.names }

pub stored_rows_texts : (rows : List Row) → list_all has_texts rows ≡ true → All IsRowInUtf8 rows → All HasTexts rows
stored_rows_texts [] h utf8 = All-nil HasTexts
stored_rows_texts (row ∷ rows) h utf8 =
    let p = and_parts (has_texts row) (list_all has_texts rows) h in
    All-cons HasTexts row rows (stored_row row p.0 (All-head IsRowInUtf8 row rows utf8)) (stored_rows_texts rows p.1 (All-tail IsRowInUtf8 row rows utf8))

-- an answer that is an error has no text
pub error_utf8 : (answer : Answer) (e : ErrorName) → error_in answer ≡ Some e → IsInUtf8 answer
error_utf8 (A.Refused code) e is = tt
error_utf8 (A.Node told) e is = tt
error_utf8 (A.Entry rows datum) e is = absurd cc
error_utf8 (A.Names names) e is = absurd cc
error_utf8 A.Done e is = tt
error_utf8 (A.Place place) e is = tt
error_utf8 (A.Ids ids) e is = tt
error_utf8 (A.Info path rights) e is = tt
error_utf8 (A.Listed documents) e is = tt
