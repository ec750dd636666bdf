-- Documents that are found by a number, an identifier or as ones that serve again are live.
use Rattle.std.proofs.Common.{◌≡◌, ℕ, ◌==◌, List, [], ◌∷◌, Bool, true, false, cond, Option, Some, None, is_some, option_map, refl, ap, subst, arith}
use Rattle.std.specs.List.{find}
use Rattle.std.proofs.lemmas.Bool.Decides.{nat_tests}
use Rattle.portal_base.specs.Names.{hex_number, is_doc_id}
use Rattle.portal_base.specs.declared.names.doc_id.DocId.{DocId}
use Rattle.portal_base.specs.declared.who.Who.{Who}
use Rattle.rights_rule.specs.Rights.{holds_any}
use Rattle.portal_model.specs.declared.request.AddRequest.{AddRequest}
use Rattle.portal_model.specs.declared.state.Document.{Document}
use Rattle.portal_model.specs.declared.state.Triple.{Triple}
use Rattle.portal_model.specs.Add.{used_again}
use Rattle.portal_model.specs.AddArguments.{exports, makes_strict, persists, reuses}
use Rattle.portal_model.specs.Arguments.{document_named, if_reached, reached}
use Rattle.portal_model.specs.Documents.{id_of_document, serves}
use Rattle.portal_model.specs.Rights.{held_by}
use Rattle.portal_model.specs.State.{State, document_of}
use Rattle.portal_model.proofs.SoundParts.{is_live}

abbrev pub IsLive : List Document → Option Document → Type 0
IsLive ds None = Unit {0}
IsLive ds (Some d) = is_live ds d.id.number ≡ true

itself_equal : (n : ℕ) → (n == n) ≡ true
itself_equal n = grind (arith, nat_tests)

live_first : (x d : Document) (xs : List Document) (b : Bool) (o : Option Document) → (o ≡ Some d → is_live xs d.id.number ≡ true) → cond b (Some x) o ≡ Some d → is_live (x ∷ xs) d.id.number ≡ true
live_first x d xs true o f e =
    let same : x ≡ d = cc in
    subst (λ (y : Document). is_some (cond (x.id.number == y.id.number) (Some x) (document_of xs y.id.number)) ≡ true) same
    (ap (λ (b : Bool). is_some (cond b (Some x) (document_of xs x.id.number))) (itself_equal x.id.number))
live_first x d xs false o f e = by_number (x.id.number == d.id.number) (f e)
  where
    by_number : (b : Bool) → is_live xs d.id.number ≡ true → is_some (cond b (Some x) (document_of xs d.id.number)) ≡ true
    by_number true h = refl
    by_number false h = h

-- what is found in a list of documents is live in it
live_found : (p : Document → Bool) (ds : List Document) (d : Document) → find p ds ≡ Some d → is_live ds d.id.number ≡ true
live_found p [] d e = cc
live_found p (x ∷ xs) d e = live_first x d xs (p x) (find p xs) (live_found p xs d) e

pub live-of : (p : Document → Bool) (ds : List Document) (o : Option Document) → find p ds ≡ o → IsLive ds o
live-of p ds None e = tt
live-of p ds (Some d) e = live_found p ds d e

live_named_by : (ds : List Document) (doc : List ℕ) (b : Bool) → IsLive ds (cond b (document_of ds (hex_number doc)) None)
live_named_by ds doc true = live-of (λ (d : Document). d.id.number == hex_number doc) ds (document_of ds (hex_number doc)) refl
live_named_by ds doc false = tt

live_reached_by : (ds : List Document) (rights : List Triple) (who : Who) (o : Option Document) → IsLive ds o → IsLive ds (if_reached rights who o)
live_reached_by ds rights who None h = tt
live_reached_by ds rights who (Some d) h = by_any (holds_any (held_by rights who d.id.number))
  where
    by_any : (b : Bool) → IsLive ds (cond b (Some d) None)
    by_any true = h
    by_any false = tt

pub live-reached : (s : State) (who : Who) (doc : List ℕ) → IsLive s.documents (reached s who doc)
live-reached s who doc = live_reached_by s.documents s.rights who (document_named s.documents doc) (live_named_by s.documents doc (is_doc_id doc))

-- the same of a document that serves again
abbrev pub IsLiveId : List Document → Option DocId → Type 0
IsLiveId ds None = Unit {0}
IsLiveId ds (Some id) = is_live ds id.number ≡ true

live_id_of : (ds : List Document) (o : Option Document) → IsLive ds o → IsLiveId ds (option_map id_of_document o)
live_id_of ds None h = tt
live_id_of ds (Some d) h = h

pub live-again : (ds : List Document) (a : AddRequest) (path : List ℕ) → IsLiveId ds (used_again ds a path)
live-again ds a path = by_flag (reuses a)
  where
    by_flag : (b : Bool) → IsLiveId ds (cond b (option_map id_of_document (find (serves path (persists a) (makes_strict a) (exports a)) ds)) None)
    by_flag true = live_id_of ds (find (serves path (persists a) (makes_strict a) (exports a)) ds) (live-of (serves path (persists a) (makes_strict a) (exports a)) ds (find (serves path (persists a) (makes_strict a) (exports a)) ds) refl)
    by_flag false = tt
