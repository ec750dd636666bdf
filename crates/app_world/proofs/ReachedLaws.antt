-- The document that a call names: what the application reaches in the portal is what it reaches in its view.
use Rattle.std.proofs.Common.{◌≡◌, ℕ, ◌==◌, List, Bool, true, false, cond, Option, Some, None, refl, sym, ap, ◌∙◌}
use Rattle.std.specs.Option.{option_map}
use Rattle.portal_base.specs.Names.{is_doc_id, hex_number}
use Rattle.portal_base.specs.declared.who.Who.{Who}
use Rattle.rights_rule.specs.Rights.{RightSet, holds_any}
use Rattle.portal_model.specs.declared.reply.Code.{Code}
use Rattle.portal_model.specs.declared.state.Document.{Document}
use Rattle.portal_model.specs.Arguments.{document_named, if_reached, reached}
use Rattle.portal_model.specs.Rights.{held_by}
use Rattle.portal_model.specs.State.{State, document_of, held_of}
use Rattle.portal_model.specs.Verdict.{Verdict, Refuses, Does, unless}
use Rattle.portal_model.proofs.ListLookups.{found_passes, nat_is}
use Rattle.app_world.specs.OwnVerdict.{OwnVerdict, OwnDoes, OwnRefuses, own_reached, own_unless}
use Rattle.app_world.specs.Effect.{Effect, apply_all}
use Rattle.app_world.specs.Touched.{is_done}
use Rattle.app_world.specs.View.{HeldDocument, found_document, held_document, seen, view}
use Rattle.app_world.proofs.DocumentLaws.{documents-found}

-- what a request comes to, as the application sees it
abbrev pub seen_verdict : List ℕ → Verdict → OwnVerdict
seen_verdict app (Refuses code) = OwnRefuses code
seen_verdict app (Does d) = OwnDoes (view d.state app) d.answer

map-if : (f : Document → HeldDocument) (d : Document) (b : Bool) → cond b (Some (f d)) None ≡ option_map f (cond b (Some d) None)
map-if f d true = refl
map-if f d false = refl

module _ (app : List ℕ) (s : State) where
  abbrev held : ℕ → RightSet
  held n = held_of s.rights app n

  reached-seen : (n : ℕ) (o : Option Document) → document_of s.documents n ≡ o → seen (held n) o ≡ option_map (held_document held) (if_reached s.rights (Who.App app) o)
  reached-seen n None e = refl
  reached-seen n (Some d) e =
      let m : d.id.number ≡ n = nat_is d.id.number n (found_passes (λ (x : Document). x.id.number == n) s.documents d e) in
      ap (λ (k : ℕ). seen (held k) (Some d)) (sym m) ∙ map-if (held_document held) d (holds_any (held d.id.number))

  pub own_reached-is : (doc : List ℕ) → own_reached (view s app) doc ≡ option_map (held_document held) (reached s (Who.App app) doc)
  own_reached-is doc = by_form (is_doc_id doc)
    where
      by_form : (b : Bool) → cond b (found_document (view s app).documents (hex_number doc)) None ≡ option_map (held_document held) (if_reached s.rights (Who.App app) (cond b (document_of s.documents (hex_number doc)) None))
      by_form true = documents-found held (hex_number doc) s.documents ∙ reached-seen (hex_number doc) (document_of s.documents (hex_number doc)) refl
      by_form false = refl

-- ---- a document that is named or reached is live

named-live : (documents : List Document) (n : ℕ) (b : Bool) (d : Document) → cond b (document_of documents n) None ≡ Some d → document_of documents d.id.number ≡ Some d
named-live documents n true d e = ap (document_of documents) (nat_is d.id.number n (found_passes (λ (x : Document). x.id.number == n) documents d e)) ∙ e
named-live documents n false d e = cc

if_reached-is : (s : State) (who : Who) (o : Option Document) (d : Document) → if_reached s.rights who o ≡ Some d → o ≡ Some d
if_reached-is s who None d e = cc
if_reached-is s who (Some x) d e = by_rights (holds_any (held_by s.rights who x.id.number)) e
  where
    by_rights : (b : Bool) → cond b (Some x) None ≡ Some d → Some x ≡ Some d
    by_rights true f = f
    by_rights false f = cc

pub reached-named : (s : State) (who : Who) (doc : List ℕ) (d : Document) → reached s who doc ≡ Some d → document_named s.documents doc ≡ Some d
reached-named s who doc d e = if_reached-is s who (document_named s.documents doc) d e

pub document_named-live : (s : State) (doc : List ℕ) (d : Document) → document_named s.documents doc ≡ Some d → document_of s.documents d.id.number ≡ Some d
document_named-live s doc d e = named-live s.documents (hex_number doc) (is_doc_id doc) d e

pub reached-live : (s : State) (who : Who) (doc : List ℕ) (d : Document) → reached s who doc ≡ Some d → document_of s.documents d.id.number ≡ Some d
reached-live s who doc d e = document_named-live s doc d (reached-named s who doc d e)

-- ---- checks in their order

pub seen-unless : (app : List ℕ) (wrong : Bool) (code : Code) (own : OwnVerdict) (verdict : Verdict) → own ≡ seen_verdict app verdict → own_unless wrong code own ≡ seen_verdict app (unless wrong code verdict)
seen-unless app true code own verdict e = refl
seen-unless app false code own verdict e = e

-- where it is done, these effects give the view after
abbrev pub IsTouched : List ℕ → State → List Effect → Verdict → Type 0
IsTouched app s fs (Refuses code) = Unit {0}
IsTouched app s fs (Does d) = (is_done d.answer ≡ true) × (apply_all (view s app) fs ≡ view d.state app)

pub touched-unless : (app : List ℕ) (s : State) (fs : List Effect) (wrong : Bool) (code : Code) (verdict : Verdict) → IsTouched app s fs verdict → IsTouched app s fs (unless wrong code verdict)
touched-unless app s fs true code verdict t = tt
touched-unless app s fs false code verdict t = t
