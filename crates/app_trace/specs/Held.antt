-- The documents of an opening state in which an application has a right, one after another.
use Rattle.std.specs.Prelude.{ℕ, List, [], ◌∷◌, Bool, cond}
use Rattle.std.specs.List.{flat_map}
use Rattle.std.specs.Ordering.{is_lt, nat_cmp}
use Rattle.portal_model.specs.declared.opening.OpeningDocument.{OpeningDocument}
use Rattle.portal_model.specs.declared.state.Triple.{Triple}
use Rattle.portal_model.specs.Opening.{document_kept}
use Rattle.portal_model.specs.State.{held_of}
use Rattle.rights_rule.specs.Rights.{RightSet, holds_any}
use Rattle.app_trace.specs.declared.view.HeldDocument.{HeldDocument}

-- the document, where there are rights in it
abbrev pub held_if : RightSet → OpeningDocument → List HeldDocument
held_if rights d =
    cond (holds_any rights) (record { document = document_kept d; rights = rights } ∷ []) []

abbrev pub held_here : List Triple → List ℕ → OpeningDocument → List HeldDocument
held_here rights app d = held_if (held_of rights app d.kept.number) d

-- in order of addition
abbrev pub held_among : List Triple → List ℕ → List OpeningDocument → List HeldDocument
held_among rights app documents = flat_map (held_here rights app) documents

-- the order of numbers, as numbers are compared
abbrev pub number_less : HeldDocument → HeldDocument → Bool
number_less a b = is_lt (nat_cmp a.document.id.number b.document.id.number)
