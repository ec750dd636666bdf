-- The numbers of nodes of kind 4, and what is seen at them.
use Rattle.std.proofs.Common.{◌≡◌, ◌<◌, ℕ, ◌+◌, ◌*◌, ◌/◌, ◌%◌, ◌^◌, ◌==◌, ◌&&◌, List, Bool, true, false, cond, Option, Some, None, refl, sym, ap, subst, ◌∙◌, arith}
use Rattle.std.proofs.lemmas.Nat.{div-mul-add, mod-mul-add}
use Rattle.portal_base.specs.declared.who.Who.{Who}
use Rattle.portal_model.specs.declared.naming.Naming.{Naming}
use Rattle.portal_model.specs.declared.place.Place.{Place}
use Rattle.portal_model.specs.declared.rights.Right.TheVariants.{Read, Write}
use Rattle.portal_model.specs.declared.state.Connection.{Connection}
use Rattle.portal_model.specs.declared.state.Document.{Document}
use Rattle.portal_model.specs.Place.{Sight, SightBelow, id_of_node, kind_of_node, named_node, place_from_one, place_named, place_of_kind_0, place_of_parts, seen_by, sight_at, sight_below, sight_of_naming, sight_on, subject_of, temp_on, view_of_node}
use Rattle.portal_model.specs.SeatNames.{naming_of}
use Rattle.portal_model.specs.State.{State, document_of, who_has}
use Rattle.portal_model.proofs.ListLookups.{nat_is}
use Rattle.folder_laws.specs.Nodes.{IsSeenByNaming}

-- ---- the parts of a number

module _ (view k : ℕ) (low : k < 2 ^ 32) where
  node-view : view_of_node (named_node view k) ≡ view
  node-view = div-mul-add view (2 ^ 36) (4 * 2 ^ 32 + k) (omega arith)

  -- the view and the kind stand ahead of the identifier
  turned : named_node view k ≡ (view * 16 + 4) * 2 ^ 32 + k
  turned = omega arith

  node-kind : kind_of_node (named_node view k) ≡ 4
  node-kind = ap (λ (n : ℕ). n / 2 ^ 32 % 16) turned ∙ (ap (λ (n : ℕ). n % 16) (div-mul-add (view * 16 + 4) (2 ^ 32) k low) ∙ mod-mul-add view 16 4 (omega arith))

  node-id : id_of_node (named_node view k) ≡ k
  node-id = ap (λ (n : ℕ). n % 2 ^ 32) turned ∙ mod-mul-add (view * 16 + 4) (2 ^ 32) k low

  pub place-is : (k == 0) ≡ false → place_named (named_node view k) ≡ Some (Place.Named view k)
  place-is some = (λ i. place_of_parts (node-view i) (node-kind i) (node-id i)) ∙ ap (λ (b : Bool). cond b None (Some (Place.Named view k))) some

-- ---- the identifier of a node that names a naming

abbrev Fits : ℕ → ℕ → Option Place → Type 0
Fits view id None = Unit {0}
Fits view id (Some (Place.Root v)) = Unit {0}
Fits view id (Some Place.ByApp) = Unit {0}
Fits view id (Some (Place.Folder v d)) = Unit {0}
Fits view id (Some (Place.File v d)) = Unit {0}
Fits view id (Some (Place.Named v k)) = id ≡ k
Fits view id (Some (Place.Temporary v k)) = Unit {0}

top-fits : (view id : ℕ) (a b : Bool) → Fits view id (cond a (Some (Place.Root view)) (cond b (Some Place.ByApp) None))
top-fits view id true b = tt
top-fits view id false true = tt
top-fits view id false false = tt

name-fits : (view id : ℕ) (b : Bool) → Fits view id (cond b None (Some (Place.Named view id)))
name-fits view id true = tt
name-fits view id false = refl

temp-fits : (view id : ℕ) (b : Bool) → Fits view id (cond b None (Some (Place.Temporary view id)))
temp-fits view id true = tt
temp-fits view id false = tt

parts-fit : (view id : ℕ) (a b c d e : Bool) → Fits view id (cond a (place_of_kind_0 view id) (cond b (Some (Place.Folder view (record { number = id }))) (cond c (Some (Place.File view (record { number = id }))) (cond d (place_from_one (Place.Named view) id) (cond e (place_from_one (Place.Temporary view) id) None)))))
parts-fit view id true b c d e = top-fits view id (id == 1) (id == 2 && view == 0)
parts-fit view id false true c d e = tt
parts-fit view id false false true d e = tt
parts-fit view id false false false true e = name-fits view id (id == 0)
parts-fit view id false false false false true = temp-fits view id (id == 0)
parts-fit view id false false false false false = tt

number-is : (node view k : ℕ) → place_named node ≡ Some (Place.Named view k) → id_of_node node ≡ k
number-is node view k e =
    subst (Fits (view_of_node node) (id_of_node node)) e
    (parts-fit (view_of_node node) (id_of_node node) (kind_of_node node == 0) (kind_of_node node == 1) (kind_of_node node == 2) (kind_of_node node == 4) (kind_of_node node == 5))

-- ---- what is seen there

module _ (s : State) (namings : List Naming) (view k : ℕ) (sight : Sight) where
  seen-live : (who : Who) (n : Naming) (own : naming_of namings k ≡ Some n) (here : n.view ≡ view) (d : Document) (live : document_of s.documents n.document.number ≡ Some d) (b : Bool) →
      cond b (Some (SightBelow view d n.path (who_has s.rights who d.id.number Write))) None ≡ Some sight → IsSeenByNaming s namings view k sight
  seen-live who n own here d live true e = record { naming = n; document = d; may_write = who_has s.rights who d.id.number Write; own = own; in_view = here; live = live; seen = let same : SightBelow view d n.path (who_has s.rights who d.id.number Write) ≡ sight = cc in sym same }
  seen-live who n own here d live false e = cc

  seen-below : (who : Who) (n : Naming) (own : naming_of namings k ≡ Some n) (here : n.view ≡ view) (o : Option Document) → document_of s.documents n.document.number ≡ o → sight_below view s.rights who n.path o ≡ Some sight → IsSeenByNaming s namings view k sight
  seen-below who n own here None live e = cc
  seen-below who n own here (Some d) live e = seen-live who n own here d live (who_has s.rights who d.id.number Read) e

  seen-naming : (who : Who) (o : Option Naming) → naming_of namings k ≡ o → sight_of_naming s view who o ≡ Some sight → IsSeenByNaming s namings view k sight
  seen-naming who None own e = cc
  seen-naming who (Some n) own e = step (n.view == view) refl e
    where
      step : (b : Bool) → (n.view == view) ≡ b → cond b (sight_below view s.rights who n.path (document_of s.documents n.document.number)) None ≡ Some sight → IsSeenByNaming s namings view k sight
      step true h f = seen-below who n own (nat_is n.view view h) (document_of s.documents n.document.number) refl f
      step false h f = cc

  seen-subject : (p : Option Who) → seen_by p (λ who. sight_of_naming s view who (naming_of namings k)) ≡ Some sight → IsSeenByNaming s namings view k sight
  seen-subject None e = cc
  seen-subject (Some who) e = seen-naming who (naming_of namings k) refl e

pub seen-by-naming : (s : State) (c : Connection) (node view k : ℕ) (sight : Sight) → place_named node ≡ Some (Place.Named view k) → sight_on s c node ≡ Some sight → IsSeenByNaming s c.namings view k sight
seen-by-naming s c node view k sight place e =
    let number : id_of_node node ≡ k = number-is node view k place in
    let there : sight_at s c.who (naming_of c.namings k) (temp_on c node) (Some (Place.Named view k)) ≡ Some sight = (λ i. sight_at s c.who (naming_of c.namings (sym number i)) (temp_on c node) (sym place i)) ∙ e in
    seen-subject s c.namings view k sight (subject_of s.applications c.who view) there
