-- Which application has which right in which document: triples in one order, by the number of the
-- document, by the bytes of the application's name, and by the right.
use Rattle.std.specs.Prelude.{ℕ, ◌==◌, nat_lt, List, [], ◌∷◌, ◌++◌, Bool, not, ◌&&◌, cond}
use Rattle.std.specs.List.{filter}
use Rattle.portal_base.specs.Names.{is_same}
use Rattle.portal_base.specs.declared.names.doc_id.DocId.{DocId}
use Rattle.portal_base.specs.declared.who.Who.{Who}
use Rattle.rights_rule.specs.Rights.{RightSet, all_rights}
use Rattle.portal_model.specs.declared.rights.Right.{Right}
use Rattle.portal_model.specs.declared.rights.Right.TheVariants.{Read, Write, GrantPermissions, Delete}
use Rattle.portal_model.specs.declared.state.Triple.{Triple}
use Rattle.portal_model.specs.Ordered.{bytes_less, put_all, is_rising}
use Rattle.portal_model.specs.State.{bit_of, held_of, same_right}

-- ---- their order

abbrev pub triple_less : Triple → Triple → Bool
triple_less t u =
    cond (t.id.number == u.id.number)
    (cond (is_same t.app u.app) (nat_lt (bit_of t.right) (bit_of u.right)) (bytes_less t.app u.app))
    (nat_lt t.id.number u.id.number)

abbrev pub are_in_order : List Triple → Bool
are_in_order rights = is_rising triple_less rights

abbrev pub same_triple : Triple → Triple → Bool
same_triple t u = is_same t.app u.app && (t.id.number == u.id.number && same_right t.right u.right)

-- ---- what is held

-- the rights of a caller in the live document of a number: the host has every right
abbrev pub held_by : List Triple → Who → ℕ → RightSet
held_by rights Who.Host number = all_rights
held_by rights (Who.App app) number = held_of rights app number

-- ---- what is added and taken away

abbrev pub triple : List ℕ → DocId → Right → Triple
triple app id right = record { app = app; id = id; right = right }

abbrev pub triple_if : Bool → Triple → List Triple
triple_if b t = cond b (t ∷ []) []

-- one triple for each right of the set
abbrev pub triples_of : List ℕ → DocId → RightSet → List Triple
triples_of app id set =
    triple_if set.read (triple app id Read)
    ++ (triple_if set.write (triple app id Write)
    ++ (triple_if set.grant_permissions (triple app id GrantPermissions)
    ++ triple_if set.delete (triple app id Delete)))

abbrev pub is_in : RightSet → Right → Bool
is_in set Read = set.read
is_in set Write = set.write
is_in set GrantPermissions = set.grant_permissions
is_in set Delete = set.delete

-- the listed triples are added, each in its place and none twice
abbrev pub add_rights : List ℕ → DocId → RightSet → List Triple → List Triple
add_rights app id set rights = put_all triple_less (triples_of app id set ++ rights)

abbrev pub is_listed : List ℕ → ℕ → RightSet → Triple → Bool
is_listed app number set t = is_same t.app app && (t.id.number == number && is_in set t.right)

-- the listed triples go, and no others
abbrev pub take_rights : List ℕ → ℕ → RightSet → List Triple → List Triple
take_rights app number set rights = filter (λ t. not (is_listed app number set t)) rights

-- all triples of the document go
abbrev pub forget_document : ℕ → List Triple → List Triple
forget_document number rights = filter (λ t. not (t.id.number == number)) rights
