-- Rights that an application is given, and what has to be known to take them back.
use Rattle.std.specs.Prelude.{◌≡◌, ℕ, ◌≤◌, ◌++◌, ◌∷◌, [], List, length, Bool, true, cond, Option, Some, None}
use Rattle.portal_base.specs.declared.names.doc_id.DocId.{DocId}
use Rattle.portal_base.specs.declared.who.Who.{Who}
use Rattle.rights_rule.specs.Rights.{RightSet}
use Rattle.portal_model.specs.declared.state.Triple.{Triple}
use Rattle.portal_model.specs.Grant.{numbered_with}
use Rattle.portal_model.specs.Rights.{add_rights, are_in_order}
use Rattle.portal_model.specs.State.{held_of}
use Rattle.portal_model.specs.Valid.{applications_limit}
use Rattle.add_files.specs.declared.plan.AddPlan.{AddPlan}
use Rattle.add_calls.specs.declared.give.Given.{Given}
use Rattle.add_calls.specs.declared.give.GivenBoth.{GivenBoth}

-- no limit is passed where it gets these
abbrev pub HasRoomFor : List ℕ → RightSet → List (List ℕ) → Type 0
HasRoomFor app set applications = length (numbered_with app set applications) ≤ applications_limit

abbrev pub app_if : Bool → List ℕ → List (List ℕ)
app_if b app = cond b (app ∷ []) []

-- the application was given a number, or it had one or needs none
pub record Numbered (app : List ℕ) (set : RightSet) (new : Bool) (before after : List (List ℕ))
    : Type 0 where
  pub numbered : after ≡ numbered_with app set before
  pub joined : after ≡ before ++ app_if new app

-- the application was given these rights in the document, where it had those
pub record Gave (app : List ℕ) (id : DocId) (set : RightSet) (given : Given)
    (rights : List Triple) (applications : List (List ℕ)) (rights_after : List Triple)
    (applications_after : List (List ℕ)) : Type 0 where
  pub added : rights_after ≡ add_rights app id set rights
  pub in_order : are_in_order rights ≡ true
  pub had : given.before ≡ held_of rights app id.number
  pub numbered : Numbered app set given.numbered applications applications_after

-- ---- the caller, and the application that is named

abbrev pub caller_with : Who → RightSet → List (List ℕ) → List (List ℕ)
caller_with Who.Host own applications = applications
caller_with (Who.App app) own applications = numbered_with app own applications

abbrev pub HasRoomForCaller : Who → RightSet → List (List ℕ) → Type 0
HasRoomForCaller Who.Host own applications = Unit {0}
HasRoomForCaller (Who.App app) own applications = HasRoomFor app own applications

abbrev pub HasRoomForNamed : Option (List ℕ) → RightSet → List (List ℕ) → Type 0
HasRoomForNamed None listed applications = Unit {0}
HasRoomForNamed (Some app) listed applications = HasRoomFor app listed applications

abbrev pub HasRoomForBoth : Who → AddPlan → RightSet → List (List ℕ) → Type 0
HasRoomForBoth who plan own applications =
    HasRoomForCaller who own applications
    × HasRoomForNamed plan.app plan.listed (caller_with who own applications)

-- the host is given nothing
abbrev pub GaveOwn : Who → DocId → RightSet → Option Given → List Triple → List (List ℕ) →
    List Triple → List (List ℕ) → Type 0
GaveOwn Who.Host id own None rights apps rights_after apps_after =
    (rights_after ≡ rights) × (apps_after ≡ apps)
GaveOwn Who.Host id own (Some given) rights apps rights_after apps_after = ⊥
GaveOwn (Who.App app) id own None rights apps rights_after apps_after = ⊥
GaveOwn (Who.App app) id own (Some given) rights apps rights_after apps_after =
    Gave app id own given rights apps rights_after apps_after

abbrev pub GaveListed : Option (List ℕ) → DocId → RightSet → Option Given → List Triple →
    List (List ℕ) → List Triple → List (List ℕ) → Type 0
GaveListed None id listed None rights apps rights_after apps_after =
    (rights_after ≡ rights) × (apps_after ≡ apps)
GaveListed None id listed (Some given) rights apps rights_after apps_after = ⊥
GaveListed (Some app) id listed None rights apps rights_after apps_after = ⊥
GaveListed (Some app) id listed (Some given) rights apps rights_after apps_after =
    Gave app id listed given rights apps rights_after apps_after

-- the rights of one file: the caller's own, and then those that are listed
pub record GaveBoth (who : Who) (plan : AddPlan) (own : RightSet) (id : DocId) (given : GivenBoth)
    (rights : List Triple) (applications : List (List ℕ)) (rights_after : List Triple)
    (applications_after : List (List ℕ)) : Type 0 where
  pub rights_between : List Triple
  pub applications_between : List (List ℕ)
  pub first : GaveOwn who id own given.own rights applications rights_between applications_between
  pub second : GaveListed plan.app id plan.listed given.listed rights_between applications_between
      rights_after applications_after
