-- The rights of an application in a document, as a history tells them: by what callers asked and
-- were answered as they added documents, gave and took rights, and deleted documents. The terms are
-- those of the documentation of org.freedesktop.portal.Documents.
use Rattle.std.specs.Prelude.{◌≡◌, ℕ, ◌==◌, List, [], ◌∷◌, fold, Bool, true, false, not, ◌&&◌, ◌||◌, cond, Option, Some, None}
use Rattle.portal_base.specs.Names.{hex_number, is_doc_id, is_same}
use Rattle.portal_base.specs.declared.who.Who.{Who}
use Rattle.rights_rule.specs.Rights.{RightSet, minus, no_rights, rights_named, union}
use Rattle.portal_model.specs.declared.entry.Entry.{Entry}
use Rattle.portal_model.specs.declared.reply.Answer.{Answer}
use Rattle.portal_model.specs.declared.request.AddRequest.{AddRequest}
use Rattle.portal_model.specs.declared.request.Request.{Request}
use Rattle.portal_model.specs.declared.request.RightsCall.{RightsCall}
use Rattle.portal_model.specs.declared.rights.Right.{Right}
use Rattle.portal_model.specs.Add.{adding_rights}
use Rattle.portal_model.specs.History.{Legal, maker, run}
use Rattle.portal_model.specs.Lawful.{Lawful}
use Rattle.portal_model.specs.State.{State, app_has, connection_of, held_of, is_app}
use Rattle.portal_model.specs.Step.{after, reply_at}
use Rattle.portal_model.specs.Valid.{Valid}
use Rattle.app_world.specs.Add.{names_app}
use Rattle.app_world.specs.Touched.{is_done}

-- the text is the identifier of the number
abbrev pub identifies : List ℕ → ℕ → Bool
identifies doc number = is_doc_id doc && hex_number doc == number

abbrev pub more_if : Bool → RightSet → RightSet → RightSet
more_if b more held = cond b (union held more) held

-- ---- what is told by a request that is done, of who held these rights

-- By the identifier that a file of an Add was answered: who adds gets its rights in the document,
-- and then the application that is named gets those that are listed.
abbrev pub told_by_file : List ℕ → ℕ → Who → AddRequest → RightSet → List ℕ → RightSet
told_by_file app number who a held doc =
    cond (identifies doc number)
    (more_if (names_app app a) (rights_named a.names)
    (more_if (is_app app who) (adding_rights a) held))
    held

-- an Add that is done is answered identifiers, one for each file
abbrev pub told_by_add : List ℕ → ℕ → Who → AddRequest → Answer → RightSet → RightSet
told_by_add app number who a (Answer.Ids docs) held = fold (told_by_file app number who a) held docs
told_by_add app number who a answer held = held

abbrev pub told_by_grant : List ℕ → ℕ → RightsCall → RightSet → RightSet
told_by_grant app number call held =
    cond (identifies call.doc number && is_same call.app app)
    (union held (rights_named call.names))
    held

abbrev pub told_by_revoke : List ℕ → ℕ → RightsCall → RightSet → RightSet
told_by_revoke app number call held =
    cond (identifies call.doc number && is_same call.app app)
    (minus held (rights_named call.names))
    held

abbrev pub told_by_delete : ℕ → List ℕ → RightSet → RightSet
told_by_delete number doc held = cond (identifies doc number) no_rights held

-- no other request changes a right
abbrev pub told_by : List ℕ → ℕ → Who → Request → Answer → RightSet → RightSet
told_by app number who (Request.Add a) answer held = told_by_add app number who a answer held
told_by app number who (Request.Grant call) answer held = told_by_grant app number call held
told_by app number who (Request.Revoke call) answer held = told_by_revoke app number call held
told_by app number who (Request.DeleteDocument doc) answer held = told_by_delete number doc held
told_by app number who (Request.Present path) answer held = held
told_by app number who (Request.LookupDocument path) answer held = held
told_by app number who (Request.Info doc) answer held = held
told_by app number who (Request.ListDocuments name) answer held = held
told_by app number who (Request.Store call) answer held = held
told_by app number who (Request.Enter caller kind) answer held = held
told_by app number who Request.Leave answer held = held
told_by app number who Request.Collect answer held = held
told_by app number who (Request.Node r) answer held = held

-- ---- an entry, and a history

abbrev pub told_if_done : List ℕ → ℕ → Option Who → Request → Answer → RightSet → RightSet
told_if_done app number None request answer held = held
told_if_done app number (Some who) request answer held =
    cond (is_done answer) (told_by app number who request answer held) held

-- by who makes the entry, what is asked, and what is answered
abbrev pub told_at : List ℕ → ℕ → State → Entry → RightSet → RightSet
told_at app number s e held =
    told_if_done app number (maker (connection_of s.connections e.seat) e.request) e.request
    (reply_at s e).answer held

-- after all entries, of who held these rights ahead of them
abbrev pub rights_told : List ℕ → ℕ → State → List Entry → RightSet → RightSet
rights_told app number s [] held = held
rights_told app number s (e ∷ es) held =
    rights_told app number (after s e) es (told_at app number s e held)

-- ---- a right that was not there before

-- an Add and a GrantPermissions alone may give rights
abbrev pub gives_rights : Request → Bool
gives_rights (Request.Add a) = true
gives_rights (Request.Grant call) = true
gives_rights (Request.Revoke call) = false
gives_rights (Request.DeleteDocument doc) = false
gives_rights (Request.Present path) = false
gives_rights (Request.LookupDocument path) = false
gives_rights (Request.Info doc) = false
gives_rights (Request.ListDocuments name) = false
gives_rights (Request.Store call) = false
gives_rights (Request.Enter who kind) = false
gives_rights Request.Leave = false
gives_rights Request.Collect = false
gives_rights (Request.Node r) = false

-- such an entry, which is done, and by which the application comes to have the right
abbrev pub gives_at : List ℕ → ℕ → Right → State → Entry → Bool
gives_at app number right s e =
    gives_rights e.request
    && (is_done (reply_at s e).answer
    && (not (app_has s.rights app number right) && app_has (after s e).rights app number right))

abbrev pub is_given_in : List ℕ → ℕ → Right → State → List Entry → Bool
is_given_in app number right s [] = false
is_given_in app number right s (e ∷ es) =
    gives_at app number right s e || is_given_in app number right (after s e) es

-- ---- the law

-- The rights of an application in the document of a number are those that the entries tell. So one
-- that it has and did not have before was given to it by an entry between, ahead of which it had it
-- not and after which it had it.
pub record RightsAreTold : Type 0 where
  pub entry :
      (app : List ℕ) (number : ℕ) (s : State) (e : Entry) → Valid s → Lawful s e →
      held_of (after s e).rights app number ≡ told_at app number s e (held_of s.rights app number)
  pub history :
      (app : List ℕ) (number : ℕ) (s : State) (h : List Entry) → Legal s h →
      held_of (run s h).rights app number
      ≡ rights_told app number s h (held_of s.rights app number)
  pub given :
      (app : List ℕ) (number : ℕ) (right : Right) (s : State) (h : List Entry) → Legal s h →
      app_has s.rights app number right ≡ false → app_has (run s h).rights app number right ≡ true →
      is_given_in app number right s h ≡ true
