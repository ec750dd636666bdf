-- On the way to a plan: what becomes of each file of a call, by the documents that are live and the
-- files ahead of it. Of these the promise of an addition cites `are_below` alone.
use Rattle.std.specs.Prelude.{ℕ, List, [], ◌∷◌, ◌++◌, fold, get_or, map, nat_lt, Bool, true, false, ◌&&◌, cond, Option, Some, None}
use Rattle.std.specs.List.{list_all, position}
use Rattle.portal_base.specs.Names.{is_in_own_folder, is_same}
use Rattle.portal_base.specs.declared.names.doc_id.DocId.{DocId}
use Rattle.portal_base.specs.declared.who.Who.{Who}
use Rattle.rights_rule.specs.Rights.{RightSet, contains, union}
use Rattle.portal_model.specs.declared.request.AddRequest.{AddRequest}
use Rattle.portal_model.specs.declared.state.Document.{Document}
use Rattle.portal_model.specs.declared.state.Triple.{Triple}
use Rattle.portal_model.specs.Add.{adding_rights, used_again}
use Rattle.portal_model.specs.AddArguments.{document_path, is_as_needed, reuses}
use Rattle.portal_model.specs.State.{held_of}
use Rattle.add_files.specs.declared.plan.PlanItem.{PlanItem}
use Rattle.add_files.specs.declared.plan.PlanUse.{PlanUse}
use Rattle.add_files.specs.declared.plan.PlanUse.TheVariants.{LeftOut, Live, Earlier, New}
use Rattle.add_files.specs.Plans.{is_new, own_of}

-- the paths of the documents: of the presented files, or of the named file in each
abbrev pub presented_of : List (List ℕ) → List ℕ → List (List ℕ)
presented_of paths handles = map (λ handle. get_or paths handle []) handles

abbrev pub paths_of : AddRequest → List (List ℕ) → List ℕ → List (List ℕ)
paths_of a paths handles = map (document_path a) (presented_of paths handles)

abbrev pub are_below : ℕ → List ℕ → Bool
are_below n handles = list_all (λ handle. nat_lt handle n) handles

-- ---- one file

abbrev pub left_out : AddRequest → Option (List ℕ) → List ℕ → Bool
left_out a None path = false
left_out a (Some app) path = is_as_needed a && is_in_own_folder app path

-- the item makes a document of this path
abbrev pub makes : List ℕ → PlanItem → Bool
makes path item = is_new item.place && is_same item.path path

abbrev pub made_ahead : Option ℕ → PlanUse
made_ahead None = New
made_ahead (Some k) = Earlier k

abbrev pub place_used : AddRequest → List PlanItem → List ℕ → Option DocId → PlanUse
place_used a ahead path None = cond (reuses a) (made_ahead (position (makes path) ahead)) New
place_used a ahead path (Some id) = Live id

abbrev pub place_behind : List Document → AddRequest → Option (List ℕ) → List PlanItem → List ℕ →
    PlanUse
place_behind documents a app ahead path =
    cond (left_out a app path) LeftOut (place_used a ahead path (used_again documents a path))

abbrev pub item_at : Who → AddRequest → List ℕ → PlanUse → PlanItem
item_at who a path place = record { path = path; place = place; own = own_of who a place }

abbrev pub item_behind : List Document → Who → AddRequest → Option (List ℕ) → List PlanItem →
    List ℕ → PlanItem
item_behind documents who a app ahead path =
    item_at who a path (place_behind documents a app ahead path)

-- an application lists what it has then
abbrev pub lists_in : List Triple → List ℕ → AddRequest → RightSet → PlanUse → Bool
lists_in rights app a listed LeftOut = true
lists_in rights app a listed (Live id) =
    contains (union (held_of rights app id.number) (adding_rights a)) listed
lists_in rights app a listed (Earlier k) = contains (adding_rights a) listed
lists_in rights app a listed New = contains (adding_rights a) listed

abbrev pub may_list_in : List Triple → Who → AddRequest → RightSet → PlanUse → Bool
may_list_in rights Who.Host a listed place = true
may_list_in rights (Who.App app) a listed place = lists_in rights app a listed place

-- ---- all files

abbrev pub put_behind : List Document → Who → AddRequest → Option (List ℕ) → List PlanItem →
    List ℕ → List PlanItem
put_behind documents who a app ahead path =
    ahead ++ item_behind documents who a app ahead path ∷ []

abbrev pub items_of : List Document → Who → AddRequest → Option (List ℕ) → List (List ℕ) →
    List PlanItem
items_of documents who a app paths = fold (put_behind documents who a app) [] paths

abbrev pub may_list_items : List Triple → Who → AddRequest → RightSet → List PlanItem → Bool
may_list_items rights who a listed items =
    list_all (λ item. may_list_in rights who a listed item.place) items
