-- The world of one application over any tree of files, one that tells its files or one that
-- doesn't: its own machine, which knows nothing of the tree but what was shown to the very request
-- that it answers, and its trace.
use Rattle.std.specs.Prelude.{ℕ, List, [], ◌∷◌, ◌++◌, false, Option, Some, None, cond}
use Rattle.std.specs.List.{flat_map}
use Rattle.portal_model.specs.declared.entry.Entry.{Entry}
use Rattle.portal_model.specs.declared.reply.Answer.{Answer}
use Rattle.portal_model.specs.declared.reply.Reply.{Reply}
use Rattle.portal_model.specs.declared.request.NodeRequest.{NodeRequest}
use Rattle.portal_model.specs.declared.request.Request.{Request}
use Rattle.portal_model.specs.Bus.{is_tree, moment_given}
use Rattle.portal_model.specs.Content.{NotThere}
use Rattle.portal_model.specs.History.{makes}
use Rattle.portal_model.specs.NodeVerdict.{NodeVerdict}
use Rattle.portal_model.specs.State.{State}
use Rattle.portal_model.specs.Step.{after, not_here, with_signals}
use Rattle.portal_model.specs.Walk.{Walk, walked_with}
use Rattle.app_world.specs.Effect as effect
use Rattle.app_world.specs.Effect.{apply}
use Rattle.app_world.specs.Node.{own_settled_on_node, own_walk}
use Rattle.app_world.specs.View.{Alone, AppView, OwnConnection, found_connection, view}
use Rattle.app_world.specs.World.{own_mount_of, own_request_step, touch}
use Rattle.served_world.specs.ServedItem as item
use Rattle.served_world.specs.ServedItem.{ServedItem, bare, items_of_effect}
use Rattle.served_world.specs.ServedOwn.{ServedOwn, served_own, told_own}

-- ---- the application's own machine

-- The walk of a request goes by the looks and the names that were given to it, and not by what the
-- view shows.
abbrev pub served_node_given : Walk NodeVerdict → ServedOwn → Option NodeVerdict
served_node_given walk own =
    walked_with walk (moment_given own.now) own.listed own.looks (is_tree own.fault)

-- the view after, and the answer
abbrev pub served_node_answer :
    AppView → OwnConnection → NodeRequest → ServedOwn → AppView × Answer
served_node_answer v c r own =
    own_settled_on_node v c (served_node_given (own_walk v c own.generation r) own)

abbrev pub served_node_step :
    AppView → NodeRequest → ServedOwn → Option OwnConnection → AppView × Reply
served_node_step v r own None = not_here v
served_node_step v r own (Some c) = with_signals [] (served_node_answer v c r own)

-- a request on a node; every other one is answered as over a tree that tells
abbrev pub served_request_step : AppView → ServedOwn → Request → AppView × Reply
served_request_step v own (Request.Node r) =
    served_node_step v r own (own_mount_of (found_connection v.connections own.seat))
served_request_step v own request = own_request_step v (told_own own) request

-- what is done, without what the tree has
abbrev pub bare_done : AppView × Reply → AppView × Reply
bare_done done = (bare done.0, done.1)

-- the view after a request of the application, and the reply to it
abbrev pub served_step : AppView → ServedOwn → AppView × Reply
served_step v own = bare_done (served_request_step v own own.request)

-- the view after an item of the trace
abbrev pub view_after : AppView → ServedItem → AppView
view_after v (item.Own own) = (served_step v own).0
view_after v (item.Gained d rights) =
    bare (apply v (effect.Gained d rights (Alone (NotThere false))))
view_after v (item.Lost id rights) = bare (apply v (effect.Lost id rights))
view_after v (item.Gone id) = bare (apply v (effect.Gone id))

-- what is replied to it
abbrev pub replies_to : AppView → ServedItem → List Reply
replies_to v (item.Own own) = (served_step v own).1 ∷ []
replies_to v (item.Gained d rights) = []
replies_to v (item.Lost id rights) = []
replies_to v (item.Gone id) = []

-- the same of items, one after another
abbrev pub views_after : AppView → List ServedItem → AppView
views_after v [] = v
views_after v (i ∷ more) = views_after (view_after v i) more

abbrev pub served_replies : AppView → List ServedItem → List Reply
served_replies v [] = []
served_replies v (i ∷ more) = replies_to v i ++ served_replies (view_after v i) more

-- ---- the trace

abbrev pub served_items_of : List ℕ → State → Entry → List ServedItem
served_items_of app s e =
    cond (makes app s e)
    (item.Own (served_own s e) ∷ [])
    (flat_map items_of_effect (touch app s e))

abbrev pub served_items : List ℕ → State → List Entry → List ServedItem
served_items app s [] = []
served_items app s (e ∷ es) = served_items_of app s e ++ served_items app (after s e) es

pub record ServedTrace : Type 0 where
  pub opening : AppView
  pub items : List ServedItem

abbrev pub served_trace : List ℕ → State → List Entry → ServedTrace
served_trace app s h =
    record { opening = bare (view s app); items = served_items app s h }

-- what the machine replies to a trace
abbrev pub served_run : ServedTrace → List Reply
served_run t = served_replies t.opening t.items

-- ---- what the application asks

abbrev pub request_of : ServedItem → List Request
request_of (item.Own own) = own.request ∷ []
request_of (item.Gained d rights) = []
request_of (item.Lost id rights) = []
request_of (item.Gone id) = []

abbrev pub requests_in : ServedTrace → List Request
requests_in t = flat_map request_of t.items
