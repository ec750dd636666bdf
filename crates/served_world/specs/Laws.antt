-- Laws of the world of one application over any tree of files, which the public functions of
-- src/laws.rt state.
use Rattle.std.specs.Prelude.{◌≡◌, ℕ, List, [], ◌∷◌, ◌++◌, length, map, slice_get, Bool, true, false, cond, Some, None}
use Rattle.std.specs.List.{AllZip, flat_map}
use Rattle.file_generations.specs.Generations.{Held}
use Rattle.portal_base.specs.Names.{is_same}
use Rattle.portal_model.specs.declared.entry.Entry.{Entry}
use Rattle.portal_model.specs.declared.entry.Given.{Given}
use Rattle.portal_model.specs.declared.reply.Answer.{Answer}
use Rattle.portal_model.specs.declared.reply.NodeAnswer.{NodeAnswer}
use Rattle.portal_model.specs.declared.reply.Reply.{Reply}
use Rattle.portal_model.specs.declared.request.Request.{Request}
use Rattle.portal_model.specs.AddArguments.{reuses}
use Rattle.portal_model.specs.Alike.{Alike}
use Rattle.portal_model.specs.History.{Legal, makes, replies, run}
use Rattle.portal_model.specs.Lawful.{Lawful}
use Rattle.portal_model.specs.State.{State, is_none}
use Rattle.portal_model.specs.Step.{after, reply_at}
use Rattle.portal_model.specs.Valid.{Valid}
use Rattle.app_world.specs.Add.{names_app}
use Rattle.app_world.specs.Laws.{asks}
use Rattle.app_world.specs.OwnVerdict.{own_reached}
use Rattle.app_world.specs.Touched.{is_done}
use Rattle.app_world.specs.View.{own_connections, seen_at, view}
use Rattle.app_world.specs.World.{touch}
use Rattle.served_world.specs.ServedItem.{bare, items_of_effect}
use Rattle.served_world.specs.ServedOwn.{served_own}
use Rattle.served_world.specs.ServedWorld.{requests_in, served_items_of, served_run, served_step, served_trace, views_after}

-- ---- one step

-- Of a lawful entry, over any tree. Where the application makes it, its own machine gives the view
-- after, and a reply to which the portal's is alike; over a tree that tells nothing it is the
-- portal's. Where the application doesn't make it, what is told of it gives the view after.
pub record ServedStepsSeen : Type 0 where
  pub own_view :
      (app : List ℕ) (s : State) (e : Entry) → Valid s → Lawful s e → makes app s e ≡ true →
      (served_step (bare (view s app)) (served_own s e)).0 ≡ bare (view (after s e) app)
  pub own_reply :
      (app : List ℕ) (s : State) (e : Entry) → Valid s → Lawful s e → makes app s e ≡ true →
      Alike false e.request (served_step (bare (view s app)) (served_own s e)).1 (reply_at s e)
  pub untold :
      (app : List ℕ) (s : State) (e : Entry) → s.told ≡ false → Valid s → Lawful s e →
      makes app s e ≡ true →
      (served_step (bare (view s app)) (served_own s e)).1 ≡ reply_at s e
  pub other :
      (app : List ℕ) (s : State) (e : Entry) → Valid s → Lawful s e → makes app s e ≡ false →
      views_after (bare (view s app)) (served_items_of app s e) ≡ bare (view (after s e) app)

-- ---- what a trace holds

-- the tree has these files, or tells nothing
abbrev pub with_tree : Bool → Held → State → State
with_tree told tree s =
    record s { told = told; files = tree.present; hidden = tree.hidden }

-- the request adds no file whose document may be used again
abbrev pub UsesNoneAgain : Request → Type 0
UsesNoneAgain (Request.Add a) = reuses a ≡ false
UsesNoneAgain request = Unit {0}

-- a request of another doesn't name the application, nor a document that it holds, so as to give or
-- take a right
abbrev pub TouchesNothing : List ℕ → State → Request → Type 0
TouchesNothing app s (Request.Add a) = names_app app a ≡ false
TouchesNothing app s (Request.Grant call) = is_same call.app app ≡ false
TouchesNothing app s (Request.Revoke call) = is_same call.app app ≡ false
TouchesNothing app s (Request.DeleteDocument doc) = own_reached (view s app) doc ≡ None
TouchesNothing app s request = Unit {0}

-- an entry that tells the application something, and the state in which it is made
pub record Telling : Type 0 where
  pub state : State
  pub entry : Entry

-- those of a history: its own, and those of others that change its documents or its rights
abbrev pub entries_telling : List ℕ → State → List Entry → List Telling
entries_telling app s [] = []
entries_telling app s (e ∷ es) =
    cond (is_none (served_items_of app s e)) [] (record { state = s; entry = e } ∷ [])
    ++ entries_telling app (after s e) es

-- by whether the application makes each of two: the same was given to both, where it does, and else
-- both change the same
abbrev pub TellTheSame : List ℕ → Telling → Telling → Bool → Bool → Type 0
TellTheSame app x y true true = served_own x.state x.entry ≡ served_own y.state y.entry
TellTheSame app x y false false =
    flat_map items_of_effect (touch app x.state x.entry)
    ≡ flat_map items_of_effect (touch app y.state y.entry)
TellTheSame app x y first second = ⊥

abbrev pub TellAlike : List ℕ → Telling → Telling → Type 0
TellAlike app x y =
    TellTheSame app x y (makes app x.state x.entry) (makes app y.state y.entry)

-- the entries that the application makes, each with what the outside gave to it
abbrev pub own_entries : List ℕ → State → List Entry → List Entry
own_entries app s [] = []
own_entries app s (e ∷ es) =
    cond (makes app s e) (e ∷ []) [] ++ own_entries app (after s e) es

-- No entry of another touches what the application holds, and none of its own uses a document
-- again.
abbrev pub IsApart : List ℕ → State → Entry → Bool → Type 0
IsApart app s e true = UsesNoneAgain e.request
IsApart app s e false = TouchesNothing app s e.request

abbrev pub AreApart : List ℕ → State → List Entry → Type 0
AreApart app s [] = Unit {0}
AreApart app s (e ∷ es) = IsApart app s e (makes app s e) × AreApart app (after s e) es

-- What a view without contents takes from the state is the same in both: the limits that the
-- application meets, its connections, and the document of each number as it sees it.
pub record TakesBareAlike (app : List ℕ) (s t : State) : Type 0 where
  pub handles : s.limits.handles ≡ t.limits.handles
  pub queued : s.limits.queued ≡ t.limits.queued
  pub file_bytes : s.limits.file_bytes ≡ t.limits.file_bytes
  pub connections :
      own_connections app s.handles s.connections ≡ own_connections app t.handles t.connections
  pub documents : (number : ℕ) → seen_at s app number ≡ seen_at t app number

-- Of what the tree shows a trace holds what it showed to the application's own requests alone, and
-- of others what they change of its documents and rights.
pub record TracesHoldOwnLooks : Type 0 where
  -- it begins with what the application holds, whatever others hold and whatever files there are
  pub opening :
      (app : List ℕ) (s t : State) → TakesBareAlike app s t → bare (view s app) ≡ bare (view t app)
  -- Two histories have one trace in which the same is given to the application's own entries, and
  -- others change the same of its documents and rights between these, whatever others hold, ask and
  -- are shown beside, and whatever files there are.
  pub same :
      (app : List ℕ) (s t : State) (h k : List Entry) → TakesBareAlike app s t →
      AllZip (TellAlike app) (entries_telling app s h) (entries_telling app t k) →
      served_trace app s h ≡ served_trace app t k
  -- so have two with the same own entries, to which the same was given, where no request of another
  -- so much as names what could change it, and none of its own uses a document again
  pub apart :
      (app : List ℕ) (s t : State) (h k : List Entry) → TakesBareAlike app s t →
      AreApart app s h → AreApart app t k → own_entries app s h ≡ own_entries app t k →
      served_trace app s h ≡ served_trace app t k
  -- of an own entry it has the same in any two states, but for the documents that an Add uses
  -- again, and of such an Add whatever files there are
  pub own : (s t : State) (e : Entry) → UsesNoneAgain e.request → served_own s e ≡ served_own t e
  pub reusing :
      (s : State) (e : Entry) (told : Bool) (tree : Held) →
      served_own (with_tree told tree s) e ≡ served_own s e
  -- an entry of another that touches nothing might as well not be there; so each on a node
  pub quiet :
      (app : List ℕ) (s : State) (e : Entry) (more : List Entry) → Valid s → Lawful s e →
      makes app s e ≡ false → TouchesNothing app s e.request →
      served_trace app s (e ∷ more) ≡ served_trace app (after s e) more
  -- of any other it has the same, whatever the tree showed, if it is done, or isn't, and the same
  -- numbers are given to new documents
  pub others :
      (app : List ℕ) (s : State) (seat : ℕ) (request : Request) (given other : Given) →
      makes app s (asks seat request given) ≡ false → given.numbers ≡ other.numbers →
      is_done (reply_at s (asks seat request given)).answer
      ≡ is_done (reply_at s (asks seat request other)).answer →
      served_items_of app s (asks seat request given)
      ≡ served_items_of app s (asks seat request other)

-- ---- a whole history

-- each of these replies is alike to the one of its place, by its request
abbrev pub AreAlike : Bool → List Request → List Reply → List Reply → Type 0
AreAlike told [] [] [] = Unit {0}
AreAlike told (request ∷ requests) (stepped ∷ more) (given ∷ rest) =
    Alike told request stepped given × AreAlike told requests more rest
AreAlike told requests stepped given = ⊥

-- What is given to the application in a history: the replies of the steps, and over a tree that
-- doesn't tell its files ones that are alike to these.
abbrev pub AreGiven : List ℕ → State → List Entry → List Reply → Type 0
AreGiven app s h given =
    AreAlike s.told (requests_in (served_trace app s h)) (replies app s h) given

-- a reply without the content that a READ shows

abbrev pub node_answer_but_content : NodeAnswer → NodeAnswer
node_answer_but_content (NodeAnswer.Content content) = NodeAnswer.Content []
node_answer_but_content answer = answer

abbrev pub answer_but_content : Answer → Answer
answer_but_content (Answer.Node answer) = Answer.Node (node_answer_but_content answer)
answer_but_content answer = answer

abbrev pub but_content : Reply → Reply
but_content reply = record reply { answer = answer_but_content reply.answer }

-- In every legal history, over any tree, the replies to an application are what its own machine
-- replies to its trace, but for the content that a READ shows, which has at most the bytes that
-- were asked for.
pub record IsolatedOverAnyTree : Type 0 where
  pub alike :
      (app : List ℕ) (s : State) (h : List Entry) (given : List Reply) → Legal s h →
      AreGiven app s h given →
      AreAlike false (requests_in (served_trace app s h)) (served_run (served_trace app s h)) given
  -- so two histories with one trace give it the same but for these contents
  pub one_trace :
      (app : List ℕ) (s t : State) (h k : List Entry) (given other : List Reply) → Legal s h →
      Legal t k → AreGiven app s h given → AreGiven app t k other →
      served_trace app s h ≡ served_trace app t k → map but_content given ≡ map but_content other
  -- the replies of the steps, over a tree that tells, and over one that tells nothing
  pub stepped :
      (app : List ℕ) (s : State) (h : List Entry) → Legal s h →
      AreAlike false (requests_in (served_trace app s h)) (served_run (served_trace app s h))
      (replies app s h)
  pub untold :
      (app : List ℕ) (s : State) (h : List Entry) → s.told ≡ false → Legal s h →
      replies app s h ≡ served_run (served_trace app s h)
  -- The machine replies to each own entry at the entry's place among all own ones. To that is alike
  -- what is given where the step replies so.
  pub place :
      (app : List ℕ) (s : State) (front rest : List Entry) (e : Entry) →
      Legal s (front ++ e ∷ rest) → makes app (run s front) e ≡ true →
      (own : Reply)
      × (slice_get (served_run (served_trace app s (front ++ e ∷ rest)))
      (length (replies app s front))
      ≡ Some own)
      × ((given : Reply) → Alike s.told e.request (reply_at (run s front) e) given →
      Alike false e.request own given)
