-- What a trace holds of what the tree shows.
use Rattle.std.proofs.Common.{◌≡◌, ℕ, List, [], ◌∷◌, ◌++◌, Bool, true, false, ◌&&◌, cond, Option, Some, None, refl, sym, ap, ◌∙◌, map}
use Rattle.std.specs.List.{AllZip, flat_map}
use Rattle.std.specs.Option.{option_map}
use Rattle.portal_base.specs.declared.names.doc_id.DocId.{DocId}
use Rattle.portal_base.specs.declared.who.Who.{Who}
use Rattle.rights_rule.specs.Rights.{holds_any, rights_named}
use Rattle.portal_model.specs.declared.entry.Entry.{Entry}
use Rattle.portal_model.specs.declared.entry.Given.{Given}
use Rattle.portal_model.specs.declared.request.AddRequest.{AddRequest}
use Rattle.portal_model.specs.declared.request.NodeRequest.{NodeRequest}
use Rattle.portal_model.specs.declared.request.Request.{Request}
use Rattle.portal_model.specs.declared.state.Connection.{Connection}
use Rattle.portal_model.specs.declared.state.Document.{Document}
use Rattle.portal_model.specs.Add.{Added, add_file, taken_from_queue, used_again}
use Rattle.portal_model.specs.AddArguments.{are_add_arguments, are_presented, document_paths, is_left_out, reuses}
use Rattle.portal_model.specs.Arguments.{document_named, if_reached}
use Rattle.portal_model.specs.History.{makes}
use Rattle.portal_model.specs.Lawful.{Lawful}
use Rattle.file_generations.specs.Generations.{all_held}
use Rattle.portal_model.specs.Node.{node_given, walk_on_node}
use Rattle.portal_model.specs.NodeVerdict.{NodeVerdict, Errs, Yields}
use Rattle.portal_model.specs.State.{State, connection_of, held_in, held_of, is_none}
use Rattle.portal_model.specs.Step.{after, bus_of, mount_of, reply_at}
use Rattle.portal_model.specs.Valid.{Valid}
use Rattle.portal_model.proofs.WhoWaits.{none-nil}
use Rattle.app_world.specs.Add.{add_touch, document_used, files_touch, names_app, reused_of}
use Rattle.app_world.specs.Bus.{add_touch_by}
use Rattle.app_world.specs.DeleteDocument.{deleted_from}
use Rattle.app_world.specs.Effect.{Effect, Gone}
use Rattle.app_world.specs.Grant.{gained_in, granted_to}
use Rattle.app_world.specs.Laws.{asks}
use Rattle.app_world.specs.Node.{content_named, file_effects, node_touch, verdict_touch}
use Rattle.app_world.specs.Revoke.{revoked_from}
use Rattle.app_world.specs.Touched.{is_done}
use Rattle.app_world.specs.View.{held_document, view}
use Rattle.app_world.specs.World.{request_touch, reused_on, touch}
use Rattle.app_world.proofs.ReachedLaws.{own_reached-is}
use Rattle.app_world.proofs.ViewLaws.{documents-same}
use Rattle.served_world.specs.Laws.{AreApart, IsApart, TakesBareAlike, TellAlike, Telling, TellTheSame, TouchesNothing, TracesHoldOwnLooks, UsesNoneAgain, entries_telling, own_entries}
use Rattle.served_world.specs.ServedItem as item
use Rattle.served_world.specs.ServedItem.{ServedItem, bare, items_of_effect}
use Rattle.served_world.specs.ServedOwn.{ServedOwn, served_own}
use Rattle.served_world.specs.ServedWorld.{served_items, served_items_of, served_trace, views_after}
use Rattle.served_world.proofs.ServedNodes.{bytes-told}
use Rattle.served_world.proofs.ServedSteps.{served_steps}

-- ---- of a request on a node nothing is told

module _ (app : List ℕ) (s : State) where
  verdict-told : (o : Option NodeVerdict) → flat_map items_of_effect (verdict_touch app s o) ≡ []
  verdict-told None = refl
  verdict-told (Some (Errs errno)) = refl
  verdict-told (Some (Yields d)) = by_tree s.told
    where
      by_tree : (b : Bool) → flat_map items_of_effect (cond b (file_effects (view s app) (content_named (all_held (held_in s))) d.file) []) ≡ []
      by_tree true = bytes-told (view s app) (content_named (all_held (held_in s))) d.file
      by_tree false = refl

  mount-told : (r : NodeRequest) (given : Given) (o : Option Connection) → flat_map items_of_effect (node_touch app s r given o) ≡ []
  mount-told r given None = refl
  mount-told r given (Some c) = verdict-told (node_given (walk_on_node s c r) given)

  done-told : (fs : List Effect) (b : Bool) → flat_map items_of_effect fs ≡ [] → flat_map items_of_effect (cond b fs []) ≡ []
  done-told fs true h = h
  done-told fs false h = refl

  -- ---- of every other one the same, whatever was given to it but for numbers

  touched-same : (seat : ℕ) (request : Request) (given other : Given) → given.numbers ≡ other.numbers → flat_map items_of_effect (request_touch app s seat request given) ≡ flat_map items_of_effect (request_touch app s seat request other)
  touched-same seat (Request.Node r) given other n = mount-told r given (mount_of (connection_of s.connections seat)) ∙ sym (mount-told r other (mount_of (connection_of s.connections seat)))
  touched-same seat (Request.Add a) given other n = by_bus (bus_of (connection_of s.connections seat))
    where
      by_bus : (o : Option Connection) → flat_map items_of_effect (add_touch_by app s a given o) ≡ flat_map items_of_effect (add_touch_by app s a other o)
      by_bus None = refl
      by_bus (Some c) = ap (λ (numbers : List DocId). flat_map items_of_effect (add_touch app s c a numbers)) n
  touched-same seat request given other n = refl

  done-same : (fs gs : List Effect) (b : Bool) → flat_map items_of_effect fs ≡ flat_map items_of_effect gs → flat_map items_of_effect (cond b fs []) ≡ flat_map items_of_effect (cond b gs [])
  done-same fs gs true h = h
  done-same fs gs false h = refl

  other-told : (seat : ℕ) (request : Request) (given other : Given) → makes app s (asks seat request given) ≡ false → given.numbers ≡ other.numbers →
      is_done (reply_at s (asks seat request given)).answer ≡ is_done (reply_at s (asks seat request other)).answer → served_items_of app s (asks seat request given) ≡ served_items_of app s (asks seat request other)
  other-told seat request given other m n d =
      ap (λ (b : Bool). cond b (item.Own (served_own s (asks seat request given)) ∷ []) (flat_map items_of_effect (touch app s (asks seat request given)))) m
      ∙ (ap (λ (b : Bool). flat_map items_of_effect (cond b (request_touch app s seat request given) [])) d
      ∙ (done-same (request_touch app s seat request given) (request_touch app s seat request other) (is_done (reply_at s (asks seat request other)).answer) (touched-same seat request given other n)
      ∙ ap (λ (b : Bool). cond b (item.Own (served_own s (asks seat request other)) ∷ []) (flat_map items_of_effect (touch app s (asks seat request other)))) (sym m)))

-- ---- what touches nothing

module _ (app : List ℕ) (s : State) where
  files-quiet : (who : Who) (a : AddRequest) → names_app app a ≡ false → (paths : List (List ℕ)) (done : Added) → files_touch app who a done paths ≡ []
  files-quiet who a n [] done = refl
  files-quiet who a n (path ∷ paths) done = by_file (is_left_out a path) (names_app app a) n (files-quiet who a n paths (add_file who a done path))
    where
      by_file : (left named : Bool) → named ≡ false → files_touch app who a (add_file who a done path) paths ≡ [] →
          cond left [] (cond named (gained_in app done.state (rights_named a.names) (document_used a done.numbers path (used_again done.state.documents a path))) []) ++ files_touch app who a (add_file who a done path) paths ≡ []
      by_file true named e m = m
      by_file false true e m = cc
      by_file false false e m = m

  gone-quiet : (o : Option Document) → option_map (held_document (held_of s.rights app)) (if_reached s.rights (Who.App app) o) ≡ None → deleted_from app s o ≡ []
  gone-quiet None e = refl
  gone-quiet (Some d) e = by_held (holds_any (held_of s.rights app d.id.number)) e
    where
      by_held : (b : Bool) → option_map (held_document (held_of s.rights app)) (cond b (Some d) None) ≡ None → cond b (Gone d.id ∷ []) [] ≡ []
      by_held true f = cc
      by_held false f = refl

  request-quiet : (seat : ℕ) (request : Request) (given : Given) → TouchesNothing app s request → flat_map items_of_effect (request_touch app s seat request given) ≡ []
  request-quiet seat (Request.Node r) given q = mount-told app s r given (mount_of (connection_of s.connections seat))
  request-quiet seat (Request.Add a) given q = by_bus (bus_of (connection_of s.connections seat))
    where
      by_bus : (o : Option Connection) → flat_map items_of_effect (add_touch_by app s a given o) ≡ []
      by_bus None = refl
      by_bus (Some c) = ap (flat_map items_of_effect) (files-quiet c.who a q (document_paths c.queue a) (record { state = taken_from_queue c a s; numbers = given.numbers; ids = [] }))
  request-quiet seat (Request.Grant call) given q = ap (λ (b : Bool). flat_map items_of_effect (cond b (granted_to app s call (document_named s.documents call.doc)) [])) q
  request-quiet seat (Request.Revoke call) given q = ap (λ (b : Bool). flat_map items_of_effect (cond b (revoked_from app s call (document_named s.documents call.doc)) [])) q
  request-quiet seat (Request.DeleteDocument doc) given q =
      ap (flat_map items_of_effect) (gone-quiet (document_named s.documents doc) (sym (own_reached-is app s doc) ∙ q))
  request-quiet seat request given q = refl

  quiet-items : (e : Entry) → makes app s e ≡ false → TouchesNothing app s e.request → served_items_of app s e ≡ []
  quiet-items e m q =
      ap (λ (b : Bool). cond b (item.Own (served_own s e) ∷ []) (flat_map items_of_effect (touch app s e))) m
      ∙ done-told app s (request_touch app s e.seat e.request e.given) (is_done (reply_at s e).answer) (request-quiet e.seat e.request e.given q)

  quiet-trace : (e : Entry) (more : List Entry) → Valid s → Lawful s e → makes app s e ≡ false → TouchesNothing app s e.request → served_trace app s (e ∷ more) ≡ served_trace app (after s e) more
  quiet-trace e more v l m q =
      let none : served_items_of app s e ≡ [] = quiet-items e m q in
      λ i. record {
        opening = (ap (views_after (bare (view s app))) (sym none) ∙ served_steps.other app s e v l m) i;
        items = none i ++ served_items app (after s e) more;
      }

-- ---- the application's own

bare-alike : (app : List ℕ) (s t : State) → TakesBareAlike app s t → bare (view s app) ≡ bare (view t app)
bare-alike app s t a = λ i. record {
  handles = a.handles i;
  queued = a.queued i;
  file_bytes = a.file_bytes i;
  documents = documents-same (held_of s.rights app) (held_of t.rights app) s.documents t.documents a.documents i;
  connections = a.connections i;
  contents = [];
  below = [];
  files = [];
}

none-again : (s : State) (a : AddRequest) (o : Option Connection) → reuses a ≡ false → reused_on s a o ≡ []
none-again s a None e = refl
none-again s a (Some c) e = ap (λ (b : Bool). cond (b && (are_presented c.queue a && are_add_arguments c.queue a)) (reused_of s.documents a (document_paths c.queue a)) []) e

own-same : (s t : State) (seat : ℕ) (request : Request) (given : Given) → UsesNoneAgain request → served_own s (asks seat request given) ≡ served_own t (asks seat request given)
own-same s t seat (Request.Add a) given e =
    let same : reused_on s a (bus_of (connection_of s.connections seat)) ≡ reused_on t a (bus_of (connection_of t.connections seat)) = none-again s a (bus_of (connection_of s.connections seat)) e ∙ sym (none-again t a (bus_of (connection_of t.connections seat)) e) in
    λ i. record (served_own s (asks seat (Request.Add a) given)) { reused = same i }
own-same s t seat request given e = refl

-- ---- histories with the same own entries

-- an own entry that uses no document again
abbrev plain_own : Entry → ServedOwn
plain_own e = record {
  seat = e.seat;
  request = e.request;
  now = e.given.now;
  numbers = e.given.numbers;
  reused = [];
  looks = e.given.looks;
  listed = e.given.listed;
  full = e.given.full;
  fault = e.given.fault;
  generation = e.given.generation;
}

own-plain : (s : State) (seat : ℕ) (request : Request) (given : Given) → UsesNoneAgain request → served_own s (asks seat request given) ≡ plain_own (asks seat request given)
own-plain s seat (Request.Add a) given e =
    let same : reused_on s a (bus_of (connection_of s.connections seat)) ≡ [] = none-again s a (bus_of (connection_of s.connections seat)) e in
    λ i. record (plain_own (asks seat (Request.Add a) given)) { reused = same i }
own-plain s seat request given e = refl

abbrev plain_item : Entry → ServedItem
plain_item e = item.Own (plain_own e)

entry-apart : (app : List ℕ) (s : State) (e : Entry) (b : Bool) → makes app s e ≡ b → IsApart app s e b → (more : List ServedItem) (es : List Entry) → more ≡ map plain_item es →
    served_items_of app s e ++ more ≡ map plain_item (cond b (e ∷ []) [] ++ es)
entry-apart app s e true m h more es k =
    ap (λ (b : Bool). cond b (item.Own (served_own s e) ∷ []) (flat_map items_of_effect (touch app s e)) ++ more) m
    ∙ (λ i. item.Own (own-plain s e.seat e.request e.given h i) ∷ k i)
entry-apart app s e false m h more es k = ap (λ (items : List ServedItem). items ++ more) (quiet-items app s e m h) ∙ k

items-apart : (h : List Entry) (app : List ℕ) (s : State) → AreApart app s h → served_items app s h ≡ map plain_item (own_entries app s h)
items-apart [] app s a = refl
items-apart (e ∷ es) app s a =
    entry-apart app s e (makes app s e) refl a.0 (served_items app (after s e) es) (own_entries app (after s e) es) (items-apart es app (after s e) a.1)

same-trace : (app : List ℕ) (s t : State) (h k : List Entry) → TakesBareAlike app s t → AreApart app s h → AreApart app t k → own_entries app s h ≡ own_entries app t k → served_trace app s h ≡ served_trace app t k
same-trace app s t h k a x y e =
    λ i. record { opening = bare-alike app s t a i; items = (items-apart h app s x ∙ (ap (map plain_item) e ∙ sym (items-apart k app t y))) i }

-- ---- histories that tell the same

told-one : (app : List ℕ) (s : State) (e : Entry) (b : Bool) → makes app s e ≡ b → served_items_of app s e ≡ cond b (item.Own (served_own s e) ∷ []) (flat_map items_of_effect (touch app s e))
told-one app s e b m = ap (λ (x : Bool). cond x (item.Own (served_own s e) ∷ []) (flat_map items_of_effect (touch app s e))) m

module _ (app : List ℕ) where
  abbrev items_told : Telling → List ServedItem
  items_told x = served_items_of app x.state x.entry

  one-telling : (items rest : List ServedItem) (x : Telling) (xs : List Telling) (b : Bool) → is_none items ≡ b → items_told x ≡ items → rest ≡ flat_map items_told xs →
      items ++ rest ≡ flat_map items_told (cond b [] (x ∷ []) ++ xs)
  one-telling items rest x xs true n e h = ap (λ (i : List ServedItem). i ++ rest) (none-nil items n) ∙ h
  one-telling items rest x xs false n e h = λ i. sym e i ++ h i

  items-telling : (h : List Entry) (s : State) → served_items app s h ≡ flat_map items_told (entries_telling app s h)
  items-telling [] s = refl
  items-telling (e ∷ es) s =
      one-telling (served_items_of app s e) (served_items app (after s e) es) (record { state = s; entry = e }) (entries_telling app (after s e) es) (is_none (served_items_of app s e)) refl refl (items-telling es (after s e))

  told-same : (x y : Telling) (b c : Bool) → makes app x.state x.entry ≡ b → makes app y.state y.entry ≡ c → TellTheSame app x y b c → items_told x ≡ items_told y
  told-same x y true true m n h = told-one app x.state x.entry true m ∙ ((λ i. item.Own (h i) ∷ []) ∙ sym (told-one app y.state y.entry true n))
  told-same x y true false m n h = absurd h
  told-same x y false true m n h = absurd h
  told-same x y false false m n h = told-one app x.state x.entry false m ∙ (h ∙ sym (told-one app y.state y.entry false n))

  all-same : (xs ys : List Telling) → AllZip (TellAlike app) xs ys → flat_map items_told xs ≡ flat_map items_told ys
  all-same [] [] h = refl
  all-same [] (y ∷ ys) h = absurd h
  all-same (x ∷ xs) [] h = absurd h
  all-same (x ∷ xs) (y ∷ ys) h = λ i. told-same x y (makes app x.state x.entry) (makes app y.state y.entry) refl refl h.0 i ++ all-same xs ys h.1 i

  alike-trace : (s t : State) (h k : List Entry) → TakesBareAlike app s t → AllZip (TellAlike app) (entries_telling app s h) (entries_telling app t k) → served_trace app s h ≡ served_trace app t k
  alike-trace s t h k a z =
      λ i. record { opening = bare-alike app s t a i; items = (items-telling h s ∙ (all-same (entries_telling app s h) (entries_telling app t k) z ∙ sym (items-telling k t))) i }

pub own_looks_alone : TracesHoldOwnLooks
own_looks_alone = record {
  opening = bare-alike;
  same = alike-trace;
  apart = same-trace;
  own = λ s t e n. own-same s t e.seat e.request e.given n;
  reusing = λ s e told files. refl;
  quiet = quiet-trace;
  others = other-told;
}
