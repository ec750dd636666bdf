-- A lawful Add tells of documents that are live after it.
use Rattle.std.proofs.Common.{◌≡◌, ℕ, ◌==◌, nat_eq, List, [], ◌∷◌, ◌++◌, drop, fold, map, Bool, true, false, not, cond, Option, Some, None, refl, sym, ap, ◌∙◌, subst}
use Rattle.std.specs.List.{IsDistinct}
use Rattle.portal_base.specs.declared.files.Look.{Look}
use Rattle.portal_base.specs.declared.names.doc_id.DocId.{DocId}
use Rattle.portal_base.specs.declared.who.Who.{Who}
use Rattle.rights_rule.specs.Rights.{RightSet, holds_any, minus, rights_named}
use Rattle.portal_model.specs.declared.entry.Fault.{Fault}
use Rattle.portal_model.specs.declared.entry.Given.{Given}
use Rattle.portal_model.specs.declared.reply.Answer.{Answer}
use Rattle.portal_model.specs.declared.reply.Code.{Code}
use Rattle.portal_model.specs.declared.request.AddRequest.{AddRequest}
use Rattle.portal_model.specs.declared.request.Request.{Request}
use Rattle.portal_model.specs.declared.state.Connection.{Connection}
use Rattle.portal_model.specs.declared.state.Document.{Document}
use Rattle.portal_model.specs.Add.{Added, add, add_allowed, add_file, add_looking, add_presented, add_shown, added, added_files, are_of_kind, first_number, may_list_all, new_document, taken_from_queue, use_document, used_again, with_new_document}
use Rattle.portal_model.specs.AddArguments.{are_add_arguments, are_presented, document_paths, is_left_out, paths_shown}
use Rattle.portal_model.specs.Bus.{bus_answer, is_tree, kept, moment_given, settled}
use Rattle.portal_model.specs.Lawful.{Lawful, LawfulOnBus}
use Rattle.portal_model.specs.Outside.{LawfulBus}
use Rattle.portal_model.specs.State.{State, connection_of, document_of, held_of}
use Rattle.portal_model.specs.Step.{after, all_told, bus_of, bus_step}
use Rattle.portal_model.specs.Valid.{Valid}
use Rattle.portal_model.specs.Verdict.{Doing, Does, Refuses, Verdict, unless, walk_unless}
use Rattle.portal_model.specs.Walk.{Walk, looks_at_all, walked}
use Rattle.portal_model.proofs.TripleOrder.{nat-itself}
use Rattle.portal_model.proofs.ValidLaws.{all_told-Valid}
use Rattle.app_world.specs.Add.{document_used, file_touch, files_touch, names_app}
use Rattle.app_world.specs.Bus.{add_touch_by}
use Rattle.app_world.specs.Effect.{Effect}
use Rattle.app_world.specs.Grant.{gained_if, gained_in}
use Rattle.app_world.specs.Laws.{asks}
use Rattle.app_world.specs.Touched.{is_done}
use Rattle.app_world.specs.World.{touch}
use Rattle.app_world.proofs.AddCallLaws.{begun, taken-keeps}
use Rattle.app_world.proofs.AddGiven.{lawful-free}
use Rattle.app_world.proofs.AddLaws.{Facts, Free, IsBase, base-again, base-new, rights-keep}
use Rattle.file_laws.specs.Touches.{EachEffect, IsLiveIn}

-- ---- what is told of live documents

abbrev AreLive : List Document → List Effect → Type 0
AreLive documents effects = EachEffect (IsLiveIn documents) effects

joined : (documents : List Document) (xs ys : List Effect) → AreLive documents xs → AreLive documents ys → AreLive documents (xs ++ ys)
joined documents [] ys h k = k
joined documents (x ∷ xs) ys h k = (h.0, joined documents xs ys h.1 k)

gained-live : (documents : List Document) (t : State) (d : Document) (more : RightSet) (b : Bool) → holds_any more ≡ b → document_of documents d.id.number ≡ Some d → AreLive documents (gained_if t d more)
gained-live documents t d more true e h = rw e (h, tt)
gained-live documents t d more false e h = rw e tt

-- ---- the documents while files are added

abbrev Differ : List Document → Type 0
Differ documents = IsDistinct nat_eq (map (λ (d : Document). d.id.number) documents)

-- a document stays live where another joins
found-ahead : (d x : Document) (n : ℕ) (documents : List Document) → document_of documents n ≡ Some x → document_of (documents ++ d ∷ []) n ≡ Some x
found-ahead d x n [] e = cc
found-ahead d x n (y ∷ ys) e = by_first (y.id.number == n) e (found-ahead d x n ys)
  where
    by_first : (b : Bool) → cond b (Some y) (document_of ys n) ≡ Some x → (document_of ys n ≡ Some x → document_of (ys ++ d ∷ []) n ≡ Some x) → cond b (Some y) (document_of (ys ++ d ∷ []) n) ≡ Some x
    by_first true f more = f
    by_first false f more = more f

module _ (who : Who) (a : AddRequest) where
  used-again : (done : Added) (path : List ℕ) (id : DocId) → (use_document who a path done (Some id)).state.documents ≡ done.state.documents
  used-again done path id = rights-keep (λ (s : State). s.documents) (λ s r p. refl) who a id done.state

  used-new : (done : Added) (path : List ℕ) → (use_document who a path done None).state.documents ≡ done.state.documents ++ new_document a (first_number done.numbers) path ∷ []
  used-new done path = rights-keep (λ (s : State). s.documents) (λ s r p. refl) who a (first_number done.numbers) (with_new_document (new_document a (first_number done.numbers) path) done.state)

  -- what is live stays so
  use-stays : (done : Added) (path : List ℕ) (again : Option DocId) (n : ℕ) (x : Document) → document_of done.state.documents n ≡ Some x → document_of (use_document who a path done again).state.documents n ≡ Some x
  use-stays done path (Some id) n x e = ap (λ (ds : List Document). document_of ds n) (used-again done path id) ∙ e
  use-stays done path None n x e = ap (λ (ds : List Document). document_of ds n) (used-new done path) ∙ found-ahead (new_document a (first_number done.numbers) path) x n done.state.documents e

  file-stays : (done : Added) (path : List ℕ) (b : Bool) (n : ℕ) (x : Document) → document_of done.state.documents n ≡ Some x →
      document_of (cond b (record done { ids = done.ids ++ [] ∷ [] }) (use_document who a path done (used_again done.state.documents a path))).state.documents n ≡ Some x
  file-stays done path true n x e = e
  file-stays done path false n x e = use-stays done path (used_again done.state.documents a path) n x e

  files-stay : (paths : List (List ℕ)) (done : Added) (n : ℕ) (x : Document) → document_of done.state.documents n ≡ Some x → document_of (fold (add_file who a) done paths).state.documents n ≡ Some x
  files-stay [] done n x e = e
  files-stay (path ∷ paths) done n x e = files-stay paths (add_file who a done path) n x (file-stays done path (is_left_out a path) n x e)

  -- two that go by the same documents and numbers
  pub record AsMuch (x y : Added) : Type 0 where
    pub documents : x.state.documents ≡ y.state.documents
    pub numbers : x.numbers ≡ y.numbers

  use-as_much : (x y : Added) (path : List ℕ) (again : Option DocId) → AsMuch x y → AsMuch (use_document who a path x again) (use_document who a path y again)
  use-as_much x y path (Some id) m = record { documents = used-again x path id ∙ (m.documents ∙ sym (used-again y path id)); numbers = m.numbers }
  use-as_much x y path None m = record {
    documents = used-new x path ∙ ((λ i. m.documents i ++ new_document a (first_number (m.numbers i)) path ∷ []) ∙ sym (used-new y path));
    numbers = ap (λ (ns : List DocId). drop 1 ns) m.numbers;
  }

  file-as_much : (x y : Added) (path : List ℕ) (b : Bool) → AsMuch x y →
      AsMuch (cond b (record x { ids = x.ids ++ [] ∷ [] }) (use_document who a path x (used_again x.state.documents a path))) (cond b (record y { ids = y.ids ++ [] ∷ [] }) (use_document who a path y (used_again y.state.documents a path)))
  file-as_much x y path true m = record { documents = m.documents; numbers = m.numbers }
  file-as_much x y path false m =
      subst (λ (ds : List Document). AsMuch (use_document who a path x (used_again ds a path)) (use_document who a path y (used_again y.state.documents a path))) (sym m.documents)
      (use-as_much x y path (used_again y.state.documents a path) m)

  -- ---- the document of one file

  -- without rights, of which nothing is asked here
  abbrev bare : State → State
  bare s = record s { rights = [] }

  bare-facts : (s : State) → Differ s.documents → Facts [] (bare s)
  bare-facts s h = record { differ = h; unheld = λ n e. refl }

  pub record IsUsed (done : Added) (path : List ℕ) (again : Option DocId) : Type 0 where
    pub differ : Differ (use_document who a path done again).state.documents
    pub live : (n : ℕ) → n ≡ (document_used a done.numbers path again).id.number → document_of (use_document who a path done again).state.documents n ≡ Some (document_used a done.numbers path again)

  one-used : (done : Added) (path : List ℕ) (again : Option DocId) → Differ done.state.documents → used_again done.state.documents a path ≡ again → (again ≡ None → document_of done.state.documents (first_number done.numbers).number ≡ None) → IsUsed done path again
  one-used done path (Some id) h e free =
      let b : IsBase [] who a (bare done.state) (bare done.state) id path = base-again [] who a (bare done.state) id path (bare-facts done.state h) e in
      record {
        differ = subst Differ (sym (used-again done path id)) h;
        live = λ n f.
            subst (λ (ds : List Document). document_of ds n ≡ Some (new_document a id path)) (sym (used-again done path id))
            (b.joins.live n ∙ ap (λ (c : Bool). cond c (Some (new_document a id path)) (document_of done.state.documents n)) (ap (λ (m : ℕ). id.number == m) f ∙ nat-itself id.number));
      }
  one-used done path None h e free =
      let id : DocId = first_number done.numbers in
      let base : State = with_new_document (new_document a id path) (bare done.state) in
      let b : IsBase [] who a (bare done.state) base id path = base-new [] who a (bare done.state) id path (bare-facts done.state h) (free refl) in
      record {
        differ = subst Differ (sym (used-new done path)) b.differ;
        live = λ n f.
            subst (λ (ds : List Document). document_of ds n ≡ Some (new_document a id path)) (sym (used-new done path))
            (b.joins.live n ∙ ap (λ (c : Bool). cond c (Some (new_document a id path)) (document_of done.state.documents n)) (ap (λ (m : ℕ). id.number == m) f ∙ nat-itself id.number));
      }

  -- ---- the files

  module _ (app : List ℕ) where
    -- what one file tells, in whatever state, is of its document
    told-live : (documents : List Document) (t : State) (d : Document) (b c : Bool) → (b ≡ false → document_of documents d.id.number ≡ Some d) → AreLive documents (cond b [] (cond c (gained_in app t (rights_named a.names) d) []))
    told-live documents t d true c h = tt
    told-live documents t d false true h = gained-live documents t d (minus (rights_named a.names) (held_of t.rights app d.id.number)) (holds_any (minus (rights_named a.names) (held_of t.rights app d.id.number))) refl (h refl)
    told-live documents t d false false h = tt

    differ-more : (done : Added) (path : List ℕ) (b : Bool) → Differ done.state.documents → (b ≡ false → IsUsed done path (used_again done.state.documents a path)) →
        Differ (cond b (record done { ids = done.ids ++ [] ∷ [] }) (use_document who a path done (used_again done.state.documents a path))).state.documents
    differ-more done path true h u = h
    differ-more done path false h u = (u refl).differ

    now-live : (done : Added) (path : List ℕ) (b : Bool) → b ≡ false → IsUsed done path (used_again done.state.documents a path) →
        document_of (cond b (record done { ids = done.ids ++ [] ∷ [] }) (use_document who a path done (used_again done.state.documents a path))).state.documents (document_used a done.numbers path (used_again done.state.documents a path)).id.number
        ≡ Some (document_used a done.numbers path (used_again done.state.documents a path))
    now-live done path true e u = cc
    now-live done path false e u = u.live (document_used a done.numbers path (used_again done.state.documents a path)).id.number refl

    -- y goes by the same documents as x, whose rights are those that are told
    files-live : (paths : List (List ℕ)) (x y : Added) → AsMuch x y → Differ y.state.documents → Free who a y paths → AreLive (fold (add_file who a) y paths).state.documents (files_touch app who a x paths)
    files-live [] x y m h free = tt
    files-live (path ∷ paths) x y m h free =
        let used : is_left_out a path ≡ false → IsUsed y path (used_again y.state.documents a path) = λ e. one-used y path (used_again y.state.documents a path) h refl (free.0 e) in
        let d : Document = document_used a y.numbers path (used_again y.state.documents a path) in
        let end : List Document = (fold (add_file who a) y (path ∷ paths)).state.documents in
        let same : document_used a x.numbers path (used_again x.state.documents a path) ≡ d = λ i. document_used a (m.numbers i) path (used_again (m.documents i) a path) in
        joined end (file_touch app a x path) (files_touch app who a (add_file who a x path) paths)
        (subst (λ (z : Document). AreLive end (cond (is_left_out a path) [] (cond (names_app app a) (gained_in app x.state (rights_named a.names) z) []))) (sym same)
        (told-live end x.state d (is_left_out a path) (names_app app a) (λ e. files-stay paths (add_file who a y path) d.id.number d (now-live y path (is_left_out a path) e (used e)))))
        (files-live paths (add_file who a x path) (add_file who a y path) (file-as_much x y path (is_left_out a path) m) (differ-more y path (is_left_out a path) h used) free.1)

-- ---- the call

-- what is asked of a verdict that is there and does something
abbrev OfDoing : (Doing → Type 0) → Verdict → Type 0
OfDoing P (Refuses code) = Unit {0}
OfDoing P (Does d) = P d

abbrev OfGiven : (Doing → Type 0) → Option Verdict → Type 0
OfGiven P None = Unit {0}
OfGiven P (Some v) = OfDoing P v

module _ (P : Doing → Type 0) where
  of-walk : (paths : List (List ℕ)) (next : List Look → Walk Verdict) (now : ℕ) (looks : List Look) (failed : Bool) →
      ((all : List Look) (now2 : ℕ) (more : List Look) (failed2 : Bool) → walked (looks_at_all paths next) now looks failed ≡ walked (next all) now2 more failed2 → OfGiven P (walked (next all) now2 more failed2)) →
      OfGiven P (walked (looks_at_all paths next) now looks failed)
  of-walk [] next now looks failed h = h [] now looks failed refl
  of-walk (path ∷ paths) next now [] failed h = tt
  of-walk (path ∷ paths) next now (look ∷ looks) failed h = of-walk paths (λ more. next (look ∷ more)) now looks failed (λ all. h (look ∷ all))

  of-check : (wrong : Bool) (code : Code) (walk : Walk Verdict) (now : ℕ) (looks : List Look) (failed : Bool) →
      (walked (walk_unless wrong code walk) now looks failed ≡ walked walk now looks failed → OfGiven P (walked walk now looks failed)) →
      OfGiven P (walked (walk_unless wrong code walk) now looks failed)
  of-check true code walk now looks failed t = tt
  of-check false code walk now looks failed t = t refl

  of-kind : (wrong : Bool) (code : Code) (verdict : Verdict) → (Some (unless wrong code verdict) ≡ Some verdict → OfDoing P verdict) → OfDoing P (unless wrong code verdict)
  of-kind true code verdict t = tt
  of-kind false code verdict t = t refl

  -- an Add does nothing but add its files
  of-add : (s : State) (c : Connection) (a : AddRequest) (numbers : List DocId) (now : ℕ) (looks : List Look) (failed : Bool) →
      (walked (add s c a numbers) now looks failed ≡ Some (added s (added_files s c a numbers)) → OfDoing P (added s (added_files s c a numbers))) → OfGiven P (walked (add s c a numbers) now looks failed)
  of-add s c a numbers now looks failed done =
      of-check (not (are_presented c.queue a)) Code.InvalidArgs (add_presented s c a numbers) now looks failed (λ i.
      of-check (not (are_add_arguments c.queue a)) Code.InvalidArgument (add_allowed s c a numbers) now looks failed (λ j.
      of-check (not (may_list_all s c.who a (document_paths c.queue a))) Code.NotAllowed (add_looking s c a numbers) now looks failed (λ k.
      of-walk (paths_shown c.queue a) (add_shown s c a numbers) now looks failed (λ all now2 more failed2 m.
      of-kind (not (are_of_kind a (paths_shown c.queue a) all)) Code.InvalidArgument (added s (added_files s c a numbers)) (λ w. done (i ∙ (j ∙ (k ∙ (m ∙ w)))))))))

-- where it is done, the state is that to which the request came
module _ (s refused : State) (given : Given) (effects : List Effect) where
  abbrev Told : State × Answer → Type 0
  Told done = AreLive done.0.documents (cond (is_done done.1) effects [])

  told-if : (documents : List Document) (b : Bool) → AreLive documents effects → AreLive documents (cond b effects [])
  told-if documents true h = h
  told-if documents false h = tt

  kept-told : (fault : Fault) (d : Doing) → AreLive d.state.documents effects → Told (kept s fault d)
  kept-told Fault.None d h = told-if d.state.documents (is_done d.answer) h
  kept-told Fault.Tree d h = told-if d.state.documents (is_done d.answer) h
  kept-told Fault.Keeper d h = tt

  limited-told : (full : Bool) (d : Doing) → (full ≡ false → AreLive d.state.documents effects) → Told (cond full (refused, Answer.Refused Code.LimitsExceeded) (kept s given.fault d))
  limited-told true d h = tt
  limited-told false d h = kept-told given.fault d (h refl)

  settled-told : (o : Option Verdict) → (given.full ≡ false → OfGiven (λ (d : Doing). AreLive d.state.documents effects) o) → Told (settled s refused given o)
  settled-told None h = tt
  settled-told (Some (Refuses code)) h = tt
  settled-told (Some (Does d)) h = limited-told given.full d h

module _ (app : List ℕ) (s : State) (seat : ℕ) (a : AddRequest) (given : Given) (v : Valid s) where
  as-much : (c : Connection) → AsMuch c.who a (begun s c a given.numbers) (begun (all_told c.seat s) c a given.numbers)
  as-much c = record {
    documents = taken-keeps (λ (t : State). t.documents) c a s refl ∙ sym (taken-keeps (λ (t : State). t.documents) c a (all_told c.seat s) refl);
    numbers = refl;
  }

  answer-told : (c : Connection) → LawfulBus (all_told c.seat s) c (Request.Add a) given →
      Told (all_told c.seat s) (taken_from_queue c a (all_told c.seat s)) given (add_touch_by app s a given (Some c)) (bus_answer (all_told c.seat s) c (Request.Add a) given)
  answer-told c l =
      let t : State = all_told c.seat s in
      let differ : Differ (begun t c a given.numbers).state.documents = subst Differ (sym (taken-keeps (λ (x : State). x.documents) c a t refl)) v.numbers_differ in
      settled-told t (taken_from_queue c a t) given (add_touch_by app s a given (Some c)) (walked (add t c a given.numbers) (moment_given given.now) given.looks (is_tree given.fault)) (λ f.
      of-add (λ (d : Doing). AreLive d.state.documents (add_touch_by app s a given (Some c))) t c a given.numbers (moment_given given.now) given.looks (is_tree given.fault) (λ w.
      files-live c.who a app (document_paths c.queue a) (begun s c a given.numbers) (begun t c a given.numbers) (as-much c) differ (lawful-free t c a given (all_told-Valid s c.seat v) l f w)))

  by_connection : (o : Option Connection) → LawfulOnBus s (Request.Add a) given o → AreLive (bus_step s (Request.Add a) given o).0.documents (cond (is_done (bus_step s (Request.Add a) given o).1.answer) (add_touch_by app s a given o) [])
  by_connection None l = tt
  by_connection (Some c) l = answer-told c l

  pub additions-told : Lawful s (asks seat (Request.Add a) given) → AreLive (after s (asks seat (Request.Add a) given)).documents (touch app s (asks seat (Request.Add a) given))
  additions-told l = by_connection (bus_of (connection_of s.connections seat)) l.given
