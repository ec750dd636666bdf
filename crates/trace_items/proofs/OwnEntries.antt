-- The item of an entry that the application makes.
use Rattle.std.proofs.Common.{◌≡◌, ℕ, List, [], ◌∷◌, map, take, Bool, true, false, ◌&&◌, cond, Option, Some, None, refl, sym, ap, subst, ◌∙◌}
use Rattle.portal_base.specs.declared.files.File.{File}
use Rattle.portal_base.specs.declared.names.doc_id.DocId.{DocId}
use Rattle.portal_model.specs.declared.entry.Entry.{Entry}
use Rattle.portal_model.specs.declared.entry.Given.{Given}
use Rattle.portal_model.specs.declared.request.AddRequest.{AddRequest}
use Rattle.portal_model.specs.declared.request.Request.{Request}
use Rattle.portal_model.specs.declared.state.Connection.{Connection}
use Rattle.portal_model.specs.declared.state.Document.{Document}
use Rattle.portal_model.specs.AddArguments.{document_paths, exports, paths_shown, reuses}
use Rattle.portal_model.specs.Lawful.{LawfulGiven, LawfulOnBus}
use Rattle.portal_model.specs.State.{State, connection_of}
use Rattle.portal_model.specs.Step.{all_told, bus_of}
use Rattle.app_world.specs.Add.{asked, reused_by, reused_of, shown_at_path, shown_to}
use Rattle.app_world.specs.TraceItem as item
use Rattle.app_world.specs.World.{contents_shown, documents_reused, own_of}
use Rattle.trace_items.specs.OwnAdds.{is_in_order, own_told}
use Rattle.trace_items.proofs.Asked.{asked-none}

-- ---- an Add

take-none : {X : Type 0} (n : ℕ) (xs : List X) → n ≡ 0 → take n xs ≡ []
take-none n xs e = ap (λ (m : ℕ). take m xs) e ∙ none xs
  where
    none : {Y : Type 0} (ys : List Y) → take 0 ys ≡ []
    none [] = refl
    none (y ∷ ys) = refl

and-false : (b d : Bool) → d ≡ false → (b && d) ≡ false
and-false true d e = e
and-false false d e = refl

and-true : (b d : Bool) → d ≡ true → (b && d) ≡ b
and-true true d e = e
and-true false d e = refl

module _ (s : State) (c : Connection) (a : AddRequest) (e : Entry) where
  -- where something is not in order nothing was asked, and nothing is told
  pub own-none : is_in_order c.queue a ≡ false → asked e.given ≡ 0 → own_told e [] [] ≡ own_told e (shown_to s c a e.given) (reused_by s c a)
  own-none order none =
      let shown : shown_to s c a e.given ≡ [] = ap (map (shown_at_path s.files (exports a))) (take-none (asked e.given) (paths_shown c.queue a) none) in
      let reused : reused_by s c a ≡ [] = ap (λ (b : Bool). cond b (reused_of s.documents a (document_paths c.queue a)) []) (and-false (reuses a) (is_in_order c.queue a) order) in
      λ i. own_told e (sym shown i) (sym reused i)

  pub own-some : (documents : List Document) (files : List File) → s.documents ≡ documents → s.files ≡ files → is_in_order c.queue a ≡ true →
      own_told e (map (shown_at_path files (exports a)) (take (asked e.given) (paths_shown c.queue a))) (cond (reuses a) (reused_of documents a (document_paths c.queue a)) []) ≡ own_told e (shown_to s c a e.given) (reused_by s c a)
  own-some documents files d f order =
      let reused : reused_by s c a ≡ cond (reuses a) (reused_of s.documents a (document_paths c.queue a)) [] =
      ap (λ (b : Bool). cond b (reused_of s.documents a (document_paths c.queue a)) []) (and-true (reuses a) (is_in_order c.queue a) order) in
      (λ i. own_told e (map (shown_at_path (sym f i) (exports a)) (take (asked e.given) (paths_shown c.queue a))) (cond (reuses a) (reused_of (sym d i) a (document_paths c.queue a)) []))
      ∙ ap (λ (ids : List (Option DocId)). own_told e (shown_to s c a e.given) ids) (sym reused)

-- nothing was asked, where something is not in order
pub lawful-asked : (s : State) (e : Entry) (a : AddRequest) (c : Connection) → e.request ≡ Request.Add a → bus_of (connection_of s.connections e.seat) ≡ Some c → LawfulGiven s e.seat e.request e.given → is_in_order c.queue a ≡ false → asked e.given ≡ 0
lawful-asked s e a c r o l order =
    asked-none (all_told c.seat s) c a e.given
    (subst (LawfulOnBus s (Request.Add a) e.given) o (subst (λ (q : Request). LawfulGiven s e.seat q e.given) r l)) order

-- ---- the entry

pub own-add : (s : State) (e : Entry) (a : AddRequest) (c : Connection) → e.request ≡ Request.Add a → bus_of (connection_of s.connections e.seat) ≡ Some c → own_told e (shown_to s c a e.given) (reused_by s c a) ≡ item.Own (own_of s e)
own-add s e a c r o = λ i. own_told e (contents_shown s (sym r i) e.given (sym o i)) (documents_reused s (sym r i) (sym o i))

pub own-unconnected : (s : State) (e : Entry) (a : AddRequest) → e.request ≡ Request.Add a → bus_of (connection_of s.connections e.seat) ≡ None → own_told e [] [] ≡ item.Own (own_of s e)
own-unconnected s e a r o = λ i. own_told e (contents_shown s (sym r i) e.given (sym o i)) (documents_reused s (sym r i) (sym o i))

-- any other request tells neither
abbrev pub TellsNone : Request → Type 0
TellsNone request = (s : State) (given : Given) (o : Option Connection) → (contents_shown s request given o ≡ []) × (documents_reused s request o ≡ [])

pub own-other : (s : State) (e : Entry) → TellsNone e.request → own_told e [] [] ≡ item.Own (own_of s e)
own-other s e n =
    let o : Option Connection = bus_of (connection_of s.connections e.seat) in
    λ i. own_told e (sym (n s e.given o).0 i) (sym (n s e.given o).1 i)
