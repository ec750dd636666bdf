-- Which looks a request on documents takes, how many words it draws and whether it meets a limit don't depend on the numbers that
-- new documents get.
use Rattle.std.proofs.Common.{◌≡◌, ℕ, ◌+◌, ◌-◌, List, [], ◌∷◌, ◌++◌, fold, length, length-append, nat_lt, Bool, true, false, not, ◌&&◌, ◌||◌, cond, Option, Some, None, is_some, refl, sym, ap, subst, ◌∙◌, arith}
use Rattle.std.specs.List.{find}
use Rattle.std.specs.Option.{option_map}
use Rattle.portal_base.specs.Names.{is_same}
use Rattle.portal_base.specs.declared.files.Look.{Look}
use Rattle.portal_base.specs.declared.limits.Limits.{Limits}
use Rattle.portal_base.specs.declared.names.doc_id.DocId.{DocId}
use Rattle.portal_base.specs.declared.who.Who.{Who}
use Rattle.portal_model.specs.declared.reply.Code.{Code}
use Rattle.portal_model.specs.declared.request.AddRequest.{AddRequest}
use Rattle.portal_model.specs.declared.request.Request.{Request}
use Rattle.portal_model.specs.declared.state.Connection.{Connection}
use Rattle.portal_model.specs.declared.state.Document.{Document}
use Rattle.portal_model.specs.Add.{Added, add, add_allowed, add_file, add_looking, add_presented, added, added_files, adding_rights, are_of_kind, caller_rights, first_number, may_list_all, new_document, use_document, used_again, with_new_document, with_rights_of}
use Rattle.portal_model.specs.AddArguments.{are_add_arguments, are_presented, document_paths, exports, is_left_out, makes_strict, names_nobody, paths_shown, persists, reuses}
use Rattle.portal_model.specs.Add.{taken_from_queue}
use Rattle.portal_model.specs.Bus.{bus_walk}
use Rattle.portal_model.specs.Documents.{id_of_document, reusable_of, same_flag, serves}
use Rattle.portal_model.specs.Grant.{exceeds_limits, given_rights, numbered_with}
use Rattle.portal_model.specs.State.{State}
use Rattle.portal_model.specs.Valid.{applications_limit}
use Rattle.portal_model.specs.Verdict.{Verdict, unless, walk_unless}
use Rattle.portal_model.specs.Walk.{Walk, Answers, looks_at_all}
use Rattle.rights_rule.specs.Rights.{rights_named}
use Rattle.app_world.proofs.AddLaws.{rights-keep}
use Rattle.script_command.proofs.WalksAlike.{DrawAlike, WalkAlike}

-- ---- documents that differ in their numbers alone

abbrev AreAlike : List Document → List Document → Type 0
AreAlike [] [] = Unit {0}
AreAlike [] (e ∷ es) = ⊥
AreAlike (d ∷ ds) [] = ⊥
AreAlike (d ∷ ds) (e ∷ es) = (d.path ≡ e.path) × (d.persistent ≡ e.persistent) × (d.reusable ≡ e.reusable) × (d.strict ≡ e.strict) × (d.folder ≡ e.folder) × AreAlike ds es

alike_itself : (ds : List Document) → AreAlike ds ds
alike_itself [] = tt
alike_itself (d ∷ ds) = (refl, refl, refl, refl, refl, alike_itself ds)

alike_last : (ds es : List Document) (d e : Document) → d.path ≡ e.path → d.persistent ≡ e.persistent → d.reusable ≡ e.reusable → d.strict ≡ e.strict → d.folder ≡ e.folder → AreAlike ds es → AreAlike (ds ++ d ∷ []) (es ++ e ∷ [])
alike_last [] [] d e p q r t u h = (p, q, r, t, u, tt)
alike_last [] (y ∷ ys) d e p q r t u h = absurd h
alike_last (x ∷ xs) [] d e p q r t u h = absurd h
alike_last (x ∷ xs) (y ∷ ys) d e p q r t u h = (h.0, h.1, h.2, h.3, h.4, alike_last xs ys d e p q r t u h.5)

alike_long : (ds es : List Document) → AreAlike ds es → length ds ≡ length es
alike_long [] [] h = refl
alike_long [] (e ∷ es) h = absurd h
alike_long (d ∷ ds) [] h = absurd h
alike_long (d ∷ ds) (e ∷ es) h = let more = alike_long ds es h.5 in omega arith

serve_alike : (path : List ℕ) (persistent strict folder : Bool) (d e : Document) → d.path ≡ e.path → d.persistent ≡ e.persistent → d.reusable ≡ e.reusable → d.strict ≡ e.strict → d.folder ≡ e.folder → serves path persistent strict folder d ≡ serves path persistent strict folder e
serve_alike path persistent strict folder d e p q r t u = λ i. is_same (p i) path && (same_flag (q i) persistent && (same_flag (t i) strict && (same_flag (u i) folder && r i)))

-- of both one may stand for a new document, or of none
found_alike : (path : List ℕ) (persistent strict folder : Bool) (ds es : List Document) → AreAlike ds es → is_some (reusable_of ds path persistent strict folder) ≡ is_some (reusable_of es path persistent strict folder)
found_alike path persistent strict folder [] [] h = refl
found_alike path persistent strict folder [] (e ∷ es) h = absurd h
found_alike path persistent strict folder (d ∷ ds) [] h = absurd h
found_alike path persistent strict folder (d ∷ ds) (e ∷ es) h = by_first (serves path persistent strict folder d) (serves path persistent strict folder e) (serve_alike path persistent strict folder d e h.0 h.1 h.2 h.3 h.4) (found_alike path persistent strict folder ds es h.5)
  where
    by_first : (b c : Bool) → b ≡ c → is_some (reusable_of ds path persistent strict folder) ≡ is_some (reusable_of es path persistent strict folder)
        → is_some (option_map id_of_document (cond b (Some d) (find (serves path persistent strict folder) ds))) ≡ is_some (option_map id_of_document (cond c (Some e) (find (serves path persistent strict folder) es)))
    by_first true true k more = refl
    by_first true false k more = absurd (cc)
    by_first false true k more = absurd (cc)
    by_first false false k more = more

again_alike : (a : AddRequest) (path : List ℕ) (ds es : List Document) → AreAlike ds es → is_some (used_again ds a path) ≡ is_some (used_again es a path)
again_alike a path ds es h = by_flag (reuses a)
  where
    by_flag : (b : Bool) → is_some (cond b (reusable_of ds path (persists a) (makes_strict a) (exports a)) None) ≡ is_some (cond b (reusable_of es path (persists a) (makes_strict a) (exports a)) None)
    by_flag true = found_alike path (persists a) (makes_strict a) (exports a) ds es h
    by_flag false = refl

-- ---- and states

record SameCounts (s t : State) : Type 0 where
  pub documents : AreAlike s.documents t.documents
  pub made : length s.made ≡ length t.made
  pub applications : s.applications ≡ t.applications
  pub limits : s.limits ≡ t.limits

counts_itself : (s : State) → SameCounts s s
counts_itself s = record { documents = alike_itself s.documents; made = refl; applications = refl; limits = refl }

caller_apps : (who : Who) (a : AddRequest) (i j : DocId) (s t : State) → s.applications ≡ t.applications → (caller_rights who a i s).applications ≡ (caller_rights who a j t).applications
caller_apps Who.Host a i j s t e = e
caller_apps (Who.App app) a i j s t e = ap (numbered_with app (adding_rights a)) e

listed_apps : (b : Bool) (a : AddRequest) (i j : DocId) (s t : State) → s.applications ≡ t.applications
    → (cond b s (given_rights a.app i (rights_named a.names) s)).applications ≡ (cond b t (given_rights a.app j (rights_named a.names) t)).applications
listed_apps true a i j s t e = e
listed_apps false a i j s t e = ap (numbered_with a.app (rights_named a.names)) e

rights_counts : (who : Who) (a : AddRequest) (i j : DocId) (s t : State) → SameCounts s t → SameCounts (with_rights_of who a i s) (with_rights_of who a j t)
rights_counts who a i j s t h =
    let ds : (with_rights_of who a i s).documents ≡ s.documents = rights-keep (λ (x : State). x.documents) (λ x r p. refl) who a i s in
    let es : (with_rights_of who a j t).documents ≡ t.documents = rights-keep (λ (x : State). x.documents) (λ x r p. refl) who a j t in
    let ms : (with_rights_of who a i s).made ≡ s.made = rights-keep (λ (x : State). x.made) (λ x r p. refl) who a i s in
    let ns : (with_rights_of who a j t).made ≡ t.made = rights-keep (λ (x : State). x.made) (λ x r p. refl) who a j t in
    let ls : (with_rights_of who a i s).limits ≡ s.limits = rights-keep (λ (x : State). x.limits) (λ x r p. refl) who a i s in
    let ks : (with_rights_of who a j t).limits ≡ t.limits = rights-keep (λ (x : State). x.limits) (λ x r p. refl) who a j t in
    record {
      documents = subst (λ (z : List Document). AreAlike z (with_rights_of who a j t).documents) (sym ds) (subst (λ (z : List Document). AreAlike s.documents z) (sym es) h.documents);
      made = ap length ms ∙ (h.made ∙ sym (ap length ns));
      applications = listed_apps (names_nobody a) a i j (caller_rights who a i s) (caller_rights who a j t) (caller_apps who a i j s t h.applications);
      limits = ls ∙ (h.limits ∙ sym ks);
    }

new_counts : (a : AddRequest) (path : List ℕ) (i j : DocId) (s t : State) → SameCounts s t → SameCounts (with_new_document (new_document a i path) s) (with_new_document (new_document a j path) t)
new_counts a path i j s t h = record {
  documents = alike_last s.documents t.documents (new_document a i path) (new_document a j path) refl refl refl refl refl h.documents;
  made = length-append s.made (i ∷ []) ∙ (ap (λ (n : ℕ). n + 1) h.made ∙ sym (length-append t.made (j ∷ [])));
  applications = h.applications;
  limits = h.limits;
}

module _ (who : Who) (a : AddRequest) where
  use_counts : (path : List ℕ) (d e : Added) (o p : Option DocId) → is_some o ≡ is_some p → SameCounts d.state e.state → SameCounts (use_document who a path d o).state (use_document who a path e p).state
  use_counts path d e (Some i) (Some j) k h = rights_counts who a i j d.state e.state h
  use_counts path d e (Some i) None k h = absurd (cc)
  use_counts path d e None (Some j) k h = absurd (cc)
  use_counts path d e None None k h =
      let i = first_number d.numbers in
      let j = first_number e.numbers in
      rights_counts who a i j _ _ (new_counts a path i j d.state e.state h)

  file_counts : (path : List ℕ) (d e : Added) → SameCounts d.state e.state → SameCounts (add_file who a d path).state (add_file who a e path).state
  file_counts path d e h = by_place (is_left_out a path)
    where
      by_place : (b : Bool) → SameCounts (cond b (record d { ids = d.ids ++ [] ∷ [] }) (use_document who a path d (used_again d.state.documents a path))).state (cond b (record e { ids = e.ids ++ [] ∷ [] }) (use_document who a path e (used_again e.state.documents a path))).state
      by_place true = h
      by_place false = use_counts path d e (used_again d.state.documents a path) (used_again e.state.documents a path) (again_alike a path d.state.documents e.state.documents h.documents) h

  files_counts : (paths : List (List ℕ)) (d e : Added) → SameCounts d.state e.state → SameCounts (fold (add_file who a) d paths).state (fold (add_file who a) e paths).state
  files_counts [] d e h = h
  files_counts (path ∷ paths) d e h = files_counts paths (add_file who a d path) (add_file who a e path) (file_counts path d e h)

-- ---- what it comes to

abbrev passes : Limits → ℕ → ℕ → ℕ → Bool
passes limits live made apps = nat_lt limits.documents live || (nat_lt limits.made made || nat_lt applications_limit apps)

exceed_alike : (s t : State) → SameCounts s t → exceeds_limits s ≡ exceeds_limits t
exceed_alike s t h =
    ap (λ (l : Limits). passes l (length s.documents) (length s.made) (length s.applications)) h.limits
    ∙ (ap (λ (n : ℕ). passes t.limits n (length s.made) (length s.applications)) (alike_long s.documents t.documents h.documents)
    ∙ (ap (λ (n : ℕ). passes t.limits (length t.documents) n (length s.applications)) h.made
    ∙ ap (λ (z : List (List ℕ)). passes t.limits (length t.documents) (length t.made) (length z)) h.applications))

-- as many words are drawn
added_alike : (s : State) (d e : Added) → SameCounts d.state e.state → DrawAlike (added s d) (added s e)
added_alike s d e h =
    ap (λ (b : Bool). cond b 0 (length d.state.made - length s.made)) (exceed_alike d.state e.state h)
    ∙ ap (λ (n : ℕ). cond (exceeds_limits e.state) 0 (n - length s.made)) h.made

unless_alike : (b : Bool) (code : Code) (v u : Verdict) → DrawAlike v u → DrawAlike (unless b code v) (unless b code u)
unless_alike true code v u h = refl
unless_alike false code v u h = h

walk_alike : (b : Bool) (code : Code) (w u : Walk Verdict) → WalkAlike DrawAlike w u → WalkAlike DrawAlike (walk_unless b code w) (walk_unless b code u)
walk_alike true code w u h = refl
walk_alike false code w u h = h

looks_alike : (paths : List (List ℕ)) (v u : List Look → Verdict) → ((looks : List Look) → DrawAlike (v looks) (u looks)) → WalkAlike DrawAlike (looks_at_all paths (λ looks. Answers (v looks))) (looks_at_all paths (λ looks. Answers (u looks)))
looks_alike [] v u h = h []
looks_alike (path ∷ paths) v u h = (refl, λ look. looks_alike paths (λ looks. v (look ∷ looks)) (λ looks. u (look ∷ looks)) (λ looks. h (look ∷ looks)))

add_alike : (s : State) (c : Connection) (a : AddRequest) (ns ms : List DocId) → WalkAlike DrawAlike (add s c a ns) (add s c a ms)
add_alike s c a ns ms =
    let v : List DocId → List Look → Verdict = λ numbers looks. unless (not (are_of_kind a (paths_shown c.queue a) looks)) Code.InvalidArgument (added s (added_files s c a numbers)) in
    let base = taken_from_queue c a s in
    let same = files_counts c.who a (document_paths c.queue a) (record { state = base; numbers = ns; ids = [] }) (record { state = base; numbers = ms; ids = [] }) (counts_itself base) in
    walk_alike (not (are_presented c.queue a)) Code.InvalidArgs (add_presented s c a ns) (add_presented s c a ms)
    (walk_alike (not (are_add_arguments c.queue a)) Code.InvalidArgument (add_allowed s c a ns) (add_allowed s c a ms)
    (walk_alike (not (may_list_all s c.who a (document_paths c.queue a))) Code.NotAllowed (add_looking s c a ns) (add_looking s c a ms)
    (looks_alike (paths_shown c.queue a) (v ns) (v ms) (λ looks. unless_alike (not (are_of_kind a (paths_shown c.queue a) looks)) Code.InvalidArgument _ _ (added_alike s (added_files s c a ns) (added_files s c a ms) same)))))

pub bus_alike : (s : State) (c : Connection) (request : Request) (ns ms : List DocId) → WalkAlike DrawAlike (bus_walk s c request ns) (bus_walk s c request ms)
bus_alike s c (Request.Add a) ns ms = add_alike s c a ns ms
bus_alike s c request ns ms = refl
