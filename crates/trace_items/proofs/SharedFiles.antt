-- What an Add of another tells, file by file, over the documents and the rights ahead of it.
use Rattle.std.proofs.Common.{◌≡◌, ◌+◌, ◌<◌, ◌==◌, ℕ, zero, suc, List, [], ◌∷◌, ◌++◌, drop, fold, get_or, length, map, take, Bool, true, false, ◌||◌, cond, Option, Some, None, option_map, refl, sym, ap, subst, ◌∙◌, arith}
use Rattle.std.specs.List.{find}
use Rattle.std.proofs.lemmas.Bool.Decides.{nat_tests}
use Rattle.std.proofs.lemmas.List.{append-nil, append_assoc}
use Rattle.portal_base.specs.declared.names.doc_id.DocId.{DocId}
use Rattle.portal_base.specs.declared.who.Who.{Who}
use Rattle.rights_rule.specs.Rights.{RightSet, holds_any, minus, rights_named, union}
use Rattle.portal_model.specs.declared.request.AddRequest.{AddRequest}
use Rattle.portal_model.specs.declared.state.Connection.{Connection}
use Rattle.portal_model.specs.declared.state.Document.{Document}
use Rattle.portal_model.specs.Add.{Added, add_file, first_number, new_document, taken_from_queue, use_document, used_again, with_new_document, with_rights_of}
use Rattle.portal_model.specs.AddArguments.{are_presented, document_paths, exports, is_left_out, makes_strict, persists, reuses}
use Rattle.portal_model.specs.Documents.{id_of_document, serves}
use Rattle.portal_model.specs.Present.{with_queue}
use Rattle.portal_model.specs.State.{State, held_of, is_app}
use Rattle.app_world.specs.Add.{add_touch, document_used, file_touch, files_touch, names_app, own_again}
use Rattle.app_world.specs.Effect.{Effect, Gained}
use Rattle.app_world.specs.View.{holding_at}
use Rattle.app_world.specs.Grant.{gained_if, gained_in}
use Rattle.app_world.proofs.AddLaws.{rights-keep}
use Rattle.app_world.proofs.UseLaws.{rights-other}
use Rattle.document_records.proofs.Loops.{map-more}
use Rattle.trace_items.specs.OwnAdds.{Shared, gained_first, gave, is_given, none_shared, share_document, share_file, shared_files, there_for}

-- ---- documents that are used again

find-joined : (p : Document → Bool) (xs ys : List Document) → option_map id_of_document (find p (xs ++ ys)) ≡ own_again (option_map id_of_document (find p xs)) (option_map id_of_document (find p ys))
find-joined p [] ys = refl
find-joined p (x ∷ xs) ys = by_first (p x) (find-joined p xs ys)
  where
    by_first : (b : Bool) → option_map id_of_document (find p (xs ++ ys)) ≡ own_again (option_map id_of_document (find p xs)) (option_map id_of_document (find p ys)) →
        option_map id_of_document (cond b (Some x) (find p (xs ++ ys))) ≡ own_again (option_map id_of_document (cond b (Some x) (find p xs))) (option_map id_of_document (find p ys))
    by_first true h = refl
    by_first false h = h

again-joined : (xs ys : List Document) (a : AddRequest) (path : List ℕ) → used_again (xs ++ ys) a path ≡ own_again (used_again xs a path) (used_again ys a path)
again-joined xs ys a path = by_flag (reuses a)
  where
    by_flag : (b : Bool) → cond b (option_map id_of_document (find (serves path (persists a) (makes_strict a) (exports a)) (xs ++ ys))) None
        ≡ own_again (cond b (option_map id_of_document (find (serves path (persists a) (makes_strict a) (exports a)) xs)) None) (cond b (option_map id_of_document (find (serves path (persists a) (makes_strict a) (exports a)) ys)) None)
    by_flag true = find-joined (serves path (persists a) (makes_strict a) (exports a)) xs ys
    by_flag false = refl

-- ---- documents that were shared

any-joined : (n : ℕ) (ids more : List DocId) → is_given (ids ++ more) n ≡ (is_given ids n || is_given more n)
any-joined n [] more = refl
any-joined n (id ∷ ids) more = grind (arith, any-joined n ids more)

number-is : (m n : ℕ) → (m == n) ≡ true → m ≡ n
number-is m n e = grind (arith, nat_tests)

given-more : (given : List DocId) (id : DocId) (n : ℕ) → is_given (gave given id) n ≡ (is_given given n || id.number == n)
given-more given id n = by_known (is_given given id.number) refl
  where
    first_true : (b : Bool) → b ≡ true → b ≡ (b || true)
    first_true true e = refl
    first_true false e = e

    none_more : (b : Bool) → b ≡ (b || false)
    none_more true = refl
    none_more false = refl

    known : is_given given id.number ≡ true → (b : Bool) → (id.number == n) ≡ b → is_given given n ≡ (is_given given n || b)
    known k true e = first_true (is_given given n) (ap (is_given given) (sym (number-is id.number n e)) ∙ k)
    known k false e = none_more (is_given given n)

    drop_false : (a b : Bool) → (a || (b || false)) ≡ (a || b)
    drop_false true b = refl
    drop_false false true = refl
    drop_false false false = refl

    by_known : (b : Bool) → is_given given id.number ≡ b → is_given (cond b given (given ++ id ∷ [])) n ≡ (is_given given n || id.number == n)
    by_known true k = known k (id.number == n) refl
    by_known false k = any-joined n given (id ∷ []) ∙ drop_false (is_given given n) (id.number == n)

union-twice : (h k : RightSet) → union (union h k) k ≡ union h k
union-twice h k = grind arith

held-more : (known same : Bool) (h listed k : RightSet) → k ≡ cond known (union h listed) h → cond same (union k listed) k ≡ cond (known || same) (union h listed) h
held-more true true h listed k e = ap (λ (x : RightSet). union x listed) e ∙ union-twice h listed
held-more true false h listed k e = e
held-more false true h listed k e = ap (λ (x : RightSet). union x listed) e
held-more false false h listed k e = e

none-left : (h k : RightSet) → holds_any (minus k (union h k)) ≡ false
none-left h k = grind arith

drop-nil : {X : Type 0} (n : ℕ) → drop {A = X} n [] ≡ []
drop-nil zero = refl
drop-nil (suc n) = refl

drop-one : {X : Type 0} (n : ℕ) (xs : List X) → drop 1 (drop n xs) ≡ drop (n + 1) xs
drop-one n [] = ap (drop 1) (drop-nil n) ∙ sym (drop-nil (n + 1))
drop-one zero (x ∷ xs) = refl
drop-one {X = X} (suc n) (x ∷ xs) =
    let next : suc (n + 1) ≡ suc n + 1 = omega arith in
    drop-one n xs ∙ ap (λ (m : ℕ). drop m (x ∷ xs)) next

length-one : {X : Type 0} (xs : List X) (x : X) → length xs + 1 ≡ length (xs ++ x ∷ [])
length-one [] x = refl
length-one (y ∷ ys) x = grind (arith, length-one ys x)

-- ---- one file after another

module _ (app : List ℕ) (s : State) (who : Who) (a : AddRequest) (numbers : List DocId) (other : is_app app who ≡ false) (named : names_app app a ≡ true) where
  abbrev listed : RightSet
  listed = rights_named a.names

  record Follows (done : Added) (u : Shared) : Type 0 where
    pub documents : done.state.documents ≡ s.documents ++ u.made
    pub files : done.state.files ≡ s.files
    pub left : done.numbers ≡ drop (length u.made) numbers
    pub held : (n : ℕ) → held_of done.state.rights app n ≡ cond (is_given u.given n) (union (held_of s.rights app n) listed) (held_of s.rights app n)

  -- what is told of a document
  told-first : (done : Added) (u : Shared) (d : Document) → Follows done u → gained_first app s a u.given d ≡ cond (names_app app a) (gained_in app done.state listed d) []
  told-first done u d f =
      by_given (is_given u.given d.id.number) (held_of done.state.rights app d.id.number) (f.held d.id.number)
      ∙ ap (λ (b : Bool). cond b (gained_in app done.state listed d) []) (sym named)
    where
      by_given : (b : Bool) (k : RightSet) → k ≡ cond b (union (held_of s.rights app d.id.number) listed) (held_of s.rights app d.id.number) →
          cond b [] (gained_in app s listed d) ≡ gained_if done.state d (minus listed k)
      by_given true k e =
          sym (ap (λ (x : RightSet). gained_if done.state d (minus listed x)) e
          ∙ ap (λ (b : Bool). cond b (Gained d (minus listed (union (held_of s.rights app d.id.number) listed)) (holding_at done.state.files d) ∷ []) []) (none-left (held_of s.rights app d.id.number) listed))
      by_given false k e = λ i. cond (holds_any (minus listed (sym e i))) (Gained d (minus listed (sym e i)) (holding_at (sym f.files i) d) ∷ []) []

  -- the rights behind a file
  held-then : (u : Shared) (id : DocId) (base : State) → ((n : ℕ) → held_of base.rights app n ≡ cond (is_given u.given n) (union (held_of s.rights app n) listed) (held_of s.rights app n)) → (n : ℕ) →
      held_of (with_rights_of who a id base).rights app n ≡ cond (is_given (gave u.given id) n) (union (held_of s.rights app n) listed) (held_of s.rights app n)
  held-then u id base h n =
      rights-other app a id base who other n
      ∙ (ap (λ (b : Bool). cond (id.number == n) (cond b (union (held_of base.rights app n) listed) (held_of base.rights app n)) (held_of base.rights app n)) named
      ∙ (held-more (is_given u.given n) (id.number == n) (held_of s.rights app n) listed (held_of base.rights app n) (h n)
      ∙ ap (λ (b : Bool). cond b (union (held_of s.rights app n) listed) (held_of s.rights app n)) (sym (given-more u.given id n))))

  abbrev Goes : Added → List ℕ → Shared → Option DocId → Type 0
  Goes done path u again =
      Follows (use_document who a path done again) (share_document app s a numbers u path again)
      × ((share_document app s a numbers u path again).effects ≡ u.effects ++ cond (names_app app a) (gained_in app done.state listed (document_used a done.numbers path again)) [])

  -- a document that is used again
  goes-again : (done : Added) (u : Shared) (path : List ℕ) (id : DocId) → Follows done u → Goes done path u (Some id)
  goes-again done u path id f = (
    record {
      documents = rights-keep (λ (x : State). x.documents) (λ x r p. refl) who a id done.state ∙ f.documents;
      files = rights-keep (λ (x : State). x.files) (λ x r p. refl) who a id done.state ∙ f.files;
      left = f.left;
      held = held-then u id done.state f.held;
    },
    ap (λ (es : List Effect). u.effects ++ es) (told-first done u (new_document a id path) f),
  )

  -- a new one
  goes-new : (done : Added) (u : Shared) (path : List ℕ) → Follows done u → done.numbers ≡ drop (length u.made) numbers → Goes (record done { numbers = drop (length u.made) numbers }) path u None
  goes-new done u path f e =
      let id : DocId = first_number (drop (length u.made) numbers) in
      let d : Document = new_document a id path in
      let base : State = with_new_document d done.state in (
        record {
          documents = rights-keep (λ (x : State). x.documents) (λ x r p. refl) who a id base
              ∙ (ap (λ (ds : List Document). ds ++ d ∷ []) f.documents ∙ append_assoc s.documents u.made (d ∷ []));
          files = rights-keep (λ (x : State). x.files) (λ x r p. refl) who a id base ∙ f.files;
          left = drop-one (length u.made) numbers ∙ ap (λ (n : ℕ). drop n numbers) (length-one u.made d);
          held = held-then u id base f.held;
        },
        ap (λ (es : List Effect). u.effects ++ es) (told-first done u d f),
      )

  goes-by : (done : Added) (u : Shared) (path : List ℕ) (again : Option DocId) → Follows done u → Goes done path u again
  goes-by done u path (Some id) f = goes-again done u path id f
  goes-by done u path None f = subst (λ (x : Added). Goes x path u None) (sym (λ i. record done { numbers = f.left i })) (goes-new done u path f f.left)

  abbrev Steps : Added → List ℕ → Shared → Type 0
  Steps done path u = Follows (add_file who a done path) (share_file app s a numbers u path) × ((share_file app s a numbers u path).effects ≡ u.effects ++ file_touch app a done path)

  steps : (done : Added) (u : Shared) (path : List ℕ) → Follows done u → Steps done path u
  steps done u path f =
      by_left (is_left_out a path)
      (subst (λ (o : Option DocId). Follows (use_document who a path done (used_again done.state.documents a path)) (share_document app s a numbers u path o)
      × ((share_document app s a numbers u path o).effects ≡ u.effects ++ cond (names_app app a) (gained_in app done.state listed (document_used a done.numbers path (used_again done.state.documents a path))) []))
      (ap (λ (ds : List Document). used_again ds a path) f.documents ∙ again-joined s.documents u.made a path)
      (goes-by done u path (used_again done.state.documents a path) f))
    where
      by_left : (b : Bool) →
          (Follows (use_document who a path done (used_again done.state.documents a path)) (share_document app s a numbers u path (there_for s a u path))
          × ((share_document app s a numbers u path (there_for s a u path)).effects ≡ u.effects ++ cond (names_app app a) (gained_in app done.state listed (document_used a done.numbers path (used_again done.state.documents a path))) [])) →
          Follows (cond b (record done { ids = done.ids ++ [] ∷ [] }) (use_document who a path done (used_again done.state.documents a path))) (cond b u (share_document app s a numbers u path (there_for s a u path)))
          × ((cond b u (share_document app s a numbers u path (there_for s a u path))).effects
          ≡ u.effects ++ cond b [] (cond (names_app app a) (gained_in app done.state listed (document_used a done.numbers path (used_again done.state.documents a path))) []))
      by_left true g = (record { documents = f.documents; files = f.files; left = f.left; held = f.held }, sym (append-nil u.effects))
      by_left false g = g

  all-shared : (paths : List (List ℕ)) (done : Added) (u : Shared) → Follows done u → (fold (share_file app s a numbers) u paths).effects ≡ u.effects ++ files_touch app who a done paths
  all-shared [] done u f = sym (append-nil u.effects)
  all-shared (path ∷ paths) done u f =
      let one = steps done u path f in
      all-shared paths (add_file who a done path) (share_file app s a numbers u path) one.0
      ∙ (ap (λ (es : List Effect). es ++ files_touch app who a (add_file who a done path) paths) one.1
      ∙ append_assoc u.effects (file_touch app a done path) (files_touch app who a (add_file who a done path) paths))

  begun : (c : Connection) → Follows (record { state = taken_from_queue c a s; numbers = numbers; ids = [] }) none_shared
  begun c = by_call (are_presented c.queue a)
    where
      by_call : (b : Bool) → Follows (record { state = cond b (with_queue c.seat (drop a.fds) s) s; numbers = numbers; ids = [] }) none_shared
      by_call true = record { documents = sym (append-nil s.documents); files = refl; left = refl; held = λ n. refl }
      by_call false = record { documents = sym (append-nil s.documents); files = refl; left = refl; held = λ n. refl }

-- where the application is named
pub touch-shared : (app : List ℕ) (s : State) (c : Connection) (a : AddRequest) (numbers : List DocId) → is_app app c.who ≡ false → names_app app a ≡ true →
    add_touch app s c a numbers ≡ (shared_files app s a numbers (document_paths c.queue a)).effects
touch-shared app s c a numbers other named =
    sym (all-shared app s c.who a numbers other named (document_paths c.queue a) (record { state = taken_from_queue c a s; numbers = numbers; ids = [] }) none_shared (begun app s c.who a numbers other named c))

-- and where it isn't
unnamed : (app : List ℕ) (who : Who) (a : AddRequest) → names_app app a ≡ false → (paths : List (List ℕ)) (done : Added) → files_touch app who a done paths ≡ []
unnamed app who a e [] done = refl
unnamed app who a e (path ∷ paths) done =
    let d : Document = document_used a done.numbers path (used_again done.state.documents a path) in
    ap (λ (b : Bool). cond (is_left_out a path) [] (cond b (gained_in app done.state (rights_named a.names) d) []) ++ files_touch app who a (add_file who a done path) paths) e
    ∙ (none (is_left_out a path) ∙ unnamed app who a e paths (add_file who a done path))
  where
    none : (b : Bool) → cond b [] [] ++ files_touch app who a (add_file who a done path) paths ≡ files_touch app who a (add_file who a done path) paths
    none true = refl
    none false = refl

pub touch-unnamed : (app : List ℕ) (s : State) (c : Connection) (a : AddRequest) (numbers : List DocId) → names_app app a ≡ false → add_touch app s c a numbers ≡ []
touch-unnamed app s c a numbers e = unnamed app c.who a e (document_paths c.queue a) (record { state = taken_from_queue c a s; numbers = numbers; ids = [] })

-- ---- a loop over the files

fold-append : {U Y : Type 0} (f : U → Y → U) (u : U) (ys : List Y) (y : Y) → fold f u (ys ++ y ∷ []) ≡ f (fold f u ys) y
fold-append f u [] y = refl
fold-append f u (z ∷ zs) y = fold-append f (f u z) zs y

pub fold-one : {X Y U : Type 0} (f : U → Y → U) (g : X → Y) (u : U) (xs : List X) (i : ℕ) (x : X) → i < length xs → x ≡ get_or xs i x → fold f u (map g (take (i + 1) xs)) ≡ f (fold f u (map g (take i xs))) (g x)
fold-one f g u xs i x l e = ap (fold f u) (map-more g xs i x l e) ∙ fold-append f u (map g (take i xs)) (g x)
