-- Numbers that were never made name no live document: so those that an Add is given are free, as many as it takes.
use Rattle.std.proofs.Common.{◌≡◌, ℕ, ◌+◌, ◌==◌, ◌≤◌, length, List, [], ◌∷◌, ◌++◌, drop, fold, Bool, true, false, ◌||◌, cond, Option, Some, None, refl, sym, ap, ◌∙◌, subst, arith}
use Rattle.std.specs.List.{list_all}
use Rattle.std.proofs.lemmas.List.{length-append}
use Rattle.std.proofs.lemmas.List.Folds.{list_any-append}
use Rattle.portal_base.specs.declared.names.doc_id.DocId.{DocId}
use Rattle.portal_base.specs.declared.who.Who.{Who}
use Rattle.portal_model.specs.declared.request.AddRequest.{AddRequest}
use Rattle.portal_model.specs.declared.state.Document.{Document}
use Rattle.portal_model.specs.Add.{Added, add_file, first_number, new_document, use_document, used_again, with_new_document}
use Rattle.portal_model.specs.AddArguments.{is_left_out}
use Rattle.portal_model.proofs.DrawnNumbers.{Unused}
use Rattle.portal_model.specs.State.{State, document_of}
use Rattle.portal_model.specs.Valid.{Valid, is_made}
use Rattle.portal_model.proofs.ListLookups.{nat_is}
use Rattle.app_world.proofs.AddLaws.{Free, rights-keep}

-- what is live was made
abbrev pub LiveMade : List DocId → List Document → Type 0
LiveMade made documents = (n : ℕ) → is_made made n ≡ false → document_of documents n ≡ None

live-one : (made : List DocId) (d : Document) (o : Option Document) (n : ℕ) (b : Bool) → (d.id.number == n) ≡ b → is_made made d.id.number ≡ true → is_made made n ≡ false → o ≡ None → cond b (Some d) o ≡ None
live-one made d o n true e h f g = let x : true ≡ false = sym h ∙ (ap (is_made made) (nat_is d.id.number n e) ∙ f) in cc
live-one made d o n false e h f g = g

live-all : (made : List DocId) (ds : List Document) → list_all (λ (d : Document). is_made made d.id.number) ds ≡ true → LiveMade made ds
live-all made [] h n e = refl
live-all made (d ∷ ds) h n e =
    let one : is_made made d.id.number ≡ true = grind arith in
    let all : list_all (λ (x : Document). is_made made x.id.number) ds ≡ true = grind arith in
    live-one made d (document_of ds n) n (d.id.number == n) refl one e (live-all made ds all n e)

pub valid-live : (s : State) → Valid s → LiveMade s.made s.documents
valid-live s v = live-all s.made s.documents v.numbers_made

found-last : (d : Document) (n : ℕ) (ds : List Document) → document_of ds n ≡ None → (d.id.number == n) ≡ false → document_of (ds ++ d ∷ []) n ≡ None
found-last d n [] e f = ap (λ (b : Bool). cond b (Some d) None) f
found-last d n (x ∷ xs) e f = by_first (x.id.number == n) e (found-last d n xs)
  where
    by_first : (b : Bool) → cond b (Some x) (document_of xs n) ≡ None → (document_of xs n ≡ None → (d.id.number == n) ≡ false → document_of (xs ++ d ∷ []) n ≡ None) → cond b (Some x) (document_of (xs ++ d ∷ []) n) ≡ None
    by_first true g h = cc
    by_first false g h = h g f

live-more : (made : List DocId) (ds : List Document) (d : Document) → LiveMade made ds → LiveMade (made ++ d.id ∷ []) (ds ++ d ∷ [])
live-more made ds d h n e =
    let both : (is_made made n || ((d.id.number == n) || false)) ≡ false = sym (list_any-append (λ (i : DocId). i.number == n) made (d.id ∷ [])) ∙ e in
    let one : is_made made n ≡ false = grind arith in
    let other : (d.id.number == n) ≡ false = grind arith in
    found-last d n ds (h n one) other

-- ---- while files are added

used-made : (who : Who) (a : AddRequest) (path : List ℕ) (done : Added) (id : DocId) → (use_document who a path done (Some id)).state.made ≡ done.state.made
used-made who a path done id = rights-keep (λ (s : State). s.made) (λ s r p. refl) who a id done.state

new-made : (who : Who) (a : AddRequest) (path : List ℕ) (done : Added) → (use_document who a path done None).state.made ≡ done.state.made ++ first_number done.numbers ∷ []
new-made who a path done = rights-keep (λ (s : State). s.made) (λ s r p. refl) who a (first_number done.numbers) (with_new_document (new_document a (first_number done.numbers) path) done.state)

use-grows : (who : Who) (a : AddRequest) (path : List ℕ) (done : Added) (again : Option DocId) → length done.state.made ≤ length (use_document who a path done again).state.made
use-grows who a path done (Some id) = let e : length (use_document who a path done (Some id)).state.made ≡ length done.state.made = ap length (used-made who a path done id) in omega arith
use-grows who a path done None =
    let e : length (use_document who a path done None).state.made ≡ length done.state.made + 1 = ap length (new-made who a path done) ∙ length-append done.state.made (first_number done.numbers ∷ []) in omega arith

file-grows : (who : Who) (a : AddRequest) (path : List ℕ) (done : Added) (b : Bool) → length done.state.made ≤ length (cond b (record done { ids = done.ids ++ [] ∷ [] }) (use_document who a path done (used_again done.state.documents a path))).state.made
file-grows who a path done true = omega arith
file-grows who a path done false = use-grows who a path done (used_again done.state.documents a path)

files-grow : (who : Who) (a : AddRequest) (paths : List (List ℕ)) (done : Added) → length done.state.made ≤ length (fold (add_file who a) done paths).state.made
files-grow who a [] done = omega arith
files-grow who a (path ∷ paths) done =
    let one : length done.state.made ≤ length (add_file who a done path).state.made = file-grows who a path done (is_left_out a path) in
    let more : length (add_file who a done path).state.made ≤ length (fold (add_file who a) (add_file who a done path) paths).state.made = files-grow who a paths (add_file who a done path) in
    omega arith

-- there are as many numbers as are taken, and none was made
pub record HasNumbers (done : Added) (end : ℕ) : Type 0 where
  pub live : LiveMade done.state.made done.state.documents
  pub unused : Unused done.state.made done.numbers
  pub enough : end ≤ length done.state.made + length done.numbers

module _ (who : Who) (a : AddRequest) (path : List ℕ) (end : ℕ) where
  abbrev used : Added → Option DocId → Added
  used done again = use_document who a path done again

  has-again : (done : Added) (id : DocId) → HasNumbers done end → HasNumbers (used done (Some id)) end
  has-again done id h =
      let made : (used done (Some id)).state.made ≡ done.state.made = used-made who a path done id in
      let documents : (used done (Some id)).state.documents ≡ done.state.documents = rights-keep (λ (s : State). s.documents) (λ s r p. refl) who a id done.state in
      record {
        live = subst (λ (m : List DocId). LiveMade m (used done (Some id)).state.documents) (sym made) (subst (λ (ds : List Document). LiveMade done.state.made ds) (sym documents) h.live);
        unused = subst (λ (m : List DocId). Unused m done.numbers) (sym made) h.unused;
        enough = subst (λ (m : List DocId). end ≤ length m + length done.numbers) (sym made) h.enough;
      }

  has-new : (done : Added) (n : DocId) (ns : List DocId) → done.numbers ≡ n ∷ ns → HasNumbers done end → HasNumbers (used done None) end × (document_of done.state.documents (first_number done.numbers).number ≡ None)
  has-new done n ns e h =
      let first : first_number done.numbers ≡ n = ap first_number e in
      let rest : (used done None).numbers ≡ ns = ap (λ (xs : List DocId). drop 1 xs) e in
      let u : Unused done.state.made (n ∷ ns) = subst (Unused done.state.made) e h.unused in
      let made : (used done None).state.made ≡ done.state.made ++ n ∷ [] = new-made who a path done ∙ ap (λ (i : DocId). done.state.made ++ i ∷ []) first in
      let d : Document = new_document a n path in
      let documents : (used done None).state.documents ≡ done.state.documents ++ d ∷ [] =
      rights-keep (λ (s : State). s.documents) (λ s r p. refl) who a (first_number done.numbers) (with_new_document (new_document a (first_number done.numbers) path) done.state)
      ∙ ap (λ (i : DocId). done.state.documents ++ new_document a i path ∷ []) first in
      let size : length (done.state.made ++ n ∷ []) ≡ length done.state.made + 1 = length-append done.state.made (n ∷ []) in
      let had : end ≤ length done.state.made + length (n ∷ ns) = subst (λ (xs : List DocId). end ≤ length done.state.made + length xs) e h.enough in
      let still : end ≤ length (done.state.made ++ n ∷ []) + length ns = grind arith in (
        record {
          live = subst (λ (m : List DocId). LiveMade m (used done None).state.documents) (sym made)
              (subst (λ (ds : List Document). LiveMade (done.state.made ++ n ∷ []) ds) (sym documents) (live-more done.state.made done.state.documents d h.live));
          unused = subst (λ (m : List DocId). Unused m (used done None).numbers) (sym made) (subst (Unused (done.state.made ++ n ∷ [])) (sym rest) u.2);
          enough = subst (λ (m : List DocId). end ≤ length m + length (used done None).numbers) (sym made) (subst (λ (xs : List DocId). end ≤ length (done.state.made ++ n ∷ []) + length xs) (sym rest) still);
        },
        ap (λ (i : DocId). document_of done.state.documents i.number) first ∙ h.live n.number u.0,
      )

  -- one file of a call that takes no more numbers than there are
  file-has : (done : Added) (again : Option DocId) (ns : List DocId) → done.numbers ≡ ns → length (used done again).state.made ≤ end → HasNumbers done end →
      HasNumbers (used done again) end × (again ≡ None → document_of done.state.documents (first_number done.numbers).number ≡ None)
  file-has done (Some id) ns e l h = (has-again done id h, λ n. cc)
  file-has done None (n ∷ ns) e l h = let x = has-new done n ns e h in (x.0, λ m. x.1)
  file-has done None [] e l h =
      let size : length (used done None).state.made ≡ length done.state.made + 1 = ap length (new-made who a path done) ∙ length-append done.state.made (first_number done.numbers ∷ []) in
      let none : end ≤ length done.state.made + 0 = subst (λ (xs : List DocId). end ≤ length done.state.made + length xs) e h.enough in
      absurd (omega arith)

  one-has : (done : Added) (b : Bool) → length (cond b (record done { ids = done.ids ++ [] ∷ [] }) (used done (used_again done.state.documents a path))).state.made ≤ end → HasNumbers done end →
      HasNumbers (cond b (record done { ids = done.ids ++ [] ∷ [] }) (used done (used_again done.state.documents a path))) end
      × (b ≡ false → used_again done.state.documents a path ≡ None → document_of done.state.documents (first_number done.numbers).number ≡ None)
  one-has done true l h = (record { live = h.live; unused = h.unused; enough = h.enough }, λ e. cc)
  one-has done false l h = let x = file-has done (used_again done.state.documents a path) done.numbers refl l h in (x.0, λ e. x.1)

-- each number that the files take names no live document
pub files-free : (who : Who) (a : AddRequest) (end : ℕ) (paths : List (List ℕ)) (done : Added) → HasNumbers done end → length (fold (add_file who a) done paths).state.made ≤ end → Free who a done paths
files-free who a end [] done h l = tt
files-free who a end (path ∷ paths) done h l =
    let grow : length (add_file who a done path).state.made ≤ length (fold (add_file who a) (add_file who a done path) paths).state.made = files-grow who a paths (add_file who a done path) in
    let within : length (add_file who a done path).state.made ≤ end = omega arith in
    let one = one-has who a path end done (is_left_out a path) within h in
    (one.1, files-free who a end paths (add_file who a done path) one.0 l)
