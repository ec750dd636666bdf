-- One document that an Add uses, new or again: what it is to an application.
use Rattle.std.proofs.Common.{◌≡◌, ℕ, ◌==◌, List, [], ◌∷◌, ◌++◌, Bool, true, false, not, ◌&&◌, cond, Option, Some, None, refl, sym, ap, ◌∙◌, subst, arith}
use Rattle.portal_base.specs.Names.{is_same}
use Rattle.portal_base.specs.declared.names.doc_id.DocId.{DocId}
use Rattle.portal_base.specs.declared.who.Who.{Who}
use Rattle.rights_rule.specs.Rights.{RightSet, contains, holds_any, minus, rights_named, union}
use Rattle.portal_model.specs.declared.request.AddRequest.{AddRequest}
use Rattle.portal_model.specs.declared.state.Document.{Document}
use Rattle.portal_model.specs.Add.{adding_rights, caller_rights, listed_rights, with_rights_of}
use Rattle.portal_model.specs.AddArguments.{names_nobody}
use Rattle.portal_model.specs.Grant.{given_rights}
use Rattle.portal_model.specs.State.{State, document_of, held_in, held_of, is_app}
use Rattle.portal_model.proofs.ListLookups.{is_same-refl, nat_is}
use Rattle.app_world.specs.Add.{names_app}
use Rattle.app_world.specs.Effect.{Gained, apply, apply_all}
use Rattle.app_world.specs.Grant.{gained_in}
use Rattle.app_world.specs.View.{AppView, held_documents, holding_at, own_connections, seen, view, view_over}
use Rattle.app_world.proofs.DocumentLaws.{seen-nothing}
use Rattle.app_world.proofs.EffectLaws.{view-gained}
use Rattle.app_world.proofs.HeldLaws.{held-add, union-new, union-nothing, union-covered}
use Rattle.app_world.proofs.ViewLaws.{documents-same}

abbrev is_none_of : {X : Type 0} → Option X → Bool
is_none_of None = true
is_none_of (Some x) = false

-- ---- a document that is live afterwards

-- in the documents after it is d that has its number, and what was seen of that number was seen of d
pub record Joins (documents more : List Document) (held : ℕ → RightSet) (d : Document) : Type 0 where
  pub live : (n : ℕ) → document_of more n ≡ cond (d.id.number == n) (Some d) (document_of documents n)
  pub there : seen (held d.id.number) (document_of documents d.id.number) ≡ seen (held d.id.number) (Some d)

still : (documents : List Document) (d : Document) (n : ℕ) (b : Bool) → document_of documents d.id.number ≡ Some d → (d.id.number == n) ≡ b → document_of documents n ≡ cond b (Some d) (document_of documents n)
still documents d n true e f = ap (document_of documents) (sym (nat_is d.id.number n f)) ∙ e
still documents d n false e f = refl

pub joins-again : (documents : List Document) (held : ℕ → RightSet) (d : Document) → document_of documents d.id.number ≡ Some d → Joins documents documents held d
joins-again documents held d e = record { live = λ n. still documents d n (d.id.number == n) e refl; there = ap (seen (held d.id.number)) e }

found-behind : (d : Document) (n : ℕ) (documents : List Document) → document_of (documents ++ d ∷ []) n ≡ cond (d.id.number == n) (cond (is_none_of (document_of documents n)) (Some d) (document_of documents n)) (document_of documents n)
found-behind d n [] = grind arith
found-behind d n (x ∷ xs) = by_first (x.id.number == n) (d.id.number == n) (found-behind d n xs)
  where
    by_first : (b c : Bool) → document_of (xs ++ d ∷ []) n ≡ cond c (cond (is_none_of (document_of xs n)) (Some d) (document_of xs n)) (document_of xs n) →
        cond b (Some x) (document_of (xs ++ d ∷ []) n) ≡ cond c (cond (is_none_of (cond b (Some x) (document_of xs n))) (Some d) (cond b (Some x) (document_of xs n))) (cond b (Some x) (document_of xs n))
    by_first true true m = refl
    by_first true false m = refl
    by_first false c m = m

behind : (documents : List Document) (d : Document) (n : ℕ) (b : Bool) → document_of documents d.id.number ≡ None → (d.id.number == n) ≡ b →
    cond b (cond (is_none_of (document_of documents n)) (Some d) (document_of documents n)) (document_of documents n) ≡ cond b (Some d) (document_of documents n)
behind documents d n true e f = ap (λ (o : Option Document). cond (is_none_of o) (Some d) o) (ap (document_of documents) (sym (nat_is d.id.number n f)) ∙ e)
behind documents d n false e f = refl

pub joins-new : (documents : List Document) (held : ℕ → RightSet) (d : Document) → document_of documents d.id.number ≡ None → holds_any (held d.id.number) ≡ false → Joins documents (documents ++ d ∷ []) held d
joins-new documents held d e f = record {
  live = λ n. found-behind d n documents ∙ behind documents d n (d.id.number == n) e refl;
  there = seen-nothing (held d.id.number) (document_of documents d.id.number) f ∙ sym (seen-nothing (held d.id.number) (Some d) f);
}

-- ---- what the application sees

module _ (app : List ℕ) (s t : State) (d : Document) (limits : t.limits ≡ s.limits) (tree : held_in t ≡ held_in s) (connections : t.connections ≡ s.connections) (handles : t.handles ≡ s.handles)
    (j : Joins s.documents t.documents (held_of s.rights app) d) where
  abbrev was : ℕ → RightSet
  was n = held_of s.rights app n

  abbrev now : ℕ → RightSet
  now n = held_of t.rights app n

  abbrev after : AppView
  after = view_over s.limits (held_in s) (held_documents now t.documents) (own_connections app s.handles s.connections)

  after-is : after ≡ view t app
  after-is = λ i. view_over (sym limits i) (sym tree i) (held_documents now t.documents) (own_connections app (sym handles i) (sym connections i))

  -- it gains these rights
  pub joined-gained : (more : RightSet) → ((n : ℕ) → now n ≡ cond (d.id.number == n) (union (was n) more) (was n)) → apply (view s app) (Gained d more (holding_at s.files d)) ≡ view t app
  joined-gained more rights = view-gained s.limits (held_in s) s.documents t.documents was now (own_connections app s.handles s.connections) d more j.live rights j.there ∙ after-is

  seen-still : ((n : ℕ) → now n ≡ was n) → (n : ℕ) (b : Bool) → (d.id.number == n) ≡ b → seen (was n) (document_of s.documents n) ≡ seen (was n) (cond b (Some d) (document_of s.documents n))
  seen-still rights n true e = subst (λ (m : ℕ). seen (was m) (document_of s.documents m) ≡ seen (was m) (Some d)) (nat_is d.id.number n e) j.there
  seen-still rights n false e = refl

  -- it gains nothing
  pub joined-same : ((n : ℕ) → now n ≡ was n) → view s app ≡ view t app
  joined-same rights =
      ap (λ ds. view_over s.limits (held_in s) ds (own_connections app s.handles s.connections))
      (documents-same was now s.documents t.documents (λ n. seen-still rights n (d.id.number == n) refl ∙ (λ i. seen (sym (rights n) i) (sym (j.live n) i))))
      ∙ after-is

  gains-new : (set : RightSet) (n : ℕ) (b : Bool) → (d.id.number == n) ≡ b → cond b (union (was n) set) (was n) ≡ cond b (union (was n) (minus set (was d.id.number))) (was n)
  gains-new set n true e = subst (λ (m : ℕ). union (was m) set ≡ union (was m) (minus set (was d.id.number))) (nat_is d.id.number n e) (sym (union-new (was d.id.number) set))
  gains-new set n false e = refl

  gains-none : (set : RightSet) → holds_any (minus set (was d.id.number)) ≡ false → (n : ℕ) (b : Bool) → (d.id.number == n) ≡ b → cond b (union (was n) (minus set (was d.id.number))) (was n) ≡ was n
  gains-none set f n true e = subst (λ (m : ℕ). union (was m) (minus set (was d.id.number)) ≡ was m) (nat_is d.id.number n e) (union-nothing (was d.id.number) (minus set (was d.id.number)) f)
  gains-none set f n false e = refl

  -- it gains what is new of these rights, if any
  joined-if : (set : RightSet) (b : Bool) → holds_any (minus set (was d.id.number)) ≡ b → ((n : ℕ) → now n ≡ cond (d.id.number == n) (union (was n) set) (was n)) →
      apply_all (view s app) (cond b (Gained d (minus set (was d.id.number)) (holding_at s.files d) ∷ []) []) ≡ view t app
  joined-if set true f rights = joined-gained (minus set (was d.id.number)) (λ n. rights n ∙ gains-new set n (d.id.number == n) refl)
  joined-if set false f rights = joined-same (λ n. rights n ∙ (gains-new set n (d.id.number == n) refl ∙ gains-none set f n (d.id.number == n) refl))

  pub joined-touched : (set : RightSet) → ((n : ℕ) → now n ≡ cond (d.id.number == n) (union (was n) set) (was n)) → apply_all (view s app) (gained_in app s set d) ≡ view t app
  joined-touched set rights = joined-if set (holds_any (minus set (was d.id.number))) refl rights

-- ---- the rights after

module _ (app : List ℕ) (a : AddRequest) (id : DocId) (s : State) where
  abbrev before : ℕ → RightSet
  before n = held_of s.rights app n

  pub listed-is : (t : State) (n : ℕ) (b c : Bool) → names_nobody a ≡ b → is_same a.app app ≡ c →
      held_of (listed_rights a id t).rights app n ≡ cond (id.number == n) (cond (not b && c) (union (held_of t.rights app n) (rights_named a.names)) (held_of t.rights app n)) (held_of t.rights app n)
  listed-is t n true c e f = ap (λ (x : Bool). held_of (cond x t (given_rights a.app id (rights_named a.names) t)).rights app n) e ∙ sym (both-same (id.number == n) (held_of t.rights app n))
    where
      both-same : (x : Bool) (k : RightSet) → cond x k k ≡ k
      both-same true k = refl
      both-same false k = refl
  listed-is t n false c e f =
      ap (λ (x : Bool). held_of (cond x t (given_rights a.app id (rights_named a.names) t)).rights app n) e
      ∙ (held-add app n a.app id (rights_named a.names) t.rights ∙ (ap (λ (x : Bool). cond (id.number == n && x) (union (held_of t.rights app n) (rights_named a.names)) (held_of t.rights app n)) f ∙ two (id.number == n) c _ _))
    where
      two : (x y : Bool) (k m : RightSet) → cond (x && y) k m ≡ cond x (cond y k m) m
      two true y k m = refl
      two false y k m = refl

  caller-other : (who : Who) → is_app app who ≡ false → (n : ℕ) → held_of (caller_rights who a id s).rights app n ≡ before n
  caller-other Who.Host e n = refl
  caller-other (Who.App name) e n = held-add app n name id (adding_rights a) s.rights ∙ (ap (λ (x : Bool). cond (id.number == n && x) (union (before n) (adding_rights a)) (before n)) e ∙ never (id.number == n) _ _)
    where
      never : (x : Bool) (k m : RightSet) → cond (x && false) k m ≡ m
      never true k m = refl
      never false k m = refl

  -- of an application that doesn't add: the listed rights, where it is named
  pub rights-other : (who : Who) → is_app app who ≡ false → (n : ℕ) →
      held_of (with_rights_of who a id s).rights app n ≡ cond (id.number == n) (cond (names_app app a) (union (before n) (rights_named a.names)) (before n)) (before n)
  rights-other who e n =
      listed-is (caller_rights who a id s) n (names_nobody a) (is_same a.app app) refl refl
      ∙ ap (λ (k : RightSet). cond (id.number == n) (cond (names_app app a) (union k (rights_named a.names)) k) k) (caller-other who e n)

  caller-own : (n : ℕ) → held_of (caller_rights (Who.App app) a id s).rights app n ≡ cond (id.number == n) (union (before n) (adding_rights a)) (before n)
  caller-own n = held-add app n app id (adding_rights a) s.rights ∙ (ap (λ (x : Bool). cond (id.number == n && x) (union (before n) (adding_rights a)) (before n)) (is_same-refl app) ∙ always (id.number == n) _ _)
    where
      always : (x : Bool) (k m : RightSet) → cond (x && true) k m ≡ cond x k m
      always true k m = refl
      always false k m = refl

  covered : (n : ℕ) (b c : Bool) → (id.number == n) ≡ b → (c ≡ true → contains (union (before id.number) (adding_rights a)) (rights_named a.names) ≡ true) →
      cond b (cond c (union (cond b (union (before n) (adding_rights a)) (before n)) (rights_named a.names)) (cond b (union (before n) (adding_rights a)) (before n))) (cond b (union (before n) (adding_rights a)) (before n))
      ≡ cond b (union (before n) (adding_rights a)) (before n)
  covered n true true e f =
      subst (λ (m : ℕ). union (union (before m) (adding_rights a)) (rights_named a.names) ≡ union (before m) (adding_rights a)) (nat_is id.number n e)
      (union-covered (union (before id.number) (adding_rights a)) (rights_named a.names) (f refl))
  covered n true false e f = refl
  covered n false c e f = refl

  -- of the application that adds: the rights of who adds; it has what it lists for itself
  pub rights-own : (names_app app a ≡ true → contains (union (before id.number) (adding_rights a)) (rights_named a.names) ≡ true) → (n : ℕ) →
      held_of (with_rights_of (Who.App app) a id s).rights app n ≡ cond (id.number == n) (union (before n) (adding_rights a)) (before n)
  rights-own f n =
      listed-is (caller_rights (Who.App app) a id s) n (names_nobody a) (is_same a.app app) refl refl
      ∙ (ap (λ (k : RightSet). cond (id.number == n) (cond (names_app app a) (union k (rights_named a.names)) k) k) (caller-own n) ∙ covered n (id.number == n) (names_app app a) refl f)
