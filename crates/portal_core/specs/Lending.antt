-- The desk of one seat at a history that it borrows.
use Rattle.std.specs.Prelude.{◌≡◌, ◌+◌, ℕ, List, [], ◌∷◌, ◌++◌, Result, Ok, Err, refl}
use Rattle.std.specs.List.{All}
use Rattle.std.proofs.Common.{◌∙◌, sym, ap, subst, arith}
use Rattle.std.proofs.lemmas.List.{append-nil, append_assoc}
use Rattle.std.proofs.lemmas.List.Elements.{All-append, All-nil}
use Rattle.portal_model.specs.declared.entry.Entry.{Entry}
use Rattle.portal_model.specs.declared.request.Request.{Request}
use Rattle.portal_model.specs.Seated.{Moved, Seated, exchanges, rises_by}
use Rattle.portal_model.specs.State.{State}
use Rattle.portal_core.specs.Chain.{Chain, answered, refused}

-- what a seat knows that sees a whole history from a state
abbrev pub seated_at : State → List Entry → ℕ → ℕ → Seated
seated_at s h seat refusals = record {
  opening = s;
  seat = seat;
  seen = h;
  mine = exchanges seat s h;
  refusals = refusals;
}

-- the history grew by what was answered of this, which is of the seat alone
pub record GrowsByOwn (seat : ℕ) (asked : List (Result Entry Request)) (old new : List Entry)
    : Type 0 where
  pub grown : new ≡ old ++ answered asked
  pub own : All (λ e. e.seat ≡ seat) (answered asked)

-- The history grew by entries of this seat alone: a desk alone borrows what keeps the history, so
-- no other seat asks in between. The refusals among what was asked are counted, by the desk and by
-- what keeps the history. Of each entry, and of each refusal, that says what it says.
pub record GoesOn {S : Type 0} (says : S → Entry → S → Type 0)
    (spends : S → Request → S → Type 0) (refusals : S → ℕ) (keeper : S) (old : Seated)
    (keeper' : S) (new : Seated) : Type 0 where
  pub moved : Moved old new
  pub asked : List (Result Entry Request)
  pub grows : GrowsByOwn old.seat asked old.seen new.seen
  pub count : new.refusals ≡ rises_by old.refusals (refused asked)
  pub kept_count : refusals keeper' ≡ rises_by (refusals keeper) (refused asked)
  pub chain : Chain says spends keeper asked keeper'

-- ---- its laws, which a desk that goes on so gives

-- the entries among two lists joined
pub answered-append : (p q : List (Result Entry Request)) →
    answered (p ++ q) ≡ answered p ++ answered q
answered-append [] q = refl
answered-append (Err request ∷ p) q = answered-append p q
answered-append (Ok e ∷ p) q = ap (λ (x : List Entry). e ∷ x) (answered-append p q)

-- the entries of a seat are those of an equal one
own_of_same : (n m : ℕ) → n ≡ m → (asked : List (Result Entry Request)) (h i : List Entry)
    → GrowsByOwn n asked h i → GrowsByOwn m asked h i
own_of_same n m e asked h i g = subst (λ (k : ℕ). GrowsByOwn k asked h i) e g

own_further : (n : ℕ) (p q : List (Result Entry Request)) (h i j : List Entry) → GrowsByOwn n p h i
    → GrowsByOwn n q i j → GrowsByOwn n (p ++ q) h j
own_further n p q h i j k l = record {
  grown = l.grown
      ∙ (ap (λ (x : List Entry). x ++ answered q) k.grown
      ∙ (append_assoc h (answered p) (answered q)
      ∙ ap (λ (x : List Entry). h ++ x) (sym (answered-append p q))));
  own = subst (All (λ (e : Entry). e.seat ≡ n)) (sym (answered-append p q))
      (All-append (λ (e : Entry). e.seat ≡ n) (answered p) (answered q) k.own l.own);
}

refused-append : (p q : List (Result Entry Request)) → refused (p ++ q) ≡ refused p + refused q
refused-append [] q = omega arith
refused-append (Err request ∷ p) q = let more = refused-append p q in omega arith
refused-append (Ok e ∷ p) q = refused-append p q

counted-further : (k m n : ℕ) (p q : List (Result Entry Request)) → m ≡ rises_by k (refused p)
    → n ≡ rises_by m (refused q) → n ≡ rises_by k (refused (p ++ q))
counted-further k m n p q a b =
    let both = refused-append p q in
    omega arith

module _ {S : Type 0} (says : S → Entry → S → Type 0) (spends : S → Request → S → Type 0)
    (refusals : S → ℕ) where
  pub Chain-append : (p q : List (Result Entry Request)) (a b c : S) → Chain says spends a p b
      → Chain says spends b q c → Chain says spends a (p ++ q) c
  Chain-append [] q a b c h k = subst (λ (x : S). Chain says spends x q c) h k
  Chain-append (Err request ∷ p) q a b c h k =
      (h.0, h.1, Chain-append p q h.0 b c h.2 k)
  Chain-append (Ok e ∷ p) q a b c h k = (h.0, h.1, Chain-append p q h.0 b c h.2 k)

  pub goes_nowhere : (a : S) (d : Seated) → GoesOn says spends refusals a d a d
  goes_nowhere a d = record {
    moved = record { opening = refl; seat = refl; begins = ([], sym (append-nil d.seen)) };
    asked = [];
    grows = record { grown = sym (append-nil d.seen); own = All-nil _ };
    count = omega arith;
    kept_count = omega arith;
    chain = refl;
  }

  pub goes_further : (a : S) (d : Seated) (b : S) (e : Seated) (c : S) (f : Seated)
      → GoesOn says spends refusals a d b e → GoesOn says spends refusals b e c f
      → GoesOn says spends refusals a d c f
  goes_further a d b e c f p q = record {
    moved = record {
      opening = q.moved.opening ∙ p.moved.opening;
      seat = q.moved.seat ∙ p.moved.seat;
      begins = (
        p.moved.begins.0 ++ q.moved.begins.0,
        q.moved.begins.1
            ∙ (ap (λ (x : List Entry). x ++ q.moved.begins.0) p.moved.begins.1
            ∙ append_assoc d.seen p.moved.begins.0 q.moved.begins.0),
      );
    };
    asked = p.asked ++ q.asked;
    grows = own_further d.seat p.asked q.asked d.seen e.seen f.seen p.grows
        (own_of_same e.seat d.seat p.moved.seat q.asked e.seen f.seen q.grows);
    count = counted-further d.refusals e.refusals f.refusals p.asked q.asked p.count q.count;
    kept_count = counted-further (refusals a) (refusals b) (refusals c) p.asked q.asked p.kept_count
        q.kept_count;
    chain = Chain-append p.asked q.asked a b c p.chain q.chain;
  }
