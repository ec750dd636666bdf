-- Checking at a place of a text, one step at a time.
use Rattle.std.proofs.Common.{◌≡◌, ℕ, ◌+◌, ◌-◌, ◌<◌, ◌≤◌, List, [], ◌∷◌, length, get_or, drop, Result, Ok, Err, refl, sym, ap, subst, ◌∙◌}
use Rattle.dbus_types.specs.declared.types.WireType.{WireType}
use Rattle.dbus_types.specs.declared.types.WireType.TheVariants as W
use Rattle.dbus_types.specs.declared.errors.SignatureError.{SignatureError}
use Rattle.dbus_types.specs.declared.errors.SignatureError.TheVariants.{BadSignature, TooDeep}
use Rattle.dbus_types.specs.Reading.{◌>>=◌, Read, after, place, code_at, key_at, closed, with_type, more_at, members_at, element_at, type_at, list_at, placed, passed}
use Rattle.dbus_types.proofs.ReadingSteps as S
use Rattle.dbus_types.proofs.ReadingSteps.{not_same}

placed_after : {X Y : Type 0} (r : Read X) (f : X × ℕ × List ℕ → Y) → placed (r >>= λ t. Ok (f t, t.1, t.2)) ≡ placed r
placed_after (Ok x) f = refl
placed_after (Err e) f = refl

placed_then : {X Y : Type 0} (r : Read X) (f : X × ℕ × List ℕ → Read Y) (g : ℕ × List ℕ → Result (ℕ × List ℕ) SignatureError) → ((x : X × ℕ × List ℕ) → placed (f x) ≡ g (x.1, x.2)) → placed (r >>= f) ≡ (placed r >>= g)
placed_then (Ok x) f g h = h x
placed_then (Err e) f g h = refl

module _ (text : List ℕ) (at : ℕ) (a b : ℕ) where
  pub type_none : length text ≤ at → placed (type_at a b at (drop at text)) ≡ Err (BadSignature at)
  type_none le = ap placed (S.type_none text at a b le)

  pub array_deep : at < length text → 97 ≡ get_or text at 97 → a ≡ 0 → placed (type_at a b at (drop at text)) ≡ Err (TooDeep at)
  array_deep lt e z = ap placed (S.array_deep text at a b lt e z)

  pub array_on : at < length text → 97 ≡ get_or text at 97 → (a ≡ 0 → ⊥) → placed (type_at a b at (drop at text)) ≡ placed (element_at (type_at (a - 1)) b (at + 1) (drop (at + 1) text))
  array_on lt e z = ap placed (S.array_on text at a b lt e z) ∙ placed_after (element_at (type_at (a - 1)) b (at + 1) (drop (at + 1) text)) (λ t. W.Array t.0)

  pub struct_deep : at < length text → 40 ≡ get_or text at 40 → b ≡ 0 → placed (type_at a b at (drop at text)) ≡ Err (TooDeep at)
  struct_deep lt e z = ap placed (S.struct_deep text at a b lt e z)

  pub struct_on : at < length text → 40 ≡ get_or text at 40 → (b ≡ 0 → ⊥) → placed (type_at a b at (drop at text)) ≡ placed (members_at (type_at a (b - 1)) (at + 1) (drop (at + 1) text))
  struct_on lt e z = ap placed (S.struct_on text at a b lt e z) ∙ placed_after (members_at (type_at a (b - 1)) (at + 1) (drop (at + 1) text)) (λ ts. W.Struct ts.0)

  pub type_other : (c : ℕ) → at < length text → c ≡ get_or text at c → (c ≡ 97 → ⊥) → (c ≡ 40 → ⊥) → placed (type_at a b at (drop at text)) ≡ placed (code_at at (drop at text))
  type_other c lt e x y = ap placed (S.type_other text at a b c lt e x y)

module _ (text : List ℕ) (at : ℕ) (r : ℕ → ℕ → List ℕ → Read WireType) (b : ℕ) where
  pub element_none : length text ≤ at → placed (element_at r b at (drop at text)) ≡ Err (BadSignature at)
  element_none le = ap placed (S.element_none text at r b le)

  pub entry_deep : at < length text → 123 ≡ get_or text at 123 → b ≡ 0 → placed (element_at r b at (drop at text)) ≡ Err (TooDeep at)
  entry_deep lt e z = ap placed (S.entry_deep text at r b lt e z)

  pub entry_on : at < length text → 123 ≡ get_or text at 123 → (b ≡ 0 → ⊥) → placed (element_at r b at (drop at text)) ≡ (placed (key_at (at + 1) (drop (at + 1) text)) >>= λ k. placed (r (b - 1) k.0 k.1) >>= λ v. closed 125 v.0 v.1)
  entry_on lt e z = ap placed (S.entry_on text at r b lt e z) ∙ placed_then (key_at (at + 1) (drop (at + 1) text)) _ (λ k. placed (r (b - 1) k.0 k.1) >>= λ v. closed 125 v.0 v.1)
      (λ k. placed_then (r (b - 1) k.1 k.2) _ (λ v. closed 125 v.0 v.1) (λ v. ended k.0 v.0 (closed 125 v.1 v.2)))
    where
      ended : (k v : WireType) (x : Result (ℕ × List ℕ) SignatureError) → placed (x >>= λ end. Ok (W.DictEntry k v, end.0, end.1)) ≡ x
      ended k v (Ok x) = refl
      ended k v (Err e) = refl

  pub element_other : (c : ℕ) → at < length text → c ≡ get_or text at c → (c ≡ 123 → ⊥) → placed (element_at r b at (drop at text)) ≡ placed (r b at (drop at text))
  element_other c lt e x = ap placed (S.element_other text at r b c lt e x)

placed_with : (t : WireType) (r : Read (List WireType)) → placed (with_type t r) ≡ placed r
placed_with t (Ok x) = refl
placed_with t (Err e) = refl

module _ (f : ℕ → List ℕ → Read WireType) (text : List ℕ) (next : ℕ) where
  pub members_is : placed (members_at f next (drop next text)) ≡ (placed (f next (drop next text)) >>= λ t. placed (more_at (length t.1) f t.0 t.1))
  unfolding members_at
  members_is = placed_then (f next (drop next text)) _ (λ t. placed (more_at (length t.1) f t.0 t.1)) (λ t. placed_with t.0 (more_at (length t.2) f t.1 t.2))

  onto_nothing : (r : Read (List WireType)) → placed (S.onto [] r) ≡ placed r
  onto_nothing (Ok x) = refl
  onto_nothing (Err e) = refl

  onto_one : (t : WireType) (r : Read (List WireType)) → placed (S.onto (t ∷ []) r) ≡ placed r
  onto_one t (Ok x) = refl
  onto_one t (Err e) = refl

  placed_ok : (r : Read WireType) (end : ℕ) → placed r ≡ Ok (place text end) → (t : WireType) × (r ≡ Ok (after text (t, end)))
  placed_ok (Ok x) end e = (x.0, ap (λ (y : Result (ℕ × List ℕ) SignatureError). again y) e)
    where
      again : Result (ℕ × List ℕ) SignatureError → Read WireType
      again (Ok y) = Ok (x.0, y.0, y.1)
      again (Err e) = Err e
  placed_ok (Err d) end e = absurd (subst Bad e tt)
    where
      Bad : Result (ℕ × List ℕ) SignatureError → Type 0
      Bad (Ok y) = ⊥
      Bad (Err e) = Unit {0}

  placed_err : {X : Type 0} (e : SignatureError) (r : Read X) → placed r ≡ Err e → r ≡ Err e
  placed_err e (Ok x) h = absurd (subst Good h tt)
    where
      Good : Result (ℕ × List ℕ) SignatureError → Type 0
      Good (Ok y) = Unit {0}
      Good (Err e) = ⊥
  placed_err e (Err d) h = ap over h
    where
      over : {X : Type 0} → Result (ℕ × List ℕ) SignatureError → Read X
      over (Ok y) = Err e
      over (Err e) = Err e

  pub more_close : (n : ℕ) → next < length text → get_or text next 0 ≡ 41 → length (drop next text) ≤ n → placed (more_at n f next (drop next text)) ≡ Ok (place text (next + 1))
  more_close n lt is le = sym (onto_nothing (more_at n f next (drop next text))) ∙ ap placed (S.more_close f text [] next n lt is le)

  pub more_step : (n : ℕ) (end : ℕ) → next < length text → next < end → (get_or text next 0 ≡ 41 → ⊥) → placed (f next (drop next text)) ≡ Ok (place text end) → length (drop next text) ≤ n
      → (m : ℕ) × (length (drop end text) ≤ m) × (placed (more_at n f next (drop next text)) ≡ placed (more_at m f end (drop end text)))
  more_step n end lt on other is le =
      let t = placed_ok (f next (drop next text)) end is in
      let s = S.more_step f text [] next n t.0 end lt on other t.1 le in
      (s.0, s.1, sym (onto_nothing (more_at n f next (drop next text))) ∙ (ap placed s.2 ∙ onto_one t.0 (more_at s.0 f end (drop end text))))

  pub more_fails : (n : ℕ) (e : SignatureError) → next < length text → (get_or text next 0 ≡ 41 → ⊥) → length (drop next text) ≤ n → placed (f next (drop next text)) ≡ Err e → placed (more_at n f next (drop next text)) ≡ Err e
  more_fails n e lt other le h = rw (S.more_go f text [] next n lt other le, placed_err e (f next (drop next text)) h) refl

  pub more_end : (n : ℕ) → length text ≤ next → placed (more_at n f next (drop next text)) ≡ Err (BadSignature next)
  more_end n le = sym (onto_nothing (more_at n f next (drop next text))) ∙ ap placed (S.more_end f text [] next n le)

  passed_one : (ts : List WireType) (r : Result (List WireType) SignatureError) → passed (S.behind ts r) ≡ passed r
  passed_one ts (Ok x) = refl
  passed_one ts (Err e) = refl

  pub list_step : (n : ℕ) (end : ℕ) → next < length text → next < end → placed (f next (drop next text)) ≡ Ok (place text end) → length (drop next text) ≤ n
      → (m : ℕ) × (length (drop end text) ≤ m) × (passed (list_at n f next (drop next text)) ≡ passed (list_at m f end (drop end text)))
  list_step n end lt on is le =
      let t = placed_ok (f next (drop next text)) end is in
      let s = S.list_step f text [] next n t.0 end lt on t.1 le in
      (s.0, s.1, sym (passed_one [] (list_at n f next (drop next text))) ∙ (ap passed s.2 ∙ passed_one (t.0 ∷ []) (list_at s.0 f end (drop end text))))

  pub list_fails : (n : ℕ) (e : SignatureError) → next < length text → length (drop next text) ≤ n → placed (f next (drop next text)) ≡ Err e → passed (list_at n f next (drop next text)) ≡ Err e
  list_fails n e lt le h = rw (S.list_go f text [] next n lt le, placed_err e (f next (drop next text)) h) refl

  pub list_end : (n : ℕ) → length text ≤ next → passed (list_at n f next (drop next text)) ≡ Ok tt
  list_end n le = sym (passed_one [] (list_at n f next (drop next text))) ∙ ap passed (S.list_end f text [] next n le)
