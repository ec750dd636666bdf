-- A text behind what it begins with, piece by piece.
use Rattle.std.proofs.Common.{◌≡◌, ℕ, ◌+◌, ◌<◌, ◌≤◌, false, List, [], ◌∷◌, ◌++◌, length, get_or, drop, Option, Some, None, refl, sym, ap, subst, ◌∙◌, append_assoc, append-nil, drop-cons, add-one, inl, inr}
use Rattle.std.proofs.lemmas.List.{append_cancel_left}
use Rattle.std.proofs.Math.ListN.{drop_of_length-le}
use Rattle.dbus_types.specs.declared.types.WireType.{WireType}
use Rattle.dbus_types.specs.declared.types.WireType.TheVariants as W
use Rattle.dbus_types.specs.Types.{type_text, types_text}
use Rattle.dbus_types.proofs.TypeLayers.{text_entry}
use Rattle.std.specs.Str.{bytes_eq}
use Rattle.std.proofs.lemmas.Bool.{cases_Bool}
use Rattle.std.proofs.lemmas.Slice.Eq.{bytes_eq-Decides}
use Rattle.dbus_calls.specs.Signatures.{IsBehind}

pub behind_two : (x y text mid : List ℕ) (r : Option (List ℕ)) → text ≡ x ++ mid → IsBehind y mid r → IsBehind (x ++ y) text r
behind_two x y text mid (Some rest) first next = first ∙ (ap (λ (w : List ℕ). x ++ w) next ∙ sym (append_assoc x y rest))
behind_two x y text mid None first next = λ rest h. next rest (append_cancel_left x mid (y ++ rest) (sym first ∙ (h ∙ append_assoc x y rest)))

pub behind_none : (x y text : List ℕ) → IsBehind x text None → IsBehind (x ++ y) text None
behind_none x y text none = λ rest h. none (y ++ rest) (h ∙ append_assoc x y rest)

at_item : (ts : List WireType) (i : ℕ) (t : WireType) → i < length ts → t ≡ get_or ts i t → drop i ts ≡ t ∷ drop (i + 1) ts
at_item ts i t lt e = rw (drop-cons ts i t lt, ← e, add-one) refl

-- what is passed of the texts of types
abbrev pub Passed : List WireType → ℕ → List ℕ → List ℕ → Type 0
Passed ts i text rest = (done : List ℕ) × (text ≡ done ++ rest) × (types_text ts ≡ done ++ types_text (drop i ts))

pub passed_more : (ts : List WireType) (i : ℕ) (t : WireType) (text rest next : List ℕ) → Passed ts i text rest → i < length ts → t ≡ get_or ts i t → rest ≡ type_text t ++ next → Passed ts (i + 1) text next
passed_more ts i t text rest next p lt e is = (
  p.0 ++ type_text t,
  p.1 ∙ (ap (λ (w : List ℕ). p.0 ++ w) is ∙ sym (append_assoc p.0 (type_text t) next)),
  p.2 ∙ (ap (λ (l : List WireType). p.0 ++ types_text l) (at_item ts i t lt e) ∙ sym (append_assoc p.0 (type_text t) (types_text (drop (i + 1) ts)))),
)

pub passed_none : (ts : List WireType) (i : ℕ) (t : WireType) (text rest : List ℕ) → Passed ts i text rest → i < length ts → t ≡ get_or ts i t → IsBehind (type_text t) rest None → IsBehind (types_text ts) text None
passed_none ts i t text rest p lt e none = λ more h.
    let all : types_text ts ≡ p.0 ++ (type_text t ++ types_text (drop (i + 1) ts)) = p.2 ∙ ap (λ (l : List WireType). p.0 ++ types_text l) (at_item ts i t lt e) in
    let whole : IsBehind (p.0 ++ (type_text t ++ types_text (drop (i + 1) ts))) text None = behind_two p.0 (type_text t ++ types_text (drop (i + 1) ts)) text rest None p.1 (behind_none (type_text t) (types_text (drop (i + 1) ts)) rest none) in
    whole more (h ∙ ap (λ (w : List ℕ). w ++ more) all)

pub passed_all : (ts : List WireType) (i : ℕ) (text rest : List ℕ) → Passed ts i text rest → length ts ≤ i → text ≡ types_text ts ++ rest
passed_all ts i text rest p le =
    let all : types_text ts ≡ p.0 = p.2 ∙ (ap (λ (l : List WireType). p.0 ++ types_text l) (drop_of_length-le ts le) ∙ append-nil p.0) in
    p.1 ∙ ap (λ (w : List ℕ). w ++ rest) (sym all)

pub not_equal : (front text : List ℕ) → IsBehind front text None → false ≡ bytes_eq front text
not_equal front text none = elim (cases_Bool (bytes_eq front text)) [ inl t ↦ absurd (none [] (sym ((bytes_eq-Decides front text).0 t) ∙ sym (append-nil front))) | inr f ↦ sym f ]

-- the texts of an entry's parts
pub entry_behind : (k u : WireType) (text first second end : List ℕ) (r : Option (List ℕ)) → text ≡ 123 ∷ first → first ≡ type_text k ++ second → second ≡ type_text u ++ end → IsBehind (125 ∷ []) end r → IsBehind (type_text (W.DictEntry k u)) text r
entry_behind k u text first second end r a b c d =
    let last = behind_two (type_text u) (125 ∷ []) second end r c d in
    let inside = behind_two (type_text k) (type_text u ++ 125 ∷ []) first second r b last in
    subst (λ (w : List ℕ). IsBehind w text r) (sym (text_entry k u)) (behind_two (123 ∷ []) (type_text k ++ (type_text u ++ 125 ∷ [])) text first r a inside)

pub entry_no_value : (k u : WireType) (text first second : List ℕ) → text ≡ 123 ∷ first → first ≡ type_text k ++ second → IsBehind (type_text u) second None → IsBehind (type_text (W.DictEntry k u)) text None
entry_no_value k u text first second a b none =
    let inside = behind_two (type_text k) (type_text u ++ 125 ∷ []) first second None b (behind_none (type_text u) (125 ∷ []) second none) in
    subst (λ (w : List ℕ). IsBehind w text None) (sym (text_entry k u)) (behind_two (123 ∷ []) (type_text k ++ (type_text u ++ 125 ∷ [])) text first None a inside)
