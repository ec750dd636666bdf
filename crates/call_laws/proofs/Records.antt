-- What is told of documents and of their rights is text.
use Rattle.std.proofs.Common.{◌≡◌, ℕ, ◌<◌, Bool, true, false, cond, List, [], ◌∷◌, map, Option, Some, None, sym, subst, refl}
use Rattle.std.specs.Prelude.{All, ◌==◌, ◌||◌, is_some}
use Rattle.std.specs.List.{filter, list_all}
use Rattle.std.proofs.lemmas.Bool.{and_parts}
use Rattle.std.proofs.lemmas.List.Elements.{All-nil, All-cons, All-head, All-tail, All-map, All-filter, All-weaker}
use Rattle.portal_base.specs.Names.{is_same, is_app_name, is_doc_id, is_host_path, hex_number}
use Rattle.portal_model.specs.declared.reply.ListedDocument.{ListedDocument}
use Rattle.portal_model.specs.declared.state.Document.{Document}
use Rattle.portal_model.specs.declared.state.Triple.{Triple}
use Rattle.portal_model.specs.Arguments.{document_named}
use Rattle.portal_model.specs.Info.{holders, row_of}
use Rattle.portal_model.specs.ListDocuments.{documents_listed, is_listed_for, listed, lower}
use Rattle.portal_model.specs.Ordered.{bytes_less, put, put_all}
use Rattle.portal_model.specs.State.{State, document_of, held_of}
use Rattle.portal_model.specs.Valid.{Valid, is_numbered, is_placed}
use Rattle.portal_model.proofs.ListLookups.{is_same-eq}
use Rattle.dbus_dispatch.specs.Writable.{HasTexts}
use Rattle.call_laws.proofs.Texts.{name_text, path_bytes, right_texts}

-- ---- lists in order

module _ {X : Type 0} (before : X → X → Bool) (P : X → Type 0) where
  put_told : (x y : X) (ys : List X) (b c : Bool) → P x → P y → All P ys → All P (put before x ys) → All P (cond b (x ∷ y ∷ ys) (cond c (y ∷ put before x ys) (x ∷ ys)))
  put_told x y ys true c p q rest more = All-cons P x (y ∷ ys) p (All-cons P y ys q rest)
  put_told x y ys false true p q rest more = All-cons P y (put before x ys) q more
  put_told x y ys false false p q rest more = All-cons P x ys p rest

  put_all_of : (x : X) (ys : List X) → P x → All P ys → All P (put before x ys)
  put_all_of x [] p h = All-cons P x [] p (All-nil P)
  put_all_of x (y ∷ ys) p h =
      let rest : All P ys = All-tail P y ys h in
      put_told x y ys (before x y) (before y x) p (All-head P y ys h) rest (put_all_of x ys p rest)

  pub all_put : (xs : List X) → All P xs → All P (put_all before xs)
  all_put [] h = All-nil P
  all_put (x ∷ xs) h = put_all_of x (put_all before xs) (All-head P x xs h) (all_put xs (All-tail P x xs h))

-- ---- documents

abbrev OnHost : Document → Type 0
OnHost d = is_host_path d.path ≡ true

all_on_host : (ds : List Document) → list_all (λ (d : Document). is_host_path d.path) ds ≡ true → All OnHost ds
all_on_host [] h = All-nil OnHost
all_on_host (d ∷ ds) h = let p = and_parts (is_host_path d.path) (list_all (λ (e : Document). is_host_path e.path) ds) h in All-cons OnHost d ds p.0 (all_on_host ds p.1)

abbrev pub IfOnHost : Option Document → Type 0
IfOnHost None = Unit {0}
IfOnHost (Some d) = OnHost d

chosen : (b : Bool) (d : Document) (o : Option Document) → OnHost d → IfOnHost o → IfOnHost (cond b (Some d) o)
chosen true d o p h = p
chosen false d o p h = h

found_on_host : (number : ℕ) (ds : List Document) → All OnHost ds → IfOnHost (document_of ds number)
found_on_host number [] h = tt
found_on_host number (d ∷ ds) h = chosen (d.id.number == number) d (document_of ds number) (All-head OnHost d ds h) (found_on_host number ds (All-tail OnHost d ds h))

named_if : (b : Bool) (o : Option Document) → IfOnHost o → IfOnHost (cond b o None)
named_if true o h = h
named_if false o h = tt

pub named_on_host : (s : State) (doc : List ℕ) → Valid s → IfOnHost (document_named s.documents doc)
named_on_host s doc valid = named_if (is_doc_id doc) (document_of s.documents (hex_number doc)) (found_on_host (hex_number doc) s.documents (all_on_host s.documents valid.paths))

abbrev HasBytes : ListedDocument → Type 0
HasBytes document = All (λ b. b < 256) document.path

pub listed_have_bytes : (s : State) (app : List ℕ) → Valid s → All HasBytes (documents_listed s app)
listed_have_bytes s app valid =
    let some : List Document = filter (is_listed_for s.rights app) s.documents in
    let on_host : All OnHost (put_all lower some) = all_put lower OnHost some (All-filter (is_listed_for s.rights app) OnHost s.documents (all_on_host s.documents valid.paths)) in
    All-map HasBytes listed (put_all lower some) (All-weaker OnHost (λ (d : Document). HasBytes (listed d)) (λ d p. path_bytes d.path p) (put_all lower some) on_host)

-- ---- rights

abbrev IsNamed : List ℕ → Type 0
IsNamed app = is_app_name app ≡ true

numbered_here : (app other : List ℕ) (rest : Bool) (b : Bool) → is_same app other ≡ b → IsNamed other → (b || rest) ≡ true → (rest ≡ true → IsNamed app) → IsNamed app
numbered_here app other rest true is p h later = subst IsNamed (sym (is_same-eq app other is)) p
numbered_here app other rest false is p h later = later h

numbered_named : (app : List ℕ) (apps : List (List ℕ)) → list_all is_app_name apps ≡ true → is_numbered apps app ≡ true → IsNamed app
numbered_named app [] h g = absurd cc
numbered_named app (other ∷ apps) h g =
    let p = and_parts (is_app_name other) (list_all is_app_name apps) h in
    numbered_here app other (is_numbered apps app) (is_same app other) refl p.0 g (numbered_named app apps p.1)

placed_named : (s : State) (ts : List Triple) → list_all is_app_name s.applications ≡ true → list_all (is_placed s) ts ≡ true → All (λ (t : Triple). IsNamed t.app) ts
placed_named s [] names h = All-nil (λ (t : Triple). IsNamed t.app)
placed_named s (t ∷ ts) names h =
    let p = and_parts (is_placed s t) (list_all (is_placed s) ts) h in
    let q = and_parts (is_some (document_of s.documents t.id.number)) (is_numbered s.applications t.app) p.0 in
    All-cons (λ (u : Triple). IsNamed u.app) t ts (numbered_named t.app s.applications names q.1) (placed_named s ts names p.1)

holders_named : (s : State) (number : ℕ) → Valid s → All IsNamed (holders s.rights number)
holders_named s number valid =
    let here : List Triple = filter (λ (t : Triple). t.id.number == number) s.rights in
    let named : All (λ (t : Triple). IsNamed t.app) here = All-filter (λ (t : Triple). t.id.number == number) (λ (t : Triple). IsNamed t.app) s.rights (placed_named s s.rights valid.names valid.rights_placed) in
    all_put bytes_less IsNamed (map (λ (t : Triple). t.app) here) (All-map IsNamed (λ (t : Triple). t.app) here named)

row_has_texts : (rights : List Triple) (number : ℕ) (app : List ℕ) → IsNamed app → HasTexts (row_of rights number app)
row_has_texts rights number app h = record { app = name_text app h; names = right_texts (held_of rights app number) }

pub rows_have_texts : (s : State) (number : ℕ) → Valid s → All HasTexts (map (row_of s.rights number) (holders s.rights number))
rows_have_texts s number valid =
    All-map HasTexts (row_of s.rights number) (holders s.rights number)
    (All-weaker IsNamed (λ (app : List ℕ). HasTexts (row_of s.rights number app)) (λ app p. row_has_texts s.rights number app p) (holders s.rights number) (holders_named s number valid))
