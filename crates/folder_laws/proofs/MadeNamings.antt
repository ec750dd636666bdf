-- After a legal history all that is named is of a document that was made, below its path while it is live.
use Rattle.std.proofs.Common.{◌≡◌, ℕ, ◌==◌, List, [], ◌∷◌, ◌++◌, length, nat_le, Bool, true, false, ◌&&◌, ◌||◌, cond, Option, Some, None, refl, sym, ap, ◌∙◌, arith}
use Rattle.std.specs.List.{IsDistinct, list_all, onto_first, slice_split}
use Rattle.std.specs.Str.{is_utf8}
use Rattle.std.proofs.lemmas.List.Folds.{list_all-append}
use Rattle.portal_base.specs.Content.{is_above}
use Rattle.portal_base.specs.Names.{has_path_form, is_byte_of_path, is_host_path, is_part, is_rooted, is_same, is_slash, path_limit, root}
use Rattle.portal_base.specs.declared.names.doc_id.DocId.{DocId}
use Rattle.portal_base.proofs.PathsAbove.{first-same, no-path-is-empty, rest-below, slash-first}
use Rattle.portal_model.specs.declared.naming.Naming.{Naming}
use Rattle.portal_model.specs.declared.state.Connection.{Connection}
use Rattle.portal_model.specs.declared.state.Document.{Document}
use Rattle.portal_model.specs.History.{run}
use Rattle.portal_model.specs.SoundNames.{SoundNamings, is_placed_naming, is_sound_naming}
use Rattle.portal_model.specs.State.{State, connection_of, document_of, is_made}
use Rattle.portal_model.specs.Valid.{Valid}
use Rattle.portal_model.proofs.DocumentChanges.{first_of_both, second_of_both}
use Rattle.portal_model.proofs.ListLookups.{found_in_all, is_same-eq}
use Rattle.portal_model.proofs.NamesValid.{names-found}
use Rattle.portal_model.proofs.OpeningLaws.{openings-valid}
use Rattle.portal_model.proofs.ValidLaws.{lawful-Valid, run-Valid}
use Rattle.folder_laws.specs.Namings.{AreOfMadeDocuments, IsBelow, IsOfMadeDocument, NamingsAreOfMadeDocuments, named_by, namings_of}
use Rattle.folder_laws.proofs.NamedLists.{number-passes}

-- ---- what a seat has named is sound

nothing-named : (made : List DocId) (ds : List Document) → SoundNamings made ds []
unfolding IsDistinct
nothing-named made ds = record { differ = tt; within = omega arith; sound = refl }

pub named-sound : (s : State) (seat : ℕ) → Valid s → SoundNamings s.made s.documents (named_by s seat)
named-sound s seat v = by_found (connection_of s.connections seat) refl
  where
    by_found : (o : Option Connection) → connection_of s.connections seat ≡ o → SoundNamings s.made s.documents (namings_of o)
    by_found None e = nothing-named s.made s.documents
    by_found (Some c) e = names-found s.made s.documents seat s.connections c e v.namings_sound

-- ---- the parts of a path below another

abbrev Behind : List ℕ → List ℕ → Type 0
Behind folder path = (rest : List ℕ) × (path ≡ folder ++ 47 ∷ rest)

behind : (f p : List ℕ) → is_above f p ≡ true → Behind f p
behind [] [] h = cc
behind [] (b ∷ bs) h = (bs, ap (λ (x : ℕ). x ∷ bs) (slash-first b bs h))
behind (a ∷ ps) [] h = cc
behind (a ∷ ps) (b ∷ bs) h =
    let r = behind ps bs (rest-below a b ps bs h) in
    let e : b ≡ a = sym (first-same a b ps bs h) in
    let d : bs ≡ ps ++ 47 ∷ r.0 = r.1 in
    (r.0, λ i. e i ∷ d i)

-- a list that ends with the parts of the rest, and has at least one ahead of them
abbrev EndsWith : List (List ℕ) → List ℕ → Type 0
EndsWith parts rest = (first : List ℕ) × (others : List (List ℕ)) × (parts ≡ first ∷ (others ++ slice_split is_slash rest))

parts-end : (f rest : List ℕ) → EndsWith (slice_split is_slash (f ++ 47 ∷ rest)) rest
parts-end [] rest = ([], [], refl)
parts-end (b ∷ bs) rest = step (is_slash b) (parts-end bs rest)
  where
    step : (c : Bool) → EndsWith (slice_split is_slash (bs ++ 47 ∷ rest)) rest → EndsWith (cond c ([] ∷ slice_split is_slash (bs ++ 47 ∷ rest)) (onto_first b (slice_split is_slash (bs ++ 47 ∷ rest)))) rest
    step true h = ([], h.0 ∷ h.1, ap (λ (x : List (List ℕ)). [] ∷ x) h.2)
    step false h = (b ∷ h.0, h.1, ap (onto_first b) h.2)

rooted-parts : (first : List ℕ) (parts : List (List ℕ)) → is_rooted (first ∷ parts) ≡ true → list_all is_part parts ≡ true
rooted-parts first [] h = refl
rooted-parts first (p ∷ ps) h = second_of_both (is_same first []) (list_all is_part (p ∷ ps)) h

last-parts : (f rest : List ℕ) → is_rooted (slice_split is_slash (f ++ 47 ∷ rest)) ≡ true → list_all is_part (slice_split is_slash rest) ≡ true
last-parts f rest h =
    let e = parts-end f rest in
    let all : list_all is_part (e.1 ++ slice_split is_slash rest) ≡ true = rooted-parts e.0 (e.1 ++ slice_split is_slash rest) (ap is_rooted (sym e.2) ∙ h) in
    second_of_both (list_all is_part e.1) (list_all is_part (slice_split is_slash rest)) (sym (list_all-append is_part e.1 (slice_split is_slash rest)) ∙ all)

path-parts : (p : List ℕ) → is_host_path p ≡ true → (is_same p root || is_rooted (slice_split is_slash p)) ≡ true
unfolding is_host_path
path-parts p h = second_of_both (is_utf8 p && list_all is_byte_of_path p) (is_same p root || is_rooted (slice_split is_slash p)) (first_of_both (has_path_form p) (nat_le (length p) path_limit) h)

-- nothing but the empty text is above the root
above-root : (f rest : List ℕ) → root ≡ f ++ 47 ∷ rest → f ≡ []
above-root [] rest e = refl
above-root (a ∷ []) rest e = cc
above-root (a ∷ b ∷ bs) rest e = cc

pub is-below : (folder path : List ℕ) → is_host_path folder ≡ true → is_host_path path ≡ true → is_above folder path ≡ true → IsBelow folder path
is-below folder path named host above =
    let r = behind folder path above in
    record { behind = r.0; joined = r.1; parts = step (is_same path root) refl (path-parts path host) }
  where
    step : (b : Bool) → is_same path root ≡ b → (b || is_rooted (slice_split is_slash path)) ≡ true → list_all is_part (slice_split is_slash (behind folder path above).0) ≡ true
    step true e h =
        let r = behind folder path above in
        let nothing : folder ≡ [] = above-root folder r.0 (sym (is_same-eq path root e) ∙ r.1) in
        absurd (no-path-is-empty (ap is_host_path (sym nothing) ∙ named))
    step false e h = let r = behind folder path above in last-parts folder r.0 (ap (λ (x : List ℕ). is_rooted (slice_split is_slash x)) (sym r.1) ∙ h)

-- ---- the law

module _ (s : State) (v : Valid s) (n : Naming) (h : is_sound_naming s.made s.documents n ≡ true) where
  abbrev number : ℕ
  number = n.document.number

  rest : (is_host_path n.path && is_placed_naming (document_of s.documents number) n) ≡ true
  rest = second_of_both (is_made s.made number) (is_host_path n.path && is_placed_naming (document_of s.documents number) n) h

  placed : (d : Document) → document_of s.documents number ≡ Some d → (d.folder && is_above d.path n.path) ≡ true
  placed d e = ap (λ (o : Option Document). is_placed_naming o n) (sym e) ∙ second_of_both (is_host_path n.path) (is_placed_naming (document_of s.documents number) n) rest

  host_of : (d : Document) → document_of s.documents number ≡ Some d → is_host_path d.path ≡ true
  host_of d e = found_in_all (λ (x : Document). x.id.number == number) (λ (x : Document). is_host_path x.path) s.documents d e v.paths

  sound-is : IsOfMadeDocument s n
  sound-is = record {
    made = first_of_both (is_made s.made number) (is_host_path n.path && is_placed_naming (document_of s.documents number) n) h;
    folder = λ d e. first_of_both d.folder (is_above d.path n.path) (placed d e);
    below = λ d e. is-below d.path n.path (host_of d e) (first_of_both (is_host_path n.path) (is_placed_naming (document_of s.documents number) n) rest) (second_of_both d.folder (is_above d.path n.path) (placed d e));
  }

valid-are : (s : State) → Valid s → AreOfMadeDocuments s
valid-are s v seat k n e = sound-is s v n (number-passes (is_sound_naming s.made s.documents) (named_by s seat) k n e (named-sound s seat v).sound)

pub made-documents : NamingsAreOfMadeDocuments
made-documents = record {
  legal = λ s h l. valid-are (run s h) (run-Valid h s l);
  told = λ o h sound l. valid-are _ (lawful-Valid h _ (openings-valid.told o sound).valid l);
  quiet = λ o h sound l. valid-are _ (lawful-Valid h _ (openings-valid.quiet o sound).valid l);
}
