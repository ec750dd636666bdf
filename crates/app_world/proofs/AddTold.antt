-- What the trace tells of an Add is what its own machine needs: the documents that are used again, the contents, and
-- the looks that succeeded.
use Rattle.std.proofs.Common.{◌≡◌, ℕ, ◌≤◌, length, List, [], ◌∷◌, drop, map, take, zero, suc, Bool, true, false, ◌||◌, ◌&&◌, cond, Some, None, refl, sym, ap, ◌∙◌, arith}
use Rattle.std.specs.List.{list_all}
use Rattle.std.proofs.lemmas.List.{length-map}
use Rattle.portal_base.specs.Names.{is_same}
use Rattle.file_generations.specs.Generations.{Held}
use Rattle.portal_base.specs.declared.files.File.{File}
use Rattle.portal_base.specs.declared.files.Look.{Look}
use Rattle.portal_model.specs.declared.request.AddRequest.{AddRequest}
use Rattle.portal_model.specs.declared.state.Document.{Document}
use Rattle.portal_model.specs.Add.{is_folder_look, used_again}
use Rattle.portal_model.specs.AddArguments.{exports, is_left_out, makes_strict, persists, reuses}
use Rattle.portal_model.specs.Content.{Content, NotThere, OfFile, OfFolder, content_at, look_of}
use Rattle.portal_model.specs.Documents.{reusable_of}
use Rattle.portal_model.specs.Verdict.{Verdict}
use Rattle.portal_model.specs.Walk.{Answers, Gives, looks_at_all}
use Rattle.portal_model.proofs.ListLookups.{is_same-eq}
use Rattle.app_world.specs.Add.{OwnFile, content_shown, first_reused, look_of_holding, own_files, reused_of, shown_at_path, shown_by_content}
use Rattle.app_world.specs.View.{Alone, Below, Holding, files_below, is_among}

-- ---- documents that are used again

none-used : (documents : List Document) (a : AddRequest) (path : List ℕ) → reuses a ≡ false → None ≡ used_again documents a path
none-used documents a path e = ap (λ (b : Bool). cond b (reusable_of documents path (persists a) (makes_strict a) (exports a)) None) (sym e)

none-one : (documents : List Document) (a : AddRequest) (path : List ℕ) (paths : List (List ℕ)) (b : Bool) → reuses a ≡ false → own_files a paths [] ≡ own_files a paths (reused_of documents a paths) →
    cond b (record { path = path; again = None } ∷ own_files a paths []) (record { path = path; again = None } ∷ own_files a paths [])
    ≡ cond b (record { path = path; again = None } ∷ own_files a paths (cond b (reused_of documents a paths) (used_again documents a path ∷ reused_of documents a paths)))
    (record { path = path; again = first_reused (cond b (reused_of documents a paths) (used_again documents a path ∷ reused_of documents a paths)) }
    ∷ own_files a paths (drop 1 (cond b (reused_of documents a paths) (used_again documents a path ∷ reused_of documents a paths))))
none-one documents a path paths true e h = ap (λ (fs : List OwnFile). record { path = path; again = None } ∷ fs) h
none-one documents a path paths false e h = λ i. record { path = path; again = none-used documents a path e i } ∷ h i

-- a call that does not reuse is told of none
pub none-told : (documents : List Document) (a : AddRequest) → reuses a ≡ false → (paths : List (List ℕ)) → own_files a paths [] ≡ own_files a paths (reused_of documents a paths)
none-told documents a e [] = refl
none-told documents a e (path ∷ paths) = none-one documents a path paths (is_left_out a path) e (none-told documents a e paths)

pub reused-told : (documents : List Document) (a : AddRequest) (paths : List (List ℕ)) (b : Bool) → reuses a ≡ b → own_files a paths (cond b (reused_of documents a paths) []) ≡ own_files a paths (reused_of documents a paths)
reused-told documents a paths true e = refl
reused-told documents a paths false e = none-told documents a e paths

-- ---- contents

take-whole : {X : Type 0} (xs : List X) (n : ℕ) → length xs ≤ n → take n xs ≡ xs
take-whole [] zero e = refl
take-whole [] (suc n) e = refl
take-whole (x ∷ xs) zero e = absurd (omega arith)
take-whole (x ∷ xs) (suc n) e = ap (λ ys. x ∷ ys) (take-whole xs n (omega arith))

content-of : (at : List ℕ → Holding) (paths : List (List ℕ)) (path : List ℕ) → is_among paths path ≡ true → content_shown paths (map at paths) path ≡ at path
content-of at [] path e = cc
content-of at (p ∷ ps) path e = by_first (is_same p path) refl e (content-of at ps path)
  where
    by_first : (b : Bool) → is_same p path ≡ b → (b || is_among ps path) ≡ true → (is_among ps path ≡ true → content_shown ps (map at ps) path ≡ at path) →
        cond b (at p) (content_shown ps (map at ps) path) ≡ at path
    by_first true f g h = ap at (is_same-eq p path f)
    by_first false f g h = h g

-- where all looks succeeded, what there is at each path is shown
pub contents-told : (at : List ℕ → Holding) (paths : List (List ℕ)) (n : ℕ) → length paths ≤ n → (path : List ℕ) → is_among paths path ≡ true → content_shown paths (map at (take n paths)) path ≡ at path
contents-told at paths n e path h = ap (λ ps. content_shown paths (map at ps) path) (take-whole paths n e) ∙ content-of at paths path h

-- and of a folder that is exported it is what there is for its document
pub holding-shown : (files : List File) (path : List ℕ) (exported : Bool) (c : Content) → (exported ≡ true → is_folder_look (look_of_holding (shown_by_content files path exported c)) ≡ true) →
    shown_by_content files path exported c ≡ cond exported (Below (files_below files path)) (Alone c)
holding-shown files path true (OfFile generation bytes moment) f = let no : false ≡ true = f refl in cc
holding-shown files path false (OfFile generation bytes moment) f = refl
holding-shown files path true OfFolder f = refl
holding-shown files path false OfFolder f = refl
holding-shown files path true (NotThere room) f = let no : false ≡ true = f refl in cc
holding-shown files path false (NotThere room) f = refl

pub folder-among : (at : List ℕ → Holding) (paths : List (List ℕ)) (path : List ℕ) → list_all is_folder_look (map look_of_holding (map at paths)) ≡ true → is_among paths path ≡ true → is_folder_look (look_of_holding (at path)) ≡ true
folder-among at [] path f h = let no : false ≡ true = h in cc
folder-among at (p ∷ ps) path f h = by_first (is_same p path) refl h (folder-among at ps path (second (is_folder_look (look_of_holding (at p))) f)) (first (is_folder_look (look_of_holding (at p))) _ f)
  where
    second : (a : Bool) {b : Bool} → (a && b) ≡ true → b ≡ true
    second true e = e
    second false e = cc

    first : (a b : Bool) → (a && b) ≡ true → a ≡ true
    first true b e = refl
    first false b e = cc

    by_first : (b : Bool) → is_same p path ≡ b → (b || is_among ps path) ≡ true → (is_among ps path ≡ true → is_folder_look (look_of_holding (at path)) ≡ true) → is_folder_look (look_of_holding (at p)) ≡ true → is_folder_look (look_of_holding (at path)) ≡ true
    by_first true e g k l = ap (λ (q : List ℕ). is_folder_look (look_of_holding (at q))) (sym (is_same-eq p path e)) ∙ l
    by_first false e g k l = k g

-- ---- looks

take-none : {X : Type 0} (xs : List X) → take 0 xs ≡ []
take-none [] = refl
take-none (x ∷ xs) = refl

pub none-given : (looks : List Look) (cs : List Holding) → looks ≡ [] → map look_of_holding (take (length looks) cs) ≡ looks
none-given [] cs e = ap (map look_of_holding) (take-none cs)
none-given (look ∷ looks) cs e = cc

pub shown-look : (files : List File) (path : List ℕ) (exported : Bool) (c : Content) → look_of_holding (shown_by_content files path exported c) ≡ look_of c
shown-look files path exported (OfFile generation bytes moment) = refl
shown-look files path true OfFolder = refl
shown-look files path false OfFolder = refl
shown-look files path exported (NotThere room) = refl

-- a tree that tells gives looks at what is at the paths, and those that succeeded are told by what is shown
pub looks-told : (tree : Held) (exported : Bool) (paths : List (List ℕ)) (verdicts : List Look → Verdict) (looks : List Look) (failed : Bool) (n : ℕ) → length looks ≤ n →
    Gives (Some tree) (looks_at_all paths (λ all. Answers (verdicts all))) looks failed → map look_of_holding (take (length looks) (map (shown_at_path tree.present exported) (take n paths))) ≡ looks
looks-told tree exported [] verdicts looks failed n e g = none-given looks (map (shown_at_path tree.present exported) (take n [])) g.0
looks-told tree exported (path ∷ paths) verdicts [] failed n e g = ap (map look_of_holding) (take-none (map (shown_at_path tree.present exported) (take n (path ∷ paths))))
looks-told tree exported (path ∷ paths) verdicts (look ∷ looks) failed zero e g = absurd (omega arith)
looks-told tree exported (path ∷ paths) verdicts (look ∷ looks) failed (suc n) e g =
    λ i. (shown-look tree.present path exported (content_at tree.present path) ∙ sym g.0) i ∷ looks-told tree exported paths (λ more. verdicts (look ∷ more)) looks failed n (omega arith) g.1 i

-- where all looks succeeded, they are those of what is shown
pub looks-whole : (at : List ℕ → Holding) (paths : List (List ℕ)) (looks : List Look) (n : ℕ) → length looks ≤ n → length paths ≤ length looks → map look_of_holding (take (length looks) (map at (take n paths))) ≡ looks →
    take (length paths) looks ≡ map look_of_holding (map at paths)
looks-whole at paths looks n e f g =
    let whole : take (length looks) (map at (take n paths)) ≡ map at paths =
    ap (λ ps. take (length looks) (map at ps)) (take-whole paths n (omega arith)) ∙ take-whole (map at paths) (length looks) (let l = length-map paths at in omega arith) in
    let is : map look_of_holding (map at paths) ≡ looks = ap (map look_of_holding) (sym whole) ∙ g in
    ap (take (length paths)) (sym is)
    ∙ take-whole (map look_of_holding (map at paths)) (length paths) (let l = length-map (map at paths) look_of_holding in let m = length-map paths at in omega arith)
