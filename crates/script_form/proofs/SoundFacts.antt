-- What a script keeps is such as a valid state has.
use Rattle.std.proofs.Common.{◌≡◌, ℕ, ◌+◌, ◌<◌, ◌≤◌, ◌==◌, ◌^◌, nat_eq, Bool, true, false, ◌&&◌, ◌||◌, not, List, [], ◌∷◌, ◌++◌, length, take, map, refl, ap, ◌∙◌, arith, append_assoc, cond, Less, nat_cmp}
use Rattle.std.specs.Prelude.{count_by, nat_le, nat_lt}
use Rattle.std.specs.Cmp.Lexicographic.{slice_cmp, nat_list_cmp_total}
use Rattle.std.specs.List.{All, list_any, list_all, AllByRecursion, IsDistinct}
use Rattle.std.proofs.lemmas.Bool.{and_parts, ltb-true}
use Rattle.std.proofs.lemmas.Bool.Decides.{nat_tests}
use Rattle.std.proofs.lemmas.List.{length-append, take_all}
use Rattle.std.proofs.lemmas.List.Elements.{All-nil, All-cons, All-head, All-tail}
use Rattle.std.proofs.lemmas.List.Folds.{list_any-append}
use Rattle.std.proofs.lemmas.List.Sums.{sum_by-append}
use Rattle.portal_base.specs.Names.{is_same, is_app_name, is_host_path, root}
use Rattle.portal_base.specs.declared.files.File.{File as HostFile}
use Rattle.portal_model.specs.Content.{is_above, is_folder}
use Rattle.portal_model.specs.Opening.{has_grants, is_first_item, is_folder_kept, is_grant, names_kept, file_of, GrantsDiffer}
use Rattle.portal_model.specs.Valid.{applications_limit}
use Rattle.portal_model.specs.declared.opening.FileItem.{FileItem}
use Rattle.portal_model.specs.declared.opening.OpeningDocument.{OpeningDocument}
use Rattle.portal_model.specs.declared.records.GrantRecord.{GrantRecord}
use Rattle.portal_model.specs.declared.records.EntryRecord.{EntryRecord}
use Rattle.record_keeper.specs.SoundRecords.{IsGrant, IsRising, IsValidEntry}
use Rattle.script_lines.specs.Lines.{is_script_path, is_plain}
use Rattle.script_form.specs.Paths.{clash}
use Rattle.script_form.specs.Opening.{documents_of, entries_of, files_from, time_behind, applications_of}
use Rattle.script_form.specs.Order.{StandBehind, clashes, keeps, stores, is_doc, document_limit}
use Rattle.script_lines.specs.declared.script.ScriptLine.{ScriptLine}
use Rattle.script_lines.specs.declared.script.ScriptLine.TheVariants.{File, Doc, Entry}
use Rattle.script_form.proofs.ScriptFacts.{append_nil}
use Rattle.script_lines.proofs.TextFacts.{no_true, eqb_yes}
use Rattle.record_keeper.proofs.SameTexts.{same_from_test}
use Rattle.script_lines.proofs.WordFacts.{same_refl}

not_true : (b : Bool) → not b ≡ true → b ≡ false
not_true true h = cc h
not_true false h = refl

still : (p : ScriptLine → Bool) (earlier : List ScriptLine) (line : ScriptLine) → list_any p earlier ≡ true → list_any p (earlier ++ (line ∷ [])) ≡ true
still p earlier line h = list_any-append p earlier (line ∷ []) ∙ rw h refl

now : (p : ScriptLine → Bool) (earlier : List ScriptLine) (line : ScriptLine) → p line ≡ true → list_any p (earlier ++ (line ∷ [])) ≡ true
now p earlier line h = list_any-append p earlier (line ∷ []) ∙ rw h (or_true (list_any p earlier))
  where
    or_true : (b : Bool) → (b || true) ≡ true
    or_true true = refl
    or_true false = refl

-- ---- documents

abbrev numbers : List ScriptLine → List ℕ
numbers lines = map (λ (d : OpeningDocument). d.kept.number) (documents_of lines)

pub doc_new : (earlier : List ScriptLine) (n : ℕ) (b c : Bool) → (not b && (not (list_any (keeps n) earlier) && c)) ≡ true → list_any (keeps n) earlier ≡ false
doc_new earlier n b c h =
    let parts = and_parts (not b) (not (list_any (keeps n) earlier) && c) h in
    not_true _ (and_parts (not (list_any (keeps n) earlier)) c parts.1).0

later_numbers : (n : ℕ) (lines earlier : List ScriptLine) → list_any (keeps n) earlier ≡ true → StandBehind earlier lines → AllByRecursion (λ y. (n == y) ≡ false) (numbers lines)
later_numbers n [] earlier kept all = tt
later_numbers n (Doc id reusable strict path grants ∷ ls) earlier kept all = (
  no_true (n == id.number) (λ same.
      let e : n ≡ id.number = grind (arith, nat_tests) in
      let new = doc_new earlier id.number _ _ all.0.order in
      cc (kept, new, e)),
  later_numbers n ls _ (still (keeps n) earlier _ kept) all.1,
)
later_numbers n (line ∷ ls) earlier kept all = later_numbers n ls _ (still (keeps n) earlier _ kept) all.1

pub numbers_differ : (lines earlier : List ScriptLine) → StandBehind earlier lines → IsDistinct nat_eq (numbers lines)
unfolding IsDistinct
numbers_differ [] earlier all = tt
numbers_differ (Doc id reusable strict path grants ∷ ls) earlier all = (
  later_numbers id.number ls _ (now (keeps id.number) earlier (Doc id reusable strict path grants) (eqb_yes id.number)) all.1,
  numbers_differ ls _ all.1,
)
numbers_differ (line ∷ ls) earlier all = numbers_differ ls _ all.1

path_is : (path : List ℕ) → is_script_path path ≡ true → is_host_path path ≡ true
path_is path h = (and_parts (is_host_path path) (list_all is_plain path) h).0

both_true : (a b : Bool) → a ≡ true → b ≡ true → (a && b) ≡ true
both_true a b ha hb = rw (ha, hb) refl

pub paths_are : (lines earlier : List ScriptLine) → StandBehind earlier lines → list_all (λ (d : OpeningDocument). is_host_path d.kept.path) (documents_of lines) ≡ true
paths_are [] earlier all = refl
paths_are (Doc id reusable strict path grants ∷ ls) earlier all = both_true (is_host_path path) _ (path_is path all.0.itself.1) (paths_are ls _ all.1)
paths_are (line ∷ ls) earlier all = paths_are ls _ all.1

grant_names : (gs : List GrantRecord) → All IsGrant gs → list_all is_app_name (map (λ (g : GrantRecord). g.app) gs) ≡ true
grant_names [] all = refl
grant_names (g ∷ gs) all = both_true (is_app_name g.app) _ (All-head IsGrant g gs all).name (grant_names gs (All-tail IsGrant g gs all))

pub names_are : (lines earlier : List ScriptLine) → StandBehind earlier lines → list_all (λ (d : OpeningDocument). list_all is_app_name (names_kept d)) (documents_of lines) ≡ true
names_are [] earlier all = refl
names_are (Doc id reusable strict path grants ∷ ls) earlier all = both_true (list_all is_app_name (map (λ (g : GrantRecord). g.app) grants)) _ (grant_names grants all.0.itself.2.grants) (names_are ls _ all.1)
names_are (line ∷ ls) earlier all = names_are ls _ all.1

grants_right : (gs : List GrantRecord) → All IsGrant gs → list_all is_grant gs ≡ true
grants_right [] all = refl
grants_right (g ∷ gs) all =
    let one = All-head IsGrant g gs all in
    both_true (is_grant g) _ (right_one g.rights one.some_right one.no_other) (grants_right gs (All-tail IsGrant g gs all))
  where
    right_one : (rights : ℕ) → 1 ≤ rights → rights ≤ 15 → (nat_le 1 rights && nat_le rights 15) ≡ true
    right_one rights some most = grind (arith, nat_tests)

pub grants_are : (lines earlier : List ScriptLine) → StandBehind earlier lines → list_all has_grants (documents_of lines) ≡ true
grants_are [] earlier all = refl
grants_are (Doc id reusable strict path grants ∷ ls) earlier all = both_true (list_all is_grant grants) _ (grants_right grants all.0.itself.2.grants) (grants_are ls _ all.1)
grants_are (line ∷ ls) earlier all = grants_are ls _ all.1

pub identifiers_are : (lines earlier : List ScriptLine) → StandBehind earlier lines → list_all (λ (d : OpeningDocument). nat_lt d.kept.number (2 ^ 32)) (documents_of lines) ≡ true
identifiers_are [] earlier all = refl
identifiers_are (Doc id reusable strict path grants ∷ ls) earlier all = both_true (nat_lt id.number (2 ^ 32)) _ (below id.number all.0.itself.0) (identifiers_are ls _ all.1)
  where
    below : (n : ℕ) → n < 2 ^ 32 → nat_lt n (2 ^ 32) ≡ true
    below n l = grind (arith, nat_tests)
identifiers_are (line ∷ ls) earlier all = identifiers_are ls _ all.1

less_differs : (a b : List ℕ) → slice_cmp nat_cmp a b ≡ Less → is_same a b ≡ false
less_differs a b less = no_true (is_same a b) (λ same.
    let e : a ≡ b = same_from_test a b same in
    let itself : slice_cmp nat_cmp a a ≡ Less = ap (slice_cmp nat_cmp a) e ∙ less in
    let turned = nat_list_cmp_total.antisymm a a in
    cc (itself, turned))

below_all : (a b : List ℕ) (names : List (List ℕ)) → slice_cmp nat_cmp a b ≡ Less → IsRising (b ∷ names) → AllByRecursion (λ y. is_same a y ≡ false) (b ∷ names)
below_all a b [] less rising = (less_differs a b less, tt)
below_all a b (c ∷ names) less rising = (less_differs a b less, below_all a c names (nat_list_cmp_total.trans a b c less rising.0) rising.1)

rising_differ : (names : List (List ℕ)) → IsRising names → IsDistinct is_same names
unfolding IsDistinct
rising_differ [] rising = tt
rising_differ (a ∷ []) rising = (tt, tt)
rising_differ (a ∷ b ∷ names) rising = (below_all a b names rising.0 rising.1, rising_differ (b ∷ names) rising.1)

pub grants_differ : (lines earlier : List ScriptLine) → StandBehind earlier lines → GrantsDiffer (documents_of lines)
grants_differ [] earlier all = tt
grants_differ (Doc id reusable strict path grants ∷ ls) earlier all = (rising_differ (map (λ (g : GrantRecord). g.app) grants) all.0.itself.2.rising, grants_differ ls _ all.1)
grants_differ (line ∷ ls) earlier all = grants_differ ls _ all.1

pub doc_room : (earlier : List ScriptLine) (b c : Bool) → (b && (c && nat_lt (count_by is_doc earlier) document_limit)) ≡ true → count_by is_doc earlier < 65536
doc_room earlier b c h = ltb-true _ _ (and_parts c _ (and_parts b _ h).1).1

count_push : (line : ScriptLine) (earlier : List ScriptLine) → count_by is_doc (earlier ++ (line ∷ [])) ≡ count_by is_doc earlier + count_by is_doc (line ∷ [])
count_push line earlier = sum_by-append (λ (l : ScriptLine). cond (is_doc l) 1 0) earlier (line ∷ [])

pub documents_few : (lines earlier : List ScriptLine) → count_by is_doc earlier ≤ 65536 → StandBehind earlier lines → length (documents_of lines) + count_by is_doc earlier ≤ 65536
documents_few [] earlier few all = omega arith
documents_few (Doc id reusable strict path grants ∷ ls) earlier few all =
    let e = count_push (Doc id reusable strict path grants) earlier in
    let room = doc_room earlier _ _ all.0.order in
    let rest = documents_few ls (earlier ++ (Doc id reusable strict path grants ∷ [])) (omega arith) all.1 in omega arith
documents_few (line ∷ ls) earlier few all =
    let e = count_push line earlier in
    let rest = documents_few ls (earlier ++ (line ∷ [])) (omega arith) all.1 in omega arith

pub applications_few : (lines earlier : List ScriptLine) → length (applications_of earlier) ≤ applications_limit → StandBehind earlier lines
    → length (applications_of (earlier ++ lines)) ≤ applications_limit
applications_few [] earlier few all = rw append_nil few
applications_few (line ∷ ls) earlier few all = rw (← append_assoc earlier (line ∷ []) ls) (applications_few ls (earlier ++ (line ∷ [])) all.0.applications all.1)

-- ---- entries

pub entry_new : (earlier : List ScriptLine) (f : EntryRecord) (b : Bool) → (b && not (list_any (stores f.table f.id) earlier)) ≡ true → list_any (stores f.table f.id) earlier ≡ false
entry_new earlier f b h = not_true _ (and_parts b _ h).1

pub entries_valid : (lines earlier : List ScriptLine) → StandBehind earlier lines → All IsValidEntry (entries_of lines)
entries_valid [] earlier all = All-nil IsValidEntry
entries_valid (Entry e ∷ ls) earlier all = All-cons IsValidEntry e _ all.0.itself.1.valid (entries_valid ls _ all.1)
entries_valid (line ∷ ls) earlier all = entries_valid ls _ all.1

-- ---- files

-- each file before clashes with the path where this one does
abbrev Known : List ℕ → List ScriptLine → Type 0
Known p earlier = (q : List ℕ) → clash q p ≡ true → list_any (clashes q) earlier ≡ true

abbrev pub paths : ℕ → List ScriptLine → List (List ℕ)
paths time lines = map (λ (f : FileItem). f.path) (files_from time lines)

-- no two are the same, or above one another
abbrev pub Clear : List ℕ → List (List ℕ) → Type 0
Clear p qs = AllByRecursion (λ q. clash q p ≡ false) qs

abbrev pub AllClear : List (List ℕ) → Type 0
AllClear [] = Unit {0}
AllClear (p ∷ ps) = Clear p ps × AllClear ps

file_new : (earlier : List ScriptLine) (q : List ℕ) (b : Bool) → (b && not (list_any (clashes q) earlier)) ≡ true → list_any (clashes q) earlier ≡ false
file_new earlier q b h = not_true _ (and_parts b _ h).1

known_more : (p : List ℕ) (earlier : List ScriptLine) (line : ScriptLine) → Known p earlier → Known p (earlier ++ (line ∷ []))
known_more p earlier line known = λ q c. still (clashes q) earlier line (known q c)

later_clear : (p : List ℕ) (lines earlier : List ScriptLine) (time : ℕ) → Known p earlier → StandBehind earlier lines → Clear p (paths time lines)
later_clear p [] earlier time known all = tt
later_clear p (File q content ∷ ls) earlier time known all = (
  no_true (clash q p) (λ c. let one = known q c in let new = file_new earlier q _ all.0.order in cc (one, new)),
  later_clear p ls _ time (known_more p earlier (File q content) known) all.1,
)
later_clear p (line ∷ ls) earlier time known all = later_clear p ls _ (time_behind time line) (known_more p earlier _ known) all.1

pub all_clear : (lines earlier : List ScriptLine) (time : ℕ) → StandBehind earlier lines → AllClear (paths time lines)
all_clear [] earlier time all = tt
all_clear (File p content ∷ ls) earlier time all = (later_clear p ls _ time (λ q c. now (clashes q) earlier (File p content) c) all.1, all_clear ls _ time all.1)
all_clear (line ∷ ls) earlier time all = all_clear ls _ (time_behind time line) all.1

pub no_root : (lines earlier : List ScriptLine) (time : ℕ) → StandBehind earlier lines → AllByRecursion (λ p. is_same p root ≡ false) (paths time lines)
no_root [] earlier time all = tt
no_root (File p content ∷ ls) earlier time all = (no_true (is_same p root) (λ same. all.0.itself.1 (same_from_test p root same)), no_root ls _ time all.1)
no_root (line ∷ ls) earlier time all = no_root ls _ (time_behind time line) all.1

pub files_named : (lines earlier : List ScriptLine) (time : ℕ) → StandBehind earlier lines → list_all (λ (f : FileItem). is_host_path f.path) (files_from time lines) ≡ true
files_named [] earlier time all = refl
files_named (File p content ∷ ls) earlier time all = both_true (is_host_path p) _ (path_is p all.0.itself.0) (files_named ls _ time all.1)
files_named (line ∷ ls) earlier time all = files_named ls _ (time_behind time line) all.1

-- each file is the first of its path, and no document is a folder
pub files_first : (lines : List ScriptLine) (time : ℕ) → list_all is_first_item (files_from time lines) ≡ true
files_first [] time = refl
files_first (File p content ∷ ls) time = files_first ls time
files_first (line ∷ ls) time = files_first ls (time_behind time line)

pub none_folders : (files : List HostFile) (lines : List ScriptLine) → list_all (is_folder_kept files) (documents_of lines) ≡ true
none_folders files [] = refl
none_folders files (Doc id reusable strict path grants ∷ ls) = none_folders files ls
none_folders files (line ∷ ls) = none_folders files ls

same_clear : (p : List ℕ) (qs : List (List ℕ)) → Clear p qs → AllByRecursion (λ q. is_same p q ≡ false) qs
same_clear p [] clear = tt
same_clear p (q ∷ qs) clear = (
  no_true (is_same p q) (λ same.
      let e : p ≡ q = same_from_test p q same in
      let turned : is_same q p ≡ true = ap (is_same q) e ∙ same_refl q in
      let never = clear.0 in
      cc (rw turned at never)),
  same_clear p qs clear.1,
)

pub clear_differ : (ps : List (List ℕ)) → AllClear ps → IsDistinct is_same ps
unfolding IsDistinct
clear_differ [] clear = tt
clear_differ (p ∷ ps) clear = (same_clear p ps clear.0, clear_differ ps clear.1)

or_parts : (a b c : Bool) → (a || (b || c)) ≡ false → (b ≡ false) × (c ≡ false)
or_parts false false false h = (refl, refl)
or_parts true b c h = cc h
or_parts false true c h = cc h
or_parts false false true h = cc h

above_itself : (p : List ℕ) → is_above p p ≡ false
above_itself p = no_true (is_above p p) (λ above.
    let n = length-append p (47 ∷ []) in
    let same = ap length (same_from_test (p ++ (47 ∷ [])) (take (length (p ++ (47 ∷ []))) p) above ∙ take_all (length (p ++ (47 ∷ []))) p (omega arith)) in
    absurd (omega arith))

above_none : (p : List ℕ) (qs : List (List ℕ)) → Clear p qs → list_any (is_above p) qs ≡ false
above_none p [] clear = refl
above_none p (q ∷ qs) clear = rw ((or_parts (is_same q p) (is_above p q) (is_above q p) clear.0).0, above_none p qs clear.1) refl

behind_none : (p : List ℕ) (qs ws : List (List ℕ)) → Clear p qs → AllByRecursion (λ q. list_any (is_above q) ws ≡ false) qs
    → AllByRecursion (λ q. list_any (is_above q) (p ∷ ws) ≡ false) qs
behind_none p [] ws clear none = tt
behind_none p (q ∷ qs) ws clear none = (
  rw ((or_parts (is_same q p) (is_above p q) (is_above q p) clear.0).1, none.0) refl,
  behind_none p qs ws clear.1 none.1,
)

pub none_above : (ps : List (List ℕ)) → AllClear ps → AllByRecursion (λ p. list_any (is_above p) ps ≡ false) ps
none_above [] clear = tt
none_above (p ∷ ps) clear = (rw (above_itself p, above_none p ps clear.0) refl, behind_none p ps ps clear.0 (none_above ps clear.1))

any_paths : (p : List ℕ) (fs : List FileItem) → list_any (λ f. is_above p f.path) (map file_of fs) ≡ list_any (is_above p) (map (λ (f : FileItem). f.path) fs)
any_paths p [] = refl
any_paths p (f ∷ fs) = ap (λ (b : Bool). is_above p f.path || b) (any_paths p fs)

pub files_apart : (fs whole : List FileItem) → AllByRecursion (λ p. is_same p root ≡ false) (map (λ (f : FileItem). f.path) fs)
    → AllByRecursion (λ p. list_any (is_above p) (map (λ (f : FileItem). f.path) whole) ≡ false) (map (λ (f : FileItem). f.path) fs)
    → list_all (λ f. not (is_folder (map file_of whole) f.path)) fs ≡ true
files_apart [] whole roots none = refl
files_apart (f ∷ fs) whole roots none =
    both_true (not (is_folder (map file_of whole) f.path)) _ (rw (roots.0, any_paths f.path whole, none.0) refl) (files_apart fs whole roots.1 none.1)
