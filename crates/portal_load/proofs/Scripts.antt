-- The lines of a load are a script.
use Rattle.std.proofs.Common.{◌≡◌, ℕ, zero, suc, ◌+◌, ◌-◌, ◌<◌, ◌≤◌, ◌%◌, Bool, true, false, not, ◌&&◌, ◌||◌, List, [], ◌∷◌, ◌++◌, length, map, refl, sym, ap, subst, ◌∙◌, add-one, append_assoc, arith}
use Rattle.std.specs.List.{AllByRecursion, list_all, list_any, range_with_len}
use Rattle.std.proofs.lemmas.Bool.{and_parts, and_from}
use Rattle.std.proofs.lemmas.Grind.{flat_map-append}
use Rattle.std.proofs.lemmas.List.{length-append}
use Rattle.std.proofs.lemmas.List.Elements.{All-cons, All-nil}
use Rattle.std.proofs.lemmas.List.Folds.{list_any-append}
use Rattle.std.proofs.lemmas.List.Sums.{count_by-le-length, length-filter}
use Rattle.portal_base.specs.Names.{is_same}
use Rattle.portal_model.specs.Opening.{each, first_named, names_kept}
use Rattle.portal_model.specs.Valid.{applications_limit}
use Rattle.portal_model.specs.declared.opening.OpeningDocument.{OpeningDocument}
use Rattle.record_keeper.specs.SoundRecords.{IsGrant}
use Rattle.script_lines.specs.Lines.{KeepsRules, is_plain}
use Rattle.script_form.specs.Opening.{applications_of, document_in, documents_of}
use Rattle.script_form.specs.Order.{IsScript, MayStand, StandBehind, closes, goes_with, opens}
use Rattle.script_lines.specs.declared.script.ScriptLine.{ScriptLine}
use Rattle.script_form.proofs.ScriptFacts.{append_nil, stand_push}
use Rattle.portal_load.specs.declared.draw.Asked.{Asked}
use Rattle.portal_load.specs.declared.draw.Asked.TheVariants.{Lookup, GetAttr, Open, Read, Write, Release, Rights}
use Rattle.portal_load.specs.declared.draw.Draw.{Draw}
use Rattle.portal_load.specs.Calls.{app_name}
use Rattle.portal_load.specs.Draws.{drawn}
use Rattle.portal_load.specs.Lines.{bus_line, doc_line, doc_lines, file_line, file_lines, file_path, handshake, handshake_line, lines_ahead, load_of, mount_line, open_lines, request_line, request_lines, seat_of}
use Rattle.portal_load.proofs.Bytes.{content_bytes, request_small, tested}
use Rattle.portal_load.proofs.Names.{app_name-is_app_name, file_path-is_host_path}
use Rattle.portal_load.proofs.Ranges.{all_append, all_below, all_made, below}
use Rattle.portal_load.proofs.RequestLines.{no_requests, requests_more}

-- ---- the lines ahead, each by itself

path_written : (n : ℕ) → n < 16 → list_all is_plain (file_path n) ≡ true
path_written n h = below (λ k. list_all is_plain (file_path k)) 16 refl n h

file_keeps : (n : ℕ) → n < 16 → KeepsRules (file_line n)
file_keeps n h = (and_from _ (list_all is_plain (file_path n)) (file_path-is_host_path n h) (path_written n h), (λ e. cc), content_bytes n h)

one_granted : (n : ℕ) → IsGrant (record { app = app_name (n % 4); rights = 3 })
one_granted n = record { name = app_name-is_app_name (n % 4); some_right = omega arith; no_other = omega arith }

doc_keeps : (n : ℕ) → n < 16 → KeepsRules (doc_line n)
doc_keeps n h = (
  omega arith,
  and_from _ (list_all is_plain (file_path n)) (file_path-is_host_path n h) (path_written n h),
  record {
    path = file_path-is_host_path n h;
    grants = All-cons IsGrant (record { app = app_name (n % 4); rights = 3 }) [] (one_granted n) (All-nil IsGrant);
    rising = tt;
  },
)

mount_keeps : (n : ℕ) → n < 4 → KeepsRules (mount_line n)
mount_keeps n h = (omega arith, omega arith, app_name-is_app_name n)

bus_keeps : KeepsRules bus_line
bus_keeps = (omega arith, omega arith, tt)

handshake_keeps : KeepsRules handshake_line
handshake_keeps = (omega arith, omega arith, tested handshake refl)

files_keep : AllByRecursion KeepsRules file_lines
unfolding file_lines
files_keep = all_made KeepsRules file_line 0 16 (λ n h. file_keeps n (omega arith))

docs_keep : AllByRecursion KeepsRules doc_lines
unfolding doc_lines
docs_keep = all_made KeepsRules doc_line 0 16 (λ n h. doc_keeps n (omega arith))

rest_keep : AllByRecursion KeepsRules (open_lines ++ handshake_line ∷ [])
unfolding open_lines
rest_keep = all_append KeepsRules open_lines (handshake_line ∷ [])
    (all_append KeepsRules (map mount_line (range_with_len 0 4)) (bus_line ∷ []) (all_made KeepsRules mount_line 0 4 (λ n h. mount_keeps n (omega arith))) (bus_keeps, tt))
    (handshake_keeps, tt)

-- ---- how many applications the lines name

abbrev names_of : List ScriptLine → List (List ℕ)
names_of lines = each names_kept (documents_of lines)

named_few : (names : List (List ℕ)) → length (first_named names) ≤ length names
named_few [] = omega arith
named_few (name ∷ names) =
    let rest = named_few names in
    omega (arith, length-filter (λ (other : List ℕ). not (is_same name other)) (first_named names), count_by-le-length (λ (other : List ℕ). not (is_same name other)) (first_named names))

ahead_names : length (names_of lines_ahead) ≡ 16
unfolding lines_ahead file_lines doc_lines open_lines
ahead_names = refl

-- a front names no more than the whole
front_few : (front later : List ScriptLine) → lines_ahead ≡ front ++ later → length (applications_of front) ≤ applications_limit
front_few front later e =
    let parts : names_of lines_ahead ≡ names_of front ++ names_of later =
    ap names_of e ∙ (ap (each names_kept) (flat_map-append document_in front later) ∙ flat_map-append names_kept (documents_of front) (documents_of later)) in
    omega (arith, ahead_names, ap length parts, length-append (names_of front) (names_of later), named_few (names_of front))

-- ---- and each behind those before it

abbrev may_go : List ScriptLine → List ScriptLine → Bool
may_go earlier [] = true
may_go earlier (line ∷ lines) = goes_with earlier line && may_go (earlier ++ line ∷ []) lines

stand_by : (lines earlier later : List ScriptLine) → lines_ahead ≡ earlier ++ (lines ++ later) → AllByRecursion KeepsRules lines → may_go earlier lines ≡ true → StandBehind earlier lines
stand_by [] earlier later e keep go = tt
stand_by (line ∷ lines) earlier later e keep go =
    let parts = and_parts (goes_with earlier line) (may_go (earlier ++ line ∷ []) lines) go in
    let behind : lines_ahead ≡ (earlier ++ line ∷ []) ++ (lines ++ later) = e ∙ sym (append_assoc earlier (line ∷ []) (lines ++ later)) in
    (record { itself = keep.0; order = parts.0; applications = front_few (earlier ++ line ∷ []) (lines ++ later) behind }, stand_by lines (earlier ++ line ∷ []) later behind keep.1 parts.1)

stand_append : (xs ys earlier : List ScriptLine) → StandBehind earlier xs → StandBehind (earlier ++ xs) ys → StandBehind earlier (xs ++ ys)
stand_append [] ys earlier h k = subst (λ (ls : List ScriptLine). StandBehind ls ys) (append_nil earlier) k
stand_append (x ∷ xs) ys earlier h k = (h.0, stand_append xs ys (earlier ++ x ∷ []) h.1 (subst (λ (ls : List ScriptLine). StandBehind ls ys) (sym (append_assoc earlier (x ∷ []) xs)) k))

files_go : may_go [] file_lines ≡ true
unfolding file_lines
files_go = refl

docs_go : may_go file_lines doc_lines ≡ true
unfolding file_lines doc_lines
docs_go = refl

rest_go : may_go (file_lines ++ doc_lines) (open_lines ++ handshake_line ∷ []) ≡ true
unfolding file_lines doc_lines open_lines
rest_go = refl

ahead_stand : IsScript lines_ahead
unfolding lines_ahead
ahead_stand =
    let rest : List ScriptLine = open_lines ++ handshake_line ∷ [] in
    let whole : lines_ahead ≡ file_lines ++ (doc_lines ++ rest) = refl in
    let docs : lines_ahead ≡ (file_lines ++ doc_lines) ++ (rest ++ []) = sym (append_assoc file_lines doc_lines rest) ∙ ap (λ (ls : List ScriptLine). (file_lines ++ doc_lines) ++ ls) (sym (append_nil rest)) in
    let files = stand_by file_lines [] (doc_lines ++ rest) whole files_keep files_go in
    let middle = stand_by doc_lines file_lines rest whole docs_keep docs_go in
    let last = stand_by rest (file_lines ++ doc_lines) [] docs rest_keep rest_go in
    stand_append file_lines (doc_lines ++ rest) [] files (stand_append doc_lines rest file_lines middle last)

-- ---- requests

-- what is drawn is one of four applications
drawn_app : (request : ℕ) → (drawn request).app < 4
drawn_app request = omega arith

-- the number of a connection that the lines ahead open
abbrev IsSeat : ℕ → Type 0
IsSeat seat = (1 ≤ seat) × (seat ≤ 5)

one_seat : (asked : Asked) (draw : Draw) → draw.app < 4 → IsSeat (seat_of asked draw)
one_seat Rights draw h = (omega arith, omega arith)
one_seat Lookup draw h = (omega arith, omega arith)
one_seat GetAttr draw h = (omega arith, omega arith)
one_seat Open draw h = (omega arith, omega arith)
one_seat Read draw h = (omega arith, omega arith)
one_seat Write draw h = (omega arith, omega arith)
one_seat Release draw h = (omega arith, omega arith)

pub request_seat : (request : ℕ) → IsSeat (seat_of (drawn request).asked (drawn request))
request_seat request = one_seat (drawn request).asked (drawn request) (drawn_app request)

request_keeps : (request : ℕ) → KeepsRules (request_line request)
unfolding request_line
request_keeps request =
    let seat = request_seat request in
    (seat.0, omega (arith, seat.1), (request_small request (drawn request)).bytes)

five_opened : all_below (λ n. list_any (opens (n + 1)) lines_ahead) 5 ≡ true
unfolding lines_ahead file_lines doc_lines open_lines
five_opened = refl

ahead_opens : (seat : ℕ) → IsSeat seat → list_any (opens seat) lines_ahead ≡ true
ahead_opens seat h =
    let e : seat - 1 + 1 ≡ seat = omega (arith, h.0) in
    subst (λ (n : ℕ). list_any (opens n) lines_ahead ≡ true) e (below (λ n. list_any (opens (n + 1)) lines_ahead) 5 five_opened (seat - 1) (omega (arith, h.0, h.1)))

ahead_close : (seat : ℕ) → list_any (closes seat) lines_ahead ≡ false
unfolding lines_ahead file_lines doc_lines open_lines
ahead_close seat = refl

-- requests close nothing, and keep no document
none_closes : (seat request : ℕ) → closes seat (request_line request) ≡ false
unfolding request_line
none_closes seat request = refl

requests_close : (seat count : ℕ) → list_any (closes seat) (request_lines count) ≡ false
requests_close seat zero = ap (list_any (closes seat)) no_requests
requests_close seat (suc count) =
    let more : request_lines (suc count) ≡ request_lines count ++ (request_line (count + 1) ∷ []) = ap request_lines (sym (add-one count)) ∙ requests_more count in
    ap (list_any (closes seat)) more ∙ (list_any-append (closes seat) (request_lines count) (request_line (count + 1) ∷ [])
    ∙ ((λ i. requests_close seat count i || (none_closes seat (count + 1) i || false))))

none_kept : (request : ℕ) → document_in (request_line request) ≡ []
unfolding request_line
none_kept request = refl

documents_more : (lines : List ScriptLine) (request : ℕ) → documents_of (lines ++ (request_line request ∷ [])) ≡ documents_of lines
documents_more lines request =
    flat_map-append document_in lines (request_line request ∷ [])
    ∙ (ap (λ (d : List OpeningDocument). documents_of lines ++ (d ++ [])) (none_kept request) ∙ append_nil (documents_of lines))

requests_keep : (count : ℕ) → documents_of (lines_ahead ++ request_lines count) ≡ documents_of lines_ahead
requests_keep zero = ap (λ (ls : List ScriptLine). documents_of (lines_ahead ++ ls)) no_requests ∙ ap documents_of (append_nil lines_ahead)
requests_keep (suc count) =
    let more : request_lines (suc count) ≡ request_lines count ++ (request_line (count + 1) ∷ []) = ap request_lines (sym (add-one count)) ∙ requests_more count in
    let behind : lines_ahead ++ request_lines (suc count) ≡ (lines_ahead ++ request_lines count) ++ (request_line (count + 1) ∷ []) =
    ap (λ (ls : List ScriptLine). lines_ahead ++ ls) more ∙ sym (append_assoc lines_ahead (request_lines count) (request_line (count + 1) ∷ [])) in
    ap documents_of behind ∙ (documents_more (lines_ahead ++ request_lines count) (count + 1) ∙ requests_keep count)

ahead_few : length (applications_of lines_ahead) ≤ applications_limit
ahead_few = front_few lines_ahead [] (sym (append_nil lines_ahead))

-- the line of a request may stand behind those of the requests before it
one_stands : (count : ℕ) → MayStand (lines_ahead ++ request_lines count) (request_line (count + 1))
unfolding request_line
one_stands count =
    let seat : ℕ = seat_of (drawn (count + 1)).asked (drawn (count + 1)) in
    let opened : list_any (opens seat) (lines_ahead ++ request_lines count) ≡ true =
    list_any-append (opens seat) lines_ahead (request_lines count) ∙ ap (λ (b : Bool). b || list_any (opens seat) (request_lines count)) (ahead_opens seat (request_seat (count + 1))) in
    let closed : list_any (closes seat) (lines_ahead ++ request_lines count) ≡ false =
    list_any-append (closes seat) lines_ahead (request_lines count)
    ∙ (ap (λ (b : Bool). b || list_any (closes seat) (request_lines count)) (ahead_close seat) ∙ requests_close seat count) in
    let kept : documents_of ((lines_ahead ++ request_lines count) ++ (request_line (count + 1) ∷ [])) ≡ documents_of lines_ahead =
    documents_more (lines_ahead ++ request_lines count) (count + 1) ∙ requests_keep count in
    record {
      itself = request_keeps (count + 1);
      order = (λ i. opened i && not (closed i));
      applications = subst (λ (ds : List OpeningDocument). length (first_named (each names_kept ds)) ≤ applications_limit) (sym kept) ahead_few;
    }

stand_all : (count : ℕ) → IsScript (lines_ahead ++ request_lines count)
stand_all zero = subst IsScript (sym (ap (λ (ls : List ScriptLine). lines_ahead ++ ls) no_requests ∙ append_nil lines_ahead)) ahead_stand
stand_all (suc count) =
    let more : request_lines (suc count) ≡ request_lines count ++ (request_line (count + 1) ∷ []) = ap request_lines (sym (add-one count)) ∙ requests_more count in
    let behind : lines_ahead ++ request_lines (suc count) ≡ (lines_ahead ++ request_lines count) ++ (request_line (count + 1) ∷ []) =
    ap (λ (ls : List ScriptLine). lines_ahead ++ ls) more ∙ sym (append_assoc lines_ahead (request_lines count) (request_line (count + 1) ∷ [])) in
    subst IsScript (sym behind) (stand_push [] (lines_ahead ++ request_lines count) (request_line (count + 1)) (stand_all count) (one_stands count))

pub are_scripts : (count : ℕ) → IsScript (load_of count).script.lines
are_scripts = stand_all
