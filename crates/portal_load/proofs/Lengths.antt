-- The text of a load is short enough to be read.
use Rattle.std.proofs.Common.{◌≡◌, ℕ, ◌+◌, ◌*◌, ◌<◌, ◌≤◌, true, List, [], ◌∷◌, ◌++◌, length, map, refl, ap, ◌∙◌, arith}
use Rattle.std.specs.Prelude.{codes, nat_le}
use Rattle.std.specs.Fmt.{decimal}
use Rattle.std.specs.List.{AllByRecursion, range_with_len}
use Rattle.std.proofs.lemmas.Bool.{leb-true}
use Rattle.std.proofs.lemmas.Fmt.{length-decimal-le_succ}
use Rattle.std.proofs.lemmas.Grind.{flat_map-append}
use Rattle.std.proofs.lemmas.List.{length-append, length-replicate}
use Rattle.std.proofs.lemmas.List.FromFn.{length-map-range_with_len}
use Rattle.hex.specs.Hex.{encode_lower, encode_with}
use Rattle.portal_base.specs.Names.{doc_text}
use Rattle.script_lines.specs.Lines.{hex_text, line_text, text_of}
use Rattle.script_form.specs.Order.{script_limit}
use Rattle.script_lines.specs.declared.script.ScriptLine.{ScriptLine}
use Rattle.portal_load.specs.Calls.{app_name}
use Rattle.portal_load.specs.Draws.{drawn}
use Rattle.portal_load.specs.Lines.{bus_line, bytes_of, doc_line, doc_lines, file_content, file_line, file_lines, file_path, handshake, handshake_line, lines_ahead, load_of, most_requests, mount_line, open_lines, request_line, request_lines, seat_of}
use Rattle.portal_load.proofs.Bytes.{name_small, request_small}
use Rattle.portal_load.proofs.Ranges.{all_append, all_below, all_made, below}
use Rattle.portal_load.proofs.Scripts.{request_seat}

-- ---- texts of lines

digits_len : (bytes : List ℕ) → length (encode_lower bytes) ≡ 2 * length bytes
unfolding encode_with
digits_len [] = refl
digits_len (b ∷ bytes) = omega (arith, digits_len bytes)

hex_len : (bytes : List ℕ) → length (hex_text bytes) ≤ 2 * length bytes + 1
hex_len [] = omega arith
hex_len (b ∷ bytes) = omega (arith, digits_len (b ∷ bytes))

-- a line of at most so many bytes, with its line feed
abbrev Within : ℕ → ScriptLine → Type 0
Within most line = length (line_text line) + 1 ≤ most

text_within : (most : ℕ) (lines : List ScriptLine) → AllByRecursion (Within most) lines → length (text_of lines) ≤ most * length lines
unfolding text_of
text_within most [] h = omega arith
text_within most (line ∷ lines) h =
    let rest = text_within most lines h.1 in
    omega (arith, h.0, length-append (line_text line ++ (10 ∷ [])) (text_of lines), length-append (line_text line) (10 ∷ []))

text_joined : (xs ys : List ScriptLine) → length (text_of (xs ++ ys)) ≡ length (text_of xs) + length (text_of ys)
unfolding text_of
text_joined xs ys =
    ap length (flat_map-append (λ (line : ScriptLine). line_text line ++ (10 ∷ [])) xs ys) ∙ length-append (text_of xs) (text_of ys)

-- ---- the lines ahead

content_len : (n : ℕ) → length (file_content n) ≡ 4096
unfolding file_content
content_len n = length-replicate 4096 n

file_within : (n : ℕ) → Within 8300 (file_line n)
unfolding line_text
file_within n =
    let bytes = hex_len (file_content n) in
    omega (arith, content_len n, length-append (file_path n) (32 ∷ hex_text (file_content n)))

doc_tested : all_below (λ n. nat_le (length (line_text (doc_line n)) + 1) 8300) 16 ≡ true
unfolding line_text doc_text
doc_tested = refl

doc_within : (n : ℕ) → n < 16 → Within 8300 (doc_line n)
doc_within n h = leb-true (length (line_text (doc_line n)) + 1) 8300 (below (λ k. nat_le (length (line_text (doc_line k)) + 1) 8300) 16 doc_tested n h)

mount_within : (n : ℕ) → n < 4 → Within 8300 (mount_line n)
unfolding line_text
mount_within n h =
    let digits = length-decimal-le_succ (n + 1) (omega arith) in
    let name = (name_small n).short in
    omega (arith, length-append (decimal (n + 1)) (32 ∷ (codes "mount" ++ (32 ∷ (codes "app:" ++ app_name n)))))

bus_within : Within 8300 bus_line
unfolding line_text
bus_within =
    let digits = length-decimal-le_succ 5 (omega arith) in
    omega (arith, length-append (decimal 5) (32 ∷ (codes "bus" ++ (32 ∷ codes "host"))))

handshake_within : Within 8300 handshake_line
unfolding line_text
handshake_within =
    let bytes = hex_len handshake in
    let digits = length-decimal-le_succ 5 (omega arith) in
    omega (arith, length-append (decimal 5) (32 ∷ hex_text handshake))

ahead_within : AllByRecursion (Within 8300) lines_ahead
unfolding lines_ahead file_lines doc_lines open_lines
ahead_within = all_append (Within 8300) file_lines (doc_lines ++ (open_lines ++ handshake_line ∷ [])) (all_made (Within 8300) file_line 0 16 (λ n h. file_within n))
    (all_append (Within 8300) doc_lines (open_lines ++ handshake_line ∷ []) (all_made (Within 8300) doc_line 0 16 (λ n h. doc_within n (omega arith)))
    (all_append (Within 8300) open_lines (handshake_line ∷ [])
    (all_append (Within 8300) (map mount_line (range_with_len 0 4)) (bus_line ∷ []) (all_made (Within 8300) mount_line 0 4 (λ n h. mount_within n (omega arith))) (bus_within, tt))
    (handshake_within, tt)))

ahead_len : length lines_ahead ≡ 38
unfolding lines_ahead file_lines doc_lines open_lines
ahead_len = refl

-- ---- requests

request_within : (request : ℕ) → Within 560 (request_line request)
unfolding line_text request_line
request_within request =
    let draw = drawn request in
    let seat : ℕ = seat_of draw.asked draw in
    let bytes = bytes_of draw.asked request draw in
    let range = request_seat request in
    let digits = length-decimal-le_succ seat (omega (arith, range.1)) in
    omega (arith, range.1, digits, (request_small request draw).short, hex_len bytes, length-append (decimal seat) (32 ∷ hex_text bytes))

requests_within : (count : ℕ) → length (text_of (request_lines count)) ≤ 560 * count
unfolding request_lines
requests_within count =
    let each = text_within 560 (map request_line (range_with_len 1 count)) (all_made (Within 560) request_line 1 count (λ n h. request_within n)) in
    omega (arith, each, length-map-range_with_len request_line 1 count)

pub are_short : (count : ℕ) → count ≤ most_requests → length (text_of (load_of count).script.lines) ≤ script_limit
are_short count h =
    let ahead = text_within 8300 lines_ahead ahead_within in
    omega (arith, h, ahead, ahead_len, requests_within count, text_joined lines_ahead (request_lines count))
