-- The lines of a load, put one behind another.
use Rattle.std.proofs.Common.{◌≡◌, ℕ, ◌+◌, ◌/◌, ◌^◌, List, [], ◌∷◌, ◌++◌, refl, ap, sym, ◌∙◌, append_assoc, arith, add-one}
use Rattle.std.proofs.lemmas.List.FromFn.{map-range_with_len_more}
use Rattle.script_lines.specs.declared.script.ScriptLine.{ScriptLine}
use Rattle.script_lines.specs.declared.script.ScriptLine.TheVariants.{Data}
use Rattle.script_form.proofs.ScriptFacts.{append_nil}
use Rattle.portal_load.specs.declared.draw.Draw.{Draw}
use Rattle.portal_load.specs.Draws.{draw_of, next, number_of}
use Rattle.portal_load.specs.Lines.{doc_lines, file_lines, handshake, line_of, lines_ahead, open_lines, request_line, request_lines}

pub number_more : (request : ℕ) → number_of (request + 1) ≡ next (number_of request)
number_more request = ap number_of (add-one request)

pub no_requests : request_lines 0 ≡ []
unfolding request_lines
no_requests = refl

pub requests_more : (count : ℕ) → request_lines (count + 1) ≡ request_lines count ++ (request_line (count + 1) ∷ [])
unfolding request_lines
requests_more count = map-range_with_len_more request_line 1 count (count + 1) (omega arith)

pub all_ahead : (files docs opens two three all : List ScriptLine) (bytes : List ℕ) → files ≡ file_lines → docs ≡ doc_lines → opens ≡ open_lines
    → two ≡ files ++ docs → three ≡ two ++ opens → bytes ≡ handshake → all ≡ three ++ (Data 5 bytes ∷ []) → all ≡ lines_ahead
unfolding lines_ahead
all_ahead files docs opens two three all bytes f d o e g h k =
    k ∙ ((λ i. g i ++ (Data 5 (h i) ∷ [])) ∙ ((λ i. (e i ++ o i) ++ (Data 5 handshake ∷ [])) ∙ ((λ i. ((f i ++ d i) ++ open_lines) ++ (Data 5 handshake ∷ []))
    ∙ (append_assoc (file_lines ++ doc_lines) open_lines (Data 5 handshake ∷ []) ∙ append_assoc file_lines doc_lines (open_lines ++ (Data 5 handshake ∷ []))))))

-- nothing is asked yet
pub first_lines : (lines : List ScriptLine) → lines ≡ lines_ahead → lines ≡ lines_ahead ++ request_lines 0
first_lines lines e = e ∙ (sym (append_nil lines_ahead) ∙ ap (λ (ls : List ScriptLine). lines_ahead ++ ls) (sym no_requests))

-- one request more, which is drawn from the next number
pub next_line : (before number : ℕ) (lines new : List ScriptLine) (line : ScriptLine) (draw : Draw) → number ≡ number_of (before + 1) → draw ≡ draw_of (number / 2 ^ 32)
    → line ≡ line_of (before + 1) draw → lines ≡ lines_ahead ++ request_lines before → new ≡ lines ++ (line ∷ []) → new ≡ lines_ahead ++ request_lines (before + 1)
unfolding request_line
next_line before number lines new line draw n d l a e =
    let drawn_so : line ≡ request_line (before + 1) = l ∙ ap (line_of (before + 1)) (d ∙ ap (λ (x : ℕ). draw_of (x / 2 ^ 32)) n) in
    e ∙ ((λ i. a i ++ (drawn_so i ∷ []))
    ∙ (append_assoc lines_ahead (request_lines before) (request_line (before + 1) ∷ []) ∙ ap (λ (ls : List ScriptLine). lines_ahead ++ ls) (sym (requests_more before))))
