-- A text is read in one way.
use Rattle.std.proofs.Common.{◌≡◌, ℕ, ◌+◌, List, [], ◌∷◌, ◌++◌, length, refl, sym, ap, ◌∙◌, append_assoc}
use Rattle.script_lines.specs.Lines.{line_text, text_of}
use Rattle.script_form.specs.Order.{MayStand, StandBehind, IsScript, IsRead, IsFault}
use Rattle.script_lines.specs.declared.script.ScriptLine.{ScriptLine}
use Rattle.script_lines.proofs.SameFacts.{line_same, line_free}
use Rattle.script_form.proofs.ScriptFacts.{append_nil}
use Rattle.script_lines.proofs.TextFacts.{cut_same}

text_cons : (line : ScriptLine) (lines : List ScriptLine) (rest : List ℕ) → text_of (line ∷ lines) ++ rest ≡ line_text line ++ (10 ∷ (text_of lines ++ rest))
unfolding text_of
text_cons line lines rest =
    append_assoc (line_text line ++ (10 ∷ [])) (text_of lines) rest ∙ append_assoc (line_text line) (10 ∷ []) (text_of lines ++ rest)

not_nil : (a b : List ℕ) → a ++ (10 ∷ b) ≡ [] → ⊥
not_nil [] b e = cc e
not_nil (x ∷ xs) b e = cc e

text_nil : (rest : List ℕ) → text_of [] ++ rest ≡ rest
unfolding text_of
text_nil rest = refl

-- nothing that may stand goes on behind these lines
abbrev NoMore : List ScriptLine → List ℕ → Type 0
NoMore lines rest = (line : ScriptLine) (more : List ℕ) → rest ≡ line_text line ++ (10 ∷ more) → MayStand lines line → ⊥

same_lines : (xs ys earlier : List ScriptLine) (r s : List ℕ) → StandBehind earlier xs → StandBehind earlier ys
    → text_of xs ++ r ≡ text_of ys ++ s → NoMore (earlier ++ xs) r → NoMore (earlier ++ ys) s → (xs ≡ ys) × (r ≡ s)
same_lines [] [] earlier r s gx gy e ex ey = (refl, sym (text_nil r) ∙ e ∙ text_nil s)
same_lines [] (y ∷ ys) earlier r s gx gy e ex ey =
    absurd (rw append_nil at ex y (text_of ys ++ s) (sym (text_nil r) ∙ e ∙ text_cons y ys s) gy.0)
same_lines (x ∷ xs) [] earlier r s gx gy e ex ey =
    absurd (rw append_nil at ey x (text_of xs ++ r) (sym (text_nil s) ∙ sym e ∙ text_cons x xs r) gx.0)
same_lines (x ∷ xs) (y ∷ ys) earlier r s gx gy e ex ey =
    let halves = cut_same 10 (line_text x) (text_of xs ++ r) (line_text y) (text_of ys ++ s) (line_free x gx.0.itself) (line_free y gy.0.itself)
    (sym (text_cons x xs r) ∙ e ∙ text_cons y ys s) in
    let first : x ≡ y = line_same x y gx.0.itself gy.0.itself halves.0 in
    let behind : StandBehind (earlier ++ (x ∷ [])) ys = rw first gy.1 in
    let ends : NoMore ((earlier ++ (x ∷ [])) ++ ys) s = rw (append_assoc, first) ey in
    let rest = same_lines xs ys (earlier ++ (x ∷ [])) r s gx.1 behind halves.1 (rw append_assoc ex) ends in
    (cc (first, rest.0), rest.1)

nothing : (lines : List ScriptLine) → NoMore lines []
nothing lines = λ line more e stands. not_nil (line_text line) more (sym e)

pub read_one_way : (text : List ℕ) (lines others : List ScriptLine) → IsRead text lines → IsRead text others → lines ≡ others
read_one_way text lines others a b =
    (same_lines lines others [] [] [] a.good b.good (append_nil (text_of lines) ∙ sym a.whole ∙ b.whole ∙ sym (append_nil (text_of others))) (nothing lines) (nothing others)).0

pub refused_one_way : (text : List ℕ) (number other : ℕ) → IsFault text number → IsFault text other → number ≡ other
refused_one_way text number other a b =
    let same = same_lines a.lines b.lines [] a.rest b.rest a.good b.good (sym a.parts ∙ b.parts) a.none b.none in
    a.number_is ∙ ap (λ (lines : List ScriptLine). length lines + 1) same.0 ∙ sym b.number_is

pub read_or_refused : (text : List ℕ) (lines : List ScriptLine) (number : ℕ) → IsRead text lines → IsFault text number → ⊥
read_or_refused text lines number a b =
    let same = same_lines lines b.lines [] [] b.rest a.good b.good (append_nil (text_of lines) ∙ sym a.whole ∙ b.parts) (nothing lines) b.none in
    b.some (sym same.1)

pub read_again : (lines : List ScriptLine) → IsScript lines → IsRead (text_of lines) lines
read_again lines good = record { good = good; whole = refl }
