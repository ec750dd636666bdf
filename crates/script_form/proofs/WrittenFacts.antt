-- Words that are written one behind another.
use Rattle.std.proofs.Common.{◌≡◌, ℕ, ◌+◌, ◌<◌, List, [], ◌∷◌, ◌++◌, length, take, get_or, map, sym, ap, ◌∙◌, append_assoc}
use Rattle.std.specs.List.{join_with_byte, flat_map}
use Rattle.std.proofs.lemmas.Grind.{flat_map-append}
use Rattle.std.proofs.lemmas.List.{take_more}
use Rattle.std.proofs.Common.{Bool, codes}
use Rattle.std.specs.Fmt.{decimal}
use Rattle.portal_base.specs.Names.{doc_text}
use Rattle.portal_base.specs.declared.names.doc_id.DocId.{DocId}
use Rattle.portal_base.specs.declared.who.Kind.{Kind}
use Rattle.portal_base.specs.declared.who.Who.{Who}
use Rattle.portal_model.specs.declared.records.EntryRecord.{EntryRecord}
use Rattle.portal_model.specs.declared.records.GrantRecord.{GrantRecord}
use Rattle.script_lines.specs.Lines.{line_text, text_of, hex_text, grants_text, rows_text, flags_text, device_text, kind_text, who_text}
use Rattle.script_lines.specs.declared.script.Device.{Device}
use Rattle.script_lines.specs.declared.script.ScriptLine.TheVariants.{File, Doc, Entry, Fail, Word, Now, Open, Data, Close}
use Rattle.script_lines.specs.declared.script.ScriptLine.{ScriptLine}
use Rattle.script_form.proofs.ScriptFacts.{append_nil, text_push}

-- what stands behind a word and a space
put_more : (o a rest : List ℕ) → (o ++ (a ++ (32 ∷ []))) ++ rest ≡ o ++ (a ++ (32 ∷ rest))
put_more o a rest = append_assoc o (a ++ (32 ∷ [])) rest ∙ ap (λ (t : List ℕ). o ++ t) (append_assoc a (32 ∷ []) rest)

pub two_words : (o a b : List ℕ) → (o ++ (a ++ (32 ∷ []))) ++ b ≡ o ++ join_with_byte 32 (a ∷ b ∷ [])
two_words o a b = put_more o a b

pub three_words : (o a b c : List ℕ) → ((o ++ (a ++ (32 ∷ []))) ++ (b ++ (32 ∷ []))) ++ c ≡ o ++ join_with_byte 32 (a ∷ b ∷ c ∷ [])
three_words o a b c = put_more (o ++ (a ++ (32 ∷ []))) b c ∙ put_more o a (b ++ (32 ∷ c))

pub four_words : (o a b c d : List ℕ) → (((o ++ (a ++ (32 ∷ []))) ++ (b ++ (32 ∷ []))) ++ (c ++ (32 ∷ []))) ++ d ≡ o ++ join_with_byte 32 (a ∷ b ∷ c ∷ d ∷ [])
four_words o a b c d = put_more ((o ++ (a ++ (32 ∷ []))) ++ (b ++ (32 ∷ []))) c d ∙ three_words o a b (c ++ (32 ∷ d))

pub five_words : (o a b c d e : List ℕ) → ((((o ++ (a ++ (32 ∷ []))) ++ (b ++ (32 ∷ []))) ++ (c ++ (32 ∷ []))) ++ (d ++ (32 ∷ []))) ++ e ≡ o ++ join_with_byte 32 (a ∷ b ∷ c ∷ d ∷ e ∷ [])
five_words o a b c d e = put_more (((o ++ (a ++ (32 ∷ []))) ++ (b ++ (32 ∷ []))) ++ (c ++ (32 ∷ []))) d e ∙ four_words o a b c (d ++ (32 ∷ e))

-- items behind a first one, each behind a separator
abbrev pub behind_first : {X : Type 0} → ℕ → (X → List ℕ) → List X → List ℕ
behind_first s text others = flat_map (λ x. s ∷ text x) others

pub joined_all : {X : Type 0} (s : ℕ) (text : X → List ℕ) (first : X) (others : List X) → text first ++ behind_first s text others ≡ join_with_byte s (map text (first ∷ others))
joined_all s text first [] = append_nil (text first)
joined_all s text first (x ∷ xs) = ap (λ (t : List ℕ). text first ++ (s ∷ t)) (joined_all s text x xs)

pub joined_more : {X : Type 0} (s : ℕ) (text : X → List ℕ) (others : List X) (i : ℕ) (d : X) (o out : List ℕ) → i < length others
    → out ≡ o ++ behind_first s text (take i others) → (out ++ (s ∷ [])) ++ text (get_or others i d) ≡ o ++ behind_first s text (take (i + 1) others)
joined_more s text others i d o out inside so_far =
    let x = get_or others i d in
    append_assoc out (s ∷ []) (text x) ∙ ap (λ (t : List ℕ). t ++ (s ∷ text x)) so_far
    ∙ append_assoc o (behind_first s text (take i others)) (s ∷ text x)
    ∙ ap (λ (t : List ℕ). o ++ t)
    (sym (ap (behind_first s text) (take_more others i d inside) ∙ flat_map-append (λ y. s ∷ text y) (take i others) (x ∷ [])
    ∙ ap (λ (t : List ℕ). behind_first s text (take i others) ++ t) (append_nil (s ∷ text x))))

-- one line more
pub text_more : (lines : List ScriptLine) (i : ℕ) (d : ScriptLine) (out : List ℕ) → i < length lines → out ≡ text_of (take i lines)
    → (out ++ line_text (get_or lines i d)) ++ (10 ∷ []) ≡ text_of (take (i + 1) lines)
text_more lines i d out inside so_far =
    append_assoc out (line_text (get_or lines i d)) (10 ∷ []) ∙ ap (λ (t : List ℕ). t ++ (line_text (get_or lines i d) ++ (10 ∷ []))) so_far
    ∙ sym (ap text_of (take_more lines i d inside) ∙ text_push (take i lines) (get_or lines i d))

-- ---- the forms of lines

pub file_line : (o : List ℕ) (path content : List ℕ) → ((o ++ (codes "file" ++ (32 ∷ []))) ++ (path ++ (32 ∷ []))) ++ hex_text content ≡ o ++ line_text (File path content)
unfolding line_text
file_line o path content = three_words o (codes "file") path (hex_text content)

pub doc_line : (o : List ℕ) (id : DocId) (reusable strict : Bool) (path : List ℕ) (grants : List GrantRecord) → ((((o ++ (codes "doc" ++ (32 ∷ []))) ++ (doc_text id.number ++ (32 ∷ []))) ++ (flags_text reusable strict ++ (32 ∷ []))) ++ (path ++ (32 ∷ []))) ++ grants_text grants ≡ o ++ line_text (Doc id reusable strict path grants)
unfolding line_text
doc_line o id reusable strict path grants = five_words o (codes "doc") (doc_text id.number) (flags_text reusable strict) path (grants_text grants)

pub fail_line : (o : List ℕ) (device : Device) (call : ℕ) → ((o ++ (codes "fail" ++ (32 ∷ []))) ++ (device_text device ++ (32 ∷ []))) ++ decimal call ≡ o ++ line_text (Fail device call)
unfolding line_text
fail_line o device call = three_words o (codes "fail") (device_text device) (decimal call)

pub word_line : (o : List ℕ) (word : ℕ) → (o ++ (codes "word" ++ (32 ∷ []))) ++ doc_text word ≡ o ++ line_text (Word word)
unfolding line_text
word_line o word = two_words o (codes "word") (doc_text word)

pub now_line : (o : List ℕ) (moment : ℕ) → (o ++ (codes "now" ++ (32 ∷ []))) ++ decimal moment ≡ o ++ line_text (Now moment)
unfolding line_text
now_line o moment = two_words o (codes "now") (decimal moment)

pub open_line : (o : List ℕ) (seat : ℕ) (kind : Kind) (who : Who) → (((o ++ (codes "open" ++ (32 ∷ []))) ++ (decimal seat ++ (32 ∷ []))) ++ (kind_text kind ++ (32 ∷ []))) ++ who_text who ≡ o ++ line_text (Open seat kind who)
unfolding line_text
open_line o seat kind who = four_words o (codes "open") (decimal seat) (kind_text kind) (who_text who)

pub data_line : (o : List ℕ) (seat : ℕ) (bytes : List ℕ) → ((o ++ (codes "data" ++ (32 ∷ []))) ++ (decimal seat ++ (32 ∷ []))) ++ hex_text bytes ≡ o ++ line_text (Data seat bytes)
unfolding line_text
data_line o seat bytes = three_words o (codes "data") (decimal seat) (hex_text bytes)

pub close_line : (o : List ℕ) (seat : ℕ) → (o ++ (codes "close" ++ (32 ∷ []))) ++ decimal seat ≡ o ++ line_text (Close seat)
unfolding line_text
close_line o seat = two_words o (codes "close") (decimal seat)

pub entry_line : (o : List ℕ) (entry : EntryRecord)
    → (((((o ++ (codes "entry" ++ (32 ∷ []))) ++ (entry.table ++ (32 ∷ []))) ++ (entry.id ++ (32 ∷ []))) ++ hex_text entry.datum) ++ (32 ∷ [])) ++ rows_text entry.rows ≡ o ++ line_text (Entry entry)
unfolding line_text
entry_line o entry =
    let ahead : List ℕ = ((o ++ (codes "entry" ++ (32 ∷ []))) ++ (entry.table ++ (32 ∷ []))) ++ (entry.id ++ (32 ∷ [])) in
    ap (λ (t : List ℕ). t ++ rows_text entry.rows) (append_assoc ahead (hex_text entry.datum) (32 ∷ []))
    ∙ five_words o (codes "entry") entry.table entry.id (hex_text entry.datum) (rows_text entry.rows)
