-- What the entries of lines cost the history: at most eight times the bytes of their text.
use Rattle.std.proofs.Common.{◌≡◌, ℕ, ◌+◌, ◌*◌, ◌-◌, ◌^◌, ◌<◌, ◌≤◌, min, List, [], ◌∷◌, ◌++◌, length, refl, sym, ap, ◌∙◌, arith, length-append}
use Rattle.std.specs.Prelude.{codes}
use Rattle.std.specs.Fmt.{decimal}
use Rattle.std.proofs.lemmas.Fmt.{decimal_nonempty}
use Rattle.hex.specs.Hex.{lower_digits}
use Rattle.hex.proofs.HexLemmas.{length-encode_with}
use Rattle.portal_base.specs.declared.who.Kind.{Kind}
use Rattle.portal_base.specs.declared.who.Kind.TheVariants.{Bus, Mount}
use Rattle.portal_base.specs.declared.who.Who.{Who}
use Rattle.portal_base.specs.declared.who.Who.TheVariants.{Host, App}
use Rattle.portal_model.specs.declared.entry.Entry.{Entry}
use Rattle.portal_model.specs.declared.request.Request.{Request}
use Rattle.portal_model.specs.declared.request.Request.TheVariants as request
use Rattle.portal_model.specs.History.{cost, cost_of}
use Rattle.portal_model.specs.State.{State}
use Rattle.portal_model.specs.Step.{after}
use Rattle.portal_model.proofs.Histories.{cost-append}
use Rattle.script_lines.specs.declared.script.ScriptLine.{ScriptLine}
use Rattle.script_lines.specs.declared.script.ScriptLine.TheVariants.{Open, Data}
use Rattle.script_lines.specs.Lines.{hex_text, line_text, text_of}
use Rattle.script_form.specs.Outside.{Outside}
use Rattle.session.proofs.ItemsCostLittle.{costs, costs-append}
use Rattle.script_replay.specs.Entries.{AreGiven}

pub entries_cost : (rs : List Request) (es : List Entry) (s : State) (o : Outside) (seat : ℕ) (left : Outside) → AreGiven s o seat rs es left → cost es ≡ costs rs
entries_cost [] [] s o seat left h = refl
entries_cost [] (e ∷ es) s o seat left h = absurd h
entries_cost (r ∷ rs) [] s o seat left h = absurd h
entries_cost (r ∷ rs) (e ∷ es) s o seat left h =
    cost-append (e ∷ []) es ∙ (ap (λ (n : ℕ). cost (e ∷ []) + n) (entries_cost rs es (after s e) h.2 seat left h.4) ∙ (ap (λ (q : Request). costs (q ∷ []) + costs rs) h.1 ∙ sym (costs-append (r ∷ []) rs)))

-- ---- the length of a line

min_left : (a b : ℕ) → min a b ≤ a
min_left a b = omega arith

hex_long : (bytes : List ℕ) → 2 * length bytes ≤ length (hex_text bytes)
hex_long [] = omega arith
hex_long (b ∷ bs) = let e = length-encode_with lower_digits (b ∷ bs) in omega arith

pub data_long : (seat : ℕ) (bytes : List ℕ) → 2 * length bytes ≤ length (line_text (Data seat bytes))
unfolding line_text
data_long seat bytes = let e = length-append (decimal seat) (32 ∷ hex_text bytes) in let digits = hex_long bytes in omega arith

open_long : (kind : Kind) (who : Who) (seat : ℕ) → seat < 2 ^ 64 → 128 ≤ 8 * (length (line_text (Open seat kind Host)) + 1)
unfolding line_text
open_long Bus who seat h = let e = length-append (decimal seat) (32 ∷ (codes "bus" ++ (32 ∷ codes "host"))) in let some = decimal_nonempty seat h in omega arith
open_long Mount who seat h = let e = length-append (decimal seat) (32 ∷ (codes "mount" ++ (32 ∷ codes "host"))) in let some = decimal_nonempty seat h in omega arith

app_long : (kind : Kind) (name : List ℕ) (seat : ℕ) → seat < 2 ^ 64 → 128 + length name ≤ 8 * (length (line_text (Open seat kind (App name))) + 1)
unfolding line_text
app_long Bus name seat h = let e = length-append (decimal seat) (32 ∷ (codes "bus" ++ (32 ∷ (codes "app:" ++ name)))) in let some = decimal_nonempty seat h in omega arith
app_long Mount name seat h = let e = length-append (decimal seat) (32 ∷ (codes "mount" ++ (32 ∷ (codes "app:" ++ name)))) in let some = decimal_nonempty seat h in omega arith

pub enter_cost : (who : Who) (seat : ℕ) (kind : Kind) → seat < 2 ^ 64 → cost_of (request.Enter who kind) ≤ 8 * (length (line_text (Open seat kind who)) + 1)
enter_cost Host seat kind h = let long = open_long kind Host seat h in let least = min_left 128 (2 ^ 64 - 1) in omega arith
enter_cost (App name) seat kind h = let long = app_long kind name seat h in let least = min_left (128 + length name) (2 ^ 64 - 1) in omega arith

pub text_more : (line : ScriptLine) (lines : List ScriptLine) → length (text_of (line ∷ lines)) ≡ (length (line_text line) + 1) + length (text_of lines)
unfolding text_of
text_more line lines =
    let whole = length-append (line_text line ++ 10 ∷ []) (text_of lines) in
    let end = length-append (line_text line) (10 ∷ []) in
    omega arith
