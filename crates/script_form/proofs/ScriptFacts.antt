-- Facts on lists of lines.
use Rattle.std.proofs.Common.{◌≡◌, ◌≢◌, ℕ, ◌+◌, ◌<◌, ◌≤◌, true, false, List, [], ◌∷◌, ◌++◌, length, refl, sym, ap, ◌∙◌, arith, append_assoc}
use Rattle.std.specs.Prelude.{nat_lt, replicate}
use Rattle.std.specs.List.{flat_map}
use Rattle.std.proofs.lemmas.Grind.{flat_map-append}
use Rattle.std.proofs.lemmas.Bool.Decides.{nat_tests}
use Rattle.std.proofs.lemmas.List.{length-append, get_or-replicate, length-replicate}
use Rattle.portal_model.specs.Opening.{each, names_kept}
use Rattle.portal_model.specs.Valid.{applications_limit}
use Rattle.portal_model.specs.declared.opening.OpeningDocument.{OpeningDocument}
use Rattle.script_lines.specs.Lines.{line_text, text_of, KeepsRules}
use Rattle.script_form.specs.Opening.{documents_of, document_in, applications_of}
use Rattle.script_form.specs.Order.{MayStand, StandBehind, IsScript, NoneStands, IsRead, IsFault, goes_with}
use Rattle.script_form.specs.Preceding.{Tracks, is_opened, is_closed}
use Rattle.script_form.specs.Next.{TakesLine}
use Rattle.script_lines.specs.Reading.{CutsAt, IsFree}
use Rattle.script_form.specs.declared.preceding.Preceding.{Preceding}
use Rattle.script_form.specs.declared.preceding.Number.TheVariants.{Unopened}
use Rattle.script_lines.specs.declared.script.ScriptLine.{ScriptLine}
use Rattle.script_lines.proofs.SameFacts.{line_same, line_free}
use Rattle.script_lines.proofs.TextFacts.{cut_same, not_free}

pub append_nil : {X : Type 0} (xs : List X) → xs ++ [] ≡ xs
append_nil [] = refl
append_nil (x ∷ xs) = ap (λ (ys : List _). x ∷ ys) (append_nil xs)

-- ---- texts of lists of lines

pub text_empty : text_of [] ≡ []
unfolding text_of
text_empty = refl

pub text_push : (lines : List ScriptLine) (line : ScriptLine) → text_of (lines ++ (line ∷ [])) ≡ text_of lines ++ (line_text line ++ (10 ∷ []))
unfolding text_of
text_push lines line =
    flat_map-append (λ (l : ScriptLine). line_text l ++ (10 ∷ [])) lines (line ∷ [])
    ∙ ap (λ (t : List ℕ). flat_map (λ (l : ScriptLine). line_text l ++ (10 ∷ [])) lines ++ t) (append_nil (line_text line ++ (10 ∷ [])))

pub next_cut : (text : List ℕ) (lines : List ScriptLine) (rest : List ℕ) (line : ScriptLine) (after : List ℕ) (new : List ScriptLine)
    → text ≡ text_of lines ++ rest → rest ≡ line_text line ++ (10 ∷ after) → new ≡ lines ++ (line ∷ []) → text ≡ text_of new ++ after
next_cut text lines rest line after new cut ahead more =
    cut ∙ ap (λ (r : List ℕ). text_of lines ++ r) (ahead ∙ sym (append_assoc (line_text line) (10 ∷ []) after))
    ∙ sym (append_assoc (text_of lines) (line_text line ++ (10 ∷ [])) after)
    ∙ ap (λ (t : List ℕ). t ++ after) (sym (text_push lines line)) ∙ ap (λ (ls : List ScriptLine). text_of ls ++ after) (sym more)

pub lines_short : (lines : List ScriptLine) → length lines ≤ length (text_of lines)
unfolding text_of
lines_short [] = omega arith
lines_short (line ∷ lines) =
    let rest = lines_short lines in
    omega (arith, length-append (line_text line ++ (10 ∷ [])) (text_of lines), length-append (line_text line) (10 ∷ []))

pub stand_push : (earlier lines : List ScriptLine) (line : ScriptLine) → StandBehind earlier lines → MayStand (earlier ++ lines) line → StandBehind earlier (lines ++ (line ∷ []))
stand_push earlier [] line all one = (rw append_nil at one, tt)
stand_push earlier (l ∷ ls) line all one = (all.0, stand_push (earlier ++ (l ∷ [])) ls line all.1 (rw append_assoc one))

-- ---- how many applications

each_append : {X Y : Type 0} (f : X → List Y) (xs ys : List X) → each f (xs ++ ys) ≡ each f xs ++ each f ys
each_append f [] ys = refl
each_append f (x ∷ xs) ys = ap (λ (t : List _). f x ++ t) (each_append f xs ys) ∙ sym (append_assoc (f x) (each f xs) (each f ys))

abbrev pub names_of : List ScriptLine → List (List ℕ)
names_of lines = each names_kept (documents_of lines)

abbrev names_in : ScriptLine → List (List ℕ)
names_in line = each names_kept (document_in line)

pub names_push : (lines : List ScriptLine) (line : ScriptLine) → names_of (lines ++ (line ∷ [])) ≡ names_of lines ++ names_in line
names_push lines line =
    ap (each names_kept) (each_append document_in lines (line ∷ []) ∙ ap (λ (t : List OpeningDocument). documents_of lines ++ t) (append_nil (document_in line)))
    ∙ each_append names_kept (documents_of lines) (document_in line)

-- ---- what is read

pub new_tracks : (p : Preceding) (n : ℕ) → p.lines ≡ [] → p.begun ≡ false → n ≡ 65536 → p.numbers.items ≡ replicate n Unopened → p.documents ≡ 0
    → p.ids.keys ≡ [] → p.keys ≡ [] → p.paths ≡ [] → p.named ≡ [] → Tracks p
new_tracks p n none begun all filled count ids keys paths named = record {
  starts = begun ∙ rw none refl;
  seats = rw filled (length-replicate n Unopened ∙ all);
  opened = λ k inside. rw (none, filled) (ap is_opened (get_or-replicate n k Unopened Unopened (omega arith)));
  closed = λ k inside. rw (none, filled) (ap is_closed (get_or-replicate n k Unopened Unopened (omega arith)));
  count = count ∙ rw none refl;
  kept = λ k. rw (none, ids) refl;
  stored = λ table id t i. rw (none, keys) refl;
  clear = λ path. rw (none, paths) refl;
  named = named ∙ rw none refl;
}

pub none_by_free : (lines : List ScriptLine) (text : List ℕ) → IsFree 10 text → NoneStands lines text
none_by_free lines text free = λ line more e stands. not_free 10 (line_text line) more (rw e at free)

cut_line : (text a b : List ℕ) (line : ScriptLine) (more : List ℕ) → CutsAt 10 text a b → KeepsRules line → text ≡ line_text line ++ (10 ∷ more) → a ≡ line_text line
cut_line text a b line more cut k e = (cut_same 10 a b (line_text line) more cut.first (line_free line k) (sym cut.whole ∙ e)).0

pub none_by_line : (lines : List ScriptLine) (text a b : List ℕ) → CutsAt 10 text a b → ((line : ScriptLine) → KeepsRules line → a ≢ line_text line) → NoneStands lines text
none_by_line lines text a b cut other = λ line more e stands. other line stands.itself (cut_line text a b line more cut stands.itself e)

pub none_by_order : (lines : List ScriptLine) (text a b : List ℕ) (read : ScriptLine) → CutsAt 10 text a b → KeepsRules read → a ≡ line_text read
    → goes_with lines read ≡ false → NoneStands lines text
none_by_order lines text a b read cut k same order = λ line more e stands.
    let this : read ≡ line = line_same read line k stands.itself (sym same ∙ cut_line text a b line more cut stands.itself e) in
    let goes = stands.order in
    absurd (cc (order, goes, this))

too_many : (a b : ℕ) → nat_lt a b ≡ true → b ≤ a → ⊥
too_many a b over within = absurd (grind (arith, nat_tests))

pub none_by_names : (lines : List ScriptLine) (text a b : List ℕ) (read : ScriptLine) (new : List ScriptLine) → CutsAt 10 text a b → KeepsRules read → a ≡ line_text read
    → new ≡ lines ++ (read ∷ []) → nat_lt applications_limit (length (applications_of new)) ≡ true → NoneStands lines text
none_by_names lines text a b read new cut k same more over = λ line left e stands.
    let this : read ≡ line = line_same read line k stands.itself (sym same ∙ cut_line text a b line left cut stands.itself e) in
    let put : new ≡ lines ++ (line ∷ []) = more ∙ ap (λ (l : ScriptLine). lines ++ (l ∷ [])) this in
    too_many applications_limit (length (applications_of (lines ++ (line ∷ []))))
    (ap (λ (ls : List ScriptLine). nat_lt applications_limit (length (applications_of ls))) (sym put) ∙ over) stands.applications

within : (a b : ℕ) → nat_lt a b ≡ false → b ≤ a
within a b few = grind (arith, nat_tests)

pub takes : (lines : List ScriptLine) (text a b : List ℕ) (read : ScriptLine) (new : List ScriptLine) → CutsAt 10 text a b → KeepsRules read → a ≡ line_text read
    → goes_with lines read ≡ true → new ≡ lines ++ (read ∷ []) → nat_lt applications_limit (length (applications_of new)) ≡ false → TakesLine lines text new b
takes lines text a b read new cut k same order more few =
    let ahead : text ≡ line_text read ++ (10 ∷ b) = cut.whole ∙ ap (λ (t : List ℕ). t ++ (10 ∷ b)) same in
    record {
      line = read;
      ahead = ahead;
      stands = record { itself = k; order = order; applications = within applications_limit _ (ap (λ (ls : List ScriptLine). nat_lt applications_limit (length (applications_of ls))) (sym more) ∙ few) };
      more = more;
    }

pub good_next : (lines : List ScriptLine) (text : List ℕ) (new : List ScriptLine) (after : List ℕ) → IsScript lines → TakesLine lines text new after → IsScript new
good_next lines text new after good t = rw t.more (stand_push [] lines t.line good t.stands)

pub shorter_next : (lines : List ScriptLine) (text : List ℕ) (new : List ScriptLine) (after : List ℕ) → TakesLine lines text new after → length after < length text
shorter_next lines text new after t = let e = ap length t.ahead ∙ length-append (line_text t.line) (10 ∷ after) in omega arith

pub text_none : (lines : List ScriptLine) (text : List ℕ) → lines ≡ [] → text ≡ text_of lines ++ text
unfolding text_of
text_none lines text none = rw none refl

pub good_none : (lines : List ScriptLine) → lines ≡ [] → IsScript lines
good_none lines none = rw none tt

pub fault_is : (text : List ℕ) (lines : List ScriptLine) (rest : List ℕ) (n : ℕ)
    → text ≡ text_of lines ++ rest → IsScript lines → (rest ≢ []) → NoneStands lines rest → n ≡ length lines + 1 → IsFault text n
fault_is text lines rest n cut good some none number =
    record { lines = lines; rest = rest; good = good; parts = cut; some = some; none = none; number_is = number }

pub read_is : (text : List ℕ) (lines : List ScriptLine) (rest : List ℕ) (read : List ScriptLine)
    → text ≡ text_of lines ++ rest → IsScript lines → rest ≡ [] → read ≡ lines → IsRead text read
read_is text lines rest read cut good none same =
    rw same (record { good = good; whole = cut ∙ rw none (append_nil (text_of lines)) })
