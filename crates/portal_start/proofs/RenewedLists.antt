-- The opening state of a history that goes on from the lists of a state is that state.
use Rattle.std.specs.Prelude.{is_some}
use Rattle.std.proofs.Common.{◌≡◌, ℕ, ◌==◌, List, [], ◌∷◌, ◌++◌, map, fold, Bool, true, false, ◌&&◌, ◌||◌, cond, Some, None, refl, sym, ap, subst, ◌∙◌, arith}
use Rattle.std.specs.List.{All, list_any, list_all, filter}
use Rattle.std.proofs.lemmas.List.Elements.{All-head, All-tail}
use Rattle.document_records.proofs.FreshItems.{any-mapped, any_same}
use Rattle.permission_table.specs.Tables.{IsHeld}
use Rattle.file_generations.specs.Generations.{Held}
use Rattle.portal_base.specs.Names.{is_same}
use Rattle.portal_model.specs.declared.opening.OpeningDocument.{OpeningDocument}
use Rattle.portal_model.specs.declared.records.GrantRecord.{GrantRecord}
use Rattle.portal_model.specs.declared.rights.Right.{Right}
use Rattle.portal_model.specs.declared.rights.Right.TheVariants.{Read, Write, GrantPermissions, Delete}
use Rattle.portal_model.specs.declared.state.Document.{Document}
use Rattle.portal_model.specs.declared.state.Triple.{Triple}
use Rattle.portal_model.specs.Info.{holders}
use Rattle.portal_model.specs.Kept.{bits_of, grant_record}
use Rattle.portal_model.specs.Opening.{document_kept, files_of, hidden_of, id_of, is_told, opened_over, rights_kept, set_of_bits, with_grant, with_grants}
use Rattle.portal_model.specs.Outside.{files_told}
use Rattle.portal_model.specs.Ordered.{bytes_less, is_rising}
use Rattle.portal_model.specs.Rights.{are_in_order, is_in, same_triple, triple_less, triples_of}
use Rattle.portal_model.specs.Rows.{are_rows}
use Rattle.portal_model.specs.State.{State, app_has, document_of, gives, held_in, held_of}
use Rattle.portal_model.specs.Store.{Entries}
use Rattle.portal_model.specs.Valid.{Valid, is_placed}
use Rattle.portal_model.proofs.RisingLists.{any-put_all, rising-put_all, same_items}
use Rattle.portal_model.proofs.TripleOrder.{is_same-eq, nat_is, triples}
use Rattle.rights_rule.specs.Rights.{RightSet}
use Rattle.portal_start.specs.Renewed.{document_again, opening_of}
use Rattle.portal_start.proofs.KeptRights.{any-filtered, any-grants, any_both, or-swap, right_given, some_given, texts}

-- ---- sets of rights

-- a set comes back from its number
bits-back : (r w g d : Bool) → set_of_bits (bits_of (record { read = r; write = w; grant_permissions = g; delete = d })) ≡ record { read = r; write = w; grant_permissions = g; delete = d }
bits-back true true true true = refl
bits-back true true true false = refl
bits-back true true false true = refl
bits-back true true false false = refl
bits-back true false true true = refl
bits-back true false true false = refl
bits-back true false false true = refl
bits-back true false false false = refl
bits-back false true true true = refl
bits-back false true true false = refl
bits-back false true false true = refl
bits-back false true false false = refl
bits-back false false true true = refl
bits-back false false true false = refl
bits-back false false false true = refl
bits-back false false false false = refl

set_back : (s : RightSet) → set_of_bits (bits_of s) ≡ s
set_back s = bits-back s.read s.write s.grant_permissions s.delete

held-in : (rights : List Triple) (app : List ℕ) (n : ℕ) (right : Right) → is_in (held_of rights app n) right ≡ app_has rights app n right
held-in rights app n Read = refl
held-in rights app n Write = refl
held-in rights app n GrantPermissions = refl
held-in rights app n Delete = refl

-- ---- rights stand in order

rising_grants : (n : ℕ) (gs : List GrantRecord) (rights : List Triple) → is_rising triple_less rights ≡ true → is_rising triple_less (fold (with_grant n) rights gs) ≡ true
rising_grants n [] rights h = h
rising_grants n (g ∷ gs) rights h =
    rising_grants n gs (with_grant n rights g) (rising-put_all triple_less same_triple (λ (t : Triple). t) triples (triples_of g.app (id_of n) (set_of_bits g.rights) ++ rights))

rising_kept : (ds : List OpeningDocument) (rights : List Triple) → is_rising triple_less rights ≡ true → is_rising triple_less (fold with_grants rights ds) ≡ true
rising_kept [] rights h = h
rising_kept (d ∷ ds) rights h = rising_kept ds (with_grants rights d) (rising_grants d.kept.number d.kept.grants rights h)

-- ---- a right is held exactly where a document's records give it

any-opened : (p : Triple → Bool) (ds : List OpeningDocument) (rights : List Triple) → list_any p (fold with_grants rights ds) ≡ (list_any (λ (d : OpeningDocument). list_any (some_given p d.kept.number) d.kept.grants) ds || list_any p rights)
any-opened p [] rights = refl
any-opened p (d ∷ ds) rights =
    any-opened p ds (with_grants rights d)
    ∙ ap (λ (b : Bool). list_any (λ (x : OpeningDocument). list_any (some_given p x.kept.number) x.kept.grants) ds || b) (any-grants p d.kept.number d.kept.grants rights)
    ∙ or-swap (list_any (λ (x : OpeningDocument). list_any (some_given p x.kept.number) x.kept.grants) ds) (list_any (some_given p d.kept.number) d.kept.grants) (list_any p rights)

or-none : (b : Bool) → (b || false) ≡ b
or-none true = refl
or-none false = refl

and-all : (a : Bool) → (a && true) ≡ a
and-all true = refl
and-all false = refl

none-passes : {X : Type 0} (p : X → Bool) (xs : List X) → list_any (λ x. p x && false) xs ≡ false
none-passes p [] = refl
none-passes p (x ∷ xs) = grind (arith, none-passes p xs)

module _ (rights : List Triple) (app : List ℕ) (right : Right) where
  -- of those that hold a right in a document the application is one, where it has this one
  module _ (n : ℕ) where
    abbrev is_here : Triple → Bool
    is_here t = t.id.number == n

    abbrev has_it : List ℕ → Bool
    has_it name = is_same name app && app_has rights name n right

    same_has : (name : List ℕ) → has_it name ≡ (is_same name app && app_has rights app n right)
    same_has name = by (is_same name app) refl
      where
        by : (b : Bool) → is_same name app ≡ b → (b && app_has rights name n right) ≡ (b && app_has rights app n right)
        by true e = ap (λ (x : List ℕ). app_has rights x n right) (is_same-eq name app e)
        by false e = refl

    abbrev is_his : Triple → Bool
    is_his t = is_here t && is_same t.app app

    his-here : (ts : List Triple) → list_any (gives app n right) ts ≡ true → list_any is_his ts ≡ true
    his-here [] e = cc
    his-here (t ∷ ts) e = grind (arith, his-here ts)

    and-three : (a b c : Bool) → (a && (b && c)) ≡ ((a && b) && c)
    and-three true b c = refl
    and-three false b c = refl

    some-his : (b : Bool) → app_has rights app n right ≡ b → list_any (λ (t : Triple). is_his t && b) rights ≡ b
    some-his true e = any_same (λ (t : Triple). is_his t && true) is_his (λ t. and-all (is_his t)) rights ∙ his-here rights e
    some-his false e = none-passes is_his rights

    holder_has : list_any has_it (holders rights n) ≡ app_has rights app n right
    holder_has =
        any-put_all bytes_less is_same texts has_it (map (λ (t : Triple). t.app) (filter is_here rights))
        ∙ any-mapped has_it (λ (t : Triple). t.app) (filter is_here rights)
        ∙ any-filtered (λ (t : Triple). has_it t.app) is_here rights
        ∙ any_same (λ (t : Triple). is_here t && has_it t.app) (λ (t : Triple). is_his t && app_has rights app n right)
        (λ t. ap (λ (b : Bool). is_here t && b) (same_has t.app) ∙ and-three (is_here t) (is_same t.app app) (app_has rights app n right)) rights
        ∙ some-his (app_has rights app n right) refl

  module _ (m : ℕ) where
    given_in : (n : ℕ) (name : List ℕ) → some_given (gives app m right) n (grant_record rights n name) ≡ ((n == m) && (is_same name app && app_has rights name n right))
    given_in n name =
        right_given app m right n (grant_record rights n name)
        ∙ ap (λ (set : RightSet). (n == m) && (is_same name app && is_in set right)) (set_back (held_of rights name n))
        ∙ ap (λ (b : Bool). (n == m) && (is_same name app && b)) (held-in rights name n right)

    one_document : (n : ℕ) → list_any (some_given (gives app m right) n) (map (grant_record rights n) (holders rights n)) ≡ ((n == m) && app_has rights app m right)
    one_document n =
        any-mapped (some_given (gives app m right) n) (grant_record rights n) (holders rights n)
        ∙ any_same (λ (name : List ℕ). some_given (gives app m right) n (grant_record rights n name)) (λ (name : List ℕ). (n == m) && has_it n name) (given_in n) (holders rights n)
        ∙ any_both (n == m) (has_it n) (holders rights n)
        ∙ by (n == m) refl
      where
        by : (b : Bool) → (n == m) ≡ b → (b && list_any (has_it n) (holders rights n)) ≡ (b && app_has rights app m right)
        by true e = holder_has n ∙ ap (λ (k : ℕ). app_has rights app k right) (nat_is n m e)
        by false e = refl

    module _ (live : List Document) (placed : list_all (λ (t : Triple). is_some (document_of live t.id.number)) rights ≡ true) where
      placed-one : (t : Triple) → is_some (document_of live t.id.number) ≡ true → gives app m right t ≡ true → is_some (document_of live m) ≡ true
      placed-one t p g =
          let here : (t.id.number == m) ≡ true = grind arith in
          subst (λ (n : ℕ). is_some (document_of live n) ≡ true) (nat_is t.id.number m here) p

      placed-any : (ts : List Triple) → list_all (λ (t : Triple). is_some (document_of live t.id.number)) ts ≡ true → list_any (gives app m right) ts ≡ true → is_some (document_of live m) ≡ true
      placed-any [] p e = cc
      placed-any (t ∷ ts) p e = grind (arith, placed-one t, placed-any ts)

      live-any : (ds : List Document) → is_some (document_of ds m) ≡ true → list_any (λ (d : Document). (d.id.number == m) && true) ds ≡ true
      live-any [] e = cc
      live-any (d ∷ ds) e = by (d.id.number == m) e (live-any ds)
        where
          by : (b : Bool) → is_some (cond b (Some d) (document_of ds m)) ≡ true → (is_some (document_of ds m) ≡ true → list_any (λ (x : Document). (x.id.number == m) && true) ds ≡ true) →
              ((b && true) || list_any (λ (x : Document). (x.id.number == m) && true) ds) ≡ true
          by true f rest = refl
          by false f rest = rest f

      some-live : (b : Bool) → app_has rights app m right ≡ b → list_any (λ (d : Document). (d.id.number == m) && b) live ≡ b
      some-live true e = live-any live (placed-any rights placed e)
      some-live false e = none-passes (λ (d : Document). d.id.number == m) live

      given_again : list_any (gives app m right) (rights_kept (map (document_again rights) live)) ≡ app_has rights app m right
      given_again =
          any-opened (gives app m right) (map (document_again rights) live) []
          ∙ or-none (list_any (λ (d : OpeningDocument). list_any (some_given (gives app m right) d.kept.number) d.kept.grants) (map (document_again rights) live))
          ∙ any-mapped (λ (d : OpeningDocument). list_any (some_given (gives app m right) d.kept.number) d.kept.grants) (document_again rights) live
          ∙ any_same (λ (d : Document). list_any (some_given (gives app m right) d.id.number) (map (grant_record rights d.id.number) (holders rights d.id.number))) (λ (d : Document). (d.id.number == m) && app_has rights app m right)
          (λ d. one_document d.id.number) live
          ∙ some-live (app_has rights app m right) refl

-- the records of live documents give the rights back
rights_again : (live : List Document) (rights : List Triple) → are_in_order rights ≡ true → list_all (λ (t : Triple). is_some (document_of live t.id.number)) rights ≡ true → rights_kept (map (document_again rights) live) ≡ rights
rights_again live rights order placed = same_items triple_less same_triple triples (rights_kept (map (document_again rights) live)) rights (rising_kept (map (document_again rights) live) [] refl) order
    (λ k. given_again rights k.app k.right k.id.number live placed)

documents_again : (rights : List Triple) (live : List Document) → map document_kept (map (document_again rights) live) ≡ live
documents_again rights [] = refl
documents_again rights (d ∷ live) = ap (λ (ds : List Document). d ∷ ds) (documents_again rights live)

-- ---- the state

all_placed : (s : State) (ts : List Triple) → list_all (is_placed s) ts ≡ true → list_all (λ (t : Triple). is_some (document_of s.documents t.id.number)) ts ≡ true
all_placed s [] h = refl
all_placed s (t ∷ ts) h = grind (arith, all_placed s ts)

told_again : (told : Bool) (held : Held) → is_told (cond told (Some held) None) ≡ told
told_again true held = refl
told_again false held = refl

files_again : (told : Bool) (held : Held) → (told ≡ false → held.present ≡ []) → files_of (cond told (Some held) None) ≡ held.present
files_again true held none = refl
files_again false held none = sym (none refl)

hidden_again : (told : Bool) (held : Held) → (told ≡ false → held.hidden ≡ []) → hidden_of (cond told (Some held) None) ≡ held.hidden
hidden_again true held none = refl
hidden_again false held none = sym (none refl)

-- a state in which nothing is open is the one that its lists open with
pub opened_again : (s : State) (most_live most_made : ℕ) → Valid s → s.connections ≡ [] → s.handles ≡ [] →
    opened_over (files_told s) (opening_of s.limits (record { most_live = most_live; most_made = most_made; live = s.documents; made = s.made }) s.rights s.applications s.entries s.taken) ≡ s
opened_again s most_live most_made v none closed = λ i. record {
  limits = s.limits;
  documents = documents_again s.rights s.documents i;
  made = s.made;
  rights = rights_again s.documents s.rights v.rights_in_order (all_placed s s.rights v.rights_placed) i;
  applications = s.applications;
  connections = sym none i;
  handles = sym closed i;
  told = told_again s.told (held_in s) i;
  files = files_again s.told (held_in s) v.files_told i;
  hidden = hidden_again s.told (held_in s) v.generations_sound.none_untold i;
  taken = s.taken;
  entries = s.entries;
}

-- the rows of entries that tables hold stand in order
pub held_rows : (es : Entries) → All IsHeld es → list_all (λ e. are_rows e.rows) es ≡ true
held_rows [] all = refl
held_rows (e ∷ es) all =
    let one : are_rows e.rows ≡ true = (All-head IsHeld e es all).sound.rows in
    let rest : list_all (λ x. are_rows x.rows) es ≡ true = held_rows es (All-tail IsHeld e es all) in
    grind arith
