use Rattle.std.proofs.Common.{◌≡◌, ◌∙◌, ◌++◌, ◌∷◌, [], ap, sym, subst, length, append-nil, arith}
use Rattle.std.specs.List.{IsDistinct}
use Rattle.std.specs.Vec.Iter.{into_iter_items}
use Rattle.std.proofs.lemmas.List.{append_assoc}
use Rattle.portal_model.specs.Store.{Entries}
use Rattle.portal_model.specs.Valid.{same_entry}
use Rattle.permission_table.proofs.IndexedLists.{none-ahead}
use Rattle.permission_table.proofs.StableRows.{nothing_left}
use Rattle.permission_table.proofs.indexed.IndexedEntries.of.Goals as goal

pub add-requires : goal.add-requires
add-requires c =
    let at = c.loop-entry in
    let rest = into_iter_items c.next.new.self in
    let steps : into_iter_items at.entry-iterator ≡ c.in-Some.entry ∷ rest = c.in-Some.ensures.steps.0 in
    let all : at.indexed ++ c.in-Some.entry ∷ rest ≡ c.args.entries =
    ap (λ (r : Entries). at.indexed ++ r) (sym steps) ∙ (at.invariant.all ∙ (c.into_iter-entry-iterator.ensures.into_iter_gives.0 ∙ c.into_vec-entry-items.ensures)) in
    none-ahead at.indexed rest c.in-Some.entry (subst (λ (s : Entries). IsDistinct same_entry s) (sym all) c.requires)

pub loop-entry-preserved : goal.loop-entry-preserved
loop-entry-preserved c =
    let at = c.loop-entry in
    let rest = into_iter_items c.next.new.self in
    let steps : into_iter_items at.entry-iterator ≡ c.in-Some.entry ∷ rest = c.in-Some.ensures.steps.0 in
    record {
      all = ap (λ (s : Entries). s ++ rest) c.in_ok-add.ensures.ok ∙ (append_assoc at.indexed (c.in-Some.entry ∷ []) rest ∙ (ap (λ (r : Entries). at.indexed ++ r) (sym steps) ∙ at.invariant.all));
      count =
          let was = at.invariant.count in
          let gone = c.in-Some.ensures.steps.1 in
          let short = ap length steps in
          omega arith;
    }

pub returns : goal.returns
returns c =
    let at = c.loop-entry in
    let empty : into_iter_items at.entry-iterator ≡ [] = nothing_left (into_iter_items at.entry-iterator) (sym at.invariant.count ∙ c.in-None.ensures.steps.0) in
    sym (append-nil at.indexed)
    ∙ (ap (λ (r : Entries). at.indexed ++ r) (sym empty) ∙ (at.invariant.all ∙ (c.into_iter-entry-iterator.ensures.into_iter_gives.0 ∙ c.into_vec-entry-items.ensures)))
