use Rattle.std.proofs.Common.{◌≡◌, ◌∷◌, [], ◌++◌, List, length, map, sym, ap, subst, ◌∙◌, append-nil, arith, rules}
use Rattle.std.specs.List.{All, list_all}
use Rattle.std.specs.Vec.Iter.{into_iter_items}
use Rattle.std.proofs.lemmas.List.Elements.{All-head, All-tail}
use Rattle.portal_model.specs.Store.{Entries, record_of}
use Rattle.portal_model.specs.Valid.{is_valid_entry}
use Rattle.portal_model.specs.declared.records.EntryRecord.{EntryRecord}
use Rattle.record_keeper.specs.SoundRecords.{IsValidEntry}
use Rattle.record_keeper.proofs.KeptFacts.{kept_more, nothing_left, valid_more}
use Rattle.record_keeper.proofs.entries.kept_entries.Goals as goal

pub loop-kept-init : goal.loop-kept-init
loop-kept-init c =
    let gives : into_iter_items c.into_iter-kept-iterator.result ≡ c.args.records = c.into_iter-kept-iterator.ensures.into_iter_gives.0 ∙ c.into_vec-records.ensures in
    record {
      kept = search rules;
      valid = search rules;
      sound = subst (All IsValidEntry) (sym gives) c.requires;
      count = search rules;
    }

pub kept_entry-requires : goal.kept_entry-requires
kept_entry-requires c =
    let steps = c.in-Some.ensures.steps.0 in
    All-head IsValidEntry c.in-Some.kept (into_iter_items c.next.new.self) (subst (All IsValidEntry) steps c.loop-kept.invariant.sound)

pub loop-kept-preserved : goal.loop-kept-preserved
loop-kept-preserved c =
    let at = c.loop-kept in
    let entry = c.in_ok-kept_entry.field-0 in
    let rest = into_iter_items c.next.new.self in
    let steps : into_iter_items at.kept-iterator ≡ c.in-Some.kept ∷ rest = c.in-Some.ensures.steps.0 in
    let so_far = ap (λ (rs : List EntryRecord). map record_of at.entries.items ++ rs) (sym steps) ∙ at.invariant.kept in
    record {
      kept = ap (λ (es : Entries). map record_of es ++ rest) c.in_ok-push.ensures.items
          ∙ kept_more at.entries.items entry c.in-Some.kept rest _ so_far c.in_ok-kept_entry.ensures.kept;
      valid = ap (list_all is_valid_entry) c.in_ok-push.ensures.items ∙ valid_more at.entries.items entry at.invariant.valid c.in_ok-kept_entry.ensures.valid;
      sound = All-tail IsValidEntry c.in-Some.kept rest (subst (All IsValidEntry) steps at.invariant.sound);
      count =
          let was = at.invariant.count in
          let gone = c.in-Some.ensures.steps.1 in
          let short = ap length steps in
          omega arith;
    }

pub returns : goal.returns
returns c =
    let at = c.loop-kept in
    let empty : into_iter_items at.kept-iterator ≡ [] = nothing_left _ (sym at.invariant.count ∙ c.in-None.ensures.steps.0) in
    let all : into_iter_items at.kept-iterator ≡ [] → map record_of at.entries.items ≡ c.args.records =
    λ e. sym (append-nil (map record_of at.entries.items))
    ∙ (ap (λ (rs : List EntryRecord). map record_of at.entries.items ++ rs) (sym e)
    ∙ (at.invariant.kept ∙ (c.into_iter-kept-iterator.ensures.into_iter_gives.0 ∙ c.into_vec-records.ensures))) in
    record {
      kept = ap (map record_of) c.from_vec.ensures ∙ all empty;
      valid = ap (list_all is_valid_entry) c.from_vec.ensures ∙ at.invariant.valid;
    }
