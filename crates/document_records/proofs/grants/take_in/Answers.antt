use Rattle.std.proofs.Common.{◌≡◌, ◌∙◌, ℕ, List, ◌==◌, length, ap, sym, true, false, None}
use Rattle.std.specs.BTreeMap.{BTreeMap, is_at}
use Rattle.std.specs.List.{list_all}
use Rattle.std.specs.Map.{lookup, remove_entry}
use Rattle.std.specs.Ordering.{nat_cmp}
use Rattle.std.specs.declared.alloc.Global.{Global}
use Rattle.std.specs.declared.vec.Vec.{Vec}
use Rattle.document_records.specs.declared.grants.Grant.{Grant}
use Rattle.document_records.specs.Grants.{all_grants, is_kept}
use Rattle.document_records.proofs.GrantsByNumber.{empty-is, entry-left, filled-is, found-kept, gone-after-set, gone-kept, kept-of, left-all, left-gone, left-none, none-lent, set-kept}
use Rattle.document_records.proofs.grants.take_in.Goals as goal

pub returns-in_default-clause-left : goal.returns-in_default-clause-left
returns-in_default-clause-left c =
    let none : lookup (is_at (nat_cmp c.args.id.number)) c.args.documents.now.entries ≡ None = none-lent c.get_mut.result _ c.get_mut.ensures.value c.in_default.is in
    ap (λ (m : BTreeMap ℕ (Vec Grant Global)). all_grants m.entries) c.get_mut.follows.holds-at-none
    ∙ left-none c.args.app.now c.args.id.number c.args.rights c.args.documents.now.entries c.requires.order c.requires.each none

pub take-requires : goal.take-requires
take-requires c =
    let n = c.args.id.number in
    kept-of (n, c.in-Some.grants.now) (found-kept n c.args.documents.now.entries c.in-Some.grants.now c.requires.each (sym c.in-Some.ensures.value))

pub returns-then-is_empty-clause-kept : goal.returns-then-is_empty-clause-kept
returns-then-is_empty-clause-kept c =
    let n = c.args.id.number in
    let es = c.args.documents.now.entries in
    let w = c.take.new.grants in
    record {
      order = c.remove.ensures.ordered;
      each = ap (list_all is_kept) (c.remove.ensures.entries ∙ (ap (remove_entry (is_at (nat_cmp n))) (c.get_mut.follows.holds w).0 ∙ gone-after-set n es w))
          ∙ gone-kept n es c.requires.each;
    }

pub returns-then-is_empty-clause-left : goal.returns-then-is_empty-clause-left
returns-then-is_empty-clause-left c =
    let n = c.args.id.number in
    let es = c.args.documents.now.entries in
    let w = c.take.new.grants in
    let empty : (length w.items == 0) ≡ true = ap (λ (gs : List Grant). length gs == 0) (sym c.as_slice.ensures.value) ∙ (sym c.is_empty.ensures ∙ c.if-is_empty.true) in
    ap all_grants (c.remove.ensures.entries ∙ (ap (remove_entry (is_at (nat_cmp n))) (c.get_mut.follows.holds w).0 ∙ gone-after-set n es w))
    ∙ left-gone c.args.app.now n c.args.rights es c.requires.order c.requires.each c.in-Some.grants.now (sym c.in-Some.ensures.value) (sym c.take.ensures ∙ empty-is w.items empty)

pub returns-else-is_empty-clause-kept : goal.returns-else-is_empty-clause-kept
returns-else-is_empty-clause-kept c =
    let n = c.args.id.number in
    let es = c.args.documents.now.entries in
    let w = c.take.new.grants in
    let filled : (length w.items == 0) ≡ false = ap (λ (gs : List Grant). length gs == 0) (sym c.as_slice.ensures.value) ∙ (sym c.is_empty.ensures ∙ c.if-is_empty.false) in
    let was : is_kept (n, c.in-Some.grants.now) ≡ true = found-kept n es c.in-Some.grants.now c.requires.each (sym c.in-Some.ensures.value) in
    record {
      order = (c.get_mut.follows.holds w).4;
      each = ap (list_all is_kept) (c.get_mut.follows.holds w).0
          ∙ set-kept n es w c.requires.each (entry-left n c.args.app.now c.args.rights c.in-Some.grants.now w was c.take.ensures (filled-is w.items filled));
    }

pub returns-else-is_empty-clause-left : goal.returns-else-is_empty-clause-left
returns-else-is_empty-clause-left c =
    ap all_grants (c.get_mut.follows.holds c.take.new.grants).0
    ∙ left-all c.args.app.now c.args.id.number c.args.rights c.args.documents.now.entries c.requires.order c.requires.each c.in-Some.grants.now c.take.new.grants (sym c.in-Some.ensures.value) c.take.ensures
