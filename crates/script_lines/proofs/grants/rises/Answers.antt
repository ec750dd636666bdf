use Rattle.std.proofs.Common.{◌≡◌, sym, ◌∙◌, ap, refl, List, ℕ, map, Less, nat_cmp}
use Rattle.std.specs.Cmp.Lexicographic.{slice_cmp}
use Rattle.portal_model.specs.declared.records.GrantRecord.{GrantRecord}
use Rattle.script_lines.proofs.GrantFacts.{rising_push, rising_last, names_push}
use Rattle.script_lines.proofs.grants.rises.Goals as goal

pub returns-in-Less : goal.returns-in-Less
returns-in-Less c = λ rising.
    let front = c.in-Some.field-0-1.now in
    let last = c.in-Some.last.now in
    let names = ap (map (λ (grant : GrantRecord). grant.app)) c.in-Some.ensures.cases.0 ∙ names_push front last in
    let less : slice_cmp nat_cmp last.app c.args.name.now ≡ Less = ap (λ (name : List ℕ). slice_cmp nat_cmp name c.args.name.now) (sym c.as_slice.ensures) ∙ sym c.in-Less.ensures in (
      λ _. rw names (rising_push (map (λ (grant : GrantRecord). grant.app) front) last.app c.args.name.now (rw names at rising) less),
      λ _. refl,
    )

pub returns-in_default : goal.returns-in_default
returns-in_default c = λ rising.
    let front = c.in-Some.field-0-1.now in
    let last = c.in-Some.last.now in
    let names = ap (map (λ (grant : GrantRecord). grant.app)) c.in-Some.ensures.cases.0 ∙ names_push front last in (
      λ no. cc no,
      λ longer. absurd (c.in_default.not-Less (c.cmp.ensures
          ∙ ap (λ (name : List ℕ). slice_cmp nat_cmp name c.args.name.now) c.as_slice.ensures
          ∙ rising_last (map (λ (grant : GrantRecord). grant.app) front) last.app c.args.name.now (rw names at longer))),
    )
