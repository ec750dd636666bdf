use Rattle.std.proofs.Common.{◌≤◌, ◌∙◌, [], ap, map, sym, List, length, refl, subst}
use Rattle.std.specs.List.{count_by}
use Rattle.add_files.specs.Items.{paths_of}
use Rattle.add_files.specs.Plans.{is_new}
use Rattle.add_files.specs.declared.plan.PlanItem.{PlanItem}
use Rattle.add_files.proofs.Adding.{Checks, call-is, items-paths, items-seen, joined-fails, joined-seen, list-seen, plan-is, refused-right}
use Rattle.add_files.proofs.add.plan_add.Goals as goal

pub returns-in-Err-clause-err : goal.returns-in-Err-clause-err
returns-in-Err-clause-err c = λ s d asked numbers.
    joined-fails s d c.args.add.now c.args.documents.now.live c.args.grants.now c.args.who.now c.args.paths.now c.requires asked numbers c.args.paths.now refl c.in-Err.error c.in-Err.ensures.err

pub returns-then-not-may_list-clause-err : goal.returns-then-not-may_list-clause-err
returns-then-not-may_list-clause-err c = λ s d asked numbers.
    let checks : Checks c.args.add.now c.args.paths.now = record {
      few = c.in_ok-few.ensures.ok;
      file = c.in_ok-file_name.ensures.ok;
      known = c.in_ok-rights.ensures.known;
      app = c.in_ok-app.ensures.known;
      joined = joined-seen c.args.add.now c.args.paths.now c.args.paths.now refl c.in_default.ensures.joined;
    } in
    let items = items-seen c.args.documents.now.live c.args.who.now c.args.add.now c.in_ok-app.app c.args.paths.now c.args.paths.now c.plan_files.new.items c.in_ok-app.ensures.ok refl c.in_default.ensures.ok in
    refused-right s d c.args.add.now c.args.documents.now.live c.args.grants.now c.args.who.now c.args.paths.now asked c.requires checks
    (list-seen c.args.grants.now c.args.who.now c.args.add.now c.in_ok-app.app c.in_ok-rights.rights c.as_slice.result.now c.plan_files.new.items _ c.may_list.result c.in_ok-app.ensures.ok c.in_ok-rights.ensures.ok c.as_slice.ensures items c.may_list.ensures
    ∙ c.if-not-may_list.true)
    numbers

pub used-used-requires : goal.used-used-requires
used-used-requires c = subst (λ (l : List PlanItem). length l ≤ 16) (sym c.as_slice-2.ensures) c.in_default.ensures.count

pub returns-clause-few : goal.returns-clause-few
returns-clause-few c = c.in_ok-few.ensures.ok

pub returns-clause-call : goal.returns-clause-call
returns-clause-call c =
    call-is c.args.documents.now.live c.args.who.now c.args.add.now (paths_of c.args.add.now c.args.paths.now c.args.add.now.handles) _
    (items-seen c.args.documents.now.live c.args.who.now c.args.add.now c.in_ok-app.app c.args.paths.now c.args.paths.now c.plan_files.new.items c.in_ok-app.ensures.ok refl c.in_default.ensures.ok)
    c.in_ok-app.ensures.ok c.in_ok-rights.ensures.ok
    (c.used-used.ensures ∙ ap (λ (l : List PlanItem). count_by (λ item. is_new item.place) l) c.as_slice-2.ensures)

pub returns-clause-ok : goal.returns-clause-ok
returns-clause-ok c = λ s d asked.
    let checks : Checks c.args.add.now c.args.paths.now = record {
      few = c.in_ok-few.ensures.ok;
      file = c.in_ok-file_name.ensures.ok;
      known = c.in_ok-rights.ensures.known;
      app = c.in_ok-app.ensures.known;
      joined = joined-seen c.args.add.now c.args.paths.now c.args.paths.now refl c.in_default.ensures.joined;
    } in
    let items = items-seen c.args.documents.now.live c.args.who.now c.args.add.now c.in_ok-app.app c.args.paths.now c.args.paths.now c.plan_files.new.items c.in_ok-app.ensures.ok refl c.in_default.ensures.ok in
    plan-is s d c.args.add.now c.args.documents.now.live c.args.grants.now c.args.who.now c.args.paths.now asked c.requires _ checks
    (list-seen c.args.grants.now c.args.who.now c.args.add.now c.in_ok-app.app c.in_ok-rights.rights c.as_slice.result.now c.plan_files.new.items _ c.may_list.result c.in_ok-app.ensures.ok c.in_ok-rights.ensures.ok c.as_slice.ensures items c.may_list.ensures
    ∙ c.if-not-may_list.false)
    items c.in_ok-app.ensures.ok c.in_ok-rights.ensures.ok

pub returns-clause-paths : goal.returns-clause-paths
returns-clause-paths c =
    ap (λ (l : List PlanItem). map (λ item. item.path) l)
    (items-seen c.args.documents.now.live c.args.who.now c.args.add.now c.in_ok-app.app c.args.paths.now c.args.paths.now c.plan_files.new.items c.in_ok-app.ensures.ok refl c.in_default.ensures.ok)
    ∙ items-paths c.args.documents.now.live c.args.who.now c.args.add.now _ (paths_of c.args.add.now c.args.paths.now c.args.add.now.handles) []
