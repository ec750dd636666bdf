use Rattle.std.proofs.Common.{sym, subst, Option}
use Rattle.std.specs.Prelude.{IfSome}
use Rattle.portal_model.specs.declared.store.TableEntry.{TableEntry}
use Rattle.permission_table.specs.Tables.{AreEntries, IsFormer}
use Rattle.permission_table.proofs.KeptEntries.{kept-restored, kept-without}
use Rattle.permission_table.proofs.tables.Tables.put_back.Goals as goal

pub invariant_of-self : goal.invariant_of-self
invariant_of-self c =
    let table = c.args.table.now in
    let id = c.args.id.now in
    let former = c.in-Some.former in
    let held : IsFormer table id former = subst (λ (o : Option TableEntry). IfSome o (IsFormer table id)) c.in-Some.is c.requires in
    subst AreEntries (sym c.restore.ensures) (kept-restored table id former c.self.inside.entries held c.self.invariant)

pub invariant_of-self-in-None : goal.invariant_of-self-in-None
invariant_of-self-in-None c =
    subst AreEntries (sym c.take.ensures.rest) (kept-without c.args.table.now c.args.id.now c.self.inside.entries c.self.invariant)

pub invariant_of-self-in-None-2 : goal.invariant_of-self-in-None-2
invariant_of-self-in-None-2 c =
    subst AreEntries (sym c.take.ensures.rest) (kept-without c.args.table.now c.args.id.now c.self.inside.entries c.self.invariant)

pub take-requires : goal.take-requires
take-requires c = c.self.invariant.differ
