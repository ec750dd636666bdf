use Rattle.std.proofs.Common.{◌≡◌, refl, sym, ap, ◌∙◌, false, None, Some, Option, List}
use Rattle.std.specs.Option.{is_some}
use Rattle.portal_base.specs.Content.{file_at}
use Rattle.portal_base.specs.declared.files.File.{File}
use Rattle.host_tree.specs.Stored.{file_of}
use Rattle.host_tree.specs.Trees.{new_file}
use Rattle.host_tree.proofs.Entries.{same-itself}
use Rattle.host_tree.proofs.HeldChanges.{may-create}
use Rattle.host_tree.proofs.HeldTurned.{has-put-file, has-replaced, turned-new, turned-over}
use Rattle.host_tree.proofs.held.turn_hidden.Goals as goal

none-is : (o : Option File) → is_some o ≡ false → o ≡ None
none-is None e = refl
none-is (Some f) e = absurd (cc)

pub insert_new-requires : goal.insert_new-requires
insert_new-requires c = may-create c.args.present.now c.args.name.now.path (sym c.has_file.ensures ∙ c.if-has_file.false) c.requires.place

pub replace-requires : goal.replace-requires
replace-requires c =
    let path = c.args.name.now.path in
    ap (λ (fs : List File). is_some (file_at fs path)) c.replace-former.ensures.rest
    ∙ (has-replaced path (file_of (path, c.blank.result)) c.args.present.now (same-itself path) ∙ (sym c.has_file.ensures ∙ c.if-has_file.true))

pub returns-then-has_file-clause-ok : goal.returns-then-has_file-clause-ok
returns-then-has_file-clause-ok c =
    turned-over c.args.name.now c.args.present.now c.args.hidden.now c.replace-former.new.self c.replace.new.self c.exchange-stored.new.self c.replace-former.result c.exchange-stored.result c.requires.apart
    c.replace-former.ensures.given c.exchange-stored.ensures.given c.blank.result c.replace-former.ensures.rest c.exchange-stored.ensures.rest c.replace.ensures.rest

pub replace-requires-2 : goal.replace-requires-2
replace-requires-2 c =
    let path = c.args.name.now.path in
    ap (λ (fs : List File). is_some (file_at fs path)) c.in_ok-insert_new.ensures.ok ∙ has-put-file (new_file path 0) c.args.present.now

pub returns-clause-ok : goal.returns-clause-ok
returns-clause-ok c =
    let path = c.args.name.now.path in
    turned-new c.args.name.now c.args.present.now c.args.hidden.now c.insert_new.new.self c.replace-2.new.self c.take-stored.new.self (new_file path 0) c.take-stored.result c.requires.apart
    (none-is (file_at c.args.present.now path) (sym c.has_file.ensures ∙ c.if-has_file.false)) c.take-stored.ensures.given refl
    c.in_ok-insert_new.ensures.ok c.take-stored.ensures.rest c.replace-2.ensures.rest
