use Rattle.std.proofs.Common.{◌≡◌, ℕ, List, refl, sym, ap, subst, ◌∙◌, Result, Ok, Err, is_err, OnErr, true}
use Rattle.portal_base.specs.Content.{IsTree}
use Rattle.file_generations.specs.Generations.{Held, held_with, put_present}
use Rattle.portal_base.specs.declared.files.File.{File}
use Rattle.host_tree.specs.Beside.{AreBeside}
use Rattle.host_tree.specs.Trees.{file_with, without}
use Rattle.host_tree.proofs.Entries.{put-is-new, put-and-without}
use Rattle.host_tree.proofs.in_memory.add_to_both.Goals as goal

err-is : {A E : Type 0} (r : Result A E) (P : Type 0) → is_err r ≡ true → OnErr r P → P
err-is (Ok u) P e p = absurd (cc)
err-is (Err x) P e p = p

-- what was put and taken out again leaves what there was
put-back : (file : File) (path : List ℕ) (old new : Held) → new ≡ put_present file old → file.path ≡ path → without file.path (put_present file old).present ≡ old.present → held_with (without path new.present) new.hidden ≡ old
put-back file path old new put at back =
    ap (λ (h : Held). held_with (without path h.present) h.hidden) put
    ∙ ((λ i. held_with (without (sym at i) (put_present file old).present) old.hidden) ∙ ap (λ (fs : List File). held_with fs old.hidden) back)

pub take_back-requires-clause-tree : goal.take_back-requires-clause-tree
take_back-requires-clause-tree c =
    let file = file_with c.args.path c.args.content c.args.moment in
    let put : c.add.new.self ≡ put_present file c.args.began.now =
    c.in_ok-add.ensures.ok ∙ (λ i. put_present (file_with (c.in_ok-first_path.ensures i) (c.in_ok-first_content.ensures i) c.args.moment) c.args.began.now) in
    let back = put-back file c.args.path c.args.began.now c.add.new.self put refl
    (put-and-without file c.args.began.now.present (put-is-new file c.args.began.now.present c.requires.began.in_order)) in
    subst (λ (h : Held). IsTree h.present) (sym back) c.known.ensures.tree

pub take_back-requires-clause-held : goal.take_back-requires-clause-held
take_back-requires-clause-held c =
    let file = file_with c.args.path c.args.content c.args.moment in
    let put : c.add.new.self ≡ put_present file c.args.began.now =
    c.in_ok-add.ensures.ok ∙ (λ i. put_present (file_with (c.in_ok-first_path.ensures i) (c.in_ok-first_content.ensures i) c.args.moment) c.args.began.now) in
    let back = put-back file c.args.path c.args.began.now c.add.new.self put refl
    (put-and-without file c.args.began.now.present (put-is-new file c.args.began.now.present c.requires.began.in_order)) in
    subst (λ (h : Held). AreBeside h.present h.hidden) (sym back) c.known.ensures.held

pub returns-then-is_err-clause-err : goal.returns-then-is_err-clause-err
returns-then-is_err-clause-err c =
    let file = file_with c.args.path c.args.content c.args.moment in
    let put : c.add.new.self ≡ put_present file c.args.began.now =
    c.in_ok-add.ensures.ok ∙ (λ i. put_present (file_with (c.in_ok-first_path.ensures i) (c.in_ok-first_content.ensures i) c.args.moment) c.args.began.now) in
    let back = put-back file c.args.path c.args.began.now c.add.new.self put refl
    (put-and-without file c.args.began.now.present (put-is-new file c.args.began.now.present c.requires.began.in_order)) in (
      c.take_back.ensures ∙ back,
      err-is c.add-2.result (c.add-2.new.self ≡ c.args.files.now) (sym c.is_err.ensures.value ∙ c.if-is_err.true) c.add-2.ensures.err,
    )
