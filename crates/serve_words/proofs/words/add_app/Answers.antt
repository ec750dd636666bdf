use Rattle.std.proofs.Common.{rules, ◌≡◌, ◌≢◌, ◌∙◌, ℕ, true, false, List, [], ◌∷◌, ◌++◌, length, sym, ap, subst}
use Rattle.std.specs.List.{list_any}
use Rattle.portal_base.specs.Names.{is_same}
use Rattle.serve_words.specs.Words.{AreNamed}
use Rattle.serve_words.proofs.Apps.{not_twice, one_more_are}
use Rattle.serve_words.proofs.words.add_app.Goals as goal

pub returns-then-is_named-clause-faulty : goal.returns-then-is_named-clause-faulty
returns-then-is_named-clause-faulty c = λ told named.
    let among : list_any (is_same c.in_ok-app.app) c.args.apps.now ≡ true = search rules in
    not_twice c.args.apps.now c.args.name.now (subst (λ (a : List ℕ). list_any (is_same a) c.args.apps.now ≡ true) c.in_ok-app.ensures.named.0 among) named

pub returns-clause-named : goal.returns-clause-named
returns-clause-named c =
    let room : length c.args.apps.now ≢ 64 = search rules in
    let absent : list_any (is_same c.in_ok-app.app) c.args.apps.now ≡ false = search rules in
    let pushed : c.push.new.self ≡ c.args.apps.now ++ c.in_ok-app.app ∷ [] = search rules in
    let is = c.in_ok-app.ensures.named in
    let same : c.push.new.self ≡ c.args.apps.now ++ c.args.name.now ∷ [] = pushed ∙ ap (λ (a : List ℕ). c.args.apps.now ++ a ∷ []) is.0 in (
      same,
      subst AreNamed (sym same) (one_more_are c.args.apps.now c.args.name.now c.requires is.1 room (subst (λ (a : List ℕ). list_any (is_same a) c.args.apps.now ≡ false) is.0 absent)),
    )
