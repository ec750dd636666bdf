use Rattle.std.proofs.Common.{◌≡◌, List, ℕ, IfOk, map, refl, subst}
use Rattle.std.specs.Borrow.{Bor}
use Rattle.std.specs.Prelude.{codes}
use Rattle.clap.specs.Matches.{found_of}
use Rattle.clap.specs.Walk.{rows_of}
use Rattle.serve_words.specs.Form.{values_in}
use Rattle.serve_words.specs.Words.{AreNamed, TellsFault}
use Rattle.serve_words.proofs.Finding.{strs_found}
use Rattle.serve_words.proofs.words.apps_of.Goals as goal

pub returns-clause-given : goal.returns-clause-given
returns-clause-given c =
    let values : map (λ (name : Bor (List ℕ)). name.now) c.unwrap_or.result.now ≡ values_in (rows_of (found_of c.args.matches.now)) (codes "app") =
    strs_found (found_of c.args.matches.now) (codes "app") c.get_strs.result _ c.unwrap_or.result c.unwrap_or.ensures refl c.get_strs.ensures in
    subst (λ (v : List (List ℕ)). IfOk c.apps_named.result (λ apps. (apps ≡ v) × AreNamed apps)) values c.apps_named.ensures.given

pub returns-clause-faulty : goal.returns-clause-faulty
returns-clause-faulty c =
    let values : map (λ (name : Bor (List ℕ)). name.now) c.unwrap_or.result.now ≡ values_in (rows_of (found_of c.args.matches.now)) (codes "app") =
    strs_found (found_of c.args.matches.now) (codes "app") c.get_strs.result _ c.unwrap_or.result c.unwrap_or.ensures refl c.get_strs.ensures in
    subst (λ (v : List (List ℕ)). TellsFault c.apps_named.result → AreNamed v → ⊥) values c.apps_named.ensures.faulty
