-- What is so of the numbered applications at any time.
use Rattle.std.specs.Prelude.{◌≡◌, ◌≤◌, ℕ, List, length, Option}
use Rattle.std.specs.BTreeMap.{BTreeMap, get_by}
use Rattle.std.specs.Cmp.Lexicographic.{slice_cmp}
use Rattle.std.specs.Global.{Vec}
use Rattle.std.specs.List.{IsDistinct}
use Rattle.std.specs.Ordering.{nat_cmp}
use Rattle.portal_base.specs.Names.{is_same}
use Rattle.portal_model.specs.Applications.{number_of}
use Rattle.portal_model.specs.Valid.{applications_limit}

-- there are few enough, and they differ
pub record AreNumbered (applications : List (List ℕ)) : Type 0 where
  pub few : length applications ≤ applications_limit
  pub differ : IsDistinct is_same applications

-- the number that a name is found with
abbrev pub number_found : BTreeMap (Vec ℕ) ℕ → List ℕ → Option ℕ
number_found numbers app = get_by (λ k. slice_cmp nat_cmp app k.items) numbers

pub record IsFoundByName (applications : List (List ℕ)) (numbers : BTreeMap (Vec ℕ) ℕ) : Type 0
  where
    pub numbered : AreNumbered applications
    -- each name is found with its number, and no other name is found
    pub found : (app : List ℕ) → number_found numbers app ≡ number_of applications app
