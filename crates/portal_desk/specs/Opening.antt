-- What a history begins in.
use Rattle.std.specs.Prelude.{◌≡◌, [], true}
use Rattle.std.specs.List.{list_all, IsDistinct}
use Rattle.portal_base.specs.Content.{IsTree}
use Rattle.portal_base.specs.Names.{is_same, is_app_name}
use Rattle.portal_model.specs.Rows.{are_rows}
use Rattle.portal_model.specs.State.{State}
use Rattle.portal_model.specs.Valid.{is_made, is_numbered}

-- In an opening state no connection and no handle is open. The made numbers hold those of its
-- documents. Its applications are names, none twice, and hold each that has a right. Each entry of
-- the permission store has its rows in order, and where files are told they are those of a tree.
pub record IsOpeningState (s : State) : Type 0 where
  pub connections : s.connections ≡ []
  pub handles : s.handles ≡ []
  pub made : list_all (λ d. is_made s.made d.id.number) s.documents ≡ true
  pub names : list_all is_app_name s.applications ≡ true
  pub applications_differ : IsDistinct is_same s.applications
  pub numbered : list_all (λ t. is_numbered s.applications t.app) s.rights ≡ true
  pub rows : list_all (λ e. are_rows e.rows) s.entries ≡ true
  pub files : s.told ≡ true → IsTree s.files
