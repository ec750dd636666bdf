-- The open mount of a seat.
use Rattle.std.proofs.Common.{◌≡◌, ℕ, ◌==◌, List, Bool, true, false, cond, Option, Some, None, sym, ap, ◌∙◌}
use Rattle.portal_model.specs.declared.state.Connection.{Connection}
use Rattle.portal_model.specs.State.{connection_of, is_mount}
use Rattle.portal_model.specs.Step.{mount_of}
use Rattle.portal_model.proofs.ListLookups.{found_passes, nat_is}

-- it is the open connection of the seat, and has its number
pub mount-seat : (cs : List Connection) (n : ℕ) (o : Option Connection) → connection_of cs n ≡ o → (c : Connection) → mount_of o ≡ Some c → (c.seat ≡ n) × (o ≡ Some c)
mount-seat cs n None e c m = cc
mount-seat cs n (Some d) e c m = by_kind (is_mount d.kind) m
  where
    by_kind : (b : Bool) → cond b (Some d) None ≡ Some c → (c.seat ≡ n) × (Some d ≡ Some c)
    by_kind true k = (let same : d ≡ c = cc in ap (λ (x : Connection). x.seat) (sym same) ∙ nat_is d.seat n (found_passes (λ (x : Connection). x.seat == n) cs d e), k)
    by_kind false k = cc
