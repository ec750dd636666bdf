-- The two laws of each kind of request: of an entry that the application makes, and of one that it does not.
use Rattle.std.proofs.Common.{◌≡◌, ℕ, List, [], Bool, true, false, cond, refl, ap, ◌∙◌}
use Rattle.portal_base.specs.declared.who.Kind.{Kind}
use Rattle.portal_base.specs.declared.who.Who.{Who}
use Rattle.portal_model.specs.declared.reply.Answer.{Answer}
use Rattle.portal_model.specs.declared.request.AddRequest.{AddRequest}
use Rattle.portal_model.specs.declared.request.NodeRequest.{NodeRequest}
use Rattle.portal_model.specs.declared.request.Request.{Request}
use Rattle.portal_model.specs.declared.request.RightsCall.{RightsCall}
use Rattle.portal_model.specs.declared.store.StoreCall.{StoreCall}
use Rattle.portal_model.specs.State.{connection_of}
use Rattle.portal_model.specs.Step.{bus_of, with_signals}
use Rattle.app_world.specs.Effect.{apply_all}
use Rattle.app_world.specs.Laws.{SeenAlways, SeenLawful}
use Rattle.app_world.specs.View.{AppView, view}
use Rattle.app_world.proofs.AskedLaws.{bus_other, bus_own, node_other, node_own}
use Rattle.app_world.proofs.CollectLaws.{collect_other, collect_own}
use Rattle.app_world.proofs.EnterLaws.{enter_other, enter_own}
use Rattle.app_world.proofs.LeaveLaws.{leave_other, leave_own}

nothing-touched : (v : AppView) (b : Bool) → apply_all v (cond b [] []) ≡ v
nothing-touched v true = refl
nothing-touched v false = refl

-- ---- connections

pub enters : SeenAlways {X = Who × Kind} (λ x. Request.Enter x.0 x.1)
enters = record {
  own = λ app s seat x given v m. ap (λ (done : AppView × Answer). with_signals [] done) (enter_own app s seat x.0 x.1 v m);
  other = λ app s seat x given v m. nothing-touched (view s app) _ ∙ enter_other app s seat x.0 x.1 m;
}

pub leaves : SeenAlways {X = Unit {0}} (λ x. Request.Leave)
leaves = record {
  own = λ app s seat x given v m. ap (λ (done : AppView × Answer). with_signals [] done) (leave_own app s seat m);
  other = λ app s seat x given v m. nothing-touched (view s app) _ ∙ leave_other app s seat v m;
}

pub collects : SeenAlways {X = Unit {0}} (λ x. Request.Collect)
collects = record {
  own = λ app s seat x given v m. collect_own app s seat v (connection_of s.connections seat) refl m;
  other = λ app s seat x given v m. nothing-touched (view s app) _ ∙ collect_other app s (bus_of (connection_of s.connections seat));
}

-- ---- documents

pub presentations : SeenAlways {X = List ℕ} (λ x. Request.Present x)
presentations = record {
  own = λ app s seat x given v m. bus_own app s seat (Request.Present x) given v (connection_of s.connections seat) refl refl m tt tt;
  other = λ app s seat x given v m. bus_other app s seat (Request.Present x) given v (connection_of s.connections seat) refl m tt;
}

pub grants : SeenAlways {X = RightsCall} (λ x. Request.Grant x)
grants = record {
  own = λ app s seat x given v m. bus_own app s seat (Request.Grant x) given v (connection_of s.connections seat) refl refl m tt tt;
  other = λ app s seat x given v m. bus_other app s seat (Request.Grant x) given v (connection_of s.connections seat) refl m tt;
}

pub revocations : SeenAlways {X = RightsCall} (λ x. Request.Revoke x)
revocations = record {
  own = λ app s seat x given v m. bus_own app s seat (Request.Revoke x) given v (connection_of s.connections seat) refl refl m tt tt;
  other = λ app s seat x given v m. bus_other app s seat (Request.Revoke x) given v (connection_of s.connections seat) refl m tt;
}

pub deletions : SeenAlways {X = List ℕ} (λ x. Request.DeleteDocument x)
deletions = record {
  own = λ app s seat x given v m. bus_own app s seat (Request.DeleteDocument x) given v (connection_of s.connections seat) refl refl m tt tt;
  other = λ app s seat x given v m. bus_other app s seat (Request.DeleteDocument x) given v (connection_of s.connections seat) refl m tt;
}

pub lookups : SeenAlways {X = List ℕ} (λ x. Request.LookupDocument x)
lookups = record {
  own = λ app s seat x given v m. bus_own app s seat (Request.LookupDocument x) given v (connection_of s.connections seat) refl refl m tt tt;
  other = λ app s seat x given v m. bus_other app s seat (Request.LookupDocument x) given v (connection_of s.connections seat) refl m tt;
}

pub informations : SeenAlways {X = List ℕ} (λ x. Request.Info x)
informations = record {
  own = λ app s seat x given v m. bus_own app s seat (Request.Info x) given v (connection_of s.connections seat) refl refl m tt tt;
  other = λ app s seat x given v m. bus_other app s seat (Request.Info x) given v (connection_of s.connections seat) refl m tt;
}

pub listings : SeenAlways {X = List ℕ} (λ x. Request.ListDocuments x)
listings = record {
  own = λ app s seat x given v m. bus_own app s seat (Request.ListDocuments x) given v (connection_of s.connections seat) refl refl m tt tt;
  other = λ app s seat x given v m. bus_other app s seat (Request.ListDocuments x) given v (connection_of s.connections seat) refl m tt;
}

pub store_calls : SeenAlways {X = StoreCall} (λ x. Request.Store x)
store_calls = record {
  own = λ app s seat x given v m. bus_own app s seat (Request.Store x) given v (connection_of s.connections seat) refl refl m tt tt;
  other = λ app s seat x given v m. bus_other app s seat (Request.Store x) given v (connection_of s.connections seat) refl m tt;
}

pub additions : SeenLawful {X = AddRequest} (λ x. Request.Add x)
additions = record {
  own = λ app s seat x given t v l m. bus_own app s seat (Request.Add x) given v (connection_of s.connections seat) refl refl m t l.given;
  other = λ app s seat x given v l m. bus_other app s seat (Request.Add x) given v (connection_of s.connections seat) refl m l.given;
}

-- ---- nodes

pub node_requests : SeenLawful {X = NodeRequest} (λ x. Request.Node x)
node_requests = record {
  own = λ app s seat x given t v l m. node_own app s seat x given v (connection_of s.connections seat) refl m t l.given;
  other = λ app s seat x given v l m. node_other app s seat x given v (connection_of s.connections seat) refl m l.given;
}
