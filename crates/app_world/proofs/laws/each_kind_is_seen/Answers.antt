use Rattle.app_world.proofs.KindLaws.{additions, collects, deletions, enters, grants, informations, leaves, listings, lookups, node_requests, presentations, revocations, store_calls}
use Rattle.app_world.proofs.laws.each_kind_is_seen.Goals as goal

pub returns : goal.returns
returns c = record {
  enters = enters;
  leaves = leaves;
  collects = collects;
  presentations = presentations;
  additions = additions;
  grants = grants;
  revocations = revocations;
  deletions = deletions;
  lookups = lookups;
  informations = informations;
  listings = listings;
  store_calls = store_calls;
  node_requests = node_requests;
}
