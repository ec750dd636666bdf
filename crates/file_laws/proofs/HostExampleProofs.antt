-- The worked example of the host's views, by computation.
use Rattle.std.proofs.Common.{refl}
use Rattle.portal_base.specs.Names.{doc_text, hex_number, is_app_name, is_doc_id}
use Rattle.file_laws.specs.HostExamples.{HostSeesByRights}

pub by_rights : HostSeesByRights
unfolding is_doc_id hex_number is_app_name doc_text
by_rights = record { place = refl; node = refl; root = refl; reads = refl; writes = refl; own_view = refl; not_own = refl; no_such_view = refl }
