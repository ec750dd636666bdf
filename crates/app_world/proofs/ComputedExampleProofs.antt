-- The worked examples of which code gives a part, by computation.
use lib.Utf8.{encode}
use Rattle.std.proofs.Common.{true, false, refl}
use Rattle.std.specs.Str.{is_utf8, chars}
use Rattle.portal_base.specs.Names.{is_host_path, is_app_name, child_of, own_folder, is_in_own_folder, is_doc_id, hex_number, doc_text, parent_of}
use Rattle.portal_model.specs.declared.reply.Code.{Code}
use Rattle.app_world.specs.ComputedExamples.{AreRefused, IsGivenByListing, IsGotByAdding, IsLeft, IsSeenInShared}
use Rattle.app_world.specs.Examples.{reads, writes}
use Rattle.rights_rule.specs.Rights.{no_rights}

pub refused_alike : AreRefused Code.NotFound
unfolding is_host_path is_app_name is_utf8 chars encode child_of own_folder is_in_own_folder is_doc_id hex_number doc_text parent_of
refused_alike = record { foreign = refl; missing = refl }

pub seen_in_shared : IsSeenInShared reads
seen_in_shared = refl

pub left : IsLeft writes
unfolding is_host_path is_app_name is_utf8 chars encode child_of own_folder is_in_own_folder is_doc_id hex_number doc_text parent_of
left = refl

pub got_with_reuse : IsGotByAdding true (record { read = true; write = true; grant_permissions = true; delete = false })
unfolding is_host_path is_app_name is_utf8 chars encode child_of own_folder is_in_own_folder is_doc_id hex_number doc_text parent_of
got_with_reuse = refl

pub got_alone : IsGotByAdding false (record { read = true; write = true; grant_permissions = true; delete = true })
unfolding is_host_path is_app_name is_utf8 chars encode child_of own_folder is_in_own_folder is_doc_id hex_number doc_text parent_of
got_alone = refl

pub given_by_listing : IsGivenByListing no_rights
unfolding is_host_path is_app_name is_utf8 chars encode child_of own_folder is_in_own_folder is_doc_id hex_number doc_text parent_of
given_by_listing = refl
