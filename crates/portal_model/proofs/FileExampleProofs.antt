-- The worked examples of requests on nodes, by computation.
use Rattle.std.proofs.Common.{refl}
use Rattle.portal_base.specs.Names.{doc_text, hex_number, is_app_name, is_doc_id, name_of, parent_of}
use Rattle.portal_model.specs.FileExamples.{Creating, HandlesOutlive, HostView, Listing, NumbersOfHandles, OlderHandles, Writing}

pub older : OlderHandles
unfolding is_doc_id hex_number is_app_name
older = record { opens = refl; reads = refl; again = refl }

pub outlive : HandlesOutlive
unfolding is_doc_id hex_number doc_text
outlive = record { writes = refl; looked_up = refl; reads = refl; releases = refl; again = refl }

pub writing : Writing
writing = record { behind = refl; past = refl; size = refl; nothing = refl; moment = refl }

pub listing : Listing
unfolding doc_text name_of
listing = record { opens = refl; root = refl; folder = refl }

pub numbers : NumbersOfHandles
numbers = record { first = refl; full = refl; other_seat = refl; released = refl }

pub creating : Creating
unfolding name_of parent_of
creating = record { creates = refl; again = refl; another_name = refl; to_write = refl; may_not_write = refl; may_read = refl }

pub host : HostView
unfolding doc_text
host = record { found = refl; not_found = refl; editor_found = refl; views = refl; of_application = refl }
