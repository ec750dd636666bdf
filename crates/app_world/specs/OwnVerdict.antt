-- What a request of an application comes to in its view, ahead of the limits that all applications
-- share and of the keeper of the records.
use Rattle.std.specs.Prelude.{ℕ, List, Bool, Option, None, cond}
use Rattle.portal_base.specs.Names.{is_doc_id, hex_number}
use Rattle.portal_model.specs.declared.reply.Answer.{Answer}
use Rattle.portal_model.specs.declared.reply.Code.{Code}
use Rattle.app_world.specs.View.{AppView, HeldDocument, found_document}

pub data OwnVerdict : Type 0 where
  OwnRefuses : Code → OwnVerdict
  -- the view after, and the answer
  OwnDoes : AppView → Answer → OwnVerdict

-- checks, in their order
abbrev pub own_unless : Bool → Code → OwnVerdict → OwnVerdict
own_unless wrong code verdict = cond wrong (OwnRefuses code) verdict

-- the document of an identifier, where the application has a right in it; a text that is no
-- identifier names none
abbrev pub own_reached : AppView → List ℕ → Option HeldDocument
own_reached v doc = cond (is_doc_id doc) (found_document v.documents (hex_number doc)) None
