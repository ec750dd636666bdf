-- The lists of a state that the file view is answered from, and whose rights count in a view.
use Rattle.std.specs.Prelude.{◌≡◌, List, Option, Some, None, cond}
use Rattle.portal_base.specs.declared.who.Who.{Who}
use Rattle.portal_model.specs.declared.state.Document.{Document}
use Rattle.portal_model.specs.declared.state.Triple.{Triple}
use Rattle.portal_model.specs.Place.{may_read}
use Rattle.portal_model.specs.State.{State}
use Rattle.app_view.specs.declared.book.Subject.{Subject}
use Rattle.app_view.specs.declared.book.ViewBook.{ViewBook}

-- the book lends these lists of the state
pub record Lends (book : ViewBook) (s : State) : Type 0 where
  pub documents : s.documents ≡ book.documents.now.live
  pub rights : s.rights ≡ book.grants.now
  pub applications : s.applications ≡ book.applications.now

-- the caller that a subject is
abbrev pub who_is : Subject → Who
who_is Subject.Host = Who.Host
who_is (Subject.App app) = Who.App app.now

-- a document, where it is live and this subject may read it
abbrev pub readable : List Triple → Who → Option Document → Option Document
readable rights who None = None
readable rights who (Some d) = cond (may_read rights who d) (Some d) None
