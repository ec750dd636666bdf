-- What a caller sees at a node, as it is told.
use Rattle.std.specs.Prelude.{ℕ, ◌&&◌, List, Bool, false, Option, is_some, option_copied, true}
use Rattle.portal_base.specs.declared.who.Who.{Who}
use Rattle.portal_model.specs.declared.naming.Naming.{Naming}
use Rattle.portal_model.specs.declared.rights.Right.TheVariants.{Read}
use Rattle.portal_model.specs.declared.state.Document.{Document}
use Rattle.portal_model.specs.declared.state.Triple.{Triple}
use Rattle.portal_model.specs.declared.temporary.Temp.{Temp}
use Rattle.portal_model.specs.State.{State, document_of, who_has}
use Rattle.portal_model.specs.Place.{RootOf, Sight, SightOfFile, SightOfFolder, Views, has_views, numbers_seen, place_of}
use Rattle.app_view.specs.Books.{who_is}
use Rattle.app_view.specs.Sights.{below_sight, folder_sight, temp_sight}
use Rattle.app_view.specs.declared.book.ViewBook.{ViewBook}
use Rattle.node_looks.specs.declared.served.ByNumber.{ByNumber}
use Rattle.node_looks.specs.declared.sight.SeenPlace.{SeenPlace}

-- what the connection that asks has by the number in a node
abbrev pub naming_by : ByNumber → Option Naming
naming_by own = option_copied own.naming

abbrev pub temp_by : ByNumber → Option Temp
temp_by own = option_copied own.temp

-- what a caller sees at a node, by what its connection has there
abbrev pub node_seen : State → Who → ByNumber → ℕ → Option Sight
node_seen s who own node = place_of s who (naming_by own) (temp_by own) node

-- the sight of the model, over the lists of a book
abbrev pub sight_of : ViewBook → Who → SeenPlace → Sight
sight_of book caller (SeenPlace.File view seen) = SightOfFile seen.document.now seen.may_write
sight_of book caller (SeenPlace.Below view below) = below_sight view below
sight_of book caller (SeenPlace.Temporary view temp) = temp_sight temp
sight_of book caller (SeenPlace.Folder view seen) = folder_sight view seen
sight_of book caller (SeenPlace.Root view subject) =
    SightOfFolder (RootOf view
    (numbers_seen book.grants.now (who_is subject) book.documents.now.live)
    (has_views caller view))
sight_of book caller SeenPlace.Views = SightOfFolder (Views book.applications.now)

-- the view that it is seen in
abbrev pub view_of : SeenPlace → ℕ
view_of (SeenPlace.File view seen) = view
view_of (SeenPlace.Below view below) = view
view_of (SeenPlace.Temporary view temp) = view
view_of (SeenPlace.Folder view seen) = view
view_of (SeenPlace.Root view subject) = view
view_of SeenPlace.Views = 0

-- whether a file or a folder is there only a look tells
abbrev pub is_below : SeenPlace → Bool
is_below (SeenPlace.File view seen) = false
is_below (SeenPlace.Below view below) = true
is_below (SeenPlace.Temporary view temp) = false
is_below (SeenPlace.Folder view seen) = false
is_below (SeenPlace.Root view subject) = false
is_below SeenPlace.Views = false

-- whether what the connection that asks has may tell what is there
abbrev pub is_own : SeenPlace → Bool
is_own (SeenPlace.File view seen) = false
is_own (SeenPlace.Below view below) = true
is_own (SeenPlace.Temporary view temp) = true
is_own (SeenPlace.Folder view seen) = false
is_own (SeenPlace.Root view subject) = false
is_own SeenPlace.Views = false

-- the document of the number is live, and a subject may read it
abbrev pub sees : List Triple → Who → List Document → ℕ → Bool
sees rights who documents number =
    is_some (document_of documents number) && who_has rights who number Read
