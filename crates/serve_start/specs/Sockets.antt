-- The sockets of a service: where each is, whose it is, and what its connections speak.
use Rattle.std.specs.Prelude.{◌≡◌, ℕ, List, [], ◌∷◌, ◌++◌, codes}
use Rattle.std.specs.List.{flat_map}
use Rattle.portal_base.specs.declared.who.Who.{Who}
use Rattle.portal_base.specs.declared.who.Who.TheVariants.{Host, App}
use Rattle.portal_base.specs.declared.who.Kind.{Kind}
use Rattle.portal_base.specs.declared.who.Kind.TheVariants.{Bus, Mount}
use Rattle.serve_start.specs.declared.sockets.Socket.{Socket}

-- what the name of a caller's socket begins with: "host", or "app." and the application's name
abbrev pub who_name : Who → List ℕ
who_name Host = codes "host"
who_name (App app) = codes "app." ++ app

-- what the name of a socket ends with
abbrev pub kind_name : Kind → List ℕ
kind_name Bus = codes ".bus"
kind_name Mount = codes ".mount"

-- where the socket of a caller is, in the folder of the sockets
abbrev pub path_in : List ℕ → Who → Kind → List ℕ
path_in folder who kind = folder ++ (codes "/" ++ (who_name who ++ kind_name kind))

-- the socket of a caller
abbrev pub socket_in : List ℕ → Who → Kind → Socket
socket_in folder who kind = record { path = path_in folder who kind; who = who; kind = kind }

-- the sockets of one caller
abbrev pub sockets_of_one : List ℕ → Who → List Socket
sockets_of_one folder who = socket_in folder who Bus ∷ socket_in folder who Mount ∷ []

-- those of a service: of the host, and then of the applications in order
abbrev pub sockets_in : List ℕ → List (List ℕ) → List Socket
sockets_in folder apps =
    sockets_of_one folder Host ++ flat_map (λ app. sockets_of_one folder (App app)) apps

-- of two sockets in one folder with one path, one caller has both, and both speak the same
abbrev pub PathsTell : Type 0
PathsTell = (folder : List ℕ) (w v : Who) (k l : Kind) → path_in folder w k ≡ path_in folder v l
    → (w ≡ v) × (k ≡ l)
