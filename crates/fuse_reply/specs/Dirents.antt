-- The entries of a folder, as FUSE_READDIR tells them (include/uapi/linux/fuse.h).
use Rattle.std.specs.Prelude.{ℕ, ◌+◌, ◌-◌, ◌*◌, ◌/◌, nat_le, List, [], ◌∷◌, ◌++◌, length, drop, replicate, Bool, true, false, if◌then◌else◌}
use Rattle.fuse_reply.specs.declared.field.Field.{Field}
use Rattle.fuse_reply.specs.declared.field.Field.TheVariants.{Four, Eight}
use Rattle.fuse_reply.specs.Fields.{spelled}
use Rattle.portal_model.specs.declared.reply.DirName.{DirName}

-- DT_DIR and DT_REG of dirent.h
abbrev pub type_of : Bool → ℕ
type_of true = 4
type_of false = 8

-- FUSE_NAME_OFFSET: the length of struct fuse_dirent ahead of the name
abbrev pub name_offset : ℕ
name_offset = 24

-- FUSE_DIRENT_ALIGN: the next multiple of eight
abbrev pub aligned : ℕ → ℕ
aligned len = (len + 7) / 8 * 8

-- FUSE_DIRENT_SIZE, by the length of the name
abbrev pub dirent_size : ℕ → ℕ
dirent_size namelen = aligned (name_offset + namelen)

abbrev pub padding_of : ℕ → ℕ
padding_of namelen = dirent_size namelen - (name_offset + namelen)

-- struct fuse_dirent: ino, off, namelen, type; the name follows. From the place in off the folder
-- is read on, so it is that of the next entry.
abbrev pub fuse_dirent : DirName → ℕ → List Field
fuse_dirent entry off = Eight entry.node ∷ Eight off ∷ Four (length entry.name)
    ∷ Four (type_of entry.folder) ∷ []

-- an entry: the struct, the name, and zeros up to a multiple of eight
abbrev pub dirent : DirName → ℕ → List ℕ
dirent entry off = spelled (fuse_dirent entry off)
    ++ (entry.name ++ replicate (padding_of (length entry.name)) 0)

-- the longest front of entries, of which the first has this place, that fits into a size
abbrev pub fitting : List DirName → ℕ → ℕ → List ℕ
fitting [] place size = []
fitting (entry ∷ entries) place size =
    if nat_le (dirent_size (length entry.name)) size
    then dirent entry (place + 1)
    ++ fitting entries (place + 1) (size - dirent_size (length entry.name))
    else []

-- the whole entries from a place on that fit into a size
abbrev pub dirents : List DirName → ℕ → ℕ → List ℕ
dirents names offset size = fitting (drop offset names) offset size
