-- What a tree of files has at a path, and what a look at it shows.
pub use Rattle.portal_base.specs.Content.{Content, OfFile, OfFolder, NotThere, file_at, is_above, is_folder, content_of, has_room, content_at, look_of, look_at}
