mod BrokenPaths
mod NamedLemmas
