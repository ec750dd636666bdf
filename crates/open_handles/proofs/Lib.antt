mod OpenedLemmas
mod WithinLimit
