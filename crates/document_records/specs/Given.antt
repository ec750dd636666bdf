-- The rights that the records of an opening state give.
use Rattle.std.specs.Prelude.{List, [], fold}
use Rattle.document_records.specs.Grants.{with_given}
use Rattle.document_records.specs.declared.grants.Grant.{Grant}
use Rattle.portal_model.specs.declared.state.Triple.{Triple}

-- the rights that grants give together
abbrev pub given_by : List Grant → List Triple
given_by grants = fold with_given [] grants
