use Rattle.std.proofs.Common.{[], ◌∷◌, refl}
use Rattle.serve_start.proofs.GuidBytes.{bytes_of_words}
use Rattle.serve_start.proofs.guid.guid_of.Goals as goal

pub returns : goal.returns
returns g c = (
  c.next.result ∷ c.next-2.result ∷ c.next-3.result ∷ c.next-4.result ∷ [],
  refl,
  (_, c.next.ensures, (_, c.next-2.ensures, (_, c.next-3.ensures, (_, c.next-4.ensures, refl)))),
  bytes_of_words c.next.result c.next-2.result c.next-3.result c.next-4.result c.to_be_bytes.result c.to_be_bytes-2.result c.to_be_bytes-3.result c.to_be_bytes-4.result c.to_be_bytes.ensures c.to_be_bytes-2.ensures c.to_be_bytes-3.ensures c.to_be_bytes-4.ensures,
)
