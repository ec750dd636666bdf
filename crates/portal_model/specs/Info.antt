-- Info: the path of a document, and the rights of each application in it. The host alone may ask.
use Rattle.std.specs.Prelude.{ℕ, ◌==◌, List, map, Option, Some, None}
use Rattle.std.specs.List.{filter}
use Rattle.portal_base.specs.declared.who.Who.{Who}
use Rattle.rights_rule.specs.Rights.{names_of}
use Rattle.portal_model.specs.declared.records.Row.{Row}
use Rattle.portal_model.specs.declared.reply.Answer.{Answer}
use Rattle.portal_model.specs.declared.reply.Code.TheVariants as Code
use Rattle.portal_model.specs.declared.state.Document.{Document}
use Rattle.portal_model.specs.declared.state.Triple.{Triple}
use Rattle.portal_model.specs.Arguments.{document_named}
use Rattle.portal_model.specs.Ordered.{bytes_less, put_all}
use Rattle.portal_model.specs.State.{State, held_of}
use Rattle.portal_model.specs.Verdict.{Verdict, Refuses, does}

-- the applications that have a right in a document, in byte order of their names
abbrev pub holders : List Triple → ℕ → List (List ℕ)
holders rights number =
    put_all bytes_less (map (λ t. t.app) (filter (λ t. t.id.number == number) rights))

abbrev pub row_of : List Triple → ℕ → List ℕ → Row
row_of rights number app = record { app = app; names = names_of (held_of rights app number) }

abbrev pub info_of : State → Option Document → Verdict
info_of s None = Refuses Code.NotFound
info_of s (Some d) =
    does s (Answer.Info d.path (map (row_of s.rights d.id.number) (holders s.rights d.id.number)))

abbrev pub info : State → Who → List ℕ → Verdict
info s (Who.App app) doc = Refuses Code.NotAllowed
info s Who.Host doc = info_of s (document_named s.documents doc)
