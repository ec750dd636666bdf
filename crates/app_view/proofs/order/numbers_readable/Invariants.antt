use Rattle.std.proofs.Common.{◌≡◌, map, take}
use Rattle.std.specs.List.{filter}
use Rattle.portal_base.specs.declared.who.Who.{Who}
use Rattle.app_view.specs.Entries.{is_readable}
use Rattle.app_view.proofs.order.numbers_readable.Given as goal

-- the numbers so far that may be read
abbrev pub invariant-loop-id : goal.invariant-loop-id
invariant-loop-id l = l.numbers.items ≡ map (λ x. x.number) (filter
    (is_readable l.book.grants.now (Who.App l.app) l.book.documents.now.live)
    (take l.id-index l.id-items))
