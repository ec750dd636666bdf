use Rattle.std.proofs.Common.{eqb, rules, tests}
use Rattle.std.proofs.lemmas.Iterator.{YieldsList-from_slice}
use Rattle.std.proofs.lemmas.Iterator.Consumers.{YieldsList-from_filter, count_from_yields_List}
use Rattle.dbus_message.specs.Fields.{field_code}
use Rattle.dbus_message.proofs.fields.count_of.Goals as goal

pub returns : goal.returns
returns c = count_from_yields_List _ _ c.count.ensures.ran (YieldsList-from_filter _ (λ f. eqb (field_code f) c.args.code) (YieldsList-from_slice c.args.fields.now cc) c.filter.ensures.closure (λ x b q k. search (rules, tests)))
