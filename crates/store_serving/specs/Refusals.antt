-- Why a call of the permission store is refused ahead of its tables. That the host alone may call,
-- which texts and data are taken, and that the table `documents` is the portal's own, are this
-- project's own.
use Rattle.std.specs.Prelude.{not, Option, Some, None, cond}
use Rattle.portal_base.specs.Names.{is_same}
use Rattle.portal_base.specs.declared.who.Who.{Who}
use Rattle.portal_model.specs.declared.reply.Code.{Code}
use Rattle.portal_model.specs.declared.store.StoreCall.{StoreCall}
use Rattle.portal_model.specs.StoreRequest.{are_store_arguments, own_table, table_of}

abbrev pub refusal_of : Who → StoreCall → Option Code
refusal_of (Who.App app) call = Some Code.AccessDenied
refusal_of Who.Host call =
    cond (not (are_store_arguments call)) (Some Code.InvalidArgument)
    (cond (is_same (table_of call) own_table) (Some Code.NotAllowed) None)
