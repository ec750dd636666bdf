use Rattle.std.proofs.Common.{◌≡◌, List, Some, ap, refl, sym, ◌∙◌}
use Rattle.portal_model.specs.declared.request.Request.TheVariants as Request
use Rattle.portal_model.specs.declared.state.Connection.{Connection}
use Rattle.portal_model.specs.State.{connection_of}
use Rattle.portal_model.specs.Step.{bus_of}
use Rattle.portal_steps.proofs.Boxes.{same-queues}
use Rattle.portal_steps.proofs.ServedLists.{serves-book, serves-nowhere, serves-own, serves-path, serves-queue, serves-read}
use Rattle.portal_steps.proofs.documents.serve.Goals as goal

pub returns-in_default-clause-ok : goal.returns-in_default-clause-ok
returns-in_default-clause-ok g c =
    let cs : List Connection = c.args.connections.now in
    serves-nowhere c.args.documents.now c.args.rights.now c.args.applications.now cs c.args.queued (bus_of (connection_of cs c.args.seat)) c.args.request.now (g.K.Keeper.is c.args.keeper.now) c.answered.result
    (sym (c.in_default.ensures ∙ ap (λ (xs : List Connection). bus_of (connection_of xs c.args.seat)) c.as_slice.ensures)) c.answered.ensures

pub returns-in_default-clause-queues : goal.returns-in_default-clause-queues
returns-in_default-clause-queues g c = same-queues c.args.connections.now

pub returns-in-Present-clause-ok : goal.returns-in-Present-clause-ok
returns-in-Present-clause-ok g c =
    let cs : List Connection = c.args.connections.now in
    let here : bus_of (connection_of cs c.args.seat) ≡ Some c.in-Some.connection.now = sym (c.in-Some.ensures ∙ ap (λ (xs : List Connection). bus_of (connection_of xs c.args.seat)) c.as_slice.ensures) in
    rw (c.in-Present.is) (serves-queue c.args.documents.now c.args.rights.now c.args.applications.now cs c.args.queued (bus_of (connection_of cs c.args.seat)) c.in-Some.connection.now here
    c.present_on.result c.in-Present.path c.present_on.new.connections (g.K.Keeper.is c.args.keeper.now) (rw (c.as_slice-in-Present.ensures) at c.present_on.ensures.ok))

pub returns-in-Grant-clause-ok : goal.returns-in-Grant-clause-ok
returns-in-Grant-clause-ok g c =
    let cs : List Connection = c.args.connections.now in
    let here : bus_of (connection_of cs c.args.seat) ≡ Some c.in-Some.connection.now = sym (c.in-Some.ensures ∙ ap (λ (xs : List Connection). bus_of (connection_of xs c.args.seat)) c.as_slice.ensures) in
    rw (c.in-Grant.is) (serves-book c.args.documents.now c.args.rights.now c.args.applications.now cs c.args.queued (bus_of (connection_of cs c.args.seat)) c.in-Some.connection.now here c.in-Some.connection.now.who refl
    c.grant.result (Request.Grant c.in-Grant.call) c.args.documents.now c.grant.new.grants c.grant.new.applications (g.K.Keeper.is c.args.keeper.now) (g.K.Keeper.is c.grant.new.keeper) c.grant.ensures.ok)

pub returns-in-Grant-clause-queues : goal.returns-in-Grant-clause-queues
returns-in-Grant-clause-queues g c = same-queues c.args.connections.now

pub returns-in-Revoke-clause-ok : goal.returns-in-Revoke-clause-ok
returns-in-Revoke-clause-ok g c =
    let cs : List Connection = c.args.connections.now in
    let here : bus_of (connection_of cs c.args.seat) ≡ Some c.in-Some.connection.now = sym (c.in-Some.ensures ∙ ap (λ (xs : List Connection). bus_of (connection_of xs c.args.seat)) c.as_slice.ensures) in
    rw (c.in-Revoke.is) (serves-own c.args.documents.now c.args.rights.now c.args.applications.now cs c.args.queued (bus_of (connection_of cs c.args.seat)) c.in-Some.connection.now here c.in-Some.connection.now.who refl
    c.revoke.result (Request.Revoke c.in-Revoke.call) c.args.documents.now c.revoke.new.grants (g.K.Keeper.is c.args.keeper.now) (g.K.Keeper.is c.revoke.new.keeper) c.revoke.ensures.ok)

pub returns-in-Revoke-clause-queues : goal.returns-in-Revoke-clause-queues
returns-in-Revoke-clause-queues g c = same-queues c.args.connections.now

pub returns-in-DeleteDocument-clause-ok : goal.returns-in-DeleteDocument-clause-ok
returns-in-DeleteDocument-clause-ok g c =
    let cs : List Connection = c.args.connections.now in
    let here : bus_of (connection_of cs c.args.seat) ≡ Some c.in-Some.connection.now = sym (c.in-Some.ensures ∙ ap (λ (xs : List Connection). bus_of (connection_of xs c.args.seat)) c.as_slice.ensures) in
    rw (c.in-DeleteDocument.is) (serves-own c.args.documents.now c.args.rights.now c.args.applications.now cs c.args.queued (bus_of (connection_of cs c.args.seat)) c.in-Some.connection.now here c.in-Some.connection.now.who refl
    c.delete_document.result (Request.DeleteDocument c.in-DeleteDocument.doc) c.delete_document.new.documents c.delete_document.new.grants (g.K.Keeper.is c.args.keeper.now) (g.K.Keeper.is c.delete_document.new.keeper)
    (rw (c.as_slice-in-DeleteDocument.ensures) at c.delete_document.ensures.ok))

pub returns-in-DeleteDocument-clause-queues : goal.returns-in-DeleteDocument-clause-queues
returns-in-DeleteDocument-clause-queues g c = same-queues c.args.connections.now

pub returns-in-LookupDocument-clause-ok : goal.returns-in-LookupDocument-clause-ok
returns-in-LookupDocument-clause-ok g c =
    let cs : List Connection = c.args.connections.now in
    let here : bus_of (connection_of cs c.args.seat) ≡ Some c.in-Some.connection.now = sym (c.in-Some.ensures ∙ ap (λ (xs : List Connection). bus_of (connection_of xs c.args.seat)) c.as_slice.ensures) in
    rw (c.in-LookupDocument.is) (serves-path c.args.documents.now c.args.rights.now c.args.applications.now cs c.args.queued (bus_of (connection_of cs c.args.seat)) c.in-Some.connection.now here c.in-Some.connection.now.who refl
    c.lookup_document.result (Request.LookupDocument c.in-LookupDocument.path) (g.K.Keeper.is c.args.keeper.now) refl refl (rw (c.as_slice-in-LookupDocument.ensures) at c.lookup_document.ensures))

pub returns-in-LookupDocument-clause-queues : goal.returns-in-LookupDocument-clause-queues
returns-in-LookupDocument-clause-queues g c = same-queues c.args.connections.now

pub returns-in-Info-clause-ok : goal.returns-in-Info-clause-ok
returns-in-Info-clause-ok g c =
    let cs : List Connection = c.args.connections.now in
    let here : bus_of (connection_of cs c.args.seat) ≡ Some c.in-Some.connection.now = sym (c.in-Some.ensures ∙ ap (λ (xs : List Connection). bus_of (connection_of xs c.args.seat)) c.as_slice.ensures) in
    rw (c.in-Info.is) (serves-read c.args.documents.now c.args.rights.now c.args.applications.now cs c.args.queued (bus_of (connection_of cs c.args.seat)) c.in-Some.connection.now here c.in-Some.connection.now.who refl
    c.info.result (Request.Info c.in-Info.doc) (g.K.Keeper.is c.args.keeper.now) refl refl (rw (c.as_slice-in-Info.ensures) at c.info.ensures))

pub returns-in-Info-clause-queues : goal.returns-in-Info-clause-queues
returns-in-Info-clause-queues g c = same-queues c.args.connections.now

pub returns-in-ListDocuments-clause-ok : goal.returns-in-ListDocuments-clause-ok
returns-in-ListDocuments-clause-ok g c =
    let cs : List Connection = c.args.connections.now in
    let here : bus_of (connection_of cs c.args.seat) ≡ Some c.in-Some.connection.now = sym (c.in-Some.ensures ∙ ap (λ (xs : List Connection). bus_of (connection_of xs c.args.seat)) c.as_slice.ensures) in
    rw (c.in-ListDocuments.is) (serves-read c.args.documents.now c.args.rights.now c.args.applications.now cs c.args.queued (bus_of (connection_of cs c.args.seat)) c.in-Some.connection.now here c.in-Some.connection.now.who refl
    c.list_documents.result (Request.ListDocuments c.in-ListDocuments.app) (g.K.Keeper.is c.args.keeper.now) refl refl (rw (c.as_slice-in-ListDocuments.ensures) at c.list_documents.ensures))

pub returns-in-ListDocuments-clause-queues : goal.returns-in-ListDocuments-clause-queues
returns-in-ListDocuments-clause-queues g c = same-queues c.args.connections.now
