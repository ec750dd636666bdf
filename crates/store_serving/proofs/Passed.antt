-- A call that isn't refused ahead of the tables comes to what these make of it.
use Rattle.std.proofs.Common.{◌≡◌, Bool, true, false, not, cond, Some, None, refl, sym, ap}
use Rattle.portal_base.specs.Names.{is_same}
use Rattle.portal_base.specs.declared.who.Who.{Who}
use Rattle.portal_model.specs.declared.reply.Code.{Code}
use Rattle.portal_model.specs.declared.store.StoreCall.{StoreCall}
use Rattle.portal_model.specs.State.{State}
use Rattle.portal_model.specs.Store.{store_call}
use Rattle.portal_model.specs.StoreRequest.{are_store_arguments, own_table, store_request, store_verdict, table_of}
use Rattle.portal_model.specs.Verdict.{Refuses, unless}
use Rattle.store_serving.specs.Refusals.{refusal_of}

pub passed-is : (s : State) (who : Who) (call : StoreCall) → refusal_of who call ≡ None → store_request s who call ≡ store_verdict s call (store_call call s.entries)
passed-is s (Who.App app) call e = cc
passed-is s Who.Host call e = by (are_store_arguments call) (is_same (table_of call) own_table) e
  where
    by : (a o : Bool) → cond (not a) (Some Code.InvalidArgument) (cond o (Some Code.NotAllowed) None) ≡ None →
        unless (not a) Code.InvalidArgument (unless o Code.NotAllowed (store_verdict s call (store_call call s.entries))) ≡ store_verdict s call (store_call call s.entries)
    by true false e = refl
    by true true e = cc
    by false o e = cc

code-is : (a b : Code) → Some a ≡ Some b → a ≡ b
code-is a b e = cc

pub refused-is : (s : State) (who : Who) (call : StoreCall) (code : Code) → refusal_of who call ≡ Some code → store_request s who call ≡ Refuses code
refused-is s (Who.App app) call code e = ap (λ (x : Code). Refuses x) (code-is Code.AccessDenied code e)
refused-is s Who.Host call code e = by (are_store_arguments call) (is_same (table_of call) own_table) e
  where
    by : (a o : Bool) → cond (not a) (Some Code.InvalidArgument) (cond o (Some Code.NotAllowed) None) ≡ Some code →
        unless (not a) Code.InvalidArgument (unless o Code.NotAllowed (store_verdict s call (store_call call s.entries))) ≡ Refuses code
    by true false e = cc
    by true true e = ap (λ (x : Code). Refuses x) (code-is Code.NotAllowed code e)
    by false o e = ap (λ (x : Code). Refuses x) (code-is Code.InvalidArgument code e)

-- its arguments are such
pub passed-arguments : (who : Who) (call : StoreCall) → refusal_of who call ≡ None → are_store_arguments call ≡ true
passed-arguments (Who.App app) call e = cc
passed-arguments Who.Host call e = by (are_store_arguments call) (is_same (table_of call) own_table) e
  where
    by : (a o : Bool) → cond (not a) (Some Code.InvalidArgument) (cond o (Some Code.NotAllowed) None) ≡ None → a ≡ true
    by true o e = refl
    by false o e = cc

-- it is no fault of a device
abbrev pub is_fault_code : Code → Bool
is_fault_code Code.Failed = true
is_fault_code (Code.Errno n) = true
is_fault_code code = false

pub refused-plain : (who : Who) (call : StoreCall) (code : Code) → refusal_of who call ≡ Some code → is_fault_code code ≡ false
refused-plain (Who.App app) call code e = ap is_fault_code (sym (code-is Code.AccessDenied code e))
refused-plain Who.Host call code e = by (are_store_arguments call) (is_same (table_of call) own_table) e
  where
    by : (a o : Bool) → cond (not a) (Some Code.InvalidArgument) (cond o (Some Code.NotAllowed) None) ≡ Some code → is_fault_code code ≡ false
    by true false e = cc
    by true true e = ap is_fault_code (sym (code-is Code.NotAllowed code e))
    by false o e = ap is_fault_code (sym (code-is Code.InvalidArgument code e))
