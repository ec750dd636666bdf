-- What is checked of the arguments of a call, one after another.
use Rattle.std.specs.Prelude.{◌≡◌, ℕ, List, length, nat_le, Bool, false, not, ◌&&◌, ◌||◌}
use Rattle.portal_base.specs.Names.{is_app_name, is_host_path}
use Rattle.portal_model.specs.declared.request.AddRequest.{AddRequest}
use Rattle.portal_model.specs.AddArguments.{are_flags, document_path, files_limit, is_file_name, names_nobody}
use Rattle.portal_model.specs.Arguments.{ahead_of_end, has_end}
use Rattle.add_files.specs.declared.plan.AddError.{AddError}
use Rattle.add_files.specs.declared.plan.AddError.TheVariants.{InvalidArgument, NotAllowed, Memory}

abbrev pub are_few : AddRequest → Bool
are_few a = nat_le (length a.handles) files_limit && are_flags a

abbrev pub has_app : AddRequest → Bool
has_app a = names_nobody a || is_app_name a.app

abbrev pub has_file_name : AddRequest → Bool
has_file_name a = not a.named || (has_end a.name && is_file_name (ahead_of_end a.name))

-- of a named file the joined path is a path
abbrev pub is_joined_well : AddRequest → List ℕ → Bool
is_joined_well a path = not a.named || is_host_path (document_path a path)

-- a check that isn't met; want of memory says nothing
abbrev pub FailsCheck : Bool → AddError → Type 0
FailsCheck met InvalidArgument = met ≡ false
FailsCheck met NotAllowed = ⊥
FailsCheck met Memory = Unit {0}
