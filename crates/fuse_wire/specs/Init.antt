-- FUSE_INIT: what both sides of a connection speak.
use Rattle.std.specs.Prelude.{ℕ, ◌==◌, ◌&&◌, ◌||◌, min, nat_lt, nat_le, bit_and, List, Bool, length, Option, Some, None, if◌then◌else◌}
use Rattle.fuse_wire.specs.Frames.{number_at}
use Rattle.fuse_wire.specs.declared.init.InitIn.{InitIn}
use Rattle.portal_model.specs.Errno.{eproto}
use Rattle.portal_model.specs.declared.reply.NodeAnswer.{NodeAnswer}
use Rattle.portal_model.specs.declared.reply.NodeAnswer.TheVariants.{Error, Init}

-- struct fuse_init_in; what follows is not looked at
abbrev pub init_in : List ℕ → InitIn
init_in body = record {
  major = number_at 0 4 body;
  minor = number_at 4 4 body;
  max_readahead = number_at 8 4 body;
  flags = number_at 12 4 body;
}

abbrev pub init_in_len : ℕ
init_in_len = 16

-- the version of the protocol that is spoken, and the least minor version of it that is
abbrev pub kernel_version : ℕ
kernel_version = 7

abbrev pub kernel_minor_version : ℕ
kernel_minor_version = 31

abbrev pub least_minor_version : ℕ
least_minor_version = 23

abbrev pub is_too_old : InitIn → Bool
is_too_old asked = nat_lt asked.major kernel_version
    || (asked.major == kernel_version && nat_lt asked.minor least_minor_version)

abbrev pub max_readahead : ℕ
max_readahead = 131072

abbrev pub max_background : ℕ
max_background = 16

abbrev pub congestion_threshold : ℕ
congestion_threshold = 12

abbrev pub max_write : ℕ
max_write = 131072

abbrev pub time_gran : ℕ
time_gran = 1

-- FUSE_ATOMIC_O_TRUNC, which is 8, and FUSE_BIG_WRITES, which is 32
abbrev pub granted_flags : ℕ
granted_flags = 40

-- what both sides speak: to a kernel of a later major version the own one is told alone, and it
-- asks again
abbrev pub init_answer : InitIn → NodeAnswer
init_answer asked =
    if is_too_old asked then Error eproto
    else if nat_lt kernel_version asked.major
    then Init kernel_version kernel_minor_version 0 0 0 0 0 0
    else Init kernel_version kernel_minor_version (min asked.max_readahead max_readahead)
    (bit_and asked.flags granted_flags)
    max_background congestion_threshold max_write time_gran

-- what is answered to a body, which may be longer than the struct
abbrev pub init_ask : List ℕ → Option NodeAnswer
init_ask body = if nat_le init_in_len (length body) then Some (init_answer (init_in body)) else None
