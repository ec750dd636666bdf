-- Worked examples of what streams ask, worked out by hand from the table of costs: a request costs
-- 128 bytes and the bytes that it carries, and a Leave nothing.
use Rattle.std.specs.Prelude.{ℕ, List, [], ◌∷◌, ◌++◌, codes, replicate, take}
use Rattle.portal_base.specs.declared.limits.Settings.{Settings}
use Rattle.portal_base.specs.declared.who.Kind.{Kind}
use Rattle.portal_base.specs.declared.who.Who.{Who}
use Rattle.session.specs.declared.act.Client.{Client}
use Rattle.session.specs.Standings.{client}
use Rattle.cost_laws.specs.Streams.{StreamAsks}

abbrev pub host_bus : Settings → Client
host_bus settings = client Who.Host Kind.Bus settings

abbrev pub editor_mount : Settings → Client
editor_mount settings = client (Who.App (codes "org.ed")) Kind.Mount settings

-- FUSE_GETATTR of node 1 (include/uapi/linux/fuse.h): struct fuse_in_header with the length 56, the
-- opcode 3 and the number 2, and struct fuse_getattr_in
abbrev pub getattr_frame : List ℕ
getattr_frame =
    (56 ∷ 0 ∷ 0 ∷ 0 ∷ []) ++ (3 ∷ 0 ∷ 0 ∷ 0 ∷ [])
    ++ (2 ∷ replicate 7 0) ++ (1 ∷ replicate 7 0) ++ replicate 16 0 ++ replicate 16 0

-- no byte at all, on a bus of the host: Enter
abbrev pub IsCostOfSilence : ℕ → Type 0
IsCostOfSilence total = (settings : Settings) → StreamAsks (host_bus settings) [] total

-- one frame and a part of another: Enter, with the six bytes of its caller's name, and the request
abbrev pub IsCostOfOneFrame : ℕ → Type 0
IsCostOfOneFrame total = (settings : Settings)
    → StreamAsks (editor_mount settings) (getattr_frame ++ take 50 getattr_frame) total
