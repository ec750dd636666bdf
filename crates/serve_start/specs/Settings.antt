-- What the portal of a service is set to.
use Rattle.std.specs.Prelude.{ℕ, List, codes}
use Rattle.portal_base.specs.declared.limits.Limits.{Limits}
use Rattle.portal_base.specs.declared.limits.Settings.{Settings}

-- the limits of a service whose history may cost so many bytes
abbrev pub limits_with : ℕ → Limits
limits_with history = record {
  documents = 65536;
  made = 1048576;
  history = history;
  handles = 1024;
  queued = 16;
  file_bytes = 1099511627776;
}

-- and its settings
abbrev pub settings_with : ℕ → List ℕ → Settings
settings_with history guid = record {
  limits = limits_with history;
  mountpoint = codes "/run/doc";
  guid = guid;
}
