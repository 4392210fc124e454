-- What a run is set to.
use Rattle.std.specs.Prelude.{◌≡◌, ℕ, ◌≤◌, ◌^◌}
use Rattle.base_types.specs.declared.program.Limits.{Limits}
use Rattle.base_types.specs.declared.program.Salt.{Salt}
use Rattle.command_loop.specs.declared.settings.RunSettings.{RunSettings}
use Rattle.store_state.specs.State.{first_rules}

-- the limits are in their ranges
pub record AreLimits (limits : Limits) : Type 0 where
  pub file_bytes : limits.file_bytes ≤ 2 ^ 63
  pub headers : (1 ≤ limits.headers) × (limits.headers ≤ 2 ^ 31)

-- with these limits and this salt, the rules that hold from the first block on, and the cache of a run without options
abbrev pub settings_of : Limits → Salt → RunSettings
settings_of limits salt = record { limits = limits; rules = first_rules; cache = 100000; salt = salt }
