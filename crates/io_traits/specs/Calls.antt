-- What the fakes in memory are seen as.
use Rattle.std.specs.Prelude.{ℕ, ◌==◌, Bool, List, if◌then◌else◌, refl}
use Rattle.std.specs.List.{list_any}
use Rattle.io_traits.specs.Causes.{next_count}
use Rattle.std.specs.Coded.{Coded, code_by, coded_ℕ, coded_list, coded×}
use Rattle.io_traits.specs.Host.{Held, held_code}

-- The calls made so far, the numbers of the calls that are to fail, counted from 1, and the count of faults.
pub record Calls : Type 0 where
  pub made : ℕ
  pub fail : List ℕ
  pub faults : ℕ

abbrev pub calls_code : Coded Calls
calls_code = code_by (ℕ × (List ℕ × ℕ)) (coded× coded_ℕ (coded× (coded_list coded_ℕ) coded_ℕ)) (λ c. (c.made, (c.fail, c.faults))) (λ p. record { made = p.0; fail = p.1.0; faults = p.1.1 }) (λ _. refl)

-- before the first call
abbrev pub no_calls : List ℕ → Calls
no_calls fail = record { made = 0; fail = fail; faults = 0 }

-- the next call's number is listed
abbrev pub is_due : Calls → Bool
is_due calls = list_any (λ number. number == next_count calls.made) calls.fail

-- after one more call, which was counted as a fault or not
abbrev pub after_call : Calls → Bool → Calls
after_call calls failed = record calls { made = next_count calls.made; faults = if failed then next_count calls.faults else calls.faults }

-- a source in memory: the bytes that are left
pub record MemSourceState : Type 0 where
  pub left : List ℕ
  pub calls : Calls

-- a sink in memory: the bytes written
pub record MemSinkState : Type 0 where
  pub written : List ℕ
  pub calls : Calls

-- a host in memory: what it holds
pub record MemHostState : Type 0 where
  pub held : Held
  pub calls : Calls

abbrev pub mem_host_code : Coded MemHostState
mem_host_code = code_by (Held × Calls) (coded× held_code calls_code) (λ s. (s.held, s.calls)) (λ p. record { held = p.0; calls = p.1 }) (λ _. refl)
