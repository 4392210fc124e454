use Rattle.std.proofs.Common.{◌≡◌, ◌++◌, take, drop}
use Rattle.base_types.specs.Obfuscation.{obfuscated}
use Rattle.base_types.proofs.obfuscation.obfuscate.Given as goal

abbrev pub invariant-loop-place : goal.invariant-loop-place
invariant-loop-place l = l.bytes ≡ obfuscated l.key l.fn.offset (take l.place l.fn.bytes) ++ drop l.place l.fn.bytes
