-- What is answered to a header.
use Rattle.std.specs.Prelude.{◌≡◌, Option, Some, None, Result, Ok, Err}
use Rattle.base_types.specs.declared.hash.Hash32.{Hash32}
use Rattle.base_types.specs.declared.refused.HeaderRefused.{HeaderRefused}
use Rattle.header_tree.specs.declared.fault.AcceptFault.{AcceptFault}
use Rattle.header_tree.specs.declared.fault.AcceptFault.TheVariants.{NoMemory, Refused}

-- The rule, exactly where one is broken. Else the hash, or want of memory.
abbrev pub Answers : Option HeaderRefused → Hash32 → Result Hash32 AcceptFault → Type 0
Answers broken hash (Ok name) = (broken ≡ None) × (name ≡ hash)
Answers broken hash (Err NoMemory) = broken ≡ None
Answers broken hash (Err (Refused rule)) = broken ≡ Some rule
