-- The chainstates of a store. One of them is active; for now it is that from genesis, alone.
use Rattle.std.specs.Prelude.{List, [], ◌∷◌, Option, Some, None}
use Rattle.base_types.specs.declared.flushes.Chain.{Chain}
use Rattle.base_types.specs.declared.flushes.Chain.TheVariants.{Full}

-- what the active chainstate is: that from genesis, alone
pub data Role (C : Type 0) : Type 0 where
  Alone : Role C

-- its name
abbrev pub active_chain : {C : Type 0} → Role C → Chain
active_chain Alone = Full

-- the chainstates by their names; the active one is given beside its role
abbrev pub full_of : {C : Type 0} → C → Role C → Option C
full_of active Alone = Some active

abbrev pub snapshot_of : {C : Type 0} → C → Role C → Option C
snapshot_of active Alone = None

-- each chainstate with its name, that from genesis first
abbrev pub each_chain : {C : Type 0} → C → Role C → List (Chain × C)
each_chain active Alone = (Full, active) ∷ []

-- the same role, with the chainstates beside the active one seen another way
abbrev pub beside : {C D : Type 0} → (C → D) → Role C → Role D
beside see Alone = Alone
