-- The names of rules in replies.
use Rattle.std.specs.Prelude.{ℕ, List, codes}
use Rattle.base_types.specs.declared.refused.HeaderRefused.{HeaderRefused}
use Rattle.base_types.specs.declared.refused.HeaderRefused.TheVariants as header
use Rattle.base_types.specs.declared.refused.BodyRefused.{BodyRefused}
use Rattle.base_types.specs.declared.refused.BodyRefused.TheVariants as body
use Rattle.base_types.specs.declared.refused.CoinRefused.{CoinRefused}
use Rattle.base_types.specs.declared.refused.CoinRefused.TheVariants as coin

abbrev pub header_rule : HeaderRefused → List ℕ
header_rule header.Known = codes "Known"
header_rule header.HighHash = codes "HighHash"
header_rule header.NoParent = codes "NoParent"
header_rule header.BadBits = codes "BadBits"
header_rule header.TooOld = codes "TooOld"
header_rule header.BadVersion = codes "BadVersion"
header_rule header.TreeFull = codes "TreeFull"

abbrev pub body_rule : BodyRefused → List ℕ
body_rule body.BadMerkle = codes "BadMerkle"
body_rule body.Mutated = codes "Mutated"
body_rule body.TooLarge = codes "TooLarge"
body_rule body.FirstNotCoinbase = codes "FirstNotCoinbase"
body_rule body.SecondCoinbase = codes "SecondCoinbase"
body_rule body.NoInputs = codes "NoInputs"
body_rule body.NoOutputs = codes "NoOutputs"
body_rule body.BadValue = codes "BadValue"
body_rule body.DuplicateInput = codes "DuplicateInput"
body_rule body.CoinbaseScript = codes "CoinbaseScript"
body_rule body.NullInput = codes "NullInput"
body_rule body.NotFinal = codes "NotFinal"
body_rule body.BadHeight = codes "BadHeight"
body_rule body.WitnessNonce = codes "WitnessNonce"
body_rule body.WitnessCommitment = codes "WitnessCommitment"
body_rule body.UnexpectedWitness = codes "UnexpectedWitness"
body_rule body.Weight = codes "Weight"

abbrev pub coin_rule : CoinRefused → List ℕ
coin_rule coin.Bip30 = codes "Bip30"
coin_rule coin.MissingInput = codes "MissingInput"
coin_rule coin.Immature = codes "Immature"
coin_rule coin.ValueRange = codes "ValueRange"
coin_rule coin.InBelowOut = codes "InBelowOut"
coin_rule coin.SequenceLock = codes "SequenceLock"
coin_rule coin.CoinbaseAmount = codes "CoinbaseAmount"
