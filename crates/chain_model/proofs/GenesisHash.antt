-- The hash of genesis, computed.
use Rattle.std.proofs.Common.{◌≡◌, refl}
use Rattle.sha2.specs.Sha256.{sha256, digest_bytes, hash_after, compress, rounds, schedule, first_words}
use Rattle.base_types.specs.Bytes.{number_text}
use Rattle.block_codec.specs.Genesis.{genesis_hash}
use Rattle.chain_model.specs.SmallChoices.{first}

pub genesis_is : genesis_hash ≡ first
unfolding genesis_hash number_text sha256 digest_bytes hash_after compress rounds schedule first_words
genesis_is = refl
