-- Worked examples of the definitions.
use Rattle.std.specs.Prelude.{◌≡◌, [], ◌∷◌, ◌++◌, replicate, true, false, pos, negsuc, refl}
use Rattle.chain_model.specs.Tree.{among, rising, median}
use Rattle.chain_model.specs.HeaderRules.{number_of, is_outdated}
use Rattle.base_types.specs.Parameters.{target}
use Rattle.chain_model.specs.BodyRules.{least_bytes, without_sign, height_push, is_out_of_range}
use Rattle.base_types.specs.Parameters.{subsidy}
use Rattle.chain_model.specs.Coins.{is_spendable}
use Rattle.chain_model.specs.Apply.{is_immature, is_free, counts_time}

pub push_of_1 : height_push 1 ≡ 0x51 ∷ []
push_of_1 = refl

pub push_of_16 : height_push 16 ≡ 0x60 ∷ []
push_of_16 = refl

pub push_of_17 : height_push 17 ≡ 0x01 ∷ 0x11 ∷ []
unfolding least_bytes without_sign
push_of_17 = refl

pub push_of_127 : height_push 127 ≡ 0x01 ∷ 0x7f ∷ []
unfolding least_bytes without_sign
push_of_127 = refl

pub push_of_128 : height_push 128 ≡ 0x02 ∷ 0x80 ∷ 0x00 ∷ []
unfolding least_bytes without_sign
push_of_128 = refl

pub push_of_200 : height_push 200 ≡ 0x02 ∷ 0xc8 ∷ 0x00 ∷ []
unfolding least_bytes without_sign
push_of_200 = refl

pub push_of_32768 : height_push 32768 ≡ 0x03 ∷ 0x00 ∷ 0x80 ∷ 0x00 ∷ []
unfolding least_bytes without_sign
push_of_32768 = refl

-- of three numbers the middle one, of two the greater
pub median_of_3 : median (7 ∷ 3 ∷ 5 ∷ []) ≡ 5
unfolding rising among
median_of_3 = refl

pub median_of_2 : median (7 ∷ 3 ∷ []) ≡ 7
unfolding rising among
median_of_2 = refl

-- the greatest hash: 7fffff as the highest bytes
pub greatest_hash : number_of (replicate 29 0 ++ 0xff ∷ 0xff ∷ 0x7f ∷ []) ≡ target
greatest_hash = refl

-- a version of 3 is out of date from the first of the two heights on, one of 1 from either
pub version_3 : is_outdated (record { version4 = 5; bip34 = 2; csv = 1; segwit = 1 }) 4 (pos 3) ≡ false
version_3 = refl

pub version_1 : is_outdated (record { version4 = 5; bip34 = 2; csv = 1; segwit = 1 }) 2 (pos 1) ≡ true
version_1 = refl

-- all the money there is, and one satoshi more or fewer than none
pub all_money : is_out_of_range (pos 2100000000000000) ≡ false
all_money = refl

pub more_money : is_out_of_range (pos 2100000000000001) ≡ true
more_money = refl

pub less_than_none : is_out_of_range (negsuc 0) ≡ true
less_than_none = refl

-- the subsidy is halved at 150
pub subsidy_149 : subsidy 149 ≡ 5000000000
subsidy_149 = refl

pub subsidy_150 : subsidy 150 ≡ 2500000000
subsidy_150 = refl

pub subsidy_9600 : subsidy 9600 ≡ 0
subsidy_9600 = refl

-- block 101 is the first that may spend the coinbase of block 1
pub mature_at_101 : is_immature 101 (record { value = 1; script = []; height = 1; coinbase = true }) ≡ false
mature_at_101 = refl

pub immature_at_100 : is_immature 100 (record { value = 1; script = []; height = 1; coinbase = true }) ≡ true
immature_at_100 = refl

-- scripts of 10,000 and of 10,001 bytes, and one that begins with OP_RETURN
pub longest_spendable : is_spendable (record { value = pos 1; script = replicate 10000 0x51 }) ≡ true
longest_spendable = refl

pub too_long_to_spend : is_spendable (record { value = pos 1; script = replicate 10001 0x51 }) ≡ false
too_long_to_spend = refl

pub never_spendable : is_spendable (record { value = pos 0; script = 0x6a ∷ 0x51 ∷ [] }) ≡ false
never_spendable = refl

-- the bits of a sequence: free, and counting units of 512 seconds
pub free_sequence : is_free 0xffffffff ≡ true
free_sequence = refl

pub bound_sequence : is_free 0x7fffffff ≡ false
bound_sequence = refl

pub time_sequence : counts_time 0x00400001 ≡ true
time_sequence = refl

pub block_sequence : counts_time 0x00200001 ≡ false
block_sequence = refl
