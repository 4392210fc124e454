-- The parameters of regtest, and of coins on every network.
use Rattle.std.specs.Prelude.{ℕ, ◌*◌, ◌/◌, ◌^◌, List, [], ◌∷◌, nat_le, if◌then◌else◌}

-- with which each message of the network begins, and each frame of a block file
abbrev pub message_start : List ℕ
message_start = 0xfa ∷ 0xbf ∷ 0xb5 ∷ 0xda ∷ []

-- no hash of a block may be greater as a number
abbrev pub target : ℕ
target = 0x7fffff * 256 ^ 29

-- the same in the compact form, the only one that headers may carry
abbrev pub target_bits : ℕ
target_bits = 0x207fffff

-- in satoshis: no amount is greater
abbrev pub max_money : ℕ
max_money = 2100000000000000

-- an output with a longer script can't be spent
abbrev pub max_script_size : ℕ
max_script_size = 10000

-- no length, count or index in a block is greater
abbrev pub max_size : ℕ
max_size = 33554432

-- a coinbase can be spent by a block that stands so many above its own
abbrev pub coinbase_maturity : ℕ
coinbase_maturity = 100

-- what a block at a height may pay beside its fees: 50 coins, halved every 150 blocks
abbrev pub subsidy : ℕ → ℕ
subsidy height = if nat_le 64 (height / 150) then 0 else 5000000000 / 2 ^ (height / 150)
