-- The definitions computed on small files.
use Rattle.std.specs.Prelude.{◌≡◌, ℕ, List, [], ◌∷◌, ◌++◌, replicate, take, drop, Option, Some, None, true, refl}
use Rattle.std.specs.FinMap.{from_entries}
use Rattle.base_types.specs.Coins.{Coins}
use Rattle.base_types.specs.declared.hash.Hash32.{Hash32}
use Rattle.base_types.specs.declared.hash.OutPoint.{OutPoint}
use Rattle.base_types.specs.declared.coin.Coin.{Coin}
use Rattle.base_types.specs.declared.snapshot_error.SnapError.{SnapError}
use Rattle.base_types.specs.declared.snapshot_error.SnapError.TheVariants.{BadMagic, BadVersion, WrongNetwork, LongSpelling, EmptyGroup, CountMismatch, BadIndex, BadCoin, HeightAbove, LeftOver}
use Rattle.base_types.specs.declared.refused.CoinError.TheVariants.{HeightTooLarge, UncompressedKey}
use Rattle.snapshot_file.specs.declared.coins.SnapCoin.{SnapCoin}
use Rattle.base_types.specs.Parameters.{message_start}
use Rattle.snapshot_file.specs.Text.{magic, version}
use Rattle.base_types.specs.Reading.{compact_at, length_at, groups_at}
use Rattle.coin_codec.specs.Amount.{amount_of, left_of}
use Rattle.coin_codec.specs.ScriptForm.{short_form, between}
use Rattle.coin_codec.specs.Reading.{coin_at, checked_varint_at, amount_at, script_at, raw_script_at}
use Rattle.snapshot_file.specs.Items.{Wrong, head_at, mark_at, group_at, member_at}
use Rattle.snapshot_file.specs.Part.{Part, read_part, read_coins, read_member}

abbrev pub base : Hash32
base = record { bytes = replicate 32 0x37 }

abbrev marks : List ℕ
marks = magic ++ version ++ message_start

-- the metadata with a count below 256
abbrev head : ℕ → List ℕ
head count = marks ++ base.bytes ++ count ∷ replicate 7 0

abbrev pub eleven : Hash32
eleven = record { bytes = replicate 32 0x11 }

abbrev pub coin : SnapCoin
coin = record { key = record { txid = eleven; index = 0 }; coin = record { value = 5_000_000_000; script = 0x51 ∷ []; height = 1; coinbase = true }; at = 84 }

-- a file of a group of one transaction
abbrev with_group : ℕ → List ℕ → List ℕ
with_group count bytes = head count ++ eleven.bytes ++ bytes

-- 89 bytes
abbrev pub small : List ℕ
small = with_group 1 (0x01 ∷ 0x00 ∷ 0x03 ∷ 0x32 ∷ 0x07 ∷ 0x51 ∷ [])

-- the coin of that file
abbrev pub small_coins : Coins
small_coins = from_entries ((coin.key, coin.coin) ∷ [])

-- the same coin at another output
abbrev pub at_index : ℕ → OutPoint × Coin
at_index index = (record { txid = eleven; index = index }, coin.coin)

abbrev pub three_coins : Coins
three_coins = from_entries (at_index 255 ∷ at_index 256 ∷ at_index 16_512 ∷ [])

abbrev says : ℕ → List SnapCoin → Option Wrong → Part
says count coins fault = record { head = Some (record { base = base; count = count }); coins = coins; fault = fault }

abbrev faulty : SnapError → ℕ → Part
faulty error at = says 1 [] (Some (error, at))

empty_is_whole : read_part None (head 0) ≡ says 0 [] None
unfolding read_part head_at mark_at read_coins
empty_is_whole = refl

empty_and_more : read_part None (head 0 ++ 0 ∷ []) ≡ says 0 [] (Some (LeftOver, 51))
unfolding read_part head_at mark_at read_coins
empty_and_more = refl

one_coin : read_part None small ≡ says 1 (coin ∷ []) None
unfolding read_part head_at mark_at read_coins group_at compact_at read_member member_at length_at coin_at checked_varint_at groups_at amount_at amount_of left_of script_at raw_script_at short_form between
one_coin = refl

at_its_height : read_part (Some 1) small ≡ says 1 (coin ∷ []) None
unfolding read_part head_at mark_at read_coins group_at compact_at read_member member_at length_at coin_at checked_varint_at groups_at amount_at amount_of left_of script_at raw_script_at short_form between
at_its_height = refl

above_the_base : read_part (Some 0) small ≡ faulty HeightAbove 85
unfolding read_part head_at mark_at read_coins group_at compact_at read_member member_at length_at coin_at checked_varint_at groups_at amount_at amount_of left_of script_at raw_script_at short_form between
above_the_base = refl

one_byte_more : read_part None (small ++ 0 ∷ []) ≡ says 1 (coin ∷ []) (Some (LeftOver, 89))
unfolding read_part head_at mark_at read_coins group_at compact_at read_member member_at length_at coin_at checked_varint_at groups_at amount_at amount_of left_of script_at raw_script_at short_form between
one_byte_more = refl

one_byte_less : read_part None (take 88 small) ≡ says 1 [] None
unfolding read_part head_at mark_at read_coins group_at compact_at read_member member_at length_at coin_at checked_varint_at groups_at amount_at amount_of left_of script_at raw_script_at short_form between
one_byte_less = refl

half_a_group : read_part None (take 60 small) ≡ says 1 [] None
unfolding read_part head_at mark_at read_coins group_at compact_at read_member member_at length_at coin_at checked_varint_at groups_at amount_at amount_of left_of script_at raw_script_at short_form between
half_a_group = refl

one_coin_of_two : read_part None (head 2 ++ drop 51 small) ≡ says 2 (coin ∷ []) None
unfolding read_part head_at mark_at read_coins group_at compact_at read_member member_at length_at coin_at checked_varint_at groups_at amount_at amount_of left_of script_at raw_script_at short_form between
one_coin_of_two = refl

half_a_head : read_part None (take 50 small) ≡ record { head = None; coins = []; fault = None }
unfolding read_part head_at mark_at read_coins
half_a_head = refl

-- the metadata's first byte that differs decides, also where it isn't whole
other_magic : read_part None (0x74 ∷ drop 1 small) ≡ record { head = None; coins = []; fault = Some (BadMagic, 0) }
unfolding read_part head_at mark_at read_coins
other_magic = refl

other_version : read_part None (magic ++ 3 ∷ []) ≡ record { head = None; coins = []; fault = Some (BadVersion, 5) }
unfolding read_part head_at mark_at read_coins
other_version = refl

other_network : read_part None (take 10 marks ++ 0 ∷ drop 11 small) ≡ record { head = None; coins = []; fault = Some (WrongNetwork, 7) }
unfolding read_part head_at mark_at read_coins
other_network = refl

no_member : read_part None (with_group 1 (0 ∷ drop 84 small)) ≡ faulty EmptyGroup 83
unfolding read_part head_at mark_at read_coins group_at compact_at read_member member_at length_at coin_at checked_varint_at groups_at amount_at amount_of left_of script_at raw_script_at short_form between
no_member = refl

too_many_members : read_part None (with_group 1 (2 ∷ drop 84 small)) ≡ faulty CountMismatch 83
unfolding read_part head_at mark_at read_coins group_at compact_at read_member member_at length_at coin_at checked_varint_at groups_at amount_at amount_of left_of script_at raw_script_at short_form between
too_many_members = refl

long_index : read_part None (take 84 small ++ 0xfd ∷ 0 ∷ 0 ∷ drop 85 small) ≡ faulty LongSpelling 84
unfolding read_part head_at mark_at read_coins group_at compact_at read_member member_at length_at coin_at checked_varint_at groups_at amount_at amount_of left_of script_at raw_script_at short_form between
long_index = refl

large_index : read_part None (take 84 small ++ 0xfe ∷ 1 ∷ 0 ∷ 0 ∷ 2 ∷ drop 85 small) ≡ faulty BadIndex 84
unfolding read_part head_at mark_at read_coins group_at compact_at read_member member_at length_at coin_at checked_varint_at groups_at amount_at amount_of left_of script_at raw_script_at short_form between
large_index = refl

large_height : read_part None (take 85 small ++ 0x8e ∷ 0xfe ∷ 0xfe ∷ 0xff ∷ 0 ∷ drop 86 small) ≡ faulty (BadCoin HeightTooLarge) 85
unfolding read_part head_at mark_at read_coins group_at compact_at read_member member_at length_at coin_at checked_varint_at groups_at amount_at amount_of left_of script_at raw_script_at short_form between
large_height = refl

uncompressed_key : read_part None (take 87 small ++ 4 ∷ replicate 32 0) ≡ faulty (BadCoin UncompressedKey) 87
unfolding read_part head_at mark_at read_coins group_at compact_at read_member member_at length_at coin_at checked_varint_at groups_at amount_at amount_of left_of script_at raw_script_at short_form between
uncompressed_key = refl
