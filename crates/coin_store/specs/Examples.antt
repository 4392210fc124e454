-- A batch by example: the coin of height 1 of a coinbase, 5,000,000,000 satoshis to the script 51, at the first output of a
-- transaction, after a tip.
use Rattle.std.specs.Prelude.{◌≡◌, ℕ, List, [], ◌∷◌, ◌++◌, length, replicate, Some, None, true, refl}
use Rattle.std.specs.FinMap.{empty}
use Rattle.base_types.specs.Bytes.{compact, varint, marked}
use Rattle.base_types.specs.Reading.{compact_at, groups_at}
use Rattle.base_types.specs.declared.hash.Hash32.{Hash32}
use Rattle.coin_codec.specs.Amount.{amount_code, code_of, tens, left, amount_of, left_of}
use Rattle.coin_codec.specs.CoinText.{coin_text}
use Rattle.coin_codec.specs.KeyText.{key_text}
use Rattle.coin_codec.specs.Reading.{key_at, letter_at, coin_at, checked_varint_at, amount_at, script_at, kept_script_at, raw_script_at}
use Rattle.coin_codec.specs.ScriptForm.{script_form, short_form, between}
use Rattle.coin_store.specs.declared.marker.Marker.TheVariants.{At}
use Rattle.coin_store.specs.Base.{base_of, rows_after}
use Rattle.coin_store.specs.Batches.{Row, Batch, value_text, head_text, row_text, marker_text, batch_text}
use Rattle.coin_store.specs.Places.{coins_after}
use Rattle.coin_store.specs.Reading.{value_of, head_of, row_of, rows_of}

abbrev the_row : Row
the_row = record {
  key = record { txid = record { bytes = replicate 32 0x11 }; index = 0 };
  coin = Some (record { value = 5_000_000_000; script = 0x51 ∷ []; height = 1; coinbase = true });
}

abbrev the_tip : Hash32
the_tip = record { bytes = replicate 32 0x22 }

abbrev no_mask : List ℕ
no_mask = replicate 8 0

pub the_batch : batch_text no_mask (record { marker = At the_tip; rows = the_row ∷ [] })
    ≡ (0x42 ∷ replicate 32 0x22) ++ (0x43 ∷ replicate 32 0x11) ++ 0x00 ∷ 0x04 ∷ 0x03 ∷ 0x32 ∷ 0x07 ∷ 0x51 ∷ []
unfolding batch_text marker_text row_text head_text value_text key_text coin_text compact varint marked amount_code code_of tens left script_form short_form between
the_batch = refl

pub the_length : length (batch_text no_mask (record { marker = At the_tip; rows = the_row ∷ [] })) ≡ 72
unfolding batch_text marker_text row_text head_text value_text key_text coin_text compact varint marked amount_code code_of tens left script_form short_form between
the_length = refl

pub the_obfuscated_row : row_text (1 ∷ 2 ∷ 3 ∷ 4 ∷ 5 ∷ 6 ∷ 7 ∷ 8 ∷ []) the_row ≡ (0x43 ∷ replicate 32 0x11) ++ 0x00 ∷ 0x04 ∷ 0x02 ∷ 0x30 ∷ 0x04 ∷ 0x55 ∷ []
unfolding row_text head_text value_text key_text coin_text compact varint marked amount_code code_of tens left script_form short_form between
the_obfuscated_row = refl

-- the same row of a base, and one without a coin
pub the_base : base_of no_mask ((0x43 ∷ replicate 32 0x11) ++ 0x00 ∷ 0x04 ∷ 0x03 ∷ 0x32 ∷ 0x07 ∷ 0x51 ∷ []) ≡ Some (the_row ∷ [])
unfolding base_of rows_of row_of head_of value_of key_at letter_at compact_at groups_at coin_at checked_varint_at amount_at script_at kept_script_at raw_script_at amount_of left_of short_form between
the_base = refl

pub no_base : base_of no_mask ((0x43 ∷ replicate 32 0x11) ++ 0x00 ∷ 0x00 ∷ []) ≡ None
unfolding base_of rows_of row_of head_of value_of key_at letter_at compact_at groups_at checked_varint_at
no_base = refl

-- without a base the coins are those of the batches
pub no_base_coins : (batches : List Batch) → rows_after [] batches ≡ coins_after empty batches
no_base_coins batches = refl
