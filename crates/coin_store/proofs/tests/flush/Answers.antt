use Rattle.std.specs.Prelude.{◌≡◌, ℕ, ◌+◌, ◌-◌, ◌≤◌, List, [], ◌∷◌, ◌++◌, length, replicate, Contains, Some, None, refl}
use Rattle.std.proofs.Common.{arith, ap, subst}
use Rattle.std.proofs.lemmas.List.{length-append, append-nil}
use Rattle.base_types.specs.Bytes.{compact, varint, marked}
use Rattle.base_types.specs.declared.coin.Coin.{Coin}
use Rattle.base_types.specs.declared.hash.OutPoint.{OutPoint}
use Rattle.coin_codec.specs.CoinText.{coin_text}
use Rattle.coin_codec.specs.KeyText.{key_text}
use Rattle.coin_store.specs.declared.marker.Marker.{Marker}
use Rattle.coin_store.specs.declared.store.CoinStore.{CoinStore}
use Rattle.coin_store.specs.Batches.{Row, value_text, row_text, marker_text, batch_text}
use Rattle.coin_store.specs.Staging.{IsStaged, IsReady}
use Rattle.coin_store.proofs.StagingLaws.{row_fits}
use Rattle.coin_store.proofs.StagedBytes.{row_long}
use Rattle.coin_store.proofs.tests.flush.Goals as goal

abbrev first : OutPoint
first = record { txid = record { bytes = replicate 32 0x11 }; index = 0 }

key_len : length (key_text first) ≡ 34
unfolding key_text varint marked
key_len = refl

lens_len : (length (compact 4) ≡ 1) × (length (compact 0) ≡ 1)
unfolding compact
lens_len = (refl, refl)

coin_row : (mask : List ℕ) (coin : Coin) → length (coin_text coin) ≡ 4 → length (row_text mask (record { key = first; coin = Some coin })) ≡ 39
unfolding value_text
coin_row mask coin few = omega (arith, row_long mask (record { key = first; coin = Some coin }), key_len, lens_len.0, ap (λ (n : ℕ). length (compact n)) few, few)

empty_row : (mask : List ℕ) → length (row_text mask (record { key = first; coin = None })) ≡ 35
unfolding value_text
empty_row mask = omega (arith, row_long mask (record { key = first; coin = None }), key_len, lens_len.1)

batch_len : (mask : List ℕ) (marker : Marker) (row : Row) → length (batch_text mask (record { marker = marker; rows = row ∷ [] })) ≡ length (marker_text marker) + length (row_text mask row)
unfolding batch_text
batch_len mask marker row = omega (arith, length-append (marker_text marker) (row_text mask row ++ []), ap length (append-nil (row_text mask row)))

abbrev keys : List OutPoint
keys = first ∷ []

named : Contains keys first
named = (0, omega arith, refl)

-- a row that is staged makes a payload, where there is room for one of 104 bytes
ready : (store : CoinStore) (marker : Marker) (row : Row) (payloads total : ℕ) → length (marker_text marker) ≤ 65 → length (row_text store.mask row) ≤ 39 → 109 ≤ total
    → IsStaged store keys 200 (1 + payloads) total (row ∷ []) → IsReady store marker
ready store marker row payloads total short small room s =
    let n = length (batch_text store.mask (record { marker = marker; rows = row ∷ [] })) in
    let len = batch_len store.mask marker row in
    let left : total ≡ 5 + n + (total - (5 + n)) = omega (arith, len, short, small, room) in
    record {
      keys = keys;
      payload = 200;
      payloads = payloads;
      total = total - (5 + n);
      rows = row ∷ [];
      staged = subst (λ (t : ℕ). IsStaged store keys 200 (1 + payloads) t (row ∷ [])) left s;
      fits = omega (arith, len, short, small);
    }

pub stage-requires-clause-room : goal.stage-requires-clause-room
stage-requires-clause-room g c =
    let store = c.prepare.new.self in
    row_fits store keys 200 2 500 [] (record { key = first; coin = Some c.args.coin.now }) c.in_ok-prepare.ensures.ok (omega (arith, coin_row store.mask c.args.coin.now c.requires.few))

pub apply-requires : goal.apply-requires
apply-requires g c =
    let store = c.stage.new.self in
    let row : Row = record { key = first; coin = Some c.args.coin.now } in
    ready store c.args.marker.now row 1 500 c.is_short.ensures (omega (arith, coin_row store.mask c.args.coin.now c.requires.few)) (omega arith) (c.stage.ensures.staged keys 200 2 500 [] c.in_ok-prepare.ensures.ok named)

-- what is staged, with the room for its payload set apart
set_apart : (store : CoinStore) (marker : Marker) (row : Row) (total : ℕ) → length (marker_text marker) ≤ 65 → length (row_text store.mask row) ≤ 39 → 109 ≤ total → IsStaged store keys 200 2 total (row ∷ [])
    → let n = length (batch_text store.mask (record { marker = marker; rows = row ∷ [] })) in IsStaged store keys 200 2 (5 + n + (total - (5 + n))) (row ∷ [])
set_apart store marker row total short small room s =
    let n = length (batch_text store.mask (record { marker = marker; rows = row ∷ [] })) in
    let len = batch_len store.mask marker row in
    let left : total ≡ 5 + n + (total - (5 + n)) = omega (arith, len, short, small, room) in
    subst (λ (t : ℕ). IsStaged store keys 200 2 t (row ∷ [])) left s

pub stage-requires-in-Between-clause-room : goal.stage-requires-in-Between-clause-room
stage-requires-in-Between-clause-room g c =
    let store = c.stage.new.self in
    let row : Row = record { key = first; coin = Some c.args.coin.now } in
    let small : length (row_text store.mask row) ≤ 39 = omega (arith, coin_row store.mask c.args.coin.now c.requires.few) in
    let left = c.in_ok-apply.ensures.staged keys 200 1 _ (row ∷ []) (set_apart store c.args.marker.now row 500 c.is_short.ensures small (omega arith) (c.stage.ensures.staged keys 200 2 500 [] c.in_ok-prepare.ensures.ok named)) in
    row_fits c.apply.new.self keys 200 1 _ [] (record { key = first; coin = None }) left (omega (arith, empty_row c.apply.new.self.mask))

pub apply-requires-in-Between : goal.apply-requires-in-Between
apply-requires-in-Between g c =
    let store = c.stage.new.self in
    let next = c.stage-in-Between.new.self in
    let row : Row = record { key = first; coin = Some c.args.coin.now } in
    let gone : Row = record { key = first; coin = None } in
    let small : length (row_text store.mask row) ≤ 39 = omega (arith, coin_row store.mask c.args.coin.now c.requires.few) in
    let n = batch_len store.mask c.args.marker.now row in
    let left = c.in_ok-apply.ensures.staged keys 200 1 _ (row ∷ []) (set_apart store c.args.marker.now row 500 c.is_short.ensures small (omega arith) (c.stage.ensures.staged keys 200 2 500 [] c.in_ok-prepare.ensures.ok named)) in
    ready next c.args.marker.now gone 0 _ c.is_short.ensures (omega (arith, empty_row next.mask)) (omega (arith, n, c.is_short.ensures, small)) (c.stage-in-Between.ensures.staged keys 200 1 _ [] left named)
