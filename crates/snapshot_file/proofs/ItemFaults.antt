-- Faults of fields as those of items, and how much was read.
use Rattle.std.specs.Prelude.{◌≡◌, ℕ, suc, ◌<◌, ◌≤◌, List, [], ◌∷◌, length, drop, None, Result, Ok, Err, refl}
use Rattle.std.proofs.Common.{ap, ◌∙◌, arith, get_or}
use Rattle.std.proofs.Math.Seq.{drop-cons}
use Rattle.base_types.specs.Bytes.{compact}
use Rattle.base_types.specs.Reading.{Input, on_rest, byte_at, length_at, Spelled}
use Rattle.base_types.specs.Codec.{at, renamed}
use Rattle.base_types.proofs.Codecs.{bind_ok, ok_is}
use Rattle.base_types.specs.declared.cursor.ReadError.{ReadError}
use Rattle.base_types.specs.declared.refused.CoinError.{CoinError}
use Rattle.coin_codec.specs.Reading.{Fails as CoinFails}
use Rattle.coin_codec.specs.declared.fault.CoinFault.{CoinFault}
use Rattle.coin_codec.specs.declared.fault.CoinFault.TheVariants as coin
use Rattle.snapshot_file.specs.Items.{Wrong, Stop, coin_stop, mark_at}
use Rattle.snapshot_file.specs.ItemReading.{Says, OfCoin, Fails}
use Rattle.snapshot_file.specs.declared.item_fault.ItemFault.{ItemFault}
use Rattle.snapshot_file.specs.declared.item_fault.ItemFault.TheVariants.{Unfinished, NoMemory, Bad}

pub fails_of : {X : Type 0} (fault : ItemFault) (stop : Stop) (given : Result X Stop) → Says fault stop → given ≡ Err stop → Fails fault given
fails_of {X} Unfinished stop given says e = e ∙ ap (λ (s : Stop). Err s) says
fails_of NoMemory stop given says e = tt
fails_of {X} (Bad error offset) stop given says e = e ∙ ap (λ (s : Stop). Err s) says

pub coin_fails : {X : Type 0} (from : CoinFault) (fault : ItemFault) (given : Result (X × Input) (CoinError × ℕ)) → CoinFails from given → OfCoin from fault → Fails fault (renamed coin_stop given)
coin_fails coin.NoMemory fault given e of = rw of tt
coin_fails (coin.Bad error offset) fault given e of = rw e (fails_of fault (coin_stop (error, offset)) _ of refl)

pub index_small : (old new : Input) (n : ℕ) → Spelled compact (λ n. n ≤ 33554432) old.rest (length_at old.rest) → on_rest length_at old ≡ Ok (n, new) → n ≤ 33554432
index_small old new n law e =
    let b = bind_ok (length_at old.rest) (λ x. Ok (x.0, at old.end x.1)) (n, new) e in
    let same : b.0.0 ≡ n = ap (λ (p : ℕ × Input). p.0) (ok_is {E = ReadError} (b.0.0, at old.end b.0.1) (n, new) b.2) in
    let small : b.0.0 ≤ 33554432 = (law.found b.0.0 b.0.1 b.1).1 in
    omega arith

byte_short : (wrong : Wrong) (mark : ℕ) (marks : List ℕ) (end : ℕ) (rest : List ℕ) (e : ReadError) → on_rest byte_at (at end rest) ≡ Err e → mark_at wrong (mark ∷ marks) (at end rest) ≡ Err None
unfolding mark_at
byte_short wrong mark marks end [] e is = refl
byte_short wrong mark marks end (byte ∷ rest) e is = absurd cc

pub mark_short : (wrong : Wrong) (marks : List ℕ) (k : ℕ) (i : Input) (e : ReadError) → k < length marks → on_rest byte_at i ≡ Err e → mark_at wrong (drop k marks) i ≡ Err None
mark_short wrong marks k i e lt is = rw (drop-cons marks k 0) (byte_short wrong (get_or marks k 0) (drop (suc k) marks) i.end i.rest e is)

-- what the search tries
pub ruleset item_faults = (fails_of, coin_fails)
