use Rattle.std.proofs.Common.{ap}
use Rattle.std.specs.Prelude.{Result, List, ℕ}
use Rattle.base_types.specs.Reading.{Input}
use Rattle.base_types.specs.Codec.{renamed}
use Rattle.base_types.specs.declared.cursor.ReadError.{ReadError}
use Rattle.coin_codec.proofs.Further.{further_bytes, further_three}
use Rattle.coin_codec.proofs.KeyLaws.{key_taken}
use Rattle.coin_codec.proofs.key.key_of.Goals as goal

pub returns-clause-found : goal.returns-clause-found
returns-clause-found c =
    let txid = ap (λ (r : Result (List ℕ × Input) ReadError). renamed (λ e. e) r) c.in_ok-taken.ensures.value in
    rw c.copy_from_slice.ensures.after (
    key_taken c.args.cursor.now c.letter_of.new.cursor c.take.new.self c.index_of.new.cursor c.in_ok-letter_of.field-0 c.in_ok-index.index c.in_ok-taken.taken.now c.in_ok-index.ensures.number c.in_ok-letter_of.ensures.value txid
    c.in_ok-index.ensures.value
    )

pub returns-in_err-index-clause-further : goal.returns-in_err-index-clause-further
returns-in_err-index-clause-further c =
    let taken = further_bytes c.letter_of.new.cursor c.take.new.self 32 c.in_ok-taken.taken.now c.in_ok-taken.ensures.value in
    further_three c.args.cursor.now c.letter_of.new.cursor c.take.new.self c.index_of.new.cursor c.letter_of.ensures.further taken c.index_of.ensures.further

pub returns-clause-further : goal.returns-clause-further
returns-clause-further c =
    let taken = further_bytes c.letter_of.new.cursor c.take.new.self 32 c.in_ok-taken.taken.now c.in_ok-taken.ensures.value in
    further_three c.args.cursor.now c.letter_of.new.cursor c.take.new.self c.index_of.new.cursor c.letter_of.ensures.further taken c.index_of.ensures.further
