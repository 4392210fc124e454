-- Reading the headers of a payload, one after the other.
use Rattle.std.proofs.Common.{◌≡◌, ◌+◌, ◌≤◌, ◌/◌, ℕ, Bool, List, length, Some, None, Result, Ok, Err, cond, sym, ap, ◌∙◌}
use Rattle.std.specs.Prelude.{IsTrue}
use Rattle.std.specs.Option.{option_map}
use Rattle.std.specs.Result.{result_ok}
use Rattle.base_types.specs.Reading.{Input}
use Rattle.base_types.specs.Codec.{many_at, at}
use Rattle.base_types.proofs.Codecs.{ok_is}
use Rattle.block_codec.specs.declared.block.Header.{Header}
use Rattle.block_codec.specs.Reading.{Wrong, header_at}
use Rattle.block_codec.proofs.BlockLaws.{header_there}
use Rattle.block_store.specs.Headers.{headers_of, first_headers, is_headers_length}

abbrev taken : Header → Input → Result (Header × Input) Wrong
taken h i = Ok (h, i)

-- a header of 80 bytes has no fault
pub no_fault : (i : Input) (w : Wrong) → 80 ≤ length i.rest → header_at i ≡ Err w → ⊥
no_fault i w long e =
    let there = header_there i long in
    let both : Err w ≡ taken there.0 there.1 = sym e ∙ there.2 in
    absurd cc

same_after : (h k : Header) (i j : Input) → taken h i ≡ taken k j → i ≡ j
same_after h k i j e = ap (λ (p : Header × Input). p.1) (ok_is {E = Wrong} (h, i) (k, j) e)

-- it takes 80 bytes
pub takes_80 : (i j : Input) (h : Header) → 80 ≤ length i.rest → header_at i ≡ Ok (h, j) → length i.rest ≡ 80 + length j.rest
takes_80 i j h long e =
    let there = header_there i long in
    let same = same_after there.0 h there.1 j (sym there.2 ∙ e) in
    there.3 ∙ ap (λ (k : Input). 80 + length k.rest) same

-- what was read is what the payload is
pub all_read : (payload : List ℕ) (headers : List Header) (j : Input) → IsTrue (is_headers_length (length payload)) → many_at header_at (length payload / 80) (at (length payload) payload) ≡ Ok (headers, j)
    → Some headers ≡ headers_of payload
all_read payload headers j right e = sym (
    ap (λ (b : Bool). cond b (first_headers (length payload / 80) payload) None) right
    ∙ ap (λ (r : Result (List Header × Input) Wrong). option_map (λ (found : List Header × Input). found.0) (result_ok r)) e)
