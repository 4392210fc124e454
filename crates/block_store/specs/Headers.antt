-- A payload of the headers' file: 1 to 1,000 headers, one after another.
use Rattle.std.specs.Prelude.{ℕ, ◌/◌, ◌%◌, Bool, ◌&&◌, ◌==◌, List, length, Option, None, nat_le, if◌then◌else◌}
use Rattle.std.specs.List.{flat_map}
use Rattle.std.specs.Option.{option_map}
use Rattle.std.specs.Result.{result_ok}
use Rattle.base_types.specs.Codec.{many_at, at}
use Rattle.block_codec.specs.declared.block.Header.{Header}
use Rattle.block_codec.specs.Reading.{header_at}
use Rattle.block_codec.specs.Text.{header_text}

-- 80 bytes for each
abbrev pub headers_text : List Header → List ℕ
headers_text headers = flat_map header_text headers

-- whether so many bytes are 1 to 1,000 headers
abbrev pub is_headers_length : ℕ → Bool
is_headers_length n = nat_le 80 n && nat_le n 80000 && (n % 80 == 0)

-- the first n headers of these bytes
abbrev pub first_headers : ℕ → List ℕ → Option (List Header)
first_headers n bytes = option_map (λ found. found.0) (result_ok (many_at header_at n (at (length bytes) bytes)))

-- the headers that a payload is: any 80 bytes are one
abbrev pub headers_of : List ℕ → Option (List Header)
headers_of payload = if is_headers_length (length payload) then first_headers (length payload / 80) payload else None
