-- A scan whose window has changed.
use Rattle.std.proofs.Common.{◌≡◌, ◌≤◌, ◌+◌, ◌-◌, ℕ, Bool, true, false, List, [], ◌∷◌, ◌++◌, length, take, drop, refl, sym, ap, ◌∙◌, arith}
use Rattle.std.specs.Prelude.{Option, Some, None, Ok}
use Rattle.std.proofs.lemmas.List.{drop-append-le, drop-drop, length-drop, length-append, append_assoc, append-nil, take-append-drop, length-take-le}
use Rattle.io_traits.specs.Host.{Held, bytes_of, unread_bytes, after_reading, Opens}
use Rattle.io_traits.proofs.HostRuns.{after_reading-none, unread_bytes-after}
use Rattle.block_codec.specs.declared.block.Block.{Block}
use Rattle.block_codec.specs.declared.block.Header.{Header}
use Rattle.block_codec.specs.Frames.{frames_after, frames}
use Rattle.frame_scan.specs.Scan.{at_start, scan_of, bytes_taken, plain_from, bytes_left, frames_left, Passes, Takes, ReadsPlain}
use Rattle.frame_scan.specs.Search.{Follows, Ends, SameFrames, HasFrame, HasHeader, IsRest}
use Rattle.base_types.proofs.Obfuscated.{obfuscated-append}

plain_from-append : (key : Option (List ℕ)) (p : ℕ) (xs ys : List ℕ) → plain_from key p (xs ++ ys) ≡ plain_from key p xs ++ plain_from key (p + length xs) ys
plain_from-append None p xs ys = refl
plain_from-append (Some key) p xs ys = obfuscated-append key p xs ys

-- ---- what is left of a list

pub IsRest-itself : (xs : List ℕ) → IsRest xs xs
IsRest-itself xs = record { count = 0; within = omega arith; is = refl }

pub IsRest-drop : (xs ys : List ℕ) (n : ℕ) → n ≤ length xs → ys ≡ drop n xs → IsRest xs ys
IsRest-drop xs ys n within is = record { count = n; within = within; is = is }

pub IsRest-then : (xs ys zs : List ℕ) → IsRest xs ys → IsRest ys zs → IsRest xs zs
IsRest-then xs ys zs first second =
    let len : length ys ≡ length xs - first.count = ap length first.is ∙ length-drop first.count xs in
    record {
      count = first.count + second.count;
      within = omega (arith, first.within, second.within, len);
      is = second.is ∙ ap (drop second.count) first.is ∙ drop-drop second.count first.count xs;
    }

pub IsRest-shorter : (xs ys : List ℕ) → IsRest xs ys → length ys + (length xs - length ys) ≡ length xs
IsRest-shorter xs ys rest =
    let len : length ys ≡ length xs - rest.count = ap length rest.is ∙ length-drop rest.count xs in
    omega (arith, len, rest.within)

-- ---- a search passes bytes

pub taken_of : (key : Option (List ℕ)) (n : ℕ) (xs : List ℕ) → length xs ≤ n → bytes_taken (scan_of key n xs) ≡ n
taken_of key n xs within = omega arith

taken_same : (key : Option (List ℕ)) (n : ℕ) (xs ys : List ℕ) → length xs ≤ n → IsRest xs ys → bytes_taken (scan_of key n ys) ≡ bytes_taken (scan_of key n xs)
taken_same key n xs ys within rest =
    let shorter = IsRest-shorter xs ys rest in
    let less : length ys ≤ n = omega arith in
    taken_of key n ys less ∙ sym (taken_of key n xs within)

pub search_passes : (key : Option (List ℕ)) (n : ℕ) (xs ys : List ℕ) (held : Held) → length xs ≤ n → IsRest xs ys → Passes (scan_of key n xs) (scan_of key n ys) held held
search_passes key n xs ys held within rest =
    let len : length ys ≡ length xs - rest.count = ap length rest.is ∙ length-drop rest.count xs in
    let passed : rest.count ≡ (n - length ys) - (n - length xs) = omega (arith, len, rest.within) in
    let behind = plain_from key (bytes_taken (scan_of key n xs)) (unread_bytes held) in
    ap (λ (t : ℕ). ys ++ plain_from key t (unread_bytes held)) (taken_same key n xs ys within rest)
    ∙ ap (λ (zs : List ℕ). zs ++ behind) rest.is
    ∙ sym (drop-append-le rest.count xs behind rest.within)
    ∙ ap (λ (m : ℕ). drop m (xs ++ behind)) passed

-- what follows a window
ends_follows : (is_end : Bool) (key : Option (List ℕ)) (t : ℕ) (held : Held) → Ends is_end held → Follows is_end (plain_from key t (unread_bytes held))
ends_follows true None t held ends = ends
ends_follows true (Some key) t held ends = ap (plain_from (Some key) t) ends
ends_follows false key t held ends = tt

pub frames_same : (is_end : Bool) (key : Option (List ℕ)) (n : ℕ) (xs ys : List ℕ) (held : Held) → length xs ≤ n → IsRest xs ys → SameFrames is_end xs ys → Ends is_end held → frames_left (scan_of key n ys) held ≡ frames_left (scan_of key n xs) held
frames_same is_end key n xs ys held within rest same ends =
    let t = bytes_taken (scan_of key n xs) in
    ap (λ (m : ℕ). frames_after 0 (ys ++ plain_from key m (unread_bytes held))) (taken_same key n xs ys within rest)
    ∙ sym (same (plain_from key t (unread_bytes held)) (ends_follows is_end key t held ends))

pub frame_found : (key : Option (List ℕ)) (n : ℕ) (xs ys : List ℕ) (block : Block) (held : Held) → length xs ≤ n → IsRest xs ys → HasFrame false xs block ys → frames_left (scan_of key n xs) held ≡ block ∷ frames_left (scan_of key n ys) held
frame_found key n xs ys block held within rest has =
    let t = bytes_taken (scan_of key n xs) in
    has (plain_from key t (unread_bytes held)) tt
    ∙ ap (λ (m : ℕ). block ∷ frames_after 0 (ys ++ plain_from key m (unread_bytes held))) (sym (taken_same key n xs ys within rest))

pub header_found : (key : Option (List ℕ)) (n : ℕ) (xs ys : List ℕ) (header : Header) (held : Held) → length xs ≤ n → IsRest xs ys → HasHeader xs header ys
    → (block : Block) × (header ≡ block.header) × (frames_left (scan_of key n xs) held ≡ block ∷ frames_left (scan_of key n ys) held)
header_found key n xs ys header held within rest has = (has.0, has.2, frame_found key n xs ys has.0 held within rest has.1)

-- ---- bytes are taken

pub plain_from-nil : (key : Option (List ℕ)) (p : ℕ) → plain_from key p [] ≡ []
plain_from-nil None p = refl
plain_from-nil (Some key) p = refl

pub read_takes : (key : Option (List ℕ)) (offset : ℕ) (xs ys bytes : List ℕ) (s t : Held) → ys ≡ xs ++ bytes → ReadsPlain key offset bytes s t → Takes key offset xs ys s t
read_takes key offset xs ys bytes s t grown read =
    let count : length bytes ≡ length ys - length xs = omega (arith, ap length grown, length-append xs bytes) in
    record {
      bytes = grown ∙ ap (λ (zs : List ℕ). xs ++ zs) (read.plain ∙ ap (λ (n : ℕ). plain_from key offset (take n (unread_bytes s))) count);
      within = omega (arith, read.within, count);
      moves = read.moves ∙ ap (λ (n : ℕ). after_reading n s) count;
    }

pub nothing_taken : (key : Option (List ℕ)) (offset : ℕ) (xs ys : List ℕ) (s t : Held) → ys ≡ xs → t ≡ s → Takes key offset xs ys s t
nothing_taken key offset xs ys s t same kept = read_takes key offset xs ys [] s t (same ∙ sym (append-nil xs)) (record {
  plain = sym (plain_from-nil key offset);
  within = omega arith;
  moves = kept ∙ after_reading-none s;
})

-- the bytes that were taken were left before
pub piece_left : (key : Option (List ℕ)) (n count : ℕ) (xs ys : List ℕ) (s t : Held) → length xs ≤ n → length ys ≡ length xs + count → Takes key n xs ys s t → bytes_left (scan_of key (n + count) ys) t ≡ bytes_left (scan_of key n xs) s
piece_left key n count xs ys s t within grown takes =
    let bytes = unread_bytes s in
    let same : length ys - length xs ≡ count = omega arith in
    let new : bytes_taken (scan_of key (n + count) ys) ≡ n + length (take count bytes) = omega (arith, length-take-le count bytes (omega (arith, takes.within, same))) in
    let front : ys ≡ xs ++ plain_from key n (take count bytes) = takes.bytes ∙ ap (λ (m : ℕ). xs ++ plain_from key n (take m bytes)) same in
    let rest : unread_bytes t ≡ drop count bytes = ap unread_bytes (takes.moves ∙ ap (λ (m : ℕ). after_reading m s) same) ∙ unread_bytes-after count s in
    ap (λ (zs : List ℕ). ys ++ plain_from key (bytes_taken (scan_of key (n + count) ys)) zs) rest
    ∙ ap (λ (m : ℕ). ys ++ plain_from key m (drop count bytes)) new
    ∙ ap (λ (zs : List ℕ). zs ++ plain_from key (n + length (take count bytes)) (drop count bytes)) front
    ∙ append_assoc xs (plain_from key n (take count bytes)) (plain_from key (n + length (take count bytes)) (drop count bytes))
    ∙ ap (λ (zs : List ℕ). xs ++ zs) (sym (plain_from-append key n (take count bytes) (drop count bytes)))
    ∙ ap (λ (zs : List ℕ). xs ++ plain_from key n zs) (take-append-drop count bytes)
    ∙ ap (λ (m : ℕ). xs ++ plain_from key m bytes) (sym (taken_of key n xs within))

-- ---- a whole file

from_start : (key : Option (List ℕ)) (bytes : List ℕ) → frames_after 0 (plain_from key 0 bytes) ≡ frames bytes key
from_start None bytes = refl
from_start (Some key) bytes = refl

-- over an input that was just opened, a new scan has the frames of the whole file before it
pub frames_left-opened : (key : Option (List ℕ)) (name : List ℕ) (s t : Held) → Opens {E = Unit {0}} name (Ok tt) s t → frames_left (at_start key) t ≡ frames (bytes_of s name) key
frames_left-opened key name s t opened = ap (λ held. frames_left (at_start key) held) opened.1 ∙ from_start key (bytes_of s name)
