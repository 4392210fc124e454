-- The frames of bytes, from one place to the next.
use Rattle.std.proofs.Common.{◌≡◌, ◌≢◌, ◌<◌, ◌≤◌, ◌+◌, ◌-◌, ℕ, zero, suc, Bool, true, false, List, [], ◌∷◌, ◌++◌, length, take, drop, get_or, refl, sym, ap, ◌∙◌, arith}
use Rattle.std.specs.Prelude.{Option, Some, None, Result, Ok, Err, is_ok, if◌then◌else◌, nat_eq}
use Rattle.std.specs.List.{between}
use Rattle.std.specs.Result.{result_ok}
use Rattle.std.specs.Option.{unwrap_or}
use Rattle.std.proofs.Common.{eq-eqb}
use Rattle.std.proofs.lemmas.Bool.{ne_eqb}
use Rattle.std.proofs.lemmas.List.{drop-append-le, take-append-le, length-drop, append-nil}
use Rattle.memchr.specs.Find.{IsFirstByte, is_byte}
use Rattle.block_codec.specs.declared.block.Block.{Block}
use Rattle.block_codec.specs.Reading.{Wrong, block_of}
use Rattle.block_codec.specs.Frames.{begins_frame, frame_len, frame_at, found_or, frames_after}
use Rattle.frame_scan.specs.declared.head.Head.TheVariants.{Absent, Whole}
use Rattle.frame_scan.specs.Head.{IsHeadOf}
use Rattle.frame_scan.specs.Search.{SameFrames, HasFrame, BeginsBlock}
use Rattle.frame_scan.proofs.Headers.{block_there}

frames_after-nil : (n : ℕ) → frames_after n [] ≡ []
unfolding frames_after
frames_after-nil zero = refl
frames_after-nil (suc n) = refl

frames_after-drop : (n : ℕ) (bytes : List ℕ) → frames_after n bytes ≡ frames_after 0 (drop n bytes)
unfolding frames_after
frames_after-drop zero bytes = refl
frames_after-drop (suc n) [] = refl
frames_after-drop (suc n) (byte ∷ bytes) = frames_after-drop n bytes

-- no frame stands here
none_here : (bytes : List ℕ) → begins_frame bytes ≡ false → frames_after 0 bytes ≡ frames_after 0 (drop 1 bytes)
unfolding frames_after frame_at
none_here [] absent = refl
none_here (byte ∷ bytes) absent =
    let all = byte ∷ bytes in
    ap (λ (b : Bool). found_or (if b then result_ok (block_of (take (frame_len all) (drop 8 all))) else None) (frames_after 0 bytes) (frames_after (7 + frame_len all) bytes)) absent

-- a head stands here, with bytes that are no block
no_block_here : (bytes : List ℕ) (len : ℕ) (wrong : Wrong) → begins_frame bytes ≡ true → frame_len bytes ≡ len → block_of (take len (drop 8 bytes)) ≡ Err wrong → frames_after 0 bytes ≡ frames_after 0 (drop 1 bytes)
unfolding frames_after frame_at
no_block_here [] len wrong head size is = refl
no_block_here (byte ∷ bytes) len wrong head size is =
    let all = byte ∷ bytes in
    let next = frames_after 0 bytes in
    let behind = frames_after (7 + frame_len all) bytes in
    ap (λ (b : Bool). found_or (if b then result_ok (block_of (take (frame_len all) (drop 8 all))) else None) next behind) head
    ∙ ap (λ n. found_or (result_ok (block_of (take n (drop 8 all)))) next behind) size
    ∙ ap (λ r. found_or (result_ok r) next behind) is

-- a frame stands here
block_here : (bytes : List ℕ) (len : ℕ) (block : Block) → begins_frame bytes ≡ true → frame_len bytes ≡ len → block_of (take len (drop 8 bytes)) ≡ Ok block → frames_after 0 bytes ≡ block ∷ frames_after 0 (drop (8 + len) bytes)
unfolding frames_after frame_at
block_here [] len block head size is = cc
block_here (byte ∷ bytes) len block head size is =
    let all = byte ∷ bytes in
    let next = frames_after 0 bytes in
    let whole : suc (7 + len) ≡ 8 + len = omega arith in
    ap (λ (b : Bool). found_or (if b then result_ok (block_of (take (frame_len all) (drop 8 all))) else None) next (frames_after (7 + frame_len all) bytes)) head
    ∙ ap (λ n. found_or (result_ok (block_of (take n (drop 8 all)))) next (frames_after (7 + n) bytes)) size
    ∙ ap (λ r. found_or (result_ok r) next (frames_after (7 + len) bytes)) is
    ∙ ap (λ blocks. block ∷ blocks) (frames_after-drop (7 + len) bytes ∙ ap (λ n. frames_after 0 (drop n all)) whole)

-- ---- the bytes of a window, whatever follows them

pub SameFrames-itself : (is_end : Bool) (xs : List ℕ) → SameFrames is_end xs xs
SameFrames-itself is_end xs = λ rest follows. refl

pub SameFrames-then : (is_end : Bool) (xs ys zs : List ℕ) → SameFrames is_end xs ys → SameFrames is_end ys zs → SameFrames is_end xs zs
SameFrames-then is_end xs ys zs first second = λ rest follows. first rest follows ∙ second rest follows

pub HasFrame-then : (is_end : Bool) (xs ys zs : List ℕ) (block : Block) → SameFrames is_end xs ys → HasFrame is_end ys block zs → HasFrame is_end xs block zs
HasFrame-then is_end xs ys zs block first second = λ rest follows. first rest follows ∙ second rest follows

pub SameFrames-any : (is_end : Bool) (xs ys : List ℕ) → SameFrames false xs ys → SameFrames is_end xs ys
SameFrames-any is_end xs ys same = λ rest follows. same rest tt

pub HasFrame-any : (is_end : Bool) (xs ys : List ℕ) (block : Block) → HasFrame false xs block ys → HasFrame is_end xs block ys
HasFrame-any is_end xs ys block has = λ rest follows. has rest tt

pub absent_passed : (bytes : List ℕ) → IsHeadOf bytes Absent → SameFrames false bytes (drop 1 bytes)
absent_passed bytes is = λ rest follows.
    none_here (bytes ++ rest) (is.1 rest) ∙ ap (frames_after 0) (drop-append-le 1 bytes rest is.0)

-- a head that claims more than is there is none at the end of the file
pub cut_passed : (is_end : Bool) (bytes : List ℕ) → is_end ≡ true → 0 < length bytes → begins_frame bytes ≡ false → SameFrames is_end bytes (drop 1 bytes)
cut_passed true bytes end some absent = λ rest nothing.
    ap (λ (r : List ℕ). frames_after 0 (bytes ++ r)) nothing
    ∙ ap (frames_after 0) (append-nil bytes)
    ∙ none_here bytes absent
    ∙ ap (frames_after 0) (sym (append-nil (drop 1 bytes)))
    ∙ ap (λ (r : List ℕ). frames_after 0 (drop 1 bytes ++ r)) (sym nothing)
cut_passed false bytes end some absent = cc

-- the bytes behind a head, whatever follows
behind_head : (bytes rest : List ℕ) (len : ℕ) → 8 + len ≤ length bytes → take len (drop 8 (bytes ++ rest)) ≡ between 8 (8 + len) bytes
behind_head bytes rest len within =
    let whole : len ≤ length (drop 8 bytes) = omega (arith, length-drop 8 bytes) in
    let same : len ≡ 8 + len - 8 = omega arith in
    ap (take len) (drop-append-le 8 bytes rest (omega arith)) ∙ take-append-le len (drop 8 bytes) rest whole ∙ ap (λ n. take n (drop 8 bytes)) same

pub block_taken : (bytes : List ℕ) (len : ℕ) (block : Block) → IsHeadOf bytes (Whole len) → block_of (between 8 (8 + len) bytes) ≡ Ok block → HasFrame false bytes block (drop (8 + len) bytes)
block_taken bytes len block is read = λ rest follows.
    block_here (bytes ++ rest) len block (is.1 rest).0 (is.1 rest).1 (ap block_of (behind_head bytes rest len is.0) ∙ read)
    ∙ ap (λ (zs : List ℕ). block ∷ frames_after 0 zs) (drop-append-le (8 + len) bytes rest is.0)

-- the frame of a block that stands first
pub frame_first : (len : ℕ) (bytes : List ℕ) → BeginsBlock len bytes → (block : Block) × (frame_at bytes ≡ Some block)
unfolding frame_at
frame_first len bytes begins =
    let there = block_there (between 8 (8 + len) bytes) begins.block in
    let none = append-nil bytes in
    let head : begins_frame bytes ≡ true = ap begins_frame (sym none) ∙ (begins.head.1 []).0 in
    let size : frame_len bytes ≡ len = ap frame_len (sym none) ∙ (begins.head.1 []).1 in
    let same : take len (drop 8 bytes) ≡ between 8 (8 + len) bytes = ap (λ (zs : List ℕ). take len (drop 8 zs)) (sym none) ∙ behind_head bytes [] len begins.head.0 in (
      there.0,
      ap (λ (b : Bool). if b then result_ok (block_of (take (frame_len bytes) (drop 8 bytes))) else None) head
          ∙ ap (λ n. result_ok (block_of (take n (drop 8 bytes)))) size
          ∙ ap (λ r. result_ok r) (ap block_of same ∙ there.1),
    )

-- what is not read has a fault
fault_of : (read : Result Block Wrong) → is_ok read ≡ false → (wrong : Wrong) × (read ≡ Err wrong)
fault_of (Ok block) refused = absurd cc
fault_of (Err wrong) refused = (wrong, refl)

pub head_passed : (bytes : List ℕ) (len : ℕ) → IsHeadOf bytes (Whole len) → is_ok (block_of (between 8 (8 + len) bytes)) ≡ false → SameFrames false bytes (drop 1 bytes)
head_passed bytes len is refused = λ rest follows.
    let fault = fault_of (block_of (between 8 (8 + len) bytes)) refused in
    no_block_here (bytes ++ rest) len fault.0 (is.1 rest).0 (is.1 rest).1 (ap block_of (behind_head bytes rest len is.0) ∙ fault.1)
    ∙ ap (frames_after 0) (drop-append-le 1 bytes rest (omega (arith, is.0)))

-- ---- bytes with which no head begins

not_magic : (byte : ℕ) (bytes : List ℕ) → byte ≢ 250 → begins_frame (byte ∷ bytes) ≡ false
not_magic byte bytes other =
    let absent : nat_eq 250 byte ≡ false = ne_eqb 250 byte (λ is. other (sym is)) in
    rw absent refl

pub others_passed : (n : ℕ) (bytes : List ℕ) → n ≤ length bytes → ((k : ℕ) → k < n → get_or bytes k 0 ≢ 250) → SameFrames false bytes (drop n bytes)
others_passed zero bytes within none = λ rest follows. refl
others_passed (suc n) [] within none = λ rest follows. refl
others_passed (suc n) (byte ∷ bytes) within none = λ rest follows.
    none_here (byte ∷ bytes ++ rest) (not_magic byte (bytes ++ rest) (none 0 (omega arith)))
    ∙ others_passed n bytes (omega (arith, within)) (λ k below. none (suc k) (omega (arith, below))) rest tt

-- up to the first of these bytes, or with none to the end
pub before_magic : (bytes : List ℕ) (place : Option ℕ) → IsFirstByte (is_byte 250) bytes place → SameFrames false bytes (drop (unwrap_or place (length bytes)) bytes)
before_magic bytes None none =
    others_passed (length bytes) bytes (omega arith) (λ k below is. none k (omega arith) below (eq-eqb (get_or bytes k 0) 250 is))
before_magic bytes (Some n) found =
    others_passed n bytes (omega (arith, found.0.high)) (λ k below is. found.0.before k (omega arith) below (eq-eqb (get_or bytes k 0) 250 is))
