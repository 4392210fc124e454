-- A snapshot file that is fed in one piece.
use Rattle.std.proofs.Common.{◌≡◌, ℕ, List, [], ◌++◌, length, Option, Some, None, Result, Ok, Err, refl, sym, ap, ◌∙◌, append_assoc}
use Rattle.std.specs.List.{flat_map}
use Rattle.base_types.specs.declared.snapshot_error.SnapError.{SnapError}
use Rattle.snapshot_file.specs.Fed.{Gave, Refused, FeedAnswer, feeding, end_of, finish_of, is_whole, news, bad}
use Rattle.snapshot_file.specs.Items.{Stop, Wrong, from_first, head_at}
use Rattle.snapshot_file.specs.Part.{Part, behind_head, read_part}
use Rattle.snapshot_file.specs.declared.coins.SnapCoin.{SnapCoin}
use Rattle.snapshot_file.specs.declared.fault.SnapFault.{SnapFault}
use Rattle.snapshot_file.specs.declared.fault.SnapFault.TheVariants.{NoMemory, Bad}
use Rattle.snapshot_file.specs.declared.reader.Reader.{Reader}
use Rattle.snapshot_file.specs.declared.head.SnapHead.{SnapHead}
use Rattle.snapshot_file.specs.declared.reader.Pieces.{Pieces}
use Rattle.snapshot_file.proofs.HeadLaws.{head_none}
use Rattle.coins_inspect.specs.Names.{snap_error}
use Rattle.coins_inspect.specs.Reports.{fault_line}
use Rattle.coins_inspect.specs.SnapshotReports.{head_lines, snap_coin_lines, finish_lines, IsFinish, part_lines, snapshot_report}

-- no bytes say nothing
before_all : read_part None [] ≡ record { head = None; coins = []; fault = None }
unfolding read_part
before_all = ap (λ r. behind_head None r) head_none

-- the lines of an end
said : (len : ℕ) (finish : Result (Unit {0}) SnapFault) (old new : List ℕ) → IsFinish len finish (λ lines. new ≡ old ++ lines) → new ≡ old ++ finish_lines len finish
said len (Ok done) old new is = is
said len (Err (Bad error at)) old new is = is
said len (Err NoMemory) old new is = absurd is

pub gave_all : (bytes old mid new : List ℕ) (pieces : Pieces) (next : Option SnapFault) (finish : Result (Unit {0}) SnapFault)
    → Gave (read_part None []) (read_part None bytes) pieces next → finish ≡ finish_of None bytes
    → mid ≡ old ++ head_lines pieces.head ++ flat_map snap_coin_lines pieces.coins → IsFinish (length bytes) finish (λ lines. new ≡ mid ++ lines)
    → new ≡ old ++ snapshot_report bytes
unfolding snapshot_report
gave_all bytes old mid new pieces next finish gave ends printed then =
    let part = read_part None bytes in
    let head : pieces.head ≡ part.head = gave.became.head_is ∙ ap (λ (p : Part). news p.head part.head) before_all in
    let coins : pieces.coins ≡ part.coins = sym (gave.became.coins_are ∙ ap (λ (p : Part). p.coins ++ pieces.coins) before_all) in
    let lines : mid ≡ old ++ part_lines part = printed ∙ ap (λ (h : Option SnapHead). (old ++ head_lines h) ++ flat_map snap_coin_lines pieces.coins) head
    ∙ ap (λ (cs : List SnapCoin). (old ++ head_lines part.head) ++ flat_map snap_coin_lines cs) coins
    ∙ append_assoc old (head_lines part.head) (flat_map snap_coin_lines part.coins) in
    said (length bytes) finish mid new then ∙ ap (λ (l : List ℕ). l ++ finish_lines (length bytes) finish) lines
    ∙ ap (λ (r : Result (Unit {0}) SnapFault). (old ++ part_lines part) ++ finish_lines (length bytes) r) ends
    ∙ append_assoc old (part_lines part) (finish_lines (length bytes) (finish_of None bytes))

refused_all : (bytes old new : List ℕ) (error : SnapError) (at : ℕ) → Refused (read_part None []) (read_part None bytes) (error, at)
    → new ≡ old ++ fault_line (snap_error error) at → new ≡ old ++ snapshot_report bytes
unfolding snapshot_report
refused_all bytes old new error at refused then =
    let part = read_part None bytes in
    let head : part.head ≡ None = refused.head ∙ ap (λ (p : Part). p.head) before_all in
    let coins : part.coins ≡ [] = refused.coins ∙ ap (λ (p : Part). p.coins) before_all in
    let lines : part_lines part ≡ [] = ap (λ (h : Option SnapHead). head_lines h ++ flat_map snap_coin_lines part.coins) head ∙ ap (λ (cs : List SnapCoin). flat_map snap_coin_lines cs) coins in
    let ends : finish_of None bytes ≡ Err (bad (error, at)) = ap (λ (w : Option Wrong). end_of w (is_whole part) (length bytes)) refused.fault in
    then ∙ ap (λ (r : Result (Unit {0}) SnapFault). old ++ finish_lines (length bytes) r) (sym ends)
    ∙ ap (λ (l : List ℕ). old ++ (l ++ finish_lines (length bytes) (finish_of None bytes))) (sym lines)

pub refused_there : (fault : SnapFault) (bytes old new : List ℕ) (reader : Reader) (len : ℕ) → FeedAnswer (feeding None [] bytes) (Err fault) reader
    → IsFinish len (Err fault) (λ lines. new ≡ old ++ lines) → new ≡ old ++ snapshot_report bytes
refused_there NoMemory bytes old new reader len answer then = absurd then
refused_there (Bad error at) bytes old new reader len answer then = refused_all bytes old new error at answer then
