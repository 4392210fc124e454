use Rattle.std.proofs.Common.{◌≡◌, ◌+◌, ◌*◌, ◌<◌, ◌≤◌, length, get_or, take, slice_set, sym, ap, ◌∙◌, arith}
use Rattle.std.specs.Option.{unwrap_or}
use Rattle.merkle.proofs.Rising.{raised, raised-next, raised_all}
use Rattle.merkle.proofs.levels.rise.Goals as goal

pub loop-pair-preserved : goal.loop-pair-preserved
loop-pair-preserved c =
    let i = c.loop-pair.pair in
    let hashes = c.loop-pair.level.items in
    let left = c.index.result.now in
    let lt : 2 * i < length hashes = omega arith in
    let right : c.unwrap_or-right.result ≡ get_or hashes (2 * i + 1) left =
    c.unwrap_or-right.ensures ∙ ap (λ o. unwrap_or o left) c.copied.ensures ∙ c.get.ensures.lookup.4 (omega arith) left ∙ ap (λ l. get_or l (2 * i + 1) left) c.deref.ensures.value in
    record {
      written = ap (λ h. raised (i + 1) (slice_set hashes i h)) c.hash_of_both.ensures ∙ raised-next i hashes left c.unwrap_or-right.result lt c.index.ensures right ∙ c.loop-pair.invariant.written;
      same_length = c.loop-pair.invariant.same_length;
    }

pub returns : goal.returns
returns c =
    let pairs = c.loop-pair.pair in
    let hashes = c.loop-pair.level.items in
    let same : c.div_ceil-pairs.result ≡ pairs = omega arith in
    let all : length hashes ≤ 2 * pairs = omega arith in
    c.truncate.ensures.items ∙ ap (λ n. take n hashes) same ∙ sym (raised_all pairs hashes all) ∙ c.loop-pair.invariant.written
