use Rattle.std.proofs.Common.{◌≡◌, ◌||◌, ◌<◌, ◌≤◌, length, sym, ap, ◌∙◌, arith}
use Rattle.std.specs.Option.{unwrap_or}
use Rattle.std.specs.List.{slice_get}
use Rattle.block_codec.specs.Text.{zero_hash}
use Rattle.block_codec.specs.Merkle.{has_twins, merkle_root, is_mutated}
use Rattle.merkle.proofs.Rising.{length-level_above, merkle_root-above, is_mutated-above, merkle_root_top, is_mutated_top, or_assoc}
use Rattle.merkle.proofs.levels.root_in_place.Goals as goal

pub loop-level-smaller : goal.loop-level-smaller
loop-level-smaller c =
    let above = ap length c.rise.ensures in
    omega (arith, length-level_above c.loop-level.level.items)

pub loop-level-preserved : goal.loop-level-preserved
loop-level-preserved c =
    let hashes = c.loop-level.level.items in
    let mutated = c.loop-level.mutated in
    let many : 1 < length hashes = omega arith in
    let twins : c.has_twins-mutated.result ≡ has_twins hashes = c.has_twins-mutated.ensures ∙ ap has_twins c.deref.ensures.value in
    record {
      root = ap merkle_root c.rise.ensures ∙ merkle_root-above hashes many ∙ c.loop-level.invariant.root;
      twins =
          or_assoc mutated c.has_twins-mutated.result (is_mutated c.rise.new.level.items) ∙
          ap (λ t. mutated || (t || is_mutated c.rise.new.level.items)) twins ∙
          ap (λ l. mutated || (has_twins hashes || is_mutated l)) c.rise.ensures ∙
          ap (λ t. mutated || t) (is_mutated-above hashes many) ∙
          c.loop-level.invariant.twins;
    }

pub returns : goal.returns
returns c =
    let hashes = c.loop-level.level.items in
    let few : length hashes ≤ 1 = omega arith in
    let hash : c.unwrap_or-hash.result ≡ merkle_root c.args.hashes.items =
    c.unwrap_or-hash.ensures ∙
    ap (λ o. unwrap_or o zero_hash) (c.copied.ensures ∙ c.first.ensures.value ∙ ap (λ l. slice_get l 0) c.deref-2.ensures.value) ∙
    merkle_root_top hashes few ∙
    c.loop-level.invariant.root in
    let mutated : c.loop-level.mutated ≡ is_mutated c.args.hashes.items = sym (is_mutated_top c.loop-level.mutated hashes few) ∙ c.loop-level.invariant.twins in
    cc (hash, mutated)
