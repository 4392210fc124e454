use Rattle.std.proofs.Common.{ℕ, ◌/◌, List, length, get_or, ap, sym, ◌∙◌}
use Rattle.std.proofs.lemmas.Option.{unwrap_or-slice_get}
use Rattle.std.proofs.lemmas.List.Sorted.{IsNonDecreasingBy-from_sort}
use Rattle.chain_model.specs.Tree.{rising}
use Rattle.header_tree.proofs.Sorting.{sorted_is_rising}
use Rattle.header_tree.proofs.median.median_of.Goals as goal

pub returns : goal.returns
returns c =
    let is = sorted_is_rising c.args.times.now c.sort_unstable.new.self c.sort_unstable.ensures.permutation (IsNonDecreasingBy-from_sort (λ (n : ℕ). n) c.sort_unstable.new.self c.sort_unstable.ensures.sorted) in
    ap (λ (xs : List ℕ). get_or xs (length c.sort_unstable.new.self / 2) 0) is
    ∙ ap (λ (n : ℕ). get_or (rising c.args.times.now) (n / 2) 0) c.sort_unstable.ensures.len
    ∙ sym (unwrap_or-slice_get (rising c.args.times.now) (length c.args.times.now / 2) 0)
