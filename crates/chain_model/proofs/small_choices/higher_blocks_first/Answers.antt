use Rattle.std.proofs.Common.{[]}
use Rattle.chain_model.proofs.SmallChoices.{in_order, best_of_all, above_a, best_stays, tries_best, refuses_none, way_from_fork, stays_without_way}
use Rattle.chain_model.proofs.small_choices.higher_blocks_first.Goals as goal

pub returns : goal.returns
returns c = record { order = in_order; best = best_of_all; higher = above_a []; stays = best_stays; tried = tries_best; none_refused = refuses_none; way = way_from_fork; no_way = stays_without_way }
