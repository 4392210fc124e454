use Rattle.chain_model.proofs.SmallChoices.{best_is_refused, tries_greedy, refuses_greedy, not_again}
use Rattle.chain_model.proofs.small_choices.greedy_block_refused.Goals as goal

pub returns : goal.returns
returns c = record { best = best_is_refused; tried = tries_greedy; refused = refuses_greedy; not_again = not_again }
