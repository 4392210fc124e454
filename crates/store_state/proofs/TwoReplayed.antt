-- The replay of two blocks above genesis, one above the other.
use Rattle.std.proofs.Common.{◌≡◌, ℕ, ◌+◌, true, false, List, [], ◌∷◌, length, ◌-◌, Option, Some, None, Ok, Err, refl, sym, ap, ◌∙◌}
use Rattle.std.specs.Prelude.{Result, is_some, reverse, take_while}
use Rattle.std.specs.List.{list_any}
use Rattle.std.specs.Option.{option_and_then}
use Rattle.std.specs.Result.{result_ok}
use Rattle.std.specs.FinMap.{get, insert, empty}
use Rattle.std.specs.FinMap as finite
use Rattle.base_types.specs.Coins.{Coins}
use Rattle.base_types.specs.Reading.{◌>>=◌}
use Rattle.base_types.specs.declared.hash.Hash32.{Hash32}
use Rattle.base_types.specs.declared.program.Rules.{Rules}
use Rattle.base_types.specs.declared.refused.CoinRefused.{CoinRefused}
use Rattle.block_codec.specs.declared.block.Block.{Block}
use Rattle.block_codec.specs.Text.{same_hash}
use Rattle.chain_model.specs.Apply.{outcome, replayed}
use Rattle.chain_model.specs.Choice.{Choice, refused_or, lowest_refused, refused_below, blocks_of, blocks_to, coins_at, is_valid, is_at_or_below, and_block}
use Rattle.chain_model.specs.HeaderRules.{first_tree, with_header}
use Rattle.chain_model.specs.Tree.{Tree, chain, chain_within, height, path}
use Rattle.block_codec.specs.Genesis.{genesis, genesis_hash}
use Rattle.store_state.proofs.OneBlock.{stored_path}
use Rattle.store_state.specs.SmallStores.{TwoBlocks, first_hash, second_hash, tree_of_two, choice_of_two}
use Rattle.chain_model.proofs.SmallTrees.{is_new, above, at_genesis, any_third, taken_two, is_past_genesis, past, not_past, apart_of_one, known_of_one, genesis_of_one, two_members}
use Rattle.chain_model.proofs.Hashes.{get_same, get_other, len_new, apart_from, same_self}

module _ (limit : ℕ) (given : Rules) (blocks : TwoBlocks limit given) where
  abbrev lower : Hash32
  lower = first_hash limit given blocks

  abbrev upper : Hash32
  upper = second_hash limit given blocks

  abbrev tree : Tree
  tree = tree_of_two limit given blocks

  abbrev choice : Coins → Choice
  choice start = choice_of_two limit given blocks start

  -- ---- their chain

  new_in_one : get (with_header (first_tree given) blocks.first.header).headers upper ≡ None
  new_in_one = is_new limit (with_header (first_tree given) blocks.first.header) blocks.second.header blocks.second_child.accepted

  apart_from_first : upper ≡ lower → ⊥
  apart_from_first = apart_from (with_header (first_tree given) blocks.first.header).headers upper lower blocks.first.header new_in_one (known_of_one limit given blocks.first.header blocks.first_child)

  apart_from_genesis : upper ≡ genesis_hash → ⊥
  apart_from_genesis = apart_from (with_header (first_tree given) blocks.first.header).headers upper genesis_hash genesis new_in_one (genesis_of_one limit given blocks.first.header blocks.first_child)

  three_members : finite.len tree.headers ≡ 3
  three_members = len_new (with_header (first_tree given) blocks.first.header).headers upper blocks.second.header new_in_one ∙ ap (λ (n : ℕ). n + 1) (two_members limit given blocks.first.header blocks.first_child)

  second_known : get tree.headers upper ≡ Some blocks.second.header
  second_known = get_same (with_header (first_tree given) blocks.first.header).headers upper blocks.second.header

  first_known : get tree.headers lower ≡ Some blocks.first.header
  first_known = get_other (with_header (first_tree given) blocks.first.header).headers upper blocks.second.header lower (λ e. apart_from_first (sym e)) ∙ known_of_one limit given blocks.first.header blocks.first_child

  first_apart : lower ≡ genesis_hash → ⊥
  first_apart = apart_of_one limit given blocks.first.header blocks.first_child

  chain_of_first : chain tree.headers lower ≡ lower ∷ genesis_hash ∷ []
  chain_of_first =
      ap (λ (n : ℕ). chain_within n tree.headers lower) three_members
      ∙ above 2 tree.headers lower blocks.first.header first_apart first_known
      ∙ ap (λ (h : Hash32). lower ∷ chain_within 2 tree.headers h) blocks.first_child.below
      ∙ ap (λ (l : List Hash32). lower ∷ l) (at_genesis 1 tree.headers)

  pub chain_of_second : chain tree.headers upper ≡ upper ∷ lower ∷ genesis_hash ∷ []
  chain_of_second =
      ap (λ (n : ℕ). chain_within n tree.headers upper) three_members
      ∙ above 2 tree.headers upper blocks.second.header apart_from_genesis second_known
      ∙ ap (λ (h : Hash32). upper ∷ chain_within 2 tree.headers h) blocks.second_child.below
      ∙ ap (λ (l : List Hash32). upper ∷ l) (above 1 tree.headers lower blocks.first.header first_apart first_known)
      ∙ ap (λ (h : Hash32). upper ∷ lower ∷ chain_within 1 tree.headers h) blocks.first_child.below
      ∙ ap (λ (l : List Hash32). upper ∷ lower ∷ l) (at_genesis 0 tree.headers)

  -- they stand at heights 1 and 2
  pub first_height : height tree.headers lower ≡ 1
  first_height = ap (λ (l : List Hash32). length l - 1) chain_of_first

  pub second_height : height tree.headers upper ≡ 2
  second_height = ap (λ (l : List Hash32). length l - 1) chain_of_second

  reached : is_at_or_below tree.headers genesis_hash upper ≡ true
  reached = ap (λ (l : List Hash32). list_any (same_hash genesis_hash) l) chain_of_second ∙ any_third (same_hash genesis_hash) upper lower genesis_hash (same_self genesis_hash)

  pub path_of_two : path tree.headers genesis_hash upper ≡ lower ∷ upper ∷ []
  path_of_two =
      ap (λ (l : List Hash32). reverse (take_while is_past_genesis l)) chain_of_second
      ∙ ap (λ (l : List Hash32). reverse l) (taken_two is_past_genesis upper lower genesis_hash (past upper apart_from_genesis) (past lower first_apart) not_past)

  -- ---- their replay

  module _ (start : Coins) where
    blocks_there : blocks_of (choice start).bodies (lower ∷ upper ∷ []) ≡ Some (blocks.first ∷ blocks.second ∷ [])
    blocks_there =
        ap (λ (o : Option Block). and_block o (blocks_of (choice start).bodies (upper ∷ []))) (get_other (insert empty lower blocks.first) upper blocks.second lower (λ e. apart_from_first (sym e)) ∙ get_same empty lower blocks.first)
        ∙ ap (λ (o : Option Block). and_block (Some blocks.first) (and_block o (Some []))) (get_same (insert empty lower blocks.first) upper blocks.second)

    both_there : blocks_to (choice start) upper ≡ Some (blocks.first ∷ blocks.second ∷ [])
    both_there = stored_path (choice start) upper (lower ∷ upper ∷ []) (blocks.first ∷ blocks.second ∷ []) reached path_of_two blocks_there

    all_of : (r : Result Coins CoinRefused) → (r >>= λ coins. Ok coins) ≡ r
    all_of (Ok coins) = refl
    all_of (Err why) = refl

    -- the replay of the two is the second over what the first gives
    pub replayed_two : replayed tree start (blocks.first ∷ blocks.second ∷ []) ≡ (outcome tree start blocks.first >>= λ middle. outcome tree middle blocks.second)
    unfolding replayed
    replayed_two = after (outcome tree start blocks.first)
      where
        after : (r : Result Coins CoinRefused) → (r >>= λ middle. outcome tree middle blocks.second >>= λ coins. Ok coins) ≡ (r >>= λ middle. outcome tree middle blocks.second)
        after (Ok middle) = all_of (outcome tree middle blocks.second)
        after (Err why) = refl

    -- the coins after both are those after the second over those after the first
    pub coins_after_two : (middle : Coins) → outcome tree start blocks.first ≡ Ok middle → coins_at (choice start) upper ≡ result_ok (outcome tree middle blocks.second)
    coins_after_two middle first =
        ap (option_and_then (λ bs. result_ok (replayed tree start bs))) both_there
        ∙ ap result_ok replayed_two
        ∙ ap (λ (r : Result Coins CoinRefused). result_ok (r >>= λ m. outcome tree m blocks.second)) first

    refusals_of_two : refused_below (choice start) upper ≡ lowest_refused tree start (lower ∷ upper ∷ []) (blocks.first ∷ blocks.second ∷ [])
    refusals_of_two =
        ap (option_and_then (λ bs. lowest_refused tree start (path tree.headers genesis_hash upper) bs)) both_there
        ∙ ap (λ (l : List Hash32). lowest_refused tree start l (blocks.first ∷ blocks.second ∷ [])) path_of_two

    -- where the second breaks a rule, it is the lowest that does
    pub second_refused : (middle : Coins) (rule : CoinRefused) → outcome tree start blocks.first ≡ Ok middle → outcome tree middle blocks.second ≡ Err rule
        → refused_below (choice start) upper ≡ Some (record { hash = upper; why = rule })
    unfolding lowest_refused
    second_refused middle rule first second =
        refusals_of_two
        ∙ ap (λ (r : Result Coins CoinRefused). refused_or lower r (λ next. lowest_refused tree next (upper ∷ []) (blocks.second ∷ []))) first
        ∙ ap (λ (r : Result Coins CoinRefused). refused_or upper r (λ next. lowest_refused tree next [] [])) second

    -- and the block isn't valid
    pub second_invalid : (middle : Coins) (rule : CoinRefused) → outcome tree start blocks.first ≡ Ok middle → outcome tree middle blocks.second ≡ Err rule
        → is_valid (choice start) upper ≡ false
    second_invalid middle rule first second = ap (λ (o : Option Coins). is_some o) (coins_after_two middle first ∙ ap result_ok second)

    -- where the first breaks one, the second isn't judged
    pub first_refused : (rule : CoinRefused) → outcome tree start blocks.first ≡ Err rule → refused_below (choice start) upper ≡ Some (record { hash = lower; why = rule })
    unfolding lowest_refused
    first_refused rule first =
        refusals_of_two ∙ ap (λ (r : Result Coins CoinRefused). refused_or lower r (λ next. lowest_refused tree next (upper ∷ []) (blocks.second ∷ []))) first
