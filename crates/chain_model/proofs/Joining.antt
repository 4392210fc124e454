-- Blocks one after the other.
use Rattle.std.proofs.Common.{◌≡◌, ◌<◌, ◌+◌, ℕ, List, [], ◌∷◌, ◌++◌, length, take, drop, get_or, Result, Ok, Err, refl, sym, ap, subst, ◌∙◌}
use Rattle.std.proofs.lemmas.List.{take_more, at_drop_more, take-append-drop}
use Rattle.base_types.specs.Reading.{◌>>=◌}
use Rattle.base_types.specs.Coins.{Coins}
use Rattle.base_types.specs.declared.hash.Hash32.{Hash32}
use Rattle.base_types.specs.declared.refused.CoinRefused.{CoinRefused}
use Rattle.block_codec.specs.declared.block.Block.{Block}
use Rattle.block_codec.specs.Text.{hash_of_header}
use Rattle.chain_model.specs.Tree.{Tree}
use Rattle.chain_model.specs.Apply.{outcome, replayed}
use Rattle.chain_model.specs.declared.fault.ReplayFault.{ReplayFault}
use Rattle.chain_model.specs.declared.fault.ReplayFault.TheVariants.{NoMemory, Refused}
use Rattle.chain_model.specs.Answers.{OnRefused, RefusedBy}
use Rattle.chain_model.specs.Laws.{BreaksAt, Joins}

joined : (tree : Tree) (start : Coins) (first second : List Block) → replayed tree start (first ++ second) ≡ (replayed tree start first >>= λ middle. replayed tree middle second)
unfolding replayed
joined tree start [] second = refl
joined tree start (block ∷ first) second = go (λ next. joined tree next first second) (outcome tree start block)
  where
    go : ((next : Coins) → replayed tree next (first ++ second) ≡ (replayed tree next first >>= λ middle. replayed tree middle second)) → (r : Result Coins CoinRefused) → (r >>= λ next. replayed tree next (first ++ second)) ≡ ((r >>= λ next. replayed tree next first) >>= λ middle. replayed tree middle second)
    go later (Ok next) = later next
    go later (Err rule) = refl

pub joins : (tree : Tree) (start : Coins) (blocks : List Block) → Joins tree start blocks
joins tree start blocks first second e = ap (λ (all : List Block). replayed tree start all) e ∙ joined tree start first second

-- ---- a block after those before it

module _ (tree : Tree) (start middle : Coins) (blocks : List Block) (i : ℕ) (block : Block) (within : i < length blocks) (is : block ≡ get_or blocks i block) (so_far : replayed tree start (take i blocks) ≡ Ok middle) where
  pub one_more : (next : Coins) → outcome tree middle block ≡ Ok next → replayed tree start (take (i + 1) blocks) ≡ Ok next
  unfolding replayed
  one_more next e =
      ap (λ (some : List Block). replayed tree start some) (take_more blocks i block within ∙ ap (λ (b : Block). take i blocks ++ b ∷ []) (sym is))
      ∙ joined tree start (take i blocks) (block ∷ [])
      ∙ ap (λ (r : Result Coins CoinRefused). r >>= (λ coins. replayed tree coins (block ∷ []))) so_far
      ∙ ap (λ (r : Result Coins CoinRefused). r >>= (λ coins. replayed tree coins [])) e

  cut : blocks ≡ take i blocks ++ block ∷ drop (i + 1) blocks
  cut =
      sym (take-append-drop i blocks)
      ∙ at_drop_more (λ (rest : List Block). take i blocks ++ rest) blocks i block within
      ∙ ap (λ (b : Block). take i blocks ++ b ∷ drop (i + 1) blocks) (sym is)

  pub replay_breaks : (rule : CoinRefused) → outcome tree middle block ≡ Err rule → replayed tree start blocks ≡ Err rule
  unfolding replayed
  replay_breaks rule e =
      ap (λ (all : List Block). replayed tree start all) cut
      ∙ joined tree start (take i blocks) (block ∷ drop (i + 1) blocks)
      ∙ ap (λ (r : Result Coins CoinRefused). r >>= (λ coins. replayed tree coins (block ∷ drop (i + 1) blocks))) so_far
      ∙ ap (λ (r : Result Coins CoinRefused). r >>= (λ coins. replayed tree coins (drop (i + 1) blocks))) e

  pub breaks_at : (hash : Hash32) (rule : CoinRefused) → outcome tree middle block ≡ Err rule → hash ≡ hash_of_header block.header → BreaksAt tree start blocks hash rule
  breaks_at hash rule e named = record {
    before = take i blocks;
    block = block;
    after = drop (i + 1) blocks;
    middle = middle;
    split = cut;
    so_far = so_far;
    breaks = e;
    named = named;
  }

failed : {A : Type 0} → ReplayFault → Result A ReplayFault
failed fault = Err fault

-- what a `?` hands on is what the callee answered
pub handed_on : (A B : Type 0) (given fault : ReplayFault) (P : Hash32 → CoinRefused → Type 0) (Q : Hash32 → CoinRefused → Type 0) (result : Result A ReplayFault) → ((hash : Hash32) (rule : CoinRefused) → P hash rule → Q hash rule) → OnRefused {A = B} (Err fault) P → given ≡ fault → result ≡ Err given → OnRefused result Q
unfolding failed
handed_on A B given fault P Q result same refused e is =
    subst (λ (r : Result A ReplayFault). OnRefused r Q) (sym (is ∙ ap failed e)) (go fault refused)
  where
    go : (f : ReplayFault) → OnRefused {A = B} (Err f) P → OnRefused {A = A} (Err f) Q
    go NoMemory refused = tt
    go (Refused hash rule) refused = same hash rule refused

-- a refusal is by the only rule that is broken
pub only_rule : (A : Type 0) (meant : Result Coins CoinRefused) (P : Hash32 → CoinRefused → Type 0) (given : ReplayFault) (result : Result A ReplayFault) → result ≡ Err given → OnRefused result (λ hash rule. (meant ≡ Err rule) × P hash rule) → (rule : CoinRefused) → meant ≡ Err rule → RefusedBy result rule
only_rule A meant P given (Ok a) is refused rule e = absurd cc
only_rule A meant P given (Err NoMemory) is refused rule e = tt
only_rule A meant P given (Err (Refused hash why)) is refused rule e = let first = refused.0 in cc

-- no blocks
pub none_replayed : (tree : Tree) (start coins : Coins) → coins ≡ start → replayed tree start [] ≡ Ok coins
unfolding replayed
none_replayed tree start coins e = cc
