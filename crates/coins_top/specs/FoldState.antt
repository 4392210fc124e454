-- What a fold has come to, and how many headers its tree may have.
use Rattle.std.specs.Prelude.{ℕ, ◌+◌, ◌-◌, length, refl}
use Rattle.std.specs.Coded.{Coded, code_by, coded×, coded_ℕ}
use Rattle.base_types.specs.Coins.{Coins}
use Rattle.base_types.specs.declared.hash.Hash32.{Hash32}
use Rattle.base_types.specs.contracts.hash.Hash32 as hash
use Rattle.base_types.specs.declared.program.Rules.{Rules}
use Rattle.base_types.specs.contracts.program.Rules as rules
use Rattle.block_codec.specs.contracts.block.Header as header
use Rattle.std.specs.FinMap as finite
use Rattle.base_types.specs.Codes.{coins_code}
use Rattle.chain_model.specs.Tree.{Headers}
use Rattle.chain_model.specs.Folding.{Folded}
use Rattle.header_tree.specs.State.{State}

pub record FoldState : Type 0 where
  pub folded : Folded
  pub limit : ℕ

abbrev pub fold_code : Coded FoldState
fold_code =
    code_by ((Headers × Rules) × ((Coins × Hash32) × (ℕ × ℕ)))
    (coded× (coded× (finite.code hash.the_row.coded header.the_row.coded) rules.the_row.coded) (coded× (coded× coins_code hash.the_row.coded) (coded× coded_ℕ coded_ℕ)))
    (λ s. ((s.folded.tree.headers, s.folded.tree.rules), ((s.folded.coins, s.folded.tip), (s.folded.frames, s.limit))))
    (λ p. record { folded = record { frames = p.1.1.0; tip = p.1.0.1; tree = record { headers = p.0.0; rules = p.0.1 }; coins = p.1.0.0 }; limit = p.1.1.1 })
    (λ _. refl)

-- each block but genesis is in the tree, and has a frame; frames of genesis may have been passed over
abbrev pub fold_state : State → Coins → Hash32 → ℕ → FoldState
fold_state tree coins tip passed = record {
  folded = record { frames = length tree.order - 1 + passed; tip = tip; tree = tree.tree; coins = coins };
  limit = tree.limit;
}
