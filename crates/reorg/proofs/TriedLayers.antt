-- What the layers have once a block was connected and committed, or given up and dropped.
use Rattle.std.proofs.Common.{◌≡◌, Option, Some, None, Ok, Err, refl, sym, ap, subst, ◌∙◌}
use Rattle.std.specs.Prelude.{Result, IfSome, option_map}
use Rattle.std.proofs.lemmas.Option.{same_Some, none-some}
use Rattle.base_types.specs.Coins.{Coins}
use Rattle.base_types.specs.declared.refused.CoinRefused.{CoinRefused}
use Rattle.chain_model.specs.Connecting.{Leads, OnRefusal}
use Rattle.chain_model.specs.declared.fault.ConnectFault.{ConnectFault}
use Rattle.chain_model.specs.declared.fault.ConnectFault.TheVariants.{Refused}
use Rattle.chain_state.specs.Standing.{Carry}
use Rattle.coin_cache.specs.Contents.{Contents}
use Rattle.coin_cache.specs.Entries.{StandsOver, means}
use Rattle.coin_views.specs.Layers.{LayersStand, block_means, block_of, emptied, tip_means, tip_of}
use Rattle.coin_views.specs.declared.layers.Layers.{Layers}
use Rattle.reorg.specs.Trials.{KeepsTip}

pub rule_of : (A : Type 0) (P : CoinRefused → Type 0) (fault : ConnectFault) (rule : CoinRefused) → fault ≡ Refused rule → OnRefusal {A = A} (Err fault) P → P rule
rule_of A P fault rule same refused = subst (λ (k : ConnectFault). OnRefusal {A = A} (Err k) P) same refused

after_of : (outcome : Coins → Result Coins CoinRefused) (coins : Coins) (o : Option Coins) → option_map outcome (Some coins) ≡ option_map (λ after. Ok after) o → (x : Coins) × (outcome coins ≡ Ok x) × (o ≡ Some x)
after_of outcome coins None e = absurd (none-some (outcome coins) (sym e))
after_of outcome coins (Some x) e = (x, same_Some (outcome coins) (Ok x) e, refl)

-- the layers at first, with an empty block view, and with the block in it or a part of it
module _ (layers dropped mid : Layers) (rows coins : Coins) (carry : Carry layers rows coins) (tip : tip_of dropped ≡ tip_of layers)
    (drop : (block_means dropped (Some rows) ≡ tip_means layers (Some rows)) × (StandsOver (tip_of layers) (Some rows) → LayersStand dropped (Some rows))) (keeps : KeepsTip dropped mid (Some rows)) (outcome : Coins → Result Coins CoinRefused) where
  before : block_means dropped (Some rows) ≡ Some coins
  before = drop.0 ∙ carry.tip

  parent_stands : StandsOver (tip_of mid) (Some rows)
  parent_stands = keeps.stands (drop.1 carry.stand.over_parent).over_parent

  pub on_commit : (new : Layers) → Leads outcome (block_means dropped (Some rows)) (block_means mid (Some rows))
      → (LayersStand mid (Some rows) → (tip_means new (Some rows) ≡ block_means mid (Some rows)) × (block_means new (Some rows) ≡ block_means mid (Some rows)) × LayersStand new (Some rows))
      → block_of new ≡ emptied (block_of mid) → (x : Coins) × (outcome coins ≡ Ok x) × Carry new rows x
  on_commit new leads commit empty =
      let after = after_of outcome coins (block_means mid (Some rows)) (ap (λ (o : Option Coins). option_map outcome o) (sym before) ∙ leads) in
      let done = commit (record { over_parent = parent_stands; over_tip = keeps.over_tip }) in
      (after.0, after.1, record { stand = done.2; tip = done.0 ∙ after.2; top = ap (λ (k : Contents). k.slots) empty })

  pub on_refusal : (new : Layers) (rule : CoinRefused) → IfSome (block_means dropped (Some rows)) (λ before. outcome before ≡ Err rule) → tip_of new ≡ tip_of mid
      → (StandsOver (tip_of mid) (Some rows) → LayersStand new (Some rows)) → block_of new ≡ emptied (block_of mid) → (outcome coins ≡ Err rule) × Carry new rows coins
  on_refusal new rule refused same stand empty = (
    subst (λ (o : Option Coins). IfSome o (λ before. outcome before ≡ Err rule)) before refused,
    record {
      stand = stand parent_stands;
      tip = ap (λ (k : Contents). means k (Some rows)) same ∙ keeps.means ∙ ap (λ (k : Contents). means k (Some rows)) tip ∙ carry.tip;
      top = ap (λ (k : Contents). k.slots) empty;
    },
  )
