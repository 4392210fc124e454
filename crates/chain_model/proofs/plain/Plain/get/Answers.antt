use Rattle.std.proofs.Common.{◌≡◌, Option, Some, None, Bor, ap, sym, subst, ◌∙◌}
use Rattle.std.specs.Prelude.{IfSome}
use Rattle.std.specs.Option.{option_copied}
use Rattle.std.specs.FinMap.{get, from_entries}
use Rattle.base_types.specs.Keys.{outpoint_cmp}
use Rattle.base_types.proofs.KeyOrders.{outpoint_cmp_total}
use Rattle.base_types.specs.Coins.{Coins, CoinFits}
use Rattle.base_types.specs.declared.coin.Coin.{Coin}
use Rattle.chain_model.proofs.Entries.{get_entries}
use Rattle.chain_model.proofs.plain.Plain.get.Goals as goal

-- what is lent fits as what was found
lent_fits : (lent : Option (Bor Coin)) (found : Option Coin) → option_copied lent ≡ found → IfSome found CoinFits → IfSome lent (λ coin. CoinFits coin.now)
lent_fits None found e fits = tt
lent_fits (Some coin) found e fits = let P : Option Coin → Type 0 = λ o. IfSome o CoinFits in subst P (sym e) fits

pub returns : goal.returns
returns c =
    let here = c.get.ensures.value ∙ sym (get_entries outpoint_cmp outpoint_cmp_total c.self.inside.coins.entries c.args.key.now) in
    record {
      coin = here ∙ ap (λ (coins : Coins). get coins c.args.key.now) c.self.view_is;
      fits = lent_fits c.get.result (get (from_entries {R = outpoint_cmp} c.self.inside.coins.entries) c.args.key.now) here (c.self.invariant c.args.key.now);
    }
