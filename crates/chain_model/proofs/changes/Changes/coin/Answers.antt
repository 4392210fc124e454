use Rattle.std.proofs.Common.{Option, Some, None, Bor, subst, ap, sym, ◌≡◌, ◌∙◌}
use Rattle.std.specs.Option.{option_copied}
use Rattle.std.specs.Prelude.{IfSome}
use Rattle.std.specs.FinMap.{get, from_entries}
use Rattle.base_types.specs.Coins.{CoinFits}
use Rattle.base_types.specs.Keys.{outpoint_cmp}
use Rattle.base_types.proofs.KeyOrders.{outpoint_cmp_total}
use Rattle.base_types.specs.declared.coin.Coin.{Coin}
use Rattle.chain_model.specs.Changes.{Changes}
use Rattle.chain_model.proofs.Entries.{get_entries}
use Rattle.chain_model.proofs.Changing.{over, get-with_changes}
use Rattle.chain_model.proofs.changes.Changes.coin.Goals as goal

pub returns-in-Some-clause-coin : goal.returns-in-Some-clause-coin
returns-in-Some-clause-coin c =
    let here : get c.args.self.now c.args.key.now ≡ Some c.in-Some.change.now =
    ap (λ (changes : Changes). get changes c.args.key.now) (sym c.self.view_is)
    ∙ get_entries outpoint_cmp outpoint_cmp_total c.self.inside.changed.entries c.args.key.now
    ∙ sym c.get.ensures.value
    ∙ ap option_copied c.in-Some.is in
    c.as_ref.ensures.value
    ∙ ap (λ (o : Option (Option Coin)). over o (get c.args.coins.now c.args.key.now)) (sym here)
    ∙ sym (get-with_changes c.args.self.now c.args.coins.now c.args.key.now)

-- what is lent fits as what is to be there
lent_fits : (lent : Option (Bor Coin)) (change : Option Coin) → option_copied lent ≡ change → IfSome change CoinFits → IfSome lent (λ coin. CoinFits coin.now)
lent_fits None change e fits = tt
lent_fits (Some coin) change e fits = let P : Option Coin → Type 0 = λ o. IfSome o CoinFits in subst P (sym e) fits

pub returns-in-Some-clause-fits : goal.returns-in-Some-clause-fits
returns-in-Some-clause-fits c =
    let here : get (from_entries {R = outpoint_cmp} c.self.inside.changed.entries) c.args.key.now ≡ Some c.in-Some.change.now =
    get_entries outpoint_cmp outpoint_cmp_total c.self.inside.changed.entries c.args.key.now
    ∙ sym c.get.ensures.value
    ∙ ap option_copied c.in-Some.is in
    let P : Option (Option Coin) → Type 0 = λ o. IfSome o (λ change. IfSome change CoinFits) in
    lent_fits c.as_ref.result c.in-Some.change.now c.as_ref.ensures.value (subst P here (c.self.invariant c.args.key.now))

pub returns-in-None-clause-coin : goal.returns-in-None-clause-coin
returns-in-None-clause-coin c =
    let here : get c.args.self.now c.args.key.now ≡ None =
    ap (λ (changes : Changes). get changes c.args.key.now) (sym c.self.view_is)
    ∙ get_entries outpoint_cmp outpoint_cmp_total c.self.inside.changed.entries c.args.key.now
    ∙ sym c.get.ensures.value
    ∙ ap option_copied c.in-None.is in
    c.get-in-None.ensures.coin
    ∙ ap (λ (o : Option (Option Coin)). over o (get c.args.coins.now c.args.key.now)) (sym here)
    ∙ sym (get-with_changes c.args.self.now c.args.coins.now c.args.key.now)
