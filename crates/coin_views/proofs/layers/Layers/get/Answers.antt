use Rattle.std.proofs.Common.{rules, ◌≡◌, ◌∷◌, [], refl, sym, ap, ◌∙◌, subst, arith}
use Rattle.base_types.specs.Views.{ViewCounts, FindsFault}
use Rattle.coin_cache.specs.Entries.{counts_over, means}
use Rattle.coin_views.specs.Growth.{MayFetch}
use Rattle.coin_views.proofs.Commits.{block_through, tip_through}
use Rattle.coin_views.proofs.layers.Layers.get.Goals as goal

pub shape_of-self : goal.shape_of-self
shape_of-self g c = let b = c.get.ensures.behind (c.args.key.now ∷ []) (0, omega arith, refl) in sym (b.0 ∙ c.new-below.ensures.same_references.0)

pub returns-clause-coins : goal.returns-clause-coins
returns-clause-coins g c =
    let b = c.get.ensures.behind (c.args.key.now ∷ []) (0, omega arith, refl) in let n = b.1 in let r = c.new-below.ensures.same_references.1 in let f = c.under-1.given.1 in let v = c.new-below.ensures.values in
    let e : c.under-1.given.0 ≡ c.get.new.under.under.now = search rules in
    let coins = g.V.View.coins in
    ap (λ u. means c.get.new.self (means c.get.new.under.cache.now (coins u))) e ∙ c.get.ensures.coins ∙ (λ i. means c.args.self.now.block (means (v.0 i) (coins (v.1 i))))

pub returns-clause-parent : goal.returns-clause-parent
returns-clause-parent g c =
    let b = c.get.ensures.behind (c.args.key.now ∷ []) (0, omega arith, refl) in let n = b.1 in let r = c.new-below.ensures.same_references.1 in let f = c.under-1.given.1 in let v = c.new-below.ensures.values in
    let e : c.under-1.given.0 ≡ c.get.new.under.under.now = search rules in
    ap g.V.View.coins e ∙ b.2 ∙ ap g.V.View.coins v.1

pub returns-clause-over_tip : goal.returns-clause-over_tip
returns-clause-over_tip g c =
    let b = c.get.ensures.behind (c.args.key.now ∷ []) (0, omega arith, refl) in let n = b.1 in let r = c.new-below.ensures.same_references.1 in let f = c.under-1.given.1 in let v = c.new-below.ensures.values in
    let e : c.under-1.given.0 ≡ c.get.new.under.under.now = search rules in
    let coins = g.V.View.coins in let old = c.new-below.result in let new = c.get.new.under in
    block_through c.args.self.now (record { tip = new.cache.now; block = c.get.new.self }) (coins c.args.under.now) (coins c.under-1.given.0) old.cache.now (coins old.under.now) (coins new.under.now) v.0 (ap coins v.1) (ap coins e) c.get.ensures.stands

pub returns-clause-grows : goal.returns-clause-grows
returns-clause-grows g c keys named =
    let b = c.get.ensures.behind (c.args.key.now ∷ []) (0, omega arith, refl) in let n = b.1 in let r = c.new-below.ensures.same_references.1 in let f = c.under-1.given.1 in let v = c.new-below.ensures.values in
    let e : c.under-1.given.0 ≡ c.get.new.under.under.now = search rules in
    let coins = g.V.View.coins in let old = c.new-below.result in let new = c.get.new.under in let all = c.get.ensures.behind keys named in record {
      tip = subst (λ k. MayFetch keys k new.cache.now) v.0 all.4;
      block = record { adds = c.get.ensures.entries keys named; salt = c.get.ensures.one.salt };
      means = ap (λ u. means new.cache.now (coins u)) e ∙ c.get.ensures.parent ∙ (λ i. means (v.0 i) (coins (v.1 i)));
      stands = tip_through c.args.self.now (record { tip = new.cache.now; block = c.get.new.self }) (coins c.args.under.now) (coins c.under-1.given.0) old.cache.now (coins old.under.now) (coins new.under.now) v.0 (ap coins v.1) (ap coins e) b.3;
    }

pub returns-clause-cause : goal.returns-clause-cause
returns-clause-cause g c =
    let b = c.get.ensures.behind (c.args.key.now ∷ []) (0, omega arith, refl) in let n = b.1 in let r = c.new-below.ensures.same_references.1 in let f = c.under-1.given.1 in let v = c.new-below.ensures.values in
    let e : c.under-1.given.0 ≡ c.get.new.under.under.now = search rules in
    let counts = g.V.View.counts in let new = c.get.new in
    subst (λ (p : ViewCounts × ViewCounts). FindsFault 1 p.0 p.1 c.get.result) (λ i. (counts_over c.args.self.now.block (counts_over (v.0 i) (counts (v.1 i))), counts_over new.self (counts_over new.under.cache.now (counts (sym e i))))) c.get.ensures.cause
