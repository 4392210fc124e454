use Rattle.std.proofs.Common.{◌≡◌, ◌∙◌, Some, true, false, Bool, not, sym, ap, refl, subst}
use Rattle.std.specs.FinMap.{insert}
use Rattle.coin_cache.specs.Entries.{entries_of, changed, is_fresh}
use Rattle.coin_cache.proofs.Meanings.{same_entries, add_means, change_stands, fresh_entry, fresh_new, adds_put}
use Rattle.coin_cache.specs.Flags.{ChangesOne}
use Rattle.coin_cache.proofs.Flags.{one_keeps, one_after}
use Rattle.coin_cache.proofs.cache.Cache.add.Goals as goal

not_true : (b : Bool) → not b ≡ true → b ≡ false
not_true true e = sym e
not_true false e = refl

pub returns-in-Some-clause-coins : goal.returns-in-Some-clause-coins
returns-in-Some-clause-coins c =
    let x = c.find.ensures.some c.in-Some.slot c.in-Some.is in let k = x.2 in
    let is = c.set.ensures.entries x.0 x.1 ∙ (λ i. insert (entries_of c.args.self.now) (k i) (changed (k i) (Some c.args.coin) c.stays_fresh-fresh.result)) in
    add_means c.args.self.now c.set.new.self c.args.key.now c.args.coin c.stays_fresh-fresh.result is

pub returns-in-Some-clause-stands : goal.returns-in-Some-clause-stands
returns-in-Some-clause-stands c =
    λ told none h. let x = c.find.ensures.some c.in-Some.slot c.in-Some.is in let k = x.2 in
    let is = c.set.ensures.entries x.0 x.1 ∙ (λ i. insert (entries_of c.args.self.now) (k i) (changed (k i) (Some c.args.coin) c.stays_fresh-fresh.result)) in
    change_stands c.args.self.now c.set.new.self c.args.key.now (Some c.args.coin) c.stays_fresh-fresh.result is told
    (fresh_entry c.args.self.now told c.args.key.now x.0 c.args.may_overwrite c.stays_fresh-fresh.result x.3 (c.stays_fresh-fresh.ensures x.0 x.1) none h) h

pub returns-in-Some-clause-entries : goal.returns-in-Some-clause-entries
returns-in-Some-clause-entries c =
    let x = c.find.ensures.some c.in-Some.slot c.in-Some.is in let k = x.2 in
    let is = c.set.ensures.entries x.0 x.1 ∙ (λ i. insert (entries_of c.args.self.now) (k i) (changed (k i) (Some c.args.coin) c.stays_fresh-fresh.result)) in
    adds_put c.args.self.now c.set.new.self c.args.key.now (changed c.args.key.now (Some c.args.coin) c.stays_fresh-fresh.result) is

pub returns-in-Ok-clause-coins : goal.returns-in-Ok-clause-coins
returns-in-Ok-clause-coins c = add_means c.args.self.now c.set_new.new.self c.args.key.now c.args.coin (not c.args.may_overwrite) (c.set_new.ensures.entries ∙ ap (λ e. insert e c.args.key.now (changed c.args.key.now (Some c.args.coin) (not c.args.may_overwrite))) (same_entries c.args.self.now c.reserve.new.self c.reserve.ensures.entries))

pub returns-in-Ok-clause-stands : goal.returns-in-Ok-clause-stands
returns-in-Ok-clause-stands c =
    λ told none h. change_stands c.args.self.now c.set_new.new.self c.args.key.now (Some c.args.coin) (not c.args.may_overwrite) (c.set_new.ensures.entries ∙ ap (λ e. insert e c.args.key.now (changed c.args.key.now (Some c.args.coin) (not c.args.may_overwrite))) (same_entries c.args.self.now c.reserve.new.self c.reserve.ensures.entries)) told
    (fresh_new c.args.self.now told c.args.key.now c.args.may_overwrite (not c.args.may_overwrite) (c.find.ensures.absent c.in-None.is) (not_true c.args.may_overwrite) none) h

pub returns-in-Ok-clause-entries : goal.returns-in-Ok-clause-entries
returns-in-Ok-clause-entries c = adds_put c.args.self.now c.set_new.new.self c.args.key.now (changed c.args.key.now (Some c.args.coin) (not c.args.may_overwrite)) (c.set_new.ensures.entries ∙ ap (λ e. insert e c.args.key.now (changed c.args.key.now (Some c.args.coin) (not c.args.may_overwrite))) (same_entries c.args.self.now c.reserve.new.self c.reserve.ensures.entries))

pub returns-in-Some-clause-entry : goal.returns-in-Some-clause-entry
returns-in-Some-clause-entry c =
    let x = c.find.ensures.some c.in-Some.slot c.in-Some.is in let k = x.2 in let fresh = c.stays_fresh-fresh.ensures x.0 x.1 ∙ ap (is_fresh c.args.may_overwrite) (sym x.3) in
    c.set.ensures.entries x.0 x.1 ∙ (λ i. insert (entries_of c.args.self.now) (k i) (changed (k i) (Some c.args.coin) (fresh i)))

pub returns-in-Ok-clause-entry : goal.returns-in-Ok-clause-entry
returns-in-Ok-clause-entry c =
    c.set_new.ensures.entries ∙ ap (λ e. insert e c.args.key.now (changed c.args.key.now (Some c.args.coin) (not c.args.may_overwrite))) (same_entries c.args.self.now c.reserve.new.self c.reserve.ensures.entries)
    ∙ ap (λ o. insert (entries_of c.args.self.now) c.args.key.now (changed c.args.key.now (Some c.args.coin) (is_fresh c.args.may_overwrite o))) (sym (c.find.ensures.absent c.in-None.is))

pub returns-in-Some-clause-one : goal.returns-in-Some-clause-one
returns-in-Some-clause-one c =
    let x = c.find.ensures.some c.in-Some.slot c.in-Some.is in subst (λ k. ChangesOne k c.args.self.now c.set.new.self) x.2 (c.set.ensures.one x.0 x.1)

pub returns-in-Ok-clause-one : goal.returns-in-Ok-clause-one
returns-in-Ok-clause-one c = one_after c.args.self.now c.reserve.new.self c.reserve.ensures.entries c.args.key.now c.set_new.new.self c.set_new.ensures.one

pub returns-in-Err-clause-one : goal.returns-in-Err-clause-one
returns-in-Err-clause-one c = one_keeps c.args.self.now c.reserve.new.self c.reserve.ensures.entries c.args.key.now c.find.ensures.sound
