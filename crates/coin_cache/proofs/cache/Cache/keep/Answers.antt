use Rattle.std.proofs.Common.{◌≡◌, ◌∙◌, true, false, Some, None, sym, ap}
use Rattle.std.specs.FinMap.{len}
use Rattle.coin_cache.specs.Contents.{Contents, entry_without_flag}
use Rattle.coin_cache.proofs.Lookups.{entries_put}
use Rattle.coin_cache.proofs.Nodes.{len_put}
use Rattle.coin_cache.proofs.Flags.{one_new}
use Rattle.coin_cache.proofs.cache.Cache.keep.Goals as goal

pub returns-clause-entries : goal.returns-clause-entries
returns-clause-entries c =
    entries_put c.args.self.now c.put.new.self c.requires.sound c.put.ensures.sound c.put.result _ (ap (λ (k : Contents). k.slots) c.put.ensures.put) (λ x at. let f : None ≡ Some x = sym c.put.ensures.slot ∙ at in cc)

pub returns-clause-count : goal.returns-clause-count
returns-clause-count c = ap (λ (k : Contents). len k.slots) c.put.ensures.put ∙ len_put c.args.self.now.slots c.put.result _ c.put.ensures.slot

pub returns-clause-one : goal.returns-clause-one
returns-clause-one c =
    one_new c.args.self.now c.put.new.self c.requires.sound c.put.ensures.sound (ap (λ (k : Contents). k.salt) c.put.ensures.put) c.put.result (entry_without_flag c.args.key (Some c.args.coin) false) c.put.ensures.slot c.requires.free
    (ap (λ (k : Contents). k.slots) c.put.ensures.put) (λ e. let f : false ≡ true = e in cc) (λ _. ap (λ (k : Contents). k.changes) c.put.ensures.put)
