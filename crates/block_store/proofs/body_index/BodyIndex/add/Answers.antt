use Rattle.std.proofs.Common.{◌≡◌, length, subst, sym, arith}
use Rattle.std.specs.BTreeMap as tree
use Rattle.base_types.specs.Keys.{hash_cmp}
use Rattle.block_store.proofs.Undoing.{Places, added}
use Rattle.block_store.proofs.body_index.BodyIndex.add.Goals as goal

pub invariant_of-self-in-Ok : goal.invariant_of-self-in-Ok
invariant_of-self-in-Ok c =
    let place : c.len-place.result ≡ length c.self.inside.hashes.items = omega arith in
    subst (Places (tree.get hash_cmp c.insert.new.self)) (sym c.in_ok-push.ensures.items)
    (added (tree.get hash_cmp c.self.inside.last) (tree.get hash_cmp c.insert.new.self) c.self.inside.hashes.items c.args.hash c.len-place.result c.self.invariant c.in-Ok.ensures.updates.0 place)
