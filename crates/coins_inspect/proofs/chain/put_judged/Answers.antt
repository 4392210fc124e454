use Rattle.std.specs.FinMap.{contains_key}
use Rattle.disk_model.proofs.Moments.{on_ok}
use Rattle.chain_model.specs.Tree.{height}
use Rattle.coins_inspect.proofs.ChainSteps.{is_member, member_height, not_lost, judged_ok, judged_refused}
use Rattle.coins_inspect.proofs.chain.put_judged.Goals as goal

pub unreachable-requires : goal.unreachable-requires
unreachable-requires c =
    let hash = c.in-Ok.hash in
    let next = c.accept.new.self in
    not_lost (contains_key next.tree.headers hash) (height next.tree.headers hash) c.in-None.ensures
    (is_member c.args.tree.now next c.args.header.now hash c.in-Ok.ensures.ok c.in-Ok.ensures.answer.1)

pub returns-in-Some : goal.returns-in-Some
returns-in-Some c others =
    let hash = c.in-Ok.hash in
    let next = c.accept.new.self in
    on_ok c.put_accepted.result _ _
    (judged_ok c.args.out.now.items c.put_accepted.new.out.items c.args.tree.now next c.args.header.now others hash c.in-Some.height c.in-Ok.ensures.answer.0 c.in-Ok.ensures.answer.1 c.in-Ok.ensures.ok
    (member_height (contains_key next.tree.headers hash) (height next.tree.headers hash) c.in-Some.height c.in-Some.ensures))
    c.put_accepted.ensures

pub returns-in-Err : goal.returns-in-Err
returns-in-Err c others =
    on_ok c.put_refusal.result _ _
    (judged_refused c.in-Err.fault c.args.out.now.items c.put_refusal.new.out.items c.args.tree.now c.accept.new.self c.args.header.now others c.block_hash.result c.in-Err.ensures.answer c.block_hash.ensures c.in-Err.ensures.err)
    c.put_refusal.ensures
