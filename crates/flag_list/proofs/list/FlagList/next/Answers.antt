use Rattle.flag_list.proofs.Neighbours.{member, is_there, neighbours}
use Rattle.flag_list.proofs.list.FlagList.next.Goals as goal

pub get-requires : goal.get-requires
get-requires g c =
    let links = g.T.Linked.links_of in let m = c.args.pool.now.values in let q = c.requires in is_there links m c.args.slot _ (member links m c.args.self.now q.0 c.args.slot q.1 q.2)

pub returns : goal.returns
returns g c =
    λ xs ys h. (neighbours g.T.Linked.links_of c.args.pool.now.values c.args.self.now xs c.args.slot ys c.get.result.now c.links.result h c.get.ensures c.links.ensures).1
