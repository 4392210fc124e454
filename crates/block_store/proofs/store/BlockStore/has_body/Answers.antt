use Rattle.std.proofs.Common.{◌≡◌, ◌∙◌, sym, ap}
use Rattle.std.specs.Prelude.{is_some}
use Rattle.block_store.specs.Index.{last_place}
use Rattle.block_store.specs.OpenStore.{OpenStore}
use Rattle.block_store.proofs.Undoing.{found_here}
use Rattle.block_store.proofs.store.BlockStore.has_body.Goals as goal

pub returns-clause-contains : goal.returns-clause-contains
returns-clause-contains c =
    let found = found_here c.args.self.now.hashes c.args.hash.now in
    let same : c.contains.result ≡ is_some (last_place c.args.self.now.hashes c.args.hash.now) = c.contains.ensures ∙ ap (λ (s : OpenStore). is_some (last_place s.hashes c.args.hash.now)) c.self.view_is in
    (λ is. found.0 (sym same ∙ is), λ has. same ∙ found.1 has)
