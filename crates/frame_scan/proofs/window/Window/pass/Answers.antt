use Rattle.std.proofs.Common.{◌≡◌, ◌≤◌, ◌+◌, ◌-◌, List, ℕ, length, drop, ap, ◌∙◌, arith}
use Rattle.std.specs.List.{between}
use Rattle.std.proofs.lemmas.List.{length-take}
use Rattle.frame_scan.proofs.Windows.{between_later}
use Rattle.frame_scan.proofs.window.Window.pass.Goals as goal

pub returns : goal.returns
returns c =
    let w = c.self.inside in
    let shown : length (between w.start w.end w.bytes.items) ≡ length c.args.self.now = ap length c.self.view_is in
    let within : w.start + c.args.count ≤ w.end = omega (arith, shown, c.requires, length-take (w.end - w.start) (drop w.start w.bytes.items)) in
    between_later w.bytes.items w.start w.end c.args.count within ∙ ap (λ (zs : List ℕ). drop c.args.count zs) c.self.view_is
