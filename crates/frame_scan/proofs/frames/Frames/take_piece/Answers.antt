use Rattle.std.proofs.Common.{◌≡◌, ◌+◌, ap, ◌∙◌}
use Rattle.io_traits.proofs.Told.{OnTold-weaker}
use Rattle.frame_scan.specs.Scan.{Scan, scan_of, bytes_left, Takes}
use Rattle.frame_scan.proofs.Scans.{piece_left}
use Rattle.frame_scan.proofs.frames.Frames.take_piece.Goals as goal

pub returns-then-self-gt-MAX_FILE_BYTES-clause-bytes_left : goal.returns-then-self-gt-MAX_FILE_BYTES-clause-bytes_left
returns-then-self-gt-MAX_FILE_BYTES-clause-bytes_left g c =
    let w = c.self.inside in
    let n = c.in_ok-count.count in
    let ys = c.take_from.new.self in
    let new = scan_of w.key (w.bytes_taken + n) ys in
    OnTold-weaker (Takes w.key w.bytes_taken w.window ys) (λ s t. bytes_left new t ≡ bytes_left c.args.self.now s) (g.H.Host.held c.args.host.now) (g.H.Host.held c.take_from.new.host)
    (λ s t takes. piece_left w.key w.bytes_taken n w.window ys s t c.self.invariant.0 c.in_ok-count.ensures.count.1 takes ∙ ap (λ (scan : Scan). bytes_left scan s) c.self.view_is)
    c.in_ok-count.ensures.bytes

pub returns-clause-bytes_left : goal.returns-clause-bytes_left
returns-clause-bytes_left g c =
    let w = c.self.inside in
    let n = c.in_ok-count.count in
    let ys = c.take_from.new.self in
    let new = scan_of w.key (w.bytes_taken + n) ys in
    OnTold-weaker (Takes w.key w.bytes_taken w.window ys) (λ s t. bytes_left new t ≡ bytes_left c.args.self.now s) (g.H.Host.held c.args.host.now) (g.H.Host.held c.take_from.new.host)
    (λ s t takes. piece_left w.key w.bytes_taken n w.window ys s t c.self.invariant.0 c.in_ok-count.ensures.count.1 takes ∙ ap (λ (scan : Scan). bytes_left scan s) c.self.view_is)
    c.in_ok-count.ensures.bytes
