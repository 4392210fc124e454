-- Flushes that are added to those of a run.
use Rattle.std.proofs.Common.{◌≡◌, ◌≤◌, ℕ, List, [], ◌++◌, ap, sym, ◌∙◌, arith, le_refl, append_assoc, append-nil}
use Rattle.base_types.specs.declared.flushes.Flushed.{Flushed}
use Rattle.machine.specs.Clauses.{ReadsWithin}
use Rattle.machine.specs.Work.{AddsFlushes}
use Rattle.machine.proofs.Joining.{all-append, all-wider}

pub adds_nothing : (entered ended : ℕ) (before after : List Flushed) → entered ≤ ended → after ≡ before → AddsFlushes entered ended before after
adds_nothing entered ended before after later same = record { later = later; flushes = []; added = same ∙ sym (append-nil before); in_order = tt }

pub adds_none : (time : ℕ) (flushes : List Flushed) → AddsFlushes time time flushes flushes
adds_none time flushes = record { later = le_refl time; flushes = []; added = sym (append-nil flushes); in_order = tt }

-- first these, and then those
pub adds_then : (a b c : ℕ) (xs ys zs : List Flushed) → AddsFlushes a b xs ys → AddsFlushes b c ys zs → AddsFlushes a c xs zs
adds_then a b c xs ys zs one two =
    let x = one.later in
    let y = two.later in
    record {
      later = omega (arith, x, y);
      flushes = one.flushes ++ two.flushes;
      added = two.added ∙ ap (λ (l : List Flushed). l ++ two.flushes) one.added ∙ append_assoc xs one.flushes two.flushes;
      in_order =
          all-append _ one.flushes two.flushes
          (all-wider (ReadsWithin a b) (ReadsWithin a c) one.flushes (λ f w. (w.0, omega (arith, w.1, y), λ d is. (let p = w.2 d is in (p.0, omega (arith, p.1, y))), w.3)) one.in_order)
          (all-wider (ReadsWithin b c) (ReadsWithin a c) two.flushes (λ f w. (omega (arith, w.0, x), w.1, w.2, w.3)) two.in_order);
    }
