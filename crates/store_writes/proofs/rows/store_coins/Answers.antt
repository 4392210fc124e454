use Rattle.std.proofs.Common.{◌≡◌, ℕ, List, [], ◌∷◌, ◌++◌, arith, le_refl, Result, Ok, Err, inl, inr, refl, sym, ap, ◌∙◌}
use Rattle.std.specs.Prelude.{OnErr}
use Rattle.std.proofs.lemmas.List.{append-nil}
use Rattle.base_types.specs.Flushes.{begun_flush, done_at}
use Rattle.base_types.specs.declared.flushes.Chain.TheVariants.{Full}
use Rattle.base_types.specs.declared.flushes.Flushed.{Flushed}
use Rattle.coin_store.specs.Batches.{BatchFits}
use Rattle.coin_store.specs.declared.marker.Marker.TheVariants.{At}
use Rattle.machine.specs.State.{Flush}
use Rattle.machine.proofs.Adding.{adds_nothing}
use Rattle.store_writes.proofs.Events.{coins_part, coins_now, coins_whole, nothing_begun}
use Rattle.store_writes.proofs.rows.store_coins.Goals as goal

gives : {T E P : Type 0} (r : Result T E) → P → OnErr r P
gives (Ok x) p = tt
gives (Err e) p = p

pub returns-in_err-begin-clause-err : goal.returns-in_err-begin-clause-err
returns-in_err-begin-clause-err g c limit blocks store keys touched payload payloads total rows on staged replay =
    let flushes : List Flushed = c.args.flushes.now in
    gives c.from_residual.result (
      [],
      c.in_err-begin.ensures.err ∙ sym (append-nil flushes),
      inl refl,
      nothing_begun limit (g.D.Disk.left_since c.args.disk.now) (g.D.Disk.time c.args.disk.now) (g.D.Disk.contents c.args.disk.now) blocks c.args.coins.now store (Flush Full c.args.tip.now c.args.why touched)
          (g.met.D.Disk.since_earlier c.args.disk.now) on,
    )

pub returns-in_err-apply-clause-err : goal.returns-in_err-apply-clause-err
returns-in_err-apply-clause-err g c limit blocks store keys touched payload payloads total rows on staged replay =
    let flushes : List Flushed = c.args.flushes.now in
    gives c.from_residual-in_err-apply.result (
      begun_flush Full c.args.tip.now c.args.why (g.D.Disk.time c.args.disk.now) ∷ [],
      c.in_ok-begin.ensures.ok ∙ ap (λ (t : ℕ). flushes ++ begun_flush Full c.args.tip.now c.args.why t ∷ []) c.clock.ensures,
      inr refl,
      coins_part g.D.Disk.time g.D.Disk.left_since g.D.Disk.contents g.met.D.Disk.since_earlier g.met.D.Disk.reads_as c.args.disk.now c.apply.new.disk limit blocks c.args.coins.now store on
          c.args.tip.now rows c.args.why touched (record { marker = c.is_hash.ensures; rows = staged.fit }) replay
          (c.apply.ensures.any_moment [] on.batches keys payload payloads total rows on.coin_rows staged) c.apply.ensures.others,
    )

pub returns-clause-ok : goal.returns-clause-ok
returns-clause-ok g c limit blocks store keys touched payload payloads total rows on staged replay =
    let flushes : List Flushed = c.args.flushes.now in
    let begun : Flushed = begun_flush Full c.args.tip.now c.args.why (g.D.Disk.time c.args.disk.now) in
    let began : c.begin.new.self ≡ flushes ++ begun ∷ [] = c.in_ok-begin.ensures.ok ∙ ap (λ (t : ℕ). flushes ++ begun_flush Full c.args.tip.now c.args.why t ∷ []) c.clock.ensures in
    let ended = c.finish.ensures flushes begun began in
    let moments = c.apply.ensures.any_moment [] on.batches keys payload payloads total rows on.coin_rows staged in
    let holds = c.in_ok-apply.ensures.ok [] on.batches keys payload payloads total rows on.coin_rows staged in
    let same = c.apply.ensures.same in
    let fits : BatchFits (record { marker = At c.args.tip.now; rows = rows }) = record { marker = c.is_hash.ensures; rows = staged.fit } in (
      ended ∙ ap (λ (t : ℕ). flushes ++ done_at t begun ∷ []) c.clock-2.ensures,
      coins_whole g.D.Disk.time g.D.Disk.left_since g.D.Disk.contents g.met.D.Disk.since_earlier g.met.D.Disk.reads_as c.args.disk.now c.apply.new.disk limit blocks c.args.coins.now store on
          c.args.tip.now rows c.args.why touched fits replay moments c.apply.ensures.others c.apply.new.self holds same.file same.mask same.base,
      coins_now g.D.Disk.time g.D.Disk.left_since g.D.Disk.contents g.met.D.Disk.since_earlier g.met.D.Disk.reads_as c.args.disk.now c.apply.new.disk limit blocks c.args.coins.now store on
          c.args.tip.now rows c.args.why touched fits replay moments c.apply.ensures.others c.apply.new.self holds same.file same.mask same.base,
    )

-- ---- the clock, and what was added

pub returns-in_err-begin-clause-timed : goal.returns-in_err-begin-clause-timed
returns-in_err-begin-clause-timed g c = adds_nothing (g.D.Disk.time c.args.disk.now) (g.D.Disk.time c.args.disk.now) c.args.flushes.now c.begin.new.self (le_refl _) c.in_err-begin.ensures.err

pub returns-in_err-apply-clause-timed : goal.returns-in_err-apply-clause-timed
returns-in_err-apply-clause-timed g c =
    let flushes : List Flushed = c.args.flushes.now in
    let low = g.D.Disk.time c.args.disk.now in
    let later = c.apply.ensures.part.later in
    record {
      later = later;
      flushes = begun_flush Full c.args.tip.now c.args.why low ∷ [];
      added = c.in_ok-begin.ensures.ok ∙ ap (λ (t : ℕ). flushes ++ begun_flush Full c.args.tip.now c.args.why t ∷ []) c.clock.ensures;
      in_order = ((le_refl low, later, λ d is. absurd cc, λ told. absurd cc), tt);
    }

pub returns-clause-timed : goal.returns-clause-timed
returns-clause-timed g c =
    let flushes : List Flushed = c.args.flushes.now in
    let low = g.D.Disk.time c.args.disk.now in
    let high = g.D.Disk.time c.apply.new.disk in
    let begun : Flushed = begun_flush Full c.args.tip.now c.args.why low in
    let began : c.begin.new.self ≡ flushes ++ begun ∷ [] = c.in_ok-begin.ensures.ok ∙ ap (λ (t : ℕ). flushes ++ begun_flush Full c.args.tip.now c.args.why t ∷ []) c.clock.ensures in
    let later = c.apply.ensures.part.later in
    record {
      later = later;
      flushes = done_at high begun ∷ [];
      added = c.finish.ensures flushes begun began ∙ ap (λ (t : ℕ). flushes ++ done_at t begun ∷ []) c.clock-2.ensures;
      in_order = ((le_refl low, later, λ d is. (let same : high ≡ d = cc in (omega (arith, later, same), omega (arith, same))), λ told. absurd cc), tt);
    }

-- ---- the store is the same but for its rows

pub returns-in_err-begin-clause-same : goal.returns-in_err-begin-clause-same
returns-in_err-begin-clause-same g c = record { file = refl; base = refl; limit = refl; mask = refl; start = refl; salt = refl }
