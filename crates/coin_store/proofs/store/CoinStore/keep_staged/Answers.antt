use Rattle.std.specs.Prelude.{ℕ, All, List}
use Rattle.std.proofs.Common.{subst, ◌∙◌, ap, sym}
use Rattle.coin_store.specs.Staged.{HasEntry, StandsFrom, places_noted}
use Rattle.coin_store.specs.declared.staging.StagedRow.{StagedRow}
use Rattle.coin_store.proofs.store.CoinStore.keep_staged.Goals as goal

pub note_rows-requires-clause-named : goal.note_rows-requires-clause-named
note_rows-requires-clause-named c = subst (λ (l : List StagedRow). All (λ (r : StagedRow). HasEntry c.args.self.now.index.places r.key) l) (sym c.deref.ensures.value) c.requires.named

pub note_rows-requires-clause-fits : goal.note_rows-requires-clause-fits
note_rows-requires-clause-fits c =
    let r = c.requires.listed in
    let last = c.last_gate.ensures r.0 r.1 r.2 in
    subst (λ (l : List StagedRow). All (StandsFrom c.last_gate.result c.args.from) l) (sym c.deref.ensures.value)
    (subst (λ (n : ℕ). All (StandsFrom n c.args.from) c.args.self.now.staged.rows.items) (sym last.0) (r.3 last.1))

pub returns-clause-places : goal.returns-clause-places
returns-clause-places c = λ places place is.
    let s = c.args.self.now in
    c.note_rows.ensures.places
    ∙ ap (λ (l : List StagedRow). places_noted c.file.result c.last_gate.result c.args.from s.index.places l) c.deref.ensures.value
    ∙ ap (λ (f : ℕ). places_noted f c.last_gate.result c.args.from s.index.places s.staged.rows.items) c.file.ensures
    ∙ ap (λ (n : ℕ). places_noted s.log.file n c.args.from s.index.places s.staged.rows.items) (c.last_gate.ensures places place is).0
