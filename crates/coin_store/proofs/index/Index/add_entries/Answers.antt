use Rattle.std.specs.Prelude.{◌≡◌, ◌+◌, ◌<◌, ◌≤◌, length, is_some, not, false, get_or, refl}
use Rattle.std.proofs.Common.{sym, ap, subst, ◌∙◌, arith}
use Rattle.std.proofs.lemmas.List.Elements.{Contains-get_or}
use Rattle.std.specs.FinMap.{get, insert}
use Rattle.coin_store.specs.OpenIndex.{OpenIndex, HasFewVacant}
use Rattle.coin_store.specs.Staged.{HasEntry}
use Rattle.coin_store.specs.declared.places.CoinPlace.{CoinPlace}
use Rattle.coin_store.proofs.StagedBytes.{ok_is}
use Rattle.coin_store.proofs.Vacant.{Made, no_key, made_more, made_new, few_more, few_put}
use Rattle.coin_store.proofs.index.Index.add_entries.Goals as goal
use Rattle.coin_store.proofs.index.Index.add_entries.Goals.{then-is_none, else-is_none}

pub loop-key-init : goal.loop-key-init
loop-key-init c = record {
  made = record { same = c.trim.ensures.same; made = λ k d within. absurd (omega arith) };
  few = few_more c.trim.new.self c.args.keys.now c.trim.ensures.few;
  spare = omega (arith, c.requires, c.trim.ensures.spare);
  salt = c.trim.ensures.salt;
}

abbrev vacant : CoinPlace
vacant = record { gate = 0; at = 0; len = 0; file = 0 }

pub loop-key-preserved : goal.loop-key-preserved
loop-key-preserved c =
    let i = c.loop-key.key-index in
    let keys = c.args.keys.now in
    let first = c.args.self.now.places in
    let m = c.loop-key.invariant in
    let inside : i < length keys = c.loop-key-test.true in
    let spare = m.spare in
    elim c.if-is_none.branch [
      | then-is_none w ↦
          let absent : is_some (get c.loop-key.self.places (get_or keys i no_key)) ≡ false = ap is_some (sym c.get.ensures) ∙ c.is_none.ensures ∙ ap not w.if-is_none.true in
          let put : w.set.new.self.places ≡ insert c.loop-key.self.places (get_or keys i no_key) vacant = ok_is w.set.result _ _ w.unwrap.ensures w.set.ensures.ok in
          let is : c.if-is_none.self.places ≡ insert c.loop-key.self.places (get_or keys i no_key) vacant = ap (λ (x : OpenIndex). x.places) w.self-is ∙ put in
          let size : c.loop-key.self.size ≤ c.if-is_none.self.size = omega (arith, w.set.ensures.size, ap (λ (x : OpenIndex). x.size) w.self-is) in
          record {
            made = made_new first keys i c.loop-key.self.places c.if-is_none.self.places vacant refl m.made inside absent is;
            few = few_put c.loop-key.self c.if-is_none.self keys (get_or keys i no_key) vacant is size (Contains-get_or keys i no_key inside) m.few;
            spare = omega (arith, spare, w.set.ensures.spare, ap (λ (x : OpenIndex). x.spare) w.self-is);
            salt = ap (λ (x : OpenIndex). x.salt) w.self-is ∙ w.set.ensures.salt ∙ m.salt;
          }
      | else-is_none w ↦
          let there : HasEntry c.loop-key.self.places (get_or keys i no_key) = ap is_some (sym c.get.ensures) ∙ c.is_none.ensures ∙ ap not w.if-is_none.false in
          record {
            made = subst (λ (x : OpenIndex). Made first keys x.places (i + 1)) (sym w.self-is) (made_more first keys i c.loop-key.self.places m.made inside there);
            few = subst (λ (x : OpenIndex). HasFewVacant x keys) (sym w.self-is) m.few;
            spare = omega (arith, spare, ap (λ (x : OpenIndex). x.spare) w.self-is);
            salt = ap (λ (x : OpenIndex). x.salt) w.self-is ∙ m.salt;
          }
    ]
