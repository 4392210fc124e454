-- A set of the outpoints before an input finds the first that is named twice.
use Rattle.std.proofs.Common.{◌≡◌, ◌≤◌, ◌<◌, ℕ, ◌+◌, length, drop, get_or, not, Bool, true, false, cond, ◌||◌, List, [], ◌∷◌, refl, ap, ◌∙◌, sym}
use Rattle.std.specs.List.{list_any}
use Rattle.std.specs.Ordering.{is_eq}
use Rattle.std.specs.BTreeSet.{BTreeSet, contains}
use Rattle.base_types.specs.Keys.{outpoint_cmp}
use Rattle.base_types.specs.declared.hash.OutPoint.{OutPoint}
use Rattle.block_codec.specs.declared.block.TxIn.{TxIn}
use Rattle.chain_model.specs.BodyRules.{same_outpoint, has_twin_inputs}
use Rattle.chain_model.proofs.OutPoints.{tied_outpoints}
use Rattle.std.proofs.lemmas.List.{at_drop_more, at_drop_all}
use Rattle.std.proofs.Common.{arith}

-- an input names an outpoint of the set, or two name one
abbrev pub has_clash : BTreeSet OutPoint → List TxIn → Bool
has_clash set inputs = list_any (λ input. contains outpoint_cmp set input.prev) inputs || has_twin_inputs inputs

either : (a s r t : Bool) → (cond a true s || (r || t)) ≡ ((a || r) || (s || t))
either true s r t = refl
either false true true t = refl
either false true false t = refl
either false false r t = refl

-- what one more outpoint adds
module _ (set more : BTreeSet OutPoint) (key : OutPoint) (adds : (q : OutPoint) → contains outpoint_cmp more q ≡ cond (is_eq (outpoint_cmp key q)) true (contains outpoint_cmp set q)) where
  one : (q : OutPoint) → contains outpoint_cmp more q ≡ cond (same_outpoint key q) true (contains outpoint_cmp set q)
  one q = adds q ∙ ap (λ (b : Bool). cond b true (contains outpoint_cmp set q)) (tied_outpoints key q)

  any_more : (inputs : List TxIn) → list_any (λ input. contains outpoint_cmp more input.prev) inputs ≡ (list_any (λ input. same_outpoint key input.prev) inputs || list_any (λ input. contains outpoint_cmp set input.prev) inputs)
  any_more [] = refl
  any_more (input ∷ inputs) =
      ap (λ (b : Bool). b || list_any (λ (i : TxIn). contains outpoint_cmp more i.prev) inputs) (one input.prev)
      ∙ ap (λ (b : Bool). cond (same_outpoint key input.prev) true (contains outpoint_cmp set input.prev) || b) (any_more inputs)
      ∙ either (same_outpoint key input.prev) (contains outpoint_cmp set input.prev) (list_any (λ (i : TxIn). same_outpoint key i.prev) inputs) (list_any (λ (i : TxIn). contains outpoint_cmp set i.prev) inputs)

shuffle : (s a t : Bool) → ((a || s) || t) ≡ (s || (a || t))
shuffle true true t = refl
shuffle true false t = refl
shuffle false a t = or_nil a t where
  or_nil : (a t : Bool) → ((a || false) || t) ≡ (a || t)
  or_nil true t = refl
  or_nil false t = refl

without : (s l : Bool) (rest : Bool) → s ≡ false → ((s || l) || rest) ≡ (l || rest)
without true l rest e = cc
without false l rest e = refl

pub step : (set more : BTreeSet OutPoint) (input : TxIn) (inputs : List TxIn) → contains outpoint_cmp set input.prev ≡ false → ((q : OutPoint) → contains outpoint_cmp more q ≡ cond (is_eq (outpoint_cmp input.prev q)) true (contains outpoint_cmp set q)) → has_clash more inputs ≡ has_clash set (input ∷ inputs)
unfolding has_twin_inputs
step set more input inputs new adds =
    ap (λ (b : Bool). b || has_twin_inputs inputs) (any_more set more input.prev adds inputs)
    ∙ shuffle (list_any (λ (i : TxIn). contains outpoint_cmp set i.prev) inputs) (list_any (λ (i : TxIn). same_outpoint input.prev i.prev) inputs) (has_twin_inputs inputs)
    ∙ sym (without (contains outpoint_cmp set input.prev) (list_any (λ (i : TxIn). contains outpoint_cmp set i.prev) inputs) (list_any (λ (i : TxIn). same_outpoint input.prev i.prev) inputs || has_twin_inputs inputs) new)

found_in : (s l rest : Bool) → s ≡ true → ((s || l) || rest) ≡ true
found_in true l rest e = refl
found_in false l rest e = cc

pub found : (set : BTreeSet OutPoint) (input : TxIn) (inputs : List TxIn) → contains outpoint_cmp set input.prev ≡ true → has_clash set (input ∷ inputs) ≡ true
found set input inputs e = found_in (contains outpoint_cmp set input.prev) _ _ e

pub at_end : (set : BTreeSet OutPoint) → has_clash set [] ≡ false
unfolding has_twin_inputs
at_end set = refl

pub at_start : (set : BTreeSet OutPoint) → set.keys ≡ [] → (inputs : List TxIn) → has_clash set inputs ≡ has_twin_inputs inputs
at_start set none inputs = ap (λ (b : Bool). b || has_twin_inputs inputs) (never inputs) where
  never : (inputs : List TxIn) → list_any (λ input. contains outpoint_cmp set input.prev) inputs ≡ false
  never [] = refl
  never (input ∷ inputs) = rw none (never inputs)

pub step_at : (set more : BTreeSet OutPoint) (inputs : List TxIn) (i : ℕ) (input : TxIn) → i < length inputs → input ≡ get_or inputs i input → contains outpoint_cmp set input.prev ≡ false → ((q : OutPoint) → contains outpoint_cmp more q ≡ cond (is_eq (outpoint_cmp input.prev q)) true (contains outpoint_cmp set q)) → has_clash more (drop (i + 1) inputs) ≡ has_clash set (drop i inputs)
step_at set more inputs i input h is new adds =
    step set more input (drop (i + 1) inputs) new adds
    ∙ ap (λ (x : TxIn). has_clash set (x ∷ drop (i + 1) inputs)) is
    ∙ sym (at_drop_more (has_clash set) inputs i input h)

pub none_at_end : (set : BTreeSet OutPoint) (inputs : List TxIn) (i : ℕ) → length inputs ≤ i → has_clash set (drop i inputs) ≡ false
none_at_end set inputs i h = at_drop_all (has_clash set) inputs i h ∙ at_end set

-- an answer that a key is new
pub was_new : (added present : Bool) → added ≡ not present → added ≡ true → present ≡ false
was_new added true e f = cc
was_new added false e f = refl

-- ---- few inputs

pub few : (inputs : List TxIn) → length inputs ≤ 1 → has_twin_inputs inputs ≡ false
unfolding has_twin_inputs
few [] h = refl
few (a ∷ []) h = refl
few (a ∷ b ∷ inputs) h = absurd (omega arith)

alone : (b : Bool) → ((b || false) || (false || false)) ≡ b
alone true = refl
alone false = refl

pub pair : (inputs : List TxIn) (a b : TxIn) → length inputs ≡ 2 → a ≡ get_or inputs 0 a → b ≡ get_or inputs 1 b → has_twin_inputs inputs ≡ same_outpoint a.prev b.prev
unfolding has_twin_inputs
pair [] a b h p q = absurd (omega arith)
pair (x ∷ []) a b h p q = absurd (omega arith)
pair (x ∷ y ∷ []) a b h p q = alone (same_outpoint x.prev y.prev) ∙ ap (λ (i : TxIn). same_outpoint i.prev y.prev) (sym p) ∙ ap (λ (i : TxIn). same_outpoint a.prev i.prev) (sym q)
pair (x ∷ y ∷ z ∷ inputs) a b h p q = absurd (omega arith)
