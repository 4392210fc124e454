-- Rules in their order.
use Rattle.std.proofs.Common.{◌≡◌, ◌<◌, ◌≤◌, ℕ, ◌+◌, Bool, true, false, cond, List, [], ◌∷◌, ◌++◌, length, map, drop, get_or, nat_lt, Option, Some, None, refl, sym, ap, subst, ◌∙◌}
use Rattle.std.proofs.lemmas.List.{at_drop_more, at_drop_all}
use Rattle.std.specs.declared.result.Result.{Result}
use Rattle.std.specs.declared.result.Result.TheVariants.{Ok, Err}
use Rattle.base_types.specs.declared.hash.Hash32.{Hash32}
use Rattle.base_types.specs.declared.refused.BodyRefused.{BodyRefused}
use Rattle.base_types.specs.declared.refused.BodyRefused.TheVariants.{NotFinal, BadHeight, Weight}
use Rattle.block_codec.specs.declared.block.Tx.{Tx}
use Rattle.block_codec.specs.declared.block.Block.{Block}
use Rattle.block_codec.specs.Weight.{weight_of}
use Rattle.block_codec.specs.Commitment.{commitment_of}
use Rattle.chain_model.specs.Rules.{first_broken, first_some}
use Rattle.chain_model.specs.BodyRules.{Place, body_broken, tx_broken, knows_witnesses}
use Rattle.block_checks.specs.declared.fault.CheckFault.{CheckFault}
use Rattle.block_checks.specs.declared.fault.CheckFault.TheVariants.{NoMemory, Refused}
use Rattle.block_checks.specs.Answer.{Answers}
use Rattle.chain_model.specs.BodyRules.{RuleList, structure_rules, witness_rules, place_rules, has_unfinal, has_bad_height}

-- a rule of the first group is the first of all
pub found : (first others : RuleList) (r : BodyRefused) → first_broken first ≡ Some r → first_broken (first ++ others) ≡ Some r
unfolding first_broken
found [] others r e = cc
found (rule ∷ first) others r e = go rule.0 (λ k. found first others r k) e where
  go : (b : Bool) → (first_broken first ≡ Some r → first_broken (first ++ others) ≡ Some r) → cond b (Some rule.1) (first_broken first) ≡ Some r → cond b (Some rule.1) (first_broken (first ++ others)) ≡ Some r
  go true rest e = e
  go false rest e = rest e

pub some_first : (a : Option BodyRefused) (others : List (Option BodyRefused)) (r : BodyRefused) → a ≡ Some r → first_some (a ∷ others) ≡ Some r
unfolding first_some
some_first None others r e = cc
some_first (Some x) others r e = e

pub none_first : (a : Option BodyRefused) (others : List (Option BodyRefused)) → a ≡ None → first_some (a ∷ others) ≡ first_some others
unfolding first_some
none_first None others e = refl
none_first (Some x) others e = cc

pub only_first : (a : Option BodyRefused) → first_some (a ∷ []) ≡ a
unfolding first_some
only_first None = refl
only_first (Some x) = refl

-- a refusal by the first of several stays
pub refused_first : (a b : Option BodyRefused) → ((r : BodyRefused) → a ≡ Some r → b ≡ Some r) → (fault : CheckFault) → Answers {A = Unit {0}} a (Err fault) → Answers {A = Unit {0}} b (Err fault)
refused_first a b same NoMemory answers = tt
refused_first a b same (Refused rule) answers = same rule answers

-- answers for one cause are answers for the same cause
pub answers_same : (a b : Option BodyRefused) → b ≡ a → (result : Result (Unit {0}) CheckFault) → Answers a result → Answers b result
answers_same a b e (Ok done) answers = cc
answers_same a b e (Err NoMemory) answers = tt
answers_same a b e (Err (Refused rule)) answers = cc

-- ---- the groups of a body's rules

two_past : (a b : Bool) (x y : BodyRefused) (others : RuleList) → a ≡ false → b ≡ false → first_broken ((a, x) ∷ (b, y) ∷ others) ≡ first_broken others
unfolding first_broken
two_past true b x y others e f = cc
two_past false true x y others e f = cc
two_past false false x y others e f = refl

pub refused_by_witness : (place : Place) (block : Block) (known : Bool) (committed : Option Hash32) (fault : CheckFault) → known ≡ knows_witnesses place → committed ≡ commitment_of block → has_unfinal place block ≡ false → has_bad_height place block ≡ false → Answers {A = Unit {0}} (first_broken (witness_rules known committed block)) (Err fault) → Answers {A = Unit {0}} (first_broken (place_rules place block)) (Err fault)
refused_by_witness place block known committed fault knows is final high answers =
    refused_first (first_broken (witness_rules known committed block)) (first_broken (place_rules place block)) same fault answers
  where
    same : (r : BodyRefused) → first_broken (witness_rules known committed block) ≡ Some r → first_broken (place_rules place block) ≡ Some r
    same r e =
        two_past (has_unfinal place block) (has_bad_height place block) NotFinal BadHeight (witness_rules (knows_witnesses place) (commitment_of block) block ++ (nat_lt 4000000 (weight_of block), Weight) ∷ []) final high
        ∙ found (witness_rules (knows_witnesses place) (commitment_of block) block) ((nat_lt 4000000 (weight_of block), Weight) ∷ []) r
        (ap (λ (o : Option Hash32). first_broken (witness_rules (knows_witnesses place) o block)) (sym is) ∙ ap (λ (k : Bool). first_broken (witness_rules k committed block)) (sym knows) ∙ e)

pub refused_by_structure : (place : Place) (block : Block) (fault : CheckFault) → Answers {A = Unit {0}} (first_broken (structure_rules block)) (Err fault) → Answers {A = Unit {0}} (body_broken place block) (Err fault)
unfolding body_broken
refused_by_structure place block fault answers =
    refused_first (first_broken (structure_rules block)) (body_broken place block) (λ r e. some_first (first_broken (structure_rules block)) (first_some (map tx_broken block.txs) ∷ first_broken (place_rules place block) ∷ []) r e) fault answers

pub refused_by_transactions : (place : Place) (block : Block) (fault : CheckFault) → first_broken (structure_rules block) ≡ None → Answers {A = Unit {0}} (first_some (map tx_broken block.txs)) (Err fault) → Answers {A = Unit {0}} (body_broken place block) (Err fault)
unfolding body_broken
refused_by_transactions place block fault none answers =
    refused_first (first_some (map tx_broken block.txs)) (body_broken place block)
    (λ r e. none_first (first_broken (structure_rules block)) (first_some (map tx_broken block.txs) ∷ first_broken (place_rules place block) ∷ []) none
    ∙ some_first (first_some (map tx_broken block.txs)) (first_broken (place_rules place block) ∷ []) r e) fault answers

pub left_to_place : (place : Place) (block : Block) → first_broken (structure_rules block) ≡ None → first_some (map tx_broken block.txs) ≡ None → body_broken place block ≡ first_broken (place_rules place block)
unfolding body_broken
left_to_place place block none fine =
    none_first (first_broken (structure_rules block)) (first_some (map tx_broken block.txs) ∷ first_broken (place_rules place block) ∷ []) none
    ∙ none_first (first_some (map tx_broken block.txs)) (first_broken (place_rules place block) ∷ []) fine
    ∙ only_first (first_broken (place_rules place block))

-- ---- one transaction after another

at_tx : (txs : List Tx) (i : ℕ) (tx : Tx) → i < length txs → tx ≡ get_or txs i tx → first_some (map tx_broken (drop i txs)) ≡ first_some (tx_broken tx ∷ map tx_broken (drop (i + 1) txs))
at_tx txs i tx h is =
    at_drop_more (λ (rest : List Tx). first_some (map tx_broken rest)) txs i tx h
    ∙ ap (λ (t : Tx). first_some (tx_broken t ∷ map tx_broken (drop (i + 1) txs))) (sym is)

pub tx_refused : (txs : List Tx) (i : ℕ) (tx : Tx) (fault : CheckFault) → i < length txs → tx ≡ get_or txs i tx → first_some (map tx_broken (drop i txs)) ≡ first_some (map tx_broken txs) → Answers {A = Unit {0}} (tx_broken tx) (Err fault) → Answers {A = Unit {0}} (first_some (map tx_broken txs)) (Err fault)
tx_refused txs i tx fault h is before answers =
    refused_first (tx_broken tx) (first_some (map tx_broken txs)) (λ r e. sym before ∙ at_tx txs i tx h is ∙ some_first (tx_broken tx) (map tx_broken (drop (i + 1) txs)) r e) fault answers

pub tx_passed : (txs : List Tx) (i : ℕ) (tx : Tx) → i < length txs → tx ≡ get_or txs i tx → first_some (map tx_broken (drop i txs)) ≡ first_some (map tx_broken txs) → tx_broken tx ≡ None → first_some (map tx_broken (drop (i + 1) txs)) ≡ first_some (map tx_broken txs)
tx_passed txs i tx h is before fine = sym (none_first (tx_broken tx) (map tx_broken (drop (i + 1) txs)) fine) ∙ sym (at_tx txs i tx h is) ∙ before

pub txs_passed : (txs : List Tx) (i : ℕ) → length txs ≤ i → first_some (map tx_broken (drop i txs)) ≡ first_some (map tx_broken txs) → first_some (map tx_broken txs) ≡ None
unfolding first_some
txs_passed txs i h before = sym before ∙ at_drop_all (λ (rest : List Tx). first_some (map tx_broken rest)) txs i h

-- what a `?` hands on is what the callee answered
pub handed_on : (a : Option BodyRefused) (fault : CheckFault) (result : Result (Unit {0}) CheckFault) → result ≡ Err fault → Answers {A = Unit {0}} a (Err fault) → Answers a result
handed_on a fault result e answers = subst (λ (r : Result (Unit {0}) CheckFault). Answers a r) (sym e) answers
