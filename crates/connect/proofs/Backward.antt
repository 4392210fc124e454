-- Transactions and inputs from the last to the first.
use Rattle.std.proofs.Common.{◌≡◌, ◌<◌, ◌≤◌, ◌+◌, ℕ, zero, suc, ◌⊎◌, inl, inr, List, [], ◌∷◌, ◌++◌, length, drop, get_or, map, Option, Some, None, refl, sym, ap, subst, ◌∙◌, arith}
use Rattle.std.specs.Prelude.{Contains, option_map, sum_by}
use Rattle.std.specs.List.{flat_map}
use Rattle.std.specs.FinMap.{insert}
use Rattle.std.proofs.lemmas.List.{at_drop_more, at_drop_all}
use Rattle.std.proofs.lemmas.List.Sums.{sum_by-cons}
use Rattle.base_types.specs.Coins.{Coins}
use Rattle.base_types.specs.declared.coin.Coin.{Coin}
use Rattle.base_types.specs.declared.hash.OutPoint.{OutPoint}
use Rattle.block_codec.specs.declared.block.Tx.{Tx}
use Rattle.block_codec.specs.declared.block.TxIn.{TxIn}
use Rattle.chain_model.specs.BodyRules.{others_of}
use Rattle.chain_model.specs.Editing.{Among}
use Rattle.chain_model.specs.Laws.{inputs_named, outputs_named}
use Rattle.chain_model.proofs.Telling.{among_split}
use Rattle.connect.specs.Rolling.{all_taken_back, calls_to_take_back, given_back, taken_back}

-- nothing is left behind the end of one of two lists
pub none_given : (inputs : List TxIn) (spent : List Coin) (left : ℕ) (told : Option Coins) → (length inputs ≤ left) ⊎ (length spent ≤ left) → told ≡ option_map (given_back (drop left inputs) (drop left spent)) told
unfolding given_back
none_given inputs spent left told (inl done) = sym (at_drop_all (λ (rest : List TxIn). option_map (given_back rest (drop left spent)) told) inputs left done ∙ go told)
  where
    go : (o : Option Coins) → option_map (given_back [] (drop left spent)) o ≡ o
    go None = refl
    go (Some coins) = refl
none_given inputs spent left told (inr done) = sym (at_drop_all (λ (rest : List Coin). option_map (given_back (drop left inputs) rest) told) spent left done ∙ go (drop left inputs) told)
  where
    go : (rest : List TxIn) (o : Option Coins) → option_map (given_back rest []) o ≡ o
    go rest None = refl
    go [] (Some coins) = refl
    go (input ∷ rest) (Some coins) = refl

pub none_taken : (txs : List Tx) (undo : List (List Coin)) (left : ℕ) (told : Option Coins) → (length txs ≤ left) ⊎ (length undo ≤ left) → told ≡ option_map (all_taken_back (drop left txs) (drop left undo)) told
unfolding all_taken_back
none_taken txs undo left told (inl done) = sym (at_drop_all (λ (rest : List Tx). option_map (all_taken_back rest (drop left undo)) told) txs left done ∙ go told)
  where
    go : (o : Option Coins) → option_map (all_taken_back [] (drop left undo)) o ≡ o
    go None = refl
    go (Some coins) = refl
none_taken txs undo left told (inr done) = sym (at_drop_all (λ (rest : List (List Coin)). option_map (all_taken_back (drop left txs) rest) told) undo left done ∙ go (drop left txs) told)
  where
    go : (rest : List Tx) (o : Option Coins) → option_map (all_taken_back rest []) o ≡ o
    go rest None = refl
    go [] (Some coins) = refl
    go (tx ∷ rest) (Some coins) = refl

-- one input more, before those that were given back
pub one_given : (inputs : List TxIn) (spent : List Coin) (i : ℕ) (input : TxIn) (coin : Coin) (first now next : Option Coins) → i < length inputs → input ≡ get_or inputs i input → i < length spent → coin ≡ get_or spent i coin
    → (j : ℕ) → j ≡ i + 1 → now ≡ option_map (given_back (drop j inputs) (drop j spent)) first → next ≡ option_map (λ coins. insert coins input.prev coin) now → next ≡ option_map (given_back (drop i inputs) (drop i spent)) first
unfolding given_back
one_given inputs spent i input coin first now next within is within' is' j after so_far put =
    put ∙ ap (option_map (λ coins. insert coins input.prev coin)) (so_far ∙ ap (λ (n : ℕ). option_map (given_back (drop n inputs) (drop n spent)) first) after) ∙ go first
    ∙ sym (at_drop_more (λ (rest : List TxIn). option_map (given_back rest (drop i spent)) first) inputs i input within
    ∙ ap (λ (n : TxIn). option_map (given_back (n ∷ drop (i + 1) inputs) (drop i spent)) first) (sym is)
    ∙ at_drop_more (λ (rest : List Coin). option_map (given_back (input ∷ drop (i + 1) inputs) rest) first) spent i coin within'
    ∙ ap (λ (c : Coin). option_map (given_back (input ∷ drop (i + 1) inputs) (c ∷ drop (i + 1) spent)) first) (sym is'))
  where
    go : (o : Option Coins) → option_map (λ coins. insert coins input.prev coin) (option_map (given_back (drop (i + 1) inputs) (drop (i + 1) spent)) o) ≡ option_map (given_back (input ∷ drop (i + 1) inputs) (coin ∷ drop (i + 1) spent)) o
    go None = refl
    go (Some coins) = refl

-- one transaction more
pub one_taken : (txs : List Tx) (undo : List (List Coin)) (i : ℕ) (tx : Tx) (spent : List Coin) (first now next : Option Coins) → i < length txs → tx ≡ get_or txs i tx → i < length undo → spent ≡ get_or undo i spent
    → (j : ℕ) → j ≡ i + 1 → now ≡ option_map (all_taken_back (drop j txs) (drop j undo)) first → next ≡ option_map (taken_back tx spent) now → next ≡ option_map (all_taken_back (drop i txs) (drop i undo)) first
unfolding all_taken_back
one_taken txs undo i tx spent first now next within is within' is' j after so_far back =
    back ∙ ap (option_map (taken_back tx spent)) (so_far ∙ ap (λ (n : ℕ). option_map (all_taken_back (drop n txs) (drop n undo)) first) after) ∙ go first
    ∙ sym (at_drop_more (λ (rest : List Tx). option_map (all_taken_back rest (drop i undo)) first) txs i tx within
    ∙ ap (λ (t : Tx). option_map (all_taken_back (t ∷ drop (i + 1) txs) (drop i undo)) first) (sym is)
    ∙ at_drop_more (λ (rest : List (List Coin)). option_map (all_taken_back (tx ∷ drop (i + 1) txs) rest) first) undo i spent within'
    ∙ ap (λ (s : List Coin). option_map (all_taken_back (tx ∷ drop (i + 1) txs) (s ∷ drop (i + 1) undo)) first) (sym is'))
  where
    go : (o : Option Coins) → option_map (taken_back tx spent) (option_map (all_taken_back (drop (i + 1) txs) (drop (i + 1) undo)) o) ≡ option_map (all_taken_back (tx ∷ drop (i + 1) txs) (spent ∷ drop (i + 1) undo)) o
    go None = refl
    go (Some coins) = refl

-- ---- at an index

pub input_among : (keys : List OutPoint) (inputs : List TxIn) (i : ℕ) (input : TxIn) → i < length inputs → input ≡ get_or inputs i input → Among keys (map (λ n. n.prev) inputs) → Contains keys input.prev
input_among keys [] i input h is all = absurd (omega arith)
input_among keys (first ∷ inputs) zero input h is all = let P : TxIn → Type 0 = λ n. Contains keys n.prev in subst P (sym is) all.0
input_among keys (first ∷ inputs) (suc i) input h is all = input_among keys inputs i input (omega arith) is all.1

pub tx_among : (names : Tx → List OutPoint) (keys : List OutPoint) (txs : List Tx) (i : ℕ) (tx : Tx) → i < length txs → tx ≡ get_or txs i tx → Among keys (flat_map names txs) → Among keys (names tx)
tx_among names keys [] i tx h is all = absurd (omega arith)
tx_among names keys (first ∷ txs) zero tx h is all = let P : Tx → Type 0 = λ t. Among keys (names t) in subst P (sym is) (among_split keys (names first) (flat_map names txs) all).0
tx_among names keys (first ∷ txs) (suc i) tx h is all = tx_among names keys txs i tx (omega arith) is (among_split keys (names first) (flat_map names txs) all).1

-- the calls with one transaction more
pub calls_more : (txs : List Tx) (i : ℕ) (tx : Tx) → i < length txs → tx ≡ get_or txs i tx → sum_by calls_to_take_back (drop i txs) ≡ calls_to_take_back tx + sum_by calls_to_take_back (drop (i + 1) txs)
calls_more txs i tx h is =
    at_drop_more (sum_by calls_to_take_back) txs i tx h
    ∙ ap (λ (t : Tx). sum_by calls_to_take_back (t ∷ drop (i + 1) txs)) (sym is)
    ∙ sum_by-cons calls_to_take_back tx (drop (i + 1) txs)

-- what is read at an index, whatever is read past the end
pub same_at : {A : Type 0} (xs : List A) (i : ℕ) (d x : A) → i < length xs → x ≡ get_or xs i d → x ≡ get_or xs i x
same_at [] i d x h e = absurd (omega arith)
same_at (y ∷ ys) zero d x h e = e
same_at (y ∷ ys) (suc i) d x h e = same_at ys i d x (omega arith) e

sum_of_rest : (txs : List Tx) (i : ℕ) → sum_by calls_to_take_back (drop i txs) ≤ sum_by calls_to_take_back txs
sum_of_rest [] zero = omega arith
sum_of_rest [] (suc i) = omega arith
sum_of_rest (tx ∷ txs) zero = omega arith
sum_of_rest (tx ∷ txs) (suc i) = let rest = sum_of_rest txs i in let all = sum_by-cons calls_to_take_back tx txs in omega (arith, rest, all)

pub calls_within : (txs : List Tx) (i j : ℕ) (tx : Tx) → i < length txs → tx ≡ get_or txs i tx → j ≡ i + 1 → sum_by calls_to_take_back (drop j txs) + calls_to_take_back tx ≤ sum_by calls_to_take_back txs
calls_within txs i j tx h is after =
    let more = calls_more txs i tx h is in
    let rest = sum_of_rest txs i in
    let same : sum_by calls_to_take_back (drop j txs) ≡ sum_by calls_to_take_back (drop (i + 1) txs) = ap (λ (n : ℕ). sum_by calls_to_take_back (drop n txs)) after in
    omega (arith, more, rest, same)

-- what a block names, its coinbase apart
pub names_split : (keys : List OutPoint) (slice txs rest : List Tx) (coinbase : Tx) → slice ≡ txs → slice ≡ coinbase ∷ rest → Among keys (flat_map inputs_named (others_of txs) ++ flat_map outputs_named txs)
    → Among keys (flat_map inputs_named rest) × Among keys (outputs_named coinbase) × Among keys (flat_map outputs_named rest)
names_split keys slice txs rest coinbase same split all =
    let P : List Tx → Type 0 = λ some. Among keys (flat_map inputs_named (others_of some) ++ flat_map outputs_named some) in
    let both = among_split keys (flat_map inputs_named rest) (flat_map outputs_named (coinbase ∷ rest)) (subst P (sym same ∙ split) all) in
    let outs = among_split keys (outputs_named coinbase) (flat_map outputs_named rest) both.1 in
    (both.0, outs.0, outs.1)
