-- What a tree says of its members stays as it grows.
use Rattle.std.proofs.Common.{◌≡◌, ℕ, zero, suc, ◌+◌, ◌-◌, ◌*◌, ◌%◌, ◌&&◌, ◌||◌, Bool, true, cond, not, List, [], ◌∷◌, ◌++◌, length, map, take, reverse, refl, sym, ap, subst, ◌∙◌, arith}
use Rattle.std.specs.Prelude.{is_some, nat_le, nat_lt, slice_get, take_while}
use Rattle.std.specs.declared.option.Option.{Option}
use Rattle.std.specs.declared.option.Option.TheVariants.{Some, None}
use Rattle.std.specs.declared.result.Result.{Result}
use Rattle.std.specs.declared.result.Result.TheVariants.{Err}
use Rattle.std.specs.Option.{option_map_or}
use Rattle.std.specs.List.{AllByRecursion, find, list_any}
use Rattle.std.specs.FinMap.{get, contains_key}
use Rattle.std.specs.FinMap as finite
use Rattle.std.proofs.lemmas.List.{reverse-append}
use Rattle.std.proofs.lemmas.Option.{same_Some, none-some}
use Rattle.base_types.specs.Reading.{◌>>=◌}
use Rattle.base_types.specs.Coins.{Coins}
use Rattle.base_types.specs.declared.coin.Coin.{Coin}
use Rattle.base_types.specs.declared.hash.Hash32.{Hash32}
use Rattle.base_types.specs.declared.program.Rules.{Rules}
use Rattle.base_types.specs.declared.refused.CoinRefused.{CoinRefused}
use Rattle.block_codec.specs.declared.block.Block.{Block}
use Rattle.block_codec.specs.declared.block.Header.{Header}
use Rattle.block_codec.specs.declared.block.Tx.{Tx}
use Rattle.block_codec.specs.declared.block.TxIn.{TxIn}
use Rattle.block_codec.specs.Text.{hash_of_header, same_hash}
use Rattle.chain_model.specs.Above.{IsAbove}
use Rattle.chain_model.specs.Growth.{Grows}
use Rattle.chain_model.specs.Tree.{Headers, Tree, chain, height, ancestor, path, fork, time, median, median_time}
use Rattle.block_codec.specs.Genesis.{genesis_hash}
use Rattle.chain_model.specs.HeaderRules.{IsTree, tree_with, header_broken, with_header, first_tree}
use Rattle.base_types.specs.Parameters.{max_money}
use Rattle.chain_model.specs.BodyRules.{Place, body_broken, place_below}
use Rattle.chain_model.specs.Apply.{Position, Paid, unless, median_at, counts_time, lock_passed, is_free, has_lock, is_locked, coins_broken, fee, spending_broken, spent_and_made, paid_by, after_tx, after_txs, overwrites, rewarded, after_all, outcome, replayed}
use Rattle.chain_model.specs.Coins.{spent_by, with_outputs, value_of_coins, value_of_outputs}
use Rattle.chain_model.specs.Rules.{first_broken, first_some}
use Rattle.base_types.specs.declared.refused.CoinRefused.TheVariants.{Bip30, InBelowOut, ValueRange, SequenceLock}
use Rattle.chain_model.proofs.Chains.{above_stays, line, whole_line, one_height}
use Rattle.chain_model.proofs.Hashes.{there, get_kept}
use Rattle.chain_model.proofs.Trees.{is_rooted, acceptable, grown_keeps, grown_join, grown_one, chain_known}

-- ---- trees that grow

pub grows_self : (limit : ℕ) (tree : Tree) → IsTree limit tree → Grows limit tree tree
grows_self limit tree is = record { before = is; after = is; kept = λ hash header found. found; rules = refl }

pub grows_then : (limit : ℕ) (old middle new : Tree) → Grows limit old middle → Grows limit middle new → Grows limit old new
grows_then limit old middle new first second = record {
  before = first.before;
  after = second.after;
  kept = λ hash header found. second.kept hash header (first.kept hash header found);
  rules = second.rules ∙ first.rules;
}

-- more headers, one after the other
record Keeps (old new : Tree) : Type 0 where
  kept : (hash : Hash32) (header : Header) → get old.headers hash ≡ Some header → get new.headers hash ≡ Some header
  rules : new.rules ≡ old.rules

keeps_one : (limit : ℕ) (old tree : Tree) (header : Header) → Keeps old tree → header_broken limit tree header ≡ None → Keeps old (with_header tree header)
keeps_one limit old tree header keeps fine = record {
  kept = λ hash x found. get_kept tree.headers (hash_of_header header) header hash x (acceptable limit tree header fine).fresh (keeps.kept hash x found);
  rules = keeps.rules;
}

pub grows_by : (limit : ℕ) (old new : Tree) (headers : List Header) → IsTree limit old → tree_with limit old headers ≡ Some new → Grows limit old new
grows_by limit old new headers is more =
    let keeps = grown_keeps (Keeps old) limit (keeps_one limit old) headers old new (record { kept = λ hash header found. found; rules = refl }) more in
    record {
      before = is;
      after = record {
        accepted = is.accepted ++ headers;
        comes = grown_join limit is.accepted headers (first_tree new.rules) old new (ap (λ (rules : Rules). tree_with limit (first_tree rules) is.accepted) keeps.rules ∙ is.comes) more;
      };
      kept = keeps.kept;
      rules = keeps.rules;
    }

pub grows_one : (limit : ℕ) (tree : Tree) (header : Header) → IsTree limit tree → header_broken limit tree header ≡ None → Grows limit tree (with_header tree header)
grows_one limit tree header is fine = grows_by limit tree (with_header tree header) (header ∷ []) is (grown_one limit tree header fine)

-- ---- lists of members

member_at : (headers : Headers) (hashes : List Hash32) → AllByRecursion (λ h. contains_key headers h ≡ true) hashes → (at : ℕ) (hash : Hash32) → slice_get hashes at ≡ Some hash → contains_key headers hash ≡ true
member_at headers [] all at hash e = absurd (none-some hash e)
member_at headers (one ∷ others) all zero hash e = ap (contains_key headers) (sym (same_Some one hash e)) ∙ all.0
member_at headers (one ∷ others) all (suc at) hash e = member_at headers others all.1 at hash e

all_join : (P : Hash32 → Type 0) (xs ys : List Hash32) → AllByRecursion P xs → AllByRecursion P ys → AllByRecursion P (xs ++ ys)
all_join P [] ys first second = second
all_join P (x ∷ xs) ys first second = (first.0, all_join P xs ys first.1 second)

pub all_turned : (P : Hash32 → Type 0) (xs : List Hash32) → AllByRecursion P xs → AllByRecursion P (reverse xs)
all_turned P [] all = tt
all_turned P (x ∷ xs) all = subst (AllByRecursion P) (sym (reverse-append (x ∷ []) xs)) (all_join P (reverse xs) (x ∷ []) (all_turned P xs all.1) (all.0, tt))

same_map : (f g : Hash32 → ℕ) (headers : Headers) → ((hash : Hash32) → contains_key headers hash ≡ true → f hash ≡ g hash)
    → (n : ℕ) (hashes : List Hash32) → AllByRecursion (λ h. contains_key headers h ≡ true) hashes → map f (take n hashes) ≡ map g (take n hashes)
same_map f g headers same zero hashes all = refl
same_map f g headers same (suc n) [] all = refl
same_map f g headers same (suc n) (hash ∷ hashes) all =
    ap (λ (x : ℕ). x ∷ map f (take n hashes)) (same hash all.0)
    ∙ ap (λ (xs : List ℕ). g hash ∷ xs) (same_map f g headers same n hashes all.1)

-- ---- what a tree says of a member

module _ (limit : ℕ) (old new : Tree) (grows : Grows limit old new) where
  pub stays_known : (hash : Hash32) → contains_key old.headers hash ≡ true → contains_key new.headers hash ≡ true
  stays_known hash known =
      let header = there (get old.headers hash) known in
      ap (λ (o : Option Header). is_some o) (grows.kept hash header.0 header.1)

  -- the way down is the same
  line_stays : (n : ℕ) (a b : Hash32) (s : IsAbove old.headers n a b) → line new.headers n a b (above_stays old.headers new.headers grows.kept n a b s) ≡ line old.headers n a b s
  unfolding above_stays
  line_stays zero a b s = refl
  line_stays (suc n) a b (header, step, s) = ap (λ (hashes : List Hash32). a ∷ hashes) (line_stays n header.prev b s)

  pub same_chain : (hash : Hash32) → contains_key old.headers hash ≡ true → chain new.headers hash ≡ chain old.headers hash
  same_chain hash known =
      let header = there (get old.headers hash) known in
      let low = (is_rooted limit old grows.before).high hash header.0 header.1 in
      let high = (is_rooted limit new grows.after).high hash header.0 (grows.kept hash header.0 header.1) in
      let way = above_stays old.headers new.headers grows.kept low.0 hash genesis_hash low.1 in
      let level = one_height new.headers low.0 high.0 hash way high.1 in
      let less_low = low.2 in
      let less_high = high.2 in
      whole_line new.headers low.0 (finite.len new.headers) hash way (omega arith)
      ∙ ap (λ (hashes : List Hash32). hashes ++ genesis_hash ∷ []) (line_stays low.0 hash genesis_hash low.1)
      ∙ sym (whole_line old.headers low.0 (finite.len old.headers) hash low.1 less_low)

  pub same_height : (hash : Hash32) → contains_key old.headers hash ≡ true → height new.headers hash ≡ height old.headers hash
  same_height hash known = ap (λ (hashes : List Hash32). length hashes - 1) (same_chain hash known)

  pub same_ancestor : (hash : Hash32) (at : ℕ) → contains_key old.headers hash ≡ true → ancestor new.headers hash at ≡ ancestor old.headers hash at
  same_ancestor hash at known = ap (λ (hashes : List Hash32). slice_get (reverse hashes) at) (same_chain hash known)

  pub same_path : (from to : Hash32) → contains_key old.headers to ≡ true → path new.headers from to ≡ path old.headers from to
  same_path from to known = ap (λ (hashes : List Hash32). reverse (take_while (λ hash. not (same_hash hash from)) hashes)) (same_chain to known)

  pub same_fork : (a b : Hash32) → contains_key old.headers a ≡ true → contains_key old.headers b ≡ true → fork new.headers a b ≡ fork old.headers a b
  same_fork a b known_a known_b =
      ap (find (λ hash. list_any (same_hash hash) (chain new.headers b))) (same_chain a known_a)
      ∙ ap (λ (hashes : List Hash32). find (λ hash. list_any (same_hash hash) hashes) (chain old.headers a)) (same_chain b known_b)

  pub same_time : (hash : Hash32) → contains_key old.headers hash ≡ true → time new.headers hash ≡ time old.headers hash
  same_time hash known =
      let header = there (get old.headers hash) known in
      ap (λ (o : Option Header). option_map_or (λ header. header.time) o 0) (grows.kept hash header.0 header.1 ∙ sym header.1)

  pub same_median_time : (hash : Hash32) → contains_key old.headers hash ≡ true → median_time new.headers hash ≡ median_time old.headers hash
  same_median_time hash known =
      let all = chain_known old.headers (is_rooted limit old grows.before) hash known in
      ap median (ap (λ (hashes : List Hash32). map (time new.headers) (take 11 hashes)) (same_chain hash known)
      ∙ same_map (time new.headers) (time old.headers) old.headers same_time 11 (chain old.headers hash) all)

  -- an ancestor is a member
  pub ancestor_known : (hash : Hash32) (at : ℕ) (other : Hash32) → contains_key old.headers hash ≡ true → ancestor old.headers hash at ≡ Some other → contains_key old.headers other ≡ true
  ancestor_known hash at other known is =
      let all = chain_known old.headers (is_rooted limit old grows.before) hash known in
      member_at old.headers (reverse (chain old.headers hash)) (all_turned (λ h. contains_key old.headers h ≡ true) (chain old.headers hash) all) at other is

  -- ---- where a block stands

  pub same_place : (parent : Hash32) → contains_key old.headers parent ≡ true → place_below new parent ≡ place_below old parent
  same_place parent known =
      let tall = ap (λ (n : ℕ). n + 1) (same_height parent known) in
      let median = same_median_time parent known in
      let rules = grows.rules in
      λ i. record { at = tall i; median = median i; rules = rules i }

  pub same_body : (block : Block) → contains_key old.headers block.header.prev ≡ true → body_broken (place_below new block.header.prev) block ≡ body_broken (place_below old block.header.prev) block
  same_body block known = ap (λ (place : Place). body_broken place block) (same_place block.header.prev known)

  -- ---- what a block does to coins

  pub same_median_at : (parent : Hash32) (at : ℕ) → contains_key old.headers parent ≡ true → median_at new parent at ≡ median_at old parent at
  same_median_at parent at known =
      ap (λ (o : Option Hash32). option_map_or (median_time new.headers) o 0) (same_ancestor parent at known)
      ∙ go (ancestor old.headers parent at) (λ other is. same_median_time other (ancestor_known parent at other known is))
    where
      go : (o : Option Hash32) → ((other : Hash32) → o ≡ Some other → median_time new.headers other ≡ median_time old.headers other) → option_map_or (median_time new.headers) o 0 ≡ option_map_or (median_time old.headers) o 0
      go None same = refl
      go (Some other) same = same other refl

  module _ (parent : Hash32) (known : contains_key old.headers parent ≡ true) where
    abbrev here : Tree → ℕ → Position
    here tree at = record { tree = tree; parent = parent; at = at }

    same_lock : (at sequence : ℕ) (coin : Coin) → lock_passed (here new at) sequence coin ≡ lock_passed (here old at) sequence coin
    same_lock at sequence coin =
        ap (λ (m : ℕ). cond (counts_time sequence) (nat_le coin.height at && nat_le (m + 512 * (sequence % 65536)) (median_time new.headers parent)) (nat_le (coin.height + sequence % 65536) at)) (same_median_at parent (coin.height - 1) known)
        ∙ ap (λ (m : ℕ). cond (counts_time sequence) (nat_le coin.height at && nat_le (median_at old parent (coin.height - 1) + 512 * (sequence % 65536)) m) (nat_le (coin.height + sequence % 65536) at)) (same_median_time parent known)

    same_locks : (at : ℕ) (inputs : List TxIn) (coins : List Coin) → has_lock (here new at) inputs coins ≡ has_lock (here old at) inputs coins
    same_locks at [] coins = refl
    same_locks at (input ∷ inputs) [] = refl
    same_locks at (input ∷ inputs) (coin ∷ coins) =
        ap (λ (b : Bool). (not (is_free input.sequence) && not b) || has_lock (here new at) inputs coins) (same_lock at input.sequence coin)
        ∙ ap (λ (b : Bool). (not (is_free input.sequence) && not (lock_passed (here old at) input.sequence coin)) || b) (same_locks at inputs coins)

    same_locked : (at : ℕ) (tx : Tx) (coins : List Coin) → is_locked (here new at) tx coins ≡ is_locked (here old at) tx coins
    same_locked at tx coins =
        ap (λ (rules : Rules). nat_le rules.csv at && nat_le 2 tx.version && has_lock (here new at) tx.inputs coins) grows.rules
        ∙ ap (λ (b : Bool). nat_le old.rules.csv at && nat_le 2 tx.version && b) (same_locks at tx.inputs coins)

    same_spending : (at fees : ℕ) (tx : Tx) (coins : List Coin) → spending_broken (here new at) fees tx coins ≡ spending_broken (here old at) fees tx coins
    same_spending at fees tx coins =
        ap (λ (b : Bool). first_some (coins_broken at 0 coins ∷ first_broken ((nat_lt (value_of_coins coins) (value_of_outputs tx.outputs), InBelowOut) ∷ (nat_lt max_money (fees + fee tx coins), ValueRange) ∷ (b, SequenceLock) ∷ []) ∷ [])) (same_locked at tx coins)

    same_paid : (at : ℕ) (tx : Tx) (paid : Paid) (o : Option (List Coin)) → paid_by (here new at) tx paid o ≡ paid_by (here old at) tx paid o
    same_paid at tx paid None = refl
    same_paid at tx paid (Some coins) =
        ap (λ (broken : Option CoinRefused). unless broken (record { coins = spent_and_made at tx paid.coins; fees = paid.fees + fee tx coins })) (same_spending at paid.fees tx coins)

    same_txs : (at : ℕ) (paid : Paid) (txs : List Tx) → after_txs (here new at) paid txs ≡ after_txs (here old at) paid txs
    unfolding after_txs
    same_txs at paid [] = refl
    same_txs at paid (tx ∷ txs) =
        let rest : (λ next. after_txs (here new at) next txs) ≡ (λ next. after_txs (here old at) next txs) = λ i next. same_txs at next txs i in
        ap (λ (r : Result Paid CoinRefused). r >>= λ next. after_txs (here new at) next txs) (same_paid at tx paid (spent_by paid.coins tx.inputs))
        ∙ ap (λ (f : Paid → Result Paid CoinRefused). after_tx (here old at) paid tx >>= f) rest

    same_all : (at : ℕ) (coins : Coins) (txs : List Tx) → after_all (here new at) coins txs ≡ after_all (here old at) coins txs
    same_all at coins [] = refl
    same_all at coins (coinbase ∷ txs) =
        ap (λ (r : Result Paid CoinRefused). r >>= rewarded at coinbase) (same_txs at (record { coins = with_outputs at coinbase coins; fees = 0 }) txs)

  pub same_outcome : (coins : Coins) (block : Block) → contains_key old.headers block.header.prev ≡ true → outcome new coins block ≡ outcome old coins block
  same_outcome coins block known =
      ap (λ (n : ℕ). cond (overwrites coins block.txs) (Err Bip30) (after_all (record { tree = new; parent = block.header.prev; at = n + 1 }) coins block.txs)) (same_height block.header.prev known)
      ∙ ap (λ (r : Result Coins CoinRefused). cond (overwrites coins block.txs) (Err Bip30) r) (same_all block.header.prev known (height old.headers block.header.prev + 1) coins block.txs)

  -- blocks whose parents are members
  pub same_replay : (blocks : List Block) → AllByRecursion (λ block. contains_key old.headers block.header.prev ≡ true) blocks → (coins : Coins) → replayed new coins blocks ≡ replayed old coins blocks
  unfolding replayed
  same_replay [] all coins = refl
  same_replay (block ∷ blocks) all coins =
      let rest : (λ next. replayed new next blocks) ≡ (λ next. replayed old next blocks) = λ i next. same_replay blocks all.1 next i in
      ap (λ (r : Result Coins CoinRefused). r >>= λ next. replayed new next blocks) (same_outcome coins block all.0)
      ∙ ap (λ (f : Coins → Result Coins CoinRefused). outcome old coins block >>= f) rest
