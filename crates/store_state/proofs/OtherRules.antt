-- The rules that are given don't matter to a settled image: where no header is stored, nothing above genesis is.
use Rattle.std.proofs.Common.{◌≡◌, ℕ, Bool, true, false, List, [], ◌∷◌, cond, Option, Some, None, refl, sym, ap, subst, ◌∙◌, arith, is_some}
use Rattle.std.specs.Prelude.{All, Ok, Err}
use Rattle.std.specs.FinMap.{get, empty, get-empty}
use Rattle.std.specs.List.{list_all}
use Rattle.std.specs.Option.{option_and_then}
use Rattle.std.specs.Result.{result_ok}
use Rattle.disk_model.specs.Disk.{Image}
use Rattle.base_types.specs.Coins.{Coins}
use Rattle.base_types.specs.Keys.{hash_cmp}
use Rattle.base_types.specs.Views.{BrokenPlace}
use Rattle.base_types.specs.declared.hash.Hash32.{Hash32}
use Rattle.base_types.specs.declared.program.Rules.{Rules}
use Rattle.block_codec.specs.declared.block.Block.{Block}
use Rattle.block_codec.specs.declared.block.Header.{Header}
use Rattle.chain_model.specs.Apply.{replayed}
use Rattle.chain_model.specs.Choice.{Choice, blocks_of, is_at_or_below, coins_at, is_valid}
use Rattle.chain_model.specs.HeaderRules.{first_tree}
use Rattle.block_codec.specs.Genesis.{genesis, genesis_hash}
use Rattle.chain_model.specs.Tree.{first_headers, path}
use Rattle.coin_store.specs.Batches.{Batch}
use Rattle.coin_store.specs.declared.marker.Marker.{Marker}
use Rattle.coin_store.specs.declared.marker.Marker.TheVariants.{At, Between}
use Rattle.store_state.specs.GivenRules.{StandsAlike}
use Rattle.store_state.specs.Roles.{Alone}
use Rattle.store_state.specs.Settled.{IsSettled, IsBody, IsReplay}
use Rattle.chain_model.proofs.Hashes.{get_other}
use Rattle.store_state.specs.State.{StoreState, Chainstate, StoredBody, Record, Read, ◌>>=◌, read_bodies, read_batches, read_store, state_of, chainstate_of, records_of, header_file, coin_file, each_of, each_passes, tree_after, blocks_in, last_reached, is_in, tip_of, tips_of, said}
use Rattle.store_state.proofs.BrokenImages.{read_batch}

-- ---- reading goes by the headers of a tree alone

module _ (g h : Rules) where
  reached_same : (bodies : List StoredBody) (start : Hash32) (batches : List (Record Batch))
      → last_reached (first_tree g) bodies start batches ≡ last_reached (first_tree h) bodies start batches
  unfolding last_reached
  reached_same bodies start [] = refl
  reached_same bodies start (last ∷ []) = refl
  reached_same bodies start (one ∷ next ∷ others) = ap (λ (r : Read (List (Record Batch))). r >>= λ more. Ok (one ∷ more)) (reached_same bodies start (next ∷ others))

  batches_same : (bodies : List StoredBody) (image : Image) → read_batches (first_tree g) bodies image ≡ read_batches (first_tree h) bodies image
  batches_same bodies image = λ i.
      records_of image coin_file >>= λ records.
      each_of coin_file read_batch records >>= λ batches.
      each_passes coin_file (λ batch. list_all (is_in (first_tree g)) (tips_of batch.marker)) batches >>= λ known.
      reached_same bodies genesis_hash known i >>= λ reached.
      Ok (said reached)

-- ---- the store of an image without headers

abbrev made : Rules → List StoredBody → Chainstate → StoreState
made g bodies chain = record { tree = first_tree g; bodies = bodies; active = chain; role = Alone }

read_ok : {A B : Type 0} (r : Read A) (f : A → Read B) (b : B) → (r >>= f) ≡ Ok b → (a : A) × (r ≡ Ok a) × (f a ≡ Ok b)
read_ok (Ok a) f b e = (a, refl, e)
read_ok (Err place) f b e = absurd cc

ok_same : {A : Type 0} (a b : A) → (let x : Read A = Ok a in x) ≡ Ok b → a ≡ b
ok_same a b e = cc

module _ (limit : ℕ) (image : Image) (no_headers : records_of image header_file ≡ Ok []) where
  abbrev rest : Rules → Read StoreState
  rest g =
      read_bodies (first_tree g) image >>= λ bodies.
      read_batches (first_tree g) bodies image >>= λ batches.
      Ok (made g bodies (chainstate_of genesis_hash empty batches))

  is_rest : (g : Rules) → read_store limit g image ≡ rest g
  unfolding each_of tree_after
  is_rest g = rw no_headers refl

  -- what is read under given rules is read under others, but for the rules
  record Both (g h : Rules) (store : StoreState) : Type 0 where
    bodies : List StoredBody
    chain : Chainstate
    is : store ≡ made g bodies chain
    other : read_store limit h image ≡ Ok (made h bodies chain)

  both : (g h : Rules) (store : StoreState) → read_store limit g image ≡ Ok store → Both g h store
  both g h store e =
      let b = read_ok (read_bodies (first_tree g) image) _ store (sym (is_rest g) ∙ e) in
      let c = read_ok (read_batches (first_tree g) b.0 image) _ store b.2 in
      record {
        bodies = b.0;
        chain = chainstate_of genesis_hash empty c.0;
        is = sym (ok_same _ store c.2);
        other =
            is_rest h
            ∙ ap (λ (r : Read (List StoredBody)). r >>= λ bodies. read_batches (first_tree h) bodies image >>= λ batches. Ok (made h bodies (chainstate_of genesis_hash empty batches))) b.1
            ∙ ap (λ (r : Read (List Batch)). r >>= λ batches. Ok (made h b.0 (chainstate_of genesis_hash empty batches))) (sym (batches_same g h b.0 image) ∙ c.1);
      }

-- ---- it is settled alike

-- a body above genesis can't be in a tree of genesis alone
none_above : (g : Rules) (bodies : List StoredBody) → All (IsBody (first_tree g)) bodies → bodies ≡ []
none_above g [] all = refl
none_above g (body ∷ bodies) all =
    let b = all 0 body (omega arith) in
    let gone : get first_headers body.hash ≡ None = get_other empty genesis_hash genesis body.hash b.above ∙ get-empty hash_cmp body.hash in
    absurd (no_header b.block.header (sym gone ∙ b.header))
  where
    no_header : (header : Header) → (let none : Option Header = None in none) ≡ Some header → ⊥
    no_header header e = cc

module _ (g h : Rules) (start : Hash32) (coins : Coins) (tip : Hash32) where
  abbrev choice_under : Rules → Choice
  choice_under rules = record { tree = first_tree rules; bodies = empty; start = start; start_coins = coins; tip = tip; is_candidate = λ hash. true }

  -- without bodies a replay is that of no blocks
  by_path : (hashes : List Hash32)
      → option_and_then (λ blocks. result_ok (replayed (first_tree g) coins blocks)) (blocks_of empty hashes)
      ≡ option_and_then (λ blocks. result_ok (replayed (first_tree h) coins blocks)) (blocks_of empty hashes)
  unfolding replayed
  by_path [] = refl
  by_path (hash ∷ hashes) = rw (get-empty {X = Block} hash_cmp hash) refl

  by_test : (b : Bool) (hashes : List Hash32)
      → option_and_then (λ blocks. result_ok (replayed (first_tree g) coins blocks)) (cond b (blocks_of empty hashes) None)
      ≡ option_and_then (λ blocks. result_ok (replayed (first_tree h) coins blocks)) (cond b (blocks_of empty hashes) None)
  by_test true hashes = by_path hashes
  by_test false hashes = refl

  coins_same : (hash : Hash32) → coins_at (choice_under g) hash ≡ coins_at (choice_under h) hash
  coins_same hash = by_test (is_at_or_below first_headers start hash) (path first_headers start hash)

  valid_same : (hash : Hash32) → is_valid (choice_under g) hash ≡ true → is_valid (choice_under h) hash ≡ true
  valid_same hash is = ap is_some (sym (coins_same hash)) ∙ is

empty_alike : (g h : Rules) (chain : Chainstate) → IsSettled (made g [] chain) → IsSettled (made h [] chain)
unfolding blocks_in
empty_alike g h chain s =
    record {
      bodies = λ k d low. absurd (omega arith);
      distinct = s.distinct;
      tips = λ k d low. valid_same g h chain.start chain.start_coins (tip_of chain) _ (s.tips k d low);
      rows = by_marker chain.marker s.rows;
    }
  where
    by_marker : (marker : Marker) → IsReplay (made g [] chain) chain marker → IsReplay (made h [] chain) chain marker
    by_marker (At at) is = sym (coins_same g h chain.start chain.start_coins (tip_of chain) at) ∙ is
    by_marker (Between new_tip old_tip) is = absurd is

-- what was read alike is settled alike
made_alike : (g h : Rules) (bodies : List StoredBody) (chain : Chainstate) → IsSettled (made g bodies chain) → IsSettled (made h bodies chain)
made_alike g h bodies chain s =
    let none : bodies ≡ [] = none_above g bodies s.bodies in
    subst (λ (b : List StoredBody). IsSettled (made h b chain)) (sym none) (empty_alike g h chain (subst (λ (b : List StoredBody). IsSettled (made g b chain)) none s))

-- ---- any image

ok_of : {A : Type 0} (r : Read A) (a : A) → result_ok r ≡ Some a → r ≡ Ok a
ok_of (Ok x) a e = cc
ok_of (Err place) a e = absurd cc

module _ (limit : ℕ) (g h : Rules) (image : Image) (store : StoreState) (stands : state_of limit g image ≡ Some store) (settled : IsSettled store) where
  -- where both read the same
  kept : read_store limit g image ≡ read_store limit h image → StandsAlike limit h image store
  kept e = record {
    other = store;
    stands_for = ap result_ok (sym e) ∙ stands;
    settled = settled;
    same = record { headers = refl; bodies = refl; active = refl; role = refl };
  }

  free : records_of image header_file ≡ Ok [] → StandsAlike limit h image store
  free no_headers =
      let b = both limit image no_headers g h store (ok_of (read_store limit g image) store stands) in
      record {
        other = made h b.bodies b.chain;
        stands_for = ap result_ok b.other;
        settled = made_alike g h b.bodies b.chain (subst IsSettled b.is settled);
        same = record {
          headers = ap (λ (s : StoreState). s.tree.headers) b.is;
          bodies = ap (λ (s : StoreState). s.bodies) b.is;
          active = ap (λ (s : StoreState). s.active) b.is;
          role = ap (λ (s : StoreState). s.role) b.is;
        };
      }

  none_is : (place : BrokenPlace) → read_store limit g image ≡ Err place → StandsAlike limit h image store
  none_is place e = absurd (cc (ok_of (read_store limit g image) store stands, e))

  by_cases : (l : Read (List (Record (List ℕ)))) → records_of image header_file ≡ l → StandsAlike limit h image store
  by_cases (Err place) headers = none_is place (rw headers refl)
  by_cases (Ok []) headers = free headers
  by_cases (Ok (header ∷ others)) headers = kept (rw headers refl)

  pub alike : StandsAlike limit h image store
  alike = by_cases (records_of image header_file) refl
