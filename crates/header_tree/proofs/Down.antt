-- Ways down by the entries.
use Rattle.std.proofs.Common.{◌≡◌, ℕ, zero, suc, ◌+◌, ◌-◌, ◌<◌, ◌≤◌, min, get_or, List, [], ◌∷◌, length, false, refl, sym, ap, subst, ◌∙◌, arith}
use Rattle.std.specs.Prelude.{slice_get}
use Rattle.std.specs.List.{find}
use Rattle.std.specs.declared.option.Option.{Option}
use Rattle.std.specs.declared.option.Option.TheVariants.{Some, None}
use Rattle.std.specs.Option.{option_map, option_map_or}
use Rattle.std.specs.FinMap.{get, contains_key}
use Rattle.std.specs.FinMap as finite
use Rattle.std.proofs.lemmas.Option.{same_Some, none-some, slice_get-map, slice_get-get_or, slice_get_within, get_or_from_slice_get}
use Rattle.std.proofs.lemmas.List.{length-map}
use Rattle.base_types.specs.declared.hash.Hash32.{Hash32}
use Rattle.base_types.specs.declared.program.Rules.{Rules}
use Rattle.block_codec.specs.declared.block.Header.{Header}
use Rattle.block_codec.specs.Genesis.{genesis_hash}
use Rattle.chain_model.specs.Tree.{chain, time, height, ancestor, fork}
use Rattle.header_tree.specs.declared.entry.Entry.{Entry}
use Rattle.chain_model.specs.Above.{IsAbove}
use Rattle.header_tree.specs.Kept.{Numbers, headers_of, order_of, state_of, IsKept, HasParent, skip_height}
use Rattle.header_tree.specs.State.{State, hash_at, IsBefore}
use Rattle.chain_model.proofs.Chains.{height_is, ancestor_below, ancestor_way, ancestor_self, ancestor_past, chain_above, chain_none, whole_line}
use Rattle.header_tree.proofs.Keeping.{read_at, low, genesis_there, first_entry}
use Rattle.chain_model.proofs.Hashes.{absent}
use Rattle.chain_model.proofs.Forks.{Apart, apart_differ, apart_one, fork_step, fork_same, fork_low}

pub never : (xs : List Hash32) → find (λ hash. false) xs ≡ None
never [] = refl
never (x ∷ xs) = never xs

-- further down, and not below a height
pub record Further (s : State) (n m k : ℕ) : Type 0 where
  pub down : m < n
  pub low : k ≤ height s.tree.headers (hash_at s m)
  pub same : ancestor s.tree.headers (hash_at s m) k ≡ ancestor s.tree.headers (hash_at s n) k

-- two blocks of one height, both further down
pub record Both (s : State) (n m c d : ℕ) : Type 0 where
  pub left : c < n
  pub right : d < m
  pub level : height s.tree.headers (hash_at s c) ≡ height s.tree.headers (hash_at s d)
  pub fork : fork s.tree.headers (hash_at s c) (hash_at s d) ≡ fork s.tree.headers (hash_at s n) (hash_at s m)

-- the ancestors of two blocks at the height of the lower one
pub record Level (s : State) (n m c d k : ℕ) : Type 0 where
  pub left : height s.tree.headers (hash_at s c) ≡ k
  pub right : height s.tree.headers (hash_at s d) ≡ k
  pub fork : fork s.tree.headers (hash_at s c) (hash_at s d) ≡ fork s.tree.headers (hash_at s n) (hash_at s m)

module _ (entries : List Entry) (numbers : Numbers) (limit : ℕ) (rules : Rules) (kept : IsKept entries numbers limit rules) where
  abbrev pub named : ℕ → Hash32
  named n = get_or (order_of entries) n genesis_hash

  pub read : (n : ℕ) (x : Entry) → n < length (order_of entries) → x ≡ get_or entries n x → slice_get entries n ≡ Some x
  read n x less is = let size = length-map entries (λ (e : Entry). e.hash) in read_at entries numbers limit rules kept n x (omega arith) is

  pub hash_here : (n : ℕ) (x : Entry) → slice_get entries n ≡ Some x → named n ≡ x.hash
  hash_here n x at =
      get_or_from_slice_get (order_of entries) n x.hash genesis_hash
      (slice_get-map (λ (e : Entry). e.hash) entries n ∙ ap (λ (o : Option Entry). option_map (λ (e : Entry). e.hash) o) at)

  pub height_here : (n : ℕ) (x : Entry) → slice_get entries n ≡ Some x → height (headers_of entries) (named n) ≡ x.height
  height_here n x at =
      ap (height (headers_of entries)) (hash_here n x at)
      ∙ height_is (headers_of entries) x.height x.hash (kept.placed n x at).high (low entries numbers limit rules kept n x at)

  not_first : (h k : ℕ) (a : Hash32) → h ≡ suc k → IsAbove (headers_of entries) h a genesis_hash → a ≡ genesis_hash → ⊥
  not_first zero k a e s = absurd (omega arith)
  not_first (suc h) k a e (header, step, s) = step.later

  pub one_down : (n : ℕ) (x : Entry) → slice_get entries n ≡ Some x → (p : HasParent entries x) → IsAbove (headers_of entries) 1 x.hash p.parent.hash
  one_down n x at p =
      let placed = kept.placed n x at in
      (x.header, record { later = not_first x.height p.parent.height x.hash p.higher placed.high; found = placed.found }, sym p.named)

  further : (n m k steps : ℕ) (x y : Entry) → slice_get entries n ≡ Some x → slice_get entries m ≡ Some y → IsAbove (headers_of entries) steps x.hash y.hash → x.height ≡ steps + y.height → k ≤ y.height → m < n → Further (state_of entries limit rules) n m k
  further n m k steps x y at_x at_y way sum below less =
      let tall = height_here m y at_y in
      let bound = low entries numbers limit rules kept n x at_x in
      record {
        down = less;
        low = omega arith;
        same = ap (λ (h : Hash32). ancestor (headers_of entries) h k) (hash_here m y at_y)
            ∙ sym (ancestor_below (headers_of entries) steps y.height k x.hash y.hash way (kept.placed m y at_y).high (omega arith) below)
            ∙ ap (λ (h : Hash32). ancestor (headers_of entries) h k) (sym (hash_here n x at_x));
      }

  pub tall_here : (n k : ℕ) (x : Entry) → slice_get entries n ≡ Some x → k < height (headers_of entries) (named n) → k < x.height
  tall_here n k x at less = let tall = height_here n x at in omega arith

  pub to_parent : (n k : ℕ) (x : Entry) → slice_get entries n ≡ Some x → k < height (headers_of entries) (named n) → Further (state_of entries limit rules) n x.parent k
  to_parent n k x at less =
      let tall = tall_here n k x at less in
      let positive : 0 < x.height = omega arith in
      let placed = kept.placed n x at in
      let p = placed.parent positive in
      let higher = p.higher in
      further n x.parent k 1 x p.parent at p.there (one_down n x at p) (omega arith) (omega arith) (placed.earlier positive).0

  pub to_skip : (n k : ℕ) (x : Entry) → slice_get entries n ≡ Some x → k < height (headers_of entries) (named n) → k ≤ skip_height x.height → Further (state_of entries limit rules) n x.skip k
  to_skip n k x at less reaches =
      let tall = tall_here n k x at less in
      let positive : 0 < x.height = omega arith in
      let placed = kept.placed n x at in
      let s = placed.skip in
      further n x.skip k s.steps x s.target at s.there s.down s.heights (subst (λ (h : ℕ). k ≤ h) (sym s.lands) reaches) (placed.earlier positive).1

  -- two numbers have two hashes
  pub hashes_differ : (n m : ℕ) (x y : Entry) → slice_get entries n ≡ Some x → slice_get entries m ≡ Some y → (n ≡ m → ⊥) → x.hash ≡ y.hash → ⊥
  hashes_differ n m x y at_x at_y differ same =
      differ (same_Some n m (sym (kept.placed n x at_x).numbered ∙ ap (get numbers) same ∙ (kept.placed m y at_y).numbered))

  both_first : (h k : ℕ) (a b : Hash32) → h ≡ k → IsAbove (headers_of entries) h a genesis_hash → IsAbove (headers_of entries) k b genesis_hash → (a ≡ b → ⊥) → 0 < h
  both_first zero zero a b e s t differ = absurd (differ (s ∙ sym t))
  both_first zero (suc k) a b e s t differ = absurd (omega arith)
  both_first (suc h) k a b e s t differ = omega arith

  names : (f : Hash32 → Hash32 → Option Hash32) (n m : ℕ) (x y : Entry) → slice_get entries n ≡ Some x → slice_get entries m ≡ Some y → f (named n) (named m) ≡ f x.hash y.hash
  names f n m x y at_x at_y = ap (λ (h : Hash32). f h (named m)) (hash_here n x at_x) ∙ ap (f x.hash) (hash_here m y at_y)

  both : (n m c d steps : ℕ) (x y u v : Entry) → slice_get entries n ≡ Some x → slice_get entries m ≡ Some y → slice_get entries c ≡ Some u → slice_get entries d ≡ Some v → x.height ≡ y.height → u.height ≡ v.height → x.height ≡ steps + u.height → IsAbove (headers_of entries) steps x.hash u.hash → IsAbove (headers_of entries) steps y.hash v.hash → Apart (headers_of entries) steps x.hash x.height y.hash → c < n → d < m → Both (state_of entries limit rules) n m c d
  both n m c d steps x y u v at_x at_y at_u at_v even even_down sum to_u to_v apart less_c less_d =
      let high_y = subst (λ (h : ℕ). IsAbove (headers_of entries) h y.hash genesis_hash) (sym even) (kept.placed m y at_y).high in
      let high_v = subst (λ (h : ℕ). IsAbove (headers_of entries) h v.hash genesis_hash) (sym even_down) (kept.placed d v at_v).high in
      record {
        left = less_c;
        right = less_d;
        level = height_here c u at_u ∙ even_down ∙ sym (height_here d v at_v);
        fork = names (fork (headers_of entries)) c d u v at_u at_v
            ∙ fork_step (headers_of entries) steps u.height x.height x.hash y.hash u.hash v.hash sum (low entries numbers limit rules kept n x at_x) (kept.placed n x at_x).high high_y (kept.placed c u at_u).high high_v to_u to_v apart
            ∙ sym (names (fork (headers_of entries)) n m x y at_x at_y);
      }

  even_here : (n m : ℕ) (x y : Entry) → slice_get entries n ≡ Some x → slice_get entries m ≡ Some y → height (headers_of entries) (named n) ≡ height (headers_of entries) (named m) → x.height ≡ y.height
  even_here n m x y at_x at_y level = sym (height_here n x at_x) ∙ level ∙ height_here m y at_y

  pub both_skips : (n m : ℕ) (x y : Entry) → slice_get entries n ≡ Some x → slice_get entries m ≡ Some y → height (headers_of entries) (named n) ≡ height (headers_of entries) (named m) → (n ≡ m → ⊥) → (x.skip ≡ y.skip → ⊥) → Both (state_of entries limit rules) n m x.skip y.skip
  both_skips n m x y at_x at_y level differ apart =
      let even = even_here n m x y at_x at_y level in
      let px = kept.placed n x at_x in
      let py = kept.placed m y at_y in
      let positive = both_first x.height y.height x.hash y.hash even px.high py.high (hashes_differ n m x y at_x at_y differ) in
      let positive_y : 0 < y.height = omega arith in
      let s = px.skip in
      let t = py.skip in
      let even_down = s.lands ∙ ap skip_height even ∙ sym t.lands in
      let sum_x = s.heights in
      let sum_y = t.heights in
      let same_steps : t.steps ≡ s.steps = omega arith in
      let to_v = subst (λ (k : ℕ). IsAbove (headers_of entries) k y.hash t.target.hash) same_steps t.down in
      let high_y = subst (λ (h : ℕ). IsAbove (headers_of entries) h y.hash genesis_hash) (sym even) py.high in
      both n m x.skip y.skip s.steps x y s.target t.target at_x at_y s.there t.there even even_down sum_x s.down to_v
      (apart_differ (headers_of entries) s.steps x.height x.hash y.hash s.target.hash t.target.hash (omega arith) px.high high_y s.down to_v (hashes_differ x.skip y.skip s.target t.target s.there t.there apart))
      (px.earlier positive).1 (py.earlier positive_y).1

  pub both_parents : (n m : ℕ) (x y : Entry) → slice_get entries n ≡ Some x → slice_get entries m ≡ Some y → height (headers_of entries) (named n) ≡ height (headers_of entries) (named m) → (n ≡ m → ⊥) → Both (state_of entries limit rules) n m x.parent y.parent
  both_parents n m x y at_x at_y level differ =
      let even = even_here n m x y at_x at_y level in
      let px = kept.placed n x at_x in
      let py = kept.placed m y at_y in
      let positive = both_first x.height y.height x.hash y.hash even px.high py.high (hashes_differ n m x y at_x at_y differ) in
      let positive_y : 0 < y.height = omega arith in
      let p = px.parent positive in
      let q = py.parent positive_y in
      let higher_p = p.higher in
      let higher_q = q.higher in
      let high_y = subst (λ (h : ℕ). IsAbove (headers_of entries) h y.hash genesis_hash) (sym even) py.high in
      both n m x.parent y.parent 1 x y p.parent q.parent at_x at_y p.there q.there even (omega arith) (omega arith) (one_down n x at_x p) (one_down m y at_y q)
      (apart_one (headers_of entries) x.height x.hash y.hash px.high high_y (hashes_differ n m x y at_x at_y differ))
      (px.earlier positive).0 (py.earlier positive_y).0

  -- ---- one entry

  pub any_entry : (n : ℕ) → n < length (order_of entries) → (x : Entry) × (slice_get entries n ≡ Some x)
  any_entry n less = let size = length-map entries (λ (e : Entry). e.hash) in (get_or entries n (first_entry genesis_hash), slice_get-get_or entries n (first_entry genesis_hash) (omega arith))

  self_here : (n : ℕ) → n < length (order_of entries) → ancestor (headers_of entries) (named n) (height (headers_of entries) (named n)) ≡ Some (named n)
  self_here n less =
      let x = any_entry n less in
      let placed = kept.placed n x.0 x.1 in
      let bound = low entries numbers limit rules kept n x.0 x.1 in
      subst (λ (h : Hash32). ancestor (headers_of entries) h (height (headers_of entries) h) ≡ Some h) (sym (hash_here n x.0 x.1))
      (ap (λ (k : ℕ). ancestor (headers_of entries) x.0.hash k) (height_is (headers_of entries) x.0.height x.0.hash placed.high bound)
      ∙ ancestor_self (headers_of entries) x.0.height x.0.hash placed.high bound)

  fork_here : (n : ℕ) → n < length (order_of entries) → fork (headers_of entries) (named n) (named n) ≡ Some (named n)
  fork_here n less =
      let x = any_entry n less in
      let placed = kept.placed n x.0 x.1 in
      subst (λ (h : Hash32). fork (headers_of entries) h h ≡ Some h) (sym (hash_here n x.0 x.1))
      (fork_same (headers_of entries) x.0.height x.0.hash placed.high (low entries numbers limit rules kept n x.0 x.1))

  past_here : (n k : ℕ) → n < length (order_of entries) → height (headers_of entries) (named n) < k → ancestor (headers_of entries) (named n) k ≡ None
  past_here n k less above =
      let x = any_entry n less in
      let placed = kept.placed n x.0 x.1 in
      let tall = height_here n x.0 x.1 in
      ap (λ (h : Hash32). ancestor (headers_of entries) h k) (hash_here n x.0 x.1)
      ∙ ancestor_past (headers_of entries) x.0.height k x.0.hash placed.high (low entries numbers limit rules kept n x.0 x.1) (omega arith)

  stranger : (hash : Hash32) → contains_key (headers_of entries) hash ≡ false → chain (headers_of entries) hash ≡ []
  stranger hash none =
      let missing = absent (get (headers_of entries) hash) none in
      let genesis = genesis_there entries numbers limit rules kept (first_entry genesis_hash) in
      chain_none (headers_of entries) hash (λ is. none-some genesis.0 (sym missing ∙ ap (get (headers_of entries)) is ∙ genesis.1)) missing

  -- the way from a block to its ancestor
  pub way_here : (n m k : ℕ) → n < length (order_of entries) → m < length (order_of entries) → k ≤ height (headers_of entries) (named n) → Some (named m) ≡ ancestor (headers_of entries) (named n) k → IsAbove (headers_of entries) (height (headers_of entries) (named n) - k) (named n) (named m) × IsAbove (headers_of entries) k (named m) genesis_hash
  way_here n m k less less_m below is =
      let x = any_entry n less in
      let placed = kept.placed n x.0 x.1 in
      let tall = height_here n x.0 x.1 in
      let bound = low entries numbers limit rules kept n x.0 x.1 in
      let high = subst (λ (i : ℕ). IsAbove (headers_of entries) i (named n) genesis_hash) (sym tall) (subst (λ (h : Hash32). IsAbove (headers_of entries) x.0.height h genesis_hash) (sym (hash_here n x.0 x.1)) placed.high) in
      ancestor_way (headers_of entries) (height (headers_of entries) (named n)) k (named n) (named m) high (omega arith) below (sym is)

  high_here : (n : ℕ) → n < length (order_of entries) → IsAbove (headers_of entries) (height (headers_of entries) (named n)) (named n) genesis_hash × (height (headers_of entries) (named n) < finite.len (headers_of entries))
  high_here n less =
      let x = any_entry n less in
      let placed = kept.placed n x.0 x.1 in
      let tall = height_here n x.0 x.1 in
      let bound = low entries numbers limit rules kept n x.0 x.1 in
      (subst (λ (i : ℕ). IsAbove (headers_of entries) i (named n) genesis_hash) (sym tall) (subst (λ (h : Hash32). IsAbove (headers_of entries) x.0.height h genesis_hash) (sym (hash_here n x.0 x.1)) placed.high), omega arith)

  pub level_here : (n m c d k : ℕ) → n < length (order_of entries) → m < length (order_of entries) → c < length (order_of entries) → d < length (order_of entries) → k ≡ min (height (headers_of entries) (named n)) (height (headers_of entries) (named m)) → Some (named c) ≡ ancestor (headers_of entries) (named n) k → Some (named d) ≡ ancestor (headers_of entries) (named m) k → Level (state_of entries limit rules) n m c d k
  level_here n m c d k less_n less_m less_c less_d lower to_c to_d =
      let high_n = high_here n less_n in
      let high_m = high_here m less_m in
      let bound_n = high_n.1 in
      let bound_m = high_m.1 in
      let way_c = way_here n c k less_n less_c (omega arith) to_c in
      let way_d = way_here m d k less_m less_d (omega arith) to_d in
      record {
        left = height_is (headers_of entries) k (named c) way_c.1 (omega arith);
        right = height_is (headers_of entries) k (named d) way_d.1 (omega arith);
        fork = fork_low (headers_of entries) (height (headers_of entries) (named n)) (height (headers_of entries) (named m)) k (named n) (named m) (named c) (named d)
            (omega arith) (omega arith) (λ i less. omega arith) bound_n bound_m high_n.0 high_m.0 way_c.1 way_d.1 way_c.0 way_d.0;
      }

  -- ---- chains and times

  first_chain : (h : ℕ) (a : Hash32) → h ≡ 0 → h < finite.len (headers_of entries) → IsAbove (headers_of entries) h a genesis_hash → chain (headers_of entries) a ≡ a ∷ []
  first_chain zero a e less s = whole_line (headers_of entries) zero (finite.len (headers_of entries)) a s less ∙ ap (λ (h : Hash32). h ∷ []) (sym s)
  first_chain (suc h) a e less s = absurd (omega arith)

  ends_here : (n : ℕ) (x : Entry) → slice_get entries n ≡ Some x → x.height ≡ 0 → chain (headers_of entries) (named n) ≡ named n ∷ []
  ends_here n x at flat =
      let placed = kept.placed n x at in
      subst (λ (h : Hash32). chain (headers_of entries) h ≡ h ∷ []) (sym (hash_here n x at))
      (first_chain x.height x.hash flat (low entries numbers limit rules kept n x at) placed.high)

  goes_on : (n : ℕ) (x : Entry) → slice_get entries n ≡ Some x → 0 < x.height → (x.parent < length (order_of entries)) × (chain (headers_of entries) (named n) ≡ named n ∷ chain (headers_of entries) (named x.parent))
  goes_on n x at positive =
      let placed = kept.placed n x at in
      let p = placed.parent positive in
      let higher = p.higher in
      let bound = low entries numbers limit rules kept n x at in
      let way = one_down n x at p in
      let size = length-map entries (λ (e : Entry). e.hash) in
      let less = slice_get_within entries x.parent p.parent p.there in (
        omega arith,
        ap (chain (headers_of entries)) (hash_here n x at)
            ∙ chain_above (headers_of entries) 1 p.parent.height x.hash p.parent.hash way (kept.placed x.parent p.parent p.there).high (omega arith)
            ∙ ap (λ (h : Hash32). h ∷ chain (headers_of entries) p.parent.hash) (sym (hash_here n x at))
            ∙ ap (λ (h : Hash32). named n ∷ chain (headers_of entries) h) (sym (hash_here x.parent p.parent p.there)),
      )

  time_here : (n : ℕ) (x : Entry) → slice_get entries n ≡ Some x → x.header.time ≡ time (headers_of entries) (named n)
  time_here n x at =
      sym (ap (time (headers_of entries)) (hash_here n x at) ∙ ap (λ (o : Option Header). option_map_or (λ header. header.time) o 0) (kept.placed n x at).found)

  -- ---- the same of what callers see

  module _ (s : State) (is : state_of entries limit rules ≡ s) where
    pub reads : (n : ℕ) (x : Entry) → n < length s.order → x ≡ get_or entries n x → slice_get entries n ≡ Some x
    reads n x less value = read n x (subst (λ (t : State). n < length t.order) (sym is) less) value

    pub sees_height : (n : ℕ) (x : Entry) → slice_get entries n ≡ Some x → x.height ≡ height s.tree.headers (hash_at s n)
    sees_height n x at = subst (λ (t : State). x.height ≡ height t.tree.headers (hash_at t n)) is (sym (height_here n x at))

    pub sees_tall : (n k : ℕ) (x : Entry) → slice_get entries n ≡ Some x → k < height s.tree.headers (hash_at s n) → k < x.height
    sees_tall n k x at less = let tall = sees_height n x at in omega arith

    pub sees_parent : (n k : ℕ) (x : Entry) → slice_get entries n ≡ Some x → k < height s.tree.headers (hash_at s n) → Further s n x.parent k
    sees_parent n k x at = subst (λ (t : State). k < height t.tree.headers (hash_at t n) → Further t n x.parent k) is (to_parent n k x at)

    pub sees_skip : (n k : ℕ) (x : Entry) → slice_get entries n ≡ Some x → k < height s.tree.headers (hash_at s n) → k ≤ skip_height x.height → Further s n x.skip k
    sees_skip n k x at = subst (λ (t : State). k < height t.tree.headers (hash_at t n) → k ≤ skip_height x.height → Further t n x.skip k) is (to_skip n k x at)

    pub sees_both_skips : (n m : ℕ) (x y : Entry) → slice_get entries n ≡ Some x → slice_get entries m ≡ Some y → height s.tree.headers (hash_at s n) ≡ height s.tree.headers (hash_at s m) → (n ≡ m → ⊥) → (x.skip ≡ y.skip → ⊥) → Both s n m x.skip y.skip
    sees_both_skips n m x y at_x at_y = subst (λ (t : State). height t.tree.headers (hash_at t n) ≡ height t.tree.headers (hash_at t m) → (n ≡ m → ⊥) → (x.skip ≡ y.skip → ⊥) → Both t n m x.skip y.skip) is (both_skips n m x y at_x at_y)

    pub sees_both_parents : (n m : ℕ) (x y : Entry) → slice_get entries n ≡ Some x → slice_get entries m ≡ Some y → height s.tree.headers (hash_at s n) ≡ height s.tree.headers (hash_at s m) → (n ≡ m → ⊥) → Both s n m x.parent y.parent
    sees_both_parents n m x y at_x at_y = subst (λ (t : State). height t.tree.headers (hash_at t n) ≡ height t.tree.headers (hash_at t m) → (n ≡ m → ⊥) → Both t n m x.parent y.parent) is (both_parents n m x y at_x at_y)

    pub sees_self : (n : ℕ) → n < length s.order → ancestor s.tree.headers (hash_at s n) (height s.tree.headers (hash_at s n)) ≡ Some (hash_at s n)
    sees_self n = subst (λ (t : State). n < length t.order → ancestor t.tree.headers (hash_at t n) (height t.tree.headers (hash_at t n)) ≡ Some (hash_at t n)) is (self_here n)

    pub sees_fork : (n : ℕ) → n < length s.order → fork s.tree.headers (hash_at s n) (hash_at s n) ≡ Some (hash_at s n)
    sees_fork n = subst (λ (t : State). n < length t.order → fork t.tree.headers (hash_at t n) (hash_at t n) ≡ Some (hash_at t n)) is (fork_here n)

    pub sees_past : (n k : ℕ) → n < length s.order → height s.tree.headers (hash_at s n) < k → ancestor s.tree.headers (hash_at s n) k ≡ None
    sees_past n k = subst (λ (t : State). n < length t.order → height t.tree.headers (hash_at t n) < k → ancestor t.tree.headers (hash_at t n) k ≡ None) is (past_here n k)

    pub sees_stranger : (hash : Hash32) → contains_key s.tree.headers hash ≡ false → chain s.tree.headers hash ≡ []
    sees_stranger hash = subst (λ (t : State). contains_key t.tree.headers hash ≡ false → chain t.tree.headers hash ≡ []) is (stranger hash)

    pub sees_end : (n : ℕ) (x : Entry) → slice_get entries n ≡ Some x → x.height ≡ 0 → IsBefore s n None
    sees_end n x at flat = subst (λ (t : State). IsBefore t n None) is (ends_here n x at flat)

    pub sees_before : (n : ℕ) (x : Entry) → slice_get entries n ≡ Some x → 0 < x.height → IsBefore s n (Some x.parent)
    sees_before n x at positive = subst (λ (t : State). IsBefore t n (Some x.parent)) is (goes_on n x at positive)

    pub sees_time : (n : ℕ) (x : Entry) → slice_get entries n ≡ Some x → x.header.time ≡ time s.tree.headers (hash_at s n)
    sees_time n x at = subst (λ (t : State). x.header.time ≡ time t.tree.headers (hash_at t n)) is (time_here n x at)

    pub sees_level : (n m c d k : ℕ) → n < length s.order → m < length s.order → c < length s.order → d < length s.order → k ≡ min (height s.tree.headers (hash_at s n)) (height s.tree.headers (hash_at s m)) → Some (hash_at s c) ≡ ancestor s.tree.headers (hash_at s n) k → Some (hash_at s d) ≡ ancestor s.tree.headers (hash_at s m) k → Level s n m c d k
    sees_level n m c d k = subst (λ (s : State). n < length s.order → m < length s.order → c < length s.order → d < length s.order → k ≡ min (height s.tree.headers (hash_at s n)) (height s.tree.headers (hash_at s m)) → Some (hash_at s c) ≡ ancestor s.tree.headers (hash_at s n) k → Some (hash_at s d) ≡ ancestor s.tree.headers (hash_at s m) k → Level s n m c d k) is (level_here n m c d k)
